pub mod ByteLaws
pub mod DigitLaws
pub mod FieldLaws
pub mod RangeLaws
