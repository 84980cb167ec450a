pub mod CellLaws
mod DecimalLaws
pub mod FaultLaws
pub mod FieldLaws
pub mod FitLaws
pub mod OrderLaws
