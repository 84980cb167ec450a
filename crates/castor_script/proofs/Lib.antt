pub mod ArmLaws
pub mod FinishClauses
pub mod FinishLaws
mod KnownKeyLaws
pub mod MadeLaws
mod MovedColumnLaws
mod MovedKeyLaws
mod MovingLaws
pub mod OperandLaws
mod SortedRowLaws
pub mod WaitLaws
