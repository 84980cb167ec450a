pub mod Binders
pub mod Finish
pub mod InOrder
pub mod Kept
pub mod KnownKeys
pub mod Made
pub mod Settled
