pub mod ScopeColumns
pub mod Store
