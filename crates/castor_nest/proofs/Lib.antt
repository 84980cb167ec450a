pub mod ScopeColumnLaws
pub mod ScopeRowLaws
pub mod StoreLaws
