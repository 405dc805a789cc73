pub mod Trial
pub mod Examples
