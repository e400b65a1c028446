pub mod Pattern
pub mod Only
pub mod Shows
