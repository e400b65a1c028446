pub mod Earlier
pub mod Next
