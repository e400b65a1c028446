-- What is shown of the listing's lines.
pub mod Long
