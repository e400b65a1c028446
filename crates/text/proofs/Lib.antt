-- What is shown of texts.
pub mod Digits
pub mod WorkedDigits
pub mod Putting
