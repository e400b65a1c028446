-- Small laws that every room uses.
pub mod TestLaws
pub mod Numbers
pub mod Below
pub mod Ranges
pub mod DataKinds
