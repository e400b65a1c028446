pub mod Backed
pub mod SoundKept
