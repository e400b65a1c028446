-- The data pins.
pub mod Bursts
pub mod Pins
pub mod PinShare
