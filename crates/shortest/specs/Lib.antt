pub mod Shortest
pub mod Answer
pub mod Search
pub mod Lifting
