-- The two queues: where a transaction's commands stand, their heads, and how many have gone.
pub mod Queue
pub mod Fit
pub mod Heads
pub mod Front
pub mod Counts
