-- Each transaction ends within its bound.
pub mod Groups
pub mod Recent
pub mod GoneActs
pub mod Due
pub mod Phase
pub mod Ready
pub mod EachWay
pub mod Steps
pub mod RefNext
pub mod Finishes
pub mod Progress
pub mod InBound
pub mod Served
pub mod Limit
