-- What is promised of the definitions: the schedule built, demands 2 and 3, that it ends, the worked examples.
pub mod Built
pub mod Promises
pub mod Demands
pub mod Ends
pub mod Worked
