-- The theorems about document 01's definitions, in rooms.
pub mod laws
pub mod queues
pub mod history
pub mod groups
pub mod patterns
pub mod bound
pub mod runs
pub mod added
pub mod shown
pub mod pins
