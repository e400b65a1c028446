-- The state sums up the history, and the judge by state is the judge by history.
pub mod Newest
pub mod BankRules
pub mod Link
pub mod Judged
pub mod Legal
pub mod JudgeState
pub mod Unnumbered
pub mod Exact
