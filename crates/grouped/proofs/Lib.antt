-- How the tests of a group, asked of each, are the tests over all.
pub mod Grouped
