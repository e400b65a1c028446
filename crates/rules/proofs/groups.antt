-- With one group all is as it was before there were groups.
pub mod OneGroup
