-- What one action makes of a tree.
pub mod Accepted
pub mod Acting
pub mod Answering
pub mod Entering
pub mod Growing
pub mod KindList
pub mod Proper
pub mod Steps
