pub mod Threads
pub mod Strategies
pub mod Turns
pub mod Seeds
pub mod Members
pub mod Rounds
pub mod Picks
