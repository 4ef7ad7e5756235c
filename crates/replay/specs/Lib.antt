pub mod Refusals
pub mod Calls
pub mod Replays
pub mod Promise
pub mod Worked
