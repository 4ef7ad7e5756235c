pub mod Reached
pub mod Ends
pub mod Rests
pub mod Promises
pub mod Called
pub mod Going
pub mod Worked
