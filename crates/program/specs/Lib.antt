pub mod Form
pub mod Refusals
pub mod Rooms
pub mod Chain
pub mod Reading
pub mod Encoding
pub mod Programs
