pub mod Map
pub mod Words
pub mod Machine
pub mod Rules
pub mod Says
pub mod View
pub mod Actions
pub mod Proper
