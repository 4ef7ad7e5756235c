pub mod Following
pub mod Laws
pub mod Ends
pub mod Cursors
pub mod View
pub mod Followers
