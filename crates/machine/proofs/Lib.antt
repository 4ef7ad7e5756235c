pub mod Maps
pub mod Decides
pub mod Programs
pub mod Views
pub mod Laws
pub mod Starts
pub mod Stepped
pub mod Totals
