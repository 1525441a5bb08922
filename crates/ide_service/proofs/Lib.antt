pub mod Loops
pub mod Counted
pub mod Served
pub mod Published
pub mod Clients
pub mod Holds
