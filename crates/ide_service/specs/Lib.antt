pub mod Clients
pub mod Holds
pub mod Parts
pub mod Refusing
pub mod Served
pub mod Spans
pub mod Storing
