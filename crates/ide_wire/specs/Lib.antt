pub mod Form
pub mod Key
pub mod KeyNumber
pub mod KeyOrder
pub mod Listing
pub mod Numbers
