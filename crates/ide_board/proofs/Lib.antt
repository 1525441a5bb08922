pub mod Beginnings
pub mod Pairs
pub mod Ledgers
pub mod Changes
pub mod Tables
pub mod Writers
pub mod Clients
pub mod Seating
