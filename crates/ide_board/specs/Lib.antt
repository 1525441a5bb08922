pub mod Records
pub mod Roles
pub mod Rule
pub mod Steps
