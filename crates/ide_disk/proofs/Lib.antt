pub mod Leaves
pub mod Next
