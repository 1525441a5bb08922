pub mod Alike
pub mod CellNumbers
pub mod Pages
pub mod Rows
