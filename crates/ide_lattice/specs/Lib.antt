pub mod Algebra
pub mod Laws
pub mod Meets
pub mod Order
