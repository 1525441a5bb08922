pub mod Asked
pub mod Carry
pub mod CarryForm
pub mod CarryLaws
pub mod Inputs
pub mod InputsLaws
pub mod Origin
pub mod OriginLaws
