-- What a type is built of, piece by piece; `Step` and `Restricted` have the steps of a derivation.
pub mod BuiltIn
pub mod Form
pub mod Blank
pub mod Bound
pub mod Cover
pub mod Parts
pub mod Members
pub mod Order
pub mod Built
pub mod Shape
pub mod Step
pub mod Kinds
pub mod Restricted
pub mod Nearest
