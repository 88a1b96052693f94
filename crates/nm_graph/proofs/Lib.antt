pub mod Leading
pub mod Finding
pub mod Reaching
pub mod Orders
pub mod Acyclic
pub mod Valuing
