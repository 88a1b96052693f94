pub mod AllThere
pub mod Down
pub mod Repeated
pub mod Apart
