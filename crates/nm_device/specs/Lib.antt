-- A device as a plain value, what each request, loss, rise of the clock and restart makes of it, and what is told of it.
pub mod Device
pub mod Commit
pub mod Undoing
pub mod Cancel
pub mod Part
pub mod Table
pub mod View
