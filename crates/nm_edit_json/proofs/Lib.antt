pub mod Told
pub mod Gathering
pub mod Noting
pub mod Edits
pub mod Marks
pub mod Mapped
pub mod Least
