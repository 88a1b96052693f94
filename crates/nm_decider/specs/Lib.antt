-- The course of a change set; `Rightly` has that what comes next is right, `Moves` whole courses.
pub mod Told
pub mod Course
pub mod Rightly
pub mod Moves
