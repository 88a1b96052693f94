-- Which paths there are and how they are spelled, then how a text is read and written.
pub mod Spelling
pub mod Form
pub mod Written
pub mod Sound
pub mod Reading
pub mod Fault
