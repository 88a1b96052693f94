pub mod Tokens
pub mod Steps
pub mod Courses
pub mod Books
