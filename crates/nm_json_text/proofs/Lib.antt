pub mod Calls
pub mod Behind
pub mod Groups
pub mod Lists
pub mod Passed
pub mod Whole
pub mod Sorted
