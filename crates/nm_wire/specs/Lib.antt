-- Links: what is asked, one link, all links to a device, and what stays of them.
pub mod Asks
pub mod Link
pub mod Words
pub mod Wire
pub mod Kept
