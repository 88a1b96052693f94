-- What a picture of a run shows: the rows of its events, and what holds at each device.
pub mod Rows
pub mod Effects
pub mod Marks
