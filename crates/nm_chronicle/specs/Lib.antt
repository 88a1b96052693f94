-- The board: one change set's line, all of them, and what each thread called.
pub mod Line
pub mod Board
pub mod Shares
-- How far each change set has come at a device, and what its coordinator may ask there.
pub mod Phases
pub mod Turn
