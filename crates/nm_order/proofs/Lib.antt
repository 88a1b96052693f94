mod Once
mod Heads
mod Finished
