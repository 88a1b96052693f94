-- Objects of any names, read one member after another; how many there are; places of faults; and which texts spell accesses.
pub mod Counts
pub mod Each
pub mod Order
pub mod Spelled
