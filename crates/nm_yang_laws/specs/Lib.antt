-- The order of bits by their positions, which the laws on texts speak of.
pub mod Rising
-- What each fault of a module's text says of the text.
pub mod Faults
