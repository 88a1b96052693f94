-- Drawings: the tones of their shapes, and their text as SVG.
pub mod Tone
pub mod Xml
pub mod Class
pub mod Style
pub mod Svg
pub mod Spelt
