-- What nodes are and in which cases they stand, the marker module, what is so in a tree, and all as one in `Built`.
pub mod Kind
pub mod Choices
pub mod Node
pub mod Marker
pub mod Whole
pub mod FactsOf
pub mod Faultless
pub mod Built
