-- Types: how each restricts another, what it means along its typedefs, and its flaws.
pub mod Leafref
pub mod Restricting
pub mod TypeGraph
pub mod Meaning
pub mod Along
pub mod Kinds
pub mod Cycle
pub mod Flaws
pub mod Listing
pub mod TypeFlaw
pub mod Defaults
