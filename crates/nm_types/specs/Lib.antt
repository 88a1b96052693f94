-- Values, paths and types, then what is of a type, how values are read and written, and what each text spells.
pub mod Value
pub mod ValueLaws
pub mod Path
pub mod Chosen
pub mod PathLaws
pub mod Names
pub mod Parts
pub mod LeafType
pub mod TypeKind
pub mod Limits
pub mod Reading
pub mod Canonical
pub mod Spells
