-- Marks and what YANG contents mean, in `Mark` and `Meaning`; the rest shows that they keep the laws of contents.
pub mod Mark
pub mod Meaning
pub mod MarkLaws
pub mod PlaceLaws
pub mod StandLaws
pub mod EditLaws
pub mod Laws
