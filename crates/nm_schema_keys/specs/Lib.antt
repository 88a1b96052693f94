-- Keys in `Keys` and unique statements in `Uniques`; before them how names lead to members of a row.
pub mod ConfigUse
pub mod Words
pub mod Found
pub mod Membership
pub mod Kept
pub mod Said
pub mod Keys
pub mod Leafs
pub mod Uniques
