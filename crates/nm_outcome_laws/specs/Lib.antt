pub mod Aborts
pub mod AbortsSupport
pub mod Causes
pub mod Lapses
pub mod LapsesSupport
pub mod Records
pub mod RecordsSupport
pub mod Settled
