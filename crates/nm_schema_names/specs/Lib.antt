-- Names that come twice, in `Clash`; the rest is what is known of them while they are looked for.
pub mod Clash
pub mod Sharing
pub mod Clashes
-- Names in modules: which row a name leads to, and what is wrong with it.
pub mod Named
pub mod Table
pub mod Modules
pub mod Leads
pub mod Standing
pub mod Flaw
pub mod Graph
