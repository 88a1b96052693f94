-- Graphs, what is reached in them, their orders, and values along them.
pub mod Graph
pub mod Search
pub mod Order
pub mod Value
pub mod ValueLaws
