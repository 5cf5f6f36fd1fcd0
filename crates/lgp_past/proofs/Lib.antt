pub mod Orders
pub mod PastLemmas
pub mod Refusals
pub mod Runs
