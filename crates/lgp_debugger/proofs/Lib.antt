pub mod HitLemmas
pub mod WatchLemmas
pub mod PerformedLemmas
pub mod RunLemmas
pub mod WatchedLemmas
pub mod ClockLemmas
