pub mod MovedClocks
pub mod Shares
pub mod TurnsLemmas
pub mod UsesLemmas
pub mod OptimumLemmas
pub mod GainLemmas
pub mod RankingLaw
pub mod AllMoved
