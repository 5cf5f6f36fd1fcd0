pub mod EscapedLemmas
pub mod PartLemmas
pub mod ReadBackLaws
pub mod PieceLemmas
