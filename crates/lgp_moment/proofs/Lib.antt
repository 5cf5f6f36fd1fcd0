pub mod MomentLemmas
pub mod MomentLaws
pub mod SearchLemmas
