pub mod MatchLemmas
pub mod RefusalLemmas
