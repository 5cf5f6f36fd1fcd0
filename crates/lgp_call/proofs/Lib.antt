pub mod GivenLemmas
pub mod SessionLaws
