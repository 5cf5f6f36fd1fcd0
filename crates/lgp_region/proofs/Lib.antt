pub mod BlockValue
pub mod RoomLemmas
pub mod StepLemmas
pub mod TakenBlock
pub mod UnitLemmas
