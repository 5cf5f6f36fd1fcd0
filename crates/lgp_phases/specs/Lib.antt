pub mod Decoded
pub mod Processor
pub mod Progress
pub use Rattle.lgp_table.specs.State
pub use Rattle.lgp_table.specs.Activity
