pub mod Look
pub mod Answers
pub mod Marks
pub use Rattle.lgp_table.specs.State
pub use Rattle.lgp_table.specs.Activity
pub use Rattle.lgp_table.specs.Console
pub use Rattle.lgp_table.specs.Interleaving
