pub mod When
pub mod Meeting
pub mod Until
pub mod WhenInside
pub use Rattle.lgp_debugger.specs.Run
pub use Rattle.lgp_table.specs.After
