pub mod Optimum
pub mod OptimumKept
pub mod TurnsInside
pub mod UsesInside
pub mod OptimumInside
pub mod Gains
pub mod OptimumLines
pub use Rattle.lgp_table.specs.State
