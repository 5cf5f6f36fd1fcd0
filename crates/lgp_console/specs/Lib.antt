pub use Rattle.lgp_table.specs.Console
pub use Rattle.lgp_flexo.specs.Tape
