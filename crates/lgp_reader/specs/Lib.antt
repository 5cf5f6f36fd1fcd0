pub use Rattle.lgp_flexo.specs.Tape
