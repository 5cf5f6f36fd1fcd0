pub mod DrumInside
