pub mod Pieces
pub mod PanelWords
pub mod NamedValues
