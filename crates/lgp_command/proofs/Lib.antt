pub mod Words
pub mod Decimals
pub mod CommandLines
pub mod Buttons
