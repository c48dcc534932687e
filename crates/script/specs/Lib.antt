pub mod Played
pub mod Scripts
