pub mod Styles
