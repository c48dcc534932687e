pub mod Handlers
pub mod Reading
pub mod Typing
pub mod Asking
