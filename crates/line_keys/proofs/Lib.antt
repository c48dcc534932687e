pub mod Asking
pub mod Beginnings
pub mod Equality
pub mod Following
pub mod KeyReads
pub mod Normal
pub mod Places
mod Played
pub mod QuotedKeys
pub mod Remembering
pub mod RowActions
pub mod SameEventsLemmas
pub mod Settling
pub mod Steps
pub mod Turns
mod ViRows
