pub mod BufferLemmas
pub mod FeedLemmas
pub mod ForetoldLemmas
pub mod KnownLemmas
pub mod Lent
pub mod NotesLemmas
pub mod Taking
pub mod TryLemmas
