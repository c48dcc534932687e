pub mod CallLemmas
pub mod PathLemmas
pub mod ReplayLemmas
