pub mod FileCalls
pub mod Paths
