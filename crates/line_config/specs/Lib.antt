pub mod Adapters
pub mod DeviceCalls
pub mod Config
pub mod Feed
pub mod Foretold
pub mod Parts
pub mod Refusals
pub mod Sending
