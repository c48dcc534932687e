pub mod Rulers
pub mod Told
