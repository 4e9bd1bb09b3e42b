mod Lists
mod Killing
mod Ends
mod Grown
mod Moving
mod Launching
mod Settling
mod Expiring
mod Beginning
mod Owned
mod Seen
mod Finishing
pub mod Followed
