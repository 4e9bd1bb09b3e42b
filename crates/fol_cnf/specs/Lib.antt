pub mod Scopes
pub mod Walks
pub mod Meetings
pub mod Clausified
pub mod inner
