pub mod Pending
pub mod Replies
pub mod Sessions
pub mod States
pub mod Acts
pub mod Laws
pub mod Serving
