pub mod Words
pub mod Numbers
pub mod Grammar
pub mod Arguments
pub mod Replies
pub mod Stream
pub mod Feed
pub mod Laws
