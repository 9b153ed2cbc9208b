pub mod Bounds
pub mod FeedLaws
pub mod PollLaws
