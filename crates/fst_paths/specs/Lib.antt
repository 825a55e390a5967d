pub mod Paths
pub mod ChannelLists
