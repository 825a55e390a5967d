pub mod Laws
pub mod PathLaws
pub mod PutLaws
pub mod ChannelLaws
