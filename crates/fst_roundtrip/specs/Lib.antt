pub mod ReadBack
pub mod Unplaced
pub mod ReadAgain
pub mod ReadQuestion
