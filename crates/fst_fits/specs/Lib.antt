pub mod Tests
pub mod ArmTests
pub mod Fits
