pub mod Scopes
pub mod Checks
pub mod Shown
pub mod Signs
pub mod Scenes
pub mod Parameters
