pub mod Typed
pub mod Shown
pub mod Scenes
pub mod Equations
pub mod Checked
pub mod Texts
pub mod Views
pub mod Laws
