mod SettingLaws
mod GivenLaws
mod WordLaws
pub mod Laws
