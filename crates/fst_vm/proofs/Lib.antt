pub mod Laws
mod BackLaws
mod SlotLaws
mod PlaceLaws
mod StepLaws
mod RunLaws
mod TellLaws
mod TaskLaws
mod KeptLaws
