mod TypeSound
mod AddedLaws
mod MadeLaws
mod FaultlessLaws
mod NamingLaws
mod MeaningLaws
mod PartLaws
