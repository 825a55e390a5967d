mod Entries
mod LevelLaws
