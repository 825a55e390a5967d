-- What other crates cite of maps and sets whose keys are paths, and of channels by their makers.
-- Paths that pass the test are one; paths are ordered as equal where they are the same.
pub use Rattle.fst_paths.proofs.PathLaws.{path_same, at_same}
-- A path that passes the test at a key is the key's, and each key's own path does.
pub use Rattle.fst_paths.proofs.PathLaws.{at_key, at_itself}
-- What a map finds, and what a set has, once one path has something else; and a function of what is put at a path.
pub use Rattle.fst_paths.proofs.PathLaws.{found_after, has_after, put_mapped}
-- What is put at a path is there, and elsewhere is what was there; what is put in place of something else.
pub use Rattle.fst_paths.proofs.PutLaws.{put_here, put_else, put_cases, put_both, put_twice, put_back}
-- In a map in order the keys behind the first one come behind it, are not at its path, and nothing is found there among them.
pub use Rattle.fst_paths.proofs.PathLaws.{AreBehind, in_order, apart_behind, none_found}
-- The channels of a task once a map has others there; a channel by its number.
pub use Rattle.fst_paths.proofs.ChannelLaws.{made_after, none_numbered, numbered_there}
-- What is seen of all channels, and how many each task has made, where one is changed, where it isn't there, and where one is put behind the others.
pub use Rattle.fst_paths.proofs.ChannelLaws.{set_changed, changed_in, as_many, unchanged_none, added_in, one_more_in}
-- In a map in order the channels of the first key's path are the first ones; no task has made more than is said of each.
pub use Rattle.fst_paths.proofs.ChannelLaws.{made_here, made_else, few_each}
