-- What other crates cite of records of runs, and of the sums by which they are told.
-- a path, the name of a channel and an end count as themselves, and two of them are one, or don't count
pub use Rattle.fst_records.proofs.Tests.{path_or, path_counts, channel_counts, end_or, end_counts}
-- things with codes are one where they pass the test, and where no number tells them apart
pub use Rattle.fst_records.proofs.Tests.{same_by, same_by-itself, same_by-same, one_by}
-- events have codes
pub use Rattle.fst_records.proofs.EventCode.{event_code}
-- what is there is in a sum, and stands between others of the list; where a sum is something, so is one of its terms
pub use Rattle.fst_records.proofs.Tests.{there_sums}
pub use Rattle.fst_records.proofs.Lists.{among}
pub use Rattle.fst_records.proofs.Sums.{some_in}
-- a sum of nothings; one that is nothing where another is; the terms of one that is nothing; sums that are the same; a sum of sums
pub use Rattle.fst_records.proofs.Sums.{sum_none, none_sum, none_in_sum, sum_same, sum_both}
-- what a longer log exchanges, which tasks it forks and which channels it makes; what one entry more adds to the parts of a history
pub use Rattle.fst_records.proofs.Sums.{exchanges_more, births_more, openings_more}
pub use Rattle.fst_records.proofs.Shown.{parts_push}
-- names of channels are in a total order, in which those that compare as equal are one
pub use Rattle.fst_records.proofs.NameOrder.{name_total, name_same, both_equal, apart_less, apart_greater, counts_rise}
-- a name is up to one that it isn't above; names that rise, with one more, and what is sorted by them
pub use Rattle.fst_records.proofs.NameOrder.{IsUpTo, up_to, rising_more, sorted_by_name}
-- the logs lead to how the tasks are: no two tasks then have one path, and no two channels one name; a fork isn't main
pub use Rattle.fst_records.proofs.Paths.{IsLed, at_path, main_not, paths_once, names_once}
-- what a log forks is a child of its task, and what it opens a channel of its task
pub use Rattle.fst_records.proofs.Counting.{IsMadeBy, forked_by, opened_in}
-- a log opens channels of its task alone, which each count as made by it and not by another; none of its stamps is later than its clock
pub use Rattle.fst_records.proofs.Dated.{StampedBy, stamped_by, of_maker, others_made, own_made}
-- tasks are found by their paths and channels by their names
pub use Rattle.fst_records.proofs.Found.{on_path, on_name, channel_of, has_task, has_channel, task_there, channel_there}
-- logs and histories say the same; the numbers of a record are in bounds; what an event, and a run, lead to; and the events of a record
pub use Rattle.fst_records.proofs.Entries.{corresponds, entries}
pub use Rattle.fst_records.proofs.Stamping.{stamps}
pub use Rattle.fst_records.proofs.AlongRuns.{extends, runs}
pub use Rattle.fst_records.proofs.Sorting.{sorted_run}
pub use Rattle.fst_records.proofs.Collecting.{has_events}
pub use Rattle.fst_records.proofs.Counts.{as_many}
pub use Rattle.fst_records.proofs.Apart.{events_apart}
-- the events that all parts of the logs begin are the record's; at most one task got something over a channel at a stamp, the one that is
-- found
pub use Rattle.fst_records.proofs.Gathering.{gathers, count, got_once, getter_is}
