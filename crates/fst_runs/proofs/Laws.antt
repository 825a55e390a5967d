-- What other crates cite of configurations and runs.
-- A path, the name of a channel and that of an end are the same as themselves and as nothing else.
pub use Rattle.fst_runs.proofs.NameLaws.{same_path-itself, same_path-same, same_path-apart, same_channel-itself, same_channel-same, same_side-same, same_end-itself, same_end-same}
-- A configuration with a task or a channel put in; what an event writes is one of these.
pub use Rattle.fst_runs.proofs.Updates.{put, with_task, with_channel, local_puts, new_puts, fork_puts, meet_puts}
-- What stands in it then.
pub use Rattle.fst_runs.proofs.Updates.{in_test, in_put, put_there, stays_apart, stays_there, stays_free, same_amount}
-- A task has one parent, and main has none.
pub use Rattle.fst_runs.proofs.Naming.{one_parent, no_parent}
-- The names of what a task makes and forks next are free, and stay so after each event.
pub use Rattle.fst_runs.proofs.Naming.{Grows, makers_with, parents_with, new_free, fork_free, named_start, named_new, named_fork, named_meet, named_after}
-- A task that sends isn't one that receives.
pub use Rattle.fst_runs.proofs.Naming.{asks_apart}
-- An end that isn't spent has one task, which is the one that asks at it; an end at which a request is allowed isn't spent.
pub use Rattle.fst_runs.proofs.Owners.{own_once, owner, asks_held, allowed_unspent}
-- Where each request stands still.
pub use Rattle.fst_runs.proofs.Asked.{put_pause, get_pause, new_pause, fork_pause}
-- How often values hold an end.
pub use Rattle.fst_runs.proofs.HeldEnds.{pause_none, held_turned}
-- After an answer a state holds no end that its pause doesn't, but those of a new channel; nor does a task that is forked.
pub use Rattle.fst_runs.proofs.HeldAfter.{after_none, child_none}
-- What is left at one side is the dual of what is left at the other.
pub use Rattle.fst_runs.proofs.HistoryLaws.{residual-opposite}
-- Where nothing has gone wrong, two tasks don't ask at one end nor send or receive at both, and one that sends meets one that receives.
pub use Rattle.fst_runs.proofs.RightLaws.{no_two_sends, right_one, right_there, right_opposed, right_received, right_meets}
-- The least run is a run.
pub use Rattle.fst_runs.proofs.LeastRuns.{least_runs}
-- A log that leads to a task leads with an entry of this task more to the task after the entry; each channel that is made has a type still where the next one has, and none is opened where none is made.
pub use Rattle.fst_runs.proofs.LogLaws.{follows_more, opened_more, none_opened}
-- The stamp of an answer is later than the task's clock, and with it a task has made one channel more at most, and forked one task more at most.
pub use Rattle.fst_runs.proofs.LogLaws.{later, few_made, few_forks}
-- The events of each run have stamps, and what has stamps is a run; an event has one stamp, which is the clock of what it writes.
pub use Rattle.fst_runs.proofs.StampedLaws.{HasStamps, run_stamps, stamped_runs, write_stamp, one_stamp}
-- Paths, and events with stamps, don't come before one another; the stamps of sorted events don't fall.
pub use Rattle.fst_runs.proofs.OrderLaws.{not_both, precede_apart, sorted_timed}
-- What a task's log gains in more events is what it gains in the first of them and what it gains in the others; in each run logs gain something.
pub use Rattle.fst_runs.proofs.LogLaws.{entries_at-append, run_notes}
-- a task that asks to put something in at an end, or to get something there, goes on after that
pub use Rattle.fst_runs.proofs.RightLaws.{put_answered, get_answered}
