-- What other crates cite of typed runs, and of tasks that know of their own ends alone.
-- a module that has derivations is well typed for runs
pub use Rattle.fst_safety.proofs.Checked.{checked}
-- main's body has main's declared type, whose values can be printed; so it is where the module has derivations
pub use Rattle.fst_safety.proofs.Modules.{IsMainTyped, main_typed}
-- a sound configuration of a well-typed module is right
pub use Rattle.fst_safety.proofs.SoundLaws.{sound_right}
-- what an event or a run of a well-typed module leads to from a sound configuration is sound
pub use Rattle.fst_safety.proofs.Runs.{does_sound, runs_sound}
-- the start of a module that has derivations is sound
pub use Rattle.fst_safety.proofs.Orders.{start_sound}
-- where a typed state stands still it asks for something that its residuals allow
pub use Rattle.fst_safety.proofs.Settles.{pause_goes}
-- where it asks for a channel, that has a type
pub use Rattle.fst_safety.proofs.TaskNews.{is_declared}
-- a task asks for one thing
pub use Rattle.fst_safety.proofs.Askers.{same_asks}
-- a closed well-formed type equals itself, and equality goes back
pub use Rattle.fst_safety.proofs.Equals.{equals_itself, equals_back}
-- a closed session type is well formed, and what a step leaves of it is a closed session type
pub use Rattle.fst_safety.proofs.Equals.{session_formed, session_step}
-- a closed session type that is terminated equals Skip
pub use Rattle.fst_safety.proofs.SpentEnds.{ended_equal}
-- the residual of a channel's side is this type, and that of the other side its dual; the second follows from the first
pub use Rattle.fst_safety.proofs.TraceLaws.{Sides, sides_from}
-- where that is so, and the channel's declared type and this one are closed session types, each side has gone on as the dual of the other
pub use Rattle.fst_safety.proofs.TraceLaws.{trace_from}
-- each end that is counted and has a closed session type as its residual has an equal one among other residuals
pub use Rattle.fst_safety.proofs.StillLaws.{Still}
-- a typed state is typed with other residuals too, where that holds of the ends in it
pub use Rattle.fst_safety.proofs.StillLaws.{typed_still}
-- 1 where an end has this name, and 0 where it has another
pub use Rattle.fst_safety.proofs.BagLaws.{counted}
-- how often a name stands among ends is what the first of them counts plus how often it stands among the others; an end counts 1 of its own name
pub use Rattle.fst_safety.proofs.BagLaws.{count_first, counts_itself, counted_so}
-- where no end of a name stands among some, each of them counts 0 of it
pub use Rattle.fst_safety.proofs.BagLaws.{others_of}
-- where an end of a name stands among some that all have a property, one of this name has it
pub use Rattle.fst_safety.proofs.BagLaws.{there}
-- main's thread fits at the beginning of a body of main's type, whose values can be printed
pub use Rattle.fst_safety.proofs.TaskStarts.{begun_fits}
-- a thread that fits a module which has derivations asks for something that the residuals of its ends allow
pub use Rattle.fst_safety.proofs.Keeping.{asks_for}
-- a thread that fits has gone on to itself where nothing has happened
pub use Rattle.fst_safety.proofs.Keeping.{stays}
-- a thread that fits a module which has derivations fits again in whichever way it goes on, and so does one that it forks
pub use Rattle.fst_safety.proofs.Going.{stay_typed}
-- a task may cross threads
pub use Rattle.fst_safety.proofs.Sends.{typed_task_send}
-- runs of a module that has derivations which come to an end are of one length and lead to one configuration, and no run is longer
pub use Rattle.fst_safety.proofs.Orders.{one_end}
-- they have the same events, which sorted are one list
pub use Rattle.fst_safety.proofs.Orders.{all_same, one_text}
-- an end with a name; each end keeps its residual, but for one and for unspent ends that a state doesn't hold; a channel is opened, whose ends have residuals of a type and its dual, and which a state doesn't hold
pub use Rattle.fst_safety.proofs.Answered.{end_at, KeepsBut, Opens}
-- an end is one of a channel's two, or one of another channel
pub use Rattle.fst_safety.proofs.Answered.{which_end}
-- where a channel is opened, or the residual of an end goes on that it doesn't hold, a typed state stays typed
pub use Rattle.fst_safety.proofs.Answered.{opens_typed, kept_typed}
-- a typed state of a well-typed module isn't stuck, and asks for something that its residuals allow
pub use Rattle.fst_safety.proofs.Answered.{not_stuck, typed_asks}
-- after each answer it is typed over the residuals that have changed with that, and holds the same unspent ends: after a step, a channel, a fork, what it sent and what it got
pub use Rattle.fst_safety.proofs.Answered.{go_typed, made_typed, Parts, forked_typed, sent_typed, got_typed}
-- a body of main's type begins in a state of that type, and where a state of that type has ended, its value is one of main's declared type
pub use Rattle.fst_safety.proofs.Runs.{main_begins}
pub use Rattle.fst_safety.proofs.Modules.{main_ends}
-- an end that has no residual stands in no typed state
pub use Rattle.fst_safety.proofs.Unknown.{unknown_state}
-- an end of a channel is this one or the other one
pub use Rattle.fst_safety.proofs.Owners.{or_other}
