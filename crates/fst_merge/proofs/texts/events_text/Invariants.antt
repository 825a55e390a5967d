use Rattle.std.proofs.Common.{◌≡◌, ◌++◌, [], take, drop, reverse}
use Rattle.std.specs.String.{string_bytes}
use Rattle.fst_merge.specs.Counts.{IsCountOf}
use Rattle.fst_merge.specs.EventTexts.{lines_behind}
use Rattle.fst_merge.proofs.texts.events_text.Given as goal

abbrev pub invariant-loop-event : goal.invariant-loop-event
invariant-loop-event l = record {
  text : string_bytes l.text ++ lines_behind (reverse (take l.event-index l.events)) (drop l.event-index l.events)
      ≡ lines_behind [] l.events;
  counts : IsCountOf (reverse (take l.event-index l.events)) l.made;
}
