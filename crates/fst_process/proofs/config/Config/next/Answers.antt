use Rattle.std.proofs.Common.{◌∙◌, inr, ap}
use Rattle.fst_process.specs.KeptOf.{kept_of}
use Rattle.fst_process.specs.Nexts.{event_of, IsFirst}
use Rattle.fst_process.proofs.Firsts.{none_before}
use Rattle.fst_process.proofs.config.Config.next.Goals as goal

pub returns-in_ok-event-in-Some : goal.returns-in_ok-event-in-Some
returns-in_ok-event-in-Some c =
    let old = c.args.self.now in
    let p = c.in-Some.key.now.items in
    let first : IsFirst (kept_of old) p = record {
      moves = c.in-Some.ensures.member;
      none_before =
          λ q b. none_before p q old.ready.keys c.in-Some.ensures.all_from b;
    } in
    inr (p, first, c.in_ok-event-in-Some.ensures ∙ ap (event_of (kept_of old)) c.as_slice.ensures.value)
