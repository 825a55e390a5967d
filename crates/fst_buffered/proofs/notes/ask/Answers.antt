use Rattle.std.proofs.Common.{None, is_some, sym, ap}
use Rattle.std.proofs.lemmas.Result.{on_ok_weaker}
use Rattle.fst_buffered.proofs.KeptLaws.{end_asked, end_unasked}
use Rattle.fst_buffered.proofs.notes.ask.Goals as goal

pub returns-in-Some : goal.returns-in-Some
returns-in-Some c =
    let there = sym c.in-Some.ensures.value in
    let updates = (c.get_mut.follows.holds c.ask_among.new.channels).3 (ap is_some there) in
    let new = (c.get_mut.follows.lender c.ask_among.new.channels).entries in
    on_ok_weaker c.ask_among.result (λ e ks. end_asked (λ q. None) ks c.args.channels.now.by_maker.entries new
    c.as_slice.result.now c.in-Some.channels.now c.ask_among.new.channels there updates.1 updates.3 c.args.end.now
    c.args.path.now c.as_slice.ensures e) c.ask_among.ensures

pub returns-in-None : goal.returns-in-None
returns-in-None c = λ ks.
    end_unasked (λ q. None) ks c.args.channels.now.by_maker.entries c.get_mut.follows.lender-at-none.entries
    c.as_slice.result.now (sym c.in-None.ensures.value) (ap (λ z. z.entries) c.get_mut.follows.holds-at-none)
    c.args.end.now c.args.path.now c.as_slice.ensures
