use Rattle.std.proofs.Common.{◌∙◌, true, Some, sym, ap}
use Rattle.std.proofs.lemmas.Result.{on_ok_weaker}
use Rattle.fst_process.specs.Kept.{with_asker, able, changed, marked_both}
use Rattle.fst_process.specs.KeptOf.{kept_besides}
use Rattle.fst_process.proofs.KeptLaws.{woken}
use Rattle.fst_process.proofs.notes.note_end.Goals as goal

pub returns-in_ok-insert_path-in-Some : goal.returns-in_ok-insert_path-in-Some
returns-in_ok-insert_path-in-Some c =
    let js = c.ask.new.channels.by_maker.entries in
    let ks = c.args.ready.now.keys in
    let old = kept_besides c.args.channels.now.by_maker.entries ks in
    let p = c.args.path.now in
    let x = c.args.end.now in
    let asked = changed x.channel (with_asker x.side (Some p)) old in
    let is = sym c.in-Some.is ∙ c.in_ok-partner.ensures.partner ks in
    on_ok_weaker c.insert_path-in-Some.result (λ e.
    woken js c.insert_path.new.paths.keys c.insert_path-in-Some.new.paths.keys p e
    ∙ ap (able true p) (woken js ks c.insert_path.new.paths.keys c.in-Some.partner c.in_ok-insert_path-in-Some.ensures
    ∙ ap (able true c.in-Some.partner) (c.in_ok-partner.ensures.asked ks))
    ∙ (λ i. record asked { ready = marked_both p (is i) old.ready })) c.insert_path-in-Some.ensures

pub returns-in-None : goal.returns-in-None
returns-in-None c =
    let ks = c.args.ready.now.keys in
    let old = kept_besides c.args.channels.now.by_maker.entries ks in
    let p = c.args.path.now in
    let x = c.args.end.now in
    let asked = changed x.channel (with_asker x.side (Some p)) old in
    let is = sym c.in-None.is ∙ c.in_ok-partner.ensures.partner ks in
    c.in_ok-partner.ensures.asked ks ∙ (λ i. record asked { ready = marked_both p (is i) old.ready })
