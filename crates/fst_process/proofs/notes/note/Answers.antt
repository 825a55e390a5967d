use Rattle.std.proofs.Common.{◌∙◌, sym, ap}
use Rattle.std.proofs.lemmas.Result.{on_ok_weaker}
use Rattle.fst_process.specs.Kept.{able, noted}
use Rattle.fst_process.specs.KeptOf.{kept_besides}
use Rattle.fst_process.proofs.KeptLaws.{woken}
use Rattle.fst_process.proofs.Moving.{below}
use Rattle.fst_process.proofs.notes.note.Goals as goal

pub returns-in-Step : goal.returns-in-Step
returns-in-Step c =
    let js = c.args.channels.now.by_maker.entries in
    let old = kept_besides js c.args.ready.now.keys in
    let p = c.args.path.now in
    on_ok_weaker c.insert_path.result
    (λ e. woken js c.args.ready.now.keys c.insert_path.new.paths.keys p e
    ∙ ap (λ r. noted c.args.types p r old) (sym c.in-Step.is)) c.insert_path.ensures

pub returns-in_ok-insert_path-in-New : goal.returns-in_ok-insert_path-in-New
returns-in_ok-insert_path-in-New c =
    let js = c.args.channels.now.by_maker.entries in
    let p = c.args.path.now in
    let old = kept_besides js c.args.ready.now.keys in
    woken js c.args.ready.now.keys c.insert_path-then-number-types.new.paths.keys p c.in_ok-insert_path-in-New.ensures
    ∙ ap (λ b. able b p old) (sym (below c.in-New.number c.args.types c.if-number-types.true))
    ∙ ap (λ r. noted c.args.types p r old) (sym c.in-New.is)

pub returns-in-Fork : goal.returns-in-Fork
returns-in-Fork c =
    let js = c.args.channels.now.by_maker.entries in
    let old = kept_besides js c.args.ready.now.keys in
    let p = c.args.path.now in
    on_ok_weaker c.insert_path-in-Fork.result
    (λ e. woken js c.args.ready.now.keys c.insert_path-in-Fork.new.paths.keys p e
    ∙ ap (λ r. noted c.args.types p r old) (sym c.in-Fork.is)) c.insert_path-in-Fork.ensures
