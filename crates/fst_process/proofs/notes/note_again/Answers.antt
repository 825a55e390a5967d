use Rattle.std.proofs.Common.{◌≡◌, ◌∙◌, false, sym, ap}
use Rattle.std.proofs.lemmas.Result.{on_ok_weaker}
use Rattle.fst_paths.specs.Paths.{put_at}
use Rattle.fst_process.specs.Kept.{unable, noted}
use Rattle.fst_process.specs.KeptOf.{kept_besides}
use Rattle.fst_paths.proofs.Laws.{has_after}
use Rattle.fst_process.proofs.Noting.{still_noted}
use Rattle.fst_process.proofs.notes.note_again.Goals as goal

pub returns-then-moves_alone : goal.returns-then-moves_alone
returns-then-moves_alone c =
    still_noted c.args.types c.args.path.now c.args.request.now
    (kept_besides c.args.channels.now.by_maker.entries c.args.ready.now.keys)
    (sym c.if-moves_alone.ensures) c.requires

pub returns : goal.returns
returns c =
    let js = c.args.channels.now.by_maker.entries in
    let ks = c.args.ready.now.keys in
    let p = c.args.path.now in
    let old = kept_besides js ks in
    let off = c.remove.ensures.updates in
    let ready =
    has_after c.as_slice.result.now ks c.remove.new.self.keys false off.1 off.3
    ∙ ap (λ q. put_at q false old.ready) c.as_slice.ensures in
    let rest : kept_besides js c.remove.new.self.keys ≡ unable p old =
    λ i. record { tasks = old.tasks; channels = old.channels; made = old.made; ready = ready i } in
    on_ok_weaker c.note.result (λ e. e ∙ ap (noted c.args.types p c.args.request.now) rest) c.note.ensures
