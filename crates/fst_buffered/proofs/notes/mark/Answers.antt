use Rattle.std.proofs.Common.{◌∙◌, false, sym, ap}
use Rattle.std.proofs.lemmas.Result.{on_ok_weaker}
use Rattle.fst_paths.specs.Paths.{has_path, put_at}
use Rattle.fst_paths.proofs.Laws.{has_after}
use Rattle.fst_buffered.proofs.notes.mark.Goals as goal

pub returns-then-able : goal.returns-then-able
returns-then-able c =
    on_ok_weaker c.wake.result (λ e. e ∙ ap (λ b. put_at c.args.path.now b (has_path c.args.ready.now.keys)) (sym c.if-able.true))
    c.wake.ensures

pub returns : goal.returns
returns c =
    let ks = c.args.ready.now.keys in
    let off = c.remove.ensures.updates in
    has_after c.as_slice.result.now ks c.remove.new.self.keys false off.1 off.3
    ∙ ap (λ p. put_at p false (has_path ks)) c.as_slice.ensures
    ∙ ap (λ b. put_at c.args.path.now b (has_path ks)) (sym c.if-able.false)
