use Rattle.std.proofs.Common.{◌≡◌, ◌∙◌, sym, ap}
use Rattle.fst_process.specs.KeptOf.{kept_of}
use Rattle.fst_process.proofs.Moving.{can_move_exactly}
use Rattle.fst_process.proofs.Rights.{right_fine}
use Rattle.fst_process.proofs.config.Config.can_move.Goals as goal

pub returns-clause-moves : goal.returns-clause-moves
returns-clause-moves c = λ m k n d r right.
    let p = c.args.task.now in
    let is : c.contains.result ≡ (kept_of c.args.self.now).ready p = c.contains.ensures
    ∙ ap (kept_of c.args.self.now).ready c.as_slice.ensures in
    let exact = can_move_exactly m k n (kept_of c.args.self.now) d r (right_fine m d right) p in
    (λ e. exact.0 (sym is ∙ e), λ e. is ∙ exact.1 e)
