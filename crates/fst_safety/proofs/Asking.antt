-- What a typed task asks for is allowed.
use Rattle.std.proofs.Common.{◌≡◌, [], Some, refl}
use Rattle.fst_types.specs.Tree.{Tree}
use Rattle.fst_types.specs.declared.ends.EndName.{EndName}
use Rattle.fst_types.specs.declared.event.Event.TheVariants.{Closed}
use Rattle.fst_types.specs.declared.label.Label.{Label}
use Rattle.fst_types.specs.declared.label.Label.TheVariants.{Receive, Offer, Close, Wait}
use Rattle.fst_kinds.specs.WellFormed.{IsSession}
use Rattle.fst_lts.specs.Step.{step}
use Rattle.fst_lts.specs.Histories.{sending}
use Rattle.fst_derivations.specs.Rules.{Surroundings}
use Rattle.fst_machine.specs.declared.request.Request.{Request}
use Rattle.fst_machine.specs.declared.request.Request.TheVariants as request
use Rattle.fst_machine.specs.Values as value
use Rattle.fst_machine.specs.Machine.{Pause, stuck, calls, uses, makes, forks, puts, gets, closes, waits, matches, ended, asked}
use Rattle.fst_runs.specs.Wrong.{IsAllowed}
use Rattle.fst_safety.specs.Running.{Equals}
use Rattle.fst_safety.specs.Fitting.{Residuals, Fits}
use Rattle.fst_safety.specs.Pauses.{Allowed}
use Rattle.fst_safety.proofs.Equals.{equals_back, equals_session, equals_steps}
use Rattle.fst_safety.proofs.Offers.{offering_moves}

-- the residual of an end moves where a type moves at which the end stands, to an equal type
pub end_moves : (m : Surroundings) (r : Residuals) (x : EndName) (s t : Tree) (a : Label) → Fits m r (value.end x) s →
    step s a ≡ Some t →
    (s0 : Tree) × (t0 : Tree) × (r x ≡ Some s0) × (step s0 a ≡ Some t0) × IsSession [] s0 × Equals t t0
end_moves m r x s t a f e =
    let g = equals_steps s f.0 t a (equals_back f.3) (equals_session f.3 f.2) e in
    (f.0, g.0, f.1, g.1, f.2, g.2)

-- what a typed task asks for is allowed
pub allowed_right : (m : Surroundings) (r : Residuals) (p : Pause) (t : Tree) → Allowed m r p t → (q : Request) ×
    (asked p ≡ Some q) × IsAllowed r q
allowed_right m r stuck t a = absurd a
allowed_right m r (calls e env v fs) t a = (request.Step, refl, tt)
allowed_right m r (uses g fs) t a = (request.Step, refl, tt)
allowed_right m r (makes k fs) t a = (request.New k, refl, tt)
allowed_right m r (forks e env fs) t a = (request.Fork, refl, tt)
allowed_right m r (puts x ev fs) t a =
    let g = end_moves m r x a.0 a.1 (sending ev) a.2 a.3 in
    (request.Put x ev, refl, (g.0, g.1, g.2, g.3))
allowed_right m r (gets x fs) t a =
    let g = end_moves m r x a.1 a.2 (Receive a.0) a.3 a.4 in
    (request.Get x, refl, (g.0, Receive a.0, g.1, g.2, tt, g.3))
allowed_right m r (closes x fs) t a =
    let g = end_moves m r x a.0 a.1 Close a.2 a.3 in
    (request.Put x Closed, refl, (g.0, g.1, g.2, g.3))
allowed_right m r (waits x fs) t a =
    let g = end_moves m r x a.0 a.1 Wait a.2 a.3 in
    (request.Get x, refl, (g.0, Wait, g.1, g.2, tt, g.3))
allowed_right m r (matches x bs env fs) t a =
    let o = offering_moves a.0 a.1 a.5 in
    let g = end_moves m r x a.0 o.1 (Offer o.0) a.4 o.2 in
    (request.Get x, refl, (g.0, Offer o.0, g.1, g.2, tt, g.3))
allowed_right m r (ended v) t a = (request.Ended, refl, tt)
