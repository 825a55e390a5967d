use Rattle.std.proofs.Common.{◌≡◌, ◌<◌, ℕ}
use Rattle.std.specs.Prelude.{slice_index_or}
use Rattle.fst_types.specs.declared.base.Base.{Base}
use Rattle.fst_types.specs.declared.label.Label.TheVariants.{Receive}
use Rattle.fst_premises.proofs.moving.received_payload.Given as goal

abbrev pub invariant-loop-label : goal.invariant-loop-label
invariant-loop-label l = (k : ℕ) → k < l.label-index → (b : Base) → slice_index_or l.labels k (Receive b) ≡ Receive b → ⊥
