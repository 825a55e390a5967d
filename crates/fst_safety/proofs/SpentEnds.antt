-- An end with nothing left to do stands in a state as good as one of no residual at all.
use Rattle.std.proofs.Common.{◌≡◌, ◌∙◌, ◌⊎◌, inl, inr, ℕ, zero, suc, [], true, Option, Some, None, refl, sym, ap, subst}
use Rattle.std.specs.Prelude.{IsSome}
use Rattle.fst_base.proofs.Options.{some_same}
use Rattle.fst_base.specs.Agreement.{AgreeTo, BothOrNeither}
use Rattle.fst_types.specs.Tree.{Tree, skip}
use Rattle.fst_types.specs.declared.kind.Use.TheVariants.{Many}
use Rattle.fst_types.specs.declared.ends.EndName.{EndName}
use Rattle.fst_types.specs.declared.label.Label.{Label}
use Rattle.fst_kinds.specs.WellFormed.{IsSession}
use Rattle.fst_lts.specs.Equal.{sessions}
use Rattle.fst_lts.specs.Step.{step, terminated}
use Rattle.fst_lts.proofs.Laws.{no_step}
use Rattle.fst_derivations.specs.Rules.{Surroundings}
use Rattle.fst_machine.specs.Machine.{State}
use Rattle.fst_safety.specs.Running.{Equals}
use Rattle.fst_safety.specs.Fitting.{Residuals, IsTyped}
use Rattle.fst_safety.proofs.Equals.{equals_itself, session_formed}
use Rattle.fst_safety.proofs.StillLaws.{typed_still}

neither_moves : (s : Tree) → terminated s ≡ true → (n : ℕ) (a : Label) → BothOrNeither (AgreeTo step step n) None (step s a)
neither_moves s e n a = go (step s a) refl
  where
    go : (o : Option Tree) → step s a ≡ o → BothOrNeither (AgreeTo step step n) None o
    go None q = tt
    go (Some u) q = no_step s e a (subst IsSome (sym q) refl)

both_end : (s : Tree) → terminated s ≡ true → (n : ℕ) → AgreeTo step step n skip s
both_end s e zero = tt
both_end s e (suc n) = neither_moves s e n

pub skip_session : IsSession [] skip
skip_session = (Many, record { kinded = refl; contractive = tt; scoped = tt; ordered = tt })

-- what has nothing left to do is as good as nothing
pub ended_equal : (s : Tree) → IsSession [] s → terminated s ≡ true → Equals skip s
ended_equal s h e = record {
  left = session_formed skip_session;
  right = session_formed h;
  equal =
      sessions skip_session h (both_end s e);
}

-- an end with nothing left to do stands in a state as good as one of no residual at all
pub spent_typed : (m : Surroundings) (r r' : Residuals) (x : EndName) (now : Tree) → r x ≡ Some now → terminated now ≡ true →
    r' x ≡ Some skip →
    ((z : EndName) → (z ≡ x) ⊎ (r' z ≡ r z)) → (s : State) (t : Tree) → IsTyped m r s t → IsTyped m r' s t
spent_typed m r r' x now before done later others s t h = typed_still m r r' s t h (λ z u e k n. go z u e k (others z))
  where
    go : (z : EndName) (u : Tree) → r z ≡ Some u → IsSession [] u → (z ≡ x) ⊎ (r' z ≡ r z) → (v : Tree) ×
        (r' z ≡ Some v) × IsSession [] v × Equals v u
    go z u e k (inl i) =
        let same : now ≡ u = some_same (sym before ∙ ap r (sym i) ∙ e) in
        (skip, ap r' i ∙ later, skip_session, ended_equal u k (subst (λ w. terminated w ≡ true) same done))
    go z u e k (inr i) = (u, i ∙ e, k, equals_itself u (session_formed k))
