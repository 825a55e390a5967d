-- What may be copied holds no end that is unspent.
use Rattle.std.proofs.Common.{◌≡◌, ℕ, zero, suc, List, [], ◌∷◌, Bool, true, false, Some, nat_eq, refl, sym, ap, ◌∙◌, subst, arith}
use Rattle.std.specs.Prelude.{bytes_eq}
use Rattle.std.specs.List.{AllByRecursion}
use Rattle.std.proofs.lemmas.Bool.{true≢false, false≢true, and_parts, eqb-true}
use Rattle.fst_base.proofs.Options.{some_same}
use Rattle.fst_types.specs.Tree.{Tree}
use Rattle.fst_types.specs.declared.kind.Use.TheVariants.{Many}
use Rattle.fst_types.specs.declared.side.Side.{Side}
use Rattle.fst_types.specs.declared.side.Side.TheVariants.{Left, Right}
use Rattle.fst_base.proofs.Bools.{same_text}
use Rattle.fst_lts.specs.Step.{terminated}
use Rattle.fst_context.specs.Scope.{Variable}
use Rattle.fst_derivations.specs.Parts.{HasUse}
use Rattle.fst_derivations.specs.Rules.{Surroundings}
use Rattle.fst_types.specs.declared.ends.EndName.{EndName}
use Rattle.fst_machine.specs.Free.{free, outside}
use Rattle.fst_machine.specs.Values as value
use Rattle.fst_machine.specs.Values.{Value, Values, no_values, Environment, none, hole, slot}
use Rattle.fst_runs.specs.Configs.{same_side, same_channel, same_end}
use Rattle.fst_runs.specs.Wrong.{IsUnspent, once, held, held_all, held_env}
use Rattle.fst_safety.specs.Running.{Plentiful}
use Rattle.fst_safety.specs.Fitting.{Residuals, Exactly, Fits, FitAll, FitsEnv}
use Rattle.fst_safety.specs.WellTyped.{IsFieldType, IsWellTyped}
use Rattle.fst_safety.proofs.Equals.{equals_back, equals_use, copied_ended}
use Rattle.fst_safety.proofs.Uses.{often, arrow_use, pair_many, printable_many}

side_same : (a b : Side) → same_side a b ≡ true → a ≡ b
side_same Left Left h = refl
side_same Left Right h = absurd (false≢true h)
side_same Right Left h = absurd (false≢true h)
side_same Right Right h = refl

-- ends that are found to be the same are
pub end_same : (x y : EndName) → same_end x y ≡ true → x ≡ y
end_same x y h =
    let p = and_parts (same_channel x.channel y.channel) (same_side x.side y.side) h in
    let q = and_parts (bytes_eq x.channel.maker y.channel.maker) (nat_eq x.channel.count y.channel.count) p.0 in
    λ i. record {
      channel = record {
        maker = same_text x.channel.maker y.channel.maker q.0 i;
        count =
            eqb-true x.channel.count y.channel.count q.1 i;
      };
      side = side_same x.side y.side p.1 i;
    }

module _ (m : Surroundings) (w : IsWellTyped m) (r : Residuals) where
  -- an unspent end isn't one whose residual is terminated
  pub spent_elsewhere : (x y : EndName) (s : Tree) (b : Bool) → same_end x y ≡ b → IsUnspent r x → r y ≡ Some s →
      terminated s ≡ true → once b ≡ 0
  spent_elsewhere x y s false e h q t = refl
  spent_elsewhere x y s true e h q t =
      absurd (true≢false (sym t ∙ ap terminated (some_same (sym q ∙ ap r (sym (end_same x y e)) ∙ h.1)) ∙ h.2))

  mutual
    -- a value that may be copied holds no unspent end
    pub idle : (x : EndName) (v : Value) (t : Tree) → IsUnspent r x → Fits m r v t → HasUse [] t Many → held x v ≡ 0
    idle x (value.int n) t h f u = refl
    idle x (value.bool b) t h f u = refl
    idle x (value.char c) t h f u = refl
    idle x value.unit t h f u = refl
    idle x (value.pair v y) t h f u =
        let p = pair_many (equals_use u (equals_back f.4)) in
        let a = idle x v f.0 h f.2 p.0 in
        let b = idle x y f.1 h f.3 p.1 in
        omega (arith, a, b)
    idle x (value.made n o vs) t h f u = idle_all x vs f.1 h f.4 (w.fields n o f.0 f.1 f.2 f.3)
    idle x (value.function e env) t h f u =
        idle_env x env f.0 (outside (free e)) h f.4 f.5 (f.9 (sym (arrow_use (equals_use u (equals_back f.10)))))
    idle x (value.end y) t h f u = spent_elsewhere x y f.0 (same_end x y) refl h f.1
        (copied_ended f.0 f.2 (equals_use u (equals_back f.3)))

    -- nor do fields of constructors
    pub idle_all : (x : EndName) (vs : Values) (ts : List Tree) → IsUnspent r x → FitAll m r vs ts →
        AllByRecursion IsFieldType ts → held_all x vs ≡ 0
    idle_all x no_values ts h f p = refl
    idle_all x (value.value v vs) [] h f p = absurd f
    idle_all x (value.value v vs) (t ∷ ts) h f p =
        let a = idle x v t h f.0 (printable_many t p.0.printable p.0.formed) in
        let b = idle_all x vs ts h f.1 p.1 in
        omega (arith, a, b)

    -- nor does an environment for variables that may be copied
    pub idle_env : (x : EndName) (env : Environment) (g : List Variable) (p : ℕ → Bool) → IsUnspent r x → FitsEnv m r env g →
        Exactly p env → Plentiful g p → held_env x env ≡ 0
    idle_env x none g p h f s l = refl
    idle_env x (hole env) [] p h f s l = absurd f
    idle_env x (hole env) (y ∷ g) p h f s l = idle_env x env g (outside p) h f (λ k. s (suc k)) (λ k. l (suc k))
    idle_env x (slot v env) [] p h f s l = absurd f
    idle_env x (slot v env) (y ∷ g) p h f s l =
        let a = idle x v y.type h f.0 (subst (HasUse [] y.type) (often y.uses (l zero y refl (sym (s zero)))) f.1) in
        let b = idle_env x env g (outside p) h f.2 (λ k. s (suc k)) (λ k. l (suc k)) in
        omega (arith, a, b)
