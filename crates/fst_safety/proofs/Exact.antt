-- Environments that hold just the variables of a set.
use Rattle.std.proofs.Common.{◌≡◌, ℕ, zero, suc, List, [], ◌∷◌, length, Bool, true, false, refl, sym, ap, ◌∙◌, arith}
use Rattle.fst_machine.proofs.Laws.{outside_all_at}
use Rattle.fst_terms.specs.declared.binder.Binder.{Binder}
use Rattle.fst_machine.specs.Free.{outside, outside_all}
use Rattle.fst_machine.specs.Values as value
use Rattle.fst_machine.specs.Values.{Value, Values, no_values, Environment, none, hole, slot, enter, keep, count, enter_all}
use Rattle.fst_safety.specs.Fitting.{Exactly}

off : (p w : Bool) → false ≡ w → (p ≡ true → w ≡ true) → false ≡ p
off true w e h = e ∙ h refl
off false w e h = refl

-- a variable that is entered stands there where it is used
pub exactly_enter : (b : Bool) (v : Value) (env : Environment) (p : ℕ → Bool) → p zero ≡ b → Exactly (outside p) env →
    Exactly p (enter b v env)
exactly_enter true v env p q h zero = sym q
exactly_enter true v env p q h (suc k) = h k
exactly_enter false v env p q h zero = sym q
exactly_enter false v env p q h (suc k) = h k

-- a part's variables stand in what is kept for it
pub exactly_keep : (env : Environment) (w p : ℕ → Bool) → Exactly w env →
    ((k : ℕ) → p k ≡ true → w k ≡ true) → Exactly p (keep p env)
exactly_keep none w p h s k = off (p k) (w k) (h k) (s k)
exactly_keep (hole env) w p h s zero = off (p zero) (w zero) (h zero) (s zero)
exactly_keep (hole env) w p h s (suc k) = exactly_keep env (outside w) (outside p) (λ k. h (suc k)) (λ k. s (suc k)) k
exactly_keep (slot v env) w p h s k = exactly_enter (p zero) v (keep (outside p) env) p refl
    (exactly_keep env (outside w) (outside p) (λ k. h (suc k)) (λ k. s (suc k))) k

-- the values of an arm's variables stand there where they are used
pub exactly_enter_all : (xs : List Binder) (p : ℕ → Bool) (vs : Values) (env : Environment) → length xs ≡ count vs →
    Exactly (outside_all xs p) env → Exactly p (enter_all p vs env)
exactly_enter_all [] p no_values env q h = h
exactly_enter_all [] p (value.value v vs) env q h = absurd (cc q)
exactly_enter_all (x ∷ xs) p no_values env q h = absurd (cc q)
exactly_enter_all (x ∷ xs) p (value.value v vs) env q h =
    let same : length xs ≡ count vs = cc in
    exactly_enter_all xs p vs (enter (p (count vs)) v env) same
    (exactly_enter (p (count vs)) v env (outside_all xs p) (outside_all_at xs p zero ∙ ap p (omega (arith, same))) h)
