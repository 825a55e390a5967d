-- Variables of code against those of terms, where values are kept, entered, emptied and dropped.
use Rattle.std.proofs.Common.{◌≡◌, ◌⊎◌, ℕ, zero, suc, ◌+◌, Bool, true, false, ◌||◌, Option, Some, None, List, [], ◌∷◌, drop, refl, sym, ap, ◌∙◌, inl, inr, arith}
use Rattle.std.proofs.lemmas.Bool.{or_left, or_right, or_parts, false≢true}
use Rattle.fst_value.specs.ValueTree as tree
use Rattle.fst_value.specs.ValueTree.{ValueTree, ValueTrees}
use Rattle.fst_machine.specs.Free.{is, outside}
use Rattle.fst_machine.specs.Values.{Value, Environment, none, hole, slot, lookup, enter, keep}
use Rattle.fst_machine.specs.Code.{Compiled, also, among}
use Rattle.fst_machine.specs.Spots.{Slots, slot_at, emptied, filled, spread}
use Rattle.fst_machine.specs.Standing.{Means, MeanCaptured, MeansAt, MeansSlots, HasJust, AreAlike}

-- a variable is itself
pub is_itself : (j : ℕ) → is j j ≡ true
is_itself zero = refl
is_itself (suc j) = is_itself j

-- and nothing else
pub is_same : (j k : ℕ) → is j k ≡ true → j ≡ k
is_same zero zero h = refl
is_same zero (suc k) h = absurd (false≢true h)
is_same (suc j) zero h = absurd (false≢true h)
is_same (suc j) (suc k) h = ap suc (is_same j k h)

-- a variable in a set is not one that isn't in it
pub is_other : (p : ℕ → Bool) (j k : ℕ) → p j ≡ false → p k ≡ true → is j k ≡ false
is_other p j k h g = go (is j k) refl
  where
    go : (b : Bool) → is j k ≡ b → is j k ≡ false
    go true e = absurd (false≢true (sym h ∙ ap p (is_same j k e) ∙ g))
    go false e = e

-- another variable keeps its value
pub emptied_other : (k : ℕ) (s : Slots) (j : ℕ) → is k j ≡ false → slot_at (emptied k s) j ≡ slot_at s j
emptied_other zero [] j h = refl
emptied_other (suc k) [] j h = refl
emptied_other zero (o ∷ os) zero h = absurd (false≢true (sym h))
emptied_other zero (o ∷ os) (suc j) h = refl
emptied_other (suc k) (o ∷ os) zero h = refl
emptied_other (suc k) (o ∷ os) (suc j) h = emptied_other k os j h

-- a variable that is filled has the value
pub filled_itself : (k : ℕ) (x : ValueTree) (s : Slots) (j : ℕ) → is k j ≡ true → slot_at (filled k x s) j ≡ Some x
filled_itself zero x [] zero h = refl
filled_itself zero x (o ∷ os) zero h = refl
filled_itself zero x [] (suc j) h = absurd (false≢true h)
filled_itself zero x (o ∷ os) (suc j) h = absurd (false≢true h)
filled_itself (suc k) x [] zero h = absurd (false≢true h)
filled_itself (suc k) x (o ∷ os) zero h = absurd (false≢true h)
filled_itself (suc k) x [] (suc j) h = filled_itself k x [] j h
filled_itself (suc k) x (o ∷ os) (suc j) h = filled_itself k x os j h

-- another one has what it had
pub filled_other : (k : ℕ) (x : ValueTree) (s : Slots) (j : ℕ) → is k j ≡ false → slot_at (filled k x s) j ≡ slot_at s j
filled_other zero x [] zero h = absurd (false≢true (sym h))
filled_other zero x (o ∷ os) zero h = absurd (false≢true (sym h))
filled_other zero x [] (suc j) h = refl
filled_other zero x (o ∷ os) (suc j) h = refl
filled_other (suc k) x [] zero h = refl
filled_other (suc k) x (o ∷ os) zero h = refl
filled_other (suc k) x [] (suc j) h = filled_other k x [] j h
filled_other (suc k) x (o ∷ os) (suc j) h = filled_other k x os j h

-- what isn't among these variables is not filled
pub spread_other : (ks : List ℕ) (xs : ValueTrees) (k : ℕ) → among ks k ≡ false → slot_at (spread ks xs) k ≡ None
spread_other [] xs k h = refl
spread_other (j ∷ ks) tree.none k h = refl
spread_other (j ∷ ks) (tree.value x xs) k h =
    let r = or_parts (is j k) (among ks k) h in filled_other j x (spread ks xs) k r.0 ∙ spread_other ks xs k r.1

-- behind the innermost variables
pub dropped_at : (n : ℕ) (s : Slots) (k : ℕ) → slot_at (drop n s) k ≡ slot_at s (n + k)
dropped_at zero s k = let e : k ≡ 0 + k = omega arith in ap (slot_at s) e
dropped_at (suc n) [] k = refl
dropped_at (suc n) (o ∷ os) k = let e : suc (n + k) ≡ suc n + k = omega arith in dropped_at n os k ∙ ap (slot_at (o ∷ os)) e

kept_in : (b : Bool) (v : Value) (p : ℕ → Bool) (env : Environment) →
    ((j : ℕ) → p (suc j) ≡ true → lookup (keep (outside p) env) j ≡ lookup env j) →
    p zero ≡ b → (k : ℕ) → p k ≡ true → lookup (enter b v (keep (outside p) env)) k ≡ lookup (slot v env) k
kept_in true v p env r e zero h = refl
kept_in true v p env r e (suc k) h = r k h
kept_in false v p env r e zero h = absurd (false≢true (sym e ∙ h))
kept_in false v p env r e (suc k) h = r k h

-- what is kept has its value
pub keep_in : (p : ℕ → Bool) (env : Environment) (k : ℕ) → p k ≡ true → lookup (keep p env) k ≡ lookup env k
keep_in p none k h = refl
keep_in p (hole env) zero h = refl
keep_in p (hole env) (suc k) h = keep_in (outside p) env k h
keep_in p (slot v env) k h = kept_in (p zero) v p env (keep_in (outside p) env) refl k h

kept_out : (b : Bool) (v : Value) (p : ℕ → Bool) (env : Environment) → HasJust (outside p) (keep (outside p) env) → p zero ≡ b →
    HasJust p (enter b v (keep (outside p) env))
kept_out true v p env r e zero h = absurd (false≢true (sym h ∙ e))
kept_out true v p env r e (suc k) h = r k h
kept_out false v p env r e zero h = refl
kept_out false v p env r e (suc k) h = r k h

-- what isn't kept has none
pub keep_out : (p : ℕ → Bool) (env : Environment) → HasJust p (keep p env)
keep_out p none k h = refl
keep_out p (hole env) zero h = refl
keep_out p (hole env) (suc k) h = keep_out (outside p) env k h
keep_out p (slot v env) k h = kept_out (p zero) v p env (keep_out (outside p) env) refl k h

-- other variables of code have the same values for those of a set
abbrev pub Agree : (ℕ → Bool) → Slots → Slots → Type 0
Agree p s t = (k : ℕ) → p k ≡ true → slot_at t k ≡ slot_at s k

-- what is in one of two sets
pub in_also : (q p : ℕ → Bool) (k : ℕ) → q k ≡ true → also q p k ≡ true
in_also q p k h = or_left (q k) (p k) h

-- or in the other
pub in_behind : (q p : ℕ → Bool) (k : ℕ) → p k ≡ true → also q p k ≡ true
in_behind q p k h = or_right (q k) (p k) h

-- a variable of code, or none
abbrev pub kept : Bool → ValueTree → Option ValueTree
kept true x = Some x
kept false x = None

module _ (c : Compiled) where
  -- what is kept for a part of the variables means what these variables have in code
  pub part : (q p : ℕ → Bool) (s t : Slots) (env : Environment) → MeansSlots c q s env →
      ((k : ℕ) → p k ≡ true → q k ≡ true) → Agree p s t → MeansSlots c p t (keep p env)
  part q p s t env m i a =
      record {
        meant = λ k h. let v = m.meant k (i k h) in (v.0, v.1, a k h ∙ v.2, keep_in p env k h ∙ v.3, v.4);
        just = keep_out p env;
      }

  -- so do the variables of code that have the same values
  pub still : (q : ℕ → Bool) (s t : Slots) (env : Environment) → MeansSlots c q s env → Agree q s t → MeansSlots c q t env
  still q s t env m a = record { meant = λ k h. let v = m.meant k h in (v.0, v.1, a k h ∙ v.2, v.3, v.4); just = m.just }

  -- a variable is entered in both
  pub entered : (b : Bool) (q : ℕ → Bool) (s : Slots) (env : Environment) (x : ValueTree) (v : Value) → q zero ≡ b →
      MeansSlots c (outside q) s env → Means c x v →
      MeansSlots c q (kept b x ∷ s) (enter b v env)
  entered true q s env x v e m h = record { meant = at; just = not_at }
    where
      at : (k : ℕ) → q k ≡ true → MeansAt c k (Some x ∷ s) (slot v env)
      at zero g = (x, v, refl, refl, h)
      at (suc k) g = m.meant k g

      not_at : HasJust q (slot v env)
      not_at zero g = absurd (false≢true (sym g ∙ e))
      not_at (suc k) g = m.just k g
  entered false q s env x v e m h = record { meant = at; just = not_at }
    where
      at : (k : ℕ) → q k ≡ true → MeansAt c k (None ∷ s) (hole env)
      at zero g = absurd (false≢true (sym e ∙ g))
      at (suc k) g = m.meant k g

      not_at : HasJust q (hole env)
      not_at zero g = refl
      not_at (suc k) g = m.just k g

  -- no variable has a value
  pub without : (q : ℕ → Bool) → ((k : ℕ) → q k ≡ false) → MeansSlots c q [] none
  without q h = record { meant = λ k g. absurd (false≢true (sym (h k) ∙ g)); just = λ k g. refl }

  one_captured : (b : Bool) (j : ℕ) (y : ValueTree) (s : Slots) (w : Value) (env : Environment) (k : ℕ) → is j k ≡ b →
      lookup env j ≡ Some w → Means c y w →
      (b ≡ false → MeansAt c k s env) → MeansAt c k (filled j y s) env
  one_captured true j y s w env k e l m r = (y, w, filled_itself j y s k e, ap (lookup env) (sym (is_same j k e)) ∙ l, m)
  one_captured false j y s w env k e l m r = let z = r refl in (z.0, z.1, filled_other j y s k e ∙ z.2, z.3, z.4)

  all_captured : (ys : ValueTrees) (js : List ℕ) (env : Environment) → MeanCaptured c ys js env →
      (k : ℕ) → among js k ≡ true → MeansAt c k (spread js ys) env
  all_captured tree.none [] env h k g = absurd (false≢true g)
  all_captured tree.none (j ∷ js) env h k g = absurd h
  all_captured (tree.value y ys) [] env h k g = absurd h
  all_captured (tree.value y ys) (j ∷ js) env h k g =
      one_captured (is j k) j y (spread js ys) h.0 env k refl h.1 h.2
      (λ e. all_captured ys js env h.3 k (sym (ap (λ b. b || among js k) e) ∙ g))

  -- what is captured means what the variables have
  pub captured_means : (xs : ValueTrees) (ks : List ℕ) (q : ℕ → Bool) (env : Environment) → MeanCaptured c xs ks env →
      ((k : ℕ) → among ks k ≡ q k) → HasJust q env →
      MeansSlots c q (spread ks xs) env
  captured_means xs ks q env m i j = record { meant = λ k g. all_captured xs ks env m k (i k ∙ g); just = j }

  -- and no other variable has a value in either
  pub captured_alike : (xs : ValueTrees) (ks : List ℕ) (q : ℕ → Bool) (env : Environment) → MeanCaptured c xs ks env →
      ((k : ℕ) → among ks k ≡ q k) → HasJust q env →
      AreAlike c (spread ks xs) env
  captured_alike xs ks q env m i j k = pick (among ks k) refl
    where
      pick : (b : Bool) → among ks k ≡ b → ((slot_at (spread ks xs) k ≡ None) × (lookup env k ≡ None)) ⊎
          MeansAt c k (spread ks xs) env
      pick true e = inr (all_captured xs ks env m k e)
      pick false e = inl (spread_other ks xs k e, j k (sym (i k) ∙ e))
