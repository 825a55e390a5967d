-- The ends in values of code are those that the values of terms hold.
use Rattle.std.proofs.Common.{◌≡◌, ◌∙◌, ◌⊎◌, inl, inr, ◌<◌, ℕ, zero, suc, ◌+◌, List, [], ◌∷◌, ◌++◌, length, Bool, true, false, Option, Some, None, Contains, refl, sym, ap, subst, arith}
use Rattle.std.specs.Prelude.{◌||◌}
use Rattle.std.proofs.lemmas.List.Elements.{Contains-append_left, Contains-append_right, Contains-append_cases}
use Rattle.fst_base.proofs.Options.{some_same, none_some}
use Rattle.fst_value.specs.ValueTree as tree
use Rattle.fst_value.specs.ValueTree.{ValueTree, ValueTrees}
use Rattle.fst_value.specs.Cells.{ends_in, ends_in_all}
use Rattle.fst_types.specs.declared.ends.EndName.{EndName}
use Rattle.fst_terms.specs.CoreTree.{CoreTree}
use Rattle.fst_machine.specs.Code.{Compiled, Lists, among}
use Rattle.fst_machine.specs.Free.{is, free, outside}
use Rattle.fst_machine.specs.Spots.{Slots, slot_at}
use Rattle.fst_machine.specs.Standing.{HasJust, Means, MeanAll, MeanCaptured, MeansAt, AreAlike}
use Rattle.fst_machine.specs.Values as value
use Rattle.fst_machine.specs.Values.{Value, Values, Environment, none, hole, slot, lookup}
use Rattle.fst_vm.specs.Moves.{ends_in_slot, ends_in_slots}
use Rattle.fst_runs.specs.Configs.{same_end}
use Rattle.fst_runs.specs.Wrong.{once, held, held_all, held_env}
use Rattle.fst_runs.proofs.Laws.{same_end-itself, same_end-same}

either : {A B C : Type 0} → A ⊎ B → (A → C) → (B → C) → C
either (inl a) f g = f a
either (inr b) f g = g b

only_one : (j k : ℕ) → Contains (j ∷ []) k → j ≡ k
only_one j k (zero, l, e) = e
only_one j k (suc i, l, e) = absurd (omega (arith, l))

-- the end stands in both or in neither
abbrev pub BothHold : EndName → List EndName → ℕ → Type 0
BothHold z names n = (Contains names z → 0 < n) × (0 < n → Contains names z)

nothing : (z : EndName) → BothHold z [] 0
nothing z = (λ c. let h : c.0 < 0 = c.1 in absurd (omega (arith, h)), λ h. absurd (omega (arith, h)))

joined : (z : EndName) (xs ys : List EndName) (i j : ℕ) → BothHold z xs i → BothHold z ys j → BothHold z (xs ++ ys) (i + j)
joined z xs ys i j g h = (λ c. there (Contains-append_cases xs ys z c), λ n. back i refl n)
  where
    there : Contains xs z ⊎ Contains ys z → 0 < i + j
    there (inl c) = let k = g.0 c in omega (arith, k)
    there (inr c) = let k = h.0 c in omega (arith, k)

    back : (k : ℕ) → i ≡ k → 0 < i + j → Contains (xs ++ ys) z
    back zero e n = Contains-append_right xs ys z (h.1 (omega (arith, e, n)))
    back (suc k) e n = Contains-append_left xs ys z (g.1 (omega (arith, e)))

one_end : (z y : EndName) → BothHold z (y ∷ []) (once (same_end z y))
one_end z y = (there, λ n. back (same_end z y) refl n)
  where
    there : Contains (y ∷ []) z → 0 < once (same_end z y)
    there (zero, l, e) = let q = ap once (ap (same_end z) e ∙ same_end-itself z) in omega (arith, q)
    there (suc i, l, e) = absurd (omega (arith, l))

    back : (b : Bool) → same_end z y ≡ b → 0 < once (same_end z y) → Contains (y ∷ []) z
    back true e n = (0, omega arith, sym (same_end-same z y e))
    back false e n = let q = ap once e in absurd (omega (arith, q, n))

-- a value that a variable stands for holds no more than its environment
found_held : (z : EndName) (env : Environment) (k : ℕ) (v : Value) → lookup env k ≡ Some v → 0 < held z v → 0 < held_env z env
found_held z none k v e n = absurd (none_some e)
found_held z (hole env) zero v e n = absurd (none_some e)
found_held z (hole env) (suc k) v e n = found_held z env k v e n
found_held z (slot w env) zero v e n = let q = ap (held z) (some_same e) in omega (arith, q, n)
found_held z (slot w env) (suc k) v e n = let q = found_held z env k v e n in omega (arith, q)

-- an environment with one more value: the first holds the end, or one of those behind it does
here_or : (z : EndName) (v : Value) (env : Environment) →
    (0 < held_env z env → (k : ℕ) × (w : Value) × (lookup env k ≡ Some w) × (0 < held z w)) → 0 < held z v + held_env z env →
    (i : ℕ) → held z v ≡ i → (k : ℕ) × (w : Value) × (lookup (slot v env) k ≡ Some w) × (0 < held z w)
here_or z v env more n zero e = let g = more (omega (arith, e, n)) in (suc g.0, g.1, g.2, g.3)
here_or z v env more n (suc i) e = (zero, v, refl, omega (arith, e))

-- what an environment holds, one of its values holds
held_found : (z : EndName) (env : Environment) → 0 < held_env z env → (k : ℕ) × (v : Value) × (lookup env k ≡ Some v) ×
    (0 < held z v)
held_found z none n = absurd (omega (arith, n))
held_found z (hole env) n = let g = held_found z env n in (suc g.0, g.1, g.2, g.3)
held_found z (slot v env) n = here_or z v env (held_found z env) n (held z v) refl

is_same : (n k : ℕ) → is n k ≡ true → n ≡ k
is_same zero zero e = refl
is_same zero (suc k) e = absurd (cc e)
is_same (suc n) zero e = absurd (cc e)
is_same (suc n) (suc k) e = ap suc (is_same n k e)

first_or : (n k : ℕ) (ns : List ℕ) → (among ns k ≡ true → Contains ns k) → (b : Bool) → is n k ≡ b →
    (b || among ns k) ≡ true → Contains (n ∷ ns) k
first_or n k ns more true i g = (0, omega arith, is_same n k i)
first_or n k ns more false i g = let m = more g in (suc m.0, (let l : m.0 < length ns = m.1 in omega (arith, l)), m.2)

member : (k : ℕ) (ns : List ℕ) → among ns k ≡ true → Contains ns k
member k [] h = absurd (cc h)
member k (n ∷ ns) h = first_or n k ns (member k ns) (is n k) refl h

-- a variable that has a value is one of those that are listed
in_list : (e : CoreTree) (env : Environment) (ks : List ℕ) → Lists ks (outside (free e)) → HasJust (outside (free e)) env →
    (k : ℕ) (v : Value) → lookup env k ≡ Some v → Contains ks k
in_list e env ks l j k v q = go (outside (free e) k) refl
  where
    go : (b : Bool) → outside (free e) k ≡ b → Contains ks k
    go true i = member k ks (l.members k ∙ i)
    go false i = absurd (none_some (sym (j k i) ∙ q))

module _ (c : Compiled) (z : EndName) where
  mutual
    pub value_ends : (x : ValueTree) (v : Value) → Means c x v → BothHold z (ends_in x) (held z v)
    value_ends (tree.int n) v h = subst (λ w. BothHold z [] (held z w)) (sym h) (nothing z)
    value_ends (tree.bool b) v h = subst (λ w. BothHold z [] (held z w)) (sym h) (nothing z)
    value_ends (tree.char n) v h = subst (λ w. BothHold z [] (held z w)) (sym h) (nothing z)
    value_ends tree.unit v h = subst (λ w. BothHold z [] (held z w)) (sym h) (nothing z)
    value_ends (tree.pair x y) v h =
        subst (λ w. BothHold z (ends_in x ++ ends_in y) (held z w)) (sym h.2)
        (joined z (ends_in x) (ends_in y) (held z h.0) (held z h.1) (value_ends x h.0 h.3) (value_ends y h.1 h.4))
    value_ends (tree.make n o xs) v h = subst (λ w. BothHold z (ends_in_all xs) (held z w)) (sym h.1) (all_ends xs h.0 h.3)
    value_ends (tree.function l xs) v h =
        subst (λ w. BothHold z (ends_in_all xs) (held z w)) (sym h.3) (
          captured_there xs h.2.entry.captured.items h.1 h.4,
          λ n. let g = held_found z h.1 n in captured_back xs h.2.entry.captured.items h.1 h.4 g.0 g.1 g.2 g.3
              (in_list h.0 h.1 h.2.entry.captured.items h.2.listed h.5 g.0 g.1 g.2),
        )
    value_ends (tree.end y) v h = subst (λ w. BothHold z (y ∷ []) (held z w)) (sym h) (one_end z y)

    all_ends : (xs : ValueTrees) (vs : Values) → MeanAll c xs vs → BothHold z (ends_in_all xs) (held_all z vs)
    all_ends tree.none value.no_values h = nothing z
    all_ends tree.none (value.value v vs) h = absurd h
    all_ends (tree.value x xs) value.no_values h = absurd h
    all_ends (tree.value x xs) (value.value v vs) h =
        joined z (ends_in x) (ends_in_all xs) (held z v) (held_all z vs) (value_ends x v h.0) (all_ends xs vs h.1)

    captured_there : (xs : ValueTrees) (ks : List ℕ) (env : Environment) → MeanCaptured c xs ks env →
        Contains (ends_in_all xs) z → 0 < held_env z env
    captured_there tree.none [] env h n = let q : n.0 < 0 = n.1 in absurd (omega (arith, q))
    captured_there tree.none (k ∷ ks) env h n = absurd h
    captured_there (tree.value x xs) [] env h n = absurd h
    captured_there (tree.value x xs) (k ∷ ks) env h n =
        either (Contains-append_cases (ends_in x) (ends_in_all xs) z n)
        (λ q. found_held z env k h.0 h.1 ((value_ends x h.0 h.2).0 q)) (captured_there xs ks env h.3)

    captured_back : (xs : ValueTrees) (ks : List ℕ) (env : Environment) → MeanCaptured c xs ks env →
        (k : ℕ) (v : Value) → lookup env k ≡ Some v → 0 < held z v → Contains ks k → Contains (ends_in_all xs) z
    captured_back tree.none [] env h k v e n q = let g : q.0 < 0 = q.1 in absurd (omega (arith, g))
    captured_back tree.none (j ∷ ks) env h k v e n q = absurd h
    captured_back (tree.value x xs) [] env h k v e n q = absurd h
    captured_back (tree.value x xs) (j ∷ ks) env h k v e n q =
        either (Contains-append_cases (j ∷ []) ks k q)
        (λ p.
        let same : h.0 ≡ v = some_same (sym h.1 ∙ ap (lookup env) (only_one j k p) ∙ e) in
        Contains-append_left (ends_in x) (ends_in_all xs) z ((value_ends x h.0 h.2).1 (subst (λ w. 0 < held z w) (sym same) n)))
        (λ p. Contains-append_right (ends_in x) (ends_in_all xs) z (captured_back xs ks env h.3 k v e n p))

-- ---- variables

in_slot : (z : EndName) (o : Option ValueTree) → Contains (ends_in_slot o) z → (x : ValueTree) ×
    (o ≡ Some x) × Contains (ends_in x) z
in_slot z None q = let g : q.0 < 0 = q.1 in absurd (omega (arith, g))
in_slot z (Some x) q = (x, refl, q)

slots_found : (z : EndName) (os : Slots) → Contains (ends_in_slots os) z → (k : ℕ) × (x : ValueTree) ×
    (slot_at os k ≡ Some x) × Contains (ends_in x) z
slots_found z [] n = let q : n.0 < 0 = n.1 in absurd (omega (arith, q))
slots_found z (o ∷ os) n =
    either (Contains-append_cases (ends_in_slot o) (ends_in_slots os) z n)
    (λ q. let g = in_slot z o q in (zero, g.0, g.1, g.2))
    (λ q. let g = slots_found z os q in (suc g.0, g.1, g.2, g.3))

found_slots : (z : EndName) (os : Slots) (k : ℕ) (x : ValueTree) → slot_at os k ≡ Some x → Contains (ends_in x) z →
    Contains (ends_in_slots os) z
found_slots z [] k x e n = absurd (none_some e)
found_slots z (None ∷ os) zero x e n = absurd (none_some e)
found_slots z (Some y ∷ os) zero x e n = Contains-append_left (ends_in y) (ends_in_slots os) z
    (subst (λ w. Contains (ends_in w) z) (sym (some_same e)) n)
found_slots z (o ∷ os) (suc k) x e n = Contains-append_right (ends_in_slot o) (ends_in_slots os) z (found_slots z os k x e n)

-- the ends in what variables of code stand for are those that the environment holds
pub slots_ends : (c : Compiled) (os : Slots) (env : Environment) → AreAlike c os env →
    (z : EndName) → BothHold z (ends_in_slots os) (held_env z env)
slots_ends c os env h z = (there, back)
  where
    there : Contains (ends_in_slots os) z → 0 < held_env z env
    there n = let g = slots_found z os n in at g.0 g.1 g.2 g.3 (h g.0)
      where
        at : (k : ℕ) (x : ValueTree) → slot_at os k ≡ Some x → Contains (ends_in x) z →
            ((slot_at os k ≡ None) × (lookup env k ≡ None)) ⊎ MeansAt c k os env → 0 < held_env z env
        at k x e q (inl p) = absurd (none_some (sym p.0 ∙ e))
        at k x e q (inr p) =
            let same : x ≡ p.0 = some_same (sym e ∙ p.2) in
            found_held z env k p.1 p.3 ((value_ends c z p.0 p.1 p.4).0 (subst (λ w. Contains (ends_in w) z) same q))

    back : 0 < held_env z env → Contains (ends_in_slots os) z
    back n = let g = held_found z env n in at g.0 g.1 g.2 g.3 (h g.0)
      where
        at : (k : ℕ) (v : Value) → lookup env k ≡ Some v → 0 < held z v →
            ((slot_at os k ≡ None) × (lookup env k ≡ None)) ⊎ MeansAt c k os env → Contains (ends_in_slots os) z
        at k v e q (inl p) = absurd (none_some (sym p.1 ∙ e))
        at k v e q (inr p) =
            let same : v ≡ p.1 = some_same (sym e ∙ p.3) in
            found_slots z os k p.0 p.2 ((value_ends c z p.0 p.1 p.4).1 (subst (λ w. 0 < held z w) same q))
