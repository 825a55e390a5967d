-- Instructions that move variables to the stack and back: what stands for a task behind them stands for it before.
use Rattle.std.proofs.Common.{◌≡◌, ℕ, zero, suc, ◌+◌, Bool, true, false, not, ◌&&◌, ◌||◌, Some, None, List, [], ◌∷◌, length, drop, refl, sym, ap, ◌∙◌, subst, inl, inr, arith}
use Rattle.std.proofs.lemmas.Bool.{or_left, or_right, false≢true}
use Rattle.fst_terms.specs.declared.binder.Binder.{Binder}
use Rattle.fst_value.specs.ValueTree as tree
use Rattle.fst_value.specs.ValueTree.{ValueTree, ValueTrees}
use Rattle.fst_machine.specs.declared.code.Instr.TheVariants as instr
use Rattle.fst_machine.specs.Free.{is, outside_all}
use Rattle.fst_machine.specs.Values as value
use Rattle.fst_machine.specs.Values.{Value, Values, Environment, enter, count, enter_all, turned_onto}
use Rattle.fst_machine.specs.Machine.{Pause}
use Rattle.fst_machine.specs.Code.{Compiled, At, Leads, Comes, also, within_all, among, AreApart, load, Captures, Clears, Forgets, Binds, BindsAll}
use Rattle.fst_machine.specs.Spots.{Slots, Call, slot_at, emptied, collected, stacked, with_value}
use Rattle.fst_machine.specs.Standing.{MeanAll, MeanCaptured, MeansAt, MeansSlots, StandsFor}
use Rattle.fst_machine.proofs.Steps.{spot, stepped}
use Rattle.fst_machine.proofs.Slots.{is_itself, is_other, emptied_other, Agree, kept, entered}

-- values on the stack, the last one last
abbrev pub pushed : ValueTrees → List ValueTree → List ValueTree
pushed tree.none ops = ops
pushed (tree.value x xs) ops = pushed xs (x ∷ ops)

-- a number and as many more as there are values
abbrev more : ValueTrees → ℕ → ℕ
more tree.none m = m
more (tree.value x xs) m = more xs (suc m)

-- values in front of others
abbrev before : ValueTrees → ValueTrees → ValueTrees
before tree.none ys = ys
before (tree.value x xs) ys = tree.value x (before xs ys)

before_none : (xs : ValueTrees) → before xs tree.none ≡ xs
before_none tree.none = refl
before_none (tree.value x xs) = ap (tree.value x) (before_none xs)

more_collected : (xs : ValueTrees) (m : ℕ) (ops : List ValueTree) (ys : ValueTrees) →
    collected (more xs m) (pushed xs ops) ys ≡ collected m ops (before xs ys)
more_collected tree.none m ops ys = refl
more_collected (tree.value x xs) m ops ys = more_collected xs (suc m) (x ∷ ops) ys

-- values, the first ones turned round, in front of others
abbrev pub turned : ValueTrees → ValueTrees → ValueTrees
turned tree.none ys = ys
turned (tree.value x xs) ys = turned xs (tree.value x ys)

-- how many values there are
abbrev pub size : ValueTrees → ℕ
size tree.none = zero
size (tree.value x xs) = suc (size xs)

-- the values on the stack are collected in turn
pub stacked_collected : (xs : ValueTrees) (ops : List ValueTree) (ys : ValueTrees) →
    collected (size xs) (stacked xs ops) ys ≡ Some (turned xs ys, ops)
stacked_collected tree.none ops ys = refl
stacked_collected (tree.value x xs) ops ys = stacked_collected xs ops (tree.value x ys)

-- outside some binders a variable has a number less by theirs
pub outside_all_at : (xs : List Binder) (p : ℕ → Bool) (k : ℕ) → outside_all xs p k ≡ p (length xs + k)
outside_all_at [] p k = let e : k ≡ 0 + k = omega arith in ap p e
outside_all_at (x ∷ xs) p k = let e : length xs + suc k ≡ suc (length xs) + k = omega arith in outside_all_at xs p (suc k)
    ∙ ap p e

-- inside some binders a variable has a number greater by theirs
pub within_all_at : (xs : List Binder) (p : ℕ → Bool) (k : ℕ) → within_all xs p (length xs + k) ≡ p k
within_all_at [] p k = let e : 0 + k ≡ k = omega arith in ap p e
within_all_at (x ∷ xs) p k = let e : suc (length xs) + k ≡ suc (length xs + k) = omega arith in ap (within_all (x ∷ xs) p) e
    ∙ within_all_at xs p k

not_dropped : (q f p : Bool) → (f || p) ≡ true → (q && not (f || p)) ≡ false
not_dropped true f p h = ap not h
not_dropped false f p h = refl

dropped_there : (q f p : Bool) → (q && not (f || p)) ≡ true → q ≡ true
dropped_there true f p h = refl
dropped_there false f p h = absurd (false≢true h)

module _ (c : Compiled) where
  so_many : (xs : ValueTrees) (ks : List ℕ) (env : Environment) (m : ℕ) → MeanCaptured c xs ks env → length ks + m ≡ more xs m
  so_many tree.none [] env m h = let e : 0 + m ≡ m = omega arith in e
  so_many tree.none (k ∷ ks) env m h = absurd h
  so_many (tree.value x xs) [] env m h = absurd h
  so_many (tree.value x xs) (k ∷ ks) env m h = let e : suc (length ks) + m ≡ length ks + suc m = omega arith in e
      ∙ so_many xs ks env (suc m) h.3

  -- the values that are captured are collected
  pub captured_collected : (xs : ValueTrees) (ks : List ℕ) (env : Environment) (ops : List ValueTree) → MeanCaptured c xs ks env →
      collected (length ks) (pushed xs ops) tree.none ≡ Some (xs, ops)
  captured_collected xs ks env ops m =
      let z : length ks ≡ length ks + 0 = omega arith in
      ap (λ k. collected k (pushed xs ops) tree.none) (z ∙ so_many xs ks env zero m) ∙ more_collected xs zero ops tree.none ∙ ap
      (λ ys. Some (ys, ops)) (before_none xs)

  -- values that are turned round go along
  pub turned_means : (xs ys : ValueTrees) (vs ws : Values) → MeanAll c xs vs → MeanAll c ys ws →
      MeanAll c (turned xs ys) (turned_onto vs ws)
  turned_means tree.none ys value.no_values ws h g = g
  turned_means tree.none ys (value.value v vs) ws h g = absurd h
  turned_means (tree.value x xs) ys value.no_values ws h g = absurd h
  turned_means (tree.value x xs) ys (value.value v vs) ws h g =
      turned_means xs (tree.value x ys) vs (value.value v ws) h.1 (h.0, g)

  -- there are as many of them
  pub same_size : (xs : ValueTrees) (vs : Values) → MeanAll c xs vs → size xs ≡ count vs
  same_size tree.none value.no_values h = refl
  same_size tree.none (value.value v vs) h = absurd h
  same_size (tree.value x xs) value.no_values h = absurd h
  same_size (tree.value x xs) (value.value v vs) h = ap suc (same_size xs vs h.1)

module _ (n : ℕ) (c : Compiled) where
  -- a variable is copied or moved to the stack
  pub loaded : (i j k : ℕ) (p : ℕ → Bool) (slots : Slots) (ops : List ValueTree) (calls : List Call) (x : ValueTree) (q : Pause) →
      At c i (load (p k) k) j → slot_at slots k ≡ Some x →
      ((os : Slots) → Agree p slots os → ((m : ℕ) → is k m ≡ false → slot_at os m ≡ slot_at slots m) →
      StandsFor n c (spot j os (x ∷ ops) calls) q) →
      StandsFor n c (spot i slots ops calls) q
  loaded i j k p slots ops calls x q h e f = go (p k) refl h
    where
      go : (b : Bool) → p k ≡ b → At c i (load b k) j → StandsFor n c (spot i slots ops calls) q
      go true u g =
          stepped n c i (instr.Load k) j slots ops calls (spot j slots (x ∷ ops) calls) q g
          (ap (λ o. with_value j o ops (spot i slots ops calls)) e)
          (f slots (λ m a. refl) (λ m a. refl))
      go false u g =
          stepped n c i (instr.Take k) j slots ops calls (spot j (emptied k slots) (x ∷ ops) calls) q g
          (ap (λ o. with_value j o ops (spot i (emptied k slots) ops calls)) e)
          (f (emptied k slots) (λ m a. emptied_other k slots m (is_other p k m u a)) (λ m a. emptied_other k slots m a))

  -- variables are captured
  pub captures : (ks : List ℕ) (i j : ℕ) (p : ℕ → Bool) (slots : Slots) (ops : List ValueTree) (calls : List Call)
      (env : Environment) (q : Pause) →
      Captures c i ks p j → AreApart ks → ((k : ℕ) → among ks k ≡ true → MeansAt c k slots env) →
      ((os : Slots) (xs : ValueTrees) → Agree p slots os → MeanCaptured c xs ks env →
      StandsFor n c (spot j os (pushed xs ops) calls) q) →
      StandsFor n c (spot i slots ops calls) q
  captures [] i j p slots ops calls env q h a m f = subst
      (λ z. StandsFor n c (spot z slots ops calls) q) (sym h) (f slots tree.none (λ k g. refl) tt)
  captures (k ∷ ks) i j p slots ops calls env q h a m f =
      let v = m k (or_left (is k k) (among ks k) (is_itself k)) in
      loaded i h.0 k p slots ops calls v.0 q h.1 v.2
      (λ os g o.
      captures ks h.0 j p os (v.0 ∷ ops) calls env q h.2 a.1
      (λ l e. let w = m l (or_right (is k l) (among ks l) e) in (w.0, w.1, o l (is_other (among ks) k l a.0 e) ∙ w.2, w.3, w.4))
      (λ ot xs g2 mm. f ot (tree.value v.0 xs) (λ l e. g2 l e ∙ g l e) (v.1, v.3, v.4, mm)))

  -- variables are dropped
  pub cleared : (ks : List ℕ) (i j : ℕ) (slots : Slots) (ops : List ValueTree) (calls : List Call) (q : Pause) →
      Clears c i ks j → AreApart ks → ((k : ℕ) → among ks k ≡ true → (x : ValueTree) × (slot_at slots k ≡ Some x)) →
      ((os : Slots) → ((k : ℕ) → among ks k ≡ false → slot_at os k ≡ slot_at slots k) → StandsFor n c (spot j os ops calls) q) →
      StandsFor n c (spot i slots ops calls) q
  cleared [] i j slots ops calls q h a m f = subst (λ z. StandsFor n c (spot z slots ops calls) q) (sym h) (f slots (λ k g. refl))
  cleared (k ∷ ks) i j slots ops calls q h a m f =
      let v = m k (or_left (is k k) (among ks k) (is_itself k)) in
      stepped n c i (instr.Take k) h.0 slots ops calls (spot h.0 (emptied k slots) (v.0 ∷ ops) calls) q h.2
      (ap (λ o. with_value h.0 o ops (spot i (emptied k slots) ops calls)) v.1)
      (stepped n c h.0 instr.Drop h.1 (emptied k slots) (v.0 ∷ ops) calls (spot h.1 (emptied k slots) ops calls) q h.3 refl
      (cleared ks h.1 j (emptied k slots) ops calls q h.4 a.1
      (λ l e. let w = m l (or_right (is k l) (among ks l) e) in
      (w.0, emptied_other k slots l (is_other (among ks) k l a.0 e) ∙ w.1))
      (λ os g. f os (λ l e. g l (none_right (is k l) (among ks l) e)
      ∙ emptied_other k slots l (none_left (is k l) (among ks l) e)))))
    where
      none_left : (a b : Bool) → (a || b) ≡ false → a ≡ false
      none_left true b e = e
      none_left false b e = refl

      none_right : (a b : Bool) → (a || b) ≡ false → b ≡ false
      none_right true b e = absurd (false≢true (sym e))
      none_right false b e = e

  -- the code jumps
  pub led : (i j : ℕ) (slots : Slots) (ops : List ValueTree) (calls : List Call) (q : Pause) →
      Leads c i j → StandsFor n c (spot j slots ops calls) q → StandsFor n c (spot i slots ops calls) q
  led i j slots ops calls q h f = stepped n c i (instr.Jump j) h.behind slots ops calls (spot j slots ops calls) q h.jump refl f

  -- or is there
  pub comes : (i j : ℕ) (slots : Slots) (ops : List ValueTree) (calls : List Call) (q : Pause) →
      Comes c i j → StandsFor n c (spot j slots ops calls) q → StandsFor n c (spot i slots ops calls) q
  comes i j slots ops calls q (inl e) f = subst (λ z. StandsFor n c (spot z slots ops calls) q) (sym e) f
  comes i j slots ops calls q (inr h) f = led i j slots ops calls q h f

  -- what isn't used behind is forgotten
  pub forgotten : (i j : ℕ) (r f p : ℕ → Bool) (slots : Slots) (ops : List ValueTree) (calls : List Call) (env : Environment)
      (q : Pause) →
      Forgets c i r f p j → MeansSlots c r slots env →
      ((os : Slots) → Agree (also f p) slots os → StandsFor n c (spot j os ops calls) q) →
      StandsFor n c (spot i slots ops calls) q
  forgotten i j r f p slots ops calls env q h m g =
      cleared h.variables i h.last slots ops calls q h.clears h.listed.apart
      (λ k e. let v = m.meant k (dropped_there (r k) (f k) (p k) (sym (h.listed.members k) ∙ e)) in (v.0, v.2))
      (λ os a. comes h.last j os ops calls q h.comes (g os (λ k e. a k (h.listed.members k ∙ not_dropped (r k) (f k) (p k) e))))

  -- the last value becomes a variable
  pub bound : (b : Bool) (i j : ℕ) (slots : Slots) (ops : List ValueTree) (calls : List Call) (x : ValueTree) (q : Pause) →
      Binds c i b j → StandsFor n c (spot j (kept b x ∷ slots) ops calls) q → StandsFor n c (spot i slots (x ∷ ops) calls) q
  bound true i j slots ops calls x q h f = stepped n c i instr.Bind j slots (x ∷ ops) calls
      (spot j (Some x ∷ slots) ops calls) q h refl f
  bound false i j slots ops calls x q h f =
      stepped n c i instr.Bind h.0 slots (x ∷ ops) calls (spot h.0 (Some x ∷ slots) ops calls) q h.2 refl
      (stepped n c h.0 (instr.Take zero) h.1 (Some x ∷ slots) ops calls (spot h.1 (None ∷ slots) (x ∷ ops) calls) q h.3 refl
      (stepped n c h.1 instr.Drop j (None ∷ slots) (x ∷ ops) calls (spot j (None ∷ slots) ops calls) q h.4 refl f))

  -- so many variables are left
  pub unbound : (m i j : ℕ) (slots : Slots) (ops : List ValueTree) (calls : List Call) (q : Pause) →
      At c i (instr.Unbind m) j → StandsFor n c (spot j (drop m slots) ops calls) q → StandsFor n c (spot i slots ops calls) q
  unbound m i j slots ops calls q h f = stepped n c i (instr.Unbind m) j slots ops calls
      (spot j (drop m slots) ops calls) q h refl f

  -- the fields become variables
  pub bound_all : (xs : List Binder) (i j : ℕ) (p : ℕ → Bool) (ts : ValueTrees) (vs : Values) (slots : Slots)
      (ops : List ValueTree) (calls : List Call) (env : Environment) (q : Pause) →
      BindsAll c i xs p j → MeanAll c ts vs → length xs ≡ count vs → MeansSlots c (outside_all xs p) slots env →
      ((os : Slots) → MeansSlots c p os (enter_all p vs env) →
      ((k : ℕ) → slot_at os (length xs + k) ≡ slot_at slots k) → StandsFor n c (spot j os ops calls) q) →
      StandsFor n c (spot i slots (stacked ts ops) calls) q
  bound_all [] i j p tree.none value.no_values slots ops calls env q h m l s f =
      subst (λ z. StandsFor n c (spot z slots ops calls) q) (sym h)
      (f slots s (λ k. let e : 0 + k ≡ k = omega arith in ap (slot_at slots) e))
  bound_all xs i j p tree.none (value.value v vs) slots ops calls env q h m l s f = absurd m
  bound_all xs i j p (tree.value t ts) value.no_values slots ops calls env q h m l s f = absurd m
  bound_all (x ∷ xs) i j p tree.none value.no_values slots ops calls env q h m l s f = let e : suc (length xs) ≡ 0 = l in
      absurd (omega (arith, e))
  bound_all [] i j p (tree.value t ts) (value.value v vs) slots ops calls env q h m l s f = let e : 0 ≡ suc (count vs) = l in
      absurd (omega (arith, e))
  bound_all (x ∷ xs) i j p (tree.value t ts) (value.value v vs) slots ops calls env q h m l s f =
      let e0 : suc (length xs) ≡ suc (count vs) = l in
      let e : length xs ≡ count vs = omega (arith, e0) in
      let z : length xs + 0 ≡ count vs = omega (arith, e0) in
      bound (p (length xs)) i h.0 slots (stacked ts ops) calls t q h.1
      (subst (λ k. StandsFor n c (spot h.0 (kept (p k) t ∷ slots) (stacked ts ops) calls) q) (sym e)
      (bound_all xs h.0 j p ts vs (kept (p (count vs)) t ∷ slots) ops calls (enter (p (count vs)) v env) q h.2 m.1 e
      (entered c (p (count vs)) (outside_all xs p) slots env t v (outside_all_at xs p zero ∙ ap p z) s m.0)
      (λ os g a. f os g (λ k. let y : suc (length xs) + k ≡ length xs + suc k = omega arith in ap (slot_at os) y ∙ a (suc k)))))
