-- Terms below variables: where these are bound, the code stands for the term, and leaves them.
use Rattle.std.proofs.Common.{◌≡◌, ℕ, zero, suc, ◌+◌, Bool, true, List, ◌∷◌, length, drop, refl, ap, ◌∙◌, arith}
use Rattle.fst_terms.specs.declared.binder.Binder.{Binder}
use Rattle.fst_terms.specs.CoreTree.{CoreTree}
use Rattle.fst_value.specs.ValueTree.{ValueTree, ValueTrees}
use Rattle.fst_machine.specs.declared.code.Instr.TheVariants as instr
use Rattle.fst_machine.specs.Free.{free, outside, outside_all}
use Rattle.fst_machine.specs.Values.{Value, Values, Environment, enter, keep, count, enter_all}
use Rattle.fst_machine.specs.Machine.{Frame, eval, resume}
use Rattle.fst_machine.specs.Code.{Compiled, At, Comes, Binds, BindsAll, Computes, also, within, within_all}
use Rattle.fst_machine.specs.Spots.{Slots, Call, slot_at, stacked}
use Rattle.fst_machine.specs.Standing.{Means, MeanAll, MeansSlots, StandsFor}
use Rattle.fst_machine.proofs.Steps.{spot}
use Rattle.fst_machine.proofs.Slots.{Agree, dropped_at, kept, part, entered, in_also, in_behind}
use Rattle.fst_machine.proofs.Moves.{bound, bound_all, unbound, comes, within_all_at}
use Rattle.fst_machine.proofs.Goods.{Awaits, Good}

module _ (n : ℕ) (c : Compiled) where
  -- what is awaited where the code comes is awaited before
  pub comes_awaited : (i j : ℕ) (p : ℕ → Bool) (slots : Slots) (ops : List ValueTree) (calls : List Call) (fs : List Frame) →
      Comes c i j → Awaits n c j p slots ops calls fs → Awaits n c i p slots ops calls fs
  comes_awaited i j p slots ops calls fs h k x v os m a =
      comes n c i j os (x ∷ ops) calls (resume c.families fs v) h (k x v os m a)

  -- what is awaited behind some variables is awaited where these are left
  pub unbound_awaited : (xs : List Binder) (i j : ℕ) (p : ℕ → Bool) (slots os : Slots) (ops : List ValueTree) (calls : List Call)
      (fs : List Frame) →
      At c i (instr.Unbind (length xs)) j → ((k : ℕ) → p k ≡ true → slot_at os (length xs + k) ≡ slot_at slots k) →
      Awaits n c j p slots ops calls fs → Awaits n c i (within_all xs p) os ops calls fs
  unbound_awaited xs i j p slots os ops calls fs h s k x v ot m a =
      unbound n c (length xs) i j ot (x ∷ ops) calls (resume c.families fs v) h
      (k x v (drop (length xs) ot) m (λ l g. dropped_at (length xs) ot l ∙ a (length xs + l) (within_all_at xs p l ∙ g) ∙ s l g))

  -- a term below one variable
  pub below_one : (f : CoreTree) (i b r j : ℕ) (p q : ℕ → Bool) (env : Environment) (slots os : Slots) (ops : List ValueTree)
      (calls : List Call) (fs : List Frame) (x : ValueTree) (v : Value) →
      Good n c f → Binds c i (free f zero) b → Computes c b f (within p) r → At c r (instr.Unbind 1) j →
      MeansSlots c q slots env → ((k : ℕ) → free f (suc k) ≡ true → q k ≡ true) → Agree (also (outside (free f)) p) slots os →
      Means c x v → Awaits n c j p slots ops calls fs →
      StandsFor n c (spot i os (x ∷ ops) calls) (eval c.families f (enter (free f zero) v (keep (outside (free f)) env)) fs
      (resume c.families fs))
  below_one f i b r j p q env slots os ops calls fs x v g hb hc hu m u a mx k =
      let inside : Slots = kept (free f zero) x ∷ os in
      bound n c (free f zero) i b os ops calls x _ hb
      (g b r (within p) (enter (free f zero) v (keep (outside (free f)) env)) inside ops calls fs hc
      (entered c (free f zero) (free f) os (keep (outside (free f)) env) x v refl
      (part c q (outside (free f)) slots os env m u (λ l e. a l (in_also (outside (free f)) p l e))) mx)
      (λ z w ot mz d.
      unbound n c 1 r j ot (z ∷ ops) calls (resume c.families fs w) hu
      (k z w (drop 1 ot) mz
      (λ l e. let y : 1 + l ≡ suc l = omega arith in dropped_at 1 ot l ∙ ap (slot_at ot) y ∙ d (suc l) e
      ∙ a l (in_behind (outside (free f)) p l e)))))

  -- a term below two variables
  pub below_two : (f : CoreTree) (i s b r j : ℕ) (p q : ℕ → Bool) (env : Environment) (slots os : Slots) (ops : List ValueTree)
      (calls : List Call) (fs : List Frame) (x y : ValueTree) (v w : Value) →
      Good n c f → Binds c i (free f (suc zero)) s → Binds c s (free f zero) b → Computes c b f (within (within p)) r →
      At c r (instr.Unbind 2) j →
      MeansSlots c q slots env → ((k : ℕ) → free f (suc (suc k)) ≡ true → q k ≡ true) →
      Agree (also (outside (outside (free f))) p) slots os → Means c x v → Means c y w → Awaits n c j p slots ops calls fs →
      StandsFor n c (spot i os (x ∷ y ∷ ops) calls)
      (eval c.families f (enter (free f zero) w (enter (free f (suc zero)) v (keep (outside (outside (free f))) env))) fs
      (resume c.families fs))
  below_two f i s b r j p q env slots os ops calls fs x y v w g hs hb hc hu m u a mx my k =
      let env1 : Environment = enter (free f (suc zero)) v (keep (outside (outside (free f))) env) in
      let one : Slots = kept (free f (suc zero)) x ∷ os in
      let two : Slots = kept (free f zero) y ∷ one in
      bound n c (free f (suc zero)) i s os (y ∷ ops) calls x _ hs
      (bound n c (free f zero) s b one ops calls y _ hb
      (g b r (within (within p)) (enter (free f zero) w env1) two ops calls fs hc
      (entered c (free f zero) (free f) one env1 y w refl
      (entered c (free f (suc zero)) (outside (free f)) os (keep (outside (outside (free f))) env) x v refl
      (part c q (outside (outside (free f))) slots os env m u (λ l e. a l (in_also (outside (outside (free f))) p l e))) mx) my)
      (λ z d ot mz t.
      unbound n c 2 r j ot (z ∷ ops) calls (resume c.families fs d) hu
      (k z d (drop 2 ot) mz
      (λ l e. let o : 2 + l ≡ suc (suc l) = omega arith in dropped_at 2 ot l ∙ ap (slot_at ot) o ∙ t (suc (suc l)) e
      ∙ a l (in_behind (outside (outside (free f))) p l e))))))

  -- a term below the fields of a constructor
  pub below_all : (xs : List Binder) (f : CoreTree) (i b r j : ℕ) (p q : ℕ → Bool) (env : Environment) (slots os : Slots)
      (ops : List ValueTree) (calls : List Call) (fs : List Frame) (ts : ValueTrees) (vs : Values) →
      Good n c f → BindsAll c i xs (free f) b → Computes c b f (within_all xs p) r → At c r (instr.Unbind (length xs)) j →
      MeansSlots c q slots env → ((k : ℕ) → outside_all xs (free f) k ≡ true → q k ≡ true) →
      Agree (also (outside_all xs (free f)) p) slots os → MeanAll c ts vs → length xs ≡ count vs →
      Awaits n c j p slots ops calls fs →
      StandsFor n c (spot i os (stacked ts ops) calls)
      (eval c.families f (enter_all (free f) vs (keep (outside_all xs (free f)) env)) fs (resume c.families fs))
  below_all xs f i b r j p q env slots os ops calls fs ts vs g hb hc hu m u a mx l k =
      bound_all n c xs i b (free f) ts vs os ops calls (keep (outside_all xs (free f)) env) _ hb mx l
      (part c q (outside_all xs (free f)) slots os env m u (λ k e. a k (in_also (outside_all xs (free f)) p k e)))
      (λ ot mt at.
      g b r (within_all xs p) (enter_all (free f) vs (keep (outside_all xs (free f)) env)) ot ops calls fs hc mt
      (unbound_awaited xs r j p slots ot ops calls fs hu (λ k e. at k ∙ a k (in_behind (outside_all xs (free f)) p k e)) k))
