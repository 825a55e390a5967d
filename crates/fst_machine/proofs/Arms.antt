-- Choices between terms: a truth value, a constructor, or a label that is received.
use Rattle.std.proofs.Common.{◌≡◌, ℕ, Bool, true, false, Some, option_map, List, ◌∷◌, length, slice_get, refl, sym, ap, ◌∙◌, subst}
use Rattle.std.specs.Str.{bytes_eq}
use Rattle.std.proofs.lemmas.Bool.{or_left, or_right}
use Rattle.std.proofs.lemmas.Slice.Eq.{bytes_eq-Decides}
use Rattle.std.specs.Global.{Global}
use Rattle.std.specs.Prelude.{Vec}
use Rattle.fst_types.specs.declared.family.Family.{Family}
use Rattle.fst_types.specs.declared.family.Maker.{Maker}
use Rattle.fst_terms.specs.declared.binder.Binder.{Binder}
use Rattle.fst_terms.specs.CoreTree.{CoreTree, CoreArms, no_arms, arm}
use Rattle.fst_terms.specs.InRange.{maker_of, HasFields}
use Rattle.fst_value.specs.ValueTree as tree
use Rattle.fst_value.specs.ValueTree.{ValueTree, ValueTrees}
use Rattle.fst_machine.specs.declared.code.Instr.TheVariants as instr
use Rattle.fst_machine.specs.Free.{free, free_below, outside_all}
use Rattle.fst_machine.specs.Values.{Values, Environment, keep, count, enter_all}
use Rattle.fst_machine.specs.Machine.{Frame, eval, eval_arm, resume, chosen, name_of}
use Rattle.fst_machine.specs.Code.{Compiled, At, Comes, Forgets, Computes, ComputesCases}
use Rattle.fst_machine.specs.Spots.{Slots, Call, stacked, in_arm}
use Rattle.fst_machine.specs.Standing.{MeanAll, MeansSlots, StandsFor, DistinctMakers}
use Rattle.fst_machine.proofs.Steps.{spot, stepped}
use Rattle.fst_machine.proofs.Moves.{forgotten}
use Rattle.fst_machine.proofs.Goods.{Awaits, Good, then_part}
use Rattle.fst_machine.proofs.Binding.{comes_awaited, below_all}
use Rattle.fst_machine.proofs.Operators.{nothing}

-- labels that are the same by their bytes
pub same_label : (l k : List ℕ) → bytes_eq l k ≡ true → l ≡ k
same_label l k h = (bytes_eq-Decides l k).0 h

module _ (n : ℕ) (c : Compiled) where
  -- a branch, whose variables are a part of those of both
  pub branch_stands : (f : CoreTree) (i s r j : ℕ) (p q : ℕ → Bool) (env : Environment) (slots : Slots) (ops : List ValueTree)
      (calls : List Call) (fs : List Frame) →
      Good n c f → Forgets c i q (free f) p s → Computes c s f p r → Comes c r j → MeansSlots c q slots env →
      ((k : ℕ) → free f k ≡ true → q k ≡ true) → Awaits n c j p slots ops calls fs →
      StandsFor n c (spot i slots ops calls) (eval c.families f (keep (free f) env) fs (resume c.families fs))
  branch_stands f i s r j p q env slots ops calls fs g hf hc hj m u k =
      forgotten n c i s q (free f) p slots ops calls env _ hf m
      (λ os a. then_part n c f s r p q env slots os ops calls fs g hc m u a (comes_awaited n c r j p slots ops calls fs hj k))

  -- so it is for the arms of a case
  abbrev pub GoodCases : CoreArms → Type 0
  GoodCases bs =
      (i b : ℕ) (places : Vec ℕ Global) (d : ℕ) (f : Family) (j : ℕ) (p q : ℕ → Bool) (num o : ℕ) (l : List ℕ) (ts : ValueTrees)
      (vs : Values)
      (env : Environment) (slots : Slots) (ops : List ValueTree) (calls : List Call) (fs : List Frame) →
      At c i (instr.Case places) b → slice_get c.families d ≡ Some f → ComputesCases c f places.items bs q p j →
      name_of c.families num o ≡ Some l →
      HasFields (maker_of (slice_get c.families num) o) (count vs) → MeanAll c ts vs → MeansSlots c q slots env →
      ((k : ℕ) → free_below bs k ≡ true → q k ≡ true) →
      Awaits n c j p slots ops calls fs →
      StandsFor n c (spot i slots (tree.make num o ts ∷ ops) calls) (eval_arm c.families bs l vs env fs (resume c.families fs))

  -- there is no arm
  pub no_case : GoodCases no_arms
  no_case i b places d f j p q num o l ts vs env slots ops calls fs h hd hc hn hf m ms u k =
      nothing n c (spot i slots (tree.make num o ts ∷ ops) calls)

  -- the first arm, or one behind it
  pub one_case : DistinctMakers c.families → (key : List ℕ) (xs : List Binder) (e : CoreTree) (bs : CoreArms) → Good n c e →
      GoodCases bs → GoodCases (arm key xs e bs)
  one_case dm key xs e bs ge gb i b places d f j p q num o l ts vs env slots ops calls fs h hd hc hn hf m ms u k =
      pick (bytes_eq l key) refl
    where
      here : l ≡ key → StandsFor n c (spot i slots (tree.make num o ts ∷ ops) calls)
          (eval c.families e (enter_all (free e) vs (keep (outside_all xs (free e)) env)) fs (resume c.families fs))
      here same =
          let maker : Maker = hc.6.0 in
          let there : maker_of (slice_get c.families d) hc.0 ≡ Some maker = ap (λ z. maker_of z hc.0) hd ∙ hc.6.1 in
          let named : name_of c.families d hc.0 ≡ Some l = ap (option_map (λ (z : Maker). z.name)) there
          ∙ ap Some (hc.6.2 ∙ sym same) in
          let one : (num ≡ d) × (o ≡ hc.0) = dm num o d hc.0 l hn named in
          let its : maker_of (slice_get c.families num) o ≡ Some maker = ap (λ z. maker_of (slice_get c.families z) o) one.0
          ∙ ap (maker_of (slice_get c.families d)) one.1 ∙ there in
          let fields : length maker.fields.items ≡ count vs = subst (λ z. HasFields z (count vs)) its hf in
          let place : slice_get places.items o ≡ Some hc.1 = ap (slice_get places.items) one.1 ∙ hc.7 in
          stepped n c i (instr.Case places) b slots (tree.make num o ts ∷ ops) calls (spot hc.1 slots (stacked ts ops) calls) _ h
          (ap (λ z. in_arm z ts ops (spot i slots (tree.make num o ts ∷ ops) calls)) place)
          (forgotten n c hc.1 hc.2 q (outside_all xs (free e)) p slots (stacked ts ops) calls env _ hc.8 ms
          (λ os a.
          below_all n c xs e hc.2 hc.3 hc.4 hc.5 p q env slots os ops calls fs ts vs ge hc.9 hc.10 hc.11 ms
          (λ y g. u y (or_left (outside_all xs (free e) y) (free_below bs y) g)) a m (sym hc.6.3 ∙ fields)
          (comes_awaited n c hc.5 j p slots ops calls fs hc.12 k)))

      pick : (z : Bool) → bytes_eq l key ≡ z →
          StandsFor n c (spot i slots (tree.make num o ts ∷ ops) calls)
          (chosen z (eval c.families e (enter_all (free e) vs (keep (outside_all xs (free e)) env)) fs (resume c.families fs))
          (eval_arm c.families bs l vs env fs (resume c.families fs)))
      pick true g = here (same_label l key g)
      pick false g =
          gb i b places d f j p q num o l ts vs env slots ops calls fs h hd hc.13 hn hf m ms
          (λ y w. u y (or_right (outside_all xs (free e) y) (free_below bs y) w)) k
