-- Where a label is waited for, its arm has its place in the code.
use Rattle.std.proofs.Common.{◌≡◌, ℕ, zero, suc, ◌+◌, Bool, true, false, Some, option_map, List, [], ◌∷◌, length, if◌then◌else◌, refl, sym, ap, ◌∙◌, subst, arith}
use Rattle.std.specs.Str.{bytes_eq}
use Rattle.std.specs.Global.{Global}
use Rattle.std.specs.Prelude.{Vec}
use Rattle.std.proofs.lemmas.Bool.{or_left, or_right, false≢true}
use Rattle.std.proofs.lemmas.Slice.Eq.{bytes_eq-Decides}
use Rattle.std.proofs.lemmas.Option.{none-some, same_Some}
use Rattle.fst_terms.specs.declared.binder.Binder.{Binder}
use Rattle.fst_terms.specs.CoreTree.{CoreTree, CoreArms, no_arms, arm}
use Rattle.fst_value.specs.ValueTree as tree
use Rattle.fst_value.specs.ValueTree.{ValueTree}
use Rattle.fst_types.specs.declared.ends.EndName.{EndName}
use Rattle.fst_types.specs.declared.event.Event.TheVariants as event
use Rattle.fst_machine.specs.declared.request.Answer.TheVariants.{Got}
use Rattle.fst_machine.specs.declared.code.Instr.TheVariants as instr
use Rattle.fst_machine.specs.Free.{free, free_below, outside, outside_all}
use Rattle.fst_machine.specs.Values as value
use Rattle.fst_machine.specs.Values.{Environment, enter, keep}
use Rattle.fst_machine.specs.Machine.{State, Frame, stuck, matches, pause, arm_state}
use Rattle.fst_machine.specs.Code.{Compiled, At, ComputesMatches, place_of}
use Rattle.fst_machine.specs.Spots.{Slots, Call, moved_to}
use Rattle.fst_machine.specs.Standing.{MeansSlots, StandsFor}
use Rattle.fst_machine.proofs.Steps.{spot, step_at, asked_at_instr, told_at_instr, rests_here}
use Rattle.fst_machine.proofs.Moves.{forgotten, outside_all_at}
use Rattle.fst_machine.proofs.Goods.{Awaits, Good}
use Rattle.fst_machine.proofs.Binding.{comes_awaited, below_one}
use Rattle.fst_machine.proofs.Requests.{Tells, settled, never_lost}
use Rattle.fst_machine.proofs.Arms.{same_label}

-- outside one binder
pub outside_one : (xs : List Binder) (p : ℕ → Bool) (k : ℕ) → length xs ≡ 1 → p (suc k) ≡ true → outside_all xs p k ≡ true
outside_one xs p k l h = let e : length xs + k ≡ suc k = omega (arith, l) in outside_all_at xs p k ∙ ap p e ∙ h

same_either : (k l : List ℕ) (a b : Bool) → bytes_eq k l ≡ a → bytes_eq l k ≡ b → a ≡ b
same_either k l true true e g = refl
same_either k l false false e g = refl
same_either k l true false e g = absurd (false≢true (sym g ∙ (bytes_eq-Decides l k).1 (sym (same_label k l e))))
same_either k l false true e g = absurd (false≢true (sym e ∙ (bytes_eq-Decides k l).1 (sym (same_label l k g))))

-- a label in a table against another is that of the arm against it
label_either : (t key l : List ℕ) → t ≡ key → bytes_eq t l ≡ bytes_eq l key
label_either t key l e = ap (λ z. bytes_eq z l) e ∙ same_either key l (bytes_eq key l) (bytes_eq l key) refl refl

module _ (n : ℕ) (c : Compiled) (before : (e : CoreTree) → Good n c e) where
  -- a label that has an arm has a place, where the code stands for the arm
  pub arm_stands : (bs : CoreArms) (ps : List (List ℕ × ℕ)) (j : ℕ) (p q : ℕ → Bool) (l : List ℕ) (y : EndName)
      (env : Environment) (slots : Slots) (ops : List ValueTree) (calls : List Call) (fs : List Frame) →
      ComputesMatches c ps bs q p j → MeansSlots c q slots env →
      ((k : ℕ) → free_below bs k ≡ true → q k ≡ true) → Awaits n c j p slots ops calls fs →
      (pause c.families (arm_state bs l y env fs) ≡ stuck → ⊥) →
      (i : ℕ) × (place_of ps l ≡ Some i) × StandsFor n c (spot i slots (tree.end y ∷ ops) calls)
      (pause c.families (arm_state bs l y env fs))
  arm_stands no_arms ps j p q l y env slots ops calls fs hc m u k g = absurd (g refl)
  arm_stands (arm key xs e bs) [] j p q l y env slots ops calls fs hc m u k g = absurd hc
  arm_stands (arm key xs e bs) (o ∷ os) j p q l y env slots ops calls fs hc m u k nope =
      pick (bytes_eq l key) refl (λ v. arm_stands bs os j p q l y env slots ops calls fs hc.11 m v k) nope
    where
      own : State
      own = record { term = e; environment = enter (free e zero) (value.end y) (keep (outside (free e)) env); frames = fs }

      pick : (z : Bool) → bytes_eq l key ≡ z →
          (((r : ℕ) → free_below bs r ≡ true → q r ≡ true) → (pause c.families (arm_state bs l y env fs) ≡ stuck → ⊥) →
          (i : ℕ) × (place_of os l ≡ Some i) × StandsFor n c (spot i slots (tree.end y ∷ ops) calls)
          (pause c.families (arm_state bs l y env fs))) →
          (pause c.families (if z then own else arm_state bs l y env fs) ≡ stuck → ⊥) →
          (i : ℕ) × (place_of (o ∷ os) l ≡ Some i) ×
          StandsFor n c (spot i slots (tree.end y ∷ ops) calls) (pause c.families (if z then own else arm_state bs l y env fs))
      pick true w again g = (
        o.1,
        ap (λ b. if b then Some o.1 else place_of os l) (label_either o.0 key l hc.5 ∙ w),
        forgotten n c o.1 hc.0 q (outside (free e)) p slots (tree.end y ∷ ops) calls env _ hc.6 m
            (λ ot a.
            below_one n c e hc.0 hc.1 hc.2 hc.3 p q env slots ot ops calls fs (tree.end y) (value.end y)
            (before e) hc.7 hc.8 hc.9 m
            (λ r s. u r (or_left (outside_all xs (free e) r) (free_below bs r) (outside_one xs (free e) r hc.4 s))) a refl
            (comes_awaited n c hc.3 j p slots ops calls fs hc.10 k)),
      )
      pick false w again g =
          let r = again (λ r s. u r (or_right (outside_all xs (free e) r) (free_below bs r) s)) g in
          (r.0, ap (λ b. if b then Some o.1 else place_of os l) (label_either o.0 key l hc.5 ∙ w) ∙ r.1, r.2)

  -- a label is waited for
  pub matches_stand : (bs : CoreArms) (i b : ℕ) (places : Vec (List ℕ × ℕ) Global) (j : ℕ) (p q : ℕ → Bool) (y : EndName)
      (env : Environment) (slots : Slots) (ops : List ValueTree) (calls : List Call) (fs : List Frame) →
      At c i (instr.Match places) b → ComputesMatches c places.items bs q p j → MeansSlots c q slots env →
      ((k : ℕ) → free_below bs k ≡ true → q k ≡ true) → Awaits n c j p slots ops calls fs →
      StandsFor (suc n) c (spot i slots (tree.end y ∷ ops) calls) (matches y bs env fs)
  matches_stand bs i b places j p q y env slots ops calls fs h hc m u k =
      rests_here n c (spot i slots (tree.end y ∷ ops) calls) (matches y bs env fs) (record {
        still = step_at c i (instr.Match places) b slots (tree.end y ∷ ops) calls h;
        alike = asked_at_instr c i (instr.Match places) b slots (tree.end y ∷ ops) calls h;
        value = tt;
        told = go;
        made = λ st e. absurd (none-some st e);
      })
    where
      go : Tells n c (spot i slots (tree.end y ∷ ops) calls) (matches y bs env fs)
      go bodies ic (Got (event.Label l)) st e g =
          let same : arm_state bs l y env fs ≡ st = same_Some (arm_state bs l y env fs) st e in
          let r = arm_stands bs places.items j p q l y env slots ops calls fs hc m u k
          (λ w. g (subst (λ z. pause c.families z ≡ stuck) same w)) in
          settled n c (spot i slots (tree.end y ∷ ops) calls) (spot r.0 slots (tree.end y ∷ ops) calls) (Got (event.Label l))
          (arm_state bs l y env fs) st e
          (told_at_instr c i (instr.Match places) b slots (tree.end y ∷ ops) calls (Got (event.Label l)) h ∙ ap
          (λ o. option_map (λ (z : ℕ). moved_to z (tree.end y ∷ ops) (spot i slots (tree.end y ∷ ops) calls)) o) r.1)
          r.2
      go bodies ic (Got ev) st e g = never_lost n c st e g
      go bodies ic a st e g = absurd (none-some st e)
