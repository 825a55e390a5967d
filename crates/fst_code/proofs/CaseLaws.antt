-- The code of a `case` and of a `match`, from that of their arms.
use Rattle.std.specs.Global.{Global}
use Rattle.std.proofs.Common.{◌≡◌, ◌⊎◌, ◌∙◌, ◌+◌, ◌++◌, ℕ, suc, zero, Bool, true, false, List, [], ◌∷◌, length, Option, Some, None, inl, inr, refl, sym, ap, subst, arith}
use Rattle.std.specs.Prelude.{if◌then◌else◌, Vec, map, slice_get}
use Rattle.std.specs.Str.{bytes_eq}
use Rattle.std.proofs.lemmas.Option.{same_Some}
use Rattle.fst_base.proofs.Bools.{same_text}
use Rattle.fst_types.specs.declared.family.Family.{Family}
use Rattle.fst_types.specs.declared.family.Maker.{Maker}
use Rattle.fst_terms.specs.CoreTree.{CoreTree, case_of, match_with}
use Rattle.fst_terms.specs.InRange.{Bounds, HasFields, AreCasesInRange, AreMatchesInRange, makers, maker_named}
use Rattle.fst_terms.specs.ModelCoreView.{core_arms_of}
use Rattle.fst_terms.specs.declared.binder.Binder.{Binder}
use Rattle.fst_terms.specs.declared.core_term.Arm.{Arm}
use Rattle.fst_arms.specs.Arms.{AreEachOnce, arm_labels}
use Rattle.fst_machine.specs.declared.code.Instr.TheVariants as instr
use Rattle.fst_machine.specs.Free.{free, free_below, outside, outside_all}
use Rattle.fst_machine.specs.Code.{At, Comes, Compiled, Binds, BindsAll, Computes, ComputesCases, ComputesMatches, Forgets, within, within_all}
use Rattle.fst_machine.specs.Standing.{DistinctMakers}
use Rattle.fst_code.specs.Arms.{AllRun, ArePlacesOf, RunsFrom, WritesArms, table_of}
use Rattle.fst_code.specs.Marks.{marked}
use Rattle.fst_code.specs.Whole.{AreArmsWhole, IsReady}
use Rattle.fst_code.specs.Written.{Leaves, Pushes, top}
use Rattle.fst_code.proofs.ArmLaws.{kept_run}
use Rattle.fst_code.proofs.Extended.{extends_both, kept_at}
use Rattle.fst_code.proofs.FormLaws.{left_from}
use Rattle.fst_code.proofs.MakerLaws.{named_there}

-- ---- labels

-- an arm with one variable
one_matches : (d : Compiled) (g : Bounds) (k : ℕ) (i : ℕ) (q p : ℕ → Bool) (b : Arm) (j : ℕ) (xs : List Binder) →
    b.binders.items ≡ xs → length xs ≡ 1 → g.families ≡ d.families → IsReady g k b.body →
    RunsFrom d i q p b j → (h : ℕ) × (n : ℕ) × (r : ℕ) × (s : ℕ) ×
    (Forgets d i q (outside (free b.body)) p h × Binds d h (free b.body zero) n × Computes d n b.body (within p) r × At d r
    (instr.Unbind 1) s × Comes d s j)
one_matches d g k i q p b j [] e l s r f = absurd (omega (arith, l))
one_matches d g k i q p b j (x ∷ []) e l s r f =
    let binds = subst (λ ys. BindsAll d f.start ys (free b.body) f.runs.behind) e f.runs.binds in (
      f.start,
      f.runs.behind,
      f.runs.last,
      f.runs.next,
      (
        subst (λ ys. Forgets d i q (outside_all ys (free b.body)) p f.start) e f.forgets,
        subst (λ z. Binds d f.start (free b.body zero) z) binds.2 binds.1,
        subst (λ ys. Computes d f.runs.behind b.body (within_all ys p) f.runs.last) e (f.runs.computes g k s r),
        subst (λ ys. At d f.runs.last (instr.Unbind (length ys)) f.runs.next) e f.runs.unbinds,
        f.runs.comes,
      ),
    )
one_matches d g k i q p b j (x ∷ y ∷ xs) e l s r f = absurd (omega (arith, l))

matches_from : (d : Compiled) (g : Bounds) (k : ℕ) (q p : ℕ → Bool) (bs : List Arm) (is : List ℕ) (j : ℕ) →
    g.families ≡ d.families → AreMatchesInRange g k (core_arms_of bs) →
    AreArmsWhole g.families (core_arms_of bs) →
    AllRun d q p bs is j → ComputesMatches d (table_of bs is) (core_arms_of bs) q p j
matches_from d g k q p [] [] j s r w h = tt
matches_from d g k q p [] (i ∷ is) j s r w h = absurd h
matches_from d g k q p (b ∷ bs) [] j s r w h = absurd h
matches_from d g k q p (b ∷ bs) (i ∷ is) j s r w h =
    let o = one_matches d g (suc k) i q p b j b.binders.items refl r.0 s (record { range = r.1; whole = w.0 }) h.0 in
    (o.0, o.1, o.2, o.3, r.0, refl, o.4.0, o.4.1, o.4.2, o.4.3, o.4.4, matches_from d g k q p bs is j s r.2 w.1 h.1)

pub match_left : (c m d : Compiled) (ms ns : List Bool) (at : ℕ) (e : CoreTree) (bs : List Arm) (is : List ℕ)
    (ps : Vec (List ℕ × ℕ) Global) → WritesArms c ms m ns bs is → ps.items ≡ table_of bs is →
    Pushes m d (instr.Match ps) → Leaves c ms d ns (match_with at e (core_arms_of bs)) e
match_left c m d ms ns at e bs is ps w t x = left_from c d ms ns (match_with at e (core_arms_of bs)) e
    (free_below (core_arms_of bs)) (extends_both w.extends x.extends) w.marks w.deep (λ k. refl)
    (λ g k r. record { range = r.range.1; whole = r.whole.0 }) (omega (arith, w.entries, ap length x.entries))
    (λ a y g k s r v. let more = extends_both x.extends y in (
      top d,
      top m,
      ps,
      v,
      kept_at y (top d) (instr.Match ps) (top m) x.there,
      subst (λ z. ComputesMatches a z (core_arms_of bs) (free_below (core_arms_of bs)) (marked ms) (top c)) (sym t)
          (matches_from a g k (free_below (core_arms_of bs)) (marked ms) bs is (top c)
          (s ∙ w.extends.families ∙ more.families) r.range.2 r.whole.1
          (kept_run more (free_below (core_arms_of bs)) (marked ms) bs is (top c) w.run)),
    ))

-- ---- constructors

-- the first constructor with a name is among these or among the others
named_in : (ms ns : List Maker) (l : List ℕ) (m : Maker) → maker_named l (ms ++ ns) ≡ Some m →
    ((o : ℕ) × (slice_get ms o ≡ Some m) × (m.name ≡ l)) ⊎ (maker_named l ns ≡ Some m)
named_in [] ns l m h = inr h
named_in (k ∷ ms) ns l m h = go (bytes_eq l k.name) refl h (named_in ms ns l m)
  where
    go : (z : Bool) → bytes_eq l k.name ≡ z → (if z then Some k else maker_named l (ms ++ ns)) ≡ Some m →
        (maker_named l (ms ++ ns) ≡ Some m → ((o : ℕ) × (slice_get ms o ≡ Some m) × (m.name ≡ l)) ⊎ (maker_named l ns ≡ Some m)) →
        ((o : ℕ) × (slice_get (k ∷ ms) o ≡ Some m) × (m.name ≡ l)) ⊎ (maker_named l ns ≡ Some m)
    go true e f rest = let same : k ≡ m = same_Some k m f in
        inl (zero, f, sym (same_text l k.name e ∙ ap (λ (x : Maker). x.name) same))
    go false e f rest = elim (rest f) [ inl a ↦ inl (suc a.0, a.1, a.2) | inr b ↦ inr b ]

-- the first constructor with a name is one of a data type
named_family : (fs : List Family) (l : List ℕ) (m : Maker) → maker_named l (makers fs) ≡ Some m →
    (n : ℕ) × (o : ℕ) × (f : Family) × (slice_get fs n ≡ Some f) × (slice_get f.makers.items o ≡ Some m) × (m.name ≡ l)
named_family [] l m h = absurd (cc h)
named_family (f ∷ fs) l m h = elim (named_in f.makers.items (makers fs) l m h) [
  | inl a ↦ (zero, a.0, f, refl, a.1, a.2)
  | inr b ↦ let r = named_family fs l m b in (suc r.0, r.1, r.2, r.3, r.4, r.5)
]

-- so the constructor of an arm has as many fields as the arm has variables
fields_there : (fs : List Family) (d : ℕ) (f : Family) (o : ℕ) (m : Maker) (l : List ℕ) (n : ℕ) → DistinctMakers fs →
    slice_get fs d ≡ Some f → slice_get f.makers.items o ≡ Some m → m.name ≡ l →
    HasFields (maker_named l (makers fs)) n → length m.fields.items ≡ n
fields_there fs d f o m l n distinct here there named h = go (maker_named l (makers fs)) refl h
  where
    go : (x : Option Maker) → maker_named l (makers fs) ≡ x → HasFields x n → length m.fields.items ≡ n
    go None e h = absurd h
    go (Some k) e h =
        let r = named_family fs l k e in
        let same = distinct r.0 r.1 d o l (named_there fs r.0 r.1 r.2 k r.3 r.4 ∙ ap Some r.5)
        (named_there fs d o f m here there ∙ ap Some named) in
        let family : r.2 ≡ f = same_Some r.2 f (sym r.3 ∙ ap (slice_get fs) same.0 ∙ here) in
        let maker : k ≡ m = same_Some k m (sym r.4 ∙ (λ i. slice_get (family i).makers.items (same.1 i)) ∙ there) in
        ap (λ (x : Maker). length x.fields.items) (sym maker) ∙ h

cases_from : (d : Compiled) (g : Bounds) (k : ℕ) (n : ℕ) (f : Family) (q p : ℕ → Bool) (bs : List Arm) (is ps : List ℕ) (j : ℕ) →
    g.families ≡ d.families → DistinctMakers d.families →
    slice_get d.families n ≡ Some f →
    AreCasesInRange g k (core_arms_of bs) → AreArmsWhole g.families (core_arms_of bs) → ArePlacesOf f bs is ps →
    AllRun d q p bs is j → ComputesCases d f ps (core_arms_of bs) q p j
cases_from d g k n f q p [] [] ps j s distinct here r w t h = tt
cases_from d g k n f q p [] (i ∷ is) ps j s distinct here r w t h = absurd h
cases_from d g k n f q p (b ∷ bs) [] ps j s distinct here r w t h = absurd h
cases_from d g k n f q p (b ∷ bs) (i ∷ is) ps j s distinct here r w t h =
    let a = t zero i b refl refl in
    let few = subst (λ z. HasFields (maker_named b.label (makers z)) (length b.binders.items)) s r.0 in (
      a.number,
      i,
      h.0.start,
      h.0.runs.behind,
      h.0.runs.last,
      h.0.runs.next,
      (
        a.maker,
        a.there,
        a.named,
        fields_there d.families n f a.number a.maker b.label
            (length b.binders.items) distinct here a.there a.named few,
      ),
      a.placed,
      h.0.forgets,
      h.0.runs.binds,
      h.0.runs.computes g (length b.binders.items + k) s (record { range = r.1; whole = w.0 }),
      h.0.runs.unbinds,
      h.0.runs.comes,
      cases_from d g k n f q p bs is ps j s distinct here r.2 w.1 (λ o. t (suc o)) h.1,
    )

pub case_left : (c m d : Compiled) (ms ns : List Bool) (at : ℕ) (e : CoreTree) (bs : List Arm) (is : List ℕ) (ps : Vec ℕ Global) →
    WritesArms c ms m ns bs is → DistinctMakers c.families →
    ((n : ℕ) (f : Family) → slice_get c.families n ≡ Some f →
    AreEachOnce (map (λ o. o.name) f.makers.items) (arm_labels (core_arms_of bs)) → ArePlacesOf f bs is ps.items) →
    Pushes m d (instr.Case ps) → Leaves c ms d ns (case_of at e (core_arms_of bs)) e
case_left c m d ms ns at e bs is ps w distinct t x =
    left_from c d ms ns (case_of at e (core_arms_of bs)) e (free_below (core_arms_of bs))
    (extends_both w.extends x.extends) w.marks w.deep (λ k. refl)
    (λ g k r. record { range = r.range.1; whole = r.whole.0 }) (omega (arith, w.entries, ap length x.entries))
    (λ a y g k s r v.
    let more = extends_both x.extends y in
    let all = w.extends.families ∙ more.families in
    let o = r.whole.2 in
    let here = ap (λ z. slice_get z o.number) (sym s) ∙ o.there in (
      top d,
      top m,
      ps,
      o.number,
      o.family,
      v,
      kept_at y (top d) (instr.Case ps) (top m) x.there,
      ap (λ z. slice_get z o.number) (sym all) ∙ here,
      cases_from a g k o.number o.family (free_below (core_arms_of bs)) (marked ms) bs is ps.items (top c) (s ∙ all)
          (subst DistinctMakers all distinct)
          (ap (λ z. slice_get z o.number) (sym all) ∙ here)
          r.range.2 r.whole.1 (t o.number o.family here o.each_once)
          (kept_run more (free_below (core_arms_of bs)) (marked ms) bs is (top c) w.run),
    ))
