-- The labels that a type offers first.
use Rattle.std.proofs.Common.{◌≡◌, ◌∙◌, ◌<◌, ◌≤◌, ℕ, zero, suc, true, List, [], ◌∷◌, Option, Some, None, Contains, IsSome, length, refl, sym, ap, subst, arith}
use Rattle.std.specs.Prelude.{All, IfNone, IfSome, is_some, option_map, unwrap_or}
use Rattle.std.proofs.lemmas.List.Elements.{All-head, All-tail}
use Rattle.fst_types.specs.Tree.{Tree, Branches, none, branch}
use Rattle.fst_types.specs.ModelView.{branches_of}
use Rattle.fst_types.specs.declared.label.Label.TheVariants.{Select, Offer}
use Rattle.fst_types.specs.declared.ty.Branch.{Branch}
use Rattle.fst_lts.specs.Step.{step, terminated, choice_labels}
use Rattle.fst_lts.proofs.Laws.{no_step, labels_are_moves}
use Rattle.fst_types.specs.declared.event.Event.TheVariants as event
use Rattle.fst_cell.specs.Heads.{head, with_head}
use Rattle.fst_lts.specs.Residuals.{receives, AreOfferedWithin}
use Rattle.fst_cell.proofs.HeadLaws.{head_none, head_step}

-- no name of these branches is longer
abbrev pub AreWithin : ℕ → List Branch → Type 0
AreWithin n bs = All (λ (b : Branch). length b.label ≤ n) bs

abbrev P : ℕ → Branch → Type 0
P n b = length b.label ≤ n

-- so are the labels by which they are offered
pub offered_within : (n : ℕ) (bs : List Branch) → AreWithin n bs →
    (l : List ℕ) → Contains (choice_labels Offer (branches_of bs)) (Offer l) → length l ≤ n
offered_within n [] h l (k, lt, e) = absurd (omega (arith, lt))
offered_within n (b ∷ bs) h l (zero, lt, e) = first e
  where
    first : Offer b.label ≡ Offer l → length l ≤ n
    first e = let same : b.label ≡ l = cc in subst (λ w. length w ≤ n) same (All-head (P n) b bs h)
offered_within n (b ∷ bs) h l (suc k, lt, e) = offered_within n bs (All-tail (P n) b bs h) l (k, less k lt, e)
  where
    less : (k : ℕ) → suc k < length (choice_labels Offer (branches_of (b ∷ bs))) →
        k < length (choice_labels Offer (branches_of bs))
    less k q = omega (arith, q)

-- a choice that is selected offers none
pub none_offered : (bs : Branches) (l : List ℕ) → Contains (choice_labels Select bs) (Offer l) → ⊥
none_offered none l (k, lt, e) = absurd (omega (arith, lt))
none_offered (branch j s bs) l (zero, lt, e) = other e
  where
    other : Select j ≡ Offer l → ⊥
    other e = absurd (cc e)
none_offered (branch j s bs) l (suc k, lt, e) = none_offered bs l (k, less k lt, e)
  where
    less : (k : ℕ) → suc k < length (choice_labels Select (branch j s bs)) → k < length (choice_labels Select bs)
    less k q = omega (arith, q)

-- a terminated type offers none
ended_within : (n : ℕ) (t : Tree) → terminated t ≡ true → AreOfferedWithin n t
ended_within n t e l c = absurd (no_step t e (Offer l) ((labels_are_moves t (Offer l)).0 c))

-- what is found of a type, or nothing
pub within_or : (o : Option ℕ) (t : Tree) → IfSome o (λ n. AreOfferedWithin n t) → IfNone o (terminated t ≡ true) →
    AreOfferedWithin (unwrap_or o 0) t
within_or None t s e = ended_within 0 t e
within_or (Some n) t s e = s

-- what a type receives, the part of it that moves first offers
pub received_within : (t h : Tree) (n : ℕ) → head t ≡ Some h → AreOfferedWithin n h →
    (l : List ℕ) → receives (Some t) (event.Label l) ≡ true → length l ≤ n
unfolding receives
received_within t h n e w l r = w l ((labels_are_moves h (Offer l)).1
    (moves (step h (Offer l)) (sym (ap is_some (head_step t h (Offer l) refl e)) ∙ r)))
  where
    moves : (o : Option Tree) → is_some (option_map (with_head t) o) ≡ true → IsSome o
    moves None q = absurd (cc q)
    moves (Some u) q = refl

-- a type without such a part receives nothing
pub none_received : (t : Tree) → head t ≡ None → (l : List ℕ) → receives (Some t) (event.Label l) ≡ true → ⊥
unfolding receives
none_received t e l r = no_step t (head_none t e) (Offer l) (there (step t (Offer l)) r)
  where
    there : (o : Option Tree) → is_some o ≡ true → IsSome o
    there None q = absurd (cc q)
    there (Some u) q = refl
