-- What the terms and arms within a term become, and that they have no faults.
use Rattle.std.proofs.Common.{◌≡◌, ◌∙◌, ℕ, ◌+◌, ◌<◌, ◌≤◌, List, [], ◌∷◌, ◌++◌, length, get_or, map, map-id, refl, sym, ap, subst}
use Rattle.fst_terms.specs.CoreTree.{CoreTree}
use Rattle.fst_terms.specs.CoreTree as core
use Rattle.fst_terms.specs.ModelCoreView.{core_arms_of, cores_of}
use Rattle.fst_terms.specs.ModelView.{arms_of, terms_of}
use Rattle.fst_terms.specs.SourceAround.{around, second, wrap}
use Rattle.fst_terms.specs.TermTree.{TermTree, TermArms, no_arms, arm}
use Rattle.fst_terms.specs.declared.binder.Binder.{Binder}
use Rattle.fst_terms.specs.declared.core_term.Arm.{Arm}
use Rattle.fst_terms.specs.declared.source_steps.SourceStep.{SourceStep}
use Rattle.fst_terms.specs.declared.source_steps.SourceStep.TheVariants.{Operate, Apply}
use Rattle.fst_terms.specs.declared.term.SourceArm.{SourceArm}
use Rattle.fst_scopes.proofs.Laws.{none_named}
use Rattle.fst_term_faults.specs.TermFaults.{Surroundings, cases_faults, maker_faults, matches_faults, term_faults, terms_faults, within}
use Rattle.fst_term_names.specs.CodeMeanings.{AreAdded}
use Rattle.fst_term_names.specs.CoreTerms.{Numbers, core_arms, core_term, core_terms}
use Rattle.fst_term_names.specs.TermTypes.{TypeUse, written_in, written_in_all, written_in_arms}
use Rattle.fst_term_names.specs.declared.meanings.TypeList.{TypeList}
use Rattle.fst_term_names.proofs.FaultlessLaws.{all_none}
use Rattle.fst_term_names.proofs.MadeLaws.{AreMade, all_made, all_used, made_added, made_are}
-- the variables of an arm can be left, and what was around is left then
pub use Rattle.fst_term_faults.proofs.Laws.{within_long, within_left}

-- a term, as it is
abbrev pub itself : CoreTree → CoreTree
itself t = t

-- an arm, by its parts
pub record ArmParts : Type 0 where
  pub label : List ℕ
  pub binders : List Binder
  pub body : CoreTree

-- the parts of an arm
abbrev pub as_arm : Arm → ArmParts
as_arm a = record { label = a.label; binders = a.binders.items; body = a.body }

-- those of the arm that one as it was written becomes
abbrev pub arm_as : Numbers → List (List ℕ) → ℕ → SourceArm → ArmParts
arm_as s xs n a = record {
  label = a.label.name;
  binders = a.binders.items;
  body =
      core_term s (within a.binders.items xs) n a.body;
}

-- its types
abbrev pub arm_types : SourceArm → List TypeUse
arm_types a = written_in a.body

cores_are : (s : Numbers) (xs : List (List ℕ)) (n : ℕ) (ts : List TermTree) →
    cores_of (all_made (core_term s xs) written_in n ts) ≡ core_terms s xs n (terms_of ts)
cores_are s xs n [] = refl
cores_are s xs n (t ∷ ts) = ap (core.term (core_term s xs n t)) (cores_are s xs (n + length (written_in t)) ts)

types_are : (ts : List TermTree) → all_used written_in ts ≡ written_in_all (terms_of ts)
types_are [] = refl
types_are (t ∷ ts) = ap (λ us. written_in t ++ us) (types_are ts)

module _ (ns : Numbers) (s : Surroundings) (xs : List (List ℕ)) (ts : List TermTree) (i : ℕ) (old now : TypeList)
    (made : List CoreTree)
    (all : AreMade itself (core_term ns xs) written_in s ts i old now made) (long : length ts ≤ i) where
  -- all terms are made
  pub all_terms : cores_of made ≡ core_terms ns xs (length old.types.items) (terms_of ts)
  all_terms = ap cores_of (sym (map-id made) ∙ made_are itself (core_term ns xs) written_in s ts i old now made all long)
      ∙ cores_are ns xs (length old.types.items) ts

  -- and the types of all put behind others
  pub all_terms_added : AreAdded s (written_in_all (terms_of ts)) old now
  all_terms_added = subst (λ us. AreAdded s us old now) (types_are ts)
      (made_added itself (core_term ns xs) written_in s ts i old now made all long)

-- arms of their parts
abbrev arms_from : List ArmParts → core.CoreArms
arms_from [] = core.no_arms
arms_from (a ∷ parts) = core.arm a.label a.binders a.body (arms_from parts)

parts_are : (bs : List Arm) → core_arms_of bs ≡ arms_from (map as_arm bs)
parts_are [] = refl
parts_are (b ∷ bs) = ap (core.arm b.label b.binders.items b.body) (parts_are bs)

arms_are : (s : Numbers) (xs : List (List ℕ)) (n : ℕ) (bs : List SourceArm) →
    arms_from (all_made (arm_as s xs) arm_types n bs) ≡ core_arms s xs n (arms_of bs)
arms_are s xs n [] = refl
arms_are s xs n (b ∷ bs) = ap (core.arm b.label.name b.binders.items (core_term s (within b.binders.items xs) n b.body))
    (arms_are s xs (n + length (written_in b.body)) bs)

arm_types_are : (bs : List SourceArm) → all_used arm_types bs ≡ written_in_arms (arms_of bs)
arm_types_are [] = refl
arm_types_are (b ∷ bs) = ap (λ us. written_in b.body ++ us) (arm_types_are bs)

module _ (ns : Numbers) (s : Surroundings) (xs : List (List ℕ)) (bs : List SourceArm) (i : ℕ) (old now : TypeList)
    (made : List Arm)
    (all : AreMade as_arm (arm_as ns xs) arm_types s bs i old now made) (long : length bs ≤ i) where
  -- all arms are made
  pub all_arms : core_arms_of made ≡ core_arms ns xs (length old.types.items) (arms_of bs)
  all_arms = parts_are made ∙ ap arms_from (made_are as_arm (arm_as ns xs) arm_types s bs i old now made all long)
      ∙ arms_are ns xs (length old.types.items) bs

  -- and the types of all put behind others
  pub all_arms_added : AreAdded s (written_in_arms (arms_of bs)) old now
  all_arms_added = subst (λ us. AreAdded s us old now) (arm_types_are bs)
      (made_added as_arm (arm_as ns xs) arm_types s bs i old now made all long)

-- of terms without faults each has none
pub term_none : (s : Surroundings) (xs : List (List ℕ)) (ts : List TermTree) (i : ℕ) (t : TermTree) →
    terms_faults s xs (terms_of ts) ≡ [] → i < length ts → t ≡ get_or ts i t → term_faults s xs t ≡ []
term_none s xs ts i t none low is = ap (term_faults s xs) is ∙ all_none (term_faults s xs) (λ us. terms_faults s xs (terms_of us))
    (λ u us. refl) ts i t none low

-- and of arms
pub arm_none : (s : Surroundings) (xs : List (List ℕ)) (bs : List SourceArm) (i : ℕ) (b : SourceArm) →
    matches_faults s xs (arms_of bs) ≡ [] → i < length bs → b ≡ get_or bs i b →
    term_faults s (within b.binders.items xs) b.body ≡ []
arm_none s xs bs i b none low is =
    ap (λ (a : SourceArm). term_faults s (within a.binders.items xs) a.body) is ∙
    all_none (λ (a : SourceArm). term_faults s (within a.binders.items xs) a.body) (λ cs. matches_faults s xs (arms_of cs))
    (λ a cs. refl) bs i b none low

-- the arms of a `case` without faults have none but for their constructors
pub no_cases : (s : Surroundings) (xs : List (List ℕ)) (bs : TermArms) → cases_faults s xs bs ≡ [] → matches_faults s xs bs ≡ []
no_cases s xs no_arms none = refl
no_cases s xs (arm l ys t bs) none =
    let parts = none_named (maker_faults l.at l.name (length ys) (s.makers l.name))
    (term_faults s (within ys xs) t ++ cases_faults s xs bs) none in
    let behind = none_named (term_faults s (within ys xs) t) (cases_faults s xs bs) parts.1 in
    λ i. behind.0 i ++ no_cases s xs bs behind.1 i

-- a term with steps around it that has no faults has none itself
pub inner_none : (s : Surroundings) (xs : List (List ℕ)) (steps : List SourceStep) (t : TermTree) →
    term_faults s xs (around t steps) ≡ [] → term_faults s xs t ≡ []
inner_none s xs [] t none = none
inner_none s xs (Operate at o u ∷ steps) t none =
    inner_none s xs steps t ((none_named (term_faults s xs (around t steps)) (term_faults s xs u.now) none).0)
inner_none s xs (Apply at u ∷ steps) t none = inner_none s xs steps t
    ((none_named (term_faults s xs (around t steps)) (term_faults s xs u.now) none).0)

-- and neither has the second part of the step next to it
pub second_none : (s : Surroundings) (xs : List (List ℕ)) (steps : List SourceStep) (x : SourceStep) (t : TermTree) →
    term_faults s xs (around (wrap x t) steps) ≡ [] → term_faults s xs (second x) ≡ []
second_none s xs steps x t none = part x (inner_none s xs steps (wrap x t) none)
  where
    part : (y : SourceStep) → term_faults s xs (wrap y t) ≡ [] → term_faults s xs (second y) ≡ []
    part (Operate at o u) none = (none_named (term_faults s xs t) (term_faults s xs u.now) none).1
    part (Apply at u) none = (none_named (term_faults s xs t) (term_faults s xs u.now) none).1

-- the types of a step stand behind those of its first part
pub wrap_types : (x : SourceStep) (t : TermTree) → written_in (wrap x t) ≡ written_in t ++ written_in (second x)
wrap_types (Operate at o u) t = refl
wrap_types (Apply at u) t = refl
