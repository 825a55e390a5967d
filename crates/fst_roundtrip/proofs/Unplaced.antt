-- A text doesn't depend on places.
use Rattle.std.proofs.Common.{◌≡◌, ℕ, List, [], ◌∷◌, ◌++◌, map, refl, sym, ap, ◌∙◌}
use Rattle.std.specs.Prelude.{codes, nat_lt}
use Rattle.std.specs.List.{flat_map}
use Rattle.fst_types.specs.declared.kind.Kind.{Kind}
use Rattle.fst_types.specs.WrittenTree as written
use Rattle.fst_types.specs.WrittenTree.{WrittenTree, WrittenBranches, none, branch}
use Rattle.fst_terms.specs.declared.binder.Binder.{Binder}
use Rattle.fst_terms.specs.TermTree.{TermTree, named, int, bool, char, unit, pair, make, lambda, apply, let_in, split, if_else, case_of, operate, negate, new, send, receive, close, wait, select, match_with, fork, seq, TermList, no_terms, term, TermArms, no_arms, arm}
use Rattle.fst_terms.specs.ModuleTree.{Maker, Declared, family, alias, signature, equation}
use Rattle.fst_type_print.specs.Texts.{in_parens, in_parens_if, in_braces, joined_text, arrow_text}
use Rattle.fst_type_print.specs.WrittenTexts.{is_compound, is_arrow, written_text, written_branch_texts, atom_text}
use Rattle.fst_print.specs.ModuleTexts.{op_text, names_text, applied_text, term_text, arguments_text, arm_texts, maker_text, binder_kind_text, binders_text, decl_text, module_text}
use Rattle.fst_roundtrip.specs.Unplaced.{unplaced_type, unplaced_branches, unplaced_binder, unplaced_term, unplaced_terms, unplaced_arms, unplaced_maker, unplaced_decl}
use Rattle.fst_print.specs.Ranks.{or_rank, negation_rank, atom_rank, rank, make_rank, left_rank, right_rank, is_below, is_no_head}

pub compound_same : (t : WrittenTree) → is_compound (unplaced_type t) ≡ is_compound t
compound_same (written.skip at) = refl
compound_same _ = refl

pub arrow_same : (t : WrittenTree) → is_arrow (unplaced_type t) ≡ is_arrow t
arrow_same (written.skip at) = refl
arrow_same _ = refl

mutual
  type_same : (t : WrittenTree) → written_text (unplaced_type t) ≡ written_text t
  type_same (written.skip at) = refl
  type_same (written.send at b) = refl
  type_same (written.receive at b) = refl
  type_same (written.close at) = refl
  type_same (written.wait at) = refl
  type_same (written.select at bs) = ap (λ (w : List (List ℕ)). codes "+" ++ in_braces (joined_text (codes ", ") w))
      (branches_same bs)
  type_same (written.offer at bs) = ap (λ (w : List (List ℕ)). codes "&" ++ in_braces (joined_text (codes ", ") w))
      (branches_same bs)
  type_same (written.seq at s t) = λ i. in_parens_if (compound_same s i) (type_same s i) ++ codes ";" ++ in_parens_if
      (arrow_same t i) (type_same t i)
  type_same (written.rec at x t) = λ i. codes "rec " ++ x ++ codes ". " ++ in_parens_if (arrow_same t i) (type_same t i)
  type_same (written.named at x) = refl
  type_same (written.plain at b) = refl
  type_same (written.arrow at u s t) = λ i. in_parens_if (arrow_same s i) (type_same s i) ++ arrow_text u ++ type_same t i
  type_same (written.pair at s t) = λ i. in_parens (type_same s i ++ codes ", " ++ type_same t i)

  branches_same : (bs : WrittenBranches) → written_branch_texts (unplaced_branches bs) ≡ written_branch_texts bs
  branches_same none = refl
  branches_same (branch l t bs) = λ i. (l ++ codes ": " ++ in_parens_if (arrow_same t i) (type_same t i)) ∷ branches_same bs i

atom_same : (t : WrittenTree) → atom_text (unplaced_type t) ≡ atom_text t
atom_same t = λ i. in_parens_if (compound_same t i) (type_same t i)

-- texts put together from those of a list
texts_same : {A : Type 0} (f : A → List ℕ) (g : A → A) → ((x : A) → f (g x) ≡ f x) →
    (xs : List A) → flat_map f (map g xs) ≡ flat_map f xs
texts_same f g same [] = refl
texts_same f g same (x ∷ xs) = λ i. same x i ++ texts_same f g same xs i

maps_same : {A : Type 0} (f : A → List ℕ) (g : A → A) → ((x : A) → f (g x) ≡ f x) → (xs : List A) → map f (map g xs) ≡ map f xs
maps_same f g same [] = refl
maps_same f g same (x ∷ xs) = λ i. same x i ∷ maps_same f g same xs i

names_same : (xs : List Binder) → names_text (map unplaced_binder xs) ≡ names_text xs
names_same xs = texts_same (λ (x : Binder). codes " " ++ x.name) unplaced_binder (λ x. refl) xs

applied_same : (types : List WrittenTree) → applied_text (map unplaced_type types) ≡ applied_text types
applied_same types = texts_same (λ t. codes " @" ++ atom_text t) unplaced_type
    (λ t. ap (λ (w : List ℕ). codes " @" ++ w) (atom_same t)) types

make_rank_same : (ts : TermList) → make_rank (unplaced_terms ts) ≡ make_rank ts
make_rank_same no_terms = refl
make_rank_same (term t ts) = refl

rank_same : (t : TermTree) → rank (unplaced_term t) ≡ rank t
rank_same (named at x types) = refl
rank_same (int at n) = refl
rank_same (bool at b) = refl
rank_same (char at c) = refl
rank_same (unit at) = refl
rank_same (pair at s t) = refl
rank_same (make at x ts) = make_rank_same ts
rank_same (lambda at u a x t) = refl
rank_same (apply at s t) = refl
rank_same (let_in at x s t) = refl
rank_same (split at x y s t) = refl
rank_same (if_else at s t u) = refl
rank_same (case_of at t bs) = refl
rank_same (operate at o s t) = refl
rank_same (negate at t) = refl
rank_same (new at a) = refl
rank_same (send at s t) = refl
rank_same (receive at t) = refl
rank_same (close at t) = refl
rank_same (wait at t) = refl
rank_same (select at l t) = refl
rank_same (match_with at t bs) = refl
rank_same (fork at t) = refl
rank_same (seq at s t) = refl

below_same : (n : ℕ) (t : TermTree) → is_below n (unplaced_term t) ≡ is_below n t
below_same n t = ap (λ (m : ℕ). nat_lt m n) (rank_same t)

head_same : (t : TermTree) → is_no_head (unplaced_term t) ≡ is_no_head t
head_same (named at x types) = refl
head_same (int at n) = refl
head_same (bool at b) = refl
head_same (char at c) = refl
head_same (unit at) = refl
head_same (pair at s t) = refl
head_same (make at x ts) = refl
head_same (lambda at u a x t) = refl
head_same (apply at s t) = refl
head_same (let_in at x s t) = refl
head_same (split at x y s t) = refl
head_same (if_else at s t u) = refl
head_same (case_of at t bs) = refl
head_same (operate at o s t) = refl
head_same (negate at t) = refl
head_same (new at a) = refl
head_same (send at s t) = refl
head_same (receive at t) = refl
head_same (close at t) = refl
head_same (wait at t) = refl
head_same (select at l t) = refl
head_same (match_with at t bs) = refl
head_same (fork at t) = refl
head_same (seq at s t) = refl

mutual
  term_same : (t : TermTree) → term_text (unplaced_term t) ≡ term_text t
  term_same (named at x types) = ap (λ (w : List ℕ). x ++ w) (applied_same types)
  term_same (int at n) = refl
  term_same (bool at b) = refl
  term_same (char at c) = refl
  term_same (unit at) = refl
  term_same (pair at s t) = λ i. in_parens (term_same s i ++ codes ", " ++ term_same t i)
  term_same (make at x ts) = ap (λ (w : List ℕ). x ++ w) (arguments_same ts)
  term_same (lambda at u a x t) = λ i. codes "\\" ++ x.name ++ codes ":" ++ in_parens_if (arrow_same a i)
      (type_same a i) ++ arrow_text u ++ term_same t i
  term_same (apply at s t) = λ i. in_parens_if (head_same s i) (term_same s i) ++ codes " " ++ in_parens_if
      (below_same atom_rank t i) (term_same t i)
  term_same (let_in at x s t) = λ i. codes "let " ++ x.name ++ codes " = " ++ term_same s i ++ codes " in " ++ term_same t i
  term_same (split at x y s t) = λ i. codes "let (" ++ x.name ++ codes ", " ++ y.name ++ codes ") = " ++ term_same s i ++ codes
      " in " ++ term_same t i
  term_same (if_else at s t u) = λ i. codes "if " ++ term_same s i ++ codes " then " ++ term_same t i ++ codes " else "
      ++ term_same u i
  term_same (case_of at t bs) = λ i. codes "case " ++ term_same t i ++ codes " of " ++ in_braces
      (joined_text (codes ", ") (arms_same bs i))
  term_same (operate at o s t) = λ i. in_parens_if (below_same (left_rank o) s i)
      (term_same s i) ++ codes " " ++ op_text o ++ codes " " ++ in_parens_if (below_same (right_rank o) t i) (term_same t i)
  term_same (negate at t) = λ i. codes "not " ++ in_parens_if (below_same negation_rank t i) (term_same t i)
  term_same (new at a) = ap (λ (w : List ℕ). codes "new " ++ w) (atom_same a)
  term_same (send at s t) = λ i. codes "send " ++ in_parens_if (below_same atom_rank s i)
      (term_same s i) ++ codes " " ++ in_parens_if (below_same atom_rank t i) (term_same t i)
  term_same (receive at t) = λ i. codes "receive " ++ in_parens_if (below_same atom_rank t i) (term_same t i)
  term_same (close at t) = λ i. codes "close " ++ in_parens_if (below_same atom_rank t i) (term_same t i)
  term_same (wait at t) = λ i. codes "wait " ++ in_parens_if (below_same atom_rank t i) (term_same t i)
  term_same (select at l t) = λ i. codes "select " ++ l ++ codes " " ++ in_parens_if (below_same atom_rank t i) (term_same t i)
  term_same (match_with at t bs) = λ i. codes "match " ++ term_same t i ++ codes " with " ++ in_braces
      (joined_text (codes ", ") (arms_same bs i))
  term_same (fork at t) = λ i. codes "fork " ++ in_parens_if (below_same atom_rank t i) (term_same t i)
  term_same (seq at s t) = λ i. in_parens_if (below_same or_rank s i) (term_same s i) ++ codes "; " ++ term_same t i

  arguments_same : (ts : TermList) → arguments_text (unplaced_terms ts) ≡ arguments_text ts
  arguments_same no_terms = refl
  arguments_same (term t ts) = λ i. codes " " ++ in_parens_if (below_same atom_rank t i) (term_same t i) ++ arguments_same ts i

  arms_same : (bs : TermArms) → arm_texts (unplaced_arms bs) ≡ arm_texts bs
  arms_same no_arms = refl
  arms_same (arm l xs t bs) = λ i. (l.name ++ names_same xs i ++ codes " -> " ++ term_same t i) ∷ arms_same bs i

maker_same : (m : Maker) → maker_text (unplaced_maker m) ≡ maker_text m
maker_same m = ap (λ (w : List ℕ). m.name.name ++ w)
    (texts_same (λ t. codes " " ++ atom_text t) unplaced_type (λ t. ap (λ (w : List ℕ). codes " " ++ w) (atom_same t)) m.fields)

binders_same : (bs : List (Binder × Kind)) → binders_text
    (map (λ (b : Binder × Kind). (unplaced_binder b.0, b.1)) bs) ≡ binders_text bs
binders_same [] = refl
binders_same (b ∷ bs) = ap (λ (w : List (List ℕ)). codes "forall " ++ joined_text (codes ", ")
    (binder_kind_text b ∷ w) ++ codes ". ") (maps_same binder_kind_text (λ (b : Binder × Kind). (unplaced_binder b.0, b.1))
    (λ b. refl) bs)

decl_same : (d : Declared) → decl_text (unplaced_decl d) ≡ decl_text d
decl_same (family x makers) = ap (λ (w : List (List ℕ)). codes "data " ++ x.name ++ codes " = " ++ joined_text (codes " | ") w)
    (maps_same maker_text unplaced_maker maker_same makers)
decl_same (alias x t) = ap (λ (w : List ℕ). codes "type " ++ x.name ++ codes " = " ++ w) (type_same t)
decl_same (signature x bs t) = λ i. x.name ++ codes " : " ++ binders_same bs i ++ type_same t i
decl_same (equation x xs t) = λ i. x.name ++ names_same xs i ++ codes " = " ++ term_same t i

module_same : (ds : List Declared) → module_text (map unplaced_decl ds) ≡ module_text ds
module_same ds = texts_same (λ d. decl_text d ++ codes "\n") unplaced_decl
    (λ d. ap (λ (w : List ℕ). w ++ codes "\n") (decl_same d)) ds

-- modules that differ in places alone have one text
pub one_text : (ds es : List Declared) → map unplaced_decl ds ≡ map unplaced_decl es → module_text ds ≡ module_text es
one_text ds es e = sym (module_same ds) ∙ ap module_text e ∙ module_same es
