-- A term as it was written as a tree of numbers, and back.
use Rattle.std.specs.Prelude.{◌≡◌, ℕ, refl, ◌==◌, if◌then◌else◌}
use Rattle.std.proofs.Common.{sym, ◌∙◌, ap}
use Rattle.fst_types.specs.declared.kind.Use.TheVariants.{Many, Once}
use Rattle.fst_types.specs.ModelCode.{name_code, name_at, name_at-name_code}
use Rattle.fst_types.specs.ModelWrittenCode.{code_of as type_code, tree_at as type_at, tree_at-code_of as type_at-type_code}
use Rattle.fst_terms.specs.ModelParts.{list_code, list_at, list_at-list_code, int_code, int_at, int_at-int_code, bool_code, bool_at, bool_at-bool_code, binder_code, binder_at, binder_at-binder_code, op_code, op_at, op_at-op_code}
use Rattle.fst_terms.specs.TermTree.{TermTree, named, int, bool, char, unit, pair, make, lambda, apply, let_in, split, if_else, case_of, operate, negate, new, send, receive, close, wait, select, match_with, fork, seq, TermList, no_terms, term, TermArms, no_arms, arm}
use base.Stored.{Coded, Gv, gnil, gnum, gcons, num}

-- a node: a number for its kind, its place, two parts beside its terms, and its terms
abbrev node : ℕ → ℕ → Gv → Gv → Gv → Gv → Gv → Gv
node tag at x y s t u = gcons (gnum tag) (gcons (gnum at) (gcons x (gcons y (gcons s (gcons t u)))))

abbrev mutual
  -- the code of a tree
  pub code_of : TermTree → Gv
  code_of (named at x ts) = node 0 at (name_code x) (list_code type_code ts) gnil gnil gnil
  code_of (int at n) = node 1 at (int_code n) gnil gnil gnil gnil
  code_of (bool at b) = node 2 at (bool_code b) gnil gnil gnil gnil
  code_of (char at c) = node 3 at (gnum c) gnil gnil gnil gnil
  code_of (unit at) = node 4 at gnil gnil gnil gnil gnil
  code_of (pair at s t) = node 5 at gnil gnil (code_of s) (code_of t) gnil
  code_of (make at x ts) = node 6 at (name_code x) gnil (code_of_terms ts) gnil gnil
  code_of (lambda at Many a x t) = node 7 at (binder_code x) (type_code a) (code_of t) gnil gnil
  code_of (lambda at Once a x t) = node 8 at (binder_code x) (type_code a) (code_of t) gnil gnil
  code_of (apply at s t) = node 9 at gnil gnil (code_of s) (code_of t) gnil
  code_of (let_in at x s t) = node 10 at (binder_code x) gnil (code_of s) (code_of t) gnil
  code_of (split at x y s t) = node 11 at (binder_code x) (binder_code y) (code_of s)
      (code_of t) gnil
  code_of (if_else at s t u) = node 12 at gnil gnil (code_of s) (code_of t) (code_of u)
  code_of (case_of at t bs) = node 13 at gnil gnil (code_of t) (code_of_arms bs) gnil
  code_of (operate at o s t) = node 14 at (op_code o) gnil (code_of s) (code_of t) gnil
  code_of (negate at t) = node 15 at gnil gnil (code_of t) gnil gnil
  code_of (new at a) = node 16 at gnil (type_code a) gnil gnil gnil
  code_of (send at s t) = node 17 at gnil gnil (code_of s) (code_of t) gnil
  code_of (receive at t) = node 18 at gnil gnil (code_of t) gnil gnil
  code_of (close at t) = node 23 at gnil gnil (code_of t) gnil gnil
  code_of (wait at t) = node 24 at gnil gnil (code_of t) gnil gnil
  code_of (select at l t) = node 19 at (name_code l) gnil (code_of t) gnil gnil
  code_of (match_with at t bs) = node 20 at gnil gnil (code_of t) (code_of_arms bs) gnil
  code_of (fork at t) = node 21 at gnil gnil (code_of t) gnil gnil
  code_of (seq at s t) = node 22 at gnil gnil (code_of s) (code_of t) gnil

  -- the code of arguments
  pub code_of_terms : TermList → Gv
  code_of_terms no_terms = gnil
  code_of_terms (term t ts) = gcons (code_of t) (code_of_terms ts)

  -- the code of arms
  pub code_of_arms : TermArms → Gv
  code_of_arms no_arms = gnil
  code_of_arms (arm l xs t bs) = gcons (binder_code l)
      (gcons (list_code binder_code xs) (gcons (code_of t) (code_of_arms bs)))

-- the node of a number, from its parts and what its terms are read as
abbrev pub node_at : ℕ → ℕ → Gv → Gv → TermList → TermArms → TermTree → TermTree → TermTree →
    TermTree
node_at tag at x y ts bs s t u =
    if tag == 0 then named at (name_at x) (list_at type_at y) else
    if tag == 1 then int at (int_at x) else
    if tag == 2 then bool at (bool_at x) else
    if tag == 3 then char at (num x) else
    if tag == 4 then unit at else
    if tag == 5 then pair at s t else
    if tag == 6 then make at (name_at x) ts else
    if tag == 7 then lambda at Many (type_at y) (binder_at x) s else
    if tag == 8 then lambda at Once (type_at y) (binder_at x) s else
    if tag == 9 then apply at s t else
    if tag == 10 then let_in at (binder_at x) s t else
    if tag == 11 then split at (binder_at x) (binder_at y) s t else
    if tag == 12 then if_else at s t u else
    if tag == 13 then case_of at s bs else
    if tag == 14 then operate at (op_at (num x)) s t else
    if tag == 15 then negate at s else
    if tag == 16 then new at (type_at y) else
    if tag == 17 then send at s t else
    if tag == 18 then receive at s else
    if tag == 19 then select at (name_at x) s else
    if tag == 20 then match_with at s bs else
    if tag == 21 then fork at s else
    if tag == 22 then seq at s t else
    if tag == 23 then close at s else
    wait at s

abbrev mutual
  -- the tree of a code
  pub tree_at : Gv → TermTree
  tree_at (gcons n (gcons m (gcons x (gcons y (gcons s (gcons t u)))))) =
      node_at (num n) (num m) x y (terms_at s) (arms_at t) (tree_at s) (tree_at t) (tree_at u)
  tree_at _ = unit 0

  -- the arguments of a code
  pub terms_at : Gv → TermList
  terms_at gnil = no_terms
  terms_at (gnum n) = no_terms
  terms_at (gcons t ts) = term (tree_at t) (terms_at ts)

  -- the arms of a code
  pub arms_at : Gv → TermArms
  arms_at (gcons l (gcons xs (gcons t bs))) =
      arm (binder_at l) (list_at binder_at xs) (tree_at t) (arms_at bs)
  arms_at _ = no_arms

mutual
  -- a tree comes back from its code
  pub tree_at-code_of : (t : TermTree) → tree_at (code_of t) ≡ t
  tree_at-code_of (named at x ts) =
      λ i. named at (name_at-name_code x i)
      (list_at-list_code type_code type_at type_at-type_code ts i)
  tree_at-code_of (int at n) = ap (int at) (int_at-int_code n)
  tree_at-code_of (bool at b) = ap (bool at) (bool_at-bool_code b)
  tree_at-code_of (char at c) = refl
  tree_at-code_of (unit at) = refl
  tree_at-code_of (pair at s t) = λ i. pair at (tree_at-code_of s i) (tree_at-code_of t i)
  tree_at-code_of (make at x ts) = λ i. make at (name_at-name_code x i)
      (terms_at-code_of_terms ts i)
  tree_at-code_of (lambda at Many a x t) =
      λ i. lambda at Many (type_at-type_code a i) (binder_at-binder_code x i) (tree_at-code_of t i)
  tree_at-code_of (lambda at Once a x t) =
      λ i. lambda at Once (type_at-type_code a i) (binder_at-binder_code x i) (tree_at-code_of t i)
  tree_at-code_of (apply at s t) = λ i. apply at (tree_at-code_of s i) (tree_at-code_of t i)
  tree_at-code_of (let_in at x s t) =
      λ i. let_in at (binder_at-binder_code x i) (tree_at-code_of s i) (tree_at-code_of t i)
  tree_at-code_of (split at x y s t) =
      λ i. split at (binder_at-binder_code x i) (binder_at-binder_code y i) (tree_at-code_of s i)
      (tree_at-code_of t i)
  tree_at-code_of (if_else at s t u) =
      λ i. if_else at (tree_at-code_of s i) (tree_at-code_of t i) (tree_at-code_of u i)
  tree_at-code_of (case_of at t bs) =
      λ i. case_of at (tree_at-code_of t i) (arms_at-code_of_arms bs i)
  tree_at-code_of (operate at o s t) =
      λ i. operate at (op_at-op_code o i) (tree_at-code_of s i) (tree_at-code_of t i)
  tree_at-code_of (negate at t) = ap (negate at) (tree_at-code_of t)
  tree_at-code_of (new at a) = ap (new at) (type_at-type_code a)
  tree_at-code_of (send at s t) = λ i. send at (tree_at-code_of s i) (tree_at-code_of t i)
  tree_at-code_of (receive at t) = ap (receive at) (tree_at-code_of t)
  tree_at-code_of (close at t) = ap (close at) (tree_at-code_of t)
  tree_at-code_of (wait at t) = ap (wait at) (tree_at-code_of t)
  tree_at-code_of (select at l t) = λ i. select at (name_at-name_code l i) (tree_at-code_of t i)
  tree_at-code_of (match_with at t bs) =
      λ i. match_with at (tree_at-code_of t i) (arms_at-code_of_arms bs i)
  tree_at-code_of (fork at t) = ap (fork at) (tree_at-code_of t)
  tree_at-code_of (seq at s t) = λ i. seq at (tree_at-code_of s i) (tree_at-code_of t i)

  -- arguments come back from their code
  pub terms_at-code_of_terms : (ts : TermList) → terms_at (code_of_terms ts) ≡ ts
  terms_at-code_of_terms no_terms = refl
  terms_at-code_of_terms (term t ts) = λ i. term (tree_at-code_of t i) (terms_at-code_of_terms ts i)

  -- arms come back from their code
  pub arms_at-code_of_arms : (bs : TermArms) → arms_at (code_of_arms bs) ≡ bs
  arms_at-code_of_arms no_arms = refl
  arms_at-code_of_arms (arm l xs t bs) =
      λ i. arm (binder_at-binder_code l i)
      (list_at-list_code binder_code binder_at binder_at-binder_code xs i) (tree_at-code_of t i)
      (arms_at-code_of_arms bs i)

-- terms, told apart by their codes
abbrev pub term_code : Coded TermTree
term_code = record {
  code = code_of;
  inj =
      λ x y e. sym (tree_at-code_of x) ∙ ap tree_at e ∙ tree_at-code_of y;
}
