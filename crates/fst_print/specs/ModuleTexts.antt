-- How modules, and the terms in them, are written.
use Rattle.std.specs.Prelude.{ℕ, List, [], ◌∷◌, ◌++◌, codes, map}
use Rattle.std.specs.Fmt.{signed_decimal}
use Rattle.std.specs.List.{flat_map}
use Rattle.fst_types.specs.declared.kind.Kind.{Kind}
use Rattle.fst_types.specs.WrittenTree.{WrittenTree}
use Rattle.fst_terms.specs.declared.binder.Binder.{Binder}
use Rattle.fst_terms.specs.declared.term.Op.{Op}
use Rattle.fst_terms.specs.declared.term.Op.TheVariants.{Add, Subtract, Multiply, Equal, Unequal, Less, AtMost, Greater, AtLeast, And, Or}
use Rattle.fst_terms.specs.TermTree.{TermTree, named, int, bool, char, unit, pair, make, lambda, apply, let_in, split, if_else, case_of, operate, negate, new, send, receive, close, wait, select, match_with, fork, seq, TermList, no_terms, term, TermArms, no_arms, arm}
use Rattle.fst_terms.specs.ModuleTree.{Maker, Declared, family, alias, signature, equation}
pub use Rattle.fst_value.specs.Texts.{truth_text, character_text}
use Rattle.fst_type_print.specs.Texts.{arrow_text, kind_text, in_parens, in_parens_if, in_braces, joined_text}
use Rattle.fst_type_print.specs.WrittenTexts.{written_text, seq_text, atom_text}
use Rattle.fst_print.specs.Ranks.{or_rank, negation_rank, atom_rank, left_rank, right_rank, is_below, is_no_head}

-- the sign between two terms
abbrev pub op_text : Op → List ℕ
op_text Add = codes "+"
op_text Subtract = codes "-"
op_text Multiply = codes "*"
op_text Equal = codes "=="
op_text Unequal = codes "/="
op_text Less = codes "<"
op_text AtMost = codes "<="
op_text Greater = codes ">"
op_text AtLeast = codes ">="
op_text And = codes "&&"
op_text Or = codes "||"

-- names with a space before each
abbrev pub names_text : List Binder → List ℕ
names_text xs = flat_map (λ (x : Binder). codes " " ++ x.name) xs

-- type arguments
abbrev pub applied_text : List WrittenTree → List ℕ
applied_text types = flat_map (λ t. codes " @" ++ atom_text t) types

abbrev mutual
  -- a term
  pub term_text : TermTree → List ℕ
  term_text (named at x types) = x ++ applied_text types
  term_text (int at n) = signed_decimal n
  term_text (bool at b) = truth_text b
  term_text (char at c) = codes "'" ++ character_text c ++ codes "'"
  term_text (unit at) = codes "()"
  term_text (pair at s t) = in_parens (term_text s ++ codes ", " ++ term_text t)
  term_text (make at x ts) = x ++ arguments_text ts
  term_text (lambda at u a x t) = codes "\\" ++ x.name ++ codes ":" ++ seq_text a ++ arrow_text u
      ++ term_text t
  term_text (apply at s t) = in_parens_if (is_no_head s) (term_text s) ++ codes " " ++ in_parens_if
      (is_below atom_rank t) (term_text t)
  term_text (let_in at x s t) = codes "let " ++ x.name ++ codes " = " ++ term_text s ++ codes " in "
      ++ term_text t
  term_text (split at x y s t) = codes "let (" ++ x.name ++ codes ", " ++ y.name ++ codes ") = "
      ++ term_text s ++ codes " in " ++ term_text t
  term_text (if_else at s t u) = codes "if " ++ term_text s ++ codes " then " ++ term_text t
      ++ codes " else " ++ term_text u
  term_text (case_of at t bs) = codes "case " ++ term_text t ++ codes " of " ++ in_braces
      (joined_text (codes ", ") (arm_texts bs))
  term_text (operate at o s t) =
      in_parens_if (is_below (left_rank o) s)
      (term_text s) ++ codes " " ++ op_text o ++ codes " " ++ in_parens_if
      (is_below (right_rank o) t) (term_text t)
  term_text (negate at t) = codes "not " ++ in_parens_if (is_below negation_rank t) (term_text t)
  term_text (new at a) = codes "new " ++ atom_text a
  term_text (send at s t) = codes "send " ++ in_parens_if (is_below atom_rank s)
      (term_text s) ++ codes " " ++ in_parens_if (is_below atom_rank t) (term_text t)
  term_text (receive at t) = codes "receive " ++ in_parens_if (is_below atom_rank t) (term_text t)
  term_text (close at t) = codes "close " ++ in_parens_if (is_below atom_rank t) (term_text t)
  term_text (wait at t) = codes "wait " ++ in_parens_if (is_below atom_rank t) (term_text t)
  term_text (select at l t) = codes "select " ++ l ++ codes " " ++ in_parens_if
      (is_below atom_rank t) (term_text t)
  term_text (match_with at t bs) = codes "match " ++ term_text t ++ codes " with " ++ in_braces
      (joined_text (codes ", ") (arm_texts bs))
  term_text (fork at t) = codes "fork " ++ in_parens_if (is_below atom_rank t) (term_text t)
  term_text (seq at s t) = in_parens_if (is_below or_rank s)
      (term_text s) ++ codes "; " ++ term_text t

  -- the arguments of a constructor, with a space before each
  pub arguments_text : TermList → List ℕ
  arguments_text no_terms = []
  arguments_text (term t ts) = codes " " ++ in_parens_if (is_below atom_rank t)
      (term_text t) ++ arguments_text ts

  -- the arms of a case or a match: a constructor or a label, the variables that it binds, and what follows
  pub arm_texts : TermArms → List (List ℕ)
  arm_texts no_arms = []
  arm_texts (arm l xs t bs) = (l.name ++ names_text xs ++ codes " -> " ++ term_text t) ∷ arm_texts
      bs

-- a constructor and the types of its fields
abbrev pub maker_text : Maker → List ℕ
maker_text m = m.name.name ++ flat_map (λ t. codes " " ++ atom_text t) m.fields

-- a variable of a signature with its kind
abbrev pub binder_kind_text : Binder × Kind → List ℕ
binder_kind_text b = b.0.name ++ codes ":" ++ kind_text b.1

-- the variables of a signature, where it has any
abbrev pub binders_text : List (Binder × Kind) → List ℕ
binders_text [] = []
binders_text bs = codes "forall " ++ joined_text (codes ", ")
    (map binder_kind_text bs) ++ codes ". "

-- a declaration, on a line of its own
abbrev pub decl_text : Declared → List ℕ
decl_text (family x makers) = codes "data " ++ x.name ++ codes " = " ++ joined_text (codes " | ")
    (map maker_text makers)
decl_text (alias x t) = codes "type " ++ x.name ++ codes " = " ++ written_text t
decl_text (signature x bs t) = x.name ++ codes " : " ++ binders_text bs ++ written_text t
decl_text (equation x xs t) = x.name ++ names_text xs ++ codes " = " ++ term_text t

-- a module: its declarations in order, each with a line feed behind it
abbrev pub module_text : List Declared → List ℕ
module_text ds = flat_map (λ d. decl_text d ++ codes "\n") ds
