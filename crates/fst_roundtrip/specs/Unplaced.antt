-- Types, terms and declarations without their places.
use Rattle.std.specs.Prelude.{map}
use Rattle.fst_types.specs.declared.kind.Kind.{Kind}
use Rattle.fst_types.specs.WrittenTree as written
use Rattle.fst_types.specs.WrittenTree.{WrittenTree, WrittenBranches, none, branch}
use Rattle.fst_terms.specs.declared.binder.Binder.{Binder}
use Rattle.fst_terms.specs.TermTree as term
use Rattle.fst_terms.specs.TermTree.{TermTree, TermList, no_terms, TermArms, no_arms, arm}
use Rattle.fst_terms.specs.ModuleTree.{Maker, Declared, family, alias, signature, equation}

abbrev mutual
  -- a type without its places
  pub unplaced_type : WrittenTree → WrittenTree
  unplaced_type (written.skip at) = written.skip 0
  unplaced_type (written.send at b) = written.send 0 b
  unplaced_type (written.receive at b) = written.receive 0 b
  unplaced_type (written.close at) = written.close 0
  unplaced_type (written.wait at) = written.wait 0
  unplaced_type (written.select at bs) = written.select 0 (unplaced_branches bs)
  unplaced_type (written.offer at bs) = written.offer 0 (unplaced_branches bs)
  unplaced_type (written.seq at s t) = written.seq 0 (unplaced_type s) (unplaced_type t)
  unplaced_type (written.rec at x t) = written.rec 0 x (unplaced_type t)
  unplaced_type (written.named at x) = written.named 0 x
  unplaced_type (written.plain at b) = written.plain 0 b
  unplaced_type (written.arrow at u s t) = written.arrow 0 u (unplaced_type s) (unplaced_type t)
  unplaced_type (written.pair at s t) = written.pair 0 (unplaced_type s) (unplaced_type t)

  -- the branches of a choice
  pub unplaced_branches : WrittenBranches → WrittenBranches
  unplaced_branches none = none
  unplaced_branches (branch l t bs) = branch l (unplaced_type t) (unplaced_branches bs)

-- a name that is bound, without its place
abbrev pub unplaced_binder : Binder → Binder
unplaced_binder x = record { name = x.name; at = 0 }

abbrev mutual
  -- a term without its places
  pub unplaced_term : TermTree → TermTree
  unplaced_term (term.named at x types) = term.named 0 x (map unplaced_type types)
  unplaced_term (term.int at n) = term.int 0 n
  unplaced_term (term.bool at b) = term.bool 0 b
  unplaced_term (term.char at c) = term.char 0 c
  unplaced_term (term.unit at) = term.unit 0
  unplaced_term (term.pair at s t) = term.pair 0 (unplaced_term s) (unplaced_term t)
  unplaced_term (term.make at x ts) = term.make 0 x (unplaced_terms ts)
  unplaced_term (term.lambda at u a x t) =
      term.lambda 0 u (unplaced_type a) (unplaced_binder x) (unplaced_term t)
  unplaced_term (term.apply at s t) = term.apply 0 (unplaced_term s) (unplaced_term t)
  unplaced_term (term.let_in at x s t) =
      term.let_in 0 (unplaced_binder x) (unplaced_term s) (unplaced_term t)
  unplaced_term (term.split at x y s t) =
      term.split 0 (unplaced_binder x) (unplaced_binder y) (unplaced_term s) (unplaced_term t)
  unplaced_term (term.if_else at s t u) =
      term.if_else 0 (unplaced_term s) (unplaced_term t) (unplaced_term u)
  unplaced_term (term.case_of at t bs) = term.case_of 0 (unplaced_term t) (unplaced_arms bs)
  unplaced_term (term.operate at o s t) = term.operate 0 o (unplaced_term s) (unplaced_term t)
  unplaced_term (term.negate at t) = term.negate 0 (unplaced_term t)
  unplaced_term (term.new at a) = term.new 0 (unplaced_type a)
  unplaced_term (term.send at s t) = term.send 0 (unplaced_term s) (unplaced_term t)
  unplaced_term (term.receive at t) = term.receive 0 (unplaced_term t)
  unplaced_term (term.close at t) = term.close 0 (unplaced_term t)
  unplaced_term (term.wait at t) = term.wait 0 (unplaced_term t)
  unplaced_term (term.select at l t) = term.select 0 l (unplaced_term t)
  unplaced_term (term.match_with at t bs) = term.match_with 0 (unplaced_term t) (unplaced_arms bs)
  unplaced_term (term.fork at t) = term.fork 0 (unplaced_term t)
  unplaced_term (term.seq at s t) = term.seq 0 (unplaced_term s) (unplaced_term t)

  -- the arguments of a constructor
  pub unplaced_terms : TermList → TermList
  unplaced_terms no_terms = no_terms
  unplaced_terms (term.term t ts) = term.term (unplaced_term t) (unplaced_terms ts)

  -- the arms of a case or a match
  pub unplaced_arms : TermArms → TermArms
  unplaced_arms no_arms = no_arms
  unplaced_arms (arm l xs t bs) = arm (unplaced_binder l) (map unplaced_binder xs) (unplaced_term t)
      (unplaced_arms bs)

-- a constructor without its places
abbrev pub unplaced_maker : Maker → Maker
unplaced_maker m = record { name = unplaced_binder m.name; fields = map unplaced_type m.fields }

-- a declaration without its places
abbrev pub unplaced_decl : Declared → Declared
unplaced_decl (family x makers) = family (unplaced_binder x) (map unplaced_maker makers)
unplaced_decl (alias x t) = alias (unplaced_binder x) (unplaced_type t)
unplaced_decl (signature x bs t) = signature (unplaced_binder x)
    (map (λ (b : Binder × Kind). (unplaced_binder b.0, b.1)) bs) (unplaced_type t)
unplaced_decl (equation x xs t) = equation (unplaced_binder x) (map unplaced_binder xs)
    (unplaced_term t)
