-- Type arguments, one after the other.
use Rattle.std.proofs.Common.{◌≡◌, ◌+◌, ◌<◌, ℕ, List, [], ◌++◌, drop, get_or, length, sym, subst, arith, append-nil}
use Rattle.std.proofs.lemmas.List.{drop_all, drop_more}
use Rattle.fst_types.specs.Tree.{Tree}
use Rattle.fst_types.specs.declared.kind.Kind.{Kind}
use Rattle.fst_kinds.specs.WellFormed.{IsInstantiation}
use Rattle.fst_derivations.specs.Modules.{AreStandingFormed, IsFormedAt, all_open}
use Rattle.fst_derivations.specs.Parts.{AreAt}
use Rattle.fst_premises.specs.Shown.{ShowsArguments}
use Rattle.fst_premises.specs.Checks.{Check}
use Rattle.fst_premises.specs.declared.fault.CheckFault.{CheckFault}

module _ (c : Check) where
  abbrev V : List Kind
  V = c.surroundings.vars

  abbrev T : List Tree
  T = c.surroundings.types

  -- what is known when the first i arguments are looked at: the others are well formed, and with them all arguments are there
  -- and below their variables, and the first of them whose kind isn't is the first of all
  pub record ArgumentsSoFar (ks : List ℕ) (kinds : List Kind) (i : ℕ) (args : List Tree) : Type 0 where
    pub formed : AreStandingFormed T V (all_open (drop i ks))
    pub there : (more : List Tree) → AreAt T (drop i ks) more → AreAt T ks (args ++ more)
    pub below : (more : List Tree) → IsInstantiation V (drop i kinds) more → IsInstantiation V kinds (args ++ more)
    pub shown : (f : CheckFault) → ShowsArguments c (drop i ks) (drop i kinds) f → ShowsArguments c ks kinds f

  -- at the start
  pub arguments_start : (ks : List ℕ) (kinds : List Kind) → AreStandingFormed T V (all_open ks) → ArgumentsSoFar ks kinds 0 []
  arguments_start ks kinds h = record { formed = h; there = λ more a. a; below = λ more a. a; shown = λ f a. a }

  -- the next one is well formed
  pub argument_formed : (ks : List ℕ) (kinds : List Kind) (i d : ℕ) (args : List Tree) → ArgumentsSoFar ks kinds i args →
      i < length ks → IsFormedAt T V (get_or ks i d)
  argument_formed ks kinds i d args h l = (subst (λ xs. AreStandingFormed T V (all_open xs)) (drop_more ks i d l) h.formed).0

  -- at the end
  pub arguments_there : (ks : List ℕ) (kinds : List Kind) (args : List Tree) → ArgumentsSoFar ks kinds (length ks) args →
      AreAt T ks args
  arguments_there ks kinds args h = subst (AreAt T ks) (append-nil args)
      (h.there [] (subst (λ xs. AreAt T xs []) (sym (drop_all (length ks) ks (omega arith))) tt))

  pub arguments_below : (ks : List ℕ) (kinds : List Kind) (args : List Tree) → ArgumentsSoFar ks kinds (length ks) args →
      length ks ≡ length kinds → IsInstantiation V kinds args
  arguments_below ks kinds args h e = subst (IsInstantiation V kinds) (append-nil args)
      (h.below [] (subst (λ xs. IsInstantiation V xs []) (sym (drop_all (length ks) kinds (omega (arith, e)))) tt))
