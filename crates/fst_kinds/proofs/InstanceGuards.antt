-- What an instance guards and reaches.
use Rattle.std.proofs.Common.{◌≡◌, ◌∙◌, ℕ, suc, List, Bool, true, false, refl, ap, arith}
use Rattle.std.specs.Prelude.{◌&&◌, ◌||◌, not}
use Rattle.std.proofs.Math.Bool.{or-true, and-false}
use Rattle.std.proofs.lemmas.Bool.{or_parts}
use Rattle.fst_types.specs.Tree.{Tree, skip, send, receive, close, wait, select, offer, seq, rec, back, var, plain, arrow, pair, named, Branches, none, branch}
use Rattle.fst_types.specs.Scoped.{IsScoped}
use Rattle.fst_types.specs.Instance.{argument, instantiated, instantiated_all, ArgumentsHave}
use Rattle.fst_kinds.specs.Contractive.{guards, reaches, IsContractive, AllContractive}
use Rattle.fst_kinds.proofs.SubstitutedGuards.{unreached}

-- what guards still does
pub instantiated_guards : (args : List Tree) (s : Tree) → guards s ≡ true → guards (instantiated args s) ≡ true
instantiated_guards args skip e = e
instantiated_guards args (send b) e = refl
instantiated_guards args (receive b) e = refl
instantiated_guards args close e = refl
instantiated_guards args wait e = refl
instantiated_guards args (select bs) e = refl
instantiated_guards args (offer bs) e = refl
instantiated_guards args (seq s r) e = pick (instantiated_guards args s) (instantiated_guards args r) (guards s) refl e
  where
    pick : (guards s ≡ true → guards (instantiated args s) ≡ true) → (guards r ≡ true → guards (instantiated args r) ≡ true) →
        (c : Bool) → guards s ≡ c → c || guards r ≡ true → guards (instantiated args s) || guards (instantiated args r) ≡ true
    pick first second true is e = ap (λ b. b || guards (instantiated args r)) (first is)
    pick first second false is e = ap (λ b. guards (instantiated args s) || b) (second e) ∙ or-true (guards (instantiated args s))
instantiated_guards args (rec s) e = instantiated_guards args s e
instantiated_guards args (back k) e = refl
instantiated_guards args (var k) e = absurd (cc e)
instantiated_guards args (plain b) e = e
instantiated_guards args (arrow u s r) e = e
instantiated_guards args (pair s r) e = e
instantiated_guards args (named k) e = e

-- no further recursion variable is reached
pub instantiated_unreached : (args : List Tree) (s : Tree) (j : ℕ) → ArgumentsHave (IsScoped 0) args → reaches s j ≡ false →
    reaches (instantiated args s) j ≡ false
instantiated_unreached args skip j ok e = refl
instantiated_unreached args (send b) j ok e = refl
instantiated_unreached args (receive b) j ok e = refl
instantiated_unreached args close j ok e = refl
instantiated_unreached args wait j ok e = refl
instantiated_unreached args (select bs) j ok e = refl
instantiated_unreached args (offer bs) j ok e = refl
instantiated_unreached args (seq s r) j ok e =
    let both = or_parts (reaches s j) (not (guards s) && reaches r j) e in
    pick (instantiated_unreached args s j ok both.0) (instantiated_unreached args r j ok) (guards s) refl both.1
  where
    pick : reaches (instantiated args s) j ≡ false → (reaches r j ≡ false → reaches (instantiated args r) j ≡ false) →
        (b : Bool) → guards s ≡ b → not b && reaches r j ≡ false →
        reaches (instantiated args s) j || (not (guards (instantiated args s)) && reaches (instantiated args r) j) ≡ false
    pick first second true is e = λ i. first i || (not (instantiated_guards args s is i) && reaches (instantiated args r) j)
    pick first second false is e = (λ i. first i || (not (guards (instantiated args s)) && second e i))
        ∙ and-false (not (guards (instantiated args s)))
instantiated_unreached args (rec s) j ok e = instantiated_unreached args s (suc j) ok e
instantiated_unreached args (back k) j ok e = e
instantiated_unreached args (var k) j ok e = unreached (argument args k) 0 j (ok k) (omega arith)
instantiated_unreached args (plain b) j ok e = refl
instantiated_unreached args (arrow u s r) j ok e = refl
instantiated_unreached args (pair s r) j ok e = refl
instantiated_unreached args (named k) j ok e = refl

mutual
  -- an instance of a contractive type by contractive types without free recursion variables is contractive
  pub instantiated_contractive : (args : List Tree) (s : Tree) → ArgumentsHave (IsScoped 0) args →
      ArgumentsHave IsContractive args → IsContractive s → IsContractive (instantiated args s)
  instantiated_contractive args skip ok d e = tt
  instantiated_contractive args (send b) ok d e = tt
  instantiated_contractive args (receive b) ok d e = tt
  instantiated_contractive args close ok d e = tt
  instantiated_contractive args wait ok d e = tt
  instantiated_contractive args (select bs) ok d e = instantiated_all_contractive args bs ok d e
  instantiated_contractive args (offer bs) ok d e = instantiated_all_contractive args bs ok d e
  instantiated_contractive args (seq s r) ok d e =
      (instantiated_contractive args s ok d e.0, instantiated_contractive args r ok d e.1)
  instantiated_contractive args (rec s) ok d e =
      (instantiated_contractive args s ok d e.0, instantiated_unreached args s 0 ok e.1)
  instantiated_contractive args (back k) ok d e = tt
  instantiated_contractive args (var k) ok d e = d k
  instantiated_contractive args (plain b) ok d e = tt
  instantiated_contractive args (arrow u s r) ok d e =
      (instantiated_contractive args s ok d e.0, instantiated_contractive args r ok d e.1)
  instantiated_contractive args (pair s r) ok d e =
      (instantiated_contractive args s ok d e.0, instantiated_contractive args r ok d e.1)
  instantiated_contractive args (named k) ok d e = tt

  instantiated_all_contractive : (args : List Tree) (bs : Branches) → ArgumentsHave (IsScoped 0) args →
      ArgumentsHave IsContractive args → AllContractive bs → AllContractive (instantiated_all args bs)
  instantiated_all_contractive args none ok d e = tt
  instantiated_all_contractive args (branch l s bs) ok d e =
      (instantiated_contractive args s ok d e.0, instantiated_all_contractive args bs ok d e.1)
