-- The test of types is equality.
use Rattle.std.proofs.Common.{◌≡◌, ◌↔◌, refl, ap, subst, true, ◌&&◌}
use Rattle.std.specs.Str.{bytes_eq}
use Rattle.std.proofs.lemmas.Bool.{eq-eqb, eqb-true, and_parts}
use Rattle.std.proofs.lemmas.Slice.Eq.{bytes_eq-Decides}
use Rattle.fst_types.specs.declared.base.Base.{Base}
use Rattle.fst_types.specs.declared.base.Base.TheVariants.{Int, Bool as Truth, Char, Unit as Nothing}
use Rattle.fst_types.specs.declared.kind.Use.{Use}
use Rattle.fst_types.specs.declared.kind.Use.TheVariants.{Many, Once}
use Rattle.fst_types.specs.Order.{base_number}
use Rattle.fst_types.specs.Tree.{Tree, skip, send, receive, close, wait, select, offer, seq, rec, back, var, plain, arrow, pair, named, Branches, none, branch}
use Rattle.fst_base.proofs.Bools.{same_text}
use Rattle.fst_parts.specs.Same.{same_base, same_use, same_tree, same_branches}

base-same : (a b : Base) → same_base a b ≡ true → a ≡ b
base-same Int Int e = refl
base-same Truth Truth e = refl
base-same Char Char e = refl
base-same Nothing Nothing e = refl
base-same a b e = absurd (cc e)

base-itself : (a : Base) → same_base a a ≡ true
base-itself a = eq-eqb (base_number a) (base_number a) refl

use-same : (u v : Use) → same_use u v ≡ true → u ≡ v
use-same Many Many e = refl
use-same Many Once e = absurd (cc e)
use-same Once Many e = absurd (cc e)
use-same Once Once e = refl

use-itself : (u : Use) → same_use u u ≡ true
use-itself Many = refl
use-itself Once = refl

mutual
  pub same_tree-same : (s t : Tree) → same_tree s t ≡ true → s ≡ t
  same_tree-same skip skip e = refl
  same_tree-same (send a) (send b) e = ap send (base-same a b e)
  same_tree-same (receive a) (receive b) e = ap receive (base-same a b e)
  same_tree-same close close e = refl
  same_tree-same wait wait e = refl
  same_tree-same (select bs) (select cs) e = ap select (branches-same bs cs e)
  same_tree-same (offer bs) (offer cs) e = ap offer (branches-same bs cs e)
  same_tree-same (seq s r) (seq t u) e =
      let h = and_parts (same_tree s t) (same_tree r u) e in λ i. seq (same_tree-same s t h.0 i) (same_tree-same r u h.1 i)
  same_tree-same (rec s) (rec t) e = ap rec (same_tree-same s t e)
  same_tree-same (back j) (back k) e = ap back (eqb-true j k e)
  same_tree-same (var j) (var k) e = ap var (eqb-true j k e)
  same_tree-same (plain a) (plain b) e = ap plain (base-same a b e)
  same_tree-same (arrow x s r) (arrow y t u) e =
      let h = and_parts (same_use x y) (same_tree s t && same_tree r u) e in
      let k = and_parts (same_tree s t) (same_tree r u) h.1 in
      λ i. arrow (use-same x y h.0 i) (same_tree-same s t k.0 i) (same_tree-same r u k.1 i)
  same_tree-same (pair s r) (pair t u) e =
      let h = and_parts (same_tree s t) (same_tree r u) e in λ i. pair (same_tree-same s t h.0 i) (same_tree-same r u h.1 i)
  same_tree-same (named j) (named k) e = ap named (eqb-true j k e)
  same_tree-same s t e = absurd (cc e)

  branches-same : (bs cs : Branches) → same_branches bs cs ≡ true → bs ≡ cs
  branches-same none none e = refl
  branches-same none (branch m t cs) e = absurd (cc e)
  branches-same (branch l s bs) none e = absurd (cc e)
  branches-same (branch l s bs) (branch m t cs) e =
      let h = and_parts (bytes_eq l m) (same_tree s t && same_branches bs cs) e in
      let k = and_parts (same_tree s t) (same_branches bs cs) h.1 in
      λ i. branch (same_text l m h.0 i) (same_tree-same s t k.0 i) (branches-same bs cs k.1 i)

mutual
  pub same_tree-itself : (s : Tree) → same_tree s s ≡ true
  same_tree-itself skip = refl
  same_tree-itself (send b) = base-itself b
  same_tree-itself (receive b) = base-itself b
  same_tree-itself close = refl
  same_tree-itself wait = refl
  same_tree-itself (select bs) = branches-itself bs
  same_tree-itself (offer bs) = branches-itself bs
  same_tree-itself (seq s r) = λ i. same_tree-itself s i && same_tree-itself r i
  same_tree-itself (rec s) = same_tree-itself s
  same_tree-itself (back k) = eq-eqb k k refl
  same_tree-itself (var k) = eq-eqb k k refl
  same_tree-itself (plain b) = base-itself b
  same_tree-itself (arrow u s r) = λ i. use-itself u i && (same_tree-itself s i && same_tree-itself r i)
  same_tree-itself (pair s r) = λ i. same_tree-itself s i && same_tree-itself r i
  same_tree-itself (named k) = eq-eqb k k refl

  branches-itself : (bs : Branches) → same_branches bs bs ≡ true
  branches-itself none = refl
  branches-itself (branch l s bs) = λ i. (bytes_eq-Decides l l).1 refl i && (same_tree-itself s i && branches-itself bs i)

-- the test holds exactly of one type and itself
pub same_tree_is : (s t : Tree) → (same_tree s t ≡ true) ↔ (s ≡ t)
same_tree_is s t = (same_tree-same s t, λ e. subst (λ r. same_tree s r ≡ true) e (same_tree-itself s))
