-- Chains that lead from word to word, also by bases that grow.
use Rattle.std.proofs.Common.{◌≡◌, ℕ, List, [], ◌∷◌, ◌++◌, length, reverse, refl, sym, ◌∙◌, ap, subst, arith, Some, None, Bool, true, nat_eq, zero, suc, All}
use Rattle.std.specs.Prelude.{option_and_then, slice_get, nat_le}
use Rattle.std.specs.List.{starts_with}
use Rattle.std.proofs.lemmas.List.{length-append, reverse-append}
use Rattle.std.proofs.lemmas.List.Elements.{All-append, All-cons, All-head, All-nil, All-tail}
use Rattle.std.proofs.lemmas.Slice.Eq.{starts_is}
use Rattle.std.proofs.lemmas.Bool.Decides.{Decides-eqb}
use Rattle.std.proofs.lemmas.Bool.{le-leb}
use Rattle.std.proofs.Math.Seq.{take-append_seam, drop-append_seam}
use Rattle.fst_basis.specs.declared.proof.Pair.{Pair}
use Rattle.fst_basis.specs.declared.proof.Rewrite.{Rewrite}
use Rattle.fst_basis.specs.declared.proof.Rewrite.TheVariants.{Forth, Back, Cut, Grow}
use Rattle.fst_basis.specs.Basis.{AreExchanges, IsRewriteBelow}
use Rattle.fst_basis.specs.Rewrites.{replaced, rewritten, chained}

-- one chain behind another
pub chained-append : (marks : List Bool) (basis : List Pair) (a b : List Rewrite) (w x : List ℕ) →
    chained marks basis a w ≡ Some x →
    chained marks basis (a ++ b) w ≡ chained marks basis b x
chained-append marks basis [] b w x e = ap (chained marks basis b) (let f : w ≡ x = cc in f)
chained-append marks basis (r ∷ a) b w x e =
    elim (rewritten marks basis r w) as (λ o. option_and_then (chained marks basis a) o ≡ Some x →
    option_and_then (chained marks basis (a ++ b)) o ≡ chained marks basis b x) [
      | None ↦ λ h. cc
      | Some v ↦ λ h. chained-append marks basis a b v x h
    ] e

-- the pairs of a basis have the same numbers in one that has more
pub get_more : (basis more : List Pair) (at : ℕ) (b : Pair) → slice_get basis at ≡ Some b → slice_get (basis ++ more) at ≡ Some b
get_more [] more at b e = cc
get_more (c ∷ basis) more zero b e = e
get_more (c ∷ basis) more (suc at) b e = get_more basis more at b e

rewritten_more : (marks : List Bool) (basis more : List Pair) (r : Rewrite) (w x : List ℕ) → rewritten marks basis r w ≡ Some x →
    rewritten marks (basis ++ more) r w ≡ Some x
rewritten_more marks basis more (Forth at p) w x e =
    (elim (slice_get basis p) as (λ o. slice_get basis p ≡ o → option_and_then (λ b. replaced at b.left b.right w) o ≡ Some x →
    rewritten marks (basis ++ more) (Forth at p) w ≡ Some x) [
      | None ↦ λ g h. cc
      | Some b ↦ λ g h. ap (option_and_then (λ b. replaced at b.left b.right w)) (get_more basis more p b g) ∙ h
    ]) refl e
rewritten_more marks basis more (Back at p) w x e =
    (elim (slice_get basis p) as (λ o. slice_get basis p ≡ o → option_and_then (λ b. replaced at b.right b.left w) o ≡ Some x →
    rewritten marks (basis ++ more) (Back at p) w ≡ Some x) [
      | None ↦ λ g h. cc
      | Some b ↦ λ g h. ap (option_and_then (λ b. replaced at b.right b.left w)) (get_more basis more p b g) ∙ h
    ]) refl e
rewritten_more marks basis more (Cut at tail) w x e = e
rewritten_more marks basis more (Grow at tail) w x e = e

-- so a chain leads from the same word to the same word
pub chained_more : (marks : List Bool) (basis more : List Pair) (steps : List Rewrite) (w x : List ℕ) →
    chained marks basis steps w ≡ Some x → chained marks (basis ++ more) steps w ≡ Some x
chained_more marks basis more [] w x e = e
chained_more marks basis more (r ∷ steps) w x e =
    (elim (rewritten marks basis r w) as (λ o. rewritten marks basis r w ≡ o →
    option_and_then (chained marks basis steps) o ≡ Some x → chained marks (basis ++ more) (r ∷ steps) w ≡ Some x) [
      | None ↦ λ g h. cc
      | Some v ↦ λ g h. ap (option_and_then (chained marks (basis ++ more) steps)) (rewritten_more marks basis more r w v g)
          ∙ chained_more marks basis more steps v x h
    ]) refl e

within : (front w : List ℕ) → nat_le (length front) (length (front ++ w)) ≡ true
within front w = le-leb (length front) (length (front ++ w)) (let l = length-append front w in omega arith)

pub replaced_here : (front x y tail : List ℕ) → replaced (length front) x y (front ++ (x ++ tail)) ≡ Some (front ++ (y ++ tail))
replaced_here front x y tail =
    let le = within front (x ++ tail) in
    let d = drop-append_seam front (x ++ tail) in
    let t = take-append_seam front (x ++ tail) in
    let d2 = drop-append_seam x tail in
    let s : starts_with nat_eq (x ++ tail) x ≡ true =
    (starts_is Decides-eqb (x ++ tail) x (starts_with nat_eq (x ++ tail) x) refl).1 tail refl in
    rw (le, d, t, s, d2) refl

-- a pair is exchanged behind a front
pub forth : (marks : List Bool) (basis : List Pair) (at p : ℕ) (b : Pair) (front tail : List ℕ) → slice_get basis p ≡ Some b →
    length front ≡ at →
    rewritten marks basis (Forth at p) (front ++ (b.left ++ tail)) ≡ Some (front ++ (b.right ++ tail))
forth marks basis at p b front tail e count =
    ap (option_and_then (λ c. replaced at c.left c.right (front ++ (b.left ++ tail)))) e
    ∙ subst (λ (k : ℕ). replaced k b.left b.right (front ++ (b.left ++ tail)) ≡ Some (front ++ (b.right ++ tail))) count
    (replaced_here front b.left b.right tail)

-- and back
pub back : (marks : List Bool) (basis : List Pair) (at p : ℕ) (b : Pair) (front tail : List ℕ) → slice_get basis p ≡ Some b →
    length front ≡ at →
    rewritten marks basis (Back at p) (front ++ (b.right ++ tail)) ≡ Some (front ++ (b.left ++ tail))
back marks basis at p b front tail e count =
    ap (option_and_then (λ c. replaced at c.right c.left (front ++ (b.right ++ tail)))) e
    ∙ subst (λ (k : ℕ). replaced k b.right b.left (front ++ (b.right ++ tail)) ≡ Some (front ++ (b.left ++ tail))) count
    (replaced_here front b.right b.left tail)

-- a chain of one more rewrite, in front or behind
pub chained_first : (marks : List Bool) (basis : List Pair) (r : Rewrite) (steps : List Rewrite) (w v : List ℕ) →
    rewritten marks basis r w ≡ Some v →
    chained marks basis (r ∷ steps) w ≡ chained marks basis steps v
chained_first marks basis r steps w v e = ap (option_and_then (chained marks basis steps)) e

pub chained_last : (marks : List Bool) (basis : List Pair) (steps : List Rewrite) (r : Rewrite) (w v x : List ℕ) →
    chained marks basis steps w ≡ Some v →
    rewritten marks basis r v ≡ Some x → chained marks basis (steps ++ r ∷ []) w ≡ Some x
chained_last marks basis steps r w v x e f = chained-append marks basis steps (r ∷ []) w v e
    ∙ chained_first marks basis r [] v x f

-- the last one of a list turned round comes first
pub reverse-push : (steps : List Rewrite) (r : Rewrite) → reverse (steps ++ r ∷ []) ≡ r ∷ reverse steps
reverse-push steps r = reverse-append steps (r ∷ [])

-- exchanges stay exchanges with one more, turned round, and one list behind another
pub exchanges_on : (a b : List Rewrite) → AreExchanges a → AreExchanges b → AreExchanges (a ++ b)
exchanges_on a b h k = λ n. All-append (IsRewriteBelow n) a b (h n) (k n)

pub exchanges_push : (steps : List Rewrite) (r : Rewrite) → AreExchanges steps → ((n : ℕ) → IsRewriteBelow n r) →
    AreExchanges (steps ++ r ∷ [])
exchanges_push steps r h k = exchanges_on steps (r ∷ []) h
    (λ n. All-cons (IsRewriteBelow n) r [] (k n) (All-nil (IsRewriteBelow n)))

pub reversed_exchanges : (steps : List Rewrite) → AreExchanges steps → AreExchanges (reverse steps)
reversed_exchanges [] h = h
reversed_exchanges (r ∷ steps) h = λ n.
    let turned : reverse (r ∷ steps) ≡ reverse steps ++ r ∷ [] = reverse-append (r ∷ []) steps in
    subst (All (IsRewriteBelow n)) (sym turned) (All-append (IsRewriteBelow n) (reverse steps) (r ∷ [])
    (reversed_exchanges steps (λ k. All-tail (IsRewriteBelow k) r steps (h k)) n)
    (All-cons (IsRewriteBelow n) r [] (All-head (IsRewriteBelow n) r steps (h n)) (All-nil (IsRewriteBelow n))))
