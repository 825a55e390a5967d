-- Chains, one for each rule.
use Rattle.std.proofs.Common.{◌≡◌, ◌↔◌, ◌≤◌, ℕ, List, [], ◌∷◌, ◌++◌, length, take, drop, refl, sym, ◌∙◌, arith, Some, Bool}
use Rattle.std.proofs.lemmas.List.{drop-append-le, drop_all, length-take, take-append-le, take_all}
use Rattle.fst_words.specs.declared.rules.Rule.{Rule}
use Rattle.fst_words.specs.Words.{Productions, first_row, step}
use Rattle.fst_basis.specs.declared.proof.Pair.{Pair}
use Rattle.fst_basis.specs.declared.proof.Chain.{Chain}
use Rattle.fst_basis.specs.Rewrites.{chained}
use Rattle.fst_basis.specs.Basis.{AreJoined, AreJoinedByRules, IsJoined}

-- there are as many chains as rules
pub as_many : (rows : Productions) (marks : List Bool) (basis : List Pair) (t w : List ℕ) (rules : List Rule) (cs : List Chain) →
    AreJoinedByRules rows marks basis t w rules cs → length rules ≡ length cs
as_many rows marks basis t w [] [] h = refl
as_many rows marks basis t w [] (c ∷ cs) h = absurd h
as_many rows marks basis t w (r ∷ rules) [] h = absurd h
as_many rows marks basis t w (r ∷ rules) (c ∷ cs) h = let e = as_many rows marks basis t w rules cs h.1 in omega arith

-- a chain joins the rule's word to what w becomes, where this is x, exactly where it leads to x
pub joined_told : (rows : Productions) (marks : List Bool) (basis : List Pair) (t w : List ℕ) (r : Rule) (c : Chain)
    (x : List ℕ) → step rows w r.letter ≡ Some x →
    (chained marks basis c.steps.items (r.word ++ t) ≡ Some x) ↔ IsJoined rows marks basis t w r c
joined_told rows marks basis t w r c x e = (
  (λ h. (x, e, h)),
  (λ h. let same : h.0 ≡ x = (let f = sym h.1 ∙ e in cc) in rw same at h.2),
)

-- one pair more, with its chains
pub all_joined_push : (rows : Productions) (marks : List Bool) (P : List Pair) (b : Pair) (ds : List Chain) →
    AreJoinedByRules rows marks P (drop 1 b.left) b.right (first_row rows b.left) ds →
    (bs : List Pair) (cs : List Chain) → AreJoined rows marks P bs cs → AreJoined rows marks P (bs ++ b ∷ []) (cs ++ ds)
all_joined_push rows marks P b ds j [] cs h =
    let many = as_many rows marks P (drop 1 b.left) b.right (first_row rows b.left) ds j in
    let all : take (length (first_row rows b.left)) ds ≡ ds = take_all (length (first_row rows b.left)) ds (omega arith) in
    let none : drop (length (first_row rows b.left)) ds ≡ [] = drop_all (length (first_row rows b.left)) ds (omega arith) in
    rw h (rw (all, none) (j, refl))
all_joined_push rows marks P b ds j (c ∷ bs) cs h =
    let n = length (first_row rows c.left) in
    let many = as_many rows marks P (drop 1 c.left) c.right (first_row rows c.left) (take n cs) h.0 in
    let short = length-take n cs in
    let within : n ≤ length cs = omega arith in
    let front : take n (cs ++ ds) ≡ take n cs = take-append-le n cs ds within in
    let rest : drop n (cs ++ ds) ≡ drop n cs ++ ds = drop-append-le n cs ds within in
    rw (front, rest) (h.0, all_joined_push rows marks P b ds j bs (drop n cs) h.1)
