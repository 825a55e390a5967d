-- Levels around a term and its derivation.
use Rattle.std.proofs.Common.{◌≡◌, ◌∙◌, ◌<◌, ◌+◌, refl, sym, ap, subst, arith, ℕ, Bool, true, List, [], ◌∷◌, ◌++◌, length}
use Rattle.std.specs.Prelude.{Option, None, Some, MatchOption, IfSome, option_to_list}
use Rattle.fst_types.specs.Tree.{Tree}
use Rattle.fst_terms.specs.CoreTree.{CoreTree, core_height}
use Rattle.fst_context.specs.Scope.{Scope}
use Rattle.fst_derivations.specs.Deriv.{Deriv, Derivs, deriv_of, type_of}
use Rattle.fst_derivations.specs.Rules.{Surroundings}
use Rattle.fst_rules.specs.Walks.{Walk, nowhere, next, only, given, after, parts_2, peeled, row_2, row_walk, walk_of}
use Rattle.fst_rules.specs.Levels.{rest_walk, AreLower}
use Rattle.fst_rules.specs.declared.levels.Level.{Level}

next_twice : (o : Option Scope) (F G : Walk) → next (next o F) G ≡ next o (after F G)
next_twice None F G = refl
next_twice (Some s) F G = refl

pub after_twice : (F G H : Walk) → after (after F G) H ≡ after F (after G H)
after_twice F G H = λ i s. next_twice (F s) G H i

after_some : (F : Walk) → after F Some ≡ F
after_some F = λ i s. some (F s) i
  where
    some : (o : Option Scope) → next o Some ≡ o
    some None = refl
    some (Some s) = refl

pub rest_last : (m : Surroundings) (ls : List Level) (l : Level) →
    rest_walk m (ls ++ l ∷ []) ≡ after (walk_of m l.term.now (deriv_of l.derivation.now)) (rest_walk m ls)
rest_last m [] l = sym (after_some (walk_of m l.term.now (deriv_of l.derivation.now)))
rest_last m (x ∷ ls) l =
    ap (λ F. after F (walk_of m x.term.now (deriv_of x.derivation.now))) (rest_last m ls l)
    ∙ after_twice (walk_of m l.term.now (deriv_of l.derivation.now)) (rest_walk m ls)
    (walk_of m x.term.now (deriv_of x.derivation.now))

pub lower_last : (n : ℕ) (ls : List Level) (l : Level) → AreLower n ls → core_height l.term.now < n → AreLower n (ls ++ l ∷ [])
lower_last n [] l x h = (h, tt)
lower_last n (y ∷ ls) l x h = (x.0, lower_last n ls l x.1 h)

last_lower : (n : ℕ) (ls : List Level) (l : Level) → AreLower n (ls ++ l ∷ []) → (core_height l.term.now < n) × AreLower n ls
last_lower n [] l x = (x.0, tt)
last_lower n (y ∷ ls) l x = let r = last_lower n ls l x.1 in (r.0, (x.0, r.1))

pub lower_popped : (old new : List Level) (r : Option Level) → old ≡ new ++ option_to_list r →
    (n : ℕ) → AreLower n old → AreLower n new × IfSome r (λ l. core_height l.term.now < n)
lower_popped old new None is n x = (subst (AreLower n) (is ∙ same new) x, tt)
  where
    same : (xs : List Level) → xs ++ [] ≡ xs
    same [] = refl
    same (y ∷ ys) = ap (λ zs. y ∷ zs) (same ys)
lower_popped old new (Some l) is n x = let r = last_lower n new l (subst (AreLower n) is x) in (r.1, r.0)

pub rest_popped : (old new : List Level) (n k : ℕ) (r : Option Level) → n ≡ length old → old ≡ new ++ option_to_list r →
    MatchOption r ((n ≡ 0) × (k ≡ 0)) (λ _. k + 1 ≡ n) →
    (m : Surroundings) → MatchOption r (rest_walk m old ≡ Some)
    (λ l. rest_walk m old ≡ after (walk_of m l.term.now (deriv_of l.derivation.now)) (rest_walk m new))
rest_popped [] new n k None long is cases m = refl
rest_popped (y ∷ old) new n k None long is cases m = absurd (omega (arith, long, cases.0))
rest_popped old new n k (Some l) long is cases m = ap (rest_walk m) is ∙ rest_last m new l

-- ---- rows with two parts

pub row_2_some : (fits : Tree → Tree → Bool) (ds : Derivs) (A B : Deriv → Walk) (d h : Deriv) (b : Bool) →
    Some (d, h) ≡ parts_2 ds → b ≡ fits (type_of d) (type_of h) → b ≡ true →
    row_2 fits ds A B ≡ after (A d) (B h)
row_2_some fits ds A B d h b e f g =
    ap (λ o. given o (λ p. only (fits (type_of p.0) (type_of p.1)) (after (A p.0) (B p.1)))) (sym e)
    ∙ ap (λ c. only c (after (A d) (B h))) (sym f ∙ g)

-- ---- below conversions

pub walk_peeled : (m : Surroundings) (e : CoreTree) (d : Deriv) (t : Tree) (ds : Derivs) → Some (t, ds) ≡ peeled m.vars d →
    walk_of m e d ≡ row_walk m e t ds
walk_peeled m e d t ds h = ap (λ o. given o (λ p. row_walk m e p.0 p.1)) (sym h)

pub walk_none : (m : Surroundings) (e : CoreTree) (d : Deriv) → None ≡ peeled m.vars d → walk_of m e d ≡ nowhere
walk_none m e d h = ap (λ o. given o (λ p. row_walk m e p.0 p.1)) (sym h)
