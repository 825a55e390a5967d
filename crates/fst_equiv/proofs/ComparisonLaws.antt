-- What lists of comparisons come to, one behind the other.
use Rattle.std.proofs.Common.{◌≡◌, ℕ, List, [], ◌∷◌, ◌++◌, refl, sym, ap, subst, ◌∙◌, append_assoc, Result, Ok, Err}
use Rattle.std.specs.Prelude.{IfOk, IfErr, IsErrAnd}
use Rattle.fst_equiv.specs.declared.fault.EquivFault.{EquivFault}
use Rattle.fst_equiv.specs.declared.fault.EquivFault.TheVariants.{TooLarge}
use Rattle.fst_types.specs.Tree.{Tree}
use Rattle.fst_equiv.specs.Comparison.{Compared, asked, differing, AreYes, IsDecisive, IsDecisiveQuestion, comparisons, ComesTo, ComesToTooLarge}
use Rattle.fst_equiv.specs.declared.comparing.Same.{Same}
use Rattle.fst_equiv.specs.declared.comparing.Same.TheVariants.{Yes, Shape, Word, Undecided}

-- all are Yes where the first ones and the others are
yes_behind : (budget : ℕ) (xs ys : List Compared) → AreYes budget xs → AreYes budget ys → AreYes budget (xs ++ ys)
yes_behind budget [] ys a b = b
yes_behind budget (x ∷ xs) ys a b = (a.0, yes_behind budget xs ys a.1 b)

-- the first ones and the others are Yes where all are
pub yes_split : (budget : ℕ) (xs ys : List Compared) → AreYes budget (xs ++ ys) → AreYes budget xs × AreYes budget ys
yes_split budget [] ys a = (tt, a)
yes_split budget (x ∷ xs) ys a =
    let rest = yes_split budget xs ys a.1 in
    ((a.0, rest.0), rest.1)

-- what decides the first ones decides all
decisive_in_front : (budget : ℕ) (xs ys : List Compared) (c : Compared) → IsDecisive budget xs c → IsDecisive budget (xs ++ ys) c
decisive_in_front budget xs ys c d =
    record {
      front = d.front;
      rest = d.rest ++ ys;
      parts = ap (λ zs. zs ++ ys) d.parts ∙ append_assoc d.front (c ∷ d.rest) ys;
      before = d.before;
    }

-- behind ones that are Yes, what decides the others decides all
decisive_behind : (budget : ℕ) (xs ys : List Compared) (c : Compared) → AreYes budget xs → IsDecisive budget ys c →
    IsDecisive budget (xs ++ ys) c
decisive_behind budget xs ys c ahead d = record {
  front = xs ++ d.front;
  rest = d.rest;
  parts = ap (λ zs. xs ++ zs) d.parts ∙ sym (append_assoc xs d.front (c ∷ d.rest));
  before = yes_behind budget xs d.front ahead d.before;
}

question_in_front : (budget : ℕ) (xs ys : List Compared) (s r : Tree) → IsDecisiveQuestion budget xs s r →
    IsDecisiveQuestion budget (xs ++ ys) s r
question_in_front budget xs ys s r d = record { differ = d.differ; first = decisive_in_front budget xs ys (asked s r) d.first }

question_behind : (budget : ℕ) (xs ys : List Compared) (s r : Tree) → AreYes budget xs → IsDecisiveQuestion budget ys s r →
    IsDecisiveQuestion budget (xs ++ ys) s r
question_behind budget xs ys s r ahead d = record {
  differ = d.differ;
  first =
      decisive_behind budget xs ys (asked s r) ahead d.first;
}

-- the first ones come to what all come to, unless they are Yes
pub comes_in_front : (budget : ℕ) (xs ys : List Compared) (a : Same) →
    (a ≡ Yes → ⊥) → ComesTo xs budget a → ComesTo (xs ++ ys) budget a
comes_in_front budget xs ys Yes n h = absurd (n refl)
comes_in_front budget xs ys Shape n h = decisive_in_front budget xs ys differing h
comes_in_front budget xs ys (Word trace side) n h = (h.0, h.1, question_in_front budget xs ys h.0 h.1 h.2, h.3)
comes_in_front budget xs ys (Undecided g pairs) n h = (h.0, h.1, question_in_front budget xs ys h.0 h.1 h.2, h.3)

-- behind ones that are Yes, the others come to what all come to
comes_behind : (budget : ℕ) (xs ys : List Compared) (a : Same) → AreYes budget xs → ComesTo ys budget a →
    ComesTo (xs ++ ys) budget a
comes_behind budget xs ys Yes ahead h = yes_behind budget xs ys ahead h
comes_behind budget xs ys Shape ahead h = decisive_behind budget xs ys differing ahead h
comes_behind budget xs ys (Word trace side) ahead h = (h.0, h.1, question_behind budget xs ys h.0 h.1 ahead h.2, h.3)
comes_behind budget xs ys (Undecided g pairs) ahead h = (h.0, h.1, question_behind budget xs ys h.0 h.1 ahead h.2, h.3)

-- so it is with a question that is too large
too_large_behind : (budget : ℕ) (xs ys : List Compared) → AreYes budget xs → ComesToTooLarge ys budget →
    ComesToTooLarge (xs ++ ys) budget
too_large_behind budget xs ys ahead h = (h.0, h.1, question_behind budget xs ys h.0 h.1 ahead h.2, h.3)

-- the only comparison decides, if nothing shows that it is Yes
pub only_one : (budget : ℕ) (c : Compared) → IsDecisive budget (c ∷ []) c
only_one budget c = record { front = []; rest = []; parts = refl; before = tt }

-- types that lead to nothing but a difference are decided by it
pub differing_alone : (budget : ℕ) (t u : Tree) → comparisons t u ≡ differing ∷ [] → IsDecisive budget (comparisons t u) differing
differing_alone budget t u e = subst (λ cs. IsDecisive budget cs differing) (sym e) (only_one budget differing)

-- the only question decides, of two different parts
pub only_question : (budget : ℕ) (s r : Tree) → (s ≡ r → ⊥) → IsDecisiveQuestion budget (asked s r ∷ []) s r
only_question budget s r differ = record { differ = differ; first = only_one budget (asked s r) }

module _ (budget : ℕ) (xs ys : List Compared) (r : Result Same EquivFault) (h : AreYes budget xs) where
  -- what is found of the others is found of all
  pub found_behind : IfOk r (λ a. ComesTo ys budget a) → IfOk r (λ a. ComesTo (xs ++ ys) budget a)
  found_behind = elim r as (λ q. IfOk q (λ a. ComesTo ys budget a) → IfOk q (λ a. ComesTo (xs ++ ys) budget a)) [
    | Ok a ↦ λ f. comes_behind budget xs ys a h f
    | Err e ↦ λ f. tt
  ]

  -- also that they are too large
  pub too_large_found_behind : IfErr r (λ f. f ≡ TooLarge → ComesToTooLarge ys budget) → IfErr r
      (λ f. f ≡ TooLarge → ComesToTooLarge (xs ++ ys) budget)
  too_large_found_behind = elim r as (λ q. IfErr q (λ f. f ≡ TooLarge → ComesToTooLarge ys budget) → IfErr q
      (λ f. f ≡ TooLarge → ComesToTooLarge (xs ++ ys) budget)) [
        | Ok a ↦ λ f. tt
        | Err e ↦ λ f is. too_large_behind budget xs ys h (f is)
      ]

-- what is so of a fault that is too large is so where it is passed on
pub too_large_by : {A : Type 0} {T : Type 0} (r : Result T EquivFault) (e : EquivFault) → IsErrAnd r (λ f. f ≡ e) →
    (e ≡ TooLarge → A) → IfErr r (λ f. f ≡ TooLarge → A)
too_large_by (Ok v) e h k = tt
too_large_by (Err f) e h k = λ is. k (sym h ∙ is)
