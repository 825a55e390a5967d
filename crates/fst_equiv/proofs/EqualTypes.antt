-- Where all comparisons of two types are Yes, the types are equal; and the comparisons of equal types are of parts that agree.
use Rattle.std.proofs.Common.{◌≡◌, inl, inr, ℕ, Bool, true, false, List, [], ◌∷◌, ◌++◌, refl, sym, subst, rules}
use Rattle.std.specs.Prelude.{nat_eq, if◌then◌else◌, ⊤, IfOk, Result, Ok, Err}
use Rattle.fst_base.specs.Agreement.{Agree}
use Rattle.fst_base.proofs.AgreementLaws.{agrees_itself}
use Rattle.fst_types.specs.Tree.{Tree, skip, send, receive, close, wait, select, offer, seq, rec, back, var, plain, arrow, pair, named}
use Rattle.fst_types.specs.declared.kind.Kind.{Kind}
use Rattle.fst_types.specs.declared.kind.Use.{Use}
use Rattle.fst_types.specs.declared.kind.Use.TheVariants.{Many, Once}
use Rattle.fst_kinds.specs.WellFormed.{IsWellFormed, IsSession}
use Rattle.fst_kinds.proofs.Laws.{not_top}
use Rattle.fst_lts.specs.Step.{step}
use Rattle.fst_lts.specs.Equal as equal
use Rattle.fst_lts.specs.Equal.{IsEqual}
use Rattle.fst_parts.specs.Same.{same_base, same_use}
use Rattle.fst_parts.proofs.Laws.{same_tree_is}
use Rattle.fst_equiv.specs.Comparison.{is_part, Compared, asked, differing, unless_same, of_part, comparisons, IsYes, AreYes, AreEqual, IsComparison, IsDifference}
use Rattle.fst_equiv.specs.declared.comparing.Same.{Same}
use Rattle.fst_equiv.specs.declared.comparing.Same.TheVariants.{Yes, Shape, Word, Undecided}
use Rattle.fst_equiv.specs.declared.fault.EquivFault.{EquivFault}
use Rattle.fst_equiv.proofs.ComparisonLaws.{yes_split}
use Rattle.fst_equiv.proofs.LeastLaws.{not_yes_and_no}
use Rattle.fst_equiv.proofs.EqualParts.{function_parts, pair_parts, parts_equal}

-- uses that pass the test are one
one_use : (u v : Use) → same_use u v ≡ true → u ≡ v
one_use Many Many e = refl
one_use Many Once e = absurd (cc e)
one_use Once Many e = absurd (cc e)
one_use Once Once e = refl

use_itself : (u : Use) → same_use u u ≡ true
use_itself Many = refl
use_itself Once = refl

-- parts that are Yes agree
yes_agree : (budget : ℕ) (s r : Tree) → IsYes budget (asked s r) → Agree step step s r
yes_agree budget s r (inl e) = subst (λ t. Agree step step s t) e (λ n. agrees_itself step n s)
yes_agree budget s r (inr (inl h)) = h.shown.agree
yes_agree budget s r (inr (inr h)) = h.shown.agree

module _ (vars : List Kind) (budget : ℕ) where
  part_equal : (s r : Tree) (j k : Kind) → is_part s ≡ true → IsWellFormed vars s j → IsWellFormed vars r k →
      AreYes budget (of_part s r) → IsEqual vars s r
  part_equal s r j k p ws wr a = by_form (is_part r) refl a
    where
      by_form : (c : Bool) → is_part r ≡ c → AreYes budget (if c then asked s r ∷ [] else differing ∷ []) → IsEqual vars s r
      by_form true q h = parts_equal vars s r j k p q ws wr (yes_agree budget s r h.0)
      by_form false q h = absurd h.0

  by_test : {A : Type 0} (c : Bool) → (c ≡ true → A) → AreYes budget (unless_same c) → A
  by_test true f h = f refl
  by_test false f h = absurd h.0

  by_use : (s r x y : Tree) (u v : Use) (c : Bool) → same_use u v ≡ c →
      (AreYes budget (comparisons s x) → IsEqual vars s x) → (AreYes budget (comparisons r y) → IsEqual vars r y) →
      AreYes budget (if c then comparisons s x ++ comparisons r y else differing ∷ []) → IsEqual vars (arrow u s r) (arrow v x y)
  by_use s r x y u v true e f g h =
      let both = yes_split budget (comparisons s x) (comparisons r y) h in
      subst (λ w. IsEqual vars (arrow u s r) (arrow w x y)) (one_use u v e) (equal.functions (f both.0) (g both.1))
  by_use s r x y u v false e f g h = absurd h.0

  -- well-formed types of which all comparisons are Yes are equal
  types_equal : (t u : Tree) (j k : Kind) → IsWellFormed vars t j → IsWellFormed vars u k → AreYes budget (comparisons t u) →
      IsEqual vars t u
  types_equal skip u j k wt wu h = part_equal skip u j k refl wt wu h
  types_equal (send b) u j k wt wu h = part_equal (send b) u j k refl wt wu h
  types_equal (receive b) u j k wt wu h = part_equal (receive b) u j k refl wt wu h
  types_equal close u j k wt wu h = part_equal close u j k refl wt wu h
  types_equal wait u j k wt wu h = part_equal wait u j k refl wt wu h
  types_equal (select bs) u j k wt wu h = part_equal (select bs) u j k refl wt wu h
  types_equal (offer bs) u j k wt wu h = part_equal (offer bs) u j k refl wt wu h
  types_equal (seq s r) u j k wt wu h = part_equal (seq s r) u j k refl wt wu h
  types_equal (rec s) u j k wt wu h = part_equal (rec s) u j k refl wt wu h
  types_equal (back n) u j k wt wu h = part_equal (back n) u j k refl wt wu h
  types_equal (var n) u j k wt wu h = part_equal (var n) u j k refl wt wu h
  types_equal (plain b) (plain c) j k wt wu h =
      by_test (same_base b c) (λ e. subst (λ t. IsEqual vars (plain b) t)
      ((same_tree_is (plain b) (plain c)).0 e) equal.base_types)
      h
  types_equal (plain b) u j k wt wu h = absurd h.0
  types_equal (arrow a s r) (arrow b x y) j k wt wu h =
      let p = function_parts vars a s r j wt in
      let q = function_parts vars b x y k wu in
      by_use s r x y a b (same_use a b) refl (types_equal s x p.0.0 q.0.0 p.0.1 q.0.1) (types_equal r y p.1.0 q.1.0 p.1.1 q.1.1) h
  types_equal (arrow a s r) u j k wt wu h = absurd h.0
  types_equal (pair s r) (pair x y) j k wt wu h =
      let p = pair_parts vars s r j wt in
      let q = pair_parts vars x y k wu in
      let both = yes_split budget (comparisons s x) (comparisons r y) h in
      equal.pairs (types_equal s x p.0.0 q.0.0 p.0.1 q.0.1 both.0) (types_equal r y p.1.0 q.1.0 p.1.1 q.1.1 both.1)
  types_equal (pair s r) u j k wt wu h = absurd h.0
  types_equal (named n) (named m) j k wt wu h =
      by_test (nat_eq n m) (λ e. subst (λ t. IsEqual vars (named n) t) ((same_tree_is (named n) (named m)).0 e) equal.data_types)
      h
  types_equal (named n) u j k wt wu h = absurd h.0

-- types of which all comparisons are Yes are equal
pub comparison_equal : (t u : Tree) (budget : ℕ) → AreYes budget (comparisons t u) → AreEqual t u
comparison_equal t u budget h = λ vars j k wt wu. types_equal vars budget t u j k wt wu h

-- so are those that are found to be Yes
pub found_equal : (t u : Tree) (budget : ℕ) (r : Result Same EquivFault) → IfOk r (λ a. IsComparison t u budget a) → IfOk r
    (λ a. a ≡ Yes → AreEqual t u)
found_equal t u budget (Ok a) h = λ e. comparison_equal t u budget (subst (λ b. IsComparison t u budget b) e h)
found_equal t u budget (Err f) h = tt

-- each question is of parts that agree, and no forms differ
abbrev AllAgree : List Compared → Type 0
AllAgree [] = ⊤
AllAgree (asked s r ∷ cs) = Agree step step s r × AllAgree cs
AllAgree (differing ∷ cs) = ⊥

agree_all : (xs ys : List Compared) → AllAgree xs → AllAgree ys → AllAgree (xs ++ ys)
agree_all [] ys a b = b
agree_all (asked s r ∷ xs) ys a b = (a.0, agree_all xs ys a.1 b)
agree_all (differing ∷ xs) ys a b = absurd a

agree_from : (xs ys : List Compared) → AllAgree (xs ++ ys) → AllAgree ys
agree_from [] ys a = a
agree_from (asked s r ∷ xs) ys a = agree_from xs ys a.1
agree_from (differing ∷ xs) ys a = absurd a

-- a session type is a part
session_part : (vars : List Kind) (s : Tree) → IsSession vars s → is_part s ≡ true
session_part vars skip w = refl
session_part vars (send b) w = refl
session_part vars (receive b) w = refl
session_part vars close w = refl
session_part vars wait w = refl
session_part vars (select bs) w = refl
session_part vars (offer bs) w = refl
session_part vars (seq s r) w = refl
session_part vars (rec s) w = refl
session_part vars (back k) w = refl
session_part vars (var k) w = refl
session_part vars (plain b) w = not_top w.0 Many w.1.kinded
session_part vars (arrow u s r) w = not_top w.0 u w.1.kinded.2
session_part vars (pair s r) w = not_top w.0 _ w.1.kinded.4
session_part vars (named k) w = not_top w.0 Many w.1.kinded

-- two parts lead to their question
two_parts : (s t : Tree) → is_part s ≡ true → is_part t ≡ true → comparisons s t ≡ asked s t ∷ []
two_parts s t p q = search rules

-- the comparisons of equal types are of parts that agree
equal_agree : (vars : List Kind) {t u : Tree} → IsEqual vars t u → AllAgree (comparisons t u)
equal_agree vars (equal.sessions {s} {r} ws wr h) =
    subst AllAgree (sym (two_parts s r (session_part vars s ws) (session_part vars r wr))) (h, tt)
equal_agree vars (equal.variables {k}) = (λ n. agrees_itself step n (var k), tt)
equal_agree vars (equal.base_types {b}) = subst
    (λ c. AllAgree (unless_same c)) (sym ((same_tree_is (plain b) (plain b)).1 refl)) tt
equal_agree vars (equal.data_types {k}) = subst
    (λ c. AllAgree (unless_same c)) (sym ((same_tree_is (named k) (named k)).1 refl)) tt
equal_agree vars (equal.functions {u} {s} {r} {t} {v} a b) =
    subst (λ c. AllAgree (if c then comparisons s t ++ comparisons r v else differing ∷ [])) (sym (use_itself u))
    (agree_all (comparisons s t) (comparisons r v) (equal_agree vars a) (equal_agree vars b))
equal_agree vars (equal.pairs {s} {r} {t} {v} a b) =
    agree_all (comparisons s t) (comparisons r v) (equal_agree vars a) (equal_agree vars b)

-- what decides two equal types is no difference
pub no_difference : (vars : List Kind) (t u : Tree) (budget : ℕ) (a : Same) → IsComparison t u budget a → IsDifference a →
    IsEqual vars t u → ⊥
no_difference vars t u budget Yes h d e = absurd d
no_difference vars t u budget Shape h d e = agree_from h.front (differing ∷ h.rest) (subst AllAgree h.parts (equal_agree vars e))
no_difference vars t u budget (Word trace side) h d e =
    let first = h.2.first in
    let agree = agree_from first.front (asked h.0 h.1 ∷ first.rest) (subst AllAgree first.parts (equal_agree vars e)) in
    not_yes_and_no h.0 h.1 trace.items side agree.0 h.3.least
no_difference vars t u budget (Undecided g pairs) h d e = absurd d
