-- Equality of types is what derivations ask of it.
use Rattle.std.proofs.Common.{◌≡◌, ◌∙◌, ℕ, List, [], ◌∷◌, Option, Some, None, refl, sym, ap, subst}
use Rattle.std.specs.Prelude.{◌↔◌, Contains, IsSome}
use Rattle.fst_types.specs.Tree.{Tree, arrow, pair}
use Rattle.fst_types.specs.declared.kind.Kind.{Kind}
use Rattle.fst_types.specs.declared.kind.Use.{Use}
use Rattle.fst_types.specs.declared.label.Label.{Label}
use Rattle.fst_types.specs.declared.label.Label.TheVariants as label
use Rattle.fst_kinds.specs.WellFormed.{IsSession}
use Rattle.fst_lts.specs.Step.{step, labels}
use Rattle.fst_lts.specs.Equal.{IsEqual}
use Rattle.fst_lts.proofs.Laws.{labels_are_moves}
use Rattle.fst_instances.proofs.Laws.{equal_itself, equal_back, equal_through, equal_kind, equal_function, equal_pair, equal_base_type, equal_data_type, equal_session, equal_steps}
use Rattle.fst_lts.specs.Equal as equal
use Rattle.fst_base.specs.Agreement.{Agree, AgreeTo, BothOrNeither}
use Rattle.fst_premises.proofs.Laws.{pair_of_formed}
use Rattle.fst_typing.proofs.Containing.{contains_first, no_first, mapped_contains, contains_mapped, all_mapped, same_offer}
use Rattle.fst_derivations.specs.Parts.{IsFormed, HasUse, IsConversion, IsOffering}
use Rattle.fst_derivations.specs.Laws.{IsTypeEquality}
use Rattle.fst_typing.proofs.Formed.{arrow_formed, pair_formed, arrow_of_formed, moving_session, moved_formed}

module _ (vars : List Kind) where
  abbrev E : Tree → Tree → Type 0
  E = IsConversion vars

  one_more : (s t : Tree) (n : Use) → E s t → HasUse vars t n → HasUse vars s n
  one_more s t n e h =
      let k = equal_kind vars e.equal (e.left.0) h.kind e.left.1.kinded h.formed.kinded in
      record { kind = e.left.0; formed = e.left.1; is = ap (λ z. z.uses) k ∙ h.is }

  function_of : (t : Tree) (n : Use) (a b : Tree) → E t (arrow n a b) → (x : Tree) × (y : Tree) ×
      (t ≡ arrow n x y) × E x a × E y b
  function_of t n a b e =
      let f = equal_function vars (equal_back vars e.equal) in
      let left = arrow_formed vars n f.domain f.codomain (subst (IsFormed vars) f.is e.left) in
      let right = arrow_formed vars n a b e.right in (
        f.domain,
        f.codomain,
        f.is,
        record { left = left.0; right = right.0; equal = equal_back vars f.domains },
        record { left = left.1; right = right.1; equal = equal_back vars f.codomains },
      )

  pair_of : (t a b : Tree) → E t (pair a b) → (x : Tree) × (y : Tree) × (t ≡ pair x y) × E x a × E y b
  pair_of t a b e =
      let f = equal_pair vars (equal_back vars e.equal) in
      let left = pair_formed vars f.first f.second (subst (IsFormed vars) f.is e.left) in
      let right = pair_formed vars a b e.right in (
        f.first,
        f.second,
        f.is,
        record { left = left.0; right = right.0; equal = equal_back vars f.firsts },
        record { left = left.1; right = right.1; equal = equal_back vars f.seconds },
      )

  step_of : (s t r : Tree) (a : Label) → ((k : ℕ) → a ≡ label.Var k → ⊥) → E s t → step t a ≡ Some r → (q : Tree) ×
      (step s a ≡ Some q) × E q r
  step_of s t r a n e h =
      let right = moving_session vars t e.right.0 a r e.right.1 n h in
      let back = equal_back vars e.equal in
      let left = (equal_session vars back right).0 in
      let f = equal_steps vars back right a r h in (
        f.next,
        f.steps,
        record {
          left = moved_formed vars s f.next a left f.steps;
          right = moved_formed vars t r a right h;
          equal = equal_back vars f.equal;
        },
      )

  -- one type moves where the other does
  both_move : (o p : Option Tree) → BothOrNeither (AgreeTo step step 0) o p → IsSome o → IsSome p
  both_move (Some x) (Some y) h e = refl
  both_move (Some x) None h e = absurd h
  both_move None p h e = absurd (cc e)

  moves_too : (s t : Tree) → Agree step step s t → (a : Label) → IsSome (step s a) → IsSome (step t a)
  moves_too s t h a e = both_move (step s a) (step t a) (h 1 a) e

  -- a type that moves by an offered label is a session type
  offering_session : (t : Tree) (l : List ℕ) → IsFormed vars t → IsSome (step t (label.Offer l)) → IsSession vars t
  offering_session t l f e = pick (step t (label.Offer l)) refl e
    where
      pick : (o : Option Tree) → step t (label.Offer l) ≡ o → IsSome o → IsSession vars t
      pick (Some r) h e = moving_session vars t f.0 (label.Offer l) r f.1 (λ k z. cc z) h
      pick None h e = absurd (cc e)

  offers_of : (s t : Tree) (ls : List (List ℕ)) → E s t → IsOffering t ls → (ks : List (List ℕ)) × IsOffering s ks ×
      ((x : List ℕ) → Contains ks x ↔ Contains ls x)
  offers_of s t [] e o = absurd (o.some refl)
  offers_of s t (l ∷ ls) e o =
      let names : List (List ℕ) = l ∷ ls in
      let moves : (x : List ℕ) → Contains names x → IsSome (step t (label.Offer x)) =
      λ x h. (labels_are_moves t (label.Offer x)).0
      (subst (λ z. Contains z (label.Offer x)) (sym o.labels) (mapped_contains label.Offer names x h)) in
      let right : IsSession vars t = offering_session t l e.right (moves l (contains_first l ls)) in
      let forth : Agree step step t s = (equal_session vars (equal_back vars e.equal) right).1 in
      let left : IsSession vars s = (equal_session vars (equal_back vars e.equal) right).0 in
      let back : Agree step step s t = (equal_session vars e.equal left).1 in
      let named : (a : Label) → Contains (labels s) a → (x : List ℕ) × Contains names x × (a ≡ label.Offer x) =
      λ a h. contains_mapped label.Offer names a (subst
      (λ z. Contains z a) o.labels ((labels_are_moves t a).1 (moves_too s t back a ((labels_are_moves s a).0 h)))) in
      let all = all_mapped label.Offer (labels s) (λ a h. let x = named a h in (x.0, x.2)) in
      let ks : List (List ℕ) = all.0 in
      let there : (x : List ℕ) → Contains ks x → Contains names x = λ x h.
      let y = named (label.Offer x) (subst (λ z. Contains z (label.Offer x)) (sym all.1) (mapped_contains label.Offer ks x h)) in
      subst (Contains names) (sym (same_offer x y.0 y.2)) y.1 in
      let here : (x : List ℕ) → Contains names x → Contains ks x = λ x h.
      let y = contains_mapped label.Offer ks (label.Offer x)
      (subst (λ z. Contains z (label.Offer x)) all.1
      ((labels_are_moves s (label.Offer x)).1 (moves_too t s forth (label.Offer x) (moves x h)))) in
      subst (Contains ks) (sym (same_offer x y.0 y.2)) y.1 in (
        ks,
        record { labels = all.1; some = λ h. no_first l (subst (λ z. Contains z l) h (here l (contains_first l ls))) },
        λ x. (there x, here x),
      )

  -- equality is what derivations ask of it
  pub equality : IsTypeEquality vars (IsConversion vars)
  equality = record {
    itself = λ t f. record { left = f; right = f; equal = equal_itself vars t f.0 f.1 };
    back = λ s t e. record { left = e.right; right = e.left; equal = equal_back vars e.equal };
    through = λ s t r e f. record { left = e.left; right = f.right; equal = equal_through vars e.equal f.equal };
    formed = λ s t e. e.left;
    uses = one_more;
    base_types = λ t b e. equal_base_type vars (equal_back vars e.equal);
    data_types = λ t n e. equal_data_type vars (equal_back vars e.equal);
    arrows = function_of;
    pairs = pair_of;
    steps = step_of;
    offers = offers_of;
    arrow_of = λ n a b x y e f. record {
      left = arrow_of_formed vars n a b e.left f.left;
      right =
          arrow_of_formed vars n x y e.right f.right;
      equal = equal.functions e.equal f.equal;
    };
    pair_of = λ a b x y e f. record {
      left = pair_of_formed vars a b e.left f.left;
      right =
          pair_of_formed vars x y e.right f.right;
      equal = equal.pairs e.equal f.equal;
    };
  }
