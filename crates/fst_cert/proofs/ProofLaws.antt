-- What is known of the certificate of a Yes.
use Rattle.std.proofs.Common.{◌≡◌, ◌<◌, ◌^◌, ◌∙◌, ◌∷◌, [], ℕ, suc, List, All, Bool, Some, arith, get_or, length, map, refl, subst, sym}
use Rattle.std.specs.Prelude.{option_map, slice_get}
use Rattle.std.proofs.lemmas.List.Elements.{All-cons, All-nil}
use Rattle.fst_types.specs.Tree.{Tree}
use Rattle.fst_types.specs.declared.kind.Kind.{Kind}
use Rattle.fst_kinds.specs.WellFormed.{IsSession}
use Rattle.fst_types.specs.declared.label.Label.{Label}
use Rattle.fst_words.specs.Words.{Productions, WordBelow, after}
use Rattle.fst_words.specs.declared.grammar.Grammar.{Grammar}
use Rattle.fst_norms.specs.Pruned.{AreUnnormed, pruned_word}
use Rattle.fst_norms.proofs.Laws.{pruned_in_range}
use Rattle.fst_shared.specs.declared.handle.SharedPair.{SharedPair}
use Rattle.fst_basis.specs.Basis.{IsPair, IsProof}
use Rattle.fst_basis.specs.declared.proof.Chain.{Chain}
use Rattle.fst_basis.specs.declared.proof.Pair.{Pair}
use Rattle.fst_basis.specs.declared.proof.Proof.{Proof}
use Rattle.fst_breadth.specs.Answer.{pair_of}
use Rattle.fst_breadth.specs.Reached.{ReachedPair}
use Rattle.fst_grammar.specs.Ends.{EndsLaw, EndsWith}
use Rattle.fst_equiv.specs.Problem.{IsShownEqual}
use Rattle.fst_equiv.proofs.Laws.{same_marks}
use Rattle.fst_equiv.specs.declared.verdict.Certificate.TheVariants.{Basis}
use Rattle.fst_cert.specs.Certificates.{HasNoEmpty}
use Rattle.fst_cert.specs.Proofs.{IsOfYes, IsProofIn}
use Rattle.fst_cert.specs.Visited.{basis_of}
use Rattle.fst_cert.proofs.EmptyLaws.{both_empty}

-- a proof with one list of marks is one with each
pub with_marks : (letters : List Label) (rows : Productions) (x y : List ℕ) (marks : List Bool) (basis : List Pair)
    (chains : List Chain) → AreUnnormed rows marks → IsProof (length letters) rows marks x y basis chains →
    IsProofIn letters rows x y basis chains
with_marks letters rows x y marks basis chains set proof others other =
    subst (λ m. IsProof (length letters) rows m x y basis chains) (same_marks rows marks others set other) proof

-- no word of a proof's pairs is empty
pub proof_words : (n : ℕ) (rows : Productions) (marks : List Bool) (x y : List ℕ) (basis : List Pair) (chains : List Chain) →
    IsProof n rows marks x y basis chains → All HasNoEmpty basis
proof_words n rows marks x y basis [] p = absurd p.1
proof_words n rows marks x y basis (c ∷ cs) p = λ k d lt.
    let one : IsPair rows (get_or basis k d) = p.1.0.pairs k d lt in
    record { left = one.left; right = one.right }

-- the certificate's own proof
module _ (g : Grammar) (x y : List ℕ) (p : Proof) (yes : IsOfYes (Basis g x y p)) where
  pub own_proof : IsProofIn g.letters.items g.rules.items x y p.basis.items p.chains.items
  own_proof =
      let h = yes.certifies in
      with_marks g.letters.items g.rules.items x y h.marks p.basis.items p.chains.items h.problem.unnormed h.proof

  pub own_words : All HasNoEmpty p.basis.items
  own_words =
      let h = yes.certifies in
      proof_words (length g.letters.items) g.rules.items h.marks x y p.basis.items p.chains.items h.proof

-- all pairs that the words of two types reach
module _ (ends : EndsLaw) (vars others : List Kind) (s r : Tree) (is_left : IsSession vars s) (is_right : IsSession others r)
    (budget : ℕ) (small : budget < 2 ^ 32) (letters : List Label) (rows : Productions) (x y : List ℕ) (pairs : List SharedPair)
    (h : IsShownEqual s r budget letters rows x y pairs) where
  pub visited_few : length pairs < 2 ^ 32
  visited_few = let within = h.all.within in omega arith

  pub visited_left : WordBelow (length rows) x
  visited_left = subst (WordBelow (length rows)) (sym h.left) (pruned_in_range (length rows) h.marks h.u h.problem.range.left)

  pub visited_right : WordBelow (length rows) y
  visited_right = subst (WordBelow (length rows)) (sym h.right) (pruned_in_range (length rows) h.marks h.v h.problem.range.right)

  both : EndsWith rows h.u h.v × EndsWith rows h.v h.u
  both = ends vars others s r is_left is_right h.problem.small.left h.problem.small.right letters rows h.u h.v
      h.problem.translation

  entry_words : (j : ℕ) (e : ReachedPair) → slice_get h.all.found j ≡ Some e →
      HasNoEmpty (record { left = e.left; right = e.right })
  entry_words j e at =
      let reached = h.all.first.reached j e at in
      let set = h.problem.unnormed.set in
      let same = h.all.alike j e at in
      let in_left = subst (λ z. option_map (pruned_word h.marks) (after rows z e.trace) ≡ Some e.left) h.left reached.left in
      let in_right = subst (λ z. option_map (pruned_word h.marks) (after rows z e.trace) ≡ Some e.right) h.right reached.right in
      record {
        left = λ none. reached.differ (none ∙ sym (both_empty rows h.marks set h.u h.v e.trace e.left e.right both.0 in_left
            in_right
            same none));
        right = λ none. reached.differ (both_empty rows h.marks set h.v h.u e.trace e.right e.left both.1 in_right in_left
            (λ a. sym (same a)) none ∙ sym none);
      }

  pub visited_words : All HasNoEmpty (basis_of pairs)
  visited_words = subst (λ z. All HasNoEmpty (basis_of z)) h.all.pairs_are (entries h.all.found entry_words)
    where
      entries : (found : List ReachedPair) →
          ((j : ℕ) (e : ReachedPair) → slice_get found j ≡ Some e → HasNoEmpty (record { left = e.left; right = e.right })) →
          All HasNoEmpty (basis_of (map pair_of found))
      entries [] each = All-nil HasNoEmpty
      entries (e ∷ found) each = All-cons HasNoEmpty (record { left = e.left; right = e.right }) (basis_of (map pair_of found))
          (each 0 e refl) (entries found (λ j d at. each (suc j) d at))
