-- What the candidates that two words need prove.
use Rattle.std.proofs.Common.{◌≡◌, ◌*◌, ◌<◌, ◌≤◌, ℕ, List, [], length, take, sym, ◌∙◌, ap, subst, arith, Option, Some, Bool, get_or, All}
use Rattle.std.specs.Prelude.{slice_get}
use Rattle.std.proofs.lemmas.List.{length-map, take_all}
use Rattle.std.proofs.lemmas.List.Elements.{All-cons, All-nil}
use Rattle.std.proofs.lemmas.Option.{slice_get-get_or, slice_get-map}
use Rattle.fst_base.proofs.Options.{mapped_some}
use Rattle.fst_words.specs.Ordered.{AreOrdered}
use Rattle.fst_words.specs.Words.{InRange, LettersBelow, Productions, WordBelow, row_of}
use Rattle.fst_norms.specs.Norms.{IsNormOrNone}
use Rattle.fst_norms.specs.Bounds.{bound_at}
use Rattle.fst_words.specs.Marks.{IsUnnormedSet}
use Rattle.fst_basis.specs.declared.proof.Pair.{Pair}
use Rattle.fst_basis.specs.declared.proof.Chain.{Chain}
use Rattle.fst_basis.specs.Basis.{AreJoined, IsChainBelow, IsPair, IsPairBelow, IsProof}
use Rattle.fst_normed.specs.Candidates.{AreCandidates, candidate, residual}
use Rattle.fst_normed.specs.Closing.{IsClosed}
use Rattle.fst_normed.specs.Normed.{IsNormedGrammar}
use Rattle.fst_norms.specs.Lowering.{AreLowering, LowerByOne}
use Rattle.fst_norms.specs.Norms.{IsNormed}
use Rattle.fst_normed.specs.Walks.{pairs_of}
use Rattle.fst_normed.proofs.CandidateLaws.{few_candidates}
use Rattle.fst_normed.proofs.LowerLaws.{residual_below}
use Rattle.fst_normed.proofs.NormedLaws.{weights}

-- the words that lower norms lower them by one
pub lower_by_one : (rows : Productions) (norms : List (Option ℕ)) (words : List (List ℕ)) → IsNormedGrammar rows norms words →
    LowerByOne norms words
lower_by_one rows norms words g n lt = let count = g.lowering.count in ((weights rows norms words g).lowers n (omega arith)).2

-- what holds of each pair in the list holds of all
all_each : (P : Pair → Type 0) (bs : List Pair) → ((at : ℕ) (b : Pair) → slice_get bs at ≡ Some b → P b) → All P bs
all_each P bs h i d l = h i (get_or bs i d) (slice_get-get_or bs i d l)

-- the pairs of candidates are the grammar's
pairs_below : (norms : List (Option ℕ)) (words : List (List ℕ)) (candidates : List (ℕ × ℕ)) →
    All (WordBelow (length words)) words → AreCandidates (length words) norms candidates →
    All (IsPairBelow (length words)) (pairs_of norms words candidates)
pairs_below norms words candidates all are = all_each (IsPairBelow (length words)) (pairs_of norms words candidates) (λ at b e.
    let p = mapped_some (candidate norms words) (slice_get candidates at) b
    (sym (slice_get-map (candidate norms words) candidates at) ∙ e) in
    let c = are.each p.0 (at, p.1) in
    subst (IsPairBelow (length words)) p.2 (record {
      left = All-cons (λ k. k < length words) p.0.1 [] c.second (All-nil (λ k. k < length words));
      right = All-cons (λ k. k < length words) p.0.0 (residual norms words p.0.0 p.0.1) c.first
          (residual_below norms words all p.0.0 p.0.1 c.second);
    }))

-- candidates that hold are a basis, whatever is marked
pub is_proof : (n : ℕ) (rows : Productions) (norms : List (Option ℕ)) (words : List (List ℕ)) (candidates : List (ℕ × ℕ))
    (u v : List ℕ) (cs : List Chain) (marks : List Bool) →
    LettersBelow n rows → InRange rows → WordBelow (length rows) u → WordBelow (length rows) v → length words ≡ length rows →
    All (WordBelow (length words)) words →
    length marks ≡ length rows → IsUnnormedSet rows marks → IsClosed rows norms words u v candidates cs →
    IsProof n rows marks u v (pairs_of norms words candidates) cs
is_proof n rows norms words candidates u v cs marks letters range left right size all count set s =
    let P = pairs_of norms words candidates in
    let whole : take (length candidates) candidates ≡ candidates = take_all (length candidates) candidates (omega arith) in
    let below = pairs_below norms words candidates all (subst (λ (k : ℕ). AreCandidates k norms candidates) (sym size) s.are) in
    subst (λ (z : List Chain). IsProof n rows marks u v P z) (sym s.chains) (
      record {
        letters = letters;
        rules = range;
        count = count;
        left = left;
        right = right;
        pairs = subst (λ (k : ℕ). All (IsPairBelow k) P) size below;
        chains = All-cons (IsChainBelow (length rows)) s.first s.others (s.leads.0 (length rows)) (s.hold.below (length rows));
      },
      (
        record {
          set = set;
          pairs = subst (λ (z : List (ℕ × ℕ)). All (IsPair rows) (pairs_of norms words z)) whole s.hold.pairs;
          joined = subst (λ (z : List (ℕ × ℕ)). AreJoined rows marks P (pairs_of norms words z) s.others) whole
              (s.hold.joined marks);
        },
        s.leads.1 marks,
      ),
    )

-- and at most as many as pairs of non-terminals
pub count_told : (n : ℕ) (norms : List (Option ℕ)) (words : List (List ℕ)) (candidates : List (ℕ × ℕ)) (basis : List Pair) →
    AreCandidates n norms candidates → basis ≡ pairs_of norms words candidates → length basis ≤ n * n
count_told n norms words candidates basis are e =
    let few = few_candidates n norms candidates are in
    let is = ap length e in
    let many = length-map candidates (candidate norms words) in
    omega arith

-- what a grammar is known to be once its norms and its lowering words are found
pub grammar_of : (rows : Productions) (norms read : List (Option ℕ)) (words : List (List ℕ)) → InRange rows →
    ((n : ℕ) → AreOrdered (row_of rows n)) → IsNormed rows →
    length norms ≡ length rows → ((n : ℕ) → IsNormOrNone rows n (bound_at norms n)) → read ≡ norms → AreLowering rows read words →
    IsNormedGrammar rows norms words
grammar_of rows norms read words range ordered normed count each same lowering = record {
  range = range;
  ordered = ordered;
  normed = normed;
  are_norms = record { count = count; each = each };
  lowering = subst (λ (z : List (Option ℕ)). AreLowering rows z words) same lowering;
}
