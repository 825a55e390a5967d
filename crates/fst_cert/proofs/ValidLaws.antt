-- Of a proof's chains only the rewrites count, and the proof that a certificate gives is valid of its types.
use Rattle.std.proofs.Common.{◌≡◌, ◌∙◌, ◌∷◌, ◌++◌, [], ℕ, List, All, Bool, Some, ap, drop, length, refl, subst, sym, take}
use Rattle.std.proofs.lemmas.List.{drop-map, take-map}
use Rattle.std.proofs.lemmas.List.Elements.{All-cons, All-head, All-nil, All-tail}
use Rattle.fst_types.specs.Tree.{Tree}
use Rattle.fst_words.specs.Words.{Productions, first_row}
use Rattle.fst_words.specs.declared.rules.Rule.{Rule}
use Rattle.fst_norms.specs.Pruned.{pruned_word}
use Rattle.fst_basis.specs.Basis.{AreJoined, AreJoinedByRules, IsChainBelow, IsProof, IsRewriteBelow, Joins}
use Rattle.fst_basis.specs.Rewrites.{chained}
use Rattle.fst_basis.specs.declared.proof.Chain.{Chain}
use Rattle.fst_basis.specs.declared.proof.Pair.{Pair}
use Rattle.fst_basis.specs.declared.proof.Rewrite.{Rewrite}
use Rattle.fst_equiv.specs.Verdicts.{Certifies}
use Rattle.fst_equiv.specs.declared.verdict.Certificate.{Certificate}
use Rattle.fst_equiv.specs.declared.verdict.Certificate.TheVariants.{Basis, Visited}
use Rattle.fst_cert.specs.Audits.{IsValid}
use Rattle.fst_cert.specs.Proofs.{IsProofOf}
use Rattle.fst_cert.specs.Texts.{steps_of}

-- the rewrites of a chain
abbrev steps : Chain → List Rewrite
steps c = c.steps.items

steps_taken : (k : ℕ) (cs ds : List Chain) → steps_of cs ≡ steps_of ds → steps_of (take k cs) ≡ steps_of (take k ds)
steps_taken k cs ds e = sym (take-map steps k cs) ∙ ap (take k) e ∙ take-map steps k ds

steps_dropped : (k : ℕ) (cs ds : List Chain) → steps_of cs ≡ steps_of ds → steps_of (drop k cs) ≡ steps_of (drop k ds)
steps_dropped k cs ds e = sym (drop-map steps k cs) ∙ ap (drop k) e ∙ drop-map steps k ds

chains_below : (n : ℕ) (cs ds : List Chain) → steps_of cs ≡ steps_of ds → All (IsChainBelow n) cs → All (IsChainBelow n) ds
chains_below n [] [] e below = All-nil (IsChainBelow n)
chains_below n [] (d ∷ ds) e below = absurd (cc e)
chains_below n (c ∷ cs) [] e below = absurd (cc e)
chains_below n (c ∷ cs) (d ∷ ds) e below =
    let same : steps c ≡ steps d = cc in
    All-cons (IsChainBelow n) d ds (subst (λ z. All (IsRewriteBelow n) z) same (All-head (IsChainBelow n) c cs below))
    (chains_below n cs ds (cc) (All-tail (IsChainBelow n) c cs below))

module _ (rows : Productions) (marks : List Bool) (basis : List Pair) where
  rules_joined : (t w : List ℕ) (rs : List Rule) (cs ds : List Chain) → steps_of cs ≡ steps_of ds →
      AreJoinedByRules rows marks basis t w rs cs → AreJoinedByRules rows marks basis t w rs ds
  rules_joined t w [] [] [] e joined = tt
  rules_joined t w [] [] (d ∷ ds) e joined = absurd (cc e)
  rules_joined t w [] (c ∷ cs) ds e joined = absurd joined
  rules_joined t w (r ∷ rs) [] ds e joined = absurd joined
  rules_joined t w (r ∷ rs) (c ∷ cs) [] e joined = absurd (cc e)
  rules_joined t w (r ∷ rs) (c ∷ cs) (d ∷ ds) e joined =
      let same : steps c ≡ steps d = cc in
      let one = joined.0 in (
        (one.0, one.1, subst (λ z. chained marks basis z (r.word ++ t) ≡ Some one.0) same one.2),
        rules_joined t w rs cs ds (cc) joined.1,
      )

  all_joined : (bs : List Pair) (cs ds : List Chain) → steps_of cs ≡ steps_of ds → AreJoined rows marks basis bs cs →
      AreJoined rows marks basis bs ds
  all_joined [] cs [] e joined = refl
  all_joined [] cs (d ∷ ds) e joined = absurd (cc (e, joined))
  all_joined (b ∷ bs) cs ds e joined =
      let row = first_row rows b.left in
      let k = length row in (
        rules_joined (drop 1 b.left) b.right row (take k cs) (take k ds) (steps_taken k cs ds e) joined.0,
        all_joined bs (drop k cs) (drop k ds) (steps_dropped k cs ds e) joined.1,
      )

  joins : (u v : List ℕ) (cs ds : List Chain) → steps_of cs ≡ steps_of ds → Joins rows marks u v basis cs →
      Joins rows marks u v basis ds
  joins u v [] ds e joined = absurd joined
  joins u v (c ∷ cs) [] e joined = absurd (cc e)
  joins u v (c ∷ cs) (d ∷ ds) e joined =
      let same : steps c ≡ steps d = cc in
      let b = joined.0 in (
        record { set = b.set; pairs = b.pairs; joined = all_joined basis cs ds (cc) b.joined },
        subst (λ z. chained marks basis z u ≡ Some v) same joined.1,
      )

  proof_steps : (n : ℕ) (u v : List ℕ) (cs ds : List Chain) → steps_of cs ≡ steps_of ds →
      IsProof n rows marks u v basis cs → IsProof n rows marks u v basis ds
  proof_steps n u v cs ds e p =
      let w = p.0 in (
        record {
          letters = w.letters;
          rules = w.rules;
          count = w.count;
          left = w.left;
          right = w.right;
          pairs = w.pairs;
          chains = chains_below (length rows) cs ds e w.chains;
        },
        joins u v cs ds e p.1,
      )

-- what is valid stays so with other chains of the same rewrites
pub valid_steps : (s r : Tree) (basis : List Pair) (chains more : List Chain) → steps_of chains ≡ steps_of more →
    IsValid s r basis chains → IsValid s r basis more
valid_steps s r basis chains more e valid = record {
  letters = valid.letters;
  rows = valid.rows;
  u = valid.u;
  v = valid.v;
  marks = valid.marks;
  problem = valid.problem;
  proof = proof_steps valid.rows valid.marks basis (length valid.letters) (pruned_word valid.marks valid.u)
      (pruned_word valid.marks valid.v) chains more e valid.proof;
}

-- a proof for the words of a certificate of two types is valid of these
pub certified_valid : (s r : Tree) (budget : ℕ) (c : Certificate) (basis : List Pair) (chains : List Chain) →
    Certifies s r budget c → IsProofOf c basis chains → IsValid s r basis chains
certified_valid s r budget (Visited g x y pairs) basis chains h proof = record {
  letters = g.letters.items;
  rows = g.rules.items;
  u = h.u;
  v = h.v;
  marks = h.marks;
  problem = h.problem;
  proof = rw (h.left, h.right) at (proof h.marks h.problem.unnormed);
}
certified_valid s r budget (Basis g x y own) basis chains h proof = record {
  letters = g.letters.items;
  rows = g.rules.items;
  u = h.u;
  v = h.v;
  marks = h.marks;
  problem = h.problem;
  proof = rw (h.left, h.right) at (proof h.marks h.problem.unnormed);
}
