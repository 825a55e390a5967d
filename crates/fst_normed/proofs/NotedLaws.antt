-- Candidates that are noted behind others.
use Rattle.std.proofs.Common.{◌≡◌, ◌≢◌, inl, inr, ℕ, List, [], ◌++◌, append-nil, append_assoc, sym, ◌∙◌, ap, subst, Option}
use Rattle.std.specs.List.{AllPairs}
use Rattle.fst_normed.specs.Candidates.{AreCandidates, IsCandidate}
use Rattle.fst_normed.specs.Closing.{AreNoted, IsAdded}

module _ (n : ℕ) (norms : List (Option ℕ)) (P : ℕ × ℕ → Type 0) where
  -- none is noted
  pub noted_none : (cs : List (ℕ × ℕ)) → AreCandidates n norms cs → AreNoted n norms cs cs P
  noted_none cs are = record { are = are; behind = ([], sym (append-nil cs)); only = λ c t. inl t }

  -- some are noted, and then others
  pub noted_on : (old mid new : List (ℕ × ℕ)) → AreNoted n norms old mid P → AreNoted n norms mid new P →
      AreNoted n norms old new P
  noted_on old mid new a b = record {
    are = b.are;
    behind = (
      a.behind.0 ++ b.behind.0,
      b.behind.1 ∙ ap (λ (z : List (ℕ × ℕ)). z ++ b.behind.0) a.behind.1 ∙ append_assoc old a.behind.0 b.behind.0,
    );
    only = λ c t. elim (b.only c t) [ inl m ↦ a.only c m | inr p ↦ inr p ];
  }

  -- what is noted is also of another kind
  pub noted_as : (Q : ℕ × ℕ → Type 0) (old new : List (ℕ × ℕ)) → ((c : ℕ × ℕ) → P c → Q c) → AreNoted n norms old new P →
      AreNoted n norms old new Q
  noted_as Q old new f a = record {
    are = a.are;
    behind = a.behind;
    only = λ c t. elim (a.only c t) [ inl o ↦ inl o | inr p ↦ inr (f c p) ];
  }

-- one candidate is added
pub noted_one : (n : ℕ) (norms : List (Option ℕ)) (old new : List (ℕ × ℕ)) (c : ℕ × ℕ) → AreCandidates n norms old →
    IsCandidate n norms c → IsAdded old new c → AllPairs (λ d e. d ≢ e) new → AreNoted n norms old new (λ d. c ≡ d)
noted_one n norms old new c are is a once = record {
  are = record {
    each = λ d t. elim (a.only d t) [ inl o ↦ are.each d o | inr same ↦ subst (IsCandidate n norms) same is ];
    once = once;
  };
  behind = a.behind;
  only = a.only;
}
