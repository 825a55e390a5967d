-- A byte that is no digit stands in no number's text.
use Rattle.std.proofs.Common.{◌≢◌, ◌<◌, ◌≤◌, ◌+◌, ◌%◌, ◌^◌, ℕ, List, [], ◌∷◌, ◌++◌, refl, arith}
use Rattle.std.specs.Prelude.{decimal}
use Rattle.std.proofs.lemmas.Fmt.{decimal_by_steps}
use Rattle.std.proofs.lemmas.List.Elements.{All-head, All-tail}
use Rattle.fst_cert.specs.Certificates.{IsWord}
use Rattle.fst_cert.specs.Texts.{IsEnd, listed}
use Rattle.fst_cert.proofs.CutLaws.{IsFree, free_append, free_cons, free_nil}

-- the byte is no digit
abbrev pub IsNoDigit : ℕ → Type 0
IsNoDigit c = (d : ℕ) → d < 10 → 48 + d ≢ c

pub decimal_free : (c n : ℕ) → IsNoDigit c → n < 2 ^ 64 → IsFree c (decimal n)
decimal_free c n apart small = decimal_by_steps (λ k. IsFree c) one more n small
  where
    one : (k : ℕ) → k < 10 → IsFree c ((48 + k) ∷ [])
    one k h = free_cons c (48 + k) [] (apart k h) (free_nil c)

    more : (k : ℕ) (ds : List ℕ) → 10 ≤ k → IsFree c ds → IsFree c (ds ++ ((48 + k % 10) ∷ []))
    more k ds large free = free_append c ds ((48 + k % 10) ∷ []) free (one (k % 10) (omega arith))

-- numbers with another byte in front of each
pub listed_free : (c mark : ℕ) → IsNoDigit c → mark ≢ c → (ks : List ℕ) → IsWord ks → IsFree c (listed mark ks)
listed_free c mark apart other [] fit = free_nil c
listed_free c mark apart other (k ∷ ks) fit =
    let small : k < 2 ^ 32 = All-head (λ n. n < 2 ^ 32) k ks fit in
    free_cons c mark (decimal k ++ listed mark ks) other
    (free_append c (decimal k) (listed mark ks) (decimal_free c k apart (omega arith))
    (listed_free c mark apart other ks (All-tail (λ n. n < 2 ^ 32) k ks fit)))

pub listed_end : (mark : ℕ) (ks : List ℕ) → IsEnd mark (listed mark ks)
listed_end mark [] = tt
listed_end mark (k ∷ ks) = refl
