-- Neither a space nor a line feed stands in a rewrite's text, and no line feed in the line of a pair or of a chain; the line of a
-- pair is cut at its sign.
use Rattle.std.proofs.Common.{true, ◌≡◌, ◌≢◌, ◌<◌, ◌^◌, ℕ, List, [], ◌∷◌, ◌++◌, append_assoc, refl, arith}
use Rattle.std.specs.Prelude.{All, codes, decimal, nat_lt}
use Rattle.std.specs.List.{list_all}
use Rattle.std.specs.Str.{byte}
use Rattle.std.proofs.lemmas.Bool.{and_parts}
use Rattle.std.proofs.lemmas.List.Elements.{All-head, All-tail}
use Rattle.fst_basis.specs.declared.proof.Pair.{Pair}
use Rattle.fst_basis.specs.declared.proof.Rewrite.{Rewrite}
use Rattle.fst_basis.specs.declared.proof.Rewrite.TheVariants.{Forth, Back, Cut, Grow}
use Rattle.fst_cert.specs.Certificates.{IsChainFit, IsPairFit, IsRewriteFit, IsWord}
use Rattle.fst_cert.specs.Texts.{chain_line, colon, line_feed, listed, pair_line, point, rewrite_text, rewrites_text, space}
use Rattle.fst_cert.proofs.CutLaws.{IsFree, free_append, free_cons, free_nil}
use Rattle.fst_cert.proofs.NumberLaws.{IsNoDigit, decimal_free, listed_free}

-- a byte below each digit, sign and letter of a rewrite, as a space or a line feed
module _ (c : ℕ) (low : c < point) where
  no_digit : IsNoDigit c
  no_digit d h e = omega arith

  exchange_free : (at pair : ℕ) → at < 2 ^ 64 → pair < 2 ^ 32 → IsFree c (decimal at ++ colon ∷ decimal pair)
  exchange_free at pair small few =
      free_append c (decimal at) (colon ∷ decimal pair) (decimal_free c at no_digit small)
      (free_cons c colon (decimal pair) (λ e. omega arith) (decimal_free c pair no_digit (omega arith)))

  cut_free : (at : ℕ) (tail : List ℕ) → at < 2 ^ 64 → IsWord tail → IsFree c (decimal at ++ listed point tail)
  cut_free at tail small fit =
      free_append c (decimal at) (listed point tail) (decimal_free c at no_digit small)
      (listed_free c point no_digit (λ e. omega arith) tail fit)

  pub rewrite_free : (r : Rewrite) → IsRewriteFit r → IsFree c (rewrite_text r)
  rewrite_free (Forth at pair) fit =
      free_cons c (byte "f") (decimal at ++ colon ∷ decimal pair) (λ e. omega arith) (exchange_free at pair fit.0 fit.1)
  rewrite_free (Back at pair) fit =
      free_cons c (byte "b") (decimal at ++ colon ∷ decimal pair) (λ e. omega arith) (exchange_free at pair fit.0 fit.1)
  rewrite_free (Cut at tail) fit =
      free_cons c (byte "c") (decimal at ++ listed point tail) (λ e. omega arith) (cut_free at tail fit.0 fit.1)
  rewrite_free (Grow at tail) fit =
      free_cons c (byte "g") (decimal at ++ listed point tail) (λ e. omega arith) (cut_free at tail fit.0 fit.1)

-- bytes above a line feed
pub plain : (bs : List ℕ) → list_all (nat_lt line_feed) bs ≡ true → IsFree line_feed bs
plain [] e = free_nil line_feed
plain (b ∷ bs) e =
    let h = and_parts (nat_lt line_feed b) (list_all (nat_lt line_feed) bs) e in
    free_cons line_feed b bs (above b h.0) (plain bs h.1)
  where
    above : (a : ℕ) → nat_lt line_feed a ≡ true → a ≢ line_feed
    above a more is = let h : nat_lt line_feed line_feed ≡ true = rw is at more in cc

rewrites_free : (rs : List Rewrite) → All IsRewriteFit rs → IsFree line_feed (rewrites_text rs)
rewrites_free [] fit = free_nil line_feed
rewrites_free (r ∷ rs) fit =
    free_cons line_feed space (rewrite_text r ++ rewrites_text rs) (λ e. omega arith)
    (free_append line_feed (rewrite_text r) (rewrites_text rs)
    (rewrite_free line_feed (omega arith) r (All-head IsRewriteFit r rs fit))
    (rewrites_free rs (All-tail IsRewriteFit r rs fit)))

pub chain_free : (steps : List Rewrite) → IsChainFit steps → IsFree line_feed (chain_line steps)
chain_free steps fit =
    free_append line_feed (codes "chain") (rewrites_text steps) (plain (codes "chain") refl)
    (rewrites_free steps fit)

pub pair_free : (b : Pair) → IsPairFit b → IsFree line_feed (pair_line b)
pair_free b fit =
    free_append line_feed (codes "pair" ++ listed space b.left ++ codes " ~") (listed space b.right)
    (free_append line_feed (codes "pair" ++ listed space b.left) (codes " ~")
    (free_append line_feed (codes "pair") (listed space b.left) (plain (codes "pair") refl) (spaced b.left fit.left_word))
    (plain (codes " ~") refl)) (spaced b.right fit.right_word)
  where
    spaced : (ks : List ℕ) → IsWord ks → IsFree line_feed (listed space ks)
    spaced = listed_free line_feed space (λ d h e. omega arith) (λ e. omega arith)

-- the sign between the words of a pair
abbrev pub tilde : ℕ
tilde = byte "~"

-- the line of a pair, cut at this sign
pub joined : (x y : List ℕ) → (x ++ codes " ~") ++ y ≡ (x ++ space ∷ []) ++ tilde ∷ y
joined x y = simp append_assoc

-- the sign stands nowhere in front
pub left_free : (ks : List ℕ) → IsWord ks → IsFree tilde (listed space ks ++ space ∷ [])
left_free ks fit =
    free_append tilde (listed space ks) (space ∷ []) (listed_free tilde space (λ d h e. omega arith) (λ e. omega arith) ks fit)
    (free_cons tilde space [] (λ e. omega arith) (free_nil tilde))
