-- All bytes of a certificate's text are below 128.
use Rattle.std.proofs.Common.{true, ◌≡◌, ◌<◌, ◌^◌, ◌++◌, ◌∷◌, [], ℕ, List, All, arith, length, map, refl}
use Rattle.std.specs.Prelude.{codes, decimal, nat_lt}
use Rattle.std.specs.List.{list_all}
use Rattle.std.specs.Str.{IsAscii, byte}
use Rattle.std.proofs.lemmas.Bool.{and_parts}
use Rattle.std.proofs.lemmas.Bool.Decides.{nat_tests}
use Rattle.std.proofs.lemmas.Fmt.{IsAscii-decimal}
use Rattle.std.proofs.lemmas.List.Elements.{All-head, All-tail}
use Rattle.std.proofs.lemmas.Str.{IsAscii-append}
use Rattle.std.proofs.lemmas.Str.Ascii.{IsAscii-cons, IsAscii-nil}
use Rattle.fst_basis.specs.declared.proof.Pair.{Pair}
use Rattle.fst_basis.specs.declared.proof.Rewrite.{Rewrite}
use Rattle.fst_basis.specs.declared.proof.Rewrite.TheVariants.{Back, Cut, Forth, Grow}
use Rattle.fst_cert.specs.Certificates.{IsCert, IsChainFit, IsPairFit, IsRewriteFit, IsWord}
use Rattle.fst_cert.specs.Texts.{cert_text, chain_line, colon, line_feed, lines_text, listed, pair_line, point, rewrite_text, rewrites_text, space}
use Rattle.fst_cert.proofs.CertLaws.{chains_line, pairs_line}
use Rattle.fst_cert.proofs.LineLaws.{lines-append}

-- bytes that a test finds below 128
ascii : (bs : List ℕ) → list_all (λ b. nat_lt b 128) bs ≡ true → IsAscii bs
ascii [] e = IsAscii-nil
ascii (b ∷ bs) e =
    let h = and_parts (nat_lt b 128) (list_all (λ c. nat_lt c 128) bs) e in
    IsAscii-cons b bs (low b h.0) (ascii bs h.1)
  where
    low : (a : ℕ) → nat_lt a 128 ≡ true → a < 128
    low a is = grind (arith, nat_tests)

ascii_listed : (mark : ℕ) → mark < 128 → (ks : List ℕ) → IsWord ks → IsAscii (listed mark ks)
ascii_listed mark low [] fit = IsAscii-nil
ascii_listed mark low (k ∷ ks) fit =
    let small : k < 2 ^ 32 = All-head (λ n. n < 2 ^ 32) k ks fit in
    IsAscii-cons mark (decimal k ++ listed mark ks) low
    (IsAscii-append (decimal k) (listed mark ks) (IsAscii-decimal k (omega arith))
    (ascii_listed mark low ks (All-tail (λ n. n < 2 ^ 32) k ks fit)))

ascii_exchange : (at pair : ℕ) → at < 2 ^ 64 → pair < 2 ^ 32 → IsAscii (decimal at ++ colon ∷ decimal pair)
ascii_exchange at pair small few =
    IsAscii-append (decimal at) (colon ∷ decimal pair) (IsAscii-decimal at small)
    (IsAscii-cons colon (decimal pair) (omega arith) (IsAscii-decimal pair (omega arith)))

ascii_cut : (at : ℕ) (tail : List ℕ) → at < 2 ^ 64 → IsWord tail → IsAscii (decimal at ++ listed point tail)
ascii_cut at tail small fit =
    IsAscii-append (decimal at) (listed point tail) (IsAscii-decimal at small) (ascii_listed point (omega arith) tail fit)

ascii_rewrite : (r : Rewrite) → IsRewriteFit r → IsAscii (rewrite_text r)
ascii_rewrite (Forth at pair) fit =
    IsAscii-cons (byte "f") (decimal at ++ colon ∷ decimal pair) (omega arith) (ascii_exchange at pair fit.0 fit.1)
ascii_rewrite (Back at pair) fit =
    IsAscii-cons (byte "b") (decimal at ++ colon ∷ decimal pair) (omega arith) (ascii_exchange at pair fit.0 fit.1)
ascii_rewrite (Cut at tail) fit =
    IsAscii-cons (byte "c") (decimal at ++ listed point tail) (omega arith) (ascii_cut at tail fit.0 fit.1)
ascii_rewrite (Grow at tail) fit =
    IsAscii-cons (byte "g") (decimal at ++ listed point tail) (omega arith) (ascii_cut at tail fit.0 fit.1)

ascii_rewrites : (rs : List Rewrite) → All IsRewriteFit rs → IsAscii (rewrites_text rs)
ascii_rewrites [] fit = IsAscii-nil
ascii_rewrites (r ∷ rs) fit =
    IsAscii-cons space (rewrite_text r ++ rewrites_text rs) (omega arith)
    (IsAscii-append (rewrite_text r) (rewrites_text rs) (ascii_rewrite r (All-head IsRewriteFit r rs fit))
    (ascii_rewrites rs (All-tail IsRewriteFit r rs fit)))

ascii_chain : (steps : List Rewrite) → IsChainFit steps → IsAscii (chain_line steps)
ascii_chain steps fit =
    IsAscii-append (codes "chain") (rewrites_text steps) (ascii (codes "chain") refl) (ascii_rewrites steps fit)

ascii_pair : (b : Pair) → IsPairFit b → IsAscii (pair_line b)
ascii_pair b fit =
    IsAscii-append (codes "pair" ++ listed space b.left ++ codes " ~") (listed space b.right)
    (IsAscii-append (codes "pair" ++ listed space b.left) (codes " ~")
    (IsAscii-append (codes "pair") (listed space b.left) (ascii (codes "pair") refl)
    (ascii_listed space (omega arith) b.left fit.left_word))
    (ascii (codes " ~") refl)) (ascii_listed space (omega arith) b.right fit.right_word)

-- a line, and others behind it
ascii_line : (l : List ℕ) (ls : List (List ℕ)) → IsAscii l → IsAscii (lines_text ls) → IsAscii (lines_text (l ∷ ls))
ascii_line l ls first later =
    IsAscii-append l (line_feed ∷ lines_text ls) first (IsAscii-cons line_feed (lines_text ls) (omega arith) later)

-- lines of things that fit
ascii_lines : {X : Type 0} (of : X → List ℕ) (Fit : X → Type 0) → ((x : X) → Fit x → IsAscii (of x)) → (xs : List X) →
    All Fit xs → IsAscii (lines_text (map of xs))
ascii_lines of Fit each [] fit = IsAscii-nil
ascii_lines of Fit each (x ∷ xs) fit =
    ascii_line (of x) (map of xs) (each x (All-head Fit x xs fit)) (ascii_lines of Fit each xs (All-tail Fit x xs fit))

pub ascii_cert : (basis : List Pair) (chains : List (List Rewrite)) → IsCert basis chains → IsAscii (cert_text basis chains)
ascii_cert basis chains cert =
    let few = cert.few in
    let pairs = map pair_line basis in
    let counted = chains_line (length chains) ∷ map chain_line chains in
    ascii_line (pairs_line (length basis)) (pairs ++ counted)
    (IsAscii-append (codes "pairs ") (decimal (length basis)) (ascii (codes "pairs ") refl)
    (IsAscii-decimal (length basis) (omega arith)))
    (rw (lines-append pairs counted) (IsAscii-append (lines_text pairs) (lines_text counted)
    (ascii_lines pair_line IsPairFit ascii_pair basis cert.pairs)
    (ascii_line (chains_line (length chains)) (map chain_line chains)
    (IsAscii-append (codes "chains ") (decimal (length chains)) (ascii (codes "chains ") refl)
    (IsAscii-decimal (length chains) cert.many))
    (ascii_lines chain_line IsChainFit ascii_chain chains cert.all))))
