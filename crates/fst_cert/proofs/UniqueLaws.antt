-- A text is that of one certificate.
use Rattle.std.proofs.Common.{◌≡◌, ◌≢◌, ◌<◌, ◌^◌, ◌++◌, ◌∷◌, ◌∙◌, [], ℕ, List, All, ap, arith, length, map, refl, sym}
use Rattle.std.specs.Prelude.{codes, decimal}
use Rattle.std.specs.Str.{byte}
use Rattle.std.proofs.lemmas.Fmt.{decimal_injective}
use Rattle.std.proofs.lemmas.List.{append_cancel_right, length-map}
use Rattle.std.proofs.lemmas.List.Elements.{All-head, All-tail}
use Rattle.fst_base.proofs.Lists.{one_cut}
use Rattle.fst_basis.specs.declared.proof.Pair.{Pair}
use Rattle.fst_basis.specs.declared.proof.Rewrite.{Rewrite}
use Rattle.fst_basis.specs.declared.proof.Rewrite.TheVariants.{Back, Cut, Forth, Grow}
use Rattle.fst_cert.specs.Certificates.{IsCertOf, IsChainFit, IsPairFit, IsRewriteFit, IsWord}
use Rattle.fst_cert.specs.Texts.{cert_lines, chain_line, colon, line_feed, lines_text, listed, pair_line, point, rewrite_text, rewrites_text, space}
use Rattle.fst_cert.specs.Visited.{pair_of}
use Rattle.fst_cert.proofs.CutLaws.{IsFree, cut_around, cut_before, free_nil, no_cut}
use Rattle.fst_cert.proofs.CertLaws.{chains_line, lines_free, pairs_line}
use Rattle.fst_cert.proofs.NumberLaws.{IsNoDigit, decimal_free, listed_end}
use Rattle.fst_cert.proofs.PieceLaws.{listed_pieces, pieces, pieces_end, rewrites_pieces}
use Rattle.fst_cert.proofs.TextLaws.{joined, left_free, rewrite_free, tilde}

-- things with the same pieces are the same, where no thing's text has the byte in front of each, and each tells its thing
same_things : {X : Type 0} (mark : ℕ) (of : X → List ℕ) (Fit : X → Type 0) → ((x : X) → Fit x → IsFree mark (of x)) →
    ((x y : X) → Fit x → Fit y → of x ≡ of y → x ≡ y) → (xs ys : List X) → All Fit xs → All Fit ys →
    pieces mark of xs ≡ pieces mark of ys → xs ≡ ys
same_things mark of Fit free tells [] [] fit fits e = refl
same_things mark of Fit free tells [] (y ∷ ys) fit fits e = absurd (cc e)
same_things mark of Fit free tells (x ∷ xs) [] fit fits e = absurd (cc e)
same_things mark of Fit free tells (x ∷ xs) (y ∷ ys) fit fits e =
    let one = All-head Fit x xs fit in
    let other = All-head Fit y ys fits in
    let h = cut_before mark (of x) (pieces mark of xs) (of y) (pieces mark of ys) (free x one) (free y other)
    (pieces_end mark of xs) (pieces_end mark of ys) (cc) in
    let first = tells x y one other h.0 in
    let later = same_things mark of Fit free tells xs ys (All-tail Fit x xs fit) (All-tail Fit y ys fits) h.1 in
    cc

-- numbers with a byte in front of each that is no digit
same_numbers : (mark : ℕ) → IsNoDigit mark → (ks ms : List ℕ) → IsWord ks → IsWord ms → listed mark ks ≡ listed mark ms → ks ≡ ms
same_numbers mark apart ks ms fit fits e =
    same_things mark decimal (λ n. n < 2 ^ 32) (λ n small. decimal_free mark n apart (omega arith))
    (λ m n small few is. decimal_injective m n (omega arith) (omega arith) is) ks ms fit fits
    (sym (listed_pieces mark ks) ∙ e ∙ listed_pieces mark ms)

same_exchange : (at pair to other : ℕ) → at < 2 ^ 64 → pair < 2 ^ 32 → to < 2 ^ 64 → other < 2 ^ 32 →
    decimal at ++ colon ∷ decimal pair ≡ decimal to ++ colon ∷ decimal other → (at ≡ to) × (pair ≡ other)
same_exchange at pair to other small few less fewer e =
    let h = cut_around colon (decimal at) (decimal pair) (decimal to) (decimal other)
    (decimal_free colon at (λ d lt is. omega arith) small) (decimal_free colon to (λ d lt is. omega arith) less) e in
    (decimal_injective at to small less h.0, decimal_injective pair other (omega arith) (omega arith) h.1)

same_cut : (at : ℕ) (tail : List ℕ) (to : ℕ) (end : List ℕ) → at < 2 ^ 64 → IsWord tail → to < 2 ^ 64 → IsWord end →
    decimal at ++ listed point tail ≡ decimal to ++ listed point end → (at ≡ to) × (tail ≡ end)
same_cut at tail to end small fit less fits e =
    let h = cut_before point (decimal at) (listed point tail) (decimal to) (listed point end)
    (decimal_free point at (λ d lt is. omega arith) small) (decimal_free point to (λ d lt is. omega arith) less)
    (listed_end point tail) (listed_end point end) e in
    (decimal_injective at to small less h.0, same_numbers point (λ d lt is. omega arith) tail end fit fits h.1)

-- texts with different bytes in front are different
differ : (a b : ℕ) (x y : List ℕ) → a ≢ b → a ∷ x ≡ b ∷ y → ⊥
differ a b x y apart e = apart (cc)

-- the first byte tells the kind of a rewrite
same_rewrite : (q r : Rewrite) → IsRewriteFit q → IsRewriteFit r → rewrite_text q ≡ rewrite_text r → q ≡ r
same_rewrite (Forth at pair) (Forth to other) fit fits e =
    let h = same_exchange at pair to other fit.0 fit.1 fits.0 fits.1 (cc) in
    cc
same_rewrite (Back at pair) (Back to other) fit fits e =
    let h = same_exchange at pair to other fit.0 fit.1 fits.0 fits.1 (cc) in
    cc
same_rewrite (Cut at tail) (Cut to end) fit fits e =
    let h = same_cut at tail to end fit.0 fit.1 fits.0 fits.1 (cc) in
    cc
same_rewrite (Grow at tail) (Grow to end) fit fits e =
    let h = same_cut at tail to end fit.0 fit.1 fits.0 fits.1 (cc) in
    cc
same_rewrite (Forth at pair) (Back to other) fit fits e = absurd (differ (byte "f") (byte "b") _ _ (λ is. omega arith) e)
same_rewrite (Forth at pair) (Cut to end) fit fits e = absurd (differ (byte "f") (byte "c") _ _ (λ is. omega arith) e)
same_rewrite (Forth at pair) (Grow to end) fit fits e = absurd (differ (byte "f") (byte "g") _ _ (λ is. omega arith) e)
same_rewrite (Back at pair) (Forth to other) fit fits e = absurd (differ (byte "b") (byte "f") _ _ (λ is. omega arith) e)
same_rewrite (Back at pair) (Cut to end) fit fits e = absurd (differ (byte "b") (byte "c") _ _ (λ is. omega arith) e)
same_rewrite (Back at pair) (Grow to end) fit fits e = absurd (differ (byte "b") (byte "g") _ _ (λ is. omega arith) e)
same_rewrite (Cut at tail) (Forth to other) fit fits e = absurd (differ (byte "c") (byte "f") _ _ (λ is. omega arith) e)
same_rewrite (Cut at tail) (Back to other) fit fits e = absurd (differ (byte "c") (byte "b") _ _ (λ is. omega arith) e)
same_rewrite (Cut at tail) (Grow to end) fit fits e = absurd (differ (byte "c") (byte "g") _ _ (λ is. omega arith) e)
same_rewrite (Grow at tail) (Forth to other) fit fits e = absurd (differ (byte "g") (byte "f") _ _ (λ is. omega arith) e)
same_rewrite (Grow at tail) (Back to other) fit fits e = absurd (differ (byte "g") (byte "b") _ _ (λ is. omega arith) e)
same_rewrite (Grow at tail) (Cut to end) fit fits e = absurd (differ (byte "g") (byte "c") _ _ (λ is. omega arith) e)

same_chain : (steps more : List Rewrite) → IsChainFit steps → IsChainFit more → chain_line steps ≡ chain_line more → steps ≡ more
same_chain steps more fit fits e =
    let behind : rewrites_text steps ≡ rewrites_text more = cc in
    same_things space rewrite_text IsRewriteFit (rewrite_free space (omega arith)) same_rewrite steps more fit fits
    (sym (rewrites_pieces steps) ∙ behind ∙ rewrites_pieces more)

-- the sign stands once in the line of a pair, and so it tells both words
same_pair : (b d : Pair) → IsPairFit b → IsPairFit d → pair_line b ≡ pair_line d → b ≡ d
same_pair b d fit fits e =
    let x = listed space b.left in
    let y = listed space b.right in
    let z = listed space d.left in
    let w = listed space d.right in
    let words : (x ++ codes " ~") ++ y ≡ (z ++ codes " ~") ++ w = cc in
    let h = cut_around tilde (x ++ space ∷ []) y (z ++ space ∷ []) w (left_free b.left fit.left_word)
    (left_free d.left fits.left_word) (sym (joined x y) ∙ words ∙ joined z w) in
    let left = same_numbers space (λ k lt is. omega arith) b.left d.left fit.left_word fits.left_word
    (append_cancel_right x z (space ∷ []) h.0) in
    let right = same_numbers space (λ k lt is. omega arith) b.right d.right fit.right_word fits.right_word h.1 in
    ap (λ u. pair_of u b.right) left ∙ ap (pair_of d.left) right

-- things with the same lines are the same, where each line tells its thing
same_each : {X : Type 0} (of : X → List ℕ) (Fit : X → Type 0) → ((x y : X) → Fit x → Fit y → of x ≡ of y → x ≡ y) →
    (xs ys : List X) → All Fit xs → All Fit ys → map of xs ≡ map of ys → xs ≡ ys
same_each of Fit tells [] [] fit fits e = refl
same_each of Fit tells [] (y ∷ ys) fit fits e = absurd (cc e)
same_each of Fit tells (x ∷ xs) [] fit fits e = absurd (cc e)
same_each of Fit tells (x ∷ xs) (y ∷ ys) fit fits e =
    let first = tells x y (All-head Fit x xs fit) (All-head Fit y ys fits) (cc) in
    let later = same_each of Fit tells xs ys (All-tail Fit x xs fit) (All-tail Fit y ys fits) (cc) in
    cc

-- lines without line feeds are told by their text
same_lines : (a b : List (List ℕ)) → All (IsFree line_feed) a → All (IsFree line_feed) b → lines_text a ≡ lines_text b → a ≡ b
same_lines [] [] free apart e = refl
same_lines [] (m ∷ b) free apart e = absurd (no_cut line_feed [] m (lines_text b) (free_nil line_feed) e)
same_lines (l ∷ a) [] free apart e = absurd (no_cut line_feed [] l (lines_text a) (free_nil line_feed) (sym e))
same_lines (l ∷ a) (m ∷ b) free apart e =
    let h = cut_around line_feed l (lines_text a) m (lines_text b) (All-head (IsFree line_feed) l a free)
    (All-head (IsFree line_feed) m b apart) e in
    let later = same_lines a b (All-tail (IsFree line_feed) l a free) (All-tail (IsFree line_feed) m b apart) h.1 in
    cc

pub one_cert : (text : List ℕ) (basis others : List Pair) (chains more : List (List Rewrite)) → IsCertOf text basis chains →
    IsCertOf text others more → (basis ≡ others) × (chains ≡ more)
one_cert text basis others chains more one other =
    let p = one.cert in
    let q = other.cert in
    let few = p.few in
    let small = q.few in
    let lines = same_lines (cert_lines basis chains) (cert_lines others more) (lines_free basis chains p)
    (lines_free others more q) (sym one.text_is ∙ other.text_is) in
    let counts : pairs_line (length basis) ≡ pairs_line (length others) = cc in
    let count = decimal_injective (length basis) (length others) (omega arith) (omega arith)
    (let d : decimal (length basis) ≡ decimal (length others) = cc in d) in
    let a = length-map basis pair_line in
    let b = length-map others pair_line in
    let parts = one_cut (map pair_line basis) (chains_line (length chains) ∷ map chain_line chains) (map pair_line others)
    (chains_line (length more) ∷ map chain_line more) (cc) (omega arith) in (
      same_each pair_line IsPairFit same_pair basis others p.pairs q.pairs parts.0,
      same_each chain_line IsChainFit same_chain chains more p.all q.all (let t = parts.1 in cc),
    )
