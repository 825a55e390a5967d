-- Which line of a text is the first that no certificate has there.
use Rattle.std.proofs.Common.{drop, inl, inr, ◌⊎◌, ◌≡◌, ◌≢◌, ◌<◌, ◌≤◌, ◌+◌, ◌-◌, ◌^◌, ◌++◌, ◌∷◌, ◌∙◌, [], ℕ, suc, List, All, ap, append_assoc, arith, get_or, length, map, refl, replicate, subst, sym, take}
use Rattle.std.specs.Prelude.{codes, decimal}
use Rattle.std.proofs.Math.Seq.{get_or-append_seam, take-append-add, take-append_seam}
use Rattle.std.proofs.lemmas.Bool.{cases_lt}
use Rattle.std.proofs.lemmas.Fmt.{decimal_injective}
use Rattle.std.proofs.lemmas.List.{get_or_append_left, get_or-append-add, get_or-map, length-append, length-map, length-replicate, length-take, map-append, append-nil, take-append-drop, take_all, take_more}
use Rattle.std.proofs.lemmas.List.Elements.{All-append, All-cons, All-head, All-map, All-nil, All-replicate, All-tail, All-take}
use Rattle.fst_base.proofs.Lists.{one_cut}
use Rattle.fst_basis.specs.declared.proof.Pair.{Pair}
use Rattle.fst_basis.specs.declared.proof.Rewrite.{Rewrite}
use Rattle.fst_cert.specs.Certificates.{AgreesIn, IsCert, IsCertOf, IsChainFit, IsFirstBad, IsPairFit, IsRewriteFit}
use Rattle.fst_cert.specs.Texts.{cert_lines, chain_line, line_feed, lines_text, pair_line}
use Rattle.fst_cert.proofs.LineLaws.{lines-append}
use Rattle.fst_cert.proofs.CutLaws.{IsFree, cut_around, free_append}
use Rattle.fst_cert.proofs.NumberLaws.{decimal_free}
use Rattle.fst_cert.proofs.TextLaws.{chain_free, pair_free, plain}

-- the line of a count
abbrev pub pairs_line : ℕ → List ℕ
pairs_line n = codes "pairs " ++ decimal n

abbrev pub chains_line : ℕ → List ℕ
chains_line n = codes "chains " ++ decimal n

-- texts that begin with as many lines have the same lines
same_front : (a b : List (List ℕ)) (r s : List ℕ) → All (IsFree line_feed) a → All (IsFree line_feed) b → length a ≡ length b →
    lines_text a ++ r ≡ lines_text b ++ s → (a ≡ b) × (r ≡ s)
same_front [] [] r s left right n e = (refl, e)
same_front [] (m ∷ b) r s left right n e = absurd (omega (arith, n))
same_front (l ∷ a) [] r s left right n e = absurd (omega (arith, n))
same_front (l ∷ a) (m ∷ b) r s left right n e =
    let whole = sym (append_assoc l (line_feed ∷ lines_text a) r) ∙ e ∙ append_assoc m (line_feed ∷ lines_text b) s in
    let h = cut_around line_feed l (lines_text a ++ r) m (lines_text b ++ s) (All-head (IsFree line_feed) l a left)
    (All-head (IsFree line_feed) m b right) whole in
    let t = same_front a b r s (All-tail (IsFree line_feed) l a left) (All-tail (IsFree line_feed) m b right) (omega (arith, n))
    h.1 in
    (ap (λ z. z ∷ a) h.0 ∙ ap (λ z. m ∷ z) t.0, t.1)

-- each line of a certificate is one line
pairs_free : (basis : List Pair) → All IsPairFit basis → All (IsFree line_feed) (map pair_line basis)
pairs_free basis fit = All-map (IsFree line_feed) pair_line basis (λ k d lt. pair_free (get_or basis k d) (fit k d lt))

chains_free : (chains : List (List Rewrite)) → All IsChainFit chains → All (IsFree line_feed) (map chain_line chains)
chains_free chains fit = All-map (IsFree line_feed) chain_line chains (λ k d lt. chain_free (get_or chains k d) (fit k d lt))

pairs_line_free : (n : ℕ) → n < 2 ^ 64 → IsFree line_feed (pairs_line n)
pairs_line_free n small = free_append line_feed (codes "pairs ") (decimal n) (plain (codes "pairs ") refl)
    (decimal_free line_feed n (λ d h e. omega arith) small)

chains_line_free : (n : ℕ) → n < 2 ^ 64 → IsFree line_feed (chains_line n)
chains_line_free n small = free_append line_feed (codes "chains ") (decimal n) (plain (codes "chains ") refl)
    (decimal_free line_feed n (λ d h e. omega arith) small)

pub lines_free : (basis : List Pair) (chains : List (List Rewrite)) → IsCert basis chains →
    All (IsFree line_feed) (cert_lines basis chains)
lines_free basis chains cert =
    let few = cert.few in
    All-cons (IsFree line_feed) (pairs_line (length basis))
    (map pair_line basis ++ chains_line (length chains) ∷ map chain_line chains)
    (pairs_line_free (length basis) (omega arith))
    (All-append (IsFree line_feed) (map pair_line basis) (chains_line (length chains) ∷ map chain_line chains)
    (pairs_free basis cert.pairs)
    (All-cons (IsFree line_feed) (chains_line (length chains)) (map chain_line chains)
    (chains_line_free (length chains) cert.many)
    (chains_free chains cert.all)))

-- how many lines a certificate has
count_lines : (basis : List Pair) (chains : List (List Rewrite)) →
    length (cert_lines basis chains) ≡ length basis + length chains + 2
count_lines basis chains =
    let n = length-map basis pair_line in
    let m = length-map chains chain_line in
    let b = length-append (map pair_line basis) (chains_line (length chains) ∷ map chain_line chains) in
    omega arith

-- where nothing is left of lines and a rest, there are none
nothing : (ls : List (List ℕ)) (rest : List ℕ) → lines_text ls ++ rest ≡ [] → (ls ≡ []) × (rest ≡ [])
nothing [] rest e = (refl, e)
nothing ([] ∷ ls) rest e = absurd (cc e)
nothing ((a ∷ l) ∷ ls) rest e = absurd (cc e)

-- some certificate has these lines first, and one line more, with which the rest begins
record IsNext (front : List (List ℕ)) (rest : List ℕ) : Type 0 where
  basis : List Pair
  chains : List (List Rewrite)
  cert : IsCert basis chains
  within : length front < length (cert_lines basis chains)
  begins : take (length front) (cert_lines basis chains) ≡ front
  behind : List ℕ
  same : rest ≡ get_or (cert_lines basis chains) (length front) [] ++ line_feed ∷ behind

module _ (text rest : List ℕ) (front : List (List ℕ)) (free : All (IsFree line_feed) front)
    (read : text ≡ lines_text front ++ rest) where
  next_line : AgreesIn (length front + 1) text → IsNext front rest
  next_line a =
      let lines = cert_lines a.basis a.chains in
      let enough = a.enough in
      let first = take (length front) lines in
      let line = get_or lines (length front) [] in
      let more : take (length front + 1) lines ≡ first ++ line ∷ [] = take_more lines (length front) [] (omega arith) in
      let whole : text ≡ lines_text first ++ (line ++ line_feed ∷ a.rest) = a.same ∙ ap (λ z. lines_text z ++ a.rest) more
      ∙ ap (λ z. z ++ a.rest) (lines-append first (line ∷ [])) ∙ append_assoc (lines_text first) (line ++ line_feed ∷ []) a.rest
      ∙ ap (λ z. lines_text first ++ z) (append_assoc line (line_feed ∷ []) a.rest) in
      let count = length-take (length front) lines in
      let h = same_front first front (line ++ line_feed ∷ a.rest) rest (All-take (IsFree line_feed) (length front) lines
      (lines_free a.basis a.chains a.cert)) free (omega arith) (sym whole ∙ read) in
      record {
        basis = a.basis;
        chains = a.chains;
        cert = a.cert;
        within = omega arith;
        begins = h.0;
        behind = a.rest;
        same = sym h.1;
      }

  -- a certificate that has these lines first shows that the text agrees with one in them
  agrees : (basis : List Pair) (chains : List (List Rewrite)) → IsCert basis chains →
      (behind : List (List ℕ)) → cert_lines basis chains ≡ front ++ behind → AgreesIn (length front) text
  agrees basis chains cert behind e =
      let count = ap length e ∙ length-append front behind in record {
        basis = basis;
        chains = chains;
        cert = cert;
        enough = omega arith;
        rest = rest;
        same = read ∙ ap (λ z. lines_text z ++ rest) (sym (ap (take (length front)) e ∙ take-append_seam front behind));
      }

  -- the line behind these is the first bad one, if no certificate has it there, and none ends there with the text
  bad_line : (k : ℕ) → k ≡ length front + 1 → AgreesIn (length front) text → (IsNext front rest → ⊥) →
      ((basis : List Pair) (chains : List (List Rewrite)) → IsCert basis chains → cert_lines basis chains ≡ front → rest ≡ [] → ⊥)
      →
      IsFirstBad text k
  bad_line k is has none ends = record {
    before = length front;
    next = omega (arith, is);
    agrees = has;
    differs = λ a. none (next_line (subst (λ j. AgreesIn j text) is a));
    other = other;
  }
    where
      other : (basis : List Pair) (chains : List (List Rewrite)) → IsCertOf text basis chains → ⊥
      other basis chains p =
          let lines = cert_lines basis chains in
          elim (cases_lt (length front) (length lines)) [
            | inl more ↦ none (next_line (record {
              basis = basis;
              chains = chains;
              cert = p.cert;
              enough = omega arith;
              rest = lines_text (drop (length front + 1) lines);
              same = p.text_is ∙ ap lines_text (sym (take-append-drop (length front + 1) lines))
                  ∙ lines-append (take (length front + 1) lines) (drop (length front + 1) lines);
            }))
            | inr less ↦
                let n = length lines in
                let first = take n front in
                let later = drop n front in
                let count = length-take n front in
                let whole = take-append-drop n front in
                let split : text ≡ lines_text first ++ (lines_text later ++ rest) = read
                ∙ ap (λ z. lines_text z ++ rest) (sym whole) ∙ ap (λ z. z ++ rest) (lines-append first later)
                ∙ append_assoc (lines_text first) (lines_text later) rest in
                let h = same_front lines first [] (lines_text later ++ rest) (lines_free basis chains p.cert)
                (All-take (IsFree line_feed) n front free) (omega arith)
                (append-nil (lines_text lines) ∙ sym p.text_is ∙ split) in
                let none_left = nothing later rest (sym h.1) in
                ends basis chains p.cert (h.0 ∙ sym (append-nil first) ∙ ap (λ z. first ++ z) (sym none_left.0) ∙ whole)
                none_left.1
          ]

-- a certificate with this line in front has as many pairs
pairs_counted : (basis : List Pair) (chains : List (List Rewrite)) (n : ℕ) (ls : List (List ℕ)) → IsCert basis chains →
    n < 2 ^ 64 →
    take (length (pairs_line n ∷ ls)) (cert_lines basis chains) ≡ pairs_line n ∷ ls → length basis ≡ n
pairs_counted basis chains n ls cert small e =
    let few = cert.few in
    let first : pairs_line (length basis) ≡ pairs_line n = cc in
    decimal_injective (length basis) n (omega arith) small (let d : decimal (length basis) ≡ decimal n = cc in d)

-- the lines of pairs and of some chains
abbrev pub begun : ℕ → List Pair → ℕ → List (List Rewrite) → List (List ℕ)
begun n pairs m chains = pairs_line n ∷ (map pair_line pairs ++ chains_line m ∷ map chain_line chains)

-- a certificate with these lines in front has as many chains
chains_counted : (basis : List Pair) (chains : List (List Rewrite)) (n : ℕ) (pairs : List Pair) (m : ℕ)
    (some : List (List Rewrite)) →
    IsCert basis chains → length pairs ≡ n → n < 2 ^ 64 → m < 2 ^ 64 →
    take (length (begun n pairs m some)) (cert_lines basis chains) ≡ begun n pairs m some → length chains ≡ m
chains_counted basis chains n pairs m some cert all small fits e =
    let same = pairs_counted basis chains n (map pair_line pairs ++ chains_line m ∷ map chain_line some) cert small e in
    let theirs = map pair_line basis in
    let ours = map pair_line pairs in
    let others = chains_line (length chains) ∷ map chain_line chains in
    let k = length (chains_line m ∷ map chain_line some) in
    let a = length-map basis pair_line in
    let b = length-map pairs pair_line in
    let long : length theirs ≡ length ours = omega arith in
    let count : length (ours ++ chains_line m ∷ map chain_line some) ≡ length theirs + k =
    length-append ours (chains_line m ∷ map chain_line some) ∙ ap (λ j. j + k) (sym long) in
    let tail : take (length (ours ++ chains_line m ∷ map chain_line some))
    (theirs ++ others) ≡ ours ++ chains_line m ∷ map chain_line some =
    cc in
    let parts = one_cut theirs (take k others) ours (chains_line m ∷ map chain_line some)
    (sym (take-append-add theirs others k) ∙ ap (λ j. take j (theirs ++ others)) (sym count) ∙ tail) long in
    let head : chains_line (length chains) ≡ chains_line m = cc in
    decimal_injective (length chains) m cert.many fits (let d : decimal (length chains) ≡ decimal m = cc in d)

-- no pair, and no chain
no_pairs : IsCert [] []
no_pairs = record { few = omega arith; many = omega arith; pairs = All-nil IsPairFit; all = All-nil IsChainFit }

-- the first line is bad
pub first_bad : (text : List ℕ) → ((n : ℕ) (rest : List ℕ) → n ≤ 4294967295 → text ≡ pairs_line n ++ line_feed ∷ rest → ⊥) →
    IsFirstBad text 1
first_bad text none = bad_line text text [] (All-nil (IsFree line_feed)) refl 1 refl
    (agrees text text [] (All-nil (IsFree line_feed)) refl [] [] no_pairs (cert_lines [] []) refl)
    (λ next. none (length next.basis) next.behind (let few = next.cert.few in omega arith) next.same)
    (λ basis chains cert e end. cc e)

-- the pair that stands for those that aren't read
abbrev filler : Pair
filler = record { left = 0 ∷ []; right = 0 ∷ [] }

filler_fit : IsPairFit filler
filler_fit = record {
  words = record { left = λ e. cc e; right = λ e. cc e };
  left_word = All-cons (λ n. n < 2 ^ 32) 0 [] (omega arith) (All-nil (λ n. n < 2 ^ 32));
  right_word = All-cons (λ n. n < 2 ^ 32) 0 [] (omega arith) (All-nil (λ n. n < 2 ^ 32));
}

module _ (text rest : List ℕ) (pairs : List Pair) (fit : All IsPairFit pairs) (n : ℕ) (small : n ≤ 4294967295)
    (read : text ≡ lines_text (pairs_line n ∷ map pair_line pairs) ++ rest) where
  abbrev front : List (List ℕ)
  front = pairs_line n ∷ map pair_line pairs

  front_free : All (IsFree line_feed) front
  front_free = All-cons (IsFree line_feed) (pairs_line n) (map pair_line pairs) (pairs_line_free n (omega arith))
      (pairs_free pairs fit)

  counted : length front ≡ length pairs + 1
  counted = let k = length-map pairs pair_line in omega arith

  -- fewer pairs are read than are told
  pub pairs_bad : (k : ℕ) → k ≡ length pairs + 2 → length pairs < n →
      ((b : Pair) (r : List ℕ) → IsPairFit b → rest ≡ pair_line b ++ line_feed ∷ r → ⊥) → IsFirstBad text k
  pairs_bad k is less none = bad_line text rest front front_free read k (let c = counted in omega arith)
      (agrees text rest front front_free read basis [] cert (map pair_line others ++ chains_line 0 ∷ []) lines)
      (λ next. no_pair next) (λ theirs chains proper e end.
      let same = pairs_counted theirs chains n (map pair_line pairs) proper (omega arith)
      (ap (take (length front)) e ∙ take_all (length front) front (omega arith)) in
      let all = ap length e in
      let sum = count_lines theirs chains in
      let c = counted in
      omega arith)
    where
      others : List Pair
      others = replicate (n - length pairs) filler

      basis : List Pair
      basis = pairs ++ others

      full : length basis ≡ n
      full = let a = length-append pairs others in let b = length-replicate (n - length pairs) filler in omega arith

      cert : IsCert basis []
      cert = record {
        few = (let f = full in omega arith);
        many = omega arith;
        pairs = All-append IsPairFit pairs others fit (All-replicate IsPairFit (n - length pairs) filler filler_fit);
        all = All-nil IsChainFit;
      }

      lines : cert_lines basis [] ≡ front ++ (map pair_line others ++ chains_line 0 ∷ [])
      lines = ap (λ j. pairs_line j ∷ (map pair_line basis ++ chains_line 0 ∷ [])) full
          ∙ ap (λ z. pairs_line n ∷ (z ++ chains_line 0 ∷ [])) (map-append pair_line pairs others)
          ∙ ap (λ z. pairs_line n ∷ z) (append_assoc (map pair_line pairs) (map pair_line others) (chains_line 0 ∷ []))

      no_pair : IsNext front rest → ⊥
      no_pair next =
          let same = pairs_counted next.basis next.chains n (map pair_line pairs) next.cert (omega arith) next.begins in
          let j = length (map pair_line pairs) in
          let here = length-map pairs pair_line in
          let there = length-map next.basis pair_line in
          let line : get_or (cert_lines next.basis next.chains) (length front) [] ≡ pair_line (get_or next.basis j filler) =
          get_or_append_left (map pair_line next.basis) (chains_line (length next.chains) ∷ map chain_line next.chains) [] j
          (omega arith)
          ∙ get_or-map pair_line next.basis j filler [] (omega arith) in
          none (get_or next.basis j filler) next.behind (next.cert.pairs j filler (omega arith))
          (next.same ∙ ap (λ z. z ++ line_feed ∷ next.behind) line)

  -- all pairs are read, and no count of chains follows
  pub count_bad : (k : ℕ) → k ≡ length pairs + 2 → length pairs ≡ n →
      ((m : ℕ) (r : List ℕ) → m ≤ 18446744073709551615 → rest ≡ chains_line m ++ line_feed ∷ r → ⊥) → IsFirstBad text k
  count_bad k is all none = bad_line text rest front front_free read k (let c = counted in omega arith)
      (agrees text rest front front_free read pairs [] cert (chains_line 0 ∷ [])
      (ap (λ j. pairs_line j ∷ (map pair_line pairs ++ chains_line 0 ∷ [])) all)) (λ next. no_count next)
      (λ theirs chains proper e end.
      let sum = count_lines theirs chains in
      let same = pairs_counted theirs chains n (map pair_line pairs) proper (omega arith)
      (ap (take (length front)) e ∙ take_all (length front) front (omega arith)) in
      let long = ap length e in
      let c = counted in
      omega arith)
    where
      cert : IsCert pairs []
      cert = record { few = omega arith; many = omega arith; pairs = fit; all = All-nil IsChainFit }

      no_count : IsNext front rest → ⊥
      no_count next =
          let same = pairs_counted next.basis next.chains n (map pair_line pairs) next.cert (omega arith) next.begins in
          let here = length-map pairs pair_line in
          let there = length-map next.basis pair_line in
          let long : length (map pair_line pairs) ≡ length (map pair_line next.basis) = omega arith in
          let line : get_or (cert_lines next.basis next.chains) (length front) [] ≡ chains_line (length next.chains) =
          ap (λ j. get_or (map pair_line next.basis ++ chains_line (length next.chains) ∷ map chain_line next.chains) j []) long
          ∙ get_or-append_seam (map pair_line next.basis) (chains_line (length next.chains)) (map chain_line next.chains) [] in
          none (length next.chains) next.behind (let many = next.cert.many in omega arith)
          (next.same ∙ ap (λ z. z ++ line_feed ∷ next.behind) line)

module _ (text rest : List ℕ) (pairs : List Pair) (fit : All IsPairFit pairs) (n : ℕ) (small : n ≤ 4294967295)
    (all : length pairs ≡ n) (chains : List (List Rewrite)) (fits : All IsChainFit chains) (m : ℕ) (few : m < 2 ^ 64)
    (within : length chains ≤ m) (read : text ≡ lines_text (begun n pairs m chains) ++ rest) where
  abbrev start : List (List ℕ)
  start = begun n pairs m chains

  start_free : All (IsFree line_feed) start
  start_free =
      All-cons (IsFree line_feed) (pairs_line n) (map pair_line pairs ++ chains_line m ∷ map chain_line chains)
      (pairs_line_free n (omega arith))
      (All-append (IsFree line_feed) (map pair_line pairs) (chains_line m ∷ map chain_line chains) (pairs_free pairs fit)
      (All-cons (IsFree line_feed) (chains_line m) (map chain_line chains) (chains_line_free m few) (chains_free chains fits)))

  lines_read : length start ≡ length pairs + length chains + 2
  lines_read =
      let a = length-map pairs pair_line in
      let b = length-map chains chain_line in
      let c = length-append (map pair_line pairs) (chains_line m ∷ map chain_line chains) in
      omega arith

  -- fewer chains are read than are told, and no other one follows; or something is left behind them
  pub chains_bad : (k : ℕ) → k ≡ length pairs + length chains + 3 →
      (length chains < m → (steps : List Rewrite) (r : List ℕ) → IsChainFit steps → rest ≡ chain_line steps ++ line_feed ∷ r → ⊥)
      →
      (length chains < m) ⊎ ((length chains ≡ m) × (rest ≢ [])) → IsFirstBad text k
  chains_bad k is none left = bad_line text rest start start_free read k (let c = lines_read in omega arith)
      (agrees text rest start start_free read pairs made cert (map chain_line others) lines) (λ next. no_chain next left)
      (λ theirs others proper e end. ends theirs others proper e end left)
    where
      others : List (List Rewrite)
      others = replicate (m - length chains) []

      made : List (List Rewrite)
      made = chains ++ others

      full : length made ≡ m
      full = let a = length-append chains others in let nothing : List Rewrite = [] in
          let b = length-replicate (m - length chains) nothing in omega arith

      cert : IsCert pairs made
      cert = record {
        few = omega arith;
        many = (let f = full in omega arith);
        pairs = fit;
        all = All-append IsChainFit chains others fits
            (All-replicate IsChainFit (m - length chains) [] (All-nil IsRewriteFit));
      }

      lines : cert_lines pairs made ≡ start ++ map chain_line others
      lines = ap (λ j. pairs_line j ∷ (map pair_line pairs ++ chains_line (length made) ∷ map chain_line made)) all
          ∙ ap (λ j. pairs_line n ∷ (map pair_line pairs ++ chains_line j ∷ map chain_line made)) full
          ∙ ap (λ z. pairs_line n ∷ (map pair_line pairs ++ chains_line m ∷ z)) (map-append chain_line chains others)
          ∙ ap (λ z. pairs_line n ∷ z)
          (sym (append_assoc (map pair_line pairs) (chains_line m ∷ map chain_line chains) (map chain_line others)))

      no_chain : IsNext start rest → (length chains < m) ⊎ ((length chains ≡ m) × (rest ≢ [])) → ⊥
      no_chain next (inl less) =
          let same = pairs_counted next.basis next.chains n
          (map pair_line pairs ++ chains_line m ∷ map chain_line chains) next.cert
          (omega arith) next.begins in
          let count = chains_counted next.basis next.chains n pairs m chains next.cert all (omega arith) few next.begins in
          let theirs = map pair_line next.basis in
          let behind = chains_line (length next.chains) ∷ map chain_line next.chains in
          let j = length (map chain_line chains) in
          let a = length-map pairs pair_line in
          let b = length-map next.basis pair_line in
          let c = length-map chains chain_line in
          let long : length (map pair_line pairs ++ chains_line m ∷ map chain_line chains) ≡ length theirs + suc j =
          length-append (map pair_line pairs) (chains_line m ∷ map chain_line chains) ∙ ap (λ i. i + suc j) (omega arith) in
          let nothing : List Rewrite = [] in
          let line : get_or (cert_lines next.basis next.chains) (length start) [] ≡ chain_line (get_or next.chains j nothing) =
          ap (λ i. get_or (theirs ++ behind) i []) long ∙ get_or-append-add theirs behind (suc j) []
          ∙ get_or-map chain_line next.chains j nothing [] (omega arith) in
          none less (get_or next.chains j nothing) next.behind (next.cert.all j nothing (omega arith))
          (next.same ∙ ap (λ z. z ++ line_feed ∷ next.behind) line)
      no_chain next (inr some) =
          let same = pairs_counted next.basis next.chains n
          (map pair_line pairs ++ chains_line m ∷ map chain_line chains) next.cert
          (omega arith) next.begins in
          let count = chains_counted next.basis next.chains n pairs m chains next.cert all (omega arith) few next.begins in
          let sum = count_lines next.basis next.chains in
          let r = lines_read in
          let more = next.within in
          omega (arith, some.0)

      ends : (theirs : List Pair) (last : List (List Rewrite)) → IsCert theirs last → cert_lines theirs last ≡ start → rest ≡ [] →
          (length chains < m) ⊎ ((length chains ≡ m) × (rest ≢ [])) → ⊥
      ends theirs last proper e end (inr some) = some.1 end
      ends theirs last proper e end (inl less) =
          let fits_start = ap (take (length start)) e ∙ take_all (length start) start (omega arith) in
          let same = pairs_counted theirs last n (map pair_line pairs ++ chains_line m ∷ map chain_line chains) proper
          (omega arith)
          fits_start in
          let count = chains_counted theirs last n pairs m chains proper all (omega arith) few fits_start in
          let sum = count_lines theirs last in
          let long = ap length e in
          let r = lines_read in
          omega arith

-- all that is told is read, and nothing is left
pub all_read : (text : List ℕ) (pairs : List Pair) (chains : List (List Rewrite)) (n m : ℕ) → All IsPairFit pairs →
    All IsChainFit chains → n ≤ 4294967295 → m < 2 ^ 64 → length pairs ≡ n → length chains ≡ m →
    text ≡ lines_text (begun n pairs m chains) ++ [] → IsCertOf text pairs chains
all_read text pairs chains n m fit fits small few all last e = record {
  cert = record { few = omega arith; many = omega arith; pairs = fit; all = fits };
  text_is = e ∙ append-nil (lines_text (begun n pairs m chains))
      ∙ ap (λ j. lines_text (begun j pairs m chains)) (sym all) ∙ ap
      (λ j. lines_text (begun (length pairs) pairs j chains)) (sym last);
}
