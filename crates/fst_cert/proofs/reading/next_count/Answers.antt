use Rattle.std.proofs.Common.{◌≡◌, ◌<◌, ◌^◌, ◌++◌, ◌∷◌, ◌∙◌, ℕ, List, ap, arith, drop, length, sym, take}
use Rattle.std.specs.Prelude.{decimal}
use Rattle.std.proofs.Math.Seq.{drop-append_seam, take-append_seam}
use Rattle.std.proofs.lemmas.List.{take-append-drop}
use Rattle.std.proofs.lemmas.Slice.Eq.{bytes_eq-Decides}
use Rattle.fst_cert.specs.Texts.{line_feed}
use Rattle.fst_cert.proofs.CutLaws.{IsFree, cut_around, free_append, no_cut}
use Rattle.fst_cert.proofs.NumberLaws.{decimal_free}
use Rattle.fst_cert.proofs.reading.next_count.Goals as goal

-- the line is the word and the number behind it
counted : (text line rest word : List ℕ) → (text ≡ line ++ line_feed ∷ rest) × IsFree line_feed line → IsFree line_feed word →
    (n : ℕ) (behind : List ℕ) → n < 2 ^ 64 → text ≡ (word ++ decimal n) ++ line_feed ∷ behind → line ≡ word ++ decimal n
counted text line rest word cut free n behind small is =
    (cut_around line_feed line rest (word ++ decimal n) behind cut.1
    (free_append line_feed word (decimal n) free (decimal_free line_feed n (λ d h e. omega arith) small)) (sym cut.0 ∙ is)).0

pub returns-in_err-line-clause-none : goal.returns-in_err-line-clause-none
returns-in_err-line-clause-none c = rw c.from_residual.ensures
    (λ n rest le is. no_cut line_feed c.args.text.now (c.args.word.now ++ decimal n) rest c.in_err-line.ensures.none is)

pub returns-in_err-strip_prefix-clause-none : goal.returns-in_err-strip_prefix-clause-none
returns-in_err-strip_prefix-clause-none c = rw c.from_residual-in_err-strip_prefix.ensures (λ n rest le is.
    let word = c.args.word.now in
    let line = counted c.args.text.now c.in_ok-line.line.now c.in_ok-line.rest.now word c.in_ok-line.ensures.some
    c.requires.one_line n rest (omega arith) is in
    let begins = ap (take (length word)) line ∙ take-append_seam word (decimal n) in
    let yes = (bytes_eq-Decides (take (length word) c.in_ok-line.line.now) word).1 begins in
    let no = c.in_err-strip_prefix.ensures.cases in
    cc)

pub returns-in_err-number-clause-none : goal.returns-in_err-number-clause-none
returns-in_err-number-clause-none c = rw c.from_residual-in_err-number.ensures (λ n rest le is.
    let word = c.args.word.now in
    let line = counted c.args.text.now c.in_ok-line.line.now c.in_ok-line.rest.now word c.in_ok-line.ensures.some
    c.requires.one_line n rest (omega arith) is in
    c.in_err-number.ensures.none n le (c.in_ok-strip_prefix.ensures.cases.1 ∙ ap (drop (length word)) line
    ∙ drop-append_seam word (decimal n)))

pub returns-clause-some : goal.returns-clause-some
returns-clause-some c =
    let word = c.args.word.now in
    let line = c.in_ok-line.line.now in
    let cases = c.in_ok-strip_prefix.ensures.cases in
    let begins = (bytes_eq-Decides (take (length word) line) word).0 cases.0 in
    let number = c.in_ok-number.ensures.some in
    let whole : line ≡ word ++ decimal c.in_ok-number.number = sym (take-append-drop (length word) line)
    ∙ ap (λ t. t ++ drop (length word) line) begins ∙ ap (λ t. word ++ t) (sym cases.1 ∙ number.0) in
    (c.in_ok-line.ensures.some.0 ∙ ap (λ t. t ++ line_feed ∷ c.in_ok-line.rest.now) whole, number.1)
