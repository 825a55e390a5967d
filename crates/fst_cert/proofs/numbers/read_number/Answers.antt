-- The text of a number within the bound is UTF-8, is parsed as this number, and is what this number is printed as: so each answer None
-- refutes that there is one.
use Rattle.std.proofs.Common.{◌≡◌, ◌<◌, ◌≤◌, ◌^◌, ℕ, List, Result, Ok, Err, Some, None, Bor, true, not, decimal, sym, ap, ◌∙◌, arith}
use Rattle.std.proofs.lemmas.Fmt.{IsAscii-decimal, parse-decimal}
use Rattle.std.proofs.lemmas.Slice.Eq.{bytes_eq-Decides}
use Rattle.std.proofs.lemmas.Str.{IsUtf8-from_ascii}
use Rattle.std.specs.Result.{result_ok, MatchResult}
use Rattle.std.specs.Str.{IsUtf8, bytes_eq}
use Rattle.fst_cert.proofs.numbers.read_number.Goals as goal
use Rattle.fst_cert.proofs.numbers.read_number.Goals.{After-parse}

-- bytes that are no UTF-8 are no number's text
no_text : {T E : Type 0} (bs : List ℕ) (r : Result T E) (P : T → Type 0) (Q : E → Type 0) →
    MatchResult r P (λ e. (IsUtf8 bs → ⊥) × Q e) → None ≡ result_ok r → (n : ℕ) → n < 2 ^ 64 → bs ≡ decimal n → ⊥
no_text bs (Ok x) P Q told none n small is = cc none
no_text bs (Err x) P Q told none n small is = told.0 (rw is (IsUtf8-from_ascii (decimal n) (IsAscii-decimal n small)))

same_text : {E : Type 0} (bs : List ℕ) (r : Result (Bor (List ℕ)) E) (P : Type 0) (Q : E → Type 0) (s : Bor (List ℕ)) →
    MatchResult r (λ t. (t.now ≡ bs) × P) Q → Some s ≡ result_ok r → s.now ≡ bs
same_text bs (Ok t) P Q s told some = let e : s ≡ t = cc in rw e told.0
same_text bs (Err x) P Q s told some = absurd (cc some)

-- two texts are the same, and differ
same_differ : (xs ys : List ℕ) → xs ≡ ys → true ≡ not (bytes_eq xs ys) → ⊥
same_differ xs ys same other = let e : bytes_eq xs ys ≡ true = (bytes_eq-Decides xs ys).1 same in cc

-- the text of a number is parsed as this number
parsed : (c : After-parse) (n : ℕ) → n ≤ c.args.greatest → c.args.text.now ≡ decimal n → result_ok c.parse.result ≡ Some n
parsed c n within is =
    let same = same_text c.args.text.now c.from_utf8.result _ _ c.in_ok-ok.field-0 c.from_utf8.ensures.cases
    c.in_ok-ok.ensures.value in
    ap result_ok (parse-decimal 64 n c.in_ok-ok.field-0.now c.parse.result (omega arith) (omega arith) (same ∙ is)
    c.parse.ensures.value.0)

pub returns-in_err-ok-clause-none : goal.returns-in_err-ok-clause-none
returns-in_err-ok-clause-none c = rw c.from_residual.ensures
    (λ n within is. no_text c.args.text.now c.from_utf8.result _ _ c.from_utf8.ensures.cases c.in_err-ok.ensures.value
    n (omega arith) is)

pub returns-in_err-number-clause-none : goal.returns-in_err-number-clause-none
returns-in_err-number-clause-none c = rw c.from_residual-in_err-number.ensures
    (λ n within is.
    let e = parsed (goal.at.returns-in_err-number-clause-none c).After-parse n within is in
    cc (c.in_err-number.ensures.value))

pub returns-then-number-greatest-clause-none : goal.returns-then-number-greatest-clause-none
returns-then-number-greatest-clause-none c n within is =
    let e = parsed (goal.at.returns-then-number-greatest-clause-none c).After-parse n within is in
    let same : c.in_ok-number.number ≡ n = cc (c.in_ok-number.ensures.value) in
    omega arith

pub returns-then-ne-clause-none : goal.returns-then-ne-clause-none
returns-then-ne-clause-none c n within is =
    let e = parsed (goal.at.returns-then-ne-clause-none c).After-parse n within is in
    let same : c.in_ok-number.number ≡ n = cc (c.in_ok-number.ensures.value) in
    same_differ _ _ (c.as_bytes.ensures.value ∙ c.format.ensures.text ∙ ap decimal same ∙ sym is) c.if-ne.ensures
