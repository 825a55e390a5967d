-- A text has one first bad line, and this is at most one more than the text has bytes.
use Rattle.std.proofs.Common.{◌≡◌, ◌+◌, ◌<◌, ◌≤◌, ◌++◌, ◌∷◌, ◌∙◌, [], ℕ, List, ap, append_assoc, arith, drop, inl, inr, length, sym, take}
use Rattle.std.proofs.lemmas.Bool.{cases_lt}
use Rattle.std.proofs.lemmas.List.{length-append, length-take-le, take-append-drop, take-take}
use Rattle.fst_cert.specs.Certificates.{AgreesIn, IsFirstBad}
use Rattle.fst_cert.specs.Texts.{cert_lines, line_feed, lines_text}
use Rattle.fst_cert.proofs.LineLaws.{lines-append}

-- a text that agrees with a certificate in some lines agrees with it in fewer
agrees_fewer : (text : List ℕ) (j k : ℕ) → j ≤ k → AgreesIn k text → AgreesIn j text
agrees_fewer text j k fewer a =
    let lines = cert_lines a.basis a.chains in
    let enough = a.enough in
    let first = take k lines in
    let behind = lines_text (drop j first) in
    record {
      basis = a.basis;
      chains = a.chains;
      cert = a.cert;
      enough = omega arith;
      rest = behind ++ a.rest;
      same = a.same ∙ ap (λ z. lines_text z ++ a.rest) (sym (take-append-drop j first))
          ∙ ap (λ z. z ++ a.rest) (lines-append (take j first) (drop j first))
          ∙ append_assoc (lines_text (take j first)) behind a.rest
          ∙ ap (λ z. lines_text z ++ (behind ++ a.rest)) (take-take j k lines fewer);
    }

-- no first bad line stands behind another
none_behind : (text : List ℕ) (j k : ℕ) → IsFirstBad text j → IsFirstBad text k → j < k → ⊥
none_behind text j k one other less =
    let next = other.next in
    one.differs (agrees_fewer text j other.before (omega arith) other.agrees)

pub one_bad_line : (text : List ℕ) (j k : ℕ) → IsFirstBad text j → IsFirstBad text k → j ≡ k
one_bad_line text j k one other = elim (cases_lt j k) [
  | inl less ↦ absurd (none_behind text j k one other less)
  | inr most ↦ elim (cases_lt k j) [
    | inl less ↦ absurd (none_behind text k j other one less)
    | inr least ↦ omega arith
  ]
]

-- each line has at least its line feed
lines_long : (ls : List (List ℕ)) → length ls ≤ length (lines_text ls)
lines_long [] = omega arith
lines_long (l ∷ ls) =
    let later = lines_long ls in
    let all = length-append l (line_feed ∷ lines_text ls) in
    omega arith

pub few_lines : (text : List ℕ) (k : ℕ) → IsFirstBad text k → k ≤ length text + 1
few_lines text k bad =
    let next = bad.next in
    let a = bad.agrees in
    let lines = cert_lines a.basis a.chains in
    let first = take bad.before lines in
    let count = length-take-le bad.before lines a.enough in
    let long = lines_long first in
    let whole = ap length a.same ∙ length-append (lines_text first) a.rest in
    omega arith
