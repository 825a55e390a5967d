use Rattle.std.proofs.Common.{◌≡◌, ◌<◌, ◌++◌, ◌∷◌, ◌^◌, ℕ, List, decimal, sym, ◌∙◌, arith}
use Rattle.fst_cert.specs.Texts.{colon}
use Rattle.fst_cert.proofs.CutLaws.{IsFree, cut_around, no_cut}
use Rattle.fst_cert.proofs.NumberLaws.{decimal_free}
use Rattle.fst_cert.proofs.chains.read_exchange.Goals as goal

-- where the text is that of an exchange, its numbers are what stands around the first colon
parts : (bs x y : List ℕ) → (bs ≡ x ++ colon ∷ y) × IsFree colon x → (at pair : ℕ) → at < 2 ^ 64 →
    bs ≡ decimal at ++ colon ∷ decimal pair → (x ≡ decimal at) × (y ≡ decimal pair)
parts bs x y cut at pair small is =
    cut_around colon x y (decimal at) (decimal pair) cut.1 (decimal_free colon at (λ d h e. omega arith) small) (sym cut.0 ∙ is)

pub returns-in_err-at-clause-none : goal.returns-in_err-at-clause-none
returns-in_err-at-clause-none c = rw c.from_residual.ensures
    (λ at pair small few is. no_cut colon c.args.text.now (decimal at) (decimal pair) c.in_err-at.ensures.none is)

pub returns-in_err-at-2-clause-none : goal.returns-in_err-at-2-clause-none
returns-in_err-at-2-clause-none c = rw c.from_residual-in_err-at-2.ensures
    (λ at pair small few is.
    c.in_err-at-2.ensures.none at (omega arith) (parts c.args.text.now c.in_ok-at.at.now c.in_ok-at.pair.now
    c.in_ok-at.ensures.some at pair small is).0)

pub returns-in_err-pair-clause-none : goal.returns-in_err-pair-clause-none
returns-in_err-pair-clause-none c = rw c.from_residual-in_err-pair.ensures
    (λ at pair small few is.
    c.in_err-pair.ensures.none pair (omega arith) (parts c.args.text.now c.in_ok-at.at.now c.in_ok-at.pair.now
    c.in_ok-at.ensures.some at pair small is).1)
