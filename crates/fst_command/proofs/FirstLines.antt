-- Where the first line of a text ends.
use Rattle.std.proofs.Common.{◌≡◌, ◌∙◌, ℕ, List, [], ◌∷◌, ◌++◌, Bool, true, false, refl, ap, arith}
use Rattle.std.specs.Prelude.{◌≢◌, ◌==◌, ◌||◌, All, if◌then◌else◌}
use Rattle.std.specs.List.{AllByRecursion}
use Rattle.std.proofs.lemmas.List.Elements.{recursion_from_All}
use Rattle.fst_cert.specs.Texts.{line_feed}
use Rattle.std.proofs.lemmas.Bool.Decides.{nat_tests}
use Rattle.fst_command.specs.Texts.{is_line_feed}
use Rattle.fst_command.specs.Audited.{first_line, other_lines}

-- another byte ends no line
no_feed : (c : ℕ) → c ≢ line_feed → is_line_feed c ≡ false
no_feed c other = by ((10 == c) || false) refl
  where
    by : (b : Bool) → ((10 == c) || false) ≡ b → b ≡ false
    by false is = refl
    by true is = absurd (other (grind (arith, nat_tests)))

-- a line with a line feed behind it is the first
first_of : (line rest : List ℕ) → AllByRecursion (λ c. c ≢ line_feed) line → first_line (line ++ line_feed ∷ rest) ≡ line
first_of [] rest h = refl
first_of (c ∷ line) rest h =
    ap (λ b. if b then [] else c ∷ first_line (line ++ line_feed ∷ rest)) (no_feed c h.0)
    ∙ ap (λ (ts : List ℕ). c ∷ ts) (first_of line rest h.1)

-- and the rest stands behind it
others_of : (line rest : List ℕ) → AllByRecursion (λ c. c ≢ line_feed) line → other_lines (line ++ line_feed ∷ rest) ≡ rest
others_of [] rest h = refl
others_of (c ∷ line) rest h =
    ap (λ b. if b then line ++ line_feed ∷ rest else other_lines (line ++ line_feed ∷ rest)) (no_feed c h.0)
    ∙ others_of line rest h.1

-- a text without a line feed is its first line
alone_of : (line : List ℕ) → AllByRecursion (λ c. c ≢ line_feed) line → first_line line ≡ line
alone_of [] h = refl
alone_of (c ∷ line) h =
    ap (λ b. if b then [] else c ∷ first_line line) (no_feed c h.0) ∙ ap (λ (ts : List ℕ). c ∷ ts) (alone_of line h.1)

-- and nothing stands behind it
nothing_of : (line : List ℕ) → AllByRecursion (λ c. c ≢ line_feed) line → other_lines line ≡ []
nothing_of [] h = refl
nothing_of (c ∷ line) h = ap (λ b. if b then line else other_lines line) (no_feed c h.0) ∙ nothing_of line h.1

pub first_before : (line rest : List ℕ) → All (λ c. c ≢ line_feed) line → first_line (line ++ line_feed ∷ rest) ≡ line
first_before line rest h = first_of line rest (recursion_from_All (λ c. c ≢ line_feed) line h)

pub others_behind : (line rest : List ℕ) → All (λ c. c ≢ line_feed) line → other_lines (line ++ line_feed ∷ rest) ≡ rest
others_behind line rest h = others_of line rest (recursion_from_All (λ c. c ≢ line_feed) line h)

pub first_alone : (line : List ℕ) → All (λ c. c ≢ line_feed) line → first_line line ≡ line
first_alone line h = alone_of line (recursion_from_All (λ c. c ≢ line_feed) line h)

pub none_behind : (line : List ℕ) → All (λ c. c ≢ line_feed) line → other_lines line ≡ []
none_behind line h = nothing_of line (recursion_from_All (λ c. c ≢ line_feed) line h)
