-- Lists of nestings that are within a limit.
use Rattle.std.proofs.Common.{ℕ, ◌+◌, ◌≤◌, List, [], ◌∷◌, ◌++◌, arith}
use Rattle.fst_reading.specs.Lexeme.{Lexeme}
use Rattle.fst_reading.specs.Faults.{level, IsWithinLimit}
use Rattle.fst_reading.proofs.Steps.{IsWithinLimit-append}

-- numbers within a limit are within a greater one
pub raised : (m limit : ℕ) (ns : List ℕ) → m ≤ limit → IsWithinLimit m ns → IsWithinLimit limit ns
raised m limit [] le p = tt
raised m limit (n ∷ ns) le p = (omega (arith, p.0), raised m limit ns le p.1)

-- one number for each token
pub level_within : (limit n : ℕ) (ts : List Lexeme) → n ≤ limit → IsWithinLimit limit (level n ts)
level_within limit n [] le = tt
level_within limit n (k ∷ ts) le = (le, level_within limit n ts le)

-- two lists one behind the other, and taken apart
pub joined : (m limit : ℕ) (ns ms : List ℕ) → m ≤ limit → IsWithinLimit m ns → IsWithinLimit limit ms →
    IsWithinLimit limit (ns ++ ms)
joined m limit ns ms le p q = IsWithinLimit-append limit ns ms (raised m limit ns le p) q

pub front : (limit : ℕ) (ns ms : List ℕ) → IsWithinLimit limit (ns ++ ms) → IsWithinLimit limit ns
front limit [] ms p = tt
front limit (n ∷ ns) ms p = (p.0, front limit ns ms p.1)

pub behind : (limit : ℕ) (ns ms : List ℕ) → IsWithinLimit limit (ns ++ ms) → IsWithinLimit limit ms
behind limit [] ms p = p
behind limit (n ∷ ns) ms p = behind limit ns ms p.1

-- a list with one more token behind it, that of the place
pub ended : (d m : ℕ) (ns : List ℕ) → IsWithinLimit (d + m) ns → IsWithinLimit (d + m) (ns ++ d ∷ [])
ended d m ns p = IsWithinLimit-append (d + m) ns (d ∷ []) p (omega arith, tt)
