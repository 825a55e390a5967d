-- The test of codes.
use Rattle.std.proofs.Common.{◌≡◌, true, refl, ap}
use Rattle.std.proofs.lemmas.Bool.{and_from}
use base.Stored.{Gv, gnil, gnum, gcons}
use Rattle.fst_base.specs.Codes.{same_code}
use Rattle.fst_base.proofs.Bools.{and_parts, nat_itself, same_nat}

-- a code passes the test with itself
pub code_itself : (a : Gv) → same_code a a ≡ true
code_itself gnil = refl
code_itself (gnum n) = nat_itself n
code_itself (gcons a b) = and_from (same_code a a) (same_code b b) (code_itself a) (code_itself b)

-- codes that pass it are one
pub code_same : (a b : Gv) → same_code a b ≡ true → a ≡ b
code_same gnil gnil h = refl
code_same (gnum m) (gnum n) h = ap gnum (same_nat m n h)
code_same (gcons a b) (gcons c d) h =
    let q = and_parts (same_code a c) (same_code b d) h in
    λ i. gcons (code_same a c q.0 i) (code_same b d q.1 i)
code_same a b h = absurd (cc h)
