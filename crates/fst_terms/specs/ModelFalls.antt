-- Each term within a term is lower.
use Rattle.std.specs.Prelude.{ℕ, ◌+◌, ◌≤◌, max, suc, List, [], ◌∷◌}
use Rattle.std.proofs.Common.{arith}
use Rattle.fst_terms.specs.TermTree.{TermTree, term_height, terms_height, arms_height}
use Rattle.fst_terms.specs.ModelView.{terms_of, arms_of, term_of}
use Rattle.fst_terms.specs.declared.term.SourceForm.{SourceForm}
use Rattle.fst_terms.specs.declared.term.SourceForm.TheVariants.{Named, Int, Bool, Char, Unit as Nothing, Pair, Make, Lambda, Apply, Let, Split, If, Case, Operate, Not, New, Send, Receive, Close, Wait, Select, Match, Fork, Then}
use Rattle.fst_terms.specs.declared.term.SourceArm.{SourceArm}
use Rattle.fst_terms.specs.declared.term.SourceTerm.TheDeep.{deep-SourceForm, deep-SourceArm}
use denote.Param.Weighed.{most}

-- no argument is higher than the highest of them
pub most_le-terms_height : (ts : List TermTree) → most
    (λ t. term_height t + 1) ts ≤ suc (terms_height (terms_of ts))
most_le-terms_height [] = omega arith
most_le-terms_height (t ∷ ts) = omega (arith, most_le-terms_height ts)

-- no arm is higher than the highest of them
pub most_le-arms_height : (bs : List SourceArm) →
    most deep-SourceArm bs ≤ suc (arms_height (arms_of bs))
most_le-arms_height [] = omega arith
most_le-arms_height (b ∷ bs) = omega (arith, most_le-arms_height bs)

-- no part is as high as the whole
pub deep_le-height : (at : ℕ) (f : SourceForm) →
    max (deep-SourceForm f) 0 ≤ term_height (term_of at f)
deep_le-height at (Named x ts) = omega arith
deep_le-height at (Int n) = omega arith
deep_le-height at (Bool b) = omega arith
deep_le-height at (Char c) = omega arith
deep_le-height at Nothing = omega arith
deep_le-height at (Pair s t) = omega arith
deep_le-height at (Make x ts) = omega (arith, most_le-terms_height ts.items)
deep_le-height at (Lambda u a x t) = omega arith
deep_le-height at (Apply s t) = omega arith
deep_le-height at (Let x s t) = omega arith
deep_le-height at (Split x y s t) = omega arith
deep_le-height at (If s t u) = omega arith
deep_le-height at (Case t bs) = omega (arith, most_le-arms_height bs.items)
deep_le-height at (Operate o s t) = omega arith
deep_le-height at (Not t) = omega arith
deep_le-height at (New a) = omega arith
deep_le-height at (Send s t) = omega arith
deep_le-height at (Receive t) = omega arith
deep_le-height at (Close t) = omega arith
deep_le-height at (Wait t) = omega arith
deep_le-height at (Select l t) = omega arith
deep_le-height at (Match t bs) = omega (arith, most_le-arms_height bs.items)
deep_le-height at (Fork t) = omega arith
deep_le-height at (Then s t) = omega arith
