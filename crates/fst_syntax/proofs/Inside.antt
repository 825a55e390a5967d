-- What may be opened within so many levels, and arms as they are read and as they are kept.
use Rattle.std.proofs.Common.{◌≡◌, ℕ, zero, suc, ◌-◌, ◌<◌, List, [], ◌∷◌, map, Err, refl, ap, arith}
use Rattle.fst_terms.specs.declared.term.SourceArm.{SourceArm}
use Rattle.fst_terms.specs.TermTree.{arm}
use Rattle.fst_terms.specs.ModelView.{arms_of}
use Rattle.fst_reading.specs.Reading.{Syntax, bind, andthen, switch, on, when, shut}
use Rattle.fst_module_grammar.specs.declared.operators.Level.{Level}
use Rattle.fst_module_grammar.specs.declared.operators.Level.TheVariants.{Or, And, Sum, Product}
use Rattle.fst_module_grammar.specs.TermReading.{inside, next, expr_at, expr_with, then_with, chain, cmp_with, unary_with, app_with, head_with, plain_with, arms}
use Rattle.fst_module_grammar.specs.Levels.{arm_parts}
use Rattle.fst_base.specs.Choice.{choose}

-- how far an operand of a chain is from an application
abbrev pub rank : Level → ℕ
rank Or = 40
rank And = 31
rank Sum = 20
rank Product = 10

pub next_inside : (n : ℕ) → next (inside n) ≡ inside (n - 1)
unfolding inside
next_inside zero = refl
next_inside (suc n) = let e : suc n - 1 ≡ n = omega arith in rw e refl

pub inside_next : (n : ℕ) → 0 < n → inside n ≡ expr_at (n - 1) ∷ inside (n - 1)
unfolding inside
inside_next zero lt = absurd (omega arith)
inside_next (suc n) lt = let e : suc n - 1 ≡ n = omega arith in rw e refl

-- no term is read where nothing is left
pub expr_empty : (n : ℕ) → expr_at n [] ≡ Err (Syntax [])
unfolding inside expr_with then_with chain cmp_with unary_with app_with head_with plain_with bind choose andthen switch on when
    shut
expr_empty zero = refl
expr_empty (suc n) = refl

pub arms_parts : (bs : List SourceArm) → arms (map arm_parts bs) ≡ arms_of bs
arms_parts [] = refl
arms_parts (b ∷ bs) = ap (arm b.label b.binders.items b.body) (arms_parts bs)
