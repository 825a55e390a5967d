-- A context's scope, and the answers of its calls.
use Rattle.std.specs.Prelude.{◌≡◌, ◌+◌, ◌<◌, ◌≤◌, ◌^◌, ℕ, Bool, List, length, map, cond, sum}
use mathlib.Core.List.{reverse}
use Rattle.fst_context.specs.Vars.{single}
use Rattle.fst_context.specs.declared.context.Entry.{Entry}
use Rattle.fst_context.specs.declared.context.Taken.{Taken}
use Rattle.fst_context.specs.declared.context.Taken.TheVariants.{Here, Gone, Outside}
use Rattle.fst_context.specs.declared.context.Left.{Left}
use Rattle.fst_context.specs.declared.context.Left.TheVariants.{Used, Unused}
use Rattle.fst_context.specs.Scope.{Scope, Variable, at_or_not, linear_at, is_inside, without}

-- the variable of an entry
abbrev pub variable_of : Entry → Variable
variable_of e = record { type = e.ty; uses = e.uses }

-- the scope of what is entered, the innermost last, with a mark for each linear variable that is there
abbrev pub scope_of : List Entry → List Bool → List ℕ → Scope
scope_of es bs ns = record {
  names = reverse (map (λ e. e.name) es);
  variables =
      reverse (map variable_of es);
  there = reverse bs;
  bodies = reverse ns;
}

-- there is a mark for each entry, no more variables in bodies than entries, and fewer than 2^32 of these
pub record IsSound (es : List Entry) (bs : List Bool) (ns : List ℕ) : Type 0 where
  pub marked : length bs ≡ length es
  pub counted : sum ns ≤ length es
  pub few : length es < 2 ^ 32

-- what taking the k-th variable finds
abbrev pub taken_at : Scope → ℕ → Taken
taken_at s k = cond (linear_at s.variables k)
    (cond (at_or_not s.there k) (cond (is_inside s.bodies k) Here Outside) Gone) Here

-- the scope after the k-th variable was taken
abbrev pub after_take : Taken → ℕ → Scope → Scope
after_take Here k s = without (single (linear_at s.variables k) k) s
after_take Gone k s = s
after_take Outside k s = s

-- what leaving the innermost variable finds
abbrev pub left_at : Scope → Left
left_at s = cond (at_or_not s.there 0) Unused Used
