-- Scopes in which variables and bodies are entered and left.
use Rattle.std.specs.Prelude.{◌≡◌, ◌<◌, zero, suc, false, List, [], ◌∷◌, ℕ, Option, Some}
use Rattle.fst_types.specs.declared.kind.Use.{Use}
use Rattle.fst_types.specs.declared.kind.Use.TheVariants.{Many, Once}
use Rattle.fst_terms.specs.declared.binder.Binder.{Binder}
use Rattle.fst_context.specs.Scope.{Scope, Variable, at_or_not, begun, ended, entered, left}
use Rattle.fst_context.specs.declared.context.Left.{Left}
use Rattle.fst_context.specs.declared.context.Left.TheVariants.{Used, Unused}

-- the scope with these variables entered under these names, the last innermost
abbrev pub entered_all : List Binder → List Variable → Scope → Scope
entered_all [] vs s = s
entered_all (x ∷ xs) [] s = s
entered_all (x ∷ xs) (v ∷ vs) s = entered_all xs vs (entered x.name v s)

-- the scope without its innermost n variables
abbrev pub left_all : ℕ → Scope → Scope
left_all zero s = s
left_all (suc n) s = left_all n (left s)

-- none of the innermost n variables is linear and there
abbrev pub AreUsed : ℕ → Scope → Type 0
AreUsed n s = (k : ℕ) → k < n → at_or_not s.there k ≡ false

-- of the variables that were left the last that wasn't used, where this is the k-th
abbrev pub noted : Left → ℕ → Option ℕ → Option ℕ
noted Unused k u = Some k
noted Used k u = u

-- where the body of a function is looked at
abbrev pub inside : Use → Scope → Scope
inside Many s = begun s
inside Once s = s

-- the scope after a function, where this is the one at the end of its body
abbrev pub after_body : Use → Scope → Scope
after_body Many s = ended s
after_body Once s = s
