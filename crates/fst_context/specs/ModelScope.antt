-- Scopes as codes, and back.
use Rattle.std.specs.Prelude.{◌≡◌, ℕ, Bool, true, false, List, refl}
use Rattle.std.specs.Coded.{Coded, code_by, coded×, coded_ℕ, coded_bool, coded_list}
use Rattle.fst_types.specs.Tree.{Tree}
use Rattle.fst_types.specs.ModelCode.{tree_code}
use Rattle.fst_types.specs.declared.kind.Use.{Use}
use Rattle.fst_types.specs.declared.kind.Use.TheVariants.{Many, Once}
use Rattle.fst_context.specs.Scope.{is_once, Variable, Scope}

-- a use by whether it is linear
abbrev pub use_at : Bool → Use
use_at true = Once
use_at false = Many

pub use_at-is_once : (u : Use) → use_at (is_once u) ≡ u
use_at-is_once Many = refl
use_at-is_once Once = refl

-- variables, told apart by their codes
abbrev pub variable_code : Coded Variable
variable_code =
    code_by (Tree × Bool) (coded× tree_code coded_bool) (λ v. (v.type, is_once v.uses))
    (λ p. record { type = p.0; uses = use_at p.1 })
    (λ v i. record { type = v.type; uses = use_at-is_once v.uses i })

-- scopes, told apart by their codes
abbrev pub scope_code : Coded Scope
scope_code =
    code_by (List (List ℕ) × (List Variable × (List Bool × List ℕ)))
    (coded× (coded_list (coded_list coded_ℕ))
    (coded× (coded_list variable_code) (coded× (coded_list coded_bool) (coded_list coded_ℕ))))
    (λ s. (s.names, (s.variables, (s.there, s.bodies))))
    (λ p. record { names = p.0; variables = p.1.0; there = p.1.1.0; bodies = p.1.1.1 })
    (λ _. refl)
