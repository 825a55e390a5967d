-- What types guard and reach in which types are put for recursion variables.
use Rattle.std.proofs.Common.{◌≡◌, ◌∙◌, ◌<◌, ◌≤◌, ℕ, zero, suc, List, [], ◌∷◌, Bool, true, false, Option, Some, None, refl, ap, arith}
use Rattle.std.specs.Prelude.{◌&&◌, ◌||◌, not, nat_eq}
use Rattle.std.proofs.Math.Bool.{or-true, and-false}
use Rattle.std.proofs.lemmas.Bool.{eqb-true, false_from_ne_true, or_parts}
use Rattle.fst_types.specs.Tree.{Tree, skip, send, receive, close, wait, select, offer, seq, rec, back, var, plain, arrow, pair, named, Branches, none, branch}
use Rattle.fst_types.specs.declared.kind.Kind.{Kind}
use Rattle.fst_types.specs.declared.kind.Prekind.TheVariants.{Session, Top}
use Rattle.fst_types.specs.declared.kind.Use.{Use}
use Rattle.fst_types.specs.Substitution.{variable, substitute, substitute_all, EnvHas}
use Rattle.fst_types.specs.Scoped.{IsScoped, AllScoped}
use Rattle.fst_types.proofs.Laws.{variable_has}
use Rattle.fst_kinds.specs.Kinds.{session, top, HasKind}
use Rattle.fst_kinds.specs.OpenSession.{GuardsTo}
use Rattle.fst_kinds.specs.Contractive.{guards, reaches, IsContractive, AllContractive}

-- the kind of a session type is none of a type of any values
pub not_top : {A : Type 0} (u v : Use) → session u ≡ top v → A
not_top u v e =
    let is : Session ≡ Top = ap (λ (k : Kind). k.prekind) e in
    absurd (cc is)

-- a session type that guards nothing has no free variables
pub unguarded_scoped : (vars : List Kind) (n : ℕ) (s : Tree) (u : Use) → HasKind vars s (session u) → guards s ≡ false →
    IsScoped n s
unguarded_scoped vars n skip u h e = tt
unguarded_scoped vars n (send b) u h e = tt
unguarded_scoped vars n (receive b) u h e = tt
unguarded_scoped vars n close u h e = tt
unguarded_scoped vars n wait u h e = tt
unguarded_scoped vars n (select bs) u h e = absurd (cc e)
unguarded_scoped vars n (offer bs) u h e = absurd (cc e)
unguarded_scoped vars n (seq s r) u h e =
    let both = or_parts (guards s) (guards r) e in
    (unguarded_scoped vars n s h.0 h.2 both.0, unguarded_scoped vars n r h.1 h.3 both.1)
unguarded_scoped vars n (rec s) u h e = unguarded_scoped vars (suc n) s u h.0 e
unguarded_scoped vars n (back k) u h e = absurd (cc e)
unguarded_scoped vars n (var k) u h e = tt
unguarded_scoped vars n (plain b) u h e = tt
unguarded_scoped vars n (arrow v s r) u h e = not_top u v h.2
unguarded_scoped vars n (pair s r) u h e = not_top u _ h.4
unguarded_scoped vars n (named k) u h e = tt

-- a type without free variables from n on reaches none of them
pub unreached : (s : Tree) (n k : ℕ) → IsScoped n s → n ≤ k → reaches s k ≡ false
unreached skip n k h le = refl
unreached (send b) n k h le = refl
unreached (receive b) n k h le = refl
unreached close n k h le = refl
unreached wait n k h le = refl
unreached (select bs) n k h le = refl
unreached (offer bs) n k h le = refl
unreached (seq s r) n k h le =
    ap (λ b. b || (not (guards s) && reaches r k)) (unreached s n k h.0 le)
    ∙ ap (λ b. not (guards s) && b) (unreached r n k h.1 le) ∙ and-false (not (guards s))
unreached (rec s) n k h le = unreached s (suc n) (suc k) h (omega arith)
unreached (back j) n k h le = false_from_ne_true (nat_eq j k) (λ e. absurd (omega (arith, eqb-true j k e)))
unreached (var j) n k h le = refl
unreached (plain b) n k h le = refl
unreached (arrow u s r) n k h le = refl
unreached (pair s r) n k h le = refl
unreached (named j) n k h le = refl

variable_guards : (n : ℕ) (env : List (Option Tree)) (k : ℕ) (t : Tree) → GuardsTo n env → k < n → guards t ≡ true →
    guards (variable env k t) ≡ true
variable_guards zero env k t g lt h = absurd (omega arith)
variable_guards (suc n) [] k t g lt h = h
variable_guards (suc n) (None ∷ env) zero t g lt h = h
variable_guards (suc n) (Some s ∷ env) zero t g lt h = g.0
variable_guards (suc n) (o ∷ env) (suc k) t g lt h = variable_guards n env k t g.1 (omega arith) h

-- a type that guards still does, where all that is put in guards
pub substitute_guards : (n : ℕ) (env : List (Option Tree)) (s : Tree) → GuardsTo n env → IsScoped n s → guards s ≡ true →
    guards (substitute env s) ≡ true
substitute_guards n env skip g h e = e
substitute_guards n env (send b) g h e = refl
substitute_guards n env (receive b) g h e = refl
substitute_guards n env close g h e = refl
substitute_guards n env wait g h e = refl
substitute_guards n env (select bs) g h e = refl
substitute_guards n env (offer bs) g h e = refl
substitute_guards n env (seq s r) g h e = pick (substitute_guards n env s g h.0) (substitute_guards n env r g h.1)
    (guards s) refl e
  where
    pick : (guards s ≡ true → guards (substitute env s) ≡ true) → (guards r ≡ true → guards (substitute env r) ≡ true) →
        (c : Bool) → guards s ≡ c → c || guards r ≡ true → guards (substitute env s) || guards (substitute env r) ≡ true
    pick first second true is e = ap (λ b. b || guards (substitute env r)) (first is)
    pick first second false is e = ap (λ b. guards (substitute env s) || b) (second e) ∙ or-true (guards (substitute env s))
substitute_guards n env (rec s) g h e = substitute_guards (suc n) (None ∷ env) s (tt, g) h e
substitute_guards n env (back k) g h e = variable_guards n env k (back k) g h refl
substitute_guards n env (var k) g h e = e
substitute_guards n env (plain b) g h e = e
substitute_guards n env (arrow u s r) g h e = e
substitute_guards n env (pair s r) g h e = e
substitute_guards n env (named k) g h e = e

variable_unreached : (env : List (Option Tree)) (k j : ℕ) (t : Tree) → EnvHas (IsScoped 0) env → reaches t j ≡ false →
    reaches (variable env k t) j ≡ false
variable_unreached [] k j t c h = h
variable_unreached (None ∷ env) zero j t c h = h
variable_unreached (Some s ∷ env) zero j t c h = unreached s 0 j c.0 (omega arith)
variable_unreached (o ∷ env) (suc k) j t c h = variable_unreached env k j t c.1 h

-- a type reaches no further variable where all that is put in guards and has no free variables
pub substitute_unreached : (n : ℕ) (env : List (Option Tree)) (s : Tree) (j : ℕ) →
    GuardsTo n env → EnvHas (IsScoped 0) env → IsScoped n s → reaches s j ≡ false → reaches (substitute env s) j ≡ false
substitute_unreached n env skip j g c h e = refl
substitute_unreached n env (send b) j g c h e = refl
substitute_unreached n env (receive b) j g c h e = refl
substitute_unreached n env close j g c h e = refl
substitute_unreached n env wait j g c h e = refl
substitute_unreached n env (select bs) j g c h e = refl
substitute_unreached n env (offer bs) j g c h e = refl
substitute_unreached n env (seq s r) j g c h e =
    let both = or_parts (reaches s j) (not (guards s) && reaches r j) e in
    pick (substitute_unreached n env s j g c h.0 both.0) (substitute_unreached n env r j g c h.1) (guards s) refl both.1
  where
    pick : reaches (substitute env s) j ≡ false → (reaches r j ≡ false → reaches (substitute env r) j ≡ false) →
        (b : Bool) → guards s ≡ b → not b && reaches r j ≡ false →
        reaches (substitute env s) j || (not (guards (substitute env s)) && reaches (substitute env r) j) ≡ false
    pick first second true is e = λ i. first i || (not (substitute_guards n env s g h.0 is i) && reaches (substitute env r) j)
    pick first second false is e = (λ i. first i || (not (guards (substitute env s)) && second e i))
        ∙ and-false (not (guards (substitute env s)))
substitute_unreached n env (rec s) j g c h e = substitute_unreached (suc n) (None ∷ env) s (suc j) (tt, g) (tt, c) h e
substitute_unreached n env (back k) j g c h e = variable_unreached env k j (back k) c e
substitute_unreached n env (var k) j g c h e = refl
substitute_unreached n env (plain b) j g c h e = refl
substitute_unreached n env (arrow u s r) j g c h e = refl
substitute_unreached n env (pair s r) j g c h e = refl
substitute_unreached n env (named k) j g c h e = refl

mutual
  -- a contractive type stays so where all that is put in is contractive, guards and has no free variables
  pub substitute_contractive : (n : ℕ) (env : List (Option Tree)) (s : Tree) →
      GuardsTo n env → EnvHas (IsScoped 0) env → EnvHas IsContractive env → IsScoped n s → IsContractive s →
      IsContractive (substitute env s)
  substitute_contractive n env skip g c d h e = tt
  substitute_contractive n env (send b) g c d h e = tt
  substitute_contractive n env (receive b) g c d h e = tt
  substitute_contractive n env close g c d h e = tt
  substitute_contractive n env wait g c d h e = tt
  substitute_contractive n env (select bs) g c d h e = substitute_all_contractive n env bs g c d h e
  substitute_contractive n env (offer bs) g c d h e = substitute_all_contractive n env bs g c d h e
  substitute_contractive n env (seq s r) g c d h e =
      (substitute_contractive n env s g c d h.0 e.0, substitute_contractive n env r g c d h.1 e.1)
  substitute_contractive n env (rec s) g c d h e = (
    substitute_contractive (suc n) (None ∷ env) s (tt, g) (tt, c) (tt, d) h e.0,
    substitute_unreached (suc n) (None ∷ env) s 0 (tt, g) (tt, c) h e.1,
  )
  substitute_contractive n env (back k) g c d h e = variable_has IsContractive env k (back k) d tt
  substitute_contractive n env (var k) g c d h e = tt
  substitute_contractive n env (plain b) g c d h e = tt
  substitute_contractive n env (arrow u s r) g c d h e =
      (substitute_contractive n env s g c d h.0 e.0, substitute_contractive n env r g c d h.1 e.1)
  substitute_contractive n env (pair s r) g c d h e =
      (substitute_contractive n env s g c d h.0 e.0, substitute_contractive n env r g c d h.1 e.1)
  substitute_contractive n env (named k) g c d h e = tt

  substitute_all_contractive : (n : ℕ) (env : List (Option Tree)) (bs : Branches) →
      GuardsTo n env → EnvHas (IsScoped 0) env → EnvHas IsContractive env → AllScoped n bs → AllContractive bs →
      AllContractive (substitute_all env bs)
  substitute_all_contractive n env none g c d h e = tt
  substitute_all_contractive n env (branch l s bs) g c d h e =
      (substitute_contractive n env s g c d h.0 e.0, substitute_all_contractive n env bs g c d h.1 e.1)
