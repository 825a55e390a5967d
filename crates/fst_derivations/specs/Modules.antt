-- Which derivations are those of a module.
use Rattle.std.specs.Prelude.{◌≡◌, ◌<◌, ℕ, Bool, true, false, List, [], ◌∷◌, ◌++◌, length, map, Contains, Some, slice_get, ⊤, codes}
use Rattle.std.specs.Str.{bytes_eq}
use Rattle.fst_types.specs.Tree.{Tree, plain, arrow, pair, named}
use Rattle.fst_types.specs.declared.base.Base.{Base}
use Rattle.fst_types.specs.declared.family.Family.{Family}
use Rattle.fst_types.specs.declared.family.Maker.{Maker}
use Rattle.fst_types.specs.declared.kind.Kind.{Kind}
use Rattle.fst_types.specs.declared.kind.Use.{Use}
use Rattle.fst_types.specs.declared.kind.Use.TheVariants.{Many}
use Rattle.fst_terms.specs.CoreTree.{CoreTree, local, global, int, bool, char, unit, pair as couple, make, lambda, apply, let_in, split, if_else, case_of, operate, negate, new, send, receive, close, wait, select, match_with, fork, seq, CoreList, no_terms, term, CoreArms, no_arms, arm}
use Rattle.fst_terms.specs.declared.core_module.Module.{Module}
use Rattle.fst_terms.specs.declared.binder.Binder.{Binder}
use Rattle.fst_terms.specs.declared.global.GlobalEntry.{GlobalEntry}
use Rattle.fst_context.specs.Scope.{Variable, is_once}
use Rattle.fst_context.specs.Vars.{Vars, no_vars, under}
use Rattle.fst_derivations.specs.Deriv.{Deriv, row, one}
use Rattle.fst_derivations.specs.Parts.{IsFormed, HasUse, IsConversion}
use Rattle.fst_derivations.specs.Rules.{Surroundings, Mode, Converted, converting, At, Row}

-- what the terms of an equation speak of, in a module
abbrev pub surroundings : Module → List Kind → Surroundings
surroundings m vars = record {
  families = m.families.items;
  globals = m.globals.items;
  types =
      m.types.items;
  vars = vars;
}

-- a value of the type can be printed: a base type, a data type, or a pair of such types
pub data IsPrintable : Tree → Type 0 where
  base_types : {b : Base} → IsPrintable (plain b)
  data_types : {n : ℕ} → IsPrintable (named n)
  pairs : {s t : Tree} → IsPrintable s → IsPrintable t → IsPrintable (pair s t)

-- a type that stands in a term, by its number, and whether the variables of its equation's signature are in scope there
abbrev pub Standing : Type 0
Standing = ℕ × Bool

-- types where the variables are in scope
abbrev pub all_open : List ℕ → List Standing
all_open [] = []
all_open (k ∷ ks) = (k, true) ∷ all_open ks

abbrev mutual
  -- the types that stand in a term in order of text
  pub types_in : CoreTree → List Standing
  types_in (local at k) = []
  types_in (global at k ks) = all_open ks
  types_in (int at n) = []
  types_in (bool at b) = []
  types_in (char at c) = []
  types_in (unit at) = []
  types_in (couple at e f) = types_in e ++ types_in f
  types_in (make at n k es) = types_in_all es
  types_in (lambda at uses k x e) = (k, true) ∷ types_in e
  types_in (apply at e f) = types_in e ++ types_in f
  types_in (let_in at x e f) = types_in e ++ types_in f
  types_in (split at x y e f) = types_in e ++ types_in f
  types_in (if_else at e f g) = types_in e ++ (types_in f ++ types_in g)
  types_in (case_of at e bs) = types_in e ++ types_in_arms bs
  types_in (operate at o e f) = types_in e ++ types_in f
  types_in (negate at e) = types_in e
  types_in (new at k) = (k, false) ∷ []
  types_in (send at e f) = types_in e ++ types_in f
  types_in (receive at e) = types_in e
  types_in (close at e) = types_in e
  types_in (wait at e) = types_in e
  types_in (select at l e) = types_in e
  types_in (match_with at e bs) = types_in e ++ types_in_arms bs
  types_in (fork at e) = types_in e
  types_in (seq at e f) = types_in e ++ types_in f

  -- and in some terms
  pub types_in_all : CoreList → List Standing
  types_in_all no_terms = []
  types_in_all (term e es) = types_in e ++ types_in_all es

  -- and in arms
  pub types_in_arms : CoreArms → List Standing
  types_in_arms no_arms = []
  types_in_arms (arm l xs e bs) = types_in e ++ types_in_arms bs

-- the k-th type is there, and well formed over these variables
abbrev pub IsFormedAt : List Tree → List Kind → ℕ → Type 0
IsFormedAt types vars k = (t : Tree) × (slice_get types k ≡ Some t) × IsFormed vars t

-- the variables that are in scope where a type stands
abbrev pub scope_at : List Kind → Bool → List Kind
scope_at vars true = vars
scope_at vars false = []

-- types that stand in an equation are well formed over the variables in scope
abbrev pub AreStandingFormed : List Tree → List Kind → List Standing → Type 0
AreStandingFormed types vars [] = ⊤
AreStandingFormed types vars (p ∷ ps) = IsFormedAt types (scope_at vars p.1) p.0 ×
    AreStandingFormed types vars ps

-- fields have well-formed types, over no variables
abbrev pub AreFieldsFormed : List Tree → List ℕ → Type 0
AreFieldsFormed types [] = ⊤
AreFieldsFormed types (k ∷ ks) = IsFormedAt types [] k × AreFieldsFormed types ks

-- so do the fields of constructors
abbrev pub AreMakersFormed : List Tree → List Maker → Type 0
AreMakersFormed types [] = ⊤
AreMakersFormed types (o ∷ os) = AreFieldsFormed types o.fields.items × AreMakersFormed types os

-- and of data types
abbrev pub AreFamiliesFormed : List Tree → List Family → Type 0
AreFamiliesFormed types [] = ⊤
AreFamiliesFormed types (f ∷ fs) = AreMakersFormed types f.makers.items × AreFamiliesFormed types fs

-- globals have well-formed signatures, and such types stand in their equations
abbrev pub AreGlobalsFormed : List Tree → List GlobalEntry → Type 0
AreGlobalsFormed types [] = ⊤
AreGlobalsFormed types (g ∷ gs) =
    IsFormedAt types g.kinds.items g.signature ×
    AreStandingFormed types g.kinds.items (types_in g.body) × AreGlobalsFormed types gs

-- the numbers of the types that stand in globals
abbrev pub global_types : List GlobalEntry → List ℕ
global_types [] = []
global_types (g ∷ gs) = g.signature ∷ (map (λ p. p.0) (types_in g.body) ++ global_types gs)

-- the numbers of the types of constructors' fields
abbrev pub maker_types : List Maker → List ℕ
maker_types [] = []
maker_types (o ∷ os) = o.fields.items ++ maker_types os

-- the numbers of the types of data types' fields
abbrev pub family_types : List Family → List ℕ
family_types [] = []
family_types (f ∷ fs) = maker_types f.makers.items ++ family_types fs

-- each type of the module is well formed over the variables in scope where it stands, and over none where it stands nowhere
pub record AreTypesFormed (m : Module) : Type 0 where
  pub families : AreFamiliesFormed m.types.items m.families.items
  pub globals : AreGlobalsFormed m.types.items m.globals.items
  pub others : (k : ℕ) → k < length m.types.items →
      (Contains (global_types m.globals.items ++ family_types m.families.items) k → ⊥) →
      IsFormedAt m.types.items [] k

-- each field's type is printable
abbrev pub ArePrintable : List Tree → List ℕ → Type 0
ArePrintable types [] = ⊤
ArePrintable types (k ∷ ks) = ((t : Tree) × (slice_get types k ≡ Some t) × IsPrintable t) ×
    ArePrintable types ks

-- each constructor's fields are printable
abbrev pub HavePrintableFields : List Tree → List Maker → Type 0
HavePrintableFields types [] = ⊤
HavePrintableFields types (o ∷ os) = ArePrintable types o.fields.items ×
    HavePrintableFields types os

-- each data type's fields are printable
abbrev pub AreFamiliesPrintable : List Tree → List Family → Type 0
AreFamiliesPrintable types [] = ⊤
AreFamiliesPrintable types (f ∷ fs) = HavePrintableFields types f.makers.items ×
    AreFamiliesPrintable types fs

-- a global has no type variables and a printable type
abbrev pub IsMain : List Tree → GlobalEntry → Type 0
IsMain types g = (g.kinds.items ≡ []) ×
    ((t : Tree) × (slice_get types g.signature ≡ Some t) × IsPrintable t)

-- the global named main has no type variables and a printable type
abbrev pub HasMain : List Tree → List GlobalEntry → Type 0
HasMain types [] = ⊤
HasMain types (g ∷ gs) = (bytes_eq g.name (codes "main") ≡ true → IsMain types g) × HasMain types gs

-- a function at the place of its variable, where the wanted type is that of functions of its use and its type: it stands for a
-- parameter of an equation
pub record IsParameter (types : List Tree) (at : ℕ) (uses : Use) (k : ℕ) (x : Binder)
    (t : Tree) : Type 0 where
  pub from : Tree
  pub to : Tree
  pub place : at ≡ x.at
  pub type : t ≡ arrow uses from to
  pub written : slice_get types k ≡ Some from

-- at this type the term has no parameter of an equation in front
abbrev pub HasNoParameter : List Tree → CoreTree → Tree → Type 0
HasNoParameter types e t = (at k : ℕ) (uses : Use) (x : Binder) (b : CoreTree) →
    e ≡ lambda at uses k x b → IsParameter types at uses k x t → ⊥

-- the derivation of an equation at the type of its signature
pub data Equation (m : Surroundings) (S : Mode) : CoreTree → Tree → List Variable → Vars → Deriv →
    Type 0 where
  -- a parameter's function has just that type's arrow, and under it the equation goes on
  parameter : {at k : ℕ} {uses n : Use} {x : Binder} {e : CoreTree} {t : Tree} {g : List Variable}
      {u : Vars} {d : Deriv} →
      (p : IsParameter m.types at uses k x t) → HasUse m.vars p.from n → S.bound p.from →
      (uses ≡ Many → u ≡ no_vars) →
      Equation m S e p.to (record { type = p.from; uses = n } ∷ g) (under (is_once n) u) d →
      Equation m S (lambda at uses k x e) t g u (row t (one d))
  -- the term under all parameters is compared with the result
  result : {e : CoreTree} {t : Tree} {g : List Variable} {u : Vars} {d : Deriv} →
      HasNoParameter m.types e t → At m.vars t S.compared (Row m S e g) u d → Equation m S e t g u d

-- each equation has its derivation at its signature, with conversions of types that E relates over its variables
abbrev pub AreDerived : Module → (List Kind → Tree → Tree → Type 0) → List GlobalEntry →
    List Deriv → Type 0
AreDerived m E [] [] = ⊤
AreDerived m E [] (d ∷ ds) = ⊥
AreDerived m E (g ∷ gs) [] = ⊥
AreDerived m E (g ∷ gs) (d ∷ ds) =
    ((t : Tree) × (slice_get m.types.items g.signature ≡ Some t) ×
    At g.kinds.items t (Converted (E g.kinds.items))
    (Row (surroundings m g.kinds.items) (converting (E g.kinds.items)) g.body []) no_vars d) ×
    AreDerived m E gs ds

-- the same by plain derivations, over the variables of each equation as S says
abbrev pub ArePlainlyDerived : Module → (List Kind → Mode) → List GlobalEntry → List Deriv → Type 0
ArePlainlyDerived m S [] [] = ⊤
ArePlainlyDerived m S [] (d ∷ ds) = ⊥
ArePlainlyDerived m S (g ∷ gs) [] = ⊥
ArePlainlyDerived m S (g ∷ gs) (d ∷ ds) =
    ((t : Tree) × (slice_get m.types.items g.signature ≡ Some t) ×
    Equation (surroundings m g.kinds.items) (S g.kinds.items) g.body t [] no_vars d) ×
    ArePlainlyDerived m S gs ds

-- the module has these derivations: its types are well formed, fields and main's type are printable, and each equation has its
-- derivation
pub record HasDerivations (m : Module) (ds : List Deriv) : Type 0 where
  pub types : AreTypesFormed m
  pub fields : AreFamiliesPrintable m.types.items m.families.items
  pub main : HasMain m.types.items m.globals.items
  pub equations : AreDerived m IsConversion m.globals.items ds

-- the module has these plain derivations, each over the variables of its equation as S says: its types are well formed, fields
-- and main's type are printable, and each equation has its plain derivation
pub record HasPlainDerivations (m : Module) (S : List Kind → Mode) (ds : List Deriv) : Type 0 where
  pub types : AreTypesFormed m
  pub fields : AreFamiliesPrintable m.types.items m.families.items
  pub main : HasMain m.types.items m.globals.items
  pub equations : ArePlainlyDerived m S m.globals.items ds
