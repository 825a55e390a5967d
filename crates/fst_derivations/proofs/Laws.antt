-- What other crates cite of derivations.
use Rattle.std.proofs.Common.{◌≡◌, ℕ, List, Some, Vec, Global, length, slice_get}
use Rattle.fst_types.specs.Tree.{Tree, arrow, pair, plain}
use Rattle.fst_types.specs.declared.base.Base.{Base}
use Rattle.fst_types.specs.declared.kind.Kind.{Kind}
use Rattle.fst_types.specs.declared.kind.Use.{Use}
use Rattle.fst_types.specs.declared.label.Label.TheVariants.{Receive}
use Rattle.fst_terms.specs.declared.binder.Binder.{Binder}
use Rattle.fst_terms.specs.CoreTree.{CoreTree}
use Rattle.fst_terms.specs.declared.core_module.Module.{Module}
use Rattle.fst_terms.specs.declared.global.GlobalEntry.{GlobalEntry}
use Rattle.fst_context.specs.Scope.{Variable}
use Rattle.fst_context.specs.Vars.{Vars}
use Rattle.fst_lts.specs.Step.{step}
use Rattle.fst_derivations.specs.Deriv.{Deriv, type_of, row, deriv_of, parts_of}
use Rattle.fst_derivations.specs.Parts.{AreAt, AreVariables, HasUse, IsConversion, under_all}
use Rattle.fst_derivations.specs.Rules.{Surroundings, Mode, comparing, converting, within, At, Binding, Binds, PlainRow}
use Rattle.fst_derivations.specs.Rules as rules
use Rattle.fst_derivations.specs.Laws.{Weaker}
use Rattle.fst_derivations.specs.Modules.{AreDerived, AreGlobalsFormed, ArePlainlyDerived, IsParameter}
use Rattle.fst_derivations.specs.Texts.{HasText, AllHaveText, VariablesHaveText, BindingHasText}
use Rattle.fst_derivations.specs.declared.derivation.Derivation.{Derivation}
use Rattle.fst_derivations.specs.declared.derivation.Derivation.TheViews.{Row}
use Rattle.fst_derivations.proofs.Rows as rows
use Rattle.fst_derivations.proofs.ModuleLaws as modules
use Rattle.fst_derivations.proofs.TextLaws as texts
use Rattle.fst_derivations.proofs.TextParts as parts
use Rattle.fst_derivations.proofs.Parts as determined
use Rattle.fst_derivations.proofs.Weaker as weakening

-- the plain form of a row has the parts of the vector that it was made of
pub is_row : (t : Tree) (v : Vec Derivation Global) → deriv_of (Row t v) ≡ row t (parts_of v.items)
is_row = rows.is_row

-- the plain derivations of equations are derivations, where types that are compared are equal
pub globals_derived : (m : Module) (S : List Kind → Mode) →
    ((vars : List Kind) → Weaker (S vars) (converting (IsConversion vars))) →
    (gs : List GlobalEntry) (ds : List Deriv) → AreGlobalsFormed m.types.items gs → ArePlainlyDerived m S gs ds →
    AreDerived m IsConversion gs ds
globals_derived = modules.globals_derived

-- where the types of a module and of the variables in scope have texts, so has the type of a row of a plain derivation
pub row_text : (m : Surroundings) (E : Tree → Tree → Type 0) → AllHaveText (length m.families) m.types →
    (e : CoreTree) (g : List Variable) → VariablesHaveText (length m.families) g →
    (u : Vars) (d : Deriv) → PlainRow m E e g u d → HasText (length m.families) (type_of d)
row_text = texts.text

-- each type with a number has a text where all have
pub text_at : (n : ℕ) (types : List Tree) (k : ℕ) (t : Tree) → AllHaveText n types → slice_get types k ≡ Some t → HasText n t
text_at n types k t = parts.all_at (HasText n) types k t

-- so have the types with some numbers
pub texts_at : (n : ℕ) (types : List Tree) (ks : List ℕ) (ts : List Tree) → AllHaveText n types → AreAt types ks ts →
    AllHaveText n ts
texts_at = parts.at_texts

-- and those of what arms bind
pub bound_texts : (m : Surroundings) (n : ℕ) (B : Binding) (l : List ℕ) (ts : List Tree) → AllHaveText n m.types →
    BindingHasText n B → Binds m B l ts → AllHaveText n ts
bound_texts = parts.bound_texts

-- variables of types with texts
pub variables_text : (n : ℕ) (vars : List Kind) (ts : List Tree) (vs : List Variable) → AllHaveText n ts →
    AreVariables vars ts vs → VariablesHaveText n vs
variables_text = parts.variables_text

-- the parts of an arrow with a text have texts
pub arrow_texts : (n : ℕ) (u : Use) (s r : Tree) → HasText n (arrow u s r) → HasText n s × HasText n r
arrow_texts = parts.arrow_texts

-- so have those of a pair
pub pair_texts : (n : ℕ) (s r : Tree) → HasText n (pair s r) → HasText n s × HasText n r
pair_texts = parts.pair_texts

-- a base type has a text
pub plain_text : (n : ℕ) (b : Base) → HasText n (plain b)
plain_text = parts.plain_text

-- ---- what the rules ask is determined

-- a type has one use
pub one_use : (vars : List Kind) (t t' : Tree) (n n' : Use) → t ≡ t' → HasUse vars t n → HasUse vars t' n' → n ≡ n'
one_use = determined.one_use

-- the types of an equation's parameter are determined
pub one_parameter : {types : List Tree} {at k : ℕ} {uses : Use} {x : Binder} {t : Tree} (p q : IsParameter types at uses k x t) →
    (q.from ≡ p.from) × (q.to ≡ p.to)
one_parameter = determined.one_parameter

-- so are those with some numbers
pub same_at : (types : List Tree) (ks : List ℕ) (ts ts' : List Tree) → AreAt types ks ts → AreAt types ks ts' → ts ≡ ts'
same_at = determined.same_at

-- variables of the same types are the same
pub same_variables : (vars : List Kind) (ts ts' : List Tree) (vs vs' : List Variable) → ts ≡ ts' → AreVariables vars ts vs →
    AreVariables vars ts' vs' → vs ≡ vs'
same_variables = determined.same_variables

-- sets that are the same inside binders are the same outside
pub outside_all : (vs : List Variable) (u v : Vars) → under_all vs u ≡ under_all vs v → u ≡ v
outside_all = determined.outside_all

-- what an arm binds is determined
pub one_bound : (m : Surroundings) (b b' : Binding) → b ≡ b' →
    (l : List ℕ) (ts ts' : List Tree) → Binds m b l ts → Binds m b' l ts' → ts ≡ ts'
one_bound = determined.one_bound

-- a type receives values of one base type at most
pub one_step : (s s' : Tree) (b b' : Base) (t t' : Tree) → s ≡ s' → step s (Receive b) ≡ Some t → step s' (Receive b') ≡ Some t' →
    b ≡ b'
one_step = determined.one_step

-- ---- what is derived where more is asked is derived where less is

pub weaker : (m : Surroundings) (S T : Mode) → Weaker S T →
    (e : CoreTree) (g : List Variable) (u : Vars) (c : Deriv) → rules.Row m S e g u c → rules.Row m T e g u c
weaker = weakening.weaker

-- also where a type is wanted
pub weaker_at : (m : Surroundings) (S T : Mode) → Weaker S T →
    (e : CoreTree) (t : Tree) (g : List Variable) (u : Vars) (d : Deriv) → At m.vars t S.compared (rules.Row m S e g) u d →
    At m.vars t T.compared (rules.Row m T e g) u d
weaker_at = weakening.weaker_at

-- a plain derivation within limits is one without them
pub within_compares : (L : Tree → Type 0) (E F : Tree → Tree → Type 0) →
    ((s t : Tree) → E s t → F s t) → Weaker (within L E) (comparing F)
within_compares = weakening.within_compares

-- and a derivation
pub within_converts : (L : Tree → Type 0) (E F : Tree → Tree → Type 0) →
    ((s t : Tree) → E s t → F s t) → Weaker (within L E) (converting F)
within_converts = weakening.within_converts

-- so it is with more types and comparisons
pub within_more : (K L : Tree → Type 0) (E F : Tree → Tree → Type 0) → ((t : Tree) → K t → L t) →
    ((s t : Tree) → E s t → F s t) → Weaker (within K E) (within L F)
within_more = weakening.within_more
