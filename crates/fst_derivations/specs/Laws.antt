-- What the laws of derivations say.
use Rattle.std.specs.Prelude.{◌≡◌, ◌↔◌, ℕ, List, [], ◌∷◌, length, Some, Contains, ⊤}
use Rattle.fst_types.specs.Tree.{Tree, plain, arrow, pair, named}
use Rattle.fst_types.specs.declared.base.Base.{Base}
use Rattle.fst_types.specs.declared.kind.Kind.{Kind}
use Rattle.fst_types.specs.declared.kind.Use.{Use}
use Rattle.fst_types.specs.declared.label.Label.{Label}
use Rattle.fst_types.specs.declared.label.Label.TheVariants.{Var}
use Rattle.fst_lts.specs.Step.{step}
use Rattle.fst_terms.specs.CoreTree.{CoreTree}
use Rattle.fst_context.specs.Scope.{Variable}
use Rattle.fst_context.specs.Vars.{Vars}
use Rattle.fst_derivations.specs.Deriv.{Deriv, type_of}
use Rattle.fst_derivations.specs.Parts.{IsFormed, HasUse, IsOffering, IsConversion, IsAnyConversion}
use Rattle.fst_derivations.specs.Rules.{Surroundings, Mode, Over, Bare, PlainRow, Derives}
use Rattle.fst_derivations.specs.Texts.{HasText, AllHaveText, VariablesHaveText}

-- a term has at most one plain type in a context, and has the same linear variables in all plain derivations
abbrev pub PlainTypesAreUnique : Type 0
PlainTypesAreUnique =
    (m : Surroundings) (e : CoreTree) (g : List Variable) (u v : Vars) (c d : Deriv) →
    PlainRow m (IsConversion m.vars) e g u c → PlainRow m (IsConversion m.vars) e g v d →
    (type_of c ≡ type_of d) × (u ≡ v)

-- where the types of a module and of the variables in scope have texts, so has the type of a plain derivation
abbrev pub PlainTypesHaveTexts : Type 0
PlainTypesHaveTexts =
    (m : Surroundings) → AllHaveText (length m.families) m.types →
    (e : CoreTree) (g : List Variable) → VariablesHaveText (length m.families) g →
    (u : Vars) (d : Deriv) → PlainRow m (IsConversion m.vars) e g u d →
    HasText (length m.families) (type_of d)

-- what stands for a row by A stands for it by B
abbrev pub Less : (A B : Deriv → Deriv → Type 0) → Type 0
Less A B = (d c : Deriv) → A d c → B d c

-- what is as S says is as T says
pub record Weaker (S T : Mode) : Type 0 where
  pub kept : Less S.kept T.kept
  pub compared : Less S.compared T.compared
  pub bound : (t : Tree) → S.bound t → T.bound t

-- a plain derivation is a derivation
abbrev pub PlainIsDerived : Type 0
PlainIsDerived =
    (m : Surroundings) (e : CoreTree) (g : List Variable) (u : Vars) (d : Deriv) →
    Over m.vars Bare (PlainRow m (IsConversion m.vars) e g) u d →
    Derives m (IsConversion m.vars) e g u d

-- what is a derivation with conversions of equal types is one with conversions of any
abbrev pub DerivedIsShaped : Type 0
DerivedIsShaped =
    (m : Surroundings) (e : CoreTree) (g : List Variable) (u : Vars) (d : Deriv) →
    Derives m (IsConversion m.vars) e g u d → Derives m (IsAnyConversion m.vars) e g u d

-- what the equality of types has to keep, over the variables of a signature
pub record IsTypeEquality (vars : List Kind) (E : Tree → Tree → Type 0) : Type 0 where
  pub itself : (t : Tree) → IsFormed vars t → E t t
  pub back : (s t : Tree) → E s t → E t s
  pub through : (s t r : Tree) → E s t → E t r → E s r
  pub formed : (s t : Tree) → E s t → IsFormed vars s
  pub uses : (s t : Tree) (n : Use) → E s t → HasUse vars t n → HasUse vars s n
  pub base_types : (t : Tree) (b : Base) → E t (plain b) → t ≡ plain b
  pub data_types : (t : Tree) (n : ℕ) → E t (named n) → t ≡ named n
  pub arrows : (t : Tree) (n : Use) (a b : Tree) → E t (arrow n a b) → (x : Tree) × (y : Tree) ×
      (t ≡ arrow n x y) × E x a × E y b
  pub pairs : (t a b : Tree) → E t (pair a b) → (x : Tree) × (y : Tree) ×
      (t ≡ pair x y) × E x a × E y b
  pub steps : (s t r : Tree) (a : Label) → ((k : ℕ) → a ≡ Var k → ⊥) → E s t → step t a ≡ Some r →
      (q : Tree) × (step s a ≡ Some q) × E q r
  pub offers : (s t : Tree) (ls : List (List ℕ)) → E s t → IsOffering t ls →
      (ks : List (List ℕ)) × IsOffering s ks × ((x : List ℕ) → Contains ks x ↔ Contains ls x)
  pub arrow_of : (n : Use) (a b x y : Tree) → E a x → E b y → E (arrow n a b) (arrow n x y)
  pub pair_of : (a b x y : Tree) → E a x → E b y → E (pair a b) (pair x y)

-- contexts of variables of equal types and the same uses
abbrev pub AllEqual : (E : Tree → Tree → Type 0) → List Variable → List Variable → Type 0
AllEqual E [] [] = ⊤
AllEqual E [] (w ∷ ws) = ⊥
AllEqual E (v ∷ vs) [] = ⊥
AllEqual E (v ∷ vs) (w ∷ ws) = E v.type w.type × (v.uses ≡ w.uses) × AllEqual E vs ws

-- the term has a plain derivation at an equal type
pub record HasPlain (m : Surroundings) (E : Tree → Tree → Type 0) (e : CoreTree) (g : List Variable)
    (u : Vars) (t : Tree) : Type 0 where
  pub derivation : Deriv
  pub rule : PlainRow m E e g u derivation
  pub equal : E (type_of derivation) t

-- where conversions are an equality of types, a term that has a derivation has a plain one, at an equal type and with the same
-- linear variables
abbrev pub DerivedIsPlain : Type 0
DerivedIsPlain =
    (m : Surroundings) → IsTypeEquality m.vars (IsConversion m.vars) →
    (e : CoreTree) (g : List Variable) (u : Vars) (d : Deriv) →
    AllEqual (IsConversion m.vars) g g → Derives m (IsConversion m.vars) e g u d →
    HasPlain m (IsConversion m.vars) e g u (type_of d)
