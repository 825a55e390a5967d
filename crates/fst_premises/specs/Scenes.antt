-- What a term is checked with: the module and the types that are well formed there.
use Rattle.std.specs.Prelude.{◌≡◌, ◌≤◌, List, [], ◌∷◌, ℕ, ⊤, Some, map, slice_get, length}
use Rattle.fst_types.specs.Tree.{Tree, named}
use Rattle.fst_types.specs.declared.family.Family.{Family}
use Rattle.fst_types.specs.declared.kind.Kind.{Kind}
use Rattle.fst_terms.specs.CoreTree.{CoreTree}
use Rattle.fst_terms.specs.InRange.{Bounds, IsInRange}
use Rattle.fst_terms.specs.declared.global.GlobalEntry.{GlobalEntry}
use Rattle.fst_terms.specs.ModelCoreView.{core_arms_of}
use Rattle.fst_terms.specs.declared.core_term.Arm.{Arm}
use Rattle.fst_arms.specs.Arms.{arm_labels, AreEachOnce, AreMakerNumbers}
use Rattle.fst_context.specs.Scope.{Variable}
use Rattle.fst_derivations.specs.Parts.{HasUse, IsFormed}
use Rattle.fst_derivations.specs.Modules.{surroundings, types_in, IsFormedAt, AreStandingFormed, AreMakersFormed}
use Rattle.fst_premises.specs.Checks.{Check, IsInSize}
use Rattle.fst_premises.specs.declared.choices.Constructors.{Constructors}
use Rattle.fst_premises.specs.declared.scene.Scene.{Scene}

-- what is checked with in an equation of a module
abbrev pub check_in : Scene → Check
check_in s = record {
  surroundings = surroundings s.module.now s.vars.now;
  places =
      s.module.now.places.items;
  budget = s.budget;
}

-- a question has a budget, and the types of signatures and of fields are well formed
pub record IsSetUp (c : Check) : Type 0 where
  pub budget : 1 ≤ c.budget
  pub signatures : (k : ℕ) (g : GlobalEntry) → slice_get c.surroundings.globals k ≡ Some g →
      IsFormedAt c.surroundings.types g.kinds.items g.signature
  pub fields : (n : ℕ) (f : Family) → slice_get c.surroundings.families n ≡ Some f →
      AreMakersFormed c.surroundings.types f.makers.items

-- what the numbers in a term stand for
abbrev pub bounds : Check → Bounds
bounds c = record {
  families = c.surroundings.families;
  globals = length c.surroundings.globals;
  types = length c.surroundings.types;
}

-- variables of well-formed types within their size, each with its use
abbrev pub AreHeld : List Kind → List Variable → Type 0
AreHeld vars [] = ⊤
AreHeld vars (v ∷ vs) = HasUse vars v.type v.uses × IsInSize v.type × AreHeld vars vs

-- the term's numbers stand for something, its types are well formed, and so are those of the variables in scope
pub record IsReady (c : Check) (e : CoreTree) (g : List Variable) : Type 0 where
  pub range : IsInRange (bounds c) (length g) e
  pub formed : AreStandingFormed c.surroundings.types c.surroundings.vars (types_in e)
  pub held : AreHeld c.surroundings.vars g

-- the type is a data type whose constructors are these arms, each once, by their numbers
pub record IsCase (families : List Family) (t : Tree) (arms : List Arm)
    (o : Constructors) : Type 0 where
  pub number : ℕ
  pub family : Family
  pub type : t ≡ named number
  pub there : slice_get families number ≡ Some family
  pub makers : o.makers.now ≡ family.makers.items
  pub each_once : AreEachOnce (map (λ x. x.name) family.makers.items)
      (arm_labels (core_arms_of arms))
  pub numbers : AreMakerNumbers family.makers.items arms o.numbers.items

-- types that are well formed
abbrev pub AreFormed : List Kind → List Tree → Type 0
AreFormed vars [] = ⊤
AreFormed vars (t ∷ ts) = IsFormed vars t × AreFormed vars ts
