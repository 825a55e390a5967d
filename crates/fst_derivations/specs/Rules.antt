-- Which trees are derivations (after Almeida, Mordido, Thiemann, Vasconcelos, 2022; the linear variables are split as sets).
use Rattle.std.specs.Prelude.{◌≡◌, ℕ, List, [], ◌∷◌, map, Some, slice_get, length, ⊤}
use Rattle.std.specs.List.{AllByRecursion}
use Rattle.fst_types.specs.Tree as type
use Rattle.fst_types.specs.Tree.{Tree, plain, arrow, named}
use Rattle.fst_types.specs.Instance.{instantiated}
use Rattle.fst_types.specs.declared.base.Base.{Base}
use Rattle.fst_types.specs.declared.base.Base.TheVariants.{Int, Bool as Truth, Char, Unit as Nothing}
use Rattle.fst_types.specs.declared.family.Family.{Family}
use Rattle.fst_types.specs.declared.family.Maker.{Maker}
use Rattle.fst_types.specs.declared.kind.Kind.{Kind}
use Rattle.fst_types.specs.declared.kind.Use.{Use}
use Rattle.fst_types.specs.declared.kind.Use.TheVariants.{Many}
use Rattle.fst_types.specs.declared.label.Label.TheVariants.{Send, Receive, Select, Offer, Close, Wait}
use Rattle.fst_kinds.specs.WellFormed.{IsSession, IsInstantiation}
use Rattle.fst_lts.specs.Step.{step}
use Rattle.fst_lts.specs.Dual.{dual}
use Rattle.fst_terms.specs.CoreTree.{CoreTree, local, global, int, bool, char, unit, pair, make, lambda, apply, let_in, split, if_else, case_of, operate, negate, new, send, receive, close, wait, select, match_with, fork, seq, CoreList, no_terms, term, CoreArms, no_arms, arm}
use Rattle.fst_terms.specs.InRange.{maker_of, maker_named}
use Rattle.fst_terms.specs.declared.global.GlobalEntry.{GlobalEntry}
use Rattle.fst_terms.specs.declared.term.Op.{Op}
use Rattle.fst_terms.specs.declared.term.Op.TheVariants.{Add, Subtract, Multiply, Equal, Unequal, Less, AtMost, Greater, AtLeast, And, Or}
use Rattle.fst_arms.specs.Arms.{arm_labels, AreEachOnce}
use Rattle.fst_context.specs.Scope.{Variable, is_once}
use Rattle.fst_context.specs.Vars.{Vars, no_vars, under, single, Both}
use Rattle.fst_derivations.specs.Deriv.{Deriv, row, convert, type_of, Derivs, none, part, one, two, three}
use Rattle.fst_derivations.specs.Parts.{IsFormed, HasUse, AreAt, AreVariables, enter_all, under_all, IsOffering, IsComparable}

-- what the terms of an equation speak of: the data types, globals and types of its module, and the kinds of the variables of
-- its signature
pub record Surroundings : Type 0 where
  pub families : List Family
  pub globals : List GlobalEntry
  pub types : List Tree
  pub vars : List Kind

-- d stands for the same term as the row c, with conversions on top
pub data Converted (E : Tree → Tree → Type 0) : Deriv → Deriv → Type 0 where
  itself : {d c : Deriv} → d ≡ c → Converted E d c
  turned : {s t : Tree} {d c : Deriv} → E s t → type_of d ≡ s → Converted E d c →
      Converted E (convert s t d) c

-- the same with no conversion
abbrev pub Bare : Deriv → Deriv → Type 0
Bare d c = d ≡ c

-- the same with the one conversion of a comparison, which turns the type found into another
abbrev pub Compared : (E : Tree → Tree → Type 0) → Deriv → Deriv → Type 0
Compared E d c = (t : Tree) × E (type_of c) t × (d ≡ convert (type_of c) t c)

-- how derivations of parts stand for their rows, where a part's type is kept and where it is compared with another; and what is
-- asked of the types that variables are bound at
pub record Mode : Type 1 where
  pub kept : Deriv → Deriv → Type 0
  pub compared : Deriv → Deriv → Type 0
  pub bound : Tree → Type 0

-- conversions of types that E relates may stand at each term
abbrev pub converting : (E : Tree → Tree → Type 0) → Mode
converting E = record { kept = Converted E; compared = Converted E; bound = λ t. ⊤ }

-- they stand just where types are compared
abbrev pub comparing : (E : Tree → Tree → Type 0) → Mode
comparing E = record { kept = Bare; compared = Compared E; bound = λ t. ⊤ }

-- the same, where each type of a term and of a variable that is bound has L
abbrev pub within : (L : Tree → Type 0) (E : Tree → Tree → Type 0) → Mode
within L E = record {
  kept = λ d c. Bare d c × L (type_of c);
  compared =
      λ d c. Compared E d c × L (type_of c);
  bound = L;
}

-- a derivation of a part: a row by the part's rule with a well-formed type, below conversions
pub record Over (vars : List Kind) (R : Deriv → Deriv → Type 0) (P : Vars → Deriv → Type 0)
    (u : Vars) (d : Deriv) : Type 0 where
  pub core : Deriv
  pub stands : R d core
  pub rule : P u core
  pub formed : IsFormed vars (type_of core)

-- a derivation of a part at the type that is wanted of it
pub record At (vars : List Kind) (t : Tree) (R : Deriv → Deriv → Type 0) (P : Vars → Deriv → Type 0)
    (u : Vars) (d : Deriv) : Type 0 where
  pub core : Deriv
  pub stands : R d core
  pub rule : P u core
  pub formed : IsFormed vars (type_of core)
  pub wanted : type_of d ≡ t

-- the types of the operands of a sign, and of its result
abbrev pub Operates : Op → Tree → Tree → Type 0
Operates Add s t = (s ≡ plain Int) × (t ≡ plain Int)
Operates Subtract s t = (s ≡ plain Int) × (t ≡ plain Int)
Operates Multiply s t = (s ≡ plain Int) × (t ≡ plain Int)
Operates Equal s t = IsComparable s × (t ≡ plain Truth)
Operates Unequal s t = IsComparable s × (t ≡ plain Truth)
Operates Less s t = IsComparable s × (t ≡ plain Truth)
Operates AtMost s t = IsComparable s × (t ≡ plain Truth)
Operates Greater s t = IsComparable s × (t ≡ plain Truth)
Operates AtLeast s t = IsComparable s × (t ≡ plain Truth)
Operates And s t = (s ≡ plain Truth) × (t ≡ plain Truth)
Operates Or s t = (s ≡ plain Truth) × (t ≡ plain Truth)

-- what the variables of arms hold: the fields of these constructors, or what is left of a type after the arm's label
pub data Binding : Type 0 where
  fields : List Maker → Binding
  rest : Tree → Binding

-- the types of the variables that the arm of a constructor or of a label binds
abbrev pub Binds : Surroundings → Binding → List ℕ → List Tree → Type 0
Binds m (fields makers) l ts = (c : Maker) ×
    (maker_named l makers ≡ Some c) × AreAt m.types c.fields.items ts
Binds m (rest s) l ts = (t : Tree) × (step s (Offer l) ≡ Some t) × (ts ≡ t ∷ [])

abbrev mutual
  -- the row c follows the rule of the term, with variables of these types in scope, of which it has the linear ones in u;
  -- and its parts and what it binds are as S says
  pub Row : Surroundings → Mode → CoreTree → List Variable → Vars → Deriv → Type 0
  Row m S (local at k) g u c = (v : Variable) × (slice_get g k ≡ Some v) ×
      (u ≡ single (is_once v.uses) k) × (c ≡ row v.type none)
  Row m S (global at k ks) g u c =
      (f : GlobalEntry) × (t : Tree) × (args : List Tree) ×
      (slice_get m.globals k ≡ Some f) ×
      (slice_get m.types f.signature ≡ Some t) × AreAt m.types ks args ×
      IsInstantiation m.vars f.kinds.items args ×
      (u ≡ no_vars) × (c ≡ row (instantiated args t) none)
  Row m S (int at n) g u c = (u ≡ no_vars) × (c ≡ row (plain Int) none)
  Row m S (bool at b) g u c = (u ≡ no_vars) × (c ≡ row (plain Truth) none)
  Row m S (char at n) g u c = (u ≡ no_vars) × (c ≡ row (plain Char) none)
  Row m S (unit at) g u c = (u ≡ no_vars) × (c ≡ row (plain Nothing) none)
  Row m S (pair at e f) g u c =
      (d : Deriv) × (h : Deriv) ×
      Both (λ v. Over m.vars S.kept (Row m S e g) v d)
      (λ w. Over m.vars S.kept (Row m S f g) w h) u ×
      (c ≡ row (type.pair (type_of d) (type_of h)) (two d h))
  Row m S (make at n k es) g u c =
      (o : Maker) × (ts : List Tree) × (ds : Derivs) ×
      (maker_of (slice_get m.families n) k ≡ Some o) × AreAt m.types o.fields.items ts ×
      Fields m S es ts g u ds ×
      (c ≡ row (named n) ds)
  Row m S (lambda at uses k x e) g u c =
      (t : Tree) × (n : Use) × (d : Deriv) ×
      (slice_get m.types k ≡ Some t) × HasUse m.vars t n × S.bound t × (uses ≡ Many → u ≡ no_vars) ×
      Over m.vars S.kept (Row m S e (record { type = t; uses = n } ∷ g)) (under (is_once n) u) d ×
      (c ≡ row (arrow uses t (type_of d)) (one d))
  Row m S (apply at e f) g u c =
      (d : Deriv) × (h : Deriv) × (uses : Use) × (s : Tree) × (t : Tree) ×
      Both (λ v. Over m.vars S.kept (Row m S e g) v d)
      (λ w. At m.vars s S.compared (Row m S f g) w h) u ×
      (type_of d ≡ arrow uses s t) × (c ≡ row t (two d h))
  Row m S (let_in at x e f) g u c =
      (d : Deriv) × (h : Deriv) × (n : Use) ×
      Both (λ v. Over m.vars S.kept (Row m S e g) v d)
      (λ w. Over m.vars S.kept (Row m S f (record { type = type_of d; uses = n } ∷ g))
      (under (is_once n) w) h) u ×
      HasUse m.vars (type_of d) n × (c ≡ row (type_of h) (two d h))
  Row m S (split at x y e f) g u c =
      (d : Deriv) × (h : Deriv) × (s : Tree) × (t : Tree) × (n : Use) × (o : Use) ×
      Both (λ v. Over m.vars S.kept (Row m S e g) v d)
      (λ w. Over m.vars S.kept (Row m S f
      (record { type = t; uses = o } ∷ record { type = s; uses = n } ∷ g))
      (under (is_once o) (under (is_once n) w)) h) u ×
      (type_of d ≡ type.pair s t) × HasUse m.vars s n × HasUse m.vars t o ×
      (c ≡ row (type_of h) (two d h))
  Row m S (if_else at e f h) g u c =
      (d : Deriv) × (k : Deriv) × (l : Deriv) ×
      Both (λ v. At m.vars (plain Truth) S.compared (Row m S e g) v d)
      (λ w. Over m.vars S.kept (Row m S f g) w k ×
      At m.vars (type_of k) S.compared (Row m S h g) w l) u ×
      (c ≡ row (type_of k) (three d k l))
  Row m S (case_of at e bs) g u c =
      (d : Deriv) × (n : ℕ) × (f : Family) × (t : Tree) × (ds : Derivs) ×
      Both (λ v. Over m.vars S.kept (Row m S e g) v d)
      (λ w. Arms m S (fields f.makers.items) bs g w t ds) u ×
      (type_of d ≡ named n) × (slice_get m.families n ≡ Some f) ×
      AreEachOnce (map (λ o. o.name) f.makers.items) (arm_labels bs) ×
      (c ≡ row t (part d ds))
  Row m S (operate at o e f) g u c =
      (d : Deriv) × (h : Deriv) × (s : Tree) × (t : Tree) × Operates o s t ×
      Both (λ v. At m.vars s S.compared (Row m S e g) v d)
      (λ w. At m.vars s S.compared (Row m S f g) w h) u ×
      (c ≡ row t (two d h))
  Row m S (negate at e) g u c = (d : Deriv) × At m.vars (plain Truth) S.compared (Row m S e g) u d ×
      (c ≡ row (plain Truth) (one d))
  Row m S (new at k) g u c = (s : Tree) × (slice_get m.types k ≡ Some s) × IsSession [] s ×
      (u ≡ no_vars) × (c ≡ row (type.pair s (dual s)) none)
  Row m S (send at e f) g u c =
      (d : Deriv) × (h : Deriv) × (b : Base) × (t : Tree) ×
      Both (λ v. Over m.vars S.kept (Row m S e g) v d)
      (λ w. Over m.vars S.kept (Row m S f g) w h) u ×
      (type_of d ≡ plain b) × (step (type_of h) (Send b) ≡ Some t) × (c ≡ row t (two d h))
  Row m S (receive at e) g u c =
      (d : Deriv) × (b : Base) × (t : Tree) ×
      Over m.vars S.kept (Row m S e g) u d × (step (type_of d) (Receive b) ≡ Some t) ×
      (c ≡ row (type.pair (plain b) t) (one d))
  Row m S (close at e) g u c = (d : Deriv) × (t : Tree) × Over m.vars S.kept (Row m S e g) u d ×
      (step (type_of d) Close ≡ Some t) × (c ≡ row (plain Nothing) (one d))
  Row m S (wait at e) g u c = (d : Deriv) × (t : Tree) × Over m.vars S.kept (Row m S e g) u d ×
      (step (type_of d) Wait ≡ Some t) × (c ≡ row (plain Nothing) (one d))
  Row m S (select at l e) g u c =
      (d : Deriv) × (t : Tree) × Over m.vars S.kept (Row m S e g) u d ×
      (step (type_of d) (Select l) ≡ Some t) × (c ≡ row t (one d))
  Row m S (match_with at e bs) g u c =
      (d : Deriv) × (names : List (List ℕ)) × (t : Tree) × (ds : Derivs) ×
      Both (λ v. Over m.vars S.kept (Row m S e g) v d)
      (λ w. Arms m S (rest (type_of d)) bs g w t ds) u ×
      IsOffering (type_of d) names × AreEachOnce names (arm_labels bs) × (c ≡ row t (part d ds))
  Row m S (fork at e) g u c = (d : Deriv) × Over m.vars S.kept (Row m S e g) u d ×
      HasUse m.vars (type_of d) Many × (c ≡ row (plain Nothing) (one d))
  Row m S (seq at e f) g u c =
      (d : Deriv) × (h : Deriv) ×
      Both (λ v. Over m.vars S.kept (Row m S e g) v d)
      (λ w. Over m.vars S.kept (Row m S f g) w h) u ×
      HasUse m.vars (type_of d) Many × (c ≡ row (type_of h) (two d h))

  -- derivations of a constructor's arguments, each at its field's type
  pub Fields : Surroundings → Mode → CoreList → List Tree → List Variable → Vars → Derivs → Type 0
  Fields m S no_terms [] g u ds = (u ≡ no_vars) × (ds ≡ none)
  Fields m S no_terms (t ∷ ts) g u ds = ⊥
  Fields m S (term e es) [] g u ds = ⊥
  Fields m S (term e es) (t ∷ ts) g u ds =
      (d : Deriv) × (more : Derivs) ×
      Both (λ v. At m.vars t S.compared (Row m S e g) v d) (λ w. Fields m S es ts g w more) u ×
      (ds ≡ part d more)

  -- derivations of arms, whose variables hold what B says, all with the same linear variables
  -- from outside: the first arm gives its type
  pub Arms : Surroundings → Mode → Binding → CoreArms → List Variable → Vars → Tree → Derivs →
      Type 0
  Arms m S B no_arms g u t ds = ⊥
  Arms m S B (arm l xs e bs) g u t ds =
      (ts : List Tree) × (vs : List Variable) × (d : Deriv) × (more : Derivs) ×
      Binds m B l ts × AreVariables m.vars ts vs × AllByRecursion S.bound ts ×
      (length xs ≡ length vs) × Over m.vars S.kept (Row m S e (enter_all vs g))
      (under_all vs u) d × (type_of d ≡ t) ×
      FurtherArms m S B bs g u t more × (ds ≡ part d more)

  -- and the type of each further one is compared with it
  pub FurtherArms : Surroundings → Mode → Binding → CoreArms → List Variable → Vars → Tree →
      Derivs → Type 0
  FurtherArms m S B no_arms g u t ds = ds ≡ none
  FurtherArms m S B (arm l xs e bs) g u t ds =
      (ts : List Tree) × (vs : List Variable) × (d : Deriv) × (more : Derivs) ×
      Binds m B l ts × AreVariables m.vars ts vs × AllByRecursion S.bound ts ×
      (length xs ≡ length vs) × At m.vars t S.compared (Row m S e (enter_all vs g))
      (under_all vs u) d ×
      FurtherArms m S B bs g u t more × (ds ≡ part d more)

-- a derivation of the term: conversions of types that E relates may stand at each term
abbrev pub Derives : Surroundings →
    (E : Tree → Tree → Type 0) → CoreTree → List Variable → Vars → Deriv → Type 0
Derives m E e g u d = Over m.vars (Converted E) (Row m (converting E) e g) u d

-- a row of a plain derivation: conversions stand just where types are compared
abbrev pub PlainRow : Surroundings →
    (E : Tree → Tree → Type 0) → CoreTree → List Variable → Vars → Deriv → Type 0
PlainRow m E e g u d = Row m (comparing E) e g u d
