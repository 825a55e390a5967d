-- The walk over a term and a derivation: the scope after the linear variables of the derivation were taken, or none where the
-- tree isn't one.
use Rattle.std.specs.Prelude.{zero, suc, ◌≡◌, ℕ, Bool, true, false, ◌&&◌, List, [], ◌∷◌, map, length, Option, Some, None, slice_get, if◌then◌else◌}
use Rattle.fst_types.specs.Tree.{Tree, plain, named}
use Rattle.fst_types.specs.declared.base.Base.TheVariants.{Int, Bool as Truth, Char, Unit as Nothing}
use Rattle.fst_types.specs.declared.kind.Kind.{Kind}
use Rattle.fst_types.specs.declared.kind.Use.{Use}
use Rattle.fst_types.specs.declared.kind.Use.TheVariants.{Many, Once}
use Rattle.fst_types.specs.declared.label.Label.TheVariants.{Offer}
use Rattle.fst_lts.specs.Step.{step, labels}
use Rattle.fst_terms.specs.CoreTree.{CoreTree, local, global, int, bool, char, unit, pair, make, lambda, apply, let_in, split, if_else, case_of, operate, negate, new, send, receive, close, wait, select, match_with, fork, seq, CoreList, no_terms, term, CoreArms, no_arms, arm}
use Rattle.fst_terms.specs.InRange.{maker_of, maker_named}
use Rattle.fst_types.specs.declared.family.Family.{Family}
use Rattle.fst_types.specs.declared.family.Maker.{Maker}
use Rattle.fst_arms.specs.Arms.{arm_labels}
use Rattle.fst_terms.specs.declared.binder.Binder.{Binder}
use Rattle.fst_context.specs.Scope.{Scope, Variable, at_or_not, entered, left, begun, ended}
use Rattle.fst_context.specs.View.{taken_at, after_take}
use Rattle.fst_context.specs.declared.context.Taken.{Taken}
use Rattle.fst_context.specs.declared.context.Taken.TheVariants.{Here, Gone, Outside}
use Rattle.fst_derivations.specs.Deriv.{Deriv, row, convert, type_of, Derivs, none, part}
use Rattle.fst_derivations.specs.Rules.{Surroundings, Binding, fields, rest}
use Rattle.fst_fits.specs.ArmTests.{each_once, offers}
use Rattle.fst_fits.specs.Fits.{if_fits, pair_fits, apply_fits, operate_fits, send_fits, seq_fits, negate_fits, receive_fits, close_fits, wait_fits, select_fits, fork_fits}
use Rattle.fst_fits.specs.Tests.{types_at, same_tree, kind_in, has_some, use_in, is_type, is_arrow, pair_parts, arrow_of, family_number, is_channel, is_global_type}

-- from a scope to the one after some variables were taken, or to none
abbrev pub Walk : Type 0
Walk = Scope → Option Scope

-- the walk that comes to no scope
abbrev pub nowhere : Walk
nowhere s = None

-- goes on with what there is
abbrev pub next : {A B : Type 0} → Option A → (A → Option B) → Option B
next None f = None
next (Some x) f = f x

-- goes on where the test is true
abbrev pub only : Bool → Walk → Walk
only b F s = if b then F s else None

-- goes on with what there is
abbrev pub given : {A : Type 0} → Option A → (A → Walk) → Walk
given o F s = next o (λ x. F x s)

-- one walk after the other
abbrev pub after : Walk → Walk → Walk
after F G s = next (F s) G

-- without the innermost variable, which was taken or may be used often
abbrev pub closed : Walk
closed s = if at_or_not s.there 0 then None else Some (left s)

-- with one more variable
abbrev pub inside : List ℕ → Variable → Walk → Walk
inside x v F s = next (F (entered x v s)) closed

-- in the body of a function of this use
abbrev pub in_body : Use → Walk → Walk
in_body Many F s = next (F (begun s)) (λ r. Some (ended r))
in_body Once F s = F s

-- whether two lists of marks are the same
abbrev pub same_marks : List Bool → List Bool → Bool
same_marks [] [] = true
same_marks [] (c ∷ cs) = false
same_marks (b ∷ bs) [] = false
same_marks (true ∷ bs) (true ∷ cs) = same_marks bs cs
same_marks (true ∷ bs) (false ∷ cs) = false
same_marks (false ∷ bs) (true ∷ cs) = false
same_marks (false ∷ bs) (false ∷ cs) = same_marks bs cs

-- the scope, where the marks are those of another one
abbrev pub agreed : List Bool → Walk
agreed bs s = if same_marks s.there bs then Some s else None

-- two walks from the same scope by which the same variables are taken
abbrev pub branches : Walk → Walk → Walk
branches F G s = next (F s) (λ r. next (G s) (agreed r.there))

-- no parts
abbrev pub has_none : Derivs → Bool
has_none none = true
has_none (part d ds) = false

-- the one part
abbrev pub parts_1 : Derivs → Option Deriv
parts_1 none = None
parts_1 (part d none) = Some d
parts_1 (part d (part h ds)) = None

-- the two parts
abbrev pub parts_2 : Derivs → Option (Deriv × Deriv)
parts_2 none = None
parts_2 (part d none) = None
parts_2 (part d (part h none)) = Some (d, h)
parts_2 (part d (part h (part k ds))) = None

-- the three parts
abbrev pub parts_3 : Derivs → Option (Deriv × Deriv × Deriv)
parts_3 none = None
parts_3 (part d none) = None
parts_3 (part d (part h none)) = None
parts_3 (part d (part h (part k none))) = Some (d, h, k)
parts_3 (part d (part h (part k (part l ds)))) = None

-- the first part and the others
abbrev pub parts_more : Derivs → Option (Deriv × Derivs)
parts_more none = None
parts_more (part d ds) = Some (d, ds)

-- the row below conversions of well-formed types, if its own type is well formed
abbrev pub peeled : List Kind → Deriv → Option (Tree × Derivs)
peeled vars (row t ds) = if has_some (kind_in vars t) then Some (t, ds) else None
peeled vars (convert s t d) = if has_some
    (kind_in vars s) && (has_some (kind_in vars t) && same_tree (type_of d) s) then peeled vars
    d else None

-- what a variable comes to
abbrev pub taken_as : Taken → ℕ → Walk
taken_as Here k s = Some (after_take Here k s)
taken_as Gone k s = None
taken_as Outside k s = None

-- takes a variable
abbrev pub taking : ℕ → Walk
taking k s = taken_as (taken_at s k) k s

-- takes a variable of this type
abbrev pub local_row : ℕ → Tree → Derivs → Walk
local_row k t ds s = only (has_none ds)
    (given (slice_get s.variables k) (λ v. only (same_tree t v.type) (taking k))) s

-- a row without parts
abbrev pub leaf_row : Bool → Derivs → Walk
leaf_row fits ds = only (has_none ds && fits) Some

-- a row with one part, whose type fits
abbrev pub row_1 : (Tree → Bool) → Derivs → (Deriv → Walk) → Walk
row_1 fits ds A = given (parts_1 ds) (λ d. only (fits (type_of d)) (A d))

-- a row with two parts, whose types fit
abbrev pub row_2 : (Tree → Tree → Bool) → Derivs → (Deriv → Walk) → (Deriv → Walk) → Walk
row_2 fits ds A B = given (parts_2 ds)
    (λ p. only (fits (type_of p.0) (type_of p.1)) (after (A p.0) (B p.1)))

-- a row of a function whose parameter has this type
abbrev pub lambda_row : List Kind → Use → List ℕ → Tree → Option Tree → Derivs →
    (Deriv → Walk) → Walk
lambda_row vars uses x t o ds A =
    given o (λ s. given (use_in vars s)
    (λ n. given (parts_1 ds) (λ d. only (is_arrow (arrow_of t) uses s (type_of d))
    (in_body uses (inside x (record { type = s; uses = n }) (A d))))))

-- a row of a name for the value of the first part in the second
abbrev pub let_row : List Kind → List ℕ → Tree → Derivs → (Deriv → Walk) → (Deriv → Walk) → Walk
let_row vars x t ds A B =
    given (parts_2 ds) (λ p. only (same_tree t (type_of p.1))
    (given (use_in vars (type_of p.0)) (λ n.
    after (A p.0) (inside x (record { type = type_of p.0; uses = n }) (B p.1)))))

-- a row of names for both parts of the first part's pair in the second
abbrev pub split_row : List Kind → List ℕ → List ℕ → Tree → Derivs → (Deriv → Walk) →
    (Deriv → Walk) → Walk
split_row vars x y t ds A B =
    given (parts_2 ds) (λ p. only (same_tree t (type_of p.1))
    (given (pair_parts (type_of p.0)) (λ r.
    given (use_in vars r.0) (λ n. given (use_in vars r.1) (λ o. after (A p.0)
    (inside x (record { type = r.0; uses = n })
    (inside y (record { type = r.1; uses = o }) (B p.1))))))))

-- a row of a condition and two branches
abbrev pub if_row : Tree → Derivs → (Deriv → Walk) → (Deriv → Walk) → (Deriv → Walk) → Walk
if_row t ds A B C =
    given (parts_3 ds) (λ p. only (if_fits t (type_of p.0) (type_of p.1) (type_of p.2))
    (after (A p.0) (branches (B p.1) (C p.2))))

-- the walk over a derivation, where R walks over the row below its conversions
abbrev pub whole : List Kind → (Tree → Derivs → Walk) → Deriv → Walk
whole vars R d = given (peeled vars d) (λ p. R p.0 p.1)

-- no fields are left
abbrev pub no_fields : List ℕ → Derivs → Walk
no_fields [] ds = only (has_none ds) Some
no_fields (k ∷ ks) ds = nowhere

-- the argument for the first field, and then the others
abbrev pub field_walk : List Tree → (Deriv → Walk) →
    (List ℕ → Derivs → Walk) → List ℕ → Derivs → Walk
field_walk types A F [] ds = nowhere
field_walk types A F (k ∷ ks) none = nowhere
field_walk types A F (k ∷ ks) (part d ds) =
    only (is_type (slice_get types k) (type_of d)) (after (A d) (F ks ds))

-- the types of the variables that an arm binds
abbrev pub bound_types : Surroundings → Binding → List ℕ → Option (List Tree)
bound_types m (fields makers) l = next (maker_named l makers) (λ c. types_at m.types c.fields.items)
bound_types m (rest s) l = next (step s (Offer l)) (λ t. Some (t ∷ []))

-- with variables of these types entered
abbrev pub entered_all : List Kind → List Binder → List Tree → Walk
entered_all vars [] [] s = Some s
entered_all vars [] (t ∷ ts) s = None
entered_all vars (x ∷ xs) [] s = None
entered_all vars (x ∷ xs) (t ∷ ts) s = next (use_in vars t)
    (λ n. entered_all vars xs ts (entered x.name (record { type = t; uses = n }) s))

-- without so many of the innermost variables
abbrev pub closed_all : ℕ → Walk
closed_all zero s = Some s
closed_all (suc n) s = next (closed_all n s) closed

-- inside variables of these types
abbrev pub inside_all : List Kind → List Binder → List Tree → Walk → Walk
inside_all vars xs ts F s = next (entered_all vars xs ts s)
    (λ r. next (F r) (closed_all (length xs)))

-- an arm that binds variables of these types
abbrev pub arm_walk : List Kind → Option (List Tree) → List Binder → Walk → Walk
arm_walk vars o xs F = given o (λ ts. inside_all vars xs ts F)

-- the first arm, and then the others
abbrev pub first_arm : Tree → (Deriv → Walk) → (Derivs → Scope → Walk) → Derivs → Walk
first_arm t A F none s = None
first_arm t A F (part d ds) s = only (same_tree (type_of d) t) (λ z. next (A d z) (F ds z)) s

-- one more branch from a scope, where those before came to another
abbrev pub further : Walk → Scope → Walk
further G s r = next (G s) (agreed r.there)

-- a further arm, and then the others
abbrev pub next_arm : Tree → (Deriv → Walk) → (Derivs → Scope → Walk) → Derivs → Scope → Walk
next_arm t A F none s r = None
next_arm t A F (part d ds) s r = only (same_tree (type_of d) t)
    (λ z. next (further (A d) s z) (F ds s)) r

-- the data type that a type is
abbrev pub family_of : List Family → Option ℕ → Option Family
family_of families None = None
family_of families (Some n) = slice_get families n

-- a row of a value of a data type and arms
abbrev pub case_row : List Family → List (List ℕ) → Derivs → (Deriv → Walk) →
    (List Maker → Derivs → Walk) → Walk
case_row families found ds A F =
    given (parts_more ds) (λ p. given (family_of families (family_number (type_of p.0))) (λ f.
    only (each_once (map (λ o. o.name) f.makers.items) found)
    (after (A p.0) (F f.makers.items p.1))))

-- a row of a channel and arms
abbrev pub match_row : List (List ℕ) → Derivs → (Deriv → Walk) → (Tree → Derivs → Walk) → Walk
match_row found ds A F =
    given (parts_more ds) (λ p. only (offers (labels (type_of p.0)) found)
    (after (A p.0) (F (type_of p.0) p.1)))

abbrev mutual
  -- the walk over a term and a row of this type with these parts
  pub row_walk : Surroundings → CoreTree → Tree → Derivs → Walk
  row_walk m (local at k) t ds = local_row k t ds
  row_walk m (global at k ks) t ds = leaf_row
      (is_global_type m.vars m.types (slice_get m.globals k) ks t) ds
  row_walk m (int at n) t ds = leaf_row (same_tree t (plain Int)) ds
  row_walk m (bool at b) t ds = leaf_row (same_tree t (plain Truth)) ds
  row_walk m (char at n) t ds = leaf_row (same_tree t (plain Char)) ds
  row_walk m (unit at) t ds = leaf_row (same_tree t (plain Nothing)) ds
  row_walk m (pair at e f) t ds = row_2 (pair_fits t) ds (whole m.vars (row_walk m e))
      (whole m.vars (row_walk m f))
  row_walk m (make at n k es) t ds = only (same_tree t (named n))
      (given (maker_of (slice_get m.families n) k) (λ o. fields_walk m es o.fields.items ds))
  row_walk m (lambda at uses k x e) t ds =
      lambda_row m.vars uses x.name t (slice_get m.types k) ds (whole m.vars (row_walk m e))
  row_walk m (apply at e f) t ds = row_2 (apply_fits t) ds (whole m.vars (row_walk m e))
      (whole m.vars (row_walk m f))
  row_walk m (let_in at x e f) t ds =
      let_row m.vars x.name t ds (whole m.vars (row_walk m e)) (whole m.vars (row_walk m f))
  row_walk m (split at x y e f) t ds =
      split_row m.vars x.name y.name t ds (whole m.vars (row_walk m e))
      (whole m.vars (row_walk m f))
  row_walk m (if_else at e f h) t ds =
      if_row t ds (whole m.vars (row_walk m e)) (whole m.vars (row_walk m f))
      (whole m.vars (row_walk m h))
  row_walk m (case_of at e bs) t ds =
      case_row m.families (arm_labels bs) ds (whole m.vars (row_walk m e))
      (λ makers. arms_walk m (fields makers) bs t)
  row_walk m (operate at o e f) t ds =
      row_2 (operate_fits o t) ds (whole m.vars (row_walk m e)) (whole m.vars (row_walk m f))
  row_walk m (negate at e) t ds = row_1 (negate_fits t) ds (whole m.vars (row_walk m e))
  row_walk m (new at k) t ds = leaf_row (is_channel (slice_get m.types k) t) ds
  row_walk m (send at e f) t ds = row_2 (send_fits t) ds (whole m.vars (row_walk m e))
      (whole m.vars (row_walk m f))
  row_walk m (receive at e) t ds = row_1 (receive_fits t) ds (whole m.vars (row_walk m e))
  row_walk m (close at e) t ds = row_1 (close_fits t) ds (whole m.vars (row_walk m e))
  row_walk m (wait at e) t ds = row_1 (wait_fits t) ds (whole m.vars (row_walk m e))
  row_walk m (select at l e) t ds = row_1 (select_fits l t) ds (whole m.vars (row_walk m e))
  row_walk m (match_with at e bs) t ds = match_row (arm_labels bs) ds (whole m.vars (row_walk m e))
      (λ s. arms_walk m (rest s) bs t)
  row_walk m (fork at e) t ds = row_1 (fork_fits m.vars t) ds (whole m.vars (row_walk m e))
  row_walk m (seq at e f) t ds = row_2 (seq_fits m.vars t) ds (whole m.vars (row_walk m e))
      (whole m.vars (row_walk m f))

  -- the walk over a constructor's arguments, whose fields have the types with these numbers
  pub fields_walk : Surroundings → CoreList → List ℕ → Derivs → Walk
  fields_walk m no_terms ks ds = no_fields ks ds
  fields_walk m (term e es) ks ds = field_walk m.types (whole m.vars (row_walk m e))
      (fields_walk m es) ks ds

  -- the walk over arms of this type, whose variables hold what B says
  pub arms_walk : Surroundings → Binding → CoreArms → Tree → Derivs → Walk
  arms_walk m B no_arms t ds = nowhere
  arms_walk m B (arm l xs e bs) t ds =
      first_arm t (λ d. arm_walk m.vars (bound_types m B l) xs (whole m.vars (row_walk m e) d))
      (further_walk m B bs t) ds

  -- the walk over further arms from a scope, where those before came to another
  pub further_walk : Surroundings → Binding → CoreArms → Tree → Derivs → Scope → Walk
  further_walk m B no_arms t ds s r = only (has_none ds) Some r
  further_walk m B (arm l xs e bs) t ds s r =
      next_arm t (λ d. arm_walk m.vars (bound_types m B l) xs (whole m.vars (row_walk m e) d))
      (further_walk m B bs t) ds s r

-- the walk over a term and its derivation
abbrev pub walk_of : Surroundings → CoreTree → Deriv → Walk
walk_of m e d = whole m.vars (row_walk m e) d

-- what a walk came to, where the test says whether it came to an end
abbrev pub came : Bool → Scope → Option Scope
came true s = Some s
came false s = None

-- what a walk keeps of a scope
pub record Keeps (s r : Scope) : Type 0 where
  pub names : r.names ≡ s.names
  pub variables : r.variables ≡ s.variables
  pub bodies : r.bodies ≡ s.bodies
  pub marks : length r.there ≡ length s.there
