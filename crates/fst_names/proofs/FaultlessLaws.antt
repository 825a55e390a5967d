-- What declarations without faults are like.
use Rattle.std.proofs.Common.{◌≡◌, ◌∙◌, ◌⊎◌, inl, inr, ℕ, suc, Bool, true, false, List, [], ◌∷◌, ◌++◌, codes, length, map, Some, refl, sym, subst}
use Rattle.std.specs.Prelude.{if◌then◌else◌}
use Rattle.std.specs.Str.{bytes_eq}
use Rattle.fst_base.proofs.Bools.{same_text}
use Rattle.fst_types.specs.WrittenTree.{WrittenTree}
use Rattle.fst_types.specs.declared.kind.Kind.{Kind}
use Rattle.fst_terms.specs.ModuleTree.{Maker, Declared, family, alias, signature, equation}
use Rattle.fst_terms.specs.TermTree.{TermTree}
use Rattle.fst_terms.specs.declared.binder.Binder.{Binder}
use Rattle.fst_scopes.specs.Aliases.{Known}
use Rattle.fst_scopes.specs.Faults.{is_among, type_faults}
use Rattle.fst_scopes.specs.Twice.{names, twice, variables}
use Rattle.fst_scopes.specs.TypeNames.{data_type, other_name, declared_from}
use Rattle.fst_scopes.specs.declared.fault.NameFault.{NameFault}
use Rattle.fst_scopes.specs.declared.fault.NameFault.TheVariants.{AliasLoop, NoMain, Unbound}
use Rattle.fst_scopes.proofs.Laws.{none_named}
use Rattle.fst_term_faults.specs.TermFaults.{term_faults, within}
use Rattle.fst_declarations.specs.ModuleFaults.{Signed, module_scope, signed, signed_type, surroundings, globals, alone, more_parameters, looped, decl_faults, decls_faults, twice_declared, faults_but_main, no_main, module_faults}
use Rattle.fst_declarations.specs.ModuleNames.{type_names, makers, signature_names, equation_names}
use Rattle.fst_names.proofs.OnceLaws.{among_next, among_either}

-- ---- all faults

-- where nothing is told, not even that nothing is named main, there is no other fault, and something is named main
none_but_main : (ds : List Declared) (fs : List NameFault) → no_main ds fs ≡ [] → (fs ≡ []) ×
    (is_among (globals ds) (codes "main") ≡ true)
none_but_main ds [] e = (refl, pick (is_among (globals ds) (codes "main")) e)
  where
    pick : (c : Bool) → (if c then [] else NoMain ∷ []) ≡ [] → c ≡ true
    pick true h = refl
    pick false h = absurd (cc h)
none_but_main ds (f ∷ fs) e = absurd (cc e)

-- each name is declared once, no declaration has a fault, and something is named main
pub record AreSound (ds : List Declared) (known : Known) : Type 0 where
  pub types_once : twice (type_names ds) ≡ []
  pub makers_once : twice (map (λ (m : Maker). m.name) (makers ds)) ≡ []
  pub signatures_once : twice (signature_names ds) ≡ []
  pub equations_once : twice (equation_names ds) ≡ []
  pub decls : decls_faults ds known ds ≡ []
  pub main_there : is_among (globals ds) (codes "main") ≡ true

-- so it is in a module without faults
pub are_sound : (ds : List Declared) (known : Known) → module_faults ds known ≡ [] → AreSound ds known
are_sound ds known e =
    let whole = none_but_main ds (faults_but_main ds known) e in
    let both = none_named (twice_declared ds) (decls_faults ds known ds) whole.0 in
    let one = none_named (twice (type_names ds)) (twice
    (map (λ (m : Maker). m.name) (makers ds)) ++ (twice (signature_names ds) ++ twice (equation_names ds))) both.0 in
    let two = none_named (twice (map (λ (m : Maker). m.name) (makers ds)))
    (twice (signature_names ds) ++ twice (equation_names ds)) one.1 in
    let three = none_named (twice (signature_names ds)) (twice (equation_names ds)) two.1 in
    record {
      types_once = one.0;
      makers_once = two.0;
      signatures_once = three.0;
      equations_once = three.1;
      decls = both.1;
      main_there = whole.1;
    }

-- ---- some declarations

-- a name that isn't alone is among the others
pub has_other : (others : List Binder) (x : Binder) → alone others x ≡ [] → is_among (names others) x.name ≡ true
has_other others x e = pick (is_among (names others) x.name) e
  where
    pick : (c : Bool) → (if c then [] else Unbound x.at x.name ∷ []) ≡ [] → c ≡ true
    pick true h = refl
    pick false h = absurd (cc h)

-- an alias that isn't told to lead back to itself doesn't
not_looped : (known : Known) (x : Binder) → looped known x ≡ [] → known.loops x.name ≡ false
not_looped known x e = pick (known.loops x.name) e
  where
    pick : (c : Bool) → (if c then AliasLoop x.at x.name ∷ [] else []) ≡ [] → c ≡ false
    pick true h = absurd (cc h)
    pick false h = refl

-- the type of a signature without faults, and its variables, have none
pub record IsSoundSignature (ds : List Declared) (known : Known) (bs : List (Binder × Kind)) (w : WrittenTree) : Type 0 where
  pub once : twice (variables bs) ≡ []
  pub faultless : type_faults (module_scope ds known (names (variables bs))) w ≡ []

-- an alias without faults leads to no loop, and its type has none
pub record IsSoundAlias (ds : List Declared) (known : Known) (x : List ℕ) (w : WrittenTree) : Type 0 where
  pub open_ended : known.loops x ≡ false
  pub faultless : type_faults (module_scope ds known []) w ≡ []

-- an equation without faults has a signature, no more parameters than arrows stand in its type, and a body without faults
pub record IsFaultlessEquation (ds : List Declared) (known : Known) (x : Binder) (ps : List Binder) (t : TermTree) : Type 0 where
  pub has_signature : alone (signature_names ds) x ≡ []
  pub few : more_parameters x.at (length ps) (signed_type ds known (signed ds x.name)) ≡ []
  pub body : term_faults (surroundings ds known x.name) (within ps []) t ≡ []

module _ (ds : List Declared) (known : Known) where
  -- the first of some declarations and the others have no faults
  pub first_sound : (e : Declared) (es : List Declared) → decls_faults ds known (e ∷ es) ≡ [] → decl_faults ds known e ≡ []
  first_sound e es none = (none_named (decl_faults ds known e) (decls_faults ds known es) none).0

  pub others_sound : (e : Declared) (es : List Declared) → decls_faults ds known (e ∷ es) ≡ [] → decls_faults ds known es ≡ []
  others_sound e es none = (none_named (decl_faults ds known e) (decls_faults ds known es) none).1

  -- nor has the type of an alias without faults
  pub alias_type_sound : (x : Binder) (w : WrittenTree) → decl_faults ds known (alias x w) ≡ [] →
      type_faults (module_scope ds known []) w ≡ []
  alias_type_sound x w e = (none_named (looped known x) (type_faults (module_scope ds known []) w) e).1

  -- nor a signature without faults
  pub signature_sound : (x : Binder) (bs : List (Binder × Kind)) (w : WrittenTree) →
      decl_faults ds known (signature x bs w) ≡ [] → IsSoundSignature ds known bs w
  signature_sound x bs w e =
      let one = none_named (alone (equation_names ds) x)
      (twice (variables bs) ++ type_faults (module_scope ds known (names (variables bs))) w) e in
      let two = none_named (twice (variables bs)) (type_faults (module_scope ds known (names (variables bs))) w) one.1 in
      record { once = two.0; faultless = two.1 }

  -- nor an equation without faults
  pub equation_sound : (x : Binder) (ps : List Binder) (t : TermTree) → decl_faults ds known (equation x ps t) ≡ [] →
      IsFaultlessEquation ds known x ps t
  equation_sound x ps t e =
      let one = none_named (alone (signature_names ds) x)
      (more_parameters x.at (length ps) (signed_type ds known (signed ds x.name)) ++ term_faults
      (surroundings ds known x.name) (within ps []) t) e in
      let two = none_named (more_parameters x.at (length ps) (signed_type ds known (signed ds x.name)))
      (term_faults (surroundings ds known x.name) (within ps []) t) one.1 in
      record { has_signature = one.0; few = two.0; body = two.1 }

  -- what is declared as an alias is one without faults
  pub alias_sound : (k : ℕ) (es : List Declared) (x : List ℕ) (w : WrittenTree) → decls_faults ds known es ≡ [] →
      declared_from k es x ≡ Some (other_name w) → IsSoundAlias ds known x w
  alias_sound k [] x w none e = absurd (cc e)
  alias_sound k (family y ms ∷ es) x w none e =
      pick (bytes_eq x y.name) (alias_sound (suc k) es x w (others_sound (family y ms) es none)) e
    where
      pick : (c : Bool) → (declared_from (suc k) es x ≡ Some (other_name w) → IsSoundAlias ds known x w) →
          (if c then Some (data_type k) else declared_from (suc k) es x) ≡ Some (other_name w) → IsSoundAlias ds known x w
      pick true rest h = absurd (cc h)
      pick false rest h = rest h
  alias_sound k (alias y v ∷ es) x w none e = pick (bytes_eq x y.name) refl
      (alias_sound k es x w (others_sound (alias y v) es none)) e
    where
      own : IsSoundAlias ds known y.name v
      own =
          let first = first_sound (alias y v) es none in
          record {
            open_ended = not_looped known y (none_named (looped known y)
                (type_faults (module_scope ds known []) v) first).0;
            faultless = alias_type_sound y v first;
          }

      pick : (c : Bool) → bytes_eq x y.name ≡ c → (declared_from k es x ≡ Some (other_name w) → IsSoundAlias ds known x w) →
          (if c then Some (other_name v) else declared_from k es x) ≡ Some (other_name w) → IsSoundAlias ds known x w
      pick true is rest h =
          let same : v ≡ w = cc in
          subst (λ z. IsSoundAlias ds known z w) (sym (same_text x y.name is)) (subst (IsSoundAlias ds known y.name) same own)
      pick false is rest h = rest h
  alias_sound k (signature y bs v ∷ es) x w none e = alias_sound k es x w (others_sound (signature y bs v) es none) e
  alias_sound k (equation y ps t ∷ es) x w none e = alias_sound k es x w (others_sound (equation y ps t) es none) e

  -- no variable of a name's signature stands twice
  pub signed_once : (es : List Declared) (x : List ℕ) (g : Signed) → decls_faults ds known es ≡ [] → signed es x ≡ Some g →
      twice (variables g.vars) ≡ []
  signed_once [] x g none e = absurd (cc e)
  signed_once (family y ms ∷ es) x g none e = signed_once es x g (others_sound (family y ms) es none) e
  signed_once (alias y w ∷ es) x g none e = signed_once es x g (others_sound (alias y w) es none) e
  signed_once (signature y bs w ∷ es) x g none e =
      pick (bytes_eq x y.name) (signed_once es x g (others_sound (signature y bs w) es none)) e
    where
      own : twice (variables bs) ≡ []
      own = (signature_sound y bs w (first_sound (signature y bs w) es none)).once

      pick : (c : Bool) → (signed es x ≡ Some g → twice (variables g.vars) ≡ []) →
          (if c then Some (record { vars = bs; its_type = w }) else signed es x) ≡ Some g → twice (variables g.vars) ≡ []
      pick true rest h = let same : record { vars = bs; its_type = w } ≡ g = cc in subst
          (λ (z : Signed). twice (variables z.vars) ≡ []) same own
      pick false rest h = rest h
  signed_once (equation y ps t ∷ es) x g none e = signed_once es x g (others_sound (equation y ps t) es none) e

  -- a name with a signature has an equation
  has_equation : (es : List Declared) → decls_faults ds known es ≡ [] →
      (x : List ℕ) → is_among (names (signature_names es)) x ≡ true → is_among (names (equation_names ds)) x ≡ true
  has_equation [] none x h = absurd (cc h)
  has_equation (family y ms ∷ es) none x h = has_equation es (others_sound (family y ms) es none) x h
  has_equation (alias y w ∷ es) none x h = has_equation es (others_sound (alias y w) es none) x h
  has_equation (signature y bs w ∷ es) none x h =
      pick (bytes_eq x y.name) refl (has_equation es (others_sound (signature y bs w) es none) x)
    where
      own : is_among (names (equation_names ds)) y.name ≡ true
      own = has_other (equation_names ds) y (none_named (alone (equation_names ds) y) _
          (first_sound (signature y bs w) es none)).0

      pick : (c : Bool) → bytes_eq x y.name ≡ c → (is_among (names (signature_names es)) x ≡ true →
          is_among (names (equation_names ds)) x ≡ true) → is_among (names (equation_names ds)) x ≡ true
      pick true is rest = subst (λ z. is_among (names (equation_names ds)) z ≡ true) (sym (same_text x y.name is)) own
      pick false is rest = rest (sym (among_next y.name (names (signature_names es)) x is) ∙ h)
  has_equation (equation y ps t ∷ es) none x h = has_equation es (others_sound (equation y ps t) es none) x h

  -- so each name that stands for a global has an equation
  pub is_global : decls_faults ds known ds ≡ [] →
      (x : List ℕ) → is_among (globals ds) x ≡ true → is_among (names (equation_names ds)) x ≡ true
  is_global none x h = pick (among_either (names (signature_names ds)) (names (equation_names ds)) x h)
    where
      pick : (is_among (names (signature_names ds)) x ≡ true) ⊎
          (is_among (names (equation_names ds)) x ≡ true) → is_among (names (equation_names ds)) x ≡ true
      pick (inl g) = has_equation ds none x g
      pick (inr g) = g
