-- A value whose type can be printed is one of that type, and has no function and no end in it.
use Rattle.std.proofs.Common.{◌≡◌, ◌∙◌, List, [], ◌∷◌, sym, subst}
use Rattle.std.specs.List.{AllByRecursion}
use Rattle.fst_types.specs.Tree as type
use Rattle.fst_types.specs.Tree.{Tree, arrow}
use Rattle.fst_types.specs.declared.kind.Use.{Use}
use Rattle.fst_kinds.specs.WellFormed.{IsSession}
use Rattle.fst_terms.specs.declared.core_module.Module.{Module}
use Rattle.fst_derivations.specs.Modules.{IsPrintable, base_types, data_types, pairs, surroundings}
use Rattle.fst_machine.specs.Values as value
use Rattle.fst_machine.specs.Values.{Value, Values, no_values}
use Rattle.fst_safety.specs.Running.{Equals}
use Rattle.fst_safety.specs.Fitting.{Residuals, Fits, FitAll}
use Rattle.fst_safety.specs.WellTyped.{IsFieldType, IsWellTyped}
use Rattle.fst_safety.specs.Safety.{IsShown, AreShown, IsOf, AreOf}
use Rattle.fst_safety.proofs.Equals.{equals_back, equals_plain, equals_named, equals_pair, plain_no_session, named_no_session, pair_no_session}

-- what equals a printable type is that type
pub printable_same : (s t : Tree) → IsPrintable t → Equals s t → s ≡ t
printable_same s t base_types e = equals_plain (equals_back e)
printable_same s t data_types e = equals_named (equals_back e)
printable_same s t (pairs {s = x} {t = y} a b) e =
    let q = equals_pair (equals_back e) in
    let l = printable_same q.0 x a (equals_back q.3) in
    let r = printable_same q.1 y b (equals_back q.4) in
    q.2 ∙ (λ i. type.pair (l i) (r i))

-- the parts of a printable pair type are printable
pub printable_parts : {s r : Tree} → IsPrintable (type.pair s r) → IsPrintable s × IsPrintable r
printable_parts (pairs a b) = (a, b)

-- a function type isn't printable
pub no_printable_arrow : {u : Use} {s r : Tree} → IsPrintable (arrow u s r) → ⊥
no_printable_arrow p = elim p [ ]

-- nor is a session type
pub no_printable_session : (s : Tree) → IsPrintable s → IsSession [] s → ⊥
no_printable_session s base_types h = plain_no_session h
no_printable_session s data_types h = named_no_session h
no_printable_session s (pairs a b) h = pair_no_session h

module _ (m : Module) (w : IsWellTyped (surroundings m [])) (r : Residuals) where
  mutual
    -- a value that fits a printable type is one of that type
    pub result_of : (v : Value) (t : Tree) → IsPrintable t → Fits (surroundings m []) r v t → IsOf m v t
    result_of (value.int n) t p f = equals_plain f
    result_of (value.bool b) t p f = equals_plain f
    result_of (value.char c) t p f = equals_plain f
    result_of value.unit t p f = equals_plain f
    result_of (value.pair v z) t p f =
        let is = sym (printable_same (type.pair f.0 f.1) t p f.4) in
        let q = printable_parts (subst IsPrintable is p) in
        (f.0, f.1, is, result_of v f.0 q.0 f.2, result_of z f.1 q.1 f.3)
    result_of (value.made n o vs) t p f = (
      f.0,
      f.1,
      f.2,
      f.3,
      fields_of vs f.1 (w.fields n o f.0 f.1 f.2 f.3) f.4,
      equals_named f.5,
    )
    result_of (value.function e env) t p f =
        no_printable_arrow (subst IsPrintable (sym (printable_same (arrow f.1 f.2.type f.3) t p f.10)) p)
    result_of (value.end x) t p f = no_printable_session f.0 (subst IsPrintable (sym (printable_same f.0 t p f.3)) p) f.2

    -- so it is with fields
    pub fields_of : (vs : Values) (ts : List Tree) → AllByRecursion IsFieldType ts → FitAll (surroundings m []) r vs ts →
        AreOf m vs ts
    fields_of no_values [] p f = tt
    fields_of no_values (t ∷ ts) p f = f
    fields_of (value.value v vs) [] p f = f
    fields_of (value.value v vs) (t ∷ ts) p f = (result_of v t p.0.printable f.0, fields_of vs ts p.1 f.1)

module _ (m : Module) where
  mutual
    -- no function and no end stands in a value that is one of a type
    pub of_shown : (v : Value) (t : Tree) → IsOf m v t → IsShown v
    of_shown (value.int n) t h = tt
    of_shown (value.bool b) t h = tt
    of_shown (value.char c) t h = tt
    of_shown value.unit t h = tt
    of_shown (value.pair v w) t h = (of_shown v h.0 h.3, of_shown w h.1 h.4)
    of_shown (value.made n o vs) t h = all_shown vs h.1 h.4
    of_shown (value.function e env) t h = h
    of_shown (value.end x) t h = h

    -- nor in values of types
    pub all_shown : (vs : Values) (ts : List Tree) → AreOf m vs ts → AreShown vs
    all_shown no_values ts h = tt
    all_shown (value.value v vs) [] h = absurd h
    all_shown (value.value v vs) (t ∷ ts) h = (of_shown v t h.0, all_shown vs ts h.1)
