-- The faults of a question, and what it is without any.
use Rattle.std.proofs.Common.{◌≡◌, ◌∙◌, ℕ, ◌+◌, ◌<◌, ◌^◌, List, [], Option, Some, None, Bor, refl, sym, ap, subst, arith}
use Rattle.std.specs.Prelude.{IsSome, option_map}
use Rattle.std.proofs.lemmas.Option.{same_Some}
use Rattle.fst_types.specs.ModelWrittenHeight.{height}
use Rattle.fst_types.specs.Tree as tree
use Rattle.fst_types.specs.Tree.{Tree}
use Rattle.fst_types.specs.WrittenTree.{WrittenTree, HasBranches}
use Rattle.fst_terms.specs.Naming.{Scope, place, type_of}
use Rattle.fst_type_syntax.specs.Grammar.{Asked}
use Rattle.fst_scopes.specs.declared.fault.NameFault.{NameFault}
use Rattle.fst_scopes.specs.declared.names.Names as names
use Rattle.fst_scopes.specs.declared.types.TypeNames.{TypeNames}
use Rattle.fst_scopes.specs.Faults.{unbound, too_large, type_faults}
use Rattle.fst_scopes.specs.First.{first_from, first_fault}
use Rattle.fst_scopes.specs.Plain.{IsPlain}
use Rattle.fst_scopes.specs.Scopes.{entry_decl, flat, of_name, scope_around}
use Rattle.fst_scopes.specs.Twice as twice
use Rattle.fst_scopes.specs.Twice.{AreNames, variables}
use Rattle.fst_scopes.specs.TypeNames.{scope_with, standing_for}
use Rattle.fst_scopes.proofs.Laws.{first_append, no_first, none_named, type_there, no_higher, no_larger, same_faults, closed_plain}
use Rattle.fst_names.specs.Faults.{no_types, no_aliases, scope_of, types_faults, question_faults}

-- ---- the scope of a question

-- what is in scope where the code looks, with no types
pub scope_is : (vars : Bor (List (List ℕ))) (types : Bor TypeNames) → types.now.names ≡ [] →
    scope_around (names.Outermost vars types) [] ≡ scope_with vars.now no_types no_aliases
scope_is vars types e = λ i. record {
  recs = [];
  vars = vars.now;
  declared = λ x. standing_for (λ y. flat (of_name (e i) [] y)) x
      (option_map entry_decl (of_name (e i) types.now.entries.items x));
  otherwise = Some tree.skip;
}

-- ---- the first fault

-- what is kept of the two types' faults
pub types_noted : (q : Asked) (vars : Bor (List (List ℕ))) (types : Bor TypeNames) (old one two : Option NameFault) →
    AreNames (variables q.binders) vars.now → types.now.names ≡ [] →
    one ≡ first_from old (type_faults (scope_around (names.Outermost vars types) []) q.left) →
    two ≡ first_from one (type_faults (scope_around (names.Outermost vars types) []) q.right) →
    two ≡ first_from old (types_faults q)
types_noted q vars types old one two are none first second =
    second ∙ ap (first_from one) (here q.right) ∙ ap
    (λ k. first_from k (type_faults (scope_of q) q.right)) (first ∙ ap (first_from old) (here q.left)) ∙
    sym (first_append old (type_faults (scope_of q) q.left) (type_faults (scope_of q) q.right))
  where
    here : (w : WrittenTree) → type_faults (scope_around (names.Outermost vars types) []) w ≡ type_faults (scope_of q) w
    here w = ap (λ s. type_faults s w) (scope_is vars types none)
        ∙ same_faults vars.now (twice.names (variables q.binders)) no_types no_aliases are.among w

-- what is kept of all faults
pub question_first : (q : Asked) (one two : Option NameFault) → one ≡ first_from None (twice.twice (variables q.binders)) →
    two ≡ first_from one (types_faults q) → two ≡ first_fault (question_faults q)
question_first q one two first second =
    second ∙ ap (λ k. first_from k (types_faults q)) first
    ∙ sym (first_append None (twice.twice (variables q.binders)) (types_faults q))

-- where none is kept there is none
pub question_none : (q : Asked) (first : Option NameFault) → first ≡ first_fault (question_faults q) → first ≡ None →
    question_faults q ≡ []
question_none q first is none = no_first (question_faults q) (sym is ∙ none)

-- ---- a question without faults

-- a type that is no fault
pub record IsSound (s : Scope) (w : WrittenTree) : Type 0 where
  pub known : IsSome (type_of s w)
  pub depth : 0 + height w < 2 ^ 32

all_known : (xs : List (List ℕ)) (w : WrittenTree) → IsSome (type_of (scope_with xs no_types no_aliases) w)
all_known xs w = type_there (scope_with xs no_types no_aliases) (λ x. refl) w

sound : (xs : List (List ℕ)) (w : WrittenTree) → type_faults (scope_with xs no_types no_aliases) w ≡ [] →
    IsSound (scope_with xs no_types no_aliases) w
sound xs w e = record {
  known = all_known xs w;
  depth =
      low (type_of (scope_with xs no_types no_aliases) w) refl (all_known xs w);
}
  where
    low : (o : Option Tree) → type_of (scope_with xs no_types no_aliases) w ≡ o → IsSome o → 0 + height w < 2 ^ 32
    low (Some t) is h =
        let small = no_larger (place w) t (ap (too_large (place w)) (sym is)
        ∙ (none_named (unbound (scope_with xs no_types no_aliases) w)
        (too_large (place w) (type_of (scope_with xs no_types no_aliases) w)) e).1) in
        let high = no_higher (scope_with xs no_types no_aliases) w t is in
        omega (arith, small, high)
    low None is h = absurd (cc h)

-- the scope of a question without faults
own_scope : (q : Asked) (vars : Bor (List (List ℕ))) (types : Bor TypeNames) → vars.now ≡ twice.names (variables q.binders) →
    types.now.names ≡ [] → scope_around (names.Outermost vars types) [] ≡ scope_of q
own_scope q vars types is none = scope_is vars types none ∙ ap (λ xs. scope_with xs no_types no_aliases) is

pub no_twice : (q : Asked) → question_faults q ≡ [] → twice.twice (variables q.binders) ≡ []
no_twice q e = (none_named (twice.twice (variables q.binders)) (types_faults q) e).0

module _ (q : Asked) (vars : Bor (List (List ℕ))) (types : Bor TypeNames) (faultless : question_faults q ≡ [])
    (is : vars.now ≡ twice.names (variables q.binders)) (none : types.now.names ≡ []) where
  types_faultless : (type_faults (scope_of q) q.left ≡ []) × (type_faults (scope_of q) q.right ≡ [])
  types_faultless = none_named (type_faults (scope_of q) q.left) (type_faults (scope_of q) q.right)
      (none_named (twice.twice (variables q.binders)) (types_faults q) faultless).1

  pub left_sound : IsSound (scope_around (names.Outermost vars types) []) q.left
  left_sound = subst (λ s. IsSound s q.left) (sym (own_scope q vars types is none))
      (sound (twice.names (variables q.binders)) q.left types_faultless.0)

  pub right_sound : IsSound (scope_around (names.Outermost vars types) []) q.right
  right_sound = subst (λ s. IsSound s q.right) (sym (own_scope q vars types is none))
      (sound (twice.names (variables q.binders)) q.right types_faultless.1)

  -- what a type stands for
  pub stands : (w : WrittenTree) (t : Tree) → type_of (scope_around (names.Outermost vars types) []) w ≡ Some t →
      type_of (scope_of q) w ≡ Some t
  stands w t e = ap (λ s. type_of s w) (sym (own_scope q vars types is none)) ∙ e

  -- and that it is plain
  pub is_plain : (w : WrittenTree) (t : Tree) → HasBranches w →
      type_of (scope_around (names.Outermost vars types) []) w ≡ Some t → IsPlain 0 0 t
  is_plain w t h e = closed_plain 0 (scope_of q) w t
      (record {
        declared = λ x u d. absurd (cc d);
        otherwise =
            λ u o. subst (IsPlain 0 0) (same_Some tree.skip u o) (record { scoped = tt; sorted = tt; named = tt });
      }) refl h
      (stands w t e)
