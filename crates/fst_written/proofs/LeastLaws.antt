-- How the first fault changes where one more type stands behind the others.
use Rattle.std.proofs.Common.{◌≡◌, inl, inr, subst, sym, ℕ, ◌<◌, ◌≤◌, List, [], ◌∷◌, ◌++◌, Option, Some, None, arith}
use Rattle.std.specs.Prelude.{MatchOption, slice_get}
use Rattle.std.proofs.lemmas.Bool.{cases_lt}
use Rattle.std.proofs.lemmas.Option.{get_or_from_slice_get}
use Rattle.fst_base.proofs.Alls.{all_append}
use Rattle.fst_types.specs.Tree.{Tree}
use Rattle.fst_terms.specs.declared.core_module.Module.{Module}
use Rattle.fst_derivations.specs.Modules.{IsPrintable}
use Rattle.fst_written.specs.Faults.{HasFault, IsFirstKindFault, IsLeast}
use Rattle.fst_written.specs.Printable.{IsFirstUnprintable, IsPrintableAt, IsLeastField}
use Rattle.fst_written.specs.Readings.{Reading, IsFormedReading, begins, begins_at}
use Rattle.fst_written.specs.declared.kinds.Placed.{Placed}
use Rattle.fst_written.proofs.FirstLaws.{first_new, first_kept, first_less}

module _ (m : Module) where
  -- a type that is well formed changes nothing
  pub least_formed : (rs : List Reading) (r : Reading) (found : Option Placed) → IsLeast m rs found → IsFormedReading m r →
      IsLeast m (rs ++ r ∷ []) found
  least_formed rs r None h formed = all_append (IsFormedReading m) rs (r ∷ []) h (formed, tt)
  least_formed rs r (Some p) h formed = record {
    reading = h.reading;
    first =
        first_kept (begins m) (IsFormedReading m) rs r h.reading h.first (λ lt. formed);
    fails = h.fails;
  }

  -- which of two faults is kept
  abbrev IsEarlier : Option Placed → Placed → Placed → Type 0
  IsEarlier found next p = MatchOption found (p ≡ next)
      (λ first. (first.at ≤ next.at → p ≡ first) × (next.at < first.at → p ≡ next))

  abbrev Is : List Reading → Placed → Type 0
  Is rs p = IsFirstKindFault m rs p.at p.fault

  place : (r : Reading) (p : Placed) → HasFault m r p.at p.fault → begins m r ≡ p.at
  place r p has = get_or_from_slice_get m.places.items r.number p.at 0 has.begins

  -- a type with a fault is the first, where it begins before the first one so far
  pub least_fault : (rs : List Reading) (r : Reading) (found : Option Placed) (next p : Placed) → IsLeast m rs found →
      HasFault m r next.at next.fault →
      IsEarlier found next p → IsLeast m (rs ++ r ∷ []) (Some p)
  least_fault rs r None next p h has earlier =
      subst (Is (rs ++ r ∷ [])) (sym earlier) (record
      { reading = r; first = first_new (begins m) (IsFormedReading m) rs r h; fails = has })
  least_fault rs r (Some first) next p h has earlier =
      let at_first = place h.reading first h.fails in
      let at_next = place r next has in
      elim (cases_lt next.at first.at) [
        | inl lt ↦
            let less : begins m r < begins m h.reading = omega arith in
            subst (Is (rs ++ r ∷ [])) (sym (earlier.1 lt))
            (record {
              reading = r;
              first = first_less (begins m) (IsFormedReading m) rs r h.reading h.first less;
              fails =
                  has;
            })
        | inr ge ↦
            let kept = first_kept (begins m) (IsFormedReading m) rs r h.reading h.first (λ lt. absurd (omega arith)) in
            subst (Is (rs ++ r ∷ [])) (sym (earlier.0 ge)) (record { reading = h.reading; first = kept; fails = h.fails })
      ]

  -- ---- fields

  -- a field that is printable changes nothing
  pub least_printable : (ks : List ℕ) (k : ℕ) (found : Option ℕ) → IsLeastField m ks found → IsPrintableAt m.types.items k →
      IsLeastField m (ks ++ k ∷ []) found
  least_printable ks k None h printable = all_append (IsPrintableAt m.types.items) ks (k ∷ []) h (printable, tt)
  least_printable ks k (Some j) h printable = record {
    first = first_kept (begins_at m) (IsPrintableAt m.types.items) ks k j h.first (λ lt. printable);
    type = h.type;
    is = h.is;
    unprintable = h.unprintable;
  }

  -- which of two fields is kept
  abbrev IsEarlierField : Option ℕ → ℕ → ℕ → Type 0
  IsEarlierField found next k = MatchOption found (k ≡ next)
      (λ j. (begins_at m j ≤ begins_at m next → k ≡ j) × (begins_at m next < begins_at m j → k ≡ next))

  -- one that isn't printable is the first, where it begins before the first one so far
  pub least_field : (ks : List ℕ) (next : ℕ) (found : Option ℕ) (k : ℕ) (t : Tree) → IsLeastField m ks found →
      slice_get m.types.items next ≡ Some t → (IsPrintable t → ⊥) →
      IsEarlierField found next k → IsLeastField m (ks ++ next ∷ []) (Some k)
  least_field ks next None k t h is unprintable earlier =
      subst (IsFirstUnprintable m (ks ++ next ∷ [])) (sym earlier)
      (record {
        first = first_new (begins_at m) (IsPrintableAt m.types.items) ks next h;
        type = t;
        is = is;
        unprintable =
            unprintable;
      })
  least_field ks next (Some j) k t h is unprintable earlier =
      elim (cases_lt (begins_at m next) (begins_at m j)) [
        | inl lt ↦ subst (IsFirstUnprintable m (ks ++ next ∷ [])) (sym (earlier.1 lt))
            (record {
              first = first_less (begins_at m) (IsPrintableAt m.types.items) ks next j h.first lt;
              type = t;
              is = is;
              unprintable = unprintable;
            })
        | inr ge ↦ subst (IsFirstUnprintable m (ks ++ next ∷ [])) (sym (earlier.0 ge))
            (record {
              first = first_kept (begins_at m) (IsPrintableAt m.types.items) ks next j h.first
                  (λ lt. absurd (omega arith));
              type = h.type;
              is = h.is;
              unprintable = h.unprintable;
            })
      ]
