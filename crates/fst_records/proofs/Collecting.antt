-- A record that fits has its events in an order in which their stamps don't fall.
use Rattle.std.proofs.Common.{◌≡◌, ◌⊎◌, inl, inr, ◌<◌, ◌≤◌, ℕ, zero, suc, List, [], ◌∷◌, ◌++◌, refl, sym, ap, subst, arith}
use Rattle.std.specs.Prelude.{sum_by, Contains}
use Rattle.std.proofs.lemmas.List.Elements.{Contains-push_cases}
use Rattle.std.proofs.lemmas.List.Sums.{sum_by_push}
use Rattle.fst_base.proofs.Lists.{contains_head, contains_tail, contains_none}
use Rattle.fst_types.specs.Tree.{Tree}
use Rattle.fst_types.specs.declared.event.ChannelHistory.{ChannelHistory}
use Rattle.fst_terms.specs.CoreTree.{CoreTree}
use Rattle.fst_machine.specs.Machine.{Program}
use Rattle.fst_runs.specs.declared.event.CoreEvent.{CoreEvent}
use Rattle.fst_runs.specs.declared.event.CoreEvent.TheVariants.{Local, New, Fork, Meet}
use Rattle.fst_runs.specs.declared.event.Stamped.{Stamped}
use Rattle.fst_runs.specs.declared.log.LogEntry.{LogEntry}
use Rattle.fst_runs.specs.Order.{AreRising, NotLater}
use Rattle.fst_records.specs.Records.{Course, main_birth, FitsRecord}
use Rattle.fst_records.specs.Laws.{HasEvents, EventsLaw}
use Rattle.fst_records.specs.Parts.{parts_of, part_by, parts_by}
use Rattle.fst_records.proofs.Bases.{IsIdle, idle_all}
use Rattle.fst_records.proofs.Latest.{each, has_event}
use Rattle.fst_records.proofs.Sorting.{undo}
use Rattle.fst_records.proofs.Stamps.{after, at_most}
use Rattle.fst_records.proofs.Sums.{sum_none}
use Rattle.fst_records.proofs.Tests.{there_sums}

one_each : (e : CoreEvent) (n : ℕ) → 0 < sum_by each (parts_of e n)
one_each (Local p) n = omega arith
one_each (New p) n = omega arith
one_each (Fork p) n = omega arith
one_each (Meet p q h) n = omega arith

event_by : (n k : ℕ) (e : CoreEvent) → sum_by (after n) (parts_of e k) ≡ 0 → k ≤ n
event_by n k (Local p) z = at_most n k (omega (arith, z))
event_by n k (New p) z = at_most n k (omega (arith, z))
event_by n k (Fork p) z = at_most n k (omega (arith, z))
event_by n k (Meet p q h) z = at_most n k (omega (arith, z))

-- an item that all come before can stand behind them
rising_push : {X : Type 0} (R : X → X → Type 0) (xs : List X) (x : X) → AreRising R xs → ((y : X) → Contains xs y → R y x) →
    AreRising R (xs ++ x ∷ [])
rising_push R [] x r h = ((λ y c. absurd (contains_none y c)), tt)
rising_push {X} R (z ∷ xs) x r h =
    ((λ y c. by y (Contains-push_cases xs x y c)), rising_push R xs x r.1 (λ y c. h y (contains_tail xs y z c)))
  where
    by : (y : X) → Contains xs y ⊎ (x ≡ y) → R z y
    by y (inl c) = r.0 y c
    by y (inr e) = subst (R z) e (h z (contains_head xs z z refl))

module _ (m : Program) (types : List Tree) (main : CoreTree) where
  -- a record whose logs have at most so many parts has events
  abbrev Collects : ℕ → Type 0
  Collects n = (ys : List Course) (ks : List ChannelHistory) → FitsRecord m types (main_birth main) ys ks →
      sum_by (parts_by each) ys ≤ n → HasEvents ys

  none : (ys : List Course) (ks : List ChannelHistory) → FitsRecord m types (main_birth main) ys ks →
      sum_by (parts_by each) ys ≡ 0 →
      HasEvents ys
  none ys ks fits z = record {
    list = [];
    are = λ w. sym (sum_none (parts_by w) IsIdle (λ y q. ap (λ (l : List LogEntry). sum_by (part_by w y.path) l) q) ys
        (idle_all m types ys fits.logs z));
    timed = tt;
  }

  some : (n : ℕ) → Collects n → (ys : List Course) (ks : List ChannelHistory) → FitsRecord m types (main_birth main) ys ks →
      sum_by (parts_by each) ys ≤ suc n → 0 < sum_by (parts_by each) ys → HasEvents ys
  some n more ys ks fits le h =
      let l = has_event m types (main_birth main) ys ks fits h in
      let u = undo m types main ys ks fits l.event l.stamp l.there l.by in
      let a = u.parts each in
      let b = one_each l.event l.stamp in
      let r = more u.courses u.channels u.fits (omega (arith, a, b, le)) in
      let e : Stamped = record { event = l.event; stamp = l.stamp } in
      record {
        list = r.list ++ e ∷ [];
        are = λ w.
            let b = sum_by_push (λ (e : Stamped). sum_by w (parts_of e.event e.stamp)) r.list e in
            let c = r.are w in
            let d = u.parts w in
            omega (arith, b, c, d);
        timed = rising_push NotLater r.list e r.timed (λ d c.
            event_by l.stamp d.stamp d.event
            (let i = there_sums (λ (e : Stamped). sum_by (after l.stamp) (parts_of e.event e.stamp)) r.list d c in
            let j = r.are (after l.stamp) in
            let k = u.parts (after l.stamp) in
            let o = l.by in
            omega (arith, i, j, k, o)));
      }

  collect : (n : ℕ) → Collects n
  collect zero ys ks fits le = none ys ks fits (omega (arith, le))
  collect (suc n) ys ks fits le = by (sum_by (parts_by each) ys) refl (collect n)
    where
      by : (k : ℕ) → sum_by (parts_by each) ys ≡ k → Collects n → HasEvents ys
      by zero q more = none ys ks fits q
      by (suc k) q more = some n more ys ks fits le (omega (arith, q))

-- each record that fits has events
pub has_events : EventsLaw
has_events m types main ys ks fits = collect m types main (sum_by (parts_by each) ys) ys ks fits (omega arith)
