-- The events of a record that fits, in an order in which their stamps don't fall, are a run.
use Rattle.std.proofs.Common.{◌≡◌, ◌⊎◌, inl, inr, ◌≤◌, ℕ, zero, suc, ◌+◌, List, [], ◌∷◌, ◌++◌, length, refl, sym, ap, subst, arith}
use Rattle.std.specs.Prelude.{sum_by, Contains}
use Rattle.std.proofs.lemmas.List.Elements.{Contains-append_left, Contains-push}
use Rattle.std.proofs.lemmas.List.Sums.{sum_by-cons, sum_by_push}
use Rattle.fst_base.proofs.Lists.{snoc_view, length-push, contains_head, contains_tail, contains_none, from_contains}
use Rattle.fst_types.specs.Tree.{Tree}
use Rattle.fst_types.specs.declared.event.ChannelHistory.{ChannelHistory}
use Rattle.fst_terms.specs.CoreTree.{CoreTree}
use Rattle.fst_machine.specs.Machine.{Program}
use Rattle.fst_runs.specs.declared.event.CoreEvent.{CoreEvent}
use Rattle.fst_runs.specs.declared.event.CoreEvent.TheVariants.{Local, New, Fork, Meet}
use Rattle.fst_runs.specs.declared.event.Stamped.{Stamped}
use Rattle.fst_runs.specs.Configs.{Config, started}
use Rattle.fst_runs.specs.Events.{Write, Does, written}
use Rattle.fst_runs.specs.Order.{AreRising, AreTimed, NotLater}
use Rattle.fst_runs.specs.StampedRuns.{IsStamp, RunsAt}
use Rattle.fst_records.specs.Records.{Course, main_birth, FitsRecord, config_of}
use Rattle.fst_records.specs.Laws.{RunLaw}
use Rattle.fst_records.specs.Parts.{Part, parts_of, all_by, parts_by, AreEvents}
use Rattle.fst_records.proofs.Bases.{base}
use Rattle.fst_records.proofs.Codes.{just, just_itself, part_code}
use Rattle.fst_records.proofs.ForksBack.{fork_undone}
use Rattle.fst_records.proofs.LogEntries.{AreBy}
use Rattle.fst_records.proofs.MeetsBack.{meet_undone}
use Rattle.fst_records.proofs.NewsBack.{new_undone}
use Rattle.fst_records.proofs.Stamps.{after, not_after}
use Rattle.fst_records.proofs.StepsBack.{step_undone}
use Rattle.fst_records.proofs.Undoing.{HaveParts, Undone}

-- ---- lists whose items rise

module _ {X : Type 0} (R : X → X → Type 0) where
  -- those in front of the last one rise
  rising_front : (xs : List X) (x : X) → AreRising R (xs ++ x ∷ []) → AreRising R xs
  rising_front [] x h = tt
  rising_front (z ∷ xs) x h = (λ y c. h.0 y (Contains-append_left xs (x ∷ []) y c), rising_front xs x h.1)

  -- and each of them comes before it
  rising_last : (xs : List X) (x : X) → AreRising R (xs ++ x ∷ []) → (y : X) → Contains xs y → R y x
  rising_last [] x h y c = absurd (contains_none y c)
  rising_last (z ∷ xs) x h y c = by (from_contains xs y z c) (rising_last xs x h.1 y)
    where
      by : (z ≡ y) ⊎ Contains xs y → (Contains xs y → R y x) → R y x
      by (inl e) more = subst (λ y. R y x) e (h.0 x (Contains-push xs x))
      by (inr d) more = more d

-- ---- stamps

own_by : (n k : ℕ) (e : CoreEvent) → k ≤ n → sum_by (after n) (parts_of e k) ≡ 0
own_by n k (Local p) l = let a = not_after n k l in omega (arith, a)
own_by n k (New p) l = let a = not_after n k l in omega (arith, a)
own_by n k (Fork p) l = let a = not_after n k l in omega (arith, a)
own_by n k (Meet p q h) l = let a = not_after n k l in omega (arith, a)

all_none : (n : ℕ) (es : List Stamped) → ((e : Stamped) → Contains es e → e.stamp ≤ n) → all_by (after n) es ≡ 0
all_none n [] h = refl
all_none n (e ∷ es) h =
    let a = sum_by-cons (λ (e : Stamped). sum_by (after n) (parts_of e.event e.stamp)) e es in
    let b = own_by n e.stamp e.event (h e (contains_head es e e refl)) in
    let c = all_none n es (λ d k. h d (contains_tail es d e k)) in
    omega (arith, a, b, c)

-- ---- runs

runs_push : (m : Program) (types : List Tree) (c : Config) (es : List Stamped) (b : Config) (e : Stamped) (w : Write) →
    RunsAt m types c es b →
    Does m types b e.event w → IsStamp w e.stamp → RunsAt m types c (es ++ e ∷ []) (written b w)
runs_push m types c [] b e w r d s = (w, subst (λ b. Does m types b e.event w) r d, s, ap (λ b. written b w) r)
runs_push m types c (x ∷ es) b e w r d s = (r.0, r.1, r.2, runs_push m types (written c r.0) es b e w r.3 d s)

has_parts : (ys : List Course) (rs : List Part) → ((w : Part → ℕ) → sum_by w rs ≤ sum_by (parts_by w) ys) → HaveParts ys rs
has_parts ys [] h = tt
has_parts ys (r ∷ rs) h =
    let w = just part_code r in (
      (let a = h w in let b = just_itself part_code r in let c = sum_by-cons w r rs in omega (arith, a, b, c)),
      has_parts ys rs (λ w. let a = h w in let b = sum_by-cons w r rs in omega (arith, a, b)),
    )

module _ (m : Program) (types : List Tree) (main : CoreTree) where
  -- the last event of a record is taken back
  pub undo : (ys : List Course) (ks : List ChannelHistory) → FitsRecord m types (main_birth main) ys ks →
      (e : CoreEvent) (n : ℕ) →
      HaveParts ys (parts_of e n) → AreBy n ys → Undone m types (main_birth main) ys ks e n
  undo ys ks fits (Local p) n has by = step_undone m types (main_birth main) ys ks fits p n has.0 by
  undo ys ks fits (New p) n has by = new_undone m types main ys ks fits p n has.0 by
  undo ys ks fits (Fork p) n has by = fork_undone m types (main_birth main) ys ks fits p n has.0 by
  undo ys ks fits (Meet p q h) n has by = meet_undone m types (main_birth main) ys ks fits p q h n has.0 has.1.0 by

  -- a run to the record without it goes on with it
  runs_on : (es : List Stamped) (e : Stamped) (ys : List Course) (ks : List ChannelHistory)
      (u : Undone m types (main_birth main) ys ks e.event e.stamp) →
      RunsAt m types (started main) es (config_of u.courses u.channels) →
      RunsAt m types (started main) (es ++ e ∷ []) (config_of ys ks)
  runs_on es e ys ks u r =
      subst (RunsAt m types (started main) (es ++ e ∷ [])) u.leads
      (runs_push m types (started main) es (config_of u.courses u.channels) e u.write r u.does u.stamped)

  -- records with these events are ends of runs of them
  abbrev Ends : List Stamped → Type 0
  Ends es = (ys : List Course) (ks : List ChannelHistory) → FitsRecord m types (main_birth main) ys ks → AreEvents ys es →
      AreTimed es →
      RunsAt m types (started main) es (config_of ys ks)

  one_more : (es : List Stamped) (e : Stamped) → Ends es → Ends (es ++ e ∷ [])
  one_more es e more ys ks fits events timed =
      let rest : (w : Part → ℕ) → all_by w es + sum_by w (parts_of e.event e.stamp) ≡ sum_by (parts_by w) ys =
      λ w.
      let b = sum_by_push (λ (e : Stamped). sum_by w (parts_of e.event e.stamp)) es e in
      let c = events w in
      omega (arith, b, c) in
      let by : AreBy e.stamp ys =
      (let b = rest (after e.stamp) in
      let c = own_by e.stamp e.stamp e.event (omega arith) in
      let d = all_none e.stamp es (rising_last NotLater es e timed) in
      omega (arith, b, c, d)) in
      let u = undo ys ks fits e.event e.stamp
      (has_parts ys (parts_of e.event e.stamp) (λ w. let b = rest w in omega (arith, b))) by in
      let are : AreEvents u.courses es = λ w. let b = rest w in let c = u.parts w in omega (arith, b, c) in
      runs_on es e ys ks u (more u.courses u.channels u.fits are (rising_front NotLater es e timed))

  ends_by : (n : ℕ) (es : List Stamped) → length es ≡ n →
      (es ≡ []) ⊎ ((fs : List Stamped) × (e : Stamped) × (es ≡ fs ++ e ∷ [])) → Ends es
  ends_by n es l (inl q) = subst Ends (sym q) (λ ys ks fits events timed. base m types main ys ks fits events)
  ends_by zero es l (inr (fs, e, q)) = let b = ap length q in let c = length-push fs e in absurd (omega (arith, b, c, l))
  ends_by (suc n) es l (inr (fs, e, q)) =
      subst Ends (sym q) (one_more fs e (ends_by n fs (let b = ap length q in let c = length-push fs e in omega (arith, b, c, l))
      (snoc_view fs)))

-- the events of a record that fits are a run
pub sorted_run : RunLaw
sorted_run m types main ys ks es fits events timed =
    ends_by m types main (length es) es refl (snoc_view es) ys ks fits events timed
