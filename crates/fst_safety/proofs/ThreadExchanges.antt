-- A thread that exchanges an event on one of its ends.
use Rattle.std.proofs.Common.{◌≡◌, ◌∙◌, ◌⊎◌, inl, inr, ◌<◌, ℕ, ◌+◌, List, [], ◌∷◌, ◌++◌, Some, None, refl, sym, ap, arith}
use Rattle.std.specs.Prelude.{sum_by, All}
use Rattle.std.proofs.lemmas.List.Elements.{All-nil, All-head, All-tail}
use Rattle.std.proofs.lemmas.List.Sorted.{All-permutation, sum_by-IsPermutation}
use Rattle.std.proofs.lemmas.List.Sums.{sum_by-cons}
use Rattle.fst_base.proofs.Options.{some_same}
use Rattle.fst_types.specs.Tree.{Tree, skip}
use Rattle.fst_types.specs.declared.side.Side.TheVariants.{Left, Right}
use Rattle.fst_derivations.specs.Rules.{Surroundings}
use Rattle.fst_types.specs.declared.ends.EndName.{EndName}
use Rattle.fst_machine.specs.Machine.{answered, or_lost}
use Rattle.fst_runs.specs.Configs.{Task, same_end}
use Rattle.fst_runs.specs.Wrong.{once, held_state, end_of}
use Rattle.fst_cell.specs.declared.content.Offer.{Offer}
use Rattle.fst_cell.specs.End.{EndView, end_name, residual_of}
use Rattle.fst_runs.specs.declared.log.LogEntry.{LogEntry}
use Rattle.fst_safety.specs.Fitting.{Residuals}
use Rattle.fst_safety.specs.Pauses.{Goes}
use Rattle.fst_safety.specs.WellTyped.{program_in}
use Rattle.fst_runs.specs.Logs.{Exchange, Opening, Enters, after_entry, made_after, births, exchanges, openings}
use Rattle.fst_runs.proofs.Laws.{follows_more, later, few_made, few_forks, opened_more, none_opened}
use Rattle.fst_safety.specs.Threads.{Thread, FitsIn, FitsEnd, IsOpen, IsPast, AreResiduals, count_of}
use Rattle.fst_safety.specs.Turns.{Turn, AreKnownSpent, of_ends, on_side, by_type, by_cell, by_exchanges}
use Rattle.fst_safety.specs.Going.{IsMoved}
use Rattle.fst_safety.proofs.Answered.{KeepsBut, held_before}
use Rattle.fst_safety.proofs.BagLaws.{counted, count_first, counted_so, or_not, with_at, at_itself, at_other, are_permuted, are_less, unspent_in}
use Rattle.fst_safety.proofs.Pasts.{later_past}
use Rattle.fst_safety.proofs.PutLaws.{HasPut, WentTo, has_put, rested, rested_typed, rested_unspent}
use Rattle.fst_safety.proofs.ThreadLaws.{idle_end, later_ends}

module _ (m : Surroundings) (a : Tree) (x : Thread) (fits : FitsIn m a x) (g : LogEntry)
    (enters : Enters (program_in m) x.path x.now g) (n : EndName) (e f : EndView)
    (bag retired : List EndView) (moved : IsMoved x e f bag retired) (ne : end_name e ≡ n) (nf : end_name f ≡ n) (nw nx : Tree)
    (was : residual_of e.knows ≡ Some nw)
    (is : residual_of f.knows ≡ Some nx) (idle : f.knows.offer ≡ None) (past : IsPast g.stamp f)
    (same_made : made_after g.answer x.now.made ≡ x.now.made)
    (at : end_of g.asked ≡ Some n) where
  abbrev now' : Task
  now' = after_entry (program_in m) x.now g

  abbrev pub y : Thread
  y = record { path = x.path; first = x.first; log = x.log ++ g ∷ []; now = now'; bag = bag; retired = retired }

  abbrev rest : List EndView
  rest = moved.rest

  there_is : count_of n x.bag ≡ count_of n (e ∷ rest)
  there_is = sym (sum_by-IsPermutation (counted n) x.bag (e ∷ rest) moved.before)

  n_there : 0 < count_of n x.bag
  n_there = let c = count_first n e rest in let o = counted_so n e ne in omega (arith, there_is, c, o)

  pub held_once : held_state n x.now.state ≡ 1
  held_once = (fits.once n n_there).1

  rest_none : count_of n rest ≡ 0
  rest_none = let c = count_first n e rest in let o = counted_so n e ne in let q =
      (fits.once n n_there).0 in omega (arith, there_is, c, o, q)

  rest_none_e : count_of (end_name e) rest ≡ 0
  rest_none_e = ap (λ z. count_of z rest) ne ∙ rest_none

  clock_later : x.now.clock < g.stamp
  clock_later = later x.path x.now g.stamp g.asked g.answer enters.is_answered

  abbrev r : Residuals
  r = fits.typed.residuals

  are_rest : AreResiduals (e ∷ rest) r
  are_rest = are_permuted r x.bag (e ∷ rest) moved.before fits.typed.are

  before_n : r n ≡ Some nw
  before_n = ap r (sym ne) ∙ All-head (λ (e : EndView). r (end_name e) ≡ residual_of e.knows) e rest are_rest.known ∙ was

  -- its residual has gone on, and all others are as they were
  abbrev r1 : Residuals
  r1 = with_at (end_name e) (residual_of f.knows) r

  others_1 : (z : EndName) → (z ≡ n) ⊎ (r1 z ≡ r z)
  others_1 z = go (at_other (end_name e) (residual_of f.knows) r z)
    where
      go : (z ≡ end_name e) ⊎ (r1 z ≡ r z) → (z ≡ n) ⊎ (r1 z ≡ r z)
      go (inl i) = inl (i ∙ ne)
      go (inr i) = inr i

  later_n : r1 n ≡ Some nx
  later_n = ap r1 (sym ne) ∙ at_itself (end_name e) (residual_of f.knows) r ∙ is

  pub exchange : (r n ≡ Some nw) × (r1 n ≡ Some nx) × KeepsBut r r1 n x.now.state
  exchange = (before_n, later_n, λ z. but_one (others_1 z))
    where
      but_one : {A B C : Type 0} → A ⊎ C → A ⊎ (B ⊎ C)
      but_one (inl i) = inl i
      but_one (inr i) = inr (inr i)

  abbrev open_before : All IsOpen (e ∷ rest)
  open_before = All-permutation IsOpen x.bag (e ∷ rest) moved.before fits.unspent

  abbrev ends_before : All (FitsEnd m x.now) (e ∷ rest)
  ends_before = All-permutation (FitsEnd m x.now) x.bag (e ∷ rest) moved.before fits.ends

  some_end : {b c : EndName} → Some b ≡ Some c → b ≡ c
  some_end q = cc

  -- the others don't wait
  rest_later : All (FitsEnd m now') rest
  rest_later = later_ends m x.now now' (omega (arith, clock_later)) rest (All-tail (FitsEnd m x.now) e rest ends_before)
      (λ d fit own k. idle_end m x.now d fit (λ ev q.
      let same : end_name d ≡ n = some_end (sym (ap end_of (some_same (sym enters.asked ∙ q))) ∙ at) in
      let z = ap (λ w. count_of w rest) same in
      omega (arith, k, z, rest_none)))

  f_later : FitsEnd m now' f
  f_later = record { past = past; waits = λ o q. absurd (none_offer (sym idle ∙ q)) }
    where
      none_offer : {o : Offer} → None ≡ Some o → ⊥
      none_offer q = absurd (cc q)

  there : answered (program_in m) x.now.state g.answer ≡ Some now'.state
  there = enters.leads ∙ ap (λ o. Some (or_lost o)) (sym enters.leads)

  before : (z : EndName) → 0 < held_state z now'.state → 0 < held_state z x.now.state
  before z = held_before (program_in m) x.now.state now'.state g.answer z there
      (λ i. let c = ap (λ w. made_after w x.now.made) (sym i) ∙ same_made in absurd (omega (arith, c)))

  -- the state after it is typed
  module _ (goes : Goes m r1 now'.state fits.typed.type (λ z. held_state z x.now.state)) where
    count_split : (z : EndName) → count_of z x.bag ≡ counted z e + count_of z rest
    count_split z = sym (sum_by-IsPermutation (counted z) x.bag (e ∷ rest) moved.before) ∙ count_first z e rest

    same_counted : (z : EndName) → counted z f ≡ counted z e
    same_counted z = ap (λ w. once (same_end z w)) (nf ∙ sym ne)

    abbrev put : HasPut f nx rest x.retired bag retired
    put = has_put f nx is rest x.retired bag retired moved.put

    abbrev r0 : Residuals
    r0 = with_at (end_name e) (Some skip) r

    abbrev rF : Residuals
    rF = with_at (end_name f) (Some (rested nx)) r0

    are : AreResiduals bag rF
    are = put.are r0 (are_less r e rest are_rest rest_none_e) (ap (λ w. count_of w rest) nf ∙ rest_none)

    at_n : rF n ≡ Some (rested nx)
    at_n = ap rF (sym nf) ∙ at_itself (end_name f) (Some (rested nx)) r0

    others_F : (z : EndName) → (z ≡ n) ⊎ (rF z ≡ r1 z)
    others_F z = go (at_other (end_name f) (Some (rested nx)) r0 z) (at_other (end_name e) (Some skip) r z) (others_1 z)
      where
        go : (z ≡ end_name f) ⊎ (rF z ≡ r0 z) → (z ≡ end_name e) ⊎ (r0 z ≡ r z) → (z ≡ n) ⊎ (r1 z ≡ r z) → (z ≡ n) ⊎ (rF z ≡ r1 z)
        go (inl i) o w = inl (i ∙ nf)
        go (inr i) (inl j) w = inl (j ∙ ne)
        go (inr i) (inr j) (inl w) = inl w
        go (inr i) (inr j) (inr w) = inr (i ∙ j ∙ sym w)

    once_after : (z : EndName) → 0 < count_of z bag → (count_of z bag ≡ 1) × (held_state z now'.state ≡ 1)
    once_after z k =
        let u = rested_unspent r1 rF n nx later_n at_n others_F z
        (unspent_in rF bag (put.unspent (All-tail IsOpen e rest open_before)) are z k) in
        by put.went (goes.1 z u)
      where
        by : WentTo f rest x.retired bag retired → held_state z now'.state ≡ held_state z x.now.state → (count_of z bag ≡ 1) ×
            (held_state z now'.state ≡ 1)
        by (inl w) h =
            let c = (w z).0 in
            let d = count_split z in
            let q = same_counted z in
            let o = fits.once z (omega (arith, k, c, d, q)) in
            let o0 = o.0 in
            let o1 = o.1 in
            (omega (arith, c, d, q, o0), omega (arith, h, o1))
        by (inr w) h =
            let c = (w z).0 in
            let d = count_split z in
            let o = fits.once z (omega (arith, k, c, d)) in
            let o0 = o.0 in
            let o1 = o.1 in
            (omega (arith, k, c, d, o0), omega (arith, h, o1))

    known_after : AreKnownSpent x y y
    known_after z k c = by put.went (or_not z e)
      where
        by : WentTo f rest x.retired bag retired → (end_name e ≡ z) ⊎ (counted z e ≡ 0) → (0 < count_of z retired) ⊎
            ((0 < held_state z x.now.state) × (count_of z x.bag ≡ 0))
        by (inl w) o =
            let i = (w z).0 in
            let d = count_split z in
            let q = same_counted z in
            inr (before z k, omega (arith, c, i, d, q))
        by (inr w) (inl j) =
            let i = (w z).1 in
            let q = counted_so z f (nf ∙ sym ne ∙ j) in
            inl (omega (arith, i, q))
        by (inr w) (inr j) =
            let i = (w z).0 in
            let d = count_split z in
            inr (before z k, omega (arith, c, i, d, j))

    pub exchanged_fits : FitsIn m a y
    exchanged_fits = record {
      none_made = fits.none_made;
      none_forked = fits.none_forked;
      follows = follows_more (program_in m) x.path x.first x.log x.now g fits.follows enters;
      typed = record {
        residuals = rF;
        are = are;
        type = fits.typed.type;
        typed = rested_typed r1 rF n nx later_n at_n others_F m now'.state fits.typed.type goes.0;
        main = fits.typed.main;
      };
      unspent = put.unspent (All-tail IsOpen e rest open_before);
      once = once_after;
      named = λ z k. let h = fits.named z (before z k) in
          record { behind = h.behind; leads = h.leads; own = λ q. let c = h.own q in omega (arith, c, same_made) };
      ends = put.ends m now' f_later rest_later;
      spent = put.spent idle fits.spent;
      past = put.past g.stamp past (later_past x.now.clock g.stamp (omega (arith, clock_later)) x.retired fits.past);
      opened =
          let o = fits.opened in
          let c = none_opened m.types g.asked g.answer x.now.made same_made in
          opened_more m.types x.log g x.now.made now'.made o (omega (arith, c, same_made));
      made = let c = few_made g.answer x.now.made in let d = fits.made in omega (arith, c, d, clock_later);
      forked = let c = few_forks g.answer x.now.forked in let d = fits.forked in omega (arith, c, d, clock_later);
    }

    sums : (w : EndView → ℕ) → (sum_by w bag + sum_by w retired) + w e ≡ of_ends w x + w f
    sums w =
        let a = put.sums w in
        let b = sum_by-IsPermutation w x.bag (e ∷ rest) moved.before in
        let c = sum_by-cons w e rest in
        omega (arith, a, b, c)

    pub exchanged_turn : births (program_in m) x.path x.now (g ∷ []) ≡ [] → openings m.types (g ∷ []) ≡ [] →
        f.channel ≡ e.channel → f.cell ≡ e.cell →
        f.knows.side ≡ e.knows.side → f.knows.declared ≡ e.knows.declared →
        ((w : Exchange → ℕ) → by_exchanges w f ≡ by_exchanges w e + sum_by w (exchanges x.now.clock (g ∷ []))) →
        Turn m x y []
    exchanged_turn no_births no_openings channel cell side declared shows = record {
      gained = g ∷ [];
      log = refl;
      path = refl;
      first = refl;
      idle = All-nil (λ (k : Thread). k.log ≡ []);
      born = λ w. sym (ap (sum_by w) no_births);
      typed = λ s w.
          let q = sums (by_type s w) in
          let b : by_type s w f ≡ by_type s w e = λ i. on_side s (side i) (w (channel i) (declared i)) in
          let c = ap (sum_by (λ (o : Opening). w o.name o.declared)) no_openings in
          omega (arith, q, b, c);
      cells = λ w.
          let l = sums (by_cell Left w) in
          let d = sums (by_cell Right w) in
          let b : by_cell Left w f ≡ by_cell Left w e = λ i. on_side Left (side i) (w (channel i) (cell i)) in
          let c : by_cell Right w f ≡ by_cell Right w e = λ i. on_side Right (side i) (w (channel i) (cell i)) in
          omega (arith, l, d, b, c);
      exchanged = λ w.
          let q = sums (by_exchanges w) in
          let b = shows w in
          omega (arith, q, b);
      spent = put.more;
      kept = put.kept;
      known = known_after;
      known_new = All-nil (AreKnownSpent x y);
    }
