-- Channels whose names rise are in the order in which each task has made them.
use Rattle.std.proofs.Common.{◌≡◌, ◌∙◌, ◌<◌, ◌≤◌, ℕ, zero, suc, ◌+◌, Bool, true, false, List, [], ◌∷◌, get_or, map, refl, sym, ap, subst, arith}
use Rattle.std.specs.List.{AllByRecursion}
use Rattle.std.specs.List.Sorted.{IsStrictlySortedBy}
use Rattle.std.specs.Prelude.{sum_by, All, Contains, if◌then◌else◌, ⊤}
use Rattle.std.specs.declared.cmp.Ordering.TheVariants.{Less}
use Rattle.std.proofs.lemmas.List.Elements.{All-nil, All-cons, All-head, All-tail, All-map, All-weaker, All-contains, All-contains_itself}
use Rattle.fst_types.specs.Tree.{Tree}
use Rattle.fst_derivations.specs.Rules.{Surroundings}
use Rattle.fst_types.specs.declared.event.ChannelHistory.{ChannelHistory}
use Rattle.fst_paths.specs.Paths.{put_at}
use Rattle.fst_paths.proofs.Laws.{put_cases}
use Rattle.fst_runs.specs.Configs.{Path, same_path, same_channel}
use Rattle.fst_runs.specs.Wrong.{once}
use Rattle.fst_runs.proofs.Laws.{same_path-itself, same_path-same}
use Rattle.fst_process.specs.Resuming.{made_by, AreNumbered}
use Rattle.fst_cell.specs.declared.answers.Closed.{Closed}
use Rattle.fst_runs.specs.Logs.{Birth}
use Rattle.fst_safety.specs.Threads.{Thread, FitsIn}
use Rattle.fst_safety.specs.WellTyped.{program_in}
use Rattle.fst_records.specs.Records.{Course, IsLogged, opens as course_opens}
use Rattle.fst_worker.specs.Works.{course_of, opens}
use Rattle.fst_worker.specs.Records.{Pair, IsOver, histories_of}
use Rattle.fst_worker.specs.Closing.{name_cmp, names_of}
use Rattle.fst_worker.specs.Resumes.{OrderLaw}
use Rattle.fst_records.proofs.Laws.{opened_in, on_path, on_name, counts_rise, paths_once, some_in, channel_counts, there_sums}
use Rattle.fst_worker.proofs.Ended.{histories_same}
use Rattle.fst_worker.proofs.Mapped.{sum_mapped, mapped_in}
use Rattle.fst_worker.proofs.Resuming.{made_is}
use Rattle.fst_worker.proofs.Shutting.{are_opened}

-- the number of a channel
abbrev number : ChannelHistory → ℕ
number k = k.name.count

-- the one channel has a smaller number than the other, where they have one maker
abbrev IsBefore : ChannelHistory → ChannelHistory → Type 0
IsBefore k g = k.name.maker ≡ g.name.maker → number k < number g

-- each channel is before those behind it
abbrev Rise : List ChannelHistory → Type 0
Rise [] = ⊤
Rise (k ∷ ks) = All (IsBefore k) ks × Rise ks

-- so are those of closed channels whose names rise
all_before : (k : ChannelHistory) (cs : List Closed) → AllByRecursion (λ h. name_cmp k.name h ≡ Less) (names_of cs) →
    All (IsBefore k) (map (λ (c : Closed). c.history) cs)
all_before k [] s = All-nil (IsBefore k)
all_before k (c ∷ cs) s =
    All-cons (IsBefore k) c.history (map (λ (c : Closed). c.history) cs) (counts_rise k.name c.history.name s.0)
    (all_before k cs s.1)

rise : (cs : List Closed) → IsStrictlySortedBy name_cmp (names_of cs) → Rise (map (λ (c : Closed). c.history) cs)
unfolding IsStrictlySortedBy
rise [] s = tt
rise (c ∷ cs) s = (all_before c.history cs s.0, rise cs s.1)

-- a channel of this maker has a number above the one and up to the other
abbrev IsBetween : Path → ℕ → ℕ → ChannelHistory → Type 0
IsBetween p n t g = p ≡ g.name.maker → (n < number g) × (number g ≤ t)

-- those of one maker that rise are no more than the numbers that there are
no_more : (p : Path) (n t : ℕ) (ks : List ChannelHistory) → Rise ks → n ≤ t → All (IsBetween p n t) ks → made_by p ks + n ≤ t
no_more p n t [] r le all = omega (arith, le)
no_more p n t (k ∷ ks) r le all = by (λ n. no_more p n t ks r.1) (same_path k.name.maker p) refl
  where
    rest : All (IsBetween p n t) ks
    rest = All-tail (IsBetween p n t) k ks all

    by : ((n : ℕ) → n ≤ t → All (IsBetween p n t) ks → made_by p ks + n ≤ t) → (b : Bool) → same_path k.name.maker p ≡ b →
        (if b then suc (made_by p ks) else made_by p ks) + n ≤ t
    by more false e = more n le rest
    by more true e =
        let q = same_path-same k.name.maker p e in
        let h = All-head (IsBetween p n t) k ks all (sym q) in
        let l = more (number k) h.1 (λ i d lt s. (r.0 i d lt (q ∙ s), (rest i d lt s).1)) in
        omega (arith, h, l)

-- where each task has made so many channels before, and so many in all, the channel is one that it makes now
abbrev IsWithin : (Path → ℕ) → (Path → ℕ) → ChannelHistory → Type 0
IsWithin f t k = (f k.name.maker < number k) × (number k ≤ t k.name.maker)

-- these are all that it makes now
record AreNext (f t : Path → ℕ) (ks : List ChannelHistory) : Type 0 where
  rising : Rise ks
  within : All (IsWithin f t) ks
  total : (p : Path) → f p + made_by p ks ≡ t p

module _ (f t : Path → ℕ) (k : ChannelHistory) (ks : List ChannelHistory) (next : AreNext f t (k ∷ ks)) where
  -- its maker
  abbrev p : Path
  p = k.name.maker

  rest_within : All (IsWithin f t) ks
  rest_within = All-tail (IsWithin f t) k ks next.within

  -- the first is the next one of its maker
  first_is : number k ≡ suc (f p)
  first_is =
      let h = All-head (IsWithin f t) k ks next.within in
      let l = no_more p (number k) (t p) ks next.rising.1 h.1
      (λ i d lt s. (next.rising.0 i d lt s, let g = (rest_within i d lt).1 in let e = ap t s in omega (arith, g, e))) in
      let c = ap (λ (b : Bool). if b then suc (made_by p ks) else made_by p ks) (same_path-itself p) in
      let s = next.total p in
      omega (arith, h, l, c, s)

  -- and the others are next after it
  rest_next : AreNext (put_at p (suc (f p)) f) t ks
  rest_next = record {
    rising = next.rising.1;
    within = λ i d lt.
        let g = get_or ks i d in
        let w = rest_within i d lt in (
          put_cases (λ j. j < number g) p g.name.maker (suc (f p)) f
              (λ e. let b = next.rising.0 i d lt e in let c = first_is in omega (arith, b, c)) (λ e. w.0),
          w.1,
        );
    total = λ q. by q (same_path p q) refl (next.total q);
  }
    where
      by : (q : Path) (b : Bool) → same_path p q ≡ b → f q + (if b then suc (made_by q ks) else made_by q ks) ≡ t q →
          (if b then suc (f p) else f q) + made_by q ks ≡ t q
      by q false e s = s
      by q true e s = let g = ap f (same_path-same p q e) in omega (arith, g, s)

-- so they have the next numbers
numbered : (f t : Path → ℕ) (ks : List ChannelHistory) → AreNext f t ks → AreNumbered f ks
numbered f t [] n = tt
numbered f t (k ∷ ks) n = (
  first_is f t k ks n,
  numbered (put_at k.name.maker (suc (f k.name.maker)) f) t ks (rest_next f t k ks n),
)

module _ (m : Surroundings) (a : Tree) (main : Birth) (xs : List Thread) (ps : List Pair) (over : IsOver m a main xs ps) where
  -- the histories of the closed channels
  abbrev ks : List ChannelHistory
  ks = histories_of ps

  -- the courses of the threads
  abbrev ys : List Course
  ys = map course_of xs

  -- their logs are those of tasks that have come along by them
  logged : All (IsLogged (program_in m) m.types) ys
  logged = All-map (IsLogged (program_in m) m.types) course_of xs
      (All-weaker (FitsIn m a) (λ (x : Thread). IsLogged (program_in m) m.types (course_of x))
      (λ x f. record { none_made = f.none_made; none_forked = f.none_forked; follows = f.follows; opened = f.opened }) xs
      over.run.fit)

  once_path : (p : Path) → sum_by (on_path p) ys ≤ 1
  once_path p =
      let e = sum_mapped course_of (on_path p) xs in
      let b = paths_once course_of (program_in m) main xs over.run.root over.run.whole.births p in
      omega (arith, e, b)

  -- those of a task are as many as it has made
  made : (y : Thread) → Contains xs y → made_by y.path ks ≡ y.now.made
  made y c =
      made_is (program_in m) m.types ys ks once_path
      (λ w. are_opened m a main xs ps over w ∙ sym (sum_mapped course_of (course_opens m.types w) xs)) logged (course_of y)
      (mapped_in course_of xs y c)

  -- a closed channel has one of the numbers that its maker has given
  within : (k : ChannelHistory) → Contains ks k → (0 < number k) × (number k ≤ made_by k.name.maker ks)
  within k c =
      let b = there_sums (on_name k.name) ks k c in
      let d = channel_counts k.name k.name refl in
      let q = are_opened m a main xs ps over (λ h t. once (same_channel k.name h)) in
      let y = some_in (opens m (λ h t. once (same_channel k.name h))) xs (omega (arith, b, d, q)) in
      let o = opened_in (program_in m) m.types k.name y.0.path y.0.first y.0.log y.0.now
      (All-contains (FitsIn m a) xs y.0 over.run.fit y.1).follows y.2 in
      let e = made y.0 y.1 in
      let g = ap (λ p. made_by p ks) o.maker in
      let l = o.last in
      (o.first, omega (arith, e, g, l))

-- so it is at the end of each run
pub in_order : OrderLaw
in_order m a main xs ps over cs is sorted =
    let e = histories_same ps ∙ ap (map (λ (c : Closed). c.history)) is in
    subst (AreNumbered (λ p. zero)) e (numbered (λ p. zero) (λ p. made_by p (histories_of ps)) (histories_of ps) (record {
      rising = subst Rise (sym e) (rise cs sorted);
      within = λ i d lt. within m a main xs ps over _ (All-contains_itself (histories_of ps) i d lt);
      total = λ p. omega arith;
    }))
