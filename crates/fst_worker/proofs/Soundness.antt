-- Threads all of whose ends know all of their channels make a sound configuration.
use Rattle.std.proofs.Common.{◌≡◌, ◌∙◌, ◌⊎◌, inl, inr, ◌<◌, ◌≤◌, ℕ, zero, suc, ◌+◌, true, false, Option, Some, None, IsSome, List, [], ◌∷◌, map, refl, sym, ap, subst, arith}
use Rattle.std.specs.Prelude.{sum_by, All, Contains, option_and_then}
use Rattle.std.proofs.lemmas.List.Elements.{All-contains}
use Rattle.std.proofs.lemmas.List.Sums.{sum_by-cons}
use Rattle.std.proofs.lemmas.Option.{none-some, same_Some}
use Rattle.fst_base.proofs.Lists.{from_contains, contains_none}
use Rattle.fst_types.specs.Tree.{Tree, skip}
use Rattle.fst_types.specs.declared.side.Side.{Side}
use Rattle.fst_types.specs.declared.side.Side.TheVariants.{Left, Right}
use Rattle.fst_kinds.specs.WellFormed.{IsSession}
use Rattle.fst_lts.specs.Step.{step, terminated}
use Rattle.fst_lts.specs.Histories.{sending, receiving, over, after_event, after_history}
use Rattle.fst_derivations.specs.Rules.{Surroundings}
use Rattle.fst_types.specs.declared.ends.ChannelName.{ChannelName}
use Rattle.fst_types.specs.declared.ends.EndName.{EndName}
use Rattle.fst_types.specs.declared.event.ChannelHistory.{ChannelHistory}
use Rattle.fst_types.specs.declared.event.Entry.{Entry}
use Rattle.fst_types.specs.declared.event.Event.{Event}
use Rattle.fst_runs.specs.Configs.{Path, Task, Channel, Config, same_path, same_channel, same_end, channel_residual, residual_in, child_path, main_path, channel_in}
use Rattle.fst_runs.specs.Names.{HasMakers, HasParents}
use Rattle.fst_runs.specs.Wrong.{once, held_state, amount, IsUnspent, IsOwned}
use Rattle.fst_runs.proofs.Laws.{same_path-itself}
use Rattle.fst_cell.specs.End.{EndView, end_name, residual_of}
use Rattle.fst_safety.specs.Running.{Equals}
use Rattle.fst_safety.specs.Fitting.{Residuals, IsTyped}
use Rattle.fst_safety.specs.WellTyped.{program_in}
use Rattle.fst_runs.specs.Logs.{Birth}
use Rattle.fst_safety.specs.Sound.{IsSound, IsTrace}
use Rattle.fst_safety.specs.Threads.{Thread, FitsIn, IsSpent, count_of}
use Rattle.fst_safety.specs.Turns.{of_ends, by_type}
use Rattle.fst_lts.proofs.Laws.{dual_session}
use Rattle.fst_safety.proofs.Laws.{there, equals_back, equals_itself, session_formed, session_step, Still, typed_still, ended_equal, sides_from, trace_from}
use Rattle.fst_worker.specs.Works.{IsRun, IsKnownIn, course_of, bears, opens}
use Rattle.fst_records.specs.Records.{Course, FitsRecord, IsRecorded, config_of, opens as course_opens}
use Rattle.fst_records.proofs.Laws.{IsMadeBy, forked_by, opened_in, on_path, has_task, task_there, on_name, channel_of, has_channel, at_path, main_not, paths_once, some_in, sum_same, path_counts, channel_counts, there_sums}
use Rattle.fst_worker.proofs.Apart.{ends_once}
use Rattle.fst_worker.proofs.Mapped.{sum_mapped, mapped_in, mapped_from}
use Rattle.fst_worker.proofs.Sides.{by_side}

-- ---- session types

session_event : (s t : Tree) (ev : Event) → IsSession [] s → after_event s ev ≡ Some t → IsSession [] t
session_event s t ev h e = by (step s (sending ev)) refl e
  where
    by : (o : Option Tree) → step s (sending ev) ≡ o → over o (step s (receiving ev)) ≡ Some t → IsSession [] t
    by None q e = session_step s t (receiving ev) h e
    by (Some u) q e = session_step s t (sending ev) h (q ∙ e)

-- what a history leaves of a session type is one
session_after : (s t : Tree) (es : List Entry) → IsSession [] s → after_history s es ≡ Some t → IsSession [] t
session_after s t [] h e = subst (IsSession []) (same_Some s t e) h
session_after s t (d ∷ es) h e = by (after_event s d.event) refl (λ u. session_after u t es) e
  where
    by : (o : Option Tree) → after_event s d.event ≡ o →
        ((u : Tree) → IsSession [] u → after_history u es ≡ Some t → IsSession [] t) →
        option_and_then (λ y. after_history y es) o ≡ Some t → IsSession [] t
    by None q more e = absurd (none-some t e)
    by (Some u) q more e = more u (session_event s u d.event h q) e

some_is : {X : Type 0} (o : Option X) → IsSome o → (x : X) × (o ≡ Some x)
some_is None h = absurd (cc h)
some_is (Some x) h = (x, refl)

-- both sides of a channel fit where its history is a trace
pub trace_of : (k : ChannelHistory) → IsRecorded k → IsTrace (channel_of k)
trace_of k q =
    let u = some_is (after_history k.declared k.entries.items) q.trace in
    trace_from (channel_of k) Left u.0 q.formed (session_after k.declared u.0 k.entries.items q.formed u.1)
    (sides_from (channel_of k) Left u.0 u.1)

-- ---- ends that know all of their channels

-- the residual that these channels give an end
abbrev pub residual_at : List ChannelHistory → EndName → Option Tree
residual_at ks z = option_and_then (channel_residual z.side) (channel_in ks z.channel)

-- the end has the residual that the channels give it
abbrev pub IsLevel : List ChannelHistory → EndView → Type 0
IsLevel ks e = residual_at ks (end_name e) ≡ residual_of e.knows

-- so have all ends of the thread
abbrev pub AreLevel : List ChannelHistory → Thread → Type 0
AreLevel ks x = All (IsLevel ks) x.bag × All (IsLevel ks) x.retired

all_both : {X : Type 0} (P Q : X → Type 0) (xs : List X) → All P xs → All Q xs → All (λ (x : X). P x × Q x) xs
all_both P Q xs p q = λ k d l. (p k d l, q k d l)

-- two threads of different paths are both in a sum
both_sum : (f : Thread → ℕ) (xs : List Thread) (x y : Thread) → Contains xs x → Contains xs y →
    (x.path ≡ y.path → ⊥) → f x + f y ≤ sum_by f xs
both_sum f [] x y c d n = absurd (contains_none x c)
both_sum f (t ∷ xs) x y c d n = by (λ c d. both_sum f xs x y c d n) (from_contains xs x t c) (from_contains xs y t d)
  where
    by : (Contains xs x → Contains xs y → f x + f y ≤ sum_by f xs) → (t ≡ x) ⊎ Contains xs x →
        (t ≡ y) ⊎ Contains xs y → f x + f y ≤ sum_by f (t ∷ xs)
    by more (inl i) (inl j) = absurd (n (ap (λ (t : Thread). t.path) (sym i ∙ j)))
    by more (inl i) (inr d) =
        let a = sum_by-cons f t xs in
        let b = there_sums f xs y d in
        let e = ap f i in
        omega (arith, a, b, e)
    by more (inr c) (inl j) =
        let a = sum_by-cons f t xs in
        let b = there_sums f xs x c in
        let e = ap f j in
        omega (arith, a, b, e)
    by more (inr c) (inr d) =
        let a = sum_by-cons f t xs in
        let b = more c d in
        omega (arith, a, b)

module _ (m : Surroundings) (a : Tree) (main : Birth) (ys : List Thread) (ks : List ChannelHistory) (run : IsRun m a main ys)
    (fits : FitsRecord (program_in m) m.types main (map course_of ys) ks) (levels : All (AreLevel ks) ys) where
  -- the configuration
  abbrev c : Config
  c = config_of (map course_of ys) ks

  -- its residuals
  abbrev r : Residuals
  r = residual_in c

  fits_of : (y : Thread) → Contains ys y → FitsIn m a y
  fits_of y i = All-contains (FitsIn m a) ys y run.fit i

  level_of : (y : Thread) → Contains ys y → AreLevel ks y
  level_of y i = All-contains (AreLevel ks) ys y levels i

  -- no two threads have one path
  once_path : (p : Path) → sum_by (on_path p) (map course_of ys) ≤ 1
  once_path p =
      let a = sum_mapped course_of (on_path p) ys in
      let b = paths_once course_of (program_in m) main ys run.root run.whole.births p in
      omega (arith, a, b)

  -- the task of a thread is there
  pub task_is : (y : Thread) → Contains ys y → c.tasks y.path ≡ Some y.now
  task_is y i = task_there (map course_of ys) (course_of y) (mapped_in course_of ys y i) (once_path y.path)

  -- the thread whose task this is
  record HasThread (p : Path) (t : Task) : Type 0 where
    thread : Thread
    there : Contains ys thread
    path : thread.path ≡ p
    now : thread.now ≡ t

  -- a task that is there is that of a thread
  has_thread : (p : Path) (t : Task) → c.tasks p ≡ Some t → HasThread p t
  has_thread p t e =
      let g = has_task (map course_of ys) p t e in
      let x = mapped_from course_of ys g.course g.there in
      record {
        thread = x.0;
        there = x.1;
        path = ap (λ (y : Course). y.path) x.2 ∙ g.path;
        now = ap (λ (y : Course). y.now) x.2 ∙ g.now;
      }

  -- the channels are those that the logs of the threads open
  are_opened : (w : ChannelName → Tree → ℕ) → sum_by (λ (k : ChannelHistory). w k.name k.declared) ks ≡ sum_by (opens m w) ys
  are_opened w = fits.channels w ∙ sum_mapped course_of (course_opens m.types w) ys

  -- ---- both sides of each channel

  -- both sides of each channel fit
  pub traces : (h : ChannelName) (j : Channel) → c.channels h ≡ Some j → IsTrace j
  traces h j e =
      let g = has_channel ks h j e in
      subst IsTrace g.is (trace_of g.history (All-contains IsRecorded ks g.history fits.histories g.there))

  side_session : (s : Side) (j : Channel) (t : Tree) → IsTrace j → channel_residual s j ≡ Some t → IsSession [] t
  side_session Left j t i e = subst (IsSession []) (same_Some i.0 t (sym i.3 ∙ e)) i.2
  side_session Right j t i e = subst (IsSession []) (same_Some _ t (sym i.4 ∙ e)) (dual_session [] i.0 i.2)

  -- the channel of an end that has a residual
  record HasHistory (z : EndName) (t : Tree) : Type 0 where
    channel : Channel
    there : c.channels z.channel ≡ Some channel
    residual : channel_residual z.side channel ≡ Some t

  history_of : (z : EndName) (t : Tree) → r z ≡ Some t → HasHistory z t
  history_of z t e = by (c.channels z.channel) refl e
    where
      by : (o : Option Channel) → c.channels z.channel ≡ o → option_and_then (channel_residual z.side) o ≡ Some t → HasHistory z t
      by None q e = absurd (none-some t e)
      by (Some j) q e = record { channel = j; there = q; residual = e }

  -- residuals are session types
  session_of : (z : EndName) (t : Tree) → r z ≡ Some t → IsSession [] t
  session_of z t e = let g = history_of z t e in side_session z.side g.channel t (traces z.channel g.channel g.there) g.residual

  -- ---- spent ends

  -- the end is spent in the configuration
  record IsOver (z : EndName) : Type 0 where
    residual : Tree
    is : r z ≡ Some residual
    done : terminated residual ≡ true

  over_in : (z : EndName) (y : Thread) → Contains ys y → 0 < count_of z y.retired → IsOver z
  over_in z y i n = by (there (λ (e : EndView). IsSpent e × IsLevel ks e) z y.retired n
      (all_both IsSpent (IsLevel ks) y.retired (fits_of y i).spent (level_of y i).1))
    where
      by : (e : EndView) × (end_name e ≡ z) × (IsSpent e × IsLevel ks e) → IsOver z
      by (e, q, s) = record { residual = s.0.residual; is = ap r (sym q) ∙ s.1 ∙ s.0.is; done = s.0.done }

  -- an end that is among the spent ones of some thread
  over_known : (z : EndName) → 0 < sum_by (λ (y : Thread). count_of z y.retired) ys → IsOver z
  over_known z n = let g = some_in (λ (y : Thread). count_of z y.retired) ys n in over_in z g.0 g.1 g.2

  not_over : (z : EndName) → IsUnspent r z → IsOver z → ⊥
  not_over z u o =
      let same : u.0 ≡ o.residual = same_Some u.0 o.residual (sym u.1 ∙ o.is) in
      let both : false ≡ true = sym u.2 ∙ ap terminated same ∙ o.done in
      absurd (cc both)

  -- ---- tasks

  positive : (n : ℕ) → (n ≡ 0 → ⊥) → 0 < n
  positive zero h = absurd (h refl)
  positive (suc n) h = omega arith

  module _ (y : Thread) (i : Contains ys y) where
    abbrev f : FitsIn m a y
    f = fits_of y i

    -- what the thread knows of the ends that stand in its state is equal to what the channels give
    still : Still m f.typed.residuals r (λ z. held_state z y.now.state)
    still z s e k n = by (count_of z y.bag) refl
      where
        ended : IsOver z → count_of z y.bag ≡ 0 → (u : Tree) × (r z ≡ Some u) × IsSession [] u × Equals u s
        ended o q =
            let g = session_of z o.residual o.is in
            let is : skip ≡ s = same_Some skip s (sym (f.typed.are.others z q) ∙ e) in
            (o.residual, o.is, g, subst (Equals o.residual) is (equals_back (ended_equal o.residual g o.done)))

        open_end : (e : EndView) × (end_name e ≡ z) × ((f.typed.residuals (end_name e) ≡ residual_of e.knows) × IsLevel ks e) →
            (u : Tree) × (r z ≡ Some u) × IsSession [] u × Equals u s
        open_end (d, q, g) = (s, ap r (sym q) ∙ g.1 ∙ sym g.0 ∙ ap f.typed.residuals q ∙ e, k, equals_itself s (session_formed k))

        by : (j : ℕ) → count_of z y.bag ≡ j → (u : Tree) × (r z ≡ Some u) × IsSession [] u × Equals u s
        by zero q = ended (over_known z (All-contains (IsKnownIn ys) ys y run.whole.known i z
            (positive (held_state z y.now.state) n) q)) q
        by (suc j) q = open_end (there (λ (e : EndView). (f.typed.residuals (end_name e) ≡ residual_of e.knows) × IsLevel ks e) z
            y.bag (omega (arith, q))
            (all_both (λ (e : EndView). f.typed.residuals (end_name e) ≡ residual_of e.knows) (IsLevel ks) y.bag f.typed.are.known
            (level_of y i).0))

    typed : IsTyped m r y.now.state f.typed.type
    typed = typed_still m f.typed.residuals r y.now.state f.typed.type f.typed.typed still

  -- each task has a type, main's has this one
  pub tasks : (p : Path) (t : Task) → c.tasks p ≡ Some t → (b : Tree) × IsTyped m r t.state b × (p ≡ main_path → b ≡ a)
  tasks p t e =
      let g = has_thread p t e in
      let f = fits_of g.thread g.there in (
        f.typed.type,
        subst (λ (t : Task). IsTyped m r t.state f.typed.type) g.now (typed g.thread g.there),
        λ q. f.typed.main (g.path ∙ q),
      )

  -- ---- owners

  -- an end of this name
  abbrev named_so : EndName → EndView → ℕ
  named_so z e = once (same_end z (end_name e))

  -- the ends of a channel that is there are among those of the threads
  end_there : (z : EndName) (j : Channel) → c.channels z.channel ≡ Some j → 0 < sum_by (of_ends (named_so z)) ys
  end_there z j e =
      let g = has_channel ks z.channel j e in
      let w = λ (n : ChannelName) (t : Tree). once (same_channel z.channel n) in
      let n = there_sums (on_name z.channel) ks g.history g.there in
      let o = channel_counts z.channel g.history.name (sym g.name) in
      let q = are_opened w in
      let t = run.whole.typed z.side w in
      let same = λ (e : EndView). by_side (same_channel z.channel e.channel) z.side e.knows.side in
      let s = sum_same (of_ends (by_type z.side w)) (of_ends (named_so z))
      (λ x.
      let b = sum_same (by_type z.side w) (named_so z) same x.bag in
      let c = sum_same (by_type z.side w) (named_so z) same x.retired in
      omega (arith, b, c)) ys in
      omega (arith, n, o, q, t, s)

  module _ (z : EndName) (u : IsUnspent r z) where
    -- it stands among the open ends of one thread
    open_in : (y : Thread) × Contains ys y × (0 < count_of z y.bag)
    open_in =
        let g = history_of z u.0 u.1 in
        let h = some_in (of_ends (named_so z)) ys (end_there z g.channel g.there) in
        (h.0, h.1, by h.0 h.1 h.2 (count_of z h.0.bag) refl)
      where
        by : (y : Thread) → Contains ys y → 0 < of_ends (named_so z) y → (n : ℕ) → count_of z y.bag ≡ n → 0 < count_of z y.bag
        by y i n zero q = absurd (not_over z u (over_in z y i (omega (arith, n, q))))
        by y i n (suc j) q = omega (arith, q)

    -- and in no other thread's state
    none_else : (y x : Thread) → Contains ys y → 0 < count_of z y.bag → Contains ys x →
        (y.path ≡ x.path → ⊥) → held_state z x.now.state ≡ 0
    none_else y x i n j apart = by (held_state z x.now.state) refl (count_of z x.bag) refl
      where
        by : (h : ℕ) → held_state z x.now.state ≡ h → (k : ℕ) → count_of z x.bag ≡ k → h ≡ 0
        by zero p k q = refl
        by (suc h) p zero q = absurd (not_over z u (over_known z
            (All-contains (IsKnownIn ys) ys x run.whole.known j z (omega (arith, p)) q)))
        by (suc h) p (suc k) q =
            let o = ends_once m a main ys run z in
            let b = both_sum (of_ends (named_so z)) ys y x i j apart in
            absurd (omega (arith, o, b, n, q))

    held_else : (y : Thread) → Contains ys y → 0 < count_of z y.bag → (q : Path) → same_path y.path q ≡ false →
        (o : Option Task) → c.tasks q ≡ o → amount z o ≡ 0
    held_else y i n q s None e = refl
    held_else y i n q s (Some t) e =
        let g = has_thread q t e in
        sym (ap (λ (t : Task). held_state z t.state) g.now) ∙ none_else y g.thread i n g.there (λ k. differ (k ∙ g.path))
      where
        differ : y.path ≡ q → ⊥
        differ k =
            let both : false ≡ true = sym s ∙ ap (same_path y.path) (sym k) ∙ same_path-itself y.path in
            absurd (cc both)

    -- one task holds it, once
    pub owned : IsOwned c z
    owned =
        let g = open_in in (
          g.0.path,
          ap (amount z) (task_is g.0 g.1) ∙ ((fits_of g.0 g.1).once z g.2).1,
          λ q s. held_else g.0 g.1 g.2 q s (c.tasks q) refl,
        )

  -- ---- names

  -- the channel is one that a thread has made
  record HasMaker (h : ChannelName) : Type 0 where
    thread : Thread
    there : Contains ys thread
    made : IsMadeBy thread.path thread.now.made h

  maker_of : (h : ChannelName) (j : Channel) → c.channels h ≡ Some j → HasMaker h
  maker_of h j e =
      let g = has_channel ks h j e in
      let w = λ (n : ChannelName) (t : Tree). once (same_channel h n) in
      let n = there_sums (on_name h) ks g.history g.there in
      let o = channel_counts h g.history.name (sym g.name) in
      let q = are_opened w in
      let s = some_in (opens m w) ys (omega (arith, n, o, q)) in
      let f = fits_of s.0 s.1 in
      record {
        thread = s.0;
        there = s.1;
        made = opened_in
            (program_in m) m.types h s.0.path s.0.first s.0.log s.0.now f.follows s.2;
      }

  -- the task that made a channel is there, and has made as many
  pub makers : HasMakers c
  makers h j e =
      let g = maker_of h j e in
      (g.thread.now, ap c.tasks g.made.maker ∙ task_is g.thread g.there, g.made.first, g.made.last)

  -- the task that forked a task is there, and has forked more than those before it
  pub parents : HasParents c
  parents p k t e =
      let g = has_thread (child_path p k) t e in
      let x = child_path p k in
      let n = there_sums (λ (y : Thread). on_path x (course_of y)) ys g.thread g.there in
      let o = path_counts x g.thread.path (sym g.path) in
      let b = run.whole.births (at_path x) in
      let z = main_not course_of (program_in m) main ys run.root run.whole.births p k in
      let s = some_in (bears m (at_path x)) ys (omega (arith, n, o, b, z)) in
      let f = fits_of s.0 s.1 in
      let q = forked_by (program_in m) p k s.0.path s.0.first s.0.log s.0.now f.follows s.2 in
      (s.0.now, ap c.tasks q.0 ∙ task_is s.0 s.1, q.1)

  -- the configuration is sound
  pub is_sound : IsSound m a c
  is_sound = record { tasks = tasks; owned = owned; traces = traces; makers = makers; parents = parents }
