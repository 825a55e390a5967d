-- Tasks are told what of theirs was taken, and then logs and histories are a record.
use Rattle.std.proofs.Common.{◌≡◌, ◌∙◌, ◌⊎◌, inl, inr, ◌<◌, ◌≤◌, ℕ, zero, suc, ◌+◌, Bool, true, List, [], ◌∷◌, ◌++◌, Option, Some, None, refl, sym, ap, arith}
use Rattle.std.specs.Prelude.{sum_by, All, Contains, option_to_list}
use Rattle.std.proofs.lemmas.List.{append-nil}
use Rattle.std.proofs.lemmas.List.Elements.{All-nil, All-cons, All-head, All-tail, All-weaker, All-contains, All-contains_itself}
use Rattle.std.proofs.lemmas.List.Sums.{sum_by-cons}
use Rattle.fst_base.proofs.Lists.{from_contains, contains_none}
use Rattle.fst_types.specs.Tree.{Tree}
use Rattle.fst_types.specs.declared.side.Side.TheVariants.{Left, Right}
use Rattle.fst_derivations.specs.Rules.{Surroundings}
use Rattle.fst_types.specs.declared.ends.ChannelName.{ChannelName}
use Rattle.fst_types.specs.declared.ends.EndName.{EndName}
use Rattle.fst_types.specs.declared.event.ChannelHistory.{ChannelHistory}
use Rattle.fst_types.specs.declared.event.Entry.{Entry}
use Rattle.fst_types.specs.declared.event.Event.{Event}
use Rattle.fst_machine.specs.declared.request.Request.TheVariants.{Put}
use Rattle.fst_machine.specs.declared.request.Answer.TheVariants.{Sent}
use Rattle.fst_machine.specs.Machine.{State, answered}
use Rattle.fst_machine.specs.Machine as machine
use Rattle.fst_runs.specs.Configs.{Path, Task, same_end}
use Rattle.fst_runs.specs.Wrong.{once}
use Rattle.fst_cell.specs.declared.content.Offer.{Offer}
use Rattle.fst_cell.specs.End.{EndView, end_name}
use Rattle.fst_runs.specs.declared.log.LogEntry.{LogEntry}
use Rattle.fst_safety.specs.WellTyped.{program_in}
use Rattle.fst_runs.specs.Logs.{Birth, Exchange, Opening, births, exchanges, openings}
use Rattle.fst_safety.specs.Threads.{Thread, FitsIn, FitsEnd, count_of}
use Rattle.fst_safety.specs.Turns.{of_ends, by_exchanges, birth}
use Rattle.fst_runs.proofs.Laws.{follows_more, opened_more}
use Rattle.fst_records.specs.Records.{Course, FitsRecord, IsLogged, IsRecorded, began, shown_of, shows, bears as course_bears, opens as course_opens, trades as course_trades}
use Rattle.fst_worker.specs.Works.{course_of, bears, opens, trades}
use Rattle.fst_worker.specs.Records.{Pair, IsShut, IsOver, histories_of, missing, lag_by, lag, told_course, IsTrailing, Caught, AllCaught}
use Rattle.fst_worker.specs.Laws.{Finishes, RecordLaw}
use Rattle.fst_worker.proofs.Partners.{counted, in_bag}
use Rattle.fst_worker.proofs.Shown.{shown_more}
use Rattle.fst_worker.proofs.Shutting.{IsBehind, EndsPass, settled, by_histories, are_opened, all_histories, all_settled, all_behind, idle_level, lacking_waits}
use Rattle.fst_worker.proofs.Standing.{as_closed, all_as_closed, waits_so}
use Rattle.fst_records.proofs.Laws.{exchanges_more, births_more, openings_more, some_in, sum_none, sum_both, end_or, end_counts, there_sums}

-- ---- what is told

-- a task whose ends lack nothing
stays : (m : Surroundings) (a : Tree) (ks : List ChannelHistory) (x : Thread) → FitsIn m a x → All
    (λ (e : EndView). missing ks e ≡ None) x.bag →
    All (λ (e : EndView). missing ks e ≡ None) x.retired →
    Caught m ks x (course_of x)
stays m a ks x fits level spent = record {
  path = refl;
  first = refl;
  gained = [];
  log = sym (append-nil x.log);
  follows = fits.follows;
  opened = fits.opened;
  none_born = refl;
  none_opened = refl;
  exchanged = λ w.
      let b = sum_none (lag w ks) (λ (e : EndView). missing ks e ≡ None) (λ e q. ap (lag_by w e) q) x.bag level in
      let c = sum_none (lag w ks) (λ (e : EndView). missing ks e ≡ None) (λ e q. ap (lag_by w e) q) x.retired spent in
      omega (arith, b, c);
}

-- an end has this name or lacks nothing
abbrev LagsOr : List ChannelHistory → EndName → EndView → Type 0
LagsOr ks n f = (end_name f ≡ n) ⊎ (missing ks f ≡ None)

counts_named : (n : EndName) (es : List EndView) (e : EndView) → Contains es e → end_name e ≡ n → 1 ≤ count_of n es
counts_named n es e c is =
    let a = there_sums (λ (f : EndView). once (same_end n (end_name f))) es e c in
    let b = end_counts n (end_name e) (sym is) in
    omega (arith, a, b)

-- one that isn't counted lags by nothing
not_lags : (ks : List ChannelHistory) (w : Exchange → ℕ) (n : EndName) (f : EndView) → once (same_end n (end_name f)) ≡ 0 →
    LagsOr ks n f → lag w ks f ≡ 0
not_lags ks w n f z (inl i) = let b = end_counts n (end_name f) (sym i) in absurd (omega (arith, b, z))
not_lags ks w n f z (inr i) = ap (lag_by w f) i

none_lag : (ks : List ChannelHistory) (w : Exchange → ℕ) (n : EndName) (es : List EndView) → count_of n es ≡ 0 →
    All (LagsOr ks n) es → sum_by (lag w ks) es ≡ 0
none_lag ks w n [] z h = refl
none_lag ks w n (f ∷ es) z h =
    let a = sum_by-cons (λ (f : EndView). once (same_end n (end_name f))) f es in
    let b = sum_by-cons (lag w ks) f es in
    let c = none_lag ks w n es (omega (arith, a, z)) (All-tail (LagsOr ks n) f es h) in
    let d = not_lags ks w n f (omega (arith, a, z)) (All-head (LagsOr ks n) f es h) in
    omega (arith, b, c, d)

one_lags_or : (ks : List ChannelHistory) (w : Exchange → ℕ) (n : EndName) (d : EndView) (es : List EndView) (e : EndView) →
    end_name e ≡ n →
    count_of n (d ∷ es) ≤ 1 → All (LagsOr ks n) (d ∷ es) →
    (Contains es e → sum_by (lag w ks) es ≡ lag w ks e) → (d ≡ e) ⊎ Contains es e → sum_by (lag w ks) (d ∷ es) ≡ lag w ks e
one_lags_or ks w n d es e is le h more (inl i) =
    let a = sum_by-cons (λ (f : EndView). once (same_end n (end_name f))) d es in
    let b = end_counts n (end_name d) (sym (ap end_name i ∙ is)) in
    let c = sum_by-cons (lag w ks) d es in
    let z = none_lag ks w n es (omega (arith, a, b, le)) (All-tail (LagsOr ks n) d es h) in
    let g = ap (lag w ks) i in
    omega (arith, c, z, g)
one_lags_or ks w n d es e is le h more (inr i) =
    let a = sum_by-cons (λ (f : EndView). once (same_end n (end_name f))) d es in
    let b = counts_named n es e i is in
    let c = sum_by-cons (lag w ks) d es in
    let z = not_lags ks w n d (omega (arith, a, b, le)) (All-head (LagsOr ks n) d es h) in
    let g = more i in
    omega (arith, c, z, g)

-- the one end of some that lacks something, where no other has its name
one_lags : (ks : List ChannelHistory) (w : Exchange → ℕ) (n : EndName) (es : List EndView) (e : EndView) → Contains es e →
    end_name e ≡ n →
    count_of n es ≤ 1 → All (LagsOr ks n) es →
    sum_by (lag w ks) es ≡ lag w ks e
one_lags ks w n [] e c is le h = absurd (contains_none e c)
one_lags ks w n (d ∷ es) e c is le h =
    one_lags_or ks w n d es e is le h
    (λ i. one_lags ks w n es e i is (let a = sum_by-cons (λ (f : EndView). once (same_end n (end_name f))) d es in
    omega (arith, a, le))
    (All-tail (LagsOr ks n) d es h)) (from_contains es e d c)

put_same : {x y : EndName} {u v : Event} → Some (Put x u) ≡ Some (Put y v) → x ≡ y
put_same q = cc

module _ (m : Surroundings) (a : Tree) (main : Birth) (xs : List Thread) (ps : List Pair) (over : IsOver m a main xs ps) where
  -- the histories of the closed channels
  abbrev ks : List ChannelHistory
  ks = histories_of ps

  -- the end lacks nothing, or what it offers
  abbrev pub settles : EndView → Bool
  settles e = settled (missing ks e) e.knows.offer

  -- a thread of the run, and that its ends lack what they offer or nothing
  abbrev pub IsHere : Thread → Type 0
  IsHere x = FitsIn m a x × EndsPass settles x

  pub all_here : All IsHere xs
  all_here = λ k d l. (over.run.fit k d l, all_settled m a main xs ps over k d l)

  level_of : (e : EndView) → settles e ≡ true → e.knows.offer ≡ None → missing ks e ≡ None
  level_of = idle_level m a main xs ps over

  waits_of : (e : EndView) → settles e ≡ true → (d : Entry) → missing ks e ≡ Some d → (o : Offer) ×
      (e.knows.offer ≡ Some o) × IsTrailing ks e o d
  waits_of = lacking_waits m a main xs ps over

  pub spent_level : (x : Thread) → IsHere x → All (λ (e : EndView). missing ks e ≡ None) x.retired
  spent_level x h = λ k d l. level_of _ (h.1.1 k d l) (h.0.spent k d l).idle

  -- a task one of whose ends lacks an entry
  module _ (x : Thread) (h : IsHere x) (e : EndView) (d : Entry) (in_bag : Contains x.bag e) (lacks : missing ks e ≡ Some d) where
    e_settles : settles e ≡ true
    e_settles = All-contains (λ (e : EndView). settles e ≡ true) x.bag e h.1.0 in_bag

    e_fits : FitsEnd m x.now e
    e_fits = All-contains (FitsEnd m x.now) x.bag e h.0.ends in_bag

    -- what the end offers
    abbrev waits : (o : Offer) × (e.knows.offer ≡ Some o) × IsTrailing ks e o d
    waits = waits_of e e_settles d lacks

    -- its task asks to send that
    pub asks_it : machine.request m.families x.now.state ≡ Some (Put (end_name e) d.event)
    asks_it = (e_fits.waits waits.0 waits.1).asks ∙ ap (λ ev. Some (Put (end_name e) ev)) (sym waits.2.event)

    pub sent_at : d.sent ≡ x.now.clock
    sent_at = waits.2.sent ∙ (e_fits.waits waits.0 waits.1).clock

    pub late : x.now.clock < d.stamp
    late = let l = waits.2.later in let c = (e_fits.waits waits.0 waits.1).clock in omega (arith, l, c)

    -- another end that lacks something has its name
    one_name : (f : EndView) → settles f ≡ true → FitsEnd m x.now f → (end_name f ≡ end_name e) ⊎ (missing ks f ≡ None)
    one_name f s g = by (missing ks f) refl
      where
        by : (o : Option Entry) → missing ks f ≡ o → (end_name f ≡ end_name e) ⊎ (o ≡ None)
        by None q = inr refl
        by (Some b) q =
            let v = waits_of f s b q in
            inl (put_same (sym (g.waits v.0 v.1).asks ∙ asks_it))

    pub others : All (λ (f : EndView). (end_name f ≡ end_name e) ⊎ (missing ks f ≡ None)) x.bag
    others = λ k c l. one_name _ (h.1.0 k c l) (h.0.ends k c l)

    bag_once : count_of (end_name e) x.bag ≤ 1
    bag_once = by (count_of (end_name e) x.bag) refl
      where
        by : (n : ℕ) → count_of (end_name e) x.bag ≡ n → n ≤ 1
        by zero q = omega arith
        by (suc n) q = let o = (h.0.once (end_name e) (omega (arith, q))).0 in omega (arith, o, q)

    -- and is told that it was sent
    pub told : (s : State) → answered (program_in m) x.now.state Sent ≡ Some s → Caught m ks x (told_course m x e d)
    told s leads =
        let g : LogEntry = record { asked = Put (end_name e) d.event; answer = Sent; stamp = d.stamp } in
        record {
          path = refl;
          first = refl;
          gained = g ∷ [];
          log = refl;
          follows = follows_more (program_in m) x.path x.first x.log x.now g h.0.follows
              (record { asked = asks_it; is_answered = late; state = s; leads = leads });
          opened = opened_more m.types x.log g x.now.made x.now.made h.0.opened (omega arith);
          none_born = refl;
          none_opened = refl;
          exchanged = λ w.
              let b = one_lags ks w (end_name e) x.bag e in_bag refl bag_once others in
              let c = sum_none (lag w ks) (λ (e : EndView). missing ks e ≡ None)
              (λ e q. ap (lag_by w e) q) x.retired (spent_level x h) in
              let q = ap (lag_by w e) lacks in
              let r = ap (λ (n : ℕ). w (record { end = end_name e; sends = true; event = d.event; stamp = d.stamp; clock = n }))
              sent_at in
              omega (arith, b, c, q, r);
        }

  -- ---- the record

  -- the sums of a thread's log after it was told
  abbrev lags : (Exchange → ℕ) → Thread → ℕ
  lags w x = of_ends (lag w ks) x

  trades_caught : (w : Exchange → ℕ) (x : Thread) (y : Course) → FitsIn m a x → Caught m ks x y →
      course_trades w y ≡ trades w x + lags w x
  trades_caught w x y f c =
      ap (λ (t : Task). sum_by w (exchanges t.clock y.log)) c.first ∙ ap
      (λ (l : List LogEntry). sum_by w (exchanges x.first.clock l)) c.log
      ∙ exchanges_more w (program_in m) x.path x.first x.log c.gained x.now f.follows ∙ ap
      (λ (n : ℕ). trades w x + n) (c.exchanged w)

  bears_caught : (w : Birth → ℕ) (x : Thread) (y : Course) → FitsIn m a x → Caught m ks x y →
      course_bears (program_in m) w y ≡ bears m w x
  bears_caught w x y f c =
      let b = births_more w (program_in m) x.path x.first x.log c.gained x.now f.follows in
      let z = ap (sum_by w) c.none_born in
      ap (λ (p : Path). sum_by w (births (program_in m) p y.first y.log)) c.path ∙ ap
      (λ (t : Task). sum_by w (births (program_in m) x.path t y.log)) c.first
      ∙ ap (λ (l : List LogEntry). sum_by w (births (program_in m) x.path x.first l)) c.log ∙ omega (arith, b, z)

  opens_caught : (w : ChannelName → Tree → ℕ) (x : Thread) (y : Course) → Caught m ks x y →
      course_opens m.types w y ≡ opens m w x
  opens_caught w x y c =
      let v = λ (o : Opening). w o.name o.declared in
      let b = openings_more v m.types x.log c.gained in
      let z = ap (sum_by v) c.none_opened in
      ap (λ (l : List LogEntry). sum_by v (openings m.types l)) c.log ∙ omega (arith, b, z)

  same_birth : (w : Birth → ℕ) (x : Thread) (y : Course) → Caught m ks x y → w (began y) ≡ w (birth x)
  same_birth w x y c = λ i. w (record { path = c.path i; first = c.first i })

  sums : (f : Course → ℕ) (g h : Thread → ℕ) → ((x : Thread) (y : Course) → FitsIn m a x → Caught m ks x y → f y ≡ g x + h x) →
      (xs : List Thread) (ys : List Course) → All (FitsIn m a) xs →
      AllCaught m ks xs ys →
      sum_by f ys ≡ sum_by g xs + sum_by h xs
  sums f g h e [] [] all k = refl
  sums f g h e [] (y ∷ ys) all k = absurd k
  sums f g h e (x ∷ xs) [] all k = absurd k
  sums f g h e (x ∷ xs) (y ∷ ys) all k =
      let p = sum_by-cons f y ys in
      let q = sum_by-cons g x xs in
      let r = sum_by-cons h x xs in
      let one = e x y (All-head (FitsIn m a) x xs all) k.0 in
      let ih = sums f g h e xs ys (All-tail (FitsIn m a) x xs all) k.1 in
      omega (arith, p, q, r, one, ih)

  same_sums : (f : Course → ℕ) (g : Thread → ℕ) → ((x : Thread) (y : Course) → FitsIn m a x → Caught m ks x y → f y ≡ g x) →
      (xs : List Thread) (ys : List Course) → All (FitsIn m a) xs →
      AllCaught m ks xs ys → sum_by f ys ≡ sum_by g xs
  same_sums f g e [] [] all k = refl
  same_sums f g e [] (y ∷ ys) all k = absurd k
  same_sums f g e (x ∷ xs) [] all k = absurd k
  same_sums f g e (x ∷ xs) (y ∷ ys) all k =
      let p = sum_by-cons f y ys in
      let q = sum_by-cons g x xs in
      let one = e x y (All-head (FitsIn m a) x xs all) k.0 in
      let ih = same_sums f g e xs ys (All-tail (FitsIn m a) x xs all) k.1 in
      omega (arith, p, q, one, ih)

  logged : (xs : List Thread) (ys : List Course) → All (FitsIn m a) xs → AllCaught m ks xs ys →
      All (IsLogged (program_in m) m.types) ys
  logged [] [] all k = All-nil (IsLogged (program_in m) m.types)
  logged [] (y ∷ ys) all k = absurd k
  logged (x ∷ xs) [] all k = absurd k
  logged (x ∷ xs) (y ∷ ys) all k =
      let f = All-head (FitsIn m a) x xs all in
      All-cons (IsLogged (program_in m) m.types) y ys
      (record {
        none_made = ap (λ (t : Task). t.made) k.0.first ∙ f.none_made;
        none_forked = ap (λ (t : Task). t.forked) k.0.first ∙ f.none_forked;
        follows = k.0.follows;
        opened = k.0.opened;
      })
      (logged xs ys (All-tail (FitsIn m a) x xs all) k.1)

  -- what the whole history shows of an end's side is what the end has exchanged, and what it lacks
  shows_of : (w : Exchange → ℕ) (e : EndView) (h : List Entry) → IsBehind ks e h →
      sum_by w (shown_of e.channel e.knows.side e.knows.declared h) ≡ by_exchanges w e + lag w ks e
  shows_of w e h b = by b.lacks refl
    where
      by : (o : Option Entry) → b.lacks ≡ o → sum_by w
          (shown_of e.channel e.knows.side e.knows.declared h) ≡ by_exchanges w e + lag w ks e
      by None q =
          let c = ap (λ (l : List Entry). sum_by w (shown_of e.channel e.knows.side e.knows.declared l))
          (b.is ∙ ap (λ o. e.knows.history ++ option_to_list o) q ∙ append-nil e.knows.history) in
          let z = ap (lag_by w e) (b.missing_is ∙ q) in
          omega (arith, c, z)
      by (Some d) q =
          let c = ap (λ (l : List Entry). sum_by w (shown_of e.channel e.knows.side e.knows.declared l))
          (b.is ∙ ap (λ o. e.knows.history ++ option_to_list o) q) in
          let z = ap (lag_by w e) (b.missing_is ∙ q) in
          let s = shown_more w e d (b.sends_it d q) in
          omega (arith, c, z, s)

  -- a pair that is closed, and what its ends lack
  abbrev Both : Pair → Type 0
  Both p = IsShut p × (IsBehind ks p.left p.closed.history.entries.items × IsBehind ks p.right p.closed.history.entries.items)

  all_both : All Both ps
  all_both = λ k d l. (over.shut k d l, all_behind m a main xs ps over k d l)

  -- what an end has exchanged, and what it lacks
  abbrev weighed : (Exchange → ℕ) → EndView → ℕ
  weighed w e = by_exchanges w e + lag w ks e

  pair_shows : (w : Exchange → ℕ) (p : Pair) → Both p → weighed w p.left + weighed w p.right ≡ shows w p.closed.history
  pair_shows w p (s, b) =
      let h = p.closed.history.entries.items in
      let l = shows_of w p.left h b.0 in
      let r = shows_of w p.right h b.1 in
      let x : sum_by w (shown_of p.left.channel p.left.knows.side p.left.knows.declared h) ≡
      sum_by w (shown_of p.closed.history.name Left p.closed.history.declared h) =
      λ i. sum_by w (shown_of (sym s.closed.named i) (s.left_side i) (sym s.closed.left_declared i) h) in
      let y : sum_by w (shown_of p.right.channel p.right.knows.side p.right.knows.declared h) ≡
      sum_by w (shown_of p.closed.history.name Right p.closed.history.declared h) =
      λ i. sum_by w (shown_of ((s.channel ∙ sym s.closed.named) i) (s.right_side i) (sym s.closed.right_declared i) h) in
      omega (arith, l, r, x, y)

  ends_weigh : (w : Exchange → ℕ) (xs : List Thread) →
      sum_by (of_ends (weighed w)) xs ≡ sum_by (of_ends (by_exchanges w)) xs + sum_by (lags w) xs
  ends_weigh w xs = sum_both (of_ends (weighed w)) (of_ends (by_exchanges w)) (lags w)
      (λ x.
      let p = sum_both (weighed w) (by_exchanges w) (lag w ks) (λ e. refl) x.bag in
      let q = sum_both (weighed w) (by_exchanges w) (lag w ks) (λ e. refl) x.retired in
      omega (arith, p, q)) xs

  -- logs and histories are a record
  pub caught_record : (ys : List Course) → AllCaught m ks xs ys → FitsRecord (program_in m) m.types main ys ks
  caught_record ys caught = record {
    root = over.run.root;
    births = λ w.
        let p = same_sums (λ (y : Course). w (began y)) (λ (x : Thread). w (birth x))
        (λ x y f c. same_birth w x y c) xs ys over.run.fit caught in
        let q = same_sums (course_bears (program_in m) w) (bears m w) (bears_caught w) xs ys over.run.fit caught in
        omega (arith, p, q, over.run.whole.births w);
    logs = logged xs ys over.run.fit caught;
    channels = λ w.
        let q = are_opened m a main xs ps over w in
        let r = same_sums (course_opens m.types w) (opens m w) (λ x y f c. opens_caught w x y c) xs ys over.run.fit caught in
        omega (arith, q, r);
    exchanged = λ w.
        let p = over.paired (weighed w) in
        let q = by_histories (λ (p : Pair). weighed w p.left + weighed w p.right) (shows w) Both (pair_shows w) ps all_both in
        let r = sums (course_trades w) (trades w) (lags w) (trades_caught w) xs ys over.run.fit caught in
        let s = ends_weigh w xs in
        omega (arith, p, q, r, s, over.run.whole.exchanged w);
    histories = all_histories IsShut IsRecorded (λ p s.
        record { formed = s.closed.formed; trace = s.closed.trace; stamped = s.closed.stamped }) ps over.shut;
  }

  pair_named : (e : EndView) (p : Pair) → IsShut p → 0 < counted (end_name e) p.left + counted (end_name e) p.right →
      p.closed.history.name ≡ e.channel
  pair_named e p s n = by (end_or (end_name e) (end_name p.left)) (end_or (end_name e) (end_name p.right))
    where
      by : ((end_name e ≡ end_name p.left) × (counted (end_name e) p.left ≡ 1)) ⊎ (counted (end_name e) p.left ≡ 0) →
          ((end_name e ≡ end_name p.right) × (counted (end_name e) p.right ≡ 1)) ⊎
          (counted (end_name e) p.right ≡ 0) → p.closed.history.name ≡ e.channel
      by (inl q) r = s.closed.named ∙ sym (ap (λ (z : EndName). z.channel) q.0)
      by (inr q) (inl r) = s.closed.named ∙ sym s.channel ∙ sym (ap (λ (z : EndName). z.channel) r.0)
      by (inr q) (inr r) = absurd (omega (arith, n, q, r))

  -- the channel of an end was closed
  closed_there : (x : Thread) → Contains xs x → (e : EndView) → Contains x.bag e → (p : Pair) × Contains ps p ×
      (p.closed.history.name ≡ e.channel)
  closed_there x c e b =
      let z = end_name e in
      let h = (in_bag xs x e c b).ends (counted z) in
      let g = end_counts z z refl in
      let q = over.paired (counted z) in
      let r = some_in (λ (p : Pair). counted z p.left + counted z p.right) ps (omega (arith, h, g, q)) in
      (r.0, r.1, pair_named e r.0 (All-contains IsShut ps r.0 over.shut r.1) r.2)

  -- all that holds at the end
  pub finishes : Finishes m main xs ps
  finishes = record {
    there = All-weaker (Contains xs) (λ (x : Thread). All
        (λ (e : EndView). (p : Pair) × Contains ps p × (p.closed.history.name ≡ e.channel)) x.bag)
        (λ x c. All-weaker (Contains x.bag) (λ (e : EndView). (p : Pair) × Contains ps p × (p.closed.history.name ≡ e.channel))
        (closed_there x c) x.bag
        (All-contains_itself x.bag)) xs (All-contains_itself xs);
    waiting = λ k c l e o p in_bag q there is.
        let h = all_here k c l in
        let t = all_as_closed m a main xs ps over k c l in
        waits_so m a main xs ps over e (All-contains (λ (e : EndView). settles e ≡ true) _ e h.1.0 in_bag)
        (All-contains (λ (e : EndView). as_closed m a main xs ps over e ≡ true) _ e t.0 in_bag) o p q there is;
    level = All-weaker IsHere (λ (x : Thread). All (λ (e : EndView). e.knows.offer ≡ None → missing ks e ≡ None) x.bag)
        (λ x h k c l. level_of _ (h.1.0 k c l)) xs all_here;
    stays = λ k c l level. let h = all_here k c l in stays m a ks _ h.0 level (spent_level _ h);
    told = λ k c l e d in_bag lacks. let h = all_here k c l in (asks_it _ h e d in_bag lacks, told _ h e d in_bag lacks);
    record_fits = caught_record;
  }

-- of each run
pub records : RecordLaw
records = finishes
