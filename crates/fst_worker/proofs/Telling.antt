-- Threads that were told what their ends lack are those of a run whose ends know all of their channels.
use Rattle.std.proofs.Common.{◌≡◌, ◌∙◌, ◌⊎◌, inl, inr, ◌<◌, ◌≤◌, ℕ, Bool, true, false, Option, Some, None, List, [], ◌∷◌, ◌++◌, refl, sym, ap, subst, arith}
use Rattle.std.specs.Coded.{coded_option}
use Rattle.std.specs.Prelude.{sum_by, All, Contains, IsPermutation, option_and_then, option_to_list}
use Rattle.std.proofs.lemmas.List.{append-nil}
use Rattle.std.proofs.lemmas.List.Elements.{All-nil, All-cons, All-head, All-tail, All-append, All-contains, All-contains_itself}
use Rattle.std.proofs.lemmas.List.Sorted.{All-permutation, Contains-permutation, IsPermutation-refl, IsPermutation-remove, sum_by-IsPermutation}
use Rattle.fst_base.proofs.Lists.{contains_head, contains_tail, from_contains, contains_none}
use Rattle.fst_types.specs.ModelCode.{tree_code}
use Rattle.fst_types.specs.Tree.{Tree}
use Rattle.fst_types.specs.declared.side.Side.{Side}
use Rattle.fst_types.specs.declared.side.Side.TheVariants.{Left, Right}
use Rattle.fst_lts.specs.Step.{terminated}
use Rattle.fst_lts.specs.Histories.{after_history, side_type}
use Rattle.fst_derivations.specs.Modules.{surroundings}
use Rattle.fst_derivations.specs.Rules.{Surroundings}
use Rattle.fst_types.specs.declared.ends.ChannelName.{ChannelName}
use Rattle.fst_types.specs.declared.event.ChannelHistory.{ChannelHistory}
use Rattle.fst_types.specs.declared.event.Entry.{Entry}
use Rattle.fst_machine.specs.declared.request.Request.TheVariants.{Put}
use Rattle.fst_machine.specs.declared.request.Answer.TheVariants.{Sent}
use Rattle.fst_machine.specs.Machine.{State, answered}
use Rattle.fst_machine.specs.Machine as machine
use Rattle.fst_runs.specs.Configs.{channel_residual, channel_in}
use Rattle.fst_cell.specs.Answers.{end_with, longer}
use Rattle.fst_cell.specs.End.{EndView, end_name}
use Rattle.fst_lts.specs.Residuals.{residual}
use Rattle.fst_safety.specs.WellTyped.{program_in}
use Rattle.fst_runs.specs.Logs.{Birth}
use Rattle.fst_safety.specs.Sound.{IsSound, IsTrace}
use Rattle.fst_safety.specs.Threads.{Thread, FitsIn, count_of}
use Rattle.fst_safety.specs.Bags.{put_by}
use Rattle.fst_safety.specs.Going.{GoesOnTo, IsMoved, with_entry}
use Rattle.fst_safety.proofs.Laws.{counted, count_first, counts_itself, counted_so, others_of, stay_typed}
use Rattle.fst_worker.specs.Works.{Went, IsRun, course_of}
use Rattle.fst_worker.specs.Records.{Pair, IsShut, IsOver, Caught, AllCaught, histories_of, missing, told_course}
use Rattle.fst_records.specs.Records.{Course, FitsRecord, IsRecorded, shows, config_of}
use Rattle.fst_worker.specs.Laws.{Finishes}
use Rattle.fst_worker.specs.Configs.{Stayed, Told, AreTold, AreSame, SoundLaw}
use Rattle.fst_worker.proofs.Catching.{IsHere, all_here, spent_level, sent_at, late, others, finishes}
use Rattle.fst_worker.proofs.Chains.{went_none, went_step, went_both}
use Rattle.fst_records.proofs.Laws.{on_name, channel_of, channel_there, same_by, same_by-itself, same_by-same}
use Rattle.fst_worker.proofs.Shutting.{EndsPass, IsBehind, ends_pass, of_channel, by_histories, here, names_once, all_behind}
use Rattle.fst_worker.proofs.Soundness.{residual_at, IsLevel, AreLevel, trace_of, is_sound}
use Rattle.fst_worker.proofs.Wholes.{went_fits, went_whole}

-- ---- lists

-- what is in a list comes out of it
taken : {X : Type 0} (xs : List X) (x : X) → Contains xs x → (rest : List X) × IsPermutation xs (x ∷ rest)
taken xs x c = (_, IsPermutation-remove xs c.0 x c.1 (sym c.2))

in_histories : (ps : List Pair) (p : Pair) → Contains ps p → Contains (histories_of ps) p.closed.history
in_histories [] p c = absurd (contains_none p c)
in_histories (q ∷ ps) p c = by (in_histories ps p) (from_contains ps p q c)
  where
    by : (Contains ps p → Contains (histories_of ps) p.closed.history) →
        (q ≡ p) ⊎ Contains ps p → Contains (histories_of (q ∷ ps)) p.closed.history
    by more (inl i) = contains_head (histories_of ps) p.closed.history q.closed.history (ap (λ (p : Pair). p.closed.history) i)
    by more (inr c) = contains_tail (histories_of ps) p.closed.history q.closed.history (more c)

-- an end that is put where it belongs, and what holds of all ends then
record IsPut (P : EndView → Type 0) (b : Bool) (f : EndView) (rest spent : List EndView) : Type 0 where
  bag : List EndView
  retired : List EndView
  put : put_by b f rest spent bag retired
  open_ends : All P bag
  spent_ends : All P retired

is_put : (P : EndView → Type 0) (b : Bool) (f : EndView) (rest spent : List EndView) → P f → All P rest → All P spent →
    IsPut P b f rest spent
is_put P true f rest spent p q r = record {
  bag = rest;
  retired = spent ++ f ∷ [];
  put = (refl, refl);
  open_ends = q;
  spent_ends = All-append P spent (f ∷ []) r (All-cons P f [] p (All-nil P));
}
is_put P false f rest spent p q r = record {
  bag = rest ++ f ∷ [];
  retired = spent;
  put = (refl, refl);
  open_ends = All-append P rest (f ∷ []) q (All-cons P f [] p (All-nil P));
  spent_ends = r;
}

-- a thread that sent what one of its ends lacks goes on by a turn
abbrev pub SendsOn : Surroundings → Tree → Type 0
SendsOn m a = (x : Thread) → FitsIn m a x → (e : EndView) (n : ℕ) (taken : Entry) (s : State) (bag retired : List EndView) →
    machine.request m.families x.now.state ≡ Some (Put (end_name e) taken.event) →
    answered (program_in m) x.now.state Sent ≡ Some s →
    taken.sent ≡ x.now.clock → x.now.clock < taken.stamp → IsMoved x e (end_with e (longer e.knows n taken)) bag retired →
    GoesOnTo m a x (with_entry m x (Put (end_name e) taken.event) Sent taken.stamp bag retired) []

-- the residual that an end has after what it lacks
abbrev residual_then : EndView → Option Entry → Option Tree
residual_then e d = residual e.knows.side e.knows.declared (e.knows.history ++ option_to_list d)

side_is : (s : Side) (k : ChannelHistory) → IsTrace (channel_of k) → (t : Tree) × (channel_residual s (channel_of k) ≡ Some t)
side_is Left k i = (_, i.3)
side_is Right k i = (_, i.4)

module _ (m : Surroundings) (a : Tree) (main : Birth) (xs : List Thread) (ps : List Pair) (over : IsOver m a main xs ps)
    (ks : List ChannelHistory)
    (moved : IsPermutation (histories_of ps) ks) where
  -- no two channels have one name
  once_named : (h : ChannelName) → sum_by (on_name h) ks ≤ 1
  once_named h =
      let n = names_once m a main xs ps over h in
      let b = by_histories (of_channel h) (on_name h) IsShut (λ p s. refl) ps over.shut in
      let c = sum_by-IsPermutation (on_name h) (histories_of ps) ks moved in
      omega (arith, n, b, c)

  -- the channel of a pair
  channel_is : (p : Pair) → Contains ps p → (h : ChannelName) → p.closed.history.name ≡ h →
      channel_in ks h ≡ Some (channel_of p.closed.history)
  channel_is p c h is =
      ap (channel_in ks) (sym is)
      ∙ channel_there ks p.closed.history (Contains-permutation (histories_of ps) ks p.closed.history moved (in_histories ps p c))
      (once_named p.closed.history.name)

  -- the end has the residual that its channel gives it, once it has what it lacks
  abbrev pub knows : EndView → Bool
  knows e = same_by (coded_option tree_code) (residual_at ks (end_name e)) (residual_then e (missing (histories_of ps) e))

  knows_so : (e : EndView) (p : Pair) → Contains ps p → p.closed.history.name ≡ e.channel →
      p.closed.history.declared ≡ e.knows.declared →
      IsBehind (histories_of ps) e p.closed.history.entries.items → knows e ≡ true
  unfolding residual
  knows_so e p c is declared b =
      same_by-itself (coded_option tree_code) (residual_at ks (end_name e)) (residual_then e (missing (histories_of ps) e))
      (ap (option_and_then (channel_residual e.knows.side)) (channel_is p c e.channel is)
      ∙ (λ i. after_history (side_type e.knows.side (declared i))
      ((b.is ∙ ap (λ d. e.knows.history ++ option_to_list d) (sym b.missing_is)) i)))

  all_know : All (EndsPass knows) xs
  all_know = ends_pass xs ps over.paired knows
      (λ k d l.
      let q = here m a main xs ps over k d l in
      let b = all_behind m a main xs ps over k d l in (
        knows_so _ _ q.0 q.1.closed.named q.1.closed.left_declared b.0,
        knows_so _ _ q.0 (q.1.closed.named ∙ sym q.1.channel) q.1.closed.right_declared b.1,
      ))

  known_is : (e : EndView) → knows e ≡ true → residual_at ks (end_name e) ≡ residual_then e (missing (histories_of ps) e)
  known_is e h = same_by-same (coded_option tree_code) (residual_at ks (end_name e))
      (residual_then e (missing (histories_of ps) e)) h

  -- an end that lacks nothing
  level_so : (e : EndView) → knows e ≡ true → missing (histories_of ps) e ≡ None → IsLevel ks e
  level_so e h q =
      known_is e h ∙ ap (residual_then e) q ∙ ap (residual e.knows.side e.knows.declared) (append-nil e.knows.history)

  -- what is known of a thread of the run
  pub record Knows (x : Thread) : Type 0 where
    pub here : IsHere m a main xs ps over x
    pub know : EndsPass knows x
    pub finish : Finishes m main xs ps
    pub there : Contains xs x

  pub all_knowing : All Knows xs
  all_knowing = λ k d l. record {
    here = all_here m a main xs ps over k d l;
    know = all_know k d l;
    finish = finishes m a main xs ps over;
    there = All-contains_itself xs k d l;
  }

  -- x has come to a thread whose course is y, and whose ends know all of their channels
  pub record Becomes (x : Thread) (y : Course) : Type 0 where
    pub thread : Thread
    pub same : course_of thread ≡ y
    pub went : Went m a (x ∷ []) (thread ∷ [])
    pub caught : Caught m (histories_of ps) x y
    pub level : AreLevel ks thread

  spent_so : (x : Thread) → Knows x → All (IsLevel ks) x.retired
  spent_so x h = λ k d l. level_so _ (h.know.1 k d l) (spent_level m a main xs ps over x h.here k d l)

  -- ---- a thread that stays as it is

  -- what the law of the end says of it
  abbrev MayStay : Thread → Type 0
  MayStay x = All (λ (e : EndView). missing (histories_of ps) e ≡ None) x.bag → Caught m (histories_of ps) x (course_of x)

  stayed : (x : Thread) (y : Course) → Knows x → Stayed (histories_of ps) x y → Becomes x y
  stayed x y h s = record {
    thread = x;
    same = sym s.is;
    went = went_none m a (x ∷ []);
    caught = subst (Caught m (histories_of ps) x) (sym s.is)
        (All-contains MayStay xs x h.finish.stays h.there s.level);
    level = ((λ k d l. level_so _ (h.know.0 k d l) (s.level k d l)), spent_so x h);
  }

  -- ---- a thread that was told

  -- the channel of the end was closed
  abbrev IsClosed : EndView → Type 0
  IsClosed e = (p : Pair) × Contains ps p × (p.closed.history.name ≡ e.channel)

  -- the channel of an end of a bag has a residual for it
  residual_there : (x : Thread) → Knows x → (e : EndView) → Contains x.bag e → (t : Tree) × (residual_at ks (end_name e) ≡ Some t)
  residual_there x h e c =
      let p = All-contains IsClosed x.bag e (All-contains (λ (x : Thread). All IsClosed x.bag) xs x h.finish.there h.there) c in
      let s = All-contains IsShut ps p.0 over.shut p.1 in
      let k = p.0.closed.history in
      let r : IsRecorded k = record { formed = s.closed.formed; trace = s.closed.trace; stamped = s.closed.stamped } in
      let t = side_is e.knows.side k (trace_of k r) in
      (t.0, ap (option_and_then (channel_residual e.knows.side)) (channel_is p.0 p.1 e.channel p.2) ∙ t.1)

  module _ (sends : SendsOn m a) (x : Thread) (y : Course) (h : Knows x) (t : Told m (histories_of ps) x y) where
    abbrev e : EndView
    e = t.end

    abbrev d : Entry
    d = t.entry

    -- the end with what it lacked
    abbrev f : EndView
    f = end_with e (longer e.knows 0 d)

    abbrev rest : List EndView
    rest = (taken x.bag e t.there).0

    before : IsPermutation x.bag (e ∷ rest)
    before = (taken x.bag e t.there).1

    e_knows : knows e ≡ true
    e_knows = All-contains (λ (e : EndView). knows e ≡ true) x.bag e h.know.0 t.there

    f_level : IsLevel ks f
    f_level = known_is e e_knows ∙ ap (residual_then e) t.lacks

    rest_none : count_of (end_name e) rest ≡ 0
    rest_none =
        let n = end_name e in
        let b = sum_by-IsPermutation (counted n) x.bag (e ∷ rest) before in
        let c = count_first n e rest in
        let o = counts_itself e in
        let q = (h.here.0.once n (omega (arith, b, c, o))).0 in
        omega (arith, b, c, o, q)

    rest_level : All (IsLevel ks) rest
    rest_level =
        let P = λ (g : EndView). (end_name g ≡ end_name e) ⊎ (missing (histories_of ps) g ≡ None) in
        let K = λ (g : EndView). knows g ≡ true in
        let o = All-tail P e rest (All-permutation P x.bag (e ∷ rest) before
        (others m a main xs ps over x h.here e d t.there t.lacks)) in
        let k = All-tail K e rest (All-permutation K x.bag (e ∷ rest) before h.know.0) in
        let n = others_of (end_name e) rest rest_none in
        λ j c l. by _ (o j c l) (k j c l) (n j c l)
      where
        by : (g : EndView) → (end_name g ≡ end_name e) ⊎
            (missing (histories_of ps) g ≡ None) → knows g ≡ true → counted (end_name e) g ≡ 0 → IsLevel ks g
        by g (inl i) k z = let c = counted_so (end_name e) g i in absurd (omega (arith, c, z))
        by g (inr q) k z = level_so g k q

    abbrev found : (u : Tree) × (residual_at ks (end_name e) ≡ Some u)
    found = residual_there x h e t.there

    put : IsPut (IsLevel ks) (terminated found.0) f rest x.retired
    put = is_put (IsLevel ks) (terminated found.0) f rest x.retired f_level rest_level (spent_so x h)

    is_moved : IsMoved x e f put.bag put.retired
    is_moved = record { rest = rest; before = before; put = (found.0, sym f_level ∙ found.1, put.put) }

    abbrev z : Thread
    z = with_entry m x (Put (end_name e) d.event) Sent d.stamp put.bag put.retired

    -- what the law of the end says of it
    abbrev IsTold : Thread → Type 0
    IsTold x = (e : EndView) (d : Entry) → Contains x.bag e → missing (histories_of ps) e ≡ Some d →
        (machine.request m.families x.now.state ≡ Some (Put (end_name e) d.event)) ×
        ((s : State) → answered (program_in m) x.now.state Sent ≡ Some s → Caught m (histories_of ps) x (told_course m x e d))

    said : (machine.request m.families x.now.state ≡ Some (Put (end_name e) d.event)) ×
        ((s : State) → answered (program_in m) x.now.state Sent ≡ Some s → Caught m (histories_of ps) x (told_course m x e d))
    said = All-contains IsTold xs x h.finish.told h.there e d t.there t.lacks

    goes : GoesOnTo m a x z []
    goes = sends x h.here.0 e 0 d t.state put.bag put.retired said.0 t.leads
        (sent_at m a main xs ps over x h.here e d t.there t.lacks)
        (late m a main xs ps over x h.here e d t.there t.lacks) is_moved

    pub told : Becomes x y
    told = record {
      thread = z;
      same = sym t.is;
      went = went_step m a (x ∷ []) (z ∷ []) (record {
        task = x;
        after = z;
        new = [];
        rest = [];
        goes = goes;
        before_is = IsPermutation-refl (x ∷ []);
        after_is = IsPermutation-refl (z ∷ []);
      });
      caught = subst (Caught m (histories_of ps) x) (sym t.is) (said.1 t.state t.leads);
      level = (put.open_ends, put.spent_ends);
    }

  -- ---- all threads

  -- so it is with all of them
  pub record BecomeAll (us : List Thread) (vs : List Course) : Type 0 where
    pub threads : List Thread
    pub same : AreSame vs threads
    pub went : Went m a us threads
    pub caught : AllCaught m (histories_of ps) us vs
    pub level : All (AreLevel ks) threads

  become_all : SendsOn m a → (us : List Thread) (vs : List Course) → All Knows us → AreTold m (histories_of ps) us vs →
      BecomeAll us vs
  become_all sends [] [] all k = record {
    threads = [];
    same = refl;
    went = went_none m a [];
    caught = tt;
    level = All-nil (AreLevel ks);
  }
  become_all sends [] (y ∷ ys) all k = absurd k
  become_all sends (x ∷ us) [] all k = absurd k
  become_all sends (x ∷ us) (y ∷ vs) all k =
      let one = by k.0 in
      let more = become_all sends us vs (All-tail Knows x us all) k.1 in
      record {
        threads = one.thread ∷ more.threads;
        same = λ i. one.same i ∷ more.same i;
        went = went_both m a (x ∷ []) (one.thread ∷ []) us more.threads one.went more.went;
        caught = (one.caught, more.caught);
        level = All-cons (AreLevel ks) one.thread more.threads one.level more.level;
      }
    where
      by : Stayed (histories_of ps) x y ⊎ Told m (histories_of ps) x y → Becomes x y
      by (inl s) = stayed x y (All-head Knows x us all) s
      by (inr t) = told sends x y (All-head Knows x us all) t

  -- a record fits in whichever order its channels are
  pub record_moved : (zs : List Course) → FitsRecord (program_in m) m.types main zs (histories_of ps) →
      FitsRecord (program_in m) m.types main zs ks
  record_moved zs f = record {
    root = f.root;
    births = f.births;
    logs = f.logs;
    channels = λ w. sum_by-IsPermutation (λ (k : ChannelHistory). w k.name k.declared) (histories_of ps) ks moved ∙ f.channels w;
    exchanged = λ w. sum_by-IsPermutation (shows w) (histories_of ps) ks moved ∙ f.exchanged w;
    histories = All-permutation IsRecorded (histories_of ps) ks moved f.histories;
  }

  module _ (sends : SendsOn m a) (ys : List Course) (are : AreTold m (histories_of ps) xs ys) where
    -- the threads with ends
    pub all : BecomeAll xs ys
    all = become_all sends xs ys all_knowing are

    -- they are those of a run
    pub is_run : IsRun m a main all.threads
    is_run = record {
      root = over.run.root;
      fit = went_fits m a xs all.threads all.went over.run.fit;
      whole = went_whole m a main xs all.threads all.went over.run.fit over.run.whole;
    }

    -- with the closed channels their courses are a record that fits
    pub fits_record : FitsRecord (program_in m) m.types main ys ks
    fits_record = record_moved ys ((finishes m a main xs ps over).record_fits ys all.caught)

    -- its configuration is sound
    pub config_sound : IsSound m a (config_of ys ks)
    config_sound = subst (λ (cs : List Course). IsSound m a (config_of cs ks)) all.same
        (is_sound m a main all.threads ks is_run
        (subst (λ (cs : List Course). FitsRecord (program_in m) m.types main cs ks) (sym all.same) fits_record) all.level)

-- so it is at the end of each run
pub joins : SoundLaw
joins n ds h a main xs ps over ys are =
    let m = surroundings n [] in
    let s : SendsOn m a = λ x. stay_typed.sends n ds h a x in
    let r = IsPermutation-refl (histories_of ps) in
    let b = all m a main xs ps over (histories_of ps) r s ys are in
    record {
      caught = b.caught;
      record_fits = (finishes m a main xs ps over).record_fits ys b.caught;
      fit = (b.threads, b.same, is_run m a main xs ps over (histories_of ps) r s ys are);
      sound = λ ks moved. config_sound m a main xs ps over ks moved s ys are;
    }
