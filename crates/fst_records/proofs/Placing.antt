-- Courses and channels that stand in the place of others, and new ones beside them.
use Rattle.std.proofs.Common.{◌≡◌, ◌∙◌, ℕ, ◌+◌, ◌≤◌, Bool, true, false, List, [], ◌∷◌, ◌++◌, Option, Some, None, refl, sym, ap, arith}
use Rattle.std.specs.Prelude.{sum_by, All, if◌then◌else◌}
use Rattle.std.proofs.lemmas.List.Elements.{All-cons, All-head, All-tail, All-append, All-same}
use Rattle.std.proofs.lemmas.List.Sums.{sum_by-append, sum_by-cons}
use Rattle.std.proofs.lemmas.Option.{none-some, same_Some}
use Rattle.fst_lts.specs.Histories.{over}
use Rattle.fst_types.specs.declared.ends.ChannelName.{ChannelName}
use Rattle.fst_types.specs.declared.event.ChannelHistory.{ChannelHistory}
use Rattle.fst_runs.specs.Configs.{Path, Task, Channel, same_path, same_channel, channel_in, named_so}
use Rattle.fst_runs.proofs.Laws.{same_path-same, same_channel-same, put}
use Rattle.fst_records.specs.Records.{Course, task_of, log_of}
use Rattle.fst_records.proofs.Found.{channel_of}

-- ---- lists

module _ {X : Type 0} where
  -- x is one of xs, and ys are the same with y in its place
  pub record IsSwapped (xs ys : List X) (x y : X) : Type 0 where
    pub before : List X
    pub behind : List X
    pub was : xs ≡ before ++ x ∷ behind
    pub is : ys ≡ before ++ y ∷ behind

  -- the sum of all is that of the others and what the one counts
  pub sum_at : (f : X → ℕ) (before : List X) (x : X) (behind : List X) →
      sum_by f (before ++ x ∷ behind) ≡ (sum_by f before + sum_by f behind) + f x
  sum_at f before x behind = let a = sum_by-append f before (x ∷ behind) in let b = sum_by-cons f x behind in omega (arith, a, b)

  -- so are their sums
  pub sum_swapped : (f : X → ℕ) (xs ys : List X) (x y : X) → IsSwapped xs ys x y → sum_by f ys + f x ≡ sum_by f xs + f y
  sum_swapped f xs ys x y s =
      let a = ap (sum_by f) s.was in
      let b = ap (sum_by f) s.is in
      let c = sum_at f s.before x s.behind in
      let d = sum_at f s.before y s.behind in
      omega (arith, a, b, c, d)

  -- what the one counts is in the sum
  pub le_swapped : (f : X → ℕ) (xs ys : List X) (x y : X) → IsSwapped xs ys x y → f x ≤ sum_by f xs
  le_swapped f xs ys x y s = let a = ap (sum_by f) s.was in let b = sum_at f s.before x s.behind in omega (arith, a, b)

  -- what holds of all holds of those before one, of the one, and of those behind it
  pub all_split : (P : X → Type 0) (before : List X) (x : X) (behind : List X) → All P (before ++ x ∷ behind) → All P before ×
      P x ×
      All P behind
  all_split P [] x behind all = ((λ k d l. absurd (omega (arith, l))), All-head P x behind all, All-tail P x behind all)
  all_split P (b ∷ before) x behind all =
      let r = all_split P before x behind (All-tail P b (before ++ x ∷ behind) all) in
      (All-cons P b before (All-head P b (before ++ x ∷ behind) all) r.0, r.1, r.2)

  -- what holds of all holds of the one
  pub one_swapped : (P : X → Type 0) (xs ys : List X) (x y : X) → IsSwapped xs ys x y → All P xs → P x
  one_swapped P xs ys x y s all = (all_split P s.before x s.behind (All-same P (s.before ++ x ∷ s.behind) xs (sym s.was) all)).1

  -- and of all with the other in its place, if it holds of that
  pub all_swapped : (P : X → Type 0) (xs ys : List X) (x y : X) → IsSwapped xs ys x y → All P xs → P y → All P ys
  all_swapped P xs ys x y s all h =
      let r = all_split P s.before x s.behind (All-same P (s.before ++ x ∷ s.behind) xs (sym s.was) all) in
      All-same P ys (s.before ++ y ∷ s.behind) s.is (All-append P s.before (y ∷ s.behind) r.0 (All-cons P y s.behind h r.2))

-- ---- what is put

-- what a test puts twice
put_again : {X : Type 0} (b : Bool) (x y : X) (o : Option X) → (if b then Some x else o) ≡ put b x (if b then Some y else o)
put_again true x y o = refl
put_again false x y o = refl

-- what it puts once
pub put_first : {X : Type 0} (b : Bool) (x : X) (o : Option X) → (if b then Some x else o) ≡ put b x o
put_first true x o = refl
put_first false x o = refl

put_behind : {X : Type 0} (b c : Bool) (x y : X) (o : Option X) → (b ≡ true → c ≡ false) →
    (if c then Some y else put b x o) ≡ put b x (if c then Some y else o)
put_behind false c x y o h = refl
put_behind true c x y o h = ap (λ a. if a then Some y else Some x) (h refl)

-- what is put before what else is there
pub over_put : {X : Type 0} (b : Bool) (x : X) (o u : Option X) → over (put b x o) u ≡ put b x (over o u)
over_put true x o u = refl
over_put false x o u = refl

over_named : {X : Type 0} (b : Bool) (x : X) → over None (if b then Some x else None) ≡ put b x None
over_named true x = refl
over_named false x = refl

-- what a test gives twice
if_again : {X : Type 0} (b : Bool) (x y o : X) → (if b then x else o) ≡ (if b then x else if b then y else o)
if_again true x y o = refl
if_again false x y o = refl

-- two tests, of which at most one holds
if_behind : {X : Type 0} (b c : Bool) (x y o : X) → (b ≡ true → c ≡ false) →
    (if c then y else if b then x else o) ≡ (if b then x else if c then y else o)
if_behind false c x y o h = refl
if_behind true c x y o h = ap (λ a. if a then y else x) (h refl)

-- ---- courses

-- the first of these courses with this path is now this task; with another in its place the other's task and log are found there
pub record IsAt (p : Path) (ys : List Course) (t : Task) : Type 0 where
  pub course : Course
  pub with : Course → List Course
  pub swaps : (y : Course) → IsSwapped ys (with y) course y
  pub path : course.path ≡ p
  pub now : course.now ≡ t
  pub puts : (y : Course) → y.path ≡ p → (q : Path) → task_of (with y) q ≡ put (same_path p q) y.now (task_of ys q)
  pub log : log_of ys p ≡ course.log
  pub logs : (y : Course) → y.path ≡ p → (q : Path) → log_of (with y) q ≡ (if same_path p q then y.log else log_of ys q)

at_first : (p : Path) (y : Course) (ys : List Course) (t : Task) → same_path y.path p ≡ true → y.now ≡ t → IsAt p (y ∷ ys) t
at_first p y ys t s e =
    let here : y.path ≡ p = same_path-same y.path p s in
    record {
      course = y;
      with = λ z. z ∷ ys;
      swaps = λ z. record { before = []; behind = ys; was = refl; is = refl };
      path = here;
      now = e;
      puts = λ z i q.
          ap (λ r. if same_path r q then Some z.now else task_of ys q) i ∙ put_again (same_path p q) z.now y.now (task_of ys q)
          ∙ ap (λ r. put (same_path p q) z.now (if same_path r q then Some y.now else task_of ys q)) (sym here);
      log = ap (λ b. if b then y.log else log_of ys p) s;
      logs = λ z i q.
          ap (λ r. if same_path r q then z.log else log_of ys q) i ∙ if_again (same_path p q) z.log y.log (log_of ys q)
          ∙ ap (λ r. if same_path p q then z.log else if same_path r q then y.log else log_of ys q) (sym here);
    }

at_later : (p : Path) (y : Course) (ys : List Course) (t : Task) → same_path y.path p ≡ false → IsAt p ys t → IsAt p (y ∷ ys) t
at_later p y ys t s a = record {
  course = a.course;
  with = λ z. y ∷ a.with z;
  swaps = λ z.
      let k = a.swaps z in
      record { before = y ∷ k.before; behind = k.behind; was = ap (λ l. y ∷ l) k.was; is = ap (λ l. y ∷ l) k.is };
  path = a.path;
  now = a.now;
  puts = λ z i q.
      ap (λ o. if same_path y.path q then Some y.now else o) (a.puts z i q)
      ∙ put_behind (same_path p q) (same_path y.path q) z.now y.now (task_of ys q)
      (λ g. ap (λ r. same_path y.path r) (sym (same_path-same p q g)) ∙ s);
  log = ap (λ b. if b then y.log else log_of ys p) s ∙ a.log;
  logs = λ z i q.
      ap (λ l. if same_path y.path q then y.log else l) (a.logs z i q)
      ∙ if_behind (same_path p q) (same_path y.path q) z.log y.log (log_of ys q)
      (λ g. ap (λ r. same_path y.path r) (sym (same_path-same p q g)) ∙ s);
}

-- a task that is found is that of a course
pub is_at : (p : Path) (ys : List Course) (t : Task) → task_of ys p ≡ Some t → IsAt p ys t
is_at p [] t e = absurd (none-some t e)
is_at p (y ∷ ys) t e = by (same_path y.path p) refl e (is_at p ys t)
  where
    by : (b : Bool) → same_path y.path p ≡ b → (if b then Some y.now else task_of ys p) ≡ Some t →
        (task_of ys p ≡ Some t → IsAt p ys t) → IsAt p (y ∷ ys) t
    by true s q more = at_first p y ys t s (same_Some y.now t q)
    by false s q more = at_later p y ys t s (more q)

-- ---- channels

-- the last of these channels with this name is this one; with another in its place the other is put there
pub record IsChannelAt (h : ChannelName) (ks : List ChannelHistory) (c : Channel) : Type 0 where
  pub channel : ChannelHistory
  pub with : ChannelHistory → List ChannelHistory
  pub swaps : (j : ChannelHistory) → IsSwapped ks (with j) channel j
  pub name : channel.name ≡ h
  pub is : channel_of channel ≡ c
  pub puts : (j : ChannelHistory) → j.name ≡ h →
      (g : ChannelName) → channel_in (with j) g ≡ put (same_channel h g) (channel_of j) (channel_in ks g)

last_again : (h : ChannelName) (k j : ChannelHistory) (o : ChannelName → Option Channel) → o h ≡ None → k.name ≡ h → j.name ≡ h →
    (g : ChannelName) →
    over (o g) (named_so j g) ≡ put (same_channel h g) (channel_of j) (over (o g) (named_so k g))
last_again h k j o n a b g =
    ap (λ r. over (o g) (if same_channel r g then Some (channel_of j) else None)) b ∙ by (same_channel h g) refl
    ∙ ap (λ r. put (same_channel h g) (channel_of j) (over (o g) (if same_channel r g then Some (channel_of k) else None)))
    (sym a)
  where
    by : (b : Bool) → same_channel h g ≡ b →
        over (o g) (if b then Some (channel_of j) else None) ≡ put b (channel_of j)
        (over (o g) (if b then Some (channel_of k) else None))
    by true s = ap (λ u. over u (Some (channel_of j))) (ap o (sym (same_channel-same h g s)) ∙ n)
    by false s = refl

channel_here : (h : ChannelName) (k : ChannelHistory) (ks : List ChannelHistory) (c : Channel) → channel_in ks h ≡ None →
    named_so k h ≡ Some c → IsChannelAt h (k ∷ ks) c
channel_here h k ks c n e = by (same_channel k.name h) refl e
  where
    by : (b : Bool) → same_channel k.name h ≡ b → (if b then Some (channel_of k) else None) ≡ Some c → IsChannelAt h (k ∷ ks) c
    by false s q = absurd (none-some c q)
    by true s q = record {
      channel = k;
      with = λ j. j ∷ ks;
      swaps = λ j. record { before = []; behind = ks; was = refl; is = refl };
      name = same_channel-same k.name h s;
      is = same_Some (channel_of k) c q;
      puts = λ j i g. last_again h k j (channel_in ks) n (same_channel-same k.name h s) i g;
    }

channel_later : (h : ChannelName) (k : ChannelHistory) (ks : List ChannelHistory) (c : Channel) → IsChannelAt h ks c →
    IsChannelAt h (k ∷ ks) c
channel_later h k ks c a = record {
  channel = a.channel;
  with = λ j. k ∷ a.with j;
  swaps = λ j.
      let s = a.swaps j in
      record { before = k ∷ s.before; behind = s.behind; was = ap (λ l. k ∷ l) s.was; is = ap (λ l. k ∷ l) s.is };
  name = a.name;
  is = a.is;
  puts = λ j i g.
      ap (λ o. over o (named_so k g)) (a.puts j i g)
      ∙ over_put (same_channel h g) (channel_of j) (channel_in ks g) (named_so k g);
}

-- a channel that is found is one of them
pub is_channel_at : (h : ChannelName) (ks : List ChannelHistory) (c : Channel) → channel_in ks h ≡ Some c → IsChannelAt h ks c
is_channel_at h [] c e = absurd (none-some c e)
is_channel_at h (k ∷ ks) c e = by (channel_in ks h) refl e (is_channel_at h ks c)
  where
    by : (o : Option Channel) → channel_in ks h ≡ o → over o (named_so k h) ≡ Some c →
        (channel_in ks h ≡ Some c → IsChannelAt h ks c) → IsChannelAt h (k ∷ ks) c
    by None s q more = channel_here h k ks c s q
    by (Some d) s q more = channel_later h k ks c (more (s ∙ q))

-- a channel behind the others is put there
pub channel_behind : (ks : List ChannelHistory) (j : ChannelHistory) (g : ChannelName) →
    channel_in (ks ++ j ∷ []) g ≡ put (same_channel j.name g) (channel_of j) (channel_in ks g)
channel_behind [] j g = over_named (same_channel j.name g) (channel_of j)
channel_behind (k ∷ ks) j g =
    ap (λ o. over o (named_so k g)) (channel_behind ks j g)
    ∙ over_put (same_channel j.name g) (channel_of j) (channel_in ks g) (named_so k g)
