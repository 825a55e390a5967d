-- No two tasks have one path, and no two channels that the logs make have one name.
use Rattle.std.proofs.Common.{◌≡◌, ◌⊎◌, inl, inr, ◌<◌, ◌≤◌, ℕ, zero, suc, ◌+◌, List, [], ◌∷◌, ◌++◌, length, Option, Some, None, refl, sym, ap, ◌∙◌, subst, arith, length-append}
use Rattle.std.specs.Prelude.{sum_by, All, slice_get}
use Rattle.std.proofs.lemmas.List.Sums.{sum_by-append, sum_by-cons, sum_by-le-sum_by}
use Rattle.fst_base.proofs.Lists.{snoc_view}
use Rattle.fst_types.specs.Tree.{Tree}
use Rattle.fst_types.specs.declared.ends.ChannelName.{ChannelName}
use Rattle.fst_machine.specs.declared.request.Request.{Request}
use Rattle.fst_machine.specs.declared.request.Request.TheVariants.{Step, New, Fork, Put, Get}
use Rattle.fst_machine.specs.declared.request.Answer.{Answer}
use Rattle.fst_machine.specs.declared.request.Answer.TheVariants.{Go, Made, Forked, Sent, Got}
use Rattle.fst_machine.specs.Machine.{Program, State, pause, child}
use Rattle.fst_runs.specs.Configs.{Path, Task, same_path, same_channel, child_path, main_path, channel_name}
use Rattle.fst_runs.specs.Wrong.{once}
use Rattle.fst_runs.specs.declared.log.LogEntry.{LogEntry}
use Rattle.fst_runs.specs.Logs.{Birth, Opening, Follows, IsAnswered, after_entry, made_after, forks_after, opening_of, opened_by, birth_of, born_by, births, openings}
use Rattle.fst_records.specs.Records.{Course, began, bears, opens}
use Rattle.fst_records.proofs.Sums.{sum_less, sum_same}
use Rattle.fst_records.proofs.Tests.{small, path_or, path_counts, channel_or, snoc_same}

-- ---- births

-- a birth, by its path
abbrev pub at_path : Path → Birth → ℕ
at_path x b = once (same_path x b.path)

-- of some that a counter numbers, at most this many are the j-th, and none where the counter has passed j
record Few (here : ℕ) (j : ℕ) (counter : ℕ) (n : ℕ) : Type 0 where
  le : n ≤ here
  past : j < counter → n ≡ 0

-- the next one is the j-th, or it isn't
abbrev Hits : ℕ → ℕ → ℕ → ℕ → ℕ → Type 0
Hits here j counter next n = ((n ≤ 1) × (j ≡ counter) × (next ≡ suc counter) × (here ≡ 1)) ⊎ ((n ≡ 0) × (counter ≤ next))

few_more : (here j counter next one more n : ℕ) → Few here j next more → n ≡ one + more → Hits here j counter next one →
    Few here j counter n
few_more here j counter next one more n f a (inl (b, c, d, e)) =
    let z = f.past (omega (arith, c, d)) in
    record { le = omega (arith, a, b, e, z); past = λ l. absurd (omega (arith, l, c)) }
few_more here j counter next one more n f a (inr (b, c)) = record {
  le = let l = f.le in omega (arith, a, b, l);
  past = λ l. let z = f.past (omega (arith, l, c)) in omega (arith, a, b, z);
}

-- an answer makes the task fork, or not
abbrev pub IsFork : Program → Path → Task → ℕ → Answer → Type 0
IsFork p path t stamp a =
    ((born_by p path t stamp a ≡ birth_of (child_path path t.forked) stamp (child (pause p.families t.state))) ×
    (forks_after a t.forked ≡ suc t.forked))
    ⊎ ((born_by p path t stamp a ≡ []) × (forks_after a t.forked ≡ t.forked))

pub is_fork : (p : Program) (path : Path) (t : Task) (stamp : ℕ) (a : Answer) → IsFork p path t stamp a
is_fork p path t stamp Go = inr (refl, refl)
is_fork p path t stamp (Made h) = inr (refl, refl)
is_fork p path t stamp Forked = inl (refl, refl)
is_fork p path t stamp Sent = inr (refl, refl)
is_fork p path t stamp (Got ev) = inr (refl, refl)

pub birth_le : (x path : Path) (clock : ℕ) (o : Option State) →
    sum_by (at_path x) (birth_of path clock o) ≤ once (same_path x path)
birth_le x path clock None = omega arith
birth_le x path clock (Some s) = omega arith

birth_hits : (p : Program) (q : Path) (j : ℕ) (path : Path) (t : Task) (stamp : ℕ) (a : Answer) → IsFork p path t stamp a →
    Hits (once (same_path q path)) j t.forked (forks_after a t.forked)
    (sum_by (at_path (child_path q j)) (born_by p path t stamp a))
birth_hits p q j path t stamp a (inr k) = let c = k.1 in inr (ap (sum_by (at_path (child_path q j))) k.0, omega (arith, c))
birth_hits p q j path t stamp a (inl k) = by (path_or (child_path q j) (child_path path t.forked))
  where
    by : ((child_path q j ≡ child_path path t.forked) × (once (same_path (child_path q j) (child_path path t.forked)) ≡ 1))
        ⊎ (once (same_path (child_path q j) (child_path path t.forked)) ≡ 0) →
        Hits (once (same_path q path)) j t.forked (forks_after a t.forked)
        (sum_by (at_path (child_path q j)) (born_by p path t stamp a))
    by (inl y) =
        let z = ap (sum_by (at_path (child_path q j))) k.0 in
        let b = birth_le (child_path q j) (child_path path t.forked) stamp (child (pause p.families t.state)) in
        let g = y.1 in
        let r = snoc_same q path (suc j) (suc t.forked) y.0 in
        let e = r.1 in
        inl (omega (arith, z, b, g), omega (arith, e), k.1, path_counts q path r.0)
    by (inr n) =
        let z = ap (sum_by (at_path (child_path q j))) k.0 in
        let b = birth_le (child_path q j) (child_path path t.forked) stamp (child (pause p.families t.state)) in
        let c = k.1 in
        inr (omega (arith, z, b, n), omega (arith, c))

few_births : (p : Program) (q : Path) (j : ℕ) (path : Path) (t : Task) (log : List LogEntry) →
    Few (once (same_path q path)) j t.forked (sum_by (at_path (child_path q j)) (births p path t log))
few_births p q j path t [] = record { le = omega arith; past = λ l. refl }
few_births p q j path t (e ∷ es) =
    few_more (once (same_path q path)) j t.forked (forks_after e.answer t.forked)
    (sum_by (at_path (child_path q j)) (born_by p path t e.stamp e.answer))
    (sum_by (at_path (child_path q j)) (births p path (after_entry p t e) es))
    (sum_by (at_path (child_path q j)) (births p path t (e ∷ es)))
    (few_births p q j path (after_entry p t e) es)
    (sum_by-append (at_path (child_path q j)) (born_by p path t e.stamp e.answer) (births p path (after_entry p t e) es))
    (birth_hits p q j path t e.stamp e.answer (is_fork p path t e.stamp e.answer))

-- no task with a path that isn't a child's is forked
none_born : (p : Program) (x : Path) → ((q : Path) (k : ℕ) → x ≡ child_path q k → ⊥) →
    (path : Path) (t : Task) (log : List LogEntry) →
    sum_by (at_path x) (births p path t log) ≡ 0
none_born p x never path t [] = refl
none_born p x never path t (e ∷ es) =
    let ih = none_born p x never path (after_entry p t e) es in
    let a = sum_by-append (at_path x) (born_by p path t e.stamp e.answer) (births p path (after_entry p t e) es) in
    let z = by (is_fork p path t e.stamp e.answer) in
    omega (arith, a, z, ih)
  where
    by : IsFork p path t e.stamp e.answer → sum_by (at_path x) (born_by p path t e.stamp e.answer) ≡ 0
    by (inr k) = ap (sum_by (at_path x)) k.0
    by (inl k) =
        let z = ap (sum_by (at_path x)) k.0 in
        let b = birth_le x (child_path path t.forked) e.stamp (child (pause p.families t.state)) in
        let n = apart (path_or x (child_path path t.forked)) in
        omega (arith, z, b, n)
      where
        apart : ((x ≡ child_path path t.forked) × (once (same_path x (child_path path t.forked)) ≡ 1))
            ⊎ (once (same_path x (child_path path t.forked)) ≡ 0) → once (same_path x (child_path path t.forked)) ≡ 0
        apart (inl y) = absurd (never path t.forked y.0)
        apart (inr n) = n

no_child : (q : Path) (k : ℕ) → [] ≡ child_path q k → ⊥
no_child q k e = let a = ap length e in let b = length-append q (suc k ∷ []) in absurd (omega (arith, a, b))

not_first : (p : Path) (q : Path) (k : ℕ) → p ++ zero ∷ [] ≡ child_path q k → ⊥
not_first p q k e = let r = (snoc_same p q zero (suc k) e).1 in absurd (omega (arith, r))

-- ---- channels

-- a channel, by its name
abbrev pub of_name : ChannelName → Opening → ℕ
of_name h o = once (same_channel h o.name)

-- an answer gives the task a channel, or not
abbrev pub IsNew : List Tree → Path → Task → Request → Answer → Type 0
IsNew types path t q a =
    ((o : Option Tree) × (opened_by types q a ≡ opening_of (channel_name path t.made) o) × (made_after a t.made ≡ suc t.made))
    ⊎ ((opened_by types q a ≡ []) × (made_after a t.made ≡ t.made))

pub is_new : (types : List Tree) (path : Path) (t : Task) (stamp : ℕ) (q : Request) (a : Answer) → IsAnswered path t stamp q a →
    IsNew types path t q a
is_new types path t stamp Step Go h = inr (refl, refl)
is_new types path t stamp (New k) (Made n) h = inl (slice_get types k, ap (λ n. opening_of n (slice_get types k)) h.1, refl)
is_new types path t stamp Fork Forked h = inr (refl, refl)
is_new types path t stamp (Put x ev) Sent h = inr (refl, refl)
is_new types path t stamp (Get x) (Got ev) h = inr (refl, refl)
is_new types path t stamp q a h = absurd h

pub opening_le : (h n : ChannelName) (o : Option Tree) → sum_by (of_name h) (opening_of n o) ≤ once (same_channel h n)
opening_le h n None = omega arith
opening_le h n (Some t) = omega arith

opening_hits : (types : List Tree) (h : ChannelName) (path : Path) (t : Task) (q : Request) (a : Answer) →
    IsNew types path t q a →
    Hits (once (same_path h.maker path)) h.count (suc t.made) (suc (made_after a t.made))
    (sum_by (of_name h) (opened_by types q a))
opening_hits types h path t q a (inr k) = let c = k.1 in inr (ap (sum_by (of_name h)) k.0, omega (arith, c))
opening_hits types h path t q a (inl k) = by (channel_or h (channel_name path t.made))
  where
    by : ((h ≡ channel_name path t.made) × (once (same_channel h (channel_name path t.made)) ≡ 1)) ⊎
        (once (same_channel h (channel_name path t.made)) ≡ 0) →
        Hits (once (same_path h.maker path)) h.count (suc t.made) (suc (made_after a t.made))
        (sum_by (of_name h) (opened_by types q a))
    by (inl y) =
        let z = ap (sum_by (of_name h)) k.1 in
        let b = opening_le h (channel_name path t.made) k.0 in
        let g = y.1 in
        let c = k.2 in
        inl (
          omega (arith, z, b, g),
          ap (λ (x : ChannelName). x.count) y.0,
          omega (arith, c),
          path_counts h.maker path (ap (λ (x : ChannelName). x.maker) y.0),
        )
    by (inr n) =
        let z = ap (sum_by (of_name h)) k.1 in
        let b = opening_le h (channel_name path t.made) k.0 in
        let c = k.2 in
        inr (omega (arith, z, b, n), omega (arith, c))

few_openings : (p : Program) (types : List Tree) (h : ChannelName) (path : Path) (t : Task) (log : List LogEntry) (u : Task) →
    Follows p path t log u →
    Few (once (same_path h.maker path)) h.count (suc t.made) (sum_by (of_name h) (openings types log))
few_openings p types h path t [] u f = record { le = omega arith; past = λ l. refl }
few_openings p types h path t (e ∷ es) u f =
    few_more (once (same_path h.maker path)) h.count (suc t.made) (suc (made_after e.answer t.made))
    (sum_by (of_name h) (opened_by types e.asked e.answer))
    (sum_by (of_name h) (openings types es)) (sum_by (of_name h) (openings types (e ∷ es)))
    (few_openings p types h path (after_entry p t e) es u f.1)
    (sum_by-append (of_name h) (opened_by types e.asked e.answer) (openings types es))
    (opening_hits types h path t e.asked e.answer (is_new types path t e.stamp e.asked e.answer f.0.is_answered))

-- ---- all courses

-- the log of a course leads from how it began to how it is
abbrev pub IsLed : Program → Course → Type 0
IsLed m y = Follows m y.path y.first y.log y.now

-- where the courses of these things are main's and those that the logs fork
module _ {X : Type 0} (course : X → Course) (m : Program) (main : Birth) (xs : List X) (root : main.path ≡ main_path)
    (births_are : (w : Birth → ℕ) → sum_by (λ (x : X). w (began (course x))) xs ≡ w main + sum_by (λ (x : X). bears m w
    (course x)) xs) where
  -- a thing, by its path
  abbrev pub has_path : Path → X → ℕ
  has_path p x = once (same_path p (course x).path)

  pub main_not : (q : Path) (k : ℕ) → once (same_path (child_path q k) main.path) ≡ 0
  main_not q k = by (path_or (child_path q k) main.path)
    where
      by : ((child_path q k ≡ main.path) × (once (same_path (child_path q k) main.path) ≡ 1)) ⊎
          (once (same_path (child_path q k) main.path) ≡ 0) →
          once (same_path (child_path q k) main.path) ≡ 0
      by (inl y) = absurd (not_first [] q k (sym (y.0 ∙ root)))
      by (inr n) = n

  -- a path that isn't a child's is at most main's
  at_most_main : (p : Path) → ((q : Path) (k : ℕ) → p ≡ child_path q k → ⊥) → sum_by (has_path p) xs ≤ 1
  at_most_main p never =
      let w = births_are (at_path p) in
      let z = sum_same (λ (x : X). bears m (at_path p) (course x)) (λ (x : X). 0)
      (λ x. none_born m p never (course x).path (course x).first (course x).log) xs in
      let n = none_sum xs in
      let b = small (same_path p main.path) in
      omega (arith, w, z, n, b)
    where
      none_sum : (xs : List X) → sum_by (λ (x : X). 0) xs ≡ 0
      none_sum [] = refl
      none_sum (x ∷ xs) = let a = sum_by-cons (λ (x : X). 0) x xs in let b = none_sum xs in omega (arith, a, b)

  -- where only one has a path, only one is its k-th child
  at_most_child : (q : Path) (k : ℕ) → sum_by (has_path q) xs ≤ 1 → sum_by (has_path (child_path q k)) xs ≤ 1
  at_most_child q k ih =
      let p = child_path q k in
      let w = births_are (at_path p) in
      let l = sum_by-le-sum_by (λ (x : X). bears m (at_path p) (course x)) (has_path q) xs
      (λ x. (few_births m q k (course x).path (course x).first (course x).log).le) in
      let z = main_not q k in
      omega (arith, w, l, z, ih)

  once_by : (n : ℕ) (p : Path) → length p ≤ n → (p ≡ []) ⊎ ((q : Path) × (j : ℕ) × (p ≡ q ++ j ∷ [])) → sum_by (has_path p) xs ≤ 1
  once_by n p l (inl e) = subst (λ y. sum_by (has_path y) xs ≤ 1) (sym e) (at_most_main [] no_child)
  once_by n p l (inr (q, zero, e)) = subst (λ y. sum_by (has_path y) xs ≤ 1) (sym e) (at_most_main (q ++ zero ∷ []) (not_first q))
  once_by zero p l (inr (q, suc k, e)) = let b = ap length e in let c = length-append q (suc k ∷ []) in
      absurd (omega (arith, b, c, l))
  once_by (suc n) p l (inr (q, suc k, e)) =
      let b = ap length e in
      let c = length-append q (suc k ∷ []) in
      subst (λ y. sum_by (has_path y) xs ≤ 1) (sym e) (at_most_child q k (once_by n q (omega (arith, b, c, l)) (snoc_view q)))

  -- no two of them have one path
  pub paths_once : (p : Path) → sum_by (has_path p) xs ≤ 1
  paths_once p = once_by (length p) p (omega arith) (snoc_view p)

  -- no two channels have one name, where the logs lead to how the tasks are
  pub names_once : (types : List Tree) → All (λ (x : X). IsLed m (course x)) xs → (h : ChannelName) →
      sum_by (λ (x : X). opens types (λ n t. once (same_channel h n)) (course x)) xs ≤ 1
  names_once types led h =
      let l = sum_less (λ (x : X). opens types (λ n t. once (same_channel h n)) (course x)) (has_path h.maker)
      (λ (x : X). IsLed m (course x))
      (λ x f. (few_openings m types h (course x).path (course x).first (course x).log (course x).now f).le) xs led in
      let b = paths_once h.maker in
      omega (arith, l, b)
