-- Ends in the order of their channels, of which two after two are closed.
use Rattle.std.proofs.Common.{◌≡◌, ◌⊎◌, inl, inr, ◌<◌, ◌≤◌, ℕ, suc, ◌+◌, List, [], ◌∷◌, ◌++◌, length, get_or, map, refl, sym, ap, ◌∙◌, subst, arith}
use Rattle.std.specs.Prelude.{sum_by, All, Contains}
use Rattle.std.specs.List.{AllPairs}
use Rattle.std.specs.List.Sorted.{IsSorted, IsStrictlySortedBy}
use Rattle.std.specs.Ordering.{is_lt}
use Rattle.std.specs.declared.cmp.Ordering.TheVariants.{Less}
use Rattle.std.proofs.lemmas.List.{map-append}
use Rattle.std.proofs.lemmas.List.Elements.{All-nil, All-cons, All-head, All-tail, All-push, All-weaker, Contains-get_or}
use Rattle.std.proofs.lemmas.List.MinMax.{ranks_by}
use Rattle.std.proofs.lemmas.List.Sorted.{IsPermutation-refl, sorted_far}
use Rattle.std.proofs.lemmas.List.Sums.{sum_by-append, sum_by-cons}
use Rattle.fst_types.specs.declared.side.Side.{Side}
use Rattle.fst_types.specs.declared.side.Side.TheVariants.{Left, Right}
use Rattle.fst_lts.specs.Histories.{opposite}
use Rattle.fst_types.specs.declared.ends.ChannelName.{ChannelName}
use Rattle.fst_types.specs.declared.ends.EndName.{EndName}
use Rattle.fst_runs.specs.Configs.{other}
use Rattle.fst_cell.specs.declared.answers.Closed.{Closed}
use Rattle.fst_cell.specs.End.{EndView, end_name}
use Rattle.fst_safety.specs.Threads.{count_of}
use Rattle.fst_worker.specs.Pairs.{IsOnePair}
use Rattle.fst_worker.specs.Records.{Pair, IsShut, Pooled, Closable}
use Rattle.fst_worker.specs.Closing.{name_cmp, channel_cmp, names_of, AreOfRun, IsClosedTo}
use Rattle.fst_records.proofs.Laws.{IsUpTo, apart_less, name_total, rising_more, up_to, end_or, end_counts, there_sums}
use Rattle.fst_worker.proofs.Partners.{counted}
use Rattle.fst_worker.proofs.Apart.{ends_once}
use Rattle.fst_worker.proofs.Pools.{pools}

-- ---- ends in order

-- no end stands before one whose channel comes first
abbrev pub AreInOrder : List EndView → Type 0
AreInOrder es = AllPairs (λ (d e : EndView). IsUpTo d.channel e.channel) es

-- the end's channel comes behind this name; and so do those of all these ends
abbrev pub IsAbove : ChannelName → EndView → Type 0
IsAbove h e = name_cmp h e.channel ≡ Less

abbrev pub AreAbove : List EndView → ChannelName → Type 0
AreAbove es h = All (IsAbove h) es

-- the end's channel has this name or comes behind it
abbrev pub IsFrom : ChannelName → EndView → Type 0
IsFrom h e = IsUpTo h e.channel

-- sorted ends are
pub in_order : (es : List EndView) → IsSorted channel_cmp es → AreInOrder es
in_order es sorted i j d l m =
    up_to (get_or es i d).channel (get_or es j d).channel
    (sorted_far (λ x y. is_lt (channel_cmp x y)) (ranks_by name_total (λ (e : EndView). e.channel)) es sorted i j d
    (omega arith) m)

-- no channel of the others comes before that of the first one
first_up : (e : EndView) (es : List EndView) → AreInOrder (e ∷ es) → All (IsFrom e.channel) es
first_up e es o k d l = o 0 (suc k) d (omega arith) (omega arith)

-- the others are in order
others_order : (e : EndView) (es : List EndView) → AreInOrder (e ∷ es) → AreInOrder es
others_order e es o i j d l m = o (suc i) (suc j) d (omega arith) (omega arith)

-- a name that comes before another comes before those that don't come before that one
below_up : (f g h : ChannelName) → name_cmp f g ≡ Less → IsUpTo g h → name_cmp f h ≡ Less
below_up f g h l (inl m) = name_total.trans f g h l m
below_up f g h l (inr e) = subst (λ x. name_cmp f x ≡ Less) e l

-- a channel that comes before those of all ends is that of none
none_more : (z : EndName) (e : EndView) (es : List EndView) → name_cmp z.channel e.channel ≡ Less → count_of z es ≡ 0 →
    ((z ≡ end_name e) × (counted z e ≡ 1)) ⊎ (counted z e ≡ 0) → count_of z (e ∷ es) ≡ 0
none_more z e es l b (inl q) = absurd (apart_less z.channel e.channel (ap (λ (x : EndName). x.channel) q.0) l)
none_more z e es l b (inr n) = let a = sum_by-cons (counted z) e es in omega (arith, a, b, n)

none_named : (z : EndName) (es : List EndView) → All (IsAbove z.channel) es → count_of z es ≡ 0
none_named z [] all = refl
none_named z (e ∷ es) all =
    none_more z e es (All-head (IsAbove z.channel) e es all)
    (none_named z es (All-tail (IsAbove z.channel) e es all)) (end_or z (end_name e))

-- where no end is, none has a name
none_there : (z : EndName) (es : List EndView) → length es ≡ 0 → count_of z es ≡ 0
none_there z [] l = refl
none_there z (e ∷ es) l = absurd (omega (arith, l))

-- an end of a channel has the name of one of the two ends
side_or : (s t : Side) → (s ≡ t) ⊎ (s ≡ opposite t)
side_or Left Left = inl refl
side_or Left Right = inr refl
side_or Right Left = inr refl
side_or Right Right = inl refl

name_or : (e f : EndView) → f.channel ≡ e.channel → (end_name f ≡ end_name e) ⊎ (end_name f ≡ other (end_name e))
name_or e f c = by (side_or f.knows.side e.knows.side)
  where
    by : (f.knows.side ≡ e.knows.side) ⊎ (f.knows.side ≡ opposite e.knows.side) → (end_name f ≡ end_name e) ⊎
        (end_name f ≡ other (end_name e))
    by (inl s) = inl (λ i. record { channel = c i; side = s i })
    by (inr s) = inr (λ i. record { channel = c i; side = s i })

-- ---- as far as channels were closed

-- these ends are left in order; the others are pairs whose channels were closed, with names that rise and come before those that are left
pub record AreClosedSoFar (es : List EndView) (cs : List Closed) (left : List EndView) : Type 0 where
  pub pairs : List Pair
  pub ends : (w : EndView → ℕ) → sum_by w es ≡ sum_by (λ (p : Pair). w p.left + w p.right) pairs + sum_by w left
  pub shut : All IsShut pairs
  pub closed : map (λ (p : Pair). p.closed) pairs ≡ cs
  pub order : AreInOrder left
  pub rising : IsStrictlySortedBy name_cmp (names_of cs)
  pub below : All (AreAbove left) (names_of cs)

-- none was closed yet
pub at_first : (es : List EndView) → IsSorted channel_cmp es → AreClosedSoFar es [] es
unfolding IsStrictlySortedBy
at_first es sorted = record {
  pairs = [];
  ends = λ w. omega arith;
  shut = All-nil IsShut;
  closed = refl;
  order = in_order es sorted;
  rising = tt;
  below = All-nil (AreAbove es);
}

module _ (es : List EndView) (cs : List Closed) (e : EndView) (more : List EndView) (all : AreOfRun es)
    (k : AreClosedSoFar es cs (e ∷ more)) where
  pooled : Pooled all.threads k.pairs (e ∷ more)
  pooled w = all.ends w ∙ k.ends w

  closable : Closable (e ∷ more)
  closable = pools all.surroundings all.type all.main all.threads k.pairs (e ∷ more) all.run pooled k.shut

  -- the other end is there
  pub other_there : 0 < count_of (other (end_name e)) more
  other_there = closable.partner e more (IsPermutation-refl (e ∷ more))

  -- so this one isn't the last
  pub not_last : length more ≡ 0 → ⊥
  not_last l = let a = other_there in let b = none_there (other (end_name e)) more l in omega (arith, a, b)

  -- it is a pair with this one
  pub is_pair : (f : EndView) → Contains more f → end_name f ≡ other (end_name e) → IsOnePair e f
  is_pair f c is = closable.pair e f more (IsPermutation-refl (e ∷ more)) c is

  -- no name stands twice
  pub at_most_once : (z : EndName) → counted z e + count_of z more ≤ 1
  at_most_once z =
      let a = ends_once all.surroundings all.type all.main all.threads all.run z in
      let b = pooled (counted z) in
      let c = sum_by-cons (counted z) e more in
      omega (arith, a, b, c)

module _ (es : List EndView) (cs : List Closed) (e f : EndView) (rest : List EndView) (all : AreOfRun es)
    (k : AreClosedSoFar es cs (e ∷ (f ∷ rest))) where
  -- no name stands twice among these
  once_of : (z : EndName) → counted z e + (counted z f + count_of z rest) ≤ 1
  once_of z = let a = at_most_once es cs e (f ∷ rest) all k z in let b = sum_by-cons (counted z) f rest in omega (arith, a, b)

  up_first : All (IsFrom e.channel) (f ∷ rest)
  up_first = first_up e (f ∷ rest) k.order

  up_second : All (IsFrom f.channel) rest
  up_second = first_up f rest (others_order e (f ∷ rest) k.order)

  -- the next one is of the same channel
  one_channel : f.channel ≡ e.channel
  one_channel = by (All-head (IsFrom e.channel) f rest up_first)
    where
      by : IsUpTo e.channel f.channel → f.channel ≡ e.channel
      by (inr q) = sym q
      by (inl l) =
          let below = All-cons (IsAbove e.channel) f rest l
          (All-weaker (IsFrom f.channel) (IsAbove e.channel)
          (λ g u. below_up e.channel f.channel g.channel l u) rest up_second) in
          let a = none_named (other (end_name e)) (f ∷ rest) below in
          let b = other_there es cs e (f ∷ rest) all k in
          absurd (omega (arith, a, b))

  -- it is the other end
  pub next_other : end_name f ≡ other (end_name e)
  next_other = by (name_or e f one_channel)
    where
      by : (end_name f ≡ end_name e) ⊎ (end_name f ≡ other (end_name e)) → end_name f ≡ other (end_name e)
      by (inr q) = q
      by (inl q) =
          let a = once_of (end_name e) in
          let b = end_counts (end_name e) (end_name e) refl in
          let c = end_counts (end_name e) (end_name f) (sym q) in
          absurd (omega (arith, a, b, c))

  -- with the same cell
  pub next_cell : f.cell ≡ e.cell
  next_cell = (is_pair es cs e (f ∷ rest) all k f (0, omega arith, refl) next_other).cell

  -- an end behind both is of another channel
  apart : (g : EndView) → Contains rest g → g.channel ≡ e.channel → ⊥
  apart g c q = by (name_or e g q)
    where
      by : (end_name g ≡ end_name e) ⊎ (end_name g ≡ other (end_name e)) → ⊥
      by (inl n) =
          let a = once_of (end_name e) in
          let b = end_counts (end_name e) (end_name e) refl in
          let d = end_counts (end_name e) (end_name g) (sym n) in
          let s = there_sums (counted (end_name e)) rest g c in
          omega (arith, a, b, d, s)
      by (inr n) =
          let a = once_of (end_name f) in
          let b = end_counts (end_name f) (end_name f) refl in
          let d = end_counts (end_name f) (end_name g) (next_other ∙ sym n) in
          let s = there_sums (counted (end_name f)) rest g c in
          omega (arith, a, b, d, s)

  -- it comes behind this one
  above_rest : All (IsAbove e.channel) rest
  above_rest i d l =
      by (All-tail (IsFrom e.channel) f rest up_first i d l)
    where
      by : IsUpTo e.channel (get_or rest i d).channel → name_cmp e.channel (get_or rest i d).channel ≡ Less
      by (inl m) = m
      by (inr q) = absurd (apart (get_or rest i d) (Contains-get_or rest i d l) (sym q))

  -- these two were closed
  pub closed_more : (c : Closed) → IsClosedTo e f c → AreClosedSoFar es (cs ++ c ∷ []) rest
  closed_more c s = record {
    pairs = k.pairs ++ s.pair ∷ [];
    ends = λ w.
        let v = λ (p : Pair). w p.left + w p.right in
        let a = k.ends w in
        let b = sum_by-cons w e (f ∷ rest) in
        let d = sum_by-cons w f rest in
        let g = sum_by-append v k.pairs (s.pair ∷ []) in
        let h = sum_by-cons v s.pair [] in
        let j = s.ends w in
        omega (arith, a, b, d, g, h, j);
    shut = All-push IsShut k.pairs s.pair k.shut s.shut;
    closed = map-append (λ (p : Pair). p.closed) k.pairs (s.pair ∷ []) ∙ ap (λ xs. xs ++ s.pair.closed ∷ []) k.closed ∙ ap
        (λ x. cs ++ x ∷ []) s.closed;
    order = others_order f rest (others_order e (f ∷ rest) k.order);
    rising = subst (IsStrictlySortedBy name_cmp) (sym names) (rising_more (names_of cs) c.history.name k.rising before_this);
    below = subst (All (AreAbove rest)) (sym names)
        (All-push (AreAbove rest) (names_of cs) c.history.name before_rest (subst (AreAbove rest) (sym s.named) above_rest));
  }
    where
      names : names_of (cs ++ c ∷ []) ≡ names_of cs ++ c.history.name ∷ []
      names = map-append (λ (c : Closed). c.history.name) cs (c ∷ [])

      before_this : All (λ (h : ChannelName). name_cmp h c.history.name ≡ Less) (names_of cs)
      before_this = All-weaker (AreAbove (e ∷ (f ∷ rest))) (λ (h : ChannelName). name_cmp h c.history.name ≡ Less)
          (λ h b. subst (λ x. name_cmp h x ≡ Less) (sym s.named) (All-head (IsAbove h) e (f ∷ rest) b)) (names_of cs) k.below

      before_rest : All (AreAbove rest) (names_of cs)
      before_rest = All-weaker (AreAbove (e ∷ (f ∷ rest))) (AreAbove rest)
          (λ h b. All-tail (IsAbove h) f rest (All-tail (IsAbove h) e (f ∷ rest) b)) (names_of cs) k.below
