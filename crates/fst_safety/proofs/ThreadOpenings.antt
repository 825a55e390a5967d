-- A thread that makes a channel.
use Rattle.std.proofs.Common.{◌≡◌, ◌∙◌, ◌⊎◌, inl, inr, ◌<◌, ◌≤◌, ℕ, zero, suc, ◌+◌, List, [], ◌∷◌, ◌++◌, length, Bool, true, false, Option, Some, None, refl, sym, ap, subst, arith}
use Rattle.std.specs.Prelude.{if◌then◌else◌, sum_by, slice_get}
use Rattle.std.proofs.lemmas.List.{append-nil, append_assoc, length-append}
use Rattle.std.proofs.lemmas.List.Elements.{All-nil}
use Rattle.atomic_table.specs.Seated.{TableId}
use Rattle.fst_types.specs.Tree.{Tree}
use Rattle.fst_types.specs.declared.side.Side.{Side}
use Rattle.fst_types.specs.declared.side.Side.TheVariants.{Left, Right}
use Rattle.fst_lts.specs.Dual.{dual}
use Rattle.fst_lts.specs.Histories.{side_type}
use Rattle.fst_derivations.specs.Rules.{Surroundings}
use Rattle.fst_types.specs.declared.ends.ChannelName.{ChannelName}
use Rattle.fst_types.specs.declared.ends.EndName.{EndName}
use Rattle.fst_machine.specs.declared.request.Request.TheVariants as request
use Rattle.fst_machine.specs.declared.request.Answer.TheVariants.{Made}
use Rattle.fst_machine.specs.Machine.{State, or_lost, answered}
use Rattle.fst_machine.specs.Machine as machine
use Rattle.fst_runs.specs.Configs.{same_end, same_channel, channel_name}
use Rattle.fst_runs.specs.Wrong.{once, held_state, IsUnspent}
use Rattle.fst_runs.proofs.Laws.{same_channel-itself, follows_more, opened_more}
use Rattle.fst_cell.specs.End.{EndView, end_name, residual_of}
use Rattle.fst_lts.specs.Residuals.{residual}
use Rattle.fst_cell.specs.Rule.{fresh}
use Rattle.fst_runs.specs.declared.log.LogEntry.{LogEntry}
use Rattle.fst_safety.specs.Fitting.{Residuals, IsTyped}
use Rattle.fst_safety.specs.Pauses.{Goes}
use Rattle.fst_safety.specs.WellTyped.{IsWellTyped, program_in}
use Rattle.fst_runs.specs.Logs.{Opening, Enters, after_entry, opening_of}
use Rattle.fst_safety.specs.Threads.{Thread, FitsIn, FitsEnd, AreResiduals, IsNamedBelow, count_of}
use Rattle.fst_safety.specs.Turns.{Turn, AreKnownSpent, on_side, by_type, by_cell, by_exchanges}
use Rattle.fst_safety.specs.Bags.{IsPutBack}
use Rattle.fst_safety.proofs.Answered.{end_at, Opens, which_end, not_end, held_before, made_typed}
use Rattle.fst_safety.proofs.BagLaws.{counted, counted_so, or_not, with_at, at_itself, at_other, unspent_in}
use Rattle.fst_safety.proofs.Pasts.{later_past}
use Rattle.fst_safety.proofs.PutLaws.{HasPut, WentTo, has_put, rested, rested_typed, rested_unspent}
use Rattle.fst_safety.proofs.ThreadTurns.{later_all}

-- nothing stands behind a list that it is itself with that behind it
nothing_behind : (xs ys : List ℕ) → xs ≡ xs ++ ys → ys ≡ []
nothing_behind xs [] e = refl
nothing_behind xs (y ∷ ys) e = let l = ap length e in let k = length-append xs (y ∷ ys) in absurd (omega (arith, l, k))

-- ends are counted on among open and spent ones
pub went_counts : (f : EndView) (bag0 ret0 bag1 ret1 : List EndView) → WentTo f bag0 ret0 bag1 ret1 → (z : EndName) →
    (count_of z bag1 + count_of z ret1 ≡ (count_of z bag0 + count_of z ret0) + counted z f) ×
    (count_of z bag0 ≤ count_of z bag1) × (count_of z bag1 ≤ count_of z bag0 + counted z f)
went_counts f bag0 ret0 bag1 ret1 (inl w) z = let a = (w z).0 in let b = (w z).1 in
    (omega (arith, a, b), omega (arith, a), omega (arith, a))
went_counts f bag0 ret0 bag1 ret1 (inr w) z = let a = (w z).0 in let b = (w z).1 in
    (omega (arith, a, b), omega (arith, a), omega (arith, a))

sides_differ : (h : ChannelName) → end_at h Left ≡ end_at h Right → ⊥
sides_differ h e = let g : Left ≡ Right = ap (λ (z : EndName). z.side) e in absurd (cc g)

-- two residuals at one place
only_at : (x : EndName) (o p : Option Tree) (q : Residuals) (z : EndName) → (z ≡ x) ⊎ (with_at x o q z ≡ with_at x p q z)
only_at x o p q z = go (at_other x o q z) (at_other x p q z)
  where
    go : (z ≡ x) ⊎ (with_at x o q z ≡ q z) → (z ≡ x) ⊎ (with_at x p q z ≡ q z) → (z ≡ x) ⊎ (with_at x o q z ≡ with_at x p q z)
    go (inl i) k = inl i
    go (inr i) (inl j) = inl j
    go (inr i) (inr j) = inr (i ∙ sym j)

-- below another place
below_at : (x : EndName) (o : Option Tree) (q q' : Residuals) (z : EndName) → q z ≡ q' z → with_at x o q z ≡ with_at x o q' z
below_at x o q q' z e = go (same_end x z)
  where
    go : (b : Bool) → (if b then o else q z) ≡ (if b then o else q' z)
    go true = refl
    go false = e

pub left_residual : (t : Tree) → residual Left t [] ≡ Some t
unfolding residual
left_residual t = refl

pub right_residual : (t : Tree) → residual Right t [] ≡ Some (dual t)
unfolding residual
right_residual t = refl

module _ (m : Surroundings) (well : IsWellTyped m) (a : Tree) (x : Thread) (fits : FitsIn m a x) (k : ℕ) (d : Tree)
    (asks : machine.request m.families x.now.state ≡ Some (request.New k))
    (is : slice_get m.types k ≡ Some d) (s : State)
    (told : answered (program_in m) x.now.state (Made (channel_name x.path x.now.made)) ≡ Some s) (cell : TableId)
    (l r : EndView) (l_is : l ≡ record { cell = cell; channel = channel_name x.path x.now.made; knows = fresh Left d })
    (r_is : r ≡ record { cell = cell; channel = channel_name x.path x.now.made; knows = fresh Right d })
    (bag1 ret1 bag ret : List EndView) (put_l : IsPutBack l x.bag x.retired bag1 ret1)
    (put_r : IsPutBack r bag1 ret1 bag ret) where
  abbrev h : ChannelName
  h = channel_name x.path x.now.made

  abbrev entry : LogEntry
  entry = record { asked = request.New k; answer = Made h; stamp = suc x.now.clock }

  abbrev pub made_on : Thread
  made_on = record {
    path = x.path;
    first = x.first;
    log = x.log ++ entry ∷ [];
    now = after_entry (program_in m) x.now entry;
    bag = bag;
    retired = ret;
  }

  abbrev s' : State
  s' = made_on.now.state

  enters : Enters (program_in m) x.path x.now entry
  enters = record { asked = asks; is_answered = (refl, refl); state = s; leads = told }

  there : answered (program_in m) x.now.state (Made h) ≡ Some s'
  there = told ∙ ap (λ o. Some (or_lost o)) (sym told)

  abbrev L : EndName
  L = end_at h Left

  abbrev R : EndName
  R = end_at h Right

  name_l : end_name l ≡ L
  name_l = ap end_name l_is

  name_r : end_name r ≡ R
  name_r = ap end_name r_is

  not_held : (b : Side) → held_state (end_at h b) x.now.state ≡ 0
  not_held b = go (held_state (end_at h b) x.now.state) refl
    where
      go : (n : ℕ) → held_state (end_at h b) x.now.state ≡ n → n ≡ 0
      go zero q = refl
      go (suc n) q =
          let o = fits.named (end_at h b) (omega (arith, q)) in
          let c = o.own (nothing_behind x.path o.behind o.leads) in
          absurd (omega (arith, c))

  not_there : (b : Side) → count_of (end_at h b) x.bag ≡ 0
  not_there b = go (count_of (end_at h b) x.bag) refl
    where
      go : (n : ℕ) → count_of (end_at h b) x.bag ≡ n → n ≡ 0
      go zero q = refl
      go (suc n) q = let o = (fits.once (end_at h b) (omega (arith, q))).1 in let c = not_held b in absurd (omega (arith, o, c))

  abbrev p1 : HasPut l d x.bag x.retired bag1 ret1
  p1 = has_put l d (ap (λ (e : EndView). residual_of e.knows) l_is ∙ left_residual d) x.bag x.retired bag1 ret1 put_l

  abbrev p2 : HasPut r (dual d) bag1 ret1 bag ret
  p2 = has_put r (dual d) (ap (λ (e : EndView). residual_of e.knows) r_is ∙ right_residual d) bag1 ret1 bag ret put_r

  counts_1 : (z : EndName) → (count_of z bag1 + count_of z ret1 ≡ (count_of z x.bag + count_of z x.retired) + counted z l) ×
      (count_of z x.bag ≤ count_of z bag1) × (count_of z bag1 ≤ count_of z x.bag + counted z l)
  counts_1 = went_counts l x.bag x.retired bag1 ret1 p1.went

  counts_2 : (z : EndName) → (count_of z bag + count_of z ret ≡ (count_of z bag1 + count_of z ret1) + counted z r) ×
      (count_of z bag1 ≤ count_of z bag) × (count_of z bag ≤ count_of z bag1 + counted z r)
  counts_2 = went_counts r bag1 ret1 bag ret p2.went

  -- how an end is counted with the new ones
  apart : (z : EndName) (e : EndView) (y : EndName) → end_name e ≡ y → (z ≡ y → ⊥) → counted z e ≡ 0
  apart z e y i n = go (or_not z e)
    where
      go : (end_name e ≡ z) ⊎ (counted z e ≡ 0) → counted z e ≡ 0
      go (inl j) = absurd (n (sym j ∙ i))
      go (inr j) = j

  -- a new end is one of both
  one_of : (b : Side) (z : EndName) → z ≡ end_at h b → counted z l + counted z r ≡ 1
  one_of Left z i =
      let a = counted_so z l (name_l ∙ sym i) in
      let b = apart z r R name_r (λ e. sides_differ h (sym i ∙ e)) in
      omega (arith, a, b)
  one_of Right z i =
      let a = apart z l L name_l (λ e. sides_differ h (sym (sym i ∙ e))) in
      let b = counted_so z r (name_r ∙ sym i) in
      omega (arith, a, b)

  R_not_in_1 : count_of R bag1 ≡ 0
  R_not_in_1 =
      let c = (counts_1 R).2 in
      let n = not_there Right in
      let z = apart R l L name_l (λ e. sides_differ h (sym e)) in
      omega (arith, c, n, z)

  abbrev r0 : Residuals
  r0 = fits.typed.residuals

  abbrev r1 : Residuals
  r1 = with_at (end_name l) (Some (rested d)) r0

  abbrev r2 : Residuals
  r2 = with_at (end_name r) (Some (rested (dual d))) r1

  are : AreResiduals bag r2
  are = p2.are r1 (p1.are r0 fits.typed.are (ap (λ w. count_of w x.bag) name_l ∙ not_there Left))
      (ap (λ w. count_of w bag1) name_r ∙ R_not_in_1)

  -- the residuals of the new channel
  abbrev q1 : Residuals
  q1 = with_at (end_name l) (Some d) r0

  abbrev q2 : Residuals
  q2 = with_at (end_name r) (Some (dual d)) q1

  -- and with the left end rested
  abbrev q3 : Residuals
  q3 = with_at (end_name r) (Some (dual d)) r1

  names_differ : end_name l ≡ end_name r → ⊥
  names_differ e = sides_differ h (sym name_l ∙ e ∙ name_r)

  beyond : (o p : Option Tree) (q : Residuals) → with_at (end_name r) p (with_at (end_name l) o q) (end_name l) ≡ o
  beyond o p q = go (at_other (end_name r) p (with_at (end_name l) o q) (end_name l))
    where
      go : (end_name l ≡ end_name r) ⊎ (with_at (end_name r) p (with_at (end_name l) o q) (end_name l) ≡ with_at (end_name l) o q
          (end_name l)) →
          with_at (end_name r) p (with_at (end_name l) o q) (end_name l) ≡ o
      go (inl i) = absurd (names_differ i)
      go (inr i) = i ∙ at_itself (end_name l) o q

  opens : Opens r0 q2 h d x.now.state
  opens = record {
    none = not_held;
    opened = at_side;
    others = λ z f. go z f (at_other (end_name r) (Some (dual d)) q1 z) (at_other (end_name l) (Some d) r0 z);
  }
    where
      at_side : (b : Side) → q2 (end_at h b) ≡ Some (side_type b d)
      at_side Left = ap q2 (sym name_l) ∙ beyond (Some d) (Some (dual d)) r0
      at_side Right = ap q2 (sym name_r) ∙ at_itself (end_name r) (Some (dual d)) q1

      go : (z : EndName) → same_channel h z.channel ≡ false → (z ≡ end_name r) ⊎ (q2 z ≡ q1 z) →
          (z ≡ end_name l) ⊎ (q1 z ≡ r0 z) → q2 z ≡ r0 z
      go z f (inl i) o = absurd (not_end h z f Right (i ∙ name_r))
      go z f (inr i) (inl j) = absurd (not_end h z f Left (j ∙ name_l))
      go z f (inr i) (inr j) = i ∙ j

  made : Goes m q2 s' fits.typed.type (λ z. held_state z x.now.state + once (same_channel h z.channel))
  made = (made_typed m well x.now.state fits.typed.type s' r0 q2 k d h fits.typed.typed asks is opens there).1

  left_others : (z : EndName) → (z ≡ end_name l) ⊎ (q3 z ≡ q2 z)
  left_others z = go (only_at (end_name l) (Some (rested d)) (Some d) r0 z)
    where
      go : (z ≡ end_name l) ⊎ (r1 z ≡ q1 z) → (z ≡ end_name l) ⊎ (q3 z ≡ q2 z)
      go (inl i) = inl i
      go (inr i) = inr (below_at (end_name r) (Some (dual d)) r1 q1 z i)

  typed_3 : IsTyped m q3 s' fits.typed.type
  typed_3 = rested_typed q2 q3 (end_name l) d (beyond (Some d) (Some (dual d)) r0)
      (beyond (Some (rested d)) (Some (dual d)) r0) left_others m s' fits.typed.type made.0

  right_others : (z : EndName) → (z ≡ end_name r) ⊎ (r2 z ≡ q3 z)
  right_others z = only_at (end_name r) (Some (rested (dual d))) (Some (dual d)) r1 z

  right_before : q3 (end_name r) ≡ Some (dual d)
  right_before = at_itself (end_name r) (Some (dual d)) r1

  right_later : r2 (end_name r) ≡ Some (rested (dual d))
  right_later = at_itself (end_name r) (Some (rested (dual d))) r1

  typed_now : IsTyped m r2 s' fits.typed.type
  typed_now = rested_typed q3 r2 (end_name r) (dual d) right_before right_later right_others m s' fits.typed.type typed_3

  unspent_before : (z : EndName) → IsUnspent r2 z → IsUnspent q2 z
  unspent_before z u =
      rested_unspent q2 q3 (end_name l) d (beyond (Some d) (Some (dual d)) r0)
      (beyond (Some (rested d)) (Some (dual d)) r0) left_others z
      (rested_unspent q3 r2 (end_name r) (dual d) right_before right_later right_others z u)

  before : (z : EndName) → same_channel h z.channel ≡ false → 0 < held_state z s' → 0 < held_state z x.now.state
  before z n = held_before (program_in m) x.now.state s' (Made h) z there (λ i. other_name cc)
    where
      other_name : h ≡ z.channel → ⊥
      other_name i =
          let g : false ≡ true = sym n ∙ ap (same_channel h) (sym i) ∙ same_channel-itself h in
          absurd (cc g)

  once_new : (z : EndName) (b : Side) → z ≡ end_at h b → 0 < count_of z bag → counted z l + counted z r ≡ 1 →
      (count_of z bag ≡ 1) × (held_state z s' ≡ 1)
  once_new z b i g one =
      let c = (counts_1 z).2 in
      let c2 = (counts_2 z).2 in
      let n = ap (λ w. count_of w x.bag) i ∙ not_there b in
      let e = made.1 z (unspent_before z (unspent_in r2 bag (p2.unspent (p1.unspent fits.unspent)) are z g)) in
      let f = ap (λ (w : EndName). once (same_channel h w.channel)) i ∙ ap once (same_channel-itself h) in
      let j = ap (λ w. held_state w x.now.state) i ∙ not_held b in
      (omega (arith, c, c2, n, g, one), omega (arith, e, f, j))

  once_after : (z : EndName) → 0 < count_of z bag → (count_of z bag ≡ 1) × (held_state z s' ≡ 1)
  once_after z g = go (which_end h z)
    where
      go : ((b : Side) × (z ≡ end_at h b)) ⊎ (same_channel h z.channel ≡ false) → (count_of z bag ≡ 1) × (held_state z s' ≡ 1)
      go (inl i) = once_new z i.0 i.1 g (one_of i.0 z i.1)
      go (inr n) =
          let a = apart z l L name_l (not_end h z n Left) in
          let b = apart z r R name_r (not_end h z n Right) in
          let c = (counts_1 z).2 in
          let c2 = (counts_2 z).2 in
          let o = fits.once z (omega (arith, a, b, c, c2, g)) in
          let e = made.1 z (unspent_before z (unspent_in r2 bag (p2.unspent (p1.unspent fits.unspent)) are z g)) in
          let f = ap once n in
          let o0 = o.0 in
          let o1 = o.1 in
          (omega (arith, a, b, c, c2, g, o0), omega (arith, e, f, o1))

  named_after : (z : EndName) → 0 < held_state z s' → IsNamedBelow x.path made_on.now.made z
  named_after z g = go (which_end h z)
    where
      go : ((b : Side) × (z ≡ end_at h b)) ⊎ (same_channel h z.channel ≡ false) → IsNamedBelow x.path made_on.now.made z
      go (inl i) = subst (IsNamedBelow x.path made_on.now.made) (sym i.1)
          (record { behind = []; leads = sym (append-nil x.path); own = λ q. omega arith })
      go (inr n) = let o = fits.named z (before z n g) in
          record { behind = o.behind; leads = o.leads; own = λ q. let c = o.own q in omega (arith, c) }

  known_after : AreKnownSpent x made_on made_on
  known_after z g c = go (which_end h z)
    where
      go : ((b : Side) × (z ≡ end_at h b)) ⊎ (same_channel h z.channel ≡ false) → (0 < count_of z ret) ⊎
          ((0 < held_state z x.now.state) × (count_of z x.bag ≡ 0))
      go (inl i) =
          let a = (counts_1 z).0 in
          let b = (counts_2 z).0 in
          let one = one_of i.0 z i.1 in
          inl (omega (arith, a, b, c, one))
      go (inr n) = let a = (counts_1 z).1 in let b = (counts_2 z).1 in inr (before z n g, omega (arith, a, b, c))

  fresh_end : (e : EndView) (b : Side) → e ≡ record { cell = cell; channel = h; knows = fresh b d } → FitsEnd m made_on.now e
  fresh_end e b i = subst (FitsEnd m made_on.now) (sym i) (record { past = omega arith; waits = λ o q. absurd (cc q) })

  idle_end : (e : EndView) (b : Side) → e ≡ record { cell = cell; channel = h; knows = fresh b d } → e.knows.offer ≡ None
  idle_end e b i = ap (λ (e : EndView). e.knows.offer) i

  pub made_fits : FitsIn m a made_on
  made_fits = record {
    none_made = fits.none_made;
    none_forked = fits.none_forked;
    follows = follows_more (program_in m) x.path x.first x.log x.now entry fits.follows enters;
    typed = record { residuals = r2; are = are; type = fits.typed.type; typed = typed_now; main = fits.typed.main };
    unspent = p2.unspent (p1.unspent fits.unspent);
    once = once_after;
    named = named_after;
    ends = p2.ends m made_on.now (fresh_end r Right r_is)
        (p1.ends m made_on.now (fresh_end l Left l_is)
        (later_all m a x fits made_on.now (omega arith) (request.New k) asks (λ z ev q. absurd (cc q))));
    spent = p2.spent (idle_end r Right r_is) (p1.spent (idle_end l Left l_is) fits.spent);
    past = p2.past made_on.now.clock (fresh_end r Right r_is).past
        (p1.past made_on.now.clock (fresh_end l Left l_is).past
        (later_past x.now.clock made_on.now.clock (omega arith) x.retired fits.past));
    opened = opened_more m.types x.log entry x.now.made made_on.now.made fits.opened
        (let c = ap (λ o. length (opening_of h o)) is in omega (arith, c));
    made = let c = fits.made in omega (arith, c);
    forked = let c = fits.forked in omega (arith, c);
  }

  opened : (w : Opening → ℕ) → sum_by w (opening_of h (slice_get m.types k) ++ []) ≡ w (record { name = h; declared = d })
  opened w = ap (λ o. sum_by w (opening_of h o ++ [])) is ∙ omega arith

  sides : (s : Side) (n : ℕ) → on_side s Left n + on_side s Right n ≡ n
  sides Left n = omega arith
  sides Right n = omega arith

  pub made_turn : Turn m x made_on []
  made_turn = record {
    gained = entry ∷ [];
    log = refl;
    path = refl;
    first = refl;
    idle = All-nil (λ (k : Thread). k.log ≡ []);
    born = λ w. refl;
    typed = λ s w.
        let a = p1.sums (by_type s w) in
        let b = p2.sums (by_type s w) in
        let c : by_type s w l ≡ on_side s Left (w h d) = ap (by_type s w) l_is in
        let e : by_type s w r ≡ on_side s Right (w h d) = ap (by_type s w) r_is in
        let f = sides s (w h d) in
        let g = opened (λ (o : Opening). w o.name o.declared) in
        omega (arith, a, b, c, e, f, g);
    cells = λ w.
        let a = p1.sums (by_cell Left w) in
        let b = p2.sums (by_cell Left w) in
        let c = p1.sums (by_cell Right w) in
        let e = p2.sums (by_cell Right w) in
        let ll : by_cell Left w l ≡ w h cell = ap (by_cell Left w) l_is in
        let lr : by_cell Left w r ≡ 0 = ap (by_cell Left w) r_is in
        let rl : by_cell Right w l ≡ 0 = ap (by_cell Right w) l_is in
        let rr : by_cell Right w r ≡ w h cell = ap (by_cell Right w) r_is in
        omega (arith, a, b, c, e, ll, lr, rl, rr);
    exchanged = λ w.
        let a = p1.sums (by_exchanges w) in
        let b = p2.sums (by_exchanges w) in
        let c : by_exchanges w l ≡ 0 = ap (by_exchanges w) l_is in
        let e : by_exchanges w r ≡ 0 = ap (by_exchanges w) r_is in
        omega (arith, a, b, c, e);
    spent = p1.more ++ p2.more;
    kept = p2.kept ∙ ap (λ l. l ++ p2.more) p1.kept ∙ append_assoc x.retired p1.more p2.more;
    known = known_after;
    known_new = All-nil (AreKnownSpent x made_on);
  }
