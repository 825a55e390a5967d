-- Whether the offer of an end that waits still stands when its channel is closed.
use Rattle.std.proofs.Common.{◌≡◌, ◌∙◌, ◌⊎◌, inl, inr, ℕ, suc, Bool, true, false, not, ◌&&◌, ◌==◌, List, [], ◌∷◌, ◌++◌, length, Option, Some, None, refl, sym, ap, subst, arith, length-append}
use Rattle.std.specs.Prelude.{All, Contains, option_to_list, nat_eq}
use Rattle.std.proofs.lemmas.Bool.Decides.{nat_tests}
use Rattle.std.proofs.lemmas.List.{append-nil}
use Rattle.std.proofs.lemmas.Option.{same_Some}
use Rattle.fst_base.proofs.Bools.{same_nat}
use Rattle.fst_types.specs.Tree.{Tree}
use Rattle.fst_types.specs.declared.side.Side.{Side}
use Rattle.fst_types.specs.declared.side.Side.TheVariants.{Left, Right}
use Rattle.fst_lts.specs.Histories.{last_stamp}
use Rattle.fst_derivations.specs.Rules.{Surroundings}
use Rattle.fst_types.specs.declared.ends.ChannelName.{ChannelName}
use Rattle.fst_types.specs.declared.event.Entry.{Entry}
use Rattle.fst_types.specs.declared.event.Event.{Event}
use Rattle.fst_cell.specs.declared.content.Half.{Half}
use Rattle.fst_cell.specs.declared.content.Offer.{Offer}
use Rattle.fst_cell.specs.Close.{stand_if, stands_at, either_of}
use Rattle.fst_cell.specs.End.{EndView, residual_of}
use Rattle.fst_lts.specs.Residuals.{residual, sends}
use Rattle.fst_cell.proofs.Laws.{exclusive}
use Rattle.fst_lts.proofs.Laws.{last_stamp_push}
use Rattle.fst_runs.specs.Logs.{Birth}
use Rattle.fst_safety.specs.Threads.{Thread}
use Rattle.fst_worker.specs.Records.{Pair, IsShut, IsOver, histories_of, missing, stands_on, IsTrailing, IsAsClosed}
use Rattle.fst_worker.proofs.Shutting.{EndsPass, BothPass, Passes, settled, sends_by, look, look_of, ends_pass, all_send, here, left_reaches, right_reaches, left_missing, right_missing, lacking_waits, names_once}

-- ---- tests

-- an end that waits lacks nothing where its offer stands; otherwise it lacks what has this stamp
abbrev pub agrees : Option Entry → Option Offer → Bool → ℕ → Bool
agrees None None b n = true
agrees None (Some o) b n = b
agrees (Some d) o b n = not b && nat_eq n d.stamp

same_length : (a b : ℕ) → a ≡ b → (a == b) ≡ true
same_length a b e = grind (arith, nat_tests)

other_length : (a b : ℕ) → suc a ≡ b → (a == b) ≡ false
other_length a b e = grind (arith, nat_tests)

is_length : (a b : ℕ) → (a == b) ≡ true → a ≡ b
is_length a b e = grind (arith, nat_tests)

equal_stamp : (a b : ℕ) → a ≡ b → nat_eq a b ≡ true
equal_stamp a b e = grind (arith, nat_tests)

-- what stands for a side isn't the other side's
not_left : (b : Bool) (o : Option Offer) → stands_on Left (stand_if b Right o) ≡ false
not_left true None = refl
not_left true (Some o) = refl
not_left false o = refl

not_right : (b : Bool) (o : Option Offer) → stands_on Right (either_of (stand_if b Left o) None) ≡ false
not_right true None = refl
not_right true (Some o) = refl
not_right false o = refl

none_of : (b : Bool) (s : Side) → stand_if b s None ≡ None
none_of true s = refl
none_of false s = refl

-- ---- one pair

module _ (h : List Entry) (l r : Half) (sl : l.side ≡ Left) (sr : r.side ≡ Right) where
  -- the offer that stands
  abbrev stood : Option (Side × Event)
  stood = either_of (stands_at h l) (stands_at h r)

  -- the left end lacks nothing
  abbrev left_level : Bool
  left_level = length l.history == length h

  -- the right end lacks nothing
  abbrev right_level : Bool
  right_level = length r.history == length h

  by_parts : stood ≡ either_of (stand_if left_level Left l.offer) (stand_if right_level Right r.offer)
  by_parts = λ i. either_of (stand_if left_level (sl i) l.offer) (stand_if right_level (sr i) r.offer)

  longer_by : (v : Half) (d : Entry) → h ≡ v.history ++ d ∷ [] → suc (length v.history) ≡ length h
  longer_by v d e = let a = ap length e in let b = length-append v.history (d ∷ []) in omega (arith, a, b)

  last_is : (v : Half) (d : Entry) → h ≡ v.history ++ d ∷ [] → nat_eq (last_stamp h) d.stamp ≡ true
  last_is v d e = equal_stamp (last_stamp h) d.stamp (ap last_stamp e ∙ last_stamp_push v.history d)

  -- what the left end may rely on
  pub left_agrees : (lacks : Option Entry) (o : Option Offer) → h ≡ l.history ++ option_to_list lacks → settled lacks o ≡ true →
      l.offer ≡ o →
      agrees lacks o (stands_on Left stood) (last_stamp h) ≡ true
  left_agrees None None e s q = refl
  left_agrees None (Some o) e s q =
      ap (stands_on Left) by_parts
      ∙ (λ i. stands_on Left (either_of (stand_if (same_length (length l.history) (length h)
      (ap length (sym (e ∙ append-nil l.history))) i) Left
      (q i)) (stand_if right_level Right r.offer)))
  left_agrees (Some d) None e s q = absurd (cc s)
  left_agrees (Some d) (Some o) e s q =
      let z : stands_on Left stood ≡ false = ap (stands_on Left) by_parts
      ∙ (λ i. stands_on Left (either_of (stand_if (other_length (length l.history) (length h) (longer_by l d e) i) Left l.offer)
      (stand_if right_level Right r.offer))) ∙ not_left right_level r.offer in
      ap (λ b. not b && nat_eq (last_stamp h) d.stamp) z ∙ last_is l d e

  -- what the right end may rely on, where the left end's offer doesn't stand with it
  pub right_agrees : stand_if left_level Left l.offer ≡ None ⊎ (r.history ≡ h → r.offer ≡ None) →
      (lacks : Option Entry) (o : Option Offer) →
      h ≡ r.history ++ option_to_list lacks →
      settled lacks o ≡ true → r.offer ≡ o → agrees lacks o (stands_on Right stood) (last_stamp h) ≡ true
  right_agrees one None None e s q = refl
  right_agrees (inl none) None (Some o) e s q =
      ap (stands_on Right) by_parts
      ∙ (λ i. stands_on Right (either_of (none i)
      (stand_if (same_length (length r.history) (length h) (ap length (sym (e ∙ append-nil r.history))) i) Right (q i))))
  right_agrees (inr idle) None (Some o) e s q = absurd (cc (sym (idle (sym (e ∙ append-nil r.history))) ∙ q))
  right_agrees one (Some d) None e s q = absurd (cc s)
  right_agrees one (Some d) (Some o) e s q =
      let z : stands_on Right stood ≡ false = ap (stands_on Right) by_parts
      ∙ (λ i. stands_on Right (either_of (stand_if left_level Left l.offer)
      (stand_if (other_length (length r.history) (length h) (longer_by r d e) i) Right r.offer)))
      ∙ not_right left_level l.offer in
      ap (λ b. not b && nat_eq (last_stamp h) d.stamp) z ∙ last_is r d e

  -- where the right end's offer stands, the left end's doesn't
  module _ (t : Tree) (dl : l.declared ≡ t) (dr : r.declared ≡ t) (lacks : Option Entry)
      (is : h ≡ l.history ++ option_to_list lacks)
      (pl : sends_by (residual_of l) l.offer ≡ true) (pr : sends_by (residual_of r) r.offer ≡ true) where
    level_so : (lacks : Option Entry) → h ≡ l.history ++ option_to_list lacks → length l.history ≡ length h → l.history ≡ h
    level_so None e n = sym (e ∙ append-nil l.history)
    level_so (Some d) e n = let b = longer_by l d e in absurd (omega (arith, b, n))

    clash : (o p : Offer) → l.offer ≡ Some o → r.offer ≡ Some p → l.history ≡ h → r.history ≡ h → ⊥
    clash o p ql qr hl hr =
        exclusive Left t h o.event p.event
        ((λ i. sends (residual (sym sl i) (sym dl i) (sym hl i)) o.event) ∙ (λ i. sends_by (residual_of l) (sym ql i)) ∙ pl)
        ((λ i. sends (residual (sym sr i) (sym dr i) (sym hr i)) p.event) ∙ (λ i. sends_by (residual_of r) (sym qr i)) ∙ pr)

    one_stands : (b : Bool) → left_level ≡ b → (o : Option Offer) → l.offer ≡ o → (stand_if b Left o ≡ None) ⊎
        (r.history ≡ h → r.offer ≡ None)
    one_stands b e None q = inl (none_of b Left)
    one_stands false e (Some o) q = inl refl
    one_stands true e (Some o) q = inr (λ hr. by hr r.offer refl)
      where
        by : r.history ≡ h → (p : Option Offer) → r.offer ≡ p → p ≡ None
        by hr None k = refl
        by hr (Some p) k = absurd (clash o p q k (level_so lacks is (is_length (length l.history) (length h) e)) hr)

    -- no two offers stand
    pub one_only : stand_if left_level Left l.offer ≡ None ⊎ (r.history ≡ h → r.offer ≡ None)
    one_only = one_stands left_level refl l.offer refl

-- ---- all ends

module _ (m : Surroundings) (a : Tree) (main : Birth) (xs : List Thread) (ps : List Pair) (over : IsOver m a main xs ps) where
  -- the offer that stands in the channel of a name
  abbrev offered_at : ChannelName → Option (Side × Event)
  offered_at = look (λ (p : Pair). p.closed.offered) None ps

  -- its last stamp
  abbrev last_at : ChannelName → ℕ
  last_at = look (λ (p : Pair). last_stamp p.closed.history.entries.items) 0 ps

  -- the end is as closing its channel has said
  abbrev pub as_closed : EndView → Bool
  as_closed e = agrees (missing (histories_of ps) e) e.knows.offer (stands_on e.knows.side (offered_at e.channel))
      (last_at e.channel)

  offered_is : (h : ChannelName) (p : Pair) → Contains ps p → h ≡ p.closed.history.name → offered_at h ≡ p.closed.offered
  offered_is h p c is = look_of (λ (p : Pair). p.closed.offered) None ps h p c is (names_once m a main xs ps over h)

  last_is_at : (h : ChannelName) (p : Pair) → Contains ps p → h ≡ p.closed.history.name →
      last_at h ≡ last_stamp p.closed.history.entries.items
  last_is_at h p c is = look_of (λ (p : Pair). last_stamp p.closed.history.entries.items) 0 ps h p c is
      (names_once m a main xs ps over h)

  pair_as_closed : (p : Pair) → Contains ps p → IsShut p → BothPass (λ e. sends_by (residual_of e.knows) e.knows.offer) p →
      BothPass as_closed p
  pair_as_closed p c s may =
      let h = p.closed.history.entries.items in
      let rl = left_reaches m a main xs ps over p s in
      let rr = right_reaches m a main xs ps over p s in
      let ml = left_missing m a main xs ps over p c s in
      let mr = right_missing m a main xs ps over p c s in
      let nl = sym s.closed.named in
      let nr = s.channel ∙ sym s.closed.named in
      let one = one_only h p.left.knows p.right.knows s.left_side s.right_side p.closed.history.declared
      (sym s.closed.left_declared)
      (sym s.closed.right_declared) rl.lacks rl.is may.0 may.1 in (
        (λ i. agrees (ml i) p.left.knows.offer (stands_on (s.left_side i)
            ((offered_is p.left.channel p c nl ∙ s.closed.offered) i))
            (last_is_at p.left.channel p c nl i))
            ∙ left_agrees h p.left.knows p.right.knows s.left_side s.right_side rl.lacks p.left.knows.offer rl.is rl.settles refl,
        (λ i. agrees (mr i) p.right.knows.offer (stands_on (s.right_side i)
            ((offered_is p.right.channel p c nr ∙ s.closed.offered) i))
            (last_is_at p.right.channel p c nr i))
            ∙ right_agrees h p.left.knows p.right.knows s.left_side s.right_side one rr.lacks p.right.knows.offer rr.is rr.settles
            refl,
      )

  -- so all ends are
  pub all_as_closed : All (EndsPass as_closed) xs
  all_as_closed = ends_pass xs ps over.paired as_closed
      (λ k d l. let q = here m a main xs ps over k d l in pair_as_closed _ q.0 q.1
      (all_send m a main xs ps over k d l))

  -- what an end that waits may rely on
  pub waits_so : (e : EndView) → Passes (λ e. settled (missing (histories_of ps) e) e.knows.offer) e → Passes as_closed e →
      (o : Offer) (p : Pair) →
      e.knows.offer ≡ Some o → Contains ps p →
      p.closed.history.name ≡ e.channel → IsAsClosed (histories_of ps) e o p.closed (stands_on e.knows.side p.closed.offered)
  waits_so e settles agree o p q c is =
      by (missing (histories_of ps) e) refl (stands_on e.knows.side p.closed.offered)
      ((λ i. agrees (missing (histories_of ps) e) (sym q i) (stands_on e.knows.side (sym (offered_is e.channel p c (sym is)) i))
      (sym (last_is_at e.channel p c (sym is)) i)) ∙ agree)
    where
      at_false : (b : Bool) (n d : ℕ) → (not b && nat_eq n d) ≡ true → (b ≡ false) × (n ≡ d)
      at_false true n d h = absurd (cc h)
      at_false false n d h = (refl, same_nat n d h)

      by : (r : Option Entry) → missing (histories_of ps) e ≡ r → (b : Bool) →
          agrees (missing (histories_of ps) e) (Some o) b (last_stamp p.closed.history.entries.items) ≡ true →
          IsAsClosed (histories_of ps) e o p.closed b
      by None i b h =
          let t : b ≡ true = ap (λ r. agrees r (Some o) b (last_stamp p.closed.history.entries.items)) (sym i) ∙ h in
          subst (λ b. IsAsClosed (histories_of ps) e o p.closed b) (sym t) i
      by (Some d) i b h =
          let v = lacking_waits m a main xs ps over e settles d i in
          let t = at_false b (last_stamp p.closed.history.entries.items) d.stamp
          (ap (λ r. agrees r (Some o) b (last_stamp p.closed.history.entries.items)) (sym i) ∙ h) in
          subst (λ b. IsAsClosed (histories_of ps) e o p.closed b) (sym t.0)
          (d, subst (λ o. IsTrailing (histories_of ps) e o d) (same_Some v.0 o (sym v.1 ∙ q)) v.2, t.1)
