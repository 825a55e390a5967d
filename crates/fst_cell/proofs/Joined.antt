-- Both ends in one hand.
use Rattle.std.proofs.Common.{◌≡◌, ℕ, ◌+◌, ◌<◌, ◌≤◌, List, [], ◌∷◌, ◌++◌, length, Bool, true, false, Option, Some, None, IsSome, inl, inr, ⊎_elim, refl, sym, ap, ◌∙◌, subst, arith, length-append, eq-eqb, ne_eqb}
use Rattle.std.proofs.lemmas.Bool.{lt-ltb, le-ltb}
use Rattle.std.specs.Prelude.{nat_eq, if◌then◌else◌}
use Rattle.std.specs.Int.Bits.{bit_or}
use Rattle.atomic_table.specs.Table.{Me, rest, Allows}
use Rattle.fst_types.specs.declared.side.Side.{Side}
use Rattle.fst_types.specs.declared.side.Side.TheVariants.{Left, Right}
use Rattle.fst_types.specs.Tree.{Tree}
use Rattle.fst_kinds.specs.WellFormed.{IsSession}
use Rattle.fst_lts.specs.Histories.{after_history, opposite}
use Rattle.fst_types.specs.declared.event.Event.{Event}
use Rattle.fst_types.specs.declared.event.Entry.{Entry}
use Rattle.fst_types.specs.declared.ends.ChannelName.{ChannelName}
use Rattle.fst_cell.specs.declared.content.Offer.{Offer}
use Rattle.fst_cell.specs.declared.content.Standing.{Standing}
use Rattle.fst_cell.specs.declared.content.Content.{Content}
use Rattle.fst_cell.specs.declared.content.Half.{Half}
use Rattle.fst_cell.specs.declared.content.View.{View}
use Rattle.fst_cell.specs.declared.content.View.TheVariants.{Only, Whole}
use Rattle.fst_cell.specs.declared.answers.Closed.{Closed}
use Rattle.fst_lts.specs.Stamps.{AreStamped}
use Rattle.fst_lts.specs.Residuals.{residual, sends}
use Rattle.fst_cell.specs.Rule.{turn_word, stands_for, Waits, Sound, Lags, Place, Fits, Holds, joined, took, out, TriedAs}
use Rattle.fst_cell.specs.End.{half_of, Idle}
use Rattle.fst_cell.specs.Close.{longer_of, stand_if, stands_at, either_of, Trails, ClosedAs}
use Rattle.fst_cell.proofs.Places.{idle_place}
use Rattle.fst_cell.proofs.ResidualLaws.{exclusive}
use Rattle.fst_cell.proofs.Phases.{tries_last}

pub joined_idle : (m k j : Me (Option Content) View) → Idle m → Idle k → j ≡ (joined m.0 k.0, m.1) →
    j ≡ (Whole (half_of m.0) (half_of k.0), [])
joined_idle m k j a b e = e ∙ ap (λ (x : Me (Option Content) View). (joined x.0 k.0, x.1)) a.only ∙ ap
    (λ (x : Me (Option Content) View). (joined (Only (half_of m.0)) x.0, [])) b.only

pub tries_joined : (slots id : ℕ) (l r : Half) (j : Me (Option Content) View) → l.held ≡ None → r.held ≡ None →
    j ≡ (Whole l r, []) → Allows Holds slots id j 0 (λ n. bit_or n 1) (TriedAs j.0)
tries_joined slots id l r j a b e = subst (λ (x : Me (Option Content) View). Allows Holds slots id x 0
    (λ n. bit_or n 1) (TriedAs x.0)) (sym e) (tries_last slots id l r a b)

-- what the last try gives
pub record Last (l r : Half) (n : ℕ) (k : Me (Option Content) View) : Type 0 where
  pub content : Content
  pub word : n ≡ turn_word content 0
  pub seat : k ≡ (Whole (took l n content) r, out content)
  pub sound : Sound content
  pub left : Fits content l
  pub right : Fits content r

pub last_of : (l r : Half) (j k : Me (Option Content) View) (n : ℕ) → j ≡ (Whole l r, []) → TriedAs j.0 n k → Last l r n k
last_of l r j k n e t = let u = subst (λ (x : Me (Option Content) View). TriedAs x.0 n k) e t in
    record { content = u.0; word = u.1; seat = u.2; sound = u.3; left = u.4; right = u.5 }

pub last_holds : (l r : Half) (n : ℕ) (k : Me (Option Content) View) → (w : Last l r n k) → k.1 ≡ out w.content
last_holds l r n k w = ap (λ (x : Me (Option Content) View). x.1) w.seat

front_same : (xs ys : List Entry) (e f : Entry) → xs ++ e ∷ [] ≡ ys ++ f ∷ [] → xs ≡ ys
front_same [] [] e f is = refl
front_same [] (y ∷ ys) e f is = let n = ap length is in absurd (omega (arith, length-append ys (f ∷ [])))
front_same (x ∷ xs) [] e f is = let n = ap length is in absurd (omega (arith, length-append xs (e ∷ [])))
front_same (x ∷ xs) (y ∷ ys) e f is =
    let head : x ≡ y = cc in
    let tail : xs ++ e ∷ [] ≡ ys ++ f ∷ [] = cc in
    λ i. head i ∷ front_same xs ys e f tail i

-- how an end stands to the history: it lacks no entry, or its offer is the last one
data Stand (c : Content) (v : Half) : Type 0 where
  level : v.history ≡ c.history → Stand c v
  behind : (o : Offer) → v.offer ≡ Some o → Waits c.declared v.side v.history o → Lags c v.side v.history o → Stand c v

stand_of : (c : Content) (v : Half) (o : Option Offer) → v.offer ≡ o → Place c v.side v.history o → Stand c v
stand_of c v None e p = level p.0
stand_of c v (Some o) e p = ⊎_elim (λ t. level t.0) (λ (t : Lags c v.side v.history o). behind o e p.0 t) p.1

lag_length : (c : Content) (v : Half) (o : Offer) → Lags c v.side v.history o → length c.history ≡ length v.history + 1
lag_length c v o t = ap length t.longer ∙ length-append v.history (t.entry ∷ [])

longest : (c : Content) (l r : Half) → r.side ≡ opposite l.side → Stand c l → Stand c r →
    c.history ≡ longer_of l.history r.history
longest c l r sides (level a) (level b) =
    let n : length r.history ≤ length l.history = let x = ap length a in let y = ap length b in omega arith in
    sym a ∙ ap (λ (t : Bool). if t then r.history else l.history) (sym (le-ltb (length l.history) (length r.history) n))
longest c l r sides (level a) (behind o e w t) =
    let n : length r.history ≤ length l.history = let x = ap length a in let y = lag_length c r o t in omega arith in
    sym a ∙ ap (λ (b : Bool). if b then r.history else l.history) (sym (le-ltb (length l.history) (length r.history) n))
longest c l r sides (behind o e w t) (level b) =
    let n : length l.history < length r.history = let x = ap length b in let y = lag_length c l o t in omega arith in
    sym b ∙ ap (λ (x : Bool). if x then r.history else l.history) (sym (lt-ltb (length l.history) (length r.history) n))
longest c l r sides (behind o e w t) (behind p f u s) =
    let same : l.history ≡ r.history = front_same l.history r.history t.entry s.entry (sym t.longer ∙ s.longer) in
    let theirs : sends (residual (opposite l.side) c.declared l.history) p.event ≡ true =
    subst (λ (x : Side). sends (residual x c.declared l.history) p.event ≡ true) sides
    (subst (λ (h : List Entry). sends (residual r.side c.declared h) p.event ≡ true) (sym same) u.0) in
    absurd (exclusive l.side c.declared l.history o.event p.event w.0 theirs)

pub trails : (c : Content) (v : Half) → Fits c v → Trails c.history v
trails c v f o e = ⊎_elim (λ t. inl t.0) (λ (t : Lags c v.side v.history o). inr (t.entry, t.longer, t.event, t.sent))
    (subst (λ (x : Option Offer). Place c v.side v.history x) e f.place).1

-- a side with its offer's event
abbrev pub marked : Side → Option Offer → Option (Side × Event)
marked s None = None
marked s (Some o) = Some (s, o.event)

stands_of : (c : Content) (v : Half) (o : Option Offer) → v.offer ≡ o → Place c v.side v.history o →
    stand_if (nat_eq (length v.history) (length c.history)) v.side o ≡ marked v.side (stands_for v.side c.offer)
stands_of c v None e p = no_offer (nat_eq (length v.history) (length c.history)) ∙ ap (marked v.side) (sym p.1)
  where
    no_offer : (b : Bool) → stand_if b v.side None ≡ None
    no_offer true = refl
    no_offer false = refl
stands_of c v (Some o) e p = ⊎_elim
    (λ t. ap (λ (b : Bool). stand_if b v.side (Some o)) (eq-eqb (length v.history) (length c.history) (ap length t.0))
    ∙ ap (marked v.side) (sym t.1))
    (λ (t : Lags c v.side v.history o).
    let n = lag_length c v o t in
    ap (λ (b : Bool). stand_if b v.side (Some o)) (ne_eqb (length v.history) (length c.history) (λ same. omega arith))
    ∙ ap (marked v.side) (sym t.none_stands))
    p.1

-- what code reads of the offer
abbrev pub shown : Option Standing → Option (Side × Event)
shown None = None
shown (Some s) = Some (s.side, s.offer.event)

both_of : (o : Option Standing) → shown o ≡ either_of (marked Left (stands_for Left o)) (marked Right (stands_for Right o))
both_of None = refl
both_of (Some s) = of_side s.side s.offer
  where
    of_side : (a : Side) (x : Offer) → shown (Some (record { side = a; offer = x })) ≡ either_of
        (marked Left (stands_for Left (Some (record { side = a; offer = x }))))
        (marked Right (stands_for Right (Some (record { side = a; offer = x }))))
    of_side Left x = refl
    of_side Right x = refl

offered_of : (c : Content) (l r : Half) → l.side ≡ Left → r.side ≡ Right → Fits c l → Fits c r →
    shown c.offer ≡ either_of (stands_at c.history l) (stands_at c.history r)
offered_of c l r a b f g =
    let x : stands_at c.history l ≡ marked Left (stands_for Left c.offer) = stands_of c l l.offer refl f.place ∙ ap
    (λ (s : Side). marked s (stands_for s c.offer)) a in
    let y : stands_at c.history r ≡ marked Right (stands_for Right c.offer) = stands_of c r r.offer refl g.place ∙ ap
    (λ (s : Side). marked s (stands_for s c.offer)) b in
    both_of c.offer ∙ (λ i. either_of (sym x i) (sym y i))

pub closes : (channel : ChannelName) (c : Content) (l r : Half) (k : Closed) → k.history.name ≡ channel →
    k.history.declared ≡ c.declared → k.history.entries.items ≡ c.history → k.offered ≡ shown c.offer
    → l.side ≡ Left → r.side ≡ Right → Sound c → Fits c l → Fits c r → ClosedAs channel l r k
closes channel c l r k n d h o a b s f g =
    let back : c.history ≡ k.history.entries.items = sym h in
    record {
      named = n;
      left_declared = d ∙ sym f.declared;
      right_declared = d ∙ sym g.declared;
      formed = subst (IsSession []) (sym d) s.formed;
      entries = h ∙ longest c l r (b ∙ ap opposite (sym a)) (stand_of c l l.offer refl f.place)
          (stand_of c r r.offer refl g.place);
      offered = o ∙ offered_of c l r a b f g ∙ ap (λ (es : List Entry). either_of (stands_at es l) (stands_at es r)) back;
      left = subst (λ (es : List Entry). Trails es l) back (trails c l f);
      right = subst (λ (es : List Entry). Trails es r) back (trails c r g);
      left_level = λ idle. (idle_place c l idle f).0 ∙ back;
      right_level = λ idle. (idle_place c r idle g).0 ∙ back;
      trace = subst (λ (t : Tree). IsSome (after_history t k.history.entries.items)) (sym d)
          (subst (λ (es : List Entry). IsSome (after_history c.declared es)) back s.trace);
      stamped = subst (λ (es : List Entry). AreStamped 0 es) back s.stamped;
    }

abbrev first_out : List (ℕ × Option Content) → Option Content
first_out [] = None
first_out (x ∷ xs) = x.1

pub last_content : (l r : Half) (n : ℕ) (k : Me (Option Content) View) → (w : Last l r n k) →
    (result : Option Content) (got : Content) → k.1 ≡ (0, result) ∷ rest k.1 → result ≡ Some got → w.content ≡ got
last_content l r n k w result got e is =
    let a : out w.content ≡ (0, result) ∷ rest k.1 = sym (last_holds l r n k w) ∙ e in
    let b : Some w.content ≡ result = ap first_out a in
    cc
