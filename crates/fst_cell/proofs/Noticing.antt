-- A call that looks for what became of an offer.
use Rattle.std.proofs.Common.{◌≡◌, ℕ, ◌+◌, ◌*◌, List, [], ◌∷◌, ◌++◌, length, Option, Some, None, IsSome, ⊎_elim, refl, sym, ap, ◌∙◌, subst, arith}
use Rattle.atomic_table.specs.Table.{Me}
use Rattle.fst_types.specs.declared.side.Side.{Side}
use Rattle.fst_lts.specs.Histories.{last_stamp}
use Rattle.fst_types.specs.declared.event.Entry.{Entry}
use Rattle.fst_cell.specs.declared.content.Offer.{Offer}
use Rattle.fst_cell.specs.declared.content.Standing.{Standing}
use Rattle.fst_cell.specs.declared.content.Content.{Content}
use Rattle.fst_cell.specs.declared.content.Half.{Half}
use Rattle.fst_cell.specs.declared.content.View.{View}
use Rattle.fst_cell.specs.declared.content.View.TheVariants.{Only}
use Rattle.fst_lts.specs.Stamps.{AreStamped, next_stamp}
use Rattle.fst_cell.specs.Rule.{turn_word, offers, stands_for, Sound, Lags, Place, Fits, tried, took, synced}
use Rattle.fst_cell.specs.End.{half_of, Seized}
use Rattle.fst_cell.specs.Answers.{longer}
use Rattle.fst_lts.proofs.Laws.{stamped_last, last_stamp_push}
use Rattle.fst_cell.proofs.Taking.{longer_now}
use Rattle.fst_cell.proofs.Calling.{seat_of}

place_some : (c : Content) (v : Half) (o : Offer) → v.offer ≡ Some o → Fits c v → Place c v.side v.history (Some o)
place_some c v o is f = subst (λ (x : Option Offer). Place c v.side v.history x) is f.place

-- the offer was taken
pub lagging : (c : Content) (v : Half) (o : Offer) → v.offer ≡ Some o → Fits c v → stands_for v.side c.offer ≡ None →
    Lags c v.side v.history o
lagging c v o is f none = ⊎_elim (λ t. let some : stands_for v.side c.offer ≡ Some o = t.1 in absurd (cc))
    (λ (t : Lags c v.side v.history o). t) (place_some c v o is f).1

-- the offer stands
pub standing : (c : Content) (v : Half) (o : Offer) → v.offer ≡ Some o → Fits c v → IsSome (stands_for v.side c.offer) →
    (v.history ≡ c.history) × (stands_for v.side c.offer ≡ Some o)
standing c v o is f there = ⊎_elim (λ t. t) (λ (t : Lags c v.side v.history o). let none : stands_for v.side c.offer ≡ None =
    t.none_stands in absurd (cc)) (place_some c v o is f).1

offers_some : (s : Side) (c : Content) (now : Option Standing) (o : Offer) → c.offer ≡ now → stands_for s c.offer ≡ Some o →
    offers c.offer ≡ 1
offers_some s c None o e t = let f = ap (stands_for s) e in absurd (cc)
offers_some s c (Some x) o e t = ap offers e

tried_now : (v : Half) (n : ℕ) (h : Half) → h ≡ tried v n → h ≡ tried v h.found
tried_now v n h e = e ∙ ap (λ (k : ℕ). tried v k) (sym (ap (λ (y : Half). y.found) e))

-- a notice, once the turn was taken and given back
pub record Noticing (v : Half) (c : Content) (m k : Me (Option Content) View) (o : Offer) : Type 0 where
  pub waits : IsSome (stands_for v.side c.offer) → (half_of k.0 ≡ tried v (half_of k.0).found) ×
      ((half_of k.0).found ≡ 4 * length v.history + 2)
  pub gone : stands_for v.side c.offer ≡ None → (x : Entry) × (half_of k.0 ≡ longer v (half_of k.0).found x) ×
      (x.event ≡ o.event) × (x.sent ≡ o.clock) × (x.stamp ≡ last_stamp c.history) × (x.stamp ≡ next_stamp x.sent x.got v.history)

waits_of : (v : Half) (c : Content) (n : ℕ) (m k : Me (Option Content) View) (o : Offer) → v.offer ≡ Some o → n ≡ turn_word c 0 →
    half_of m.0 ≡ took v n c → Fits c v → half_of k.0 ≡ synced (half_of m.0) c
    → IsSome (stands_for v.side c.offer) → (half_of k.0 ≡ tried v (half_of k.0).found) ×
    ((half_of k.0).found ≡ 4 * length v.history + 2)
waits_of v c n m k o is word seat f told there =
    let t = standing c v o is f there in
    let off : stands_for v.side c.offer ≡ v.offer = t.1 ∙ sym is in
    let now : half_of k.0 ≡ tried v n = told ∙ ap (λ (y : Half). synced y c) seat
    ∙ (λ i. record {
      side = v.side;
      declared = v.declared;
      history = sym t.0 i;
      offer = off i;
      tries = v.tries + 1;
      found = n;
      held = None;
    }) in
    let one : offers c.offer ≡ 1 = offers_some v.side c c.offer o refl t.1 in
    let long : length v.history ≡ length c.history = ap length t.0 in
    (tried_now v n (half_of k.0) now, ap (λ (y : Half). y.found) now ∙ word ∙ omega arith)

gone_of : (v : Half) (c : Content) (n : ℕ) (m k : Me (Option Content) View) (o : Offer) → v.offer ≡ Some o →
    half_of m.0 ≡ took v n c → Sound c → Fits c v → half_of k.0 ≡ synced (half_of m.0) c
    → stands_for v.side c.offer ≡ None → (x : Entry) × (half_of k.0 ≡ longer v (half_of k.0).found x) × (x.event ≡ o.event) ×
    (x.sent ≡ o.clock) × (x.stamp ≡ last_stamp c.history) × (x.stamp ≡ next_stamp x.sent x.got v.history)
gone_of v c n m k o is seat s f told none =
    let t = lagging c v o is f none in
    let x : Entry = t.entry in
    let grown : c.history ≡ v.history ++ x ∷ [] = t.longer in
    let now : half_of k.0 ≡ longer v n x = told ∙ ap (λ (y : Half). synced y c) seat
    ∙ (λ i. record {
      side = v.side;
      declared = v.declared;
      history = grown i;
      offer = none i;
      tries = v.tries + 1;
      found = n;
      held = None;
    }) in (
      x,
      longer_now v n x (half_of k.0) now,
      t.event,
      t.sent,
      sym (last_stamp_push v.history x) ∙ ap last_stamp (sym grown),
      stamped_last v.history x (subst (λ (l : List Entry). AreStamped 0 l) grown s.stamped),
    )

pub noticing : (v : Half) (c : Content) (m k : Me (Option Content) View) (o : Offer) → v.offer ≡ Some o → Seized v (Some c) m →
    k ≡ (Only (synced (half_of m.0) c), []) → Noticing v c m k o
noticing v c m k o is t told =
    let seat : half_of m.0 ≡ took v t.0 c = seat_of m (took v t.0 c) _ t.2 in
    let now : half_of k.0 ≡ synced (half_of m.0) c = seat_of k _ [] told in record {
      waits = waits_of v c t.0 m k o is t.1 seat t.4 now;
      gone = gone_of v c t.0 m k o is seat t.3 t.4 now;
    }

pub some_of : (o : Option Offer) → IsSome o → (x : Offer) × (o ≡ Some x)
some_of (Some x) h = (x, refl)
some_of None h = absurd (cc)
