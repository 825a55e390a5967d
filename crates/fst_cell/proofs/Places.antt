-- What an end knows, as the content changes.
use Rattle.std.proofs.Common.{◌≡◌, List, [], ◌∷◌, ◌++◌, Option, Some, None, true, inl, inr, ⊎_elim, refl, sym, ap, ◌∙◌, subst}
use Rattle.fst_types.specs.declared.side.Side.{Side}
use Rattle.fst_types.specs.declared.side.Side.TheVariants.{Left, Right}
use Rattle.fst_types.specs.Tree.{Tree}
use Rattle.fst_lts.specs.Histories.{opposite}
use Rattle.fst_types.specs.declared.event.Event.{Event}
use Rattle.fst_types.specs.declared.event.Entry.{Entry}
use Rattle.fst_cell.specs.declared.content.Offer.{Offer}
use Rattle.fst_cell.specs.declared.content.Standing.{Standing}
use Rattle.fst_cell.specs.declared.content.Content.{Content}
use Rattle.fst_cell.specs.declared.content.Half.{Half}
use Rattle.fst_lts.specs.Residuals.{residual, sends}
use Rattle.fst_cell.specs.Rule.{offer_of, stands_for, Waits, Sound, Lags, Place, Fits, synced}
use Rattle.fst_cell.proofs.ResidualLaws.{exclusive}

pub own_offer : (s : Side) (o : Offer) → offer_of s s o ≡ Some o
own_offer Left o = refl
own_offer Right o = refl

pub other_offer : (s : Side) (o : Offer) → offer_of (opposite s) s o ≡ None
other_offer Left o = refl
other_offer Right o = refl

place_of : (d : Content) (side theirs : Side) (o : Offer) → d.offer ≡ Some (record { side = theirs; offer = o }) → Sound d →
    Place d side d.history (offer_of side theirs o)
place_of d Left Left o e s = (s.standing _ e, inl (refl, ap (stands_for Left) e))
place_of d Left Right o e s = (refl, ap (stands_for Left) e)
place_of d Right Left o e s = (refl, ap (stands_for Right) e)
place_of d Right Right o e s = (s.standing _ e, inl (refl, ap (stands_for Right) e))

place_synced : (d : Content) (side : Side) (now : Option Standing) → d.offer ≡ now → Sound d →
    Place d side d.history (stands_for side now)
place_synced d side None e s = (refl, ap (stands_for side) e)
place_synced d side (Some x) e s = place_of d side x.side x.offer e s

-- an end that knows the content fits it
pub synced_fits : (d : Content) (v : Half) → Sound d → v.declared ≡ d.declared → Fits d (synced v d)
synced_fits d v s e = record { declared = e; place = place_synced d v.side d.offer refl s }

place_kept : (c d : Content) (side : Side) (h : List Entry) (o : Option Offer) → d.declared ≡ c.declared → d.history ≡ c.history →
    stands_for side d.offer ≡ stands_for side c.offer → Place c side h o → Place d side h o
place_kept c d side h None a b e p = (p.0 ∙ sym b, e ∙ p.1)
place_kept c d side h (Some o) a b e p = (
  subst (λ (t : Tree). Waits t side h o) (sym a) p.0,
  ⊎_elim
      (λ t. inl (t.0 ∙ sym b, e ∙ t.1))
      (λ (t : Lags c side h o). inr (record {
        none_stands = e ∙ t.none_stands;
        entry = t.entry;
        longer = b ∙ t.longer;
        event =
            t.event;
        sent = t.sent;
      }))
      p.1,
)

-- an end still fits where its side's offer and the history stay
pub kept : (c d : Content) (v : Half) → d.declared ≡ c.declared → d.history ≡ c.history →
    stands_for v.side d.offer ≡ stands_for v.side c.offer → Fits c v → Fits d v
kept c d v a b e f = record { declared = f.declared ∙ sym a; place = place_kept c d v.side v.history v.offer a b e f.place }

place_taken : (c d : Content) (side : Side) (h : List Entry) (known : Option Offer) (o : Offer) (x : Entry)
    → d.declared ≡ c.declared → d.history ≡ c.history ++ x ∷ [] → d.offer ≡ None → stands_for side c.offer ≡ Some o →
    x.event ≡ o.event → x.sent ≡ o.clock → Place c side h known → Place d side h known
place_taken c d side h None o x a b e at f g p = absurd (cc)
place_taken c d side h (Some k) o x a b e at f g p = (
  subst (λ (t : Tree). Waits t side h k) (sym a) p.0,
  inr (⊎_elim
      (λ t. let same : o ≡ k = cc in record {
        none_stands = ap (stands_for side) e;
        entry = x;
        longer = b ∙ ap (λ (l : List Entry). l ++ x ∷ []) (sym t.0);
        event = f ∙ ap (λ (y : Offer). y.event) same;
        sent = g ∙ ap (λ (y : Offer). y.clock) same;
      })
      (λ (t : Lags c side h k). let none : stands_for side c.offer ≡ None = t.none_stands in absurd (cc))
      p.1),
)

-- an end whose offer is taken lags
pub taken : (c d : Content) (v : Half) (o : Offer) (x : Entry) → d.declared ≡ c.declared → d.history ≡ c.history ++ x ∷ [] →
    d.offer ≡ None → stands_for v.side c.offer ≡ Some o → x.event ≡ o.event → x.sent ≡ o.clock → Fits c v → Fits d v
taken c d v o x a b e at f g fits = record {
  declared = fits.declared ∙ sym a;
  place =
      place_taken c d v.side v.history v.offer o x a b e at f g fits.place;
}

-- what an end that doesn't wait knows
pub idle_place : (c : Content) (v : Half) → v.offer ≡ None → Fits c v → (v.history ≡ c.history) ×
    (stands_for v.side c.offer ≡ None)
idle_place c v none f = subst (λ (o : Option Offer). Place c v.side v.history o) none f.place

none_for : (c : Content) (s theirs : Side) (o : Offer) (x : Event) → Sound c →
    c.offer ≡ Some (record { side = theirs; offer = o }) → stands_for s c.offer ≡ None →
    sends (residual s c.declared c.history) x ≡ true → ⊥
none_for c Left Left o x s e n may = let f = ap (stands_for Left) e in cc
none_for c Right Right o x s e n may = let f = ap (stands_for Right) e in cc
none_for c Left Right o x s e n may = exclusive Left c.declared c.history x o.event may (s.standing _ e).0
none_for c Right Left o x s e n may = exclusive Right c.declared c.history x o.event may (s.standing _ e).0

none_now : (c : Content) (side : Side) (now : Option Standing) (x : Event) → c.offer ≡ now → Sound c →
    stands_for side c.offer ≡ None → sends (residual side c.declared c.history) x ≡ true → now ≡ None
none_now c side None x e s n may = refl
none_now c side (Some o) x e s n may = absurd (none_for c side o.side o.offer x s e n may)

-- where an end may send, no offer stands
pub none_stands : (c : Content) (side : Side) (x : Event) → Sound c → stands_for side c.offer ≡ None →
    sends (residual side c.declared c.history) x ≡ true → c.offer ≡ None
none_stands c side x s n may = none_now c side c.offer x refl s n may
