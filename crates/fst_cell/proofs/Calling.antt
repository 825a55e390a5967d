-- The calls on an end.
use Rattle.std.proofs.Common.{◌≡◌, ℕ, ◌+◌, ◌*◌, ◌^◌, ◌<◌, List, [], ◌∷◌, length, true, Option, Some, None, refl, sym, ap, ◌∙◌, subst, arith}
use Rattle.atomic_table.specs.Table.{Me, opening}
use Rattle.fst_types.specs.declared.side.Side.{Side}
use Rattle.fst_types.specs.Tree.{Tree}
use Rattle.fst_kinds.specs.WellFormed.{IsSession}
use Rattle.fst_types.specs.declared.event.Entry.{Entry}
use Rattle.fst_cell.specs.declared.content.Offer.{Offer}
use Rattle.fst_cell.specs.declared.content.Standing.{Standing}
use Rattle.fst_cell.specs.declared.content.Content.{Content}
use Rattle.fst_cell.specs.declared.content.Half.{Half}
use Rattle.fst_cell.specs.declared.content.View.{View}
use Rattle.fst_cell.specs.declared.content.View.TheVariants.{Only}
use Rattle.fst_lts.specs.Residuals.{residual, sends}
use Rattle.fst_cell.specs.Rule.{turn_word, offers, stands_for, Waits, Sound, Fits, Holds, both_fresh, empty, took, synced}
use Rattle.fst_cell.specs.End.{EndView, half_of, Seized, Passes, residual_of}
use Rattle.fst_cell.specs.Answers.{end_with, offered}
use Rattle.fst_cell.proofs.Places.{own_offer, other_offer, kept, idle_place, none_stands}
use Rattle.fst_cell.proofs.Phases.{opens}

pub opens_as : (t u : Tree) (slots : List (Option Content)) → IsSession [] t → u ≡ t → slots ≡ Some (empty t) ∷ [] →
    Holds (opening (0 ∷ []) slots (both_fresh u))
opens_as t u slots f same is = subst (λ (xs : List (Option Content)). Holds (opening (0 ∷ []) xs (both_fresh u))) (sym is)
    (subst (λ (s : Tree). Holds (opening (0 ∷ []) (Some (empty t) ∷ []) (both_fresh s))) (sym same) (opens t f))

pub same_end : (f e : EndView) (v : Half) → f.cell ≡ e.cell → f.channel ≡ e.channel → f.knows ≡ v → f ≡ end_with e v
same_end f e v a b c = λ i. record { cell = a i; channel = b i; knows = c i }

abbrev pub with_offer : Content → Side → Offer → Content
with_offer c side o = record { declared = c.declared; history = c.history; offer = Some (record { side = side; offer = o }) }

offer_sound : (c : Content) (side : Side) (o : Offer) → Sound c → Waits c.declared side c.history o → Sound (with_offer c side o)
offer_sound c side o s w = record {
  formed = s.formed;
  trace = s.trace;
  stamped = s.stamped;
  standing = λ x e. let same : (record { side = side; offer = o }) ≡ x = cc in subst
      (λ (y : Standing). Waits c.declared y.side c.history y.offer) same w;
}

-- what an offer needs and gives
pub record Offering (v : Half) (c : Content) (o : Offer) : Type 0 where
  pub history : v.history ≡ c.history
  pub none : c.offer ≡ None
  pub waits : Waits c.declared v.side c.history o

pub offering : (v : Half) (c : Content) (o : Offer) → Sound c → Fits c v → v.offer ≡ None → sends (residual_of v) o.event ≡ true →
    o.clock < 2 ^ 63 → Offering v c o
offering v c o s f idle may early =
    let place = idle_place c v idle f in
    let may' : sends (residual v.side c.declared c.history) o.event ≡ true =
    subst (λ (h : List Entry). sends (residual v.side c.declared h) o.event ≡ true) place.0
    (subst (λ (t : Tree). sends (residual v.side t v.history) o.event ≡ true) f.declared may) in
    record { history = place.0; none = none_stands c v.side o.event s place.1 may'; waits = (may', early) }

offer_reading : (c : Content) (side : Side) (o : Offer) → c.offer ≡ None → turn_word c 1 + 1 ≡ turn_word (with_offer c side o) 0
offer_reading c side o none = let k : offers c.offer ≡ 0 = ap offers none in omega arith

free_reading : (c : Content) → c.offer ≡ None → turn_word c 0 ≡ 4 * length c.history
free_reading c none = let k : offers c.offer ≡ 0 = ap offers none in omega arith

pub offer_passes : (v : Half) (c : Content) (n : ℕ) (o : Offer) → Sound c → Fits c v → Offering v c o →
    length v.history < 2 ^ 32 → Passes (took v n c) (with_offer c v.side o)
offer_passes v c n o s f g room = record {
  before = c;
  held = refl;
  sound = offer_sound c v.side o s g.waits;
  same = refl;
  keeps = λ x side fits. kept c (with_offer c v.side o) x refl refl
      (ap (λ (y : Side). stands_for y (Some (record { side = v.side; offer = o }))) side ∙ other_offer v.side o
      ∙ sym (ap (stands_for x.side) g.none)) fits;
  word = offer_reading c v.side o g.none;
  small = let k : length v.history ≡ length c.history = ap length g.history in omega arith;
}

-- the end after its offer
pub offer_told : (v : Half) (c : Content) (n : ℕ) (o : Offer) → Offering v c o →
    synced (took v n c) (with_offer c v.side o) ≡ offered v n o
offer_told v c n o g = λ i. record {
  side = v.side;
  declared = v.declared;
  history = sym g.history i;
  offer =
      own_offer v.side o i;
  tries = v.tries + 1;
  found = n;
  held = None;
}

pub seat_of : (m : Me (Option Content) View) (v : Half) (xs : List (ℕ × Option Content)) → m ≡ (Only v, xs) → half_of m.0 ≡ v
seat_of m v xs e = ap (λ (x : Me (Option Content) View). half_of x.0) e

offered_now : (v : Half) (n : ℕ) (o : Offer) (h : Half) → h ≡ offered v n o → h ≡ offered v h.found o
offered_now v n o h e = e ∙ ap (λ (k : ℕ). offered v k o) (sym (ap (λ (x : Half). x.found) e))

-- an offer, once the turn is taken
pub record OfferCall (v : Half) (side : Side) (o : Offer) (c : Content) (m : Me (Option Content) View) : Type 0 where
  pub passes : Passes (half_of m.0) (with_offer c side o)
  pub told : (k : Me (Option Content) View) → k ≡ (Only (synced (half_of m.0) (with_offer c side o)), []) →
      (half_of k.0 ≡ offered v (half_of k.0).found o) × ((half_of k.0).found ≡ 4 * length v.history)

pub offer_call : (v : Half) (side : Side) (o : Offer) (c : Content) (m : Me (Option Content) View) → v.side ≡ side →
    v.offer ≡ None → sends (residual_of v) o.event ≡ true → o.clock < 2 ^ 63 → length v.history < 2 ^ 32
    → Seized v (Some c) m → OfferCall v side o c m
offer_call v side o c m own idle may early room t =
    let n : ℕ = t.0 in
    let g = offering v c o t.3 t.4 idle may early in
    let is : half_of m.0 ≡ took v n c = seat_of m (took v n c) _ t.2 in
    subst (λ (s : Side). OfferCall v s o c m) own
    (record {
      passes = subst (λ (x : Half). Passes x (with_offer c v.side o)) (sym is) (offer_passes v c n o t.3 t.4 g room);
      told = λ k e.
          let now : half_of k.0 ≡ offered v n o = seat_of k _ [] e ∙ ap (λ (x : Half). synced x (with_offer c v.side o)) is
          ∙ offer_told v c n o g in (
            offered_now v n o (half_of k.0) now,
            ap (λ (x : Half). x.found) now ∙ t.1 ∙ free_reading c g.none ∙ ap
                (λ (l : List Entry). 4 * length l) (sym g.history),
          );
    })
