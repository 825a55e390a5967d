-- A call that takes the other end's offer.
use Rattle.std.proofs.Common.{◌≡◌, ℕ, ◌+◌, ◌*◌, ◌^◌, ◌<◌, List, [], ◌∷◌, ◌++◌, length, true, Option, Some, None, refl, sym, ap, ◌∙◌, subst, arith, length-append}
use Rattle.atomic_table.specs.Table.{Me}
use Rattle.fst_types.specs.declared.side.Side.{Side}
use Rattle.fst_types.specs.declared.side.Side.TheVariants.{Left, Right}
use Rattle.fst_types.specs.Tree.{Tree}
use Rattle.fst_lts.specs.Histories.{opposite, after_event}
use Rattle.fst_types.specs.declared.event.Entry.{Entry}
use Rattle.fst_cell.specs.declared.content.Offer.{Offer}
use Rattle.fst_cell.specs.declared.content.Standing.{Standing}
use Rattle.fst_cell.specs.declared.content.Content.{Content}
use Rattle.fst_cell.specs.declared.content.Half.{Half}
use Rattle.fst_cell.specs.declared.heads.Next.{Next}
use Rattle.fst_cell.specs.declared.content.View.{View}
use Rattle.fst_cell.specs.declared.content.View.TheVariants.{Only}
use Rattle.fst_lts.specs.Stamps.{next_stamp}
use Rattle.fst_lts.specs.Residuals.{residual, sends, receives, asks}
use Rattle.fst_cell.specs.Rule.{turn_word, offers, stands_for, Sound, Place, Fits, tried, took, synced}
use Rattle.fst_cell.specs.End.{half_of, Seized, IsEnd, Goes, Passes, Stays, residual_of}
use Rattle.fst_cell.specs.Answers.{longer}
use Rattle.fst_cell.proofs.ResidualLaws.{asks_only, meets, residual_push, trace_push}
use Rattle.fst_lts.proofs.Laws.{stamped_push, stamps_below}
use Rattle.fst_cell.proofs.Places.{own_offer, taken, idle_place}
use Rattle.fst_cell.proofs.Calling.{seat_of}

idle_now : (c : Content) (v : Half) (o : Option Offer) → v.offer ≡ o → Fits c v → asks (residual_of v) → o ≡ None
idle_now c v None e f ask = refl
idle_now c v (Some o) e f ask =
    let place : Place c v.side v.history (Some o) = subst (λ (x : Option Offer). Place c v.side v.history x) e f.place in
    absurd (asks_only (residual_of v) o.event ask
    (subst (λ (t : Tree). sends (residual v.side t v.history) o.event ≡ true) (sym f.declared) place.0.0))

-- an end that asks for an input doesn't wait
pub asks_idle : (c : Content) (v : Half) → Fits c v → asks (residual_of v) → v.offer ≡ None
asks_idle c v f ask = idle_now c v v.offer refl f ask

theirs_of : (c : Content) (mine theirs : Side) (o : Offer) → c.offer ≡ Some (record { side = theirs; offer = o }) →
    stands_for mine c.offer ≡ None → theirs ≡ opposite mine
theirs_of c Left Left o e n = let f = ap (stands_for Left) e in absurd (cc)
theirs_of c Left Right o e n = refl
theirs_of c Right Left o e n = refl
theirs_of c Right Right o e n = let f = ap (stands_for Right) e in absurd (cc)

-- the offer that is taken
pub record Taking (v : Half) (c : Content) (s : Standing) : Type 0 where
  pub idle : v.offer ≡ None
  pub history : v.history ≡ c.history
  pub theirs : s.side ≡ opposite v.side
  pub stands : stands_for (opposite v.side) c.offer ≡ Some s.offer

pub taking : (v : Half) (c : Content) (s : Standing) → Fits c v → asks (residual_of v) → c.offer ≡ Some s → Taking v c s
taking v c s f ask e =
    let idle = asks_idle c v f ask in
    let place = idle_place c v idle f in
    let theirs = theirs_of c v.side s.side s.offer e place.1 in
    record {
      idle = idle;
      history = place.0;
      theirs = theirs;
      stands = ap (stands_for (opposite v.side)) e ∙ ap
          (λ (x : Side). stands_for (opposite v.side) (Some (record { side = x; offer = s.offer }))) theirs
          ∙ own_offer (opposite v.side) s.offer;
    }

abbrev pub with_history : Content → List Entry → Content
with_history c h = record { declared = c.declared; history = h; offer = None }

taken_sound : (c : Content) (s : Standing) (x : Entry) → Sound c → c.offer ≡ Some s → x.event ≡ s.offer.event →
    x.sent ≡ s.offer.clock → x.got < 2 ^ 63 → x.stamp ≡ next_stamp x.sent x.got c.history →
    Sound (with_history c (c.history ++ x ∷ []))
taken_sound c s x sound e event sent got stamp =
    let w = sound.standing s e in record {
      formed = sound.formed;
      trace = trace_push s.side c.declared c.history s.offer.event x event w.0;
      stamped = stamped_push c.history x sound.stamped stamp (subst (λ (k : ℕ). k < 2 ^ 63) (sym sent) w.1) got;
      standing = λ y f. absurd (cc);
    }

taken_reading : (c : Content) (s : Standing) (x : Entry) → c.offer ≡ Some s →
    turn_word c 1 + 1 ≡ turn_word (with_history c (c.history ++ x ∷ [])) 0
taken_reading c s x e = let k : offers c.offer ≡ 1 = ap offers e in omega (arith, length-append c.history (x ∷ []))

pub take_passes : (v : Half) (c : Content) (n : ℕ) (s : Standing) (x : Entry) → Sound c → Fits c v → Taking v c s →
    c.offer ≡ Some s → length v.history < 2 ^ 32
    → x.event ≡ s.offer.event → x.sent ≡ s.offer.clock → x.got < 2 ^ 63 → x.stamp ≡ next_stamp x.sent x.got c.history →
    Passes (took v n c) (with_history c (c.history ++ x ∷ []))
take_passes v c n s x sound f t e room event sent got stamp = record {
  before = c;
  held = refl;
  sound = taken_sound c s x sound e event sent got stamp;
  same = refl;
  keeps = λ o side fits. taken c (with_history c (c.history ++ x ∷ [])) o s.offer x refl refl refl
      (ap (λ (y : Side). stands_for y c.offer) side ∙ t.stands) event sent fits;
  word = taken_reading c s x e;
  small = let k : length v.history ≡ length c.history = ap length t.history in omega (arith, length-append c.history (x ∷ []));
}

pub stamp_fits : (c : Content) (s : Standing) (v : Half) (clock : ℕ) → Sound c → c.offer ≡ Some s → v.history ≡ c.history →
    length v.history < 2 ^ 32 → clock < 2 ^ 63 → next_stamp s.offer.clock clock c.history < 2 ^ 64
stamp_fits c s v clock sound e same room early =
    let w : s.offer.clock < 2 ^ 63 = (sound.standing s e).1 in
    let k : length v.history ≡ length c.history = ap length same in
    let b = stamps_below c.history sound.stamped in
    omega arith

pub longer_now : (v : Half) (n : ℕ) (x : Entry) (h : Half) → h ≡ longer v n x → h ≡ longer v h.found x
longer_now v n x h e = e ∙ ap (λ (k : ℕ). longer v k x) (sym (ap (λ (y : Half). y.found) e))

-- the end after an entry
pub moved_on : (v w : Half) (x : Entry) (side : Side) (t u : Tree) (next : Option Next) (k : Me (Option Content) View) →
    k ≡ (Only w, []) → half_of k.0 ≡ longer v (half_of k.0).found x → v.side ≡ side
    → residual side v.declared v.history ≡ Some t → after_event t x.event ≡ Some u → Goes u None next → IsEnd k side u next
moved_on v w x side t u next k e now own res step goes = record {
  idle = record { only = e ∙ ap (λ (y : Half). (Only y, [])) (sym (seat_of k w [] e)); free = ap (λ (y : Half). y.held) now };
  side_is = ap (λ (y : Half). y.side) now ∙ own;
  type_is = ap (λ (y : Half). residual side y.declared y.history) now ∙ residual_push side v.declared t v.history x res ∙ step;
  goes = subst (λ (o : Option Offer). Goes u o next) (sym (ap (λ (y : Half). y.offer) now)) goes;
}

other_twice : (s : Side) → opposite (opposite s) ≡ s
other_twice Left = refl
other_twice Right = refl

-- the end may receive what is offered
pub may_receive : (v : Half) (c : Content) (s : Standing) → Sound c → Fits c v → Taking v c s → c.offer ≡ Some s →
    receives (residual_of v) s.offer.event ≡ true
may_receive v c s sound f t e =
    let sent : sends (residual (opposite v.side) c.declared c.history) s.offer.event ≡ true = subst
    (λ (x : Side). sends (residual x c.declared c.history) s.offer.event ≡ true) t.theirs (sound.standing s e).0 in
    let got = subst (λ (x : Side). receives (residual x c.declared c.history) s.offer.event ≡ true) (other_twice v.side)
    (meets (opposite v.side) c.declared c.history s.offer.event sent) in
    subst (λ (h : List Entry). receives (residual v.side v.declared h) s.offer.event ≡ true) (sym t.history)
    (subst (λ (x : Tree). receives (residual v.side x c.history) s.offer.event ≡ true) (sym f.declared) got)

-- a take, once the turn is taken
pub record TakeCall (v : Half) (clock : ℕ) (c : Content) (s : Standing) (m : Me (Option Content) View) : Type 0 where
  pub idle : v.offer ≡ None
  pub fits : next_stamp s.offer.clock clock c.history < 2 ^ 64
  pub stays : Stays (half_of m.0) c
  pub receives_it : receives (residual_of v) s.offer.event ≡ true
  pub same : v.history ≡ c.history
  pub passes : (h : List Entry) (x : Entry) → h ≡ c.history ++ x ∷ [] → x.event ≡ s.offer.event → x.sent ≡ s.offer.clock →
      x.got ≡ clock → x.stamp ≡ next_stamp x.sent x.got c.history → Passes (half_of m.0) (with_history c h)
  pub told : (h : List Entry) (x : Entry) → h ≡ c.history ++ x ∷ [] →
      (k : Me (Option Content) View) → k ≡ (Only (synced (half_of m.0) (with_history c h)), [])
      → (half_of k.0 ≡ longer v (half_of k.0).found x) × ((half_of k.0).found ≡ 4 * length v.history + 2)

told_of : (v : Half) (c : Content) (s : Standing) (m : Me (Option Content) View) (n : ℕ) (h : List Entry) (x : Entry) →
    v.history ≡ c.history → c.offer ≡ Some s → n ≡ turn_word c 0 → half_of m.0 ≡ took v n c → h ≡ c.history ++ x ∷ []
    → (k : Me (Option Content) View) → k ≡ (Only (synced (half_of m.0) (with_history c h)), []) →
    (half_of k.0 ≡ longer v (half_of k.0).found x) × ((half_of k.0).found ≡ 4 * length v.history + 2)
told_of v c s m n h x same e word is grown k told =
    let hist : h ≡ v.history ++ x ∷ [] = grown ∙ ap (λ (l : List Entry). l ++ x ∷ []) (sym same) in
    let now : half_of k.0 ≡ longer v n x = seat_of k _ [] told ∙ ap (λ (y : Half). synced y (with_history c h)) is
    ∙ (λ i. record {
      side = v.side;
      declared = v.declared;
      history = hist i;
      offer = None;
      tries = v.tries + 1;
      found = n;
      held = None;
    }) in
    let one : offers c.offer ≡ 1 = ap offers e in
    let long : length v.history ≡ length c.history = ap length same in
    (longer_now v n x (half_of k.0) now, ap (λ (y : Half). y.found) now ∙ word ∙ omega arith)

pub take_call : (v : Half) (clock : ℕ) (c : Content) (s : Standing) (m : Me (Option Content) View) → asks (residual_of v) →
    clock < 2 ^ 63 → length v.history < 2 ^ 32 → c.offer ≡ Some s → Seized v (Some c) m → TakeCall v clock c s m
take_call v clock c s m ask early room e t =
    let n : ℕ = t.0 in
    let g = taking v c s t.4 ask e in
    let is : half_of m.0 ≡ took v n c = seat_of m (took v n c) _ t.2 in record {
      idle = g.idle;
      fits = stamp_fits c s v clock t.3 e g.history room early;
      stays = record { held = ap (λ (x : Half). x.held) is; sound = t.3 };
      receives_it = may_receive v c s t.3 t.4 g e;
      same = g.history;
      passes = λ h x grown event sent got next.
          subst (λ (y : Half). Passes y (with_history c h)) (sym is)
          (subst (λ (l : List Entry). Passes (took v n c) (with_history c l)) (sym grown)
          (take_passes v c n s x t.3 t.4 g e room event sent (subst (λ (k : ℕ). k < 2 ^ 63) (sym got) early) next));
      told = λ h x grown k told. told_of v c s m n h x g.history e t.1 is grown k told;
    }

-- an end that doesn't wait, after it gave the content back as it was
pub unchanged : (v : Half) (c : Content) (m k : Me (Option Content) View) → asks (residual_of v) → Seized v (Some c) m →
    k ≡ (Only (synced (half_of m.0) c), []) → half_of k.0 ≡ tried v (half_of k.0).found
unchanged v c m k ask t e =
    let n : ℕ = t.0 in
    let idle = asks_idle c v t.4 ask in
    let place = idle_place c v idle t.4 in
    let off : stands_for v.side c.offer ≡ v.offer = place.1 ∙ sym idle in
    let now : half_of k.0 ≡ tried v n = seat_of k _ [] e ∙ ap (λ (y : Half). synced y c) (seat_of m (took v n c) _ t.2)
    ∙ (λ i. record {
      side = v.side;
      declared = v.declared;
      history = sym place.0 i;
      offer = off i;
      tries = v.tries + 1;
      found = n;
      held = None;
    }) in
    now ∙ ap (λ (j : ℕ). tried v j) (sym (ap (λ (y : Half). y.found) now))

-- the word that it found, where no offer stood
pub unchanged_word : (v : Half) (c : Content) (m k : Me (Option Content) View) → asks (residual_of v) → Seized v (Some c) m →
    k ≡ (Only (synced (half_of m.0) c), []) → c.offer ≡ None → (half_of k.0).found ≡ 4 * length v.history
unchanged_word v c m k ask t e none =
    let place = idle_place c v (asks_idle c v t.4 ask) t.4 in
    let zero_offers : offers c.offer ≡ 0 = ap offers none in
    let long : length v.history ≡ length c.history = ap length place.0 in
    ap (λ (y : Half). y.found) (seat_of k _ [] e) ∙ ap (λ (y : Half). y.found) (seat_of m (took v t.0 c) _ t.2) ∙ t.1
    ∙ omega arith

-- it is the end that it was
pub still : (v w : Half) (side : Side) (t : Tree) (next : Option Next) (m k : Me (Option Content) View) → half_of m.0 ≡ v →
    IsEnd m side t next → k ≡ (Only w, []) → half_of k.0 ≡ tried v (half_of k.0).found → IsEnd k side t next
still v w side t next m k is old e now = record {
  idle = record { only = e ∙ ap (λ (y : Half). (Only y, [])) (sym (seat_of k w [] e)); free = ap (λ (y : Half). y.held) now };
  side_is = ap (λ (y : Half). y.side) now ∙ sym (ap (λ (y : Half). y.side) is) ∙ old.side_is;
  type_is = ap (λ (y : Half). residual side y.declared y.history) now
      ∙ sym (ap (λ (y : Half). residual side y.declared y.history) is) ∙ old.type_is;
  goes = subst (λ (o : Option Offer). Goes t o next)
      (ap (λ (y : Half). y.offer) is ∙ sym (ap (λ (y : Half). y.offer) now)) old.goes;
}
