-- How session types move by events: by labels of one direction, and the dual by those of the other.
use Rattle.std.proofs.Common.{◌≡◌, ◌∙◌, ◌⊎◌, inl, inr, ℕ, List, [], ◌∷◌, Bool, true, false, Option, Some, None, refl, sym, ap, subst}
use Rattle.std.specs.Prelude.{Contains, IsSome, option_map, option_and_then, if◌then◌else◌}
use Rattle.fst_types.specs.Tree.{Tree, skip, send, receive, close, wait, select, offer, seq, rec, back, var, plain, arrow, pair, named, Branches, none, branch}
use Rattle.fst_types.specs.declared.base.Base.{Base}
use Rattle.fst_types.specs.declared.label.Label.{Label}
use Rattle.fst_types.specs.declared.label.Label.TheVariants.{Send, Receive, Select, Offer, Close, Wait, Var}
use Rattle.fst_lts.specs.Step.{step, terminated, labels, choice_labels}
use Rattle.fst_lts.specs.Dual.{dual, dual_label}
use Rattle.fst_lts.specs.Histories.{is_output, sending, receiving, over, after_event, after_history}
use Rattle.fst_base.specs.Agreement.{residual}
use Rattle.fst_lts.proofs.AgreementLaws.{no_step}
use Rattle.fst_lts.proofs.DualLaws.{residual-dual}
use Rattle.fst_lts.proofs.LabelLaws.{labels_are_moves}
use Rattle.fst_lts.proofs.ResidualLaws.{terminated_unlabelled}
use Rattle.fst_base.proofs.Lists.{from_contains, contains_none}
use Rattle.std.proofs.lemmas.Option.{none-some}
use Rattle.fst_types.specs.declared.event.Entry.{Entry}
use Rattle.fst_types.specs.declared.event.Event.{Event}
use Rattle.fst_types.specs.declared.event.Event.TheVariants.{Int, Bool as Truth, Char, Unit as Nothing, Label as Branch, Closed}

-- the moves of a type: none, one message, the branches of one choice, the end, or one variable
data Front : Type 0 where
  nothing : Front
  sends : Base → Front
  receives : Base → Front
  selects : Branches → Front
  offers : Branches → Front
  closes : Front
  waits : Front
  variable : ℕ → Front

abbrev front_labels : Front → List Label
front_labels nothing = []
front_labels (sends b) = Send b ∷ []
front_labels (receives b) = Receive b ∷ []
front_labels (selects bs) = choice_labels Select bs
front_labels (offers bs) = choice_labels Offer bs
front_labels closes = Close ∷ []
front_labels waits = Wait ∷ []
front_labels (variable k) = Var k ∷ []

-- the labels of a type are those of a front
front : (s : Tree) → (f : Front) × (labels s ≡ front_labels f)
front skip = (nothing, refl)
front (send b) = (sends b, refl)
front (receive b) = (receives b, refl)
front close = (closes, refl)
front wait = (waits, refl)
front (select bs) = (selects bs, refl)
front (offer bs) = (offers bs, refl)
front (seq s r) = pick (terminated s) (front s) (front r)
  where
    pick : (c : Bool) → (f : Front) × (labels s ≡ front_labels f) → (f : Front) × (labels r ≡ front_labels f) → (f : Front) ×
        ((if c then labels r else labels s) ≡ front_labels f)
    pick true h g = g
    pick false h g = h
front (rec s) = front s
front (back k) = (nothing, refl)
front (var k) = (variable k, refl)
front (plain b) = (nothing, refl)
front (arrow u s r) = (nothing, refl)
front (pair s r) = (nothing, refl)
front (named k) = (nothing, refl)

-- a type moves by the labels of its front alone
in_front : (s : Tree) (a : Label) (t : Tree) → step s a ≡ Some t → Contains (front_labels (front s).0) a
in_front s a t e = subst (λ ls. Contains ls a) (front s).1 ((labels_are_moves s a).1 (ap there e))
  where
    there : Option Tree → Bool
    there None = false
    there (Some x) = true

choice_label : (make : List ℕ → Label) (bs : Branches) (a : Label) → Contains (choice_labels make bs) a → (l : List ℕ) ×
    (make l ≡ a)
choice_label make none a h = absurd (contains_none a h)
choice_label make (branch l s bs) a h = pick (choice_label make bs a) (from_contains (choice_labels make bs) a (make l) h)
  where
    pick : (Contains (choice_labels make bs) a → (k : List ℕ) × (make k ≡ a)) →
        (make l ≡ a) ⊎ Contains (choice_labels make bs) a → (k : List ℕ) × (make k ≡ a)
    pick next (inl e) = (l, e)
    pick next (inr n) = next n

one_of : (a b : Label) → Contains (b ∷ []) a → b ≡ a
one_of a b h = pick (from_contains [] a b h)
  where
    pick : (b ≡ a) ⊎ Contains [] a → b ≡ a
    pick (inl e) = e
    pick (inr n) = absurd (contains_none a n)

abbrev outgoing : Front → Bool
outgoing nothing = false
outgoing (sends b) = true
outgoing (receives b) = false
outgoing (selects bs) = true
outgoing (offers bs) = false
outgoing closes = true
outgoing waits = false
outgoing (variable k) = false

front_direction : (f : Front) (a : Label) → Contains (front_labels f) a → is_output a ≡ outgoing f
front_direction nothing a h = absurd (contains_none a h)
front_direction (sends b) a h = sym (ap is_output (one_of a (Send b) h))
front_direction (receives b) a h = sym (ap is_output (one_of a (Receive b) h))
front_direction (selects bs) a h = sym (ap is_output (choice_label Select bs a h).1)
front_direction (offers bs) a h = sym (ap is_output (choice_label Offer bs a h).1)
front_direction closes a h = sym (ap is_output (one_of a Close h))
front_direction waits a h = sym (ap is_output (one_of a Wait h))
front_direction (variable k) a h = sym (ap is_output (one_of a (Var k) h))

-- a type moves by labels of one direction
pub one_direction : (s t u : Tree) (a b : Label) → step s a ≡ Some t → step s b ≡ Some u → is_output a ≡ is_output b
one_direction s t u a b e f = front_direction (front s).0 a (in_front s a t e)
    ∙ sym (front_direction (front s).0 b (in_front s b u f))

-- what is sent is an output
pub sending_output : (ev : Event) → is_output (sending ev) ≡ true
sending_output (Int n) = refl
sending_output (Truth b) = refl
sending_output (Char c) = refl
sending_output Nothing = refl
sending_output (Branch l) = refl
sending_output Closed = refl

-- and what is received is none
pub receiving_output : (ev : Event) → is_output (receiving ev) ≡ false
receiving_output (Int n) = refl
receiving_output (Truth b) = refl
receiving_output (Char c) = refl
receiving_output Nothing = refl
receiving_output (Branch l) = refl
receiving_output Closed = refl

-- a type that receives an event doesn't send it
pub not_both : (s t : Tree) (ev : Event) → step s (receiving ev) ≡ Some t → step s (sending ev) ≡ None
not_both s t ev e = pick (step s (sending ev)) refl
  where
    pick : (o : Option Tree) → step s (sending ev) ≡ o → o ≡ None
    pick None f = refl
    pick (Some u) f = absurd (cc (sym (sending_output ev) ∙ one_direction s u t (sending ev) (receiving ev) f e
        ∙ receiving_output ev))

-- a type that sends an event moves so by it
pub after_sent : (s t : Tree) (ev : Event) → step s (sending ev) ≡ Some t → after_event s ev ≡ Some t
after_sent s t ev e = ap (λ o. over o (step s (receiving ev))) e

-- and so does one that receives it
pub after_received : (s t : Tree) (ev : Event) → step s (receiving ev) ≡ Some t → after_event s ev ≡ Some t
after_received s t ev e = ap (λ o. over o (step s (receiving ev))) (not_both s t ev e) ∙ e

-- what moves isn't terminated
pub moving : (s t : Tree) (a : Label) → step s a ≡ Some t → terminated s ≡ false
moving s t a e = pick (terminated s) refl
  where
    pick : (c : Bool) → terminated s ≡ c → c ≡ false
    pick false f = refl
    pick true f = absurd (no_step s a (terminated_unlabelled s f) (subst IsSome (sym e) refl))

then_itself : (o : Option Tree) → option_and_then (λ y. residual step y []) o ≡ o
then_itself None = refl
then_itself (Some t) = refl

-- the dual moves by the dual label to the dual
pub dual_step : (s : Tree) (a : Label) → step (dual s) (dual_label a) ≡ option_map dual (step s a)
dual_step s a = sym (then_itself (step (dual s) (dual_label a))) ∙ residual-dual (a ∷ []) s
    ∙ ap (option_map dual) (then_itself (step s a))

-- the label of what is received is the dual of the label of what is sent
pub dual_sending : (ev : Event) → dual_label (sending ev) ≡ receiving ev
dual_sending (Int n) = refl
dual_sending (Truth b) = refl
dual_sending (Char c) = refl
dual_sending Nothing = refl
dual_sending (Branch l) = refl
dual_sending Closed = refl

-- and the other way round
pub dual_receiving : (ev : Event) → dual_label (receiving ev) ≡ sending ev
dual_receiving (Int n) = refl
dual_receiving (Truth b) = refl
dual_receiving (Char c) = refl
dual_receiving Nothing = refl
dual_receiving (Branch l) = refl
dual_receiving Closed = refl

-- the dual receives what the type sends
pub dual_receives : (s : Tree) (ev : Event) → step (dual s) (receiving ev) ≡ option_map dual (step s (sending ev))
dual_receives s ev = ap (step (dual s)) (sym (dual_sending ev)) ∙ dual_step s (sending ev)

-- the dual sends what the type receives
pub dual_sends : (s : Tree) (ev : Event) → step (dual s) (sending ev) ≡ option_map dual (step s (receiving ev))
dual_sends s ev = ap (step (dual s)) (sym (dual_receiving ev)) ∙ dual_step s (receiving ev)

only_message : (f : Front) (b : Base) (a : Label) → Contains (front_labels f) (Receive b) → Contains (front_labels f) a →
    a ≡ Receive b
only_message nothing b a h g = absurd (contains_none a g)
only_message (sends c) b a h g = absurd (cc (one_of (Receive b) (Send c) h))
only_message (receives c) b a h g = sym (one_of a (Receive c) g) ∙ one_of (Receive b) (Receive c) h
only_message (selects bs) b a h g = absurd (cc (choice_label Select bs (Receive b) h).1)
only_message (offers bs) b a h g = absurd (cc (choice_label Offer bs (Receive b) h).1)
only_message closes b a h g = absurd (cc (one_of (Receive b) Close h))
only_message waits b a h g = absurd (cc (one_of (Receive b) Wait h))
only_message (variable k) b a h g = absurd (cc (one_of (Receive b) (Var k) h))

-- a type that receives a value moves by no other label
pub one_message : (s t u : Tree) (b : Base) (a : Label) → step s (Receive b) ≡ Some t → step s a ≡ Some u → a ≡ Receive b
one_message s t u b a e f = only_message (front s).0 b a (in_front s (Receive b) t e) (in_front s a u f)

only_wait : (f : Front) (a : Label) → Contains (front_labels f) Wait → Contains (front_labels f) a → a ≡ Wait
only_wait nothing a h g = absurd (contains_none a g)
only_wait (sends c) a h g = absurd (cc (one_of Wait (Send c) h))
only_wait (receives c) a h g = absurd (cc (one_of Wait (Receive c) h))
only_wait (selects bs) a h g = absurd (cc (choice_label Select bs Wait h).1)
only_wait (offers bs) a h g = absurd (cc (choice_label Offer bs Wait h).1)
only_wait closes a h g = absurd (cc (one_of Wait Close h))
only_wait waits a h g = sym (one_of a Wait g)
only_wait (variable k) a h g = absurd (cc (one_of Wait (Var k) h))

-- a type that waits for the end moves by no other label
pub one_wait : (s t u : Tree) (a : Label) → step s Wait ≡ Some t → step s a ≡ Some u → a ≡ Wait
one_wait s t u a e f = only_wait (front s).0 a (in_front s Wait t e) (in_front s a u f)

only_offers : (f : Front) (l : List ℕ) (a : Label) → Contains (front_labels f) (Offer l) → Contains (front_labels f) a →
    (k : List ℕ) × (Offer k ≡ a)
only_offers nothing l a h g = absurd (contains_none a g)
only_offers (sends c) l a h g = absurd (cc (one_of (Offer l) (Send c) h))
only_offers (receives c) l a h g = absurd (cc (one_of (Offer l) (Receive c) h))
only_offers (selects bs) l a h g = absurd (cc (choice_label Select bs (Offer l) h).1)
only_offers (offers bs) l a h g = choice_label Offer bs a g
only_offers closes l a h g = absurd (cc (one_of (Offer l) Close h))
only_offers waits l a h g = absurd (cc (one_of (Offer l) Wait h))
only_offers (variable k) l a h g = absurd (cc (one_of (Offer l) (Var k) h))

-- a type that offers a branch moves by branches that it offers alone
pub one_offer : (s t u : Tree) (l : List ℕ) (a : Label) → step s (Offer l) ≡ Some t → step s a ≡ Some u → (k : List ℕ) ×
    (Offer k ≡ a)
one_offer s t u l a e f = only_offers (front s).0 l a (in_front s (Offer l) t e) (in_front s a u f)

-- the dual goes on with each event as the dual of what the type goes on as
pub after_event-dual : (s : Tree) (ev : Event) → after_event (dual s) ev ≡ option_map dual (after_event s ev)
after_event-dual s ev = (λ i. over (dual_sends s ev i) (dual_receives s ev i))
    ∙ turned (step s (sending ev)) (step s (receiving ev)) refl refl
  where
    turned : (o p : Option Tree) → step s (sending ev) ≡ o → step s (receiving ev) ≡ p →
        over (option_map dual p) (option_map dual o) ≡ option_map dual (over o p)
    turned None None e f = refl
    turned None (Some t) e f = refl
    turned (Some t) None e f = refl
    turned (Some t) (Some u) e f = absurd (none-some t (sym (not_both s u ev f) ∙ e))

-- so it is after a history
pub after_history-dual : (s : Tree) (h : List Entry) → after_history (dual s) h ≡ option_map dual (after_history s h)
after_history-dual s [] = refl
after_history-dual s (e ∷ h) = ap (option_and_then (λ y. after_history y h)) (after_event-dual s e.event)
    ∙ rest (after_event s e.event) (λ y. after_history-dual y h)
  where
    rest : (o : Option Tree) → ((y : Tree) → after_history (dual y) h ≡ option_map dual (after_history y h)) →
        option_and_then (λ y. after_history y h) (option_map dual o) ≡ option_map dual
        (option_and_then (λ y. after_history y h) o)
    rest None f = refl
    rest (Some y) f = f y
