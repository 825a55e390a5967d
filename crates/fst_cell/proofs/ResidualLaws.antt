-- Laws of residuals: the two ends of a channel never both send, and what one end sends the other receives.
use Rattle.std.proofs.Common.{◌≡◌, ◌∙◌, List, [], ◌∷◌, ◌++◌, true, false, Option, Some, None, IsSome, refl, sym, ap, subst, true≢false}
use Rattle.std.proofs.lemmas.Option.{same_Some}
use Rattle.std.specs.Prelude.{is_some, option_map, option_and_then}
use Rattle.fst_base.proofs.Options.{mapped_some}
use Rattle.fst_types.specs.declared.label.Label.{Label}
use Rattle.fst_types.specs.declared.label.Label.TheVariants.{Send, Receive, Select, Offer, Close, Wait, Var}
use Rattle.fst_types.specs.declared.side.Side.{Side}
use Rattle.fst_types.specs.declared.side.Side.TheVariants.{Left, Right}
use Rattle.fst_types.specs.Tree.{Tree}
use Rattle.fst_lts.specs.Step.{step}
use Rattle.fst_lts.specs.Dual.{dual}
use Rattle.fst_lts.specs.Histories.{is_output, sending, receiving, IsInput, after_event, after_history, side_type, opposite}
use Rattle.fst_lts.proofs.Laws.{one_direction, sending_output, receiving_output, after_sent, after_received, dual_sends, dual_receives, after_history-dual, dual-dual_option}
use Rattle.fst_types.specs.declared.event.Entry.{Entry}
use Rattle.fst_types.specs.declared.event.Event.{Event}
use Rattle.fst_lts.specs.Residuals.{residual, sends, receives, asks}

-- the residual of one end is the dual of that of the other
residual_opposite : (s : Side) (t : Tree) (h : List Entry) → residual (opposite s) t h ≡ option_map dual (residual s t h)
unfolding residual
residual_opposite Left t h = after_history-dual t h
residual_opposite Right t h = sym (dual-dual_option (after_history t h)) ∙ ap (option_map dual) (sym (after_history-dual t h))

there : (o : Option Tree) → is_some o ≡ true → (u : Tree) × (o ≡ Some u)
there None e = absurd (true≢false (sym e))
there (Some u) e = (u, refl)

-- a type that sends has a successor
record Moves (o : Option Tree) (label : Label) : Type 0 where
  from : Tree
  to : Tree
  is : o ≡ Some from
  moves : step from label ≡ Some to

sends_moves : (o : Option Tree) (x : Event) → sends o x ≡ true → Moves o (sending x)
unfolding sends
sends_moves None x e = absurd (true≢false (sym e))
sends_moves (Some t) x e = let z = there (step t (sending x)) e in record { from = t; to = z.0; is = refl; moves = z.1 }

receives_moves : (o : Option Tree) (x : Event) → receives o x ≡ true → Moves o (receiving x)
unfolding receives
receives_moves None x e = absurd (true≢false (sym e))
receives_moves (Some t) x e = let z = there (step t (receiving x)) e in record { from = t; to = z.0; is = refl; moves = z.1 }

-- where a type sends, its dual doesn't
clash : (o : Option Tree) (x y : Event) → sends o x ≡ true → sends (option_map dual o) y ≡ true → ⊥
clash o x y a b =
    let m = sends_moves o x a in
    let n = sends_moves (option_map dual o) y b in
    let is : n.from ≡ dual m.from = same_Some n.from (dual m.from) (sym n.is ∙ ap (option_map dual) m.is) in
    let z = mapped_some dual (step m.from (receiving y)) n.to
    (sym (dual_sends m.from y) ∙ ap (λ t. step t (sending y)) (sym is) ∙ n.moves) in
    let d = one_direction m.from m.to z.0 (sending x) (receiving y) m.moves z.1 in
    true≢false (sym (sending_output x) ∙ d ∙ receiving_output y)

-- the two ends of a channel never both send
pub exclusive : (s : Side) (t : Tree) (h : List Entry) (x y : Event) → sends (residual s t h) x ≡ true →
    sends (residual (opposite s) t h) y ≡ true → ⊥
exclusive s t h x y a b = clash (residual s t h) x y a (subst (λ (o : Option Tree). sends o y ≡ true) (residual_opposite s t h) b)

input_label : (a : Label) → IsInput a → is_output a ≡ false
input_label (Send b) i = absurd i
input_label (Receive b) i = refl
input_label (Select l) i = absurd i
input_label (Offer l) i = refl
input_label Close i = absurd i
input_label Wait i = refl
input_label (Var k) i = absurd i

-- an end that asks for an input doesn't send
pub asks_only : (o : Option Tree) (y : Event) → asks o → sends o y ≡ true → ⊥
unfolding asks
asks_only o y a b =
    let m = sends_moves o y b in
    let is : m.from ≡ a.0 = same_Some m.from a.0 (sym m.is ∙ a.3) in
    let d = one_direction m.from m.to a.2 (sending y) a.1 m.moves (ap (λ t. step t a.1) is ∙ a.5) in
    true≢false (sym (sending_output y) ∙ d ∙ input_label a.1 a.4)

moved : (o : Option Tree) (u : Tree) → o ≡ Some u → is_some o ≡ true
moved o u e = ap is_some e

received : (t : Tree) (x : Event) (u : Tree) → step t (receiving x) ≡ Some u → receives (Some t) x ≡ true
unfolding receives
received t x u e = moved (step t (receiving x)) u e

-- what one end sends the other receives
pub meets : (s : Side) (t : Tree) (h : List Entry) (x : Event) → sends (residual s t h) x ≡ true →
    receives (residual (opposite s) t h) x ≡ true
meets s t h x a =
    let m = sends_moves (residual s t h) x a in
    let dual_of : residual (opposite s) t h ≡ Some (dual m.from) = residual_opposite s t h ∙ ap (option_map dual) m.is in
    subst (λ (o : Option Tree). receives o x ≡ true) (sym dual_of)
    (received (dual m.from) x (dual m.to) (dual_receives m.from x ∙ ap (option_map dual) m.moves))

pushed : (o : Option Tree) (h : List Entry) (e : Entry) →
    ((t : Tree) → after_history t (h ++ e ∷ []) ≡ option_and_then (λ u. after_event u e.event) (after_history t h)) →
    option_and_then (λ y. after_history y (h ++ e ∷ [])) o ≡ option_and_then
    (λ u. after_event u e.event) (option_and_then (λ y. after_history y h) o)
pushed None h e rest = refl
pushed (Some y) h e rest = rest y

then_none : (o : Option Tree) → option_and_then (λ y. after_history y []) o ≡ o
then_none None = refl
then_none (Some u) = refl

push_all : (t : Tree) (h : List Entry) (e : Entry) → after_history t (h ++ e ∷ []) ≡ option_and_then
    (λ u. after_event u e.event) (after_history t h)
push_all t [] e = then_none (after_event t e.event)
push_all t (x ∷ h) e = pushed (after_event t x.event) h e (λ u. push_all u h e)

-- after one event more
pub residual_push : (s : Side) (t r : Tree) (h : List Entry) (e : Entry) → residual s t h ≡ Some r →
    residual s t (h ++ e ∷ []) ≡ after_event r e.event
unfolding residual
residual_push s t r h e a = push_all (side_type s t) h e ∙ ap (option_and_then (λ u. after_event u e.event)) a

sent_goes : (o : Option Tree) (x : Event) → Moves o (sending x) → IsSome (option_and_then (λ u. after_event u x) o)
sent_goes o x m = moved (option_and_then (λ u. after_event u x) o) m.to
    (ap (option_and_then (λ u. after_event u x)) m.is ∙ after_sent m.from m.to x m.moves)

received_goes : (o : Option Tree) (x : Event) → Moves o (receiving x) → IsSome (option_and_then (λ u. after_event u x) o)
received_goes o x m = moved (option_and_then (λ u. after_event u x) o) m.to
    (ap (option_and_then (λ u. after_event u x)) m.is ∙ after_received m.from m.to x m.moves)

-- a trace goes on by what one end sends
pub trace_push : (s : Side) (t : Tree) (h : List Entry) (x : Event) (e : Entry) → e.event ≡ x → sends (residual s t h) x ≡ true →
    IsSome (after_history t (h ++ e ∷ []))
unfolding residual
trace_push s t h x e same a =
    subst (λ (o : Option Tree). IsSome o) (sym (push_all t h e ∙ ap
    (λ (y : Event). option_and_then (λ u. after_event u y) (after_history t h)) same)) (goes s a)
  where
    goes : (s : Side) → sends (residual s t h) x ≡ true → IsSome (option_and_then (λ u. after_event u x) (after_history t h))
    goes Left b = sent_goes (after_history t h) x (sends_moves (after_history t h) x b)
    goes Right b = received_goes (after_history t h) x (receives_moves (after_history t h) x (meets Right t h x b))

-- before any event
pub trace_none : (t : Tree) → IsSome (after_history t [])
trace_none t = refl

pub residual_left : (t : Tree) → residual Left t [] ≡ Some t
unfolding residual
residual_left t = refl

pub residual_right : (t : Tree) → residual Right t [] ≡ Some (dual t)
unfolding residual
residual_right t = refl
