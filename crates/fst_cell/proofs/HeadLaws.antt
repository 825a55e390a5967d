-- A type moves as the part that moves first, and where a protocol ends nothing is left of it.
use Rattle.std.proofs.Common.{◌≡◌, ◌∙◌, Bool, true, false, Option, Some, None, IsSome, refl, sym, ap, true≢false}
use Rattle.std.specs.Prelude.{◌&&◌, not, is_some, option_map, if◌then◌else◌}
use Rattle.fst_base.proofs.Bools.{not_true}
use Rattle.fst_types.specs.declared.label.Label.{Label}
use Rattle.fst_types.specs.Tree.{Tree, skip, send, receive, close, wait, select, offer, seq, rec, back, var, plain, arrow, pair, named}
use Rattle.fst_lts.specs.Step.{step, terminated, is_end, followed}
use Rattle.fst_lts.specs.Histories.{sending, receiving}
use Rattle.fst_lts.proofs.Laws.{seq_step, followed_on, ended_skip, moving, after_sent, after_received}
use Rattle.fst_types.specs.declared.event.Event.{Event}
use Rattle.fst_cell.specs.declared.heads.Next.{Next}
use Rattle.fst_cell.specs.declared.heads.Next.TheVariants.{Head, Ended}
use Rattle.fst_cell.specs.Heads.{head, with_head, left_of, MovesOn, GoesOn}

there_in : (a b : Bool) (x y : Option Tree) → is_some x ≡ not b → is_some y ≡ not a → is_some (if a then x else y) ≡ not (a && b)
there_in true b x y e f = e
there_in false b x y e f = f

there_under : (a : Bool) (t : Tree) → is_some (if a then None else Some t) ≡ not a
there_under true t = refl
there_under false t = refl

-- a type that isn't terminated has such a part, and a terminated one has none
head_there : (t : Tree) → is_some (head t) ≡ not (terminated t)
head_there skip = refl
head_there (send b) = refl
head_there (receive b) = refl
head_there close = refl
head_there wait = refl
head_there (select bs) = refl
head_there (offer bs) = refl
head_there (seq s r) = there_in (terminated s) (terminated r) (head r) (head s) (head_there r) (head_there s)
head_there (rec s) = there_under (terminated s) (rec s)
head_there (back k) = refl
head_there (var k) = refl
head_there (plain b) = refl
head_there (arrow u s r) = refl
head_there (pair s r) = refl
head_there (named k) = refl

not_false : (b : Bool) → false ≡ not b → b ≡ true
not_false true e = refl
not_false false e = absurd (true≢false (sym e))

pub head_some : (t h : Tree) → head t ≡ Some h → terminated t ≡ false
head_some t h e = not_true (terminated t) (sym (ap is_some e) ∙ head_there t)

pub head_none : (t : Tree) → head t ≡ None → terminated t ≡ true
head_none t e = not_false (terminated t) (sym (ap is_some e) ∙ head_there t)

-- the part of a sequence that moves first
pub head_first : (s r h : Tree) → head s ≡ Some h → head (seq s r) ≡ Some h
head_first s r h e = ap (λ (b : Bool). if b then head r else head s) (head_some s h e) ∙ e

pub head_second : (s r : Tree) → head s ≡ None → head (seq s r) ≡ head r
head_second s r e = ap (λ (b : Bool). if b then head r else head s) (head_none s e)

mapped_itself : (o : Option Tree) → o ≡ option_map (λ x. x) o
mapped_itself None = refl
mapped_itself (Some x) = refl

mapped_twice : (f g : Tree → Tree) (o : Option Tree) → option_map g (option_map f o) ≡ option_map (λ x. g (f x)) o
mapped_twice f g None = refl
mapped_twice f g (Some x) = refl

itself : (t h : Tree) (a : Label) → Some t ≡ Some h → step t a ≡ option_map (λ x. x) (step h a)
itself t h a e = let same : t ≡ h = cc in mapped_itself (step t a) ∙ ap (λ x. option_map (λ y. y) (step x a)) same

-- the type after a label by which no protocol ends has what the part leads to in its place
pub head_step : (t h : Tree) (a : Label) → is_end a ≡ false → head t ≡ Some h →
    step t a ≡ option_map (with_head t) (step h a)
head_step skip h a n e = absurd (cc)
head_step (send b) h a n e = itself (send b) h a e
head_step (receive b) h a n e = itself (receive b) h a e
head_step close h a n e = itself close h a e
head_step wait h a n e = itself wait h a e
head_step (select bs) h a n e = itself (select bs) h a e
head_step (offer bs) h a n e = itself (offer bs) h a e
head_step (seq s r) h a n e = seq_step s r a ∙ pick (terminated s) e (λ f. head_step s h a n f) (λ f. head_step r h a n f)
  where
    on : followed a r ≡ (λ t. seq t r)
    on = λ i t. followed_on a r t n i

    pick : (b : Bool) → (if b then head r else head s) ≡ Some h →
        (head s ≡ Some h → step s a ≡ option_map (with_head s) (step h a)) →
        (head r ≡ Some h → step r a ≡ option_map (with_head r) (step h a)) →
        (if b then step r a else option_map (followed a r) (step s a)) ≡ option_map
        (λ x. if b then with_head r x else seq (with_head s x) r) (step h a)
    pick true f first second = second f
    pick false f first second = (λ i. option_map (on i) (first f i)) ∙ mapped_twice (with_head s) (λ t. seq t r) (step h a)
head_step (rec s) h a n e = pick (terminated s) e
  where
    pick : (b : Bool) → (if b then None else Some (rec s)) ≡ Some h → step (rec s) a ≡ option_map (λ x. x) (step h a)
    pick true f = absurd (cc)
    pick false f = itself (rec s) h a f
head_step (back k) h a n e = itself (back k) h a e
head_step (var k) h a n e = itself (var k) h a e
head_step (plain b) h a n e = itself (plain b) h a e
head_step (arrow u s r) h a n e = itself (arrow u s r) h a e
head_step (pair s r) h a n e = itself (pair s r) h a e
head_step (named k) h a n e = itself (named k) h a e

-- what the part leads to is what the type moves on to
pub head_on : (t h n : Tree) (a : Label) → is_end a ≡ false → head t ≡ Some h → step h a ≡ Some n → MovesOn t a (Head n)
head_on t h n a k e f = (head_step t h a k e ∙ ap (option_map (with_head t)) f, head_some t h e)

-- a type that moves on by the label of what it sends goes on so by the event
pub sent_on : (t : Tree) (n : Next) (x : Event) → MovesOn t (sending x) n → GoesOn t x n
sent_on t n x m = (after_sent t (left_of t n) x m.0, m.1)

-- and so does one that receives it
pub received_on : (t : Tree) (n : Next) (x : Event) → MovesOn t (receiving x) n → GoesOn t x n
received_on t n x m = (after_received t (left_of t n) x m.0, m.1)

lost : {X : Type 0} (o : Option X) (u : X) (f : Option X) → o ≡ Some u → o ≡ f → f ≡ None → ⊥
lost o u f e g n = let no : Some u ≡ None = sym e ∙ g ∙ n in cc

there : (o : Option Tree) → IsSome o → (u : Tree) × (o ≡ Some u)
there None e = absurd (true≢false (sym e))
there (Some u) e = (u, refl)

-- a type that moves by a label has such a part, which moves by the label too
pub head_moves : (t : Tree) (a : Label) → IsSome (step t a) → head t ≡ None → ⊥
head_moves t a m f = let z = there (step t a) m in true≢false (sym (head_none t f) ∙ moving t z.0 a z.1)

pub head_stays : (t h : Tree) (a : Label) → is_end a ≡ false → IsSome (step t a) → head t ≡ Some h → step h a ≡ None → ⊥
head_stays t h a n m f g = let z = there (step t a) m in
    lost (step t a) z.0 (option_map (with_head t) (step h a)) z.1 (head_step t h a n f) (ap (option_map (with_head t)) g)

-- nothing is left of a type that moves by a label by which a protocol ends
pub end_on : (t : Tree) (a : Label) → is_end a ≡ true → IsSome (step t a) → MovesOn t a Ended
end_on t a e m = let z = there (step t a) m in (z.1 ∙ ap Some (ended_skip t z.0 a e z.1), moving t z.0 a z.1)
