-- How parts of a type move that stand one after another.
use Rattle.std.proofs.Common.{◌≡◌, ◌∙◌, ◌<◌, List, [], ◌∷◌, Bool, true, false, Option, Some, None, refl, sym, ap, arith, option_map}
use Rattle.std.specs.Prelude.{◌&&◌, if◌then◌else◌, IsSome}
use Rattle.fst_types.specs.Tree.{Tree, skip, send, receive, close, wait, select, offer, seq, rec, back, var, plain, arrow, pair, named}
use Rattle.fst_types.specs.Size.{nodes}
use Rattle.fst_types.specs.declared.label.Label.{Label}
use Rattle.fst_lts.specs.Step.{step, terminated, is_end, followed}
use Rattle.fst_lts.proofs.Laws.{no_step, seq_step, ended_skip}
use Rattle.fst_report.specs.Parts.{followed_by, left_behind, MoveAlike, MovesFirst}

-- each type has a node
pub some_nodes : (t : Tree) → 0 < nodes t
some_nodes skip = omega arith
some_nodes (send b) = omega arith
some_nodes (receive b) = omega arith
some_nodes close = omega arith
some_nodes wait = omega arith
some_nodes (select bs) = omega arith
some_nodes (offer bs) = omega arith
some_nodes (seq s r) = omega arith
some_nodes (rec s) = omega arith
some_nodes (back k) = omega arith
some_nodes (var k) = omega arith
some_nodes (plain b) = omega arith
some_nodes (arrow u s r) = omega arith
some_nodes (pair s r) = omega arith
some_nodes (named k) = omega arith

-- one function after another, where there is something
mapped_twice : {A B C : Type 0} (g : B → C) (f : A → B) (o : Option A) → option_map g (option_map f o) ≡ option_map
    (λ x. g (f x)) o
mapped_twice g f None = refl
mapped_twice g f (Some x) = refl

-- nothing, where it is false that there is something
nothing : {A : Type 0} (o : Option A) → (IsSome o → ⊥) → o ≡ None
nothing None f = refl
nothing (Some x) f = absurd (f refl)

-- a sequence moves as its first part, where that isn't terminated
by_first : (s r : Tree) (a : Label) → terminated s ≡ false → step (seq s r) a ≡ option_map (followed a r) (step s a)
by_first s r a e = seq_step s r a ∙ ap (λ b. if b then step r a else option_map (followed a r) (step s a)) e

-- and else as its second part
by_second : (s r : Tree) (a : Label) → terminated s ≡ true → step (seq s r) a ≡ step r a
by_second s r a e = seq_step s r a ∙ ap (λ b. if b then step r a else option_map (followed a r) (step s a)) e

-- a type with nothing behind it goes on alone
moves_alone : (t : Tree) (a : Label) → step t a ≡ option_map (left_behind a []) (step t a)
moves_alone t a = pick (step t a) refl
  where
    ends : (u : Tree) (b : Bool) → is_end a ≡ b → step t a ≡ Some u → u ≡ (if b then skip else u)
    ends u true e is = ended_skip t u a e is
    ends u false e is = refl

    pick : (o : Option Tree) → step t a ≡ o → o ≡ option_map (left_behind a []) o
    pick None is = refl
    pick (Some u) is = ap Some (ends u (is_end a) refl is)

-- one type behind is the first of those behind
left_one : (a : Label) (s : Tree) (ss : List Tree) (t : Tree) → left_behind a ss (followed a s t) ≡ left_behind a (s ∷ ss) t
left_one a s ss t = pick (is_end a)
  where
    pick : (b : Bool) → (if b then skip else followed_by (if b then skip else seq t s) ss) ≡
        (if b then skip else followed_by (seq t s) ss)
    pick true = refl
    pick false = refl

-- parts move as the first of them, where that isn't terminated
pub moves_first : (ss : List Tree) (t : Tree) → terminated t ≡ false → MovesFirst t ss (t ∷ ss)
moves_first [] t e a = moves_alone t a
moves_first (s ∷ ss) t e a =
    moves_first ss (seq t s) (ap (λ b. b && terminated s) e) a ∙ ap (option_map (left_behind a ss)) (by_first t s a e) ∙
    mapped_twice (left_behind a ss) (followed a s) (step t a) ∙ (λ i. option_map (λ u. left_one a s ss u i) (step t a))

-- types that end alike and move alike do so with the same parts behind them
moves_alike : (ss : List Tree) (t u : Tree) → terminated t ≡ terminated u →
    ((a : Label) → step t a ≡ step u a) → MoveAlike (t ∷ ss) (u ∷ ss)
moves_alike [] t u e f = f
moves_alike (s ∷ ss) t u e f =
    moves_alike ss (seq t s) (seq u s) (ap (λ b. b && terminated s) e)
    (λ a. seq_step t s a ∙ cc (e, f a) ∙ sym (seq_step u s a))

-- a terminated part may be let go
pub let_go : (ss : List Tree) (t : Tree) → terminated t ≡ true → MoveAlike (t ∷ ss) ss
let_go [] t e = λ a. nothing (step t a) (no_step t e a)
let_go (s ∷ ss) t e = moves_alike ss (seq t s) s (ap (λ b. b && terminated s) e) (λ a. by_second t s a e)
