-- Equal types have one kind.
use Rattle.std.proofs.Common.{◌≡◌, ◌∙◌, ℕ, suc, List, [], Bool, true, false, Option, Some, None, refl, sym, ap, subst, arith}
use Rattle.std.specs.Prelude.{◌&&◌, slice_get, if◌then◌else◌}
use Rattle.std.proofs.lemmas.Bool.{and_parts}
use Rattle.fst_types.specs.Tree.{Tree, skip, send, receive, close, wait, select, offer, seq, rec, back, var, plain, arrow, pair, named}
use Rattle.fst_types.specs.declared.kind.Kind.{Kind}
use Rattle.fst_types.specs.declared.kind.Use.{Use}
use Rattle.fst_types.specs.declared.kind.Use.TheVariants.{Many, Once}
use Rattle.fst_types.specs.declared.label.Label.{Label}
use Rattle.fst_types.specs.declared.label.Label.TheVariants.{Var}
use Rattle.fst_kinds.specs.Kinds.{session, top, join, HasKind}
use Rattle.fst_kinds.specs.Contractive.{IsContractive, IsGuarded}
use Rattle.fst_kinds.specs.WellFormed.{IsWellFormed, IsSession}
use Rattle.fst_kinds.proofs.Laws.{one_kind, not_top, unreached, unfolding_of_kind}
use Rattle.fst_lts.specs.Step.{terminated, is_end, step}
use Rattle.fst_base.specs.Agreement.{Agree}
use Rattle.fst_lts.specs.Moves.{Moves, sends, receives, closes, waits, selects, offers, first, ends, second, unfolds, variables}
use Rattle.fst_lts.specs.Equal as equal
use Rattle.fst_lts.specs.Equal.{IsEqual}
use Rattle.fst_lts.proofs.Laws.{guarded_first, guarded_second, guarded_body, no_variable, steps_are_moves, agree_terminated}
use Rattle.fst_instances.proofs.SessionLaws.{session_after}
use Rattle.fst_instances.proofs.InstanceMoves.{leading, leading_moves}
use Rattle.fst_instances.proofs.VariableRuns.{Fades, fades, session_fades}
use Rattle.fst_instances.proofs.InstanceLaws.{both_move, unled_too}

-- a terminated session type has the kind *S
ended_many : (vars : List Kind) (s : Tree) (u : Use) → HasKind vars s (session u) → terminated s ≡ true → u ≡ Many
ended_many vars skip u h e = ap (λ (k : Kind). k.uses) h
ended_many vars (send b) u h e = absurd (cc e)
ended_many vars (receive b) u h e = absurd (cc e)
ended_many vars close u h e = absurd (cc e)
ended_many vars wait u h e = absurd (cc e)
ended_many vars (select bs) u h e = absurd (cc e)
ended_many vars (offer bs) u h e = absurd (cc e)
ended_many vars (seq s r) u h e =
    let over = and_parts (terminated s) (terminated r) e in
    let front = ended_many vars s h.0 h.2 over.0 in
    let next = ended_many vars r h.1 h.3 over.1 in
    ap (λ (k : Kind). k.uses) h.4 ∙ (λ i. join (front i) (next i))
ended_many vars (rec s) u h e = ended_many vars s u h.0 e
ended_many vars (back k) u h e = absurd (cc e)
ended_many vars (var k) u h e = absurd (cc e)
ended_many vars (plain b) u h e = absurd (cc e)
ended_many vars (arrow v s r) u h e = absurd (cc e)
ended_many vars (pair s r) u h e = absurd (cc e)
ended_many vars (named k) u h e = absurd (cc e)

-- a session type that isn't terminated and that no variable leads has the kind 1S
unled_once : (vars : List Kind) (s : Tree) (u : Use) → HasKind vars s (session u) → IsGuarded s →
    (own : IsContractive s) → leading s ≡ None → terminated s ≡ false → u ≡ Once
unled_once vars skip u h g o l e = absurd (cc e)
unled_once vars (send b) u h g o l e = ap (λ (k : Kind). k.uses) h
unled_once vars (receive b) u h g o l e = ap (λ (k : Kind). k.uses) h
unled_once vars close u h g o l e = ap (λ (k : Kind). k.uses) h
unled_once vars wait u h g o l e = ap (λ (k : Kind). k.uses) h
unled_once vars (select bs) u h g o l e = ap (λ (k : Kind). k.uses) h.1
unled_once vars (offer bs) u h g o l e = ap (λ (k : Kind). k.uses) h.1
unled_once vars (seq s r) u h g o l e =
    pick (unled_once vars s h.0 h.2 (guarded_first s r g) o.0)
    (λ d. unled_once vars r h.1 h.3 d o.1) (terminated s) refl l (ap (λ c. c) e)
  where
    whole : u ≡ join h.0 h.1
    whole = ap (λ (k : Kind). k.uses) h.4

    pick : (leading s ≡ None → terminated s ≡ false → h.0 ≡ Once) →
        (IsGuarded r → leading r ≡ None → terminated r ≡ false → h.1 ≡ Once) → (c : Bool) → terminated s ≡ c →
        (if c then leading r else leading s) ≡ None → terminated s && terminated r ≡ false → u ≡ Once
    pick front next true is l e =
        whole ∙ ap (λ x. join x h.1) (ended_many vars s h.0 h.2 is)
        ∙ next (guarded_second s r g is) l (sym (ap (λ c. c && terminated r) is) ∙ e)
    pick front next false is l e = whole ∙ ap (λ x. join x h.1) (front l is)
unled_once vars (rec s) u h g o l e = unled_once vars s u h.0 (guarded_body s o.1 g) o.0 l e
unled_once vars (back k) u h g o l e = absurd (no_variable k g)
unled_once vars (var k) u h g o l e = absurd (cc l)
unled_once vars (plain b) u h g o l e = not_top u Many h
unled_once vars (arrow v s r) u h g o l e = not_top u v h.2
unled_once vars (pair s r) u h g o l e = not_top u _ h.4
unled_once vars (named k) u h g o l e = not_top u Many h

join_again : (u v w : Use) → join (join u v) w ≡ join u (join v w)
join_again Many v w = refl
join_again Once v w = refl

join_many : (u : Use) → u ≡ join u Many
join_many Many = refl
join_many Once = refl

same_uses : (u v : Use) → session u ≡ session v → u ≡ v
same_uses u v e = ap (λ (k : Kind). k.uses) e

-- a move by a variable takes the variable's part from the kind
led_kind : (vars : List Kind) {s t : Tree} {a : Label} → Moves s a t → (k : ℕ) → a ≡ Var k →
    (v u w : Use) → slice_get vars k ≡ Some (session v) → HasKind vars s (session u) → HasKind vars t (session w) → u ≡ join v w
led_kind vars sends k e v u w i h g = absurd (cc e)
led_kind vars receives k e v u w i h g = absurd (cc e)
led_kind vars closes k e v u w i h g = absurd (cc e)
led_kind vars waits k e v u w i h g = absurd (cc e)
led_kind vars (selects b) k e v u w i h g = absurd (cc e)
led_kind vars (offers b) k e v u w i h g = absurd (cc e)
led_kind vars (first b m q) k e v u w i h g =
    let front = led_kind vars m k e v h.0 g.0 i h.2 g.2 in
    let second_kind = one_kind vars _ (session h.1) (session g.1) h.3 g.3 in
    same_uses u (join h.0 h.1) h.4 ∙ (λ x. join (front x) (same_uses h.1 g.1 second_kind x)) ∙ join_again v g.0 g.1
    ∙ ap (join v) (sym (same_uses w (join g.0 g.1) g.4))
led_kind vars (ends b m q) k e v u w i h g = absurd (cc (sym q ∙ ap is_end e))
led_kind vars (second {s} b m) k e v u w i h g =
    same_uses u (join h.0 h.1) h.4 ∙ ap (λ x. join x h.1) (ended_many vars s h.0 h.2 b) ∙ led_kind vars m k e v h.1 w i h.3 g
led_kind vars (unfolds {s} m) k e v u w i h g = led_kind vars m k e v u w i (unfolding_of_kind vars s (session u) h) g
led_kind vars (variables {k = j}) k e v u w i h g =
    let is : j ≡ k = cc in
    let kind : session u ≡ session v = cc in
    same_uses u v kind ∙ join_many v ∙ ap (join v) (sym (same_uses w Many g))

-- the kind of a variable by which a session type moves
led_variable : (vars : List Kind) {s t : Tree} {a : Label} → Moves s a t → (k : ℕ) → a ≡ Var k →
    (u : Use) → HasKind vars s (session u) → (v : Use) × (slice_get vars k ≡ Some (session v))
led_variable vars sends k e u h = absurd (cc e)
led_variable vars receives k e u h = absurd (cc e)
led_variable vars closes k e u h = absurd (cc e)
led_variable vars waits k e u h = absurd (cc e)
led_variable vars (selects b) k e u h = absurd (cc e)
led_variable vars (offers b) k e u h = absurd (cc e)
led_variable vars (first b m q) k e u h = led_variable vars m k e h.0 h.2
led_variable vars (ends b m q) k e u h = led_variable vars m k e h.0 h.2
led_variable vars (second b m) k e u h = led_variable vars m k e h.1 h.3
led_variable vars (unfolds {s} m) k e u h = led_variable vars m k e u (unfolding_of_kind vars s (session u) h)
led_variable vars (variables {k = j}) k e u h =
    let is : j ≡ k = cc in
    (u, subst (λ n. slice_get vars n ≡ Some (session u)) is h)

one_use : (vars : List Kind) {s : Tree} (r : Tree) → Fades s →
    (ws : IsSession vars s) (wr : IsSession vars r) → Agree step step s r → ws.0 ≡ wr.0
one_use vars {s} r (fades f) ws wr h = pick (λ k t u e wt wu g. one_use vars u (f k t e) wt wu g) (leading s) refl
  where
    alike : terminated s ≡ terminated r
    alike = agree_terminated 0 vars s r ws wr (h 1)

    settled : leading s ≡ None → (c : Bool) → terminated s ≡ c → ws.0 ≡ wr.0
    settled is true over = ended_many vars s ws.0 ws.1.kinded over ∙ sym (ended_many vars r wr.0 wr.1.kinded (sym alike ∙ over))
    settled is false on =
        unled_once vars s ws.0 ws.1.kinded (λ k. unreached s 0 k ws.1.scoped (omega arith)) ws.1.contractive is on
        ∙ sym (unled_once vars r wr.0 wr.1.kinded (λ k. unreached r 0 k wr.1.scoped (omega arith)) wr.1.contractive
        (unled_too s r h is) (sym alike ∙ on))

    pick : ((k : ℕ) (t u : Tree) → step s (Var k) ≡ Some t →
        (wt : IsSession vars t) (wu : IsSession vars u) → Agree step step t u → wt.0 ≡ wu.0) →
        (o : Option ℕ) → leading s ≡ o → ws.0 ≡ wr.0
    pick next None is = settled is (terminated s) refl
    pick next (Some k) is =
        let moved = leading_moves [] s k is in
        let t = moved.0 in
        let found = both_move (step s (Var k)) (step r (Var k)) (λ m. h (suc m) (Var k)) t moved.1 in
        let u = found.0 in
        let wt = session_after vars s t (Var k) ws moved.1 in
        let wu = session_after vars r u (Var k) wr found.1 in
        let left = (steps_are_moves s ws.1.scoped ws.1.contractive (Var k) t).0 moved.1 in
        let right = (steps_are_moves r wr.1.scoped wr.1.contractive (Var k) u).0 found.1 in
        let v = led_variable vars left k refl ws.0 ws.1.kinded in
        led_kind vars left k refl v.0 ws.0 wt.0 v.1 ws.1.kinded wt.1.kinded
        ∙ ap (join v.0) (next k t u moved.1 wt wu found.2)
        ∙ sym (led_kind vars right k refl v.0 wr.0 wu.0 v.1 wr.1.kinded wu.1.kinded)

-- equal types have one kind
pub equal_kind : (vars : List Kind) {s r : Tree} → IsEqual vars s r → (i j : Kind) → HasKind vars s i → HasKind vars r j → i ≡ j
equal_kind vars (equal.sessions {s} {r} ws wr h) i j a b =
    one_kind vars s i (session ws.0) a ws.1.kinded ∙ ap session (one_use vars r (session_fades vars s ws) ws wr h)
    ∙ one_kind vars r (session wr.0) j wr.1.kinded b
equal_kind vars (equal.variables {k}) i j a b = one_kind vars (var k) i j a b
equal_kind vars (equal.base_types {b = x}) i j a b = one_kind vars (plain x) i j a b
equal_kind vars (equal.data_types {k}) i j a b = one_kind vars (named k) i j a b
equal_kind vars (equal.functions p q) i j a b = a.2 ∙ sym b.2
equal_kind vars (equal.pairs p q) i j a b =
    let front = equal_kind vars p a.0 b.0 a.2 b.2 in
    let next = equal_kind vars q a.1 b.1 a.3 b.3 in
    a.4 ∙ (λ x. top (join (front x).uses (next x).uses)) ∙ sym b.4

-- what equals a well-formed type is well formed, of the same kind
pub equal_well_formed : (vars : List Kind) {s r : Tree} → IsEqual vars s r →
    (k : Kind) → IsWellFormed vars s k → IsWellFormed vars r k
equal_well_formed vars (equal.sessions {s} {r} ws wr h) k w =
    let is : k ≡ session wr.0 = equal_kind vars (equal.sessions ws wr h) k (session wr.0) w.kinded wr.1.kinded in
    subst (λ j. IsWellFormed vars r j) (sym is) wr.1
equal_well_formed vars equal.variables k w = w
equal_well_formed vars equal.base_types k w = w
equal_well_formed vars equal.data_types k w = w
equal_well_formed vars (equal.functions p q) k w =
    let front = equal_well_formed vars p w.kinded.0.0
    (record { kinded = w.kinded.0.1; contractive = w.contractive.0; scoped = w.scoped.0; ordered = w.ordered.0 }) in
    let next = equal_well_formed vars q w.kinded.1.0
    (record { kinded = w.kinded.1.1; contractive = w.contractive.1; scoped = w.scoped.1; ordered = w.ordered.1 }) in
    record {
      kinded = ((w.kinded.0.0, front.kinded), (w.kinded.1.0, next.kinded), w.kinded.2);
      contractive = (front.contractive, next.contractive);
      scoped = (front.scoped, next.scoped);
      ordered = (front.ordered, next.ordered);
    }
equal_well_formed vars (equal.pairs p q) k w =
    let front = equal_well_formed vars p w.kinded.0
    (record { kinded = w.kinded.2; contractive = w.contractive.0; scoped = w.scoped.0; ordered = w.ordered.0 }) in
    let next = equal_well_formed vars q w.kinded.1
    (record { kinded = w.kinded.3; contractive = w.contractive.1; scoped = w.scoped.1; ordered = w.ordered.1 }) in
    record {
      kinded = (w.kinded.0, w.kinded.1, front.kinded, next.kinded, w.kinded.4);
      contractive = (front.contractive, next.contractive);
      scoped = (front.scoped, next.scoped);
      ordered = (front.ordered, next.ordered);
    }
