-- A session type moves by variables alone only finitely often.
use Rattle.std.proofs.Common.{◌≡◌, ◌∙◌, ◌≤◌, ℕ, suc, List, [], ◌∷◌, length, Bool, true, false, Option, Some, None, refl, sym, ap, subst, arith}
use Rattle.std.specs.Prelude.{if◌then◌else◌, ◌&&◌, ◌||◌, not}
use Rattle.std.proofs.Math.Bool.{or-true}
use Rattle.std.proofs.lemmas.Bool.{or_parts}
use Rattle.fst_types.specs.Tree.{Tree, skip, send, receive, close, wait, select, offer, seq, rec, back, var, plain, arrow, pair, named}
use Rattle.fst_types.specs.declared.kind.Kind.{Kind}
use Rattle.fst_types.specs.declared.label.Label.{Label}
use Rattle.fst_types.specs.declared.label.Label.TheVariants.{Var}
use Rattle.fst_types.specs.Order.{same_label}
use Rattle.fst_types.specs.Scoped.{IsScoped}
use Rattle.fst_types.specs.Substitution.{substitute, unfolding_of}
use Rattle.fst_types.proofs.Laws.{substitute_nothing, substitute_after, unfolding_of_scoped}
use Rattle.fst_kinds.specs.Kinds.{session}
use Rattle.fst_kinds.specs.Contractive.{guards, reaches, IsGuarded}
use Rattle.fst_kinds.specs.WellFormed.{IsSession}
use Rattle.fst_kinds.specs.OpenSession.{GuardsTo, IsOpenSession, IsPut}
use Rattle.fst_kinds.proofs.Laws.{unreached, substitute_guards, opened, open_first, open_second, open_body, unguarded_body, substitute_session, unfolding_of_contractive}
use Rattle.fst_base.proofs.Options.{mapped_some}
use Rattle.fst_lts.specs.Step.{terminated, is_end, step}
use Rattle.fst_lts.specs.Moves.{Moves, sends, receives, closes, waits, selects, offers, first, ends, second, unfolds, variables}
use Rattle.fst_lts.proofs.Laws.{unguarded, guarded_first, guarded_body, no_variable, steps_are_moves, unfolding_of_step, seq_step}
use Rattle.fst_instances.proofs.SessionLaws.{session_after}
use Rattle.fst_instances.proofs.SequenceLaws.{after_first}
use Rattle.fst_instances.proofs.InstanceMoves.{leading, unled}

-- the type comes to an end of its moves by variables
pub data Fades : Tree → Type 0 where
  -- after each move by a variable it does
  fades : {s : Tree} → ((k : ℕ) (t : Tree) → step s (Var k) ≡ Some t → Fades t) → Fades s

-- and so it does after each of them
pub fading : {s : Tree} → Fades s → (k : ℕ) (t : Tree) → step s (Var k) ≡ Some t → Fades t
fading (fades f) = f

-- types with the same steps fade alike
alike : (s r : Tree) → ((a : Label) → step s a ≡ step r a) → Fades s → Fades r
alike s r h f = fades (λ k t e. fading f k t (h (Var k) ∙ e))

-- a move by a variable leaves what guards if the type guards
guards_kept : {s t : Tree} {a : Label} → Moves s a t → (k : ℕ) → a ≡ Var k → IsScoped 0 s → guards s ≡ true → guards t ≡ true
guards_kept sends k e o g = absurd (cc e)
guards_kept receives k e o g = absurd (cc e)
guards_kept closes k e o g = absurd (cc e)
guards_kept waits k e o g = absurd (cc e)
guards_kept (selects b) k e o g = absurd (cc e)
guards_kept (offers b) k e o g = absurd (cc e)
guards_kept (first {s} {r} {t} b m q) k e o g = pick (guards_kept m k e o.0) (guards s) refl g
  where
    pick : (guards s ≡ true → guards t ≡ true) → (c : Bool) → guards s ≡ c → c || guards r ≡ true → guards t || guards r ≡ true
    pick front true is g = ap (λ b. b || guards r) (front is)
    pick front false is g = ap (λ b. guards t || b) g ∙ or-true (guards t)
guards_kept (ends b m q) k e o g = absurd (cc (sym q ∙ ap is_end e))
guards_kept (second {s} {r} b m) k e o g = guards_kept m k e o.1 (sym (ap (λ c. c || guards r) (unguarded s b)) ∙ g)
guards_kept (unfolds {s} m) k e o g = guards_kept m k e (unfolding_of_scoped s o)
    (substitute_guards 1 (Some (rec s) ∷ []) s (g, tt) o g)
guards_kept variables k e o g = absurd (cc g)

-- two types in turn, where the second counts only if the first guards nothing
fades_seq : (vars : List Kind) {s : Tree} (r : Tree) → Fades s → IsSession vars s → (guards s ≡ false → Fades r) → Fades (seq s r)
fades_seq vars {s} r (fades f) ws h =
    fades (λ k t e. pick k t (λ u is. fades_seq vars r (f k u is) (session_after vars s u (Var k) ws is)) (terminated s) refl
    (sym (seq_step s r (Var k)) ∙ e))
  where
    still : (k : ℕ) (u : Tree) → step s (Var k) ≡ Some u → guards u ≡ false → (c : Bool) → guards s ≡ c → guards s ≡ false
    still k u is g true i = absurd (cc (sym g ∙ guards_kept
        ((steps_are_moves s ws.1.scoped ws.1.contractive (Var k) u).0 is) k refl ws.1.scoped i))
    still k u is g false i = i

    pick : (k : ℕ) (t : Tree) → ((u : Tree) → step s (Var k) ≡ Some u → (guards u ≡ false → Fades r) → Fades (seq u r)) →
        (c : Bool) → terminated s ≡ c →
        after_first (Var k) r c (step s (Var k)) (step r (Var k)) ≡ Some t → Fades t
    pick k t next true is e = fading (h (unguarded s is)) k t e
    pick k t next false is e =
        let found = mapped_some (λ u. seq u r) (step s (Var k)) t e in
        subst Fades found.2 (next found.0 found.1 (λ g. h (still k found.0 found.1 g (guards s) refl)))

fades_skip : Fades skip
fades_skip = fades (λ k t e. absurd (cc e))

unled_fades : (s : Tree) → leading s ≡ None → Fades s
unled_fades s is = fades (λ k t e. absurd (cc (sym (unled [] s k is) ∙ e)))

-- after a variable nothing is left
variable_fades : (k : ℕ) → Fades (var k)
variable_fades k = fades (λ j t e. pick t (same_label (Var j) (Var k)) e)
  where
    pick : (t : Tree) (c : Bool) → (if c then Some skip else None) ≡ Some t → Fades t
    pick t true e =
        let is : skip ≡ t = cc in
        subst Fades is fades_skip
    pick t false e = absurd (cc e)

-- behind a first part that guards nothing, the second part comes to no further variable
guarded_behind : (s r : Tree) → IsGuarded (seq s r) → guards s ≡ false → IsGuarded r
guarded_behind s r h e k =
    let both = or_parts (reaches s k) (not (guards s) && reaches r k) (h k) in
    subst (λ g. not g && reaches r k ≡ false) e both.1

-- a session type comes to an end of its moves by variables, with session types for its recursion variables
fades_in : (vars : List Kind) (n : ℕ) (env : List (Option Tree)) (s : Tree) → IsPut vars n env → IsOpenSession vars n s →
    IsGuarded s → Fades (substitute env s)
fades_in vars n env skip p h g = fades_skip
fades_in vars n env (send b) p h g = unled_fades (send b) refl
fades_in vars n env (receive b) p h g = unled_fades (receive b) refl
fades_in vars n env close p h g = unled_fades close refl
fades_in vars n env wait p h g = unled_fades wait refl
fades_in vars n env (select bs) p h g = unled_fades (substitute env (select bs)) refl
fades_in vars n env (offer bs) p h g = unled_fades (substitute env (offer bs)) refl
fades_in vars n env (seq s r) p h g =
    fades_seq vars (substitute env r) (fades_in vars n env s p (open_first vars n s r h) (guarded_first s r g))
    (substitute_session vars n env s p (open_first vars n s r h))
    (pick (fades_in vars n env r p (open_second vars n s r h)) (guards s) refl)
  where
    pick : (IsGuarded r → Fades (substitute env r)) →
        (c : Bool) → guards s ≡ c → guards (substitute env s) ≡ false → Fades (substitute env r)
    pick next true is e = absurd (cc (sym e ∙ substitute_guards n env s p.guarded h.scoped.0 is))
    pick next false is e = next (guarded_behind s r g is)
fades_in vars n env (rec s) p h g =
    alike (unfolding_of body) (rec body) (unfolding_of_step body session_whole.1.scoped session_whole.1.contractive
    (unfolding_of_contractive vars body (session session_whole.0) session_whole.1.kinded session_whole.1.scoped
    session_whole.1.contractive))
    (subst Fades (sym (substitute_after (rec body) env p.closed s))
    (pick (λ m q o. fades_in vars m (Some (substitute env (rec s)) ∷ env) s q o (guarded_body s h.contractive.1 g))
    (guards s) refl))
  where
    body : Tree
    body = substitute (None ∷ env) s

    session_whole : IsSession vars (substitute env (rec s))
    session_whole = substitute_session vars n env (rec s) p h

    put : (m : ℕ) → m ≤ suc (length env) → GuardsTo m (Some (substitute env (rec s)) ∷ env) →
        IsPut vars m (Some (substitute env (rec s)) ∷ env)
    put m le g = record {
      closed = (session_whole.1.scoped, p.closed);
      sessions =
          (session_whole, p.sessions);
      enough = le;
      guarded = g;
    }

    pick : ((m : ℕ) → IsPut vars m (Some (substitute env (rec s)) ∷ env) → IsOpenSession vars m s →
        Fades (substitute (Some (substitute env (rec s)) ∷ env) s)) →
        (b : Bool) → guards s ≡ b → Fades (substitute (Some (substitute env (rec s)) ∷ env) s)
    pick next true is = next (suc n) (put (suc n) (omega (arith, p.enough))
        (substitute_guards n env (rec s) p.guarded h.scoped is, p.guarded)) (open_body vars n s h)
    pick next false is = next 0 (put 0 (omega arith) tt) (unguarded_body vars n s h is)
fades_in vars n env (back k) p h g = absurd (no_variable k g)
fades_in vars n env (var k) p h g = variable_fades k
fades_in vars n env (plain b) p h g = unled_fades (plain b) refl
fades_in vars n env (arrow u s r) p h g = unled_fades (substitute env (arrow u s r)) refl
fades_in vars n env (pair s r) p h g = unled_fades (substitute env (pair s r)) refl
fades_in vars n env (named k) p h g = unled_fades (named k) refl

-- a session type comes to an end of its moves by variables
pub session_fades : (vars : List Kind) (s : Tree) → IsSession vars s → Fades s
session_fades vars s h =
    subst Fades (substitute_nothing s)
    (fades_in vars 0 [] s (record { closed = tt; sessions = tt; enough = omega arith; guarded = tt }) (opened vars s h)
    (λ k. unreached s 0 k h.1.scoped (omega arith)))
