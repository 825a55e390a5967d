-- What a type that comes to no free recursion variable before a move gives.
use Rattle.std.proofs.Common.{◌≡◌, ◌∙◌, ℕ, zero, suc, true, false, refl, sym, subst}
use Rattle.std.specs.Prelude.{◌&&◌, ◌||◌, not}
use Rattle.std.proofs.lemmas.Bool.{eq-eqb, or_parts, and_parts}
use Rattle.fst_types.specs.Tree.{Tree, skip, send, receive, close, wait, select, offer, seq, rec, back, var, plain, arrow, pair, named}
use Rattle.fst_kinds.specs.Contractive.{guards, reaches, IsGuarded}
use Rattle.fst_lts.specs.Step.{terminated}

-- a terminated type guards nothing
pub unguarded : (s : Tree) → terminated s ≡ true → guards s ≡ false
unguarded skip e = refl
unguarded (send b) e = absurd (cc e)
unguarded (receive b) e = absurd (cc e)
unguarded close e = absurd (cc e)
unguarded wait e = absurd (cc e)
unguarded (select bs) e = absurd (cc e)
unguarded (offer bs) e = absurd (cc e)
unguarded (seq s r) e =
    let h = and_parts (terminated s) (terminated r) e in
    λ i. unguarded s h.0 i || unguarded r h.1 i
unguarded (rec s) e = unguarded s e
unguarded (back k) e = absurd (cc e)
unguarded (var k) e = absurd (cc e)
unguarded (plain b) e = absurd (cc e)
unguarded (arrow u s r) e = absurd (cc e)
unguarded (pair s r) e = absurd (cc e)
unguarded (named k) e = absurd (cc e)

-- behind a terminated first part the second part comes first
pub guarded_second : (s r : Tree) → IsGuarded (seq s r) → terminated s ≡ true → IsGuarded r
guarded_second s r h e k =
    let both = or_parts (reaches s k) (not (guards s) && reaches r k) (h k) in
    subst (λ g. not g && reaches r k ≡ false) (unguarded s e) both.1

-- the first part of a sequence comes to no variable that the sequence doesn't come to
pub guarded_first : (s r : Tree) → IsGuarded (seq s r) → IsGuarded s
guarded_first s r h k = (or_parts (reaches s k) (not (guards s) && reaches r k) (h k)).0

-- nor does a contractive body
pub guarded_body : (s : Tree) → reaches s 0 ≡ false → IsGuarded (rec s) → IsGuarded s
guarded_body s z h zero = z
guarded_body s z h (suc k) = h k

-- a variable comes to itself
pub no_variable : (k : ℕ) → IsGuarded (back k) → ⊥
no_variable k h = absurd (cc (sym (h k) ∙ eq-eqb k k refl))
