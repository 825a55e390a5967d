-- A part that is refused, or fails what is asked of it, refuses the term.
use Rattle.std.proofs.Common.{◌≡◌, ◌⊎◌, length, ℕ, List, [], ◌∷◌, inl, inr, subst}
use Rattle.fst_types.specs.Tree.{Tree, arrow}
use Rattle.fst_types.specs.declared.kind.Use.{Use}
use Rattle.fst_terms.specs.Around.{around}
use Rattle.fst_terms.specs.CoreTree.{CoreTree, apply, operate}
use Rattle.fst_terms.specs.declared.binder.Binder.{Binder}
use Rattle.fst_terms.specs.declared.steps.Step.{Step}
use Rattle.fst_terms.specs.declared.steps.Step.TheVariants.{Operate, Apply}
use Rattle.fst_terms.specs.declared.term.Op.{Op}
use Rattle.fst_context.specs.Scope.{Scope}
use Rattle.fst_derivations.specs.Deriv.{Deriv, type_of}
use Rattle.fst_premises.specs.Scopes.{AreUsed, entered_all, left_all}
use Rattle.fst_premises.specs.Shown.{ShowsNoFunction, ShowsUnused, place}
use Rattle.fst_premises.specs.Signs.{operand}
use Rattle.fst_typing.specs.Shown.{Shows, After, First, NoMore, Under, IsUnequal, IsOperand, ShowsOperand}
use Rattle.fst_premises.specs.Checks.{Check}
use Rattle.fst_typing.specs.Typed.{IsTyped, IsTypedUnder}
use Rattle.fst_premises.specs.declared.fault.CheckFault.{CheckFault}

-- what is refused inside steps
pub shows_around : (c : Check) (s : Scope) (f : CheckFault) (e : CoreTree) (xs : List Step) → Shows c e s f →
    Shows c (around e xs) s f
shows_around c s f e [] h = h
shows_around c s f e (Operate at o t ∷ xs) h = inl (shows_around c s f e xs h)
shows_around c s f e (Apply at t ∷ xs) h = inl (shows_around c s f e xs h)

-- behind the derivation of a first part
pub behind : {c : Check} {s r : Scope} {e : CoreTree} {d : Deriv} {P : Scope → Tree → Type 0} → IsTyped c s r e d →
    P r (type_of d) → After c s e P
behind {c} {s} {r} {e} {d} x p = record { scope = r; derivation = d; typed = x; then = p }

-- behind that of a term under names which are all used
pub behind_under : {c : Check} {xs : List Binder} {ts : List Tree} {s r : Scope} {e : CoreTree} {d : Deriv}
    {Refused : Scope → Type 0} {P : Scope → Tree → Type 0} {f : CheckFault} →
    IsTypedUnder c xs ts s r e d → P r (type_of d) → Under c xs ts e s Refused P f
behind_under {c} {xs} {ts} {s} {r} {e} {d} {Refused} {P} {f} x p = record {
  variables = x.variables;
  small = x.small;
  types = x.types;
  long = x.long;
  inside = inr (record {
    scope = x.inner;
    derivation = d;
    typed = x.typed;
    then =
        inr (x.used, subst (λ z. P z (type_of d)) x.left p);
  });
}

unused_more : {A B C : Type 0} → A ⊎ (B × ⊥) → A ⊎ (B × C)
unused_more (inl x) = inl x
unused_more (inr x) = absurd x.1

-- what is shown under names where nothing more is asked is shown where something is
pub under_more : {c : Check} {xs : List Binder} {ts : List Tree} {s : Scope} {e : CoreTree} {Refused : Scope → Type 0}
    {P : Scope → Tree → Type 0} {f : CheckFault} →
    Under c xs ts e s Refused NoMore f → Under c xs ts e s Refused P f
under_more {c} {xs} {ts} {s} {e} {Refused} {P} {f} x =
    record { variables = x.variables; small = x.small; types = x.types; long = x.long; inside = more x.inside }
  where
    more : First c e (entered_all xs x.variables s) (Refused (entered_all xs x.variables s))
        (λ z t. ShowsUnused z xs f ⊎ (AreUsed (length xs) z × ⊥)) →
        First c e (entered_all xs x.variables s) (Refused (entered_all xs x.variables s))
        (λ z t. ShowsUnused z xs f ⊎ (AreUsed (length xs) z × P (left_all (length xs) z) t))
    more (inl y) = inl y
    more (inr y) = inr (record { scope = y.scope; derivation = y.derivation; typed = y.typed; then = unused_more y.then })

pub shows_operand : {c : Check} {p : ℕ} (at : ℕ) (o : Op) {e b : CoreTree} {s r : Scope} {d : Deriv} {f : CheckFault} →
    IsTyped c s r e d → p ≡ place e → ShowsOperand c (operand o) p (type_of d) f → Shows c (operate at o e b) s f
shows_operand {c} {p} at o {e} {b} {s} {r} {d} {f} x q h =
    inr (behind x (inl (subst (λ n. ShowsOperand c (operand o) n (type_of d) f) q h)))

pub shows_second_operand : {c : Check} (at : ℕ) (o : Op) {e b : CoreTree} {s r : Scope} {d : Deriv} {f : CheckFault} (w : Tree) →
    IsTyped c s r e d → IsOperand c (operand o) (type_of d) w → Shows c b r f → Shows c (operate at o e b) s f
shows_second_operand at o w x i h = inr (behind x (inr (w, i, inl h)))

pub shows_unequal_operand : {c : Check} {p : ℕ} (at : ℕ) (o : Op) {e b : CoreTree} {s r z : Scope} {d h : Deriv} {f : CheckFault}
    (w : Tree) → IsTyped c s r e d → IsOperand c (operand o) (type_of d) w → IsTyped c r z b h →
    p ≡ place b → IsUnequal c p (type_of h) w f → Shows c (operate at o e b) s f
shows_unequal_operand {c} {p} at o {e} {b} {s} {r} {z} {d} {h} {f} w x i y q j =
    inr (behind x (inr (w, i, inr (behind y (subst (λ n. IsUnequal c n (type_of h) w f) q j)))))

pub shows_no_function : {c : Check} {p : ℕ} (at : ℕ) {e b : CoreTree} {s r : Scope} {d : Deriv} {f : CheckFault} →
    IsTyped c s r e d → p ≡ place e → ShowsNoFunction p (type_of d) f → Shows c (apply at e b) s f
shows_no_function {c} {p} at {e} {b} {s} {r} {d} {f} x q h =
    inr (behind x (inl (subst (λ n. ShowsNoFunction n (type_of d) f) q h)))

pub shows_argument : {c : Check} (at : ℕ) {e b : CoreTree} {s r : Scope} {d : Deriv} {f : CheckFault} (u : Use) (from to : Tree) →
    IsTyped c s r e d → type_of d ≡ arrow u from to → Shows c b r f → Shows c (apply at e b) s f
shows_argument at u from to x i h = inr (behind x (inr (u, from, to, i, inl h)))

pub shows_unequal_argument : {c : Check} {p : ℕ} (at : ℕ) {e b : CoreTree} {s r z : Scope} {d h : Deriv} {f : CheckFault}
    (u : Use) (from to : Tree) → IsTyped c s r e d → type_of d ≡ arrow u from to → IsTyped c r z b h →
    p ≡ place b → IsUnequal c p (type_of h) from f → Shows c (apply at e b) s f
shows_unequal_argument {c} {p} at {e} {b} {s} {r} {z} {d} {h} {f} u from to x i y q j =
    inr (behind x (inr (u, from, to, i, inr (behind y (subst (λ n. IsUnequal c n (type_of h) from f) q j)))))

-- what a further branch fails by: by the variables that it uses, or by its type where they are the same
pub joined_refused : {A B E P : Type 0} → (A → P) → (B → E → P) → A ⊎ (B × E) → P
joined_refused f g (inl a) = f a
joined_refused f g (inr (b, e)) = g b e
