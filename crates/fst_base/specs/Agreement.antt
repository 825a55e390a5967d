-- Residuals, traces and agreement, for whatever moves by labels in at most one way each.
use Rattle.std.specs.Prelude.{◌≤◌, ◌↔◌, ℕ, zero, suc, List, [], ◌∷◌, length, Option, Some, None, IsSome, option_and_then, ⊤}

-- what is left after a trace, if it can be performed
abbrev pub residual : {T A : Type 0} → (T → A → Option T) → T → List A → Option T
residual f x [] = Some x
residual f x (a ∷ w) = option_and_then (λ y. residual f y w) (f x a)

-- the trace can be performed
abbrev pub Performs : {T A : Type 0} → (T → A → Option T) → T → List A → Type 0
Performs f x w = IsSome (residual f x w)

-- both are there and related, or neither is there
abbrev pub BothOrNeither : {T U : Type 0} → (T → U → Type 0) → Option T → Option U → Type 0
BothOrNeither R None None = ⊤
BothOrNeither R None (Some y) = ⊥
BothOrNeither R (Some x) None = ⊥
BothOrNeither R (Some x) (Some y) = R x y

-- agreement to a depth: always at 0; one deeper, where the labels are the same and after each the successors agree
abbrev pub AgreeTo : {T U A : Type 0} → (T → A → Option T) → (U → A → Option U) → ℕ → T → U → Type 0
AgreeTo f g zero x y = ⊤
AgreeTo {A = A} f g (suc n) x y = (a : A) → BothOrNeither (AgreeTo f g n) (f x a) (g y a)

-- agreement to every depth, which is bisimilarity
abbrev pub Agree : {T U A : Type 0} → (T → A → Option T) → (U → A → Option U) → T → U → Type 0
Agree f g x y = (n : ℕ) → AgreeTo f g n x y

-- related things move by the same labels, and to related things: a bisimulation (Park, 1981), for whatever moves in at most one
-- way by each label
abbrev pub IsBisimulation : {T U A : Type 0} → (T → A → Option T) → (U → A → Option U) →
    (T → U → Type 0) → Type 0
IsBisimulation {T = T} {U = U} {A = A} f g R =
    (x : T) (y : U) → R x y → (a : A) → BothOrNeither R (f x a) (g y a)

-- the two perform the same traces of at most n labels
abbrev pub HaveSameTracesTo : {T U A : Type 0} → (T → A → Option T) →
    (U → A → Option U) → ℕ → T → U → Type 0
HaveSameTracesTo {A = A} f g n x y = (w : List A) → length w ≤ n → (Performs f x w ↔ Performs g y w)

-- the two perform the same traces
abbrev pub HaveSameTraces : {T U A : Type 0} → (T → A → Option T) →
    (U → A → Option U) → T → U → Type 0
HaveSameTraces {A = A} f g x y = (w : List A) → Performs f x w ↔ Performs g y w
