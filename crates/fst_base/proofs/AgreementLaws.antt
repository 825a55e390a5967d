-- Agreement is an equivalence, and agreement to a depth is agreement to each depth before it.
use Rattle.std.proofs.Common.{ℕ, zero, suc, Option, Some, None}
use Rattle.std.specs.Prelude.{IfSome}
use Rattle.fst_base.specs.Agreement.{Agree, AgreeTo, BothOrNeither, IsBisimulation}

-- what is related to itself where it is there
pub same_related : {T : Type 0} (R : T → T → Type 0) → ((x : T) → R x x) → (o : Option T) → BothOrNeither R o o
same_related R h None = tt
same_related R h (Some x) = h x

-- all agrees with itself
pub agrees_itself : {T A : Type 0} (f : T → A → Option T) (n : ℕ) (x : T) → AgreeTo f f n x x
agrees_itself f zero x = tt
agrees_itself f (suc n) x = λ a. same_related (AgreeTo f f n) (agrees_itself f n) (f x a)

-- the other way round
other_way : {T U : Type 0} (R : T → U → Type 0) (S : U → T → Type 0) → ((x : T) (y : U) → R x y → S y x) →
    (o : Option T) (p : Option U) → BothOrNeither R o p → BothOrNeither S p o
other_way R S h None None b = tt
other_way R S h None (Some y) b = absurd b
other_way R S h (Some x) None b = absurd b
other_way R S h (Some x) (Some y) b = h x y b

-- agreement goes both ways
pub agrees_back : {T U A : Type 0} (f : T → A → Option T) (g : U → A → Option U) (n : ℕ) (x : T) (y : U) → AgreeTo f g n x y →
    AgreeTo g f n y x
agrees_back f g zero x y h = tt
agrees_back f g (suc n) x y h = λ a. other_way (AgreeTo f g n) (AgreeTo g f n) (agrees_back f g n) (f x a) (g y a) (h a)

-- one way behind another
joined_ways : {T U V : Type 0} (R : T → U → Type 0) (S : U → V → Type 0) (Q : T → V → Type 0) →
    ((x : T) (y : U) (z : V) → R x y → S y z → Q x z) →
    (o : Option T) (p : Option U) (q : Option V) → BothOrNeither R o p → BothOrNeither S p q → BothOrNeither Q o q
joined_ways R S Q h None None None b c = tt
joined_ways R S Q h None None (Some z) b c = absurd c
joined_ways R S Q h None (Some y) q b c = absurd b
joined_ways R S Q h (Some x) None q b c = absurd b
joined_ways R S Q h (Some x) (Some y) None b c = absurd c
joined_ways R S Q h (Some x) (Some y) (Some z) b c = h x y z b c

-- agreement goes on
pub agrees_through : {T U V A : Type 0} (f : T → A → Option T) (g : U → A → Option U) (h : V → A → Option V) (n : ℕ) (x : T)
    (y : U) (z : V) → AgreeTo f g n x y → AgreeTo g h n y z → AgreeTo f h n x z
agrees_through f g h zero x y z b c = tt
agrees_through f g h (suc n) x y z b c = λ a.
    joined_ways (AgreeTo f g n) (AgreeTo g h n) (AgreeTo f h n) (agrees_through f g h n) (f x a) (g y a) (h z a) (b a) (c a)

-- what is related by less
weaker : {T U : Type 0} (R S : T → U → Type 0) → ((x : T) (y : U) → R x y → S x y) →
    (o : Option T) (p : Option U) → BothOrNeither R o p → BothOrNeither S o p
weaker R S h None None b = tt
weaker R S h None (Some y) b = absurd b
weaker R S h (Some x) None b = absurd b
weaker R S h (Some x) (Some y) b = h x y b

-- what agrees to a depth agrees to the one before
pub agrees_less : {T U A : Type 0} (f : T → A → Option T) (g : U → A → Option U) (n : ℕ) (x : T) (y : U) →
    AgreeTo f g (suc n) x y → AgreeTo f g n x y
agrees_less f g zero x y h = tt
agrees_less f g (suc n) x y h = λ a. weaker (AgreeTo f g (suc n)) (AgreeTo f g n) (agrees_less f g n) (f x a) (g y a) (h a)

-- what is related where both are as P and Q say
pub related_some : {T U : Type 0} (R S : T → U → Type 0) (P : T → Type 0) (Q : U → Type 0) →
    ((x : T) (y : U) → P x → Q y → R x y → S x y) →
    (o : Option T) (p : Option U) → IfSome o P → IfSome p Q → BothOrNeither R o p → BothOrNeither S o p
related_some R S P Q h None None i j b = tt
related_some R S P Q h None (Some y) i j b = absurd b
related_some R S P Q h (Some x) None i j b = absurd b
related_some R S P Q h (Some x) (Some y) i j b = h x y i j b

-- what is related at every depth
at_every_depth : {T U A : Type 0} (f : T → A → Option T) (g : U → A → Option U) (o : Option T) (p : Option U) →
    ((n : ℕ) → BothOrNeither (AgreeTo f g n) o p) → BothOrNeither (Agree f g) o p
at_every_depth f g None None h = tt
at_every_depth f g None (Some y) h = absurd (h zero)
at_every_depth f g (Some x) None h = absurd (h zero)
at_every_depth f g (Some x) (Some y) h = h

-- agreement is a bisimulation
pub agree_is_one : {T U A : Type 0} (f : T → A → Option T) (g : U → A → Option U) → IsBisimulation f g (Agree f g)
agree_is_one f g = λ x y h a. at_every_depth f g (f x a) (g y a) (λ n. h (suc n) a)

-- and each bisimulation is within it
pub bisimilar_agree : {T U A : Type 0} (f : T → A → Option T) (g : U → A → Option U) (R : T → U → Type 0) →
    IsBisimulation f g R → (n : ℕ) (x : T) (y : U) → R x y → AgreeTo f g n x y
bisimilar_agree f g R b zero x y r = tt
bisimilar_agree f g R b (suc n) x y r = λ a. weaker R (AgreeTo f g n) (bisimilar_agree f g R b n) (f x a) (g y a) (b x y r a)
