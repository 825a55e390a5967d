-- Signs give the same for values of code as for those of terms, and the same of them is sent.
use Rattle.std.proofs.Common.{◌≡◌, ◌⊎◌, ℕ, ℤ, zero, suc, Bool, Option, Some, None, option_map, option_and_then, List, ◌∷◌, refl, sym, ap, ap₂, ◌∙◌, subst, inl, inr}
use Rattle.std.proofs.lemmas.Option.{none-some, same_Some}
use Rattle.std.specs.declared.cmp.Ordering.{Ordering}
use Rattle.std.specs.Int.{w64, int_wrapping_add, int_wrapping_sub, int_wrapping_mul}
use Rattle.std.specs.Ordering.{int_cmp, nat_cmp, is_eq, is_ne, is_lt, is_le, is_gt, is_ge}
use Rattle.fst_terms.specs.declared.term.Op.{Op}
use Rattle.fst_terms.specs.declared.term.Op.TheVariants.{Add, Subtract, Multiply, Equal, Unequal, Less, AtMost, Greater, AtLeast, And, Or}
use Rattle.fst_value.specs.ValueTree as tree
use Rattle.fst_value.specs.ValueTree.{ValueTree}
use Rattle.fst_machine.specs.declared.code.Instr.TheVariants as instr
use Rattle.fst_machine.specs.Values as value
use Rattle.fst_machine.specs.Values.{Value, int_in, bool_in, char_in, sent, both, either, computed, decided, compared, tested, operated}
use Rattle.fst_machine.specs.Machine.{Frame, stuck, on, resume}
use Rattle.fst_machine.specs.Code.{Compiled, At}
use Rattle.fst_machine.specs.Spots.{Slots, Call, Spot, scalar, of_scalar, with_value}
use Rattle.fst_machine.specs.Standing.{Means, StandsFor}
use Rattle.fst_machine.proofs.Goods.{Takes}
use Rattle.fst_machine.proofs.Steps.{spot, stepped}

-- no sign takes the value, and it isn't sent
pub record IsOpaque (v : Value) : Type 0 where
  pub no_int : int_in v ≡ None
  pub no_bool : bool_in v ≡ None
  pub no_char : char_in v ≡ None
  pub no_order : (w : Value) → compared v w ≡ None
  pub not_sent : sent v ≡ None

opaque_left : (o : Op) (v w : Value) → IsOpaque v → operated o v w ≡ None
opaque_left o v w h = go o
  where
    no_number : (f : ℤ → ℤ → ℤ) → computed f v w ≡ None
    no_number f = ap (λ z. option_and_then (λ m. option_map (λ n. value.int (f m n)) (int_in w)) z) h.no_int

    no_truth : (f : Bool → Bool → Bool) → decided f v w ≡ None
    no_truth f = ap (λ z. option_and_then (λ a. option_map (λ b. value.bool (f a b)) (bool_in w)) z) h.no_bool

    no_test : (f : Ordering → Bool) → tested f v w ≡ None
    no_test f = ap (λ z. option_map (λ o. value.bool (f o)) z) (h.no_order w)

    go : (p : Op) → operated p v w ≡ None
    go Add = no_number (int_wrapping_add w64)
    go Subtract = no_number (int_wrapping_sub w64)
    go Multiply = no_number (int_wrapping_mul w64)
    go Equal = no_test is_eq
    go Unequal = no_test is_ne
    go Less = no_test is_lt
    go AtMost = no_test is_le
    go Greater = no_test is_gt
    go AtLeast = no_test is_ge
    go And = no_truth both
    go Or = no_truth either

no_order_right : (v w : Value) → IsOpaque w → compared v w ≡ None
no_order_right (value.int m) w h = ap (λ z. option_map (int_cmp m) z) h.no_int
no_order_right (value.char m) w h = ap (λ z. option_map (nat_cmp m) z) h.no_char
no_order_right (value.bool b) w h = refl
no_order_right value.unit w h = refl
no_order_right (value.pair x y) w h = refl
no_order_right (value.made n o vs) w h = refl
no_order_right (value.function e env) w h = refl
no_order_right (value.end x) w h = refl

none_then : {A B : Type 0} (o : Option A) → option_and_then {T = A} {U = B} (λ a. None) o ≡ None
none_then None = refl
none_then (Some a) = refl

opaque_right : (o : Op) (v w : Value) → IsOpaque w → operated o v w ≡ None
opaque_right o v w h = go o
  where
    no_number : (f : ℤ → ℤ → ℤ) → computed f v w ≡ None
    no_number f = ap (λ z. option_and_then (λ m. option_map (λ n. value.int (f m n)) z) (int_in v)) h.no_int
        ∙ none_then (int_in v)

    no_truth : (f : Bool → Bool → Bool) → decided f v w ≡ None
    no_truth f = ap (λ z. option_and_then (λ a. option_map (λ b. value.bool (f a b)) z) (bool_in v)) h.no_bool
        ∙ none_then (bool_in v)

    no_test : (f : Ordering → Bool) → tested f v w ≡ None
    no_test f = ap (λ z. option_map (λ o. value.bool (f o)) z) (no_order_right v w h)

    go : (p : Op) → operated p v w ≡ None
    go Add = no_number (int_wrapping_add w64)
    go Subtract = no_number (int_wrapping_sub w64)
    go Multiply = no_number (int_wrapping_mul w64)
    go Equal = no_test is_eq
    go Unequal = no_test is_ne
    go Less = no_test is_lt
    go AtMost = no_test is_le
    go Greater = no_test is_gt
    go AtLeast = no_test is_ge
    go And = no_truth both
    go Or = no_truth either

opaque_pair : (v w : Value) → IsOpaque (value.pair v w)
opaque_pair v w = record { no_int = refl; no_bool = refl; no_char = refl; no_order = λ u. refl; not_sent = refl }

opaque_as : (w v : Value) → v ≡ w → IsOpaque w → IsOpaque v
opaque_as w v e h = subst IsOpaque (sym e) h

module _ (c : Compiled) where
  -- a value of code is the same, or neither is taken by a sign or sent
  pub scalar_kind : (x : ValueTree) (v : Value) → Means c x v → (scalar x ≡ v) ⊎ (IsOpaque (scalar x) × IsOpaque v)
  scalar_kind (tree.int n) v m = inl (sym m)
  scalar_kind (tree.bool b) v m = inl (sym m)
  scalar_kind (tree.char n) v m = inl (sym m)
  scalar_kind tree.unit v m = inl (sym m)
  scalar_kind (tree.pair x y) v m = inr (
    opaque_pair value.unit value.unit,
    opaque_as (value.pair m.0 m.1) v m.2 (opaque_pair m.0 m.1),
  )
  scalar_kind (tree.make n o xs) v m =
      inr (
        opaque_pair value.unit value.unit,
        opaque_as (value.made n o m.0) v m.1
            (record { no_int = refl; no_bool = refl; no_char = refl; no_order = λ u. refl; not_sent = refl }),
      )
  scalar_kind (tree.function l xs) v m =
      inr (
        opaque_pair value.unit value.unit,
        opaque_as (value.function m.0 m.1) v m.3
            (record { no_int = refl; no_bool = refl; no_char = refl; no_order = λ u. refl; not_sent = refl }),
      )
  scalar_kind (tree.end x) v m =
      inr (
        opaque_pair value.unit value.unit,
        opaque_as (value.end x) v m
            (record { no_int = refl; no_bool = refl; no_char = refl; no_order = λ u. refl; not_sent = refl }),
      )

  -- the same is sent
  pub sent_alike : (x : ValueTree) (v : Value) → Means c x v → sent (scalar x) ≡ sent v
  sent_alike x v m = go (scalar_kind x v m)
    where
      go : (scalar x ≡ v) ⊎ (IsOpaque (scalar x) × IsOpaque v) → sent (scalar x) ≡ sent v
      go (inl e) = ap sent e
      go (inr h) = h.0.not_sent ∙ sym h.1.not_sent

  -- a sign gives the same
  pub operated_alike : (o : Op) (x y : ValueTree) (v w : Value) → Means c x v → Means c y w →
      operated o (scalar x) (scalar y) ≡ operated o v w
  operated_alike o x y v w mx my = go (scalar_kind x v mx) (scalar_kind y w my)
    where
      go : (scalar x ≡ v) ⊎ (IsOpaque (scalar x) × IsOpaque v) → (scalar y ≡ w) ⊎
          (IsOpaque (scalar y) × IsOpaque w) → operated o (scalar x) (scalar y) ≡ operated o v w
      go (inl e) (inl g) = ap₂ (λ a b. operated o a b) e g
      go (inl e) (inr g) = opaque_right o (scalar x) (scalar y) g.0 ∙ sym (opaque_right o v w g.1)
      go (inr h) g = opaque_left o (scalar x) (scalar y) h.0 ∙ sym (opaque_left o v w h.1)

  mapped : {A : Type 0} (g : A → Value) (o : Option A) (z : Value) →
      ((a : A) → Means c (of_scalar (g a)) (g a)) → option_map g o ≡ Some z → Means c (of_scalar z) z
  mapped g None z h e = absurd (none-some z e)
  mapped g (Some a) z h e = subst (λ y. Means c (of_scalar y) y) (same_Some (g a) z e) (h a)

  mapped_then : {A : Type 0} (g : A → A → Value) (o p : Option A) (z : Value) →
      ((a b : A) → Means c (of_scalar (g a b)) (g a b)) →
      option_and_then (λ a. option_map (g a) p) o ≡ Some z → Means c (of_scalar z) z
  mapped_then g None p z h e = absurd (none-some z e)
  mapped_then g (Some a) p z h e = mapped (g a) p z (h a) e

  -- what a sign gives is of a base type
  pub operated_means : (o : Op) (v w z : Value) → operated o v w ≡ Some z → Means c (of_scalar z) z
  operated_means o v w z h = go o h
    where
      number : (f : ℤ → ℤ → ℤ) → computed f v w ≡ Some z → Means c (of_scalar z) z
      number f e = mapped_then (λ m n. value.int (f m n)) (int_in v) (int_in w) z (λ a b. refl) e

      truth : (f : Bool → Bool → Bool) → decided f v w ≡ Some z → Means c (of_scalar z) z
      truth f e = mapped_then (λ a b. value.bool (f a b)) (bool_in v) (bool_in w) z (λ a b. refl) e

      test : (f : Ordering → Bool) → tested f v w ≡ Some z → Means c (of_scalar z) z
      test f e = mapped (λ o. value.bool (f o)) (compared v w) z (λ a. refl) e

      go : (p : Op) → operated p v w ≡ Some z → Means c (of_scalar z) z
      go Add e = number (int_wrapping_add w64) e
      go Subtract e = number (int_wrapping_sub w64) e
      go Multiply e = number (int_wrapping_mul w64) e
      go Equal e = test is_eq e
      go Unequal e = test is_ne e
      go Less e = test is_lt e
      go AtMost e = test is_le e
      go Greater e = test is_gt e
      go AtLeast e = test is_ge e
      go And e = truth both e
      go Or e = truth either e

-- nothing is claimed where the task is stuck
pub nothing : (n : ℕ) (c : Compiled) (s : Spot) → StandsFor n c s stuck
nothing zero c s = tt
nothing (suc n) c s = inl refl

-- a sign with both operands
pub operate_stands : (n : ℕ) (c : Compiled) (o : Op) (i j : ℕ) (slots : Slots) (ops : List ValueTree) (calls : List Call)
    (fs : List Frame) (x y : ValueTree) (v w : Value) →
    At c i (instr.Operate o) j → Means c x v → Means c y w → Takes n c j slots ops calls fs →
    StandsFor n c (spot i slots (y ∷ x ∷ ops) calls) (on (operated o v w) (resume c.families fs))
operate_stands n c o i j slots ops calls fs x y v w h mx my k = go (operated o v w) refl
  where
    go : (r : Option Value) → operated o v w ≡ r → StandsFor n c (spot i slots (y ∷ x ∷ ops) calls) (on r (resume c.families fs))
    go None e = nothing n c (spot i slots (y ∷ x ∷ ops) calls)
    go (Some z) e =
        stepped n c i (instr.Operate o) j slots (y ∷ x ∷ ops) calls (spot j slots (of_scalar z ∷ ops) calls)
        (resume c.families fs z) h
        (ap (λ r. with_value j (option_map of_scalar r) ops (spot i slots (y ∷ x ∷ ops) calls))
        (operated_alike c o x y v w mx my ∙ e))
        (k (of_scalar z) z (operated_means c o v w z e))
