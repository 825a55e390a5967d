-- What a rewrite makes of a word, told by the parts of the word that stay.
use Rattle.std.proofs.Common.{◌≡◌, ◌↔◌, ℕ, ◌+◌, ◌<◌, List, [], ◌∷◌, ◌++◌, length, take, drop, add-one, append_assoc, refl, sym, ◌∙◌, ap, arith, Some, None, Bool, true, false, ◌&&◌, ◌==◌, nat_lt, nat_eq, cond, zero, suc}
use Rattle.std.specs.Prelude.{option_and_then, slice_get, slice_index_or, nat_le}
use Rattle.std.specs.List.{starts_with}
use Rattle.std.specs.Str.{bytes_eq}
use Rattle.std.proofs.lemmas.List.{append_cancel_left, take-append-drop, take_all}
use Rattle.std.proofs.lemmas.Slice.Eq.{starts_is}
use Rattle.std.proofs.lemmas.Bool.Decides.{Decides-eqb}
use Rattle.fst_base.proofs.Bools.{and_parts, is_less, same_number}
use Rattle.fst_words.specs.Marks.{is_marked}
use Rattle.fst_basis.specs.declared.proof.Pair.{Pair}
use Rattle.fst_basis.specs.declared.proof.Rewrite.{Rewrite}
use Rattle.fst_basis.specs.declared.proof.Rewrite.TheVariants.{Forth, Back, Cut, Grow}
use Rattle.fst_basis.specs.Rewrites.{replaced, is_marked_at, rewritten}

-- u and v are the same but for x and y, each at one place
pub record AreExchanged (x y u v : List ℕ) : Type 0 where
  pub front : List ℕ
  pub tail : List ℕ
  pub from : u ≡ front ++ (x ++ tail)
  pub to : v ≡ front ++ (y ++ tail)

-- u and v are the same up to a marked non-terminal
pub record AreMarkedAlike (marks : List Bool) (u v : List ℕ) : Type 0 where
  pub front : List ℕ
  pub number : ℕ
  pub marked : is_marked marks number ≡ true
  pub left : List ℕ
  pub right : List ℕ
  pub from : u ≡ front ++ (number ∷ left)
  pub to : v ≡ front ++ (number ∷ right)

-- what a rewrite makes of a word
abbrev pub Makes : List Bool → List Pair → Rewrite → List ℕ → List ℕ → Type 0
Makes marks basis (Forth at pair) u v = (b : Pair) × (slice_get basis pair ≡ Some b) × AreExchanged b.left b.right u v
Makes marks basis (Back at pair) u v = (b : Pair) × (slice_get basis pair ≡ Some b) × AreExchanged b.right b.left u v
Makes marks basis (Cut at tail) u v = AreMarkedAlike marks u v
Makes marks basis (Grow at tail) u v = AreMarkedAlike marks u v

some_chosen : (b : Bool) (x y : List ℕ) → cond b (Some x) None ≡ Some y → (b ≡ true) × (x ≡ y)
some_chosen true x y h = (refl, (let e : x ≡ y = cc in e))
some_chosen false x y h = cc

exchanged : (at : ℕ) (x y u v : List ℕ) → replaced at x y u ≡ Some v → AreExchanged x y u v
exchanged at x y u v h =
    let c = some_chosen (nat_le at (length u) && starts_with nat_eq (drop at u) x)
    (take at u ++ (y ++ drop (length x) (drop at u))) v h in
    let b = and_parts (nat_le at (length u)) (starts_with nat_eq (drop at u) x) c.0 in
    let s = (starts_is Decides-eqb (drop at u) x (starts_with nat_eq (drop at u) x) refl).0 b.1 in
    record {
      front = take at u;
      tail = drop (length x) (drop at u);
      from = sym (take-append-drop at u) ∙ ap (λ (z : List ℕ). take at u ++ z) s;
      to = sym c.1;
    }

-- a list at a place with an element
pub parted_at : (u : List ℕ) (at : ℕ) → at < length u →
    (u ≡ take at u ++ (slice_index_or u at 0 ∷ drop (suc at) u)) × (take (suc at) u ≡ take at u ++ (slice_index_or u at 0 ∷ []))
parted_at [] at l = absurd (omega arith)
parted_at (x ∷ u) zero l = (refl, refl)
parted_at (x ∷ u) (suc n) l = let h = parted_at u n (omega arith) in
    (ap (λ (z : List ℕ). x ∷ z) h.0, ap (λ (z : List ℕ). x ∷ z) h.1)

pub rewritten_makes : (marks : List Bool) (basis : List Pair) (r : Rewrite) (u v : List ℕ) → rewritten marks basis r u ≡ Some v →
    Makes marks basis r u v
rewritten_makes marks basis (Forth at j) u v h =
    (elim (slice_get basis j) as (λ o. slice_get basis j ≡ o → option_and_then (λ b. replaced at b.left b.right u) o ≡ Some v →
    Makes marks basis (Forth at j) u v) [
      | None ↦ λ e h. cc
      | Some b ↦ λ e h. (b, e, exchanged at b.left b.right u v h)
    ]) refl h
rewritten_makes marks basis (Back at j) u v h =
    (elim (slice_get basis j) as (λ o. slice_get basis j ≡ o → option_and_then (λ b. replaced at b.right b.left u) o ≡ Some v →
    Makes marks basis (Back at j) u v) [
      | None ↦ λ e h. cc
      | Some b ↦ λ e h. (b, e, exchanged at b.right b.left u v h)
    ]) refl h
rewritten_makes marks basis (Cut at tail) u v h =
    let c = some_chosen (is_marked_at marks u at && bytes_eq (drop (at + 1) u) tail) (take (at + 1) u) v h in
    let b = and_parts (is_marked_at marks u at) (bytes_eq (drop (at + 1) u) tail) c.0 in
    let k = and_parts (nat_lt at (length u)) (is_marked marks (slice_index_or u at 0)) b.0 in
    let p = parted_at u at (is_less at (length u) k.0) in
    let r : v ≡ take (suc at) u = (let f : v ≡ take (at + 1) u = sym c.1 in rw add-one at f) in
    record {
      front = take at u;
      number = slice_index_or u at 0;
      marked = k.1;
      left = drop (suc at) u;
      right = [];
      from = p.0;
      to = r ∙ p.1;
    }
rewritten_makes marks basis (Grow at tail) u v h =
    let c = some_chosen (is_marked_at marks u at && (length u == at + 1)) (u ++ tail) v h in
    let b = and_parts (is_marked_at marks u at) (length u == at + 1) c.0 in
    let k = and_parts (nat_lt at (length u)) (is_marked marks (slice_index_or u at 0)) b.0 in
    let p = parted_at u at (is_less at (length u) k.0) in
    let len = same_number (length u) (at + 1) b.1 in
    let all : take (suc at) u ≡ u = take_all (suc at) u (omega arith) in
    let is : u ≡ take at u ++ (slice_index_or u at 0 ∷ []) = sym all ∙ p.1 in
    record {
      front = take at u;
      number = slice_index_or u at 0;
      marked = k.1;
      left = [];
      right = tail;
      from = is;
      to = sym c.1 ∙ ap (λ (w : List ℕ). w ++ tail) is ∙ append_assoc (take at u) (slice_index_or u at 0 ∷ []) tail;
    }

-- a word that begins with x is x with y behind it exactly where y is what is left
pub begun : (w x y : List ℕ) → take (length x) w ≡ x → (drop (length x) w ≡ y) ↔ (w ≡ x ++ y)
begun w x y e =
    let is : w ≡ x ++ drop (length x) w = sym (take-append-drop (length x) w) ∙ ap (λ (z : List ℕ). z ++ drop (length x) w) e in
    ((λ h. is ∙ ap (λ (z : List ℕ). x ++ z) h), (λ h. append_cancel_left x (drop (length x) w) y (sym is ∙ h)))
