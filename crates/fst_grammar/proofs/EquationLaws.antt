-- Which equation stands at the number of a non-terminal.
use Rattle.std.proofs.Common.{◌≡◌, ◌∙◌, ◌⊎◌, inl, inr, ⊎_elim, ◌+◌, refl, sym, ap, arith, ℕ, zero, suc, List, [], ◌∷◌, ◌++◌, length, Bool, true, false, Some, map}
use Rattle.std.specs.Prelude.{option_map, if◌then◌else◌, slice_get}
use Rattle.std.proofs.lemmas.List.{length-map}
use Rattle.std.proofs.lemmas.Option.{slice_get-map}
use Rattle.fst_types.specs.Tree.{Tree}
use Rattle.fst_types.specs.declared.label.Label.{Label}
use Rattle.fst_parts.specs.Labels.{is_name, names}
use Rattle.fst_parts.specs.Once.{Part, position}
use Rattle.fst_grammar.specs.Word.{Numbers}
use Rattle.fst_grammar.specs.Parts.{numbers_by, has_end}
use Rattle.fst_grammar.specs.Rules.{name_rules}
use Rattle.fst_grammar.specs.Equations.{Equation, own, part_equation, live_equations, dead_equations, equations_by}
use Rattle.fst_grammar.proofs.LetterLaws.{Known, located, name_known}
use Rattle.fst_grammar.proofs.SeekLaws.{Every, IsSeated, found_in}
use Rattle.fst_grammar.proofs.TableLaws.{Has, numbered}
use Rattle.fst_grammar.proofs.SizeLaws.{live_length}

-- reading lists

pub get_front : {A : Type 0} (xs ys : List A) (k : ℕ) (x : A) → slice_get xs k ≡ Some x → slice_get (xs ++ ys) k ≡ Some x
get_front [] ys k x e = absurd (cc e)
get_front (y ∷ xs) ys zero x e = e
get_front (y ∷ xs) ys (suc k) x e = get_front xs ys k x e

get_behind : {A : Type 0} (xs ys : List A) (k : ℕ) → slice_get (xs ++ ys) (length xs + k) ≡ slice_get ys k
get_behind [] ys k = let z : 0 + k ≡ k = omega arith in ap (slice_get ys) z
get_behind (x ∷ xs) ys k =
    let s : suc (length xs) + k ≡ suc (length xs + k) = omega arith in
    ap (slice_get (x ∷ (xs ++ ys))) s ∙ get_behind xs ys k

from_map : {A B : Type 0} (f : A → B) (xs : List A) (m : ℕ) (y : B) → slice_get (map f xs) m ≡ Some y →
    (x : A) × (slice_get xs m ≡ Some x) × (f x ≡ y)
from_map f [] m y g = absurd (cc g)
from_map f (x ∷ xs) zero y g = (x, refl, cc)
from_map f (x ∷ xs) (suc m) y g = from_map f xs m y g

from_append : {A : Type 0} (xs ys : List A) (m : ℕ) (x : A) → slice_get (xs ++ ys) m ≡ Some x →
    (slice_get xs m ≡ Some x) ⊎ ((k : ℕ) × (m ≡ length xs + k) × (slice_get ys k ≡ Some x))
from_append [] ys m x g = inr (m, omega arith, g)
from_append (y ∷ xs) ys zero x g = inl g
from_append (y ∷ xs) ys (suc m) x g =
    ⊎_elim (λ h. inl h) (λ h. inr (h.0, omega (arith, h.1), h.2)) (from_append xs ys m x g)

module _ (letters : List Label) (found : List Part) where
  abbrev numbers : Numbers
  numbers = numbers_by letters found

  abbrev name_at : Label → Equation
  name_at a = own (name_rules numbers letters a)

  abbrev part_at : Part → Equation
  part_at = part_equation numbers letters

  -- the equation of a message or variable, or of Close or Wait
  pub name_equation : (a : Label) → is_name a ≡ true → Known letters a →
      slice_get (equations_by letters found) (numbers.name a) ≡ Some (own (name_rules numbers letters a))
  name_equation a is k =
      get_front (live_equations letters found) (dead_equations letters) (numbers.name a) (name_at a)
      (get_front (map name_at (names letters)) (map part_at found) (numbers.name a) (name_at a)
      (slice_get-map name_at (names letters) (numbers.name a)
      ∙ ap (option_map name_at) (located (names letters) a (name_known letters a is k))))

  -- the equation of a part at its place
  pub node_equation : Every IsSeated found → (w : Tree) (a : ℕ) (x : Part) → (found_in w a ≡ Some x) × Has found w a →
      slice_get (equations_by letters found) (numbers.node w a) ≡ Some (part_equation numbers letters x)
  node_equation seated w a x h =
      get_front (live_equations letters found) (dead_equations letters) (numbers.node w a) (part_at x)
      (ap (λ m. slice_get (live_equations letters found) (m + position found w a)) (sym (length-map (names letters) name_at))
      ∙ get_behind (map name_at (names letters)) (map part_at found) (position found w a)
      ∙ slice_get-map part_at found (position found w a) ∙ ap (option_map part_at) (numbered found seated w a x h.1 h.0))

  -- that of the dead non-terminal
  pub dead_equation : has_end letters ≡ true → slice_get (equations_by letters found) numbers.dead ≡ Some (own [])
  dead_equation e =
      let z : numbers.dead ≡ numbers.dead + 0 = omega arith in
      ap (slice_get (equations_by letters found)) (z ∙ ap (λ m. m + 0) (sym (live_length letters found)))
      ∙ get_behind (live_equations letters found) (dead_equations letters) 0
      ∙ ap (λ c. slice_get {X = Equation} (if c then own [] ∷ [] else []) 0) e

  -- an equation is that of a name, that of a part or that of the dead non-terminal
  pub equation_cases : (m : ℕ) (q : Equation) → slice_get (equations_by letters found) m ≡ Some q →
      ((a : Label) × (slice_get (names letters) m ≡ Some a) × (own (name_rules numbers letters a) ≡ q)) ⊎
      (((k : ℕ) × (e : Part) × (m ≡ length (names letters) + k) × (slice_get found k ≡ Some e) ×
      (part_equation numbers letters e ≡ q)) ⊎ ((m ≡ numbers.dead) × (own [] ≡ q)))
  equation_cases m q g =
      ⊎_elim (λ h. ⊎_elim (λ l. inl (from_map name_at (names letters) m q l)) (λ l. inr (inl (part l)))
      (from_append (map name_at (names letters)) (map part_at found) m q h)) (λ h. inr (inr (dead h)))
      (from_append (live_equations letters found) (dead_equations letters) m q g)
    where
      part : (k : ℕ) × (m ≡ length (map name_at (names letters)) + k) × (slice_get (map part_at found) k ≡ Some q) →
          (k : ℕ) × (e : Part) × (m ≡ length (names letters) + k) × (slice_get found k ≡ Some e) ×
          (part_equation numbers letters e ≡ q)
      part (k, at, h) =
          let p = from_map part_at found k q h in
          (k, p.0, at ∙ ap (λ l. l + k) (length-map (names letters) name_at), p.1, p.2)

      alone : (c : Bool) (k : ℕ) → slice_get {X = Equation} (if c then own [] ∷ [] else []) k ≡ Some q → (k ≡ 0) × (own [] ≡ q)
      alone true zero h = (refl, cc)
      alone true (suc k) h = absurd (cc h)
      alone false k h = absurd (cc h)

      dead : (k : ℕ) × (m ≡ length (live_equations letters found) + k) × (slice_get (dead_equations letters) k ≡ Some q) →
          (m ≡ numbers.dead) × (own [] ≡ q)
      dead (k, at, h) =
          let last = alone (has_end letters) k h in
          let long : length (live_equations letters found) ≡ numbers.dead = live_length letters found in
          (omega (arith, last.0), last.1)
