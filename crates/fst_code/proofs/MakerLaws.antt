-- Constructors with their places, put one after the other.
use Rattle.std.proofs.Common.{◌≡◌, ◌∙◌, ◌+◌, ◌<◌, ◌≤◌, refl, sym, ap, arith, ℕ, List, length, inl, inr, Bool, true, false, Option, Some, option_map}
use Rattle.std.specs.Prelude.{if◌then◌else◌, slice_get}
use Rattle.std.specs.Map.{lookup, KeepsOthers}
use Rattle.std.specs.Str.{bytes_eq}
use Rattle.std.specs.declared.vec.Vec.{Vec}
use Rattle.std.specs.declared.alloc.Global.{Global}
use Rattle.std.proofs.lemmas.Bool.{cases_eq, false≢true}
use Rattle.std.proofs.lemmas.Option.{same_Some, slice_get_within}
use Rattle.std.proofs.lemmas.Slice.Eq.{bytes_eq-Decides}
use Rattle.fst_base.proofs.Bools.{same_text}
use Rattle.fst_types.specs.declared.family.Family.{Family}
use Rattle.fst_types.specs.declared.family.Maker.{Maker}
use Rattle.fst_terms.specs.InRange.{maker_of}
use Rattle.fst_machine.specs.Machine.{name_of}
use Rattle.fst_machine.specs.Standing.{DistinctMakers}
use Rattle.fst_code.specs.declared.makers.MakerPlace.{MakerPlace}
use Rattle.fst_code.specs.Makers.{ArePlaced, ArePut, AreApart, Entries, found, is, place_in}

-- what is found of a name once one has v for its place, which a test for that one finds
module _ (eq : Vec ℕ Global → Vec ℕ Global → Bool) (eq_says : (a b : Vec ℕ Global) → eq a b ≡ bytes_eq a.items b.items)
    (test : Vec ℕ Global → Bool) (l : List ℕ) (says : (k : Vec ℕ Global) → test k ≡ bytes_eq l k.items) where
  pub found_after : (old new : Entries) (v : Option MakerPlace) → lookup test new ≡ v → KeepsOthers eq test old new →
      (x : List ℕ) → found new x ≡ (if bytes_eq x l then v else found old x)
  unfolding KeepsOthers
  found_after old new v at_test others x = by (bytes_eq x l) refl
    where
      by : (c : Bool) → bytes_eq x l ≡ c → found new x ≡ (if c then v else found old x)
      by true e =
          let same = same_text x l e in
          (λ i. lookup (is (same i)) new) ∙ (λ i. lookup (λ k. sym (says k) i) new) ∙ at_test
      by false e = others (is x)
          (λ a b s. let same = same_text x a.items s in ap (λ z. bytes_eq z b.items) same ∙ sym (eq_says a b))
          (λ k s. let same = same_text l k.items (sym (says k) ∙ s) in ap (bytes_eq x) (sym same) ∙ e)

-- the first i of these constructors have got their places
pub record PutSoFar (makers : List Maker) (i : ℕ) (old new : Entries) : Type 0 where
  pub own : AreApart makers → (o : ℕ) (m : Maker) → o < i → slice_get makers o ≡ Some m →
      found new m.name ≡ Some (place_in makers o)
  pub others : (x : List ℕ) → ((o : ℕ) (m : Maker) → slice_get makers o ≡ Some m → m.name ≡ x → ⊥) → found new x ≡ found old x

pub put_none : (makers : List Maker) (old : Entries) → PutSoFar makers 0 old old
put_none makers old = record { own = λ a o m lt at. absurd (omega (arith, lt)); others = λ x h. refl }

pub put_one : (makers : List Maker) (i : ℕ) (b : Maker) (old mid new : Entries) → slice_get makers i ≡ Some b →
    PutSoFar makers i old mid →
    ((x : List ℕ) → found new x ≡ (if bytes_eq x b.name then Some (place_in makers i) else found mid x)) →
    PutSoFar makers (i + 1) old new
put_one makers i b old mid new here s put = record {
  own = mine;
  others =
      λ x h. put x ∙ other x (bytes_eq x b.name) refl (h i b here) ∙ s.others x h;
}
  where
    other : (x : List ℕ) (z : Bool) → bytes_eq x b.name ≡ z → (b.name ≡ x → ⊥) →
        (if z then Some (place_in makers i) else found mid x) ≡ found mid x
    other x true e h = absurd (h (sym (same_text x b.name e)))
    other x false e h = refl

    mine : AreApart makers → (o : ℕ) (m : Maker) → o < i + 1 → slice_get makers o ≡ Some m →
        found new m.name ≡ Some (place_in makers o)
    mine apart o m lt at = put m.name ∙ by (bytes_eq m.name b.name) refl
      where
        by : (z : Bool) → bytes_eq m.name b.name ≡ z →
            (if z then Some (place_in makers i) else found mid m.name) ≡ Some (place_in makers o)
        by true e = ap (λ k. Some (place_in makers k)) (apart i o b m here at (sym (same_text m.name b.name e)))
        by false e = elim (cases_eq o i) [
          | inl same ↦
              let one : m ≡ b = same_Some m b (sym at ∙ ap (slice_get makers) same ∙ here) in
              absurd (false≢true (sym e ∙ (bytes_eq-Decides m.name b.name).1 (ap (λ (k : Maker). k.name) one)))
          | inr other ↦ let low : o < i = omega arith in s.own apart o m low at
        ]

pub put_all : (makers : List Maker) (i : ℕ) (old new : Entries) → PutSoFar makers i old new → length makers ≤ i →
    ArePut makers old new
put_all makers i old new s past = record {
  own = λ apart o m at. let low : o < i = omega (arith, slice_get_within makers o m at, past) in s.own apart o m low at;
  others = s.others;
}

-- ---- data types one after the other

-- the name of a constructor that is there
pub named_there : (fs : List Family) (n o : ℕ) (f : Family) (m : Maker) → slice_get fs n ≡ Some f →
    slice_get f.makers.items o ≡ Some m → name_of fs n o ≡ Some m.name
named_there fs n o f m here at = ap (λ z. option_map (λ (k : Maker). k.name) (maker_of z o)) here
    ∙ ap (option_map (λ (k : Maker). k.name)) at

pub apart_in : (fs : List Family) (n : ℕ) (f : Family) → DistinctMakers fs → slice_get fs n ≡ Some f → AreApart f.makers.items
apart_in fs n f d here = λ o p m q at to e. (d n o n p m.name (named_there fs n o f m here at)
    (named_there fs n p f q here to ∙ ap Some (sym e))).1

-- the constructors of the first i data types have got their places
abbrev pub PlacedSoFar : List Family → ℕ → Entries → Type 0
PlacedSoFar fs i entries =
    (n o : ℕ) (f : Family) (m : Maker) → n < i → slice_get fs n ≡ Some f → slice_get f.makers.items o ≡ Some m →
    found entries m.name ≡ Some (place_in f.makers.items o)

pub placed_one : (fs : List Family) (i : ℕ) (g : Family) (old new : Entries) → DistinctMakers fs → slice_get fs i ≡ Some g →
    PlacedSoFar fs i old → ArePut g.makers.items old new →
    PlacedSoFar fs (i + 1) new
placed_one fs i g old new d here s put n o f m lt there at = elim (cases_eq n i) [
  | inl same ↦
      let one : f ≡ g = same_Some f g (sym there ∙ ap (slice_get fs) same ∙ here) in
      put.own (apart_in fs i g d here) o m (ap (λ (k : Family). slice_get k.makers.items o) (sym one) ∙ at)
      ∙ ap (λ (k : Family). Some (place_in k.makers.items o)) (sym one)
  | inr other ↦
      let low : n < i = omega arith in
      put.others m.name (λ p q to e. other (d n o i p m.name (named_there fs n o f m there at)
      (named_there fs i p g q here to ∙ ap Some e)).0)
      ∙ s n o f m low there at
]

pub placed_all : (fs : List Family) (i : ℕ) (entries : Entries) → DistinctMakers fs → PlacedSoFar fs i entries → length fs ≤ i →
    ArePlaced fs entries
placed_all fs i entries d s past = record {
  distinct = d;
  placed = λ n o f m here at. let low : n < i = omega (arith, slice_get_within fs n f here, past) in s n o f m low here at;
}
