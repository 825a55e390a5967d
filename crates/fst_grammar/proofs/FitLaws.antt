-- What is known of a part at its place in two types, and so of each part within it.
use Rattle.std.proofs.Common.{◌≡◌, ◌+◌, ◌≤◌, refl, subst, arith, ℕ, List, [], ◌∷◌, length, Bool, true, false, Some}
use Rattle.std.specs.Prelude.{if◌then◌else◌, ⊤}
use Rattle.fst_types.specs.Tree.{Tree, skip, send, receive, close, wait, select, offer, seq, rec, back, var, plain, arrow, pair, named, Branches, none, branch}
use Rattle.fst_types.specs.Size.{nodes, nodes_all}
use Rattle.fst_types.specs.Order.{IsOrdered, AllOrdered}
use Rattle.fst_types.specs.Scoped.{IsScoped, AllScoped}
use Rattle.fst_types.specs.declared.label.Label.{Label}
use Rattle.fst_types.specs.declared.label.Label.TheVariants.{Send, Receive, Select, Offer, Close, Wait, Var}
use Rattle.fst_kinds.specs.Contractive.{IsContractive, AllContractive}
use Rattle.fst_lts.specs.Step.{terminated}
use Rattle.fst_parts.specs.Place.{Place, is_closed, place_past, own_place, own_place_if, body_place}
use Rattle.fst_parts.specs.Once.{Part}
use Rattle.fst_grammar.specs.Parts.{parts, parts_all}
use Rattle.fst_base.specs.Limits.{most_nodes}
use Rattle.fst_grammar.proofs.ClosingLaws.{scoped_if_closed}
use Rattle.fst_grammar.proofs.LetterLaws.{Known}
use Rattle.fst_grammar.proofs.SeekLaws.{found_in, Sees, SeesAll, sees_first, sees_second, sees_body, sees_select, sees_offer, sees_branch, sees_others, sees_entered, seated_select, seated_offer, seated_rec, Every, every_front, every_behind}
use Rattle.fst_grammar.proofs.TableLaws.{Has, Holds}

-- each label of the type is among the letters, and it is no type of values
abbrev mutual
  pub AreKnown : List Label → Tree → Type 0
  AreKnown letters skip = ⊤
  AreKnown letters (send b) = Known letters (Send b)
  AreKnown letters (receive b) = Known letters (Receive b)
  AreKnown letters close = Known letters Close
  AreKnown letters wait = Known letters Wait
  AreKnown letters (select cs) = AllKnown letters Select cs
  AreKnown letters (offer cs) = AllKnown letters Offer cs
  AreKnown letters (seq s r) = AreKnown letters s × AreKnown letters r
  AreKnown letters (rec s) = AreKnown letters s
  AreKnown letters (back k) = ⊤
  AreKnown letters (var k) = Known letters (Var k)
  AreKnown letters (plain b) = ⊥
  AreKnown letters (arrow u s r) = ⊥
  AreKnown letters (pair s r) = ⊥
  AreKnown letters (named k) = ⊥

  pub AllKnown : List Label → (List ℕ → Label) → Branches → Type 0
  AllKnown letters make none = ⊤
  AllKnown letters make (branch l s cs) = Known letters (make l) × AreKnown letters s × AllKnown letters make cs

-- at each of these places of a closed type stands a `rec` in the list, within the binders that follow
abbrev pub AreBinders : List Part → Tree → List ℕ → Type 0
AreBinders found w [] = ⊤
AreBinders found w (b ∷ bs) =
    ((s : Tree) × (found_in w b ≡ Some (record { place = record { whole = w; at = b; binders = bs }; type = rec s })) ×
    Has found w b × (length bs + nodes (rec s) ≤ nodes w))
    × AreBinders found w bs

-- what is known of a part at its place
pub record IsFit (letters : List Label) (found : List Part) (p : Place) (t : Tree) : Type 0 where
  pub sees : Sees p t
  pub known : AreKnown letters t
  pub held : Every (Holds found) (parts p t)
  pub bound : AreBinders found p.whole p.binders
  pub scoped : IsScoped (length p.binders) t
  pub contractive : IsContractive t
  pub ordered : IsOrdered t
  pub small : length p.binders + nodes t ≤ nodes p.whole
  pub few : nodes p.whole ≤ most_nodes

-- what is known of the branches of a choice
pub record AreFit (letters : List Label) (found : List Part) (make : List ℕ → Label) (p : Place) (cs : Branches) : Type 0 where
  pub sees : SeesAll p cs
  pub known : AllKnown letters make cs
  pub held : Every (Holds found) (parts_all p cs)
  pub bound : AreBinders found p.whole p.binders
  pub scoped : AllScoped (length p.binders) cs
  pub contractive : AllContractive cs
  pub ordered : AllOrdered cs
  pub small : length p.binders + nodes_all cs ≤ nodes p.whole
  pub few : nodes p.whole ≤ most_nodes

module _ (letters : List Label) (found : List Part) where
  pub fit_first : (p : Place) (s r : Tree) → IsFit letters found p (seq s r) → IsFit letters found (place_past p 1) s
  fit_first p s r h = record {
    sees = sees_first p s r h.sees;
    known = h.known.0;
    held = every_front (Holds found) (parts (place_past p 1) s) (parts (place_past p (1 + nodes s)) r) h.held;
    bound = h.bound;
    scoped = h.scoped.0;
    contractive = h.contractive.0;
    ordered = h.ordered.0;
    small = omega (arith, h.small);
    few = h.few;
  }

  pub fit_second : (p : Place) (s r : Tree) → IsFit letters found p (seq s r) → IsFit letters found (place_past p (1 + nodes s)) r
  fit_second p s r h = record {
    sees = sees_second p s r h.sees;
    known = h.known.1;
    held = every_behind (Holds found) (parts (place_past p 1) s) (parts (place_past p (1 + nodes s)) r) h.held;
    bound = h.bound;
    scoped = h.scoped.1;
    contractive = h.contractive.1;
    ordered = h.ordered.1;
    small = omega (arith, h.small);
    few = h.few;
  }

  -- a closed type is a whole of its own
  pub bound_in : (c : Bool) (p : Place) (t : Tree) → AreBinders found p.whole p.binders →
      AreBinders found (own_place_if c p t).whole (own_place_if c p t).binders
  bound_in true p t h = tt
  bound_in false p t h = h

  scoped_in : (c : Bool) (p : Place) (t : Tree) → is_closed t ≡ c → IsScoped (length p.binders) t →
      IsScoped (length (own_place_if c p t).binders) t
  scoped_in true p t is h = scoped_if_closed t is
  scoped_in false p t is h = h

  pub small_in : (c : Bool) (p : Place) (t : Tree) → length p.binders + nodes t ≤ nodes p.whole →
      length (own_place_if c p t).binders + nodes t ≤ nodes (own_place_if c p t).whole
  small_in true p t h = omega arith
  small_in false p t h = h

  pub few_in : (c : Bool) (p : Place) (t : Tree) → length p.binders + nodes t ≤ nodes p.whole → nodes p.whole ≤ most_nodes →
      nodes (own_place_if c p t).whole ≤ most_nodes
  few_in true p t h k = omega arith
  few_in false p t h k = k

  pub fit_select : (p : Place) (cs : Branches) → IsFit letters found p (select cs) →
      AreFit letters found Select (place_past (own_place p (select cs)) 1) cs
  fit_select p cs h = record {
    sees = sees_select (own_place p (select cs)) cs (sees_entered p (select cs) h.sees);
    known = h.known;
    held = h.held.1;
    bound = bound_in (is_closed (select cs)) p (select cs) h.bound;
    scoped = scoped_in (is_closed (select cs)) p (select cs) refl h.scoped;
    contractive = h.contractive;
    ordered = h.ordered.1;
    small = omega (arith, small_in (is_closed (select cs)) p (select cs) h.small);
    few = few_in (is_closed (select cs)) p (select cs) h.small h.few;
  }

  pub fit_offer : (p : Place) (cs : Branches) → IsFit letters found p (offer cs) →
      AreFit letters found Offer (place_past (own_place p (offer cs)) 1) cs
  fit_offer p cs h = record {
    sees = sees_offer (own_place p (offer cs)) cs (sees_entered p (offer cs) h.sees);
    known = h.known;
    held = h.held.1;
    bound = bound_in (is_closed (offer cs)) p (offer cs) h.bound;
    scoped = scoped_in (is_closed (offer cs)) p (offer cs) refl h.scoped;
    contractive = h.contractive;
    ordered = h.ordered.1;
    small = omega (arith, small_in (is_closed (offer cs)) p (offer cs) h.small);
    few = few_in (is_closed (offer cs)) p (offer cs) h.small h.few;
  }

  pub fit_branch : (make : List ℕ → Label) (p : Place) (l : List ℕ) (s : Tree) (cs : Branches) →
      AreFit letters found make p (branch l s cs) → IsFit letters found (place_past p 1) s
  fit_branch make p l s cs h = record {
    sees = sees_branch p l s cs h.sees;
    known = h.known.1;
    held = every_front (Holds found) (parts (place_past p 1) s) (parts_all (place_past p (1 + nodes s)) cs) h.held;
    bound = h.bound;
    scoped = h.scoped.0;
    contractive = h.contractive.0;
    ordered = h.ordered.0;
    small = omega (arith, h.small);
    few = h.few;
  }

  pub fit_others : (make : List ℕ → Label) (p : Place) (l : List ℕ) (s : Tree) (cs : Branches) →
      AreFit letters found make p (branch l s cs) → AreFit letters found make (place_past p (1 + nodes s)) cs
  fit_others make p l s cs h = record {
    sees = sees_others p l s cs h.sees;
    known = h.known.2;
    held = every_behind (Holds found) (parts (place_past p 1) s) (parts_all (place_past p (1 + nodes s)) cs) h.held;
    bound = h.bound;
    scoped = h.scoped.1;
    contractive = h.contractive.1;
    ordered = h.ordered.1;
    small = omega (arith, h.small);
    few = h.few;
  }

  -- a `rec` that isn't terminated is in the list, and so are the parts of its body
  held_rec : (p : Place) (s : Tree) → terminated s ≡ false → Every (Holds found) (parts p (rec s)) →
      Holds found (record { place = own_place p (rec s); type = rec s }) ×
      Every (Holds found) (parts (body_place (own_place p (rec s))) s)
  held_rec p s e h =
      subst (λ b. Every (Holds found) (if b then [] else record { place = own_place p (rec s); type = rec s } ∷ parts
      (body_place (own_place p (rec s))) s)) e h

  pub fit_body : (p : Place) (s : Tree) → terminated s ≡ false → IsFit letters found p (rec s) →
      IsFit letters found (body_place (own_place p (rec s))) s
  fit_body p s e h =
      let q = own_place p (rec s) in
      let g = sees_entered p (rec s) h.sees in
      let held = held_rec p s e h.held in
      let le : length q.binders + nodes (rec s) ≤ nodes q.whole = small_in (is_closed (rec s)) p (rec s) h.small in
      record {
        sees = sees_body q s g;
        known = h.known;
        held = held.1;
        bound = ((s, seated_rec q s g, held.0, le), bound_in (is_closed (rec s)) p (rec s) h.bound);
        scoped = scoped_in (is_closed (rec s)) p (rec s) refl h.scoped;
        contractive = h.contractive.0;
        ordered = h.ordered;
        small = omega arith;
        few = few_in (is_closed (rec s)) p (rec s) h.small h.few;
      }

  -- a choice or `rec` stands at its place, and is in the list
  pub own_select : (p : Place) (cs : Branches) → IsFit letters found p (select cs) →
      (found_in (own_place p (select cs)).whole (own_place p (select cs)).at ≡ Some
      (record { place = own_place p (select cs); type = select cs })) ×
      Has found (own_place p (select cs)).whole (own_place p (select cs)).at
  own_select p cs h = (seated_select (own_place p (select cs)) cs (sees_entered p (select cs) h.sees), h.held.0)

  pub own_offer : (p : Place) (cs : Branches) → IsFit letters found p (offer cs) →
      (found_in (own_place p (offer cs)).whole (own_place p (offer cs)).at ≡ Some
      (record { place = own_place p (offer cs); type = offer cs })) ×
      Has found (own_place p (offer cs)).whole (own_place p (offer cs)).at
  own_offer p cs h = (seated_offer (own_place p (offer cs)) cs (sees_entered p (offer cs) h.sees), h.held.0)

  pub own_rec : (p : Place) (s : Tree) → terminated s ≡ false → IsFit letters found p (rec s) →
      (found_in (own_place p (rec s)).whole (own_place p (rec s)).at ≡ Some
      (record { place = own_place p (rec s); type = rec s })) × Has found (own_place p (rec s)).whole (own_place p (rec s)).at
  own_rec p s e h = (seated_rec (own_place p (rec s)) s (sees_entered p (rec s) h.sees), (held_rec p s e h.held).0)
