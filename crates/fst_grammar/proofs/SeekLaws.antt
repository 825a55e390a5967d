-- Which part stands at a place of a closed type.
use Rattle.std.proofs.Common.{◌≡◌, ◌∙◌, ◌+◌, ◌<◌, ◌≤◌, refl, ap, arith, ℕ, List, [], ◌∷◌, ◌++◌, Bool, true, false, Option, Some, None, ◌==◌}
use Rattle.std.specs.Prelude.{if◌then◌else◌, nat_lt, ⊤}
use Rattle.std.proofs.lemmas.Bool.{eq-eqb, lt-ltb, le-ltb, ne_eqb}
use Rattle.fst_types.specs.Tree.{Tree, skip, send, receive, close, wait, select, offer, seq, rec, back, var, plain, arrow, pair, named, Branches, none, branch}
use Rattle.fst_types.specs.Size.{nodes, nodes_all}
use Rattle.fst_lts.specs.Step.{terminated}
use Rattle.fst_parts.specs.Place.{Place, is_closed, top_of, place_past, own_place, own_place_if, body_place}
use Rattle.fst_parts.specs.Once.{Part}
use Rattle.fst_grammar.specs.Parts.{parts, parts_all}

abbrev mutual
  -- the choice or `rec` that stands at the place k
  pub seek : Place → Tree → ℕ → Option Part
  seek p (select cs) k = if k == p.at then Some (record { place = p; type = select cs }) else seek_all (place_past p 1) cs k
  seek p (offer cs) k = if k == p.at then Some (record { place = p; type = offer cs }) else seek_all (place_past p 1) cs k
  seek p (seq s r) k = if nat_lt k (p.at + (1 + nodes s)) then seek (place_past p 1) s k else seek
      (place_past p (1 + nodes s)) r k
  seek p (rec s) k = if k == p.at then Some (record { place = p; type = rec s }) else seek (body_place p) s k
  seek p _ k = None

  pub seek_all : Place → Branches → ℕ → Option Part
  seek_all p none k = None
  seek_all p (branch l s cs) k =
      if nat_lt k (p.at + (1 + nodes s)) then seek (place_past p 1) s k else seek_all (place_past p (1 + nodes s)) cs k

-- the part that stands at the place k of a whole type
abbrev pub found_in : Tree → ℕ → Option Part
found_in whole k = seek (top_of whole) whole k

-- the search through the whole from here on is the one through the part
abbrev pub Sees : Place → Tree → Type 0
Sees p t = (k : ℕ) → p.at ≤ k → k < p.at + nodes t → found_in p.whole k ≡ seek p t k

abbrev pub SeesAll : Place → Branches → Type 0
SeesAll p cs = (k : ℕ) → p.at ≤ k → k < p.at + nodes_all cs → found_in p.whole k ≡ seek_all p cs k

pub sees_first : (p : Place) (s r : Tree) → Sees p (seq s r) → Sees (place_past p 1) s
sees_first p s r h k lo hi =
    h k (omega arith) (omega arith)
    ∙ ap (λ c. if c then seek (place_past p 1) s k else seek (place_past p (1 + nodes s)) r k)
    (lt-ltb k (p.at + (1 + nodes s)) (omega arith))

pub sees_second : (p : Place) (s r : Tree) → Sees p (seq s r) → Sees (place_past p (1 + nodes s)) r
sees_second p s r h k lo hi =
    h k (omega arith) (omega arith)
    ∙ ap (λ c. if c then seek (place_past p 1) s k else seek (place_past p (1 + nodes s)) r k)
    (le-ltb k (p.at + (1 + nodes s)) lo)

pub sees_body : (p : Place) (s : Tree) → Sees p (rec s) → Sees (body_place p) s
sees_body p s h k lo hi =
    h k (omega arith) (omega arith)
    ∙ ap (λ c. if c then Some (record { place = p; type = rec s }) else seek (body_place p) s k)
    (ne_eqb k p.at (λ e. absurd (omega arith)))

pub sees_select : (p : Place) (cs : Branches) → Sees p (select cs) → SeesAll (place_past p 1) cs
sees_select p cs h k lo hi =
    h k (omega arith) (omega arith)
    ∙ ap (λ c. if c then Some (record { place = p; type = select cs }) else seek_all (place_past p 1) cs k)
    (ne_eqb k p.at (λ e. absurd (omega arith)))

pub sees_offer : (p : Place) (cs : Branches) → Sees p (offer cs) → SeesAll (place_past p 1) cs
sees_offer p cs h k lo hi =
    h k (omega arith) (omega arith)
    ∙ ap (λ c. if c then Some (record { place = p; type = offer cs }) else seek_all (place_past p 1) cs k)
    (ne_eqb k p.at (λ e. absurd (omega arith)))

pub sees_branch : (p : Place) (l : List ℕ) (s : Tree) (cs : Branches) → SeesAll p (branch l s cs) → Sees (place_past p 1) s
sees_branch p l s cs h k lo hi =
    h k (omega arith) (omega arith)
    ∙ ap (λ c. if c then seek (place_past p 1) s k else seek_all (place_past p (1 + nodes s)) cs k)
    (lt-ltb k (p.at + (1 + nodes s)) (omega arith))

pub sees_others : (p : Place) (l : List ℕ) (s : Tree) (cs : Branches) → SeesAll p (branch l s cs) →
    SeesAll (place_past p (1 + nodes s)) cs
sees_others p l s cs h k lo hi =
    h k (omega arith) (omega arith)
    ∙ ap (λ c. if c then seek (place_past p 1) s k else seek_all (place_past p (1 + nodes s)) cs k)
    (le-ltb k (p.at + (1 + nodes s)) lo)

sees_entered_if : (c : Bool) (p : Place) (t : Tree) → Sees p t → Sees (own_place_if c p t) t
sees_entered_if true p t h = λ k lo hi. refl
sees_entered_if false p t h = h

pub sees_entered : (p : Place) (t : Tree) → Sees p t → Sees (own_place p t) t
sees_entered p t h = sees_entered_if (is_closed t) p t h

-- what a list of parts has at each place
abbrev pub Every : (Part → Type 0) → List Part → Type 0
Every P [] = ⊤
Every P (e ∷ es) = P e × Every P es

pub every_front : (P : Part → Type 0) (a b : List Part) → Every P (a ++ b) → Every P a
every_front P [] b h = tt
every_front P (k ∷ a) b h = (h.0, every_front P a b h.1)

pub every_behind : (P : Part → Type 0) (a b : List Part) → Every P (a ++ b) → Every P b
every_behind P [] b h = h
every_behind P (k ∷ a) b h = every_behind P a b h.1

pub every_both : (P : Part → Type 0) (a b : List Part) → Every P a → Every P b → Every P (a ++ b)
every_both P [] b h k = k
every_both P (e ∷ a) b h k = (h.0, every_both P a b h.1 k)

-- the part is what stands at its place
abbrev pub IsSeated : Part → Type 0
IsSeated e = found_in e.place.whole e.place.at ≡ Some e

pub seated_select : (p : Place) (cs : Branches) → Sees p (select cs) →
    found_in p.whole p.at ≡ Some (record { place = p; type = select cs })
seated_select p cs h =
    h p.at (omega arith) (omega arith)
    ∙ ap (λ b. if b then Some (record { place = p; type = select cs }) else seek_all (place_past p 1) cs p.at)
    (eq-eqb p.at p.at refl)

pub seated_offer : (p : Place) (cs : Branches) → Sees p (offer cs) →
    found_in p.whole p.at ≡ Some (record { place = p; type = offer cs })
seated_offer p cs h =
    h p.at (omega arith) (omega arith)
    ∙ ap (λ b. if b then Some (record { place = p; type = offer cs }) else seek_all (place_past p 1) cs p.at)
    (eq-eqb p.at p.at refl)

pub seated_rec : (p : Place) (s : Tree) → Sees p (rec s) → found_in p.whole p.at ≡ Some (record { place = p; type = rec s })
seated_rec p s h =
    h p.at (omega arith) (omega arith)
    ∙ ap (λ b. if b then Some (record { place = p; type = rec s }) else seek (body_place p) s p.at) (eq-eqb p.at p.at refl)

-- each part in the list is where its place says
mutual
  pub all_seated : (p : Place) (t : Tree) → Sees p t → Every IsSeated (parts p t)
  all_seated p skip h = tt
  all_seated p (send b) h = tt
  all_seated p (receive b) h = tt
  all_seated p close h = tt
  all_seated p wait h = tt
  all_seated p (select cs) h =
      let q = own_place p (select cs) in
      let g = sees_entered p (select cs) h in
      (seated_select q cs g, every_seated (place_past q 1) cs (sees_select q cs g))
  all_seated p (offer cs) h =
      let q = own_place p (offer cs) in
      let g = sees_entered p (offer cs) h in
      (seated_offer q cs g, every_seated (place_past q 1) cs (sees_offer q cs g))
  all_seated p (seq s r) h =
      every_both IsSeated (parts (place_past p 1) s) (parts (place_past p (1 + nodes s)) r)
      (all_seated (place_past p 1) s (sees_first p s r h)) (all_seated (place_past p (1 + nodes s)) r (sees_second p s r h))
  all_seated p (rec s) h =
      let q = own_place p (rec s) in
      let g = sees_entered p (rec s) h in
      pick (seated_rec q s g) (all_seated (body_place q) s (sees_body q s g)) (terminated s)
    where
      pick : IsSeated (record { place = own_place p (rec s); type = rec s }) →
          Every IsSeated (parts (body_place (own_place p (rec s))) s) →
          (b : Bool) → Every IsSeated (if b then [] else record { place = own_place p (rec s); type = rec s } ∷ parts
          (body_place (own_place p (rec s))) s)
      pick here body true = tt
      pick here body false = (here, body)
  all_seated p (back k) h = tt
  all_seated p (var k) h = tt
  all_seated p (plain b) h = tt
  all_seated p (arrow u s r) h = tt
  all_seated p (pair s r) h = tt
  all_seated p (named k) h = tt

  every_seated : (p : Place) (cs : Branches) → SeesAll p cs → Every IsSeated (parts_all p cs)
  every_seated p none h = tt
  every_seated p (branch l s cs) h =
      every_both IsSeated (parts (place_past p 1) s) (parts_all (place_past p (1 + nodes s)) cs)
      (all_seated (place_past p 1) s (sees_branch p l s cs h))
      (every_seated (place_past p (1 + nodes s)) cs (sees_others p l s cs h))
