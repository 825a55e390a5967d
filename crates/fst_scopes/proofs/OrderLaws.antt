-- Aliases looked at in an order in which each stands behind those in its type: what is found is what they stand for.
use Rattle.std.proofs.Common.{◌≡◌, ◌∙◌, ◌⊎◌, inl, inr, ℕ, zero, suc, ◌<◌, Bool, true, false, List, [], ◌∷◌, ◌++◌, length, get_or, set, replicate, take, Option, Some, None, refl, sym, ap, subst, append_assoc, arith}
use Rattle.std.specs.Prelude.{◌≢◌, ◌==◌, All, Contains, option_map, option_and_then, option_to_list, unwrap_or, slice_get, if◌then◌else◌}
use Rattle.std.specs.Str.{bytes_eq}
use Rattle.std.proofs.lemmas.List.{get_or-set_same, get_or-set_other, set-get_or, length-set, length-replicate, length-map, append-nil, get_or_default}
use Rattle.std.proofs.lemmas.List.Elements.{Contains-append_left, Contains-append_right, Contains-append_cases, All-map}
use Rattle.std.proofs.lemmas.Option.{same_Some, unwrap_or-slice_get, get_or_from_slice_get, slice_get-map}
use Rattle.std.proofs.lemmas.Slice.Eq.{bytes_eq-Decides}
use Rattle.std.proofs.lemmas.Bool.Decides.{Decides-eqb}
use Rattle.fst_base.proofs.Lists.{contains_none}
use Rattle.fst_base.proofs.Options.{mapped_some}
use Rattle.fst_loops.specs.Graphs.{edges, Leads, edge, along, IsGraph, IsOrder}
use Rattle.fst_types.specs.Tree.{Tree}
use Rattle.fst_types.specs.WrittenTree.{WrittenTree}
use Rattle.fst_terms.specs.Naming.{place_of, type_of}
use Rattle.fst_scopes.specs.declared.types.TypeEntry.{TypeEntry}
use Rattle.fst_scopes.specs.declared.types.TypeEntry.TheVariants as entry
use Rattle.fst_scopes.specs.declared.types.TypeNames.{TypeNames}
use Rattle.fst_scopes.specs.Aliases.{StandsFor, alias, names_in, Names, LeadsTo, one, further, IsKnown}
use Rattle.fst_scopes.specs.Graph.{places_in, entry_edges, graph_of, alias_scope, entry_tree, tree_after, trees_after, final_trees, known_by}
use Rattle.fst_scopes.specs.Scopes.{entry_decl, of_name, declared_in, standing_in}
use Rattle.fst_scopes.specs.TypeNames.{TypeDecl, data_type, other_name}
use Rattle.fst_scopes.proofs.AliasLaws.{type_agrees, more_stands, leads_from, no_loop}
use Rattle.fst_scopes.proofs.Plain.{place_within}

-- ---- places of names

-- a name that is found is the one at its place
same_name : (names : List (List ℕ)) (x y : List ℕ) (k : ℕ) → place_of names x ≡ Some k → place_of names y ≡ Some k → x ≡ y
same_name [] x y k e h = absurd (cc e)
same_name (z ∷ names) x y k e h = pick (same_name names x y) (bytes_eq x z) refl (bytes_eq y z) refl e h
  where
    none_zero : (o : Option ℕ) → Some 0 ≡ option_map suc o → ⊥
    none_zero None e = absurd (cc e)
    none_zero (Some j) e = let same = same_Some 0 (suc j) e in omega (arith, same)

    pick : ((j : ℕ) → place_of names x ≡ Some j → place_of names y ≡ Some j → x ≡ y) → (b : Bool) → bytes_eq x z ≡ b →
        (c : Bool) → bytes_eq y z ≡ c → (if b then Some 0 else option_map suc (place_of names x)) ≡ Some k →
        (if c then Some 0 else option_map suc (place_of names y)) ≡ Some k → x ≡ y
    pick rest true p true q e h = (bytes_eq-Decides x z).0 p ∙ sym ((bytes_eq-Decides y z).0 q)
    pick rest true p false q e h = absurd (none_zero (place_of names y) (e ∙ sym h))
    pick rest false p true q e h = absurd (none_zero (place_of names x) (h ∙ sym e))
    pick rest false p false q e h =
        let m = mapped_some suc (place_of names x) k e in
        let n = mapped_some suc (place_of names y) k h in
        let same = m.2 ∙ sym n.2 in
        let is : n.0 ≡ m.0 = omega (arith, same) in
        rest m.0 m.1 (n.1 ∙ ap Some is)

-- a place in a list of places is that of a name
place_from : (names xs : List (List ℕ)) (k : ℕ) → Contains (places_in names xs) k → (y : List ℕ) × Contains xs y ×
    (place_of names y ≡ Some k)
place_from names [] k c = absurd (contains_none k c)
place_from names (x ∷ xs) k c = elim (Contains-append_cases (option_to_list (place_of names x)) (places_in names xs) k c) [
  | inl c ↦ (x, (0, omega arith, refl), own (place_of names x) c)
  | inr c ↦ let rest = place_from names xs k c in (rest.0, Contains-append_right (x ∷ []) xs rest.0 rest.1, rest.2)
]
  where
    own : (o : Option ℕ) → Contains (option_to_list o) k → o ≡ Some k
    own None c = absurd (contains_none k c)
    own (Some j) (zero, lt, is) = ap Some is
    own (Some j) (suc n, lt, is) = absurd (omega arith)

-- the place of a name in a list is among its places
pub place_among : (names xs : List (List ℕ)) (y : List ℕ) (k : ℕ) → Contains xs y → place_of names y ≡ Some k →
    Contains (places_in names xs) k
place_among names [] y k c is = absurd (contains_none y c)
place_among names (x ∷ xs) y k c is = elim (Contains-append_cases (x ∷ []) xs y c) [
  | inl c ↦ Contains-append_left (option_to_list (place_of names x)) (places_in names xs) k
      (subst (λ o. Contains (option_to_list o) k) (sym (ap (place_of names) (head c) ∙ is)) (0, omega arith, refl))
  | inr c ↦ Contains-append_right (option_to_list (place_of names x)) (places_in names xs) k (place_among names xs y k c is)
]
  where
    head : Contains (x ∷ []) y → x ≡ y
    head (zero, lt, is) = is
    head (suc n, lt, is) = absurd (omega arith)

same_alias : (w v : WrittenTree) → Some (other_name w) ≡ Some (other_name v) → w ≡ v
same_alias w v e = ap type_in (same_Some (other_name w) (other_name v) e)
  where
    type_in : TypeDecl → WrittenTree
    type_in (data_type k) = w
    type_in (other_name z) = z

module _ (types : TypeNames) where
  -- what stands at the place of a name
  pub stands_at : (trees : List (Option Tree)) (y : List ℕ) (k : ℕ) → place_of types.names y ≡ Some k →
      standing_in types trees y ≡ get_or trees k None
  stands_at trees y k is = ap (λ o. unwrap_or (option_and_then (λ k. slice_get trees k) o) None) is
      ∙ unwrap_or-slice_get trees k None

  stands_not : (trees : List (Option Tree)) (y : List ℕ) → place_of types.names y ≡ None → standing_in types trees y ≡ None
  stands_not trees y is = ap (λ o. unwrap_or (option_and_then (λ k. slice_get trees k) o) None) is

  -- an alias has a place and an entry
  alias_place : (y : List ℕ) (v : WrittenTree) → declared_in types y ≡ Some (other_name v) → (k : ℕ) ×
      (place_of types.names y ≡ Some k) × (option_map entry_decl (slice_get types.entries.items k) ≡ Some (other_name v))
  alias_place y v d = pick (place_of types.names y) refl d
    where
      pick : (o : Option ℕ) → place_of types.names y ≡ o →
          option_map entry_decl (option_and_then (λ k. slice_get types.entries.items k) o) ≡ Some (other_name v) →
          (k : ℕ) × (place_of types.names y ≡ Some k) ×
          (option_map entry_decl (slice_get types.entries.items k) ≡ Some (other_name v))
      pick None is e = absurd (cc e)
      pick (Some k) is e = (k, is, e)

  -- what the entry of an alias stands for
  entry_stands : (trees : List (Option Tree)) (o : Option TypeEntry) (w : WrittenTree) →
      option_map entry_decl o ≡ Some (other_name w) → entry_tree types trees o ≡ type_of (alias_scope types trees) w
  entry_stands trees None w e = absurd (cc e)
  entry_stands trees (Some (entry.Family k)) w e = absurd (cc (same_Some (data_type k) (other_name w) e))
  entry_stands trees (Some (entry.Alias v)) w e = ap (type_of (alias_scope types trees)) (same_alias v.now w e)

-- ---- one after another

-- nothing stands anywhere in a list of nothings
abbrev nothing : Option Tree
nothing = None

none_there : (n i : ℕ) → get_or (replicate n nothing) i nothing ≡ nothing
none_there zero i = refl
none_there (suc n) zero = refl
none_there (suc n) (suc i) = none_there n i

-- a number is in a list, or not
is_in : (xs : List ℕ) (x : ℕ) → Contains xs x ⊎ (Contains xs x → ⊥)
is_in [] x = inr (λ c. contains_none x c)
is_in (y ∷ xs) x = pick (y == x) refl (is_in xs x)
  where
    pick : (b : Bool) → (y == x) ≡ b → Contains xs x ⊎ (Contains xs x → ⊥) → Contains (y ∷ xs) x ⊎ (Contains (y ∷ xs) x → ⊥)
    pick true is rest = inl (0, omega arith, (Decides-eqb y x).0 is)
    pick false is (inl c) = inl (Contains-append_right (y ∷ []) xs x c)
    pick false is (inr none) = inr out
      where
        out : Contains (y ∷ xs) x → ⊥
        out (zero, lt, same) = absurd (cc ((Decides-eqb y x).1 same, is))
        out (suc k, lt, same) = none (k, omega arith, same)

-- what is in a list with one more is in the list, or is that one
by_last : (xs : List ℕ) (x y : ℕ) → Contains (xs ++ x ∷ []) y → Contains xs y ⊎ (y ≡ x)
by_last xs x y c = elim (Contains-append_cases xs (x ∷ []) y c) [ inl c ↦ inl c | inr c ↦ inr (head c) ]
  where
    head : Contains (x ∷ []) y → y ≡ x
    head (zero, lt, is) = sym is
    head (suc k, lt, is) = absurd (omega arith)

module _ (types : TypeNames) (looped : List Bool) where
  abbrev declared : List ℕ → Option TypeDecl
  declared = declared_in types

  abbrev is_on_loop : ℕ → Bool
  is_on_loop x = get_or looped x false

  abbrev entry_at : ℕ → Option TypeEntry
  entry_at x = slice_get types.entries.items x

  -- what is known where these names have been looked at
  record IsFound (done : List ℕ) (trees : List (Option Tree)) : Type 0 where
    size : length trees ≡ length types.names
    sound : (y : List ℕ) (u : Tree) → standing_in types trees y ≡ Some u → StandsFor declared y u
    fixed : (x : ℕ) → Contains done x → is_on_loop x ≡ false → get_or trees x None ≡ entry_tree types trees (entry_at x)
    none : (x : ℕ) → is_on_loop x ≡ true → get_or trees x None ≡ None
    closed : (x : ℕ) → Contains done x → is_on_loop x ≡ false → (y : ℕ) → Contains (edges (graph_of types) x) y → Contains done y

  -- a place without an entry has no edges
  no_edges : (x : ℕ) → entry_at x ≡ None → edges (graph_of types) x ≡ []
  no_edges x is = sym (unwrap_or-slice_get (graph_of types) x []) ∙ ap
      (λ o. unwrap_or o []) (slice_get-map (entry_edges types.names) types.entries.items x
      ∙ ap (option_map (entry_edges types.names)) is)

  -- an entry's edges are those of its node
  edges_are : (x : ℕ) (e : TypeEntry) → entry_at x ≡ Some e → edges (graph_of types) x ≡ entry_edges types.names e
  edges_are x e is = get_or_from_slice_get (graph_of types) x (entry_edges types.names e) []
      (slice_get-map (entry_edges types.names) types.entries.items x ∙ ap (option_map (entry_edges types.names)) is)

  -- an entry stands for the same where another name is put for what it doesn't lead to
  put_aside : (trees : List (Option Tree)) (x : ℕ) (v : Option Tree) (z : ℕ) →
      ((y : ℕ) → Contains (edges (graph_of types) z) y → y ≢ x) →
      entry_tree types (set trees x v) (entry_at z) ≡ entry_tree types trees (entry_at z)
  put_aside trees x v z other = pick (entry_at z) refl
    where
      pick : (o : Option TypeEntry) → entry_at z ≡ o → entry_tree types (set trees x v) o ≡ entry_tree types trees o
      pick None is = refl
      pick (Some (entry.Family k)) is = refl
      pick (Some (entry.Alias w)) is = type_agrees declared (standing_in types (set trees x v))
          (standing_in types trees) [] w.now agree
        where
          agree : (y : List ℕ) (u : WrittenTree) → Contains (names_in [] w.now) y → declared y ≡ Some (other_name u) →
              standing_in types (set trees x v) y ≡ standing_in types trees y
          agree y u c d =
              let p = alias_place types y u d in
              let led = subst (λ z. Contains z p.0) (sym (edges_are z (entry.Alias w) is))
              (place_among types.names (names_in [] w.now) y p.0 c p.1) in
              stands_at types (set trees x v) y p.0 p.1 ∙ get_or-set_other trees x p.0 v None (other p.0 led)
              ∙ sym (stands_at types trees y p.0 p.1)

  -- nothing is looked at
  found_none : (n : ℕ) → n ≡ length types.names → IsFound [] (replicate n None)
  found_none n is = record {
    size = length-replicate n None ∙ is;
    sound = λ y u e. absurd (cc (sym (pick y (place_of types.names y) refl) ∙ e));
    fixed = λ x c l. absurd (contains_none x c);
    none = λ x l. none_there n x;
    closed = λ x c l y d. absurd (contains_none x c);
  }
    where
      pick : (y : List ℕ) (o : Option ℕ) → place_of types.names y ≡ o → standing_in types (replicate n None) y ≡ None
      pick y None is = stands_not types (replicate n None) y is
      pick y (Some k) is = stands_at types (replicate n None) y k is ∙ none_there n k

  module _ (done : List ℕ) (trees : List (Option Tree)) (x : ℕ) (found : IsFound done trees) (within : x < length types.names)
      (behind : is_on_loop x ≡ false → (y : ℕ) → Contains (edges (graph_of types) x) y → Contains done y) where
    abbrev new : Option Tree
    new = tree_after types looped trees x

    new_open : is_on_loop x ≡ false → new ≡ entry_tree types trees (entry_at x)
    new_open l = ap (λ b. if b then None else entry_tree types trees (entry_at x)) l

    new_none : is_on_loop x ≡ true → new ≡ None
    new_none l = ap (λ b. if b then None else entry_tree types trees (entry_at x)) l

    still_closed : (z : ℕ) → Contains (done ++ x ∷ []) z → is_on_loop z ≡ false →
        (y : ℕ) → Contains (edges (graph_of types) z) y → Contains (done ++ x ∷ []) y
    still_closed z c l y e = elim (by_last done x z c) [
      | inl c ↦ Contains-append_left done (x ∷ []) y (found.closed z c l y e)
      | inr same ↦ Contains-append_left done (x ∷ []) y
          (behind (ap is_on_loop (sym same) ∙ l) y (subst (λ z. Contains (edges (graph_of types) z) y) same e))
    ]

    -- one that was looked at before
    again : Contains done x → IsFound (done ++ x ∷ []) (set trees x new)
    again c = subst (IsFound (done ++ x ∷ [])) (sym (ap (set trees x) same ∙ set-get_or trees x None)) (record {
      size = found.size;
      sound = found.sound;
      fixed = λ z d l. found.fixed z (inside z d) l;
      none = found.none;
      closed = still_closed;
    })
      where
        inside : (z : ℕ) → Contains (done ++ x ∷ []) z → Contains done z
        inside z d = elim (by_last done x z d) [ inl e ↦ e | inr is ↦ subst (Contains done) (sym is) c ]

        same : new ≡ get_or trees x None
        same = pick (is_on_loop x) refl
          where
            pick : (b : Bool) → is_on_loop x ≡ b → new ≡ get_or trees x None
            pick true l = new_none l ∙ sym (found.none x l)
            pick false l = new_open l ∙ sym (found.fixed x c l)

    -- one that wasn't
    first : (Contains done x → ⊥) → IsFound (done ++ x ∷ []) (set trees x new)
    first out = record {
      size = length-set trees x new ∙ found.size;
      sound = sound;
      fixed = fixed;
      none = none;
      closed = still_closed;
    }
      where
        low : x < length trees
        low = let e = found.size in omega (arith, e, within)

        at_new : get_or (set trees x new) x None ≡ new
        at_new = get_or-set_same trees x new None low

        other : (z : ℕ) → Contains done z → is_on_loop z ≡ false → (y : ℕ) → Contains (edges (graph_of types) z) y → y ≢ x
        other z c l y e = λ is. out (subst (Contains done) is (found.closed z c l y e))

        alias_stands : (y : List ℕ) (u : Tree) → place_of types.names y ≡ Some x →
            (o : Option TypeEntry) → entry_at x ≡ o → entry_tree types trees o ≡ Some u → StandsFor declared y u
        alias_stands y u is None at e = absurd (cc e)
        alias_stands y u is (Some (entry.Family k)) at e = absurd (cc e)
        alias_stands y u is (Some (entry.Alias w)) at e =
            alias (standing_in types trees) y w.now u (ap
            (λ o. option_map entry_decl (option_and_then (λ k. slice_get types.entries.items k) o)) is
            ∙ ap (option_map entry_decl) at) found.sound e

        sound_at : (y : List ℕ) (u : Tree) (k : ℕ) → place_of types.names y ≡ Some k → get_or (set trees x new) k None ≡ Some u →
            (b : Bool) → (k == x) ≡ b → StandsFor declared y u
        sound_at y u k is e true same = on_loop (is_on_loop x) refl
          where
            here : k ≡ x
            here = (Decides-eqb k x).0 same

            value : new ≡ Some u
            value = sym at_new ∙ ap (λ z. get_or (set trees x new) z None) (sym here) ∙ e

            on_loop : (b : Bool) → is_on_loop x ≡ b → StandsFor declared y u
            on_loop true l = absurd (cc (sym (new_none l) ∙ value))
            on_loop false l = alias_stands y u (is ∙ ap Some here) (entry_at x) refl (sym (new_open l) ∙ value)
        sound_at y u k is e false differ =
            found.sound y u (stands_at types trees y k is
            ∙ sym (get_or-set_other trees x k new None (λ same. absurd (cc ((Decides-eqb k x).1 same, differ)))) ∙ e)

        sound : (y : List ℕ) (u : Tree) → standing_in types (set trees x new) y ≡ Some u → StandsFor declared y u
        sound y u e = pick (place_of types.names y) refl
          where
            pick : (o : Option ℕ) → place_of types.names y ≡ o → StandsFor declared y u
            pick None is = absurd (cc (sym (stands_not types (set trees x new) y is) ∙ e))
            pick (Some k) is = sound_at y u k is (sym (stands_at types (set trees x new) y k is) ∙ e) (k == x) refl

        fixed : (z : ℕ) → Contains (done ++ x ∷ []) z → is_on_loop z ≡ false →
            get_or (set trees x new) z None ≡ entry_tree types (set trees x new) (entry_at z)
        fixed z c l = elim (by_last done x z c) [
          | inl c ↦ get_or-set_other trees x z new None (λ is. out (subst (Contains done) is c)) ∙ found.fixed z c l
              ∙ sym (put_aside trees x new z (other z c l))
          | inr is ↦
              let own : is_on_loop x ≡ false = ap is_on_loop (sym is) ∙ l in
              ap (λ k. get_or (set trees x new) k None) is ∙ at_new ∙ new_open own
              ∙ sym (put_aside trees x new x (λ y e same. out (subst (Contains done) same (behind own y e)))) ∙
              ap (λ k. entry_tree types (set trees x new) (entry_at k)) (sym is)
        ]

        none : (z : ℕ) → is_on_loop z ≡ true → get_or (set trees x new) z None ≡ None
        none z l = pick (z == x) refl
          where
            pick : (b : Bool) → (z == x) ≡ b → get_or (set trees x new) z None ≡ None
            pick true is = let same = (Decides-eqb z x).0 is in ap (λ k. get_or (set trees x new) k None) same ∙ at_new
                ∙ new_none (ap is_on_loop (sym same) ∙ l)
            pick false is = get_or-set_other trees x z new None (λ same. absurd (cc ((Decides-eqb z x).1 same, is)))
                ∙ found.none z l

    -- one more name
    one_more : IsFound (done ++ x ∷ []) (set trees x new)
    one_more = elim (is_in done x) [ inl c ↦ again c | inr out ↦ first out ]

  -- all names one after another
  found_all : (done rest : List ℕ) (trees : List (Option Tree)) → IsFound done trees →
      ((i : ℕ) → i < length rest → get_or rest i 0 < length types.names) →
      ((i : ℕ) → i < length rest → is_on_loop (get_or rest i 0) ≡ false →
      (y : ℕ) → Contains (edges (graph_of types) (get_or rest i 0)) y → Contains (done ++ take i rest) y) →
      IsFound (done ++ rest) (trees_after types looped trees rest)
  found_all done [] trees found within behind = subst (λ z. IsFound z trees) (sym (append-nil done)) found
  found_all done (x ∷ rest) trees found within behind =
      let one = one_more done trees x found (within 0 (omega arith))
      (λ l y e. subst (λ z. Contains z y) (append-nil done) (behind 0 (omega arith) l y e)) in
      subst (λ z. IsFound z (trees_after types looped trees (x ∷ rest))) (append_assoc done (x ∷ []) rest)
      (found_all (done ++ x ∷ []) rest (set trees x (tree_after types looped trees x)) one
      (λ i lt. within (suc i) (omega (arith, lt)))
      (λ i lt l y e. subst (λ z. Contains z y) (sym (append_assoc done (x ∷ []) (take i rest)))
      (behind (suc i) (omega (arith, lt)) l y e)))

-- ---- loops

module _ (types : TypeNames) where
  abbrev names_of : List (List ℕ)
  names_of = types.names

  -- an edge from a name leads to a name in its type
  edge_named : (x : List ℕ) (i j : ℕ) → place_of types.names x ≡ Some i → Contains (edges (graph_of types) i) j → (y : List ℕ) ×
      (place_of types.names y ≡ Some j) × Names (declared_in types) x y
  edge_named x i j is c = pick (slice_get types.entries.items i) refl
    where
      pick : (o : Option TypeEntry) → slice_get types.entries.items i ≡ o → (y : List ℕ) ×
          (place_of types.names y ≡ Some j) × Names (declared_in types) x y
      pick None at = absurd (contains_none j (subst (λ z. Contains z j) (no_edges types [] i at) c))
      pick (Some (entry.Family k)) at = absurd (contains_none j
          (subst (λ z. Contains z j) (edges_are types [] i (entry.Family k) at) c))
      pick (Some (entry.Alias w)) at =
          let p = place_from types.names (names_in [] w.now) j
          (subst (λ z. Contains z j) (edges_are types [] i (entry.Alias w) at) c) in (
            p.0,
            p.2,
            record {
              its_type = w.now;
              is_alias = ap (λ o. option_map entry_decl (option_and_then (λ k. slice_get types.entries.items k) o)) is
                  ∙ ap (option_map entry_decl) at;
              is_in = p.1;
            },
          )

  -- a name in the type of another is an edge from it
  named_edge : (x y : List ℕ) (i j : ℕ) → place_of types.names x ≡ Some i → place_of types.names y ≡ Some j →
      Names (declared_in types) x y → Contains (edges (graph_of types) i) j
  named_edge x y i j is at n = pick (slice_get types.entries.items i) refl
      (ap (λ o. option_map entry_decl (option_and_then (λ k. slice_get types.entries.items k) o)) (sym is) ∙ n.is_alias)
    where
      pick : (o : Option TypeEntry) → slice_get types.entries.items i ≡ o →
          option_map entry_decl (slice_get types.entries.items i) ≡ Some (other_name n.its_type) →
          Contains (edges (graph_of types) i) j
      pick None e d = absurd (cc (sym (ap (option_map entry_decl) e) ∙ d))
      pick (Some (entry.Family k)) e d = absurd (cc
          (same_Some (data_type k) (other_name n.its_type) (sym (ap (option_map entry_decl) e) ∙ d)))
      pick (Some (entry.Alias w)) e d =
          let same = same_alias w.now n.its_type (sym (ap (option_map entry_decl) e) ∙ d) in
          subst (λ z. Contains z j) (sym (edges_are types [] i (entry.Alias w) e))
          (place_among types.names (names_in [] w.now) y j (subst (λ z. Contains (names_in [] z) y) (sym same) n.is_in) at)

  -- what a name leads to by numbers
  leads_named : (x : List ℕ) (i j : ℕ) → place_of types.names x ≡ Some i → Leads (graph_of types) i j → (y : List ℕ) ×
      (place_of types.names y ≡ Some j) × LeadsTo (declared_in types) x y
  leads_named x i j is (edge _ _ c) = let n = edge_named x i j is c in (n.0, n.1, one x n.0 n.2)
  leads_named x i j is (along _ k _ c l) =
      let n = edge_named x i k is c in
      let m = leads_named n.0 k j n.1 l in
      (m.0, m.1, further x n.0 m.0 n.2 m.2)

  -- and by names
  named_leads : (x y : List ℕ) (i j : ℕ) → place_of types.names x ≡ Some i → place_of types.names y ≡ Some j →
      LeadsTo (declared_in types) x y → Leads (graph_of types) i j
  named_leads x y i j is at (one _ _ n) = edge i j (named_edge x y i j is at n)
  named_leads x y i j is at (further _ z _ n l) =
      let from = leads_from (declared_in types) z y l in
      let p = alias_place types z from.0 from.1 in
      along i p.0 j (named_edge x z i p.0 is p.1 n) (named_leads z y p.0 j p.1 at l)

  entries_paired : length (graph_of types) ≡ length types.names
  entries_paired = length-map types.entries.items (entry_edges types.names) ∙ types.paired

  -- each edge leads to a name
  pub graph_is : IsGraph (graph_of types)
  graph_is = All-map (All (λ y. y < length (graph_of types))) (entry_edges types.names) types.entries.items
      (λ k d lt. below (get_or types.entries.items k d))
    where
      below : (e : TypeEntry) → All (λ y. y < length (graph_of types)) (entry_edges types.names e)
      below e k d lt = low e (get_or (entry_edges types.names e) k d)
          (k, lt, get_or_default (entry_edges types.names e) k (get_or (entry_edges types.names e) k d) d lt)
        where
          low : (e : TypeEntry) (j : ℕ) → Contains (entry_edges types.names e) j → j < length (graph_of types)
          low (entry.Family n) j c = absurd (contains_none j c)
          low (entry.Alias w) j c =
              let p = place_from types.names (names_in [] w.now) j c in
              let within = place_within types.names p.0 j p.2 in
              let same = entries_paired in
              omega (arith, within, same)

  module _ (order : List ℕ) (looped : List Bool) (is : IsOrder (graph_of types) order looped) where
    abbrev final : List (Option Tree)
    final = final_trees types looped order

    all_found : IsFound types looped order final
    all_found = found_all types looped [] order (replicate (length types.names) None)
        (found_none types looped (length types.names) refl)
        (λ i lt. let e = entries_paired in let low = is.nodes i lt in omega (arith, e, low)) (λ i lt l y e. is.behind i lt l y e)

    -- whether a name lies on a loop
    loop_at : (x : List ℕ) (k : ℕ) → place_of types.names x ≡ Some k →
        unwrap_or (of_name types.names looped x) false ≡ get_or looped k false
    loop_at x k at = ap (λ o. unwrap_or (option_and_then (λ k. slice_get looped k) o) false) at ∙ unwrap_or-slice_get looped k
        false

    looped_leads : (x : List ℕ) → unwrap_or (of_name types.names looped x) false ≡ true → LeadsTo (declared_in types) x x
    looped_leads x e = pick (place_of types.names x) refl
      where
        pick : (o : Option ℕ) → place_of types.names x ≡ o → LeadsTo (declared_in types) x x
        pick None at = absurd (cc (sym (ap (λ o. unwrap_or (option_and_then (λ k. slice_get looped k) o) false) at) ∙ e))
        pick (Some k) at =
            let low = place_within types.names x k at in
            let same = entries_paired in
            let l = leads_named x k k at ((is.loops k (omega (arith, low, same))).0 (sym (loop_at x k at) ∙ e)) in
            subst (LeadsTo (declared_in types) x) (same_name types.names l.0 x k l.1 at) l.2

    leads_looped : (x : List ℕ) → LeadsTo (declared_in types) x x → unwrap_or (of_name types.names looped x) false ≡ true
    leads_looped x l =
        let from = leads_from (declared_in types) x x l in
        let p = alias_place types x from.0 from.1 in
        let low = place_within types.names x p.0 p.1 in
        let same = entries_paired in
        loop_at x p.0 p.1 ∙ (is.loops p.0 (omega (arith, low, same))).1 (named_leads x x p.0 p.0 p.1 p.1 l)

    -- what an alias stands for is found
    stands_found : (x : List ℕ) (t : Tree) → StandsFor (declared_in types) x t → standing_in types final x ≡ Some t
    stands_found x t (alias others _ w _ d known e) = at_place
        (λ y u p. stands_found y u (known y u p)) (no_loop (declared_in types) x t (alias others x w t d known e))
      where
        at_place : ((y : List ℕ) (u : Tree) → others y ≡ Some u → standing_in types final y ≡ Some u) →
            (LeadsTo (declared_in types) x x → ⊥) → standing_in types final x ≡ Some t
        at_place more none =
            let p = alias_place types x w d in
            let low = place_within types.names x p.0 p.1 in
            let same = entries_paired in
            stands_at types final x p.0 p.1 ∙ fixed_at p.0 p.1 (is.all p.0 (omega (arith, low, same)))
            (get_or looped p.0 false) refl ∙ entry_stands types final (slice_get types.entries.items p.0) w p.2 ∙
            more_stands (declared_in types) others (standing_in types final) more w t e
          where
            fixed_at : (k : ℕ) → place_of types.names x ≡ Some k → Contains order k →
                (b : Bool) → get_or looped k false ≡ b →
                get_or final k None ≡ entry_tree types final (slice_get types.entries.items k)
            fixed_at k at c true l = absurd (none (looped_leads x (loop_at x k at ∙ l)))
            fixed_at k at c false l = all_found.fixed k c l

    -- this is what is known of aliases
    pub known_is : IsKnown (declared_in types) (known_by types final looped)
    known_is = record {
      stands_for = λ x t. (all_found.sound x t, stands_found x t);
      leads_back = λ x. (looped_leads x, leads_looped x);
    }
