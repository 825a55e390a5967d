-- What aliases that lie on no loop stand for, as they are looked at one after another.
use Rattle.std.proofs.Common.{◌≡◌, ◌∙◌, ◌⊎◌, inl, inr, ℕ, zero, suc, ◌<◌, ◌≤◌, Bool, true, false, List, [], ◌∷◌, ◌++◌, length, get_or, set, take, replicate, Option, Some, None, Bor, refl, sym, ap, subst, arith}
use Rattle.std.specs.Prelude.{◌==◌, ◌≢◌, Contains, IsSome, option_map, option_and_then, unwrap_or, slice_get, if◌then◌else◌}
use Rattle.std.specs.List.{IsDistinct}
use Rattle.std.specs.Str.{bytes_eq}
use Rattle.std.proofs.Math.Seq.{take-suc}
use Rattle.std.proofs.lemmas.Bool.Decides.{Decides-eqb}
use Rattle.std.proofs.lemmas.List.{get_or-set_same, get_or-set_other, length-map, length-replicate, length-set, take_all}
use Rattle.std.proofs.lemmas.List.Elements.{All-from_recursion, Contains-append_cases}
use Rattle.std.proofs.lemmas.Map.Keys.{IsDistinct-head, IsDistinct-tail}
use Rattle.std.proofs.lemmas.Option.{get_or_from_slice_get, slice_get-map}
use Rattle.std.proofs.lemmas.Slice.Eq.{bytes_eq-Decides}
use Rattle.fst_base.proofs.Bools.{same_text}
use Rattle.fst_base.proofs.Lists.{contains_none, from_contains}
use Rattle.fst_loops.specs.Graphs.{edges, IsOrder}
use Rattle.fst_types.specs.Tree as tree
use Rattle.fst_types.specs.Tree.{Tree}
use Rattle.fst_types.specs.WrittenTree.{WrittenTree}
use Rattle.fst_types.specs.declared.written.Written.{Written}
use Rattle.fst_terms.specs.Naming.{place_of, type_of}
use Rattle.fst_scopes.specs.Aliases.{names_in}
use Rattle.fst_scopes.specs.Graph.{alias_scope, entry_edges, entry_tree, final_trees, graph_of, tree_after, trees_after}
use Rattle.fst_scopes.specs.Scopes.{declared_in, entry_decl, standing_in}
use Rattle.fst_scopes.specs.TypeNames.{TypeDecl, data_type, other_name, scope_with, standing_for}
use Rattle.fst_scopes.specs.declared.types.TypeEntry.{TypeEntry}
use Rattle.fst_scopes.specs.declared.types.TypeEntry.TheVariants as entry
use Rattle.fst_scopes.specs.declared.types.TypeNames.{TypeNames}
use Rattle.fst_scopes.proofs.Laws.{type_agrees}
use Rattle.fst_scopes.proofs.Laws.{place_within, type_there, place_among, stands_at}

-- ---- places

-- a name stands at its own place where none stands twice
pub place_once : (xs : List (List ℕ)) → IsDistinct bytes_eq xs → (k : ℕ) → k < length xs → place_of xs (get_or xs k []) ≡ Some k
place_once [] once k low = absurd (omega (arith, low))
place_once (x ∷ xs) once zero low = ap (λ c. if c then Some 0 else option_map suc (place_of xs x)) ((bytes_eq-Decides x x).1 refl)
place_once (x ∷ xs) once (suc k) low =
    ap (λ c. if c then Some 0 else option_map suc (place_of xs (get_or xs k []))) (other (bytes_eq (get_or xs k []) x) refl) ∙
    ap (option_map suc) (place_once xs (IsDistinct-tail bytes_eq x xs once) k (omega (arith, low)))
  where
    apart : bytes_eq x (get_or xs k []) ≡ false
    apart = All-from_recursion (λ y. bytes_eq x y ≡ false) xs (IsDistinct-head bytes_eq x xs once) k [] (omega (arith, low))

    other : (c : Bool) → bytes_eq (get_or xs k []) x ≡ c → c ≡ false
    other true is = absurd (cc (sym apart ∙ (bytes_eq-Decides x (get_or xs k [])).1 (sym (same_text (get_or xs k []) x is))))
    other false is = refl

-- what is in a list with one more is in the list, or is that one
by_last : (xs : List ℕ) (x y : ℕ) → Contains (xs ++ x ∷ []) y → Contains xs y ⊎ (x ≡ y)
by_last xs x y c = pick (Contains-append_cases xs (x ∷ []) y c)
  where
    head : (x ≡ y) ⊎ Contains [] y → Contains xs y ⊎ (x ≡ y)
    head (inl same) = inr same
    head (inr d) = absurd (contains_none y d)

    pick : Contains xs y ⊎ Contains (x ∷ []) y → Contains xs y ⊎ (x ≡ y)
    pick (inl d) = inl d
    pick (inr d) = head (from_contains [] y x d)

-- ---- types in which the aliases stand for something

module _ (declared : List ℕ → Option TypeDecl) (aliases : List ℕ → Option Tree) where
  -- what aliases stand for, and any type for those that stand for nothing
  abbrev filled : List ℕ → Option Tree
  filled x = Some (unwrap_or (aliases x) tree.skip)

  all_filled : (x : List ℕ) (o : Option TypeDecl) → IsSome (unwrap_or (standing_for filled x o) (Some tree.skip))
  all_filled x None = refl
  all_filled x (Some (data_type k)) = refl
  all_filled x (Some (other_name w)) = refl

  -- where the aliases in a type stand for something, it does
  types_stand : (w : WrittenTree) → ((y : List ℕ) (v : WrittenTree) → Contains (names_in [] w) y →
      declared y ≡ Some (other_name v) → IsSome (aliases y)) → IsSome (type_of (scope_with [] declared aliases) w)
  types_stand w all =
      subst IsSome (sym (type_agrees declared aliases filled [] w (λ y v c d. same (aliases y) (all y v c d))))
      (type_there (scope_with [] declared filled) (λ x. all_filled x (declared x)) w)
    where
      same : (o : Option Tree) → IsSome o → o ≡ Some (unwrap_or o tree.skip)
      same (Some t) h = refl
      same None h = absurd (cc h)

-- ---- one after another

module _ (types : TypeNames) where
  abbrev entry_at : ℕ → Option TypeEntry
  entry_at k = slice_get types.entries.items k

  -- an alias has a place and an entry there
  pub record HasEntry (y : List ℕ) : Type 0 where
    pub number : ℕ
    pub written : Bor Written
    pub placed : place_of types.names y ≡ Some number
    pub entered : entry_at number ≡ Some (entry.Alias written)

  pub has_entry : (y : List ℕ) (v : WrittenTree) → declared_in types y ≡ Some (other_name v) → HasEntry y
  has_entry y v d = pick (place_of types.names y) refl d
    where
      at : (k : ℕ) → place_of types.names y ≡ Some k →
          (o : Option TypeEntry) → entry_at k ≡ o → option_map entry_decl o ≡ Some (other_name v) → HasEntry y
      at k is None e h = absurd (cc h)
      at k is (Some (entry.Family n)) e h = absurd (cc h)
      at k is (Some (entry.Alias w)) e h = record { number = k; written = w; placed = is; entered = e }

      pick : (o : Option ℕ) → place_of types.names y ≡ o →
          option_map entry_decl (option_and_then (λ k. slice_get types.entries.items k) o) ≡ Some (other_name v) → HasEntry y
      pick None is h = absurd (cc h)
      pick (Some k) is h = at k is (entry_at k) refl h

  -- an entry's edges are those of its node
  edges_are : (x : ℕ) (e : TypeEntry) → entry_at x ≡ Some e → edges (graph_of types) x ≡ entry_edges types.names e
  edges_are x e is =
      get_or_from_slice_get (graph_of types) x (entry_edges types.names e) []
      (slice_get-map (entry_edges types.names) types.entries.items x ∙ ap (option_map (entry_edges types.names)) is)

module _ (types : TypeNames) (looped : List Bool) where
  -- no declared alias lies on a loop
  pub record NoneLoops : Type 0 where
    pub off : (y : List ℕ) (v : WrittenTree) (k : ℕ) → declared_in types y ≡ Some (other_name v) →
        place_of types.names y ≡ Some k → get_or looped k false ≡ false

  -- each alias among those that were looked at stands for something, unless it lies on a loop
  pub record AreMade (done : List ℕ) (trees : List (Option Tree)) : Type 0 where
    pub made : (k : ℕ) (w : Bor Written) → Contains done k → get_or looped k false ≡ false →
        slice_get types.entries.items k ≡ Some (entry.Alias w) → IsSome (get_or trees k None)

  module _ (open_ended : NoneLoops) where
    -- the type of an alias stands for something where those in it were looked at
    pub alias_there : (done : List ℕ) (trees : List (Option Tree)) (x : ℕ) (w : Bor Written) → AreMade done trees →
        slice_get types.entries.items x ≡ Some (entry.Alias w) →
        ((y : ℕ) → Contains (edges (graph_of types) x) y → Contains done y) → IsSome (type_of (alias_scope types trees) w.now)
    alias_there done trees x w are at behind = types_stand (declared_in types) (standing_in types trees) w.now each
      where
        each : (y : List ℕ) (v : WrittenTree) → Contains (names_in [] w.now) y → declared_in types y ≡ Some (other_name v) →
            IsSome (standing_in types trees y)
        each y v c d =
            let h = has_entry types y v d in
            let led = subst (λ z. Contains z h.number) (sym (edges_are types x (entry.Alias w) at))
            (place_among types.names (names_in [] w.now) y h.number c h.placed) in
            subst IsSome (sym (stands_at types trees y h.number h.placed))
            (are.made h.number h.written (behind h.number led) (open_ended.off y v h.number d h.placed) h.entered)

    -- one more name
    one_made : (done : List ℕ) (trees : List (Option Tree)) (x : ℕ) → AreMade done trees → x < length trees →
        (get_or looped x false ≡ false → (y : ℕ) → Contains (edges (graph_of types) x) y → Contains done y) →
        AreMade (done ++ x ∷ []) (set trees x (tree_after types looped trees x))
    one_made done trees x are within behind = record { made = made }
      where
        own : (w : Bor Written) → get_or looped x false ≡ false → slice_get types.entries.items x ≡ Some (entry.Alias w) →
            IsSome (tree_after types looped trees x)
        own w off at =
            subst IsSome (sym (ap (λ (c : Bool). if c then None else entry_tree types trees (slice_get types.entries.items x)) off
            ∙ ap (entry_tree types trees) at)) (alias_there done trees x w are at (behind off))

        same : (k : ℕ) (w : Bor Written) → get_or looped k false ≡ false →
            slice_get types.entries.items k ≡ Some (entry.Alias w) → x ≡ k →
            IsSome (get_or (set trees x (tree_after types looped trees x)) k None)
        same k w off at is =
            subst (λ z. IsSome (get_or (set trees x (tree_after types looped trees x)) z None)) is
            (subst IsSome (sym (get_or-set_same trees x (tree_after types looped trees x) None within))
            (own w (ap (λ z. get_or looped z false) is ∙ off) (ap (λ z. slice_get types.entries.items z) is ∙ at)))

        made : (k : ℕ) (w : Bor Written) → Contains (done ++ x ∷ []) k → get_or looped k false ≡ false →
            slice_get types.entries.items k ≡ Some (entry.Alias w) →
            IsSome (get_or (set trees x (tree_after types looped trees x)) k None)
        made k w c off at = pick (k == x) refl (by_last done x k c)
          where
            pick : (b : Bool) → (k == x) ≡ b → Contains done k ⊎
                (x ≡ k) → IsSome (get_or (set trees x (tree_after types looped trees x)) k None)
            pick true is d = same k w off at (sym ((Decides-eqb k x).0 is))
            pick false is (inl d) =
                let apart : k ≢ x = λ e. absurd (cc ((Decides-eqb k x).1 e, is)) in
                subst IsSome (sym (get_or-set_other trees x k (tree_after types looped trees x) None apart))
                (are.made k w d off at)
            pick false is (inr e) = same k w off at e

-- ---- in an order

module _ (types : TypeNames) (order : List ℕ) (looped : List Bool) (is : IsOrder (graph_of types) order looped)
    (open_ended : NoneLoops types looped) where
  entries_paired : length (graph_of types) ≡ length types.names
  entries_paired = length-map types.entries.items (entry_edges types.names) ∙ types.paired

  -- what is known once the first names in the order are looked at
  abbrev pub after : ℕ → List (Option Tree)
  after i = trees_after types looped (replicate (length types.names) None) (take i order)

  -- one more of them
  pub after_next : (i : ℕ) → i < length order →
      after (suc i) ≡ set (after i) (get_or order i 0) (tree_after types looped (after i) (get_or order i 0))
  after_next i low = ap (trees_after types looped (replicate (length types.names) None)) (take-suc order i 0 low)
      ∙ last (replicate (length types.names) None) (take i order)
    where
      last : (trees : List (Option Tree)) (done : List ℕ) → trees_after types looped trees (done ++ get_or order i 0 ∷ []) ≡
          set (trees_after types looped trees done) (get_or order i 0)
          (tree_after types looped (trees_after types looped trees done) (get_or order i 0))
      last trees [] = refl
      last trees (x ∷ done) = last (set trees x (tree_after types looped trees x)) done

  pub after_all : after (length order) ≡ final_trees types looped order
  after_all = ap (trees_after types looped (replicate (length types.names) None)) (take_all (length order) order (omega arith))

  -- something is known of as many as there are
  pub after_long : (i : ℕ) → length (after i) ≡ length types.names
  after_long i = long (replicate (length types.names) None) (take i order) ∙ length-replicate (length types.names) None
    where
      long : (trees : List (Option Tree)) (done : List ℕ) → length (trees_after types looped trees done) ≡ length trees
      long trees [] = refl
      long trees (x ∷ done) = long (set trees x (tree_after types looped trees x)) done
          ∙ length-set trees x (tree_after types looped trees x)

  pub node_within : (i : ℕ) → i < length order → get_or order i 0 < length types.names
  node_within i low = let same = entries_paired in let within = is.nodes i low in omega (arith, same, within)

  -- each alias that was looked at stands for something
  pub made_after : (i : ℕ) → i ≤ length order → AreMade types looped (take i order) (after i)
  made_after zero low = record { made = λ k w c off at. absurd (contains_none k c) }
  made_after (suc i) low =
      let lt : i < length order = omega (arith, low) in
      let within : get_or order i 0 < length (after i) = omega (arith, node_within i lt, after_long i) in
      subst (λ z. AreMade types looped z (after (suc i))) (sym (take-suc order i 0 lt))
      (subst (AreMade types looped (take i order ++ get_or order i 0 ∷ [])) (sym (after_next i lt))
      (one_made types looped open_ended (take i order) (after i) (get_or order i 0) (made_after i (omega (arith, low))) within
      (is.behind i lt)))

  -- so the type of the next one stands for something
  pub next_there : (i : ℕ) (w : Bor Written) → i < length order → get_or looped (get_or order i 0) false ≡ false →
      slice_get types.entries.items (get_or order i 0) ≡ Some (entry.Alias w) →
      IsSome (type_of (alias_scope types (after i)) w.now)
  next_there i w low off at = alias_there types looped open_ended (take i order) (after i) (get_or order i 0) w
      (made_after i (omega (arith, low))) at (is.behind i low off)

  -- and in the end each declared alias does
  pub final_stands : (y : List ℕ) (v : WrittenTree) → declared_in types y ≡ Some (other_name v) →
      IsSome (standing_in types (final_trees types looped order) y)
  final_stands y v d =
      let h = has_entry types y v d in
      let within = place_within types.names y h.number h.placed in
      let same = entries_paired in
      let made : AreMade types looped order (final_trees types looped order) =
      subst (AreMade types looped order) after_all
      (subst (λ z. AreMade types looped z (after (length order))) (take_all (length order) order (omega arith))
      (made_after (length order) (omega arith))) in
      subst IsSome (sym (stands_at types (final_trees types looped order) y h.number h.placed))
      (made.made h.number h.written (is.all h.number (omega (arith, within, same)))
      (open_ended.off y v h.number d h.placed) h.entered)
