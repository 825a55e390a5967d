-- The types of a module without faults stand for something, and are not too high.
use Rattle.std.proofs.Common.{◌≡◌, ◌∙◌, ℕ, ◌+◌, ◌<◌, ◌^◌, false, List, [], length, add-one, get_or, set, Option, Some, None, Bor, refl, sym, ap, subst, arith}
use Rattle.std.specs.Prelude.{IsSome, option_and_then, option_map, slice_get, unwrap_or}
use Rattle.std.specs.List.{IsDistinct}
use Rattle.std.specs.Str.{bytes_eq}
use Rattle.std.proofs.lemmas.Option.{unwrap_or-slice_get}
use Rattle.fst_types.specs.ModelWrittenHeight.{height}
use Rattle.fst_types.specs.Tree as tree
use Rattle.fst_types.specs.Tree.{Tree}
use Rattle.fst_types.specs.WrittenTree.{WrittenTree}
use Rattle.fst_types.specs.declared.written.Written.{Written}
use Rattle.fst_terms.specs.ModuleTree.{Declared}
use Rattle.fst_terms.specs.Naming.{place, place_of, type_of}
use Rattle.fst_scopes.specs.Faults.{too_large, type_faults, unbound}
use Rattle.fst_scopes.specs.Graph.{tree_after}
use Rattle.fst_scopes.specs.Scopes.{declared_in, entry_decl, standing_in}
use Rattle.fst_scopes.specs.Twice.{names}
use Rattle.fst_scopes.specs.TypeNames.{TypeDecl, data_type, other_name, scope_with, standing_for}
use Rattle.fst_scopes.specs.declared.types.TypeEntry.TheVariants as entry
use Rattle.fst_scopes.proofs.Laws.{no_higher, no_larger, none_named, type_there}
use Rattle.fst_declarations.specs.Declarations.{known_in, trees_in}
use Rattle.fst_declarations.proofs.Laws.{same_declared}
use Rattle.fst_declarations.specs.ModuleFaults.{module_scope}
use Rattle.fst_declarations.specs.ModuleNames.{type_names}
use Rattle.fst_declarations.specs.declared.declarations.Declarations.{Declarations}
use Rattle.fst_names.specs.Faultless.{IsFaultless, IsReady}
use Rattle.fst_names.proofs.FaultlessLaws.{AreSound, IsSoundAlias, alias_sound, are_sound}
use Rattle.fst_names.proofs.OnceLaws.{once}
use Rattle.fst_names.proofs.TreeLaws.{NoneLoops, after, after_all, after_long, after_next, final_stands, next_there, node_within, place_once}

module _ (ds : List Declared) (d : Declarations) (h : IsFaultless ds d) where
  pub sound : AreSound ds (known_in d)
  sound = are_sound ds (known_in d) h.faultless

  -- what is in scope in types with these variables, by the table
  pub same_scope : (vars : List (List ℕ)) → scope_with vars (declared_in d.types)
      (standing_in d.types (trees_in d)) ≡ module_scope ds (known_in d) vars
  same_scope vars = ap (λ declared. scope_with vars declared (standing_in d.types (trees_in d)))
      (same_declared ds d.types h.declared.types)

  declared_sound : (y : List ℕ) (v : WrittenTree) → declared_in d.types y ≡ Some (other_name v) → IsSoundAlias ds (known_in d) y v
  declared_sound y v e = alias_sound ds (known_in d) 0 ds y v sound.decls (sym (h.declared.types y) ∙ e)

  -- no alias lies on a loop
  pub none_loops : NoneLoops d.types d.aliases.looped.items
  none_loops = record { off = off }
    where
      off : (y : List ℕ) (v : WrittenTree) (k : ℕ) → declared_in d.types y ≡ Some (other_name v) →
          place_of d.types.names y ≡ Some k → get_or d.aliases.looped.items k false ≡ false
      off y v k e at =
          sym (ap (λ o. unwrap_or (option_and_then (λ k. slice_get d.aliases.looped.items k) o) false) at ∙ unwrap_or-slice_get
          d.aliases.looped.items k false) ∙ (declared_sound y v e).open_ended

  -- each declared name stands for something
  pub all_there : (x : List ℕ) → IsSome (unwrap_or (standing_for (standing_in d.types (trees_in d)) x (declared_in d.types x))
      (Some tree.skip))
  all_there x = pick (declared_in d.types x) refl
    where
      pick : (o : Option TypeDecl) → declared_in d.types x ≡ o →
          IsSome (unwrap_or (standing_for (standing_in d.types (trees_in d)) x o) (Some tree.skip))
      pick None e = refl
      pick (Some (data_type k)) e = refl
      pick (Some (other_name v)) e = final_stands d.types d.aliases.order.items d.aliases.looped.items h.declared.order none_loops
          x v e

  -- and so does each type
  pub all_stand : (vars : List (List ℕ)) (w : WrittenTree) →
      IsSome (type_of (scope_with vars (declared_in d.types) (standing_in d.types (trees_in d))) w)
  all_stand vars w = type_there (scope_with vars (declared_in d.types) (standing_in d.types (trees_in d))) all_there w

  -- one without faults isn't too high
  pub low_type : (vars : List (List ℕ)) (w : WrittenTree) → type_faults (module_scope ds (known_in d) vars) w ≡ [] →
      0 + height w < 2 ^ 32
  low_type vars w e = pick (type_of (module_scope ds (known_in d) vars) w) refl
      (subst (λ s. IsSome (type_of s w)) (same_scope vars) (all_stand vars w))
    where
      pick : (o : Option Tree) → type_of (module_scope ds (known_in d) vars) w ≡ o → IsSome o → 0 + height w < 2 ^ 32
      pick (Some t) is there =
          let small = no_larger (place w) t (ap (too_large (place w)) (sym is)
          ∙ (none_named (unbound (module_scope ds (known_in d) vars) w)
          (too_large (place w) (type_of (module_scope ds (known_in d) vars) w)) e).1) in
          let high = no_higher (module_scope ds (known_in d) vars) w t is in
          omega (arith, small, high)
      pick None is there = absurd (cc there)

  -- nor is the type of an alias
  pub low_alias : (k : ℕ) (w : Bor Written) → k < length d.types.names →
      slice_get d.types.entries.items k ≡ Some (entry.Alias w) → 0 + height w.now < 2 ^ 32
  low_alias k w low at =
      low_type [] w.now (declared_sound (get_or d.types.names k []) w.now
      (ap (λ o. option_map entry_decl (option_and_then (λ k. slice_get d.types.entries.items k) o)) placed
      ∙ ap (option_map entry_decl) at)).faultless
    where
      own : d.types.names ≡ names (type_names ds)
      own = h.declared.type_names_are.own sound.types_once

      placed : place_of d.types.names (get_or d.types.names k []) ≡ Some k
      placed = place_once d.types.names (subst (λ xs. IsDistinct bytes_eq xs) (sym own) (once (type_names ds) sound.types_once)) k
          low

  -- the type of the next alias in the order is ready
  pub ready_after : (i : ℕ) → i < length d.aliases.order.items →
      IsReady d (after d.types d.aliases.order.items d.aliases.looped.items h.declared.order none_loops i)
      (get_or d.aliases.order.items i 0)
  ready_after i low = record {
    known = λ w off at. next_there d.types d.aliases.order.items d.aliases.looped.items h.declared.order none_loops i w low off
        at;
    depth = λ w at. low_alias (get_or d.aliases.order.items i 0) w
        (node_within d.types d.aliases.order.items d.aliases.looped.items h.declared.order none_loops i low) at;
  }

  -- what it stands for comes to what is known
  pub next_known : (i : ℕ) (trees : List (Option Tree)) (t : Option Tree) → i < length d.aliases.order.items →
      trees ≡ after d.types d.aliases.order.items d.aliases.looped.items h.declared.order none_loops i →
      t ≡ tree_after d.types d.aliases.looped.items trees (get_or d.aliases.order.items i 0) →
      set trees (get_or d.aliases.order.items i 0) t ≡ after d.types d.aliases.order.items d.aliases.looped.items h.declared.order
      none_loops (i + 1)
  next_known i trees t low is own =
      ap (set trees (get_or d.aliases.order.items i 0)) own ∙ ap
      (λ z. set z (get_or d.aliases.order.items i 0)
      (tree_after d.types d.aliases.looped.items z (get_or d.aliases.order.items i 0))) is ∙
      sym (after_next d.types d.aliases.order.items d.aliases.looped.items h.declared.order none_loops i low) ∙
      ap (after d.types d.aliases.order.items d.aliases.looped.items h.declared.order none_loops) (sym (add-one i))

  -- of as many names of types it is known what they stand for as there are
  pub trees_long : length (trees_in d) ≡ length d.types.names
  trees_long =
      ap (λ (trees : List (Option Tree)). length trees)
      (sym (after_all d.types d.aliases.order.items d.aliases.looped.items h.declared.order none_loops)) ∙
      after_long d.types d.aliases.order.items d.aliases.looped.items h.declared.order none_loops (length d.aliases.order.items)
