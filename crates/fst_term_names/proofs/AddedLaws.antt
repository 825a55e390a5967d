-- Types that are put behind others, one part of a term after the other.
use Rattle.std.proofs.Common.{◌≡◌, ◌∙◌, ◌+◌, List, ◌++◌, length, map, Some, Ok, Err, sym, ap, append_assoc}
use Rattle.std.specs.Prelude.{OnOk, Result}
use Rattle.std.proofs.lemmas.List.{length-append, length-map, map-append}
use Rattle.fst_term_names.specs.CodeMeanings.{AreAdded}
use Rattle.fst_term_faults.specs.TermFaults.{Surroundings}
use Rattle.fst_term_names.specs.TermTypes.{TypeUse, begins_at, tree_of}
use Rattle.fst_term_names.specs.declared.meanings.TypeList.{TypeList}

-- what two facts of what a call made say together
pub both_ok : {T E P Q R : Type 0} (r : Result T E) → OnOk r P → OnOk r Q → (P → Q → R) → OnOk r R
both_ok (Ok x) p q f = f p q
both_ok (Err e) p q f = tt

-- so many types are put behind others
pub are_added : (s : Surroundings) (us : List TypeUse) (old new : TypeList) →
    map Some new.types.items ≡ map Some old.types.items ++ map (tree_of s) us →
    new.places.items ≡ old.places.items ++ map begins_at us → AreAdded s us old new
are_added s us old new types places = record {
  types = types;
  places = places;
  count = sym (length-map new.types.items Some) ∙ ap length types ∙ length-append (map Some old.types.items) (map (tree_of s) us)
      ∙
      (λ i. length-map old.types.items Some i + length-map us (tree_of s) i);
}

-- the types of one part, and then those of another one
pub both_added : (s : Surroundings) (us vs : List TypeUse) (old mid new : TypeList) → AreAdded s us old mid →
    AreAdded s vs mid new → AreAdded s (us ++ vs) old new
both_added s us vs old mid new one two = are_added s (us ++ vs) old new
    (two.types ∙ ap (λ ts. ts ++ map (tree_of s) vs) one.types
    ∙ append_assoc (map Some old.types.items) (map (tree_of s) us) (map (tree_of s) vs) ∙
    ap (λ ts. map Some old.types.items ++ ts) (sym (map-append (tree_of s) us vs)))
    (two.places ∙ ap (λ ps. ps ++ map begins_at vs) one.places
    ∙ append_assoc old.places.items (map begins_at us) (map begins_at vs) ∙
    ap (λ ps. old.places.items ++ ps) (sym (map-append begins_at us vs)))
