-- Elements of lists, the types that numbers stand for, and values turned round.
use Rattle.std.proofs.Common.{◌≡◌, ◌<◌, ℕ, zero, suc, List, [], ◌∷◌, length, map, false, Some, Contains, slice_index_or, le_of_suc-le-suc, refl, sym, ap, ◌∙◌, subst}
use Rattle.std.specs.Prelude.{slice_get, bytes_eq, option_map}
use Rattle.std.proofs.lemmas.Bool.{true≢false}
use Rattle.std.proofs.lemmas.Option.{slice_get_within, get_or_from_slice_get, slice_get-map}
use Rattle.std.proofs.lemmas.Slice.Eq.{bytes_eq-Decides}
use Rattle.fst_base.proofs.Options.{some_same}
use Rattle.fst_types.specs.Tree.{Tree}
use Rattle.fst_derivations.specs.Parts.{AreAt}
use Rattle.fst_derivations.specs.Rules.{Surroundings}
use Rattle.fst_machine.specs.Values as value
use Rattle.fst_machine.specs.Values.{Values, no_values, turned_onto}
use Rattle.fst_safety.specs.Fitting.{Residuals, FitAll, FitBefore}

-- what stands at a place of a list is in it
pub contains_at : {A : Type 0} (xs : List A) (k : ℕ) (x : A) → slice_get xs k ≡ Some x → Contains xs x
contains_at xs k x e = (k, slice_get_within xs k x e, get_or_from_slice_get xs k x x e)

-- and so does what it is turned into
pub contains_map : {A B : Type 0} (f : A → B) (xs : List A) (k : ℕ) (x : A) → slice_get xs k ≡ Some x → Contains (map f xs) (f x)
contains_map f xs k x e = contains_at (map f xs) k (f x) (slice_get-map f xs k ∙ ap (option_map f) e)

later : (y : List ℕ) (ys : List (List ℕ)) (x : List ℕ) → bytes_eq x y ≡ false →
    (k : ℕ) → k < length (y ∷ ys) → slice_index_or (y ∷ ys) k x ≡ x → Contains ys x
later y ys x q zero l e = absurd (true≢false (sym ((bytes_eq-Decides x y).1 (sym e)) ∙ q))
later y ys x q (suc k) l e = (k, le_of_suc-le-suc l, e)

-- what isn't the first name is one of the others
pub contains_later : (y : List ℕ) (ys : List (List ℕ)) (x : List ℕ) → bytes_eq x y ≡ false → Contains (y ∷ ys) x → Contains ys x
contains_later y ys x q c = later y ys x q c.0 c.1 c.2

-- numbers stand for just one list of types
pub are_at_one : (types : List Tree) (ks : List ℕ) (ts us : List Tree) → AreAt types ks ts → AreAt types ks us → us ≡ ts
are_at_one types [] [] [] a b = refl
are_at_one types [] [] (u ∷ us) a b = absurd b
are_at_one types [] (t ∷ ts) us a b = absurd a
are_at_one types (k ∷ ks) [] us a b = absurd a
are_at_one types (k ∷ ks) (t ∷ ts) [] a b = absurd b
are_at_one types (k ∷ ks) (t ∷ ts) (u ∷ us) a b = λ i. some_same (sym b.0 ∙ a.0) i ∷ are_at_one types ks ts us a.1 b.1 i

-- values turned round are of the types of all
pub fit_turned : (m : Surroundings) (r : Residuals) (done ws : Values) (all ts : List Tree) → FitBefore m r done all ts →
    FitAll m r ws ts → FitAll m r (turned_onto done ws) all
fit_turned m r no_values ws all ts b f = subst (FitAll m r ws) (sym b) f
fit_turned m r (value.value v vs) ws all ts b f = fit_turned m r vs (value.value v ws) all (b.0 ∷ ts) b.2 (b.1, f)
