-- What some things become one after the other, where each puts types behind those of the things before it.
use Rattle.std.proofs.Common.{◌≡◌, ◌∙◌, ℕ, suc, ◌+◌, ◌<◌, ◌≤◌, List, [], ◌∷◌, ◌++◌, length, map, take, get_or, refl, sym, ap, subst, append_assoc, append-nil, add-one, add-zero, map-id, arith}
use Rattle.std.proofs.lemmas.List.{length-append, map-append, take_more, take_all}
use Rattle.fst_types.specs.WrittenTree.{WrittenTree}
use Rattle.fst_term_names.specs.CodeMeanings.{AreAdded}
use Rattle.fst_term_names.specs.CoreTerms.{from}
use Rattle.fst_term_faults.specs.TermFaults.{Surroundings}
use Rattle.fst_term_names.specs.TermTypes.{TypeUse, with_variables}
use Rattle.fst_term_names.specs.declared.meanings.TypeList.{TypeList}
use Rattle.fst_term_names.proofs.AddedLaws.{both_added}

-- what things become, where their types have the numbers from one on
abbrev pub all_made : {A B : Type 0} → (ℕ → A → B) → (A → List TypeUse) → ℕ → List A → List B
all_made become uses n [] = []
all_made become uses n (x ∷ xs) = become n x ∷ all_made become uses (n + length (uses x)) xs

-- the types of things
abbrev pub all_used : {A : Type 0} → (A → List TypeUse) → List A → List TypeUse
all_used uses [] = []
all_used uses (x ∷ xs) = uses x ++ all_used uses xs

used_last : {A : Type 0} (uses : A → List TypeUse) (xs : List A) (x : A) →
    all_used uses (xs ++ x ∷ []) ≡ all_used uses xs ++ uses x
used_last uses [] x = append-nil (uses x)
used_last uses (y ∷ xs) x = ap (λ us. uses y ++ us) (used_last uses xs x)
    ∙ sym (append_assoc (uses y) (all_used uses xs) (uses x))

made_last : {A B : Type 0} (become : ℕ → A → B) (uses : A → List TypeUse) (n : ℕ) (xs : List A) (x : A) →
    all_made become uses n (xs ++ x ∷ []) ≡ all_made become uses n xs ++ become (n + length (all_used uses xs)) x ∷ []
made_last become uses n [] x = ap (λ k. become k x ∷ []) (sym (add-zero n))
made_last become uses n (y ∷ xs) x =
    let long : n + length (uses y) + length (all_used uses xs) ≡ n + length (uses y ++ all_used uses xs) =
    omega (arith, length-append (uses y) (all_used uses xs)) in
    ap (λ bs. become n y ∷ bs)
    (made_last become uses (n + length (uses y)) xs x ∙ ap
    (λ k. all_made become uses (n + length (uses y)) xs ++ become k x ∷ []) long)

-- the first of some things are made, and their types put behind others
pub record AreMade {A B M : Type 0} (view : M → B) (become : ℕ → A → B) (uses : A → List TypeUse) (s : Surroundings) (xs : List A)
    (i : ℕ) (old now : TypeList) (made : List M) : Type 0 where
  pub are : map view made ≡ all_made become uses (length old.types.items) (take i xs)
  pub added : AreAdded s (all_used uses (take i xs)) old now

module _ {A B M : Type 0} (view : M → B) (become : ℕ → A → B) (uses : A → List TypeUse) (s : Surroundings) (xs : List A) where
  -- one more is made
  pub one_made : (i : ℕ) (old now next : TypeList) (made after : List M) (x : A) (m : M) →
      AreMade view become uses s xs i old now made → i < length xs → x ≡ get_or xs i x →
      view m ≡ become (length now.types.items) x → AreAdded s (uses x) now next → after ≡ made ++ m ∷ [] →
      AreMade view become uses s xs (i + 1) old next after
  one_made i old now next made after x m so_far low is same added whole = record {
    are = ap (map view) whole ∙ map-append view made (m ∷ []) ∙
        (λ j. so_far.are j ++ (same ∙ ap (λ n. become n x) so_far.added.count) j ∷ []) ∙
        sym (made_last become uses (length old.types.items) (take i xs) x)
        ∙ ap (all_made become uses (length old.types.items)) (sym longer);
    added = subst (λ us. AreAdded s us old next) (sym (used_last uses (take i xs) x) ∙ ap (all_used uses) (sym longer))
        (both_added s (all_used uses (take i xs)) (uses x) old now next so_far.added added);
  }
    where
      longer : take (i + 1) xs ≡ take i xs ++ x ∷ []
      longer = take_more xs i x low ∙ ap (λ y. take i xs ++ y ∷ []) (sym is)

  -- all of them are made at the end
  pub made_are : (i : ℕ) (old now : TypeList) (made : List M) → AreMade view become uses s xs i old now made → length xs ≤ i →
      map view made ≡ all_made become uses (length old.types.items) xs
  made_are i old now made all long = all.are ∙ ap (all_made become uses (length old.types.items)) (take_all i xs long)

  -- and the types of all put behind others
  pub made_added : (i : ℕ) (old now : TypeList) (made : List M) → AreMade view become uses s xs i old now made → length xs ≤ i →
      AreAdded s (all_used uses xs) old now
  made_added i old now made all long = subst (λ ys. AreAdded s (all_used uses ys) old now) (take_all i xs long) all.added

-- a type becomes its number
abbrev pub its_number : ℕ → WrittenTree → ℕ
its_number n w = n

-- and it is put behind others itself
abbrev pub its_type : WrittenTree → List TypeUse
its_type w = with_variables w ∷ []

numbers_are : (n : ℕ) (ws : List WrittenTree) → all_made its_number its_type n ws ≡ from n ws
numbers_are n [] = refl
numbers_are n (w ∷ ws) = ap (λ ns. n ∷ ns) (ap (λ k. all_made its_number its_type k ws) (add-one n) ∙ numbers_are (suc n) ws)

types_are : (ws : List WrittenTree) → all_used its_type ws ≡ map with_variables ws
types_are [] = refl
types_are (w ∷ ws) = ap (λ us. with_variables w ∷ us) (types_are ws)

module _ (s : Surroundings) (ws : List WrittenTree) (i : ℕ) (old now : TypeList) (made : List ℕ)
    (all : AreMade (λ (n : ℕ). n) its_number its_type s ws i old now made) (long : length ws ≤ i) where
  -- the numbers of all types
  pub all_numbers : made ≡ from (length old.types.items) ws
  all_numbers = sym (map-id made) ∙ made_are (λ (n : ℕ). n) its_number its_type s ws i old now made all long
      ∙ numbers_are (length old.types.items) ws

  -- and that all are put behind others
  pub all_types : AreAdded s (map with_variables ws) old now
  all_types = subst (λ us. AreAdded s us old now) (types_are ws)
      (made_added (λ (n : ℕ). n) its_number its_type s ws i old now made all long)
