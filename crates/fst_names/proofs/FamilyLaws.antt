-- The data types of a module and their constructors, which stand as the text has them.
use Rattle.std.proofs.Common.{◌≡◌, ◌∙◌, ◌⊎◌, inl, inr, ℕ, suc, ◌+◌, ◌≤◌, ◌<◌, Bool, true, false, List, [], ◌∷◌, ◌++◌, length, map, Option, Some, refl, sym, ap, subst, arith}
use Rattle.std.specs.Prelude.{slice_get, if◌then◌else◌}
use Rattle.std.specs.Str.{bytes_eq}
use Rattle.std.proofs.lemmas.List.{length-append, map-append}
use Rattle.std.proofs.lemmas.Option.{same_Some}
use Rattle.fst_types.specs.declared.family.Family.{Family}
use Rattle.fst_types.specs.declared.family.Maker as code
use Rattle.fst_terms.specs.Filled.{HasMaker, IsModuleFilled}
use Rattle.fst_terms.specs.InRange as core
use Rattle.fst_terms.specs.InRange.{maker_named, maker_of, HasFields, AreNumbersBelow, HaveFieldsInRange, AreFamilies}
use Rattle.fst_terms.specs.ModuleTree.{Maker, Declared, family, alias, signature, equation}
use Rattle.fst_terms.specs.declared.binder.Binder.{Binder}
use Rattle.fst_scopes.specs.Scopes.{of_name}
use Rattle.fst_scopes.specs.Twice.{names}
use Rattle.fst_scopes.specs.TypeNames.{data_type, other_name, declared_from}
use Rattle.fst_term_names.specs.CoreTerms.{from}
use Rattle.fst_term_names.specs.TermTypes.{written_in}
use Rattle.fst_declarations.specs.ModuleNames.{makers, fields_of}
use Rattle.fst_declarations.specs.MakerNumbers.{numbers_from, maker_numbers}
use Rattle.fst_names.specs.Modules.{field_types, makers_from, families_from, family_parts}
use Rattle.fst_names.proofs.CountLaws.{types_there}
use Rattle.fst_names.proofs.OnceLaws.{own_here, own_next}
use Rattle.fst_names.proofs.RangeLaws.{from_long, from_below}

-- a constructor that the code keeps, by its name and its fields
abbrev maker_parts : code.Maker → List ℕ × List ℕ
maker_parts m = (m.name, m.fields.items)

-- lists that are one have one first item
pub heads : {A : Type 0} (x y : A) (xs ys : List A) → x ∷ xs ≡ y ∷ ys → x ≡ y
heads x y xs ys e = cc

-- and the same behind it
pub tails : {A : Type 0} (x y : A) (xs ys : List A) → x ∷ xs ≡ y ∷ ys → xs ≡ ys
tails x y xs ys e = cc

-- ---- numbers of types

-- the fields of constructors are below what the last of them is below
fields_below : (top n : ℕ) (ms : List Maker) (cs : List code.Maker) → map maker_parts cs ≡ makers_from n ms →
    n + length (field_types ms) ≤ top → HaveFieldsInRange top cs
fields_below top n ms [] e low = tt
fields_below top n [] (a ∷ cs) e low = absurd (cc e)
fields_below top n (m ∷ ms) (a ∷ cs) e low =
    let first = ap (λ p. p.1) (heads (maker_parts a) (m.name.name, from n m.fields) (map maker_parts cs)
    (makers_from (n + length m.fields) ms) e) in
    let rest = tails (maker_parts a) (m.name.name, from n m.fields) (map maker_parts cs)
    (makers_from (n + length m.fields) ms) e in
    let long = length-append m.fields (field_types ms) in (
      subst (AreNumbersBelow top) (sym first) (from_below top n m.fields (omega (arith, low, long))),
      fields_below top (n + length m.fields) ms cs rest (omega (arith, low, long)),
    )

-- a data type has a constructor
some_maker : (n : ℕ) (ms : List Maker) (cs : List code.Maker) → map maker_parts cs ≡ makers_from n ms → HasMaker ms →
    0 < length cs
some_maker n [] cs e h = absurd h
some_maker n (m ∷ ms) [] e h = absurd (cc e)
some_maker n (m ∷ ms) (a ∷ cs) e h = omega arith

-- the data types are in range
pub families_in_range : (top n : ℕ) (ds : List Declared) (fs : List Family) → map family_parts fs ≡ families_from n ds →
    IsModuleFilled ds → n + types_there ds ≤ top → AreFamilies top fs
families_in_range top n [] [] e filled low = tt
families_in_range top n [] (f ∷ fs) e filled low = absurd (cc e)
families_in_range top n (family x ms ∷ ds) [] e filled low = absurd (cc e)
families_in_range top n (family x ms ∷ ds) (f ∷ fs) e filled low =
    let first = ap (λ p. p.1) (heads (family_parts f) (x.name, makers_from n ms) (map family_parts fs)
    (families_from (n + length (field_types ms)) ds) e) in
    let rest = tails (family_parts f) (x.name, makers_from n ms) (map family_parts fs)
    (families_from (n + length (field_types ms)) ds) e in (
      some_maker n ms f.makers.items first filled.0.0,
      fields_below top n ms f.makers.items first (omega (arith, low)),
      families_in_range top (n + length (field_types ms)) ds fs rest filled.1 (omega (arith, low)),
    )
families_in_range top n (alias x w ∷ ds) fs e filled low = families_in_range top (suc n) ds fs e filled.1 (omega (arith, low))
families_in_range top n (signature x bs w ∷ ds) fs e filled low =
    families_in_range top (suc n) ds fs e filled.1 (omega (arith, low))
families_in_range top n (equation x ps t ∷ ds) fs e filled low =
    families_in_range top (n + length (written_in t)) ds fs e filled.1 (omega (arith, low))

-- ---- numbers of data types

-- how many data types some declarations have
abbrev pub families_there : List Declared → ℕ
families_there [] = 0
families_there (family x ms ∷ ds) = suc (families_there ds)
families_there (alias x w ∷ ds) = families_there ds
families_there (signature x bs w ∷ ds) = families_there ds
families_there (equation x ps t ∷ ds) = families_there ds

-- each has a place in the module
pub families_long : (n : ℕ) (ds : List Declared) → length (families_from n ds) ≡ families_there ds
families_long n [] = refl
families_long n (family x ms ∷ ds) = ap suc (families_long (n + length (field_types ms)) ds)
families_long n (alias x w ∷ ds) = families_long (suc n) ds
families_long n (signature x bs w ∷ ds) = families_long (suc n) ds
families_long n (equation x ps t ∷ ds) = families_long (n + length (written_in t)) ds

-- what is declared as a data type has the number of one
pub family_below : (k : ℕ) (ds : List Declared) (x : List ℕ) (j : ℕ) → declared_from k ds x ≡ Some (data_type j) →
    j < k + families_there ds
family_below k [] x j e = absurd (cc e)
family_below k (family y ms ∷ ds) x j e = pick (bytes_eq x y.name) (family_below (suc k) ds x j) e
  where
    pick : (c : Bool) → (declared_from (suc k) ds x ≡ Some (data_type j) → j < suc k + families_there ds) →
        (if c then Some (data_type k) else declared_from (suc k) ds x) ≡ Some (data_type j) →
        j < k + suc (families_there ds)
    pick true rest h = let same : k ≡ j = cc in omega (arith, same)
    pick false rest h = let low = rest h in omega (arith, low)
family_below k (alias y w ∷ ds) x j e = pick (bytes_eq x y.name) (family_below k ds x j) e
  where
    pick : (c : Bool) → (declared_from k ds x ≡ Some (data_type j) → j < k + families_there ds) →
        (if c then Some (other_name w) else declared_from k ds x) ≡ Some (data_type j) → j < k + families_there ds
    pick true rest h = absurd (cc h)
    pick false rest h = rest h
family_below k (signature y bs w ∷ ds) x j e = family_below k ds x j e
family_below k (equation y ps t ∷ ds) x j e = family_below k ds x j e

-- ---- constructors by their names

-- the names of constructors are those in the text
makers_named : (n : ℕ) (ms : List Maker) (cs : List code.Maker) → map maker_parts cs ≡ makers_from n ms → map
    (λ (a : code.Maker). a.name) cs ≡ names (map (λ (m : Maker). m.name) ms)
makers_named n [] [] e = refl
makers_named n [] (a ∷ cs) e = absurd (cc e)
makers_named n (m ∷ ms) [] e = absurd (cc e)
makers_named n (m ∷ ms) (a ∷ cs) e =
    let first = ap (λ p. p.0) (heads (maker_parts a) (m.name.name, from n m.fields) (map maker_parts cs)
    (makers_from (n + length m.fields) ms) e) in
    let rest = makers_named (n + length m.fields) ms cs
    (tails (maker_parts a) (m.name.name, from n m.fields) (map maker_parts cs) (makers_from (n + length m.fields) ms) e) in
    λ i. first i ∷ rest i

-- so are those of all constructors
pub all_makers_named : (n : ℕ) (ds : List Declared) (fs : List Family) → map family_parts fs ≡ families_from n ds →
    map (λ (a : code.Maker). a.name) (core.makers fs) ≡ names (map (λ (m : Maker). m.name) (makers ds))
all_makers_named n [] [] e = refl
all_makers_named n [] (f ∷ fs) e = absurd (cc e)
all_makers_named n (family x ms ∷ ds) [] e = absurd (cc e)
all_makers_named n (family x ms ∷ ds) (f ∷ fs) e =
    let first = ap (λ p. p.1) (heads (family_parts f) (x.name, makers_from n ms) (map family_parts fs)
    (families_from (n + length (field_types ms)) ds) e) in
    let rest = tails (family_parts f) (x.name, makers_from n ms) (map family_parts fs)
    (families_from (n + length (field_types ms)) ds) e in
    map-append (λ (a : code.Maker). a.name) f.makers.items (core.makers fs) ∙
    ap (λ zs. zs ++ map (λ (a : code.Maker). a.name) (core.makers fs)) (makers_named n ms f.makers.items first) ∙
    ap (λ zs. names (map (λ (m : Maker). m.name) ms) ++ zs) (all_makers_named (n + length (field_types ms)) ds fs rest) ∙
    sym (ap names (map-append (λ (m : Maker). m.name) ms (makers ds)) ∙ map-append
    (λ (b : Binder). b.name) (map (λ (m : Maker). m.name) ms) (map (λ (m : Maker). m.name) (makers ds)))
all_makers_named n (alias x w ∷ ds) fs e = all_makers_named (suc n) ds fs e
all_makers_named n (signature x bs w ∷ ds) fs e = all_makers_named (suc n) ds fs e
all_makers_named n (equation x ps t ∷ ds) fs e = all_makers_named (n + length (written_in t)) ds fs e

-- the names of constructors, and what belongs to a name
abbrev own : List Maker → List (ℕ × ℕ) → List ℕ → Option (ℕ × ℕ)
own ms vs x = of_name (names (map (λ (m : Maker). m.name) ms)) vs x

-- the constructor with a name is found in a data type, as the j-th or one behind it
record IsHere (k j m : ℕ) (ms : List Maker) (vs : List (ℕ × ℕ)) (cs bs : List code.Maker) (x : List ℕ) : Type 0 where
  number : ℕ
  numbered : own ms vs x ≡ Some (k, j + number)
  fields : HasFields (slice_get cs number) m
  first : HasFields (maker_named x bs) m

-- or it is one of those of the further data types
record IsLater (m : ℕ) (ms more : List Maker) (vs rest : List (ℕ × ℕ)) (bs others : List code.Maker) (x : List ℕ) : Type 0 where
  fields : fields_of more x ≡ Some m
  numbered : own ms vs x ≡ own more rest x
  first : maker_named x bs ≡ maker_named x others

-- the first of some constructors has the name
maker_here : (a : code.Maker) (cs : List code.Maker) (x : List ℕ) → bytes_eq x a.name ≡ true → maker_named x (a ∷ cs) ≡ Some a
maker_here a cs x e = ap (λ c. if c then Some a else maker_named x cs) e

-- or it hasn't
maker_next : (a : code.Maker) (cs : List code.Maker) (x : List ℕ) → bytes_eq x a.name ≡ false →
    maker_named x (a ∷ cs) ≡ maker_named x cs
maker_next a cs x e = ap (λ c. if c then Some a else maker_named x cs) e

module _ (k : ℕ) (more : List Maker) (rest : List (ℕ × ℕ)) (others : List code.Maker) (x : List ℕ) (m : ℕ) where
  -- which of the two it is, for the constructors of one data type
  in_family : (n j : ℕ) (ms : List Maker) (cs : List code.Maker) → map maker_parts cs ≡ makers_from n ms →
      fields_of (ms ++ more) x ≡ Some m →
      IsHere k j m (ms ++ more) (numbers_from k j ms ++ rest) cs (cs ++ others) x ⊎
      IsLater m (ms ++ more) more (numbers_from k j ms ++ rest) rest (cs ++ others) others x
  in_family n j [] [] e f = inr (record { fields = f; numbered = refl; first = refl })
  in_family n j [] (a ∷ cs) e f = absurd (cc e)
  in_family n j (c ∷ ms) [] e f = absurd (cc e)
  in_family n j (c ∷ ms) (a ∷ cs) e f =
      pick (bytes_eq x c.name.name) refl f (in_family (n + length c.fields) (suc j) ms cs
      (tails (maker_parts a) (c.name.name, from n c.fields) (map maker_parts cs) (makers_from (n + length c.fields) ms) e))
    where
      head : maker_parts a ≡ (c.name.name, from n c.fields)
      head = heads (maker_parts a) (c.name.name, from n c.fields) (map maker_parts cs) (makers_from (n + length c.fields) ms) e

      same_name : bytes_eq x a.name ≡ bytes_eq x c.name.name
      same_name = ap (λ p. bytes_eq x p.0) head

      as_long : length a.fields.items ≡ length c.fields
      as_long = ap (λ p. length p.1) head ∙ from_long n c.fields

      behind : bytes_eq x c.name.name ≡ false →
          IsHere k (suc j) m (ms ++ more) (numbers_from k (suc j) ms ++ rest) cs (cs ++ others) x ⊎
          IsLater m (ms ++ more) more (numbers_from k (suc j) ms ++ rest) rest (cs ++ others) others x →
          IsHere k j m (c ∷ ms ++ more) ((k, j) ∷ numbers_from k (suc j) ms ++ rest) (a ∷ cs) (a ∷ cs ++ others) x ⊎
          IsLater m (c ∷ ms ++ more) more ((k, j) ∷ numbers_from k (suc j) ms ++ rest) rest (a ∷ cs ++ others) others x
      behind is (inl h) = inl (record {
        number = suc h.number;
        numbered = own_next c.name.name (names (map (λ (z : Maker). z.name) (ms ++ more))) (k, j)
            (numbers_from k (suc j) ms ++ rest) x is ∙ h.numbered ∙ ap (λ i. Some (k, i)) (omega arith);
        fields = h.fields;
        first = subst (λ o. HasFields o m) (sym (maker_next a (cs ++ others) x (same_name ∙ is))) h.first;
      })
      behind is (inr h) = inr (record {
        fields = h.fields;
        numbered = own_next c.name.name (names (map (λ (z : Maker). z.name) (ms ++ more))) (k, j)
            (numbers_from k (suc j) ms ++ rest) x is ∙ h.numbered;
        first = maker_next a (cs ++ others) x (same_name ∙ is) ∙ h.first;
      })

      pick : (b : Bool) → bytes_eq x c.name.name ≡ b → (if b then Some (length c.fields) else fields_of (ms ++ more) x) ≡ Some m →
          (fields_of (ms ++ more) x ≡ Some m → IsHere k (suc j) m (ms ++ more) (numbers_from k (suc j) ms ++ rest) cs
          (cs ++ others) x ⊎
          IsLater m (ms ++ more) more (numbers_from k (suc j) ms ++ rest) rest (cs ++ others) others x) →
          IsHere k j m (c ∷ ms ++ more) ((k, j) ∷ numbers_from k (suc j) ms ++ rest) (a ∷ cs) (a ∷ cs ++ others) x ⊎
          IsLater m (c ∷ ms ++ more) more ((k, j) ∷ numbers_from k (suc j) ms ++ rest) rest (a ∷ cs ++ others) others x
      pick true is f next =
          let long = as_long ∙ same_Some (length c.fields) m f in
          inl (record {
            number = 0;
            numbered = own_here c.name.name (names (map (λ (z : Maker). z.name) (ms ++ more))) (k, j)
                (numbers_from k (suc j) ms ++ rest) x is ∙ ap (λ i. Some (k, i)) (omega arith);
            fields = long;
            first = subst (λ o. HasFields o m) (sym (maker_here a (cs ++ others) x (same_name ∙ is))) long;
          })
      pick false is f next = behind is (next f)

-- the numbers of a constructor, where so many data types stand before
pub record IsNumbered (k m : ℕ) (ds : List Declared) (fs : List Family) (x : List ℕ) : Type 0 where
  pub its_family : ℕ
  pub number : ℕ
  pub numbered : own (makers ds) (maker_numbers k ds) x ≡ Some (k + its_family, number)
  pub fields : HasFields (maker_of (slice_get fs its_family) number) m
  pub first : HasFields (maker_named x (core.makers fs)) m

-- each constructor with fields has its numbers, and is the first of its name
pub numbered : (k n : ℕ) (ds : List Declared) (fs : List Family) → map family_parts fs ≡ families_from n ds →
    (x : List ℕ) (m : ℕ) → fields_of (makers ds) x ≡ Some m → IsNumbered k m ds fs x
numbered k n [] fs e x m f = absurd (cc f)
numbered k n (family y ms ∷ ds) [] e x m f = absurd (cc e)
numbered k n (family y ms ∷ ds) (g ∷ fs) e x m f =
    either (in_family k (makers ds) (maker_numbers (suc k) ds) (core.makers fs) x m n 0 ms g.makers.items first f)
    (numbered (suc k) (n + length (field_types ms)) ds fs rest x m)
  where
    first : map maker_parts g.makers.items ≡ makers_from n ms
    first = ap (λ p. p.1) (heads (family_parts g) (y.name, makers_from n ms) (map family_parts fs)
        (families_from (n + length (field_types ms)) ds) e)

    rest : map family_parts fs ≡ families_from (n + length (field_types ms)) ds
    rest = tails (family_parts g) (y.name, makers_from n ms) (map family_parts fs)
        (families_from (n + length (field_types ms)) ds) e

    either : IsHere k 0 m (ms ++ makers ds) (numbers_from k 0 ms ++ maker_numbers (suc k) ds) g.makers.items
        (g.makers.items ++ core.makers fs) x ⊎
        IsLater m (ms ++ makers ds) (makers ds) (numbers_from k 0 ms ++ maker_numbers (suc k) ds) (maker_numbers (suc k) ds)
        (g.makers.items ++ core.makers fs) (core.makers fs) x →
        (fields_of (makers ds) x ≡ Some m → IsNumbered (suc k) m ds fs x) → IsNumbered k m (family y ms ∷ ds) (g ∷ fs) x
    either (inl h) next = record {
      its_family = 0;
      number = h.number;
      numbered = h.numbered ∙ λ i. Some (zero_more k i, none_before h.number i);
      fields = h.fields;
      first = h.first;
    }
      where
        zero_more : (i : ℕ) → i ≡ i + 0
        zero_more i = omega arith

        none_before : (i : ℕ) → 0 + i ≡ i
        none_before i = omega arith
    either (inr h) next =
        let found = next h.fields in
        record {
          its_family = suc found.its_family;
          number = found.number;
          numbered = h.numbered ∙ found.numbered ∙ ap (λ i. Some (i, found.number)) (omega arith);
          fields = found.fields;
          first = subst (λ o. HasFields o m) (sym h.first) found.first;
        }
numbered k n (alias y w ∷ ds) fs e x m f = again (numbered k (suc n) ds fs e x m f)
  where
    again : IsNumbered k m ds fs x → IsNumbered k m (alias y w ∷ ds) fs x
    again h = record { its_family = h.its_family; number = h.number; numbered = h.numbered; fields = h.fields; first = h.first }
numbered k n (signature y bs w ∷ ds) fs e x m f = again (numbered k (suc n) ds fs e x m f)
  where
    again : IsNumbered k m ds fs x → IsNumbered k m (signature y bs w ∷ ds) fs x
    again h = record { its_family = h.its_family; number = h.number; numbered = h.numbered; fields = h.fields; first = h.first }
numbered k n (equation y ps t ∷ ds) fs e x m f = again (numbered k (n + length (written_in t)) ds fs e x m f)
  where
    again : IsNumbered k m ds fs x → IsNumbered k m (equation y ps t ∷ ds) fs x
    again h = record { its_family = h.its_family; number = h.number; numbered = h.numbered; fields = h.fields; first = h.first }
