-- Tables that have the first thing under each name, as they grow.
use Rattle.std.proofs.Common.{◌≡◌, ◌∙◌, ℕ, suc, Bool, true, false, List, [], ◌∷◌, ◌++◌, length, length-append, map, Option, Some, None, refl, sym, ap, subst, arith}
use Rattle.std.specs.Prelude.{option_map, option_and_then, slice_get, if◌then◌else◌}
use Rattle.std.specs.Str.{bytes_eq}
use Rattle.std.proofs.lemmas.List.{map-append}
use Rattle.std.proofs.lemmas.Slice.Eq.{bytes_eq-Decides}
use Rattle.fst_terms.specs.declared.binder.Binder.{Binder}
use Rattle.fst_terms.specs.Naming.{place_of, or_else, is_there}
use Rattle.fst_scopes.specs.declared.fault.NameFault.{NameFault}
use Rattle.fst_scopes.specs.Faults.{is_among}
use Rattle.fst_scopes.specs.First.{first_from}
use Rattle.fst_scopes.specs.Kept.{with_name}
use Rattle.fst_scopes.specs.Scopes.{of_name}
use Rattle.fst_scopes.specs.Twice.{AreNames, names, twice, twice_if}
use Rattle.fst_scopes.proofs.Laws.{IsNoted, none_noted, one_noted, first_append, no_first, none_named}
use Rattle.fst_declarations.specs.Tables.{IsKept, IsTable, binders_of, first_under, with_entry}

-- ---- first things

if_or : {A : Type 0} (c : Bool) (x : A) (o p : Option A) →
    (if c then Some x else or_else o p) ≡ or_else (if c then Some x else o) p
if_or true x o p = refl
if_or false x o p = refl

or_none : {A : Type 0} (o : Option A) → or_else o None ≡ o
or_none (Some a) = refl
or_none None = refl

or_there : {A : Type 0} (o p : Option A) → is_there o ≡ true → or_else o p ≡ o
or_there (Some a) p h = refl
or_there None p h = absurd (cc h)

-- the first of some things and of more behind them
pub under_append : {A : Type 0} (things more : List (Binder × A)) (x : List ℕ) →
    first_under (things ++ more) x ≡ or_else (first_under things x) (first_under more x)
under_append [] more x = refl
under_append (t ∷ things) more x =
    ap (λ o. if bytes_eq x t.0.name then Some t.1 else o) (under_append things more x)
    ∙ if_or (bytes_eq x t.0.name) t.1 (first_under things x) (first_under more x)

-- ---- entries by names

-- one name in front of others
pub named_first : {E : Type 0} (known : List (List ℕ)) (entries : List E) (y : List ℕ) (e : E) (x : List ℕ) →
    of_name (y ∷ known) (e ∷ entries) x ≡ (if bytes_eq x y then Some e else of_name known entries x)
named_first known entries y e x = pick (bytes_eq x y) (place_of known x)
  where
    pick : (c : Bool) (o : Option ℕ) → option_and_then (λ k. slice_get (e ∷ entries) k) (if c then Some 0 else option_map suc o) ≡
        (if c then Some e else option_and_then (λ k. slice_get entries k) o)
    pick true o = refl
    pick false (Some k) = refl
    pick false None = refl

-- one name behind others
named_last : {E : Type 0} (known : List (List ℕ)) (entries : List E) (y : List ℕ) (e : E) (x : List ℕ) →
    length entries ≡ length known →
    of_name (known ++ y ∷ []) (entries ++ e ∷ []) x ≡ or_else (of_name known entries x) (if bytes_eq x y then Some e else None)
named_last [] [] y e x paired = named_first [] [] y e x
named_last [] (d ∷ entries) y e x paired = absurd (omega (arith, paired))
named_last (z ∷ known) [] y e x paired = absurd (omega (arith, paired))
named_last (z ∷ known) (d ∷ entries) y e x paired =
    let rest = named_last known entries y e x (omega (arith, paired)) in
    named_first (known ++ y ∷ []) (entries ++ e ∷ []) z d x ∙ ap (λ o. if bytes_eq x z then Some d else o) rest ∙
    if_or (bytes_eq x z) d (of_name known entries x) (if bytes_eq x y then Some e else None) ∙
    ap (λ o. or_else o (if bytes_eq x y then Some e else None)) (sym (named_first known entries z d x))

-- a name has an entry where it is among the names
there_named : {E : Type 0} (known : List (List ℕ)) (entries : List E) (x : List ℕ) → length entries ≡ length known →
    is_there (of_name known entries x) ≡ is_among known x
there_named [] entries x paired = refl
there_named (z ∷ known) [] x paired = absurd (omega (arith, paired))
there_named (z ∷ known) (d ∷ entries) x paired = ap is_there (named_first known entries z d x)
    ∙ pick (bytes_eq x z) (there_named known entries x (omega (arith, paired)))
  where
    later : (o : Option ℕ) → is_there o ≡ is_there (option_map suc o)
    later (Some k) = refl
    later None = refl

    pick : (c : Bool) → is_there (of_name known entries x) ≡ is_among known x →
        is_there (if c then Some d else of_name known entries x) ≡ is_there
        (if c then Some 0 else option_map suc (place_of known x))
    pick true e = refl
    pick false e = e ∙ later (place_of known x)

there_mapped : {E A : Type 0} (f : E → A) (o : Option E) → is_there (option_map f o) ≡ is_there o
there_mapped f (Some e) = refl
there_mapped f None = refl

-- what belongs to the first thing under a name, where things belong to the names by their places
pub under_named : {A B : Type 0} (g : A → B) (things : List (Binder × A)) (x : List ℕ) →
    option_map g (first_under things x) ≡ of_name (names (binders_of things)) (map (λ (t : Binder × A). g t.1) things) x
under_named g [] x = refl
under_named {A = A} g (t ∷ things) x =
    pick (bytes_eq x t.0.name) ∙ ap (λ o. if bytes_eq x t.0.name then Some (g t.1) else o) (under_named g things x) ∙
    sym (named_first (names (binders_of things)) (map (λ (u : Binder × A). g u.1) things) t.0.name (g t.1) x)
  where
    pick : (c : Bool) → option_map g (if c then Some t.1 else first_under things x)
        ≡ (if c then Some (g t.1) else option_map g (first_under things x))
    pick true = refl
    pick false = refl

-- ---- tables

-- no things
pub none_kept : {E A : Type 0} (f : E → A) (old : Option NameFault) → IsKept f old [] [] [] old
none_kept f old = record {
  names_are = (none_noted old).names_are;
  noted = (none_noted old).kept_is;
  table = record { paired = refl; found = λ x. refl; own = λ e. refl };
}

-- the names of one more thing
binders_push : {A : Type 0} (things : List (Binder × A)) (b : Binder) (a : A) →
    binders_of (things ++ (b, a) ∷ []) ≡ binders_of things ++ b ∷ []
binders_push {A = A} things b a = map-append (λ (t : Binder × A). t.0) things ((b, a) ∷ [])

-- one more name, which is put behind others where it isn't among them
pub one_more : (bs : List Binder) (b : Binder) (known : List (List ℕ)) → AreNames bs known →
    IsNoted None (bs ++ b ∷ []) (with_name known b.name)
    (first_from (first_from None (twice bs)) (twice_if (is_among known b.name) b))
one_more bs b known are =
    one_noted None (first_from None (twice bs)) (first_from (first_from None (twice bs)) (twice_if (is_among known b.name) b)) bs
    (bs ++ b ∷ []) b known (with_name known b.name)
    (record { names_are = are; kept_is = refl }) refl refl refl

-- the same where nothing is noted
pub more_names : (bs all : List Binder) (b : Binder) (known after : List (List ℕ)) → AreNames bs known → all ≡ bs ++ b ∷ [] →
    after ≡ with_name known b.name → AreNames all after
more_names bs all b known after are is put = subst
    (λ z. AreNames z after) (sym is) (subst (AreNames (bs ++ b ∷ [])) (sym put) (one_more bs b known are).names_are)

-- no more names
pub same_names : (bs all : List Binder) (known after : List (List ℕ)) → AreNames bs known → all ≡ bs → after ≡ known →
    AreNames all after
same_names bs all known after are is put = subst (λ z. AreNames z after) (sym is) (subst (AreNames bs) (sym put) are)

-- where no name stands twice, the last one is new
once : (bs : List Binder) (b : Binder) (known : List (List ℕ)) → AreNames bs known → twice (bs ++ b ∷ []) ≡ [] → (twice bs ≡ []) ×
    (twice_if (is_among known b.name) b ≡ [])
once bs b known are e =
    none_named (twice bs) (twice_if (is_among known b.name) b)
    (no_first (twice bs ++ twice_if (is_among known b.name) b)
    (first_append None (twice bs) (twice_if (is_among known b.name) b) ∙ (one_more bs b known are).kept_is
    ∙ ap (first_from None) e))

-- a name that is there already
pub table_old : {E A : Type 0} (f : E → A) (things : List (Binder × A)) (b : Binder) (a : A) (known : List (List ℕ))
    (entries : List E) → AreNames (binders_of things) known → IsTable f things known entries →
    is_among known b.name ≡ true → IsTable f (things ++ (b, a) ∷ []) known entries
table_old {A = A} f things b a known entries are t here = record {
  paired = t.paired;
  found = λ x. t.found x ∙ same x (bytes_eq x b.name) refl ∙ sym (under_append things ((b, a) ∷ []) x);
  own = λ e. absurd (cc ((once (binders_of things) b known are (ap twice (sym (binders_push things b a)) ∙ e)).1, here));
}
  where
    there : is_there (first_under things b.name) ≡ true
    there = ap is_there (sym (t.found b.name)) ∙ there_mapped f (of_name known entries b.name)
        ∙ there_named known entries b.name t.paired ∙ here

    same : (x : List ℕ) (c : Bool) → bytes_eq x b.name ≡ c →
        first_under things x ≡ or_else (first_under things x) (if c then Some a else None)
    same x true is = let eq = (bytes_eq-Decides x b.name).0 is in
        sym (or_there (first_under things x) (Some a) (ap (λ y. is_there (first_under things y)) eq ∙ there))
    same x false is = sym (or_none (first_under things x))

-- a new name
pub table_new : {E A : Type 0} (f : E → A) (things : List (Binder × A)) (b : Binder) (e : E) (known : List (List ℕ))
    (entries : List E) → AreNames (binders_of things) known → IsTable f things known entries →
    IsTable f (things ++ (b, f e) ∷ []) (known ++ b.name ∷ []) (entries ++ e ∷ [])
table_new {E = E} {A = A} f things b e known entries are t = record {
  paired = let one = length-append entries (e ∷ []) in let two = length-append known (b.name ∷ []) in let same = t.paired in
      omega (arith, one, two, same);
  found = λ x.
      ap (option_map f) (named_last known entries b.name e x t.paired) ∙ mapped (of_name known entries x) (bytes_eq x b.name) ∙
      ap (λ o. or_else o (if bytes_eq x b.name then Some (f e) else None)) (t.found x)
      ∙ sym (under_append things ((b, f e) ∷ []) x);
  own = λ once_each.
      map-append f entries (e ∷ []) ∙ ap (λ z. z ++ f e ∷ [])
      (t.own (once (binders_of things) b known are (ap twice (sym (binders_push things b (f e))) ∙ once_each)).0) ∙
      sym (map-append (λ (t : Binder × A). t.1) things ((b, f e) ∷ []));
}
  where
    mapped : (o : Option E) (c : Bool) → option_map f (or_else o (if c then Some e else None)) ≡ or_else (option_map f o)
        (if c then Some (f e) else None)
    mapped (Some d) c = refl
    mapped None true = refl
    mapped None false = refl

-- one more thing
pub one_kept : {E A : Type 0} (f : E → A) (old kept new : Option NameFault) (things all : List (Binder × A)) (b : Binder) (e : E)
    (known after : List (List ℕ)) (entries whole : List E) →
    IsKept f old things known entries kept → all ≡ things ++ (b, f e) ∷ [] → after ≡ with_name known b.name →
    whole ≡ with_entry known b.name entries e → new ≡ first_from kept (twice_if (is_among known b.name) b) →
    IsKept f old all after whole new
one_kept f old kept new things all b e known after entries whole before is put entered told = subst
    (λ z. IsKept f old z after whole new) (sym is) (record {
      names_are = noted.names_are;
      noted = noted.kept_is;
      table = pick (is_among known b.name) refl;
    })
  where
    noted : IsNoted old (binders_of (things ++ (b, f e) ∷ [])) after new
    noted = one_noted old kept new (binders_of things) (binders_of (things ++ (b, f e) ∷ [])) b known after
        (record { names_are = before.names_are; kept_is = before.noted }) (binders_push things b (f e)) put told

    pick : (c : Bool) → is_among known b.name ≡ c → IsTable f (things ++ (b, f e) ∷ []) after whole
    pick true here =
        subst (λ z. IsTable f (things ++ (b, f e) ∷ []) z whole)
        (sym (put ∙ ap (λ c. if c then known else known ++ b.name ∷ []) here))
        (subst (IsTable f (things ++ (b, f e) ∷ []) known)
        (sym (entered ∙ ap (λ c. if c then entries else entries ++ e ∷ []) here))
        (table_old f things b (f e) known entries before.names_are before.table here))
    pick false here =
        subst (λ z. IsTable f (things ++ (b, f e) ∷ []) z whole)
        (sym (put ∙ ap (λ c. if c then known else known ++ b.name ∷ []) here))
        (subst (IsTable f (things ++ (b, f e) ∷ []) (known ++ b.name ∷ []))
        (sym (entered ∙ ap (λ c. if c then entries else entries ++ e ∷ []) here))
        (table_new f things b e known entries before.names_are before.table))

-- no more things
pub same_kept : {E A : Type 0} (f : E → A) (old kept new : Option NameFault) (things all : List (Binder × A))
    (known after : List (List ℕ)) (entries whole : List E) →
    IsKept f old things known entries kept → all ≡ things → after ≡ known → whole ≡ entries → new ≡ kept →
    IsKept f old all after whole new
same_kept f old kept new things all known after entries whole before is put entered told =
    subst (λ z. IsKept f old z after whole new) (sym is) (subst (λ z. IsKept f old things z whole new) (sym put)
    (subst (λ z. IsKept f old things known z new) (sym entered) (subst (IsKept f old things known entries) (sym told) before)))
