-- Which variables the table stands for, and what is found of a name in it.
use Rattle.std.proofs.Common.{◌≡◌, ◌∙◌, ◌-◌, ◌<◌, refl, sym, ap, subst, arith, ℕ, suc, List, [], ◌∷◌, ◌++◌, length, drop, reverse, Bool, true, false, Option, Some, None}
use Rattle.std.specs.Prelude.{if◌then◌else◌, option_map}
use Rattle.std.specs.List.{position_or_len}
use Rattle.std.specs.Option.{option_flatten}
use Rattle.std.specs.Str.{bytes_eq}
use Rattle.std.specs.Map.{keys_of, lookup}
use Rattle.std.proofs.lemmas.List.{reverse-append, length-map, length-reverse}
use Rattle.std.specs.declared.vec.Vec.{Vec}
use Rattle.std.specs.declared.alloc.Global.{Global}
use Rattle.indexmap.specs.IndexMap.{insert_entry}
use Rattle.indexmap.specs.Layout.{set_value_at}
use Rattle.fst_base.proofs.Bools.{same_text}
use Rattle.fst_terms.specs.Naming.{place_of}
use Rattle.fst_locals.specs.declared.locals.Open.{Open}
use Rattle.fst_locals.specs.Levels.{Entries, names, level_of, name_of, names_of, AreOpen, names_in, IsTable}
use Rattle.fst_locals.proofs.Entries.{name_at, place_within, found_is, place_kept, place_new, found_new, names_kept, found_set}

-- the innermost variable with a name by its level: so many stand between, and none does where there is no level
pub no_place : (ys : List (List ℕ)) (x : List ℕ) → level_of ys x ≡ None → place_of ys x ≡ None
no_place [] x h = refl
no_place (y ∷ ys) x h = by (bytes_eq x y) h (no_place ys x)
  where
    by : (c : Bool) → (if c then Some (length ys) else level_of ys x) ≡ None → (level_of ys x ≡ None → place_of ys x ≡ None) →
        (if c then Some 0 else option_map suc (place_of ys x)) ≡ None
    by true e rest = absurd (cc e)
    by false e rest = ap (option_map suc) (rest e)

pub place_at : (ys : List (List ℕ)) (x : List ℕ) (l : ℕ) → level_of ys x ≡ Some l → (l < length ys) ×
    (place_of ys x ≡ Some (length ys - 1 - l))
place_at [] x l h = absurd (cc h)
place_at (y ∷ ys) x l h = by (bytes_eq x y) h (place_at ys x l)
  where
    by : (c : Bool) → (if c then Some (length ys) else level_of ys x) ≡ Some l →
        (level_of ys x ≡ Some l → (l < length ys) × (place_of ys x ≡ Some (length ys - 1 - l))) →
        (l < suc (length ys)) × ((if c then Some 0 else option_map suc (place_of ys x)) ≡ Some (suc (length ys) - 1 - l))
    by true e rest = let same : length ys ≡ l = cc e in (omega arith, ap Some (omega arith))
    by false e rest =
        let r = rest e in
        let lt = r.0 in
        (omega arith, ap (option_map suc) r.1 ∙ ap Some (omega arith))

-- the innermost variable of some that were entered one after the other
last_first : (order : List Open) (o : Open) → reverse (order ++ o ∷ []) ≡ o ∷ reverse order
last_first order o = reverse-append order (o ∷ [])

pub length_names : (es : Entries) (order : List Open) → length (names_in es order) ≡ length order
length_names es order = length-map (reverse order) (name_of (names es)) ∙ length-reverse order

-- variables stay what they are where their names keep their places
open_kept : (xs ys : List (List ℕ)) → ((x : List ℕ) (k : ℕ) → place_of xs x ≡ Some k → place_of ys x ≡ Some k) →
    (opens : List Open) → AreOpen xs opens →
    AreOpen ys opens × (names_of ys opens ≡ names_of xs opens)
open_kept xs ys kept [] a = (tt, refl)
open_kept xs ys kept (o ∷ opens) a =
    let rest = open_kept xs ys kept opens a.2 in
    let there = kept (name_of xs o) o.index a.0 in
    let same : name_of ys o ≡ name_of xs o = name_at ys (name_of xs o) o.index there in
    ((ap (place_of ys) same ∙ there, a.1 ∙ sym (λ i. level_of (rest.1 i) (same i)), rest.0), λ i. same i ∷ rest.1 i)

-- a name that is looked up by a test for it
module _ (test : Vec ℕ Global → Bool) (x : List ℕ) (says : (k : Vec ℕ Global) → test k ≡ bytes_eq x k.items) (es : Entries)
    (order : List Open) (t : IsTable es order) where
  pub numbered : (l : ℕ) → option_flatten (lookup test es) ≡ Some l → (l < length order) ×
      (place_of (names_in es order) x ≡ Some (length order - 1 - l))
  numbered l h =
      let r = place_at (names_in es order) x l (sym (t.levels x) ∙ sym (found_is test x says es) ∙ h) in
      subst (λ n. (l < n) × (place_of (names_in es order) x ≡ Some (n - 1 - l))) (length_names es order) r

  pub not_numbered : option_flatten (lookup test es) ≡ None → place_of (names_in es order) x ≡ None
  not_numbered h = no_place (names_in es order) x (sym (t.levels x) ∙ sym (found_is test x says es) ∙ h)

-- a variable that is entered
module _ (eq : Vec ℕ Global → Vec ℕ Global → Bool) (says : (a b : Vec ℕ Global) → eq a b ≡ bytes_eq a.items b.items)
    (key : Vec ℕ Global) where
  pub entered : (es : Entries) (order : List Open) (o : Open) (n : ℕ) → IsTable es order → n ≡ length order →
      o.index ≡ position_or_len (eq key) (keys_of es) →
      o.hidden ≡ option_flatten (lookup (eq key) es) →
      IsTable (insert_entry eq es key (Some n)) (order ++ o ∷ []) ×
      (names_in (insert_entry eq es key (Some n)) (order ++ o ∷ []) ≡ key.items ∷ names_in es order)
  entered es order o n t level index hidden =
      let after : Entries = insert_entry eq es key (Some n) in
      let rest = open_kept (names es) (names after) (place_kept eq says key (Some n) es) (reverse order) t.opened in
      let there : place_of (names after) key.items ≡ Some o.index = place_new eq says key (Some n) es ∙ ap Some (sym index) in
      let same : name_of (names after) o ≡ key.items = name_at (names after) key.items o.index there in
      let hides : o.hidden ≡ level_of (names_in es order) key.items = hidden ∙ found_is (eq key) key.items (says key) es
      ∙ t.levels key.items in
      let opened : AreOpen (names after) (o ∷ reverse order) =
      (ap (place_of (names after)) same ∙ there, hides ∙ sym (λ i. level_of (rest.1 i) (same i)), rest.0) in
      let whole : names_in after (order ++ o ∷ []) ≡ key.items ∷ names_in es order =
      ap (names_of (names after)) (last_first order o) ∙ (λ i. same i ∷ rest.1 i) in (
        record {
          opened = subst (AreOpen (names after)) (sym (last_first order o)) opened;
          levels = λ x. found_new eq says key (Some n) es x
              ∙ (λ i. if bytes_eq x key.items then Some ((level ∙ sym (length_names es order)) i) else t.levels x i)
              ∙ sym (ap (λ ys. level_of ys x) whole);
        },
        whole,
      )

-- the innermost variable's name is in the table
pub last_within : (es : Entries) (order : List Open) (o : Open) → IsTable es (order ++ o ∷ []) → o.index < length es
last_within es order o t =
    let opened : AreOpen (names es) (o ∷ reverse order) = subst (AreOpen (names es)) (last_first order o) t.opened in
    let lt = place_within (names es) (name_of (names es) o) o.index opened.0 in
    subst (λ n. o.index < n) (length-map es (λ (e : Vec ℕ Global × Option ℕ). e.0.items)) lt

-- the innermost variable is left
pub left : (es : Entries) (order : List Open) (o : Open) → IsTable es (order ++ o ∷ []) →
    IsTable (set_value_at es o.index o.hidden) order ×
    (names_in (set_value_at es o.index o.hidden) order ≡ drop 1 (names_in es (order ++ o ∷ [])))
left es order o t =
    let after : Entries = set_value_at es o.index o.hidden in
    let opened : AreOpen (names es) (o ∷ reverse order) = subst (AreOpen (names es)) (last_first order o) t.opened in
    let x = name_of (names es) o in
    let whole : names_in es (order ++ o ∷ []) ≡ x ∷ names_in es order = ap (names_of (names es)) (last_first order o) in
    let table : names after ≡ names es = names_kept es o.index o.hidden in
    let same : names_in after order ≡ names_in es order = ap (λ xs. names_of xs (reverse order)) table in (
      record {
        opened = subst (λ xs. AreOpen xs (reverse order)) (sym table) opened.2;
        levels = λ y. found_set es o.index o.hidden x opened.0 y
            ∙ ap (λ r. if bytes_eq y x then o.hidden else r) (t.levels y ∙ ap (λ ys. level_of ys y) whole)
            ∙ put_back x (names_in es order) o.hidden opened.1 y
            ∙ sym (ap (λ ys. level_of ys y) same);
      },
      same ∙ sym (ap (drop 1) whole),
    )
  where
    pick : (ys : List (List ℕ)) (y : List ℕ) (h : Option ℕ) (l : Option ℕ) (c : Bool) → (c ≡ true → h ≡ l) →
        (if c then h else if c then Some (length ys) else l) ≡ l
    pick ys y h l true f = f refl
    pick ys y h l false f = refl

    put_back : (x : List ℕ) (ys : List (List ℕ)) (h : Option ℕ) → h ≡ level_of ys x → (y : List ℕ) →
        (if bytes_eq y x then h else level_of (x ∷ ys) y) ≡ level_of ys y
    put_back x ys h e y = pick ys y h (level_of ys y) (bytes_eq y x) (λ c. e ∙ sym (ap (level_of ys) (same_text y x c)))
