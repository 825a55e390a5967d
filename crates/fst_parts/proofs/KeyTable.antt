-- What a table over indexmap finds, in the list of keys that it stands for.
use Rattle.std.proofs.Common.{◌≡◌, ◌∙◌, ◌+◌, ◌≤◌, refl, sym, ap, subst, arith, ℕ, suc, List, [], ◌∷◌, ◌++◌, length, map, get_or, Bool, true, false, cond, not, ◌||◌, Some, None}
use Rattle.std.specs.Prelude.{if◌then◌else◌, nat_lt, slice_get, option_map}
use Rattle.std.proofs.lemmas.Option.{slice_get-map, get_or_from_slice_get}
use Rattle.std.specs.List.{position, position_or_len, list_any}
use Rattle.std.specs.Str.{bytes_eq}
use Rattle.std.proofs.lemmas.Bool.{ltb-false, lt-ltb}
use Rattle.std.proofs.lemmas.List.{map-append, length-map}
use Rattle.std.specs.Map.{keys_of}
use Rattle.std.specs.declared.vec.Vec.{Vec}
use Rattle.std.specs.declared.alloc.Global.{Global}
use Rattle.indexmap.specs.IndexMap.{insert_entry}
use Rattle.fst_base.proofs.Bools.{next_less}
use Rattle.fst_parts.specs.Keys.{place, with_key}
use Rattle.fst_parts.specs.Kept.{items_of}
use Rattle.fst_parts.proofs.KeyLaws.{place_within}

module _ (test : Vec ℕ Global → Bool) (key : List ℕ) (says : (k : Vec ℕ Global) → test k ≡ bytes_eq key k.items) where
  -- the place that the table finds
  pub place_is : (ks : List (Vec ℕ Global)) → position_or_len test ks ≡ place (map items_of ks) key
  place_is [] = refl
  place_is (k ∷ ks) = λ i. cond (not (says k i)) (1 + place_is ks i) 0

  any_is : (ks : List (Vec ℕ Global)) → list_any test ks ≡ nat_lt (place (map items_of ks) key) (length (map items_of ks))
  any_is [] = refl
  any_is (k ∷ ks) = ap (λ c. c || list_any test ks) (says k) ∙ pick (any_is ks) (bytes_eq key k.items)
    where
      pick : list_any test ks ≡ nat_lt (place (map items_of ks) key) (length (map items_of ks)) → (c : Bool) →
          (c || list_any test ks) ≡ nat_lt (cond (not c) (1 + place (map items_of ks) key) 0) (suc (length (map items_of ks)))
      pick e true = sym (lt-ltb 0 (suc (length (map items_of ks))) (omega arith))
      pick e false = e ∙ sym (next_less (place (map items_of ks) key) (length (map items_of ks)))

  -- and the keys once one is put
  pub with_is : (ks : List (Vec ℕ Global)) (v : Vec ℕ Global) → v.items ≡ key →
      map items_of (if list_any test ks then ks else ks ++ v ∷ []) ≡ with_key (map items_of ks) key
  with_is ks v e = ap (λ c. map items_of (if c then ks else ks ++ v ∷ [])) (any_is ks)
      ∙ pick (nat_lt (place (map items_of ks) key) (length (map items_of ks)))
    where
      pick : (c : Bool) → map items_of (if c then ks else ks ++ v ∷ [])
          ≡ (if c then map items_of ks else map items_of ks ++ key ∷ [])
      pick true = refl
      pick false = map-append items_of ks (v ∷ []) ∙ ap (λ x. map items_of ks ++ x ∷ []) e

  -- the place of a key that is found
  pub found_place : (ks : List (Vec ℕ Global)) (at : ℕ) → Some at ≡ position test ks → at ≡ place (map items_of ks) key
  found_place ks at e = pick (nat_lt (position_or_len test ks) (length ks)) e ∙ place_is ks
    where
      pick : (c : Bool) → Some at ≡ cond c (Some (position_or_len test ks)) None → at ≡ position_or_len test ks
      pick true e = cc
      pick false e = absurd (cc e)

  -- and of one that isn't
  pub none_place : (ks : List (Vec ℕ Global)) → None ≡ position test ks → length ks ≡ place (map items_of ks) key
  none_place ks e = pick (nat_lt (position_or_len test ks) (length ks)) refl e ∙ place_is ks
    where
      pick : (c : Bool) → nat_lt (position_or_len test ks) (length ks) ≡ c → None ≡ cond c (Some (position_or_len test ks)) None →
          length ks ≡ position_or_len test ks
      pick true is e = absurd (cc e)
      pick false is e =
          let within : position_or_len test ks ≤ length ks = subst
          (λ n. n ≤ length ks) (sym (place_is ks)) (subst
          (λ n. place (map items_of ks) key ≤ n) (length-map ks items_of) (place_within (map items_of ks) key)) in
          let past : length ks ≤ position_or_len test ks = ltb-false (position_or_len test ks) (length ks) is in
          omega arith

module _ (eq : Vec ℕ Global → Vec ℕ Global → Bool) (v : Vec ℕ Global)
    (says : (k : Vec ℕ Global) → eq v k ≡ bytes_eq v.items k.items) {C : Type 0} (c : C) where
  -- the keys of a table with values once one is put
  pub with_entry : (es : List (Vec ℕ Global × C)) →
      map items_of (keys_of (insert_entry eq es v c)) ≡ with_key (map items_of (keys_of es)) v.items
  with_entry [] = refl
  with_entry (p ∷ es) =
      ap (λ b. map items_of (keys_of (if b then (p.0, c) ∷ es else p ∷ insert_entry eq es v c))) (says p.0)
      ∙ pick (with_entry es) (bytes_eq v.items p.0.items)
    where
      inner : (b : Bool) → p.0.items ∷ (if b then map items_of (keys_of es) else map items_of (keys_of es) ++ v.items ∷ [])
          ≡ (if b then p.0.items ∷ map items_of (keys_of es) else (p.0.items ∷ map items_of (keys_of es)) ++ v.items ∷ [])
      inner true = refl
      inner false = refl

      pick : map items_of (keys_of (insert_entry eq es v c)) ≡ with_key (map items_of (keys_of es)) v.items → (b : Bool) →
          map items_of (keys_of (if b then (p.0, c) ∷ es else p ∷ insert_entry eq es v c))
          ≡ (if nat_lt (cond (not b) (1 + place (map items_of (keys_of es)) v.items) 0)
          (suc (length (map items_of (keys_of es)))) then p.0.items ∷ map items_of (keys_of es) else
          (p.0.items ∷ map items_of (keys_of es)) ++ v.items ∷ [])
      pick next true = ap (λ b. if b then p.0.items ∷ map items_of (keys_of es) else
          (p.0.items ∷ map items_of (keys_of es)) ++ v.items ∷ [])
          (sym (lt-ltb 0 (suc (length (map items_of (keys_of es)))) (omega arith)))
      pick next false =
          ap (λ l. p.0.items ∷ l) next ∙ inner (nat_lt (place (map items_of (keys_of es)) v.items)
          (length (map items_of (keys_of es))))
          ∙ ap (λ b. if b then p.0.items ∷ map items_of (keys_of es) else (p.0.items ∷ map items_of (keys_of es)) ++ v.items ∷ [])
          (sym (next_less (place (map items_of (keys_of es)) v.items) (length (map items_of (keys_of es)))))

-- the key of an entry
pub entry_key : {C : Type 0} (es : List (Vec ℕ Global × C)) (at : ℕ) (e : Vec ℕ Global × C) → Some e ≡ slice_get es at →
    get_or (map items_of (keys_of es)) at [] ≡ e.0.items
entry_key es at e g =
    get_or_from_slice_get (map items_of (keys_of es)) at e.0.items []
    (slice_get-map items_of (keys_of es) at ∙ ap (option_map items_of)
    (slice_get-map (λ p. p.0) es at ∙ ap (option_map (λ p. p.0)) (sym g)))
