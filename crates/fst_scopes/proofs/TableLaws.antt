-- What the table of variables finds, in the list of names that it stands for.
use Rattle.std.proofs.Common.{◌≡◌, ◌∙◌, ◌+◌, refl, sym, ap, arith, ℕ, suc, List, [], ◌∷◌, ◌++◌, length, map, Bool, true, false, cond, not, ◌||◌, Option, Some, None}
use Rattle.std.specs.Prelude.{if◌then◌else◌, nat_lt, option_map}
use Rattle.std.specs.List.{position, position_or_len, list_any}
use Rattle.std.specs.Str.{bytes_eq}
use Rattle.std.proofs.lemmas.Bool.{lt-ltb}
use Rattle.std.proofs.lemmas.List.{map-append}
use Rattle.std.specs.declared.vec.Vec.{Vec}
use Rattle.std.specs.declared.alloc.Global.{Global}
use Rattle.fst_base.proofs.Bools.{next_less}
use Rattle.fst_terms.specs.Naming.{place_of, is_there}
use Rattle.fst_scopes.specs.Bytes.{bytes_of}
use Rattle.fst_scopes.specs.Faults.{is_among}
use Rattle.fst_scopes.specs.Kept.{with_name}

-- a number, if it is below another one
abbrev below : ℕ → ℕ → Option ℕ
below m n = cond (nat_lt m n) (Some m) None

below_next : (c : Bool) (m n : ℕ) → below (cond (not c) (1 + m) 0) (suc n) ≡ (if c then Some 0 else option_map suc (below m n))
below_next true m n = ap (λ b. cond b (Some 0) None) (lt-ltb 0 (suc n) (omega arith))
below_next false m n = ap (λ b. cond b (Some (1 + m)) None) (next_less m n) ∙ pick (nat_lt m n)
  where
    pick : (b : Bool) → cond b (Some (1 + m)) None ≡ option_map suc (cond b (Some m) None)
    pick true = ap Some (omega arith)
    pick false = refl

-- a name is among others where one of them is it, or it is among the rest
pub among_next : (c : Bool) (o : Option ℕ) → is_there (if c then Some 0 else option_map suc o) ≡ (c || is_there o)
among_next true o = refl
among_next false (Some n) = refl
among_next false None = refl

module _ (test : Vec ℕ Global → Bool) (key : List ℕ) (says : (k : Vec ℕ Global) → test k ≡ bytes_eq key k.items) where
  -- the place at which the table finds a name
  pub place_is : (ks : List (Vec ℕ Global)) → position test ks ≡ place_of (map bytes_of ks) key
  place_is [] = refl
  place_is (k ∷ ks) =
      below_next (test k) (position_or_len test ks) (length ks)
      ∙ (λ i. if says k i then Some 0 else option_map suc (place_is ks i))

  -- whether it finds it
  pub any_is : (ks : List (Vec ℕ Global)) → list_any test ks ≡ is_among (map bytes_of ks) key
  any_is [] = refl
  any_is (k ∷ ks) = (λ i. says k i || any_is ks i) ∙ sym (among_next (bytes_eq key k.items) (place_of (map bytes_of ks) key))

  -- and the names once one is put
  pub with_is : (ks : List (Vec ℕ Global)) (v : Vec ℕ Global) → v.items ≡ key →
      map bytes_of (if list_any test ks then ks else ks ++ v ∷ []) ≡ with_name (map bytes_of ks) key
  with_is ks v e = ap (λ c. map bytes_of (if c then ks else ks ++ v ∷ [])) (any_is ks) ∙ pick (is_among (map bytes_of ks) key)
    where
      pick : (c : Bool) → map bytes_of (if c then ks else ks ++ v ∷ [])
          ≡ (if c then map bytes_of ks else map bytes_of ks ++ key ∷ [])
      pick true = refl
      pick false = map-append bytes_of ks (v ∷ []) ∙ ap (λ x. map bytes_of ks ++ x ∷ []) e
