-- Names that are bound, each once.
use Rattle.std.proofs.Common.{◌≡◌, ◌∙◌, ℕ, List, [], ◌∷◌, ◌++◌, Bool, true, false, ◌||◌, Option, None, refl, sym, ap, subst, append_assoc}
use Rattle.std.specs.Prelude.{if◌then◌else◌}
use Rattle.std.specs.Str.{bytes_eq}
use Rattle.std.proofs.lemmas.List.{map-append, append-nil}
use Rattle.std.proofs.lemmas.Slice.Eq.{bytes_eq-Decides}
use Rattle.fst_terms.specs.declared.binder.Binder.{Binder}
use Rattle.fst_terms.specs.Naming.{place_of}
use Rattle.fst_scopes.specs.Faults.{is_among}
use Rattle.fst_scopes.specs.Kept.{with_name}
use Rattle.fst_scopes.specs.Twice.{names, twice_if, twice_after, twice, AreNames}
use Rattle.fst_scopes.specs.declared.fault.NameFault.{NameFault}
use Rattle.fst_scopes.specs.First.{first_from}
use Rattle.fst_scopes.proofs.Bound.{none_named}
use Rattle.fst_scopes.proofs.FirstLaws.{first_append}
use Rattle.fst_scopes.proofs.TableLaws.{among_next}

-- one more name
among_push : (xs : List (List ℕ)) (y x : List ℕ) → is_among (xs ++ y ∷ []) x ≡ (is_among xs x || bytes_eq x y)
among_push [] y x = among_next (bytes_eq x y) None ∙ pick (bytes_eq x y)
  where
    pick : (c : Bool) → (c || false) ≡ c
    pick true = refl
    pick false = refl
among_push (z ∷ xs) y x =
    among_next (bytes_eq x z) (place_of (xs ++ y ∷ []) x) ∙ pick (bytes_eq x z) (among_push xs y x)
    ∙ sym (ap (λ c. c || bytes_eq x y) (among_next (bytes_eq x z) (place_of xs x)))
  where
    pick : (c : Bool) → is_among (xs ++ y ∷ []) x ≡ (is_among xs x || bytes_eq x y) →
        (c || is_among (xs ++ y ∷ []) x) ≡ ((c || is_among xs x) || bytes_eq x y)
    pick true e = refl
    pick false e = e

-- one more name, unless it is there
among_with : (xs : List (List ℕ)) (y x : List ℕ) → is_among (with_name xs y) x ≡ (is_among xs x || bytes_eq x y)
among_with xs y x = pick (is_among xs y) refl
  where
    known : is_among xs y ≡ true → (c : Bool) → bytes_eq x y ≡ c → is_among xs x ≡ (is_among xs x || c)
    known is true e = let here : is_among xs x ≡ true = ap (is_among xs) ((bytes_eq-Decides x y).0 e) ∙ is in rw here refl
    known is false e = plain (is_among xs x)
      where
        plain : (c : Bool) → c ≡ (c || false)
        plain true = refl
        plain false = refl

    pick : (c : Bool) → is_among xs y ≡ c → is_among (if c then xs else xs ++ y ∷ []) x ≡ (is_among xs x || bytes_eq x y)
    pick true is = known is (bytes_eq x y) refl
    pick false is = among_push xs y x

-- the names of one more binder
names_push : (bs : List Binder) (b : Binder) → names (bs ++ b ∷ []) ≡ names bs ++ b.name ∷ []
names_push bs b = map-append (λ (z : Binder). z.name) bs (b ∷ [])

-- one more binder behind others
twice_after_push : (front : List (List ℕ)) (bs : List Binder) (b : Binder) →
    twice_after front (bs ++ b ∷ []) ≡ twice_after front bs ++ twice_if (is_among (front ++ names bs) b.name) b
twice_after_push front [] b = append-nil (twice_if (is_among front b.name) b) ∙ ap
    (λ xs. twice_if (is_among xs b.name) b) (sym (append-nil front))
twice_after_push front (c ∷ bs) b =
    ap (λ fs. twice_if (is_among front c.name) c ++ fs) (twice_after_push (front ++ c.name ∷ []) bs b ∙
    ap (λ xs. twice_after (front ++ c.name ∷ []) bs ++ twice_if (is_among xs b.name) b)
    (append_assoc front (c.name ∷ []) (names bs))) ∙
    sym (append_assoc (twice_if (is_among front c.name) c) (twice_after (front ++ c.name ∷ []) bs)
    (twice_if (is_among (front ++ c.name ∷ names bs) b.name) b))

pub twice_push : (bs : List Binder) (b : Binder) → twice (bs ++ b ∷ []) ≡ twice bs ++ twice_if (is_among (names bs) b.name) b
twice_push bs b = twice_after_push [] bs b

-- a name that isn't told to stand twice is new
-- a binder of which no fault is told is new
pub is_new : (c : Bool) (b : Binder) → twice_if c b ≡ [] → c ≡ false
is_new true b e = absurd cc
is_new false b e = refl

-- no binders
pub no_names : AreNames [] []
no_names = record { among = λ x. refl; own = λ e. refl }

-- one more binder
pub more_names : (bs : List Binder) (b : Binder) (xs ys : List (List ℕ)) → AreNames bs xs → ys ≡ with_name xs b.name →
    AreNames (bs ++ b ∷ []) ys
more_names bs b xs ys are is = record { among = among; own = own }
  where
    among : (x : List ℕ) → is_among ys x ≡ is_among (names (bs ++ b ∷ [])) x
    among x =
        ap (λ z. is_among z x) is ∙ among_with xs b.name x ∙ ap (λ c. c || bytes_eq x b.name) (are.among x) ∙
        sym (among_push (names bs) b.name x) ∙ ap (λ z. is_among z x) (sym (names_push bs b))

    own : twice (bs ++ b ∷ []) ≡ [] → ys ≡ names (bs ++ b ∷ [])
    own e =
        let both = none_named (twice bs) (twice_if (is_among (names bs) b.name) b) (sym (twice_push bs b) ∙ e) in
        let new : is_among xs b.name ≡ false = are.among b.name ∙ is_new (is_among (names bs) b.name) b both.1 in
        is ∙ ap (λ c. if c then xs else xs ++ b.name ∷ []) new ∙ ap (λ z. z ++ b.name ∷ []) (are.own both.0)
        ∙ sym (names_push bs b)

-- what is kept, and which names are there, once one more binder is noted
pub record IsNoted (old : Option NameFault) (bs : List Binder) (xs : List (List ℕ)) (kept : Option NameFault) : Type 0 where
  pub names_are : AreNames bs xs
  pub kept_is : kept ≡ first_from old (twice bs)

pub none_noted : (old : Option NameFault) → IsNoted old [] [] old
none_noted old = record { names_are = no_names; kept_is = refl }

pub one_noted : (old kept new : Option NameFault) (bs all : List Binder) (b : Binder) (xs ys : List (List ℕ)) →
    IsNoted old bs xs kept → all ≡ bs ++ b ∷ [] →
    ys ≡ with_name xs b.name → new ≡ first_from kept (twice_if (is_among xs b.name) b) → IsNoted old all ys new
one_noted old kept new bs all b xs ys before whole names_are noted = subst (λ z. IsNoted old z ys new) (sym whole) (record {
  names_are = more_names bs b xs ys before.names_are names_are;
  kept_is = noted ∙ ap (λ c. first_from kept (twice_if c b)) (before.names_are.among b.name) ∙ ap
      (λ k. first_from k (twice_if (is_among (names bs) b.name) b)) before.kept_is ∙
      sym (first_append old (twice bs) (twice_if (is_among (names bs) b.name) b)) ∙ ap (first_from old) (sym (twice_push bs b));
})
