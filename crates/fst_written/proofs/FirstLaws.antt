-- The first in order of text: what begins before it, that there is only one, and how it changes where one more stands behind
-- the others.
use Rattle.std.proofs.Common.{◌≡◌, ◌∙◌, refl, ap, subst, sym, ℕ, zero, suc, ◌<◌, ◌≤◌, List, [], ◌∷◌, ◌++◌, append_assoc, arith, inl, inr, length, get_or}
use Rattle.std.specs.Prelude.{Contains}
use Rattle.std.specs.List.{AllByRecursion}
use Rattle.std.proofs.lemmas.Bool.{cases_lt}
use Rattle.fst_written.specs.First.{AreBefore, IsFirst}

module _ {A : Type 0} (begins : A → ℕ) (P : A → Type 0) where
  -- where all is as P says, all before any byte is
  all_before : (at : ℕ) (xs : List A) → AllByRecursion P xs → AreBefore begins P at xs
  all_before at [] h = tt
  all_before at (x ∷ xs) h = (λ lt. h.0, all_before at xs h.1)

  -- what begins before a byte begins before a later one
  before_less : (m n : ℕ) (xs : List A) → m ≤ n → AreBefore begins P n xs → AreBefore begins P m xs
  before_less m n [] le h = tt
  before_less m n (x ∷ xs) le h = (λ lt. h.0 (omega arith), before_less m n xs le h.1)

  before_append : (at : ℕ) (xs ys : List A) → AreBefore begins P at xs → AreBefore begins P at ys →
      AreBefore begins P at (xs ++ ys)
  before_append at [] ys h g = g
  before_append at (x ∷ xs) ys h g = (h.0, before_append at xs ys h.1 g)

  -- behind what is as P says the next one is the first
  pub first_new : (xs : List A) (x : A) → AllByRecursion P xs → IsFirst begins P (xs ++ x ∷ []) x
  first_new xs x h = record { before = xs; after = []; stands = refl; earlier = all_before (suc (begins x)) xs h; later = tt }

  -- the first stays, where the next one doesn't begin before it or is as P says
  pub first_kept : (xs : List A) (x y : A) → IsFirst begins P xs y →
      (begins x < begins y → P x) → IsFirst begins P (xs ++ x ∷ []) y
  first_kept xs x y f h = record {
    before = f.before;
    after = f.after ++ x ∷ [];
    stands = ap (λ zs. zs ++ x ∷ []) f.stands ∙ append_assoc f.before (y ∷ f.after) (x ∷ []);
    earlier = f.earlier;
    later = before_append (begins y) f.after (x ∷ []) f.later (h, tt);
  }

  -- the next one is the first, where it begins before the one so far
  pub first_less : (xs : List A) (x y : A) → IsFirst begins P xs y → begins x < begins y → IsFirst begins P (xs ++ x ∷ []) x
  first_less xs x y f lt =
      let left = before_less (suc (begins x)) (suc (begins y)) f.before (omega arith) f.earlier in
      let right = before_less (suc (begins x)) (begins y) f.after (omega arith) f.later in
      let here : begins y < suc (begins x) → P y = λ h. absurd (omega arith) in
      record {
        before = xs;
        after = [];
        stands = refl;
        earlier = subst (AreBefore begins P (suc (begins x))) (sym f.stands)
            (before_append (suc (begins x)) f.before (y ∷ f.after) left (here, right));
        later = tt;
      }

  -- of one that begins before a byte
  before_here : (at : ℕ) (xs : List A) (y : A) (ys : List A) → AreBefore begins P at (xs ++ y ∷ ys) → begins y < at → P y
  before_here at [] y ys h lt = h.0 lt
  before_here at (x ∷ xs) y ys h lt = before_here at xs y ys h.1 lt

  before_at : (at : ℕ) (xs : List A) (y : A) (i : ℕ) → AreBefore begins P at xs → i < length xs → get_or xs i y ≡ y →
      begins y < at → P y
  before_at at [] y i h lt is less = absurd (omega arith)
  before_at at (x ∷ xs) y zero h lt is less = subst (λ z. begins z < at → P z) is h.0 less
  before_at at (x ∷ xs) y (suc i) h lt is less = before_at at xs y i h.1 (omega arith) is less

  -- what begins before the first is as P says
  pub first_before : (xs : List A) (x : A) → IsFirst begins P xs x → (y : A) → Contains xs y → begins y < begins x → P y
  first_before xs x f y at lt =
      let here : begins x < begins x → P x = λ less. absurd (omega arith) in
      let left = before_less (begins x) (suc (begins x)) f.before (omega arith) f.earlier in
      let all = subst (AreBefore begins P (begins x)) (sym f.stands)
      (before_append (begins x) f.before (x ∷ f.after) left (here, f.later)) in
      before_at (begins x) xs y at.0 all at.1 at.2 lt

  one_of : (x : A) (us bs : List A) (y : A) (cs : List A) → (P x → ⊥) →
      (P y → ⊥) → x ∷ us ≡ bs ++ y ∷ cs → AreBefore begins P (begins x) us → AreBefore begins P (suc (begins y)) bs → x ≡ y
  one_of x us [] y cs not_x not_y e later earlier = cc
  one_of x us (b ∷ bs) y cs not_x not_y e later earlier =
      let same : x ≡ b = cc in
      let rest : us ≡ bs ++ y ∷ cs = cc in
      elim (cases_lt (begins y) (begins x)) [
        | inl lt ↦ absurd (not_y (before_here (begins x) bs y cs (subst (AreBefore begins P (begins x)) rest later) lt))
        | inr ge ↦ absurd (not_x (subst (λ z. begins z < suc (begins y) → P z) (sym same) earlier.0 (omega arith)))
      ]

  one_at : (us bs : List A) (x y : A) (xs ys : List A) → (P x → ⊥) → (P y → ⊥) → us ++ x ∷ xs ≡ bs ++ y ∷ ys →
      AreBefore begins P (suc (begins x)) us → AreBefore begins P (begins x) xs → AreBefore begins P (suc (begins y)) bs →
      AreBefore begins P (begins y) ys → x ≡ y
  one_at [] bs x y xs ys not_x not_y e early late early' late' = one_of x xs bs y ys not_x not_y e late early'
  one_at (a ∷ us) [] x y xs ys not_x not_y e early late early' late' =
      sym (one_of y ys (a ∷ us) x xs not_y not_x (sym e) late' early)
  one_at (a ∷ us) (b ∷ bs) x y xs ys not_x not_y e early late early' late' =
      let rest : us ++ x ∷ xs ≡ bs ++ y ∷ ys = cc in
      one_at us bs x y xs ys not_x not_y rest early.1 late early'.1 late'

  -- there is only one that isn't as P says
  pub one_first : (xs : List A) (x y : A) → IsFirst begins P xs x → IsFirst begins P xs y → (P x → ⊥) → (P y → ⊥) → x ≡ y
  one_first xs x y f g not_x not_y = one_at f.before g.before x y f.after g.after not_x not_y
      (sym f.stands ∙ g.stands) f.earlier f.later g.earlier g.later
