-- The numbers of the types that stand in a module are those of types that are there.
use Rattle.std.proofs.Common.{subst, sym, ℕ, zero, suc, ◌<◌, ◌≤◌, List, [], ◌∷◌, ◌++◌, Bool, true, false, nat_eq, length, map, get_or, arith}
use Rattle.std.specs.Prelude.{if◌then◌else◌}
use Rattle.std.specs.List.{list_any}
use Rattle.std.proofs.lemmas.List.{map-append}
use Rattle.fst_types.specs.Tree.{Tree}
use Rattle.fst_types.specs.Order.{IsSorted}
use Rattle.fst_types.specs.Scoped.{IsScoped}
use Rattle.fst_types.specs.declared.family.Family.{Family}
use Rattle.fst_types.specs.declared.family.Maker.{Maker}
use Rattle.fst_terms.specs.CoreTree.{CoreTree, local, global, int, bool, char, unit, pair, make, lambda, apply, let_in, split, if_else, case_of, operate, negate, new, send, receive, close, wait, select, match_with, fork, seq, CoreList, no_terms, term, CoreArms, no_arms, arm}
use Rattle.fst_terms.specs.InRange.{Bounds, IsInRange, AreInRange, AreCasesInRange, AreMatchesInRange, AreNumbersBelow, AreGlobals, AreFamilies, HaveFieldsInRange, AreTypes}
use Rattle.fst_terms.specs.declared.global.GlobalEntry.{GlobalEntry}
use Rattle.fst_derivations.specs.Modules.{Standing, all_open, types_in, types_in_all, types_in_arms, global_types, maker_types, family_types}
use Rattle.fst_written.specs.Readings.{others}

pub below_append : (n : ℕ) (ks js : List ℕ) → AreNumbersBelow n ks → AreNumbersBelow n js → AreNumbersBelow n (ks ++ js)
below_append n [] js h g = g
below_append n (k ∷ ks) js h g = (h.0, below_append n ks js h.1 g)

-- of numbers of things the one of the i-th thing
pub below_at : {A : Type 0} (f : A → ℕ) (n : ℕ) (xs : List A) (i : ℕ) (d : A) → AreNumbersBelow n (map f xs) → i < length xs →
    f (get_or xs i d) < n
below_at f n [] i d h lt = absurd (omega arith)
below_at f n (x ∷ xs) zero d h lt = h.0
below_at f n (x ∷ xs) (suc i) d h lt = below_at f n xs i d h.1 (omega arith)

-- the i-th number itself
pub number_at : (n : ℕ) (ks : List ℕ) (i : ℕ) (d : ℕ) → AreNumbersBelow n ks → i < length ks → get_or ks i d < n
number_at n [] i d h lt = absurd (omega arith)
number_at n (k ∷ ks) zero d h lt = h.0
number_at n (k ∷ ks) (suc i) d h lt = number_at n ks i d h.1 (omega arith)

-- the types of a module are without free recursion variables, and have their branches in order
pub type_at : (n : ℕ) (ts : List Tree) (k : ℕ) (d : Tree) → AreTypes n ts → k < length ts → IsScoped 0 (get_or ts k d) ×
    IsSorted (get_or ts k d)
type_at n [] k d h lt = absurd (omega arith)
type_at n (t ∷ ts) zero d h lt = (h.0, h.2)
type_at n (t ∷ ts) (suc k) d h lt = type_at n ts k d h.3 (omega arith)

-- the numbers of types that stand somewhere
abbrev numbers_of : List Standing → List ℕ
numbers_of ps = map (λ p. p.0) ps

below_both : (n : ℕ) (ps qs : List Standing) → AreNumbersBelow n (numbers_of ps) → AreNumbersBelow n (numbers_of qs) →
    AreNumbersBelow n (numbers_of (ps ++ qs))
below_both n ps qs h g = subst (AreNumbersBelow n) (sym (map-append (λ (p : Standing). p.0) ps qs))
    (below_append n (numbers_of ps) (numbers_of qs) h g)

below_open : (n : ℕ) (ks : List ℕ) → AreNumbersBelow n ks → AreNumbersBelow n (numbers_of (all_open ks))
below_open n [] h = tt
below_open n (k ∷ ks) h = (h.0, below_open n ks h.1)

module _ (b : Bounds) where
  mutual
    pub in_range : (n : ℕ) (t : CoreTree) → IsInRange b n t → AreNumbersBelow b.types (numbers_of (types_in t))
    in_range n (local at k) h = tt
    in_range n (global at k ks) h = below_open b.types ks h.1
    in_range n (int at i) h = tt
    in_range n (bool at v) h = tt
    in_range n (char at c) h = tt
    in_range n (unit at) h = tt
    in_range n (pair at s t) h = below_both b.types (types_in s) (types_in t) (in_range n s h.0) (in_range n t h.1)
    in_range n (make at f k ts) h = all_in_range n ts h.1
    in_range n (lambda at u a x t) h = (h.0, in_range (suc n) t h.1)
    in_range n (apply at s t) h = below_both b.types (types_in s) (types_in t) (in_range n s h.0) (in_range n t h.1)
    in_range n (let_in at x s t) h = below_both b.types (types_in s) (types_in t) (in_range n s h.0) (in_range (suc n) t h.1)
    in_range n (split at x y s t) h = below_both b.types (types_in s) (types_in t) (in_range n s h.0)
        (in_range (suc (suc n)) t h.1)
    in_range n (if_else at s t u) h =
        below_both b.types (types_in s) (types_in t ++ types_in u) (in_range n s h.0)
        (below_both b.types (types_in t) (types_in u) (in_range n t h.1) (in_range n u h.2))
    in_range n (case_of at t bs) h = below_both b.types (types_in t) (types_in_arms bs) (in_range n t h.1)
        (cases_in_range n bs h.2)
    in_range n (operate at o s t) h = below_both b.types (types_in s) (types_in t) (in_range n s h.0) (in_range n t h.1)
    in_range n (negate at t) h = in_range n t h
    in_range n (new at a) h = (h, tt)
    in_range n (send at s t) h = below_both b.types (types_in s) (types_in t) (in_range n s h.0) (in_range n t h.1)
    in_range n (receive at t) h = in_range n t h
    in_range n (close at t) h = in_range n t h
    in_range n (wait at t) h = in_range n t h
    in_range n (select at l t) h = in_range n t h
    in_range n (match_with at t bs) h = below_both b.types (types_in t) (types_in_arms bs) (in_range n t h.1)
        (matches_in_range n bs h.2)
    in_range n (fork at t) h = in_range n t h
    in_range n (seq at s t) h = below_both b.types (types_in s) (types_in t) (in_range n s h.0) (in_range n t h.1)

    all_in_range : (n : ℕ) (ts : CoreList) → AreInRange b n ts → AreNumbersBelow b.types (numbers_of (types_in_all ts))
    all_in_range n no_terms h = tt
    all_in_range n (term t ts) h = below_both b.types (types_in t) (types_in_all ts) (in_range n t h.0) (all_in_range n ts h.1)

    cases_in_range : (n : ℕ) (bs : CoreArms) → AreCasesInRange b n bs → AreNumbersBelow b.types (numbers_of (types_in_arms bs))
    cases_in_range n no_arms h = tt
    cases_in_range n (arm l xs t bs) h = below_both b.types (types_in t) (types_in_arms bs) (in_range _ t h.1)
        (cases_in_range n bs h.2)

    matches_in_range : (n : ℕ) (bs : CoreArms) → AreMatchesInRange b n bs →
        AreNumbersBelow b.types (numbers_of (types_in_arms bs))
    matches_in_range n no_arms h = tt
    matches_in_range n (arm l xs t bs) h = below_both b.types (types_in t) (types_in_arms bs) (in_range (suc n) t h.1)
        (matches_in_range n bs h.2)

  pub globals_in_range : (gs : List GlobalEntry) → AreGlobals b gs → AreNumbersBelow b.types (global_types gs)
  globals_in_range [] h = tt
  globals_in_range (g ∷ gs) h = (
    h.0,
    below_append b.types (numbers_of (types_in g.body)) (global_types gs)
        (in_range 0 g.body h.1) (globals_in_range gs h.2),
  )

makers_in_range : (n : ℕ) (os : List Maker) → HaveFieldsInRange n os → AreNumbersBelow n (maker_types os)
makers_in_range n [] h = tt
makers_in_range n (o ∷ os) h = below_append n o.fields.items (maker_types os) h.0 (makers_in_range n os h.1)

pub families_in_range : (n : ℕ) (fs : List Family) → AreFamilies n fs → AreNumbersBelow n (family_types fs)
families_in_range n [] h = tt
families_in_range n (f ∷ fs) h = below_append n (maker_types f.makers.items) (family_types fs)
    (makers_in_range n f.makers.items h.1) (families_in_range n fs h.2)

below_more : (m n : ℕ) (ks : List ℕ) → m ≤ n → AreNumbersBelow m ks → AreNumbersBelow n ks
below_more m n [] le h = tt
below_more m n (k ∷ ks) le h = (omega (arith, h.0), below_more m n ks le h.1)

others_pick : (test : Bool) (ks : List ℕ) (n : ℕ) → AreNumbersBelow (suc n) ks →
    AreNumbersBelow (suc n) (if test then ks else ks ++ n ∷ [])
others_pick true ks n h = h
others_pick false ks n h = below_append (suc n) ks (n ∷ []) h (omega arith, tt)

-- the others are below n
pub others_in_range : (ks : List ℕ) (n : ℕ) → AreNumbersBelow n (others ks n)
others_in_range ks zero = tt
others_in_range ks (suc n) = others_pick (list_any (nat_eq n) ks) (others ks n) n
    (below_more n (suc n) (others ks n) (omega arith) (others_in_range ks n))
