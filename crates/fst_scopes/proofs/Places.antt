-- A branch among arranged ones.
use Rattle.std.proofs.Common.{◌≡◌, ℕ, ◌-◌, ◌<◌, ◌≤◌, Option, Some, None, List, [], ◌∷◌, length, take, drop, get_or, refl, ap, arith, sym, subst, ◌∙◌}
use Rattle.std.specs.Prelude.{IsSome}
use Rattle.std.specs.declared.cmp.Ordering.{Ordering}
use Rattle.std.specs.declared.cmp.Ordering.TheVariants.{Less, Equal, Greater}
use Rattle.std.specs.Ordering.{nat_cmp}
use Rattle.std.specs.Cmp.Lexicographic.{slice_cmp}
use Rattle.fst_types.specs.declared.ty.Branch.{Branch}
use Rattle.fst_types.specs.Tree.{Tree}
use Rattle.fst_types.specs.ModelView.{branches_of}
use Rattle.fst_types.specs.ModelWrittenView.{written_branches}
use Rattle.fst_types.specs.declared.written.WrittenBranch.{WrittenBranch}
use Rattle.std.proofs.lemmas.List.{take_all}
use Rattle.fst_types.specs.ModelWrittenHeight.{height, height_all}
use Rattle.fst_types.specs.WrittenTree as written
use Rattle.fst_types.specs.WrittenTree.{WrittenTree}
use Rattle.fst_terms.specs.Count.{type_count, branches_count}
use Rattle.fst_terms.specs.Naming.{Scope, both, type_of}
use Rattle.fst_terms.specs.Naming.{branches_of as named_in}
use Rattle.fst_terms.specs.Arranged.{insert_by, insert}
use Rattle.fst_scopes.specs.Arranging.{put_by, put}

-- what makes a value together is there
pub both_there : {A B C : Type 0} (f : A → B → C) (o : Option A) (p : Option B) → IsSome (both f o p) → IsSome o × IsSome p
unfolding both
both_there f (Some x) (Some y) h = (refl, refl)
both_there f (Some x) None h = absurd (cc h)
both_there f None p h = absurd (cc h)

-- as the tree of the branches has it
pub put_is : (b : Branch) (bs : List Branch) → branches_of (put b bs) ≡ insert b.label b.body (branches_of bs)
put_is b [] = refl
put_is b (c ∷ bs) = by (slice_cmp nat_cmp b.label c.label) (put_is b bs)
  where
    by : (o : Ordering) → branches_of (put b bs) ≡ insert b.label b.body (branches_of bs) →
        branches_of (put_by o b c bs (put b bs)) ≡ insert_by o b.label b.body c.label c.body (branches_of bs)
        (insert b.label b.body (branches_of bs))
    by Less e = refl
    by Equal e = refl
    by Greater e = rw e refl

-- a branch in front of named ones
pub branches_named : (s : Scope) (b : WrittenBranch) (bs : List WrittenBranch) (body : Tree) (l : List ℕ)
    (others all : List Branch) → type_of s b.body ≡ Some body → l ≡ b.label →
    named_in s (written_branches bs) ≡ Some (branches_of others) → all ≡ put (record { label = l; body = body }) others →
    named_in s (written_branches (b ∷ bs)) ≡ Some (branches_of all)
unfolding both
branches_named s b bs body l others all one label rest is =
    let insert_is : branches_of all ≡ insert b.label body (branches_of others) = ap branches_of is
    ∙ put_is (record { label = l; body = body }) others ∙ ap (λ z. insert z body (branches_of others)) label in
    rw (one, rest) (ap Some (sym insert_is))

-- the same of a list by its first item
pub first_named : (s : Scope) (bs : List WrittenBranch) (first : WrittenBranch) (body : Tree) (l : List ℕ)
    (others all : List Branch) → 1 ≤ length bs → first ≡ get_or bs 0 first →
    type_of s first.body ≡ Some body → l ≡ first.label →
    named_in s (written_branches (take (length bs - 1) (drop 1 bs))) ≡ Some (branches_of others) →
    all ≡ put (record { label = l; body = body }) others →
    named_in s (written_branches bs) ≡ Some (branches_of all)
first_named s [] first body l others all some is one label rest put_ = absurd (omega arith)
first_named s (b ∷ bs) first body l others all some is one label rest put_ =
    let whole : take (length (b ∷ bs) - 1) bs ≡ bs = take_all (length (b ∷ bs) - 1) bs (omega arith) in
    branches_named s b bs body l others all (ap (λ (z : WrittenBranch). type_of s z.body) (sym is) ∙ one)
    (label ∙ ap (λ (z : WrittenBranch). z.label) is) (ap (λ z. named_in s (written_branches z)) (sym whole) ∙ rest) put_

some_type : (w : WrittenTree) → 0 < type_count w
some_type (written.skip at) = omega arith
some_type (written.send at b) = omega arith
some_type (written.receive at b) = omega arith
some_type (written.close at) = omega arith
some_type (written.wait at) = omega arith
some_type (written.select at bs) = omega arith
some_type (written.offer at bs) = omega arith
some_type (written.seq at t u) = omega arith
some_type (written.rec at x t) = omega arith
some_type (written.named at x) = omega arith
some_type (written.plain at b) = omega arith
some_type (written.arrow at uses t u) = omega arith
some_type (written.pair at t u) = omega arith

-- the first branch is no higher than the highest one, and has no more types in it than all branches
pub first_less : (bs : List WrittenBranch) (first : WrittenBranch) → 1 ≤ length bs → first ≡ get_or bs 0 first →
    (height first.body ≤ height_all (written_branches bs)) × (type_count first.body ≤ branches_count (written_branches bs))
first_less [] first some is = absurd (omega arith)
first_less (b ∷ bs) first some is =
    let high = ap (λ (z : WrittenBranch). height z.body) is in
    let many = ap (λ (z : WrittenBranch). type_count z.body) is in
    (omega (arith, high), omega (arith, many))

-- all branches but the first are no higher, and have fewer types in them
pub rest_less : (bs : List WrittenBranch) → 1 ≤ length bs →
    (height_all (written_branches (take (length bs - 1) (drop 1 bs))) ≤ height_all (written_branches bs)) ×
    (branches_count (written_branches (take (length bs - 1) (drop 1 bs))) < branches_count (written_branches bs))
rest_less [] some = absurd (omega arith)
rest_less (b ∷ bs) some =
    let high = ap (λ z. height_all (written_branches z)) (take_all (length (b ∷ bs) - 1) bs (omega arith)) in
    let many = ap (λ z. branches_count (written_branches z)) (take_all (length (b ∷ bs) - 1) bs (omega arith)) in
    let one = some_type b.body in
    (omega (arith, high), omega (arith, many, one))

-- where all branches stand for something, the first does, and the others do
pub first_there : (s : Scope) (bs : List WrittenBranch) (first : WrittenBranch) → 1 ≤ length bs → first ≡ get_or bs 0 first →
    IsSome (named_in s (written_branches bs)) →
    IsSome (type_of s first.body) × IsSome (named_in s (written_branches (take (length bs - 1) (drop 1 bs))))
first_there s [] first some is known = absurd (omega arith)
first_there s (b ∷ bs) first some is known =
    let parts = both_there (insert b.label) (type_of s b.body) (named_in s (written_branches bs)) known in (
      subst (λ (z : WrittenBranch). IsSome (type_of s z.body)) (sym is) parts.0,
      subst (λ z. IsSome (named_in s (written_branches z))) (sym (take_all (length (b ∷ bs) - 1) bs (omega arith))) parts.1,
    )
