-- What holds of a choice's branches holds of each.
use Rattle.std.proofs.Common.{ℕ, zero, suc, ◌<◌, List, [], ◌∷◌, length, get_or, arith}
use Rattle.fst_types.specs.declared.ty.Branch.{Branch}
use Rattle.fst_types.specs.Scoped.{IsScoped, AllScoped}
use Rattle.fst_types.specs.ModelView.{branches_of}
use Rattle.fst_types.proofs.Laws.{height_at}
use Rattle.fst_types.specs.Named.{IsNamedWithin, AllNamedWithin}

-- each branch has its recursion variables bound
pub scoped_at : (n : ℕ) (bs : List Branch) (i : ℕ) (d : Branch) → AllScoped n (branches_of bs) → i < length bs →
    IsScoped n ((get_or bs i d).body)
scoped_at n [] i d all h = absurd (omega arith)
scoped_at n (b ∷ bs) zero d all h = all.0
scoped_at n (b ∷ bs) (suc i) d all h = scoped_at n bs i d all.1 (omega arith)

-- each branch names data types among the first n
pub named_at : (n : ℕ) (bs : List Branch) (i : ℕ) (d : Branch) → AllNamedWithin n (branches_of bs) → i < length bs →
    IsNamedWithin n ((get_or bs i d).body)
named_at n [] i d all h = absurd (omega arith)
named_at n (b ∷ bs) zero d all h = all.0
named_at n (b ∷ bs) (suc i) d all h = named_at n bs i d all.1 (omega arith)

-- what is known of one branch of a choice
pub ruleset each_branch = (height_at, scoped_at, named_at)
