-- A branch among arranged ones, as a list.
use Rattle.std.specs.Prelude.{List, [], ◌∷◌}
use Rattle.std.specs.declared.cmp.Ordering.{Ordering}
use Rattle.std.specs.declared.cmp.Ordering.TheVariants.{Less, Equal, Greater}
use Rattle.std.specs.Ordering.{nat_cmp}
use Rattle.std.specs.Cmp.Lexicographic.{slice_cmp}
use Rattle.fst_types.specs.declared.ty.Branch.{Branch}

-- a branch in front of another one or behind it, by how their labels compare
abbrev pub put_by : Ordering → Branch → Branch → List Branch → List Branch → List Branch
put_by Less b c bs behind = b ∷ c ∷ bs
put_by Equal b c bs behind = b ∷ c ∷ bs
put_by Greater b c bs behind = c ∷ behind

-- a branch in its place among arranged ones, in front of those with its own label
abbrev pub put : Branch → List Branch → List Branch
put b [] = b ∷ []
put b (c ∷ bs) = put_by (slice_cmp nat_cmp b.label c.label) b c bs (put b bs)
