-- The order of events.
use Rattle.std.proofs.Common.{◌≡◌, ◌∙◌, inl, inr, List, [], ◌∷◌, sym, ap, arith}
use Rattle.std.specs.Ordering.{nat_cmp, ordering_reverse}
use Rattle.std.specs.declared.cmp.Ordering.TheVariants.{Less, Greater}
use Rattle.std.specs.Cmp.Lexicographic.{slice_cmp}
use Rattle.std.proofs.lemmas.Cmp.{nat_list_cmp_total}
use Rattle.fst_runs.specs.declared.event.Stamped.{Stamped}
use Rattle.fst_runs.specs.Configs.{Path}
use Rattle.fst_runs.specs.Least.{IsBefore}
use Rattle.fst_runs.specs.Order.{Precedes, AreSorted, NotLater, AreTimed, path_of}

-- no two paths come before one another
pub not_both : (p q : Path) → IsBefore p q → IsBefore q p → ⊥
not_both p q a b =
    let c : slice_cmp nat_cmp p q ≡ Greater = nat_list_cmp_total.antisymm p q ∙ ap ordering_reverse b in
    let d : Less ≡ Greater = sym a ∙ c in
    absurd (cc d)

-- no two events come before one another
pub precede_apart : (d e : Stamped) → Precedes d e → Precedes e d → ⊥
precede_apart d e (inl a) (inl b) = omega (arith, a, b)
precede_apart d e (inl a) (inr b) = let c = b.0 in omega (arith, a, c)
precede_apart d e (inr a) (inl b) = let c = a.0 in omega (arith, b, c)
precede_apart d e (inr a) (inr b) = not_both (path_of d.event) (path_of e.event) a.1 b.1

-- what comes before isn't later
not_later : (d e : Stamped) → Precedes d e → NotLater d e
not_later d e (inl l) = omega (arith, l)
not_later d e (inr l) = let a = l.0 in omega (arith, a)

-- the stamps of sorted events don't fall
pub sorted_timed : (es : List Stamped) → AreSorted es → AreTimed es
sorted_timed [] s = tt
sorted_timed (e ∷ es) s = ((λ d c. not_later e d (s.0 d c)), sorted_timed es s.1)
