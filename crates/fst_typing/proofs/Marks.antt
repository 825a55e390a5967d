-- Going back to the marks of an earlier scope.
use Rattle.std.proofs.Common.{◌≡◌, ◌∙◌, suc, Bool, List, [], ◌∷◌, length, refl, sym, ap}
use Rattle.fst_context.specs.Scope.{Scope, mark, with_marks, without}
use Rattle.fst_context.specs.Vars.{Vars, outside}

mark_length : (u : Vars) (bs : List Bool) → length (mark u bs) ≡ length bs
mark_length u [] = refl
mark_length u (b ∷ bs) = ap suc (mark_length (outside u) bs)

-- there are as many marks after a taking as before
pub marks_length : (u : Vars) (r s : Scope) → s ≡ without u r → length s.there ≡ length r.there
marks_length u r s x = ap (λ (z : Scope). length z.there) x ∙ mark_length u r.there

-- a later scope with the marks of the earlier one is the earlier one
pub marks_back : (u : Vars) (r s : Scope) → s ≡ without u r → with_marks r.there s ≡ r
marks_back u r s x = ap (λ z. with_marks r.there z) x

-- the earlier scope with the marks of a later one is the later one
pub marks_on : (u : Vars) (r s : Scope) → s ≡ without u r → with_marks s.there r ≡ s
marks_on u r s x = sym (x ∙ ap (λ b. with_marks b r) (sym (ap (λ (o : Scope). o.there) x)))

-- two later scopes with the same marks are the same
pub marks_decide : (u v : Vars) (r s z : Scope) → s ≡ without u r → z ≡ without v r → s.there ≡ z.there → s ≡ z
marks_decide u v r s z x y e = sym (marks_on u r s x) ∙ ap (λ b. with_marks b r) e ∙ marks_on v r z y

-- the one with the marks of the other is the other
pub with_marks_same : (u v : Vars) (r z y : Scope) → z ≡ without u r → y ≡ without v r → with_marks z.there y ≡ z
with_marks_same u v r z y x w = ap (λ o. with_marks z.there o) w ∙ marks_on u r z x
