-- The faults of branches, one after the other.
use Rattle.std.proofs.Common.{◌≡◌, ◌∙◌, ℕ, suc, ◌+◌, ◌<◌, List, ◌∷◌, length, get_or, drop, add-one, sym, ap}
use Rattle.std.proofs.Math.Seq.{drop-cons}
use Rattle.std.specs.Prelude.{Option}
use Rattle.fst_types.specs.ModelWrittenView.{written_branches}
use Rattle.fst_types.specs.declared.written.WrittenBranch.{WrittenBranch}
use Rattle.fst_terms.specs.Naming.{Scope}
use Rattle.fst_scopes.specs.declared.fault.NameFault.{NameFault}
use Rattle.fst_scopes.specs.Faults.{unbound, unbound_in}
use Rattle.fst_scopes.specs.First.{first_from}
use Rattle.fst_scopes.proofs.FirstLaws.{first_append}

-- one branch, and then the others
pub branch_noted : (s : Scope) (bs : List WrittenBranch) (i : ℕ) (b : WrittenBranch) (kept next : Option NameFault) →
    i < length bs → b ≡ get_or bs i b → next ≡ first_from kept (unbound s b.body) →
    first_from next (unbound_in s (written_branches (drop (i + 1) bs))) ≡ first_from kept
    (unbound_in s (written_branches (drop i bs)))
branch_noted s bs i b kept next lt is noted =
    ap (λ k. first_from k (unbound_in s (written_branches (drop (i + 1) bs)))) noted ∙
    sym (first_append kept (unbound s b.body) (unbound_in s (written_branches (drop (i + 1) bs)))) ∙
    ap (λ (z : List WrittenBranch). first_from kept (unbound_in s (written_branches z))) (sym front)
  where
    front : drop i bs ≡ b ∷ drop (i + 1) bs
    front = drop-cons bs i b lt ∙ ap (λ z. z ∷ drop (suc i) bs) (sym is) ∙ ap (λ n. b ∷ drop n bs) (sym (add-one i))
