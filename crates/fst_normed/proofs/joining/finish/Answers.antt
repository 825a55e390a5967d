use Rattle.std.proofs.Common.{◌≡◌, ◌∙◌, ◌++◌, ◌∷◌, [], ap, arith, length, refl, reverse, subst, sym, List, ℕ}
use Rattle.std.specs.Vec.{vec_len}
use Rattle.fst_base.proofs.Bools.{same_number}
use Rattle.fst_basis.specs.declared.proof.Rewrite.{Rewrite}
use Rattle.fst_basis.specs.Basis.{AreExchanges}
use Rattle.fst_basis.specs.Rewrites.{chained}
use Rattle.fst_normed.specs.Walks.{pairs_of}
use Rattle.fst_normed.proofs.WalkLaws.{leads_through}
use Rattle.fst_normed.proofs.joining.finish.Goals as goal

no_items : (xs : List ℕ) → length xs ≡ 0 → reverse xs ≡ []
no_items [] e = refl
no_items (x ∷ xs) e = absurd (omega arith)

pub returns-clause-leads : goal.returns-clause-leads
returns-clause-leads c norms words candidates x y u =
    let w = c.args.walk in
    let P = pairs_of norms words candidates in
    let left = same_number (vec_len w.left) 0 (sym c.is_empty.ensures ∙ c.if-not-is_empty.false) in
    let right = same_number (vec_len w.right) 0 (sym c.is_empty-else-not-is_empty.ensures ∙ c.if-not-is_empty-2.false) in
    let none = no_items w.left.items (omega (arith, w.left.ok.0, left)) in
    let nothing = no_items w.right.items (omega (arith, w.right.ok.0, right)) in
    let steps = c.in_ok-append.ensures.items ∙ ap (λ (s : List Rewrite). w.before.items ++ s) c.reverse.ensures.items in
    let l = leads_through norms words candidates x y w.front.items (reverse w.left.items)
    (reverse w.right.items) w.before.items w.after.items none nothing u in
    (subst AreExchanges (sym steps) l.0, λ marks. ap (λ (s : List Rewrite). chained marks P s x) steps ∙ l.1 marks)
