use Rattle.std.proofs.Common.{◌≡◌, ◌∙◌, ◌+◌, ap, arith, length, subst, sym}
use Rattle.fst_context.specs.Scope.{Scope, left}
use Rattle.fst_terms.specs.declared.binder.Binder.{Binder}
use Rattle.fst_premises.specs.declared.fault.CheckFault.TheVariants.{Unused}
use Rattle.fst_premises.proofs.Leaving.{IsLastThere, last_more, left_length, shows_unused}
use Rattle.fst_premises.proofs.LeftScopes.{left_commutes, left_more}
use Rattle.fst_premises.proofs.binding.leave_all.Goals as goal

pub leave-requires : goal.leave-requires
leave-requires c =
    let long = ap (λ (z : Scope). length z.variables) c.loop-k.invariant.left ∙ left_length c.loop-k.k c.args.context.now in
    omega (arith, long, c.loop-k-test.true, c.requires)

pub loop-k-preserved : goal.loop-k-preserved
loop-k-preserved c = record {
  left = c.leave.ensures.after ∙ ap left c.loop-k.invariant.left ∙ left_commutes c.loop-k.k c.args.context.now
      ∙ left_more c.loop-k.k c.args.context.now;
  last = subst (IsLastThere (c.loop-k.k + 1) c.args.context.now) (sym c.noted-unused.ensures)
      (last_more c.loop-k.k c.args.context.now c.loop-k.context c.loop-k.unused c.leave.result c.loop-k.invariant.last
      c.loop-k.invariant.left c.leave.ensures.found);
}

pub returns-in_ok-copy-in-Some-clause-refused : goal.returns-in_ok-copy-in-Some-clause-refused
returns-in_ok-copy-in-Some-clause-refused c =
    let xs = c.args.binders.now in
    let x = c.index-binders-binders.result in
    let done : c.loop-k.k ≡ length xs = omega (arith, c.loop-k-test.false, c.loop-k.auto.k-end) in
    let last = subst (λ u. IsLastThere (length xs) c.args.context.now u) c.in-Some.is
    (subst (λ n. IsLastThere n c.args.context.now c.loop-k.unused) done c.loop-k.invariant.last) in
    λ m. shows_unused c.args.context.now xs c.in-Some.k x last _
    (λ i. Unused (c.index-binders-binders.is i).at
    ((c.in_ok-copy-in-Some.ensures ∙ ap (λ (b : Binder). b.name) c.index-binders-binders.is) i))
