use Rattle.std.proofs.Common.{ap, inl, refl, subst, sym}
use Rattle.std.specs.Prelude.{Contains, IsSome}
use Rattle.fst_types.specs.declared.label.Label.TheVariants.{Receive}
use Rattle.fst_types.specs.declared.moves.Move.TheVariants as move
use Rattle.fst_premises.specs.declared.fault.CheckFault.TheVariants.{NoSuchMove}
use Rattle.fst_premises.proofs.moving.received.Goals as goal

pub returns-clause-refused : goal.returns-clause-refused
returns-clause-refused c =
    λ m. inl (
      λ b next e. c.in-None.ensures b (subst (λ xs. Contains xs (Receive b)) (sym c.deref.ensures.value)
          ((c.in_ok-found.ensures.moves (Receive b)).1 (subst IsSome (sym e) refl))),
      ap (λ t. NoSuchMove c.args.at t move.Receive) c.in_ok-copy-in-None.ensures,
    )
