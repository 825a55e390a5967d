use Rattle.std.proofs.Common.{arith, inr, length, refl, subst, sym}
use Rattle.std.proofs.lemmas.Bool.{eqb-true}
use Rattle.std.proofs.lemmas.Option.{slice_get_read}
use Rattle.fst_derivations.specs.Modules.{IsPrintable}
use Rattle.fst_typing.proofs.Refusing.{nothing}
use Rattle.fst_typing.proofs.globals.check_main.Goals as goal

pub returns-then-not-is_printable-clause-refused : goal.returns-then-not-is_printable-clause-refused
returns-then-not-is_printable-clause-refused c =
    let types = c.args.m.now.types.items in
    let there = slice_get_read types (length types) c.args.global.now.signature c.index-signature.result.now refl c.requires
    c.index-signature.ensures in
    λ n. inr (
      nothing c.args.global.now.kinds.items (omega (arith, eqb-true _ 0 (sym c.if-not-is_empty.ensures))),
      (
        c.in_ok-t.t,
        rw c.in_ok-t.ensures there,
        (λ p. absurd
            (cc (c.is_printable.ensures.1 (subst IsPrintable c.in_ok-t.ensures p), c.if-not-is_printable.true))),
        refl,
      ),
    )

pub returns-clause-main : goal.returns-clause-main
returns-clause-main c =
    let types = c.args.m.now.types.items in
    let there = slice_get_read types (length types) c.args.global.now.signature c.index-signature.result.now refl c.requires
    c.index-signature.ensures in (
      nothing c.args.global.now.kinds.items (omega (arith, eqb-true _ 0 (sym c.if-not-is_empty.ensures))),
      (c.index-signature.result.now, there, c.is_printable.ensures.0 c.if-not-is_printable.false),
    )
