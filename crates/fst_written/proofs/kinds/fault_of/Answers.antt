use Rattle.std.proofs.Common.{sym, subst, refl, length}
use Rattle.std.proofs.lemmas.Option.{slice_get_read}
use Rattle.fst_types.specs.Order.{IsSorted}
use Rattle.fst_types.specs.Scoped.{IsScoped}
use Rattle.fst_written.proofs.RangeLaws.{type_at}
use Rattle.fst_written.proofs.kinds.fault_of.Goals as goal

pub kind_of-requires-clause-scoped : goal.kind_of-requires-clause-scoped
kind_of-requires-clause-scoped c =
    let m = c.args.m.now in
    subst (IsScoped 0) (sym c.index.ensures) (type_at
    (length m.families.items) m.types.items c.args.occurrence.now.number c.index.result.now m.whole.type_parts c.requires).0

pub kind_of-requires-clause-sorted : goal.kind_of-requires-clause-sorted
kind_of-requires-clause-sorted c =
    let m = c.args.m.now in
    subst IsSorted (sym c.index.ensures) (type_at
    (length m.families.items) m.types.items c.args.occurrence.now.number c.index.result.now m.whole.type_parts c.requires).1

pub returns-in-Ok : goal.returns-in-Ok
returns-in-Ok c =
    let types = c.args.m.now.types.items in (
      c.index.result.now,
      slice_get_read types (length types) c.args.occurrence.now.number c.index.result.now refl c.requires
          c.index.ensures,
      (c.in-Ok._kind, c.in-Ok.ensures.well_formed),
    )
