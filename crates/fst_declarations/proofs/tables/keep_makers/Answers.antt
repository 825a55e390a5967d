use Rattle.std.proofs.Common.{◌≡◌, ◌++◌, map, take, length, arith}
use Rattle.fst_terms.specs.ModuleTree.{maker}
use Rattle.fst_declarations.specs.Tables.{entries_from, itself}
use Rattle.fst_declarations.proofs.DeclaredTables.{entries_more}
use Rattle.fst_declarations.proofs.FirstTables.{one_kept}
use Rattle.fst_declarations.proofs.tables.keep_makers.Goals as goal

pub loop-n-preserved : goal.loop-n-preserved
loop-n-preserved c = λ old before kept.
    let m = c.index-makers-n.result in
    let count : c.len-fields.result ≡ length m.fields.items = omega (arith, c.len-fields.ensures, m.fields.ok.0) in
    one_kept itself old c.loop-n.least _ (before ++ entries_from c.args.family 0 (map maker (take c.loop-n.n c.args.makers.now)))
    _ m.name _ c.loop-n.names _ c.loop-n.entries.items _ (c.loop-n.invariant old before kept)
    (entries_more c.args.family before c.args.makers.now c.loop-n.n m c.in_ok-number.number c.len-fields.result c.loop-n-test.true
    c.index-makers-n.is c.in_ok-number.ensures count)
    c.in_ok-keep.ensures.names c.in_ok-keep.ensures.entries c.in_ok-keep.ensures.twice
