use Rattle.std.proofs.Common.{◌≡◌, ◌∙◌, ◌+◌, ap, map, take, [], ◌∷◌, ◌++◌, arith}
use Rattle.std.proofs.lemmas.List.{append-nil}
use Rattle.fst_terms.specs.ModuleTree.{decl_tree, maker}
use Rattle.fst_scopes.specs.First.{first_from}
use Rattle.fst_scopes.specs.Twice.{twice}
use Rattle.fst_declarations.specs.Tables.{entries_from, itself, maker_entries}
use Rattle.fst_declarations.proofs.DeclaredTables.{all_decls, families_in, families_push, makers_are, makers_family, makers_named, makers_push, more_decls, no_makers}
use Rattle.fst_declarations.proofs.FirstTables.{same_kept}
use Rattle.fst_declarations.proofs.tables.makers_of.Goals.{in-Family+in_ok-family+in_ok-keep_makers, in_default}
use Rattle.fst_declarations.proofs.tables.makers_of.Goals as goal

pub loop-decl-preserved : goal.loop-decl-preserved
loop-decl-preserved c =
    let d = c.decl-item.result in
    let ds = map decl_tree (take c.loop-decl.decl-index c.args.decls.now) in
    let whole = more_decls c.args.decls.now c.loop-decl.decl-index d c.loop-decl-test.true c.decl-item.is in
    let count = ap families_in whole ∙ families_push ds (decl_tree d) in
    elim c.match-decl.branch [
      | in-Family+in_ok-family+in_ok-keep_makers w ↦
          let k = w.in_ok-family.family in
          let one = ap (λ z. families_in ds + families_in (decl_tree z ∷ [])) w.in-Family.is in
          let number : k ≡ families_in ds = w.in_ok-family.ensures ∙ c.loop-decl.invariant.count in
          record {
            kept = same_kept itself c.args.least.now w.keep_makers.new.least _
                (maker_entries 0 ds ++ entries_from k 0 (map maker w.in-Family.makers.items)) _ w.keep_makers.new.names _
                w.keep_makers.new.entries.items _
                (rw w.deref.ensures.value at (w.in_ok-keep_makers.ensures c.args.least.now
                (maker_entries 0 ds) c.loop-decl.invariant.kept))
                (ap (maker_entries 0) whole ∙ ap (λ z. maker_entries 0 (ds ++ decl_tree z ∷ [])) w.in-Family.is
                ∙ makers_family ds w.in-Family.field-0 (map maker w.in-Family.makers.items) k number)
                w.names-is (ap (λ v. v.items) w.entries-is) w.least-is;
            count = omega (arith, count, one, w.families-is, c.loop-decl.invariant.count);
            few = omega (arith, w.families-is, c.loop-decl.invariant.few);
          }
      | in_default w ↦
          let none = no_makers d w.in_default.not-Family (0 + families_in ds) in
          record {
            kept = same_kept itself c.args.least.now c.loop-decl.least _
                (maker_entries 0 ds) _ c.loop-decl.names _ c.loop-decl.entries.items _ c.loop-decl.invariant.kept
                (ap (maker_entries 0) whole ∙ makers_push 0 ds (decl_tree d) ∙ ap (λ z. maker_entries 0 ds ++ z) none.0
                ∙ append-nil (maker_entries 0 ds))
                w.names-is (ap (λ v. v.items) w.entries-is) w.least-is;
            count = omega (arith, count, none.1, w.families-is, c.loop-decl.invariant.count);
            few = omega (arith, w.families-is, c.loop-decl.invariant.few);
          }
    ]

pub returns-clause-makers : goal.returns-clause-makers
returns-clause-makers c =
    let all = all_decls c.args.decls.now c.loop-decl.decl-index c.loop-decl-test.false in
    makers_are (map decl_tree c.args.decls.now) _ (rw all at c.loop-decl.invariant.kept.table)

pub returns-clause-twice : goal.returns-clause-twice
returns-clause-twice c =
    let all = all_decls c.args.decls.now c.loop-decl.decl-index c.loop-decl-test.false in
    (rw all at c.loop-decl.invariant.kept.noted) ∙ ap
    (λ bs. first_from c.args.least.now (twice bs)) (makers_named 0 (map decl_tree c.args.decls.now))
