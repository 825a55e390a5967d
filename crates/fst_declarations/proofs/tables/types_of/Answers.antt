use Rattle.std.proofs.Common.{◌≡◌, ◌∙◌, ◌+◌, ap, subst, map, take, [], ◌∷◌, ◌++◌, arith}
use Rattle.std.proofs.lemmas.List.{append-nil}
use Rattle.fst_terms.specs.ModuleTree.{decl_tree}
use Rattle.fst_scopes.specs.First.{first_from}
use Rattle.fst_scopes.specs.Scopes.{entry_decl}
use Rattle.fst_scopes.specs.Twice.{AreNames, twice}
use Rattle.fst_scopes.specs.TypeNames.{data_type}
use Rattle.fst_declarations.specs.Tables.{types_from}
use Rattle.fst_declarations.proofs.DeclaredTables.{all_decls, families_in, families_push, more_decls, types_named, types_push, types_under}
use Rattle.fst_declarations.proofs.FirstTables.{one_kept, same_kept}
use Rattle.fst_declarations.proofs.tables.types_of.Goals.{in-Family+in_ok-number_of-in-Family+in_ok-keep-in-Family, in-Alias+in_ok-keep-in-Alias, in-Signature, in-Equation}
use Rattle.fst_declarations.proofs.tables.types_of.Goals as goal

pub loop-decl-preserved : goal.loop-decl-preserved
loop-decl-preserved c =
    let d = c.decl-item.result in
    let ds = map decl_tree (take c.loop-decl.decl-index c.args.decls.now) in
    let old = c.args.least.now in
    let things = types_from 0 ds in
    let whole = more_decls c.args.decls.now c.loop-decl.decl-index d c.loop-decl-test.true c.decl-item.is in
    let more = ap (types_from 0) whole ∙ types_push 0 ds (decl_tree d) in
    let count = ap families_in whole ∙ families_push ds (decl_tree d) in
    elim c.match-decl.branch [
      | in-Family+in_ok-number_of-in-Family+in_ok-keep-in-Family w ↦
          let one = ap (λ z. families_in ds + families_in (decl_tree z ∷ [])) w.in-Family.is in
          let number : 0 + families_in ds ≡ w.in_ok-number_of-in-Family.field-0 =
          omega (arith, w.in_ok-number_of-in-Family.ensures, c.loop-decl.invariant.count) in
          record {
            kept = one_kept entry_decl old c.loop-decl.least _ things _ w.in-Family.binder _ c.loop-decl.names _
                c.loop-decl.entries.items _ c.loop-decl.invariant.kept
                (more ∙ ap (λ z. things ++ types_from (0 + families_in ds) (decl_tree z ∷ [])) w.in-Family.is ∙ ap
                (λ n. things ++ (w.in-Family.binder, data_type n) ∷ []) number)
                (w.names-is ∙ w.in_ok-keep-in-Family.ensures.names)
                (ap (λ v. v.items) w.entries-is ∙ w.in_ok-keep-in-Family.ensures.entries)
                (w.least-is ∙ w.in_ok-keep-in-Family.ensures.twice);
            count = omega (arith, count, one, w.families-is, c.loop-decl.invariant.count);
            few = omega (arith, w.families-is, c.loop-decl.invariant.few);
          }
      | in-Alias+in_ok-keep-in-Alias w ↦
          let none = ap (λ z. families_in ds + families_in (decl_tree z ∷ [])) w.in-Alias.is in
          record {
            kept = one_kept entry_decl old c.loop-decl.least _ things _ w.in-Alias.binder _ c.loop-decl.names _
                c.loop-decl.entries.items _ c.loop-decl.invariant.kept
                (more ∙ ap (λ z. things ++ types_from (0 + families_in ds) (decl_tree z ∷ [])) w.in-Alias.is)
                (w.names-is ∙ w.in_ok-keep-in-Alias.ensures.names)
                (ap (λ v. v.items) w.entries-is ∙ w.in_ok-keep-in-Alias.ensures.entries)
                (w.least-is ∙ w.in_ok-keep-in-Alias.ensures.twice);
            count = omega (arith, count, none, w.families-is, c.loop-decl.invariant.count);
            few = omega (arith, w.families-is, c.loop-decl.invariant.few);
          }
      | in-Signature w ↦
          let none = ap (λ z. families_in ds + families_in (decl_tree z ∷ [])) w.in-Signature.is in
          record {
            kept = same_kept entry_decl old c.loop-decl.least _ things _ c.loop-decl.names _ c.loop-decl.entries.items _
                c.loop-decl.invariant.kept
                (more ∙ ap (λ z. things ++ types_from (0 + families_in ds) (decl_tree z ∷ [])) w.in-Signature.is
                ∙ append-nil things) w.names-is (ap (λ v. v.items) w.entries-is) w.least-is;
            count = omega (arith, count, none, w.families-is, c.loop-decl.invariant.count);
            few = omega (arith, w.families-is, c.loop-decl.invariant.few);
          }
      | in-Equation w ↦
          let none = ap (λ z. families_in ds + families_in (decl_tree z ∷ [])) w.in-Equation.is in
          record {
            kept = same_kept entry_decl old c.loop-decl.least _ things _ c.loop-decl.names _ c.loop-decl.entries.items _
                c.loop-decl.invariant.kept
                (more ∙ ap (λ z. things ++ types_from (0 + families_in ds) (decl_tree z ∷ [])) w.in-Equation.is
                ∙ append-nil things) w.names-is (ap (λ v. v.items) w.entries-is) w.least-is;
            count = omega (arith, count, none, w.families-is, c.loop-decl.invariant.count);
            few = omega (arith, w.families-is, c.loop-decl.invariant.few);
          }
    ]

pub returns-clause-types : goal.returns-clause-types
returns-clause-types c = λ x.
    let all = all_decls c.args.decls.now c.loop-decl.decl-index c.loop-decl-test.false in
    let table = rw all at c.loop-decl.invariant.kept.table in
    table.found x ∙ types_under 0 (map decl_tree c.args.decls.now) x

pub returns-clause-twice : goal.returns-clause-twice
returns-clause-twice c =
    let all = all_decls c.args.decls.now c.loop-decl.decl-index c.loop-decl-test.false in
    (rw all at c.loop-decl.invariant.kept.noted) ∙ ap
    (λ bs. first_from c.args.least.now (twice bs)) (types_named 0 (map decl_tree c.args.decls.now))

pub returns-clause-names : goal.returns-clause-names
returns-clause-names c =
    let all = all_decls c.args.decls.now c.loop-decl.decl-index c.loop-decl-test.false in
    subst (λ bs. AreNames bs c.loop-decl.names) (types_named 0 (map decl_tree c.args.decls.now))
    (rw all at c.loop-decl.invariant.kept.names_are)
