use Rattle.std.proofs.Common.{◌∙◌, ap, sym, map, take, [], ◌∷◌, ◌++◌}
use Rattle.std.proofs.lemmas.List.{append-nil}
use Rattle.fst_terms.specs.ModuleTree.{decl_tree}
use Rattle.fst_scopes.specs.First.{first_from}
use Rattle.fst_scopes.specs.Twice.{twice}
use Rattle.fst_declarations.specs.Tables.{named_signatures, signed_of}
use Rattle.fst_declarations.proofs.DeclaredTables.{all_decls, more_decls, no_signature, signatures_are, signatures_named, signatures_push}
use Rattle.fst_declarations.proofs.FirstTables.{one_kept, same_kept}
use Rattle.fst_declarations.proofs.tables.signatures_of.Goals.{in-Signature+in_ok-keep, in_default}
use Rattle.fst_declarations.proofs.tables.signatures_of.Goals as goal

pub loop-decl-preserved : goal.loop-decl-preserved
loop-decl-preserved c =
    let d = c.decl-item.result in
    let ds = map decl_tree (take c.loop-decl.decl-index c.args.decls.now) in
    let more = ap named_signatures (more_decls c.args.decls.now c.loop-decl.decl-index d c.loop-decl-test.true c.decl-item.is)
    ∙ signatures_push ds (decl_tree d) in
    elim c.match-decl.branch [
      | in-Signature+in_ok-keep w ↦
          one_kept signed_of c.args.least.now c.loop-decl.least _
          (named_signatures ds) _ w.in-Signature.binder _ c.loop-decl.names _ c.loop-decl.entries.items _
          c.loop-decl.invariant
          (more ∙ ap (λ z. named_signatures ds ++ named_signatures (decl_tree z ∷ [])) w.in-Signature.is ∙
          ap (λ bs. named_signatures ds ++ (w.in-Signature.binder, record { vars = bs; its_type = w.in-Signature.its_type }) ∷ [])
          (sym w.deref.ensures.value))
          (w.names-is ∙ w.in_ok-keep.ensures.names) (ap (λ v. v.items) w.entries-is ∙ w.in_ok-keep.ensures.entries)
          (w.least-is ∙ w.in_ok-keep.ensures.twice)
      | in_default w ↦
          same_kept signed_of c.args.least.now c.loop-decl.least _
          (named_signatures ds) _ c.loop-decl.names _ c.loop-decl.entries.items _ c.loop-decl.invariant
          (more ∙ ap (λ z. named_signatures ds ++ z) (no_signature d w.in_default.not-Signature)
          ∙ append-nil (named_signatures ds))
          w.names-is (ap (λ v. v.items) w.entries-is) w.least-is
    ]

pub returns-clause-signatures : goal.returns-clause-signatures
returns-clause-signatures c =
    let all = all_decls c.args.decls.now c.loop-decl.decl-index c.loop-decl-test.false in
    signatures_are (map decl_tree c.args.decls.now) _ c.args.least.now c.loop-decl.least (rw all at c.loop-decl.invariant)

pub returns-clause-twice : goal.returns-clause-twice
returns-clause-twice c =
    let all = all_decls c.args.decls.now c.loop-decl.decl-index c.loop-decl-test.false in
    (rw all at c.loop-decl.invariant.noted) ∙ ap (λ bs. first_from c.args.least.now (twice bs))
    (signatures_named (map decl_tree c.args.decls.now))
