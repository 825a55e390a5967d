use Rattle.std.proofs.Common.{◌∙◌, List, ◌∷◌, ◌++◌, [], ap, sym, subst, take}
use Rattle.std.proofs.lemmas.List.{take_more}
use Rattle.fst_declarations.specs.SignatureScopes.{AreScopes}
use Rattle.fst_declarations.specs.declared.scopes.SignatureScope.{SignatureScope}
use Rattle.fst_declarations.proofs.DeclarationLaws.{scopes_push}
use Rattle.fst_declarations.proofs.scopes.scopes_of.Goals as goal

pub loop-entry-preserved : goal.loop-entry-preserved
loop-entry-preserved c = λ trees are.
    let types = c.args.types.now in
    let es = c.args.signatures.now.entries.items in
    let i = c.loop-entry.entry-index in
    let e = c.entry-item.result in
    let more = take_more es i e (rw c.deref-entry-items.ensures.value at c.loop-entry-test.true) ∙ ap
    (λ z. take i es ++ z ∷ []) (sym (rw c.deref-entry-items.ensures.value at c.entry-item.is)) in
    subst (λ zs. AreScopes types trees zs c.push.new.self.items) (sym more)
    (subst (AreScopes types trees (take i es ++ e ∷ [])) (sym {A = List SignatureScope} c.in_ok-push.ensures.items)
    (scopes_push types trees (take i es) c.loop-entry.scopes.items e c.in_ok-scope_of.field-0 (c.loop-entry.invariant trees are)
    (c.in_ok-scope_of.ensures trees are)))
