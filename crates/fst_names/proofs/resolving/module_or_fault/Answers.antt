use Rattle.std.proofs.Common.{◌≡◌, ◌∙◌, ◌<◌, ap, map, refl, sym, subst}
use Rattle.fst_terms.specs.Count.{module_count, part_limit}
use Rattle.fst_terms.specs.ModuleTree.{decl_tree}
use Rattle.fst_scopes.specs.First.{first_fault, first_from}
use Rattle.fst_declarations.specs.Declarations.{AreDeclarations, known_in}
use Rattle.fst_declarations.specs.ModuleFaults.{decls_faults, faults_but_main, module_faults, twice_declared}
use Rattle.fst_names.specs.Faultless.{IsFaultless}
use Rattle.fst_names.proofs.ModuleLaws.{all_noted, any_known, none_first, own_known}
use Rattle.fst_names.proofs.resolving.module_or_fault.Goals as goal

pub returns-in-Some : goal.returns-in-Some
returns-in-Some c =
    let m = c.args.m.now in
    let ds = map decl_tree m.decls.items in
    let d = c.in_ok-declarations.declarations in
    let known = known_in d in
    let are : AreDeclarations ds d = rw c.deref.ensures.value at c.in_ok-declarations.ensures.declarations in
    let twice : c.declarations_of.new.least ≡ first_from c.args.least.now (twice_declared ds) =
    rw c.deref.ensures.value at c.in_ok-declarations.ensures.twice in
    let decls : c.note_decls.new.least ≡ first_from c.declarations_of.new.least (decls_faults ds known ds) =
    rw c.deref-2.ensures.value at c.in_ok-note_decls.ensures ds are in
    let noted : c.note_main.new.least ≡ first_fault (module_faults ds known) =
    all_noted ds known c.declarations_of.new.least c.note_decls.new.least c.note_main.new.least
    (twice ∙ ap (λ o. first_from o (twice_declared ds)) c.requires) decls
    (λ e. c.in_ok-note_main.ensures ds (faults_but_main ds known) are e) in (
      c.in-Some.field-0,
      c.in-Some.is,
      record {
        known = known;
        is_known = own_known ds d are;
        first =
            λ other is. any_known ds d c.note_main.new.least are noted other is ∙ c.in-Some.is;
      },
    )

pub module_of-requires : goal.module_of-requires
module_of-requires c =
    let m = c.args.m.now in
    let ds = map decl_tree m.decls.items in
    let d = c.in_ok-declarations.declarations in
    let known = known_in d in
    let are : AreDeclarations ds d = rw c.deref.ensures.value at c.in_ok-declarations.ensures.declarations in
    let twice : c.declarations_of.new.least ≡ first_from c.args.least.now (twice_declared ds) =
    rw c.deref.ensures.value at c.in_ok-declarations.ensures.twice in
    let decls : c.note_decls.new.least ≡ first_from c.declarations_of.new.least (decls_faults ds known ds) =
    rw c.deref-2.ensures.value at c.in_ok-note_decls.ensures ds are in
    let noted : c.note_main.new.least ≡ first_fault (module_faults ds known) =
    all_noted ds known c.declarations_of.new.least c.note_decls.new.least c.note_main.new.least
    (twice ∙ ap (λ o. first_from o (twice_declared ds)) c.requires) decls
    (λ e. c.in_ok-note_main.ensures ds (faults_but_main ds known) are e) in
    let whole : IsFaultless ds d = record {
      declared = are;
      faultless =
          none_first ds known c.note_main.new.least noted c.in_default.is;
      filled = m.filled;
    } in
    let same = ap (map decl_tree) (sym c.deref-3.ensures.value) in
    (refl, (subst (λ z. IsFaultless z d) same whole, subst (λ z. module_count z < part_limit) same m.few))
