use Rattle.std.proofs.Common.{◌∙◌, ap, sym}
use Rattle.std.specs.Prelude.{option_copied}
use Rattle.fst_vm.specs.Moves.{entry_of}
use Rattle.fst_vm.specs.Running.{code_of}
use Rattle.fst_vm.proofs.PlaceLaws.{read_there, nothing_there}
use Rattle.fst_vm.proofs.TellLaws.{no_entry}
use Rattle.fst_vm.proofs.answers.forked_entry.Goals as goal

pub returns-in_err-lambda : goal.returns-in_err-lambda
returns-in_err-lambda c =
    λ fs. let k = code_of fs c.args.code.now in ap option_copied c.from_residual.ensures
    ∙ sym (nothing_there k c.args.place (λ a j. entry_of k a) (c.in_err-lambda.ensures fs))

pub returns-in-Fork : goal.returns-in-Fork
returns-in-Fork c =
    let a = c.in_ok-lambda.field-0.now in
    λ fs.
    let k = code_of fs c.args.code.now in
    c.entry_at.ensures ∙ ap (entry_of k) (sym c.in-Fork.is)
    ∙ sym (read_there k c.args.place a (λ b j. entry_of k b) (c.in_ok-lambda.ensures fs))

pub returns-in_default : goal.returns-in_default
returns-in_default c =
    λ fs. let k = code_of fs c.args.code.now in
    sym (read_there k c.args.place c.in_ok-lambda.field-0.now (λ a j. entry_of k a) (c.in_ok-lambda.ensures fs)
    ∙ no_entry k c.in_ok-lambda.field-0.now c.in_default.not-Fork)
