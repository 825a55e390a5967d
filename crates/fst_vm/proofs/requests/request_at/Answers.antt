use Rattle.std.proofs.Common.{◌≡◌, ◌∙◌, List, Some, None, sym, ap, subst}
use Rattle.std.proofs.lemmas.Result.{IfOk-weaker}
use Rattle.fst_types.specs.declared.family.Family.{Family}
use Rattle.fst_machine.specs.Spots.{asks, asked_at}
use Rattle.fst_vm.specs.Running.{code_of, instr_there}
use Rattle.fst_vm.proofs.PlaceLaws.{read_there, nothing_there}
use Rattle.fst_vm.proofs.requests.request_at.Goals as goal

pub returns-in-Some : goal.returns-in-Some
returns-in-Some c =
    let s = c.args.at.now in
    let place = ap (λ z. z.place) c.at.view_is in
    let a = c.in-Some.instr.now in
    let code = c.args.code.now in
    IfOk-weaker c.asked.result (λ o. o ≡ asks a s.calls s.operands) (λ o. (fs : List Family) → o ≡ asked_at (code_of fs code) s)
    (λ o h fs.
    let there = subst (λ p. Some a ≡ instr_there (code_of fs code) p) place (c.in-Some.ensures fs) in
    h ∙ sym (read_there (code_of fs code) s.place a (λ i j. asks i s.calls s.operands) there))
    c.asked.ensures

pub returns-in-None : goal.returns-in-None
returns-in-None c =
    let s = c.args.at.now in
    let place = ap (λ z. z.place) c.at.view_is in
    let code = c.args.code.now in
    λ fs.
    let none = subst (λ p. None ≡ instr_there (code_of fs code) p) place (c.in-None.ensures fs) in
    sym (nothing_there (code_of fs code) s.place (λ i j. asks i s.calls s.operands) none)
