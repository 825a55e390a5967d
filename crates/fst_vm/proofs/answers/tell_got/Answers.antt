use Rattle.std.proofs.Common.{◌≡◌, ◌∙◌, ◌-◌, ℕ, [], Some, None, refl, sym, ap, subst, arith}
use Rattle.std.specs.declared.result.Result.TheVariants.{Ok}
use Rattle.fst_machine.specs.declared.request.Answer.TheVariants.{Got}
use Rattle.fst_machine.specs.Spots.{told, told_at}
use Rattle.fst_vm.specs.Running.{code_of, instr_there}
use Rattle.fst_vm.proofs.PlaceLaws.{read_there, nothing_there, there_is_place}
use Rattle.fst_vm.proofs.RunLaws.{makes_alike}
use Rattle.fst_vm.proofs.answers.tell_got.Goals as goal

pub overflow_sub-running-inside : goal.overflow_sub-running-inside
overflow_sub-running-inside c = omega (
  arith,
  there_is_place
      (code_of [] c.args.code.now) c.running.inside.place c.in-Some.instr.now (c.in-Some.ensures []),
)

pub returns-in-Some : goal.returns-in-Some
returns-in-Some c =
    let s = c.args.running.now in
    let b = Got c.args.event.now in
    let a = c.in-Some.instr.now in
    let place = ap (λ z. z.place) c.running.view_is in
    λ fs.
    let k = code_of fs c.args.code.now in
    makes_alike (λ z. told k a (c.running.inside.place - 1) z z.operands b)
    (λ z. told_at k z b) s c.got_instr.new.running (Ok c.got_instr.result)
    (read_there k s.place a (λ d j. told k d j s s.operands b)
    (subst (λ (p : ℕ). Some a ≡ instr_there k p) place (c.in-Some.ensures fs))
    ∙ ap (λ (p : ℕ). told k a (p - 1) s s.operands b) (sym place))
    (c.got_instr.ensures k)

pub returns-in-None : goal.returns-in-None
returns-in-None c =
    let s = c.args.running.now in
    let place = ap (λ z. z.place) c.running.view_is in
    λ fs.
    let k = code_of fs c.args.code.now in (
      nothing_there k s.place (λ d j. told k d j s s.operands (Got c.args.event.now))
          (subst (λ (p : ℕ). None ≡ instr_there k p) place (c.in-None.ensures fs)),
      refl,
    )
