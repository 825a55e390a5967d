use Rattle.std.proofs.Common.{◌≡◌, ◌∙◌, None, [], ap, subst, refl, arith}
use Rattle.fst_machine.specs.Spots.{inner, ran}
use Rattle.fst_vm.specs.Acts.{parts, spot_of}
use Rattle.fst_vm.specs.Running.{code_of, instr_there}
use Rattle.fst_vm.proofs.PlaceLaws.{nothing_there, there_is_place}
use Rattle.fst_vm.proofs.RunLaws.{stepped, not_stepped, unchanged}
use Rattle.fst_vm.proofs.running.Running.step.Goals as goal

pub returns-in-None : goal.returns-in-None
returns-in-None c =
    let s = c.args.self.now in
    λ fs.
    let none = subst (λ z. None ≡ instr_there (code_of fs c.args.code.now) z.place) c.self.view_is (c.in-None.ensures fs) in
    (nothing_there (code_of fs c.args.code.now) s.place (λ a j. ran (code_of fs c.args.code.now) a j s s.operands) none, refl)

pub overflow_sub-behind : goal.overflow_sub-behind
overflow_sub-behind c = omega (
  arith,
  there_is_place (code_of [] c.args.code.now) c.self.inside.place c.in-Some.instr.now
      (c.in-Some.ensures []),
)

pub returns-in_err-place : goal.returns-in_err-place
returns-in_err-place c =
    λ fs.
    unchanged (inner (code_of fs c.args.code.now)) c.args.self.now _ c.from_residual.result c.from_residual.ensures.0
    (ap (spot_of c.self.inside.place) (c.in_err-place.ensures fs) ∙ c.self.view_is)

pub returns-in-Some-2 : goal.returns-in-Some-2
returns-in-Some-2 c =
    let i = c.self.inside in
    λ fs.
    stepped (code_of fs c.args.code.now) c.in-Some.instr.now (parts i.slots i.stack i.calls.items)
    (parts c.act.new.slots c.act.new.stack c.act.new.calls.items) i.place c.in-Some-2.place
    c.in_ok-place.field-0 c.args.self.now c.self.view_is (c.in-Some.ensures fs) c.in-Some-2.is (c.in_ok-place.ensures fs)

pub returns-in-None-2 : goal.returns-in-None-2
returns-in-None-2 c =
    let i = c.self.inside in
    λ fs.
    not_stepped (code_of fs c.args.code.now) c.in-Some.instr.now (parts i.slots i.stack i.calls.items)
    (parts c.act.new.slots c.act.new.stack c.act.new.calls.items) i.place
    c.in_ok-place.field-0 c.args.self.now c.self.view_is (c.in-Some.ensures fs) c.in-None-2.is (c.in_ok-place.ensures fs)
