use Rattle.std.proofs.Common.{◌<◌, Ok, Err, sym, subst, arith}
use Rattle.std.specs.Prelude.{OnOk}
use Rattle.std.specs.declared.result.Result.{Result}
use mathlib.Core.Bool.{Bool-set}
use Rattle.std.proofs.Math.Logic.{∥∥₁_map, ∥∥₁_elim}
use Rattle.std.proofs.lemmas.Result.{on_ok_weaker}
use Rattle.fst_vm.specs.SlotOf.{slot_of}
use Rattle.fst_buffered.specs.KeptOf.{kept_of}
use Rattle.fst_buffered.specs.Running.{IsKept}
use Rattle.fst_buffered.proofs.Doing.{mover_live}
use Rattle.fst_buffered.proofs.Running.{possible_next, kept_next}
use Rattle.fst_buffered.proofs.run.go.Goals as goal

-- what two facts make of what is there
on_both : {T E P Q R : Type 0} (r : Result T E) → (P → Q → R) → OnOk r P → OnOk r Q → OnOk r R
on_both (Ok x) f p q = f p q
on_both (Err e) f p q = tt

pub slot-requires : goal.slot-requires
slot-requires c =
    let k = c.args.config.now in
    let code = c.args.code.now in
    let p = c.args.path.now in
    let few : k.events < 4294967295 = omega (arith, c.requires.few, c.requires.more) in
    ∥∥₁_elim c.requires.right (Bool-set _ _) (λ r. mover_live code c.args.capacity (kept_of k) p
    (possible_next code c.args.capacity k.events (kept_of k) p c.requires.kept c.requires.next few r))

pub step_on-requires-clause-asks : goal.step_on-requires-clause-asks
step_on-requires-clause-asks c = (slot_of c.slot.result.now, c.slot.ensures, c.in-Step.is)

pub step-requires-clause-can : goal.step-requires-clause-can
step-requires-clause-can c =
    let k = c.args.config.now in
    let few : k.events < 4294967295 = omega (arith, c.requires.few, c.requires.more) in
    ∥∥₁_map c.requires.right (possible_next c.args.code.now c.args.capacity k.events (kept_of k) c.args.path.now
    c.requires.kept c.requires.next few)

pub returns-in_default-clause-kept : goal.returns-in_default-clause-kept
returns-in_default-clause-kept c =
    let k = c.args.config.now in
    let code = c.args.code.now in
    let new = c.step.new.self in
    on_both c.step.result (λ s e. subst (λ n. IsKept code c.args.capacity n (kept_of new)) (sym e)
    (kept_next code c.args.capacity k.events (kept_of k) (kept_of new) c.args.path.now c.requires.kept c.requires.next s))
    c.step.ensures.steps c.step.ensures.counted

pub returns-in_default-clause-some : goal.returns-in_default-clause-some
returns-in_default-clause-some c = on_ok_weaker c.step.result (λ e. omega (arith, e)) c.step.ensures.counted

pub returns-in_default-clause-most : goal.returns-in_default-clause-most
returns-in_default-clause-most c = on_ok_weaker c.step.result (λ e. omega (arith, e, c.requires.more)) c.step.ensures.counted
