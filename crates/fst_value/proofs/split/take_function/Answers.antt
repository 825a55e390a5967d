use Rattle.std.proofs.Common.{◌≡◌, ◌∙◌, ◌-◌, ◌++◌, true, length, reverse, sym, ap, arith}
use Rattle.std.specs.Prelude.{is_some}
use Rattle.fst_value.specs.Stacks.{applied}
use Rattle.fst_value.specs.Parts.{parts_of, listed}
use Rattle.fst_value.proofs.Splitting.{function_taken}
use Rattle.fst_value.proofs.split.take_function.Goals as goal

pub returns : goal.returns
returns c =
    let values = c.args.values.now in
    let v = c.index_mut.result.now in
    let at : c.len-at.result - 2 ≡ length values.items - 2 = omega (arith, c.len-at.ensures, values.ok) in
    let call : is_some (applied (reverse values.items)) ≡ true =
    ap (λ vs. is_some (applied (reverse vs))) (sym c.deref.ensures.value) ∙ sym c.is_call.ensures ∙ c.if-not-is_call.false
    in
    function_taken values.items c.remove.new.self.items c.move_parts.new.values.items v c.move_parts.new.self
    (c.len-at.result - 2) call at c.index_mut.ensures.value
    (c.in_ok-move_parts.ensures.parts ∙ ap (λ vs. vs ++ listed (parts_of v)) c.new-parts.ensures.items)
    c.remove.ensures.items
