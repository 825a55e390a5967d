use Rattle.std.proofs.Common.{◌≡◌, ◌⊎◌, inl, inr, ◌<◌, ◌++◌, length, drop, arith, ap, reverse}
use Rattle.std.proofs.lemmas.List.{length-drop}
use Rattle.std.specs.String.{string_bytes}
use Rattle.fst_value.proofs.Printed.{no_field, field_begun, onward}
use Rattle.fst_value.proofs.printing.push_fields.Goals as goal
use Rattle.fst_value.proofs.printing.push_fields.Goals.{then-count-eq0-via-then-count-eq0, then-count-eq0-via-else-count-eq0+then-len-at}

pub returns-then-count-eq0-clause-same : goal.returns-then-count-eq0-clause-same
returns-then-count-eq0-clause-same c =
    let ns = drop c.args.at c.args.nodes.now.items in
    let none : (c.args.count ≡ 0) ⊎ (length ns ≡ 0) =
    elim c.then-count-eq0.branch [
      | then-count-eq0-via-then-count-eq0 w ↦ inl w.if-count-eq0.true
      | then-count-eq0-via-else-count-eq0+then-len-at w ↦ inr (omega (
        arith,
        w.if-len-at.true,
        w.len.ensures,
        c.args.nodes.now.ok,
        length-drop c.args.at c.args.nodes.now.items,
      ))
    ]
    in
    ap (λ text. string_bytes c.args.text.now ++ text)
    (no_field c.args.families.now c.args.count (reverse c.args.stack.now.items) ns none)

pub returns-clause-same : goal.returns-clause-same
returns-clause-same c =
    let lt : c.args.at < length c.args.nodes.now.items = omega (arith, c.if-len-at.false, c.len.ensures, c.args.nodes.now.ok) in
    onward _ _ _ _ c.push_first.ensures.same
    (field_begun c.args.families.now c.args.nodes.now.items c.args.at c.index.result.now c.args.count c.is_enclosed.result
    _ _ _ _ _ _ lt c.requires c.index.ensures c.is_enclosed.ensures
    (omega (arith, c.if-count-eq0.false)) c.in_ok-push_str.ensures.bytes c.in_ok-push_open.ensures.text
    c.in_ok-push.ensures c.in_ok-push_open.ensures.pieces)
