use Rattle.std.proofs.Common.{◌≡◌, ◌∙◌, ◌+◌, ◌-◌, ◌++◌, suc, length, ap, arith}
use Rattle.std.proofs.lemmas.List.{length-append, length-drop}
use Rattle.fst_value.specs.Nodes.{values_in}
use Rattle.fst_value.proofs.Kept.{are_nodes, front_within}
use Rattle.fst_value.proofs.Splitting.{all_taken, are_turned, last_nodes, turned_back}
use Rattle.fst_value.proofs.split.take_apart.Goals as goal

pub rotate_left-requires : goal.rotate_left-requires
rotate_left-requires c =
    let ns = c.args.nodes.now.items in
    omega (
      arith,
      front_within ns (values_in ns) c.up_to_largest-up_to.result.0 c.up_to_largest-up_to.result.1 c.requires.nodes
          c.up_to_largest-up_to.ensures.nodes,
      c.args.nodes.now.ok,
    )

pub take_off-requires-clause-nodes : goal.take_off-requires-clause-nodes
take_off-requires-clause-nodes c =
    let ns = c.args.nodes.now.items in
    let t = are_turned ns c.rotate_left.new.self.items (values_in ns) c.up_to_largest-up_to.result.0
    c.up_to_largest-up_to.result.1 c.requires.nodes c.up_to_largest-up_to.ensures.nodes c.rotate_left.ensures.items in
    are_nodes c.rotate_left.new.self.items _ t.nodes

pub take_off-requires-clause-count : goal.take_off-requires-clause-count
take_off-requires-clause-count c =
    let ns = c.args.nodes.now.items in
    let t = are_turned ns c.rotate_left.new.self.items (values_in ns) c.up_to_largest-up_to.result.0
    c.up_to_largest-up_to.result.1 c.requires.nodes c.up_to_largest-up_to.ensures.nodes c.rotate_left.ensures.items in
    omega (arith, t.same_count, c.requires.count)

pub rotate_right-requires : goal.rotate_right-requires
rotate_right-requires c =
    let ns = c.args.nodes.now.items in
    let t = are_turned ns c.rotate_left.new.self.items (values_in ns) c.up_to_largest-up_to.result.0
    c.up_to_largest-up_to.result.1 c.requires.nodes c.up_to_largest-up_to.ensures.nodes c.rotate_left.ensures.items in
    omega (
      arith,
      t.within,
      ap length c.in-Err.ensures.nodes_stay,
      c.rotate_left.ensures.len,
      c.rotate_left.new.self.ok,
      c.take_off.new.nodes.ok,
      c.args.nodes.now.ok,
    )

pub take_whole-requires : goal.take_whole-requires
take_whole-requires c =
    let ns = c.args.nodes.now.items in
    let us = values_in c.rotate_left.new.self.items in
    let t = are_turned ns c.rotate_left.new.self.items (values_in ns) c.up_to_largest-up_to.result.0
    c.up_to_largest-up_to.result.1 c.requires.nodes c.up_to_largest-up_to.ensures.nodes c.rotate_left.ensures.items in
    let n : suc (c.args.count - 1) ≡ length us = omega (arith, t.same_count, c.requires.count, c.if-count-eq0.false) in
    (last_nodes us (c.args.count - 1) c.take_off.new.nodes.items n c.in-Ok.ensures.nodes).1

pub turn-requires-clause-count : goal.turn-requires-clause-count
turn-requires-clause-count c =
    let ns = c.args.nodes.now.items in
    let us = values_in c.rotate_left.new.self.items in
    let t = are_turned ns c.rotate_left.new.self.items (values_in ns) c.up_to_largest-up_to.result.0
    c.up_to_largest-up_to.result.1 c.requires.nodes c.up_to_largest-up_to.ensures.nodes c.rotate_left.ensures.items in
    let n : suc (c.args.count - 1) ≡ length us = omega (arith, t.same_count, c.requires.count, c.if-count-eq0.false) in
    let last = c.take_whole.ensures.value ∙ (last_nodes us (c.args.count - 1) c.take_off.new.nodes.items n
    c.in-Ok.ensures.nodes).0 in
    let all = all_taken us c.reserve.new.self.items c.take_off.new.values.items c.push_reserved.new.self.items c.take_whole.result
    (c.args.count - 1) n c.in-Ok.ensures.values last c.push_reserved.ensures.items in
    omega (
      arith,
      n,
      c.len-at.ensures,
      c.reserve.new.self.ok,
      length-drop c.len-at.result c.push_reserved.new.self.items,
      ap length all,
      length-append c.reserve.new.self.items us,
    )

pub returns-in-Ok-clause-values : goal.returns-in-Ok-clause-values
returns-in-Ok-clause-values c =
    let ns = c.args.nodes.now.items in
    let us = values_in c.rotate_left.new.self.items in
    let k = c.up_to_largest-up_to.result.0 in
    let t = are_turned ns c.rotate_left.new.self.items (values_in ns) k
    c.up_to_largest-up_to.result.1 c.requires.nodes c.up_to_largest-up_to.ensures.nodes c.rotate_left.ensures.items in
    let n : suc (c.args.count - 1) ≡ length us = omega (arith, t.same_count, c.requires.count, c.if-count-eq0.false) in
    let last = c.take_whole.ensures.value ∙ (last_nodes us (c.args.count - 1) c.take_off.new.nodes.items n
    c.in-Ok.ensures.nodes).0 in
    let all = all_taken us c.reserve.new.self.items c.take_off.new.values.items c.push_reserved.new.self.items c.take_whole.result
    (c.args.count - 1) n c.in-Ok.ensures.values last c.push_reserved.ensures.items in
    let at : c.len-at.result ≡ length c.reserve.new.self.items = omega (arith, c.len-at.ensures, c.reserve.new.self.ok) in
    let m : c.args.count - k + k ≡ length (values_in ns) = omega (arith, c.up_to_largest-up_to.ensures.values, c.requires.count)
    in
    turned_back (values_in ns) c.reserve.new.self.items c.push_reserved.new.self.items c.turn.new.values.items k
    (c.args.count - k) c.len-at.result m (all ∙ ap (λ ws. c.reserve.new.self.items ++ ws) t.values) at c.turn.ensures.items
    ∙ ap (λ ws. ws ++ values_in ns) c.in_ok-reserve.ensures.items
