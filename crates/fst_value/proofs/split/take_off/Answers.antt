use Rattle.std.proofs.Common.{◌≡◌, ◌∙◌, ◌<◌, ◌∷◌, [], ◌++◌, length, take, drop, get_or, sym, ap, arith, append_assoc}
use Rattle.std.specs.List.{flat_map}
use Rattle.std.proofs.lemmas.List.{take_more, length-append}
use Rattle.fst_value.specs.ValueTree.{unit}
use Rattle.fst_value.specs.Nodes.{nodes_of, values_in}
use Rattle.fst_value.proofs.Kept.{are_nodes}
use Rattle.fst_value.proofs.Splitting.{some_left, next_taken, put_back}
use Rattle.fst_value.proofs.split.take_off.Goals as goal

pub take_first-requires-clause-some : goal.take_first-requires-clause-some
take_first-requires-clause-some c =
    let vs = values_in c.args.nodes.now.items in
    let lt : c.loop.counter < length vs = omega (arith, c.loop-test.true, c.requires.count) in
    some_left vs c.loop.counter c.loop.nodes.items lt c.loop.invariant.nodes

pub take_first-requires-clause-nodes : goal.take_first-requires-clause-nodes
take_first-requires-clause-nodes c =
    are_nodes c.loop.nodes.items (drop c.loop.counter (values_in c.args.nodes.now.items)) c.loop.invariant.nodes

pub move_values-requires-clause-room : goal.move_values-requires-clause-room
move_values-requires-clause-room c =
    let ns = c.args.nodes.now.items in
    let at : c.len-at.result ≡ length c.args.values.now.items = omega (arith, c.len-at.ensures, c.args.values.now.ok) in
    let left : c.take_first.new.nodes.items ≡ flat_map nodes_of (drop c.loop.counter (values_in ns)) =
    c.in-Err.ensures.unchanged ∙ c.loop.invariant.nodes in
    let back = put_back ns c.take_first.new.nodes.items (values_in ns) c.args.values.now.items c.loop.values.items
    c.loop.counter c.len-at.result c.requires.nodes c.loop.invariant.values at left in
    omega (
      arith,
      ap length back,
      length-append (flat_map nodes_of (drop c.len-at.result c.loop.values.items)) c.take_first.new.nodes.items,
      c.take_first.new.nodes.ok,
      c.args.nodes.now.ok,
      c.args.nodes.now.small,
      c.in-Err.ensures.capacity,
      c.loop.invariant.room,
    )

pub returns-in-Err-clause-nodes_stay : goal.returns-in-Err-clause-nodes_stay
returns-in-Err-clause-nodes_stay c =
    let ns = c.args.nodes.now.items in
    let at : c.len-at.result ≡ length c.args.values.now.items = omega (arith, c.len-at.ensures, c.args.values.now.ok) in
    let left : c.take_first.new.nodes.items ≡ flat_map nodes_of (drop c.loop.counter (values_in ns)) =
    c.in-Err.ensures.unchanged ∙ c.loop.invariant.nodes in
    c.move_values.ensures.nodes
    ∙ put_back ns c.take_first.new.nodes.items (values_in ns) c.args.values.now.items c.loop.values.items
    c.loop.counter c.len-at.result c.requires.nodes c.loop.invariant.values at left

pub loop-preserved : goal.loop-preserved
loop-preserved c =
    let vs = values_in c.args.nodes.now.items in
    let lt : c.loop.counter < length vs = omega (arith, c.loop-test.true, c.requires.count) in
    let n = next_taken vs c.loop.counter c.loop.nodes.items c.take_first.new.nodes.items c.in-Ok.value lt
    c.loop.invariant.nodes c.in-Ok.ensures.first in
    record {
      values = c.push_reserved.ensures.items
          ∙ (λ i. c.loop.invariant.values i ++ n.0 i ∷ [])
          ∙ append_assoc c.args.values.now.items (take c.loop.counter vs) (get_or vs c.loop.counter unit ∷ [])
          ∙ ap (λ ws. c.args.values.now.items ++ ws) (sym (take_more vs c.loop.counter unit lt));
      nodes = n.1;
      more = omega (arith, c.loop.invariant.more, c.push_reserved.ensures.len);
      capacity = c.push_reserved.ensures.capacity ∙ c.loop.invariant.capacity;
      room = c.in-Ok.ensures.capacity ∙ c.loop.invariant.room;
    }
