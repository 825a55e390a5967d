use Rattle.std.proofs.Common.{ℕ, arith}
use Rattle.fst_term_names.specs.CodeMeanings.{scope_in}
use Rattle.fst_term_names.proofs.FaultlessLaws.{type_none}
use Rattle.fst_term_names.proofs.MadeLaws.{all_numbers, all_types, its_number, its_type, one_made}
use Rattle.fst_term_names.proofs.naming.add_arguments.Goals as goal

pub add_open_type-requires : goal.add_open_type-requires
add_open_type-requires c = type_none (scope_in c.args.meanings.now).types c.args.written.now c.loop-w.w-index c.w-item.result
    c.requires (omega arith) c.w-item.is

pub loop-w-preserved : goal.loop-w-preserved
loop-w-preserved c =
    one_made (λ (n : ℕ). n) its_number its_type (scope_in c.args.meanings.now) c.args.written.now c.loop-w.w-index
    c.args.types.now c.loop-w.types c.add_open_type.new.types
    c.loop-w.numbers.items c.push.new.self.items c.w-item.result c.in_ok-add_open_type.field-0 c.loop-w.invariant
    (omega arith) c.w-item.is
    c.in_ok-add_open_type.ensures.number c.in_ok-add_open_type.ensures.added c.in_ok-push.ensures.items

pub returns-clause-numbers : goal.returns-clause-numbers
returns-clause-numbers c = all_numbers (scope_in c.args.meanings.now) c.args.written.now c.loop-w.w-index c.args.types.now
    c.loop-w.types c.loop-w.numbers.items c.loop-w.invariant (omega arith)

pub returns-clause-added : goal.returns-clause-added
returns-clause-added c = all_types (scope_in c.args.meanings.now) c.args.written.now c.loop-w.w-index c.args.types.now
    c.loop-w.types c.loop-w.numbers.items c.loop-w.invariant (omega arith)
