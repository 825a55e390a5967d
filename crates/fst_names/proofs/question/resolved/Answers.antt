use Rattle.fst_type_syntax.specs.Views.{question_tree}
use Rattle.fst_names.proofs.QuestionLaws.{left_sound, right_sound, stands, is_plain}
use Rattle.fst_names.proofs.question.resolved.Goals as goal

pub named-requires-clause-depth : goal.named-requires-clause-depth
named-requires-clause-depth c = (left_sound (question_tree c.args.q.now) c.args.vars c.args.types c.requires.faultless
    c.requires.variables c.requires.types).depth

pub named-requires-clause-known : goal.named-requires-clause-known
named-requires-clause-known c = (left_sound (question_tree c.args.q.now) c.args.vars c.args.types c.requires.faultless
    c.requires.variables c.requires.types).known

pub named-requires-2-clause-depth : goal.named-requires-2-clause-depth
named-requires-2-clause-depth c = (right_sound
    (question_tree c.args.q.now) c.args.vars c.args.types c.requires.faultless c.requires.variables c.requires.types).depth

pub named-requires-2-clause-known : goal.named-requires-2-clause-known
named-requires-2-clause-known c = (right_sound
    (question_tree c.args.q.now) c.args.vars c.args.types c.requires.faultless c.requires.variables c.requires.types).known

pub returns-clause-resolved : goal.returns-clause-resolved
returns-clause-resolved c = record {
  faultless = c.requires.faultless;
  kinds_are = rw c.deref.ensures.value at c.in_ok-kinds.ensures;
  left_is = stands (question_tree c.args.q.now) c.args.vars c.args.types c.requires.faultless c.requires.variables
      c.requires.types c.args.q.now.left c.in_ok-left.left c.in_ok-left.ensures;
  right_is = stands (question_tree c.args.q.now) c.args.vars c.args.types c.requires.faultless c.requires.variables
      c.requires.types c.args.q.now.right c.in_ok-right.right c.in_ok-right.ensures;
  left_begins = c.place.ensures;
  right_begins = c.place-2.ensures;
}

pub returns-clause-scoped : goal.returns-clause-scoped
returns-clause-scoped c =
    let left = is_plain (question_tree c.args.q.now) c.args.vars c.args.types c.requires.faultless c.requires.variables
    c.requires.types c.args.q.now.left c.in_ok-left.left c.args.q.now.filled.0 c.in_ok-left.ensures in
    let right = is_plain (question_tree c.args.q.now) c.args.vars c.args.types c.requires.faultless c.requires.variables
    c.requires.types c.args.q.now.right c.in_ok-right.right c.args.q.now.filled.1 c.in_ok-right.ensures in
    (left.scoped, right.scoped)

pub returns-clause-sorted : goal.returns-clause-sorted
returns-clause-sorted c =
    let left = is_plain (question_tree c.args.q.now) c.args.vars c.args.types c.requires.faultless c.requires.variables
    c.requires.types c.args.q.now.left c.in_ok-left.left c.args.q.now.filled.0 c.in_ok-left.ensures in
    let right = is_plain (question_tree c.args.q.now) c.args.vars c.args.types c.requires.faultless c.requires.variables
    c.requires.types c.args.q.now.right c.in_ok-right.right c.args.q.now.filled.1 c.in_ok-right.ensures in
    (left.sorted, right.sorted)
