use Rattle.std.proofs.Common.{◌≡◌, ◌∙◌, map, ap, length, arith}
use Rattle.std.specs.Prelude.{is_none}
use Rattle.std.proofs.lemmas.List.{length-map}
use Rattle.fst_norms.proofs.PruneLaws.{marked, unmarked, unnormed_set, largest}
use Rattle.fst_norms.proofs.pruning.unnormed.Goals as goal

marks : (c : goal.After-drop-norms-2) → c.in_ok-marks.marks.items ≡ map is_none c.in_ok-norms.norms.items
marks c = c.in_ok-marks.ensures ∙ ap (map is_none) c.deref.ensures.value

len : (c : goal.After-drop-norms-2) → length c.in_ok-norms.norms.items ≡ length c.args.g.now.rules.items
len c = let h = c.in_ok-norms.ensures.len in omega arith

pub returns-clause-unnormed : goal.returns-clause-unnormed
returns-clause-unnormed c = record {
  count = ap length (marks c) ∙ length-map c.in_ok-norms.norms.items is_none ∙ len c;
  set = unnormed_set _ _ _ (marks c) (len c) c.in_ok-norms.ensures.each c.requires;
  largest = λ other n set e l. largest _ _ _ (marks c) (len c) c.in_ok-norms.ensures.each other n set e l;
}

pub returns-clause-marked : goal.returns-clause-marked
returns-clause-marked c = marked _ _ _ (marks c) (len c) c.in_ok-norms.ensures.each

pub returns-clause-unmarked : goal.returns-clause-unmarked
returns-clause-unmarked c = λ n l e. unmarked _ _ _ (marks c) (len c) c.in_ok-norms.ensures.each n (omega arith) e
