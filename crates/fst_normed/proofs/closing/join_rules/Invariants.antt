use Rattle.std.proofs.Common.{◌≡◌, ◌+◌, ◌++◌, List, length, take}
use Rattle.fst_basis.specs.declared.proof.Chain.{Chain}
use Rattle.fst_normed.specs.Closing.{AreNoted, IsExchangedInTurn, LeadInTurn, rewrites_of}
use Rattle.fst_normed.specs.Needs.{rewrites_in_turn}
use Rattle.fst_normed.proofs.closing.join_rules.Given as goal

abbrev pub invariant-loop-i : goal.invariant-loop-i
invariant-loop-i l = record {
  lead : (cs : List Chain) × (l.chains.items ≡ l.initial.chains.items ++ cs) ×
      LeadInTurn l.norms l.words l.needed (take l.i l.rules) l.others l.tail cs;
  noted : AreNoted (length l.words) l.norms l.initial.needed l.needed (IsExchangedInTurn l.norms l.words l.rules l.others l.tail);
  made : rewrites_of l.chains.items + l.rewrites ≡ rewrites_of l.initial.chains.items + l.initial.rewrites;
  spent : rewrites_in_turn l.norms l.words (take l.i l.rules) l.others l.tail + l.rewrites ≡ l.initial.rewrites;
}
