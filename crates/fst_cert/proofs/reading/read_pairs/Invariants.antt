use Rattle.std.proofs.Common.{◌≡◌, ◌-◌, ◌≤◌, ◌++◌, All, length, map}
use Rattle.fst_cert.specs.Certificates.{IsPairFit}
use Rattle.fst_cert.specs.Texts.{pair_line, lines_text}
use Rattle.fst_cert.proofs.reading.read_pairs.Given as goal

abbrev pub invariant-loop-alloc : goal.invariant-loop-alloc
invariant-loop-alloc l = record {
  read : l.text ≡ lines_text (map pair_line l.pairs.items) ++ l.rest;
  fit : All IsPairFit l.pairs.items;
  within : length l.pairs.items ≤ l.most;
}

abbrev pub decreases-loop-alloc : goal.decreases-loop-alloc
decreases-loop-alloc l = l.most - length l.pairs.items
