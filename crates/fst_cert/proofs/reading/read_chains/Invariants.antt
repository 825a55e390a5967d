use Rattle.std.proofs.Common.{◌≡◌, ◌-◌, ◌≤◌, ◌++◌, All, length, map}
use Rattle.fst_cert.specs.Certificates.{IsChainFit}
use Rattle.fst_cert.specs.Texts.{chain_line, lines_text, steps_of}
use Rattle.fst_cert.proofs.reading.read_chains.Given as goal

abbrev pub invariant-loop-alloc : goal.invariant-loop-alloc
invariant-loop-alloc l = record {
  read : l.text ≡ lines_text (map chain_line (steps_of l.chains.items)) ++ l.rest;
  fit : All IsChainFit (steps_of l.chains.items);
  within : length l.chains.items ≤ l.most;
}

abbrev pub decreases-loop-alloc : goal.decreases-loop-alloc
decreases-loop-alloc l = l.most - length l.chains.items
