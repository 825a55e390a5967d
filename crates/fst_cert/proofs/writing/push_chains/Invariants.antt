use Rattle.std.proofs.Common.{◌≡◌, ◌++◌, drop, map, ℕ, ◌<◌, slice_index_or}
use Rattle.fst_basis.specs.declared.proof.Chain.{Chain}
use Rattle.std.specs.String.{string_bytes}
use Rattle.fst_cert.specs.Certificates.{IsChainFit}
use Rattle.fst_cert.specs.Texts.{chain_line, lines_text, steps_of}
use Rattle.fst_cert.proofs.writing.push_chains.Given as goal

abbrev pub invariant-loop-chain : goal.invariant-loop-chain
invariant-loop-chain l = record {
  text : string_bytes l.text ++ lines_text (map chain_line (steps_of (drop l.chain-index l.chains))) ≡ string_bytes l.initial.text
      ++ lines_text (map chain_line (steps_of l.chains));
  fit : (k : ℕ) (d : Chain) → k < l.chain-index → IsChainFit (slice_index_or l.chains k d).steps.items;
}
