use Rattle.std.proofs.Common.{◌≡◌, ◌++◌, drop, map, ℕ, ◌<◌, slice_index_or}
use Rattle.fst_basis.specs.declared.proof.Pair.{Pair}
use Rattle.std.specs.String.{string_bytes}
use Rattle.fst_cert.specs.Certificates.{IsPairFit}
use Rattle.fst_cert.specs.Texts.{lines_text, pair_line}
use Rattle.fst_cert.proofs.writing.push_pairs.Given as goal

abbrev pub invariant-loop-pair : goal.invariant-loop-pair
invariant-loop-pair l = record {
  text : string_bytes l.text ++ lines_text (map pair_line (drop l.pair-index l.pairs)) ≡ string_bytes l.initial.text
      ++ lines_text (map pair_line l.pairs);
  fit : (k : ℕ) (d : Pair) → k < l.pair-index → IsPairFit (slice_index_or l.pairs k d);
}
