use Rattle.std.proofs.Common.{◌≡◌, ◌++◌, drop, ℕ, ◌<◌, slice_index_or}
use Rattle.fst_basis.specs.declared.proof.Rewrite.{Rewrite}
use Rattle.std.specs.String.{string_bytes}
use Rattle.fst_cert.specs.Certificates.{IsRewriteFit}
use Rattle.fst_cert.specs.Texts.{rewrites_text}
use Rattle.fst_cert.proofs.writing.push_rewrites.Given as goal

abbrev pub invariant-loop-step : goal.invariant-loop-step
invariant-loop-step l = record {
  text : string_bytes l.text ++ rewrites_text (drop l.step-index l.steps) ≡ string_bytes l.initial.text
      ++ rewrites_text l.steps;
  fit : (k : ℕ) (d : Rewrite) → k < l.step-index → IsRewriteFit (slice_index_or l.steps k d);
}
