use Rattle.std.proofs.Common.{◌∙◌, map, sym}
use Rattle.std.specs.Prelude.{string_bytes}
use Rattle.fst_options.proofs.WordLaws.{no_equiv_options}
use Rattle.fst_options.proofs.words.equiv_options.Goals as goal
use Rattle.fst_options.proofs.words.equiv_options.Goals.{then-sets_run-via-then-sets_run, then-sets_run-via-else-sets_run+then-given}

pub returns-then-sets_run : goal.returns-then-sets_run
returns-then-sets_run c =
    no_equiv_options c.in-Some.ensures.0 (map string_bytes c.args.words.now) c.in-Some.given c.in-Some.ensures.1
    (λ s w b e. elim c.then-sets_run.branch [
      | then-sets_run-via-then-sets_run v ↦ c.sets_run.ensures.set v.if-sets_run.true s w b
      | then-sets_run-via-else-sets_run+then-given v ↦ absurd (cc (sym v.if-given.true ∙ e))
    ])
