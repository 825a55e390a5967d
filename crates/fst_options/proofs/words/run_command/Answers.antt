use Rattle.std.proofs.Common.{◌∙◌, ap, map, sym}
use Rattle.std.specs.Prelude.{string_bytes}
use Rattle.std.specs.Option.{is_some}
use Rattle.fst_options.proofs.WordLaws.{buffered_alone, run_without_proof}
use Rattle.fst_options.proofs.words.run_command.Goals as goal
use Rattle.fst_options.proofs.words.run_command.Goals.{then-is_some-via-then-is_some, then-is_some-via-else-is_some+then-given-2}

pub returns-then-given : goal.returns-then-given
returns-then-given c =
    run_without_proof c.in-Some.ensures.0 (map string_bytes c.args.words.now) c.in-Some.given c.in-Some.ensures.1
    (λ e. absurd (cc (sym c.if-given.true ∙ e)))

pub returns-then-is_some : goal.returns-then-is_some
returns-then-is_some c =
    buffered_alone c.in-Some.ensures.0 c.in-Some-buffer.capacity (map string_bytes c.args.words.now) c.in-Some.given
    c.in-Some.ensures.1 c.in-Some-buffer.is
    (λ w e. elim c.then-is_some.branch [
      | then-is_some-via-then-is_some v ↦
          absurd (cc (sym v.if-is_some.true ∙ c.is_some.ensures ∙ ap is_some w))
      | then-is_some-via-else-is_some+then-given-2 v ↦ absurd (cc (sym v.if-given-2.true ∙ e))
    ])
