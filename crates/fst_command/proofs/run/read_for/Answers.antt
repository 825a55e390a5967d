use Rattle.std.proofs.Common.{◌∙◌, sym}
use Rattle.fst_options.specs.Views.{command_of}
use Rattle.fst_command.proofs.Runs.{read_ok, reads_none}
use Rattle.fst_command.proofs.run.read_for.Goals as goal

pub returns-then-not-reads_input-clause-read : goal.returns-then-not-reads_input-clause-read
returns-then-not-reads_input-clause-read g c =
    reads_none (command_of c.args.command) (g.S.Source.left c.args.source.now) c.new.result.items
    (sym c.reads_input.ensures ∙ c.if-not-reads_input.true)
    c.new.ensures.items

pub returns-clause-read : goal.returns-clause-read
returns-clause-read g c =
    read_ok (command_of c.args.command) (g.S.Source.left c.args.source.now) (g.S.Source.left c.read_all.new.source)
    (λ v. v.items) c.read_all.result
    (sym c.reads_input.ensures ∙ c.if-not-reads_input.false) c.read_all.ensures.all c.read_all.ensures.end
