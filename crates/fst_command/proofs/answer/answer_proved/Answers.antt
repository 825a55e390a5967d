use Rattle.std.proofs.Common.{◌≡◌, ◌∙◌, ◌++◌, append_assoc, rules}
use Rattle.std.specs.Prelude.{codes, string_bytes}
use Rattle.fst_type_print.specs.Texts.{question_text}
use Rattle.fst_cert.proofs.Laws.{certified_valid}
use Rattle.fst_command.proofs.QuestionTexts.{session_unnamed}
use Rattle.fst_command.proofs.answer.answer_proved.Goals as goal

pub question_text-requires-clause-named : goal.question_text-requires-clause-named
question_text-requires-clause-named c =
    let q = c.args.question.now in
    (session_unnamed q.kinds.items q.left c.requires.left, session_unnamed q.kinds.items q.right c.requires.right)

pub returns-clause-certified : goal.returns-clause-certified
returns-clause-certified c =
    let q = c.args.question.now in
    let p = c.in_ok-proof.proof in
    let line = question_text q.kinds.items q.left q.right in
    let whole : c.into_bytes.result.items ≡ (line ++ codes "\n") ++ string_bytes c.in_ok-cert_text.field-0 =
    search rules in
    record {
      basis = p.basis.items;
      chains = p.chains.items;
      certificate = string_bytes c.in_ok-cert_text.field-0;
      is_cert = c.in_ok-cert_text.ensures;
      valid = certified_valid q.left q.right c.args.budget c.args.certificate p.basis.items p.chains.items
          c.requires.certifies c.in_ok-proof.ensures.proof;
      written = whole ∙ append_assoc line (codes "\n") (string_bytes c.in_ok-cert_text.field-0);
    }
