use Rattle.std.proofs.Common.{◌≡◌, ◌∙◌, length, ap, arith}
use Rattle.std.specs.Prelude.{slice_get}
use Rattle.fst_code.proofs.Lists.{get_last}
use Rattle.fst_code.proofs.closing.add_entry.Goals as goal

pub returns-clause-there : goal.returns-clause-there
returns-clause-there c =
    let old = c.args.out.now.lambdas.items in
    let e : c.len-number.result ≡ length old = omega (arith, c.len-number.ensures, c.args.out.now.lambdas.ok.0) in (
      _,
      ap (λ z. slice_get z c.len-number.result) c.in_ok-push.ensures.items ∙ ap (slice_get (_)) e ∙ get_last old _,
      c.top_of-start.ensures,
      c.in_ok-captured.ensures.items,
    )
