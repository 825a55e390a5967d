use Rattle.fst_norms.proofs.NormedLaws.{normed_told}
use Rattle.fst_norms.proofs.lowering.is_normed.Goals as goal

pub returns : goal.returns
returns c =
    let told = normed_told c.args.g.now.rules.items c.in_ok-norms.norms.items
    (record { count = c.in_ok-norms.ensures.len; each = c.in_ok-norms.ensures.each }) in
    let all = rw c.deref.ensures.value at c.all_normed.ensures in
    (λ t. told.0 (all.0 t), λ n. all.1 (told.1 n))
