use Rattle.std.proofs.Common.{sym, subst, arith}
use Rattle.fst_worker.specs.Shares.{GoOn}
use Rattle.fst_worker.proofs.Together.{written_back}
use Rattle.fst_worker.proofs.rounds.round.Goals as goal

pub returns-clause-went : goal.returns-clause-went
returns-clause-went g c =
    let a = c.args.shares.now.ok.0 in
    let b = c.as_mut_slice.ensures.len in
    let d = c.all_work.ensures.lent.length_is in
    subst (λ l. GoOn c.args.code.now c.args.shares.now.items l)
    (sym (written_back c.args.shares.now.len c.all_work.new.shares _ (omega (arith, a, b, d))))
    (subst (λ l. GoOn c.args.code.now l c.all_work.new.shares) c.as_mut_slice.ensures.value c.all_work.ensures.went)
