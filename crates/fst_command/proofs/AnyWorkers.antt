-- Any number of workers writes the same.
use Rattle.std.proofs.Common.{◌≡◌, ℕ, List, true}
use Rattle.fst_options.specs.Words.{equiv, run, IsCommand}
use Rattle.fst_options.proofs.Laws.{one_command}
use Rattle.fst_command.specs.Output.{command, AreAlike, same, certified, AnyWorkers, OneOutput}
use Rattle.fst_command.proofs.Runs.{written_for}

pub any_workers : OneOutput → AnyWorkers
any_workers one ws vs steps w v budget events bytes text other s t is it a b =
    let x = command (run steps w budget events) is (written_for vs bytes other t (run steps v budget events) it b) in
    let r = one ws bytes text other s t a x in
    (alike r.0, r.1)
  where
    alike : AreAlike ws bytes text other → text ≡ other
    alike (same e) = e
    alike (certified k c asked q h j) = let e = one_command ws (equiv k true) (run steps w budget events) c is in absurd (cc e)
