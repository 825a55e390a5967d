use Rattle.std.proofs.Common.{◌≡◌, length}
use Rattle.std.specs.Prelude.{All}
use Rattle.fst_worker.specs.Dealing.{IsEmpty}
use Rattle.fst_worker.proofs.dealing.empty_shares.Given as goal

abbrev pub invariant-loop : goal.invariant-loop
invariant-loop l = record {
  len : length l.shares.items ≡ l.counter;
  empty : All IsEmpty l.shares.items;
}
