use Rattle.std.proofs.Common.{◌≡◌, ◌≤◌, vec_len, take}
use Rattle.std.specs.Prelude.{vec_capacity}
use Rattle.fst_safety.specs.Bags.{AreParted}
use Rattle.fst_safety.proofs.bags.part.Given as goal

abbrev pub invariant-loop-name : goal.invariant-loop-name
invariant-loop-name l = record {
  few : vec_len l.theirs ≤ l.name-index;
  room : vec_capacity l.theirs ≡ vec_capacity l.fn.theirs;
  parted : AreParted (take l.name-index l.names) l.fn.bag.items l.bag.items l.theirs.items;
}
