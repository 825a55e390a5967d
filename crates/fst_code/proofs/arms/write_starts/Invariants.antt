use Rattle.std.proofs.Common.{◌≡◌, ℕ, Bool, List, length, take}
use Rattle.fst_types.specs.declared.family.Family.{Family}
use Rattle.fst_machine.specs.Code.{also}
use Rattle.fst_code.specs.Arms.{AllForget, AreAtMost}
use Rattle.fst_code.specs.Marks.{marked}
use Rattle.fst_code.specs.Written.{Extends, compiled}
use Rattle.fst_code.proofs.arms.write_starts.Given as goal

abbrev pub invariant-loop-code : goal.invariant-loop-code
invariant-loop-code l = record {
  more : (fs : List Family) → Extends (compiled fs l.fn.out) (compiled fs l.out);
  entries : l.out.lambdas.items ≡ l.fn.out.lambdas.items;
  starts : (fs : List Family) (q p : ℕ → Bool) → marked l.all ≡ also q p →
      AllForget (compiled fs l.out) q p (take l.code-index l.codes) l.starts.items;
  within : AreAtMost (length l.out.code.items) l.starts.items;
}
