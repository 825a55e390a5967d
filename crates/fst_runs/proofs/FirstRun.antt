-- A module and its whole run, by the definitions alone: they compute.
use Rattle.std.proofs.Common.{◌≡◌, Some, List, [], ◌∷◌, refl, pos}
use Rattle.fst_types.specs.Tree.{Tree}
use Rattle.fst_types.specs.Tree as type
use Rattle.fst_types.specs.declared.base.Base.TheVariants as base
use Rattle.fst_terms.specs.CoreTree.{CoreTree, local, int, split, new, send, receive, fork, seq}
use Rattle.fst_terms.specs.declared.binder.Binder.{Binder}
use Rattle.fst_machine.specs.Values as value
use Rattle.fst_machine.specs.Machine.{Program, pause, ended}
use Rattle.fst_runs.specs.declared.event.CoreEvent.TheVariants.{New, Fork, Meet}
use Rattle.fst_runs.specs.Configs.{Task, Config, started}
use Rattle.fst_runs.specs.Events.{Runs}

x : Binder
x = record { name = []; at = 0 }

-- let (a, b) = new !Int in fork (send 5 a); let (x, d) = receive b in x
main : CoreTree
main = split 0 x x (new 0 0) (seq 0 (fork 0 (send 0 (int 0 (pos 5)) (local 0 1)))
    (split 0 x x (receive 0 (local 0 0)) (local 0 1)))

program : Program
program = record { families = []; bodies = main ∷ [] }

types : List Tree
types = type.send base.Int ∷ []

-- a channel is made, a task forked, and both meet
run : (d : Config) × Runs program types (started main)
    (New (0 ∷ []) ∷ Fork (0 ∷ []) ∷ Meet (0 ∷ 1 ∷ []) (0 ∷ []) (record { maker = 0 ∷ []; count = 1 }) ∷ []) d
unfolding main program types x
run = (
  _,
  (
    _,
    record { task = _; state = _; number = _; declared = _; asks = (refl, refl); typed = refl; leads = refl; writes = refl },
    (
      _,
      record { task = _; state = _; begun = _; asks = (refl, refl); begins = refl; leads = refl; writes = refl },
      (
        _,
        record {
          sender = _;
          receiver = _;
          end = _;
          event = _;
          sent = _;
          got = _;
          channel = _;
          puts = (refl, refl);
          gets = (refl, refl);
          named = refl;
          there = refl;
          sender_leads = refl;
          receiver_leads = refl;
          writes = refl;
        },
        refl,
      ),
    ),
  ),
)

-- main's task then has ended with 5
ends_with_five : (t : Task) × (run.0.tasks (0 ∷ []) ≡ Some t) × (pause [] t.state ≡ ended (value.int (pos 5)))
unfolding main run program types x
ends_with_five = (_, refl, refl)
