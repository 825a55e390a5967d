-- Two tasks that wait for each other where tasks meet, and don't where channels hold one event: a whole buffered run, by the
-- definitions alone.
use Rattle.std.proofs.Common.{◌≡◌, ◌<◌, ◌+◌, Some, List, [], ◌∷◌, refl, pos, arith}
use Rattle.fst_types.specs.Tree.{Tree}
use Rattle.fst_types.specs.Tree as type
use Rattle.fst_types.specs.declared.base.Base.TheVariants as base
use Rattle.fst_types.specs.declared.side.Side.TheVariants.{Left, Right}
use Rattle.fst_terms.specs.CoreTree.{CoreTree, local, int, let_in, split, new, send, receive, fork, seq}
use Rattle.fst_terms.specs.declared.binder.Binder.{Binder}
use Rattle.fst_types.specs.declared.ends.EndName.{EndName}
use Rattle.fst_types.specs.declared.event.Event.TheVariants as event
use Rattle.fst_machine.specs.Values as value
use Rattle.fst_machine.specs.declared.request.Request.TheVariants.{Get}
use Rattle.fst_machine.specs.Machine.{Program, pause, ended, request}
use Rattle.fst_runs.specs.Configs.{Path, Task}
use Rattle.fst_buffered.specs.Channels.{Channel, Config, started}
use Rattle.fst_buffered.specs.Events as happens
use Rattle.fst_buffered.specs.Events.{Runs}

x : Binder
x = record { name = []; at = 0 }

-- let (y, e) = receive b in y
child : CoreTree
child = let_in 0 x (send 0 (int 0 (pos 2)) (local 0 1)) (split 0 x x (receive 0 (local 0 3)) (local 0 1))

-- let (a, b) = new !Int in let (c, d) = new !Int in fork (let e = send 2 c in let (y, e) = receive b in y);
-- let e = send 1 a in let (x, e) = receive d in x
main : CoreTree
main = split 0 x x (new 0 0) (split 0 x x (new 0 0)
    (seq 0 (fork 0 child) (let_in 0 x (send 0 (int 0 (pos 1)) (local 0 3)) (split 0 x x (receive 0 (local 0 1)) (local 0 1)))))

program : Program
program = record { families = []; bodies = main ∷ [] }

types : List Tree
types = type.send base.Int ∷ []

first : Path
first = 0 ∷ []

second : Path
second = 0 ∷ 1 ∷ []

a : EndName
a = record { channel = record { maker = 0 ∷ []; count = 1 }; side = Left }

b : EndName
b = record { channel = record { maker = 0 ∷ []; count = 1 }; side = Right }

c : EndName
c = record { channel = record { maker = 0 ∷ []; count = 2 }; side = Left }

d : EndName
d = record { channel = record { maker = 0 ∷ []; count = 2 }; side = Right }

room : ◌<◌ 0 (0 + 1)
room = omega arith

-- both put in, and then both take
run : (z : Config) × Runs program types 1 (started main)
    (happens.new first ∷ happens.new first ∷ happens.fork first ∷ happens.put first a (event.Int (pos 1)) ∷ happens.put second c
    (event.Int (pos 2)) ∷
    happens.takes first d (event.Int (pos 2)) ∷ happens.takes second b (event.Int (pos 1)) ∷ []) z
unfolding main child program types x first second a b c d
run = (
  _,
  (
    _,
    (_, _, _, _, (refl, refl), refl, refl, refl),
    (
      _,
      (_, _, _, _, (refl, refl), refl, refl, refl),
      (
        _,
        (_, _, _, (refl, refl), refl, refl, refl),
        (
          _,
          (_, _, _, (refl, refl), refl, refl, room, refl, refl),
          (
            _,
            (_, _, _, (refl, refl), refl, refl, room, refl, refl),
            (
              _,
              (_, _, _, _, (refl, refl), refl, refl, refl, refl, refl),
              (_, (_, _, _, _, (refl, refl), refl, refl, refl, refl, refl), refl),
            ),
          ),
        ),
      ),
    ),
  ),
)

-- main's task then has ended with 2
ends_with_two : (t : Task) × (run.0.tasks (0 ∷ []) ≡ Some t) × (pause [] t.state ≡ ended (value.int (pos 2)))
unfolding main child run program types x first second a b c d
ends_with_two = (_, refl, refl)

-- ---- two tasks that both wait to receive, with something left in a channel

-- let (y, e) = receive d in let (z, f) = receive b in z
late_child : CoreTree
late_child = split 0 x x (receive 0 (local 0 0)) (split 0 x x (receive 0 (local 0 4)) (local 0 1))

-- let (x, i) = receive h in send x g; send 0 c; 5
late_end : CoreTree
late_end = split 0 x x (receive 0 (local 0 0))
    (seq 0 (send 0 (local 0 1) (local 0 3)) (seq 0 (send 0 (int 0 (pos 0)) (local 0 6)) (int 0 (pos 5))))

-- let (a, b) = new !Int in let (c, d) = new !Int in fork (..); let e = send 1 a in let (g, h) = new !Int in ..
late_main : CoreTree
late_main = split 0 x x (new 0 0) (split 0 x x (new 0 0)
    (seq 0 (fork 0 late_child) (let_in 0 x (send 0 (int 0 (pos 1)) (local 0 3)) (split 0 x x (new 0 0) late_end))))

late_program : Program
late_program = record { families = []; bodies = late_main ∷ [] }

h : EndName
h = record { channel = record { maker = 0 ∷ []; count = 3 }; side = Right }

-- one value is put in, and then both wait
late_run : (z : Config) × Runs late_program types 1 (started late_main)
    (happens.new first ∷ happens.new first ∷ happens.fork first ∷ happens.put first a
    (event.Int (pos 1)) ∷ happens.new first ∷ []) z
unfolding late_main late_child late_end late_program types x first a
late_run = (
  _,
  (
    _,
    (_, _, _, _, (refl, refl), refl, refl, refl),
    (
      _,
      (_, _, _, _, (refl, refl), refl, refl, refl),
      (
        _,
        (_, _, _, (refl, refl), refl, refl, refl),
        (_, (_, _, _, (refl, refl), refl, refl, room, refl, refl), (_, (_, _, _, _, (refl, refl), refl, refl, refl), refl)),
      ),
    ),
  ),
)

-- main waits at the third channel, the other task at the second, and one entry of the first isn't taken
both_wait : (t : Task) × (u : Task) × (k : Channel) × (late_run.0.tasks (0 ∷ []) ≡ Some t) × (request [] t.state ≡ Some (Get h)) ×
    (late_run.0.tasks (0 ∷ 1 ∷ []) ≡ Some u) ×
    (request [] u.state ≡ Some (Get d)) × (late_run.0.channels a.channel ≡ Some k) × (k.left ≡ 1) × (k.right ≡ 0)
unfolding late_main late_child late_end late_program late_run types x first a d h
both_wait = (_, _, _, refl, refl, refl, refl, refl, refl, refl)
