-- That tasks which know of their own ends alone stay typed, whatever they are told.
use Rattle.std.specs.Prelude.{◌≡◌, ℕ, suc, ◌<◌, true, Some, List, [], ◌∷◌, ◌++◌, All, Contains, IsPermutation, slice_get}
use Rattle.atomic_table.specs.Seated.{TableId}
use Rattle.fst_types.specs.Tree.{Tree}
use Rattle.fst_types.specs.declared.side.Side.TheVariants.{Left, Right}
use Rattle.fst_derivations.specs.Deriv.{Deriv}
use Rattle.fst_derivations.specs.Modules.{HasDerivations, surroundings}
use Rattle.fst_derivations.specs.Rules.{Surroundings}
use Rattle.fst_terms.specs.declared.core_module.Module.{Module}
use Rattle.fst_types.specs.declared.ends.EndName.{EndName}
use Rattle.fst_types.specs.declared.event.Entry.{Entry}
use Rattle.fst_machine.specs.declared.request.Request.{Request}
use Rattle.fst_machine.specs.declared.request.Request.TheVariants.{Step, New, Fork, Put, Get}
use Rattle.fst_machine.specs.declared.request.Answer.{Answer}
use Rattle.fst_machine.specs.declared.request.Answer.TheVariants.{Go, Made, Forked, Sent, Got}
use Rattle.fst_machine.specs.Code.{Compiled}
use Rattle.fst_machine.specs.Spots.{Slots}
use Rattle.fst_machine.specs.Standing.{AreAlike}
use Rattle.fst_machine.specs.Values.{Environment}
use Rattle.fst_machine.specs.Machine.{State, pause, request, answered, child}
use Rattle.fst_vm.specs.Moves.{ends_in_slots}
use Rattle.fst_runs.specs.Configs.{child_path, channel_name, new_task}
use Rattle.fst_runs.specs.Wrong.{held_env, held_state}
use Rattle.fst_cell.specs.declared.content.Half.{Half}
use Rattle.fst_cell.specs.Answers.{end_with, longer}
use Rattle.fst_cell.specs.End.{EndView, end_name, residual_of}
use Rattle.fst_lts.specs.Residuals.{receives}
use Rattle.fst_cell.specs.Rule.{fresh}
use Rattle.fst_runs.specs.declared.log.LogEntry.{LogEntry}
use Rattle.fst_safety.specs.WellTyped.{program_in}
use Rattle.fst_runs.specs.Logs.{after_entry}
use Rattle.fst_safety.specs.Threads.{Thread, FitsIn, FitsEnd, count_of}
use Rattle.fst_safety.specs.Bags.{IsPutBack}
use Rattle.fst_safety.specs.Turns.{Turn}

-- the thread x has gone on to y by one turn, and has forked these; they fit the module
pub record GoesOnTo (m : Surroundings) (a : Tree) (x y : Thread) (new : List Thread) : Type 0 where
  pub fits : FitsIn m a y
  pub new_fit : All (FitsIn m a) new
  pub turn : Turn m x y new

-- the thread with one more entry, and these ends
abbrev pub with_entry : Surroundings → Thread → Request → Answer → ℕ → List EndView → List EndView →
    Thread
with_entry m x q r stamp bag retired =
    let g : LogEntry = record { asked = q; answer = r; stamp = stamp } in
    record {
      path = x.path;
      first = x.first;
      log = x.log ++ g ∷ [];
      now =
          after_entry (program_in m) x.now g;
      bag = bag;
      retired = retired;
    }

-- the end e of a thread is f now, and is put where it belongs
pub record IsMoved (x : Thread) (e f : EndView) (bag retired : List EndView) : Type 0 where
  pub rest : List EndView
  pub before : IsPermutation x.bag (e ∷ rest)
  pub put : IsPutBack f rest x.retired bag retired

-- so it is of a thread that fits its module, which has derivations
abbrev pub OfThreads : ((m : Surroundings) (a : Tree) (x : Thread) → Type 0) → Type 0
OfThreads P = (m : Module) (ds : List Deriv) → HasDerivations m ds →
    (a : Tree) (x : Thread) → FitsIn (surroundings m []) a x → P (surroundings m []) a x

-- a thread that asks to go on by itself fits again after a step
abbrev pub StepsOn : Type 0
StepsOn = OfThreads (λ m a x. (s : State) → request m.families x.now.state ≡ Some Step →
    answered (program_in m) x.now.state Go ≡ Some s →
    GoesOnTo m a x (with_entry m x Step Go (suc x.now.clock) x.bag x.retired) [])

-- one that asks for a channel fits again with the two new ends, each put where it belongs
abbrev pub Opens : Type 0
Opens = OfThreads (λ m a x. (k : ℕ) (d : Tree) (s : State) (cell : TableId) (l r : EndView)
    (bag1 ret1 bag ret : List EndView) →
    request m.families x.now.state ≡ Some (New k) → slice_get m.types k ≡ Some d →
    answered (program_in m) x.now.state (Made (channel_name x.path x.now.made)) ≡ Some s →
    l ≡ record { cell = cell; channel = channel_name x.path x.now.made; knows = fresh Left d } →
    r ≡ record { cell = cell; channel = channel_name x.path x.now.made; knows = fresh Right d } →
    IsPutBack l x.bag x.retired bag1 ret1 → IsPutBack r bag1 ret1 bag ret →
    GoesOnTo m a x (with_entry m x (New k) (Made (channel_name x.path x.now.made))
    (suc x.now.clock) bag ret) [])

-- one that asks for a fork fits again without the ends that stand in the state of the other, and that one fits with them
abbrev pub ForksOn : Type 0
ForksOn = OfThreads (λ m a x. (b s : State) (names : List EndName) (mine theirs : List EndView) →
    request m.families x.now.state ≡ Some Fork → child (pause m.families x.now.state) ≡ Some b →
    answered (program_in m) x.now.state Forked ≡ Some s →
    IsPermutation x.bag (mine ++ theirs) →
    ((z : EndName) → Contains names z → count_of z mine ≡ 0) → All
    (λ (e : EndView). Contains names (end_name e)) theirs →
    ((z : EndName) → (Contains names z → 0 < held_state z b) ×
    (0 < held_state z b → Contains names z)) →
    GoesOnTo m a x (with_entry m x Fork Forked (suc x.now.clock) mine x.retired)
    (record {
      path = child_path x.path x.now.forked;
      first = new_task b (suc x.now.clock);
      log = [];
      now = new_task b (suc x.now.clock);
      bag = theirs;
      retired = [];
    } ∷ []))

-- one of whose ends has tried, or offers what it asks to send, fits as before
abbrev pub Tries : Type 0
Tries = OfThreads (λ m a x. (e : EndView) (v : Half) (rest bag : List EndView) →
    IsPermutation x.bag (e ∷ rest) → bag ≡ rest ++ end_with e v ∷ [] → v.side ≡ e.knows.side →
    v.declared ≡ e.knows.declared → v.history ≡ e.knows.history →
    FitsEnd m x.now (end_with e v) → GoesOnTo m a x (record x { bag = bag }) [])

-- one whose offer was taken fits again after it is told so
abbrev pub Sends : Type 0
Sends = OfThreads (λ m a x. (e : EndView) (n : ℕ) (taken : Entry) (s : State)
    (bag retired : List EndView) →
    request m.families x.now.state ≡ Some (Put (end_name e) taken.event) →
    answered (program_in m) x.now.state Sent ≡ Some s →
    taken.sent ≡ x.now.clock → x.now.clock < taken.stamp →
    IsMoved x e (end_with e (longer e.knows n taken)) bag retired →
    GoesOnTo m a x (with_entry m x (Put (end_name e) taken.event) Sent taken.stamp bag retired) [])

-- one that took an event which its end may receive fits again with it
abbrev pub Receives : Type 0
Receives = OfThreads (λ m a x. (e : EndView) (n : ℕ) (taken : Entry) (s : State)
    (bag retired : List EndView) →
    request m.families x.now.state ≡ Some (Get (end_name e)) →
    answered (program_in m) x.now.state (Got taken.event) ≡ Some s →
    receives (residual_of e.knows) taken.event ≡ true → taken.got ≡ x.now.clock →
    x.now.clock < taken.stamp →
    IsMoved x e (end_with e (longer e.knows n taken)) bag retired →
    GoesOnTo m a x (with_entry m x (Get (end_name e)) (Got taken.event) taken.stamp bag retired) [])

-- all of this
pub record StayTyped : Type 0 where
  pub steps : StepsOn
  pub opens : Opens
  pub forks : ForksOn
  pub tries : Tries
  pub sends : Sends
  pub receives : Receives

-- the ends that variables of code have are those that the environment for which they stand holds
abbrev pub EndsAreHeld : Type 0
EndsAreHeld = (c : Compiled) (os : Slots) (env : Environment) → AreAlike c os env → (z : EndName) →
    (Contains (ends_in_slots os) z → 0 < held_env z env) ×
    (0 < held_env z env → Contains (ends_in_slots os) z)
