-- A task with its log and its ends, and when it fits its module.
use Rattle.std.specs.Prelude.{◌≡◌, ℕ, ◌<◌, ◌≤◌, false, true, Some, None, List, [], ◌∷◌, ◌++◌, length, sum_by, All}
use Rattle.fst_types.specs.Tree.{Tree, skip}
use Rattle.fst_lts.specs.Step.{terminated}
use Rattle.fst_lts.specs.Histories.{side_type}
use Rattle.fst_derivations.specs.Rules.{Surroundings}
use Rattle.fst_types.specs.declared.ends.EndName.{EndName}
use Rattle.fst_types.specs.declared.event.Entry.{Entry}
use Rattle.fst_machine.specs.declared.request.Request.TheVariants.{Put}
use Rattle.fst_machine.specs.Machine.{State, request}
use Rattle.fst_runs.specs.Configs.{Path, Task, same_end, main_path}
use Rattle.fst_runs.specs.Wrong.{once, held_state}
use Rattle.fst_cell.specs.declared.content.Offer.{Offer}
use Rattle.fst_lts.specs.Residuals.{sends}
use Rattle.fst_cell.specs.End.{EndView, end_name, residual_of}
use Rattle.fst_runs.specs.declared.log.LogEntry.{LogEntry}
use Rattle.fst_safety.specs.Fitting.{Residuals, IsTyped}
use Rattle.fst_safety.specs.WellTyped.{program_in}
use Rattle.fst_runs.specs.Logs.{Exchange, Follows, openings, parts_in}

-- a task: its path, how it began, its log, how it is now, and its ends, those with something left to do and the spent ones
pub record Thread : Type 0 where
  pub path : Path
  pub first : Task
  pub log : List LogEntry
  pub now : Task
  pub bag : List EndView
  pub retired : List EndView

-- ---- ends

-- how often an end stands among some
abbrev pub count_of : EndName → List EndView → ℕ
count_of x es = sum_by (λ (e : EndView). once (same_end x (end_name e))) es

-- something is left to do on the end
pub record IsOpen (e : EndView) : Type 0 where
  pub residual : Tree
  pub is : residual_of e.knows ≡ Some residual
  pub left : terminated residual ≡ false

-- nothing is, and no offer of it waits
pub record IsSpent (e : EndView) : Type 0 where
  pub residual : Tree
  pub is : residual_of e.knows ≡ Some residual
  pub done : terminated residual ≡ true
  pub idle : e.knows.offer ≡ None

-- the residuals are those that these ends have, and that of a spent end for any other
pub record AreResiduals (bag : List EndView) (r : Residuals) : Type 0 where
  pub known : All (λ (e : EndView). r (end_name e) ≡ residual_of e.knows) bag
  pub others : (x : EndName) → count_of x bag ≡ 0 → r x ≡ Some skip

-- an end waits only where the task asks to send its offer on it, at the offer's clock
pub record Waits (m : Surroundings) (t : Task) (e : EndView) (o : Offer) : Type 0 where
  pub asks : request m.families t.state ≡ Some (Put (end_name e) o.event)
  pub clock : o.clock ≡ t.clock
  pub sends : sends (residual_of e.knows) o.event ≡ true

-- the stamps of entries rise, the first of them over n, and none is over the clock
abbrev pub RiseFrom : ℕ → List Entry → ℕ → Type 0
RiseFrom n [] clock = n ≤ clock
RiseFrom n (e ∷ es) clock = (n < e.stamp) × RiseFrom e.stamp es clock

-- so it is of what the end knows
abbrev pub IsPast : ℕ → EndView → Type 0
IsPast clock e = RiseFrom 0 e.knows.history clock

-- no stamp that the end knows is over the task's clock, and where an offer waits the task asks for it
pub record FitsEnd (m : Surroundings) (t : Task) (e : EndView) : Type 0 where
  pub past : IsPast t.clock e
  pub waits : (o : Offer) → e.knows.offer ≡ Some o → Waits m t e o

-- the channel of an end was made by the task with this path, which has made so many, or by one of those that led to it
pub record IsNamedBelow (path : Path) (made : ℕ) (y : EndName) : Type 0 where
  pub behind : List ℕ
  pub leads : path ≡ y.channel.maker ++ behind
  pub own : behind ≡ [] → y.channel.count ≤ made

-- what an end has exchanged, as far as it knows
abbrev pub shown : EndView → List Exchange
shown e = parts_in (end_name e) (Some (side_type e.knows.side e.knows.declared)) e.knows.history

-- ---- a task that fits its module

-- the task's state is typed over what its open ends know, in its module, where main has the type a
pub record IsTypedOver (m : Surroundings) (a : Tree) (path : Path) (s : State)
    (bag : List EndView) : Type 0 where
  pub residuals : Residuals
  pub are : AreResiduals bag residuals
  pub type : Tree
  pub typed : IsTyped m residuals s type
  pub main : path ≡ main_path → type ≡ a

-- the log leads to the task, which is typed; its open ends are those of its state, each standing there once; others are spent; no stamp
-- that an end knows is over its clock; and each channel that it made has a type of the module
pub record FitsIn (m : Surroundings) (a : Tree) (x : Thread) : Type 0 where
  pub none_made : x.first.made ≡ 0
  pub none_forked : x.first.forked ≡ 0
  pub follows : Follows (program_in m) x.path x.first x.log x.now
  pub typed : IsTypedOver m a x.path x.now.state x.bag
  pub unspent : All IsOpen x.bag
  pub once : (y : EndName) → 0 < count_of y x.bag → (count_of y x.bag ≡ 1) ×
      (held_state y x.now.state ≡ 1)
  pub named : (y : EndName) → 0 < held_state y x.now.state → IsNamedBelow x.path x.now.made y
  pub ends : All (FitsEnd m x.now) x.bag
  pub spent : All IsSpent x.retired
  pub past : All (IsPast x.now.clock) x.retired
  pub opened : length (openings m.types x.log) ≡ x.now.made
  pub made : x.now.made ≤ x.now.clock
  pub forked : x.now.forked ≤ x.now.clock
