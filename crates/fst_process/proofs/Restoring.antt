-- Tasks and channels that are handed in, as what is kept of a configuration.
use Rattle.std.proofs.Common.{◌≡◌, ◌∙◌, ◌+◌, ◌<◌, ◌≤◌, ℕ, zero, suc, Bool, true, false, Option, Some, None, [], ◌∷◌, refl, sym, ap, subst, arith}
use Rattle.std.specs.Prelude.{length, if◌then◌else◌}
use Rattle.fst_base.proofs.Options.{none_some}
use Rattle.fst_lts.specs.Histories.{over}
use Rattle.fst_terms.specs.declared.core_module.Module.{Module}
use Rattle.fst_types.specs.declared.ends.ChannelName.{ChannelName}
use Rattle.fst_machine.specs.declared.code.Code.{Code}
use Rattle.fst_vm.specs.Tasks.{IsFrom}
use Rattle.fst_runs.specs.Configs as runs
use Rattle.fst_runs.specs.Configs.{Path, Config, Task, same_path, same_channel, channel_name, program, Histories, channel_in, ChannelsWithin}
use Rattle.fst_runs.specs.Wrong.{IsRight}
use Rattle.fst_runs.proofs.Laws.{same_path-same}
use Rattle.fst_paths.specs.Paths.{put_at}
use Rattle.fst_process.specs.Kept.{Kept, nothing, added, settled}
use Rattle.fst_process.specs.Reflects.{Reflects}
use Rattle.fst_process.specs.Resuming.{Tasks, task_in, AreApart, made_by, AreNumbered, AreThere, TasksWithin, CanResume, IsResumed, unasked, restored, HaveNext, AreSettled}
use Rattle.fst_paths.proofs.Laws.{put_here, put_cases, put_back}
use Rattle.fst_process.proofs.Places.{channel_cases}
use Rattle.fst_process.proofs.Taking.{hide, show, later}
use Rattle.fst_process.proofs.Fewer.{Fine, fewer}
use Rattle.fst_process.proofs.Opening.{with_channel, adding}
use Rattle.fst_process.proofs.Going.{IsOf, settled_made, comes_in}
use Rattle.fst_process.proofs.Begun.{nobody, nothing_yet}
use Rattle.fst_process.proofs.Rights.{right_fine, right_alive}
use Rattle.fst_process.proofs.Stepping.{settled_types}

-- ---- channels

-- the configuration with these channels
abbrev with_all : Histories → Config → Config
with_all [] b = b
with_all (h ∷ hs) b = with_all hs (with_channel h.name (record { declared = h.declared; history = h.entries.items }) b)

with_all_tasks : (hs : Histories) (b : Config) → (with_all hs b).tasks ≡ b.tasks
with_all_tasks [] b = refl
with_all_tasks (h ∷ hs) b = with_all_tasks hs (with_channel h.name
    (record { declared = h.declared; history = h.entries.items }) b)

over_one : {X : Type 0} (o : Option X) (b : Bool) (j : X) (u : Option X) →
    over o (if b then Some j else u) ≡ over (over o (if b then Some j else None)) u
over_one None true j u = refl
over_one None false j u = refl
over_one (Some x) b j u = refl

over_none : {X : Type 0} (o : Option X) → over o None ≡ o
over_none None = refl
over_none (Some x) = refl

with_all_channels : (hs : Histories) (b : Config) (g : ChannelName) →
    (with_all hs b).channels g ≡ over (channel_in hs g) (b.channels g)
with_all_channels [] b g = refl
with_all_channels (h ∷ hs) b g =
    let j : runs.Channel = record { declared = h.declared; history = h.entries.items } in
    with_all_channels hs (with_channel h.name j b) g ∙ over_one (channel_in hs g) (same_channel h.name g) j (b.channels g)

-- no channel has a number over those that its maker has given
abbrev AreGiven : (Path → ℕ) → Config → Type 0
AreGiven f b = (g : ChannelName) → f g.maker < g.count → b.channels g ≡ None

given_more : (f : Path → ℕ) (b : Config) (h : ChannelName) (j : runs.Channel) → AreGiven f b → h.count ≡ suc (f h.maker) →
    AreGiven (put_at h.maker (suc (f h.maker)) f) (with_channel h j b)
given_more f b h j given next = λ g over.
    channel_cases (λ (o : Option runs.Channel). o ≡ None) h g (Some j) (b.channels g)
    (λ z.
    let here : put_at h.maker (suc (f h.maker)) f h.maker < h.count = subst
    (λ (o : ChannelName). put_at h.maker (suc (f h.maker)) f o.maker < o.count) (sym z) over in
    let at = put_here h.maker (suc (f h.maker)) f in
    absurd (omega (arith, here, at, next)))
    (λ z. given g (put_cases (λ i. i < g.count → f g.maker < g.count) h.maker g.maker (suc (f h.maker)) f
    (λ y a. let same : f h.maker ≡ f g.maker = ap f y in omega (arith, same, a)) (λ y a. a) over))

-- channels are put in where no task is there yet
are_added : (m : Module) (k : Code) (n : ℕ) (hs : Histories) (d : Kept) (b : Config) → Reflects m k n d b →
    ((p : Path) → b.tasks p ≡ None) → AreGiven d.made b →
    AreNumbered d.made hs → ChannelsWithin n hs → Reflects m k n (restored hs d) (with_all hs b)
are_added m k n [] d b r away given numbered within = r
are_added m k n (h ∷ hs) d b r away given numbered within =
    let next = numbered.0 in
    let number = within.0 in
    let j : runs.Channel = record { declared = h.declared; history = h.entries.items } in
    let name : h.name ≡ channel_name h.name.maker (d.made h.name.maker) = λ i. record { maker = h.name.maker; count = next i } in
    let one = adding m k n d b h.name h.declared h.entries.items r (given h.name (omega (arith, next))) (away h.name.maker) next
    (omega (arith, next, number)) within.1 in
    are_added m k n hs (added (channel_name h.name.maker (d.made h.name.maker)) (unasked h) d) (with_channel h.name j b)
    (subst (λ g. Reflects m k n (added g (unasked h) d) (with_channel h.name j b)) name one)
    away (given_more d.made b h.name j given next) numbered.1 within.2

-- how many channels each task has made then
restored_made : (p : Path) (hs : Histories) (d : Kept) → (restored hs d).made p ≡ d.made p + made_by p hs
restored_made p [] d = omega arith
restored_made p (h ∷ hs) d =
    restored_made p hs (added (channel_name h.name.maker (d.made h.name.maker)) (unasked h) d)
    ∙ by (same_path h.name.maker p) refl
  where
    by : (b : Bool) → same_path h.name.maker p ≡ b →
        (if b then suc (d.made h.name.maker) else d.made p) + made_by p hs ≡ d.made p
        + (if b then suc (made_by p hs) else made_by p hs)
    by true e = let same : d.made h.name.maker ≡ d.made p = ap d.made (same_path-same h.name.maker p e) in omega (arith, same)
    by false e = refl

-- ---- tasks

-- the configuration without these tasks
abbrev besides : Tasks → Config → Config
besides [] c = c
besides (t ∷ ts) c = hide t.0.path (besides ts c)

besides_channels : (ts : Tasks) (c : Config) → (besides ts c).channels ≡ c.channels
besides_channels [] c = refl
besides_channels (t ∷ ts) c = besides_channels ts c

-- it has another task as before
besides_else : (ts : Tasks) (c : Config) (p : Path) → task_in ts p ≡ None → (besides ts c).tasks p ≡ c.tasks p
besides_else [] c p none = refl
besides_else (t ∷ ts) c p none = by (besides_else ts c p) (same_path t.0.path p) none
  where
    by : (task_in ts p ≡ None → (besides ts c).tasks p ≡ c.tasks p) → (b : Bool) → (if b then Some t else task_in ts p) ≡ None →
        (if b then None else (besides ts c).tasks p) ≡ c.tasks p
    by rest true e = absurd (none_some (sym e))
    by rest false e = rest e

-- and a task that it has is there
besides_there : (ts : Tasks) (c : Config) (p : Path) (u : Task) → (besides ts c).tasks p ≡ Some u → c.tasks p ≡ Some u
besides_there [] c p u e = e
besides_there (t ∷ ts) c p u e = by (besides_there ts c p u) (same_path t.0.path p) e
  where
    by : ((besides ts c).tasks p ≡ Some u → c.tasks p ≡ Some u) → (b : Bool) →
        (if b then None else (besides ts c).tasks p) ≡ Some u → c.tasks p ≡ Some u
    by rest true f = absurd (none_some f)
    by rest false f = rest f

-- it has none where these are all
besides_none : (ts : Tasks) (c : Config) (p : Path) → (task_in ts p ≡ None → c.tasks p ≡ None) → (besides ts c).tasks p ≡ None
besides_none [] c p h = h refl
besides_none (t ∷ ts) c p h = by (besides_none ts c p) (same_path t.0.path p) h
  where
    by : ((task_in ts p ≡ None → c.tasks p ≡ None) → (besides ts c).tasks p ≡ None) → (b : Bool) →
        ((if b then Some t else task_in ts p) ≡ None → c.tasks p ≡ None) → (if b then None else (besides ts c).tasks p) ≡ None
    by rest true f = refl
    by rest false f = rest f

-- where nothing has gone wrong, each task has a next request
next_each : (m : Module) (k : Code) (hs : Histories) (c : Config) → IsFrom m k → IsRight (program m) c →
    (ts : Tasks) → AreThere m k hs c ts → HaveNext k ts
next_each m k hs c from right [] all = tt
next_each m k hs c from right (t ∷ ts) all =
    let i = all.0 in
    let a = right.asks t.0.path i.task i.there in (
      record { source = m; from = from; state = i.task.state; is_in = i.is_in; next = (a.0, a.1) },
      next_each m k hs c from right ts all.1,
    )

-- so has each task that is handed in
pub have_next : (k : Code) (ts : Tasks) (hs : Histories) → CanResume k ts hs → HaveNext k ts
have_next k ts hs x = next_each x.source k hs x.config x.all.from x.right ts x.all.tasks

-- tasks are put in one after the other
module _ (m : Module) (k : Code) (n : ℕ) (hs : Histories) (c : Config) (from : IsFrom m k) (right : IsRight (program m) c) where
  are_settled : (ts : Tasks) (d e : Kept) → AreThere m k hs c ts → AreApart ts → TasksWithin n ts →
      ((p : Path) → d.made p ≡ made_by p hs) → Reflects m k n d (besides ts c) →
      AreSettled k ts d e → Reflects m k n e c
  are_settled [] d e all apart within made r z = subst (λ y. Reflects m k n y c) (sym z) r
  are_settled (t ∷ ts) d e all apart within made r z =
      let p = t.0.path in
      let rest = besides ts c in
      let i = all.0 in
      let s = z.1 in
      let at : rest.tasks p ≡ Some i.task = besides_else ts c p apart.0 ∙ i.there in
      let same : rest ≡ show p i.task (hide p rest) =
      λ o. record { tasks = put_back p (Some i.task) None rest.tasks at o; channels = rest.channels } in
      let is : IsOf m k p s.slot i.task = record {
        path = s.stays.path;
        rests = s.rests;
        is_in = s.stays.states m i.task.state i.is_in;
        asks = s.asked m i.task.state i.is_in (right_alive m c p i.task right i.there);
        clock = s.clock ∙ i.clock;
        forked = s.stays.forked ∙ i.forked;
      } in
      let fine : Fine m rest = fewer m rest c (besides_there ts c)
      (λ h. ap (λ f. f h) (besides_channels ts c)) (right_fine m c right) in
      let into =
      comes_in m k n d (hide p rest) p s.slot i.task r (put_here p None rest.tasks) is (made p ∙ i.made)
      (subst (λ l. l ≤ n) i.clock within.0)
      (subst (λ l. l ≤ n) i.forked within.1) (subst (Fine m) same fine) in
      let after : z.0 ≡ settled (length m.types.items) s.slot d = settled_types m k t.0 t.1 d z.0 from s in
      are_settled ts z.0 e all.1 apart.1 within.2 (λ q. ap (λ (y : Kept). y.made q) after
      ∙ settled_made (length m.types.items) s.slot d q ∙ made q)
      (subst (λ y. Reflects m k n y rest) (sym after)
      (subst (Reflects m k n (settled (length m.types.items) s.slot d)) (sym same) into)) z.2

-- once channels and then tasks are put in where nothing was, what is kept is the configuration whose tasks and channels these are
pub is_resumed : (k : Code) (ts : Tasks) (hs : Histories) (a d e : Kept) → a ≡ nothing → d ≡ restored hs a → AreSettled k ts d e →
    IsResumed k ts hs e
is_resumed k ts hs a d e empty channels tasks = λ m n c all right few numbers.
    let first = later m k zero n nothing nobody (nothing_yet m k all.from) (omega arith) in
    let added = are_added m k n hs nothing nobody first (λ p. refl) (λ g l. refl) all.numbered numbers in
    let same : with_all hs nobody ≡ besides ts c = λ i. record {
      tasks = λ p. (ap (λ f. f p) (with_all_tasks hs nobody) ∙ sym (besides_none ts c p (all.no_others p))) i;
      channels = λ g.
          (with_all_channels hs nobody g ∙ over_none (channel_in hs g) ∙ sym (all.channels g)
          ∙ sym (ap (λ f. f g) (besides_channels ts c))) i;
    } in
    let now : d ≡ restored hs nothing = channels ∙ ap (restored hs) empty in
    are_settled m k n hs c all.from right ts d e all.tasks all.apart few
    (λ p. ap (λ (y : Kept). y.made p) now ∙ restored_made p hs nothing ∙ zero_more (made_by p hs))
    (subst (λ y. Reflects m k n y (besides ts c)) (sym now) (subst (Reflects m k n (restored hs nothing)) same added)) tasks
  where
    zero_more : (i : ℕ) → zero + i ≡ i
    zero_more i = omega arith
