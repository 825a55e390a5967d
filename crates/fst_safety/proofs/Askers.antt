-- Which event a task takes part in: a request belongs to one event alone.
use Rattle.std.proofs.Common.{◌≡◌, ◌∙◌, ◌⊎◌, inl, inr, ℕ, Some, refl, sym, ap, subst}
use Rattle.std.specs.Prelude.{⊤}
use Rattle.fst_base.proofs.Options.{some_same}
use Rattle.fst_types.specs.declared.side.Side.{Side}
use Rattle.fst_types.specs.declared.side.Side.TheVariants.{Left, Right}
use Rattle.fst_lts.specs.Histories.{opposite}
use Rattle.fst_types.specs.declared.ends.ChannelName.{ChannelName}
use Rattle.fst_types.specs.declared.ends.EndName.{EndName}
use Rattle.fst_types.specs.declared.event.Event.{Event}
use Rattle.fst_machine.specs.declared.request.Request.{Request}
use Rattle.fst_machine.specs.declared.request.Request.TheVariants as request
use Rattle.fst_machine.specs.Machine as machine
use Rattle.fst_machine.specs.Machine.{Program}
use Rattle.fst_runs.specs.declared.event.CoreEvent.{CoreEvent}
use Rattle.fst_runs.specs.declared.event.CoreEvent.TheVariants.{Local, New, Fork, Meet}
use Rattle.fst_runs.specs.Configs.{Path, Task, Config, other}
use Rattle.fst_runs.specs.Events.{Asks}
use Rattle.fst_runs.specs.Names.{HasMakers, HasParents}
use Rattle.fst_runs.specs.Wrong.{IsRight}
use Rattle.fst_runs.proofs.Laws.{right_one}

-- nothing has gone wrong, and names are fresh
pub record IsRegular (m : Program) (c : Config) : Type 0 where
  pub fine : IsRight m c
  pub makers : HasMakers c
  pub parents : HasParents c

-- a path has one task, and it asks for one thing
pub same_asks : (m : Program) (c : Config) (p : Path) (t u : Task) (q r : Request) → Asks m c p t q → Asks m c p u r → (t ≡ u) ×
    (q ≡ r)
same_asks m c p t u q r a b =
    let e : t ≡ u = some_same (sym a.0 ∙ b.0) in
    (e, some_same (sym a.1 ∙ ap (λ z. machine.request m.families z.state) e ∙ b.1))

other_other : (x y : EndName) → other x ≡ other y → x ≡ y
other_other x y e = λ i. record {
  channel = (e i).channel;
  side =
      (back x.side ∙ ap (λ (z : EndName). opposite z.side) e ∙ sym (back y.side)) i;
}
  where
    back : (s : Side) → s ≡ opposite (opposite s)
    back Left = refl
    back Right = refl

-- something is sent or received
abbrev IsMeeting : Request → Type 0
IsMeeting request.Step = ⊥
IsMeeting (request.New n) = ⊥
IsMeeting request.Fork = ⊥
IsMeeting (request.Put y ev) = ⊤
IsMeeting (request.Get y) = ⊤
IsMeeting request.Ended = ⊥

module _ (m : Program) (c : Config) (hs : IsRegular m c) where
  -- what the task with a path asks for where it takes part in an event
  abbrev pub Role : CoreEvent → Path → Request → Type 0
  Role (Local p) o q = (p ≡ o) × (q ≡ request.Step)
  Role (New p) o q = (n : ℕ) × (p ≡ o) × (q ≡ request.New n)
  Role (Fork p) o q = (p ≡ o) × (q ≡ request.Fork)
  Role (Meet p r h) o q =
      ((u : Task) × (x : EndName) × (ev : Event) × (p ≡ o) × (q ≡ request.Put x ev) × Asks m c r u (request.Get (other x)) ×
      (x.channel ≡ h))
      ⊎ ((t : Task) × (x : EndName) × (ev : Event) × (r ≡ o) × (q ≡ request.Get (other x)) × Asks m c p t (request.Put x ev) ×
      (x.channel ≡ h))

  same_meet : (p p' q q' : Path) (h h' : ChannelName) (o : Path) (r : Request) → Role (Meet p p' h) o r →
      Role (Meet q q' h') o r → Meet p p' h ≡ Meet q q' h'
  same_meet p p' q q' h h' o r (inl f) (inl g) =
      let z : request.Put f.1 f.2 ≡ request.Put g.1 g.2 = sym f.4 ∙ g.4 in
      let e : f.1 ≡ g.1 = cc z in
      let first : p ≡ q = f.3 ∙ sym g.3 in
      let second : p' ≡ q' = right_one m c hs.fine p' q' f.0 g.0 (request.Get (other f.1)) (request.Get (other g.1))
      (other f.1) f.5 g.5 refl (ap (λ z. Some (other z)) (sym e)) in
      let over : h ≡ h' = sym f.6 ∙ ap (λ (x : EndName). x.channel) e ∙ g.6 in
      λ i. Meet (first i) (second i) (over i)
  same_meet p p' q q' h h' o r (inl f) (inr g) =
      let z : request.Put f.1 f.2 ≡ request.Get (other g.1) = sym f.4 ∙ g.4 in
      absurd (cc z)
  same_meet p p' q q' h h' o r (inr f) (inl g) =
      let z : request.Get (other f.1) ≡ request.Put g.1 g.2 = sym f.4 ∙ g.4 in
      absurd (cc z)
  same_meet p p' q q' h h' o r (inr f) (inr g) =
      let z : request.Get (other f.1) ≡ request.Get (other g.1) = sym f.4 ∙ g.4 in
      let others : other f.1 ≡ other g.1 = cc z in
      let e : f.1 ≡ g.1 = other_other f.1 g.1 others in
      let first : p ≡ q = right_one m c hs.fine p q f.0 g.0 (request.Put f.1 f.2) (request.Put g.1 g.2) f.1 f.5 g.5 refl
      (ap Some (sym e)) in
      let second : p' ≡ q' = f.3 ∙ sym g.3 in
      let over : h ≡ h' = sym f.6 ∙ ap (λ (x : EndName). x.channel) e ∙ g.6 in
      λ i. Meet (first i) (second i) (over i)

  meets : (p r : Path) (h : ChannelName) (o : Path) (q : Request) → Role (Meet p r h) o q → IsMeeting q
  meets p r h o q (inl f) = subst IsMeeting (sym f.4) tt
  meets p r h o q (inr f) = subst IsMeeting (sym f.4) tt

  same_role : (a b : CoreEvent) (o : Path) (q : Request) → Role a o q → Role b o q → a ≡ b
  same_role (Local p) (Local r) o q f g = ap Local (f.0 ∙ sym g.0)
  same_role (New p) (New r) o q f g = ap New (f.1 ∙ sym g.1)
  same_role (Fork p) (Fork r) o q f g = ap Fork (f.0 ∙ sym g.0)
  same_role (Meet p p' h) (Meet r r' h') o q f g = same_meet p p' r r' h h' o q f g
  same_role (Local p) (New r) o q f g = let z : request.Step ≡ request.New g.0 = sym f.1 ∙ g.2 in absurd (cc z)
  same_role (Local p) (Fork r) o q f g = let z : request.Step ≡ request.Fork = sym f.1 ∙ g.1 in absurd (cc z)
  same_role (New p) (Local r) o q f g = let z : request.New f.0 ≡ request.Step = sym f.2 ∙ g.1 in absurd (cc z)
  same_role (New p) (Fork r) o q f g = let z : request.New f.0 ≡ request.Fork = sym f.2 ∙ g.1 in absurd (cc z)
  same_role (Fork p) (Local r) o q f g = let z : request.Fork ≡ request.Step = sym f.1 ∙ g.1 in absurd (cc z)
  same_role (Fork p) (New r) o q f g = let z : request.Fork ≡ request.New g.0 = sym f.1 ∙ g.2 in absurd (cc z)
  same_role (Local p) (Meet r r' h) o q f g = absurd (subst IsMeeting f.1 (meets r r' h o q g))
  same_role (New p) (Meet r r' h) o q f g = absurd (subst IsMeeting f.2 (meets r r' h o q g))
  same_role (Fork p) (Meet r r' h) o q f g = absurd (subst IsMeeting f.1 (meets r r' h o q g))
  same_role (Meet r r' h) (Local p) o q f g = absurd (subst IsMeeting g.1 (meets r r' h o q f))
  same_role (Meet r r' h) (New p) o q f g = absurd (subst IsMeeting g.2 (meets r r' h o q f))
  same_role (Meet r r' h) (Fork p) o q f g = absurd (subst IsMeeting g.1 (meets r r' h o q f))

  -- the task with this path takes part in the event
  abbrev pub Asker : CoreEvent → Path → Type 0
  Asker e o = (t : Task) × (q : Request) × Asks m c o t q × Role e o q

  -- a task takes part in one event alone
  pub same_asker : (a b : CoreEvent) (o : Path) → Asker a o → Asker b o → a ≡ b
  same_asker a b o f g =
      let e = same_asks m c o f.0 g.0 f.1 g.1 f.2 g.2 in
      same_role a b o f.1 f.3 (subst (Role b o) (sym e.1) g.3)
