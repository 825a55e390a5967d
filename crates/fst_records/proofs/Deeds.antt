-- What an entry of a log is, by what its task did.
use Rattle.std.proofs.Common.{◌≡◌, ℕ, suc, [], ◌∷◌, refl, ap, subst}
use Rattle.fst_types.specs.declared.ends.ChannelName.{ChannelName}
use Rattle.fst_types.specs.declared.ends.EndName.{EndName}
use Rattle.fst_types.specs.declared.event.Event.{Event}
use Rattle.fst_machine.specs.declared.request.Request.{Request}
use Rattle.fst_machine.specs.declared.request.Request.TheVariants.{Step, New, Fork, Put, Get}
use Rattle.fst_machine.specs.declared.request.Answer.{Answer}
use Rattle.fst_machine.specs.declared.request.Answer.TheVariants.{Go, Made, Forked, Sent, Got}
use Rattle.fst_runs.specs.Configs.{Path, Task, channel_name}
use Rattle.fst_runs.specs.Logs.{IsAnswered}
use Rattle.fst_records.specs.Parts.{Deed, stepped, made, forked, sent, got, deeds}

-- the task took a step of its own
pub record HasStepped (t : Task) (stamp : ℕ) (q : Request) (a : Answer) : Type 0 where
  pub asked : q ≡ Step
  pub answer : a ≡ Go
  pub stamp_is : stamp ≡ suc t.clock

-- it made a channel
pub record HasMade (path : Path) (t : Task) (stamp : ℕ) (q : Request) (a : Answer) : Type 0 where
  pub number : ℕ
  pub asked : q ≡ New number
  pub answer : a ≡ Made (channel_name path t.made)
  pub stamp_is : stamp ≡ suc t.clock

-- it forked a task
pub record HasForked (t : Task) (stamp : ℕ) (q : Request) (a : Answer) : Type 0 where
  pub asked : q ≡ Fork
  pub answer : a ≡ Forked
  pub stamp_is : stamp ≡ suc t.clock

-- it sent something over this channel
pub record HasSent (h : ChannelName) (q : Request) (a : Answer) : Type 0 where
  pub end : EndName
  pub event : Event
  pub asked : q ≡ Put end event
  pub answer : a ≡ Sent
  pub channel : end.channel ≡ h

-- it got something over this channel
pub record HasGot (h : ChannelName) (q : Request) (a : Answer) : Type 0 where
  pub end : EndName
  pub event : Event
  pub asked : q ≡ Get end
  pub answer : a ≡ Got event
  pub channel : end.channel ≡ h

-- it did this
abbrev pub HasDone : Path → Task → ℕ → Request → Answer → Deed → Type 0
HasDone path t stamp q a stepped = HasStepped t stamp q a
HasDone path t stamp q a made = HasMade path t stamp q a
HasDone path t stamp q a forked = HasForked t stamp q a
HasDone path t stamp q a (sent h) = HasSent h q a
HasDone path t stamp q a (got h) = HasGot h q a

-- an answered request is one deed
pub one_deed : (path : Path) (t : Task) (stamp : ℕ) (q : Request) (a : Answer) → IsAnswered path t stamp q a →
    (d : Deed) × (deeds q a ≡ d ∷ []) × HasDone path t stamp q a d
one_deed path t stamp Step Go i = (stepped, refl, record { asked = refl; answer = refl; stamp_is = i })
one_deed path t stamp (New n) (Made h) i = (made, refl, record { number = n; asked = refl; answer = ap Made i.1; stamp_is = i.0 })
one_deed path t stamp Fork Forked i = (forked, refl, record { asked = refl; answer = refl; stamp_is = i })
one_deed path t stamp (Put x ev) Sent i =
    (sent x.channel, refl, record { end = x; event = ev; asked = refl; answer = refl; channel = refl })
one_deed path t stamp (Get x) (Got ev) i =
    (got x.channel, refl, record { end = x; event = ev; asked = refl; answer = refl; channel = refl })
one_deed path t stamp q a i = absurd i

-- which one it is is what the task did
pub has_done : (path : Path) (t : Task) (stamp : ℕ) (q : Request) (a : Answer) (d : Deed) → IsAnswered path t stamp q a →
    deeds q a ≡ d ∷ [] → HasDone path t stamp q a d
has_done path t stamp q a d i e =
    let r = one_deed path t stamp q a i in
    let f : r.0 ∷ [] ≡ d ∷ [] = cc (r.1, e) in
    let same : r.0 ≡ d = cc f in
    subst (HasDone path t stamp q a) same r.2
