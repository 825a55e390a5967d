-- No side's view lacks more entries than the capacity.
use Rattle.std.proofs.Common.{ℕ, ◌+◌, ◌≤◌, List, [], ◌∷◌, length, length-append, sym, subst, arith}
use Rattle.std.proofs.lemmas.Option.{none-some}
use Rattle.fst_types.specs.Tree.{Tree}
use Rattle.fst_types.specs.declared.side.Side.{Side}
use Rattle.fst_types.specs.declared.side.Side.TheVariants.{Left, Right}
use Rattle.fst_types.specs.declared.event.Event.{Event}
use Rattle.fst_machine.specs.Machine.{Program}
use Rattle.fst_runs.specs.Configs.{same_channel, channel_name}
use Rattle.fst_runs.proofs.Laws.{in_put}
use Rattle.fst_buffered.specs.Channels.{Channel, Config, seen, IsWhole, HasRoom, further, after_put, opened, started}
use Rattle.fst_buffered.specs.Events.{Occurrence, local, new, fork, put, takes, Does, Runs}
use Rattle.fst_buffered.specs.Order.{HoldsFew, ChannelsHoldFew}

-- a channel of which no side's view lacks more
abbrev Few : ℕ → Channel → Type 0
Few capacity k = (s : Side) → length k.history ≤ seen s k + capacity

opened_few : (capacity : ℕ) (a : Tree) → Few capacity (opened a)
opened_few capacity a Left = omega arith
opened_few capacity a Right = omega arith

put_few : (capacity : ℕ) (a : Side) (ev : Event) (k : Channel) → IsWhole a k → HasRoom capacity a k →
    Few capacity (after_put a ev k)
put_few capacity Left ev k w r Left = let l = length-append k.history (record { side = Left; event = ev } ∷ []) in
    omega (arith, w, l)
put_few capacity Left ev k w r Right = let l = length-append k.history (record { side = Left; event = ev } ∷ []) in
    omega (arith, r, l)
put_few capacity Right ev k w r Left = let l = length-append k.history (record { side = Right; event = ev } ∷ []) in
    omega (arith, r, l)
put_few capacity Right ev k w r Right = let l = length-append k.history (record { side = Right; event = ev } ∷ []) in
    omega (arith, w, l)

further_few : (capacity : ℕ) (a : Side) (k : Channel) → Few capacity k → Few capacity (further a k)
further_few capacity Left k f Left = let l = f Left in omega (arith, l)
further_few capacity Left k f Right = f Right
further_few capacity Right k f Left = f Left
further_few capacity Right k f Right = let l = f Right in omega (arith, l)

module _ (m : Program) (types : List Tree) (capacity : ℕ) where
  does_few : (c : Config) (e : Occurrence) (d : Config) → HoldsFew capacity c → Does m types capacity c e d → HoldsFew capacity d
  does_few c (local p) d f g = subst (HoldsFew capacity) (sym g.4) f
  does_few c (new p) d f g =
      subst (HoldsFew capacity) (sym g.7) (λ h k e. in_put (same_channel (channel_name p g.0.made) h) (opened g.3) k
      (c.channels h)
      (λ a q. subst (Few capacity) q (opened_few capacity g.3)) (λ a q. f h k q) e)
  does_few c (fork p) d f g = subst (HoldsFew capacity) (sym g.6) f
  does_few c (put p x ev) d f g =
      subst (HoldsFew capacity) (sym g.8) (λ h k e. in_put (same_channel x.channel h) (after_put x.side ev g.2) k (c.channels h)
      (λ a q. subst (Few capacity) q (put_few capacity x.side ev g.2 g.5 g.6)) (λ a q. f h k q) e)
  does_few c (takes p x ev) d f g =
      subst (HoldsFew capacity) (sym g.9) (λ h k e. in_put (same_channel x.channel h) (further x.side g.2) k (c.channels h)
      (λ a q. subst (Few capacity) q (further_few capacity x.side g.2 (f x.channel g.2 g.5))) (λ a q. f h k q) e)

  runs_few : (es : List Occurrence) (c d : Config) → HoldsFew capacity c → Runs m types capacity c es d → HoldsFew capacity d
  runs_few [] c d f r = subst (HoldsFew capacity) (sym r) f
  runs_few (e ∷ es) c d f r = runs_few es r.0 d (does_few c e r.0 f r.1) r.2

pub holds_few : ChannelsHoldFew
holds_few m types capacity e es c r = runs_few m types capacity es (started e) c (λ h k i. absurd (none-some k i)) r
