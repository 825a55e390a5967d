-- No side's view is longer than the history.
use Rattle.std.proofs.Common.{ℕ, List, [], ◌∷◌, length-append, sym, subst, arith}
use Rattle.std.proofs.lemmas.Option.{none-some, slice_get_within}
use Rattle.fst_types.specs.Tree.{Tree}
use Rattle.fst_types.specs.declared.side.Side.{Side}
use Rattle.fst_types.specs.declared.side.Side.TheVariants.{Left, Right}
use Rattle.fst_types.specs.declared.event.Event.{Event}
use Rattle.fst_terms.specs.CoreTree.{CoreTree}
use Rattle.fst_machine.specs.Machine.{Program}
use Rattle.fst_runs.specs.Configs.{same_channel, channel_name}
use Rattle.fst_runs.proofs.Laws.{in_put}
use Rattle.fst_buffered.specs.Channels.{Message, Channel, Config, IsWithin, AreWithin, IsWhole, IsNext, further, after_put, opened, started}
use Rattle.fst_buffered.specs.Events.{Occurrence, local, new, fork, put, takes, Does, Runs}

opened_within : (a : Tree) → IsWithin (opened a)
opened_within a Left = omega arith
opened_within a Right = omega arith

put_within : (a : Side) (ev : Event) (k : Channel) → IsWhole a k → IsWithin k → IsWithin (after_put a ev k)
put_within Left ev k w f Left = let l = length-append k.history (record { side = Left; event = ev } ∷ []) in
    omega (arith, w, l)
put_within Left ev k w f Right =
    let l = length-append k.history (record { side = Left; event = ev } ∷ []) in
    let r = f Right in
    omega (arith, r, l)
put_within Right ev k w f Left =
    let l = length-append k.history (record { side = Right; event = ev } ∷ []) in
    let r = f Left in
    omega (arith, r, l)
put_within Right ev k w f Right = let l = length-append k.history (record { side = Right; event = ev } ∷ []) in
    omega (arith, w, l)

further_within : (a : Side) (k : Channel) (e : Message) → IsNext a k e → IsWithin k → IsWithin (further a k)
further_within Left k e n f Left = let l = slice_get_within k.history k.left e n in omega (arith, l)
further_within Left k e n f Right = f Right
further_within Right k e n f Left = f Left
further_within Right k e n f Right = let l = slice_get_within k.history k.right e n in omega (arith, l)

module _ (m : Program) (types : List Tree) (capacity : ℕ) where
  does_within : (c : Config) (e : Occurrence) (d : Config) → AreWithin c → Does m types capacity c e d → AreWithin d
  does_within c (local p) d f g = subst AreWithin (sym g.4) f
  does_within c (new p) d f g =
      subst AreWithin (sym g.7) (λ h k e. in_put (same_channel (channel_name p g.0.made) h) (opened g.3) k (c.channels h)
      (λ a q. subst IsWithin q (opened_within g.3)) (λ a q. f h k q) e)
  does_within c (fork p) d f g = subst AreWithin (sym g.6) f
  does_within c (put p x ev) d f g =
      subst AreWithin (sym g.8) (λ h k e. in_put (same_channel x.channel h) (after_put x.side ev g.2) k (c.channels h)
      (λ a q. subst IsWithin q (put_within x.side ev g.2 g.5 (f x.channel g.2 g.4))) (λ a q. f h k q) e)
  does_within c (takes p x ev) d f g =
      subst AreWithin (sym g.9) (λ h k e. in_put (same_channel x.channel h) (further x.side g.2) k (c.channels h)
      (λ a q. subst IsWithin q (further_within x.side g.2 g.3 g.6 (f x.channel g.2 g.5))) (λ a q. f h k q) e)

  runs_within : (es : List Occurrence) (c d : Config) → AreWithin c → Runs m types capacity c es d → AreWithin d
  runs_within [] c d f r = subst AreWithin (sym r) f
  runs_within (e ∷ es) c d f r = runs_within es r.0 d (does_within c e r.0 f r.1) r.2

-- so it is after every run, whatever the program
pub seen_within : (m : Program) (types : List Tree) (capacity : ℕ) (e : CoreTree) (es : List Occurrence) (c : Config) →
    Runs m types capacity (started e) es c → AreWithin c
seen_within m types capacity e es c r = runs_within m types capacity es (started e) c (λ h k i. absurd (none-some k i)) r
