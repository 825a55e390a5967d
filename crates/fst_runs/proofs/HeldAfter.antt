-- With no typing: an end that stands nowhere in a pause stands nowhere after an answer, unless it is one of a new channel.
use Rattle.std.proofs.Common.{◌≡◌, ℕ, zero, List, Bool, true, false, ◌&&◌, Option, Some, None, refl, sym, ap, subst, arith}
use Rattle.std.specs.Prelude.{option_map, slice_get, if◌then◌else◌}
use Rattle.std.specs.Str.{bytes_eq}
use Rattle.std.proofs.lemmas.Option.{none-some, same_Some}
use Rattle.fst_types.specs.declared.side.Side.TheVariants.{Left, Right}
use Rattle.fst_types.specs.declared.ends.ChannelName.{ChannelName}
use Rattle.fst_types.specs.declared.ends.EndName.{EndName}
use Rattle.fst_types.specs.declared.event.Event.{Event}
use Rattle.fst_types.specs.declared.event.Event.TheVariants as event
use Rattle.fst_terms.specs.CoreTree.{CoreTree, CoreArms, no_arms, arm}
use Rattle.fst_machine.specs.declared.request.Answer.{Answer}
use Rattle.fst_machine.specs.declared.request.Answer.TheVariants.{Go, Made, Forked, Sent, Got}
use Rattle.fst_machine.specs.Free.{free, outside}
use Rattle.fst_machine.specs.Values as value
use Rattle.fst_machine.specs.Values.{Value, Environment, enter, keep, received, awaited}
use Rattle.fst_machine.specs.Machine.{Program, State, Frame, Pause, calls, uses, makes, forks, puts, gets, closes, waits, matches, after, child, giving, begins, ends, lost, or_lost, arm_state}
use Rattle.fst_runs.specs.Configs.{same_channel, same_side}
use Rattle.fst_runs.specs.Wrong.{once, held, held_env, held_frames, held_state, held_pause}
use Rattle.fst_runs.proofs.Asked.{fork_pause}
use Rattle.fst_runs.proofs.HeldEnds.{enter_none, keep_none}
use Rattle.fst_runs.proofs.NameLaws.{same_channel-same}

module _ (p : Program) (x : EndName) where
  -- the end stands nowhere in the state
  abbrev IsOut : State → Type 0
  IsOut s = held_state x s ≡ 0

  used_none : (o : Option CoreTree) (fs : List Frame) → held_frames x fs ≡ 0 → IsOut (or_lost (option_map (λ e. begins e fs) o))
  used_none None fs h = refl
  used_none (Some e) fs h = omega (arith, h)

  -- no end is received
  got_none : (ev : Event) (f : Value → State) → ((v : Value) → held x v ≡ 0 → IsOut (f v)) →
      IsOut (or_lost (option_map f (received ev)))
  got_none (event.Int n) f g = g (value.int n) refl
  got_none (event.Bool b) f g = g (value.bool b) refl
  got_none (event.Char c) f g = g (value.char c) refl
  got_none event.Unit f g = g value.unit refl
  got_none (event.Label l) f g = refl
  got_none event.Closed f g = refl

  waited_none : (ev : Event) (fs : List Frame) → held_frames x fs ≡ 0 →
      IsOut (or_lost (option_map (λ v. giving v fs) (awaited ev)))
  waited_none event.Closed fs h = omega (arith, h)
  waited_none (event.Int n) fs h = refl
  waited_none (event.Bool b) fs h = refl
  waited_none (event.Char c) fs h = refl
  waited_none event.Unit fs h = refl
  waited_none (event.Label l) fs h = refl

  arm_none : (bs : CoreArms) (l : List ℕ) (y : EndName) (env : Environment) (fs : List Frame) → held x (value.end y) ≡ 0 →
      held_env x env ≡ 0 → held_frames x fs ≡ 0 → IsOut (arm_state bs l y env fs)
  arm_none no_arms l y env fs h g f = refl
  arm_none (arm k xs e bs) l y env fs h g f = by (bytes_eq l k) (arm_none bs l y env fs h g f)
    where
      by : (b : Bool) → IsOut (arm_state bs l y env fs) →
          IsOut (if b then record {
            term = e;
            environment = enter (free e zero) (value.end y) (keep (outside (free e)) env);
            frames = fs;
          }
          else arm_state bs l y env fs)
      by false more = more
      by true more =
          let k = keep_none p.families x env (outside (free e)) g in
          let a = enter_none p.families x (free e zero) (value.end y) (keep (outside (free e)) env) h k in
          omega (arith, a, f)

  other_channel : (b c : Bool) → (b ≡ true → ⊥) → once (b && c) ≡ 0
  other_channel true c n = absurd (n refl)
  other_channel false c n = refl

  new_none : (h : ChannelName) (fs : List Frame) → (Made h ≡ Made x.channel → ⊥) → held_frames x fs ≡ 0 →
      IsOut (giving (ends h) fs)
  new_none h fs n g =
      let far : same_channel x.channel h ≡ true → ⊥ = λ e. n (ap Made (sym (same_channel-same x.channel h e))) in
      let a = other_channel (same_channel x.channel h) (same_side x.side Left) far in
      let b = other_channel (same_channel x.channel h) (same_side x.side Right) far in
      omega (arith, a, b, g)

  -- an answer gives no end but those of a new channel
  pub after_none : (k : Pause) (a : Answer) (s : State) → after p k a ≡ Some s → held_pause x k ≡ 0 → (a ≡ Made x.channel → ⊥) →
      held_state x s ≡ 0
  after_none (calls e env v fs) Go s q h n =
      subst IsOut (same_Some _ s q)
      (let a = enter_none p.families x (free e zero) v env (omega (arith, h)) (omega (arith, h)) in omega (arith, a, h))
  after_none (uses g fs) Go s q h n = subst IsOut (same_Some _ s q) (used_none (slice_get p.bodies g) fs h)
  after_none (makes t fs) (Made c) s q h n = subst IsOut (same_Some _ s q) (new_none c fs n h)
  after_none (forks e env fs) Forked s q h n = subst IsOut (same_Some _ s q) (omega (arith, h))
  after_none (puts y ev fs) Sent s q h n = subst IsOut (same_Some _ s q) (omega (arith, h))
  after_none (gets y fs) (Got ev) s q h n =
      subst IsOut (same_Some _ s q) (got_none ev (λ v. giving (value.pair v (value.end y)) fs) (λ v g. omega (arith, g, h)))
  after_none (closes y fs) Sent s q h n = subst IsOut (same_Some _ s q) (omega (arith, h))
  after_none (waits y fs) (Got ev) s q h n = subst IsOut (same_Some _ s q) (waited_none ev fs (omega (arith, h)))
  after_none (matches y bs env fs) (Got (event.Label l)) s q h n =
      subst IsOut (same_Some _ s q) (arm_none bs l y env fs (omega (arith, h)) (omega (arith, h)) (omega (arith, h)))
  after_none (matches y bs env fs) (Got (event.Int j)) s q h n = subst IsOut (same_Some lost s q) refl
  after_none (matches y bs env fs) (Got (event.Bool j)) s q h n = subst IsOut (same_Some lost s q) refl
  after_none (matches y bs env fs) (Got (event.Char j)) s q h n = subst IsOut (same_Some lost s q) refl
  after_none (matches y bs env fs) (Got event.Unit) s q h n = subst IsOut (same_Some lost s q) refl
  after_none (matches y bs env fs) (Got event.Closed) s q h n = subst IsOut (same_Some lost s q) refl
  after_none k a s q h n = absurd (none-some s q)

-- nor does a fork give its task one
pub child_none : (x : EndName) (k : Pause) (b : State) → child k ≡ Some b → held_pause x k ≡ 0 → held_state x b ≡ 0
child_none x k b e =
    fork_pause (λ k. held_pause x k ≡ 0 → held_state x b ≡ 0) k b e
    (λ f env fs q h. subst (λ s. held_state x s ≡ 0) q (let a : held_env x env ≡ 0 = omega (arith, h) in omega (arith, a)))
