-- A channel is put in, or made.
use Rattle.std.proofs.Common.{◌≡◌, ◌∙◌, ◌<◌, ◌≤◌, ℕ, suc, Bool, true, false, Option, Some, None, List, [], refl, sym, ap, subst, arith}
use Rattle.std.specs.Prelude.{option_map, option_and_then, is_some, length, if◌then◌else◌}
use Rattle.fst_base.proofs.Options.{some_same, none_some}
use Rattle.fst_types.specs.Tree.{Tree}
use Rattle.fst_types.specs.declared.side.Side.{Side}
use Rattle.fst_types.specs.declared.side.Side.TheVariants.{Left, Right}
use Rattle.fst_terms.specs.declared.core_module.Module.{Module}
use Rattle.fst_types.specs.declared.ends.ChannelName.{ChannelName}
use Rattle.fst_types.specs.declared.ends.EndName.{EndName}
use Rattle.fst_types.specs.declared.event.Entry.{Entry}
use Rattle.fst_lts.specs.Stamps.{StampedTo}
use Rattle.fst_machine.specs.declared.code.Code.{Code}
use Rattle.fst_runs.specs.Configs as runs
use Rattle.fst_runs.specs.Configs.{Path, Config, Task, same_path, same_channel, other, channel_name}
use Rattle.fst_runs.proofs.Laws.{same_path-same}
use Rattle.fst_vm.specs.Slot.{Slot}
use Rattle.fst_process.specs.Kept.{Channel, Kept, asker_at, asker, added, opened}
use Rattle.fst_process.specs.Reflects.{AreTask, Reflects, bare}
use Rattle.fst_paths.proofs.Laws.{put_cases, put_else}
use Rattle.fst_process.proofs.Places.{channel_cases, channel_both, channel_here}
use Rattle.fst_process.proofs.Taking.{are_same, none_kept, moves_same, later}

-- the configuration with this channel at its name
abbrev pub with_channel : ChannelName → runs.Channel → Config → Config
with_channel h j c = record c { channels = λ g. if same_channel h g then Some j else c.channels g }

no_task : (m : Module) (k : Code) (d : Kept) (p : Path) (o : Option Slot) (u : Option Task) → o ≡ None → u ≡ None →
    AreTask m k d p o u
no_task m k d p None None e f = tt
no_task m k d p None (Some t) e f = absurd (none_some (sym f))
no_task m k d p (Some s) u e f = absurd (none_some (sym e))

no_bare : (u : Option Channel) → option_map bare u ≡ None → u ≡ None
no_bare None e = refl
no_bare (Some j) e = absurd (none_some (sym e))

module _ (m : Module) (k : Code) (n : ℕ) (d : Kept) (c : Config) (h : ChannelName) (a : Tree) (es : List Entry)
    (r : Reflects m k n d c) (free : c.channels h ≡ None)
    (away : c.tasks h.maker ≡ None) (next : h.count ≡ suc (d.made h.maker)) (few : d.made h.maker < n)
    (stamped : StampedTo n es) where
  abbrev new : Channel
  new = record { declared = a; history = es; left = None; right = None }

  abbrev bare_new : runs.Channel
  bare_new = record { declared = a; history = es }

  abbrev e : Kept
  e = added h new d

  fresh : d.channels h ≡ None
  fresh = no_bare (d.channels h) (r.channels h ∙ free)

  none_asks : (s : Side) → asker_at s new ≡ None
  none_asks Left = refl
  none_asks Right = refl

  -- nobody asks at the ends of a channel that isn't there, or is new
  askers_still : (x : EndName) → asker e x ≡ asker d x
  askers_still x =
      channel_cases (λ (z : Option Channel). option_and_then (asker_at x.side) z ≡ asker d x) h x.channel (Some new)
      (d.channels x.channel)
      (λ z. none_asks x.side ∙ sym (ap (option_and_then (asker_at x.side)) (ap d.channels (sym z) ∙ fresh)))
      (λ z. refl)

  all_tasks : (q : Path) → AreTask m k e q (d.tasks q) (c.tasks q)
  all_tasks q = go (same_path h.maker q) refl
    where
      go : (b : Bool) → same_path h.maker q ≡ b → AreTask m k e q (d.tasks q) (c.tasks q)
      go true z =
          let f = same_path-same h.maker q z in
          let g : c.tasks q ≡ None = ap c.tasks (sym f) ∙ away in
          no_task m k e q (d.tasks q) (c.tasks q) (none_kept m k d q (d.tasks q) (c.tasks q) (r.tasks q) g) g
      go false z = are_same m k d e q (d.tasks q) (c.tasks q) (put_else h.maker q (suc (d.made h.maker)) d.made z) (r.tasks q)

  there : (g : ChannelName) (j : Channel) → d.channels g ≡ Some j → (i : Channel) × (e.channels g ≡ Some i)
  there g j f =
      channel_cases (λ (z : Option Channel). (i : Channel) × (z ≡ Some i)) h g (Some new) (d.channels g) (λ z. (new, refl))
      (λ z. (j, f))

  all_makers : (q : Path) (i : ℕ) → e.made q ≡ suc i → (j : Channel) × (e.channels (channel_name q i) ≡ Some j)
  all_makers q i =
      put_cases (λ z. z ≡ suc i → (j : Channel) × (e.channels (channel_name q i) ≡ Some j)) h.maker q
      (suc (d.made h.maker)) d.made
      (λ z f. (new, ap e.channels (sym (named z f)) ∙ channel_here h (Some new) (d.channels h)))
      (λ z f. let g = r.makers q i f in there (channel_name q i) g.0 g.1)
    where
      named : h.maker ≡ q → suc (d.made h.maker) ≡ suc i → h ≡ channel_name q i
      named z f = λ o. record { maker = z o; count = (next ∙ f) o }

  -- what is kept is a configuration after a channel is put in both at whose ends nobody asks, and whose maker is taken out
  pub adding : Reflects m k n e (with_channel h bare_new c)
  adding = record {
    from = r.from;
    tasks = all_tasks;
    channels = λ g.
        channel_both (λ (x : Option Channel) (y : Option runs.Channel). option_map bare x ≡ y) h g (Some new) (d.channels g)
        (Some bare_new) (c.channels g)
        (λ z. refl) (λ z. r.channels g);
    askers = λ x q. (λ f. (r.askers x q).0 (sym (askers_still x) ∙ f), λ f. askers_still x ∙ (r.askers x q).1 f);
    ready = λ q. r.ready q ∙ moves_same (length m.types.items) d e (d.tasks q)
        (λ s x f g. ap (λ (o : Option Path). is_some o) (sym (askers_still (other x))));
    makers = all_makers;
    clocks = r.clocks;
    forks = r.forks;
    makes = λ q. put_cases (λ z. z ≤ n) h.maker q (suc (d.made h.maker)) d.made (λ z. omega (arith, few)) (λ z. r.makes q);
    stamps = λ g j.
        channel_cases (λ (x : Option Channel). x ≡ Some j → StampedTo n j.history) h g (Some new) (d.channels g)
        (λ z f. subst (λ (i : Channel). StampedTo n i.history) (some_same f) stamped) (λ z. r.stamps g j);
  }

-- so it is where the channel is made then
pub opening : (m : Module) (k : Code) (n l : ℕ) (d : Kept) (c : Config) (h : ChannelName) (a : Tree) → Reflects m k n d c →
    c.channels h ≡ None → c.tasks h.maker ≡ None →
    h.count ≡ suc (d.made h.maker) → d.made h.maker < l → n ≤ l →
    Reflects m k l (opened h a d) (with_channel h (record { declared = a; history = [] }) c)
opening m k n l d c h a r free away next few more = adding m k l d c h a [] (later m k n l d c r more) free away next few tt
