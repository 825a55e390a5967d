-- What is kept at first; and that a task that isn't there has made no channel.
use Rattle.std.proofs.Common.{◌≡◌, ◌∙◌, ℕ, zero, suc, Some, None, [], refl, sym, ap, arith}
use Rattle.std.specs.Prelude.{length, option_map}
use Rattle.fst_base.proofs.Options.{none_some}
use Rattle.fst_terms.specs.CoreTree.{CoreTree}
use Rattle.fst_terms.specs.declared.core_module.Module.{Module}
use Rattle.fst_types.specs.declared.ends.ChannelName.{ChannelName}
use Rattle.fst_machine.specs.declared.code.Code.{Code}
use Rattle.fst_machine.specs.Machine.{begins}
use Rattle.fst_vm.specs.Tasks.{IsFrom}
use Rattle.fst_runs.specs.Configs as runs
use Rattle.fst_runs.specs.Configs.{Path, Config, Task, main_path, new_task, started, channel_name}
use Rattle.fst_vm.specs.Slot.{Slot}
use Rattle.fst_process.specs.Kept.{Kept, nothing, settled}
use Rattle.fst_process.specs.Reflects.{Reflects, bare}
use Rattle.fst_process.proofs.Fewer.{Fine}
use Rattle.fst_process.proofs.Going.{IsOf, comes_in}

-- no task is there, and no channel
abbrev pub nobody : Config
nobody = record { tasks = λ p. None; channels = λ h. None }

-- nothing is kept where nothing is there
pub nothing_yet : (m : Module) (k : Code) → IsFrom m k → Reflects m k zero nothing nobody
nothing_yet m k from = record {
  from = from;
  tasks = λ p. tt;
  channels = λ h. refl;
  askers = λ x p. (λ e. absurd (none_some e), λ a. absurd (none_some a.1));
  ready = λ p. refl;
  makers = λ p i e. absurd (cc e);
  clocks = λ p s e. absurd (none_some e);
  forks = λ p s e. absurd (none_some e);
  makes = λ p. omega arith;
  stamps = λ h j e. absurd (none_some e);
}

-- what is kept is the first configuration after main's task is put in
pub begun : (m : Module) (k : Code) (e : CoreTree) (s : Slot) → IsFrom m k → IsOf m k main_path s (new_task (begins e []) zero) →
    Fine m (started e) →
    Reflects m k zero (settled (length m.types.items) s nothing) (started e)
begun m k e s from is fine =
    comes_in m k zero nothing nobody main_path s (new_task (begins e []) zero) (nothing_yet m k from) refl is refl (omega arith)
    (omega arith) fine

-- a task that isn't there has made no channel, where the makers of channels are
pub unmade : (m : Module) (k : Code) (n : ℕ) (d : Kept) (c : Config) (p : Path) → Reflects m k n d c → c.tasks p ≡ None →
    ((h : ChannelName) (j : runs.Channel) → c.channels h ≡ Some j → (t : Task) × (c.tasks h.maker ≡ Some t)) → d.made p ≡ zero
unmade m k n d c p r free makers = go (d.made p) refl
  where
    go : (i : ℕ) → d.made p ≡ i → i ≡ zero
    go zero e = refl
    go (suc i) e =
        let f = r.makers p i e in
        let g = makers (channel_name p i) (bare f.0) (sym (r.channels (channel_name p i)) ∙ ap (λ z. option_map bare z) f.1) in
        absurd (none_some (sym free ∙ g.1))
