-- All that a buffered run leads to is sound, and so it is safe.
use Rattle.std.proofs.Common.{◌≡◌, ◌∙◌, ℕ, ◌≤◌, ◌++◌, zero, length, List, [], ◌∷◌, Bool, true, false, Some, None, refl, sym, ap, subst}
use Rattle.std.specs.Prelude.{if◌then◌else◌}
use Rattle.std.proofs.lemmas.List.{append-nil, append_assoc}
use Rattle.std.proofs.lemmas.Option.{none-some}
use Rattle.fst_types.specs.Tree.{Tree}
use Rattle.fst_types.specs.declared.side.Side.{Side}
use Rattle.fst_lts.specs.Histories.{opposite}
use Rattle.fst_terms.specs.CoreTree.{CoreTree}
use Rattle.fst_terms.specs.declared.core_module.Module.{Module}
use Rattle.fst_derivations.specs.Modules.{surroundings}
use Rattle.fst_derivations.specs.Rules.{Surroundings}
use Rattle.fst_types.specs.declared.ends.ChannelName.{ChannelName}
use Rattle.fst_types.specs.declared.ends.EndName.{EndName}
use Rattle.fst_machine.specs.Machine.{begins}
use Rattle.fst_runs.specs.Configs.{same_path, same_channel, same_side, other, channel_name, main_path, new_task}
use Rattle.fst_runs.proofs.Laws.{same_channel-same, named_start, new_free, in_test}
use Rattle.fst_safety.specs.Fitting.{IsTyped}
use Rattle.fst_safety.specs.WellTyped.{IsWellTyped, program_in}
use Rattle.fst_safety.proofs.Laws.{checked, IsMainTyped, main_typed, typed_asks, main_begins, main_ends}
use Rattle.fst_buffered.specs.Channels.{Config, residual_in, seen, view, after_put, further, placed, opened, core, started}
use Rattle.fst_buffered.specs.Events.{Occurrence, local, new, fork, put, takes, Does, Runs}
use Rattle.fst_buffered.specs.Wrong.{IsRight}
use Rattle.fst_buffered.specs.Order.{put_in, taken, all_put, all_taken, IsInOrder}
use Rattle.fst_buffered.specs.Sound.{IsSound}
use Rattle.fst_buffered.specs.Safety.{IsSafeAt, BufferedIsSafe}
use Rattle.fst_buffered.proofs.Alone.{local_sound, new_sound, fork_sound}
use Rattle.fst_buffered.proofs.ChannelLaws.{used_trace, used_others, few_seen, same_history}
use Rattle.fst_buffered.proofs.Exchanging.{put_sound, take_sound}
use Rattle.fst_buffered.proofs.InOrder.{of_side, history_at, view_at, told_put, told_taken, Told, picked, unpicked, nothing_more, put_told, taken_told, take_told, part_told, none_in_view}
use Rattle.fst_buffered.proofs.Updates.{no_channel}

module _ (m : Surroundings) (well : IsWellTyped m) (a : Tree) (capacity : ℕ) where
  -- a configuration stays sound whatever happens
  pub does_sound : (c : Config) (e : Occurrence) (d : Config) → IsSound m a c → Does (program_in m) m.types capacity c e d →
      IsSound m a d
  does_sound c (local p) d h g = local_sound m well a capacity c d p h g
  does_sound c (new p) d h g = new_sound m well a capacity c d p h g
  does_sound c (fork p) d h g = fork_sound m well a capacity c d p h g
  does_sound c (put p x ev) d h g = put_sound m well a capacity c d p x ev h g
  does_sound c (takes p x ev) d h g = take_sound m well a capacity c d p x ev h g

  -- a run leads to sound configurations
  pub runs_sound : (es : List Occurrence) (c d : Config) → IsSound m a c → Runs (program_in m) m.types capacity c es d →
      IsSound m a d
  runs_sound [] c d h r = subst (IsSound m a) (sym r) h
  runs_sound (e ∷ es) c d h r = runs_sound es r.0 d (does_sound c e r.0 h r.1) r.2

  -- the start of a typed term is sound
  pub started_sound : (e : CoreTree) → IsTyped m (residual_in (started e)) (begins e []) a → IsSound m a (started e)
  started_sound e h = record {
    tasks = λ p t i. in_test (same_path main_path p) (new_task (begins e []) zero) t
        (λ g q. (a, subst (λ z. IsTyped m (residual_in (started e)) z.state a) q h, λ z. refl)) i;
    owned = λ x u. absurd (none-some u.0 u.1);
    used = λ k t i. absurd (none-some t i);
    makers = (named_start e).0;
    parents = (named_start e).1;
  }

  -- a sound configuration isn't wrong
  pub sound_right : (c : Config) → IsSound m a c → IsRight (program_in m) c
  sound_right c h = record {
    asks = λ p t e. let g = h.tasks p t e in typed_asks m well t.state g.0 (residual_in c) g.1;
    traces = λ g k e. used_trace k (h.used g k e);
    owned = h.owned;
    others = λ g k e s n q. used_others k (h.used g k e) s n q;
  }

  -- ---- what is put in and taken

  -- what was told of an end goes on with what happens
  pub does_told : (x : EndName) (c : Config) (e : Occurrence) (d : Config) → IsSound m a c →
      Does (program_in m) m.types capacity c e d → Told x c e d
  does_told x c (local p) d h g =
      subst (Told x c (local p)) (sym g.4) (sym (append-nil (told_put x c)), sym (append-nil (told_taken x c)))
  does_told x c (fork p) d h g =
      subst (Told x c (fork p)) (sym g.6) (sym (append-nil (told_put x c)), sym (append-nil (told_taken x c)))
  does_told x c (new p) d h g = subst (Told x c (new p)) (sym g.7) (go (same_channel name x.channel) refl)
    where
      name : ChannelName
      name = channel_name p g.0.made

      go : (b : Bool) → same_channel name x.channel ≡ b →
          (of_side x.side (history_at (placed b (opened g.3) (c.channels x.channel))) ≡ told_put x c ++ []) ×
          (of_side (opposite x.side) (view_at x.side (placed b (opened g.3) (c.channels x.channel))) ≡ told_taken x c ++ [])
      go true f =
          let none : c.channels x.channel ≡ None = ap c.channels (sym (same_channel-same name x.channel f))
          ∙ no_channel (c.channels name) (new_free (core c) p g.0 h.makers g.4.0) in (
            sym (ap (λ o. of_side x.side (history_at o) ++ []) none),
            ap (of_side (opposite x.side)) (none_in_view x.side g.3)
                ∙ sym (ap (λ o. of_side (opposite x.side) (view_at x.side o) ++ []) none),
          )
      go false f = (sym (append-nil (told_put x c)), sym (append-nil (told_taken x c)))
  does_told x c (put p y ev) d h g = subst (Told x c (put p y ev)) (sym g.8) (go (same_channel y.channel x.channel) refl)
    where
      few : (s : Side) → seen s g.2 ≤ length g.2.history
      few = few_seen g.2 (h.used y.channel g.2 g.4)

      go : (b : Bool) → same_channel y.channel x.channel ≡ b →
          (of_side x.side (history_at (placed b (after_put y.side ev g.2) (c.channels x.channel))) ≡ told_put x c ++ put_in x
          (put p y ev)) ×
          (of_side (opposite x.side) (view_at x.side (placed b (after_put y.side ev g.2) (c.channels x.channel))) ≡ told_taken x c
          ++ [])
      go true f =
          let q : y.channel ≡ x.channel = same_channel-same y.channel x.channel f in
          let there : c.channels x.channel ≡ Some g.2 = ap c.channels (sym q) ∙ g.4 in (
            put_told x y ev g.2 g.5 few ∙ (λ i. of_side x.side (history_at (sym there i)) ++ sym (picked x y ev q) i),
            taken_told x y ev g.2 g.5 few ∙ sym (append-nil (of_side (opposite x.side) (view x.side g.2)))
                ∙ ap (λ o. of_side (opposite x.side) (view_at x.side o) ++ []) (sym there),
          )
      go false f = (nothing_more (told_put x c) (put_in x (put p y ev)) (unpicked x y ev f), sym (append-nil (told_taken x c)))
  does_told x c (takes p y ev) d h g = subst (Told x c (takes p y ev)) (sym g.9) (go (same_channel y.channel x.channel) refl)
    where
      from : g.3.side ≡ opposite y.side
      from = used_others g.2 (h.used y.channel g.2 g.5) y.side g.3 g.6

      go : (b : Bool) → same_channel y.channel x.channel ≡ b →
          (of_side x.side (history_at (placed b (further y.side g.2) (c.channels x.channel))) ≡ told_put x c ++ []) ×
          (of_side (opposite x.side) (view_at x.side (placed b (further y.side g.2) (c.channels x.channel))) ≡ told_taken x c
          ++ taken x (takes p y ev))
      go true f =
          let q : y.channel ≡ x.channel = same_channel-same y.channel x.channel f in
          let there : c.channels x.channel ≡ Some g.2 = ap c.channels (sym q) ∙ g.5 in (
            ap (of_side x.side) (same_history y.side g.2) ∙ sym (append-nil (of_side x.side g.2.history))
                ∙ ap (λ o. of_side x.side (history_at o) ++ []) (sym there),
            take_told x y g.2 g.3 g.6 from
                ∙ ap (λ z. of_side (opposite x.side) (view x.side g.2) ++ (if same_side x.side y.side then z ∷ [] else [])) g.7
                ∙ (λ i. of_side (opposite x.side) (view_at x.side (sym there i)) ++ sym (picked x y ev q) i),
          )
      go false f = (sym (append-nil (told_put x c)), nothing_more (told_taken x c) (taken x (takes p y ev)) (unpicked x y ev f))

  -- so it is along a run
  pub runs_told : (x : EndName) (es : List Occurrence) (c d : Config) → IsSound m a c →
      Runs (program_in m) m.types capacity c es d →
      (told_put x d ≡ told_put x c ++ all_put x es) × (told_taken x d ≡ told_taken x c ++ all_taken x es)
  runs_told x [] c d h r = subst (λ z. (told_put x z ≡ told_put x c ++ []) × (told_taken x z ≡ told_taken x c ++ [])) (sym r)
      (sym (append-nil (told_put x c)), sym (append-nil (told_taken x c)))
  runs_told x (e ∷ es) c d h r =
      let one = does_told x c e r.0 h r.1 in
      let more = runs_told x es r.0 d (does_sound c e r.0 h r.1) r.2 in (
        more.0 ∙ ap (λ z. z ++ all_put x es) one.0 ∙ append_assoc (told_put x c) (put_in x e) (all_put x es),
        more.1 ∙ ap (λ z. z ++ all_taken x es) one.1 ∙ append_assoc (told_taken x c) (taken x e) (all_taken x es),
      )

  -- what is taken in a run is what was put in
  pub runs_in_order : (e : CoreTree) (es : List Occurrence) (d : Config) → IsSound m a (started e) →
      Runs (program_in m) m.types capacity (started e) es d → IsInOrder es
  runs_in_order e es d h r x =
      let part = part_told x (d.channels x.channel) in (
        part.0,
        sym (runs_told (other x) es (started e) d h r).0 ∙ part.1 ∙ ap
            (λ z. z ++ part.0) (runs_told x es (started e) d h r).1,
      )

-- a sound configuration in which main has a type whose values can be printed is safe
sound_safe : (m : Module) → IsWellTyped (surroundings m []) →
    (e : CoreTree) (k : IsMainTyped m e) (capacity : ℕ) (c : Config) → IsSound (surroundings m []) k.type c → IsSafeAt m c
sound_safe m w e k capacity c s = record {
  right = sound_right (surroundings m []) w k.type capacity c s;
  sessions = λ h j i. (s.used h j i).declared;
  result = λ t v i p.
      let g = s.tasks main_path t i in
      main_ends m w e k (residual_in c) t.state v (subst (IsTyped (surroundings m []) (residual_in c) t.state) (g.2 refl) g.1) p;
}

-- every buffered run of a module that has derivations is safe
pub buffered_safe : BufferedIsSafe
buffered_safe m ds h e q capacity es c r =
    let n = surroundings m [] in
    let w = checked m ds h in
    let k = main_typed m ds h e q in
    let first = started_sound n w k.type capacity e (main_begins n (residual_in (started e)) k.type e k.printable k.typed) in (
      sound_safe m w e k capacity c (runs_sound n w k.type capacity es (started e) c first r),
      runs_in_order n w k.type capacity e es c first r,
    )
