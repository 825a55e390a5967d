-- A task is put in.
use Rattle.std.proofs.Common.{◌≡◌, ◌∙◌, inl, inr, ◌≤◌, ◌↔◌, ℕ, Bool, true, false, Option, Some, None, refl, sym, ap, subst}
use Rattle.std.specs.Prelude.{option_map, is_some, length, nat_lt}
use Rattle.fst_base.proofs.Options.{some_same, none_some}
use Rattle.fst_terms.specs.declared.core_module.Module.{Module}
use Rattle.fst_types.specs.declared.ends.ChannelName.{ChannelName}
use Rattle.fst_types.specs.declared.ends.EndName.{EndName}
use Rattle.fst_lts.specs.Stamps.{StampedTo}
use Rattle.fst_machine.specs.declared.code.Code.{Code}
use Rattle.fst_machine.specs.declared.request.Request.{Request}
use Rattle.fst_machine.specs.declared.request.Request.TheVariants.{Step, New, Fork, Put, Get, Ended}
use Rattle.fst_runs.specs.Configs as runs
use Rattle.fst_runs.specs.Configs.{Path, Config, Task, same_path, other, channel_name, program}
use Rattle.fst_runs.specs.Events.{Asks}
use Rattle.fst_vm.specs.Slot.{Slot}
use Rattle.fst_paths.specs.Paths.{put_at}
use Rattle.fst_process.specs.Kept.{Channel, Kept, asker, partner, end_of, moves_with, moves_so, marked, marked_both, able, asking, noted, settled}
use Rattle.fst_process.specs.Reflects.{IsTask, AreTask, AsksAt, Reflects, bare}
use Rattle.fst_process.proofs.PathLaws.{other-twice, apart_paths}
use Rattle.fst_paths.proofs.Laws.{put_here, put_else, put_cases, put_both}
use Rattle.fst_process.proofs.Taking.{show, is_same, are_same, is_there, none_kept, moves_same}
use Rattle.fst_process.proofs.Fewer.{Fine}
use Rattle.fst_process.proofs.Ends.{moves_at, not_other, one_or_not, asker_own, asker_else, still_bare, bare_there, there_bare}

module _ (m : Module) (k : Code) (n : ℕ) (d : Kept) (c : Config) (p : Path) (s : Slot) (t : Task) (r : Reflects m k n d c)
    (free : c.tasks p ≡ None)
    (is : IsTask m k d p s t) (clock : s.clock ≤ n) (forked : s.task.forked ≤ n) (fine : Fine m (show p t c)) where
  abbrev types : ℕ
  types = length m.types.items

  abbrev placed : Kept
  placed = record d { tasks = put_at p (Some s) d.tasks }

  none : d.tasks p ≡ None
  none = none_kept m k d p (d.tasks p) (c.tasks p) (r.tasks p) free

  -- a task that is kept is another one
  another : (q : Path) (u : Slot) → d.tasks q ≡ Some u → p ≡ q → ⊥
  another q u e z = none_some (sym none ∙ ap d.tasks z ∙ e)

  stays : (q : Path) (u : Slot) → d.tasks q ≡ Some u → put_at p (Some s) d.tasks q ≡ Some u
  stays q u e = put_cases (λ o. o ≡ Some u) p q (Some s) d.tasks (λ z. absurd (another q u e z)) (λ z. e)

  not_ready : (q : Path) → p ≡ q → d.ready q ≡ false
  not_ready q z = r.ready q ∙ ap (moves_so types d) (ap d.tasks (sym z) ∙ none)

  all_tasks : (e : Kept) → ((q : Path) → e.made q ≡ d.made q) →
      (q : Path) → AreTask m k e q (put_at p (Some s) d.tasks q) (put_at p (Some t) c.tasks q)
  all_tasks e f q =
      put_both (AreTask m k e q) p q (Some s) d.tasks (Some t) c.tasks
      (λ z. is_same m k d e q s t (f q) (subst (λ o. IsTask m k d o s t) z is))
      (λ z. are_same m k d e q (d.tasks q) (c.tasks q) (f q) (r.tasks q))

  all_clocks : (q : Path) (u : Slot) → put_at p (Some s) d.tasks q ≡ Some u → u.clock ≤ n
  all_clocks q u = put_cases (λ o. o ≡ Some u → u.clock ≤ n) p q (Some s) d.tasks
      (λ z a. subst (λ (w : Slot). w.clock ≤ n) (some_same a) clock) (λ z. r.clocks q u)

  all_forks : (q : Path) (u : Slot) → put_at p (Some s) d.tasks q ≡ Some u → u.task.forked ≤ n
  all_forks q u =
      put_cases (λ o. o ≡ Some u → u.task.forked ≤ n) p q (Some s) d.tasks
      (λ z a. subst (λ (w : Slot). w.task.forked ≤ n) (some_same a) forked) (λ z. r.forks q u)

  -- where the task asks at no end
  module _ (none_asked : end_of s.request ≡ None) where
    able_askers : (x : EndName) (q : Path) → (asker d x ≡ Some q) ↔ AsksAt placed q x
    able_askers x q = (
      λ a. let b = (r.askers x q).0 a in (b.0, stays q b.0 b.1, b.2),
      λ b. put_cases (λ o. o ≡ Some b.0 → asker d x ≡ Some q) p q (Some s) d.tasks
          (λ z a. absurd (none_some (sym none_asked ∙ ap (λ (y : Slot). end_of y.request) (some_same a) ∙ b.2)))
          (λ z a. (r.askers x q).1 (b.0, a, b.2)) b.1,
    )

    able_ready : (b : Bool) → ((e : Kept) → moves_with types e s.request ≡ b) →
        (q : Path) → marked b p d.ready q ≡ moves_so types placed (put_at p (Some s) d.tasks q)
    able_ready true f q =
        put_both (λ b o. b ≡ moves_so types placed o) p q true d.ready (Some s) d.tasks (λ z. sym (f placed))
        (λ z. r.ready q ∙ moves_same types d placed (d.tasks q) (λ u x a b. refl))
    able_ready false f q =
        put_cases (λ o. d.ready q ≡ moves_so types placed o) p q (Some s) d.tasks (λ z. not_ready q z ∙ sym (f placed))
        (λ z. r.ready q ∙ moves_same types d placed (d.tasks q) (λ u x a b. refl))

    able_in : (b : Bool) → ((e : Kept) → moves_with types e s.request ≡ b) → Reflects m k n (able b p placed) (show p t c)
    able_in b f = record {
      from = r.from;
      tasks = all_tasks (able b p placed) (λ q. refl);
      channels = r.channels;
      askers = able_askers;
      ready = λ q. able_ready b f q ∙ moves_same types placed (able b p placed) (put_at p (Some s) d.tasks q) (λ u x a b. refl);
      makers = r.makers;
      clocks = all_clocks;
      forks = all_forks;
      makes = r.makes;
      stamps = r.stamps;
    }

  -- where it asks at this one
  module _ (x : EndName) (asked : end_of s.request ≡ Some x) where
    abbrev e : Kept
    e = asking p x placed

    asks : Asks (program m) (show p t c) p t s.request
    asks = (put_here p (Some t) c.tasks, is.asks)

    channel : (j : Channel) × (d.channels x.channel ≡ Some j)
    channel =
        let f = fine.there p t s.request x asks asked in
        let g = there_bare (d.channels x.channel) (c.channels x.channel) f.0 (r.channels x.channel) f.1 in
        (g.0, g.1)

    own : asker e x ≡ Some p
    own = asker_own d x (Some p) channel.0 channel.1

    others : (y : EndName) → (x ≡ y → ⊥) → asker e y ≡ asker d y
    others y g = asker_else d x y (Some p) g

    -- no other task asks there
    alone : (q : Path) (u : Slot) → same_path p q ≡ false → d.tasks q ≡ Some u → end_of u.request ≡ Some x → ⊥
    alone q u z a b =
        let f = is_there m k d q (d.tasks q) (c.tasks q) u (r.tasks q) a in
        let g = fine.one p q t f.0 s.request u.request x asks (put_else p q (Some t) c.tasks z ∙ f.1, f.2.asks) asked b in
        apart_paths p q z g

    own_askers : (q : Path) → (asker e x ≡ Some q) ↔ AsksAt e q x
    own_askers q = (
      λ a. subst (λ o. AsksAt e o x) (some_same (sym own ∙ a)) (s, put_here p (Some s) d.tasks, asked),
      λ b. put_cases (λ o. o ≡ Some b.0 → asker e x ≡ Some q) p q (Some s) d.tasks
          (λ z a. own ∙ ap Some z)
          (λ z a. absurd (alone q b.0 z a b.2)) b.1,
    )

    other_askers : (y : EndName) → (x ≡ y → ⊥) → (q : Path) → (asker e y ≡ Some q) ↔ AsksAt e q y
    other_askers y g q = (
      λ a. let b = (r.askers y q).0 (sym (others y g) ∙ a) in (b.0, stays q b.0 b.1, b.2),
      λ b. put_cases (λ o. o ≡ Some b.0 → asker e y ≡ Some q) p q (Some s) d.tasks
          (λ z a. absurd (g (some_same (sym asked ∙ ap (λ (w : Slot). end_of w.request) (some_same a) ∙ b.2))))
          (λ z a. others y g ∙ (r.askers y q).1 (b.0, a, b.2)) b.1,
    )

    all_askers : (y : EndName) (q : Path) → (asker e y ≡ Some q) ↔ AsksAt e q y
    all_askers y q = elim (one_or_not x y) [
      | inl f ↦ subst (λ z. (asker e z ≡ Some q) ↔ AsksAt e q z) f (own_askers q)
      | inr f ↦ other_askers y f q
    ]

    partner_still : partner e x ≡ partner d x
    partner_still = others (other x) (not_other x)

    own_moves : moves_with types e s.request ≡ is_some (partner d x)
    own_moves = moves_at types e s.request x asked ∙ ap (λ (o : Option Path). is_some o) partner_still

    -- a task that isn't its partner can move as before
    rest_moves : (q : Path) → (partner d x ≡ Some q → ⊥) → d.ready q ≡ moves_so types e (d.tasks q)
    rest_moves q g = r.ready q ∙ moves_same types d e (d.tasks q) same
      where
        same : (u : Slot) (y : EndName) → d.tasks q ≡ Some u → end_of u.request ≡ Some y →
            is_some (partner d y) ≡ is_some (partner e y)
        same u y a b = elim (one_or_not x (other y)) [
          | inl f ↦ absurd (g (ap (asker d) (ap other f ∙ other-twice y) ∙ (r.askers y q).1 (u, a, b)))
          | inr f ↦ ap (λ (o : Option Path). is_some o) (sym (others (other y) f))
        ]

    -- its partner can move
    partner_moves : (q : Path) → partner d x ≡ Some q → true ≡ moves_so types e (d.tasks q)
    partner_moves q g =
        let a = (r.askers (other x) q).0 g in
        sym (ap (moves_so types e) a.1 ∙ moves_at types e a.0.request (other x) a.2 ∙ ap
        (λ y. is_some (asker e y)) (other-twice x) ∙ ap (λ (o : Option Path). is_some o) own)

    asking_ready : (o : Option Path) → partner d x ≡ o →
        (q : Path) → marked_both p o d.ready q ≡ moves_so types e (put_at p (Some s) d.tasks q)
    asking_ready None g q =
        put_cases (λ o. d.ready q ≡ moves_so types e o) p q (Some s) d.tasks
        (λ z. not_ready q z ∙ sym (own_moves ∙ ap (λ (o : Option Path). is_some o) g))
        (λ z. rest_moves q (λ a. none_some (sym g ∙ a)))
    asking_ready (Some w) g q =
        put_both (λ b o. b ≡ moves_so types e o) p q true (put_at w true d.ready) (Some s) d.tasks
        (λ z. sym (own_moves ∙ ap (λ (o : Option Path). is_some o) g))
        (λ z. put_cases (λ b. b ≡ moves_so types e (d.tasks q)) w q true d.ready
        (λ y. partner_moves q (g ∙ ap Some y))
        (λ y. rest_moves q (λ a. apart_paths w q y (some_same (sym g ∙ a)))))

    there_still : (h : ChannelName) (j : Channel) → d.channels h ≡ Some j → (i : Channel) × (e.channels h ≡ Some i)
    there_still h j a =
        let b = there_bare (e.channels h) (option_map bare (d.channels h)) (bare j) (still_bare d x (Some p) h)
        (bare_there (d.channels h) j a) in
        (b.0, b.1)

    asking_in : Reflects m k n e (show p t c)
    asking_in = record {
      from = r.from;
      tasks = all_tasks e (λ q. refl);
      channels = λ h. still_bare d x (Some p) h ∙ r.channels h;
      askers = all_askers;
      ready = asking_ready (partner d x) refl;
      makers = λ q i a. let f = r.makers q i a in there_still (channel_name q i) f.0 f.1;
      clocks = all_clocks;
      forks = all_forks;
      makes = r.makes;
      stamps = λ h j a.
          let b = there_bare (d.channels h) (option_map bare (e.channels h)) (bare j) (sym (still_bare d x (Some p) h))
          (bare_there (e.channels h) j a) in
          subst (λ (i : runs.Channel). StampedTo n i.history) b.2 (r.stamps h b.0 b.1);
    }

  by_request : (a : Request) → s.request ≡ a → Reflects m k n (noted types p a placed) (show p t c)
  by_request Step a = able_in (ap end_of a) true (λ e. ap (moves_with types e) a)
  by_request (New i) a = able_in (ap end_of a) (nat_lt i types) (λ e. ap (moves_with types e) a)
  by_request Fork a = able_in (ap end_of a) true (λ e. ap (moves_with types e) a)
  by_request (Put x ev) a = asking_in x (ap end_of a)
  by_request (Get x) a = asking_in x (ap end_of a)
  by_request Ended a = able_in (ap end_of a) false (λ e. ap (moves_with types e) a)

  -- what is kept is a configuration after a task is put in both
  pub put_in : Reflects m k n (settled types s d) (show p t c)
  put_in = subst (λ o. Reflects m k n (noted types o s.request (record d { tasks = put_at o (Some s) d.tasks })) (show p t c))
      (sym is.path) (by_request s.request refl)
