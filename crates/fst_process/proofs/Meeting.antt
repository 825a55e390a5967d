-- Two tasks that meet are taken out, and what passes between them is noted.
use Rattle.std.proofs.Common.{◌≡◌, ◌∙◌, inl, inr, ◌≤◌, ◌↔◌, ℕ, Bool, true, false, Option, Some, None, List, [], ◌∷◌, ◌++◌, refl, sym, ap, subst}
use Rattle.std.specs.Prelude.{option_map, option_and_then, is_some, length, if◌then◌else◌}
use Rattle.fst_base.proofs.Options.{some_same, none_some}
use Rattle.fst_types.specs.declared.side.Side.{Side}
use Rattle.fst_types.specs.declared.side.Side.TheVariants.{Left, Right}
use Rattle.fst_terms.specs.declared.core_module.Module.{Module}
use Rattle.fst_types.specs.declared.ends.EndName.{EndName}
use Rattle.fst_types.specs.declared.event.Entry.{Entry}
use Rattle.fst_lts.specs.Stamps.{StampedTo}
use Rattle.fst_machine.specs.declared.code.Code.{Code}
use Rattle.fst_runs.specs.Configs as runs
use Rattle.fst_runs.specs.Configs.{Path, Config, same_channel, other, channel_name}
use Rattle.fst_runs.specs.Events.{extended}
use Rattle.fst_runs.proofs.Laws.{same_channel-same}
use Rattle.fst_vm.specs.Slot.{Slot}
use Rattle.fst_paths.specs.Paths.{put_at}
use Rattle.fst_process.specs.Kept.{Channel, Kept, asker_at, asker, partner, end_of, moves_so, without, changed, passed}
use Rattle.fst_process.specs.Reflects.{AreTask, AsksAt, Reflects, bare}
use Rattle.fst_process.proofs.PathLaws.{one_of_both, apart_paths, apart_channels}
use Rattle.fst_paths.proofs.Laws.{put_cases, put_both}
use Rattle.fst_process.proofs.Places.{channel_cases, channel_both}
use Rattle.fst_process.proofs.Taking.{hide, are_same, moves_same, later}
use Rattle.fst_process.proofs.Ends.{there_bare}
use Rattle.fst_process.proofs.Opening.{with_channel}

stamped_more : (n : ℕ) (e : Entry) (es : List Entry) → e.stamp ≤ n → StampedTo n es → StampedTo n (es ++ e ∷ [])
stamped_more n e [] h s = (h, tt)
stamped_more n e (f ∷ es) h s = (s.0, stamped_more n e es h s.1)

passed_stamps : (n : ℕ) (e : Entry) (u : Option Channel) (j : Channel) → e.stamp ≤ n →
    ((i : Channel) → u ≡ Some i → StampedTo n i.history) →
    option_map (passed e) u ≡ Some j → StampedTo n j.history
passed_stamps n e None j h f g = absurd (none_some g)
passed_stamps n e (Some i) j h f g = subst (λ (o : Channel). StampedTo n o.history) (some_same g)
    (stamped_more n e i.history h (f i refl))

passed_asked : (s : Side) (e : Entry) (u : Option Channel) → option_and_then (asker_at s) (option_map (passed e) u) ≡ None
passed_asked s e None = refl
passed_asked Left e (Some j) = refl
passed_asked Right e (Some j) = refl

passed_there : (e : Entry) (u : Option Channel) (j : Channel) → u ≡ Some j → (i : Channel) × (option_map (passed e) u ≡ Some i)
passed_there e u j f = (passed e j, ap (option_map (passed e)) f)

passed_bare : (e : Entry) (u : Option Channel) (v : Option runs.Channel) (j : runs.Channel) → option_map bare u ≡ v → v ≡ Some j →
    option_map bare (option_map (passed e) u) ≡ Some (extended j e)
passed_bare e u v j f g =
    let a = there_bare u v j f g in
    ap (λ z. option_map bare (option_map (passed e) z)) a.1 ∙ ap (λ (z : runs.Channel). Some (extended z e)) a.2

module _ (m : Module) (k : Code) (n : ℕ) (d : Kept) (c : Config) (p q : Path) (s o : Slot) (x : EndName) (e : Entry)
    (j : runs.Channel) (r : Reflects m k n d c)
    (ep : d.tasks p ≡ Some s) (eq : d.tasks q ≡ Some o) (xp : end_of s.request ≡ Some x) (xq : end_of o.request ≡ Some (other x))
    (ej : c.channels x.channel ≡ Some j)
    (few : e.stamp ≤ n) where
  abbrev met : Kept
  met = changed x.channel (passed e) (without q (without p d))

  -- what is left is another task, that was there
  left : (v : Path) (u : Slot) → met.tasks v ≡ Some u → (d.tasks v ≡ Some u) × (p ≡ v → ⊥) × (q ≡ v → ⊥)
  left v u =
      put_cases (λ z. z ≡ Some u → (d.tasks v ≡ Some u) × (p ≡ v → ⊥) × (q ≡ v → ⊥)) q v None (put_at p None d.tasks)
      (λ z a. absurd (none_some a))
      (λ y. put_cases (λ z. z ≡ Some u → (d.tasks v ≡ Some u) × (p ≡ v → ⊥) × (q ≡ v → ⊥)) p v None d.tasks
      (λ z a. absurd (none_some a))
      (λ z a. (a, apart_paths p v z, apart_paths q v y)))

  -- and another task that was there is left
  stays : (v : Path) (u : Slot) → d.tasks v ≡ Some u → (p ≡ v → ⊥) → (q ≡ v → ⊥) → met.tasks v ≡ Some u
  stays v u a f g =
      put_cases (λ z. z ≡ Some u) q v None (put_at p None d.tasks) (λ z. absurd (g z))
      (λ y. put_cases (λ z. z ≡ Some u) p v None d.tasks (λ z. absurd (f z)) (λ z. a))

  -- another task asks at no end of this channel
  elsewhere : (v : Path) (u : Slot) (y : EndName) → d.tasks v ≡ Some u → end_of u.request ≡ Some y → (p ≡ v → ⊥) →
      (q ≡ v → ⊥) → x.channel ≡ y.channel → ⊥
  elsewhere v u y a b f g z = elim (one_of_both x y z) [
    | inl h ↦ f (some_same (sym ((r.askers x p).1 (s, ep, xp)) ∙ ap (asker d) h ∙ (r.askers y v).1 (u, a, b)))
    | inr h ↦ g (some_same (sym ((r.askers (other x) q).1 (o, eq, xq)) ∙ ap (asker d) h ∙ (r.askers y v).1 (u, a, b)))
  ]

  asker_gone : (y : EndName) → same_channel x.channel y.channel ≡ true → asker met y ≡ None
  asker_gone y z =
      ap (λ b. option_and_then (asker_at y.side) (if b then option_map (passed e)
      (d.channels y.channel) else d.channels y.channel)) z
      ∙ passed_asked y.side e (d.channels y.channel)

  asker_left : (y : EndName) → same_channel x.channel y.channel ≡ false → asker met y ≡ asker d y
  asker_left y z = ap (λ b. option_and_then (asker_at y.side)
      (if b then option_map (passed e) (d.channels y.channel) else d.channels y.channel)) z

  askers_here : (y : EndName) (v : Path) → same_channel x.channel y.channel ≡ true → (asker met y ≡ Some v) ↔ AsksAt met v y
  askers_here y v z = (
    λ a. absurd (none_some (sym (asker_gone y z) ∙ a)),
    λ b. let f = left v b.0 b.1 in absurd (elsewhere v b.0 y f.0 b.2 f.1 f.2 (same_channel-same x.channel y.channel z)),
  )

  askers_else : (y : EndName) (v : Path) → same_channel x.channel y.channel ≡ false → (asker met y ≡ Some v) ↔ AsksAt met v y
  askers_else y v z = (
    λ a.
        let b = (r.askers y v).0 (sym (asker_left y z) ∙ a) in
        let f : x ≡ y → ⊥ = λ w. apart_channels x.channel y.channel z (ap (λ (i : EndName). i.channel) w) in
        let g : other x ≡ y → ⊥ = λ w. apart_channels x.channel y.channel z (ap (λ (i : EndName). i.channel) w) in (
          b.0,
          stays v b.0 b.1 (λ w. f (same_end p v s b.0 x y w ep b.1 xp b.2))
              (λ w. g (same_end q v o b.0 (other x) y w eq b.1 xq b.2)),
          b.2,
        ),
    λ b. let f = left v b.0 b.1 in asker_left y z ∙ (r.askers y v).1 (b.0, f.0, b.2),
  )
    where
      same_end : (a b : Path) (u w : Slot) (x y : EndName) → a ≡ b → d.tasks a ≡ Some u → d.tasks b ≡ Some w →
          end_of u.request ≡ Some x → end_of w.request ≡ Some y → x ≡ y
      same_end a b u w x y z f g h i = some_same (sym h ∙ ap
          (λ (l : Slot). end_of l.request) (some_same (sym f ∙ ap d.tasks z ∙ g)) ∙ i)

  all_askers : (y : EndName) (v : Path) → (asker met y ≡ Some v) ↔ AsksAt met v y
  all_askers y v = go (same_channel x.channel y.channel) refl
    where
      go : (b : Bool) → same_channel x.channel y.channel ≡ b → (asker met y ≡ Some v) ↔ AsksAt met v y
      go true z = askers_here y v z
      go false z = askers_else y v z

  rest_moves : (v : Path) → (p ≡ v → ⊥) → (q ≡ v → ⊥) → d.ready v ≡ moves_so (length m.types.items) met (d.tasks v)
  rest_moves v f g = r.ready v ∙ moves_same (length m.types.items) d met (d.tasks v) same
    where
      same : (u : Slot) (y : EndName) → d.tasks v ≡ Some u → end_of u.request ≡ Some y →
          is_some (partner d y) ≡ is_some (partner met y)
      same u y a b = go (same_channel x.channel y.channel) refl
        where
          go : (b : Bool) → same_channel x.channel y.channel ≡ b → is_some (partner d y) ≡ is_some (partner met y)
          go true z = absurd (elsewhere v u y a b f g (same_channel-same x.channel y.channel z))
          go false z = ap (λ (i : Option Path). is_some i) (sym (asker_left (other y) z))

  meeting_here : Reflects m k n met (hide q (hide p (with_channel x.channel (extended j e) c)))
  meeting_here = record {
    from = r.from;
    tasks = λ v.
        put_both (AreTask m k met v) q v None (put_at p None d.tasks) None (put_at p None c.tasks) (λ z. tt)
        (λ y. put_both (AreTask m k met v) p v None d.tasks None c.tasks (λ z. tt)
        (λ z. are_same m k d met v (d.tasks v) (c.tasks v) refl (r.tasks v)));
    channels = λ h.
        channel_both (λ (y : Option Channel) (z : Option runs.Channel). option_map bare y ≡ z) x.channel h
        (option_map (passed e) (d.channels h)) (d.channels h) (Some (extended j e)) (c.channels h)
        (λ z. passed_bare e (d.channels h) (c.channels h) j (r.channels h) (ap c.channels (sym z) ∙ ej))
        (λ z. r.channels h);
    askers = all_askers;
    ready = λ v.
        put_both (λ b i. b ≡ moves_so (length m.types.items) met i) q v false (put_at p false d.ready) None
        (put_at p None d.tasks) (λ z. refl)
        (λ y. put_both (λ b i. b ≡ moves_so (length m.types.items) met i) p v false d.ready None d.tasks (λ z. refl)
        (λ z. rest_moves v (apart_paths p v z) (apart_paths q v y)));
    makers = λ v i a.
        let b = r.makers v i a in
        channel_cases (λ (z : Option Channel). (w : Channel) × (z ≡ Some w)) x.channel (channel_name v i)
        (option_map (passed e) (d.channels (channel_name v i))) (d.channels (channel_name v i))
        (λ z. passed_there e (d.channels (channel_name v i)) b.0 b.1) (λ z. b);
    clocks = λ v u a. let b = left v u a in r.clocks v u b.0;
    forks = λ v u a. let b = left v u a in r.forks v u b.0;
    makes = r.makes;
    stamps = λ h i.
        channel_cases (λ (z : Option Channel). z ≡ Some i → StampedTo n i.history) x.channel h
        (option_map (passed e) (d.channels h)) (d.channels h)
        (λ z. passed_stamps n e (d.channels h) i few (r.stamps h)) (λ z. r.stamps h i);
  }

-- what is kept is a configuration after two tasks that ask at both ends of a channel are taken out of both, and something has passed
pub meeting : (m : Module) (k : Code) (n l : ℕ) (d : Kept) (c : Config) (p q : Path) (s o : Slot) (x : EndName) (e : Entry)
    (j : runs.Channel) →
    Reflects m k n d c → d.tasks p ≡ Some s → d.tasks q ≡ Some o → end_of s.request ≡ Some x → end_of o.request ≡ Some (other x) →
    c.channels x.channel ≡ Some j →
    n ≤ l → e.stamp ≤ l → Reflects m k l (changed x.channel (passed e) (without q (without p d)))
    (hide q (hide p (with_channel x.channel (extended j e) c)))
meeting m k n l d c p q s o x e j r ep eq xp xq ej more few =
    meeting_here m k l d c p q s o x e j (later m k n l d c r more) ep eq xp xq ej few
