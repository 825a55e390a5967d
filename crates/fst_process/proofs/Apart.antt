-- A task is taken out after another one was put in, or before it.
use Rattle.std.proofs.Common.{◌≡◌, ◌∙◌, ℕ, Bool, true, false, Option, Some, None, refl, sym, ap}
use Rattle.std.specs.Prelude.{option_map, option_and_then, nat_lt, if◌then◌else◌}
use Rattle.fst_base.proofs.Options.{none_some}
use Rattle.fst_types.specs.declared.side.Side.{Side}
use Rattle.fst_types.specs.declared.side.Side.TheVariants.{Left, Right}
use Rattle.fst_types.specs.declared.ends.ChannelName.{ChannelName}
use Rattle.fst_types.specs.declared.ends.EndName.{EndName}
use Rattle.fst_types.specs.declared.event.Entry.{Entry}
use Rattle.fst_machine.specs.declared.request.Request.{Request}
use Rattle.fst_machine.specs.declared.request.Request.TheVariants.{Step, New, Fork, Put, Get, Ended}
use Rattle.fst_runs.specs.Configs.{Path, same_path}
use Rattle.fst_runs.proofs.Laws.{same_path-same}
use Rattle.fst_vm.specs.Slot.{Slot}
use Rattle.fst_paths.specs.Paths.{put_at}
use Rattle.fst_process.specs.Kept.{Channel, Kept, asker_at, asker, partner, end_of, without, changed, marked, marked_both, able, asking, noted, settled_at, passed}
use Rattle.fst_process.proofs.PathLaws.{apart_channels}
use Rattle.fst_paths.proofs.Laws.{put_cases}
use Rattle.fst_process.proofs.Places.{channel_cases}
use Rattle.fst_process.proofs.KeptLaws.{noted_tasks}

-- what is put at two paths is put in either order
put_swap : {X : Type 0} (p q : Path) (x y : X) (f : Path → X) →
    (p ≡ q → ⊥) → put_at q y (put_at p x f) ≡ put_at p x (put_at q y f)
put_swap {X} p q x y f n = λ i v. by v (same_path q v) (same_path p v) refl refl i
  where
    by : (v : Path) (a b : Bool) → same_path q v ≡ a → same_path p v ≡ b →
        (if a then y else if b then x else f v) ≡ (if b then x else if a then y else f v)
    by v true true g h = absurd (n (same_path-same p v h ∙ sym (same_path-same q v g)))
    by v true false g h = refl
    by v false true g h = refl
    by v false false g h = refl

marked_apart : (b : Bool) (p q : Path) (f : Path → Bool) →
    (p ≡ q → ⊥) → put_at q false (marked b p f) ≡ marked b p (put_at q false f)
marked_apart true p q f n = put_swap p q true false f n
marked_apart false p q f n = refl

both_apart : (o : Option Path) (p q : Path) (f : Path → Bool) → (p ≡ q → ⊥) →
    (o ≡ Some q → ⊥) → put_at q false (marked_both p o f) ≡ marked_both p o (put_at q false f)
both_apart None p q f n g = refl
both_apart (Some w) p q f n g = put_swap p q true false (put_at w true f) n
    ∙ ap (put_at p true) (put_swap w q true false f (λ e. g (ap Some e)))

-- that a task can move is noted before or after another one is taken out
able_apart : (b : Bool) (p q : Path) (d : Kept) → (p ≡ q → ⊥) → without q (able b p d) ≡ able b p (without q d)
able_apart b p q d n = λ i. record {
  tasks = put_at q None d.tasks;
  channels = d.channels;
  made = d.made;
  ready =
      marked_apart b p q d.ready n i;
}

-- and so is at which end it asks, where the other one doesn't ask at its other end
asking_apart : (p q : Path) (x : EndName) (d : Kept) → (p ≡ q → ⊥) →
    (partner d x ≡ Some q → ⊥) → without q (asking p x d) ≡ asking p x (without q d)
asking_apart p q x d n g = λ i. record {
  tasks = put_at q None d.tasks;
  channels = (asking p x d).channels;
  made = d.made;
  ready = both_apart (partner d x) p q d.ready n g i;
}

noted_apart : (types : ℕ) (p q : Path) (r : Request) (d : Kept) → (p ≡ q → ⊥) →
    ((x : EndName) → end_of r ≡ Some x → partner d x ≡ Some q → ⊥) →
    without q (noted types p r d) ≡ noted types p r (without q d)
noted_apart types p q Step d n g = able_apart true p q d n
noted_apart types p q (New l) d n g = able_apart (nat_lt l types) p q d n
noted_apart types p q Fork d n g = able_apart true p q d n
noted_apart types p q (Put x ev) d n g = asking_apart p q x d n (g x refl)
noted_apart types p q (Get x) d n g = asking_apart p q x d n (g x refl)
noted_apart types p q Ended d n g = refl

-- a task is taken out before or after another one is put in, where it doesn't ask at the other end of where that asks
pub settled_apart : (types : ℕ) (p q : Path) (s : Slot) (d : Kept) → (p ≡ q → ⊥) →
    ((x : EndName) → end_of s.request ≡ Some x → partner d x ≡ Some q → ⊥) →
    without q (settled_at types p s d) ≡ settled_at types p s (without q d)
settled_apart types p q s d n g =
    noted_apart types p q s.request (record d { tasks = put_at p (Some s) d.tasks }) n g
    ∙ ap (λ z. noted types p s.request (record (without q d) { tasks = z })) (put_swap p q (Some s) None d.tasks n)

no_asker : (s : Side) (e : Entry) (o : Option Channel) → option_and_then (asker_at s) (option_map (passed e) o) ≡ None
no_asker s e None = refl
no_asker Left e (Some j) = refl
no_asker Right e (Some j) = refl

-- who asks at an end after something has passed asked there before, and at another channel
pub asks_elsewhere : (d : Kept) (h : ChannelName) (e : Entry) (x : EndName) (q : Path) →
    asker (changed h (passed e) d) x ≡ Some q → (h ≡ x.channel → ⊥) × (asker d x ≡ Some q)
asks_elsewhere d h e x q =
    channel_cases (λ (z : Option Channel). option_and_then (asker_at x.side) z ≡ Some q → (h ≡ x.channel → ⊥) ×
    (asker d x ≡ Some q)) h x.channel
    (option_map (passed e) (d.channels x.channel)) (d.channels x.channel)
    (λ i a. absurd (none_some (sym (no_asker x.side e (d.channels x.channel)) ∙ a)))
    (λ i a. (apart_channels h x.channel i, a))

still_true : (p q : Path) (f : Path → Bool) → f q ≡ true → put_at p true f q ≡ true
still_true p q f e = put_cases (λ b. b ≡ true) p q true f (λ z. refl) (λ z. e)

marked_still : (b : Bool) (p q : Path) (f : Path → Bool) → f q ≡ true → marked b p f q ≡ true
marked_still true p q f e = still_true p q f e
marked_still false p q f e = e

both_still : (o : Option Path) (p q : Path) (f : Path → Bool) → f q ≡ true → marked_both p o f q ≡ true
both_still None p q f e = e
both_still (Some w) p q f e = still_true p q (put_at w true f) (still_true w q f e)

-- a task that can move still can after it is noted what another one asks for
noted_still : (types : ℕ) (p q : Path) (r : Request) (d : Kept) → d.ready q ≡ true → (noted types p r d).ready q ≡ true
noted_still types p q Step d e = marked_still true p q d.ready e
noted_still types p q (New l) d e = marked_still (nat_lt l types) p q d.ready e
noted_still types p q Fork d e = marked_still true p q d.ready e
noted_still types p q (Put x ev) d e = both_still (partner d x) p q d.ready e
noted_still types p q (Get x) d e = both_still (partner d x) p q d.ready e
noted_still types p q Ended d e = e

module _ (types : ℕ) (p q : Path) (s : Slot) (d : Kept) (n : p ≡ q → ⊥) where
  -- another task is as it was after one has gone on
  pub rest_there : (settled_at types p s (without p d)).tasks q ≡ d.tasks q
  rest_there =
      ap (λ f. f q) (noted_tasks types p s.request
      (record d { tasks = put_at p (Some s) (put_at p None d.tasks); ready = put_at p false d.ready }))
      ∙ put_cases (λ o. o ≡ d.tasks q) p q (Some s) (put_at p None d.tasks) (λ z. absurd (n z))
      (λ z. put_cases (λ o. o ≡ d.tasks q) p q None d.tasks (λ y. absurd (n y)) (λ y. refl))

  -- and can move if it could
  pub rest_ready : d.ready q ≡ true → (settled_at types p s (without p d)).ready q ≡ true
  rest_ready e =
      noted_still types p q s.request (record d {
        tasks = put_at p (Some s) (put_at p None d.tasks);
        ready =
            put_at p false d.ready;
      })
      (put_cases (λ b. b ≡ true) p q false d.ready (λ z. absurd (n z)) (λ z. e))
