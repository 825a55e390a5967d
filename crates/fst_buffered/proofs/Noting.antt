-- Which tasks can move and who asked last at each end, as it is kept, where one task has gone on.
use Rattle.std.proofs.Common.{◌≡◌, ◌∙◌, inl, inr, ℕ, Bool, true, false, Option, Some, None, refl, sym, ap}
use Rattle.std.specs.Prelude.{option_map, length, if◌then◌else◌}
use Rattle.std.proofs.lemmas.Bool.{true≢false}
use Rattle.std.proofs.lemmas.Option.{none-some, same_Some}
use Rattle.fst_terms.specs.declared.core_module.Module.{Module}
use Rattle.fst_types.specs.declared.ends.ChannelName.{ChannelName}
use Rattle.fst_types.specs.declared.ends.EndName.{EndName}
use Rattle.fst_machine.specs.declared.code.Code.{Code}
use Rattle.fst_machine.specs.declared.request.Request.{Request}
use Rattle.fst_machine.specs.declared.request.Request.TheVariants.{Step, New, Fork, Put, Get, Ended}
use Rattle.fst_vm.specs.Slot.{Slot}
use Rattle.fst_runs.specs.Configs.{Path, same_path, same_channel, same_end, other}
use Rattle.fst_runs.specs.Wrong.{end_of}
use Rattle.fst_runs.proofs.Laws.{same_path-same, same_path-itself, same_channel-same, same_end-itself, same_end-same}
use Rattle.fst_paths.specs.Paths.{put_at}
use Rattle.fst_process.proofs.Laws.{one_of_both}
use Rattle.fst_buffered.specs.Channels.{Channel, Config}
use Rattle.fst_buffered.specs.Moving.{can_put, can_take, can}
use Rattle.fst_buffered.specs.Kept.{Kept, Reflects, moves_so, moves, asked, settled, retried, tested, changed, added}
use Rattle.fst_buffered.proofs.Rights.{AreFair}

-- the test of a request depends on the channel at which it asks alone
can_same_at : (types capacity : ℕ) (f g : ChannelName → Option Channel) (q : Request) →
    ((x : EndName) → end_of q ≡ Some x → f x.channel ≡ g x.channel) → can types capacity f q ≡ can types capacity g q
can_same_at types capacity f g Step same = refl
can_same_at types capacity f g (New n) same = refl
can_same_at types capacity f g Fork same = refl
can_same_at types capacity f g (Put x ev) same = ap (can_put x.side capacity) (same x refl)
can_same_at types capacity f g (Get x) same = ap (can_take x.side) (same x refl)
can_same_at types capacity f g Ended same = refl

-- so it is for a task that may be there
moves_same_at : (types capacity : ℕ) (f g : ChannelName → Option Channel) (o : Option Slot) →
    ((s : Slot) (x : EndName) → o ≡ Some s → end_of s.request ≡ Some x → f x.channel ≡ g x.channel) →
    moves_so types capacity f o ≡ moves_so types capacity g o
moves_same_at types capacity f g None same = refl
moves_same_at types capacity f g (Some s) same = can_same_at types capacity f g s.request (λ x. same s x refl)

-- what stands under a test at a channel, where that is another one
else_channel : {X : Type 0} (h g : ChannelName) (x y : X) → (h ≡ g → ⊥) → (if same_channel h g then x else y) ≡ y
else_channel {X} h g x y apart = go (same_channel h g) refl
  where
    go : (b : Bool) → same_channel h g ≡ b → (if b then x else y) ≡ y
    go true e = absurd (apart (same_channel-same h g e))
    go false e = refl

module _ (types capacity : ℕ) (p : Path) (s : Slot) (d : Kept) (o : Option Path) where
  abbrev settled_here : Kept
  settled_here = settled types capacity p s d

  settled_ready : (q : Path) → (same_path p q ≡ false → d.ready q ≡ moves types capacity d q) →
      settled_here.ready q ≡ moves types capacity settled_here q
  settled_ready q else_ready = go (same_path p q) refl
    where
      go : (b : Bool) → same_path p q ≡ b →
          (if b then can types capacity d.channels s.request else d.ready q)
          ≡ moves_so types capacity d.channels (if b then Some s else d.tasks q)
      go true e = refl
      go false e = else_ready e

  -- a task that has come to what it asks for is noted right, and another one is tested again; for all others it was right before
  pub tested_ready : ((q : Path) → same_path p q ≡ false → (o ≡ Some q → ⊥) → d.ready q ≡ moves types capacity d q) →
      (q : Path) → (tested types capacity o settled_here).ready q ≡ moves types capacity settled_here q
  tested_ready else_ready q = go o (λ y. y)
    where
      go : (r : Option Path) → (o ≡ Some q → r ≡ Some q) →
          retried types capacity r settled_here q ≡ moves types capacity settled_here q
      go None back = settled_ready q (λ e. else_ready q e (λ f. none-some q (back f)))
      go (Some y) back = here (same_path y q) refl
        where
          here : (b : Bool) → same_path y q ≡ b →
              (if b then moves types capacity settled_here y else settled_here.ready q) ≡ moves types capacity settled_here q
          here true e = ap (moves types capacity settled_here) (same_path-same y q e)
          here false e =
              settled_ready q (λ f. else_ready q f (λ g. true≢false
              (sym (same_path-itself q) ∙ ap (λ z. same_path z q) (sym (same_Some y q (back g))) ∙ e)))

-- who asked last at an end is the same where a task asks at another one
asked_else : (p : Path) (o : Option EndName) (channels : ChannelName → Option Channel) (asker : EndName → Option Path)
    (x : EndName) → (o ≡ Some x → ⊥) → asked p o channels asker x ≡ asker x
asked_else p None channels asker x apart = refl
asked_else p (Some y) channels asker x apart = go (same_end y x) refl
  where
    go : (b : Bool) → same_end y x ≡ b → (if b then option_map (λ k. p) (channels y.channel) else asker x) ≡ asker x
    go true e = absurd (apart (ap Some (same_end-same y x e)))
    go false e = refl

-- and is the task at the one at which it asks
asked_here : (p : Path) (o : Option EndName) (channels : ChannelName → Option Channel) (asker : EndName → Option Path)
    (x : EndName) (k : Channel) → o ≡ Some x → channels x.channel ≡ Some k → asked p o channels asker x ≡ Some p
asked_here p o channels asker x k e there =
    ap (λ z. asked p z channels asker x) e
    ∙ ap (λ b. if b then option_map (λ j. p) (channels x.channel) else asker x) (same_end-itself x)
    ∙ ap (option_map (λ j. p)) there

-- who asks at an end asked last there, once a task has come to what it asks for
pub settled_askers : (types capacity : ℕ) (p : Path) (s : Slot) (d : Kept) → AreFair (put_at p (Some s) d.tasks) d.channels →
    ((q : Path) (u : Slot) (x : EndName) → d.tasks q ≡ Some u → end_of u.request ≡ Some x → d.asker x ≡ Some q) →
    (q : Path) (u : Slot) (x : EndName) → (settled types capacity p s d).tasks q ≡ Some u → end_of u.request ≡ Some x →
    (settled types capacity p s d).asker x ≡ Some q
settled_askers types capacity p s d fair before q u x there asks = go (same_path p q) refl there
  where
    here : put_at p (Some s) d.tasks p ≡ Some s
    here = ap (λ b. if b then Some s else d.tasks p) (same_path-itself p)

    go : (b : Bool) → same_path p q ≡ b → (if b then Some s else d.tasks q) ≡ Some u →
        asked p (end_of s.request) d.channels d.asker x ≡ Some q
    go true e f =
        let at = ap (λ (z : Slot). end_of z.request) (same_Some s u f) ∙ asks in
        let (k, g) = fair.there p s x here at in
        asked_here p (end_of s.request) d.channels d.asker x k at g ∙ ap Some (same_path-same p q e)
    go false e f =
        asked_else p (end_of s.request) d.channels d.asker x (λ g.
        true≢false (sym (same_path-itself p) ∙ ap (same_path p) (fair.one p q s u x here there g asks) ∙ e))
        ∙ before q u x f asks

module _ (m : Module) (k : Code) (capacity n : ℕ) (d : Kept) (c : Config) (r : Reflects m k capacity n d c)
    (fair : AreFair d.tasks d.channels) where
  abbrev types : ℕ
  types = length k.types.items

  -- a change of the channel at which a task asks changes what another can do only if that asked last at the other end
  pub changed_ready : (p : Path) (s : Slot) (x : EndName) (f : Channel → Channel) → d.tasks p ≡ Some s →
      end_of s.request ≡ Some x →
      (q : Path) → same_path p q ≡ false → (d.asker (other x) ≡ Some q → ⊥) →
      d.ready q ≡ moves types capacity (changed x.channel f d) q
  changed_ready p s x f here asks q apart free =
      r.ready q
      ∙ moves_same_at types capacity d.channels (changed x.channel f d).channels (d.tasks q)
      (λ u y there at. sym (else_channel x.channel y.channel (option_map f (d.channels y.channel)) (d.channels y.channel)
      (λ e. at_its u y there at e)))
    where
      at_its : (u : Slot) (y : EndName) → d.tasks q ≡ Some u → end_of u.request ≡ Some y → x.channel ≡ y.channel → ⊥
      at_its u y there at e = elim (one_of_both x y e) [
        | inl g ↦ true≢false (sym (same_path-itself p) ∙ ap (same_path p) (fair.one p q s u y here there (asks ∙ ap Some g) at)
            ∙ apart)
        | inr g ↦ free (ap d.asker g ∙ r.askers q u y there at)
      ]

  -- a new channel changes it for no task
  pub added_ready : (h : ChannelName) (j : Channel) → d.channels h ≡ None → (q : Path) →
      d.ready q ≡ moves types capacity (added h j d) q
  added_ready h j none q =
      r.ready q
      ∙ moves_same_at types capacity d.channels (added h j d).channels (d.tasks q)
      (λ u y there at. sym (else_channel h y.channel (Some j) (d.channels y.channel) (λ e.
      let (i, f) = fair.there q u y there at in
      none-some i (sym none ∙ ap d.channels e ∙ f))))

  -- nor who asked last at the ends at which tasks ask
  pub added_askers : (h : ChannelName) (j : Channel) → d.channels h ≡ None → (q : Path) (u : Slot) (x : EndName) →
      d.tasks q ≡ Some u → end_of u.request ≡ Some x → (added h j d).asker x ≡ Some q
  added_askers h j none q u x there at =
      else_channel h x.channel None (d.asker x) (λ e.
      let (i, f) = fair.there q u x there at in
      none-some i (sym none ∙ ap d.channels e ∙ f))
      ∙ r.askers q u x there at
