-- A task is taken out; and what is kept later.
use Rattle.std.proofs.Common.{◌≡◌, ◌∙◌, ◌≤◌, ℕ, false, Option, Some, None, List, [], ◌∷◌, refl, sym, ap, subst, arith}
use Rattle.std.specs.Prelude.{is_some, length}
use Rattle.fst_base.proofs.Options.{some_same, none_some}
use Rattle.fst_terms.specs.declared.core_module.Module.{Module}
use Rattle.fst_types.specs.declared.ends.EndName.{EndName}
use Rattle.fst_types.specs.declared.event.Entry.{Entry}
use Rattle.fst_lts.specs.Stamps.{StampedTo}
use Rattle.fst_machine.specs.declared.code.Code.{Code}
use Rattle.fst_machine.specs.declared.request.Request.{Request}
use Rattle.fst_machine.specs.declared.request.Request.TheVariants.{Step, New, Fork, Put, Get, Ended}
use Rattle.fst_runs.specs.Configs.{Path, Config, Task}
use Rattle.fst_vm.specs.Slot.{Slot}
use Rattle.fst_paths.specs.Paths.{put_at}
use Rattle.fst_process.specs.Kept.{Kept, asker, partner, end_of, moves_with, moves_so, without}
use Rattle.fst_process.specs.Reflects.{IsTask, AreTask, AsksAt, Reflects}
use Rattle.fst_paths.proofs.Laws.{put_cases, put_both}

-- the configuration without the task at a path
abbrev pub hide : Path → Config → Config
hide p c = record c { tasks = put_at p None c.tasks }

-- the configuration with this task at a path
abbrev pub show : Path → Task → Config → Config
show p t c = record c { tasks = put_at p (Some t) c.tasks }

-- a task is kept as before where it has made as many channels
pub is_same : (m : Module) (k : Code) (d e : Kept) (p : Path) (s : Slot) (t : Task) → e.made p ≡ d.made p → IsTask m k d p s t →
    IsTask m k e p s t
is_same m k d e p s t f i = record {
  path = i.path;
  rests = i.rests;
  is_in = i.is_in;
  asks = i.asks;
  clock = i.clock;
  forked =
      i.forked;
  made = f ∙ i.made;
}

-- so it is where there may be none
pub are_same : (m : Module) (k : Code) (d e : Kept) (p : Path) (o : Option Slot) (u : Option Task) → e.made p ≡ d.made p →
    AreTask m k d p o u → AreTask m k e p o u
are_same m k d e p None None f i = tt
are_same m k d e p None (Some t) f i = i
are_same m k d e p (Some s) None f i = i
are_same m k d e p (Some s) (Some t) f i = is_same m k d e p s t f i

-- where a task is there, it is kept
pub is_kept : (m : Module) (k : Code) (d : Kept) (p : Path) (o : Option Slot) (u : Option Task) (t : Task) → AreTask m k d p o u →
    u ≡ Some t →
    (s : Slot) × (o ≡ Some s) × IsTask m k d p s t
is_kept m k d p None None t i e = absurd (none_some e)
is_kept m k d p None (Some u) t i e = absurd i
is_kept m k d p (Some s) None t i e = absurd i
is_kept m k d p (Some s) (Some u) t i e = (s, refl, subst (IsTask m k d p s) (some_same e) i)

-- and where one is kept, it is there
pub is_there : (m : Module) (k : Code) (d : Kept) (p : Path) (o : Option Slot) (u : Option Task) (s : Slot) →
    AreTask m k d p o u → o ≡ Some s →
    (t : Task) × (u ≡ Some t) × IsTask m k d p s t
is_there m k d p None None s i e = absurd (none_some e)
is_there m k d p None (Some u) s i e = absurd i
is_there m k d p (Some r) None s i e = absurd i
is_there m k d p (Some r) (Some u) s i e = (u, refl, subst (λ z. IsTask m k d p z u) (some_same e) i)

-- where none is there, none is kept
pub none_kept : (m : Module) (k : Code) (d : Kept) (p : Path) (o : Option Slot) (u : Option Task) → AreTask m k d p o u →
    u ≡ None → o ≡ None
none_kept m k d p None u i e = refl
none_kept m k d p (Some s) None i e = absurd i
none_kept m k d p (Some s) (Some t) i e = absurd (none_some (sym e))

with_same : (types : ℕ) (d e : Kept) (q : Request) →
    ((x : EndName) → end_of q ≡ Some x → is_some (partner d x) ≡ is_some (partner e x)) →
    moves_with types d q ≡ moves_with types e q
with_same types d e Step f = refl
with_same types d e (New n) f = refl
with_same types d e Fork f = refl
with_same types d e (Put x ev) f = f x refl
with_same types d e (Get x) f = f x refl
with_same types d e Ended f = refl

-- a task can move as before where its partner is there as before
pub moves_same : (types : ℕ) (d e : Kept) (o : Option Slot) →
    ((s : Slot) (x : EndName) → o ≡ Some s → end_of s.request ≡ Some x → is_some (partner d x) ≡ is_some (partner e x)) →
    moves_so types d o ≡ moves_so types e o
moves_same types d e None f = refl
moves_same types d e (Some s) f = with_same types d e s.request (λ x. f s x refl)

-- what is kept is a configuration after a task is taken out of both that asks at no end
pub taken_out : (m : Module) (k : Code) (n : ℕ) (d : Kept) (c : Config) (p : Path) (s : Slot) → Reflects m k n d c →
    d.tasks p ≡ Some s → end_of s.request ≡ None →
    Reflects m k n (without p d) (hide p c)
taken_out m k n d c p s r e f = record {
  from = r.from;
  tasks = λ q. put_both (AreTask m k (without p d) q) p q None d.tasks None c.tasks (λ z. tt)
      (λ z. are_same m k d (without p d) q (d.tasks q) (c.tasks q) refl (r.tasks q));
  channels = r.channels;
  askers = λ x q. (
    λ a. let b = (r.askers x q).0 a in (
      b.0,
      put_cases (λ o. o ≡ Some b.0) p q None d.tasks (λ z. absurd (asks_none q x b z))
          (λ z. b.1),
      b.2,
    ),
    λ b. put_cases (λ o. o ≡ Some b.0 → asker d x ≡ Some q) p q None d.tasks (λ z a. absurd (none_some a))
        (λ z a. (r.askers x q).1 (b.0, a, b.2)) b.1,
  );
  ready = λ q. put_both (λ b o. b ≡ moves_so (length m.types.items) (without p d) o) p q false d.ready None d.tasks (λ z. refl)
      (λ z. r.ready q ∙ moves_same (length m.types.items) d (without p d) (d.tasks q) (λ s x a b. refl));
  makers = r.makers;
  clocks = λ q t. put_cases (λ o. o ≡ Some t → t.clock ≤ n) p q None d.tasks (λ z a. absurd (none_some a)) (λ z. r.clocks q t);
  forks = λ q t. put_cases (λ o. o ≡ Some t → t.task.forked ≤ n) p q None d.tasks (λ z a. absurd (none_some a))
      (λ z. r.forks q t);
  makes = r.makes;
  stamps = r.stamps;
}
  where
    asks_none : (q : Path) (x : EndName) → AsksAt d q x → p ≡ q → ⊥
    asks_none q x b z =
        let g : s ≡ b.0 = some_same (sym e ∙ ap d.tasks z ∙ b.1) in
        none_some (sym f ∙ ap (λ (y : Slot). end_of y.request) g ∙ b.2)

stamped_later : (n l : ℕ) (es : List Entry) → n ≤ l → StampedTo n es → StampedTo l es
stamped_later n l [] h s = tt
stamped_later n l (e ∷ es) h s = let f = s.0 in (omega (arith, f, h), stamped_later n l es h s.1)

-- what is kept after so many events is so after more
pub later : (m : Module) (k : Code) (n l : ℕ) (d : Kept) (c : Config) → Reflects m k n d c → n ≤ l → Reflects m k l d c
later m k n l d c r h = record {
  from = r.from;
  tasks = r.tasks;
  channels = r.channels;
  askers = r.askers;
  ready = r.ready;
  makers = r.makers;
  clocks = λ p s e. let f = r.clocks p s e in omega (arith, f, h);
  forks = λ p s e. let f = r.forks p s e in omega (arith, f, h);
  makes = λ p. let f = r.makes p in omega (arith, f, h);
  stamps = λ g j e. stamped_later n l j.history h (r.stamps g j e);
}
