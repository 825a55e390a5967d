-- No stamp of what a log exchanges is later than the task's clock, and the channels that it opens are the task's.
use Rattle.std.proofs.Common.{◌≡◌, ◌∙◌, inl, inr, ◌≤◌, ℕ, List, [], ◌∷◌, length, Option, Some, None, refl, sym, ap, subst, arith}
use Rattle.std.specs.Prelude.{sum_by, All}
use Rattle.std.proofs.lemmas.List.Elements.{All-nil, All-cons, All-head, All-tail, All-append, All-weaker}
use Rattle.std.proofs.lemmas.List.Sums.{sum_by-cons}
use Rattle.fst_types.specs.Tree.{Tree}
use Rattle.fst_types.specs.declared.ends.ChannelName.{ChannelName}
use Rattle.fst_machine.specs.declared.request.Request.{Request}
use Rattle.fst_machine.specs.declared.request.Request.TheVariants.{Put, Get}
use Rattle.fst_machine.specs.declared.request.Answer.{Answer}
use Rattle.fst_machine.specs.declared.request.Answer.TheVariants.{Sent, Got}
use Rattle.fst_machine.specs.Machine.{Program}
use Rattle.fst_runs.specs.Configs.{Path, Task, same_path, channel_name}
use Rattle.fst_runs.specs.Wrong.{once}
use Rattle.fst_runs.specs.declared.log.LogEntry.{LogEntry}
use Rattle.fst_runs.specs.Logs.{Exchange, Opening, Follows, after_entry, exchanged_by, exchanges, opening_of, opened_by, openings}
use Rattle.fst_runs.proofs.Laws.{later}
use Rattle.fst_records.proofs.Paths.{IsNew, is_new}
use Rattle.fst_records.proofs.Sums.{sum_none}
use Rattle.fst_records.proofs.Tests.{path_counts}

-- clocks go up
pub clock_grows : (p : Program) (path : Path) (t : Task) (log : List LogEntry) (u : Task) → Follows p path t log u →
    t.clock ≤ u.clock
clock_grows p path t [] u f = let e = ap (λ (t : Task). t.clock) f in omega (arith, e)
clock_grows p path t (e ∷ es) u f =
    let l = later path t e.stamp e.asked e.answer f.0.is_answered in
    let g = clock_grows p path (after_entry p t e) es u f.1 in
    omega (arith, l, g)

-- what is exchanged by these has this stamp
abbrev StampedAt : ℕ → Exchange → Type 0
StampedAt n g = g.stamp ≡ n

exchanged_at : (clock stamp : ℕ) (q : Request) (a : Answer) → All (StampedAt stamp) (exchanged_by clock stamp q a)
exchanged_at clock stamp (Put x ev) Sent = All-cons (StampedAt stamp) _ [] refl (All-nil (StampedAt stamp))
exchanged_at clock stamp (Get x) (Got ev) = All-cons (StampedAt stamp) _ [] refl (All-nil (StampedAt stamp))
exchanged_at clock stamp q a = All-nil (StampedAt stamp)

-- what is exchanged has a stamp that is no later than this
abbrev pub StampedBy : ℕ → Exchange → Type 0
StampedBy n g = g.stamp ≤ n

-- no stamp of a log is later than the clock to which it leads
pub stamped_by : (p : Program) (path : Path) (t : Task) (log : List LogEntry) (u : Task) → Follows p path t log u →
    All (StampedBy u.clock) (exchanges t.clock log)
stamped_by p path t [] u f = All-nil (StampedBy u.clock)
stamped_by p path t (e ∷ es) u f =
    let g = clock_grows p path (after_entry p t e) es u f.1 in
    All-append (StampedBy u.clock) (exchanged_by t.clock e.stamp e.asked e.answer) (exchanges e.stamp es)
    (All-weaker (StampedAt e.stamp) (StampedBy u.clock)
    (λ x q. omega (arith, g, q)) (exchanged_by t.clock e.stamp e.asked e.answer)
    (exchanged_at t.clock e.stamp e.asked e.answer))
    (stamped_by p path (after_entry p t e) es u f.1)

-- ---- channels

-- the channel was made by the task with this path
abbrev pub OfMaker : Path → Opening → Type 0
OfMaker p o = o.name.maker ≡ p

opening_made : (h : ChannelName) (o : Option Tree) → All (OfMaker h.maker) (opening_of h o)
opening_made h None = All-nil (OfMaker h.maker)
opening_made h (Some t) = All-cons (OfMaker h.maker) _ [] refl (All-nil (OfMaker h.maker))

-- a log opens channels of its task alone
pub of_maker : (p : Program) (types : List Tree) (path : Path) (t : Task) (log : List LogEntry) (u : Task) →
    Follows p path t log u →
    All (OfMaker path) (openings types log)
of_maker p types path t [] u f = All-nil (OfMaker path)
of_maker p types path t (e ∷ es) u f =
    All-append (OfMaker path) (opened_by types e.asked e.answer) (openings types es)
    (by (is_new types path t e.stamp e.asked e.answer f.0.is_answered))
    (of_maker p types path (after_entry p t e) es u f.1)
  where
    by : IsNew types path t e.asked e.answer → All (OfMaker path) (opened_by types e.asked e.answer)
    by (inl k) = subst (All (OfMaker path)) (sym k.1) (opening_made (channel_name path t.made) k.0)
    by (inr k) = subst (All (OfMaker path)) (sym k.0) (All-nil (OfMaker path))

-- a channel, by its maker
abbrev pub made_at : Path → Opening → ℕ
made_at p o = once (same_path p o.name.maker)

-- those of another task count nothing
pub others_made : (p q : Path) (os : List Opening) → once (same_path p q) ≡ 0 → All (OfMaker q) os → sum_by (made_at p) os ≡ 0
others_made p q os z all = sum_none (made_at p) (OfMaker q) (λ o e. ap (λ r. once (same_path p r)) e ∙ z) os all

-- and those of this task each count
pub own_made : (p : Path) (os : List Opening) → All (OfMaker p) os → sum_by (made_at p) os ≡ length os
own_made p [] all = refl
own_made p (o ∷ os) all =
    let a = sum_by-cons (made_at p) o os in
    let b = path_counts p o.name.maker (sym (All-head (OfMaker p) o os all)) in
    let c = own_made p os (All-tail (OfMaker p) o os all) in
    omega (arith, a, b, c)
