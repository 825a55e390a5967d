-- No two events of a record have one stamp and one path.
use Rattle.std.proofs.Common.{◌≡◌, ◌≤◌, ℕ, ◌+◌, List, [], ◌∷◌, ◌++◌, Bool, true, false, ◌&&◌, refl, sym, ap, subst, arith}
use Rattle.std.specs.Prelude.{sum_by, nat_eq, if◌then◌else◌}
use Rattle.std.specs.Ordering.{nat_cmp, is_lt}
use Rattle.std.specs.Cmp.Lexicographic.{slice_cmp}
use Rattle.std.proofs.lemmas.Bool.{and_from}
use Rattle.std.proofs.lemmas.List.Sums.{sum_by-cons}
use Rattle.fst_types.specs.Tree.{Tree}
use Rattle.fst_types.specs.declared.event.ChannelHistory.{ChannelHistory}
use Rattle.fst_machine.specs.Machine.{Program}
use Rattle.fst_runs.specs.declared.event.CoreEvent.{CoreEvent}
use Rattle.fst_runs.specs.declared.event.CoreEvent.TheVariants.{Local, New, Fork, Meet}
use Rattle.fst_runs.specs.declared.event.Stamped.{Stamped}
use Rattle.fst_runs.specs.declared.log.LogEntry.{LogEntry}
use Rattle.fst_runs.specs.Configs.{Path, Task, same_path}
use Rattle.fst_runs.specs.Logs.{Birth, Follows, after_entry}
use Rattle.fst_runs.specs.Order.{path_of}
use Rattle.fst_runs.specs.Wrong.{once}
use Rattle.fst_runs.proofs.Laws.{later, same_path-itself}
use Rattle.fst_records.specs.Records.{Course, FitsRecord, IsLogged}
use Rattle.fst_records.specs.Laws.{ApartLaw}
use Rattle.fst_records.specs.Parts.{Part, parts_of, part_by, parts_by}
use Rattle.fst_records.proofs.Deeds.{one_deed}
use Rattle.fst_records.proofs.Found.{on_path}
use Rattle.fst_records.proofs.LogEntries.{part_is}
use Rattle.fst_records.proofs.Lists.{sum_around}
use Rattle.fst_records.proofs.Paths.{paths_once}
use Rattle.fst_records.proofs.Stamps.{nat_itself, AtMostOne, one_more}
use Rattle.fst_records.proofs.Sums.{sum_less}

-- 1 for a part of this path with this stamp
abbrev at_both : Path → ℕ → Part → ℕ
at_both p n r = once (same_path p r.path && nat_eq n r.stamp)

-- of a log
one_entry : (m : Program) (p : Path) (n : ℕ) (path : Path) (t : Task) (es : List LogEntry) (u : Task) → Follows m path t es u →
    AtMostOne (same_path p path) n t.clock (sum_by (part_by (at_both p n) path) es)
one_entry m p n path t [] u f = record { most = omega arith; past = λ l. refl }
one_entry m p n path t (e ∷ es) u f =
    let w = at_both p n in
    let d = one_deed path t e.stamp e.asked e.answer f.0.is_answered in
    let more = one_more (same_path p path) n t.clock e.stamp (part_by w path e) (sum_by (part_by w path) es)
    (later path t e.stamp e.asked e.answer f.0.is_answered) (part_is w path e d.0 d.1)
    (one_entry m p n path (after_entry m t e) es u f.1) in
    subst (AtMostOne (same_path p path) n t.clock) (sym (sum_by-cons (part_by w path) e es)) more

-- of a record at most one does
one_part : (m : Program) (types : List Tree) (main : Birth) (ys : List Course) (ks : List ChannelHistory) →
    FitsRecord m types main ys ks →
    (p : Path) (n : ℕ) → sum_by (parts_by (at_both p n)) ys ≤ 1
one_part m types main ys ks fits p n =
    let a = sum_less (parts_by (at_both p n)) (on_path p) (IsLogged m types)
    (λ y l. (one_entry m p n y.path y.first y.log y.now l.follows).most) ys fits.logs in
    let b = paths_once (λ y. y) m main ys fits.root fits.births p in
    omega (arith, a, b)

itself : (p : Path) (n : ℕ) → once (same_path p p && nat_eq n n) ≡ 1
itself p n = ap once (and_from (same_path p p) (nat_eq n n) (same_path-itself p) (nat_itself n))

-- the lesser path counts as one of two
lesser_counts : (b : Bool) (p q : Path) (n : ℕ) →
    1 ≤ once (same_path (if b then q else p) p && nat_eq n n) + once (same_path (if b then q else p) q && nat_eq n n)
lesser_counts true p q n = let a = itself q n in omega (arith, a)
lesser_counts false p q n = let a = itself p n in omega (arith, a)

-- the path of an event counts in its parts
path_counts : (e : CoreEvent) (n : ℕ) → 1 ≤ sum_by (at_both (path_of e) n) (parts_of e n)
path_counts (Local p) n = let a = itself p n in omega (arith, a)
path_counts (New p) n = let a = itself p n in omega (arith, a)
path_counts (Fork p) n = let a = itself p n in omega (arith, a)
path_counts (Meet p q h) n = let a = lesser_counts (is_lt (slice_cmp nat_cmp q p)) p q n in omega (arith, a)

-- no two events of a record that fits have one stamp and one path
pub events_apart : ApartLaw
events_apart m types main ys ks fits es are front d between e back is stamp path =
    let w = at_both (path_of e.event) e.stamp in
    let f = λ (e : Stamped). sum_by w (parts_of e.event e.stamp) in
    let a = sum_around f {xs = es} (record { before = front; behind = between ++ e ∷ back; is = is }) in
    let b = sum_around f {xs = between ++ e ∷ back} (record { before = between; behind = back; is = refl }) in
    let c = path_counts e.event e.stamp in
    let g = path_counts d.event d.stamp in
    let h : sum_by (at_both (path_of d.event) d.stamp) (parts_of d.event d.stamp) ≡ sum_by w (parts_of d.event d.stamp) =
    λ i. sum_by (at_both (path i) (stamp i)) (parts_of d.event d.stamp) in
    let k = are w in
    let l = one_part m types main ys ks fits (path_of e.event) e.stamp in
    omega (arith, a, b, c, g, h, k, l)
