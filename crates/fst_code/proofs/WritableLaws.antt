-- The parts of what can be written can be written.
use Rattle.std.proofs.Common.{◌≡◌, ◌<◌, ◌≤◌, ◌+◌, ℕ, zero, suc, List, [], ◌∷◌, length, get_or, drop, Some, sym, subst, arith}
use Rattle.std.specs.Prelude.{slice_get}
use Rattle.std.proofs.lemmas.Option.{same_Some}
use Rattle.fst_terms.specs.declared.core_term.Arm.{Arm}
use Rattle.fst_terms.specs.CoreCount.{core_count, core_limit, cores_count}
use Rattle.fst_terms.specs.CoreTree.{CoreTree, local, global, int, bool, char, unit, pair, make, lambda, apply, let_in, split, if_else, case_of, operate, negate, new, send, receive, close, wait, select, match_with, fork, seq}
use Rattle.fst_terms.specs.InRange.{Bounds, IsInRange, AreCasesInRange, AreMatchesInRange}
use Rattle.fst_terms.specs.ModelCoreView.{core_arms_of, cores_of}
use Rattle.fst_code.specs.Whole.{AreArmsWhole, AreReady, IsReady}
use Rattle.fst_code.specs.Writable.{AreArmsWritable, IsWritable}

-- another term that is the same can be written too
pub writable_as : {n l : ℕ} {s t : CoreTree} → s ≡ t → IsWritable n l t → IsWritable n l s
writable_as {n} {l} e h = subst (λ z. IsWritable n l z) (sym e) h

-- a term that is ready can be written where as many variables are marked and there is room
pub writable_from : {b : Bounds} {n m l : ℕ} {e : CoreTree} → IsReady b n e → m ≡ n → m + l + core_count e < core_limit →
    IsWritable m l e
writable_from {b} {n} {m} {l} {e} r same few = record {
  bounds = b;
  ready = subst (λ z. IsReady b z e) (sym same) r;
  few = few;
}

-- ---- arms

-- each arm of a `case` is ready under its binders
cases_ready : (b : Bounds) (n : ℕ) (bs : List Arm) → AreCasesInRange b n (core_arms_of bs) →
    AreArmsWhole b.families (core_arms_of bs) → (k : ℕ) (a : Arm) → slice_get bs k ≡ Some a →
    IsReady b (length a.binders.items + n) a.body
cases_ready b n [] r w k a at = absurd (cc at)
cases_ready b n (o ∷ bs) r w zero a at = subst (λ (z : Arm). IsReady b (length z.binders.items + n) z.body) (same_Some o a at)
    (record { range = r.1; whole = w.0 })
cases_ready b n (o ∷ bs) r w (suc k) a at = cases_ready b n bs r.2 w.1 k a at

-- the arms of a `case` that can be written
pub case_arms : {n l at : ℕ} {s : CoreTree} (bs : List Arm) → IsWritable n l (case_of at s (core_arms_of bs)) →
    AreArmsWritable n l bs
case_arms {n} bs h = record {
  bounds = h.bounds;
  ready = cases_ready h.bounds n bs h.ready.range.2 h.ready.whole.1;
  few = omega (arith, h.few);
}

-- each arm of a `match` is ready under its binder
matches_ready : (b : Bounds) (n : ℕ) (bs : List Arm) → AreMatchesInRange b n (core_arms_of bs) →
    AreArmsWhole b.families (core_arms_of bs) → (k : ℕ) (a : Arm) → slice_get bs k ≡ Some a →
    IsReady b (length a.binders.items + n) a.body
matches_ready b n [] r w k a at = absurd (cc at)
matches_ready b n (o ∷ bs) r w zero a at =
    let next : suc n ≡ length o.binders.items + n = omega (arith, r.0) in
    subst (λ (z : Arm). IsReady b (length z.binders.items + n) z.body) (same_Some o a at)
    (record { range = subst (λ z. IsInRange b z o.body) next r.1; whole = w.0 })
matches_ready b n (o ∷ bs) r w (suc k) a at = matches_ready b n bs r.2 w.1 k a at

-- the arms of a `match` that can be written
pub match_arms : {n l at : ℕ} {s : CoreTree} (bs : List Arm) → IsWritable n l (match_with at s (core_arms_of bs)) →
    AreArmsWritable n l bs
match_arms {n} bs h = record {
  bounds = h.bounds;
  ready = matches_ready h.bounds n bs h.ready.range.2 h.ready.whole.1;
  few = omega (arith, h.few);
}

-- ---- how many there are

-- a term is one at least
count_positive : (e : CoreTree) → 0 < core_count e
count_positive (local at k) = omega arith
count_positive (global at g ts) = omega arith
count_positive (int at n) = omega arith
count_positive (bool at b) = omega arith
count_positive (char at n) = omega arith
count_positive (unit at) = omega arith
count_positive (pair at e f) = omega arith
count_positive (make at n o es) = omega arith
count_positive (lambda at u t x e) = omega arith
count_positive (apply at e f) = omega arith
count_positive (let_in at x e f) = omega arith
count_positive (split at x y e f) = omega arith
count_positive (if_else at e f g) = omega arith
count_positive (case_of at e bs) = omega arith
count_positive (operate at o e f) = omega arith
count_positive (negate at e) = omega arith
count_positive (new at t) = omega arith
count_positive (send at e f) = omega arith
count_positive (receive at e) = omega arith
count_positive (close at e) = omega arith
count_positive (wait at e) = omega arith
count_positive (select at l e) = omega arith
count_positive (match_with at e bs) = omega arith
count_positive (fork at e) = omega arith
count_positive (seq at e f) = omega arith

-- so there are no more terms in a list than these have
pub length_cores_count : (ts : List CoreTree) → length ts ≤ cores_count (cores_of ts)
length_cores_count [] = omega arith
length_cores_count (t ∷ ts) = omega (arith, count_positive t, length_cores_count ts)

-- the last ones of a list have no more than all
pub cores_count_drop : (i : ℕ) (ts : List CoreTree) → cores_count (cores_of (drop i ts)) ≤ cores_count (cores_of ts)
cores_count_drop zero ts = omega arith
cores_count_drop (suc i) [] = omega arith
cores_count_drop (suc i) (t ∷ ts) = omega (arith, cores_count_drop i ts)

-- each one of terms that are ready is ready
pub ready_at : {b : Bounds} {n : ℕ} (ts : List CoreTree) (i : ℕ) (t : CoreTree) → i < length ts → t ≡ get_or ts i t →
    AreReady b n (cores_of ts) → IsReady b n t
ready_at [] i t lt e r = absurd (omega arith)
ready_at {b} {n} (s ∷ ts) zero t lt e r = subst (IsReady b n) (sym e) (record { range = r.range.0; whole = r.whole.0 })
ready_at (s ∷ ts) (suc i) t lt e r = let less : i < length ts = omega arith in
    ready_at ts i t less e (record { range = r.range.1; whole = r.whole.1 })
