-- The list of pairs that a table of numbers stands for.
use Rattle.std.proofs.Common.{◌≡◌, ℕ, ◌<◌, ◌≤◌, ◌+◌, List, [], ◌∷◌, ◌++◌, length, refl, sym, ◌∙◌, ap, subst, arith, Some, None, zero, suc, true, false, cond, Any, is_some, Option, append-nil, append_assoc}
use Rattle.std.specs.Prelude.{slice_get, map, IfSome}
use Rattle.std.specs.Map.{lookup, keys_of}
use Rattle.std.proofs.lemmas.List.{map-append}
use Rattle.std.proofs.lemmas.Option.{get_or_from_slice_get, slice_get_within}
use Rattle.fst_base.proofs.Bools.{pair_eq, same_pair, pair_itself}
use Rattle.fst_base.proofs.Lists.{get_there, get-front, get-last, length-push}
use Rattle.fst_shared.specs.Shared.{word_of, Keeps, IsEachOnce, AreKeys}
use Rattle.fst_shared.specs.declared.handle.SharedPair.{SharedPair}
use Rattle.fst_breadth.specs.Reached.{ReachedPair}
use Rattle.fst_breadth.specs.Answer.{pair_of}
use Rattle.fst_breadth.specs.Tables.{HasPair, Origin, Entry, trace_at, trace_from, reached_of, found_from, IsEntry, AreEntries, key_pair}
use Rattle.fst_breadth.specs.Following.{Follows}
use Rattle.fst_breadth.specs.declared.pairs.Followed.{Followed}

-- one entry more is one pair more
pub found-push : (W : List (List ℕ)) (E : List Entry) (F : List ReachedPair) (e : Entry) →
    found_from W F (E ++ e ∷ []) ≡ found_from W F E ++ reached_of W (found_from W F E) e ∷ []
found-push W [] F e = refl
found-push W (d ∷ E) F e = found-push W E (F ++ reached_of W F d ∷ []) e

pub found-length : (W : List (List ℕ)) (E : List Entry) (F : List ReachedPair) → length (found_from W F E) ≡ length F + length E
found-length W [] F = omega arith
found-length W (d ∷ E) F =
    let e = found-length W E (F ++ reached_of W F d ∷ []) in
    let l = length-push F (reached_of W F d) in
    omega arith

-- more words change nothing
pub found-keeps : (W V : List (List ℕ)) → Keeps W V →
    (E : List Entry) (F : List ReachedPair) (k : ℕ) → AreEntries (length W) k E → found_from V F E ≡ found_from W F E
found-keeps W V keeps [] F k ok = refl
found-keeps W V keeps (e ∷ E) F k ok =
    let same : reached_of V F e ≡ reached_of W F e =
    λ i. record { left = keeps.kept e.0.0 ok.0.left i; right = keeps.kept e.0.1 ok.0.right i; trace = trace_from F e.1 } in
    found-keeps W V keeps E (F ++ reached_of V F e ∷ []) (suc k) ok.1 ∙ ap
    (λ (z : ReachedPair). found_from W (F ++ z ∷ []) E) same

entry-keep : (n m k : ℕ) (e : Entry) → n ≤ m → IsEntry n k e → IsEntry m k e
entry-keep n m k e le h = record {
  left = (let l = h.left in omega arith);
  right =
      (let r = h.right in omega arith);
  origin = h.origin;
}

pub entries-keep : (n m : ℕ) → n ≤ m → (E : List Entry) (k : ℕ) → AreEntries n k E → AreEntries m k E
entries-keep n m le [] k ok = tt
entries-keep n m le (e ∷ E) k ok = (entry-keep n m k e le ok.0, entries-keep n m le E (suc k) ok.1)

pub entries-push : (n : ℕ) (E : List Entry) (k : ℕ) (e : Entry) → AreEntries n k E → IsEntry n (k + length E) e →
    AreEntries n k (E ++ e ∷ [])
entries-push n [] k e ok h = (subst (λ (z : ℕ). IsEntry n z e) (let z : k + 0 ≡ k = omega arith in z) h, tt)
entries-push n (d ∷ E) k e ok h = (
  ok.0,
  entries-push n E (suc k) e ok.1
      (subst (λ (z : ℕ). IsEntry n z e) (let z : k + suc (length E) ≡ suc k + length E = omega arith in z) h),
)

pub entry_at : (n : ℕ) (E : List Entry) (k j : ℕ) (e : Entry) → AreEntries n k E → slice_get E j ≡ Some e → IsEntry n (k + j) e
entry_at n [] k j e ok is = cc
entry_at n (d ∷ E) k zero e ok is =
    let same : d ≡ e = cc in
    subst (IsEntry n (k + 0)) same (subst (λ (z : ℕ). IsEntry n z d) (let z : k ≡ k + 0 = omega arith in z) ok.0)
entry_at n (d ∷ E) k (suc j) e ok is =
    subst (λ (z : ℕ). IsEntry n z e) (let z : suc k + j ≡ k + suc j = omega arith in z) (entry_at n E (suc k) j e ok.1 is)

trace-front : (F : List ReachedPair) (n : ReachedPair) (j : ℕ) → j < length F → trace_at (F ++ n ∷ []) j ≡ trace_at F j
trace-front [] n j l = absurd (omega arith)
trace-front (x ∷ F) n zero l = refl
trace-front (x ∷ F) n (suc j) l = trace-front F n j (omega arith)

-- earlier pairs stay
record IsKept (F G : List ReachedPair) (j : ℕ) : Type 0 where
  there : slice_get G j ≡ slice_get F j
  trace : trace_at G j ≡ trace_at F j

found-front : (W : List (List ℕ)) (E : List Entry) (F : List ReachedPair) (j : ℕ) → j < length F → IsKept F (found_from W F E) j
found-front W [] F j l = record { there = refl; trace = refl }
found-front W (e ∷ E) F j l =
    let longer = length-push F (reached_of W F e) in
    let r = found-front W E (F ++ reached_of W F e ∷ []) j (omega arith) in
    record { there = r.there ∙ get-front F (reached_of W F e) j l; trace = r.trace ∙ trace-front F (reached_of W F e) j l }

-- what a list of pairs has at a place
pub record IsAt (W : List (List ℕ)) (F : List ReachedPair) (j : ℕ) (e : Entry) : Type 0 where
  pub entry : ReachedPair
  pub there : slice_get F j ≡ Some entry
  pub left : word_of W e.0.0 ≡ entry.left
  pub right : word_of W e.0.1 ≡ entry.right
  pub trace : trace_at F j ≡ trace_from F e.1

trace-last : (F : List ReachedPair) (n : ReachedPair) → trace_at (F ++ n ∷ []) (length F) ≡ n.trace
trace-last [] n = refl
trace-last (x ∷ F) n = trace-last F n

from-front : (F G : List ReachedPair) (o : Origin) → IfSome o (λ p. p.0 < length F) →
    ((j : ℕ) → j < length F → trace_at G j ≡ trace_at F j) → trace_from G o ≡ trace_from F o
from-front F G None l h = refl
from-front F G (Some p) l h = ap (λ (z : List ℕ). z ++ p.1 ∷ []) (h p.0 l)

found-at : (W : List (List ℕ)) (n : ℕ) (E : List Entry) (F : List ReachedPair) (j : ℕ) (e : Entry) → AreEntries n (length F) E →
    slice_get E j ≡ Some e → IsAt W (found_from W F E) (length F + j) e
found-at W n [] F j e ok is = cc
found-at W n (d ∷ E) F zero e ok is =
    let same : d ≡ e = cc in
    let longer = length-push F (reached_of W F d) in
    let front = found-front W E (F ++ reached_of W F d ∷ []) (length F) (omega arith) in
    let place : length F + 0 ≡ length F = omega arith in
    subst (λ (z : Entry). IsAt W (found_from W (F ++ reached_of W F d ∷ []) E) (length F + 0) z) same
    (subst (λ (z : ℕ). IsAt W (found_from W (F ++ reached_of W F d ∷ []) E) z d) (sym place)
    (record {
      entry = reached_of W F d;
      there = front.there ∙ get-last F (reached_of W F d);
      left = refl;
      right = refl;
      trace = front.trace ∙ trace-last F (reached_of W F d)
          ∙ sym (from-front F (found_from W (F ++ reached_of W F d ∷ []) E) d.1 ok.0.origin
          (λ j l. (found-front W E (F ++ reached_of W F d ∷ []) j (omega arith)).trace ∙ trace-front F (reached_of W F d) j l));
    }))
found-at W n (d ∷ E) F (suc j) e ok is =
    let longer = length-push F (reached_of W F d) in
    let place : length (F ++ reached_of W F d ∷ []) + j ≡ length F + suc j = omega arith in
    subst (λ (z : ℕ). IsAt W (found_from W (F ++ reached_of W F d ∷ []) E) z e) place
    (found-at W n E (F ++ reached_of W F d ∷ []) j e (subst (λ (z : ℕ). AreEntries n z E) (sym longer) ok.1) is)

pub at_entry : (W : List (List ℕ)) (E : List Entry) (j : ℕ) (e : Entry) → AreEntries (length W) 0 E → slice_get E j ≡ Some e →
    IsAt W (found_from W [] E) j e
at_entry W E j e ok is = subst (λ (z : ℕ). IsAt W (found_from W [] E) z e) (let place : 0 + j ≡ j = omega arith in place)
    (found-at W (length W) E [] j e ok is)

-- what a look-up finds
record IsFound (p : ℕ × ℕ) (E : List Entry) : Type 0 where
  at : ℕ
  entry : Entry
  there : slice_get E at ≡ Some entry
  key : entry.0 ≡ p

lookup_there : (p : ℕ × ℕ) (E : List Entry) → is_some (lookup (pair_eq p) E) ≡ true → IsFound p E
lookup_there p [] h = cc
lookup_there p (e ∷ E) h =
    (elim (pair_eq p e.0) as (λ b. pair_eq p e.0 ≡ b → is_some (cond b (Some e.1) (lookup (pair_eq p) E)) ≡ true →
    IsFound p (e ∷ E)) [
      | true ↦ λ b r. record { at = 0; entry = e; there = refl; key = sym (same_pair p e.0 b) }
      | false ↦ λ b r. let rest = lookup_there p E r in
          record { at = suc rest.at; entry = rest.entry; there = rest.there; key = rest.key }
    ]) refl h

there_lookup : (p : ℕ × ℕ) (E : List Entry) (j : ℕ) (e : Entry) → slice_get E j ≡ Some e → e.0 ≡ p →
    is_some (lookup (pair_eq p) E) ≡ true
there_lookup p [] j e is same = cc
there_lookup p (d ∷ E) zero e is same =
    let first : d ≡ e = cc in
    let yes : pair_eq p d.0 ≡ true = ap (λ (z : Entry). pair_eq p z.0) first ∙ ap (pair_eq p) same ∙ pair_itself p in
    ap (λ b. is_some (cond b (Some d.1) (lookup (pair_eq p) E))) yes
there_lookup p (d ∷ E) (suc j) e is same =
    elim (pair_eq p d.0) as (λ b. is_some (cond b (Some d.1) (lookup (pair_eq p) E)) ≡ true) [
      | true ↦ refl
      | false ↦ there_lookup p E j e is same
    ]

module _ (W : List (List ℕ)) (E : List Entry) (ok : AreEntries (length W) 0 E) (x y : ℕ) where
  -- a key that is looked up is a pair of the list
  pub listed : is_some (lookup (pair_eq (x, y)) E) ≡ true → Any (HasPair (word_of W x) (word_of W y)) (found_from W [] E)
  listed h =
      let r = lookup_there (x, y) E h in
      let a = at_entry W E r.at r.entry ok r.there in (
        r.at,
        a.entry,
        slice_get_within (found_from W [] E) r.at a.entry a.there,
        get_or_from_slice_get (found_from W [] E) r.at a.entry a.entry a.there,
        (sym a.left ∙ ap (λ (z : ℕ × ℕ). word_of W z.0) r.key, sym a.right ∙ ap (λ (z : ℕ × ℕ). word_of W z.1) r.key),
      )

  -- and a pair of the list is looked up, since each word has one number
  pub found : IsEachOnce W → x < length W → y < length W → Any (HasPair (word_of W x) (word_of W y)) (found_from W [] E) →
      is_some (lookup (pair_eq (x, y)) E) ≡ true
  found once lx ly (k, d, lt, is, p) =
      let long = found-length W E [] in
      let t = get_there E k (omega arith) in
      let a = at_entry W E k t.0 ok t.1 in
      let same : a.entry ≡ d = sym (get_or_from_slice_get (found_from W [] E) k a.entry d a.there) ∙ is in
      let r = entry_at (length W) E 0 k t.0 ok t.1 in
      let left : t.0.0.0 ≡ x = once t.0.0.0 x r.left lx (a.left ∙ ap (λ (z : ReachedPair). z.left) same ∙ p.0) in
      let right : t.0.0.1 ≡ y = once t.0.0.1 y r.right ly (a.right ∙ ap (λ (z : ReachedPair). z.right) same ∙ p.1) in
      there_lookup (x, y) E k t.0 t.1 (λ i. (left i, right i))

pub none_from : {X : Type 0} (o : Option X) → (is_some o ≡ true → ⊥) → o ≡ None
none_from None h = refl
none_from (Some x) h = absurd (h refl)

-- the trace at a place is that of the pair there
pub trace_there : (F : List ReachedPair) (k : ℕ) (e : ReachedPair) → slice_get F k ≡ Some e → trace_at F k ≡ e.trace
trace_there [] k e is = cc
trace_there (d ∷ F) zero e is = ap (λ (z : ReachedPair). z.trace) (let f : d ≡ e = cc in f)
trace_there (d ∷ F) (suc k) e is = trace_there F k e is

-- what became of a pair, where the list and the pair are the same
pub follows_same : (F G H : List ReachedPair) (n m : ReachedPair) (b : ℕ) (f : Followed) → F ≡ G → n ≡ m → Follows F H n b f →
    Follows G H m b f
follows_same F G H n m b f same is h = subst (λ (z : ReachedPair). Follows G H z b f) is
    (subst (λ (z : List ReachedPair). Follows z H n b f) same h)

pub keys_within : (n : ℕ) (E : List Entry) (k : ℕ) → AreEntries n k E → AreKeys n (keys_of E)
keys_within n [] k ok = tt
keys_within n (e ∷ E) k ok = (ok.0.left, ok.0.right, keys_within n E (suc k) ok.1)

pairs-append : (W : List (List ℕ)) (E : List Entry) (F : List ReachedPair) →
    map pair_of (found_from W F E) ≡ map pair_of F ++ map (key_pair W) (keys_of E)
pairs-append W [] F = sym (append-nil (map pair_of F))
pairs-append W (e ∷ E) F =
    pairs-append W E (F ++ reached_of W F e ∷ []) ∙ ap
    (λ (z : List SharedPair). z ++ map (key_pair W) (keys_of E)) (map-append pair_of F (reached_of W F e ∷ []))
    ∙ append_assoc (map pair_of F) (key_pair W e.0 ∷ []) (map (key_pair W) (keys_of E))

-- the pairs of keys are those of the list
pub pairs_of_keys : (W : List (List ℕ)) (E : List Entry) → map (key_pair W) (keys_of E) ≡ map pair_of (found_from W [] E)
pairs_of_keys W E = sym (pairs-append W E [])
