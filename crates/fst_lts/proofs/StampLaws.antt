-- Stamps rise, and stay below a bound.
use Rattle.std.proofs.Common.{◌≡◌, ℕ, suc, ◌+◌, ◌^◌, ◌<◌, ◌≤◌, List, [], ◌∷◌, ◌++◌, length, max, Some, ◌-◌, refl, sym, ap, ◌∙◌, arith}
use Rattle.std.specs.Prelude.{slice_get}
use Rattle.fst_lts.specs.Histories.{last_stamp}
use Rattle.fst_types.specs.declared.event.Entry.{Entry}
use Rattle.fst_lts.specs.Stamps.{AreStamped, next_stamp}

-- the stamp of the last entry, or this one
abbrev stamp_behind : ℕ → List Entry → ℕ
stamp_behind p [] = p
stamp_behind p (e ∷ h) = stamp_behind e.stamp h

last_behind : (p : ℕ) (e : Entry) (h : List Entry) → stamp_behind p (e ∷ h) ≡ last_stamp (e ∷ h)
last_behind p e [] = refl
last_behind p e (x ∷ h) = last_behind e.stamp x h

from_none : (h : List Entry) → stamp_behind 0 h ≡ last_stamp h
from_none [] = refl
from_none (e ∷ h) = last_behind 0 e h

push_behind : (p : ℕ) (h : List Entry) (e : Entry) → AreStamped p h → e.stamp ≡ 1 + max (max e.sent e.got) (stamp_behind p h) →
    e.sent < 2 ^ 63 → e.got < 2 ^ 63 → AreStamped p (h ++ e ∷ [])
push_behind p [] e s is a b = (is, a, b, tt)
push_behind p (x ∷ xs) e s is a b = (s.0, s.1, s.2, push_behind x.stamp xs e s.3 is a b)

-- one entry more
pub stamped_push : (h : List Entry) (e : Entry) → AreStamped 0 h → e.stamp ≡ next_stamp e.sent e.got h → e.sent < 2 ^ 63 →
    e.got < 2 ^ 63 → AreStamped 0 (h ++ e ∷ [])
stamped_push h e s is a b = push_behind 0 h e s (is ∙ ap (λ (k : ℕ). 1 + max (max e.sent e.got) k) (sym (from_none h))) a b

last_pushed : (p : ℕ) (h : List Entry) (e : Entry) → stamp_behind p (h ++ e ∷ []) ≡ e.stamp
last_pushed p [] e = refl
last_pushed p (x ∷ xs) e = last_pushed x.stamp xs e

pub last_stamp_push : (h : List Entry) (e : Entry) → last_stamp (h ++ e ∷ []) ≡ e.stamp
last_stamp_push h e = sym (from_none (h ++ e ∷ [])) ∙ last_pushed 0 h e

stamps_from : (k p : ℕ) (h : List Entry) → p ≤ 2 ^ 63 + k → AreStamped p h → stamp_behind p h ≤ 2 ^ 63 + k + length h
stamps_from k p [] b s = omega arith
stamps_from k p (x ∷ xs) b s = let next : x.stamp ≤ 2 ^ 63 + suc k = omega arith in let r =
    stamps_from (suc k) x.stamp xs next s.3 in omega arith

-- the clocks are below 2^63, so a stamp is at most that and the number of entries
pub stamps_below : (h : List Entry) → AreStamped 0 h → last_stamp h ≤ 2 ^ 63 + length h
stamps_below h s = let r = stamps_from 0 0 h (omega arith) s in let e = from_none h in omega arith

-- the stamp of the last entry
pub last_at : (h : List Entry) (e : Entry) → Some e ≡ slice_get h (length h - 1) → e.stamp ≡ last_stamp h
last_at [] e at = absurd (cc)
last_at (x ∷ []) e at = let same : e ≡ x = cc in ap (λ (y : Entry). y.stamp) same
last_at (x ∷ y ∷ ys) e at =
    let n : suc (suc (length ys)) - 1 ≡ suc (suc (length ys) - 1) = omega arith in
    last_at (y ∷ ys) e (at ∙ ap (λ (k : ℕ). slice_get (x ∷ y ∷ ys) k) n)

last_of : (p : ℕ) (h : List Entry) (e : Entry) → AreStamped p (h ++ e ∷ []) →
    e.stamp ≡ 1 + max (max e.sent e.got) (stamp_behind p h)
last_of p [] e s = s.0
last_of p (x ∷ xs) e s = last_of x.stamp xs e s.3

-- the last entry has the next stamp
pub stamped_last : (h : List Entry) (e : Entry) → AreStamped 0 (h ++ e ∷ []) → e.stamp ≡ next_stamp e.sent e.got h
stamped_last h e s = last_of 0 h e s ∙ ap (λ (k : ℕ). 1 + max (max e.sent e.got) k) (from_none h)
