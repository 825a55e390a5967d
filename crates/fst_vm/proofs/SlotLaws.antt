-- Variables that are kept with the innermost last.
use Rattle.std.proofs.Common.{◌≡◌, ◌∙◌, ℕ, zero, suc, ◌+◌, ◌-◌, ◌<◌, ◌≤◌, Bool, true, false, Option, Some, None, option_map, List, [], ◌∷◌, ◌++◌, length, get_or, set, take, drop, append_assoc, refl, sym, ap, arith, subst}
use Rattle.std.specs.Prelude.{reverse}
use Rattle.std.proofs.lemmas.Option.{none-some, same_Some}
use Rattle.std.proofs.lemmas.List.{reverse-append, length-reverse, length-append, get_or-reverse, get_or_default, get_or_past, take-append-drop, length-drop, take_at, drop_at, set_split, set_at, set-get_or, drop_more}
use Rattle.fst_value.specs.ValueTree.{ValueTree, none}
use Rattle.fst_machine.specs.Spots.{Slots, slot_at, emptied, filled, spread}
use Rattle.std.specs.declared.result.Result.TheVariants.{Ok}
use Rattle.fst_value.specs.Stacks.{Makes, moved_on}
use Rattle.fst_types.specs.declared.ends.EndName.{EndName}
use Rattle.fst_vm.specs.Moves.{ends_in_slot, ends_in_slots, taken_out, trees_of}

-- a list that is turned round, at one place
flip : {X : Type 0} (a b : List X) (x : X) → reverse (a ++ x ∷ b) ≡ reverse b ++ x ∷ reverse a
flip a b x =
    reverse-append a (x ∷ b)
    ∙ ap (λ r. r ++ reverse a) (reverse-append (x ∷ []) b)
    ∙ append_assoc (reverse b) (x ∷ []) (reverse a)

-- a write to it
pub set_turned : {X : Type 0} (xs : List X) (k n : ℕ) (x : X) → n ≡ length xs → k < n →
    reverse (set xs (n - 1 - k) x) ≡ set (reverse xs) k x
set_turned xs k n x l h =
    let i = n - 1 - k in
    let lt : i < length xs = omega (arith, h, l) in
    let d = get_or xs i x in
    let behind = reverse (drop (suc i) xs) in
    let long : length behind ≡ k = length-reverse (drop (suc i) xs) ∙ length-drop (suc i) xs ∙ omega (arith, h, l) in
    let whole : reverse xs ≡ behind ++ d ∷ reverse (take i xs) = ap reverse (sym (set-get_or xs i x) ∙ set_split xs i d lt)
    ∙ flip (take i xs) (drop (suc i) xs) d in
    ap reverse (set_split xs i x lt)
    ∙ flip (take i xs) (drop (suc i) xs) x
    ∙ sym (set_at behind d (reverse (take i xs)) x k long)
    ∙ ap (λ r. set r k x) (sym whole)

-- the value of a variable by its place
slot_read : (os : Slots) (k : ℕ) → slot_at os k ≡ get_or os k None
slot_read [] k = refl
slot_read (o ∷ os) zero = refl
slot_read (o ∷ os) (suc k) = slot_read os k

-- where the innermost stands last
pub slot_turned : (xs os : Slots) (k n : ℕ) (o : Option ValueTree) → reverse xs ≡ os → n ≡ length xs → k < n →
    o ≡ get_or xs (n - 1 - k) o → slot_at os k ≡ o
slot_turned xs os k n o v l h e =
    let lt : n - 1 - k < length xs = omega (arith, h, l) in
    ap (λ z. slot_at z k) (sym v)
    ∙ slot_read (reverse xs) k
    ∙ get_or-reverse xs k None (subst (λ (m : ℕ). k < m) l h)
    ∙ ap (λ (m : ℕ). get_or xs (m - 1 - k) None) (sym l)
    ∙ get_or_default xs (n - 1 - k) None o lt
    ∙ sym e

-- past all variables there is none
pub slot_none : (xs os : Slots) (k n : ℕ) → reverse xs ≡ os → n ≡ length xs → n ≤ k → slot_at os k ≡ None
slot_none xs os k n v l h = slot_read os k ∙ get_or_past os k None (omega (arith, h, l, ap length v, length-reverse xs))

-- a value that is moved out
emptied_set : (k : ℕ) (os : Slots) → emptied k os ≡ set os k None
emptied_set k [] = refl
emptied_set zero (o ∷ os) = refl
emptied_set (suc k) (o ∷ os) = ap (λ r. o ∷ r) (emptied_set k os)

-- without the last k
pub left_turned : {X : Type 0} (xs os : List X) (k n : ℕ) → reverse xs ≡ os → n ≡ length xs → k ≤ n →
    reverse (take (n - k) xs) ≡ drop k os
left_turned xs os k n v l h =
    let m = n - k in
    let long : length (reverse (drop m xs)) ≡ k = length-reverse (drop m xs) ∙ length-drop m xs ∙ omega (arith, h, l) in
    sym (ap (drop k) (sym v ∙ ap reverse (sym (take-append-drop m xs)) ∙ reverse-append (take m xs) (drop m xs))
    ∙ drop_at (reverse (drop m xs)) (reverse (take m xs)) k long)

-- a place for one more variable changes nothing
pub filled_wider : (k : ℕ) (v : ValueTree) (os : Slots) → length os ≤ k → filled k v (os ++ None ∷ []) ≡ filled k v os
filled_wider zero v [] h = refl
filled_wider zero v (o ∷ os) h = absurd (omega (arith, h))
filled_wider (suc k) v [] h = refl
filled_wider (suc k) v (o ∷ os) h = ap (λ r. o ∷ r) (filled_wider k v os (omega (arith, h)))

-- a value for a variable that has its place
pub filled_set : (k : ℕ) (v : ValueTree) (os : Slots) → k < length os → filled k v os ≡ set os k (Some v)
filled_set k v [] h = absurd (omega (arith, h))
filled_set zero v (o ∷ os) h = refl
filled_set (suc k) v (o ∷ os) h = ap (λ r. o ∷ r) (filled_set k v os (omega (arith, h)))

-- no values for variables
pub spread_none : (ks : List ℕ) → [] ≡ spread ks none
spread_none [] = refl
spread_none (k ∷ ks) = refl

-- values for which there is no variable change nothing
pub spread_few : (ks : List ℕ) (vs : List ValueTree) → spread ks (trees_of (take (length ks) vs)) ≡ spread ks (trees_of vs)
spread_few [] vs = refl
spread_few (k ∷ ks) [] = refl
spread_few (k ∷ ks) (v ∷ vs) = ap (filled k v) (spread_few ks vs)

-- the last of the first values is taken off
pub popped : {X : Type 0} (vs ps qs : List X) (v : X) → ps ≡ take (length ps) vs → ps ≡ qs ++ v ∷ [] →
    (qs ≡ take (length qs) vs) × (drop (length qs) vs ≡ v ∷ drop (length ps) vs)
popped vs ps qs v l e =
    let rest = drop (length ps) vs in
    let whole : vs ≡ qs ++ v ∷ rest = sym (take-append-drop (length ps) vs) ∙ ap (λ z. z ++ rest) (sym l ∙ e)
    ∙ append_assoc qs (v ∷ []) rest in (
      sym (take_at qs (v ∷ rest) (length qs) refl) ∙ ap (take (length qs)) (sym whole),
      ap (drop (length qs)) whole
          ∙ drop_at qs (v ∷ rest) (length qs) refl,
    )

-- a value for one more variable
pub spread_more : (ks : List ℕ) (vs ps qs : List ValueTree) (v : ValueTree) (k : ℕ) (old new : Slots) → length ps ≤ length ks →
    ps ≡ take (length ps) vs → ps ≡ qs ++ v ∷ [] →
    k ≡ get_or ks (length qs) 0 → old ≡ spread (drop (length ps) ks) (trees_of (drop (length ps) vs)) → new ≡ filled k v old →
    new ≡ spread (drop (length qs) ks) (trees_of (drop (length qs) vs))
spread_more ks vs ps qs v k old new h l e r o w =
    let more : length ps ≡ length qs + 1 = ap length e ∙ length-append qs (v ∷ []) in
    let lt : length qs < length ks = omega (arith, h, more) in
    let first : drop (length qs) ks ≡ k ∷ drop (length ps) ks = drop_more ks (length qs) 0 lt
    ∙ (λ i. sym r i ∷ drop (sym more i) ks) in
    let rest = popped vs ps qs v l e in
    w ∙ ap (filled k v) o ∙ (λ i. spread (sym first i) (trees_of (sym rest.1 i)))

-- a value that was moved out onto the stack is the variable's, which has none any more
moved_value : (xs os : Slots) (k n : ℕ) (o p : Option ValueTree) (ops new : List ValueTree) → reverse xs ≡ os → n ≡ length xs →
    k < n → o ≡ get_or xs (n - 1 - k) o →
    moved_on (o, ops) ≡ Some (p, new) → taken_out k (os, ops) ≡ Some (reverse (set xs (n - 1 - k) p), new)
moved_value xs os k n None p ops new v l h e m = absurd (none-some (p, new) m)
moved_value xs os k n (Some w) p ops new v l h e m =
    let both : ◌≡◌ {A = Option ValueTree × List ValueTree} (None, w ∷ ops) (p, new) = same_Some (None, w ∷ ops) (p, new) m in
    let gone : emptied k os ≡ reverse (set xs (n - 1 - k) p) =
    emptied_set k os ∙ ap (λ r. set r k None) (sym v) ∙ sym (set_turned xs k n None l h) ∙ ap
    (λ q. reverse (set xs (n - 1 - k) q.0)) both in
    ap (option_map (λ u. (emptied k os, u ∷ ops))) (slot_turned xs os k n (Some w) v l h e) ∙ (λ i. Some (gone i, (both i).1))

-- where there is none, nothing was moved
moved_none : (xs os : Slots) (k n : ℕ) (o p : Option ValueTree) (ops new : List ValueTree) → reverse xs ≡ os → n ≡ length xs →
    k < n → o ≡ get_or xs (n - 1 - k) o →
    (moved_on (o, ops) ≡ None) × (◌≡◌ {A = Option ValueTree × List ValueTree} (p, new) (o, ops)) →
    (taken_out k (os, ops) ≡ None) × (◌≡◌ {A = Slots × List ValueTree} (reverse (set xs (n - 1 - k) p), new) (os, ops))
moved_none xs os k n (Some w) p ops new v l h e m = absurd (none-some (None, w ∷ ops) (sym m.0))
moved_none xs os k n None p ops new v l h e m =
    let i = n - 1 - k in
    let same : reverse (set xs i p) ≡ os = ap (λ q. reverse (set xs i q.0)) m.1 ∙ ap (λ q. reverse (set xs i q)) e
    ∙ ap reverse (set-get_or xs i None) ∙ v in
    (ap (option_map (λ u. (emptied k os, u ∷ ops))) (slot_turned xs os k n None v l h e), λ j. (same j, (m.1 j).1))

-- so the variable's value is taken out if it is moved onto the stack
pub moved_out : (xs os : Slots) (k n : ℕ) (o p : Option ValueTree) (ops new : List ValueTree) (done : Bool) → reverse xs ≡ os →
    n ≡ length xs → k < n → o ≡ get_or xs (n - 1 - k) o →
    Makes moved_on (o, ops) (Ok done) (p, new) → Makes (taken_out k) (os, ops) (Ok done) (reverse (set xs (n - 1 - k) p), new)
moved_out xs os k n o p ops new true v l h e m = moved_value xs os k n o p ops new v l h e m
moved_out xs os k n o p ops new false v l h e m = moved_none xs os k n o p ops new v l h e m

-- the ends of one more variable
pub ends_more : (xs os : Slots) (n i : ℕ) (o : Option ValueTree) (ends new own : List EndName) → reverse xs ≡ os → n ≡ length xs →
    i < n → o ≡ get_or xs (n - 1 - i) o →
    own ≡ ends_in_slot o → new ≡ ends ++ own → ends ++ ends_in_slots (drop i os) ≡ ends_in_slots os →
    new ++ ends_in_slots (drop (i + 1) os) ≡ ends_in_slots os
ends_more xs os n i o ends new own v l h e w m k =
    let rest = ends_in_slots (drop (i + 1) os) in
    let lt : i < length os = omega (arith, h, l, ap length v, length-reverse xs) in
    let at : get_or os i None ≡ o = sym (slot_read os i) ∙ slot_turned xs os i n o v l h e in
    (λ j. (m ∙ ap (λ z. ends ++ z) w) j ++ rest)
    ∙ append_assoc ends (ends_in_slot o) rest
    ∙ ap (λ z. ends ++ ends_in_slots z) ((λ j. sym at j ∷ drop (i + 1) os) ∙ sym (drop_more os i None lt))
    ∙ k
