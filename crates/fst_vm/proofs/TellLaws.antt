-- How code goes on after single answers.
use Rattle.std.proofs.Common.{◌≡◌, ◌∙◌, ◌<◌, ◌≤◌, ◌-◌, ℕ, zero, suc, Option, Some, None, option_map, option_and_then, List, [], ◌∷◌, ◌++◌, length, take, drop, slice_get, refl, sym, ap, arith, Bool}
use Rattle.std.specs.Prelude.{reverse}
use Rattle.std.proofs.lemmas.Option.{none-some, same_Some}
use Rattle.std.proofs.lemmas.List.{reverse-append}
use Rattle.fst_value.specs.ValueTree.{ValueTree, int, bool, char, unit, pair, make, function, end, ValueTrees, none, value}
use Rattle.fst_types.specs.declared.ends.EndName.{EndName}
use Rattle.fst_types.specs.declared.event.Event.{Event}
use Rattle.fst_types.specs.declared.event.Event.TheVariants.{Closed}
use Rattle.fst_value.specs.Stacks.{applied}
use Rattle.fst_value.specs.Parts.{listed}
use Rattle.fst_machine.specs.declared.code.Instr.{Instr}
use Rattle.fst_machine.specs.declared.code.Instr.TheVariants as instr
use Rattle.fst_machine.specs.declared.entry.LambdaEntry.{LambdaEntry}
use Rattle.fst_machine.specs.declared.request.Answer.TheVariants.{Go, Forked, Sent, Got}
use Rattle.fst_machine.specs.Code.{Compiled}
use Rattle.fst_machine.specs.Values.{Value, received}
use Rattle.fst_machine.specs.Spots.{begins_at, Slots, Call, Spot, leads_back, around, called, captured_by, start_of, captured_count, collected, child_at, forked_spot, forks_at, moved_to, of_scalar, on_instr, spread, told, without_captured}
use Rattle.fst_vm.specs.Moves.{end_on, entry_below, entry_of, forked_entry, given_for, trees_of}

-- these values in front of others
before : List ValueTree → ValueTrees → ValueTrees
before [] vs = vs
before (u ∷ us) vs = value u (before us vs)

before_last : (us : List ValueTree) (v : ValueTree) (vs : ValueTrees) → before (us ++ v ∷ []) vs ≡ before us (value v vs)
unfolding before
before_last [] v vs = refl
before_last (u ∷ us) v vs = ap (value u) (before_last us v vs)

before_none : (us : List ValueTree) → before us none ≡ trees_of us
unfolding before
before_none [] = refl
before_none (u ∷ us) = ap (value u) (before_none us)

collected_before : (n : ℕ) (ops : List ValueTree) (vs : ValueTrees) → n ≤ length ops →
    collected n ops vs ≡ Some (before (reverse (take n ops)) vs, drop n ops)
unfolding before
collected_before zero ops vs h = refl
collected_before (suc n) [] vs h = absurd (omega (arith, h))
collected_before (suc n) (v ∷ ops) vs h =
    collected_before n ops (value v vs) (omega (arith, h))
    ∙ ap (λ us. Some (us, drop n ops)) (sym (before_last (reverse (take n ops)) v vs) ∙ ap
    (λ us. before us vs) (sym (reverse-append (v ∷ []) (take n ops))))

-- the last n values, where there are so many
pub collected_many : (n : ℕ) (ops : List ValueTree) → n ≤ length ops →
    collected n ops none ≡ Some (trees_of (reverse (take n ops)), drop n ops)
collected_many n ops h = collected_before n ops none h ∙ ap (λ vs. Some (vs, drop n ops)) (before_none (reverse (take n ops)))

-- where there are fewer
pub collected_few : (n : ℕ) (ops : List ValueTree) (vs : ValueTrees) → length ops < n → collected n ops vs ≡ None
collected_few zero ops vs h = absurd (omega (arith, h))
collected_few (suc n) [] vs h = refl
collected_few (suc n) (v ∷ ops) vs h = collected_few n ops (value v vs) (omega (arith, h))

-- a value of so many that aren't there
pub given_few : (j n : ℕ) (v : ValueTree) (s : Spot) → length s.operands < n → given_for j n v s ≡ None
given_few j n v s h = ap (option_map (λ p. moved_to j (v ∷ p.1) s)) (collected_few n s.operands none h)

-- a value of the last n ones
pub given_many : (j n : ℕ) (v : ValueTree) (s t : Spot) (new : List ValueTree) → s ≡ t → n ≤ length s.operands →
    new ≡ v ∷ drop n s.operands → given_for j n v t ≡ Some (moved_to j new s)
given_many j n v s t new e h w =
    ap (given_for j n v) (sym e) ∙ ap (option_map (λ p. moved_to j (v ∷ p.1) s)) (collected_many n s.operands h) ∙ ap
    (λ ops. Some (moved_to j ops s)) (sym w)

-- one more of the first values
one_more : (k n : ℕ) (ops : List ValueTree) (v : ValueTree) → k < n → Some v ≡ slice_get ops k →
    drop k (take n ops) ≡ v ∷ drop (suc k) (take n ops)
one_more k zero ops v h e = absurd (omega (arith, h))
one_more zero (suc n) [] v h e = absurd (none-some v (sym e))
one_more (suc k) (suc n) [] v h e = absurd (none-some v (sym e))
one_more zero (suc n) (x ∷ ops) v h e = ap (λ z. z ∷ take n ops) (sym (same_Some v x e))
one_more (suc k) (suc n) (x ∷ ops) v h e = one_more k n ops v (omega (arith, h)) e

-- where there is none
none_more : (k n : ℕ) (ops : List ValueTree) → None ≡ slice_get ops k → drop k (take n ops) ≡ drop (suc k) (take n ops)
none_more zero zero ops e = refl
none_more (suc k) zero ops e = refl
none_more zero (suc n) [] e = refl
none_more (suc k) (suc n) [] e = refl
none_more zero (suc n) (x ∷ ops) e = absurd (none-some x e)
none_more (suc k) (suc n) (x ∷ ops) e = none_more k n ops e

-- a copy of one more of the last values
pub copied_more : (i n : ℕ) (ops old new : List ValueTree) (v w : ValueTree) → 0 < i → i ≤ n → Some v ≡ slice_get ops (i - 1) →
    w ≡ v → old ≡ reverse (drop i (take n ops)) → new ≡ old ++ w ∷ [] →
    new ≡ reverse (drop (i - 1) (take n ops))
copied_more i n ops old new v w h l e s o m =
    let k : suc (i - 1) ≡ i = omega (arith, h) in
    let rest = drop i (take n ops) in
    let whole : drop (i - 1) (take n ops) ≡ v ∷ rest = one_more (i - 1) n ops v (omega (arith, h, l)) e ∙ ap
    (λ (j : ℕ). v ∷ drop j (take n ops)) k in
    m ∙ (λ j. o j ++ s j ∷ []) ∙ sym (reverse-append (v ∷ []) rest) ∙ ap reverse (sym whole)

-- where there is none
pub copied_none : (i n : ℕ) (ops old : List ValueTree) → 0 < i → None ≡ slice_get ops (i - 1) →
    old ≡ reverse (drop i (take n ops)) → old ≡ reverse (drop (i - 1) (take n ops))
copied_none i n ops old h e o =
    let k : suc (i - 1) ≡ i = omega (arith, h) in
    o ∙ ap (λ (j : ℕ). reverse (drop j (take n ops))) (sym k) ∙ ap reverse (sym (none_more (i - 1) n ops e))

-- the task that an instruction makes, by its entry
by_entry : (c : Compiled) (a : Instr) (ops : List ValueTree) →
    forks_at c a ops ≡ forked_spot (entry_of c a) (collected (captured_count (entry_of c a)) ops none)
by_entry c (instr.Fork l) ops = refl
by_entry c a ops = refl

pub child_by_entry : (c : Compiled) (s : Spot) →
    child_at c s ≡ forked_spot (forked_entry c s.place) (collected (captured_count (forked_entry c s.place)) s.operands none)
child_by_entry c s = go s.place
  where
    at : (o : Option Instr) → option_and_then (λ a. forks_at c a s.operands) o ≡
        forked_spot (option_and_then (entry_of c) o) (collected (captured_count (option_and_then (entry_of c) o)) s.operands none)
    at None = refl
    at (Some a) = by_entry c a s.operands

    go : (p : ℕ) → on_instr c p (λ a j. forks_at c a s.operands) ≡ forked_spot (forked_entry c p)
        (collected (captured_count (forked_entry c p)) s.operands none)
    go zero = refl
    go (suc j) = at (slice_get c.code j)

-- the values of a function in a list are its own
trees_listed : (vs : ValueTrees) → trees_of (listed vs) ≡ vs
trees_listed none = refl
trees_listed (value v vs) = ap (value v) (trees_listed vs)

abbrev pub at_spot : ℕ → Slots → List ValueTree → List Call → Spot
at_spot p os ops calls = record { place = p; slots = os; operands = ops; calls = reverse calls }

-- where a function's code starts with its own variables
pub function_called : (c : Compiled) (p j : ℕ) (b : Bool) (os slots : Slots) (ops new : List ValueTree) (calls after : List Call)
    (s : Spot) (e : LambdaEntry) (vs : List ValueTree) →
    at_spot p os ops calls ≡ s → Some e ≡ entry_below c ops → applied ops ≡ Some (vs, new) →
    slots ≡ spread e.captured.items (trees_of vs) → b ≡ leads_back j c j →
    reverse after ≡ around b (record { place = j; slots = os }) (reverse calls) →
    told c instr.Call j s s.operands Go ≡ Some (at_spot e.start slots new after)
function_called c p j b os slots (w ∷ function n us ∷ ops) new calls after s e vs v h a o l k =
    let begun = at_spot p os (w ∷ function n us ∷ ops) calls in
    let starts : Slots → List ValueTree → List Call → Option Spot =
    λ a b d. Some (record { place = e.start; slots = a; operands = b; calls = d }) in
    let both = same_Some (listed us, w ∷ ops) (vs, new) a in
    let captured : spread e.captured.items us ≡ slots =
    sym (o ∙ ap (λ q. spread e.captured.items (trees_of q.0)) (sym both) ∙ ap (spread e.captured.items) (trees_listed us)) in
    let inside = sym (k ∙ ap (λ q. around q (record { place = j; slots = os }) (reverse calls)) l) in
    ap (λ q. told c instr.Call j q q.operands Go) (sym v)
    ∙ ap (λ q. called c (start_of q) (spread (captured_by q) us) j (w ∷ ops) begun) (sym h)
    ∙ (λ i. starts (captured i) (both i).1 (inside i))
function_called c p j b os slots ops new calls after s e vs v h a o l k = absurd (none-some (vs, new) a)

-- where a global's code starts, without variables
pub global_called : (c : Compiled) (g p j i : ℕ) (b : Bool) (os slots : Slots) (ops : List ValueTree) (calls after : List Call)
    (s : Spot) →
    at_spot p os ops calls ≡ s → Some i ≡ slice_get c.globals g → slots ≡ [] → b ≡ leads_back j c j →
    reverse after ≡ around b (record { place = j; slots = os }) (reverse calls) →
    told c (instr.Global g) j s s.operands Go ≡ Some (at_spot i slots ops after)
global_called c g p j i b os slots ops calls after s w h o l k =
    let inside = sym (k ∙ ap (λ q. around q (record { place = j; slots = os }) (reverse calls)) l) in
    ap (λ q. told c (instr.Global g) j q q.operands Go) (sym w)
    ∙ ap (λ q. called c q [] j ops (at_spot p os ops calls)) (sym h)
    ∙ (λ m. Some (record { place = i; slots = sym o m; operands = ops; calls = inside m }))

-- where there is no such function
pub no_function : (c : Compiled) (j : ℕ) (s : Spot) (ops : List ValueTree) → None ≡ entry_below c ops →
    told c instr.Call j s ops Go ≡ None
no_function c j s [] h = refl
no_function c j s (u ∷ []) h = refl
no_function c j s (u ∷ int n ∷ ops) h = refl
no_function c j s (u ∷ bool b ∷ ops) h = refl
no_function c j s (u ∷ char n ∷ ops) h = refl
no_function c j s (u ∷ unit ∷ ops) h = refl
no_function c j s (u ∷ pair a b ∷ ops) h = refl
no_function c j s (u ∷ make n m us ∷ ops) h = refl
no_function c j s (u ∷ end x ∷ ops) h = refl
no_function c j s (u ∷ function n us ∷ ops) h = ap (λ q. called c (start_of q) (spread (captured_by q) us) j (u ∷ ops) s) (sym h)

put_received : (r : Option Value) (j : ℕ) (s : Spot) (ops : List ValueTree) (x : EndName) (u e both : ValueTree) → e ≡ end x →
    Some u ≡ option_map of_scalar r → both ≡ pair u e →
    option_map (λ v. moved_to j (pair (of_scalar v) (end x) ∷ ops) s) r ≡ Some (moved_to j (both ∷ ops) s)
put_received None j s ops x u e both a h w = absurd (none-some u (sym h))
put_received (Some v) j s ops x u e both a h w =
    let is : both ≡ pair (of_scalar v) (end x) = w ∙ (λ i. pair (same_Some u (of_scalar v) h i) (a i)) in
    ap (λ q. Some (moved_to j (q ∷ ops) s)) (sym is)

-- what was received goes into a pair with the end, in place of it
pub received_given : (c : Compiled) (j : ℕ) (s : Spot) (ops : List ValueTree) (ev : Event) (u e both : ValueTree) →
    Some e ≡ option_map end (end_on ops) → Some u ≡ option_map of_scalar (received ev) → both ≡ pair u e →
    told c instr.Receive j s ops (Got ev) ≡ option_map (λ p. moved_to j (both ∷ p.1) s) (collected 1 ops none)
received_given c j s (end x ∷ ops) ev u e both a h w =
    put_received (received ev) j s ops x u e both (same_Some e (end x) a) h w
received_given c j s ops ev u e both a h w = absurd (none-some e (sym a))

-- a closing that was waited for leaves what a closing leaves
pub awaited_as_closed : (c : Compiled) (j : ℕ) (s : Spot) (ops : List ValueTree) →
    told c instr.Wait j s ops (Got Closed) ≡ told c instr.Close j s ops Sent
awaited_as_closed c j s (end x ∷ ops) = refl
awaited_as_closed c j s ops = refl

-- where no task is made
pub no_child : (c : Compiled) (s t : Spot) → s ≡ t → None ≡ forked_entry c s.place → None ≡ child_at c t
no_child c s t e h = sym (ap (child_at c) (sym e) ∙ child_by_entry c s ∙ ap
    (λ o. forked_spot o (collected (captured_count o) s.operands none)) (sym h))

-- where the values that it captures aren't there
pub few_captured : (c : Compiled) (s t : Spot) (e : LambdaEntry) → s ≡ t → Some e ≡ forked_entry c s.place →
    length s.operands < length e.captured.items → None ≡ child_at c t
few_captured c s t e v h l =
    sym (ap (child_at c) (sym v) ∙ child_by_entry c s ∙ ap
    (λ o. forked_spot o (collected (captured_count o) s.operands none)) (sym h)
    ∙ ap (forked_spot (Some e)) (collected_few (length e.captured.items) s.operands none l))

-- where it begins
pub child_begins : (c : Compiled) (s t u : Spot) (e : LambdaEntry) (values : List ValueTree) (slots : Slots) → s ≡ t →
    Some e ≡ forked_entry c s.place → length e.captured.items ≤ length s.operands →
    values ≡ reverse (take (length e.captured.items) s.operands) → slots ≡ spread e.captured.items (trees_of values) →
    u ≡ begins_at e.start slots → Some u ≡ child_at c t
child_begins c s t u e values slots v h l w o b =
    sym (ap (child_at c) (sym v) ∙ child_by_entry c s ∙ ap
    (λ q. forked_spot q (collected (captured_count q) s.operands none)) (sym h)
    ∙ ap (forked_spot (Some e)) (collected_many (length e.captured.items) s.operands l)
    ∙ ap (λ q. Some (begins_at e.start (spread e.captured.items (trees_of q)))) (sym w)
    ∙ ap (λ q. Some (begins_at e.start q)) (sym o)
    ∙ ap Some (sym b))

-- an instruction that makes no task has no entry of one
pub no_entry : (c : Compiled) (a : Instr) → ((l : ℕ) → a ≡ instr.Fork l → ⊥) → entry_of c a ≡ None
no_entry c (instr.Fork l) h = absurd (h l refl)
no_entry c a h = refl

-- the forking task goes on without the values that the other captures
without_given : (j : ℕ) (o : Option (ValueTrees × List ValueTree)) (s : Spot) → without_captured j o s ≡ option_map
    (λ p. moved_to j (unit ∷ p.1) s) o
without_given j None s = refl
without_given j (Some p) s = refl

pub fork_given : (c : Compiled) (l j n : ℕ) (v : ValueTree) (s : Spot) → n ≡ captured_count (slice_get c.lambdas l) → v ≡ unit →
    told c (instr.Fork l) j s s.operands Forked ≡ given_for j n v s
fork_given c l j n v s e u =
    without_given j (collected (captured_count (slice_get c.lambdas l)) s.operands none) s
    ∙ (λ i. given_for j (sym e i) (sym u i) s)
