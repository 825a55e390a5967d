-- What stands at the place of the k-th variable.
use Rattle.std.proofs.Common.{◌≡◌, ◌∙◌, ℕ, suc, ◌+◌, ◌-◌, ◌<◌, Bool, true, false, List, [], ◌∷◌, ◌++◌, length, map, take, drop, get_or, set, sym, ap, arith, cond}
use Rattle.std.proofs.lemmas.List.{length-reverse, length-map, drop_all}
use mathlib.Core.List.{reverse}
use Rattle.fst_context.specs.Vars.{single}
use Rattle.fst_context.specs.declared.context.Entry.{Entry}
use Rattle.fst_context.specs.declared.context.Taken.TheVariants.{Here, Gone, Outside}
use Rattle.fst_context.specs.Scope.{Scope, is_once, at_or_not, linear_at, is_inside, mark, without, fewer, tail, left}
use Rattle.fst_context.specs.View.{scope_of, variable_of, taken_at}
use Rattle.fst_context.proofs.Backward.{turned, backward, backward_set, front_length, behind_length, linear_at-append, at_or_not-append, mark_none, single_none, mark-append}

pub lengths : (es : List Entry) (bs : List Bool) (ns : List ℕ) (s : Scope) → scope_of es bs ns ≡ s →
    length s.variables ≡ length es
lengths es bs ns s v = ap (λ z. length z.variables) (sym v) ∙ length-reverse (map variable_of es) ∙ length-map es variable_of

-- the place of the k-th variable from the end
pub at_place : (es : List Entry) (bs : List Bool) (ns : List ℕ) (s : Scope) (r k : ℕ) → scope_of es bs ns ≡ s →
    k < length s.variables → r ≡ length es → (r - 1 - k) + k + 1 ≡ length es
at_place es bs ns s r k v h p = omega (arith, lengths es bs ns s v, h, p)

pub linear_place : (es : List Entry) (bs : List Bool) (ns : List ℕ) (s : Scope) (r k : ℕ) (e : Entry) → scope_of es bs ns ≡ s →
    k < length s.variables → r ≡ length es →
    e ≡ get_or es (r - 1 - k) e → linear_at s.variables k ≡ is_once e.uses
linear_place es bs ns s r k e v h p q =
    let i : (r - 1 - k) + k + 1 ≡ length es = at_place es bs ns s r k v h p in
    let lt : r - 1 - k < length es = omega arith in
    ap (λ z. linear_at z.variables k) (sym v)
    ∙ ap (λ z. linear_at z k) (turned variable_of es (r - 1 - k) e lt)
    ∙ linear_at-append _ _ _ k (front_length variable_of es (r - 1 - k) k i)
    ∙ ap (λ x. is_once x.uses) (sym q)

-- the k-th mark from the end
pub mark_place : (bs : List Bool) (i k : ℕ) (b : Bool) → i + k + 1 ≡ length bs → at_or_not (reverse bs) k ≡ get_or bs i b
mark_place bs i k b h =
    let lt : i < length bs = omega (arith, h) in
    ap (λ z. at_or_not z k) (backward bs i b lt) ∙ at_or_not-append _ _ _ k (behind_length bs i k h)

pub there_place : (es : List Entry) (bs : List Bool) (ns : List ℕ) (s : Scope) (r k : ℕ) (b : Bool) → scope_of es bs ns ≡ s →
    length bs ≡ length es → k < length s.variables → r ≡ length es →
    b ≡ get_or bs (r - 1 - k) b → at_or_not s.there k ≡ b
there_place es bs ns s r k b v m h p q =
    ap (λ z. at_or_not z.there k) (sym v) ∙ mark_place bs (r - 1 - k) k b (at_place es bs ns s r k v h p ∙ sym m) ∙ sym q

pub taken_free : (s : Scope) (k : ℕ) → linear_at s.variables k ≡ false → Here ≡ taken_at s k
taken_free s k l = sym (ap (λ b. cond b (cond (at_or_not s.there k) (cond (is_inside s.bodies k) Here Outside) Gone) Here) l)

pub taken_free_after : (s : Scope) (k : ℕ) → linear_at s.variables k ≡ false → s ≡ without (single (linear_at s.variables k) k) s
taken_free_after s k l =
    sym ((λ i. record { names = s.names; variables = s.variables; there = mark (single (l i) k) s.there; bodies = s.bodies })
    ∙ (λ i. record { names = s.names; variables = s.variables; there = mark (single_none k i) s.there; bodies = s.bodies })
    ∙ (λ i. record { names = s.names; variables = s.variables; there = mark_none s.there i; bodies = s.bodies }))

pub taken_gone : (s : Scope) (k : ℕ) → linear_at s.variables k ≡ true → at_or_not s.there k ≡ false → Gone ≡ taken_at s k
taken_gone s k l t = sym (λ i. cond (l i) (cond (t i) (cond (is_inside s.bodies k) Here Outside) Gone) Here)

pub taken_outside : (s : Scope) (k : ℕ) → linear_at s.variables k ≡ true → at_or_not s.there k ≡ true →
    is_inside s.bodies k ≡ false → Outside ≡ taken_at s k
taken_outside s k l t n = sym (λ i. cond (l i) (cond (t i) (cond (n i) Here Outside) Gone) Here)

pub taken_here : (s : Scope) (k : ℕ) → linear_at s.variables k ≡ true → at_or_not s.there k ≡ true → is_inside s.bodies k ≡ true →
    Here ≡ taken_at s k
taken_here s k l t n = sym (λ i. cond (l i) (cond (t i) (cond (n i) Here Outside) Gone) Here)

-- the scope after the mark at the place was taken off
pub unmarked : (es : List Entry) (bs : List Bool) (ns : List ℕ) (s : Scope) (r k : ℕ) (b : Bool) → scope_of es bs ns ≡ s →
    length bs ≡ length es → k < length s.variables → r ≡ length es →
    b ≡ get_or bs (r - 1 - k) b → linear_at s.variables k ≡ true →
    scope_of es (set bs (r - 1 - k) false) ns ≡ without (single (linear_at s.variables k) k) s
unmarked es bs ns s r k b v m h p q l =
    let i : (r - 1 - k) + k + 1 ≡ length bs = at_place es bs ns s r k v h p ∙ sym m in
    let lt : r - 1 - k < length bs = omega (arith, i) in
    let there : reverse (set bs (r - 1 - k) false) ≡ mark (single true k) (reverse bs) =
    backward_set bs (r - 1 - k) false lt ∙ sym (mark-append _ _ (get_or bs (r - 1 - k) b) k (behind_length bs (r - 1 - k) k i))
    ∙ ap (mark (single true k)) (sym (backward bs (r - 1 - k) b lt)) in
    (λ j. record {
      names = reverse (map (λ e. e.name) es);
      variables = reverse (map variable_of es);
      there = there j;
      bodies =
          reverse ns;
    })
    ∙ ap (without (single true k)) v
    ∙ ap (λ c. without (single c k) s) (sym l)

last_of : {X Y : Type 0} (f : X → Y) (xs : List X) (n : ℕ) (d : X) → n + 1 ≡ length xs →
    reverse (map f xs) ≡ f (get_or xs n d) ∷ reverse (map f (take n xs))
last_of f xs n d h =
    let lt : n < length xs = omega arith in
    let rest : drop (suc n) xs ≡ [] = drop_all (suc n) xs (omega arith) in
    turned f xs n d lt ∙ (λ i. reverse (map f (rest i)) ++ f (get_or xs n d) ∷ reverse (map f (take n xs)))

pub last_mark : (bs : List Bool) (n : ℕ) (b : Bool) → n + 1 ≡ length bs → reverse bs ≡ get_or bs n b ∷ reverse (take n bs)
last_mark bs n b h =
    let rest : drop (suc n) bs ≡ [] = drop_all (suc n) bs (omega arith) in
    backward bs n b (omega arith) ∙ (λ i. reverse (rest i) ++ get_or bs n b ∷ reverse (take n bs))

pub one_left : (es : List Entry) (bs : List Bool) (ns ms : List ℕ) (s : Scope) (n : ℕ) → scope_of es bs ns ≡ s →
    n + 1 ≡ length es → length bs ≡ length es →
    reverse ms ≡ fewer (reverse ns) → scope_of (take n es) (take n bs) ms ≡ left s
one_left [] bs ns ms s n v h m q = absurd (omega (arith, h))
one_left (e ∷ es) bs ns ms s n v h m q =
    let names = sym (last_of (λ x. x.name) (e ∷ es) n e h) in
    let variables = sym (last_of variable_of (e ∷ es) n e h) in
    let there = sym (last_mark bs n false (h ∙ sym m)) in
    (λ i. record { names = tail (names i); variables = tail (variables i); there = tail (there i); bodies = q i }) ∙ ap left v
