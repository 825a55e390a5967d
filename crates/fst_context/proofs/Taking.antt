-- Taking sets of variables out of a scope, one after the other, and which sets can be taken.
use Rattle.std.proofs.Common.{◌≡◌, ◌∙◌, ℕ, zero, suc, ◌-◌, Bool, true, false, ◌&&◌, ◌||◌, subst, not, List, [], ◌∷◌, refl, sym, ap, arith, nat_lt}
use Rattle.fst_context.specs.Vars.{Vars, no_vars, under, outside, union, IsSplit, Both}
use Rattle.fst_context.specs.Scope.{Scope, Variable, is_once, at_or_not, is_inside, mark, more, fewer, joined, entered, left, begun, ended, open_in, without, IsWithin, Takes}
use Rattle.fst_context.proofs.Backward.{mark_none}

mark_bit : (b u v : Bool) → ((b && not u) && not v) ≡ (b && not (u || v))
mark_bit false u v = refl
mark_bit true false v = refl
mark_bit true true v = refl

pub mark_twice : (u v : Vars) (bs : List Bool) → mark v (mark u bs) ≡ mark (union u v) bs
mark_twice u v [] = refl
mark_twice u v (b ∷ bs) = λ i. mark_bit b (u 0) (v 0) i ∷ mark_twice (outside u) (outside v) bs i

pub at-mark : (u : Vars) (bs : List Bool) (k : ℕ) → at_or_not (mark u bs) k ≡ (at_or_not bs k && not (u k))
at-mark u [] k = refl
at-mark u (b ∷ bs) zero = refl
at-mark u (b ∷ bs) (suc k) = at-mark (outside u) bs k

-- one set after another is both together
pub without_twice : (u v : Vars) (s : Scope) → without v (without u s) ≡ without (union u v) s
without_twice u v s = λ i. record {
  names = s.names;
  variables = s.variables;
  there = mark_twice u v s.there i;
  bodies =
      s.bodies;
}

in_left : (a b : Bool) → a ≡ true → (a || b) ≡ true
in_left true b h = refl
in_left false b h = absurd (cc h)

in_right : (a b : Bool) → b ≡ true → (a || b) ≡ true
in_right true b h = refl
in_right false b h = h

apart_open : (a i u v : Bool) → (u && v) ≡ false → v ≡ true → (a && i) ≡ true → ((a && not u) && i) ≡ true
apart_open a i true true s h o = absurd (cc s)
apart_open a i true false s h o = absurd (cc h)
apart_open false i false v s h o = absurd (cc o)
apart_open true i false v s h o = o

-- where a set that is split can be taken, its first part can
pub within_left : (s : Scope) (u v w : Vars) → IsSplit u v w → IsWithin u s → IsWithin v s
within_left s u v w p i k h = i k (ap (λ z. z k) p.together ∙ in_left (v k) (w k) h)

-- and then the second one
pub within_right : (s : Scope) (u v w : Vars) → IsSplit u v w → IsWithin u s → IsWithin w (without v s)
within_right s u v w p i k h =
    ap (λ b. b && is_inside s.bodies k) (at-mark v s.there k)
    ∙ apart_open (at_or_not s.there k) (is_inside s.bodies k) (v k) (w k) (p.apart k) h
    (i k (ap (λ z. z k) p.together ∙ in_right (v k) (w k) h))

-- what is open after a set was taken was open before, and isn't in the set
still_open : (a n i : Bool) → ((a && not n) && i) ≡ true → ((a && i) ≡ true) × (n ≡ false)
still_open false n i h = absurd (cc h)
still_open true true i h = absurd (cc h)
still_open true false i h = (h, refl)

pub open_after : (u : Vars) (s : Scope) (k : ℕ) → open_in (without u s) k ≡ true → (open_in s k ≡ true) × (u k ≡ false)
open_after u s k h =
    let at : at_or_not (mark u s.there) k ≡ (at_or_not s.there k && not (u k)) = at-mark u s.there k in
    still_open (at_or_not s.there k) (u k) (is_inside s.bodies k) (ap (λ b. b && is_inside s.bodies k) (sym at) ∙ h)

either : (a b : Bool) (C : Type 0) → (a || b) ≡ true → (a ≡ true → C) → (b ≡ true → C) → C
either true b C h f g = f refl
either false b C h f g = g h

apart_bit : (a b : Bool) → (b ≡ true → a ≡ false) → (a && b) ≡ false
apart_bit false b f = refl
apart_bit true false f = refl
apart_bit true true f = f refl

-- two takings after one another are one, in which the set is split
pub takes_both : (P Q : Vars → Type 0) (r s t : Scope) → Takes P r s → Takes Q s t → Takes (Both P Q) r t
takes_both P Q r s t x y =
    let within' : IsWithin y.used (without x.used r) = λ k h. ap (λ z. open_in z k) (sym x.rest) ∙ y.within k h in
    record {
      used = union x.used y.used;
      fact = record {
        left = x.used;
        right = y.used;
        split = record {
          together = refl;
          apart = λ k. apart_bit (x.used k) (y.used k)
              (λ h. (open_after x.used r k (within' k h)).1);
        };
        first = x.fact;
        second = y.fact;
      };
      within = λ k h. either (x.used k) (y.used k) (open_in r k ≡ true) h (x.within k)
          (λ g. (open_after x.used r k (within' k g)).0);
      rest = y.rest ∙ ap (without y.used) x.rest ∙ without_twice x.used y.used r;
    }

-- nothing was taken
pub takes_none : (P : Vars → Type 0) (s : Scope) → P no_vars → Takes P s s
takes_none P s p = record {
  used = no_vars;
  fact = p;
  within = λ k h. absurd (cc h);
  rest = λ i. record { names = s.names; variables = s.variables; there = sym (mark_none s.there) i; bodies = s.bodies };
}

pub takes_as : (P Q : Vars → Type 0) (r s : Scope) → ((u : Vars) → P u → Q u) → Takes P r s → Takes Q r s
takes_as P Q r s f x = record { used = x.used; fact = f x.used x.fact; within = x.within; rest = x.rest }

-- a set is its innermost variable and the others
pub by_parts : (u : Vars) → u ≡ under (u zero) (outside u)
by_parts u = λ i j. at j i
  where
    at : (j : ℕ) → u j ≡ under (u zero) (outside u) j
    at zero = refl
    at (suc j) = refl

lt_suc : (k n : ℕ) → nat_lt (suc k) (suc n) ≡ nat_lt k n
lt_suc k n = grind arith

lt_zero : (k : ℕ) → nat_lt k 0 ≡ false
lt_zero k = grind arith

more_inside : (ns : List ℕ) (k : ℕ) → is_inside (more ns) (suc k) ≡ is_inside ns k
more_inside [] k = refl
more_inside (n ∷ ns) k = lt_suc k n

fewer_more : (ns : List ℕ) → fewer (more ns) ≡ ns
fewer_more [] = refl
fewer_more (n ∷ ns) = refl

first_inside : (ns : List ℕ) → is_inside (more ns) 0 ≡ true
first_inside [] = refl
first_inside (n ∷ ns) = grind arith

both_true : (a b : Bool) → a ≡ true → b ≡ true → (a && b) ≡ true
both_true true b h g = g
both_true false b h g = absurd (cc h)

-- inside a variable, that one can be taken too, where it is linear
pub within_entered : (x : List ℕ) (v : Variable) (s : Scope) (u : Vars) → IsWithin u s →
    IsWithin (under (is_once v.uses) u) (entered x v s)
within_entered x v s u w zero h = both_true (is_once v.uses) (is_inside (more s.bodies) 0) h (first_inside s.bodies)
within_entered x v s u w (suc k) h = ap (λ b. at_or_not s.there k && b) (more_inside s.bodies k) ∙ w k h

-- then the scope is left as one from which the set was taken outside
pub left_entered : (x : List ℕ) (v : Variable) (s : Scope) (u : Vars) →
    left (without (under (is_once v.uses) u) (entered x v s)) ≡ without u s
left_entered x v s u = λ i. record {
  names = s.names;
  variables = s.variables;
  there = mark u s.there;
  bodies =
      fewer_more s.bodies i;
}

-- a linear variable that isn't there at the end was taken, and no other variable is
innermost : (a u : Bool) (t : Bool) → (u ≡ true → (a && t) ≡ true) → (a && not u) ≡ false → u ≡ a
innermost false false t f h = refl
innermost false true t f h = sym (f refl)
innermost true false t f h = sym h
innermost true true t f h = refl

-- what was taken inside a binder that is used at its end
pub takes_inside : (P : Vars → Type 0) (n : List ℕ) (v : Variable) (r s : Scope) → Takes P (entered n v r) s →
    at_or_not s.there 0 ≡ false →
    Takes (λ u. P (under (is_once v.uses) u)) r (left s)
takes_inside P n v r s x h =
    let gone : (is_once v.uses && not (x.used 0)) ≡ false = ap (λ z. at_or_not z.there 0) (sym x.rest) ∙ h in
    let is : x.used zero ≡ is_once v.uses = innermost (is_once v.uses) (x.used 0) (is_inside (more r.bodies) 0)
    (x.within 0) gone in
    record {
      used = outside x.used;
      fact = subst P (by_parts x.used ∙ ap (λ b. under b (outside x.used)) is) x.fact;
      within = λ k g. ap (λ b. at_or_not r.there k && b) (sym (more_inside r.bodies k)) ∙ x.within (suc k) g;
      rest = ap left x.rest ∙ (λ i. record {
        names = r.names;
        variables = r.variables;
        there = mark (outside x.used) r.there;
        bodies = fewer_more r.bodies i;
      });
    }

-- what was taken in the body of an unrestricted function, whose binder is the one thing that it holds
joined_zero : (ns : List ℕ) → joined (zero ∷ ns) ≡ ns
joined_zero [] = refl
joined_zero (n ∷ ns) = ap (λ m. m ∷ ns) (omega arith)

-- a body is ended as a scope from which the set was taken outside
pub ended_begun : (s : Scope) (u : Vars) → ended (without u (begun s)) ≡ without u s
ended_begun s u = λ i. record {
  names = s.names;
  variables = s.variables;
  there = mark u s.there;
  bodies =
      joined_zero s.bodies i;
}

none_open : (b : Bool) → (b && false) ≡ true → ⊥
none_open false h = cc h
none_open true h = cc h

nothing_used : (u : Bool) → (u ≡ true → ⊥) → u ≡ false
nothing_used false f = refl
nothing_used true f = absurd (f refl)

pub takes_body : (P : Vars → Type 0) (r s : Scope) → Takes P (begun r) s → Takes (λ u. (u ≡ no_vars) × P u) r (ended s)
takes_body P r s x =
    let none : x.used ≡ no_vars = λ i k. nothing_used (x.used k)
    (λ h. none_open (at_or_not r.there k) (ap (λ b. at_or_not r.there k && b) (sym (lt_zero k)) ∙ x.within k h)) i in
    record {
      used = no_vars;
      fact = (refl, subst P none x.fact);
      within = λ k h. absurd (cc h);
      rest = ap ended x.rest ∙ (λ i. record {
        names = r.names;
        variables = r.variables;
        there = mark (none i) r.there;
        bodies =
            joined_zero r.bodies i;
      });
    }

-- two sets of open variables that leave the same marks are the same
same_bit : (a i u v : Bool) → (u ≡ true → (a && i) ≡ true) → (v ≡ true → (a && i) ≡ true) → (a && not u) ≡ (a && not v) → u ≡ v
same_bit a i true true f g e = refl
same_bit a i false false f g e = refl
same_bit true i true false f g e = absurd (cc e)
same_bit true i false true f g e = absurd (cc e)
same_bit false i true false f g e = absurd (cc (f refl))
same_bit false i false true f g e = absurd (cc (g refl))

pub same_used : (u v : Vars) (r : Scope) → IsWithin u r → IsWithin v r → without u r ≡ without v r → u ≡ v
same_used u v r f g e = λ i k. same_bit (at_or_not r.there k) (is_inside r.bodies k) (u k) (v k) (f k) (g k)
    (sym (at-mark u r.there k) ∙ ap (λ (z : Scope). at_or_not z.there k) e ∙ at-mark v r.there k) i

-- two takings between the same scopes are of the same set
pub takes_same : (P Q : Vars → Type 0) (r s : Scope) → Takes P r s → Takes Q r s → Takes (λ u. P u × Q u) r s
takes_same P Q r s x y =
    let same : y.used ≡ x.used = same_used y.used x.used r y.within x.within (sym y.rest ∙ x.rest) in
    record { used = x.used; fact = (x.fact, subst Q same y.fact); within = x.within; rest = x.rest }
