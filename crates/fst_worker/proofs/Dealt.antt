-- Tasks that are dealt out and taken in again are the same, in another order.
use Rattle.std.proofs.Common.{◌≡◌, ◌∙◌, ◌<◌, ℕ, zero, suc, List, [], ◌∷◌, ◌++◌, length, get_or, set, refl, sym, ap, subst, arith}
use Rattle.std.specs.Prelude.{All, IsPermutation}
use Rattle.std.proofs.lemmas.List.{append_assoc, append-nil}
use Rattle.std.proofs.lemmas.List.Elements.{All-cons, All-head, All-tail, All-weaker}
use Rattle.std.proofs.lemmas.List.Sorted.{IsPermutation-refl, IsPermutation-trans, IsPermutation-append_left, IsPermutation-append_right, IsPermutation-append_comm}
use Rattle.fst_safety.specs.declared.tasks.TypedTask.{TypedTask}
use Rattle.fst_worker.specs.declared.shares.Share.{Share}
use Rattle.fst_worker.specs.Shares.{all_of, all_tasks}
use Rattle.fst_worker.specs.Dealing.{IsEmpty, IsFresh}

-- ---- lists in another order

module _ {X : Type 0} where
  -- the middle comes first
  pub turned : (a b c d : List X) → IsPermutation ((a ++ b) ++ (c ++ d)) ((c ++ a) ++ (d ++ b))
  turned a b c d =
      let one : IsPermutation (a ++ (b ++ (c ++ d))) (a ++ ((c ++ d) ++ b)) =
      IsPermutation-append_right a (b ++ (c ++ d)) ((c ++ d) ++ b) (IsPermutation-append_comm b (c ++ d)) in
      let two : IsPermutation ((a ++ c) ++ (d ++ b)) ((c ++ a) ++ (d ++ b)) =
      IsPermutation-append_left (d ++ b) (a ++ c) (c ++ a) (IsPermutation-append_comm a c) in
      let same : a ++ ((c ++ d) ++ b) ≡ (a ++ c) ++ (d ++ b) = ap (λ l. a ++ l) (append_assoc c d b)
      ∙ sym (append_assoc a c (d ++ b)) in
      IsPermutation-trans ((a ++ b) ++ (c ++ d)) (a ++ ((c ++ d) ++ b)) ((c ++ a) ++ (d ++ b))
      (subst (λ l. IsPermutation l (a ++ ((c ++ d) ++ b))) (sym (append_assoc a b (c ++ d))) one)
      (subst (λ l. IsPermutation l ((c ++ a) ++ (d ++ b))) (sym same) two)

  -- what stands before two lists goes between them
  pub between : (a b c : List X) → IsPermutation ((a ++ b) ++ c) (b ++ (a ++ c))
  between a b c = subst (λ l. IsPermutation ((a ++ b) ++ c) l) (append_assoc b a c)
      (IsPermutation-append_left c (a ++ b) (b ++ a) (IsPermutation-append_comm a b))

-- ---- tasks that are taken in

-- the tasks of a share are taken in
pub taken_in : (s : Share) (tasks ended : List TypedTask) →
    IsPermutation (all_of s ++ (tasks ++ ended)) (((tasks ++ s.tasks.items) ++ s.forked.items) ++ (ended ++ s.ended.items))
taken_in s tasks ended =
    let own = s.tasks.items ++ s.forked.items in
    let before : all_of s ≡ own ++ s.ended.items = sym (append_assoc s.tasks.items s.forked.items s.ended.items) in
    subst (λ l. IsPermutation (l ++ (tasks ++ ended)) (((tasks ++ s.tasks.items) ++ s.forked.items) ++ (ended ++ s.ended.items)))
    (sym before)
    (subst (λ l. IsPermutation ((own ++ s.ended.items) ++ (tasks ++ ended)) (l ++ (ended ++ s.ended.items)))
    (sym (append_assoc tasks s.tasks.items s.forked.items))
    (turned own s.ended.items tasks ended))

-- one share more
pub one_more : (s : Share) (ss : List Share) (all tasks ended now over : List TypedTask) →
    IsPermutation all (all_tasks (s ∷ ss) ++ (tasks ++ ended)) →
    IsPermutation (all_of s ++ (tasks ++ ended)) (now ++ over) → IsPermutation all (all_tasks ss ++ (now ++ over))
one_more s ss all tasks ended now over p q =
    IsPermutation-trans all (all_tasks (s ∷ ss) ++ (tasks ++ ended)) (all_tasks ss ++ (now ++ over)) p
    (IsPermutation-trans ((all_of s ++ all_tasks ss) ++ (tasks ++ ended)) (all_tasks ss ++ (all_of s ++ (tasks ++ ended)))
    (all_tasks ss ++ (now ++ over))
    (between (all_of s) (all_tasks ss) (tasks ++ ended))
    (IsPermutation-append_right (all_tasks ss) (all_of s ++ (tasks ++ ended)) (now ++ over) q))

-- ---- tasks that are dealt out

-- one task more is put into a share
put_in : (s : Share) (v : Share) (t : TypedTask) (rest : List TypedTask) → v.tasks.items ≡ s.tasks.items ++ t ∷ [] →
    v.forked.items ≡ s.forked.items → v.ended.items ≡ s.ended.items →
    IsPermutation (t ∷ (all_of s ++ rest)) (all_of v ++ rest)
put_in s v t rest tasks forked ended =
    let other = s.forked.items ++ s.ended.items in
    let whole : all_of v ≡ (s.tasks.items ++ t ∷ []) ++ other = (λ i. tasks i ++ (forked i ++ ended i)) in
    let p : IsPermutation (t ∷ (s.tasks.items ++ (other ++ rest))) (s.tasks.items ++ (t ∷ (other ++ rest))) =
    between (t ∷ []) s.tasks.items (other ++ rest) in
    let same : s.tasks.items ++ (t ∷ (other ++ rest)) ≡ all_of v ++ rest =
    sym (ap (λ l. l ++ rest) whole ∙ append_assoc (s.tasks.items ++ t ∷ []) other rest
    ∙ append_assoc s.tasks.items (t ∷ []) (other ++ rest)) in
    subst (λ l. IsPermutation (t ∷ (all_of s ++ rest)) l) same
    (subst (λ l. IsPermutation (t ∷ l) (s.tasks.items ++ (t ∷ (other ++ rest)))) (sym (append_assoc s.tasks.items other rest)) p)

-- the same by steps
pub as_taken : (s : Share) (tasks ended one two three : List TypedTask) → one ≡ tasks ++ s.tasks.items →
    two ≡ one ++ s.forked.items → three ≡ ended ++ s.ended.items →
    IsPermutation (all_of s ++ (tasks ++ ended)) (two ++ three)
as_taken s tasks ended one two three p q r =
    subst (λ l. IsPermutation (all_of s ++ (tasks ++ ended)) l) (sym (λ i. (q ∙ ap (λ l. l ++ s.forked.items) p) i ++ r i))
    (taken_in s tasks ended)

-- shares with no task have none together, and are fresh
pub none_in : (ss : List Share) → All IsEmpty ss → all_tasks ss ≡ []
none_in [] h = refl
none_in (s ∷ ss) h =
    let e = All-head IsEmpty s ss h in
    let own : all_of s ≡ [] = λ i. e.0 i ++ (e.1 i ++ e.2 i) in
    (λ i. own i ++ none_in ss (All-tail IsEmpty s ss h) i)

pub fresh_in : (ss : List Share) → All IsEmpty ss → All IsFresh ss
fresh_in ss h = All-weaker IsEmpty IsFresh (λ s e. record { forked = e.1; ended = e.2 }) ss h

-- one task more is put into the share at a place
pub dealt_in : (ss : List Share) (i : ℕ) (s v : Share) (t : TypedTask) → i < length ss → s ≡ get_or ss i s →
    v.tasks.items ≡ s.tasks.items ++ t ∷ [] → v.forked.items ≡ s.forked.items → v.ended.items ≡ s.ended.items →
    IsPermutation (t ∷ all_tasks ss) (all_tasks (set ss i v))
dealt_in [] i s v t h is tasks forked ended = absurd (omega (arith, h))
dealt_in (u ∷ ss) zero s v t h is tasks forked ended =
    put_in u v t (all_tasks ss) (tasks ∙ ap (λ (s : Share). s.tasks.items ++ t ∷ []) is)
    (forked ∙ ap (λ (s : Share). s.forked.items) is) (ended ∙ ap (λ (s : Share). s.ended.items) is)
dealt_in (u ∷ ss) (suc i) s v t h is tasks forked ended =
    let p = dealt_in ss i s v t (omega (arith, h)) is tasks forked ended in
    IsPermutation-trans (t ∷ (all_of u ++ all_tasks ss)) (all_of u ++ (t ∷ all_tasks ss)) (all_of u ++ all_tasks (set ss i v))
    (between (t ∷ []) (all_of u) (all_tasks ss)) (IsPermutation-append_right (all_of u) (t ∷ all_tasks ss)
    (all_tasks (set ss i v)) p)

-- so the first of those that are left goes to a share
pub deals_on : (all rest : List TypedTask) (t : TypedTask) (before now : List TypedTask) →
    IsPermutation all ((t ∷ rest) ++ before) → IsPermutation (t ∷ before) now → IsPermutation all (rest ++ now)
deals_on all rest t before now p q =
    IsPermutation-trans all ((t ∷ rest) ++ before) (rest ++ now) p
    (IsPermutation-trans ((t ∷ rest) ++ before) (rest ++ (t ∷ before)) (rest ++ now) (between (t ∷ []) rest before)
    (IsPermutation-append_right rest (t ∷ before) now q))

-- shares of which none is left
pub nothing_left : (ss : List Share) → length ss ≡ 0 → ss ≡ []
nothing_left [] h = refl
nothing_left (s ∷ ss) h = absurd (omega (arith, h))

-- all tasks are left at the beginning
pub all_left : (all left dealt : List TypedTask) → left ≡ all → dealt ≡ [] → IsPermutation all (left ++ dealt)
all_left all left dealt p q = subst (λ l. IsPermutation all l) (sym ((λ i. p i ++ q i) ∙ append-nil all)) (IsPermutation-refl all)

-- a share that is as fresh as the one in whose place it is put
pub fresh_set : (ss : List Share) (i : ℕ) (s v : Share) → i < length ss → s ≡ get_or ss i s → v.forked.items ≡ s.forked.items →
    v.ended.items ≡ s.ended.items → All IsFresh ss → All IsFresh (set ss i v)
fresh_set [] i s v h is forked ended f = absurd (omega (arith, h))
fresh_set (u ∷ ss) zero s v h is forked ended f =
    let own = All-head IsFresh u ss f in
    All-cons IsFresh v ss
    (record {
      forked = forked ∙ ap (λ (s : Share). s.forked.items) is ∙ own.forked;
      ended = ended ∙ ap
          (λ (s : Share). s.ended.items) is ∙ own.ended;
    })
    (All-tail IsFresh u ss f)
fresh_set (u ∷ ss) (suc i) s v h is forked ended f =
    All-cons IsFresh u (set ss i v) (All-head IsFresh u ss f)
    (fresh_set ss i s v (omega (arith, h)) is forked ended (All-tail IsFresh u ss f))
