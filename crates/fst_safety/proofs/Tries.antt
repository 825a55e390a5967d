-- What the ends of a thread weigh when one changes, two come in or some go; and that one which has tried hasn't tried less.
use Rattle.std.proofs.Common.{◌≡◌, ◌∙◌, ◌≤◌, ℕ, ◌+◌, List, [], ◌∷◌, ◌++◌, Bool, true, false, refl, ap, arith}
use Rattle.std.specs.Prelude.{sum_by, IsPermutation, if◌then◌else◌, is_some}
use Rattle.std.proofs.lemmas.List.Sorted.{sum_by-IsPermutation}
use Rattle.std.proofs.lemmas.List.Sums.{sum_by-append, sum_by-cons, sum_by_push}
use Rattle.fst_lts.specs.Step.{terminated}
use Rattle.fst_types.specs.declared.ends.EndName.{EndName}
use Rattle.fst_runs.specs.Configs.{same_end}
use Rattle.fst_runs.specs.Wrong.{once}
use Rattle.fst_cell.specs.End.{EndView, end_name}
use Rattle.fst_safety.specs.Threads.{Thread}
use Rattle.fst_safety.specs.Turns.{of_ends}
use Rattle.fst_safety.specs.Bags.{put_by, IsPutBack}
use Rattle.fst_safety.specs.Tasks.{offers, tries_at}

-- an end that has the same name and has tried more
pub tried_more : (z : EndName) (e f : EndView) → end_name f ≡ end_name e → e.knows.tries ≤ f.knows.tries →
    tries_at z e ≤ tries_at z f
tried_more z e f same more = go (same_end z (end_name e)) refl
  where
    there : (b : Bool) → same_end z (end_name e) ≡ b → (tries_at z e ≡ (if b then e.knows.tries else 0)) ×
        (tries_at z f ≡ (if b then f.knows.tries else 0))
    there b q = (
      ap (λ (b : Bool). if b then e.knows.tries else 0) q,
      ap (λ y. if same_end z y then f.knows.tries else 0) same ∙ ap (λ (b : Bool). if b then f.knows.tries else 0) q,
    )

    go : (b : Bool) → same_end z (end_name e) ≡ b → tries_at z e ≤ tries_at z f
    go true q = let t = there true q in let a = t.0 in let b = t.1 in omega (arith, a, b, more)
    go false q = let t = there false q in let a = t.0 in let b = t.1 in omega (arith, a, b)

-- one end is put among others, however they are weighed
pub put_sum : (w : EndView → ℕ) (e : EndView) (es spent bag retired : List EndView) → IsPutBack e es spent bag retired →
    sum_by w bag + sum_by w retired ≡ (sum_by w es + sum_by w spent) + w e
put_sum w e es spent bag retired p = go (terminated p.0) p.2
  where
    go : (b : Bool) → put_by b e es spent bag retired → sum_by w bag + sum_by w retired ≡ (sum_by w es + sum_by w spent) + w e
    go true q = let a = ap (sum_by w) q.0 in let b = ap (sum_by w) q.1 in let c = sum_by_push w spent e in omega (arith, a, b, c)
    go false q = let a = ap (sum_by w) q.0 in let b = ap (sum_by w) q.1 in let c = sum_by_push w es e in omega (arith, a, b, c)

-- an end of a thread has changed, and stands last among the open ones now
pub changed_sum : (w : EndView → ℕ) (x : Thread) (e f : EndView) (rest : List EndView) → IsPermutation x.bag (e ∷ rest) →
    of_ends w (record x { bag = rest ++ f ∷ [] }) + w e ≡ of_ends w x + w f
changed_sum w x e f rest was =
    let a = sum_by-IsPermutation w x.bag (e ∷ rest) was in
    let b = sum_by-cons w e rest in
    let c = sum_by_push w rest f in
    omega (arith, a, b, c)

-- or it is put where it belongs
pub passed_sum : (w : EndView → ℕ) (x : Thread) (e f : EndView) (rest bag retired : List EndView) →
    IsPermutation x.bag (e ∷ rest) → IsPutBack f rest x.retired bag retired →
    (sum_by w bag + sum_by w retired) + w e ≡ of_ends w x + w f
passed_sum w x e f rest bag retired was put =
    let a = sum_by-IsPermutation w x.bag (e ∷ rest) was in
    let b = sum_by-cons w e rest in
    let c = put_sum w f rest x.retired bag retired put in
    omega (arith, a, b, c)

-- two ends come in
pub made_sum : (w : EndView → ℕ) (x : Thread) (l r : EndView) (bag1 ret1 bag retired : List EndView) →
    IsPutBack l x.bag x.retired bag1 ret1 → IsPutBack r bag1 ret1 bag retired →
    sum_by w bag + sum_by w retired ≡ (of_ends w x + w l) + w r
made_sum w x l r bag1 ret1 bag retired pl pr =
    let a = put_sum w l x.bag x.retired bag1 ret1 pl in
    let b = put_sum w r bag1 ret1 bag retired pr in
    omega (arith, a, b)

-- some ends go to another thread
pub parted_sum : (w : EndView → ℕ) (x : Thread) (mine theirs : List EndView) → IsPermutation x.bag (mine ++ theirs) →
    (sum_by w mine + sum_by w x.retired) + sum_by w theirs ≡ of_ends w x
parted_sum w x mine theirs all =
    let a = sum_by-IsPermutation w x.bag (mine ++ theirs) all in
    let b = sum_by-append w mine theirs in
    omega (arith, a, b)

-- an end offers one event at most
pub one_offer : (e : EndView) → offers e ≤ 1
one_offer e = go (is_some e.knows.offer)
  where
    go : (b : Bool) → once b ≤ 1
    go true = omega arith
    go false = omega arith
