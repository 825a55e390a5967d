-- The two ends of a channel are among those of all threads, with one cell and one declared type.
use Rattle.std.proofs.Common.{◌≡◌, ◌⊎◌, inl, inr, ◌<◌, ◌≤◌, ℕ, ◌+◌, ◌*◌, List, [], ◌∷◌, ◌++◌, refl, sym, ap, ◌∙◌, subst, arith}
use Rattle.std.specs.Prelude.{sum_by, Contains}
use Rattle.std.proofs.lemmas.List.Elements.{Contains-append_left, Contains-append_right}
use Rattle.std.proofs.lemmas.List.Sums.{sum_by-append, sum_by-cons}
use Rattle.atomic_table.specs.Seated.{TableId, table_id_coded}
use Rattle.fst_base.proofs.Lists.{from_contains, contains_none}
use Rattle.fst_types.specs.ModelCode.{tree_code}
use Rattle.fst_types.specs.Tree.{Tree}
use Rattle.fst_types.specs.declared.side.Side.{Side}
use Rattle.fst_types.specs.declared.side.Side.TheVariants.{Left, Right}
use Rattle.fst_lts.specs.Histories.{opposite}
use Rattle.fst_derivations.specs.Rules.{Surroundings}
use Rattle.fst_types.specs.declared.ends.ChannelName.{ChannelName}
use Rattle.fst_types.specs.declared.ends.EndName.{EndName}
use Rattle.fst_runs.specs.Configs.{same_channel, same_end, other}
use Rattle.fst_runs.specs.Wrong.{once}
use Rattle.fst_cell.specs.End.{EndView, end_name}
use Rattle.fst_runs.specs.Logs.{Birth}
use Rattle.fst_safety.specs.Threads.{Thread}
use Rattle.fst_safety.specs.Turns.{of_ends, by_type, by_cell}
use Rattle.fst_worker.specs.Works.{IsRun}
use Rattle.fst_worker.specs.Pairs.{HasEnd, IsOnePair, ArePaired}
use Rattle.fst_worker.proofs.Apart.{ends_once}
use Rattle.fst_records.proofs.Laws.{sum_same, end_or, end_counts, one_by}
use Rattle.fst_worker.proofs.Sides.{by_side, by_sides}

-- an end, by its name
abbrev pub counted : EndName → EndView → ℕ
counted z e = once (same_end z (end_name e))

-- ---- ends that are there

-- all ends of threads
abbrev ends_of : List Thread → List EndView
ends_of [] = []
ends_of (x ∷ xs) = x.bag ++ (x.retired ++ ends_of xs)

all_ends : (w : EndView → ℕ) (xs : List Thread) → sum_by (of_ends w) xs ≡ sum_by w (ends_of xs)
all_ends w [] = refl
all_ends w (x ∷ xs) =
    let a = sum_by-cons (of_ends w) x xs in
    let b = sum_by-append w x.bag (x.retired ++ ends_of xs) in
    let c = sum_by-append w x.retired (ends_of xs) in
    let ih = all_ends w xs in
    omega (arith, a, b, c, ih)

bag_or : (y x : Thread) (ys : List Thread) (e : EndView) → Contains x.bag e → (y ≡ x) ⊎ Contains ys x →
    (Contains ys x → Contains (ends_of ys) e) →
    Contains (ends_of (y ∷ ys)) e
bag_or y x ys e b (inl i) more = Contains-append_left y.bag (y.retired ++ ends_of ys) e
    (subst (λ (t : Thread). Contains t.bag e) (sym i) b)
bag_or y x ys e b (inr c) more = Contains-append_right y.bag (y.retired ++ ends_of ys) e
    (Contains-append_right y.retired (ends_of ys) e (more c))

of_bag : (xs : List Thread) (x : Thread) (e : EndView) → Contains xs x → Contains x.bag e → Contains (ends_of xs) e
of_bag [] x e c b = absurd (contains_none x c)
of_bag (y ∷ ys) x e c b = bag_or y x ys e b (from_contains ys x y c) (λ i. of_bag ys x e i b)

-- an end of a name among some
record Found (z : EndName) (es : List EndView) : Type 0 where
  end : EndView
  rest : List EndView
  named : end_name end ≡ z
  ends : (w : EndView → ℕ) → sum_by w es ≡ w end + sum_by w rest

found_or : (z : EndName) (e : EndView) (es : List EndView) → 0 < sum_by (counted z) (e ∷ es) →
    (0 < sum_by (counted z) es → Found z es) →
    ((z ≡ end_name e) × (counted z e ≡ 1)) ⊎ (counted z e ≡ 0) → Found z (e ∷ es)
found_or z e es n more (inl q) = record { end = e; rest = es; named = sym q.0; ends = λ w. sum_by-cons w e es }
found_or z e es n more (inr q) =
    let a = sum_by-cons (counted z) e es in
    let r = more (omega (arith, n, a, q)) in
    record {
      end = r.end;
      rest = e ∷ r.rest;
      named = r.named;
      ends = λ w.
          let b = sum_by-cons w e es in
          let c = sum_by-cons w e r.rest in
          let d = r.ends w in
          omega (arith, b, c, d);
    }

found : (z : EndName) (es : List EndView) → 0 < sum_by (counted z) es → Found z es
found z [] n = absurd (omega (arith, n))
found z (e ∷ es) n = found_or z e es n (found z es) (end_or z (end_name e))

split_or : (f e : EndView) (es : List EndView) → (e ≡ f) ⊎ Contains es f →
    (Contains es f → (rest : List EndView) × ((w : EndView → ℕ) → sum_by w es ≡ w f + sum_by w rest)) →
    (rest : List EndView) × ((w : EndView → ℕ) → sum_by w (e ∷ es) ≡ w f + sum_by w rest)
split_or f e es (inl q) more = (es, λ w. sum_by-cons w e es ∙ ap (λ x. w x + sum_by w es) q)
split_or f e es (inr c) more =
    let r = more c in
    (e ∷ r.0, λ w. let a = sum_by-cons w e es in let b = sum_by-cons w e r.0 in let d = r.1 w in omega (arith, a, b, d))

-- some ends are one of them and others
pub split_of : (f : EndView) (es : List EndView) → Contains es f → (rest : List EndView) ×
    ((w : EndView → ℕ) → sum_by w es ≡ w f + sum_by w rest)
split_of f [] c = absurd (contains_none f c)
split_of f (e ∷ es) c = split_or f e es (from_contains es f e c) (split_of f es)

-- an end of a thread's bag is one of all
pub in_bag : (xs : List Thread) (x : Thread) (e : EndView) → Contains xs x → Contains x.bag e → HasEnd xs e
in_bag xs x e c b = at_once (of_bag xs x e c b)
  where
    at_once : Contains (ends_of xs) e → HasEnd xs e
    at_once c = let s = split_of e (ends_of xs) c in record { rest = s.0; ends = λ w. all_ends w xs ∙ s.1 w }

-- an end that counts is there
pub there : (z : EndName) (xs : List Thread) → 0 < sum_by (of_ends (counted z)) xs → (e : EndView) × HasEnd xs e ×
    (end_name e ≡ z)
there z xs n =
    let a = all_ends (counted z) xs in
    let r = found z (ends_of xs) (omega (arith, n, a)) in
    (r.end, record { rest = r.rest; ends = λ w. all_ends w xs ∙ r.ends w }, r.named)

-- where a sum is nothing, so is that of multiples
none_times : (f v : EndView → ℕ) (es : List EndView) → sum_by f es ≡ 0 → sum_by (λ (e : EndView). f e * v e) es ≡ 0
none_times f v [] z = refl
none_times f v (e ∷ es) z =
    let a = sum_by-cons f e es in
    let b = sum_by-cons (λ (e : EndView). f e * v e) e es in
    let d : f e ≡ 0 = omega (arith, a, z) in
    let g : f e * v e ≡ 0 = ap (λ n. n * v e) d ∙ omega arith in
    let ih = none_times f v es (omega (arith, a, z)) in
    omega (arith, b, g, ih)

-- the one end of a name, however it is weighed
pub only : (z : EndName) (xs : List Thread) (e : EndView) → end_name e ≡ z → HasEnd xs e → sum_by (of_ends (counted z)) xs ≤ 1 →
    (v : EndView → ℕ) →
    sum_by (of_ends (λ (f : EndView). counted z f * v f)) xs ≡ v e
only z xs e is h le v =
    let a = h.ends (counted z) in
    let b = end_counts z (end_name e) (sym is) in
    let c = h.ends (λ (f : EndView). counted z f * v f) in
    let d = none_times (counted z) v h.rest (omega (arith, a, b, le)) in
    let g : counted z e * v e ≡ v e = ap (λ n. n * v e) b ∙ omega arith in
    omega (arith, c, d, g)

same_ends : (f g : EndView → ℕ) → ((e : EndView) → f e ≡ g e) → (xs : List Thread) → sum_by (of_ends f) xs ≡ sum_by (of_ends g) xs
same_ends f g h xs = sum_same (of_ends f) (of_ends g)
    (λ x. let a = sum_same f g h x.bag in let b = sum_same f g h x.retired in omega (arith, a, b)) xs

-- ---- pairs

module _ (m : Surroundings) (a : Tree) (main : Birth) (xs : List Thread) (run : IsRun m a main xs) where
  -- no two ends have one name
  abbrev at_most : (z : EndName) → sum_by (of_ends (counted z)) xs ≤ 1
  at_most = ends_once m a main xs run

  both_typed : (s : Side) (w : ChannelName → Tree → ℕ) →
      sum_by (of_ends (by_type s w)) xs ≡ sum_by (of_ends (by_type (opposite s) w)) xs
  both_typed s w = run.whole.typed s w ∙ sym (run.whole.typed (opposite s) w)

  both_cells : (s : Side) (w : ChannelName → TableId → ℕ) →
      sum_by (of_ends (by_cell s w)) xs ≡ sum_by (of_ends (by_cell (opposite s) w)) xs
  both_cells Left w = run.whole.cells w
  both_cells Right w = sym (run.whole.cells w)

  -- what a side's ends of a channel weigh by their types, and by their cells
  typed_of : (z : EndName) (g : Tree → ℕ) → sum_by (of_ends (by_type z.side (λ n t. once (same_channel z.channel n) * g t))) xs ≡
      sum_by (of_ends (λ (f : EndView). counted z f * g f.knows.declared)) xs
  typed_of z g = same_ends (by_type z.side (λ n t. once (same_channel z.channel n) * g t))
      (λ (f : EndView). counted z f * g f.knows.declared)
      (λ f. by_sides (same_channel z.channel f.channel) z.side f.knows.side (g f.knows.declared)) xs

  cells_of : (z : EndName) (g : TableId → ℕ) →
      sum_by (of_ends (by_cell z.side (λ n k. once (same_channel z.channel n) * g k))) xs ≡ sum_by
      (of_ends (λ (f : EndView). counted z f * g f.cell)) xs
  cells_of z g = same_ends (by_cell z.side (λ n k. once (same_channel z.channel n) * g k))
      (λ (f : EndView). counted z f * g f.cell)
      (λ f. by_sides (same_channel z.channel f.channel) z.side f.knows.side (g f.cell)) xs

  -- the end and the other end of its channel are a pair
  pub pair_of : (e f : EndView) → HasEnd xs e → HasEnd xs f → end_name f ≡ other (end_name e) → IsOnePair e f
  pair_of e f he hf is =
      let z = end_name e in
      record {
        cell = one_by table_id_coded e.cell f.cell
            (λ g. sym (only (other z) xs f is hf (at_most (other z)) (λ (d : EndView). g d.cell)) ∙ sym (cells_of (other z) g)
            ∙ sym (both_cells z.side (λ n k. once (same_channel z.channel n) * g k)) ∙ cells_of z g
            ∙ only z xs e refl he (at_most z) (λ (d : EndView). g d.cell));
        declared = one_by tree_code e.knows.declared f.knows.declared
            (λ g. sym (only (other z) xs f is hf (at_most (other z)) (λ (d : EndView). g d.knows.declared))
            ∙ sym (typed_of (other z) g)
            ∙ sym (both_typed z.side (λ n t. once (same_channel z.channel n) * g t)) ∙ typed_of z g
            ∙ only z xs e refl he (at_most z) (λ (d : EndView). g d.knows.declared));
      }

  -- as many ends have a name as have that of the other end
  pub others_count : (z : EndName) → sum_by (of_ends (counted z)) xs ≡ sum_by (of_ends (counted (other z))) xs
  others_count z =
      let w = λ (n : ChannelName) (t : Tree). once (same_channel z.channel n) in
      sym (same_ends (by_type z.side w) (counted z) (λ e. by_side (same_channel z.channel e.channel) z.side e.knows.side) xs)
      ∙ both_typed z.side w ∙ same_ends (by_type (opposite z.side) w) (counted (other z))
      (λ e. by_side (same_channel z.channel e.channel) (opposite z.side) e.knows.side) xs

  -- the ends of a run are the two ends of channels
  pub paired : ArePaired xs
  paired = record {
    partner = λ e h.
        let z = end_name e in
        let a = h.ends (counted z) in
        let b = end_counts z z refl in
        let c = others_count z in
        let r = there (other z) xs (omega (arith, a, b, c)) in
        (r.0, r.1, r.2, pair_of e r.0 h r.1 r.2);
    one = λ l r hl hr left right channel. pair_of l r hl hr
        (λ i. record { channel = channel i; side = (right ∙ sym (ap opposite left)) i });
  }
