-- The ends that are left when the channels of some were closed.
use Rattle.std.proofs.Common.{◌≡◌, ◌∙◌, ◌<◌, ℕ, ◌+◌, Bool, true, false, ◌&&◌, List, [], ◌∷◌, ◌++◌, refl, sym, ap, arith}
use Rattle.std.specs.Prelude.{sum_by, All, Contains, IsPermutation}
use Rattle.std.proofs.lemmas.List.Elements.{All-head, All-tail}
use Rattle.std.proofs.lemmas.List.Sorted.{sum_by-IsPermutation}
use Rattle.std.proofs.lemmas.List.Sums.{sum_by-append, sum_by-cons}
use Rattle.fst_types.specs.Tree.{Tree}
use Rattle.fst_types.specs.declared.side.Side.{Side}
use Rattle.fst_types.specs.declared.side.Side.TheVariants.{Left, Right}
use Rattle.fst_lts.specs.Histories.{opposite}
use Rattle.fst_derivations.specs.Rules.{Surroundings}
use Rattle.fst_types.specs.declared.ends.EndName.{EndName}
use Rattle.fst_runs.specs.Configs.{same_channel, same_side, same_end, other}
use Rattle.fst_runs.specs.Wrong.{once}
use Rattle.fst_cell.specs.End.{EndView, end_name}
use Rattle.fst_runs.specs.Logs.{Birth}
use Rattle.fst_safety.specs.Threads.{Thread, count_of}
use Rattle.fst_worker.specs.Works.{IsRun}
use Rattle.fst_worker.specs.Pairs.{HasEnd}
use Rattle.fst_worker.specs.Records.{Pair, IsShut, Pooled, Closable}
use Rattle.fst_worker.specs.Laws.{PoolLaw}
use Rattle.fst_worker.proofs.Partners.{counted, others_count, pair_of, split_of}
use Rattle.fst_worker.proofs.Apart.{ends_once}
use Rattle.fst_records.proofs.Laws.{end_counts}

-- an end isn't the other end of its channel
not_other : (b : Bool) (s : Side) → once (b && same_side (opposite s) s) ≡ 0
not_other true Left = refl
not_other true Right = refl
not_other false s = refl

-- the other end counts where an end does
flipped : (b : Bool) (s t : Side) → once (b && same_side (opposite s) (opposite t)) ≡ once (b && same_side s t)
flipped true Left Left = refl
flipped true Left Right = refl
flipped true Right Left = refl
flipped true Right Right = refl
flipped false s t = refl

flip_counts : (z x : EndName) → once (same_end (other z) (other x)) ≡ once (same_end z x)
flip_counts z x = flipped (same_channel z.channel x.channel) z.side x.side

back : (s : Side) → opposite (opposite s) ≡ s
back Left = refl
back Right = refl

there_back : (x : EndName) → other (other x) ≡ x
there_back x = λ i. record { channel = x.channel; side = back x.side i }

-- how many ends of a pair have a name
abbrev of_pair : EndName → Pair → ℕ
of_pair z p = counted z p.left + counted z p.right

right_name : (p : Pair) → IsShut p → end_name p.right ≡ other (end_name p.left)
right_name p s = λ i. record { channel = s.channel i; side = (s.right_side ∙ sym (ap opposite s.left_side)) i }

-- a pair has as many ends of a name as of the other end's
pair_even : (z : EndName) (p : Pair) → IsShut p → of_pair (other z) p ≡ of_pair z p
pair_even z p s =
    let a : counted (other z) p.right ≡ counted z p.left = ap (λ x. once (same_end (other z) x)) (right_name p s)
    ∙ flip_counts z (end_name p.left) in
    let b : counted (other z) p.left ≡ counted z p.right =
    ap (λ x. once (same_end (other z) x)) (sym (there_back (end_name p.left)) ∙ ap other (sym (right_name p s)))
    ∙ flip_counts z (end_name p.right) in
    omega (arith, a, b)

pairs_even : (z : EndName) (ps : List Pair) → All IsShut ps → sum_by (of_pair (other z)) ps ≡ sum_by (of_pair z) ps
pairs_even z [] all = refl
pairs_even z (p ∷ ps) all =
    let a = sum_by-cons (of_pair (other z)) p ps in
    let b = sum_by-cons (of_pair z) p ps in
    let c = pair_even z p (All-head IsShut p ps all) in
    let d = pairs_even z ps (All-tail IsShut p ps all) in
    omega (arith, a, b, c, d)

-- the ends of pairs, one after the other
abbrev ends_in : List Pair → List EndView
ends_in [] = []
ends_in (p ∷ ps) = p.left ∷ p.right ∷ ends_in ps

in_pairs : (w : EndView → ℕ) (ps : List Pair) → sum_by (λ (p : Pair). w p.left + w p.right) ps ≡ sum_by w (ends_in ps)
in_pairs w [] = refl
in_pairs w (p ∷ ps) =
    let a = sum_by-cons (λ (p : Pair). w p.left + w p.right) p ps in
    let b = sum_by-cons w p.left (p.right ∷ ends_in ps) in
    let c = sum_by-cons w p.right (ends_in ps) in
    let ih = in_pairs w ps in
    omega (arith, a, b, c, ih)

module _ (m : Surroundings) (a : Tree) (main : Birth) (xs : List Thread) (ps : List Pair) (es : List EndView)
    (run : IsRun m a main xs)
    (pooled : Pooled xs ps es)
    (shut : All IsShut ps) where
  module _ (e : EndView) (rest : List EndView) (p : IsPermutation es (e ∷ rest)) where
    parts : (w : EndView → ℕ) → sum_by w es ≡ w e + sum_by w rest
    parts w = sym (sum_by-IsPermutation w es (e ∷ rest) p) ∙ sum_by-cons w e rest

    has_first : HasEnd xs e
    has_first = record {
      rest = rest ++ ends_in ps;
      ends = λ w.
          let b = pooled w in
          let c = in_pairs w ps in
          let d = parts w in
          let g = sum_by-append w rest (ends_in ps) in
          omega (arith, b, c, d, g);
    }

    has_other : (f : EndView) → Contains rest f → HasEnd xs f
    has_other f c =
        let s = split_of f rest c in
        record {
          rest = e ∷ (s.0 ++ ends_in ps);
          ends = λ w.
              let b = pooled w in
              let c = in_pairs w ps in
              let d = parts w in
              let g = sum_by-append w s.0 (ends_in ps) in
              let h = sum_by-cons w e (s.0 ++ ends_in ps) in
              let k = s.1 w in
              omega (arith, b, c, d, g, h, k);
        }

    -- the other end is among those that are left
    pub partner : 0 < count_of (other (end_name e)) rest
    partner =
        let z = end_name e in
        let b = ends_once m a main xs run z in
        let c = others_count m a main xs run z in
        let d = pooled (counted z) in
        let g = pooled (counted (other z)) in
        let h = pairs_even z ps shut in
        let j = parts (counted z) in
        let k = parts (counted (other z)) in
        let l = end_counts z z refl in
        let n = not_other (same_channel z.channel z.channel) z.side in
        omega (arith, b, c, d, g, h, j, k, l, n)

  -- so the channels of those that are left can be closed
  pub closable : Closable es
  closable = record {
    partner = partner;
    pair = λ e f rest p c is. pair_of m a main xs run e f (has_first e rest p) (has_other e rest p f c) is;
  }

-- for each run
pub pools : PoolLaw
pools = closable
