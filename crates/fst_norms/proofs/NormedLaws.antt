-- The norms of a grammar whose non-terminals all have norms.
use Rattle.std.proofs.Common.{◌≡◌, ◌↔◌, ◌<◌, ◌≤◌, ℕ, length, List, refl, sym, subst, arith, Option, Some, None}
use Rattle.fst_base.specs.Limits.{greatest_norm}
use Rattle.fst_words.specs.Words.{Productions}
use Rattle.fst_norms.specs.Bounds.{AreAllBelow, bound_at, weight}
use Rattle.fst_norms.specs.Lowering.{AreNorms}
use Rattle.fst_norms.specs.Norms.{IsNorm, IsNormed, IsNormOrNone}

-- a non-terminal's norm is at most each other norm of it
pub least_of : (rows : Productions) (n j k : ℕ) → IsNorm rows n j → IsNorm rows n k → j ≤ k
least_of rows n j k p q =
    let r = p.reached in
    let s = q.reached in
    let a = p.least s.0 s.1 in
    let top : j ≤ greatest_norm = (let e = r.2 in omega arith) in
    let e = s.2 in
    omega arith

-- the norm of a non-terminal is there, and below 2^63
pub norm_there : (rows : Productions) (norms : List (Option ℕ)) → IsNormed rows → AreNorms rows norms →
    (n : ℕ) → n < length rows →
    (k : ℕ) × (bound_at norms n ≡ Some k) × (k < greatest_norm) × IsNorm rows n k
norm_there rows norms normed are n lt = go (bound_at norms n) refl (are.each n)
  where
    go : (o : Option ℕ) → bound_at norms n ≡ o → IsNormOrNone rows n o → (k : ℕ) × (bound_at norms n ≡ Some k) ×
        (k < greatest_norm) × IsNorm rows n k
    go None e h = let p = (normed n lt).1.reached in absurd (h p.0 p.1)
    go (Some k) e h =
        let p = normed n lt in
        let le = least_of rows n k p.0 h p.1 in
        let top = p.2 in
        (k, e, (let l : k < greatest_norm = omega arith in l), h)

-- the norms are all there and below 2^63 exactly where the grammar is normed
pub normed_told : (rows : Productions) (norms : List (Option ℕ)) → AreNorms rows norms → AreAllBelow norms ↔ IsNormed rows
normed_told rows norms are = (
  (λ all n lt. let count = are.count in here n (bound_at norms n) (are.each n) (all n (omega arith))),
  (λ normed n lt.
      let count = are.count in
      let p = norm_there rows norms normed are n (omega arith) in
      let small = p.2 in
      subst (λ (o : Option ℕ). weight o < greatest_norm) (sym p.1) (omega arith)),
)
  where
    here : (n : ℕ) (o : Option ℕ) → IsNormOrNone rows n o → weight o < greatest_norm → (k : ℕ) × IsNorm rows n k ×
        (k < greatest_norm)
    here n None h w = absurd (omega arith)
    here n (Some k) h w = (k, h, omega arith)
