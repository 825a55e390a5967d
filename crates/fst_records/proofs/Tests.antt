-- Tests that count: 1 where two things are the same, and 0 where they aren't.
use Rattle.std.proofs.Common.{◌≡◌, ◌⊎◌, inl, inr, ◌≤◌, ℕ, Bool, true, false, List, [], ◌∷◌, ◌++◌, length, refl, sym, ap, ◌∙◌, arith, length-append}
use Rattle.std.specs.Prelude.{sum_by, Contains}
use Rattle.std.specs.Coded.{Coded}
use Rattle.std.proofs.lemmas.List.Sums.{get_or-le-sum_by}
use Rattle.fst_base.proofs.Codes.{code_itself, code_same}
use Rattle.fst_base.specs.Codes.{same_code}
use Rattle.fst_base.proofs.Lists.{one_cut}
use Rattle.fst_types.specs.declared.ends.ChannelName.{ChannelName}
use Rattle.fst_types.specs.declared.ends.EndName.{EndName}
use Rattle.fst_runs.specs.Configs.{Path, same_path, same_channel, same_end}
use Rattle.fst_runs.specs.Wrong.{once}
use Rattle.fst_runs.proofs.Laws.{same_path-itself, same_path-same, same_channel-itself, same_channel-same, same_end-itself, same_end-same}

-- ---- a test that counts

-- a test counts at most 1
pub small : (b : Bool) → once b ≤ 1
small true = omega arith
small false = omega arith

-- either the test holds, and what it says, or it counts nothing
pub counts_or : (P : Type 0) (b : Bool) → (b ≡ true → P) → (P × (once b ≡ 1)) ⊎ (once b ≡ 0)
counts_or P true h = inl (h refl, refl)
counts_or P false h = inr refl

-- two paths are one, or they don't count
pub path_or : (p q : Path) → ((p ≡ q) × (once (same_path p q) ≡ 1)) ⊎ (once (same_path p q) ≡ 0)
path_or p q = counts_or (p ≡ q) (same_path p q) (same_path-same p q)

-- a path counts as itself
pub path_counts : (p q : Path) → p ≡ q → once (same_path p q) ≡ 1
path_counts p q e = ap (λ x. once (same_path p x)) (sym e) ∙ ap once (same_path-itself p)

-- the same of channels
pub channel_or : (g h : ChannelName) → ((g ≡ h) × (once (same_channel g h) ≡ 1)) ⊎ (once (same_channel g h) ≡ 0)
channel_or g h = counts_or (g ≡ h) (same_channel g h) (same_channel-same g h)

-- a channel counts as itself
pub channel_counts : (g h : ChannelName) → g ≡ h → once (same_channel g h) ≡ 1
channel_counts g h e = ap (λ x. once (same_channel g x)) (sym e) ∙ ap once (same_channel-itself g)

-- and of ends
pub end_or : (x y : EndName) → ((x ≡ y) × (once (same_end x y) ≡ 1)) ⊎ (once (same_end x y) ≡ 0)
end_or x y = counts_or (x ≡ y) (same_end x y) (same_end-same x y)

-- an end counts as itself
pub end_counts : (x y : EndName) → x ≡ y → once (same_end x y) ≡ 1
end_counts x y e = ap (λ z. once (same_end x z)) (sym e) ∙ ap once (same_end-itself x)

-- ---- lists

-- lists with one more at their ends are one where both parts are
pub snoc_same : {X : Type 0} (p q : List X) (k j : X) → p ++ k ∷ [] ≡ q ++ j ∷ [] → (p ≡ q) × (k ≡ j)
snoc_same p q k j e =
    let a = ap length e in
    let b = length-append p (k ∷ []) in
    let c = length-append q (j ∷ []) in
    let r = one_cut p (k ∷ []) q (j ∷ []) e (omega (arith, a, b, c)) in
    (r.0, cc (r.1))

-- what is there is in the sum
pub there_sums : {X : Type 0} (f : X → ℕ) (xs : List X) (x : X) → Contains xs x → f x ≤ sum_by f xs
there_sums f xs x (k, lt, is) = let a = get_or-le-sum_by f xs k x lt in let b = ap f is in omega (arith, a, b)

-- ---- codes

module _ {A : Type 0} (c : Coded A) where
  -- whether two things with codes are one
  abbrev pub same_by : A → A → Bool
  same_by x y = same_code (c.code x) (c.code y)

  -- a thing passes the test with itself
  pub same_by-itself : (x y : A) → x ≡ y → same_by x y ≡ true
  same_by-itself x y e = ap (λ z. same_code (c.code x) (c.code z)) (sym e) ∙ code_itself (c.code x)

  -- things that pass it are one
  pub same_by-same : (x y : A) → same_by x y ≡ true → x ≡ y
  same_by-same x y e = c.inj x y (code_same (c.code x) (c.code y) e)

  -- things that no number tells apart are one
  pub one_by : (x y : A) → ((g : A → ℕ) → g y ≡ g x) → y ≡ x
  one_by x y h = by (counts_or (x ≡ y) (same_by x y) (same_by-same x y))
    where
      by : ((x ≡ y) × (once (same_by x y) ≡ 1)) ⊎ (once (same_by x y) ≡ 0) → y ≡ x
      by (inl q) = sym q.0
      by (inr z) =
          let a = h (λ u. once (same_by x u)) in
          let b = ap once (same_by-itself x x refl) in
          absurd (omega (arith, a, b, z))
