-- What is pending last is looked at.
use Rattle.std.proofs.Common.{◌≡◌, ℕ, ◌-◌, ◌<◌, ◌≤◌, ◌⊎◌, inl, inr, List, [], ◌∷◌, ◌++◌, length, get_or, take, refl, sym, ◌∙◌, ap, subst, arith}
use Rattle.std.specs.Prelude.{Contains, vec_len}
use Rattle.std.specs.declared.vec.Vec.{Vec}
use Rattle.std.specs.declared.alloc.Global.{Global}
use Rattle.std.proofs.lemmas.List.{length-take-le, get_or_read}
use Rattle.fst_loops.specs.Graphs.{Leads, edge, IsGraph}
use Rattle.fst_loops.specs.Searches.{mark_at, AreInOrder, IsSource, Holds, IsSearch, IsLast, Advances}
use Rattle.fst_loops.specs.declared.search.Mark.{Mark}
use Rattle.fst_loops.specs.declared.search.Mark.TheVariants.{Unseen, Open, Done}
use Rattle.fst_loops.specs.declared.search.Part.{Part}
use Rattle.fst_loops.specs.declared.search.Search.{Search}
use Rattle.fst_loops.proofs.Loops.{same_or_leads}
use Rattle.fst_loops.proofs.Parts.{last_most, edge_within, last_off, front_left, one_less, last_some}
use Rattle.fst_loops.proofs.Steps.{moved, skipped, joined}

module _ (g : List (List ℕ)) (s : Search) (h : IsSearch g s) (b : Part) (last : IsLast s.parts.items b)
    (more : b.before < length s.pending.items)
    (n x : ℕ) (count : n ≡ vec_len s.pending) (read : x ≡ get_or s.pending.items (n - 1) x) where
  counted : n ≡ length s.pending.items
  counted = omega (arith, s.pending.ok.0)

  at : get_or s.pending.items (length s.pending.items - 1) 0 ≡ x
  at = let len = counted in ap (λ k. get_or s.pending.items (k - 1) 0) (sym counted)
      ∙ sym (get_or_read s.pending.items (n - 1) x (omega arith) read 0)

  source : (p : ℕ) × IsSource g s.path.items s.parts.items p (length s.pending.items - 1) x
  source =
      let from = h.sources (length s.pending.items - 1) (omega arith) in
      (from.0, subst (λ (y : ℕ). IsSource g s.path.items s.parts.items from.0 (length s.pending.items - 1) y) at from.1)

  all_before : (c : Part) → Contains s.parts.items c → c.before ≤ length s.pending.items - 1
  all_before c m =
      let rising = subst (λ (ps : List Part). AreInOrder ps) last.1 h.divided.rising in
      let most = (last_most last.0 b c rising (subst (λ (ps : List Part). Contains ps c) last.1 m)).1 in
      omega arith

  -- all open nodes lead to it
  pub led : (p : ℕ) → p < length s.path.items → Leads g (get_or s.path.items p 0) x
  led p l =
      let from = source in
      same_or_leads (h.connected p from.0 l from.1.within (λ c m start. (from.1.part c m).0 (all_before c m)))
      (edge (get_or s.path.items from.0 0) x from.1.leads)

  pub within : IsGraph g → x < length g
  within is = let from = source in edge_within g (get_or s.path.items from.0 0) x is from.1.leads

  pub marked : IsGraph g → x < vec_len s.marks
  marked is = omega (arith, within is, h.found.marked, s.marks.ok.0)

  -- its mark, as it is read
  known : IsGraph g → (m k : Mark) → m ≡ get_or s.marks.items x m → m ≡ k → mark_at s.marks.items x ≡ k
  known is m k read' same = sym (get_or_read s.marks.items x m (omega (arith, marked is, s.marks.ok.0)) read' Unseen) ∙ same

  split : s.pending.items ≡ take (length s.pending.items - 1) s.pending.items ++ x ∷ []
  split = last_off s.pending.items 0 (omega arith) ∙ ap (λ y. take (length s.pending.items - 1) s.pending.items ++ y ∷ []) at

  shorter : length (take (length s.pending.items - 1) s.pending.items) ≡ length s.pending.items - 1
  shorter = length-take-le (length s.pending.items - 1) s.pending.items (omega arith)

  apart : Holds g s.marks.items s.path.items (last.0 ++ b ∷ [])
      (take (length s.pending.items - 1) s.pending.items ++ x ∷ []) s.order.items s.looped.items
  apart = moved h refl refl (sym last.1) (sym split) refl refl

  -- a node that is done, or open in the last part, is no longer pending
  pub skips : (pending : Vec ℕ Global) → pending.items ≡ take (vec_len s.pending - 1) s.pending.items →
      ((mark_at s.marks.items x ≡ Done) ⊎ ((q : ℕ) × (mark_at s.marks.items x ≡ Open q) × (b.first ≤ q))) →
      Advances g s (record s { pending = pending })
  skips pending rest met =
      let len = shorter in
      let left : pending.items ≡ take (length s.pending.items - 1) s.pending.items = rest ∙ ap
      (λ k. take (k - 1) s.pending.items) (sym count ∙ counted) in
      record {
        search = moved (skipped g s.marks.items s.path.items last.0 b
            (take (length s.pending.items - 1) s.pending.items) x s.order.items s.looped.items apart (omega arith) met)
            refl refl last.1 left refl refl;
        met = λ y e. e;
        less = omega (arith, one_less s.pending.items pending.items (omega arith) left);
      }

  -- one that is open in an earlier part joins the last part with the one before
  pub joins : (parts : Vec Part Global) → parts.items ≡ take (vec_len s.parts - 1) s.parts.items →
      (q : ℕ) → mark_at s.marks.items x ≡ Open q → q < b.first → Advances g s (record s { parts = parts })
  joins parts rest q mark lt =
      let len = shorter in
      let same : vec_len s.parts ≡ length s.parts.items = omega (arith, s.parts.ok.0) in
      let left : parts.items ≡ take (length s.parts.items - 1) s.parts.items = rest ∙ ap (λ k. take (k - 1) s.parts.items) same in
      record {
        search = moved (joined g s.marks.items s.path.items last.0 b
            (take (length s.pending.items - 1) s.pending.items) x s.order.items s.looped.items apart (omega arith) q mark lt)
            refl refl (left ∙ front_left s.parts.items last.0 b last.1) split refl refl;
        met = λ y e. e;
        less = omega (arith, one_less s.parts.items parts.items (last_some s.parts.items b last) left);
      }

  -- the same, by what is read of its mark
  pub skips_done : IsGraph g → (m : Mark) → m ≡ get_or s.marks.items x m → m ≡ Done →
      (pending : Vec ℕ Global) → pending.items ≡ take (vec_len s.pending - 1) s.pending.items →
      Advances g s (record s { pending = pending })
  skips_done is m read' same pending rest = skips pending rest (inl (known is m Done read' same))

  pub skips_open : IsGraph g → (m : Mark) → m ≡ get_or s.marks.items x m → (q : ℕ) → m ≡ Open q → b.first ≤ q →
      (pending : Vec ℕ Global) → pending.items ≡ take (vec_len s.pending - 1) s.pending.items →
      Advances g s (record s { pending = pending })
  skips_open is m read' q same le pending rest = skips pending rest (inr (q, known is m (Open q) read' same, le))

  pub joins_open : IsGraph g → (m : Mark) → m ≡ get_or s.marks.items x m → (q : ℕ) → m ≡ Open q → q < b.first →
      (parts : Vec Part Global) → parts.items ≡ take (vec_len s.parts - 1) s.parts.items →
      Advances g s (record s { parts = parts })
  joins_open is m read' q same lt parts rest = joins parts rest q (known is m (Open q) read' same) lt
