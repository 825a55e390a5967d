-- Who got something is found among the parts of a record.
use Rattle.std.proofs.Common.{◌≡◌, ◌∙◌, ℕ, ◌+◌, ◌<◌, ◌≤◌, List, [], ◌∷◌, Bool, true, false, ◌&&◌, Some, None, refl, sym, ap, subst, arith}
use Rattle.std.specs.Prelude.{sum_by, nat_eq, if◌then◌else◌}
use Rattle.std.proofs.lemmas.Bool.{and_from}
use Rattle.std.proofs.lemmas.List.Sums.{sum_by-cons}
use Rattle.fst_base.proofs.Bools.{and_parts, nat_itself, same_nat}
use Rattle.fst_types.specs.declared.ends.ChannelName.{ChannelName}
use Rattle.fst_runs.specs.Configs.{Path, same_path, same_channel}
use Rattle.fst_runs.specs.Wrong.{once}
use Rattle.fst_runs.proofs.Laws.{same_path-itself, same_path-same, same_channel-itself, same_channel-same}
use Rattle.fst_records.specs.Gathering.{getter, gets, got_over}
use Rattle.fst_records.specs.Parts.{Deed, stepped, made, forked, sent, got, Part}
use Rattle.fst_records.proofs.Laws.{count, getter_is, some_in, sum_none, sum_same, there_sums}
use Rattle.fst_merge.specs.declared.receipts.Receipt.{Receipt}
use Rattle.fst_merge.specs.Getters.{AreFound, AreReceipts, IsGetter, got_by, is_got, part_in, spot_of}

module _ (h : ChannelName) (n : ℕ) where
  -- what counts only parts by which something was got
  counted_got : (p : Part) → got_by (count h n) p ≡ count h n p
  counted_got p = by p.deed
    where
      by : (d : Deed) → (if is_got d then once (got_over h d && nat_eq n p.stamp) else 0)
          ≡ once (got_over h d && nat_eq n p.stamp)
      by stepped = refl
      by made = refl
      by forked = refl
      by (sent g) = refl
      by (got g) = refl

  -- a receipt of another stamp or channel doesn't count
  counts_not : (r : Receipt) → (spot_of r ≡ (n, h) → ⊥) → count h n (part_in r) ≡ 0
  counts_not r apart = by (gets h n (part_in r)) refl
    where
      by : (b : Bool) → gets h n (part_in r) ≡ b → once b ≡ 0
      by false e = refl
      by true e =
          let both = and_parts (same_channel h r.channel.now) (nat_eq n r.stamp) e in
          let names = same_channel-same h r.channel.now both.0 in
          let stamps = same_nat n r.stamp both.1 in
          absurd (apart (λ i. (sym stamps i, sym names i)))

  -- where nobody got anything, nobody is found
  getter_none : (all : List Part) → sum_by (count h n) all ≡ 0 → getter all h n ≡ []
  getter_none [] z = refl
  getter_none (p ∷ ps) z =
      let a = sum_by-cons (count h n) p ps in
      by (gets h n p) refl (getter_none ps (omega (arith, a, z)))
    where
      sum : sum_by (count h n) (p ∷ ps) ≡ count h n p + sum_by (count h n) ps
      sum = sum_by-cons (count h n) p ps

      by : (b : Bool) → gets h n p ≡ b → getter ps h n ≡ [] → (if b then p.path else getter ps h n) ≡ []
      by true e more = let one = ap once e in absurd (omega (arith, sum, z, one))
      by false e more = more

  -- a part of this path by which something was got there
  abbrev with_path : Path → Part → ℕ
  with_path p r = once (gets h n r && same_path p r.path)

  -- it is one
  is_with : (p : Path) (r : Part) → 0 < got_by (with_path p) r → (gets h n r ≡ true) × (p ≡ r.path)
  is_with p r some = by (is_got r.deed) (gets h n r && same_path p r.path) refl some
    where
      by : (b c : Bool) → gets h n r && same_path p r.path ≡ c → 0 < (if b then once c else 0) →
          (gets h n r ≡ true) × (p ≡ r.path)
      by false c e l = absurd (omega (arith, l))
      by true false e l = absurd (omega (arith, l))
      by true true e l =
          let both = and_parts (gets h n r) (same_path p r.path) e in
          (both.0, same_path-same p r.path both.1)

  -- the one with a receipt is found
  getter_there : (all : List Part) (rs : List Receipt) → AreReceipts all rs → sum_by (count h n) all ≤ 1 → (p : Path) →
      IsGetter rs h n (Some p) → p ≡ getter all h n
  getter_there all rs are one p (r, there, spot, path) =
      let at : gets h n (part_in r) ≡ true = subst (λ s. same_channel h s.1 && nat_eq n s.0 ≡ true) (sym spot)
      (and_from (same_channel h h) (nat_eq n n) (same_channel-itself h) (nat_itself n)) in
      let own : same_path p r.path.now ≡ true = subst (λ q. same_path p q ≡ true) (sym path) (same_path-itself p) in
      let counted = ap once (and_from (gets h n (part_in r)) (same_path p r.path.now) at own) in
      let some = there_sums (λ (r : Receipt). with_path p (part_in r)) rs r there in
      let same = are (with_path p) in
      let q = some_in (got_by (with_path p)) all (omega (arith, counted, some, same)) in
      let is = is_with p q.0 q.2 in
      is.1 ∙ sym (getter_is h n all one q.0 q.1 is.0)

-- where at most one task got something over a channel at a stamp, receipts find it
pub are_found : (all : List Part) (rs : List Receipt) → AreReceipts all rs →
    ((h : ChannelName) (n : ℕ) → sum_by (count h n) all ≤ 1) → AreFound all rs
are_found all rs are one h n None none =
    let a = are (count h n) in
    let b = sum_none (λ (r : Receipt). count h n (part_in r)) (λ (r : Receipt). spot_of r ≡ (n, h) → ⊥) (counts_not h n) rs
    none in
    let c = sum_same (got_by (count h n)) (count h n) (counted_got h n) all in
    sym (getter_none h n all (omega (arith, a, b, c)))
are_found all rs are one h n (Some p) there = getter_there h n all rs are (one h n) p there
