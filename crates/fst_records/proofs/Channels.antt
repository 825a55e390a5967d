-- Channels of a record by their names.
use Rattle.std.proofs.Common.{◌≡◌, ◌∙◌, ◌⊎◌, inl, inr, ◌≤◌, List, [], ◌∷◌, ◌++◌, Bool, true, false, Option, Some, None, refl, sym, ap, arith}
use Rattle.std.specs.Prelude.{sum_by, if◌then◌else◌}
use Rattle.fst_lts.specs.Histories.{over}
use Rattle.fst_types.specs.declared.ends.ChannelName.{ChannelName}
use Rattle.fst_types.specs.declared.event.ChannelHistory.{ChannelHistory}
use Rattle.fst_runs.specs.Configs.{Channel, same_channel, channel_in, named_so}
use Rattle.fst_runs.proofs.Laws.{same_channel-same, put}
use Rattle.fst_records.proofs.Found.{on_name, channel_of, no_channel}
use Rattle.fst_records.proofs.Lists.{IsAmong, without, one_or_among, sum_around, sum_without}
use Rattle.fst_records.proofs.Placing.{over_put}
use Rattle.fst_records.proofs.Tests.{channel_counts}

over_none : (o : Option Channel) → over o None ≡ o
over_none None = refl
over_none (Some x) = refl

last_named : (k : ChannelHistory) (behind : List ChannelHistory) → channel_in behind k.name ≡ None → (g : ChannelName) →
    over (channel_in behind g) (named_so k g) ≡ put (same_channel k.name g) (channel_of k) (channel_in behind g)
last_named k behind n g = by (same_channel k.name g) refl
  where
    by : (b : Bool) → same_channel k.name g ≡ b →
        over (channel_in behind g) (if b then Some (channel_of k) else None) ≡ put b (channel_of k) (channel_in behind g)
    by false e = over_none (channel_in behind g)
    by true e = ap (λ o. over o (Some (channel_of k))) (ap (channel_in behind) (sym (same_channel-same k.name g e)) ∙ n)

-- the channel behind which none has its name is put among the others
pub channel_last : (before : List ChannelHistory) (k : ChannelHistory) (behind : List ChannelHistory) →
    sum_by (on_name k.name) behind ≡ 0 →
    (g : ChannelName) →
    channel_in (before ++ k ∷ behind) g ≡ put (same_channel k.name g) (channel_of k) (channel_in (before ++ behind) g)
channel_last [] k behind z g = last_named k behind (no_channel behind k.name z) g
channel_last (b ∷ before) k behind z g =
    ap (λ o. over o (named_so b g)) (channel_last before k behind z g)
    ∙ over_put (same_channel k.name g) (channel_of k) (channel_in (before ++ behind) g) (named_so b g)

module _ {ks : List ChannelHistory} {k : ChannelHistory} (one : sum_by (on_name k.name) ks ≤ 1) (place : IsAmong ks k) where
  -- no channel behind it has its name
  pub none_behind : sum_by (on_name k.name) place.behind ≡ 0
  none_behind =
      let a = sum_around (on_name k.name) place in
      let b = channel_counts k.name k.name refl in
      omega (arith, a, b, one)

  -- the channels are the others with it put among them
  pub channel_put : (g : ChannelName) →
      channel_in ks g ≡ put (same_channel k.name g) (channel_of k) (channel_in (without place) g)
  channel_put g =
      ap (λ (ks : List ChannelHistory). channel_in ks g) place.is ∙ channel_last place.before k place.behind none_behind g

  -- a channel with its name is the same
  pub one_channel : {j : ChannelHistory} → IsAmong ks j → k.name ≡ j.name → k ≡ j
  one_channel {j} at e = by (one_or_among place at)
    where
      by : (k ≡ j) ⊎ IsAmong (without place) j → k ≡ j
      by (inl q) = q
      by (inr a) =
          let b = sum_without (on_name k.name) place in
          let c = sum_around (on_name k.name) a in
          let d = channel_counts k.name k.name refl in
          let f = channel_counts k.name j.name e in
          absurd (omega (arith, b, c, d, f, one))
