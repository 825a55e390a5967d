-- Who got what was sent.
use Rattle.std.specs.Prelude.{◌≡◌, ℕ, ◌+◌, Bool, true, false, Option, Some, None, unwrap_or, List, [], All, Contains, sum_by, if◌then◌else◌}
use Rattle.std.specs.Ordering.{nat_cmp, ordering_then}
use Rattle.std.specs.declared.cmp.Ordering.{Ordering}
use Rattle.fst_types.specs.declared.ends.ChannelName.{ChannelName}
use Rattle.fst_runs.specs.Configs.{Path}
use Rattle.fst_records.specs.Parts.{Deed, stepped, made, forked, sent, got, Part}
use Rattle.fst_records.specs.Gathering.{getter}
use Rattle.fst_records.specs.NameOrder.{name_cmp}
use Rattle.fst_merge.specs.declared.receipts.Receipt.{Receipt}

-- ---- receipts and parts

-- the part of the task in the event in which it got something
abbrev pub part_in : Receipt → Part
part_in r = record { path = r.path.now; deed = got r.channel.now; stamp = r.stamp }

-- something was got
abbrev pub is_got : Deed → Bool
is_got stepped = false
is_got made = false
is_got forked = false
is_got (sent h) = false
is_got (got h) = true

-- a part by which something was got, however it is weighed
abbrev pub got_by : (Part → ℕ) → Part → ℕ
got_by w p = if is_got p.deed then w p else 0

-- the receipts are those of the parts by which something was got, in some order
abbrev pub AreReceipts : List Part → List Receipt → Type 0
AreReceipts all rs = (w : Part → ℕ) → sum_by (λ (r : Receipt). w (part_in r)) rs ≡ sum_by
    (got_by w) all

-- more receipts are those of these parts
abbrev pub GainReceipts : List Part → List Receipt → List Receipt → Type 0
GainReceipts ps old new = (w : Part → ℕ) → sum_by (λ (r : Receipt). w (part_in r)) new ≡ sum_by
    (λ (r : Receipt). w (part_in r)) old + sum_by (got_by w) ps

-- ---- receipts in order

-- a stamp and a channel
abbrev pub Spot : Type 0
Spot = ℕ × ChannelName

-- these compare by the stamps, and then by the channels' names
abbrev pub spot_cmp : Spot → Spot → Ordering
spot_cmp x y = ordering_then (nat_cmp x.0 y.0) (name_cmp x.1 y.1)

-- the stamp and the channel of a receipt
abbrev pub spot_of : Receipt → Spot
spot_of r = (r.stamp, r.channel.now)

-- receipts compare by these
abbrev pub receipt_cmp : Receipt → Receipt → Ordering
receipt_cmp r s = spot_cmp (spot_of r) (spot_of s)

-- ---- who got something

-- the task with this path got what was sent over this channel at this stamp, or none did, as receipts say
abbrev pub IsGetter : List Receipt → ChannelName → ℕ → Option Path → Type 0
IsGetter rs h n None = All (λ (r : Receipt). ¬ (spot_of r ≡ (n, h))) rs
IsGetter rs h n (Some p) = (r : Receipt) × Contains rs r × (spot_of r ≡ (n, h)) × (r.path.now ≡ p)

-- so it is found among these parts
abbrev pub AreFound : List Part → List Receipt → Type 0
AreFound all rs = (h : ChannelName) (n : ℕ) (o : Option Path) → IsGetter rs h n o →
    unwrap_or o [] ≡ getter all h n

-- so it is with all parts among which it is found
abbrev pub ForParts : List Receipt → (List Part → Type 0) → Type 0
ForParts rs P = (all : List Part) → AreFound all rs → P all
