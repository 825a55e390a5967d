-- The stamps of a history.
use Rattle.std.specs.Prelude.{◌≡◌, ℕ, ◌+◌, ◌^◌, ◌<◌, ◌≤◌, List, [], ◌∷◌, max, ⊤}
use Rattle.fst_lts.specs.Histories.{last_stamp}
use Rattle.fst_types.specs.declared.event.Entry.{Entry}

-- each stamp is 1 more than the greatest of its entry's clocks and of the stamp before it, the first of these is this one; the clocks are below 2^63
abbrev pub AreStamped : ℕ → List Entry → Type 0
AreStamped before [] = Unit {0}
AreStamped before (e ∷ h) = (e.stamp ≡ 1 + max (max e.sent e.got) before) × (e.sent < 2 ^ 63) ×
    (e.got < 2 ^ 63) × AreStamped e.stamp h

-- the stamp of what is sent and received at these clocks, behind a history
abbrev pub next_stamp : ℕ → ℕ → List Entry → ℕ
next_stamp sent got h = 1 + max (max sent got) (last_stamp h)

-- no entry's stamp is over n
abbrev pub StampedTo : ℕ → List Entry → Type 0
StampedTo n [] = ⊤
StampedTo n (e ∷ es) = (e.stamp ≤ n) × StampedTo n es
