-- Histories whose stamps rise, none of them over a clock.
use Rattle.std.proofs.Common.{ℕ, ◌+◌, ◌<◌, ◌≤◌, List, [], ◌∷◌, ◌++◌, length, arith}
use Rattle.std.specs.Prelude.{All}
use Rattle.std.proofs.lemmas.List.Elements.{All-weaker}
use Rattle.fst_types.specs.declared.event.Entry.{Entry}
use Rattle.fst_cell.specs.End.{EndView}
use Rattle.fst_safety.specs.Threads.{IsPast, RiseFrom}

-- none is over a later clock
pub rise_later : (n : ℕ) (es : List Entry) (m l : ℕ) → m ≤ l → RiseFrom n es m → RiseFrom n es l
rise_later n [] m l le h = omega (arith, h, le)
rise_later n (e ∷ es) m l le h = (h.0, rise_later e.stamp es m l le h.1)

-- one more entry, with a stamp over the clock
pub rise_more : (n : ℕ) (es : List Entry) (m : ℕ) (e : Entry) → RiseFrom n es m → m < e.stamp → RiseFrom n (es ++ e ∷ []) e.stamp
rise_more n [] m e h l = (omega (arith, h, l), omega arith)
rise_more n (d ∷ ds) m e h l = (h.0, rise_more d.stamp ds m e h.1 l)

-- so there are as many entries as the clock says at most
pub rise_short : (n : ℕ) (es : List Entry) (m : ℕ) → RiseFrom n es m → n + length es ≤ m
rise_short n [] m h = omega (arith, h)
rise_short n (e ∷ es) m h = let ih = rise_short e.stamp es m h.1 in let l = h.0 in omega (arith, ih, l)

-- what some ends know is past at a later clock
pub later_past : (m l : ℕ) → m ≤ l → (es : List EndView) → All (IsPast m) es → All (IsPast l) es
later_past m l le es h = All-weaker (IsPast m) (IsPast l) (λ e p. rise_later 0 e.knows.history m l le p) es h
