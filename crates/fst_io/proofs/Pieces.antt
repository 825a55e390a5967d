-- What one piece of the input leaves, and what one piece of the output adds.
use Rattle.std.proofs.Common.{◌≡◌, ℕ, ◌+◌, ◌-◌, ◌≤◌, List, [], ◌++◌, length, length-append, take, drop, take-add, Option, sym, ap, subst, arith}
use Rattle.std.specs.Io.KnownBytes.{Appends, Consumes}
use Rattle.std.proofs.KnownBytes.{Appends-trans, Consumes-trans}
use Rattle.std.proofs.lemmas.List.{take_at, take-append-drop, drop-drop, length-take, length-drop, nil_from_length, take_rest}
use Rattle.fst_io.specs.GivingUp.{LosesAtMost}

-- the bytes left begin with those that were copied out, and go on behind them
pub piece_taken : (bytes copied tail : List ℕ) (next n k : ℕ) → copied ≡ take k (drop next bytes) → k ≡ n →
    next + n ≤ length bytes →
    drop next bytes ≡ take n (copied ++ tail) ++ drop (next + n) bytes
piece_taken bytes copied tail next n k copy same room =
    let all : copied ≡ take n (drop next bytes) = rw (← same) copy in
    let count : length copied ≡ n = omega (arith, ap length all, length-take n (drop next bytes), length-drop next bytes) in
    rw (take_at copied tail n count, all, ← drop-drop n next bytes) (sym (take-append-drop n (drop next bytes)))

-- behind the last byte there is none
pub nothing_left : (bytes : List ℕ) (next : ℕ) → length bytes ≤ next → drop next bytes ≡ []
nothing_left bytes next over = nil_from_length (drop next bytes) (omega (arith, length-drop next bytes))

-- bytes that were lost, and then a piece of n bytes
pub lost_piece : (old mid new : Option (List ℕ)) (lost buffer : List ℕ) (n most : ℕ) → Consumes old mid lost →
    Consumes mid new (take n buffer) → length lost + n ≤ most → LosesAtMost most old new
lost_piece old mid new lost buffer n most before piece count = (
  lost ++ take n buffer,
  Consumes-trans old mid new lost (take n buffer) before piece,
  omega (arith, length-append lost (take n buffer), length-take n buffer),
)

-- a piece behind the first i bytes, of which n are added, makes i + n bytes
pub Appends-piece : (old mid new : Option (List ℕ)) (bytes : List ℕ) (i n : ℕ) → Appends old mid (take i bytes) →
    Appends mid new (take n (take (length bytes - i) (drop i bytes))) → Appends old new (take (i + n) bytes)
Appends-piece old mid new bytes i n before added =
    let here : Appends mid new (take n (drop i bytes)) = subst
    (λ (w : List ℕ). Appends mid new (take n w)) (take_rest bytes i) added in
    subst (Appends old new) (sym (take-add i n bytes))
    (Appends-trans old mid new (take i bytes) (take n (drop i bytes)) before here)
