-- Words, one rewrite after the other.
use Rattle.std.specs.Prelude.{ℕ, ◌+◌, ◌&&◌, ◌==◌, List, [], ◌∷◌, ◌++◌, length, take, drop, Option, Some, None, option_and_then, slice_get, slice_index_or, Bool, nat_le, nat_lt, nat_eq, if◌then◌else◌}
use Rattle.std.specs.List.{starts_with}
use Rattle.std.specs.Str.{bytes_eq}
use Rattle.fst_words.specs.Marks.{is_marked}
use Rattle.fst_basis.specs.declared.proof.Pair.{Pair}
use Rattle.fst_basis.specs.declared.proof.Rewrite.{Rewrite}
use Rattle.fst_basis.specs.declared.proof.Rewrite.TheVariants.{Forth, Back, Cut, Grow}

-- y in the place of x, which stands at this place
abbrev pub replaced : ℕ → List ℕ → List ℕ → List ℕ → Option (List ℕ)
replaced at x y w =
    if nat_le at (length w) && starts_with nat_eq (drop at w) x
    then Some (take at w ++ (y ++ drop (length x) (drop at w)))
    else None

-- a marked non-terminal stands at this place
abbrev pub is_marked_at : List Bool → List ℕ → ℕ → Bool
is_marked_at marks w at = nat_lt at (length w) && is_marked marks (slice_index_or w at 0)

-- the word after a rewrite, if it can be made
abbrev pub rewritten : List Bool → List Pair → Rewrite → List ℕ → Option (List ℕ)
rewritten marks basis (Forth at pair) w = option_and_then
    (λ b. replaced at b.left b.right w) (slice_get basis pair)
rewritten marks basis (Back at pair) w = option_and_then
    (λ b. replaced at b.right b.left w) (slice_get basis pair)
rewritten marks basis (Cut at tail) w =
    if is_marked_at marks w at && bytes_eq (drop (at + 1) w) tail then Some
    (take (at + 1) w) else None
rewritten marks basis (Grow at tail) w =
    if is_marked_at marks w at && length w == at + 1 then Some (w ++ tail) else None

-- the word after a chain of rewrites, if they can be made
abbrev pub chained : List Bool → List Pair → List Rewrite → List ℕ → Option (List ℕ)
chained marks basis [] w = Some w
chained marks basis (r ∷ rs) w = option_and_then (chained marks basis rs)
    (rewritten marks basis r w)
