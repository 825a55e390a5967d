-- One more character with its place.
use Rattle.std.proofs.Common.{◌≡◌, ℕ, suc, ◌+◌, ◌≤◌, ◌<◌, List, [], ◌∷◌, ◌++◌, length, get_or, drop, drop-cons, refl, sym, ap, ◌∙◌, append_assoc, arith}
use Rattle.std.proofs.lemmas.List.{length_push, nil_from_length, append-nil, length-drop}
use Rattle.std.proofs.lemmas.Str.{length-le-encodes, encodes-chars}
use Rattle.std.specs.Str.{chars, IsUtf8}
use Rattle.std.specs.Char.{len_utf8}
use Rattle.fst_lexer.specs.declared.pieces.Placed.{Placed}
use Rattle.fst_lexer.specs.Places.{place_all}

pub place_more : (cs ys : List ℕ) (placed now all : List Placed) (at width c : ℕ) → (length ys < length cs) ×
    (c ≡ get_or cs (length ys) c) → width ≡ len_utf8 c →
    now ≡ placed ++ record { at = at; ch = c } ∷ [] → placed ++ place_all at (drop (length ys) cs) ≡ all →
    now ++ place_all (at + width) (drop (length (ys ++ c ∷ [])) cs) ≡ all
place_more cs ys placed now all at width c h w is so_far =
    let lt : length ys < length cs = h.0 in
    let cut : drop (length ys) cs ≡ c ∷ drop (suc (length ys)) cs = rw (drop-cons cs (length ys) c, ← h.1) refl in
    let n : length (ys ++ c ∷ []) ≡ suc (length ys) = omega (arith, length_push ys c) in
    let before : placed ++ record { at = at; ch = c } ∷ place_all (at + len_utf8 c) (drop (suc (length ys)) cs) ≡ all =
    rw cut at so_far in
    rw (is, w, n, append_assoc) before

pub place_end : (cs : List ℕ) (n : ℕ) (placed all : List Placed) (at : ℕ) → length cs ≤ n →
    placed ++ place_all at (drop n cs) ≡ all → placed ≡ all
place_end cs n placed all at le so_far =
    let end : drop n cs ≡ [] = nil_from_length (drop n cs) (omega (arith, length-drop n cs)) in
    sym (append-nil placed) ∙ rw end at so_far

pub length-place_all : (at : ℕ) (cs : List ℕ) → length (place_all at cs) ≡ length cs
length-place_all at [] = refl
length-place_all at (c ∷ cs) = ap suc (length-place_all (at + len_utf8 c) cs)

-- no more characters than bytes
pub few_places : (bytes : List ℕ) → IsUtf8 bytes → length (place_all 0 (chars bytes)) ≤ length bytes
few_places bytes h = omega (
  arith,
  length-place_all 0 (chars bytes),
  length-le-encodes (chars bytes),
  ap length (encodes-chars bytes h),
)
