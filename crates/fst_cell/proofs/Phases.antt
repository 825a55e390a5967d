-- A cell is made, its ends part, and they are joined.
use Rattle.std.proofs.Common.{◌≡◌, ℕ, zero, suc, List, [], ◌∷◌, set, Option, Some, None, refl, sym, ap, ◌∙◌, subst}
use Rattle.std.specs.Prelude.{slice_index}
use Rattle.std.specs.Int.Bits.{bit_or}
use mathlib.Core.Option.{Option as Maybe, none, some}
use lib.ListN.{get_elem?}
use Rattle.atomic_table.specs.Table.{takes, opening, Allows}
use Rattle.fst_types.specs.Tree.{Tree}
use Rattle.fst_kinds.specs.WellFormed.{IsSession}
use Rattle.fst_cell.specs.declared.content.Content.{Content}
use Rattle.fst_cell.specs.declared.content.Half.{Half}
use Rattle.fst_cell.specs.declared.content.View.{View}
use Rattle.fst_cell.specs.declared.content.View.TheVariants.{Maker, Only, Whole, Nothing}
use Rattle.fst_cell.specs.Rule.{turn_word, Turn, Ends, Arranged, Holds, both_fresh, empty, took, TriedAs}
use Rattle.fst_cell.proofs.ResidualLaws.{trace_none}
use Rattle.fst_cell.proofs.Moves.{or_free}

pub opens : (t : Tree) → IsSession [] t → Holds (opening (0 ∷ []) (Some (empty t) ∷ []) (both_fresh t))
opens t f = (
  empty t,
  (
    refl,
    record {
      sides = refl;
      sound = record { formed = f; trace = trace_none t; stamped = tt; standing = λ s e. absurd (cc) };
      left = record { declared = refl; place = (refl, refl) };
      right = record { declared = refl; place = (refl, refl) };
      turn = (refl, refl);
    },
  ),
)

-- the joined seat
record Joint (c : Content) (ws : List ℕ) (hs : List (Maybe (Option Content))) (views : List View) (id : ℕ)
    (l r : Half) : Type 0 where
  ends : Ends c ws hs l r
  back : (d : Content) (xs : List ℕ) (ys : List (Maybe (Option Content))) (w : Half) → w.side ≡ l.side → Ends d xs ys w r →
      Arranged d xs ys (set views id (Whole w r))

joint : (c : Content) (ws : List ℕ) (hs : List (Maybe (Option Content))) (views : List View) (id : ℕ) (l r : Half) →
    Arranged c ws hs views → get_elem? views id ≡ some (Whole l r) → Joint c ws hs views id l r
joint c ws hs (Whole a b ∷ Nothing ∷ []) zero l r h e =
    let one : a ≡ l = cc in
    let two : b ≡ r = cc in
    subst (λ (x : Half). Joint c ws hs (Whole a b ∷ Nothing ∷ []) 0 x r) one
    (subst (λ (y : Half). Joint c ws hs (Whole a b ∷ Nothing ∷ []) 0 a y) two
    (record { ends = h.1; back = λ d xs ys w side new. (side ∙ h.0, new) }))
joint c ws hs (Whole a b ∷ Nothing ∷ []) (suc zero) l r h e = absurd (cc)
joint c ws hs (Whole a b ∷ Nothing ∷ []) (suc (suc id)) l r h e = absurd (cc)
joint c ws hs (Only a ∷ Only b ∷ []) zero l r h e = absurd (cc)
joint c ws hs (Only a ∷ Only b ∷ []) (suc zero) l r h e = absurd (cc)
joint c ws hs (Only a ∷ Only b ∷ []) (suc (suc id)) l r h e = absurd (cc)
joint c ws hs (Maker a b ∷ []) zero l r h e = absurd (cc)
joint c ws hs (Maker a b ∷ []) (suc id) l r h e = absurd (cc)
joint c ws hs views id l r h e = absurd h

-- the last try finds the turn free
pub tries_last : (slots id : ℕ) (l r : Half) → l.held ≡ None → r.held ≡ None → Allows Holds slots id (Whole l r, []) 0
    (λ n. bit_or n 1) (TriedAs (Whole l r))
tries_last slots id l r free idle s h wide at small =
    let c : Content = h.0 in
    let f = joint c s.words s.homes s.views id l r h.1 at in
    let turn = subst (λ (x : Option Content). Turn c s.words s.homes x None) free
    (subst (λ (x : Option Content). Turn c s.words s.homes l.held x) idle f.ends.turn) in
    let n : ℕ = slice_index s.words 0 in
    let word : n ≡ turn_word c 0 = ap (λ (x : List ℕ). slice_index x 0) turn.0 in
    let words : set s.words 0 (bit_or n 1) ≡ turn_word c 1 ∷ [] = ap (λ (x : List ℕ). set x 0 (bit_or (slice_index x 0) 1)) turn.0
    ∙ ap (λ (k : ℕ). k ∷ []) (or_free c) in
    let homes : set s.homes 0 none ≡ none ∷ [] = ap (λ (x : List (Maybe (Option Content))). set x 0 none) turn.1 in (
      Whole (took l n c) r,
      takes 0 (Some c),
      ap (λ (x : List (Maybe (Option Content))). get_elem? x 0) turn.1,
      (
        c,
        f.back c (set s.words 0 (bit_or n 1)) (set s.homes 0 none) (took l n c) refl (record {
          sides = f.ends.sides;
          sound = f.ends.sound;
          left = record { declared = f.ends.left.declared; place = f.ends.left.place };
          right = f.ends.right;
          turn = subst (λ (x : Option Content). Turn c (set s.words 0 (bit_or n 1)) (set s.homes 0 none) (Some c) x) (sym idle)
              (refl, words, homes);
        }),
      ),
      (c, word, refl, f.ends.sound, f.ends.left, f.ends.right),
    )
