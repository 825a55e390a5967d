-- The rule as one end sees it.
use Rattle.std.proofs.Common.{◌≡◌, ℕ, zero, suc, List, [], ◌∷◌, set, Option, Some, None, refl, sym, ap, ◌∙◌, subst}
use mathlib.Core.Option.{Option as Maybe, some}
use lib.ListN.{get_elem?}
use Rattle.fst_types.specs.declared.side.Side.{Side}
use Rattle.fst_types.specs.declared.side.Side.TheVariants.{Left, Right}
use Rattle.fst_lts.specs.Histories.{opposite}
use Rattle.fst_cell.specs.declared.content.Content.{Content}
use Rattle.fst_cell.specs.declared.content.Half.{Half}
use Rattle.fst_cell.specs.declared.content.View.{View}
use Rattle.fst_cell.specs.declared.content.View.TheVariants.{Maker, Only, Whole, Nothing}
use Rattle.fst_cell.specs.Rule.{Turn, Ends, Arranged}

other_twice : (s : Side) → opposite (opposite s) ≡ s
other_twice Left = refl
other_twice Right = refl

turn_swap : (c : Content) (ws : List ℕ) (hs : List (Maybe (Option Content))) (a b : Option Content) → Turn c ws hs a b →
    Turn c ws hs b a
turn_swap c ws hs None None t = t
turn_swap c ws hs None (Some d) t = t
turn_swap c ws hs (Some d) None t = t
turn_swap c ws hs (Some d) (Some e) t = t

pub swap : (c : Content) (ws : List ℕ) (hs : List (Maybe (Option Content))) (l r : Half) → Ends c ws hs l r → Ends c ws hs r l
swap c ws hs l r e = record {
  sides = sym (other_twice l.side) ∙ ap opposite (sym e.sides);
  sound = e.sound;
  left = e.right;
  right = e.left;
  turn = turn_swap c ws hs l.held r.held e.turn;
}

-- an end, with the other one beside it
pub record Focus (c : Content) (ws : List ℕ) (hs : List (Maybe (Option Content))) (views : List View) (id : ℕ)
    (v : Half) : Type 0 where
  pub beside : Half
  pub ends : Ends c ws hs v beside
  pub back : (d : Content) (xs : List ℕ) (ys : List (Maybe (Option Content))) (w : Half) → w.side ≡ v.side →
      Ends d xs ys w beside → Arranged d xs ys (set views id (Only w))

pub focus : (c : Content) (ws : List ℕ) (hs : List (Maybe (Option Content))) (views : List View) (id : ℕ) (v : Half) →
    Arranged c ws hs views → get_elem? views id ≡ some (Only v) → Focus c ws hs views id v
focus c ws hs (Only l ∷ Only r ∷ []) zero v a e =
    let same : l ≡ v = cc in
    subst (λ (x : Half). Focus c ws hs (Only l ∷ Only r ∷ []) 0 x) same
    (record { beside = r; ends = a.1; back = λ d xs ys w side new. (side ∙ a.0, new) })
focus c ws hs (Only l ∷ Only r ∷ []) (suc zero) v a e =
    let same : r ≡ v = cc in
    subst (λ (x : Half). Focus c ws hs (Only l ∷ Only r ∷ []) 1 x) same
    (record { beside = l; ends = swap c ws hs l r a.1; back = λ d xs ys w side new. (a.0, swap d xs ys w l new) })
focus c ws hs (Only l ∷ Only r ∷ []) (suc (suc k)) v a e = absurd (cc)
focus c ws hs (Maker l r ∷ []) zero v a e = absurd (cc)
focus c ws hs (Maker l r ∷ []) (suc k) v a e = absurd (cc)
focus c ws hs (Whole l r ∷ Nothing ∷ []) zero v a e = absurd (cc)
focus c ws hs (Whole l r ∷ Nothing ∷ []) (suc zero) v a e = absurd (cc)
focus c ws hs (Whole l r ∷ Nothing ∷ []) (suc (suc k)) v a e = absurd (cc)
focus c ws hs views id v a e = absurd a
