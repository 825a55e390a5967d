-- Following a pair by its letters.
use Rattle.std.proofs.Common.{◌≡◌, ◌≢◌, ◌↔◌, ℕ, suc, ◌+◌, ◌<◌, ◌≤◌, List, [], ◌∷◌, ◌++◌, length, take, drop, refl, sym, ◌∙◌, ap, subst, arith, inl, inr, Some, None, Option, Bool, true, false, ◌==◌, cond}
use Rattle.std.specs.Prelude.{option_map, slice_get}
use Rattle.std.proofs.lemmas.List.{take_all}
use Rattle.std.proofs.lemmas.Option.{slice_get_within}
use Rattle.fst_base.proofs.Bools.{same_number}
use Rattle.fst_base.proofs.Lists.{get-push, get_there, length-push}
use Rattle.fst_words.specs.declared.rules.Rule.{Rule}
use Rattle.fst_words.specs.Ordered.{AreOrdered}
use Rattle.fst_words.specs.Words.{Productions, first_row, row_of, rule_of, step}
use Rattle.fst_norms.specs.Pruned.{pruned_word}
use Rattle.fst_basis.specs.declared.proof.Pair.{Pair}
use Rattle.fst_basis.specs.Basis.{IsPair, same_letters}
use Rattle.fst_basis.proofs.Laws.{as_long, letters_at, pair_told, rule_there}
use Rattle.fst_expand.specs.Bridge.{AreFit, HaveMet, HaveNoRoom, Meet}
use Rattle.fst_expand.specs.Expansion.{AddsNext, AreAfter, AreFollowed, IsFollowed, LackRoom}
use Rattle.fst_expand.specs.Good.{DropHeads, Each, HaveCutsAfter, HavePrunedCuts, IsIn}
use Rattle.fst_expand.specs.Table.{Adds, Grows}
use Rattle.fst_expand.proofs.CollectLaws.{each_more, grows_none, grows_on}
use Rattle.fst_expand.proofs.CutLaws.{same_cuts}
use Rattle.fst_expand.proofs.PlaceLaws.{one_item, parted, taken}

-- a letter that a row has stands at some place
pub rule_at : (rules : List Rule) (a : ℕ) (w : List ℕ) → rule_of rules a ≡ Some w → (j : ℕ) × (r : Rule) ×
    (slice_get rules j ≡ Some r) × (r.letter ≡ a)
rule_at [] a w e = absurd (cc e)
rule_at (r ∷ rules) a w e =
    (elim (r.letter == a) as (λ b. (r.letter == a) ≡ b → (cond {A = Option (List ℕ)} b (Some r.word) (rule_of rules a)) ≡ Some w →
    (j : ℕ) × (q : Rule) × (slice_get (r ∷ rules) j ≡ Some q) × (q.letter ≡ a)) [
      | true ↦ λ t f. (0, r, refl, same_number r.letter a t)
      | false ↦ λ t f. let p = rule_at rules a w f in (suc p.0, p.1, p.2, p.3)
    ]) refl e

-- a word that performs a letter performs that of a rule of its first non-terminal
letter_at : (rows : Productions) (n a : ℕ) (t x : List ℕ) → step rows (n ∷ t) a ≡ Some x → (j : ℕ) × (r : Rule) ×
    (slice_get (row_of rows n) j ≡ Some r) × (r.letter ≡ a)
letter_at rows n a t x e =
    (elim (rule_of (row_of rows n) a) as (λ o. rule_of (row_of rows n) a ≡ o → option_map (λ (v : List ℕ). v ++ t) o ≡ Some x →
    (j : ℕ) × (r : Rule) × (slice_get (row_of rows n) j ≡ Some r) × (r.letter ≡ a)) [
      | None ↦ λ is f. absurd (cc f)
      | Some w ↦ λ is f. rule_at (row_of rows n) a w is
    ]) refl e

-- a pair with these words moves by the rules of their first non-terminals, which have the same letters exactly where it is one
pub pair_moves : (rows : Productions) (b : Pair) (n m : ℕ) (t s : List ℕ) → b.left ≡ n ∷ t → b.right ≡ m ∷ s →
    AreOrdered (row_of rows n) → AreOrdered (row_of rows m) →
    (same_letters (row_of rows n) (row_of rows m) ≡ true) ↔ IsPair rows b
pair_moves rows b n m t s left right on om =
    let l : first_row rows b.left ≡ row_of rows n = ap (first_row rows) left in
    let r : first_row rows b.right ≡ row_of rows m = ap (first_row rows) right in
    let some_left : b.left ≢ [] = λ e. absurd (let f : n ∷ t ≡ [] = sym left ∙ e in cc) in
    let some_right : b.right ≢ [] = λ e. absurd (let f : m ∷ s ≡ [] = sym right ∙ e in cc) in
    rw (l, r) at (pair_told rows b some_left some_right (rw l on) (rw r om))

pub letter_there : (rows : Productions) (w : List ℕ) (a : ℕ) (x : List ℕ) → step rows w a ≡ Some x → (j : ℕ) × (r : Rule) ×
    (slice_get (first_row rows w) j ≡ Some r) × (r.letter ≡ a)
letter_there rows [] a x e = absurd (cc e)
letter_there rows (n ∷ t) a x e = letter_at rows n a t x e

-- what two words become by the rules at one place
pub after_at : (rows : Productions) (b : Pair) (n m : ℕ) (t s : List ℕ) (i : ℕ) (r q : Rule) → b.left ≡ n ∷ t → b.right ≡ m ∷ s →
    AreOrdered (row_of rows n) → AreOrdered (row_of rows m) →
    same_letters (row_of rows n) (row_of rows m) ≡ true → slice_get (row_of rows n) i ≡ Some r →
    slice_get (row_of rows m) i ≡ Some q → AreAfter rows b r.letter (r.word ++ t) (q.word ++ s)
after_at rows b n m t s i r q left right on om same ri qi =
    let letter = letters_at (row_of rows n) (row_of rows m) i r q same ri qi in
    record {
      left = ap (λ (z : List ℕ). step rows z r.letter) left
          ∙ ap (option_map (λ (v : List ℕ). v ++ t)) (rule_there (row_of rows n) i r on ri);
      right = ap (λ (z : List ℕ). step rows z r.letter) right ∙ ap
          (λ (a : ℕ). option_map (λ (v : List ℕ). v ++ s) (rule_of (row_of rows m) a)) letter
          ∙ ap (option_map (λ (v : List ℕ). v ++ s)) (rule_there (row_of rows m) i q om qi);
    }

module _ (rows : Productions) (marks : List Bool) (norms : List (Option ℕ)) (words : List (List ℕ)) (b : Pair) where
  -- the cuts after a letter are those of the words that it leads to
  pub cuts_after : (a : ℕ) (x y : List ℕ) (cuts : List Pair) (heads : ℕ) → AreAfter rows b a x y →
      HaveCutsAfter rows marks norms words b a cuts heads → HavePrunedCuts marks norms words x y cuts heads
  cuts_after a x y cuts heads l h =
      let left : h.x ≡ x = (let f : Some h.x ≡ Some x = sym h.left ∙ l.left in cc) in
      let right : h.y ≡ y = (let f : Some h.y ≡ Some y = sym h.right ∙ l.right in cc) in
      let R : List ℕ → List ℕ → Type 0 = λ v w. HavePrunedCuts marks norms words v w cuts heads in
      subst (λ (v : List ℕ). R v y) left (subst (R h.x) right h.cut)

  -- and the other way round
  pub after_cuts : (a : ℕ) (x y : List ℕ) (cuts : List Pair) (heads : ℕ) → AreAfter rows b a x y →
      HavePrunedCuts marks norms words x y cuts heads → HaveCutsAfter rows marks norms words b a cuts heads
  after_cuts a x y cuts heads l h = record { x = x; y = y; left = l.left; right = l.right; cut = h }

  same_after : (a : ℕ) (cuts others : List Pair) (heads count : ℕ) → HaveCutsAfter rows marks norms words b a cuts heads →
      HaveCutsAfter rows marks norms words b a others count →
      (cuts ≡ others) × (heads ≡ count)
  same_after a cuts others heads count h k =
      same_cuts norms words (pruned_word marks k.x) (pruned_word marks k.y) cuts others heads count
      (cuts_after a k.x k.y cuts heads (record { left = k.left; right = k.right }) h) k.cut

  -- by the letters of some rules one number of heads is dropped
  pub same_drops : (rules : List Rule) (n k : ℕ) → DropHeads rows marks norms words b rules n →
      DropHeads rows marks norms words b rules k → n ≡ k
  same_drops [] n k d e = d ∙ sym e
  same_drops (r ∷ rules) n k d e =
      let c = same_after r.letter d.0 e.0 d.1 e.1 d.3 e.3 in
      let h = c.1 in
      let s = same_drops rules d.2 e.2 d.4 e.4 in
      let x = d.5 in
      let y = e.5 in
      omega arith

  pub drops_push : (rules : List Rule) (r : Rule) (n h : ℕ) (cuts : List Pair) → DropHeads rows marks norms words b rules n →
      HaveCutsAfter rows marks norms words b r.letter cuts h →
      DropHeads rows marks norms words b (rules ++ r ∷ []) (n + h)
  drops_push [] r n h cuts d c = (cuts, h, 0, c, refl, (let e = d in omega arith))
  drops_push (q ∷ rules) r n h cuts d c = (
    d.0,
    d.1,
    d.2 + h,
    d.3,
    drops_push rules r d.2 h cuts d.4 c,
    (let e = d.5 in omega arith),
  )

  drops_parts : (front rest : List Rule) (n : ℕ) → DropHeads rows marks norms words b (front ++ rest) n →
      (j k : ℕ) × DropHeads rows marks norms words b front j × DropHeads rows marks norms words b rest k × (n ≡ j + k)
  drops_parts [] rest n d = (0, n, refl, d, (let e : n ≡ 0 + n = omega arith in e))
  drops_parts (r ∷ front) rest n d =
      let p = drops_parts front rest d.2 d.4 in
      let e = d.5 in
      let f = p.4 in
      (d.1 + p.0, p.1, (d.0, d.1, p.0, d.3, p.2, refl), p.3, omega arith)

  -- the cuts by the letter of one of the rules, and the heads, which are some of all
  pub drops_at : (rules : List Rule) (n i : ℕ) (r : Rule) → DropHeads rows marks norms words b rules n →
      slice_get rules i ≡ Some r →
      (cuts : List Pair) × (h : ℕ) × HaveCutsAfter rows marks norms words b r.letter cuts h × (h ≤ n)
  drops_at rules n i r d e =
      let p = drops_parts (take i rules) (r ∷ drop (suc i) rules) n
      (subst (λ (z : List Rule). DropHeads rows marks norms words b z n) (parted rules i r e) d) in
      let q = p.3 in
      let s = p.4 in
      let u = q.5 in
      (q.0, q.1, q.3, omega arith)

  module _ (old : List Pair) (rules others : List Rule) (t s : List ℕ) where
    module _ (P Q : List Pair) (counts : List ℕ) (heads : ℕ) (r q : Rule) (ri : slice_get rules (length counts) ≡ Some r)
        (qi : slice_get others (length counts) ≡ Some q)
        (after : AreAfter rows b r.letter (r.word ++ t) (q.word ++ s))
        (f : AreFollowed rows marks norms words b old P rules others t s counts heads) where
      adds_more : (cuts : List Pair) (h : ℕ) → HaveCutsAfter rows marks norms words b r.letter cuts h → Adds cuts P Q →
          AddsNext rows marks norms words b old Q
      adds_more cuts h cut new = λ at c e. elim (new at c e) [
        | inl i ↦ f.adds i.0 c i.1
        | inr i ↦ inr (record { letter = r.letter; cuts = cuts; heads = h; cut = cut; there = i })
      ]

      have_more : (x y : List ℕ) (k : ℕ) → Grows P Q → HaveMet marks norms words x y P k → HaveMet marks norms words x y Q k
      have_more x y k grows h = record { cuts = h.cuts; cut = h.cut; there = each_more h.cuts P Q grows h.there }

      pub followed_next : (h : ℕ) → Meet marks norms words (r.word ++ t) (q.word ++ s) P Q h →
          AreFollowed rows marks norms words b old Q rules others t s (counts ++ h ∷ []) (heads + h)
      followed_next h m =
          let cut = after_cuts r.letter (r.word ++ t) (q.word ++ s) m.met.cuts h after m.met.cut in
          let longer : length (counts ++ h ∷ []) ≡ length counts + 1 = (let l = length-push counts h in omega arith) in
          let more : take (length (counts ++ h ∷ [])) rules ≡ take (length counts) rules ++ r ∷ [] = ap
          (λ (k : ℕ). take k rules) longer ∙ taken rules (length counts) r ri in
          record {
            grows = grows_on old P Q f.grows m.grows;
            each = λ j k r2 q2 e rj qj. elim (get-push counts h k j e) [
              | inl before ↦ have_more (r2.word ++ t) (q2.word ++ s) k m.grows (f.each j k r2 q2 before rj qj)
              | inr last ↦
                  let same_r : r2 ≡ r = one_item rules (length counts) r2 r
                  (subst (λ (z : ℕ). slice_get rules z ≡ Some r2) last.0 rj) ri in
                  let same_q : q2 ≡ q = one_item others (length counts) q2 q
                  (subst (λ (z : ℕ). slice_get others z ≡ Some q2) last.0 qj) qi in
                  let R : Rule → Rule → ℕ → Type 0 = λ x y z. HaveMet marks norms words (x.word ++ t) (y.word ++ s) Q z in
                  subst (λ (x : Rule). R x q2 k) (sym same_r)
                  (subst (λ (y : Rule). R r y k) (sym same_q) (subst (R r q) last.1 m.met))
            ];
            drop = subst (λ (z : List Rule). DropHeads rows marks norms words b z (heads + h)) (sym more)
                (drops_push (take (length counts) rules) r heads h m.met.cuts f.drop cut);
            adds = adds_more m.met.cuts h cut m.adds;
            fit = m.fit;
          }

      pub lack_next : (room all : ℕ) → rules ≡ first_row rows b.left →
          HaveNoRoom marks norms words (r.word ++ t) (q.word ++ s) P Q room → all ≡ room + heads →
          LackRoom rows marks norms words b old Q all
      lack_next room all is full sum = record {
        grows = grows_on old P Q f.grows full.grows;
        cuts = λ count d.
            let whole = subst (λ (z : List Rule). DropHeads rows marks norms words b z count)
            (sym is ∙ parted rules (length counts) r ri) d in
            let p = drops_parts (take (length counts) rules) (r ∷ drop (suc (length counts)) rules) count whole in
            let same = same_drops (take (length counts) rules) p.0 heads p.2 f.drop in
            let u = p.3 in
            let m = full.cuts u.0 u.1 (cuts_after r.letter (r.word ++ t) (q.word ++ s) u.0 u.1 after u.3) in
            let x = p.4 in
            let y = u.5 in
            let e = m.1 in
            (adds_more u.0 u.1 u.3 m.0, omega arith);
      }

    pub followed_last : (n m : ℕ) (P : List Pair) (counts : List ℕ) (heads : ℕ) → b ≡ record { left = n ∷ t; right = m ∷ s } →
        rules ≡ row_of rows n → others ≡ row_of rows m →
        AreOrdered (row_of rows n) → AreOrdered (row_of rows m) → same_letters (row_of rows n) (row_of rows m) ≡ true →
        length words ≡ length rows → length counts ≡ length rules →
        AreFollowed rows marks norms words b old P rules others t s counts heads → IsFollowed rows marks norms words b old P heads
    followed_last n m P counts heads is ri qi on om same long count f =
        let left : b.left ≡ n ∷ t = ap (λ (z : Pair). z.left) is in
        let right : b.right ≡ m ∷ s = ap (λ (z : Pair). z.right) is in
        let all : take (length counts) rules ≡ first_row rows b.left = take_all (length counts) rules (omega (arith, count)) ∙ ri
        ∙ sym (ap (first_row rows) left) in
        record {
          pair = (pair_moves rows b n m t s left right on om).0 same;
          grows = f.grows;
          drop = subst (λ (z : List Rule). DropHeads rows marks norms words b z heads) all f.drop;
          closed = λ a cuts h z.
              let j = letter_at rows n a t z.x (ap (λ (v : List ℕ). step rows v a) (sym left) ∙ z.left) in
              let within = slice_get_within (row_of rows n) j.0 j.1 j.2 in
              let wide = as_long (row_of rows n) (row_of rows m) same in
              let q = get_there (row_of rows m) j.0 (omega (arith, wide, within)) in
              let inside : j.0 < length counts = (let l = ap length ri in omega (arith, l, within, count)) in
              let h2 = get_there counts j.0 inside in
              let met = f.each j.0 h2.0 j.1 q.0 h2.1 (ap (λ (v : List Rule). slice_get v j.0) ri ∙ j.2)
              (ap (λ (v : List Rule). slice_get v j.0) qi ∙ q.1) in
              let after = after_at rows b n m t s j.0 j.1 q.0 left right on om same j.2 q.1 in
              let cut = cuts_after j.1.letter (j.1.word ++ t) (q.0.word ++ s) cuts h after
              (subst (λ (k : ℕ). HaveCutsAfter rows marks norms words b k cuts h) (sym j.3) z) in
              let one = same_cuts norms words (pruned_word marks (j.1.word ++ t))
              (pruned_word marks (q.0.word ++ s)) cuts met.cuts h h2.0 cut met.cut in
              subst (Each (λ c. IsIn c P)) (sym one.0) met.there;
          adds = f.adds;
          fit = subst (λ (k : ℕ). AreFit marks k P) long f.fit;
        }

-- where the cuts of two words are all there, none is added, or there is no room for their heads
pub met_again : (marks : List Bool) (norms : List (Option ℕ)) (words : List (List ℕ)) (x y : List ℕ) (P : List Pair) (heads : ℕ) →
    HaveMet marks norms words x y P heads →
    AreFit marks (length words) P → Meet marks norms words x y P P heads
met_again marks norms words x y P heads met fit =
    record { met = met; grows = grows_none P; adds = λ at b e. inl (at, e); fit = fit }

pub crowded_again : (marks : List Bool) (norms : List (Option ℕ)) (words : List (List ℕ)) (x y : List ℕ) (P : List Pair)
    (heads room : ℕ) → HaveMet marks norms words x y P heads →
    room < length P + heads → HaveNoRoom marks norms words x y P P room
crowded_again marks norms words x y P heads room met full = record {
  grows = grows_none P;
  cuts = λ cuts count h.
      let same = same_cuts norms words (pruned_word marks x) (pruned_word marks y) met.cuts cuts heads count met.cut h in
      let e = same.1 in
      ((λ at b f. inl (at, f)), omega arith);
}
