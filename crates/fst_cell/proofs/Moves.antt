-- Each step keeps the rule.
use Rattle.std.proofs.Common.{◌≡◌, ℕ, ◌+◌, ◌*◌, ◌<◌, List, [], ◌∷◌, set, length, Option, Some, None, inl, inr, refl, sym, ap, ◌∙◌, subst, arith}
use Rattle.std.specs.Prelude.{slice_index}
use Rattle.std.specs.Int.Bits.{bit_or}
use mathlib.Core.Option.{Option as Maybe, none, some}
use lib.ListN.{get_elem?}
use Rattle.atomic_table.specs.Table.{State, Me, Act, keeps, takes, gives, Valid, put_back, carried_after, stepped, Allows}
use Rattle.fst_lts.specs.Histories.{opposite}
use Rattle.fst_cell.specs.declared.content.Content.{Content}
use Rattle.fst_cell.specs.declared.content.Half.{Half}
use Rattle.fst_cell.specs.declared.content.View.{View}
use Rattle.fst_cell.specs.declared.content.View.TheVariants.{Only}
use Rattle.fst_cell.specs.Rule.{offers, turn_word, Sound, Fits, Turn, Holds, tried, took, synced, out, Tried}
use Rattle.fst_cell.proofs.Words.{or_even, or_odd}
use Rattle.fst_cell.proofs.Focus.{Focus, focus}
use Rattle.fst_cell.proofs.Places.{synced_fits}

pub or_free : (c : Content) → bit_or (turn_word c 0) 1 ≡ turn_word c 1
or_free c = or_even (2 * length c.history + offers c.offer) (turn_word c 0) (omega arith) ∙ omega arith

or_held : (c : Content) → bit_or (turn_word c 1) 1 ≡ turn_word c 1
or_held c = or_odd (2 * length c.history + offers c.offer) (turn_word c 1) (omega arith)

-- what a step owes
abbrev pub Owed : State (Option Content) View → ℕ → Me (Option Content) View → ℕ →
    (ℕ → Me (Option Content) View → Type 0) → Type 0
Owed s id me new then = (w : View) × (a : Act (Option Content)) × Valid s.homes me.1 a ×
    Holds (stepped s 0 new id me.1 w a) × then (slice_index s.words 0) (w, carried_after me.1 a)

tries_at : (id : ℕ) (v : Half) (s : State (Option Content) View) (c : Content) (f : Focus c s.words s.homes s.views id v)
    (theirs : Option Content)
    → f.beside.held ≡ theirs → Turn c s.words s.homes None theirs →
    Owed s id (Only v, []) (bit_or (slice_index s.words 0) 1) (Tried v)
tries_at id v s c f None is t =
    let n : ℕ = slice_index s.words 0 in
    let word : n ≡ turn_word c 0 = ap (λ (l : List ℕ). slice_index l 0) t.0 in
    let words : set s.words 0 (bit_or n 1) ≡ turn_word c 1 ∷ [] = ap (λ (l : List ℕ). set l 0 (bit_or (slice_index l 0) 1)) t.0
    ∙ ap (λ (k : ℕ). k ∷ []) (or_free c) in
    let homes : set s.homes 0 none ≡ none ∷ [] = ap (λ (l : List (Maybe (Option Content))). set l 0 none) t.1 in (
      Only (took v n c),
      takes 0 (Some c),
      ap (λ (l : List (Maybe (Option Content))). get_elem? l 0) t.1,
      (
        c,
        f.back c (set s.words 0 (bit_or n 1)) (set s.homes 0 none) (took v n c) refl (record {
          sides = f.ends.sides;
          sound = f.ends.sound;
          left = record { declared = f.ends.left.declared; place = f.ends.left.place };
          right = f.ends.right;
          turn = subst (λ (x : Option Content). Turn c (set s.words 0 (bit_or n 1)) (set s.homes 0 none) (Some c) x) (sym is)
              (refl, words, homes);
        }),
      ),
      inr (c, word, refl, f.ends.sound, f.ends.left),
    )
tries_at id v s c f (Some d) is t =
    let n : ℕ = slice_index s.words 0 in
    let word : n ≡ turn_word c 1 = ap (λ (l : List ℕ). slice_index l 0) t.1 in
    let words : set s.words 0 (bit_or n 1) ≡ turn_word c 1 ∷ [] = ap (λ (l : List ℕ). set l 0 (bit_or (slice_index l 0) 1)) t.1
    ∙ ap (λ (k : ℕ). k ∷ []) (or_held c) in (
      Only (tried v n),
      keeps,
      tt,
      (
        c,
        f.back c (set s.words 0 (bit_or n 1)) s.homes (tried v n) refl (record {
          sides = f.ends.sides;
          sound = f.ends.sound;
          left = record { declared = f.ends.left.declared; place = f.ends.left.place };
          right = f.ends.right;
          turn = subst (λ (x : Option Content). Turn c (set s.words 0 (bit_or n 1)) s.homes None x) (sym is) (t.0, words, t.2);
        }),
      ),
      inl (omega arith, refl),
    )

-- a try
pub tries : (slots id : ℕ) (v : Half) → v.held ≡ None → Allows Holds slots id (Only v, []) 0 (λ n. bit_or n 1) (Tried v)
tries slots id v idle s h wide at small =
    let f = focus h.0 s.words s.homes s.views id v h.1 at in
    tries_at id v s h.0 f f.beside.held refl (subst
    (λ (x : Option Content). Turn h.0 s.words s.homes x f.beside.held) idle f.ends.turn)

returns_at : (id : ℕ) (v : Half) (c d : Content) (f : ℕ → ℕ) (s : State (Option Content) View)
    (g : Focus c s.words s.homes s.views id v) (theirs : Option Content)
    → f (turn_word c 1) ≡ turn_word d 0 → Sound d → d.declared ≡ c.declared →
    ((o : Half) → o.side ≡ opposite v.side → Fits c o → Fits d o)
    → g.beside.held ≡ theirs → Turn c s.words s.homes (Some c) theirs
    → Owed s id (Only v, out d) (f (slice_index s.words 0)) (λ n m. m ≡ (Only (synced v d), []))
returns_at id v c d f s g (Some e) word sound same keep is t = absurd t
returns_at id v c d f s g None word sound same keep is t =
    let n : ℕ = slice_index s.words 0 in
    let words : set s.words 0 (f n) ≡ turn_word d 0 ∷ [] = ap (λ (l : List ℕ). set l 0 (f (slice_index l 0))) t.1 ∙ ap
    (λ (k : ℕ). k ∷ []) word in
    let homes : put_back s.homes (out d) ≡ some (Some d) ∷ [] = ap
    (λ (l : List (Maybe (Option Content))). put_back l (out d)) t.2 in (
      Only (synced v d),
      gives,
      tt,
      (
        d,
        g.back d (set s.words 0 (f n)) (put_back s.homes (out d)) (synced v d) refl (record {
          sides = g.ends.sides;
          sound = sound;
          left = synced_fits d v sound (g.ends.left.declared ∙ sym same);
          right = keep g.beside g.ends.sides g.ends.right;
          turn = subst (λ (x : Option Content). Turn d (set s.words 0 (f n)) (put_back s.homes (out d)) None x) (sym is)
              (words, homes);
        }),
      ),
      refl,
    )

held_is : (c e : Content) (ws : List ℕ) (hs : List (Maybe (Option Content))) (theirs : Option Content) →
    Turn e ws hs (Some c) theirs → c ≡ e
held_is c e ws hs None t = t.0
held_is c e ws hs (Some d) t = absurd t

word_held : (c : Content) (ws : List ℕ) (hs : List (Maybe (Option Content))) (theirs : Option Content) →
    Turn c ws hs (Some c) theirs → slice_index ws 0 ≡ turn_word c 1
word_held c ws hs None t = ap (λ (l : List ℕ). slice_index l 0) t.1
word_held c ws hs (Some d) t = absurd t

-- giving the turn back with a content that the other end may see
pub returns : (slots id : ℕ) (v : Half) (c d : Content) (f : ℕ → ℕ) → v.held ≡ Some c
    → (turn_word c 1 < 18446744073709551616 → f (turn_word c 1) ≡ turn_word d 0) → Sound d → d.declared ≡ c.declared →
    ((o : Half) → o.side ≡ opposite v.side → Fits c o → Fits d o)
    → Allows Holds slots id (Only v, out d) 0 f (λ n m. m ≡ (Only (synced v d), []))
returns slots id v c d f holds word sound same keep s h wide at small =
    let g = focus h.0 s.words s.homes s.views id v h.1 at in
    let turn = subst (λ (x : Option Content). Turn h.0 s.words s.homes x g.beside.held) holds g.ends.turn in
    let is : c ≡ h.0 = held_is c h.0 s.words s.homes g.beside.held turn in
    let g' = subst (λ (x : Content). Focus x s.words s.homes s.views id v) (sym is) g in
    let turn' = subst (λ (x : Option Content). Turn c s.words s.homes x g'.beside.held) holds g'.ends.turn in
    let reads = word_held c s.words s.homes g'.beside.held turn' in
    let fits : turn_word c 1 < 18446744073709551616 = subst (λ (k : ℕ). k < 18446744073709551616) reads small in
    returns_at id v c d f s g' g'.beside.held (word fits) sound same keep refl turn'
