-- The words of types: empty exactly where no move is left.
use Rattle.std.proofs.Common.{◌≡◌, ◌+◌, ℕ, List, [], ◌∷◌, ◌++◌, Bool, true, false, refl, sym, ap, subst}
use Rattle.std.specs.Prelude.{if◌then◌else◌, ◌&&◌}
use Rattle.std.proofs.lemmas.Bool.{and_parts}
use Rattle.fst_types.specs.Tree.{Tree, skip, send, receive, close, wait, select, offer, seq, rec, back, var, plain, arrow, pair, named}
use Rattle.fst_types.specs.Size.{nodes}
use Rattle.fst_types.specs.declared.label.Label.TheVariants.{Send, Receive, Close, Wait, Var}
use Rattle.fst_lts.specs.Step.{terminated}
use Rattle.fst_parts.specs.Place.{Place, place_past, own_place, binder}
use Rattle.fst_grammar.specs.Word.{Numbers, node_at, word}
use Rattle.fst_grammar.proofs.AbstractRules.{Rule, HasRules}

pub append_nothing : (w : List ℕ) → w ++ [] ≡ w
append_nothing [] = refl
append_nothing (n ∷ w) = ap (λ v. n ∷ v) (append_nothing w)

-- a word that isn't empty
abbrev pub Moving : List ℕ → Type 0
Moving w = (z : ℕ) × (d : List ℕ) × (w ≡ z ∷ d)

pub moving_front : (u v : List ℕ) → Moving u → Moving (u ++ v)
moving_front u v (z, d, e) = (z, d ++ v, ap (λ x. x ++ v) e)

module _ (n : Numbers) where
  pub ended_word : (p : Place) (t : Tree) → terminated t ≡ true → word n p t ≡ []
  ended_word p skip e = refl
  ended_word p (send b) e = absurd (cc e)
  ended_word p (receive b) e = absurd (cc e)
  ended_word p close e = absurd (cc e)
  ended_word p wait e = absurd (cc e)
  ended_word p (select cs) e = absurd (cc e)
  ended_word p (offer cs) e = absurd (cc e)
  ended_word p (seq s r) e =
      let h = and_parts (terminated s) (terminated r) e in
      λ i. ended_word (place_past p 1) s h.0 i ++ ended_word (place_past p (1 + nodes s)) r h.1 i
  ended_word p (rec s) e = ap (λ c. if c then [] else node_at n (own_place p (rec s)) ∷ []) e
  ended_word p (back k) e = absurd (cc e)
  ended_word p (var k) e = absurd (cc e)
  ended_word p (plain b) e = absurd (cc e)
  ended_word p (arrow u s r) e = absurd (cc e)
  ended_word p (pair s r) e = absurd (cc e)
  ended_word p (named k) e = absurd (cc e)

  pub moving_word : (rule : Rule) (p : Place) (t : Tree) → HasRules n rule p t → terminated t ≡ false → Moving (word n p t)
  moving_word rule p skip h e = absurd (cc e)
  moving_word rule p (send b) h e = (n.name (Send b), [], refl)
  moving_word rule p (receive b) h e = (n.name (Receive b), [], refl)
  moving_word rule p close h e = (n.name Close, [], refl)
  moving_word rule p wait h e = (n.name Wait, [], refl)
  moving_word rule p (select cs) h e = (node_at n (own_place p (select cs)), [], refl)
  moving_word rule p (offer cs) h e = (node_at n (own_place p (offer cs)), [], refl)
  moving_word rule p (seq s r) h e =
      pick (moving_word rule (place_past p 1) s h.0) (moving_word rule (place_past p (1 + nodes s)) r h.1) (terminated s) refl e
    where
      pick : (terminated s ≡ false → Moving (word n (place_past p 1) s)) →
          (terminated r ≡ false → Moving (word n (place_past p (1 + nodes s)) r)) →
          (c : Bool) → terminated s ≡ c → c && terminated r ≡ false →
          Moving (word n (place_past p 1) s ++ word n (place_past p (1 + nodes s)) r)
      pick front behind true is e =
          subst (λ u. Moving (u ++ word n (place_past p (1 + nodes s)) r)) (sym (ended_word (place_past p 1) s is)) (behind e)
      pick front behind false is e = moving_front (word n (place_past p 1) s) (word n (place_past p (1 + nodes s)) r) (front is)
  moving_word rule p (rec s) h e =
      (node_at n (own_place p (rec s)), [], ap (λ c. if c then [] else node_at n (own_place p (rec s)) ∷ []) e)
  moving_word rule p (back k) h e = (n.node p.whole (binder p.binders k), [], refl)
  moving_word rule p (var k) h e = (n.name (Var k), [], refl)
  moving_word rule p (plain b) h e = absurd h
  moving_word rule p (arrow u s r) h e = absurd h
  moving_word rule p (pair s r) h e = absurd h
  moving_word rule p (named k) h e = absurd h
