-- A type as it is written: its text, that it can be read, and what it means.
use Rattle.std.proofs.Common.{◌≡◌, ℕ, suc, ◌+◌, ◌-◌, ◌<◌, ◌^◌, inl, inr, Bool, true, false, List, ◌∷◌, ◌++◌, length, Some, None, refl, sym, ap, ◌∙◌, arith}
use Rattle.std.specs.Prelude.{◌≢◌, All, codes, option_map}
use Rattle.std.specs.List.{AllPairs}
use Rattle.std.specs.declared.cmp.Ordering.{Ordering}
use Rattle.std.specs.declared.cmp.Ordering.TheVariants.{Less, Equal, Greater}
use Rattle.std.specs.Ordering.{nat_cmp}
use Rattle.std.specs.Cmp.Lexicographic.{slice_cmp}
use Rattle.fst_types.specs.Tree as tree
use Rattle.fst_types.specs.Tree.{Tree, skip, send, receive, close, wait, select, offer, seq, rec, back, var, plain, arrow, pair, named, Branches, none, branch}
use Rattle.fst_types.specs.WrittenTree as written
use Rattle.fst_types.specs.WrittenTree.{WrittenTree, WrittenBranches}
use Rattle.fst_types.specs.Height.{height, height_all}
use Rattle.fst_types.specs.Scoped.{IsScoped, AllScoped}
use Rattle.fst_types.specs.Order.{IsSorted, AreSorted, EachChoiceBelow}
use Rattle.fst_lexer.specs.declared.token.TokenKind.TheVariants as kind
use Rattle.fst_lexer.specs.Spelling.{IsWordOf}
use Rattle.fst_terms.specs.Arranged.{insert, insert_by}
use Rattle.fst_terms.specs.Naming as naming
use Rattle.fst_terms.specs.Naming.{Scope, within, type_of}
use Rattle.fst_types.specs.Named.{IsNamedWithin, AllNamedWithin}
use Rattle.fst_type_print.specs.Texts.{in_parens, in_parens_if, in_braces, joined_text, arrow_text, in_parens_before_semicolon, in_parens_before_arrow, binder_text, variable_text, name_at, text_under, branch_texts}
use Rattle.fst_type_print.specs.WrittenTexts.{is_compound, is_arrow, written_text, written_branch_texts}
use Rattle.fst_roundtrip.specs.ReadBack.{IsNoArrow, IsWritable, AreWritable, variable_names, family_named}
use Rattle.fst_roundtrip.proofs.Showable.{IsShowableType, AreShowableBranches}
use Rattle.fst_roundtrip.proofs.Numbered.{binder_names, binder_lower, variable_lower, binder_place, no_binder, variable_place, upper_no_binder, upper_no_variable, name_in, name_place}
use Rattle.fst_roundtrip.specs.Unplaced.{unplaced_type, unplaced_branches}

abbrev mutual
  -- a type under n recs as it is written, all at place 0; the names are those of the data types
  pub as_written : List (List ℕ) → ℕ → Tree → WrittenTree
  as_written names n skip = written.skip 0
  as_written names n (send b) = written.send 0 b
  as_written names n (receive b) = written.receive 0 b
  as_written names n close = written.close 0
  as_written names n wait = written.wait 0
  as_written names n (select bs) = written.select 0 (all_written names n bs)
  as_written names n (offer bs) = written.offer 0 (all_written names n bs)
  as_written names n (seq s r) = written.seq 0 (as_written names n s) (as_written names n r)
  as_written names n (rec s) = written.rec 0 (binder_text n) (as_written names (suc n) s)
  as_written names n (back k) = written.named 0 (binder_text (n - 1 - k))
  as_written names n (var k) = written.named 0 (variable_text k)
  as_written names n (plain b) = written.plain 0 b
  as_written names n (arrow u s r) = written.arrow 0 u (as_written names n s) (as_written names n r)
  as_written names n (pair s r) = written.pair 0 (as_written names n s) (as_written names n r)
  as_written names n (named k) = written.named 0 (name_at names k)

  -- the branches of a choice
  pub all_written : List (List ℕ) → ℕ → Branches → WrittenBranches
  all_written names n none = written.none
  all_written names n (branch l s bs) = written.branch l (as_written names n s) (all_written names n bs)

arrow_same : (names : List (List ℕ)) (n : ℕ) (t : Tree) → is_arrow (as_written names n t) ≡ in_parens_before_arrow t
arrow_same names n skip = refl
arrow_same names n (send b) = refl
arrow_same names n (receive b) = refl
arrow_same names n close = refl
arrow_same names n wait = refl
arrow_same names n (select bs) = refl
arrow_same names n (offer bs) = refl
arrow_same names n (seq s r) = refl
arrow_same names n (rec s) = refl
arrow_same names n (back k) = refl
arrow_same names n (var k) = refl
arrow_same names n (plain b) = refl
arrow_same names n (arrow u s r) = refl
arrow_same names n (pair s r) = refl
arrow_same names n (named k) = refl

compound_same : (names : List (List ℕ)) (n : ℕ) (t : Tree) → IsNoArrow t →
    is_compound (as_written names n t) ≡ in_parens_before_semicolon t
compound_same names n skip e = refl
compound_same names n (send b) e = refl
compound_same names n (receive b) e = refl
compound_same names n close e = refl
compound_same names n wait e = refl
compound_same names n (select bs) e = refl
compound_same names n (offer bs) e = refl
compound_same names n (seq s r) e = refl
compound_same names n (rec s) e = refl
compound_same names n (back k) e = refl
compound_same names n (var k) e = refl
compound_same names n (plain b) e = refl
compound_same names n (arrow u s r) e = absurd (cc e)
compound_same names n (pair s r) e = refl
compound_same names n (named k) e = refl

-- a text without parentheses
bare : (b : Bool) (text same : List ℕ) → b ≡ false → text ≡ same → in_parens_if b text ≡ same
bare true text same e h = absurd (cc e)
bare false text same e h = h

-- a type that is no function stands in no parentheses where a function does
pub bare_same : (names : List (List ℕ)) (n : ℕ) (t : Tree) → IsNoArrow t →
    written_text (as_written names n t) ≡ text_under names n t →
    in_parens_if (is_arrow (as_written names n t)) (written_text (as_written names n t)) ≡ text_under names n t
bare_same names n t e h = bare (is_arrow (as_written names n t)) (written_text (as_written names n t)) (text_under names n t)
    (arrow_same names n t ∙ e) h

mutual
  -- the text of what is written is the text of the type
  pub text_same : (names : List (List ℕ)) (m n : ℕ) (t : Tree) → IsWritable m t →
      written_text (as_written names n t) ≡ text_under names n t
  text_same names m n skip w = refl
  text_same names m n (send b) w = refl
  text_same names m n (receive b) w = refl
  text_same names m n close w = refl
  text_same names m n wait w = refl
  text_same names m n (select bs) w = ap (λ (texts : List (List ℕ)). codes "+" ++ in_braces (joined_text (codes ", ") texts))
      (texts_same names m n bs w)
  text_same names m n (offer bs) w = ap (λ (texts : List (List ℕ)). codes "&" ++ in_braces (joined_text (codes ", ") texts))
      (texts_same names m n bs w)
  text_same names m n (seq s r) w = λ i. in_parens_if (compound_same names n s w.0 i)
      (text_same names m n s w.2 i) ++ codes ";" ++ bare_same names n r w.1 (text_same names m n r w.3) i
  text_same names m n (rec s) w = λ i. codes "rec " ++ binder_text n ++ codes ". " ++ bare_same names (suc n) s w.0
      (text_same names m (suc n) s w.1) i
  text_same names m n (back k) w = refl
  text_same names m n (var k) w = refl
  text_same names m n (plain b) w = refl
  text_same names m n (arrow u s r) w = λ i. in_parens_if (arrow_same names n s i)
      (text_same names m n s w.0 i) ++ arrow_text u ++ text_same names m n r w.1 i
  text_same names m n (pair s r) w = λ i. in_parens (text_same names m n s w.0 i ++ codes ", " ++ text_same names m n r w.1 i)
  text_same names m n (named k) w = refl

  texts_same : (names : List (List ℕ)) (m n : ℕ) (bs : Branches) → AreWritable m bs →
      written_branch_texts (all_written names n bs) ≡ branch_texts names n bs
  texts_same names m n none w = refl
  texts_same names m n (branch l s bs) w = λ i.
      (l ++ codes ": " ++ bare_same names n s w.1 (text_same names m n s w.2) i) ∷ texts_same names m n bs w.3 i

-- what holds of the names around a type
pub record Around (names : List (List ℕ)) (m : ℕ) : Type 0 where
  pub upper : All (IsWordOf kind.Upper) names
  pub distinct : AllPairs (λ a b. a ≢ b) names
  pub few : m < 2 ^ 64

-- the names in scope within n recs
abbrev pub scope_under : List (List ℕ) → ℕ → ℕ → Scope
scope_under names m n = record {
  recs = binder_names n;
  vars = variable_names 0 m;
  declared = family_named names;
  otherwise =
      None;
}

-- what is written can be read, and means the type
pub record IsMeant (names : List (List ℕ)) (m n : ℕ) (t : Tree) : Type 0 where
  pub showable : IsShowableType (as_written names n t)
  pub means : type_of (scope_under names m n) (as_written names n t) ≡ Some t

-- so do branches
record AreMeant (names : List (List ℕ)) (m n : ℕ) (bs : Branches) : Type 0 where
  showable : AreShowableBranches (all_written names n bs)
  means : naming.branches_of (scope_under names m n) (all_written names n bs) ≡ Some bs

back_meant : (names : List (List ℕ)) (m n k : ℕ) → k < n → n < 2 ^ 64 → IsMeant names m n (back k)
back_meant names m n k below fits = record {
  showable = inl (binder_lower (n - 1 - k) (omega arith));
  means = rw (binder_place n k (n - 1 - k) (omega arith) fits) refl;
}

var_meant : (names : List (List ℕ)) (m n k : ℕ) → k < m → m < 2 ^ 64 → IsMeant names m n (var k)
var_meant names m n k below fits = record {
  showable = inl (variable_lower k (omega arith));
  means = rw (no_binder n k, variable_place m 0 k k (omega arith) below (omega arith)) refl;
}

named_meant : (names : List (List ℕ)) (m n k : ℕ) → Around names m → k < length names → n < 2 ^ 64 → IsMeant names m n (named k)
named_meant names m n k g below fits =
    let x = name_at names k in
    let upper = name_in (IsWordOf kind.Upper) names k below g.upper in
    let few = g.few in
    record {
      showable = inr upper;
      means = rw (
        upper_no_binder n x upper fits,
        upper_no_variable m 0 x upper (omega arith),
        name_place names k below g.distinct,
      ) refl;
    }

-- a branch that stands before another stays there
in_place : (o : Ordering) (l m : List ℕ) (t u : Tree) (bs behind : Branches) → o ≢ Greater →
    insert_by o l t m u bs behind ≡ branch l t (branch m u bs)
in_place Less l m t u bs behind below = refl
in_place Equal l m t u bs behind below = refl
in_place Greater l m t u bs behind below = absurd (below refl)

mutual
  unfolding naming.both

  -- a type under n recs
  pub meant : (names : List (List ℕ)) (m : ℕ) → Around names m →
      (n : ℕ) (t : Tree) → IsScoped n t → IsNamedWithin (length names) t → IsSorted t → IsWritable m t → n + height t < 2 ^ 64 →
      IsMeant names m n t
  meant names m g n skip scoped within sorted writable fits = record { showable = tt; means = refl }
  meant names m g n (send b) scoped within sorted writable fits = record { showable = tt; means = refl }
  meant names m g n (receive b) scoped within sorted writable fits = record { showable = tt; means = refl }
  meant names m g n close scoped within sorted writable fits = record { showable = tt; means = refl }
  meant names m g n wait scoped within sorted writable fits = record { showable = tt; means = refl }
  meant names m g n (select none) scoped within sorted writable fits = absurd sorted.0
  meant names m g n (select (branch l t bs)) scoped within sorted writable fits =
      let all = all_meant names m g n (branch l t bs) scoped within sorted.0 sorted.1 writable (omega arith) in
      record { showable = all.showable; means = rw all.means refl }
  meant names m g n (offer none) scoped within sorted writable fits = absurd sorted.0
  meant names m g n (offer (branch l t bs)) scoped within sorted writable fits =
      let all = all_meant names m g n (branch l t bs) scoped within sorted.0 sorted.1 writable (omega arith) in
      record { showable = all.showable; means = rw all.means refl }
  meant names m g n (seq t u) scoped within sorted writable fits =
      let left = meant names m g n t scoped.0 within.0 sorted.0 writable.2 (omega arith) in
      let right = meant names m g n u scoped.1 within.1 sorted.1 writable.3 (omega arith) in
      record { showable = (left.showable, right.showable); means = rw (left.means, right.means) refl }
  meant names m g n (rec t) scoped within sorted writable fits =
      let body = meant names m g (suc n) t scoped within sorted writable.1 (omega arith) in
      record { showable = (binder_lower n (omega arith), body.showable); means = rw body.means refl }
  meant names m g n (back k) scoped within sorted writable fits = back_meant names m n k scoped (omega arith)
  meant names m g n (var k) scoped within sorted writable fits = var_meant names m n k writable g.few
  meant names m g n (plain b) scoped within sorted writable fits = record { showable = tt; means = refl }
  meant names m g n (arrow uses t u) scoped within sorted writable fits =
      let from = meant names m g n t scoped.0 within.0 sorted.0 writable.0 (omega arith) in
      let to = meant names m g n u scoped.1 within.1 sorted.1 writable.1 (omega arith) in
      record { showable = (from.showable, to.showable); means = rw (from.means, to.means) refl }
  meant names m g n (pair t u) scoped within sorted writable fits =
      let first = meant names m g n t scoped.0 within.0 sorted.0 writable.0 (omega arith) in
      let second = meant names m g n u scoped.1 within.1 sorted.1 writable.1 (omega arith) in
      record { showable = (first.showable, second.showable); means = rw (first.means, second.means) refl }
  meant names m g n (named k) scoped within sorted writable fits = named_meant names m n k g within (omega arith)

  -- the branches of a choice under n recs
  all_meant : (names : List (List ℕ)) (m : ℕ) → Around names m →
      (n : ℕ) (bs : Branches) → AllScoped n bs → AllNamedWithin (length names) bs → AreSorted bs → EachChoiceBelow AreSorted bs →
      AreWritable m bs →
      n + height_all bs < 2 ^ 64 → AreMeant names m n bs
  all_meant names m g n none scoped within order sorted writable fits = absurd order
  all_meant names m g n (branch l t none) scoped within order sorted writable fits =
      let one = meant names m g n t scoped.0 within.0 sorted.0 writable.2 (omega arith) in
      record { showable = (writable.0, one.showable, tt); means = rw one.means refl }
  all_meant names m g n (branch l t (branch o u bs)) scoped within order sorted writable fits =
      let one = meant names m g n t scoped.0 within.0 sorted.0 writable.2 (omega arith) in
      let others = all_meant names m g n (branch o u bs) scoped.1 within.1 order.1 sorted.1 writable.3 (omega arith) in
      record {
        showable = (writable.0, one.showable, others.showable);
        means = rw (one.means, others.means) (ap Some (in_place (slice_cmp nat_cmp l o) l o t u bs (insert l t bs) order.0));
      }

mutual
  -- a type means the same wherever it stands
  meaning_same : (s : Scope) (t : WrittenTree) → type_of s (unplaced_type t) ≡ type_of s t
  meaning_same s (written.skip at) = refl
  meaning_same s (written.send at b) = refl
  meaning_same s (written.receive at b) = refl
  meaning_same s (written.close at) = refl
  meaning_same s (written.wait at) = refl
  meaning_same s (written.select at bs) = ap (option_map tree.select) (branches_same s bs)
  meaning_same s (written.offer at bs) = ap (option_map tree.offer) (branches_same s bs)
  meaning_same s (written.seq at t u) = λ i. naming.both tree.seq (meaning_same s t i) (meaning_same s u i)
  meaning_same s (written.rec at x t) = ap (option_map tree.rec) (meaning_same (within x s) t)
  meaning_same s (written.named at x) = refl
  meaning_same s (written.plain at b) = refl
  meaning_same s (written.arrow at uses t u) = λ i. naming.both (tree.arrow uses) (meaning_same s t i) (meaning_same s u i)
  meaning_same s (written.pair at t u) = λ i. naming.both tree.pair (meaning_same s t i) (meaning_same s u i)

  branches_same : (s : Scope) (bs : WrittenBranches) → naming.branches_of s (unplaced_branches bs) ≡ naming.branches_of s bs
  branches_same s written.none = refl
  branches_same s (written.branch l t bs) = λ i. naming.both (insert l) (meaning_same s t i) (branches_same s bs i)

-- types that differ in places alone mean the same
pub means_same : (s : Scope) (w v : WrittenTree) (t : Tree) → unplaced_type w ≡ unplaced_type v → type_of s v ≡ Some t →
    type_of s w ≡ Some t
means_same s w v t e h = sym (meaning_same s w) ∙ (ap (type_of s) e ∙ (meaning_same s v ∙ h))
