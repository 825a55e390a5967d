-- How far a text is read that has the same byte in front of each of its pieces.
use Rattle.std.proofs.Common.{◌≡◌, ◌==◌, false, true, length, ℕ, List, [], ◌∷◌, ◌++◌, refl, sym, ap, ◌∙◌, append_assoc}
use Rattle.std.specs.Prelude.{All, decimal}
use Rattle.std.proofs.lemmas.List.{append-nil}
use Rattle.std.proofs.lemmas.List.Elements.{All-head, All-tail, All-push}
use Rattle.fst_basis.specs.declared.proof.Rewrite.{Rewrite}
use Rattle.fst_cert.specs.Texts.{IsEnd, listed, rewrite_text, rewrites_text, space}
use Rattle.fst_cert.proofs.CutLaws.{IsFree, cut_before}

-- the texts of things, with this byte in front of each
abbrev pub pieces : {X : Type 0} → ℕ → (X → List ℕ) → List X → List ℕ
pieces mark of [] = []
pieces mark of (x ∷ xs) = mark ∷ (of x ++ pieces mark of xs)

pub pieces_end : {X : Type 0} (mark : ℕ) (of : X → List ℕ) (xs : List X) → IsEnd mark (pieces mark of xs)
pieces_end mark of [] = tt
pieces_end mark of (x ∷ xs) = refl

pieces_push : {X : Type 0} (mark : ℕ) (of : X → List ℕ) (xs : List X) (x : X) →
    pieces mark of (xs ++ x ∷ []) ≡ pieces mark of xs ++ mark ∷ of x
pieces_push mark of [] x = ap (λ t. mark ∷ t) (append-nil (of x))
pieces_push mark of (y ∷ xs) x = rw (pieces_push mark of xs x, append_assoc) refl

pub listed_pieces : (mark : ℕ) (ks : List ℕ) → listed mark ks ≡ pieces mark decimal ks
listed_pieces mark [] = refl
listed_pieces mark (k ∷ ks) = rw (listed_pieces mark ks) refl

pub rewrites_pieces : (rs : List Rewrite) → rewrites_text rs ≡ pieces space rewrite_text rs
rewrites_pieces [] = refl
rewrites_pieces (r ∷ rs) = rw (rewrites_pieces rs) refl

-- the text is that of some things that fit
pub record IsText {X : Type 0} (mark : ℕ) (of : X → List ℕ) (Fit : X → Type 0) (bs : List ℕ) : Type 0 where
  pub things : List X
  pub fit : All Fit things
  pub same : bs ≡ pieces mark of things

-- These things are read, each of which fits, and what is left is the text of others if the whole text is one of things that fit.
pub record IsReadTo {X : Type 0} (mark : ℕ) (of : X → List ℕ) (Fit : X → Type 0) (bs : List ℕ) (xs : List X) (rest : List ℕ) :
    Type 0 where
  pub read : bs ≡ pieces mark of xs ++ rest
  pub fit : All Fit xs
  pub others : IsText mark of Fit bs → IsText mark of Fit rest

-- the piece is a thing's text, and what stands behind it is that of others
record IsFirst {X : Type 0} (mark : ℕ) (of : X → List ℕ) (Fit : X → Type 0) (piece more : List ℕ) : Type 0 where
  first : X
  fit : Fit first
  same : piece ≡ of first
  later : IsText mark of Fit more

module _ {X : Type 0} {mark : ℕ} {of : X → List ℕ} {Fit : X → Type 0} {bs : List ℕ} {xs : List X} {rest : List ℕ}
    (far : IsReadTo mark of Fit bs xs rest) where
  -- where a rest doesn't begin with the byte, the text is no things'
  pub no_piece : false ≡ (length rest == 0) → ((r : List ℕ) → rest ≡ mark ∷ r → ⊥) →
      (ys : List X) → All Fit ys → bs ≡ pieces mark of ys → ⊥
  no_piece some apart ys fit e =
      let t = far.others (record { things = ys; fit = fit; same = e }) in
      neither t.things t.same
    where
      neither : (zs : List X) → rest ≡ pieces mark of zs → ⊥
      neither [] is = let h : false ≡ true = rw is at some in cc
      neither (z ∷ zs) is = apart (of z ++ pieces mark of zs) is

  module _ (free : (x : X) → Fit x → IsFree mark (of x)) (piece more : List ℕ) (is : rest ≡ mark ∷ (piece ++ more))
      (apart : IsFree mark piece) (end : IsEnd mark more) where
    -- the next piece is the first thing's, since the thing's text doesn't have the byte either
    first_piece : IsText mark of Fit rest → IsFirst mark of Fit piece more
    first_piece t = by_things t.things t.fit (sym is ∙ t.same)
      where
        by_things : (zs : List X) → All Fit zs → mark ∷ (piece ++ more) ≡ pieces mark of zs → IsFirst mark of Fit piece more
        by_things [] fit e = absurd (cc e)
        by_things (z ∷ zs) fit e =
            let one = All-head Fit z zs fit in
            let h = cut_before mark piece more (of z) (pieces mark of zs) apart (free z one) end (pieces_end mark of zs) (cc) in
            record {
              first = z;
              fit = one;
              same = h.0;
              later = record { things = zs; fit = All-tail Fit z zs fit; same = h.1 };
            }

    -- so it is where the next piece is no thing's text
    pub no_thing : ((x : X) → Fit x → piece ≡ of x → ⊥) → (ys : List X) → All Fit ys → bs ≡ pieces mark of ys → ⊥
    no_thing other ys fit e =
        let f = first_piece (far.others (record { things = ys; fit = fit; same = e })) in
        other f.first f.fit f.same

    -- a thing whose text is the next piece is read
    pub thing_read : (x : X) → piece ≡ of x → Fit x → IsReadTo mark of Fit bs (xs ++ x ∷ []) more
    thing_read x same one = record {
      read = far.read ∙ rw (is, same, pieces_push mark of xs x, append_assoc) refl;
      fit = All-push Fit xs x far.fit one;
      others = λ t. (first_piece (far.others t)).later;
    }
