-- The piece that is read is the longest one.
use Rattle.std.proofs.Common.{◌≡◌, ℕ, ◌+◌, ◌≤◌, inl, inr, Bool, true, false, not, ◌&&◌, List, [], ◌∷◌, ◌++◌, length, take, drop, Some, None, refl, sym, ap, subst, ◌∙◌, arith}
use Rattle.std.proofs.Math.Numerals.{one-add}
use Rattle.std.proofs.lemmas.List.{take-append-drop, length-take}
use Rattle.std.specs.List.{prefix_len, list_all}
use Rattle.std.proofs.lemmas.List.Sums.{prefix_len-le-length}
use Rattle.fst_lexer.specs.declared.pieces.Placed.{Placed}
use Rattle.fst_lexer.specs.declared.pieces.Piece.{Piece}
use Rattle.fst_lexer.specs.declared.pieces.Piece.TheVariants.{Blank, Comment, Name, Digits, Quoted, Sign}
use Rattle.fst_lexer.specs.Classes.{is_dash, is_feed, is_quote, is_backslash, is_digit, is_plain, is_escape, is_short, is_long, starts_name, continues_name}
use Rattle.fst_lexer.specs.Piece.{is_piece}
use Rattle.fst_base.specs.Choice.{choose}
use Rattle.fst_lexer.specs.Reading.{sign_at, escaped_at, quoted_at, begins_comment, piece_at}
use Rattle.fst_lexer.specs.Next.{IsNext, NoPiece}
use Rattle.fst_lexer.proofs.ClassLaws.{Class, name_class, digit_class, quote_class, short_class, long_class, dash_short, dash_goes_on, backslash_not_plain}
use Rattle.std.proofs.lemmas.Bool.{and_parts}
use Rattle.fst_base.proofs.Choices.{chosen}

module _ (p : Placed → Bool) where
  prefix_long : (v r : List Placed) → list_all p v ≡ true → length v ≤ prefix_len p (v ++ r)
  prefix_long [] r e = omega arith
  prefix_long (c ∷ cs) r e =
      let h = and_parts (p c) (list_all p cs) e in
      rw h.0 (omega (arith, prefix_long cs r h.1))

  prefix_all : (xs : List Placed) → list_all p (take (prefix_len p xs) xs) ≡ true
  prefix_all [] = refl
  prefix_all (c ∷ cs) = by_head (p c) refl (prefix_all cs)
    where
      by_head : (b : Bool) → p c ≡ b → list_all p (take (prefix_len p cs) cs) ≡ true →
          list_all p (take (prefix_len p (c ∷ cs)) (c ∷ cs)) ≡ true
      by_head true e h = rw (e, one-add) (rw e h)
      by_head false e h = rw e refl

-- at least so many characters are read
record Reads (text : List Placed) (n : ℕ) : Type 0 where
  piece : Piece
  size : ℕ
  is : piece_at text ≡ Some (piece, size)
  long : n ≤ size

single_reads : (a : Placed) (r : List Placed) → is_short a.ch ≡ true → Reads (a ∷ r) 1
unfolding piece_at choose
single_reads a [] h =
    let k = short_class a.ch h in
    record { piece = Sign; size = 1; is = rw (k.blank, k.name, k.digit, k.quote, h) refl; long = omega arith }
single_reads a (b ∷ r) h = by_next (is_dash a.ch && is_dash b.ch) (is_long a.ch b.ch) refl refl (short_class a.ch h)
  where
    by_next : (comment pair : Bool) → (is_dash a.ch && is_dash b.ch) ≡ comment → is_long a.ch b.ch ≡ pair →
        Class a.ch false false false false → Reads (a ∷ b ∷ r) 1
    by_next true pair e f k = record {
      piece = Comment;
      size = 1 + prefix_len (λ p. not (is_feed p.ch)) (b ∷ r);
      is =
          rw (k.blank, k.name, k.digit, k.quote, e) refl;
      long = omega arith;
    }
    by_next false true e f k = record {
      piece = Sign;
      size = 2;
      is = rw (k.blank, k.name, k.digit, k.quote, e, f) refl;
      long =
          omega arith;
    }
    by_next false false e f k = record {
      piece = Sign;
      size = 1;
      is = rw (k.blank, k.name, k.digit, k.quote, e, f, h) refl;
      long =
          omega arith;
    }

reads : (q : Piece) (v r : List Placed) → is_piece q v ≡ true → Reads (v ++ r) (length v)
unfolding piece_at choose
reads Blank (c ∷ []) r e = record { piece = Blank; size = 1; is = rw e refl; long = omega arith }
reads Name (c ∷ cs) r e =
    let h = and_parts (starts_name c.ch) (list_all (λ p. continues_name p.ch) cs) e in
    let k = name_class c.ch h.0 in
    record {
      piece = Name;
      size = 1 + prefix_len (λ p. continues_name p.ch) (cs ++ r);
      is = rw (k.blank, h.0) refl;
      long =
          omega (arith, prefix_long (λ p. continues_name p.ch) cs r h.1);
    }
reads Digits (c ∷ cs) r e =
    let h = and_parts (is_digit c.ch) (list_all (λ p. is_digit p.ch) cs) e in
    let k = digit_class c.ch h.0 in
    record {
      piece = Digits;
      size = 1 + prefix_len (λ p. is_digit p.ch) (cs ++ r);
      is = rw (k.blank, k.name, h.0) refl;
      long =
          omega (arith, prefix_long (λ p. is_digit p.ch) cs r h.1);
    }
reads Comment (a ∷ b ∷ body) r e =
    let h = and_parts (is_dash a.ch && is_dash b.ch) (list_all (λ p. not (is_feed p.ch)) body) e in
    let d = and_parts (is_dash a.ch) (is_dash b.ch) h.0 in
    let k = short_class a.ch (dash_short a.ch d.0) in
    record {
      piece = Comment;
      size = 1 + prefix_len (λ p. not (is_feed p.ch)) (b ∷ (body ++ r));
      is = rw (k.blank, k.name, k.digit, k.quote, h.0) refl;
      long = rw (dash_goes_on b.ch d.1) (omega (arith, prefix_long (λ p. not (is_feed p.ch)) body r h.1));
    }
reads Quoted (a ∷ c ∷ b ∷ []) r e =
    let h = and_parts (is_quote a.ch) (is_plain c.ch && is_quote b.ch) e in
    let k = quote_class a.ch h.0 in
    record { piece = Quoted; size = 3; is = rw (k.blank, k.name, k.digit, h.0, h.1) refl; long = omega arith }
reads Quoted (a ∷ c ∷ x ∷ b ∷ []) r e =
    let h = and_parts (is_quote a.ch) (is_backslash c.ch && (is_escape x.ch && is_quote b.ch)) e in
    let k = quote_class a.ch h.0 in
    let m = and_parts (is_backslash c.ch) (is_escape x.ch && is_quote b.ch) h.1 in
    record {
      piece = Quoted;
      size = 4;
      is = rw (k.blank, k.name, k.digit, h.0, backslash_not_plain c.ch m.0, h.1) refl;
      long =
          omega arith;
    }
reads Sign (a ∷ []) r e = single_reads a r e
reads Sign (a ∷ b ∷ []) r e =
    let k = long_class a.ch b.ch e in
    record { piece = Sign; size = 2; is = rw (k.0.blank, k.0.name, k.0.digit, k.0.quote, k.1, e) refl; long = omega arith }
reads _ _ r e = absurd (cc e)

-- what is read is a piece
record Fits (text : List Placed) (p : Piece) (n : ℕ) : Type 0 where
  is : is_piece p (take n text) ≡ true
  within : n ≤ length text

found_is : {A : Type 0} (x y : A) → Some x ≡ Some y → x ≡ y
found_is x y e = cc

carry : (text : List Placed) (x y : Piece × ℕ) → Some x ≡ Some y → Fits text x.0 x.1 → Fits text y.0 y.1
carry text x y e f = subst (λ (z : Piece × ℕ). Fits text z.0 z.1) (found_is x y e) f

many : (p : Piece) (test : Placed → Bool) (c : Placed) (cs : List Placed) →
    ((w : List Placed) → list_all test w ≡ true → is_piece p (c ∷ w) ≡ true) → Fits (c ∷ cs) p (1 + prefix_len test cs)
many p test c cs h = record {
  is = rw one-add (h (take (prefix_len test cs) cs) (prefix_all test cs));
  within = omega (arith, prefix_len-le-length test cs);
}

sign_fits : (text : List Placed) (x : Piece × ℕ) → sign_at text ≡ Some x → Fits text x.0 x.1
sign_fits [] x e = absurd cc
sign_fits (a ∷ []) x e =
    elim (chosen _ _ _ _ e) [
      | inl h ↦ carry (a ∷ []) (Sign, 1) x h.1 (record { is = h.0; within = omega arith })
      | inr h ↦ absurd (let no = h.1 in cc)
    ]
sign_fits (a ∷ b ∷ cs) x e =
    elim (chosen _ _ _ _ e) [
      | inl h ↦ carry (a ∷ b ∷ cs) (Sign, 2) x h.1 (record { is = h.0; within = omega arith })
      | inr h ↦ elim (chosen _ _ _ _ h.1) [
        | inl k ↦ carry (a ∷ b ∷ cs) (Sign, 1) x k.1 (record { is = k.0; within = omega arith })
        | inr k ↦ absurd (let no = k.1 in cc)
      ]
    ]

module _ (a : Placed) (quote : is_quote a.ch ≡ true) where
  escaped_fits : (cs : List Placed) (x : Piece × ℕ) → escaped_at cs ≡ Some x → Fits (a ∷ cs) x.0 x.1
  escaped_fits [] x e = absurd cc
  escaped_fits (c ∷ []) x e = absurd cc
  escaped_fits (c ∷ b ∷ []) x e = absurd cc
  escaped_fits (c ∷ d ∷ b ∷ cs) x e =
      elim (chosen _ _ _ _ e) [
        | inl h ↦ carry (a ∷ c ∷ d ∷ b ∷ cs) (Quoted, 4) x h.1 (record { is = rw (quote, h.0) refl; within = omega arith })
        | inr h ↦ absurd (let no = h.1 in cc)
      ]

  quoted_fits : (cs : List Placed) (x : Piece × ℕ) → quoted_at cs ≡ Some x → Fits (a ∷ cs) x.0 x.1
  quoted_fits [] x e = absurd cc
  quoted_fits (c ∷ []) x e = absurd cc
  quoted_fits (c ∷ b ∷ cs) x e =
      elim (chosen _ _ _ _ e) [
        | inl h ↦ carry (a ∷ c ∷ b ∷ cs) (Quoted, 3) x h.1 (record { is = rw (quote, h.0) refl; within = omega arith })
        | inr h ↦ escaped_fits (c ∷ b ∷ cs) x h.1
      ]

comment_fits : (c : Placed) (cs : List Placed) → begins_comment (c ∷ cs) ≡ true →
    Fits (c ∷ cs) Comment (1 + prefix_len (λ p. not (is_feed p.ch)) cs)
comment_fits c [] e = absurd (cc e)
comment_fits c (d ∷ cs) e =
    let h = and_parts (is_dash c.ch) (is_dash d.ch) e in
    let size : prefix_len (λ p. not (is_feed p.ch)) (d ∷ cs) ≡ 1 + prefix_len (λ p. not (is_feed p.ch)) cs =
    rw (dash_goes_on d.ch h.1) refl in
    record {
      is = rw (size, one-add, one-add) (rw e (prefix_all (λ p. not (is_feed p.ch)) cs));
      within = omega (arith, size, prefix_len-le-length (λ p. not (is_feed p.ch)) cs);
    }

fits : (text : List Placed) (x : Piece × ℕ) → piece_at text ≡ Some x → Fits text x.0 x.1
unfolding piece_at
fits [] x e = absurd cc
fits (c ∷ cs) x e =
    elim (chosen _ _ _ _ e) [
      | inl h ↦ carry (c ∷ cs) (Blank, 1) x h.1 (record { is = h.0; within = omega arith })
      | inr h ↦ elim (chosen _ _ _ _ h.1) [
        | inl k ↦ carry (c ∷ cs) _ x k.1 (many Name (λ p. continues_name p.ch) c cs (λ w all. rw (k.0, all) refl))
        | inr k ↦ elim (chosen _ _ _ _ k.1) [
          | inl m ↦ carry (c ∷ cs) _ x m.1 (many Digits (λ p. is_digit p.ch) c cs (λ w all. rw (m.0, all) refl))
          | inr m ↦ elim (chosen _ _ _ _ m.1) [
            | inl q ↦ quoted_fits c q.0 cs x q.1
            | inr q ↦ elim (chosen _ _ _ _ q.1) [
              | inl o ↦ carry (c ∷ cs) _ x o.1 (comment_fits c cs o.0)
              | inr o ↦ sign_fits (c ∷ cs) x o.1
            ]
          ]
        ]
      ]
    ]

-- the longest piece
pub piece_is_next : (text : List Placed) (p : Piece) (n : ℕ) → piece_at text ≡ Some (p, n) →
    IsNext text p (take n text) (drop n text)
piece_is_next text p n e =
    let f = fits text (p, n) e in
    record {
      parts = sym (take-append-drop n text);
      is = f.is;
      longest = λ q v r at h.
          let k = reads q v r h in
          let same = found_is (k.piece, k.size) (p, n) (sym k.is ∙ (ap piece_at (sym at) ∙ e)) in
          omega (arith, length-take n text, f.within, k.long, ap (λ (z : Piece × ℕ). z.1) same);
    }

found_none : (x : Piece × ℕ) → Some x ≡ None → ⊥
found_none x e = cc e

pub none_is_next : (text : List Placed) → piece_at text ≡ None → NoPiece text
none_is_next text e q v r at h =
    let k = reads q v r h in
    found_none (k.piece, k.size) (sym k.is ∙ (ap piece_at (sym at) ∙ e))
