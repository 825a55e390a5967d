-- Where a token ends, no line begins.
use Rattle.std.proofs.Common.{◌≡◌, ℕ, Bool, true, false, not, ◌&&◌, List, [], ◌∷◌, Some, Ok, refl, arith}
use Rattle.std.specs.List.{list_all}
use Rattle.std.specs.Str.{byte}
use Rattle.std.proofs.lemmas.Bool.{not-true, and_parts}
use Rattle.unicode_ident.proofs.IdentLemmas.{is_xid_continue-ascii}
use Rattle.fst_lexer.specs.declared.pieces.Placed.{Placed}
use Rattle.fst_lexer.specs.declared.pieces.Piece.{Piece}
use Rattle.fst_lexer.specs.declared.pieces.Piece.TheVariants.{Blank, Comment, Name, Digits, Quoted, Sign}
use Rattle.fst_lexer.specs.declared.token.Token.{Token}
use Rattle.fst_lexer.specs.Classes.{is_blank, is_feed, is_quote, is_backslash, is_digit, is_plain, is_escape, long_signs, starts_name, continues_name}
use Rattle.fst_lexer.specs.Piece.{is_piece}
use Rattle.fst_lexer.specs.Tokens.{token_of, ends_line}
use Rattle.fst_lexer.proofs.ClassLaws.{each_text, digit_class, quote_class, name_class, short_class}
use Rattle.fst_base.proofs.Bools.{same_number, excluded}

feed_blank : (c : ℕ) → is_feed c ≡ true → is_blank c ≡ true
feed_blank c e = rw (same_number c (byte "\n") e) refl

feed_ends_name : (c : ℕ) → is_feed c ≡ true → continues_name c ≡ false
feed_ends_name c e = rw (same_number c (byte "\n") e) (is_xid_continue-ascii (byte "\n") (omega arith))

no_feed : (c : ℕ) → is_blank c ≡ false → is_feed c ≡ false
no_feed c e = by_test (is_feed c) refl
  where
    by_test : (b : Bool) → is_feed c ≡ b → b ≡ false
    by_test true h = absurd (let k = feed_blank c h in cc)
    by_test false h = refl

-- no line begins behind characters none of which is a line feed
none_feeds : (test : ℕ → Bool) → ((c : ℕ) → test c ≡ true → is_feed c ≡ false) →
    (c : Placed) (cs : List Placed) → is_feed c.ch ≡ false → list_all (λ p. test p.ch) cs ≡ true → ends_line (c ∷ cs) ≡ false
none_feeds test none c [] first all = first
none_feeds test none c (d ∷ cs) first all =
    let h = and_parts (test d.ch) (list_all (λ p. test p.ch) cs) all in
    none_feeds test none d cs (none d.ch h.0) h.1

-- no line begins behind a piece that is a token
pub ends_inside : (p : Piece) (word : List Placed) (first : Bool) (t : Token) → is_piece p word ≡ true →
    token_of p word first ≡ Ok (Some t) → ends_line word ≡ false
unfolding token_of
ends_inside Blank word first t is e = absurd (cc e)
ends_inside Comment word first t is e = absurd (cc e)
ends_inside Name (c ∷ cs) first t is e =
    let h = and_parts (starts_name c.ch) (list_all (λ p. continues_name p.ch) cs) is in
    none_feeds continues_name (λ d k. excluded (is_feed d) (continues_name d) (feed_ends_name d) k) c cs
    (no_feed c.ch (name_class c.ch h.0).blank) h.1
ends_inside Digits (c ∷ cs) first t is e =
    let h = and_parts (is_digit c.ch) (list_all (λ p. is_digit p.ch) cs) is in
    none_feeds is_digit (λ d k. no_feed d (digit_class d k).blank) c cs (no_feed c.ch (digit_class c.ch h.0).blank) h.1
ends_inside Quoted (a ∷ c ∷ b ∷ []) first t is e =
    let q = and_parts (is_quote a.ch) (is_plain c.ch && is_quote b.ch) is in
    no_feed b.ch (quote_class b.ch (and_parts (is_plain c.ch) (is_quote b.ch) q.1).1).blank
ends_inside Quoted (a ∷ c ∷ x ∷ b ∷ []) first t is e =
    let q = and_parts (is_quote a.ch) (is_backslash c.ch && (is_escape x.ch && is_quote b.ch)) is in
    let k = and_parts (is_backslash c.ch) (is_escape x.ch && is_quote b.ch) q.1 in
    no_feed b.ch (quote_class b.ch (and_parts (is_escape x.ch) (is_quote b.ch) k.1).1).blank
ends_inside Sign (a ∷ []) first t is e = no_feed a.ch (short_class a.ch is).blank
ends_inside Sign (a ∷ b ∷ []) first t is e = not-true (is_feed b.ch) (each_text second long_signs (a.ch ∷ b.ch ∷ []) refl is)
  where
    second : List ℕ → Bool
    second (c ∷ d ∷ cs) = not (is_feed d)
    second _ = false
ends_inside _ word first t is e = absurd (cc is)
