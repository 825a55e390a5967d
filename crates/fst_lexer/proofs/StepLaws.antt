-- One more piece.
use Rattle.std.proofs.Common.{◌≡◌, ℕ, ◌<◌, inl, inr, Bool, List, ◌++◌, length, take, drop, Option, Some, None, Ok, Err, refl}
use Rattle.fst_lexer.specs.declared.pieces.Placed.{Placed}
use Rattle.fst_lexer.specs.declared.pieces.Piece.{Piece}
use Rattle.fst_lexer.specs.declared.pieces.Piece.TheVariants.{Blank, Comment, Name, Digits, Quoted, Sign}
use Rattle.fst_lexer.specs.declared.token.Token.{Token}
use Rattle.fst_lexer.specs.declared.token.LexFault.{LexFault}
use Rattle.fst_lexer.specs.declared.token.LexFault.TheVariants as fault
use Rattle.fst_lexer.specs.Reading.{piece_at}
use Rattle.fst_lexer.specs.Tokens.{LexesTo, piece, token_of, number_token, number_of, list_of, ends_line, place, IsFault}
use Rattle.fst_base.proofs.Choices.{chosen}
use Rattle.fst_lexer.proofs.NextLaws.{piece_is_next, none_is_next}

-- a piece is text
is_text : (p : Piece) (word : List Placed) (first : Bool) (at : ℕ) → token_of p word first ≡ Err (fault.NotUtf8 at) → ⊥
unfolding token_of
is_text Blank word first at e = cc
is_text Comment word first at e = cc
is_text Name word first at e = elim (chosen _ _ _ _ e) [ inl h ↦ (let is = h.1 in cc) | inr h ↦ (let is = h.1 in cc) ]
is_text Digits word first at e = of_number (number_of word) e
  where
    of_number : (n : Option ℕ) → number_token n word first ≡ Err (fault.NotUtf8 at) → ⊥
    of_number (Some n) is = cc
    of_number None is = cc
is_text Quoted word first at e = cc
is_text Sign word first at e = cc

module _ (text : List Placed) (ts : List Token) (first : Bool) (here : List Placed) (so_far : LexesTo text ts first here) where
  pub goes_on : (p : Piece) (n : ℕ) (word rest : List Placed) (o : Option Token) (us : List Token) (last : Bool) →
      piece_at here ≡ Some (p, n) → word ≡ take n here → rest ≡ drop n here →
      token_of p word first ≡ Ok o → us ≡ ts ++ list_of o → last ≡ ends_line word → LexesTo text us last rest
  goes_on p n word rest o us last is front back token more ends =
      let next = piece_is_next here p n is in
      piece ts us first last here word rest p o so_far (rw (front, back) next) token more ends

  pub bad_char : 0 < length here → piece_at here ≡ None → IsFault text (fault.BadChar (place here))
  bad_char some is = record {
    before = ts;
    first = first;
    here = here;
    lexed = so_far;
    fault =
        inl (record { some = some; none = none_is_next here is; is = refl });
  }

  pub bad_piece : (p : Piece) (n : ℕ) (word : List Placed) (e : LexFault) → piece_at here ≡ Some (p, n) → word ≡ take n here →
      token_of p word first ≡ Err e → IsFault text e
  bad_piece p n word fault.Memory is front bad = tt
  bad_piece p n word (fault.NotUtf8 at) is front bad = absurd (is_text p word first at bad)
  bad_piece p n word e is front bad =
      let next = piece_is_next here p n is in
      record {
        before = ts;
        first = first;
        here = here;
        lexed = so_far;
        fault =
            inr (record { piece = p; word = word; rest = drop n here; next = rw front next; bad = bad });
      }
