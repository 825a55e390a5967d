-- How a word of each kind is read.
use Rattle.std.proofs.Common.{◌≡◌, ℕ, ◌<◌, ◌≤◌, ◌^◌, Bool, true, false, List, ◌∷◌, length, refl, ◌∙◌, arith}
use Rattle.std.proofs.Math.Utf8.{encodes}
use Rattle.std.proofs.lemmas.Str.{chars-IsAscii, encodes-chars, IsUtf8-from_ascii}
use Rattle.std.proofs.lemmas.Fmt.{IsAscii-decimal}
use Rattle.std.specs.Prelude.{pos, negsuc}
use Rattle.std.specs.Str.{chars, IsAscii, IsUtf8}
use Rattle.fst_lexer.specs.declared.pieces.Piece.{Piece}
use Rattle.fst_lexer.specs.declared.pieces.Piece.TheVariants.{Name, Digits, Quoted, Sign}
use Rattle.fst_lexer.specs.declared.token.TokenKind.{TokenKind}
use Rattle.fst_lexer.specs.declared.token.TokenKind.TheVariants as kind
use Rattle.fst_base.specs.Limits.{longest_name}
use Rattle.fst_lexer.specs.Classes.{is_reserved}
use Rattle.fst_base.specs.Choice.{choose}
use Rattle.fst_lexer.specs.Spelling.{IsWordOf, IsFreeName, ends_before, is_capital}
use Rattle.fst_lexer.proofs.WordLaws.{Reads, Makes, name_reads, digits_read, sign_reads, quoted_reads, name_makes, digits_make, sign_makes, quoted_makes}
use Rattle.fst_lexer.proofs.ByteLaws.{sign_ascii, reserved_letters, figures, ends_name_is, ends_number_is, ends_sign_is}

-- how a word of this kind is read before a rest
pub record IsRead (k : TokenKind) (text rest : List ℕ) : Type 0 where
  pub piece : Piece
  pub utf8 : IsUtf8 text
  pub reads : Reads piece (chars text) (chars rest)
  pub makes : Makes piece (chars text) k

free_name : (k : TokenKind) (text rest : List ℕ) (b : Bool) → IsFreeName text → is_capital (chars text) ≡ b →
    choose b kind.Upper kind.Lower ≡ k → IsUtf8 rest → ends_before kind.Lower text rest ≡ true → IsRead k text rest
unfolding choose
free_name k text rest b n capital is good apart =
    let size : length (encodes (chars text)) ≤ longest_name = rw (encodes-chars text n.utf8) n.short in
    record {
      piece = Name;
      utf8 = n.utf8;
      reads = name_reads (chars text) (chars rest) n.name (ends_name_is rest good apart);
      makes = name_makes (chars text) k size (rw (n.free, capital) is);
    }

reserved_word : (text rest : List ℕ) → is_reserved text ≡ true → IsUtf8 rest → ends_before kind.Reserved text rest ≡ true →
    IsRead kind.Reserved text rest
unfolding choose
reserved_word text rest is good apart =
    let l = reserved_letters text is in
    let utf8 = IsUtf8-from_ascii text l.ascii in
    let same : chars text ≡ text = chars-IsAscii text l.ascii in
    let size : length (encodes (chars text)) ≤ longest_name = rw (encodes-chars text utf8) l.short in
    record {
      piece = Name;
      utf8 = utf8;
      reads = name_reads (chars text) (chars rest) (rw same l.name) (ends_name_is rest good apart);
      makes = name_makes (chars text) kind.Reserved size (rw (same, is) refl);
    }

pub word_read : (k : TokenKind) (text rest : List ℕ) → IsWordOf k text → IsUtf8 rest → ends_before k text rest ≡ true →
    IsRead k text rest
unfolding choose
word_read kind.Lower text rest w good apart = free_name kind.Lower text rest false w.0 w.1 refl good apart
word_read kind.Upper text rest w good apart = free_name kind.Upper text rest true w.0 w.1 refl good apart
word_read kind.Reserved text rest w good apart = reserved_word text rest w good apart
word_read kind.Sign text rest w good apart =
    let ascii = sign_ascii text w in
    let same : chars text ≡ text = chars-IsAscii text ascii in
    record {
      piece = Sign;
      utf8 = IsUtf8-from_ascii text ascii;
      reads = rw same (sign_reads text (chars rest) w (ends_sign_is text rest good apart));
      makes = sign_makes (chars text);
    }
word_read (kind.Number (pos n)) text rest w good apart =
    let small : n < 2 ^ 64 = omega (arith, w.0) in
    let ascii : IsAscii text = rw w.1 (IsAscii-decimal n small) in
    let f = figures n small in
    let are : chars text ≡ f.first ∷ f.others = chars-IsAscii text ascii ∙ (w.1 ∙ f.are) in
    record {
      piece = Digits;
      utf8 = IsUtf8-from_ascii text ascii;
      reads = rw are (digits_read f.first f.others (chars rest) f.digits (ends_number_is rest good apart));
      makes = rw are (digits_make (f.first ∷ f.others) n f.value w.0);
    }
word_read (kind.Number (negsuc n)) text rest w good apart = absurd w
word_read (kind.Character c) text rest w good apart = record {
  piece = Quoted;
  utf8 = w.0;
  reads = quoted_reads (chars text) (chars rest) c w.1;
  makes = quoted_makes (chars text) c w.1;
}
word_read kind.Finish text rest w good apart = absurd w
