-- Tokens stand in order, each from one place between two characters to another.
use Rattle.std.proofs.Common.{◌≡◌, ℕ, ◌+◌, ◌≤◌, Bool, true, false, List, [], ◌∷◌, ◌++◌, length, Option, Some, None, Result, Ok, Err, refl, sym, ap, subst, ◌∙◌, arith, append_assoc, length-append}
use Rattle.std.specs.Prelude.{All, IfOk, nat_le}
use Rattle.std.specs.declared.alloc.Global.{Global}
use Rattle.std.specs.declared.vec.Vec.{Vec}
use Rattle.std.specs.List.{AllPairs}
use Rattle.std.specs.Char.{len_utf8}
use Rattle.std.specs.Str.{IsCharBoundary, IsUtf8, chars}
use Rattle.std.proofs.Math.Utf8.{encode, encodes, scalars, scalar}
use Rattle.std.proofs.lemmas.List.{append-nil}
use Rattle.std.proofs.lemmas.List.Sums.{sum_by-cons}
use Rattle.std.proofs.lemmas.Str.{IsCharBoundary-end, encodes-chars, encodes-append, scalars-chars, IsCharBoundary-at_seam, length-encode}
use Rattle.std.proofs.lemmas.List.Elements.{All-nil, All-cons, All-append}
use Rattle.std.proofs.lemmas.List.Quantifiers.{all_pairs_push}
use Rattle.fst_lexer.specs.declared.pieces.Placed.{Placed}
use Rattle.fst_lexer.specs.declared.pieces.Piece.{Piece}
use Rattle.fst_lexer.specs.declared.pieces.Piece.TheVariants.{Blank, Comment, Name, Digits, Quoted, Sign}
use Rattle.fst_lexer.specs.declared.token.Token.{Token}
use Rattle.fst_lexer.specs.declared.token.LexFault.{LexFault}
use Rattle.fst_lexer.specs.Piece.{is_piece}
use Rattle.fst_lexer.specs.Places.{place_all}
use Rattle.fst_lexer.specs.declared.token.LexFault.TheVariants as fault
use Rattle.fst_base.specs.Limits.{longest_name}
use Rattle.fst_base.specs.Choice.{choose}
use Rattle.fst_lexer.specs.Tokens.{LexesTo, start, piece, token_of, number_of, number_token, token_with, name_kind, list_of, place, byte_count, finish}
use Rattle.fst_lexer.specs.Lexes.{Lexes}
use Rattle.fst_lexer.specs.Spans.{HaveSpans}
use Rattle.fst_lexer.proofs.OneLaws.{no_piece}
use Rattle.fst_lexer.proofs.FewLaws.{few_tokens}
use Rattle.std.proofs.lemmas.Bool.{and_parts}

-- the characters end with these, which begin at this byte
pub record EndsWith (cs ds : List ℕ) (at : ℕ) : Type 0 where
  pub before : List ℕ
  pub parts : cs ≡ before ++ ds
  pub size : at ≡ length (encodes before)

one_on : (cs ds : List ℕ) (c at : ℕ) → EndsWith cs (c ∷ ds) at → EndsWith cs ds (at + len_utf8 c)
one_on cs ds c at e =
    record {
      before = e.before ++ c ∷ [];
      parts = e.parts ∙ sym (append_assoc e.before (c ∷ []) ds);
      size = omega (
        arith,
        e.size,
        ap length (encodes-append e.before (c ∷ [])),
        length-append (encodes e.before) (encodes (c ∷ [])),
        one_size c,
      );
    }
  where
    one_size : (d : ℕ) → length (encodes (d ∷ [])) ≡ len_utf8 d
    one_size d = omega (arith, length-encode d, length-append (encode d) [])

pub scalars-behind : (xs ys : List ℕ) → scalars (xs ++ ys) ≡ true → scalars ys ≡ true
scalars-behind [] ys h = h
scalars-behind (x ∷ xs) ys h = scalars-behind xs ys (and_parts (scalar x) (scalars (xs ++ ys)) h).1

boundary : (bytes ds : List ℕ) (at : ℕ) → IsUtf8 bytes → EndsWith (chars bytes) ds at → IsCharBoundary bytes at
boundary bytes ds at text e =
    let whole : bytes ≡ encodes e.before ++ encodes ds = sym (encodes-chars bytes text)
    ∙ (ap encodes e.parts ∙ encodes-append e.before ds) in
    let good : scalars ds ≡ true = scalars-behind e.before ds (ap scalars (sym e.parts) ∙ scalars-chars bytes text) in
    rw e.size (IsCharBoundary-at_seam bytes (encodes e.before) (encodes ds) whole (ds, (good, refl)))

-- the rest of a text stands here in it
pub record Stands (cs : List ℕ) (rest : List Placed) (at : ℕ) : Type 0 where
  pub characters : List ℕ
  pub placed : rest ≡ place_all at characters
  pub ends : EndsWith cs characters at

along : (at d w n m : ℕ) → w ≡ d → m ≡ w + n → at + d + n ≡ at + m
along at d w n m width more = omega arith

-- a rest stands behind a word by the word's bytes
pub behind : (cs : List ℕ) (word rest : List Placed) (at : ℕ) → Stands cs (word ++ rest) at →
    Stands cs rest (at + byte_count word)
behind cs [] rest at s = subst (λ n. Stands cs rest n) (omega arith) s
behind cs (p ∷ word) rest at s = by_characters s.characters s.placed s.ends (λ n t. behind cs word rest n t)
  where
    by_characters : (ds : List ℕ) → (p ∷ word) ++ rest ≡ place_all at ds → EndsWith cs ds at →
        ((n : ℕ) → Stands cs (word ++ rest) n → Stands cs rest (n + byte_count word)) →
        Stands cs rest (at + byte_count (p ∷ word))
    by_characters [] e h others = absurd (cc e)
    by_characters (d ∷ ds) e h others =
        let placed : word ++ rest ≡ place_all (at + len_utf8 d) ds = cc in
        let first : p ≡ record { at = at; ch = d } = cc in
        let width : len_utf8 p.ch ≡ len_utf8 d = ap (λ (q : Placed). len_utf8 q.ch) first in
        let more : byte_count (p ∷ word) ≡ len_utf8 p.ch + byte_count word = sum_by-cons (λ (q : Placed). len_utf8 q.ch) p word in
        let next = others (at + len_utf8 d) (record { characters = ds; placed = placed; ends = one_on cs ds d at h }) in
        subst (λ n. Stands cs rest n) (along at (len_utf8 d) (len_utf8 p.ch) (byte_count word) (byte_count (p ∷ word)) width more)
        next

-- where a word stands is the place of its first character
pub stands_at : (cs : List ℕ) (word rest : List Placed) (p : Piece) (at : ℕ) → is_piece p word ≡ true →
    Stands cs (word ++ rest) at → place word ≡ at
stands_at cs [] rest p at is s = absurd (no_piece p is)
stands_at cs (q ∷ word) rest p at is s = by_characters s.characters s.placed
  where
    by_characters : (ds : List ℕ) → (q ∷ word) ++ rest ≡ place_all at ds → q.at ≡ at
    by_characters [] e = absurd (cc e)
    by_characters (d ∷ ds) e =
        let first : q ≡ record { at = at; ch = d } = cc in
        ap (λ (r : Placed). r.at) first

-- a token stands where its word does, and begins a line as the word does
pub record IsSpan (t : Token) (word : List Placed) (first : Bool) : Type 0 where
  pub at : t.at ≡ place word
  pub len : t.len ≡ byte_count word
  pub column : t.first_column ≡ first

abbrev pub Spans : Option Token → List Placed → Bool → Type 0
Spans None word first = Unit {0}
Spans (Some t) word first = IsSpan t word first

abbrev SpansOk : Result (Option Token) LexFault → List Placed → Bool → Type 0
SpansOk (Ok o) word first = Spans o word first
SpansOk (Err e) word first = Unit {0}

pub token_spans : (p : Piece) (word : List Placed) (first : Bool) (o : Option Token) → token_of p word first ≡ Ok o →
    Spans o word first
unfolding token_of choose
token_spans p word first o e = subst (λ r. SpansOk r word first) e (by_piece p)
  where
    by_number : (n : Option ℕ) → SpansOk (number_token n word first) word first
    by_number (Some n) = record { at = refl; len = refl; column = refl }
    by_number None = tt

    by_length : (b : Bool) → SpansOk (choose b (Ok (token_with (name_kind word) word first)) (Err (fault.LongName (place word))))
        word first
    by_length true = record { at = refl; len = refl; column = refl }
    by_length false = tt

    by_piece : (q : Piece) → SpansOk (token_of q word first) word first
    by_piece Blank = tt
    by_piece Comment = tt
    by_piece Name = by_length (nat_le (byte_count word) longest_name)
    by_piece Digits = by_number (number_of word)
    by_piece Quoted = record { at = refl; len = refl; column = refl }
    by_piece Sign = record { at = refl; len = refl; column = refl }

-- what is known of the tokens so far where this rest is left
record Reached (bytes : List ℕ) (ts : List Token) (here : List Placed) : Type 0 where
  at : ℕ
  stands : Stands (chars bytes) here at
  start : All (λ t. IsCharBoundary bytes t.at) ts
  stop : All (λ t. IsCharBoundary bytes (t.at + t.len)) ts
  within : All (λ t. t.at + t.len ≤ at) ts
  in_order : AllPairs (λ t u. t.at + t.len ≤ u.at) ts

-- one more element
pub with_one : (P : Token → Type 0) (ts : List Token) (t : Token) → All P ts → P t → All P (ts ++ t ∷ [])
with_one P ts t all one = All-append P ts (t ∷ []) all (All-cons P t [] one (All-nil P))

one_token : (bytes : List ℕ) (ts : List Token) (here rest word : List Placed) (first : Bool) (o : Option Token) → IsUtf8 bytes →
    (r : Reached bytes ts here) →
    Stands (chars bytes) rest (r.at + byte_count word) → place word ≡ r.at → Spans o word first →
    Reached bytes (ts ++ list_of o) rest
one_token bytes ts here rest word first None text r s p spans = record {
  at = r.at + byte_count word;
  stands = s;
  start = rw (append-nil ts) r.start;
  stop = rw (append-nil ts) r.stop;
  within = rw (append-nil ts) (λ k d lt. omega (arith, r.within k d lt));
  in_order = rw (append-nil ts) r.in_order;
}
one_token bytes ts here rest word first (Some t) text r s p spans =
    let begin : t.at ≡ r.at = spans.at ∙ p in
    let end : t.at + t.len ≡ r.at + byte_count word = omega (arith, spans.len) in
    record {
      at = r.at + byte_count word;
      stands = s;
      start = with_one (λ u. IsCharBoundary bytes u.at) ts t r.start
          (rw begin (boundary bytes r.stands.characters r.at text r.stands.ends));
      stop = with_one (λ u. IsCharBoundary bytes (u.at + u.len)) ts t r.stop
          (rw end (boundary bytes s.characters (r.at + byte_count word) text s.ends));
      within = with_one (λ u. u.at + u.len ≤ r.at + byte_count word) ts t
          (λ k d lt. omega (arith, r.within k d lt)) (omega arith);
      in_order = all_pairs_push (λ u v. u.at + u.len ≤ v.at) ts t r.in_order (λ k d lt. omega (arith, r.within k d lt));
    }

reached : (bytes : List ℕ) → IsUtf8 bytes → (ts : List Token) (first : Bool) (here : List Placed) →
    LexesTo (place_all 0 (chars bytes)) ts first here → Reached bytes ts here
reached bytes text _ _ _ start = record {
  at = 0;
  stands = record { characters = chars bytes; placed = refl; ends = record { before = []; parts = refl; size = refl } };
  start = All-nil _;
  stop = All-nil _;
  within = All-nil _;
  in_order = λ i j d lt below. absurd (omega arith);
}
reached bytes text us last rest (piece ts _ first _ here word _ p o so_far next token more ends) =
    let r = reached bytes text ts first here so_far in
    let stands : Stands (chars bytes) (word ++ rest) r.at = subst (λ x. Stands (chars bytes) x r.at) next.parts r.stands in
    subst (λ x. Reached bytes x rest) (sym more)
    (one_token bytes ts here rest word first o text r (behind (chars bytes) word rest r.at stands)
    (stands_at (chars bytes) word rest p r.at next.is stands) (token_spans p word first o token))

-- the tokens of bytes stand in order in them
pub have_spans : (bytes : List ℕ) (tokens : List Token) → Lexes bytes tokens → HaveSpans bytes tokens
have_spans bytes tokens l =
    let a = l.tokens_are in
    let r = reached bytes l.text a.before a.first [] a.lexed in
    let last = finish (length bytes) a.first in
    let whole : tokens ≡ a.before ++ last ∷ [] = a.whole in
    let low : r.at ≤ length bytes = (boundary bytes r.stands.characters r.at l.text r.stands.ends).0 in
    subst (λ x. HaveSpans bytes x) (sym whole) (record {
      start = with_one (λ u. IsCharBoundary bytes u.at) a.before last r.start (IsCharBoundary-end bytes);
      stop = with_one (λ u. IsCharBoundary bytes (u.at + u.len)) a.before last r.stop
          (subst (λ n. IsCharBoundary bytes n) (omega arith) (IsCharBoundary-end bytes));
      in_order = all_pairs_push (λ u v. u.at + u.len ≤ v.at) a.before last r.in_order (λ k d lt. omega (arith, r.within k d lt));
      few = subst (λ x. length x ≤ length bytes + 1) whole (few_tokens bytes tokens l);
    })

pub ok_spans : (bytes : List ℕ) (result : Result (Vec Token Global) LexFault) → IfOk result (λ v. Lexes bytes v.items) →
    IfOk result (λ v. HaveSpans bytes v.items)
ok_spans bytes (Ok v) l = have_spans bytes v.items l
ok_spans bytes (Err e) l = l
