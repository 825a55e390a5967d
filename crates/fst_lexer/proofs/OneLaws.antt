-- A text has one reading.
use Rattle.std.proofs.Common.{◌≡◌, ◌≢◌, ℕ, ◌≤◌, ◌⊎◌, inl, inr, Bool, true, ◌&&◌, List, [], ◌∷◌, ◌++◌, length, take, drop, Option, Result, Ok, Err, refl, sym, ap, subst, ◌∙◌, arith, append_assoc}
use Rattle.std.proofs.lemmas.List.{take_at, drop_at, append-nil}
use Rattle.std.proofs.lemmas.Str.{utf8_valid_len-IsValidUpTo}
use Rattle.std.specs.Str.{chars, IsUtf8, IsValidUpTo}
use Rattle.fst_lexer.specs.declared.pieces.Placed.{Placed}
use Rattle.fst_lexer.specs.declared.pieces.Piece.{Piece}
use Rattle.fst_lexer.specs.declared.pieces.Piece.TheVariants.{Blank, Comment, Name, Digits, Quoted, Sign}
use Rattle.fst_lexer.specs.declared.token.Token.{Token}
use Rattle.fst_lexer.specs.declared.token.LexFault.{LexFault}
use Rattle.fst_lexer.specs.declared.token.LexFault.TheVariants as fault
use Rattle.fst_lexer.specs.Classes.{is_blank, is_dash, is_quote, is_digit, starts_name}
use Rattle.fst_lexer.specs.Piece.{is_piece}
use Rattle.fst_base.specs.Choice.{choose}
use Rattle.fst_lexer.specs.Reading.{begins_comment}
use Rattle.fst_lexer.specs.Next.{IsNext}
use Rattle.fst_lexer.specs.Places.{place_all}
use Rattle.fst_lexer.specs.Tokens.{LexesTo, start, piece, token_of, list_of, ends_line, IsFaultAt, FaultBehind, AreTokens, finish}
use Rattle.fst_lexer.specs.Lexes.{Lexes, Refuses, OneLexing}
use Rattle.fst_lexer.proofs.ClassLaws.{name_class, digit_class, quote_class, short_class, long_class, dash_short}
use Rattle.std.proofs.lemmas.Bool.{and_parts}

-- the kind of a piece, by how it begins
abbrev kind_of : List Placed → Piece
kind_of [] = Sign
kind_of (c ∷ cs) =
    choose (is_blank c.ch) Blank
    (choose (starts_name c.ch) Name (choose (is_digit c.ch) Digits
    (choose (is_quote c.ch) Quoted (choose (begins_comment (c ∷ cs)) Comment Sign))))

kind_is : (p : Piece) (w : List Placed) → is_piece p w ≡ true → kind_of w ≡ p
unfolding choose
kind_is Blank (c ∷ []) e = rw e refl
kind_is Name (c ∷ cs) e =
    let k = name_class c.ch (and_parts (starts_name c.ch) _ e).0 in
    rw (k.blank, k.name) refl
kind_is Digits (c ∷ cs) e =
    let k = digit_class c.ch (and_parts (is_digit c.ch) _ e).0 in
    rw (k.blank, k.name, k.digit) refl
kind_is Quoted (a ∷ c ∷ b ∷ []) e =
    let k = quote_class a.ch (and_parts (is_quote a.ch) _ e).0 in
    rw (k.blank, k.name, k.digit, k.quote) refl
kind_is Quoted (a ∷ c ∷ x ∷ b ∷ []) e =
    let k = quote_class a.ch (and_parts (is_quote a.ch) _ e).0 in
    rw (k.blank, k.name, k.digit, k.quote) refl
kind_is Comment (a ∷ b ∷ body) e =
    let h = and_parts (is_dash a.ch && is_dash b.ch) _ e in
    let k = short_class a.ch (dash_short a.ch (and_parts (is_dash a.ch) (is_dash b.ch) h.0).0) in
    rw (k.blank, k.name, k.digit, k.quote, h.0) refl
kind_is Sign (a ∷ []) e =
    let k = short_class a.ch e in
    rw (k.blank, k.name, k.digit, k.quote) refl
kind_is Sign (a ∷ b ∷ []) e =
    let k = long_class a.ch b.ch e in
    rw (k.0.blank, k.0.name, k.0.digit, k.0.quote, k.1) refl
kind_is _ _ e = absurd (cc e)

-- the next piece is one
record Same (p q : Piece) (w v r s : List Placed) : Type 0 where
  kind : p ≡ q
  word : w ≡ v
  rest : r ≡ s

same_next : (text : List Placed) (p q : Piece) (w v r s : List Placed) → IsNext text p w r → IsNext text q v s → Same p q w v r s
same_next text p q w v r s a b =
    let long : length v ≤ length w = a.longest q v s b.parts b.is in
    let short : length w ≤ length v = b.longest p w r a.parts a.is in
    let len : length w ≡ length v = omega arith in
    let text-is : w ++ r ≡ v ++ s = sym a.parts ∙ b.parts in
    let word-is : w ≡ v = sym (take_at w r (length v) len) ∙ (ap (take (length v)) text-is ∙ take_at v s (length v) refl) in
    let rest-is : r ≡ s = sym (drop_at w r (length v) len) ∙ (ap (drop (length v)) text-is ∙ drop_at v s (length v) refl) in
    record { kind = sym (kind_is p w a.is) ∙ (ap kind_of word-is ∙ kind_is q v b.is); word = word-is; rest = rest-is }

pair : {A B : Type 0} {a b : A} {c d : B} → a ≡ b → c ≡ d → ◌≡◌ {A = A × B} (a, c) (b, d)
pair {A} {B} {a} {b} {c} {d} p q = subst (λ (y : A). ◌≡◌ {A = A × B} (a, c) (y, d)) p (ap (λ (z : B). (a, z)) q)

-- the token of the next piece is one
same_token : (text : List Placed) (p q : Piece) (w v r s : List Placed) (f : Bool) → IsNext text p w r → IsNext text q v s →
    token_of p w f ≡ token_of q v f
same_token text p q w v r s f a b =
    let same = same_next text p q w v r s a b in
    ap (λ (y : Piece × List Placed). token_of y.0 y.1 f) (pair same.kind same.word)

-- no piece is empty
pub no_piece : (q : Piece) → is_piece q [] ≡ true → ⊥
no_piece Blank e = cc e
no_piece Comment e = cc e
no_piece Name e = cc e
no_piece Digits e = cc e
no_piece Quoted e = cc e
no_piece Sign e = cc e

nothing_next : (p : Piece) (w r : List Placed) → IsNext [] p w r → ⊥
nothing_next p [] r a = no_piece p a.is
nothing_next p (c ∷ w) r a = let e = a.parts in cc

-- the same from the front
data Onward : Bool → List Placed → List Token → Bool → List Placed → Type 0 where
  stop : (f : Bool) (t : List Placed) → Onward f t [] f t
  step : (f : Bool) (t : List Placed) (ts us : List Token) (g : Bool) (u : List Placed) (p : Piece) (w r : List Placed)
      (o : Option Token) →
      IsNext t p w r → token_of p w f ≡ Ok o → Onward (ends_line w) r us g u → ts ≡ list_of o ++ us → Onward f t ts g u

one_more : (f : Bool) (t : List Placed) (ts : List Token) (g : Bool) (u : List Placed) → Onward f t ts g u →
    (p : Piece) (w r : List Placed) (o : Option Token) → IsNext u p w r → token_of p w g ≡ Ok o →
    Onward f t (ts ++ list_of o) (ends_line w) r
one_more f t _ g u (stop _ _) p w r o n e = step f t (list_of o) [] (ends_line w) r p w r o n e (stop (ends_line w) r)
    (sym (append-nil (list_of o)))
one_more f t ts g u (step _ _ _ us _ _ q v s x n e more is) p w r o m k =
    step f t (ts ++ list_of o) (us ++ list_of o) (ends_line w) r q v s x n e (one_more (ends_line v) s us g u more p w r o m k)
    (rw is (append_assoc (list_of x) us (list_of o)))

onward : (text : List Placed) (ts : List Token) (f : Bool) (here : List Placed) → LexesTo text ts f here →
    Onward true text ts f here
onward text _ _ _ start = stop true text
onward text us last rest (piece ts _ first _ here w _ p o before n e is ends) =
    subst (λ (x : List Token). Onward true text x last rest) (sym is)
    (subst (λ (x : Bool). Onward true text (ts ++ list_of o) x rest) (sym ends)
    (one_more true text ts first here (onward text ts first here before) p w rest o n e))

abbrev pub done : Option Token → Result (Option Token) LexFault
done c = Ok c

pub ok_is : (c d : Option Token) → done c ≡ done d → c ≡ d
ok_is c d e = cc

abbrev bad : LexFault → Result (Option Token) LexFault
bad e = Err e

err_is : (e f : LexFault) → bad e ≡ bad f → e ≡ f
err_is e f h = cc

-- two readings that both end somewhere that no piece follows, or at a fault, are one
record Agree (ts us : List Token) (g h : Bool) (u v : List Placed) : Type 0 where
  tokens : ts ≡ us
  first : g ≡ h
  rest : u ≡ v

-- nothing can be read on here
abbrev IsStuck : Bool → List Placed → Type 0
IsStuck f u = (p : Piece) (w r : List Placed) (o : Option Token) → IsNext u p w r → token_of p w f ≡ Ok o → ⊥

one_reading : (f : Bool) (t : List Placed) (ts us : List Token) (g h : Bool) (u v : List Placed) → Onward f t ts g u →
    Onward f t us h v → IsStuck g u → IsStuck h v → Agree ts us g h u v
one_reading f t _ _ _ _ _ _ (stop _ _) (stop _ _) a b = record { tokens = refl; first = refl; rest = refl }
one_reading f t _ _ _ _ _ _ (stop _ _) (step _ _ _ _ _ _ p w r o n e more is) a b = absurd (a p w r o n e)
one_reading f t _ _ _ _ _ _ (step _ _ _ _ _ _ p w r o n e more is) (stop _ _) a b = absurd (b p w r o n e)
one_reading f t ts us g h u v (step _ _ _ xs _ _ p w r o n e more is) (step _ _ _ ys _ _ q z s x m k others at) a b =
    let same = same_next t p q w z r s n m in
    let option : o ≡ x = ok_is o x (sym e ∙ (same_token t p q w z r s f n m ∙ k)) in
    let moved : Onward (ends_line z) s xs g u = subst
    (λ (y : List Placed × List Placed). Onward (ends_line y.0) y.1 xs g u) (pair same.word same.rest) more in
    let rest = one_reading (ends_line z) s xs ys g h u v moved others a b in
    record {
      tokens = is ∙ (ap (λ (y : Option Token × List Token). list_of y.0 ++ y.1) (pair option rest.tokens) ∙ sym at);
      first = rest.first;
      rest = rest.rest;
    }

end_stuck : (f : Bool) → IsStuck f []
end_stuck f p w r o n e = nothing_next p w r n

fault_stuck : (f : Bool) (u : List Placed) (e : LexFault) → IsFaultAt u f e → IsStuck f u
fault_stuck f u e (inl a) p w r o n k = a.none p w r n.parts n.is
fault_stuck f u e (inr a) p w r o n k =
    let same = same_token u a.piece p a.word w a.rest r f a.next n in
    let here : token_of a.piece a.word f ≡ Err e = a.bad in
    cc

-- one place has one fault
same_fault : (f : Bool) (u : List Placed) (e d : LexFault) → IsFaultAt u f e → IsFaultAt u f d → e ≡ d
same_fault f u e d (inl a) (inl b) = a.is ∙ sym b.is
same_fault f u e d (inl a) (inr b) = absurd (a.none b.piece b.word b.rest b.next.parts b.next.is)
same_fault f u e d (inr a) (inl b) = absurd (b.none a.piece a.word a.rest a.next.parts a.next.is)
same_fault f u e d (inr a) (inr b) = err_is e d
    (sym a.bad ∙ (same_token u a.piece b.piece a.word b.word a.rest b.rest f a.next b.next ∙ b.bad))

-- a text has one list of tokens
one_list : (text : List Placed) (end : ℕ) (tokens others : List Token) → AreTokens text end tokens → AreTokens text end others →
    tokens ≡ others
one_list text end tokens others a b =
    let one = one_reading true text a.before b.before a.first b.first [] [] (onward text a.before a.first [] a.lexed)
    (onward text b.before b.first [] b.lexed)
    (end_stuck a.first) (end_stuck b.first) in
    a.whole ∙ (ap (λ (y : List Token × Bool). y.0 ++ finish end y.1 ∷ []) (pair one.tokens one.first) ∙ sym b.whole)

-- a text with tokens has no fault
no_fault : (text : List Placed) (end : ℕ) (tokens : List Token) (e : LexFault) → AreTokens text end tokens → FaultBehind text e →
    ⊥
no_fault text end tokens e a b =
    let one = one_reading true text a.before b.before a.first b.first [] b.here (onward text a.before a.first [] a.lexed)
    (onward text b.before b.first b.here b.lexed)
    (end_stuck a.first) (fault_stuck b.first b.here e b.fault) in
    elim b.fault [
      | inl x ↦ omega (arith, x.some, ap length one.rest)
      | inr x ↦ nothing_next x.piece x.word x.rest
          (subst (λ (y : List Placed). IsNext y x.piece x.word x.rest) (sym one.rest) x.next)
    ]

-- a text has one fault
one_fault : (text : List Placed) (e f : LexFault) → FaultBehind text e → FaultBehind text f → e ≡ f
one_fault text e f a b =
    let one = one_reading true text a.before b.before a.first b.first a.here b.here (onward text a.before a.first a.here a.lexed)
    (onward text b.before b.first b.here b.lexed)
    (fault_stuck a.first a.here e a.fault) (fault_stuck b.first b.here f b.fault) in
    same_fault b.first b.here e f (subst (λ (y : Bool × List Placed). IsFaultAt y.1 y.0 e) (pair one.first one.rest) a.fault)
    b.fault

-- bytes that are no text from here on, and why
abbrev IsNoText : List ℕ → LexFault → Type 0
IsNoText bytes e = (at : ℕ) × (e ≡ fault.NotUtf8 at) × ¬ (IsUtf8 bytes) × IsValidUpTo bytes at

-- what a fault other than Memory says of the bytes
told : (bytes : List ℕ) (e : LexFault) → e ≢ fault.Memory → Refuses bytes e → IsNoText bytes e ⊎
    (IsUtf8 bytes × FaultBehind (place_all 0 (chars bytes)) e)
told bytes (fault.NotUtf8 at) ne r = inl (at, refl, r.0, r.1)
told bytes (fault.BadChar at) ne r = inr r
told bytes (fault.WideNumber at) ne r = inr r
told bytes (fault.LongName at) ne r = inr r
told bytes fault.Memory ne r = absurd (ne refl)

only_memory : (bytes : List ℕ) (tokens : List Token) (e : LexFault) → Lexes bytes tokens → Refuses bytes e → e ≡ fault.Memory
only_memory bytes tokens (fault.NotUtf8 at) l r = absurd (r.0 l.text)
only_memory bytes tokens (fault.BadChar at) l r = absurd (no_fault _ _ tokens (fault.BadChar at) l.tokens_are r.1)
only_memory bytes tokens (fault.WideNumber at) l r = absurd (no_fault _ _ tokens (fault.WideNumber at) l.tokens_are r.1)
only_memory bytes tokens (fault.LongName at) l r = absurd (no_fault _ _ tokens (fault.LongName at) l.tokens_are r.1)
only_memory bytes tokens fault.Memory l r = refl

one_refusal : (bytes : List ℕ) (e f : LexFault) → IsNoText bytes e ⊎
    (IsUtf8 bytes × FaultBehind (place_all 0 (chars bytes)) e) → IsNoText bytes f ⊎
    (IsUtf8 bytes × FaultBehind (place_all 0 (chars bytes)) f) → e ≡ f
one_refusal bytes e f (inl a) (inl b) = a.1 ∙ (ap
    (λ n. fault.NotUtf8 n) (sym (utf8_valid_len-IsValidUpTo bytes a.0 a.3) ∙ utf8_valid_len-IsValidUpTo bytes b.0 b.3) ∙ sym b.1)
one_refusal bytes e f (inl a) (inr b) = absurd (a.2 b.0)
one_refusal bytes e f (inr a) (inl b) = absurd (b.2 a.0)
one_refusal bytes e f (inr a) (inr b) = one_fault _ e f a.1 b.1

pub one_lexing : OneLexing
one_lexing = record {
  one_list = λ bytes tokens others a b. one_list _ _ tokens others a.tokens_are b.tokens_are;
  no_fault = only_memory;
  one_fault = λ bytes e f e-is f-is a b. one_refusal bytes e f (told bytes e e-is a) (told bytes f f-is b);
}
