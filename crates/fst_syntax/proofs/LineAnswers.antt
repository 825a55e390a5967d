-- What the code answers of the first declaration of some tokens.
use Rattle.std.proofs.Common.{◌≡◌, ℕ, suc, ◌+◌, ◌-◌, ◌≤◌, Bool, true, false, List, [], ◌∷◌, ◌++◌, length, take, drop, get_or, take_all, length-drop, Ok, Err, refl, sym, ap, subst, ◌∙◌, arith}
use Rattle.std.specs.Prelude.{⊤}
use Rattle.fst_lexer.specs.declared.token.Token.{Token}
use Rattle.fst_terms.specs.ModuleTree.{Declared}
use Rattle.fst_reading.specs.declared.fault.SyntaxFault.{SyntaxFault}
use Rattle.fst_reading.specs.declared.fault.SyntaxFault.TheVariants as fault
use Rattle.fst_reading.specs.declared.stop.Stop.{Stop}
use Rattle.fst_reading.specs.declared.stop.Stop.TheVariants as stop
use Rattle.fst_base.specs.Limits.{most_nested}
use Rattle.fst_reading.specs.Lexeme.{Lexeme, place}
use Rattle.fst_reading.specs.Gives.{Fails, fault_view}
use Rattle.fst_reading.specs.Reading.{HaltOf, Halt, Syntax, Deep}
use Rattle.fst_reading.proofs.Phrases.{left}
use Rattle.fst_base.specs.Choice.{choose}
use Rattle.fst_module_grammar.specs.Grammar.{Lined, lexemes_of}
use Rattle.fst_module_grammar.specs.DeclReading.{decl_whole}
use Rattle.fst_module_grammar.specs.ModuleReading.{in_line, next_lines, last_of, in_front, first_decl}
use Rattle.fst_syntax.specs.Views.{lines_of, line_length, counted, line_read, line_fault, GivesLine}
use Rattle.fst_module_grammar.proofs.Laws.{reads_decl_whole, unlined_append, cut, last_is}
use Rattle.fst_base.proofs.Choices.{choose_true, choose_false}

-- the lexemes of a line and those behind it, and how many the line has
first_lexemes : (b : Bool) (k : Lined) (us : List Lined) (n : ℕ) (ls : List Lexeme) → lexemes_of us ≡ take n ls →
    lexemes_of (choose b [] (k ∷ us)) ≡ take (choose b 0 (suc n)) (k.lexeme ∷ ls)
unfolding choose
first_lexemes true k us n ls e = refl
first_lexemes false k us n ls e = ap (λ (w : List Lexeme). k.lexeme ∷ w) e

line_is : (ts : List Token) (ls : List Lexeme) → length ls ≤ length ts →
    lexemes_of (in_line (lines_of ts ls)) ≡ take (line_length (take (length ls) ts)) ls
unfolding in_line line_length
line_is [] [] le = refl
line_is (t ∷ ts) [] le = refl
line_is [] (l ∷ ls) le = absurd (omega (arith, le))
line_is (t ∷ ts) (l ∷ ls) le = first_lexemes t.first_column (record { first = t.first_column; lexeme = l })
    (in_line (lines_of ts ls)) (line_length (take (length ls) ts)) ls (line_is ts ls (omega (arith, le)))

behind_first : (b : Bool) (k : Lined) (us vs : List Lined) (n : ℕ) (ls : List Lexeme) → lexemes_of us ≡ ls →
    lexemes_of vs ≡ drop n ls → lexemes_of (choose b (k ∷ us) vs) ≡ drop (choose b 0 (suc n)) (k.lexeme ∷ ls)
unfolding choose
behind_first true k us vs n ls all e = ap (λ (w : List Lexeme). k.lexeme ∷ w) all
behind_first false k us vs n ls all e = e

lexemes_given : (ts : List Token) (ls : List Lexeme) → length ls ≤ length ts → lexemes_of (lines_of ts ls) ≡ ls
lexemes_given [] [] le = refl
lexemes_given (t ∷ ts) [] le = refl
lexemes_given [] (l ∷ ls) le = absurd (omega (arith, le))
lexemes_given (t ∷ ts) (l ∷ ls) le = ap (λ (w : List Lexeme). l ∷ w) (lexemes_given ts ls (omega (arith, le)))

more_is : (ts : List Token) (ls : List Lexeme) → length ls ≤ length ts →
    lexemes_of (next_lines (lines_of ts ls)) ≡ drop (line_length (take (length ls) ts)) ls
unfolding next_lines line_length
more_is [] [] le = refl
more_is (t ∷ ts) [] le = refl
more_is [] (l ∷ ls) le = absurd (omega (arith, le))
more_is (t ∷ ts) (l ∷ ls) le =
    behind_first t.first_column (record { first = t.first_column; lexeme = l }) (lines_of ts ls) (next_lines (lines_of ts ls))
    (line_length (take (length ls) ts)) ls (lexemes_given ts ls (omega (arith, le))) (more_is ts ls (omega (arith, le)))

count_first : (b : Bool) (k : Lined) (us : List Lined) (n : ℕ) → length us ≡ n →
    length (choose b [] (k ∷ us)) ≡ choose b 0 (suc n)
unfolding choose
count_first true k us n e = refl
count_first false k us n e = ap suc e

count_is : (ts : List Token) (ls : List Lexeme) → length ls ≤ length ts →
    length (in_line (lines_of ts ls)) ≡ line_length (take (length ls) ts)
unfolding in_line line_length
count_is [] [] le = refl
count_is (t ∷ ts) [] le = refl
count_is [] (l ∷ ls) le = absurd (omega (arith, le))
count_is (t ∷ ts) (l ∷ ls) le = count_first t.first_column (record { first = t.first_column; lexeme = l })
    (in_line (lines_of ts ls)) (line_length (take (length ls) ts)) (count_is ts ls (omega (arith, le)))

-- whether the first token begins a line
abbrev pub FirstOf : List Token → Bool → Type 0
FirstOf [] b = ⊤
FirstOf (t ∷ ts) b = t.first_column ≡ b

pub first_of : (tokens : List Token) (d : Token) (b : Bool) → 1 ≤ length tokens →
    (get_or tokens 0 d).first_column ≡ b → FirstOf tokens b
first_of [] d b some e = absurd (omega (arith, some))
first_of (t ∷ ts) d b some e = e

-- where no line begins, the first token is refused
pub no_line : (tokens : List Token) (lexemes : List Lexeme) (end : ℕ) → 1 ≤ length lexemes → length lexemes ≤ length tokens →
    FirstOf tokens false →
    (h : HaltOf Lined) × (line_read most_nested (lines_of tokens lexemes) ≡ Err h) ×
    (fault.Syntax (place end lexemes) ≡ line_fault end h)
unfolding line_read
no_line tokens [] end some within first = absurd (omega (arith, some))
no_line [] (l ∷ ls) end some within first = absurd (omega (arith, within))
no_line (t ∷ ts) (l ∷ ls) end some within first =
    (Syntax (lines_of (t ∷ ts) (l ∷ ls)), choose_false _ _ _ first, refl)

place_behind : (end : ℕ) (s w : List Lexeme) → place end (s ++ w) ≡ place (place end w) s
place_behind end [] w = refl
place_behind end (k ∷ s) w = refl

-- the first declaration
module _ (t : Token) (ts : List Token) (l : Lexeme) (ls : List Lexeme) (end n : ℕ) (within : length ls ≤ length ts)
    (first : t.first_column ≡ true) (n_is : n ≡ line_length (take (length ls) ts)) where
  abbrev head : Lined
  head = record { first = t.first_column; lexeme = l }

  abbrev tail : List Lined
  tail = lines_of ts ls

  count : suc (length (in_line tail)) ≡ n + 1
  count = omega (arith, n_is, count_is ts ls within)

  lexemes_are : l ∷ lexemes_of (in_line tail) ≡ l ∷ take n ls
  lexemes_are = ap (λ (w : List Lexeme). l ∷ w) (line_is ts ls within ∙ ap (λ (m : ℕ). take m ls) (sym n_is))

  read_is : line_read most_nested (head ∷ tail) ≡ counted (n + 1)
      (in_front (head ∷ in_line tail) (next_lines tail) (decl_whole most_nested (l ∷ take n ls)))
  unfolding line_read
  read_is = choose_true _ _ _ first ∙ ap (λ (m : ℕ). counted m (first_decl most_nested head tail)) count ∙ ap
      (λ (w : List Lexeme). counted (n + 1) (in_front (head ∷ in_line tail) (next_lines tail) (decl_whole most_nested w)))
      lexemes_are

  decl_line : (d : Declared) → decl_whole most_nested (l ∷ take n ls) ≡ Ok (d, []) →
      line_read most_nested (head ∷ tail) ≡ Ok (d, n + 1)
  decl_line d e = read_is ∙ ap (λ z. counted (n + 1) (in_front (head ∷ in_line tail) (next_lines tail) z)) e

  -- where a declaration stopped in its line
  left_there : (g : Halt) → decl_whole most_nested (l ∷ take n ls) ≡ Err g →
      place end (lexemes_of (last_of (length (left g)) (head ∷ in_line tail) ++ next_lines tail)) ≡ place (place end (drop n ls))
      (left g)
  left_there g e =
      let q = (reads_decl_whole most_nested).stopped (l ∷ take n ls) g e in
      let c = cut (head ∷ in_line tail) q.tokens (left g) (lexemes_are ∙ q.parts) in
      let last : last_of (length (left g)) (head ∷ in_line tail) ≡ c.back = ap (last_of (length (left g))) c.parts
      ∙ last_is c.front c.back (left g) c.back_is in
      ap (place end) (unlined_append (last_of (length (left g)) (head ∷ in_line tail)) (next_lines tail)) ∙
      ap (place end) (λ i. (ap lexemes_of last ∙ c.back_is) i ++ (more_is ts ls within ∙ ap (λ (m : ℕ). drop m ls) (sym n_is)) i)
      ∙ place_behind end (left g) (drop n ls)

  stopped_line : (s : Stop) → Fails s (decl_whole most_nested (l ∷ take n ls)) →
      GivesLine (Err (fault_view (place end (drop n ls)) s)) end (line_read most_nested (head ∷ tail))
  stopped_line stop.Memory e = tt
  stopped_line (stop.Syntax us) e = (
    Syntax (last_of (length us.now) (head ∷ in_line tail) ++ next_lines tail),
    read_is ∙ ap
        (λ z. counted (n + 1) (in_front (head ∷ in_line tail) (next_lines tail) z)) e,
    ap fault.Syntax (sym (left_there (Syntax us.now) e)),
  )
  stopped_line (stop.TooDeep us) e = (
    Deep (last_of (length us.now) (head ∷ in_line tail) ++ next_lines tail),
    read_is ∙ ap
        (λ z. counted (n + 1) (in_front (head ∷ in_line tail) (next_lines tail) z)) e,
    ap fault.TooDeep (sym (left_there (Deep us.now) e)),
  )

take_one : (n : ℕ) (l : Lexeme) (ls : List Lexeme) → take (n + 1) (l ∷ ls) ≡ l ∷ take n ls
take_one n l ls = let e : n + 1 ≡ suc n = omega arith in ap (λ (m : ℕ). take m (l ∷ ls)) e

drop_one : (n : ℕ) (l : Lexeme) (ls : List Lexeme) → drop (n + 1) (l ∷ ls) ≡ drop n ls
drop_one n l ls = let e : n + 1 ≡ suc n = omega arith in ap (λ (m : ℕ). drop m (l ∷ ls)) e

pub line_given : (tokens : List Token) (lexemes : List Lexeme) (n : ℕ) (d : Declared) → 1 ≤ length lexemes →
    length lexemes ≤ length tokens → FirstOf tokens true → n ≡ line_length (take (length lexemes - 1) (drop 1 tokens)) →
    decl_whole most_nested (take (n + 1) lexemes) ≡ Ok (d, []) → line_read most_nested (lines_of tokens lexemes) ≡ Ok (d, n + 1)
line_given tokens [] n d some within first n_is e = absurd (omega (arith, some))
line_given [] (l ∷ ls) n d some within first n_is e = absurd (omega (arith, within))
line_given (t ∷ ts) (l ∷ ls) n d some within first n_is e =
    decl_line t ts l ls 0 n (omega (arith, within)) first
    (n_is ∙ (let m : length (l ∷ ls) - 1 ≡ length ls = omega arith in ap (λ (k : ℕ). line_length (take k ts)) m)) d
    (ap (decl_whole most_nested) (sym (take_one n l ls)) ∙ e)

rest_is : (n : ℕ) (ls : List Lexeme) → take (length ls - n) (drop n ls) ≡ drop n ls
rest_is n ls = take_all (length ls - n) (drop n ls) (omega (arith, length-drop n ls))

pub line_refused : (tokens : List Token) (lexemes : List Lexeme) (end n p : ℕ) (s : Stop) (f : SyntaxFault) → 1 ≤ length lexemes →
    length lexemes ≤ length tokens → FirstOf tokens true →
    n ≡ line_length (take (length lexemes - 1) (drop 1 tokens)) → Fails s (decl_whole most_nested (take (n + 1) lexemes)) →
    p ≡ place end (take (length lexemes - (n + 1)) (drop (n + 1) lexemes)) → f ≡ fault_view p s →
    GivesLine (Err f) end (line_read most_nested (lines_of tokens lexemes))
line_refused tokens [] end n p s f some within first n_is e p_is f_is = absurd (omega (arith, some))
line_refused [] (l ∷ ls) end n p s f some within first n_is e p_is f_is = absurd (omega (arith, within))
line_refused (t ∷ ts) (l ∷ ls) end n p s f some within first n_is e p_is f_is =
    subst (λ z. GivesLine (Err z) end (line_read most_nested (lines_of (t ∷ ts) (l ∷ ls))))
    (sym (f_is ∙ ap (λ (m : ℕ). fault_view m s) (p_is ∙ ap (place end) (rest_is (n + 1) (l ∷ ls) ∙ drop_one n l ls))))
    (stopped_line t ts l ls end n (omega (arith, within)) first
    (n_is ∙ (let m : length (l ∷ ls) - 1 ≡ length ls = omega arith in ap (λ (k : ℕ). line_length (take k ts)) m)) s
    (subst (λ (w : List Lexeme). Fails s (decl_whole most_nested w)) (take_one n l ls) e))
