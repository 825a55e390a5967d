-- What the code answers of a module.
use Rattle.std.proofs.Common.{◌≡◌, ℕ, zero, suc, ◌+◌, ◌-◌, ◌≤◌, ◌<◌, List, [], ◌∷◌, ◌++◌, length, take, drop, map, take_all, length-drop, Ok, Err, refl, sym, ap, subst, ◌∙◌, arith}
use Rattle.std.proofs.lemmas.List.{append-nil, length-map, length-take-le}
use Rattle.fst_lexer.specs.declared.token.Token.{Token}
use Rattle.fst_terms.specs.declared.module.Decl.{Decl}
use Rattle.fst_terms.specs.ModuleTree.{Declared, decl_tree}
use Rattle.fst_reading.specs.declared.fault.SyntaxFault.{SyntaxFault}
use Rattle.fst_reading.specs.declared.fault.SyntaxFault.TheVariants as fault
use Rattle.fst_base.specs.Limits.{most_nested}
use Rattle.fst_reading.specs.Lexeme.{Lexeme, lexeme, lexemes}
use Rattle.fst_reading.specs.Reading.{HaltOf, Syntax, Deep}
use Rattle.fst_reading.proofs.Answers.{fault_at}
use Rattle.fst_module_grammar.specs.Grammar.{Lined}
use Rattle.fst_module_grammar.specs.ModuleReading.{module_at}
use Rattle.fst_module_grammar.specs.Derives.{line_lexeme, line_lexemes, line_place, AnswersModule}
use Rattle.fst_syntax.specs.Views.{lines_of, line_read, line_fault, GivesLine}
use Rattle.fst_syntax.proofs.LineReads.{with_decls, one_line, goes_on, stops, ended, lines_drop, lines_count}
use Rattle.fst_module_grammar.proofs.Laws.{module_read, module_stopped}

rest_is : {A : Type 0} (n : ℕ) (xs : List A) → take (length xs - n) (drop n xs) ≡ drop n xs
rest_is n xs = take_all (length xs - n) (drop n xs) (omega (arith, length-drop n xs))

drop_more : {A : Type 0} (n m : ℕ) (xs : List A) → drop m (drop n xs) ≡ drop (n + m) xs
drop_more zero m xs = let e : 0 + m ≡ m = omega arith in ap (λ (k : ℕ). drop k xs) (sym e)
drop_more (suc n) m [] = drop_none m ∙ sym (drop_none (suc n + m))
  where
    drop_none : {A : Type 0} (k : ℕ) → drop {A = A} k [] ≡ []
    drop_none zero = refl
    drop_none (suc k) = refl
drop_more (suc n) m (x ∷ xs) = let e : suc n + m ≡ suc (n + m) = omega arith in drop_more n m xs ∙ ap
    (λ (k : ℕ). drop k (x ∷ xs)) (sym e)

-- the code's lines are the tokens of the text
lines_tokens : (text : List ℕ) (n : ℕ) (ts : List Token) →
    lines_of ts (map (lexeme text) (take n ts)) ≡ map (line_lexeme text) (take n ts)
lines_tokens text zero [] = refl
lines_tokens text zero (t ∷ ts) = refl
lines_tokens text (suc n) [] = refl
lines_tokens text (suc n) (t ∷ ts) = ap (λ (w : List Lined). line_lexeme text t ∷ w) (lines_tokens text n ts)

pub lines_are : (text : List ℕ) (tokens : List Token) → lines_of tokens (lexemes text tokens) ≡ line_lexemes text tokens
lines_are text tokens = lines_tokens text (length tokens - 1) tokens

-- a text has no more lexemes than tokens
pub few_lexemes : (text : List ℕ) (tokens : List Token) → length (lexemes text tokens) ≤ length tokens
few_lexemes text tokens = omega (
  arith,
  length-map (take (length tokens - 1) tokens) (lexeme text),
  length-take-le (length tokens - 1) tokens (omega arith),
)

-- the lines of what is left
lines_left : (from : ℕ) (ts : List Token) (ls : List Lexeme) →
    lines_of (take (length ts - from) (drop from ts)) (take (length ls - from) (drop from ls)) ≡ drop from (lines_of ts ls)
lines_left from ts ls = (λ i. lines_of (rest_is from ts i) (rest_is from ls i)) ∙ lines_drop from ts ls

same_fault : (end : ℕ) (h : HaltOf Lined) → line_fault end h ≡ fault_at (line_place end) h
same_fault end (Syntax ts) = refl
same_fault end (Deep ts) = refl

-- the tokens of a text, and the lexemes of the code
module _ (text : List ℕ) (tokens : List Token) (ls : List Lexeme) (front : List Declared) (from : ℕ)
    (ls_is : ls ≡ lexemes text tokens) (so_far : with_decls front
    (module_at most_nested (drop from (lines_of tokens ls))) ≡ module_at most_nested (lines_of tokens ls)) where
  few : length ls ≤ length tokens
  few = omega (arith, ap length ls_is, few_lexemes text tokens)

  total : module_at most_nested (lines_of tokens ls) ≡ module_at most_nested (line_lexemes text tokens)
  total = ap (λ (w : List Lexeme). module_at most_nested (lines_of tokens w)) ls_is
      ∙ ap (module_at most_nested) (lines_are text tokens)

  left_count : length (drop from (lines_of tokens ls)) ≡ length ls - from
  left_count = omega (arith, length-drop from (lines_of tokens ls), lines_count tokens ls few)

  stopped : (e : SyntaxFault) → from < length ls →
      (h : HaltOf Lined) × (line_read most_nested (lines_of (take (length tokens - from) (drop from tokens))
      (take (length ls - from) (drop from ls))) ≡ Err h) ×
      (e ≡ line_fault (length text) h) → AnswersModule text tokens (Err e)
  stopped e lt g =
      let read = ap (line_read most_nested) (sym (lines_left from tokens ls)) ∙ g.1 in
      let there = sym total ∙ stops most_nested front (drop from (lines_of tokens ls)) g.0 _
      (omega (arith, left_count, lt)) read so_far in
      subst (λ z. AnswersModule text tokens (Err z)) (sym (g.2 ∙ same_fault (length text) g.0))
      (module_stopped text tokens g.0 there)

  pub refused : (e : SyntaxFault) → from < length ls →
      GivesLine (Err e) (length text) (line_read most_nested
      (lines_of (take (length tokens - from) (drop from tokens)) (take (length ls - from) (drop from ls)))) →
      AnswersModule text tokens (Err e)
  refused fault.Memory lt g = tt
  refused (fault.Syntax at) lt g = stopped (fault.Syntax at) lt g
  refused (fault.TooDeep at) lt g = stopped (fault.TooDeep at) lt g

  pub further : (d : Decl) (n : ℕ) → line_read most_nested
      (lines_of (take (length tokens - from) (drop from tokens)) (take (length ls - from) (drop from ls))) ≡ Ok (decl_tree d, n) →
      (from + n ≤ length ls) × (0 < n) × (with_decls (front ++ decl_tree d ∷ [])
      (module_at most_nested (drop (from + n) (lines_of tokens ls))) ≡ module_at most_nested (lines_of tokens ls))
  further d n e =
      let read = ap (line_read most_nested) (sym (lines_left from tokens ls)) ∙ e in
      let one = one_line most_nested (drop from (lines_of tokens ls)) (decl_tree d) n read in (
        omega (arith, one.1, one.2, left_count),
        one.2,
        ap (λ (w : List Lined). with_decls (front ++ decl_tree d ∷ []) (module_at most_nested w))
            (sym (drop_more from n (lines_of tokens ls)))
            ∙ goes_on most_nested front (drop from (lines_of tokens ls)) (decl_tree d) n _ read so_far,
      )

  pub finished : length ls ≤ from → AnswersModule text tokens (Ok front)
  finished le =
      let none : drop from (lines_of tokens ls) ≡ [] = no_more (drop from (lines_of tokens ls)) (omega (arith, left_count, le)) in
      module_read text tokens front (sym total ∙ ended most_nested front _
      (ap (λ (w : List Lined). with_decls front (module_at most_nested w)) (sym none) ∙ so_far) ∙ ap
      (λ (ds : List Declared). Ok (ds, [])) (append-nil front))
    where
      no_more : (ts : List Lined) → length ts ≤ 0 → ts ≡ []
      no_more [] le = refl
      no_more (k ∷ ts) le = absurd (omega (arith, le))
