-- The text of a question that was read is a question of the same types.
use Rattle.std.proofs.Common.{◌≡◌, false, ℕ, ◌+◌, ◌-◌, ◌<◌, ◌≤◌, ◌^◌, List, [], ◌++◌, length, take, Some, None, refl, sym, ap, subst, arith}
use Rattle.std.specs.Prelude.{Ok, codes, nat_lt}
use Rattle.std.proofs.lemmas.Bool.Decides.{nat_tests}
use Rattle.std.proofs.lemmas.List.{append-nil, length-map}
use Rattle.std.proofs.lemmas.List.Elements.{All-nil, recursion_from_All, All-map}
use Rattle.std.proofs.lemmas.Option.{same_Some}
use Rattle.fst_base.specs.Limits.{most_bytes, most_nodes, most_nested}
use Rattle.fst_types.specs.Height.{height, height_all}
use Rattle.fst_types.specs.Size.{nodes, nodes_all}
use Rattle.fst_types.specs.Tree as tree
use Rattle.fst_types.specs.Tree.{Tree, Branches}
use Rattle.fst_types.specs.WrittenTree.{WrittenTree}
use Rattle.fst_types.specs.declared.kind.Kind.{Kind}
use Rattle.fst_kinds.specs.WellFormed.{IsSession}
use Rattle.fst_lexer.specs.declared.token.Token.{Token}
use Rattle.fst_lexer.specs.Lexes.{Lexes}
use Rattle.fst_lexer.specs.Spelling.{SpellingLaw, TokenWords}
use Rattle.fst_terms.specs.declared.binder.Binder.{Binder}
use Rattle.fst_terms.specs.Naming.{Scope, place, type_of}
use Rattle.fst_reading.specs.Lexeme.{Lexeme, lexeme, lexemes}
use Rattle.fst_reading.specs.Faults.{IsWithinLimit}
use Rattle.fst_type_syntax.specs.Grammar as grammar
use Rattle.fst_type_syntax.specs.Grammar.{IsSeq, Asked, IsQuestion}
use Rattle.fst_type_syntax.specs.Nesting.{question_nests}
use Rattle.fst_type_syntax.specs.Derives.{AnswersQuestion}
use Rattle.fst_type_syntax.proofs.Laws.{seq_filled}
use Rattle.fst_types.specs.WrittenTree.{HasBranches}
use Rattle.fst_scopes.specs.Faults.{unbound, too_large, type_faults}
use Rattle.fst_scopes.specs.Plain.{IsPlain, AllPlain}
use Rattle.fst_scopes.specs.Twice.{names, variables}
use Rattle.fst_scopes.specs.TypeNames.{scope_with}
use Rattle.fst_scopes.proofs.Laws.{closed_plain, no_larger, none_named}
use Rattle.fst_type_print.specs.Texts.{forall_text, type_text, question_text}
use Rattle.fst_type_print.specs.WrittenTexts.{seq_text}
use Rattle.fst_roundtrip.specs.ReadBack.{IsWritable, variable_names}
use Rattle.fst_roundtrip.specs.ReadQuestion.{IsQuestionOf, AskedAgain}
use Rattle.fst_roundtrip.specs.Unplaced.{unplaced_type}
use Rattle.fst_roundtrip.proofs.Derived.{IsMade, AreMade, question_shown}
use Rattle.fst_roundtrip.proofs.FewVariables.{few_variables}
use Rattle.fst_roundtrip.proofs.OneLine.{question_line}
use Rattle.fst_roundtrip.proofs.QuestionNames.{all_once, type_bound}
use Rattle.fst_roundtrip.proofs.ReadingLaws.{text_read}
use Rattle.fst_roundtrip.proofs.Showable.{IsShowableType}
use Rattle.fst_roundtrip.proofs.Depths.{seq_depth, DeclaresFlat, printed_no_deeper}
use Rattle.fst_roundtrip.proofs.ShownQuestions.{ShownQuestion, asked_shown, sides_within}
use Rattle.fst_roundtrip.proofs.ShownTypes.{seq_shallow}
use Rattle.fst_roundtrip.proofs.Spelled.{Reads, EndsName}
use Rattle.fst_roundtrip.proofs.UpperLabels.{type_upper, session_writable}
use Rattle.fst_roundtrip.proofs.WrittenForms.{as_written, text_same, bare_same, Around, scope_under, meant, means_same}

mutual
  -- a type is no higher than it has nodes
  low_type : (t : Tree) → height t ≤ nodes t
  low_type tree.skip = omega arith
  low_type (tree.send b) = omega arith
  low_type (tree.receive b) = omega arith
  low_type tree.close = omega arith
  low_type tree.wait = omega arith
  low_type (tree.select bs) = omega (arith, low_branches bs)
  low_type (tree.offer bs) = omega (arith, low_branches bs)
  low_type (tree.seq s t) = omega (arith, low_type s, low_type t)
  low_type (tree.rec t) = omega (arith, low_type t)
  low_type (tree.back k) = omega arith
  low_type (tree.var k) = omega arith
  low_type (tree.plain b) = omega arith
  low_type (tree.arrow u s t) = omega (arith, low_type s, low_type t)
  low_type (tree.pair s t) = omega (arith, low_type s, low_type t)
  low_type (tree.named k) = omega arith

  low_branches : (bs : Branches) → height_all bs ≤ nodes_all bs
  low_branches tree.none = omega arith
  low_branches (tree.branch l t bs) = omega (arith, low_type t, low_branches bs)

-- a type that isn't too large
no_fault : (at : ℕ) (t : Tree) → nodes t ≤ most_nodes → too_large at (Some t) ≡ []
no_fault at t small =
    let fits : nat_lt most_nodes (nodes t) ≡ false = grind (arith, nat_tests) in
    rw fits refl

-- what is in scope in a question with these variables
abbrev scope_of : List (List ℕ) → Scope
scope_of vars = scope_with vars (λ x. None) (λ x. None)

-- what is known of a type that a question asks about
record IsAskedType (kinds : List Kind) (t : Tree) : Type 0 where
  writable : IsWritable (length kinds) t
  showable : IsShowableType (as_written [] 0 t)
  text : seq_text (as_written [] 0 t) ≡ type_text [] t
  means : type_of (scope_under [] (length kinds) 0) (as_written [] 0 t) ≡ Some t
  small : nodes t ≤ most_nodes

asked_type : (vars : List (List ℕ)) (kinds : List Kind) (w : WrittenTree) (t : Tree) → length kinds < 2 ^ 64 →
    HasBranches w → IsShowableType w → type_faults (scope_of vars) w ≡ [] → type_of (scope_of vars) w ≡ Some t →
    IsSession kinds t → IsAskedType kinds t
asked_type vars kinds w t few filled showable faults is session =
    let s = scope_of vars in
    let all : AllPlain 0 s = record {
      declared = λ x v e. absurd (cc e);
      otherwise = λ v e. subst (IsPlain 0 0) (same_Some tree.skip v e) (record { scoped = tt; sorted = tt; named = tt });
    } in
    let plain = closed_plain 0 s w t all refl filled is in
    let writable = session_writable kinds t session.0 (session.1).kinded (type_upper vars [] w t showable is) in
    let none = none_named (unbound s w) (too_large (place w) (type_of s w)) faults in
    let small = no_larger (place w) t (subst (λ o. too_large (place w) o ≡ []) is none.1) in
    let around : Around [] (length kinds) = record {
      upper = All-nil _;
      distinct = λ i j d a b. absurd (omega arith);
      few = few;
    } in
    let known = meant [] (length kinds) around 0 t plain.scoped plain.named plain.sorted writable.1
    (omega (arith, low_type t, small)) in
    record {
      writable = writable.1;
      showable = known.showable;
      text = bare_same [] 0 t writable.0 (text_same [] (length kinds) 0 t writable.1);
      means = known.means;
      small = small;
    }

-- what is written for it has no faults, and means it
written_again : (kinds : List Kind) (t : Tree) (vars : List (List ℕ)) (w : WrittenTree) → IsAskedType kinds t →
    vars ≡ variable_names 0 (length kinds) → unplaced_type w ≡ unplaced_type (as_written [] 0 t) →
    (type_faults (scope_of vars) w ≡ []) × (type_of (scope_of vars) w ≡ Some t)
written_again kinds t vars w h are same =
    let xs = variable_names 0 (length kinds) in
    let means = means_same (scope_under [] (length kinds) 0) w (as_written [] 0 t) t same h.means in
    let b = type_bound xs [] w t means in
    let fits = no_fault (place w) t h.small in
    let faults : type_faults (scope_of xs) w ≡ [] = rw (b.none, b.means, fits) refl in
    subst (λ ys. (type_faults (scope_of ys) w ≡ []) × (type_of (scope_of ys) w ≡ Some t)) (sym are) (faults, b.means)

-- the types of a question have a branch in each choice
sides_filled : (ts : List Lexeme) (q : Asked) → IsQuestion ts q → HasBranches q.left × HasBranches q.right
sides_filled _ _ (grammar.closed ts us all k t u s is r parts) = (seq_filled s, seq_filled r)
sides_filled _ _ (grammar.over f d k vs ts us all bs t u is b dot s tilde r parts) = (seq_filled s, seq_filled r)

-- what is written asks about the same types
asks_again : (kinds : List Kind) (t u : Tree) (ts : List Lexeme) → length kinds < 2 ^ 64 → IsAskedType kinds t →
    IsAskedType kinds u → (q : ShownQuestion kinds (as_written [] 0 t) (as_written [] 0 u) ts) → IsQuestionOf q.asked kinds t u
asks_again kinds t u ts few left right q =
    let vars = names (variables (q.asked).binders) in
    let one = written_again kinds t vars (q.asked).left left q.names_are q.left_same in
    let other = written_again kinds u vars (q.asked).right right q.names_are q.right_same in
    record {
      once = all_once (variables (q.asked).binders) 0 (length kinds) q.names_are (omega arith);
      left_named = one.0;
      right_named = other.0;
      kinds_are = q.kinds_are;
      left_is = one.1;
      right_is = other.1;
    }

-- all the tokens of a text are a question
answers_again : (text : List ℕ) (tokens : List Token) (kinds : List Kind) (v w : WrittenTree)
    (q : ShownQuestion kinds v w (lexemes text tokens)) → 1 + seq_depth v ≤ most_nested → 1 + seq_depth w ≤ most_nested →
    AnswersQuestion text tokens (Ok q.asked)
answers_again text tokens kinds v w q left right = (
  [],
  (
    record {
      tokens = lexemes text tokens;
      nests = question_nests q.form;
      parts = sym (append-nil (lexemes text tokens));
      phrase = (q.form, refl);
      ended = refl;
    },
    q.within most_nested left right,
  ),
)

-- the types of a question that was read have no functions in them, and are printed no deeper
record IsAskable (kinds : List Kind) (t u : Tree) : Type 0 where
  few : length kinds < 2 ^ 64
  left : IsAskedType kinds t
  right : IsAskedType kinds u
  left_within : 1 + seq_depth (as_written [] 0 t) ≤ most_nested
  right_within : 1 + seq_depth (as_written [] 0 u) ≤ most_nested

askable : (text : List ℕ) (tokens : List Token) (q : Asked) (kinds : List Kind) (t u : Tree) → length text ≤ most_bytes →
    Lexes text tokens → AreMade (lexemes text tokens) → AnswersQuestion text tokens (Ok q) → IsQuestionOf q kinds t u →
    IsSession kinds t →
    IsSession kinds u → IsAskable kinds t u
askable text tokens q kinds t u short lexes made answers asks one other =
    let b = answers.1.0 in
    let d : IsQuestion b.tokens q = b.phrase.0 in
    let all : AreMade (b.tokens ++ answers.0) = subst AreMade b.parts made in
    let limits = sides_within b.tokens q d most_nested (subst (IsWithinLimit most_nested) (sym b.phrase.1) answers.1.1) in
    let few : length kinds < 2 ^ 64 = omega (
      arith,
      short,
      few_variables text tokens b.tokens answers.0 q lexes b.parts d,
      ap length asks.kinds_are,
      length-map q.binders (λ (x : Binder × Kind). x.1),
    ) in
    let showable = question_shown b.tokens answers.0 q d all in
    let filled = sides_filled b.tokens q d in
    let vars = names (variables q.binders) in
    let flat : DeclaresFlat (scope_of vars) = (λ x. tt, refl) in
    record {
      few = few;
      left = asked_type vars kinds q.left t few filled.0 showable.0 asks.left_named asks.left_is one;
      right = asked_type vars kinds q.right u few filled.1 showable.1 asks.right_named asks.right_is other;
      left_within = omega (arith, limits.0, printed_no_deeper [] 0 (scope_of vars) q.left t flat asks.left_is);
      right_within = omega (arith, limits.1, printed_no_deeper [] 0 (scope_of vars) q.right u flat asks.right_is);
    }

-- the words of a question's text
text_shown : (kinds : List Kind) (t u : Tree) → length kinds < 2 ^ 64 → IsAskedType kinds t → IsAskedType kinds u →
    Reads EndsName (question_text kinds t u) (ShownQuestion kinds (as_written [] 0 t) (as_written [] 0 u))
text_shown kinds t u few left right =
    let v = as_written [] 0 t in
    let w = as_written [] 0 u in
    let same : forall_text kinds ++ seq_text v ++ codes " ~ " ++ seq_text w ≡ question_text kinds t u =
    λ i. forall_text kinds ++ left.text i ++ codes " ~ " ++ right.text i in
    subst (λ (text : List ℕ). Reads EndsName text (ShownQuestion kinds v w)) same
    (asked_shown kinds v w few (seq_shallow v left.showable) (seq_shallow w right.showable))

pub asked_again_law : SpellingLaw → TokenWords → AskedAgain
asked_again_law spelling token_words text tokens q kinds t u short lexes answers asks one other =
    let made : AreMade (lexemes text tokens) = recursion_from_All IsMade (lexemes text tokens)
    (All-map IsMade (lexeme text) (take (length tokens - 1) tokens) (token_words text tokens lexes)) in
    let h = askable text tokens q kinds t u short lexes made answers asks one other in
    let found = text_read spelling (question_text kinds t u) (text_shown kinds t u h.few h.left h.right) in
    record {
      tokens = found.tokens;
      read = (found.read).asked;
      lexes = found.lexes;
      reads = answers_again (question_text kinds t u) found.tokens kinds (as_written [] 0 t) (as_written [] 0 u) found.read
          h.left_within h.right_within;
      asks = asks_again kinds t u (lexemes (question_text kinds t u) found.tokens) h.few h.left h.right found.read;
      one_line = question_line kinds (length kinds) t u (h.left).writable (h.right).writable;
    }
