-- Productions that solve the equations have the rules of both types, and rows are rules by labels.
use Rattle.std.proofs.Common.{◌≡◌, ◌∙◌, ◌+◌, refl, sym, ap, arith, ℕ, List, [], ◌∷◌, ◌++◌, length, Bool, true, false, Option, Some, None, append_assoc, ◌==◌}
use Rattle.std.specs.Prelude.{option_map, option_and_then, if◌then◌else◌}
use Rattle.std.proofs.lemmas.List.{get_or_past}
use Rattle.fst_types.specs.Tree.{Tree, skip, send, receive, close, wait, select, offer, seq, rec, back, var, plain, arrow, pair, named, Branches, none, branch}
use Rattle.fst_types.specs.Size.{nodes}
use Rattle.fst_types.specs.Order.{same_label}
use Rattle.fst_types.specs.declared.label.Label.{Label}
use Rattle.fst_types.specs.declared.label.Label.TheVariants.{Send, Receive, Select, Offer, Close, Wait, Var}
use Rattle.fst_words.specs.declared.rules.Rule.{Rule}
use Rattle.fst_words.specs.Words.{Productions, row_of, rule_of, step, letter_of, label_step}
use Rattle.fst_parts.specs.Place.{Place, place_past, own_place, body_place}
use Rattle.fst_grammar.specs.Word.{Numbers, node_at, word}
use Rattle.fst_parts.specs.Labels.{is_name}
use Rattle.fst_parts.specs.Once.{Part}
use Rattle.fst_grammar.specs.Parts.{numbers_by, has_end, dead_count}
use Rattle.fst_grammar.specs.Rules.{rules_before, word_rules, name_word, name_rules, branch_rules, HasRows, HaveRows}
use Rattle.fst_grammar.specs.Equations.{own, rules_by, Solves, equation_at, equations_by}
use Rattle.fst_grammar.proofs.AbstractRules.{Rule as Rewriting, move, branch_word, HasRules, HaveRules}
use Rattle.fst_grammar.proofs.WordLaws.{append_nothing}
use Rattle.fst_grammar.proofs.LetterLaws.{Known, tells, unknown}
use Rattle.fst_grammar.proofs.SeekLaws.{Every, IsSeated, found_in}
use Rattle.fst_grammar.proofs.TableLaws.{Has}
use Rattle.fst_grammar.proofs.SizeLaws.{equations_length}
use Rattle.fst_grammar.proofs.EquationLaws.{name_equation, node_equation, dead_equation}
use Rattle.fst_grammar.proofs.FitLaws.{AreKnown, AllKnown, IsFit, AreFit, fit_first, fit_second, fit_select, fit_offer, fit_body, fit_branch, fit_others, own_select, own_offer, own_rec}

module _ (letters : List Label) (found : List Part) (rows : Productions) (seated : Every IsSeated found)
    (solved : Solves rows (equations_by letters found)) where
  abbrev n : Numbers
  n = numbers_by letters found

  name_row : (a : Label) → is_name a ≡ true → Known letters a → row_of rows (n.name a) ≡ name_rules n letters a
  name_row a is k = solved.each (n.name a) (own (name_rules n letters a)) (name_equation letters found a is k)

  -- the dead non-terminal has no rules
  pub dead_row : row_of rows n.dead ≡ []
  dead_row = pick (has_end letters) refl
    where
      pick : (c : Bool) → has_end letters ≡ c → row_of rows n.dead ≡ []
      pick true e = solved.each n.dead (own []) (dead_equation letters found e)
      pick false e =
          let long : length rows ≡ n.dead + dead_count letters = solved.count ∙ equations_length letters found in
          let none : dead_count letters ≡ 0 = ap (λ c. if c then 1 else 0) e in
          get_or_past rows n.dead [] (omega arith)

  node_row : (q : Place) (t : Tree) → (found_in q.whole q.at ≡ Some (record { place = q; type = t })) × Has found q.whole q.at →
      row_of rows (node_at n q) ≡ rules_by rows (equation_at n letters q t)
  node_row q t h = solved.each (node_at n q) (equation_at n letters q t)
      (node_equation letters found seated q.whole q.at (record { place = q; type = t }) h)

  mutual
    -- the rows have the rules of the part
    pub has_rows : (p : Place) (t : Tree) → IsFit letters found p t → HasRows n letters rows p t
    has_rows p skip h = tt
    has_rows p (send b) h = name_row (Send b) refl h.known
    has_rows p (receive b) h = name_row (Receive b) refl h.known
    has_rows p close h = name_row Close refl h.known
    has_rows p wait h = name_row Wait refl h.known
    has_rows p (select cs) h = (
      node_row (own_place p (select cs)) (select cs) (own_select letters found p cs h),
      have_rows Select (place_past (own_place p (select cs)) 1) cs (fit_select letters found p cs h),
    )
    has_rows p (offer cs) h = (
      node_row (own_place p (offer cs)) (offer cs) (own_offer letters found p cs h),
      have_rows Offer (place_past (own_place p (offer cs)) 1) cs (fit_offer letters found p cs h),
    )
    has_rows p (seq s r) h = (
      has_rows (place_past p 1) s (fit_first letters found p s r h),
      has_rows (place_past p (1 + nodes s)) r (fit_second letters found p s r h),
    )
    has_rows p (rec s) h = λ e. (
      node_row (own_place p (rec s)) (rec s) (own_rec letters found p s e h),
      has_rows (body_place (own_place p (rec s))) s (fit_body letters found p s e h),
    )
    has_rows p (back k) h = tt
    has_rows p (var k) h = name_row (Var k) refl h.known
    has_rows p (plain b) h = h.known
    has_rows p (arrow u s r) h = h.known
    has_rows p (pair s r) h = h.known
    has_rows p (named k) h = h.known

    have_rows : (make : List ℕ → Label) (p : Place) (cs : Branches) → AreFit letters found make p cs →
        HaveRows n letters rows p cs
    have_rows make p none h = tt
    have_rows make p (branch l s cs) h = (
      has_rows (place_past p 1) s (fit_branch letters found make p l s cs h),
      have_rows make (place_past p (1 + nodes s)) cs (fit_others letters found make p l s cs h),
    )

-- by labels

pub carried_nothing : (rules : List Rule) → rules_before [] rules ≡ rules
carried_nothing [] = refl
carried_nothing (r ∷ rules) = λ i. record { letter = r.letter; word = append_nothing r.word i } ∷ carried_nothing rules i

pub carried_twice : (d e : List ℕ) (rules : List Rule) → rules_before e (rules_before d rules) ≡ rules_before (d ++ e) rules
carried_twice d e [] = refl
carried_twice d e (r ∷ rules) = λ i. record { letter = r.letter; word = append_assoc r.word d e i } ∷ carried_twice d e rules i

-- with more behind each word a letter has the same rule, with more behind its word
pub rule_carried : (d : List ℕ) (rules : List Rule) (x : ℕ) → rule_of (rules_before d rules) x ≡ option_map
    (λ w. w ++ d) (rule_of rules x)
rule_carried d [] x = refl
rule_carried d (r ∷ rules) x = pick (rule_carried d rules x) (r.letter == x)
  where
    pick : rule_of (rules_before d rules) x ≡ option_map (λ w. w ++ d) (rule_of rules x) → (c : Bool) →
        (if c then Some (r.word ++ d) else rule_of (rules_before d rules) x) ≡ option_map
        (λ w. w ++ d) (if c then Some r.word else rule_of rules x)
    pick next true = refl
    pick next false = next

module _ (n : Numbers) (letters : List Label) (rows : Productions) where
  -- the rule of a non-terminal for a label
  abbrev pub rule_in : Rewriting
  rule_in m a = option_and_then (rule_of (row_of rows m)) (letter_of letters a)

  no_rule : (o : Option ℕ) → option_and_then (rule_of []) o ≡ None
  no_rule None = refl
  no_rule (Some i) = refl

  -- a non-terminal without rules has none for a label
  pub no_rule_in : (m : ℕ) → row_of rows m ≡ [] → (a : Label) → rule_in m a ≡ None
  no_rule_in m e a = ap (λ rules. option_and_then (rule_of rules) (letter_of letters a)) e ∙ no_rule (letter_of letters a)

  word_moves : (w : List ℕ) (a : Label) → option_and_then (rule_of (word_rules rows w)) (letter_of letters a) ≡ move rule_in w a
  word_moves [] a = no_rule (letter_of letters a)
  word_moves (z ∷ d) a = pick (letter_of letters a)
    where
      pick : (o : Option ℕ) → option_and_then (rule_of (rules_before d (row_of rows z))) o ≡ option_map
          (λ v. v ++ d) (option_and_then (rule_of (row_of rows z)) o)
      pick None = refl
      pick (Some i) = rule_carried d (row_of rows z) i

  name_rule : (l a : Label) → Known letters l →
      option_and_then (rule_of (name_rules n letters l)) (letter_of letters a) ≡ (if same_label a l then Some
      (name_word n l) else None)
  name_rule l a k = pick (letter_of letters a) refl
    where
      pick : (o : Option ℕ) → letter_of letters a ≡ o →
          option_and_then (rule_of (name_rules n letters l)) o ≡ (if same_label a l then Some (name_word n l) else None)
      pick None is = sym (ap (λ c. if c then Some (name_word n l) else None) (unknown letters l a k is))
      pick (Some i) is = ap (λ c. if c then Some (name_word n l) else None) (tells letters l a i k is)

  branch_rule : (make : List ℕ → Label) (p : Place) (cs : Branches) → AllKnown letters make cs →
      (a : Label) (o : Option ℕ) → letter_of letters a ≡ o →
      option_and_then (rule_of (branch_rules n letters make p cs)) o ≡ branch_word n make p cs a
  branch_rule make p none k a None is = refl
  branch_rule make p none k a (Some i) is = refl
  branch_rule make p (branch l s cs) k a None is =
      branch_rule make (place_past p (1 + nodes s)) cs k.2 a None is
      ∙ sym (ap (λ c. if c then Some (word n (place_past p 1) s) else branch_word n make (place_past p (1 + nodes s)) cs a)
      (unknown letters (make l) a k.0 is))
  branch_rule make p (branch l s cs) k a (Some i) is =
      ap (λ c. if c then Some (word n (place_past p 1) s) else rule_of
      (branch_rules n letters make (place_past p (1 + nodes s)) cs) i) (tells letters (make l) a i k.0 is)
      ∙ ap (λ o. if same_label a (make l) then Some (word n (place_past p 1) s) else o)
      (branch_rule make (place_past p (1 + nodes s)) cs k.2 a (Some i) is)

  by_label : (a : Label) → List Rule → Option (List ℕ)
  by_label a rules = option_and_then (rule_of rules) (letter_of letters a)

  mutual
    -- rows are rules by labels
    pub has_rules : (p : Place) (t : Tree) → AreKnown letters t → HasRows n letters rows p t → HasRules n rule_in p t
    has_rules p skip k h = tt
    has_rules p (send b) k h = λ a. ap (λ rules. option_and_then (rule_of rules) (letter_of letters a)) h ∙ name_rule (Send b) a k
    has_rules p (receive b) k h = λ a. ap (λ rules. option_and_then (rule_of rules) (letter_of letters a)) h
        ∙ name_rule (Receive b) a k
    has_rules p close k h = λ a. ap (λ rules. option_and_then (rule_of rules) (letter_of letters a)) h
        ∙ name_rule Close a k
    has_rules p wait k h = λ a. ap (λ rules. option_and_then (rule_of rules) (letter_of letters a)) h
        ∙ name_rule Wait a k
    has_rules p (select cs) k h =
        let q = own_place p (select cs) in (
          λ a. ap (λ rules. option_and_then (rule_of rules) (letter_of letters a)) h.0
              ∙ branch_rule Select (place_past q 1) cs k a (letter_of letters a) refl,
          have_rules_all Select (place_past q 1) cs k h.1,
        )
    has_rules p (offer cs) k h =
        let q = own_place p (offer cs) in (
          λ a. ap (λ rules. option_and_then (rule_of rules) (letter_of letters a)) h.0
              ∙ branch_rule Offer (place_past q 1) cs k a (letter_of letters a) refl,
          have_rules_all Offer (place_past q 1) cs k h.1,
        )
    has_rules p (seq s r) k h = (has_rules (place_past p 1) s k.0 h.0, has_rules (place_past p (1 + nodes s)) r k.1 h.1)
    has_rules p (rec s) k h = λ m.
        let q = own_place p (rec s) in
        let g = h m in (
          λ a. ap (λ rules. option_and_then (rule_of rules) (letter_of letters a)) g.0 ∙ word_moves (word n (body_place q) s) a,
          has_rules (body_place q) s k g.1,
        )
    has_rules p (back j) k h = tt
    has_rules p (var j) k h = λ a. ap (λ rules. option_and_then (rule_of rules) (letter_of letters a)) h ∙ name_rule (Var j) a k
    has_rules p (plain b) k h = h
    has_rules p (arrow u s r) k h = h
    has_rules p (pair s r) k h = h
    has_rules p (named j) k h = h

    have_rules_all : (make : List ℕ → Label) (p : Place) (cs : Branches) → AllKnown letters make cs →
        HaveRows n letters rows p cs → HaveRules n rule_in p cs
    have_rules_all make p none k h = tt
    have_rules_all make p (branch l s cs) k h = (
      has_rules (place_past p 1) s k.1 h.0,
      have_rules_all make (place_past p (1 + nodes s)) cs k.2 h.1,
    )

  -- the moves of words by labels
  pub moves_by_label : (w : List ℕ) (a : Label) → move rule_in w a ≡ label_step letters rows w a
  moves_by_label [] a = pick (letter_of letters a)
    where
      pick : (o : Option ℕ) → None ≡ option_and_then (step rows []) o
      pick None = refl
      pick (Some i) = refl
  moves_by_label (z ∷ d) a = pick (letter_of letters a)
    where
      pick : (o : Option ℕ) → option_map (λ v. v ++ d) (option_and_then (rule_of (row_of rows z)) o) ≡ option_and_then
          (step rows (z ∷ d)) o
      pick None = refl
      pick (Some i) = refl
