-- Behind the letters of Close and Wait stands the dead non-terminal, so that words which one trace leaves end together.
use Rattle.std.proofs.Common.{◌≡◌, ◌≢◌, ◌∙◌, ◌+◌, ◌<◌, ◌≤◌, inl, inr, refl, sym, ap, subst, arith, ℕ, zero, suc, List, [], ◌∷◌, ◌++◌, length, Bool, true, false, Option, Some, None, ◌==◌}
use Rattle.std.specs.Prelude.{slice_get, option_map, option_and_then, if◌then◌else◌}
use Rattle.std.proofs.lemmas.Bool.{eqb-true, eq-eqb}
use Rattle.std.proofs.lemmas.List.Elements.{All-head, All-tail, All-append}
use Rattle.fst_base.proofs.Lists.{get_there}
use Rattle.fst_base.proofs.Options.{mapped_some}
use Rattle.fst_base.specs.Limits.{most_nodes}
use Rattle.fst_types.specs.Tree.{Tree, select, offer, rec, Branches, none, branch}
use Rattle.fst_types.specs.Size.{nodes}
use Rattle.fst_types.specs.declared.kind.Kind.{Kind}
use Rattle.fst_types.specs.declared.label.Label.{Label}
use Rattle.fst_types.specs.declared.label.Label.TheVariants.{Select, Offer}
use Rattle.fst_kinds.specs.WellFormed.{IsSession}
use Rattle.fst_lts.specs.Step.{is_end}
use Rattle.fst_words.specs.declared.rules.Rule.{Rule}
use Rattle.fst_words.specs.Words.{Productions, row_of, rule_of, step, after, WordBelow, EachHasRule}
use Rattle.fst_words.proofs.Laws.{rule_within}
use Rattle.fst_parts.specs.Labels.{label_position}
use Rattle.fst_parts.specs.Once.{Part}
use Rattle.fst_parts.specs.Place.{Place, top_of, place_past, own_place, body_place}
use Rattle.fst_grammar.specs.Word.{Numbers, word}
use Rattle.fst_grammar.specs.Parts.{parts_of, numbers_by}
use Rattle.fst_grammar.specs.Rules.{rules_before, name_word, name_rules, branch_rules}
use Rattle.fst_grammar.specs.Equations.{Equation, own, like, rules_by, Solves, equation_at, part_equation, equations_by, most_rank}
use Rattle.fst_grammar.specs.Translation.{IsGrammar}
use Rattle.fst_grammar.specs.Ends.{BeginsWith, StandsBehind, StopsAtEnds, EndsWith, GrammarStopsAtEnds, EndsLaw}
use Rattle.fst_grammar.proofs.LetterLaws.{Known, located}
use Rattle.fst_grammar.proofs.KnownLaws.{contains_known}
use Rattle.fst_grammar.proofs.SeekLaws.{Every}
use Rattle.fst_grammar.proofs.TableLaws.{every_get}
use Rattle.fst_grammar.proofs.FitLaws.{AreFit, fit_select, fit_offer, fit_body, fit_branch, fit_others}
use Rattle.fst_grammar.proofs.RowLaws.{rule_carried}
use Rattle.fst_grammar.proofs.RankLaws.{rank}
use Rattle.fst_grammar.proofs.EquationLaws.{equation_cases}
use Rattle.fst_grammar.proofs.SoundLaws.{none_below, word_below}
use Rattle.fst_grammar.proofs.TranslationLaws.{seated, fit_left, fit_right, every_found, equations_grounded, solved_ruled}
use Rattle.fst_grammar.proofs.UniqueLaws.{name_in, grammar_solves}

-- what one trace leaves of two words

module _ (letters : List Label) (rows : Productions) (dead : ℕ) (stops : StopsAtEnds letters rows dead)
    (no_rules : row_of rows dead ≡ []) (ruled : EachHasRule dead rows) where
  -- a word that begins with the dead non-terminal isn't emptied
  never_emptied : (w : List ℕ) → BeginsWith dead w → (t : List ℕ) → after rows w t ≡ Some [] → ⊥
  never_emptied w (d, is) [] e =
      let same : w ≡ [] = cc e in
      absurd (cc (sym is ∙ same))
  never_emptied w (d, is) (a ∷ t) e =
      let stuck : step rows w a ≡ None = ap (λ x. step rows x a) is
      ∙ ap (λ rules. option_map (λ x. x ++ d) (rule_of rules a)) no_rules in
      absurd (cc (sym (ap (option_and_then (λ x. after rows x t)) stuck) ∙ e))

  -- a letter is that of one label
  same_end : (a : ℕ) (x y : List ℕ) (p : StandsBehind letters dead a x) (q : StandsBehind letters dead a y) →
      is_end p.label ≡ is_end q.label
  same_end a x y p q =
      let same : p.label ≡ q.label = cc (sym p.at ∙ q.at) in
      ap is_end same

  -- where a trace empties one word it leaves no dead non-terminal of the other
  abbrev LeavesLive : List ℕ → Type 0
  LeavesLive t = (u v y : List ℕ) → WordBelow dead u → WordBelow dead v → after rows u t ≡ Some [] →
      after rows v t ≡ Some y → WordBelow dead y

  live_left : (t : List ℕ) → LeavesLive t
  live_left [] u v y in_u in_v e f =
      let same : v ≡ y = cc f in
      subst (WordBelow dead) same in_v
  live_left (a ∷ t) [] v y in_u in_v e f = absurd (cc e)
  live_left (a ∷ t) (m ∷ u) [] y in_u in_v e f = absurd (cc f)
  live_left (a ∷ t) (m ∷ u) (n ∷ v) y in_u in_v e f =
      pick (live_left t) (rule_of (row_of rows m) a) refl (rule_of (row_of rows n) a) refl e f
    where
      go : LeavesLive t → (w x : List ℕ) (p : StandsBehind letters dead a w) (q : StandsBehind letters dead a x) →
          after rows (w ++ u) t ≡ Some [] → after rows (x ++ v) t ≡ Some y →
          (c : Bool) → is_end p.label ≡ c → WordBelow dead y
      go next w x p q e f true is =
          let b = p.stops is in
          absurd (never_emptied (w ++ u) (b.0 ++ u, ap (λ z. z ++ u) b.1) t e)
      go next w x p q e f false is =
          next (w ++ u) (x ++ v) y (All-append (λ k. k < dead) w u (p.goes is) (All-tail (λ k. k < dead) m u in_u))
          (All-append (λ k. k < dead) x v (q.goes (sym (same_end a w x p q) ∙ is)) (All-tail (λ k. k < dead) n v in_v)) e f

      pick : LeavesLive t → (o : Option (List ℕ)) → rule_of (row_of rows m) a ≡ o →
          (p : Option (List ℕ)) → rule_of (row_of rows n) a ≡ p →
          option_and_then (λ w. after rows w t) (option_map (λ w. w ++ u) o) ≡ Some [] →
          option_and_then (λ w. after rows w t) (option_map (λ w. w ++ v) p) ≡ Some y → WordBelow dead y
      pick next None is p at e f = absurd (cc e)
      pick next (Some w) is None at e f = absurd (cc f)
      pick next (Some w) is (Some x) at e f =
          let p = stops m a w is in
          go next w x p (stops n a x at) e f (is_end p.label) refl

  -- where there are rules one has a letter
  first_letter : (rules : List Rule) → rules ≢ [] → (v : List ℕ) →
      ((a : ℕ) → option_map (λ x. x ++ v) (rule_of rules a) ≡ None) → ⊥
  first_letter [] some v quiet = some refl
  first_letter (r ∷ rules) some v quiet =
      absurd (cc (sym (ap (λ c. option_map (λ x. x ++ v) (if c then Some r.word else rule_of rules r.letter))
      (eq-eqb r.letter r.letter refl)) ∙ quiet r.letter))

  -- a word without the dead non-terminal that performs no letter is empty
  live_quiet : (y : List ℕ) → WordBelow dead y → ((a : ℕ) → step rows y a ≡ None) → y ≡ []
  live_quiet [] below quiet = refl
  live_quiet (m ∷ y) below quiet =
      absurd (first_letter (row_of rows m) (ruled m (All-head (λ k. k < dead) m y below)) y quiet)

  ends_with : (u v : List ℕ) → WordBelow dead u → WordBelow dead v → EndsWith rows u v
  ends_with u v in_u in_v t y e f quiet = live_quiet y (live_left t u v y in_u in_v e f) quiet

-- what stands behind the letters of rules

module _ (letters : List Label) (dead : ℕ) where
  -- the words of the rules are as their letters say
  abbrev StopAtEnds : List Rule → Type 0
  StopAtEnds rules = (a : ℕ) (w : List ℕ) → rule_of rules a ≡ Some w → StandsBehind letters dead a w

  -- one more rule, of a known label
  stops_more : (l : Label) (x : List ℕ) (rules : List Rule) → Known letters l → (is_end l ≡ true → BeginsWith dead x) →
      (is_end l ≡ false → WordBelow dead x) → StopAtEnds rules →
      StopAtEnds (record { letter = label_position letters l; word = x } ∷ rules)
  stops_more l x rules known stops goes rest a w e = pick (label_position letters l == a) refl e
    where
      pick : (c : Bool) → (label_position letters l == a) ≡ c → (if c then Some x else rule_of rules a) ≡ Some w →
          StandsBehind letters dead a w
      pick true is e =
          let same : x ≡ w = cc e in
          subst (StandsBehind letters dead a) same (record {
            label = l;
            at = ap (slice_get letters) (sym (eqb-true (label_position letters l) a is)) ∙ located letters l known;
            stops = stops;
            goes = goes;
          })
      pick false is e = rest a w e

  stops_none : StopAtEnds []
  stops_none a w e = absurd (cc e)

  -- more behind each word
  stops_carried : (d : List ℕ) → WordBelow dead d → (rules : List Rule) → StopAtEnds rules → StopAtEnds (rules_before d rules)
  stops_carried d below rules h a w e =
      let p = mapped_some (λ x. x ++ d) (rule_of rules a) w (sym (rule_carried d rules a) ∙ e) in
      let f = h a p.0 p.1 in
      subst (StandsBehind letters dead a) p.2 (record {
        label = f.label;
        at = f.at;
        stops = λ is. let b = f.stops is in (b.0 ++ d, ap (λ x. x ++ d) b.1);
        goes = λ is. All-append (λ k. k < dead) p.0 d (f.goes is) below;
      })

  -- the rules of an equation stop at ends, or its word has no dead non-terminal
  abbrev EquationStops : Equation → Type 0
  EquationStops (own rules) = StopAtEnds rules
  EquationStops (like w) = WordBelow dead w

module _ (letters : List Label) (found : List Part) where
  abbrev n : Numbers
  n = numbers_by letters found

  name_stops : (a : Label) → Known letters a → StopAtEnds letters n.dead (name_rules n letters a)
  name_stops a known =
      stops_more letters n.dead a (name_word n a) [] known (λ is. ([], ap (λ c. if c then n.dead ∷ [] else []) is))
      (λ is. subst (WordBelow n.dead) (sym (ap (λ c. if c then n.dead ∷ [] else []) is)) (none_below n.dead))
      (stops_none letters n.dead)

  branches_stop : (make : List ℕ → Label) → ((l : List ℕ) → is_end (make l) ≡ false) → (p : Place) (cs : Branches) →
      AreFit letters found make p cs → StopAtEnds letters n.dead (branch_rules n letters make p cs)
  branches_stop make on p none h = stops_none letters n.dead
  branches_stop make on p (branch l s cs) h =
      stops_more letters n.dead (make l) (word n (place_past p 1) s) (branch_rules n letters make (place_past p (1 + nodes s)) cs)
      h.known.0 (λ is. absurd (cc (sym is ∙ on l)))
      (λ is. word_below letters found n.dead (omega arith) (place_past p 1) s (fit_branch letters found make p l s cs h))
      (branches_stop make on (place_past p (1 + nodes s)) cs (fit_others letters found make p l s cs h))

module _ (vars others : List Kind) (s r : Tree) (ws : IsSession vars s) (wr : IsSession others r) (few_s : nodes s ≤ most_nodes)
    (few_r : nodes r ≤ most_nodes) (letters : List Label) (rows : Productions) (h : IsGrammar s r letters rows) where
  abbrev found : List Part
  found = parts_of s r

  abbrev numbers : Numbers
  numbers = numbers_by letters found

  abbrev equations : List Equation
  equations = equations_by letters found

  abbrev ranks : ℕ → ℕ
  ranks = rank letters found (seated vars s r ws (others, wr) few_s few_r letters h.labels)

  solved : Solves rows equations
  solved = grammar_solves vars others s r ws wr few_s few_r letters rows h

  parts_stop : Every (λ e. EquationStops letters numbers.dead (part_equation numbers letters e)) found
  parts_stop =
      every_found vars s r ws (others, wr) few_s few_r letters h.labels
      (λ q t. EquationStops letters numbers.dead (equation_at numbers letters q t))
      (λ p cs fit. branches_stop letters found Select (λ l. refl) (place_past (own_place p (select cs)) 1) cs
      (fit_select letters found p cs fit))
      (λ p cs fit. branches_stop letters found Offer (λ l. refl) (place_past (own_place p (offer cs)) 1) cs
      (fit_offer letters found p cs fit))
      (λ p b e fit. word_below letters found numbers.dead (omega arith) (body_place (own_place p (rec b))) b
      (fit_body letters found p b e fit))

  equation_stops : (m : ℕ) (e : Equation) → slice_get equations m ≡ Some e → EquationStops letters numbers.dead e
  equation_stops m e g = elim (equation_cases letters found m e g) [
    | inl c ↦
        subst (EquationStops letters numbers.dead) c.2
        (name_stops letters found c.0 (contains_known letters c.0 (name_in letters m c.0 c.1).1))
    | inr d ↦ elim d [
      | inl c ↦
          subst (EquationStops letters numbers.dead) c.4
          (every_get (λ e. EquationStops letters numbers.dead (part_equation numbers letters e)) found parts_stop c.0 c.1 c.3)
      | inr c ↦ subst (EquationStops letters numbers.dead) c.1 (stops_none letters numbers.dead)
    ]
  ]

  row_stops : (fuel m : ℕ) → ranks m < fuel → m < length equations → StopAtEnds letters numbers.dead (row_of rows m)
  row_stops zero m lt there = absurd (omega arith)
  row_stops (suc fuel) m lt there =
      let e = get_there equations m there in
      subst (StopAtEnds letters numbers.dead) (sym (solved.each m e.0 e.1)) (pick (λ z. row_stops fuel z) e.0 e.1)
    where
      pick : ((z : ℕ) → ranks z < fuel → z < length equations → StopAtEnds letters numbers.dead (row_of rows z)) →
          (e : Equation) → slice_get equations m ≡ Some e → StopAtEnds letters numbers.dead (rules_by rows e)
      pick next (own rules) is = equation_stops m (own rules) is
      pick next (like []) is = stops_none letters numbers.dead
      pick next (like (z ∷ d)) is =
          let g = (equations_grounded vars s r ws (others, wr) few_s few_r letters h.labels).begins m (z ∷ d) is in
          let same : g.first ≡ z = cc in
          let within : g.first < length equations = g.within in
          let up : ranks g.first < ranks m = g.lower in
          let at : ranks g.first ≡ ranks z = ap ranks same in
          stops_carried letters numbers.dead d (All-tail (λ k. k < numbers.dead) z d (equation_stops m (like (z ∷ d)) is))
          (row_of rows z) (next z (omega arith) (omega arith))

  grammar_stops : StopsAtEnds letters rows numbers.dead
  grammar_stops m a w e =
      let within : m < length rows = rule_within rows m a w e in
      let long : length rows ≡ length equations = solved.count in
      let most = (equations_grounded vars s r ws (others, wr) few_s few_r letters h.labels).most m in
      row_stops (suc most_rank) m (omega arith) (omega arith) a w e

  grammar_ruled : EachHasRule numbers.dead rows
  grammar_ruled = solved_ruled vars s r ws (others, wr) few_s few_r letters h.labels rows solved

  left_live : WordBelow numbers.dead (word numbers (top_of s) s)
  left_live = word_below letters found numbers.dead (omega arith) (top_of s) s
      (fit_left vars s r ws (others, wr) few_s few_r letters h.labels)

  right_live : WordBelow numbers.dead (word numbers (top_of r) r)
  right_live = word_below letters found numbers.dead (omega arith) (top_of r) r
      (fit_right vars s r ws (others, wr) few_s few_r letters h.labels)

  both_end : (u v : List ℕ) → u ≡ word numbers (top_of s) s → v ≡ word numbers (top_of r) r →
      EndsWith rows u v × EndsWith rows v u
  both_end u v left right =
      let in_u = subst (WordBelow numbers.dead) (sym left) left_live in
      let in_v = subst (WordBelow numbers.dead) (sym right) right_live in (
        ends_with letters rows numbers.dead grammar_stops h.dead grammar_ruled u v in_u in_v,
        ends_with letters rows numbers.dead grammar_stops h.dead grammar_ruled v u in_v in_u,
      )

-- the grammar of two session types stops at Close and Wait
pub stops_law : GrammarStopsAtEnds
stops_law = grammar_stops

-- where one trace leaves of their words what performs the same letters, both are empty or neither is
pub ends_law : EndsLaw
ends_law vars others s r ws wr few_s few_r letters rows u v h =
    both_end vars others s r ws wr few_s few_r letters rows h.grammar u v h.left h.right
