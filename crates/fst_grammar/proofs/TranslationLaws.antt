-- The equations of two session types are those of their grammar.
use Rattle.std.proofs.Common.{◌≡◌, ◌∙◌, ⊎_elim, ◌+◌, ◌<◌, ◌≤◌, refl, sym, ap, subst, arith, ℕ, suc, List, [], ◌∷◌, ◌++◌, length, Bool, true, false, Some, map}
use Rattle.std.specs.Prelude.{All, Contains, slice_get, if◌then◌else◌, ⊤}
use Rattle.std.proofs.lemmas.List.Elements.{All-cons, All-head, All-append, Contains-append_left, Contains-append_right}
use Rattle.fst_types.specs.Tree.{Tree, skip, send, receive, close, wait, select, offer, seq, rec, back, var, plain, arrow, pair, named, Branches}
use Rattle.fst_types.specs.Size.{nodes}
use Rattle.fst_types.specs.declared.kind.Kind.{Kind}
use Rattle.fst_types.specs.declared.label.Label.{Label}
use Rattle.fst_types.specs.declared.label.Label.TheVariants.{Select, Offer}
use Rattle.fst_kinds.specs.WellFormed.{IsSession}
use Rattle.fst_lts.specs.Step.{terminated}
use Rattle.fst_base.specs.Agreement.{Performs}
use Rattle.fst_words.specs.declared.rules.Rule.{Rule}
use Rattle.fst_words.specs.Words.{Productions, row_of, WordBelow, EachHasRule, label_step}
use Rattle.fst_parts.specs.Place.{Place, top_of, place_past, own_place, body_place}
use Rattle.fst_grammar.specs.Word.{Numbers, word}
use Rattle.fst_parts.specs.Labels.{is_name, names, labels_in, AreLetters}
use Rattle.fst_parts.specs.Once.{Part}
use Rattle.fst_grammar.specs.Parts.{parts, parts_of, numbers_by, has_end, dead_count}
use Rattle.fst_grammar.specs.Rules.{name_word, name_rules, HasRows}
use Rattle.fst_grammar.specs.Equations.{Equation, own, like, Solves, equation_at, part_equation, live_equations, dead_equations, equations_by, BeginsLower, IsGrounded, IsFine, most_rank}
use Rattle.fst_grammar.specs.Translation.{IsGrammar}
use Rattle.fst_grammar.proofs.AbstractRules.{move}
use Rattle.fst_grammar.proofs.StandLaws.{performs_same}
use Rattle.fst_grammar.proofs.LetterLaws.{Known}
use Rattle.fst_grammar.proofs.KnownLaws.{contains_known, session_known}
use Rattle.fst_grammar.proofs.SeekLaws.{Every, every_front, every_behind, every_both, IsSeated, all_seated}
use Rattle.fst_grammar.proofs.TableLaws.{Holds, all_held, every_with, every_get}
use Rattle.fst_grammar.proofs.FitLaws.{AreKnown, IsFit, fit_select, fit_offer, fit_body}
use Rattle.fst_grammar.proofs.SizeLaws.{live_length, equations_length}
use Rattle.fst_grammar.proofs.EquationLaws.{equation_cases}
use Rattle.fst_grammar.proofs.RowLaws.{dead_row, has_rows, rule_in, no_rule_in, has_rules, moves_by_label}
use Rattle.fst_grammar.proofs.SolveLaws.{none_fine}
use Rattle.fst_grammar.proofs.RankLaws.{rank, part_rank, entry_rank, rank_entry, body_falls, part_most, number_most}
use Rattle.fst_grammar.proofs.RuledLaws.{HasRule, names_ruled, branches_ruled, each_ruled}
use Rattle.fst_grammar.proofs.SoundLaws.{name_word_below, rules_rise, rules_below, selects_rise, offers_rise, word_below, branches_below, every_part}
use Rattle.fst_grammar.specs.Standing.{StandsFor}
use Rattle.fst_base.specs.Limits.{most_nodes}

every_all : (P : Equation → Type 0) (f : Part → Equation) (es : List Part) → Every (λ e. P (f e)) es → All P (map f es)
every_all P f [] h = λ i e lt. absurd (omega arith)
every_all P f (e ∷ es) h = All-cons P (f e) (map f es) h.0 (every_all P f es h.1)

-- each name is a letter, and its rule's word is one of the grammar
names_fine : (total : ℕ) (n : Numbers) (letters xs : List Label) →
    ((a : Label) → Contains xs a → Known letters a × WordBelow total (name_word n a)) →
    All (IsFine total (length letters)) (map (λ a. own (name_rules n letters a)) (names xs))
names_fine total n letters [] h = λ i e lt. absurd (omega arith)
names_fine total n letters (x ∷ xs) h = pick (names_fine total n letters xs (λ a m. h a (suc m.0, omega (arith, m.1), m.2)))
    (is_name x)
  where
    here : IsFine total (length letters) (own (name_rules n letters x))
    here =
        let known = h x (0, omega arith, refl) in
        record {
          words = All-cons (λ (r : Rule). WordBelow total r.word) _ [] known.1 (λ i e lt. absurd (omega arith));
          below = All-cons (λ (r : Rule). r.letter < length letters) _ [] known.0 (λ i e lt. absurd (omega arith));
          ordered = (tt, tt);
        }

    pick : All (IsFine total (length letters)) (map (λ a. own (name_rules n letters a)) (names xs)) →
        (c : Bool) → All (IsFine total (length letters))
        (map (λ a. own (name_rules n letters a)) (if c then x ∷ names xs else names xs))
    pick next true = All-cons (IsFine total (length letters)) (own (name_rules n letters x))
        (map (λ a. own (name_rules n letters a)) (names xs)) here next
    pick next false = next

module _ (vars : List Kind) (s r : Tree) (ws : IsSession vars s) (wr : (other : List Kind) × IsSession other r)
    (few_s : nodes s ≤ most_nodes) (few_r : nodes r ≤ most_nodes) (letters : List Label) (are : AreLetters s r letters) where
  abbrev found : List Part
  found = parts_of s r

  abbrev n : Numbers
  n = numbers_by letters found

  abbrev live : ℕ
  live = length (names letters) + length found

  abbrev total : ℕ
  total = live + dead_count letters

  pub seated : Every IsSeated found
  seated =
      every_with IsSeated [] (parts (top_of s) s ++ parts (top_of r) r) tt
      (every_both IsSeated (parts (top_of s) s) (parts (top_of r) r) (all_seated (top_of s) s (λ k lo hi. refl))
      (all_seated (top_of r) r (λ k lo hi. refl)))

  pub known_left : AreKnown letters s
  known_left = session_known vars letters s ws.0 ws.1.kinded
      (λ a m. contains_known letters a ((are.1 a).1 (Contains-append_left (labels_in s) (labels_in r) a m)))

  pub known_right : AreKnown letters r
  known_right = session_known wr.0 letters r wr.1.0 wr.1.1.kinded
      (λ a m. contains_known letters a ((are.1 a).1 (Contains-append_right (labels_in s) (labels_in r) a m)))

  pub fit_left : IsFit letters found (top_of s) s
  fit_left = record {
    sees = λ k lo hi. refl;
    known = known_left;
    held = every_front (Holds found) (parts (top_of s) s) (parts (top_of r) r)
        (all_held [] (parts (top_of s) s ++ parts (top_of r) r));
    bound = tt;
    scoped = ws.1.scoped;
    contractive = ws.1.contractive;
    ordered = ws.1.ordered;
    small = omega arith;
    few = few_s;
  }

  pub fit_right : IsFit letters found (top_of r) r
  fit_right = record {
    sees = λ k lo hi. refl;
    known = known_right;
    held = every_behind (Holds found) (parts (top_of s) s) (parts (top_of r) r)
        (all_held [] (parts (top_of s) s ++ parts (top_of r) r));
    bound = tt;
    scoped = wr.1.1.scoped;
    contractive = wr.1.1.contractive;
    ordered = wr.1.1.ordered;
    small = omega arith;
    few = few_r;
  }

  -- what holds of each choice and `rec` of both types holds of each in the list
  pub every_found : (P : Place → Tree → Type 0) →
      ((p : Place) (cs : Branches) → IsFit letters found p (select cs) → P (own_place p (select cs)) (select cs)) →
      ((p : Place) (cs : Branches) → IsFit letters found p (offer cs) → P (own_place p (offer cs)) (offer cs)) →
      ((p : Place) (b : Tree) → terminated b ≡ false → IsFit letters found p (rec b) → P (own_place p (rec b)) (rec b)) →
      Every (λ e. P e.place e.type) found
  every_found P f g h =
      every_with (λ e. P e.place e.type) [] (parts (top_of s) s ++ parts (top_of r) r) tt
      (every_both (λ e. P e.place e.type) (parts (top_of s) s) (parts (top_of r) r)
      (every_part letters found P f g h (top_of s) s fit_left) (every_part letters found P f g h (top_of r) r fit_right))

  parts_fine : All (IsFine total (length letters)) (map (part_equation n letters) found)
  parts_fine =
      every_all (IsFine total (length letters)) (part_equation n letters) found
      (every_found (λ q t. IsFine total (length letters) (equation_at n letters q t))
      (λ p cs h. let f = fit_select letters found p cs h in
      record {
        words = branches_below letters found total (omega arith) Select (place_past (own_place p (select cs)) 1) cs f;
        below =
            rules_below n letters Select (place_past (own_place p (select cs)) 1) cs f.known;
        ordered =
            rules_rise n letters Select (place_past (own_place p (select cs)) 1) cs selects_rise are.0 f.known h.ordered.0;
      })
      (λ p cs h. let f = fit_offer letters found p cs h in
      record {
        words = branches_below letters found total (omega arith) Offer (place_past (own_place p (offer cs)) 1) cs f;
        below =
            rules_below n letters Offer (place_past (own_place p (offer cs)) 1) cs f.known;
        ordered =
            rules_rise n letters Offer (place_past (own_place p (offer cs)) 1) cs offers_rise are.0 f.known h.ordered.0;
      })
      (λ p b e h. word_below letters found total (omega arith) (body_place (own_place p (rec b))) b
      (fit_body letters found p b e h)))

  dead_fine : All (IsFine total (length letters)) (dead_equations letters)
  dead_fine = pick (has_end letters)
    where
      none : All (IsFine total (length letters)) []
      none i e lt = absurd (omega arith)

      pick : (c : Bool) → All (IsFine total (length letters)) (if c then own [] ∷ [] else [])
      pick true = All-cons (IsFine total (length letters)) (own []) [] (none_fine total (length letters)) none
      pick false = none

  -- the equations are in order, with words and letters of the grammar
  pub equations_fine : All (IsFine total (length letters)) (equations_by letters found)
  equations_fine =
      All-append (IsFine total (length letters)) (live_equations letters found) (dead_equations letters)
      (All-append (IsFine total (length letters)) (map (λ a. own (name_rules n letters a)) (names letters))
      (map (part_equation n letters) found)
      (names_fine total n letters letters (λ a m. (contains_known letters a m, name_word_below letters found a m))) parts_fine)
      dead_fine

  -- each equation but the dead non-terminal's that is by rules has a rule
  parts_ruled : All (HasRule live) (map (part_equation n letters) found)
  parts_ruled =
      every_all (HasRule live) (part_equation n letters) found
      (every_found (λ q t. HasRule live (equation_at n letters q t))
      (λ p cs h. branches_ruled n letters Select (place_past (own_place p (select cs)) 1) cs h.ordered.0)
      (λ p cs h. branches_ruled n letters Offer (place_past (own_place p (offer cs)) 1) cs h.ordered.0)
      (λ p b e h. word_below letters found live (omega arith) (body_place (own_place p (rec b))) b
      (fit_body letters found p b e h)))

  equations_ruled : All (HasRule live) (live_equations letters found)
  equations_ruled =
      All-append (HasRule live) (map (λ a. own (name_rules n letters a)) (names letters)) (map (part_equation n letters) found)
      (names_ruled live n letters (names letters)) parts_ruled

  abbrev Sinks : Place → Tree → Type 0
  Sinks q (rec b) = (z : ℕ) × (d : List ℕ) × (word n (body_place q) b ≡ z ∷ d) × (z < total) ×
      (rank letters found seated z < part_rank (record { place = q; type = rec b }))
  Sinks q t = ⊤

  body_sinks : (p : Place) (b : Tree) → terminated b ≡ false → IsFit letters found p (rec b) → Sinks (own_place p (rec b)) (rec b)
  body_sinks p b e h =
      let f = body_falls letters found seated p b e h in
      let below = subst (WordBelow total) f.2 (word_below letters found total (omega arith) (body_place (own_place p (rec b))) b
      (fit_body letters found p b e h)) in
      (f.0, f.1, f.2, All-head (λ k. k < total) f.0 f.1 below, f.3)

  all_sink : Every (λ e. Sinks e.place e.type) found
  all_sink = every_found Sinks (λ p cs h. tt) (λ p cs h. tt) body_sinks

  all_most : Every (λ e. part_rank e ≤ most_rank) found
  all_most =
      every_found (λ q t. part_rank (record { place = q; type = t }) ≤ most_rank)
      (λ p cs h. part_most letters found seated p (select cs) h) (λ p cs h. part_most letters found seated p (offer cs) h)
      (λ p b e h. part_most letters found seated p (rec b) h)

  -- the word of a `rec`'s equation
  sunk : (q : Place) (t : Tree) (w : List ℕ) → equation_at n letters q t ≡ like w → Sinks q t →
      (z : ℕ) × (d : List ℕ) × (w ≡ z ∷ d) × (z < total) ×
      (rank letters found seated z < part_rank (record { place = q; type = t }))
  sunk q (rec b) w e h =
      let same : word n (body_place q) b ≡ w = cc in
      (h.0, h.1, sym same ∙ h.2, h.3, h.4)
  sunk q skip w e h = absurd (cc e)
  sunk q (send b) w e h = absurd (cc e)
  sunk q (receive b) w e h = absurd (cc e)
  sunk q close w e h = absurd (cc e)
  sunk q wait w e h = absurd (cc e)
  sunk q (select cs) w e h = absurd (cc e)
  sunk q (offer cs) w e h = absurd (cc e)
  sunk q (seq a b) w e h = absurd (cc e)
  sunk q (back k) w e h = absurd (cc e)
  sunk q (var k) w e h = absurd (cc e)
  sunk q (plain b) w e h = absurd (cc e)
  sunk q (arrow u a b) w e h = absurd (cc e)
  sunk q (pair a b) w e h = absurd (cc e)
  sunk q (named k) w e h = absurd (cc e)

  -- an equation by a word is that of a part
  like_part : (m : ℕ) (w : List ℕ) → slice_get (equations_by letters found) m ≡ Some (like w) →
      (k : ℕ) × (e : Part) × (m ≡ length (names letters) + k) × (slice_get found k ≡ Some e) ×
      (part_equation n letters e ≡ like w)
  like_part m w g =
      ⊎_elim (λ h. absurd (cc h.2)) (⊎_elim (λ h. h) (λ h. absurd (cc h.1))) (equation_cases letters found m (like w) g)

  -- the equations are grounded
  pub equations_grounded : IsGrounded (rank letters found seated) most_rank (equations_by letters found)
  equations_grounded = record { begins = at; most = number_most letters found seated all_most }
    where
      at : (m : ℕ) (w : List ℕ) → slice_get (equations_by letters found) m ≡ Some (like w) →
          BeginsLower (rank letters found seated) (equations_by letters found) m w
      at m w g =
          let l = like_part m w g in
          let sinks = sunk l.1.place l.1.type w l.4 (every_get (λ e. Sinks e.place e.type) found all_sink l.0 l.1 l.3) in
          let is : rank letters found seated m ≡ part_rank l.1 = ap (rank letters found seated) l.2
          ∙ rank_entry (length (names letters)) found l.0 ∙ ap entry_rank l.3 in
          let long = equations_length letters found in
          record {
            first = sinks.0;
            rest = sinks.1;
            is = sinks.2;
            within = omega (arith, sinks.3);
            lower =
                omega (arith, sinks.4);
          }

  -- rows that solve the equations have a rule for each non-terminal but the dead one
  pub solved_ruled : (rows : Productions) → Solves rows (equations_by letters found) → EachHasRule live rows
  solved_ruled rows h =
      let long : length (live_equations letters found) ≡ live = live_length letters found in
      subst (λ k. EachHasRule k rows) long
      (each_ruled (live_equations letters found) (dead_equations letters) (rank letters found seated) most_rank equations_grounded
      (subst (λ k. All (HasRule k) (live_equations letters found)) (sym long) equations_ruled) rows h)

  -- rows that solve the equations are the grammar
  pub grammar_is : (rows : Productions) → Solves rows (equations_by letters found) → IsGrammar s r letters rows
  grammar_is rows h = record {
    labels = are;
    count = h.count ∙ equations_length letters found;
    dead = dead_row letters found rows seated h;
    left = has_rows letters found rows seated h (top_of s) s fit_left;
    right = has_rows letters found rows seated h (top_of r) r fit_right;
  }

-- the word of a type stands for it
pub stands : (vars : List Kind) (n : Numbers) (letters : List Label) (rows : Productions) (s : Tree) → IsSession vars s →
    AreKnown letters s → row_of rows n.dead ≡ [] → HasRows n letters rows (top_of s) s →
    StandsFor letters rows (word n (top_of s) s) s
stands vars n letters rows s w known dead h a =
    let f = rule_in n letters rows in
    let same = performs_same n f (no_rule_in n letters rows n.dead dead) s w.1.scoped w.1.contractive
    (has_rules n letters rows (top_of s) s known h) a in
    let steps : move f ≡ label_step letters rows = λ i u b. moves_by_label n letters rows u b i in (
      λ p. same.1 (subst (λ g. Performs g (word n (top_of s) s) a) (sym steps) p),
      λ p. subst (λ g. Performs g (word n (top_of s) s) a) steps (same.0 p),
    )
