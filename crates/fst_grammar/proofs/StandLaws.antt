-- Words stand for types.
use Rattle.std.proofs.Common.{◌≡◌, ◌∙◌, ◌<◌, ◌+◌, ◌↔◌, ℕ, zero, suc, List, [], ◌∷◌, ◌++◌, length, Bool, true, false, Option, Some, None, refl, sym, ap, subst, arith, append_assoc}
use Rattle.std.specs.Prelude.{option_map, if◌then◌else◌, ◌&&◌, not}
use Rattle.std.proofs.lemmas.Bool.{eq-eqb, or_parts, and_parts}
use Rattle.fst_types.specs.Tree.{Tree, skip, send, receive, close, wait, select, offer, seq, rec, back, var, plain, arrow, pair, named, Branches, none, branch}
use Rattle.fst_types.specs.Size.{nodes}
use Rattle.fst_types.specs.Order.{same_label}
use Rattle.fst_types.specs.Substitution.{variable, substitute, substitute_all}
use Rattle.fst_types.specs.Scoped.{IsScoped, AllScoped}
use Rattle.fst_types.specs.declared.label.Label.{Label}
use Rattle.fst_types.specs.declared.label.Label.TheVariants.{Send, Receive, Select, Offer, Close, Wait, Var}
use Rattle.fst_types.proofs.Laws.{same_label-same, substitute_nothing}
use Rattle.fst_kinds.specs.Contractive.{guards, reaches, IsContractive, AllContractive}
use Rattle.fst_lts.specs.Step.{terminated, branch_at, is_end, followed, step_in, step}
use Rattle.fst_base.specs.Agreement.{BothOrNeither, Performs, AgreeTo, Agree}
use Rattle.fst_lts.proofs.Laws.{unguarded, followed_on, followed_ended}
use Rattle.fst_base.proofs.TraceLaws.{agree_is_traces}
use Rattle.fst_parts.specs.Place.{Place, is_closed, top_of, place_past, own_place, own_place_if, body_place, binder}
use Rattle.fst_grammar.specs.Word.{Numbers, node_at, word}
use Rattle.fst_grammar.specs.Rules.{name_word}
use Rattle.fst_grammar.proofs.AbstractRules.{Rule, move, branch_word, IsName, IsChoice, IsRec, HasRules, HaveRules}
use Rattle.fst_grammar.proofs.ClosingLaws.{scoped_if_closed, AllClosed, Lays, top, over, composed, NoneEnds, under_none, kept_terminated, no_step}
use Rattle.fst_grammar.proofs.WordLaws.{append_nothing, Moving, ended_word, moving_front, moving_word}

module _ (n : Numbers) (rule : Rule) (still : (a : Label) → rule n.dead a ≡ None) where
  -- what stands behind a word stays
  move_front : (u v : List ℕ) (a : Label) → Moving u → move rule (u ++ v) a ≡ option_map (λ x. x ++ v) (move rule u a)
  move_front u v a (z, d, e) = ap (λ x. move rule (x ++ v) a) e ∙ behind (rule z a)
      ∙ sym (ap (λ x. option_map (λ y. y ++ v) (move rule x a)) e)
    where
      behind : (o : Option (List ℕ)) → option_map (λ x. x ++ (d ++ v)) o ≡ option_map (λ y. y ++ v) (option_map (λ x. x ++ d) o)
      behind None = refl
      behind (Some x) = ap Some (sym (append_assoc x d v))

  move_one : (z : ℕ) (a : Label) → move rule (z ∷ []) a ≡ rule z a
  move_one z a = alone (rule z a)
    where
      alone : (o : Option (List ℕ)) → option_map (λ x. x ++ []) o ≡ o
      alone None = refl
      alone (Some x) = ap Some (append_nothing x)

  -- the binders around a part, with what they stand for
  data Chain : Tree → List ℕ → List (Option Tree) → Type 0 where
    open_air : {whole : Tree} → Chain whole [] []
    within : {whole : Tree} {bs : List ℕ} {env : List (Option Tree)} → Chain whole bs env →
        (at : ℕ) (s : Tree) → IsScoped (length env) (rec s) → IsContractive (rec s) → terminated s ≡ false →
        IsRec n rule (record { whole = whole; at = at; binders = bs }) s →
        HasRules n rule (body_place (record { whole = whole; at = at; binders = bs })) s →
        Chain whole (at ∷ bs) (Some (substitute env (rec s)) ∷ env)

  -- the word stands for the substituted type
  data Stands : Tree → List ℕ → Type 0 where
    part : {whole : Tree} {bs : List ℕ} {env : List (Option Tree)} → Chain whole bs env →
        (at : ℕ) (t : Tree) → IsScoped (length env) t → IsContractive t →
        HasRules n rule (record { whole = whole; at = at; binders = bs }) t →
        Stands (substitute env t) (word n (record { whole = whole; at = at; binders = bs }) t)
    joined : {s r : Tree} {u v : List ℕ} → Stands s u → Stands r v → Stands (seq s r) (u ++ v)

  -- after a label that ends nothing the word stands for the type; after an end there is nothing, and in front of the word is
  -- the dead non-terminal
  data After (a : Label) : Tree → List ℕ → Type 0 where
    goes : {s : Tree} {w : List ℕ} → is_end a ≡ false → Stands s w → After a s w
    stops : (w : List ℕ) → is_end a ≡ true → After a skip (n.dead ∷ w)

  chain_closed : {whole : Tree} {bs : List ℕ} {env : List (Option Tree)} → Chain whole bs env → AllClosed env
  chain_closed open_air = tt
  chain_closed (within {env} c at s h k e i r) =
      (λ E. composed {outer = env} {names = []} (top E) (chain_closed c) (rec s) h, chain_closed c)

  chain_moves : {whole : Tree} {bs : List ℕ} {env : List (Option Tree)} → Chain whole bs env → NoneEnds env
  chain_moves open_air k j = refl
  chain_moves (within {env} c at s h k e i r) zero j = kept_terminated (None ∷ env) (under_none env (chain_moves c)) s ∙ e
  chain_moves (within {env} c at s h k e i r) (suc m) j = chain_moves c m j

  laid_moves : {outer : List (Option Tree)} {names : List ℕ} {m : ℕ} {E D G : List (Option Tree)} {bs : List ℕ} →
      Lays outer names m E D G bs → NoneEnds outer → NoneEnds D
  laid_moves (top E) h = h
  laid_moves (over {D} o b l) h = under_none D (laid_moves l h)

  nothing_ahead : Stands skip []
  nothing_ahead = part {whole = skip} open_air 0 skip tt tt tt

  -- one step

  after_first : (a : Label) {s : Tree} {u : List ℕ} (r : Tree) (v : List ℕ) → After a s u → Stands r v →
      After a (followed a r s) (u ++ v)
  after_first a {s} {u} r v (goes e h) k = subst (λ t. After a t (u ++ v)) (sym (followed_on a r s e)) (goes e (joined h k))
  after_first a r v (stops w e) k =
      subst (λ t. After a t (n.dead ∷ (w ++ v))) (sym (followed_ended a r skip e)) (stops (w ++ v) e)

  both_seq : (a : Label) (o : Option Tree) (p : Option (List ℕ)) (r : Tree) (v : List ℕ) → BothOrNeither (After a) o p →
      Stands r v → BothOrNeither (After a) (option_map (followed a r) o) (option_map (λ x. x ++ v) p)
  both_seq a None None r v b h = tt
  both_seq a None (Some y) r v b h = absurd b
  both_seq a (Some x) None r v b h = absurd b
  both_seq a (Some x) (Some y) r v b h = after_first a r v b h

  -- after its label a name leaves nothing
  after_name : (l : Label) (c : Bool) → is_end l ≡ c → After l skip (if c then n.dead ∷ [] else [])
  after_name l true e = stops [] e
  after_name l false e = goes e nothing_ahead

  both_ended : (l a : Label) (c : Bool) → same_label a l ≡ c →
      BothOrNeither (After a) (if c then Some skip else None) (if c then Some (name_word n l) else None)
  both_ended l a true is = subst (λ b. After b skip (name_word n l)) (sym (same_label-same a l is)) (after_name l (is_end l) refl)
  both_ended l a false is = tt

  both_name : (l a : Label) → IsName n rule l →
      BothOrNeither (After a) (if same_label a l then Some skip else None) (move rule (n.name l ∷ []) a)
  both_name l a h =
      subst (λ o. BothOrNeither (After a) (if same_label a l then Some skip else None) o) (sym (move_one (n.name l) a ∙ h a))
      (both_ended l a (same_label a l) refl)

  -- a type with nothing free stays under closing
  closed_free : (F : List (Option Tree)) (s : Tree) → IsScoped 0 s → substitute F s ≡ s
  closed_free F s h =
      sym (ap (λ t. substitute F t) (substitute_nothing s)) ∙ composed {outer = []} {names = []} (top F) tt s h
      ∙ substitute_nothing s

  both_branch : (make : List ℕ → Label) → ((l : List ℕ) → is_end (make l) ≡ false) →
      {whole : Tree} {bs : List ℕ} {env : List (Option Tree)} (E D : List (Option Tree)) →
      Chain whole bs env → ((s : Tree) → IsScoped (length env) s → substitute E (substitute D s) ≡ substitute env s) →
      (at : ℕ) (cs : Branches) → AllScoped (length env) cs → AllContractive cs →
      HaveRules n rule (record { whole = whole; at = at; binders = bs }) cs →
      (a : Label) → BothOrNeither (After a) (option_map (substitute E) (branch_at make (substitute_all D cs) a))
      (branch_word n make (record { whole = whole; at = at; binders = bs }) cs a)
  both_branch make on E D c comp at none h k r a = tt
  both_branch make on {whole} {bs} {env} E D c comp at (branch l s cs) h k r a =
      pick (both_branch make on E D c comp (at + (1 + nodes s)) cs h.1 k.1 r.1 a) (same_label a (make l)) refl
    where
      pick : BothOrNeither (After a) (option_map (substitute E) (branch_at make (substitute_all D cs) a))
          (branch_word n make (record { whole = whole; at = at + (1 + nodes s); binders = bs }) cs a) →
          (t : Bool) → same_label a (make l) ≡ t → BothOrNeither (After a) (option_map (substitute E)
          (if t then Some (substitute D s) else branch_at make (substitute_all D cs) a))
          (if t then Some (word n (record { whole = whole; at = at + 1; binders = bs }) s) else branch_word n make
          (record { whole = whole; at = at + (1 + nodes s); binders = bs }) cs a)
      pick next true is =
          goes (ap is_end (same_label-same a (make l) is) ∙ on l)
          (subst (λ t. Stands t (word n (record { whole = whole; at = at + 1; binders = bs }) s)) (sym (comp s h.0))
          (part c (at + 1) s h.0 k.0 r.0))
      pick next false is = next

  -- a choice at its own place
  choice_case : (make : List ℕ → Label) → ((l : List ℕ) → is_end (make l) ≡ false) →
      (t : Tree) {whole : Tree} {bs : List ℕ} {env : List (Option Tree)}
      (E D : List (Option Tree)) → Chain whole bs env →
      ((s : Tree) → IsScoped (length env) s → substitute E (substitute D s) ≡ substitute env s) →
      (at : ℕ) (cs : Branches) → AllScoped (length env) cs →
      (is_closed t ≡ true → AllScoped 0 cs) → AllContractive cs →
      IsChoice n rule make (own_place (record { whole = whole; at = at; binders = bs }) t) cs →
      HaveRules n rule (place_past (own_place (record { whole = whole; at = at; binders = bs }) t) 1) cs →
      (a : Label) → BothOrNeither (After a) (option_map (substitute E) (branch_at make (substitute_all D cs) a))
      (move rule (node_at n (own_place (record { whole = whole; at = at; binders = bs }) t) ∷ []) a)
  choice_case make on t {whole} {bs} {env} E D c comp at cs h free k i r a =
      subst (λ o. BothOrNeither (After a) (option_map (substitute E) (branch_at make (substitute_all D cs) a)) o)
      (sym (move_one (node_at n (own_place (record { whole = whole; at = at; binders = bs }) t)) a ∙ i a))
      (pick (is_closed t) refl r)
    where
      pick : (b : Bool) → is_closed t ≡ b → HaveRules n rule
          (place_past (own_place_if b (record { whole = whole; at = at; binders = bs }) t) 1) cs →
          BothOrNeither (After a) (option_map (substitute E) (branch_at make (substitute_all D cs) a))
          (branch_word n make (place_past (own_place_if b (record { whole = whole; at = at; binders = bs }) t) 1) cs a)
      pick true is r =
          both_branch make on {whole = t} E D open_air (λ s f. ap (λ x. substitute E x) (closed_free D s f) ∙ closed_free E s f
          ∙ sym (closed_free [] s f)) (0 + 1) cs (free is) k r a
      pick false is r = both_branch make on E D c comp (at + 1) cs h k r a

  seq_case : (E : List (Option Tree)) (s r : Tree) (u v : List ℕ) (a : Label) →
      BothOrNeither (After a) (step_in E s a) (move rule u a) →
      (terminated s ≡ true → (u ≡ []) × BothOrNeither (After a) (step_in E r a) (move rule v a)) →
      (terminated s ≡ false → Moving u) → Stands (substitute E r) v →
      BothOrNeither (After a) (step_in E (seq s r) a) (move rule (u ++ v) a)
  seq_case E s r u v a front behind moving rest = pick (terminated s) refl
    where
      pick : (c : Bool) → terminated s ≡ c → BothOrNeither (After a)
          (if c then step_in E r a else option_map (followed a (substitute E r)) (step_in E s a)) (move rule (u ++ v) a)
      pick true is =
          let h = behind is in
          subst (λ w. BothOrNeither (After a) (step_in E r a) (move rule (w ++ v) a)) (sym h.0) h.1
      pick false is =
          subst (λ o. BothOrNeither (After a) (option_map (followed a (substitute E r)) (step_in E s a)) o)
          (sym (move_front u v a (moving is)))
          (both_seq a (step_in E s a) (move rule u a) (substitute E r) v front rest)

  -- the step of the body is that of the whole
  body_step : (E D : List (Option Tree)) (W s : Tree) (w : List ℕ) (a : Label) → substitute E (substitute D (rec s)) ≡ W →
      BothOrNeither (After a) (step_in (Some W ∷ E) (substitute (None ∷ D) s) a) (move rule w a) →
      BothOrNeither (After a) (step_in E (substitute D (rec s)) a) (move rule w a)
  body_step E D W s w a e h =
      subst (λ x. BothOrNeither (After a) (step_in (Some x ∷ E) (substitute (None ∷ D) s) a) (move rule w a)) (sym e) h

  rec_case : (p : Place) (E D G : List (Option Tree)) (s : Tree) (a : Label) → NoneEnds D →
      substitute E (substitute D (rec s)) ≡ substitute G (rec s) → HasRules n rule p (rec s) →
      (terminated s ≡ false → IsRec n rule p s → HasRules n rule (body_place p) s →
      BothOrNeither (After a) (step_in (Some (substitute G (rec s)) ∷ E) (substitute (None ∷ D) s) a)
      (move rule (word n (body_place p) s) a)) → (terminated s ≡ false → IsScoped 0 (rec s) → IsRec n rule (top_of (rec s)) s →
      HasRules n rule (body_place (top_of (rec s))) s →
      BothOrNeither (After a) (step_in (Some (substitute [] (rec s)) ∷ E) (substitute (None ∷ []) s) a)
      (move rule (word n (body_place (top_of (rec s))) s) a)) →
      BothOrNeither (After a) (step_in E (substitute D (rec s)) a) (move rule (word n p (rec s)) a)
  rec_case p E D G s a ends comp rules open_body closed_body = pick (terminated s) refl
    where
      place : terminated s ≡ false → (c : Bool) → is_closed (rec s) ≡ c → IsRec n rule (own_place_if c p (rec s)) s ×
          HasRules n rule (body_place (own_place_if c p (rec s))) s →
          BothOrNeither (After a) (step_in E (substitute D (rec s)) a)
          (move rule (word n (body_place (own_place_if c p (rec s))) s) a)
      place moves true is r =
          let h = scoped_if_closed (rec s) is in
          subst (λ x. BothOrNeither (After a) (step_in E x a) (move rule (word n (body_place (top_of (rec s))) s) a))
          (closed_free [] (rec s) h ∙ sym (closed_free D (rec s) h))
          (body_step E [] (substitute [] (rec s)) s (word n (body_place (top_of (rec s))) s) a
          (composed {outer = []} {names = []} (top E) tt (rec s) h) (closed_body moves h r.0 r.1))
      place moves false is r =
          body_step E D (substitute G (rec s)) s (word n (body_place p) s) a comp (open_body moves r.0 r.1)

      pick : (c : Bool) → terminated s ≡ c → BothOrNeither (After a) (step_in E (substitute D (rec s)) a)
          (move rule (if c then [] else node_at n (own_place p (rec s)) ∷ []) a)
      pick true is =
          subst (λ o. BothOrNeither (After a) o None) (sym
          (no_step E (substitute D (rec s)) a (kept_terminated D ends (rec s) ∙ is))) tt
      pick false is =
          let r = rules is in
          subst (λ o. BothOrNeither (After a) (step_in E (substitute D (rec s)) a) o)
          (sym (move_one (node_at n (own_place p (rec s))) a ∙ r.0 a))
          (place is (is_closed (rec s)) refl r)

  -- what the binders stand for moves as their non-terminals
  abbrev Heads : Tree → List ℕ → List (Option Tree) → Type 0
  Heads whole names outer = (k j : ℕ) → k < length outer →
      (F : List (Option Tree)) (a : Label) → BothOrNeither (After a) (step_in F (variable outer k (back j)) a)
      (move rule (n.node whole (binder names k) ∷ []) a)

  head_at : (whole : Tree) {outer : List (Option Tree)} {names : List ℕ} {m : ℕ} {E D G : List (Option Tree)} {bs : List ℕ} →
      Lays outer names m E D G bs → Heads whole names outer → (F : List (Option Tree)) (k j : ℕ) → k < length G → (k < m → ⊥) →
      (a : Label) → BothOrNeither (After a) (step_in F (variable D k (back j)) a) (move rule (n.node whole (binder bs k) ∷ []) a)
  head_at whole (top E) heads F k j lt out a = heads k j lt F a
  head_at whole (over o b l) heads F zero j lt out a = absurd (out (omega arith))
  head_at whole (over o b l) heads F (suc k) j lt out a = head_at whole l heads F k j (omega arith) (λ h. out (omega arith)) a

  second_unreached : (m : ℕ) (s r : Tree) → terminated s ≡ true → ((k : ℕ) → k < m → reaches (seq s r) k ≡ false) →
      (k : ℕ) → k < m → reaches r k ≡ false
  second_unreached m s r e h k lt =
      let both = or_parts (reaches s k) (not (guards s) && reaches r k) (h k lt) in
      subst (λ g. not g && reaches r k ≡ false) (unguarded s e) both.1

  body_unreached : (m : ℕ) (s : Tree) → reaches s 0 ≡ false → ((k : ℕ) → k < m → reaches (rec s) k ≡ false) →
      (k : ℕ) → k < suc m → reaches s k ≡ false
  body_unreached m s z h zero lt = z
  body_unreached m s z h (suc k) lt = h k (omega arith)

  inner : (t : Tree) {whole : Tree} {outer : List (Option Tree)} {names : List ℕ} {m : ℕ} {E D G : List (Option Tree)}
      {bs : List ℕ} → Lays outer names m E D G bs → Chain whole names outer → Heads whole names outer → Chain whole bs G →
      (at : ℕ) → IsScoped (length G) t → IsContractive t → HasRules n rule (record { whole = whole; at = at; binders = bs }) t →
      ((k : ℕ) → k < m → reaches t k ≡ false) → (a : Label) →
      BothOrNeither (After a) (step_in E (substitute D t) a)
      (move rule (word n (record { whole = whole; at = at; binders = bs }) t) a)
  inner skip l c0 heads c at h k r g a = tt
  inner (send b) l c0 heads c at h k r g a = both_name (Send b) a r
  inner (receive b) l c0 heads c at h k r g a = both_name (Receive b) a r
  inner close l c0 heads c at h k r g a = both_name Close a r
  inner wait l c0 heads c at h k r g a = both_name Wait a r
  inner (select cs) {E} {D} l c0 heads c at h k r g a =
      choice_case Select (λ m. refl) (select cs) E D c (λ s f. composed l (chain_closed c0) s f) at cs h
      (λ is. scoped_if_closed (select cs) is) k r.0 r.1 a
  inner (offer cs) {E} {D} l c0 heads c at h k r g a =
      choice_case Offer (λ m. refl) (offer cs) E D c (λ s f. composed l (chain_closed c0) s f) at cs h
      (λ is. scoped_if_closed (offer cs) is) k r.0 r.1 a
  inner (seq s r) {whole} {m} {E} {D} {bs} l c0 heads c at h k rs g a =
      let ends : NoneEnds D = laid_moves l (chain_moves c0) in
      let front : Place = record { whole = whole; at = at + 1; binders = bs } in
      let behind : Place = record { whole = whole; at = at + (1 + nodes s); binders = bs } in
      seq_case E (substitute D s) (substitute D r) (word n front s) (word n behind r) a
      (inner s l c0 heads c (at + 1) h.0 k.0 rs.0 (λ j lt. (or_parts (reaches s j) (not (guards s) && reaches r j) (g j lt)).0) a)
      (λ e. (
        ended_word n front s (sym (kept_terminated D ends s) ∙ e),
        inner r l c0 heads c (at + (1 + nodes s)) h.1 k.1 rs.1
            (second_unreached m s r (sym (kept_terminated D ends s) ∙ e) g) a,
      ))
      (λ e. moving_word n rule front s rs.0 (sym (kept_terminated D ends s) ∙ e))
      (subst (λ t. Stands t (word n behind r)) (sym (composed l (chain_closed c0) r h.1))
      (part c (at + (1 + nodes s)) r h.1 k.1 rs.1))
  inner (rec s) {whole} {m} {E} {D} {G} {bs} l c0 heads c at h k r g a =
      rec_case (record { whole = whole; at = at; binders = bs }) E D G s a (laid_moves l (chain_moves c0))
      (composed l (chain_closed c0) (rec s) h) r
      (λ moves i rs. inner s (over (Some (substitute G (rec s))) at l) c0 heads (within c at s h k moves i rs) (at + 1) h k.0 rs
      (body_unreached m s k.1 g) a)
      (λ moves f i rs. inner s {whole = rec s} (over (Some (substitute [] (rec s))) 0 (top E)) open_air
      (λ j i lt. absurd (omega arith)) (within open_air 0 s f k moves i rs) 1 f k.0 rs
      (body_unreached 0 s k.1 (λ j lt. absurd (omega arith))) a)
  inner (back j) {whole} {E} {D} l c0 heads c at h k r g a =
      head_at whole l heads E j j h (λ lt. absurd (cc (sym (g j lt) ∙ eq-eqb j j refl))) a
  inner (var j) l c0 heads c at h k r g a = both_name (Var j) a r
  inner (plain b) l c0 heads c at h k r g a = absurd r
  inner (arrow u s q) l c0 heads c at h k r g a = absurd r
  inner (pair s q) l c0 heads c at h k r g a = absurd r
  inner (named j) l c0 heads c at h k r g a = absurd r

  heads_of : {whole : Tree} {bs : List ℕ} {env : List (Option Tree)} → Chain whole bs env → Heads whole bs env
  heads_of open_air k j lt F a = absurd (omega arith)
  heads_of (within {whole} {bs} {env} c at s h k e i r) zero j lt F a =
      let p : Place = record { whole = whole; at = at; binders = bs } in
      subst (λ o. BothOrNeither (After a) (step_in F (substitute env (rec s)) a) o) (sym (move_one (n.node whole at) a ∙ i a))
      (body_step F env (substitute env (rec s)) s (word n (body_place p) s) a
      (composed {names = bs} (top F) (chain_closed c) (rec s) h)
      (inner s (over (Some (substitute env (rec s))) at (top F)) c (heads_of c) (within c at s h k e i r) (at + 1) h k.0 r
      (body_unreached 0 s k.1 (λ j lt. absurd (omega arith))) a))
  heads_of (within c at s h k e i r) (suc m) j lt F a = heads_of c m j (omega arith) F a

  ended : {s : Tree} {w : List ℕ} → Stands s w → terminated s ≡ true → w ≡ []
  ended (part {whole} {bs} {env} c at t h k r) e =
      ended_word n (record { whole = whole; at = at; binders = bs }) t (sym (kept_terminated env (chain_moves c) t) ∙ e)
  ended (joined {s} {r} x y) e =
      let b = and_parts (terminated s) (terminated r) e in
      λ i. ended x b.0 i ++ ended y b.1 i

  joined_moving : (c d : Bool) (u v : List ℕ) → c && d ≡ false → (c ≡ true → u ≡ []) → (c ≡ false → Moving u) →
      (d ≡ false → Moving v) → Moving (u ++ v)
  joined_moving true d u v e nil front behind = subst (λ w. Moving (w ++ v)) (sym (nil refl)) (behind e)
  joined_moving false d u v e nil front behind = moving_front u v (front refl)

  moving : {s : Tree} {w : List ℕ} → Stands s w → terminated s ≡ false → Moving w
  moving (part {whole} {bs} {env} c at t h k r) e =
      moving_word n rule (record { whole = whole; at = at; binders = bs }) t r (sym (kept_terminated env (chain_moves c) t) ∙ e)
  moving (joined {s} {r} {u} {v} x y) e = joined_moving (terminated s) (terminated r) u v e (ended x) (moving x) (moving y)

  -- a word that stands for a type moves as the type does
  simulate : {s : Tree} {w : List ℕ} → Stands s w → (a : Label) → BothOrNeither (After a) (step s a) (move rule w a)
  simulate (part c at t h k r) a = inner t (top []) c (heads_of c) c at h k r (λ j lt. absurd (omega arith)) a
  simulate (joined {s} {r} {u} {v} x y) a =
      seq_case [] s r u v a (simulate x a) (λ e. (ended x e, simulate y a)) (moving x)
      (subst (λ t. Stands t v) (sym (substitute_nothing r)) y)

  -- a word with the dead non-terminal in front performs nothing
  agree_dead : (m : ℕ) (w : List ℕ) → AgreeTo step (move rule) m skip (n.dead ∷ w)
  agree_dead zero w = tt
  agree_dead (suc m) w = λ a. subst (λ o. BothOrNeither (AgreeTo step (move rule) m) None (option_map (λ v. v ++ w) o))
      (sym (still a)) tt

  agree_left : (m : ℕ) {a : Label} {s : Tree} {w : List ℕ} → (Stands s w → AgreeTo step (move rule) m s w) → After a s w →
      AgreeTo step (move rule) m s w
  agree_left m h (goes e k) = h k
  agree_left m h (stops w e) = agree_dead m w

  agree_after : (m : ℕ) (a : Label) → ((s : Tree) (w : List ℕ) → Stands s w → AgreeTo step (move rule) m s w) →
      (o : Option Tree) (p : Option (List ℕ)) → BothOrNeither (After a) o p → BothOrNeither (AgreeTo step (move rule) m) o p
  agree_after m a h None None b = tt
  agree_after m a h None (Some y) b = b
  agree_after m a h (Some x) None b = b
  agree_after m a h (Some x) (Some y) b = agree_left m (h x y) b

  stands_agree : (m : ℕ) (s : Tree) (w : List ℕ) → Stands s w → AgreeTo step (move rule) m s w
  stands_agree zero s w h = tt
  stands_agree (suc m) s w h = λ a. agree_after m a (stands_agree m) (step s a) (move rule w a) (simulate h a)

  -- the word of a substituted and contractive type stands for it
  pub stands_for : (s : Tree) → IsScoped 0 s → IsContractive s → HasRules n rule (top_of s) s →
      Agree step (move rule) s (word n (top_of s) s)
  stands_for s h k r m =
      stands_agree m s (word n (top_of s) s) (subst
      (λ t. Stands t (word n (top_of s) s)) (substitute_nothing s) (part {whole = s} open_air 0 s h k r))

  pub performs_same : (s : Tree) → IsScoped 0 s → IsContractive s → HasRules n rule (top_of s) s →
      (w : List Label) → Performs step s w ↔ Performs (move rule) (word n (top_of s) s) w
  performs_same s h k r w = (agree_is_traces step (move rule) (length w) s (word n (top_of s) s)).0
      (stands_for s h k r (length w)) w (omega arith)
