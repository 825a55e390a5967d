-- The steps of a type are its moves by the rules, and by each label it moves to at most one type.
use Rattle.std.proofs.Common.{◌≡◌, ◌∙◌, ◌⊎◌, inl, inr, ℕ, suc, List, [], ◌∷◌, length, Bool, true, false, Option, Some, None, refl, sym, ap, subst, arith}
use Rattle.std.specs.Prelude.{option_map, if◌then◌else◌, ◌&&◌}
use Rattle.std.proofs.lemmas.Bool.{and_parts, false_from_ne_true}
use Rattle.fst_types.specs.Tree.{Tree, skip, send, receive, close, wait, select, offer, seq, rec, back, var, plain, arrow, pair, named, Branches, none, branch}
use Rattle.fst_types.specs.Order.{same_label}
use Rattle.fst_types.specs.Substitution.{substitute, substitute_all, unfolding_of, AllClosed}
use Rattle.fst_types.specs.Scoped.{IsScoped}
use Rattle.fst_types.specs.declared.label.Label.{Label}
use Rattle.fst_types.specs.declared.label.Label.TheVariants.{Send, Receive, Select, Offer, Close, Wait, Var}
use Rattle.fst_types.proofs.Laws.{same_label-same, same_label-itself, substitute_nothing, substitute_scoped, substitute_after, unfolding_of_scoped}
use Rattle.fst_kinds.specs.Contractive.{IsContractive, IsGuarded}
use Rattle.fst_lts.specs.Step.{terminated, branch_at, step_in, step, is_end, followed}
use Rattle.fst_lts.proofs.GuardLaws.{guarded_first, guarded_second, guarded_body, no_variable}
use Rattle.fst_kinds.proofs.Laws.{unreached}
use Rattle.fst_lts.specs.Moves.{Moves, sends, receives, closes, waits, selects, offers, first, ends, second, unfolds, variables}
use Rattle.fst_base.proofs.Options.{mapped_some}

-- a terminated type holds no variable before its end
substitute-terminated : (env : List (Option Tree)) (s : Tree) → terminated s ≡ true → terminated (substitute env s) ≡ true
substitute-terminated env skip e = refl
substitute-terminated env (send b) e = absurd (cc e)
substitute-terminated env (receive b) e = absurd (cc e)
substitute-terminated env close e = absurd (cc e)
substitute-terminated env wait e = absurd (cc e)
substitute-terminated env (select bs) e = absurd (cc e)
substitute-terminated env (offer bs) e = absurd (cc e)
substitute-terminated env (seq s r) e =
    let h = and_parts (terminated s) (terminated r) e in
    λ i. substitute-terminated env s h.0 i && substitute-terminated env r h.1 i
substitute-terminated env (rec s) e = substitute-terminated (None ∷ env) s e
substitute-terminated env (back k) e = absurd (cc e)
substitute-terminated env (var k) e = absurd (cc e)
substitute-terminated env (plain b) e = absurd (cc e)
substitute-terminated env (arrow u s r) e = absurd (cc e)
substitute-terminated env (pair s r) e = absurd (cc e)
substitute-terminated env (named k) e = absurd (cc e)

-- what moves is not terminated
moving : {s t : Tree} {a : Label} → Moves s a t → terminated s ≡ true → ⊥
moving sends e = absurd (cc e)
moving receives e = absurd (cc e)
moving closes e = absurd (cc e)
moving waits e = absurd (cc e)
moving (selects h) e = absurd (cc e)
moving (offers h) e = absurd (cc e)
moving (first {s} {r} h m n) e = moving m (and_parts (terminated s) (terminated r) e).0
moving (ends {s} {r} h m n) e = moving m (and_parts (terminated s) (terminated r) e).0
moving (second {s} {r} h m) e = moving m (and_parts (terminated s) (terminated r) e).1
moving (unfolds {s} m) e = moving m (substitute-terminated (Some (rec s) ∷ []) s e)
moving variables e = absurd (cc e)

branch_substituted : (make : List ℕ → Label) (env : List (Option Tree)) (bs : Branches) (a : Label) →
    branch_at make (substitute_all env bs) a ≡ option_map (substitute env) (branch_at make bs a)
branch_substituted make env none a = refl
branch_substituted make env (branch l s bs) a = pick (branch_substituted make env bs a) (same_label a (make l))
  where
    pick : branch_at make (substitute_all env bs) a ≡ option_map (substitute env) (branch_at make bs a) → (c : Bool) →
        (if c then Some (substitute env s) else branch_at make (substitute_all env bs) a) ≡ option_map (substitute env)
        (if c then Some s else branch_at make bs a)
    pick next true = refl
    pick next false = next

branch_label : (make : List ℕ → Label) (bs : Branches) (a : Label) (s : Tree) → branch_at make bs a ≡ Some s → (l : List ℕ) ×
    (a ≡ make l)
branch_label make none a s e = absurd (cc e)
branch_label make (branch l t bs) a s e = pick (branch_label make bs a s) (same_label a (make l)) refl e
  where
    pick : (branch_at make bs a ≡ Some s → (m : List ℕ) × (a ≡ make m)) → (c : Bool) → same_label a (make l) ≡ c →
        (if c then Some t else branch_at make bs a) ≡ Some s → (m : List ℕ) × (a ≡ make m)
    pick next true h e = (l, same_label-same a (make l) h)
    pick next false h e = next e

one_move : (x : Tree) (a b : Label) (t : Tree) → Moves x b skip →
    (if same_label a b then Some skip else None) ≡ Some t → Moves x a t
one_move x a b t m e = pick (same_label a b) refl e
  where
    pick : (c : Bool) → same_label a b ≡ c → (if c then Some skip else None) ≡ Some t → Moves x a t
    pick true h e =
        let is : skip ≡ t = cc in
        subst (λ y. Moves x a y) is (subst (λ l. Moves x l skip) (sym (same_label-same a b h)) m)
    pick false h e = absurd (cc e)

select_moves : (bs : Branches) (a : Label) (t : Tree) → branch_at Select bs a ≡ Some t → Moves (select bs) a t
select_moves bs a t e =
    let l = branch_label Select bs a t e in
    subst (λ b. Moves (select bs) b t) (sym l.1) (selects (subst (λ b. branch_at Select bs b ≡ Some t) l.1 e))

offer_moves : (bs : Branches) (a : Label) (t : Tree) → branch_at Offer bs a ≡ Some t → Moves (offer bs) a t
offer_moves bs a t e =
    let l = branch_label Offer bs a t e in
    subst (λ b. Moves (offer bs) b t) (sym l.1) (offers (subst (λ b. branch_at Offer bs b ≡ Some t) l.1 e))

-- a sequence moves as its first part, where a move of that is left, with the second part behind it, or to Skip
followed_moves : (s r t : Tree) (a : Label) → terminated s ≡ false → Moves s a t → Moves (seq s r) a (followed a r t)
followed_moves s r t a h m = pick (is_end a) refl
  where
    pick : (c : Bool) → is_end a ≡ c → Moves (seq s r) a (if c then skip else seq t r)
    pick true e = ends h m e
    pick false e = first h m e

-- behind a label by which no protocol ends, the second part is left
pub followed_on : (a : Label) (r t : Tree) → is_end a ≡ false → followed a r t ≡ seq t r
followed_on a r t e = ap (λ c. if c then skip else seq t r) e

-- behind an end nothing is
pub followed_ended : (a : Label) (r t : Tree) → is_end a ≡ true → followed a r t ≡ skip
followed_ended a r t e = ap (λ c. if c then skip else seq t r) e

-- what a `rec` stands for has no free variables
whole_closed : (env : List (Option Tree)) → AllClosed env →
    (s : Tree) → IsScoped (suc (length env)) s → AllClosed (Some (substitute env (rec s)) ∷ env)
whole_closed env ok s h = (substitute_scoped env (rec s) ok h, ok)

-- a step is a move
steps_move : (env : List (Option Tree)) → AllClosed env → (s : Tree) → IsScoped (length env) s →
    (a : Label) (t : Tree) → step_in env s a ≡ Some t → Moves (substitute env s) a t
steps_move env ok skip h a t e = absurd (cc e)
steps_move env ok (send b) h a t e = one_move (send b) a (Send b) t sends e
steps_move env ok (receive b) h a t e = one_move (receive b) a (Receive b) t receives e
steps_move env ok close h a t e = one_move close a Close t closes e
steps_move env ok wait h a t e = one_move wait a Wait t waits e
steps_move env ok (select bs) h a t e = select_moves (substitute_all env bs) a t (branch_substituted Select env bs a ∙ e)
steps_move env ok (offer bs) h a t e = offer_moves (substitute_all env bs) a t (branch_substituted Offer env bs a ∙ e)
steps_move env ok (seq s r) h a t e =
    pick (steps_move env ok s h.0 a) (steps_move env ok r h.1 a t) (terminated s) refl e
  where
    pick : ((u : Tree) → step_in env s a ≡ Some u → Moves (substitute env s) a u) →
        (step_in env r a ≡ Some t → Moves (substitute env r) a t) →
        (c : Bool) → terminated s ≡ c → (if c then step_in env r a else option_map
        (followed a (substitute env r)) (step_in env s a)) ≡ Some t →
        Moves (seq (substitute env s) (substitute env r)) a t
    pick front behind true is e = second (substitute-terminated env s is) (behind e)
    pick front behind false is e =
        let found = mapped_some (followed a (substitute env r)) (step_in env s a) t e in
        let m = front found.0 found.1 in
        subst (λ y. Moves (seq (substitute env s) (substitute env r)) a y) found.2
        (followed_moves (substitute env s) (substitute env r) found.0 a (false_from_ne_true _ (moving m)) m)
steps_move env ok (rec s) h a t e =
    let whole = substitute env (rec s) in
    unfolds (subst (λ y. Moves y a t) (sym (substitute_after whole env ok s))
    (steps_move (Some whole ∷ env) (whole_closed env ok s h) s h a t e))
steps_move env ok (back k) h a t e = absurd (cc e)
steps_move env ok (var k) h a t e = one_move (var k) a (Var k) t variables e
steps_move env ok (plain b) h a t e = absurd (cc e)
steps_move env ok (arrow u s r) h a t e = absurd (cc e)
steps_move env ok (pair s r) h a t e = absurd (cc e)
steps_move env ok (named k) h a t e = absurd (cc e)

skip_left : (c : Bool) (t : Tree) → (if c then Some skip else None) ≡ Some t → t ≡ skip
skip_left true t e = cc
skip_left false t e = absurd (cc e)

-- a choice ends by no label
no_end : (make : List ℕ → Label) → ((l : List ℕ) → is_end (make l) ≡ false) → (env : List (Option Tree)) (bs : Branches)
    (a : Label) (t : Tree) → is_end a ≡ true → option_map (substitute env) (branch_at make bs a) ≡ Some t → ⊥
no_end make on env bs a t h e =
    let found = mapped_some (substitute env) (branch_at make bs a) t e in
    let label = branch_label make bs a found.0 found.1 in
    absurd (cc (sym h ∙ ap is_end label.1 ∙ on label.0))

-- by an end a type comes to Skip
pub ended_skip : (env : List (Option Tree)) (s t : Tree) (a : Label) → is_end a ≡ true → step_in env s a ≡ Some t →
    t ≡ skip
ended_skip env skip t a h e = absurd (cc e)
ended_skip env (send b) t a h e = skip_left (same_label a (Send b)) t e
ended_skip env (receive b) t a h e = skip_left (same_label a (Receive b)) t e
ended_skip env close t a h e = skip_left (same_label a Close) t e
ended_skip env wait t a h e = skip_left (same_label a Wait) t e
ended_skip env (select bs) t a h e = absurd (no_end Select (λ l. refl) env bs a t h e)
ended_skip env (offer bs) t a h e = absurd (no_end Offer (λ l. refl) env bs a t h e)
ended_skip env (seq s r) t a h e = pick (ended_skip env r t a h) (terminated s) e
  where
    pick : (step_in env r a ≡ Some t → t ≡ skip) → (c : Bool) →
        (if c then step_in env r a else option_map (followed a (substitute env r)) (step_in env s a)) ≡ Some t → t ≡ skip
    pick behind true e = behind e
    pick behind false e =
        let found = mapped_some (followed a (substitute env r)) (step_in env s a) t e in
        sym found.2 ∙ followed_ended a (substitute env r) found.0 h
ended_skip env (rec s) t a h e = ended_skip (Some (substitute env (rec s)) ∷ env) s t a h e
ended_skip env (back k) t a h e = absurd (cc e)
ended_skip env (var k) t a h e = skip_left (same_label a (Var k)) t e
ended_skip env (plain b) t a h e = absurd (cc e)
ended_skip env (arrow u s r) t a h e = absurd (cc e)
ended_skip env (pair s r) t a h e = absurd (cc e)
ended_skip env (named k) t a h e = absurd (cc e)

-- what each type's moves come from
no_skip : {a : Label} {t : Tree} → Moves skip a t → ⊥
no_skip m = elim m [ ]

no_plain : {b : _} {a : Label} {t : Tree} → Moves (plain b) a t → ⊥
no_plain m = elim m [ ]

no_arrow : {u : _} {s r : Tree} {a : Label} {t : Tree} → Moves (arrow u s r) a t → ⊥
no_arrow m = elim m [ ]

no_pair : {s r : Tree} {a : Label} {t : Tree} → Moves (pair s r) a t → ⊥
no_pair m = elim m [ ]

no_named : {k : ℕ} {a : Label} {t : Tree} → Moves (named k) a t → ⊥
no_named m = elim m [ ]

send_label : {b : _} {a : Label} {t : Tree} → Moves (send b) a t → (a ≡ Send b) × (t ≡ skip)
send_label sends = (refl, refl)

receive_label : {b : _} {a : Label} {t : Tree} → Moves (receive b) a t → (a ≡ Receive b) × (t ≡ skip)
receive_label receives = (refl, refl)

close_label : {a : Label} {t : Tree} → Moves close a t → (a ≡ Close) × (t ≡ skip)
close_label closes = (refl, refl)

wait_label : {a : Label} {t : Tree} → Moves wait a t → (a ≡ Wait) × (t ≡ skip)
wait_label waits = (refl, refl)

variable_label : {k : ℕ} {a : Label} {t : Tree} → Moves (var k) a t → (a ≡ Var k) × (t ≡ skip)
variable_label variables = (refl, refl)

select_branch : {bs : Branches} {a : Label} {t : Tree} → Moves (select bs) a t → branch_at Select bs a ≡ Some t
select_branch (selects h) = h

offer_branch : {bs : Branches} {a : Label} {t : Tree} → Moves (offer bs) a t → branch_at Offer bs a ≡ Some t
offer_branch (offers h) = h

seq_part : {s r t : Tree} {a : Label} → Moves (seq s r) a t →
    ((terminated s ≡ false) × ((u : Tree) × Moves s a u × (followed a r u ≡ t))) ⊎ ((terminated s ≡ true) × Moves r a t)
seq_part (first {r} {t} {a} h m n) = inl (h, (t, m, followed_on a r t n))
seq_part (ends {r} {t} {a} h m n) = inl (h, (t, m, followed_ended a r t n))
seq_part (second h m) = inr (h, m)

rec_part : {s t : Tree} {a : Label} → Moves (rec s) a t → Moves (unfolding_of s) a t
rec_part (unfolds m) = m

-- putting types into a guarded type doesn't change whether it is terminated
still_terminated : (env : List (Option Tree)) (s : Tree) → IsContractive s → IsGuarded s →
    terminated (substitute env s) ≡ terminated s
still_terminated env skip c g = refl
still_terminated env (send b) c g = refl
still_terminated env (receive b) c g = refl
still_terminated env close c g = refl
still_terminated env wait c g = refl
still_terminated env (select bs) c g = refl
still_terminated env (offer bs) c g = refl
still_terminated env (seq s r) c g =
    pick (still_terminated env s c.0 (guarded_first s r g)) (still_terminated env r c.1) (terminated s) refl
  where
    pick : terminated (substitute env s) ≡ terminated s → (IsGuarded r → terminated (substitute env r) ≡ terminated r) →
        (b : Bool) → terminated s ≡ b →
        terminated (substitute env s) && terminated (substitute env r) ≡ terminated s && terminated r
    pick front behind true is = λ i. front i && behind (guarded_second s r g is) i
    pick front behind false is = ap (λ b. b && terminated (substitute env r)) (front ∙ is) ∙ sym (ap (λ b. b && terminated r) is)
still_terminated env (rec s) c g = still_terminated (None ∷ env) s c.0 (guarded_body s c.1 g)
still_terminated env (back k) c g = absurd (no_variable k g)
still_terminated env (var k) c g = refl
still_terminated env (plain b) c g = refl
still_terminated env (arrow u s r) c g = refl
still_terminated env (pair s r) c g = refl
still_terminated env (named k) c g = refl

one_step : (a b : Label) (t : Tree) → (a ≡ b) × (t ≡ skip) → (if same_label a b then Some skip else None) ≡ Some t
one_step a b t h =
    let is : same_label a b ≡ true = ap (λ c. same_label a c) (sym h.0) ∙ same_label-itself a in
    ap (λ c. if c then Some skip else None) is ∙ ap Some (sym h.1)

-- a move is a step
moves_step : (env : List (Option Tree)) → AllClosed env → (s : Tree) → IsScoped (length env) s → IsContractive s → IsGuarded s →
    (a : Label) (t : Tree) → Moves (substitute env s) a t → step_in env s a ≡ Some t
moves_step env ok skip h c g a t m = absurd (no_skip m)
moves_step env ok (send b) h c g a t m = one_step a (Send b) t (send_label m)
moves_step env ok (receive b) h c g a t m = one_step a (Receive b) t (receive_label m)
moves_step env ok close h c g a t m = one_step a Close t (close_label m)
moves_step env ok wait h c g a t m = one_step a Wait t (wait_label m)
moves_step env ok (select bs) h c g a t m = sym (branch_substituted Select env bs a) ∙ select_branch m
moves_step env ok (offer bs) h c g a t m = sym (branch_substituted Offer env bs a) ∙ offer_branch m
moves_step env ok (seq s r) h c g a t m =
    pick (moves_step env ok s h.0 c.0 (guarded_first s r g) a)
    (λ k. moves_step env ok r h.1 c.1 k a t) (terminated s) refl (seq_part m)
  where
    same : terminated (substitute env s) ≡ terminated s
    same = still_terminated env s c.0 (guarded_first s r g)

    pick : ((u : Tree) → Moves (substitute env s) a u → step_in env s a ≡ Some u) →
        (IsGuarded r → Moves (substitute env r) a t → step_in env r a ≡ Some t) →
        (b : Bool) → terminated s ≡ b →
        ((terminated (substitute env s) ≡ false) ×
        ((u : Tree) × Moves (substitute env s) a u × (followed a (substitute env r) u ≡ t))) ⊎
        ((terminated (substitute env s) ≡ true) × Moves (substitute env r) a t) →
        (if b then step_in env r a else option_map (followed a (substitute env r)) (step_in env s a)) ≡ Some t
    pick front behind true is (inl (n, u)) = absurd (cc (sym n ∙ same ∙ is))
    pick front behind true is (inr (y, m)) = behind (guarded_second s r g is) m
    pick front behind false is (inl (n, (u, m, e))) = ap (option_map (followed a (substitute env r))) (front u m) ∙ ap Some e
    pick front behind false is (inr (y, m)) = absurd (cc (sym y ∙ same ∙ is))
moves_step env ok (rec s) h c g a t m =
    let whole = substitute env (rec s) in
    moves_step (Some whole ∷ env) (whole_closed env ok s h) s h c.0 (guarded_body s c.1 g) a t
    (subst (λ y. Moves y a t) (substitute_after whole env ok s) (rec_part m))
moves_step env ok (back k) h c g a t m = absurd (no_variable k g)
moves_step env ok (var k) h c g a t m = one_step a (Var k) t (variable_label m)
moves_step env ok (plain b) h c g a t m = absurd (no_plain m)
moves_step env ok (arrow u s r) h c g a t m = absurd (no_arrow m)
moves_step env ok (pair s r) h c g a t m = absurd (no_pair m)
moves_step env ok (named k) h c g a t m = absurd (no_named m)

closed_guarded : (s : Tree) → IsScoped 0 s → IsGuarded s
closed_guarded s h k = unreached s 0 k h (omega arith)

-- the steps of a contractive type without free variables are its moves
pub steps_are_moves : (s : Tree) → IsScoped 0 s → IsContractive s → (a : Label) (t : Tree) → (step s a ≡ Some t → Moves s a t) ×
    (Moves s a t → step s a ≡ Some t)
steps_are_moves s h c a t = (
  λ e. subst (λ x. Moves x a t) (substitute_nothing s) (steps_move [] tt s h a t e),
  λ m. moves_step [] tt s h c (closed_guarded s h) a t (subst (λ x. Moves x a t) (sym (substitute_nothing s)) m),
)

same_some : (t u : Tree) → Some t ≡ Some u → t ≡ u
same_some t u e = cc

-- a sequence moves to one type at most where its first part, of which a move is left, does
seq_once : {s r t u : Tree} {a : Label} → terminated s ≡ false → ((v : Tree) → Moves s a v → t ≡ v) → Moves (seq s r) a u →
    followed a r t ≡ u
seq_once {s} {r} {t} {u} {a} h once n = pick (seq_part n)
  where
    pick : ((terminated s ≡ false) × ((v : Tree) × Moves s a v × (followed a r v ≡ u))) ⊎ ((terminated s ≡ true) × Moves r a u) →
        followed a r t ≡ u
    pick (inl (is, (v, k, e))) = ap (followed a r) (once v k) ∙ e
    pick (inr (is, k)) = absurd (cc (sym h ∙ is))

-- by a label a type moves to at most one type
pub moves_once : {s t u : Tree} {a : Label} → Moves s a t → Moves s a u → t ≡ u
moves_once sends n = sym (send_label n).1
moves_once receives n = sym (receive_label n).1
moves_once closes n = sym (close_label n).1
moves_once waits n = sym (wait_label n).1
moves_once {t} {u} (selects h) n = same_some t u (sym h ∙ select_branch n)
moves_once {t} {u} (offers h) n = same_some t u (sym h ∙ offer_branch n)
moves_once {u} {a} (first {s} {r} {t} h m e) n = sym (followed_on a r t e) ∙ seq_once h (λ v k. moves_once m k) n
moves_once {u} {a} (ends {s} {r} {t} h m e) n = sym (followed_ended a r t e) ∙ seq_once h (λ v k. moves_once m k) n
moves_once {t} {u} {a} (second {s} {r} h m) n = pick (λ k. moves_once m k) (seq_part n)
  where
    pick : (Moves r a u → t ≡ u) → ((terminated s ≡ false) × ((v : Tree) × Moves s a v × (followed a r v ≡ u))) ⊎
        ((terminated s ≡ true) × Moves r a u) → t ≡ u
    pick once (inl (is, k)) = absurd (cc (sym h ∙ is))
    pick once (inr (is, k)) = once k
moves_once (unfolds m) n = moves_once m (rec_part n)
moves_once variables n = sym (variable_label n).1

same_option : {X : Type 0} (o p : Option X) → ((x : X) → o ≡ Some x → p ≡ Some x) → ((x : X) → p ≡ Some x → o ≡ Some x) → o ≡ p
same_option None None f g = refl
same_option None (Some y) f g = g y refl
same_option (Some x) p f g = sym (f x refl)

-- an unfolding moves as its type does
pub unfolding_of_step : (s : Tree) → IsScoped 0 (rec s) → IsContractive (rec s) → IsContractive (unfolding_of s) →
    (a : Label) → step (unfolding_of s) a ≡ step (rec s) a
unfolding_of_step s h c d a =
    let inner = steps_are_moves (unfolding_of s) (unfolding_of_scoped s h) d a in
    let outer = steps_are_moves (rec s) h c a in
    same_option (step (unfolding_of s) a) (step (rec s) a) (λ x e. (outer x).1 (unfolds ((inner x).0 e)))
    (λ x e. (inner x).1 (rec_part ((outer x).0 e)))

-- an unfolding is terminated exactly where its type is
pub unfolding_of_terminated : (s : Tree) → IsScoped 0 (rec s) → IsContractive (rec s) →
    terminated (unfolding_of s) ≡ terminated (rec s)
unfolding_of_terminated s h c = still_terminated (Some (rec s) ∷ []) s c.0 (guarded_body s c.1 (closed_guarded (rec s) h))
