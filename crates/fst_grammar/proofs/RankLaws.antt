-- How many `rec`s a part goes through before its first move.
use Rattle.std.proofs.Common.{◌≡◌, ◌∙◌, ◌+◌, ◌*◌, ◌-◌, ◌<◌, ◌≤◌, refl, sym, ap, subst, arith, ℕ, zero, suc, List, [], ◌∷◌, ◌++◌, length, Bool, true, false, Option, Some, None, ◌||◌, ◌&&◌}
use Rattle.std.specs.Prelude.{if◌then◌else◌, slice_get, nat_lt, not}
use Rattle.std.proofs.lemmas.Bool.{eq-eqb, lt-ltb, ltb-true}
use Rattle.std.proofs.Math.Nat.{mul-le-mul}
use Rattle.fst_types.specs.Tree.{Tree, skip, send, receive, close, wait, select, offer, seq, rec, back, var, plain, arrow, pair, named}
use Rattle.fst_types.specs.Size.{nodes}
use Rattle.fst_types.specs.Scoped.{IsScoped}
use Rattle.fst_types.specs.declared.label.Label.{Label}
use Rattle.fst_types.specs.declared.label.Label.TheVariants.{Send, Receive, Close, Wait, Var}
use Rattle.fst_kinds.specs.Contractive.{guards, reaches}
use Rattle.fst_kinds.proofs.Laws.{unreached}
use Rattle.fst_lts.specs.Step.{terminated}
use Rattle.fst_lts.proofs.Laws.{unguarded}
use Rattle.fst_parts.specs.Place.{Place, is_closed, place_past, own_place, own_place_if, body_place, binder}
use Rattle.fst_grammar.specs.Word.{Numbers, node_at, word}
use Rattle.fst_parts.specs.Labels.{is_name, names}
use Rattle.fst_parts.specs.Once.{Part, position}
use Rattle.fst_grammar.specs.Parts.{numbers_by}
use Rattle.fst_base.specs.Limits.{most_nodes}
use Rattle.fst_grammar.specs.Equations.{most_rank}
use Rattle.fst_grammar.proofs.ClosingLaws.{scoped_if_closed}
use Rattle.fst_grammar.proofs.WordLaws.{ended_word}
use Rattle.fst_grammar.proofs.LetterLaws.{Known, name_known}
use Rattle.fst_grammar.proofs.SeekLaws.{Every, IsSeated, found_in}
use Rattle.fst_grammar.proofs.TableLaws.{Has, numbered, every_get}
use Rattle.fst_grammar.proofs.FitLaws.{AreBinders, IsFit, bound_in, small_in, few_in, fit_first, fit_second, fit_body, own_select, own_offer, own_rec}

-- the `rec`s before the first move, where env has how many the binders have
abbrev pub rank_in : List ℕ → Tree → ℕ
rank_in env (seq s r) = if terminated s then rank_in env r else rank_in env s
rank_in env (rec s) = suc (rank_in (0 ∷ env) s)
rank_in env (back k) = binder env k
rank_in env _ = 0

or_second : (b g c : Bool) → g ≡ false → c ≡ true → b || (not g && c) ≡ true
or_second true g c e h = refl
or_second false true c e h = absurd (cc e)
or_second false false c e h = h

-- only the binders matter that the type reaches
rank_same : (t : Tree) (e f : List ℕ) → ((k : ℕ) → reaches t k ≡ true → binder e k ≡ binder f k) → rank_in e t ≡ rank_in f t
rank_same skip e f h = refl
rank_same (send b) e f h = refl
rank_same (receive b) e f h = refl
rank_same close e f h = refl
rank_same wait e f h = refl
rank_same (select cs) e f h = refl
rank_same (offer cs) e f h = refl
rank_same (seq s r) e f h =
    pick (rank_same s e f (λ j is. h j (ap (λ b. b || (not (guards s) && reaches r j)) is)))
    (λ ends. rank_same r e f (λ j is. h j (or_second (reaches s j) (guards s) (reaches r j) (unguarded s ends) is)))
    (terminated s) refl
  where
    pick : rank_in e s ≡ rank_in f s → (terminated s ≡ true → rank_in e r ≡ rank_in f r) → (c : Bool) → terminated s ≡ c →
        (if c then rank_in e r else rank_in e s) ≡ (if c then rank_in f r else rank_in f s)
    pick front behind true is = behind is
    pick front behind false is = front
rank_same (rec s) e f h = ap suc (rank_same s (0 ∷ e) (0 ∷ f) (within s e f h))
  where
    within : (s : Tree) (e f : List ℕ) → ((k : ℕ) → reaches s (suc k) ≡ true → binder e k ≡ binder f k) →
        (k : ℕ) → reaches s k ≡ true → binder (0 ∷ e) k ≡ binder (0 ∷ f) k
    within s e f h zero is = refl
    within s e f h (suc k) is = h k is
rank_same (back j) e f h = h j (eq-eqb j j refl)
rank_same (var j) e f h = refl
rank_same (plain b) e f h = refl
rank_same (arrow u s r) e f h = refl
rank_same (pair s r) e f h = refl
rank_same (named j) e f h = refl

rank_free : (t : Tree) (e f : List ℕ) → IsScoped 0 t → rank_in e t ≡ rank_in f t
rank_free t e f h = rank_same t e f (λ k is. absurd (cc (sym (unreached t 0 k h (omega arith)) ∙ is)))

rank_body : (s : Tree) (x : ℕ) (env : List ℕ) → reaches s 0 ≡ false → rank_in (x ∷ env) s ≡ rank_in (0 ∷ env) s
rank_body s x env h = rank_same s (x ∷ env) (0 ∷ env) (same s x env h)
  where
    same : (s : Tree) (x : ℕ) (env : List ℕ) → reaches s 0 ≡ false →
        (k : ℕ) → reaches s k ≡ true → binder (x ∷ env) k ≡ binder (0 ∷ env) k
    same s x env h zero is = absurd (cc (sym h ∙ is))
    same s x env h (suc k) is = refl

rank_most : (t : Tree) (env : List ℕ) (b : ℕ) → ((k : ℕ) → binder env k ≤ b) → rank_in env t ≤ nodes t + b
rank_most skip env b h = omega arith
rank_most (send a) env b h = omega arith
rank_most (receive a) env b h = omega arith
rank_most close env b h = omega arith
rank_most wait env b h = omega arith
rank_most (select cs) env b h = omega arith
rank_most (offer cs) env b h = omega arith
rank_most (seq s r) env b h = pick (rank_most s env b h) (rank_most r env b h) (terminated s)
  where
    pick : rank_in env s ≤ nodes s + b → rank_in env r ≤ nodes r + b → (c : Bool) →
        (if c then rank_in env r else rank_in env s) ≤ nodes s + nodes r + 1 + b
    pick front behind true = omega arith
    pick front behind false = omega arith
rank_most (rec s) env b h = let le = rank_most s (0 ∷ env) b (within env b h) in omega arith
  where
    within : (env : List ℕ) (b : ℕ) → ((k : ℕ) → binder env k ≤ b) → (k : ℕ) → binder (0 ∷ env) k ≤ b
    within env b h zero = omega arith
    within env b h (suc k) = h k
rank_most (back j) env b h = let le = h j in omega arith
rank_most (var j) env b h = omega arith
rank_most (plain a) env b h = omega arith
rank_most (arrow u s r) env b h = omega arith
rank_most (pair s r) env b h = omega arith
rank_most (named j) env b h = omega arith

-- the ranks of binders

abbrev spot_rank : List ℕ → Option Part → ℕ
spot_rank env None = 0
spot_rank env (Some e) = rank_in env e.type

abbrev ranks : Tree → List ℕ → List ℕ
ranks w [] = []
ranks w (b ∷ bs) = spot_rank (ranks w bs) (found_in w b) ∷ ranks w bs

abbrev pub part_rank : Part → ℕ
part_rank e = rank_in (ranks e.place.whole e.place.binders) e.type

abbrev pub entry_rank : Option Part → ℕ
entry_rank None = 0
entry_rank (Some e) = part_rank e

-- how many `rec`s a non-terminal goes through
abbrev pub number_rank : ℕ → List Part → ℕ → ℕ
number_rank few found m = if nat_lt m few then 0 else entry_rank (slice_get found (m - few))

rank_few : (few : ℕ) (found : List Part) (m : ℕ) → m < few → number_rank few found m ≡ 0
rank_few few found m h = ap (λ c. if c then 0 else entry_rank (slice_get found (m - few))) (lt-ltb m few h)

pub rank_entry : (few : ℕ) (found : List Part) (k : ℕ) → number_rank few found (few + k) ≡ entry_rank (slice_get found k)
rank_entry few found k = pick (nat_lt (few + k) few) refl
  where
    pick : (c : Bool) → nat_lt (few + k) few ≡ c →
        (if c then 0 else entry_rank (slice_get found (few + k - few))) ≡ entry_rank (slice_get found k)
    pick true is = let lt : few + k < few = ltb-true (few + k) few is in absurd (omega arith)
    pick false is = let same : few + k - few ≡ k = omega arith in ap (λ x. entry_rank (slice_get found x)) same

module _ (letters : List Label) (found : List Part) (seated : Every IsSeated found) where
  abbrev n : Numbers
  n = numbers_by letters found

  abbrev pub rank : ℕ → ℕ
  rank = number_rank (length (names letters)) found

  node_rank : (w : Tree) (a : ℕ) (x : Part) → (found_in w a ≡ Some x) × Has found w a → rank (n.node w a) ≡ part_rank x
  node_rank w a x h = rank_entry (length (names letters)) found (position found w a)
      ∙ ap entry_rank (numbered found seated w a x h.1 h.0)

  binder_rank : (w : Tree) (bs : List ℕ) → AreBinders found w bs →
      (k : ℕ) → k < length bs → rank (n.node w (binder bs k)) ≡ binder (ranks w bs) k
  binder_rank w [] h k lt = absurd (omega arith)
  binder_rank w (b ∷ bs) h zero lt = node_rank w b _ (h.0.1, h.0.2) ∙ sym (ap (spot_rank (ranks w bs)) h.0.1)
  binder_rank w (b ∷ bs) h (suc k) lt = binder_rank w bs h.1 k (omega arith)

  abbrev Headed : List ℕ → ℕ → Type 0
  Headed w m = (z : ℕ) × (d : List ℕ) × (w ≡ z ∷ d) × (rank z ≡ m)

  name_head : (a : Label) → is_name a ≡ true → Known letters a → Headed (n.name a ∷ []) 0
  name_head a is k = (n.name a, [], refl, rank_few (length (names letters)) found (n.name a) (name_known letters a is k))

  entered_rank : (c : Bool) (p : Place) (t : Tree) → is_closed t ≡ c →
      rank_in (ranks (own_place_if c p t).whole (own_place_if c p t).binders) t ≡ rank_in (ranks p.whole p.binders) t
  entered_rank true p t is = rank_free t [] (ranks p.whole p.binders) (scoped_if_closed t is)
  entered_rank false p t is = refl

  headed_behind : (u v : List ℕ) (m : ℕ) → Headed u m → Headed (u ++ v) m
  headed_behind u v m h = (h.0, h.1 ++ v, ap (λ x. x ++ v) h.2, h.3)

  -- the rank of a part that isn't terminated is that of its word's first non-terminal
  head_rank : (p : Place) (t : Tree) → IsFit letters found p t → terminated t ≡ false →
      Headed (word n p t) (rank_in (ranks p.whole p.binders) t)
  head_rank p skip h e = absurd (cc e)
  head_rank p (send b) h e = name_head (Send b) refl h.known
  head_rank p (receive b) h e = name_head (Receive b) refl h.known
  head_rank p close h e = name_head Close refl h.known
  head_rank p wait h e = name_head Wait refl h.known
  head_rank p (select cs) h e = (node_at n (own_place p (select cs)), [], refl, node_rank _ _ _ (own_select letters found p cs h))
  head_rank p (offer cs) h e = (node_at n (own_place p (offer cs)), [], refl, node_rank _ _ _ (own_offer letters found p cs h))
  head_rank p (seq s r) h e =
      pick (head_rank (place_past p 1) s (fit_first letters found p s r h))
      (head_rank (place_past p (1 + nodes s)) r (fit_second letters found p s r h)) (terminated s) refl e
    where
      pick : (terminated s ≡ false → Headed (word n (place_past p 1) s) (rank_in (ranks p.whole p.binders) s)) →
          (terminated r ≡ false → Headed (word n (place_past p (1 + nodes s)) r) (rank_in (ranks p.whole p.binders) r)) →
          (c : Bool) → terminated s ≡ c → c && terminated r ≡ false →
          Headed (word n (place_past p 1) s ++ word n (place_past p (1 + nodes s)) r)
          (if c then rank_in (ranks p.whole p.binders) r else rank_in (ranks p.whole p.binders) s)
      pick front behind true is e =
          subst (λ u. Headed (u ++ word n (place_past p (1 + nodes s)) r) (rank_in (ranks p.whole p.binders) r))
          (sym (ended_word n (place_past p 1) s is)) (behind e)
      pick front behind false is e = headed_behind (word n (place_past p 1) s) (word n (place_past p (1 + nodes s)) r)
          (rank_in (ranks p.whole p.binders) s) (front is)
  head_rank p (rec s) h e = (
    node_at n (own_place p (rec s)),
    [],
    ap (λ c. if c then [] else node_at n (own_place p (rec s)) ∷ []) e,
    node_rank _ _ _ (own_rec letters found p s e h) ∙ entered_rank (is_closed (rec s)) p (rec s) refl,
  )
  head_rank p (back k) h e = (n.node p.whole (binder p.binders k), [], refl, binder_rank p.whole p.binders h.bound k h.scoped)
  head_rank p (var k) h e = name_head (Var k) refl h.known
  head_rank p (plain b) h e = absurd h.known
  head_rank p (arrow u s r) h e = absurd h.known
  head_rank p (pair s r) h e = absurd h.known
  head_rank p (named k) h e = absurd h.known

  -- a `rec` has a higher rank than the first non-terminal of its body's word
  abbrev pub Falls : Place → Tree → Type 0
  Falls q s = (z : ℕ) × (d : List ℕ) × (word n (body_place q) s ≡ z ∷ d) ×
      (rank z < part_rank (record { place = q; type = rec s }))

  pub body_falls : (p : Place) (s : Tree) → terminated s ≡ false → IsFit letters found p (rec s) → Falls (own_place p (rec s)) s
  body_falls p s e h =
      let q = own_place p (rec s) in
      let r = head_rank (body_place q) s (fit_body letters found p s e h) e in
      let same : rank r.0 ≡ rank_in (0 ∷ ranks q.whole q.binders) s = r.3
      ∙ rank_body s (spot_rank (ranks q.whole q.binders) (found_in q.whole q.at)) (ranks q.whole q.binders) h.contractive.1 in
      (r.0, r.1, r.2, omega arith)

  -- how far ranks go
  pub ranks_most : (w : Tree) (bs : List ℕ) → AreBinders found w bs → (k : ℕ) → binder (ranks w bs) k ≤ length bs * nodes w
  ranks_most w [] h k = omega arith
  ranks_most w (b ∷ bs) h zero =
      let le = rank_most (rec h.0.0) (ranks w bs) (length bs * nodes w) (ranks_most w bs h.1) in
      let is : spot_rank (ranks w bs) (found_in w b) ≡ rank_in (ranks w bs) (rec h.0.0) = ap (spot_rank (ranks w bs)) h.0.1 in
      let small : length bs + nodes (rec h.0.0) ≤ nodes w = h.0.3 in
      let more : suc (length bs) * nodes w ≡ length bs * nodes w + nodes w = omega arith in
      omega arith
  ranks_most w (b ∷ bs) h (suc k) =
      let le = ranks_most w bs h.1 k in
      let more : suc (length bs) * nodes w ≡ length bs * nodes w + nodes w = omega arith in
      omega arith

  -- no part goes through more `rec`s than this
  pub part_most : (p : Place) (t : Tree) → IsFit letters found p t →
      part_rank (record { place = own_place p t; type = t }) ≤ most_rank
  part_most p t h =
      let c = is_closed t in
      let q = own_place p t in
      let le = rank_most t (ranks q.whole q.binders) (length q.binders * nodes q.whole)
      (ranks_most q.whole q.binders (bound_in letters found c p t h.bound)) in
      let small : length q.binders + nodes t ≤ nodes q.whole = small_in letters found c p t h.small in
      let few : nodes q.whole ≤ most_nodes = few_in letters found c p t h.small h.few in
      let length_few : length q.binders ≤ 4096 = omega arith in
      let product : length q.binders * nodes q.whole ≤ 4096 * 4096 = mul-le-mul length_few few in
      omega arith

  -- no number goes through more
  pub number_most : Every (λ e. part_rank e ≤ most_rank) found → (m : ℕ) → rank m ≤ most_rank
  number_most h m = pick (nat_lt m (length (names letters))) (slice_get found (m - length (names letters))) refl
    where
      pick : (c : Bool) (o : Option Part) → slice_get found (m - length (names letters)) ≡ o →
          (if c then 0 else entry_rank o) ≤ most_rank
      pick true o is = omega arith
      pick false None is = omega arith
      pick false (Some e) is = every_get (λ e. part_rank e ≤ most_rank) found h (m - length (names letters)) e is
