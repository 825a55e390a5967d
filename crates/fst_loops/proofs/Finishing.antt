-- The last part of a path is finished: all that its nodes lead to is known.
use Rattle.std.proofs.Common.{◌≡◌, ℕ, suc, ◌+◌, ◌-◌, ◌<◌, ◌≤◌, ◌⊎◌, inl, inr, List, [], ◌∷◌, ◌++◌, length, get_or, take, drop, Bool, true, false, refl, sym, ◌∙◌, ap, subst, arith, length-append, length-drop}
use Rattle.std.specs.Prelude.{Contains}
use Rattle.std.proofs.lemmas.Bool.{cases_lt, cases_eq}
use Rattle.std.proofs.lemmas.List.{get_or_append_left, get_or-append_right, get_or-drop, get_or-take, length-take-le, take-append-le, take_at}
use Rattle.std.proofs.lemmas.List.Elements.{Contains-append_left, Contains-append_right, Contains-append_cases, Contains-push, Contains-push_cases}
use Rattle.fst_loops.specs.Graphs.{edges, Leads, edge, along, is_looped}
use Rattle.fst_loops.specs.Searches.{mark_at, set_all, IsNoted, CoverFrom, IsAhead, Holds}
use Rattle.fst_loops.specs.declared.search.Mark.{Mark}
use Rattle.fst_loops.specs.declared.search.Mark.TheVariants.{Unseen, Open, Done}
use Rattle.fst_loops.specs.declared.search.Part.{Part}
use Rattle.fst_loops.proofs.Loops.{leads_trans}
use Rattle.fst_loops.proofs.Parts.{last_most, in_order_front, cover_front, place_of, at_place, among, marked_within, looped_within, length-set_all, set_all-kept, set_all-same, set_all-other}

module _ (g : List (List ℕ)) (marks : List Mark) (path : List ℕ) (ps : List Part) (b : Part) (pending order : List ℕ)
    (looped after : List Bool)
    (h : Holds g marks path (ps ++ b ∷ []) pending order looped) (over : length pending ≤ b.before)
    (noted : IsNoted looped (drop b.first path) after) where
  begins : b.first ≤ length path
  begins = (h.divided.within b (Contains-push ps b)).0

  ends : length (drop b.first path) + b.first ≡ length path
  ends = let l = length-drop b.first path in let le = begins in omega arith

  -- the nodes of the part are those behind its begin
  inside : (p : ℕ) → b.first ≤ p → p < length path → Contains (drop b.first path) (get_or path p 0)
  inside p ge lt =
      let i : ℕ = p - b.first in
      let same : b.first + (p - b.first) ≡ p = omega arith in
      at_place (drop b.first path) (p - b.first) (get_or path p 0) (let e = ends in omega arith)
      (get_or-drop b.first path (p - b.first) 0 ∙ ap (λ (k : ℕ). get_or path k 0) same)

  place_in : (x : ℕ) → Contains (drop b.first path) x → (p : ℕ) × (b.first ≤ p) × (p < length path) × (get_or path p 0 ≡ x)
  place_in x m =
      let k = place_of (drop b.first path) x m in
      (b.first + k.0, omega arith, (let e = ends in let lt = k.1 in omega arith), sym (get_or-drop b.first path k.0 0) ∙ k.2)

  was_open : (x : ℕ) → Contains (drop b.first path) x → (p : ℕ) × (b.first ≤ p) × (p < length path) × (mark_at marks x ≡ Open p) ×
      (get_or path p 0 ≡ x)
  was_open x m = let p = place_in x m in (p.0, p.1, p.2, ap (mark_at marks) (sym p.3) ∙ h.placed.marked p.0 p.2, p.3)

  marked_nodes : (x : ℕ) → Contains (drop b.first path) x → x < length marks
  marked_nodes x m = let p = was_open x m in marked_within marks x (λ e. let at = p.3 in cc)

  done_now : (x : ℕ) → Contains (drop b.first path) x → mark_at (set_all marks (drop b.first path) Done) x ≡ Done
  done_now x m = set_all-same marks (drop b.first path) Done Unseen x (marked_nodes x m) m

  else_same : (x : ℕ) → (Contains (drop b.first path) x → ⊥) →
      mark_at (set_all marks (drop b.first path) Done) x ≡ mark_at marks x
  else_same x none = set_all-other marks (drop b.first path) Done Unseen x none

  done_still : (x : ℕ) → mark_at marks x ≡ Done → mark_at (set_all marks (drop b.first path) Done) x ≡ Done
  done_still x d = elim (among (drop b.first path) x) [ inl m ↦ done_now x m | inr none ↦ else_same x none ∙ d ]

  done_or_inside : (x : ℕ) → mark_at (set_all marks (drop b.first path) Done) x ≡ Done →
      (mark_at marks x ≡ Done) ⊎ Contains (drop b.first path) x
  done_or_inside x d = elim (among (drop b.first path) x) [ inl m ↦ inr m | inr none ↦ inl (sym (else_same x none) ∙ d) ]

  -- a node that was open is done, or open in front of the part
  still_open : (x q : ℕ) → mark_at marks x ≡ Open q → q < b.first → mark_at (set_all marks (drop b.first path) Done) x ≡ Open q
  still_open x q at lt = else_same x (λ m. let p = was_open x m in let e = p.3 in let same : p.0 ≡ q = cc in let ge = p.1 in
      absurd (omega arith)) ∙ at

  done_open : (x q : ℕ) → mark_at marks x ≡ Open q → b.first ≤ q → mark_at (set_all marks (drop b.first path) Done) x ≡ Done
  done_open x q at ge = let p = h.placed.placed x q at in
      done_now x (subst (λ (v : ℕ). Contains (drop b.first path) v) p.1 (inside q ge p.0))

  was_open_too : (x q : ℕ) → mark_at (set_all marks (drop b.first path) Done) x ≡ Open q → (mark_at marks x ≡ Open q) ×
      (q < b.first)
  was_open_too x q at = elim (among (drop b.first path) x) [
    | inl m ↦ absurd (let d = done_now x m in cc)
    | inr none ↦
        let old : mark_at marks x ≡ Open q = sym (else_same x none) ∙ at in
        (old, elim (cases_lt q b.first) [ inl lt ↦ lt | inr ge ↦ absurd (let d = done_open x q old ge in cc) ])
  ]

  -- what a node of the part leads to was done, or is a node of the part
  leads_to : (p y : ℕ) → b.first ≤ p → p < length path → Contains (edges g (get_or path p 0)) y → (mark_at marks y ≡ Done) ⊎
      ((q : ℕ) × (mark_at marks y ≡ Open q) × (b.first ≤ q))
  leads_to p y ge lt m = elim (h.followed p y lt m) [
    | inl w ↦ absurd (let le = w.3 b (Contains-push ps b) ge in let l = w.1 in omega arith)
    | inr known ↦ elim known [
      | inl d ↦ inl d
      | inr o ↦ inr (o.0, o.1, o.2 b (Contains-push ps b) ge)
    ]
  ]

  grows : (x : ℕ) → is_looped looped x ≡ true → is_looped after x ≡ true
  grows x e = elim noted [
    | inl n ↦ ap (λ l. is_looped l x) n.1 ∙ set_all-kept looped (drop b.first path) true false x (looped_within looped x e) e
    | inr n ↦ ap (λ l. is_looped l x) n.1 ∙ e
  ]

  told : length after ≡ length g
  told = elim noted [
    | inl n ↦ ap length n.1 ∙ length-set_all looped (drop b.first path) true ∙ h.found.told
    | inr n ↦ ap length n.1 ∙ h.found.told
  ]

  all_looped : 1 < length (drop b.first path) → (x : ℕ) → Contains (drop b.first path) x → is_looped after x ≡ true
  all_looped several x m = elim noted [
    | inl n ↦ ap (λ l. is_looped l x) n.1 ∙ set_all-same looped (drop b.first path) true false x
        (let a = h.found.told in let c = h.found.marked in let lt = marked_nodes x m in omega arith) m
    | inr n ↦ absurd (let le = n.0 in omega arith)
  ]

  not_looped_before : (x : ℕ) → is_looped after x ≡ false → is_looped looped x ≡ false
  not_looped_before x e = (elim (is_looped looped x) as (λ t. is_looped looped x ≡ t → t ≡ false) [
    | true ↦ λ l. absurd (let n = grows x l in cc)
    | false ↦ λ l. refl
  ]) refl

  within_part : (p q : ℕ) → b.first ≤ p → p < length path → b.first ≤ q → q < length path →
      (p ≡ q → ⊥) → Leads g (get_or path p 0) (get_or path q 0)
  within_part p q gp lp gq lq ne = elim (h.connected p q lp lq
      (λ c m start. let most = (last_most ps b c h.divided.rising m).0 in omega arith)) [
        | inl e ↦ absurd (ne (
            let one = h.placed.marked p lp in
            let two = h.placed.marked q lq in
            let both : Open p ≡ Open q = sym one ∙ ap (mark_at marks) e ∙ two in
            let same : p ≡ q = cc in
            same))
        | inr r ↦ r
      ]

  on_loop : 1 < length (drop b.first path) → (p : ℕ) → b.first ≤ p → p < length path → Leads g (get_or path p 0) (get_or path p 0)
  on_loop several p ge lt = elim (cases_eq p b.first) [
    | inl e ↦
        let far : suc b.first < length path = (let l = ends in omega arith) in
        leads_trans (within_part p (suc b.first) ge lt (omega arith) far (λ s. absurd (omega arith)))
        (within_part (suc b.first) p (omega arith) far ge lt (λ s. absurd (omega arith)))
    | inr ne ↦
        let near : b.first < length path = omega arith in
        leads_trans (within_part p b.first ge lt (omega arith) near ne)
        (within_part b.first p (omega arith) near ge lt (λ s. ne (sym s)))
  ]

  sound : (x : ℕ) → is_looped after x ≡ true → Leads g x x
  sound x e = elim noted [
    | inl n ↦ elim (among (drop b.first path) x) [
      | inl m ↦ let p = place_in x m in subst (λ (v : ℕ). Leads g v v) p.3 (on_loop n.0 p.0 p.1 p.2)
      | inr none ↦ h.found.sound x (sym (set_all-other looped (drop b.first path) true false x none) ∙ ap
          (λ l. is_looped l x) (sym n.1) ∙ e)
    ]
    | inr n ↦ h.found.sound x (ap (λ l. is_looped l x) (sym n.1) ∙ e)
  ]

  -- a part of one node that isn't noted has edges only to what was done
  only_done : (x y : ℕ) → Contains (drop b.first path) x → is_looped after x ≡ false → Contains (edges g x) y →
      mark_at marks y ≡ Done
  only_done x y m free e = elim (cases_lt 1 (length (drop b.first path))) [
    | inl several ↦ absurd (let l = all_looped several x m in cc)
    | inr one ↦
        let p = place_in x m in
        elim (leads_to p.0 y p.1 p.2 (subst (λ (v : ℕ). Contains (edges g v) y) (sym p.3) e)) [
          | inl d ↦ d
          | inr o ↦
              let at = h.placed.placed y o.0 o.1 in
              let same : o.0 ≡ p.0 = (let a = p.1 in let c = p.2 in let d = o.2 in let f = at.0 in let l = ends in omega arith) in
              let own : y ≡ x = sym at.1 ∙ ap (λ (k : ℕ). get_or path k 0) same ∙ p.3 in
              absurd (
              let l = h.found.own x (subst (λ (v : ℕ). Contains (edges g x) v) own e) in
              let f = not_looped_before x free in
              cc)
        ]
  ]

  closed_along : (x y : ℕ) → mark_at marks x ≡ Done → Leads g x y → mark_at marks y ≡ Done
  closed_along x y d r = go r d
    where
      go : {u v : ℕ} → Leads g u v → mark_at marks u ≡ Done → mark_at marks v ≡ Done
      go (edge u v m) d = h.found.closed u v d m
      go (along u w v m r) d = go r (h.found.closed u w d m)

  complete : (x : ℕ) → mark_at (set_all marks (drop b.first path) Done) x ≡ Done → is_looped after x ≡ false → Leads g x x → ⊥
  complete x d free r = elim (done_or_inside x d) [
    | inl old ↦ h.found.complete x old (not_looped_before x free) r
    | inr m ↦ (let p = was_open x m in let at = p.3 in let back = first_edge x r (λ y e. only_done x y m free e) in let c =
        back in cc)
  ]
    where
      first_edge : (x : ℕ) → Leads g x x → ((y : ℕ) → Contains (edges g x) y → mark_at marks y ≡ Done) → mark_at marks x ≡ Done
      first_edge x r all = go r all
        where
          go : {u v : ℕ} → Leads g u v → ((y : ℕ) → Contains (edges g u) y → mark_at marks y ≡ Done) → mark_at marks v ≡ Done
          go (edge u v m) all = all v m
          go (along u w v m r) all = closed_along w v (all w m) r

  behind : (i : ℕ) → i < length (order ++ drop b.first path) → is_looped after (get_or (order ++ drop b.first path) i 0) ≡ false →
      (y : ℕ) → Contains (edges g (get_or (order ++ drop b.first path) i 0)) y → Contains (take i (order ++ drop b.first path)) y
  behind i l free y e = elim (cases_lt i (length order)) [
    | inl lt ↦
        let same = get_or_append_left order (drop b.first path) 0 i lt in
        subst (λ (t : List ℕ). Contains t y) (sym (take-append-le i order (drop b.first path) (omega arith))) (
        h.found.behind i lt (not_looped_before (get_or order i 0) (subst (λ (v : ℕ). is_looped after v ≡ false) same free)) y
        (subst (λ (v : ℕ). Contains (edges g v) y) same e))
    | inr ge ↦
        let x : ℕ = get_or (order ++ drop b.first path) i 0 in
        let len = length-append order (drop b.first path) in
        let m : Contains (drop b.first path) (get_or (order ++ drop b.first path) i 0) =
        at_place (drop b.first path) (i - length order) (get_or (order ++ drop b.first path) i 0) (omega arith)
        (sym (get_or-append_right order (drop b.first path) (length order) i 0 refl ge)) in
        let old = (h.found.ordered y).0 (only_done (get_or (order ++ drop b.first path) i 0) y m free e) in
        elim (cases_lt 1 (length (drop b.first path))) [
          | inl several ↦ absurd (let l = all_looped several (get_or (order ++ drop b.first path) i 0) m in cc)
          | inr one ↦ subst (λ (t : List ℕ). Contains t y) (sym (take_at order (drop b.first path) i (omega arith))) old
        ]
  ]

  front : (c : Part) → Contains ps c → Contains (ps ++ b ∷ []) c
  front c m = Contains-append_left ps (b ∷ []) c m

  shorter : length (take b.first path) ≡ b.first
  shorter = length-take-le b.first path begins

  same_place : (p : ℕ) → p < b.first → get_or (take b.first path) p 0 ≡ get_or path p 0
  same_place p lt = get_or-take b.first path p 0 lt

  -- what is ahead among the other parts, from a place in front of this one, is ahead
  ahead_too : (p q : ℕ) → p < b.first → IsAhead ps p q → IsAhead (ps ++ b ∷ []) p q
  ahead_too p q lt ahead c m start = elim (Contains-push_cases ps b c m) [
    | inl n ↦ ahead c n start
    | inr e ↦ absurd (let s : b.first ≤ p = subst (λ (k : Part). k.first ≤ p) (sym e) start in omega arith)
  ]

  pub finished : Holds g (set_all marks (drop b.first path) Done) (take b.first path) ps pending
      (order ++ drop b.first path) after
  finished = record {
    placed = record {
      marked = λ p l.
          let lt : p < b.first = (let n = shorter in omega arith) in
          ap (mark_at (set_all marks (drop b.first path) Done)) (same_place p lt)
          ∙ still_open (get_or path p 0) p (h.placed.marked p (let n = begins in omega arith)) lt;
      placed = λ x q at.
          let old = was_open_too x q at in
          ((let n = shorter in let lt = old.1 in omega arith), same_place q old.1 ∙ (h.placed.placed x q old.0).1);
    };
    divided = record {
      rising = in_order_front ps b h.divided.rising;
      within = λ c m.
          let most = last_most ps b c h.divided.rising (front c m) in
          ((let n = shorter in let le = most.0 in omega arith), (h.divided.within c (front c m)).1);
      cover = subst (λ (n : ℕ). CoverFrom ps n) (sym shorter) (cover_front ps b (length path) h.divided.cover);
    };
    connected = λ p q lp lq ahead.
        let n = shorter in
        let le = begins in
        let P : ℕ → ℕ → Type 0 = λ u v. (u ≡ v) ⊎ Leads g u v in
        let tp : p < b.first = omega arith in
        let tq : q < b.first = omega arith in
        subst (λ (u : ℕ). P u (get_or (take b.first path) q 0)) (sym (same_place p tp)) (
        subst (λ (v : ℕ). P (get_or path p 0) v) (sym (same_place q tq)) (
        h.connected p q (omega arith) (omega arith) (ahead_too p q tp ahead)));
    sources = λ i l.
        let s = h.sources i l in
        let lt : s.0 < b.first = (elim (cases_lt s.0 b.first) [
          | inl lt ↦ lt
          | inr ge ↦ absurd (let le = (s.1.part b (Contains-push ps b)).1 ge in omega arith)
        ]) in (
          s.0,
          record {
            within = (let n = shorter in omega arith);
            leads = subst (λ (v : ℕ). Contains (edges g v) (get_or pending i 0)) (sym (same_place s.0 lt)) s.1.leads;
            part = λ c m. s.1.part c (front c m);
          },
        );
    followed = λ p y l m.
        let lt : p < b.first = (let n = shorter in omega arith) in
        elim (h.followed p y (let n = begins in omega arith) (subst (λ (v : ℕ). Contains (edges g v) y) (same_place p lt) m)) [
          | inl w ↦ inl (w.0, w.1, w.2, λ c n. w.3 c (front c n))
          | inr known ↦ elim known [
            | inl d ↦ inr (inl (done_still y d))
            | inr o ↦ elim (cases_lt o.0 b.first) [
              | inl low ↦ inr (inr (o.0, still_open y o.0 o.1 low, λ c n. o.2 c (front c n)))
              | inr ge ↦ inr (inl (done_open y o.0 o.1 ge))
            ]
          ]
        ];
    found = record {
      marked = length-set_all marks (drop b.first path) Done ∙ h.found.marked;
      told = told;
      closed = λ x y d m. elim (done_or_inside x d) [
        | inl old ↦ done_still y (h.found.closed x y old m)
        | inr k ↦
            let p = place_in x k in
            elim (leads_to p.0 y p.1 p.2 (subst (λ (v : ℕ). Contains (edges g v) y) (sym p.3) m)) [
              | inl d' ↦ done_still y d'
              | inr o ↦ done_open y o.0 o.1 o.2
            ]
      ];
      ordered = λ x. (
        (λ d. elim (done_or_inside x d) [
          | inl old ↦ Contains-append_left order (drop b.first path) x ((h.found.ordered x).0 old)
          | inr m ↦ Contains-append_right order (drop b.first path) x m
        ]),
        (λ m. elim (Contains-append_cases order (drop b.first path) x m) [
          | inl old ↦ done_still x ((h.found.ordered x).1 old)
          | inr k ↦ done_now x k
        ]),
      );
      own = λ x m. grows x (h.found.own x m);
      sound = sound;
      complete = complete;
      behind = behind;
    };
  }

  pub finished_met : (x : ℕ) → mark_at (set_all marks (drop b.first path) Done) x ≡ Unseen → mark_at marks x ≡ Unseen
  finished_met x e = elim (among (drop b.first path) x) [
    | inl m ↦ absurd (let d = done_now x m in cc)
    | inr none ↦ sym (else_same x none) ∙ e
  ]
