-- What a search keeps true: at its start, where a node is opened, and where a pending one was met before.
use Rattle.std.proofs.Common.{◌≡◌, ℕ, ◌+◌, ◌-◌, ◌<◌, ◌≤◌, ◌⊎◌, inl, inr, List, [], ◌∷◌, ◌++◌, length, get_or, set, replicate, Bool, true, false, refl, sym, ◌∙◌, ap, subst, arith, get_or-set_same, get_or-set_other, length-append}
use Rattle.std.specs.Prelude.{All, Contains, ◌↔◌}
use Rattle.std.proofs.lemmas.Bool.{cases_lt, cases_eq}
use Rattle.std.proofs.lemmas.List.{length-set, length_push, get_or_append_left, get_or_push, get_or-append_right, get_or-append-add, get_or-replicate, length-replicate, get_or_past}
use Rattle.std.proofs.lemmas.List.Elements.{Contains-append_left, Contains-push, Contains-push_cases, All-from_get_or}
use Rattle.fst_base.proofs.Lists.{contains_none}
use Rattle.fst_loops.specs.Graphs.{edges, Leads, edge, is_looped, IsOrder}
use Rattle.fst_loops.specs.Searches.{mark_at, IsPath, AreParts, CoverFrom, IsAhead, IsConnected, IsSource, HaveSources, IsMet, AreFollowed, Holds, IsLast, AreOwnLoops}
use Rattle.fst_loops.specs.declared.search.Mark.{Mark}
use Rattle.fst_loops.specs.declared.search.Mark.TheVariants.{Unseen, Open, Done}
use Rattle.fst_loops.specs.declared.search.Part.{Part}
use Rattle.fst_loops.proofs.Loops.{same_or_leads, leads_or_same}
use Rattle.fst_loops.proofs.Parts.{last_most, in_order_front, in_order_push, cover_joined, cover_push, up_to_or_behind, place_of, at_place, marked_within, edge_from, looped_within}

-- what holds of some lists holds of the same lists
pub moved : {g : List (List ℕ)} {marks marks' : List Mark} {path path' : List ℕ} {parts parts' : List Part}
    {pending pending' order order' : List ℕ} {looped looped' : List Bool} →
    Holds g marks path parts pending order looped → marks' ≡ marks → path' ≡ path → parts' ≡ parts → pending' ≡ pending →
    order' ≡ order → looped' ≡ looped →
    Holds g marks' path' parts' pending' order' looped'
moved {g} {marks} {marks'} {path} {path'} {parts} {parts'} {pending} {pending'} {order} {order'} {looped} {looped'} h m p ps pd o
    l =
    subst (λ (x : List Mark). Holds g x path' parts' pending' order' looped') (sym m) (
    subst (λ (x : List ℕ). Holds g marks x parts' pending' order' looped') (sym p) (
    subst (λ (x : List Part). Holds g marks path x pending' order' looped') (sym ps) (
    subst (λ (x : List ℕ). Holds g marks path parts x order' looped') (sym pd) (
    subst (λ (x : List ℕ). Holds g marks path parts pending x looped') (sym o) (
    subst (λ (x : List Bool). Holds g marks path parts pending order x) (sym l) h)))))

module _ (g : List (List ℕ)) (marks : List Mark) (path : List ℕ) (ps : List Part) (b : Part) (pend : List ℕ) (y : ℕ)
    (order : List ℕ) (looped : List Bool)
    (h : Holds g marks path (ps ++ b ∷ []) (pend ++ y ∷ []) order looped) (le : b.before ≤ length pend) where
  all_up_to : (c : Part) → Contains (ps ++ b ∷ []) c → (c.first ≤ b.first) × (c.before ≤ length pend)
  all_up_to c m = let most = last_most ps b c h.divided.rising m in (most.0, (let x = most.1 in omega arith))

  -- what was met is no longer pending
  pub skipped : ((mark_at marks y ≡ Done) ⊎ ((q : ℕ) × (mark_at marks y ≡ Open q) × (b.first ≤ q))) →
      Holds g marks path (ps ++ b ∷ []) pend order looped
  skipped known = record {
    placed = h.placed;
    divided = record {
      rising = h.divided.rising;
      within = λ c m. ((h.divided.within c m).0, (all_up_to c m).1);
      cover = h.divided.cover;
    };
    connected = h.connected;
    sources = λ i l.
        let s = h.sources i (let n = length_push pend y in omega arith) in
        (s.0, subst (λ (z : ℕ). IsSource g path (ps ++ b ∷ []) s.0 i z) (get_or_append_left pend (y ∷ []) 0 i l) s.1);
    followed = λ p z l m. elim (h.followed p z l m) [
      | inl w ↦ elim (cases_lt w.0 (length pend)) [
        | inl lt ↦ inl (w.0, lt, sym (get_or_append_left pend (y ∷ []) 0 w.0 lt) ∙ w.2, w.3)
        | inr ge ↦
            let len : length pend ≡ w.0 = (let n = length_push pend y in let lt = w.1 in omega arith) in
            let same : y ≡ z = sym (get_or_push pend y 0 w.0 len) ∙ w.2 in
            inr (subst (λ (v : ℕ). IsMet marks (ps ++ b ∷ []) p v) same (met p))
      ]
      | inr known' ↦ inr known'
    ];
    found = h.found;
  }
    where
      met : (p : ℕ) → IsMet marks (ps ++ b ∷ []) p y
      met p = elim known [
        | inl d ↦ inl d
        | inr o ↦ inr (o.0, o.1, λ c m le. (let most = (all_up_to c m).0 in let at = o.2 in omega arith))
      ]

  -- an edge back to an earlier part joins the last part with the one before
  pub joined : (q : ℕ) → mark_at marks y ≡ Open q → q < b.first → Holds g marks path ps (pend ++ y ∷ []) order looped
  joined q at lt = record {
    placed = h.placed;
    divided = record {
      rising = in_order_front ps b h.divided.rising;
      within = λ c m. h.divided.within c (front c m);
      cover = cover_joined ps b (length path) h.divided.cover (omega arith);
    };
    connected = λ p z lp lz ahead. elim (up_to_or_behind ps z) [
      | inl all ↦ inr (around p z lp lz all)
      | inr c ↦ h.connected p z lp lz (λ d m start. elim (Contains-push_cases ps b d m) [
        | inl n ↦ ahead d n start
        | inr e ↦ absurd (
            let most = (all_up_to c.0 (front c.0 c.1)).0 in
            let behind = c.2 in
            let from : b.first ≤ p = subst (λ (k : Part). k.first ≤ p) (sym e) start in
            let to : c.0.first ≤ z = ahead c.0 c.1 (omega arith) in
            omega arith)
      ])
    ];
    sources = λ i l. let s = h.sources i l in (
      s.0,
      record { within = s.1.within; leads = s.1.leads; part = λ c m. s.1.part c (front c m) },
    );
    followed = λ p z l m. elim (h.followed p z l m) [
      | inl w ↦ inl (w.0, w.1, w.2, λ c n. w.3 c (front c n))
      | inr known ↦ elim known [
        | inl d ↦ inr (inl d)
        | inr o ↦ inr (inr (o.0, o.1, λ c n. o.2 c (front c n)))
      ]
    ];
    found = h.found;
  }
    where
      front : (c : Part) → Contains ps c → Contains (ps ++ b ∷ []) c
      front c m = Contains-append_left ps (b ∷ []) c m

      placed : (q < length path) × (get_or path q 0 ≡ y)
      placed = h.placed.placed y q at

      source : (p : ℕ) × IsSource g path (ps ++ b ∷ []) p (length pend) y
      source =
          let s = h.sources (length pend) (let n = length_push pend y in omega arith) in (
            s.0,
            subst (λ (z : ℕ). IsSource g path (ps ++ b ∷ []) s.0 (length pend) z)
                (get_or_push pend y 0 (length pend) refl) s.1,
          )

      around : (p z : ℕ) → p < length path → z < length path →
          ((c : Part) → Contains ps c → c.first ≤ z) → Leads g (get_or path p 0) (get_or path z 0)
      around p z lp lz all =
          let s = source in
          let to = h.connected p s.0 lp s.1.within (λ c m start. (s.1.part c m).0 (all_up_to c m).1) in
          let back : Leads g (get_or path s.0 0) (get_or path q 0) = subst
          (λ (v : ℕ). Leads g (get_or path s.0 0) v) (sym placed.1) (edge (get_or path s.0 0) y s.1.leads) in
          let there = h.connected q z placed.0 lz (λ c m start. elim (Contains-push_cases ps b c m) [
            | inl n ↦ all c n
            | inr e ↦ absurd (let from : b.first ≤ q = subst (λ (k : Part). k.first ≤ q) (sym e) start in omega arith)
          ]) in
          same_or_leads to (leads_or_same back there)

-- a node that was not met before is opened
module _ (g : List (List ℕ)) (marks : List Mark) (path : List ℕ) (parts : List Part) (pending order : List ℕ) (looped : List Bool)
    (y : ℕ)
    (h : Holds g marks path parts pending order looped) (node : y < length g) (unseen : mark_at marks y ≡ Unseen)
    (led : (p : ℕ) → p < length path → Leads g (get_or path p 0) y) (new : Part) (first : new.first ≡ length path)
    (before : new.before ≡ length pending) where
  within : y < length marks
  within = let e = h.found.marked in omega arith

  here : mark_at (set marks y (Open (length path))) y ≡ Open (length path)
  here = get_or-set_same marks y (Open (length path)) Unseen within

  other : (x : ℕ) → (x ≡ y → ⊥) → mark_at (set marks y (Open (length path))) x ≡ mark_at marks x
  other x ne = get_or-set_other marks y x (Open (length path)) Unseen ne

  -- a node that was met is another one
  another : (x : ℕ) → (mark_at marks x ≡ Unseen → ⊥) → x ≡ y → ⊥
  another x met e = met (ap (mark_at marks) e ∙ unseen)

  done_still : (x : ℕ) → mark_at marks x ≡ Done → mark_at (set marks y (Open (length path))) x ≡ Done
  done_still x d = other x (another x (λ e. cc)) ∙ d

  done_before : (x : ℕ) → mark_at (set marks y (Open (length path))) x ≡ Done → mark_at marks x ≡ Done
  done_before x d = sym (other x (λ e. let at : mark_at (set marks y (Open (length path))) x ≡ Open (length path) =
      ap (mark_at (set marks y (Open (length path)))) e ∙ here in cc)) ∙ d

  place_before : (p : ℕ) → p < length path → get_or (path ++ y ∷ []) p 0 ≡ get_or path p 0
  place_before p l = get_or_append_left path (y ∷ []) 0 p l

  place_here : (p : ℕ) → p ≡ length path → get_or (path ++ y ∷ []) p 0 ≡ y
  place_here p e = get_or_push path y 0 p (sym e)

  -- a place on the path is an old one, or the new one
  places : (p : ℕ) → p < length (path ++ y ∷ []) → (p < length path) ⊎ (p ≡ length path)
  places p l = elim (cases_lt p (length path)) [ inl lt ↦ inl lt | inr ge ↦ inr (let n = length_push path y in omega arith) ]

  opened_path : IsPath (set marks y (Open (length path))) (path ++ y ∷ [])
  opened_path = record {
    marked = λ p l. elim (places p l) [
      | inl lt ↦
          let old = h.placed.marked p lt in
          subst (λ (x : ℕ). mark_at (set marks y (Open (length path))) x ≡ Open p) (sym (place_before p lt))
          (other (get_or path p 0) (another (get_or path p 0) (λ e. cc)) ∙ old)
      | inr e ↦ ap (mark_at (set marks y (Open (length path)))) (place_here p e) ∙ here ∙ ap Open (sym e)
    ];
    placed = λ x p at. elim (cases_eq x y) [
      | inl e ↦
          let both : Open (length path) ≡ Open p = sym here ∙ ap (mark_at (set marks y (Open (length path)))) (sym e) ∙ at in
          let same : length path ≡ p = cc in
          ((let n = length_push path y in omega arith), place_here p (sym same) ∙ sym e)
      | inr ne ↦
          let old = h.placed.placed x p (sym (other x ne) ∙ at) in
          ((let n = length_push path y in let l = old.0 in omega arith), place_before p old.0 ∙ old.1)
    ];
  }

  opened_parts : AreParts (path ++ y ∷ []) (parts ++ new ∷ []) (pending ++ edges g y)
  opened_parts =
      let n = length_push path y in
      let k = length-append pending (edges g y) in
      record {
        rising = in_order_push parts new h.divided.rising
            (λ c m. let w = h.divided.within c m in ((let a = w.0 in omega arith), (let a = w.1 in omega arith)));
        within = λ c m. elim (Contains-push_cases parts new c m) [
          | inl old ↦ let w = h.divided.within c old in ((let a = w.0 in omega arith), (let a = w.1 in omega arith))
          | inr e ↦ subst (λ (d : Part). (d.first ≤ length (path ++ y ∷ [])) × (d.before ≤ length (pending ++ edges g y))) e
              (omega arith, omega arith)
        ];
        cover = cover_push parts new (length (path ++ y ∷ [])) (subst (λ (k : ℕ). CoverFrom parts k) (sym first) h.divided.cover);
      }

  -- of the new part nothing holds that needs a place or a number behind its begin
  only_old : (p q : ℕ) → p < length path → IsAhead parts p q → IsAhead (parts ++ new ∷ []) p q
  only_old p q lt ahead c m start = elim (Contains-push_cases parts new c m) [
    | inl old ↦ ahead c old start
    | inr e ↦ absurd (let s : new.first ≤ p = subst (λ (d : Part). d.first ≤ p) (sym e) start in omega arith)
  ]

  opened_connected : IsConnected g (path ++ y ∷ []) (parts ++ new ∷ [])
  opened_connected p q lp lq ahead = elim (places p lp) [
    | inl lt ↦ elim (places q lq) [
      | inl lt' ↦
          let P : ℕ → ℕ → Type 0 = λ u v. (u ≡ v) ⊎ Leads g u v in
          subst (λ (u : ℕ). P u (get_or (path ++ y ∷ []) q 0)) (sym (place_before p lt)) (
          subst (λ (v : ℕ). P (get_or path p 0) v) (sym (place_before q lt')) (
          h.connected p q lt lt' (λ c m. ahead c (Contains-append_left parts (new ∷ []) c m))))
      | inr e ↦ inr (
          subst (λ (u : ℕ). Leads g u (get_or (path ++ y ∷ []) q 0)) (sym (place_before p lt)) (
          subst (λ (v : ℕ). Leads g (get_or path p 0) v) (sym (place_here q e)) (led p lt)))
    ]
    | inr e ↦
        let to : new.first ≤ q = ahead new (Contains-push parts new) (omega arith) in
        let same : q ≡ length path = (let n = length_push path y in omega arith) in
        inl (place_here p e ∙ sym (place_here q same))
  ]

  opened_sources : HaveSources g (path ++ y ∷ []) (parts ++ new ∷ []) (pending ++ edges g y)
  opened_sources i l = elim (cases_lt i (length pending)) [
    | inl lt ↦
        let s = h.sources i lt in (
          s.0,
          record {
            within = (let n = length_push path y in let w = s.1.within in omega arith);
            leads =
                subst (λ (z : ℕ). Contains (edges g (get_or (path ++ y ∷ []) s.0 0)) z)
                (sym (get_or_append_left pending (edges g y) 0 i lt)) (
                subst (λ (x : ℕ). Contains (edges g x) (get_or pending i 0)) (sym (place_before s.0 s.1.within)) s.1.leads);
            part = λ c m. elim (Contains-push_cases parts new c m) [
              | inl old ↦ s.1.part c old
              | inr e ↦ subst (λ (d : Part). (d.before ≤ i) ↔ (d.first ≤ s.0)) e
                  ((λ u. absurd (omega arith)), (λ u. absurd (let w = s.1.within in omega arith)))
            ];
          },
        )
    | inr ge ↦ (
      length path,
      record {
        within = (let n = length_push path y in omega arith);
        leads = subst (λ (x : ℕ). Contains (edges g x) (get_or (pending ++ edges g y) i 0)) (sym (place_here (length path) refl))
            (
            at_place (edges g y) (i - length pending) (get_or (pending ++ edges g y) i 0)
            (let n = length-append pending (edges g y) in omega arith)
            (sym (get_or-append_right pending (edges g y) (length pending) i 0 refl ge)));
        part = λ c m. elim (Contains-push_cases parts new c m) [
          | inl old ↦ let w = h.divided.within c old in ((λ u. w.0), (λ u. let a = w.1 in omega arith))
          | inr e ↦ subst (λ (d : Part). (d.before ≤ i) ↔ (d.first ≤ length path)) e ((λ u. omega arith), (λ u. omega arith))
        ];
      },
    )
  ]

  opened_followed : AreFollowed g (set marks y (Open (length path))) (path ++ y ∷ []) (parts ++ new ∷ []) (pending ++ edges g y)
  opened_followed p z l m = elim (places p l) [
    | inl lt ↦ elim (h.followed p z lt (subst (λ (x : ℕ). Contains (edges g x) z) (place_before p lt) m)) [
      | inl w ↦ inl (
        w.0,
        (let n = length-append pending (edges g y) in let a = w.1 in omega arith),
        get_or_append_left pending (edges g y) 0 w.0 w.1 ∙ w.2,
        λ c n start. elim (Contains-push_cases parts new c n) [
          | inl old ↦ w.3 c old start
          | inr e ↦ absurd (let s : new.first ≤ p = subst (λ (d : Part). d.first ≤ p) (sym e) start in omega arith)
        ],
      )
      | inr known ↦ elim known [
        | inl d ↦ inr (inl (done_still z d))
        | inr o ↦ let at = o.1 in inr (inr (o.0, other z (another z (λ e. cc)) ∙ o.1, only_old p o.0 lt o.2))
      ]
    ]
    | inr e ↦
        let k = place_of (edges g y) z (subst (λ (x : ℕ). Contains (edges g x) z) (place_here p e) m) in
        inl (
          length pending + k.0,
          (let n = length-append pending (edges g y) in let a = k.1 in omega arith),
          get_or-append-add pending (edges g y) k.0 0 ∙ k.2,
          λ c n start. elim (Contains-push_cases parts new c n) [
            | inl old ↦ let w = (h.divided.within c old).1 in omega arith
            | inr e ↦ subst (λ (d : Part). d.before ≤ length pending + k.0) e (omega arith)
          ],
        )
  ]

  pub opened : Holds g (set marks y (Open (length path))) (path ++ y ∷ []) (parts ++ new ∷ []) (pending ++ edges g y) order looped
  opened = record {
    placed = opened_path;
    divided = opened_parts;
    connected = opened_connected;
    sources = opened_sources;
    followed = opened_followed;
    found = record {
      marked = length-set marks y (Open (length path)) ∙ h.found.marked;
      told = h.found.told;
      closed = λ x z d m. done_still z (h.found.closed x z (done_before x d) m);
      ordered = λ x. ((λ d. (h.found.ordered x).0 (done_before x d)), (λ m. done_still x ((h.found.ordered x).1 m)));
      own = h.found.own;
      sound = h.found.sound;
      complete = λ x d. h.found.complete x (done_before x d);
      behind = h.found.behind;
    };
  }

  pub opened_met : (x : ℕ) → mark_at (set marks y (Open (length path))) x ≡ Unseen → mark_at marks x ≡ Unseen
  opened_met x e = elim (cases_eq x y) [
    | inl same ↦ ap (mark_at marks) same ∙ unseen
    | inr ne ↦ sym (other x ne) ∙ e
  ]

-- before a search nothing is met
pub begun : (g : List (List ℕ)) (looped : List Bool) → AreOwnLoops g looped →
    Holds g (replicate (length g) Unseen) [] [] [] [] looped
begun g looped own = record {
  placed = record { marked = λ p l. absurd (omega arith); placed = λ x p at. absurd (let e = unseen x in cc) };
  divided = record { rising = tt; within = λ c m. absurd (contains_none c m); cover = refl };
  connected = λ p q l. absurd (omega arith);
  sources = λ i l. absurd (omega arith);
  followed = λ p z l. absurd (omega arith);
  found = record {
    marked = length-replicate (length g) Unseen;
    told = own.told;
    closed = λ x z d. absurd (let e = unseen x in cc);
    ordered = λ x. ((λ d. absurd (let e = unseen x in cc)), (λ m. absurd (contains_none x m)));
    own = λ x m. (own.own x (edge_from g x x m)).1 m;
    sound = λ x e. edge x x ((own.own x (let n = own.told in let lt = looped_within looped x e in omega arith)).0 e);
    complete = λ x d. absurd (let e = unseen x in cc);
    behind = λ i l. absurd (omega arith);
  };
}
  where
    unseen : (x : ℕ) → mark_at (replicate (length g) Unseen) x ≡ Unseen
    unseen x = elim (cases_lt x (length g)) [
      | inl lt ↦ get_or-replicate (length g) x Unseen Unseen lt
      | inr ge ↦ get_or_past (replicate (length g) Unseen) x Unseen (let n = length-replicate (length g) Unseen in omega arith)
    ]

-- a path without parts is empty
pub empty_path : (g : List (List ℕ)) (marks : List Mark) (path : List ℕ) (parts : List Part) (pending order : List ℕ)
    (looped : List Bool) → Holds g marks path parts pending order looped → parts ≡ [] → length path ≡ 0
empty_path g marks path parts pending order looped h none = subst
    (λ (ps : List Part). CoverFrom ps (length path)) none h.divided.cover

-- where every node is met and none is open, the order is found
pub ended : (g : List (List ℕ)) (marks : List Mark) (path : List ℕ) (parts : List Part) (pending order : List ℕ)
    (looped : List Bool) → Holds g marks path parts pending order looped → parts ≡ [] →
    ((x : ℕ) → x < length g → mark_at marks x ≡ Unseen → ⊥) → IsOrder g order looped
ended g marks path parts pending order looped h none met = record {
  told = h.found.told;
  nodes = λ i l. let d = (h.found.ordered (get_or order i 0)).1 (at_place order i (get_or order i 0) l refl) in let lt =
      marked_within marks (get_or order i 0) (λ e. cc) in let n = h.found.marked in omega arith;
  all = λ x lt. (h.found.ordered x).0 (done x lt);
  loops = λ x lt. (
    h.found.sound x,
    (λ r.
        (elim (is_looped looped x) as (λ t. is_looped looped x ≡ t → t ≡ true) [
          | true ↦ λ e. refl
          | false ↦ λ e. absurd (h.found.complete x (done x lt) e r)
        ]) refl),
  );
  behind = h.found.behind;
}
  where
    done : (x : ℕ) → x < length g → mark_at marks x ≡ Done
    done x lt = (elim (mark_at marks x) as (λ m. mark_at marks x ≡ m → m ≡ Done) [
      | Unseen ↦ λ e. absurd (met x lt e)
      | Open q ↦ λ e. absurd (let p = (h.placed.placed x q e).0 in let n =
          empty_path g marks path parts pending order looped h none in omega arith)
      | Done ↦ λ e. refl
    ]) refl

-- a last part can be taken off the path
pub can_close : (g : List (List ℕ)) (marks : List Mark) (path : List ℕ) (parts : List Part) (pending order : List ℕ)
    (looped : List Bool) → Holds g marks path parts pending order looped →
    (b : Part) → IsLast parts b → (b.first ≤ length path) × All (λ x. x < length marks) path × (length looped ≡ length marks)
can_close g marks path parts pending order looped h b last = (
  (h.divided.within b (subst (λ (ps : List Part). Contains ps b) (sym last.1) (Contains-push last.0 b))).0,
  All-from_get_or (λ x. x < length marks) path 0
      (λ i l. marked_within marks (get_or path i 0) (λ e. let at = h.placed.marked i l in cc)),
  h.found.told ∙ sym h.found.marked,
)
