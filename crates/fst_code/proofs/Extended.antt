-- Code that stands for a term stands for it also where more is behind.
use Rattle.std.proofs.Common.{◌≡◌, ◌∙◌, ℕ, suc, Bool, true, false, List, [], ◌∷◌, ◌++◌, length, Some, inl, inr, sym, ap, subst, arith}
use Rattle.std.specs.Prelude.{slice_get}
use Rattle.fst_types.specs.declared.family.Family.{Family}
use Rattle.fst_terms.specs.CoreTree.{CoreTree, local, global, int, bool, char, unit, pair, make, lambda, apply, let_in, split, if_else, case_of, operate, negate, new, send, receive, close, wait, select, match_with, fork, seq, CoreList, no_terms, term, CoreArms, no_arms, arm}
use Rattle.fst_terms.specs.declared.binder.Binder.{Binder}
use Rattle.fst_terms.specs.InRange.{HasFields, maker_of, terms_length}
use Rattle.fst_machine.specs.declared.code.Instr.{Instr}
use Rattle.fst_machine.specs.Code.{Compiled, At, Leads, Comes, Captures, Clears, Forgets, Binds, BindsAll, Computes, ComputesAll, ComputesCases, ComputesMatches}
use Rattle.fst_machine.specs.Standing.{LeadsBelow}
use Rattle.fst_code.specs.Written.{Extends, Pushes, top}
use Rattle.fst_code.proofs.Lists.{get_longer, get_last, get_split, length_last}

-- nothing more
pub extends_same : (c d : Compiled) → c.families ≡ d.families → c.code ≡ d.code → c.lambdas ≡ d.lambdas → Extends c d
extends_same c d f e l = record {
  families = f;
  code = λ k a h. subst (λ z. slice_get z k ≡ Some a) e h;
  lambdas = λ k a h. subst (λ z. slice_get z k ≡ Some a) l h;
  longer = omega (arith, ap length e);
  down = λ g i j a h. g i j a (record { place = h.place; there = subst (λ z. slice_get z j ≡ Some a) (sym e) h.there });
}

-- more, and then more
pub extends_both : {b c d : Compiled} → Extends b c → Extends c d → Extends b d
extends_both x y = record {
  families = x.families ∙ y.families;
  code = λ k a h. y.code k a (x.code k a h);
  lambdas = λ k a h. y.lambdas k a (x.lambdas k a h);
  longer = omega arith;
  down = λ g. y.down (x.down g);
}

-- an instruction that was put last
pub pushed : (c d : Compiled) (a : Instr) → LeadsBelow (suc (top c)) a → d.families ≡ c.families → d.code ≡ c.code ++ a ∷ [] →
    d.lambdas ≡ c.lambdas → Pushes c d a
pushed c d a below f e l = record {
  extends = record {
    families = sym f;
    code = λ k b h. subst (λ z. slice_get z k ≡ Some b) (sym e) (get_longer c.code (a ∷ []) k b h);
    lambdas = λ k b h. subst (λ z. slice_get z k ≡ Some b) (sym l) h;
    longer = omega (arith, ap length e, length_last c.code a);
    down = λ g i j b h. elim (get_split c.code a j b (subst (λ z. slice_get z j ≡ Some b) e h.there)) [
      | inl was ↦ g i j b (record { place = h.place; there = was })
      | inr last ↦ subst (λ z. LeadsBelow z b) (sym (h.place ∙ ap suc last.0)) (subst (LeadsBelow (suc (top c))) last.1 below)
    ];
  };
  entries = l;
  there = record {
    place = ap length e ∙ length_last c.code a;
    there = subst (λ z. slice_get z (top c) ≡ Some a) (sym e) (get_last c.code a);
  };
}

pub kept_at : {c d : Compiled} → Extends c d → (i : ℕ) (a : Instr) (j : ℕ) → At c i a j → At d i a j
kept_at x i a j h = record { place = h.place; there = x.code j a h.there }

pub kept_leads : {c d : Compiled} → Extends c d → (i j : ℕ) → Leads c i j → Leads d i j
kept_leads x i j h = record { behind = h.behind; jump = kept_at x _ _ _ h.jump }

pub kept_comes : {c d : Compiled} → Extends c d → (i j : ℕ) → Comes c i j → Comes d i j
kept_comes x i j (inl e) = inl e
kept_comes x i j (inr h) = inr (kept_leads x i j h)

pub kept_captures : {c d : Compiled} → Extends c d →
    (i : ℕ) (ks : List ℕ) (p : ℕ → Bool) (j : ℕ) → Captures c i ks p j → Captures d i ks p j
kept_captures x i [] p j h = h
kept_captures x i (k ∷ ks) p j h = (h.0, kept_at x _ _ _ h.1, kept_captures x h.0 ks p j h.2)

pub kept_clears : {c d : Compiled} → Extends c d → (i : ℕ) (ks : List ℕ) (j : ℕ) → Clears c i ks j → Clears d i ks j
kept_clears x i [] j h = h
kept_clears x i (k ∷ ks) j h = (h.0, h.1, kept_at x _ _ _ h.2, kept_at x _ _ _ h.3, kept_clears x h.1 ks j h.4)

pub kept_forgets : {c d : Compiled} → Extends c d → (i : ℕ) (q f p : ℕ → Bool) (j : ℕ) → Forgets c i q f p j → Forgets d i q f p j
kept_forgets x i q f p j h = record {
  variables = h.variables;
  listed = h.listed;
  last = h.last;
  clears = kept_clears x i h.variables h.last h.clears;
  comes = kept_comes x h.last j h.comes;
}

pub kept_binds : {c d : Compiled} → Extends c d → (i : ℕ) (b : Bool) (j : ℕ) → Binds c i b j → Binds d i b j
kept_binds x i true j h = kept_at x _ _ _ h
kept_binds x i false j h = (h.0, h.1, kept_at x _ _ _ h.2, kept_at x _ _ _ h.3, kept_at x _ _ _ h.4)

pub kept_binds_all : {c d : Compiled} → Extends c d →
    (i : ℕ) (xs : List Binder) (p : ℕ → Bool) (j : ℕ) → BindsAll c i xs p j → BindsAll d i xs p j
kept_binds_all x i [] p j h = h
kept_binds_all x i (y ∷ ys) p j h = (h.0, kept_binds x i (p (length ys)) h.0 h.1, kept_binds_all x h.0 ys p j h.2)

mutual
  pub kept : {c d : Compiled} → Extends c d → (i : ℕ) (e : CoreTree) (p : ℕ → Bool) (j : ℕ) → Computes c i e p j →
      Computes d i e p j
  kept x i (local at k) p j h = kept_at x _ _ _ h
  kept x i (global at g ts) p j h = kept_at x _ _ _ h
  kept x i (int at n) p j h = kept_at x _ _ _ h
  kept x i (bool at b) p j h = kept_at x _ _ _ h
  kept x i (char at n) p j h = kept_at x _ _ _ h
  kept x i (unit at) p j h = kept_at x _ _ _ h
  kept x i (pair at e f) p j h = (h.0, h.1, kept x i e _ h.0 h.2, kept x h.0 f p h.1 h.3, kept_at x _ _ _ h.4)
  kept {c} {d} x i (make at n o es) p j h = (
    h.0,
    subst (λ z. HasFields (maker_of (slice_get z n) o) (terms_length es)) x.families h.1,
    kept_terms x i es p h.0 h.2,
    kept_at x _ _ _ h.3,
  )
  kept x i (lambda at u t y e) p j h = (
    h.0,
    h.1,
    h.2,
    h.3,
    h.4,
    h.5,
    x.lambdas h.0 h.1 h.6,
    h.7,
    kept_captures x i _ p h.2 h.8,
    kept_at x _ _ _ h.9,
    kept_leads x h.3 j h.10,
    kept_binds x _ _ h.4 h.11,
    kept x h.4 e _ h.5 h.12,
    (h.13.0, kept_at x _ _ _ h.13.1),
  )
  kept x i (apply at e f) p j h = (h.0, h.1, kept x i e _ h.0 h.2, kept x h.0 f p h.1 h.3, kept_at x _ _ _ h.4)
  kept x i (let_in at y e f) p j h = (
    h.0,
    h.1,
    h.2,
    kept x i e _ h.0 h.3,
    kept_binds x h.0 _ h.1 h.4,
    kept x h.1 f _ h.2 h.5,
    kept_at x _ _ _ h.6,
  )
  kept x i (split at y z e f) p j h = (
    h.0,
    h.1,
    h.2,
    h.3,
    h.4,
    kept x i e _ h.0 h.5,
    kept_at x _ _ _ h.6,
    kept_binds x h.1 _ h.2 h.7,
    kept_binds x h.2 _ h.3 h.8,
    kept x h.3 f _ h.4 h.9,
    kept_at x _ _ _ h.10,
  )
  kept x i (if_else at e f g) p j h = (
    h.0,
    h.1,
    h.2,
    h.3,
    h.4,
    h.5,
    h.6,
    kept x i e _ h.0 h.7,
    kept_at x _ _ _ h.8,
    kept_forgets x h.1 _ _ p h.2 h.9,
    kept x h.2 f p h.3 h.10,
    kept_comes x h.3 j h.11,
    kept_forgets x h.4 _ _ p h.5 h.12,
    kept x h.5 g p h.6 h.13,
    kept_comes x h.6 j h.14,
  )
  kept x i (case_of at e bs) p j h = (
    h.0,
    h.1,
    h.2,
    h.3,
    h.4,
    kept x i e _ h.0 h.5,
    kept_at x _ _ _ h.6,
    ap (λ z. slice_get z h.3) (sym x.families) ∙ h.7,
    kept_cases x h.4 _ bs _ p j h.8,
  )
  kept x i (operate at o e f) p j h = (h.0, h.1, kept x i e _ h.0 h.2, kept x h.0 f p h.1 h.3, kept_at x _ _ _ h.4)
  kept x i (negate at e) p j h = (h.0, kept x i e p h.0 h.1, kept_at x _ _ _ h.2)
  kept x i (new at t) p j h = kept_at x _ _ _ h
  kept x i (send at e f) p j h = (h.0, h.1, kept x i e _ h.0 h.2, kept x h.0 f p h.1 h.3, kept_at x _ _ _ h.4)
  kept x i (receive at e) p j h = (h.0, kept x i e p h.0 h.1, kept_at x _ _ _ h.2)
  kept x i (close at e) p j h = (h.0, kept x i e p h.0 h.1, kept_at x _ _ _ h.2)
  kept x i (wait at e) p j h = (h.0, kept x i e p h.0 h.1, kept_at x _ _ _ h.2)
  kept x i (select at l e) p j h = (h.0, kept x i e p h.0 h.1, kept_at x _ _ _ h.2)
  kept x i (match_with at e bs) p j h = (h.0, h.1, h.2, kept x i e _ h.0 h.3, kept_at x _ _ _ h.4, kept_matches x _ bs _ p j h.5)
  kept x i (fork at e) p j h = (
    h.0,
    h.1,
    h.2,
    h.3,
    h.4,
    x.lambdas h.0 h.1 h.5,
    h.6,
    kept_captures x i _ p h.2 h.7,
    kept_at x _ _ _ h.8,
    kept_leads x h.3 j h.9,
    kept x _ e _ h.4 h.10,
    (h.11.0, kept_at x _ _ _ h.11.1),
  )
  kept x i (seq at e f) p j h = (h.0, h.1, kept x i e _ h.0 h.2, kept_at x _ _ _ h.3, kept x h.1 f p j h.4)

  pub kept_terms : {c d : Compiled} → Extends c d →
      (i : ℕ) (es : CoreList) (p : ℕ → Bool) (j : ℕ) → ComputesAll c i es p j → ComputesAll d i es p j
  kept_terms x i no_terms p j h = h
  kept_terms x i (term e es) p j h = (h.0, kept x i e _ h.0 h.1, kept_terms x h.0 es p j h.2)

  pub kept_cases : {c d : Compiled} → Extends c d →
      (f : Family) (places : List ℕ) (bs : CoreArms) (q p : ℕ → Bool) (j : ℕ) → ComputesCases c f places bs q p j →
      ComputesCases d f places bs q p j
  kept_cases x f places no_arms q p j h = h
  kept_cases x f places (arm l xs e bs) q p j h = (
    h.0,
    h.1,
    h.2,
    h.3,
    h.4,
    h.5,
    h.6,
    h.7,
    kept_forgets x h.1 q _ p h.2 h.8,
    kept_binds_all x h.2 xs _ h.3 h.9,
    kept x h.3 e _ h.4 h.10,
    kept_at x _ _ _ h.11,
    kept_comes x h.5 j h.12,
    kept_cases x f places bs q p j h.13,
  )

  pub kept_matches : {c d : Compiled} → Extends c d →
      (places : List (List ℕ × ℕ)) (bs : CoreArms) (q p : ℕ → Bool) (j : ℕ) → ComputesMatches c places bs q p j →
      ComputesMatches d places bs q p j
  kept_matches x [] no_arms q p j h = h
  kept_matches x (o ∷ os) no_arms q p j h = h
  kept_matches x [] (arm l xs e bs) q p j h = h
  kept_matches x (o ∷ os) (arm l xs e bs) q p j h = (
    h.0,
    h.1,
    h.2,
    h.3,
    h.4,
    h.5,
    kept_forgets x o.1 q _ p h.0 h.6,
    kept_binds x h.0 _ h.1 h.7,
    kept x h.1 e _ h.2 h.8,
    kept_at x _ _ _ h.9,
    kept_comes x h.3 j h.10,
    kept_matches x os bs q p j h.11,
  )
