-- The code of arms, one after the other.
use Rattle.std.proofs.Common.{◌≡◌, ◌∙◌, ◌<◌, ◌≤◌, ◌+◌, ◌++◌, ◌||◌, get_or, take, ℕ, suc, zero, Bool, true, false, List, [], ◌∷◌, length, refl, sym, ap, subst, arith}
use Rattle.std.proofs.Math.Path.{fun_ext}
use Rattle.std.proofs.lemmas.List.{take_more}
use Rattle.fst_terms.specs.CoreCount.{core_arms_count}
use Rattle.fst_terms.specs.ModelCoreView.{core_arms_of}
use Rattle.fst_terms.specs.declared.core_term.Arm.{Arm}
use Rattle.fst_machine.specs.declared.code.Instr.TheVariants as instr
use Rattle.fst_machine.specs.Free.{free, free_below, outside_all}
use Rattle.fst_machine.specs.Code.{BindsAll, Compiled, Forgets, also, within_all}
use Rattle.fst_code.specs.declared.codes.ArmCode.{ArmCode}
use Rattle.fst_code.specs.Marks.{marked}
use Rattle.fst_code.specs.Arms.{AllDeep, AllForget, AllRun, AllWithin, AreAtMost, AreWritten, IsWritten, RunsArm, WritesArms, marks_of}
use Rattle.fst_code.specs.Written.{ComesTo, Extends, Pushes, WritesUnder, top}
use Rattle.fst_code.proofs.Extended.{extends_both, kept, kept_at, kept_binds_all, kept_comes, kept_forgets}
use Rattle.fst_code.proofs.FormLaws.{also_both}

-- ---- one arm

pub arm_written : (c c1 c2 d : Compiled) (ms : List Bool) (j : ℕ) (b : Arm) (a : ArmCode) → ComesTo c c1 j →
    Pushes c1 c2 (instr.Unbind (length b.binders.items)) →
    WritesUnder c2 ms d a.marks.items b.binders.items b.body → a.start ≡ top d → IsWritten d ms j b a
arm_written c c1 c2 d ms j b a to p w e = record {
  runs = record {
    behind = w.behind;
    last = top c2;
    next = top c1;
    binds = subst (λ i. BindsAll d i b.binders.items (free b.body) w.behind) (sym e) w.binds;
    computes = λ g k s r. w.computes g k (s ∙ sym w.extends.families) r;
    unbinds = kept_at w.extends (top c2) (instr.Unbind (length b.binders.items)) (top c1) p.there;
    comes = kept_comes (extends_both p.extends w.extends) (top c1) j to.there;
  };
  within = omega (arith, e);
  marks = w.marks;
  deep = w.deep;
}

kept_runs : {c d : Compiled} → Extends c d → (i : ℕ) (b : Arm) (p : ℕ → Bool) (j : ℕ) → RunsArm c i b p j → RunsArm d i b p j
kept_runs x i b p j h = record {
  behind = h.behind;
  last = h.last;
  next = h.next;
  binds = kept_binds_all x i b.binders.items (free b.body) h.behind h.binds;
  computes = λ g k s r. kept x h.behind b.body (within_all b.binders.items p) h.last (h.computes g k (s ∙ sym x.families) r);
  unbinds = kept_at x h.last (instr.Unbind (length b.binders.items)) h.next h.unbinds;
  comes = kept_comes x h.next j h.comes;
}

pub kept_written : {c d : Compiled} → Extends c d →
    (ms : List Bool) (j : ℕ) (bs : List Arm) (cs : List ArmCode) → AreWritten c ms j bs cs → AreWritten d ms j bs cs
kept_written x ms j [] [] h = h
kept_written x ms j [] (a ∷ cs) h = h
kept_written x ms j (b ∷ bs) [] h = h
kept_written x ms j (b ∷ bs) (a ∷ cs) h = (
  record {
    runs = kept_runs x a.start b (marked ms) j h.0.runs;
    within = omega (arith, h.0.within, x.longer);
    marks =
        h.0.marks;
    deep = h.0.deep;
  },
  kept_written x ms j bs cs h.1,
)

-- one more arm
pub written_more : (d : Compiled) (ms : List Bool) (j : ℕ) (bs : List Arm) (cs : List ArmCode) (b : Arm) (a : ArmCode) →
    AreWritten d ms j bs cs → IsWritten d ms j b a →
    AreWritten d ms j (bs ++ b ∷ []) (cs ++ a ∷ [])
written_more d ms j [] [] b a h one = (one, tt)
written_more d ms j [] (x ∷ cs) b a h one = absurd h
written_more d ms j (y ∷ bs) [] b a h one = absurd h
written_more d ms j (y ∷ bs) (x ∷ cs) b a h one = (h.0, written_more d ms j bs cs b a h.1 one)

pub written_deep : (d : Compiled) (ms : List Bool) (j : ℕ) (bs : List Arm) (cs : List ArmCode) → AreWritten d ms j bs cs →
    AllDeep (length ms) cs
written_deep d ms j [] [] h k a at = absurd (cc at)
written_deep d ms j [] (x ∷ cs) h k a at = absurd h
written_deep d ms j (b ∷ bs) [] h k a at = absurd h
written_deep d ms j (b ∷ bs) (x ∷ cs) h zero a at = let same : x ≡ a = cc at in ap
    (λ (z : ArmCode). length z.marks.items) (sym same) ∙ h.0.deep
written_deep d ms j (b ∷ bs) (x ∷ cs) h (suc k) a at = written_deep d ms j bs cs h.1 k a at

pub written_within : (d : Compiled) (ms : List Bool) (j : ℕ) (bs : List Arm) (cs : List ArmCode) → AreWritten d ms j bs cs →
    AllWithin (top d) cs
written_within d ms j [] [] h k a at = absurd (cc at)
written_within d ms j [] (x ∷ cs) h k a at = absurd h
written_within d ms j (b ∷ bs) [] h k a at = absurd h
written_within d ms j (b ∷ bs) (x ∷ cs) h zero a at = let same : x ≡ a = cc at in subst
    (λ (z : ArmCode). z.start ≤ top d) same h.0.within
written_within d ms j (b ∷ bs) (x ∷ cs) h (suc k) a at = written_within d ms j bs cs h.1 k a at

-- ---- what arms use

union : (o m r f : Bool) → (r || m) ≡ (f || m) → (((o || m) || r) || m) ≡ ((o || f) || m)
union true m r f h = refl
union false true r true h = refl
union false true r false h = refl
union false false r f h = h

pub written_marks : (d : Compiled) (ms : List Bool) (j : ℕ) (bs : List Arm) (cs : List ArmCode) → AreWritten d ms j bs cs →
    also (marks_of cs) (marked ms) ≡ also (free_below (core_arms_of bs)) (marked ms)
written_marks d ms j bs cs h = fun_ext (go bs cs h)
  where
    go : (bs : List Arm) (cs : List ArmCode) → AreWritten d ms j bs cs → (k : ℕ) →
        (marks_of cs k || marked ms k) ≡ (free_below (core_arms_of bs) k || marked ms k)
    go [] [] h k = refl
    go [] (a ∷ cs) h k = absurd h
    go (b ∷ bs) [] h k = absurd h
    go (b ∷ bs) (a ∷ cs) h k =
        ap (λ z. (z k || marks_of cs k) || marked ms k) h.0.marks
        ∙ union (outside_all b.binders.items (free b.body) k) (marked ms k) (marks_of cs k) (free_below (core_arms_of bs) k)
        (go bs cs h.1 k)

pub marks_more : (a : ArmCode) (cs : List ArmCode) (p m n : ℕ → Bool) → m ≡ also (marks_of cs) p →
    n ≡ also (marked a.marks.items) m → n ≡ also (marks_of (a ∷ cs)) p
marks_more a cs p m n h e = e ∙ ap (also (marked a.marks.items)) h ∙ also_both (marked a.marks.items) (marks_of cs) p

-- ---- where arms start

pub kept_forget : {c d : Compiled} → Extends c d →
    (q p : ℕ → Bool) (cs : List ArmCode) (is : List ℕ) → AllForget c q p cs is → AllForget d q p cs is
kept_forget x q p [] [] h = h
kept_forget x q p [] (i ∷ is) h = h
kept_forget x q p (a ∷ cs) [] h = h
kept_forget x q p (a ∷ cs) (i ∷ is) h = (λ f e. kept_forgets x i q f p a.start (h.0 f e), kept_forget x q p cs is h.1)

pub forget_more : (d : Compiled) (q p : ℕ → Bool) (cs : List ArmCode) (is : List ℕ) (a : ArmCode) (i : ℕ) →
    AllForget d q p cs is →
    ((f : ℕ → Bool) → marked a.marks.items ≡ also f p → Forgets d i q f p a.start) → AllForget d q p (cs ++ a ∷ []) (is ++ i ∷ [])
forget_more d q p [] [] a i h one = (one, tt)
forget_more d q p [] (x ∷ is) a i h one = absurd h
forget_more d q p (y ∷ cs) [] a i h one = absurd h
forget_more d q p (y ∷ cs) (x ∷ is) a i h one = (h.0, forget_more d q p cs is a i h.1 one)

-- arms that are written run from where they start
pub all_run : (d : Compiled) (ms : List Bool) (j : ℕ) (q : ℕ → Bool) (bs : List Arm) (cs : List ArmCode) (is : List ℕ) →
    AreWritten d ms j bs cs → AllForget d q (marked ms) cs is →
    AllRun d q (marked ms) bs is j
all_run d ms j q [] [] [] h f = tt
all_run d ms j q [] [] (i ∷ is) h f = absurd f
all_run d ms j q [] (a ∷ cs) is h f = absurd h
all_run d ms j q (b ∷ bs) [] is h f = absurd h
all_run d ms j q (b ∷ bs) (a ∷ cs) [] h f = absurd f
all_run d ms j q (b ∷ bs) (a ∷ cs) (i ∷ is) h f = (
  record { start = a.start; forgets = f.0 (outside_all b.binders.items (free b.body)) h.0.marks; runs = h.0.runs },
  all_run d ms j q bs cs is h.1 f.1,
)

pub kept_run : {c d : Compiled} → Extends c d →
    (q p : ℕ → Bool) (bs : List Arm) (is : List ℕ) (j : ℕ) → AllRun c q p bs is j → AllRun d q p bs is j
kept_run x q p [] [] j h = h
kept_run x q p [] (i ∷ is) j h = h
kept_run x q p (b ∷ bs) [] j h = h
kept_run x q p (b ∷ bs) (i ∷ is) j h = (
  record {
    start = h.0.start;
    forgets = kept_forgets x i q (outside_all b.binders.items (free b.body)) p h.0.start h.0.forgets;
    runs = kept_runs x h.0.start b p j h.0.runs;
  },
  kept_run x q p bs
      is j h.1,
)

pub run_length : (d : Compiled) (q p : ℕ → Bool) (bs : List Arm) (is : List ℕ) (j : ℕ) → AllRun d q p bs is j →
    length is ≡ length bs
run_length d q p [] [] j h = refl
run_length d q p [] (i ∷ is) j h = absurd h
run_length d q p (b ∷ bs) [] j h = absurd h
run_length d q p (b ∷ bs) (i ∷ is) j h = ap suc (run_length d q p bs is j h.1)

-- ---- places

pub at_most_more : (n m : ℕ) (is : List ℕ) (i : ℕ) → AreAtMost n is → n ≤ m → i ≤ m → AreAtMost m (is ++ i ∷ [])
at_most_more n m [] i h l here zero k at = let same : i ≡ k = cc at in omega (arith, same, here)
at_most_more n m [] i h l here (suc o) k at = absurd (cc at)
at_most_more n m (x ∷ is) i h l here zero k at = let low = h zero k at in omega (arith, low, l)
at_most_more n m (x ∷ is) i h l here (suc o) k at = at_most_more n m is i (λ p. h (suc p)) l here o k at

pub at_most_none : (n : ℕ) → AreAtMost n []
at_most_none n k i at = absurd (cc at)

-- the first elements with one more
pub take_next : {X : Type 0} (xs : List X) (i : ℕ) (x : X) → i < length xs → x ≡ get_or xs i x →
    take (i + 1) xs ≡ take i xs ++ x ∷ []
take_next xs i x lt e = take_more xs i x lt ∙ ap (λ y. take i xs ++ y ∷ []) (sym e)

-- ---- all arms

pub arms_from : (c m d : Compiled) (ms ns : List Bool) (bs : List Arm) (cs : List ArmCode) (is : List ℕ) → Extends c m →
    length m.lambdas ≤ length c.lambdas + core_arms_count (core_arms_of bs) → AreWritten m ms (top c) bs cs →
    marked ns ≡ also (marks_of cs) (marked ms) → length ns ≡ length ms → Extends m d → d.lambdas ≡ m.lambdas →
    ((q : ℕ → Bool) → marked ns ≡ also q (marked ms) → AllForget d q (marked ms) cs is) →
    AreAtMost (top d) is → WritesArms c ms d ns bs is
arms_from c m d ms ns bs cs is x few w e l y same f a = record {
  extends = extends_both x y;
  entries = omega (arith, few, ap length same);
  run = all_run d ms (top c) (free_below (core_arms_of bs)) bs cs is (kept_written y ms (top c) bs cs w)
      (f (free_below (core_arms_of bs)) union_is);
  within = a;
  marks = union_is;
  deep = l;
}
  where
    union_is : marked ns ≡ also (free_below (core_arms_of bs)) (marked ms)
    union_is = e ∙ written_marks m ms (top c) bs cs w
