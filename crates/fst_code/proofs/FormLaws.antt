-- The code of each form of term, from that of its parts.
use Rattle.std.proofs.Common.{◌≡◌, ◌∙◌, ◌≤◌, ◌+◌, ℕ, suc, zero, Bool, true, false, List, [], ◌∷◌, length, inl, refl, sym, ap, subst, arith}
use Rattle.std.specs.Prelude.{◌||◌, slice_get}
use Rattle.std.proofs.Math.Path.{fun_ext}
use Rattle.fst_types.specs.declared.kind.Use.{Use}
use Rattle.fst_terms.specs.declared.binder.Binder.{Binder}
use Rattle.fst_terms.specs.declared.term.Op.{Op}
use Rattle.fst_terms.specs.CoreCount.{core_count}
use Rattle.fst_terms.specs.CoreTree.{CoreTree, local, global, int, bool, char, unit, pair, make, lambda, apply, let_in, split, if_else, operate, negate, new, send, receive, close, wait, select, fork, seq, CoreList, no_terms, term}
use Rattle.fst_terms.specs.InRange.{Bounds, HasFields, maker_of, terms_length}
use Rattle.fst_machine.specs.declared.code.Instr.{Instr}
use Rattle.fst_machine.specs.declared.code.Instr.TheVariants as instr
use Rattle.fst_machine.specs.Free.{free, free_in, is, outside}
use Rattle.fst_machine.specs.Machine.{in_either}
use Rattle.fst_machine.specs.Code.{Compiled, At, Binds, Computes, also, load, no_variables, within}
use Rattle.fst_code.specs.Marks.{marked}
use Rattle.fst_code.specs.Whole.{IsReady}
use Rattle.fst_code.specs.Written.{Closes, ComesTo, Extends, Forgot, Leaves, Pushes, Writes, WritesAll, WritesBehind, WritesUnder, top}
use Rattle.fst_code.proofs.Extended.{extends_both, extends_same, kept, kept_at, kept_binds, kept_comes, kept_forgets, kept_terms}
use Rattle.fst_code.proofs.ListsLaws.{or_all, or_none}

-- sets one after the other
pub also_both : (q r p : ℕ → Bool) → also q (also r p) ≡ also (also q r) p
also_both q r p = fun_ext (λ k. sym (or_all (q k) (r k) (p k)))

-- a term without parts and variables
pub leaf_written : (c d : Compiled) (ms : List Bool) (e : CoreTree) → Extends c d → d.lambdas ≡ c.lambdas →
    Computes d (top d) e (marked ms) (top c) → ((k : ℕ) → free e k ≡ false) → Writes c ms d ms e
leaf_written c d ms e x same h none = record {
  extends = x;
  entries = omega (arith, ap length same);
  computes = λ b k s r. h;
  marks = fun_ext (λ k. ap (λ z. z || marked ms k) (sym (none k)));
  deep = refl;
}

pub global_written : (c d : Compiled) (ms : List Bool) (at g : ℕ) (ts : List ℕ) → Pushes c d (instr.Global g) →
    Writes c ms d ms (global at g ts)
global_written c d ms at g ts h = leaf_written c d ms (global at g ts) h.extends h.entries h.there (λ k. refl)

pub int_written : {c d : Compiled} (ms : List Bool) (at : ℕ) (n : _) → Pushes c d (instr.Int n) → Writes c ms d ms (int at n)
int_written {c} {d} ms at n h = leaf_written c d ms (int at n) h.extends h.entries h.there (λ k. refl)

pub bool_written : (c d : Compiled) (ms : List Bool) (at : ℕ) (b : Bool) → Pushes c d (instr.Bool b) →
    Writes c ms d ms (bool at b)
bool_written c d ms at b h = leaf_written c d ms (bool at b) h.extends h.entries h.there (λ k. refl)

pub char_written : (c d : Compiled) (ms : List Bool) (at n : ℕ) → Pushes c d (instr.Char n) → Writes c ms d ms (char at n)
char_written c d ms at n h = leaf_written c d ms (char at n) h.extends h.entries h.there (λ k. refl)

pub unit_written : (c d : Compiled) (ms : List Bool) (at : ℕ) → Pushes c d instr.Unit → Writes c ms d ms (unit at)
unit_written c d ms at h = leaf_written c d ms (unit at) h.extends h.entries h.there (λ k. refl)

pub new_written : (c d : Compiled) (ms : List Bool) (at t : ℕ) → Pushes c d (instr.New t) → Writes c ms d ms (new at t)
new_written c d ms at t h = leaf_written c d ms (new at t) h.extends h.entries h.there (λ k. refl)

pub local_written : (c d : Compiled) (ms ns : List Bool) (at k : ℕ) → Pushes c d (load (marked ms k) k) →
    marked ns ≡ also (is k) (marked ms) → length ns ≡ length ms → Writes c ms d ns (local at k)
local_written c d ms ns at k h e l = record {
  extends = h.extends;
  entries = omega (arith, ap length h.entries);
  computes = λ b n s r. h.there;
  marks = e;
  deep = l;
}

-- ---- first parts that are left to be written

-- what is needed to write the rest
pub left_from : (c d : Compiled) (ms ns : List Bool) (t e : CoreTree) (r : ℕ → Bool) → Extends c d →
    marked ns ≡ also r (marked ms) → length ns ≡ length ms → ((k : ℕ) → free t k ≡ (free e k || r k)) →
    ((b : Bounds) (k : ℕ) → IsReady b k t → IsReady b k e) → length d.lambdas + core_count e ≤ length c.lambdas + core_count t →
    ((a : Compiled) → Extends d a → (b : Bounds) (k : ℕ) → b.families ≡ c.families → IsReady b k t →
    Computes a (top a) e (also r (marked ms)) (top d) → Computes a (top a) t (marked ms)
    (top c)) → Leaves c ms d ns t e
left_from c d ms ns t e r x m l f part few h = record {
  rest = λ b ls w. record {
    extends = extends_both x w.extends;
    entries = omega (arith, w.entries, few);
    computes = λ g k s y. h b w.extends g k s y (subst
        (λ z. Computes b (top b) e z (top d)) m (w.computes g k (s ∙ x.families) (part g k y)));
    marks = w.marks ∙ ap (also (free e)) m ∙ also_both (free e) r (marked ms) ∙ fun_ext
        (λ k. ap (λ z. z || marked ms k) (sym (f k)));
    deep = w.deep ∙ l;
  };
  part = part;
  entries = few;
  deep = l;
}

-- nothing but an instruction comes behind
pub one_left : (c d : Compiled) (ms : List Bool) (t e : CoreTree) (a : Instr) → Pushes c d a → ((k : ℕ) → free t k ≡ free e k) →
    ((b : Bounds) (k : ℕ) → IsReady b k t → IsReady b k e) → core_count e ≤ core_count t →
    ((b : Compiled) → Computes b (top b) e (marked ms) (top d) → At b (top d) a (top c) →
    Computes b (top b) t (marked ms) (top c)) → Leaves c ms d ms t e
one_left c d ms t e a p f part fewer h = record {
  rest = λ b ls w. record {
    extends = extends_both p.extends w.extends;
    entries = omega (arith, w.entries, fewer, ap length p.entries);
    computes = λ g k s y. h b (w.computes g k (s ∙ p.extends.families) (part g k y))
        (kept_at w.extends (top d) a (top c) p.there);
    marks = w.marks ∙ fun_ext (λ k. ap (λ z. z || marked ms k) (sym (f k)));
    deep = w.deep;
  };
  part = part;
  entries = omega (arith, fewer, ap length p.entries);
  deep = refl;
}

pub negate_left : (c d : Compiled) (ms : List Bool) (at : ℕ) (e : CoreTree) → Pushes c d instr.Not →
    Leaves c ms d ms (negate at e) e
negate_left c d ms at e h = one_left c d ms (negate at e) e instr.Not h (λ k. refl)
    (λ b k r. record { range = r.range; whole = r.whole }) (omega arith) (λ b w a. (top d, w, a))

pub receive_left : (c d : Compiled) (ms : List Bool) (at : ℕ) (e : CoreTree) → Pushes c d instr.Receive →
    Leaves c ms d ms (receive at e) e
receive_left c d ms at e h = one_left c d ms (receive at e) e instr.Receive h (λ k. refl)
    (λ b k r. record { range = r.range; whole = r.whole }) (omega arith) (λ b w a. (top d, w, a))

pub close_left : (c d : Compiled) (ms : List Bool) (at : ℕ) (e : CoreTree) → Pushes c d instr.Close →
    Leaves c ms d ms (close at e) e
close_left c d ms at e h = one_left c d ms (close at e) e instr.Close h (λ k. refl)
    (λ b k r. record { range = r.range; whole = r.whole }) (omega arith) (λ b w a. (top d, w, a))

pub wait_left : (c d : Compiled) (ms : List Bool) (at : ℕ) (e : CoreTree) → Pushes c d instr.Wait →
    Leaves c ms d ms (wait at e) e
wait_left c d ms at e h = one_left c d ms (wait at e) e instr.Wait h (λ k. refl)
    (λ b k r. record { range = r.range; whole = r.whole }) (omega arith) (λ b w a. (top d, w, a))

pub select_left : (c d : Compiled) (ms : List Bool) (at : ℕ) (l : List ℕ) (e : CoreTree) → Pushes c d (instr.Select l) →
    Leaves c ms d ms (select at l e) e
select_left c d ms at l e h = one_left c d ms (select at l e) e (instr.Select l) h (λ k. refl)
    (λ b k r. record { range = r.range; whole = r.whole }) (omega arith) (λ b w a. (top d, w, a))

-- a second part and an instruction come behind
pub behind_from : (c m d : Compiled) (ms ns : List Bool) (a : Instr) (f : CoreTree) → Pushes c m a → Writes m ms d ns f →
    WritesBehind c ms d ns a f
behind_from c m d ms ns a f p w = record {
  extends = extends_both p.extends w.extends;
  entries = omega (arith, w.entries, ap length p.entries);
  behind = top m;
  computes = λ b k s r. w.computes b k (s ∙ p.extends.families) r;
  there = kept_at w.extends (top m) a (top c) p.there;
  marks = w.marks;
  deep = w.deep;
}

two_left : (c d : Compiled) (ms ns : List Bool) (t e f : CoreTree) (a : Instr) → WritesBehind c ms d ns a f →
    ((k : ℕ) → free t k ≡ (free e k || free f k)) →
    ((b : Bounds) (k : ℕ) → IsReady b k t → IsReady b k e) → ((b : Bounds) (k : ℕ) → IsReady b k t → IsReady b k f) →
    core_count e + core_count f ≤ core_count t →
    ((b : Compiled) (n : ℕ) → Computes b (top b) e (also (free f) (marked ms)) (top d) → Computes b (top d) f (marked ms) n →
    At b n a (top c) → Computes b (top b) t (marked ms) (top c)) → Leaves
    c ms d ns t e
two_left c d ms ns t e f a w g one two few h = left_from c d ms ns t e (free f) w.extends w.marks w.deep g one
    (omega (arith, w.entries, few))
    (λ b x l k s r v. h b w.behind v (kept x (top d) f (marked ms) w.behind (w.computes l k s (two l k r)))
    (kept_at x w.behind a (top c) w.there))

pub pair_left : (c d : Compiled) (ms ns : List Bool) (at : ℕ) (e f : CoreTree) → WritesBehind c ms d ns instr.Pair f →
    Leaves c ms d ns (pair at e f) e
pair_left c d ms ns at e f h = two_left c d ms ns (pair at e f) e f instr.Pair h (λ k. refl)
    (λ b k r. record { range = r.range.0; whole = r.whole.0 })
    (λ b k r. record { range = r.range.1; whole = r.whole.1 }) (omega arith) (λ b n v w a. (top d, n, v, w, a))

pub apply_left : (c d : Compiled) (ms ns : List Bool) (at : ℕ) (e f : CoreTree) → WritesBehind c ms d ns instr.Call f →
    Leaves c ms d ns (apply at e f) e
apply_left c d ms ns at e f h = two_left c d ms ns (apply at e f) e f instr.Call h (λ k. refl)
    (λ b k r. record { range = r.range.0; whole = r.whole.0 })
    (λ b k r. record { range = r.range.1; whole = r.whole.1 }) (omega arith) (λ b n v w a. (top d, n, v, w, a))

pub operate_left : (c d : Compiled) (ms ns : List Bool) (at : ℕ) (o : Op) (e f : CoreTree) →
    WritesBehind c ms d ns (instr.Operate o) f → Leaves c ms d ns (operate at o e f) e
operate_left c d ms ns at o e f h = two_left c d ms ns (operate at o e f) e f (instr.Operate o) h (λ k. refl)
    (λ b k r. record { range = r.range.0; whole = r.whole.0 })
    (λ b k r. record { range = r.range.1; whole = r.whole.1 }) (omega arith) (λ b n v w a. (top d, n, v, w, a))

pub send_left : (c d : Compiled) (ms ns : List Bool) (at : ℕ) (e f : CoreTree) → WritesBehind c ms d ns instr.Send f →
    Leaves c ms d ns (send at e f) e
send_left c d ms ns at e f h = two_left c d ms ns (send at e f) e f instr.Send h (λ k. refl)
    (λ b k r. record { range = r.range.0; whole = r.whole.0 })
    (λ b k r. record { range = r.range.1; whole = r.whole.1 }) (omega arith) (λ b n v w a. (top d, n, v, w, a))

pub seq_left : (c m d : Compiled) (ms ns : List Bool) (at : ℕ) (e f : CoreTree) → Writes c ms m ns f → Pushes m d instr.Drop →
    Leaves c ms d ns (seq at e f) e
seq_left c m d ms ns at e f w p = left_from c d ms ns (seq at e f) e (free f) (extends_both w.extends p.extends) w.marks w.deep
    (λ k. refl)
    (λ b k r. record { range = r.range.0; whole = r.whole.0 }) (omega (arith, w.entries, ap length p.entries))
    (λ b x l k s r v. (
      top d,
      top m,
      v,
      kept_at x (top d) instr.Drop (top m) p.there,
      kept (extends_both p.extends x) (top m) f (marked ms) (top c)
          (w.computes l k s (record { range = r.range.1; whole = r.whole.1 })),
    ))

-- a body under one binder comes behind
pub let_left : (c m d : Compiled) (ms ns : List Bool) (at : ℕ) (x : Binder) (e f : CoreTree) → Pushes c m (instr.Unbind 1) →
    WritesUnder m ms d ns (x ∷ []) f → Leaves c ms d ns (let_in at x e f) e
let_left c m d ms ns at x e f p w = left_from c d ms ns (let_in at x e f) e (outside (free f))
    (extends_both p.extends w.extends) w.marks w.deep (λ k. refl)
    (λ b k r. record { range = r.range.0; whole = r.whole.0 }) (omega (arith, w.entries, ap length p.entries))
    (λ b y l k s r v. (
      top d,
      w.behind,
      top m,
      v,
      kept_binds y (top d) (free f zero) w.behind (subst (λ z. Binds d (top d) (free f zero) z) w.binds.2 w.binds.1),
      kept y w.behind f (within (marked ms)) (top m)
          (w.computes l (suc k) (s ∙ p.extends.families) (record { range = r.range.1; whole = r.whole.1 })),
      kept_at (extends_both w.extends y) (top m) (instr.Unbind 1) (top c) p.there,
    ))

-- a body under two binders comes behind
pub split_left : (c m n d : Compiled) (ms ns : List Bool) (at : ℕ) (x y : Binder) (e f : CoreTree) → Pushes c m (instr.Unbind 2) →
    WritesUnder m ms n ns (x ∷ y ∷ []) f → Pushes n d instr.Split →
    Leaves c ms d ns (split at x y e f) e
split_left c m n d ms ns at x y e f p w s = left_from c d ms ns (split at x y e f) e (outside (outside (free f)))
    (extends_both p.extends (extends_both w.extends s.extends)) w.marks w.deep (λ k. refl)
    (λ b k r. record { range = r.range.0; whole = r.whole.0 })
    (omega (arith, w.entries, ap length p.entries, ap length s.entries))
    (λ b z l k g r v. let more = extends_both s.extends z in (
      top d,
      top n,
      w.binds.0,
      w.behind,
      top m,
      v,
      kept_at z (top d) instr.Split (top n) s.there,
      kept_binds more (top n) (free f (suc zero)) w.binds.0 w.binds.1,
      kept_binds more w.binds.0 (free f zero) w.behind (subst (λ i. Binds n w.binds.0 (free f zero) i) w.binds.2.2 w.binds.2.1),
      kept more w.behind f (within (within (marked ms))) (top m)
          (w.computes l (suc (suc k)) (g ∙ p.extends.families) (record { range = r.range.1; whole = r.whole.1 })),
      kept_at (extends_both w.extends more) (top m) (instr.Unbind 2) (top c) p.there,
    ))

-- ---- functions and tasks

pub fork_written : (c m k d : Compiled) (ms us vs ns : List Bool) (at : ℕ) (e : CoreTree) → Pushes c m instr.Return →
    marked us ≡ no_variables → Writes m us k vs e →
    Closes k ms d ns true (top k) (marked vs) (top c) → Writes c ms d ns (fork at e)
fork_written c m k d ms us vs ns at e p none w x = record {
  extends = extends_both p.extends (extends_both w.extends x.extends);
  entries = omega (arith, w.entries, x.entries, ap length p.entries);
  computes = λ b l s r. (
    x.number,
    x.entry,
    x.above,
    x.behind,
    top m,
    x.there,
    record { members = λ n. x.lists.members n ∙ ap (λ z. z n) used; apart = x.lists.apart },
    x.captures,
    x.makes,
    x.leads,
    subst (λ i. Computes d i e no_variables (top m)) (sym x.starts) (kept x.extends (top k) e no_variables (top m)
        (subst (λ z. Computes k (top k) e z (top m)) none
        (w.computes b l (s ∙ p.extends.families) (record { range = r.range; whole = r.whole })))),
    (top c, kept_at (extends_both w.extends x.extends) (top m) instr.Return (top c) p.there),
  );
  marks = x.marks ∙ ap (λ z. also z (marked ms)) used;
  deep = x.deep;
}
  where
    used : marked vs ≡ free e
    used = w.marks ∙ ap (also (free e)) none ∙ fun_ext (λ n. or_none (free e n))

pub lambda_written : (c m k d : Compiled) (ms us vs ns : List Bool) (at : ℕ) (u : Use) (t : ℕ) (y : Binder) (e : CoreTree) →
    Pushes c m instr.Return → marked us ≡ no_variables →
    WritesUnder m us k vs (y ∷ []) e → within no_variables ≡ no_variables → Closes k ms d ns false (top k) (marked vs) (top c) →
    Writes c ms d ns (lambda at u t y e)
lambda_written c m k d ms us vs ns at u t y e p none w inner x = record {
  extends = extends_both p.extends (extends_both w.extends x.extends);
  entries = omega (arith, w.entries, x.entries, ap length p.entries);
  computes = λ b l s r. (
    x.number,
    x.entry,
    x.above,
    x.behind,
    w.behind,
    top m,
    x.there,
    record { members = λ n. x.lists.members n ∙ ap (λ z. z n) used; apart = x.lists.apart },
    x.captures,
    x.makes,
    x.leads,
    subst (λ i. Binds d i (free e zero) w.behind) (sym x.starts)
        (kept_binds x.extends (top k) (free e zero) w.behind (subst (λ z. Binds k (top k) (free e zero) z) w.binds.2 w.binds.1)),
    kept x.extends w.behind e no_variables (top m) (subst (λ z. Computes k w.behind e z (top m)) (ap within none ∙ inner)
        (w.computes b (suc l) (s ∙ p.extends.families) (record { range = r.range.1; whole = r.whole }))),
    (top c, kept_at (extends_both w.extends x.extends) (top m) instr.Return (top c) p.there),
  );
  marks = x.marks ∙ ap (λ z. also z (marked ms)) used;
  deep = x.deep;
}
  where
    used : marked vs ≡ outside (free e)
    used = w.marks ∙ ap (also (outside (free e))) none ∙ fun_ext (λ n. or_none (free e (suc n)))

-- ---- several terms

pub all_none : (c : Compiled) (ms : List Bool) → WritesAll c ms c ms no_terms
all_none c ms = record {
  extends = extends_same c c refl refl refl;
  entries = omega arith;
  computes =
      λ b k s r. refl;
  marks = fun_ext (λ k. refl);
  deep = refl;
}

pub all_more : (c m d : Compiled) (ms ls ns : List Bool) (e : CoreTree) (es : CoreList) → WritesAll c ms m ls es →
    Writes m ls d ns e → WritesAll c ms d ns (term e es)
all_more c m d ms ls ns e es a w = record {
  extends = extends_both a.extends w.extends;
  entries = omega (arith, a.entries, w.entries);
  computes = λ b k s r. (
    top m,
    subst (λ z. Computes d (top d) e z (top m)) a.marks
        (w.computes b k (s ∙ a.extends.families) (record { range = r.range.0; whole = r.whole.0 })),
    kept_terms w.extends (top m) es (marked ms) (top c) (a.computes b k s (record { range = r.range.1; whole = r.whole.1 })),
  );
  marks = w.marks ∙ ap (also (free e)) a.marks ∙ also_both (free e) (free_in es) (marked ms);
  deep = w.deep ∙ a.deep;
}

pub make_written : (c m d : Compiled) (ms ns : List Bool) (at n o : ℕ) (es : CoreList) →
    Pushes c m (instr.Make n o (terms_length es)) → WritesAll m ms d ns es → Writes c ms d ns (make at n o es)
make_written c m d ms ns at n o es p w = record {
  extends = extends_both p.extends w.extends;
  entries = omega (arith, w.entries, ap length p.entries);
  computes = λ b k s r. (
    top m,
    subst (λ z. HasFields (maker_of (slice_get z n) o) (terms_length es)) (s ∙ p.extends.families ∙ w.extends.families) r.range.0,
    w.computes b k (s ∙ p.extends.families) (record { range = r.range.1; whole = r.whole }),
    kept_at w.extends (top m) (instr.Make n o (terms_length es)) (top c) p.there,
  );
  marks = w.marks;
  deep = w.deep;
}

-- ---- two branches

swapped : (f g p : Bool) → ((f || p) || ((g || p) || p)) ≡ ((f || g) || p)
swapped true g p = refl
swapped false true p = or_true p
  where
    or_true : (a : Bool) → (a || true) ≡ true
    or_true true = refl
    or_true false = refl
swapped false false true = refl
swapped false false false = refl

pub if_left : (c c1 c2 c3 c4 c5 d : Compiled) (ms gs fs ns1 ns : List Bool) (at place : ℕ) (e f g : CoreTree) →
    Writes c ms c1 gs g → ComesTo c1 c2 (top c) → Writes c2 ms c3 fs f →
    marked ns1 ≡ also (marked gs) (marked ms) → marked ns ≡ also (marked fs) (marked ns1) → length ns ≡ length ms →
    (marked ns ≡ also (in_either f g) (marked ms) → Forgot c3 c4 place (in_either f g) (free g) (marked ms) (top c1)) →
    (marked ns ≡ also (in_either f g) (marked ms) → Forgot c4 c5 (top c5) (in_either f g) (free f) (marked ms) (top c3)) →
    Pushes c5 d (instr.Branch place) → Leaves c ms d ns (if_else at e f g) e
if_left c c1 c2 c3 c4 c5 d ms gs fs ns1 ns at place e f g wg to wf mg mf l fg ff p =
    left_from c d ms ns (if_else at e f g) e (in_either f g)
    (extends_both wg.extends (extends_both to.extends (extends_both wf.extends x3))) union l (λ k. refl)
    (λ b k r. record { range = r.range.0; whole = r.whole.0 })
    (omega (
      arith,
      wg.entries,
      wf.entries,
      ap length ((ff union).entries ∙ (fg union).entries),
      ap length to.entries,
      ap length p.entries,
    ))
    (λ b y q k s r v. let y3 = extends_both x3 y in let y4 = extends_both (ff union).extends (extends_both p.extends y) in
    let y5 = extends_both p.extends y in (
      top d,
      top c5,
      top c3,
      top c2,
      place,
      top c1,
      top c,
      v,
      kept_at y (top d) (instr.Branch place) (top c5) p.there,
      kept_forgets y5 (top c5) (in_either f g) (free f) (marked ms) (top c3) (ff union).forgets,
      kept y3 (top c3) f (marked ms) (top c2) (wf.computes q k (s ∙ wg.extends.families ∙ to.extends.families)
          (record { range = r.range.1; whole = r.whole.1 })),
      kept_comes (extends_both wf.extends y3) (top c2) (top c) to.there,
      kept_forgets y4 place (in_either f g) (free g) (marked ms) (top c1) (fg union).forgets,
      kept (extends_both to.extends (extends_both wf.extends y3)) (top c1) g (marked ms) (top c)
          (wg.computes q k s (record { range = r.range.2; whole = r.whole.2 })),
      inl refl,
    ))
  where
    union : marked ns ≡ also (in_either f g) (marked ms)
    union = mf ∙ ap (λ z. also z (marked ns1)) wf.marks
        ∙ ap (also (also (free f) (marked ms))) (mg ∙ ap (λ z. also z (marked ms)) wg.marks)
        ∙ fun_ext (λ k. swapped (free f k) (free g k) (marked ms k))

    x3 : Extends c3 d
    x3 = extends_both (fg union).extends (extends_both (ff union).extends p.extends)

-- ---- first parts of first parts

pub leaves_none : (c : Compiled) (ms : List Bool) (t : CoreTree) → Leaves c ms c ms t t
leaves_none c ms t = record { rest = λ b ls w. w; part = λ b k r. r; entries = omega arith; deep = refl }

pub leaves_more : (c m d : Compiled) (ms ls ns : List Bool) (t s e : CoreTree) → Leaves c ms m ls t s → Leaves m ls d ns s e →
    Leaves c ms d ns t e
leaves_more c m d ms ls ns t s e x y = record {
  rest = λ b qs w. x.rest b qs (y.rest b qs w);
  part = λ b k r. y.part b k (x.part b k r);
  entries = omega (arith, x.entries, y.entries);
  deep = y.deep ∙ x.deep;
}
