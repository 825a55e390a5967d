-- The code of the globals, one after the other, and of the module.
use Rattle.std.proofs.Common.{◌≡◌, ◌∙◌, ◌<◌, ◌≤◌, ◌+◌, ◌++◌, ℕ, zero, suc, Bool, true, false, List, [], ◌∷◌, length, get_or, drop, Some, cond, refl, sym, ap, subst, arith}
use Rattle.std.specs.Prelude.{if◌then◌else◌, codes, slice_get}
use Rattle.std.specs.List.{count_by}
use Rattle.std.specs.Str.{bytes_eq}
use Rattle.std.proofs.lemmas.List.{drop_more}
use Rattle.std.proofs.lemmas.List.Sums.{sum_by-cons}
use Rattle.std.proofs.lemmas.Option.{same_Some}
use Rattle.fst_types.specs.Tree.{Tree}
use Rattle.fst_types.specs.declared.family.Family.{Family}
use Rattle.fst_terms.specs.CoreTree.{CoreTree}
use Rattle.fst_terms.specs.InRange.{Bounds, AreGlobals}
use Rattle.fst_terms.specs.declared.core_module.Module.{Module}
use Rattle.fst_terms.specs.declared.global.GlobalEntry.{GlobalEntry}
use Rattle.fst_machine.specs.declared.code.Instr.TheVariants as instr
use Rattle.fst_machine.specs.Code.{Compiled, Comes, Computes, ComputesGlobals, no_variables}
use Rattle.fst_machine.specs.Programs.{IsCodeOf, bodies, main_place}
use Rattle.fst_machine.specs.Programs as program
use Rattle.fst_machine.specs.Standing.{GoesDown}
use Rattle.fst_machine.proofs.Laws.{closed_in_range}
use Rattle.fst_code.specs.declared.built.Built.{Built}
use Rattle.fst_code.specs.Globals.{AllStart, Starts}
use Rattle.fst_code.specs.Whole.{AreBodiesWhole, IsReady}
use Rattle.fst_code.specs.Writable.{AreGlobalsWritable}
use Rattle.fst_code.specs.Written.{Extends, Pushes, Writes, compiled, top}
use Rattle.fst_code.specs.Marks.{marked}
use Rattle.fst_code.proofs.Extended.{extends_same, kept, kept_at, kept_comes}

-- ---- one global

pub starts_from : (c m d : Compiled) (ms ns : List Bool) (e : CoreTree) (i : ℕ) → Pushes c m instr.Return →
    marked ms ≡ no_variables → Writes m ms d ns e → i ≡ top d → Starts d i e
starts_from c m d ms ns e i p none w at = record {
  last = top m;
  behind = top c;
  computes = λ b k s r. subst (λ j. Computes d j e no_variables (top m)) (sym at)
      (subst (λ z. Computes d (top d) e z (top m)) none (w.computes b k (s ∙ sym w.extends.families) r));
  returns = kept_at w.extends (top m) instr.Return (top c) p.there;
  within = omega (arith, at);
}

kept_starts : {c d : Compiled} → Extends c d → (i : ℕ) (e : CoreTree) → Starts c i e → Starts d i e
kept_starts x i e h = record {
  last = h.last;
  behind = h.behind;
  computes = λ b k s r. kept x i e no_variables h.last (h.computes b k (s ∙ sym x.families) r);
  returns = kept_at x h.last instr.Return h.behind h.returns;
  within = omega (arith, h.within, x.longer);
}

-- ---- globals one after the other

pub kept_all : {c d : Compiled} → Extends c d → (gs : List GlobalEntry) (is : List ℕ) → AllStart c gs is → AllStart d gs is
kept_all x [] [] h = h
kept_all x [] (i ∷ is) h = h
kept_all x (g ∷ gs) [] h = h
kept_all x (g ∷ gs) (i ∷ is) h = (kept_starts x i g.body h.0, kept_all x gs is h.1)

pub start_more : (d : Compiled) (gs : List GlobalEntry) (is : List ℕ) (g : GlobalEntry) (i : ℕ) → AllStart d gs is →
    Starts d i g.body → AllStart d (gs ++ g ∷ []) (is ++ i ∷ [])
start_more d [] [] g i h one = (one, tt)
start_more d [] (j ∷ is) g i h one = absurd h
start_more d (f ∷ gs) [] g i h one = absurd h
start_more d (f ∷ gs) (j ∷ is) g i h one = (h.0, start_more d gs is g i h.1 one)

pub all_length : (d : Compiled) (gs : List GlobalEntry) (is : List ℕ) → AllStart d gs is → length is ≡ length gs
all_length d [] [] h = refl
all_length d [] (i ∷ is) h = absurd h
all_length d (g ∷ gs) [] h = absurd h
all_length d (g ∷ gs) (i ∷ is) h = ap suc (all_length d gs is h.1)

-- ---- where main starts

pub place_here : (gs : List GlobalEntry) (is : List ℕ) (k : ℕ) (g : GlobalEntry) (i : ℕ) → k < length gs → k < length is →
    g ≡ get_or gs k g → i ≡ get_or is k i →
    bytes_eq g.name (codes "main") ≡ true → Some i ≡ main_place (drop k gs) (drop k is)
place_here gs is k g i lg li eg ei here =
    sym (ap (λ z. if z then Some i else main_place (drop (k + 1) gs) (drop (k + 1) is)) here) ∙ sym (next gs is k g i lg li eg ei)
  where
    next : (gs : List GlobalEntry) (is : List ℕ) (k : ℕ) (g : GlobalEntry) (i : ℕ) → k < length gs → k < length is →
        g ≡ get_or gs k g → i ≡ get_or is k i →
        main_place (drop k gs) (drop k is) ≡ (if bytes_eq g.name (codes "main") then Some i else main_place (drop (k + 1) gs)
        (drop (k + 1) is))
    next gs is k g i lg li eg ei = (λ j. main_place ((drop_more gs k g lg ∙ ap (λ z. z ∷ drop (k + 1) gs) (sym eg)) j)
        ((drop_more is k i li ∙ ap (λ z. z ∷ drop (k + 1) is) (sym ei)) j))

pub place_later : (gs : List GlobalEntry) (is : List ℕ) (k : ℕ) (g : GlobalEntry) (i : ℕ) → k < length gs → k < length is →
    g ≡ get_or gs k g → i ≡ get_or is k i →
    bytes_eq g.name (codes "main") ≡ false → main_place (drop (k + 1) gs) (drop (k + 1) is) ≡ main_place (drop k gs) (drop k is)
place_later gs is k g i lg li eg ei here =
    sym (ap (λ z. if z then Some i else main_place (drop (k + 1) gs) (drop (k + 1) is)) here)
    ∙ sym (λ j. main_place ((drop_more gs k g lg ∙ ap (λ z. z ∷ drop (k + 1) gs) (sym eg)) j)
    ((drop_more is k i li ∙ ap (λ z. z ∷ drop (k + 1) is) (sym ei)) j))

later : (z : Bool) (k n : ℕ) → z ≡ false → cond z 1 0 + k ≡ n → k ≡ n
later true k n e h = absurd (cc e)
later false k n e h = omega (arith, h)

-- a global that is named main has a place
pub main_there : (d : Compiled) (gs : List GlobalEntry) (is : List ℕ) (n : ℕ) → AllStart d gs is → count_by
    (λ g. bytes_eq g.name (codes "main")) gs ≡ suc n →
    (i : ℕ) × (main_place gs is ≡ Some i) × (i ≤ top d)
main_there d [] [] n h c = absurd (cc c)
main_there d [] (i ∷ is) n h c = absurd h
main_there d (g ∷ gs) [] n h c = absurd h
main_there d (g ∷ gs) (i ∷ is) n h c = go (bytes_eq g.name (codes "main")) refl (main_there d gs is n h.1)
  where
    go : (z : Bool) → bytes_eq g.name (codes "main") ≡ z →
        (count_by (λ x. bytes_eq x.name (codes "main")) gs ≡ suc n → (j : ℕ) × (main_place gs is ≡ Some j) × (j ≤ top d)) →
        (j : ℕ) × ((if z then Some i else main_place gs is) ≡ Some j) × (j ≤ top d)
    go true e rest = (i, refl, h.0.within)
    go false e rest = rest (later (bytes_eq g.name (codes "main"))
        (count_by (λ (x : GlobalEntry). bytes_eq x.name (codes "main")) gs) (suc n) e
        (sym (sum_by-cons (λ (x : GlobalEntry). cond (bytes_eq x.name (codes "main")) 1 0) g gs) ∙ c))

-- ---- the module

-- each body is ready
bodies_ready : {b : Bounds} (gs : List GlobalEntry) → AreGlobals b gs → AreBodiesWhole b.families (bodies gs) →
    (k : ℕ) (g : GlobalEntry) → slice_get gs k ≡ Some g → IsReady b 0 g.body
bodies_ready [] r w k g at = absurd (cc at)
bodies_ready {b} (f ∷ gs) r w zero g at = subst (λ (z : GlobalEntry). IsReady b 0 z.body) (same_Some f g at)
    (record { range = r.1; whole = w.0 })
bodies_ready (f ∷ gs) r w (suc k) g at = bodies_ready gs r.2 w.1 k g at

-- the globals of a module can be written where no entry stands yet
pub module_writable : (m : Module) → AreBodiesWhole m.families.items (bodies m.globals.items) →
    AreGlobalsWritable 0 m.globals.items
module_writable m w = record {
  bounds = record { families = m.families.items; globals = length m.globals.items; types = length m.types.items };
  ready = bodies_ready m.globals.items m.whole.global_parts w;
  few = omega (arith, m.few);
}

globals_from : (d : Compiled) (b : Bounds) (gs : List GlobalEntry) (is : List ℕ) → b.families ≡ d.families → AreGlobals b gs →
    AreBodiesWhole b.families (bodies gs) → AllStart d gs is →
    ComputesGlobals d (bodies gs) is
globals_from d b [] [] s r w h = tt
globals_from d b [] (i ∷ is) s r w h = absurd h
globals_from d b (g ∷ gs) [] s r w h = absurd h
globals_from d b (g ∷ gs) (i ∷ is) s r w h = (
  (h.0.last, h.0.behind, closed_in_range g.body b r.1, h.0.computes b 0 s (record { range = r.1; whole = w.0 }), h.0.returns),
  globals_from d b gs is s r.2 w.1 h.1,
)

pub is_code : (m : Module) (b : Built) (is : List ℕ) (ts : List Tree) (start : ℕ) →
    AreBodiesWhole m.families.items (bodies m.globals.items) →
    AllStart (compiled m.families.items b) m.globals.items is →
    GoesDown (compiled m.families.items b) → main_place m.globals.items is ≡ Some start →
    Comes (compiled m.families.items b) (length b.code.items) start → ts ≡ m.types.items →
    IsCodeOf m b.code.items b.lambdas.items is ts
is_code m b is ts start w h down at comes same = record {
  stands = globals_from whole (record {
    families = m.families.items;
    globals = length m.globals.items;
    types =
        length m.types.items;
  }) m.globals.items is refl m.whole.global_parts w
      (kept_all more m.globals.items is h);
  start = start;
  starts = at;
  first = kept_comes more (length b.code.items) start comes;
  down = more.down down;
  same_types = same;
}
  where
    whole : Compiled
    whole = program.compiled m.families.items b.code.items b.lambdas.items is

    more : Extends (compiled m.families.items b) whole
    more = extends_same (compiled m.families.items b) whole refl refl refl

-- the same of what is as in the module
pub is_code_as : (m : Module) (fs : List Family) (gs : List GlobalEntry) (b : Built) (is : List ℕ) (ts : List Tree) →
    fs ≡ m.families.items → gs ≡ m.globals.items →
    AreBodiesWhole m.families.items (bodies m.globals.items) → AllStart (compiled fs b) gs is → GoesDown (compiled fs b) →
    ((start : ℕ) × (main_place gs is ≡ Some start) × Comes (compiled fs b) (length b.code.items) start) → ts ≡ m.types.items →
    IsCodeOf m b.code.items b.lambdas.items is ts
is_code_as m fs gs b is ts ef eg w h down main same =
    let all = subst (λ z. AllStart (compiled fs b) z is) eg h in
    is_code m b is ts main.0 w (subst (λ z. AllStart (compiled z b) m.globals.items is) ef all)
    (subst (λ z. GoesDown (compiled z b)) ef down)
    (ap (λ z. main_place z is) (sym eg) ∙ main.1) (subst (λ z. Comes (compiled z b) (length b.code.items) main.0) ef main.2) same

-- no code goes down
pub none_down : (d : Compiled) → d.code ≡ [] → GoesDown d
none_down d e i j a h = absurd (cc (sym (ap (λ z. slice_get z j) e) ∙ h.there))
