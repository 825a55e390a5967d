-- Constructors: their arguments one after the other, and the choice between their arms.
use Rattle.std.proofs.Common.{◌≡◌, ℕ, suc, ◌+◌, Bool, Option, Some, None, List, ◌∷◌, slice_get, refl, sym, ap, ◌∙◌, subst, arith}
use Rattle.std.proofs.lemmas.Bool.{or_left, or_right}
use Rattle.fst_terms.specs.CoreTree.{CoreTree, CoreList, CoreArms, no_terms, term, make, case_of}
use Rattle.fst_terms.specs.InRange.{maker_of, HasFields, terms_length}
use Rattle.fst_value.specs.ValueTree as tree
use Rattle.fst_value.specs.ValueTree.{ValueTree, ValueTrees}
use Rattle.fst_machine.specs.declared.code.Instr.TheVariants as instr
use Rattle.fst_machine.specs.Free.{free, free_in, free_below}
use Rattle.fst_machine.specs.Values as value
use Rattle.fst_machine.specs.Values.{Value, Values, no_values, Environment, keep, count, turned_onto}
use Rattle.fst_machine.specs.Machine.{Frame, at_field, at_case, eval_all, eval_arm, resume, on, name_of}
use Rattle.fst_machine.specs.Code.{Compiled, At, ComputesAll, also}
use Rattle.fst_machine.specs.Spots.{Slots, Call, stacked, collected, joined}
use Rattle.fst_machine.specs.Standing.{MeanAll, MeansSlots, StandsFor}
use Rattle.fst_machine.proofs.Steps.{spot, stepped}
use Rattle.fst_machine.proofs.Slots.{Agree, part, in_also, in_behind}
use Rattle.fst_machine.proofs.Moves.{turned, size, stacked_collected, turned_means, same_size}
use Rattle.fst_machine.proofs.Goods.{Awaits, Good, later}
use Rattle.fst_machine.proofs.Operators.{nothing}
use Rattle.fst_machine.proofs.Shapes.{made_stands}
use Rattle.fst_machine.proofs.Arms.{GoodCases}
use Rattle.fst_machine.proofs.Forms.{first_part}

turned_size : (xs ys : ValueTrees) → size (turned xs ys) ≡ size xs + size ys
turned_size tree.none ys = let e : size ys ≡ 0 + size ys = omega arith in e
turned_size (tree.value x xs) ys = let e : size xs + suc (size ys) ≡ suc (size xs) + size ys = omega arith in
    turned_size xs (tree.value x ys) ∙ e

module _ (n : ℕ) (c : Compiled) where
  -- the code of the arguments to come stands for them, behind those that are there
  abbrev pub GoodAll : CoreList → Type 0
  GoodAll es =
      (i h j num o total : ℕ) (p : ℕ → Bool) (done : Values) (ds : ValueTrees) (env : Environment) (slots : Slots)
      (ops : List ValueTree) (calls : List Call) (fs : List Frame) →
      ComputesAll c i es p h → At c h (instr.Make num o total) j → HasFields (maker_of (slice_get c.families num) o) total →
      size ds + terms_length es ≡ total → MeanAll c ds done →
      MeansSlots c (free_in es) slots env → Awaits n c j p slots ops calls fs →
      StandsFor n c (spot i slots (stacked ds ops) calls) (eval_all c.families es num o done env fs (resume c.families fs))

  -- all arguments are there
  pub no_more : GoodAll no_terms
  no_more i h j num o total p done ds env slots ops calls fs hc ha hf hs m s k =
      let all : size ds + 0 ≡ total = hs in
      let same : total ≡ size ds = omega (arith, all) in
      let means : MeanAll c (turned ds tree.none) (turned_onto done no_values) =
      turned_means c ds tree.none done no_values m tt in
      let z : size ds + 0 ≡ size ds = omega arith in
      let many : total ≡ count (turned_onto done no_values) = same ∙ sym z ∙ sym (turned_size ds tree.none)
      ∙ same_size c (turned ds tree.none) (turned_onto done no_values) means in
      subst (λ y. StandsFor n c (spot y slots (stacked ds ops) calls)
      (resume c.families fs (value.made num o (turned_onto done no_values)))) (sym hc)
      (stepped n c h (instr.Make num o total) j slots (stacked ds ops) calls
      (spot j slots (tree.make num o (turned ds tree.none) ∷ ops) calls) _ ha
      (ap (λ y. joined j (collected y (stacked ds ops) tree.none) (tree.make num o) (spot h slots (stacked ds ops) calls)) same
      ∙ ap (λ y. joined j y (tree.make num o) (spot h slots (stacked ds ops) calls)) (stacked_collected ds ops tree.none))
      (k (tree.make num o (turned ds tree.none)) (value.made num o (turned_onto done no_values)) slots
      (turned_onto done no_values, refl, subst (HasFields (maker_of (slice_get c.families num) o)) many hf, means) (λ l g. refl)))

  -- one more argument
  pub one_more : (e : CoreTree) (es : CoreList) → Good n c e → GoodAll es → GoodAll (term e es)
  one_more e es ge ga i h j num o total p done ds env slots ops calls fs hc ha hf hs m s k =
      first_part n c e i hc.0 (also (free_in es) p) (free_in (term e es)) env slots (stacked ds ops) calls
      (at_field num o done es (keep (free_in es) env) ∷ fs) ge hc.1 s
      (λ l g. or_left (free e l) (free_in es l) g)
      (λ x v os mx a.
      let sum : size ds + suc (terms_length es) ≡ total = hs in
      let sum2 : suc (size ds) + terms_length es ≡ total = omega (arith, sum) in
      ga hc.0 h j num o total p (value.value v done) (tree.value x ds) (keep (free_in es) env) os ops calls fs hc.2 ha hf sum2
      (mx, m)
      (part c (free_in (term e es)) (free_in es) slots os env s (λ l g. or_right (free e l) (free_in es l) g)
      (λ l g. a l (in_also (free_in es) p l g)))
      (later n c j p (also (free_in es) p) slots os ops calls fs a (in_behind (free_in es) p) k))

  -- a constructor
  pub make_good : (at num o : ℕ) (es : CoreList) → GoodAll es → Good n c (make at num o es)
  make_good at num o es ga i j p env slots ops calls fs h m k =
      let sum : 0 + terms_length es ≡ terms_length es = omega arith in
      ga i h.0 j num o (terms_length es) p no_values tree.none env slots ops calls fs h.2 h.3 h.1 sum tt m k

  -- a choice by constructor
  pub case_good : (at : ℕ) (e : CoreTree) (bs : CoreArms) → Good n c e → GoodCases n c bs → Good n c (case_of at e bs)
  case_good at e bs ge gb i j p env slots ops calls fs h m k =
      first_part n c e i h.0 (also (free_below bs) p) (free (case_of at e bs)) env slots ops calls
      (at_case bs (keep (free_below bs) env) ∷ fs) ge h.5 m
      (λ l g. or_left (free e l) (free_below bs l) g)
      (λ x v os mx a.
      made_stands n c (λ t. spot h.0 os (t ∷ ops) calls)
      (λ num o vs. on (name_of c.families num o)
      (λ l. eval_arm c.families bs l vs (keep (free_below bs) env) fs (resume c.families fs))) x v mx
      (λ num o xs vs hf ma. named num o xs vs os hf ma a (name_of c.families num o) refl))
    where
      named : (num o : ℕ) (xs : ValueTrees) (vs : Values) (os : Slots) →
          HasFields (maker_of (slice_get c.families num) o) (count vs) → MeanAll c xs vs →
          Agree (also (free_below bs) p) slots os →
          (r : Option (List ℕ)) → name_of c.families num o ≡ r →
          StandsFor n c (spot h.0 os (tree.make num o xs ∷ ops) calls)
          (on r (λ l. eval_arm c.families bs l vs (keep (free_below bs) env) fs (resume c.families fs)))
      named num o xs vs os hf ma a None w = nothing n c (spot h.0 os (tree.make num o xs ∷ ops) calls)
      named num o xs vs os hf ma a (Some l) w =
          gb h.0 h.1 h.2 h.3 h.4 j p (free_below bs) num o l xs vs (keep (free_below bs) env) os ops calls fs h.6 h.7 h.8 w hf ma
          (part c (free (case_of at e bs)) (free_below bs) slots os env m (λ y g. or_right (free e y) (free_below bs y) g)
          (λ y g. a y (in_also (free_below bs) p y g))) (λ y g. g)
          (later n c j p (also (free_below bs) p) slots os ops calls fs a (in_behind (free_below bs) p) k)
