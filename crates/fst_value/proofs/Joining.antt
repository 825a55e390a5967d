-- Values on a stack that are made one.
use Rattle.std.proofs.Common.{◌≡◌, ◌∙◌, ℕ, zero, suc, ◌+◌, ◌-◌, ◌<◌, ◌≤◌, List, [], ◌∷◌, ◌++◌, length, take, drop, reverse, refl, sym, ap, subst, arith, append_assoc}
use Rattle.std.specs.Prelude.{Option, Some, None, option_map, Bool, true, false}
use Rattle.std.specs.declared.result.Result.{Result}
use Rattle.std.specs.declared.result.Result.TheVariants.{Ok, Err}
use Rattle.std.specs.declared.alloc.AllocError.{AllocError}
use Rattle.std.specs.List.{flat_map}
use Rattle.std.proofs.lemmas.Grind.{flat_map-append}
use Rattle.std.proofs.lemmas.List.{append-nil, drop-append-le, take-append-le, length-append, length-reverse, reverse-append}
use Rattle.fst_value.specs.ValueTree.{ValueTree, make, function, ValueTrees, none, value}
use Rattle.fst_value.specs.declared.cells.Cell.{Cell}
use Rattle.fst_value.specs.declared.cells.Cell.TheVariants as cell
use Rattle.fst_value.specs.declared.nodes.Node.{Node}
use Rattle.fst_value.specs.OneCell.{arity}
use Rattle.fst_value.specs.Stacks.{stacked, collected, paired, gathered, Makes}
use Rattle.fst_value.specs.Cells.{count, taken, rooted}
use Rattle.fst_value.specs.CellFacts.{taken-stacked}
use Rattle.fst_value.specs.Nodes.{headed, nodes_of, nodes_of_all}
use Rattle.fst_value.specs.Parts.{listed}
use Rattle.fst_value.proofs.Turned.{drop_turned, last_turned, take_turned, length_turned}
use Rattle.fst_value.proofs.Kept.{front_within, nodes_turned}

taken_all : (vs : List ValueTree) → (count (taken (length vs) vs) ≡ length vs) × (nodes_of_all
    (taken (length vs) vs) ≡ flat_map nodes_of vs)
taken_all [] = (refl, refl)
taken_all (v ∷ vs) = (ap (λ (n : ℕ). suc n) (taken_all vs).0, ap (λ ns. nodes_of v ++ ns) (taken_all vs).1)

-- the fields of a constructor, as many as its cell says
fields_all : (k : ℕ) (vs : List ValueTree) → k ≡ length vs → (count (taken k vs) ≡ k) × (nodes_of_all (taken k vs) ≡ flat_map
    nodes_of vs)
fields_all k vs h = (
  ap (λ (n : ℕ). count (taken n vs)) h ∙ (taken_all vs).0 ∙ sym h,
  ap (λ (n : ℕ). nodes_of_all (taken n vs)) h
      ∙ (taken_all vs).1,
)

-- a root with as many values as it has parts
rooted_nodes : (c : Cell) (vs : List ValueTree) → arity c ≡ length vs →
    headed c (flat_map nodes_of vs) ≡ nodes_of (rooted c vs)
rooted_nodes (cell.Int n) [] h = refl
rooted_nodes (cell.Int n) (v ∷ vs) h = absurd (omega (arith, h))
rooted_nodes (cell.Bool b) [] h = refl
rooted_nodes (cell.Bool b) (v ∷ vs) h = absurd (omega (arith, h))
rooted_nodes (cell.Char b) [] h = refl
rooted_nodes (cell.Char b) (v ∷ vs) h = absurd (omega (arith, h))
rooted_nodes cell.Unit [] h = refl
rooted_nodes cell.Unit (v ∷ vs) h = absurd (omega (arith, h))
rooted_nodes (cell.End b) [] h = refl
rooted_nodes (cell.End b) (v ∷ vs) h = absurd (omega (arith, h))
rooted_nodes cell.Pair [] h = absurd (omega (arith, h))
rooted_nodes cell.Pair (v ∷ []) h = absurd (omega (arith, h))
rooted_nodes cell.Pair (v ∷ w ∷ []) h = ap (λ ns. headed cell.Pair (nodes_of v ++ ns)) (append-nil (nodes_of w))
rooted_nodes cell.Pair (v ∷ w ∷ u ∷ vs) h = absurd (omega (arith, h))
rooted_nodes (cell.Make n o k) vs h =
    let f = fields_all k vs h in
    λ i. headed (cell.Make n o (sym f.0 i)) (sym f.1 i)
rooted_nodes (cell.Function l k) vs h =
    let f = fields_all k vs h in
    λ i. headed (cell.Function l (sym f.0 i)) (sym f.1 i)

-- the values up to a place, the nodes of those from there on, and how many those of the first of them are
pub record ArePartsFrom (values rest : List ValueTree) (at count : ℕ) (ns : List Node) (first : ℕ) : Type 0 where
  pub below : take at rest ≡ take at values
  pub nodes : ns ≡ flat_map nodes_of (drop at values)
  pub first_length : first ≡ length (flat_map nodes_of (take count (drop at values)))
  pub within : first ≤ length ns

-- they are moved to those of the last value, which is taken off
pub parts_from : (values seen rest : List ValueTree) (last : ValueTree) (at count : ℕ) (ns : List Node) (first : ℕ) →
    seen ≡ values → first ≡ length (flat_map nodes_of (take (at + count - at) (drop at seen))) →
    values ≡ rest ++ last ∷ [] → at < length values → ns ≡ flat_map nodes_of (drop at rest) ++ nodes_of last →
    ArePartsFrom values rest at count ns first
parts_from values seen rest last at count ns first s f h lt n =
    let le : at ≤ length rest = omega (arith, lt, ap length h, length-append rest (last ∷ [])) in
    let all : ns ≡ flat_map nodes_of (drop at values) =
    n
    ∙ ap (λ ms. flat_map nodes_of (drop at rest) ++ ms) (sym (append-nil (nodes_of last)))
    ∙ sym (flat_map-append nodes_of (drop at rest) (last ∷ []))
    ∙ ap (flat_map nodes_of) (sym (drop-append-le at rest (last ∷ []) le) ∙ ap (drop at) (sym h))
    in
    let m : at + count - at ≡ count = omega arith in
    let len : first ≡ length (flat_map nodes_of (take count (drop at values))) = f
    ∙ (λ i. length (flat_map nodes_of (take (m i) (drop at (s i))))) in
    record {
      below = sym (ap (take at) h ∙ take-append-le at rest (last ∷ []) le);
      nodes = all;
      first_length = len;
      within = front_within ns (drop at values) count first all len;
    }

-- under a root, when the first ones are turned behind the others
pub turned_kept : (c : Cell) (values rest : List ValueTree) (at count : ℕ) (ns turned : List Node) (first : ℕ) →
    ArePartsFrom values rest at count ns first → turned ≡ drop first ns ++ take first ns → arity c ≡ length (drop at values) →
    headed c turned ≡ nodes_of (rooted c (drop count (drop at values) ++ take count (drop at values)))
turned_kept c values rest at count ns turned first p t a =
    let vs = drop at values in
    ap (headed c) (t ∙ nodes_turned ns vs count first p.nodes p.first_length)
    ∙ rooted_nodes c (drop count vs ++ take count vs) (a ∙ sym (length_turned vs count))

some_is : {X : Type 0} (p q : X) → Some p ≡ Some q → p ≡ q
some_is {X} p q h = ap (λ (o : Option X). elim o as (λ _. X) [ None ↦ p | Some r ↦ r ]) h

-- values that are collected are the last ones in order
collected_is : (n : ℕ) (ops : List ValueTree) (vs : ValueTrees) (p : ValueTrees × List ValueTree) →
    collected n ops vs ≡ Some p →
    (listed p.0 ≡ reverse (take n ops) ++ listed vs) × (drop n ops ≡ p.1) × (count p.0 ≡ n + count vs)
collected_is zero ops vs p h =
    let e : (vs, ops) ≡ p = some_is _ _ h in
    (λ i. listed (sym e i).0, λ i. (e i).1, ap (λ (q : ValueTrees × List ValueTree). count q.0) (sym e) ∙ omega arith)
collected_is (suc n) [] vs p h = absurd (cc h)
collected_is (suc n) (v ∷ ops) vs p h =
    let r = collected_is n ops (value v vs) p h in (
      r.0 ∙ sym (ap (λ us. us ++ listed vs) (reverse-append (v ∷ []) (take n ops)) ∙ append_assoc
          (reverse (take n ops)) (v ∷ []) (listed vs)),
      r.1,
      r.2 ∙ omega arith,
    )

-- enough values can be collected
collected_some : (n : ℕ) (ops : List ValueTree) (vs : ValueTrees) → n ≤ length ops → (p : ValueTrees × List ValueTree) ×
    (collected n ops vs ≡ Some p)
collected_some zero ops vs h = ((vs, ops), refl)
collected_some (suc n) [] vs h = absurd (omega (arith, h))
collected_some (suc n) (v ∷ ops) vs h = collected_some n ops (value v vs) (omega (arith, h))

-- and too few can't
collected_none : (n : ℕ) (ops : List ValueTree) (vs : ValueTrees) → length ops < n → collected n ops vs ≡ None
collected_none zero ops vs h = absurd (omega (arith, h))
collected_none (suc n) [] vs h = refl
collected_none (suc n) (v ∷ ops) vs h = collected_none n ops (value v vs) (omega (arith, h))

-- a pair is two values that are gathered
pub paired_gathered : (ops : List ValueTree) → gathered (λ vs. rooted cell.Pair (listed vs)) 2 ops ≡ paired ops
paired_gathered [] = refl
paired_gathered (w ∷ []) = refl
paired_gathered (w ∷ v ∷ ops) = refl

gathered_on : (f g : ValueTrees → ValueTree) (n : ℕ) (ops : List ValueTree) (o : Option (ValueTrees × List ValueTree)) →
    collected n ops none ≡ o →
    ((vs : ValueTrees) → count vs ≡ n → f vs ≡ g vs) → option_map
    (λ (p : ValueTrees × List ValueTree). f p.0 ∷ p.1) o ≡ option_map (λ (p : ValueTrees × List ValueTree). g p.0 ∷ p.1) o
gathered_on f g n ops None e h = refl
gathered_on f g n ops (Some p) e h = ap (λ (v : ValueTree). Some (v ∷ p.1))
    (h p.0 ((collected_is n ops none p e).2 ∙ omega arith))

-- values are gathered the same way by what is the same for as many
gathered_by : (f g : ValueTrees → ValueTree) (n : ℕ) (ops : List ValueTree) →
    ((vs : ValueTrees) → count vs ≡ n → f vs ≡ g vs) → gathered f n ops ≡ gathered g n ops
gathered_by f g n ops h = gathered_on f g n ops (collected n ops none) refl h

-- the values from a place on are gathered
pub gathered_joined : (c : Cell) (values now : List ValueTree) (n at : ℕ) → n ≤ length values → at ≡ length values - n →
    now ≡ take at values ++ rooted c (drop at values) ∷ [] →
    gathered (λ vs. rooted c (listed vs)) n (reverse values) ≡ Some (reverse now)
gathered_joined c values now n at le place h =
    let f = λ (vs : ValueTrees). rooted c (listed vs) in
    let s = collected_some n (reverse values) none (omega (arith, le, length-reverse values)) in
    let is = collected_is n (reverse values) none s.0 s.1 in
    let parts : listed s.0.0 ≡ drop at values = is.0 ∙ append-nil (reverse (take n (reverse values)))
    ∙ take_turned values n le ∙ ap (λ (m : ℕ). drop m values) (sym place) in
    let below : s.0.1 ≡ reverse (take at values) = sym is.1 ∙ drop_turned values n le ∙ ap
    (λ (m : ℕ). reverse (take m values)) (sym place) in
    ap (option_map (λ (p : ValueTrees × List ValueTree). f p.0 ∷ p.1)) s.1
    ∙ (λ i. Some (rooted c (parts i) ∷ below i))
    ∙ ap (λ (os : List ValueTree). Some os)
    (sym (ap reverse h ∙ last_turned (take at values) (rooted c (drop at values))))

pub gathered_none : (f : ValueTrees → ValueTree) (n : ℕ) (ops : List ValueTree) → length ops < n → gathered f n ops ≡ None
gathered_none f n ops h = ap (option_map (λ (p : ValueTrees × List ValueTree). f p.0 ∷ p.1)) (collected_none n ops none h)

-- a constructor with as many fields as its cell says
pub rooted_make : (n o k : ℕ) (vs : ValueTrees) → count vs ≡ k → rooted (cell.Make n o k) (listed vs) ≡ make n o vs
rooted_make n o k vs h = ap (make n o) (ap (λ (m : ℕ). taken m (stacked vs [])) (sym h) ∙ taken-stacked vs [])

pub rooted_function : (l k : ℕ) (vs : ValueTrees) → count vs ≡ k → rooted (cell.Function l k) (listed vs) ≡ function l vs
rooted_function l k vs h = ap (function l) (ap (λ (m : ℕ). taken m (stacked vs [])) (sym h) ∙ taken-stacked vs [])

made : {X : Type 0} (f g : X → Option X) (old now : X) (r : Result Bool AllocError) → f old ≡ g old → Makes f old r now →
    Makes g old r now
made f g old now (Ok true) e m = sym e ∙ m
made f g old now (Ok false) e m = (sym e ∙ m.0, m.1)
made f g old now (Err x) e m = m

-- what was made of the same values by what is the same for as many
pub made_by : (f g : ValueTrees → ValueTree) (n : ℕ) (ops old now : List ValueTree) (r : Result Bool AllocError) → ops ≡ old →
    ((vs : ValueTrees) → count vs ≡ n → f vs ≡ g vs) → Makes (gathered f n) ops r now → Makes (gathered g n) old r now
made_by f g n ops old now r e h m =
    made (gathered f n) (gathered g n) old now r (gathered_by f g n old h) (subst (λ os. Makes (gathered f n) os r now) e m)
