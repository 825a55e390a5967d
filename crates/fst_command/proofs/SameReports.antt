-- A configuration has one report, up to how its lists are kept, and modules with the same parts write it in the same way.
use Rattle.std.proofs.Common.{◌≡◌, ◌∙◌, inl, inr, ℕ, List, [], ◌∷◌, ◌++◌, map, length, slice_get, Bool, Option, Some, None, refl, sym, ap, subst, arith}
use Rattle.std.specs.Prelude.{Contains, codes, is_some, option_map, cond}
use Rattle.std.specs.List.{flat_map}
use Rattle.std.proofs.lemmas.Cmp.{nat_list_cmp_total, tied_itself}
use Rattle.std.proofs.lemmas.List.{length-map}
use Rattle.std.proofs.lemmas.List.Concat.{flat_map-cons}
use Rattle.std.proofs.lemmas.Option.{same_Some}
use Rattle.fst_base.proofs.Lists.{contains_head, contains_none, contains_tail, from_contains}
use Rattle.fst_types.specs.declared.family.Family.{Family}
use Rattle.fst_types.specs.declared.family.Maker.{Maker}
use Rattle.fst_types.specs.Tree.{Tree}
use Rattle.fst_value.specs.ValueTree as tree
use Rattle.fst_value.specs.ValueTree.{ValueTree, ValueTrees}
use Rattle.fst_value.specs.Texts.{maker_in, made_text, is_enclosed, value_text, fields_text}
use Rattle.fst_types.specs.declared.ends.ChannelName.{ChannelName}
use Rattle.fst_types.specs.declared.event.ChannelHistory.{ChannelHistory}
use Rattle.fst_types.specs.declared.event.Entry.{Entry}
use Rattle.fst_terms.specs.InRange.{maker_of}
use Rattle.fst_machine.specs.Values as value
use Rattle.fst_machine.specs.Values.{Value, Values}
use Rattle.fst_machine.specs.Machine.{Program, name_of, pause, ended}
use Rattle.fst_runs.specs.Configs.{Path, Config, Task, Channel}
use Rattle.fst_runs.specs.Least.{IsBefore}
use Rattle.fst_vm.specs.declared.report.Report.{Report}
use Rattle.fst_vm.specs.declared.report.Waiting.{Waiting}
use Rattle.fst_process.specs.Reports.{IsAlike, AreAlike, IsMainResult, ComesBefore, IsReport}
use Rattle.fst_runs.specs.Order.{AreRising}
use Rattle.fst_type_print.specs.Texts.{type_text, family_names}
use Rattle.fst_type_print.specs.NameTexts.{channel_text}
use Rattle.fst_report.specs.ReportTexts.{entries_text, waiting_text, history_text, result_text, report_text}
use Rattle.fst_report.specs.SummaryTexts.{count_line, summary_text}
use Rattle.fst_names.specs.Modules.{family_parts}
use Rattle.fst_command.proofs.SameParts.{same_map, same_names}

-- ---- lists in order

-- two lists in one order that have the same items are one
one_rising : {X : Type 0} (R : X → X → Type 0) → ((x y : X) → R x y → R y x → ⊥) →
    (xs ys : List X) → AreRising R xs → AreRising R ys →
    ((z : X) → Contains xs z → Contains ys z) → ((z : X) → Contains ys z → Contains xs z) → xs ≡ ys
one_rising R apart [] [] r s f g = refl
one_rising R apart [] (y ∷ ys) r s f g = absurd (contains_none y (g y (contains_head ys y y refl)))
one_rising R apart (x ∷ xs) [] r s f g = absurd (contains_none x (f x (contains_head xs x x refl)))
one_rising {X} R apart (x ∷ xs) (y ∷ ys) r s f g =
    let first : x ≡ y = elim (from_contains ys x y (f x (contains_head xs x x refl))) [
      | inl e ↦ sym e
      | inr c ↦ elim (from_contains xs y x (g y (contains_head ys y y refl))) [
        | inl e ↦ e
        | inr d ↦ absurd (apart x y (r.0 y d) (s.0 x c))
      ]
    ] in
    let rest = one_rising R apart xs ys r.1 s.1
    (λ z c. elim (from_contains ys z y (f z (contains_tail xs z x c))) [
      | inl e ↦ absurd (behind_itself x z (first ∙ e) (r.0 z c))
      | inr d ↦ d
    ])
    (λ z c. elim (from_contains xs z x (g z (contains_tail ys z y c))) [
      | inl e ↦ absurd (behind_itself y z (sym first ∙ e) (s.0 z c))
      | inr d ↦ d
    ]) in
    λ i. first i ∷ rest i
  where
    behind_itself : (a z : X) → a ≡ z → R a z → ⊥
    behind_itself a z e h = apart a a (subst (R a) (sym e) h) (subst (R a) (sym e) h)

-- what is in a list of values comes from an item
from_map : {X Y : Type 0} (f : X → Y) (xs : List X) (y : Y) → Contains (map f xs) y → (x : X) × Contains xs x × (f x ≡ y)
from_map f [] y h = absurd (contains_none y h)
from_map f (x ∷ xs) y h = elim (from_contains (map f xs) y (f x) h) [
  | inl e ↦ (x, contains_head xs x x refl, e)
  | inr c ↦ let z = from_map f xs y c in (z.0, contains_tail xs z.0 x z.1, z.2)
]

to_map : {X Y : Type 0} (f : X → Y) (xs : List X) (x : X) → Contains xs x → Contains (map f xs) (f x)
to_map f [] x h = absurd (contains_none x h)
to_map f (z ∷ xs) x h = elim (from_contains xs x z h) [
  | inl e ↦ contains_head (map f xs) (f x) (f z) (ap f e)
  | inr c ↦ contains_tail (map f xs) (f x) (f z) (to_map f xs x c)
]

map_rises : {X Y : Type 0} (f : X → Y) (R : Y → Y → Type 0) (xs : List X) → AreRising (λ x y. R (f x) (f y)) xs →
    AreRising R (map f xs)
map_rises f R [] r = tt
map_rises f R (x ∷ xs) r = (λ y c. let z = from_map f xs y c in subst (R (f x)) z.2 (r.0 z.0 z.1), map_rises f R xs r.1)

-- ---- paths and names in order

paths_apart : (p q : Path) → IsBefore p q → IsBefore q p → ⊥
paths_apart p q f g = let h = nat_list_cmp_total.trans p q p f g in let e = tied_itself nat_list_cmp_total p in cc

channels_apart : (g h : ChannelName) → ComesBefore g h → ComesBefore h g → ⊥
channels_apart g h (inl a) (inl b) = paths_apart g.maker h.maker a b
channels_apart g h (inl a) (inr b) = paths_apart g.maker g.maker (subst (IsBefore g.maker) b.0 a) (subst (IsBefore g.maker) b.0 a)
channels_apart g h (inr a) (inl b) = paths_apart h.maker h.maker (subst (IsBefore h.maker) a.0 b) (subst (IsBefore h.maker) a.0 b)
channels_apart g h (inr a) (inr b) = let l = a.1 in let m = b.1 in omega (arith, l, m)

-- ---- values

abbrev mutual
  -- a value without what a function holds
  shown : Value → ValueTree
  shown (value.int n) = tree.int n
  shown (value.bool b) = tree.bool b
  shown (value.char c) = tree.char c
  shown value.unit = tree.unit
  shown (value.pair v w) = tree.pair (shown v) (shown w)
  shown (value.made n o vs) = tree.make n o (all_shown vs)
  shown (value.function e env) = tree.function 0 tree.none
  shown (value.end x) = tree.end x

  all_shown : Values → ValueTrees
  all_shown value.no_values = tree.none
  all_shown (value.value v vs) = tree.value (shown v) (all_shown vs)

-- a field in its place
abbrev field_text : Bool → List ℕ → List ℕ
field_text b t = cond b (codes "(" ++ t ++ codes ")") t

-- both parts of how a field is written
record AreWritten (families : List Family) (x y : ValueTree) : Type 0 where
  text : value_text families x ≡ value_text families y
  enclosed : is_enclosed families x ≡ is_enclosed families y

module _ (families : List Family) where
  mutual
    -- a value is written by what it stands for
    alike_text : (x : ValueTree) (v : Value) → IsAlike x v → AreWritten families x (shown v)
    alike_text (tree.int n) v h = subst (λ z. AreWritten families (tree.int n) (shown z)) (sym h)
        (record { text = refl; enclosed = refl })
    alike_text (tree.bool b) v h = subst (λ z. AreWritten families (tree.bool b) (shown z)) (sym h)
        (record { text = refl; enclosed = refl })
    alike_text (tree.char c) v h = subst (λ z. AreWritten families (tree.char c) (shown z)) (sym h)
        (record { text = refl; enclosed = refl })
    alike_text tree.unit v h = subst (λ z. AreWritten families tree.unit (shown z)) (sym h)
        (record { text = refl; enclosed = refl })
    alike_text (tree.pair x y) v (a, b, e, i, j) =
        let p = alike_text x a i in
        let q = alike_text y b j in
        subst (λ z. AreWritten families (tree.pair x y) (shown z)) (sym e)
        (record { text = λ k. codes "(" ++ p.text k ++ codes ", " ++ q.text k ++ codes ")"; enclosed = refl })
    alike_text (tree.make n o xs) v (vs, e, h) =
        subst (λ z. AreWritten families (tree.make n o xs) (shown z)) (sym e)
        (record {
          text = ap (made_text (maker_in (slice_get families n) o)) (alike_fields xs vs h);
          enclosed =
              enclosed_same n o xs vs h;
        })
    alike_text (tree.function l xs) v (e, env, h) = subst
        (λ z. AreWritten families (tree.function l xs) (shown z)) (sym h) (record { text = refl; enclosed = refl })
    alike_text (tree.end x) v h = subst (λ z. AreWritten families (tree.end x) (shown z)) (sym h)
        (record { text = refl; enclosed = refl })

    alike_fields : (xs : ValueTrees) (vs : Values) → AreAlike xs vs →
        fields_text families xs ≡ fields_text families (all_shown vs)
    alike_fields tree.none value.no_values h = refl
    alike_fields tree.none (value.value v vs) h = absurd h
    alike_fields (tree.value x xs) value.no_values h = absurd h
    alike_fields (tree.value x xs) (value.value v vs) h =
        let p = alike_text x v h.0 in
        let more = alike_fields xs vs h.1 in
        λ i. codes " " ++ field_text (p.enclosed i) (p.text i) ++ more i

    enclosed_same : (n o : ℕ) (xs : ValueTrees) (vs : Values) → AreAlike xs vs →
        is_enclosed families (tree.make n o xs) ≡ is_enclosed families (tree.make n o (all_shown vs))
    enclosed_same n o tree.none value.no_values h = refl
    enclosed_same n o tree.none (value.value v vs) h = absurd h
    enclosed_same n o (tree.value x xs) value.no_values h = absurd h
    enclosed_same n o (tree.value x xs) (value.value v vs) h = refl

  -- a value that is kept in two ways is written in one
  value_once : (x y : ValueTree) (v : Value) → IsAlike x v → IsAlike y v → value_text families x ≡ value_text families y
  value_once x y v a b = (alike_text x v a).text ∙ sym (alike_text y v b).text

-- ---- data types with the same parts

-- a constructor and whether it is there, by its name
there_by : (o : Option Maker) → is_some o ≡ is_some (option_map (λ m. m.name) o)
there_by None = refl
there_by (Some m) = refl

made_by : Option (List ℕ) → List ℕ → List ℕ
made_by (Some x) fields = x ++ fields
made_by None fields = codes "?"

made_is : (o : Option Maker) (fields : List ℕ) → made_text o fields ≡ made_by (option_map (λ m. m.name) o) fields
unfolding made_by
made_is None fields = refl
made_is (Some m) fields = refl

named_in : (families : List Family) (n o : ℕ) → option_map
    (λ m. m.name) (maker_in (slice_get families n) o) ≡ name_of families n o
named_in families n o = by (slice_get families n)
  where
    by : (f : Option Family) → option_map (λ m. m.name) (maker_in f o) ≡ option_map (λ m. m.name) (maker_of f o)
    by None = refl
    by (Some f) = refl

module _ (fs gs : List Family) (alike : map family_parts fs ≡ map family_parts gs) where
  name_in : (n o : ℕ) → option_map (λ m. m.name) (maker_in (slice_get fs n) o) ≡ option_map
      (λ m. m.name) (maker_in (slice_get gs n) o)
  name_in n o = named_in fs n o ∙ same_names fs gs alike n o ∙ sym (named_in gs n o)

  enclosed_in : (x : ValueTree) → is_enclosed fs x ≡ is_enclosed gs x
  enclosed_in (tree.int n) = refl
  enclosed_in (tree.bool b) = refl
  enclosed_in (tree.char c) = refl
  enclosed_in tree.unit = refl
  enclosed_in (tree.pair x y) = refl
  enclosed_in (tree.make n o tree.none) = refl
  enclosed_in (tree.make n o (tree.value x xs)) = there_by (maker_in (slice_get fs n) o) ∙ ap is_some (name_in n o)
      ∙ sym (there_by (maker_in (slice_get gs n) o))
  enclosed_in (tree.function l xs) = refl
  enclosed_in (tree.end x) = refl

  mutual
    value_in : (x : ValueTree) → value_text fs x ≡ value_text gs x
    value_in (tree.int n) = refl
    value_in (tree.bool b) = refl
    value_in (tree.char c) = refl
    value_in tree.unit = refl
    value_in (tree.pair x y) = λ i. codes "(" ++ value_in x i ++ codes ", " ++ value_in y i ++ codes ")"
    value_in (tree.make n o xs) =
        made_is (maker_in (slice_get fs n) o) (fields_text fs xs) ∙ (λ i. made_by (name_in n o i) (fields_in xs i))
        ∙ sym (made_is (maker_in (slice_get gs n) o) (fields_text gs xs))
    value_in (tree.function l xs) = refl
    value_in (tree.end x) = refl

    fields_in : (xs : ValueTrees) → fields_text fs xs ≡ fields_text gs xs
    fields_in tree.none = refl
    fields_in (tree.value x xs) = λ i. codes " " ++ field_text (enclosed_in x i) (value_in x i) ++ fields_in xs i

  pub same_family_names : family_names fs ≡ family_names gs
  same_family_names = same_map family_parts (λ p. p.0) fs gs alike

-- ---- reports

-- a channel by its parts
pub record History : Type 0 where
  pub name : ChannelName
  pub declared : Tree
  pub entries : List Entry

-- those of a channel of a report
abbrev pub history_parts : ChannelHistory → History
history_parts j = record { name = j.name; declared = j.declared; entries = j.entries.items }

-- both lines of a channel
abbrev parts_text : List (List ℕ) → History → List ℕ
parts_text names h =
    (codes "channel " ++ channel_text h.name ++ codes " : " ++ type_text names h.declared ++ codes "\n")
    ++ (codes "history " ++ channel_text h.name ++ codes " :" ++ entries_text h.declared h.entries ++ codes "\n")

histories_text : (families : List Family) (js : List ChannelHistory) →
    flat_map (history_text families) js ≡ flat_map (parts_text (family_names families)) (map history_parts js)
histories_text families [] = refl
histories_text families (j ∷ js) =
    flat_map-cons (history_text families) j js ∙ ap (λ l. history_text families j ++ l) (histories_text families js) ∙
    sym (flat_map-cons (parts_text (family_names families)) (history_parts j) (map history_parts js))

-- two reports say the same
pub record AreOneReport (r q : Report) : Type 0 where
  pub result : (families : List Family) → result_text families r.result ≡ result_text families q.result
  pub waiting : r.waiting.items ≡ q.waiting.items
  pub channels : map history_parts r.channels.items ≡ map history_parts q.channels.items
  pub events : r.events ≡ q.events

module _ (m : Program) (c : Config) where
  one_result : (families : List Family) (o u : Option ValueTree) → IsMainResult m c o → IsMainResult m c u →
      result_text families o ≡ result_text families u
  one_result families None None a b = refl
  one_result families None (Some y) a b = absurd (a b.0 b.1 b.2 b.3)
  one_result families (Some x) None a b = absurd (b a.0 a.1 a.2 a.3)
  one_result families (Some x) (Some y) a b =
      let task = same_Some a.0 b.0 (sym a.2 ∙ b.2) in
      let stops : ended a.1 ≡ ended b.1 = sym a.3 ∙ ap (λ (t : Task). pause m.families t.state) task ∙ b.3 in
      let value : a.1 ≡ b.1 = cc in
      value_once families x y b.1 (subst (IsAlike x) value a.4) b.4

  history_there : (n : ℕ) (r q : Report) → IsReport m c n r → IsReport m c n q →
      (h : History) → Contains (map history_parts r.channels.items) h → Contains (map history_parts q.channels.items) h
  history_there n r q a b h i =
      let j = from_map history_parts r.channels.items h i in
      let k : Channel = record { declared = j.0.declared; history = j.0.entries.items } in
      let there = (a.channels j.0.name k).1 (j.0, j.1, refl, refl, refl) in
      let l = (b.channels j.0.name k).0 there in
      let same : history_parts l.0 ≡ h = (λ s. record { name = l.2 s; declared = l.3 s; entries = l.4 s }) ∙ j.2 in
      subst (Contains (map history_parts q.channels.items)) same (to_map history_parts q.channels.items l.0 l.1)

  -- a configuration has one report
  pub one_report : (n : ℕ) (r q : Report) → IsReport m c n r → IsReport m c n q → AreOneReport r q
  one_report n r q a b = record {
    result = λ families. one_result families r.result q.result a.result b.result;
    waiting = one_rising (λ (v w : Waiting). IsBefore v.task w.task)
        (λ v w. paths_apart v.task w.task) r.waiting.items q.waiting.items a.waiting_order b.waiting_order
        (λ w i. (b.waiting w.task w.end).1 ((a.waiting w.task w.end).0 i))
        (λ w i. (a.waiting w.task w.end).1 ((b.waiting w.task w.end).0 i));
    channels = one_rising (λ (h k : History). ComesBefore h.name k.name)
        (λ h k. channels_apart h.name k.name) (map history_parts r.channels.items) (map history_parts q.channels.items)
        (map_rises history_parts (λ (h k : History). ComesBefore h.name k.name) r.channels.items a.channels_order)
        (map_rises history_parts (λ (h k : History). ComesBefore h.name k.name) q.channels.items b.channels_order)
        (history_there n r q a b) (history_there n q r b a);
    events = a.events ∙ sym b.events;
  }

-- how reports are written: those that say the same in the same way, by the parts of data types
abbrev pub IsWritten : (List Family → Report → List ℕ) → Type 0
IsWritten text = (fs gs : List Family) → map family_parts fs ≡ map family_parts gs →
    (r q : Report) → AreOneReport r q → text fs r ≡ text gs q

-- the value of main is written in one way, by the parts of data types
pub result_in : (fs gs : List Family) → map family_parts fs ≡ map family_parts gs →
    (o : Option ValueTree) → result_text fs o ≡ result_text gs o
result_in fs gs alike None = refl
result_in fs gs alike (Some x) = value_in fs gs alike x

pub report_written : IsWritten report_text
report_written fs gs alike r q s =
    let result = result_in fs gs alike r.result ∙ s.result gs in
    let channels = histories_text fs r.channels.items
    ∙ (λ i. flat_map (parts_text (same_family_names fs gs alike i)) (s.channels i))
    ∙ sym (histories_text gs q.channels.items) in
    λ i. (codes "result " ++ result i ++ codes "\n") ++ flat_map waiting_text (s.waiting i) ++ channels i

pub summary_written : (n : ℕ) → IsWritten (λ families r. summary_text n r)
summary_written n fs gs alike r q s =
    let count : length r.channels.items ≡ length q.channels.items = sym (length-map r.channels.items history_parts)
    ∙ ap length s.channels ∙ length-map q.channels.items history_parts in
    λ i. count_line (codes "bytes") n ++ count_line (codes "events") (s.events i) ++ count_line (codes "channels")
    (count i) ++ (codes "result " ++ s.result [] i ++ codes "\n")
