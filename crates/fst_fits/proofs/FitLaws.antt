-- Which types of parts fit a row.
use Rattle.std.proofs.Common.{◌≡◌, ◌∙◌, ℕ, Bool, true, false, ◌&&◌, List, [], Option, Some, None, slice_get, refl, ap}
use Rattle.std.specs.Prelude.{if◌then◌else◌}
use mathlib.Core.Logic.{inl, inr}
use Rattle.std.proofs.lemmas.Option.{same_Some}
use Rattle.fst_types.specs.Tree as type
use Rattle.fst_types.specs.Tree.{Tree, plain, arrow, named}
use Rattle.fst_types.specs.Instance.{instantiated}
use Rattle.fst_types.specs.declared.base.Base.{Base}
use Rattle.fst_types.specs.declared.base.Base.TheVariants.{Int, Bool as Truth, Char, Unit as Nothing}
use Rattle.fst_types.specs.declared.kind.Kind.{Kind}
use Rattle.fst_types.specs.declared.kind.Use.{Use}
use Rattle.fst_types.specs.declared.kind.Use.TheVariants.{Many, Once}
use Rattle.fst_types.specs.declared.label.Label.{Label}
use Rattle.fst_types.specs.declared.label.Label.TheVariants.{Send, Receive}
use Rattle.fst_kinds.specs.WellFormed.{IsSession, IsInstantiation}
use Rattle.fst_lts.specs.Step.{step}
use Rattle.fst_lts.specs.Dual.{dual}
use Rattle.fst_terms.specs.declared.global.GlobalEntry.{GlobalEntry}
use Rattle.fst_terms.specs.declared.term.Op.{Op}
use Rattle.fst_terms.specs.declared.term.Op.TheVariants.{Add, Subtract, Multiply, Equal, Unequal, Less, AtMost, Greater, AtLeast, And, Or}
use Rattle.fst_derivations.specs.Parts.{AreAt, IsComparable}
use Rattle.fst_derivations.specs.Rules.{Operates}
use Rattle.fst_fits.specs.Tests.{same_tree, has_some, kind_in, is_session, arrow_parts, arrow_of, pair_parts, is_pair, is_arrow, same_use, base_of, family_number, applies, is_ordered, operates, sends, receives, receives_pair, is_channel, types_at, instantiates, is_instance, is_global_type}
use Rattle.fst_fits.proofs.TestLaws.{and_left, and_right, and_both, tree_same, tree_itself, type_is, of_type, has_session, of_session, types_are, are_types, instantiation, of_instantiation}

-- ---- what types are made of

pub arrow_is : (a : Tree) (p : Tree × Tree) → arrow_parts a ≡ Some p → (u : Use) × (a ≡ arrow u p.0 p.1)
arrow_is (arrow u s t) p h = (u, λ i. arrow u (same_Some (s, t) p h i).0 (same_Some (s, t) p h i).1)
arrow_is _ p h = absurd (cc h)

pub pair_is : (a : Tree) (p : Tree × Tree) → pair_parts a ≡ Some p → a ≡ type.pair p.0 p.1
pair_is (type.pair s t) p h = λ i. type.pair (same_Some (s, t) p h i).0 (same_Some (s, t) p h i).1
pair_is _ p h = absurd (cc h)

pub base_is : (a : Tree) (b : Base) → base_of a ≡ Some b → a ≡ plain b
base_is (plain b) c h = ap plain (same_Some b c h)
base_is _ c h = absurd (cc h)

pub family_is : (a : Tree) (n : ℕ) → family_number a ≡ Some n → a ≡ named n
family_is (named k) n h = ap named (same_Some k n h)
family_is _ n h = absurd (cc h)

pair_some : (o : Option (Tree × Tree)) (a b : Tree) → is_pair o a b ≡ true → o ≡ Some (a, b)
pair_some None a b h = absurd (cc h)
pair_some (Some p) a b h =
    let x = tree_same p.0 a (and_left (same_tree p.0 a) (same_tree p.1 b) h) in
    let y = tree_same p.1 b (and_right (same_tree p.0 a) (same_tree p.1 b) h) in
    λ i. Some (x i, y i)

pub paired : (t a b : Tree) → is_pair (pair_parts t) a b ≡ true → t ≡ type.pair a b
paired t a b h = pair_is t (a, b) (pair_some (pair_parts t) a b h)

pub of_paired : (t a b : Tree) → t ≡ type.pair a b → is_pair (pair_parts t) a b ≡ true
of_paired t a b e = ap (λ z. is_pair (pair_parts z) a b) e
    ∙ and_both (same_tree a a) (same_tree b b) (tree_itself a a refl) (tree_itself b b refl)

use_same : (u v : Use) → same_use u v ≡ true → u ≡ v
use_same Many Many h = refl
use_same Many Once h = absurd (cc h)
use_same Once Many h = absurd (cc h)
use_same Once Once h = refl

use_itself : (u : Use) → same_use u u ≡ true
use_itself Many = refl
use_itself Once = refl

function_is : (t : Tree) (p : Use × (Tree × Tree)) → arrow_of t ≡ Some p → t ≡ arrow p.0 p.1.0 p.1.1
function_is (arrow u s r) p h = λ i. arrow (same_Some (u, (s, r)) p h i).0 (same_Some (u, (s, r)) p h i).1.0
    (same_Some (u, (s, r)) p h i).1.1
function_is _ p h = absurd (cc h)

function_some : (o : Option (Use × (Tree × Tree))) (u : Use) (a b : Tree) → is_arrow o u a b ≡ true → o ≡ Some (u, (a, b))
function_some None u a b h = absurd (cc h)
function_some (Some p) u a b h =
    let f = same_use p.0 u in
    let g = same_tree p.1.0 a in
    let k = same_tree p.1.1 b in
    let rest = and_right f (g && k) h in
    let x = use_same p.0 u (and_left f (g && k) h) in
    let y = tree_same p.1.0 a (and_left g k rest) in
    let z = tree_same p.1.1 b (and_right g k rest) in
    λ i. Some (x i, (y i, z i))

pub function : (t a b : Tree) (u : Use) → is_arrow (arrow_of t) u a b ≡ true → t ≡ arrow u a b
function t a b u h = function_is t (u, (a, b)) (function_some (arrow_of t) u a b h)

pub of_function : (t a b : Tree) (u : Use) → t ≡ arrow u a b → is_arrow (arrow_of t) u a b ≡ true
of_function t a b u e =
    ap (λ z. is_arrow (arrow_of z) u a b) e
    ∙ and_both (same_use u u) (same_tree a a && same_tree b b) (use_itself u)
    (and_both (same_tree a a) (same_tree b b) (tree_itself a a refl) (tree_itself b b refl))

-- ---- application

applies_some : (o : Option (Tree × Tree)) (b t : Tree) → applies o b t ≡ true → o ≡ Some (b, t)
applies_some None b t h = absurd (cc h)
applies_some (Some p) b t h =
    let x = tree_same p.0 b (and_left (same_tree p.0 b) (same_tree p.1 t) h) in
    let y = tree_same p.1 t (and_right (same_tree p.0 b) (same_tree p.1 t) h) in
    λ i. Some (x i, y i)

pub applied : (a b t : Tree) → applies (arrow_parts a) b t ≡ true → (u : Use) × (a ≡ arrow u b t)
applied a b t h = arrow_is a (b, t) (applies_some (arrow_parts a) b t h)

pub of_applied : (a b t : Tree) (u : Use) → a ≡ arrow u b t → applies (arrow_parts a) b t ≡ true
of_applied a b t u e = ap (λ z. applies (arrow_parts z) b t) e
    ∙ and_both (same_tree b b) (same_tree t t) (tree_itself b b refl) (tree_itself t t refl)

-- ---- signs

ordered : (s : Tree) (b : Bool) → same_tree s (plain Int) ≡ b →
    (if b then true else same_tree s (plain Char)) ≡ true → IsComparable s
ordered s true e h = inl (tree_same s (plain Int) e)
ordered s false e h = inr (tree_same s (plain Char) h)

of_ordered : (s : Tree) → IsComparable s → is_ordered s ≡ true
of_ordered s (inl e) = ap (λ b. if b then true else same_tree s (plain Char)) (tree_itself s (plain Int) e)
of_ordered s (inr e) = either (same_tree s (plain Int)) (tree_itself s (plain Char) e)
  where
    either : (b : Bool) → same_tree s (plain Char) ≡ true → (if b then true else same_tree s (plain Char)) ≡ true
    either true h = refl
    either false h = h

both_are : (s t x y : Tree) → (same_tree s x && same_tree t y) ≡ true → (s ≡ x) × (t ≡ y)
both_are s t x y h = (
  tree_same s x (and_left (same_tree s x) (same_tree t y) h),
  tree_same t y (and_right (same_tree s x) (same_tree t y) h),
)

of_both : (s t x y : Tree) → (s ≡ x) × (t ≡ y) → (same_tree s x && same_tree t y) ≡ true
of_both s t x y e = and_both (same_tree s x) (same_tree t y) (tree_itself s x e.0) (tree_itself t y e.1)

compared : (s t : Tree) → (is_ordered s && same_tree t (plain Truth)) ≡ true → IsComparable s × (t ≡ plain Truth)
compared s t h = (
  ordered s (same_tree s (plain Int)) refl (and_left (is_ordered s) (same_tree t (plain Truth)) h),
  tree_same t (plain Truth) (and_right (is_ordered s) (same_tree t (plain Truth)) h),
)

of_compared : (s t : Tree) → IsComparable s × (t ≡ plain Truth) → (is_ordered s && same_tree t (plain Truth)) ≡ true
of_compared s t e = and_both (is_ordered s) (same_tree t (plain Truth)) (of_ordered s e.0) (tree_itself t (plain Truth) e.1)

pub operated : (o : Op) (s t : Tree) → operates o s t ≡ true → Operates o s t
operated Add s t h = both_are s t (plain Int) (plain Int) h
operated Subtract s t h = both_are s t (plain Int) (plain Int) h
operated Multiply s t h = both_are s t (plain Int) (plain Int) h
operated Equal s t h = compared s t h
operated Unequal s t h = compared s t h
operated Less s t h = compared s t h
operated AtMost s t h = compared s t h
operated Greater s t h = compared s t h
operated AtLeast s t h = compared s t h
operated And s t h = both_are s t (plain Truth) (plain Truth) h
operated Or s t h = both_are s t (plain Truth) (plain Truth) h

pub of_operated : (o : Op) (s t : Tree) → Operates o s t → operates o s t ≡ true
of_operated Add s t h = of_both s t (plain Int) (plain Int) h
of_operated Subtract s t h = of_both s t (plain Int) (plain Int) h
of_operated Multiply s t h = of_both s t (plain Int) (plain Int) h
of_operated Equal s t h = of_compared s t h
of_operated Unequal s t h = of_compared s t h
of_operated Less s t h = of_compared s t h
of_operated AtMost s t h = of_compared s t h
of_operated Greater s t h = of_compared s t h
of_operated AtLeast s t h = of_compared s t h
of_operated And s t h = of_both s t (plain Truth) (plain Truth) h
of_operated Or s t h = of_both s t (plain Truth) (plain Truth) h

-- ---- channels

sent_some : (a : Tree) (o : Option Base) (s t : Tree) → base_of a ≡ o → sends o s t ≡ true → (b : Base) × (a ≡ plain b) ×
    (step s (Send b) ≡ Some t)
sent_some a None s t e h = absurd (cc h)
sent_some a (Some b) s t e h = (b, base_is a b e, type_is (step s (Send b)) t h)

pub sent : (a s t : Tree) → sends (base_of a) s t ≡ true → (b : Base) × (a ≡ plain b) × (step s (Send b) ≡ Some t)
sent a s t h = sent_some a (base_of a) s t refl h

pub of_sent : (a s t : Tree) (b : Base) → a ≡ plain b → step s (Send b) ≡ Some t → sends (base_of a) s t ≡ true
of_sent a s t b e h = ap (λ z. sends (base_of z) s t) e ∙ of_type (step s (Send b)) t h

received_some : (a : Tree) (o : Option Base) (s r : Tree) → base_of a ≡ o → receives o s r ≡ true → (b : Base) × (a ≡ plain b) ×
    (step s (Receive b) ≡ Some r)
received_some a None s r e h = absurd (cc h)
received_some a (Some b) s r e h = (b, base_is a b e, type_is (step s (Receive b)) r h)

received_pair : (t : Tree) (o : Option (Tree × Tree)) (s : Tree) → pair_parts t ≡ o → receives_pair o s ≡ true → (b : Base) ×
    (r : Tree) × (t ≡ type.pair (plain b) r) × (step s (Receive b) ≡ Some r)
received_pair t None s e h = absurd (cc h)
received_pair t (Some p) s e h =
    let x = received_some p.0 (base_of p.0) s p.1 refl h in
    (x.0, p.1, pair_is t p e ∙ ap (λ z. type.pair z p.1) x.1, x.2)

pub received : (t s : Tree) → receives_pair (pair_parts t) s ≡ true → (b : Base) × (r : Tree) × (t ≡ type.pair (plain b) r) ×
    (step s (Receive b) ≡ Some r)
received t s h = received_pair t (pair_parts t) s refl h

pub of_received : (t s r : Tree) (b : Base) → t ≡ type.pair (plain b) r → step s (Receive b) ≡ Some r →
    receives_pair (pair_parts t) s ≡ true
of_received t s r b e h = ap (λ z. receives_pair (pair_parts z) s) e ∙ of_type (step s (Receive b)) r h

there_is : (o : Option Tree) → has_some o ≡ true → (r : Tree) × (o ≡ Some r)
there_is None h = absurd (cc h)
there_is (Some r) h = (r, refl)

-- a closing, or a wait for one, leaves the value without content
pub ended : (t s : Tree) (l : Label) → (same_tree t (plain Nothing) && has_some (step s l)) ≡ true → (r : Tree) ×
    (t ≡ plain Nothing) × (step s l ≡ Some r)
ended t s l h =
    let m = there_is (step s l) (and_right (same_tree t (plain Nothing)) (has_some (step s l)) h) in
    (m.0, tree_same t (plain Nothing) (and_left (same_tree t (plain Nothing)) (has_some (step s l)) h), m.1)

pub of_ended : (t s r : Tree) (l : Label) → t ≡ plain Nothing → step s l ≡ Some r →
    (same_tree t (plain Nothing) && has_some (step s l)) ≡ true
of_ended t s r l e h = and_both (same_tree t (plain Nothing)) (has_some (step s l)) (tree_itself t (plain Nothing) e)
    (ap has_some h)

pub channel : (o : Option Tree) (t : Tree) → is_channel o t ≡ true → (s : Tree) × (o ≡ Some s) × IsSession [] s ×
    (t ≡ type.pair s (dual s))
channel None t h = absurd (cc h)
channel (Some s) t h =
    let a = is_session (kind_in [] s) in
    let b = is_pair (pair_parts t) s (dual s) in
    (s, refl, has_session s (and_left a b h), paired t s (dual s) (and_right a b h))

pub of_channel : (o : Option Tree) (t s : Tree) → o ≡ Some s → IsSession [] s → t ≡ type.pair s (dual s) → is_channel o t ≡ true
of_channel o t s e w p =
    ap (λ z. is_channel z t) e ∙ and_both (is_session (kind_in [] s)) (is_pair (pair_parts t) s (dual s)) (of_session s w)
    (of_paired t s (dual s) p)

-- ---- globals

abbrev pub IsGlobalType : List Kind → List Tree → Option GlobalEntry → List ℕ → Tree → Type 0
IsGlobalType vars types o ks t =
    (f : GlobalEntry) × (s : Tree) × (args : List Tree) ×
    (o ≡ Some f) × (slice_get types f.signature ≡ Some s) × AreAt types ks args × IsInstantiation vars f.kinds.items args ×
    (t ≡ instantiated args s)

instance_is : (vars kinds : List Kind) (o : Option Tree) (p : Option (List Tree)) (t : Tree) →
    is_instance vars kinds o p t ≡ true →
    (s : Tree) × (args : List Tree) × (o ≡ Some s) × (p ≡ Some args) × IsInstantiation vars kinds args × (t ≡ instantiated args s)
instance_is vars kinds None p t h = absurd (cc h)
instance_is vars kinds (Some s) None t h = absurd (cc h)
instance_is vars kinds (Some s) (Some args) t h =
    let a = instantiates vars kinds args in
    let b = same_tree t (instantiated args s) in
    (s, args, refl, refl, instantiation vars kinds args (and_left a b h), tree_same t (instantiated args s) (and_right a b h))

pub global_type : (vars : List Kind) (types : List Tree) (o : Option GlobalEntry) (ks : List ℕ) (t : Tree) →
    is_global_type vars types o ks t ≡ true → IsGlobalType vars types o ks t
global_type vars types None ks t h = absurd (cc h)
global_type vars types (Some f) ks t h =
    let x = instance_is vars f.kinds.items (slice_get types f.signature) (types_at types ks) t h in
    (f, x.0, x.1, refl, x.2, types_are types ks x.1 x.3, x.4, x.5)

pub of_global_type : (vars : List Kind) (types : List Tree) (o : Option GlobalEntry) (ks : List ℕ) (t : Tree) →
    IsGlobalType vars types o ks t → is_global_type vars types o ks t ≡ true
of_global_type vars types o ks t (f, s, args, e, q, at, i, r) =
    ap (λ z. is_global_type vars types z ks t) e
    ∙ ap (λ z. is_instance vars f.kinds.items z (types_at types ks) t) q
    ∙ ap (λ z. is_instance vars f.kinds.items (Some s) z t) (are_types types ks args at)
    ∙ and_both (instantiates vars f.kinds.items args) (same_tree t (instantiated args s))
    (of_instantiation vars f.kinds.items args i) (tree_itself t (instantiated args s) r)
