-- How deep the tokens of a type are nested as it is printed: in each derivation of it so deep or deeper.
use Rattle.std.proofs.Common.{◌≡◌, ℕ, suc, ◌+◌, ◌≤◌, max, Bool, true, false, List, [], ◌∷◌, ◌++◌, Some, None, refl, sym, ap, ◌∙◌, arith}
use Rattle.std.specs.Prelude.{Option, option_map, unwrap_or, ⊤}
use Rattle.std.specs.declared.cmp.Ordering.{Ordering}
use Rattle.std.specs.declared.cmp.Ordering.TheVariants.{Less, Equal, Greater}
use Rattle.std.specs.Ordering.{nat_cmp}
use Rattle.std.specs.Cmp.Lexicographic.{slice_cmp}
use Rattle.fst_types.specs.declared.base.Base.{Base}
use Rattle.fst_types.specs.Tree as tree
use Rattle.fst_types.specs.Tree.{Tree, Branches}
use Rattle.fst_types.specs.WrittenTree as written
use Rattle.fst_types.specs.WrittenTree.{WrittenTree, WrittenBranches, none, branch}
use Rattle.fst_reading.specs.Lexeme.{Lexeme}
use Rattle.fst_reading.specs.Faults.{level, IsWithinLimit}
use Rattle.fst_type_syntax.specs.Grammar as grammar
use Rattle.fst_type_syntax.specs.Grammar.{IsBase, IsArrow, IsType, IsSeq, IsAtom, IsAlts, IsAlt}
use Rattle.fst_type_syntax.specs.Nesting.{type_nests, seq_nests, atom_nests, alts_nests, alt_nests}
use Rattle.fst_type_print.specs.WrittenTexts.{is_compound, is_arrow}
use Rattle.fst_terms.specs.Arranged.{insert, insert_by}
use Rattle.fst_terms.specs.Naming as naming
use Rattle.fst_terms.specs.Naming.{Scope, within, or_else, place_of, meaning, type_of, branches_of}
use Rattle.fst_roundtrip.specs.Unplaced.{unplaced_type, unplaced_branches}
use Rattle.fst_roundtrip.proofs.WrittenForms.{as_written, all_written}
use Rattle.fst_roundtrip.proofs.Nestings.{front, behind}
use Rattle.fst_roundtrip.proofs.Unplaced.{arrow_same, compound_same}

-- the depth where a `type` stands, from that where a `seqtype` does, in which a function is in parentheses
abbrev pub type_level : Bool → ℕ → ℕ
type_level true n = n
type_level false n = suc n

-- the depth where an atomic type stands, also from whether the type is in parentheses there
abbrev pub atom_level : Bool → Bool → ℕ → ℕ
atom_level arrow true n = type_level arrow n
atom_level arrow false n = n

abbrev mutual
  -- how many `seqtype`s are inside one another in a type as it is printed where a `seqtype` stands, that one not counted
  pub seq_depth : WrittenTree → ℕ
  seq_depth (written.skip at) = 0
  seq_depth (written.send at b) = 0
  seq_depth (written.receive at b) = 0
  seq_depth (written.close at) = 0
  seq_depth (written.wait at) = 0
  seq_depth (written.select at bs) = all_depth bs
  seq_depth (written.offer at bs) = all_depth bs
  seq_depth (written.seq at s t) = max (atom_level (is_arrow s) (is_compound s) (seq_depth s)) (suc (seq_depth t))
  seq_depth (written.rec at x t) = suc (seq_depth t)
  seq_depth (written.named at x) = 0
  seq_depth (written.plain at b) = 0
  seq_depth (written.arrow at u s t) = suc (max (seq_depth s) (type_level (is_arrow t) (seq_depth t)))
  seq_depth (written.pair at s t) = max (type_level (is_arrow s) (seq_depth s)) (type_level (is_arrow t) (seq_depth t))

  -- so many in the branches of a choice, each of which has one
  pub all_depth : WrittenBranches → ℕ
  all_depth none = 0
  all_depth (branch l t bs) = max (suc (seq_depth t)) (all_depth bs)

-- the same where a `type` stands, and where an atomic one does
abbrev pub type_depth : WrittenTree → ℕ
type_depth w = type_level (is_arrow w) (seq_depth w)

abbrev pub atom_depth : WrittenTree → ℕ
atom_depth w = atom_level (is_arrow w) (is_compound w) (seq_depth w)

-- a type at other places is as much a function, is as much in parentheses, and is as deep
mutual
  depth_bare : (t : WrittenTree) → seq_depth (unplaced_type t) ≡ seq_depth t
  depth_bare (written.select at bs) = all_bare bs
  depth_bare (written.offer at bs) = all_bare bs
  depth_bare (written.seq at s t) = λ i. max (atom_level (arrow_same s i) (compound_same s i) (depth_bare s i))
      (suc (depth_bare t i))
  depth_bare (written.rec at x t) = ap suc (depth_bare t)
  depth_bare (written.arrow at u s t) = λ i. suc (max (depth_bare s i) (type_level (arrow_same t i) (depth_bare t i)))
  depth_bare (written.pair at s t) = λ i. max (type_level (arrow_same s i) (depth_bare s i))
      (type_level (arrow_same t i) (depth_bare t i))
  depth_bare _ = refl

  all_bare : (bs : WrittenBranches) → all_depth (unplaced_branches bs) ≡ all_depth bs
  all_bare none = refl
  all_bare (branch l t bs) = λ i. max (suc (depth_bare t i)) (all_bare bs i)

pub same_arrow : (v w : WrittenTree) → unplaced_type v ≡ unplaced_type w → is_arrow v ≡ is_arrow w
same_arrow v w e = sym (arrow_same v) ∙ ap is_arrow e ∙ arrow_same w

pub same_compound : (v w : WrittenTree) → unplaced_type v ≡ unplaced_type w → is_compound v ≡ is_compound w
same_compound v w e = sym (compound_same v) ∙ ap is_compound e ∙ compound_same w

pub same_depth : (v w : WrittenTree) → unplaced_type v ≡ unplaced_type w → seq_depth v ≡ seq_depth w
same_depth v w e = sym (depth_bare v) ∙ ap seq_depth e ∙ depth_bare w

-- a base type has a token
base_low : (ts : List Lexeme) (b : Base) (d limit : ℕ) → IsBase ts b → IsWithinLimit limit (level d ts) → d ≤ limit
base_low _ _ d limit (grammar.int k is) p = p.0
base_low _ _ d limit (grammar.bool k is) p = p.0
base_low _ _ d limit (grammar.char k is) p = p.0
base_low _ _ d limit (grammar.unit k c is closes) p = p.0

-- a depth without parentheses is no greater than in them
out_of_type : (arrow : Bool) (n : ℕ) → type_level arrow n ≤ suc n
out_of_type true n = omega arith
out_of_type false n = omega arith

out_of_atom : (arrow compound : Bool) (n : ℕ) → atom_level arrow compound n ≤ type_level arrow n
out_of_atom arrow true n = omega arith
out_of_atom true false n = omega arith
out_of_atom false false n = omega arith

in_atom : (arrow compound : Bool) (n : ℕ) → n ≤ atom_level arrow compound n
in_atom true true n = omega arith
in_atom false true n = omega arith
in_atom arrow false n = omega arith

mutual
  -- each derivation of a type nests some token as deep as the type is printed
  pub no_deeper : (ts : List Lexeme) (w : WrittenTree) (s : IsSeq ts w) (d limit : ℕ) → IsWithinLimit limit (seq_nests d s) →
      d + seq_depth w ≤ limit
  no_deeper _ _ (grammar.rec k x dot ts t is name is' s) d limit p =
      omega (arith, no_deeper ts t s (suc d) limit p.1.1.1)
  no_deeper _ _ (grammar.atom ts t a) d limit p =
      omega (arith, atom_no_deeper ts t a d limit p, in_atom (is_arrow t) (is_compound t) (seq_depth t))
  no_deeper _ _ (grammar.chain ts us all k t u a is s parts) d limit p =
      let q = behind limit (atom_nests d a) (d ∷ seq_nests (suc d) s) p in
      omega (
        arith,
        atom_no_deeper ts t a d limit (front limit (atom_nests d a) (d ∷ seq_nests (suc d) s) p),
        no_deeper us u s (suc d) limit q.1,
      )

  pub type_no_deeper : (ts : List Lexeme) (w : WrittenTree) (s : IsType ts w) (d limit : ℕ) →
      IsWithinLimit limit (type_nests d s) → d + type_depth w ≤ limit
  type_no_deeper _ _ (grammar.single ts t s) d limit p =
      omega (arith, no_deeper ts t s (suc d) limit p, out_of_type (is_arrow t) (seq_depth t))
  type_no_deeper _ _ (grammar.arrow ts ks us all t u uses s is r parts) d limit p =
      let q = behind limit (seq_nests (suc d) s) (level (suc d) ks ++ type_nests (suc d) r) p in
      omega (
        arith,
        no_deeper ts t s (suc d) limit (front limit (seq_nests (suc d) s) (level (suc d) ks ++ type_nests (suc d) r) p),
        type_no_deeper us u r (suc d) limit (behind limit (level (suc d) ks) (type_nests (suc d) r) q),
      )

  pub atom_no_deeper : (ts : List Lexeme) (w : WrittenTree) (a : IsAtom ts w) (d limit : ℕ) →
      IsWithinLimit limit (atom_nests d a) → d + atom_depth w ≤ limit
  atom_no_deeper _ _ (grammar.skip k is) d limit p = omega (arith, p.0)
  atom_no_deeper _ _ (grammar.send k ts b is base) d limit p = omega (arith, p.0)
  atom_no_deeper _ _ (grammar.receive k ts b is base) d limit p = omega (arith, p.0)
  atom_no_deeper _ _ (grammar.close k is) d limit p = omega (arith, p.0)
  atom_no_deeper _ _ (grammar.wait k is) d limit p = omega (arith, p.0)
  atom_no_deeper _ _ (grammar.select k o c ts all bs is opens a closes parts) d limit p =
      alts_no_deeper ts bs a d limit (front limit (alts_nests d a) (d ∷ []) p.1.1)
  atom_no_deeper _ _ (grammar.offer k o c ts all bs is opens a closes parts) d limit p =
      alts_no_deeper ts bs a d limit (front limit (alts_nests d a) (d ∷ []) p.1.1)
  atom_no_deeper _ _ (grammar.plain ts b base) d limit p = omega (arith, base_low ts b d limit base p)
  atom_no_deeper _ _ (grammar.lower k is) d limit p = omega (arith, p.0)
  atom_no_deeper _ _ (grammar.upper k is) d limit p = omega (arith, p.0)
  atom_no_deeper _ _ (grammar.group k c ts all t is s closes parts) d limit p =
      omega (
        arith,
        type_no_deeper ts t s d limit (front limit (type_nests d s) (d ∷ []) p.1),
        out_of_atom (is_arrow t) (is_compound t) (seq_depth t),
      )
  atom_no_deeper _ _ (grammar.pair k m c ts us all t u is x comma y closes parts) d limit p =
      let q = behind limit (type_nests d x) (d ∷ (type_nests d y ++ d ∷ [])) p.1 in
      omega (
        arith,
        type_no_deeper ts t x d limit (front limit (type_nests d x) (d ∷ (type_nests d y ++ d ∷ [])) p.1),
        type_no_deeper us u y d limit (front limit (type_nests d y) (d ∷ []) q.1),
      )

  alts_no_deeper : (ts : List Lexeme) (bs : WrittenBranches) (a : IsAlts ts bs) (d limit : ℕ) →
      IsWithinLimit limit (alts_nests d a) → d + all_depth bs ≤ limit
  alts_no_deeper _ _ (grammar.last ts l t a) d limit p = omega (arith, alt_no_deeper ts l t a d limit p)
  alts_no_deeper _ _ (grammar.further ts us all k l t bs a is s parts) d limit p =
      let q = behind limit (alt_nests d a) (d ∷ alts_nests d s) p in
      omega (
        arith,
        alt_no_deeper ts l t a d limit (front limit (alt_nests d a) (d ∷ alts_nests d s) p),
        alts_no_deeper us bs s d limit q.1,
      )

  alt_no_deeper : (ts : List Lexeme) (l : List ℕ) (w : WrittenTree) (a : IsAlt ts l w) (d limit : ℕ) →
      IsWithinLimit limit (alt_nests d a) → d + suc (seq_depth w) ≤ limit
  alt_no_deeper _ _ _ (grammar.alt l c ts t name colon s) d limit p = omega (arith, no_deeper ts t s (suc d) limit p.1.1)

-- a type that is `Skip`, or nothing
abbrev pub IsFlat : Option Tree → Type 0
IsFlat None = ⊤
IsFlat (Some t) = t ≡ tree.skip

abbrev pub DeclaresFlatName : Option (Option Tree) → Type 0
DeclaresFlatName None = ⊤
DeclaresFlatName (Some o) = IsFlat o

-- each name that is declared stands for `Skip` or nothing, and so does any other
abbrev pub DeclaresFlat : Scope → Type 0
DeclaresFlat sc = ((x : List ℕ) → DeclaresFlatName (sc.declared x)) × IsFlat sc.otherwise

-- a type that is one token
record IsWord (w : WrittenTree) : Type 0 where
  arrow : is_arrow w ≡ false
  compound : is_compound w ≡ false
  depth : seq_depth w ≡ 0

-- what a name stands for is one
meaning_flat : (names : List (List ℕ)) (n : ℕ) (p q : Option ℕ) (r : Option (Option Tree)) (o : Option Tree) (t : Tree) →
    DeclaresFlatName r → IsFlat o →
    unwrap_or (or_else (option_map (λ k. Some (tree.back k)) p) (or_else (option_map (λ k. Some (tree.var k)) q) r)) o ≡ Some t →
    IsWord (as_written names n t)
meaning_flat names n (Some k) q r o t flat other e =
    let is : t ≡ tree.back k = cc in rw is (record { arrow = refl; compound = refl; depth = refl })
meaning_flat names n None (Some k) r o t flat other e =
    let is : t ≡ tree.var k = cc in rw is (record { arrow = refl; compound = refl; depth = refl })
meaning_flat names n None None (Some (Some u)) o t flat other e =
    let is : t ≡ tree.skip = cc in rw is (record { arrow = refl; compound = refl; depth = refl })
meaning_flat names n None None (Some None) o t flat other e = absurd (cc e)
meaning_flat names n None None None (Some u) t flat other e =
    let is : t ≡ tree.skip = cc in rw is (record { arrow = refl; compound = refl; depth = refl })
meaning_flat names n None None None None t flat other e = absurd (cc e)

named_flat : (names : List (List ℕ)) (n : ℕ) (sc : Scope) (x : List ℕ) (t : Tree) → DeclaresFlat sc → meaning sc x ≡ Some t →
    IsWord (as_written names n t)
named_flat names n sc x t flat e =
    meaning_flat names n (place_of sc.recs x) (place_of sc.vars x) (sc.declared x) sc.otherwise t (flat.0 x) flat.1 e

-- what is made of two values, or of one
both_made : {A B C : Type 0} (f : A → B → C) (x : Option A) (y : Option B) (c : C) → naming.both f x y ≡ Some c →
    (a : A) × (b : B) × (x ≡ Some a) × (y ≡ Some b) × (c ≡ f a b)
unfolding naming.both
both_made f (Some a) (Some b) c e = (a, b, refl, refl, cc)
both_made f (Some a) None c e = absurd (cc e)
both_made f None y c e = absurd (cc e)

one_made : {A B : Type 0} (f : A → B) (x : Option A) (b : B) → option_map f x ≡ Some b → (a : A) × (x ≡ Some a) × (b ≡ f a)
one_made f (Some a) b e = (a, refl, cc)
one_made f None b e = absurd (cc e)

-- what a type means is printed as much as a function, and as much in parentheses
record HasShape (v w : WrittenTree) : Type 0 where
  arrow : is_arrow v ≡ is_arrow w
  compound : is_compound v ≡ is_compound w

shape : (names : List (List ℕ)) (n : ℕ) (sc : Scope) (w : WrittenTree) (t : Tree) → DeclaresFlat sc → type_of sc w ≡ Some t →
    HasShape (as_written names n t) w
shape names n sc (written.skip at) t flat e =
    let is : t ≡ tree.skip = cc in rw is (record { arrow = refl; compound = refl })
shape names n sc (written.send at b) t flat e =
    let is : t ≡ tree.send b = cc in rw is (record { arrow = refl; compound = refl })
shape names n sc (written.receive at b) t flat e =
    let is : t ≡ tree.receive b = cc in rw is (record { arrow = refl; compound = refl })
shape names n sc (written.close at) t flat e =
    let is : t ≡ tree.close = cc in rw is (record { arrow = refl; compound = refl })
shape names n sc (written.wait at) t flat e =
    let is : t ≡ tree.wait = cc in rw is (record { arrow = refl; compound = refl })
shape names n sc (written.select at bs) t flat e =
    let p = one_made tree.select (branches_of sc bs) t e in rw p.2 (record { arrow = refl; compound = refl })
shape names n sc (written.offer at bs) t flat e =
    let p = one_made tree.offer (branches_of sc bs) t e in rw p.2 (record { arrow = refl; compound = refl })
shape names n sc (written.seq at v w) t flat e =
    let p = both_made tree.seq (type_of sc v) (type_of sc w) t e in rw p.4 (record { arrow = refl; compound = refl })
shape names n sc (written.rec at x w) t flat e =
    let p = one_made tree.rec (type_of (within x sc) w) t e in rw p.2 (record { arrow = refl; compound = refl })
shape names n sc (written.named at x) t flat e =
    let p = named_flat names n sc x t flat e in record { arrow = p.arrow; compound = p.compound }
shape names n sc (written.plain at b) t flat e =
    let is : t ≡ tree.plain b = cc in rw is (record { arrow = refl; compound = refl })
shape names n sc (written.arrow at u v w) t flat e =
    let p = both_made (tree.arrow u) (type_of sc v) (type_of sc w) t e in rw p.4 (record { arrow = refl; compound = refl })
shape names n sc (written.pair at v w) t flat e =
    let p = both_made tree.pair (type_of sc v) (type_of sc w) t e in rw p.4 (record { arrow = refl; compound = refl })

-- in the same place the deeper type has the greater depth
type_grows : (v w : WrittenTree) → HasShape v w → seq_depth v ≤ seq_depth w → type_depth v ≤ type_depth w
type_grows v w h le = rw h.arrow (grows (is_arrow w) (seq_depth v) (seq_depth w) le)
  where
    grows : (a : Bool) (m n : ℕ) → m ≤ n → type_level a m ≤ type_level a n
    grows true m n le = le
    grows false m n le = omega arith

atom_grows : (v w : WrittenTree) → HasShape v w → seq_depth v ≤ seq_depth w → atom_depth v ≤ atom_depth w
atom_grows v w h le = rw (h.arrow, h.compound) (grows (is_arrow w) (is_compound w) (seq_depth v) (seq_depth w) le)
  where
    grows : (a b : Bool) (m n : ℕ) → m ≤ n → atom_level a b m ≤ atom_level a b n
    grows true true m n le = le
    grows false true m n le = omega arith
    grows a false m n le = le

-- a branch that is put in its place adds no more than its own depth
insert_by_depth : (names : List (List ℕ)) (n : ℕ) (o : Ordering) (l m : List ℕ) (t u : Tree) (bs rest : Branches) →
    all_depth (all_written names n rest) ≤ max (suc (seq_depth (as_written names n t))) (all_depth (all_written names n bs)) →
    all_depth (all_written names n (insert_by o l t m u bs rest)) ≤
    max (suc (seq_depth (as_written names n t))) (all_depth (all_written names n (tree.branch m u bs)))
insert_by_depth names n Less l m t u bs rest le = omega arith
insert_by_depth names n Equal l m t u bs rest le = omega arith
insert_by_depth names n Greater l m t u bs rest le = omega arith

insert_depth : (names : List (List ℕ)) (n : ℕ) (l : List ℕ) (t : Tree) (bs : Branches) →
    all_depth (all_written names n (insert l t bs)) ≤
    max (suc (seq_depth (as_written names n t))) (all_depth (all_written names n bs))
insert_depth names n l t tree.none = omega arith
insert_depth names n l t (tree.branch m u bs) =
    insert_by_depth names n (slice_cmp nat_cmp l m) l m t u bs (insert l t bs) (insert_depth names n l t bs)

mutual
  -- what a type means is printed no deeper than the type
  pub printed_no_deeper : (names : List (List ℕ)) (n : ℕ) (sc : Scope) (w : WrittenTree) (t : Tree) → DeclaresFlat sc →
      type_of sc w ≡ Some t → seq_depth (as_written names n t) ≤ seq_depth w
  printed_no_deeper names n sc (written.skip at) t flat e = let is : t ≡ tree.skip = cc in rw is (omega arith)
  printed_no_deeper names n sc (written.send at b) t flat e = let is : t ≡ tree.send b = cc in rw is (omega arith)
  printed_no_deeper names n sc (written.receive at b) t flat e = let is : t ≡ tree.receive b = cc in rw is (omega arith)
  printed_no_deeper names n sc (written.close at) t flat e = let is : t ≡ tree.close = cc in rw is (omega arith)
  printed_no_deeper names n sc (written.wait at) t flat e = let is : t ≡ tree.wait = cc in rw is (omega arith)
  printed_no_deeper names n sc (written.select at bs) t flat e =
      let p = one_made tree.select (branches_of sc bs) t e in rw p.2 (all_no_deeper names n sc bs p.0 flat p.1)
  printed_no_deeper names n sc (written.offer at bs) t flat e =
      let p = one_made tree.offer (branches_of sc bs) t e in rw p.2 (all_no_deeper names n sc bs p.0 flat p.1)
  printed_no_deeper names n sc (written.seq at v w) t flat e =
      let p = both_made tree.seq (type_of sc v) (type_of sc w) t e in
      let left = atom_grows (as_written names n p.0) v (shape names n sc v p.0 flat p.2)
      (printed_no_deeper names n sc v p.0 flat p.2) in
      rw p.4 (omega (arith, left, printed_no_deeper names n sc w p.1 flat p.3))
  printed_no_deeper names n sc (written.rec at x w) t flat e =
      let p = one_made tree.rec (type_of (within x sc) w) t e in
      rw p.2 (omega (arith, printed_no_deeper names (suc n) (within x sc) w p.0 flat p.1))
  printed_no_deeper names n sc (written.named at x) t flat e =
      omega (arith, (named_flat names n sc x t flat e).depth)
  printed_no_deeper names n sc (written.plain at b) t flat e = let is : t ≡ tree.plain b = cc in rw is (omega arith)
  printed_no_deeper names n sc (written.arrow at u v w) t flat e =
      let p = both_made (tree.arrow u) (type_of sc v) (type_of sc w) t e in
      let right = type_grows (as_written names n p.1) w (shape names n sc w p.1 flat p.3)
      (printed_no_deeper names n sc w p.1 flat p.3) in
      rw p.4 (omega (arith, printed_no_deeper names n sc v p.0 flat p.2, right))
  printed_no_deeper names n sc (written.pair at v w) t flat e =
      let p = both_made tree.pair (type_of sc v) (type_of sc w) t e in
      let left = type_grows (as_written names n p.0) v (shape names n sc v p.0 flat p.2)
      (printed_no_deeper names n sc v p.0 flat p.2) in
      let right = type_grows (as_written names n p.1) w (shape names n sc w p.1 flat p.3)
      (printed_no_deeper names n sc w p.1 flat p.3) in
      rw p.4 (omega (arith, left, right))

  -- so are the branches of a choice
  all_no_deeper : (names : List (List ℕ)) (n : ℕ) (sc : Scope) (ws : WrittenBranches) (bs : Branches) → DeclaresFlat sc →
      branches_of sc ws ≡ Some bs → all_depth (all_written names n bs) ≤ all_depth ws
  all_no_deeper names n sc none bs flat e = let is : bs ≡ tree.none = cc in rw is (omega arith)
  all_no_deeper names n sc (branch l w ws) bs flat e =
      let p = both_made (insert l) (type_of sc w) (branches_of sc ws) bs e in
      rw p.4 (omega (
        arith,
        insert_depth names n l p.0 p.1,
        printed_no_deeper names n sc w p.0 flat p.2,
        all_no_deeper names n sc ws p.1 flat p.3,
      ))
