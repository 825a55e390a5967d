-- Walks over rows with no part, one, two or three, and over what stands below conversions.
use Rattle.std.proofs.Common.{◌≡◌, ◌∙◌, Bool, true, false, ◌&&◌, List, Option, Some, None, refl, sym, ap, subst}
use Rattle.std.specs.Prelude.{if◌then◌else◌}
use Rattle.std.proofs.lemmas.Option.{same_Some}
use Rattle.fst_types.specs.Tree.{Tree}
use Rattle.fst_types.specs.declared.kind.Kind.{Kind}
use Rattle.fst_context.specs.Vars.{Vars, no_vars, Both}
use Rattle.fst_context.specs.Scope.{Variable}
use Rattle.fst_derivations.specs.Deriv.{Deriv, row, convert, type_of, Derivs, none, part, one, two, three}
use Rattle.fst_derivations.specs.Parts.{IsFormed, IsAnyConversion}
use Rattle.fst_derivations.specs.Rules.{Converted, itself, turned, Over}
use Rattle.fst_fits.specs.Tests.{same_tree, has_some, kind_in}
use Rattle.fst_rules.specs.Walks.{Walk, only, after, has_none, parts_1, parts_2, parts_3, peeled, leaf_row, row_1, row_2, whole}
use Rattle.fst_rules.proofs.Deciding.{Decides, decides_as, decides_none, decides_only, decides_given, decides_both}
use Rattle.fst_fits.proofs.Laws.{and_left, and_right, and_both, tree_same, tree_itself, is_formed, of_formed}

-- ---- parts

none_of : (ds : Derivs) → has_none ds ≡ true → ds ≡ none
none_of none h = refl
none_of (part d ds) h = absurd (cc h)

pub one_of : (ds : Derivs) (d : Deriv) → parts_1 ds ≡ Some d → ds ≡ one d
one_of none d h = absurd (cc h)
one_of (part x none) d h = ap one (same_Some x d h)
one_of (part x (part y ds)) d h = absurd (cc h)

pub two_of : (ds : Derivs) (p : Deriv × Deriv) → parts_2 ds ≡ Some p → ds ≡ two p.0 p.1
two_of none p h = absurd (cc h)
two_of (part x none) p h = absurd (cc h)
two_of (part x (part y none)) p h = ap (λ (q : Deriv × Deriv). two q.0 q.1) (same_Some (x, y) p h)
two_of (part x (part y (part z ds))) p h = absurd (cc h)

pub three_of : (ds : Derivs) (p : Deriv × Deriv × Deriv) → parts_3 ds ≡ Some p → ds ≡ three p.0 p.1 p.2
three_of none p h = absurd (cc h)
three_of (part x none) p h = absurd (cc h)
three_of (part x (part y none)) p h = absurd (cc h)
three_of (part x (part y (part z none))) p h = ap (λ (q : Deriv × Deriv × Deriv). three q.0 q.1 q.2) (same_Some (x, y, z) p h)
three_of (part x (part y (part z (part w ds)))) p h = absurd (cc h)

-- ---- rows

pub decides_leaf : (g : List Variable) (P : Vars → Type 0) (fits : Bool) (ds : Derivs) →
    ((u : Vars) → P u → (u ≡ no_vars) × (ds ≡ none) × (fits ≡ true)) →
    ((u : Vars) → u ≡ no_vars → ds ≡ none → fits ≡ true → P u) → Decides g P (leaf_row fits ds)
decides_leaf g P fits ds from to =
    decides_only g P (has_none ds && fits) Some (λ u x. let z = from u x in and_both (has_none ds) fits (ap has_none z.1) z.2)
    (λ h. decides_as g (λ u. u ≡ no_vars) P Some (λ u e. to u e (none_of ds (and_left (has_none ds) fits h))
    (and_right (has_none ds) fits h)) (λ u x. (from u x).0) (decides_none g))

-- a row with one part
pub decides_row_1 : (g : List Variable) (P : Vars → Type 0) (fits : Tree → Bool) (ds : Derivs) (A : Deriv → Walk)
    (PA : Deriv → Vars → Type 0) → ((d : Deriv) → Decides g (PA d) (A d)) →
    ((u : Vars) → P u → (d : Deriv) × (ds ≡ one d) × (fits (type_of d) ≡ true) × PA d u) →
    ((u : Vars) (d : Deriv) → ds ≡ one d → fits (type_of d) ≡ true → PA d u → P u) → Decides g P (row_1 fits ds A)
decides_row_1 g P fits ds A PA da from to =
    decides_given g P (parts_1 ds) (λ d. only (fits (type_of d)) (A d))
    (λ u x e. let z = from u x in absurd (cc (e, ap parts_1 z.1)))
    (λ d is.
    let same : ds ≡ one d = one_of ds d is in
    let part_is = λ (u : Vars) (x : P u). same_part (from u x).0 d ((sym (from u x).1) ∙ same) in
    decides_only g P (fits (type_of d)) (A d) (λ u x. subst (λ z. fits (type_of z) ≡ true) (part_is u x) (from u x).2)
    (λ h. decides_as g (PA d) P (A d) (λ u x. to u d same h x) (λ u x. subst (λ z. PA z u) (part_is u x) (from u x).3) (da d)))
  where
    same_part : (d h : Deriv) → one d ≡ one h → d ≡ h
    same_part d h e = cc

both_turned : (PA PB : Deriv → Vars → Type 0) (u : Vars) (d h x y : Deriv) → d ≡ x → h ≡ y → Both (PA d) (PB h) u →
    Both (PA x) (PB y) u
both_turned PA PB u d h x y e f z = subst (λ k. Both (PA k) (PB y) u) e (subst (λ k. Both (PA d) (PB k) u) f z)

pub same_first : (d h x y : Deriv) → two d h ≡ two x y → d ≡ x
same_first d h x y e = cc

pub same_second : (d h x y : Deriv) → two d h ≡ two x y → h ≡ y
same_second d h x y e = cc

-- a row with two parts
pub decides_row_2 : (g : List Variable) (P : Vars → Type 0) (fits : Tree → Tree → Bool) (ds : Derivs) (A B : Deriv → Walk)
    (PA PB : Deriv → Vars → Type 0) →
    ((d : Deriv) → Decides g (PA d) (A d)) → ((d : Deriv) → Decides g (PB d) (B d)) →
    ((u : Vars) → P u → (d : Deriv) × (h : Deriv) × (ds ≡ two d h) × (fits (type_of d) (type_of h) ≡ true) × Both (PA d) (PB h) u)
    →
    ((u : Vars) (d h : Deriv) → ds ≡ two d h → fits (type_of d) (type_of h) ≡ true → Both (PA d) (PB h) u → P u) →
    Decides g P (row_2 fits ds A B)
decides_row_2 g P fits ds A B PA PB da db from to =
    decides_given g P (parts_2 ds) (λ p. only (fits (type_of p.0) (type_of p.1)) (after (A p.0) (B p.1)))
    (λ u x e. let z = from u x in absurd (cc (e, ap parts_2 z.2)))
    (λ p is.
    let same : ds ≡ two p.0 p.1 = two_of ds p is in
    let first = λ (u : Vars) (x : P u). same_first (from u x).0 (from u x).1 p.0 p.1 (sym (from u x).2 ∙ same) in
    let second = λ (u : Vars) (x : P u). same_second (from u x).0 (from u x).1 p.0 p.1 (sym (from u x).2 ∙ same) in
    decides_only g P (fits (type_of p.0) (type_of p.1)) (after (A p.0) (B p.1))
    (λ u x. sym (λ i. fits (type_of (first u x i)) (type_of (second u x i))) ∙ (from u x).3)
    (λ h. decides_as g (Both (PA p.0) (PB p.1)) P (after (A p.0) (B p.1)) (λ u x. to u p.0 p.1 same h x)
    (λ u x. both_turned PA PB u (from u x).0 (from u x).1 p.0 p.1 (first u x) (second u x) (from u x).4)
    (decides_both g (PA p.0) (PB p.1) (A p.0) (B p.1) (da p.0) (db p.1))))

-- ---- conversions

kept : (b : Bool) (x y : Tree × Derivs) → (if b then Some x else None) ≡ Some y → (b ≡ true) × (x ≡ y)
kept true x y h = (refl, same_Some x y h)
kept false x y h = absurd (cc h)

went : (b : Bool) (o : Option (Tree × Derivs)) (y : Tree × Derivs) → (if b then o else None) ≡ Some y → (b ≡ true) × (o ≡ Some y)
went true o y h = (refl, h)
went false o y h = absurd (cc h)

-- what is below conversions is a row of a well-formed type, to which they lead
pub peeled_is : (vars : List Kind) (d : Deriv) (p : Tree × Derivs) → peeled vars d ≡ Some p →
    Converted (IsAnyConversion vars) d (row p.0 p.1) × IsFormed vars p.0
peeled_is vars (row t ds) p h =
    let k = kept (has_some (kind_in vars t)) (t, ds) p h in
    (itself (λ i. row (k.1 i).0 (k.1 i).1), subst (IsFormed vars) (λ i. (k.1 i).0) (is_formed vars t k.0))
peeled_is vars (convert s t d) p h =
    let a = has_some (kind_in vars s) in
    let b = has_some (kind_in vars t) in
    let c = same_tree (type_of d) s in
    let k = went (a && (b && c)) (peeled vars d) p h in
    let r = peeled_is vars d p k.1 in
    let bc = and_right a (b && c) k.0 in (
      turned (record { left = is_formed vars s (and_left a (b && c) k.0); right = is_formed vars t (and_left b c bc) })
          (tree_same (type_of d) s (and_right b c bc)) r.0,
      r.1,
    )

pub is_peeled : (vars : List Kind) (d c : Deriv) (t : Tree) (ds : Derivs) → Converted (IsAnyConversion vars) d c → c ≡ row t ds →
    IsFormed vars t → peeled vars d ≡ Some (t, ds)
is_peeled vars d c t ds (itself e) q f = ap (peeled vars) (e ∙ q) ∙ ap
    (λ b. if b then Some (t, ds) else None) (of_formed vars t f)
is_peeled vars _ c t ds (turned {s} {t = r} {d} x y z) q f =
    ap (λ b. if b then peeled vars d else None)
    (and_both (has_some (kind_in vars s)) (has_some (kind_in vars r) && same_tree (type_of d) s) (of_formed vars s x.left)
    (and_both (has_some (kind_in vars r)) (same_tree (type_of d) s) (of_formed vars r x.right) (tree_itself (type_of d) s y)))
    ∙ is_peeled vars d c t ds z q f

-- a derivation of a part
pub decides_whole : (vars : List Kind) (g : List Variable) (P : Vars → Deriv → Type 0) (R : Tree → Derivs → Walk) →
    ((u : Vars) (c : Deriv) → P u c → (t : Tree) × (ds : Derivs) × (c ≡ row t ds)) →
    ((t : Tree) (ds : Derivs) → Decides g (λ u. P u (row t ds)) (R t ds)) →
    (d : Deriv) → Decides g (λ u. Over vars (Converted (IsAnyConversion vars)) P u d) (whole vars R d)
decides_whole vars g P R rows f d =
    decides_given g (λ u. Over vars (Converted (IsAnyConversion vars)) P u d) (peeled vars d) (λ p. R p.0 p.1)
    (λ u x e. absurd (cc (e, of u x)))
    (λ p is. decides_as g (λ u. P u (row p.0 p.1)) (λ u. Over vars (Converted (IsAnyConversion vars)) P u d) (R p.0 p.1)
    (λ u x. record { core = row p.0 p.1; stands = (peeled_is vars d p is).0; rule = x; formed = (peeled_is vars d p is).1 })
    (λ u x. let r = rows u x.core x.rule in
    let same : (r.0, r.1) ≡ p = same_Some (r.0, r.1) p (sym (of u x) ∙ is) in
    subst (P u) (r.2 ∙ (λ i. row (same i).0 (same i).1)) x.rule) (f p.0 p.1))
  where
    of : (u : Vars) (x : Over vars (Converted (IsAnyConversion vars)) P u d) →
        peeled vars d ≡ Some ((rows u x.core x.rule).0, (rows u x.core x.rule).1)
    of u x =
        let r = rows u x.core x.rule in
        is_peeled vars d x.core r.0 r.1 x.stands r.2 (subst (λ z. IsFormed vars (type_of z)) r.2 x.formed)
