-- A written type has no more types than tokens, and variables with their kinds are no more than their tokens.
use Rattle.std.proofs.Common.{ℕ, ◌≤◌, List, [], ◌∷◌, ◌++◌, length, ap, arith, length-append}
use Rattle.fst_types.specs.declared.base.Base.{Base}
use Rattle.fst_types.specs.declared.kind.Kind.{Kind}
use Rattle.fst_types.specs.declared.kind.Use.{Use}
use Rattle.fst_types.specs.WrittenTree.{WrittenTree, WrittenBranches}
use Rattle.fst_terms.specs.declared.binder.Binder.{Binder}
use Rattle.fst_terms.specs.Count.{type_count, branches_count}
use Rattle.fst_reading.specs.Lexeme.{Lexeme}
use Rattle.fst_type_syntax.specs.Grammar.{IsBase, int, bool, char, unit, IsType, single, arrow, IsSeq, rec, atom, chain, IsAtom, skip, send, receive, close, wait, select, offer, plain, lower, upper, group, pair, IsAlts, last, further, IsAlt, alt, IsArrow, many, once, IsBinder, binder, IsBinders}

base_some : {ts : List Lexeme} {b : Base} → IsBase ts b → 1 ≤ length ts
base_some (int k is) = omega arith
base_some (bool k is) = omega arith
base_some (char k is) = omega arith
base_some (unit k c is closes) = omega arith

pub arrow_some : {ts : List Lexeme} {u : Use} → IsArrow ts u → 1 ≤ length ts
arrow_some (many k is) = omega arith
arrow_some (once n k is sign) = omega arith

mutual
  pub type_few : {ts : List Lexeme} {t : WrittenTree} → IsType ts t → type_count t ≤ length ts
  type_few (single ts t s) = seq_few s
  type_few (arrow ts ks us all t u uses s a r parts) =
      omega (arith, seq_few s, arrow_some a, type_few r, ap length parts, length-append ts (ks ++ us), length-append ks us)

  pub seq_few : {ts : List Lexeme} {t : WrittenTree} → IsSeq ts t → type_count t ≤ length ts
  seq_few (rec k x d ts t is name dot s) = omega (arith, seq_few s)
  seq_few (atom ts t a) = atom_few a
  seq_few (chain ts us all k t u a is s parts) = omega (arith, atom_few a, seq_few s, ap length parts, length-append ts (k ∷ us))

  pub atom_few : {ts : List Lexeme} {t : WrittenTree} → IsAtom ts t → type_count t ≤ length ts
  atom_few (skip k is) = omega arith
  atom_few (send k ts b is s) = omega arith
  atom_few (receive k ts b is s) = omega arith
  atom_few (close k is) = omega arith
  atom_few (wait k is) = omega arith
  atom_few (select k o c ts all bs is opens a closes parts) =
      omega (arith, alts_few a, ap length parts, length-append ts (c ∷ []))
  atom_few (offer k o c ts all bs is opens a closes parts) = omega (arith, alts_few a, ap length parts, length-append ts (c ∷ []))
  atom_few (plain ts b s) = base_some s
  atom_few (lower k is) = omega arith
  atom_few (upper k is) = omega arith
  atom_few (group k c ts all t is s closes parts) = omega (arith, type_few s, ap length parts, length-append ts (c ∷ []))
  atom_few (pair k m c ts us all t u is s comma r closes parts) =
      omega (arith, type_few s, type_few r, ap length parts, length-append ts (m ∷ (us ++ c ∷ [])), length-append us (c ∷ []))

  alts_few : {ts : List Lexeme} {bs : WrittenBranches} → IsAlts ts bs → branches_count bs ≤ length ts
  alts_few (last ts l t a) = omega (arith, alt_few a)
  alts_few (further ts us all k l t bs a is s parts) =
      omega (arith, alt_few a, alts_few s, ap length parts, length-append ts (k ∷ us))

  alt_few : {ts : List Lexeme} {l : List ℕ} {t : WrittenTree} → IsAlt ts l t → type_count t ≤ length ts
  alt_few (alt l c ts t is colon s) = omega (arith, seq_few s)

binder_some : {ts : List Lexeme} {b : Binder} {k : Kind} → IsBinder ts b k → 1 ≤ length ts
binder_some (binder x c u p uses prekind name colon first second) = omega arith

pub binders_few : {ts : List Lexeme} {bs : List (Binder × Kind)} → IsBinders ts bs → length bs ≤ length ts
binders_few (last ts b k s) = binder_some s
binders_few (further ts us all c b k bs s is r parts) =
    omega (arith, binder_some s, binders_few r, ap length parts, length-append ts (c ∷ us))
