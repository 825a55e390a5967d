-- Each choice that is written has a branch.
use Rattle.std.proofs.Common.{◌≡◌, ℕ, List, Ok, arith}
use Rattle.fst_types.specs.WrittenTree.{WrittenTree, WrittenBranches, HasBranches, HaveBranches}
use Rattle.fst_reading.specs.Lexeme.{Lexeme}
use Rattle.fst_type_syntax.specs.Grammar.{IsType, single, arrow, IsSeq, rec, atom, chain, IsAtom, skip, send, receive, close, wait, select, offer, plain, lower, upper, group, pair, IsAlts, last, further, IsAlt, alt}
use Rattle.fst_type_syntax.specs.TypeReading.{seq_at}
use Rattle.fst_type_syntax.proofs.TypeReads.{reads_seq}

mutual
  pub type_filled : {ts : List Lexeme} {t : WrittenTree} → IsType ts t → HasBranches t
  type_filled (single ts t s) = seq_filled s
  type_filled (arrow ts ks us all t u uses s a r parts) = (seq_filled s, type_filled r)

  pub seq_filled : {ts : List Lexeme} {t : WrittenTree} → IsSeq ts t → HasBranches t
  seq_filled (rec k x d ts t is name dot s) = seq_filled s
  seq_filled (atom ts t a) = atom_filled a
  seq_filled (chain ts us all k t u a is s parts) = (atom_filled a, seq_filled s)

  pub atom_filled : {ts : List Lexeme} {t : WrittenTree} → IsAtom ts t → HasBranches t
  atom_filled (skip k is) = tt
  atom_filled (send k ts b is s) = tt
  atom_filled (receive k ts b is s) = tt
  atom_filled (close k is) = tt
  atom_filled (wait k is) = tt
  atom_filled (select k o c ts all _ is opens (last us l t a) closes parts) = (alt_filled a, tt)
  atom_filled (select k o c ts all _ is opens (further us vs ws m l t bs a comma s whole) closes parts) =
      (alt_filled a, alts_filled s)
  atom_filled (offer k o c ts all _ is opens (last us l t a) closes parts) = (alt_filled a, tt)
  atom_filled (offer k o c ts all _ is opens (further us vs ws m l t bs a comma s whole) closes parts) =
      (alt_filled a, alts_filled s)
  atom_filled (plain ts b s) = tt
  atom_filled (lower k is) = tt
  atom_filled (upper k is) = tt
  atom_filled (group k c ts all t is s closes parts) = type_filled s
  atom_filled (pair k m c ts us all t u is s comma r closes parts) = (type_filled s, type_filled r)

  alts_filled : {ts : List Lexeme} {bs : WrittenBranches} → IsAlts ts bs → HaveBranches bs
  alts_filled (last ts l t a) = (alt_filled a, tt)
  alts_filled (further ts us all k l t bs a is s parts) = (alt_filled a, alts_filled s)

  alt_filled : {ts : List Lexeme} {l : List ℕ} {t : WrittenTree} → IsAlt ts l t → HasBranches t
  alt_filled (alt l c ts t is colon s) = seq_filled s

-- what is read has its branches
pub read_filled : (n : ℕ) (ts : List Lexeme) (t : WrittenTree) (rest : List Lexeme) → seq_at n ts ≡ Ok (t, rest) → HasBranches t
read_filled n ts t rest e = seq_filled ((reads_seq n n 1 (omega arith)).found ts t rest e).phrase.0
