-- How deep a token of a type or a question is nested: how many `seqtype`s enclose it, and for each chain of arrows that
-- encloses it how many operands stand before it there.
use Rattle.std.specs.Prelude.{ℕ, suc, List, [], ◌∷◌, ◌++◌}
use Rattle.fst_types.specs.WrittenTree.{WrittenTree, WrittenBranches}
use Rattle.fst_reading.specs.Lexeme.{Lexeme}
use Rattle.fst_type_syntax.specs.Grammar.{IsType, single, arrow, IsSeq, rec, atom, chain, IsAtom, skip, send, receive, close, wait, select, offer, plain, lower, upper, group, pair, IsAlts, last, further, IsAlt, alt, Asked, IsQuestion, closed, over}
use Rattle.fst_reading.specs.Faults.{level}

abbrev mutual
  -- for each token of a type its nesting, where this much encloses the type
  pub type_nests : ℕ → {ts : List Lexeme} {t : WrittenTree} → IsType ts t → List ℕ
  type_nests n (single ts t s) = seq_nests (suc n) s
  type_nests n (arrow ts ks us all t u uses s a d parts) =
      seq_nests (suc n) s ++ (level (suc n) ks ++ type_nests (suc n) d)

  -- the same of a `seqtype`, where its own tokens have this nesting
  pub seq_nests : ℕ → {ts : List Lexeme} {t : WrittenTree} → IsSeq ts t → List ℕ
  seq_nests n (rec k x d ts t is name dot s) = n ∷ n ∷ n ∷ seq_nests (suc n) s
  seq_nests n (atom ts t a) = atom_nests n a
  seq_nests n (chain ts us all k t u a is s parts) = atom_nests n a ++ n ∷ seq_nests (suc n) s

  -- the same of an atomic type
  pub atom_nests : ℕ → {ts : List Lexeme} {t : WrittenTree} → IsAtom ts t → List ℕ
  atom_nests n (skip k is) = n ∷ []
  atom_nests n (send k ts b is d) = n ∷ level n ts
  atom_nests n (receive k ts b is d) = n ∷ level n ts
  atom_nests n (close k is) = n ∷ []
  atom_nests n (wait k is) = n ∷ []
  atom_nests n (select k o c ts all bs is opens d closes parts) = n ∷ n ∷ alts_nests n d ++ n ∷ []
  atom_nests n (offer k o c ts all bs is opens d closes parts) = n ∷ n ∷ alts_nests n d ++ n ∷ []
  atom_nests n (plain ts b d) = level n ts
  atom_nests n (lower k is) = n ∷ []
  atom_nests n (upper k is) = n ∷ []
  atom_nests n (group k c ts all t is d closes parts) = n ∷ type_nests n d ++ n ∷ []
  atom_nests n (pair k m c ts us all t u is d comma e closes parts) =
      n ∷ (type_nests n d ++ (n ∷ (type_nests n e ++ n ∷ [])))

  -- the same of branches with commas between them
  pub alts_nests : ℕ → {ts : List Lexeme} {bs : WrittenBranches} → IsAlts ts bs → List ℕ
  alts_nests n (last ts l t a) = alt_nests n a
  alts_nests n (further ts us all k l t bs a is d parts) = alt_nests n a ++ n ∷ alts_nests n d

  -- the same of a branch
  pub alt_nests : ℕ → {ts : List Lexeme} {l : List ℕ} {t : WrittenTree} → IsAlt ts l t → List ℕ
  alt_nests n (alt l c ts t is colon s) = n ∷ n ∷ seq_nests (suc n) s

-- for each token of a question its nesting
abbrev pub question_nests : {ts : List Lexeme} {q : Asked} → IsQuestion ts q → List ℕ
question_nests (closed ts us all k t u s is r parts) = seq_nests 1 s ++ 0 ∷ seq_nests 1 r
question_nests (over f d k vs ts us all bs t u is b dot s tilde r parts) =
    0 ∷ (level 0 vs ++ (0 ∷ (seq_nests 1 s ++ 0 ∷ seq_nests 1 r)))
