-- Derivations that nest no token deeper than the type is printed.
use Rattle.std.proofs.Common.{◌≡◌, ℕ, suc, ◌+◌, max, true, false, List, [], ◌∷◌, ◌++◌, refl, arith}
use Rattle.std.specs.Prelude.{codes}
use Rattle.fst_types.specs.declared.base.Base.{Base}
use Rattle.fst_types.specs.declared.kind.Use.{Use}
use Rattle.fst_types.specs.WrittenTree as written
use Rattle.fst_types.specs.WrittenTree.{WrittenTree, WrittenBranches, none, branch}
use Rattle.fst_reading.specs.Lexeme.{Lexeme, Is, IsLower, IsUpper, start}
use Rattle.fst_reading.specs.Faults.{level, IsWithinLimit}
use Rattle.fst_type_syntax.specs.Grammar as grammar
use Rattle.fst_type_syntax.specs.Grammar.{IsBase, IsArrow, IsType, IsSeq, IsAtom, IsAlts, IsAlt}
use Rattle.fst_type_syntax.specs.Nesting.{type_nests, seq_nests, atom_nests, alts_nests, alt_nests}
use Rattle.fst_type_print.specs.WrittenTexts.{is_compound, is_arrow}
use Rattle.fst_roundtrip.proofs.Nestings.{raised, level_within, joined, ended}
use Rattle.fst_roundtrip.proofs.Depths.{seq_depth, all_depth, type_depth, atom_depth}

-- derivations that nest no token deeper than the type is printed
abbrev pub ShallowSeq : List Lexeme → WrittenTree → Type 0
ShallowSeq ts w = (s : IsSeq ts w) × ((d : ℕ) → IsWithinLimit (d + seq_depth w) (seq_nests d s))

abbrev pub ShallowType : List Lexeme → WrittenTree → Type 0
ShallowType ts w = (s : IsType ts w) × ((d : ℕ) → IsWithinLimit (d + type_depth w) (type_nests d s))

abbrev pub ShallowAtom : List Lexeme → WrittenTree → Type 0
ShallowAtom ts w = (a : IsAtom ts w) × ((d : ℕ) → IsWithinLimit (d + atom_depth w) (atom_nests d a))

abbrev pub ShallowAlts : List Lexeme → WrittenBranches → Type 0
ShallowAlts ts bs = (a : IsAlts ts bs) × ((d : ℕ) → IsWithinLimit (d + all_depth bs) (alts_nests d a))

abbrev pub ShallowAlt : List Lexeme → List ℕ → WrittenTree → Type 0
ShallowAlt ts l w = (a : IsAlt ts l w) × ((d : ℕ) → IsWithinLimit (d + suc (seq_depth w)) (alt_nests d a))

-- the tokens of a `seqtype` inside, and those of a choice
inside : (d : ℕ) (ts : List Lexeme) (t : WrittenTree) (s : ShallowSeq ts t) →
    IsWithinLimit (d + suc (seq_depth t)) (seq_nests (suc d) s.0)
inside d ts t s = raised (suc d + seq_depth t) (d + suc (seq_depth t)) (seq_nests (suc d) s.0) (omega arith) (s.1 (suc d))

choice : (d : ℕ) (ts : List Lexeme) (bs : WrittenBranches) (a : ShallowAlts ts bs) →
    IsWithinLimit (d + all_depth bs) (d ∷ d ∷ alts_nests d a.0 ++ d ∷ [])
choice d ts bs a = (omega arith, (omega arith, ended d (all_depth bs) (alts_nests d a.0) (a.1 d)))

-- such derivations are put together
pub skip : (k : Lexeme) → Is (codes "Skip") k → ShallowAtom (k ∷ []) (written.skip k.at)
skip k is = (grammar.skip k is, λ d. (omega arith, tt))

pub close : (k : Lexeme) → Is (codes "Close") k → ShallowAtom (k ∷ []) (written.close k.at)
close k is = (grammar.close k is, λ d. (omega arith, tt))

pub wait : (k : Lexeme) → Is (codes "Wait") k → ShallowAtom (k ∷ []) (written.wait k.at)
wait k is = (grammar.wait k is, λ d. (omega arith, tt))

pub lower : (k : Lexeme) → IsLower k → ShallowAtom (k ∷ []) (written.named k.at k.text)
lower k is = (grammar.lower k is, λ d. (omega arith, tt))

pub upper : (k : Lexeme) → IsUpper k → ShallowAtom (k ∷ []) (written.named k.at k.text)
upper k is = (grammar.upper k is, λ d. (omega arith, tt))

pub send : (k : Lexeme) (ts : List Lexeme) (b : Base) → Is (codes "!") k → IsBase ts b →
    ShallowAtom (k ∷ ts) (written.send k.at b)
send k ts b is base = (grammar.send k ts b is base, λ d. (omega arith, level_within (d + 0) d ts (omega arith)))

pub receive : (k : Lexeme) (ts : List Lexeme) (b : Base) → Is (codes "?") k → IsBase ts b →
    ShallowAtom (k ∷ ts) (written.receive k.at b)
receive k ts b is base = (grammar.receive k ts b is base, λ d. (omega arith, level_within (d + 0) d ts (omega arith)))

pub plain : (ts : List Lexeme) (b : Base) → IsBase ts b → ShallowAtom ts (written.plain (start ts) b)
plain ts b base = (grammar.plain ts b base, λ d. level_within (d + 0) d ts (omega arith))

pub select : (k o c : Lexeme) (ts all : List Lexeme) (bs : WrittenBranches) → Is (codes "+") k → Is (codes "{") o →
    ShallowAlts ts bs → Is (codes "}") c → all ≡ k ∷ o ∷ ts ++ c ∷ [] → ShallowAtom all (written.select k.at bs)
select k o c ts all bs is opens a closes parts =
    (grammar.select k o c ts all bs is opens a.0 closes parts, λ d. choice d ts bs a)

pub offer : (k o c : Lexeme) (ts all : List Lexeme) (bs : WrittenBranches) → Is (codes "&") k → Is (codes "{") o →
    ShallowAlts ts bs → Is (codes "}") c → all ≡ k ∷ o ∷ ts ++ c ∷ [] → ShallowAtom all (written.offer k.at bs)
offer k o c ts all bs is opens a closes parts =
    (grammar.offer k o c ts all bs is opens a.0 closes parts, λ d. choice d ts bs a)

-- parentheses round a type that wants them
pub group : (k c : Lexeme) (ts all : List Lexeme) (t : WrittenTree) → is_compound t ≡ true → Is (codes "(") k →
    ShallowType ts t → Is (codes ")") c → all ≡ k ∷ ts ++ c ∷ [] → ShallowAtom all t
group k c ts all t wants is s closes parts = (grammar.group k c ts all t is s.0 closes parts, low)
  where
    same : atom_depth t ≡ type_depth t
    same = rw wants refl

    low : (d : ℕ) → IsWithinLimit (d + atom_depth t) (d ∷ type_nests d s.0 ++ d ∷ [])
    low d = (
      omega arith,
      ended d (atom_depth t) (type_nests d s.0)
          (raised (d + type_depth t) (d + atom_depth t) (type_nests d s.0) (omega (arith, same)) (s.1 d)),
    )

pub pair : (k m c : Lexeme) (ts us all : List Lexeme) (t u : WrittenTree) → Is (codes "(") k → ShallowType ts t →
    Is (codes ",") m → ShallowType us u → Is (codes ")") c → all ≡ k ∷ (ts ++ (m ∷ (us ++ c ∷ []))) →
    ShallowAtom all (written.pair k.at t u)
pair k m c ts us all t u is x comma y closes parts = (
  grammar.pair k m c ts us all t u is x.0 comma y.0 closes parts,
  λ d. let most = max (type_depth t) (type_depth u) in
      let second = raised (d + type_depth u) (d + most) (type_nests d y.0) (omega arith) (y.1 d) in (
        omega arith,
        joined (d + type_depth t) (d + most) (type_nests d x.0) (d ∷ (type_nests d y.0 ++ d ∷ [])) (omega arith) (x.1 d)
            (omega arith, ended d most (type_nests d y.0) second),
      ),
)

-- an atomic type, which is in parentheses only where it is a function
pub atom : (ts : List Lexeme) (t : WrittenTree) → atom_depth t ≡ seq_depth t → ShallowAtom ts t → ShallowSeq ts t
atom ts t e a =
    (grammar.atom ts t a.0, λ d. raised (d + atom_depth t) (d + seq_depth t) (atom_nests d a.0) (omega arith) (a.1 d))

pub chain : (ts us all : List Lexeme) (k : Lexeme) (t u : WrittenTree) → ShallowAtom ts t → Is (codes ";") k →
    ShallowSeq us u → all ≡ ts ++ k ∷ us → ShallowSeq all (written.seq (start ts) t u)
chain ts us all k t u a is s parts = (
  grammar.chain ts us all k t u a.0 is s.0 parts,
  λ d. let most = d + max (atom_depth t) (suc (seq_depth u)) in
      let second = raised (d + suc (seq_depth u)) most (seq_nests (suc d) s.0) (omega arith) (inside d us u s) in
      joined (d + atom_depth t) most (atom_nests d a.0) (d ∷ seq_nests (suc d) s.0) (omega arith) (a.1 d) (omega arith, second),
)

pub rec : (k x d : Lexeme) (ts : List Lexeme) (t : WrittenTree) → Is (codes "rec") k → IsLower x → Is (codes ".") d →
    ShallowSeq ts t → ShallowSeq (k ∷ x ∷ d ∷ ts) (written.rec k.at x.text t)
rec k x dot ts t is name is' s =
    (grammar.rec k x dot ts t is name is' s.0, λ d. (omega arith, (omega arith, (omega arith, inside d ts t s))))

-- a `seqtype` that is no function
pub single : (ts : List Lexeme) (t : WrittenTree) → is_arrow t ≡ false → ShallowSeq ts t → ShallowType ts t
single ts t other s = (grammar.single ts t s.0, low)
  where
    same : type_depth t ≡ suc (seq_depth t)
    same = rw other refl

    low : (d : ℕ) → IsWithinLimit (d + type_depth t) (seq_nests (suc d) s.0)
    low d = raised (d + suc (seq_depth t)) (d + type_depth t) (seq_nests (suc d) s.0) (omega (arith, same)) (inside d ts t s)

pub arrow : (ts ks us all : List Lexeme) (t u : WrittenTree) (uses : Use) → ShallowSeq ts t → IsArrow ks uses →
    ShallowType us u → all ≡ ts ++ (ks ++ us) → ShallowType all (written.arrow (start ts) uses t u)
arrow ts ks us all t u uses s is r parts = (
  grammar.arrow ts ks us all t u uses s.0 is r.0 parts,
  λ d. let most = d + suc (max (seq_depth t) (type_depth u)) in
      let second = raised (suc d + type_depth u) most (type_nests (suc d) r.0) (omega arith) (r.1 (suc d)) in
      joined (d + suc (seq_depth t)) most (seq_nests (suc d) s.0) (level (suc d) ks ++ type_nests (suc d) r.0) (omega arith)
      (inside d ts t s)
      (joined most most (level (suc d) ks) (type_nests (suc d) r.0) (omega arith) (level_within most (suc d) ks (omega arith))
      second),
)

pub alt : (l c : Lexeme) (ts : List Lexeme) (t : WrittenTree) → IsUpper l → Is (codes ":") c → ShallowSeq ts t →
    ShallowAlt (l ∷ c ∷ ts) l.text t
alt l c ts t name colon s = (grammar.alt l c ts t name colon s.0, λ d. (omega arith, (omega arith, inside d ts t s)))

pub last : (ts : List Lexeme) (l : List ℕ) (t : WrittenTree) → ShallowAlt ts l t → ShallowAlts ts (branch l t none)
last ts l t a = (
  grammar.last ts l t a.0,
  λ d. raised (d + suc (seq_depth t)) (d + max (suc (seq_depth t)) 0)
      (alt_nests d a.0) (omega arith) (a.1 d),
)

pub further : (ts us all : List Lexeme) (k : Lexeme) (l : List ℕ) (t : WrittenTree) (bs : WrittenBranches) →
    ShallowAlt ts l t → Is (codes ",") k → ShallowAlts us bs → all ≡ ts ++ k ∷ us → ShallowAlts all (branch l t bs)
further ts us all k l t bs a is s parts = (
  grammar.further ts us all k l t bs a.0 is s.0 parts,
  λ d. let most = d + max (suc (seq_depth t)) (all_depth bs) in
      let others = raised (d + all_depth bs) most (alts_nests d s.0) (omega arith) (s.1 d) in
      joined (d + suc (seq_depth t)) most (alt_nests d a.0) (d ∷ alts_nests d s.0) (omega arith) (a.1 d) (omega arith, others),
)
