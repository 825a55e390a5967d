-- Which tokens are a type or a question. Each fact says: just these tokens are such a phrase, and it stands for this.
use Rattle.std.specs.Prelude.{◌≡◌, ℕ, List, [], ◌∷◌, ◌++◌, codes}
use Rattle.fst_types.specs.declared.base.Base.{Base}
use Rattle.fst_types.specs.declared.base.Base.TheVariants as base
use Rattle.fst_types.specs.declared.kind.Kind.{Kind}
use Rattle.fst_types.specs.declared.kind.Use.{Use}
use Rattle.fst_types.specs.declared.kind.Use.TheVariants.{Many, Once}
use Rattle.fst_types.specs.declared.kind.Prekind.{Prekind}
use Rattle.fst_types.specs.declared.kind.Prekind.TheVariants.{Session, Top}
use Rattle.fst_types.specs.WrittenTree as written
use Rattle.fst_types.specs.WrittenTree.{WrittenTree, WrittenBranches, none, branch}
use Rattle.fst_terms.specs.declared.binder.Binder.{Binder}
use Rattle.fst_reading.specs.Lexeme.{Lexeme, Is, IsLower, IsUpper, IsOne, start}

-- base = "Int" | "Bool" | "Char" | "(" ")"
pub data IsBase : List Lexeme → Base → Type 0 where
  int : (k : Lexeme) → Is (codes "Int") k → IsBase (k ∷ []) base.Int
  bool : (k : Lexeme) → Is (codes "Bool") k → IsBase (k ∷ []) base.Bool
  char : (k : Lexeme) → Is (codes "Char") k → IsBase (k ∷ []) base.Char
  unit : (k c : Lexeme) → Is (codes "(") k → Is (codes ")") c → IsBase (k ∷ c ∷ []) base.Unit

-- arrow = "->" | one "->"
pub data IsArrow : List Lexeme → Use → Type 0 where
  many : (k : Lexeme) → Is (codes "->") k → IsArrow (k ∷ []) Many
  once : (n k : Lexeme) → IsOne n → Is (codes "->") k → IsArrow (n ∷ k ∷ []) Once

mutual
  -- type = seqtype [ arrow type ]
  pub data IsType : List Lexeme → WrittenTree → Type 0 where
    single : (ts : List Lexeme) (t : WrittenTree) → IsSeq ts t → IsType ts t
    arrow : (ts ks us all : List Lexeme) (t u : WrittenTree) (uses : Use) →
        IsSeq ts t → IsArrow ks uses → IsType us u → all ≡ ts ++ (ks ++ us) →
        IsType all (written.arrow (start ts) uses t u)

  -- seqtype = "rec" lname "." seqtype | tatom [ ";" seqtype ]
  pub data IsSeq : List Lexeme → WrittenTree → Type 0 where
    rec : (k x d : Lexeme) (ts : List Lexeme) (t : WrittenTree) →
        Is (codes "rec") k → IsLower x → Is (codes ".") d → IsSeq ts t →
        IsSeq (k ∷ x ∷ d ∷ ts) (written.rec k.at x.text t)
    atom : (ts : List Lexeme) (t : WrittenTree) → IsAtom ts t → IsSeq ts t
    chain : (ts us all : List Lexeme) (k : Lexeme) (t u : WrittenTree) →
        IsAtom ts t → Is (codes ";") k → IsSeq us u → all ≡ ts ++ k ∷ us →
        IsSeq all (written.seq (start ts) t u)

  -- tatom = "Skip" | "Close" | "Wait" | "!" base | "?" base | "+" "{" alts "}" | "&" "{" alts "}"
  --       | base | lname | uname | "(" type ")" | "(" type "," type ")"
  pub data IsAtom : List Lexeme → WrittenTree → Type 0 where
    skip : (k : Lexeme) → Is (codes "Skip") k → IsAtom (k ∷ []) (written.skip k.at)
    send : (k : Lexeme) (ts : List Lexeme) (b : Base) → Is (codes "!") k → IsBase ts b →
        IsAtom (k ∷ ts) (written.send k.at b)
    receive : (k : Lexeme) (ts : List Lexeme) (b : Base) → Is (codes "?") k → IsBase ts b →
        IsAtom (k ∷ ts) (written.receive k.at b)
    close : (k : Lexeme) → Is (codes "Close") k → IsAtom (k ∷ []) (written.close k.at)
    wait : (k : Lexeme) → Is (codes "Wait") k → IsAtom (k ∷ []) (written.wait k.at)
    select : (k o c : Lexeme) (ts all : List Lexeme) (bs : WrittenBranches) →
        Is (codes "+") k → Is (codes "{") o → IsAlts ts bs → Is (codes "}") c →
        all ≡ k ∷ o ∷ ts ++ c ∷ [] → IsAtom all (written.select k.at bs)
    offer : (k o c : Lexeme) (ts all : List Lexeme) (bs : WrittenBranches) →
        Is (codes "&") k → Is (codes "{") o → IsAlts ts bs → Is (codes "}") c →
        all ≡ k ∷ o ∷ ts ++ c ∷ [] → IsAtom all (written.offer k.at bs)
    plain : (ts : List Lexeme) (b : Base) → IsBase ts b → IsAtom ts (written.plain (start ts) b)
    lower : (k : Lexeme) → IsLower k → IsAtom (k ∷ []) (written.named k.at k.text)
    upper : (k : Lexeme) → IsUpper k → IsAtom (k ∷ []) (written.named k.at k.text)
    group : (k c : Lexeme) (ts all : List Lexeme) (t : WrittenTree) →
        Is (codes "(") k → IsType ts t → Is (codes ")") c → all ≡ k ∷ ts ++ c ∷ [] → IsAtom all t
    pair : (k m c : Lexeme) (ts us all : List Lexeme) (t u : WrittenTree) →
        Is (codes "(") k → IsType ts t → Is (codes ",") m → IsType us u → Is (codes ")") c →
        all ≡ k ∷ (ts ++ (m ∷ (us ++ c ∷ []))) →
        IsAtom all (written.pair k.at t u)

  -- alts = alt { "," alt }
  pub data IsAlts : List Lexeme → WrittenBranches → Type 0 where
    last : (ts : List Lexeme) (l : List ℕ) (t : WrittenTree) → IsAlt ts l t →
        IsAlts ts (branch l t none)
    further : (ts us all : List Lexeme) (k : Lexeme) (l : List ℕ) (t : WrittenTree)
        (bs : WrittenBranches) →
        IsAlt ts l t → Is (codes ",") k → IsAlts us bs → all ≡ ts ++ k ∷ us →
        IsAlts all (branch l t bs)

  -- alt = uname ":" seqtype
  pub data IsAlt : List Lexeme → List ℕ → WrittenTree → Type 0 where
    alt : (l c : Lexeme) (ts : List Lexeme) (t : WrittenTree) → IsUpper l → Is (codes ":") c →
        IsSeq ts t → IsAlt (l ∷ c ∷ ts) l.text t

-- the first half of a kind: "*" | one
pub data IsUse : Lexeme → Use → Type 0 where
  star : (k : Lexeme) → Is (codes "*") k → IsUse k Many
  one : (k : Lexeme) → IsOne k → IsUse k Once

-- the second half of a kind: the upper name S or T
pub data IsPrekind : Lexeme → Prekind → Type 0 where
  session : (k : Lexeme) → IsUpper k → k.text ≡ codes "S" → IsPrekind k Session
  top : (k : Lexeme) → IsUpper k → k.text ≡ codes "T" → IsPrekind k Top

-- binder = lname ":" kind, with kind = ( "*" | one ) ( "S" | "T" )
pub data IsBinder : List Lexeme → Binder → Kind → Type 0 where
  binder : (x c u p : Lexeme) (uses : Use) (prekind : Prekind) →
      IsLower x → Is (codes ":") c → IsUse u uses → IsPrekind p prekind →
      IsBinder (x ∷ c ∷ u ∷ p ∷ []) (record { name = x.text; at = x.at })
      (record { prekind = prekind; uses = uses })

-- binder { "," binder }
pub data IsBinders : List Lexeme → List (Binder × Kind) → Type 0 where
  last : (ts : List Lexeme) (b : Binder) (k : Kind) → IsBinder ts b k → IsBinders ts ((b, k) ∷ [])
  further : (ts us all : List Lexeme) (c : Lexeme) (b : Binder) (k : Kind)
      (bs : List (Binder × Kind)) →
      IsBinder ts b k → Is (codes ",") c → IsBinders us bs → all ≡ ts ++ c ∷ us →
      IsBinders all ((b, k) ∷ bs)

-- what is asked: whether two types are equivalent, over variables of these kinds
pub record Asked : Type 0 where
  pub binders : List (Binder × Kind)
  pub left : WrittenTree
  pub right : WrittenTree

-- question = [ "forall" binder { "," binder } "." ] seqtype "~" seqtype
pub data IsQuestion : List Lexeme → Asked → Type 0 where
  closed : (ts us all : List Lexeme) (k : Lexeme) (t u : WrittenTree) →
      IsSeq ts t → Is (codes "~") k → IsSeq us u → all ≡ ts ++ k ∷ us →
      IsQuestion all (record { binders = []; left = t; right = u })
  over : (f d k : Lexeme) (vs ts us all : List Lexeme) (bs : List (Binder × Kind))
      (t u : WrittenTree) →
      Is (codes "forall") f → IsBinders vs bs → Is (codes ".") d → IsSeq ts t → Is (codes "~") k →
      IsSeq us u →
      all ≡ f ∷ (vs ++ (d ∷ (ts ++ k ∷ us))) →
      IsQuestion all (record { binders = bs; left = t; right = u })
