-- Which tokens are a module. Each fact says: just these tokens are such a phrase, and it stands for this.
use Rattle.std.specs.Prelude.{◌≡◌, ℕ, ℤ, Bool, true, false, List, [], ◌∷◌, ◌++◌, map, codes, ⊤}
use Rattle.fst_types.specs.declared.kind.Kind.{Kind}
use Rattle.fst_types.specs.declared.kind.Use.{Use}
use Rattle.fst_types.specs.WrittenTree.{WrittenTree}
use Rattle.fst_lexer.specs.declared.token.TokenKind.TheVariants as kind
use Rattle.fst_terms.specs.declared.binder.Binder.{Binder}
use Rattle.fst_terms.specs.declared.term.Op.{Op}
use Rattle.fst_terms.specs.declared.term.Op.TheVariants as op
use Rattle.fst_terms.specs.TermTree as term
use Rattle.fst_terms.specs.TermTree.{TermTree, TermList, no_terms, TermArms, no_arms, arm}
use Rattle.fst_terms.specs.ModuleTree as declared
use Rattle.fst_terms.specs.ModuleTree.{Maker, Declared}
use Rattle.fst_reading.specs.Lexeme.{Lexeme, Is, IsLower, IsUpper, start}
use Rattle.fst_type_syntax.specs.Grammar.{IsArrow, IsType, IsSeq, IsAtom as IsTypeAtom, IsBinders}

-- a token that is a name, as what it binds
abbrev pub bound : Lexeme → Binder
bound k = record { name = k.text; at = k.at }

-- "==" | "/=" | "<" | "<=" | ">" | ">="
pub data IsComparison : Lexeme → Op → Type 0 where
  equal : (k : Lexeme) → Is (codes "==") k → IsComparison k op.Equal
  unequal : (k : Lexeme) → Is (codes "/=") k → IsComparison k op.Unequal
  less : (k : Lexeme) → Is (codes "<") k → IsComparison k op.Less
  at_most : (k : Lexeme) → Is (codes "<=") k → IsComparison k op.AtMost
  greater : (k : Lexeme) → Is (codes ">") k → IsComparison k op.Greater
  at_least : (k : Lexeme) → Is (codes ">=") k → IsComparison k op.AtLeast

-- "+" | "-"
pub data IsAddition : Lexeme → Op → Type 0 where
  add : (k : Lexeme) → Is (codes "+") k → IsAddition k op.Add
  subtract : (k : Lexeme) → Is (codes "-") k → IsAddition k op.Subtract

-- { lname }
pub data AreNames : List Lexeme → List Binder → Type 0 where
  none : AreNames [] []
  name : (k : Lexeme) (ts : List Lexeme) (xs : List Binder) → IsLower k → AreNames ts xs →
      AreNames (k ∷ ts) (bound k ∷ xs)

-- { "@" tatom }
pub data AreApplied : List Lexeme → List WrittenTree → Type 0 where
  none : AreApplied [] []
  applied : (k : Lexeme) (ts us all : List Lexeme) (t : WrittenTree) (types : List WrittenTree) →
      Is (codes "@") k → IsTypeAtom ts t → AreApplied us types → all ≡ k ∷ ts ++ us →
      AreApplied all (t ∷ types)

mutual
  -- expr = "let" lname "=" expr "in" expr | "let" "(" lname "," lname ")" "=" expr "in" expr
  --      | "if" expr "then" expr "else" expr | "\" lname ":" seqtype arrow expr
  --      | "case" expr "of" "{" carms "}" | "match" expr "with" "{" marms "}" | or [ ";" expr ]
  pub data IsExpr : List Lexeme → TermTree → Type 0 where
    let_in : (k x e i : Lexeme) (ts us all : List Lexeme) (t u : TermTree) →
        Is (codes "let") k → IsLower x → Is (codes "=") e → IsExpr ts t → Is (codes "in") i →
        IsExpr us u →
        all ≡ k ∷ x ∷ e ∷ ts ++ i ∷ us → IsExpr all (term.let_in k.at (bound x) t u)
    split : (k o x m y c e i : Lexeme) (ts us all : List Lexeme) (t u : TermTree) →
        Is (codes "let") k → Is (codes "(") o → IsLower x → Is (codes ",") m → IsLower y →
        Is (codes ")") c → Is (codes "=") e →
        IsExpr ts t → Is (codes "in") i → IsExpr us u →
        all ≡ k ∷ o ∷ x ∷ m ∷ y ∷ c ∷ e ∷ ts ++ i ∷ us →
        IsExpr all (term.split k.at (bound x) (bound y) t u)
    if_else : (k h e : Lexeme) (ts us vs all : List Lexeme) (t u v : TermTree) →
        Is (codes "if") k → IsExpr ts t → Is (codes "then") h → IsExpr us u → Is (codes "else") e →
        IsExpr vs v →
        all ≡ k ∷ (ts ++ (h ∷ (us ++ e ∷ vs))) → IsExpr all (term.if_else k.at t u v)
    lambda : (k x c : Lexeme) (ts ks us all : List Lexeme) (t : WrittenTree) (uses : Use)
        (u : TermTree) →
        Is (codes "\\") k → IsLower x → Is (codes ":") c → IsSeq ts t → IsArrow ks uses →
        IsExpr us u →
        all ≡ k ∷ x ∷ c ∷ ts ++ (ks ++ us) → IsExpr all (term.lambda k.at uses t (bound x) u)
    case_of : (k f o c : Lexeme) (ts us all : List Lexeme) (t : TermTree) (arms : TermArms) →
        Is (codes "case") k → IsExpr ts t → Is (codes "of") f → Is (codes "{") o →
        AreCases us arms → Is (codes "}") c →
        all ≡ k ∷ (ts ++ (f ∷ o ∷ us ++ c ∷ [])) → IsExpr all (term.case_of k.at t arms)
    match_with : (k w o c : Lexeme) (ts us all : List Lexeme) (t : TermTree) (arms : TermArms) →
        Is (codes "match") k → IsExpr ts t → Is (codes "with") w → Is (codes "{") o →
        AreMatches us arms → Is (codes "}") c →
        all ≡ k ∷ (ts ++ (w ∷ o ∷ us ++ c ∷ [])) → IsExpr all (term.match_with k.at t arms)
    one_or : (ts : List Lexeme) (t : TermTree) → IsOr ts t → IsExpr ts t
    seq : (ts us all : List Lexeme) (k : Lexeme) (t u : TermTree) →
        IsOr ts t → Is (codes ";") k → IsExpr us u → all ≡ ts ++ k ∷ us →
        IsExpr all (term.seq (start ts) t u)

  -- carms = carm { "," carm }, with carm = uname { lname } "->" expr
  pub data AreCases : List Lexeme → TermArms → Type 0 where
    last_case : (l a : Lexeme) (xs ts all : List Lexeme) (binders : List Binder) (t : TermTree) →
        IsUpper l → AreNames xs binders → Is (codes "->") a → IsExpr ts t → all ≡ l ∷ xs ++ a ∷ ts →
        AreCases all (arm (bound l) binders t no_arms)
    further_case : (l a m : Lexeme) (xs ts us all : List Lexeme) (binders : List Binder)
        (t : TermTree) (arms : TermArms) →
        IsUpper l → AreNames xs binders → Is (codes "->") a → IsExpr ts t → Is (codes ",") m →
        AreCases us arms →
        all ≡ l ∷ (xs ++ (a ∷ (ts ++ m ∷ us))) → AreCases all (arm (bound l) binders t arms)

  -- marms = marm { "," marm }, with marm = uname lname "->" expr
  pub data AreMatches : List Lexeme → TermArms → Type 0 where
    last_match : (l x a : Lexeme) (ts : List Lexeme) (t : TermTree) →
        IsUpper l → IsLower x → Is (codes "->") a → IsExpr ts t →
        AreMatches (l ∷ x ∷ a ∷ ts) (arm (bound l) (bound x ∷ []) t no_arms)
    further_match : (l x a m : Lexeme) (ts us all : List Lexeme) (t : TermTree) (arms : TermArms) →
        IsUpper l → IsLower x → Is (codes "->") a → IsExpr ts t → Is (codes ",") m →
        AreMatches us arms →
        all ≡ l ∷ x ∷ a ∷ ts ++ m ∷ us → AreMatches all (arm (bound l) (bound x ∷ []) t arms)

  -- or = and { "||" and }
  pub data IsOr : List Lexeme → TermTree → Type 0 where
    one_and : (ts : List Lexeme) (t : TermTree) → IsAnd ts t → IsOr ts t
    more_or : (ts us all : List Lexeme) (k : Lexeme) (t u : TermTree) →
        IsOr ts t → Is (codes "||") k → IsAnd us u → all ≡ ts ++ k ∷ us →
        IsOr all (term.operate (start ts) op.Or t u)

  -- and = cmp { "&&" cmp }
  pub data IsAnd : List Lexeme → TermTree → Type 0 where
    one_cmp : (ts : List Lexeme) (t : TermTree) → IsCmp ts t → IsAnd ts t
    more_and : (ts us all : List Lexeme) (k : Lexeme) (t u : TermTree) →
        IsAnd ts t → Is (codes "&&") k → IsCmp us u → all ≡ ts ++ k ∷ us →
        IsAnd all (term.operate (start ts) op.And t u)

  -- cmp = sum [ comparison sum ]
  pub data IsCmp : List Lexeme → TermTree → Type 0 where
    one_sum : (ts : List Lexeme) (t : TermTree) → IsSum ts t → IsCmp ts t
    compare : (ts us all : List Lexeme) (k : Lexeme) (o : Op) (t u : TermTree) →
        IsSum ts t → IsComparison k o → IsSum us u → all ≡ ts ++ k ∷ us →
        IsCmp all (term.operate (start ts) o t u)

  -- sum = prod { ( "+" | "-" ) prod }
  pub data IsSum : List Lexeme → TermTree → Type 0 where
    one_prod : (ts : List Lexeme) (t : TermTree) → IsProd ts t → IsSum ts t
    more_sum : (ts us all : List Lexeme) (k : Lexeme) (o : Op) (t u : TermTree) →
        IsSum ts t → IsAddition k o → IsProd us u → all ≡ ts ++ k ∷ us →
        IsSum all (term.operate (start ts) o t u)

  -- prod = unary { "*" unary }
  pub data IsProd : List Lexeme → TermTree → Type 0 where
    one_unary : (ts : List Lexeme) (t : TermTree) → IsUnary ts t → IsProd ts t
    more_prod : (ts us all : List Lexeme) (k : Lexeme) (t u : TermTree) →
        IsProd ts t → Is (codes "*") k → IsUnary us u → all ≡ ts ++ k ∷ us →
        IsProd all (term.operate (start ts) op.Multiply t u)

  -- unary = { "not" } app
  pub data IsUnary : List Lexeme → TermTree → Type 0 where
    one_app : (ts : List Lexeme) (t : TermTree) → IsApp ts t → IsUnary ts t
    negate : (k : Lexeme) (ts : List Lexeme) (t : TermTree) → Is (codes "not") k → IsUnary ts t →
        IsUnary (k ∷ ts) (term.negate k.at t)

  -- app = "send" atom atom | "receive" atom | "close" atom | "wait" atom | "select" uname atom
  --     | "new" tatom | "fork" atom | uname { atom } | atom { atom },
  -- where an upper name at the head is a constructor with its arguments
  pub data IsApp : List Lexeme → TermTree → Type 0 where
    send : (k : Lexeme) (ts us all : List Lexeme) (t u : TermTree) →
        Is (codes "send") k → IsAtom ts t → IsAtom us u → all ≡ k ∷ ts ++ us →
        IsApp all (term.send k.at t u)
    receive : (k : Lexeme) (ts : List Lexeme) (t : TermTree) → Is (codes "receive") k →
        IsAtom ts t → IsApp (k ∷ ts) (term.receive k.at t)
    close : (k : Lexeme) (ts : List Lexeme) (t : TermTree) → Is (codes "close") k → IsAtom ts t →
        IsApp (k ∷ ts) (term.close k.at t)
    wait : (k : Lexeme) (ts : List Lexeme) (t : TermTree) → Is (codes "wait") k → IsAtom ts t →
        IsApp (k ∷ ts) (term.wait k.at t)
    select : (k l : Lexeme) (ts : List Lexeme) (t : TermTree) →
        Is (codes "select") k → IsUpper l → IsAtom ts t →
        IsApp (k ∷ l ∷ ts) (term.select k.at l.text t)
    new : (k : Lexeme) (ts : List Lexeme) (t : WrittenTree) → Is (codes "new") k → IsTypeAtom ts t →
        IsApp (k ∷ ts) (term.new k.at t)
    fork : (k : Lexeme) (ts : List Lexeme) (t : TermTree) → Is (codes "fork") k → IsAtom ts t →
        IsApp (k ∷ ts) (term.fork k.at t)
    make : (k : Lexeme) (ts : List Lexeme) (args : TermList) → IsUpper k → AreAtoms ts args →
        IsApp (k ∷ ts) (term.make k.at k.text args)
    head : (ts : List Lexeme) (t : TermTree) → IsHead ts t → IsApp ts t

  -- atom { atom }, where the first one is no upper name
  pub data IsHead : List Lexeme → TermTree → Type 0 where
    one_plain : (ts : List Lexeme) (t : TermTree) → IsPlain ts t → IsHead ts t
    apply : (ts us all : List Lexeme) (t u : TermTree) → IsHead ts t → IsAtom us u →
        all ≡ ts ++ us → IsHead all (term.apply (start ts) t u)

  -- { atom }
  pub data AreAtoms : List Lexeme → TermList → Type 0 where
    no_atoms : AreAtoms [] no_terms
    atom : (ts us all : List Lexeme) (t : TermTree) (args : TermList) → IsAtom ts t →
        AreAtoms us args → all ≡ ts ++ us → AreAtoms all (term.term t args)

  -- atom = lname { "@" tatom } | uname | number | character | "True" | "False" | "(" ")" | "(" expr ")" | "(" expr "," expr ")"
  pub data IsAtom : List Lexeme → TermTree → Type 0 where
    constructor : (k : Lexeme) → IsUpper k → IsAtom (k ∷ []) (term.make k.at k.text no_terms)
    plain : (ts : List Lexeme) (t : TermTree) → IsPlain ts t → IsAtom ts t

  -- an atom that is no upper name
  pub data IsPlain : List Lexeme → TermTree → Type 0 where
    named : (k : Lexeme) (ts : List Lexeme) (types : List WrittenTree) → IsLower k →
        AreApplied ts types → IsPlain (k ∷ ts) (term.named k.at k.text types)
    number : (k : Lexeme) (n : ℤ) → k.kind ≡ kind.Number n → IsPlain (k ∷ []) (term.int k.at n)
    character : (k : Lexeme) (c : ℕ) → k.kind ≡ kind.Character c →
        IsPlain (k ∷ []) (term.char k.at c)
    yes : (k : Lexeme) → Is (codes "True") k → IsPlain (k ∷ []) (term.bool k.at true)
    no : (k : Lexeme) → Is (codes "False") k → IsPlain (k ∷ []) (term.bool k.at false)
    unit : (o c : Lexeme) → Is (codes "(") o → Is (codes ")") c →
        IsPlain (o ∷ c ∷ []) (term.unit o.at)
    group : (o c : Lexeme) (ts all : List Lexeme) (t : TermTree) →
        Is (codes "(") o → IsExpr ts t → Is (codes ")") c → all ≡ o ∷ ts ++ c ∷ [] → IsPlain all t
    pair : (o m c : Lexeme) (ts us all : List Lexeme) (t u : TermTree) →
        Is (codes "(") o → IsExpr ts t → Is (codes ",") m → IsExpr us u → Is (codes ")") c →
        all ≡ o ∷ (ts ++ (m ∷ (us ++ c ∷ []))) → IsPlain all (term.pair o.at t u)

-- { tatom }
pub data AreTypes : List Lexeme → List WrittenTree → Type 0 where
  none : AreTypes [] []
  type : (ts us all : List Lexeme) (t : WrittenTree) (types : List WrittenTree) → IsTypeAtom ts t →
      AreTypes us types → all ≡ ts ++ us → AreTypes all (t ∷ types)

-- makers = maker { "|" maker }, with maker = uname { tatom }
pub data AreMakers : List Lexeme → List Maker → Type 0 where
  last : (l : Lexeme) (ts : List Lexeme) (types : List WrittenTree) →
      IsUpper l → AreTypes ts types → AreMakers (l ∷ ts)
      (record { name = bound l; fields = types } ∷ [])
  further : (l b : Lexeme) (ts us all : List Lexeme) (types : List WrittenTree)
      (makers : List Maker) →
      IsUpper l → AreTypes ts types → Is (codes "|") b → AreMakers us makers →
      all ≡ l ∷ ts ++ b ∷ us →
      AreMakers all (record { name = bound l; fields = types } ∷ makers)

-- decl = "data" uname "=" makers | "type" uname "=" type | lname ":" [ "forall" binders "." ] type | lname { lname } "=" expr
pub data IsDecl : List Lexeme → Declared → Type 0 where
  family : (k x e : Lexeme) (ts : List Lexeme) (makers : List Maker) →
      Is (codes "data") k → IsUpper x → Is (codes "=") e → AreMakers ts makers →
      IsDecl (k ∷ x ∷ e ∷ ts) (declared.family (bound x) makers)
  alias : (k x e : Lexeme) (ts : List Lexeme) (t : WrittenTree) →
      Is (codes "type") k → IsUpper x → Is (codes "=") e → IsType ts t →
      IsDecl (k ∷ x ∷ e ∷ ts) (declared.alias (bound x) t)
  signature : (x c : Lexeme) (ts : List Lexeme) (t : WrittenTree) →
      IsLower x → Is (codes ":") c → IsType ts t →
      IsDecl (x ∷ c ∷ ts) (declared.signature (bound x) [] t)
  over : (x c f d : Lexeme) (vs ts all : List Lexeme) (binders : List (Binder × Kind))
      (t : WrittenTree) →
      IsLower x → Is (codes ":") c → Is (codes "forall") f → IsBinders vs binders →
      Is (codes ".") d → IsType ts t →
      all ≡ x ∷ c ∷ f ∷ vs ++ d ∷ ts → IsDecl all (declared.signature (bound x) binders t)
  equation : (x e : Lexeme) (xs ts all : List Lexeme) (binders : List Binder) (t : TermTree) →
      IsLower x → AreNames xs binders → Is (codes "=") e → IsExpr ts t → all ≡ x ∷ xs ++ e ∷ ts →
      IsDecl all (declared.equation (bound x) binders t)

-- a token, and whether it begins a line
pub record Lined : Type 0 where
  pub first : Bool
  pub lexeme : Lexeme

-- the tokens without their lines
abbrev pub lexemes_of : List Lined → List Lexeme
lexemes_of ts = map (λ k. k.lexeme) ts

-- these begin no line
abbrev pub AreInside : List Lined → Type 0
AreInside [] = ⊤
AreInside (k ∷ ts) = (k.first ≡ false) × AreInside ts

-- module = { decl }, where just the first token of each declaration begins a line
pub data IsModule : List Lined → List Declared → Type 0 where
  none : IsModule [] []
  decl : (k : Lined) (ts us all : List Lined) (d : Declared) (ds : List Declared) →
      k.first ≡ true → AreInside ts → IsDecl (k.lexeme ∷ lexemes_of ts) d → IsModule us ds →
      all ≡ k ∷ ts ++ us → IsModule all (d ∷ ds)
