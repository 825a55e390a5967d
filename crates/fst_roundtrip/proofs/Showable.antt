-- Which types, terms and declarations are written so that their text can be read.
use Rattle.std.specs.Prelude.{ℕ, ◌⊎◌, List, [], ◌∷◌, All, ⊤}
use Rattle.fst_types.specs.declared.kind.Kind.{Kind}
use Rattle.fst_types.specs.WrittenTree as written
use Rattle.fst_types.specs.WrittenTree.{WrittenTree, WrittenBranches, none, branch}
use Rattle.fst_lexer.specs.declared.token.TokenKind.TheVariants as kind
use Rattle.fst_lexer.specs.Spelling.{IsWordOf}
use Rattle.fst_terms.specs.declared.binder.Binder.{Binder}
use Rattle.fst_terms.specs.TermTree as term
use Rattle.fst_terms.specs.TermTree.{TermTree, TermList, no_terms, TermArms, no_arms, arm}
use Rattle.fst_terms.specs.ModuleTree.{Maker, Declared, family, alias, signature, equation}

-- a lower name
abbrev pub IsLowerName : List ℕ → Type 0
IsLowerName x = IsWordOf kind.Lower x

-- an upper name
abbrev pub IsUpperName : List ℕ → Type 0
IsUpperName x = IsWordOf kind.Upper x

abbrev mutual
  -- the names in a type are names, and each choice has a branch
  pub IsShowableType : WrittenTree → Type 0
  IsShowableType (written.skip at) = ⊤
  IsShowableType (written.send at b) = ⊤
  IsShowableType (written.receive at b) = ⊤
  IsShowableType (written.close at) = ⊤
  IsShowableType (written.wait at) = ⊤
  IsShowableType (written.select at none) = ⊥
  IsShowableType (written.select at (branch l t bs)) = IsUpperName l × IsShowableType t × AreShowableBranches bs
  IsShowableType (written.offer at none) = ⊥
  IsShowableType (written.offer at (branch l t bs)) = IsUpperName l × IsShowableType t × AreShowableBranches bs
  IsShowableType (written.seq at s t) = IsShowableType s × IsShowableType t
  IsShowableType (written.rec at x t) = IsLowerName x × IsShowableType t
  IsShowableType (written.named at x) = IsLowerName x ⊎ IsUpperName x
  IsShowableType (written.plain at b) = ⊤
  IsShowableType (written.arrow at u s t) = IsShowableType s × IsShowableType t
  IsShowableType (written.pair at s t) = IsShowableType s × IsShowableType t

  -- so are those of branches
  pub AreShowableBranches : WrittenBranches → Type 0
  AreShowableBranches none = ⊤
  AreShowableBranches (branch l t bs) = IsUpperName l × IsShowableType t × AreShowableBranches bs

-- these are lower names
abbrev pub AreLowerNames : List Binder → Type 0
AreLowerNames xs = All (λ (x : Binder). IsLowerName x.name) xs

abbrev mutual
  -- the names in a term are names, its numbers and characters can be written, and each case and match has an arm
  pub IsShowable : TermTree → Type 0
  IsShowable (term.named at x types) = IsLowerName x × All IsShowableType types
  IsShowable (term.int at n) = (text : List ℕ) × IsWordOf (kind.Number n) text
  IsShowable (term.bool at b) = ⊤
  IsShowable (term.char at c) = (text : List ℕ) × IsWordOf (kind.Character c) text
  IsShowable (term.unit at) = ⊤
  IsShowable (term.pair at s t) = IsShowable s × IsShowable t
  IsShowable (term.make at x ts) = IsUpperName x × AreShowable ts
  IsShowable (term.lambda at u a x t) = IsShowableType a × IsLowerName x.name × IsShowable t
  IsShowable (term.apply at s t) = IsShowable s × IsShowable t
  IsShowable (term.let_in at x s t) = IsLowerName x.name × IsShowable s × IsShowable t
  IsShowable (term.split at x y s t) = IsLowerName x.name × IsLowerName y.name × IsShowable s × IsShowable t
  IsShowable (term.if_else at s t u) = IsShowable s × IsShowable t × IsShowable u
  IsShowable (term.case_of at t bs) = IsShowable t × AreShowableCases bs
  IsShowable (term.operate at o s t) = IsShowable s × IsShowable t
  IsShowable (term.negate at t) = IsShowable t
  IsShowable (term.new at a) = IsShowableType a
  IsShowable (term.send at s t) = IsShowable s × IsShowable t
  IsShowable (term.receive at t) = IsShowable t
  IsShowable (term.close at t) = IsShowable t
  IsShowable (term.wait at t) = IsShowable t
  IsShowable (term.select at l t) = IsUpperName l × IsShowable t
  IsShowable (term.match_with at t bs) = IsShowable t × AreShowableMatches bs
  IsShowable (term.fork at t) = IsShowable t
  IsShowable (term.seq at s t) = IsShowable s × IsShowable t

  -- so are those of arguments
  pub AreShowable : TermList → Type 0
  AreShowable no_terms = ⊤
  AreShowable (term.term t ts) = IsShowable t × AreShowable ts

  -- the arms of a case, of which there is one
  pub AreShowableCases : TermArms → Type 0
  AreShowableCases no_arms = ⊥
  AreShowableCases (arm l xs t no_arms) = IsUpperName l.name × AreLowerNames xs × IsShowable t
  AreShowableCases (arm l xs t (arm m ys u bs)) = IsUpperName l.name × AreLowerNames xs × IsShowable t ×
      AreShowableCases (arm m ys u bs)

  -- and those of a match, each with one variable
  pub AreShowableMatches : TermArms → Type 0
  AreShowableMatches no_arms = ⊥
  AreShowableMatches (arm l (x ∷ []) t no_arms) = IsUpperName l.name × IsLowerName x.name × IsShowable t
  AreShowableMatches (arm l (x ∷ []) t (arm m ys u bs)) = IsUpperName l.name × IsLowerName x.name × IsShowable t ×
      AreShowableMatches (arm m ys u bs)
  AreShowableMatches (arm l xs t bs) = ⊥

-- a constructor with the types of its fields
abbrev pub IsShowableMaker : Maker → Type 0
IsShowableMaker m = IsUpperName m.name.name × All IsShowableType m.fields

abbrev pub AreShowableMakers : List Maker → Type 0
AreShowableMakers [] = ⊥
AreShowableMakers (m ∷ ms) = IsShowableMaker m × All IsShowableMaker ms

-- the names in a declaration are names, and all in it can be written
abbrev pub IsShowableDecl : Declared → Type 0
IsShowableDecl (family x makers) = IsUpperName x.name × AreShowableMakers makers
IsShowableDecl (alias x t) = IsUpperName x.name × IsShowableType t
IsShowableDecl (signature x bs t) = IsLowerName x.name × All (λ (b : Binder × Kind). IsLowerName b.0.name) bs × IsShowableType t
IsShowableDecl (equation x xs t) = IsLowerName x.name × AreLowerNames xs × IsShowable t
