-- What a question asks about.
use Rattle.std.specs.Prelude.{◌≡◌, List, [], map, Some}
use Rattle.fst_types.specs.declared.kind.Kind.{Kind}
use Rattle.fst_terms.specs.declared.binder.Binder.{Binder}
use Rattle.fst_terms.specs.Naming.{type_of, place}
use Rattle.fst_type_syntax.specs.Grammar.{Asked}
use Rattle.fst_names.specs.declared.question.Question.{Question}
use Rattle.fst_names.specs.Faults.{question_faults, scope_of}

-- the kinds of variables
abbrev pub kinds : List (Binder × Kind) → List Kind
kinds bs = map (λ (b : Binder × Kind). b.1) bs

-- a question without faults asks about two types, which begin at these bytes, over variables of these kinds
pub record IsResolved (q : Asked) (r : Question) : Type 0 where
  pub faultless : question_faults q ≡ []
  pub kinds_are : r.kinds.items ≡ kinds q.binders
  pub left_is : type_of (scope_of q) q.left ≡ Some r.left
  pub right_is : type_of (scope_of q) q.right ≡ Some r.right
  pub left_begins : r.left_at ≡ place q.left
  pub right_begins : r.right_at ≡ place q.right
