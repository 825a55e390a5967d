-- Which form of the grammar a term is by its rank, and where it stands in parentheses.
use Rattle.std.proofs.Common.{◌≡◌, ℕ, zero, suc, ◌≤◌, Bool, true, false, List, [], ◌∷◌, ◌++◌, inl, inr, refl, subst, arith}
use Rattle.std.proofs.lemmas.Bool.{cases_lt}
use Rattle.std.proofs.lemmas.Bool.Decides.{nat_tests}
use Rattle.std.specs.Prelude.{codes}
use Rattle.std.specs.Str.{byte}
use Rattle.fst_terms.specs.TermTree.{TermTree}
use Rattle.fst_reading.specs.Lexeme.{Lexeme, Is}
use Rattle.fst_module_grammar.specs.Grammar as grammar
use Rattle.fst_module_grammar.specs.Grammar.{IsExpr, IsOr, IsAnd, IsCmp, IsSum, IsProd, IsUnary, IsApp, IsHead, IsAtom, IsPlain}
use Rattle.fst_type_print.specs.Texts.{in_parens, in_parens_if}
use Rattle.fst_print.specs.Ranks.{whole_rank, atom_rank, rank, is_below, is_no_head}
use Rattle.fst_roundtrip.specs.Unplaced.{unplaced_term}
use Rattle.fst_roundtrip.proofs.Spelled.{Reads, Any, EndsName, One, one, Two, two, so, both, sign}
use Rattle.fst_roundtrip.proofs.ShownWords.{Shown, reshown}

-- lexemes that are this term in such a form
abbrev pub ShownTerm : (List Lexeme → TermTree → Type 0) → TermTree → List Lexeme → Type 0
ShownTerm Form t = Shown Form unplaced_term t

-- the form of each rank, from `whole_rank` to `atom_rank`
abbrev pub IsRank : ℕ → List Lexeme → TermTree → Type 0
IsRank zero = IsExpr
IsRank (suc zero) = IsOr
IsRank (suc (suc zero)) = IsAnd
IsRank (suc (suc (suc zero))) = IsCmp
IsRank (suc (suc (suc (suc zero)))) = IsSum
IsRank (suc (suc (suc (suc (suc zero))))) = IsProd
IsRank (suc (suc (suc (suc (suc (suc zero)))))) = IsUnary
IsRank (suc (suc (suc (suc (suc (suc (suc zero))))))) = IsApp
IsRank (suc (suc (suc (suc (suc (suc (suc (suc n)))))))) = IsAtom

as_app : (ts : List Lexeme) (t : TermTree) → IsAtom ts t → IsApp ts t
as_app _ _ (grammar.constructor k is) = grammar.make k [] _ is grammar.no_atoms
as_app ts t (grammar.plain _ _ p) = grammar.head ts t (grammar.one_plain ts t p)

-- each form is one of the rank below
below_it : (n : ℕ) (ts : List Lexeme) (t : TermTree) → IsRank (suc n) ts t → IsRank n ts t
below_it zero ts t x = grammar.one_or ts t x
below_it (suc zero) ts t x = grammar.one_and ts t x
below_it (suc (suc zero)) ts t x = grammar.one_cmp ts t x
below_it (suc (suc (suc zero))) ts t x = grammar.one_sum ts t x
below_it (suc (suc (suc (suc zero)))) ts t x = grammar.one_prod ts t x
below_it (suc (suc (suc (suc (suc zero))))) ts t x = grammar.one_unary ts t x
below_it (suc (suc (suc (suc (suc (suc zero)))))) ts t x = grammar.one_app ts t x
below_it (suc (suc (suc (suc (suc (suc (suc zero))))))) ts t x = as_app ts t x
below_it (suc (suc (suc (suc (suc (suc (suc (suc n)))))))) ts t x = x

pub lower : (m n : ℕ) → n ≤ m → (ts : List Lexeme) (t : TermTree) → IsRank m ts t → IsRank n ts t
lower zero n h ts t x = let same : zero ≡ n = omega arith in subst (λ k. IsRank k ts t) same x
lower (suc m) n h ts t x =
    elim (cases_lt n (suc m)) [
      | inl less ↦ lower m n (omega arith) ts t (below_it m ts t x)
      | inr more ↦ let same : suc m ≡ n = omega arith in subst (λ k. IsRank k ts t) same x
    ]

-- what a term is: a form of its rank, and what may be applied where it needs no parentheses for that
abbrev pub Ranked : TermTree → List Lexeme → TermTree → Type 0
Ranked t ts u = IsRank (rank t) ts u × (is_no_head t ≡ false → IsHead ts u)

abbrev pub RankedTerm : TermTree → List Lexeme → Type 0
RankedTerm t = ShownTerm (Ranked t) t

-- a term that isn't applied without parentheses, and an atom that may be
pub no_head : (text : List ℕ) (t : TermTree) → is_no_head t ≡ true → Reads EndsName text (ShownTerm (IsRank (rank t)) t) →
    Reads EndsName text (RankedTerm t)
no_head text t is r = reshown text t (λ ts u x. (x, λ e. absurd (cc (is, e)))) r

pub plain_head : (text : List ℕ) (t : TermTree) → atom_rank ≡ rank t → Reads EndsName text (ShownTerm IsPlain t) →
    Reads EndsName text (RankedTerm t)
plain_head text t is r = reshown text t (λ ts u x.
    (subst (λ n. IsRank n ts u) is (grammar.plain ts u x), λ e. grammar.one_plain ts u x)) r

-- as a whole term
pub whole : (text : List ℕ) (t : TermTree) → Reads EndsName text (RankedTerm t) → Reads EndsName text (ShownTerm IsExpr t)
whole text t r = reshown text t (λ ts u x. lower (rank t) whole_rank (omega arith) ts u x.0) r

-- in parentheses
pub group_shown : (text : List ℕ) (t : TermTree) → Reads EndsName text (ShownTerm IsExpr t) →
    Reads EndsName (in_parens text) (ShownTerm IsPlain t)
group_shown text t r =
    so (in_parens text) stands
    (both (codes "(" ++ text) (codes ")") (λ rest q. refl)
    (both (codes "(") text (λ rest q. tt) (sign {Q = Any} (byte "(") refl (λ b. refl)) r) (sign (byte ")") refl (λ b. refl)))
  where
    stands : (ts : List Lexeme) → Two (Two (One (Is (codes "("))) (ShownTerm IsExpr t)) (One (Is (codes ")"))) ts →
        ShownTerm IsPlain t ts
    stands _ (two _ _ (two _ us (one k opens) inner) (one c closes)) = record {
      wrote = inner.wrote;
      form = grammar.group k c us (k ∷ us ++ c ∷ []) inner.wrote opens inner.form closes refl;
      same = inner.same;
    }

-- where the grammar takes only forms of a rank, or what may be applied
ranked_by : (parens : Bool) (n : ℕ) (text : List ℕ) (t : TermTree) → n ≤ atom_rank → is_below n t ≡ parens →
    Reads EndsName text (RankedTerm t) → Reads EndsName (in_parens_if parens text) (ShownTerm (IsRank n) t)
ranked_by true n text t h e r = reshown (in_parens text) t
    (λ ts u x. lower atom_rank n h ts u (grammar.plain ts u x)) (group_shown text t (whole text t r))
ranked_by false n text t h e r = reshown text t (λ ts u x. lower (rank t) n (grind (arith, nat_tests)) ts u x.0) r

pub ranked : (n : ℕ) (text : List ℕ) (t : TermTree) → n ≤ atom_rank → Reads EndsName text (RankedTerm t) →
    Reads EndsName (in_parens_if (is_below n t) text) (ShownTerm (IsRank n) t)
ranked n text t h r = ranked_by (is_below n t) n text t h refl r

applied_by : (parens : Bool) (text : List ℕ) (t : TermTree) → is_no_head t ≡ parens → Reads EndsName text (RankedTerm t) →
    Reads EndsName (in_parens_if parens text) (ShownTerm IsHead t)
applied_by true text t e r = reshown (in_parens text) t (λ ts u x. grammar.one_plain ts u x) (group_shown text t (whole text t r))
applied_by false text t e r = reshown text t (λ ts u x. x.1 e) r

pub applied : (text : List ℕ) (t : TermTree) → Reads EndsName text (RankedTerm t) →
    Reads EndsName (in_parens_if (is_no_head t) text) (ShownTerm IsHead t)
applied text t r = applied_by (is_no_head t) text t refl r
