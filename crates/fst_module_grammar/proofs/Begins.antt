-- With which tokens atoms begin.
use Rattle.std.proofs.Common.{◌≡◌, ℕ, true, List, [], ◌++◌, refl, ap, ◌∙◌}
use Rattle.fst_terms.specs.TermTree.{TermTree}
use Rattle.fst_reading.specs.Lexeme.{Lexeme}
use Rattle.fst_reading.proofs.Words.{BeginsWith}
use Rattle.fst_module_grammar.specs.Grammar.{IsHead, one_plain, apply, IsAtom, constructor, plain, IsPlain}
use Rattle.fst_module_grammar.specs.Nesting.{head_nests, atom_nests, plain_nests}
use Rattle.fst_module_grammar.specs.declared.starts.AtomStart.TheVariants.{Constructor}
use Rattle.fst_module_grammar.specs.TermReading.{is_start, starts_atom}
use Rattle.fst_module_grammar.proofs.AtomPhrases.{of_plain}
use Rattle.fst_module_grammar.proofs.TermTokens.{means_atom, plain_atom}

abbrev pub StartsAtom : Lexeme → Type 0
StartsAtom k = starts_atom k ≡ true

-- the whole begins as its front does
pub in_front : (Q : Lexeme → Type 0) (d : ℕ) (us vs all : List Lexeme) (ms ks ns : List ℕ) → BeginsWith Q d us ms →
    all ≡ us ++ vs → ns ≡ ms ++ ks → BeginsWith Q d all ns
in_front Q d us vs all ms ks ns b parts numbers =
    (b.0, b.1 ++ vs, b.2 ++ ks, parts ∙ ap (λ (w : List Lexeme). w ++ vs) b.3, numbers ∙ ap (λ (w : List ℕ). w ++ ks) b.4, b.5)

-- and so it does by what follows from it
pub weaker : (Q R : Lexeme → Type 0) (d : ℕ) (ts : List Lexeme) (ns : List ℕ) →
    ((k : Lexeme) → Q k → R k) → BeginsWith Q d ts ns → BeginsWith R d ts ns
weaker Q R d ts ns so b = (b.0, b.1, b.2, b.3, b.4, so b.0 b.5)

pub plain_begins : (d : ℕ) {ts : List Lexeme} {t : TermTree} (s : IsPlain ts t) → BeginsWith StartsAtom d ts (plain_nests d s)
plain_begins d s = let q = of_plain d _ _ s in
    (q.token, q.others, q.nests, q.parts, q.numbers, ap is_start (plain_atom q.begin q.token q.means))

pub atom_begins : (d : ℕ) {ts : List Lexeme} {t : TermTree} (s : IsAtom ts t) → BeginsWith StartsAtom d ts (atom_nests d s)
atom_begins d (constructor k is) = (k, [], [], refl, refl, ap is_start (means_atom Constructor k is))
atom_begins d (plain ts t a) = plain_begins d a

pub head_begins : (d : ℕ) {ts : List Lexeme} {t : TermTree} (s : IsHead ts t) → BeginsWith StartsAtom d ts (head_nests d s)
head_begins d (one_plain ts t a) = plain_begins d a
head_begins d (apply ts us all t u s a parts) = in_front StartsAtom d ts us all (head_nests d s) _ _ (head_begins d s) parts refl
