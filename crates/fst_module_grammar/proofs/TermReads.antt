-- The readers of terms have the laws of readers.
use Rattle.std.proofs.Common.{◌≡◌, ℕ, suc, Bool, true, false, ◌||◌, List, [], ◌∷◌, ◌++◌, length, Option, Some, None, refl, sym, ap, ◌∙◌}
use Rattle.std.specs.Prelude.{codes}
use Rattle.fst_types.specs.WrittenTree as written
use Rattle.fst_terms.specs.TermTree as term
use Rattle.fst_terms.specs.TermTree.{TermTree, no_terms}
use Rattle.fst_reading.specs.Lexeme.{Lexeme, start}
use Rattle.fst_type_syntax.specs.Grammar.{skip}
use Rattle.fst_reading.proofs.Phrases.{Reads}
use Rattle.fst_reading.proofs.Steps.{SomePhrase}
use Rattle.fst_reading.proofs.Shut.{reads_shut}
use Rattle.fst_reading.proofs.Repeats.{Fits}
use Rattle.fst_reading.proofs.Tokens.{fixed, fixed_is, a_lower, an_upper}
use Rattle.fst_module_grammar.specs.Grammar.{send, receive, close, wait, select, new, fork, make, head, one_plain, named, none, no_atoms}
use Rattle.fst_module_grammar.specs.Nesting.{atom_nests}
use Rattle.fst_module_grammar.specs.declared.starts.AtomStart.{AtomStart}
use Rattle.fst_module_grammar.specs.declared.starts.AtomStart.TheVariants.{Name, Constructor, Number, Character, Truth, Paren}
use Rattle.fst_module_grammar.specs.declared.starts.AppStart.{AppStart}
use Rattle.fst_module_grammar.specs.declared.starts.AppStart.TheVariants.{Send, Receive, Close, Wait, Select, New, Fork, Make}
use Rattle.fst_module_grammar.specs.TermReading.{Inside, atom_start, app_start, is_app, opens_app, starts_atom, starts_app, app_with}
use Rattle.fst_module_grammar.proofs.AtomPhrases.{plain_to}
use Rattle.fst_module_grammar.proofs.AtomReads.{sample_atom}
use Rattle.fst_module_grammar.proofs.ChainPhrases.{AtomP}
use Rattle.fst_module_grammar.proofs.AppPhrases.{AppP}
use Rattle.fst_module_grammar.proofs.AppReads.{Good, atom_of, opening_atom, reads_one_app}
use Rattle.fst_module_grammar.proofs.TermBegins.{StartsApp, app_begins}
use Rattle.fst_module_grammar.proofs.Counts.{app_count}
use Rattle.fst_module_grammar.proofs.Follows.{after_app}
use Rattle.fst_module_grammar.proofs.TermTokens.{MeansAtom, MeansPlain, atom_means, MeansApp, app_means}

-- what makes an application of a token that begins one
app_of : (o : Option AppStart) → is_app o ≡ true → (s : AppStart) × (o ≡ Some s)
app_of (Some s) e = (s, refl)
app_of None e = absurd cc

pub record Opening (d : ℕ) (k : Lexeme) : Type 0 where
  pub others : List Lexeme
  pub value : TermTree
  pub nests : List ℕ
  pub phrase : AppP d (k ∷ others) value (d ∷ nests)

-- a word and an atom made up
before_atom : (d : ℕ) (k : Lexeme) (form : TermTree → TermTree) →
    ((ts : List Lexeme) (t : TermTree) (ns : List ℕ) → AtomP (suc d) ts t ns → AppP d (k ∷ ts) (form t) (d ∷ ns)) → Opening d k
before_atom d k form rule =
    let a = (sample_atom (suc d) 0).0 in
    record { others = a.tokens; value = form a.value; nests = a.nests; phrase = rule a.tokens a.value a.nests a.phrase }

by_app : (d : ℕ) (k : Lexeme) (s : AppStart) → MeansApp s k → Opening d k
by_app d k Send is =
    let a = (sample_atom (suc d) 0).0 in
    let b = (sample_atom (suc (suc d)) 0).0 in
    record {
      others = a.tokens ++ b.tokens;
      value = term.send k.at a.value b.value;
      nests = a.nests ++ b.nests;
      phrase = (
        send k a.tokens b.tokens _ a.value b.value is a.phrase.0 b.phrase.0 refl,
        (let e : d ∷ atom_nests (suc d) a.phrase.0 ++ atom_nests (suc (suc d)) b.phrase.0 ≡ d ∷ a.nests ++ b.nests =
            rw (a.phrase.1, b.phrase.1) refl in e),
      );
    }
by_app d k Receive is = before_atom d k (term.receive k.at) (λ ts t ns a. (receive k ts t is a.0, ap (λ (w : List ℕ). d ∷ w) a.1))
by_app d k Close is = before_atom d k (term.close k.at) (λ ts t ns a. (close k ts t is a.0, ap (λ (w : List ℕ). d ∷ w) a.1))
by_app d k Wait is = before_atom d k (term.wait k.at) (λ ts t ns a. (wait k ts t is a.0, ap (λ (w : List ℕ). d ∷ w) a.1))
by_app d k Select is =
    let a = (sample_atom (suc (suc d)) 0).0 in
    record {
      others = an_upper 0 ∷ a.tokens;
      value = term.select k.at [] a.value;
      nests = suc d ∷ a.nests;
      phrase =
          (select k (an_upper 0) a.tokens a.value is refl a.phrase.0, ap (λ (w : List ℕ). d ∷ suc d ∷ w) a.phrase.1);
    }
by_app d k New is =
    record {
      others = fixed (codes "Skip") 0 ∷ [];
      value = term.new k.at (written.skip 0);
      nests = suc d ∷ [];
      phrase =
          (new k _ (written.skip 0) is (skip (fixed (codes "Skip") 0) (fixed_is (codes "Skip") 0)), refl);
    }
by_app d k Fork is = before_atom d k (term.fork k.at) (λ ts t ns a. (fork k ts t is a.0, ap (λ (w : List ℕ). d ∷ w) a.1))
by_app d k Make is = record {
  others = [];
  value = term.make k.at k.text no_terms;
  nests = [];
  phrase =
      (make k [] no_terms is no_atoms, refl);
}

by_plain : (d : ℕ) (k : Lexeme) (s : AtomStart) → MeansAtom s k → Opening d k
by_plain d k Constructor is = by_app d k Make is
by_plain d k s is = by_start s is
  where
    of_plain : (s : AtomStart) → MeansPlain s k → Opening d k
    of_plain s m =
        let q = opening_atom d k s in
        let p = plain_to d s k q.tokens q.value q.nests m q.phrase in
        record { others = q.tokens; value = q.value; nests = q.nests; phrase = (head _ _ (one_plain _ _ p.0), p.1) }

    by_start : (s : AtomStart) → MeansAtom s k → Opening d k
    by_start Name m = of_plain Name m
    by_start Constructor m = by_app d k Make m
    by_start (Number n) m = of_plain (Number n) m
    by_start (Character c) m = of_plain (Character c) m
    by_start (Truth b) m = of_plain (Truth b) m
    by_start Paren m = of_plain Paren m

pub opens_as_app : (d : ℕ) (k : Lexeme) → StartsApp k → Opening d k
opens_as_app d k is = by_test (opens_app k) refl is
  where
    by_test : (b : Bool) → opens_app k ≡ b → b || starts_atom k ≡ true → Opening d k
    by_test true e g = let s = app_of (app_start k) e in by_app d k s.0 (app_means k s.0 s.1)
    by_test false e g = let s = atom_of (atom_start k) g in by_plain d k s.0 (atom_means k s.0 s.1)

pub sample_app : (d n : ℕ) → (s : SomePhrase (AppP d)) × (start s.tokens ≡ n)
sample_app d n = (
  record {
    tokens = a_lower n ∷ [];
    value = term.named n [] [];
    nests = d ∷ [];
    phrase =
        (head _ _ (one_plain _ _ (named (a_lower n) [] [] refl none)), refl);
  },
  refl,
)

-- an application is read where it isn't too deep
pub reads_app : (limit : ℕ) (es : Inside) (d : ℕ) → Good limit es → Fits limit es d → Reads limit (app_with es) (AppP d) after_app
unfolding app_with
reads_app limit [] d good over =
    reads_shut limit starts_app (AppP d) after_app (λ n. sample_app d n)
    (λ k is. let o = opens_as_app d k is in (o.others, o.value, d, o.nests, o.phrase, over))
    (λ us x ns p. let b = app_begins d p.0 in (b.0, b.1, d, b.2, b.3, sym p.1 ∙ b.4, b.5, over))
    (λ us x ns p. ap length (sym p.1) ∙ app_count d p.0)
reads_app limit (e ∷ es) d good fits = reads_one_app limit d e es good fits
