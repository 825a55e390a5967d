-- The readers of applications have the laws of readers.
use Rattle.std.proofs.Common.{◌≡◌, ℕ, suc, ◌≤◌, ◌<◌, Bool, true, false, List, [], ◌∷◌, ◌++◌, length, Option, Some, None, refl, sym, ap, ◌∙◌, arith, length-append}
use Rattle.std.specs.Prelude.{codes}
use Rattle.fst_lexer.specs.declared.token.TokenKind.{TokenKind}
use Rattle.fst_lexer.specs.declared.token.TokenKind.TheVariants as kind
use Rattle.fst_terms.specs.TermTree as term
use Rattle.fst_terms.specs.TermTree.{TermTree, no_terms}
use Rattle.fst_reading.specs.Lexeme.{Lexeme, spells, IsUpper, upper_of}
use Rattle.fst_reading.specs.Faults.{Phrase}
use Rattle.fst_reading.specs.Reading.{Reader, switch, map_reader, begins, repeat}
use Rattle.fst_reading.proofs.Steps.{SomePhrase}
use Rattle.fst_reading.proofs.Phrases as phrase
use Rattle.fst_reading.proofs.Phrases.{Reads, never, nothing, Mapped, made, Switch, first, taken, Located, Repeat, enough, again}
use Rattle.fst_reading.proofs.Tokens.{fixed, fixed_is, a_lower, an_upper, upper_is}
use Rattle.fst_reading.proofs.Parts.{reads_one, reads_mapped, reads_switch, reads_as, reads_until}
use Rattle.fst_reading.proofs.Sequences.{reads_then}
use Rattle.fst_reading.proofs.Shut.{reads_shut}
use Rattle.fst_reading.proofs.Repeats.{Fits, fits_next, reads_when, reads_repeat}
use Rattle.fst_reading.proofs.Words.{BeginsWith, sample_mapped, uppers}
use Rattle.fst_type_syntax.specs.Derives.{AtomPhrase as TypeAtomP}
use Rattle.fst_module_grammar.specs.Grammar.{none}
use Rattle.fst_module_grammar.specs.declared.starts.AtomStart.{AtomStart}
use Rattle.fst_module_grammar.specs.declared.starts.AtomStart.TheVariants.{Name, Constructor, Number, Character, Truth, Paren}
use Rattle.fst_module_grammar.specs.declared.starts.AppStart.{AppStart}
use Rattle.fst_module_grammar.specs.declared.starts.AppStart.TheVariants.{Send, Receive, Close, Wait, Select, New, Fork, Make}
use Rattle.fst_module_grammar.specs.TermReading.{Inside, next, atom_named, atom_start, is_start, starts_atom, is_upper, label_with, type_atom_with, begun_with, plain_start, plain_with, atom_with, arguments_with, applications_with, append_term, app_start, is_app, opens_app, app_begun_with, head_with, app_with}
use Rattle.fst_module_grammar.proofs.Lefts.{Right}
use Rattle.fst_module_grammar.proofs.ChainPhrases.{AtomP, PlainP, Argument}
use Rattle.fst_module_grammar.proofs.ChainReads.{fits_behind}
use Rattle.fst_module_grammar.proofs.AtomPhrases.{ExprP, BegunR, PlainR, PlainRead, plain_from, plain_read, read_plain, atom_to}
use Rattle.fst_module_grammar.proofs.AtomReads.{reads_begun, reads_type_atom, reads_one_atom, sample_atom}
use Rattle.fst_module_grammar.proofs.AppPhrases.{ArgumentS, LabelP, AppBegunR, HeadR, AppR, AppP, app_to, app_from, plain_filled}
use Rattle.fst_module_grammar.proofs.Begins.{StartsAtom, atom_begins}
use Rattle.fst_module_grammar.proofs.Counts.{atom_count}
use Rattle.fst_module_grammar.proofs.Follows.{at, after_app, after_expr}
use Rattle.fst_module_grammar.proofs.TermTokens.{atom_spelled, means_plain, means_app, no_app}
use Rattle.fst_base.specs.Choice.{choose}
use Rattle.std.proofs.lemmas.Bool.{or_parts}
use Rattle.fst_reading.proofs.Located.{reads_located}

-- each reader inside reads the terms that may stand there
abbrev pub Good : ℕ → Inside → Type 0
Good limit [] = Unit {0}
Good limit (e ∷ es) = ((d : ℕ) → Fits limit (e ∷ es) d → Reads limit e (ExprP (suc d)) after_expr) × Good limit es

-- what makes an atom of a token that begins one
pub atom_of : (o : Option AtomStart) → is_start o ≡ true → (s : AtomStart) × (o ≡ Some s)
atom_of (Some s) e = (s, refl)
atom_of None e = absurd cc

pub opening_atom : (d : ℕ) (k : Lexeme) (s : AtomStart) → SomePhrase (BegunR d s k)
opening_atom d k Name = record { tokens = []; value = term.named k.at k.text []; nests = []; phrase = made [] [] [] (none, refl) }
opening_atom d k Constructor = record { tokens = []; value = term.make k.at k.text no_terms; nests = []; phrase = nothing }
opening_atom d k (Number n) = record { tokens = []; value = term.int k.at n; nests = []; phrase = nothing }
opening_atom d k (Character c) = record { tokens = []; value = term.char k.at c; nests = []; phrase = nothing }
opening_atom d k (Truth b) = record { tokens = []; value = term.bool k.at b; nests = []; phrase = nothing }
opening_atom d k Paren = record {
  tokens = fixed (codes ")") 0 ∷ [];
  value = term.unit k.at;
  nests = d ∷ [];
  phrase =
      taken (fixed (codes ")") 0) [] _ [] (fixed_is (codes ")") 0) nothing;
}

pub opens_atom : (d : ℕ) (k : Lexeme) → StartsAtom k → (others : List Lexeme) × (x : TermTree) ×
    (ns : List ℕ) × AtomP d (k ∷ others) x (d ∷ ns)
opens_atom d k is =
    let s = atom_of (atom_start k) is in
    let q = opening_atom d k s.0 in
    (q.tokens, q.value, q.nests, atom_to d _ _ _ (first k s.0 q.tokens q.value q.nests s.1 q.phrase))

begun_atom : (d : ℕ) (us : List Lexeme) (x : TermTree) (ns : List ℕ) → AtomP d us x ns → BeginsWith StartsAtom d us ns
begun_atom d us x ns p = let b = atom_begins d p.0 in (b.0, b.1, b.2, b.3, sym p.1 ∙ b.4, b.5)

pub atom_counted : (d : ℕ) (us : List Lexeme) (x : TermTree) (ns : List ℕ) → AtomP d us x ns → length ns ≡ length us
atom_counted d us x ns p = ap length (sym p.1) ∙ atom_count d p.0

pub atom_filled : (d : ℕ) (us : List Lexeme) (x : TermTree) (ns : List ℕ) → AtomP d us x ns → 0 < length us
atom_filled d us x ns p = let b = atom_begins d p.0 in omega (arith, ap length b.3)

pub reads_atom : (limit : ℕ) (es : Inside) (d : ℕ) → Good limit es → Fits limit es d → Reads limit (atom_with es) (AtomP d) at
unfolding atom_with
reads_atom limit [] d good over =
    reads_shut limit starts_atom (AtomP d) at (λ n. sample_atom d n)
    (λ k is. let o = opens_atom d k is in (o.0, o.1, d, o.2, o.3, over))
    (λ us x ns p. let b = begun_atom d us x ns p in (b.0, b.1, d, b.2, b.3, b.4, b.5, over))
    (λ us x ns p. atom_counted d us x ns p)
reads_atom limit (e ∷ es) d good fits = reads_one_atom limit d e es fits (good.0 d fits)

-- no atom begins with `@`
no_at : (k : Lexeme) → StartsAtom k → spells (codes "@") k ≡ false
unfolding atom_named choose
no_at k e = by_test (spells (codes "@") k) refl
  where
    by_test : (b : Bool) → spells (codes "@") k ≡ b → spells (codes "@") k ≡ false
    by_test true is = let both = sym e ∙ ap is_start (atom_spelled (codes "@") k is) in absurd cc
    by_test false is = is

-- behind an atom another one goes on with none
pub at_atom : (d : ℕ) (us : List Lexeme) (x : TermTree) (ns : List ℕ) (rest : List Lexeme) → AtomP d us x ns →
    at (us ++ rest) ≡ false
at_atom d us x ns rest p = let b = atom_begins d p.0 in ap (λ (w : List Lexeme). at (w ++ rest)) b.3 ∙ no_at b.0 b.5

-- arguments of a constructor, and of a function
module _ (limit : ℕ) {A : Type 0} (h : A → TermTree → A) where
  -- one more
  abbrev More : ℕ → A → Phrase A
  More d x = Mapped (h x) (AtomP d)

  more_begun : (d : ℕ) (x : A) (us : List Lexeme) (y : A) (ns : List ℕ) → More d x us y ns → (k : Lexeme) × (v : List Lexeme) ×
      (ms : List ℕ) × (us ≡ k ∷ v) × (ns ≡ d ∷ ms) × (starts_atom k ≡ true)
  more_begun d x _ _ _ (made us t ns p) = begun_atom d us t ns p

  more_counted : (d : ℕ) (x : A) (us : List Lexeme) (y : A) (ns : List ℕ) → More d x us y ns → length ns ≡ length us
  more_counted d x _ _ _ (made us t ns p) = atom_counted d us t ns p

  pub reads_more : (es : Inside) (d : ℕ) → Good limit es → Fits limit es d →
      (x : A) → Reads limit (repeat starts_atom (λ es x. map_reader (h x) (atom_with es)) es x) (Repeat More d x) after_app
  reads_more es d good fits x =
      reads_repeat limit starts_atom (λ es x. map_reader (h x) (atom_with es)) More at after_app (Good limit)
      (λ e es good. good.1)
      (λ e es d good fits x. reads_mapped limit (h x) (atom_with (e ∷ es)) (AtomP d) at (reads_atom limit (e ∷ es) d good fits))
      (λ d n x. let s = sample_atom d n in (
        record {
          tokens = s.0.tokens;
          value = h x s.0.value;
          nests = s.0.nests;
          phrase =
              made s.0.tokens s.0.value s.0.nests s.0.phrase;
        },
        s.1,
      ))
      (λ d x k is. let o = opens_atom d k is in (o.0, h x o.1, o.2, made (k ∷ o.0) o.1 (d ∷ o.2) o.3))
      more_begun more_counted (λ k ts is. no_at k is) (λ rest st. or_parts _ _ st) es d good fits x

  -- what stands behind one goes on with none
  pub at_more : (d : ℕ) (x : A) (us : List Lexeme) (y : A) (ns : List ℕ) (rest : List Lexeme) → Repeat More d x us y ns →
      after_app rest ≡ false → at (us ++ rest) ≡ false
  at_more _ _ _ _ _ rest (enough d x) st = (or_parts _ _ st).0
  at_more _ _ _ _ _ rest (again ts us vs d x y z ns ms ks s q parts nests) st =
      let b = more_begun d x us y ms s in
      ap (λ (w : List Lexeme). at (w ++ rest)) (parts ∙ ap (λ (w : List Lexeme). w ++ vs) b.3) ∙ no_at b.0 b.5

upper_kind_is : (k : Lexeme) → is_upper k ≡ true → IsUpper k
upper_kind_is k e = by_kind k.kind refl e
  where
    by_kind : (t : TokenKind) → k.kind ≡ t → is_upper (record { kind = t; at = 0; text = [] }) ≡ true → IsUpper k
    by_kind kind.Upper is g = is
    by_kind kind.Lower is g = absurd cc
    by_kind (kind.Number n) is g = absurd cc
    by_kind (kind.Character c) is g = absurd cc
    by_kind kind.Reserved is g = absurd cc
    by_kind kind.Sign is g = absurd cc
    by_kind kind.Finish is g = absurd cc

-- a label is read where it isn't too deep
pub reads_label : (limit : ℕ) (es : Inside) (d : ℕ) → Fits limit es d → Reads limit (label_with es) (LabelP d) never
unfolding label_with
reads_label limit [] d over =
    reads_shut limit is_upper (LabelP d) never
    (λ n. (
      record {
        tokens = an_upper n ∷ [];
        value = an_upper n;
        nests = d ∷ [];
        phrase =
            first (an_upper n) (an_upper n) [] _ [] refl nothing;
      },
      refl,
    ))
    (λ k is. let u = upper_kind_is k is in (
      [],
      k,
      d,
      [],
      (let e : upper_of k ≡ Some k = rw u refl in first k k [] k [] e nothing),
      over,
    ))
    label_begun label_counted
  where
    label_begun : (us : List Lexeme) (x : Lexeme) (ns : List ℕ) → LabelP d us x ns → (k : Lexeme) × (v : List Lexeme) × (n : ℕ) ×
        (ms : List ℕ) × (us ≡ k ∷ v) × (ns ≡ n ∷ ms) × (is_upper k ≡ true) × (limit < n)
    label_begun _ _ _ (first k l _ _ _ e nothing) = let u = upper_is k l e in
        (k, [], d, [], refl, refl, (let is : is_upper k ≡ true = rw u.0 refl in is), over)

    label_counted : (us : List Lexeme) (x : Lexeme) (ns : List ℕ) → LabelP d us x ns → length ns ≡ length us
    label_counted _ _ _ (first k l _ _ _ e nothing) = refl
reads_label limit (e ∷ es) d fits = reads_one limit d (omega (arith, fits)) upper_of uppers

-- one application, what may be opened inside, and what is known of it
module _ (limit d : ℕ) (e : Reader TermTree) (es : Inside) (good : Good limit (e ∷ es)) (fits : Fits limit (e ∷ es) d) where
  low : d ≤ limit
  low = omega (arith, fits)

  one_on : Fits limit es (suc d)
  one_on = fits_next limit e es d fits

  two_on : Fits limit (next es) (suc (suc d))
  two_on = fits_behind limit es (suc d) one_on

  good_next : (es : Inside) → Good limit es → Good limit (next es)
  good_next [] g = tt
  good_next (e ∷ es) g = g.1

  loud : {A : Type 0} (f : Reader A) (P : Phrase A) → Reads limit f P at → Reads limit f P after_app
  loud f P q = reads_until limit f P at after_app q (λ ts st. (or_parts _ _ st).0)

  silent : {A : Type 0} (f : Reader A) (P : Phrase A) → Reads limit f P never → Reads limit f P after_app
  silent f P q = reads_until limit f P never after_app q (λ ts st. refl)

  first_atom : Reads limit (atom_with es) (AtomP (suc d)) at
  first_atom = reads_atom limit es (suc d) good.1 one_on

  second_atom : Reads limit (atom_with (next es)) (AtomP (suc (suc d))) at
  second_atom = reads_atom limit (next es) (suc (suc d)) (good_next es good.1) two_on

  at_mapped : (h : TermTree → TermTree) (n : ℕ) (us : List Lexeme) (y : TermTree) (ns : List ℕ) (rest : List Lexeme) →
      Mapped h (AtomP n) us y ns → at (us ++ rest) ≡ false
  at_mapped h n _ _ _ rest (made us t ns p) = at_atom n us t ns rest p

  some_atom : (h : TermTree → TermTree) (n : ℕ) → SomePhrase (Mapped h (AtomP n))
  some_atom h n = sample_mapped h (AtomP n) (sample_atom n 0).0

  label_filled : (us : List Lexeme) (x : Lexeme) (ns : List ℕ) → LabelP (suc d) us x ns → 0 < length us
  label_filled _ _ _ (first k l ts _ _ g q) = omega arith

  reads_app_begun : (s : AppStart) (k : Lexeme) → Reads limit (app_begun_with es s k) (AppBegunR d s k) after_app
  unfolding arguments_with
  reads_app_begun Send k =
      reads_then limit (atom_with es) _ (AtomP (suc d))
      (λ t. Mapped (term.send k.at t) (AtomP (suc (suc d)))) at after_app first_atom
      (λ t. loud _ _ (reads_mapped limit (term.send k.at t) (atom_with (next es)) (AtomP (suc (suc d))) at second_atom))
      (λ t. some_atom (term.send k.at t) (suc (suc d)))
      (atom_filled (suc d)) (λ us x ns vs y ms rest q st. at_mapped (term.send k.at x) (suc (suc d)) vs y ms rest q)
  reads_app_begun Receive k = loud _ _ (reads_mapped limit (term.receive k.at) (atom_with es) (AtomP (suc d)) at first_atom)
  reads_app_begun Close k = loud _ _ (reads_mapped limit (term.close k.at) (atom_with es) (AtomP (suc d)) at first_atom)
  reads_app_begun Wait k = loud _ _ (reads_mapped limit (term.wait k.at) (atom_with es) (AtomP (suc d)) at first_atom)
  reads_app_begun Select k =
      reads_then limit (label_with es) _ (LabelP (suc d))
      (λ l. Mapped (term.select k.at l.text) (AtomP (suc (suc d)))) never after_app (reads_label limit es (suc d) one_on)
      (λ l. loud _ _ (reads_mapped limit (term.select k.at l.text) (atom_with (next es)) (AtomP (suc (suc d))) at second_atom))
      (λ l. some_atom (term.select k.at l.text) (suc (suc d)))
      label_filled (λ us x ns vs y ms rest q st. refl)
  reads_app_begun New k = silent _ _ (reads_mapped limit (term.new k.at) (type_atom_with es) (TypeAtomP (suc d)) never
      (reads_type_atom limit es (suc d) one_on))
  reads_app_begun Fork k = loud _ _ (reads_mapped limit (term.fork k.at) (atom_with es) (AtomP (suc d)) at first_atom)
  reads_app_begun Make k =
      reads_mapped limit (term.make k.at k.text) (arguments_with es no_terms) (Repeat ArgumentS (suc d) no_terms) after_app
      (reads_more limit append_term es (suc d) good.1 one_on no_terms)

  reads_plain : Reads limit (plain_with e es) (PlainP d) at
  unfolding plain_with
  reads_plain =
      reads_as limit _ (PlainR d) (PlainP d) at
      (reads_switch limit d low plain_start (begun_with e es) (BegunR d) at (reads_begun limit d e es fits (good.0 d fits))
      (λ n. record {
        token = a_lower n;
        meaning = Name;
        place_is = refl;
        is = means_plain Name (a_lower n) refl;
        rest = record { tokens = []; value = term.named n [] []; nests = []; phrase = made [] [] [] (none, refl) };
      }))
      (plain_read d) (read_plain d)

  right_filled : (at : ℕ) (us : List Lexeme) (t : TermTree) (ns : List ℕ) →
      Right (PlainP d) Argument d (plain_filled d) at us t ns → 0 < length us
  right_filled at _ _ _ (phrase.pair ts us vs t y ns ms ks q s parts nests) =
      omega (arith, plain_filled d us t ms q, ap length parts, length-append us vs)

  reads_head : Reads limit (head_with e es) (HeadR d) after_app
  unfolding head_with applications_with
  reads_head =
      reads_located limit _ _ after_app
      (λ n. reads_then limit (plain_with e es) (applications_with n es) (PlainP d)
      (λ t. Repeat (Argument n) (suc d) t) at after_app reads_plain
      (λ t. reads_more limit (term.apply n) es (suc d) good.1 one_on t)
      (λ t. record { tokens = []; value = t; nests = []; phrase = enough (suc d) t })
      (plain_filled d) (λ us t ns vs y ms rest q st. at_more limit (term.apply n) (suc d) t vs y ms rest q st))
      (λ n us t ns q. right_filled n us t ns q)

  -- an application by itself begins so, and an atom doesn't
  opened_app : (us : List Lexeme) (x : TermTree) (ns : List ℕ) (rest : List Lexeme) → Switch d app_start (AppBegunR d) us x ns →
      begins opens_app (us ++ rest) ≡ true
  opened_app _ _ _ rest (first k s ts t ns g q) = ap is_app g

  head_free : (us : List Lexeme) (x : TermTree) (ns : List ℕ) (rest : List Lexeme) → HeadR d us x ns → after_app rest ≡ false →
      begins opens_app (us ++ rest) ≡ false
  head_free _ _ _ rest (Located.at k ts t ns (phrase.pair _ us vs y _ _ ms ks p q parts nests)) st =
      by_plain (plain_from d us y ms p)
    where
      by_plain : PlainRead d us y ms → opens_app k ≡ false
      by_plain r =
          let whole : k ∷ ts ≡ r.token ∷ r.others ++ vs = parts ∙ ap (λ (w : List Lexeme). w ++ vs) r.parts in
          let same : k ≡ r.token = cc in
          ap opens_app same ∙ no_app r.begin r.token r.means

  pub reads_one_app : Reads limit (app_with (e ∷ es)) (AppP d) after_app
  unfolding app_with
  reads_one_app =
      reads_as limit _ (AppR d) (AppP d) after_app
      (reads_when limit opens_app (switch app_start (app_begun_with es)) (head_with e es) (Switch d app_start (AppBegunR d))
      (HeadR d) after_app
      (reads_switch limit d low app_start (app_begun_with es) (AppBegunR d) after_app reads_app_begun (λ n. record {
        token = an_upper n;
        meaning = Make;
        place_is = refl;
        is = means_app Make (an_upper n) refl;
        rest = record {
          tokens = [];
          value = term.make n [] no_terms;
          nests = [];
          phrase =
              made [] no_terms [] (enough (suc d) no_terms);
        };
      }))
      reads_head opened_app head_free)
      (app_to d) (app_from d)
