-- What the readers of terms and of modules need of those of types: that they read just the phrases of types, with what a
-- type begins.
use Rattle.std.proofs.Common.{◌≡◌, ℕ, suc, ◌+◌, ◌≤◌, ◌<◌, true, false, List, ◌∷◌, length, None, ap, ◌∙◌}
use Rattle.std.specs.Prelude.{codes}
use Rattle.std.specs.Str.{bytes_eq}
use Rattle.fst_types.specs.WrittenTree.{WrittenTree, HasBranches}
use Rattle.fst_types.specs.declared.kind.Kind.{Kind}
use Rattle.fst_types.specs.declared.kind.Use.{Use}
use Rattle.fst_terms.specs.declared.binder.Binder.{Binder}
use Rattle.fst_terms.specs.Count.{type_count}
use Rattle.fst_reading.specs.Lexeme.{Lexeme, spells, Is}
use Rattle.fst_reading.specs.Reading.{Reader, sep_by}
use Rattle.fst_reading.proofs.Phrases.{Reads, never, first}
use Rattle.fst_reading.proofs.Steps.{SomePhrase}
use Rattle.fst_reading.proofs.Words.{BeginsWith, comma}
use Rattle.fst_type_syntax.specs.Grammar.{IsType, IsSeq, IsAtom, IsArrow, IsBinders}
use Rattle.fst_type_syntax.specs.Nesting.{seq_nests, atom_nests}
use Rattle.fst_type_syntax.specs.Derives.{TypePhrase, SeqPhrase, AtomPhrase, BindersPhrase, lengthens_seq, lengthens}
use Rattle.fst_type_syntax.specs.TypeReading.{start_named, start_of, is_begun, starts_type_atom, starts_type, atom_with, seq_at, type_at, binder_at}
use Rattle.fst_type_syntax.proofs.TypeTokens as tokens
use Rattle.fst_type_syntax.proofs.TypePhrases as phrases
use Rattle.fst_type_syntax.proofs.TypeReads as types
use Rattle.fst_type_syntax.proofs.QuestionReads as questions
use Rattle.fst_type_syntax.proofs.Filled as filled
use Rattle.fst_type_syntax.proofs.Few as few

-- the reader of `seqtype`s reads just these, where none of their tokens is too deep
pub reads_seq : (limit n d : ℕ) → d + n ≡ suc limit → Reads limit (seq_at n) (SeqPhrase d) lengthens_seq
reads_seq = types.reads_seq

-- so does the reader of types
pub reads_type : (limit n d : ℕ) → d + n ≡ limit → Reads limit (type_at n) (TypePhrase d) lengthens
reads_type = types.reads_type

-- and the reader of atomic types, with readers of the types inside
pub reads_atom : (limit d : ℕ) → d ≤ limit → (seq type : Reader WrittenTree) → Reads limit seq (SeqPhrase (suc d)) lengthens_seq →
    Reads limit type (TypePhrase d) lengthens → Reads limit (atom_with seq type) (AtomPhrase d) never
reads_atom = types.reads_atom

-- and the reader of variables with their kinds
pub reads_binders : (limit : ℕ) → Reads limit (sep_by (spells (codes ",")) binder_at) BindersPhrase comma
reads_binders = questions.reads_binders

-- variables with their kinds have a token
pub binders_filled : (us : List Lexeme) (bs : List (Binder × Kind)) (ns : List ℕ) → BindersPhrase us bs ns → 0 < length us
binders_filled = questions.binders_filled

-- some `seqtype` whose first token stands at a place
pub sample_seq : (d n : ℕ) → SomePhrase (SeqPhrase d)
sample_seq = types.sample_seq

-- and some type
pub sample_type : (d n : ℕ) → SomePhrase (TypePhrase d)
sample_type = types.sample_type

-- a `seqtype` begins with a token with which a type may begin
pub seq_begins : (d : ℕ) (ts : List Lexeme) (t : WrittenTree) (ns : List ℕ) → SeqPhrase d ts t ns → BeginsWith
    (λ k. starts_type k ≡ true) d ts ns
seq_begins = phrases.seq_begins

-- so does a type, whose first token is nested one deeper
pub type_begins : (d : ℕ) (ts : List Lexeme) (t : WrittenTree) (ns : List ℕ) → TypePhrase d ts t ns → BeginsWith
    (λ k. starts_type k ≡ true) (suc d) ts ns
type_begins = phrases.type_begins

-- an atomic type begins with a token with which one may begin
pub atom_begins : (d : ℕ) (ts : List Lexeme) (t : WrittenTree) (ns : List ℕ) → AtomPhrase d ts t ns → BeginsWith
    (λ k. starts_type_atom k ≡ true) d ts ns
atom_begins d ts t ns p =
    let b = phrases.atom_begins d ts t ns p in
    (b.0, b.1, b.2, b.3, b.4, ap is_begun b.5.1)

-- and each such token begins some atomic type
pub atom_opens : (d : ℕ) (k : Lexeme) → starts_type_atom k ≡ true → (others : List Lexeme) × (x : WrittenTree) ×
    (ns : List ℕ) × AtomPhrase d (k ∷ others) x (d ∷ ns)
atom_opens d k is =
    let s = tokens.option_of (start_of k) is in
    let q = types.opening_by d k s.0 in
    (q.tokens, q.value, q.nests, phrases.atom_to d _ _ _ (first k s.0 q.tokens q.value q.nests s.1 q.phrase))

-- no atomic type begins with a word that isn't among those with which one does
pub no_atom_word : (w : List ℕ) (k : Lexeme) → start_named w ≡ None → Is w k → starts_type_atom k ≡ false
no_atom_word w k none is = ap is_begun (tokens.start_spelled w k is ∙ none)

-- and no type does, where the word is not `rec` either
pub no_type_word : (w : List ℕ) (k : Lexeme) → bytes_eq (codes "rec") w ≡ false → start_named w ≡ None → starts_type k ≡ true →
    spells w k ≡ false
no_type_word = tokens.no_type

-- each token of a `seqtype` has a nesting
pub seq_count : (n : ℕ) {ts : List Lexeme} {t : WrittenTree} (s : IsSeq ts t) → length (seq_nests n s) ≡ length ts
seq_count = types.seq_count

-- and each token of an atomic type
pub atom_count : (n : ℕ) {ts : List Lexeme} {t : WrittenTree} (s : IsAtom ts t) → length (atom_nests n s) ≡ length ts
atom_count = types.atom_count

-- each choice in a type has a branch
pub type_filled : {ts : List Lexeme} {t : WrittenTree} → IsType ts t → HasBranches t
type_filled = filled.type_filled

-- so it is in a `seqtype`
pub seq_filled : {ts : List Lexeme} {t : WrittenTree} → IsSeq ts t → HasBranches t
seq_filled = filled.seq_filled

-- and in an atomic type
pub atom_filled : {ts : List Lexeme} {t : WrittenTree} → IsAtom ts t → HasBranches t
atom_filled = filled.atom_filled

-- a type has no more types than tokens
pub type_few : {ts : List Lexeme} {t : WrittenTree} → IsType ts t → type_count t ≤ length ts
type_few = few.type_few

-- so has a `seqtype`
pub seq_few : {ts : List Lexeme} {t : WrittenTree} → IsSeq ts t → type_count t ≤ length ts
seq_few = few.seq_few

-- and an atomic type
pub atom_few : {ts : List Lexeme} {t : WrittenTree} → IsAtom ts t → type_count t ≤ length ts
atom_few = few.atom_few

-- an arrow has a token
pub arrow_some : {ts : List Lexeme} {u : Use} → IsArrow ts u → 1 ≤ length ts
arrow_some = few.arrow_some

-- variables with their kinds are no more than their tokens
pub binders_few : {ts : List Lexeme} {bs : List (Binder × Kind)} → IsBinders ts bs → length bs ≤ length ts
binders_few = few.binders_few
