-- The answers that the definitions allow are those of the reader.
use Rattle.std.proofs.Common.{◌≡◌, ◌≢◌, ℕ, Bool, false, List, [], Ok, Err, refl, ap}
use Rattle.fst_reading.specs.declared.fault.SyntaxFault.{SyntaxFault}
use Rattle.fst_reading.specs.declared.fault.SyntaxFault.TheVariants as fault
use Rattle.fst_base.specs.Limits.{most_nested}
use Rattle.fst_reading.specs.Lexeme.{place}
use Rattle.fst_reading.specs.Faults.{PhraseOf, Refuses}
use Rattle.fst_reading.specs.Reading.{HaltOf, Halt, Syntax, Deep, ReaderOf}
use Rattle.fst_reading.proofs.Phrases.{ReadsJust}
use Rattle.fst_reading.proofs.Exactness.{stops, too_deep, stops_gives, deep_gives}

-- the fault of a stop, by where tokens stand
abbrev pub fault_at : {T : Type 0} → (List T → ℕ) → HaltOf T → SyntaxFault
fault_at where_is (Syntax s) = fault.Syntax (where_is s)
fault_at where_is (Deep s) = fault.TooDeep (where_is s)

-- so it is where the text ends at this byte
abbrev pub fault_of : ℕ → Halt → SyntaxFault
fault_of end = fault_at (place end)

module _ {T A : Type 0} (f : ReaderOf T A) (P : PhraseOf T A) (more : List T → Bool) (r : ReadsJust most_nested f P more)
    (ends : (ts : List T) (x : A) (rest : List T) → f ts ≡ Ok (x, rest) → more rest ≡ false) (free : more [] ≡ false) where
  -- what is refused is refused so by the reader, and the reader refuses what is
  pub refused : (where_is : List T → ℕ) (ts : List T) (e : SyntaxFault) → e ≢ fault.Memory → Refuses P more where_is ts e →
      (h : HaltOf T) × (f ts ≡ Err h) × (e ≡ fault_at where_is h)
  refused where_is ts (fault.Syntax at) other q =
      (Syntax q.0, stops_gives most_nested f P more r ends free ts q.0 q.2, ap fault.Syntax q.1)
  refused where_is ts (fault.TooDeep at) other q =
      (Deep q.0, deep_gives most_nested f P more r ends free ts q.0 q.2, ap fault.TooDeep q.1)
  refused where_is ts fault.Memory other q = absurd (other refl)

  pub refuses : (where_is : List T → ℕ) (ts : List T) (h : HaltOf T) → f ts ≡ Err h →
      Refuses P more where_is ts (fault_at where_is h)
  refuses where_is ts (Syntax s) e = (s, refl, stops most_nested f P more r ends free ts s e)
  refuses where_is ts (Deep s) e = (s, refl, too_deep most_nested f P more r ends free ts s e)
