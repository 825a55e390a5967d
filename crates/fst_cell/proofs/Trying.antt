-- The steps, at the seat of an end.
use Rattle.std.proofs.Common.{◌≡◌, ◌≢◌, ℕ, ◌+◌, ◌-◌, ◌%◌, ◌^◌, List, [], ◌∷◌, Option, Some, ⊎_elim, refl, sym, ap, ◌∙◌, subst, arith}
use Rattle.std.specs.Int.Bits.{bit_or}
use Rattle.atomic_table.specs.Table.{Me, rest, Allows}
use Rattle.fst_cell.specs.declared.content.Content.{Content}
use Rattle.fst_cell.specs.declared.content.Half.{Half}
use Rattle.fst_cell.specs.declared.content.View.{View}
use Rattle.fst_cell.specs.declared.content.View.TheVariants.{Only}
use Rattle.fst_cell.specs.Rule.{turn_word, Sound, Fits, Holds, took, synced, out, Tried, TriedAs, ReturnedAs}
use Rattle.fst_cell.specs.End.{half_of, Idle, IsOut, Stays, Passes}
use Rattle.fst_cell.proofs.Moves.{tries, returns}

pub tries_idle : (slots id : ℕ) (m : Me (Option Content) View) → Idle m → Allows Holds slots id m 0
    (λ n. bit_or n 1) (TriedAs m.0)
tries_idle slots id m i = subst (λ (x : Me (Option Content) View). Allows Holds slots id x 0 (λ n. bit_or n 1) (TriedAs x.0))
    (sym i.only) (tries slots id (half_of m.0) i.free)

pub tells : (m k : Me (Option Content) View) (n : ℕ) → Idle m → TriedAs m.0 n k → Tried (half_of m.0) n k
tells m k n i t = subst (λ (x : View). TriedAs x n k) (ap (λ (x : Me (Option Content) View). x.0) i.only) t

-- a try that won
pub record Won (v : Half) (n : ℕ) (k : Me (Option Content) View) : Type 0 where
  pub content : Content
  pub word : n ≡ turn_word content 0
  pub seat : k ≡ (Only (took v n content), out content)
  pub sound : Sound content
  pub fits : Fits content v

pub wins : (v : Half) (n : ℕ) (k : Me (Option Content) View) → n % 2 ≢ 1 → Tried v n k → Won v n k
wins v n k free t = ⊎_elim (λ lost. absurd (free lost.0))
    (λ won. record { content = won.0; word = won.1; seat = won.2; sound = won.3; fits = won.4 }) t

pub holds_one : (v : Half) (n : ℕ) (k : Me (Option Content) View) → (w : Won v n k) → (old : Option Content) ×
    (k.1 ≡ (0, old) ∷ rest k.1)
holds_one v n k w = (
  Some w.content,
  ap (λ (x : Me (Option Content) View). x.1) w.seat ∙ ap
      (λ (l : List (ℕ × Option Content)). (0, Some w.content) ∷ rest l) (sym (ap (λ (x : Me (Option Content) View). x.1) w.seat)),
)

-- the seat, once its slot has its content again
pub filled : (m : Me (Option Content) View) (d : Content) → IsOut m →
    (k : Me (Option Content) View) → k ≡ (m.0, (0, Some d) ∷ rest m.1) → k ≡ (Only (half_of m.0), out d)
filled m d is k e = e ∙ ap (λ (x : Me (Option Content) View). (x.0, (0, Some d) ∷ rest x.1)) is

returns_as : (slots id : ℕ) (v : Half) (d : Content) (m : Me (Option Content) View) (f : ℕ → ℕ) → m ≡ (Only v, out d) →
    Allows Holds slots id (Only v, out d) 0 f (λ n k. k ≡ (Only (synced v d), [])) → Allows Holds slots id m 0 f
    (λ n k. ReturnedAs m.0 m.1 k)
returns_as slots id v d m f is a = subst (λ (x : Me (Option Content) View). Allows Holds slots id x 0 f
    (λ n k. ReturnedAs x.0 x.1 k)) (sym is) a

pub goes_back : (slots id : ℕ) (v : Half) (d : Content) (m : Me (Option Content) View) → m ≡ (Only v, out d) → Stays v d
    → Allows Holds slots id m 0 (λ n. (n + (2 ^ 64 - 1)) % 2 ^ 64) (λ n k. ReturnedAs m.0 m.1 k)
goes_back slots id v d m is s = returns_as slots id v d m
    (λ n. (n + (2 ^ 64 - 1)) % 2 ^ 64) is (returns slots id v d d (λ n. (n + (2 ^ 64 - 1)) % 2 ^ 64) s.held
    (λ small. omega arith) s.sound refl (λ o side fits. fits))

pub goes_on : (slots id : ℕ) (v : Half) (d : Content) (m : Me (Option Content) View) → m ≡ (Only v, out d) → Passes v d
    → Allows Holds slots id m 0 (λ n. (n + 1) % 2 ^ 64) (λ n k. ReturnedAs m.0 m.1 k)
goes_on slots id v d m is s = returns_as slots id v d m
    (λ n. (n + 1) % 2 ^ 64) is (returns slots id v s.before d (λ n. (n + 1) % 2 ^ 64) s.held
    (λ small. let w = s.word in let b = s.small in omega arith) s.sound s.same s.keeps)

-- what the step tells
pub returned : (v : Half) (d : Content) (m k : Me (Option Content) View) → m ≡ (Only v, out d) → ReturnedAs m.0 m.1 k →
    k ≡ (Only (synced v d), [])
returned v d m k is t = subst (λ (x : Me (Option Content) View). ReturnedAs x.0 x.1 k) is t
