-- Reading phrases one behind the other, as long as one begins, as a loop does.
use Rattle.std.proofs.Common.{◌≡◌, ℕ, zero, suc, ◌+◌, ◌-◌, ◌≤◌, ◌<◌, Bool, true, false, List, [], ◌∷◌, ◌++◌, Result, Ok, Err, refl, sym, ◌∙◌, arith}
use Rattle.std.proofs.lemmas.List.{append-nil}
use Rattle.fst_reading.specs.declared.stop.Stop.{Stop}
use Rattle.fst_reading.specs.declared.stop.Stop.TheVariants as stop
use Rattle.fst_reading.specs.Lexeme.{Lexeme}
use Rattle.fst_reading.specs.Reading.{Halt, Syntax, Deep, Reader, bind, give, andthen, map_reader, when, begins, many_within}
use Rattle.fst_reading.specs.Gives.{Fails}
use Rattle.fst_reading.proofs.Loops.{with_front, regroup, with_none}
use Rattle.fst_base.specs.Choice.{choose}

pub begins_empty : {A : Type 0} (test : Lexeme → Bool) (f : Reader A) (n : ℕ) (ts : List Lexeme) →
    with_front [] (many_within test f (n - 0) ts) ≡ many_within test f n ts
begins_empty test f n ts =
    let k : n - 0 ≡ n = omega arith in
    rw k (with_none (many_within test f n ts))

-- where none begins, none is read
none_begins : {A : Type 0} (test : Lexeme → Bool) (f : Reader A) (n : ℕ) (rest : List Lexeme) → begins test rest ≡ false →
    many_within test f n rest ≡ Ok ([], rest)
unfolding many_within when give choose
none_begins test f zero rest b = refl
none_begins test f (suc n) rest b = rw b refl

module _ {A : Type 0} (test : Lexeme → Bool) (f : Reader A) (front : List A) (end i : ℕ) (rest : List Lexeme)
    (total : Result (List A × List Lexeme) Halt) where
  pub goes_on : (a : A) (after : List Lexeme) → i < end → begins test rest ≡ true → f rest ≡ Ok (a, after) →
      with_front front (many_within test f (end - i) rest) ≡ total →
      with_front (front ++ a ∷ []) (many_within test f (end - (i + 1)) after) ≡ total
  unfolding many_within andthen map_reader when bind choose
  goes_on a after lt b h so_far =
      let k : end - i ≡ suc (end - (i + 1)) = omega arith in
      let one : with_front front (many_within test f (end - i) rest) ≡ with_front (front ++ a ∷ [])
      (many_within test f (end - (i + 1)) after) =
      rw (k, b, h) (regroup front a (many_within test f (end - (i + 1)) after)) in
      sym one ∙ so_far

  pub stops : begins test rest ≡ false → with_front front (many_within test f (end - i) rest) ≡ total → total ≡ Ok (front, rest)
  unfolding bind
  stops b so_far =
      let one : with_front front (many_within test f (end - i) rest) ≡ Ok (front, rest) =
      rw (none_begins test f (end - i) rest b, append-nil front) refl in
      sym so_far ∙ one

  pub runs_out : end ≤ i → with_front front (many_within test f (end - i) rest) ≡ total → total ≡ Ok (front, rest)
  unfolding many_within give bind
  runs_out le so_far =
      let k : end - i ≡ 0 = omega arith in
      let one : with_front front (many_within test f (end - i) rest) ≡ Ok (front, rest) = rw (k, append-nil front) refl in
      sym so_far ∙ one

  pub fails : (e : Stop) → i < end → begins test rest ≡ true → Fails e (f rest) →
      with_front front (many_within test f (end - i) rest) ≡ total → Fails e total
  unfolding many_within andthen when bind choose
  fails stop.Memory lt b h so_far = tt
  fails (stop.Syntax ts) lt b h so_far =
      let k : end - i ≡ suc (end - (i + 1)) = omega arith in
      let one : with_front front (many_within test f (end - i) rest) ≡ Err (Syntax ts.now) = rw (k, b, h) refl in
      sym so_far ∙ one
  fails (stop.TooDeep ts) lt b h so_far =
      let k : end - i ≡ suc (end - (i + 1)) = omega arith in
      let one : with_front front (many_within test f (end - i) rest) ≡ Err (Deep ts.now) = rw (k, b, h) refl in
      sym so_far ∙ one
