-- Reading phrases with a sign between each two one after the other, as a loop does.
use Rattle.std.proofs.Common.{◌≡◌, ℕ, suc, ◌+◌, ◌-◌, ◌≤◌, ◌<◌, Bool, true, false, List, [], ◌∷◌, ◌++◌, Result, Ok, Err, refl, sym, ap, ◌∙◌, arith, append_assoc}
use Rattle.fst_reading.specs.declared.stop.Stop.{Stop}
use Rattle.fst_reading.specs.declared.stop.Stop.TheVariants as stop
use Rattle.fst_reading.specs.Lexeme.{Lexeme}
use Rattle.fst_reading.specs.Reading.{Halt, Syntax, Deep, Reader, bind, give, andthen, map_reader, on, begins, behind, sep_by_within}
use Rattle.fst_reading.specs.Gives.{Fails}
use Rattle.fst_base.specs.Choice.{choose}

-- what was read before, and what is still read
abbrev pub with_front : {A : Type 0} → List A → Result (List A × List Lexeme) Halt → Result (List A × List Lexeme) Halt
with_front front read = bind read (λ x. Ok (front ++ x.0, x.1))

pub regroup : {A : Type 0} (front : List A) (a : A) (read : Result (List A × List Lexeme) Halt) →
    with_front front (bind read (λ x. Ok (a ∷ x.0, x.1))) ≡ with_front (front ++ a ∷ []) read
unfolding bind
regroup front a (Ok x) = ap (λ (bs : List _). Ok (bs, x.1)) (sym (append_assoc front (a ∷ []) x.0))
regroup front a (Err h) = refl

pub with_none : {A : Type 0} (read : Result (List A × List Lexeme) Halt) → with_front [] read ≡ read
unfolding bind
with_none (Ok x) = refl
with_none (Err h) = refl

pub begins_empty : {A : Type 0} (test : Lexeme → Bool) (f : Reader A) (n : ℕ) (ts : List Lexeme) →
    with_front [] (sep_by_within test f (n - 0) ts) ≡ sep_by_within test f n ts
begins_empty test f n ts =
    let k : n - 0 ≡ n = omega arith in
    rw k (with_none (sep_by_within test f n ts))

module _ {A : Type 0} (test : Lexeme → Bool) (f : Reader A) (front : List A) (end i : ℕ) (rest : List Lexeme)
    (total : Result (List A × List Lexeme) Halt) where
  pub goes_on : (a : A) (after : List Lexeme) → i < end → f rest ≡ Ok (a, after) → begins test after ≡ true →
      with_front front (sep_by_within test f (end - i) rest) ≡ total →
      with_front (front ++ a ∷ []) (sep_by_within test f (end - (i + 1)) (behind after)) ≡ total
  unfolding sep_by_within andthen map_reader on bind choose
  goes_on a after lt h comma so_far =
      let k : end - i ≡ suc (end - (i + 1)) = omega arith in
      let one : with_front front (sep_by_within test f (end - i) rest) ≡ with_front (front ++ a ∷ [])
      (sep_by_within test f (end - (i + 1)) (behind after)) =
      rw (k, h, comma) (regroup front a (sep_by_within test f (end - (i + 1)) (behind after))) in
      sym one ∙ so_far

  pub stops : (a : A) (after : List Lexeme) → i < end → f rest ≡ Ok (a, after) → begins test after ≡ false →
      with_front front (sep_by_within test f (end - i) rest) ≡ total → total ≡ Ok (front ++ a ∷ [], after)
  unfolding sep_by_within andthen on give bind choose
  stops a after lt h comma so_far =
      let k : end - i ≡ suc (end - (i + 1)) = omega arith in
      let one : with_front front (sep_by_within test f (end - i) rest) ≡ Ok (front ++ a ∷ [], after) = rw (k, h, comma) refl in
      sym so_far ∙ one

  pub runs_out : end ≤ i → with_front front (sep_by_within test f (end - i) rest) ≡ total → total ≡ Err (Syntax rest)
  unfolding sep_by_within bind
  runs_out le so_far =
      let k : end - i ≡ 0 = omega arith in
      let one : with_front front (sep_by_within test f (end - i) rest) ≡ Err (Syntax rest) = rw k refl in
      sym so_far ∙ one

  pub fails : (e : Stop) → i < end → Fails e (f rest) → with_front front (sep_by_within test f (end - i) rest) ≡ total →
      Fails e total
  unfolding sep_by_within andthen bind
  fails stop.Memory lt h so_far = tt
  fails (stop.Syntax ts) lt h so_far =
      let k : end - i ≡ suc (end - (i + 1)) = omega arith in
      let one : with_front front (sep_by_within test f (end - i) rest) ≡ Err (Syntax ts.now) = rw (k, h) refl in
      sym so_far ∙ one
  fails (stop.TooDeep ts) lt h so_far =
      let k : end - i ≡ suc (end - (i + 1)) = omega arith in
      let one : with_front front (sep_by_within test f (end - i) rest) ≡ Err (Deep ts.now) = rw (k, h) refl in
      sym so_far ∙ one
