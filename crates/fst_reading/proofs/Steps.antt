-- Single steps of readers: what they give, and what they leave.
use Rattle.std.proofs.Common.{◌≡◌, ℕ, ◌<◌, ◌⊎◌, inl, inr, Bool, List, [], ◌∷◌, ◌++◌, length, Result, Ok, Err, refl, ap, ◌∙◌, arith, length-append}
use Rattle.fst_reading.specs.Lexeme.{Lexeme, start}
use Rattle.fst_reading.specs.Faults.{Phrase, IsWithinLimit}
use Rattle.fst_reading.specs.Reading.{Halt, Syntax, Deep, Reader, bind, give, map_reader}
use Rattle.fst_reading.proofs.Phrases.{Over, left_by, Reads}

pub IsWithinLimit-append : (limit : ℕ) (xs ys : List ℕ) → IsWithinLimit limit xs → IsWithinLimit limit ys →
    IsWithinLimit limit (xs ++ ys)
IsWithinLimit-append limit [] ys p q = q
IsWithinLimit-append limit (x ∷ xs) ys p q = (p.0, IsWithinLimit-append limit xs ys p.1 q)

-- the value of a step that did not fail
pub bind_ok : {A B : Type 0} (r : Result A Halt) (f : A → Result B Halt) (y : B) → bind r f ≡ Ok y → (x : A) × (r ≡ Ok x) ×
    (f x ≡ Ok y)
unfolding bind
bind_ok (Ok x) f y e = (x, refl, e)
bind_ok (Err d) f y e = absurd cc

pub bind_err : {A B : Type 0} (r : Result A Halt) (f : A → Result B Halt) (h : Halt) → bind r f ≡ Err h → (r ≡ Err h) ⊎
    ((x : A) × (r ≡ Ok x) × (f x ≡ Err h))
unfolding bind
bind_err (Ok x) f h e = inr (x, refl, e)
bind_err (Err d) f h e = inl (let same : d ≡ h = cc in ap Err same)

pub bind_with : {A B : Type 0} (r : Result A Halt) (f : A → Result B Halt) (x : A) → r ≡ Ok x → bind r f ≡ f x
unfolding bind
bind_with r f x e = rw e refl

pub bind_without : {A B : Type 0} (r : Result A Halt) (f : A → Result B Halt) (h : Halt) → r ≡ Err h → bind r f ≡ Err h
unfolding bind
bind_without r f h e = rw e refl

abbrev done : {A : Type 0} → A → Result A Halt
done x = Ok x

pub ok_is : {A : Type 0} (x y : A) → done x ≡ done y → x ≡ y
ok_is x y e = cc

abbrev failed : {A : Type 0} → Halt → Result A Halt
failed h = Err h

pub err_is : {A : Type 0} (x y : Halt) → failed {A = A} x ≡ failed y → x ≡ y
err_is x y e = cc

-- what is left stands at the end of what was there
pub tail_of : {A : Type 0} (limit : ℕ) (f : Reader A) (P : Phrase A) (more : List Lexeme → Bool) → Reads limit f P more →
    (ts : List Lexeme) → (us : List Lexeme) × (ts ≡ us ++ left_by (f ts))
tail_of limit f P more r ts = of_step (f ts) refl
  where
    of_step : (v : Result _ Halt) → f ts ≡ v → (us : List Lexeme) × (ts ≡ us ++ left_by v)
    of_step (Ok x) e = let p = r.found ts x.0 x.1 e in (p.tokens, p.parts)
    of_step (Err h) e = let p = r.stopped ts h e in (p.tokens, p.parts)

-- the same front stands before equal ends
pub same_front : (w v : List Lexeme) (k : Lexeme) (r r' : List Lexeme) → w ++ k ∷ r ≡ v ++ k ∷ r → w ++ k ∷ r' ≡ v ++ k ∷ r'
same_front [] [] k r r' e = refl
same_front [] (c ∷ v) k r r' e = absurd (omega (arith, ap length e, length-append v (k ∷ r)))
same_front (c ∷ w) [] k r r' e = absurd (omega (arith, ap length e, length-append w (k ∷ r)))
same_front (c ∷ w) (d ∷ v) k r r' e =
    let heads : c ≡ d = cc in
    let tails : w ++ k ∷ r ≡ v ++ k ∷ r = cc in
    let rest = same_front w v k r r' tails in
    rw (heads, rest) refl

-- some phrase of a kind
pub record SomePhrase {A : Type 0} (P : Phrase A) : Type 0 where
  pub tokens : List Lexeme
  pub value : A
  pub nests : List ℕ
  pub phrase : P tokens value nests

pub over_longer : (h : Halt) (limit : ℕ) (others vs : List Lexeme) (high ms : List ℕ) → Over h limit others high →
    Over h limit (others ++ vs) (high ++ ms)
over_longer (Syntax s) limit others vs high ms o = tt
over_longer (Deep s) limit others vs high ms o = record {
  token = o.token;
  after = o.after;
  further = o.further ++ vs;
  nest = o.nest;
  nests = o.nests ++ ms;
  here = o.here;
  first = ap (λ (w : List Lexeme). w ++ vs) o.first;
  highest = ap (λ (w : List ℕ). w ++ ms) o.highest;
  over = o.over;
}

pub start_front : (a b c : List Lexeme) → 0 < length a → start (a ++ b) ≡ start (a ++ c)
start_front [] b c lt = absurd (omega arith)
start_front (k ∷ a) b c lt = refl

pub start_more : (a b : List Lexeme) (n : ℕ) → 0 < length a → start a ≡ n → start (a ++ b) ≡ n
start_more [] b n lt e = absurd (omega arith)
start_more (k ∷ a) b n lt e = e

pub give_is : {A : Type 0} (x : A) (ts : List Lexeme) (y : A) (rest : List Lexeme) → give x ts ≡ Ok (y, rest) → (x ≡ y) ×
    (ts ≡ rest)
unfolding give
give_is x ts y rest e =
    let same = ok_is (x, ts) (y, rest) e in
    (ap (λ (p : _ × List Lexeme). p.0) same, ap (λ (p : _ × List Lexeme). p.1) same)

pub give_never : {A : Type 0} (x : A) (ts : List Lexeme) (h : Halt) → give x ts ≡ Err h → ⊥
unfolding give
give_never x ts h e = cc

pub mapped_is : {A B : Type 0} (h : A → B) (f : Reader A) (ts : List Lexeme) (y : B) (rest : List Lexeme) →
    map_reader h f ts ≡ Ok (y, rest) → (x : A) × (f ts ≡ Ok (x, rest)) × (h x ≡ y)
unfolding map_reader
mapped_is h f ts y rest e =
    let a = bind_ok _ _ (y, rest) e in
    let same = ok_is (h a.0.0, a.0.1) (y, rest) a.2 in
    let tail : a.0.1 ≡ rest = ap (λ (p : _ × List Lexeme). p.1) same in
    (a.0.0, a.1 ∙ ap (λ (s : List Lexeme). Ok (a.0.0, s)) tail, ap (λ (p : _ × List Lexeme). p.0) same)

pub mapped_err : {A B : Type 0} (h : A → B) (f : Reader A) (ts : List Lexeme) (d : Halt) → map_reader h f ts ≡ Err d →
    f ts ≡ Err d
unfolding map_reader
mapped_err h f ts d e = elim (bind_err _ _ d e) [ inl g ↦ g | inr g ↦ absurd (let is = g.2 in cc) ]

pub left_mapped : {A B : Type 0} (h : A → B) (v : Result (A × List Lexeme) Halt) →
    left_by (bind v (λ x. Ok (h x.0, x.1))) ≡ left_by v
unfolding bind
left_mapped h (Ok x) = refl
left_mapped h (Err d) = refl
