-- What is put at a path.
use Rattle.std.proofs.Common.{◌≡◌, ◌∙◌, Bool, true, false, refl, sym, ap}
use Rattle.std.specs.Prelude.{if◌then◌else◌}
use Rattle.std.specs.Str.{bytes_eq}
use Rattle.std.proofs.lemmas.Slice.Eq.{bytes_eq-Decides}
use Rattle.fst_paths.specs.Paths.{Path, put_at}
use Rattle.fst_paths.proofs.PathLaws.{path_same}

-- what is put at a path is there
pub put_here : {X : Type 0} (p : Path) (x : X) (f : Path → X) → put_at p x f p ≡ x
put_here p x f = ap (λ b. if b then x else f p) ((bytes_eq-Decides p p).1 refl)

-- elsewhere is what was there
pub put_else : {X : Type 0} (p q : Path) (x : X) (f : Path → X) → bytes_eq p q ≡ false → put_at p x f q ≡ f q
put_else p q x f e = ap (λ b. if b then x else f q) e

-- what holds of what is put there, and of what was at each other path
pub put_cases : {X : Type 0} (P : X → Type 0) (p q : Path) (x : X) (f : Path → X) → (p ≡ q → P x) →
    (bytes_eq p q ≡ false → P (f q)) → P (put_at p x f q)
put_cases P p q x f g h = go (bytes_eq p q) refl
  where
    go : (b : Bool) → bytes_eq p q ≡ b → P (if b then x else f q)
    go true e = g (path_same p q e)
    go false e = h e

-- so it is where two things are put at one path
pub put_both : {X Y : Type 0} (P : X → Y → Type 0) (p q : Path) (x : X) (f : Path → X) (y : Y) (g : Path → Y) →
    (p ≡ q → P x y) → (bytes_eq p q ≡ false → P (f q) (g q)) → P (put_at p x f q) (put_at p y g q)
put_both P p q x f y g h k = go (bytes_eq p q) refl
  where
    go : (b : Bool) → bytes_eq p q ≡ b → P (if b then x else f q) (if b then y else g q)
    go true e = h (path_same p q e)
    go false e = k e

-- what is put at a path in place of something else
pub put_twice : {X : Type 0} (p : Path) (x y : X) (f : Path → X) → put_at p x f ≡ put_at p x (put_at p y f)
put_twice {X} p x y f = λ i q. by (bytes_eq p q) (f q) i
  where
    by : (b : Bool) (z : X) → (if b then x else z) ≡ (if b then x else if b then y else z)
    by true z = refl
    by false z = refl

-- and where that is what was there at first
pub put_back : {X : Type 0} (p : Path) (x y : X) (f : Path → X) → f p ≡ x → f ≡ put_at p x (put_at p y f)
put_back {X} p x y f e = λ i q. by q (bytes_eq p q) refl i
  where
    by : (q : Path) (b : Bool) → bytes_eq p q ≡ b → f q ≡ (if b then x else if b then y else f q)
    by q true g = ap f (sym (path_same p q g)) ∙ e
    by q false g = refl
