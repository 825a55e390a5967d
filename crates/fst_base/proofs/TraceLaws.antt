-- Agreement to a depth is performing the same traces up to that length.
use Rattle.std.proofs.Common.{ℕ, zero, suc, ◌≤◌, ◌↔◌, List, [], ◌∷◌, length, Option, Some, None, refl, arith}
use Rattle.std.specs.Prelude.{IsSome, option_and_then}
use Rattle.fst_base.specs.Agreement.{residual, Performs, BothOrNeither, AgreeTo, HaveSameTracesTo}

module _ {T U A : Type 0} (f : T → A → Option T) (g : U → A → Option U) where
  -- after one label, from agreement
  traces_after : (n : ℕ) (w : List A) (o : Option T) (p : Option U) →
      ((x : T) (y : U) → AgreeTo f g n x y → (Performs f x w ↔ Performs g y w)) → BothOrNeither (AgreeTo f g n) o p →
      (IsSome (option_and_then (λ y. residual f y w) o) ↔ IsSome (option_and_then (λ y. residual g y w) p))
  traces_after n w None None h b = (λ i. i, λ i. i)
  traces_after n w None (Some y) h b = absurd b
  traces_after n w (Some x) None h b = absurd b
  traces_after n w (Some x) (Some y) h b = h x y b

  -- what agrees to a depth performs the same traces up to it
  traces-from_agree : (n : ℕ) (w : List A) → length w ≤ n → (x : T) (y : U) → AgreeTo f g n x y →
      (Performs f x w ↔ Performs g y w)
  traces-from_agree n [] le x y h = (λ i. i, λ i. i)
  traces-from_agree zero (a ∷ w) le x y h = absurd (omega arith)
  traces-from_agree (suc n) (a ∷ w) le x y h =
      let le' : length w ≤ n = omega arith in
      traces_after n w (f x a) (g y a) (traces-from_agree n w le') (h a)

  -- the same after one label, from the traces
  agree_after : (n : ℕ) (o : Option T) (p : Option U) → ((x : T) (y : U) → HaveSameTracesTo f g n x y → AgreeTo f g n x y) →
      ((w : List A) → length w ≤ n → (IsSome (option_and_then (λ y. residual f y w) o) ↔ IsSome
      (option_and_then (λ y. residual g y w) p))) → BothOrNeither (AgreeTo f g n) o p
  agree_after n None None h b = tt
  agree_after n None (Some y) h b = absurd (cc ((b [] (omega arith)).1 refl))
  agree_after n (Some x) None h b = absurd (cc ((b [] (omega arith)).0 refl))
  agree_after n (Some x) (Some y) h b = h x y b

  -- what performs the same traces up to a depth agrees to it
  agree-from_traces : (n : ℕ) (x : T) (y : U) → HaveSameTracesTo f g n x y → AgreeTo f g n x y
  agree-from_traces zero x y h = tt
  agree-from_traces (suc n) x y h = λ a. agree_after n (f x a) (g y a) (agree-from_traces n) (λ w le. h (a ∷ w) (omega arith))

  -- agreement to a depth is performing the same traces of at most that many labels
  pub agree_is_traces : (n : ℕ) (x : T) (y : U) → AgreeTo f g n x y ↔ HaveSameTracesTo f g n x y
  agree_is_traces n x y = (λ h w le. traces-from_agree n w le x y h, agree-from_traces n x y)
