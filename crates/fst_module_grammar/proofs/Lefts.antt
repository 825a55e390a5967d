-- Chains that associate to the left, as they are read: a first operand, and then step behind step.
use Rattle.std.proofs.Common.{◌≡◌, ℕ, suc, ◌+◌, ◌<◌, List, [], ◌++◌, length, refl, sym, ap, subst, ◌∙◌, arith, append_assoc, length-append}
use Rattle.std.proofs.lemmas.List.{append-nil}
use Rattle.fst_reading.specs.Lexeme.{Lexeme, start}
use Rattle.fst_reading.specs.Faults.{Phrase}
use Rattle.fst_reading.proofs.Steps.{start_more}
use Rattle.fst_reading.proofs.Phrases.{Then, pair, Repeat, enough, again}

-- a chain whose first operand is nested so deep: what it has so far, and one step more by the place of its first token, the
-- nesting there and what it stands for so far
pub data Left {A : Type 0} (P : Phrase A) (S : ℕ → ℕ → A → Phrase A) (d : ℕ) : ℕ → List Lexeme → A → List ℕ → Type 0 where
  head : (ts : List Lexeme) (t : A) (ns : List ℕ) → P ts t ns → Left P S d 1 ts t ns
  more : (c : ℕ) (ts us all : List Lexeme) (t y : A) (ns ms all_nests : List ℕ) →
      Left P S d c ts t ns → S (start ts) (d + c) t us y ms → all ≡ ts ++ us → all_nests ≡ ns ++ ms →
      Left P S d (suc c) all y all_nests

module _ {A : Type 0} (P : Phrase A) (S : ℕ → ℕ → A → Phrase A) (d : ℕ)
    (filled : (us : List Lexeme) (x : A) (ns : List ℕ) → P us x ns → 0 < length us) where
  -- the chain as it is read
  abbrev pub Right : ℕ → Phrase A
  Right at = Then P (λ t. Repeat (S at) (suc d) t)

  pub left_filled : (c : ℕ) (ts : List Lexeme) (t : A) (ns : List ℕ) → Left P S d c ts t ns → 0 < length ts
  left_filled _ _ _ _ (head ts t ns p) = filled ts t ns p
  left_filled _ _ _ _ (more c ts us all t y ns ms ks l s parts nests) =
      omega (arith, left_filled c ts t ns l, ap length parts, length-append ts us)

  by_steps : (at e c : ℕ) (pre vs : List Lexeme) (t z : A) (ns ks : List ℕ) → Left P S d c pre t ns → start pre ≡ at → e ≡ d + c →
      Repeat (S at) e t vs z ks →
      (n : ℕ) × Left P S d n (pre ++ vs) z (ns ++ ks)
  by_steps at _ c pre _ _ _ ns _ l is same (enough e t) = (
    c,
    subst (λ w. Left P S d c w t (ns ++ [])) (sym (append-nil pre))
        (subst (λ w. Left P S d c pre t w) (sym (append-nil ns)) l),
  )
  by_steps at _ c pre _ _ _ ns _ l is same (again ts us vs e t y z all ms ks s r parts nests) =
      let step : S (start pre) (d + c) t us y ms = subst
      (λ n. S n (d + c) t us y ms) (sym is) (subst (λ n. S at n t us y ms) same s) in
      let next = more c pre us (pre ++ us) t y ns ms (ns ++ ms) l step refl refl in
      let begins = start_more pre us at (left_filled c pre t ns l) is in
      let deeper : suc e ≡ d + suc c = omega (arith, same) in
      let o = by_steps at (suc e) (suc c) (pre ++ us) vs y z (ns ++ ms) ks next begins deeper r in
      let tokens : (pre ++ us) ++ vs ≡ pre ++ ts = append_assoc pre us vs ∙ ap (λ (w : List Lexeme). pre ++ w) (sym parts) in
      let numbers : (ns ++ ms) ++ ks ≡ ns ++ all = append_assoc ns ms ks ∙ ap (λ (w : List ℕ). ns ++ w) (sym nests) in
      (o.0, subst (λ w. Left P S d o.0 w z (ns ++ all)) tokens (subst (λ w. Left P S d o.0 ((pre ++ us) ++ vs) z w) numbers o.1))

  -- what is read is a chain
  pub to_left : (at : ℕ) (ts : List Lexeme) (t : A) (ns : List ℕ) → start ts ≡ at → Right at ts t ns →
      (c : ℕ) × Left P S d c ts t ns
  to_left at _ _ _ is (pair ts us vs t z ns ms ks p r parts nests) =
      let begins = sym (start_more us vs (start us) (filled us t ms p) refl) ∙ ap start (sym parts) ∙ is in
      let o = by_steps at (suc d) 1 us vs t z ms ks (head us t ms p) begins (omega arith) r in
      (o.0, subst (λ w. Left P S d o.0 w z ns) (sym parts) (subst (λ w. Left P S d o.0 (us ++ vs) z w) (sym nests) o.1))

  by_chain : (c : ℕ) (ts vs : List Lexeme) (t z : A) (ns ks : List ℕ) → Left P S d c ts t ns →
      (at e : ℕ) → start ts ≡ at → e ≡ d + c → Repeat (S at) e t vs z ks → Right at (ts ++ vs) z (ns ++ ks)
  by_chain _ _ vs _ z _ ks (head ts t ns p) at e is same r =
      pair _ ts vs t z _ ns ks p (subst (λ n. Repeat (S at) n t vs z ks) (let one : e ≡ suc d = omega (arith, same) in one) r)
      refl refl
  by_chain _ _ vs _ z _ ks (more c ts us all t y ns ms all_nests l s parts nests) at e is same r =
      let begins = sym (start_more ts us (start ts) (left_filled c ts t ns l) refl) ∙ ap start (sym parts) ∙ is in
      let step : S at (d + c) t us y ms = subst (λ n. S n (d + c) t us y ms) begins s in
      let less : e ≡ suc (d + c) = omega (arith, same) in
      let rest : Repeat (S at) (suc (d + c)) y vs z ks = subst (λ n. Repeat (S at) n y vs z ks) less r in
      let o = by_chain c ts (us ++ vs) t z ns (ms ++ ks) l at (d + c) begins refl
      (again (us ++ vs) us vs (d + c) t y z (ms ++ ks) ms ks step rest refl refl) in
      let tokens : ts ++ (us ++ vs) ≡ all ++ vs = sym (append_assoc ts us vs) ∙ ap (λ (w : List Lexeme). w ++ vs) (sym parts) in
      let numbers : ns ++ (ms ++ ks) ≡ all_nests ++ ks = sym (append_assoc ns ms ks) ∙ ap (λ (w : List ℕ). w ++ ks) (sym nests) in
      subst (λ w. Right at w z (all_nests ++ ks)) tokens (subst (λ w. Right at (ts ++ (us ++ vs)) z w) numbers o)

  -- and each chain is read so
  pub of_left : (c : ℕ) (ts : List Lexeme) (t : A) (ns : List ℕ) → Left P S d c ts t ns → Right (start ts) ts t ns
  of_left c ts t ns l =
      let o = by_chain c ts [] t t ns [] l (start ts) (d + c) refl refl (enough (d + c) t) in
      subst (λ w. Right (start ts) w t ns) (append-nil ts) (subst (λ w. Right (start ts) (ts ++ []) t w) (append-nil ns) o)
