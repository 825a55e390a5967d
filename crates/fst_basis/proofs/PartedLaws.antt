-- What is done to a word in two parts is done to the word.
use Rattle.std.proofs.Common.{◌≡◌, ◌<◌, ◌+◌, ◌&&◌, ◌++◌, ◌∷◌, ◌∙◌, [], ℕ, suc, List, Option, Some, None, Bool, true, false, ap, arith, cond, drop, get_or, length, nat_eq, nat_lt, refl, reverse, sym, take}
use Rattle.std.specs.List.{starts_with}
use Rattle.std.specs.Option.{option_eq, option_to_list}
use Rattle.std.specs.Str.{bytes_eq}
use Rattle.std.proofs.Math.Seq.{drop-append_seam, get_or-append_seam, take-append_seam}
use Rattle.std.proofs.lemmas.Bool.{eq-eqb, lt-ltb}
use Rattle.std.proofs.lemmas.Bool.Decides.{Decides-eqb}
use Rattle.std.proofs.lemmas.List.{append_assoc, append_cancel_left, length-append, length-reverse, reverse-append}
use Rattle.std.proofs.lemmas.Slice.Eq.{bytes_eq-Decides, starts_is}
use Rattle.fst_words.specs.Marks.{is_marked}
use Rattle.fst_basis.specs.declared.proof.Rewrite.TheVariants.{Cut}
use Rattle.fst_basis.specs.Rewrites.{is_marked_at, rewritten}
use Rattle.fst_basis.proofs.RewriteParts.{parted_at}

-- a text begins with a word where its test says so
begins : (w x : List ℕ) → starts_with nat_eq w x ≡ true → w ≡ x ++ drop (length x) w
begins w x t = (starts_is Decides-eqb w x (starts_with nat_eq w x) refl).0 t

-- a text that begins with a word is told so
pub begins_so : (w x rest : List ℕ) → w ≡ x ++ rest → starts_with nat_eq w x ≡ true
begins_so w x rest e = (starts_is Decides-eqb w x (starts_with nat_eq w x) refl).1 rest e

-- what is taken off a stack isn't the word's next non-terminal: so the word doesn't stand there
pub other_item : (old now new word : List ℕ) (i : ℕ) (o : Option ℕ) → reverse old ≡ take i word ++ reverse now →
    now ≡ new ++ option_to_list o → (o ≡ None → length now ≡ 0) → i < length word →
    option_eq nat_eq o (Some (get_or word i 0)) ≡ false → starts_with nat_eq (reverse old) word ≡ false
other_item old now new word i o read taken none lt other = by (starts_with nat_eq (reverse old) word) refl
  where
    n : ℕ
    n = get_or word i 0

    contrary : (o : Option ℕ) → now ≡ new ++ option_to_list o → (o ≡ None → length now ≡ 0) →
        option_eq nat_eq o (Some n) ≡ false → (rest : List ℕ) → reverse now ≡ n ∷ rest → ⊥
    contrary None taken none other rest e =
        let long = ap length e in
        let same = length-reverse now in
        let empty = none refl in
        omega arith
    contrary (Some m) taken none other rest e =
        let turned : reverse now ≡ m ∷ reverse new = ap reverse taken ∙ reverse-append new (m ∷ []) in
        let same : m ≡ n = (let h : m ∷ reverse new ≡ n ∷ rest = sym turned ∙ e in cc) in
        let yes : option_eq nat_eq (Some m) (Some n) ≡ true = eq-eqb m n same in
        cc

    by : (b : Bool) → starts_with nat_eq (reverse old) word ≡ b → starts_with nat_eq (reverse old) word ≡ false
    by false t = t
    by true t =
        let behind = drop (length word) (reverse old) in
        let whole = begins (reverse old) word t in
        let parts = (parted_at word i lt).0 in
        let rest = drop (suc i) word ++ behind in
        let first : reverse old ≡ take i word ++ (n ∷ rest) = whole ∙ ap (λ z. z ++ behind) parts
        ∙ append_assoc (take i word) (n ∷ drop (suc i) word) behind in
        absurd (contrary o taken none other rest (append_cancel_left (take i word) (reverse now) (n ∷ rest) (sym read ∙ first)))

-- a marked non-terminal stands at the place behind a front
marked_here : (marks : List Bool) (front : List ℕ) (n : ℕ) (behind : List ℕ) → is_marked marks n ≡ true →
    is_marked_at marks (front ++ n ∷ behind) (length front) ≡ true
marked_here marks front n behind m =
    let long = length-append front (n ∷ behind) in
    let within : nat_lt (length front) (length (front ++ n ∷ behind)) ≡ true =
    lt-ltb (length front) (length (front ++ n ∷ behind))
    (omega arith) in
    rw (within, get_or-append_seam front n behind 0, m) refl

behind_here : (front : List ℕ) (n : ℕ) (behind : List ℕ) → drop (length front + 1) (front ++ n ∷ behind) ≡ behind
behind_here front n behind =
    let long = length-append front (n ∷ []) in
    ap (λ z. drop z (front ++ n ∷ behind)) (sym long)
    ∙ ap (drop (length (front ++ n ∷ []))) (sym (append_assoc front (n ∷ []) behind))
    ∙ drop-append_seam (front ++ n ∷ []) behind

up_to_here : (front : List ℕ) (n : ℕ) (behind : List ℕ) → take (length front + 1) (front ++ n ∷ behind) ≡ front ++ n ∷ []
up_to_here front n behind =
    let long = length-append front (n ∷ []) in
    ap (λ z. take z (front ++ n ∷ behind)) (sym long)
    ∙ ap (take (length (front ++ n ∷ []))) (sym (append_assoc front (n ∷ []) behind))
    ∙ take-append_seam (front ++ n ∷ []) behind

-- what stands behind a marked non-terminal is cut off
pub cut_here : (marks : List Bool) (front : List ℕ) (n : ℕ) (tail : List ℕ) → is_marked marks n ≡ true →
    rewritten marks [] (Cut (length front) tail) (front ++ n ∷ tail) ≡ Some (front ++ n ∷ [])
cut_here marks front n tail m =
    let yes : bytes_eq tail tail ≡ true = (bytes_eq-Decides tail tail).1 refl in
    rw (marked_here marks front n tail m, behind_here front n tail, yes, up_to_here front n tail) refl

-- and nothing is where another word stands there
pub cut_nothing : (marks : List Bool) (front : List ℕ) (n : ℕ) (behind tail : List ℕ) → (behind ≡ tail → ⊥) →
    rewritten marks [] (Cut (length front) tail) (front ++ n ∷ behind) ≡ None
cut_nothing marks front n behind tail other = by (bytes_eq behind tail) refl
  where
    by : (b : Bool) → bytes_eq behind tail ≡ b → rewritten marks [] (Cut (length front) tail) (front ++ n ∷ behind) ≡ None
    by true t = absurd (other ((bytes_eq-Decides behind tail).0 t))
    by false t = rw (behind_here front n behind, t) (off (is_marked_at marks (front ++ n ∷ behind) (length front)))
      where
        off : (b : Bool) → cond (b && false) (Some (take (length front + 1) (front ++ n ∷ behind))) None ≡ None
        off true = refl
        off false = refl
