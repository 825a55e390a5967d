-- The names of variables are lower names, and each stands for its own variable.
use Rattle.std.proofs.Common.{◌≡◌, ℕ, zero, suc, ◌+◌, ◌<◌, ◌≤◌, ◌^◌, Bool, true, false, ◌||◌, ◌==◌, List, [], ◌∷◌, length, Some, None, refl, sym, ap, ◌∙◌, arith}
use Rattle.std.specs.Prelude.{◌≢◌, All}
use Rattle.std.specs.List.{AllPairs, list_all}
use Rattle.std.specs.Str.{chars, byte, bytes_eq, IsAscii}
use Rattle.std.specs.Fmt.{decimal}
use Rattle.std.specs.Char.{is_ascii_alphanumeric}
use Rattle.std.proofs.Math.Bool.{or-true}
use Rattle.std.proofs.lemmas.Bool.Decides.{nat_tests}
use Rattle.std.proofs.lemmas.Fmt.{IsAscii-decimal, decimal_injective, length-decimal-le}
use Rattle.std.proofs.lemmas.Slice.Eq.{bytes_eq-Decides}
use Rattle.std.proofs.lemmas.Str.{chars-IsAscii, IsUtf8-from_ascii}
use Rattle.std.proofs.lemmas.Str.Ascii.{IsAscii-cons}
use Rattle.unicode_ident.proofs.IdentLemmas.{is_xid_start-ascii, is_xid_continue-ascii}
use Rattle.unicode_ident.specs.Ident.{is_xid_continue}
use Rattle.fst_lexer.specs.declared.token.TokenKind.TheVariants as kind
use Rattle.fst_lexer.specs.Classes.{is_digit, is_quote, is_reserved, starts_name, continues_name}
use Rattle.fst_lexer.specs.Spelling.{IsWordOf, is_capital}
use Rattle.fst_lexer.proofs.Laws.{digits_alone}
use Rattle.fst_terms.specs.Naming.{place_of}
use Rattle.fst_type_print.specs.Texts.{binder_text, variable_text, name_at}
use Rattle.fst_roundtrip.specs.ReadBack.{variable_names}
use Rattle.std.proofs.lemmas.Bool.{and_parts}

-- the names of n recs around a type, innermost first
abbrev pub binder_names : ℕ → List (List ℕ)
binder_names zero = []
binder_names (suc n) = binder_text n ∷ binder_names n

digit_low : (c : ℕ) → is_digit c ≡ true → c < 128
digit_low c e = grind (arith, nat_tests)

digit_alphanumeric : (c : ℕ) → is_digit c ≡ true → is_ascii_alphanumeric c ≡ true
digit_alphanumeric c e = grind (arith, nat_tests)

digit_goes_on : (c : ℕ) → is_digit c ≡ true → continues_name c ≡ true
digit_goes_on c e =
    let on : is_xid_continue c ≡ true = is_xid_continue-ascii c (digit_low c e) ∙ ap
    (λ b. b || (c == byte "_")) (digit_alphanumeric c e) in
    rw on (or-true (is_quote c))

digits_go_on : (cs : List ℕ) → list_all is_digit cs ≡ true → list_all continues_name cs ≡ true
digits_go_on [] e = refl
digits_go_on (c ∷ cs) e =
    let h = and_parts (is_digit c) (list_all is_digit cs) e in
    rw (digit_goes_on c h.0) (digits_go_on cs h.1)

decimal_goes_on : (n : ℕ) → n < 2 ^ 64 → list_all continues_name (decimal n) ≡ true
decimal_goes_on n small = digits_go_on (decimal n) (digits_alone n small)

-- a small letter and a number are a lower name
numbered : (c n : ℕ) → c < 128 → starts_name c ≡ true → is_capital (c ∷ decimal n) ≡ false → is_reserved (c ∷ decimal n) ≡ false →
    n < 2 ^ 64 → IsWordOf kind.Lower (c ∷ decimal n)
numbered c n low starts small free fits =
    let ascii : IsAscii (c ∷ decimal n) = IsAscii-cons c (decimal n) low (IsAscii-decimal n fits) in
    let same : chars (c ∷ decimal n) ≡ c ∷ decimal n = chars-IsAscii (c ∷ decimal n) ascii in
    let few : length (decimal n) ≤ 20 = length-decimal-le 20 n (omega arith) (omega arith) fits in (
      record {
        utf8 = IsUtf8-from_ascii (c ∷ decimal n) ascii;
        name = rw (same, starts) (decimal_goes_on n fits);
        free = rw same free;
        short = omega arith;
      },
      rw same small,
    )

pub binder_lower : (k : ℕ) → k + 1 < 2 ^ 64 → IsWordOf kind.Lower (binder_text k)
binder_lower k fits = numbered (byte "x") (k + 1) (omega arith) (is_xid_start-ascii (byte "x") (omega arith)) refl refl fits

pub variable_lower : (k : ℕ) → k + 1 < 2 ^ 64 → IsWordOf kind.Lower (variable_text k)
variable_lower k fits = numbered (byte "a") (k + 1) (omega arith) (is_xid_start-ascii (byte "a") (omega arith)) refl refl fits

-- texts that differ
pub differ : (x y : List ℕ) → x ≢ y → bytes_eq x y ≡ false
differ x y distinct = by_test (bytes_eq x y) refl
  where
    by_test : (b : Bool) → bytes_eq x y ≡ b → bytes_eq x y ≡ false
    by_test true is = absurd (distinct ((bytes_eq-Decides x y).0 is))
    by_test false is = is

same : (x : List ℕ) → bytes_eq x x ≡ true
same x = (bytes_eq-Decides x x).1 refl

-- a name of one number is no name of another
pub apart : (c j k : ℕ) → j + 1 < 2 ^ 64 → k + 1 < 2 ^ 64 → j ≢ k → c ∷ decimal (j + 1) ≢ c ∷ decimal (k + 1)
apart c j k small fits distinct e =
    let tails : decimal (j + 1) ≡ decimal (k + 1) = cc in
    distinct (let numbers = decimal_injective (j + 1) (k + 1) small fits tails in omega arith)

-- a lower name is no upper name
pub upper_not_lower : (x y : List ℕ) → IsWordOf kind.Upper x → IsWordOf kind.Lower y → x ≢ y
upper_not_lower x y upper lower e =
    let one : is_capital (chars x) ≡ true = upper.1 in
    let other : is_capital (chars y) ≡ false = lower.1 in
    let between : is_capital (chars x) ≡ is_capital (chars y) = ap (λ t. is_capital (chars t)) e in
    cc

-- the k-th rec around
pub binder_place : (n k i : ℕ) → i + suc k ≡ n → n < 2 ^ 64 → place_of (binder_names n) (binder_text i) ≡ Some k
binder_place zero k i at fits = absurd (omega arith)
binder_place (suc n) zero i at fits =
    let is : i ≡ n = omega arith in
    rw (is, same (binder_text n)) refl
binder_place (suc n) (suc k) i at fits =
    let inner = binder_place n k i (omega arith) (omega arith) in
    rw (differ (binder_text i) (binder_text n) (apart (byte "x") i n (omega arith) (omega arith) (λ e. omega arith)), inner) refl

-- a variable of a signature is no rec's
pub no_binder : (n k : ℕ) → place_of (binder_names n) (variable_text k) ≡ None
no_binder zero k = refl
no_binder (suc n) k = rw (no_binder n k) refl

pub variable_place : (m j k i : ℕ) → i ≡ j + k → k < m → j + m < 2 ^ 64 → place_of (variable_names j m) (variable_text i) ≡ Some k
variable_place zero j k i at below fits = absurd (omega arith)
variable_place (suc m) j zero i at below fits =
    let is : i ≡ j = omega arith in
    rw (is, same (variable_text j)) refl
variable_place (suc m) j (suc k) i at below fits =
    let inner = variable_place m (suc j) k i (omega arith) (omega arith) (omega arith) in
    rw (differ (variable_text i) (variable_text j) (apart (byte "a") i j (omega arith) (omega arith) (λ e. omega arith)), inner)
    refl

-- an upper name is no variable's
pub upper_no_binder : (n : ℕ) (x : List ℕ) → IsWordOf kind.Upper x → n < 2 ^ 64 → place_of (binder_names n) x ≡ None
upper_no_binder zero x upper fits = refl
upper_no_binder (suc n) x upper fits =
    let inner = upper_no_binder n x upper (omega arith) in
    rw (differ x (binder_text n) (upper_not_lower x (binder_text n) upper (binder_lower n (omega arith))), inner) refl

pub upper_no_variable : (m j : ℕ) (x : List ℕ) → IsWordOf kind.Upper x → j + m < 2 ^ 64 → place_of (variable_names j m) x ≡ None
upper_no_variable zero j x upper fits = refl
upper_no_variable (suc m) j x upper fits =
    let inner = upper_no_variable m (suc j) x upper (omega arith) in
    rw (differ x (variable_text j) (upper_not_lower x (variable_text j) upper (variable_lower j (omega arith))), inner) refl

-- the k-th name of a list
pub name_in : (P : List ℕ → Type 0) (names : List (List ℕ)) (k : ℕ) → k < length names → All P names → P (name_at names k)
name_in P [] k below all = absurd (omega arith)
name_in P (x ∷ names) zero below all = all 0 [] below
name_in P (x ∷ names) (suc k) below all = name_in P names k (omega arith) (λ i d h. all (suc i) d (omega arith))

pub name_place : (names : List (List ℕ)) (k : ℕ) → k < length names → AllPairs (λ a b. a ≢ b) names →
    place_of names (name_at names k) ≡ Some k
name_place [] k below distinct = absurd (omega arith)
name_place (x ∷ names) zero below distinct = rw (same x) refl
name_place (x ∷ names) (suc k) below distinct =
    let inner = name_place names k (omega arith) (λ i j d a b. distinct (suc i) (suc j) d (omega arith) (omega arith)) in
    let later = name_in (λ y. y ≢ x) names k (omega arith)
    (λ i d h e. distinct 0 (suc i) d (omega arith) (omega arith) (sym e)) in
    rw (differ (name_at names k) x later, inner) refl
