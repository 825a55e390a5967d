-- The text of a made module, channel by channel, and how long it is.
use Rattle.std.proofs.Common.{◌≡◌, ◌∙◌, ℕ, ◌+◌, ◌-◌, ◌*◌, ◌<◌, ◌≤◌, List, [], ◌++◌, length, suc, Result, Ok, Err, ap, sym, arith, length-append, append_assoc}
use Rattle.std.specs.Prelude.{OnOk, zero, codes, decimal}
use Rattle.std.specs.List.{flat_map, range_with_len}
use Rattle.std.proofs.lemmas.Fmt.{length-decimal-le}
use Rattle.fst_base.specs.Limits.{most_bytes, most_made}
use Rattle.fst_make.specs.Made.{call_text, channel_lines, fork_text, last_lines, main_lines, made_text, receiver, receiver_equation, receiver_lines, receiver_type, sender, sender_lines}

-- ---- what is written

-- a text with four others behind it, one after another
pub four_written : {T E : Type 0} (r : Result T E) (old s t u new a b c d : List ℕ) → s ≡ old ++ a → t ≡ s ++ b → u ≡ t ++ c →
    OnOk r (new ≡ u ++ d) → OnOk r (new ≡ old ++ (((a ++ b) ++ c) ++ d))
four_written (Ok x) old s t u new a b c d p q f h =
    let two : t ≡ old ++ (a ++ b) = q ∙ ap (λ m. m ++ b) p ∙ append_assoc old a b in
    let three : u ≡ old ++ ((a ++ b) ++ c) = f ∙ ap (λ m. m ++ c) two ∙ append_assoc old (a ++ b) c in
    h ∙ ap (λ m. m ++ d) three ∙ append_assoc old ((a ++ b) ++ c) d
four_written (Err e) old s t u new a b c d p q f h = h

-- the lines of the channels from i on, of n
abbrev lines_from : ℕ → ℕ → List ℕ
lines_from n i = flat_map channel_lines (range_with_len i (n + 1 - i))

-- the lines in front of those behind all channels
abbrev lines_to : ℕ → List ℕ
lines_to n = main_lines ++ flat_map channel_lines (range_with_len 1 n)

next_channel : (n i : ℕ) → i < n + 1 → lines_from n i ≡ channel_lines i ++ lines_from n (i + 1)
next_channel n i lt = let e : n + 1 - i ≡ suc (n + 1 - (i + 1)) = omega arith in ap
    (λ (m : ℕ). flat_map channel_lines (range_with_len i m)) e

no_channel : (n i : ℕ) → n + 1 ≤ i → lines_from n i ≡ []
no_channel n i le = let e : n + 1 - i ≡ 0 = omega arith in ap (λ (m : ℕ). flat_map channel_lines (range_with_len i m)) e

-- a channel more is written
pub one_more : (n i : ℕ) (old new : List ℕ) → i < n + 1 → new ≡ old ++ channel_lines i → old ++ lines_from n i ≡ lines_to n →
    new ++ lines_from n (i + 1) ≡ lines_to n
one_more n i old new lt is so_far =
    ap (λ m. m ++ lines_from n (i + 1)) is ∙ append_assoc old (channel_lines i) (lines_from n (i + 1)) ∙ ap
    (λ m. old ++ m) (sym (next_channel n i lt)) ∙ so_far

-- ---- how long it is

-- two texts one behind the other
joined : (xs ys : List ℕ) (a b : ℕ) → length xs ≤ a → length ys ≤ b → length (xs ++ ys) ≤ a + b
joined xs ys a b p q = omega (arith, length-append xs ys, p, q)

-- a number of a channel, or that behind the last
digits : (i : ℕ) → i ≤ most_made + 1 → length (decimal i) ≤ 4
digits i le = length-decimal-le 4 i (omega arith) (omega arith) (omega arith)

receiver_short : (i : ℕ) → i ≤ most_made + 1 → length (receiver i) ≤ 5
receiver_short i le = joined (codes "r") (decimal i) 1 4 (omega arith) (digits i le)

sender_short : (i : ℕ) → i ≤ most_made + 1 → length (sender i) ≤ 5
sender_short i le = joined (codes "p") (decimal i) 1 4 (omega arith) (digits i le)

type_short : (i : ℕ) → i ≤ most_made + 1 → length (receiver_type i) ≤ 20
type_short i le = joined (receiver i) (codes " : Int -> Int\n") 5 15 (receiver_short i le) (omega arith)

fork_short : (i : ℕ) → i ≤ most_made + 1 → length (fork_text i) ≤ 20
fork_short i le = joined (codes "fork (" ++ sender i) (codes " a); ") 15 5
    (joined (codes "fork (") (sender i) 10 5 (omega arith) (sender_short i le)) (omega arith)

call_short : (i : ℕ) → i ≤ most_made + 1 → length (call_text i) ≤ 45
call_short i le =
    joined (codes "let (x, d) = receive b in " ++ receiver i) (codes " (s + x)\n") 35 10
    (joined (codes "let (x, d) = receive b in ") (receiver i) 30 5 (omega arith) (receiver_short i le)) (omega arith)

equation_short : (i : ℕ) → i ≤ most_made → length (receiver_equation i) ≤ 110
equation_short i le =
    let makes = joined (receiver i) (codes " s = let (a, b) = new !Int in ") 5 40 (receiver_short i (omega arith))
    (omega arith) in
    let forks = joined (receiver i ++ codes " s = let (a, b) = new !Int in ") (fork_text i) 45 20 makes
    (fork_short i (omega arith)) in
    joined (receiver i ++ codes " s = let (a, b) = new !Int in " ++ fork_text i) (call_text (i + 1)) 65 45 forks
    (call_short (i + 1) (omega arith))

sender_lines_short : (i : ℕ) → i ≤ most_made → length (sender_lines i) ≤ 60
sender_lines_short i le =
    let types = joined (sender i) (codes " : !Int -> Skip\n") 5 20 (sender_short i (omega arith)) (omega arith) in
    let name = joined (sender i ++ codes " : !Int -> Skip\n") (sender i) 25 5 types (sender_short i (omega arith)) in
    let sends = joined (sender i ++ codes " : !Int -> Skip\n" ++ sender i) (codes " c = send ") 30 10 name (omega arith) in
    let number = joined (sender i ++ codes " : !Int -> Skip\n" ++ sender i ++ codes " c = send ") (decimal i) 40 4 sends
    (digits i (omega arith)) in
    joined (sender i ++ codes " : !Int -> Skip\n" ++ sender i ++ codes " c = send " ++ decimal i) (codes " c\n") 44 16 number
    (omega arith)

channel_short : (i : ℕ) → i ≤ most_made → length (channel_lines i) ≤ 190
channel_short i le =
    joined (sender_lines i) (receiver_lines i) 60 130 (sender_lines_short i le)
    (joined (receiver_type i) (receiver_equation i) 20 110 (type_short i (omega arith)) (equation_short i le))

channels_short : (i n : ℕ) → i + n ≤ most_made + 1 → length (flat_map channel_lines (range_with_len i n)) ≤ n * 190
channels_short i zero le = omega arith
channels_short i (suc n) le =
    omega (
      arith,
      joined (channel_lines i) (flat_map channel_lines (range_with_len (i + 1) n)) 190 (n * 190)
          (channel_short i (omega arith)) (channels_short (i + 1) n (omega arith)),
    )

last_short : (k : ℕ) → k ≤ most_made + 1 → length (last_lines k) ≤ 40
last_short k le =
    joined (receiver_type k ++ receiver k) (codes " s = s\n") 25 15
    (joined (receiver_type k) (receiver k) 20 5 (type_short k le) (receiver_short k le)) (omega arith)

-- all of it
pub made_short : (n : ℕ) → n ≤ most_made → length (made_text n) ≤ most_bytes
made_short n le =
    let channels = flat_map channel_lines (range_with_len 1 n) in
    let front = joined main_lines channels 40 (n * 190) (omega arith) (channels_short 1 n (omega arith)) in
    omega (arith, le, joined (lines_to n) (last_lines (n + 1)) (40 + n * 190) 40 front (last_short (n + 1) (omega arith)))
