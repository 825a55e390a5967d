-- Values, and environments of values for just the variables that are used.
use Rattle.std.specs.Prelude.{ℕ, ℤ, zero, suc, Bool, true, false, Option, Some, None, option_map, option_and_then}
use Rattle.std.specs.declared.cmp.Ordering.{Ordering}
use Rattle.std.specs.Int.{w64, int_wrapping_add, int_wrapping_sub, int_wrapping_mul}
use Rattle.std.specs.Ordering.{int_cmp, nat_cmp, is_eq, is_ne, is_lt, is_le, is_gt, is_ge}
use Rattle.fst_terms.specs.CoreTree.{CoreTree}
use Rattle.fst_terms.specs.declared.term.Op.{Op}
use Rattle.fst_terms.specs.declared.term.Op.TheVariants.{Add, Subtract, Multiply, Equal, Unequal, Less, AtMost, Greater, AtLeast, And, Or}
use Rattle.fst_types.specs.declared.ends.EndName.{EndName}
use Rattle.fst_types.specs.declared.event.Event.{Event}
use Rattle.fst_types.specs.declared.event.Event.TheVariants as event

mutual
  -- a value; made has the number of its data type, that of its constructor in it, and its fields; a function has its body and
  -- the values of what the body has free but its argument
  pub data Value : Type 0 where
    int : ℤ → Value
    bool : Bool → Value
    char : ℕ → Value
    unit : Value
    pair : Value → Value → Value
    made : ℕ → ℕ → Values → Value
    function : CoreTree → Environment → Value
    end : EndName → Value

  -- the fields of a constructor, in order
  pub data Values : Type 0 where
    no_values : Values
    value : Value → Values → Values

  -- what variables stand for, the innermost first: nothing for those that aren't used
  pub data Environment : Type 0 where
    none : Environment
    hole : Environment → Environment
    slot : Value → Environment → Environment

-- the value of a variable
abbrev pub lookup : Environment → ℕ → Option Value
lookup none k = None
lookup (hole env) zero = None
lookup (hole env) (suc k) = lookup env k
lookup (slot v env) zero = Some v
lookup (slot v env) (suc k) = lookup env k

-- with one more variable, whose value is kept where it is used
abbrev pub enter : Bool → Value → Environment → Environment
enter true v env = slot v env
enter false v env = hole env

-- with the values of these variables alone
abbrev pub keep : (ℕ → Bool) → Environment → Environment
keep p none = none
keep p (hole env) = hole (keep (λ k. p (suc k)) env)
keep p (slot v env) = enter (p zero) v (keep (λ k. p (suc k)) env)

-- how many values there are
abbrev pub count : Values → ℕ
count no_values = zero
count (value v vs) = suc (count vs)

-- with a variable for each of these values, the last innermost, kept where it is used
abbrev pub enter_all : (ℕ → Bool) → Values → Environment → Environment
enter_all p no_values env = env
enter_all p (value v vs) env = enter_all p vs (enter (p (count vs)) v env)

-- the values of both, the first ones turned round
abbrev pub turned_onto : Values → Values → Values
turned_onto no_values ws = ws
turned_onto (value v vs) ws = turned_onto vs (value v ws)

-- the number that it is
abbrev pub int_in : Value → Option ℤ
int_in (int n) = Some n
int_in (bool b) = None
int_in (char c) = None
int_in unit = None
int_in (pair v w) = None
int_in (made n o vs) = None
int_in (function e env) = None
int_in (end x) = None

-- the truth value that it is
abbrev pub bool_in : Value → Option Bool
bool_in (bool b) = Some b
bool_in (int n) = None
bool_in (char c) = None
bool_in unit = None
bool_in (pair v w) = None
bool_in (made n o vs) = None
bool_in (function e env) = None
bool_in (end x) = None

-- the character that it is, by its number
abbrev pub char_in : Value → Option ℕ
char_in (char c) = Some c
char_in (int n) = None
char_in (bool b) = None
char_in unit = None
char_in (pair v w) = None
char_in (made n o vs) = None
char_in (function e env) = None
char_in (end x) = None

-- what passes over a channel where the value is sent: it has to be of a base type
abbrev pub sent : Value → Option Event
sent (int n) = Some (event.Int n)
sent (bool b) = Some (event.Bool b)
sent (char c) = Some (event.Char c)
sent unit = Some event.Unit
sent (pair v w) = None
sent (made n o vs) = None
sent (function e env) = None
sent (end x) = None

-- the value that is received, where it is one
abbrev pub received : Event → Option Value
received (event.Int n) = Some (int n)
received (event.Bool b) = Some (bool b)
received (event.Char c) = Some (char c)
received event.Unit = Some unit
received (event.Label l) = None
received event.Closed = None

-- the value of a wait for a closing, where it is one
abbrev pub awaited : Event → Option Value
awaited (event.Int n) = None
awaited (event.Bool b) = None
awaited (event.Char c) = None
awaited event.Unit = None
awaited (event.Label l) = None
awaited event.Closed = Some unit

-- two tests that hold or fail
abbrev pub both : Bool → Bool → Bool
both true b = b
both false b = false

-- one of two tests
abbrev pub either : Bool → Bool → Bool
either true b = true
either false b = b

-- a number that is computed from two, in 64 bits of two's complement
abbrev pub computed : (ℤ → ℤ → ℤ) → Value → Value → Option Value
computed f v w = option_and_then (λ m. option_map (λ n. int (f m n)) (int_in w)) (int_in v)

-- a truth value that is computed from two
abbrev pub decided : (Bool → Bool → Bool) → Value → Value → Option Value
decided f v w = option_and_then (λ a. option_map (λ b. bool (f a b)) (bool_in w)) (bool_in v)

-- how two numbers stand, or two characters by their numbers
abbrev pub compared : Value → Value → Option Ordering
compared (int m) w = option_map (int_cmp m) (int_in w)
compared (char c) w = option_map (nat_cmp c) (char_in w)
compared (bool b) w = None
compared unit w = None
compared (pair u v) w = None
compared (made n o vs) w = None
compared (function e env) w = None
compared (end x) w = None

-- whether they stand as the test says
abbrev pub tested : (Ordering → Bool) → Value → Value → Option Value
tested f v w = option_map (λ o. bool (f o)) (compared v w)

-- what a sign gives for two values, if they are of its kind
abbrev pub operated : Op → Value → Value → Option Value
operated Add v w = computed (int_wrapping_add w64) v w
operated Subtract v w = computed (int_wrapping_sub w64) v w
operated Multiply v w = computed (int_wrapping_mul w64) v w
operated Equal v w = tested is_eq v w
operated Unequal v w = tested is_ne v w
operated Less v w = tested is_lt v w
operated AtMost v w = tested is_le v w
operated Greater v w = tested is_gt v w
operated AtLeast v w = tested is_ge v w
operated And v w = decided both v w
operated Or v w = decided either v w
