-- The module of n channels, as text.
use Rattle.std.specs.Prelude.{ℕ, ◌+◌, List, ◌++◌, codes, decimal}
use Rattle.std.specs.List.{flat_map, range_with_len}

-- the name of the function that sends i
abbrev pub sender : ℕ → List ℕ
sender i = codes "p" ++ decimal i

-- the name of the function that receives i
abbrev pub receiver : ℕ → List ℕ
receiver i = codes "r" ++ decimal i

-- the function that sends i over an end that it is given
abbrev pub sender_lines : ℕ → List ℕ
sender_lines i = sender i ++ codes " : !Int -> Skip\n" ++ sender i ++ codes " c = send " ++ decimal
    i ++ codes " c\n"

-- the type of a function that receives, or of the one behind them
abbrev pub receiver_type : ℕ → List ℕ
receiver_type i = receiver i ++ codes " : Int -> Int\n"

-- another task sends i
abbrev pub fork_text : ℕ → List ℕ
fork_text i = codes "fork (" ++ sender i ++ codes " a); "

-- what it sends is received, and added to the sum so far, with which the function of j is called
abbrev pub call_text : ℕ → List ℕ
call_text j = codes "let (x, d) = receive b in " ++ receiver j ++ codes " (s + x)\n"

-- what a function that receives does: it makes a channel, over which i is sent and received, and goes on with the next one
abbrev pub receiver_equation : ℕ → List ℕ
receiver_equation i = receiver i ++ codes " s = let (a, b) = new !Int in " ++ fork_text i
    ++ call_text (i + 1)

-- the function that receives i
abbrev pub receiver_lines : ℕ → List ℕ
receiver_lines i = receiver_type i ++ receiver_equation i

-- both functions of channel i
abbrev pub channel_lines : ℕ → List ℕ
channel_lines i = sender_lines i ++ receiver_lines i

-- the function behind all channels, which gives the sum
abbrev pub last_lines : ℕ → List ℕ
last_lines k = receiver_type k ++ receiver k ++ codes " s = s\n"

-- the value of the module: what the first function gives for no sum so far
abbrev pub main_lines : List ℕ
main_lines = codes "main : Int\nmain = r1 0\n"

-- the module of n channels: `main`, the functions of the channels 1 to n, and that behind them
abbrev pub made_text : ℕ → List ℕ
made_text n = main_lines ++ flat_map channel_lines (range_with_len 1 n) ++ last_lines (n + 1)
