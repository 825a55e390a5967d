-- What other crates may know of tokens and of classes of characters.
use Rattle.std.proofs.Common.{◌≡◌, ℕ, ◌<◌, ◌^◌, Bool, true, List}
use Rattle.std.specs.Fmt.{decimal}
use Rattle.std.specs.List.{list_all}
use Rattle.fst_lexer.specs.Classes.{is_among, is_digit}
use Rattle.fst_lexer.proofs.ByteLaws.{figures}
use Rattle.fst_lexer.proofs.ClassLaws.{each}
-- a text has at most one token more than bytes
pub use Rattle.fst_lexer.proofs.FewLaws.{few_tokens}

-- a number of 64 bits is written in digits
pub digits_alone : (n : ℕ) → n < 2 ^ 64 → list_all is_digit (decimal n) ≡ true
digits_alone n small = let f = figures n small in rw f.are f.digits

-- what holds of each of some characters holds of one that is among them
pub each_among : (test : ℕ → Bool) (cs : List ℕ) (c : ℕ) → list_all test cs ≡ true → is_among cs c ≡ true → test c ≡ true
each_among = each
