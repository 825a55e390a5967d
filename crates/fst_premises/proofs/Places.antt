-- Where terms begin.
use Rattle.std.proofs.Common.{◌≡◌, ℕ, refl}
use Rattle.fst_terms.specs.ModelCoreView.{core_of}
use Rattle.fst_terms.specs.declared.core_term.Form.{Form}
use Rattle.fst_terms.specs.declared.core_term.Form.TheVariants.{Local, GlobalUse, Int, Bool, Char, Unit as Nothing, Pair, Make, Lambda, Apply, Let, Split, If, Case, Operate, Not, New, Send, Receive, Close, Wait, Select, Match, Fork, Then}
use Rattle.fst_premises.specs.Shown.{place}

-- a term begins at the byte that it says
pub place_of_core : (at : ℕ) (f : Form) → place (core_of at f) ≡ at
place_of_core at (Local k) = refl
place_of_core at (GlobalUse k ts) = refl
place_of_core at (Int n) = refl
place_of_core at (Bool b) = refl
place_of_core at (Char c) = refl
place_of_core at Nothing = refl
place_of_core at (Pair s t) = refl
place_of_core at (Make f k ts) = refl
place_of_core at (Lambda u a x t) = refl
place_of_core at (Apply s t) = refl
place_of_core at (Let x s t) = refl
place_of_core at (Split x y s t) = refl
place_of_core at (If s t u) = refl
place_of_core at (Case t bs) = refl
place_of_core at (Operate o s t) = refl
place_of_core at (Not t) = refl
place_of_core at (New a) = refl
place_of_core at (Send s t) = refl
place_of_core at (Receive t) = refl
place_of_core at (Close t) = refl
place_of_core at (Wait t) = refl
place_of_core at (Select l t) = refl
place_of_core at (Match t bs) = refl
place_of_core at (Fork t) = refl
place_of_core at (Then s t) = refl
