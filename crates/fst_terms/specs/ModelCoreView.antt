-- The tree of a term with numbers in place of names.
use Rattle.std.specs.Prelude.{ℕ, List, [], ◌∷◌}
use Rattle.fst_terms.specs.CoreTree.{CoreTree, local, global, int, bool, char, unit, pair, make, lambda, apply, let_in, split, if_else, case_of, operate, negate, new, send, receive, close, wait, select, match_with, fork, seq, CoreList, no_terms, term, CoreArms, no_arms, arm}
use Rattle.fst_terms.specs.declared.core_term.Form.{Form}
use Rattle.fst_terms.specs.declared.core_term.Form.TheVariants.{Local, GlobalUse, Int, Bool, Char, Unit as Nothing, Pair, Make, Lambda, Apply, Let, Split, If, Case, Operate, Not, New, Send, Receive, Close, Wait, Select, Match, Fork, Then}
use Rattle.fst_terms.specs.declared.core_term.Arm.{Arm}

-- the arguments of a constructor, in the order of their list
abbrev pub cores_of : List CoreTree → CoreList
cores_of [] = no_terms
cores_of (t ∷ ts) = term t (cores_of ts)

-- the arms of a case or a match, in the order of their list
abbrev pub core_arms_of : List Arm → CoreArms
core_arms_of [] = no_arms
core_arms_of (b ∷ bs) = arm b.label b.binders.items b.body (core_arms_of bs)

-- the tree below the node at the top of a term whose first token begins at this byte
abbrev pub core_of : ℕ → Form → CoreTree
core_of at (Local k) = local at k
core_of at (GlobalUse k ts) = global at k ts.items
core_of at (Int n) = int at n
core_of at (Bool b) = bool at b
core_of at (Char c) = char at c
core_of at Nothing = unit at
core_of at (Pair s t) = pair at s.value t.value
core_of at (Make f k ts) = make at f k (cores_of ts.items)
core_of at (Lambda u a x t) = lambda at u a x t.value
core_of at (Apply s t) = apply at s.value t.value
core_of at (Let x s t) = let_in at x s.value t.value
core_of at (Split x y s t) = split at x y s.value t.value
core_of at (If s t u) = if_else at s.value t.value u.value
core_of at (Case t bs) = case_of at t.value (core_arms_of bs.items)
core_of at (Operate o s t) = operate at o s.value t.value
core_of at (Not t) = negate at t.value
core_of at (New a) = new at a
core_of at (Send s t) = send at s.value t.value
core_of at (Receive t) = receive at t.value
core_of at (Close t) = close at t.value
core_of at (Wait t) = wait at t.value
core_of at (Select l t) = select at l t.value
core_of at (Match t bs) = match_with at t.value (core_arms_of bs.items)
core_of at (Fork t) = fork at t.value
core_of at (Then s t) = seq at s.value t.value
