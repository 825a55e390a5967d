-- Codes of trees.
use Rattle.std.specs.Prelude.{Bool, true, false, ◌&&◌, nat_eq}
use base.Stored.{Gv, gnil, gnum, gcons}

-- whether two codes are one
abbrev pub same_code : Gv → Gv → Bool
same_code gnil gnil = true
same_code (gnum m) (gnum n) = nat_eq m n
same_code (gcons a b) (gcons c d) = same_code a c && same_code b d
same_code a b = false
