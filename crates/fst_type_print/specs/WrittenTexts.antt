-- How types are written with the names that they had, as those in modules.
use Rattle.std.specs.Prelude.{ℕ, List, [], ◌∷◌, ◌++◌, Bool, true, false, codes}
use Rattle.fst_types.specs.WrittenTree as written
use Rattle.fst_types.specs.WrittenTree.{WrittenTree, WrittenBranches, none, branch}
use Rattle.fst_type_print.specs.Texts.{base_text, send_text, receive_text, arrow_text, in_parens, in_parens_if, in_braces, joined_text}

-- the type is a sequence, a rec or a function: no atomic one
abbrev pub is_compound : WrittenTree → Bool
is_compound (written.skip at) = false
is_compound (written.send at b) = false
is_compound (written.receive at b) = false
is_compound (written.close at) = false
is_compound (written.wait at) = false
is_compound (written.select at bs) = false
is_compound (written.offer at bs) = false
is_compound (written.seq at s t) = true
is_compound (written.rec at x t) = true
is_compound (written.named at x) = false
is_compound (written.plain at b) = false
is_compound (written.arrow at u s t) = true
is_compound (written.pair at s t) = false

-- the type is a function
abbrev pub is_arrow : WrittenTree → Bool
is_arrow (written.skip at) = false
is_arrow (written.send at b) = false
is_arrow (written.receive at b) = false
is_arrow (written.close at) = false
is_arrow (written.wait at) = false
is_arrow (written.select at bs) = false
is_arrow (written.offer at bs) = false
is_arrow (written.seq at s t) = false
is_arrow (written.rec at x t) = false
is_arrow (written.named at x) = false
is_arrow (written.plain at b) = false
is_arrow (written.arrow at u s t) = true
is_arrow (written.pair at s t) = false

abbrev mutual
  -- a type
  pub written_text : WrittenTree → List ℕ
  written_text (written.skip at) = codes "Skip"
  written_text (written.send at b) = send_text b
  written_text (written.receive at b) = receive_text b
  written_text (written.close at) = codes "Close"
  written_text (written.wait at) = codes "Wait"
  written_text (written.select at bs) =
      codes "+" ++ in_braces (joined_text (codes ", ") (written_branch_texts bs))
  written_text (written.offer at bs) =
      codes "&" ++ in_braces (joined_text (codes ", ") (written_branch_texts bs))
  written_text (written.seq at s t) =
      in_parens_if (is_compound s) (written_text s) ++ codes ";" ++ in_parens_if (is_arrow t)
      (written_text t)
  written_text (written.rec at x t) =
      codes "rec " ++ x ++ codes ". " ++ in_parens_if (is_arrow t) (written_text t)
  written_text (written.named at x) = x
  written_text (written.plain at b) = base_text b
  written_text (written.arrow at u s t) =
      in_parens_if (is_arrow s) (written_text s) ++ arrow_text u ++ written_text t
  written_text (written.pair at s t) = in_parens (written_text s ++ codes ", " ++ written_text t)

  -- the branches of a choice, each a label and its type
  pub written_branch_texts : WrittenBranches → List (List ℕ)
  written_branch_texts none = []
  written_branch_texts (branch l t bs) =
      (l ++ codes ": " ++ in_parens_if (is_arrow t) (written_text t)) ∷ written_branch_texts bs

-- a type where no function stands without parentheses
abbrev pub seq_text : WrittenTree → List ℕ
seq_text t = in_parens_if (is_arrow t) (written_text t)

-- a type where an atomic one stands without parentheses
abbrev pub atom_text : WrittenTree → List ℕ
atom_text t = in_parens_if (is_compound t) (written_text t)
