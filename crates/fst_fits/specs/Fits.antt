-- Whether the types of a term's parts fit the type of its row, as tests.
use Rattle.std.specs.Prelude.{ℕ, Bool, ◌&&◌, List}
use Rattle.fst_types.specs.Tree.{Tree, plain}
use Rattle.fst_types.specs.declared.base.Base.TheVariants.{Bool as Truth, Unit as Nothing}
use Rattle.fst_types.specs.declared.kind.Kind.{Kind}
use Rattle.fst_types.specs.declared.label.Label.TheVariants.{Select, Close, Wait}
use Rattle.fst_lts.specs.Step.{step}
use Rattle.fst_terms.specs.declared.term.Op.{Op}
use Rattle.fst_fits.specs.Tests.{same_tree, has_some, use_in, is_many, is_type, is_pair, pair_parts, arrow_parts, base_of, applies, operates, sends, receives_pair}

-- whether the condition is a truth value, and both branches have the type
abbrev pub if_fits : Tree → Tree → Tree → Tree → Bool
if_fits t a b c = same_tree a (plain Truth) && (same_tree t b && same_tree c b)

-- whether the types of parts fit a row of this type: of a pair
abbrev pub pair_fits : Tree → Tree → Tree → Bool
pair_fits t a b = is_pair (pair_parts t) a b

-- of an application
abbrev pub apply_fits : Tree → Tree → Tree → Bool
apply_fits t a b = applies (arrow_parts a) b t

-- of a sign and its operands
abbrev pub operate_fits : Op → Tree → Tree → Tree → Bool
operate_fits o t a b = same_tree b a && operates o a t

-- of a value that is sent
abbrev pub send_fits : Tree → Tree → Tree → Bool
send_fits t a b = sends (base_of a) b t

-- of a term that is dropped before another
abbrev pub seq_fits : List Kind → Tree → Tree → Tree → Bool
seq_fits vars t a b = is_many (use_in vars a) && same_tree t b

-- of a negation
abbrev pub negate_fits : Tree → Tree → Bool
negate_fits t a = same_tree a (plain Truth) && same_tree t (plain Truth)

-- of a value that is received
abbrev pub receive_fits : Tree → Tree → Bool
receive_fits t a = receives_pair (pair_parts t) a

-- of a closing
abbrev pub close_fits : Tree → Tree → Bool
close_fits t a = same_tree t (plain Nothing) && has_some (step a Close)

-- of a wait for a closing
abbrev pub wait_fits : Tree → Tree → Bool
wait_fits t a = same_tree t (plain Nothing) && has_some (step a Wait)

-- of a branch that is selected
abbrev pub select_fits : List ℕ → Tree → Tree → Bool
select_fits l t a = is_type (step a (Select l)) t

-- of a task
abbrev pub fork_fits : List Kind → Tree → Tree → Bool
fork_fits vars t a = is_many (use_in vars a) && same_tree t (plain Nothing)
