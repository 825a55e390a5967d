-- That two lists of types are one has one proof at most, so a struct can keep it.
use Rattle.std.specs.Prelude.{◌≡◌, List, Option}
use Rattle.std.specs.Coded.{Coded-set, coded_list, coded_option}
use Rattle.fst_types.specs.ModelCode.{tree_code}
use Rattle.fst_types.specs.Tree.{Tree}

-- two lists of types are one in one way
pub trees_prop : (ts us : List (Option Tree)) → IsProp (ts ≡ us)
trees_prop ts us = Coded-set (coded_list (coded_option tree_code)) ts us
