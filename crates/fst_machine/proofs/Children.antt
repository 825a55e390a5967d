-- Tasks that forks make.
use Rattle.std.proofs.Common.{◌≡◌, Some, [], refl}
use Rattle.fst_machine.specs.declared.request.Request.TheVariants.{Fork}
use Rattle.fst_machine.specs.Machine.{State, Pause, stuck, calls, uses, makes, forks, puts, gets, closes, waits, matches, ended, asked, child}

-- what asks for a fork has a state for the other task
pub forks_child : (q : Pause) → asked q ≡ Some Fork → (b : State) × (child q ≡ Some b)
forks_child stuck h = absurd (cc h)
forks_child (calls e env v fs) h = absurd (cc h)
forks_child (uses g fs) h = absurd (cc h)
forks_child (makes t fs) h = absurd (cc h)
forks_child (forks e env fs) h = (record { term = e; environment = env; frames = [] }, refl)
forks_child (puts x ev fs) h = absurd (cc h)
forks_child (gets x fs) h = absurd (cc h)
forks_child (closes x fs) h = absurd (cc h)
forks_child (waits x fs) h = absurd (cc h)
forks_child (matches x bs env fs) h = absurd (cc h)
forks_child (ended v) h = absurd (cc h)
