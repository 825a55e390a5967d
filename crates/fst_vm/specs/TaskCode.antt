-- Tasks as codes, and back.
use Rattle.std.specs.Prelude.{ℕ, Bool, List, refl}
use Rattle.std.specs.Coded.{Coded, code_by, coded×, coded_ℕ, coded_bool, coded_list, coded_option}
use Rattle.fst_value.specs.ValueTree.{ValueTree}
use Rattle.fst_value.specs.CellCode.{value_code}
use Rattle.fst_machine.specs.Spots.{Spot, Call, Slots}
use Rattle.fst_vm.specs.TaskView.{TaskView}

-- variables, told apart by their codes
abbrev pub slots_code : Coded Slots
slots_code = coded_list (coded_option value_code)

-- so are calls
abbrev pub call_code : Coded Call
call_code = code_by (ℕ × Slots) (coded× coded_ℕ slots_code) (λ k. (k.place, k.slots))
    (λ p. record { place = p.0; slots = p.1 }) (λ _. refl)

-- so is where code runs
abbrev pub spot_code : Coded Spot
spot_code =
    code_by (ℕ × (Slots × (List ValueTree × List Call)))
    (coded× coded_ℕ (coded× slots_code (coded× (coded_list value_code) (coded_list call_code))))
    (λ s. (s.place, (s.slots, (s.operands, s.calls))))
    (λ p. record { place = p.0; slots = p.1.0; operands = p.1.1.0; calls = p.1.1.1 })
    (λ _. refl)

-- so are tasks
abbrev pub task_code : Coded TaskView
task_code =
    code_by (List ℕ × (ℕ × (Spot × Bool)))
    (coded× (coded_list coded_ℕ) (coded× coded_ℕ (coded× spot_code coded_bool)))
    (λ t. (t.path, (t.forked, (t.spot, t.ready))))
    (λ p. record { path = p.0; forked = p.1.0; spot = p.1.1.0; ready = p.1.1.1 }) (λ _. refl)
