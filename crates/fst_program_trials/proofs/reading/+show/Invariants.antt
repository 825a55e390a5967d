use Rattle.std.proofs.Common.{◌+◌, ◌*◌}
use Rattle.fst_program_trials.proofs.reading.+show.Given as goal

abbrev pub decreases-show : goal.decreases-show
decreases-show l = 2 * l.left

abbrev pub decreases-show_two : goal.decreases-show_two
decreases-show_two l = 2 * l.left + 1

abbrev pub decreases-show_all : goal.decreases-show_all
decreases-show_all l = 2 * l.left + 1
