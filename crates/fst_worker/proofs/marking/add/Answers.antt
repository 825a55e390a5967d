use Rattle.std.proofs.Common.{◌≡◌, ◌∙◌, ◌++◌, None, sym, ap, rules}
use Rattle.std.specs.Map.{lookup}
use Rattle.std.specs.BTreeMap.Entry.{map_with_value, entry_value}
use Rattle.std.specs.declared.collections.btree_map.Entry.TheVariants.{Occupied, Vacant}
use Rattle.fst_paths.specs.Paths.{at_path}
use Rattle.fst_paths.specs.ChannelLists.{listed}
use Rattle.fst_process.specs.Marking.{marks_in}
use Rattle.fst_worker.proofs.JoinedMarks.{added}
use Rattle.fst_worker.proofs.marking.add.Goals as goal
use Rattle.fst_worker.proofs.marking.add.Goals.{in-Occupied+in_ok-append-in-Occupied, in-Vacant}

pub returns : goal.returns
returns c =
    let old = c.args.all.now in
    let key = c.in_ok-key.key in
    let entry = c.in_ok-entry.field-0 in
    let at : key.items ≡ c.args.task.path = c.in_ok-key.ensures.items ∙ c.as_slice.ensures in
    elim c.match-branch-3.branch [
      | in-Occupied+in_ok-append-in-Occupied w ↦
          let v = w.append.new.self in
          let now : c.match-branch-3.all ≡ map_with_value (Occupied w.in-Occupied.entry) v = search rules in
          let was : marks_in old.entries key.items ≡ w.get_mut.result.now.items = ap listed
          (sym c.in_ok-entry.ensures.value ∙ ap (λ e. entry_value e) w.in-Occupied.is ∙ w.get_mut.ensures.value) in
          added old (map_with_value entry v) c.match-branch-3.all c.args.task key v at
          (now ∙ ap (λ e. map_with_value e v) (sym w.in-Occupied.is)) (c.in_ok-entry.ensures.update.0 v)
          (w.in_ok-append-in-Occupied.ensures.items ∙ ap (λ l. l ++ c.args.task.marks.items) (sym was))
      | in-Vacant w ↦
          let v = c.args.task.marks in
          let now : c.match-branch-3.all ≡ map_with_value (Vacant w.in-Vacant.entry) v = search rules in
          let none : lookup (at_path key.items) old.entries ≡ None = search rules in
          added old (map_with_value entry v) c.match-branch-3.all c.args.task key v at
          (now ∙ ap (λ e. map_with_value e v) (sym w.in-Vacant.is)) (c.in_ok-entry.ensures.update.0 v)
          (ap (λ o. listed o ++ v.items) (sym none))
    ]
