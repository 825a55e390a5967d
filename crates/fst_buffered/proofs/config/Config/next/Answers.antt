use Rattle.std.proofs.Common.{◌≡◌, ◌∙◌, ap, subst}
use Rattle.fst_paths.specs.Paths.{has_path}
use Rattle.fst_runs.specs.Least.{IsBefore}
use Rattle.fst_process.proofs.Laws.{none_before}
use Rattle.fst_buffered.proofs.config.Config.next.Goals as goal

pub returns-in_ok-path-in-Some : goal.returns-in_ok-path-in-Some
returns-in_ok-path-in-Some c =
    let keys = c.args.self.now.ready.keys in
    let p = c.in-Some.key.now.items in
    let path : c.in_ok-path-in-Some.path ≡ p = c.in_ok-path-in-Some.ensures ∙ c.as_slice.ensures.value in (
      ap (has_path keys) path ∙ c.in-Some.ensures.member,
      λ q b. none_before p q keys c.in-Some.ensures.all_from (subst (IsBefore q) path b),
    )
