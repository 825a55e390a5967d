use Rattle.std.proofs.Common.{◌≡◌, ◌∙◌, ap, length, sym, take}
use Rattle.std.proofs.Math.Seq.{take-append_seam}
use Rattle.std.proofs.lemmas.Slice.Eq.{bytes_eq-Decides}
use Rattle.fst_basis.proofs.RewriteParts.{begun}
use Rattle.fst_basis.proofs.rewriting.is_concat.Goals as goal

pub returns-in-None : goal.returns-in-None
returns-in-None c = (
  (λ t. cc),
  (λ e.
      let begins : take (length c.args.first.now) c.args.word.now ≡ c.args.first.now =
      ap (take (length c.args.first.now)) e ∙ take-append_seam c.args.first.now c.args.second.now in
      let yes = (bytes_eq-Decides (take (length c.args.first.now) c.args.word.now) c.args.first.now).1 begins in
      let no = c.in-None.ensures.cases in
      cc),
)

pub returns-in-Some : goal.returns-in-Some
returns-in-Some c =
    let cases = c.in-Some.ensures.cases in
    let begins = (bytes_eq-Decides (take (length c.args.first.now) c.args.word.now) c.args.first.now).0 cases.0 in
    let told = begun c.args.word.now c.args.first.now c.args.second.now begins in
    let same = bytes_eq-Decides c.in-Some.rest.now c.args.second.now in
    rw c.eq.ensures (
      (λ t. told.0 (sym cases.1 ∙ same.0 t)),
      (λ e. same.1 (cases.1 ∙ told.1 e)),
    )
