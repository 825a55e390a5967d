use Rattle.std.proofs.Common.{◌≡◌, ◌∙◌, ◌≤◌, subst, sym, ap, arith, map, length}
use Rattle.std.proofs.lemmas.List.{length-map}
use Rattle.fst_base.specs.Limits.{most_nodes}
use Rattle.fst_base.specs.Order.{IsRising}
use Rattle.fst_types.specs.Order.{label_cmp}
use Rattle.fst_types.specs.Size.{nodes}
use Rattle.fst_parts.specs.Labels.{names}
use Rattle.fst_parts.specs.Views.{part_of}
use Rattle.fst_parts.proofs.Laws.{names_rise}
use Rattle.fst_grammar.specs.Parts.{parts_of}
use Rattle.fst_grammar.proofs.SizeLaws.{table_small, table_within}
use Rattle.fst_grammar.proofs.translation.table_of.Goals as goal

pub returns-clause-table : goal.returns-clause-table
returns-clause-table c =
    let s = c.args.s.now in
    let r = c.args.r.now in
    let letters = c.in_ok-letters.letters.items in
    let parts = c.in_ok-parts.parts.found.items in
    let found : map part_of parts ≡ parts_of s r = c.in_ok-parts.ensures.parts
    ∙ (λ i. parts_of (c.in_ok-trees.ensures.left i) (c.in_ok-trees.ensures.right i)) in
    let small = table_small s r letters (map part_of parts) c.requires.left c.requires.right c.in_ok-letters.ensures.letters
    found in
    let same : c.in_ok-names.names.items ≡ names letters = c.in_ok-names.ensures ∙ ap names c.deref.ensures.value in
    let few : length c.in_ok-names.names.items ≡ length (names letters) = ap length same in
    let many = length-map parts part_of in
    let rising : IsRising label_cmp letters = c.in_ok-letters.ensures.rising in
    let left : nodes c.in_ok-trees.left.ty.now ≤ most_nodes = subst
    (λ t. nodes t ≤ most_nodes) (sym c.in_ok-trees.ensures.left) c.requires.left in
    let right : nodes c.in_ok-trees.right.ty.now ≤ most_nodes = subst
    (λ t. nodes t ≤ most_nodes) (sym c.in_ok-trees.ensures.right) c.requires.right in
    record {
      table = record {
        names_are = same;
        letters_fit = small.0;
        numbers_fit = omega (arith, small.1);
        letters_rise = rising;
        names_rise = subst (IsRising label_cmp) (sym same) (names_rise letters rising);
        kept = c.in_ok-parts.ensures.kept;
      };
      left = c.in_ok-trees.ensures.number_left;
      right = c.in_ok-trees.ensures.number_right;
      few_left = omega (arith, left);
      few_right = omega (arith, right);
      within = table_within s r parts c.requires.left c.requires.right found;
    }
