use Rattle.std.proofs.Common.{◌∙◌, ◌-◌, ◌<◌, refl, sym, ap, arith, rules, length, get_or}
use Rattle.fst_grammar.specs.Rules.{rules_before}
use Rattle.fst_grammar.specs.Equations.{like}
use Rattle.fst_grammar.specs.Views.{equation_of}
use Rattle.fst_grammar.proofs.HeadLaws.{led, like_row, known_row}
use Rattle.fst_grammar.proofs.rows.+head_of.Goals as goal

pub bounds-word-0 : goal.bounds-word-0
bounds-word-0 t c =
    (led c.args.equations.now c.args.z c.args.left c.index-equations-z.result c.as_slice-word.result.now c.requires.leads
    c.requires.within c.index-equations-z.is (ap equation_of c.in-Like.is ∙ ap like (sym c.as_slice-word.ensures))).some

pub overflow_sub-left : goal.overflow_sub-left
overflow_sub-left t c =
    (led c.args.equations.now c.args.z c.args.left c.index-equations-z.result c.as_slice-word.result.now c.requires.leads
    c.requires.within c.index-equations-z.is (ap equation_of c.in-Like.is ∙ ap like (sym c.as_slice-word.ensures))).more

pub head_of-requires : goal.head_of-requires
head_of-requires t c =
    let h = led c.args.equations.now c.args.z c.args.left c.index-equations-z.result c.as_slice-word.result.now c.requires.leads
    c.requires.within c.index-equations-z.is (ap equation_of c.in-Like.is ∙ ap like (sym c.as_slice-word.ensures)) in
    (omega (arith, h.more), (h.within, (c.requires.known, h.leads)))

pub slice_bounds-extend_from_slice-count : goal.slice_bounds-extend_from_slice-count
slice_bounds-extend_from_slice-count t c =
    let h : 0 < length c.as_slice-word.result.now =
    (led c.args.equations.now c.args.z c.args.left c.index-equations-z.result c.as_slice-word.result.now c.requires.leads
    c.requires.within c.index-equations-z.is (ap equation_of c.in-Like.is ∙ ap like (sym c.as_slice-word.ensures))).some in
    omega arith

pub slice_bounds-extend_from_slice-start : goal.slice_bounds-extend_from_slice-start
slice_bounds-extend_from_slice-start t c =
    let h : 0 < length c.as_slice-word.result.now =
    (led c.args.equations.now c.args.z c.args.left c.index-equations-z.result c.as_slice-word.result.now c.requires.leads
    c.requires.within c.index-equations-z.is (ap equation_of c.in-Like.is ∙ ap like (sym c.as_slice-word.ensures))).some in
    search rules

pub returns-in_ok-extend_from_slice-in-Like : goal.returns-in_ok-extend_from_slice-in-Like
returns-in_ok-extend_from_slice-in-Like t c =
    let w = c.as_slice-word.result.now in
    let is = ap equation_of c.in-Like.is ∙ ap like (sym c.as_slice-word.ensures) in
    let h = led c.args.equations.now c.args.z c.args.left c.index-equations-z.result w c.requires.leads c.requires.within
    c.index-equations-z.is is in
    record {
      rules = λ rows s.
          like_row c.args.equations.now c.args.z c.index-equations-z.result w c.in_ok-head-in-Like.head.rest.items
          c.in_ok-head-in-Like.head.rules.now rows s c.requires.within c.index-equations-z.is is h.some
          (c.in_ok-head-in-Like.ensures.rules rows s)
          ∙ ap (λ d. rules_before d c.in_ok-head-in-Like.head.rules.now) (sym c.in_ok-extend_from_slice-in-Like.ensures.items);
    }

pub returns-then-behind-known : goal.returns-then-behind-known
returns-then-behind-known t c =
    let read = c.as_slice.ensures.rules ∙ c.index-known-behind.is
    ∙ ap (get_or c.args.known.now _) (sym c.as_slice.ensures.rules) in
    record {
      rules = λ rows s.
          known_row rows c.args.known.now c.args.equations.now c.args.z
          (length c.args.equations.now - 1 - c.args.z) c.as_slice.result.now s
          (c.requires.known rows s) c.requires.within refl c.if-behind-known.true read
          ∙ ap (λ d. rules_before d c.as_slice.result.now) (sym c.new.ensures.items);
    }
