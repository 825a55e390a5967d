use Rattle.std.proofs.Common.{◌∙◌, ap, sym, subst, length, take}
use Rattle.std.proofs.lemmas.Iterator.Adapters.{YieldsList-from_vec}
use Rattle.std.proofs.lemmas.Iterator.Consumers.{YieldsList-turn, YieldsList-end}
use Rattle.std.proofs.lemmas.List.{length_push}
use Rattle.fst_declarations.specs.Declarations.{known_in}
use Rattle.fst_names.specs.Modules.{equations_from, globals_from}
use Rattle.fst_names.proofs.FaultlessLaws.{are_sound}
use Rattle.fst_names.proofs.GlobalLaws.{AreAdded, all_added, equation_at, has_types, part_added, part_sound, types_counted}
use Rattle.fst_names.proofs.globals.add_globals.Goals as goal

pub add_global-requires : goal.add_global-requires
add_global-requires g c =
    let known = known_in c.args.declarations.now in
    let gives = c.into_iter-part-iterator.ensures.into_iter_gives in
    let turn = YieldsList-turn (YieldsList-from_vec c.args.parts.items gives.0 (gives.1 ∙ c.args.parts.ok.0)) c.loop-part.yielded
    c.loop-part.part-iterator c.loop-part.yielded_by c.next.result c.next.new.self c.in-Some.part c.in-Some.is
    c.next.ensures.steps in
    let at = equation_at g.ds known c.args.parts.items (equations_from 0 g.ds) c.requires.1.0
    (length c.loop-part.yielded) c.in-Some.part turn in
    let sound = part_sound g.ds known (are_sound g.ds known c.requires.0.faultless).decls
    (length c.loop-part.yielded) c.in-Some.part at in (
      c.requires.0,
      (
        sound,
        (
          c.requires.1.1.0,
          has_types g.ds known c.args.list.now c.loop-part.list _ c.requires.1.1.1
              c.loop-part.invariant.longer,
        ),
      ),
    )

pub loop-part-preserved : goal.loop-part-preserved
loop-part-preserved g c =
    let known = known_in c.args.declarations.now in
    let es = equations_from 0 g.ds in
    let gives = c.into_iter-part-iterator.ensures.into_iter_gives in
    let turn = YieldsList-turn (YieldsList-from_vec c.args.parts.items gives.0 (gives.1 ∙ c.args.parts.ok.0)) c.loop-part.yielded
    c.loop-part.part-iterator c.loop-part.yielded_by c.next.result c.next.new.self c.in-Some.part c.in-Some.is
    c.next.ensures.steps in
    let at = equation_at g.ds known c.args.parts.items es c.requires.1.0 (length c.loop-part.yielded) c.in-Some.part turn in
    subst (λ n. AreAdded g.ds known (take n es) c.args.list.now c.push.new.self.items c.add_global.new.list)
    (sym (length_push c.loop-part.yielded c.in-Some.part))
    (part_added g.ds known es (length c.loop-part.yielded) c.in-Some.part c.args.list.now c.loop-part.list c.add_global.new.list
    c.loop-part.globals.items c.push.new.self.items c.in_ok-add_global.field-0 at c.loop-part.invariant
    c.in_ok-add_global.ensures.global c.in_ok-add_global.ensures.list c.in_ok-push.ensures.items)

pub returns-clause-globals : goal.returns-clause-globals
returns-clause-globals g c =
    let known = known_in c.args.declarations.now in
    let gives = c.into_iter-part-iterator.ensures.into_iter_gives in
    let end = YieldsList-end (YieldsList-from_vec c.args.parts.items gives.0 (gives.1 ∙ c.args.parts.ok.0)) c.loop-part.yielded
    c.loop-part.part-iterator c.loop-part.yielded_by c.next.result c.next.new.self c.in-None.is c.next.ensures.steps in
    let all = all_added g.ds known (equations_from 0 g.ds)
    (length c.loop-part.yielded) c.args.parts.items c.args.list.now c.loop-part.globals.items c.loop-part.list c.requires.1.0
    end.1 c.loop-part.invariant in
    all.made ∙ ap (λ n. globals_from g.ds known n (equations_from 0 g.ds))
    (types_counted g.ds known c.args.list.now c.requires.1.1.1)

pub returns-clause-list : goal.returns-clause-list
returns-clause-list g c =
    let known = known_in c.args.declarations.now in
    let gives = c.into_iter-part-iterator.ensures.into_iter_gives in
    let end = YieldsList-end (YieldsList-from_vec c.args.parts.items gives.0 (gives.1 ∙ c.args.parts.ok.0)) c.loop-part.yielded
    c.loop-part.part-iterator c.loop-part.yielded_by c.next.result c.next.new.self c.in-None.is c.next.ensures.steps in
    (all_added g.ds known (equations_from 0 g.ds)
    (length c.loop-part.yielded) c.args.parts.items c.args.list.now c.loop-part.globals.items c.loop-part.list c.requires.1.0
    end.1 c.loop-part.invariant).longer
