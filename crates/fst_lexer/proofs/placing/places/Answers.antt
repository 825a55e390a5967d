use Rattle.std.proofs.Common.{length, arith}
use Rattle.std.proofs.lemmas.Iterator.{YieldsList-from_chars}
use Rattle.std.proofs.lemmas.List.{length_push}
use Rattle.std.proofs.lemmas.Iterator.Consumers.{YieldsList-turn, YieldsList-end}
use Rattle.std.specs.Str.{chars}
use Rattle.fst_lexer.proofs.PlaceLaws.{place_more, place_end}
use Rattle.fst_lexer.proofs.placing.places.Goals as goal

pub loop-c-preserved : goal.loop-c-preserved
loop-c-preserved c =
    let t = YieldsList-turn (YieldsList-from_chars c.args.text.now c.utf8.text cc) c.loop-c.yielded _ c.loop-c.yielded_by _ _
    c.in-Some.c c.in-Some.is c.next.ensures.steps in (
      place_more (chars c.args.text.now) c.loop-c.yielded c.loop-c.placed.items c.push.new.self.items _ c.loop-c.at
          c.len_utf8.result c.in-Some.c t c.len_utf8.ensures.value c.in_ok-push.ensures.items c.loop-c.invariant.0,
      omega (arith, c.len_utf8.ensures.upper_bound, length_push c.loop-c.yielded c.in-Some.c),
    )

pub returns : goal.returns
returns c =
    let t = YieldsList-end (YieldsList-from_chars c.args.text.now c.utf8.text cc) c.loop-c.yielded _ c.loop-c.yielded_by _ _
    c.in-None.is c.next.ensures.steps in
    place_end (chars c.args.text.now) (length c.loop-c.yielded) c.loop-c.placed.items _ c.loop-c.at
    (omega (arith, t.1)) c.loop-c.invariant.0
