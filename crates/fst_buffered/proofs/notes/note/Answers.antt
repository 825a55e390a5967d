use Rattle.std.proofs.Common.{◌∙◌, sym, ap}
use Rattle.std.proofs.lemmas.Result.{on_ok_weaker}
use Rattle.fst_paths.specs.Paths.{put_at}
use Rattle.fst_runs.specs.Wrong.{end_of}
use Rattle.fst_buffered.specs.Kept.{asked}
use Rattle.fst_buffered.specs.KeptOf.{kept_besides}
use Rattle.fst_buffered.proofs.notes.note.Goals as goal

pub returns-in-Put : goal.returns-in-Put
returns-in-Put c =
    let js = c.args.channels.now.by_maker.entries in
    let p = c.args.path.now in
    let old = kept_besides js c.args.ready.now.keys in
    let ready = c.in_ok-mark.ensures ∙ ap (λ b. put_at p b old.ready) c.can-able.ensures in
    on_ok_weaker c.ask.result (λ e. e c.mark.new.ready.keys ∙ (λ i. record {
      tasks = old.tasks;
      channels = old.channels;
      made = old.made;
      ready = ready i;
      asker = asked p (end_of (sym c.in-Put.is i)) old.channels old.asker;
    })) c.ask.ensures

pub returns-in-Get : goal.returns-in-Get
returns-in-Get c =
    let js = c.args.channels.now.by_maker.entries in
    let p = c.args.path.now in
    let old = kept_besides js c.args.ready.now.keys in
    let ready = c.in_ok-mark.ensures ∙ ap (λ b. put_at p b old.ready) c.can-able.ensures in
    on_ok_weaker c.ask-in-Get.result (λ e. e c.mark.new.ready.keys ∙ (λ i. record {
      tasks = old.tasks;
      channels = old.channels;
      made = old.made;
      ready = ready i;
      asker = asked p (end_of (sym c.in-Get.is i)) old.channels old.asker;
    })) c.ask-in-Get.ensures
