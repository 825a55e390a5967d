-- What so many steps of a module's buffered run come to is one thing, and is written in one way.
use Rattle.std.proofs.Common.{◌≡◌, ◌∙◌, ℕ, ◌+◌, ◌-◌, List, [], ◌∷◌, ◌++◌, map, length, refl, sym, ap, subst, arith}
use Rattle.std.specs.Prelude.{codes, min}
use Rattle.std.specs.List.{flat_map}
use Rattle.std.proofs.lemmas.Option.{same_Some}
use Rattle.fst_types.specs.declared.event.ChannelHistory.{ChannelHistory}
use Rattle.fst_types.specs.declared.family.Family.{Family}
use Rattle.fst_terms.specs.CoreTree.{CoreTree}
use Rattle.fst_terms.specs.declared.core_module.Module.{Module}
use Rattle.fst_runs.specs.Configs.{program}
use Rattle.fst_vm.specs.declared.report.Report.{Report}
use Rattle.fst_process.specs.Reports.{IsReport}
use Rattle.fst_type_print.specs.NameTexts.{channel_text}
use Rattle.fst_type_print.specs.Texts.{family_names, type_text}
use Rattle.fst_report.specs.ReportTexts.{waiting_text}
use Rattle.fst_names.specs.Modules.{family_parts}
use Rattle.fst_names.specs.ResolvedModule.{AreSame}
use Rattle.fst_buffered.specs.declared.outcome.BufferedOutcome.{BufferedOutcome}
use Rattle.fst_buffered.specs.declared.outcome.BufferedOutcome.TheVariants.{Done, OutOfSteps}
use Rattle.fst_buffered.specs.Answers.{AreUnread, IsAnswer}
use Rattle.fst_buffered.specs.Channels.{Channel, Config, core, started}
use Rattle.fst_buffered.specs.Events.{LeastIsOne}
use Rattle.fst_report.specs.BufferedTexts.{buffered_text, channels_text, parted_text}
use Rattle.fst_command.specs.declared.status.Status.{Status}
use Rattle.fst_command.specs.Output.{SaysBuffered, buffered_outcome_status, buffered_outcome_text, waiting_status}
use Rattle.fst_command.proofs.SameBuffered.{buffered_same}
use Rattle.fst_command.proofs.SameParts.{same_back, same_main}
use Rattle.fst_command.proofs.SameReports.{AreOneReport, History, history_parts, one_report, result_in, same_family_names}

-- ---- texts

-- the line of a channel's type, by its parts
abbrev type_by : List (List ℕ) → History → List ℕ
type_by names h = codes "channel " ++ channel_text h.name ++ codes " : " ++ type_text names h.declared ++ codes "\n"

-- and the line of what was put in
abbrev parted_by : History → ℕ → List ℕ
parted_by h unread =
    codes "history " ++ channel_text h.name ++ codes " :" ++ parted_text h.declared (length h.entries - unread) h.entries
    ++ codes "\n"

-- channels with the same parts are written in one way
same_channels : (fs gs : List Family) → family_names fs ≡ family_names gs → (js ks : List ChannelHistory) →
    map history_parts js ≡ map history_parts ks → (ns : List ℕ) → channels_text fs js ns ≡ channels_text gs ks ns
same_channels fs gs names [] [] e ns = refl
same_channels fs gs names [] (k ∷ ks) e ns = absurd (cc e)
same_channels fs gs names (j ∷ js) [] e ns = absurd (cc e)
same_channels fs gs names (j ∷ js) (k ∷ ks) e [] = refl
same_channels fs gs names (j ∷ js) (k ∷ ks) e (n ∷ ns) =
    let first : history_parts j ≡ history_parts k = cc in
    let tail : map history_parts js ≡ map history_parts ks = cc in
    λ i. type_by (names i) (first i) ++ parted_by (first i) n ++ same_channels fs gs names js ks tail ns i

-- so are reports that say the same, by the parts of data types
buffered_written : (fs gs : List Family) → map family_parts fs ≡ map family_parts gs → (r q : Report) → AreOneReport r q →
    (ns ms : List ℕ) → ns ≡ ms → buffered_text fs r ns ≡ buffered_text gs q ms
buffered_written fs gs alike r q s ns ms same =
    let result = result_in fs gs alike r.result ∙ s.result gs in
    let channels = same_channels fs gs (same_family_names fs gs alike) r.channels.items q.channels.items s.channels ns
    ∙ ap (channels_text gs q.channels.items) same in
    λ i. (codes "result " ++ result i ++ codes "\n") ++ flat_map waiting_text (s.waiting i) ++ channels i

-- ---- outcomes

-- a configuration has one list of what one side hasn't taken
one_unread : (c : Config) (js ks : List ChannelHistory) (ns ms : List ℕ) → map history_parts js ≡ map history_parts ks →
    AreUnread c js ns → AreUnread c ks ms → ns ≡ ms
one_unread c [] [] [] [] e a b = refl
one_unread c [] [] [] (m ∷ ms) e a b = absurd b
one_unread c [] [] (n ∷ ns) ms e a b = absurd a
one_unread c [] (k ∷ ks) ns ms e a b = absurd (cc e)
one_unread c (j ∷ js) [] ns ms e a b = absurd (cc e)
one_unread c (j ∷ js) (k ∷ ks) [] ms e a b = absurd a
one_unread c (j ∷ js) (k ∷ ks) (n ∷ ns) [] e a b = absurd b
one_unread c (j ∷ js) (k ∷ ks) (n ∷ ns) (m ∷ ms) e ((x, there, count), more) ((y, found, number), rest) =
    let first : history_parts j ≡ history_parts k = cc in
    let tail : map history_parts js ≡ map history_parts ks = cc in
    let same : x ≡ y = same_Some x y (sym there ∙ ap c.channels (ap (λ (h : History). h.name) first) ∙ found) in
    let other = subst (λ (z : Channel). m + min z.left z.right ≡ length z.history) (sym same) number in
    let alike : n ≡ m = omega (arith, count, other) in
    λ i. alike i ∷ one_unread c js ks ns ms tail more rest i

module _ (law : LeastIsOne) where
  -- two outcomes are written in one way, for data types with the same parts
  abbrev AreWrittenOnce : List Family → List Family → BufferedOutcome → BufferedOutcome → Type 0
  AreWrittenOnce fs gs o q =
      (buffered_outcome_text fs o ≡ buffered_outcome_text gs q) × (buffered_outcome_status o ≡ buffered_outcome_status q)

  module _ (m : Module) (main : CoreTree) (capacity steps : ℕ) (fs gs : List Family)
      (alike : map family_parts fs ≡ map family_parts gs) where
    one_answer : (o q : BufferedOutcome) → IsAnswer m main capacity steps o → IsAnswer m main capacity steps q →
        AreWrittenOnce fs gs o q
    one_answer (Done r ns) (Done q ms) (es, c, h, l, few, is, left) (hs, d, k, j, more, it, others) =
        let low = law.longest (program m) m.types.items capacity (started main) d c hs es k j h in
        let high = law.longest (program m) m.types.items capacity (started main) c d es hs h l k in
        let many : length es ≡ length hs = omega (arith, low, high) in
        let config = (law.one (program m) m.types.items capacity (started main) c d es hs h k many).1 in
        let other : IsReport (program m) (core c) (length es) q = subst
        (λ z. IsReport (program m) (core z) (length es) q) (sym config)
        (subst (λ n. IsReport (program m) (core d) n q) (sym many) it) in
        let same = one_report (program m) (core c) (length es) r q is other in
        let unread = one_unread c r.channels.items q.channels.items ns.items ms.items same.channels left
        (subst (λ z. AreUnread z q.channels.items ms.items) (sym config) others) in
        (buffered_written fs gs alike r q same ns.items ms.items unread, ap waiting_status same.waiting)
    one_answer (Done r ns) OutOfSteps (es, c, h, l, few, is, left) (hs, d, k, many) =
        let long = law.longest (program m) m.types.items capacity (started main) c d es hs h l k in
        absurd (omega (arith, long, few, many))
    one_answer OutOfSteps (Done q ms) (es, c, h, many) (hs, d, k, j, more, it, others) =
        let long = law.longest (program m) m.types.items capacity (started main) d c hs es k j h in
        absurd (omega (arith, long, more, many))
    one_answer OutOfSteps OutOfSteps a b = (refl, refl)

  -- what the texts and statuses of two outcomes say is one thing
  pub one_buffered : (capacity steps : ℕ) (m n : Module) → AreSame m n → (t u : List ℕ) (s r : Status) →
      SaysBuffered capacity steps m t s → SaysBuffered capacity steps n u r → (t ≡ u) × (s ≡ r)
  one_buffered capacity steps m n parts t u s r o q =
      let answer = subst (λ e. IsAnswer m e capacity steps q.outcome) main
      (buffered_same n m (same_back m n parts) q.is.main capacity steps q.outcome q.is.answer) in
      let same = one_answer m o.is.main capacity steps m.families.items n.families.items parts.families o.outcome q.outcome
      o.is.answer answer in
      (o.written ∙ same.0 ∙ sym q.written, o.ended ∙ same.1 ∙ sym q.ended)
    where
      main : q.is.main ≡ o.is.main
      main = same_Some q.is.main o.is.main (sym q.is.body ∙ sym (same_main m.globals.items n.globals.items parts.globals)
          ∙ o.is.body)
