-- A channel that was made last: it wasn't made before, and nothing has passed over it.
use Rattle.std.proofs.Common.{◌≡◌, ◌∙◌, inl, inr, ◌<◌, ℕ, List, [], ◌∷◌, ◌++◌, refl, sym, ap, subst, arith}
use Rattle.std.specs.Prelude.{Contains}
use Rattle.fst_base.proofs.Lists.{Cuts, shorter, same, longer, cuts}
use Rattle.fst_types.specs.Tree.{Tree}
use Rattle.fst_types.specs.declared.side.Side.TheVariants.{Left}
use Rattle.fst_types.specs.declared.ends.ChannelName.{ChannelName}
use Rattle.fst_types.specs.declared.ends.EndName.{EndName}
use Rattle.fst_types.specs.declared.event.ChannelHistory.{ChannelHistory}
use Rattle.fst_types.specs.declared.event.Entry.{Entry}
use Rattle.fst_terms.specs.CoreTree.{CoreTree}
use Rattle.fst_machine.specs.declared.request.Request.{Request}
use Rattle.fst_machine.specs.declared.request.Request.TheVariants.{Step, New, Fork, Put, Get}
use Rattle.fst_machine.specs.declared.request.Answer.{Answer}
use Rattle.fst_machine.specs.declared.request.Answer.TheVariants.{Go, Made, Forked, Sent, Got}
use Rattle.fst_machine.specs.Machine.{Program, pause}
use Rattle.fst_runs.specs.declared.log.LogEntry.{LogEntry}
use Rattle.fst_runs.specs.Configs.{Path, Task, channel_name}
use Rattle.fst_runs.specs.Logs.{IsAnswered, after_entry, made_after}
use Rattle.fst_runs.specs.Wrong.{held_state}
use Rattle.fst_runs.proofs.Laws.{later, pause_none, asks_held}
use Rattle.fst_records.specs.Records.{Course, main_birth, FitsRecord, IsLogged}
use Rattle.fst_records.specs.Entries.{part_at}
use Rattle.fst_records.proofs.Causes.{IsMade, IsCaused, held_made}
use Rattle.fst_records.proofs.Counting.{made_grows}
use Rattle.fst_records.proofs.Exchanges.{part_at_says}
use Rattle.fst_records.proofs.Histories.{exchanges_part}
use Rattle.fst_records.proofs.Lists.{IsAmong, all_one}
use Rattle.fst_records.proofs.LogEntries.{AreBy, entry_by, is_entry}
use Rattle.fst_records.proofs.Lasts.{Last, one_by_path}
use Rattle.fst_records.proofs.Paths.{paths_once}

made_name : (path : Path) (t : Task) (stamp : ℕ) (q : Request) (a : Answer) (h : ChannelName) → IsAnswered path t stamp q a →
    a ≡ Made h →
    h ≡ channel_name path t.made
made_name path t stamp Step Go h i e = absurd (cc e)
made_name path t stamp (New n) (Made g) h i e = let f : g ≡ h = cc e in sym f ∙ i.1
made_name path t stamp Fork Forked h i e = absurd (cc e)
made_name path t stamp (Put x ev) Sent h i e = absurd (cc e)
made_name path t stamp (Get x) (Got ev) h i e = absurd (cc e)
made_name path t stamp q a h i e = absurd i

none_is : {X : Type 0} (xs : List X) (x : X) (ys : List X) → [] ≡ xs ++ x ∷ ys → ⊥
none_is [] x ys e = absurd (cc e)
none_is (y ∷ xs) x ys e = absurd (cc e)

module _ (m : Program) (types : List Tree) (main : CoreTree) (ys : List Course) (ks : List ChannelHistory)
    (fits : FitsRecord m types (main_birth main) ys ks) {y : Course} (place : IsAmong ys y) {e : LogEntry} (l : Last m y e)
    (answer : e.answer ≡ Made (channel_name y.path l.before.made)) where
  -- the channel's name
  abbrev name : ChannelName
  name = channel_name y.path l.before.made

  -- an entry of the same log that made it isn't an earlier one
  not_before : {d : LogEntry} (at : IsAmong y.log d) → d.answer ≡ Made name → d.stamp < e.stamp → ⊥
  not_before {d} at made less = by (cuts at.before (d ∷ at.behind) l.log (e ∷ []) (sym at.is ∙ l.is))
    where
      by : Cuts at.before (d ∷ at.behind) l.log (e ∷ []) → ⊥
      by (same a b) = let q : d ≡ e = cc b in let n = ap (λ (e : LogEntry). e.stamp) q in omega (arith, n, less)
      by (longer k r a b) = let q : [] ≡ r ++ d ∷ at.behind = cc b in none_is r d at.behind q
      by (shorter k r a b) =
          let q : d ≡ k = cc b in
          let is : l.log ≡ at.before ++ d ∷ r = a ∙ ap (λ (k : LogEntry). at.before ++ k ∷ r) (sym q) in
          let f = is_entry m y.path y.first l.log l.before l.follows {e = d}
          (record { before = at.before; behind = r; is = is }) in
          let t = f.task in
          let h = made_name y.path t d.stamp d.asked d.answer name f.enters.is_answered made in
          let c = ap (λ (h : ChannelName). h.count) h in
          let g = made_grows m types y.path (after_entry m t d) f.place.behind l.before f.leads in
          let j = ap (λ (x : Answer). made_after x t.made) made in
          omega (arith, c, g, j)

  -- it wasn't made at an earlier stamp
  made_last : (n : ℕ) → n < e.stamp → IsMade ys name n → ⊥
  made_last n less d =
      let z = d.course in
      let f = is_entry m z.path z.first z.log z.now (all_one (IsLogged m types) d.place fits.logs).follows d.at in
      let h = made_name z.path f.task d.entry.stamp d.entry.asked d.entry.answer name f.enters.is_answered d.answer in
      let p : z.path ≡ y.path = sym (ap (λ (h : ChannelName). h.maker) h) in
      let same : y ≡ z = one_by_path (paths_once (λ y. y) m (main_birth main) ys fits.root fits.births) place d.place p in
      let s = d.stamp in
      not_before (subst (λ (y : Course). IsAmong y.log d.entry) (sym same) d.at) d.answer (omega (arith, s, less))

  module _ (by : AreBy e.stamp ys) (k : ChannelHistory) (there : Contains ks k) (named : k.name ≡ name) where
    -- what passes over it does so at a stamp that is later than this one
    passed_later : (d : Entry) (h : List Entry) → k.entries.items ≡ d ∷ h → ⊥
    passed_later d h is =
        let x = exchanges_part m types (main_birth main) ys ks fits k there Left [] d h is in
        let z = x.course in
        let r = x.exchanged in
        let t = r.at.task in
        let g = part_at k Left [] d in
        let a = entry_by by x.place r.at.place r.at.enters in
        let b = later z.path t r.entry.stamp r.entry.asked r.entry.answer r.at.enters.is_answered in
        let at : g.end.channel ≡ name = ap (λ (x : EndName). x.channel) (part_at_says k Left [] d g refl).end ∙ named in
        turn t (omega (arith, a, b)) g.end at
        (λ n. asks_held (pause m.families t.state) r.entry.asked g.end r.trade.end r.at.enters.asked
        (pause_none m.families g.end t.state n))
        (held_made m types main ys ks fits g.end z x.place r.at)
      where
        turn : (t : Task) → t.clock < e.stamp → (x : EndName) → x.channel ≡ name → (held_state x t.state ≡ 0 → ⊥) →
            IsCaused ys x t.state t.clock → ⊥
        turn t less x at held (inl z) = held z
        turn t less x at held (inr made) = made_last t.clock less (subst (λ g. IsMade ys g t.clock) at made)

    -- nothing has passed over it
    pub nothing_passed : k.entries.items ≡ []
    nothing_passed = go k.entries.items refl
      where
        go : (h : List Entry) → k.entries.items ≡ h → h ≡ []
        go [] q = refl
        go (d ∷ h) q = absurd (passed_later d h q)
