-- Where a log says that something was exchanged, and what the part of a side in an entry says.
use Rattle.std.proofs.Common.{◌≡◌, ◌∙◌, ◌⊎◌, inl, inr, ℕ, List, [], ◌∷◌, Bool, true, false, Some, refl, ap}
use Rattle.std.specs.Prelude.{Contains}
use Rattle.std.proofs.lemmas.List.Elements.{Contains-append_cases}
use Rattle.fst_base.proofs.Lists.{contains_none, from_contains}
use Rattle.fst_types.specs.declared.side.Side.{Side}
use Rattle.fst_types.specs.declared.ends.ChannelName.{ChannelName}
use Rattle.fst_types.specs.declared.ends.EndName.{EndName}
use Rattle.fst_types.specs.declared.event.ChannelHistory.{ChannelHistory}
use Rattle.fst_types.specs.declared.event.Entry.{Entry}
use Rattle.fst_lts.specs.Residuals.{residual, sends}
use Rattle.fst_machine.specs.declared.request.Request.{Request}
use Rattle.fst_machine.specs.declared.request.Request.TheVariants.{Put, Get}
use Rattle.fst_machine.specs.declared.request.Answer.{Answer}
use Rattle.fst_machine.specs.declared.request.Answer.TheVariants.{Sent, Got}
use Rattle.fst_machine.specs.Machine.{Program}
use Rattle.fst_runs.specs.declared.log.LogEntry.{LogEntry}
use Rattle.fst_runs.specs.Configs.{Path, Task}
use Rattle.fst_runs.specs.Logs.{Exchange, Follows, after_entry, exchanged_by, exchanges, part_in}
use Rattle.fst_runs.specs.Wrong.{end_of}
use Rattle.fst_records.specs.Entries.{part_at}
use Rattle.fst_records.specs.Parts.{Deed, sent, got, deeds}
use Rattle.fst_records.proofs.LogEntries.{IsEntry, first_entry, next_entry}

-- ---- logs

-- what the task does in an exchange
abbrev pub exchange_deed : Bool → ChannelName → Deed
exchange_deed true h = sent h
exchange_deed false h = got h

-- what is exchanged where this is asked at this stamp and answered so
pub record IsTrade (stamp : ℕ) (q : Request) (a : Answer) (g : Exchange) : Type 0 where
  pub end : end_of q ≡ Some g.end
  pub stamp_is : stamp ≡ g.stamp
  pub deed : deeds q a ≡ exchange_deed g.sends g.end.channel ∷ []

is_trade : (clock stamp : ℕ) (q : Request) (a : Answer) (g : Exchange) → Contains (exchanged_by clock stamp q a) g →
    IsTrade stamp q a g
is_trade clock stamp (Put x ev) Sent g c =
    by (from_contains [] g (record { end = x; sends = true; event = ev; stamp = stamp; clock = clock }) c)
  where
    by : (record { end = x; sends = true; event = ev; stamp = stamp; clock = clock } ≡ g) ⊎ Contains [] g →
        IsTrade stamp (Put x ev) Sent g
    by (inl e) = record {
      end = ap (λ (g : Exchange). Some g.end) e;
      stamp_is = ap (λ (g : Exchange). g.stamp) e;
      deed = ap (λ (g : Exchange). exchange_deed g.sends g.end.channel ∷ []) e;
    }
    by (inr d) = absurd (contains_none g d)
is_trade clock stamp (Get x) (Got ev) g c =
    by (from_contains [] g (record { end = x; sends = false; event = ev; stamp = stamp; clock = clock }) c)
  where
    by : (record { end = x; sends = false; event = ev; stamp = stamp; clock = clock } ≡ g) ⊎ Contains [] g →
        IsTrade stamp (Get x) (Got ev) g
    by (inl e) = record {
      end = ap (λ (g : Exchange). Some g.end) e;
      stamp_is = ap (λ (g : Exchange). g.stamp) e;
      deed = ap (λ (g : Exchange). exchange_deed g.sends g.end.channel ∷ []) e;
    }
    by (inr d) = absurd (contains_none g d)
is_trade clock stamp q a g c = absurd (contains_none g c)

-- an entry of a log at which something was exchanged
pub record ExchangedAt (p : Program) (path : Path) (t : Task) (log : List LogEntry) (u : Task) (g : Exchange) : Type 0 where
  pub entry : LogEntry
  pub at : IsEntry p path t log u entry
  pub trade : IsTrade entry.stamp entry.asked entry.answer g

-- whatever a log exchanges was exchanged at one
pub exchange_at : (p : Program) (path : Path) (t : Task) (log : List LogEntry) (u : Task) (g : Exchange) →
    Follows p path t log u →
    Contains (exchanges t.clock log) g → ExchangedAt p path t log u g
exchange_at p path t [] u g f c = absurd (contains_none g c)
exchange_at p path t (e ∷ es) u g f c =
    by (Contains-append_cases (exchanged_by t.clock e.stamp e.asked e.answer) (exchanges e.stamp es) g c)
    (exchange_at p path (after_entry p t e) es u g f.1)
  where
    by : Contains (exchanged_by t.clock e.stamp e.asked e.answer) g ⊎ Contains (exchanges e.stamp es) g →
        (Contains (exchanges e.stamp es) g → ExchangedAt p path (after_entry p t e) es u g) → ExchangedAt p path t (e ∷ es) u g
    by (inl d) more =
        record { entry = e; at = first_entry e es u f.0 f.1; trade = is_trade t.clock e.stamp e.asked e.answer g d }
    by (inr d) more = let r = more d in record { entry = r.entry; at = next_entry e es u f.0 r.at; trade = r.trade }

-- ---- parts in entries

-- whether it is sent or got, a part in an entry has the entry's stamp and event, its end, and its side
part_says : (x : EndName) (b : Bool) (d : Entry) →
    ((part_in x b d).end ≡ x) × ((part_in x b d).stamp ≡ d.stamp) × ((part_in x b d).event ≡ d.event) ×
    ((part_in x b d).sends ≡ b)
part_says x true d = (refl, refl, refl, refl)
part_says x false d = (refl, refl, refl, refl)

-- the part of a side in an entry that stands behind these
pub record PartSays (k : ChannelHistory) (s : Side) (before : List Entry) (d : Entry) (g : Exchange) : Type 0 where
  pub end : g.end ≡ record { channel = k.name; side = s }
  pub stamp : g.stamp ≡ d.stamp
  pub event : g.event ≡ d.event
  pub sends_is : g.sends ≡ sends (residual s k.declared before) d.event

-- so it is with what is this part
pub part_at_says : (k : ChannelHistory) (s : Side) (before : List Entry) (d : Entry) (g : Exchange) → g ≡ part_at k s before d →
    PartSays k s before d g
part_at_says k s before d g e =
    let r = part_says (record { channel = k.name; side = s }) (sends (residual s k.declared before) d.event) d in
    record {
      end = ap (λ (g : Exchange). g.end) e ∙ r.0;
      stamp = ap (λ (g : Exchange). g.stamp) e ∙ r.1;
      event = ap (λ (g : Exchange). g.event) e ∙ r.2;
      sends_is = ap (λ (g : Exchange). g.sends) e ∙ r.3;
    }
