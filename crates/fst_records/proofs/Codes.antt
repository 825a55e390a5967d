-- Exchanges, births and parts, told apart by their codes, and what counts one of them alone.
use Rattle.std.proofs.Common.{◌≡◌, ◌⊎◌, inl, inr, ◌<◌, ℕ, zero, suc, Bool, [], refl, ap, arith}
use Rattle.std.specs.Coded.{Coded, code_by, coded×, coded_ℕ, coded_bool, coded_list}
use Rattle.fst_types.specs.declared.ends.EndName.{EndName}
use Rattle.fst_types.specs.declared.event.Event.{Event}
use Rattle.fst_value.specs.CellCode.{end_code}
use Rattle.fst_machine.specs.Machine.{State}
use Rattle.fst_machine.proofs.Laws.{state_code}
use Rattle.fst_runs.specs.Configs.{Path}
use Rattle.fst_runs.specs.Logs.{Birth, Exchange}
use Rattle.fst_runs.specs.Wrong.{once}
use Rattle.fst_records.specs.Parts.{Deed, stepped, made, forked, sent, got, Part}
use Rattle.fst_records.proofs.EventCode.{event_code}
use Rattle.fst_records.proofs.Tests.{counts_or, same_by, same_by-itself, same_by-same}

-- exchanges, told apart by their codes
pub exchange_code : Coded Exchange
exchange_code = code_by (EndName × (Bool × (Event × (ℕ × ℕ))))
    (coded× end_code (coded× coded_bool (coded× event_code (coded× coded_ℕ coded_ℕ))))
    (λ g. (g.end, (g.sends, (g.event, (g.stamp, g.clock)))))
    (λ p. record { end = p.0; sends = p.1.0; event = p.1.1.0; stamp = p.1.1.1.0; clock = p.1.1.1.1 }) (λ g. refl)

-- how tasks begin
pub birth_code : Coded Birth
birth_code = code_by (Path × (State × (ℕ × (ℕ × ℕ))))
    (coded× (coded_list coded_ℕ) (coded× state_code (coded× coded_ℕ (coded× coded_ℕ coded_ℕ))))
    (λ b. (b.path, (b.first.state, (b.first.made, (b.first.forked, b.first.clock)))))
    (λ p. record { path = p.0; first = record { state = p.1.0; made = p.1.1.0; forked = p.1.1.1.0; clock = p.1.1.1.1 } })
    (λ b. refl)

-- a deed as its kind and its channel
abbrev deed_said : Deed → ℕ × (Path × ℕ)
deed_said stepped = (0, ([], 0))
deed_said made = (1, ([], 0))
deed_said forked = (2, ([], 0))
deed_said (sent h) = (3, (h.maker, h.count))
deed_said (got h) = (4, (h.maker, h.count))

-- the deed of a kind
abbrev deed_of : ℕ → Path × ℕ → Deed
deed_of zero h = stepped
deed_of (suc zero) h = made
deed_of (suc (suc zero)) h = forked
deed_of (suc (suc (suc zero))) h = sent (record { maker = h.0; count = h.1 })
deed_of (suc (suc (suc (suc n)))) h = got (record { maker = h.0; count = h.1 })

deed_back : (d : Deed) → deed_of (deed_said d).0 (deed_said d).1 ≡ d
deed_back stepped = refl
deed_back made = refl
deed_back forked = refl
deed_back (sent h) = refl
deed_back (got h) = refl

-- the parts of tasks in events
pub part_code : Coded Part
part_code = code_by (Path × ((ℕ × (Path × ℕ)) × ℕ))
    (coded× (coded_list coded_ℕ) (coded× (coded× coded_ℕ (coded× (coded_list coded_ℕ) coded_ℕ)) coded_ℕ))
    (λ r. (r.path, (deed_said r.deed, r.stamp)))
    (λ p. record { path = p.0; deed = deed_of p.1.0.0 p.1.0.1; stamp = p.1.1 })
    (λ r i. record { path = r.path; deed = deed_back r.deed i; stamp = r.stamp })

module _ {A : Type 0} (c : Coded A) where
  -- 1 for this thing alone
  pub just : A → A → ℕ
  just x y = once (same_by c x y)

  -- a thing counts as itself
  pub just_itself : (x : A) → just x x ≡ 1
  unfolding just
  just_itself x = ap once (same_by-itself c x x refl)

  -- a thing that counts is the same
  pub just_same : (x y : A) → 0 < just x y → x ≡ y
  unfolding just
  just_same x y n = by (counts_or (x ≡ y) (same_by c x y) (same_by-same c x y))
    where
      by : ((x ≡ y) × (once (same_by c x y) ≡ 1)) ⊎ (once (same_by c x y) ≡ 0) → x ≡ y
      by (inl q) = q.0
      by (inr z) = absurd (omega (arith, n, z))
