-- A record without events is the beginning.
use Rattle.std.proofs.Common.{◌≡◌, ◌∙◌, ℕ, List, [], ◌∷◌, Some, None, refl, sym, ap, subst, arith}
use Rattle.std.specs.Prelude.{sum_by, All, if◌then◌else◌}
use Rattle.std.proofs.lemmas.List.Elements.{All-nil, All-cons, All-head, All-tail}
use Rattle.std.proofs.lemmas.List.Sums.{sum_by-cons}
use Rattle.fst_types.specs.Tree.{Tree}
use Rattle.fst_types.specs.declared.event.ChannelHistory.{ChannelHistory}
use Rattle.fst_terms.specs.CoreTree.{CoreTree}
use Rattle.fst_machine.specs.Machine.{Program}
use Rattle.fst_runs.specs.declared.log.LogEntry.{LogEntry}
use Rattle.fst_runs.specs.Configs.{same_path, started}
use Rattle.fst_runs.specs.Logs.{Birth, Follows, births, openings, Opening}
use Rattle.fst_records.specs.Records.{Course, began, bears, main_birth, opens, FitsRecord, IsLogged, config_of}
use Rattle.fst_records.specs.Parts.{part_by, parts_by, AreEvents}
use Rattle.fst_records.proofs.Codes.{just, just_itself, just_same, birth_code}
use Rattle.fst_records.proofs.Deeds.{one_deed}
use Rattle.fst_records.proofs.LogEntries.{part_is}
use Rattle.fst_records.proofs.Sums.{sum_none}

-- the task has logged nothing
abbrev pub IsIdle : Course → Type 0
IsIdle y = y.log ≡ []

idle_one : (m : Program) (types : List Tree) (y : Course) → IsLogged m types y → parts_by (λ r. 1) y ≡ 0 → IsIdle y
idle_one m types y l z = go y.log refl
  where
    go : (es : List LogEntry) → y.log ≡ es → es ≡ []
    go [] q = refl
    go (e ∷ es) q =
        let f = subst (λ l. Follows m y.path y.first l y.now) q l.follows in
        let d = one_deed y.path y.first e.stamp e.asked e.answer f.0.is_answered in
        let a = part_is (λ r. 1) y.path e d.0 d.1 in
        let b = ap (λ (l : List LogEntry). sum_by (part_by (λ r. 1) y.path) l) q in
        let c = sum_by-cons (part_by (λ r. 1) y.path) e es in
        absurd (omega (arith, a, b, c, z))

-- where logs have no part, all tasks are idle
pub idle_all : (m : Program) (types : List Tree) (ys : List Course) → All (IsLogged m types) ys →
    sum_by (parts_by (λ r. 1)) ys ≡ 0 →
    All IsIdle ys
idle_all m types [] logs z = All-nil IsIdle
idle_all m types (y ∷ ys) logs z =
    let a = sum_by-cons (parts_by (λ r. 1)) y ys in
    All-cons IsIdle y ys (idle_one m types y (All-head (IsLogged m types) y ys logs) (omega (arith, a, z)))
    (idle_all m types ys (All-tail (IsLogged m types) y ys logs) (omega (arith, a, z)))

-- one task and no channel, begun so
is_begun : (m : Program) (main : CoreTree) (y : Course) → began y ≡ main_birth main → Follows m y.path y.first [] y.now →
    config_of (y ∷ []) [] ≡ started main
is_begun m main y b f i = record {
  tasks = λ q. if same_path (ap (λ (b : Birth). b.path) b i) q then Some ((f ∙ ap (λ (b : Birth). b.first) b) i) else None;
  channels = λ h. None;
}

no_channels : (ks : List ChannelHistory) → sum_by (λ (k : ChannelHistory). 1) ks ≡ 0 → ks ≡ []
no_channels [] z = refl
no_channels (k ∷ ks) z = let a = sum_by-cons (λ (k : ChannelHistory). 1) k ks in absurd (omega (arith, a, z))

module _ (m : Program) (types : List Tree) (main : CoreTree) where
  one_begun : (ys : List Course) → All (IsLogged m types) ys → All IsIdle ys →
      ((w : Birth → ℕ) → sum_by (λ (x : Course). w (began x)) ys ≡ w (main_birth main)) → config_of ys [] ≡ started main
  one_begun [] logs idle h = let a = h (λ b. 1) in absurd (omega (arith, a))
  one_begun (y ∷ z ∷ ys) logs idle h =
      let a = h (λ b. 1) in
      let b = sum_by-cons (λ (x : Course). 1) y (z ∷ ys) in
      let c = sum_by-cons (λ (x : Course). 1) z ys in
      absurd (omega (arith, a, b, c))
  one_begun (y ∷ []) logs idle h =
      let w = just birth_code (main_birth main) in
      let a = h w in
      let b = just_itself birth_code (main_birth main) in
      let c = sum_by-cons (λ (x : Course). w (began x)) y [] in
      let q : main_birth main ≡ began y = just_same birth_code (main_birth main) (began y) (omega (arith, a, b, c)) in
      is_begun m main y (sym q)
      (subst (λ l. Follows m y.path y.first l y.now) (All-head IsIdle y [] idle) (All-head (IsLogged m types) y [] logs).follows)

  -- where no log has an entry, the tasks and channels are those of the beginning
  pub base : (ys : List Course) (ks : List ChannelHistory) → FitsRecord m types (main_birth main) ys ks → AreEvents ys [] →
      config_of ys ks ≡ started main
  base ys ks fits events =
      let z = events (λ r. 1) in
      let idle = idle_all m types ys fits.logs (sym z) in
      let none : ks ≡ [] = no_channels ks
      (let a = fits.channels (λ n t. 1) in
      let b = sum_none (opens types (λ n t. 1)) IsIdle
      (λ y q. ap (λ (l : List LogEntry). sum_by (λ (o : Opening). 1) (openings types l)) q) ys idle in
      omega (arith, a, b)) in
      ap (config_of ys) none
      ∙ one_begun ys fits.logs idle (λ w.
      let a = fits.births w in
      let b = sum_none (bears m w) IsIdle (λ y q. ap (λ (l : List LogEntry). sum_by w (births m y.path y.first l)) q) ys idle in
      omega (arith, a, b))
