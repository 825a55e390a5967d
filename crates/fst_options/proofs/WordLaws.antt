-- The words of the commands.
use Rattle.std.proofs.Common.{◌≡◌, ◌∙◌, ℕ, ◌≤◌, List, [], ◌∷◌, Bool, false, None, refl, sym, ap, subst, arith}
use Rattle.std.specs.Prelude.{Some, codes}
use Rattle.std.specs.Option.{unwrap_or}
use Rattle.fst_base.specs.Limits.{most_made}
use Rattle.fst_options.specs.declared.given.Given.{Given}
use Rattle.fst_options.specs.declared.settings.Setting.TheVariants.{Budget, Buffer, Steps, Workers}
use Rattle.fst_options.specs.Words.{budget, steps, default_budget, default_steps, default_workers, none_given, Give, AreEquivOptions, AreCheckOptions, AreRunOptions, AreBufferOptions, IsOneNumber, IsNamed, Command, equiv, show, check, run, buffered, make, audit, IsCommand, NoCommand, IsWithin}
use Rattle.fst_options.proofs.SettingLaws.{one_number}
use Rattle.fst_options.proofs.GivenLaws.{given_within, one_giving, or_within}

-- ---- one list of options

one_equiv : (ws : List (List ℕ)) (b d : ℕ) (p q : Bool) → AreEquivOptions ws b p → AreEquivOptions ws d q → (b ≡ d) × (p ≡ q)
one_equiv ws b d p q k l =
    let same = one_giving k.count l.count none_given ws k.values l.values k.give l.give in (
      k.budget ∙ ap (λ (g : Given). unwrap_or g.budget default_budget) same ∙ sym l.budget,
      k.proof ∙ ap (λ (g : Given). g.proof) same ∙ sym l.proof,
    )

one_check : (ws : List (List ℕ)) (b d : ℕ) → AreCheckOptions ws b → AreCheckOptions ws d → b ≡ d
one_check ws b d k l =
    let same = one_giving k.count l.count none_given ws k.values l.values k.give l.give in
    k.budget ∙ ap (λ (g : Given). unwrap_or g.budget default_budget) same ∙ sym l.budget

one_run : (ws : List (List ℕ)) (s t w v b d : ℕ) (e f : Bool) → AreRunOptions ws s w b e → AreRunOptions ws t v d f →
    (s ≡ t) × (w ≡ v) × (b ≡ d) × (e ≡ f)
one_run ws s t w v b d e f p q =
    let same = one_giving p.count q.count none_given ws p.values q.values p.give q.give in (
      p.steps ∙ ap (λ (g : Given). unwrap_or g.steps default_steps) same ∙ sym q.steps,
      p.workers ∙ ap (λ (g : Given). unwrap_or g.workers default_workers) same ∙ sym q.workers,
      p.budget ∙ ap (λ (g : Given). unwrap_or g.budget default_budget) same ∙ sym q.budget,
      p.events ∙ ap (λ (g : Given). g.events) same ∙ sym q.events,
    )

one_buffered : (ws : List (List ℕ)) (s t c k b d : ℕ) → AreBufferOptions ws s c b → AreBufferOptions ws t k d →
    (s ≡ t) × (c ≡ k) × (b ≡ d)
one_buffered ws s t c k b d p q =
    let same = one_giving p.count q.count none_given ws p.values q.values p.give q.give in
    let capacity : Some c ≡ Some k = sym p.capacity ∙ ap (λ (g : Given). g.buffer) same ∙ q.capacity in (
      p.steps ∙ ap (λ (g : Given). unwrap_or g.steps default_steps) same ∙ sym q.steps,
      cc capacity,
      p.budget ∙ ap (λ (g : Given). unwrap_or g.budget default_budget) same ∙ sym q.budget,
    )

-- no words ask for a run with channels that hold events and for one without
not_both : (ws : List (List ℕ)) (s w b t k d : ℕ) (e : Bool) → AreRunOptions ws s w b e → AreBufferOptions ws t k d → ⊥
not_both ws s w b t k d e p q =
    let same = one_giving p.count q.count none_given ws p.values q.values p.give q.give in
    absurd (cc (sym p.no_buffer ∙ ap (λ (g : Given). g.buffer) same ∙ q.capacity))

-- ---- one command

-- the first byte of a text
abbrev initial : List ℕ → ℕ
initial [] = 0
initial (c ∷ cs) = c

-- what holds of the words behind a name
both_named : (name : List ℕ) (P Q : List (List ℕ) → Type 0) (ws : List (List ℕ)) → IsNamed name P ws → IsNamed name Q ws →
    (rest : List (List ℕ)) × P rest × Q rest
both_named name P Q [] p q = absurd p
both_named name P Q (w ∷ ws) p q = (ws, p.1, q.1)

-- the first byte of a command's name
abbrev mark : Command → ℕ
mark (equiv b p) = initial (codes "equiv")
mark show = initial (codes "show")
mark (check b) = initial (codes "check")
mark (run s w b e) = initial (codes "run")
mark (buffered s k b) = initial (codes "run")
mark (make n) = initial (codes "make")
mark audit = initial (codes "audit")

-- the words of a command begin with its name
head_mark : (w : List ℕ) (ws : List (List ℕ)) (c : Command) → IsCommand (w ∷ ws) c → initial w ≡ mark c
head_mark w ws (equiv b p) q = ap initial q.0
head_mark w ws show q = ap initial q.0
head_mark w ws (check b) q = ap initial q.0
head_mark w ws (run s v b e) q = ap initial q.0
head_mark w ws (buffered s k b) q = ap initial q.0
head_mark w ws (make n) q = ap initial q.0
head_mark w ws audit q = ap initial q.0

-- so there are some
no_words : (c : Command) → IsCommand [] c → ⊥
no_words (equiv b p) q = q
no_words show q = q
no_words (check b) q = q
no_words (run s w b e) q = q
no_words (buffered s k b) q = q
no_words (make n) q = q
no_words audit q = q

-- the names of two commands with the same words begin alike
same_mark : (ws : List (List ℕ)) (c d : Command) → IsCommand ws c → IsCommand ws d → mark c ≡ mark d
same_mark [] c d p q = absurd (no_words c p)
same_mark (w ∷ ws) c d p q = sym (head_mark w ws c p) ∙ head_mark w ws d q

-- words are those of at most one command
pub one_command : (ws : List (List ℕ)) (c d : Command) → IsCommand ws c → IsCommand ws d → c ≡ d
one_command ws (equiv b p) (equiv d q) k l =
    let both = both_named (codes "equiv") (λ rest. AreEquivOptions rest b p) (λ rest. AreEquivOptions rest d q) ws k l in
    let same = one_equiv both.0 b d p q both.1 both.2 in
    λ i. equiv (same.0 i) (same.1 i)
one_command ws show show k l = refl
one_command ws (check m) (check n) k l =
    let both = both_named (codes "check") (λ rest. AreCheckOptions rest m) (λ rest. AreCheckOptions rest n) ws k l in
    ap check (one_check both.0 m n both.1 both.2)
one_command ws (run s w b e) (run t v d f) k l =
    let both = both_named (codes "run") (λ rest. AreRunOptions rest s w b e) (λ rest. AreRunOptions rest t v d f) ws k l in
    let same = one_run both.0 s t w v b d e f both.1 both.2 in
    λ i. run (same.0 i) (same.1 i) (same.2 i) (same.3 i)
one_command ws (buffered s c b) (buffered t r d) k l =
    let both = both_named (codes "run") (λ rest. AreBufferOptions rest s c b) (λ rest. AreBufferOptions rest t r d) ws k l in
    let same = one_buffered both.0 s t c r b d both.1 both.2 in
    λ i. buffered (same.0 i) (same.1 i) (same.2 i)
one_command ws (run s w b e) (buffered t r d) k l =
    let both = both_named (codes "run") (λ rest. AreRunOptions rest s w b e) (λ rest. AreBufferOptions rest t r d) ws k l in
    absurd (not_both both.0 s w b t r d e both.1 both.2)
one_command ws (buffered s c b) (run t v d f) k l =
    let both = both_named (codes "run") (λ rest. AreBufferOptions rest s c b) (λ rest. AreRunOptions rest t v d f) ws k l in
    absurd (not_both both.0 t v d s c b f both.2 both.1)
one_command ws (make m) (make n) k l =
    let both = both_named (codes "make") (λ rest. IsOneNumber 0 most_made rest m)
    (λ rest. IsOneNumber 0 most_made rest n) ws k l in
    ap make (one_number 0 most_made both.0 m n both.1 both.2)
one_command ws audit audit k l = refl
one_command ws (equiv b p) show k l = absurd (omega (arith, same_mark ws (equiv b p) show k l))
one_command ws (equiv b p) (check d) k l = absurd (omega (arith, same_mark ws (equiv b p) (check d) k l))
one_command ws (equiv b p) (run t v d f) k l = absurd (omega (arith, same_mark ws (equiv b p) (run t v d f) k l))
one_command ws (equiv b p) (buffered t r d) k l = absurd (omega (arith, same_mark ws (equiv b p) (buffered t r d) k l))
one_command ws (equiv b p) (make m) k l = absurd (omega (arith, same_mark ws (equiv b p) (make m) k l))
one_command ws (equiv b p) audit k l = absurd (omega (arith, same_mark ws (equiv b p) audit k l))
one_command ws show (equiv d q) k l = absurd (omega (arith, same_mark ws show (equiv d q) k l))
one_command ws show (check d) k l = absurd (omega (arith, same_mark ws show (check d) k l))
one_command ws show (run t v d f) k l = absurd (omega (arith, same_mark ws show (run t v d f) k l))
one_command ws show (buffered t r d) k l = absurd (omega (arith, same_mark ws show (buffered t r d) k l))
one_command ws show (make m) k l = absurd (omega (arith, same_mark ws show (make m) k l))
one_command ws show audit k l = absurd (omega (arith, same_mark ws show audit k l))
one_command ws (check b) (equiv d q) k l = absurd (omega (arith, same_mark ws (check b) (equiv d q) k l))
one_command ws (check b) show k l = absurd (omega (arith, same_mark ws (check b) show k l))
one_command ws (check b) (run t v d f) k l = absurd (omega (arith, same_mark ws (check b) (run t v d f) k l))
one_command ws (check b) (buffered t r d) k l = absurd (omega (arith, same_mark ws (check b) (buffered t r d) k l))
one_command ws (check b) (make m) k l = absurd (omega (arith, same_mark ws (check b) (make m) k l))
one_command ws (check b) audit k l = absurd (omega (arith, same_mark ws (check b) audit k l))
one_command ws (run s w b e) (equiv d q) k l = absurd (omega (arith, same_mark ws (run s w b e) (equiv d q) k l))
one_command ws (run s w b e) show k l = absurd (omega (arith, same_mark ws (run s w b e) show k l))
one_command ws (run s w b e) (check d) k l = absurd (omega (arith, same_mark ws (run s w b e) (check d) k l))
one_command ws (run s w b e) (make m) k l = absurd (omega (arith, same_mark ws (run s w b e) (make m) k l))
one_command ws (run s w b e) audit k l = absurd (omega (arith, same_mark ws (run s w b e) audit k l))
one_command ws (buffered s c b) (equiv d q) k l = absurd (omega (arith, same_mark ws (buffered s c b) (equiv d q) k l))
one_command ws (buffered s c b) show k l = absurd (omega (arith, same_mark ws (buffered s c b) show k l))
one_command ws (buffered s c b) (check d) k l = absurd (omega (arith, same_mark ws (buffered s c b) (check d) k l))
one_command ws (buffered s c b) (make m) k l = absurd (omega (arith, same_mark ws (buffered s c b) (make m) k l))
one_command ws (buffered s c b) audit k l = absurd (omega (arith, same_mark ws (buffered s c b) audit k l))
one_command ws (make n) (equiv d q) k l = absurd (omega (arith, same_mark ws (make n) (equiv d q) k l))
one_command ws (make n) show k l = absurd (omega (arith, same_mark ws (make n) show k l))
one_command ws (make n) (check d) k l = absurd (omega (arith, same_mark ws (make n) (check d) k l))
one_command ws (make n) (run t v d f) k l = absurd (omega (arith, same_mark ws (make n) (run t v d f) k l))
one_command ws (make n) (buffered t r d) k l = absurd (omega (arith, same_mark ws (make n) (buffered t r d) k l))
one_command ws (make n) audit k l = absurd (omega (arith, same_mark ws (make n) audit k l))
one_command ws audit (equiv d q) k l = absurd (omega (arith, same_mark ws audit (equiv d q) k l))
one_command ws audit show k l = absurd (omega (arith, same_mark ws audit show k l))
one_command ws audit (check d) k l = absurd (omega (arith, same_mark ws audit (check d) k l))
one_command ws audit (run t v d f) k l = absurd (omega (arith, same_mark ws audit (run t v d f) k l))
one_command ws audit (buffered t r d) k l = absurd (omega (arith, same_mark ws audit (buffered t r d) k l))
one_command ws audit (make m) k l = absurd (omega (arith, same_mark ws audit (make m) k l))

-- ---- what the code finds

-- words that give something else too are no options of `equiv`
pub no_equiv_options : (k : ℕ) (ws : List (List ℕ)) (g : Given) → Give k none_given ws g →
    (g.steps ≡ None → g.workers ≡ None → g.buffer ≡ None → g.events ≡ false → ⊥) →
    (b : ℕ) (p : Bool) → AreEquivOptions ws b p → ⊥
no_equiv_options k ws g is none b p q =
    let same = one_giving q.count k none_given ws q.values g q.give is in
    none (subst (λ (v : Given). v.steps ≡ None) same q.no_steps) (subst (λ (v : Given). v.workers ≡ None) same q.no_workers)
    (subst (λ (v : Given). v.buffer ≡ None) same q.no_buffer) (subst (λ (v : Given). v.events ≡ false) same q.no_events)

-- nor of `check`
pub no_check_options : (k : ℕ) (ws : List (List ℕ)) (g : Given) → Give k none_given ws g →
    (g.steps ≡ None → g.workers ≡ None → g.buffer ≡ None → g.events ≡ false → g.proof ≡ false → ⊥) →
    (b : ℕ) → AreCheckOptions ws b → ⊥
no_check_options k ws g is none b q =
    let same = one_giving q.count k none_given ws q.values g q.give is in
    none (subst (λ (v : Given). v.steps ≡ None) same q.no_steps) (subst (λ (v : Given). v.workers ≡ None) same q.no_workers)
    (subst (λ (v : Given). v.buffer ≡ None) same q.no_buffer) (subst (λ (v : Given). v.events ≡ false) same q.no_events)
    (subst (λ (v : Given). v.proof ≡ false) same q.no_proof)

-- words behind `equiv` that aren't its options are no command's
pub no_equiv : (ws rest : List (List ℕ)) → ws ≡ codes "equiv" ∷ rest → ((b : ℕ) (p : Bool) →
    AreEquivOptions rest b p → ⊥) → NoCommand ws
no_equiv ws rest is none c p = by c (subst (λ us. IsCommand us c) is p)
  where
    by : (c : Command) → IsCommand (codes "equiv" ∷ rest) c → ⊥
    by show q = absurd (omega (arith, head_mark (codes "equiv") rest show q))
    by (check b) q = absurd (omega (arith, head_mark (codes "equiv") rest (check b) q))
    by (run s w b e) q = absurd (omega (arith, head_mark (codes "equiv") rest (run s w b e) q))
    by (buffered s k b) q = absurd (omega (arith, head_mark (codes "equiv") rest (buffered s k b) q))
    by (make n) q = absurd (omega (arith, head_mark (codes "equiv") rest (make n) q))
    by audit q = absurd (omega (arith, head_mark (codes "equiv") rest audit q))
    by (equiv b p) q = none b p q.1

-- words behind `check` that aren't its options are no command's
pub no_check : (ws rest : List (List ℕ)) → ws ≡ codes "check" ∷ rest → ((b : ℕ) → AreCheckOptions rest b → ⊥) → NoCommand ws
no_check ws rest is none c p = by c (subst (λ us. IsCommand us c) is p)
  where
    by : (c : Command) → IsCommand (codes "check" ∷ rest) c → ⊥
    by (equiv b p) q = absurd (omega (arith, head_mark (codes "check") rest (equiv b p) q))
    by show q = absurd (omega (arith, head_mark (codes "check") rest show q))
    by (run s w b e) q = absurd (omega (arith, head_mark (codes "check") rest (run s w b e) q))
    by (buffered s k b) q = absurd (omega (arith, head_mark (codes "check") rest (buffered s k b) q))
    by (make n) q = absurd (omega (arith, head_mark (codes "check") rest (make n) q))
    by audit q = absurd (omega (arith, head_mark (codes "check") rest audit q))
    by (check b) q = none b q.1

-- words behind `run` that are neither kind of options are no command's
no_options : (rest : List (List ℕ)) → ((s w b : ℕ) (e : Bool) → AreRunOptions rest s w b e → ⊥) →
    ((s k b : ℕ) → AreBufferOptions rest s k b → ⊥) → NoCommand (codes "run" ∷ rest)
no_options rest runs buffers (equiv b p) q = absurd (omega (arith, head_mark (codes "run") rest (equiv b p) q))
no_options rest runs buffers show q = absurd (omega (arith, head_mark (codes "run") rest show q))
no_options rest runs buffers (check b) q = absurd (omega (arith, head_mark (codes "run") rest (check b) q))
no_options rest runs buffers (make n) q = absurd (omega (arith, head_mark (codes "run") rest (make n) q))
no_options rest runs buffers audit q = absurd (omega (arith, head_mark (codes "run") rest audit q))
no_options rest runs buffers (run s w b e) q = runs s w b e q.1
no_options rest runs buffers (buffered s k b) q = buffers s k b q.1

-- so are those that ask for a proof
pub run_without_proof : (k : ℕ) (rest : List (List ℕ)) (g : Given) → Give k none_given rest g → (g.proof ≡ false → ⊥) →
    NoCommand (codes "run" ∷ rest)
run_without_proof k rest g is none = no_options rest
    (λ s w b e q. none (subst (λ (v : Given). v.proof ≡ false)
    (one_giving q.count k none_given rest q.values g q.give is) q.no_proof))
    (λ s c b q. none (subst (λ (v : Given). v.proof ≡ false)
    (one_giving q.count k none_given rest q.values g q.give is) q.no_proof))

-- and those that set how many events a channel holds, and workers too, or ask for events
pub buffered_alone : (k c : ℕ) (rest : List (List ℕ)) (g : Given) → Give k none_given rest g → g.buffer ≡ Some c →
    (g.workers ≡ None → g.events ≡ false → ⊥) → NoCommand (codes "run" ∷ rest)
buffered_alone k c rest g is some none = no_options rest
    (λ s w b e q. absurd (cc (sym some ∙ subst (λ (v : Given). v.buffer ≡ None)
    (one_giving q.count k none_given rest q.values g q.give is) q.no_buffer)))
    (λ s d b q. let same = one_giving q.count k none_given rest q.values g q.give is in
    none (subst (λ (v : Given). v.workers ≡ None) same q.no_workers) (subst (λ (v : Given). v.events ≡ false) same q.no_events))

-- words behind `make` that aren't just its number are no command's
pub no_make : (ws rest : List (List ℕ)) → ws ≡ codes "make" ∷ rest → ((n : ℕ) → IsOneNumber 0 most_made rest n → ⊥) → NoCommand ws
no_make ws rest is none c p = by c (subst (λ us. IsCommand us c) is p)
  where
    by : (c : Command) → IsCommand (codes "make" ∷ rest) c → ⊥
    by (equiv b p) q = absurd (omega (arith, head_mark (codes "make") rest (equiv b p) q))
    by show q = absurd (omega (arith, head_mark (codes "make") rest show q))
    by (check b) q = absurd (omega (arith, head_mark (codes "make") rest (check b) q))
    by (run s w b e) q = absurd (omega (arith, head_mark (codes "make") rest (run s w b e) q))
    by (buffered s k b) q = absurd (omega (arith, head_mark (codes "make") rest (buffered s k b) q))
    by audit q = absurd (omega (arith, head_mark (codes "make") rest audit q))
    by (make n) q = none n q.1

-- words that begin with no command's name are no command's
pub no_name : (ws : List (List ℕ)) → ((rest : List (List ℕ)) → ws ≡ codes "show" ∷ rest → ⊥) →
    ((rest : List (List ℕ)) → ws ≡ codes "audit" ∷ rest → ⊥) →
    ((rest : List (List ℕ)) → ws ≡ codes "equiv" ∷ rest → ⊥) →
    ((rest : List (List ℕ)) → ws ≡ codes "check" ∷ rest → ⊥) →
    ((rest : List (List ℕ)) → ws ≡ codes "run" ∷ rest → ⊥) →
    ((rest : List (List ℕ)) → ws ≡ codes "make" ∷ rest → ⊥) → NoCommand ws
no_name [] shows audits equivs checks runs makes c p = no_words c p
no_name (w ∷ ws) shows audits equivs checks runs makes (equiv b p) q = equivs ws (ap (λ v. v ∷ ws) q.0)
no_name (w ∷ ws) shows audits equivs checks runs makes show q = shows ws (ap (λ v. v ∷ ws) q.0)
no_name (w ∷ ws) shows audits equivs checks runs makes (check b) q = checks ws (ap (λ v. v ∷ ws) q.0)
no_name (w ∷ ws) shows audits equivs checks runs makes (run s v b e) q = runs ws (ap (λ v. v ∷ ws) q.0)
no_name (w ∷ ws) shows audits equivs checks runs makes (buffered s k b) q = runs ws (ap (λ v. v ∷ ws) q.0)
no_name (w ∷ ws) shows audits equivs checks runs makes (make n) q = makes ws (ap (λ v. v ∷ ws) q.0)
no_name (w ∷ ws) shows audits equivs checks runs makes audit q = audits ws (ap (λ v. v ∷ ws) q.0)

-- ---- what commands have

budget_within : (ws : List (List ℕ)) (k : ℕ) (g : Given) (b : ℕ) → Give k none_given ws g →
    b ≡ unwrap_or g.budget default_budget → (1 ≤ b) × (b ≤ budget.most)
budget_within ws k g b p is = or_within Budget k ws g b default_budget p is (omega arith) (omega arith)

steps_within : (ws : List (List ℕ)) (k : ℕ) (g : Given) (s : ℕ) → Give k none_given ws g →
    s ≡ unwrap_or g.steps default_steps → (0 ≤ s) × (s ≤ steps.most)
steps_within ws k g s p is = or_within Steps k ws g s default_steps p is (omega arith) (omega arith)

-- the values of a command are in their ranges
pub within : (ws : List (List ℕ)) (c : Command) → IsCommand ws c → IsWithin c
within [] c p = absurd (no_words c p)
within (w ∷ ws) (equiv b p) (is, q) = (budget_within ws q.count q.values b q.give q.budget).0
within (w ∷ ws) show p = tt
within (w ∷ ws) (check b) (is, q) = (budget_within ws q.count q.values b q.give q.budget).0
within (w ∷ ws) (run s v b e) (is, q) =
    let of_workers = or_within Workers q.count ws q.values v default_workers q.give q.workers (omega arith) (omega arith) in (
      (steps_within ws q.count q.values s q.give q.steps).1,
      of_workers.0,
      of_workers.1,
      (budget_within ws q.count q.values b q.give q.budget).0,
    )
within (w ∷ ws) (buffered s k b) (is, q) =
    let of_buffer = given_within Buffer q.count ws q.values k q.give q.capacity in (
      (steps_within ws q.count q.values s q.give q.steps).1,
      of_buffer.0,
      of_buffer.1,
      (budget_within ws q.count q.values b q.give q.budget).0,
    )
within (w ∷ ws) (make n) p = p.1.number.at_most
within (w ∷ ws) audit p = tt
