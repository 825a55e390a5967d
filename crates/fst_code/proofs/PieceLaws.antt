-- Small pieces of code.
use Rattle.std.proofs.Common.{◌≡◌, ◌∙◌, ◌<◌, ◌≤◌, ◌+◌, ℕ, zero, suc, Bool, true, false, List, [], ◌∷◌, length, get_or, drop, inl, inr, refl, sym, ap, subst, arith}
use Rattle.std.proofs.lemmas.List.{drop_more}
use Rattle.std.specs.Prelude.{Some, slice_get}
use Rattle.fst_machine.specs.declared.entry.LambdaEntry.{LambdaEntry}
use Rattle.fst_machine.specs.declared.code.Instr.TheVariants as instr
use Rattle.fst_machine.specs.Code.{also, Compiled, Binds, Captures, Clears, Lists, dropped, load}
use Rattle.fst_code.specs.Marks.{marked}
use Rattle.fst_machine.specs.Standing.{LeadsBelow}
use Rattle.fst_code.specs.Written.{ComesTo, Closes, Drops, Enters, Extends, Forgot, Loads, Pushes, closing, top}
use Rattle.fst_code.proofs.Extended.{extends_both, extends_same, kept_at, kept_captures, kept_clears, kept_comes}

pub enters_used : (c d : Compiled) (b : Bool) → b ≡ true → Pushes c d instr.Bind → Enters c d b
enters_used c d b e p = record {
  extends = p.extends;
  entries = p.entries;
  there = subst (λ z. Binds d (top d) z (top c)) (sym e) p.there;
}

pub enters_unused : (c m n d : Compiled) → Pushes c m instr.Drop → Pushes m n (instr.Take zero) → Pushes n d instr.Bind →
    Enters c d false
enters_unused c m n d p q r = record {
  extends = extends_both p.extends (extends_both q.extends r.extends);
  entries = r.entries ∙ q.entries ∙ p.entries;
  there = (
    top n,
    top m,
    r.there,
    kept_at r.extends (top n) (instr.Take zero) (top m) q.there,
    kept_at (extends_both q.extends r.extends) (top m) instr.Drop (top c) p.there,
  );
}

pub loads_none : (c : Compiled) (p : ℕ → Bool) → Loads c c [] p
loads_none c p = record { extends = extends_same c c refl refl refl; entries = refl; there = refl }

pub loads_more : (c m d : Compiled) (k : ℕ) (ks : List ℕ) (p : ℕ → Bool) → Loads c m ks p → Pushes m d (load (p k) k) →
    Loads c d (k ∷ ks) p
loads_more c m d k ks p l h = record {
  extends = extends_both l.extends h.extends;
  entries = h.entries ∙ l.entries;
  there = (top m, h.there, kept_captures h.extends (top m) ks p (top c) l.there);
}

pub drops_none : (c : Compiled) → Drops c c []
drops_none c = record { extends = extends_same c c refl refl refl; entries = refl; there = refl }

pub drops_one : (c m d : Compiled) (k : ℕ) → Pushes c m instr.Drop → Pushes m d (instr.Take k) → Drops c d (k ∷ [])
drops_one c m d k p q = record {
  extends = extends_both p.extends q.extends;
  entries = q.entries ∙ p.entries;
  there = (top m, top c, q.there, kept_at q.extends (top m) instr.Drop (top c) p.there, refl);
}

pub drops_more : (c m d : Compiled) (k : ℕ) (ks : List ℕ) → Drops c m ks → Drops m d (k ∷ []) → Drops c d (k ∷ ks)
drops_more c m d k ks l h = record {
  extends = extends_both l.extends h.extends;
  entries = h.entries ∙ l.entries;
  there = (
    h.there.0,
    h.there.1,
    h.there.2,
    h.there.3,
    kept_clears h.extends h.there.1 ks (top c) (subst (λ z. Clears m z ks (top c)) (sym h.there.4) l.there),
  );
}

-- what is left of a list is one more at the place before
pub drop_before : {X : Type 0} (xs : List X) (i n : ℕ) (x : X) → i < length xs → n ≡ i + 1 → x ≡ get_or xs i x →
    drop i xs ≡ x ∷ drop n xs
drop_before xs i n x h e g = drop_more xs i x h ∙ ap (λ z. z ∷ drop (i + 1) xs) (sym g) ∙ ap (λ z. x ∷ drop z xs) (sym e)

pub forgot_from : (c m d : Compiled) (ks : List ℕ) (q f p : ℕ → Bool) (j : ℕ) → Lists ks (dropped q f p) → ComesTo c m j →
    Drops m d ks → Forgot c d (top d) q f p j
forgot_from c m d ks q f p j l to h = record {
  extends = extends_both to.extends h.extends;
  entries = h.entries ∙ to.entries;
  forgets = record {
    variables = ks;
    listed = l;
    last = top m;
    clears = h.there;
    comes =
        kept_comes h.extends (top m) j to.there;
  };
  within = omega arith;
}

pub forgot_none : (c : Compiled) (ks : List ℕ) (q f p : ℕ → Bool) (j : ℕ) → ks ≡ [] → Lists ks (dropped q f p) → j ≤ top c →
    Forgot c c j q f p j
forgot_none c ks q f p j e l h = record {
  extends = extends_same c c refl refl refl;
  entries = refl;
  forgets = record {
    variables = [];
    listed = subst (λ z. Lists z (dropped q f p)) e l;
    last = j;
    clears = refl;
    comes =
        inl refl;
  };
  within = h;
}

pub comes_jump : (c d : Compiled) (j : ℕ) → Pushes c d (instr.Jump j) → ComesTo c d j
comes_jump c d j p = record {
  extends = p.extends;
  entries = p.entries;
  there = inr (record { behind = top c; jump = p.there });
}

pub comes_here : (c : Compiled) (j : ℕ) → top c ≡ j → ComesTo c c j
comes_here c j e = record { extends = extends_same c c refl refl refl; entries = refl; there = inl e }

pub load_names : (b : Bool) (k j : ℕ) → LeadsBelow j (load b k)
load_names true k j = tt
load_names false k j = tt

pub closing_names : (b : Bool) (l j : ℕ) → LeadsBelow j (closing b l)
closing_names true l j = tt
closing_names false l j = tt

-- a function or a task of a body
pub closes_from : (c c1 c2 c3 d : Compiled) (ms ns : List Bool) (is_task : Bool) (used : ℕ → Bool) (j l : ℕ) (ks : List ℕ) →
    Lists ks used →
    Extends c c1 → length c1.lambdas ≡ suc (length c.lambdas) → c1.code ≡ c.code →
    ((e : LambdaEntry) × (slice_get c1.lambdas l ≡ Some e) × (e.start ≡ top c) × (e.captured.items ≡ ks)) →
    Pushes c1 c2 (instr.Jump j) → Pushes c2 c3 (closing is_task l) → Loads c3 d ks (marked ms) →
    marked ns ≡ also used (marked ms) → length ns ≡ length ms →
    Closes c ms d ns is_task (top c) used j
closes_from c c1 c2 c3 d ms ns is_task used j l ks lists x one same entry jump make loads marks deep = record {
  extends = extends_both x x1;
  entries = ap length (loads.entries ∙ make.entries ∙ jump.entries) ∙ one;
  number = l;
  entry = entry.0;
  above = top c3;
  behind = top c2;
  there = x1.lambdas l entry.0 entry.1;
  starts = entry.2;
  lists = subst (λ z. Lists z used) (sym entry.3) lists;
  captures = subst (λ z. Captures d (top d) z (marked ms) (top c3)) (sym entry.3) loads.there;
  makes = kept_at loads.extends (top c3) (closing is_task l) (top c2) make.there;
  leads = record {
    behind = top c1;
    jump = kept_at (extends_both make.extends loads.extends) (top c2) (instr.Jump j)
        (top c1) jump.there;
  };
  marks = marks;
  deep = deep;
}
  where
    x1 : Extends c1 d
    x1 = extends_both jump.extends (extends_both make.extends loads.extends)
