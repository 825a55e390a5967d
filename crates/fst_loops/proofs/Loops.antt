-- What leads where.
use Rattle.std.proofs.Common.{◌≡◌, ℕ, ◌⊎◌, inl, inr, List, sym, subst}
use Rattle.fst_loops.specs.Graphs.{Leads, edge, along}

pub leads_trans : {g : List (List ℕ)} {x y z : ℕ} → Leads g x y → Leads g y z → Leads g x z
leads_trans (edge x y m) h = along x y _ m h
leads_trans (along x w y m r) h = along x w _ m (leads_trans r h)

-- the same node, or one that leads there
pub same_or_leads : {g : List (List ℕ)} {x y z : ℕ} → (x ≡ y) ⊎ Leads g x y → Leads g y z → Leads g x z
same_or_leads {g} {x} {y} {z} (inl e) h = subst (λ (t : ℕ). Leads g t z) (sym e) h
same_or_leads (inr r) h = leads_trans r h

pub leads_or_same : {g : List (List ℕ)} {x y z : ℕ} → Leads g x y → (y ≡ z) ⊎ Leads g y z → Leads g x z
leads_or_same {g} {x} {y} {z} h (inl e) = subst (λ (t : ℕ). Leads g x t) e h
leads_or_same h (inr r) = leads_trans h r
