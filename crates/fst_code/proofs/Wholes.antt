-- A term from its parts, as they were read.
use Rattle.std.proofs.Common.{◌≡◌, ◌∙◌, List, Bool, subst}
use Rattle.fst_terms.specs.CoreTree.{CoreTree}
use Rattle.fst_machine.specs.Code.{Compiled}
use Rattle.fst_code.specs.Written.{Leaves, Writes}

pub whole_one : (f : CoreTree → CoreTree) → {t a A : CoreTree} → f a ≡ t → A ≡ a → f A ≡ t
whole_one f w x = (λ i. f (x i)) ∙ w

pub whole_two : (f : CoreTree → CoreTree → CoreTree) → {t a b A B : CoreTree} → f a b ≡ t → A ≡ a → B ≡ b → f A B ≡ t
whole_two f w x y = (λ i. f (x i) (y i)) ∙ w

pub whole_three : (f : CoreTree → CoreTree → CoreTree → CoreTree) → {t a b o A B O : CoreTree} → f a b o ≡ t → A ≡ a → B ≡ b →
    O ≡ o → f A B O ≡ t
whole_three f w x y z = (λ i. f (x i) (y i) (z i)) ∙ w

pub written_as : {c d : Compiled} {ms ns : List Bool} {s t : CoreTree} → s ≡ t → Writes c ms d ns s → Writes c ms d ns t
written_as {c} {d} {ms} {ns} e h = subst (λ z. Writes c ms d ns z) e h

pub left_as : {c d : Compiled} {ms ns : List Bool} {s t e : CoreTree} → s ≡ t → Leaves c ms d ns s e → Leaves c ms d ns t e
left_as {c} {d} {ms} {ns} {s} {t} {e} w h = subst (λ z. Leaves c ms d ns z e) w h
