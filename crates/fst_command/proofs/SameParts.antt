-- What two modules have in common that one source stands for.
use Rattle.std.proofs.Common.{◌≡◌, ◌∙◌, ℕ, List, [], ◌∷◌, ◌++◌, map, slice_get, Bool, true, false, Option, Some, None, refl, sym, ap}
use Rattle.std.specs.Prelude.{option_map, codes, cond}
use Rattle.std.specs.Str.{bytes_eq}
use Rattle.std.proofs.lemmas.Option.{slice_get-map}
use Rattle.fst_base.proofs.Options.{mapped_some}
use Rattle.fst_types.specs.declared.family.Family.{Family}
use Rattle.fst_types.specs.declared.family.Maker.{Maker}
use Rattle.fst_terms.specs.InRange.{maker_of, maker_named}
use Rattle.fst_terms.specs.declared.core_module.Module.{Module}
use Rattle.fst_terms.specs.declared.global.GlobalEntry.{GlobalEntry}
use Rattle.fst_machine.specs.Machine.{name_of}
use Rattle.fst_machine.specs.Programs.{bodies, main_body}
use Rattle.fst_names.specs.Modules.{family_parts, global_parts}
use Rattle.fst_names.specs.ResolvedModule.{AreSame}

-- the parts of a constructor
abbrev pub maker_parts : Maker → List ℕ × List ℕ
maker_parts o = (o.name, o.fields.items)

-- modules are the same in either order
pub same_back : (m n : Module) → AreSame m n → AreSame n m
same_back m n s = record { types = sym s.types; places = sym s.places; families = sym s.families; globals = sym s.globals }

-- ---- lists whose items have the same parts

-- the items at one place
pub same_there : {A B : Type 0} (v : A → B) (xs ys : List A) → map v xs ≡ map v ys → (k : ℕ) (x : A) → slice_get xs k ≡ Some x →
    (y : A) × (slice_get ys k ≡ Some y) × (v y ≡ v x)
same_there v xs ys e k x h = mapped_some v (slice_get ys k) (v x)
    (sym (slice_get-map v ys k) ∙ ap (λ zs. slice_get zs k) (sym e) ∙ slice_get-map v xs k ∙ ap (option_map v) h)

-- what is determined by the parts of the items, one after the other
pub same_fold : {A B C : Type 0} (v : A → B) (f : List A → C) (g : A → C → C) →
    ((x : A) (xs : List A) → f (x ∷ xs) ≡ g x (f xs)) → ((x y : A) → v x ≡ v y → (c : C) → g x c ≡ g y c) →
    (xs ys : List A) → map v xs ≡ map v ys → f xs ≡ f ys
same_fold v f g step same [] [] e = refl
same_fold v f g step same [] (y ∷ ys) e = absurd (cc e)
same_fold v f g step same (x ∷ xs) [] e = absurd (cc e)
same_fold v f g step same (x ∷ xs) (y ∷ ys) e =
    let first : v x ≡ v y = cc in
    let tail : map v xs ≡ map v ys = cc in
    step x xs ∙ same x y first (f xs) ∙ ap (g y) (same_fold v f g step same xs ys tail) ∙ sym (step y ys)

-- so are their values, one for each item
pub same_map : {A B C : Type 0} (v : A → B) (f : B → C) (xs ys : List A) → map v xs ≡ map v ys → map (λ x. f (v x)) xs ≡ map
    (λ x. f (v x)) ys
same_map v f = same_fold v (map (λ x. f (v x))) (λ x l. f (v x) ∷ l) (λ x xs. refl) (λ x y e l. λ i. f (e i) ∷ l)

-- what holds of all items, one after the other, and so of those that have the same parts
pub all_along : {A B : Type 0} (v : A → B) (P R : List A → Type 0) (Q S : A → Type 0) → R [] →
    ((x : A) (xs : List A) → P (x ∷ xs) → Q x × P xs) → ((x : A) (xs : List A) → S x → R xs → R (x ∷ xs)) →
    ((x y : A) → v x ≡ v y → Q x → S y) → (xs ys : List A) → map v xs ≡ map v ys → P xs → R ys
all_along v P R Q S none parts whole same [] [] e h = none
all_along v P R Q S none parts whole same [] (y ∷ ys) e h = absurd (cc e)
all_along v P R Q S none parts whole same (x ∷ xs) [] e h = absurd (cc e)
all_along v P R Q S none parts whole same (x ∷ xs) (y ∷ ys) e h =
    let first : v x ≡ v y = cc in
    let tail : map v xs ≡ map v ys = cc in
    let here = parts x xs h in
    whole y ys (same x y first here.0) (all_along v P R Q S none parts whole same xs ys tail here.1)

-- the same of one property
pub same_all : {A B : Type 0} (v : A → B) (P : List A → Type 0) (Q : A → Type 0) → P [] →
    ((x : A) (xs : List A) → P (x ∷ xs) → Q x × P xs) → ((x : A) (xs : List A) → Q x → P xs → P (x ∷ xs)) →
    ((x y : A) → v x ≡ v y → Q x → Q y) → (xs ys : List A) → map v xs ≡ map v ys → P xs → P ys
same_all v P Q = all_along v P P Q Q

-- a list that is cut at an item, and one with the same parts
pub record Cut {A B : Type 0} (v : A → B) (before : List A) (x : A) (after ys : List A) : Type 0 where
  pub front : List A
  pub item : A
  pub rest : List A
  pub stands : ys ≡ front ++ item ∷ rest
  pub fronts : map v before ≡ map v front
  pub items : v x ≡ v item
  pub rests : map v after ≡ map v rest

-- so is one with the same parts
pub same_cut : {A B : Type 0} (v : A → B) (before : List A) (x : A) (after ys : List A) → map v (before ++ x ∷ after) ≡ map v ys →
    Cut v before x after ys
same_cut v [] x after [] e = absurd (cc e)
same_cut v [] x after (y ∷ ys) e = record {
  front = [];
  item = y;
  rest = ys;
  stands = refl;
  fronts = refl;
  items = cc;
  rests =
      cc;
}
same_cut v (z ∷ zs) x after [] e = absurd (cc e)
same_cut v (z ∷ zs) x after (y ∷ ys) e =
    let first : v z ≡ v y = cc in
    let tail : map v (zs ++ x ∷ after) ≡ map v ys = cc in
    let c = same_cut v zs x after ys tail in
    record {
      front = y ∷ c.front;
      item = c.item;
      rest = c.rest;
      stands = λ i. y ∷ c.stands i;
      fronts =
          λ i. first i ∷ c.fronts i;
      items = c.items;
      rests = c.rests;
    }

-- ---- constructors

-- the constructor with this name
pub same_named : (l : List ℕ) (os ps : List Maker) → map maker_parts os ≡ map maker_parts ps →
    (o : Maker) → maker_named l os ≡ Some o → (p : Maker) × (maker_named l ps ≡ Some p) × (maker_parts p ≡ maker_parts o)
same_named l [] ps e o h = absurd (cc h)
same_named l (x ∷ os) [] e o h = absurd (cc e)
same_named l (x ∷ os) (y ∷ ps) e o h =
    let first : maker_parts x ≡ maker_parts y = cc in
    let tail : map maker_parts os ≡ map maker_parts ps = cc in
    by first (same_named l os ps tail o) (bytes_eq l x.name) refl
  where
    by : maker_parts x ≡ maker_parts y → (maker_named l os ≡ Some o → (p : Maker) × (maker_named l ps ≡ Some p) ×
        (maker_parts p ≡ maker_parts o)) →
        (b : Bool) → bytes_eq l x.name ≡ b → (p : Maker) × (maker_named l (y ∷ ps) ≡ Some p) × (maker_parts p ≡ maker_parts o)
    by first later true f =
        let is : x ≡ o = cc (f, h) in
        let here : bytes_eq l y.name ≡ true = ap (bytes_eq l) (sym (ap (λ z. z.0) first)) ∙ f in
        (y, rw here refl, sym first ∙ ap maker_parts is)
    by first later false f =
        let c = later (rw f at h) in
        let here : bytes_eq l y.name ≡ false = ap (bytes_eq l) (sym (ap (λ z. z.0) first)) ∙ f in
        (c.0, rw here c.1, c.2)

module _ (fs gs : List Family) (alike : map family_parts fs ≡ map family_parts gs) where
  -- the constructor of these numbers
  pub same_maker : (n k : ℕ) (o : Maker) → maker_of (slice_get fs n) k ≡ Some o → (p : Maker) ×
      (maker_of (slice_get gs n) k ≡ Some p) × (maker_parts p ≡ maker_parts o)
  same_maker n k o h = by (slice_get fs n) refl h
    where
      by : (f : Option Family) → slice_get fs n ≡ f → maker_of f k ≡ Some o → (p : Maker) ×
          (maker_of (slice_get gs n) k ≡ Some p) × (maker_parts p ≡ maker_parts o)
      by None e h = absurd (cc h)
      by (Some f) e h =
          let g = same_there family_parts fs gs alike n f e in
          let p = same_there maker_parts f.makers.items g.0.makers.items (sym (ap (λ z. z.1) g.2)) k o h in
          (p.0, ap (λ z. maker_of z k) g.1 ∙ p.1, p.2)

-- constructors have the same names
pub same_names : (fs gs : List Family) → map family_parts fs ≡ map family_parts gs → (n k : ℕ) → name_of fs n k ≡ name_of gs n k
same_names fs gs alike n k = by (maker_of (slice_get fs n) k) refl (maker_of (slice_get gs n) k) refl
  where
    by : (o : Option Maker) → maker_of (slice_get fs n) k ≡ o →
        (p : Option Maker) → maker_of (slice_get gs n) k ≡ p → option_map (λ m. m.name) o ≡ option_map (λ m. m.name) p
    by None e None f = refl
    by (Some o) e p f = let q = same_maker fs gs alike n k o e in ap Some (sym (ap (λ z. z.0) q.2))
        ∙ ap (option_map (λ m. m.name)) (sym q.1 ∙ f)
    by None e (Some p) f = let q = same_maker gs fs (sym alike) n k p f in ap (option_map (λ m. m.name)) (sym e ∙ q.1)
        ∙ ap Some (ap (λ z. z.0) q.2)

-- ---- globals

-- their bodies
pub same_bodies : (gs hs : List GlobalEntry) → map global_parts gs ≡ map global_parts hs → bodies gs ≡ bodies hs
same_bodies = same_fold global_parts bodies (λ g l. g.body ∷ l) (λ g gs. refl) (λ g h e l. λ i. (e i).body ∷ l)

-- that of main
pub same_main : (gs hs : List GlobalEntry) → map global_parts gs ≡ map global_parts hs → main_body gs ≡ main_body hs
same_main =
    same_fold global_parts main_body (λ g o. cond (bytes_eq g.name (codes "main")) (Some g.body) o) (λ g gs. refl)
    (λ g h e o. λ i. cond (bytes_eq (e i).name (codes "main")) (Some (e i).body) o)
