-- How the channels by their makers change where one is changed and where one is put behind the others.
use Rattle.std.proofs.Common.{◌≡◌, ◌∙◌, ◌<◌, ℕ, zero, suc, Bool, true, false, cond, Option, Some, None, List, [], ◌∷◌, ◌++◌, refl, sym, ap, subst, get_or, arith}
use Rattle.std.specs.Prelude.{option_map, slice_get, length, nat_eq, slice_set, ◌&&◌, if◌then◌else◌}
use Rattle.std.specs.Str.{bytes_eq}
use Rattle.std.specs.List.{AllByRecursion}
use Rattle.std.specs.Map.{lookup, KeepsOthers}
use Rattle.std.specs.declared.alloc.Global.{Global}
use Rattle.std.specs.declared.vec.Vec.{Vec}
use Rattle.std.proofs.Math.ListN.{length-set}
use Rattle.std.proofs.lemmas.Option.{slice_get-get_or}
use Rattle.std.proofs.lemmas.Bool.Decides.{nat_tests}
use Rattle.fst_base.proofs.Options.{some_same, none_some}
use Rattle.fst_types.specs.declared.ends.ChannelName.{ChannelName}
use Rattle.fst_paths.specs.Paths.{Path, Key, same_key, at_path, put_at, AreInOrder}
use Rattle.fst_paths.specs.ChannelLists.{ChannelLists, listed, made_in, many_in, numbered, named_in, change_channel, put_channel, IsChangedAt}
use Rattle.fst_paths.proofs.PathLaws.{path_same, at_key, at_itself, found_after, put_mapped, AreBehind, in_order, none_found}

-- those of one maker are these, where the map has them there
pub made_after : {X : Type 0} (p : Path) (old new : ChannelLists X) (w : Option (Vec X Global)) → lookup (at_path p) new ≡ w →
    KeepsOthers same_key (at_path p) old new → made_in new ≡ put_at p (listed w) (made_in old)
made_after p old new w here others = λ i q.
    (ap listed (found_after p old new w here others q) ∙ put_mapped listed p w (λ o. lookup (at_path o) old) q) i

-- no channel is in an empty list
pub none_numbered : {X : Type 0} (n : ℕ) → numbered {X = X} [] n ≡ None
none_numbered zero = refl
none_numbered (suc n) = refl

-- a channel in a list by its number
pub numbered_there : {X : Type 0} (js : List X) (k : ℕ) (x : X) → k < length js → x ≡ get_or js k x → numbered js (suc k) ≡ Some x
numbered_there js k x within at = slice_get-get_or js k x within ∙ ap Some (sym at)

-- ---- a channel is changed

module _ {X V : Type 0} (view : X → V) (h : ChannelName) (f : V → V) (old new : ChannelLists X) where
  -- a channel that isn't there isn't changed
  pub unchanged_none : made_in old h.maker ≡ [] → new ≡ old → named_in view new ≡ change_channel h f (named_in view old)
  unchanged_none none is = λ i g. (ap (λ js. named_in view js g) is ∙ by g (bytes_eq h.maker g.maker) refl) i
    where
      same : (b : Bool) (o : Option V) → o ≡ None → o ≡ (if b then option_map f o else o)
      same true o e = e ∙ ap (option_map f) (sym e)
      same false o e = refl

      by : (g : ChannelName) (b : Bool) → bytes_eq h.maker g.maker ≡ b →
          named_in view old g ≡ (if b && nat_eq h.count g.count then option_map f (named_in view old g) else named_in view old g)
      by g true e =
          same (nat_eq h.count g.count) (named_in view old g)
          (ap (λ z. option_map view (numbered z g.count)) (ap (made_in old) (sym (path_same h.maker g.maker e)) ∙ none)
          ∙ ap (option_map view) (none_numbered g.count))
      by g false e = refl

  module _ (p : Path) (v w : Vec X Global) (is : p ≡ h.maker) (there : lookup (at_path p) old ≡ Some v)
      (here : lookup (at_path p) new ≡ Some w)
      (others : KeepsOthers same_key (at_path p) old new) (c : IsChangedAt view h.count f v.items w.items) where
    was : made_in old h.maker ≡ v.items
    was = ap (made_in old) (sym is) ∙ ap listed there

    now : (q : Path) → made_in new q ≡ put_at h.maker w.items (made_in old) q
    now q = ap (λ g. g q) (made_after p old new (Some w) here others) ∙ ap (λ o. put_at o w.items (made_in old) q) is

    -- what is seen of the channel with this name is changed, where it is in the list of its maker
    pub changed_in : named_in view new ≡ change_channel h f (named_in view old)
    changed_in = λ i g. (ap (λ z. option_map view (numbered z g.count)) (now g.maker) ∙ by g (bytes_eq h.maker g.maker) refl) i
      where
        by : (g : ChannelName) (b : Bool) → bytes_eq h.maker g.maker ≡ b →
            option_map view (numbered (if b then w.items else made_in old g.maker) g.count)
            ≡ (if b && nat_eq h.count g.count then option_map f (named_in view old g) else named_in view old g)
        by g true e =
            let there : v.items ≡ made_in old g.maker = sym was ∙ ap (made_in old) (path_same h.maker g.maker e) in
            c.channels g.count
            ∙ ap (λ z. if nat_eq h.count g.count then option_map f (option_map view (numbered z g.count)) else option_map view
            (numbered z g.count)) there
        by g false e = refl

    -- and each maker has as many as before
    pub as_many : many_in new ≡ many_in old
    as_many = λ i q. (ap (λ z. length z) (now q) ∙ by q (bytes_eq h.maker q) refl) i
      where
        by : (q : Path) (b : Bool) → bytes_eq h.maker q ≡ b → length (if b then w.items else made_in old q)
            ≡ length (made_in old q)
        by q true e = c.same_length ∙ ap (λ z. length z) (sym was ∙ ap (made_in old) (path_same h.maker q e))
        by g false e = refl

eq_next : (m n : ℕ) → nat_eq (suc m) (suc n) ≡ nat_eq m n
eq_next m n = grind (arith, nat_tests)

eq_zero : (n : ℕ) → nat_eq zero (suc n) ≡ false
eq_zero n = grind (arith, nat_tests)

eq_suc : (n : ℕ) → nat_eq (suc n) zero ≡ false
eq_suc n = grind (arith, nat_tests)

pick : {V : Type 0} (b c : Bool) (x y : Option V) → b ≡ c → (if c then x else y) ≡ (if b then x else y)
pick b c x y e = ap (λ z. if z then x else y) (sym e)

set_at : {X V : Type 0} (view : X → V) (f : V → V) (x y : X) → view y ≡ f (view x) → (js : List X) (k : ℕ) →
    slice_get js k ≡ Some x → (i : ℕ) →
    option_map view (slice_get (slice_set js k y) i)
    ≡ (if nat_eq k i then option_map f (option_map view (slice_get js i)) else option_map view (slice_get js i))
set_at view f x y e [] k at i = absurd (none_some at)
set_at view f x y e (j ∷ js) zero at zero = ap Some (e ∙ ap (λ z. f (view z)) (sym (some_same at)))
set_at view f x y e (j ∷ js) zero at (suc i) = pick (nat_eq zero (suc i)) false _ _ (eq_zero i)
set_at view f x y e (j ∷ js) (suc k) at zero = pick (nat_eq (suc k) zero) false _ _ (eq_suc k)
set_at view f x y e (j ∷ js) (suc k) at (suc i) = set_at view f x y e js k at i
    ∙ pick (nat_eq (suc k) (suc i)) (nat_eq k i) _ _ (eq_next k i)

-- a list of channels in which one is set is changed there
pub set_changed : {X V : Type 0} (view : X → V) (js : List X) (k : ℕ) (f : V → V) (x y : X) → k < length js →
    x ≡ get_or js k x → view y ≡ f (view x) → IsChangedAt view (suc k) f js (slice_set js k y)
set_changed view js k f x y within at e = record {
  channels = by;
  same_length = length-set js k y;
}
  where
    there : slice_get js k ≡ Some x
    there = numbered_there js k x within at

    by : (i : ℕ) → option_map view (numbered (slice_set js k y) i)
        ≡ (if nat_eq (suc k) i then option_map f (option_map view (numbered js i)) else option_map view (numbered js i))
    by zero = pick (nat_eq (suc k) zero) false None None (eq_suc k)
    by (suc i) = set_at view f x y e js k there i ∙ pick (nat_eq (suc k) (suc i)) (nat_eq k i) _ _ (eq_next k i)

-- ---- a channel is put behind the others

last_at : {X V : Type 0} (view : X → V) (v : List X) (x : X) (i : ℕ) → option_map view (slice_get (v ++ x ∷ []) i)
    ≡ (if nat_eq (length v) i then Some (view x) else option_map view (slice_get v i))
last_at view [] x zero = refl
last_at view [] x (suc i) = pick (nat_eq zero (suc i)) false _ _ (eq_zero i)
last_at view (y ∷ v) x zero = pick (nat_eq (suc (length v)) zero) false _ _ (eq_suc (length v))
last_at view (y ∷ v) x (suc i) = last_at view v x i ∙ pick (nat_eq (suc (length v)) (suc i)) (nat_eq (length v) i) _ _
    (eq_next (length v) i)

-- a list of channels with one more
last_numbered : {X V : Type 0} (view : X → V) (v : List X) (x : X) (n : ℕ) → option_map view (numbered (v ++ x ∷ []) n)
    ≡ (if nat_eq (suc (length v)) n then Some (view x) else option_map view (numbered v n))
last_numbered view v x zero = pick (nat_eq (suc (length v)) zero) false (Some (view x)) None (eq_suc (length v))
last_numbered view v x (suc i) = last_at view v x i ∙ pick (nat_eq (suc (length v)) (suc i)) (nat_eq (length v) i) _ _
    (eq_next (length v) i)

one_longer : {X : Type 0} (v : List X) (x : X) → length (v ++ x ∷ []) ≡ suc (length v)
one_longer [] x = refl
one_longer (y ∷ v) x = ap suc (one_longer v x)

module _ {X V : Type 0} (view : X → V) (p : Path) (x : X) (old new : ChannelLists X)
    (pushed : made_in new ≡ put_at p (made_in old p ++ x ∷ []) (made_in old)) where
  -- a channel is there besides the others where it is put behind those of its maker
  pub added_in : named_in view new ≡ put_channel (record { maker = p; count = suc (many_in old p) }) (view x)
      (named_in view old)
  added_in = λ i g. (ap (λ js. option_map view (numbered (js g.maker) g.count)) pushed ∙ by g (bytes_eq p g.maker) refl) i
    where
      by : (g : ChannelName) (c : Bool) → bytes_eq p g.maker ≡ c →
          option_map view (numbered (if c then made_in old p ++ x ∷ [] else made_in old g.maker) g.count)
          ≡ (if c && nat_eq (suc (length (made_in old p))) g.count then Some (view x) else named_in view old g)
      by g false e = refl
      by g true e =
          let there : made_in old p ≡ made_in old g.maker = ap (made_in old) (path_same p g.maker e) in
          last_numbered view (made_in old p) x g.count
          ∙ ap (λ z. if nat_eq (suc (length (made_in old p))) g.count then Some (view x) else option_map view
          (numbered z g.count)) there

  -- and its maker has one more
  pub one_more_in : many_in new ≡ put_at p (suc (many_in old p)) (many_in old)
  one_more_in = λ i q. (ap (λ js. length (js q)) pushed ∙ by q (bytes_eq p q)) i
    where
      by : (q : Path) (c : Bool) → length (if c then made_in old p ++ x ∷ [] else made_in old q)
          ≡ (if c then suc (length (made_in old p)) else length (made_in old q))
      by q false = refl
      by q true = one_longer (made_in old p) x

-- ---- channels of a map in order

-- those of the path of the first key
pub made_here : {X : Type 0} (e : Key × Vec X Global) (es : ChannelLists X) (p : Path) → at_path p e.0 ≡ true →
    made_in (e ∷ es) p ≡ e.1.items
made_here e es p f = ap (λ b. listed (cond b (Some e.1) (lookup (at_path p) es))) f

-- and of another one
pub made_else : {X : Type 0} (e : Key × Vec X Global) (es : ChannelLists X) (p : Path) → at_path p e.0 ≡ false →
    made_in (e ∷ es) p ≡ made_in es p
made_else e es p f = ap (λ b. listed (cond b (Some e.1) (lookup (at_path p) es))) f

-- no list of channels is longer than is said of each maker's
pub few_each : {X : Type 0} (n : ℕ) (es : ChannelLists X) → 0 < n → AreInOrder es → ((p : Path) → length (made_in es p) < n) →
    AllByRecursion (λ (e : Key × Vec X Global). length e.1.items < n) es
few_each n [] pos o h = tt
few_each {X} n (e ∷ es) pos o h =
    let both = in_order e es o in (
      subst (λ (v : List X). length v < n) (made_here e es e.0.items (at_itself e.0)) (h e.0.items),
      few_each n es pos both.1 (λ p. rest both.0 p (at_path p e.0) refl),
    )
  where
    rest : AreBehind e.0.items es → (p : Path) (b : Bool) → at_path p e.0 ≡ b → length (made_in es p) < n
    rest behind p false f = subst (λ (v : List X). length v < n) (made_else e es p f) (h p)
    rest behind p true f =
        let none : made_in es p ≡ [] = ap (made_in es) (at_key p e.0 f) ∙ ap listed (none_found e.0.items es behind) in
        subst (λ (v : List X). length v < n) (sym none) pos
