-- What words give.
use Rattle.std.proofs.Common.{◌≡◌, ◌∙◌, ◌⊎◌, inl, inr, ℕ, zero, suc, ◌≤◌, List, [], ◌∷◌, length, map, Bool, false, Option, Some, None, refl, sym, ap, subst, arith}
use Rattle.std.specs.Prelude.{◌==◌, MatchOption}
use Rattle.std.specs.Option.{unwrap_or}
use Rattle.std.proofs.lemmas.Bool.Decides.{nat_tests}
use Rattle.fst_options.specs.declared.given.Given.{Given}
use Rattle.fst_options.specs.declared.settings.Setting.{Setting as Set}
use Rattle.fst_options.specs.declared.settings.Setting.TheVariants.{Budget, Buffer, Steps, Workers}
use Rattle.fst_options.specs.declared.settings.Flag.{Flag}
use Rattle.fst_options.specs.declared.settings.Flag.TheVariants.{Events, Proof}
use Rattle.fst_options.specs.Words.{setting_of, name_of, Sets, value_in, give, give_flag, none_given, GivesOne, value, flag, Give}
use Rattle.fst_options.proofs.SettingLaws.{one_flag, one_set, one_setting, no_value_set, none_set}

-- ---- one giving

-- words begin by giving one thing
one_given : (ws : List (List ℕ)) (before a b : Given) (rest others : List (List ℕ)) →
    GivesOne before ws a rest → GivesOne before ws b others → (a ≡ b) × (rest ≡ others)
one_given ws before a b rest others (value o m p first g) (value q n r other h) =
    let same = one_set ws o q m n rest others p r in
    let values = one_setting (setting_of q) ws m n rest others (subst (λ q. Sets (setting_of q) ws m rest) same p) r in
    (g ∙ ap (λ q. give before q m) same ∙ ap (give before q) values.0 ∙ sym h, values.1)
one_given ws before a b rest others (value o m p first g) (flag f e none h) = absurd (no_value_set ws f others e o m rest p)
one_given ws before a b rest others (flag f e none h) (value o m p first g) = absurd (no_value_set ws f rest e o m others p)
one_given ws before a b rest others (flag f e none g) (flag k i other h) =
    let same = one_flag ws f k rest others e i in
    (g ∙ ap (give_flag before) same.0 ∙ sym h, same.1)

-- no words give nothing
none_given_by : (before after : Given) (ws rest : List (List ℕ)) → ws ≡ [] → GivesOne before ws after rest → ⊥
none_given_by before after ws rest e (value o n p first g) = none_set (setting_of o) ws n rest e p
none_given_by before after ws rest e (flag f i none g) = absurd (cc (sym i ∙ e))

-- words give values in one way
pub one_giving : (j k : ℕ) (before : Given) (ws : List (List ℕ)) (a b : Given) → Give j before ws a → Give k before ws b → a ≡ b
one_giving zero zero before ws a b p q = p.1 ∙ sym q.1
one_giving zero (suc k) before ws a b p (next, rest, g, more) = absurd (none_given_by before next ws rest p.0 g)
one_giving (suc j) zero before ws a b (next, rest, g, more) q = absurd (none_given_by before next ws rest q.0 g)
one_giving (suc j) (suc k) before ws a b (next, rest, g, more) (other, others, h, further) =
    let same = one_given ws before other next others rest h g in
    one_giving j k next rest a b more (subst (λ r. Give k next r b) same.1 (subst (λ v. Give k v others b) same.0 further))

-- ---- what the code finds

-- nothing is given by words that begin with no flag and set nothing
pub none_to_give : (ws : List (List ℕ)) (before : Given) → ((f : Flag) (rest : List (List ℕ)) → ws ≡ name_of f ∷ rest → ⊥) →
    ((o : Set) (n : ℕ) (rest : List (List ℕ)) → Sets (setting_of o) ws n rest → ⊥) →
    (after : Given) (rest : List (List ℕ)) → GivesOne before ws after rest → ⊥
none_to_give ws before no_flag none after rest (value o n p first g) = none o n rest p
none_to_give ws before no_flag none after rest (flag f e first g) = no_flag f rest e

-- nothing is given by words that are there and give nothing at first
pub gives_none : (ws : List (List ℕ)) (before : Given) → (ws ≡ [] → ⊥) →
    ((after : Given) (rest : List (List ℕ)) → GivesOne before ws after rest → ⊥) →
    (k : ℕ) (all : Given) → Give k before ws all → ⊥
gives_none ws before some none zero all p = some p.0
gives_none ws before some none (suc k) all (next, rest, g, more) = none next rest g

-- nor by those that are followed by words that give nothing
gives_no_more : (ws : List (List ℕ)) (before after : Given) (rest : List (List ℕ)) → GivesOne before ws after rest →
    ((k : ℕ) (all : Given) → Give k after rest all → ⊥) →
    (k : ℕ) (all : Given) → Give k before ws all → ⊥
gives_no_more ws before after rest p none zero all q = none_given_by before after ws rest q.0 p
gives_no_more ws before after rest p none (suc k) all (next, others, g, more) =
    let same = one_given ws before next after others rest g p in
    none k all (subst (λ r. Give k after r all) same.1 (subst (λ v. Give k v others all) same.0 more))

-- what is told of the words behind is so of all
pub gives_so : (ws : List (List ℕ)) (before after : Given) (rest : List (List ℕ)) (r : Option Given) →
    GivesOne before ws after rest → MatchOption r ((k : ℕ) (all : Given) → Give k after rest all → ⊥)
    (λ all. (k : ℕ) × Give k after rest all) →
    MatchOption r ((k : ℕ) (all : Given) → Give k before ws all → ⊥) (λ all. (k : ℕ) × Give k before ws all)
gives_so ws before after rest None p h = gives_no_more ws before after rest p h
gives_so ws before after rest (Some all) p (k, g) = (suc k, (after, rest, p, g))

pub some_words_left : {A : Type 0} (f : A → List ℕ) (ws : List A) (b : Bool) → b ≡ (length ws == 0) → b ≡ false → map f ws ≡ [] →
    ⊥
some_words_left f [] b test is e = absurd (grind (arith, nat_tests))
some_words_left f (w ∷ ws) b test is e = absurd (cc e)

-- ---- the ranges

-- the values that are given are in their ranges
abbrev AreWithin : Given → Type 0
AreWithin g = (o : Set) (n : ℕ) → value_in g o ≡ Some n → ((setting_of o).least ≤ n) × (n ≤ (setting_of o).most)

-- a value is the one given last, or it was there
value_given : (g : Given) (o q : Set) (n m : ℕ) → value_in (give g o n) q ≡ Some m → ((q ≡ o) × (n ≡ m)) ⊎ (value_in g q ≡ Some m)
value_given g Budget Budget n m e = inl (refl, cc e)
value_given g Buffer Buffer n m e = inl (refl, cc e)
value_given g Steps Steps n m e = inl (refl, cc e)
value_given g Workers Workers n m e = inl (refl, cc e)
value_given g Budget Buffer n m e = inr e
value_given g Budget Steps n m e = inr e
value_given g Budget Workers n m e = inr e
value_given g Buffer Budget n m e = inr e
value_given g Buffer Steps n m e = inr e
value_given g Buffer Workers n m e = inr e
value_given g Steps Budget n m e = inr e
value_given g Steps Buffer n m e = inr e
value_given g Steps Workers n m e = inr e
value_given g Workers Budget n m e = inr e
value_given g Workers Buffer n m e = inr e
value_given g Workers Steps n m e = inr e

one_within : (before : Given) (ws : List (List ℕ)) (next : Given) (rest : List (List ℕ)) → AreWithin before →
    GivesOne before ws next rest → AreWithin next
one_within before ws next rest all (value q n p first g) o m e =
    by (value_given before q o n m (sym (ap (λ v. value_in v o) g) ∙ e))
  where
    by : ((o ≡ q) × (n ≡ m)) ⊎ (value_in before o ≡ Some m) → ((setting_of o).least ≤ m) × (m ≤ (setting_of o).most)
    by (inl r) = subst (λ q. ((setting_of q).least ≤ m) × (m ≤ (setting_of q).most)) (sym r.0)
        (subst (λ k. ((setting_of q).least ≤ k) × (k ≤ (setting_of q).most)) r.1 (p.value.at_least, p.value.at_most))
    by (inr r) = all o m r
one_within before ws next rest all (flag f i first g) o m e =
    all o m (sym (same f o) ∙ sym (ap (λ v. value_in v o) g) ∙ e)
  where
    same : (f : Flag) (o : Set) → value_in (give_flag before f) o ≡ value_in before o
    same Events Budget = refl
    same Events Buffer = refl
    same Events Steps = refl
    same Events Workers = refl
    same Proof Budget = refl
    same Proof Buffer = refl
    same Proof Steps = refl
    same Proof Workers = refl

all_within : (k : ℕ) (before : Given) (ws : List (List ℕ)) (after : Given) → AreWithin before → Give k before ws after →
    AreWithin after
all_within zero before ws after all p = subst AreWithin (sym p.1) all
all_within (suc k) before ws after all (next, rest, g, more) =
    all_within k next rest after (one_within before ws next rest all g) more

none_within : AreWithin none_given
none_within Budget n e = absurd (cc e)
none_within Buffer n e = absurd (cc e)
none_within Steps n e = absurd (cc e)
none_within Workers n e = absurd (cc e)

-- so what words give is in its range
pub given_within : (o : Set) (k : ℕ) (ws : List (List ℕ)) (g : Given) (n : ℕ) → Give k none_given ws g →
    value_in g o ≡ Some n → ((setting_of o).least ≤ n) × (n ≤ (setting_of o).most)
given_within o k ws g n p is = all_within k none_given ws g none_within p o n is

-- and with a default that is, so is what they come to
pub or_within : (o : Set) (k : ℕ) (ws : List (List ℕ)) (g : Given) (n default : ℕ) → Give k none_given ws g →
    n ≡ unwrap_or (value_in g o) default → (setting_of o).least ≤ default → default ≤ (setting_of o).most →
    ((setting_of o).least ≤ n) × (n ≤ (setting_of o).most)
or_within o k ws g n default p is low high = by (value_in g o) refl is
  where
    by : (v : Option ℕ) → value_in g o ≡ v → n ≡ unwrap_or v default → ((setting_of o).least ≤ n) × (n ≤ (setting_of o).most)
    by None none e = (subst (λ k. (setting_of o).least ≤ k) (sym e) low, subst (λ k. k ≤ (setting_of o).most) (sym e) high)
    by (Some m) some e = given_within o k ws g n p (some ∙ ap Some (sym e))
