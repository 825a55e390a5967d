-- States of tasks as codes, by which they are told apart.
use Rattle.std.specs.Prelude.{◌≡◌, ℕ, [], refl, ◌==◌, if◌then◌else◌}
use Rattle.std.proofs.Common.{sym, ◌∙◌, ap}
use base.Stored.{Coded, Gv, gnil, gnum, gcons, num}
use Rattle.fst_types.specs.ModelCode.{name_code, name_at, name_at-name_code}
use Rattle.fst_terms.specs.ModelParts.{list_code, list_at, list_at-list_code, int_code, int_at, int_at-int_code, bool_code, bool_at, bool_at-bool_code, op_code, op_at, op_at-op_code}
use Rattle.fst_terms.specs.ModelCoreCode.{code_of, tree_at, tree_at-code_of, code_of_terms, terms_at, terms_at-code_of_terms, code_of_arms, arms_at, arms_at-code_of_arms}
use Rattle.fst_value.specs.CellCode.{is_left, side_at, side_at-is_left}
use Rattle.fst_types.specs.declared.ends.EndName.{EndName}
use Rattle.fst_machine.specs.Values.{Value, int, bool, char, unit, pair, made, function, end, Values, no_values, value, Environment, none, hole, slot}
use Rattle.fst_machine.specs.Machine.{State, Frame, at_function, at_argument, at_first, at_second, at_field, at_let, at_split, at_if, at_case, at_left, at_right, at_not, at_value, at_target, at_receive, at_close, at_wait, at_select, at_match, at_seq}

-- ---- ends

-- an end as a code: its channel's maker and count, and whether it is the left one
abbrev end_code : EndName → Gv
end_code x = gcons (name_code x.channel.maker) (gcons (gnum x.channel.count) (bool_code (is_left x.side)))

-- the end of a code
abbrev end_at : Gv → EndName
end_at (gcons p (gcons n s)) = record { channel = record { maker = name_at p; count = num n }; side = side_at (bool_at s) }
end_at _ = record { channel = record { maker = []; count = 0 }; side = side_at (bool_at gnil) }

end_at-end_code : (x : EndName) → end_at (end_code x) ≡ x
end_at-end_code x = λ i. record {
  channel = record { maker = name_at-name_code x.channel.maker i; count = x.channel.count };
  side = (ap side_at (bool_at-bool_code (is_left x.side)) ∙ side_at-is_left x.side) i;
}

-- ---- values

-- a node: a number for its kind, and three parts
abbrev node : ℕ → Gv → Gv → Gv → Gv
node tag x y z = gcons (gnum tag) (gcons x (gcons y z))

abbrev mutual
  -- a value as a code
  value_code : Value → Gv
  value_code (int n) = node 0 (int_code n) gnil gnil
  value_code (bool b) = node 1 (bool_code b) gnil gnil
  value_code (char c) = node 2 (gnum c) gnil gnil
  value_code unit = node 3 gnil gnil gnil
  value_code (pair v w) = node 4 (value_code v) (value_code w) gnil
  value_code (made n o vs) = node 5 (gnum n) (gnum o) (values_code vs)
  value_code (function e env) = node 6 (code_of e) gnil (env_code env)
  value_code (end x) = node 7 (end_code x) gnil gnil

  -- values
  values_code : Values → Gv
  values_code no_values = gnil
  values_code (value v vs) = gcons (value_code v) (values_code vs)

  -- an environment
  env_code : Environment → Gv
  env_code none = gnil
  env_code (hole env) = gcons gnil (env_code env)
  env_code (slot v env) = gcons (value_code v) (env_code env)

-- the value of a node, whose parts are these
abbrev value_node : ℕ → Gv → Gv → Value → Value → Values → Environment → Value
value_node tag x y v w vs env =
    if tag == 0 then int (int_at x) else
    if tag == 1 then bool (bool_at x) else
    if tag == 2 then char (num x) else
    if tag == 3 then unit else
    if tag == 4 then pair v w else
    if tag == 5 then made (num x) (num y) vs else
    if tag == 6 then function (tree_at x) env else
    end (end_at x)

-- an environment with one more variable, which has no value where its code is nothing
abbrev env_node : Gv → Value → Environment → Environment
env_node gnil v env = hole env
env_node (gnum n) v env = hole env
env_node (gcons x y) v env = slot v env

abbrev mutual
  -- the value of a code
  value_at : Gv → Value
  value_at (gcons n (gcons x (gcons y z))) = value_node (num n) x y (value_at x) (value_at y) (values_at z) (env_at z)
  value_at _ = unit

  -- its values
  values_at : Gv → Values
  values_at gnil = no_values
  values_at (gnum n) = no_values
  values_at (gcons v vs) = value (value_at v) (values_at vs)

  -- its environment
  env_at : Gv → Environment
  env_at gnil = none
  env_at (gnum n) = none
  env_at (gcons x g) = env_node x (value_at x) (env_at g)

slot_at : (v : Value) (env : Environment) →
    env_at (gcons (value_code v) (env_code env)) ≡ slot (value_at (value_code v)) (env_at (env_code env))
slot_at (int n) env = refl
slot_at (bool b) env = refl
slot_at (char c) env = refl
slot_at unit env = refl
slot_at (pair v w) env = refl
slot_at (made n o vs) env = refl
slot_at (function e k) env = refl
slot_at (end x) env = refl

mutual
  value_back : (v : Value) → value_at (value_code v) ≡ v
  value_back (int n) = ap int (int_at-int_code n)
  value_back (bool b) = ap bool (bool_at-bool_code b)
  value_back (char c) = refl
  value_back unit = refl
  value_back (pair v w) = λ i. pair (value_back v i) (value_back w i)
  value_back (made n o vs) = ap (made n o) (values_back vs)
  value_back (function e env) = λ i. function (tree_at-code_of e i) (env_back env i)
  value_back (end x) = ap end (end_at-end_code x)

  values_back : (vs : Values) → values_at (values_code vs) ≡ vs
  values_back no_values = refl
  values_back (value v vs) = λ i. value (value_back v i) (values_back vs i)

  env_back : (env : Environment) → env_at (env_code env) ≡ env
  env_back none = refl
  env_back (hole env) = ap hole (env_back env)
  env_back (slot v env) = slot_at v env ∙ (λ i. slot (value_back v i) (env_back env i))

-- ---- what waits

-- a node with five parts
abbrev wide : ℕ → Gv → Gv → Gv → Gv → Gv → Gv
wide tag a b c d e = gcons (gnum tag) (gcons a (gcons b (gcons c (gcons d e))))

-- what waits for a value, as a code
abbrev frame_code : Frame → Gv
frame_code (at_function e env) = wide 0 (code_of e) (env_code env) gnil gnil gnil
frame_code (at_argument v) = wide 1 (value_code v) gnil gnil gnil gnil
frame_code (at_first e env) = wide 2 (code_of e) (env_code env) gnil gnil gnil
frame_code (at_second v) = wide 3 (value_code v) gnil gnil gnil gnil
frame_code (at_field n o done es env) = wide 4 (gnum n) (gnum o) (values_code done) (code_of_terms es) (env_code env)
frame_code (at_let e env) = wide 5 (code_of e) (env_code env) gnil gnil gnil
frame_code (at_split e env) = wide 6 (code_of e) (env_code env) gnil gnil gnil
frame_code (at_if e f env) = wide 7 (code_of e) (env_code env) (code_of f) gnil gnil
frame_code (at_case bs env) = wide 8 (code_of_arms bs) (env_code env) gnil gnil gnil
frame_code (at_left o e env) = wide 9 (code_of e) (env_code env) (op_code o) gnil gnil
frame_code (at_right o v) = wide 10 (value_code v) (op_code o) gnil gnil gnil
frame_code at_not = wide 11 gnil gnil gnil gnil gnil
frame_code (at_value e env) = wide 12 (code_of e) (env_code env) gnil gnil gnil
frame_code (at_target v) = wide 13 (value_code v) gnil gnil gnil gnil
frame_code at_receive = wide 14 gnil gnil gnil gnil gnil
frame_code at_close = wide 15 gnil gnil gnil gnil gnil
frame_code at_wait = wide 16 gnil gnil gnil gnil gnil
frame_code (at_select l) = wide 17 (name_code l) gnil gnil gnil gnil
frame_code (at_match bs env) = wide 18 (code_of_arms bs) (env_code env) gnil gnil gnil
frame_code (at_seq e env) = wide 19 (code_of e) (env_code env) gnil gnil gnil

-- what waits, by its node's parts
abbrev frame_node : ℕ → Gv → Gv → Gv → Gv → Gv → Frame
frame_node tag a b c d e =
    if tag == 0 then at_function (tree_at a) (env_at b) else
    if tag == 1 then at_argument (value_at a) else
    if tag == 2 then at_first (tree_at a) (env_at b) else
    if tag == 3 then at_second (value_at a) else
    if tag == 4 then at_field (num a) (num b) (values_at c) (terms_at d) (env_at e) else
    if tag == 5 then at_let (tree_at a) (env_at b) else
    if tag == 6 then at_split (tree_at a) (env_at b) else
    if tag == 7 then at_if (tree_at a) (tree_at c) (env_at b) else
    if tag == 8 then at_case (arms_at a) (env_at b) else
    if tag == 9 then at_left (op_at (num c)) (tree_at a) (env_at b) else
    if tag == 10 then at_right (op_at (num b)) (value_at a) else
    if tag == 11 then at_not else
    if tag == 12 then at_value (tree_at a) (env_at b) else
    if tag == 13 then at_target (value_at a) else
    if tag == 14 then at_receive else
    if tag == 15 then at_close else
    if tag == 16 then at_wait else
    if tag == 17 then at_select (name_at a) else
    if tag == 18 then at_match (arms_at a) (env_at b) else
    at_seq (tree_at a) (env_at b)

-- what waits, of a code
abbrev frame_at : Gv → Frame
frame_at (gcons n (gcons a (gcons b (gcons c (gcons d e))))) = frame_node (num n) a b c d e
frame_at _ = at_not

frame_back : (f : Frame) → frame_at (frame_code f) ≡ f
frame_back (at_function e env) = λ i. at_function (tree_at-code_of e i) (env_back env i)
frame_back (at_argument v) = ap at_argument (value_back v)
frame_back (at_first e env) = λ i. at_first (tree_at-code_of e i) (env_back env i)
frame_back (at_second v) = ap at_second (value_back v)
frame_back (at_field n o done es env) = λ i. at_field n o (values_back done i) (terms_at-code_of_terms es i) (env_back env i)
frame_back (at_let e env) = λ i. at_let (tree_at-code_of e i) (env_back env i)
frame_back (at_split e env) = λ i. at_split (tree_at-code_of e i) (env_back env i)
frame_back (at_if e f env) = λ i. at_if (tree_at-code_of e i) (tree_at-code_of f i) (env_back env i)
frame_back (at_case bs env) = λ i. at_case (arms_at-code_of_arms bs i) (env_back env i)
frame_back (at_left o e env) = λ i. at_left (op_at-op_code o i) (tree_at-code_of e i) (env_back env i)
frame_back (at_right o v) = λ i. at_right (op_at-op_code o i) (value_back v i)
frame_back at_not = refl
frame_back (at_value e env) = λ i. at_value (tree_at-code_of e i) (env_back env i)
frame_back (at_target v) = ap at_target (value_back v)
frame_back at_receive = refl
frame_back at_close = refl
frame_back at_wait = refl
frame_back (at_select l) = ap at_select (name_at-name_code l)
frame_back (at_match bs env) = λ i. at_match (arms_at-code_of_arms bs i) (env_back env i)
frame_back (at_seq e env) = λ i. at_seq (tree_at-code_of e i) (env_back env i)

-- ---- states

-- a state as a code
abbrev state_of : State → Gv
state_of s = gcons (code_of s.term) (gcons (env_code s.environment) (list_code frame_code s.frames))

-- the state of a code
abbrev state_at : Gv → State
state_at (gcons e (gcons env fs)) = record { term = tree_at e; environment = env_at env; frames = list_at frame_at fs }
state_at _ = record { term = tree_at gnil; environment = none; frames = [] }

state_back : (s : State) → state_at (state_of s) ≡ s
state_back s = λ i. record {
  term = tree_at-code_of s.term i;
  environment = env_back s.environment i;
  frames = list_at-list_code frame_code frame_at frame_back s.frames i;
}

-- states, told apart by their codes
pub state_code : Coded State
state_code = record { code = state_of; inj = λ x y e. sym (state_back x) ∙ ap state_at e ∙ state_back y }
