-- Constants that are collected stay at their numbers, whatever is collected later.
use Rattle.std.proofs.Common.{◌≡◌, ℕ, ◌≤◌, ◌^◌, suc, Bool, true, false, cond, ℤ, List, [], ◌∷◌, length, Option, Some, None, slice_get, refl, sym, ap, subst, arith}
use Rattle.std.proofs.lemmas.Option.{slice_get_within}
use Rattle.tree_core.specs.declared.name.Place.{Place}
use Rattle.tree_core.specs.declared.name.Place.TheVariants.{Unset, Upvalue, GlobalIn, GlobalOf, Local as LocalPlace}
use Rattle.tree_core.specs.Tree.{Block, Falls, Returns, Stats, EndStats, MoreStats, Stat, Local, Assign, CallStat, Do, While, Repeat, If, IfElse, NumFor, NumForStep, GenFor, Arms, EndArms, MoreArms, Exp, Int, Str, Var, Index, Call, Method, Unary, Binary, And, Or, Paren, Table, Exps, EndExps, MoreExps, Fields, EndFields, MoreFields, Field, Item, Keyed}
use Rattle.tree_terms.specs.Asked.{ExpMeets, ExpsMeet, FieldsMeet, FieldMeets, StatMeets, ArmsMeet, StatsMeet}
use Rattle.code_core.specs.declared.proto.Const.{Const}
use Rattle.code_core.specs.declared.proto.Const.TheVariants.{Int as IntConst, Str as StrConst}
use Rattle.code_of.specs.Constants.{same_constant, number_in, with_constant, is_small, with_any, of_name, of_exp, of_exps, of_fields, of_field, of_stat, of_arms, of_stats, of_block, Found}
use Rattle.code_of.specs.ConstantOperands.{any_constant, constant_of, stored_constant}
use Rattle.code_bounds.specs.Constants.{Has, NameHas, BlockHas, ConstantsAreNumbered, all_constants}
use Rattle.code_of.proofs.Constants.{same_int, same_text, same_is}

-- of the kinds that trees have

-- a constant in a list with another one in front

abbrev number_behind : Bool → (n : ℕ) → ℕ
number_behind b n = cond b 0 (suc n)

has_head : (c x : Const) (cs : List Const) → same_constant c x ≡ true → Has (c ∷ cs) x
has_head c x cs h =
    let e : slice_get (c ∷ cs) (number_behind true (number_in cs x)) ≡ Some x = ap Some (same_is c x h) in
    subst (λ b. slice_get (c ∷ cs) (number_behind b (number_in cs x)) ≡ Some x) (sym h) e

has_tail : (c x : Const) (cs : List Const) → same_constant c x ≡ false → Has cs x → Has (c ∷ cs) x
has_tail c x cs h k = subst (λ b. slice_get (c ∷ cs) (number_behind b (number_in cs x)) ≡ Some x) (sym h) k

tail_has : (c x : Const) (cs : List Const) → same_constant c x ≡ false → Has (c ∷ cs) x → Has cs x
tail_has c x cs h k = subst (λ b. slice_get (c ∷ cs) (number_behind b (number_in cs x)) ≡ Some x) h k

with_has : (x : Const) (cs : List Const) → same_constant x x ≡ true → Has (with_constant x cs) x
with_has x [] self = has_head x x [] self
with_has x (c ∷ cs) self = by (with_has x cs self) (same_constant c x) refl
  where
    by : Has (with_constant x cs) x → (b : Bool) → same_constant c x ≡ b → Has (cond b (c ∷ cs) (c ∷ with_constant x cs)) x
    by rest true h = has_head c x cs h
    by rest false h = has_tail c x (with_constant x cs) h rest

int_there : (z : ℤ) (cs : List Const) → Has (with_constant (IntConst z) cs) (IntConst z)
int_there z cs = with_has (IntConst z) cs (same_int z)

text_there : (s : List ℕ) (cs : List Const) → Has (with_constant (StrConst s) cs) (StrConst s)
text_there s cs = with_has (StrConst s) cs (same_text s)

-- what a list has, a later one has too
abbrev pub Keeps : List Const → List Const → Type 0
Keeps cs ds = (x : Const) → Has cs x → Has ds x

pub with_keeps : (y : Const) (cs : List Const) → Keeps cs (with_constant y cs)
with_keeps y [] x h = absurd (cc)
with_keeps y (c ∷ cs) x h = by (with_keeps y cs x) (same_constant c y)
  where
    behind : (Has cs x → Has (with_constant y cs) x) → (b : Bool) → same_constant c x ≡ b → Has (c ∷ with_constant y cs) x
    behind kept true e = has_head c x (with_constant y cs) e
    behind kept false e = has_tail c x (with_constant y cs) e (kept (tail_has c x cs e h))

    by : (Has cs x → Has (with_constant y cs) x) → (b : Bool) → Has (cond b (c ∷ cs) (c ∷ with_constant y cs)) x
    by kept true = h
    by kept false = behind kept (same_constant c x) refl

any_keeps : (o : Option Const) (cs : List Const) → Keeps cs (with_any o cs)
any_keeps None cs x h = h
any_keeps (Some y) cs x h = with_keeps y cs x h

-- a constant that is there is found, where the list has no more than numbers of 25 bits
pub found : (cs : List Const) (x : Const) → length cs ≤ 2 ^ 25 → Has cs x → Found cs x
found cs x short h = let within = slice_get_within cs (number_in cs x) x h in record { near = omega arith; there = h }

keeps_name : (p : Place) (text : List ℕ) (cs : List Const) → Keeps cs (of_name p text cs)
keeps_name Unset text cs x h = h
keeps_name (LocalPlace n) text cs x h = h
keeps_name (Upvalue u) text cs x h = h
keeps_name (GlobalIn n) text cs x h = with_keeps (StrConst text) cs x h
keeps_name (GlobalOf u) text cs x h = with_keeps (StrConst text) cs x h

keeps_int : (z : ℤ) (cs : List Const) → Keeps cs (cond (is_small z) cs (with_constant (IntConst z) cs))
keeps_int z cs x h = by (is_small z)
  where
    by : (b : Bool) → Has (cond b cs (with_constant (IntConst z) cs)) x
    by true = h
    by false = with_keeps (IntConst z) cs x h

mutual
  pub keeps_exp : (e : Exp) (cs : List Const) → Keeps cs (of_exp e cs)
  keeps_exp (Int line z) cs x h = keeps_int z cs x h
  keeps_exp (Str line bytes) cs x h = with_keeps (StrConst bytes) cs x h
  keeps_exp (Var line name) cs x h = keeps_name name.place name.text cs x h
  keeps_exp (Index line object key) cs x h = keeps_exp key (of_exp object cs) x (keeps_exp object cs x h)
  keeps_exp (Call line f es) cs x h = keeps_exps es (of_exp f cs) x (keeps_exp f cs x h)
  keeps_exp (Method line object name es) cs x h =
      keeps_exps es _ x (with_keeps (StrConst name.text) (of_exp object cs) x (keeps_exp object cs x h))
  keeps_exp (Unary line op e) cs x h = keeps_exp e cs x h
  keeps_exp (Binary line op e d) cs x h =
      keeps_exp d (with_any (constant_of op d) (of_exp e cs)) x (any_keeps (constant_of op d) (of_exp e cs) x (keeps_exp e cs x h))
  keeps_exp (And line e d) cs x h = keeps_exp d (of_exp e cs) x (keeps_exp e cs x h)
  keeps_exp (Or line e d) cs x h = keeps_exp d (of_exp e cs) x (keeps_exp e cs x h)
  keeps_exp (Paren line e) cs x h = keeps_exp e cs x h
  keeps_exp (Table line fs) cs x h = keeps_fields fs cs x h
  keeps_exp _ cs x h = h

  pub keeps_exps : (es : Exps) (cs : List Const) → Keeps cs (of_exps es cs)
  keeps_exps EndExps cs x h = h
  keeps_exps (MoreExps e es) cs x h = keeps_exps es (of_exp e cs) x (keeps_exp e cs x h)

  keeps_fields : (fs : Fields) (cs : List Const) → Keeps cs (of_fields fs cs)
  keeps_fields EndFields cs x h = h
  keeps_fields (MoreFields f fs) cs x h = keeps_fields fs (of_field f cs) x (keeps_field f cs x h)

  keeps_field : (f : Field) (cs : List Const) → Keeps cs (of_field f cs)
  keeps_field (Item e) cs x h = keeps_exp e cs x h
  keeps_field (Keyed line e d) cs x h =
      keeps_exp d (with_any (any_constant d) (of_exp e cs)) x (any_keeps (any_constant d) (of_exp e cs) x (keeps_exp e cs x h))

mutual
  keeps_stat : (s : Stat) (cs : List Const) → Keeps cs (of_stat s cs)
  keeps_stat (Local line names es) cs x h = keeps_exps es cs x h
  keeps_stat (Assign line targets es) cs x h =
      keeps_exps es (with_any (stored_constant targets es) (of_exps targets cs)) x (any_keeps (stored_constant targets es) (of_exps targets cs) x (keeps_exps targets cs x h))
  keeps_stat (CallStat line e) cs x h = keeps_exp e cs x h
  keeps_stat (Do line block) cs x h = keeps_block block cs x h
  keeps_stat (While line e block) cs x h = keeps_block block (of_exp e cs) x (keeps_exp e cs x h)
  keeps_stat (Repeat line block e) cs x h = keeps_exp e (of_block block cs) x (keeps_block block cs x h)
  keeps_stat (If line arms) cs x h = keeps_arms arms cs x h
  keeps_stat (IfElse line arms block) cs x h = keeps_block block (of_arms arms cs) x (keeps_arms arms cs x h)
  keeps_stat (NumFor line name from limit block) cs x h =
      keeps_block block (of_exp limit (of_exp from cs)) x (keeps_exp limit (of_exp from cs) x (keeps_exp from cs x h))
  keeps_stat (NumForStep line name from limit step block) cs x h =
      keeps_block block (of_exp step (of_exp limit (of_exp from cs))) x
      (keeps_exp step (of_exp limit (of_exp from cs)) x (keeps_exp limit (of_exp from cs) x (keeps_exp from cs x h)))
  keeps_stat (GenFor line names es block) cs x h = keeps_block block (of_exps es cs) x (keeps_exps es cs x h)
  keeps_stat _ cs x h = h

  keeps_arms : (arms : Arms) (cs : List Const) → Keeps cs (of_arms arms cs)
  keeps_arms EndArms cs x h = h
  keeps_arms (MoreArms e block arms) cs x h =
      keeps_arms arms (of_block block (of_exp e cs)) x (keeps_block block (of_exp e cs) x (keeps_exp e cs x h))

  keeps_stats : (ss : Stats) (cs : List Const) → Keeps cs (of_stats ss cs)
  keeps_stats EndStats cs x h = h
  keeps_stats (MoreStats s ss) cs x h = keeps_stats ss (of_stat s cs) x (keeps_stat s cs x h)

  keeps_block : (b : Block) (cs : List Const) → Keeps cs (of_block b cs)
  keeps_block (Falls ss tokens line) cs x h = keeps_stats ss cs x h
  keeps_block (Returns ss es tokens line) cs x h = keeps_exps es (of_stats ss cs) x (keeps_stats ss cs x h)

-- a list that has what a piece's constants end with has the piece's constants

name_has : (p : Place) (text : List ℕ) (cs ds : List Const) → Keeps (of_name p text cs) ds → NameHas ds p text
name_has Unset text cs ds k = tt
name_has (LocalPlace n) text cs ds k = tt
name_has (Upvalue u) text cs ds k = tt
name_has (GlobalIn n) text cs ds k = k (StrConst text) (text_there text cs)
name_has (GlobalOf u) text cs ds k = k (StrConst text) (text_there text cs)

int_has : (z : ℤ) (cs ds : List Const) → Keeps (cond (is_small z) cs (with_constant (IntConst z) cs)) ds → is_small z ≡ false → Has ds (IntConst z)
int_has z cs ds k great =
    let kept = subst (λ b. Keeps (cond b cs (with_constant (IntConst z) cs)) ds) great k in
    kept (IntConst z) (int_there z cs)

mutual
  pub exp_has : (e : Exp) (cs ds : List Const) → Keeps (of_exp e cs) ds → ExpMeets (all_constants ds) e
  exp_has (Int line z) cs ds k = int_has z cs ds k
  exp_has (Str line bytes) cs ds k = k (StrConst bytes) (text_there bytes cs)
  exp_has (Var line name) cs ds k = name_has name.place name.text cs ds k
  exp_has (Index line object key) cs ds k =
      (exp_has object cs ds (λ x h. k x (keeps_exp key (of_exp object cs) x h)), exp_has key (of_exp object cs) ds k)
  exp_has (Call line f es) cs ds k = (exp_has f cs ds (λ x h. k x (keeps_exps es (of_exp f cs) x h)), exps_have es (of_exp f cs) ds k)
  exp_has (Method line object name es) cs ds k =
      let named = with_constant (StrConst name.text) (of_exp object cs) in
      let kept : Keeps named ds = λ x h. k x (keeps_exps es named x h) in (
        exp_has object cs ds (λ x h. kept x (with_keeps (StrConst name.text) (of_exp object cs) x h)),
        (kept (StrConst name.text) (text_there name.text (of_exp object cs)), exps_have es named ds k),
      )
  exp_has (Unary line op e) cs ds k = exp_has e cs ds k
  exp_has (Binary line op e d) cs ds k =
      let operand = with_any (constant_of op d) (of_exp e cs) in
      let kept : Keeps operand ds = λ x h. k x (keeps_exp d operand x h) in
      (exp_has e cs ds (λ x h. kept x (any_keeps (constant_of op d) (of_exp e cs) x h)), exp_has d operand ds k)
  exp_has (And line e d) cs ds k = (exp_has e cs ds (λ x h. k x (keeps_exp d (of_exp e cs) x h)), exp_has d (of_exp e cs) ds k)
  exp_has (Or line e d) cs ds k = (exp_has e cs ds (λ x h. k x (keeps_exp d (of_exp e cs) x h)), exp_has d (of_exp e cs) ds k)
  exp_has (Paren line e) cs ds k = exp_has e cs ds k
  exp_has (Table line fs) cs ds k = fields_have fs cs ds k
  exp_has _ cs ds k = tt

  pub exps_have : (es : Exps) (cs ds : List Const) → Keeps (of_exps es cs) ds → ExpsMeet (all_constants ds) es
  exps_have EndExps cs ds k = tt
  exps_have (MoreExps e es) cs ds k = (exp_has e cs ds (λ x h. k x (keeps_exps es (of_exp e cs) x h)), exps_have es (of_exp e cs) ds k)

  fields_have : (fs : Fields) (cs ds : List Const) → Keeps (of_fields fs cs) ds → FieldsMeet (all_constants ds) fs
  fields_have EndFields cs ds k = tt
  fields_have (MoreFields f fs) cs ds k = (field_has f cs ds (λ x h. k x (keeps_fields fs (of_field f cs) x h)), fields_have fs (of_field f cs) ds k)

  field_has : (f : Field) (cs ds : List Const) → Keeps (of_field f cs) ds → FieldMeets (all_constants ds) f
  field_has (Item e) cs ds k = exp_has e cs ds k
  field_has (Keyed line e d) cs ds k =
      let value = with_any (any_constant d) (of_exp e cs) in
      let kept : Keeps value ds = λ x h. k x (keeps_exp d value x h) in
      (exp_has e cs ds (λ x h. kept x (any_keeps (any_constant d) (of_exp e cs) x h)), exp_has d value ds k)

mutual
  stat_has : (s : Stat) (cs ds : List Const) → Keeps (of_stat s cs) ds → StatMeets (all_constants ds) s
  stat_has (Local line names es) cs ds k = exps_have es cs ds k
  stat_has (Assign line targets es) cs ds k =
      let value = with_any (stored_constant targets es) (of_exps targets cs) in
      let kept : Keeps value ds = λ x h. k x (keeps_exps es value x h) in
      (exps_have targets cs ds (λ x h. kept x (any_keeps (stored_constant targets es) (of_exps targets cs) x h)), exps_have es value ds k)
  stat_has (CallStat line e) cs ds k = exp_has e cs ds k
  stat_has (Do line block) cs ds k = block_has block cs ds k
  stat_has (While line e block) cs ds k = (exp_has e cs ds (λ x h. k x (keeps_block block (of_exp e cs) x h)), block_has block (of_exp e cs) ds k)
  stat_has (Repeat line block e) cs ds k = (block_has block cs ds (λ x h. k x (keeps_exp e (of_block block cs) x h)), exp_has e (of_block block cs) ds k)
  stat_has (If line arms) cs ds k = arms_have arms cs ds k
  stat_has (IfElse line arms block) cs ds k =
      (arms_have arms cs ds (λ x h. k x (keeps_block block (of_arms arms cs) x h)), block_has block (of_arms arms cs) ds k)
  stat_has (NumFor line name from limit block) cs ds k =
      let first = of_exp from cs in
      let second = of_exp limit first in
      let kept : Keeps second ds = λ x h. k x (keeps_block block second x h) in
      (exp_has from cs ds (λ x h. kept x (keeps_exp limit first x h)), (exp_has limit first ds kept, block_has block second ds k))
  stat_has (NumForStep line name from limit step block) cs ds k =
      let first = of_exp from cs in
      let second = of_exp limit first in
      let third = of_exp step second in
      let kept : Keeps third ds = λ x h. k x (keeps_block block third x h) in
      let kept_two : Keeps second ds = λ x h. kept x (keeps_exp step second x h) in (
        exp_has from cs ds (λ x h. kept_two x (keeps_exp limit first x h)),
        (exp_has limit first ds kept_two, (exp_has step second ds kept, block_has block third ds k)),
      )
  stat_has (GenFor line names es block) cs ds k =
      (exps_have es cs ds (λ x h. k x (keeps_block block (of_exps es cs) x h)), block_has block (of_exps es cs) ds k)
  stat_has _ cs ds k = tt

  arms_have : (arms : Arms) (cs ds : List Const) → Keeps (of_arms arms cs) ds → ArmsMeet (all_constants ds) arms
  arms_have EndArms cs ds k = tt
  arms_have (MoreArms e block arms) cs ds k =
      let first = of_exp e cs in
      let second = of_block block first in
      let kept : Keeps second ds = λ x h. k x (keeps_arms arms second x h) in
      (exp_has e cs ds (λ x h. kept x (keeps_block block first x h)), (block_has block first ds kept, arms_have arms second ds k))

  stats_have : (ss : Stats) (cs ds : List Const) → Keeps (of_stats ss cs) ds → StatsMeet (all_constants ds) ss
  stats_have EndStats cs ds k = tt
  stats_have (MoreStats s ss) cs ds k = (stat_has s cs ds (λ x h. k x (keeps_stats ss (of_stat s cs) x h)), stats_have ss (of_stat s cs) ds k)

  pub block_has : (b : Block) (cs ds : List Const) → Keeps (of_block b cs) ds → BlockHas ds b
  block_has (Falls ss tokens line) cs ds k = stats_have ss cs ds k
  block_has (Returns ss es tokens line) cs ds k =
      (stats_have ss cs ds (λ x h. k x (keeps_exps es (of_stats ss cs) x h)), exps_have es (of_stats ss cs) ds k)

pub numbered : ConstantsAreNumbered
numbered block = block_has block [] (of_block block []) (λ x h. h)
