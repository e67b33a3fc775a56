-- The constants of a tree fit, where what it writes does.
use Rattle.std.proofs.Common.{◌≡◌, ℕ, Bool, true, false, cond, ◌&&◌, List, [], ◌∷◌, Option, Some, None, refl, sym, ap, ap₂, subst}
use Rattle.std.specs.Prelude.{ℤ}
use Rattle.std.specs.List.{list_all}
use Rattle.tree_core.specs.declared.name.Place.{Place}
use Rattle.tree_core.specs.declared.name.Place.TheVariants.{Unset, Upvalue, GlobalIn, GlobalOf}
use Rattle.tree_core.specs.declared.name.Place.TheVariants.{Local as LocalPlace}
use Rattle.tree_core.specs.declared.operator.BinOp.{BinOp}
use Rattle.tree_core.specs.Tree.{Block, Falls, Returns, Stats, EndStats, MoreStats, Stat, Local, Assign, CallStat, Do, While, Repeat, If, IfElse, NumFor, NumForStep, GenFor, Arms, EndArms, MoreArms, Exp, Nil, True, False, Int, Str, Var, Index, Call, Method, Unary, Binary, And, Or, Paren, Table, Exps, EndExps, MoreExps, Fields, EndFields, MoreFields, Item, Keyed}
use Rattle.code_core.specs.declared.proto.Const.{Const}
use Rattle.code_core.specs.declared.proto.Const.TheVariants.{Nil as NilConst, False as FalseConst, True as TrueConst, Int as IntConst, Str as StrConst}
use Rattle.code_of.specs.ConstantOperands.{any_constant, constant_of, global_constant, target_constant, stored_constant}
use Rattle.code_of.proofs.Operations.{operand_form, operand_literal}
use Rattle.code_core.specs.Writable.{constant_fits, signed_fits}
use Rattle.code_of.specs.Constants.{is_small, same_constant, with_constant, with_any, of_name, of_exp, of_exps, of_fields, of_stat, of_arms, of_stats, of_block}
use Rattle.code_checked.specs.Written.{TextFits, ExpIsWritten, ExpsAreWritten, FieldsAreWritten, StatIsWritten, ArmsAreWritten, StatsAreWritten, BlockIsWritten}

abbrev pub AllFit : List Const → Type 0
AllFit [] = Unit {0}
AllFit (c ∷ cs) = (constant_fits c ≡ true) × AllFit cs

pub all_fit_in : (cs : List Const) → AllFit cs → list_all constant_fits cs ≡ true
all_fit_in [] h = refl
all_fit_in (c ∷ cs) h = ap₂ (λ a b. a && b) h.0 (all_fit_in cs h.1)

with_fits : (x : Const) (cs : List Const) → constant_fits x ≡ true → AllFit cs → AllFit (with_constant x cs)
with_fits x [] fits h = (fits, tt)
with_fits x (c ∷ cs) fits h = by (same_constant c x) (with_fits x cs fits h.1)
  where
    by : (b : Bool) → AllFit (with_constant x cs) → AllFit (cond b (c ∷ cs) (c ∷ with_constant x cs))
    by true others = h
    by false others = (h.0, others)

integer_fits : (b : Bool) (z : ℤ) (cs : List Const) → signed_fits 63 z ≡ true → AllFit cs → AllFit (cond b cs (with_constant (IntConst z) cs))
integer_fits true z cs fits h = h
integer_fits false z cs fits h = with_fits (IntConst z) cs fits h

name_fits_in : (place : Place) (text : List ℕ) (cs : List Const) → TextFits text → AllFit cs → AllFit (of_name place text cs)
name_fits_in Unset text cs fits h = h
name_fits_in (LocalPlace n) text cs fits h = h
name_fits_in (Upvalue u) text cs fits h = h
name_fits_in (GlobalIn n) text cs fits h = with_fits (StrConst text) cs fits h
name_fits_in (GlobalOf u) text cs fits h = with_fits (StrConst text) cs fits h

-- a constant that is an operand is written out

written_fits : (x y : Const) → Some x ≡ Some y → constant_fits x ≡ true → constant_fits y ≡ true
written_fits x y e h = subst (λ c. constant_fits c ≡ true) (ap (λ o. elim o as (λ _. Const) [ None ↦ x | Some k ↦ k ]) e) h

literal_fits : (d : Exp) (x : Const) → any_constant d ≡ Some x → ExpIsWritten d → constant_fits x ≡ true
literal_fits (Nil line) x h w = written_fits NilConst x h refl
literal_fits (True line) x h w = written_fits TrueConst x h refl
literal_fits (False line) x h w = written_fits FalseConst x h refl
literal_fits (Int line z) x h w = written_fits (IntConst z) x h w.1
literal_fits (Str line bytes) x h w = written_fits (StrConst bytes) x h w.1
literal_fits _ x h w = absurd (cc)

operand_fits : (op : BinOp) (d : Exp) (cs : List Const) → ExpIsWritten d → AllFit cs → AllFit (with_any (constant_of op d) cs)
operand_fits op d cs w h = by (constant_of op d) refl
  where
    by : (o : Option Const) → constant_of op d ≡ o → AllFit (with_any o cs)
    by None is = h
    by (Some x) is = with_fits x cs (literal_fits d x (operand_literal op d x (operand_form op d x is)) w) h

-- and so is a constant that is stored

value_fits : (d : Exp) (cs : List Const) → ExpIsWritten d → AllFit cs → AllFit (with_any (any_constant d) cs)
value_fits d cs w h = by (any_constant d) refl
  where
    by : (o : Option Const) → any_constant d ≡ o → AllFit (with_any o cs)
    by None is = h
    by (Some x) is = with_fits x cs (literal_fits d x is w) h

global_fits : (place : Place) (e : Exp) (cs : List Const) → ExpIsWritten e → AllFit cs → AllFit (with_any (global_constant place e) cs)
global_fits (GlobalIn n) e cs w h = value_fits e cs w h
global_fits (GlobalOf u) e cs w h = value_fits e cs w h
global_fits _ e cs w h = h

target_fits : (x e : Exp) (cs : List Const) → ExpIsWritten e → AllFit cs → AllFit (with_any (target_constant x e) cs)
target_fits (Var line name) e cs w h = global_fits name.place e cs w h
target_fits (Index line object key) e cs w h = value_fits e cs w h
target_fits _ e cs w h = h

stored_fits : (targets es : Exps) (cs : List Const) → ExpsAreWritten es → AllFit cs → AllFit (with_any (stored_constant targets es) cs)
stored_fits EndExps es cs w h = h
stored_fits (MoreExps x (MoreExps y targets)) es cs w h = h
stored_fits (MoreExps x EndExps) EndExps cs w h = h
stored_fits (MoreExps x EndExps) (MoreExps e (MoreExps d es)) cs w h = h
stored_fits (MoreExps x EndExps) (MoreExps e EndExps) cs w h = target_fits x e cs w.0 h

mutual
  pub exp_fits : (x : Exp) (cs : List Const) → ExpIsWritten x → AllFit cs → AllFit (of_exp x cs)
  exp_fits (Int line z) cs w h = integer_fits (is_small z) z cs w.1 h
  exp_fits (Str line bytes) cs w h = with_fits (StrConst bytes) cs w.1 h
  exp_fits (Var line name) cs w h = name_fits_in name.place name.text cs w.1 h
  exp_fits (Index line object key) cs w h = exp_fits key (of_exp object cs) w.1.1 (exp_fits object cs w.1.0 h)
  exp_fits (Call line f es) cs w h = exps_fits es (of_exp f cs) w.1.1 (exp_fits f cs w.1.0 h)
  exp_fits (Method line object name es) cs w h = exps_fits es (with_constant (StrConst name.text) (of_exp object cs)) w.1.1.1 (with_fits (StrConst name.text) (of_exp object cs) w.1.1.0 (exp_fits object cs w.1.0 h))
  exp_fits (Unary line op e) cs w h = exp_fits e cs w.1 h
  exp_fits (Binary line op e d) cs w h = exp_fits d (with_any (constant_of op d) (of_exp e cs)) w.1.1 (operand_fits op d (of_exp e cs) w.1.1 (exp_fits e cs w.1.0 h))
  exp_fits (And line e d) cs w h = exp_fits d (of_exp e cs) w.1.1 (exp_fits e cs w.1.0 h)
  exp_fits (Or line e d) cs w h = exp_fits d (of_exp e cs) w.1.1 (exp_fits e cs w.1.0 h)
  exp_fits (Paren line e) cs w h = exp_fits e cs w.1 h
  exp_fits (Table line fs) cs w h = fields_fits fs cs w.1 h
  exp_fits _ cs w h = h

  pub exps_fits : (x : Exps) (cs : List Const) → ExpsAreWritten x → AllFit cs → AllFit (of_exps x cs)
  exps_fits EndExps cs w h = h
  exps_fits (MoreExps e es) cs w h = exps_fits es (of_exp e cs) w.1 (exp_fits e cs w.0 h)

  pub fields_fits : (x : Fields) (cs : List Const) → FieldsAreWritten x → AllFit cs → AllFit (of_fields x cs)
  fields_fits EndFields cs w h = h
  fields_fits (MoreFields (Item e) fs) cs w h = fields_fits fs (of_exp e cs) w.1 (exp_fits e cs w.0 h)
  fields_fits (MoreFields (Keyed line e d) fs) cs w h =
      let named = with_any (any_constant d) (of_exp e cs) in
      fields_fits fs (of_exp d named) w.1.1.1 (exp_fits d named w.1.1.0 (value_fits d (of_exp e cs) w.1.1.0 (exp_fits e cs w.1.0 h)))

mutual
  pub stat_fits : (x : Stat) (cs : List Const) → StatIsWritten x → AllFit cs → AllFit (of_stat x cs)
  stat_fits (Local line names es) cs w h = exps_fits es cs w.1.1 h
  stat_fits (Assign line targets es) cs w h = exps_fits es (with_any (stored_constant targets es) (of_exps targets cs)) w.1.1 (stored_fits targets es (of_exps targets cs) w.1.1 (exps_fits targets cs w.1.0 h))
  stat_fits (CallStat line e) cs w h = exp_fits e cs w.1 h
  stat_fits (Do line block) cs w h = block_fits block cs w.1 h
  stat_fits (While line e block) cs w h = block_fits block (of_exp e cs) w.1.1 (exp_fits e cs w.1.0 h)
  stat_fits (Repeat line block e) cs w h = exp_fits e (of_block block cs) w.1.1 (block_fits block cs w.1.0 h)
  stat_fits (If line arms) cs w h = arms_fits arms cs w.1 h
  stat_fits (IfElse line arms block) cs w h = block_fits block (of_arms arms cs) w.1.1 (arms_fits arms cs w.1.0 h)
  stat_fits (NumFor line name from limit block) cs w h = block_fits block (of_exp limit (of_exp from cs)) w.1.1.1.1 (exp_fits limit (of_exp from cs) w.1.1.1.0 (exp_fits from cs w.1.1.0 h))
  stat_fits (NumForStep line name from limit step block) cs w h = block_fits block (of_exp step (of_exp limit (of_exp from cs))) w.1.1.1.1.1 (exp_fits step (of_exp limit (of_exp from cs)) w.1.1.1.1.0 (exp_fits limit (of_exp from cs) w.1.1.1.0 (exp_fits from cs w.1.1.0 h)))
  stat_fits (GenFor line names es block) cs w h = block_fits block (of_exps es cs) w.1.1.1 (exps_fits es cs w.1.1.0 h)
  stat_fits _ cs w h = h

  pub arms_fits : (x : Arms) (cs : List Const) → ArmsAreWritten x → AllFit cs → AllFit (of_arms x cs)
  arms_fits EndArms cs w h = h
  arms_fits (MoreArms e block arms) cs w h = arms_fits arms (of_block block (of_exp e cs)) w.1.1 (block_fits block (of_exp e cs) w.1.0 (exp_fits e cs w.0 h))

  pub stats_fits : (x : Stats) (cs : List Const) → StatsAreWritten x → AllFit cs → AllFit (of_stats x cs)
  stats_fits EndStats cs w h = h
  stats_fits (MoreStats s ss) cs w h = stats_fits ss (of_stat s cs) w.1 (stat_fits s cs w.0 h)

  pub block_fits : (x : Block) (cs : List Const) → BlockIsWritten x → AllFit cs → AllFit (of_block x cs)
  block_fits (Falls ss tokens line) cs w h = stats_fits ss cs w.1 h
  block_fits (Returns ss es tokens line) cs w h = exps_fits es (of_stats ss cs) w.1.1 (stats_fits ss cs w.1.0 h)
