-- How much is left to do at most before a unit of fuel is paid: a measure of trees, of work and of states that falls at each step and
-- across each ask. A step at fault has 3 at most still to do, so what hears of a fault measures more, and so does each local to be closed.
use Rattle.std.proofs.Common.{ℕ, ◌+◌, ◌*◌, List, [], ◌∷◌, length, Option, Some, None}
use Rattle.tree_core.specs.Tree.{Block, Falls, Returns, Body, BodyOf, Stats, EndStats, MoreStats, Stat, Empty, Local, LocalFunction, Assign, CallStat, Do, While, Repeat, If, IfElse, NumFor, NumForStep, GenFor, Label, Goto, Break, Arms, EndArms, MoreArms, Exp, Function, Var, Index, Call, Method, Unary, Binary, And, Or, Paren, Table, Exps, EndExps, MoreExps, Fields, EndFields, MoreFields, Item, Keyed}
use Rattle.tree_activation.specs.Work.{End, falls_off, returns_list, until, Point, Purpose, for_call, for_return, for_declaration, for_assignment, for_counting, for_iterating, Control, evaluate, give, collect, construct, aim, store, choose, run, complete, decide, count_round, test_round, enter_round, capture, make, mark, pay, leave_scope, raise, finish, over, Work, key_of, object_of, field_of, operand_of, right_of, left_of, and_right, or_right, first_only, callee_of, method_of, listed, item_of, keyed_value, keyed_store, aimed_key, aimed_field, function_to, dropped, if_test, while_test, until_test, in_block, looping, repeating, counting, iterating, end_of_body, State, at}

abbrev pub upvalue_count : Body → ℕ
upvalue_count (BodyOf params vararg inner ups line) = length ups

abbrev mutual
  pub exp_size : Exp → ℕ
  exp_size (Function line (BodyOf params vararg inner ups body_line)) = length ups + 4
  exp_size (Var line name) = 5
  exp_size (Index line o key) = exp_size o + exp_size key + 4
  exp_size (Call line f es) = exp_size f + exps_size es + 5
  exp_size (Method line o name es) = exp_size o + exps_size es + 5
  exp_size (Unary line op a) = exp_size a + 4
  exp_size (Binary line op a b) = exp_size a + exp_size b + 4
  exp_size (And line a b) = exp_size a + exp_size b + 2
  exp_size (Or line a b) = exp_size a + exp_size b + 2
  exp_size (Paren line a) = exp_size a + 2
  exp_size (Table line fs) = fields_size fs + 1
  exp_size _ = 2

  pub exps_size : Exps → ℕ
  exps_size EndExps = 0
  exps_size (MoreExps e es) = exp_size e + exps_size es + 1

  pub fields_size : Fields → ℕ
  fields_size EndFields = 2
  fields_size (MoreFields (Item e) fs) = exp_size e + fields_size fs + 1
  fields_size (MoreFields (Keyed line key e) fs) = exp_size key + exp_size e + fields_size fs + 4

abbrev mutual
  pub stat_size : Stat → ℕ
  stat_size (Empty line) = 2
  stat_size (Local line names es) = exps_size es + 5 * length names + 4
  stat_size (LocalFunction line name (BodyOf params vararg inner ups body_line)) = length ups + 7
  stat_size (Assign line ts es) = exps_size ts + exps_size es + 6
  stat_size (CallStat line e) = exp_size e + 2
  stat_size (Do line b) = block_size b + 1
  stat_size (While line test b) = exp_size test + block_size b + 2
  stat_size (Repeat line b test) = block_size b + exp_size test + 5
  stat_size (If line some) = arms_size some + 3
  stat_size (IfElse line some b) = arms_size some + block_size b + 3
  stat_size (NumFor line name from limit b) = exp_size from + exp_size limit + 2 * block_size b + 12
  stat_size (NumForStep line name from limit step b) = exp_size from + exp_size limit + exp_size step + 2 * block_size b + 12
  stat_size (GenFor line names es b) = exps_size es + block_size b + length names + 12
  stat_size (Label line name) = 2
  stat_size (Goto line name) = 2
  stat_size (Break line) = 3

  pub stats_size : Stats → ℕ
  stats_size EndStats = 0
  stats_size (MoreStats s ss) = stat_size s + stats_size ss

  pub arms_size : Arms → ℕ
  arms_size EndArms = 0
  arms_size (MoreArms test b more) = exp_size test + block_size b + arms_size more + 1

  pub block_size : Block → ℕ
  block_size (Falls ss tokens line) = stats_size ss + 3
  block_size (Returns ss es tokens line) = stats_size ss + exps_size es + 4

abbrev pub end_size : End → ℕ
end_size (falls_off line) = 2
end_size (returns_list line es) = exps_size es + 3
end_size (until line test) = exp_size test + 3

abbrev pub point_size : Point → ℕ
point_size p = stats_size p.rest + end_size p.ending + 1

abbrev pub otherwise_size : Option Block → ℕ
otherwise_size None = 1
otherwise_size (Some b) = block_size b

abbrev pub counting_size : Block → ℕ
counting_size b = block_size b + 3

abbrev pub purpose_size : Purpose → ℕ
purpose_size (for_call line is_last) = 3
purpose_size (for_return line) = 2
purpose_size (for_declaration line names) = 5 * length names + 2
purpose_size (for_assignment aimed) = length aimed + 3
purpose_size (for_counting line b) = block_size b + 2 + counting_size b
purpose_size (for_iterating line names b) = block_size b + length names + 10

abbrev pub work_size : Work → ℕ
work_size (key_of line key) = exp_size key + 3
work_size (object_of line o) = 3
work_size (field_of line key) = 3
work_size (operand_of line op) = 3
work_size (right_of line op b) = exp_size b + 3
work_size (left_of line op v) = 3
work_size (and_right b) = exp_size b + 1
work_size (or_right b) = exp_size b + 1
work_size first_only = 1
work_size (callee_of line is_last es) = exps_size es + 4
work_size (method_of line is_last name es) = exps_size es + 4
work_size (listed purpose have es) = exps_size es + purpose_size purpose + 1
work_size (item_of line t items fs) = fields_size fs
work_size (keyed_value line t items field_line e fs) = exp_size e + fields_size fs + 3
work_size (keyed_store line t items field_line key fs) = fields_size fs + 3
work_size (aimed_key line key aimed ts es) = exp_size key + exps_size ts + exps_size es + length aimed + 6
work_size (aimed_field line t aimed ts es) = exps_size ts + exps_size es + length aimed + 6
work_size (function_to n) = 1
work_size dropped = 1
work_size (if_test b more otherwise) = block_size b + arms_size more + otherwise_size otherwise + 1
work_size (while_test line test b) = block_size b + 1
work_size (until_test line level) = 2
work_size (in_block here p) = point_size p
work_size (looping line test b level) = 0
work_size (repeating line test b level) = 1
work_size (counting line b level) = counting_size b
work_size (iterating line names b level) = block_size b + length names + 5
work_size (end_of_body line) = 1

abbrev pub works_size : List Work → ℕ
works_size [] = 0
works_size (w ∷ k) = work_size w + works_size k

-- of what is done next, above work of a size; where a unit is paid at once it is 0
abbrev pub control_size : Control → ℕ → ℕ
control_size (evaluate e) w = exp_size e + w
control_size (give vs) w = 1 + w
control_size (collect purpose have es) w = exps_size es + purpose_size purpose + 1 + w
control_size (construct line t items fs) w = fields_size fs + w
control_size (aim aimed ts es) w = exps_size ts + exps_size es + length aimed + 5 + w
control_size (store pairs) w = length pairs + 3 + w
control_size (choose some otherwise) w = arms_size some + otherwise_size otherwise + 1 + w
control_size (run p) w = point_size p + w
control_size complete w = 1 + w
control_size (decide truth) w = 1 + w
control_size count_round w = 2 * w + 1
control_size (test_round vs) w = w
control_size (enter_round vs) w = 2 * w + 1
control_size (capture line ns next) w = length ns + 1 + control_size next w
control_size (make body) w = 2 + w
control_size (mark line name n next) w = 4 + control_size next w
control_size (pay line next) w = 0
control_size (leave_scope level line e next) w = 1 + control_size next w
control_size (raise line text) w = 3
control_size (finish line l) w = 1
control_size over w = 0

abbrev pub measure : State → ℕ
measure (at control a k) = control_size control (works_size k) + 3 * length a.pending
