-- An activation of a tree that is left from above while it waits goes on by closing what it has pending, and leaves.
use Rattle.std.proofs.Common.{◌≡◌, ℕ, zero, suc, ◌+◌, Bool, true, false, cond, List, [], ◌∷◌, length, Option, Some, None, refl}
use Rattle.std.specs.Prelude.{ℤ, pos, negsuc, nat_lt}
use Rattle.int_core.specs.Value.{Value, shape, holds, nth, same_integer, is_nil}
use Rattle.int_core.specs.Operations.{Event, of_add, of_sub, of_mul, of_mod, of_idiv, of_band, of_bor, of_bxor, of_shl, of_shr, computed}
use Rattle.int_core.specs.Ask.{CellName, throws, left, IsReplyTo, Next, goes_on, says, stuck, cell_held}
use Rattle.tree_core.specs.declared.name.Place.{Place}
use Rattle.tree_core.specs.declared.name.Place.TheVariants.{Unset, Upvalue, GlobalIn, GlobalOf}
use Rattle.tree_core.specs.declared.name.Place.TheVariants.{Local as LocalPlace}
use Rattle.tree_core.specs.declared.operator.UnOp.{UnOp}
use Rattle.tree_core.specs.declared.operator.UnOp.TheVariants.{Not}
use Rattle.tree_core.specs.declared.operator.BinOp.{BinOp}
use Rattle.tree_core.specs.declared.operator.BinOp.TheVariants.{Add, Sub, Mul, Mod, Idiv, Band, Bor, Bxor, Shl, Shr}
use Rattle.tree_core.specs.Tree.{Block, Body, Stats, EndStats, MoreStats, Stat, Label, Goto, Break, Arms, EndArms, MoreArms, Exp, Var, Index, Call, Method, Table, Exps, EndExps, MoreExps, Fields, EndFields, MoreFields, Item, Keyed}
use Rattle.tree_activation.specs.Work.{End, falls_off, returns_list, until, Point, Target, to_local, to_upvalue, to_field, Purpose, for_call, for_return, for_declaration, for_assignment, for_counting, for_iterating, Control, evaluate, give, collect, construct, aim, store, choose, run, complete, decide, count_round, test_round, enter_round, capture, make, mark, pay, leave_scope, raise, finish, over, Work, key_of, object_of, field_of, operand_of, right_of, left_of, and_right, or_right, first_only, callee_of, method_of, listed, item_of, keyed_value, keyed_store, aimed_key, aimed_field, function_to, dropped, if_test, while_test, until_test, in_block, looping, repeating, counting, iterating, end_of_body, Pending, Activation, State, at}
use Rattle.tree_activation.specs.Asking.{first, last_pending, leave_by, marks_local, captures_one, captures, cell_names}
use Rattle.tree_terms.specs.Bodies.{upvalues_of}
use Rattle.tree_activation.specs.Expressions.{reads_variable, evaluates, by_integers, integer_in, arithmetic_of, binary, unary, gives_integer, makes_with, constructs, stores_item}
use Rattle.tree_activation.specs.Jumps.{Landing, ahead, behind, lands, goes_to, breaks}
use Rattle.tree_activation.specs.Statements.{aims_at_name, aims, stores_at, stores, starts_counting, step_of, counts_on, counts_round, goes_on_from, has_none, begins_return, executes, ends, runs_on, chooses}
use Rattle.tree_activation.specs.Activation.{uses_list, collects, given, completes, decides, counts_in, tests_in, enters_in, step}

-- the state of an activation that is left
pub record IsLeaving (s : State) : Type 0 where
  pub line : ℕ
  pub error : Value
  pub activation : Activation
  pub is : s ≡ at (leave_scope 0 line error (finish line (throws error))) activation []

leaving : (line : ℕ) (e : Value) (a : Activation) → IsLeaving (at (leave_scope 0 line e (finish line (throws e))) a [])
leaving line e a = record { line = line; error = e; activation = a; is = refl }

-- where an ask is answered so that the activation is left, it goes on so
abbrev pub LeavesSo : Next Body State → Type 0
LeavesSo (goes_on s) = Unit {0}
LeavesSo (says q line shared k) = (e : Value) (vs : List Value) (cell : ℕ) → IsReplyTo q (left e) → IsLeaving (k (record { reply = left e; shared = vs; cell = cell }))
LeavesSo stuck = Unit {0}

either : (b : Bool) (x y : Next Body State) → LeavesSo x → LeavesSo y → LeavesSo (cond b x y)
either true x y one two = one
either false x y one two = two

-- expressions

reads_left : (line : ℕ) (name : List ℕ) (place : Place) (a : Activation) (k : List Work) → LeavesSo (reads_variable line name place a k)
reads_left line name Unset a k = tt
reads_left line name (LocalPlace n) a k = tt
reads_left line name (Upvalue u) a k = λ e vs cell fits. absurd fits
reads_left line name (GlobalIn n) a k = λ e vs cell fits. leaving _ _ _
reads_left line name (GlobalOf u) a k = λ e vs cell fits. absurd fits

evaluates_left : (e : Exp) (a : Activation) (k : List Work) → LeavesSo (evaluates e a k)
evaluates_left (Var line name) a k = reads_left line name.text name.place a k
evaluates_left (Table line fs) a k = λ e vs cell fits. absurd fits
evaluates_left _ a k = tt

gives_integer_left : (o : Option ℤ) (event : Event) (line : ℕ) (a : Activation) (k : List Work) → LeavesSo (gives_integer o event line a k)
gives_integer_left None event line a k = tt
gives_integer_left (Some z) event line a k = tt

by_integers_left : (event : Event) (m n : Option ℤ) (line : ℕ) (v w : Value) (a : Activation) (k : List Work) → LeavesSo (by_integers event m n line v w a k)
by_integers_left event None n line v w a k = λ e vs cell fits. leaving _ _ _
by_integers_left event (Some m) None line v w a k = λ e vs cell fits. leaving _ _ _
by_integers_left event (Some m) (Some n) line v w a k = gives_integer_left (computed event m n) event line a k

arithmetic_left : (event : Event) (line : ℕ) (v w : Value) (a : Activation) (k : List Work) → LeavesSo (arithmetic_of event line v w a k)
arithmetic_left event line v w a k = by_integers_left event (integer_in (shape v)) (integer_in (shape w)) line v w a k

binary_left : (op : BinOp) (line : ℕ) (v w : Value) (a : Activation) (k : List Work) → LeavesSo (binary op line v w a k)
binary_left Add line v w a k = arithmetic_left of_add line v w a k
binary_left Sub line v w a k = arithmetic_left of_sub line v w a k
binary_left Mul line v w a k = arithmetic_left of_mul line v w a k
binary_left Mod line v w a k = arithmetic_left of_mod line v w a k
binary_left Idiv line v w a k = arithmetic_left of_idiv line v w a k
binary_left Band line v w a k = arithmetic_left of_band line v w a k
binary_left Bor line v w a k = arithmetic_left of_bor line v w a k
binary_left Bxor line v w a k = arithmetic_left of_bxor line v w a k
binary_left Shl line v w a k = arithmetic_left of_shl line v w a k
binary_left Shr line v w a k = arithmetic_left of_shr line v w a k
binary_left _ line v w a k = λ e vs cell fits. leaving _ _ _

unary_left : (op : UnOp) (line : ℕ) (v : Value) (a : Activation) (k : List Work) → LeavesSo (unary op line v a k)
unary_left Not line v a k = tt
unary_left _ line v a k = λ e vs cell fits. leaving _ _ _

constructs_left : (line : ℕ) (t : Value) (items : ℕ) (fs : Fields) (a : Activation) (k : List Work) → LeavesSo (constructs line t items fs a k)
constructs_left line t items EndFields a k = tt
constructs_left line t items (MoreFields (Item e) fs) a k = tt
constructs_left line t items (MoreFields (Keyed field_line key e) fs) a k = tt

stores_item_left : (line : ℕ) (t : Value) (items : ℕ) (fs : Fields) (vs : List Value) (a : Activation) (k : List Work) → LeavesSo (stores_item line t items fs vs a k)
stores_item_left line t items EndFields vs a k = λ e vs cell fits. absurd fits
stores_item_left line t items (MoreFields f fs) vs a k = λ e vs cell fits. absurd fits

makes_left : (o : Option (List CellName)) (body : Body) (a : Activation) (k : List Work) → LeavesSo (makes_with o body a k)
makes_left None body a k = tt
makes_left (Some names) body a k = λ e vs cell fits. absurd fits

-- scopes

leave_by_left : (o : Option Pending) (level line : ℕ) (e : Value) (next : Control) (a : Activation) (k : List Work) → LeavesSo (leave_by o level line e next a k)
leave_by_left None level line e next a k = tt
leave_by_left (Some p) level line e next a k = either p.needed _ _ (λ d vs cell fits. leaving _ _ _) tt

marks_left : (line : ℕ) (name : List ℕ) (n : ℕ) (next : Control) (a : Activation) (k : List Work) → LeavesSo (marks_local line name n next a k)
marks_left line name n next a k = either (holds (shape (nth a.locals n))) _ _ (λ e vs cell fits. absurd fits) tt

captures_left : (line : ℕ) (ns : List ℕ) (next : Control) (a : Activation) (k : List Work) → LeavesSo (captures line ns next a k)
captures_left line [] next a k = tt
captures_left line (n ∷ ns) next a k = either (nat_lt n (length a.locals)) _ _ (by (cell_held n a.captured.held)) tt where
  by : (o : Option ℕ) → LeavesSo (captures_one o line n ns next a k)
  by None = λ e vs cell fits. absurd fits
  by (Some cell) = tt

-- statements

aims_at_left : (line : ℕ) (name : List ℕ) (place : Place) (aimed : List Target) (ts es : Exps) (a : Activation) (k : List Work) → LeavesSo (aims_at_name line name place aimed ts es a k)
aims_at_left line name (GlobalOf u) aimed ts es a k = λ e vs cell fits. absurd fits
aims_at_left line name _ aimed ts es a k = tt

aims_left : (aimed : List Target) (ts es : Exps) (a : Activation) (k : List Work) → LeavesSo (aims aimed ts es a k)
aims_left aimed EndExps es a k = tt
aims_left aimed (MoreExps (Var line name) ts) es a k = aims_at_left line name.text name.place aimed ts es a k
aims_left aimed (MoreExps (Index line o key) ts) es a k = tt
aims_left aimed (MoreExps e ts) es a k = tt

stores_left : (pairs : List (Target × Value)) (a : Activation) (k : List Work) → LeavesSo (stores pairs a k)
stores_left [] a k = tt
stores_left (s ∷ more) a k = by s.0 where
  by : (t : Target) → LeavesSo (stores_at t s.1 more a k)
  by (to_local n) = tt
  by (to_upvalue line u) = λ e vs cell fits. absurd fits
  by (to_field line t key) = λ e vs cell fits. leaving _ _ _

counts_left : (line : ℕ) (b : Block) (from limit step : Option ℤ) (a : Activation) (k : List Work) → LeavesSo (starts_counting line b from limit step a k)
counts_left line b from None step a k = tt
counts_left line b from (Some limit) None a k = tt
counts_left line b None (Some limit) (Some step) a k = tt
counts_left line b (Some from) (Some limit) (Some step) a k = either (same_integer step (pos 0)) _ _ tt (either (goes_on_from from limit step) _ _ tt tt)

counts_on_left : (line : ℕ) (b : Block) (level : ℕ) (rounds : Option ℤ) (a : Activation) (k : List Work) → LeavesSo (counts_on line b level rounds a k)
counts_on_left line b level (Some (pos zero)) a k = tt
counts_on_left line b level (Some (pos (suc n))) a k = tt
counts_on_left line b level (Some (negsuc n)) a k = tt
counts_on_left line b level None a k = tt

counts_round_left : (line : ℕ) (b : Block) (level : ℕ) (from rounds step : Option ℤ) (a : Activation) (k : List Work) → LeavesSo (counts_round line b level from rounds step a k)
counts_round_left line b level (Some from) (Some rounds) (Some step) a k = tt
counts_round_left line b level None rounds step a k = tt
counts_round_left line b level (Some from) None step a k = tt
counts_round_left line b level (Some from) (Some rounds) None a k = tt

lands_left : (o p : Option Landing) (line : ℕ) (outside : Next Body State) (a : Activation) (k : List Work) → LeavesSo outside → LeavesSo (lands o p line outside a k)
lands_left (Some there) p line outside a k out = tt
lands_left None (Some there) line outside a k out = tt
lands_left None None line outside a k out = out

goes_to_left : (name : List ℕ) (line : ℕ) (a : Activation) (k : List Work) → LeavesSo (goes_to name line a k)
goes_to_left name line a [] = tt
goes_to_left name line a (in_block here p ∷ k) = lands_left (ahead name here p.rest p p.labels) (behind name p p.labels) line (goes_to name line a k) a k (goes_to_left name line a k)
goes_to_left name line a (w ∷ k) = goes_to_left name line a k

breaks_left : (line : ℕ) (a : Activation) (k : List Work) → LeavesSo (breaks line a k)
breaks_left line a [] = tt
breaks_left line a (looping loop_line test b level ∷ k) = tt
breaks_left line a (repeating loop_line test b level ∷ k) = tt
breaks_left line a (counting loop_line b level ∷ k) = tt
breaks_left line a (iterating loop_line names b level ∷ k) = tt
breaks_left line a (w ∷ k) = breaks_left line a k

executes_left : (s : Stat) (a : Activation) (k : List Work) → LeavesSo (executes s a k)
executes_left (Goto line name) a k = goes_to_left name.text line a k
executes_left (Break line) a k = breaks_left line a k
executes_left _ a k = tt

returns_left : (line : ℕ) (es : Exps) (a : Activation) (k : List Work) → LeavesSo (begins_return line es a k)
returns_left line (MoreExps (Call call_line f es) EndExps) a k = either (has_none a.pending) _ _ tt tt
returns_left line (MoreExps (Method call_line o name es) EndExps) a k = either (has_none a.pending) _ _ tt tt
returns_left line es a k = tt

ends_left : (ending : End) (level : ℕ) (a : Activation) (k : List Work) → LeavesSo (ends ending level a k)
ends_left (falls_off line) level a k = tt
ends_left (returns_list line es) level a k = returns_left line es a k
ends_left (until line test) level a k = tt

runs_on_left : (ss : Stats) (p : Point) (a : Activation) (k : List Work) → LeavesSo (runs_on ss p a k)
runs_on_left EndStats p a k = ends_left p.ending p.level a k
runs_on_left (MoreStats (Label line name) ss) p a k = tt
runs_on_left (MoreStats s ss) p a k = executes_left s a (in_block (length a.locals) (record p { rest = ss }) ∷ k)

chooses_left : (some : Arms) (otherwise : Option Block) (a : Activation) (k : List Work) → LeavesSo (chooses some otherwise a k)
chooses_left (MoreArms test b more) otherwise a k = tt
chooses_left EndArms (Some b) a k = tt
chooses_left EndArms None a k = tt

-- lists and values

uses_left : (purpose : Purpose) (vs : List Value) (a : Activation) (k : List Work) → LeavesSo (uses_list purpose vs a k)
uses_left (for_call line is_last) [] a k = tt
uses_left (for_call line is_last) (f ∷ vs) a k = either is_last _ _ (λ e vs cell fits. absurd fits) (λ e vs cell fits. leaving _ _ _)
uses_left (for_return line) vs a k = tt
uses_left (for_declaration line names) vs a k = tt
uses_left (for_assignment aimed) vs a k = tt
uses_left (for_counting line b) vs a k = counts_left line b (integer_in (shape (nth vs 0))) (integer_in (shape (nth vs 1))) (integer_in (shape (step_of vs))) a k
uses_left (for_iterating line names b) vs a k = tt

collects_left : (purpose : Purpose) (have : List Value) (es : Exps) (a : Activation) (k : List Work) → LeavesSo (collects purpose have es a k)
collects_left purpose have EndExps a k = uses_left purpose have a k
collects_left purpose have (MoreExps e es) a k = tt

given_left : (vs : List Value) (a : Activation) (w : Work) (k : List Work) → LeavesSo (given vs a w k)
given_left vs a (key_of line key) k = tt
given_left vs a (object_of line o) k = λ e ws cell fits. leaving _ _ _
given_left vs a (field_of line key) k = λ e ws cell fits. leaving _ _ _
given_left vs a (operand_of line op) k = unary_left op line (first vs) a k
given_left vs a (right_of line op b) k = tt
given_left vs a (left_of line op v) k = binary_left op line v (first vs) a k
given_left vs a (and_right b) k = either (holds (shape (first vs))) _ _ tt tt
given_left vs a (or_right b) k = either (holds (shape (first vs))) _ _ tt tt
given_left vs a first_only k = tt
given_left vs a (callee_of line is_last es) k = tt
given_left vs a (method_of line is_last name es) k = λ e ws cell fits. leaving _ _ _
given_left vs a (listed purpose have es) k = tt
given_left vs a (item_of line t items fs) k = stores_item_left line t items fs vs a k
given_left vs a (keyed_value line t items field_line e fs) k = tt
given_left vs a (keyed_store line t items field_line key fs) k = λ e ws cell fits. leaving _ _ _
given_left vs a (aimed_key line key aimed ts es) k = tt
given_left vs a (aimed_field line t aimed ts es) k = tt
given_left vs a (function_to n) k = tt
given_left vs a dropped k = tt
given_left vs a (if_test b more otherwise) k = either (holds (shape (first vs))) _ _ tt tt
given_left vs a (while_test line test b) k = either (holds (shape (first vs))) _ _ tt tt
given_left vs a (until_test line level) k = tt
given_left vs a w k = tt

completes_left : (a : Activation) (w : Work) (k : List Work) → LeavesSo (completes a w k)
completes_left a (in_block here p) k = tt
completes_left a (looping line test b level) k = tt
completes_left a (counting line b level) k = counts_on_left line b level (integer_in (shape (nth a.locals (level + 1)))) a k
completes_left a (iterating line names b level) k = λ e vs cell fits. leaving _ _ _
completes_left a (end_of_body line) k = tt
completes_left a w k = tt

decides_left : (truth : Bool) (a : Activation) (w : Work) (k : List Work) → LeavesSo (decides truth a w k)
decides_left true a (repeating line test b level) k = tt
decides_left false a (repeating line test b level) k = tt
decides_left true a w k = tt
decides_left false a w k = tt

counts_in_left : (a : Activation) (w : Work) (k : List Work) → LeavesSo (counts_in a w k)
counts_in_left a (counting line b level) k = counts_round_left line b level _ _ _ a k
counts_in_left a w k = tt

tests_in_left : (vs : List Value) (a : Activation) (w : Work) (k : List Work) → LeavesSo (tests_in vs a w k)
tests_in_left vs a (iterating line names b level) k = either (is_nil (first vs)) _ _ tt tt
tests_in_left vs a w k = tt

enters_in_left : (vs : List Value) (a : Activation) (w : Work) (k : List Work) → LeavesSo (enters_in vs a w k)
enters_in_left vs a (iterating line names b level) k = tt
enters_in_left vs a w k = tt

-- each step

pub step_left : (s : State) → LeavesSo (step s)
step_left (at (evaluate e) a k) = evaluates_left e a k
step_left (at (give vs) a []) = tt
step_left (at (give vs) a (w ∷ k)) = given_left vs a w k
step_left (at (collect purpose have es) a k) = collects_left purpose have es a k
step_left (at (construct line t items fs) a k) = constructs_left line t items fs a k
step_left (at (aim aimed ts es) a k) = aims_left aimed ts es a k
step_left (at (store pairs) a k) = stores_left pairs a k
step_left (at (choose some otherwise) a k) = chooses_left some otherwise a k
step_left (at (run p) a k) = runs_on_left p.rest p a k
step_left (at complete a []) = tt
step_left (at complete a (w ∷ k)) = completes_left a w k
step_left (at (decide truth) a []) = tt
step_left (at (decide truth) a (w ∷ k)) = decides_left truth a w k
step_left (at count_round a []) = tt
step_left (at count_round a (w ∷ k)) = counts_in_left a w k
step_left (at (test_round vs) a []) = tt
step_left (at (test_round vs) a (w ∷ k)) = tests_in_left vs a w k
step_left (at (enter_round vs) a []) = tt
step_left (at (enter_round vs) a (w ∷ k)) = enters_in_left vs a w k
step_left (at (capture line ns next) a k) = captures_left line ns next a k
step_left (at (make body) a k) = makes_left (cell_names (upvalues_of body) a.captured.held) body a k
step_left (at (mark line name n next) a k) = marks_left line name n next a k
step_left (at (pay line next) a k) = λ e vs cell fits. absurd fits
step_left (at (leave_scope level line e next) a k) = leave_by_left (last_pending level a.pending) level line e next a k
step_left (at (raise line text) a k) = λ e vs cell fits. leaving _ _ _
step_left (at (finish line l) a k) = λ e vs cell fits. absurd fits
step_left (at over a k) = tt
