-- The measure falls at each step of an activation on one unit of fuel.
use Rattle.std.proofs.Common.{◌≡◌, ℕ, zero, suc, ◌+◌, ◌*◌, ◌<◌, ◌≤◌, Bool, true, false, cond, List, [], ◌∷◌, length, Option, Some, None, refl, arith, length-append}
use Rattle.std.proofs.lemmas.List.{length-reverse}
use Rattle.std.specs.Prelude.{ℤ, pos, negsuc, bytes_eq}
use Rattle.int_core.specs.Arithmetic.{add, sub}
use Rattle.int_core.specs.Value.{Value, known, string, shape, holds, same_integer, is_nil, nth}
use Rattle.int_core.specs.Ask.{Reply, values, faulted, left, values_in, IsLeft, Next}
use Rattle.tree_core.specs.declared.name.Name.{Name}
use Rattle.tree_core.specs.declared.name.Declared.{Declared}
use Rattle.tree_core.specs.declared.name.Place.{Place}
use Rattle.tree_core.specs.declared.name.Place.TheVariants.{Unset, Upvalue, GlobalIn, GlobalOf, Local as LocalPlace}
use Rattle.tree_core.specs.Tree.{Block, Falls, Returns, Body, BodyOf, Stats, EndStats, MoreStats, Stat, Local, LocalFunction, Do, Repeat, Label, Goto, Break, Arms, EndArms, MoreArms, Exp, Var, Index, Call, Method, Exps, EndExps, MoreExps}
use Rattle.tree_activation.specs.Work.{End, falls_off, returns_list, until, Passed, Point, Target, to_local, to_upvalue, to_field, Purpose, for_call, for_return, for_declaration, for_assignment, for_counting, for_iterating, Control, evaluate, give, collect, construct, aim, store, choose, run, complete, decide, count_round, test_round, enter_round, capture, make, mark, pay, leave_scope, raise, finish, over, Work, key_of, object_of, field_of, operand_of, right_of, left_of, and_right, or_right, first_only, callee_of, method_of, listed, item_of, keyed_value, keyed_store, aimed_key, aimed_field, function_to, dropped, if_test, while_test, until_test, in_block, looping, repeating, counting, iterating, end_of_body, Activation, State, at}
use Rattle.tree_activation.specs.Asking.{first, told, heard, cut, raises_fault, captured_locals, cell_names, numbers}
use Rattle.tree_terms.specs.Bodies.{upvalues_of}
use Rattle.tree_activation.specs.Expressions.{integer_in}
use Rattle.tree_activation.specs.Jumps.{Landing, passed_by, ahead, behind, lands, goes_to, breaks}
use Rattle.tree_activation.specs.Statements.{point_of, repeat_point, begins, is_closed, marks_closed, declares, declares_function, aims_at_name, aims, paired, stores_at, stores, goes_on_from, rounds_to_come, begins_round, begins_counting, starts_counting, step_of, counts_on, counts_round, enters_round, has_none, begins_return, executes, ends, runs_on, chooses}
use Rattle.tree_activation.specs.Activation.{uses_list, collects, given, completes, decides, counts_in, tests_in, enters_in, step}
use Rattle.meaning_ends.proofs.Measure.{exp_size, exps_size, fields_size, stat_size, stats_size, arms_size, block_size, end_size, point_size, otherwise_size, counting_size, purpose_size, works_size, control_size, measure}
use Rattle.meaning_ends.proofs.Falling.{Below, still_falls, either_falls, answer_falls, evaluates_falls, binary_falls, unary_falls, constructs_falls, stores_item_falls, makes_falls, leaves_falls, marks_falls, captures_falls, declared_size, numbers_count, captured_count}

-- blocks

point_is : (b : Block) (level : ℕ) → point_size (point_of b level) ≡ block_size b
point_is (Falls ss tokens line) level = omega arith
point_is (Returns ss es tokens line) level = omega arith

begins_falls : (b : Block) (a : Activation) (k : List Work) → Below (block_size b + 1 + works_size k + 3 * length a.pending) (begins b a k)
begins_falls b a k = let e = point_is b (length a.locals) in omega (arith, e)

repeat_size : (b : Block) (test : Exp) (level : ℕ) → point_size (repeat_point b test level) ≤ block_size b + exp_size test + 2
repeat_size (Falls ss tokens line) test level = omega arith
repeat_size (Returns ss es tokens line) test level = omega arith

-- declarations

marks_size : (n : ℕ) (names : List Declared) (next : Control) (w : ℕ) → control_size (marks_closed n names next) w ≤ 4 * length names + control_size next w
marks_size n [] next w = omega arith
marks_size n (d ∷ names) next w = by (is_closed d.attrib) (marks_size (suc n) names next w) where
  by : (b : Bool) → control_size (marks_closed (suc n) names next) w ≤ 4 * length names + control_size next w
      → control_size (cond b (mark d.name.line d.name.text n (marks_closed (suc n) names next)) (marks_closed (suc n) names next)) w ≤ 4 * length (d ∷ names) + control_size next w
  by true h = omega (arith, h)
  by false h = omega (arith, h)

declares_falls : (line : ℕ) (names : List Declared) (vs : List Value) (a : Activation) (k : List Work)
    → Below (5 * length names + 3 + works_size k + 3 * length a.pending) (declares line names vs a k)
declares_falls line names vs a k =
    let n = length a.locals in
    let d = declared_size a.celling line (numbers n (length names)) (marks_closed n names complete) (works_size k) in
    let c = numbers_count n (length names) in
    let m = marks_size n names complete (works_size k) in
    omega (arith, d, c, m)

declares_function_falls : (body : Body) (a : Activation) (k : List Work) → Below (length (upvalues_of body) + 7 + works_size k + 3 * length a.pending) (declares_function body a k)
declares_function_falls (BodyOf params vararg inner ups line) a k =
    let n = length a.locals in
    let d = declared_size a.celling line (n ∷ []) (capture line (captured_locals ups) (make (BodyOf params vararg inner ups line))) (1 + works_size k) in
    let c = captured_count ups in
    omega (arith, d, c)

-- assignments

aims_at_falls : (line : ℕ) (name : List ℕ) (place : Place) (aimed : List Target) (ts es : Exps) (a : Activation) (k : List Work)
    → Below (exps_size ts + exps_size es + length aimed + 7 + works_size k + 3 * length a.pending) (aims_at_name line name place aimed ts es a k)
aims_at_falls line name Unset aimed ts es a k = tt
aims_at_falls line name (LocalPlace n) aimed ts es a k = omega (arith, length-append aimed (to_local n ∷ []))
aims_at_falls line name (Upvalue u) aimed ts es a k = omega (arith, length-append aimed (to_upvalue line u ∷ []))
aims_at_falls line name (GlobalIn n) aimed ts es a k =
    let h = length-append aimed (to_field line (nth a.locals n) (known (string name)) ∷ []) in omega (arith, h)
aims_at_falls line name (GlobalOf u) aimed ts es a k =
    λ x counts. (let h = length-append aimed (to_field line (first (values_in x.reply)) (known (string name)) ∷ []) in omega (arith, h))

aims_falls : (aimed : List Target) (ts es : Exps) (a : Activation) (k : List Work)
    → Below (exps_size ts + exps_size es + length aimed + 5 + works_size k + 3 * length a.pending) (aims aimed ts es a k)
aims_falls aimed EndExps es a k = omega arith
aims_falls aimed (MoreExps (Var line name) ts) es a k = still_falls _ _ _ (aims_at_falls line name.text name.place aimed ts es a k) (omega arith)
aims_falls aimed (MoreExps (Index line o key) ts) es a k = omega arith
aims_falls aimed (MoreExps e ts) es a k = tt

stores_falls : (pairs : List (Target × Value)) (a : Activation) (k : List Work) → Below (length pairs + 3 + works_size k + 3 * length a.pending) (stores pairs a k)
stores_falls [] a k = omega arith
stores_falls (s ∷ more) a k = by s.0 where
  by : (t : Target) → Below (length (s ∷ more) + 3 + works_size k + 3 * length a.pending) (stores_at t s.1 more a k)
  by (to_local n) = omega arith
  by (to_upvalue line u) = λ x counts. omega arith
  by (to_field line t key) = λ x counts. answer_falls (length (s ∷ more) + 3 + works_size k + 3 * length a.pending) x line a k (λ _. store more) (omega arith) (λ vs. omega arith)

paired_count : (ts : List Target) (vs : List Value) → length (paired ts vs) ≡ length ts
paired_count [] vs = refl
paired_count (t ∷ ts) [] = let h = paired_count ts [] in omega (arith, h)
paired_count (t ∷ ts) (v ∷ vs) = let h = paired_count ts vs in omega (arith, h)

-- loops

begins_round_falls : (line : ℕ) (b : Block) (level : ℕ) (from rounds step : ℤ) (a : Activation) (k : List Work)
    → Below (2 * block_size b + 6 + works_size k + 3 * length a.pending) (begins_round line b level from rounds step a k)
begins_round_falls line b level from rounds step a k =
    let d = declared_size a.celling line ((level + 3) ∷ []) (run (point_of b (level + 3))) (counting_size b + works_size k) in
    let e = point_is b (level + 3) in
    omega (arith, d, e)

begins_counting_falls : (line : ℕ) (b : Block) (from limit step : ℤ) (a : Activation) (k : List Work)
    → Below (2 * block_size b + 6 + works_size k + 3 * length a.pending) (begins_counting line b from limit step a k)
begins_counting_falls line b from limit step a k =
    either_falls _ (same_integer step (pos 0)) _ _ (omega arith)
    (either_falls _ (goes_on_from from limit step) _ _ (begins_round_falls line b (length a.locals) from (rounds_to_come from limit step) step a k) (omega arith))

counts_falls : (line : ℕ) (b : Block) (from limit step : Option ℤ) (a : Activation) (k : List Work)
    → Below (2 * block_size b + 6 + works_size k + 3 * length a.pending) (starts_counting line b from limit step a k)
counts_falls line b from None step a k = omega arith
counts_falls line b from (Some limit) None a k = omega arith
counts_falls line b None (Some limit) (Some step) a k = omega arith
counts_falls line b (Some from) (Some limit) (Some step) a k = begins_counting_falls line b from limit step a k

counts_on_falls : (line : ℕ) (b : Block) (level : ℕ) (rounds : Option ℤ) (a : Activation) (k : List Work)
    → Below (1 + counting_size b + works_size k + 3 * length a.pending) (counts_on line b level rounds a k)
counts_on_falls line b level (Some (pos zero)) a k = omega arith
counts_on_falls line b level (Some (pos (suc n))) a k = omega arith
counts_on_falls line b level (Some (negsuc n)) a k = omega arith
counts_on_falls line b level None a k = omega arith

counts_round_falls : (line : ℕ) (b : Block) (level : ℕ) (from rounds step : Option ℤ) (a : Activation) (k : List Work)
    → Below (2 * block_size b + 6 + works_size k + 3 * length a.pending) (counts_round line b level from rounds step a k)
counts_round_falls line b level (Some from) (Some rounds) (Some step) a k = begins_round_falls line b level (add from step) (sub rounds (pos 1)) step a k
counts_round_falls line b level None rounds step a k = tt
counts_round_falls line b level (Some from) None step a k = tt
counts_round_falls line b level (Some from) (Some rounds) None a k = tt

enters_round_falls : (line : ℕ) (names : List Name) (b : Block) (level : ℕ) (vs : List Value) (a : Activation) (k : List Work)
    → Below (2 * (block_size b + length names + 5 + works_size k) + 1 + 3 * length a.pending) (enters_round line names b level vs a k)
enters_round_falls line names b level vs a k =
    let d = declared_size a.celling line (numbers (level + 4) (length names)) (run (point_of b (level + 4))) (block_size b + length names + 5 + works_size k) in
    let c = numbers_count (level + 4) (length names) in
    let e = point_is b (level + 4) in
    omega (arith, d, c, e)

-- jumps

abbrev Within : ℕ → Option Landing → Type 0
Within m None = Unit {0}
Within m (Some there) = point_size there.point ≤ m

within_still : (m n : ℕ) (o : Option Landing) → Within m o → m ≤ n → Within n o
within_still m n None within more = tt
within_still m n (Some there) within more = omega (arith, within, more)

either_within : (m : ℕ) (b : Bool) (o p : Option Landing) → Within m o → Within m p → Within m (cond b o p)
either_within m true o p first second = first
either_within m false o p first second = second

ahead_within : (name : List ℕ) (level : ℕ) (ss : Stats) (p : Point) (labels : List Passed) → Within (stats_size ss + end_size p.ending + 1) (ahead name level ss p labels)
ahead_within name level EndStats p labels = tt
ahead_within name level (MoreStats (Label line found) ss) p labels =
    either_within _ (bytes_eq found.text name) _ _ (omega arith)
    (within_still (stats_size ss + end_size p.ending + 1) _ _ (ahead_within name level ss p (passed_by found level ss ∷ labels)) (omega arith))
ahead_within name level (MoreStats (Local line names es) ss) p labels = within_still (stats_size ss + end_size p.ending + 1) _ _ (ahead_within name (level + length names) ss p labels) (omega arith)
ahead_within name level (MoreStats (LocalFunction line found (BodyOf params vararg inner ups body_line)) ss) p labels =
    within_still (stats_size ss + end_size p.ending + 1) _ _ (ahead_within name (level + 1) ss p labels) (omega arith)
ahead_within name level (MoreStats s ss) p labels = within_still (stats_size ss + end_size p.ending + 1) _ _ (ahead_within name level ss p labels) (omega arith)

lands_falls : (m n : ℕ) (o p : Option Landing) (line : ℕ) (outside : Next Body State) (a : Activation) (k : List Work)
    → Within m o → m + 1 + works_size k < n → 1 < n → Below (n + 3 * length a.pending) outside → Below (n + 3 * length a.pending) (lands o p line outside a k)
lands_falls m n (Some there) p line outside a k within room more out = omega (arith, within, room)
lands_falls m n None (Some there) line outside a k within room more out = omega (arith, more)
lands_falls m n None None line outside a k within room more out = out

goes_to_falls : (name : List ℕ) (line : ℕ) (a : Activation) (k : List Work) → Below (2 + works_size k + 3 * length a.pending) (goes_to name line a k)
goes_to_falls name line a [] = tt
goes_to_falls name line a (in_block here p ∷ k) =
    lands_falls (point_size p) (2 + works_size (in_block here p ∷ k)) (ahead name here p.rest p p.labels) (behind name p p.labels) line (goes_to name line a k) a k
    (ahead_within name here p.rest p p.labels) (omega arith) (omega arith)
    (still_falls (2 + works_size k + 3 * length a.pending) _ _ (goes_to_falls name line a k) (omega arith))
goes_to_falls name line a (w ∷ k) = still_falls (2 + works_size k + 3 * length a.pending) _ _ (goes_to_falls name line a k) (omega arith)

breaks_falls : (line : ℕ) (a : Activation) (k : List Work) → Below (3 + works_size k + 3 * length a.pending) (breaks line a k)
breaks_falls line a [] = tt
breaks_falls line a (looping loop_line test b level ∷ k) = omega arith
breaks_falls line a (repeating loop_line test b level ∷ k) = omega arith
breaks_falls line a (counting loop_line b level ∷ k) = omega arith
breaks_falls line a (iterating loop_line names b level ∷ k) = omega arith
breaks_falls line a (w ∷ k) = still_falls (3 + works_size k + 3 * length a.pending) _ _ (breaks_falls line a k) (omega arith)

-- statements

executes_falls : (s : Stat) (a : Activation) (k : List Work) → Below (stat_size s + works_size k + 3 * length a.pending) (executes s a k)
executes_falls (LocalFunction line name (BodyOf params vararg inner ups body_line)) a k =
    let h = declares_function_falls (BodyOf params vararg inner ups body_line) a k in omega (arith, h)
executes_falls (Do line b) a k = begins_falls b a k
executes_falls (Repeat line b test) a k = let h = repeat_size b test (length a.locals) in omega (arith, h)
executes_falls (Goto line name) a k = goes_to_falls name.text line a k
executes_falls (Break line) a k = breaks_falls line a k
executes_falls _ a k = omega arith

returns_falls : (line : ℕ) (es : Exps) (a : Activation) (k : List Work) → Below (exps_size es + 4 + works_size k + 3 * length a.pending) (begins_return line es a k)
returns_falls line (MoreExps (Call call_line f es) EndExps) a k = either_falls _ (has_none a.pending) _ _ (omega arith) (omega arith)
returns_falls line (MoreExps (Method call_line o name es) EndExps) a k = either_falls _ (has_none a.pending) _ _ (omega arith) (omega arith)
returns_falls line es a k = omega arith

ends_falls : (ending : End) (level : ℕ) (a : Activation) (k : List Work) → Below (end_size ending + 1 + works_size k + 3 * length a.pending) (ends ending level a k)
ends_falls (falls_off line) level a k = omega arith
ends_falls (returns_list line es) level a k = still_falls (exps_size es + 4 + works_size k + 3 * length a.pending) _ _ (returns_falls line es a k) (omega arith)
ends_falls (until line test) level a k = omega arith

runs_on_falls : (ss : Stats) (p : Point) (a : Activation) (k : List Work) → Below (stats_size ss + end_size p.ending + 1 + works_size k + 3 * length a.pending) (runs_on ss p a k)
runs_on_falls EndStats p a k = still_falls (end_size p.ending + 1 + works_size k + 3 * length a.pending) _ _ (ends_falls p.ending p.level a k) (omega arith)
runs_on_falls (MoreStats (Label line name) ss) p a k = omega arith
runs_on_falls (MoreStats s ss) p a k =
    still_falls (stat_size s + (stats_size ss + end_size p.ending + 1 + works_size k) + 3 * length a.pending) (stats_size (MoreStats s ss) + end_size p.ending + 1 + works_size k + 3 * length a.pending)
    (executes s a (in_block (length a.locals) (record p { rest = ss }) ∷ k))
    (executes_falls s a (in_block (length a.locals) (record p { rest = ss }) ∷ k)) (omega arith)

chooses_falls : (some : Arms) (otherwise : Option Block) (a : Activation) (k : List Work)
    → Below (arms_size some + otherwise_size otherwise + 1 + works_size k + 3 * length a.pending) (chooses some otherwise a k)
chooses_falls (MoreArms test b more) otherwise a k = omega arith
chooses_falls EndArms (Some b) a k = let h = begins_falls b a k in omega (arith, h)
chooses_falls EndArms None a k = omega arith

-- lists and values

uses_falls : (purpose : Purpose) (vs : List Value) (a : Activation) (k : List Work) → Below (purpose_size purpose + 1 + works_size k + 3 * length a.pending) (uses_list purpose vs a k)
uses_falls (for_call line is_last) [] a k = tt
uses_falls (for_call line is_last) (f ∷ vs) a k =
    either_falls _ is_last _ _ (λ x counts. answer_falls _ x line a [] (λ _. over) (omega arith) (λ vs. omega arith)) (λ x counts. answer_falls _ x line a k give (omega arith) (λ vs. omega arith))
uses_falls (for_return line) vs a k = omega arith
uses_falls (for_declaration line names) vs a k = let h = declares_falls line names vs a k in omega (arith, h)
uses_falls (for_assignment aimed) vs a k = let r = length-reverse (paired aimed vs) in let c = paired_count aimed vs in omega (arith, r, c)
uses_falls (for_counting line b) vs a k =
    still_falls _ _ _ (counts_falls line b (integer_in (shape (nth vs 0))) (integer_in (shape (nth vs 1))) (integer_in (shape (step_of vs))) a k) (omega arith)
uses_falls (for_iterating line names b) vs a k = omega arith

collects_falls : (purpose : Purpose) (have : List Value) (es : Exps) (a : Activation) (k : List Work)
    → Below (exps_size es + purpose_size purpose + 1 + works_size k + 3 * length a.pending) (collects purpose have es a k)
collects_falls purpose have EndExps a k = still_falls (purpose_size purpose + 1 + works_size k + 3 * length a.pending) _ _ (uses_falls purpose have a k) (omega arith)
collects_falls purpose have (MoreExps e es) a k = omega arith

given_falls : (vs : List Value) (a : Activation) (w : Work) (k : List Work) → Below (1 + works_size (w ∷ k) + 3 * length a.pending) (given vs a w k)
given_falls vs a (key_of line key) k = omega arith
given_falls vs a (object_of line o) k = λ x counts. answer_falls _ x _ a k _ (omega arith) (λ vs. omega arith)
given_falls vs a (field_of line key) k = λ x counts. answer_falls _ x _ a k _ (omega arith) (λ vs. omega arith)
given_falls vs a (operand_of line op) k = still_falls (4 + works_size k + 3 * length a.pending) _ _ (unary_falls op line (first vs) a k) (omega arith)
given_falls vs a (right_of line op b) k = omega arith
given_falls vs a (left_of line op v) k = still_falls (4 + works_size k + 3 * length a.pending) _ _ (binary_falls op line v (first vs) a k) (omega arith)
given_falls vs a (and_right b) k = either_falls _ (holds (shape (first vs))) _ _ (omega arith) (omega arith)
given_falls vs a (or_right b) k = either_falls _ (holds (shape (first vs))) _ _ (omega arith) (omega arith)
given_falls vs a first_only k = omega arith
given_falls vs a (callee_of line is_last es) k = omega arith
given_falls vs a (method_of line is_last name es) k = λ x counts. answer_falls _ x _ a k _ (omega arith) (λ vs. omega arith)
given_falls vs a (listed purpose have es) k = omega arith
given_falls vs a (item_of line t items fs) k = still_falls (1 + fields_size fs + works_size k + 3 * length a.pending) _ _ (stores_item_falls line t items fs vs a k) (omega arith)
given_falls vs a (keyed_value line t items field_line e fs) k = omega arith
given_falls vs a (keyed_store line t items field_line key fs) k = λ x counts. answer_falls _ x _ a k _ (omega arith) (λ vs. omega arith)
given_falls vs a (aimed_key line key aimed ts es) k = omega arith
given_falls vs a (aimed_field line t aimed ts es) k = omega (arith, length-append aimed (to_field line t (first vs) ∷ []))
given_falls vs a (function_to n) k = omega arith
given_falls vs a dropped k = omega arith
given_falls vs a (if_test b more otherwise) k = either_falls _ (holds (shape (first vs))) _ _ (let h = begins_falls b a k in omega (arith, h)) (omega arith)
given_falls vs a (while_test line test b) k =
    either_falls _ (holds (shape (first vs))) _ _ (let h = begins_falls b a (looping line test b (length a.locals) ∷ k) in omega (arith, h)) (omega arith)
given_falls vs a (until_test line level) k = omega arith
given_falls vs a w k = tt

completes_falls : (a : Activation) (w : Work) (k : List Work) → Below (1 + works_size (w ∷ k) + 3 * length a.pending) (completes a w k)
completes_falls a (in_block here p) k = omega arith
completes_falls a (looping line test b level) k = omega arith
completes_falls a (counting line b level) k = still_falls _ _ _ (counts_on_falls line b level (integer_in (shape (nth a.locals (level + 1)))) a k) (omega arith)
completes_falls a (iterating line names b level) k = λ x counts. answer_falls _ x _ a (iterating line names b level ∷ k) test_round (omega arith) (λ vs. omega arith)
completes_falls a (end_of_body line) k = omega arith
completes_falls a w k = tt

decides_falls : (truth : Bool) (a : Activation) (w : Work) (k : List Work) → Below (1 + works_size (w ∷ k) + 3 * length a.pending) (decides truth a w k)
decides_falls true a (repeating line test b level) k = omega arith
decides_falls false a (repeating line test b level) k = omega arith
decides_falls true a w k = tt
decides_falls false a w k = tt

counts_in_falls : (a : Activation) (w : Work) (k : List Work) → Below (2 * works_size (w ∷ k) + 1 + 3 * length a.pending) (counts_in a w k)
counts_in_falls a (counting line b level) k = still_falls _ _ _ (counts_round_falls line b level _ _ _ a k) (omega arith)
counts_in_falls a w k = tt

tests_in_falls : (vs : List Value) (a : Activation) (w : Work) (k : List Work) → Below (works_size (w ∷ k) + 3 * length a.pending) (tests_in vs a w k)
tests_in_falls vs a (iterating line names b level) k = either_falls _ (is_nil (first vs)) _ _ (omega arith) (omega arith)
tests_in_falls vs a w k = tt

enters_in_falls : (vs : List Value) (a : Activation) (w : Work) (k : List Work) → Below (2 * works_size (w ∷ k) + 1 + 3 * length a.pending) (enters_in vs a w k)
enters_in_falls vs a (iterating line names b level) k = let h = enters_round_falls line names b level vs a k in omega (arith, h)
enters_in_falls vs a w k = tt

-- faults

-- with an error that is raised the activation is left
raises_falls : (line : ℕ) (text : List ℕ) (a : Activation) → Below (3 + 3 * length a.pending) (raises_fault line text a)
raises_falls line text a = λ x counts. by x.reply x.shared counts where
  by : (reply : Reply) (shared : List Value) → IsLeft reply → measure (heard reply line (told (record a { captured = cut 0 a }) shared) [] (λ _. over)) < 3 + 3 * length a.pending
  by (values vs) shared counts = absurd counts
  by (faulted other) shared counts = absurd counts
  by (left e) shared counts = omega arith

-- each step

pub step_falls : (s : State) → Below (measure s) (step s)
step_falls (at (evaluate e) a k) = evaluates_falls e a k
step_falls (at (give vs) a []) = tt
step_falls (at (give vs) a (w ∷ k)) = given_falls vs a w k
step_falls (at (collect purpose have es) a k) = collects_falls purpose have es a k
step_falls (at (construct line t items fs) a k) = constructs_falls line t items fs a k
step_falls (at (aim aimed ts es) a k) = aims_falls aimed ts es a k
step_falls (at (store pairs) a k) = stores_falls pairs a k
step_falls (at (choose some otherwise) a k) = chooses_falls some otherwise a k
step_falls (at (run p) a k) = runs_on_falls p.rest p a k
step_falls (at complete a []) = tt
step_falls (at complete a (w ∷ k)) = completes_falls a w k
step_falls (at (decide truth) a []) = tt
step_falls (at (decide truth) a (w ∷ k)) = decides_falls truth a w k
step_falls (at count_round a []) = tt
step_falls (at count_round a (w ∷ k)) = counts_in_falls a w k
step_falls (at (test_round vs) a []) = tt
step_falls (at (test_round vs) a (w ∷ k)) = tests_in_falls vs a w k
step_falls (at (enter_round vs) a []) = tt
step_falls (at (enter_round vs) a (w ∷ k)) = enters_in_falls vs a w k
step_falls (at (capture line ns next) a k) = captures_falls line ns next a k
step_falls (at (make body) a k) = makes_falls (cell_names (upvalues_of body) a.captured.held) body a k
step_falls (at (mark line name n next) a k) = marks_falls line name n next a k
step_falls (at (pay line next) a k) = λ x counts. absurd counts
step_falls (at (leave_scope level line e next) a k) = leaves_falls level line e next a k
step_falls (at (raise line text) a k) = raises_falls line text a
step_falls (at (finish line l) a k) = λ x counts. omega arith
step_falls (at over a k) = tt
