-- How an activation executes statements and blocks (Lua 5.4 manual, 3.3), one line a form.
use Rattle.std.specs.Prelude.{ℕ, zero, suc, ◌+◌, ◌-ℤ◌, ℤ, pos, negsuc, int_le, Bool, true, false, cond, List, [], ◌∷◌, ◌++◌, length, take, Option, Some, None, codes}
use Rattle.int_core.specs.Arithmetic.{wrapped, add, sub, floor_quotient}
use Rattle.int_core.specs.Value.{Value, known, nil, integer, string, same_integer, is_nil, nth, shape, write, fitted}
use Rattle.int_core.specs.Operations.{store}
use Rattle.int_core.specs.Ask.{reads_upvalue, writes_upvalue, operates, calls, Next, stuck}
use Rattle.tree_core.specs.declared.name.Name.{Name}
use Rattle.tree_core.specs.declared.name.Declared.{Declared}
use Rattle.tree_core.specs.declared.name.Attrib.{Attrib}
use Rattle.tree_core.specs.declared.name.Attrib.TheVariants.{Close}
use Rattle.tree_core.specs.declared.name.Place.{Place}
use Rattle.tree_core.specs.declared.name.Place.TheVariants.{Unset, Upvalue, GlobalIn, GlobalOf, Local as LocalPlace}
use Rattle.tree_core.specs.Tree.{Block, Falls, Returns, Body, Stats, EndStats, MoreStats, Stat, Empty, Local, LocalFunction, Assign, CallStat, Do, While, Repeat, If, IfElse, NumFor, NumForStep, GenFor, Label, Goto, Break, Arms, EndArms, MoreArms, Exp, Var, Index, Call, Method, Exps, EndExps, MoreExps}
use Rattle.tree_activation.specs.Work.{End, falls_off, returns_list, until, Point, Target, to_local, to_upvalue, to_field, for_return, for_declaration, for_assignment, for_counting, for_iterating, Control, evaluate, collect, aim, store as store', choose, run, complete, count_round, test_round, enter_round, capture, make, mark, pay, leave_scope, raise, Work, callee_of, method_of, aimed_key, function_to, dropped, if_test, while_test, until_test, in_block, repeating, counting, iterating, Pending, Activation, State}
use Rattle.tree_activation.specs.Asking.{first, go, asks_quickly, asks, declared, numbers, captured_locals}
use Rattle.tree_terms.specs.Bodies.{line_of_body, upvalues_of}
use Rattle.tree_activation.specs.Expressions.{integer_in}
use Rattle.tree_activation.specs.Jumps.{passed_by, goes_to, breaks}

-- blocks

abbrev pub point_of : Block → (level : ℕ) → Point
point_of (Falls ss tokens line) level = record { rest = ss; ending = falls_off line; level = level; labels = [] }
point_of (Returns ss es tokens line) level = record { rest = ss; ending = returns_list line es; level = level; labels = [] }

-- the block of a `repeat`, whose test sees the block's locals
abbrev pub repeat_point : Block → Exp → (level : ℕ) → Point
repeat_point (Falls ss tokens line) test level = record { rest = ss; ending = until line test; level = level; labels = [] }
repeat_point (Returns ss es tokens line) test level = record { rest = ss; ending = returns_list line es; level = level; labels = [] }

-- a block of its own, around which the locals of now are in scope
abbrev pub begins : Block → Activation → List Work → Next Body State
begins block a k = go (run (point_of block (length a.locals))) a k

-- declarations

abbrev pub with_locals : Activation → List Value → Activation
with_locals a vs = record a { locals = a.locals ++ vs }

-- the variable of a declaration that is to be closed, from the number n on
abbrev pub is_closed : Attrib → Bool
is_closed Close = true
is_closed _ = false

abbrev pub marks_closed : ℕ → List Declared → Control → Control
marks_closed n [] next = next
marks_closed n (d ∷ names) next = cond (is_closed d.attrib) (mark d.name.line d.name.text n (marks_closed (suc n) names next)) (marks_closed (suc n) names next)

abbrev pub declares : ℕ → List Declared → List Value → Activation → List Work → Next Body State
declares line names vs a k =
    let n = length a.locals in
    go (declared a.celling line (numbers n (length names)) (marks_closed n names complete)) (with_locals a (fitted (length names) vs)) k

-- a local function is in scope in its own body
abbrev pub declares_function : Body → Activation → List Work → Next Body State
declares_function body a k =
    let n = length a.locals in
    let line = line_of_body body in
    go (declared a.celling line (n ∷ []) (capture line (captured_locals (upvalues_of body)) (make body))) (with_locals a (known nil ∷ [])) (function_to n ∷ k)

-- assignments: the tables and keys, then the values, and then all is stored from right to left

abbrev pub aims_at_name : ℕ → List ℕ → Place → List Target → Exps → Exps → Activation → List Work → Next Body State
aims_at_name line name Unset aimed ts es a k = stuck
aims_at_name line name (LocalPlace n) aimed ts es a k = go (aim (aimed ++ to_local n ∷ []) ts es) a k
aims_at_name line name (Upvalue u) aimed ts es a k = go (aim (aimed ++ to_upvalue line u ∷ []) ts es) a k
aims_at_name line name (GlobalIn n) aimed ts es a k = go (aim (aimed ++ to_field line (nth a.locals n) (known (string name)) ∷ []) ts es) a k
aims_at_name line name (GlobalOf u) aimed ts es a k =
    asks_quickly (reads_upvalue u) line a k (λ vs. aim (aimed ++ to_field line (first vs) (known (string name)) ∷ []) ts es)

abbrev pub aims : List Target → Exps → Exps → Activation → List Work → Next Body State
aims aimed EndExps es a k = go (collect (for_assignment aimed) [] es) a k
aims aimed (MoreExps (Var line name) ts) es a k = aims_at_name line name.text name.place aimed ts es a k
aims aimed (MoreExps (Index line object key) ts) es a k = go (evaluate object) a (aimed_key line key aimed ts es ∷ k)
aims aimed _ es a k = stuck

abbrev pub paired : List Target → List Value → List (Target × Value)
paired [] vs = []
paired (t ∷ ts) vs = (t, first vs) ∷ paired ts (elim vs [ [] ↦ [] | _ ∷ ws ↦ ws ])

abbrev pub stores_at : Target → Value → List (Target × Value) → Activation → List Work → Next Body State
stores_at (to_local n) v more a k = go (store' more) (record a { locals = write n v a.locals }) k
stores_at (to_upvalue line u) v more a k = asks_quickly (writes_upvalue u v) line a k (λ _. store' more)
stores_at (to_field line t key) v more a k = asks (operates store (t ∷ key ∷ v ∷ [])) line a k (λ _. store' more)

abbrev pub stores : List (Target × Value) → Activation → List Work → Next Body State
stores [] a k = go complete a k
stores (s ∷ more) a k = stores_at s.0 s.1 more a k

-- numeric `for`: three hidden locals are the index, the number of rounds to come and the step; the loop's variable is a new local in each round

abbrev pub goes_on_from : ℤ → ℤ → ℤ → Bool
goes_on_from from limit (pos step) = int_le from limit
goes_on_from from limit (negsuc step) = int_le limit from

abbrev pub rounds_to_come : ℤ → ℤ → ℤ → ℤ
rounds_to_come from limit step = wrapped (floor_quotient (limit -ℤ from) step)

abbrev pub hidden : ℤ → ℤ → ℤ → List Value
hidden from rounds step = known (integer from) ∷ known (integer rounds) ∷ known (integer step) ∷ []

-- a round: the loop's variable is in scope in the block
abbrev pub begins_round : ℕ → Block → (level : ℕ) → ℤ → ℤ → ℤ → Activation → List Work → Next Body State
begins_round line block level from rounds step a k =
    go (declared a.celling line ((level + 3) ∷ []) (run (point_of block (level + 3))))
    (record a { locals = take level a.locals ++ hidden from rounds step ++ known (integer from) ∷ [] }) (counting line block level ∷ k)

abbrev pub begins_counting : ℕ → Block → ℤ → ℤ → ℤ → Activation → List Work → Next Body State
begins_counting line block from limit step a k =
    cond (same_integer step (pos 0)) (go (raise line (codes "'for' step is zero")) a k)
    (cond (goes_on_from from limit step) (begins_round line block (length a.locals) from (rounds_to_come from limit step) step a k) (go complete a k))

-- looked at in the order limit, step, initial value
abbrev pub starts_counting : ℕ → Block → Option ℤ → Option ℤ → Option ℤ → Activation → List Work → Next Body State
starts_counting line block from None step a k = go (raise line (codes "'for' limit must be a number")) a k
starts_counting line block from (Some limit) None a k = go (raise line (codes "'for' step must be a number")) a k
starts_counting line block None (Some limit) (Some step) a k = go (raise line (codes "'for' initial value must be a number")) a k
starts_counting line block (Some from) (Some limit) (Some step) a k = begins_counting line block from limit step a k

-- the step is 1 where none is written
abbrev pub step_of : List Value → Value
step_of (v ∷ w ∷ step ∷ vs) = step
step_of _ = known (integer (pos 1))

abbrev pub counts : ℕ → Block → List Value → Activation → List Work → Next Body State
counts line block vs a k = starts_counting line block (integer_in (shape (nth vs 0))) (integer_in (shape (nth vs 1))) (integer_in (shape (step_of vs))) a k

-- after a round
abbrev pub counts_on : ℕ → Block → (level : ℕ) → Option ℤ → Activation → List Work → Next Body State
counts_on line block level (Some (pos zero)) a k = go (leave_scope level line (known nil) complete) a k
counts_on line block level rounds a k = go (pay line count_round) a (counting line block level ∷ k)

abbrev pub counts_round : ℕ → Block → (level : ℕ) → Option ℤ → Option ℤ → Option ℤ → Activation → List Work → Next Body State
counts_round line block level (Some from) (Some rounds) (Some step) a k = begins_round line block level (add from step) (sub rounds (pos 1)) step a k
counts_round line block level _ _ _ a k = stuck

abbrev pub hidden_integer : ℕ → Activation → Option ℤ
hidden_integer n a = integer_in (shape (nth a.locals n))

-- generic `for`: four hidden locals are the iterator, the state, the control variable and the value to be closed

abbrev pub iterates : ℕ → List Name → Block → List Value → Activation → List Work → Next Body State
iterates line names block vs a k =
    let n = length a.locals in
    go (mark line (codes "?") (n + 3) complete) (with_locals a (fitted 4 vs)) (iterating line names block n ∷ k)

-- before each round the iterator is called
abbrev pub calls_iterator : ℕ → List Name → Block → (level : ℕ) → Activation → List Work → Next Body State
calls_iterator line names block level a k =
    asks (calls (nth a.locals level) (nth a.locals (level + 1) ∷ nth a.locals (level + 2) ∷ [])) line a (iterating line names block level ∷ k) test_round

-- the loop ends where the first of the iterator's values is nil
abbrev pub tests_round : ℕ → List Name → Block → (level : ℕ) → List Value → Activation → List Work → Next Body State
tests_round line names block level vs a k =
    cond (is_nil (first vs)) (go (leave_scope level line (known nil) complete) a k)
    (go (pay line (enter_round vs)) a (iterating line names block level ∷ k))

abbrev pub enters_round : ℕ → List Name → Block → (level : ℕ) → List Value → Activation → List Work → Next Body State
enters_round line names block level vs a k =
    go (declared a.celling line (numbers (level + 4) (length names)) (run (point_of block (level + 4))))
    (record a { locals = write (level + 2) (first vs) (take (level + 4) a.locals) ++ fitted (length names) vs }) (iterating line names block level ∷ k)

-- `return`

abbrev pub has_none : List Pending → Bool
has_none [] = true
has_none _ = false

-- one call behind `return` is a tail call, unless a variable to be closed or a generic `for` is in scope
abbrev pub begins_return : ℕ → Exps → Activation → List Work → Next Body State
begins_return line (MoreExps (Call call_line callee es) EndExps) a k =
    cond (has_none a.pending) (go (evaluate callee) a (callee_of call_line true es ∷ k))
    (go (collect (for_return line) [] (MoreExps (Call call_line callee es) EndExps)) a k)
begins_return line (MoreExps (Method call_line object name es) EndExps) a k =
    cond (has_none a.pending) (go (evaluate object) a (method_of call_line true name.text es ∷ k))
    (go (collect (for_return line) [] (MoreExps (Method call_line object name es) EndExps)) a k)
begins_return line es a k = go (collect (for_return line) [] es) a k

-- a statement begins
abbrev pub executes : Stat → Activation → List Work → Next Body State
executes (Empty line) a k = go complete a k
executes (Local line names es) a k = go (collect (for_declaration line names) [] es) a k
executes (LocalFunction line name body) a k = declares_function body a k
executes (Assign line targets es) a k = go (aim [] targets es) a k
executes (CallStat line e) a k = go (evaluate e) a (dropped ∷ k)
executes (Do line block) a k = begins block a k
executes (While line test block) a k = go (evaluate test) a (while_test line test block ∷ k)
executes (Repeat line block test) a k = go (run (repeat_point block test (length a.locals))) a (repeating line test block (length a.locals) ∷ k)
executes (If line some) a k = go (choose some None) a k
executes (IfElse line some block) a k = go (choose some (Some block)) a k
executes (NumFor line name from limit block) a k = go (collect (for_counting line block) [] (MoreExps from (MoreExps limit EndExps))) a k
executes (NumForStep line name from limit step block) a k =
    go (collect (for_counting line block) [] (MoreExps from (MoreExps limit (MoreExps step EndExps)))) a k
executes (GenFor line names es block) a k = go (collect (for_iterating line names block) [] es) a k
executes (Label line name) a k = go complete a k
executes (Goto line name) a k = goes_to name.text line a k
executes (Break line) a k = breaks line a k

-- the block's statements in their order, and then its end
abbrev pub ends : End → (level : ℕ) → Activation → List Work → Next Body State
ends (falls_off line) level a k = go (leave_scope level line (known nil) complete) a k
ends (returns_list line es) level a k = begins_return line es a k
ends (until line test) level a k = go (evaluate test) a (until_test line level ∷ k)

abbrev pub runs_on : Stats → Point → Activation → List Work → Next Body State
runs_on EndStats p a k = ends p.ending p.level a k
runs_on (MoreStats (Label line name) ss) p a k = go (run (record p { rest = ss; labels = passed_by name (length a.locals) ss ∷ p.labels })) a k
runs_on (MoreStats s ss) p a k = executes s a (in_block (length a.locals) (record p { rest = ss }) ∷ k)

abbrev pub chooses : Arms → Option Block → Activation → List Work → Next Body State
chooses (MoreArms test block more) otherwise a k = go (evaluate test) a (if_test block more otherwise ∷ k)
chooses EndArms (Some block) a k = begins block a k
chooses EndArms None a k = go complete a k
