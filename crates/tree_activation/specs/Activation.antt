-- One activation of a function as an automaton on its tree: its start and its step (Lua 5.4 manual, 3.3 and 3.4).
use Rattle.std.specs.Prelude.{ℕ, ◌+◌, Bool, true, false, cond, List, [], ◌∷◌, ◌++◌, length, drop, reverse}
use Rattle.int_core.specs.Value.{Value, known, nil, string, shape, holds, write, fitted}
use Rattle.int_core.specs.Operations.{index}
use Rattle.int_core.specs.Ask.{returns, operates, calls, calls_last, pays, Next, stuck}
use Rattle.tree_core.specs.Tree.{Body, BodyOf, Falls, Returns, Block, Exps, EndExps, MoreExps}
use Rattle.tree_activation.specs.Work.{Purpose, for_call, for_return, for_declaration, for_assignment, for_counting, for_iterating, Control, evaluate, give, collect, construct, aim, store, choose, run, complete, decide, count_round, test_round, enter_round, capture, make, mark, pay, leave_scope, raise, finish, over, Work, key_of, object_of, field_of, operand_of, right_of, left_of, and_right, or_right, first_only, callee_of, method_of, listed, item_of, keyed_value, keyed_store, aimed_key, aimed_field, function_to, dropped, if_test, while_test, until_test, in_block, looping, repeating, counting, iterating, end_of_body, to_field, Celling, Activation, State, at}
use Rattle.tree_activation.specs.Asking.{first, go, asks_quickly, asks, leaves_scope, marks_local, raises_fault, finishes, captures, declared, numbers}
use Rattle.tree_activation.specs.Expressions.{gives, give_first, evaluates, makes, binary, unary, added, constructs, stores_item, stores_keyed}
use Rattle.tree_activation.specs.Statements.{point_of, repeat_point, begins, declares, aims, paired, stores, counts, counts_on, counts_round, hidden_integer, iterates, calls_iterator, tests_round, enters_round, runs_on, chooses}

-- a list of values is complete
abbrev pub uses_list : Purpose → List Value → Activation → List Work → Next Body State
uses_list (for_call line is_last) [] a k = stuck
uses_list (for_call line is_last) (f ∷ vs) a k = cond is_last (asks (calls_last f vs) line a [] (λ _. over)) (asks (calls f vs) line a k give)
uses_list (for_return line) vs a k = go (leave_scope 0 line (known nil) (finish line (returns vs))) a []
uses_list (for_declaration line names) vs a k = declares line names vs a k
uses_list (for_assignment aimed) vs a k = go (store (reverse (paired aimed vs))) a k
uses_list (for_counting line block) vs a k = counts line block vs a k
uses_list (for_iterating line names block) vs a k = iterates line names block vs a k

abbrev pub takes_all : Purpose → Bool
takes_all (for_counting line block) = false
takes_all _ = true

abbrev pub collects : Purpose → List Value → Exps → Activation → List Work → Next Body State
collects purpose have EndExps a k = uses_list purpose have a k
collects purpose have (MoreExps e es) a k = go (evaluate e) a (listed purpose have es ∷ k)

-- values are given to the work that waits for them
abbrev pub given : List Value → Activation → Work → List Work → Next Body State
given vs a (key_of line key) k = go (evaluate key) a (object_of line (first vs) ∷ k)
given vs a (object_of line o) k = asks (operates index (o ∷ first vs ∷ [])) line a k give_first
given vs a (field_of line key) k = asks (operates index (first vs ∷ key ∷ [])) line a k give_first
given vs a (operand_of line op) k = unary op line (first vs) a k
given vs a (right_of line op right_side) k = go (evaluate right_side) a (left_of line op (first vs) ∷ k)
given vs a (left_of line op v) k = binary op line v (first vs) a k
given vs a (and_right right_side) k = cond (holds (shape (first vs))) (go (evaluate right_side) a (first_only ∷ k)) (gives (first vs) a k)
given vs a (or_right right_side) k = cond (holds (shape (first vs))) (gives (first vs) a k) (go (evaluate right_side) a (first_only ∷ k))
given vs a first_only k = gives (first vs) a k
given vs a (callee_of line is_last es) k = go (collect (for_call line is_last) (first vs ∷ []) es) a k
given vs a (method_of line is_last name es) k =
    asks (operates index (first vs ∷ known (string name) ∷ [])) line a k (λ ws. collect (for_call line is_last) (first ws ∷ first vs ∷ []) es)
given vs a (listed purpose have es) k = go (collect purpose (added (takes_all purpose) es have vs) es) a k
given vs a (item_of line t items fs) k = stores_item line t items fs vs a k
given vs a (keyed_value line t items field_line e fs) k = go (evaluate e) a (keyed_store line t items field_line (first vs) fs ∷ k)
given vs a (keyed_store line t items field_line key fs) k = stores_keyed line t items field_line key fs (first vs) a k
given vs a (aimed_key line key aimed ts es) k = go (evaluate key) a (aimed_field line (first vs) aimed ts es ∷ k)
given vs a (aimed_field line t aimed ts es) k = go (aim (aimed ++ to_field line t (first vs) ∷ []) ts es) a k
given vs a (function_to n) k = go complete (record a { locals = write n (first vs) a.locals }) k
given vs a dropped k = go complete a k
given vs a (if_test block more otherwise) k = cond (holds (shape (first vs))) (begins block a k) (go (choose more otherwise) a k)
given vs a (while_test line test block) k = cond (holds (shape (first vs))) (begins block a (looping line test block (length a.locals) ∷ k)) (go complete a k)
given vs a (until_test line level) k = go (leave_scope level line (known nil) (decide (holds (shape (first vs))))) a k
given vs a _ k = stuck

-- a statement or a block is done
abbrev pub completes : Activation → Work → List Work → Next Body State
completes a (in_block here p) k = go (run p) a k
completes a (looping line test block level) k = go (pay line (evaluate test)) a (while_test line test block ∷ k)
completes a (counting line block level) k = counts_on line block level (hidden_integer (level + 1) a) a k
completes a (iterating line names block level) k = calls_iterator line names block level a k
completes a (end_of_body line) k = go (finish line (returns [])) a []
completes a _ k = stuck

abbrev pub decides : Bool → Activation → Work → List Work → Next Body State
decides true a (repeating line test block level) k = go complete a k
decides false a (repeating line test block level) k = go (pay line (run (repeat_point block test level))) a (repeating line test block level ∷ k)
decides truth a _ k = stuck

abbrev pub counts_in : Activation → Work → List Work → Next Body State
counts_in a (counting line block level) k =
    counts_round line block level (hidden_integer level a) (hidden_integer (level + 1) a) (hidden_integer (level + 2) a) a k
counts_in a _ k = stuck

abbrev pub tests_in : List Value → Activation → Work → List Work → Next Body State
tests_in vs a (iterating line names block level) k = tests_round line names block level vs a k
tests_in vs a _ k = stuck

abbrev pub enters_in : List Value → Activation → Work → List Work → Next Body State
enters_in vs a (iterating line names block level) k = enters_round line names block level vs a k
enters_in vs a _ k = stuck

-- the nearest work, where there is some
abbrev pub on_top : List Work → (Work → List Work → Next Body State) → Next Body State
on_top [] goes = stuck
on_top (w ∷ k) goes = goes w k

abbrev pub does : Control → Activation → List Work → Next Body State
does (evaluate e) a k = evaluates e a k
does (give vs) a k = on_top k (given vs a)
does (collect purpose have es) a k = collects purpose have es a k
does (construct line t items fs) a k = constructs line t items fs a k
does (aim aimed ts es) a k = aims aimed ts es a k
does (store pairs) a k = stores pairs a k
does (choose some otherwise) a k = chooses some otherwise a k
does (run p) a k = runs_on p.rest p a k
does complete a k = on_top k (completes a)
does (decide truth) a k = on_top k (decides truth a)
does count_round a k = on_top k (counts_in a)
does (test_round vs) a k = on_top k (tests_in vs a)
does (enter_round vs) a k = on_top k (enters_in vs a)
does (capture line ns next) a k = captures line ns next a k
does (make body) a k = makes body a k
does (mark line name n next) a k = marks_local line name n next a k
does (pay line next) a k = asks_quickly pays line a k (λ _. next)
does (leave_scope level line e next) a k = leaves_scope level line e next a k
does (raise line text) a k = raises_fault line text a
does (finish line l) a k = finishes line l a
does over a k = stuck

-- the activation's next step
abbrev pub step : State → Next Body State
step (at control a k) = does control a k

-- the line of the token that ends a block, or of its `return`
abbrev pub line_of_end : Block → ℕ
line_of_end (Falls ss tokens line) = line
line_of_end (Returns ss es tokens line) = line

-- parameters beyond the arguments are nil; arguments beyond the parameters are kept by a function that takes them
abbrev pub start : Celling → Body → List Value → State
start celling (BodyOf params vararg inner ups line) arguments =
    at (declared celling line (numbers 0 (length params)) (run (point_of inner 0)))
    (record {
      celling = celling;
      locals = fitted (length params) arguments;
      varargs = cond vararg (drop (length params) arguments) [];
      pending = [];
      captured = record { held = []; gone = [] };
    })
    (end_of_body (line_of_end inner) ∷ [])
