-- How an activation evaluates expressions (Lua 5.4 manual, 3.4), one line a form. Operands are evaluated from left to right, and each one's
-- value is read at its turn.
use Rattle.std.specs.Prelude.{ℕ, ◌+◌, ℤ, Bool, true, false, cond, not, List, [], ◌∷◌, ◌++◌, Option, Some, None}
use Rattle.int_core.specs.Value.{Value, known, nil, boolean, integer, string, Shape, is_known, nth, shape, holds}
use Rattle.int_core.specs.Operations.{Event, of_add, of_sub, of_mul, of_mod, of_idiv, of_band, of_bor, of_bxor, of_shl, of_shr, of_unm, of_bnot, computed, by_zero, Operation, index, store, arithmetic, concat, length', equal, less, less_equal}
use Rattle.int_core.specs.Ask.{CellName, reads_upvalue, makes_table, makes_function, fills_table, operates, Next, stuck}
use Rattle.tree_core.specs.declared.name.Place.{Place}
use Rattle.tree_core.specs.declared.name.Place.TheVariants.{Unset, Local, Upvalue, GlobalIn, GlobalOf}
use Rattle.tree_core.specs.declared.operator.UnOp.{UnOp}
use Rattle.tree_core.specs.declared.operator.UnOp.TheVariants.{Neg, BitNot, Not, Len}
use Rattle.tree_core.specs.declared.operator.BinOp.{BinOp}
use Rattle.tree_core.specs.declared.operator.BinOp.TheVariants.{Add, Sub, Mul, Mod, Idiv, Band, Bor, Bxor, Shl, Shr, Concat, Eq, Ne, Lt, Le, Gt, Ge}
use Rattle.tree_core.specs.Tree.{Body, Exp, Nil, True, False, Int, Str, Vararg, Function, Var, Index, Call, Method, Unary, Binary, And, Or, Paren, Table, Exps, EndExps, Fields, EndFields, MoreFields, Item, Keyed}
use Rattle.tree_activation.specs.Work.{Control, evaluate, give, construct, capture, make, raise, Work, key_of, field_of, operand_of, right_of, and_right, or_right, first_only, callee_of, method_of, item_of, keyed_value, Activation, State}
use Rattle.tree_activation.specs.Asking.{first, go, asks_quickly, asks, captured_locals, cell_names}
use Rattle.tree_terms.specs.Bodies.{line_of_body, upvalues_of}

-- one value is given
abbrev pub gives : Value → Activation → List Work → Next Body State
gives v a k = go (give (v ∷ [])) a k

abbrev pub give_first : List Value → Control
give_first vs = give (first vs ∷ [])

-- variables

-- a global name x is the field x of the variable _ENV that is visible there
abbrev pub reads_variable : ℕ → List ℕ → Place → Activation → List Work → Next Body State
reads_variable line name Unset a k = stuck
reads_variable line name (Local n) a k = gives (nth a.locals n) a k
reads_variable line name (Upvalue u) a k = asks_quickly (reads_upvalue u) line a k give_first
reads_variable line name (GlobalIn n) a k = asks (operates index (nth a.locals n ∷ known (string name) ∷ [])) line a k give_first
reads_variable line name (GlobalOf u) a k = asks_quickly (reads_upvalue u) line a (field_of line (known (string name)) ∷ k) give_first

-- an expression begins
abbrev pub evaluates : Exp → Activation → List Work → Next Body State
evaluates (Nil line) a k = gives (known nil) a k
evaluates (True line) a k = gives (known (boolean true)) a k
evaluates (False line) a k = gives (known (boolean false)) a k
evaluates (Int line n) a k = gives (known (integer n)) a k
evaluates (Str line bytes) a k = gives (known (string bytes)) a k
evaluates (Vararg line) a k = go (give a.varargs) a k
evaluates (Function line body) a k = go (capture (line_of_body body) (captured_locals (upvalues_of body)) (make body)) a k
evaluates (Var line name) a k = reads_variable line name.text name.place a k
evaluates (Index line object key) a k = go (evaluate object) a (key_of line key ∷ k)
evaluates (Call line callee es) a k = go (evaluate callee) a (callee_of line false es ∷ k)
evaluates (Method line object name es) a k = go (evaluate object) a (method_of line false name.text es ∷ k)
evaluates (Unary line op operand) a k = go (evaluate operand) a (operand_of line op ∷ k)
evaluates (Binary line op left_side right_side) a k = go (evaluate left_side) a (right_of line op right_side ∷ k)
evaluates (And line left_side right_side) a k = go (evaluate left_side) a (and_right right_side ∷ k)
evaluates (Or line left_side right_side) a k = go (evaluate left_side) a (or_right right_side ∷ k)
evaluates (Paren line inner) a k = go (evaluate inner) a (first_only ∷ k)
evaluates (Table line fields) a k = asks_quickly makes_table line a k (λ vs. construct line (first vs) 0 fields)

-- a function, once the locals that it captures have cells
abbrev pub makes_with : Option (List CellName) → Body → Activation → List Work → Next Body State
makes_with None body a k = stuck
makes_with (Some names) body a k = asks_quickly (makes_function body names) (line_of_body body) a k give_first

abbrev pub makes : Body → Activation → List Work → Next Body State
makes body a k = makes_with (cell_names (upvalues_of body) a.captured.held) body a k

-- operators

abbrev pub integer_in : Shape → Option ℤ
integer_in (is_known (integer n)) = Some n
integer_in _ = None

-- what two integers give, which may be nothing where the right one is 0
abbrev pub gives_integer : Option ℤ → Event → ℕ → Activation → List Work → Next Body State
gives_integer None event line a k = go (raise line (by_zero event)) a k
gives_integer (Some z) event line a k = gives (known (integer z)) a k

-- on two integers it is done at once; else strings that spell integers are converted, or a handler is called
abbrev pub by_integers : Event → Option ℤ → Option ℤ → ℕ → Value → Value → Activation → List Work → Next Body State
by_integers event (Some m) (Some n) line v w a k = gives_integer (computed event m n) event line a k
by_integers event _ _ line v w a k = asks (operates (arithmetic event) (v ∷ w ∷ [])) line a k give_first

abbrev pub arithmetic_of : Event → ℕ → Value → Value → Activation → List Work → Next Body State
arithmetic_of event line v w a k = by_integers event (integer_in (shape v)) (integer_in (shape w)) line v w a k

abbrev pub operation_of : Operation → List Value → ℕ → Activation → List Work → Next Body State
operation_of operation vs line a k = asks (operates operation vs) line a k give_first

-- the truth of the first result, or its opposite
abbrev pub truth_of : Operation → Bool → Value → Value → ℕ → Activation → List Work → Next Body State
truth_of operation as_is v w line a k =
    asks (operates operation (v ∷ w ∷ [])) line a k (λ vs. give (known (boolean (cond as_is (holds (shape (first vs))) (not (holds (shape (first vs)))))) ∷ []))

abbrev pub binary : BinOp → ℕ → Value → Value → Activation → List Work → Next Body State
binary Add line v w a k = arithmetic_of of_add line v w a k
binary Sub line v w a k = arithmetic_of of_sub line v w a k
binary Mul line v w a k = arithmetic_of of_mul line v w a k
binary Mod line v w a k = arithmetic_of of_mod line v w a k
binary Idiv line v w a k = arithmetic_of of_idiv line v w a k
binary Band line v w a k = arithmetic_of of_band line v w a k
binary Bor line v w a k = arithmetic_of of_bor line v w a k
binary Bxor line v w a k = arithmetic_of of_bxor line v w a k
binary Shl line v w a k = arithmetic_of of_shl line v w a k
binary Shr line v w a k = arithmetic_of of_shr line v w a k
binary Concat line v w a k = operation_of concat (v ∷ w ∷ []) line a k
binary Eq line v w a k = truth_of equal true v w line a k
binary Ne line v w a k = truth_of equal false v w line a k
binary Lt line v w a k = truth_of less true v w line a k
binary Le line v w a k = truth_of less_equal true v w line a k
binary Gt line v w a k = truth_of less true w v line a k
binary Ge line v w a k = truth_of less_equal true w v line a k

-- a handler of an operator before one operand gets it twice
abbrev pub unary : UnOp → ℕ → Value → Activation → List Work → Next Body State
unary Neg line v a k = operation_of (arithmetic of_unm) (v ∷ v ∷ []) line a k
unary BitNot line v a k = operation_of (arithmetic of_bnot) (v ∷ v ∷ []) line a k
unary Not line v a k = gives (known (boolean (not (holds (shape v))))) a k
unary Len line v a k = operation_of length' (v ∷ []) line a k

-- lists

-- whether all values of the last expression count, as in a call; the three of a numeric `for` give one each
abbrev pub added : Bool → Exps → List Value → List Value → List Value
added all EndExps have vs = cond all (have ++ vs) (have ++ first vs ∷ [])
added all es have vs = have ++ first vs ∷ []

-- table constructors: the fields are stored in the order in which they stand, and the items are numbered from 1 on

abbrev pub constructs : ℕ → Value → ℕ → Fields → Activation → List Work → Next Body State
constructs line t items EndFields a k = gives t a k
constructs line t items (MoreFields (Item e) fs) a k = go (evaluate e) a (item_of line t items fs ∷ k)
constructs line t items (MoreFields (Keyed field_line key e) fs) a k = go (evaluate key) a (keyed_value line t items field_line e fs ∷ k)

-- all values of the last item are stored
abbrev pub stores_item : ℕ → Value → ℕ → Fields → List Value → Activation → List Work → Next Body State
stores_item line t items EndFields vs a k = asks_quickly (fills_table t items vs) line a k (λ _. give (t ∷ []))
stores_item line t items fs vs a k = asks_quickly (fills_table t items (first vs ∷ [])) line a k (λ _. construct line t (items + 1) fs)

abbrev pub stores_keyed : ℕ → Value → ℕ → ℕ → Value → Fields → Value → Activation → List Work → Next Body State
stores_keyed line t items field_line key fs v a k = asks (operates store (t ∷ key ∷ v ∷ [])) field_line a k (λ _. construct line t items fs)
