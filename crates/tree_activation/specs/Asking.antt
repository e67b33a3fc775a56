-- How an activation asks, and how it goes on with the answer.
use Rattle.std.specs.Prelude.{ℕ, zero, suc, Bool, true, false, cond, nat_le, nat_lt, List, [], ◌∷◌, ◌++◌, length, take, Option, Some, None}
use Rattle.int_core.specs.Value.{Value, nth, shape, holds, bind, last, without_last}
use Rattle.int_core.specs.Ask.{CellName, of_local, of_upvalue, Left, throws, Ask, opens, marks, closes, raises, leaves, Reply, values, faulted, left, values_in, Answer, Next, goes_on, says, stuck, Captured, cell_held, held_below, gone_from, shared_by, brought}
use Rattle.tree_core.specs.declared.name.UpName.{UpName}
use Rattle.tree_core.specs.Tree.{Body}
use Rattle.tree_activation.specs.Work.{Control, capture, leave_scope, raise, finish, over, Work, Celling, when_declared, when_captured, Pending, Activation, State, at}

abbrev pub first : List Value → Value
first vs = nth vs 0

abbrev pub go : Control → Activation → List Work → Next Body State
go control a k = goes_on (at control a k)

-- asks

-- the captured locals have the values that an answer brings
abbrev pub told : Activation → List Value → Activation
told a shared = record a { locals = brought a.captured.held shared a.locals; captured = record { held = a.captured.held; gone = [] } }

abbrev pub says_so : Ask Body → ℕ → Activation → (Answer → Activation → State) → Next Body State
says_so ask line a answered = says ask (Some line) (shared_by a.captured.held a.locals ++ a.captured.gone) (λ x. answered x (told a x.shared))

-- an ask that is answered at once, by values
abbrev pub asks_quickly : Ask Body → ℕ → Activation → List Work → (List Value → Control) → Next Body State
asks_quickly ask line a k goes = says_so ask line a (λ x b. at (goes (values_in x.reply)) b k)

-- values came; the step is at fault; or the activation is left with an error from above
abbrev pub heard : Reply → ℕ → Activation → List Work → (List Value → Control) → State
heard (values vs) line a k goes = at (goes vs) a k
heard (faulted text) line a k goes = at (raise line text) a []
heard (left e) line a k goes = at (leave_scope 0 line e (finish line (throws e))) a []

abbrev pub asks : Ask Body → ℕ → Activation → List Work → (List Value → Control) → Next Body State
asks ask line a k goes = says_so ask line a (λ x b. heard x.reply line b k goes)

-- scopes

-- the cells of the locals from a level on are cut loose, with the values that the locals have
abbrev pub cut : ℕ → Activation → Captured
cut level a = record { held = held_below level a.captured.held; gone = gone_from level a.captured.held a.locals ++ a.captured.gone }

-- the last local to be closed, where it is at a level or above
abbrev pub last_pending : ℕ → List Pending → Option Pending
last_pending level pending = bind (last pending) (λ p. cond (nat_le level p.number) (Some p) None)

abbrev pub close_local : Pending → ℕ → ℕ → Value → Control → Activation → List Work → Next Body State
close_local p level line e next a k =
    cond p.needed
    (asks (closes (nth a.locals p.number) e) line (record a { pending = without_last a.pending; captured = cut level a }) k (λ _. leave_scope level line e next))
    (go (leave_scope level line e next) (record a { pending = without_last a.pending }) k)

abbrev pub leave_by : Option Pending → ℕ → ℕ → Value → Control → Activation → List Work → Next Body State
leave_by (Some p) level line e next a k = close_local p level line e next a k
leave_by None level line e next a k = go next (record a { locals = take level a.locals; captured = cut level a }) k

abbrev pub leaves_scope : ℕ → ℕ → Value → Control → Activation → List Work → Next Body State
leaves_scope level line e next a k = leave_by (last_pending level a.pending) level line e next a k

abbrev pub with_pending : Activation → ℕ → Bool → Activation
with_pending a n needed = record a { pending = a.pending ++ record { number = n; needed = needed } ∷ [] }

-- a variable to be closed: nil and false need no closing method
abbrev pub marked : Reply → ℕ → ℕ → Control → Activation → List Work → State
marked (values vs) line n next a k = at next (with_pending a n true) k
marked reply line n next a k = heard reply line a k (λ _. next)

abbrev pub marks_local : ℕ → List ℕ → ℕ → Control → Activation → List Work → Next Body State
marks_local line name n next a k =
    cond (holds (shape (nth a.locals n)))
    (says_so (marks (nth a.locals n) name) line a (λ x b. marked x.reply line n next b k))
    (go next (with_pending a n false) k)

-- leaving

-- what the locals to be closed hold that need it, the last one first
abbrev pub closed_of : List Value → List Pending → List Value
closed_of locals [] = []
closed_of locals (p ∷ pending) = closed_of locals pending ++ cond p.needed (nth locals p.number ∷ []) []

-- what an activation still closes where it is left
abbrev pub to_close : State → List Value
to_close (at control a k) = closed_of a.locals a.pending

-- the activation's own step is at fault: its cells are cut loose, the world raises the error, and it is left with what the error has become
abbrev pub raises_fault : ℕ → List ℕ → Activation → Next Body State
raises_fault line text a = asks (raises text) line (record a { captured = cut 0 a }) [] (λ _. over)

abbrev pub finishes : ℕ → Left → Activation → Next Body State
finishes line l a = asks_quickly (leaves l) line a [] (λ _. over)

-- functions

abbrev pub hold : ℕ → ℕ → Activation → Activation
hold n cell a = record a { captured = record { held = (n, cell) ∷ a.captured.held; gone = a.captured.gone } }

-- a local that has a cell keeps it
abbrev pub captures_one : Option ℕ → ℕ → ℕ → List ℕ → Control → Activation → List Work → Next Body State
captures_one (Some cell) line n ns next a k = go (capture line ns next) a k
captures_one None line n ns next a k = says_so (opens (nth a.locals n)) line a (λ x b. at (capture line ns next) (hold n x.cell b) k)

-- each of these locals gets a cell; where one is not in scope, which stands in no placed tree, nothing more is done
abbrev pub captures : ℕ → List ℕ → Control → Activation → List Work → Next Body State
captures line [] next a k = go next a k
captures line (n ∷ ns) next a k = cond (nat_lt n (length a.locals)) (captures_one (cell_held n a.captured.held) line n ns next a k) stuck

-- locals have been declared
abbrev pub declared : Celling → ℕ → List ℕ → Control → Control
declared when_declared line ns next = capture line ns next
declared when_captured line ns next = next

-- how the numbers of n locals go on from one
abbrev pub numbers : ℕ → ℕ → List ℕ
numbers from zero = []
numbers from (suc n) = from ∷ numbers (suc from) n

-- the locals that a function captures, and the cells that it gets
abbrev pub captured_locals : List UpName → List ℕ
captured_locals [] = []
captured_locals (u ∷ us) = cond u.in_stack (u.index ∷ captured_locals us) (captured_locals us)

abbrev pub cell_name : UpName → List (ℕ × ℕ) → Option CellName
cell_name u held = cond u.in_stack (bind (cell_held u.index held) (λ cell. Some (of_local cell))) (Some (of_upvalue u.index))

abbrev pub cell_names : List UpName → List (ℕ × ℕ) → Option (List CellName)
cell_names [] held = Some []
cell_names (u ∷ us) held = bind (cell_name u held) (λ name. bind (cell_names us held) (λ names. Some (name ∷ names)))
