-- Who answers each ask of an activation.
use Rattle.std.specs.Prelude.{ℕ, zero, suc, cond, List, [], ◌∷◌, ◌++◌, length, Option, Some, None, option_map, slice_get, slice_set, codes}
use Rattle.int_core.specs.Value.{a_table, a_function, Value, object, is_nil, nth, bind}
use Rattle.int_core.specs.Heap.{filled_table, add_table}
use Rattle.int_core.specs.Operations.{Settled, found, ask, fault, cannot_arise, does, handler_in, of_close}
use Rattle.int_core.specs.Ask.{CellName, of_local, of_upvalue, returns, throws, Ask, reads_upvalue, writes_upvalue, makes_table, makes_function, fills_table, pays, opens, operates, calls, calls_last, marks, closes, raises, leaves, Reply, values, faulted, Next, goes_on, says, stuck}
use Rattle.lua_meaning.specs.World.{System, Function, Asker, Frame, talking, waiting, raising, spent, gives_back, unwinds, ends, World, now_in, breaks, on_frames, shared_in, cell_of, raises_text, answered, answered_at_once, as_known}
use Rattle.lua_meaning.specs.Calls.{calls_value}

abbrev pub one : Value → Reply
one v = values (v ∷ [])

abbrev pub none : Reply
none = values []

-- the cells of a new function; None where one of them is not there, which stands in no placed tree
abbrev pub cells_named : {F S : Type 0} → World F S → (function : ℕ) → List CellName → Option (List ℕ)
cells_named W f [] = Some []
cells_named W f (of_local c ∷ names) = option_map (λ cells. c ∷ cells) (cells_named W f names)
cells_named W f (of_upvalue u ∷ names) = bind (cell_of W f u) (λ c. option_map (λ cells. c ∷ cells) (cells_named W f names))

-- an inner function is of the same source as the function that makes it
abbrev pub of_maker : {E F : Type 0} → Function E → F → (cells : List ℕ) → Function F
of_maker maker body cells = record { made_of = body; source = maker.source; has_lines = maker.has_lines; cells = cells }

abbrev pub made_in : {F S : Type 0} → World F S → (maker : ℕ) → F → List CellName → Option (Function F)
made_in W maker body names = bind (slice_get W.functions maker) (λ g. option_map (of_maker g body) (cells_named W maker names))

abbrev pub gets_function : {F S : Type 0} → World F S → Asker S → List (Frame S) → Option (Function F) → World F S
gets_function W asker below None = breaks W
gets_function W asker below (Some f) =
    answered_at_once (record W { functions = W.functions ++ f ∷ [] }) asker 0 (one (object a_function (length W.functions))) below

-- a unit is spent; where none is left, the turn has ended
abbrev pub pays_unit : {F S : Type 0} → (fuel : ℕ) → World F S → Asker S → List (Frame S) → World F S
pays_unit zero W asker below = now_in W (ends spent)
pays_unit (suc fuel) W asker below = answered_at_once (record W { fuel = fuel }) asker 0 none below

module _ {F S : Type 0} (system : System F S) where
  -- a callee that cannot be called is the activation's own fault
  abbrev pub calls_for : World F S → Asker S → List (Frame S) → Value → List Value → World F S
  calls_for W asker below f vs = calls_value system (on_frames W (waiting asker ∷ below)) f vs (λ why V. answered V asker (faulted why) below)

  -- a call in the activation's own place leaves no frame of it
  abbrev pub calls_in_place : World F S → Asker S → List (Frame S) → Value → List Value → World F S
  calls_in_place W asker below f vs = calls_value system (on_frames W below) f vs (λ why V. answered_at_once V asker 0 (faulted why) below)

  abbrev pub settled : World F S → Asker S → List (Frame S) → Settled → World F S
  settled W asker below (found H vs) = answered (record W { heap = H }) asker (values vs) below
  settled W asker below (ask h vs) = calls_for W asker below h vs
  settled W asker below (fault why) = answered W asker (faulted why) below
  settled W asker below cannot_arise = breaks W

  -- the cells that the asker shares are written
  abbrev pub handle : Ask F → World F S → Asker S → List (Frame S) → World F S
  handle (reads_upvalue u) W asker below = elim (cell_of W asker.function u) [
    | None ↦ breaks W
    | Some c ↦ answered_at_once W asker 0 (one (nth W.cells c)) below
  ]
  handle (writes_upvalue u v) W asker below = elim (cell_of W asker.function u) [
    | None ↦ breaks W
    | Some c ↦ answered_at_once (record W { cells = slice_set W.cells c v }) asker 0 none below
  ]
  handle makes_table W asker below = answered_at_once (record W { heap = add_table W.heap }) asker 0 (one (object a_table (length W.heap.tables))) below
  handle (makes_function body names) W asker below = gets_function W asker below (made_in W asker.function body names)
  handle (fills_table t last vs) W asker below = elim (filled_table W.heap t last vs) [
    | None ↦ breaks W
    | Some H ↦ answered_at_once (record W { heap = H }) asker 0 none below
  ]
  handle pays W asker below = pays_unit W.fuel W asker below
  handle (opens v) W asker below = answered_at_once (record W { cells = W.cells ++ v ∷ [] }) asker (length W.cells) none below
  handle (operates op vs) W asker below = settled W asker below (does op vs W.heap)
  handle (calls f vs) W asker below = calls_for W asker below f vs
  handle (calls_last f vs) W asker below = calls_in_place W asker below f vs
  handle (marks v name) W asker below =
      cond (is_nil (handler_in W.heap of_close v))
      (answered_at_once W asker 0 (faulted (codes "variable '" ++ name ++ codes "' got a non-closable value")) below)
      (answered_at_once W asker 0 none below)
  handle (closes v e) W asker below = calls_for W asker below (handler_in W.heap of_close v) (v ∷ e ∷ [])
  handle (raises why) W asker below = raises_text (on_frames W (raising asker ∷ below)) why
  handle (leaves (returns vs)) W asker below = now_in (on_frames W below) (gives_back vs)
  handle (leaves (throws e)) W asker below = now_in (on_frames W below) (unwinds e)

  -- what the activation on top does next
  abbrev pub turns : Next F S → World F S → (function : ℕ) → List (Frame S) → World F S
  turns (goes_on s) W f below = on_frames W (talking f s ∷ below)
  turns (says q line shared k) W f below =
      handle q (record W { cells = shared_in shared W.cells }) (record { function = f; line = line; shared = shared; goes = k }) below
  turns stuck W f below = breaks W

  abbrev pub talks_on : World F S → List (Frame S) → World F S
  talks_on W (talking f s ∷ below) = elim (slice_get W.functions f) [
    | None ↦ breaks W
    | Some g ↦ turns (as_known g.has_lines (system.steps g.made_of s)) W f below
  ]
  talks_on W _ = breaks W
