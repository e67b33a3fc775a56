-- Two worlds that agree: the second one numbers its objects otherwise and has some that nothing reaches. A local that both functions share
-- is open at the same place of both; another one is closed in the first world, and open in a coroutine of its own in the second.
use Rattle.std.proofs.Common.{◌≡◌, ℕ, zero, suc, List, [], ◌∷◌, Option, Some, None, refl, subst, sym}
use Rattle.std.specs.Prelude.{pos, codes, slice_get}
use Rattle.int_core.specs.Value.{string, integer, Kind, a_table, a_function, a_coroutine, Value, object}
use Rattle.machine_core.specs.World.{running, Activation, Frame, lua, Cell, closed, open_at, suspended, in_progress, World, OneEach}
use Rattle.machine_core.proofs.Machine.{int, text, started, counted, counts}
use Rattle.machine_alike.specs.Agree.{Pairs, SameNumber, SameCellNumber, Both, SameTable, SameFunction, SameCoroutine, SameCell, Loose, IsFirst, same_known, same_object, same_running, same_lua, same_in_progress, kept_closed, kept_apart, same_place, same_content, AgreeInTurn, IsSecond}

abbrev own : List Value → Activation
own registers = record { pc = 3; registers = registers; varargs = []; pending = []; opened = 0 }

abbrev frame : ℕ → List Value → Frame
frame n registers = lua (record { function = n; wait = running; own = own registers })

-- the globals are table 0, the function with the two shared locals is function 1
abbrev left : World
left = record (started 9 (record { code = counted; cells = [] } ∷ record { code = counts; cells = 0 ∷ 1 ∷ [] } ∷ []) (open_at 0 0 1 ∷ closed (int 5) ∷ [])
    (record { rows = (text (codes "t"), object a_table 1) ∷ []; metatable = None } ∷ record { rows = []; metatable = Some 0 } ∷ []) []) {
      coroutines = in_progress (frame 0 (object a_function 1 ∷ int 7 ∷ []) ∷ []) ∷ [];
      moving = object a_table 1 ∷ [];
    }

-- the same with the globals as table 2; coroutine 0 is one that nothing reaches
abbrev right : World
right = record (started 9 (record { code = counts; cells = 2 ∷ 0 ∷ [] } ∷ record { code = counted; cells = [] } ∷ []) (open_at 0 0 0 ∷ closed (int 1) ∷ open_at 1 0 1 ∷ [])
    (record { rows = []; metatable = Some 2 } ∷ record { rows = []; metatable = None } ∷ record { rows = (text (codes "t"), object a_table 0) ∷ []; metatable = None } ∷ []) []) {
      coroutines = suspended (frame 1 (int 5 ∷ []) ∷ []) ∷ in_progress (frame 1 (object a_function 0 ∷ int 7 ∷ []) ∷ []) ∷ [];
      globals = 2;
      prelude_environment = 2;
      main = Some 1;
      chain = 1 ∷ [];
      moving = object a_table 0 ∷ [];
    }

abbrev table_number : ℕ → Option ℕ
table_number zero = Some 2
table_number (suc zero) = Some 0
table_number _ = None

abbrev function_number : ℕ → Option ℕ
function_number zero = Some 1
function_number (suc zero) = Some 0
function_number _ = None

abbrev coroutine_number : ℕ → Option ℕ
coroutine_number zero = Some 1
coroutine_number _ = None

abbrev cell_number : ℕ → Option ℕ
cell_number zero = Some 2
cell_number (suc zero) = Some 0
cell_number _ = None

abbrev numbers : Kind → ℕ → Option ℕ
numbers a_table n = table_number n
numbers a_function n = function_number n
numbers a_coroutine n = coroutine_number n

abbrev pairs : Pairs
pairs = record { objects = numbers; cells = cell_number }

two_to_one : (f : ℕ → Option ℕ) (a b : ℕ) → f 0 ≡ Some a → f 1 ≡ Some b → (a ≡ b → ⊥) → ((n : ℕ) → f (suc (suc n)) ≡ None) → (i k j : ℕ) → f i ≡ Some j → f k ≡ Some j → i ≡ k
two_to_one f a b x y ne out zero zero j h l = refl
two_to_one f a b x y ne out (suc zero) (suc zero) j h l = refl
two_to_one f a b x y ne out zero (suc zero) j h l = absurd (ne (cc))
two_to_one f a b x y ne out (suc zero) zero j h l = absurd (ne (cc))
two_to_one f a b x y ne out (suc (suc n)) k j h l = let z = out n in absurd (cc)
two_to_one f a b x y ne out zero (suc (suc n)) j h l = let z = out n in absurd (cc)
two_to_one f a b x y ne out (suc zero) (suc (suc n)) j h l = let z = out n in absurd (cc)

numbers_one : (kind : Kind) (i k j : ℕ) → SameNumber pairs kind i j → SameNumber pairs kind k j → i ≡ k
numbers_one a_table i k j h l = two_to_one table_number 2 0 refl refl (λ e. cc) (λ n. refl) i k j h l
numbers_one a_function i k j h l = two_to_one function_number 1 0 refl refl (λ e. cc) (λ n. refl) i k j h l
numbers_one a_coroutine zero zero j h l = refl
numbers_one a_coroutine zero (suc n) j h l = absurd (cc)
numbers_one a_coroutine (suc n) k j h l = absurd (cc)

-- no coroutine of the first world stands for coroutine 0 of the second
unpaired : IsSecond pairs 0 → ⊥
unpaired h = by h.0 h.1
  where
    by : (c : ℕ) → coroutine_number c ≡ Some 0 → ⊥
    by zero e = cc
    by (suc n) e = cc

same_tables : (i j : ℕ) → SameNumber pairs a_table i j → Both (SameTable pairs) (slice_get left.heap.tables i) (slice_get right.heap.tables j)
same_tables zero j h = let e : j ≡ 2 = cc in subst (λ j. Both (SameTable pairs) (slice_get left.heap.tables 0) (slice_get right.heap.tables j)) (sym e) here
  where
    here : SameTable pairs (record { rows = (text (codes "t"), object a_table 1) ∷ []; metatable = None }) (record { rows = (text (codes "t"), object a_table 0) ∷ []; metatable = None })
    here = record { rows = ((same_known (string (codes "t")), same_object a_table 1 0 refl), tt); metatable = tt }
same_tables (suc zero) j h = let e : j ≡ 0 = cc in subst (λ j. Both (SameTable pairs) (slice_get left.heap.tables 1) (slice_get right.heap.tables j)) (sym e) here
  where
    here : SameTable pairs (record { rows = []; metatable = Some 0 }) (record { rows = []; metatable = Some 2 })
    here = record { rows = tt; metatable = refl }
same_tables (suc (suc n)) j h = absurd (cc)

same_functions : (i j : ℕ) → SameNumber pairs a_function i j → Both (SameFunction pairs) (slice_get left.functions i) (slice_get right.functions j)
same_functions zero j h = let e : j ≡ 1 = cc in subst (λ j. Both (SameFunction pairs) (slice_get left.functions 0) (slice_get right.functions j)) (sym e) here
  where
    here : SameFunction pairs (record { code = counted; cells = [] }) (record { code = counted; cells = [] })
    here = record { code = refl; cells = tt }
same_functions (suc zero) j h = let e : j ≡ 0 = cc in subst (λ j. Both (SameFunction pairs) (slice_get left.functions 1) (slice_get right.functions j)) (sym e) here
  where
    here : SameFunction pairs (record { code = counts; cells = 0 ∷ 1 ∷ [] }) (record { code = counts; cells = 2 ∷ 0 ∷ [] })
    here = record { code = refl; cells = (refl, (refl, tt)) }
same_functions (suc (suc n)) j h = absurd (cc)

same_coroutines : (i j : ℕ) → SameNumber pairs a_coroutine i j → Both (SameCoroutine pairs) (slice_get left.coroutines i) (slice_get right.coroutines j)
same_coroutines zero j h = let e : j ≡ 1 = cc in subst (λ j. Both (SameCoroutine pairs) (slice_get left.coroutines 0) (slice_get right.coroutines j)) (sym e) here
  where
    here : SameCoroutine pairs (in_progress (frame 0 (object a_function 1 ∷ int 7 ∷ []) ∷ [])) (in_progress (frame 1 (object a_function 0 ∷ int 7 ∷ []) ∷ []))
    here = same_in_progress _ _ (
      same_lua _ _ (record {
        function = refl;
        wait = same_running;
        own = record { pc = refl; registers = (same_object a_function 1 0 refl, (same_known (integer (pos 7)), tt)); varargs = tt; pending = refl; opened = refl };
      }),
      tt,
    )
same_coroutines (suc n) j h = absurd (cc)

same_cells : (i j : ℕ) → SameCellNumber pairs i j → Both (SameCell pairs left.coroutines right.coroutines) (slice_get left.cells i) (slice_get right.cells j)
same_cells zero j h = let e : j ≡ 2 = cc in subst (λ j. Both (SameCell pairs left.coroutines right.coroutines) (slice_get left.cells 0) (slice_get right.cells j)) (sym e) here
  where
    here : SameCell pairs left.coroutines right.coroutines (open_at 0 0 1) (open_at 1 0 1)
    here = same_place 0 1 0 1 refl
same_cells (suc zero) j h = let e : j ≡ 0 = cc in subst (λ j. Both (SameCell pairs left.coroutines right.coroutines) (slice_get left.cells 1) (slice_get right.cells j)) (sym e) here
  where
    here : SameCell pairs left.coroutines right.coroutines (closed (int 5)) (open_at 0 0 0)
    here = same_content (closed (int 5)) (open_at 0 0 0) (int 5) (int 5) (kept_closed (int 5)) (kept_apart 0 0 0 (int 5) unpaired refl) (same_known (integer (pos 5)))
same_cells (suc (suc n)) j h = absurd (cc)

left_each : OneEach left.cells
left_each zero zero co f r h k = refl
left_each zero (suc zero) co f r h k = cc
left_each zero (suc (suc n)) co f r h k = cc
left_each (suc zero) j co f r h k = cc
left_each (suc (suc n)) j co f r h k = cc

right_each : OneEach right.cells
right_each zero zero co f r h k = refl
right_each zero (suc zero) co f r h k = cc
right_each zero (suc (suc zero)) co f r h k = cc
right_each zero (suc (suc (suc n))) co f r h k = cc
right_each (suc zero) j co f r h k = cc
right_each (suc (suc zero)) zero co f r h k = cc
right_each (suc (suc zero)) (suc zero) co f r h k = cc
right_each (suc (suc zero)) (suc (suc zero)) co f r h k = refl
right_each (suc (suc zero)) (suc (suc (suc n))) co f r h k = cc
right_each (suc (suc (suc n))) j co f r h k = cc

renamed : AgreeInTurn pairs left right
renamed = record {
  objects = record {
    one_to_one = record { objects = numbers_one; cells = two_to_one cell_number 2 0 refl refl (λ e. cc) (λ n. refl) };
    tables = same_tables;
    functions = same_functions;
    coroutines = same_coroutines;
    cells = same_cells;
    one_each = (left_each, right_each);
  };
  roots = record { globals = refl; string_metatable = tt; prelude_environment = refl; prelude_functions = tt; special_key = refl; max_depth = refl; main = refl; chain = (refl, tt) };
  moving = (same_object a_table 1 0 refl, tt);
  printed = refl;
  fuel = refl;
}

-- a closed cell in the place of the open one would not do: what the frame writes later would be seen by one function alone
closed_apart : SameCell pairs left.coroutines right.coroutines (open_at 0 0 1) (closed (int 7)) → ⊥
closed_apart h = by (open_at 0 0 1) (closed (int 7)) refl refl h
  where
    loose : (c : Cell) (v : Value) → c ≡ open_at 0 0 1 → Loose left.coroutines (IsFirst pairs) c v → ⊥
    loose c v e (kept_closed w) = cc
    loose c v e (kept_apart co f r w n at) = let k : co ≡ 0 = cc in n (1, subst (λ co. coroutine_number co ≡ Some 1) (sym k) refl)

    by : (c d : Cell) → c ≡ open_at 0 0 1 → d ≡ closed (int 7) → SameCell pairs left.coroutines right.coroutines c d → ⊥
    by c d e f (same_place co other g r at) = cc
    by c d e f (same_content x y v w l m s) = loose x v e l
