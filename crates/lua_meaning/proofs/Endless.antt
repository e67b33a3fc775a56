-- Scripts that call `local function f(n) return 1 + f(n) end`: the worlds on the way, and what a few steps make of each.
use Rattle.std.proofs.Common.{◌≡◌, ℕ, zero, suc, ◌+◌, true, false, cond, List, [], ◌∷◌, ◌++◌, length, map, Some, refl}
use Rattle.std.specs.Fmt.{digits}
use Rattle.std.specs.Prelude.{pos, nat_le, slice_set, codes}
use Rattle.int_core.specs.Value.{Value, known, object, a_table, a_function, integer, nth}
use Rattle.int_core.specs.Limits.{greatest_depth, stack_overflow}
use Rattle.int_core.specs.Ask.{faulted, shared_by, gone_from}
use Rattle.tree_core.specs.declared.operator.BinOp.TheVariants.{Add}
use Rattle.tree_core.specs.Tree.{Body, Stat, EndExps, EndStats}
use Rattle.tree_activation.specs.Work.{Celling, when_declared, when_captured, give, over, falls_off, for_return, left_of, listed, dropped, in_block, end_of_body, Activation, State}
use Rattle.tree_activation.specs.Activation.{start}
use Rattle.tree_activation.specs.Asking.{told, heard}
use Rattle.lua_meaning.specs.World.{Function, Asker, Frame, talking, waiting, raising, protected, returned, failed_with, spent, Now, talks, raises_error, unwinds, ends, World, now_in, shared_in, answered}
use Rattle.lua_meaning.specs.Calls.{raised_to, text, truth}
use Rattle.lua_meaning.specs.Step.{ticks}
use Rattle.lua_meaning.specs.Meaning.{begun}
use Rattle.lua_meaning.specs.Libraries.{primitive_values, constant_values, library_table, environment_table, globals_table}
use Rattle.lua_meaning.specs.Opening.{prelude_function, primitives}
use Rattle.lua_meaning.specs.TreeMeaning.{trees, outer_of, tree_opening}
use Rattle.tree_terms.proofs.Forms.{of_local, loc, outer, global, int, bin, call, block, returning, does, fun}
use Rattle.lua_meaning.proofs.Scripts.{local_function, chunk, prelude, nothing_built}

-- the scripts

-- function(n) return 1 + f(n) end
abbrev pub calls_itself : Body
calls_itself = fun ("n" ∷ []) (of_local "f" 0 ∷ []) (returning [] (bin Add (int 1) (call (outer "f" 0) (loc "n" 0 ∷ [])) ∷ []))

abbrev f_is : Stat
f_is = local_function "f" 0 calls_itself

-- local function f(n) return 1 + f(n) end f(1)
abbrev pub endless : Body
endless = chunk (block (f_is ∷ does (call (loc "f" 0) (int 1 ∷ [])) ∷ []))

-- local function f(n) return 1 + f(n) end return pcall(f,1)
abbrev pub endless_in_pcall : Body
endless_in_pcall = chunk (returning (f_is ∷ []) (call (global "pcall") (loc "f" 0 ∷ int 1 ∷ []) ∷ []))

abbrev pub Run : Type 0
Run = World Body State

-- the world so many steps later
abbrev pub after : Celling → (steps : ℕ) → Run → Run
after celling steps W = ticks (trees celling) (primitives nothing_built) steps W

abbrev pub begins : Celling → (script : Body) → (budget : ℕ) → Run
begins celling script budget = begun (trees celling) (primitives nothing_built) (tree_opening prelude) (record { main = script; name = codes "@s.lua"; has_lines = true }) budget

-- frames

-- the main function and f have the numbers behind the five functions of the prelude
abbrev pub main : ℕ
main = 5

abbrev pub f : ℕ
f = 6

abbrev pub one : Value
one = known (integer (pos 1))

-- n has the cell c; where cells are for captured variables alone, it has none
abbrev pub held : Celling → (c : ℕ) → List (ℕ × ℕ)
held when_declared c = (0, c) ∷ []
held when_captured c = []

abbrev pub call_of_f : Celling → (c : ℕ) → Activation
call_of_f celling c = record { celling = celling; locals = one ∷ []; varargs = []; pending = []; captured = record { held = held celling c; gone = [] } }

-- a call of f that waits for the right operand of `1 + f(n)`
abbrev pub f_waits : Celling → (c : ℕ) → Asker State
f_waits celling c = record {
  function = f;
  line = Some 1;
  shared = shared_by (held celling c) (one ∷ []);
  goes = λ x. heard x.reply 1 (told (call_of_f celling c) x.shared) (left_of 1 Add one ∷ listed (for_return 1) [] EndExps ∷ end_of_body 1 ∷ []) give;
}

abbrev pub call_of_main : Celling → Activation
call_of_main celling = record { celling = celling; locals = object a_function f ∷ []; varargs = []; pending = []; captured = record { held = (0, 2) ∷ []; gone = [] } }

-- the main function waits for `f(1)`
abbrev pub main_waits : Celling → Asker State
main_waits celling = record {
  function = main;
  line = Some 1;
  shared = (2, object a_function f) ∷ [];
  goes = λ x. heard x.reply 1 (told (call_of_main celling) x.shared)
      (dropped ∷ in_block 1 (record { rest = EndStats; ending = falls_off 1; level = 0; labels = [] }) ∷ end_of_body 1 ∷ []) give;
}

-- a script, and the frames on which f is called first
pub record Caller : Type 0 where
  pub script : Body
  pub bottom : List (Frame State)

abbrev pub by_main : Celling → Caller
by_main celling = record { script = endless; bottom = waiting (main_waits celling) ∷ [] }

-- a tail call, so no frame of the main function is left
abbrev pub by_pcall : Caller
by_pcall = record { script = endless_in_pcall; bottom = protected ∷ [] }

-- on these, one frame for each call of f that waits; by the cells of their variables n, the newest first
abbrev pub tower : Celling → Caller → (cells : List ℕ) → List (Frame State)
tower celling caller [] = caller.bottom
tower celling caller (c ∷ cells) = waiting (f_waits celling c) ∷ tower celling caller cells

-- worlds

abbrev pub functions : (script : Body) → List (Function Body)
functions script =
    map (prelude_function outer_of) prelude
    ++ record { made_of = script; source = codes "@s.lua"; has_lines = true; cells = 1 ∷ [] }
    ∷ record { made_of = calls_itself; source = codes "@s.lua"; has_lines = true; cells = 2 ∷ [] } ∷ []

-- all else is as it was at the beginning
abbrev pub world : (script : Body) → (values : List Value) → (fuel : ℕ) → List (Frame State) → Now → Run
world script values fuel frames now =
    record (begins when_captured script 0) { functions = functions script; cells = values; fuel = fuel; frames = frames; now = now }

-- the cells of the prelude's environment, of `_ENV` and of f, and behind them others
abbrev pub with_f : List Value → List Value
with_f more = object a_table environment_table ∷ object a_table globals_table ∷ object a_function f ∷ more

-- f was called
abbrev pub entered : Celling → Caller → (cells : List ℕ) → (more : List Value) → (fuel : ℕ) → Run
entered celling caller cells more fuel = world caller.script (with_f more) fuel (talking f (start celling calls_itself (one ∷ [])) ∷ tower celling caller cells) talks

-- the script calls f

abbrev pub steps_of_main : Celling → ℕ
steps_of_main when_declared = 17
steps_of_main when_captured = 14

pub main_calls : (celling : Celling) (budget : ℕ) → after celling (steps_of_main celling) (begins celling endless (suc budget)) ≡ entered celling (by_main celling) [] [] budget
main_calls when_captured budget = refl
main_calls when_declared budget = refl

-- without a unit it cannot
abbrev pub main_unpaid : Celling → Run
main_unpaid celling = world endless (with_f []) 0 (tower celling (by_main celling) []) (ends spent)

pub main_cannot_pay : (celling : Celling) → after celling (steps_of_main celling) (begins celling endless zero) ≡ main_unpaid celling
main_cannot_pay when_captured = refl
main_cannot_pay when_declared = refl

-- by `pcall` for two units
abbrev pub steps_of_pcall : Celling → ℕ
steps_of_pcall when_declared = 21
steps_of_pcall when_captured = 18

pub pcall_calls : (celling : Celling) (budget : ℕ) → after celling (steps_of_pcall celling) (begins celling endless_in_pcall (suc (suc budget))) ≡ entered celling by_pcall [] [] budget
unfolding primitive_values constant_values library_table
pcall_calls when_captured budget = refl
pcall_calls when_declared budget = refl

-- f calls itself

-- the cells after it
abbrev pub grown : Celling → List Value → List Value
grown when_declared more = slice_set (slice_set (more ++ one ∷ []) (length more) one) (length more) one
grown when_captured more = more

abbrev pub deeper : List Value → (cells : List ℕ) → List ℕ
deeper more cells = length (with_f more) ∷ cells

abbrev pub steps_of_call : Celling → ℕ
steps_of_call when_declared = 14
steps_of_call when_captured = 12

-- a call that has no room is a fault of the caller
abbrev pub refused : Celling → Caller → (cells : List ℕ) → (more : List Value) → (fuel : ℕ) → Run
refused celling caller cells more fuel =
    let V = world caller.script (with_f (grown celling more)) fuel (tower celling caller (deeper more cells)) talks in
    answered V (f_waits celling (length (with_f more))) (faulted stack_overflow) (tower celling caller cells)

pub f_calls : (celling : Celling) (caller : Caller) (cells : List ℕ) (more : List Value) (fuel : ℕ)
    → after celling (steps_of_call celling) (entered celling caller cells more (suc fuel))
    ≡ cond (nat_le (length (tower celling caller (deeper more cells)) + 1) greatest_depth)
    (entered celling caller (deeper more cells) (grown celling more) fuel) (refused celling caller cells more fuel)
f_calls when_captured caller cells more fuel = refl
f_calls when_declared caller cells more fuel = refl

abbrev pub unpaid : Celling → Caller → (cells : List ℕ) → (more : List Value) → Run
unpaid celling caller cells more = world caller.script (with_f (grown celling more)) 0 (tower celling caller (deeper more cells)) (ends spent)

pub f_cannot_pay : (celling : Celling) (caller : Caller) (cells : List ℕ) (more : List Value) → after celling (steps_of_call celling) (entered celling caller cells more zero) ≡ unpaid celling caller cells more
f_cannot_pay when_captured caller cells more = refl
f_cannot_pay when_declared caller cells more = refl

-- the error is raised

abbrev pub overflow : Value
overflow = text (codes "s.lua:1: stack overflow")

-- n, as its cell has it
abbrev pub n_in : Celling → (c : ℕ) → (values : List Value) → Value
n_in when_declared c values = nth values c
n_in when_captured c values = one

-- its cell with its last value
abbrev pub n_gone : Celling → (c : ℕ) → (n : Value) → List (ℕ × Value)
n_gone celling c n = gone_from 0 (held celling c) (n ∷ [])

-- the cells, once it has been written there
abbrev pub n_kept : Celling → (c : ℕ) → (values : List Value) → List Value
n_kept celling c values = shared_in (n_gone celling c (n_in celling c values)) values

-- the call that was at fault
abbrev pub f_raises : Celling → (c : ℕ) → (n : Value) → Asker State
f_raises celling c n = record {
  function = f;
  line = Some 1;
  shared = n_gone celling c n;
  goes = λ x. heard x.reply 1
      (told (record { celling = celling; locals = n ∷ []; varargs = []; pending = []; captured = record { held = []; gone = n_gone celling c n } }) x.shared) []
      (λ _. over);
}

abbrev pub raised : Celling → Caller → (c : ℕ) → (cells : List ℕ) → (values : List Value) → (fuel : ℕ) → Now → Run
raised celling caller c cells values fuel now = world caller.script (n_kept celling c values) fuel (raising (f_raises celling c (n_in celling c values)) ∷ tower celling caller cells) now

pub raises_it : (celling : Celling) (caller : Caller) (cells : List ℕ) (more : List Value) (fuel : ℕ)
    → after celling 1 (refused celling caller cells more fuel) ≡ raised celling caller (length (with_f more)) cells (with_f (grown celling more)) fuel (raises_error overflow)
unfolding digits
raises_it when_captured caller cells more fuel = refl
raises_it when_declared caller cells more fuel = refl

-- the calls of f do not catch it
pub passes_up : (celling : Celling) (caller : Caller) (cells : List ℕ) (W : Run) → raised_to (trees celling) W overflow caller.bottom ≡ now_in W (unwinds overflow)
    → raised_to (trees celling) W overflow (tower celling caller cells) ≡ now_in W (unwinds overflow)
passes_up celling caller [] W bottom = bottom
passes_up celling caller (c ∷ cells) W bottom = passes_up celling caller cells W bottom

-- the error leaves each call in three steps

abbrev pub leaving : Celling → Caller → (cells : List ℕ) → (values : List Value) → (fuel : ℕ) → Run
leaving celling caller cells values fuel = world caller.script values fuel (tower celling caller cells) (unwinds overflow)

pub leaves_top : (celling : Celling) (caller : Caller) (c : ℕ) (cells : List ℕ) (values : List Value) (fuel : ℕ)
    → after celling 3 (raised celling caller c cells values fuel (unwinds overflow)) ≡ leaving celling caller cells (n_kept celling c values) fuel
leaves_top when_captured caller c cells values fuel = refl
leaves_top when_declared caller c cells values fuel = refl

pub leaves_call : (celling : Celling) (caller : Caller) (c : ℕ) (cells : List ℕ) (values : List Value) (fuel : ℕ)
    → after celling 3 (leaving celling caller (c ∷ cells) values fuel) ≡ leaving celling caller cells (n_kept celling c values) fuel
leaves_call when_captured caller c cells values fuel = refl
leaves_call when_declared caller c cells values fuel = refl

-- the main function fails
abbrev pub main_left : (values : List Value) → (fuel : ℕ) → Run
main_left values fuel = world endless (slice_set values 2 (nth values 2)) fuel [] (ends (failed_with overflow))

pub leaves_main : (celling : Celling) (values : List Value) (fuel : ℕ) → after celling 4 (leaving celling (by_main celling) [] values fuel) ≡ main_left values fuel
leaves_main when_captured values fuel = refl
leaves_main when_declared values fuel = refl

-- `pcall` returns
abbrev pub pcall_left : (values : List Value) → (fuel : ℕ) → Run
pcall_left values fuel = world endless_in_pcall values fuel [] (ends (returned (truth false ∷ overflow ∷ [])))

pub leaves_pcall : (celling : Celling) (values : List Value) (fuel : ℕ) → after celling 2 (leaving celling by_pcall [] values fuel) ≡ pcall_left values fuel
leaves_pcall celling values fuel = refl
