-- The row of each function of the libraries that is no Lua text, by their numbers (Lua 5.4 manual, 6). That of the prelude's `build` is given apart,
-- as it hangs on what sources are built to.
use Rattle.std.specs.Prelude.{ℕ, ◌+◌, cond, [], ◌∷◌, Option, Some, None, nat_lt}
use Rattle.int_core.specs.Value.{nil, string}
use Rattle.code_core.specs.Prototype.{Prototype}
use Rattle.load_rows.specs.Loading.{Builds, Loaded, wrong, not_loaded, loaded, load_of}
use Rattle.library_rows.specs.Library.{Primitive, base_error, base_pcall, base_xpcall, coroutine_close, coroutine_create, coroutine_isyieldable, coroutine_resume, coroutine_running, coroutine_status, coroutine_yield, prelude_build, prelude_out, primitive_at, row_of}
use Rattle.machine_core.specs.Text.{Arg, read, written}
use Rattle.machine_core.specs.Moves.{take_moving, look, make_loaded, Row, traps, act}
use Rattle.machine_core.specs.FrameRows.{blames}
use Rattle.machine_core.specs.MachineStep.{pcall_row, xpcall_row, error_row, resume_row, yield_row, close_row, create_row, status_row, running_row, yieldable_row, print_row, look_row, gives_back}

-- those that move frames or coroutines, make a coroutine, or print
abbrev pub own_row : (build : Row) → Primitive → Row
own_row build base_error = error_row
own_row build base_pcall = pcall_row
own_row build base_xpcall = xpcall_row
own_row build coroutine_close = close_row
own_row build coroutine_create = create_row
own_row build coroutine_isyieldable = yieldable_row
own_row build coroutine_resume = resume_row
own_row build coroutine_running = running_row
own_row build coroutine_status = status_row
own_row build coroutine_yield = yield_row
own_row build prelude_build = build
own_row build prelude_out = print_row
own_row build p = traps

abbrev pub primitive_row : (build : Row) → Primitive → Row
primitive_row build p = elim (row_of p) [ Some l ↦ look_row l | None ↦ own_row build p ]

abbrev pub row_numbered : (build : Row) → ℕ → Row
row_numbered build n = elim (primitive_at n) [ None ↦ traps | Some p ↦ primitive_row build p ]

-- `build`, for `load`: a function of a source's code, or nil and why there is none. A fourth argument is its environment

abbrev pub environment_at : (arguments count : ℕ) → Option Arg
environment_at c count = cond (nat_lt (3 + c) count) (Some (read (3 + c))) None

abbrev pub loaded_row : (environment : Option Arg) → Loaded Prototype → Row
loaded_row x (wrong error) = blames error
loaded_row x (not_loaded why) = gives_back (written nil ∷ written (string why) ∷ [])
loaded_row x (loaded name p) = act (make_loaded p x) (λ f _. gives_back (read f ∷ []))

abbrev pub load_row : Builds Prototype → Row
load_row builds =
    act take_moving (λ c _. act (look (read c)) (λ count chunk. act (look (read (1 + c))) (λ _ name. act (look (read (2 + c))) (λ _ mode.
    loaded_row (environment_at c count) (load_of builds chunk name mode)))))
