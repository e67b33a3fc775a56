-- The primitives, and the step of a world. Those that look at values and tables alone do what their rows say; those that move frames or coroutines,
-- make a coroutine, print, raise an error or load a source do it here.
use Rattle.std.specs.Prelude.{ℕ, zero, suc, ℤ, pos, Bool, true, false, cond, List, [], ◌∷◌, ◌++◌, length, drop, Option, Some, None, nat_lt, option_map, slice_get, codes}
use Rattle.int_core.specs.Value.{nil, string, a_table, a_function, a_coroutine, Value, known, object, shape, is_nil, nth}
use Rattle.int_core.specs.Heap.{Heap}
use Rattle.int_core.specs.Limits.{limited}
use Rattle.int_core.specs.Operations.{is_function, number_in}
use Rattle.library_rows.specs.Look.{Done, done, refused, raised, looked}
use Rattle.library_rows.specs.Arguments.{wrong_type}
use Rattle.load_rows.specs.Loading.{Builds, Loaded, wrong, not_loaded, loaded, load_of}
use Rattle.library_rows.specs.Library.{Primitive, base_error, base_pcall, base_xpcall, coroutine_close, coroutine_create, coroutine_isyieldable, coroutine_resume, coroutine_running, coroutine_status, coroutine_yield, prelude_build, prelude_out, row_of}
use Rattle.lua_meaning.specs.World.{System, protected, handled_by, Coroutine, fresh, suspended, running, normal, dead, failed, Now, talks, gives_back, raises_error, unwinds, calls_primitive, ends, World, now_in, breaks, where_at, raises_text}
use Rattle.lua_meaning.specs.Calls.{text, truth, calls_over, handed, raised_to, unwound, resumes, yields, closes_coroutine}
use Rattle.lua_meaning.specs.Asks.{talks_on}

abbrev pub gives_one : {F S : Type 0} → World F S → Value → World F S
gives_one W v = now_in W (gives_back (v ∷ []))

-- `error`: a string gets the position of a frame in front, by the level

abbrev pub placed : {F S : Type 0} → World F S → ℤ → Value → Value
placed W (pos (suc level)) (known (string s)) = limited (where_at W level ++ s)
placed W level v = v

abbrev pub error_by : {F S : Type 0} → World F S → Value → Value → Option ℤ → World F S
error_by W v level None = raises_text W (wrong_type 2 (codes "error") (codes "number") (shape level))
error_by W v level (Some n) = now_in W (raises_error (placed W n v))

abbrev pub level_in : Value → Option ℤ
level_in v = cond (is_nil v) (Some (pos 1)) (number_in v)

-- coroutines

abbrev pub creates : {F S : Type 0} → World F S → Value → World F S
creates W f =
    cond (is_function f)
    (gives_one (record W { coroutines = W.coroutines ++ fresh f ∷ [] }) (object a_coroutine (length W.coroutines)))
    (raises_text W (wrong_type 1 (codes "create") (codes "function") (shape f)))

abbrev pub with_coroutine : {F S : Type 0} → World F S → List ℕ → Value → (ℕ → Coroutine S → World F S) → World F S
with_coroutine W f (object a_coroutine n) goes = elim (slice_get W.coroutines n) [ None ↦ breaks W | Some c ↦ goes n c ]
with_coroutine W f v goes = raises_text W (wrong_type 1 f (codes "coroutine") (shape v))

abbrev pub status_of : {S : Type 0} → Coroutine S → List ℕ
status_of (fresh body) = codes "suspended"
status_of (suspended frames) = codes "suspended"
status_of running = codes "running"
status_of (normal frames) = codes "normal"
status_of dead = codes "dead"
status_of (failed e pending) = codes "dead"

-- the running coroutine, and whether it is the main one
abbrev pub runs_one : {F S : Type 0} → World F S → (chain : List ℕ) → World F S
runs_one W [] = breaks W
runs_one W (co ∷ chain) = now_in W (gives_back (object a_coroutine co ∷ truth false ∷ []))

-- a string's bytes
abbrev pub bytes_in : Value → List ℕ
bytes_in (known (string bytes)) = bytes
bytes_in v = []

-- what a primitive that looks at values and tables alone comes to; None for the others
unfoldable pub row : Primitive → Heap → List Value → Option Done
row p H vs = option_map (λ l. looked l vs H) (row_of p)

abbrev pub after_row : {F S : Type 0} → World F S → Option Done → World F S
after_row W None = breaks W
after_row W (Some (done H vs)) = now_in (record W { heap = H }) (gives_back vs)
after_row W (Some (refused why)) = raises_text W why
after_row W (Some (raised H e)) = now_in (record W { heap = H }) (raises_error e)

-- `load`: a new function of a source of this name, with one new cell, or nil and why there is none

abbrev pub gives_loaded : {F S : Type 0} → World F S → (name : List ℕ) → F → (environment : Value) → World F S
gives_loaded W name f environment =
    gives_one (record W {
      functions = W.functions ++ record { made_of = f; source = name; has_lines = true; cells = length W.cells ∷ [] } ∷ [];
      cells = W.cells ++ environment ∷ [];
    }) (object a_function (length W.functions))

abbrev pub after_loading : {F S : Type 0} → World F S → (environment : Value) → Loaded F → World F S
after_loading W environment (wrong error) = raises_text W error
after_loading W environment (not_loaded why) = now_in W (gives_back (known nil ∷ text why ∷ []))
after_loading W environment (loaded name f) = gives_loaded W name f environment

-- a fourth argument is the environment; else the globals are
abbrev pub environment_in : {F S : Type 0} → World F S → List Value → Value
environment_in W vs = cond (nat_lt 3 (length vs)) (nth vs 3) (object a_table W.globals)

-- the primitives by their numbers, and what sources are built to
pub record Primitives (F : Type 0) : Type 0 where
  pub numbered : ℕ → Option Primitive
  pub builds : Builds F

abbrev pub has_ended : Now → Bool
has_ended (ends ending) = true
has_ended now = false

module _ {F S : Type 0} (system : System F S) where
  abbrev pub does_primitive : Builds F → Primitive → World F S → List Value → World F S
  does_primitive builds base_error W vs = error_by W (nth vs 0) (nth vs 1) (level_in (nth vs 1))
  does_primitive builds base_pcall W vs = calls_over system W protected (nth vs 0) (drop 1 vs)
  does_primitive builds base_xpcall W vs = calls_over system W (handled_by (nth vs 1)) (nth vs 0) (drop 2 vs)
  does_primitive builds coroutine_create W vs = creates W (nth vs 0)
  does_primitive builds coroutine_resume W vs = with_coroutine W (codes "resume") (nth vs 0) (λ co c. resumes system W co c (drop 1 vs))
  does_primitive builds coroutine_yield W vs = yields W vs
  does_primitive builds coroutine_close W vs = with_coroutine W (codes "close") (nth vs 0) (λ co c. closes_coroutine system W co c)
  does_primitive builds coroutine_status W vs = with_coroutine W (codes "status") (nth vs 0) (λ co c. gives_one W (text (status_of c)))
  does_primitive builds coroutine_isyieldable W vs = gives_one W (truth true)
  does_primitive builds coroutine_running W vs = runs_one W W.chain
  does_primitive builds prelude_out W vs = now_in (record W { printed = W.printed ++ bytes_in (nth vs 0) }) (gives_back [])
  does_primitive builds prelude_build W vs = after_loading W (environment_in W vs) (load_of builds (shape (nth vs 0)) (shape (nth vs 1)) (shape (nth vs 2)))
  does_primitive builds p W vs = after_row W (row p W.heap vs)

  module _ (primitives : Primitives F) where
    -- one step of the world; a turn that has ended stays as it is
    abbrev pub tick_by : Now → World F S → World F S
    tick_by talks W = talks_on system W W.frames
    tick_by (gives_back vs) W = handed system W vs W.frames
    tick_by (raises_error e) W = raised_to system W e W.frames
    tick_by (unwinds e) W = unwound system W e W.frames
    tick_by (calls_primitive n vs) W = elim (primitives.numbered n) [ None ↦ breaks W | Some p ↦ does_primitive primitives.builds p W vs ]
    tick_by (ends ending) W = W

    abbrev pub tick : World F S → World F S
    tick W = tick_by W.now W

    -- at most so many steps, up to the turn's end
    abbrev pub ticks : ℕ → World F S → World F S
    ticks zero W = W
    ticks (suc n) W = elim (has_ended W.now) [ true ↦ W | false ↦ ticks n (tick W) ]
