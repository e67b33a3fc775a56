-- Functions of a prelude in memory.
use Rattle.std.specs.Prelude.{◌≡◌, ℕ, List, [], ◌∷◌, ◌++◌, map, length}
use Rattle.code_core.specs.Prototype.{Prototype}
use Rattle.machine_core.specs.World.{Function}
use Rattle.machine_runs.specs.Opening.{numbers}
use Rattle.lua_heap.specs.declared.world.Func.{Func}
use Rattle.lua_heap.specs.declared.world.World.{World as Memory}
use Rattle.lua_heap.specs.Adding.{Begins}
use Rattle.lua_heap.specs.Codes.{functions, prototype_at, AreCodes}
use Rattle.lua_heap.specs.Plain.{function}

-- all outer variables of a function are one cell
abbrev pub shares : (cell : ℕ) → Prototype → Function
shares cell p = record { code = p; cells = map (λ _. cell) p.own.upvalues }

-- strings, code and functions are added, and nothing else is changed
pub record Extends (old new : Memory) : Type 0 where
  pub strings : Begins (List ℕ) old.strings new.strings
  pub codes : AreCodes new.strings new.codes
  pub rest : new ≡ record old { strings = new.strings; codes = new.codes; funcs = new.funcs; prelude = record old.prelude { funcs = new.prelude.funcs } }

-- one function comes last, of code that is kept already
pub record AddsOne (old new : Memory) (cell number : ℕ) : Type 0 where
  pub rest : new ≡ record old { funcs = new.funcs; prelude = record old.prelude { funcs = new.prelude.funcs } }
  pub made : Func
  pub objects : new.funcs.objects ≡ old.funcs.objects ++ made ∷ []
  pub code : made.code.0 ≡ number
  pub cells : map (λ c. c.0) made.cells.items ≡ map (λ _. cell) (prototype_at (functions old.codes) number).own.upvalues
  pub named : map (λ f. f.0) new.prelude.funcs.items ≡ map (λ f. f.0) old.prelude.funcs.items ++ length old.funcs.objects ∷ []

-- these are all functions; code that comes behind changes none of them
pub record AddsFunctions (old new : Memory) (cell : ℕ) (ps : List Prototype) : Type 0 where
  pub extends : Extends old new
  pub count : length new.funcs.objects ≡ length ps
  pub read : (more : List Prototype) → map (function (functions new.codes ++ more)) new.funcs.objects ≡ map (shares cell) ps
  pub named : map (λ f. f.0) new.prelude.funcs.items ≡ numbers 0 (length ps)
