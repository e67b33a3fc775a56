-- What a script does from its code on the lines of an input.
use Rattle.std.specs.Prelude.{ℕ, List, Option}
use Rattle.code_core.specs.Prototype.{Prototype, list_of}
use Rattle.machine_core.specs.World.{World}
use Rattle.machine_runs.specs.Opening.{opening, begun}
use Rattle.machine_runs.specs.Runs.{Close}
use Rattle.loaded_code.specs.Laws.{library}
use Rattle.source_builds.specs.Readings.{AsRead}
use Rattle.lua_meaning.specs.Opening.{prelude_of}
use Rattle.lua_feed.specs.Feeding.{Does, IsBrokenOff, IsCutOff, IsFed, IsFedFront}

-- the world of the libraries over the prelude's code, in which a script with this code has begun
abbrev pub started : (prelude code : Prototype) → World
started prelude code = begun (opening (prelude_of (list_of prelude.inner))) code

-- the script has a run on the lines of the input that closes so, and the output has grown by what it prints
abbrev pub IsRunOf : (prelude code : Prototype) (budget taken : ℕ) (text before after : Option (List ℕ)) → Close → Type 0
IsRunOf prelude code budget taken text before after close = AsRead (λ builds. IsFed (Does (library builds) (started prelude code) budget) taken text before after close)

-- the script waits for a line that is past the limits, and the output has grown by what it prints
abbrev pub IsCutOffOf : (prelude code : Prototype) (budget taken : ℕ) (text before after : Option (List ℕ)) → Type 0
IsCutOffOf prelude code budget taken text before after = AsRead (λ builds. IsCutOff (Does (library builds) (started prelude code) budget) taken text before after)

-- reading failed where the script waits for a line, and the output has grown by what it prints on the lines before
abbrev pub IsBrokenOffOf : (prelude code : Prototype) (budget taken : ℕ) (text before after : Option (List ℕ)) → Type 0
IsBrokenOffOf prelude code budget taken text before after = AsRead (λ builds. IsBrokenOff (Does (library builds) (started prelude code) budget) taken text before after)

-- the output has grown by a prefix of what the script prints on the lines of the input
abbrev pub IsFrontOf : (prelude code : Prototype) (budget taken : ℕ) (text before after : Option (List ℕ)) → Type 0
IsFrontOf prelude code budget taken text before after = AsRead (λ builds. IsFedFront (Does (library builds) (started prelude code) budget) taken text before after)
