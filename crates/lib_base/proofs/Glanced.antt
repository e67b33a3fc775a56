-- What is answered at a glance, by the function that is asked for.
use Rattle.std.proofs.Common.{◌≡◌, ℕ, List, [], ◌∷◌, map, Option, Some, None, Ok, ap, sym, subst, ◌∙◌}
use Rattle.std.specs.Prelude.{IfSome}
use Rattle.int_core.specs.Operations.{type_name}
use Rattle.int_core.specs.Value.{known, string, shape, nth}
use Rattle.library_rows.specs.Base.{types}
use Rattle.library_rows.specs.Look.{done}
use Rattle.table_core.specs.declared.value.Value.{Value as Kept}
use Rattle.lua_heap.specs.Reading.{value}
use Rattle.lua_heap.specs.declared.world.World.{World as Memory}
use Rattle.pure_functions.specs.declared.answer.Answer.{Answer}
use Rattle.lib_base.specs.declared.calls.Function.{Function}
use Rattle.pure_functions.specs.Answers.{Answers, heap_of}
use Rattle.lib_base.specs.Functions.{function_row}
use Rattle.pure_functions.specs.QuickAnswers.{IsQuickAnswer, IsToldAs}

-- the name of a type is what `type` gives
pub type_row : (arguments : List Kept) (W : Memory) (name : List ℕ) (o : Option Answer) → name ≡ type_name (shape (nth (map (value W.strings) arguments) 0)) → IsToldAs W (string name ∷ []) o → IsQuickAnswer types arguments W o
type_row arguments W name None is told = tt
type_row arguments W name (Some answer) is told = ap (λ n. done (heap_of W) (known (string n) ∷ [])) (sym is) ∙ sym told.0

-- what a function of this name answers
pub glance_as : (f g : Function) → f ≡ g → (arguments : List Kept) (W : Memory) (o : Option Answer) → IsQuickAnswer (function_row g) arguments W o → IfSome o (λ answer. Answers (function_row f) arguments W W (Ok answer))
glance_as f g is arguments W None h = tt
glance_as f g is arguments W (Some answer) h = subst (λ (x : Function). Answers (function_row x) arguments W W (Ok answer)) (sym is) h
