-- What a script's tree means: the worlds are those in which activations of trees talk.
use Rattle.std.specs.Prelude.{ℕ, List, length, Option}
use Rattle.load_rows.specs.Loading.{Builds}
use Rattle.library_rows.specs.Library.{Entry}
use Rattle.tree_core.specs.Tree.{Body, BodyOf}
use Rattle.tree_activation.specs.Work.{Celling, State}
use Rattle.tree_activation.specs.Asking.{to_close}
use Rattle.tree_activation.specs.Activation.{start, step}
use Rattle.lua_meaning.specs.World.{System, World}
use Rattle.lua_meaning.specs.Meaning.{Script, Meaning, meaning, onward}
use Rattle.lua_meaning.specs.Opening.{opening, primitives}

-- a local variable gets its cell as `celling` says
abbrev pub trees : Celling → System Body State
trees celling = record { starts = start celling; steps = λ body s. step s; pending = λ body s. to_close s }

-- how many outer variables a function names
abbrev pub outer_of : Body → ℕ
outer_of (BodyOf params vararg inner upvalues line) = length upvalues

abbrev pub tree_opening : (prelude : List (Entry Body)) → World Body State
tree_opening prelude = opening outer_of prelude

abbrev pub tree_meaning : Celling → Builds Body → (steps : ℕ) → (prelude : List (Entry Body)) → Script Body → List (List ℕ) → (budget : ℕ) → Option (Meaning Body State)
tree_meaning celling builds steps prelude script input budget = meaning (trees celling) (primitives builds) steps (tree_opening prelude) script input budget

abbrev pub tree_onward : Celling → Builds Body → (steps : ℕ) → World Body State → List (List ℕ) → (budget : ℕ) → Option (Meaning Body State)
tree_onward celling builds steps W input budget = onward (trees celling) (primitives builds) steps W input budget
