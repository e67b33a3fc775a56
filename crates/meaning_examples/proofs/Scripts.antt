-- Short forms for trees and runs of scripts over the whole prelude.
use Rattle.std.specs.Prelude.{ℕ, true, List, Option, Some, None, option_map, codes}
use Prim.Native.String.{String}
use Rattle.tree_core.specs.Tree.{Body}
use Rattle.tree_activation.specs.Work.{when_declared}
use Rattle.load_rows.specs.Loading.{refused_at, Builds}
use Rattle.lua_meaning.specs.TreeMeaning.{tree_meaning}
use Rattle.lua_meaning.proofs.Scripts.{summary}
use Rattle.meaning_examples.proofs.Prelude.{prelude}

-- what a script prints, and the status of its ending, by the letter of the manual
abbrev pub run_with : Builds Body → (steps : ℕ) → Body → List (List ℕ) → (budget : ℕ) → Option (List ℕ × ℕ)
run_with builds steps main input budget =
    option_map summary (tree_meaning when_declared builds steps prelude (record { main = main; name = codes "@s.lua"; has_lines = true }) input budget)

-- of a script that loads nothing
abbrev pub run : (steps : ℕ) → Body → List (List ℕ) → (budget : ℕ) → Option (List ℕ × ℕ)
run = run_with (λ name source. refused_at 1 None)

abbrev pub ran : String → ℕ → Option (List ℕ × ℕ)
ran text n = Some (codes text, n)
