-- Parts of statements with blocks, as they are written.
use Rattle.std.specs.Prelude.{ℕ, ◌+◌, Bool, true, false, cond, ◌&&◌, List, [], ◌∷◌, ◌++◌, length, Option, Some, None}
use Rattle.tree_core.specs.Tree.{Block, Stats, Stat, Empty, Label, If, IfElse, Arms, Exp}
use Rattle.tree_terms.specs.Labels.{are_void}
use Rattle.code_core.specs.declared.opcode.Opcode.TheVariants.{Close, ForLoop, ForPrep, TForPrep, TForCall, TForLoop}
use Rattle.code_core.specs.declared.proto.Const.{Const}
use Rattle.code_of.specs.declared.leaving.Leaving.{Leaving}
use Rattle.code_of.specs.Coded.{Coded, with_abc, with_abx, jump_back}
use Rattle.code_of.specs.Expressions.{made_by}
use Rattle.code_of.specs.Jumps.{Visible, Reach}
use Rattle.code_of.specs.Parts.{bounds_code, steps_code}
use Rattle.code_of.specs.Sizes.{block_size}
use Rattle.code_of.specs.Statements.{visible, in_loop, block_code}

-- void statements are empty ones and labels
abbrev pub is_void : Stat → Bool
is_void (Empty line) = true
is_void (Label line name) = true
is_void _ = false

-- a label that comes is seen in front of it, with so many locals in scope
abbrev pub ahead_with : Stat → (pc level : ℕ) → List Visible → List Visible
ahead_with (Label line name) pc level ahead = visible name.text pc level ∷ ahead
ahead_with _ pc level ahead = ahead

-- how many locals are in scope at a label that these statements follow
abbrev pub level_at : Stats → (falls : Bool) → (outer level : ℕ) → ℕ
level_at ss falls outer level = cond (falls && are_void ss) outer level

-- the end of a `repeat`, which leads so many places back
abbrev pub until_code : (test : (ahead : ℕ) → List Coded) → (close : List Coded) → (places line : ℕ) → List Coded
until_code test close places line = test (length close + 1) ++ (close ++ (jump_back places line ∷ close))

-- the values of a numeric `for`, with or without a step

abbrev pub range_code : List Const → (from limit : Exp) → Option Exp → (t j line : ℕ) → List Coded
range_code constants from limit None t j line = bounds_code constants from limit t j line
range_code constants from limit (Some step) t j line = steps_code constants from limit step t j

abbrev pub made_in_range : (from limit : Exp) → Option Exp → ℕ
made_in_range from limit None = made_by from + made_by limit
made_in_range from limit (Some step) = made_by from + made_by limit + made_by step

-- the rounds of a `for`, behind its values

module _ (constants : List Const) (back : Leaving) where
  abbrev pub counted_code : Block → (closing : Bool) → (t j pc line : ℕ) → Reach → List Coded
  counted_code block closing t j pc line reach =
      let inner = block_code constants back block closing (t + 3) (t + 4) j (pc + 1) (in_loop reach (pc + (block_size constants back block closing (t + 3) (t + 4) j + 2)) t) in
      with_abx ForPrep t (length inner) line ∷ (inner ++ with_abx ForLoop t (length inner + 1) line ∷ [])

  abbrev pub iterated_code : Block → (n t j pc line : ℕ) → Reach → List Coded
  iterated_code block n t j pc line reach =
      let inner = block_code constants back block true (t + 4) (t + 4 + n) j (pc + 1) (in_loop reach (pc + (block_size constants back block true (t + 4) (t + 4 + n) j + 4)) t) in
      with_abx TForPrep t (length inner) line
      ∷ (inner ++ (with_abc TForCall t 0 n line ∷ with_abx TForLoop t (length inner + 2) line ∷ with_abc Close t 0 0 line ∷ []))

-- an `if`, with or without an `else`
abbrev pub choice : (line : ℕ) → Arms → Option Block → Stat
choice line arms None = If line arms
choice line arms (Some block) = IfElse line arms block
