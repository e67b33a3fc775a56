-- What a script does that is fed with the lines of an input.
use Rattle.std.specs.Prelude.{◌≡◌, ◌++◌, ◌≤◌, ◌^◌, ℕ, List, length, Option, Some, option_map, IfSome, true, false}
use Rattle.machine_core.specs.World.{World}
use Rattle.machine_core.specs.Moves.{Row}
use Rattle.machine_sound.specs.Sound.{Each}
use Rattle.machine_runs.specs.Runs.{Close, is_suspended, Run, CodeRun, CodeOnward}
use Rattle.lua_heap.specs.declared.world.World.{World as Memory}
use Rattle.lua_heap.specs.Plain.{plain}
use Rattle.io_edge.specs.Content.{GrowsByFront}
use Rattle.io_edge.specs.Lines.{lines_of}
use Rattle.lua_feed.specs.Limits.{passes_limits, usable_lines}

-- what code does on lines of input, from a world in which the main coroutine is to be resumed with what moves, and from one in which it waits for a line

abbrev pub Does : (rows : ℕ → Row) (W : World) (budget : ℕ) → List (List ℕ) → Run → Type 0
Does rows W budget lines run = CodeRun rows W lines budget run

abbrev pub GoesOn : (rows : ℕ → Row) (W : World) (budget : ℕ) → List (List ℕ) → Run → Type 0
GoesOn rows W budget lines run = CodeOnward rows W lines budget run

-- a world in memory is the last one of a run, but for what is left of a budget
pub record IsLast (W : World) (now : Memory) : Type 0 where
  pub left : ℕ
  pub is : W ≡ plain now left

-- There is a run on these lines that closes so, and the output has grown by what it prints. Where the input tells its bytes,
-- before which so many were taken, the lines are its lines. The run is that on the lines before the first past the limits too, and where it waits for a
-- line there is no such line: each was handed over, and has at most 1,048,576 bytes.
pub record IsFed (Runs : List (List ℕ) → Run → Type 0) (taken : ℕ) (text before after : Option (List ℕ)) (close : Close) : Type 0 where
  pub lines : List (List ℕ)
  pub are : IfSome text (λ bytes. lines ≡ lines_of bytes)
  pub run : Run
  pub runs : Runs lines run
  pub closes : run.close ≡ close
  pub grown : after ≡ option_map (λ written. written ++ run.printed) before
  pub within : IfSome text (λ bytes. Runs (usable_lines taken bytes) run × (close ≡ is_suspended → passes_limits taken bytes ≡ false))
  pub short : close ≡ is_suspended → Each (λ (line : List ℕ). length line ≤ 2 ^ 20) lines

-- and its last world is this one
pub record IsFedTo (Runs : List (List ℕ) → Run → Type 0) (taken : ℕ) (text before after : Option (List ℕ)) (close : Close) (now : Memory) : Type 0 where
  pub fed : IsFed Runs taken text before after close
  pub leaves : IsLast fed.run.last now

-- A line is past the limits, a run on the lines before it waits for it, and the output has grown by what the run prints.
pub record IsCutOff (Runs : List (List ℕ) → Run → Type 0) (taken : ℕ) (text before after : Option (List ℕ)) : Type 0 where
  pub lines : List (List ℕ)
  pub are : IfSome text (λ bytes. lines ≡ usable_lines taken bytes)
  pub run : Run
  pub runs : Runs lines run
  pub waits : run.close ≡ is_suspended
  pub grown : after ≡ option_map (λ written. written ++ run.printed) before
  pub past : IfSome text (λ bytes. passes_limits taken bytes ≡ true)

-- Reading failed: a run on some first lines of the input, of which none is past the limits, waits for the next, and the output has grown by all that the run
-- prints.
pub record IsBrokenOff (Runs : List (List ℕ) → Run → Type 0) (taken : ℕ) (text before after : Option (List ℕ)) : Type 0 where
  pub lines : List (List ℕ)
  pub are : IfSome text (λ bytes. (more : List (List ℕ)) × (usable_lines taken bytes ≡ lines ++ more))
  pub short : Each (λ (line : List ℕ). length line ≤ 2 ^ 20) lines
  pub run : Run
  pub runs : Runs lines run
  pub waits : run.close ≡ is_suspended
  pub grown : after ≡ option_map (λ written. written ++ run.printed) before

-- whatever the lines are, the output has grown by a prefix of what a run on them prints
pub record IsFront (rows : ℕ → Row) (W : World) (budget : ℕ) (before after : Option (List ℕ)) : Type 0 where
  pub is : (lines : List (List ℕ)) (run : Run) → CodeRun rows W lines budget run → GrowsByFront run.printed before after

-- the output has grown by a prefix of what any run on the lines of the input before the first past the limits prints
pub record IsFedFront (Runs : List (List ℕ) → Run → Type 0) (taken : ℕ) (text before after : Option (List ℕ)) : Type 0 where
  pub is : IfSome text (λ bytes. (run : Run) → Runs (usable_lines taken bytes) run → GrowsByFront run.printed before after)

-- where it tells after the call, the output has grown, by whatever bytes
abbrev pub OnlyGrows : (before after : Option (List ℕ)) → Type 0
OnlyGrows before after = IfSome after (λ now. (text : List ℕ) × (more : List ℕ) × (before ≡ Some text) × (now ≡ text ++ more))
