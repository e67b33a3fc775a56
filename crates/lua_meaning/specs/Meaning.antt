-- What a script means on a list of input lines and a budget: the bytes that it prints, and how it ends (Lua 5.4 manual, 2 and 3).
use Rattle.std.specs.Prelude.{◌≡◌, ℕ, ◌==◌, Bool, true, false, cond, List, [], ◌∷◌, ◌++◌, length, reverse, Option, Some, None, option_map, codes}
use Rattle.int_core.specs.Value.{nil, boolean, integer, string, a_table, Value, known, object, shape}
use Rattle.int_core.specs.Operations.{type_name, integer_text}
use Rattle.lua_meaning.specs.World.{System, talking, Ending, yielded, returned, failed_with, spent, broken, Now, talks, gives_back, ends, World}
use Rattle.lua_meaning.specs.Step.{Primitives, ticks}

-- lines: each text before a line feed, and the text behind the last one where it is not empty

abbrev pub last_line : List ℕ → List (List ℕ)
last_line [] = []
last_line (c ∷ text) = reverse (c ∷ text) ∷ []

-- `text` is the line so far, the last byte first
abbrev pub lines_from : List ℕ → (text : List ℕ) → List (List ℕ)
lines_from [] text = last_line text
lines_from (c ∷ bytes) text = cond (c == 10) (reverse text ∷ lines_from bytes []) (lines_from bytes (c ∷ text))

abbrev pub lines : List ℕ → List (List ℕ)
lines bytes = lines_from bytes []

-- report lines: a word and the texts of values, without metamethods

abbrev pub report_text : Value → List ℕ
report_text (known nil) = codes "nil"
report_text (known (boolean true)) = codes "true"
report_text (known (boolean false)) = codes "false"
report_text (known (integer n)) = integer_text n
report_text (known (string s)) = s
report_text v = type_name (shape v) ++ codes ": object"

abbrev pub report_values : List Value → List ℕ
report_values [] = codes "\n"
report_values (v ∷ vs) = codes "\t" ++ report_text v ++ report_values vs

abbrev pub report : Ending → List ℕ
report (yielded vs) = codes "yield" ++ report_values vs
report (returned vs) = codes "return" ++ report_values vs
report (failed_with e) = codes "error" ++ report_values (e ∷ [])
report spent = []
report broken = []

-- how a run ends: it returned, failed, spent a turn's budget, or is suspended where the lines ran out at a yield
pub data Outcome (F S : Type 0) : Type 0 where
  has_returned : Outcome F S
  has_failed : Outcome F S
  has_spent : Outcome F S
  is_suspended : World F S → Outcome F S
  is_broken : Outcome F S

pub record Meaning (F S : Type 0) : Type 0 where
  pub printed : List ℕ
  pub outcome : Outcome F S

-- a script: its main function, which names the globals as its one outer variable, the name of its source, and whether its lines are known
pub record Script (F : Type 0) : Type 0 where
  pub main : F
  pub name : List ℕ
  pub has_lines : Bool

-- what a run gave before goes in front
abbrev pub behind : {F S : Type 0} → List ℕ → Meaning F S → Meaning F S
behind text m = record { printed = text ++ m.printed; outcome = m.outcome }

abbrev pub meant : {F S : Type 0} → World F S → Ending → Outcome F S → Meaning F S
meant W ending outcome = record { printed = W.printed ++ report ending; outcome = outcome }

-- what a turn that ended gives; at a yield the run goes on by `goes`. None where the turn has not ended
abbrev pub at_end : {F S : Type 0} → Now → World F S → (goes : World F S → Option (Meaning F S)) → Option (Meaning F S)
at_end (ends (yielded vs)) W goes = option_map (behind (W.printed ++ report (yielded vs))) (goes W)
at_end (ends (returned vs)) W goes = Some (meant W (returned vs) has_returned)
at_end (ends (failed_with e)) W goes = Some (meant W (failed_with e) has_failed)
at_end (ends spent) W goes = Some (meant W spent has_spent)
at_end (ends broken) W goes = Some (meant W broken is_broken)
at_end _ W goes = None

-- the lines have run out
abbrev pub suspends : {F S : Type 0} → World F S → Option (Meaning F S)
suspends W = Some (record { printed = []; outcome = is_suspended W })

module _ {F S : Type 0} (system : System F S) (primitives : Primitives F) where
  -- the script is about to run in a world of the libraries, with the whole budget; that costs nothing
  abbrev pub begun : World F S → Script F → (budget : ℕ) → World F S
  begun W script budget =
      record W {
        functions = W.functions ++ record { made_of = script.main; source = script.name; has_lines = script.has_lines; cells = length W.cells ∷ [] } ∷ [];
        cells = W.cells ++ object a_table W.globals ∷ [];
        frames = talking (length W.functions) (system.starts script.main []) ∷ [];
        printed = [];
        fuel = budget;
        now = talks;
      }

  -- a suspended script is handed a line, with the whole budget
  abbrev pub handed_line : World F S → List ℕ → (budget : ℕ) → World F S
  handed_line W line budget = record W { printed = []; fuel = budget; now = gives_back (known (string line) ∷ []) }

  -- from a world in which a turn begins, with at most so many steps a turn; None where they do not suffice
  abbrev pub run_from : (steps : ℕ) → World F S → List (List ℕ) → (budget : ℕ) → Option (Meaning F S)
  run_from steps W [] budget = let V = ticks system primitives steps W in at_end V.now V suspends
  run_from steps W (line ∷ more) budget =
      let V = ticks system primitives steps W in
      at_end V.now V (λ U. run_from steps (handed_line U line budget) more budget)

  -- the script on some lines, and a suspended script on further ones

  abbrev pub meaning : (steps : ℕ) → World F S → Script F → List (List ℕ) → (budget : ℕ) → Option (Meaning F S)
  meaning steps opening script input budget = run_from steps (begun opening script budget) input budget

  abbrev pub onward : (steps : ℕ) → World F S → List (List ℕ) → (budget : ℕ) → Option (Meaning F S)
  onward steps W [] budget = suspends W
  onward steps W (line ∷ more) budget = run_from steps (handed_line W line budget) more budget

  -- `m` is what the script means: some number of steps a turn gives it
  pub record IsMeaning (opening : World F S) (script : Script F) (input : List (List ℕ)) (budget : ℕ) (m : Meaning F S) : Type 0 where
    pub steps : ℕ
    pub gives : meaning steps opening script input budget ≡ Some m

  pub record IsOnward (W : World F S) (input : List (List ℕ)) (budget : ℕ) (m : Meaning F S) : Type 0 where
    pub steps : ℕ
    pub gives : onward steps W input budget ≡ Some m
