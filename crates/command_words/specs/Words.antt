-- What the words behind the program's name ask for. Options stand before or after the files, each once at most, and behind `--` every word is a file (POSIX, Utility Syntax Guidelines).
use Rattle.std.specs.Prelude.{◌≡◌, ◌≢◌, ℕ, ◌^◌, ◌<◌, ◌≤◌, List, [], ◌∷◌, ◌++◌, length, Bool, true, false, Option, Some, None, IfSome, codes}
use Rattle.std.proofs.Common.{zero, suc}
use Rattle.std.specs.Str.Parse.{IsNumeral, digits_value}

-- To run the script or the chunk in a file, or to go on with the session in an image, each turn with a budget, and to save the session in a file where
-- it waits at the end of the input; to check the chunk in a file; to compile the script in a file into a chunk in another one, with lines and names or
-- without; to run a script that is work alone, with so many functions.
pub data Command : Type 0 where
  run : (file : List ℕ) (budget : ℕ) (save : Option (List ℕ)) → Command
  resume : (image : List ℕ) (budget : ℕ) (save : Option (List ℕ)) → Command
  check : (file : List ℕ) → Command
  compile : (script chunk : List ℕ) (strip : Bool) → Command
  work : (count : ℕ) → Command

-- the word is a file where it stands before `--`
abbrev pub IsPlain : List ℕ → Type 0
IsPlain word = (rest : List ℕ) → word ≢ 45 ∷ rest

-- the words name these files in this order, these budgets, these images to save, and `--strip` so often
pub data Names : (words files budgets saves : List (List ℕ)) (strips : ℕ) → Type 0 where
  nothing : Names [] [] [] [] zero
  only_files : (files : List (List ℕ)) → Names (codes "--" ∷ files) files [] [] zero
  a_file : (word : List ℕ) {words files budgets saves : List (List ℕ)} {strips : ℕ} → IsPlain word → Names words files budgets saves strips → Names (word ∷ words) (word ∷ files) budgets saves strips
  a_budget : (digits : List ℕ) {words files budgets saves : List (List ℕ)} {strips : ℕ} → Names words files budgets saves strips → Names (codes "--budget" ∷ digits ∷ words) files (digits ∷ budgets) saves strips
  joined_budget : (digits : List ℕ) {words files budgets saves : List (List ℕ)} {strips : ℕ} → Names words files budgets saves strips
      → Names ((codes "--budget=" ++ digits) ∷ words) files (digits ∷ budgets) saves strips
  a_save : (image : List ℕ) {words files budgets saves : List (List ℕ)} {strips : ℕ} → Names words files budgets saves strips → Names (codes "--save" ∷ image ∷ words) files budgets (image ∷ saves) strips
  joined_save : (image : List ℕ) {words files budgets saves : List (List ℕ)} {strips : ℕ} → Names words files budgets saves strips
      → Names ((codes "--save=" ++ image) ∷ words) files budgets (image ∷ saves) strips
  a_strip : {words files budgets saves : List (List ℕ)} {strips : ℕ} → Names words files budgets saves strips → Names (codes "--strip" ∷ words) files budgets saves (suc strips)

-- one to fifteen digits of a number from 1 on
pub record IsNumber (text : List ℕ) (number : ℕ) : Type 0 where
  pub short : length text ≤ 15
  pub digits : IsNumeral 10 text
  pub value : number ≡ digits_value 10 text
  pub positive : 0 < number

-- the budget that is named, or where none is 10,000,000
pub data BudgetOf : List (List ℕ) → ℕ → Type 0 where
  default_budget : BudgetOf [] 10000000
  named_budget : (digits : List ℕ) (budget : ℕ) → IsNumber digits budget → BudgetOf (digits ∷ []) budget

-- a file's name has at most 65,536 bytes
abbrev pub IsShortName : List ℕ → Type 0
IsShortName file = length file ≤ 2 ^ 16

-- the file to save in, where one is named, which its value does
pub data SaveOf : List (List ℕ) → Option (List ℕ) → Type 0 where
  unsaved : SaveOf [] None
  saved : (image : List ℕ) → IsShortName image → 0 < length image → SaveOf (image ∷ []) (Some image)

-- whether it is named that lines and names are left out
pub data StripOf : ℕ → Bool → Type 0 where
  kept : StripOf zero false
  stripped : StripOf (suc zero) true

-- the words ask for the command
pub data IsCommand : (words : List (List ℕ)) → Command → Type 0 where
  runs : (words budgets saves : List (List ℕ)) (file : List ℕ) (budget : ℕ) (save : Option (List ℕ)) → Names words (file ∷ []) budgets saves zero → IsShortName file → BudgetOf budgets budget → SaveOf saves save
      → IsCommand (codes "run" ∷ words) (run file budget save)
  resumes : (words budgets saves : List (List ℕ)) (image : List ℕ) (budget : ℕ) (save : Option (List ℕ)) → Names words (image ∷ []) budgets saves zero → IsShortName image → BudgetOf budgets budget → SaveOf saves save
      → IsCommand (codes "resume" ∷ words) (resume image budget save)
  checks : (words : List (List ℕ)) (file : List ℕ) → Names words (file ∷ []) [] [] zero → IsShortName file → IsCommand (codes "check" ∷ words) (check file)
  compiles : (words : List (List ℕ)) (script chunk : List ℕ) (strips : ℕ) (strip : Bool) → Names words (script ∷ chunk ∷ []) [] [] strips → IsShortName script → IsShortName chunk → StripOf strips strip
      → IsCommand (codes "compile" ∷ words) (compile script chunk strip)
  works : (words : List (List ℕ)) (digits : List ℕ) (count : ℕ) → Names words (digits ∷ []) [] [] zero → IsNumber digits count → count ≤ 10000 → IsCommand (codes "work" ∷ words) (work count)

-- a command's files have short names, and its functions are few enough
abbrev pub AreShort : Command → Type 0
AreShort (run file budget save) = IsShortName file × IfSome save IsShortName
AreShort (resume image budget save) = IsShortName image × IfSome save IsShortName
AreShort (check file) = IsShortName file
AreShort (compile script chunk strip) = IsShortName script × IsShortName chunk
AreShort (work count) = (0 < count) × (count ≤ 10000)

-- the words ask for no command
abbrev pub AreWrong : List (List ℕ) → Type 0
AreWrong words = (command : Command) → IsCommand words command → ⊥

-- what the words ask for; None for wrong words
abbrev pub IsAsked : (words : List (List ℕ)) → Option Command → Type 0
IsAsked words (Some command) = IsCommand words command
IsAsked words None = AreWrong words
