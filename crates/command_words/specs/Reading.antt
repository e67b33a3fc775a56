-- How words are read one after another, for the functions that read them. What words ask for is said in `Words`.
use Rattle.std.specs.Prelude.{ℕ, ◌^◌, List, [], ◌∷◌, ◌++◌, length, Bool, true, false, ◌&&◌, not, nat_eq, nat_lt, nat_le, if◌then◌else◌, Option, Some, None, option_and_then, option_map, unwrap_or, codes}
use Rattle.std.specs.Char.{is_digit}
use Rattle.std.specs.List.{list_all}
use Rattle.std.specs.Str.{bytes_eq}
use Rattle.std.specs.Str.Parse.{digits_value}
use Rattle.command_words.specs.Words.{Command, run, resume, check, compile, work}
use Rattle.command_words.specs.declared.arguments.Next.{Next}
use Rattle.command_words.specs.declared.arguments.Next.TheVariants.{Any, Budget, Save, File}

-- the files and options of the words so far, and what the next word is
pub record Arguments : Type 0 where
  pub files : List (List ℕ)
  pub budget : Option ℕ
  pub save : Option (List ℕ)
  pub strip : Bool
  pub next : Next

abbrev pub no_arguments : Arguments
no_arguments = record { files = []; budget = None; save = None; strip = false; next = Any }

-- no command takes more than two files
abbrev pub with_file : List ℕ → Arguments → Option Arguments
with_file word a = if nat_lt (length a.files) 2 then Some (record a { files = a.files ++ word ∷ [] }) else None

-- each option stands once at most

abbrev pub with_strip : Arguments → Option Arguments
with_strip a = if a.strip then None else Some (record a { strip = true })

abbrev pub with_budget : Option ℕ → Arguments → Option Arguments
with_budget (Some budget) a = elim a.budget [ None ↦ Some (record a { budget = Some budget; next = Any }) | Some other ↦ None ]
with_budget None a = None

abbrev pub with_save : List ℕ → Arguments → Option Arguments
with_save image a = elim a.save [ None ↦ Some (record a { save = Some image; next = Any }) | Some other ↦ None ]

abbrev pub all_digits : List ℕ → Bool
all_digits text = list_all (λ byte. is_digit byte 10) text

abbrev pub number_in : List ℕ → Option ℕ
number_in text = if nat_le (length text) 15 && all_digits text && nat_lt 0 (digits_value 10 text) then Some (digits_value 10 text) else None

abbrev pub up_to : (most : ℕ) → Option ℕ → Option ℕ
up_to most (Some number) = if nat_le number most then Some number else None
up_to most None = None

abbrev pub count_in : List ℕ → Option ℕ
count_in text = up_to 10000 (number_in text)

-- what stands behind a front of the word
abbrev pub value_behind : (front word : List ℕ) → Option (List ℕ)
value_behind [] word = Some word
value_behind (byte ∷ front) [] = None
value_behind (byte ∷ front) (first ∷ word) = if nat_eq byte first then value_behind front word else None

abbrev pub begins_option : List ℕ → Bool
begins_option [] = false
begins_option (byte ∷ word) = nat_eq byte 45

abbrev pub with_unvalued : List ℕ → Arguments → Option Arguments
with_unvalued word a = if begins_option word then None else with_file word a

abbrev pub with_image : Option (List ℕ) → List ℕ → Arguments → Option Arguments
with_image (Some image) word a = with_save image a
with_image None word a = with_unvalued word a

abbrev pub with_value : Option (List ℕ) → List ℕ → Arguments → Option Arguments
with_value (Some digits) word a = with_budget (number_in digits) a
with_value None word a = with_image (value_behind (codes "--save=") word) word a

abbrev pub with_other : List ℕ → Arguments → Option Arguments
with_other word a = with_value (value_behind (codes "--budget=") word) word a

abbrev pub with_any : List ℕ → Arguments → Option Arguments
with_any word a =
    if bytes_eq word (codes "--") then Some (record a { next = File })
    else if bytes_eq word (codes "--budget") then Some (record a { next = Budget })
    else if bytes_eq word (codes "--save") then Some (record a { next = Save })
    else if bytes_eq word (codes "--strip") then with_strip a
    else with_other word a

abbrev pub with_word : List ℕ → Arguments → Option Arguments
with_word word a = elim a.next [ Any ↦ with_any word a | Budget ↦ with_budget (number_in word) a | Save ↦ with_save word a | File ↦ with_file word a ]

-- `--budget` and `--save` have a value
abbrev pub complete : Arguments → Option Arguments
complete a = elim a.next [ Budget ↦ None | Save ↦ None | Any ↦ Some a | File ↦ Some a ]

abbrev pub after : Arguments → List (List ℕ) → Option Arguments
after a [] = complete a
after a (word ∷ words) = option_and_then (λ b. after b words) (with_word word a)

abbrev pub is_short : List ℕ → Bool
is_short file = nat_le (length file) (2 ^ 16)

abbrev pub may_be_saved : Option (List ℕ) → Bool
may_be_saved None = true
may_be_saved (Some image) = is_short image && nat_lt 0 (length image)

abbrev pub feeding : (List ℕ → ℕ → Option (List ℕ) → Command) → (files : List (List ℕ)) (budget : ℕ) (save : Option (List ℕ)) → Option Command
feeding command (file ∷ []) budget save = if is_short file && may_be_saved save then Some (command file budget save) else None
feeding command _ budget save = None

abbrev pub checking : (files : List (List ℕ)) → Option Command
checking (file ∷ []) = if is_short file then Some (check file) else None
checking _ = None

abbrev pub compiling : (files : List (List ℕ)) (strip : Bool) → Option Command
compiling (script ∷ chunk ∷ []) strip = if is_short script && is_short chunk then Some (compile script chunk strip) else None
compiling _ strip = None

abbrev pub to_feed : (List ℕ → ℕ → Option (List ℕ) → Command) → Arguments → Option Command
to_feed command a = if a.strip then None else feeding command a.files (unwrap_or a.budget 10000000) a.save

abbrev pub to_run : Arguments → Option Command
to_run a = to_feed run a

abbrev pub to_resume : Arguments → Option Command
to_resume a = to_feed resume a

abbrev pub unset : {T U : Type 0} → Option T → Option U → Bool
unset None None = true
unset None (Some other) = false
unset (Some one) other = false

abbrev pub to_check : Arguments → Option Command
to_check a = if not a.strip && unset a.budget a.save then checking a.files else None

abbrev pub to_compile : Arguments → Option Command
to_compile a = if unset a.budget a.save then compiling a.files a.strip else None

abbrev pub working : (files : List (List ℕ)) → Option Command
working (digits ∷ []) = option_map work (count_in digits)
working _ = None

abbrev pub to_work : Arguments → Option Command
to_work a = if not a.strip && unset a.budget a.save then working a.files else None

abbrev pub command_with : (name : List ℕ) → Arguments → Option Command
command_with name a =
    if bytes_eq name (codes "run") then to_run a
    else if bytes_eq name (codes "resume") then to_resume a
    else if bytes_eq name (codes "check") then to_check a
    else if bytes_eq name (codes "compile") then to_compile a
    else if bytes_eq name (codes "work") then to_work a else None

abbrev pub command_of : List (List ℕ) → Option Command
command_of [] = None
command_of (name ∷ words) = option_and_then (command_with name) (after no_arguments words)
