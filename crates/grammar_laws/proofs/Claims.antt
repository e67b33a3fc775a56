-- What is claimed of each part of a source: its piece weighs at most the tokens that were read, and has at most as many functions as tokens `function`
-- were read, where what stands before it is counted with it.
use Rattle.std.proofs.Common.{ℕ, ◌+◌, ◌≤◌, cond, List, [], ◌∷◌, length, Option, Some, None}
use Rattle.tree_core.specs.Tree as tree
use Rattle.lua_lex.specs.declared.token.Token.{Token}
use Rattle.lua_lex.specs.declared.token.Token.TheVariants as token
use Rattle.token_cursor.specs.declared.word.Word.{Word}
use Rattle.token_cursor.specs.declared.word.Word.TheVariants.{Keyword, Mark}
use Rattle.token_cursor.specs.declared.word.TheConstants.{FUNCTION}
use Rattle.token_cursor.specs.Words.{Lexeme, is_word}
use Rattle.lua_parse.specs.Moves.{Piece, a_line, a_name, some_names, some_params, a_declared, some_declared, an_exp, maybe_exp, some_exps, a_field, some_fields, a_target, an_arm, some_arms, some_items, a_stat, a_block, maybe_block, a_body, Part, chunk, word, more_fields, method_arguments, arguments, listed, string_argument, items, do_block, numeric, generic, more_names, local_function, local_names, more_declared}
use Rattle.tree_terms.specs.Weight.{weight, weight_of_arguments, weight_of_exps, weight_of_fields, weight_of_field, weight_of_stat, weight_of_arms, weight_of_stats, weight_of_block, weight_of_body}
use Rattle.tree_terms.specs.FunctionCount.{functions, functions_in_exps, functions_in_fields, functions_in_field, functions_in_stat, functions_in_arms, functions_in_stats, functions_in_block, functions_in_body}
use Rattle.tree_terms.specs.Asked.{ExpMeets, ExpsMeet, FieldsMeet, FieldMeets, StatMeets, ArmsMeet, StatsMeet}
use Rattle.grammar_laws.specs.Counted.{BlockIsCounted, BodyIsCounted, all_counted}
use Rattle.grammar_laws.proofs.Fronts.{front}
use Rattle.grammar_laws.proofs.Asking.{FrontMeets}

-- tokens `function`

abbrev pub opens_function : Token → ℕ
opens_function t = cond (is_word FUNCTION t) 1 0

abbrev pub opening : List Lexeme → ℕ
opening [] = 0
opening (t ∷ ts) = opens_function t.0 + opening ts

-- the token that spells a word

abbrev pub spelling : Word → Token
spelling (Keyword n) = token.Keyword n
spelling (Mark n) = token.Mark n

abbrev pub opens_function_as : Word → ℕ
opens_function_as w = opens_function (spelling w)

-- what a piece of tree weighs and has

abbrev pub ExpHolds : tree.Exp → (n m : ℕ) → Type 0
ExpHolds e n m = (weight e ≤ n) × (functions e ≤ m) × ExpMeets all_counted e

abbrev pub StatHolds : tree.Stat → (n m : ℕ) → Type 0
StatHolds s n m = (weight_of_stat s ≤ n) × (functions_in_stat s ≤ m) × StatMeets all_counted s

abbrev pub BlockHolds : tree.Block → (n m : ℕ) → Type 0
BlockHolds b n m = (weight_of_block b ≤ n) × (functions_in_block b ≤ m) × BlockIsCounted b

abbrev pub ArmsHold : tree.Arms → (n m : ℕ) → Type 0
ArmsHold as' n m = (weight_of_arms as' ≤ n) × (functions_in_arms as' ≤ m) × ArmsMeet all_counted as'

abbrev pub ItemsHold : List tree.Stat → Option (List tree.Exp) → (n m : ℕ) → Type 0
ItemsHold ss None n m = (weight_of_stats (tree.stats ss) ≤ n) × (functions_in_stats (tree.stats ss) ≤ m) × StatsMeet all_counted (tree.stats ss)
ItemsHold ss (Some es) n m =
    (weight_of_stats (tree.stats ss) + weight_of_exps (tree.exps es) + 1 ≤ n) × (functions_in_stats (tree.stats ss) + functions_in_exps (tree.exps es) ≤ m)
    × (StatsMeet all_counted (tree.stats ss) × ExpsMeet all_counted (tree.exps es))

abbrev pub StepHolds : Option tree.Exp → (n m : ℕ) → Type 0
StepHolds None n m = Unit {0}
StepHolds (Some e) n m = (weight e + 1 ≤ n) × (functions e ≤ m) × ExpMeets all_counted e

abbrev pub ElseHolds : Option tree.Block → (n m : ℕ) → Type 0
ElseHolds None n m = Unit {0}
ElseHolds (Some b) n m = (weight_of_block b + 1 ≤ n) × (functions_in_block b ≤ m) × BlockIsCounted b

abbrev pub Holds : Piece → (n m : ℕ) → Type 0
Holds (a_line line) n m = 1 ≤ n
Holds (a_name x) n m = 1 ≤ n
Holds (some_names xs) n m = length xs ≤ n
Holds (some_params xs vararg) n m = Unit {0}
Holds (a_declared d) n m = 1 ≤ n
Holds (some_declared ds) n m = length ds ≤ n
Holds (an_exp e) n m = ExpHolds e n m
Holds (maybe_exp e) n m = StepHolds e n m
Holds (some_exps es) n m = (weight_of_exps (tree.exps es) ≤ n) × (functions_in_exps (tree.exps es) ≤ m) × ExpsMeet all_counted (tree.exps es)
Holds (a_field f) n m = (weight_of_field f ≤ n) × (functions_in_field f ≤ m) × FieldMeets all_counted f
Holds (some_fields fs) n m = (weight_of_fields (tree.fields fs) ≤ n) × (functions_in_fields (tree.fields fs) ≤ m) × FieldsMeet all_counted (tree.fields fs)
Holds (a_target e own) n m = ExpHolds e n m
Holds (an_arm e b) n m = (weight e + weight_of_block b + 1 ≤ n) × (functions e + functions_in_block b ≤ m) × (ExpMeets all_counted e × BlockIsCounted b)
Holds (some_arms as') n m = ArmsHold (tree.arms as') n m
Holds (some_items ss es line) n m = ItemsHold ss es n m
Holds (a_stat s) n m = StatHolds s n m
Holds (a_block b) n m = BlockHolds b n m
Holds (maybe_block b) n m = ElseHolds b n m
Holds (a_body b) n m = (weight_of_body b ≤ n) × (functions_in_body b ≤ m) × BodyIsCounted b

abbrev pub HoldsAsArguments : Piece → (n m : ℕ) → Type 0
HoldsAsArguments (some_exps es) n m = (weight_of_arguments (tree.exps es) ≤ n) × (functions_in_exps (tree.exps es) ≤ m) × ExpsMeet all_counted (tree.exps es)
HoldsAsArguments _ n m = ⊥

-- with the bracket behind them
abbrev pub HoldsAsFields : Piece → (n m : ℕ) → Type 0
HoldsAsFields (some_fields fs) n m = (weight_of_fields (tree.fields fs) + 1 ≤ n) × (functions_in_fields (tree.fields fs) ≤ m) × FieldsMeet all_counted (tree.fields fs)
HoldsAsFields _ n m = ⊥

-- with `do` and `end`
abbrev pub HoldsAsDone : Piece → (n m : ℕ) → Type 0
HoldsAsDone (a_block b) n m = (weight_of_block b + 2 ≤ n) × (functions_in_block b ≤ m) × BlockIsCounted b
HoldsAsDone _ n m = ⊥

abbrev pub HoldsAsWord : Word → Piece → (n m : ℕ) → Type 0
HoldsAsWord w (a_line line) n m = (1 ≤ n) × (opens_function_as w ≤ m)
HoldsAsWord w _ n m = ⊥

-- with the end of the source
abbrev pub HoldsAsChunk : Piece → (n m : ℕ) → Type 0
HoldsAsChunk (a_block b) n m = (weight_of_block b + 1 ≤ n) × (functions_in_block b ≤ m) × BlockIsCounted b
HoldsAsChunk _ n m = ⊥

abbrev pub Claim : Part → Piece → (n m : ℕ) → Type 0
Claim chunk p n m = HoldsAsChunk p n m
Claim (word w) p n m = HoldsAsWord w p n m
Claim (more_fields fs height) p n m = HoldsAsFields p n m
Claim do_block p n m = HoldsAsDone p n m
Claim method_arguments p n m = HoldsAsArguments p n m
Claim arguments p n m = HoldsAsArguments p n m
Claim listed p n m = HoldsAsArguments p (n + 1) m
Claim string_argument p n m = HoldsAsArguments p n m
Claim _ p n m = Holds p n m

-- what stands before a part: its weight, its functions, and that it is counted

abbrev counted_before : Option Piece → ℕ × ℕ
counted_before (Some (an_exp e)) = (weight e, functions e)
counted_before (Some (some_exps es)) = (weight_of_exps (tree.exps es), functions_in_exps (tree.exps es))
counted_before (Some (some_fields fs)) = (weight_of_fields (tree.fields fs), functions_in_fields (tree.fields fs))
counted_before (Some (some_arms as')) = (weight_of_arms (tree.arms as'), functions_in_arms (tree.arms as'))
counted_before _ = (0, 0)

abbrev pub carried : Part → ℕ
carried (items ss height) = weight_of_stats (tree.stats ss)
carried (numeric line x) = 2
carried (generic line x) = 2
carried (more_names xs) = length xs
carried (local_function line) = 1
carried (local_names line) = 1
carried (more_declared ds) = length ds
carried part = (counted_before (front part)).0

abbrev pub written : Part → ℕ
written (items ss height) = functions_in_stats (tree.stats ss)
written part = (counted_before (front part)).1

abbrev pub IsReady : Part → Type 0
IsReady part = FrontMeets all_counted part
