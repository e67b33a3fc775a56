-- Short sources and how they are read.
use Rattle.std.proofs.Common.{◌≡◌, ℕ, List, [], ◌∷◌, Some, refl, pos}
use Rattle.std.specs.Prelude.{codes, false}
use Rattle.lua_lex.specs.declared.token.Token.TheVariants.{Name, Int, Keyword, Mark, End}
use Rattle.tree_core.specs.declared.operator.BinOp.TheVariants as binary
use Rattle.tree_core.specs.declared.operator.UnOp.TheVariants as unary
use Rattle.tree_core.specs.Tree as tree
use Rattle.token_cursor.specs.Words.{Lexeme}
use Rattle.lua_parse.specs.Moves.{a_block, chunk}
use Rattle.lua_parse.specs.Grammar.{expects, named}
use Rattle.lua_parse.specs.Reading.{Outcome, whole, stuck, cut}
use Rattle.lua_parse.proofs.Computing.{read}

abbrev outcome_of : List Lexeme → Outcome → Type 0
outcome_of tokens outcome = read 300 (expects 400 chunk) tokens ≡ Some outcome

abbrev name_at : ℕ → List ℕ → tree.Exp
name_at line text = tree.Var line (named text line)

-- `return 1+2*3`
product_in_sum : outcome_of ((Keyword 17, 1) ∷ (Int (pos 1), 1) ∷ (Mark 0, 1) ∷ (Int (pos 2), 1) ∷ (Mark 2, 1) ∷ (Int (pos 3), 1) ∷ (End, 1) ∷ [])
    (whole (a_block (tree.Returns tree.EndStats (tree.exps (tree.Binary 1 binary.Add (tree.Int 1 (pos 1)) (tree.Binary 1 binary.Mul (tree.Int 1 (pos 2)) (tree.Int 1 (pos 3))) ∷ [])) 6 1)) 2 [])
product_in_sum = refl

-- `x = f`, and `(g)()` on the next line: one statement
goes_on_behind_the_line : outcome_of ((Name (codes "x"), 1) ∷ (Mark 17, 1) ∷ (Name (codes "f"), 1) ∷ (Mark 18, 2) ∷ (Name (codes "g"), 2) ∷ (Mark 19, 2) ∷ (Mark 18, 2) ∷ (Mark 19, 2) ∷ (End, 2) ∷ [])
    (whole (a_block (tree.Falls (tree.stats (tree.Assign 1 (tree.exps (name_at 1 (codes "x") ∷ [])) (tree.exps (tree.Call 2 (tree.Call 2 (name_at 1 (codes "f")) (tree.exps (name_at 2 (codes "g") ∷ []))) tree.EndExps ∷ [])) ∷ [])) 8 2)) 2 [])
goes_on_behind_the_line = refl

-- `return a..b..c`
texts_group_to_the_right : outcome_of ((Keyword 17, 1) ∷ (Name (codes "a"), 1) ∷ (Mark 29, 1) ∷ (Name (codes "b"), 1) ∷ (Mark 29, 1) ∷ (Name (codes "c"), 1) ∷ (End, 1) ∷ [])
    (whole (a_block (tree.Returns tree.EndStats (tree.exps (tree.Binary 1 binary.Concat (name_at 1 (codes "a")) (tree.Binary 1 binary.Concat (name_at 1 (codes "b")) (name_at 1 (codes "c"))) ∷ [])) 6 1)) 2 [])
texts_group_to_the_right = refl

-- `return not a == b`
unary_binds_tighter : outcome_of ((Keyword 17, 1) ∷ (Keyword 14, 1) ∷ (Name (codes "a"), 1) ∷ (Mark 11, 1) ∷ (Name (codes "b"), 1) ∷ (End, 1) ∷ [])
    (whole (a_block (tree.Returns tree.EndStats (tree.exps (tree.Binary 1 binary.Eq (tree.Unary 1 unary.Not (name_at 1 (codes "a"))) (name_at 1 (codes "b")) ∷ [])) 5 1)) 2 [])
unary_binds_tighter = refl

-- `for i=1,2 do ; end`, whose body has one token
tokens_of_a_body : outcome_of ((Keyword 7, 1) ∷ (Name (codes "i"), 1) ∷ (Mark 17, 1) ∷ (Int (pos 1), 1) ∷ (Mark 27, 1) ∷ (Int (pos 2), 1) ∷ (Keyword 2, 1) ∷ (Mark 25, 2) ∷ (Keyword 5, 3) ∷ (End, 3) ∷ [])
    (whole (a_block (tree.Falls (tree.stats (tree.NumFor 1 (named (codes "i") 1) (tree.Int 1 (pos 1)) (tree.Int 1 (pos 2)) (tree.Falls (tree.stats (tree.Empty 2 ∷ [])) 1 3) ∷ [])) 9 3)) 1 [])
tokens_of_a_body = refl

-- `a`, `.b`, `(1)` on three lines: each has its own line
lines_of_suffixes : outcome_of ((Name (codes "a"), 1) ∷ (Mark 28, 2) ∷ (Name (codes "b"), 3) ∷ (Mark 18, 4) ∷ (Int (pos 1), 5) ∷ (Mark 19, 6) ∷ (End, 7) ∷ [])
    (whole (a_block (tree.Falls (tree.stats (tree.CallStat 1 (tree.Call 4 (tree.Index 2 (name_at 1 (codes "a")) (tree.Str 3 (codes "b"))) (tree.exps (tree.Int 5 (pos 1) ∷ []))) ∷ [])) 6 7)) 2 [])
lines_of_suffixes = refl

-- `function a.b:c() end`
methods_have_self : outcome_of ((Keyword 8, 1) ∷ (Name (codes "a"), 1) ∷ (Mark 28, 1) ∷ (Name (codes "b"), 1) ∷ (Mark 26, 2) ∷ (Name (codes "c"), 3) ∷ (Mark 18, 3) ∷ (Mark 19, 3) ∷ (Keyword 5, 4) ∷ (End, 4) ∷ [])
    (whole (a_block (tree.Falls (tree.stats (tree.Assign 1 (tree.exps (tree.Index 2 (tree.Index 1 (name_at 1 (codes "a")) (tree.Str 1 (codes "b"))) (tree.Str 3 (codes "c")) ∷ [])) (tree.exps (tree.Function 1 (tree.BodyOf (named (codes "self") 2 ∷ []) false (tree.Falls tree.EndStats 0 4) [] 1) ∷ [])) ∷ [])) 9 4)) 2 [])
methods_have_self = refl

-- `x =`: refused at the end
a_value_is_wanted : outcome_of ((Name (codes "x"), 1) ∷ (Mark 17, 1) ∷ (End, 2) ∷ []) (stuck ((End, 2) ∷ []))
a_value_is_wanted = refl

-- `(x) = 1`: refused at `=`
no_target : outcome_of ((Mark 18, 1) ∷ (Name (codes "x"), 1) ∷ (Mark 19, 1) ∷ (Mark 17, 1) ∷ (Int (pos 1), 1) ∷ (End, 1) ∷ []) (stuck ((Mark 17, 1) ∷ (Int (pos 1), 1) ∷ (End, 1) ∷ []))
no_target = refl

-- `x = {y`: cut
within_a_table : outcome_of ((Name (codes "x"), 1) ∷ (Mark 17, 1) ∷ (Mark 20, 1) ∷ (Name (codes "y"), 1) ∷ []) cut
within_a_table = refl
