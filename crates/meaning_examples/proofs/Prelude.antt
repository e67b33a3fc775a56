-- The functions of the prelude as trees: each is the function of this name in `prelude_text` of library_rows.
use Rattle.std.specs.Prelude.{List, [], ◌∷◌}
use Rattle.library_rows.specs.Library.{Entry}
use Rattle.lua_meaning.specs.Opening.{prelude_of}
use Rattle.tree_core.specs.declared.name.Place.TheVariants.{Local as LocalPlace}
use Rattle.tree_core.specs.declared.operator.BinOp.TheVariants.{Add, Sub, Concat, Lt, Le, Gt, Ge, Eq, Ne}
use Rattle.tree_core.specs.declared.operator.UnOp.TheVariants.{Neg, Not, Len}
use Rattle.tree_core.specs.declared.name.Place.TheVariants.{GlobalIn}
use Rattle.tree_core.specs.Tree.{Body, Nil, True, False, Var, Unary, And, Or, Paren, Index, Table, While, If, IfElse, NumFor, NumForStep, Break, fields, arms}
use Rattle.tree_terms.proofs.Forms.{name, declared, of_local, loc, outer, global, int, str, bin, call, field, function, block, returning, locals, loc_is, assign, does, when, fun, vararg_fun}
use Rattle.lua_meaning.proofs.Scripts.{dots, env, tostring_body, print_body, pairs_body, after_body, wrap_body}

abbrev pub bad_body : Body
bad_body =
    fun ("i" ∷ "f" ∷ "w" ∷ []) (env ∷ []) (block (
    does (call (global "error") (bin Concat (str "bad argument #") (bin Concat (loc "i" 0) (bin Concat (str " to '") (bin Concat (loc "f" 1) (bin Concat (str "' (") (bin Concat (loc "w" 2) (str ")")))))) ∷ [])) ∷ []))

abbrev pub tabl_body : Body
tabl_body =
    fun ("f" ∷ "t" ∷ []) (env ∷ []) (block (
    when (bin Ne (call (global "type") (loc "t" 1 ∷ [])) (str "table")) (
    does (call (global "bad") (int 1 ∷ loc "f" 0 ∷ bin Concat (str "table expected, got ") (call (global "type") (loc "t" 1 ∷ [])) ∷ [])) ∷ []) ∷ []))

abbrev pub int_body : Body
int_body =
    fun ("f" ∷ "i" ∷ "v" ∷ []) (env ∷ []) (returning (
    loc_is "n" 3 (call (global "toint") (loc "v" 2 ∷ []))
    ∷ when (bin Eq (loc "n" 3) (Nil 1)) (
    does (call (global "bad") (loc "i" 1 ∷ loc "f" 0 ∷ bin Concat (str "number expected, got ") (call (global "type") (loc "v" 2 ∷ [])) ∷ [])) ∷ []) ∷ []) (loc "n" 3 ∷ []))

abbrev pub str_body : Body
str_body =
    fun ("f" ∷ "i" ∷ "v" ∷ []) (env ∷ []) (returning (
    loc_is "k" 3 (call (global "type") (loc "v" 2 ∷ []))
    ∷ If 1 (arms ((bin Eq (loc "k" 3) (str "number"), returning [] (call (global "text") (loc "v" 2 ∷ []) ∷ [])) ∷ []))
    ∷ when (bin Ne (loc "k" 3) (str "string")) (does (call (global "bad") (loc "i" 1 ∷ loc "f" 0 ∷ bin Concat (str "string expected, got ") (loc "k" 3) ∷ [])) ∷ []) ∷ []) (loc "v" 2 ∷ []))

abbrev pub inext_body : Body
inext_body =
    fun ("t" ∷ "i" ∷ []) [] (block (
    assign (loc "i" 1) (bin Add (loc "i" 1) (int 1))
    ∷ loc_is "v" 2 (Index 1 (loc "t" 0) (loc "i" 1))
    ∷ If 1 (arms ((bin Ne (loc "v" 2) (Nil 1), returning [] (loc "i" 1 ∷ loc "v" 2 ∷ [])) ∷ [])) ∷ []))

abbrev pub ipairs_body : Body
ipairs_body =
    fun ("t" ∷ []) (env ∷ []) (returning [] (global "inext" ∷ loc "t" 0 ∷ int 0 ∷ []))

abbrev pub insert_body : Body
insert_body =
    vararg_fun ("t" ∷ []) (env ∷ []) (block (
    does (call (global "tabl") (str "insert" ∷ loc "t" 0 ∷ []))
    ∷ locals (declared "e" 1 ∷ declared "n" 2 ∷ []) (bin Add (Unary 1 Len (loc "t" 0)) (int 1) ∷ call (global "select") (str "#" ∷ dots ∷ []) ∷ [])
    ∷ If 1 (arms ((bin Eq (loc "n" 2) (int 1), returning (assign (Index 1 (loc "t" 0) (loc "e" 1)) (Paren 1 dots) ∷ []) []) ∷ []))
    ∷ when (bin Ne (loc "n" 2) (int 2)) (does (call (global "error") (str "wrong number of arguments to 'insert'" ∷ [])) ∷ [])
    ∷ locals (declared "p" 3 ∷ declared "v" 4 ∷ []) (dots ∷ [])
    ∷ assign (loc "p" 3) (call (global "int") (str "insert" ∷ int 2 ∷ loc "p" 3 ∷ []))
    ∷ when (Or 1 (bin Lt (loc "p" 3) (int 1)) (bin Gt (loc "p" 3) (loc "e" 1))) (does (call (global "bad") (int 2 ∷ str "insert" ∷ str "position out of bounds" ∷ [])) ∷ [])
    ∷ NumForStep 1 (name "i" (LocalPlace 8)) (loc "e" 1) (bin Add (loc "p" 3) (int 1)) (Unary 1 Neg (int 1)) (block (assign (Index 1 (loc "t" 0) (loc "i" 8)) (Index 1 (loc "t" 0) (bin Sub (loc "i" 8) (int 1))) ∷ []))
    ∷ assign (Index 1 (loc "t" 0) (loc "p" 3)) (loc "v" 4) ∷ []))

abbrev pub remove_body : Body
remove_body =
    fun ("t" ∷ "p" ∷ []) (env ∷ []) (returning (
    does (call (global "tabl") (str "remove" ∷ loc "t" 0 ∷ []))
    ∷ loc_is "n" 2 (Unary 1 Len (loc "t" 0))
    ∷ IfElse 1 (arms ((bin Eq (loc "p" 1) (Nil 1), block (assign (loc "p" 1) (loc "n" 2) ∷ [])) ∷ [])) (block (assign (loc "p" 1) (call (global "int") (str "remove" ∷ int 2
    ∷ loc "p" 1 ∷ [])) ∷ []))
    ∷ when (And 1 (bin Ne (loc "p" 1) (loc "n" 2)) (Paren 1 (Or 1 (bin Lt (loc "p" 1) (int 1)) (bin Gt (loc "p" 1) (bin Add (loc "n" 2) (int 1)))))) (does (call (global "bad") (int 2 ∷ str "remove" ∷ str "position out of bounds" ∷ [])) ∷ [])
    ∷ loc_is "v" 3 (Index 1 (loc "t" 0) (loc "p" 1))
    ∷ NumFor 1 (name "i" (LocalPlace 7)) (loc "p" 1) (bin Sub (loc "n" 2) (int 1)) (block (assign (Index 1 (loc "t" 0) (loc "i" 7)) (Index 1 (loc "t" 0) (bin Add (loc "i" 7) (int 1))) ∷ []))
    ∷ when (bin Lt (loc "p" 1) (loc "n" 2)) (assign (loc "p" 1) (loc "n" 2) ∷ [])
    ∷ assign (Index 1 (loc "t" 0) (loc "p" 1)) (Nil 1) ∷ []) (loc "v" 3 ∷ []))

abbrev pub concat_body : Body
concat_body =
    fun ("t" ∷ "s" ∷ "i" ∷ "j" ∷ []) (env ∷ []) (returning (
    does (call (global "tabl") (str "concat" ∷ loc "t" 0 ∷ []))
    ∷ IfElse 1 (arms ((bin Eq (loc "s" 1) (Nil 1), block (assign (loc "s" 1) (str "") ∷ [])) ∷ [])) (block (assign (loc "s" 1) (call (global "str") (str "concat" ∷ int 2
    ∷ loc "s" 1 ∷ [])) ∷ []))
    ∷ IfElse 1 (arms ((bin Eq (loc "i" 2) (Nil 1), block (assign (loc "i" 2) (int 1) ∷ [])) ∷ [])) (block (assign (loc "i" 2) (call (global "int") (str "concat" ∷ int 3 ∷ loc "i" 2 ∷ [])) ∷ []))
    ∷ IfElse 1 (arms ((bin Eq (loc "j" 3) (Nil 1), block (assign (loc "j" 3) (Unary 1 Len (loc "t" 0)) ∷ [])) ∷ [])) (block (assign (loc "j" 3) (call (global "int") (str "concat" ∷ int 4 ∷ loc "j" 3 ∷ [])) ∷ []))
    ∷ locals (declared "r" 4 ∷ declared "n" 5 ∷ []) (Table 1 (fields []) ∷ int 0 ∷ [])
    ∷ NumFor 1 (name "k" (LocalPlace 9)) (loc "i" 2) (loc "j" 3) (block (
    loc_is "v" 10 (Index 1 (loc "t" 0) (loc "k" 9))
    ∷ loc_is "y" 11 (call (global "type") (loc "v" 10 ∷ []))
    ∷ when (And 1 (bin Ne (loc "y" 11) (str "string")) (bin Ne (loc "y" 11) (str "number"))) (
    does (call (global "error") (bin Concat (str "invalid value (at index ") (bin Concat (loc "k" 9) (str ") in table for 'concat'")) ∷ [])) ∷ [])
    ∷ when (bin Gt (loc "n" 5) (int 0)) (assign (loc "n" 5) (bin Add (loc "n" 5) (int 1)) ∷ assign (Index 1 (loc "r" 4) (loc "n" 5)) (loc "s" 1) ∷ [])
    ∷ assign (loc "n" 5) (bin Add (loc "n" 5) (int 1))
    ∷ assign (Index 1 (loc "r" 4) (loc "n" 5)) (loc "v" 10) ∷ [])) ∷ []) (call (global "join") (loc "r" 4 ∷ loc "n" 5 ∷ []) ∷ []))

abbrev pub unpack_body : Body
unpack_body =
    fun ("t" ∷ "i" ∷ "j" ∷ []) (env ∷ []) (returning (
    IfElse 1 (arms ((bin Eq (loc "i" 1) (Nil 1), block (assign (loc "i" 1) (int 1) ∷ [])) ∷ [])) (block (assign (loc "i" 1) (call (global "int") (str "unpack" ∷ int 2 ∷ loc "i" 1 ∷ [])) ∷ []))
    ∷ IfElse 1 (arms ((bin Eq (loc "j" 2) (Nil 1), block (assign (loc "j" 2) (Unary 1 Len (loc "t" 0)) ∷ [])) ∷ [])) (block (assign (loc "j" 2) (call (global "int") (str "unpack" ∷ int 3 ∷ loc "j" 2 ∷ [])) ∷ []))
    ∷ If 1 (arms ((bin Gt (loc "i" 1) (loc "j" 2), returning [] []) ∷ []))
    ∷ when (Or 1 (bin Lt (bin Sub (loc "j" 2) (loc "i" 1)) (int 0)) (bin Ge (bin Sub (loc "j" 2) (loc "i" 1)) (int 1000000))) (does (call (global "error") (str "too many results to unpack" ∷ [])) ∷ [])
    ∷ loc_is "r" 3 (Table 1 (fields []))
    ∷ NumFor 1 (name "k" (LocalPlace 7)) (loc "i" 1) (loc "j" 2) (block (assign (Index 1 (loc "r" 3) (bin Add (bin Sub (loc "k" 7) (loc "i" 1)) (int 1))) (Index 1 (loc "t" 0) (loc "k" 7)) ∷ [])) ∷ []) (call (global "spread") (loc "r" 3 ∷ bin Add (bin Sub (loc "j" 2) (loc "i" 1)) (int 1) ∷ []) ∷ []))

abbrev pub move_body : Body
move_body =
    fun ("a" ∷ "f" ∷ "e" ∷ "t" ∷ "b" ∷ []) (env ∷ []) (returning (
    does (call (global "tabl") (str "move" ∷ loc "a" 0 ∷ []))
    ∷ assign (loc "f" 1) (call (global "int") (str "move" ∷ int 2 ∷ loc "f" 1 ∷ []))
    ∷ assign (loc "e" 2) (call (global "int") (str "move" ∷ int 3 ∷ loc "e" 2 ∷ []))
    ∷ assign (loc "t" 3) (call (global "int") (str "move" ∷ int 4 ∷ loc "t" 3 ∷ []))
    ∷ If 1 (arms ((bin Eq (loc "b" 4) (Nil 1), block (assign (loc "b" 4) (loc "a" 0) ∷ [])) ∷ (
      bin Ne (call (global "type") (loc "b" 4 ∷ [])) (str "table"),
      block (
          does (call (global "bad") (int 5 ∷ str "move" ∷ bin Concat (str "table expected, got ") (call (global "type") (loc "b" 4 ∷ [])) ∷ [])) ∷ []),
    ) ∷ []))
    ∷ when (bin Ge (loc "e" 2) (loc "f" 1)) (
    when (And 1 (bin Le (loc "f" 1) (int 0)) (bin Ge (loc "e" 2) (bin Add (int 9223372036854775807) (loc "f" 1)))) (does (call (global "bad") (int 3 ∷ str "move"
    ∷ str "too many elements to move" ∷ [])) ∷ [])
    ∷ when (bin Gt (loc "t" 3) (bin Sub (int 9223372036854775807) (Paren 1 (bin Sub (loc "e" 2) (loc "f" 1))))) (does (call (global "bad") (int 4 ∷ str "move"
    ∷ str "destination wrap around" ∷ [])) ∷ [])
    ∷ IfElse 1 (arms ((
      Or 1 (Or 1 (bin Gt (loc "t" 3) (loc "e" 2)) (bin Le (loc "t" 3) (loc "f" 1))) (bin Ne (loc "b" 4) (loc "a" 0)),
      block (
          NumFor 1 (name "i" (LocalPlace 8)) (int 0) (bin Sub (loc "e" 2) (loc "f" 1)) (block (assign (Index 1 (loc "b" 4) (bin Add (loc "t" 3) (loc "i" 8))) (Index 1 (loc "a" 0) (bin Add (loc "f" 1) (loc "i" 8))) ∷ [])) ∷ []),
    ) ∷ [])) (block (
    NumForStep 1 (name "i" (LocalPlace 8)) (bin Sub (loc "e" 2) (loc "f" 1)) (int 0) (Unary 1 Neg (int 1)) (block (assign (Index 1 (loc "b" 4) (bin Add (loc "t" 3) (loc "i" 8))) (Index 1 (loc "a" 0) (bin Add (loc "f" 1) (loc "i" 8))) ∷ [])) ∷ [])) ∷ []) ∷ []) (loc "b" 4 ∷ []))

abbrev pub gmatch_body : Body
gmatch_body =
    fun ("s" ∷ "p" ∷ "i" ∷ []) (env ∷ []) (returning (
    loc_is "_ENV" 3 (outer "_ENV" 0)
    ∷ assign (loc "s" 0) (call (Var 1 (name "str" (GlobalIn 3))) (str "gmatch" ∷ int 1 ∷ loc "s" 0 ∷ []))
    ∷ assign (loc "p" 1) (call (Var 1 (name "str" (GlobalIn 3))) (str "gmatch" ∷ int 2 ∷ loc "p" 1 ∷ []))
    ∷ when (bin Ne (loc "i" 2) (Nil 1)) (assign (loc "i" 2) (call (Var 1 (name "int" (GlobalIn 3))) (str "gmatch" ∷ int 3 ∷ loc "i" 2 ∷ [])) ∷ [])
    ∷ locals (declared "at" 4 ∷ declared "last" 5 ∷ []) (call (Var 1 (name "from" (GlobalIn 3))) (loc "i" 2 ∷ Unary 1 Len (loc "s" 0) ∷ [])
    ∷ int 0 ∷ []) ∷ []) (function (fun [] (of_local "_ENV" 3 ∷ of_local "s" 0 ∷ of_local "p" 1 ∷ of_local "at" 4 ∷ of_local "last" 5 ∷ []) (returning (
    locals (declared "b" 0 ∷ declared "e" 1 ∷ declared "c" 2 ∷ []) (call (global "seek") (outer "s" 1 ∷ outer "p" 2 ∷ outer "at" 3 ∷ outer "last" 4 ∷ True 1 ∷ []) ∷ [])
    ∷ If 1 (arms ((bin Eq (loc "b" 0) (Nil 1), returning [] (Nil 1 ∷ [])) ∷ []))
    ∷ assign (outer "at" 3) (loc "e" 1)
    ∷ assign (outer "last" 4) (loc "e" 1) ∷ []) (call (global "spread") (loc "c" 2 ∷ field (loc "c" 2) "n" ∷ []) ∷ []))) ∷ []))

abbrev pub gsub_body : Body
gsub_body =
    fun ("s" ∷ "p" ∷ "r" ∷ "m" ∷ []) (env ∷ []) (returning (
    assign (loc "s" 0) (call (global "str") (str "gsub" ∷ int 1 ∷ loc "s" 0 ∷ []))
    ∷ assign (loc "p" 1) (call (global "str") (str "gsub" ∷ int 2 ∷ loc "p" 1 ∷ []))
    ∷ loc_is "k" 4 (call (global "type") (loc "r" 2 ∷ []))
    ∷ when (bin Eq (loc "k" 4) (str "number")) (assign (loc "r" 2) (call (global "text") (loc "r" 2 ∷ [])) ∷ assign (loc "k" 4) (str "string") ∷ [])
    ∷ when (And 1 (And 1 (bin Ne (loc "k" 4) (str "string")) (bin Ne (loc "k" 4) (str "table"))) (bin Ne (loc "k" 4) (str "function"))) (does (call (global "bad") (int 3
    ∷ str "gsub" ∷ bin Concat (str "string/function/table expected, got ") (loc "k" 4) ∷ [])) ∷ [])
    ∷ IfElse 1 (arms ((bin Eq (loc "m" 3) (Nil 1), block (assign (loc "m" 3) (bin Add (Unary 1 Len (loc "s" 0)) (int 1)) ∷ [])) ∷ [])) (block (assign (loc "m" 3) (call (global "int") (str "gsub" ∷ int 4 ∷ loc "m" 3 ∷ [])) ∷ []))
    ∷ locals (declared "o" 5 ∷ declared "q" 6 ∷ declared "at" 7 ∷ declared "last" 8 ∷ declared "n" 9 ∷ []) (Table 1 (fields []) ∷ int 0 ∷ int 1 ∷ int 0 ∷ int 0 ∷ [])
    ∷ While 1 (bin Lt (loc "n" 9) (loc "m" 3)) (block (
    locals (declared "b" 10 ∷ declared "e" 11 ∷ declared "c" 12 ∷ []) (call (global "seek") (loc "s" 0 ∷ loc "p" 1 ∷ loc "at" 7 ∷ loc "last" 8 ∷ False 1 ∷ []) ∷ [])
    ∷ when (bin Eq (loc "b" 10) (Nil 1)) (Break 1 ∷ [])
    ∷ assign (loc "n" 9) (bin Add (loc "n" 9) (int 1))
    ∷ locals (declared "v" 13 ∷ []) []
    ∷ IfElse 1 (arms ((bin Eq (loc "k" 4) (str "string"), block (assign (loc "v" 13) (call (global "expand") (loc "r" 2 ∷ loc "c" 12 ∷ [])) ∷ []))
    ∷ (bin Eq (loc "k" 4) (str "table"), block (assign (loc "v" 13) (Index 1 (loc "r" 2) (Index 1 (loc "c" 12) (int 1))) ∷ [])) ∷ [])) (block (assign (loc "v" 13) (call (loc "r" 2) (call (global "spread") (loc "c" 12 ∷ field (loc "c" 12) "n" ∷ []) ∷ [])) ∷ []))
    ∷ IfElse 1 (arms ((Unary 1 Not (loc "v" 13), block (assign (loc "v" 13) (Index 1 (loc "c" 12) (int 0)) ∷ [])) ∷ [])) (block (
    loc_is "y" 14 (call (global "type") (loc "v" 13 ∷ []))
    ∷ when (And 1 (bin Ne (loc "y" 14) (str "string")) (bin Ne (loc "y" 14) (str "number"))) (does (call (global "error") (bin Concat (str "invalid replacement value (a ") (bin Concat (loc "y" 14) (str ")")) ∷ [])) ∷ []) ∷ []))
    ∷ assign (Index 1 (loc "o" 5) (bin Add (loc "q" 6) (int 1))) (call (global "sub") (loc "s" 0 ∷ loc "at" 7 ∷ bin Sub (loc "b" 10) (int 1) ∷ []))
    ∷ assign (Index 1 (loc "o" 5) (bin Add (loc "q" 6) (int 2))) (loc "v" 13)
    ∷ assign (loc "q" 6) (bin Add (loc "q" 6) (int 2))
    ∷ assign (loc "at" 7) (loc "e" 11)
    ∷ assign (loc "last" 8) (loc "e" 11)
    ∷ when (bin Eq (call (global "sub") (loc "p" 1 ∷ int 1 ∷ int 1 ∷ [])) (str "^")) (Break 1 ∷ []) ∷ []))
    ∷ assign (Index 1 (loc "o" 5) (bin Add (loc "q" 6) (int 1))) (call (global "sub") (loc "s" 0 ∷ loc "at" 7 ∷ [])) ∷ []) (call (global "join") (loc "o" 5
    ∷ bin Add (loc "q" 6) (int 1) ∷ []) ∷ loc "n" 9 ∷ []))

abbrev pub format_body : Body
format_body =
    vararg_fun ("f" ∷ []) (env ∷ []) (returning (
    assign (loc "f" 0) (call (global "str") (str "format" ∷ int 1 ∷ loc "f" 0 ∷ []))
    ∷ locals (declared "a" 1 ∷ declared "k" 2 ∷ []) (call (global "pack") (dots ∷ []) ∷ call (global "kinds") (loc "f" 0 ∷ []) ∷ [])
    ∷ NumFor 1 (name "i" (LocalPlace 6)) (int 1) (Unary 1 Len (loc "k" 2)) (block (
    when (And 1 (bin Eq (call (global "sub") (loc "k" 2 ∷ loc "i" 6
    ∷ loc "i" 6 ∷ [])) (str "s")) (bin Le (loc "i" 6) (field (loc "a" 1) "n"))) (assign (Index 1 (loc "a" 1) (loc "i" 6)) (call (global "tostring") (Index 1 (loc "a" 1) (loc "i" 6) ∷ [])) ∷ []) ∷ [])) ∷ []) (call (global "layout") (loc "f" 0 ∷ call (global "spread") (loc "a" 1 ∷ field (loc "a" 1) "n" ∷ []) ∷ []) ∷ []))

abbrev pub load_body : Body
load_body =
    vararg_fun ("c" ∷ "n" ∷ "m" ∷ []) (env ∷ []) (returning (
    when (bin Eq (call (global "type") (loc "c" 0 ∷ [])) (str "function")) (
    locals (declared "r" 3 ∷ declared "q" 4 ∷ []) (Table 1 (fields []) ∷ int 0 ∷ [])
    ∷ While 1 (True 1) (block (
    locals (declared "ok" 5 ∷ declared "s" 6 ∷ []) (call (global "pcall") (loc "c" 0 ∷ []) ∷ [])
    ∷ If 1 (arms ((Unary 1 Not (loc "ok" 5), returning [] (Nil 1 ∷ loc "s" 6 ∷ [])) ∷ []))
    ∷ when (Or 1 (bin Eq (loc "s" 6) (Nil 1)) (bin Eq (loc "s" 6) (str ""))) (Break 1 ∷ [])
    ∷ If 1 (arms ((bin Ne (call (global "type") (loc "s" 6 ∷ [])) (str "string"), returning [] (Nil 1 ∷ str "reader function must return a string" ∷ [])) ∷ []))
    ∷ assign (loc "q" 4) (bin Add (loc "q" 4) (int 1))
    ∷ assign (Index 1 (loc "r" 3) (loc "q" 4)) (loc "s" 6) ∷ []))
    ∷ assign (loc "c" 0) (call (global "join") (loc "r" 3 ∷ loc "q" 4 ∷ [])) ∷ []) ∷ []) (call (global "build") (loc "c" 0 ∷ loc "n" 1 ∷ loc "m" 2 ∷ dots ∷ []) ∷ []))

-- all of them, in the order of the text
abbrev pub bodies : List Body
bodies =
    bad_body ∷ tabl_body ∷ int_body ∷ str_body ∷ tostring_body ∷ print_body ∷ inext_body ∷ ipairs_body ∷ pairs_body ∷ insert_body ∷ remove_body ∷ concat_body ∷ unpack_body
    ∷ move_body ∷ gmatch_body ∷ gsub_body ∷ format_body ∷ load_body ∷ after_body ∷ wrap_body ∷ []

abbrev pub prelude : List (Entry Body)
prelude = prelude_of bodies
