-- Scripts on strings and patterns. What is expected is what `lua5.4` prints; texts of errors are this project's.
use Rattle.std.proofs.Common.{◌≡◌, [], ◌∷◌, refl}
use Rattle.std.specs.Prelude.{codes}
use Rattle.std.specs.Int.{int_wrap}
use Rattle.std.specs.Fmt.{digits}
use Rattle.int_core.specs.Heap.{raw_set}
use Rattle.library_rows.specs.Look.{put_metatable}
use Rattle.lua_meaning.specs.Libraries.{primitive_values, constant_values, library_table, environment}
use Rattle.lua_meaning.specs.Step.{row}
use Rattle.lua_pattern.specs.Classes.{kind_has}
use Rattle.lua_pattern.specs.Reading.{items_from, item_at}
use Rattle.tree_core.specs.declared.name.Place.TheVariants.{Local as LocalPlace}
use Rattle.tree_core.specs.declared.operator.BinOp.TheVariants.{Concat, Eq}
use Rattle.tree_core.specs.declared.operator.UnOp.TheVariants.{Len}
use Rattle.tree_core.specs.Tree.{Nil, True, Unary, Paren, Table, While, If, GenFor, Keyed, exps, fields, arms, Str}
use Rattle.tree_terms.proofs.Forms.{name, declared, loc, global, int, str, bin, call, field, function, block, returning, locals, loc_is, assign, does, fun}
use Rattle.lua_meaning.proofs.Scripts.{method, chunk, prints, usual}
use Rattle.meaning_examples.proofs.Scripts.{run, ran}

-- print(("THE (quick) fox"):find("%((%a+)%)"))
finds_a_capture : run 6000 (
    chunk (block (prints (method (Paren 1 (str "THE (quick) fox")) "find" (str "%((%a+)%)" ∷ []) ∷ []) ∷ []))) [] usual
    ≡ ran "5\t11\tquick\nreturn\n" 0
unfolding int_wrap digits raw_set put_metatable row primitive_values constant_values library_table environment items_from item_at kind_has
finds_a_capture = refl

-- print(("hello"):gsub("l","L"),string.format("%05d|%-4s|%x",42,"ab",255),utf8.len("\u{E9}a"),select("#",nil,nil))
replaces_and_formats : run 6000 (
    chunk (block (
    prints (method (Paren 1 (str "hello")) "gsub" (str "l" ∷ str "L" ∷ []) ∷ call (field (global "string") "format") (str "%05d|%-4s|%x" ∷ int 42 ∷ str "ab" ∷ int 255 ∷ [])
    ∷ call (field (global "utf8") "len") (Str 1 (195 ∷ 169 ∷ 97 ∷ []) ∷ []) ∷ call (global "select") (str "#" ∷ Nil 1 ∷ Nil 1 ∷ []) ∷ []) ∷ []))) [] usual
    ≡ ran "heLLo\t00042|ab  |ff\t2\t2\nreturn\n" 0
unfolding int_wrap digits raw_set put_metatable row primitive_values constant_values library_table environment items_from item_at kind_has
replaces_and_formats = refl

-- for k,v in ("a=1,b=2"):gmatch("(%w)=(%w)") do print(k,v) end
gives_each_match : run 6000 (
    chunk (block (
    GenFor 1 (name "k" (LocalPlace 4) ∷ name "v" (LocalPlace 5) ∷ []) (exps (method (Paren 1 (str "a=1,b=2")) "gmatch" (str "(%w)=(%w)" ∷ []) ∷ [])) (block (prints (loc "k" 4
    ∷ loc "v" 5 ∷ []) ∷ [])) ∷ []))) [] usual
    ≡ ran "a\t1\nb\t2\nreturn\n" 0
unfolding int_wrap digits raw_set put_metatable row primitive_values constant_values library_table environment items_from item_at kind_has
gives_each_match = refl

-- print(pcall(string.rep,"x",16777217))
too_large : run 6000 (
    chunk (block (prints (call (global "pcall") (field (global "string") "rep" ∷ str "x" ∷ int 16777217 ∷ []) ∷ []) ∷ []))) [] usual
    ≡ ran "false\ts.lua:1: resulting string too large\nreturn\n" 0
unfolding int_wrap digits raw_set put_metatable row primitive_values constant_values library_table environment
too_large = refl

-- print(("hello"):gsub("","-"))
empty_matches : run 6000 (
    chunk (block (prints (method (Paren 1 (str "hello")) "gsub" (str "" ∷ str "-" ∷ []) ∷ []) ∷ []))) [] usual
    ≡ ran "-h-e-l-l-o-\t6\nreturn\n" 0
unfolding int_wrap digits raw_set put_metatable row primitive_values constant_values library_table environment items_from item_at kind_has
empty_matches = refl

-- print(("$a $b"):gsub("%$(%w)",{a="x"}),("ab"):gsub(".",function(c) return c..c end,1))
replaces_by_table_and_function : run 6000 (
    chunk (block (
    prints (method (Paren 1 (str "$a $b")) "gsub" (str "%$(%w)" ∷ Table 1 (fields (Keyed 1 (str "a") (str "x") ∷ [])) ∷ []) ∷ method (Paren 1 (str "ab")) "gsub" (str "."
    ∷ function (fun ("c" ∷ []) [] (returning [] (bin Concat (loc "c" 0) (loc "c" 0) ∷ []))) ∷ int 1 ∷ []) ∷ []) ∷ []))) [] usual
    ≡ ran "x $b\taab\t1\nreturn\n" 0
unfolding int_wrap digits raw_set put_metatable row primitive_values constant_values library_table environment items_from item_at kind_has
replaces_by_table_and_function = refl

-- local room,bag="hall",{} while true do local c=coroutine.yield(room..": "..#bag.." items") local v,o=c:match("^(%a+)%s*(.*)$")
-- if v=="go" then room=o elseif v=="take" then table.insert(bag,o) elseif v=="quit" then return table.concat(bag,",") end end
room_by_room : run 6000 (
    chunk (block (
    locals (declared "room" 0 ∷ declared "bag" 1 ∷ []) (str "hall" ∷ Table 1 (fields []) ∷ [])
    ∷ While 1 (True 1) (block (
    loc_is "c" 2 (call (field (global "coroutine") "yield") (bin Concat (loc "room" 0) (bin Concat (str ": ") (bin Concat (Unary 1 Len (loc "bag" 1)) (str " items"))) ∷ []))
    ∷ locals (declared "v" 3 ∷ declared "o" 4 ∷ []) (method (loc "c" 2) "match" (str "^(%a+)%s*(.*)$" ∷ []) ∷ [])
    ∷ If 1 (arms ((bin Eq (loc "v" 3) (str "go"), block (assign (loc "room" 0) (loc "o" 4) ∷ []))
    ∷ (bin Eq (loc "v" 3) (str "take"), block (does (call (field (global "table") "insert") (loc "bag" 1 ∷ loc "o" 4 ∷ [])) ∷ []))
    ∷ (bin Eq (loc "v" 3) (str "quit"), returning [] (call (field (global "table") "concat") (loc "bag" 1 ∷ str "," ∷ []) ∷ [])) ∷ [])) ∷ [])) ∷ []))) (codes "take lamp" ∷ codes "go cellar" ∷ codes "take rope" ∷ codes "quit" ∷ []) usual
    ≡ ran "yield\thall: 0 items\nyield\thall: 1 items\nyield\tcellar: 1 items\nyield\tcellar: 2 items\nreturn\tlamp,rope\n" 0
unfolding int_wrap digits raw_set put_metatable row primitive_values constant_values library_table environment items_from item_at kind_has
room_by_room = refl
