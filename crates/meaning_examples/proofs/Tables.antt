-- Scripts on tables. What is expected is what `lua5.4` prints.
use Rattle.std.proofs.Common.{◌≡◌, [], ◌∷◌, refl}
use Rattle.std.specs.Int.{int_wrap}
use Rattle.std.specs.Fmt.{digits}
use Rattle.int_core.specs.Heap.{raw_set}
use Rattle.library_rows.specs.Look.{put_metatable}
use Rattle.lua_meaning.specs.Libraries.{primitive_values, constant_values, library_table, environment}
use Rattle.lua_meaning.specs.Step.{row}
use Rattle.tree_core.specs.declared.name.Place.TheVariants.{Local as LocalPlace}
use Rattle.tree_core.specs.declared.operator.UnOp.TheVariants.{Neg, Len}
use Rattle.tree_core.specs.Tree.{Nil, Unary, Index, Table, GenFor, Item, exps, fields}
use Rattle.tree_terms.proofs.Forms.{name, loc, global, int, str, call, field, block, loc_is, does}
use Rattle.lua_meaning.proofs.Scripts.{chunk, prints, usual}
use Rattle.meaning_examples.proofs.Scripts.{run, ran}

-- local t={3,1,2} table.sort(t) print(table.concat(t,","),math.abs(-4),math.tointeger("x"))
-- of a string stock Lua 5.4.4 gives fail as well
sorts_and_joins : run 6000 (
    chunk (block (
    loc_is "t" 0 (Table 1 (fields (Item (int 3) ∷ Item (int 1) ∷ Item (int 2) ∷ [])))
    ∷ does (call (field (global "table") "sort") (loc "t" 0 ∷ []))
    ∷ prints (call (field (global "table") "concat") (loc "t" 0 ∷ str "," ∷ []) ∷ call (field (global "math") "abs") (Unary 1 Neg (int 4) ∷ [])
    ∷ call (field (global "math") "tointeger") (str "x" ∷ []) ∷ []) ∷ []))) [] usual
    ≡ ran "1,2,3\t4\tnil\nreturn\n" 0
unfolding int_wrap digits raw_set put_metatable row primitive_values constant_values library_table environment
sorts_and_joins = refl

-- local t={1,2,3} table.insert(t,2,9) print(table.remove(t,1),table.remove(t),table.concat(t,","),#t)
inserts_and_removes : run 6000 (
    chunk (block (
    loc_is "t" 0 (Table 1 (fields (Item (int 1) ∷ Item (int 2) ∷ Item (int 3) ∷ [])))
    ∷ does (call (field (global "table") "insert") (loc "t" 0 ∷ int 2 ∷ int 9 ∷ []))
    ∷ prints (call (field (global "table") "remove") (loc "t" 0 ∷ int 1 ∷ []) ∷ call (field (global "table") "remove") (loc "t" 0 ∷ [])
    ∷ call (field (global "table") "concat") (loc "t" 0 ∷ str "," ∷ []) ∷ Unary 1 Len (loc "t" 0) ∷ []) ∷ []))) [] usual
    ≡ ran "1\t3\t9,2\t2\nreturn\n" 0
unfolding int_wrap digits raw_set put_metatable row primitive_values constant_values library_table environment
inserts_and_removes = refl

-- local t=table.move({1,2,3},1,3,2) print(t[1],t[2],t[3],t[4],select("#",table.unpack({1,nil,3},1,3)))
moves : run 6000 (
    chunk (block (
    loc_is "t" 0 (call (field (global "table") "move") (Table 1 (fields (Item (int 1) ∷ Item (int 2) ∷ Item (int 3) ∷ [])) ∷ int 1 ∷ int 3 ∷ int 2 ∷ []))
    ∷ prints (Index 1 (loc "t" 0) (int 1) ∷ Index 1 (loc "t" 0) (int 2) ∷ Index 1 (loc "t" 0) (int 3) ∷ Index 1 (loc "t" 0) (int 4) ∷ call (global "select") (str "#"
    ∷ call (field (global "table") "unpack") (Table 1 (fields (Item (int 1) ∷ Item (Nil 1) ∷ Item (int 3) ∷ [])) ∷ int 1 ∷ int 3 ∷ []) ∷ []) ∷ []) ∷ []))) [] usual
    ≡ ran "1\t1\t2\t3\t3\nreturn\n" 0
unfolding int_wrap digits raw_set put_metatable row primitive_values constant_values library_table environment
moves = refl

-- for i,v in ipairs({5,6,nil,7}) do print(i,v) end
walks_by_ipairs : run 6000 (
    chunk (block (
    GenFor 1 (name "i" (LocalPlace 4) ∷ name "v" (LocalPlace 5) ∷ []) (exps (call (global "ipairs") (Table 1 (fields (Item (int 5) ∷ Item (int 6) ∷ Item (Nil 1)
    ∷ Item (int 7) ∷ [])) ∷ []) ∷ [])) (block (prints (loc "i" 4 ∷ loc "v" 5 ∷ []) ∷ [])) ∷ []))) [] usual
    ≡ ran "1\t5\n2\t6\nreturn\n" 0
unfolding int_wrap digits raw_set put_metatable row primitive_values constant_values library_table environment
walks_by_ipairs = refl
