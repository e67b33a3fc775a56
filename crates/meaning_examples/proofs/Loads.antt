-- Scripts that load sources, where it is known what these are built to. Texts of refusals are this project's; what a loaded function does is what `lua5.4` does.
use Rattle.std.proofs.Common.{◌≡◌, ℕ, List, [], ◌∷◌, Option, Some, None, refl}
use Prim.Native.String.{String}
use Rattle.std.specs.Prelude.{codes, bytes_eq, cond}
use Rattle.std.specs.Int.{int_wrap}
use Rattle.std.specs.Fmt.{digits}
use Rattle.tree_core.specs.Tree.{Body}
use Rattle.load_rows.specs.Loading.{built, refused_at, Builds}
use Rattle.int_core.specs.Heap.{raw_set}
use Rattle.library_rows.specs.Look.{put_metatable}
use Rattle.lua_meaning.specs.Libraries.{primitive_values, constant_values, library_table, environment}
use Rattle.lua_meaning.specs.Step.{row}
use Rattle.tree_core.specs.declared.operator.BinOp.TheVariants.{Add, Eq}
use Rattle.tree_core.specs.Tree.{Table, If, fields, arms}
use Rattle.tree_terms.proofs.Forms.{of_local, loc, outer, global, int, str, bin, call, field, function, block, returning, loc_is, assign, fun}
use Rattle.lua_meaning.proofs.Scripts.{dots, chunk, prints, usual}
use Rattle.meaning_examples.proofs.Scripts.{run_with, ran}

-- what these sources are built to: the last one is `x=... return x+1,x`
abbrev builds : Builds Body
builds name source =
    cond (bytes_eq source (codes "x =")) (refused_at 1 None)
    (cond (bytes_eq source (codes "x = 1\ny = = 2")) (refused_at 2 None)
    (cond (bytes_eq source (codes "local a <foo> = 1")) (refused_at 1 (Some 7))
    (cond (bytes_eq source (codes "x=... return x+1,x")) (built (
    chunk (returning (assign (global "x") dots ∷ []) (bin Add (global "x") (int 1) ∷ global "x" ∷ []))))
    (refused_at 1 None))))

-- print(load(source))
abbrev prints_load : (source : String) → Option (List ℕ × ℕ)
prints_load source = run_with builds 6000 (chunk (block (prints (call (global "load") (str source ∷ []) ∷ []) ∷ []))) [] usual

-- print(load("x ="))
refused_at_its_end : prints_load "x =" ≡ ran "nil\t[string]:1: source refused\nreturn\n" 0
unfolding int_wrap digits raw_set put_metatable row primitive_values constant_values library_table environment
refused_at_its_end = refl

-- print(load("x = 1\ny = = 2"))
refused_in_line_two : prints_load "x = 1\ny = = 2" ≡ ran "nil\t[string]:2: source refused\nreturn\n" 0
unfolding int_wrap digits raw_set put_metatable row primitive_values constant_values library_table environment
refused_in_line_two = refl

-- print(load("local a <foo> = 1"))
breaks_a_rule : prints_load "local a <foo> = 1" ≡ ran "nil\t[string]:1: source refused by rule 7\nreturn\n" 0
unfolding int_wrap digits raw_set put_metatable row primitive_values constant_values library_table environment
breaks_a_rule = refl

-- local f=load("x=... return x+1,x") print(f(6),x)
loaded_function : run_with builds 6000 (
    chunk (block (
    loc_is "f" 0 (call (global "load") (str "x=... return x+1,x" ∷ []))
    ∷ prints (call (loc "f" 0) (int 6 ∷ []) ∷ global "x" ∷ []) ∷ []))) [] usual
    ≡ ran "7\t6\nreturn\n" 0
unfolding int_wrap digits raw_set put_metatable row primitive_values constant_values library_table environment
loaded_function = refl

-- local e={} local f=load("x=... return x+1,x","=n","t",e) print(f(6),x,e.x)
in_an_environment : run_with builds 6000 (
    chunk (block (
    loc_is "e" 0 (Table 1 (fields []))
    ∷ loc_is "f" 1 (call (global "load") (str "x=... return x+1,x" ∷ str "=n" ∷ str "t" ∷ loc "e" 0 ∷ []))
    ∷ prints (call (loc "f" 1) (int 6 ∷ []) ∷ global "x" ∷ field (loc "e" 0) "x" ∷ []) ∷ []))) [] usual
    ≡ ran "7\tnil\t6\nreturn\n" 0
unfolding int_wrap digits raw_set put_metatable row primitive_values constant_values library_table environment
in_an_environment = refl

-- local n=0 local f=load(function() n=n+1 if n==1 then return "x=... " elseif n==2 then return "return x+1,x" end end) print(f(6),n)
read_piece_by_piece : run_with builds 6000 (
    chunk (block (
    loc_is "n" 0 (int 0)
    ∷ loc_is "f" 1 (call (global "load") (function (fun [] (of_local "n" 0 ∷ []) (block (
    assign (outer "n" 0) (bin Add (outer "n" 0) (int 1))
    ∷ If 1 (arms ((bin Eq (outer "n" 0) (int 1), returning [] (str "x=... " ∷ [])) ∷ (bin Eq (outer "n" 0) (int 2), returning [] (str "return x+1,x" ∷ [])) ∷ [])) ∷ []))) ∷ []))
    ∷ prints (call (loc "f" 1) (int 6 ∷ []) ∷ loc "n" 0 ∷ []) ∷ []))) [] usual
    ≡ ran "7\t3\nreturn\n" 0
unfolding int_wrap digits raw_set put_metatable row primitive_values constant_values library_table environment
read_piece_by_piece = refl
