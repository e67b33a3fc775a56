-- Small sources and what the definitions say of them, by computation: the violations in the order of the text, the places and the upvalues.
use Rattle.std.specs.Prelude.{◌≡◌, ℕ, ◌+◌, Bool, true, false, List, [], ◌∷◌, replicate, map, pos, refl}
use Rattle.std.specs.List.{range_with_len}
use Rattle.tree_core.specs.declared.name.Name.{Name}
use Rattle.tree_core.specs.declared.name.UpName.{UpName}
use Rattle.tree_core.specs.declared.name.Declared.{Declared}
use Rattle.tree_core.specs.declared.name.Attrib.{Attrib}
use Rattle.tree_core.specs.declared.name.Attrib.TheVariants.{Plain, Const, Close, Other}
use Rattle.tree_core.specs.declared.name.Place.{Place}
use Rattle.tree_core.specs.declared.name.Place.TheVariants.{Unset, Local, Upvalue, GlobalIn, GlobalOf}
use Rattle.tree_core.specs.declared.operator.BinOp.TheVariants.{Add}
use Rattle.tree_core.specs.Tree as tree
use Rattle.scope_core.specs.Scopes.{environment}
use Rattle.scope_core.specs.declared.violation.Violation.{Violation}
use Rattle.scope_core.specs.Rules.{violations}
use Rattle.scope_core.specs.Least.{IsLeast}
use Rattle.scope_core.proofs.Leasts.{first_met, earlier_met}
use Rattle.scope_core.specs.Places.{placed}
use Rattle.scope_core.specs.Held.{held, held_stat}

-- Words for the sources.

abbrev at : ℕ → ℕ → Violation
at line rule = record { line = line; rule = rule }

abbrev placed_at : List ℕ → ℕ → Place → Name
placed_at text line place = record { text = text; line = line; place = place }

abbrev name : List ℕ → ℕ → Name
name text line = placed_at text line Unset

abbrev declares : List ℕ → ℕ → Attrib → Declared
declares text line attrib = record { name = name text line; attrib = attrib; attrib_line = line }

abbrev a : List ℕ
a = 97 ∷ []

abbrev f : List ℕ
f = 102 ∷ []

abbrev g : List ℕ
g = 103 ∷ []

abbrev x : List ℕ
x = 120 ∷ []

abbrev y : List ℕ
y = 121 ∷ []

abbrev block : List tree.Stat → tree.Block
block stats = tree.Falls (tree.stats stats) 1 9

abbrev returning : List tree.Stat → tree.Exp → tree.Block
returning stats value = tree.Returns (tree.stats stats) (tree.exps (value ∷ [])) 1 9

abbrev plain : ℕ → List ℕ → tree.Stat
plain line text = tree.Local line (declares text line Plain ∷ []) tree.EndExps

abbrev var : ℕ → List ℕ → tree.Exp
var line text = tree.Var line (name text line)

abbrev assigns : ℕ → List ℕ → tree.Stat
assigns line text = tree.Assign line (tree.exps (var line text ∷ [])) (tree.exps (tree.Nil line ∷ []))

abbrev calls : ℕ → List ℕ → tree.Stat
calls line text = tree.CallStat line (tree.Call line (var line text) tree.EndExps)

abbrev label : ℕ → List ℕ → tree.Stat
label line text = tree.Label line (name text line)

abbrev goes : ℕ → List ℕ → tree.Stat
goes line text = tree.Goto line (name text line)

abbrev function : ℕ → List Name → tree.Block → tree.Exp
function line params inner = tree.Function line (tree.BodyOf params false inner [] line)

abbrev sets : ℕ → List ℕ → tree.Exp → tree.Stat
sets line text value = tree.Assign line (tree.exps (var line text ∷ [])) (tree.exps (value ∷ []))

-- Rule 1.

-- local x <const>; x = nil; do local x; x = nil end
constant_assigned :
    violations (block (tree.Local 1 (declares x 1 Const ∷ []) tree.EndExps ∷ assigns 2 x ∷ tree.Do 3 (block (plain 3 x ∷ assigns 4 x ∷ [])) ∷ []))
    ≡ at 2 1 ∷ []
constant_assigned = refl

-- local x <close>; function f() x = nil end
assigned_in_function :
    violations (block (tree.Local 1 (declares x 1 Close ∷ []) tree.EndExps ∷ sets 2 f (function 2 [] (block (assigns 3 x ∷ []))) ∷ []))
    ≡ at 3 1 ∷ []
assigned_in_function = refl

-- local x <const>; x.a = nil
field_of_constant :
    violations (block (tree.Local 1 (declares x 1 Const ∷ []) tree.EndExps ∷ tree.Assign 2 (tree.exps (tree.Index 2 (var 2 x) (tree.Str 2 a) ∷ [])) (tree.exps (tree.Nil 2 ∷ [])) ∷ []))
    ≡ []
field_of_constant = refl

-- Rules 2 to 4.

-- goto a
no_label : violations (block (goes 1 a ∷ [])) ≡ at 1 2 ∷ []
no_label = refl

-- do ::a:: end goto a
label_of_inner_block : violations (block (tree.Do 1 (block (label 1 a ∷ [])) ∷ goes 2 a ∷ [])) ≡ at 2 2 ∷ []
label_of_inner_block = refl

-- ::a:: f = function() goto a end
label_outside_function : violations (block (label 1 a ∷ sets 2 f (function 2 [] (block (goes 3 a ∷ []))) ∷ [])) ≡ at 3 2 ∷ []
label_outside_function = refl

-- ::a:: do ::a:: end
label_in_enclosing_block : violations (block (label 1 a ∷ tree.Do 2 (block (label 3 a ∷ [])) ∷ [])) ≡ at 3 3 ∷ []
label_in_enclosing_block = refl

-- do ::a:: end ::a:: f = function() ::a:: end
label_names_apart :
    violations (block (tree.Do 1 (block (label 1 a ∷ [])) ∷ label 2 a ∷ sets 3 f (function 3 [] (block (label 4 a ∷ []))) ∷ [])) ≡ []
label_names_apart = refl

-- goto a; local x; ::a:: f()
into_scope : violations (block (goes 1 a ∷ plain 2 x ∷ label 3 a ∷ calls 4 f ∷ [])) ≡ at 1 4 ∷ []
into_scope = refl

-- goto a; local x; ::a:: ; ::y::
to_the_end : violations (block (goes 1 a ∷ plain 2 x ∷ label 3 a ∷ tree.Empty 3 ∷ label 3 y ∷ [])) ≡ []
to_the_end = refl

-- goto a; local x; ::a:: return nil
to_a_return : violations (returning (goes 1 a ∷ plain 2 x ∷ label 3 a ∷ []) (tree.Nil 4)) ≡ at 1 4 ∷ []
to_a_return = refl

-- repeat goto a; local x; ::a:: until x
before_until : violations (block (tree.Repeat 1 (block (goes 2 a ∷ plain 3 x ∷ label 4 a ∷ [])) (var 5 x) ∷ [])) ≡ at 2 4 ∷ []
before_until = refl

-- while x do goto a; local x; ::a:: end
before_end : violations (block (tree.While 1 (var 1 x) (block (goes 2 a ∷ plain 3 x ∷ label 4 a ∷ [])) ∷ [])) ≡ []
before_end = refl

-- local y; ::a:: local x; goto a
backward : violations (block (plain 1 y ∷ label 2 a ∷ plain 3 x ∷ goes 4 a ∷ [])) ≡ []
backward = refl

-- do goto a end local x; ::a:: f()
out_of_a_block : violations (block (tree.Do 1 (block (goes 1 a ∷ [])) ∷ plain 2 x ∷ label 3 a ∷ calls 4 f ∷ [])) ≡ at 1 4 ∷ []
out_of_a_block = refl

-- Rule 5.

-- break
lone_break : violations (block (tree.Break 1 ∷ [])) ≡ at 1 5 ∷ []
lone_break = refl

-- while x do break; f = function() break end end break
breaks :
    violations (block (tree.While 1 (var 1 x) (block (tree.Break 2 ∷ sets 3 f (function 3 [] (block (tree.Break 4 ∷ []))) ∷ [])) ∷ tree.Break 5 ∷ []))
    ≡ at 4 5 ∷ at 5 5 ∷ []
breaks = refl

-- Rules 6 and 7, and two on one line.

-- local x <close>, y <close>
two_closes : violations (block (tree.Local 1 (declares x 1 Close ∷ declares y 2 Close ∷ []) tree.EndExps ∷ [])) ≡ at 2 6 ∷ []
two_closes = refl

-- local x <const>, y <close>; local x <close>
closes_apart :
    violations (block (tree.Local 1 (declares x 1 Const ∷ declares y 2 Close ∷ []) tree.EndExps ∷ tree.Local 3 (declares x 3 Close ∷ []) tree.EndExps ∷ []))
    ≡ []
closes_apart = refl

-- local x <a>
other_attribute : violations (block (tree.Local 1 (declares x 1 (Other a) ∷ []) tree.EndExps ∷ [])) ≡ at 1 7 ∷ []
other_attribute = refl

-- break goto a, on one line
on_one_line : violations (block (tree.Break 1 ∷ goes 1 a ∷ [])) ≡ at 1 5 ∷ at 1 2 ∷ []
on_one_line = refl

-- the earlier rule is answered
least_on_one_line : IsLeast (violations (block (tree.Break 1 ∷ goes 1 a ∷ []))) (at 1 2)
least_on_one_line = earlier_met (at 1 5 ∷ []) (at 1 2) (at 1 5) refl (first_met [] (at 1 5) refl)

-- Rule 8.

-- f = function() return ... end return ...
rest_in_function :
    violations (returning (sets 1 f (function 1 [] (returning [] (tree.Vararg 2))) ∷ []) (tree.Vararg 3)) ≡ at 2 8 ∷ []
rest_in_function = refl

-- Rule 9.

abbrev many : ℕ → List Declared
many count = replicate count (declares x 1 Plain)

locals_200 : violations (block (tree.Local 1 (many 200) tree.EndExps ∷ [])) ≡ []
locals_200 = refl

locals_201 : violations (block (tree.Local 1 (many 200) tree.EndExps ∷ tree.Do 2 (block (plain 2 y ∷ [])) ∷ [])) ≡ at 2 9 ∷ []
locals_201 = refl

abbrev counts : ℕ → tree.Stat
counts line = tree.NumFor line (name y (line + 1)) (tree.Int line (pos 1)) (tree.Int line (pos 2)) (block [])

-- the three hidden variables of a numeric `for` and its own are the 200th at most
for_196 : violations (block (tree.Local 1 (many 196) tree.EndExps ∷ counts 2 ∷ [])) ≡ []
for_196 = refl

for_197 : violations (block (tree.Local 1 (many 197) tree.EndExps ∷ counts 2 ∷ [])) ≡ at 3 9 ∷ []
for_197 = refl

for_198 : violations (block (tree.Local 1 (many 198) tree.EndExps ∷ counts 2 ∷ [])) ≡ at 2 9 ∷ at 3 9 ∷ []
for_198 = refl

-- Rule 10: the function on line 5 names so many variables of the two functions around it.

abbrev numbered : ℕ → ℕ → List (List ℕ)
numbered from count = map (λ number. number ∷ []) (range_with_len from count)

abbrev names_many : ℕ → tree.Block
names_many count =
    block
    (tree.Local 1 (map (λ text. declares text 1 Plain) (numbered 1000 199)) tree.EndExps
    ∷ tree.LocalFunction 2 (name f 2)
    (tree.BodyOf [] false
    (block
    (tree.Local 3 (map (λ text. declares text 3 Plain) (numbered 1199 60)) tree.EndExps
    ∷ sets 4 x (function 5 [] (block (map (λ text. calls 6 text) (numbered 1000 count))))
    ∷ []))
    []
    2)
    ∷ [])

upvalues_255 : violations (names_many 255) ≡ []
upvalues_255 = refl

upvalues_256 : violations (names_many 256) ≡ at 5 10 ∷ []
upvalues_256 = refl

-- Rule 11.

-- 198 variables and f(nil .. nil) with 51 arguments hold 250, with 52 arguments 251
abbrev wide : ℕ → tree.Stat
wide count = tree.CallStat 2 (tree.Call 2 (var 2 x) (tree.exps (replicate count (tree.Nil 2))))

held_250 : violations (block (tree.Local 1 (many 198) tree.EndExps ∷ wide 51 ∷ [])) ≡ []
held_250 = refl

held_251 : violations (block (tree.Local 1 (many 198) tree.EndExps ∷ wide 52 ∷ [])) ≡ at 2 11 ∷ []
held_251 = refl

-- Rule 12.

long_body :
    violations (block (tree.GenFor 1 (name x 1 ∷ []) (tree.exps (var 1 y ∷ [])) (tree.Falls tree.EndStats 16001 2) ∷ [])) ≡ at 1 12 ∷ []
long_body = refl

-- Places.

-- local x = x; return x
placed_local :
    placed (returning (tree.Local 1 (declares x 1 Plain ∷ []) (tree.exps (var 1 x ∷ [])) ∷ []) (var 2 x))
    ≡ tree.BodyOf [] true
    (returning
    (tree.Local 1 (record { name = placed_at x 1 (Local 0); attrib = Plain; attrib_line = 1 } ∷ []) (tree.exps (tree.Var 1 (placed_at x 1 (GlobalOf 0)) ∷ [])) ∷ [])
    (tree.Var 2 (placed_at x 2 (Local 0))))
    (record { text = environment; in_stack = true; index = 0 } ∷ [])
    0
placed_local = refl

abbrev up : List ℕ → Bool → ℕ → UpName
up text in_stack index = record { text = text; in_stack = in_stack; index = index }

-- local x, y; return function() return function() f(y) return x end end: in order of first naming `_ENV`, y, x
order_of_upvalues :
    placed
    (returning (plain 1 x ∷ plain 1 y ∷ [])
    (function 2 [] (returning [] (function 3 [] (returning (tree.CallStat 4 (tree.Call 4 (var 4 f) (tree.exps (var 4 y ∷ []))) ∷ []) (var 5 x))))))
    ≡ tree.BodyOf [] true
    (returning
    (tree.Local 1 (record { name = placed_at x 1 (Local 0); attrib = Plain; attrib_line = 1 } ∷ []) tree.EndExps
    ∷ tree.Local 1 (record { name = placed_at y 1 (Local 1); attrib = Plain; attrib_line = 1 } ∷ []) tree.EndExps
    ∷ [])
    (tree.Function 2
    (tree.BodyOf [] false
    (returning []
    (tree.Function 3
    (tree.BodyOf [] false
    (returning
    (tree.CallStat 4 (tree.Call 4 (tree.Var 4 (placed_at f 4 (GlobalOf 0))) (tree.exps (tree.Var 4 (placed_at y 4 (Upvalue 1)) ∷ []))) ∷ [])
    (tree.Var 5 (placed_at x 5 (Upvalue 2))))
    (up environment false 0 ∷ up y false 1 ∷ up x false 2 ∷ [])
    3)))
    (up environment false 0 ∷ up y true 1 ∷ up x true 0 ∷ [])
    2)))
    (up environment true 0 ∷ [])
    0
order_of_upvalues = refl

-- the place of the last name in a source that returns a variable
abbrev result_place : tree.Body → Place
result_place (tree.BodyOf params vararg (tree.Returns stats (tree.MoreExps (tree.Var line n) more) tokens end) upvalues start) = n.place
result_place _ = Unset

-- local _ENV; return x
own_environment : result_place (placed (returning (plain 1 environment ∷ []) (var 2 x))) ≡ GlobalIn 0
own_environment = refl

-- local x; local y; local x; do local y end return x
last_declared : result_place (placed (returning (plain 1 x ∷ plain 1 y ∷ plain 1 x ∷ tree.Do 2 (block (plain 2 y ∷ [])) ∷ []) (var 2 x))) ≡ Local 2
last_declared = refl

-- local x; repeat local y until y
until_sees_block :
    placed (block (plain 1 x ∷ tree.Repeat 2 (block (plain 2 y ∷ [])) (var 3 y) ∷ []))
    ≡ tree.BodyOf [] true
    (block
    (tree.Local 1 (record { name = placed_at x 1 (Local 0); attrib = Plain; attrib_line = 1 } ∷ []) tree.EndExps
    ∷ tree.Repeat 2 (block (tree.Local 2 (record { name = placed_at y 2 (Local 1); attrib = Plain; attrib_line = 2 } ∷ []) tree.EndExps ∷ [])) (tree.Var 3 (placed_at y 3 (Local 1)))
    ∷ []))
    (up environment true 0 ∷ [])
    0
until_sees_block = refl

-- local function f() f() end
names_itself :
    placed (block (tree.LocalFunction 1 (name f 1) (tree.BodyOf [] false (block (calls 2 f ∷ [])) [] 1) ∷ []))
    ≡ tree.BodyOf [] true
    (block
    (tree.LocalFunction 1 (placed_at f 1 (Local 0))
    (tree.BodyOf [] false (block (tree.CallStat 2 (tree.Call 2 (tree.Var 2 (placed_at f 2 (Upvalue 0))) tree.EndExps) ∷ [])) (up f true 0 ∷ []) 1)
    ∷ []))
    (up environment true 0 ∷ [])
    0
names_itself = refl

-- for x in y do x() end
generic_variable :
    placed (block (tree.GenFor 1 (name x 1 ∷ []) (tree.exps (var 1 y ∷ [])) (block (calls 2 x ∷ [])) ∷ []))
    ≡ tree.BodyOf [] true
    (block
    (tree.GenFor 1 (placed_at x 1 (Local 4) ∷ []) (tree.exps (tree.Var 1 (placed_at y 1 (GlobalOf 0)) ∷ []))
    (block (tree.CallStat 2 (tree.Call 2 (tree.Var 2 (placed_at x 2 (Local 4))) tree.EndExps) ∷ []))
    ∷ []))
    (up environment true 0 ∷ [])
    0
generic_variable = refl

-- Held values.

abbrev nils : ℕ → tree.Exps
nils count = tree.exps (replicate count (tree.Nil 1))

-- x + (y + nil), of two local variables
held_right : held (tree.Binary 1 Add (var 1 x) (tree.Paren 1 (tree.Binary 1 Add (var 1 y) (tree.Nil 1)))) ≡ 3
held_right = refl

-- nil() holds a function and room for three values
held_call : held (tree.Call 1 (tree.Nil 1) tree.EndExps) ≡ 3
held_call = refl

-- x:a(nil, nil) of a global x
held_method : held (tree.Method 1 (tree.Var 1 (placed_at x 1 (GlobalOf 0))) (name a 1) (nils 2)) ≡ 4
held_method = refl

-- { nil, .. } with 50 and with 51 items, of which 50 are held at most
held_table : held (tree.Table 1 (tree.fields (replicate 50 (tree.Item (tree.Nil 1))))) ≡ 51
held_table = refl

held_long_table : held (tree.Table 1 (tree.fields (replicate 51 (tree.Item (tree.Nil 1))))) ≡ 51
held_long_table = refl

-- { [x] = y } of two local variables
held_keyed : held (tree.Table 1 (tree.fields (tree.Keyed 1 (var 1 x) (var 1 y) ∷ []))) ≡ 3
held_keyed = refl

-- x, x = nil, nil
held_assignment : held_stat (tree.Assign 1 (tree.exps (var 1 x ∷ var 1 x ∷ [])) (nils 2)) ≡ 6
held_assignment = refl

-- for x in nil do end
held_generic : held_stat (tree.GenFor 1 (name x 1 ∷ []) (nils 1) (block [])) ≡ 7
held_generic = refl
