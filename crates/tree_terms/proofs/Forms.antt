-- Short forms for trees that are written by hand, all on line 1.
use Rattle.std.specs.Prelude.{ℕ, suc, pos, true, false, List, [], ◌∷◌, codes}
use Prim.Native.String.{String}
use Rattle.tree_core.specs.declared.name.Name.{Name}
use Rattle.tree_core.specs.declared.name.UpName.{UpName}
use Rattle.tree_core.specs.declared.name.Declared.{Declared}
use Rattle.tree_core.specs.declared.name.Attrib.TheVariants.{Plain, Close}
use Rattle.tree_core.specs.declared.name.Place.{Place}
use Rattle.tree_core.specs.declared.name.Place.TheVariants.{Unset, Upvalue, GlobalOf}
use Rattle.tree_core.specs.declared.name.Place.TheVariants.{Local as LocalPlace}
use Rattle.tree_core.specs.declared.operator.BinOp.{BinOp}
use Rattle.tree_core.specs.Tree.{Block, Falls, Returns, Body, BodyOf, Stat, Local, Assign, CallStat, If, Exp, Int, Str, Function, Var, Index, Call, Binary, exps, stats, arms}

abbrev pub name : String → Place → Name
name text place = record { text = codes text; line = 1; place = place }

abbrev pub no_variable : String → Name
no_variable text = name text Unset

abbrev pub declared : String → ℕ → Declared
declared text n = record { name = name text (LocalPlace n); attrib = Plain; attrib_line = 1 }

abbrev pub closed : String → ℕ → Declared
closed text n = record { name = name text (LocalPlace n); attrib = Close; attrib_line = 1 }

abbrev pub of_local : String → ℕ → UpName
of_local text n = record { text = codes text; in_stack = true; index = n }

abbrev pub loc : String → ℕ → Exp
loc text n = Var 1 (name text (LocalPlace n))

abbrev pub outer : String → ℕ → Exp
outer text n = Var 1 (name text (Upvalue n))

abbrev pub global : String → Exp
global text = Var 1 (name text (GlobalOf 0))

abbrev pub int : ℕ → Exp
int n = Int 1 (pos n)

abbrev pub str : String → Exp
str text = Str 1 (codes text)

abbrev pub call : Exp → List Exp → Exp
call f es = Call 1 f (exps es)

abbrev pub bin : BinOp → Exp → Exp → Exp
bin op a b = Binary 1 op a b

abbrev pub field : Exp → String → Exp
field o text = Index 1 o (str text)

abbrev pub block : List Stat → Block
block ss = Falls (stats ss) 0 1

abbrev pub returning : List Stat → List Exp → Block
returning ss es = Returns (stats ss) (exps es) 0 1

abbrev pub locals : List Declared → List Exp → Stat
locals names es = Local 1 names (exps es)

abbrev pub loc_is : String → ℕ → Exp → Stat
loc_is text n e = locals (declared text n ∷ []) (e ∷ [])

abbrev pub assigns : List Exp → List Exp → Stat
assigns targets es = Assign 1 (exps targets) (exps es)

abbrev pub assign : Exp → Exp → Stat
assign target e = assigns (target ∷ []) (e ∷ [])

abbrev pub does : Exp → Stat
does e = CallStat 1 e

abbrev pub when : Exp → List Stat → Stat
when test ss = If 1 (arms ((test, block ss) ∷ []))

abbrev pub params_from : ℕ → List String → List Name
params_from n [] = []
params_from n (text ∷ texts) = name text (LocalPlace n) ∷ params_from (suc n) texts

abbrev pub fun : List String → List UpName → Block → Body
fun texts ups inner = BodyOf (params_from 0 texts) false inner ups 1

abbrev pub vararg_fun : List String → List UpName → Block → Body
vararg_fun texts ups inner = BodyOf (params_from 0 texts) true inner ups 1

abbrev pub function : Body → Exp
function body = Function 1 body
