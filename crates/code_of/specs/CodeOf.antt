-- The prototype that a function's body is compiled to. Where a source name is given, lines and names are kept.
use Rattle.std.specs.Prelude.{ℕ, suc, ◌+◌, ◌%◌, ◌-ℤ◌, ℤ, pos, negsuc, Bool, false, cond, max, List, [], ◌∷◌, ◌++◌, length, map, nat_eq, nat_lt, nat_le, Option, Some, None}
use Rattle.tree_core.specs.declared.name.UpName.{UpName}
use Rattle.tree_core.specs.Tree.{Block, Falls, Returns, Body, BodyOf, Stats, EndStats, MoreStats, Stat, Empty, Local, LocalFunction, Assign, CallStat, Do, While, Repeat, If, IfElse, NumFor, NumForStep, GenFor, Label, Goto, Break, Arms, EndArms, MoreArms, Exp, Nil, True, False, Int, Str, Vararg, Var, Function, Index, Call, Method, Unary, Binary, And, Or, Paren, Table, Exps, EndExps, MoreExps, Fields, EndFields, MoreFields, Field, Item, Keyed}
use Rattle.tree_activation.specs.Activation.{line_of_end}
use Rattle.code_core.specs.declared.opcode.Opcode.TheVariants.{VarArgPrep}
use Rattle.code_core.specs.declared.instruction.Instruction.{Instruction}
use Rattle.code_core.specs.declared.proto.UpDesc.{UpDesc}
use Rattle.code_core.specs.declared.proto.AbsLine.{AbsLine}
use Rattle.code_core.specs.declared.proto.LocVar.{LocVar}
use Rattle.code_core.specs.Instruction.{opcode_of}
use Rattle.code_core.specs.Fields.{registers}
use Rattle.code_core.specs.Prototype.{Parts, Prototype, Prototypes, none, more}
use Rattle.code_core.specs.declared.proto.Const.{Const}
use Rattle.code_of.specs.Coded.{Coded, words, lines, with_abc}
use Rattle.code_of.specs.declared.leaving.Leaving.{Leaving}
use Rattle.code_of.specs.Constants.{of_block}
use Rattle.code_of.specs.Levels.{made_in_block}
use Rattle.code_of.specs.Statements.{whole_code}
use Rattle.code_of.specs.Variables.{variables, within_whole}

-- a function with `...` begins by VARARGPREP, and its returns name one more than the number of its parameters

abbrev pub back_field : (vararg : Bool) → (params : ℕ) → ℕ
back_field vararg params = cond vararg (params + 1) 0

-- a function that makes none has no cells
abbrev pub leaving_of : (vararg : Bool) → (params : ℕ) → Block → Leaving
leaving_of vararg params inner = record { back = back_field vararg params; closes = nat_lt 0 (made_in_block inner) }

-- the main function has line 0, and begins on line 1
abbrev pub first_line : (line : ℕ) → ℕ
first_line line = cond (nat_eq line 0) 1 line

abbrev pub opening : (vararg : Bool) → (params line : ℕ) → List Coded
opening vararg params line = cond vararg (with_abc VarArgPrep params 0 0 (first_line line) ∷ []) []

abbrev pub body_code : Body → List Coded
body_code (BodyOf params vararg inner ups line) =
    let begin = opening vararg (length params) line in
    begin ++ whole_code (of_block inner []) (leaving_of vararg (length params) inner) inner (length params) (length begin)

-- a frame has room for the parameters and for each register that the code names

abbrev pub named_by : Instruction → List ℕ
named_by w = elim (opcode_of w) [ None ↦ [] | Some op ↦ registers op w ]

abbrev pub room_for : List ℕ → ℕ → ℕ
room_for [] n = n
room_for (r ∷ rs) n = room_for rs (max n (r + 1))

abbrev pub room : List Instruction → ℕ → ℕ
room [] n = n
room (w ∷ ws) n = room ws (room_for (named_by w) n)

-- a line is kept as its distance from the line in front, in 8 bits; where it is farther, -128 stands there and the line itself is kept by its place

abbrev pub is_near : ℤ → Bool
is_near (pos n) = nat_le n 127
is_near (negsuc n) = nat_le n 126

abbrev pub change_of : ℤ → ℤ
change_of z = cond (is_near z) z (negsuc 127)

abbrev pub changes : (before : ℕ) → List ℕ → List ℤ
changes before [] = []
changes before (line ∷ rest) = change_of (pos line -ℤ pos before) ∷ changes line rest

-- the line of each 128th instruction is kept by its place too: Lua looks for a line from the nearest of these on (ldebug.c, getbaseline)
abbrev pub is_distance : (pc : ℕ) → ℤ → Bool
is_distance pc z = cond (nat_eq (pc % 128) 127) false (is_near z)

abbrev pub far_lines : (pc before : ℕ) → List ℕ → List AbsLine
far_lines pc before [] = []
far_lines pc before (line ∷ rest) =
    cond (is_distance pc (pos line -ℤ pos before)) (far_lines (suc pc) line rest) (record { pc = pc; line = line } ∷ far_lines (suc pc) line rest)

abbrev pub upvalue : UpName → UpDesc
upvalue u = record { in_stack = u.in_stack; index = u.index; kind = 0 }

abbrev pub where_known : {A : Type 0} → Option (List ℕ) → List A → List A
where_known None xs = []
where_known (Some source) xs = xs

abbrev pub variables_of : Body → List LocVar
variables_of (BodyOf params vararg inner ups line) =
    variables params 0 (length (body_code (BodyOf params vararg inner ups line)))
    ++ within_whole (of_block inner []) (leaving_of vararg (length params) inner) inner (length params) 0 (cond vararg 1 0)

-- the main function has line 0, and no last line either
abbrev pub last_line_of : Block → (line : ℕ) → ℕ
last_line_of inner line = cond (nat_eq line 0) 0 (line_of_end inner)

-- of a body and of what is made of it: instructions with the line of each, constants and local variables
abbrev pub parts_with : (source : Option (List ℕ)) → Body → (code : List Instruction) (code_lines : List ℕ) (constants : List Const) (locals : List LocVar) → Parts
parts_with source (BodyOf params vararg inner ups line) code code_lines constants locals = record {
  source = source;
  line_defined = line;
  last_line = last_line_of inner line;
  params = length params;
  vararg = vararg;
  stack = room code (length params);
  code = code;
  constants = constants;
  upvalues = map upvalue ups;
  line_info = where_known source (changes line code_lines);
  abs_lines = where_known source (far_lines 0 line code_lines);
  locals = locals;
  up_names = where_known source (map (λ u. Some u.text) ups);
}

abbrev pub parts_of : (source : Option (List ℕ)) → Body → Parts
parts_of source (BodyOf params vararg inner ups line) =
    let body = BodyOf params vararg inner ups line in
    let code = body_code body in
    parts_with source body (words code) (lines code) (of_block inner []) (where_known source (variables_of body))

-- the functions that a piece of tree makes, in the order of the text, in front of those that follow
module _ (source : Option (List ℕ)) where
  abbrev mutual
    pub from_exp : Exp → Prototypes → Prototypes
    from_exp (Nil line) rest = rest
    from_exp (True line) rest = rest
    from_exp (False line) rest = rest
    from_exp (Int line n) rest = rest
    from_exp (Str line bytes) rest = rest
    from_exp (Vararg line) rest = rest
    from_exp (Function line body) rest = more (parts_of source body) (from_body body) rest
    from_exp (Var line name) rest = rest
    from_exp (Index line object key) rest = from_exp object (from_exp key rest)
    from_exp (Call line f es) rest = from_exp f (from_exps es rest)
    from_exp (Method line object name es) rest = from_exp object (from_exps es rest)
    from_exp (Unary line op e) rest = from_exp e rest
    from_exp (Binary line op e d) rest = from_exp e (from_exp d rest)
    from_exp (And line e d) rest = from_exp e (from_exp d rest)
    from_exp (Or line e d) rest = from_exp e (from_exp d rest)
    from_exp (Paren line e) rest = from_exp e rest
    from_exp (Table line fs) rest = from_fields fs rest

    pub from_exps : Exps → Prototypes → Prototypes
    from_exps EndExps rest = rest
    from_exps (MoreExps e es) rest = from_exp e (from_exps es rest)

    pub from_fields : Fields → Prototypes → Prototypes
    from_fields EndFields rest = rest
    from_fields (MoreFields f fs) rest = from_field f (from_fields fs rest)

    pub from_field : Field → Prototypes → Prototypes
    from_field (Item e) rest = from_exp e rest
    from_field (Keyed line e d) rest = from_exp e (from_exp d rest)

    pub from_stat : Stat → Prototypes → Prototypes
    from_stat (Empty line) rest = rest
    from_stat (Local line names es) rest = from_exps es rest
    from_stat (LocalFunction line name body) rest = more (parts_of source body) (from_body body) rest
    from_stat (Assign line targets es) rest = from_exps targets (from_exps es rest)
    from_stat (CallStat line e) rest = from_exp e rest
    from_stat (Do line block) rest = from_block block rest
    from_stat (While line e block) rest = from_exp e (from_block block rest)
    from_stat (Repeat line block e) rest = from_block block (from_exp e rest)
    from_stat (If line arms) rest = from_arms arms rest
    from_stat (IfElse line arms block) rest = from_arms arms (from_block block rest)
    from_stat (NumFor line name from limit block) rest = from_exp from (from_exp limit (from_block block rest))
    from_stat (NumForStep line name from limit step block) rest = from_exp from (from_exp limit (from_exp step (from_block block rest)))
    from_stat (GenFor line names es block) rest = from_exps es (from_block block rest)
    from_stat (Label line name) rest = rest
    from_stat (Goto line name) rest = rest
    from_stat (Break line) rest = rest

    pub from_arms : Arms → Prototypes → Prototypes
    from_arms EndArms rest = rest
    from_arms (MoreArms e block arms) rest = from_exp e (from_block block (from_arms arms rest))

    pub from_stats : Stats → Prototypes → Prototypes
    from_stats EndStats rest = rest
    from_stats (MoreStats s ss) rest = from_stat s (from_stats ss rest)

    pub from_block : Block → Prototypes → Prototypes
    from_block (Falls ss tokens line) rest = from_stats ss rest
    from_block (Returns ss es tokens line) rest = from_stats ss (from_exps es rest)

    pub from_body : Body → Prototypes
    from_body (BodyOf params vararg inner ups line) = from_block inner none

abbrev pub code_of : (source : Option (List ℕ)) → Body → Prototype
code_of source body = record { own = parts_of source body; inner = from_body source body }
