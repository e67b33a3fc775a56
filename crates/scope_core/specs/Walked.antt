-- What private functions do while they go through a tree from front to back: what the functions around have after a part, and the part with the places that are known by then.
use Rattle.std.specs.Prelude.{ℕ, ◌-◌, List, [], ◌∷◌, map, length, drop}
use Rattle.tree_core.specs.declared.name.UpName.{UpName}
use Rattle.tree_core.specs.Tree.{Block, Falls, Returns, Body, BodyOf, Stats, EndStats, MoreStats, Stat, Empty, Local, LocalFunction, Assign, CallStat, Do, While, Repeat, If, IfElse, NumFor, NumForStep, GenFor, Label, Goto, Break, Arms, EndArms, MoreArms, Exps, EndExps, MoreExps, Exp, Nil, True, False, Int, Str, Vararg, Function, Var, Index, Call, Method, Unary, Binary, And, Or, Paren, Table, Fields, EndFields, MoreFields, Field, Item, Keyed}
use Rattle.scope_core.specs.declared.variable.Variable.{Variable}
use Rattle.scope_core.specs.Scopes.{Frame, declare, declare_all, declared_variable, plain_variable, numeric_hidden, generic_hidden, needed}
use Rattle.scope_core.specs.Places.{placed_name, placed_names, placed_declared, first_placed, main_upvalues}
use Rattle.scope_core.specs.Reaching.{reached}

abbrev pub own_variables : List Frame → List Variable
own_variables [] = []
own_variables (frame ∷ frames) = frame.variables

abbrev pub own_upvalues : List Frame → List UpName
own_upvalues [] = []
own_upvalues (frame ∷ frames) = frame.upvalues

-- the first so many variables stay in scope
abbrev pub kept : ℕ → List Frame → List Frame
kept count [] = []
kept count (frame ∷ frames) =
    record frame { variables = drop (length frame.variables - count) frame.variables } ∷ frames

-- those that were in scope before
abbrev pub ended : List Frame → List Frame → List Frame
ended before frames = kept (length (own_variables before)) frames

abbrev pub entered : List Frame → List Frame
entered frames = record { variables = []; upvalues = [] } ∷ frames

abbrev pub left : List Frame → List Frame
left [] = []
left (frame ∷ frames) = frames

abbrev pub named : List ℕ → List Frame → List Frame
named text frames = reached frames (needed text frames)

abbrev mutual
  pub after_exp : List Frame → Exp → List Frame
  after_exp frames (Nil line) = frames
  after_exp frames (True line) = frames
  after_exp frames (False line) = frames
  after_exp frames (Int line value) = frames
  after_exp frames (Str line bytes) = frames
  after_exp frames (Vararg line) = frames
  after_exp frames (Function line body) = after_body frames body
  after_exp frames (Var line name) = named name.text frames
  after_exp frames (Index line indexed key) = after_exp (after_exp frames indexed) key
  after_exp frames (Call line called arguments) = after_exps (after_exp frames called) arguments
  after_exp frames (Method line object name arguments) = after_exps (after_exp frames object) arguments
  after_exp frames (Unary line operator operand) = after_exp frames operand
  after_exp frames (Binary line operator left right) = after_exp (after_exp frames left) right
  after_exp frames (And line left right) = after_exp (after_exp frames left) right
  after_exp frames (Or line left right) = after_exp (after_exp frames left) right
  after_exp frames (Paren line inner) = after_exp frames inner
  after_exp frames (Table line fields) = after_fields frames fields

  pub after_exps : List Frame → Exps → List Frame
  after_exps frames EndExps = frames
  after_exps frames (MoreExps exp exps) = after_exps (after_exp frames exp) exps

  pub after_fields : List Frame → Fields → List Frame
  after_fields frames EndFields = frames
  after_fields frames (MoreFields field fields) = after_fields (after_field frames field) fields

  pub after_field : List Frame → Field → List Frame
  after_field frames (Item value) = after_exp frames value
  after_field frames (Keyed line key value) = after_exp (after_exp frames key) value

  pub after_body : List Frame → Body → List Frame
  after_body frames (BodyOf params vararg inner upvalues line) =
      left (after_open (declare_all (entered frames) (map plain_variable params)) inner)

  -- the end of a block, before the scope of its variables ends
  pub after_open : List Frame → Block → List Frame
  after_open frames (Falls stats tokens line) = after_stats frames stats
  after_open frames (Returns stats values tokens line) = after_exps (after_stats frames stats) values

  pub after_stats : List Frame → Stats → List Frame
  after_stats frames EndStats = frames
  after_stats frames (MoreStats stat stats) = after_stats (after_stat frames stat) stats

  pub after_stat : List Frame → Stat → List Frame
  after_stat frames (Empty line) = frames
  after_stat frames (Local line names values) = declare_all (after_exps frames values) (map declared_variable names)
  after_stat frames (LocalFunction line name body) = after_body (declare frames (plain_variable name)) body
  after_stat frames (Assign line targets values) = after_exps (after_exps frames targets) values
  after_stat frames (CallStat line call) = after_exp frames call
  after_stat frames (Do line block) = ended frames (after_open frames block)
  after_stat frames (While line test block) = ended (after_exp frames test) (after_open (after_exp frames test) block)
  after_stat frames (Repeat line block test) = ended frames (after_exp (after_open frames block) test)
  after_stat frames (If line arms) = after_arms frames arms
  after_stat frames (IfElse line arms otherwise) = ended (after_arms frames arms) (after_open (after_arms frames arms) otherwise)
  after_stat frames (NumFor line name first limit block) =
      ended frames
      (after_open (declare (declare_all (after_exp (after_exp frames first) limit) numeric_hidden) (plain_variable name)) block)
  after_stat frames (NumForStep line name first limit step block) =
      ended frames
      (after_open (declare (declare_all (after_exp (after_exp (after_exp frames first) limit) step) numeric_hidden) (plain_variable name)) block)
  after_stat frames (GenFor line names values block) =
      ended frames
      (after_open (declare_all (declare_all (after_exps frames values) generic_hidden) (map plain_variable names)) block)
  after_stat frames (Label line name) = frames
  after_stat frames (Goto line name) = frames
  after_stat frames (Break line) = frames

  pub after_arms : List Frame → Arms → List Frame
  after_arms frames EndArms = frames
  after_arms frames (MoreArms test block arms) = after_arms (ended (after_exp frames test) (after_open (after_exp frames test) block)) arms

abbrev mutual
  pub settled_exp : List Frame → Exp → Exp
  settled_exp frames (Nil line) = Nil line
  settled_exp frames (True line) = True line
  settled_exp frames (False line) = False line
  settled_exp frames (Int line value) = Int line value
  settled_exp frames (Str line bytes) = Str line bytes
  settled_exp frames (Vararg line) = Vararg line
  settled_exp frames (Function line body) = Function line (settled_body frames body)
  settled_exp frames (Var line name) = Var line (placed_name (named name.text frames) name)
  settled_exp frames (Index line indexed key) = Index line (settled_exp frames indexed) (settled_exp (after_exp frames indexed) key)
  settled_exp frames (Call line called arguments) =
      Call line (settled_exp frames called) (settled_exps (after_exp frames called) arguments)
  settled_exp frames (Method line object name arguments) =
      Method line (settled_exp frames object) name (settled_exps (after_exp frames object) arguments)
  settled_exp frames (Unary line operator operand) = Unary line operator (settled_exp frames operand)
  settled_exp frames (Binary line operator left right) =
      Binary line operator (settled_exp frames left) (settled_exp (after_exp frames left) right)
  settled_exp frames (And line left right) = And line (settled_exp frames left) (settled_exp (after_exp frames left) right)
  settled_exp frames (Or line left right) = Or line (settled_exp frames left) (settled_exp (after_exp frames left) right)
  settled_exp frames (Paren line inner) = Paren line (settled_exp frames inner)
  settled_exp frames (Table line fields) = Table line (settled_fields frames fields)

  pub settled_exps : List Frame → Exps → Exps
  settled_exps frames EndExps = EndExps
  settled_exps frames (MoreExps exp exps) = MoreExps (settled_exp frames exp) (settled_exps (after_exp frames exp) exps)

  pub settled_fields : List Frame → Fields → Fields
  settled_fields frames EndFields = EndFields
  settled_fields frames (MoreFields field fields) =
      MoreFields (settled_field frames field) (settled_fields (after_field frames field) fields)

  pub settled_field : List Frame → Field → Field
  settled_field frames (Item value) = Item (settled_exp frames value)
  settled_field frames (Keyed line key value) = Keyed line (settled_exp frames key) (settled_exp (after_exp frames key) value)

  pub settled_body : List Frame → Body → Body
  settled_body frames (BodyOf params vararg inner upvalues line) =
      let within : List Frame = declare_all (entered frames) (map plain_variable params) in
      BodyOf (placed_names (entered frames) params) vararg (settled_block within inner) (own_upvalues (after_open within inner)) line

  pub settled_block : List Frame → Block → Block
  settled_block frames (Falls stats tokens line) = Falls (settled_stats frames stats) tokens line
  settled_block frames (Returns stats values tokens line) =
      Returns (settled_stats frames stats) (settled_exps (after_stats frames stats) values) tokens line

  pub settled_stats : List Frame → Stats → Stats
  settled_stats frames EndStats = EndStats
  settled_stats frames (MoreStats stat stats) = MoreStats (settled_stat frames stat) (settled_stats (after_stat frames stat) stats)

  pub settled_stat : List Frame → Stat → Stat
  settled_stat frames (Empty line) = Empty line
  settled_stat frames (Local line names values) =
      Local line (placed_declared (after_exps frames values) names) (settled_exps frames values)
  settled_stat frames (LocalFunction line name body) =
      LocalFunction line (first_placed frames name) (settled_body (declare frames (plain_variable name)) body)
  settled_stat frames (Assign line targets values) =
      Assign line (settled_exps frames targets) (settled_exps (after_exps frames targets) values)
  settled_stat frames (CallStat line call) = CallStat line (settled_exp frames call)
  settled_stat frames (Do line block) = Do line (settled_block frames block)
  settled_stat frames (While line test block) = While line (settled_exp frames test) (settled_block (after_exp frames test) block)
  settled_stat frames (Repeat line block test) =
      Repeat line (settled_block frames block) (settled_exp (after_open frames block) test)
  settled_stat frames (If line arms) = If line (settled_arms frames arms)
  settled_stat frames (IfElse line arms otherwise) =
      IfElse line (settled_arms frames arms) (settled_block (after_arms frames arms) otherwise)
  settled_stat frames (NumFor line name first limit block) =
      let hidden : List Frame = declare_all (after_exp (after_exp frames first) limit) numeric_hidden in
      NumFor line (first_placed hidden name) (settled_exp frames first) (settled_exp (after_exp frames first) limit)
      (settled_block (declare hidden (plain_variable name)) block)
  settled_stat frames (NumForStep line name first limit step block) =
      let begin : List Frame = after_exp (after_exp frames first) limit in
      let hidden : List Frame = declare_all (after_exp begin step) numeric_hidden in
      NumForStep line (first_placed hidden name) (settled_exp frames first) (settled_exp (after_exp frames first) limit) (settled_exp begin step)
      (settled_block (declare hidden (plain_variable name)) block)
  settled_stat frames (GenFor line names values block) =
      let hidden : List Frame = declare_all (after_exps frames values) generic_hidden in
      GenFor line (placed_names hidden names) (settled_exps frames values)
      (settled_block (declare_all hidden (map plain_variable names)) block)
  settled_stat frames (Label line name) = Label line name
  settled_stat frames (Goto line name) = Goto line name
  settled_stat frames (Break line) = Break line

  pub settled_arms : List Frame → Arms → Arms
  settled_arms frames EndArms = EndArms
  settled_arms frames (MoreArms test block arms) =
      let tested : List Frame = after_exp frames test in
      MoreArms (settled_exp frames test) (settled_block tested block) (settled_arms (ended tested (after_open tested block)) arms)

-- a test and its block
abbrev pub after_arm : List Frame → Exp × Block → List Frame
after_arm frames arm = ended (after_exp frames arm.0) (after_open (after_exp frames arm.0) arm.1)

abbrev pub settled_arm : List Frame → Exp × Block → Exp × Block
settled_arm frames arm = (settled_exp frames arm.0, settled_block (after_exp frames arm.0) arm.1)

-- the functions around the statements of a source
abbrev pub main_frames : List Frame
main_frames = record { variables = []; upvalues = main_upvalues } ∷ []
