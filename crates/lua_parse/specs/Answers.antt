-- What the parser's answers say of the tokens.
use Rattle.std.specs.Prelude.{◌≡◌, ℕ, List, Result, Ok, Err, map, Option, Some, ◌+◌, slice_get}
use Rattle.tree_making.specs.declared.part.Found.{Found}
use Rattle.lua_parse.specs.declared.fault.Fault.{Fault}
use Rattle.lua_parse.specs.declared.fault.Fault.TheVariants.{Refused, Memory}
use Rattle.token_cursor.specs.Words.{Lexeme}
use Rattle.lua_parse.specs.Moves.{Piece, a_line, a_name, some_names, some_params, a_declared, some_declared, an_exp, maybe_exp, some_exps, a_field, some_fields, a_target, an_arm, some_arms, some_items, a_stat, a_block, maybe_block, a_body, Part, Move}
use Rattle.std.specs.Option.{option_map}
use Rattle.std.specs.declared.boxed.Box.{Box}
use Rattle.std.specs.declared.vec.Vec.{Vec}
use Rattle.std.specs.declared.alloc.Global.{Global}
use Rattle.tree_core.specs.declared.name.Name.{Name}
use Rattle.tree_core.specs.declared.name.Declared.{Declared}
use Rattle.tree_core.specs.declared.tree.Exp.{Exp}
use Rattle.tree_core.specs.declared.tree.Field.{Field}
use Rattle.tree_core.specs.declared.tree.Arm.{Arm}
use Rattle.tree_core.specs.declared.tree.Stat.{Stat}
use Rattle.tree_core.specs.declared.tree.Block.{Block}
use Rattle.tree_core.specs.declared.tree.Body.{Body}
use Rattle.tree_core.specs.Tree as tree
use Rattle.tree_making.specs.Made.{plain_boxed}
use Rattle.tree_core.specs.Plain.{plain_exps, plain_field, plain_arm, plain_stat, plain_block, plain_body}
use Rattle.tree_making.specs.declared.part.Items.{Items}
use Rattle.tree_making.specs.declared.part.Params.{Params}
use Rattle.lua_parse.specs.declared.fault.Target.{Target}
use Rattle.lua_parse.specs.Grammar.{expects}
use Rattle.lua_parse.specs.Reading.{whole, stuck, Reads, Derives, Stop}
use Rattle.lua_parse.specs.declared.fault.ParseFault.{ParseFault}
use Rattle.lua_parse.specs.declared.fault.ParseFault.TheVariants as fault

-- A part was read in front of the rest, and the answer gives its piece and height; or the part can't go on at the rest's first token.
abbrev pub Tells : {A : Type 0} → (A → Piece × ℕ) → Move → List Lexeme → Result A Fault → List Lexeme → Type 0
Tells given move tokens (Ok made) rest = Reads move tokens (whole (given made).0 (given made).1 rest)
Tells given move tokens (Err Refused) rest = Reads move tokens (stuck rest)
Tells given move tokens (Err Memory) rest = Unit {0}

pub record Answers {A : Type 0} (given : A → Piece × ℕ) (part : Part) (room : ℕ) (tokens : List Lexeme) (result : Result A Fault) (rest : List Lexeme) : Type 0 where
  pub tells : Tells given (expects room part) tokens result rest

-- what each kind of answer gives

abbrev pub given_line : ℕ → Piece × ℕ
given_line line = (a_line line, 0)

abbrev pub given_name : Name → Piece × ℕ
given_name x = (a_name x, 0)

abbrev pub given_names : Vec Name Global → Piece × ℕ
given_names xs = (some_names xs.items, 0)

abbrev pub given_params : Params → Piece × ℕ
given_params p = (some_params p.names.items p.vararg, 0)

abbrev pub given_declared : Declared → Piece × ℕ
given_declared d = (a_declared d, 0)

abbrev pub given_all_declared : Vec Declared Global → Piece × ℕ
given_all_declared ds = (some_declared ds.items, 0)

abbrev pub given_exp : Found (Box Exp Global) → Piece × ℕ
given_exp f = (an_exp (plain_boxed f.node), f.height)

abbrev pub given_step : Found (Option (Box Exp Global)) → Piece × ℕ
given_step f = (maybe_exp (option_map plain_boxed f.node), f.height)

abbrev pub given_exps : Found (Vec Exp Global) → Piece × ℕ
given_exps f = (some_exps (plain_exps f.node.items), f.height)

abbrev pub given_field : Found Field → Piece × ℕ
given_field f = (a_field (plain_field f.node), f.height)

abbrev pub given_fields : Found (Vec Field Global) → Piece × ℕ
given_fields f = (some_fields (map plain_field f.node.items), f.height)

abbrev pub given_target : Found Target → Piece × ℕ
given_target f = (a_target (plain_boxed f.node.exp) f.node.own.items, f.height)

abbrev pub given_arm : Found Arm → Piece × ℕ
given_arm f = (an_arm (plain_arm f.node).0 (plain_arm f.node).1, f.height)

abbrev pub given_arms : Found (Vec Arm Global) → Piece × ℕ
given_arms f = (some_arms (map plain_arm f.node.items), f.height)

abbrev pub given_items : Found Items → Piece × ℕ
given_items f = (some_items (map plain_stat f.node.stats.items) (option_map (λ es. plain_exps es.items) f.node.result) f.node.line, f.height)

abbrev pub given_stat : Found Stat → Piece × ℕ
given_stat f = (a_stat (plain_stat f.node), f.height)

abbrev pub given_block : Found Block → Piece × ℕ
given_block f = (a_block (plain_block f.node), f.height)

abbrev pub given_else : Found (Option Block) → Piece × ℕ
given_else f = (maybe_block (option_map plain_block f.node), f.height)

abbrev pub given_body : Found Body → Piece × ℕ
given_body f = (a_body (plain_body f.node), f.height)

-- the tokens have no other tree
abbrev pub IsOnlyTree : List Lexeme → tree.Block → Type 0
IsOnlyTree tokens own = (other : tree.Block) → Derives tokens other → other ≡ own

-- The tokens have no tree, and the line is that of the last of the least number of them that are no front.
pub record IsRefusal (tokens : List Lexeme) (line : ℕ) : Type 0 where
  pub at : ℕ
  pub stop : Stop tokens (at + 1)
  pub line_is : option_map (λ (t : Lexeme). t.1) (slice_get tokens at) ≡ Some line
  pub no_tree : (other : tree.Block) → Derives tokens other → ⊥

-- what a fault says of the tokens
abbrev pub Refuses : List Lexeme → ParseFault → Type 0
Refuses tokens (fault.Refused line) = IsRefusal tokens line
Refuses tokens fault.Memory = Unit {0}
