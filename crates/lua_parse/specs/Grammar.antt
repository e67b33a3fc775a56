-- The grammar (Lua 5.4 manual, 3.3, 3.4 and 9), a production for each part. `expects room part` is what may follow where the part begins and
-- `room` more levels may be opened. Brackets, blocks, function bodies, operators and suffixes each open one level over what they hold; what a part
-- gives has a height, which is the number of levels within it.
use Rattle.std.specs.Prelude.{ℕ, ◌+◌, ◌-◌, max, nat_lt, if◌then◌else◌, ◌&&◌, Bool, true, false, Option, Some, None, List, [], ◌∷◌, ◌++◌, codes}
use Rattle.tree_core.specs.declared.name.Name.{Name}
use Rattle.tree_core.specs.declared.name.Declared.{Declared}
use Rattle.tree_core.specs.declared.name.Attrib.TheVariants.{Plain}
use Rattle.tree_core.specs.declared.name.Place.TheVariants.{Unset}
use Rattle.tree_core.specs.declared.operator.UnOp.{UnOp}
use Rattle.tree_core.specs.Tree as tree
use Rattle.tree_making.specs.Made.{above, key_of, joined}
use Rattle.tree_core.specs.Plain.{block_of, if_of, num_for_of}
use Rattle.lua_lex.specs.Lexical.{is_end}
use Rattle.tree_making.specs.declared.operator.Infix.{Infix}
use Rattle.token_cursor.specs.declared.level.Level.{Level}
use Rattle.token_cursor.specs.declared.level.Level.TheVariants.{Or, And, Comparison, BitOr, BitXor, BitAnd, Shift, Concat, Sum, Product}
use Rattle.token_cursor.specs.declared.start.Start.{Start}
use Rattle.token_cursor.specs.declared.start.Start.TheVariants as start
use Rattle.token_cursor.specs.declared.word.Word.{Word}
use Rattle.token_cursor.specs.declared.word.TheConstants.{DO, ELSE, ELSEIF, END, FOR, FUNCTION, GOTO, IF, IN, LOCAL, REPEAT, RETURN, THEN, UNTIL, WHILE, LESS, GREATER, ASSIGN, OPEN_ROUND, CLOSE_ROUND, OPEN_CURLY, CLOSE_CURLY, OPEN_SQUARE, CLOSE_SQUARE, LABEL, SEMICOLON, COLON, COMMA, DOT, DOTS}
use Rattle.token_cursor.specs.Words.{is_word, is_string, name_of, string_of, ends_block, begins_suffix, is_separator, operator_of, unary_of, start_of}
use Rattle.lua_parse.specs.Words.{constant_of, attrib_of}
use Rattle.tree_making.specs.Form.{is_target, is_call, variable_of}
use Rattle.lua_parse.specs.Moves.{Piece, a_line, a_name, some_names, some_params, a_declared, some_declared, an_exp, maybe_exp, some_exps, a_field, some_fields, a_target, an_arm, some_arms, some_items, a_stat, a_block, maybe_block, a_body, Part, chunk, word, opener, name, chain, behind, unary, simple, table, more_fields, separated_field, field, keyed, item, prefix, primary, paren, suffixes, suffix, dotted, indexed, method, call, method_arguments, arguments, listed, string_argument, explist, more_exps, body, params, more_params, block, items, returned, stat, label_stat, goto_stat, do_stat, while_stat, repeat_stat, if_stat, arms, more_arms, arm, else_part, do_block, for_stat, numeric, step, generic, more_names, function_stat, function_name, path, local_stat, local_function, local_names, more_declared, declared, values, prefix_stat, assignment, more_targets, Move, pick, pass, refuse, within, gives}

-- what follows on a piece of the right kind

abbrev pub on_line : (ℕ → Move) → Piece → Move
on_line next (a_line line) = next line
on_line next _ = refuse

abbrev pub on_name : (Name → Move) → Piece → Move
on_name next (a_name x) = next x
on_name next _ = refuse

abbrev pub on_names : (List Name → Move) → Piece → Move
on_names next (some_names xs) = next xs
on_names next _ = refuse

abbrev pub on_params : (List Name → Bool → Move) → Piece → Move
on_params next (some_params xs vararg) = next xs vararg
on_params next _ = refuse

abbrev pub on_declared : (Declared → Move) → Piece → Move
on_declared next (a_declared d) = next d
on_declared next _ = refuse

abbrev pub on_all_declared : (List Declared → Move) → Piece → Move
on_all_declared next (some_declared ds) = next ds
on_all_declared next _ = refuse

abbrev pub on_exp : (tree.Exp → Move) → Piece → Move
on_exp next (an_exp e) = next e
on_exp next _ = refuse

abbrev pub on_step : (Option tree.Exp → Move) → Piece → Move
on_step next (maybe_exp e) = next e
on_step next _ = refuse

abbrev pub on_exps : (List tree.Exp → Move) → Piece → Move
on_exps next (some_exps es) = next es
on_exps next _ = refuse

abbrev pub on_field : (tree.Field → Move) → Piece → Move
on_field next (a_field f) = next f
on_field next _ = refuse

abbrev pub on_fields : (List tree.Field → Move) → Piece → Move
on_fields next (some_fields fs) = next fs
on_fields next _ = refuse

abbrev pub on_target : (tree.Exp → List Name → Move) → Piece → Move
on_target next (a_target e own) = next e own
on_target next _ = refuse

abbrev pub on_arm : (tree.Exp → tree.Block → Move) → Piece → Move
on_arm next (an_arm e b) = next e b
on_arm next _ = refuse

abbrev pub on_arms : (List (tree.Exp × tree.Block) → Move) → Piece → Move
on_arms next (some_arms as') = next as'
on_arms next _ = refuse

abbrev pub on_items : (List tree.Stat → Option (List tree.Exp) → ℕ → Move) → Piece → Move
on_items next (some_items ss es line) = next ss es line
on_items next _ = refuse

abbrev pub on_stat : (tree.Stat → Move) → Piece → Move
on_stat next (a_stat s) = next s
on_stat next _ = refuse

abbrev pub on_block : (tree.Block → Move) → Piece → Move
on_block next (a_block b) = next b
on_block next _ = refuse

abbrev pub on_else : (Option tree.Block → Move) → Piece → Move
on_else next (maybe_block b) = next b
on_else next _ = refuse

abbrev pub on_body : (tree.Body → Move) → Piece → Move
on_body next (a_body b) = next b
on_body next _ = refuse

-- parts that stand in many productions

-- this part, and nothing behind it
abbrev pub only : Part → ℕ → Move
only part room = within part room (λ p h n. gives p h)

abbrev pub word_then : Word → (ℕ → Move) → Move
word_then w next = within (word w) 0 (λ p h n. on_line next p)

-- a word that opens a level over what has this height, and what follows
abbrev pub opens_then : Word → (height room : ℕ) → (ℕ → Move) → Move
opens_then w height room next = within (opener w height) room (λ p h n. on_line next p)

abbrev pub name_then : (Name → Move) → Move
name_then next = within name 0 (λ p h n. on_name next p)

abbrev pub exp : Part
exp = chain Or

abbrev pub exp_then : ℕ → (tree.Exp → ℕ → Move) → Move
exp_then room next = within exp room (λ p h n. on_exp (λ e. next e h) p)

abbrev pub exps_then : Part → ℕ → (List tree.Exp → ℕ → Move) → Move
exps_then part room next = within part room (λ p h n. on_exps (λ es. next es h) p)

abbrev pub block_then : ℕ → (tree.Block → ℕ → Move) → Move
block_then room next = within block room (λ p h n. on_block (λ b. next b h) p)

abbrev pub do_block_then : ℕ → (tree.Block → ℕ → Move) → Move
do_block_then room next = within do_block room (λ p h n. on_block (λ b. next b h) p)

abbrev pub body_then : (line : ℕ) → List Name → ℕ → (tree.Body → ℕ → Move) → Move
body_then line own room next = within (body line own) room (λ p h n. on_body (λ b. next b h) p)

-- the token is passed where the test holds
abbrev pub pass_if : Bool → Move → Move
pass_if holds next = if holds then pass next else refuse

-- a name whose variable was not looked up yet
abbrev pub named : List ℕ → ℕ → Name
named text line = record { text = text; line = line; place = Unset }

abbrev pub name_move : ℕ → Option (List ℕ) → Move
name_move line (Some text) = pass (gives (a_name (named text line)) 0)
name_move line None = refuse

-- the operands of a level, and what stands to the right of its operators: `..` groups to the right

abbrev pub operand : Level → Part
operand Or = chain And
operand And = chain Comparison
operand Comparison = chain BitOr
operand BitOr = chain BitXor
operand BitXor = chain BitAnd
operand BitAnd = chain Shift
operand Shift = chain Concat
operand Concat = chain Sum
operand Sum = chain Product
operand Product = unary

abbrev pub right_operand : Level → Part
right_operand Concat = chain Concat
right_operand level = operand level

abbrev pub operator_move : ℕ → Level → tree.Exp → ℕ → ℕ → Option Infix → Move
operator_move room level left height line (Some op) =
    pass_if (nat_lt height room) (within (right_operand level) (room - 1) (λ p h n. on_exp (λ e. only (behind level (joined op line left e) (above height h)) room) p))
operator_move room level left height line None = gives (an_exp left) height

abbrev pub unary_move : ℕ → ℕ → Option UnOp → Move
unary_move room line (Some op) =
    pass_if (nat_lt 0 room) (within unary (room - 1) (λ p h n. on_exp (λ e. gives (an_exp (tree.Unary line op e)) (h + 1)) p))
unary_move room line None = only simple room

abbrev pub constant_move : Option tree.Exp → Move → Move
constant_move (Some e) other = pass (gives (an_exp e) 0)
constant_move None other = other

abbrev pub string_move : ℕ → Option (List ℕ) → Move
string_move line (Some bytes) = pass (gives (some_exps (tree.Str line bytes ∷ [])) 0)
string_move line None = refuse

abbrev pub item_move : ℕ → Option Name → Move
item_move room (Some x) = pass (exp_then room (λ value h. gives (a_field (tree.Keyed x.line (key_of x) value)) h))
item_move room None = refuse

abbrev pub stat_move : ℕ → ℕ → Start → Move
stat_move room line start.Empty = pass (gives (a_stat (tree.Empty line)) 0)
stat_move room line start.Label = only label_stat room
stat_move room line start.Break = pass (gives (a_stat (tree.Break line)) 0)
stat_move room line start.Goto = only goto_stat room
stat_move room line start.Do = only do_stat room
stat_move room line start.While = only while_stat room
stat_move room line start.Repeat = only repeat_stat room
stat_move room line start.If = only if_stat room
stat_move room line start.For = only for_stat room
stat_move room line start.Function = only function_stat room
stat_move room line start.Local = only local_stat room
stat_move room line start.Prefix = only prefix_stat room

abbrev pub expects : ℕ → Part → Move
-- chunk = block
expects room chunk = block_then room (λ b h. pick (λ t. pass_if (is_end t.0) (gives (a_block b) h)))
expects room (word w) = pick (λ t. pass_if (is_word w t.0) (gives (a_line t.1) 0))
expects room (opener w height) = pick (λ t. pass_if (is_word w t.0 && nat_lt height room) (gives (a_line t.1) 0))
expects room name = pick (λ t. name_move t.1 (name_of t.0))
-- a chain of a level = operand {operator operand}
expects room (chain level) = within (operand level) room (λ p h n. on_exp (λ e. only (behind level e h) room) p)
expects room (behind level left height) = pick (λ t. operator_move room level left height t.1 (operator_of level t.0))
-- unary = unop unary | simple
expects room unary = pick (λ t. unary_move room t.1 (unary_of t.0))
-- simple = nil | false | true | Numeral | String | `...` | `function` body | table | prefix
expects room simple =
    pick (λ t. constant_move (constant_of t) (
    if is_word FUNCTION t.0 then pass (body_then t.1 [] room (λ b h. gives (an_exp (tree.Function t.1 b)) h))
    else if is_word OPEN_CURLY t.0 then only table room
    else only prefix room))
-- table = `{` [field {sep field} [sep]] `}`
expects room table = opens_then OPEN_CURLY 0 room (λ line. within (more_fields [] 0) (room - 1) (λ p h n. on_fields (λ fs. gives (an_exp (tree.Table line (tree.fields fs))) (h + 1)) p))
expects room (more_fields fs height) =
    pick (λ t.
    if is_word CLOSE_CURLY t.0 then pass (gives (some_fields fs) height)
    else within separated_field room (λ p h n. on_field (λ f. only (more_fields (fs ++ f ∷ []) (max height h)) room) p))
expects room separated_field =
    within field room (λ p h n. on_field (λ f. pick (λ t.
    if is_separator t.0 then pass (gives (a_field f) h)
    else if is_word CLOSE_CURLY t.0 then gives (a_field f) h
    else refuse)) p)
-- field = `[` exp `]` `=` exp | Name `=` exp | exp
expects room field = pick (λ t. if is_word OPEN_SQUARE t.0 then only keyed room else only item room)
expects room keyed =
    opens_then OPEN_SQUARE 0 room (λ line. exp_then (room - 1) (λ key h. word_then CLOSE_SQUARE (λ _. word_then ASSIGN (λ _. exp_then room (λ value k. gives (a_field (tree.Keyed line key value)) (max (h + 1) k))))))
expects room item = exp_then room (λ e h. pick (λ t. if is_word ASSIGN t.0 then item_move room (variable_of e) else gives (a_field (tree.Item e)) h))
-- prefix = Name suffixes | `(` exp `)` suffixes
expects room prefix = within primary room (λ p h n. on_exp (λ e. only (suffixes e h) room) p)
expects room primary = pick (λ t. if is_word OPEN_ROUND t.0 then only paren room else name_then (λ x. gives (an_exp (tree.Var x.line x)) 0))
expects room paren = opens_then OPEN_ROUND 0 room (λ line. exp_then (room - 1) (λ e h. word_then CLOSE_ROUND (λ _. gives (an_exp (tree.Paren line e)) (h + 1))))
-- suffixes = {`.` Name | `[` exp `]` | `:` Name args | args}
expects room (suffixes left height) =
    pick (λ t.
    if begins_suffix t.0 then within (suffix left height) room (λ p h n. on_exp (λ e. only (suffixes e h) room) p)
    else gives (an_exp left) height)
expects room (suffix left height) =
    pick (λ t.
    if is_word DOT t.0 then only (dotted DOT left height) room
    else if is_word OPEN_SQUARE t.0 then only (indexed left height) room
    else if is_word COLON t.0 then only (method left height) room
    else only (call left height) room)
expects room (dotted w left height) = opens_then w height room (λ line. name_then (λ x. gives (an_exp (tree.Index line left (key_of x))) (height + 1)))
expects room (indexed left height) =
    opens_then OPEN_SQUARE height room (λ line. exp_then (room - 1) (λ e h. word_then CLOSE_SQUARE (λ _. gives (an_exp (tree.Index line left e)) (above height h))))
expects room (method left height) =
    opens_then COLON height room (λ _. name_then (λ x. pick (λ t. exps_then method_arguments (room - 1) (λ es h. gives (an_exp (tree.Method t.1 left x (tree.exps es))) (above height h)))))
expects room (call left height) =
    pick (λ t. if nat_lt height room then exps_then arguments (room - 1) (λ es h. gives (an_exp (tree.Call t.1 left (tree.exps es))) (above height h)) else refuse)
-- behind `:` and a name the brackets of the arguments open a level of their own
expects room method_arguments =
    pick (λ t.
    if is_string t.0 then only arguments room
    else if nat_lt 0 room then within arguments (room - 1) (λ p h n. gives p (h + 1))
    else refuse)
-- args = `(` [explist] `)` | table | String
expects room arguments =
    pick (λ t.
    if is_word OPEN_ROUND t.0 then pass (only listed room)
    else if is_word OPEN_CURLY t.0 then pass (within (more_fields [] 0) room (λ p h n. on_fields (λ fs. gives (some_exps (tree.Table t.1 (tree.fields fs) ∷ [])) h) p))
    else only string_argument 0)
expects room string_argument = pick (λ t. string_move t.1 (string_of t.0))
expects room listed =
    pick (λ t.
    if is_word CLOSE_ROUND t.0 then pass (gives (some_exps []) 0)
    else exps_then explist room (λ es h. word_then CLOSE_ROUND (λ _. gives (some_exps es) h)))
-- explist = exp {`,` exp}
expects room explist = exp_then room (λ e h. only (more_exps (e ∷ []) h) room)
expects room (more_exps es height) =
    pick (λ t.
    if is_word COMMA t.0 then pass (exp_then room (λ e h. only (more_exps (es ++ e ∷ []) (max height h)) room))
    else gives (some_exps es) height)
-- body = `(` [params] `)` block `end`
expects room (body line own) =
    opens_then OPEN_ROUND 0 room (λ _. within (params own) 0 (λ p k n. on_params (λ xs vararg.
    opens_then CLOSE_ROUND 0 (room - 1) (λ _. block_then (room - 1 - 1) (λ b h. word_then END (λ _. gives (a_body (tree.BodyOf xs vararg b [] line)) (h + 2))))) p))
-- params = Name {`,` Name} [`,` `...`] | `...`
expects room (params own) = pick (λ t. if is_word CLOSE_ROUND t.0 then gives (some_params own false) 0 else only (more_params own) 0)
expects room (more_params xs) =
    pick (λ t.
    if is_word DOTS t.0 then pass (gives (some_params xs true) 0)
    else name_then (λ x. pick (λ u.
    if is_word COMMA u.0 then pass (only (more_params (xs ++ x ∷ [])) 0)
    else gives (some_params (xs ++ x ∷ []) false) 0)))
-- block = {stat} [`return` [explist] [`;`]]
expects room block = within (items [] 0) room (λ p h n. on_items (λ ss es line. gives (a_block (block_of ss es n line)) h) p)
expects room (items ss height) =
    pick (λ t.
    if is_word RETURN t.0 then pass (exps_then returned room (λ es h. gives (some_items ss (Some es) t.1) (max height h)))
    else if ends_block t.0 then gives (some_items ss None t.1) height
    else within stat room (λ p h n. on_stat (λ s. only (items (ss ++ s ∷ []) (max height h)) room) p))
expects room returned =
    pick (λ t.
    if ends_block t.0 then gives (some_exps []) 0
    else if is_word SEMICOLON t.0 then pass (gives (some_exps []) 0)
    else exps_then explist room (λ es h. pick (λ u. if is_word SEMICOLON u.0 then pass (gives (some_exps es) h) else gives (some_exps es) h)))
expects room stat = pick (λ t. stat_move room t.1 (start_of t.0))
-- stat = `::` Name `::`
expects room label_stat = word_then LABEL (λ line. name_then (λ x. word_then LABEL (λ _. gives (a_stat (tree.Label line x)) 0)))
-- | `goto` Name
expects room goto_stat = word_then GOTO (λ line. name_then (λ x. gives (a_stat (tree.Goto line x)) 0))
-- | `do` block `end`
expects room do_stat = pick (λ t. do_block_then room (λ b h. gives (a_stat (tree.Do t.1 b)) h))
expects room do_block = opens_then DO 0 room (λ _. block_then (room - 1) (λ b h. word_then END (λ _. gives (a_block b) (h + 1))))
-- | `while` exp `do` block `end`
expects room while_stat = word_then WHILE (λ line. exp_then room (λ test h. do_block_then room (λ b k. gives (a_stat (tree.While line test b)) (max h k))))
-- | `repeat` block `until` exp
expects room repeat_stat =
    opens_then REPEAT 0 room (λ line. block_then (room - 1) (λ b h. word_then UNTIL (λ _. exp_then room (λ test k. gives (a_stat (tree.Repeat line b test)) (max (h + 1) k)))))
-- | `if` exp `then` block {`elseif` exp `then` block} [`else` block] `end`
expects room if_stat =
    word_then IF (λ line. within arms room (λ p h n. on_arms (λ as'. within else_part room (λ q k m. on_else (λ b.
    word_then END (λ _. gives (a_stat (if_of line as' b)) (max h k))) q)) p))
expects room arms = within arm room (λ p h n. on_arm (λ e b. only (more_arms ((e, b) ∷ []) h) room) p)
expects room (more_arms as' height) =
    pick (λ t.
    if is_word ELSEIF t.0 then pass (within arm room (λ p h n. on_arm (λ e b. only (more_arms (as' ++ (e, b) ∷ []) (max height h)) room) p))
    else gives (some_arms as') height)
expects room arm = exp_then room (λ e h. opens_then THEN 0 room (λ _. block_then (room - 1) (λ b k. gives (an_arm e b) (max h (k + 1)))))
expects room else_part =
    pick (λ t.
    if is_word ELSE t.0 then opens_then ELSE 0 room (λ _. block_then (room - 1) (λ b h. gives (maybe_block (Some b)) (h + 1)))
    else gives (maybe_block None) 0)
-- | `for` Name `=` exp `,` exp [`,` exp] `do` block `end`
expects room for_stat = word_then FOR (λ line. name_then (λ x. pick (λ t. if is_word ASSIGN t.0 then only (numeric line x) room else only (generic line x) room)))
expects room (numeric line x) =
    word_then ASSIGN (λ _. exp_then room (λ a h. word_then COMMA (λ _. exp_then room (λ b k. within step room (λ p m n. on_step (λ c.
    do_block_then room (λ inner j. gives (a_stat (num_for_of line x a b c inner)) (max (max h k) (max m j)))) p)))))
expects room step =
    pick (λ t.
    if is_word COMMA t.0 then pass (exp_then room (λ e h. gives (maybe_exp (Some e)) h))
    else gives (maybe_exp None) 0)
-- | `for` namelist `in` explist `do` block `end`
expects room (generic line x) =
    within (more_names (x ∷ [])) 0 (λ p m n. on_names (λ xs. word_then IN (λ _. exps_then explist room (λ es h.
    do_block_then room (λ b k. gives (a_stat (tree.GenFor line xs (tree.exps es) b)) (max h k))))) p)
expects room (more_names xs) =
    pick (λ t.
    if is_word COMMA t.0 then pass (name_then (λ x. only (more_names (xs ++ x ∷ [])) 0))
    else gives (some_names xs) 0)
-- | `function` Name {`.` Name} [`:` Name] body
expects room function_stat =
    word_then FUNCTION (λ line. within function_name room (λ p h n. on_target (λ target own. body_then line own room (λ b k.
    gives (a_stat (tree.Assign line (tree.exps (target ∷ [])) (tree.exps (tree.Function line b ∷ [])))) (max h k))) p))
expects room function_name =
    name_then (λ x. within (path (tree.Var x.line x) 0) room (λ p h n. on_exp (λ e. pick (λ t.
    if is_word COLON t.0 then within (dotted COLON e h) room (λ q k m. on_exp (λ target. gives (a_target target (named (codes "self") t.1 ∷ [])) k) q)
    else gives (a_target e []) h)) p))
expects room (path left height) =
    pick (λ t.
    if is_word DOT t.0 then within (dotted DOT left height) room (λ p h n. on_exp (λ e. only (path e h) room) p)
    else gives (an_exp left) height)
-- | `local` `function` Name body
expects room local_stat = word_then LOCAL (λ line. pick (λ t. if is_word FUNCTION t.0 then only (local_function line) room else only (local_names line) room))
expects room (local_function line) =
    word_then FUNCTION (λ own. name_then (λ x. body_then own [] room (λ b h. gives (a_stat (tree.LocalFunction line x b)) h)))
-- | `local` Name [`<` Name `>`] {`,` Name [`<` Name `>`]} [`=` explist]
expects room (local_names line) =
    within declared 0 (λ p _ _. on_declared (λ d. within (more_declared (d ∷ [])) 0 (λ q _ _. on_all_declared (λ ds.
    exps_then values room (λ es h. gives (a_stat (tree.Local line ds (tree.exps es))) h)) q)) p)
expects room (more_declared ds) =
    pick (λ t.
    if is_word COMMA t.0 then pass (within declared 0 (λ p _ _. on_declared (λ d. only (more_declared (ds ++ d ∷ [])) 0) p))
    else gives (some_declared ds) 0)
expects room declared =
    name_then (λ x. pick (λ t.
    if is_word LESS t.0 then pass (name_then (λ a. word_then GREATER (λ _. gives (a_declared (record { name = x; attrib = attrib_of a.text; attrib_line = a.line })) 0)))
    else gives (a_declared (record { name = x; attrib = Plain; attrib_line = x.line })) 0))
expects room values = pick (λ t. if is_word ASSIGN t.0 then pass (only explist room) else gives (some_exps []) 0)
-- | call | varlist `=` explist
expects room prefix_stat =
    pick (λ t. within prefix room (λ p h n. on_exp (λ e.
    if is_call e then gives (a_stat (tree.CallStat t.1 e)) h
    else if is_target e then only (assignment t.1 e h) room
    else refuse) p))
expects room (assignment line first height) =
    exps_then (more_targets (first ∷ []) height) room (λ ts h. word_then ASSIGN (λ _. exps_then explist room (λ es k.
    gives (a_stat (tree.Assign line (tree.exps ts) (tree.exps es))) (max h k))))
expects room (more_targets ts height) =
    pick (λ t.
    if is_word COMMA t.0 then pass (within prefix room (λ p h n. on_exp (λ e. if is_target e then only (more_targets (ts ++ e ∷ []) (max height h)) room else refuse) p))
    else gives (some_exps ts) height)
