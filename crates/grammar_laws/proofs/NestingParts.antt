-- The functions in what is read are nested at most as deep as there is room for levels, since each function opens two.
use Rattle.std.proofs.Common.{◌≡◌, ℕ, suc, ◌-◌, ◌<◌, ◌≤◌, max, Bool, true, false, List, [], ◌∷◌, ◌++◌, Option, Some, None, refl, arith, ltb-true}
use Rattle.std.specs.Prelude.{nat_lt, ◌&&◌, if◌then◌else◌}
use Rattle.token_cursor.specs.declared.word.Word.{Word}
use Rattle.tree_core.specs.declared.name.Name.{Name}
use Rattle.tree_core.specs.declared.operator.UnOp.{UnOp}
use Rattle.tree_core.specs.Tree as tree
use Rattle.tree_core.specs.Plain.{block_of, if_of, num_for_of}
use Rattle.tree_making.specs.Made.{above, joined}
use Rattle.tree_making.specs.Form.{is_target, is_call, variable_of}
use Rattle.tree_making.specs.declared.operator.Infix.{Infix}
use Rattle.tree_making.specs.declared.operator.Infix.TheVariants as joining
use Rattle.lua_lex.specs.Lexical.{is_end}
use Rattle.lua_lex.specs.declared.token.Token.{Token}
use Rattle.lua_lex.specs.declared.token.Token.TheVariants as token
use Rattle.token_cursor.specs.declared.level.Level.{Level}
use Rattle.token_cursor.specs.declared.level.Level.TheVariants.{Or, And}
use Rattle.token_cursor.specs.declared.start.Start.{Start}
use Rattle.token_cursor.specs.declared.start.Start.TheVariants as start
use Rattle.token_cursor.specs.declared.word.TheConstants.{ELSE, ELSEIF, FUNCTION, RETURN, FALSE, NIL, TRUE, LESS, ASSIGN, OPEN_ROUND, CLOSE_ROUND, OPEN_CURLY, CLOSE_CURLY, OPEN_SQUARE, SEMICOLON, COLON, COMMA, DOT, DOTS}
use Rattle.token_cursor.specs.Words.{Lexeme, is_word, is_string, name_of, string_of, ends_block, begins_suffix, is_separator, operator_of, unary_of, start_of}
use Rattle.lua_parse.specs.Words.{literal, constant_of}
use Rattle.lua_parse.specs.Moves.{Piece, a_line, a_name, some_names, some_params, a_declared, some_declared, an_exp, maybe_exp, some_exps, a_field, some_fields, a_target, an_arm, some_arms, some_items, a_stat, a_block, maybe_block, a_body, Part, chunk, word, opener, name, chain, behind, unary, simple, table, more_fields, separated_field, field, keyed, item, prefix, primary, paren, suffixes, suffix, dotted, indexed, method, call, method_arguments, arguments, listed, string_argument, explist, more_exps, body, params, more_params, block, items, returned, stat, label_stat, goto_stat, do_stat, while_stat, repeat_stat, if_stat, arms, more_arms, arm, else_part, do_block, for_stat, numeric, step, generic, more_names, function_stat, function_name, path, local_stat, local_function, local_names, more_declared, declared, values, prefix_stat, assignment, more_targets, Move, gives}
use Rattle.lua_parse.specs.Grammar.{expects, name_move, constant_move, operand, right_operand, operator_move, unary_move, string_move, item_move, stat_move, pass_if}
use Rattle.grammar_laws.proofs.Operands.{operand_has, right_has}
use Rattle.grammar_laws.proofs.Nesting.{nesting, nesting_in_exps, nesting_in_fields, nesting_in_field, nesting_in_stat, nesting_in_arms, nesting_in_stats, nesting_in_block, nesting_in_body}
use Rattle.grammar_laws.proofs.Pieces.{by_line, by_name, by_names, by_declared, by_all_declared, by_exp, by_step, by_exps, by_field, by_fields, by_arms, by_stat, by_block, by_else, by_body, by_params, by_target, by_arm}
use Rattle.grammar_laws.proofs.Walk.{AnyToken, Keeps, picks, passes, refuses, reads, ends, either, passes_if, only_reads, on_piece, on_pair, on_some_items}

abbrev pub MaybeNests : ℕ → Option tree.Exp → Type 0
MaybeNests room None = Unit {0}
MaybeNests room (Some e) = nesting e ≤ room

abbrev pub ElseNests : ℕ → Option tree.Block → Type 0
ElseNests room None = Unit {0}
ElseNests room (Some b) = nesting_in_block b ≤ room

abbrev pub ValuesNest : ℕ → Option (List tree.Exp) → Type 0
ValuesNest room None = Unit {0}
ValuesNest room (Some es) = nesting_in_exps (tree.exps es) ≤ room

abbrev pub PieceNests : ℕ → Piece → Type 0
PieceNests room (an_exp e) = nesting e ≤ room
PieceNests room (maybe_exp e) = MaybeNests room e
PieceNests room (some_exps es) = nesting_in_exps (tree.exps es) ≤ room
PieceNests room (a_field f) = nesting_in_field f ≤ room
PieceNests room (some_fields fs) = nesting_in_fields (tree.fields fs) ≤ room
PieceNests room (a_target e own) = nesting e ≤ room
PieceNests room (an_arm e b) = (nesting e ≤ room) × (nesting_in_block b ≤ room)
PieceNests room (some_arms as') = nesting_in_arms (tree.arms as') ≤ room
PieceNests room (some_items ss es line) = (nesting_in_stats (tree.stats ss) ≤ room) × ValuesNest room es
PieceNests room (a_stat s) = nesting_in_stat s ≤ room
PieceNests room (a_block b) = nesting_in_block b ≤ room
PieceNests room (maybe_block b) = ElseNests room b
PieceNests room (a_body b) = suc (nesting_in_body b) ≤ room
PieceNests room _ = Unit {0}

-- a word that opens a level has found room for it
abbrev pub Nests : Part → ℕ → Piece → Type 0
Nests (opener w height) room p = height < room
Nests _ room p = PieceNests room p

-- what stands before a part
abbrev pub StandsNested : Part → ℕ → Type 0
StandsNested (behind level left height) room = nesting left ≤ room
StandsNested (more_fields fs height) room = nesting_in_fields (tree.fields fs) ≤ room
StandsNested (suffixes left height) room = nesting left ≤ room
StandsNested (suffix left height) room = nesting left ≤ room
StandsNested (dotted w left height) room = nesting left ≤ room
StandsNested (indexed left height) room = nesting left ≤ room
StandsNested (method left height) room = nesting left ≤ room
StandsNested (call left height) room = nesting left ≤ room
StandsNested (more_exps es height) room = nesting_in_exps (tree.exps es) ≤ room
StandsNested (items ss height) room = nesting_in_stats (tree.stats ss) ≤ room
StandsNested (more_arms as' height) room = nesting_in_arms (tree.arms as') ≤ room
StandsNested (path left height) room = nesting left ≤ room
StandsNested (assignment line first height) room = nesting first ≤ room
StandsNested (more_targets ts height) room = nesting_in_exps (tree.exps ts) ≤ room
StandsNested _ room = Unit {0}

abbrev KeepsNesting : Part → ℕ → Move → Type 0
KeepsNesting part room move = Keeps AnyToken StandsNested Nests part room move

looser : (p : Piece) (m n : ℕ) → m ≤ n → PieceNests m p → PieceNests n p
looser (a_line line) m n le h = tt
looser (a_name x) m n le h = tt
looser (some_names xs) m n le h = tt
looser (some_params xs vararg) m n le h = tt
looser (a_declared d) m n le h = tt
looser (some_declared ds) m n le h = tt
looser (maybe_exp None) m n le h = tt
looser (maybe_exp (Some e)) m n le h = omega (arith, le, h)
looser (an_arm e b) m n le h = (omega (arith, le, h.0), omega (arith, le, h.1))
looser (some_items ss None line) m n le h = (omega (arith, le, h.0), tt)
looser (some_items ss (Some es) line) m n le h = (omega (arith, le, h.0), omega (arith, le, h.1))
looser (maybe_block None) m n le h = tt
looser (maybe_block (Some b)) m n le h = omega (arith, le, h)
looser _ m n le h = omega (arith, le, h)

-- lists that grew by one item

more_exps_nest : (room : ℕ) (es : List tree.Exp) (e : tree.Exp) → nesting_in_exps (tree.exps es) ≤ room → nesting e ≤ room → nesting_in_exps (tree.exps (es ++ e ∷ [])) ≤ room
more_exps_nest room [] e h k = omega (arith, k)
more_exps_nest room (d ∷ es) e h k = let rest = more_exps_nest room es e (omega (arith, h)) k in omega (arith, h, rest)

more_fields_nest : (room : ℕ) (fs : List tree.Field) (f : tree.Field) → nesting_in_fields (tree.fields fs) ≤ room → nesting_in_field f ≤ room → nesting_in_fields (tree.fields (fs ++ f ∷ [])) ≤ room
more_fields_nest room [] f h k = omega (arith, k)
more_fields_nest room (g ∷ fs) f h k = let rest = more_fields_nest room fs f (omega (arith, h)) k in omega (arith, h, rest)

more_stats_nest : (room : ℕ) (ss : List tree.Stat) (s : tree.Stat) → nesting_in_stats (tree.stats ss) ≤ room → nesting_in_stat s ≤ room → nesting_in_stats (tree.stats (ss ++ s ∷ [])) ≤ room
more_stats_nest room [] s h k = omega (arith, k)
more_stats_nest room (r ∷ ss) s h k = let rest = more_stats_nest room ss s (omega (arith, h)) k in omega (arith, h, rest)

more_arms_nest : (room : ℕ) (as' : List (tree.Exp × tree.Block)) (e : tree.Exp) (b : tree.Block) → nesting_in_arms (tree.arms as') ≤ room → nesting e ≤ room → nesting_in_block b ≤ room
    → nesting_in_arms (tree.arms (as' ++ (e, b) ∷ [])) ≤ room
more_arms_nest room [] e b h k l = omega (arith, k, l)
more_arms_nest room (a ∷ as') e b h k l = let rest = more_arms_nest room as' e b (omega (arith, h)) k l in omega (arith, h, rest)

-- expressions of one token

constant_if : (room : ℕ) (b : Bool) (o p : Option tree.Exp) → MaybeNests room o → MaybeNests room p → MaybeNests room (if b then o else p)
constant_if room true o p h k = h
constant_if room false o p h k = k

literal_nests : (room : ℕ) (t : Token) (line : ℕ) → MaybeNests room (literal t line)
literal_nests room (token.Int n) line = omega arith
literal_nests room (token.Str bytes) line = omega arith
literal_nests room _ line = tt

constant_nests : (room : ℕ) (t : Lexeme) → MaybeNests room (constant_of t)
constant_nests room t =
    constant_if room (is_word NIL t.0) _ _ (omega arith) (constant_if room (is_word TRUE t.0) _ _ (omega arith) (constant_if room (is_word FALSE t.0) _ _ (omega arith)
    (constant_if room (is_word DOTS t.0) _ _ (omega arith) (literal_nests room t.0 t.1))))

constant_kept : {room : ℕ} {other : Move} (o : Option tree.Exp) → MaybeNests room o → KeepsNesting simple room other → KeepsNesting simple room (constant_move o other)
constant_kept None h k = k
constant_kept (Some e) h k = passes (ends h)

-- operators

joined_nests : (room : ℕ) (op : Infix) (line : ℕ) (a b : tree.Exp) → nesting a ≤ room → nesting b ≤ room → nesting (joined op line a b) ≤ room
joined_nests room joining.Or line a b h k = omega (arith, h, k)
joined_nests room joining.And line a b h k = omega (arith, h, k)
joined_nests room (joining.Binary op) line a b h k = omega (arith, h, k)

operand_stands : (level : Level) (room : ℕ) → StandsNested (operand level) room
operand_stands level room = operand_has (λ part. StandsNested part room) (λ level. tt) tt level

operand_nests : (level : Level) (room : ℕ) (e : tree.Exp) → Nests (operand level) room (an_exp e) → nesting e ≤ room
operand_nests level room e = operand_has (λ part. Nests part room (an_exp e) → nesting e ≤ room) (λ level h. h) (λ h. h) level

right_stands : (level : Level) (room : ℕ) → StandsNested (right_operand level) room
right_stands level room = right_has (λ part. StandsNested part room) (λ level. tt) tt level

right_nests : (level : Level) (room : ℕ) (e : tree.Exp) → Nests (right_operand level) room (an_exp e) → nesting e ≤ room
right_nests level room e = right_has (λ part. Nests part room (an_exp e) → nesting e ≤ room) (λ level h. h) (λ h. h) level

operator_kept : (room : ℕ) (level : Level) (left : tree.Exp) (height line : ℕ) (o : Option Infix) → nesting left ≤ room → KeepsNesting (behind level left height) room (operator_move room level left height line o)
operator_kept room level left height line None h = ends h
operator_kept room level left height line (Some op) h =
    passes_if (nat_lt height room) (on_piece by_exp (right_stands level (room - 1)) (λ e h' k c.
    only_reads (behind level (joined op line left e) (above height h')) (joined_nests room op line left e h (let d = right_nests level (room - 1) e c in omega (arith, d))) (λ p d. d)))

unary_kept : (room line : ℕ) (o : Option UnOp) → KeepsNesting unary room (unary_move room line o)
unary_kept room line None = only_reads simple tt (λ p c. c)
unary_kept room line (Some op) = passes_if (nat_lt 0 room) (on_piece by_exp tt (λ e h k c. ends (omega (arith, c))))

name_kept : (room line : ℕ) (o : Option (List ℕ)) → KeepsNesting name room (name_move line o)
name_kept room line None = refuses
name_kept room line (Some text) = passes (ends tt)

string_kept : (room line : ℕ) (o : Option (List ℕ)) → KeepsNesting string_argument room (string_move line o)
string_kept room line None = refuses
string_kept room line (Some bytes) = passes (ends (omega arith))

item_kept : (room : ℕ) (e : tree.Exp) → KeepsNesting item room (item_move room (variable_of e))
item_kept room (tree.Var line x) = passes (on_piece by_exp tt (λ value h' k c. ends (omega (arith, c))))
item_kept room _ = refuses

start_kept : (room line : ℕ) (s : Start) → KeepsNesting stat room (stat_move room line s)
start_kept room line start.Empty = passes (ends (omega arith))
start_kept room line start.Break = passes (ends (omega arith))
start_kept room line start.Label = only_reads label_stat tt (λ p c. c)
start_kept room line start.Goto = only_reads goto_stat tt (λ p c. c)
start_kept room line start.Do = only_reads do_stat tt (λ p c. c)
start_kept room line start.While = only_reads while_stat tt (λ p c. c)
start_kept room line start.Repeat = only_reads repeat_stat tt (λ p c. c)
start_kept room line start.If = only_reads if_stat tt (λ p c. c)
start_kept room line start.For = only_reads for_stat tt (λ p c. c)
start_kept room line start.Function = only_reads function_stat tt (λ p c. c)
start_kept room line start.Local = only_reads local_stat tt (λ p c. c)
start_kept room line start.Prefix = only_reads prefix_stat tt (λ p c. c)

opener_kept : (w : Word) (height room : ℕ) (line : ℕ) (b c : Bool) → nat_lt height room ≡ c → KeepsNesting (opener w height) room (pass_if (b && c) (gives (a_line line) 0))
opener_kept w height room line true true e = passes (ends (ltb-true height room e))
opener_kept w height room line true false e = refuses
opener_kept w height room line false c e = refuses

-- statements of parts that may be missing

block_nests : (room : ℕ) (ss : List tree.Stat) (es : Option (List tree.Exp)) (tokens line : ℕ) → nesting_in_stats (tree.stats ss) ≤ room → ValuesNest room es → nesting_in_block (block_of ss es tokens line) ≤ room
block_nests room ss None tokens line h k = h
block_nests room ss (Some es) tokens line h k = omega (arith, h, k)

if_nests : (room line : ℕ) (as' : List (tree.Exp × tree.Block)) (b : Option tree.Block) → nesting_in_arms (tree.arms as') ≤ room → ElseNests room b → nesting_in_stat (if_of line as' b) ≤ room
if_nests room line as' None h k = h
if_nests room line as' (Some b) h k = omega (arith, h, k)

for_nests : (room line : ℕ) (x : Name) (a b : tree.Exp) (c : Option tree.Exp) (inner : tree.Block) → nesting a ≤ room → nesting b ≤ room → MaybeNests room c → nesting_in_block inner ≤ room
    → nesting_in_stat (num_for_of line x a b c inner) ≤ room
for_nests room line x a b None inner h k i j = omega (arith, h, k, j)
for_nests room line x a b (Some c) inner h k i j = omega (arith, h, k, i, j)

pub part_nests : (part : Part) (room : ℕ) → StandsNested part room → KeepsNesting part room (expects room part)
part_nests chunk room r = on_piece by_block tt (λ b h k c. picks (λ t l. passes_if (is_end t.0) (ends c)))
part_nests (word w) room r = picks (λ t l. passes_if (is_word w t.0) (ends tt))
part_nests (opener w height) room r = picks (λ t l. opener_kept w height room t.1 (is_word w t.0) (nat_lt height room) refl)
part_nests name room r = picks (λ t l. name_kept room t.1 (name_of t.0))
part_nests (chain level) room r = on_piece by_exp (operand_stands level room) (λ e h k c. only_reads (behind level e h) (operand_nests level room e c) (λ p d. d))
part_nests (behind level left height) room r = picks (λ t l. operator_kept room level left height t.1 (operator_of level t.0) r)
part_nests unary room r = picks (λ t l. unary_kept room t.1 (unary_of t.0))
part_nests simple room r =
    picks (λ t l. constant_kept (constant_of t) (constant_nests room t) (either (is_word FUNCTION t.0) (passes (on_piece by_body tt (λ b h k c. ends c)))
    (either (is_word OPEN_CURLY t.0) (only_reads table tt (λ p c. c)) (only_reads prefix tt (λ p c. c)))))
part_nests table room r = on_piece by_line tt (λ line h k _. on_piece by_fields (omega arith) (λ fs h' k' c. ends (omega (arith, c))))
part_nests (more_fields fs height) room r =
    picks (λ t l. either (is_word CLOSE_CURLY t.0) (passes (ends r)) (on_piece by_field tt (λ f h k c. only_reads (more_fields (fs ++ f ∷ []) (max height h)) (more_fields_nest room fs f r c) (λ p d. d))))
part_nests separated_field room r = on_piece by_field tt (λ f h k c. picks (λ t l. either (is_separator t.0) (passes (ends c)) (either (is_word CLOSE_CURLY t.0) (ends c) refuses)))
part_nests field room r = picks (λ t l. either (is_word OPEN_SQUARE t.0) (only_reads keyed tt (λ p c. c)) (only_reads item tt (λ p c. c)))
part_nests keyed room r =
    on_piece by_line tt (λ line h k _. on_piece by_exp tt (λ key h1 k1 c. on_piece by_line tt (λ _ h2 k2 _. on_piece by_line tt (λ _ h3 k3 _. on_piece by_exp tt (λ value h4 k4 d. ends (omega (arith, c, d)))))))
part_nests item room r = on_piece by_exp tt (λ e h k c. picks (λ t l. either (is_word ASSIGN t.0) (item_kept room e) (ends c)))
part_nests prefix room r = on_piece by_exp tt (λ e h k c. only_reads (suffixes e h) c (λ p d. d))
part_nests primary room r = picks (λ t l. either (is_word OPEN_ROUND t.0) (only_reads paren tt (λ p c. c)) (on_piece by_name tt (λ x h k c. ends (omega arith))))
part_nests paren room r = on_piece by_line tt (λ line h k _. on_piece by_exp tt (λ e h1 k1 c. on_piece by_line tt (λ _ h2 k2 _. ends (omega (arith, c)))))
part_nests (suffixes left height) room r = picks (λ t l. either (begins_suffix t.0) (on_piece by_exp r (λ e h k c. only_reads (suffixes e h) c (λ p d. d))) (ends r))
part_nests (suffix left height) room r =
    picks (λ t l. either (is_word DOT t.0) (only_reads (dotted DOT left height) r (λ p c. c)) (either (is_word OPEN_SQUARE t.0) (only_reads (indexed left height) r (λ p c. c))
    (either (is_word COLON t.0) (only_reads (method left height) r (λ p c. c)) (only_reads (call left height) r (λ p c. c)))))
part_nests (dotted w left height) room r = on_piece by_line tt (λ line h k _. on_piece by_name tt (λ x h1 k1 c. ends (omega (arith, r))))
part_nests (indexed left height) room r = on_piece by_line tt (λ line h k _. on_piece by_exp tt (λ e h1 k1 c. on_piece by_line tt (λ _ h2 k2 _. ends (omega (arith, r, c)))))
part_nests (method left height) room r = on_piece by_line tt (λ _ h k _. on_piece by_name tt (λ x h1 k1 c. picks (λ t l. on_piece by_exps tt (λ es h2 k2 d. ends (omega (arith, r, d))))))
part_nests (call left height) room r = picks (λ t l. either (nat_lt height room) (on_piece by_exps tt (λ es h k c. ends (omega (arith, r, c)))) refuses)
part_nests method_arguments room r =
    picks (λ t l. either (is_string t.0) (only_reads arguments tt (λ p c. c)) (either (nat_lt 0 room) (reads tt (λ p h k c. ends (looser p (room - 1) room (omega arith) c))) refuses))
part_nests arguments room r =
    picks (λ t l. either (is_word OPEN_ROUND t.0) (passes (only_reads listed tt (λ p c. c)))
    (either (is_word OPEN_CURLY t.0) (passes (on_piece by_fields (omega arith) (λ fs h k c. ends (omega (arith, c))))) (only_reads string_argument tt (λ p c. looser p 0 room (omega arith) c))))
part_nests string_argument room r = picks (λ t l. string_kept room t.1 (string_of t.0))
part_nests listed room r = picks (λ t l. either (is_word CLOSE_ROUND t.0) (passes (ends (omega arith))) (on_piece by_exps tt (λ es h k c. on_piece by_line tt (λ _ h1 k1 _. ends c))))
part_nests explist room r = on_piece by_exp tt (λ e h k c. only_reads (more_exps (e ∷ []) h) (omega (arith, c)) (λ p d. d))
part_nests (more_exps es height) room r =
    picks (λ t l. either (is_word COMMA t.0) (passes (on_piece by_exp tt (λ e h k c. only_reads (more_exps (es ++ e ∷ []) (max height h)) (more_exps_nest room es e r c) (λ p d. d)))) (ends r))
part_nests (body line own) room r =
    on_piece by_line tt (λ _ h k first. on_pair by_params tt (λ xs vararg h1 k1 _. on_piece by_line tt (λ _ h2 k2 second. on_piece by_block tt (λ b h3 k3 c. on_piece by_line tt (λ _ h4 k4 _. ends (omega (arith, first, second, c)))))))
part_nests (params own) room r = picks (λ t l. either (is_word CLOSE_ROUND t.0) (ends tt) (only_reads (more_params own) tt (λ p c. looser p 0 room (omega arith) c)))
part_nests (more_params xs) room r =
    picks (λ t l. either (is_word DOTS t.0) (passes (ends tt)) (on_piece by_name tt (λ x h k c. picks (λ u m. either (is_word COMMA u.0)
    (passes (only_reads (more_params (xs ++ x ∷ [])) tt (λ p d. looser p 0 room (omega arith) d))) (ends tt)))))
part_nests block room r = on_some_items (omega arith) (λ ss es line h k c. ends (block_nests room ss es k line c.0 c.1))
part_nests (items ss height) room r =
    picks (λ t l. either (is_word RETURN t.0) (passes (on_piece by_exps tt (λ es h k c. ends (r, c)))) (either (ends_block t.0) (ends (r, tt))
    (on_piece by_stat tt (λ s h k c. only_reads (items (ss ++ s ∷ []) (max height h)) (more_stats_nest room ss s r c) (λ p d. d)))))
part_nests returned room r =
    picks (λ t l. either (ends_block t.0) (ends (omega arith)) (either (is_word SEMICOLON t.0) (passes (ends (omega arith)))
    (on_piece by_exps tt (λ es h k c. picks (λ u m. either (is_word SEMICOLON u.0) (passes (ends c)) (ends c))))))
part_nests stat room r = picks (λ t l. start_kept room t.1 (start_of t.0))
part_nests label_stat room r = on_piece by_line tt (λ line h k _. on_piece by_name tt (λ x h1 k1 c. on_piece by_line tt (λ _ h2 k2 _. ends (omega arith))))
part_nests goto_stat room r = on_piece by_line tt (λ line h k _. on_piece by_name tt (λ x h1 k1 c. ends (omega arith)))
part_nests do_stat room r = picks (λ t l. on_piece by_block tt (λ b h k c. ends c))
part_nests do_block room r = on_piece by_line tt (λ _ h k _. on_piece by_block tt (λ b h1 k1 c. on_piece by_line tt (λ _ h2 k2 _. ends (omega (arith, c)))))
part_nests while_stat room r = on_piece by_line tt (λ line h k _. on_piece by_exp tt (λ e h1 k1 c. on_piece by_block tt (λ b h2 k2 d. ends (omega (arith, c, d)))))
part_nests repeat_stat room r =
    on_piece by_line tt (λ line h k _. on_piece by_block tt (λ b h1 k1 c. on_piece by_line tt (λ _ h2 k2 _. on_piece by_exp tt (λ e h3 k3 d. ends (omega (arith, c, d))))))
part_nests if_stat room r =
    on_piece by_line tt (λ line h k _. on_piece by_arms tt (λ as' h1 k1 c. on_piece by_else tt (λ b h2 k2 d. on_piece by_line tt (λ _ h3 k3 _. ends (if_nests room line as' b c d)))))
part_nests arms room r = on_pair by_arm tt (λ e b h k c. only_reads (more_arms ((e, b) ∷ []) h) (omega (arith, c.0, c.1)) (λ p d. d))
part_nests (more_arms as' height) room r =
    picks (λ t l. either (is_word ELSEIF t.0)
    (passes (on_pair by_arm tt (λ e b h k c. only_reads (more_arms (as' ++ (e, b) ∷ []) (max height h)) (more_arms_nest room as' e b r c.0 c.1) (λ p d. d)))) (ends r))
part_nests arm room r = on_piece by_exp tt (λ e h k c. on_piece by_line tt (λ _ h1 k1 _. on_piece by_block tt (λ b h2 k2 d. ends (c, omega (arith, d)))))
part_nests else_part room r = picks (λ t l. either (is_word ELSE t.0) (on_piece by_line tt (λ _ h k _. on_piece by_block tt (λ b h1 k1 c. ends (omega (arith, c))))) (ends tt))
part_nests for_stat room r =
    on_piece by_line tt (λ line h k _. on_piece by_name tt (λ x h1 k1 c. picks (λ t m. either (is_word ASSIGN t.0) (only_reads (numeric line x) tt (λ p d. d)) (only_reads (generic line x) tt (λ p d. d)))))
part_nests (numeric line x) room r =
    on_piece by_line tt (λ _ h k _. on_piece by_exp tt (λ a h1 k1 c. on_piece by_line tt (λ _ h2 k2 _. on_piece by_exp tt (λ b h3 k3 d. on_piece by_step tt (λ e h4 k4 f. on_piece by_block tt (λ inner h5 k5 g.
    ends (for_nests room line x a b e inner c d f g)))))))
part_nests step room r = picks (λ t l. either (is_word COMMA t.0) (passes (on_piece by_exp tt (λ e h k c. ends c))) (ends tt))
part_nests (generic line x) room r =
    on_piece by_names tt (λ xs h k c. on_piece by_line tt (λ _ h1 k1 _. on_piece by_exps tt (λ es h2 k2 d. on_piece by_block tt (λ b h3 k3 e. ends (omega (arith, d, e))))))
part_nests (more_names xs) room r =
    picks (λ t l. either (is_word COMMA t.0) (passes (on_piece by_name tt (λ x h k c. only_reads (more_names (xs ++ x ∷ [])) tt (λ p d. looser p 0 room (omega arith) d)))) (ends tt))
part_nests function_stat room r =
    on_piece by_line tt (λ line h k _. on_pair by_target tt (λ target own h1 k1 c. on_piece by_body tt (λ b h2 k2 d. ends (omega (arith, c, d)))))
part_nests function_name room r =
    on_piece by_name tt (λ x h k c. on_piece by_exp (omega arith) (λ e h1 k1 d. picks (λ t l. either (is_word COLON t.0) (on_piece by_exp d (λ target h2 k2 f. ends f)) (ends d))))
part_nests (path left height) room r = picks (λ t l. either (is_word DOT t.0) (on_piece by_exp r (λ e h k c. only_reads (path e h) c (λ p d. d))) (ends r))
part_nests local_stat room r =
    on_piece by_line tt (λ line h k _. picks (λ t m. either (is_word FUNCTION t.0) (only_reads (local_function line) tt (λ p d. d)) (only_reads (local_names line) tt (λ p d. d))))
part_nests (local_function line) room r = on_piece by_line tt (λ own h k _. on_piece by_name tt (λ x h1 k1 c. on_piece by_body tt (λ b h2 k2 d. ends d)))
part_nests (local_names line) room r = on_piece by_declared tt (λ d h k c. on_piece by_all_declared tt (λ ds h1 k1 e. on_piece by_exps tt (λ es h2 k2 f. ends f)))
part_nests (more_declared ds) room r =
    picks (λ t l. either (is_word COMMA t.0) (passes (on_piece by_declared tt (λ d h k c. only_reads (more_declared (ds ++ d ∷ [])) tt (λ p e. looser p 0 room (omega arith) e)))) (ends tt))
part_nests declared room r =
    on_piece by_name tt (λ x h k c. picks (λ t l. either (is_word LESS t.0) (passes (on_piece by_name tt (λ a h1 k1 d. on_piece by_line tt (λ _ h2 k2 _. ends tt)))) (ends tt)))
part_nests values room r = picks (λ t l. either (is_word ASSIGN t.0) (passes (only_reads explist tt (λ p c. c))) (ends (omega arith)))
part_nests prefix_stat room r =
    picks (λ t l. on_piece by_exp tt (λ e h k c. either (is_call e) (ends c) (either (is_target e) (only_reads (assignment t.1 e h) c (λ p d. d)) refuses)))
part_nests (assignment line first height) room r =
    on_piece by_exps (omega (arith, r)) (λ ts h k c. on_piece by_line tt (λ _ h1 k1 _. on_piece by_exps tt (λ es h2 k2 d. ends (omega (arith, c, d)))))
part_nests (more_targets ts height) room r =
    picks (λ t l. either (is_word COMMA t.0)
    (passes (on_piece by_exp tt (λ e h k c. either (is_target e) (only_reads (more_targets (ts ++ e ∷ []) (max height h)) (more_exps_nest room ts e r c) (λ p d. d)) refuses))) (ends r))
