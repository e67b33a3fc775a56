-- What is read of tokens whose texts and integers fit has texts and integers that fit.
use Rattle.std.proofs.Common.{ℕ, max, Bool, true, false, List, [], ◌∷◌, ◌++◌, Option, Some, None, refl, IsTrue}
use Rattle.std.specs.Prelude.{nat_lt, ◌&&◌, if◌then◌else◌}
use Rattle.tree_core.specs.declared.name.Name.{Name}
use Rattle.tree_core.specs.declared.name.Declared.{Declared}
use Rattle.tree_core.specs.declared.operator.UnOp.{UnOp}
use Rattle.tree_core.specs.Tree as tree
use Rattle.tree_core.specs.Plain.{block_of, if_of, num_for_of}
use Rattle.tree_terms.specs.Asked.{ExpMeets, StatMeets, ArmsMeet, StatsMeet}
use Rattle.tree_making.specs.Made.{above, joined}
use Rattle.tree_making.specs.Form.{is_target, is_call, variable_of}
use Rattle.tree_making.specs.declared.operator.Infix.{Infix}
use Rattle.tree_making.specs.declared.operator.Infix.TheVariants as joining
use Rattle.lua_lex.specs.Lexical.{is_end}
use Rattle.lua_lex.specs.declared.token.Token.{Token}
use Rattle.lua_lex.specs.declared.token.Token.TheVariants as token
use Rattle.token_cursor.specs.declared.level.Level.{Level}
use Rattle.token_cursor.specs.declared.level.Level.TheVariants.{Or, And}
use Rattle.token_cursor.specs.declared.start.Start.{Start}
use Rattle.token_cursor.specs.declared.start.Start.TheVariants as start
use Rattle.token_cursor.specs.declared.word.TheConstants.{ELSE, ELSEIF, FUNCTION, RETURN, FALSE, NIL, TRUE, LESS, ASSIGN, OPEN_ROUND, CLOSE_ROUND, OPEN_CURLY, CLOSE_CURLY, OPEN_SQUARE, SEMICOLON, COLON, COMMA, DOT, DOTS}
use Rattle.token_cursor.specs.Words.{Lexeme, is_word, is_string, name_of, string_of, ends_block, begins_suffix, is_separator, operator_of, unary_of, start_of}
use Rattle.lua_parse.specs.Words.{literal, constant_of}
use Rattle.lua_parse.specs.Moves.{Piece, a_name, some_names, some_params, a_declared, some_declared, a_target, Part, chunk, word, opener, name, chain, behind, unary, simple, table, more_fields, separated_field, field, keyed, item, prefix, primary, paren, suffixes, suffix, dotted, indexed, method, call, method_arguments, arguments, listed, string_argument, explist, more_exps, body, params, more_params, block, items, returned, stat, label_stat, goto_stat, do_stat, while_stat, repeat_stat, if_stat, arms, more_arms, arm, else_part, do_block, for_stat, numeric, step, generic, more_names, function_stat, function_name, path, local_stat, local_function, local_names, more_declared, declared, values, prefix_stat, assignment, more_targets, Move}
use Rattle.lua_parse.specs.Grammar.{expects, name_move, constant_move, operand, right_operand, operator_move, unary_move, string_move, item_move, stat_move, only}
use Rattle.grammar_laws.proofs.Operands.{operand_has, right_has}
use Rattle.code_core.specs.Writable.{signed_fits}
use Rattle.code_checked.specs.Written.{TextFits, NamesFit}
use Rattle.source_laws.proofs.Texts.{DeclaredTextsFit, BlockTextsFit, all_texts}
use Rattle.grammar_laws.proofs.Pieces.{by_line, by_name, by_names, by_declared, by_all_declared, by_exp, by_step, by_exps, by_field, by_fields, by_arms, by_stat, by_block, by_else, by_body, by_params, by_target, by_arm}
use Rattle.grammar_laws.proofs.Walk.{Keeps, picks, passes, refuses, reads, ends, either, passes_if, only_reads, on_piece, on_pair, on_some_items}
use Rattle.grammar_laws.proofs.Asking.{MaybeMeets, ElseMeets, ValuesMeet, PieceMeets, FrontMeets, exps_more, fields_more, stats_more, arms_more}

abbrev pub TokenFits : Token → Type 0
TokenFits (token.Int n) = IsTrue (signed_fits 63 n)
TokenFits (token.Str bytes) = TextFits bytes
TokenFits (token.Name text) = TextFits text
TokenFits _ = Unit {0}

abbrev pub LexemeFits : Lexeme → Type 0
LexemeFits t = TokenFits t.0

abbrev pub MaybeText : Option (List ℕ) → Type 0
MaybeText None = Unit {0}
MaybeText (Some text) = TextFits text

abbrev pub PieceFits : Piece → Type 0
PieceFits (a_name x) = TextFits x.text
PieceFits (some_names xs) = NamesFit xs
PieceFits (some_params xs vararg) = NamesFit xs
PieceFits (a_declared d) = TextFits d.name.text
PieceFits (some_declared ds) = DeclaredTextsFit ds
PieceFits (a_target e own) = ExpMeets all_texts e × NamesFit own
PieceFits p = PieceMeets all_texts p

abbrev pub Fits : Part → ℕ → Piece → Type 0
Fits part room p = PieceFits p

-- what stands before a part
abbrev pub FrontFits : Part → Type 0
FrontFits (body line own) = NamesFit own
FrontFits (params own) = NamesFit own
FrontFits (more_params xs) = NamesFit xs
FrontFits (numeric line x) = TextFits x.text
FrontFits (generic line x) = TextFits x.text
FrontFits (more_names xs) = NamesFit xs
FrontFits (more_declared ds) = DeclaredTextsFit ds
FrontFits part = FrontMeets all_texts part

abbrev pub StandsFit : Part → ℕ → Type 0
StandsFit part room = FrontFits part

abbrev KeepsTexts : Part → ℕ → Move → Type 0
KeepsTexts part room move = Keeps LexemeFits StandsFit Fits part room move

only_part : {goal : Part} {limit room : ℕ} (part : Part) → FrontFits part → KeepsTexts goal limit (only part room)
only_part part ready = only_reads part ready (λ p c. c)

-- lists that grew by one item

more_names_fit : (xs : List Name) (x : Name) → NamesFit xs → TextFits x.text → NamesFit (xs ++ x ∷ [])
more_names_fit [] x h k = (k, tt)
more_names_fit (y ∷ xs) x h k = (h.0, more_names_fit xs x h.1 k)

more_declared_fit : (ds : List Declared) (d : Declared) → DeclaredTextsFit ds → TextFits d.name.text → DeclaredTextsFit (ds ++ d ∷ [])
more_declared_fit [] d h k = (k, tt)
more_declared_fit (c ∷ ds) d h k = (h.0, more_declared_fit ds d h.1 k)

-- what one token gives

name_fits : (t : Token) → TokenFits t → MaybeText (name_of t)
name_fits (token.Name text) h = h
name_fits _ h = tt

string_fits : (t : Token) → TokenFits t → MaybeText (string_of t)
string_fits (token.Str bytes) h = h
string_fits _ h = tt

constant_if : (b : Bool) (o p : Option tree.Exp) → MaybeMeets all_texts o → MaybeMeets all_texts p → MaybeMeets all_texts (if b then o else p)
constant_if true o p h k = h
constant_if false o p h k = k

literal_fits : (t : Token) (line : ℕ) → TokenFits t → MaybeMeets all_texts (literal t line)
literal_fits (token.Int n) line h = h
literal_fits (token.Str bytes) line h = h
literal_fits _ line h = tt

constant_fits : (t : Lexeme) → TokenFits t.0 → MaybeMeets all_texts (constant_of t)
constant_fits t h = constant_if (is_word NIL t.0) _ _ tt (constant_if (is_word TRUE t.0) _ _ tt (constant_if (is_word FALSE t.0) _ _ tt (constant_if (is_word DOTS t.0) _ _ tt (literal_fits t.0 t.1 h))))

constant_kept : {room : ℕ} {other : Move} (o : Option tree.Exp) → MaybeMeets all_texts o → KeepsTexts simple room other → KeepsTexts simple room (constant_move o other)
constant_kept None h k = k
constant_kept (Some e) h k = passes (ends h)

name_kept : (room line : ℕ) (o : Option (List ℕ)) → MaybeText o → KeepsTexts name room (name_move line o)
name_kept room line None h = refuses
name_kept room line (Some text) h = passes (ends h)

string_kept : (room line : ℕ) (o : Option (List ℕ)) → MaybeText o → KeepsTexts string_argument room (string_move line o)
string_kept room line None h = refuses
string_kept room line (Some bytes) h = passes (ends (h, tt))

-- operators

joined_fits : (op : Infix) (line : ℕ) (a b : tree.Exp) → ExpMeets all_texts a → ExpMeets all_texts b → ExpMeets all_texts (joined op line a b)
joined_fits joining.Or line a b h k = (h, k)
joined_fits joining.And line a b h k = (h, k)
joined_fits (joining.Binary op) line a b h k = (h, k)

operand_stands : (level : Level) → FrontFits (operand level)
operand_stands level = operand_has FrontFits (λ level. tt) tt level

right_stands : (level : Level) → FrontFits (right_operand level)
right_stands level = right_has FrontFits (λ level. tt) tt level

operator_kept : (room : ℕ) (level : Level) (left : tree.Exp) (height line : ℕ) (o : Option Infix) → ExpMeets all_texts left → KeepsTexts (behind level left height) room (operator_move room level left height line o)
operator_kept room level left height line None h = ends h
operator_kept room level left height line (Some op) h =
    passes_if (nat_lt height room) (on_piece by_exp (right_stands level) (λ e h' k c. only_part (behind level (joined op line left e) (above height h')) (joined_fits op line left e h c)))

unary_kept : (room line : ℕ) (o : Option UnOp) → KeepsTexts unary room (unary_move room line o)
unary_kept room line None = only_part simple tt
unary_kept room line (Some op) = passes_if (nat_lt 0 room) (on_piece by_exp tt (λ e h k c. ends c))

item_kept : (room : ℕ) (e : tree.Exp) → ExpMeets all_texts e → KeepsTexts item room (item_move room (variable_of e))
item_kept room (tree.Var line x) h = passes (on_piece by_exp tt (λ value h' k c. ends (h, c)))
item_kept room _ h = refuses

start_kept : (room line : ℕ) (s : Start) → KeepsTexts stat room (stat_move room line s)
start_kept room line start.Empty = passes (ends tt)
start_kept room line start.Break = passes (ends tt)
start_kept room line start.Label = only_part label_stat tt
start_kept room line start.Goto = only_part goto_stat tt
start_kept room line start.Do = only_part do_stat tt
start_kept room line start.While = only_part while_stat tt
start_kept room line start.Repeat = only_part repeat_stat tt
start_kept room line start.If = only_part if_stat tt
start_kept room line start.For = only_part for_stat tt
start_kept room line start.Function = only_part function_stat tt
start_kept room line start.Local = only_part local_stat tt
start_kept room line start.Prefix = only_part prefix_stat tt

-- statements of parts that may be missing

block_fits : (ss : List tree.Stat) (es : Option (List tree.Exp)) (tokens line : ℕ) → StatsMeet all_texts (tree.stats ss) → ValuesMeet all_texts es → BlockTextsFit (block_of ss es tokens line)
block_fits ss None tokens line h k = h
block_fits ss (Some es) tokens line h k = (h, k)

if_fits : (line : ℕ) (as' : List (tree.Exp × tree.Block)) (b : Option tree.Block) → ArmsMeet all_texts (tree.arms as') → ElseMeets all_texts b → StatMeets all_texts (if_of line as' b)
if_fits line as' None h k = h
if_fits line as' (Some b) h k = (h, k)

for_fits : (line : ℕ) (x : Name) (a b : tree.Exp) (c : Option tree.Exp) (inner : tree.Block) → TextFits x.text → ExpMeets all_texts a → ExpMeets all_texts b → MaybeMeets all_texts c → BlockTextsFit inner → StatMeets all_texts (num_for_of line x a b c inner)
for_fits line x a b None inner m h k i j = (m, (h, (k, j)))
for_fits line x a b (Some c) inner m h k i j = (m, (h, (k, (i, j))))

pub part_fits : (part : Part) (room : ℕ) → StandsFit part room → KeepsTexts part room (expects room part)
part_fits chunk room r = on_piece by_block tt (λ b h k c. picks (λ t l. passes_if (is_end t.0) (ends c)))
part_fits (word w) room r = picks (λ t l. passes_if (is_word w t.0) (ends tt))
part_fits (opener w height) room r = picks (λ t l. passes_if (is_word w t.0 && nat_lt height room) (ends tt))
part_fits name room r = picks (λ t l. name_kept room t.1 (name_of t.0) (name_fits t.0 l))
part_fits (chain level) room r = on_piece by_exp (operand_stands level) (λ e h k c. only_part (behind level e h) c)
part_fits (behind level left height) room r = picks (λ t l. operator_kept room level left height t.1 (operator_of level t.0) r)
part_fits unary room r = picks (λ t l. unary_kept room t.1 (unary_of t.0))
part_fits simple room r =
    picks (λ t l. constant_kept (constant_of t) (constant_fits t l) (either (is_word FUNCTION t.0) (passes (on_piece by_body tt (λ b h k c. ends c)))
    (either (is_word OPEN_CURLY t.0) (only_part table tt) (only_part prefix tt))))
part_fits table room r = on_piece by_line tt (λ line h k _. on_piece by_fields tt (λ fs h' k' c. ends c))
part_fits (more_fields fs height) room r =
    picks (λ t l. either (is_word CLOSE_CURLY t.0) (passes (ends r)) (on_piece by_field tt (λ f h k c. only_part (more_fields (fs ++ f ∷ []) (max height h)) (fields_more all_texts fs f r c))))
part_fits separated_field room r = on_piece by_field tt (λ f h k c. picks (λ t l. either (is_separator t.0) (passes (ends c)) (either (is_word CLOSE_CURLY t.0) (ends c) refuses)))
part_fits field room r = picks (λ t l. either (is_word OPEN_SQUARE t.0) (only_part keyed tt) (only_part item tt))
part_fits keyed room r =
    on_piece by_line tt (λ line h k _. on_piece by_exp tt (λ key h1 k1 c. on_piece by_line tt (λ _ h2 k2 _. on_piece by_line tt (λ _ h3 k3 _. on_piece by_exp tt (λ value h4 k4 d. ends (c, d))))))
part_fits item room r = on_piece by_exp tt (λ e h k c. picks (λ t l. either (is_word ASSIGN t.0) (item_kept room e c) (ends c)))
part_fits prefix room r = on_piece by_exp tt (λ e h k c. only_part (suffixes e h) c)
part_fits primary room r = picks (λ t l. either (is_word OPEN_ROUND t.0) (only_part paren tt) (on_piece by_name tt (λ x h k c. ends c)))
part_fits paren room r = on_piece by_line tt (λ line h k _. on_piece by_exp tt (λ e h1 k1 c. on_piece by_line tt (λ _ h2 k2 _. ends c)))
part_fits (suffixes left height) room r = picks (λ t l. either (begins_suffix t.0) (on_piece by_exp r (λ e h k c. only_part (suffixes e h) c)) (ends r))
part_fits (suffix left height) room r =
    picks (λ t l. either (is_word DOT t.0) (only_part (dotted DOT left height) r) (either (is_word OPEN_SQUARE t.0) (only_part (indexed left height) r)
    (either (is_word COLON t.0) (only_part (method left height) r) (only_part (call left height) r))))
part_fits (dotted w left height) room r = on_piece by_line tt (λ line h k _. on_piece by_name tt (λ x h1 k1 c. ends (r, c)))
part_fits (indexed left height) room r = on_piece by_line tt (λ line h k _. on_piece by_exp tt (λ e h1 k1 c. on_piece by_line tt (λ _ h2 k2 _. ends (r, c))))
part_fits (method left height) room r = on_piece by_line tt (λ _ h k _. on_piece by_name tt (λ x h1 k1 c. picks (λ t l. on_piece by_exps tt (λ es h2 k2 d. ends (r, (c, d))))))
part_fits (call left height) room r = picks (λ t l. either (nat_lt height room) (on_piece by_exps tt (λ es h k c. ends (r, c))) refuses)
part_fits method_arguments room r = picks (λ t l. either (is_string t.0) (only_part arguments tt) (either (nat_lt 0 room) (reads tt (λ p h k c. ends c)) refuses))
part_fits arguments room r =
    picks (λ t l. either (is_word OPEN_ROUND t.0) (passes (only_part listed tt))
    (either (is_word OPEN_CURLY t.0) (passes (on_piece by_fields tt (λ fs h k c. ends (c, tt)))) (only_part string_argument tt)))
part_fits string_argument room r = picks (λ t l. string_kept room t.1 (string_of t.0) (string_fits t.0 l))
part_fits listed room r = picks (λ t l. either (is_word CLOSE_ROUND t.0) (passes (ends tt)) (on_piece by_exps tt (λ es h k c. on_piece by_line tt (λ _ h1 k1 _. ends c))))
part_fits explist room r = on_piece by_exp tt (λ e h k c. only_part (more_exps (e ∷ []) h) (c, tt))
part_fits (more_exps es height) room r =
    picks (λ t l. either (is_word COMMA t.0) (passes (on_piece by_exp tt (λ e h k c. only_part (more_exps (es ++ e ∷ []) (max height h)) (exps_more all_texts es e r c)))) (ends r))
part_fits (body line own) room r =
    on_piece by_line tt (λ _ h k _. on_pair by_params r (λ xs vararg h1 k1 c. on_piece by_line tt (λ _ h2 k2 _. on_piece by_block tt (λ b h3 k3 d. on_piece by_line tt (λ _ h4 k4 _. ends (c, (tt, d)))))))
part_fits (params own) room r = picks (λ t l. either (is_word CLOSE_ROUND t.0) (ends r) (only_part (more_params own) r))
part_fits (more_params xs) room r =
    picks (λ t l. either (is_word DOTS t.0) (passes (ends r)) (on_piece by_name tt (λ x h k c. picks (λ u m. either (is_word COMMA u.0)
    (passes (only_part (more_params (xs ++ x ∷ [])) (more_names_fit xs x r c))) (ends (more_names_fit xs x r c))))))
part_fits block room r = on_some_items tt (λ ss es line h k c. ends (block_fits ss es k line c.0 c.1))
part_fits (items ss height) room r =
    picks (λ t l. either (is_word RETURN t.0) (passes (on_piece by_exps tt (λ es h k c. ends (r, c)))) (either (ends_block t.0) (ends (r, tt))
    (on_piece by_stat tt (λ s h k c. only_part (items (ss ++ s ∷ []) (max height h)) (stats_more all_texts ss s r c)))))
part_fits returned room r =
    picks (λ t l. either (ends_block t.0) (ends tt) (either (is_word SEMICOLON t.0) (passes (ends tt))
    (on_piece by_exps tt (λ es h k c. picks (λ u m. either (is_word SEMICOLON u.0) (passes (ends c)) (ends c))))))
part_fits stat room r = picks (λ t l. start_kept room t.1 (start_of t.0))
part_fits label_stat room r = on_piece by_line tt (λ line h k _. on_piece by_name tt (λ x h1 k1 c. on_piece by_line tt (λ _ h2 k2 _. ends tt)))
part_fits goto_stat room r = on_piece by_line tt (λ line h k _. on_piece by_name tt (λ x h1 k1 c. ends tt))
part_fits do_stat room r = picks (λ t l. on_piece by_block tt (λ b h k c. ends c))
part_fits do_block room r = on_piece by_line tt (λ _ h k _. on_piece by_block tt (λ b h1 k1 c. on_piece by_line tt (λ _ h2 k2 _. ends c)))
part_fits while_stat room r = on_piece by_line tt (λ line h k _. on_piece by_exp tt (λ e h1 k1 c. on_piece by_block tt (λ b h2 k2 d. ends (c, d))))
part_fits repeat_stat room r =
    on_piece by_line tt (λ line h k _. on_piece by_block tt (λ b h1 k1 c. on_piece by_line tt (λ _ h2 k2 _. on_piece by_exp tt (λ e h3 k3 d. ends (c, d)))))
part_fits if_stat room r =
    on_piece by_line tt (λ line h k _. on_piece by_arms tt (λ as' h1 k1 c. on_piece by_else tt (λ b h2 k2 d. on_piece by_line tt (λ _ h3 k3 _. ends (if_fits line as' b c d)))))
part_fits arms room r = on_pair by_arm tt (λ e b h k c. only_part (more_arms ((e, b) ∷ []) h) (c.0, (c.1, tt)))
part_fits (more_arms as' height) room r =
    picks (λ t l. either (is_word ELSEIF t.0) (passes (on_pair by_arm tt (λ e b h k c. only_part (more_arms (as' ++ (e, b) ∷ []) (max height h)) (arms_more all_texts as' e b r c.0 c.1)))) (ends r))
part_fits arm room r = on_piece by_exp tt (λ e h k c. on_piece by_line tt (λ _ h1 k1 _. on_piece by_block tt (λ b h2 k2 d. ends (c, d))))
part_fits else_part room r = picks (λ t l. either (is_word ELSE t.0) (on_piece by_line tt (λ _ h k _. on_piece by_block tt (λ b h1 k1 c. ends c))) (ends tt))
part_fits for_stat room r =
    on_piece by_line tt (λ line h k _. on_piece by_name tt (λ x h1 k1 c. picks (λ t m. either (is_word ASSIGN t.0) (only_part (numeric line x) c) (only_part (generic line x) c))))
part_fits (numeric line x) room r =
    on_piece by_line tt (λ _ h k _. on_piece by_exp tt (λ a h1 k1 c. on_piece by_line tt (λ _ h2 k2 _. on_piece by_exp tt (λ b h3 k3 d. on_piece by_step tt (λ e h4 k4 f. on_piece by_block tt (λ inner h5 k5 g.
    ends (for_fits line x a b e inner r c d f g)))))))
part_fits step room r = picks (λ t l. either (is_word COMMA t.0) (passes (on_piece by_exp tt (λ e h k c. ends c))) (ends tt))
part_fits (generic line x) room r =
    on_piece by_names (r, tt) (λ xs h k c. on_piece by_line tt (λ _ h1 k1 _. on_piece by_exps tt (λ es h2 k2 d. on_piece by_block tt (λ b h3 k3 e. ends (c, (d, e))))))
part_fits (more_names xs) room r =
    picks (λ t l. either (is_word COMMA t.0) (passes (on_piece by_name tt (λ x h k c. only_part (more_names (xs ++ x ∷ [])) (more_names_fit xs x r c)))) (ends r))
part_fits function_stat room r =
    on_piece by_line tt (λ line h k _. on_pair by_target tt (λ target own h1 k1 c. on_piece by_body c.1 (λ b h2 k2 d. ends ((c.0, tt), (d, tt)))))
part_fits function_name room r =
    on_piece by_name tt (λ x h k c. on_piece by_exp c (λ e h1 k1 d. picks (λ t l. either (is_word COLON t.0) (on_piece by_exp d (λ target h2 k2 f. ends (f, (refl, tt)))) (ends (d, tt)))))
part_fits (path left height) room r = picks (λ t l. either (is_word DOT t.0) (on_piece by_exp r (λ e h k c. only_part (path e h) c)) (ends r))
part_fits local_stat room r = on_piece by_line tt (λ line h k _. picks (λ t m. either (is_word FUNCTION t.0) (only_part (local_function line) tt) (only_part (local_names line) tt)))
part_fits (local_function line) room r = on_piece by_line tt (λ own h k _. on_piece by_name tt (λ x h1 k1 c. on_piece by_body tt (λ b h2 k2 d. ends (c, d))))
part_fits (local_names line) room r = on_piece by_declared tt (λ d h k c. on_piece by_all_declared (c, tt) (λ ds h1 k1 e. on_piece by_exps tt (λ es h2 k2 f. ends (e, f))))
part_fits (more_declared ds) room r =
    picks (λ t l. either (is_word COMMA t.0) (passes (on_piece by_declared tt (λ d h k c. only_part (more_declared (ds ++ d ∷ [])) (more_declared_fit ds d r c)))) (ends r))
part_fits declared room r =
    on_piece by_name tt (λ x h k c. picks (λ t l. either (is_word LESS t.0) (passes (on_piece by_name tt (λ a h1 k1 d. on_piece by_line tt (λ _ h2 k2 _. ends c)))) (ends c)))
part_fits values room r = picks (λ t l. either (is_word ASSIGN t.0) (passes (only_part explist tt)) (ends tt))
part_fits prefix_stat room r =
    picks (λ t l. on_piece by_exp tt (λ e h k c. either (is_call e) (ends c) (either (is_target e) (only_part (assignment t.1 e h) c) refuses)))
part_fits (assignment line first height) room r =
    on_piece by_exps (r, tt) (λ ts h k c. on_piece by_line tt (λ _ h1 k1 _. on_piece by_exps tt (λ es h2 k2 d. ends (c, d))))
part_fits (more_targets ts height) room r =
    picks (λ t l. either (is_word COMMA t.0)
    (passes (on_piece by_exp tt (λ e h k c. either (is_target e) (only_part (more_targets (ts ++ e ∷ []) (max height h)) (exps_more all_texts ts e r c)) refuses))) (ends r))
