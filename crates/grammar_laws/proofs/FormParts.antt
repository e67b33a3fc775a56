-- What each part of a source gives is formed.
use Rattle.std.proofs.Common.{◌≡◌, ℕ, ◌<◌, max, Bool, true, false, List, [], ◌∷◌, ◌++◌, length, Option, Some, None, arith}
use Rattle.std.specs.Prelude.{nat_lt, ◌&&◌, if◌then◌else◌}
use Rattle.tree_core.specs.declared.name.Name.{Name}
use Rattle.tree_core.specs.declared.operator.UnOp.{UnOp}
use Rattle.tree_core.specs.Tree as tree
use Rattle.tree_core.specs.Plain.{block_of, if_of, num_for_of}
use Rattle.tree_terms.specs.Asked.{ExpMeets, StatMeets, ArmsMeet, StatsMeet}
use Rattle.tree_making.specs.Made.{above, joined}
use Rattle.tree_making.specs.Form.{is_target, is_call, variable_of}
use Rattle.tree_making.specs.declared.operator.Infix.{Infix}
use Rattle.tree_making.specs.declared.operator.Infix.TheVariants as joining
use Rattle.lua_lex.specs.Lexical.{is_end}
use Rattle.lua_lex.specs.declared.token.Token.{Token}
use Rattle.lua_lex.specs.declared.token.Token.TheVariants as token
use Rattle.token_cursor.specs.declared.level.Level.{Level}
use Rattle.token_cursor.specs.declared.level.Level.TheVariants.{Or, And}
use Rattle.token_cursor.specs.declared.start.Start.{Start}
use Rattle.token_cursor.specs.declared.start.Start.TheVariants as start
use Rattle.token_cursor.specs.declared.word.TheConstants.{ELSE, ELSEIF, FUNCTION, RETURN, FALSE, NIL, TRUE, LESS, ASSIGN, OPEN_ROUND, CLOSE_ROUND, OPEN_CURLY, CLOSE_CURLY, OPEN_SQUARE, SEMICOLON, COLON, COMMA, DOT, DOTS}
use Rattle.token_cursor.specs.Words.{Lexeme, is_word, is_string, name_of, string_of, ends_block, begins_suffix, is_separator, operator_of, unary_of, start_of}
use Rattle.lua_parse.specs.Words.{literal, constant_of}
use Rattle.lua_parse.specs.Moves.{an_exp, Part, chunk, word, opener, name, chain, behind, unary, simple, table, more_fields, separated_field, field, keyed, item, prefix, primary, paren, suffixes, suffix, dotted, indexed, method, call, method_arguments, arguments, listed, string_argument, explist, more_exps, body, params, more_params, block, items, returned, stat, label_stat, goto_stat, do_stat, while_stat, repeat_stat, if_stat, arms, more_arms, arm, else_part, do_block, for_stat, numeric, step, generic, more_names, function_stat, function_name, path, local_stat, local_function, local_names, more_declared, declared, values, prefix_stat, assignment, more_targets, Move}
use Rattle.lua_parse.specs.Grammar.{expects, name_move, constant_move, operand, right_operand, operator_move, unary_move, string_move, item_move, stat_move}
use Rattle.grammar_laws.proofs.Operands.{operand_has, right_has}
use Rattle.grammar_laws.specs.Formed.{IsCall, IsNameOrIndex, AreTargets, BlockIsFormed, all_formed}
use Rattle.grammar_laws.proofs.FormKeeping.{IsFormedBy, StandsFormed, FrontIsFormed, GivesFormed}
use Rattle.grammar_laws.proofs.Pieces.{by_line, by_name, by_names, by_declared, by_all_declared, by_exp, by_step, by_exps, by_field, by_fields, by_arms, by_stat, by_block, by_else, by_body, by_params, by_target, by_arm}
use Rattle.grammar_laws.proofs.Walk.{picks, passes, refuses, reads, ends, either, either_by, passes_if, only_reads, on_piece, on_pair, on_some_items}
use Rattle.grammar_laws.proofs.Asking.{MaybeMeets, ElseMeets, ValuesMeet, exps_more, fields_more, stats_more, arms_more}

-- what the tests on expressions say

call_is : (e : tree.Exp) → is_call e ≡ true → IsCall e
call_is (tree.Call line f es) is = tt
call_is (tree.Method line object x es) is = tt
call_is _ is = absurd cc

target_is : (e : tree.Exp) → is_target e ≡ true → IsNameOrIndex e
target_is (tree.Var line x) is = tt
target_is (tree.Index line object key) is = tt
target_is _ is = absurd cc

-- lists that grew by one item

more_targets_formed : (es : List tree.Exp) (e : tree.Exp) → AreTargets (tree.exps es) → IsNameOrIndex e → AreTargets (tree.exps (es ++ e ∷ []))
more_targets_formed [] e h k = (k, tt)
more_targets_formed (d ∷ es) e h k = (h.0, more_targets_formed es e h.1 k)

is_some : (xs : List Name) (x : Name) → 0 < length (xs ++ x ∷ [])
is_some [] x = omega arith
is_some (y ∷ xs) x = omega arith

-- expressions of one token

constant_if : (b : Bool) (o p : Option tree.Exp) → MaybeMeets all_formed o → MaybeMeets all_formed p → MaybeMeets all_formed (if b then o else p)
constant_if true o p h k = h
constant_if false o p h k = k

literal_formed : (t : Token) (line : ℕ) → MaybeMeets all_formed (literal t line)
literal_formed (token.Int n) line = tt
literal_formed (token.Str bytes) line = tt
literal_formed _ line = tt

constant_formed : (t : Lexeme) → MaybeMeets all_formed (constant_of t)
constant_formed t =
    constant_if (is_word NIL t.0) _ _ tt (constant_if (is_word TRUE t.0) _ _ tt (constant_if (is_word FALSE t.0) _ _ tt (constant_if (is_word DOTS t.0) _ _ tt (literal_formed t.0 t.1))))

constant_gives : {room : ℕ} {other : Move} (o : Option tree.Exp) → MaybeMeets all_formed o → GivesFormed simple room other → GivesFormed simple room (constant_move o other)
constant_gives None h k = k
constant_gives (Some e) h k = passes (ends h)

-- operators

joined_formed : (op : Infix) (line : ℕ) (a b : tree.Exp) → ExpMeets all_formed a → ExpMeets all_formed b → ExpMeets all_formed (joined op line a b)
joined_formed joining.Or line a b h k = (h, k)
joined_formed joining.And line a b h k = (h, k)
joined_formed (joining.Binary op) line a b h k = (h, k)

operand_stands : (level : Level) → StandsFormed (operand level)
operand_stands level = operand_has StandsFormed (λ level. tt) tt level

operand_formed : (level : Level) (e : tree.Exp) → IsFormedBy (operand level) (an_exp e) → ExpMeets all_formed e
operand_formed level e = operand_has (λ part. IsFormedBy part (an_exp e) → ExpMeets all_formed e) (λ level h. h) (λ h. h) level

right_stands : (level : Level) → StandsFormed (right_operand level)
right_stands level = right_has StandsFormed (λ level. tt) tt level

right_formed : (level : Level) (e : tree.Exp) → IsFormedBy (right_operand level) (an_exp e) → ExpMeets all_formed e
right_formed level e = right_has (λ part. IsFormedBy part (an_exp e) → ExpMeets all_formed e) (λ level h. h) (λ h. h) level

operator_gives : (room : ℕ) (level : Level) (left : tree.Exp) (height line : ℕ) (o : Option Infix) → ExpMeets all_formed left → GivesFormed (behind level left height) room (operator_move room level left height line o)
operator_gives room level left height line None c = ends c
operator_gives room level left height line (Some op) c =
    passes_if (nat_lt height room) (on_piece by_exp (right_stands level) (λ e h k d. only_reads (behind level (joined op line left e) (above height h)) (joined_formed op line left e c (right_formed level e d)) (λ p q. q)))

unary_gives : (room line : ℕ) (o : Option UnOp) → GivesFormed unary room (unary_move room line o)
unary_gives room line None = only_reads simple tt (λ p q. q)
unary_gives room line (Some op) = passes_if (nat_lt 0 room) (on_piece by_exp tt (λ e h k c. ends c))

name_gives : {room : ℕ} (line : ℕ) (o : Option (List ℕ)) → GivesFormed name room (name_move line o)
name_gives line None = refuses
name_gives line (Some text) = passes (ends tt)

string_gives : {room : ℕ} (line : ℕ) (o : Option (List ℕ)) → GivesFormed string_argument room (string_move line o)
string_gives line None = refuses
string_gives line (Some bytes) = passes (ends (tt, tt))

item_gives : (room : ℕ) (o : Option Name) → GivesFormed item room (item_move room o)
item_gives room None = refuses
item_gives room (Some x) = passes (on_piece by_exp tt (λ value h k c. ends (tt, c)))

start_gives : (room line : ℕ) (s : Start) → GivesFormed stat room (stat_move room line s)
start_gives room line start.Empty = passes (ends tt)
start_gives room line start.Label = only_reads label_stat tt (λ p q. q)
start_gives room line start.Break = passes (ends tt)
start_gives room line start.Goto = only_reads goto_stat tt (λ p q. q)
start_gives room line start.Do = only_reads do_stat tt (λ p q. q)
start_gives room line start.While = only_reads while_stat tt (λ p q. q)
start_gives room line start.Repeat = only_reads repeat_stat tt (λ p q. q)
start_gives room line start.If = only_reads if_stat tt (λ p q. q)
start_gives room line start.For = only_reads for_stat tt (λ p q. q)
start_gives room line start.Function = only_reads function_stat tt (λ p q. q)
start_gives room line start.Local = only_reads local_stat tt (λ p q. q)
start_gives room line start.Prefix = only_reads prefix_stat tt (λ p q. q)

-- statements of parts that may be missing

block_formed : (ss : List tree.Stat) (es : Option (List tree.Exp)) (tokens line : ℕ) → StatsMeet all_formed (tree.stats ss) → ValuesMeet all_formed es → BlockIsFormed (block_of ss es tokens line)
block_formed ss None tokens line h k = h
block_formed ss (Some es) tokens line h k = (h, k)

if_formed : (line : ℕ) (as' : List (tree.Exp × tree.Block)) (b : Option tree.Block) → ArmsMeet all_formed (tree.arms as') → ElseMeets all_formed b → StatMeets all_formed (if_of line as' b)
if_formed line as' None h k = h
if_formed line as' (Some b) h k = (h, k)

for_formed : (line : ℕ) (x : Name) (a b : tree.Exp) (c : Option tree.Exp) (inner : tree.Block) → ExpMeets all_formed a → ExpMeets all_formed b → MaybeMeets all_formed c → BlockIsFormed inner
    → StatMeets all_formed (num_for_of line x a b c inner)
for_formed line x a b None inner h k i j = (h, (k, j))
for_formed line x a b (Some c) inner h k i j = (h, (k, (i, j)))

pub part_gives : (part : Part) (room : ℕ) → FrontIsFormed part room → GivesFormed part room (expects room part)
part_gives chunk room r = on_piece by_block tt (λ b h k c. picks (λ t l. passes_if (is_end t.0) (ends c)))
part_gives (word w) room r = picks (λ t l. passes_if (is_word w t.0) (ends tt))
part_gives (opener w height) room r = picks (λ t l. passes_if (is_word w t.0 && nat_lt height room) (ends tt))
part_gives name room r = picks (λ t l. name_gives t.1 (name_of t.0))
part_gives (chain level) room r = on_piece by_exp (operand_stands level) (λ e h k c. only_reads (behind level e h) (operand_formed level e c) (λ p q. q))
part_gives (behind level left height) room r = picks (λ t l. operator_gives room level left height t.1 (operator_of level t.0) r)
part_gives unary room r = picks (λ t l. unary_gives room t.1 (unary_of t.0))
part_gives simple room r =
    picks (λ t l. constant_gives (constant_of t) (constant_formed t) (either (is_word FUNCTION t.0) (passes (on_piece by_body tt (λ b h k c. ends c)))
    (either (is_word OPEN_CURLY t.0) (only_reads table tt (λ p q. q)) (only_reads prefix tt (λ p q. q)))))
part_gives table room r = on_piece by_line tt (λ line h k _. on_piece by_fields tt (λ fs h1 k1 c. ends c))
part_gives (more_fields fs height) room r =
    picks (λ t l. either (is_word CLOSE_CURLY t.0) (passes (ends r))
    (on_piece by_field tt (λ f h k c. only_reads (more_fields (fs ++ f ∷ []) (max height h)) (fields_more all_formed fs f r c) (λ p q. q))))
part_gives separated_field room r = on_piece by_field tt (λ f h k c. picks (λ t l. either (is_separator t.0) (passes (ends c)) (either (is_word CLOSE_CURLY t.0) (ends c) refuses)))
part_gives field room r = picks (λ t l. either (is_word OPEN_SQUARE t.0) (only_reads keyed tt (λ p q. q)) (only_reads item tt (λ p q. q)))
part_gives keyed room r =
    on_piece by_line tt (λ line h k _. on_piece by_exp tt (λ key h1 k1 c. on_piece by_line tt (λ _ h2 k2 _. on_piece by_line tt (λ _ h3 k3 _. on_piece by_exp tt (λ value h4 k4 d. ends (c, d))))))
part_gives item room r = on_piece by_exp tt (λ e h k c. picks (λ t l. either (is_word ASSIGN t.0) (item_gives room (variable_of e)) (ends c)))
part_gives prefix room r = on_piece by_exp tt (λ e h k c. only_reads (suffixes e h) c (λ p q. q))
part_gives primary room r = picks (λ t l. either (is_word OPEN_ROUND t.0) (only_reads paren tt (λ p q. q)) (on_piece by_name tt (λ x h k _. ends tt)))
part_gives paren room r = on_piece by_line tt (λ line h k _. on_piece by_exp tt (λ e h1 k1 c. on_piece by_line tt (λ _ h2 k2 _. ends c)))
part_gives (suffixes left height) room r = picks (λ t l. either (begins_suffix t.0) (on_piece by_exp r (λ e h k c. only_reads (suffixes e h) c (λ p q. q))) (ends r))
part_gives (suffix left height) room r =
    picks (λ t l. either (is_word DOT t.0) (only_reads (dotted DOT left height) r (λ p q. q.1)) (either (is_word OPEN_SQUARE t.0) (only_reads (indexed left height) r (λ p q. q))
    (either (is_word COLON t.0) (only_reads (method left height) r (λ p q. q)) (only_reads (call left height) r (λ p q. q)))))
part_gives (dotted w left height) room r = on_piece by_line tt (λ line h k _. on_piece by_name tt (λ x h1 k1 _. ends (tt, (r, tt))))
part_gives (indexed left height) room r = on_piece by_line tt (λ line h k _. on_piece by_exp tt (λ e h1 k1 c. on_piece by_line tt (λ _ h2 k2 _. ends (r, c))))
part_gives (method left height) room r = on_piece by_line tt (λ _ h k _. on_piece by_name tt (λ x h1 k1 _. picks (λ t l. on_piece by_exps tt (λ es h2 k2 c. ends (r, c)))))
part_gives (call left height) room r = picks (λ t l. either (nat_lt height room) (on_piece by_exps tt (λ es h k c. ends (r, c))) refuses)
part_gives method_arguments room r =
    picks (λ t l. either (is_string t.0) (only_reads arguments tt (λ p q. q)) (either (nat_lt 0 room) (reads tt (λ p h k c. ends c)) refuses))
part_gives arguments room r =
    picks (λ t l. either (is_word OPEN_ROUND t.0) (passes (only_reads listed tt (λ p q. q)))
    (either (is_word OPEN_CURLY t.0) (passes (on_piece by_fields tt (λ fs h k c. ends (c, tt)))) (only_reads string_argument tt (λ p q. q))))
part_gives string_argument room r = picks (λ t l. string_gives t.1 (string_of t.0))
part_gives listed room r = picks (λ t l. either (is_word CLOSE_ROUND t.0) (passes (ends tt)) (on_piece by_exps tt (λ es h k c. on_piece by_line tt (λ _ h1 k1 _. ends c))))
part_gives explist room r = on_piece by_exp tt (λ e h k c. only_reads (more_exps (e ∷ []) h) (c, tt) (λ p q. q))
part_gives (more_exps es height) room r =
    picks (λ t l. either (is_word COMMA t.0)
    (passes (on_piece by_exp tt (λ e h k c. only_reads (more_exps (es ++ e ∷ []) (max height h)) (exps_more all_formed es e r c) (λ p q. q)))) (ends r))
part_gives (body line own) room r =
    on_piece by_line tt (λ _ h k _. on_pair by_params tt (λ xs vararg h1 k1 _. on_piece by_line tt (λ _ h2 k2 _. on_piece by_block tt (λ b h3 k3 c. on_piece by_line tt (λ _ h4 k4 _. ends c)))))
part_gives (params own) room r = picks (λ t l. either (is_word CLOSE_ROUND t.0) (ends tt) (only_reads (more_params own) tt (λ p q. q)))
part_gives (more_params xs) room r =
    picks (λ t l. either (is_word DOTS t.0) (passes (ends tt)) (on_piece by_name tt (λ x h k _. picks (λ u m. either (is_word COMMA u.0)
    (passes (only_reads (more_params (xs ++ x ∷ [])) tt (λ p q. q))) (ends tt)))))
part_gives block room r = on_some_items tt (λ ss es line h k c. ends (block_formed ss es k line c.0 c.1))
part_gives (items ss height) room r =
    picks (λ t l. either (is_word RETURN t.0) (passes (on_piece by_exps tt (λ es h k c. ends (r, c)))) (either (ends_block t.0) (ends (r, tt))
    (on_piece by_stat tt (λ s h k c. only_reads (items (ss ++ s ∷ []) (max height h)) (stats_more all_formed ss s r c) (λ p q. q)))))
part_gives returned room r =
    picks (λ t l. either (ends_block t.0) (ends tt) (either (is_word SEMICOLON t.0) (passes (ends tt))
    (on_piece by_exps tt (λ es h k c. picks (λ u m. either (is_word SEMICOLON u.0) (passes (ends c)) (ends c))))))
part_gives stat room r = picks (λ t l. start_gives room t.1 (start_of t.0))
part_gives label_stat room r = on_piece by_line tt (λ line h k _. on_piece by_name tt (λ x h1 k1 _. on_piece by_line tt (λ _ h2 k2 _. ends tt)))
part_gives goto_stat room r = on_piece by_line tt (λ line h k _. on_piece by_name tt (λ x h1 k1 _. ends tt))
part_gives do_stat room r = picks (λ t l. on_piece by_block tt (λ b h k c. ends c))
part_gives do_block room r = on_piece by_line tt (λ _ h k _. on_piece by_block tt (λ b h1 k1 c. on_piece by_line tt (λ _ h2 k2 _. ends c)))
part_gives while_stat room r = on_piece by_line tt (λ line h k _. on_piece by_exp tt (λ e h1 k1 c. on_piece by_block tt (λ b h2 k2 d. ends (c, d))))
part_gives repeat_stat room r =
    on_piece by_line tt (λ line h k _. on_piece by_block tt (λ b h1 k1 c. on_piece by_line tt (λ _ h2 k2 _. on_piece by_exp tt (λ e h3 k3 d. ends (c, d)))))
part_gives if_stat room r =
    on_piece by_line tt (λ line h k _. on_piece by_arms tt (λ as' h1 k1 c. on_piece by_else tt (λ b h2 k2 d. on_piece by_line tt (λ _ h3 k3 _. ends (if_formed line as' b c d)))))
part_gives arms room r = on_pair by_arm tt (λ e b h k c. only_reads (more_arms ((e, b) ∷ []) h) (c.0, (c.1, tt)) (λ p q. q))
part_gives (more_arms as' height) room r =
    picks (λ t l. either (is_word ELSEIF t.0)
    (passes (on_pair by_arm tt (λ e b h k c. only_reads (more_arms (as' ++ (e, b) ∷ []) (max height h)) (arms_more all_formed as' e b r c.0 c.1) (λ p q. q)))) (ends r))
part_gives arm room r = on_piece by_exp tt (λ e h k c. on_piece by_line tt (λ _ h1 k1 _. on_piece by_block tt (λ b h2 k2 d. ends (c, d))))
part_gives else_part room r = picks (λ t l. either (is_word ELSE t.0) (on_piece by_line tt (λ _ h k _. on_piece by_block tt (λ b h1 k1 c. ends c))) (ends tt))
part_gives for_stat room r =
    on_piece by_line tt (λ line h k _. on_piece by_name tt (λ x h1 k1 _. picks (λ t l. either (is_word ASSIGN t.0)
    (only_reads (numeric line x) tt (λ p q. q)) (only_reads (generic line x) tt (λ p q. q)))))
part_gives (numeric line x) room r =
    on_piece by_line tt (λ _ h k _. on_piece by_exp tt (λ a h1 k1 c. on_piece by_line tt (λ _ h2 k2 _. on_piece by_exp tt (λ b h3 k3 d. on_piece by_step tt (λ e h4 k4 f. on_piece by_block tt (λ inner h5 k5 g.
    ends (for_formed line x a b e inner c d f g)))))))
part_gives step room r = picks (λ t l. either (is_word COMMA t.0) (passes (on_piece by_exp tt (λ e h k c. ends c))) (ends tt))
part_gives (generic line x) room r =
    on_piece by_names (omega arith) (λ xs h k c. on_piece by_line tt (λ _ h1 k1 _. on_piece by_exps tt (λ es h2 k2 d. on_piece by_block tt (λ b h3 k3 e. ends (c, (d, e))))))
part_gives (more_names xs) room r =
    picks (λ t l. either (is_word COMMA t.0) (passes (on_piece by_name tt (λ x h k _. only_reads (more_names (xs ++ x ∷ [])) (is_some xs x) (λ p q. q)))) (ends r))
part_gives function_stat room r =
    on_piece by_line tt (λ line h k _. on_pair by_target tt (λ target own h1 k1 c. on_piece by_body tt (λ b h2 k2 d. ends ((c.0, tt), ((c.1, tt), (d, tt))))))
part_gives function_name room r =
    on_piece by_name tt (λ x h k _. on_piece by_exp (tt, tt) (λ e h1 k1 c. picks (λ t l. either (is_word COLON t.0) (on_piece by_exp c.1 (λ target h2 k2 d. ends d)) (ends c))))
part_gives (path left height) room r =
    picks (λ t l. either (is_word DOT t.0) (on_piece by_exp r.1 (λ e h k c. only_reads (path e h) c (λ p q. q))) (ends r))
part_gives local_stat room r =
    on_piece by_line tt (λ line h k _. picks (λ t l. either (is_word FUNCTION t.0) (only_reads (local_function line) tt (λ p q. q)) (only_reads (local_names line) tt (λ p q. q))))
part_gives (local_function line) room r = on_piece by_line tt (λ own h k _. on_piece by_name tt (λ x h1 k1 _. on_piece by_body tt (λ b h2 k2 c. ends c)))
part_gives (local_names line) room r = on_piece by_declared tt (λ d h k _. on_piece by_all_declared tt (λ ds h1 k1 _. on_piece by_exps tt (λ es h2 k2 c. ends c)))
part_gives (more_declared ds) room r =
    picks (λ t l. either (is_word COMMA t.0) (passes (on_piece by_declared tt (λ d h k _. only_reads (more_declared (ds ++ d ∷ [])) tt (λ p q. q)))) (ends tt))
part_gives declared room r =
    on_piece by_name tt (λ x h k _. picks (λ t l. either (is_word LESS t.0) (passes (on_piece by_name tt (λ a h1 k1 _. on_piece by_line tt (λ _ h2 k2 _. ends tt)))) (ends tt)))
part_gives values room r = picks (λ t l. either (is_word ASSIGN t.0) (passes (only_reads explist tt (λ p q. q))) (ends tt))
part_gives prefix_stat room r =
    picks (λ t l. on_piece by_exp tt (λ e h k c. either_by (is_call e) (λ is. ends (call_is e is, c))
    (either_by (is_target e) (λ is. only_reads (assignment t.1 e h) (target_is e is, c) (λ p q. q)) refuses)))
part_gives (assignment line first height) room r =
    on_piece by_exps ((r.0, tt), (r.1, tt)) (λ ts h k c. on_piece by_line tt (λ _ h1 k1 _. on_piece by_exps tt (λ es h2 k2 d. ends (c.0, (c.1, d)))))
part_gives (more_targets ts height) room r =
    picks (λ t l. either (is_word COMMA t.0)
    (passes (on_piece by_exp tt (λ e h k c. either_by (is_target e)
    (λ is. only_reads (more_targets (ts ++ e ∷ []) (max height h)) (more_targets_formed ts e r.0 (target_is e is), exps_more all_formed ts e r.1 c) (λ p q. q)) refuses))) (ends r))
