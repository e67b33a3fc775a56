-- The parts of a source have only lines of tokens.
use Rattle.std.proofs.Common.{ℕ, ◌≤◌, max, Bool, true, false, List, [], ◌∷◌, ◌++◌, Option, Some, None}
use Rattle.std.specs.Prelude.{IfSome, nat_lt, ◌&&◌, if◌then◌else◌}
use Rattle.tree_core.specs.declared.name.Name.{Name}
use Rattle.tree_core.specs.declared.name.Declared.{Declared}
use Rattle.tree_core.specs.declared.operator.UnOp.{UnOp}
use Rattle.tree_core.specs.Tree as tree
use Rattle.tree_core.specs.Plain.{block_of, if_of, num_for_of}
use Rattle.tree_making.specs.Made.{above, joined}
use Rattle.tree_making.specs.Form.{is_target, is_call, variable_of}
use Rattle.tree_making.specs.declared.operator.Infix.{Infix}
use Rattle.tree_making.specs.declared.operator.Infix.TheVariants as joining
use Rattle.lua_lex.specs.Lexical.{is_end}
use Rattle.lua_lex.specs.declared.token.Token.{Token}
use Rattle.lua_lex.specs.declared.token.Token.TheVariants as token
use Rattle.token_cursor.specs.declared.level.Level.{Level}
use Rattle.token_cursor.specs.declared.level.Level.TheVariants.{Or, And}
use Rattle.token_cursor.specs.declared.start.Start.{Start}
use Rattle.token_cursor.specs.declared.start.Start.TheVariants as start
use Rattle.token_cursor.specs.declared.word.TheConstants.{ELSE, ELSEIF, FUNCTION, RETURN, FALSE, NIL, TRUE, LESS, ASSIGN, OPEN_ROUND, CLOSE_ROUND, OPEN_CURLY, CLOSE_CURLY, OPEN_SQUARE, SEMICOLON, COLON, COMMA, DOT, DOTS}
use Rattle.token_cursor.specs.Words.{Lexeme, is_word, is_string, name_of, string_of, ends_block, begins_suffix, is_separator, operator_of, unary_of, start_of}
use Rattle.lua_parse.specs.Words.{literal, constant_of}
use Rattle.lua_parse.specs.Moves.{Part, chunk, word, opener, name, chain, behind, unary, simple, table, more_fields, separated_field, field, keyed, item, prefix, primary, paren, suffixes, suffix, dotted, indexed, method, call, method_arguments, arguments, listed, string_argument, explist, more_exps, body, params, more_params, block, items, returned, stat, label_stat, goto_stat, do_stat, while_stat, repeat_stat, if_stat, arms, more_arms, arm, else_part, do_block, for_stat, numeric, step, generic, more_names, function_stat, function_name, path, local_stat, local_function, local_names, more_declared, declared, values, prefix_stat, assignment, more_targets, Move}
use Rattle.lua_parse.specs.Grammar.{expects, name_move, constant_move, operand, right_operand, operator_move, unary_move, string_move, item_move, stat_move, only}
use Rattle.grammar_laws.proofs.Operands.{operand_has, right_has}
use Rattle.grammar_laws.specs.Lines.{NamesAreWithin, DeclaredIsWithin, DeclaredAreWithin, ExpIsWithin, ExpsAreWithin, FieldsAreWithin, FieldIsWithin, StatIsWithin, ArmsAreWithin, StatsAreWithin, BlockIsWithin}
use Rattle.grammar_laws.proofs.LineKeeping.{StandsWithin, FrontIsWithin, Stays}
use Rattle.grammar_laws.proofs.Pieces.{by_line, by_name, by_names, by_declared, by_all_declared, by_exp, by_step, by_exps, by_field, by_fields, by_arms, by_stat, by_block, by_else, by_body, by_params, by_target, by_arm}
use Rattle.grammar_laws.proofs.Walk.{picks, passes, refuses, reads, ends, either, passes_if, only_reads, on_piece, on_pair, on_some_items}

module _ (most : ℕ) where
  only_part : {goal : Part} {limit room : ℕ} (part : Part) → StandsWithin most part → Stays most goal limit (only part room)
  only_part part ready = only_reads part ready (λ p c. c)

  -- lists that grew by one item

  more_names_within : (xs : List Name) (x : Name) → NamesAreWithin most xs → x.line ≤ most → NamesAreWithin most (xs ++ x ∷ [])
  more_names_within [] x h k = (k, tt)
  more_names_within (y ∷ xs) x h k = (h.0, more_names_within xs x h.1 k)

  more_declared_within : (ds : List Declared) (d : Declared) → DeclaredAreWithin most ds → DeclaredIsWithin most d → DeclaredAreWithin most (ds ++ d ∷ [])
  more_declared_within [] d h k = (k, tt)
  more_declared_within (c ∷ ds) d h k = (h.0, more_declared_within ds d h.1 k)

  more_exps_within : (es : List tree.Exp) (e : tree.Exp) → ExpsAreWithin most (tree.exps es) → ExpIsWithin most e → ExpsAreWithin most (tree.exps (es ++ e ∷ []))
  more_exps_within [] e h k = (k, tt)
  more_exps_within (d ∷ es) e h k = (h.0, more_exps_within es e h.1 k)

  more_fields_within : (fs : List tree.Field) (f : tree.Field) → FieldsAreWithin most (tree.fields fs) → FieldIsWithin most f → FieldsAreWithin most (tree.fields (fs ++ f ∷ []))
  more_fields_within [] f h k = (k, tt)
  more_fields_within (g ∷ fs) f h k = (h.0, more_fields_within fs f h.1 k)

  more_stats_within : (ss : List tree.Stat) (s : tree.Stat) → StatsAreWithin most (tree.stats ss) → StatIsWithin most s → StatsAreWithin most (tree.stats (ss ++ s ∷ []))
  more_stats_within [] s h k = (k, tt)
  more_stats_within (r ∷ ss) s h k = (h.0, more_stats_within ss s h.1 k)

  more_arms_within : (as' : List (tree.Exp × tree.Block)) (e : tree.Exp) (b : tree.Block) → ArmsAreWithin most (tree.arms as') → ExpIsWithin most e → BlockIsWithin most b
      → ArmsAreWithin most (tree.arms (as' ++ (e, b) ∷ []))
  more_arms_within [] e b h k l = (k, l, tt)
  more_arms_within (a ∷ as') e b h k l = (h.0, h.1, more_arms_within as' e b h.2 k l)

  -- expressions of one token

  constant_if : (b : Bool) (o p : Option tree.Exp) → IfSome o (ExpIsWithin most) → IfSome p (ExpIsWithin most) → IfSome (if b then o else p) (ExpIsWithin most)
  constant_if true o p h k = h
  constant_if false o p h k = k

  literal_within : (t : Token) (line : ℕ) → line ≤ most → IfSome (literal t line) (ExpIsWithin most)
  literal_within (token.Int n) line h = h
  literal_within (token.Str bytes) line h = h
  literal_within _ line h = tt

  constant_within : (t : Lexeme) → t.1 ≤ most → IfSome (constant_of t) (ExpIsWithin most)
  constant_within t h =
      constant_if (is_word NIL t.0) _ _ h (constant_if (is_word TRUE t.0) _ _ h (constant_if (is_word FALSE t.0) _ _ h (constant_if (is_word DOTS t.0) _ _ h (literal_within t.0 t.1 h))))

  constant_stays : {room : ℕ} {other : Move} (o : Option tree.Exp) → IfSome o (ExpIsWithin most) → Stays most simple room other → Stays most simple room (constant_move o other)
  constant_stays None h k = k
  constant_stays (Some e) h k = passes (ends h)

  -- operators

  joined_within : (op : Infix) (line : ℕ) (a b : tree.Exp) → line ≤ most → ExpIsWithin most a → ExpIsWithin most b → ExpIsWithin most (joined op line a b)
  joined_within joining.Or line a b l h k = (l, h, k)
  joined_within joining.And line a b l h k = (l, h, k)
  joined_within (joining.Binary op) line a b l h k = (l, h, k)

  operand_stands : (level : Level) → StandsWithin most (operand level)
  operand_stands level = operand_has (StandsWithin most) (λ level. tt) tt level

  right_stands : (level : Level) → StandsWithin most (right_operand level)
  right_stands level = right_has (StandsWithin most) (λ level. tt) tt level

  operator_stays : (room : ℕ) (level : Level) (left : tree.Exp) (height line : ℕ) (o : Option Infix) → line ≤ most → ExpIsWithin most left → Stays most (behind level left height) room (operator_move room level left height line o)
  operator_stays room level left height line None l h = ends h
  operator_stays room level left height line (Some op) l h =
      passes_if (nat_lt height room) (on_piece by_exp (right_stands level) (λ e h' k c. only_part (behind level (joined op line left e) (above height h')) (joined_within op line left e l h c)))

  unary_stays : (room line : ℕ) (o : Option UnOp) → line ≤ most → Stays most unary room (unary_move room line o)
  unary_stays room line None l = only_part simple tt
  unary_stays room line (Some op) l = passes_if (nat_lt 0 room) (on_piece by_exp tt (λ e h k c. ends (l, c)))

  name_stays : {room : ℕ} (line : ℕ) (o : Option (List ℕ)) → line ≤ most → Stays most name room (name_move line o)
  name_stays line None l = refuses
  name_stays line (Some text) l = passes (ends l)

  string_stays : {room : ℕ} (line : ℕ) (o : Option (List ℕ)) → line ≤ most → Stays most string_argument room (string_move line o)
  string_stays line None l = refuses
  string_stays line (Some bytes) l = passes (ends (l, tt))

  item_stays : (room : ℕ) (e : tree.Exp) → ExpIsWithin most e → Stays most item room (item_move room (variable_of e))
  item_stays room (tree.Var line x) h = passes (on_piece by_exp tt (λ value h' k c. ends (h.1, h.1, c)))
  item_stays room _ h = refuses

  start_stays : (room line : ℕ) (s : Start) → line ≤ most → Stays most stat room (stat_move room line s)
  start_stays room line start.Empty l = passes (ends l)
  start_stays room line start.Label l = only_part label_stat tt
  start_stays room line start.Break l = passes (ends l)
  start_stays room line start.Goto l = only_part goto_stat tt
  start_stays room line start.Do l = only_part do_stat tt
  start_stays room line start.While l = only_part while_stat tt
  start_stays room line start.Repeat l = only_part repeat_stat tt
  start_stays room line start.If l = only_part if_stat tt
  start_stays room line start.For l = only_part for_stat tt
  start_stays room line start.Function l = only_part function_stat tt
  start_stays room line start.Local l = only_part local_stat tt
  start_stays room line start.Prefix l = only_part prefix_stat tt

  -- statements of parts that may be missing

  block_within : (ss : List tree.Stat) (es : Option (List tree.Exp)) (tokens line : ℕ) → line ≤ most → StatsAreWithin most (tree.stats ss) → IfSome es (λ xs. ExpsAreWithin most (tree.exps xs)) → BlockIsWithin most (block_of ss es tokens line)
  block_within ss None tokens line l h k = (l, h)
  block_within ss (Some es) tokens line l h k = (l, h, k)

  if_within : (line : ℕ) (as' : List (tree.Exp × tree.Block)) (b : Option tree.Block) → line ≤ most → ArmsAreWithin most (tree.arms as') → IfSome b (BlockIsWithin most) → StatIsWithin most (if_of line as' b)
  if_within line as' None l h k = (l, h)
  if_within line as' (Some b) l h k = (l, h, k)

  for_within : (line : ℕ) (x : Name) (a b : tree.Exp) (c : Option tree.Exp) (inner : tree.Block) → line ≤ most → x.line ≤ most → ExpIsWithin most a → ExpIsWithin most b → IfSome c (ExpIsWithin most) → BlockIsWithin most inner
      → StatIsWithin most (num_for_of line x a b c inner)
  for_within line x a b None inner l m h k i j = (l, m, h, k, j)
  for_within line x a b (Some c) inner l m h k i j = (l, m, h, k, i, j)

  pub part_stays : (part : Part) (room : ℕ) → FrontIsWithin most part room → Stays most part room (expects room part)
  part_stays chunk room r = on_piece by_block tt (λ b h k c. picks (λ t l. passes_if (is_end t.0) (ends c)))
  part_stays (word w) room r = picks (λ t l. passes_if (is_word w t.0) (ends l))
  part_stays (opener w height) room r = picks (λ t l. passes_if (is_word w t.0 && nat_lt height room) (ends l))
  part_stays name room r = picks (λ t l. name_stays t.1 (name_of t.0) l)
  part_stays (chain level) room r = on_piece by_exp (operand_stands level) (λ e h k c. only_part (behind level e h) c)
  part_stays (behind level left height) room r = picks (λ t l. operator_stays room level left height t.1 (operator_of level t.0) l r)
  part_stays unary room r = picks (λ t l. unary_stays room t.1 (unary_of t.0) l)
  part_stays simple room r =
      picks (λ t l. constant_stays (constant_of t) (constant_within t l) (either (is_word FUNCTION t.0) (passes (on_piece by_body (l, tt) (λ b h k c. ends (l, c))))
      (either (is_word OPEN_CURLY t.0) (only_part table tt) (only_part prefix tt))))
  part_stays table room r = on_piece by_line tt (λ line h k l. on_piece by_fields tt (λ fs h' k' c. ends (l, c)))
  part_stays (more_fields fs height) room r =
      picks (λ t l. either (is_word CLOSE_CURLY t.0) (passes (ends r)) (on_piece by_field tt (λ f h k c. only_part (more_fields (fs ++ f ∷ []) (max height h)) (more_fields_within fs f r c))))
  part_stays separated_field room r = on_piece by_field tt (λ f h k c. picks (λ t l. either (is_separator t.0) (passes (ends c)) (either (is_word CLOSE_CURLY t.0) (ends c) refuses)))
  part_stays field room r = picks (λ t l. either (is_word OPEN_SQUARE t.0) (only_part keyed tt) (only_part item tt))
  part_stays keyed room r =
      on_piece by_line tt (λ line h k l. on_piece by_exp tt (λ key h1 k1 c. on_piece by_line tt (λ _ h2 k2 _. on_piece by_line tt (λ _ h3 k3 _. on_piece by_exp tt (λ value h4 k4 d. ends (l, c, d))))))
  part_stays item room r = on_piece by_exp tt (λ e h k c. picks (λ t l. either (is_word ASSIGN t.0) (item_stays room e c) (ends c)))
  part_stays prefix room r = on_piece by_exp tt (λ e h k c. only_part (suffixes e h) c)
  part_stays primary room r = picks (λ t l. either (is_word OPEN_ROUND t.0) (only_part paren tt) (on_piece by_name tt (λ x h k c. ends (c, c))))
  part_stays paren room r = on_piece by_line tt (λ line h k l. on_piece by_exp tt (λ e h1 k1 c. on_piece by_line tt (λ _ h2 k2 _. ends (l, c))))
  part_stays (suffixes left height) room r = picks (λ t l. either (begins_suffix t.0) (on_piece by_exp r (λ e h k c. only_part (suffixes e h) c)) (ends r))
  part_stays (suffix left height) room r =
      picks (λ t l. either (is_word DOT t.0) (only_part (dotted DOT left height) r) (either (is_word OPEN_SQUARE t.0) (only_part (indexed left height) r)
      (either (is_word COLON t.0) (only_part (method left height) r) (only_part (call left height) r))))
  part_stays (dotted w left height) room r = on_piece by_line tt (λ line h k l. on_piece by_name tt (λ x h1 k1 c. ends (l, r, c)))
  part_stays (indexed left height) room r = on_piece by_line tt (λ line h k l. on_piece by_exp tt (λ e h1 k1 c. on_piece by_line tt (λ _ h2 k2 _. ends (l, r, c))))
  part_stays (method left height) room r = on_piece by_line tt (λ _ h k _. on_piece by_name tt (λ x h1 k1 c. picks (λ t l. on_piece by_exps tt (λ es h2 k2 d. ends (l, r, c, d)))))
  part_stays (call left height) room r = picks (λ t l. either (nat_lt height room) (on_piece by_exps tt (λ es h k c. ends (l, r, c))) refuses)
  part_stays method_arguments room r = picks (λ t l. either (is_string t.0) (only_part arguments tt) (either (nat_lt 0 room) (reads tt (λ p h k c. ends c)) refuses))
  part_stays arguments room r =
      picks (λ t l. either (is_word OPEN_ROUND t.0) (passes (only_part listed tt))
      (either (is_word OPEN_CURLY t.0) (passes (on_piece by_fields tt (λ fs h k c. ends ((l, c), tt)))) (only_part string_argument tt)))
  part_stays string_argument room r = picks (λ t l. string_stays t.1 (string_of t.0) l)
  part_stays listed room r = picks (λ t l. either (is_word CLOSE_ROUND t.0) (passes (ends tt)) (on_piece by_exps tt (λ es h k c. on_piece by_line tt (λ _ h1 k1 _. ends c))))
  part_stays explist room r = on_piece by_exp tt (λ e h k c. only_part (more_exps (e ∷ []) h) (c, tt))
  part_stays (more_exps es height) room r =
      picks (λ t l. either (is_word COMMA t.0) (passes (on_piece by_exp tt (λ e h k c. only_part (more_exps (es ++ e ∷ []) (max height h)) (more_exps_within es e r c)))) (ends r))
  part_stays (body line own) room r =
      on_piece by_line tt (λ _ h k _. on_pair by_params r.1 (λ xs vararg h1 k1 c. on_piece by_line tt (λ _ h2 k2 _. on_piece by_block tt (λ b h3 k3 d. on_piece by_line tt (λ _ h4 k4 _. ends (r.0, c, d))))))
  part_stays (params own) room r = picks (λ t l. either (is_word CLOSE_ROUND t.0) (ends r) (only_part (more_params own) r))
  part_stays (more_params xs) room r =
      picks (λ t l. either (is_word DOTS t.0) (passes (ends r)) (on_piece by_name tt (λ x h k c. picks (λ u m. either (is_word COMMA u.0)
      (passes (only_part (more_params (xs ++ x ∷ [])) (more_names_within xs x r c))) (ends (more_names_within xs x r c))))))
  part_stays block room r = on_some_items tt (λ ss es line h k c. ends (block_within ss es k line c.0 c.1 c.2))
  part_stays (items ss height) room r =
      picks (λ t l. either (is_word RETURN t.0) (passes (on_piece by_exps tt (λ es h k c. ends (l, r, c)))) (either (ends_block t.0) (ends (l, r, tt))
      (on_piece by_stat tt (λ s h k c. only_part (items (ss ++ s ∷ []) (max height h)) (more_stats_within ss s r c)))))
  part_stays returned room r =
      picks (λ t l. either (ends_block t.0) (ends tt) (either (is_word SEMICOLON t.0) (passes (ends tt))
      (on_piece by_exps tt (λ es h k c. picks (λ u m. either (is_word SEMICOLON u.0) (passes (ends c)) (ends c))))))
  part_stays stat room r = picks (λ t l. start_stays room t.1 (start_of t.0) l)
  part_stays label_stat room r = on_piece by_line tt (λ line h k l. on_piece by_name tt (λ x h1 k1 c. on_piece by_line tt (λ _ h2 k2 _. ends (l, c))))
  part_stays goto_stat room r = on_piece by_line tt (λ line h k l. on_piece by_name tt (λ x h1 k1 c. ends (l, c)))
  part_stays do_stat room r = picks (λ t l. on_piece by_block tt (λ b h k c. ends (l, c)))
  part_stays do_block room r = on_piece by_line tt (λ _ h k _. on_piece by_block tt (λ b h1 k1 c. on_piece by_line tt (λ _ h2 k2 _. ends c)))
  part_stays while_stat room r = on_piece by_line tt (λ line h k l. on_piece by_exp tt (λ e h1 k1 c. on_piece by_block tt (λ b h2 k2 d. ends (l, c, d))))
  part_stays repeat_stat room r =
      on_piece by_line tt (λ line h k l. on_piece by_block tt (λ b h1 k1 c. on_piece by_line tt (λ _ h2 k2 _. on_piece by_exp tt (λ e h3 k3 d. ends (l, c, d)))))
  part_stays if_stat room r =
      on_piece by_line tt (λ line h k l. on_piece by_arms tt (λ as' h1 k1 c. on_piece by_else tt (λ b h2 k2 d. on_piece by_line tt (λ _ h3 k3 _. ends (if_within line as' b l c d)))))
  part_stays arms room r = on_pair by_arm tt (λ e b h k c. only_part (more_arms ((e, b) ∷ []) h) (c.0, c.1, tt))
  part_stays (more_arms as' height) room r =
      picks (λ t l. either (is_word ELSEIF t.0) (passes (on_pair by_arm tt (λ e b h k c. only_part (more_arms (as' ++ (e, b) ∷ []) (max height h)) (more_arms_within as' e b r c.0 c.1)))) (ends r))
  part_stays arm room r = on_piece by_exp tt (λ e h k c. on_piece by_line tt (λ _ h1 k1 _. on_piece by_block tt (λ b h2 k2 d. ends (c, d))))
  part_stays else_part room r = picks (λ t l. either (is_word ELSE t.0) (on_piece by_line tt (λ _ h k _. on_piece by_block tt (λ b h1 k1 c. ends c))) (ends tt))
  part_stays for_stat room r =
      on_piece by_line tt (λ line h k l. on_piece by_name tt (λ x h1 k1 c. picks (λ t m. either (is_word ASSIGN t.0) (only_part (numeric line x) (l, c)) (only_part (generic line x) (l, c)))))
  part_stays (numeric line x) room r =
      on_piece by_line tt (λ _ h k _. on_piece by_exp tt (λ a h1 k1 c. on_piece by_line tt (λ _ h2 k2 _. on_piece by_exp tt (λ b h3 k3 d. on_piece by_step tt (λ e h4 k4 f. on_piece by_block tt (λ inner h5 k5 g.
      ends (for_within line x a b e inner r.0 r.1 c d f g)))))))
  part_stays step room r = picks (λ t l. either (is_word COMMA t.0) (passes (on_piece by_exp tt (λ e h k c. ends c))) (ends tt))
  part_stays (generic line x) room r =
      on_piece by_names (r.1, tt) (λ xs h k c. on_piece by_line tt (λ _ h1 k1 _. on_piece by_exps tt (λ es h2 k2 d. on_piece by_block tt (λ b h3 k3 e. ends (r.0, c, d, e)))))
  part_stays (more_names xs) room r =
      picks (λ t l. either (is_word COMMA t.0) (passes (on_piece by_name tt (λ x h k c. only_part (more_names (xs ++ x ∷ [])) (more_names_within xs x r c)))) (ends r))
  part_stays function_stat room r =
      on_piece by_line tt (λ line h k l. on_pair by_target tt (λ target own h1 k1 c. on_piece by_body (l, c.1) (λ b h2 k2 d. ends (l, (c.0, tt), ((l, d), tt)))))
  part_stays function_name room r =
      on_piece by_name tt (λ x h k c. on_piece by_exp (c, c) (λ e h1 k1 d. picks (λ t l. either (is_word COLON t.0) (on_piece by_exp d (λ target h2 k2 f. ends (f, (l, tt)))) (ends (d, tt)))))
  part_stays (path left height) room r = picks (λ t l. either (is_word DOT t.0) (on_piece by_exp r (λ e h k c. only_part (path e h) c)) (ends r))
  part_stays local_stat room r = on_piece by_line tt (λ line h k l. picks (λ t m. either (is_word FUNCTION t.0) (only_part (local_function line) l) (only_part (local_names line) l)))
  part_stays (local_function line) room r = on_piece by_line tt (λ own h k l. on_piece by_name tt (λ x h1 k1 c. on_piece by_body (l, tt) (λ b h2 k2 d. ends (r, c, d))))
  part_stays (local_names line) room r = on_piece by_declared tt (λ d h k c. on_piece by_all_declared (c, tt) (λ ds h1 k1 e. on_piece by_exps tt (λ es h2 k2 f. ends (r, e, f))))
  part_stays (more_declared ds) room r =
      picks (λ t l. either (is_word COMMA t.0) (passes (on_piece by_declared tt (λ d h k c. only_part (more_declared (ds ++ d ∷ [])) (more_declared_within ds d r c)))) (ends r))
  part_stays declared room r =
      on_piece by_name tt (λ x h k c. picks (λ t l. either (is_word LESS t.0) (passes (on_piece by_name tt (λ a h1 k1 d. on_piece by_line tt (λ _ h2 k2 _. ends (c, d))))) (ends (c, c))))
  part_stays values room r = picks (λ t l. either (is_word ASSIGN t.0) (passes (only_part explist tt)) (ends tt))
  part_stays prefix_stat room r =
      picks (λ t l. on_piece by_exp tt (λ e h k c. either (is_call e) (ends (l, c)) (either (is_target e) (only_part (assignment t.1 e h) (l, c)) refuses)))
  part_stays (assignment line first height) room r =
      on_piece by_exps (r.1, tt) (λ ts h k c. on_piece by_line tt (λ _ h1 k1 _. on_piece by_exps tt (λ es h2 k2 d. ends (r.0, c, d))))
  part_stays (more_targets ts height) room r =
      picks (λ t l. either (is_word COMMA t.0)
      (passes (on_piece by_exp tt (λ e h k c. either (is_target e) (only_part (more_targets (ts ++ e ∷ []) (max height h)) (more_exps_within ts e r c)) refuses))) (ends r))
