-- The parts of expressions keep their claims.
use Rattle.std.proofs.Common.{◌≡◌, ℕ, ◌+◌, max, cond, List, [], ◌∷◌, ◌++◌, Option, Some, None, refl, ap, arith}
use Rattle.std.specs.Prelude.{nat_lt}
use Rattle.tree_core.specs.declared.operator.UnOp.{UnOp}
use Rattle.tree_core.specs.Tree as tree
use Rattle.tree_making.specs.Made.{above, joined}
use Rattle.tree_making.specs.Form.{variable_of}
use Rattle.tree_making.specs.declared.operator.Infix.{Infix}
use Rattle.tree_making.specs.declared.operator.Infix.TheVariants as joining
use Rattle.token_cursor.specs.declared.level.Level.{Level}
use Rattle.token_cursor.specs.declared.word.Word.{Word}
use Rattle.token_cursor.specs.declared.word.TheConstants.{FUNCTION, ASSIGN, OPEN_ROUND, CLOSE_ROUND, OPEN_CURLY, CLOSE_CURLY, OPEN_SQUARE, COLON, COMMA, DOT}
use Rattle.token_cursor.specs.Words.{Lexeme, is_word, is_string, string_of, begins_suffix, is_separator, operator_of, unary_of}
use Rattle.lua_parse.specs.Words.{constant_of}
use Rattle.lua_parse.specs.Moves.{an_exp, Part, chain, behind, unary, simple, table, more_fields, separated_field, field, keyed, item, prefix, primary, paren, suffixes, suffix, dotted, indexed, method, call, method_arguments, arguments, listed, string_argument, explist, more_exps}
use Rattle.lua_parse.specs.Grammar.{operand, right_operand, operator_move, unary_move, string_move, item_move}
use Rattle.tree_terms.specs.Weight.{weight}
use Rattle.tree_terms.specs.FunctionCount.{functions}
use Rattle.tree_terms.specs.Asked.{ExpMeets}
use Rattle.grammar_laws.specs.Counted.{all_counted}
use Rattle.grammar_laws.proofs.Claims.{ExpHolds, Claim, carried, written, IsReady}
use Rattle.grammar_laws.proofs.Pieces.{by_line, by_name, by_exp, by_exps, by_field, by_fields, by_body}
use Rattle.grammar_laws.proofs.SizeKeeping.{opened, Keeps, picks, passes, refuses, reads, ends, either, either_by, passes_if, on_piece, only_reads, more, more_arguments, more_fields_hold}
use Rattle.grammar_laws.proofs.Lists.{exps_grow, fields_grow, arguments_weigh}
use Rattle.grammar_laws.proofs.Operands.{operand_has, right_has}
use Rattle.grammar_laws.proofs.Words.{Kept, light_constant, constant_keeps}
use Rattle.grammar_laws.proofs.Asking.{exps_more, fields_more}

-- chains of operators

joined_weighs : (op : Infix) (line : ℕ) (a b : tree.Exp) → weight (joined op line a b) ≡ weight a + weight b + 1
joined_weighs joining.Or line a b = refl
joined_weighs joining.And line a b = refl
joined_weighs (joining.Binary op) line a b = refl

joined_has : (op : Infix) (line : ℕ) (a b : tree.Exp) → functions (joined op line a b) ≡ functions a + functions b
joined_has joining.Or line a b = refl
joined_has joining.And line a b = refl
joined_has (joining.Binary op) line a b = refl

joined_counted : (op : Infix) (line : ℕ) (a b : tree.Exp) → ExpMeets all_counted a → ExpMeets all_counted b → ExpMeets all_counted (joined op line a b)
joined_counted joining.Or line a b h k = (h, k)
joined_counted joining.And line a b h k = (h, k)
joined_counted (joining.Binary op) line a b h k = (h, k)

-- a part that gives an expression, with nothing before it
abbrev pub GivesExp : Part → Type 0
GivesExp part = IsReady part × ((e : tree.Exp) (k j : ℕ) → Claim part (an_exp e) (carried part + k) (written part + j) → ExpHolds e k j)

chain_gives : (level : Level) → GivesExp (chain level)
chain_gives level = (tt, λ e k j c. (omega (arith, c.0), omega (arith, c.1), c.2))

unary_gives : GivesExp unary
unary_gives = (tt, λ e k j c. (omega (arith, c.0), omega (arith, c.1), c.2))

operand_gives : (level : Level) → GivesExp (operand level)
operand_gives level = operand_has GivesExp chain_gives unary_gives level

right_gives : (level : Level) → GivesExp (right_operand level)
right_gives level = right_has GivesExp chain_gives unary_gives level

pub chain_kept : (level : Level) → Kept (chain level)
chain_kept level room ready =
    on_piece by_exp (operand_gives level).0 (λ e h k j c.
    let held = (operand_gives level).1 e k j c in
    only_reads (behind level e h) held.2 (λ p k' j' d. more p (omega (arith, held.0)) (omega (arith, held.1)) d))

pub behind_kept : (level : Level) (left : tree.Exp) (height : ℕ) → Kept (behind level left height)
behind_kept level left height room ready = picks (λ t. by t (operator_of level t.0))
  where
    by : (t : Lexeme) (o : Option Infix) → Keeps (behind level left height) (Some t) (operator_move room level left height t.1 o) (weight left) (functions left)
    by t None = ends (omega arith, omega arith, ready)
    by t (Some op) =
        passes_if (nat_lt height room) (λ is.
        on_piece by_exp (right_gives level).0 (λ e h k j c.
        let held = (right_gives level).1 e k j c in
        only_reads (behind level (joined op t.1 left e) (above height h)) (joined_counted op t.1 left e ready held.2) (λ p k' j' d.
        more p (omega (arith, held.0, joined_weighs op t.1 left e)) (omega (arith, held.1, joined_has op t.1 left e)) d)))

pub unary_kept : Kept unary
unary_kept room ready = picks (λ t. by t (unary_of t.0))
  where
    by : (t : Lexeme) (o : Option UnOp) → Keeps unary (Some t) (unary_move room t.1 o) 0 0
    by t None = only_reads simple tt (λ p k j c. c)
    by t (Some op) = passes_if (nat_lt 0 room) (λ is. on_piece by_exp tt (λ e h k j c. ends (omega (arith, c.0), omega (arith, c.1), c.2)))

pub simple_kept : Kept simple
simple_kept room ready =
    picks (λ t. constant_keeps (constant_of t) (light_constant t) (λ e held. (omega (arith, held.0), omega (arith, held.1), held.2))
    (either_by (is_word FUNCTION t.0)
    (λ is. passes (on_piece by_body tt (λ b h k j c. let one : opened (Some t) ≡ 1 = ap (λ v. cond v 1 0) is in ends (omega (arith, c.0), omega (arith, c.1, one), c.2))))
    (either (is_word OPEN_CURLY t.0) (only_reads table tt (λ p k j c. c)) (only_reads prefix tt (λ p k j c. c)))))

-- constructors

pub table_kept : Kept table
table_kept room ready = on_piece by_line tt (λ line h k j c. on_piece by_fields tt (λ fs h' k' j' d. ends (omega (arith, c, d.0), omega (arith, d.1), d.2)))

pub more_fields_kept : (fs : List tree.Field) (height : ℕ) → Kept (more_fields fs height)
more_fields_kept fs height room ready =
    picks (λ t. either (is_word CLOSE_CURLY t.0) (passes (ends (omega arith, omega arith, ready)))
    (on_piece by_field tt (λ f h k j c.
    only_reads (more_fields (fs ++ f ∷ []) (max height h)) (fields_more all_counted fs f ready c.2) (λ p k' j' d.
    more_fields_hold p (omega (arith, c.0, (fields_grow fs f).0)) (omega (arith, c.1, (fields_grow fs f).1)) d))))

pub separated_field_kept : Kept separated_field
separated_field_kept room ready =
    on_piece by_field tt (λ f h k j c. picks (λ t.
    either (is_separator t.0) (passes (ends (omega (arith, c.0), omega (arith, c.1), c.2)))
    (either (is_word CLOSE_CURLY t.0) (ends c) refuses)))

pub field_kept : Kept field
field_kept room ready = picks (λ t. either (is_word OPEN_SQUARE t.0) (only_reads keyed tt (λ p k j c. c)) (only_reads item tt (λ p k j c. c)))

pub keyed_kept : Kept keyed
keyed_kept room ready =
    on_piece by_line tt (λ line h k j c. on_piece by_exp tt (λ key h' k' j' d. on_piece by_line tt (λ _ _ k'' j'' _. on_piece by_line tt (λ _ _ k''' j''' _. on_piece by_exp tt (λ value h'''' k'''' j'''' e.
    ends (omega (arith, c, d.0, e.0), omega (arith, d.1, e.1), (d.2, e.2)))))))

item_keeps : (room n m : ℕ) (e : tree.Exp) (known : Option Lexeme) → ExpHolds e n m → Keeps item known (item_move room (variable_of e)) n m
item_keeps room n m (tree.Var line x) known held = passes (on_piece by_exp tt (λ value h k j c. ends (omega (arith, held.0, c.0), omega (arith, c.1), (tt, c.2))))
item_keeps room n m _ known held = refuses

pub item_kept : Kept item
item_kept room ready = on_piece by_exp tt (λ e h k j c. picks (λ t. either (is_word ASSIGN t.0) (item_keeps room _ _ e (Some t) c) (ends c)))

-- prefixes and suffixes

pub prefix_kept : Kept prefix
prefix_kept room ready =
    on_piece by_exp tt (λ e h k j c. only_reads (suffixes e h) c.2 (λ p k' j' d. more p (omega (arith, c.0)) (omega (arith, c.1)) d))

pub primary_kept : Kept primary
primary_kept room ready =
    picks (λ t. either (is_word OPEN_ROUND t.0) (only_reads paren tt (λ p k j c. c)) (on_piece by_name tt (λ x h k j c. ends (omega (arith, c), omega arith, tt))))

pub paren_kept : Kept paren
paren_kept room ready =
    on_piece by_line tt (λ line h k j c. on_piece by_exp tt (λ e h' k' j' d. on_piece by_line tt (λ _ h'' k'' j'' f. ends (omega (arith, c, d.0, f.0), omega (arith, d.1), d.2))))

pub suffixes_kept : (left : tree.Exp) (height : ℕ) → Kept (suffixes left height)
suffixes_kept left height room ready =
    picks (λ t. either (begins_suffix t.0)
    (on_piece by_exp ready (λ e h k j c. only_reads (suffixes e h) c.2 (λ p k' j' d. more p (omega (arith, c.0)) (omega (arith, c.1)) d)))
    (ends (omega arith, omega arith, ready)))

pub suffix_kept : (left : tree.Exp) (height : ℕ) → Kept (suffix left height)
suffix_kept left height room ready =
    picks (λ t. either (is_word DOT t.0) (only_reads (dotted DOT left height) ready (λ p k j c. c))
    (either (is_word OPEN_SQUARE t.0) (only_reads (indexed left height) ready (λ p k j c. c))
    (either (is_word COLON t.0) (only_reads (method left height) ready (λ p k j c. c)) (only_reads (call left height) ready (λ p k j c. c)))))

pub dotted_kept : (w : Word) (left : tree.Exp) (height : ℕ) → Kept (dotted w left height)
dotted_kept w left height room ready = on_piece by_line tt (λ line h k j c. on_piece by_name tt (λ x h' k' j' d. ends (omega (arith, c, d), omega arith, (ready, tt))))

pub indexed_kept : (left : tree.Exp) (height : ℕ) → Kept (indexed left height)
indexed_kept left height room ready =
    on_piece by_line tt (λ line h k j c. on_piece by_exp tt (λ e h' k' j' d. on_piece by_line tt (λ _ h'' k'' j'' f. ends (omega (arith, c, d.0), omega (arith, d.1), (ready, d.2)))))

pub method_kept : (left : tree.Exp) (height : ℕ) → Kept (method left height)
method_kept left height room ready =
    on_piece by_line tt (λ _ h k j c. on_piece by_name tt (λ x h' k' j' d. picks (λ t. on_piece by_exps tt (λ es h'' k'' j'' f.
    ends (omega (arith, c, d, f.0), omega (arith, f.1), (ready, f.2))))))

pub call_kept : (left : tree.Exp) (height : ℕ) → Kept (call left height)
call_kept left height room ready =
    picks (λ t. either (nat_lt height room) (on_piece by_exps tt (λ es h k j c. ends (omega (arith, c.0), omega (arith, c.1), (ready, c.2)))) refuses)

-- arguments

pub method_arguments_kept : Kept method_arguments
method_arguments_kept room ready =
    picks (λ t. either (is_string t.0) (only_reads arguments tt (λ p k j c. c))
    (either (nat_lt 0 room) (reads tt (λ p h k j c. ends c)) refuses))

pub arguments_kept : Kept arguments
arguments_kept room ready =
    picks (λ t. either (is_word OPEN_ROUND t.0) (passes (only_reads listed tt (λ p k j c. more_arguments p (omega arith) (omega arith) c)))
    (either (is_word OPEN_CURLY t.0) (passes (on_piece by_fields tt (λ fs h k j c. ends (omega (arith, c.0), omega (arith, c.1), (c.2, tt)))))
    (only_reads string_argument tt (λ p k j c. c))))

pub string_argument_kept : Kept string_argument
string_argument_kept room ready = picks (λ t. by t (string_of t.0))
  where
    by : (t : Lexeme) (o : Option (List ℕ)) → Keeps string_argument (Some t) (string_move t.1 o) 0 0
    by t None = refuses
    by t (Some bytes) = passes (ends (omega arith, omega arith, (tt, tt)))

pub listed_kept : Kept listed
listed_kept room ready =
    picks (λ t. either (is_word CLOSE_ROUND t.0) (passes (ends (omega arith, omega arith, tt)))
    (on_piece by_exps tt (λ es h k j c. on_piece by_line tt (λ _ h' k' j' d. ends (omega (arith, c.0, d.0, arguments_weigh (tree.exps es)), omega (arith, c.1), c.2)))))

-- lists

pub explist_kept : Kept explist
explist_kept room ready =
    on_piece by_exp tt (λ e h k j c. only_reads (more_exps (e ∷ []) h) (c.2, tt) (λ p k' j' d. more p (omega (arith, c.0)) (omega (arith, c.1)) d))

pub more_exps_kept : (es : List tree.Exp) (height : ℕ) → Kept (more_exps es height)
more_exps_kept es height room ready =
    picks (λ t. either (is_word COMMA t.0)
    (passes (on_piece by_exp tt (λ e h k j c.
    only_reads (more_exps (es ++ e ∷ []) (max height h)) (exps_more all_counted es e ready c.2) (λ p k' j' d.
    more p (omega (arith, c.0, (exps_grow es e).0)) (omega (arith, c.1, (exps_grow es e).1)) d))))
    (ends (omega arith, omega arith, ready)))
