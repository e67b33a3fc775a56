-- The parts of functions and blocks keep their claims.
use Rattle.std.proofs.Common.{ℕ, ◌≤◌, max, List, [], ◌∷◌, ◌++◌, Option, Some, None, arith}
use Rattle.tree_core.specs.declared.name.Name.{Name}
use Rattle.tree_core.specs.Tree as tree
use Rattle.tree_core.specs.Plain.{block_of}
use Rattle.lua_lex.specs.Lexical.{is_end}
use Rattle.token_cursor.specs.declared.start.Start.{Start}
use Rattle.token_cursor.specs.declared.start.Start.TheVariants as start
use Rattle.token_cursor.specs.declared.word.TheConstants.{RETURN, CLOSE_ROUND, SEMICOLON, COMMA, DOTS, ELSE, ELSEIF}
use Rattle.token_cursor.specs.Words.{Lexeme, is_word, ends_block, start_of}
use Rattle.lua_parse.specs.Moves.{chunk, body, params, more_params, block, items, returned, stat, label_stat, goto_stat, do_stat, while_stat, repeat_stat, if_stat, arms, more_arms, arm, else_part, do_block, for_stat, function_stat, local_stat, prefix_stat}
use Rattle.lua_parse.specs.Grammar.{stat_move}
use Rattle.grammar_laws.proofs.Claims.{ItemsHold, BlockHolds}
use Rattle.grammar_laws.proofs.Pieces.{by_line, by_name, by_exp, by_exps, by_stat, by_block, by_params, by_arm}
use Rattle.grammar_laws.proofs.SizeKeeping.{Keeps, picks, passes, ends, either, passes_if, on_piece, on_pair, on_some_items, only_reads, more}
use Rattle.grammar_laws.proofs.Lists.{stats_grow, arms_grow}
use Rattle.grammar_laws.proofs.Words.{Kept}
use Rattle.grammar_laws.proofs.Asking.{arms_more, stats_more}
use Rattle.grammar_laws.specs.Counted.{all_counted}

pub chunk_kept : Kept chunk
chunk_kept room ready = on_piece by_block tt (λ b h k j c. picks (λ t. passes_if (is_end t.0) (λ is. ends (omega (arith, c.0), omega (arith, c.1), c.2))))

-- functions

pub body_kept : (line : ℕ) (own : List Name) → Kept (body line own)
body_kept line own room ready =
    on_piece by_line tt (λ _ h k j c. on_pair by_params tt (λ xs vararg h' k' j' _. on_piece by_line tt (λ _ h'' k'' j'' d. on_piece by_block tt (λ b h3 k3 j3 e. on_piece by_line tt (λ _ h4 k4 j4 f.
    ends (omega (arith, c, d, e.0, f.0), omega (arith, e.1), e.2))))))

pub params_kept : (own : List Name) → Kept (params own)
params_kept own room ready = picks (λ t. either (is_word CLOSE_ROUND t.0) (ends tt) (only_reads (more_params own) tt (λ p k j c. c)))

pub more_params_kept : (xs : List Name) → Kept (more_params xs)
more_params_kept xs room ready =
    picks (λ t. either (is_word DOTS t.0) (passes (ends tt))
    (on_piece by_name tt (λ x h k j c. picks (λ u. either (is_word COMMA u.0)
    (passes (only_reads (more_params (xs ++ x ∷ [])) tt (λ p k' j' d. more p (omega arith) (omega arith) d)))
    (ends tt)))))

-- blocks

block_held : (ss : List tree.Stat) (es : Option (List tree.Exp)) (n k m line : ℕ) → n ≤ k → ItemsHold ss es n m → BlockHolds (block_of ss es k line) k m
block_held ss None n k m line le c = (omega (arith, le, c.0), c.1, (omega (arith, le, c.0), c.2))
block_held ss (Some es) n k m line le c = (omega (arith, le, c.0), c.1, (omega (arith, le, c.0), (c.2.0, c.2.1)))

pub block_kept : Kept block
block_kept room ready =
    on_some_items tt (λ ss es line h k j c. let held = block_held ss es _ k _ line (omega arith) c in ends (omega (arith, held.0), held.1, held.2))

pub items_kept : (ss : List tree.Stat) (height : ℕ) → Kept (items ss height)
items_kept ss height room ready =
    picks (λ t. either (is_word RETURN t.0) (passes (on_piece by_exps tt (λ es h k j c. ends (omega (arith, c.0), omega (arith, c.1), (ready, c.2)))))
    (either (ends_block t.0) (ends (omega arith, omega arith, ready))
    (on_piece by_stat tt (λ s h k j c.
    only_reads (items (ss ++ s ∷ []) (max height h)) (stats_more all_counted ss s ready c.2) (λ p k' j' d.
    more p (omega (arith, c.0, (stats_grow ss s).0)) (omega (arith, c.1, (stats_grow ss s).1)) d)))))

pub returned_kept : Kept returned
returned_kept room ready =
    picks (λ t. either (ends_block t.0) (ends (omega arith, omega arith, tt))
    (either (is_word SEMICOLON t.0) (passes (ends (omega arith, omega arith, tt)))
    (on_piece by_exps tt (λ es h k j c. picks (λ u. either (is_word SEMICOLON u.0) (passes (ends (omega (arith, c.0), omega (arith, c.1), c.2))) (ends c))))))

pub do_block_kept : Kept do_block
do_block_kept room ready =
    on_piece by_line tt (λ _ h k j c. on_piece by_block tt (λ b h' k' j' d. on_piece by_line tt (λ _ h'' k'' j'' e. ends (omega (arith, c, d.0, e.0), omega (arith, d.1), d.2))))

-- the arms of an `if`

pub arms_kept : Kept arms
arms_kept room ready =
    on_pair by_arm tt (λ e b h k j c. only_reads (more_arms ((e, b) ∷ []) h) (c.2.0, (c.2.1, tt)) (λ p k' j' d. more p (omega (arith, c.0)) (omega (arith, c.1)) d))

pub more_arms_kept : (as' : List (tree.Exp × tree.Block)) (height : ℕ) → Kept (more_arms as' height)
more_arms_kept as' height room ready =
    picks (λ t. either (is_word ELSEIF t.0)
    (passes (on_pair by_arm tt (λ e b h k j c.
    only_reads (more_arms (as' ++ (e, b) ∷ []) (max height h)) (arms_more all_counted as' e b ready c.2.0 c.2.1) (λ p k' j' d.
    more p (omega (arith, c.0, (arms_grow as' e b).0)) (omega (arith, c.1, (arms_grow as' e b).1)) d))))
    (ends (omega arith, omega arith, ready)))

pub arm_kept : Kept arm
arm_kept room ready =
    on_piece by_exp tt (λ e h k j c. on_piece by_line tt (λ _ h' k' j' d. on_piece by_block tt (λ b h'' k'' j'' f. ends (omega (arith, c.0, d, f.0), omega (arith, c.1, f.1), (c.2, f.2)))))

pub else_part_kept : Kept else_part
else_part_kept room ready =
    picks (λ t. either (is_word ELSE t.0)
    (on_piece by_line tt (λ _ h k j c. on_piece by_block tt (λ b h' k' j' d. ends (omega (arith, c, d.0), omega (arith, d.1), d.2))))
    (ends tt))

-- what a statement begins with

pub stat_kept : Kept stat
stat_kept room ready = picks (λ t. by t (start_of t.0))
  where
    by : (t : Lexeme) (s : Start) → Keeps stat (Some t) (stat_move room t.1 s) 0 0
    by t start.Empty = passes (ends (omega arith, omega arith, tt))
    by t start.Label = only_reads label_stat tt (λ p k j c. c)
    by t start.Break = passes (ends (omega arith, omega arith, tt))
    by t start.Goto = only_reads goto_stat tt (λ p k j c. c)
    by t start.Do = only_reads do_stat tt (λ p k j c. c)
    by t start.While = only_reads while_stat tt (λ p k j c. c)
    by t start.Repeat = only_reads repeat_stat tt (λ p k j c. c)
    by t start.If = only_reads if_stat tt (λ p k j c. c)
    by t start.For = only_reads for_stat tt (λ p k j c. c)
    by t start.Function = only_reads function_stat tt (λ p k j c. c)
    by t start.Local = only_reads local_stat tt (λ p k j c. c)
    by t start.Prefix = only_reads prefix_stat tt (λ p k j c. c)
