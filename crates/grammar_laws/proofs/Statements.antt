-- The parts of statements keep their claims.
use Rattle.std.proofs.Common.{ℕ, ◌+◌, ◌≤◌, max, List, [], ◌∷◌, ◌++◌, Option, Some, None, arith}
use Rattle.tree_core.specs.declared.name.Name.{Name}
use Rattle.tree_core.specs.declared.name.Declared.{Declared}
use Rattle.tree_core.specs.Tree as tree
use Rattle.tree_core.specs.Plain.{if_of, num_for_of}
use Rattle.tree_making.specs.Form.{is_target, is_call}
use Rattle.token_cursor.specs.declared.word.TheConstants.{FUNCTION, LESS, ASSIGN, COLON, COMMA, DOT}
use Rattle.token_cursor.specs.Words.{is_word}
use Rattle.lua_parse.specs.Moves.{label_stat, goto_stat, do_stat, while_stat, repeat_stat, if_stat, for_stat, numeric, step, generic, more_names, function_stat, function_name, path, local_stat, local_function, local_names, more_declared, declared, values, explist, prefix_stat, assignment, more_targets}
use Rattle.tree_terms.specs.Weight.{weight_of_block}
use Rattle.tree_terms.specs.FunctionCount.{functions_in_block}
use Rattle.grammar_laws.specs.Counted.{BlockIsCounted, all_counted}
use Rattle.grammar_laws.proofs.Claims.{ArmsHold, ElseHolds, StepHolds, ExpHolds, StatHolds}
use Rattle.grammar_laws.proofs.Pieces.{by_line, by_name, by_names, by_declared, by_all_declared, by_exp, by_step, by_exps, by_arms, by_block, by_else, by_body, by_target}
use Rattle.grammar_laws.proofs.SizeKeeping.{picks, passes, refuses, ends, either, on_piece, on_pair, only_reads, more}
use Rattle.grammar_laws.proofs.Lists.{exps_grow, names_count}
use Rattle.grammar_laws.proofs.Words.{Kept}
use Rattle.grammar_laws.proofs.Asking.{exps_more}

pub label_stat_kept : Kept label_stat
label_stat_kept room ready =
    on_piece by_line tt (λ line h k j c. on_piece by_name tt (λ x h' k' j' d. on_piece by_line tt (λ _ h'' k'' j'' e. ends (omega (arith, c.0, d, e.0), omega arith, tt))))

pub goto_stat_kept : Kept goto_stat
goto_stat_kept room ready = on_piece by_line tt (λ line h k j c. on_piece by_name tt (λ x h' k' j' d. ends (omega (arith, c.0, d), omega arith, tt)))

pub do_stat_kept : Kept do_stat
do_stat_kept room ready = picks (λ t. on_piece by_block tt (λ b h k j c. ends (omega (arith, c.0), omega (arith, c.1), c.2)))

pub while_stat_kept : Kept while_stat
while_stat_kept room ready =
    on_piece by_line tt (λ line h k j c. on_piece by_exp tt (λ e h' k' j' d. on_piece by_block tt (λ b h'' k'' j'' f.
    ends (omega (arith, c.0, d.0, f.0), omega (arith, d.1, f.1), (d.2, f.2)))))

pub repeat_stat_kept : Kept repeat_stat
repeat_stat_kept room ready =
    on_piece by_line tt (λ line h k j c. on_piece by_block tt (λ b h' k' j' d. on_piece by_line tt (λ _ h'' k'' j'' f. on_piece by_exp tt (λ e h3 k3 j3 g.
    ends (omega (arith, c, d.0, f.0, g.0), omega (arith, d.1, g.1), (d.2, g.2))))))

if_held : (line : ℕ) (as' : List (tree.Exp × tree.Block)) (b : Option tree.Block) (n m n' m' k l : ℕ) → ArmsHold (tree.arms as') n m → ElseHolds b n' m' → n + n' + 2 ≤ k → m + m' ≤ l
    → StatHolds (if_of line as' b) k l
if_held line as' None n m n' m' k l c d e f = (omega (arith, c.0, e), omega (arith, c.1, f), c.2)
if_held line as' (Some b) n m n' m' k l c d e f = (omega (arith, c.0, d.0, e), omega (arith, c.1, d.1, f), (c.2, d.2))

pub if_stat_kept : Kept if_stat
if_stat_kept room ready =
    on_piece by_line tt (λ line h k j c. on_piece by_arms tt (λ as' h' k' j' d. on_piece by_else tt (λ b h'' k'' j'' e. on_piece by_line tt (λ _ h3 k3 j3 f.
    ends (if_held line as' b _ _ _ _ _ _ d e (omega (arith, c.0, f.0)) (omega arith))))))

-- loops

pub for_stat_kept : Kept for_stat
for_stat_kept room ready =
    on_piece by_line tt (λ line h k j c. on_piece by_name tt (λ x h' k' j' d. picks (λ t. either (is_word ASSIGN t.0)
    (only_reads (numeric line x) tt (λ p k'' j'' e. more p (omega (arith, c.0, d)) (omega arith) e))
    (only_reads (generic line x) tt (λ p k'' j'' e. more p (omega (arith, c.0, d)) (omega arith) e)))))

num_for_held : (line : ℕ) (x : Name) (a b : tree.Exp) (c : Option tree.Exp) (inner : tree.Block) (n1 n2 n3 n4 m1 m2 m3 m4 k l : ℕ) → ExpHolds a n1 m1 → ExpHolds b n2 m2 → StepHolds c n3 m3
    → (weight_of_block inner + 2 ≤ n4) → (functions_in_block inner ≤ m4) → BlockIsCounted inner → n1 + n2 + n3 + n4 + 4 ≤ k → m1 + m2 + m3 + m4 ≤ l
    → StatHolds (num_for_of line x a b c inner) k l
num_for_held line x a b None inner n1 n2 n3 n4 m1 m2 m3 m4 k l ha hb hc w f counted e g =
    (omega (arith, ha.0, hb.0, w, e), omega (arith, ha.1, hb.1, f, g), (ha.2, (hb.2, counted)))
num_for_held line x a b (Some c) inner n1 n2 n3 n4 m1 m2 m3 m4 k l ha hb hc w f counted e g =
    (omega (arith, ha.0, hb.0, hc.0, w, e), omega (arith, ha.1, hb.1, hc.1, f, g), (ha.2, (hb.2, (hc.2, counted))))

pub numeric_kept : (line : ℕ) (x : Name) → Kept (numeric line x)
numeric_kept line x room ready =
    on_piece by_line tt (λ _ h k j c. on_piece by_exp tt (λ a h1 k1 j1 ha. on_piece by_line tt (λ _ h2 k2 j2 d. on_piece by_exp tt (λ b h3 k3 j3 hb. on_piece by_step tt (λ e h4 k4 j4 he. on_piece by_block tt (λ inner h5 k5 j5 hi.
    ends (num_for_held line x a b e inner _ _ _ _ _ _ _ _ _ _ ha hb he hi.0 hi.1 hi.2 (omega (arith, c.0, d.0)) (omega arith))))))))

pub step_kept : Kept step
step_kept room ready =
    picks (λ t. either (is_word COMMA t.0) (passes (on_piece by_exp tt (λ e h k j c. ends (omega (arith, c.0), omega (arith, c.1), c.2)))) (ends tt))

pub generic_kept : (line : ℕ) (x : Name) → Kept (generic line x)
generic_kept line x room ready =
    on_piece by_names tt (λ xs h k j c. on_piece by_line tt (λ _ h1 k1 j1 d. on_piece by_exps tt (λ es h2 k2 j2 e. on_piece by_block tt (λ b h3 k3 j3 f.
    ends (omega (arith, c, d.0, e.0, f.0), omega (arith, e.1, f.1), (e.2, f.2))))))

pub more_names_kept : (xs : List Name) → Kept (more_names xs)
more_names_kept xs room ready =
    picks (λ t. either (is_word COMMA t.0)
    (passes (on_piece by_name tt (λ x h k j c. only_reads (more_names (xs ++ x ∷ [])) tt (λ p k' j' d. more p (omega (arith, c, names_count xs x)) (omega arith) d))))
    (ends (omega arith)))

-- functions

pub function_stat_kept : Kept function_stat
function_stat_kept room ready =
    on_piece by_line tt (λ line h k j c. on_pair by_target tt (λ target own h' k' j' d. on_piece by_body tt (λ b h'' k'' j'' e.
    ends (omega (arith, c.0, d.0, e.0), omega (arith, c.1, d.1, e.1), ((d.2, tt), (e.2, tt))))))

pub function_name_kept : Kept function_name
function_name_kept room ready =
    on_piece by_name tt (λ x h k j c. on_piece by_exp tt (λ e h' k' j' d. picks (λ t. either (is_word COLON t.0)
    (on_piece by_exp d.2 (λ target h'' k'' j'' f. ends (omega (arith, c, d.0, f.0), omega (arith, d.1, f.1), f.2)))
    (ends (omega (arith, c, d.0), omega (arith, d.1), d.2)))))

pub path_kept : (left : tree.Exp) (height : ℕ) → Kept (path left height)
path_kept left height room ready =
    picks (λ t. either (is_word DOT t.0)
    (on_piece by_exp ready (λ e h k j c. only_reads (path e h) c.2 (λ p k' j' d. more p (omega (arith, c.0)) (omega (arith, c.1)) d)))
    (ends (omega arith, omega arith, ready)))

-- declarations

pub local_stat_kept : Kept local_stat
local_stat_kept room ready =
    on_piece by_line tt (λ line h k j c. picks (λ t. either (is_word FUNCTION t.0)
    (only_reads (local_function line) tt (λ p k' j' d. more p (omega (arith, c.0)) (omega arith) d))
    (only_reads (local_names line) tt (λ p k' j' d. more p (omega (arith, c.0)) (omega arith) d))))

pub local_function_kept : (line : ℕ) → Kept (local_function line)
local_function_kept line room ready =
    on_piece by_line tt (λ own h k j c. on_piece by_name tt (λ x h' k' j' d. on_piece by_body tt (λ b h'' k'' j'' e.
    ends (omega (arith, c.0, d, e.0), omega (arith, c.1, e.1), e.2))))

pub local_names_kept : (line : ℕ) → Kept (local_names line)
local_names_kept line room ready =
    on_piece by_declared tt (λ d h k j c. on_piece by_all_declared tt (λ ds h1 k1 j1 e. on_piece by_exps tt (λ es h2 k2 j2 f.
    ends (omega (arith, c, e, f.0), omega (arith, f.1), f.2))))

pub more_declared_kept : (ds : List Declared) → Kept (more_declared ds)
more_declared_kept ds room ready =
    picks (λ t. either (is_word COMMA t.0)
    (passes (on_piece by_declared tt (λ d h k j c. only_reads (more_declared (ds ++ d ∷ [])) tt (λ p k' j' e. more p (omega (arith, c, names_count ds d)) (omega arith) e))))
    (ends (omega arith)))

pub declared_kept : Kept declared
declared_kept room ready =
    on_piece by_name tt (λ x h k j c. picks (λ t. either (is_word LESS t.0)
    (passes (on_piece by_name tt (λ a h' k' j' d. on_piece by_line tt (λ _ h'' k'' j'' e. ends (omega (arith, c))))))
    (ends (omega (arith, c)))))

pub values_kept : Kept values
values_kept room ready =
    picks (λ t. either (is_word ASSIGN t.0) (passes (only_reads explist tt (λ p k j c. more p (omega arith) (omega arith) c))) (ends (omega arith, omega arith, tt)))

-- calls and assignments

pub prefix_stat_kept : Kept prefix_stat
prefix_stat_kept room ready =
    picks (λ t. on_piece by_exp tt (λ e h k j c. either (is_call e) (ends c)
    (either (is_target e) (only_reads (assignment t.1 e h) c.2 (λ p k' j' d. more p (omega (arith, c.0)) (omega (arith, c.1)) d)) refuses)))

pub assignment_kept : (line : ℕ) (first : tree.Exp) (height : ℕ) → Kept (assignment line first height)
assignment_kept line first height room ready =
    on_piece by_exps (ready, tt) (λ ts h k j c. on_piece by_line tt (λ _ h' k' j' d. on_piece by_exps tt (λ es h'' k'' j'' e.
    ends (omega (arith, c.0, d.0, e.0), omega (arith, c.1, e.1), (c.2, e.2)))))

pub more_targets_kept : (ts : List tree.Exp) (height : ℕ) → Kept (more_targets ts height)
more_targets_kept ts height room ready =
    picks (λ t. either (is_word COMMA t.0)
    (passes (on_piece by_exp tt (λ e h k j c. either (is_target e)
    (only_reads (more_targets (ts ++ e ∷ []) (max height h)) (exps_more all_counted ts e ready c.2) (λ p k' j' d.
    more p (omega (arith, c.0, (exps_grow ts e).0)) (omega (arith, c.1, (exps_grow ts e).1)) d))
    refuses)))
    (ends (omega arith, omega arith, ready)))
