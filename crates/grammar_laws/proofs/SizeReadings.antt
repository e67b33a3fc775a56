-- Whatever is read keeps its claim: by induction over readings, whose parts keep theirs.
use Rattle.std.proofs.Common.{◌≡◌, ℕ, ◌+◌, ◌-◌, ◌≤◌, List, ◌∷◌, length, Option, Some, None, refl, ap, subst, arith}
use Rattle.token_cursor.specs.Words.{Lexeme}
use Rattle.lua_parse.specs.Moves.{Piece, Part, chunk, word, opener, name, chain, behind, unary, simple, table, more_fields, separated_field, field, keyed, item, prefix, primary, paren, suffixes, suffix, dotted, indexed, method, call, method_arguments, arguments, listed, string_argument, explist, more_exps, body, params, more_params, block, items, returned, stat, label_stat, goto_stat, do_stat, while_stat, repeat_stat, if_stat, arms, more_arms, arm, else_part, do_block, for_stat, numeric, step, generic, more_names, function_stat, function_name, path, local_stat, local_function, local_names, more_declared, declared, values, prefix_stat, assignment, more_targets, Move}
use Rattle.lua_parse.specs.Reading as reading
use Rattle.lua_parse.specs.Reading.{Outcome, whole, cut, stuck, Reads, Derives}
use Rattle.grammar_laws.proofs.Claims.{opens_function, opening, Claim}
use Rattle.grammar_laws.proofs.SizeKeeping.{opened, Keeps, picks, passes, reads, ends}
use Rattle.grammar_laws.proofs.Words.{Kept, word_kept, opener_kept, name_kept}
use Rattle.grammar_laws.proofs.Expressions as expressions
use Rattle.grammar_laws.proofs.Blocks as blocks
use Rattle.grammar_laws.proofs.Statements as statements

pub part_kept : (part : Part) → Kept part
part_kept chunk = blocks.chunk_kept
part_kept (word w) = word_kept w
part_kept (opener w height) = opener_kept w height
part_kept name = name_kept
part_kept (chain level) = expressions.chain_kept level
part_kept (behind level left height) = expressions.behind_kept level left height
part_kept unary = expressions.unary_kept
part_kept simple = expressions.simple_kept
part_kept table = expressions.table_kept
part_kept (more_fields fs height) = expressions.more_fields_kept fs height
part_kept separated_field = expressions.separated_field_kept
part_kept field = expressions.field_kept
part_kept keyed = expressions.keyed_kept
part_kept item = expressions.item_kept
part_kept prefix = expressions.prefix_kept
part_kept primary = expressions.primary_kept
part_kept paren = expressions.paren_kept
part_kept (suffixes left height) = expressions.suffixes_kept left height
part_kept (suffix left height) = expressions.suffix_kept left height
part_kept (dotted w left height) = expressions.dotted_kept w left height
part_kept (indexed left height) = expressions.indexed_kept left height
part_kept (method left height) = expressions.method_kept left height
part_kept (call left height) = expressions.call_kept left height
part_kept method_arguments = expressions.method_arguments_kept
part_kept arguments = expressions.arguments_kept
part_kept listed = expressions.listed_kept
part_kept string_argument = expressions.string_argument_kept
part_kept explist = expressions.explist_kept
part_kept (more_exps es height) = expressions.more_exps_kept es height
part_kept (body line own) = blocks.body_kept line own
part_kept (params own) = blocks.params_kept own
part_kept (more_params xs) = blocks.more_params_kept xs
part_kept block = blocks.block_kept
part_kept (items ss height) = blocks.items_kept ss height
part_kept returned = blocks.returned_kept
part_kept stat = blocks.stat_kept
part_kept label_stat = statements.label_stat_kept
part_kept goto_stat = statements.goto_stat_kept
part_kept do_stat = statements.do_stat_kept
part_kept while_stat = statements.while_stat_kept
part_kept repeat_stat = statements.repeat_stat_kept
part_kept if_stat = statements.if_stat_kept
part_kept arms = blocks.arms_kept
part_kept (more_arms as' height) = blocks.more_arms_kept as' height
part_kept arm = blocks.arm_kept
part_kept else_part = blocks.else_part_kept
part_kept do_block = blocks.do_block_kept
part_kept for_stat = statements.for_stat_kept
part_kept (numeric line x) = statements.numeric_kept line x
part_kept step = statements.step_kept
part_kept (generic line x) = statements.generic_kept line x
part_kept (more_names xs) = statements.more_names_kept xs
part_kept function_stat = statements.function_stat_kept
part_kept function_name = statements.function_name_kept
part_kept (path left height) = statements.path_kept left height
part_kept local_stat = statements.local_stat_kept
part_kept (local_function line) = statements.local_function_kept line
part_kept (local_names line) = statements.local_names_kept line
part_kept (more_declared ds) = statements.more_declared_kept ds
part_kept declared = statements.declared_kept
part_kept values = statements.values_kept
part_kept prefix_stat = statements.prefix_stat_kept
part_kept (assignment line first height) = statements.assignment_kept line first height
part_kept (more_targets ts height) = statements.more_targets_kept ts height

-- the known token comes next
abbrev pub IsNext : Option Lexeme → List Lexeme → Type 0
IsNext None tokens = Unit {0}
IsNext (Some t) tokens = (rest : List Lexeme) × (tokens ≡ t ∷ rest)

-- between two lists so many tokens were read, and so many of them at least are `function`
pub record Gone (goal : Part) (piece : Piece) (n m : ℕ) (tokens rest : List Lexeme) : Type 0 where
  pub count : ℕ
  pub openings : ℕ
  pub counts : length tokens ≡ count + length rest
  pub opens : openings + opening rest ≤ opening tokens
  pub claim : Claim goal piece (n + count) (m + openings)

known_opens : (known : Option Lexeme) (t : Lexeme) (ts : List Lexeme) → IsNext known (t ∷ ts) → opened known ≤ opens_function t.0
known_opens None t ts next = omega arith
known_opens (Some u) t ts next = let same : t ≡ u = let lists : t ∷ ts ≡ u ∷ next.0 = next.1 in cc in omega (arith, ap (λ (x : Lexeme). opens_function x.0) same)

pub goes : {move : Move} {tokens : List Lexeme} {outcome : Outcome} {goal : Part} {known : Option Lexeme} {n m : ℕ} (piece : Piece) (height : ℕ) (rest : List Lexeme)
    → Reads move tokens outcome → outcome ≡ whole piece height rest → Keeps goal known move n m → IsNext known tokens → Gone goal piece n m tokens rest
goes piece height rest (reading.picks {token = token} {tokens = tokens} h) e (picks kept) next = goes piece height rest h e (kept token) (tokens, refl)
goes piece height rest reading.picks_none e kept next = absurd cc
goes {goal = goal} {known = known} {n = n} {m = m} piece height rest (reading.passes {token = token} {tokens = tokens} h) e (passes kept) next =
    let later = goes piece height rest h e kept tt in
    let first = known_opens known token tokens next in
    record {
      count = 1 + later.count;
      openings = opened known + later.openings;
      counts = omega (arith, later.counts);
      opens = omega (arith, later.opens, first);
      claim = subst (λ k. Claim goal piece k (m + (opened known + later.openings))) (omega arith)
          (subst (λ k. Claim goal piece (n + 1 + later.count) k) (omega arith) later.claim);
    }
goes piece height rest reading.passes_none e kept next = absurd cc
goes piece height rest reading.refuses e kept next = absurd cc
goes piece height rest reading.refuses_none e kept next = absurd cc
goes {tokens = tokens} {goal = goal} {n = n} {m = m} piece height rest (reading.is_whole {piece = own}) e (ends claim) next =
    let same : own ≡ piece = cc in
    let stays : tokens ≡ rest = cc in
    record {
      count = 0;
      openings = 0;
      counts = omega (arith, ap length stays);
      opens = omega (arith, ap opening stays);
      claim = subst (λ p. Claim goal p (n + 0) (m + 0)) same (subst (λ k. Claim goal own k (m + 0)) (omega arith) (subst (λ k. Claim goal own n k) (omega arith) claim));
    }
goes {tokens = tokens} {goal = goal} {n = n} {m = m} piece height rest (reading.within_whole {part = part} {room = room} own own_height between h later) e (reads {next = follow} ready kept) next =
    let inner = goes own own_height between h refl (part_kept part room ready) tt in
    let size : inner.count ≡ length tokens - length between = omega (arith, inner.counts) in
    let behind = kept own own_height inner.count inner.openings inner.claim in
    let placed : Keeps goal None (follow own own_height (length tokens - length between)) (n + inner.count) (m + inner.openings) =
    subst (λ k. Keeps goal None (follow own own_height k) (n + inner.count) (m + inner.openings)) size behind in
    let last = goes piece height rest later e placed tt in
    record {
      count = inner.count + last.count;
      openings = inner.openings + last.openings;
      counts = omega (arith, inner.counts, last.counts);
      opens = omega (arith, inner.opens, last.opens);
      claim = subst (λ k. Claim goal piece k (m + (inner.openings + last.openings))) (omega arith)
          (subst (λ k. Claim goal piece (n + inner.count + last.count) k) (omega arith) last.claim);
    }
goes piece height rest (reading.within_cut h) e kept next = absurd cc
goes piece height rest (reading.within_stuck h) e kept next = absurd cc
