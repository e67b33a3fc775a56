use Rattle.std.proofs.Common.{rules, ◌≡◌, ◌⊎◌, ◌≤◌, Err, length, ap, inl, inr}
use Rattle.std.proofs.lemmas.Bool.{cases_lt}
use Rattle.lua_lex.specs.declared.source.LexFault.TheVariants as lexer
use Rattle.tree_core.specs.Plain.{plain_block}
use Rattle.compile_text.specs.Faults.{fault_of_lexer, fault_of_parser, fault_of_rules}
use Rattle.compile_text.proofs.Refusing.{IsRead, not_over, lexer_fault, parser_fault, rules_fault, tree_there, tree_only}
use Rattle.compile_text.proofs.text.source_tree.Goals as goal

pub returns-in_err-tokens-clause-refused : goal.returns-in_err-tokens-clause-refused
returns-in_err-tokens-clause-refused c =
    let is : c.from_residual.result ≡ Err (fault_of_lexer c.in_err-tokens.field-0.0) = search rules in
    let short : (length c.args.source.now ≤ 1048576) ⊎ (c.in_err-tokens.field-0.0 ≡ lexer.Limit) = elim (cases_lt 1048576 (length c.args.source.now)) [
      | inl over ↦ inr (let same = c.in_err-tokens.ensures.limit.1 over in cc)
      | inr short ↦ inl short
    ] in
    rw is (lexer_fault c.args.source.now c.in_err-tokens.field-0.0 short (λ same. c.in_err-tokens.ensures.limit.0 (ap Err same)) c.in_err-tokens.ensures.refused c.in_err-tokens.ensures.no_tokens)

pub returns-in_err-block-clause-refused : goal.returns-in_err-block-clause-refused
returns-in_err-block-clause-refused c =
    let short = not_over c.in_ok-tokens.tokens (length c.args.source.now) c.in_ok-tokens.ensures.limit.1 in
    let is : c.from_residual-in_err-block.result ≡ Err (fault_of_parser c.in_err-block.field-0.0) = search rules in
    rw is (parser_fault c.args.source.now c.in_ok-tokens.tokens c.in_err-block.field-0.0 short c.in_ok-tokens.ensures.found c.in_ok-tokens.ensures.only c.in_err-block.ensures.refused)

pub returns-in_err-resolved-clause-refused : goal.returns-in_err-resolved-clause-refused
returns-in_err-resolved-clause-refused c =
    let short = not_over c.in_ok-tokens.tokens (length c.args.source.now) c.in_ok-tokens.ensures.limit.1 in
    let read : IsRead c.args.source.now c.in_ok-tokens.tokens (plain_block c.in_ok-block.block) = record { limited = short; lexed = c.in_ok-tokens.ensures.found; lexed_only = c.in_ok-tokens.ensures.only; derived = c.in_ok-block.ensures.found; derived_only = c.in_ok-block.ensures.only } in
    let is : c.from_residual-in_err-resolved.result ≡ Err (fault_of_rules c.in_err-resolved.field-0.0) = search rules in
    rw is (rules_fault c.args.source.now c.in_ok-tokens.tokens (plain_block c.in_ok-block.block) c.in_err-resolved.field-0.0 read c.in_err-resolved.ensures.refused)

pub returns-clause-tree : goal.returns-clause-tree
returns-clause-tree c =
    let short = not_over c.in_ok-tokens.tokens (length c.args.source.now) c.in_ok-tokens.ensures.limit.1 in
    let read : IsRead c.args.source.now c.in_ok-tokens.tokens (plain_block c.in_ok-block.block) = record { limited = short; lexed = c.in_ok-tokens.ensures.found; lexed_only = c.in_ok-tokens.ensures.only; derived = c.in_ok-block.ensures.found; derived_only = c.in_ok-block.ensures.only } in
    record {
      tree = plain_block c.in_ok-block.block;
      is_source = record { has_tree = tree_there c.args.source.now c.in_ok-tokens.tokens (plain_block c.in_ok-block.block) read; lawful = c.in_ok-resolved.ensures.resolved.0; only = tree_only c.args.source.now c.in_ok-tokens.tokens (plain_block c.in_ok-block.block) read };
      placed_is = c.in_ok-resolved.ensures.resolved.1;
    }
