use Rattle.std.proofs.Common.{◌≡◌, Err, true, false, sym, subst, ap, ◌∙◌}
use Rattle.tree_core.specs.Plain.{plain_block}
use Rattle.lua_lex.specs.Lexical.{is_end}
use Rattle.lua_parse.specs.declared.fault.Fault.TheVariants.{Refused}
use Rattle.lua_parse.specs.Moves.{a_block, block}
use Rattle.lua_parse.specs.Grammar.{expects}
use Rattle.lua_parse.specs.Reading.{Reads, whole, stuck}
use Rattle.lua_parse.specs.Answers.{Answers, given_block}
use Rattle.token_cursor.specs.Words.{first}
use Rattle.lua_parse.proofs.StopLemmas.{one_tree}
use Rattle.lua_parse.proofs.ChunkLemmas.{derives, refusal, stuck_behind, stuck_within}
use Rattle.lua_parse.proofs.chunk.parse.Goals as goal

pub returns-then-not-is_end-clause-refused : goal.returns-then-not-is_end-clause-refused
returns-then-not-is_end-clause-refused c =
    let reads : Reads (expects 400 block) c.args.tokens (whole (a_block (plain_block c.in-Ok.found.node)) c.in-Ok.found.height c.block.new.cursor) = rw c.new-cursor.ensures at c.in-Ok.ensures.reads.tells in
    let other : is_end (first c.block.new.cursor).0 ≡ false = ap is_end (sym c.peek.ensures.is) ∙ sym c.if-not-is_end.ensures in
    refusal c.args.tokens c.block.new.cursor c.line.result (stuck_behind c.args.tokens c.block.new.cursor (plain_block c.in-Ok.found.node) c.in-Ok.found.height reads c.peek.ensures.more other) c.line.ensures.is

pub returns-in-Ok-clause-found : goal.returns-in-Ok-clause-found
returns-in-Ok-clause-found c =
    let reads : Reads (expects 400 block) c.args.tokens (whole (a_block (plain_block c.in-Ok.found.node)) c.in-Ok.found.height c.block.new.cursor) = rw c.new-cursor.ensures at c.in-Ok.ensures.reads.tells in
    let is : is_end (first c.block.new.cursor).0 ≡ true = ap is_end (sym c.peek.ensures.is) ∙ sym c.if-not-is_end.ensures in
    derives c.args.tokens c.block.new.cursor (plain_block c.in-Ok.found.node) c.in-Ok.found.height c.requires reads c.peek.ensures.more is

pub returns-in-Ok-clause-only : goal.returns-in-Ok-clause-only
returns-in-Ok-clause-only c =
    let reads : Reads (expects 400 block) c.args.tokens (whole (a_block (plain_block c.in-Ok.found.node)) c.in-Ok.found.height c.block.new.cursor) = rw c.new-cursor.ensures at c.in-Ok.ensures.reads.tells in
    let is : is_end (first c.block.new.cursor).0 ≡ true = ap is_end (sym c.peek.ensures.is) ∙ sym c.if-not-is_end.ensures in
    λ other d. one_tree c.args.tokens other (plain_block c.in-Ok.found.node) d (derives c.args.tokens c.block.new.cursor (plain_block c.in-Ok.found.node) c.in-Ok.found.height c.requires reads c.peek.ensures.more is)

pub returns-in-Err-Refused-clause-refused : goal.returns-in-Err-Refused-clause-refused
returns-in-Err-Refused-clause-refused c =
    let h : Answers given_block block 400 c.new-cursor.result (Err c.in-Err-Refused.field-0) c.block.new.cursor = c.in-Err-Refused.ensures.reads in
    let k : Answers given_block block 400 c.new-cursor.result (Err Refused) c.block.new.cursor = subst (λ f. Answers given_block block 400 c.new-cursor.result (Err f) c.block.new.cursor) c.in-Err-Refused.field-0-is h in
    let reads : Reads (expects 400 block) c.args.tokens (stuck c.block.new.cursor) = rw c.new-cursor.ensures at k.tells in
    refusal c.args.tokens c.block.new.cursor c.line-in-Err-Refused.result (stuck_within c.args.tokens c.block.new.cursor reads) c.line-in-Err-Refused.ensures.is
