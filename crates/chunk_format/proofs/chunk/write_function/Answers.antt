use Rattle.std.proofs.Common.{List, ℕ, subst, sym}
use Rattle.chunk_format.specs.Grammar.{WholeOf}
use Rattle.chunk_format.proofs.SpelledFunctions.{whole_spelled, function_written}
use Rattle.chunk_format.proofs.chunk.write_function.Goals as goal

pub returns-clause-in_grammar : goal.returns-clause-in_grammar
returns-clause-in_grammar c =
    let spelling = function_written c.args.proto.now c.new-out.result.items c.write.new.out.items c.new-out.ensures.items c.in_ok-write.ensures in
    subst (λ (bytes : List ℕ). WholeOf c.args.proto.now bytes) (sym spelling) (whole_spelled c.args.proto.now c.requires)

pub returns-clause-spelling : goal.returns-clause-spelling
returns-clause-spelling c = function_written c.args.proto.now c.new-out.result.items c.write.new.out.items c.new-out.ensures.items c.in_ok-write.ensures
