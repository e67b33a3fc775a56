use Rattle.std.proofs.Common.{Some, ap, sym, ◌∙◌}
use Rattle.std.proofs.lemmas.Option.{IfSome_then}
use Rattle.code_core.specs.declared.opcode.Opcode.TheVariants.{GetUpval}
use Rattle.machine_loop.proofs.memo.read_known.Goals as goal

pub fetch-i-requires : goal.fetch-i-requires
fetch-i-requires c = c.requires.there

pub read_value-requires : goal.read_value-requires
read_value-requires c = c.requires.is_at c.fetch-i.result GetUpval c.fetch-i.ensures (sym c.opcode.ensures ∙ c.in-Some-GetUpval.is ∙ ap (λ o. Some o) c.in-Some-GetUpval.field-0-is)

pub returns-in-Some-GetUpval-clause-reads : goal.returns-in-Some-GetUpval-clause-reads
returns-in-Some-GetUpval-clause-reads c =
    IfSome_then c.read_value.result c.read_value.ensures.reads (λ to x. record {
      word = c.fetch-i.result;
      at_pc = c.fetch-i.ensures;
      is_read = sym c.opcode.ensures ∙ c.in-Some-GetUpval.is ∙ ap (λ o. Some o) c.in-Some-GetUpval.field-0-is;
      reads = x;
    })
