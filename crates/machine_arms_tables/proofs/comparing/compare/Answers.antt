use Rattle.std.proofs.Common.{refl}
use Rattle.code_core.specs.Instruction.{a_of, b_of}
use Rattle.machine_arms_tables.specs.Leading.{code_at}
use Rattle.machine_arms_tables.proofs.FieldRows.{compared_named, compared_behind, compare_does}
use Rattle.machine_arms_tables.proofs.Leading.{below, got}
use Rattle.machine_arms_tables.proofs.comparing.compare.Goals as goal

pub value_numbered-left-requires : goal.value_numbered-left-requires
value_numbered-left-requires c = below c.a.ensures (compared_named (code_at c.args.site) c.requires.at c.requires.form 0 (a_of c.args.site.word) refl)

pub value_numbered-right-requires : goal.value_numbered-right-requires
value_numbered-right-requires c = below c.b.ensures (compared_named (code_at c.args.site) c.requires.at c.requires.form 1 (b_of c.args.site.word) refl)

pub branch-to-requires : goal.branch-to-requires
branch-to-requires c = compared_behind (code_at c.args.site) c.requires.at c.requires.form

pub returns : goal.returns
returns c cells = record {
  leads =
      compare_does (code_at c.args.site) c.requires.at c.requires.form c.value_numbered-left.result c.value_numbered-right.result c.in_ok-truth.truth
      (got c.args.registers.now c.a.ensures c.value_numbered-left.ensures) (got c.args.registers.now c.b.ensures c.value_numbered-right.ensures) c.in_ok-truth.ensures c.branch-to.ensures cells;
}
