use Rattle.std.proofs.Common.{rules, ◌≡◌, to_z, of_z, w64, ◌∙◌, ap, refl}
use Rattle.std.specs.Prelude.{slice_set}
use Rattle.code_core.specs.Instruction.{a_of, b_of}
use Rattle.machine_view.proofs.Places.{register_there, next_there}
use Rattle.table_core.specs.declared.value.Value.TheVariants.{Int}
use Rattle.machine_arms_tables.specs.Leading.{code_at}
use Rattle.machine_arms_tables.proofs.FieldRows.{length_does}
use Rattle.machine_arms_tables.proofs.Leading.{below, got}
use Rattle.machine_arms_tables.proofs.lengths.get_length.Goals as goal

pub value_numbered-v-requires : goal.value_numbered-v-requires
value_numbered-v-requires c = below c.b.ensures (register_there c.requires 1 (b_of c.args.site.word) refl)

pub store-requires : goal.store-requires
store-requires c = record { there = register_there c.requires 0 (a_of c.args.site.word) refl; next = next_there c.requires refl }

pub returns : goal.returns
returns c cells =
    let m : to_z w64 (of_z w64 c.in_ok-n.n) ≡ c.in_ok-n.n = search rules in
    record {
      leads = length_does (code_at c.args.site) c.requires (got c.args.registers.now c.b.ensures c.value_numbered-v.ensures) c.in_ok-n.ensures
          (c.store.ensures.registers ∙ ap (λ n. slice_set c.args.registers.now (a_of c.args.site.word) (Int n)) m) c.store.ensures.next cells;
    }
