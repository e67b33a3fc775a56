use Rattle.std.proofs.Common.{rules, ◌≡◌, ◌<◌, sym, refl, subst, length}
use Rattle.std.specs.Prelude.{slice_set}
use Rattle.code_core.specs.Instruction.{a_of, sbx_of}
use Rattle.machine_core.specs.Text.{written}
use Rattle.machine_view.proofs.Places.{register_there, next_there}
use Rattle.table_core.specs.declared.value.Value.TheVariants.{Int}
use Rattle.machine_arms_numbers.proofs.LoadRows.{written_does}
use Rattle.machine_arms_numbers.proofs.loads.load_integer.Goals as goal

pub put_integer-requires : goal.put_integer-requires
put_integer-requires c = record { there = register_there c.requires 0 (a_of c.args.site.word) refl; next = next_there c.requires refl }

pub returns : goal.returns
returns c =
    let t : c.put_integer.new.registers ≡ slice_set c.args.registers.now (a_of c.args.site.word) (Int (sbx_of c.args.site.word)) = search rules in
    written_does (written (Rattle.int_core.specs.Value.integer (sbx_of c.args.site.word))) 1 (Int (sbx_of c.args.site.word)) (λ p pc. refl) (λ texts. refl) (subst (λ n. n < length c.args.site.words.now) (sym c.put_integer.ensures.next) (next_there c.requires refl)) (register_there c.requires 0 (a_of c.args.site.word) refl) t c.put_integer.ensures.next
