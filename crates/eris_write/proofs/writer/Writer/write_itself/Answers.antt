use Rattle.std.proofs.Common.{◌≡◌, None, ◌∷◌, true, false, ap, sym, subst, rules, to_z, of_z, w64}
use Rattle.std.specs.Int.{cast_unsigned}
use Rattle.byteorder.specs.Endian.{little_bytes}
use Rattle.table_core.specs.declared.value.Value.{Value}
use Rattle.table_core.specs.declared.value.Value.TheVariants as kept
use Rattle.eris_write.specs.Output.{Puts}
use Rattle.eris_write.specs.Writing.{naming_in, read_in, unnamed_bytes}
use Rattle.eris_write.proofs.Putting.{on_ok, puts_is}
use Rattle.eris_write.proofs.Written.{value_put}
use Rattle.eris_write.proofs.writer.Writer.write_itself.Goals as goal

pub returns-in-Nil : goal.returns-in-Nil
returns-in-Nil c = on_ok c.put_byte.result c.put_byte.ensures (λ h. value_put c.args.self.now c.args.out.now c.put_byte.new.self _ c.args.value (sym c.in-Nil.is) h)

pub returns-in-Bool-true : goal.returns-in-Bool-true
returns-in-Bool-true c =
    let v : c.args.value ≡ kept.Bool true = search rules in
    on_ok c.put_byte-in-Bool-true.result c.put_byte-in-Bool-true.ensures (λ h. value_put c.args.self.now c.args.out.now c.put_byte-in-Bool-true.new.self _ c.args.value (sym v) h)

pub returns-in-Bool-false : goal.returns-in-Bool-false
returns-in-Bool-false c =
    let v : c.args.value ≡ kept.Bool false = search rules in
    on_ok c.put_byte-in-Bool-false.result c.put_byte-in-Bool-false.ensures (λ h. value_put c.args.self.now c.args.out.now c.put_byte-in-Bool-false.new.self _ c.args.value (sym v) h)

pub returns-in-Int : goal.returns-in-Int
returns-in-Int c =
    let w = c.args.self.now in
    let n : to_z w64 (of_z w64 c.in-Int.n) ≡ c.in-Int.n = search rules in
    on_ok c.put_integer_item.result c.put_integer_item.ensures
    (λ h. subst (λ (v : Value). Puts c.args.out.now c.put_integer_item.new.self None (λ _. unnamed_bytes (naming_in w) (read_in w v))) (sym c.in-Int.is)
    (puts_is _ _ None (3 ∷ little_bytes 8 (cast_unsigned w64 (to_z w64 (of_z w64 c.in-Int.n)))) (3 ∷ little_bytes 8 (cast_unsigned w64 c.in-Int.n)) (ap (λ n. 3 ∷ little_bytes 8 (cast_unsigned w64 n)) n) h))

pub returns-in-Str : goal.returns-in-Str
returns-in-Str c = on_ok c.write_string.result c.write_string.ensures (λ h. value_put c.args.self.now c.args.out.now c.write_string.new.out _ c.args.value (sym c.in-Str.is) h)

pub returns-in-Prim : goal.returns-in-Prim
returns-in-Prim c = on_ok c.put_byte-in-Prim.result c.put_byte-in-Prim.ensures (λ h. value_put c.args.self.now c.args.out.now c.put_byte-in-Prim.new.self _ c.args.value (sym c.in-Prim.is) h)

pub returns-in-Table : goal.returns-in-Table
returns-in-Table c = on_ok c.write_number.result c.write_number.ensures (λ h. value_put c.args.self.now c.args.out.now c.write_number.new.out _ c.args.value (sym c.in-Table.is) h)

pub returns-in-Func : goal.returns-in-Func
returns-in-Func c = on_ok c.write_number-in-Func.result c.write_number-in-Func.ensures (λ h. value_put c.args.self.now c.args.out.now c.write_number-in-Func.new.out _ c.args.value (sym c.in-Func.is) h)

pub returns-in-Coro : goal.returns-in-Coro
returns-in-Coro c = on_ok c.write_number-in-Coro.result c.write_number-in-Coro.ensures (λ h. value_put c.args.self.now c.args.out.now c.write_number-in-Coro.new.out _ c.args.value (sym c.in-Coro.is) h)
