use Rattle.std.proofs.Common.{◌≡◌, rules, to_z, of_z, w64, None, ◌∷◌, ◌++◌, length, ap, sym, subst}
use Rattle.std.specs.Int.{cast_unsigned}
use Rattle.byteorder.specs.Endian.{little_bytes}
use Rattle.eris_write.specs.Output.{Puts, key_bytes}
use Rattle.eris_write.proofs.Putting.{on_ok, puts_is}
use Rattle.eris_write.proofs.output.Output.put_key.Goals as goal

pub returns-in-Number : goal.returns-in-Number
returns-in-Number c =
    let n : to_z w64 (of_z w64 c.in-Number.n) ≡ c.in-Number.n = search rules in
    on_ok c.put_integer_item.result c.put_integer_item.ensures
    (λ h. subst (λ k. Puts c.args.self.now c.put_integer_item.new.self None (λ _. key_bytes k)) (sym c.in-Number.is)
    (puts_is _ _ None (3 ∷ little_bytes 8 (cast_unsigned w64 (to_z w64 (of_z w64 c.in-Number.n)))) (3 ∷ little_bytes 8 (cast_unsigned w64 c.in-Number.n)) (ap (λ n. 3 ∷ little_bytes 8 (cast_unsigned w64 n)) n) h))

pub returns-in-Text : goal.returns-in-Text
returns-in-Text c =
    let bytes = c.as_slice.result.now in
    let text = c.in-Text.text.items in
    on_ok c.put_text_item.result c.put_text_item.ensures
    (λ h. subst (λ k. Puts c.args.self.now c.put_text_item.new.self None (λ _. key_bytes k)) (sym c.in-Text.is)
    (puts_is _ _ None (4 ∷ little_bytes 4 (length bytes) ++ bytes) (4 ∷ little_bytes 4 (length text) ++ text) (ap (λ l. 4 ∷ little_bytes 4 (length l) ++ l) c.as_slice.ensures.value) h))
