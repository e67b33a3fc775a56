use Rattle.std.proofs.Common.{Option, None, [], ◌∷◌, sym, subst}
use Rattle.std.specs.Option.{option_map}
use Rattle.table_core.specs.declared.value.Value.{Value}
use Rattle.image_core.specs.Records.{error_fields}
use Rattle.image_bytes.specs.Bytes.{error_format}
use Rattle.eris_write.specs.Writing.{Writes, item_in, read_in}
use Rattle.eris_write.proofs.Spelled.{no_error_spelled}
use Rattle.eris_write.proofs.Putting.{on_ok, puts_as}
use Rattle.eris_write.proofs.writer.Writer.write_error.Goals as goal

pub returns-in-None : goal.returns-in-None
returns-in-None c =
    let w = c.args.self.now in
    on_ok c.put_byte.result c.put_byte.ensures
    (λ h. subst (λ (e : Option Value). Writes w c.args.out.now c.put_byte.new.self (error_fields (option_map (read_in w) e)) (λ R. (error_format R).spell (option_map (item_in w) e))) (sym c.in-None.is)
    (puts_as c.args.out.now c.put_byte.new.self None (λ _. 0 ∷ []) (λ R. (error_format R).spell None) (λ R. sym (no_error_spelled R)) h))
