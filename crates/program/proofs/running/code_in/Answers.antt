use Rattle.std.proofs.Common.{rules, ◌≡◌, ◌∙◌, Err, true, false, subst}
use Rattle.compile_chunk.specs.Chunk.{IsCodeOf, script_in}
use Rattle.compile_text.specs.Source.{IsRefused}
use Rattle.program.specs.Compiling.{source_name}
use Rattle.program.specs.Faults.{fault_of_text}
use Rattle.program.specs.Checking.{begins_chunk}
use Rattle.program.proofs.CodeLemmas.{script_code, script_refusal}
use Rattle.program.proofs.running.code_in.Goals as goal

pub returns-in_err-code_of-clause-refused : goal.returns-in_err-code_of-clause-refused
returns-in_err-code_of-clause-refused c =
    let begins : begins_chunk c.args.content.now ≡ false = search rules in
    let is : c.from_residual-in_err-code_of.result ≡ Err (fault_of_text c.in_err-code_of.field-0.0) = search rules in
    let refused : IsRefused (script_in c.args.content.now) c.in_err-code_of.field-0.0 = subst (λ s. IsRefused s c.in_err-code_of.field-0.0) c.script_in.ensures c.in_err-code_of.ensures.refused in
    rw is (script_refusal c.args.content.now c.in_err-code_of.field-0.0 begins refused)

pub returns-clause-code : goal.returns-clause-code
returns-clause-code c =
    let begins : begins_chunk c.args.content.now ≡ false = search rules in
    let name : c.as_slice.result.now ≡ source_name c.args.name.now = c.as_slice.ensures.value ∙ c.in_ok-source.ensures in
    let named : IsCodeOf (source_name c.args.name.now) c.script_in.result.now true c.in_ok-code_of.field-0 = subst (λ n. IsCodeOf n c.script_in.result.now true c.in_ok-code_of.field-0) name c.in_ok-code_of.ensures.code in
    script_code c.args.name.now c.args.content.now c.in_ok-code_of.field-0 begins (subst (λ s. IsCodeOf (source_name c.args.name.now) s true c.in_ok-code_of.field-0) c.script_in.ensures named)
