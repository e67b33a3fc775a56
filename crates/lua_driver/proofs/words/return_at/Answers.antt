use Rattle.std.proofs.Common.{◌≡◌, suc, refl, sym, subst, ◌∙◌}
use Rattle.std.specs.Prelude.{IfSome}
use Rattle.code_core.specs.Instruction.{a_of, b_of}
use Rattle.code_core.specs.declared.opcode.Opcode.TheVariants.{Return}
use Rattle.instruction_forms.specs.declared.form.Form.TheVariants.{Return as ByReturn}
use Rattle.lua_driver.specs.Returning.{by_number}
use Rattle.lua_driver.proofs.Forms.{runs_so}
use Rattle.lua_driver.proofs.words.return_at.Goals as goal

pub returns : goal.returns
returns c =
    let w = c.args.here.word in
    let one_more : c.b.result ≡ suc c.in-Some.count = subst (λ o. IfSome o (λ count. c.b.result ≡ suc count)) c.in-Some.is c.few_of.ensures in
    record {
      form = ByReturn (a_of w) (b_of w);
      runs = runs_so Return (ByReturn (a_of w) (b_of w)) c.requires.runs c.requires.returns refl (λ p pc. refl) refl;
      returns = by_number (b_of w) (sym c.b.ensures ∙ one_more);
    }
