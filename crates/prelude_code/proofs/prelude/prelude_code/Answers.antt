use Rattle.std.proofs.Common.{◌≡◌, true, false, [], length, refl, sym, ap, subst, ◌∙◌, rules}
use Rattle.code_core.specs.Prototype.{list_of}
use Rattle.library_rows.specs.PreludeText.{prelude_text}
use Rattle.compile_chunk.specs.Chunk.{IsCodeOf}
use Rattle.prelude_guard.specs.Checks.{all_guarded}
use Rattle.prelude_code.proofs.Preludes.{counted, named, no_prelude, no_guard}
use Rattle.prelude_code.proofs.prelude.prelude_code.Goals as goal

pub returns-then-len-functions-clause-refused : goal.returns-then-len-functions-clause-refused
returns-then-len-functions-clause-refused c =
    let protos = c.behind-checked.inside.protos in
    let count : c.len.result ≡ length (list_of c.in_ok-checked.checked.inner) = counted protos.items _ _ _ _ c.len.ensures protos.ok.0 (c.behind-checked.view_is ∙ c.proto.ensures.same) refl in
    let compiled : IsCodeOf [] prelude_text false c.in_ok-checked.checked = subst (λ s. IsCodeOf [] s false c.in_ok-checked.checked) (c.as_bytes.ensures.value ∙ c.text.ensures.text) c.in_ok-checked.ensures.code in
    no_prelude c.in_ok-checked.checked compiled (λ same. c.if-len-functions.true (count ∙ same ∙ sym (named c.functions.result.now c.functions.ensures)))

pub returns-then-not-all_guarded-clause-refused : goal.returns-then-not-all_guarded-clause-refused
returns-then-not-all_guarded-clause-refused c =
    let compiled : IsCodeOf [] prelude_text false c.in_ok-checked.checked = subst (λ s. IsCodeOf [] s false c.in_ok-checked.checked) (c.as_bytes.ensures.value ∙ c.text.ensures.text) c.in_ok-checked.ensures.code in
    let refused : c.all_guarded.result ≡ false = search rules in
    let same : c.proto-2.result.now ≡ c.in_ok-checked.checked = c.proto-2.ensures.same in
    no_guard c.in_ok-checked.checked compiled (sym (ap all_guarded same) ∙ sym c.all_guarded.ensures ∙ refused)

pub returns-clause-code : goal.returns-clause-code
returns-clause-code c =
    let protos = c.behind-checked.inside.protos in
    let count : c.len.result ≡ length (list_of c.in_ok-checked.checked.inner) = counted protos.items _ _ _ _ c.len.ensures protos.ok.0 (c.behind-checked.view_is ∙ c.proto.ensures.same) refl in
    let compiled : IsCodeOf [] prelude_text false c.in_ok-checked.checked = subst (λ s. IsCodeOf [] s false c.in_ok-checked.checked) (c.as_bytes.ensures.value ∙ c.text.ensures.text) c.in_ok-checked.ensures.code in
    let kept : c.all_guarded.result ≡ true = search rules in
    let same : c.proto-2.result.now ≡ c.in_ok-checked.checked = c.proto-2.ensures.same in
    record {
      compiled = compiled;
      functions = sym count ∙ c.if-len-functions.false ∙ named c.functions.result.now c.functions.ensures;
      guarded = sym (ap all_guarded same) ∙ sym c.all_guarded.ensures ∙ kept;
    }
