use Rattle.std.proofs.Common.{◌≡◌, suc, ◌+◌, refl, ap, sym, subst, ◌∙◌, arith, take}
use Rattle.std.specs.Prelude.{slice_get, IsSome, is_some}
use Rattle.std.proofs.lemmas.Option.{slice_get_within}
use Rattle.std.proofs.lemmas.List.{take_all}
use Rattle.code_core.specs.Prototype.{Prototype, list_of}
use Rattle.lua_stack.proofs.Parts.{take_next}
use Rattle.lua_heap.specs.Codes.{functions}
use Rattle.lua_heap.specs.declared.world.World.{World as Memory}
use Rattle.lua_opening.specs.Functions.{AddsFunctions}
use Rattle.lua_opening.proofs.Preludes.{added_none, added_more, text_there, counted, at_place}
use Rattle.lua_opening.proofs.functions.add_functions.Goals as goal

pub overflow_cast-place : goal.overflow_cast-place
overflow_cast-place c =
    let protos = c.behind-prelude.inside.protos in
    let n = counted protos.items _ _ _ _ c.len-count.ensures protos.ok.0 (c.behind-prelude.view_is ∙ c.proto.ensures.same) refl in
    let t = c.functions-test.true in
    omega (arith, n, t, c.requires.few)

pub functions-init : goal.functions-init
functions-init c = record {
  added = added_none c.args.world.now c.add_code.new.self c.args.environment.0 c.args.prelude c.in_ok-text.ensures.added c.requires.none c.requires.unnamed;
  codes = refl;
  strings = refl;
}

pub inner-code-requires-clause-place : goal.inner-code-requires-clause-place
inner-code-requires-clause-place c =
    let protos = c.behind-prelude.inside.protos in
    let n = counted protos.items _ _ _ _ c.len-count.ensures protos.ok.0 (c.behind-prelude.view_is ∙ c.proto.ensures.same) refl in
    let t = c.functions-test.true in
    let there = at_place (list_of c.args.prelude.inner) c.functions.place (omega (arith, n, t)) in
    let e = text_there c.args.world.now c.add_code.new.self c.functions.world c.args.prelude c.in_ok-text.text.0 c.in_ok-text.ensures.added c.in_ok-text.ensures.id c.functions.invariant.codes in
    subst (λ (p : Prototype). IsSome (slice_get (list_of p.inner) c.functions.place)) (sym e) (ap is_some there.1)

pub add_function-requires-clause-there : goal.add_function-requires-clause-there
add_function-requires-clause-there c =
    let protos = c.behind-prelude.inside.protos in
    let n = counted protos.items _ _ _ _ c.len-count.ensures protos.ok.0 (c.behind-prelude.view_is ∙ c.proto.ensures.same) refl in
    let t = c.functions-test.true in
    let there = at_place (list_of c.args.prelude.inner) c.functions.place (omega (arith, n, t)) in
    let e = text_there c.args.world.now c.add_code.new.self c.functions.world c.args.prelude c.in_ok-text.text.0 c.in_ok-text.ensures.added c.in_ok-text.ensures.id c.functions.invariant.codes in
    slice_get_within (functions c.functions.world.codes) c.inner-code.result.0 there.0 (c.inner-code.ensures.function ∙ ap (λ (p : Prototype). slice_get (list_of p.inner) c.functions.place) e ∙ there.1)

pub functions-preserved : goal.functions-preserved
functions-preserved c =
    let protos = c.behind-prelude.inside.protos in
    let n = counted protos.items _ _ _ _ c.len-count.ensures protos.ok.0 (c.behind-prelude.view_is ∙ c.proto.ensures.same) refl in
    let t = c.functions-test.true in
    let i = c.functions.invariant in
    let o = c.in_ok-add_function.ensures in
    let ps = list_of c.args.prelude.inner in
    let there = at_place ps c.functions.place (omega (arith, n, t)) in
    let e = text_there c.args.world.now c.add_code.new.self c.functions.world c.args.prelude c.in_ok-text.text.0 c.in_ok-text.ensures.added c.in_ok-text.ensures.id i.codes in
    let next : suc c.functions.place ≡ c.functions.place + 1 = omega arith in
    let got = c.inner-code.ensures.function ∙ ap (λ (p : Prototype). slice_get (list_of p.inner) c.functions.place) e ∙ there.1 in
    record {
      added =
          subst (AddsFunctions c.args.world.now c.add_function.new.world c.args.environment.0) (sym (take_next c.functions.place ps there.0 there.1) ∙ ap (λ n. take n ps) next)
          (added_more c.args.world.now c.functions.world c.add_function.new.world c.args.environment.0 c.inner-code.result.0 (take c.functions.place ps) there.0 i.added o got);
      codes = ap (λ (W : Memory). W.codes) o.rest ∙ i.codes;
      strings = ap (λ (W : Memory). W.strings) o.rest ∙ i.strings;
    }

pub returns : goal.returns
returns c =
    let protos = c.behind-prelude.inside.protos in
    let n = counted protos.items _ _ _ _ c.len-count.ensures protos.ok.0 (c.behind-prelude.view_is ∙ c.proto.ensures.same) refl in
    let f = c.functions-test.false in
    let ps = list_of c.args.prelude.inner in
    subst (AddsFunctions c.args.world.now c.functions.world c.args.environment.0) (take_all c.functions.place ps (omega (arith, n, f))) c.functions.invariant.added
