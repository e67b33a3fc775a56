use Rattle.std.proofs.Common.{rules, ◌≡◌, length, ap, ◌∙◌}
use Rattle.std.specs.Prelude.{map, vec_len}
use Rattle.code_core.specs.Prototype.{Prototype}
use Rattle.lua_heap.specs.declared.world.World.{World as Memory}
use Rattle.lua_heap.specs.Codes.{functions, prototype_at}
use Rattle.lua_heap.specs.Plain.{plain}
use Rattle.lua_heap.specs.Reading.{value}
use Rattle.step_laws.proofs.Ready.{sound_by}
use Rattle.lua_heap.proofs.Added.{code_there}
use Rattle.lua_session.proofs.Begun.{begun_is}
use Rattle.lua_session.proofs.beginning.begin.Goals as goal

pub returns-clause-begun : goal.returns-clause-begun
returns-clause-begun c = λ fuel.
    let W = c.args.world.now in
    let compiled = c.add_code.new.self in
    let captured = c.main_cells.new.world in
    let defined = c.add_func.new.self in
    let ready = c.add_coro.new.self in
    let a1 = c.in_ok-proto.ensures.added in
    let p1 : plain compiled fuel ≡ plain W fuel = a1.plain c.requires.primitives fuel (sound_by c.requires.primitives W 0 fuel c.requires.sound) in
    let size : vec_len c.behind-code.inside.upvalues ≡ length c.behind-code.inside.upvalues.items = search rules in
    let codes : functions captured.codes ≡ functions compiled.codes = ap (λ (W : Memory). functions W.codes) c.in_ok-cells.ensures.rest in
    ap (λ vs. record (plain ready fuel) { main = Rattle.std.proofs.Common.Some c.in_ok-main.main.0; moving = map (value ready.strings) vs }) c.clear.ensures.items
    ∙ begun_is W compiled captured defined ready c.args.code _ c.in_ok-function.function c.in_ok-main.main _ fuel p1 a1.rest c.in_ok-cells.ensures.rest c.in_ok-cells.ensures.cells c.in_ok-function.ensures.added
    (ap (λ ps. prototype_at ps c.in_ok-proto.proto.0) codes ∙ code_there W compiled c.args.code c.in_ok-proto.proto.0 a1 c.in_ok-proto.ensures.id) c.in_ok-cells.ensures.ids
    c.in_ok-function.ensures.id c.in_ok-main.ensures.added c.in_ok-main.ensures.id
    (c.len-count.ensures ∙ size ∙ ap (λ (p : Prototype). length p.own.upvalues) (c.behind-code.view_is ∙ c.proto.ensures.same))
