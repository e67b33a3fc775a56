use Rattle.std.proofs.Common.{rules, arith, ◌≡◌, ◌<◌, List, Some, refl, length, map}
use Rattle.std.specs.Prelude.{slice_get, vec_len}
use Rattle.std.proofs.lemmas.Option.{slice_get_read}
use Rattle.code_core.specs.Prototype.{Prototype, Prototypes, prototypes}
use Rattle.table_core.specs.declared.value.ProtoId.{ProtoId}
use Rattle.lua_heap.specs.declared.codes.Tree.{Tree}
use Rattle.lua_heap.specs.Codes.{functions, prototype_at}
use Rattle.lua_heap.proofs.Numbered.{prototype_there, inner_within, number_at, inner_is}
use Rattle.lua_heap.proofs.world.World.inner.Goals as goal

pub index-requires : goal.index-requires
index-requires c =
    let p : Prototype = prototype_at (functions c.args.self.now.codes) c.args.id.0 in
    let l : c.args.at < length c.code-code.result.now.inner.items = inner_within c.code-code.result.now.inner.items c.args.id.0 p c.args.at c.code-code.ensures.inner c.requires.place in
    let size : vec_len c.code-code.result.now.inner ≡ length c.code-code.result.now.inner.items = search rules in
    omega (arith, l, size)

pub returns-clause-number : goal.returns-clause-number
returns-clause-number c =
    let ids : List ProtoId = c.code-code.result.now.inner.items in
    let p : Prototype = prototype_at (functions c.args.self.now.codes) c.args.id.0 in
    let l : c.args.at < length ids = inner_within ids c.args.id.0 p c.args.at c.code-code.ensures.inner c.requires.place in
    let here : slice_get ids c.args.at ≡ Some c.index.result.now = slice_get_read ids (length ids) c.args.at c.index.result.now refl l c.index.ensures in
    number_at ids _ c.args.at c.index.result.now c.code-code.ensures.inner here

pub returns-clause-function : goal.returns-clause-function
returns-clause-function c =
    let codes : List Prototype = map (λ (t : Tree). t.code) c.args.self.now.codes.trees.items in
    let t : Prototypes = prototypes codes in
    let p : Prototype = prototype_at (functions c.args.self.now.codes) c.args.id.0 in
    inner_is t c.args.id.0 p (prototype_there (functions c.args.self.now.codes) c.args.id.0 c.requires.there) c.args.at c.index.result.now.0 (returns-clause-number c)
