use Rattle.std.proofs.Common.{rules, arith, ◌≡◌, ◌<◌, ◌+◌, List, Some, refl, ap, sym, ◌∙◌, length, map, drop}
use Rattle.std.specs.Prelude.{slice_get, vec_len}
use Rattle.std.proofs.lemmas.List.{length-map}
use Rattle.std.proofs.lemmas.Option.{slice_get_read}
use Rattle.code_core.specs.Prototype.{Prototype, prototypes}
use Rattle.machine_sound.proofs.Lists.{get_map}
use Rattle.lua_heap.specs.declared.codes.Tree.{Tree}
use Rattle.lua_heap.specs.Codes.{preorder, functions}
use Rattle.lua_heap.proofs.Walk.{walk_within, found_in, passed}
use Rattle.lua_heap.proofs.codes.Codes.proto.Goals as goal

pub trees-init : goal.trees-init
trees-init c =
    let trees : List Tree = c.args.self.now.trees.items in
    let codes : List Prototype = map (λ (t : Tree). t.code) trees in
    let size : vec_len c.args.self.now.trees ≡ length trees = search rules in
    let n : length codes ≡ length trees = length-map trees (λ (t : Tree). t.code) in
    let l : 0 < length codes = walk_within codes 0 c.args.id.0 (functions c.args.self.now) c.args.id.0 c.requires refl in
    record { same = refl; within = omega (arith, l, n, size) }

pub returns-in-Ok : goal.returns-in-Ok
returns-in-Ok c =
    let trees : List Tree = c.args.self.now.trees.items in
    let codes : List Prototype = map (λ (t : Tree). t.code) trees in
    let size : vec_len c.args.self.now.trees ≡ length trees = search rules in
    let here : slice_get trees c.trees.at ≡ Some c.index.result.now = slice_get_read trees (vec_len c.args.self.now.trees) c.trees.at c.index.result.now size c.trees.invariant.within c.index.ensures in
    let e : slice_get codes c.trees.at ≡ Some c.proto.result.now = get_map (λ (t : Tree). t.code) trees c.trees.at c.index.result.now here ∙ ap (λ p. Some p) (sym c.proto.ensures.same) in
    sym c.trees.invariant.same ∙ found_in codes c.trees.at c.proto.result.now c.trees.left c.in-Ok.found.now e c.in-Ok.ensures.found

pub trees-preserved : goal.trees-preserved
trees-preserved c =
    let trees : List Tree = c.args.self.now.trees.items in
    let codes : List Prototype = map (λ (t : Tree). t.code) trees in
    let size : vec_len c.args.self.now.trees ≡ length trees = search rules in
    let here : slice_get trees c.trees.at ≡ Some c.index.result.now = slice_get_read trees (vec_len c.args.self.now.trees) c.trees.at c.index.result.now size c.trees.invariant.within c.index.ensures in
    let e : slice_get codes c.trees.at ≡ Some c.proto.result.now = get_map (λ (t : Tree). t.code) trees c.trees.at c.index.result.now here ∙ ap (λ p. Some p) (sym c.proto.ensures.same) in
    let on : slice_get (preorder (prototypes (drop (c.trees.at + 1) codes))) c.in-Err.rest ≡ slice_get (functions c.args.self.now) c.args.id.0 =
    passed codes c.trees.at c.proto.result.now c.trees.left c.in-Err.rest e c.in-Err.ensures.left ∙ c.trees.invariant.same in
    let n : length codes ≡ length trees = length-map trees (λ (t : Tree). t.code) in
    let l : c.trees.at + 1 < length codes = walk_within codes (c.trees.at + 1) c.in-Err.rest (functions c.args.self.now) c.args.id.0 c.requires on in
    record { same = on; within = omega (arith, l, n, size) }
