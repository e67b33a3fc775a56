use Rattle.std.proofs.Common.{refl, [], ◌∷◌, ◌++◌, map, length, replicate, ap, ◌∙◌}
use Rattle.std.proofs.lemmas.List.{map_push}
use Rattle.table_core.specs.declared.value.CellId.{CellId}
use Rattle.table_core.specs.declared.value.FuncId.{FuncId}
use Rattle.lua_heap.specs.declared.world.Func.{Func}
use Rattle.lua_heap.specs.declared.world.World.{World as Memory}
use Rattle.lua_opening.proofs.Preludes.{copies}
use Rattle.lua_opening.proofs.functions.add_function.Goals as goal

pub returns : goal.returns
returns c =
    let old : Memory = c.args.world.now in
    let grown : Memory = c.add_func.new.self in
    let named = c.push.new.self in
    let f = c.in_ok-function.ensures.added in
    let cell : CellId = c.args.environment in
    let made : Func = record { code = c.args.code; cells = c.in_ok-cells.cells } in
    record {
      rest = ap (λ (W : Memory). record W { funcs = grown.funcs; prelude = record W.prelude { funcs = named } }) f.rest;
      made = made;
      objects = f.objects;
      code = refl;
      cells =
          ap (map (λ (x : CellId). x.0)) (c.in_ok-cells.ensures.items_if_clones_equal (λ y e. e))
          ∙ ap (λ n. map (λ (x : CellId). x.0) (replicate n cell)) (c.len-count.ensures ∙ c.code.result.now.upvalues.ok.0 ∙ ap length c.code.ensures.upvalues)
          ∙ copies _ cell;
      named =
          ap (map (λ (f : FuncId). f.0)) c.in_ok-push.ensures.items
          ∙ map_push (λ (f : FuncId). f.0) grown.prelude.funcs.items c.in_ok-function.function
          ∙ ap (λ (W : Memory). map (λ (f : FuncId). f.0) W.prelude.funcs.items ++ c.in_ok-function.function.0 ∷ []) f.rest
          ∙ ap (λ m. map (λ (f : FuncId). f.0) old.prelude.funcs.items ++ m ∷ []) c.in_ok-function.ensures.id;
    }
