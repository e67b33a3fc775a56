-- The world in memory in which a script has begun.
use Rattle.std.proofs.Common.{ℕ, ◌≡◌, List, [], ◌++◌, length, Some, ap, sym, ◌∙◌}
use Rattle.std.specs.Prelude.{map}
use Rattle.std.proofs.lemmas.List.{length-map}
use Rattle.int_core.specs.Value.{a_function, object}
use Rattle.code_core.specs.Prototype.{Prototype}
use Rattle.machine_core.specs.World.{Function, fresh, World}
use Rattle.machine_runs.specs.Opening.{numbers, main_cells, begun}
use Rattle.table_core.specs.declared.value.CoroId.{CoroId}
use Rattle.table_core.specs.declared.value.FuncId.{FuncId}
use Rattle.table_core.specs.declared.value.Value.TheVariants.{Func as FunctionValue}
use Rattle.lua_heap.specs.declared.world.Coro.TheVariants.{Fresh}
use Rattle.lua_heap.specs.declared.world.Func.{Func}
use Rattle.lua_heap.specs.declared.world.World.{World as Memory}
use Rattle.lua_heap.specs.Changes.{with_function, with_coroutine, AddsFunction, AddsCoroutine}
use Rattle.lua_heap.specs.Codes.{functions, prototype_at}
use Rattle.lua_heap.specs.Plain.{function, cell, plain}
use Rattle.lua_session.specs.Beginning.{kept_cells}
use Rattle.lua_session.proofs.Cells.{kept_read}

abbrev with_cells : World → (count : ℕ) → World
with_cells P count = record P { cells = P.cells ++ main_cells P.globals count }

abbrev with_main : World → Prototype → (count : ℕ) → World
with_main P code count = with_function (record { code = code; cells = numbers (length P.cells) count }) (with_cells P count)

abbrev with_body : World → Prototype → (count n : ℕ) → World
with_body P code count n = with_coroutine (fresh (object a_function n)) (with_main P code count)

cells_read : (W V : Memory) (count fuel : ℕ) → V ≡ record W { cells = V.cells } → V.cells.objects ≡ kept_cells W.cells.objects W.globals count → plain V fuel ≡ with_cells (plain W fuel) count
cells_read W V count fuel r o =
    ap (λ V. plain V fuel) r
    ∙ ap (λ cells. record (plain W fuel) { cells = cells }) (ap (map (cell W.strings)) o ∙ kept_read W.strings W.cells.objects W.globals count)

ends_so : (P : World) (code : Prototype) (count : ℕ) → count ≡ length code.own.upvalues
    → record (with_body P code count (length P.functions)) { main = Some (length P.coroutines); moving = [] } ≡ begun P code
unfolding begun
ends_so P code count e = ap (λ count. record (with_body P code count (length P.functions)) { main = Some (length P.coroutines); moving = [] }) e

pub begun_is : (old compiled captured defined ready : Memory) (code : Prototype) (F : Func) (f : FuncId) (co : CoroId) (count fuel : ℕ)
    → plain compiled fuel ≡ plain old fuel → compiled ≡ record old { strings = compiled.strings; codes = compiled.codes } → captured ≡ record compiled { cells = captured.cells } → captured.cells.objects ≡ kept_cells compiled.cells.objects compiled.globals count
    → AddsFunction captured defined F → prototype_at (functions captured.codes) F.code.0 ≡ code → map (λ c. c.0) F.cells.items ≡ numbers (length compiled.cells.objects) count
    → f.0 ≡ length captured.funcs.objects → AddsCoroutine defined ready (Fresh (FunctionValue f)) → co.0 ≡ length defined.coros.objects → count ≡ length code.own.upvalues
    → record (plain ready fuel) { main = Some co.0; moving = [] } ≡ begun (plain old fuel) code
begun_is old compiled captured defined ready code F f co count fuel p1 r1 r2 o2 a3 c3 n3 f3 a4 c4 e =
    let P = plain old fuel in
    let p2 : plain captured fuel ≡ with_cells P count = cells_read compiled captured count fuel r2 o2 ∙ ap (λ P. with_cells P count) p1 in
    let cells : length compiled.cells.objects ≡ length P.cells = ap (λ (W : Memory). length W.cells.objects) r1 ∙ sym (length-map old.cells.objects (cell old.strings)) in
    let main : ◌≡◌ {A = Function} (function (functions captured.codes) F) (record { code = code; cells = numbers (length P.cells) count }) =
    ap {A = Prototype} {B = Function} (λ code. record { code = code; cells = map (λ c. c.0) F.cells.items }) c3 ∙ ap {A = List ℕ} {B = Function} (λ cells. record { code = code; cells = cells }) (n3 ∙ ap (λ n. numbers n count) cells) in
    let p3 : plain defined fuel ≡ with_main P code count = a3.plain fuel ∙ ap (λ g. with_function g (plain captured fuel)) main ∙ ap (with_function (record { code = code; cells = numbers (length P.cells) count })) p2 in
    let number : f.0 ≡ length P.functions =
    f3 ∙ ap (λ (W : Memory). length W.funcs.objects) r2 ∙ ap (λ (W : Memory). length W.funcs.objects) r1 ∙ sym (length-map old.funcs.objects (function (functions old.codes))) in
    let p4 : plain ready fuel ≡ with_body P code count (length P.functions) = a4.plain fuel ∙ ap (with_coroutine (fresh (object a_function f.0))) p3 ∙ ap (with_body P code count) number in
    let last : co.0 ≡ length P.coroutines =
    c4 ∙ ap (λ (W : Memory). length W.coros.objects) a3.rest ∙ ap (λ (W : Memory). length W.coros.objects) r2 ∙ ap (λ (W : Memory). length W.coros.objects) r1 ∙ sym (length-map old.coros.objects _) in
    ap (λ (V : World). record V { main = Some co.0; moving = [] }) p4 ∙ ap (λ n. record (with_body P code count (length P.functions)) { main = Some n; moving = [] }) last ∙ ends_so P code count e
