-- An upvalue that is written.
use Rattle.std.proofs.Common.{◌≡◌, ℕ, List, [], ◌++◌, length, Option, Some, None, refl, ap, ◌∙◌, true}
use Rattle.std.specs.Prelude.{Bool, is_some, slice_get}
use Rattle.int_core.specs.Value.{Value, bind}
use Rattle.machine_core.specs.World.{Cell, place_of, read_cell, write_cell}
use Rattle.machine_core.specs.Text.{Arg, arg, write_upvalue}
use Rattle.machine_core.specs.Moves.{Made, made, outside, own_cell, do_outside, move, act, Row, Outcome, trapped, run}
use Rattle.machine_sound.proofs.Lists.{bind_at, bind_some, some_is}
use Rattle.lua_heap.specs.declared.world.World.{World as Memory}
use Rattle.lua_heap.specs.Changes.{value_in}
use Rattle.lua_heap.specs.Plain.{plain}
use Rattle.move_laws.specs.Memory.{IsSafe}
use Rattle.machine_moves.specs.Code.{HasUpvalue}

upvalue_at : (W : Memory) (u : ℕ) (x : Arg) (env : List Value) (d : Made Bool) → move (outside (write_upvalue u x)) env (plain W 0) ≡ Some d → HasUpvalue W u
upvalue_at W u x env d m =
    let V = plain W 0 in
    let a = bind_some (do_outside (write_upvalue u x) env V) (place_of V) d m in
    let b = bind_some {A = ℕ × Cell} (λ c. bind (read_cell V c.1) (λ _. made (write_cell V c.0 c.1 (arg env x)) [] true)) (own_cell V a.0 u) d a.2 in
    let c = bind_some {B = ℕ × Cell} (λ c. bind {B = ℕ × Cell} (slice_get V.cells c) (λ cell. Some (c, cell))) (slice_get a.0.function.cells u) b.0 b.1 in
    let e = bind_some {B = ℕ × Cell} (λ cell. Some (c.0, cell)) (slice_get V.cells c.0) b.0 c.2 in
    let v = bind_some (λ _. made (write_cell V b.0.0 b.0.1 (arg env x)) [] true) (read_cell V b.0.1) d b.2 in
    let both : (c.0, e.0) ≡ b.0 = some_is {o = Some (c.0, e.0)} refl e.2 in
    let is : value_in V c.0 ≡ Some v.0 = bind_at (read_cell V) (slice_get V.cells c.0) e.0 e.1 ∙ ap (λ (x : ℕ × Cell). read_cell V x.1) both ∙ v.1 in
    record { place = a.0; is = a.1; cell = c.0; there = c.1; value = ap is_some is }

pub can_store : {W : Memory} {env : List Value} (u : ℕ) (x : Arg) (k : ℕ → Bool → Row) → IsSafe (act (outside (write_upvalue u x)) k) env W → HasUpvalue W u
can_store {W} {env} u x k s = by (move (outside (write_upvalue u x)) env (plain W 0)) refl
  where
    by : (o : Option (Made Bool)) → move (outside (write_upvalue u x)) env (plain W 0) ≡ o → HasUpvalue W u
    by (Some d) e = upvalue_at W u x env d e
    by None e = absurd (s.never 0 (ap (λ o. elim o as (λ _. Outcome) [ None ↦ trapped | Some d ↦ run (k (length env) d.told) (env ++ d.values) d.world ]) e))
