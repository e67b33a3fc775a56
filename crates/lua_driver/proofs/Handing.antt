-- A return to a Lua frame that waits: the values move, and that frame goes on with them. These are two steps of the machine.
use Rattle.std.proofs.Common.{◌≡◌, ℕ, ◌+◌, ◌<◌, ◌≤◌, List, [], ◌++◌, length, Option, Some, None, refl, ap, sym, subst, ◌∙◌, arith, Bool, false}
use Rattle.std.specs.Prelude.{◌^◌, map}
use Rattle.std.proofs.Math.Seq.{drop-append_seam}
use Rattle.library_rows.specs.Library.{all_entries}
use Rattle.int_core.specs.Value.{Value, bind, boolean, is_known, last}
use Rattle.machine_core.specs.World.{Frame, closing, World, Stack, stack_of}
use Rattle.machine_core.specs.Text.{results}
use Rattle.machine_core.specs.InstructionRows.{returns}
use Rattle.machine_core.specs.FrameRows.{expand, handed, leave_row}
use Rattle.machine_core.specs.Moves.{Made, made, TopShape, runs_main, see_top, top_now, top_shape, go, stop, Row}
use Rattle.machine_sound.proofs.Lists.{some_is}
use Rattle.table_core.specs.declared.value.Value.{Value as Kept}
use Rattle.lua_stack.specs.declared.frame.Top.{Top}
use Rattle.lua_stack.specs.declared.frame.Top.TheVariants.{Lua}
use Rattle.lua_stack.specs.declared.frame.Wait.{Wait as KeptWait}
use Rattle.lua_stack.specs.declared.frame.Wait.TheVariants.{Running}
use Rattle.lua_heap.specs.declared.world.World.{World as Memory}
use Rattle.lua_heap.specs.Cells.{CellsAreListed}
use Rattle.lua_heap.specs.Plain.{plain}
use Rattle.lua_heap.specs.Reading.{value}
use Rattle.move_laws.specs.Memory.{HasFrame, InOrder, IsSound, Leads, Makes, Steps}
use Rattle.move_laws.proofs.Order.{order_after, steps_of}
use Rattle.move_laws.proofs.Rows.{first, ended}
use Rattle.machine_moves.specs.Ending.{ending_of}
use Rattle.machine_moves.specs.Tops.{shape_of}
use Rattle.machine_moves.specs.declared.ending.Ending.{Ending as KeptEnding}
use Rattle.machine_moves.specs.declared.ending.Ending.TheVariants.{Go, Spent}
use Rattle.machine_calls.specs.Tails.{Drops}
use Rattle.machine_calls.proofs.Left.{left_is}
use Rattle.machine_returns.specs.Waking.{HasWait, IsSolid, WaitsSo, Wakes}
use Rattle.machine_returns.proofs.Closed.{not_spent, return_text, steps_first}
use Rattle.machine_returns.proofs.Woken.{moved}
use Rattle.step_laws.specs.Steps.{Does, IsReady}
use Rattle.step_laws.proofs.Stepping.{instruction_is_step}
use Rattle.step_laws.proofs.Ready.{go_has_frame, ready_is_sound, steps_stay_ready}
use Rattle.running_frame.specs.declared.place.Here.{Here}
use Rattle.running_frame.specs.Here.{IsHere}
use Rattle.machine_step.specs.Places.{GoesOnSo, IsAwake, WaitsHere}
use Rattle.machine_step.proofs.Again.{ready_without, solid_with, waits_with, wakes_with}
use Rattle.machine_step.proofs.Awake.{awake, goes_on}
use Rattle.lua_driver.specs.Returning.{Returns}
use Rattle.lua_driver.specs.Turns.{GoesFurther}
use Rattle.lua_driver.proofs.Ahead.{at_once}
use Rattle.lua_driver.proofs.AnyRows.{none_called, none_called_safe}
use Rattle.lua_driver.proofs.Few.{steps_by_form}
use Rattle.lua_driver.proofs.Reaching.{reached_more, reached_none}

-- a world in memory in which these values move

one_is_small : 1 < 2 ^ 63
one_is_small = omega arith

abbrev carrying : Memory → (values : List Kept) → length values ≤ 1 → Memory
carrying W values few = record W { moving = record { ptr = W.moving.ptr; len = length values; cap = 1; alloc = W.moving.alloc; items = values; ok = (refl, few); small = one_is_small } }

-- what is on top is the same whatever moves

top_moved : (V : World) (vs : List Value) (o : Option Frame) → top_shape (moved V vs) o ≡ top_shape V o
top_moved V vs (Some (closing e left)) = refl
top_moved V vs _ = refl

abbrev top_in : World → Option Stack → Option TopShape
top_in V o = bind o (λ s. Some (top_shape V (last s.frames)))

tops_moved : (V : World) (vs : List Value) (o : Option Stack) → top_in (moved V vs) o ≡ top_in V o
tops_moved V vs None = refl
tops_moved V vs (Some s) = ap (λ t. Some t) (top_moved V vs (last s.frames))

abbrev told_top : World → Option TopShape → Option (Made TopShape)
told_top V o = bind o (λ top. made V [] top)

told_is : (V : World) (o : Option TopShape) (t : TopShape) → told_top V o ≡ made V [] t → o ≡ Some t
told_is V None t e = absurd (cc)
told_is V (Some u) t e = ap (λ u. Some u) (ap (λ (d : Made TopShape). d.told) (some_is {o = made V [] u} refl e))

sees_still : (W M : Memory) (vs : List Value) (told : TopShape) → ((fuel : ℕ) → plain M fuel ≡ moved (plain W fuel) vs) → Makes W W see_top [] [] told → Makes M M see_top [] [] told
sees_still W M vs told m s = record {
  is = λ fuel.
      let V = plain W fuel in
      let now : top_now V ≡ Some told = told_is V (top_now V) told (s.is fuel) in
      ap (λ U. told_top U (top_now U)) (m fuel)
      ∙ ap (told_top (moved V vs)) (tops_moved V vs (stack_of V) ∙ now)
      ∙ ap (λ U. made U [] told) (sym (m fuel));
}

-- the frame is left: the values move

module _ (W gone M : Memory) (values : List Kept) (r : Returns W values) (top : Top) (d : Drops W gone) (m : (fuel : ℕ) → plain M fuel ≡ moved (plain gone fuel) (map (value W.strings) values))
    (sees : Makes gone gone see_top [] [] (shape_of (runs_main (plain gone 0)) top)) where
  abbrev vs : List Value
  vs = map (value W.strings) values

  abbrev told : TopShape
  told = shape_of (runs_main (plain gone 0)) top

  row_leads : (e : KeptEnding) → ((in_main : Bool) → handed (shape_of in_main top) ≡ stop (ending_of e)) → (v : ℕ) (env : List Value) → Leads (expand (return_text r.from r.count v (is_known (boolean false)))) env W M (ending_of e)
  row_leads e h v env =
      first (λ w _. leave_row (results w)) (r.gives env)
      (first (λ _ top. handed top) (left_is W gone M r.runs.runs.place (env ++ vs) (results (length env)) vs told r.runs.runs.is d m (drop-append_seam env vs) (sees_still gone M vs told m sees))
      (subst (λ (row : Row). Leads row ((env ++ vs) ++ []) M M (ending_of e)) (sym (h (runs_main (plain gone 0)))) ended))

  pub leaves : (e : KeptEnding) → ((in_main : Bool) → handed (shape_of in_main top) ≡ stop (ending_of e)) → (e ≡ Spent → ⊥) → (rows : ℕ → Row) (fuel : ℕ) → Does rows go W fuel M fuel (ending_of e)
  leaves e h n rows fuel =
      let place = r.runs.runs.place in
      let steps : (env : List Value) → Steps (expand (returns r.from r.count)) env W fuel M fuel (ending_of e) =
      λ env. steps_first (λ v s. expand (return_text r.from r.count v s)) (r.none env) (steps_of fuel (not_spent e n) (row_leads e h (length env) (env ++ []))) in
      instruction_is_step rows W M fuel fuel (ending_of e) r.form r.runs.runs r.runs.has (steps_by_form values r.returns r.gives steps place.function.code place.top.own.pc)

module _ (W gone : Memory) (values : List Kept) (r : Returns W values) (ready : IsReady (length all_entries) go W) (still : W.moving.items ≡ []) (top : Top)
    (d : Drops W gone) (rest : gone ≡ record W { cells = gone.cells; coros = gone.coros }) (listed : CellsAreListed gone) (sees : Makes gone gone see_top [] [] (shape_of (runs_main (plain gone 0)) top)) where
  abbrev M : Memory
  M = carrying gone values r.few

  texts : gone.strings ≡ W.strings
  texts = ap (λ (W : Memory). W.strings) rest

  pub order_gone : InOrder gone
  order_gone = order_after ready.order texts (ap (λ (W : Memory). W.codes) rest) listed

  moves : (fuel : ℕ) → plain M fuel ≡ moved (plain gone fuel) (map (value W.strings) values)
  moves fuel = ap (λ texts. moved (plain gone fuel) (map (value texts) values)) texts

  -- where it is not for a Lua frame that waits, that is all
  pub left_at_once : (last : Memory) (e : KeptEnding) → last ≡ record gone { moving = last.moving } → last.moving.items ≡ values → ((in_main : Bool) → handed (shape_of in_main top) ≡ stop (ending_of e)) → (e ≡ Spent → ⊥)
      → (rows : ℕ → Row) (fuel : ℕ) → GoesFurther rows go W fuel last fuel (ending_of e)
  left_at_once last e l items h n rows fuel =
      let m : (fuel : ℕ) → plain last fuel ≡ moved (plain gone fuel) (map (value W.strings) values) =
      λ fuel. ap (λ (W : Memory). plain W fuel) l ∙ ap (λ vs. moved (plain gone fuel) (map (value gone.strings) vs)) items ∙ moves fuel in
      at_once ready (leaves W gone last values r top d m sees e h n rows fuel)

  module _ (is_lua : top ≡ Lua) where
    one_step : (rows : ℕ → Row) (fuel : ℕ) → Does rows go W fuel M fuel go
    one_step = leaves W gone M values r top d moves sees Go (λ in_main. ap (λ top. handed (shape_of in_main top)) is_lua) (λ e. absurd (cc))

    ready_moving : IsReady (length all_entries) go M
    ready_moving = steps_stay_ready (length all_entries) none_called none_called_safe go go W M 0 0 ready (one_step none_called 0) (record { codes = order_gone.codes; listed = order_gone.listed })

    nothing : (fuel : ℕ) → moved (plain gone fuel) [] ≡ plain gone fuel
    nothing fuel = ap (λ vs. moved (plain gone fuel) (map (value gone.strings) vs)) (sym (ap (λ (W : Memory). W.moving.items) rest ∙ still))

    -- the Lua frame below could go on without them too
    pub ready_gone : IsReady (length all_entries) go gone
    ready_gone = ready_without gone M.moving nothing ready_moving order_gone

    gone_has_frame : HasFrame gone
    gone_has_frame = go_has_frame (length all_entries) gone ready_gone

    sound_moving : IsSound M
    sound_moving = ready_is_sound (length all_entries) go M ready_moving

    -- it is woken with the values
    module _ (again : Memory) (here : Here) (wait : KeptWait) (at : IsHere gone here) (waits : here.runs ≡ false) (waited : HasWait gone wait) (set : WaitsSo gone again Running) (kept : again ≡ record gone { coros = again.coros }) (listed_on : CellsAreListed again) where
      waits_at : WaitsHere M here.pc here.word
      waits_at = waits_with gone M.moving here sound_moving at waits

      wakes : Wakes M again wait values
      wakes = let f = gone_has_frame in wakes_with gone M.moving nothing again wait f.place f.is (waited.is f.place f.is) set kept

      pub solid_woken : IsSolid again
      solid_woken = solid_with gone M.moving nothing ready_moving order_gone wakes kept listed_on

      pub awake_with : IsAwake again here.pc here.word wait values
      awake_with = awake waits_at wakes sound_moving solid_woken.order

      pub left_and_gone_on : (last : Memory) (to : KeptEnding) → GoesOnSo again last here.word wait values (ending_of to) → (rows : ℕ → Row) (fuel : ℕ) → GoesFurther rows go W fuel last fuel (ending_of to)
      left_and_gone_on last to g rows fuel = record {
        mid = M;
        rest = fuel;
        at = go;
        goes_on = λ h. h;
        reaches = reached_more rows reached_none (one_step rows fuel);
        ready = ready_moving;
        does = (goes_on waits_at wakes g).is rows fuel;
      }
