-- Who catches an error.
use Rattle.std.proofs.Common.{◌≡◌, ◌++◌, List, [], ◌∷◌, length, Option, Some, None, refl, ap, ap₂, sym, ◌∙◌, subst, Bool, true, false}
use Rattle.std.specs.Prelude.{reverse}
use Rattle.int_core.specs.Value.{Value, bind}
use Rattle.machine_core.specs.World.{Stack, stack_of}
use Rattle.machine_core.specs.FrameRows.{coroutine_fails, raised_row, raised_to}
use Rattle.machine_core.specs.Moves.{Made, made, TopShape, xpcall_top, see_catcher, catcher, handler_value, top_shape, runs_main, Row, stop, Ending, unwinding, Outcome, trapped, run}
use Rattle.table_core.specs.declared.value.CoroId.{CoroId}
use Rattle.table_core.specs.declared.value.Value.{Value as Kept}
use Rattle.lua_stack.specs.declared.frame.Top.{Top}
use Rattle.lua_stack.specs.declared.frame.Top.TheVariants.{Missing, Xpcall}
use Rattle.lua_stack.specs.Frames.{KeptStack, frames, handlers_of, shape_of, Tells}
use Rattle.lua_heap.specs.declared.world.World.{World as Memory}
use Rattle.lua_heap.specs.Plain.{plain}
use Rattle.lua_heap.specs.Reading.{value}
use Rattle.move_laws.specs.Memory.{HasStack, IsSafe, Leads, Makes, Runs}
use Rattle.move_laws.proofs.Rows.{first, ended, safe_after}
use Rattle.machine_moves.proofs.OnTop.{stack_kept}
use Rattle.machine_errors.specs.Catching.{Catches, uncaught}

pub catcher_seen : (W : Memory) (co : CoroId) (s : KeptStack) (top : Top) (env : List Value) → Runs W co s → Tells top (λ f. catcher (reverse (frames f s)))
    → Makes W W see_catcher env (handlers_of (value W.strings) top) (shape_of (runs_main (plain W 0)) top)
catcher_seen W co s top env r t = record {
  is = λ fuel.
      let V = plain W fuel in
      ap (λ o. bind {B = Made TopShape} o (λ s. made V (handler_value (catcher (reverse s.frames))) (top_shape V (catcher (reverse s.frames))))) (stack_kept W co s fuel r)
      ∙ ap₂ (λ (vs : List Value) (shape : TopShape). made V vs shape) (t.handlers (value W.strings)) (t.shape (value W.strings) V);
}

-- a row that looks for it has a stack
pub has_stack : (W : Memory) → IsSafe raised_row [] W → HasStack W
has_stack W s = by (stack_of (plain W 0)) refl
  where
    by : (o : Option Stack) → stack_of (plain W 0) ≡ o → HasStack W
    by (Some k) e = record { stack = k; is = e }
    by None e = absurd (s.never 0 (ap (λ o. elim (bind {B = Made TopShape} o (λ s. made (plain W 0) (handler_value (catcher (reverse s.frames))) (top_shape (plain W 0) (catcher (reverse s.frames))))) as (λ _. Outcome)
        [ None ↦ trapped | Some d ↦ run (raised_to d.told 0) d.values d.world ]) e))

abbrev pub row_at : Bool → Top → Row
row_at in_main top = raised_to (shape_of in_main top) 0

module _ (W : Memory) (top : Top) (m : Makes W W see_catcher [] (handlers_of (value W.strings) top) (shape_of (runs_main (plain W 0)) top)) where
  pub handler_catches : (new : Memory) (catching : Kept) (ending : Ending) → top ≡ Xpcall catching
      → ((env : List Value) → Leads (raised_to xpcall_top (length env)) (env ++ value W.strings catching ∷ []) W new ending) → Leads raised_row [] W new ending
  handler_catches new catching ending e l =
      first (λ h top. raised_to top h) m (subst (λ t. Leads (raised_to (shape_of (runs_main (plain W 0)) t) 0) (handlers_of (value W.strings) t) W new ending) (sym e) (l []))

  abbrev goes_up : Top → Type 0
  goes_up t = raised_to (shape_of (runs_main (plain W 0)) t) 0 ≡ stop unwinding

  pub frame_catches : goes_up top → Leads raised_row [] W W unwinding
  frame_catches e = first (λ h top. raised_to top h) m (subst (λ r. Leads r (handlers_of (value W.strings) top) W W unwinding) (sym e) ended)

  pub none_catches : (in_main : Bool) → in_main ≡ runs_main (plain W 0) → top ≡ Missing → IsSafe raised_row [] W → Catches W W (uncaught in_main)
  none_catches in_main q e s = by in_main q
    where
      same : (b : Bool) → b ≡ runs_main (plain W 0) → row_at (runs_main (plain W 0)) top ≡ row_at b Missing
      same b q = ap₂ row_at (sym q) e

      none : handlers_of (value W.strings) top ≡ []
      none = ap (handlers_of (value W.strings)) e

      by : (b : Bool) → b ≡ runs_main (plain W 0) → Catches W W (uncaught b)
      by true q = frame_catches (same true q)
      by false q = record {
        same = refl;
        goes = λ last ending l. first (λ h top. raised_to top h) m (subst (λ r. Leads r (handlers_of (value W.strings) top) W last ending) (sym (same false q)) (subst (λ vs. Leads coroutine_fails vs W last ending) (sym none) l));
        safe = subst (λ vs. IsSafe coroutine_fails vs W) none (subst (λ r. IsSafe r (handlers_of (value W.strings) top) W) (same false q) (safe_after (λ h top. raised_to top h) s m));
      }
