-- Each step makes the measure smaller, or ends the turn.
use Rattle.std.proofs.Common.{ℕ, ◌+◌, ◌*◌, ◌≤◌, ◌≡◌, inl, List, [], Option, Some, None, refl, subst, sym, ap, arith, true, false}
use Rattle.std.specs.Prelude.{slice_get}
use Rattle.int_core.specs.Value.{Value, bind, last}
use Rattle.int_core.specs.Ask.{values}
use Rattle.library_rows.specs.Look.{Look}
use Rattle.library_rows.specs.Library.{Primitive, prelude_build, Entry, all_entries, row_of}
use Rattle.code_core.specs.Prototype.{Prototype, instruction_count}
use Rattle.machine_core.specs.World.{Function, Wait, running, for_call, for_iterator, for_value, for_truth, dropped, for_concat, for_close, returning, leaving, LuaFrame, Frame, lua, World, Stack, stack_of, put_top}
use Rattle.machine_core.specs.InstructionRows.{text_at, told_values, rest_at}
use Rattle.machine_core.specs.Moves.{see_top, TopShape, handler_top, no_top, top_now, Ending, go, returned, asks, calls_primitive, raised, unwinding, spent, main_yielded, main_returned, main_failed, Row, traps, act, Outcome, trapped, ends, run}
use Rattle.machine_core.specs.FrameRows.{goes_on_by, expand, asked_row, raised_row, unwound, handed_to}
use Rattle.machine_core.specs.MachineStep.{woken, lua_step, frame_step, top_step, look_row, from_world, step}
use Rattle.machine_core.specs.PrimitiveRows.{own_row, primitive_row, row_numbered}
use Rattle.machine_sound.specs.Sound.{Each}
use Rattle.machine_runs.specs.Runs.{is_end}
use Rattle.machine_ends.specs.Measure.{Within, wait_weight, asks_weight, world_weight, measure}
use Rattle.machine_ends.specs.Falls.{on_lua, anywhere, Falls}
use Rattle.machine_ends.specs.Laws.{PrimitiveFalls, FallsWithin, PrimitivesFall, StepsFall}
use Rattle.machine_ends.proofs.Weights.{Runs, stack_runs}
use Rattle.machine_ends.proofs.Held.{with_top, top_last}
use Rattle.machine_ends.proofs.OwnMoves.{PutSo, put_so}
use Rattle.machine_ends.proofs.Rows.{Fell, run_falls}
use Rattle.machine_ends.proofs.Opcodes.{text_falls, waiting_falls}
use Rattle.machine_ends.proofs.FrameRows.{returned_falls, unwinding_falls, raised_falls, asked_falls, asked_over_handler, own_falls, look_falls}

module _ (most : ℕ) where
  -- what has fallen below what it was
  abbrev Low : World → ℕ → Outcome → Type 0
  Low W bound o = (e : Ending) (V : World) → o ≡ ends e V → Fell most bound e V

  ended_in : (d e : Ending) (W V : World) → ends d W ≡ ends e V → is_end d ≡ true → is_end e ≡ true
  ended_in d e W V h k = subst (λ (o : Outcome). IsEndIn o) h k
    where
      IsEndIn : Outcome → Type 0
      IsEndIn trapped = Unit {0}
      IsEndIn (ends e V) = is_end e ≡ true

  from_low : (W : World) (bound : ℕ) (o : Outcome) → Low W bound o → Low W bound (from_world W o)
  from_low W bound (ends spent X) l e V h = inl (ended_in spent e W V h refl)
  from_low W bound (ends (calls_primitive n) X) l e V h = l e V h
  from_low W bound _ l e V h = l e V h

  anywhere_low : (W : World) (c : ℕ) (r : Row) → Within most W → Falls (anywhere false c None) r → Low W (world_weight most W + c) (run r [] W)
  anywhere_low W c r w f = run_falls most (world_weight most W + c) r (anywhere false c None) [] W (record { within = w; held = record { low = omega arith; known = tt } }) f

  asked_low : (W : World) (t : Option TopShape) → top_now W ≡ t → Within most W → Low W (world_weight most W + asks_weight t) (run asked_row [] W)
  asked_low W (Some handler_top) e w = run_falls most (world_weight most W + 3) asked_row (anywhere false 3 (Some handler_top)) [] W (record { within = w; held = record { low = omega arith; known = e } }) asked_over_handler
  asked_low W (Some (no_top b)) e w = anywhere_low W 8 asked_row w asked_falls
  asked_low W _ e w = anywhere_low W 8 asked_row w asked_falls

  -- a Lua frame on top

  module _ (W : World) (s : Stack) (f : LuaFrame) (r : Runs W s) (l : last s.frames ≡ Some (lua f)) (w : Within most W) where
    runs_low : f.wait ≡ running → (p : Prototype) → Low W (world_weight most W + 0) (run (expand (text_at p f.own.pc)) [] W)
    runs_low q p = run_falls most (world_weight most W + 0) (expand (text_at p f.own.pc)) (on_lua false 30 None true) [] W (record {
      within = w;
      held = record { stack = s; running_is = r; top = f; is_top = l; low = (let k = ap wait_weight q in omega arith); pending = tt; wait = q };
    }) (text_falls p f.own.pc)

    woken_is : woken W s f ≡ record (put_top W s (lua (record f { wait = running }))) { moving = [] }
    unfolding woken
    woken_is = refl

    woken_so : PutSo most W (put_top (record W { cells = W.cells }) s (lua (record f { wait = running }))) s f (record f { wait = running })
    woken_so = put_so most W s f (record f { wait = running }) W.cells r l

    waits_low : (p : Prototype) (vs : List Value) → Low W (world_weight most W + 0) (run (goes_on_by (rest_at f.wait p f.own.pc)) vs (woken W s f))
    waits_low p vs = subst (λ X. Low W (world_weight most W + 0) (run (goes_on_by (rest_at f.wait p f.own.pc)) vs X)) (sym woken_is)
        (run_falls most (world_weight most W + 0) (goes_on_by (rest_at f.wait p f.own.pc)) (on_lua false (wait_weight f.wait) None true) vs (record (put_top W s (lua (record f { wait = running }))) { moving = [] }) (record {
          within = subst (λ fs. Each (λ (f : Function). instruction_count f.code ≤ most) fs) (sym woken_so.functions) w;
          held = record {
            stack = with_top s (lua (record f { wait = running }));
            running_is = record { last_is = woken_so.runs.last_is; there = woken_so.runs.there };
            top = record f { wait = running };
            is_top = top_last s (lua (record f { wait = running }));
            low = (let k = woken_so.weight in omega arith);
            pending = tt;
            wait = refl;
          };
        }) (waiting_falls f.wait p f.own.pc))

    lua_low : (p : Prototype) → Low W (world_weight most W + 0) (lua_step W s f p f.wait)
    lua_low p = by f.wait refl
      where
        by : (x : Wait Value) → f.wait ≡ x → Low W (world_weight most W + 0) (lua_step W s f p x)
        by running q = runs_low q p
        by for_call q = subst (λ x. Low W (world_weight most W + 0) (run (goes_on_by (rest_at x p f.own.pc)) (told_values for_call (values W.moving)) (woken W s f))) q (waits_low p (told_values for_call (values W.moving)))
        by for_iterator q = subst (λ x. Low W (world_weight most W + 0) (run (goes_on_by (rest_at x p f.own.pc)) (told_values for_iterator (values W.moving)) (woken W s f))) q (waits_low p (told_values for_iterator (values W.moving)))
        by for_value q = subst (λ x. Low W (world_weight most W + 0) (run (goes_on_by (rest_at x p f.own.pc)) (told_values for_value (values W.moving)) (woken W s f))) q (waits_low p (told_values for_value (values W.moving)))
        by for_truth q = subst (λ x. Low W (world_weight most W + 0) (run (goes_on_by (rest_at x p f.own.pc)) (told_values for_truth (values W.moving)) (woken W s f))) q (waits_low p (told_values for_truth (values W.moving)))
        by dropped q = subst (λ x. Low W (world_weight most W + 0) (run (goes_on_by (rest_at x p f.own.pc)) (told_values dropped (values W.moving)) (woken W s f))) q (waits_low p (told_values dropped (values W.moving)))
        by (for_concat n) q = subst (λ x. Low W (world_weight most W + 0) (run (goes_on_by (rest_at x p f.own.pc)) (told_values (for_concat n) (values W.moving)) (woken W s f))) q (waits_low p (told_values (for_concat n) (values W.moving)))
        by for_close q = subst (λ x. Low W (world_weight most W + 0) (run (goes_on_by (rest_at x p f.own.pc)) (told_values for_close (values W.moving)) (woken W s f))) q (waits_low p (told_values for_close (values W.moving)))
        by (returning n) q = subst (λ x. Low W (world_weight most W + 0) (run (goes_on_by (rest_at x p f.own.pc)) (told_values (returning n) (values W.moving)) (woken W s f))) q (waits_low p (told_values (returning n) (values W.moving)))
        by (leaving v) q = subst (λ x. Low W (world_weight most W + 0) (run (goes_on_by (rest_at x p f.own.pc)) (told_values (leaving v) (values W.moving)) (woken W s f))) q (waits_low p (told_values (leaving v) (values W.moving)))

  abbrev stepped : Option Outcome → Outcome
  stepped o = elim o [ None ↦ trapped | Some o ↦ o ]

  frame_low : (W : World) (s : Stack) (x : Frame) → Runs W s → last s.frames ≡ Some x → Within most W → Low W (world_weight most W + 0) (stepped (frame_step W s x))
  frame_low W s (lua f) r l w = by (slice_get W.functions f.function)
    where
      by : (o : Option Function) → Low W (world_weight most W + 0) (stepped (bind o (λ g. Some (lua_step W s f g.code f.wait))))
      by None e V h = absurd (cc)
      by (Some g) e V h = lua_low W s f r l w g.code e V h
  frame_low W s _ r l w = λ e V h. absurd (cc)

  top_low : (W : World) → Within most W → Low W (world_weight most W + 0) (stepped (top_step W))
  top_low W w = by (stack_of W) refl
    where
      on_top : (s : Stack) → Runs W s → (o : Option Frame) → last s.frames ≡ o → Low W (world_weight most W + 0) (stepped (bind o (frame_step W s)))
      on_top s r None q e V h = absurd (cc)
      on_top s r (Some x) q e V h = frame_low W s x r q w e V h

      by : (o : Option Stack) → stack_of W ≡ o → Low W (world_weight most W + 0) (stepped (bind o (λ s. bind (last s.frames) (frame_step W s))))
      by None q e V h = absurd (cc)
      by (Some s) q e V h = on_top s (stack_runs W s q) (last s.frames) refl e V h

  rich_low : (r : Row) → PrimitiveFalls r → (W : World) → Within most W → Low W (world_weight most W + (40 * most + 100)) (run r [] W)
  rich_low r f W w = run_falls most (world_weight most W + (40 * most + 100)) r (anywhere true 100 None) [] W (record { within = w; held = record { low = omega arith; known = tt } }) f

  module _ (build : Row) (b : FallsWithin most build) where
    abbrev LowAt : World → Row → Type 0
    LowAt W r = Low W (world_weight most W + (40 * most + 100)) (run r [] W)

    own_low : (p : Primitive) (W : World) → Within most W → LowAt W (own_row build p)
    own_low prelude_build W w = λ e V h. b e W V w h
    own_low p W w = rich_low (own_row build p) (own_falls build p (λ e. absurd (cc))) W w

    primitive_low : (W : World) (k : ℕ) → Within most W → LowAt W (row_numbered build k)
    primitive_low W k w = entry_low (slice_get all_entries k)
      where
        by_row : (p : Primitive) (o : Option Look) → LowAt W (elim o as (λ _. Row) [ Some l ↦ look_row l | None ↦ own_row build p ])
        by_row p (Some l) = rich_low (look_row l) (look_falls l) W w
        by_row p None = own_low p W w

        entry_low : (o : Option (Entry Primitive)) → LowAt W (elim (elim o as (λ _. Option Primitive) [ None ↦ None | Some e ↦ Some e.entry ]) as (λ _. Row) [ None ↦ traps | Some p ↦ primitive_row build p ])
        entry_low None = λ e V h. absurd (cc)
        entry_low (Some x) = by_row x.entry (row_of x.entry)

    step_low : (e : Ending) (W : World) → Within most W → Low W (measure most e W) (step (row_numbered build) e W)
    step_low go W w = from_low W (world_weight most W + 0) (stepped (top_step W)) (top_low W w)
    step_low returned W w = from_low W (world_weight most W + 1) _ (anywhere_low W 1 (act see_top (λ _ top. handed_to top)) w returned_falls)
    step_low asks W w = from_low W (world_weight most W + asks_weight (top_now W)) _ (asked_low W (top_now W) refl w)
    step_low (calls_primitive k) W w = from_low W (world_weight most W + (40 * most + 100)) _ (primitive_low W k w)
    step_low raised W w = from_low W (world_weight most W + 7) _ (anywhere_low W 7 raised_row w raised_falls)
    step_low unwinding W w = from_low W (world_weight most W + 2) _ (anywhere_low W 2 (act see_top (λ _ top. unwound top)) w unwinding_falls)
    step_low spent W w = λ e V h. inl (ended_in spent e W V h refl)
    step_low main_yielded W w = λ e V h. inl (ended_in main_yielded e W V h refl)
    step_low main_returned W w = λ e V h. inl (ended_in main_returned e W V h refl)
    step_low main_failed W w = λ e V h. inl (ended_in main_failed e W V h refl)

pub steps_fall : StepsFall
steps_fall build most b e d W V w h = step_low most build b e W w d V h

pub primitives_fall : PrimitivesFall
primitives_fall r f most e W V w h = rich_low most r f W w e V h
