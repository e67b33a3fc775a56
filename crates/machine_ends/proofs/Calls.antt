-- Calls of a Lua frame on top: what is paid outweighs what is pushed.
use Rattle.std.proofs.Common.{ℕ, zero, suc, ◌+◌, ◌*◌, ◌-◌, ◌≤◌, ◌≡◌, inl, inr, List, [], ◌∷◌, ◌++◌, Option, Some, None, refl, subst, sym, ap, ◌∙◌, arith, Bool, true, false, cond, drop}
use Rattle.std.specs.Prelude.{slice_get, IsTrue}
use Rattle.std.specs.List.{list_all}
use Rattle.int_core.specs.Value.{primitive, a_function, Value, known, object, bind, last, without_last}
use Rattle.int_core.specs.Operations.{Callee, callee, not_callable, callee_of, greatest_chain}
use Rattle.code_core.specs.Prototype.{instruction_count}
use Rattle.machine_core.specs.World.{Function, Wait, running, leaving, LuaFrame, Frame, lua, World, Stack, stack_of, Place, put_frames, put_top, push, pop, for_concat}
use Rattle.machine_core.specs.Text.{Arg, arg, Own, close_cells, keep_pending, pay, Given, given_values, done}
use Rattle.machine_core.specs.Moves.{Made, made, outside, enter, enter_tail, await, begin_leaving, leave_frame, named, new_frame, push_all, has_room, enters, enters_paid, called, popped, called_tail, with_own, blamed, CallShape, is_entered, is_primitive, not_paid, not_entered, TopShape, lua_top, top_shape, top_now, do_outside, move}
use Rattle.machine_sound.specs.Sound.{Each}
use Rattle.machine_sound.proofs.Values.{le_of}
use Rattle.machine_ends.specs.Measure.{Within, wait_weight, own_weight, frame_weight, units_weight, world_weight}
use Rattle.machine_ends.specs.Falls.{on_lua, anywhere, tail_refused, no_mark, saved, is_small, after_pay, after_enter}
use Rattle.machine_ends.proofs.Weights.{Runs, stack_runs, cos_run, frames_last, frames_push}
use Rattle.machine_ends.proofs.Pending.{done_pc, done_saved, named_weight}
use Rattle.machine_ends.proofs.Held.{spare, HeldLua, Holds, place_in, at_place, with_top, top_last, top_is, RunsIf}
use Rattle.machine_ends.proofs.OwnMoves.{PutSo, own_so}
use Rattle.machine_ends.proofs.Outside.{through, here}
use Rattle.int_core.specs.Limits.{stack_overflow}

abbrev AllWithin : ℕ → List Function → Type 0
AllWithin most fs = Each (λ (f : Function). instruction_count f.code ≤ most) fs

pub paid_weight : (most fuel : ℕ) (W : World) → W.fuel ≡ suc fuel → world_weight most (record W { fuel = fuel }) + (40 * most + 3000) ≡ world_weight most W
paid_weight most fuel W e = let k = ap (units_weight most) e in omega arith

-- what is entered

abbrev pub EnteredSo : (most : ℕ) → World → CallShape → World → Type 0
EnteredSo most P is_entered V = (V.functions ≡ P.functions) × (world_weight most V ≤ world_weight most P + (40 * most + 33))
EnteredSo most P (is_primitive n) V = (V.functions ≡ P.functions) × (world_weight most V ≤ world_weight most P)
EnteredSo most P not_paid V = ⊥
EnteredSo most P (not_entered text) V = V ≡ P

pub push_weight : (most : ℕ) (P : World) (s : Stack) (x : Frame) → Runs P s → world_weight most (push P s x) ≡ world_weight most P + frame_weight most x
unfolding push put_frames
push_weight most P s x r = let a = cos_run most P s r (s.frames ++ x ∷ []) in let b = frames_push most s.frames x in omega arith

pub push_functions : (P : World) (s : Stack) (x : Frame) → (push P s x).functions ≡ P.functions
unfolding push put_frames
push_functions P s x = refl

pub push_one : (most : ℕ) (P : World) (x : Frame) → ((push_all P (x ∷ [])).functions ≡ P.functions) × (world_weight most (push_all P (x ∷ [])) ≤ world_weight most P + frame_weight most x)
push_one most P x = from (stack_of P) refl
  where
    from : (o : Option Stack) → stack_of P ≡ o → ((elim o as (λ _. World) [ None ↦ P | Some s ↦ push P s x ]).functions ≡ P.functions) × (world_weight most (elim o as (λ _. World) [ None ↦ P | Some s ↦ push P s x ]) ≤ world_weight most P + frame_weight most x)
    from None e = (refl, omega arith)
    from (Some s) e = (push_functions P s x, let k = push_weight most P s x (stack_runs P s e) in omega arith)

pub enters_so : (most : ℕ) (P : World) (f : Value) (vs : List Value) (d : Made CallShape) → enters P f vs ≡ Some d → EnteredSo most P d.told d.world
enters_so most P (known (primitive n)) vs = here (λ (d : Made CallShape). EnteredSo most P d.told d.world) _ (refl, omega arith)
enters_so most P (object a_function n) vs = through (λ (d : Made CallShape). EnteredSo most P d.told d.world) (slice_get P.functions n) _ (λ f e. by f (has_room P 1))
  where
    by : (f : Function) (b : Bool) → (d : Made CallShape) → cond b (made (push_all P (new_frame n f.code vs ∷ [])) [] is_entered) (made P [] (not_entered stack_overflow)) ≡ Some d → EnteredSo most P d.told d.world
    by f true = here (λ (d : Made CallShape). EnteredSo most P d.told d.world) _ (let k = push_one most P (new_frame n f.code vs) in (k.0, omega arith))
    by f false = here (λ (d : Made CallShape). EnteredSo most P d.told d.world) _ refl
enters_so most P _ vs = λ d e. absurd (cc)

-- the same frames, and no greater weight
pub record NoMore (most : ℕ) (P V : World) : Type 0 where
  pub functions : V.functions ≡ P.functions
  pub coroutines : V.coroutines ≡ P.coroutines
  pub chain : V.chain ≡ P.chain
  pub weight : world_weight most V ≤ world_weight most P

abbrev pub CalledSo : (most : ℕ) → (W P : World) → CallShape → World → Type 0
CalledSo most W P is_entered V = (V.functions ≡ P.functions) × (world_weight most V + 2900 ≤ world_weight most P)
CalledSo most W P (is_primitive n) V = (V.functions ≡ P.functions) × (world_weight most V + (40 * most + 3000) ≤ world_weight most P)
CalledSo most W P not_paid V = V ≡ W
CalledSo most W P (not_entered text) V = NoMore most P V

called_from : (most fuel : ℕ) (W P : World) → P.fuel ≡ suc fuel → (s : CallShape) (V : World) → EnteredSo most (record P { fuel = fuel }) s V → CalledSo most W P s V
called_from most fuel W P e is_entered V k = (k.0, let j = paid_weight most fuel P e in let i = k.1 in omega arith)
called_from most fuel W P e (is_primitive n) V k = (k.0, let j = paid_weight most fuel P e in let i = k.1 in omega arith)
called_from most fuel W P e not_paid V k = absurd k
called_from most fuel W P e (not_entered text) V k = subst (NoMore most P) (sym k) (record { functions = refl; coroutines = refl; chain = refl; weight = (let j = paid_weight most fuel P e in omega arith) })

pub called_so : (most : ℕ) (W P : World) (c : Callee) → P.fuel ≡ W.fuel → (d : Made CallShape) → enters_paid W P c ≡ Some d → CalledSo most W P d.told d.world
called_so most W P (not_callable text) e = here (λ (d : Made CallShape). CalledSo most W P d.told d.world) _ (record { functions = refl; coroutines = refl; chain = refl; weight = omega arith })
called_so most W P (callee f vs) e = by W.fuel e
  where
    by : (n : ℕ) → P.fuel ≡ n → (d : Made CallShape) → elim n as (λ _. Option (Made CallShape)) [ zero ↦ made W [] not_paid | suc fuel ↦ enters (record P { fuel = fuel }) f vs ] ≡ Some d → CalledSo most W P d.told d.world
    by zero e = here (λ (d : Made CallShape). CalledSo most W P d.told d.world) _ refl
    by (suc fuel) e = λ d k. called_from most fuel W P e d.told d.world (enters_so most (record P { fuel = fuel }) f vs d k)

-- what a frame may wait for in a call that is paid
small_weight : {V : Type 0} (w : Wait V) → IsTrue (is_small w) → wait_weight w ≤ 2570
small_weight running h = omega arith
small_weight (for_concat left) h = let k = le_of left 255 h in omega arith
small_weight _ h = omega arith

with_own_fuel : (W : World) (p : Place) (w : Wait Value) (ms : List Own) (env : List Value) → (with_own W p w ms env).fuel ≡ W.fuel
unfolding with_own put_top put_frames
with_own_fuel W p w ms env = refl

popped_so : (most : ℕ) (W : World) (s : Stack) (f : LuaFrame) (g : Function) → Runs W s → last s.frames ≡ Some (lua f)
    → ((popped W (place_in s f g)).functions ≡ W.functions) × ((popped W (place_in s f g)).fuel ≡ W.fuel) × (world_weight most (popped W (place_in s f g)) + frame_weight most (lua f) ≡ world_weight most W)
unfolding popped pop put_frames
popped_so most W s f g r e = (refl, refl, let a = cos_run most W s r (without_last s.frames) in let b = frames_last most s.frames (lua f) e in omega arith)

module _ (most bound : ℕ) (rich : Bool) (c : ℕ) (seen : Option ℕ) (runs : Bool) (env : List Value) (W : World) (within : Within most W) (h : HeldLua most bound rich c seen runs W) where
  plain_low : world_weight most W + c ≤ bound + wait_weight h.top.wait
  plain_low = by rich h.low
    where
      by : (b : Bool) → world_weight most W + spare most b c ≤ bound + wait_weight h.top.wait → world_weight most W + c ≤ bound + wait_weight h.top.wait
      by true l = omega arith
      by false l = omega arith

  within_in : (V : World) → V.functions ≡ W.functions → Within most V
  within_in V e = subst (AllWithin most) (sym e) within

  -- paying
  pub pay_move : (d : Made Bool) → move (outside pay) env W ≡ Some d → Holds most bound (after_pay rich c runs d.told) d.world
  pay_move d e = let q = at_place W h.stack h.top (do_outside pay env W) d h.running_is h.is_top e in by W.fuel refl d q.2
    where
      low : (b : Bool) (fuel : ℕ) → W.fuel ≡ suc fuel → world_weight most W + spare most b c ≤ bound + wait_weight h.top.wait
          → world_weight most (record W { fuel = fuel }) + (40 * most + (c + 3000)) ≤ bound + wait_weight h.top.wait
      low true fuel e l = let k = paid_weight most fuel W e in omega arith
      low false fuel e l = let k = paid_weight most fuel W e in omega arith

      by : (n : ℕ) → W.fuel ≡ n → (d : Made Bool) → elim n as (λ _. Option (Made Bool)) [ zero ↦ made W [] false | suc fuel ↦ made (record W { fuel = fuel }) [] true ] ≡ Some d → Holds most bound (after_pay rich c runs d.told) d.world
      by zero e = here (λ (d : Made Bool). Holds most bound (after_pay rich c runs d.told) d.world) _ (record { within = within; held = tt })
      by (suc fuel) e = here (λ (d : Made Bool). Holds most bound (after_pay rich c runs d.told) d.world) _ (record {
        within = within;
        held = record { stack = h.stack; running_is = record { last_is = h.running_is.last_is; there = h.running_is.there }; top = h.top; is_top = h.is_top; low = low rich fuel e h.low; pending = tt; wait = h.wait };
      })

  -- calls

  module _ (prepared : List Own) (wait : Wait Arg) (marks : IsTrue (list_all no_mark prepared)) (g : Function) where
    abbrev waits : LuaFrame
    waits = record h.top { wait = named env wait; own = done prepared g.code env h.top.own }

    abbrev P : World
    P = with_own W (place_in h.stack h.top g) (named env wait) prepared env

    so : PutSo most W P h.stack h.top waits
    so = own_so most W h.stack h.top g (named env wait) prepared env h.running_is h.is_top

    weighs : world_weight most P + (wait_weight h.top.wait + saved seen prepared) ≤ world_weight most W + wait_weight wait
    weighs =
        let k = so.weight in
        let a = ap (λ pc. 40 * (most - pc)) (done_pc prepared g.code env h.top.own) in
        let b = done_saved seen prepared g.code env h.top.own h.pending marks in
        let n = named_weight env wait in omega arith

    refused : (V : World) → NoMore most P V → Holds most bound (on_lua false c None false) V
    refused V k = record {
      within = within_in V (k.functions ∙ so.functions);
      held = record {
        stack = with_top h.stack (lua waits);
        running_is = record { last_is = ap last k.chain ∙ so.runs.last_is; there = ap (λ cs. slice_get cs h.stack.coroutine) k.coroutines ∙ so.runs.there };
        top = waits;
        is_top = top_last h.stack (lua waits);
        low = (let a = k.weight in let b = weighs in let l = plain_low in let n = named_weight env wait in omega arith);
        pending = tt;
        wait = tt;
      };
    }

    entered_so : IsTrue (is_small wait) → (s : CallShape) (V : World) → CalledSo most W P s V → Holds most bound (after_enter s (on_lua false c None false)) V
    entered_so z is_entered V k = record { within = within_in V (k.0 ∙ so.functions); held = record { low = (let a = k.1 in let b = weighs in let l = plain_low in let w = small_weight wait z in omega arith); known = tt } }
    entered_so z (is_primitive n) V k = record { within = within_in V (k.0 ∙ so.functions); held = record { low = (let a = k.1 in let b = weighs in let l = plain_low in let w = small_weight wait z in omega arith); known = tt } }
    entered_so z not_paid V k = record { within = within_in V (ap (λ (W : World). W.functions) k); held = tt }
    entered_so z (not_entered text) V k = refused V k

  pub enter_move : (f : Arg) (slot : ℕ) (wait : Wait Arg) (prepared : List Own) → IsTrue (list_all no_mark prepared) → IsTrue (is_small wait) → (d : Made CallShape) → move (enter f slot wait prepared) env W ≡ Some d
      → Holds most bound (after_enter d.told (on_lua false c None false)) d.world
  enter_move f slot wait prepared n z d e =
      let q = at_place W h.stack h.top (λ p. called W (with_own W p (named env wait) prepared env) (arg env f) (drop slot env)) d h.running_is h.is_top e in
      entered_so prepared wait n q.0 z d.told d.world
      (called_so most W (with_own W (place_in h.stack h.top q.0) (named env wait) prepared env) (callee_of greatest_chain W.heap (arg env f) (drop slot env)) (with_own_fuel W (place_in h.stack h.top q.0) (named env wait) prepared env) d q.2)

  pub await_move : (f : Arg) (slot : ℕ) (wait : Wait Arg) (prepared : List Own) → IsTrue (list_all no_mark prepared) → wait_weight wait ≤ c + saved seen prepared → (d : Made (Unit {0})) → move (await f slot wait prepared) env W ≡ Some d
      → Holds most bound (anywhere false (c + saved seen prepared - wait_weight wait) None) d.world
  await_move f slot wait prepared n z d e =
      let q = at_place W h.stack h.top (λ p. made (record (with_own W p (named env wait) prepared env) { moving = arg env f ∷ drop slot env }) [] tt) d h.running_is h.is_top e in
      here (λ (d : Made (Unit {0})). Holds most bound (anywhere false (c + saved seen prepared - wait_weight wait) None) d.world) _ (record {
        within = within_in (record (with_own W (place_in h.stack h.top q.0) (named env wait) prepared env) { moving = arg env f ∷ drop slot env }) (so prepared wait n q.0).functions;
        held = record { low = (let b = weighs prepared wait n q.0 in let l = plain_low in omega arith); known = tt };
      }) d q.2

  -- leaving

  left_so : (g : Function) (e : Value) → PutSo most W (with_own W (place_in h.stack h.top g) (leaving e) (close_cells 0 ∷ keep_pending ∷ []) []) h.stack h.top (record h.top { wait = leaving e; own = done (close_cells 0 ∷ keep_pending ∷ []) g.code [] h.top.own })
  left_so g e = own_so most W h.stack h.top g (leaving e) (close_cells 0 ∷ keep_pending ∷ []) [] h.running_is h.is_top

  pub begin_move : (text : List ℕ) (d : Made (Unit {0})) → move (begin_leaving text) env W ≡ Some d → Holds most bound (anywhere rich c (Some lua_top)) d.world
  begin_move text d e =
      let q = at_place W h.stack h.top (λ p. made (record (with_own W p (leaving (blamed W text)) (close_cells 0 ∷ keep_pending ∷ []) []) { moving = blamed W text ∷ [] }) [] tt) d h.running_is h.is_top e in
      let o = left_so q.0 (blamed W text) in
      let V : World = record (with_own W (place_in h.stack h.top q.0) (leaving (blamed W text)) (close_cells 0 ∷ keep_pending ∷ []) []) { moving = blamed W text ∷ [] } in
      here (λ (d : Made (Unit {0})). Holds most bound (anywhere rich c (Some lua_top)) d.world) (record { world = V; values = []; told = tt }) (record {
        within = within_in V o.functions;
        held = record {
          low = low rich (world_weight most V) o.weight h.low;
          known = top_is V (with_top h.stack (lua (frame q.0))) (record { last_is = o.runs.last_is; there = o.runs.there }) ∙ ap (λ x. Some (top_shape V x)) (top_last h.stack (lua (frame q.0)));
        };
      }) d q.2
    where
      frame : Function → LuaFrame
      frame g = record h.top { wait = leaving (blamed W text); own = done (close_cells 0 ∷ keep_pending ∷ []) g.code [] h.top.own }

      low : (b : Bool) (n : ℕ) → n + frame_weight most (lua h.top) ≡ world_weight most W + (own_weight most h.top + 0) → world_weight most W + spare most b c ≤ bound + wait_weight h.top.wait → n + spare most b c ≤ bound
      low b n k l = omega arith

  pub leave_move : (given : Given) (d : Made TopShape) → move (leave_frame given) env W ≡ Some d → Holds most bound (anywhere rich (c + 3) (Some d.told)) d.world
  leave_move given d e =
      let q = at_place W h.stack h.top (λ p. let V = record (popped W p) { moving = given_values env given } in bind (top_now V) (λ top. made V [] top)) d h.running_is h.is_top e in
      let V : World = record (popped W (place_in h.stack h.top q.0)) { moving = given_values env given } in
      let o = popped_so most W h.stack h.top q.0 h.running_is h.is_top in
      through (λ (d : Made TopShape). Holds most bound (anywhere rich (c + 3) (Some d.told)) d.world) (top_now V) _ (λ top t. here (λ (d : Made TopShape). Holds most bound (anywhere rich (c + 3) (Some d.told)) d.world) _ (record {
        within = within_in V o.0;
        held = record { low = low rich (world_weight most V) o.2 h.low; known = t };
      })) d q.2
    where
      low : (b : Bool) (n : ℕ) → n + frame_weight most (lua h.top) ≡ world_weight most W → world_weight most W + spare most b c ≤ bound + wait_weight h.top.wait → n + spare most b (c + 3) ≤ bound
      low true n k l = omega arith
      low false n k l = omega arith

  tail_so : (g : Function) (fuel : ℕ) → W.fuel ≡ suc fuel → (s : CallShape) (V : World) → EnteredSo most (record (popped W (place_in h.stack h.top g)) { fuel = fuel }) s V → Holds most bound (after_enter s (tail_refused c)) V
  tail_so g fuel e s V k =
      let o = popped_so most W h.stack h.top g h.running_is h.is_top in
      by s k o.0 o.2 (paid_weight most fuel (popped W (place_in h.stack h.top g)) (o.1 ∙ e))
    where
      X : World
      X = record (popped W (place_in h.stack h.top g)) { fuel = fuel }

      by : (s : CallShape) → EnteredSo most X s V → (popped W (place_in h.stack h.top g)).functions ≡ W.functions → world_weight most (popped W (place_in h.stack h.top g)) + frame_weight most (lua h.top) ≡ world_weight most W
          → world_weight most X + (40 * most + 3000) ≡ world_weight most (popped W (place_in h.stack h.top g)) → Holds most bound (after_enter s (tail_refused c)) V
      by is_entered k f w p = record { within = within_in V (k.0 ∙ f); held = record { low = (let a = k.1 in let l = plain_low in omega arith); known = tt } }
      by (is_primitive n) k f w p = record { within = within_in V (k.0 ∙ f); held = record { low = (let a = k.1 in let l = plain_low in omega arith); known = tt } }
      by not_paid k f w p = absurd k
      by (not_entered text) k f w p = record { within = within_in V (ap (λ (W : World). W.functions) k ∙ f); held = inr (record { low = (let a = ap (world_weight most) k in let l = plain_low in omega arith); known = tt }) }

  pub tail_move : (f : Arg) (slot : ℕ) → IsTrue runs → (d : Made CallShape) → move (enter_tail f slot) env W ≡ Some d → Holds most bound (after_enter d.told (tail_refused c)) d.world
  tail_move f slot t d e =
      let q = at_place W h.stack h.top (λ p. called_tail W p (callee_of greatest_chain W.heap (arg env f) (drop slot env))) d h.running_is h.is_top e in
      by q.0 (callee_of greatest_chain W.heap (arg env f) (drop slot env)) d q.2
    where
      is_running : (b : Bool) → IsTrue b → RunsIf b h.top.wait → h.top.wait ≡ running
      is_running true t w = w
      is_running false t w = absurd (cc)

      paid : (g : Function) (x : Value) (vs : List Value) (n : ℕ) → W.fuel ≡ n → (d : Made CallShape) → elim n as (λ _. Option (Made CallShape)) [ zero ↦ made W [] not_paid | suc fuel ↦ enters (record (popped W (place_in h.stack h.top g)) { fuel = fuel }) x vs ] ≡ Some d
          → Holds most bound (after_enter d.told (tail_refused c)) d.world
      paid g x vs zero e = here (λ (d : Made CallShape). Holds most bound (after_enter d.told (tail_refused c)) d.world) _ (record { within = within; held = tt })
      paid g x vs (suc fuel) e = λ d k. tail_so g fuel e d.told d.world (enters_so most (record (popped W (place_in h.stack h.top g)) { fuel = fuel }) x vs d k)

      by : (g : Function) (x : Callee) (d : Made CallShape) → called_tail W (place_in h.stack h.top g) x ≡ Some d → Holds most bound (after_enter d.told (tail_refused c)) d.world
      by g (not_callable text) = here (λ (d : Made CallShape). Holds most bound (after_enter d.told (tail_refused c)) d.world) _ (record {
        within = within;
        held = inl (record { stack = h.stack; running_is = h.running_is; top = h.top; is_top = h.is_top; low = plain_low; pending = tt; wait = is_running runs t h.wait });
      })
      by g (callee x vs) = paid g x vs W.fuel refl
