-- What each step of a world leads to: the end of the turn, a unit spent, or less that is left to do.
use Rattle.std.proofs.Common.{◌≡◌, ℕ, zero, suc, ◌+◌, ◌*◌, ◌<◌, ◌≤◌, Bool, true, false, cond, List, [], ◌∷◌, ◌++◌, length, Option, Some, None, refl, ap, arith}
use Rattle.std.specs.Prelude.{ℤ, nat_lt, slice_get, slice_set, drop, codes}
use Rattle.int_core.specs.Value.{Value, known, nil, primitive, object, a_function, a_coroutine, shape, is_nil, nth, error_or_nil}
use Rattle.int_core.specs.Limits.{greatest_resumes}
use Rattle.int_core.specs.Heap.{filled_table}
use Rattle.int_core.specs.Operations.{Callee, callee, not_callable, callee_of, greatest_chain, Settled, found, ask, fault, cannot_arise, does, handler_in, of_close, is_function}
use Rattle.int_core.specs.Ask.{faulted, left, IsLeft, Ask, reads_upvalue, writes_upvalue, makes_table, makes_function, fills_table, pays, opens, operates, calls, calls_last, marks, closes, raises, leaves, returns, throws, Answer, Next, goes_on, says, stuck}
use Rattle.tree_core.specs.Tree.{Body}
use Rattle.tree_activation.specs.Work.{Celling, State}
use Rattle.tree_activation.specs.Activation.{start, step}
use Rattle.lua_meaning.specs.World.{System, Function, Asker, Frame, talking, waiting, raising, protected, handled_by, handling, closing, Coroutine, fresh, suspended, running, normal, dead, failed, Now, talks, gives_back, raises_error, unwinds, calls_primitive, ends, World, now_in, breaks, has_room, on_frames, runs_main, raises_text, given_to, answered, answered_at_once, as_known, cell_of, shared_in, shared_out}
use Rattle.lua_meaning.specs.Calls.{error_in_handler, put_coroutine, frames_in, back_to, returns_all, fails_all, enters_function, enters, pays_with, pays_for, calls_value, calls_over, closes_on, handed, raised_to, unwound, goes_along, resumes, yields, closes_in, closes_coroutine, all_pending, text}
use Rattle.lua_meaning.specs.Asks.{calls_for, calls_in_place, settled, pays_unit, made_in, gets_function, handle, turns, talks_on}
use Rattle.library_rows.specs.Look.{Done, done}
use Rattle.library_rows.specs.Look.{refused as no_result, raised as an_error}
use Rattle.library_rows.specs.Library.{Primitive, base_error, base_pcall, base_xpcall, coroutine_close, coroutine_create, coroutine_isyieldable, coroutine_resume, coroutine_running, coroutine_status, coroutine_yield, prelude_build, prelude_out, primitive_at}
use Rattle.load_rows.specs.Loading.{Builds, Loaded, wrong, load_of}
use Rattle.lua_meaning.specs.Step.{error_by, level_in, creates, with_coroutine, row, after_row, after_loading, environment_in, does_primitive, has_ended, tick_by, gives_one, status_of, runs_one}
use Rattle.lua_meaning.specs.Opening.{primitives}
use Rattle.lua_meaning.specs.TreeMeaning.{trees}
use Rattle.meaning_ends.specs.Units.{IsOnTheUnit, FallsBelow}
use Rattle.meaning_ends.proofs.Measure.{measure}
use Rattle.meaning_ends.proofs.Steps.{step_falls}
use Rattle.meaning_ends.proofs.Sizes.{cost, is_call, FrameFits, FramesFit, AllFit, Fits, CanEnd, over, under, put, got, with_one, swapped, fresh_count, fresh_fewer}

abbrev pub Run : Type 0
Run = World Body State

-- from a world with at most this fuel, and of a size below n; no primitive is called
pub data Goes (b n : ℕ) (V : Run) : Type 0 where
  has_end : has_ended V.now ≡ true → CanEnd V → Goes b n V
  spends : V.fuel < b → CanEnd V → Goes b n V
  gets_less : V.fuel ≤ b → is_call V.now ≡ false → (m : ℕ) → Fits V.chain V.frames V.coroutines m → m + cost V.now < n → Goes b n V

either : (b n : ℕ) (t : Bool) (V U : Run) → Goes b n V → Goes b n U → Goes b n (cond t V U)
either b n true V U first second = first
either b n false V U first second = second

if_there : {A : Type 0} → (b n : ℕ) (o : Option A) (V : Run) (goes : A → Run) → Goes b n V → ((x : A) → Goes b n (goes x))
    → Goes b n (elim o as (λ _. Run) [ None ↦ V | Some x ↦ goes x ])
if_there b n None V goes k more = k
if_there b n (Some x) V goes k more = more x

given_goes : (b n m : ℕ) (W : Run) (asker : Asker State) (x : Answer) (below : List (Frame State)) → W.fuel ≤ b → Fits W.chain below W.coroutines m
    → 4 * measure (asker.goes x) + 2 + m < n → Goes b n (given_to W asker x below)
given_goes b n m W asker x below h p less =
    gets_less h refl (4 * measure (asker.goes x) + 2 + m) (over W.chain (talking asker.function (asker.goes x)) below W.coroutines (4 * measure (asker.goes x) + 2) m (omega arith) p) (omega (arith, less))

heard_goes : (b n m a : ℕ) (W : Run) (asker : Asker State) (x : Answer) (below : List (Frame State)) → W.fuel ≤ b → Fits W.chain below W.coroutines m
    → ((x : Answer) → 4 * measure (asker.goes x) + 2 ≤ a) → a + m < n → Goes b n (given_to W asker x below)
heard_goes b n m a W asker x below h p all less = given_goes b n m W asker x below h p (let l = all x in omega (arith, l, less))

left_goes : (b n m a : ℕ) (W : Run) (asker : Asker State) (e : Value) (below : List (Frame State)) → W.fuel ≤ b → Fits W.chain below W.coroutines m
    → ((x : Answer) → IsLeft x.reply → 4 * measure (asker.goes x) + 2 ≤ a) → a + m < n → Goes b n (answered W asker (left e) below)
left_goes b n m a W asker e below h p some less =
    let x : Answer = record { reply = left e; shared = shared_out asker.shared W.cells; cell = 0 } in
    given_goes b n m W asker x below h p (let l = some x tt in omega (arith, l, less))

given_spends : (b n m : ℕ) (W : Run) (asker : Asker State) (x : Answer) (below : List (Frame State)) → W.fuel < b → Fits W.chain below W.coroutines m → Goes b n (given_to W asker x below)
given_spends b n m W asker x below h p =
    spends h (4 * measure (asker.goes x) + 2 + m, over W.chain (talking asker.function (asker.goes x)) below W.coroutines (4 * measure (asker.goes x) + 2) m (omega arith) p)

-- moves back to the coroutine that resumed

back_goes : (b n m x : ℕ) (W : Run) (c : Coroutine State) (vs : List Value) (chain : List ℕ) (frames : List (Frame State)) → W.fuel ≤ b → CanEnd W → Fits chain frames W.coroutines m
    → FramesFit (frames_in (Some c)) x → m + x < n → Goes b n (back_to W c vs chain)
back_goes b n m x W c vs [] frames h can p one less = has_end refl can
back_goes b n m x W c vs (co ∷ []) frames h can p one less = has_end refl can
back_goes b n m x W c vs (co ∷ by ∷ chain) frames h can p one less =
    let t = swapped W.coroutines co by c p.others x p.others_fit one in
    let u = t.4 in
    let w = p.within in
    gets_less h refl (t.0 + t.1 + length (by ∷ chain))
    (record { chained = omega arith; top = t.0; others = t.1; frames_fit = t.2; others_fit = t.3; within = omega arith })
    (omega (arith, u, w, less))

returns_go : (b n m : ℕ) (W : Run) (vs : List Value) (frames : List (Frame State)) → W.fuel ≤ b → CanEnd W → Fits W.chain frames W.coroutines m → m < n → Goes b n (returns_all W vs)
returns_go b n m W vs frames h can p less = either b n (runs_main W) _ _ (has_end refl can) (back_goes b n m 0 W dead _ W.chain frames h can p tt (omega (arith, less)))

fails_go : (celling : Celling) (b n m : ℕ) (W : Run) (e : Value) (frames : List (Frame State)) → W.fuel ≤ b → CanEnd W → Fits W.chain frames W.coroutines m → m < n → Goes b n (fails_all (trees celling) W e)
fails_go celling b n m W e frames h can p less = either b n (runs_main W) _ _ (has_end refl can) (back_goes b n m 0 W (failed e (all_pending (trees celling) W W.frames)) _ W.chain frames h can p tt (omega (arith, less)))

-- primitives: a primitive may do as much as it likes, but one that is the body of a coroutine is called by its resume at no price

pub data After (b c : ℕ) (V : Run) : Type 0 where
  has_end_too : has_ended V.now ≡ true → CanEnd V → After b c V
  spends_too : V.fuel < b → CanEnd V → After b c V
  settles : V.fuel ≤ b → is_call V.now ≡ false → CanEnd V → After b c V
  begins_one : V.fuel ≤ b → CanEnd V → fresh_count V.coroutines < c → After b c V

after : (b c n : ℕ) (V : Run) → Goes b n V → After b c V
after b c n V (has_end e can) = has_end_too e can
after b c n V (spends h can) = spends_too h can
after b c n V (gets_less h apart m p less) = settles h apart (m, p)

either_after : (b c : ℕ) (t : Bool) (V U : Run) → After b c V → After b c U → After b c (cond t V U)
either_after b c true V U first second = first
either_after b c false V U first second = second

module _ (celling : Celling) where
  abbrev system : System Body State
  system = trees celling

  -- calls

  abbrev Refusal : (b n : ℕ) → Run → (List ℕ → Run → Run) → Type 0
  Refusal b n W refused = (why : List ℕ) (fuel : ℕ) → fuel ≤ b → Goes b n (refused why (record W { fuel = fuel }))

  abbrev raises_why : List ℕ → Run → Run
  raises_why why V = raises_text V why

  started : (W : Run) (k : ℕ) (g : Function Body) (arguments : List Value) (m : ℕ) → Fits W.chain W.frames W.coroutines m
      → Fits W.chain (talking k (start celling g.made_of arguments) ∷ W.frames) W.coroutines (4 * measure (start celling g.made_of arguments) + 2 + m)
  started W k g arguments m p = over W.chain _ W.frames W.coroutines (4 * measure (start celling g.made_of arguments) + 2) m (omega arith) p

  entered_goes : (b n k : ℕ) (W : Run) (o : Option (Function Body)) (arguments : List Value) (refused : List ℕ → Run → Run) → W.fuel < b → CanEnd W
      → ((why : List ℕ) → Goes b n (refused why W)) → Goes b n (enters_function system W k o arguments refused)
  entered_goes b n k W None arguments refused h can r = has_end refl can
  entered_goes b n k W (Some g) arguments refused h can r = either b n (has_room W) _ _ (spends h (_, started W k g arguments can.0 can.1)) (r _)

  enters_go : (b n : ℕ) (W : Run) (f : Value) (arguments : List Value) (refused : List ℕ → Run → Run) → W.fuel < b → CanEnd W
      → ((why : List ℕ) → Goes b n (refused why W)) → Goes b n (enters system W f arguments refused)
  enters_go b n W (known (primitive k)) arguments refused h can r = spends h can
  enters_go b n W (object a_function k) arguments refused h can r = entered_goes b n k W (slice_get W.functions k) arguments refused h can r
  enters_go b n W f arguments refused h can r = has_end refl can

  pays_go : (b n fuel : ℕ) (W : Run) (f : Value) (arguments : List Value) (refused : List ℕ → Run → Run) → fuel ≤ b → CanEnd W → Refusal b n W refused
      → Goes b n (pays_with system fuel W f arguments refused)
  pays_go b n zero W f arguments refused h can r = has_end refl can
  pays_go b n (suc fuel) W f arguments refused h can r =
      enters_go b n (record W { fuel = fuel }) f arguments refused (omega (arith, h)) can (λ why. r why fuel (omega (arith, h)))

  pays_for_goes : (b n : ℕ) (W : Run) (c : Callee) (refused : List ℕ → Run → Run) → W.fuel ≤ b → CanEnd W → Refusal b n W refused → Goes b n (pays_for system W c refused)
  pays_for_goes b n W (not_callable why) refused h can r = r why W.fuel h
  pays_for_goes b n W (callee f arguments) refused h can r = pays_go b n W.fuel W f arguments refused h can r

  calls_go : (b n : ℕ) (W : Run) (f : Value) (arguments : List Value) (refused : List ℕ → Run → Run) → W.fuel ≤ b → CanEnd W → Refusal b n W refused
      → Goes b n (calls_value system W f arguments refused)
  calls_go b n W f arguments refused h can r = pays_for_goes b n W (callee_of greatest_chain W.heap f arguments) refused h can r

  calls_over_go : (b n m a : ℕ) (W : Run) (frame : Frame State) (f : Value) (arguments : List Value) → W.fuel ≤ b → Fits W.chain W.frames W.coroutines m → FrameFits frame a
      → a + m + 3 < n → Goes b n (calls_over system W frame f arguments)
  calls_over_go b n m a W frame f arguments h p one less =
      let q = over W.chain frame W.frames W.coroutines a m one p in
      either b n (has_room W) _ _
      (calls_go b n (on_frames W (frame ∷ W.frames)) f arguments raises_why h (a + m, q) (λ why fuel le. gets_less le refl (a + m) q less))
      (gets_less h refl m p (omega (arith, less)))

  closes_on_go : (b n m : ℕ) (W : Run) (e : Option Value) (vs : List Value) (below : List (Frame State)) → W.fuel ≤ b → Fits W.chain below W.coroutines m
      → m + 3 * length vs + 1 < n → Goes b n (closes_on system W e vs below)
  closes_on_go b n m W None [] below h p less = gets_less h refl m p (omega (arith, less))
  closes_on_go b n m W (Some e) [] below h p less = gets_less h refl m p (omega (arith, less))
  closes_on_go b n m W e (v ∷ vs) below h p less =
      let q = over W.chain (closing e vs) below W.coroutines (3 * length vs + 1) m (omega arith) p in
      calls_go b n (on_frames W (closing e vs ∷ below)) (handler_in W.heap of_close v) (v ∷ error_or_nil e ∷ []) raises_why h (3 * length vs + 1 + m, q)
      (λ why fuel le. gets_less le refl (3 * length vs + 1 + m) q (omega (arith, less)))

  -- results and errors

  handed_goes : (b n m : ℕ) (W : Run) (vs : List Value) (frames : List (Frame State)) → W.fuel ≤ b → CanEnd W → Fits W.chain frames W.coroutines m → m + 1 ≤ n
      → Goes b n (handed system W vs frames)
  handed_goes b n m W vs [] h can p less = returns_go b n m W vs [] h can p (omega (arith, less))
  handed_goes b n m W vs (talking f s ∷ below) h can p less = has_end refl can
  handed_goes b n m W vs (waiting asker ∷ below) h can p less =
      let t = under W.chain _ below W.coroutines m p in let one = t.2 in let s = t.4 in
      heard_goes b n t.1 t.0 W asker _ below h t.3 one (omega (arith, s, less))
  handed_goes b n m W vs (raising asker ∷ below) h can p less = has_end refl can
  handed_goes b n m W vs (closing e vs_left ∷ below) h can p less =
      let t = under W.chain _ below W.coroutines m p in let one = t.2 in let s = t.4 in closes_on_go b n t.1 W e vs_left below h t.3 (omega (arith, one, s, less))
  handed_goes b n m W vs (_ ∷ below) h can p less =
      let t = under W.chain _ below W.coroutines m p in let one = t.2 in let s = t.4 in gets_less h refl t.1 t.3 (omega (arith, one, s, less))

  raised_goes : (b n m : ℕ) (W : Run) (e : Value) (frames : List (Frame State)) → W.fuel ≤ b → CanEnd W → Fits W.chain W.frames W.coroutines m → m + 3 ≤ n
      → Goes b n (raised_to system W e frames)
  raised_goes b n m W e [] h can p less = either b n (runs_main W) _ _ (gets_less h refl m p (omega (arith, less))) (fails_go celling b n m W e W.frames h can p (omega (arith, less)))
  raised_goes b n m W e (talking f s ∷ frames) h can p less = raised_goes b n m W e frames h can p less
  raised_goes b n m W e (waiting asker ∷ frames) h can p less = raised_goes b n m W e frames h can p less
  raised_goes b n m W e (raising asker ∷ frames) h can p less = raised_goes b n m W e frames h can p less
  raised_goes b n m W e (handled_by g ∷ frames) h can p less =
      let q = over W.chain handling W.frames W.coroutines 1 m (omega arith) p in
      either b n (has_room W) _ _
      (calls_go b n (on_frames W (handling ∷ W.frames)) g (e ∷ []) (λ why V. now_in V (unwinds error_in_handler)) h (1 + m, q)
      (λ why fuel le. gets_less le refl (1 + m) q (omega (arith, less))))
      (gets_less h refl m p (omega (arith, less)))
  raised_goes b n m W e (_ ∷ frames) h can p less = gets_less h refl m p (omega (arith, less))

  unwound_goes : (b n m : ℕ) (W : Run) (e : Value) (frames : List (Frame State)) → W.fuel ≤ b → CanEnd W → Fits W.chain frames W.coroutines m → m + 1 ≤ n
      → Goes b n (unwound system W e frames)
  unwound_goes b n m W e [] h can p less = fails_go celling b n m W e [] h can p (omega (arith, less))
  unwound_goes b n m W e (talking f s ∷ below) h can p less = has_end refl can
  unwound_goes b n m W e (waiting asker ∷ below) h can p less =
      let t = under W.chain _ below W.coroutines m p in let one = t.2 in let s = t.4 in
      heard_goes b n t.1 t.0 W asker _ below h t.3 one (omega (arith, s, less))
  unwound_goes b n m W e (raising asker ∷ below) h can p less =
      let t = under W.chain _ below W.coroutines m p in let one = t.2 in let s = t.4 in
      left_goes b n t.1 t.0 W asker e below h t.3 one (omega (arith, s, less))
  unwound_goes b n m W e (closing error vs_left ∷ below) h can p less =
      let t = under W.chain _ below W.coroutines m p in let one = t.2 in let s = t.4 in closes_on_go b n t.1 W (Some e) vs_left below h t.3 (omega (arith, one, s, less))
  unwound_goes b n m W e (_ ∷ below) h can p less =
      let t = under W.chain _ below W.coroutines m p in let one = t.2 in let s = t.4 in gets_less h refl t.1 t.3 (omega (arith, one, s, less))

  -- asks

  abbrev All : ℕ → Asker State → Type 0
  All top asker = (x : Answer) → measure (asker.goes x) < top

  on_goes : (b n m top : ℕ) (W : Run) (asker : Asker State) (x : Answer) (below : List (Frame State)) → W.fuel ≤ b → Fits W.chain below W.coroutines m
      → All top asker → 4 * top + 2 + m ≤ n → Goes b n (given_to W asker x below)
  on_goes b n m top W asker x below h p all room = given_goes b n m W asker x below h p (let l = all x in omega (arith, l, room))

  calls_for_goes : (b n m top : ℕ) (W : Run) (asker : Asker State) (below : List (Frame State)) (f : Value) (vs : List Value) → W.fuel ≤ b → Fits W.chain below W.coroutines m
      → All top asker → 4 * top + 2 + m ≤ n → Goes b n (calls_for system W asker below f vs)
  calls_for_goes b n m top W asker below f vs h p all room =
      calls_go b n (on_frames W (waiting asker ∷ below)) f vs (λ why V. answered V asker (faulted why) below) h
      (4 * top + 2 + m, over W.chain (waiting asker) below W.coroutines (4 * top + 2) m (λ x. let l = all x in omega (arith, l)) p)
      (λ why fuel le. on_goes b n m top (record W { frames = waiting asker ∷ below; fuel = fuel }) asker _ below le p all room)

  in_place_goes : (b n m top : ℕ) (W : Run) (asker : Asker State) (below : List (Frame State)) (f : Value) (vs : List Value) → W.fuel ≤ b → Fits W.chain below W.coroutines m
      → All top asker → 4 * top + 2 + m ≤ n → Goes b n (calls_in_place system W asker below f vs)
  in_place_goes b n m top W asker below f vs h p all room =
      calls_go b n (on_frames W below) f vs (λ why V. answered_at_once V asker 0 (faulted why) below) h (m, p)
      (λ why fuel le. on_goes b n m top (record W { frames = below; fuel = fuel }) asker _ below le p all room)

  settled_goes : (b n m top : ℕ) (W : Run) (asker : Asker State) (below : List (Frame State)) (o : Settled) → W.fuel ≤ b → CanEnd W → Fits W.chain below W.coroutines m
      → All top asker → 4 * top + 2 + m ≤ n → Goes b n (settled system W asker below o)
  settled_goes b n m top W asker below (found H vs) h can p all room = on_goes b n m top (record W { heap = H }) asker _ below h p all room
  settled_goes b n m top W asker below (ask g vs) h can p all room = calls_for_goes b n m top W asker below g vs h p all room
  settled_goes b n m top W asker below (fault why) h can p all room = on_goes b n m top W asker _ below h p all room
  settled_goes b n m top W asker below cannot_arise h can p all room = has_end refl can

  unit_goes : (b n m fuel : ℕ) (W : Run) (asker : Asker State) (below : List (Frame State)) → fuel ≤ b → CanEnd W → Fits W.chain below W.coroutines m → Goes b n (pays_unit fuel W asker below)
  unit_goes b n m zero W asker below h can p = has_end refl can
  unit_goes b n m (suc fuel) W asker below h can p =
      given_spends b n m (record W { fuel = fuel }) asker _ below (omega (arith, h)) p

  raises_goes : (b n m top : ℕ) (W : Run) (asker : Asker State) (below : List (Frame State)) (why : List ℕ) → W.fuel ≤ b → Fits W.chain below W.coroutines m
      → ((x : Answer) → IsOnTheUnit (raises why) x.reply → measure (asker.goes x) < top) → 4 * top + 2 + m ≤ n
      → Goes b n (raises_text (on_frames W (raising asker ∷ below)) why)
  raises_goes b n m zero W asker below why h p some room = absurd (let l = some (record { reply = left (known nil); shared = []; cell = 0 }) tt in omega (arith, l))
  raises_goes b n m (suc top) W asker below why h p some room =
      gets_less h refl (4 * top + 2 + m) (over W.chain (raising asker) below W.coroutines (4 * top + 2) m (λ x counts. let l = some x counts in omega (arith, l)) p) (omega (arith, room))

  gets_goes : (b n m top : ℕ) (W : Run) (asker : Asker State) (below : List (Frame State)) (o : Option (Function Body)) → W.fuel ≤ b → CanEnd W → Fits W.chain below W.coroutines m
      → All top asker → 4 * top + 2 + m ≤ n → Goes b n (gets_function W asker below o)
  gets_goes b n m top W asker below None h can p all room = has_end refl can
  gets_goes b n m top W asker below (Some f) h can p all room = on_goes b n m top (record W { functions = W.functions ++ f ∷ [] }) asker _ below h p all room

  handle_goes : (b n m top : ℕ) (q : Ask Body) (W : Run) (asker : Asker State) (below : List (Frame State)) → W.fuel ≤ b → CanEnd W → Fits W.chain below W.coroutines m
      → ((x : Answer) → IsOnTheUnit q x.reply → measure (asker.goes x) < top) → 4 * top + 2 + m ≤ n → Goes b n (handle system q W asker below)
  handle_goes b n m top (reads_upvalue u) W asker below h can p some room =
      if_there b n (cell_of W asker.function u) _ _ (has_end refl can) (λ c. on_goes b n m top W asker _ below h p (λ x. some x tt) room)
  handle_goes b n m top (writes_upvalue u v) W asker below h can p some room =
      if_there b n (cell_of W asker.function u) _ _ (has_end refl can) (λ c. on_goes b n m top (record W { cells = slice_set W.cells c v }) asker _ below h p (λ x. some x tt) room)
  handle_goes b n m top makes_table W asker below h can p some room = on_goes b n m top (record W { heap = _ }) asker _ below h p (λ x. some x tt) room
  handle_goes b n m top (makes_function body names) W asker below h can p some room = gets_goes b n m top W asker below (made_in W asker.function body names) h can p (λ x. some x tt) room
  handle_goes b n m top (fills_table t last vs) W asker below h can p some room =
      if_there b n (filled_table W.heap t last vs) _ _ (has_end refl can) (λ H. on_goes b n m top (record W { heap = H }) asker _ below h p (λ x. some x tt) room)
  handle_goes b n m top pays W asker below h can p some room = unit_goes b n m W.fuel W asker below h can p
  handle_goes b n m top (opens v) W asker below h can p some room = on_goes b n m top (record W { cells = W.cells ++ v ∷ [] }) asker _ below h p (λ x. some x tt) room
  handle_goes b n m top (operates op vs) W asker below h can p some room = settled_goes b n m top W asker below (does op vs W.heap) h can p (λ x. some x tt) room
  handle_goes b n m top (calls f vs) W asker below h can p some room = calls_for_goes b n m top W asker below f vs h p (λ x. some x tt) room
  handle_goes b n m top (calls_last f vs) W asker below h can p some room = in_place_goes b n m top W asker below f vs h p (λ x. some x tt) room
  handle_goes b n m top (marks v name) W asker below h can p some room =
      either b n (is_nil (handler_in W.heap of_close v)) _ _ (on_goes b n m top W asker _ below h p (λ x. some x tt) room)
      (on_goes b n m top W asker _ below h p (λ x. some x tt) room)
  handle_goes b n m top (closes v e) W asker below h can p some room =
      calls_for_goes b n m top W asker below (handler_in W.heap of_close v) (v ∷ e ∷ []) h p (λ x. some x tt) room
  handle_goes b n m top (raises why) W asker below h can p some room = raises_goes b n m top W asker below why h p some room
  handle_goes b n m top (leaves (returns vs)) W asker below h can p some room = gets_less h refl m p (omega (arith, room))
  handle_goes b n m top (leaves (throws e)) W asker below h can p some room = gets_less h refl m p (omega (arith, room))

  known_falls : (t : Bool) (top : ℕ) (next : Next Body State) → FallsBelow measure top next → FallsBelow measure top (as_known t next)
  known_falls true top next falls = falls
  known_falls false top (goes_on s) falls = falls
  known_falls false top (says (marks v name) line shared k) falls = falls
  known_falls false top (says q line shared k) falls = falls
  known_falls false top stuck falls = tt

  turns_go : (b n m top : ℕ) (next : Next Body State) (W : Run) (f : ℕ) (below : List (Frame State)) → W.fuel ≤ b → CanEnd W → Fits W.chain below W.coroutines m
      → FallsBelow measure top next → 4 * top + 2 + m ≤ n → W.now ≡ talks → Goes b n (turns system next W f below)
  turns_go b n m top (goes_on s) W f below h can p falls room now =
      let free = ap cost now in gets_less h (ap is_call now) (4 * measure s + 2 + m) (over W.chain (talking f s) below W.coroutines (4 * measure s + 2) m (omega arith) p) (omega (arith, falls, room, free))
  turns_go b n m top (says q line shared k) W f below h can p falls room now =
      handle_goes b n m top q (record W { cells = shared_in shared W.cells }) _ below h can p falls room
  turns_go b n m top stuck W f below h can p falls room now = has_end refl can

  talks_go : (b n m : ℕ) (W : Run) (frames : List (Frame State)) → W.fuel ≤ b → CanEnd W → Fits W.chain frames W.coroutines m → m ≤ n → W.now ≡ talks → Goes b n (talks_on system W frames)
  talks_go b n m W (talking f s ∷ below) h can p room now =
      let t = under W.chain _ below W.coroutines m p in let one = t.2 in let u = t.4 in
      if_there b n (slice_get W.functions f) _ _ (has_end refl can)
      (λ g. turns_go b n t.1 (measure s) (as_known g.has_lines (step s)) W f below h can t.3 (known_falls g.has_lines (measure s) (step s) (step_falls s)) (omega (arith, one, u, room)) now)
  talks_go b n m W [] h can p room now = has_end refl can
  talks_go b n m W (waiting asker ∷ below) h can p room now = has_end refl can
  talks_go b n m W (raising asker ∷ below) h can p room now = has_end refl can
  talks_go b n m W (protected ∷ below) h can p room now = has_end refl can
  talks_go b n m W (handled_by g ∷ below) h can p room now = has_end refl can
  talks_go b n m W (handling ∷ below) h can p room now = has_end refl can
  talks_go b n m W (closing e vs ∷ below) h can p room now = has_end refl can

  -- a step that calls no primitive
  pub tick_goes : (builds : Builds Body) (b n m : ℕ) (now : Now) (W : Run) → W.now ≡ now → W.fuel ≤ b → Fits W.chain W.frames W.coroutines m → m + cost now ≤ n → is_call now ≡ false
      → Goes b n (tick_by system (primitives builds) now W)
  tick_goes builds b n m talks W e h p room apart = talks_go b n m W W.frames h (m, p) p (omega (arith, room)) e
  tick_goes builds b n m (gives_back vs) W e h p room apart = handed_goes b n m W vs W.frames h (m, p) p room
  tick_goes builds b n m (raises_error error) W e h p room apart = raised_goes b n m W error W.frames h (m, p) p room
  tick_goes builds b n m (unwinds error) W e h p room apart = unwound_goes b n m W error W.frames h (m, p) p room
  tick_goes builds b n m (calls_primitive k vs) W e h p room apart = absurd (cc)
  tick_goes builds b n m (ends ending) W e h p room apart = has_end (ap has_ended e) (m, p)

  entered_after : (b c k : ℕ) (W : Run) (o : Option (Function Body)) (arguments : List Value) → W.fuel ≤ b → CanEnd W → After b c (enters_function system W k o arguments raises_why)
  entered_after b c k W None arguments h can = has_end_too refl can
  entered_after b c k W (Some g) arguments h can = either_after b c (has_room W) _ _ (settles h refl (_, started W k g arguments can.0 can.1)) (settles h refl can)

  enters_after : (b c : ℕ) (W : Run) (f : Value) (arguments : List Value) → W.fuel ≤ b → CanEnd W → fresh_count W.coroutines < c → After b c (enters system W f arguments raises_why)
  enters_after b c W (known (primitive k)) arguments h can fewer = begins_one h can fewer
  enters_after b c W (object a_function k) arguments h can fewer = entered_after b c k W (slice_get W.functions k) arguments h can
  enters_after b c W f arguments h can fewer = has_end_too refl can

  along : (m x co by : ℕ) (W : Run) (frames : List (Frame State)) (chain : List ℕ) → Fits W.chain W.frames W.coroutines m → FramesFit frames x
      → (k : ℕ) × Fits (co ∷ by ∷ chain) frames (slice_set (slice_set W.coroutines by (normal W.frames)) co running) k
  along m x co by W frames chain p fit = (
    x + (p.others + p.top + 0) + length (co ∷ by ∷ chain),
    record {
      chained = omega arith;
      top = x;
      others = p.others + p.top + 0;
      frames_fit = fit;
      others_fit = put (slice_set W.coroutines by (normal W.frames)) co running (p.others + p.top) 0 (put W.coroutines by (normal W.frames) p.others p.top p.others_fit p.frames_fit) tt;
      within = omega arith;
    },
  )

  begun_after : (b m co : ℕ) (W : Run) (body : Value) (vs : List Value) (chain : List ℕ) → W.fuel ≤ b → Fits W.chain W.frames W.coroutines m → 1 ≤ length chain
      → slice_get W.coroutines co ≡ Some (fresh body) → After b (fresh_count W.coroutines) (enters system (goes_along W co [] chain) body vs raises_why)
  begun_after b m co W body vs [] h p chained e = absurd (omega (arith, chained))
  begun_after b m co W body vs (by ∷ chain) h p chained e =
      enters_after b (fresh_count W.coroutines)
      (record W { coroutines = slice_set (slice_set W.coroutines by (normal W.frames)) co running; chain = co ∷ by ∷ chain; frames = [] }) body vs h (along m 0 co by W [] chain p tt)
      (fresh_fewer W.coroutines by co W.frames body e)

  gone_after : (b c m x co : ℕ) (W : Run) (frames : List (Frame State)) (vs : List Value) (chain : List ℕ) → W.fuel ≤ b → Fits W.chain W.frames W.coroutines m → FramesFit frames x
      → After b c (now_in (goes_along W co frames chain) (gives_back vs))
  gone_after b c m x co W frames vs [] h p fit = settles h refl (m, p)
  gone_after b c m x co W frames vs (by ∷ chain) h p fit = settles h refl (along m x co by W frames chain p fit)

  resumes_after : (b m x co : ℕ) (W : Run) (c : Coroutine State) (vs : List Value) → W.fuel ≤ b → Fits W.chain W.frames W.coroutines m → slice_get W.coroutines co ≡ Some c
      → FramesFit (frames_in (Some c)) x → After b (fresh_count W.coroutines) (resumes system W co c vs)
  resumes_after b m x co W (fresh body) vs h p e fit =
      either_after b (fresh_count W.coroutines) (nat_lt greatest_resumes (length W.chain)) _ _ (settles h refl (m, p)) (begun_after b m co W body vs W.chain h p p.chained e)
  resumes_after b m x co W (suspended frames) vs h p e fit =
      either_after b (fresh_count W.coroutines) (nat_lt greatest_resumes (length W.chain)) _ _ (settles h refl (m, p)) (gone_after b _ m x co W frames vs W.chain h p fit)
  resumes_after b m x co W _ vs h p e fit = settles h refl (m, p)

  closes_in_after : (b c m co : ℕ) (W : Run) (e : Option Value) (vs : List Value) → W.fuel ≤ b → Fits W.chain W.frames W.coroutines m → After b c (closes_in system W co e vs)
  closes_in_after b c m co W e vs h p =
      let q : Fits W.chain W.frames (slice_set W.coroutines co dead) (m + 0) = let w = p.within in record {
        chained = p.chained;
        top = p.top;
        others = p.others + 0;
        frames_fit = p.frames_fit;
        others_fit = put W.coroutines co dead p.others 0 p.others_fit tt;
        within = omega (arith, w);
      } in
      either_after b c (has_room W) _ _
      (after b c (m + 0 + 3 * length vs + 2) _ (closes_on_go b (m + 0 + 3 * length vs + 2) (m + 0) (put_coroutine W co dead) e vs W.frames h q (omega arith))) (settles h refl (m, p))

  closes_after : (b c m co : ℕ) (W : Run) (d : Coroutine State) → W.fuel ≤ b → Fits W.chain W.frames W.coroutines m → After b c (closes_coroutine system W co d)
  closes_after b c m co W (fresh body) h p = closes_in_after b c m co W None [] h p
  closes_after b c m co W (suspended frames) h p = closes_in_after b c m co W None (all_pending system W frames) h p
  closes_after b c m co W (failed e pending) h p = closes_in_after b c m co W (Some e) pending h p
  closes_after b c m co W dead h p = closes_in_after b c m co W None [] h p
  closes_after b c m co W running h p = settles h refl (m, p)
  closes_after b c m co W (normal frames) h p = settles h refl (m, p)

  found_after : (b c x co : ℕ) (W : Run) (goes : ℕ → Coroutine State → Run) (o : Option (Coroutine State)) → slice_get W.coroutines co ≡ o → FramesFit (frames_in o) x → CanEnd W
      → ((d : Coroutine State) → slice_get W.coroutines co ≡ Some d → FramesFit (frames_in (Some d)) x → After b c (goes co d))
      → After b c (elim o as (λ _. Run) [ None ↦ breaks W | Some d ↦ goes co d ])
  found_after b c x co W goes None e fit can more = has_end_too refl can
  found_after b c x co W goes (Some d) e fit can more = more d e fit

  with_after : (b c m x : ℕ) (W : Run) (f : List ℕ) (v : Value) (goes : ℕ → Coroutine State → Run) → W.fuel ≤ b → Fits W.chain W.frames W.coroutines m → AllFit W.coroutines x
      → ((co : ℕ) (d : Coroutine State) → slice_get W.coroutines co ≡ Some d → FramesFit (frames_in (Some d)) x → After b c (goes co d)) → After b c (with_coroutine W f v goes)
  with_after b c m x W f (object a_coroutine co) goes h p all more = found_after b c x co W goes (slice_get W.coroutines co) refl (got W.coroutines co x all) (m, p) (more co)
  with_after b c m x W f v goes h p all more = settles h refl (m, p)

  error_after : (b c m : ℕ) (W : Run) (v level : Value) (o : Option ℤ) → W.fuel ≤ b → Fits W.chain W.frames W.coroutines m → After b c (error_by W v level o)
  error_after b c m W v level None h p = settles h refl (m, p)
  error_after b c m W v level (Some z) h p = settles h refl (m, p)

  creates_after : (b c m : ℕ) (W : Run) (f : Value) → W.fuel ≤ b → Fits W.chain W.frames W.coroutines m → After b c (creates W f)
  creates_after b c m W f h p =
      either_after b c (is_function f) _ _
      (settles h refl (
        m + 0,
        let w = p.within in record {
          chained = p.chained;
          top = p.top;
          others = p.others + 0;
          frames_fit = p.frames_fit;
          others_fit = with_one W.coroutines (fresh f) p.others 0 p.others_fit tt;
          within = omega (arith, w);
        },
      ))
      (settles h refl (m, p))

  row_after : (b c m : ℕ) (W : Run) (o : Option Done) → W.fuel ≤ b → Fits W.chain W.frames W.coroutines m → After b c (after_row W o)
  row_after b c m W None h p = has_end_too refl (m, p)
  row_after b c m W (Some (done H vs)) h p = settles h refl (m, p)
  row_after b c m W (Some (no_result why)) h p = settles h refl (m, p)
  row_after b c m W (Some (an_error H e)) h p = settles h refl (m, p)

  yields_after : (b c m : ℕ) (W : Run) (vs : List Value) → W.fuel ≤ b → Fits W.chain W.frames W.coroutines m → After b c (yields W vs)
  yields_after b c m W vs h p =
      after b c (m + p.top + 1) _ (either b (m + p.top + 1) (runs_main W) _ _ (has_end refl (m, p))
      (back_goes b (m + p.top + 1) m p.top W (suspended W.frames) _ W.chain W.frames h (m, p) p p.frames_fit (omega arith)))

  runs_one_after : (b c m : ℕ) (W : Run) (chain : List ℕ) → W.fuel ≤ b → Fits W.chain W.frames W.coroutines m → After b c (runs_one W chain)
  runs_one_after b c m W [] h p = settles h refl (m, p)
  runs_one_after b c m W (co ∷ chain) h p = settles h refl (m, p)

  loads_after : (b c m : ℕ) (W : Run) (environment : Value) (l : Loaded Body) → W.fuel ≤ b → Fits W.chain W.frames W.coroutines m → After b c (after_loading W environment l)
  loads_after b c m W environment (wrong error) h p = settles h refl (m, p)
  loads_after b c m W environment _ h p = settles h refl (m, p)

  primitive_after : (builds : Builds Body) (b m : ℕ) (k : Primitive) (W : Run) (vs : List Value) → W.fuel ≤ b → Fits W.chain W.frames W.coroutines m → After b (fresh_count W.coroutines) (does_primitive system builds k W vs)
  primitive_after builds b m base_error W vs h p = error_after b _ m W (nth vs 0) (nth vs 1) (level_in (nth vs 1)) h p
  primitive_after builds b m base_pcall W vs h p = after b _ (1 + m + 4) _ (calls_over_go b (1 + m + 4) m 1 W protected (nth vs 0) (drop 1 vs) h p (omega arith) (omega arith))
  primitive_after builds b m base_xpcall W vs h p = after b _ (1 + m + 4) _ (calls_over_go b (1 + m + 4) m 1 W (handled_by (nth vs 1)) (nth vs 0) (drop 2 vs) h p (omega arith) (omega arith))
  primitive_after builds b m coroutine_create W vs h p = creates_after b _ m W (nth vs 0) h p
  primitive_after builds b m coroutine_resume W vs h p =
      with_after b _ m p.others W (codes "resume") (nth vs 0) (λ co c. resumes system W co c (drop 1 vs)) h p p.others_fit (λ co d e fit. resumes_after b m p.others co W d (drop 1 vs) h p e fit)
  primitive_after builds b m coroutine_yield W vs h p = yields_after b _ m W vs h p
  primitive_after builds b m coroutine_close W vs h p =
      with_after b _ m p.others W (codes "close") (nth vs 0) (λ co c. closes_coroutine system W co c) h p p.others_fit (λ co d e fit. closes_after b _ m co W d h p)
  primitive_after builds b m coroutine_status W vs h p =
      with_after b _ m p.others W (codes "status") (nth vs 0) (λ co c. gives_one W (text (status_of c))) h p p.others_fit (λ co d e fit. settles h refl (m, p))
  primitive_after builds b m coroutine_isyieldable W vs h p = settles h refl (m, p)
  primitive_after builds b m coroutine_running W vs h p = runs_one_after b _ m W W.chain h p
  primitive_after builds b m prelude_out W vs h p = settles h refl (m, p)
  primitive_after builds b m prelude_build W vs h p = loads_after b _ m W (environment_in W vs) (load_of builds (shape (nth vs 0)) (shape (nth vs 1)) (shape (nth vs 2))) h p
  primitive_after builds b m k W vs h p = row_after b _ m W (row k W.heap vs) h p

  called_after : (builds : Builds Body) (b m : ℕ) (o : Option Primitive) (W : Run) (vs : List Value) → W.fuel ≤ b → Fits W.chain W.frames W.coroutines m
      → After b (fresh_count W.coroutines) (elim o as (λ _. Run) [ None ↦ breaks W | Some p ↦ does_primitive system builds p W vs ])
  called_after builds b m None W vs h p = has_end_too refl (m, p)
  called_after builds b m (Some k) W vs h p = primitive_after builds b m k W vs h p

  pub call_after : (builds : Builds Body) (b m : ℕ) (now : Now) (W : Run) → W.fuel ≤ b → Fits W.chain W.frames W.coroutines m → is_call now ≡ true
      → After b (fresh_count W.coroutines) (tick_by system (primitives builds) now W)
  call_after builds b m (calls_primitive k vs) W h p called = called_after builds b m (primitive_at k) W vs h p
  call_after builds b m _ W h p called = absurd (cc)
