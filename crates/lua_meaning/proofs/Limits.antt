-- No coroutine ever has more frames than the limit, and the budget never grows.
use Rattle.std.proofs.Common.{◌≡◌, ℕ, zero, suc, ◌+◌, ◌≤◌, Bool, true, false, cond, List, [], ◌∷◌, ◌++◌, length, Option, Some, None, refl, arith}
use Rattle.std.proofs.lemmas.Bool.Decides.{nat_tests}
use Rattle.std.specs.Prelude.{ℤ, nat_lt, slice_get, slice_set, drop, codes}
use Rattle.int_core.specs.Value.{Value, known, primitive, object, a_function, a_coroutine, shape, is_nil, nth, error_or_nil}
use Rattle.int_core.specs.Limits.{greatest_depth, greatest_resumes}
use Rattle.int_core.specs.Heap.{filled_table}
use Rattle.int_core.specs.Operations.{Callee, callee, not_callable, callee_of, greatest_chain, Settled, found, ask, fault, cannot_arise, does, handler_in, of_close, is_function}
use Rattle.int_core.specs.Ask.{faulted, Ask, reads_upvalue, writes_upvalue, makes_table, makes_function, fills_table, pays, opens, operates, calls, calls_last, marks, closes, raises, leaves, returns, throws, Answer, Next, goes_on, says, stuck}
use Rattle.lua_meaning.specs.World.{System, Function, Asker, Frame, talking, waiting, raising, protected, handled_by, handling, closing, Coroutine, fresh, suspended, running, normal, dead, failed, Now, talks, gives_back, raises_error, unwinds, calls_primitive, ends, World, now_in, breaks, has_room, on_frames, runs_main, raises_text, blamed, given_to, answered, answered_at_once, as_known, cell_of, shared_in}
use Rattle.lua_meaning.specs.Calls.{error_in_handler, put_coroutine, frames_in, back_to, returns_all, fails_all, enters_function, enters, pays_with, pays_for, calls_value, calls_over, closes_on, handed, raised_to, unwound, goes_along, goes_into, resumes, yields, closes_in, closes_coroutine}
use Rattle.lua_meaning.specs.Asks.{calls_for, calls_in_place, settled, pays_unit, made_in, gets_function, handle, turns, talks_on}
use Rattle.library_rows.specs.Look.{Done, done}
use Rattle.library_rows.specs.Look.{refused as no_result, raised as an_error}
use Rattle.load_rows.specs.Loading.{Builds, Loaded, wrong, not_loaded, loaded, load_of}
use Rattle.library_rows.specs.Library.{Primitive, base_error, base_pcall, base_xpcall, coroutine_close, coroutine_create, coroutine_isyieldable, coroutine_resume, coroutine_running, coroutine_status, coroutine_yield, prelude_build, prelude_out}
use Rattle.lua_meaning.specs.Step.{error_by, level_in, creates, with_coroutine, row, after_row, after_loading, environment_in, Primitives, does_primitive, runs_one, has_ended, tick_by, tick, ticks}
use Rattle.lua_meaning.specs.Laws.{AllShallow}

-- at most this fuel, and shallow
pub record Keeps {F S : Type 0} (fuel : ℕ) (V : World F S) : Type 0 where
  pub spends : V.fuel ≤ fuel
  pub top : length V.frames ≤ greatest_depth
  pub others : AllShallow V.coroutines

either : {F S : Type 0} → (fuel : ℕ) (b : Bool) (V U : World F S) → (b ≡ true → Keeps fuel V) → (b ≡ false → Keeps fuel U) → Keeps fuel (cond b V U)
either fuel true V U first second = first refl
either fuel false V U first second = second refl

-- coroutines

all_set : {S : Type 0} → (cs : List (Coroutine S)) (n : ℕ) (c : Coroutine S) → AllShallow cs → length (frames_in (Some c)) ≤ greatest_depth → AllShallow (slice_set cs n c)
all_set [] n c all one = tt
all_set (d ∷ cs) zero c all one = (one, all.1)
all_set (d ∷ cs) (suc n) c all one = (all.0, all_set cs n c all.1 one)

all_get : {S : Type 0} → (cs : List (Coroutine S)) (n : ℕ) → AllShallow cs → length (frames_in (slice_get cs n)) ≤ greatest_depth
all_get [] n all = omega arith
all_get (d ∷ cs) zero all = all.0
all_get (d ∷ cs) (suc n) all = all_get cs n all.1

all_with : {S : Type 0} → (cs : List (Coroutine S)) (c : Coroutine S) → AllShallow cs → length (frames_in (Some c)) ≤ greatest_depth → AllShallow (cs ++ c ∷ [])
all_with [] c all one = (one, tt)
all_with (d ∷ cs) c all one = (all.0, all_with cs c all.1 one)

module _ {F S : Type 0} where
  now_keeps : (n : ℕ) (W : World F S) (now : Now) → Keeps n W → Keeps n (now_in W now)
  now_keeps n W now k = record { spends = k.spends; top = k.top; others = k.others }

  frames_keep : (n : ℕ) (W : World F S) (frames : List (Frame S)) → Keeps n W → length frames ≤ greatest_depth → Keeps n (on_frames W frames)
  frames_keep n W frames k few = record { spends = k.spends; top = few; others = k.others }

  given_keeps : (n : ℕ) (W : World F S) (asker : Asker S) (x : Answer) (below : List (Frame S)) → Keeps n W → length below + 1 ≤ greatest_depth → Keeps n (given_to W asker x below)
  given_keeps n W asker x below k few = record { spends = k.spends; top = omega (arith, few); others = k.others }

  back_keeps : (n : ℕ) (W : World F S) (c : Coroutine S) (vs : List Value) (chain : List ℕ) → Keeps n W → length (frames_in (Some c)) ≤ greatest_depth → Keeps n (back_to W c vs chain)
  back_keeps n W c vs [] k few = now_keeps n W _ k
  back_keeps n W c vs (co ∷ []) k few = now_keeps n W _ k
  back_keeps n W c vs (co ∷ by ∷ chain) k few = record {
    spends = k.spends;
    top = all_get W.coroutines by k.others;
    others = all_set (slice_set W.coroutines co c) by running (all_set W.coroutines co c k.others few) (omega arith);
  }

  returns_keep : (n : ℕ) (W : World F S) (vs : List Value) → Keeps n W → Keeps n (returns_all W vs)
  returns_keep n W vs k = either n (runs_main W) _ _ (λ _. now_keeps n W _ k) (λ _. back_keeps n W dead _ W.chain k (omega arith))

  fails_keep : (system : System F S) (n : ℕ) (W : World F S) (e : Value) → Keeps n W → Keeps n (fails_all system W e)
  fails_keep system n W e k = either n (runs_main W) _ _ (λ _. now_keeps n W _ k) (λ _. back_keeps n W (failed e _) _ W.chain k (omega arith))

  yields_keep : (n : ℕ) (W : World F S) (vs : List Value) → Keeps n W → Keeps n (yields W vs)
  yields_keep n W vs k = either n (runs_main W) _ _ (λ _. now_keeps n W _ k) (λ _. back_keeps n W (suspended W.frames) _ W.chain k k.top)

  room : (W : World F S) → has_room W ≡ true → length W.frames + 1 ≤ greatest_depth
  room W there = grind (arith, nat_tests, there)

module _ {F S : Type 0} (system : System F S) where
  abbrev Refusal : ℕ → (List ℕ → World F S → World F S) → Type 0
  Refusal n refused = (why : List ℕ) (V : World F S) → Keeps n V → Keeps n (refused why V)

  -- the error of a callee that cannot be called is raised
  abbrev raises_why : List ℕ → World F S → World F S
  raises_why why V = raises_text V why

  raises_keep : (n : ℕ) → Refusal n raises_why
  raises_keep n why V kept = now_keeps n V (raises_error (blamed V why)) kept

  entered_keeps : (n : ℕ) (W : World F S) (f : ℕ) (o : Option (Function F)) (arguments : List Value) (refused : List ℕ → World F S → World F S) → Keeps n W → Refusal n refused
      → Keeps n (enters_function system W f o arguments refused)
  entered_keeps n W f None arguments refused k r = now_keeps n W _ k
  entered_keeps n W f (Some g) arguments refused k r =
      either n (has_room W) _ _ (λ there. let h = room W there in record { spends = k.spends; top = omega (arith, h); others = k.others }) (λ _. r _ W k)

  enters_keep : (n : ℕ) (W : World F S) (f : Value) (arguments : List Value) (refused : List ℕ → World F S → World F S) → Keeps n W → Refusal n refused
      → Keeps n (enters system W f arguments refused)
  enters_keep n W (known (primitive m)) arguments refused k r = now_keeps n W _ k
  enters_keep n W (object a_function m) arguments refused k r = entered_keeps n W m (slice_get W.functions m) arguments refused k r
  enters_keep n W f arguments refused k r = now_keeps n W _ k

  pays_with_keeps : (n m : ℕ) (W : World F S) (f : Value) (arguments : List Value) (refused : List ℕ → World F S → World F S) → W.fuel ≡ m → Keeps n W → Refusal n refused
      → Keeps n (pays_with system m W f arguments refused)
  pays_with_keeps n zero W f arguments refused e k r = now_keeps n W _ k
  pays_with_keeps n (suc m) W f arguments refused e k r =
      enters_keep n (record W { fuel = m }) f arguments refused (let h = k.spends in record { spends = omega (arith, h, e); top = k.top; others = k.others }) r

  pays_keep : (n : ℕ) (W : World F S) (c : Callee) (refused : List ℕ → World F S → World F S) → Keeps n W → Refusal n refused → Keeps n (pays_for system W c refused)
  pays_keep n W (not_callable why) refused k r = r why W k
  pays_keep n W (callee f arguments) refused k r = pays_with_keeps n W.fuel W f arguments refused refl k r

  calls_keep : (n : ℕ) (W : World F S) (f : Value) (arguments : List Value) (refused : List ℕ → World F S → World F S) → Keeps n W → Refusal n refused
      → Keeps n (calls_value system W f arguments refused)
  calls_keep n W f arguments refused k r = pays_keep n W (callee_of greatest_chain W.heap f arguments) refused k r

  calls_over_keep : (n : ℕ) (W : World F S) (frame : Frame S) (f : Value) (arguments : List Value) → Keeps n W → Keeps n (calls_over system W frame f arguments)
  calls_over_keep n W frame f arguments k =
      either n (has_room W) _ _
      (λ there. let h = room W there in calls_keep n (on_frames W (frame ∷ W.frames)) f arguments raises_why (frames_keep n W (frame ∷ W.frames) k (omega (arith, h))) (raises_keep n))
      (λ _. now_keeps n W _ k)

  closes_on_keeps : (n : ℕ) (W : World F S) (e : Option Value) (vs : List Value) (below : List (Frame S)) → Keeps n W → length below + 1 ≤ greatest_depth
      → Keeps n (closes_on system W e vs below)
  closes_on_keeps n W None [] below k few = now_keeps n (on_frames W below) _ (frames_keep n W below k (omega (arith, few)))
  closes_on_keeps n W (Some e) [] below k few = now_keeps n (on_frames W below) _ (frames_keep n W below k (omega (arith, few)))
  closes_on_keeps n W e (v ∷ vs) below k few =
      calls_keep n (on_frames W (closing e vs ∷ below)) (handler_in W.heap of_close v) (v ∷ error_or_nil e ∷ []) raises_why
      (frames_keep n W (closing e vs ∷ below) k (omega (arith, few))) (raises_keep n)

  handed_keeps : (n : ℕ) (W : World F S) (vs : List Value) (frames : List (Frame S)) → Keeps n W → length frames ≤ greatest_depth → Keeps n (handed system W vs frames)
  handed_keeps n W vs [] k few = returns_keep n W vs k
  handed_keeps n W vs (talking f s ∷ below) k few = now_keeps n W _ k
  handed_keeps n W vs (waiting asker ∷ below) k few = given_keeps n W asker _ below k (omega (arith, few))
  handed_keeps n W vs (raising asker ∷ below) k few = now_keeps n W _ k
  handed_keeps n W vs (protected ∷ below) k few = now_keeps n (on_frames W below) _ (frames_keep n W below k (omega (arith, few)))
  handed_keeps n W vs (handled_by h ∷ below) k few = now_keeps n (on_frames W below) _ (frames_keep n W below k (omega (arith, few)))
  handed_keeps n W vs (handling ∷ below) k few = now_keeps n (on_frames W below) _ (frames_keep n W below k (omega (arith, few)))
  handed_keeps n W vs (closing e vs_left ∷ below) k few = closes_on_keeps n W e vs_left below k (omega (arith, few))

  raised_keeps : (n : ℕ) (W : World F S) (e : Value) (frames : List (Frame S)) → Keeps n W → Keeps n (raised_to system W e frames)
  raised_keeps n W e [] k = either n (runs_main W) _ _ (λ _. now_keeps n W _ k) (λ _. fails_keep system n W e k)
  raised_keeps n W e (talking f s ∷ frames) k = raised_keeps n W e frames k
  raised_keeps n W e (waiting asker ∷ frames) k = raised_keeps n W e frames k
  raised_keeps n W e (raising asker ∷ frames) k = raised_keeps n W e frames k
  raised_keeps n W e (handled_by h ∷ frames) k =
      either n (has_room W) _ _
      (λ there. let r = room W there in calls_keep n (on_frames W (handling ∷ W.frames)) h (e ∷ []) (λ why V. now_in V (unwinds error_in_handler))
      (frames_keep n W (handling ∷ W.frames) k (omega (arith, r))) (λ why V kept. now_keeps n V (unwinds error_in_handler) kept))
      (λ _. now_keeps n W (unwinds error_in_handler) k)
  raised_keeps n W e (protected ∷ frames) k = now_keeps n W _ k
  raised_keeps n W e (handling ∷ frames) k = now_keeps n W _ k
  raised_keeps n W e (closing error vs_left ∷ frames) k = now_keeps n W _ k

  unwound_keeps : (n : ℕ) (W : World F S) (e : Value) (frames : List (Frame S)) → Keeps n W → length frames ≤ greatest_depth → Keeps n (unwound system W e frames)
  unwound_keeps n W e [] k few = fails_keep system n W e k
  unwound_keeps n W e (talking f s ∷ below) k few = now_keeps n W _ k
  unwound_keeps n W e (waiting asker ∷ below) k few = given_keeps n W asker _ below k (omega (arith, few))
  unwound_keeps n W e (raising asker ∷ below) k few = given_keeps n W asker _ below k (omega (arith, few))
  unwound_keeps n W e (protected ∷ below) k few = now_keeps n (on_frames W below) _ (frames_keep n W below k (omega (arith, few)))
  unwound_keeps n W e (handled_by h ∷ below) k few = now_keeps n (on_frames W below) _ (frames_keep n W below k (omega (arith, few)))
  unwound_keeps n W e (handling ∷ below) k few = now_keeps n (on_frames W below) _ (frames_keep n W below k (omega (arith, few)))
  unwound_keeps n W e (closing error vs_left ∷ below) k few = closes_on_keeps n W (Some e) vs_left below k (omega (arith, few))

  -- moves between coroutines

  along_keeps : (n : ℕ) (W : World F S) (co : ℕ) (frames : List (Frame S)) (chain : List ℕ) → Keeps n W → length frames ≤ greatest_depth → Keeps n (goes_along W co frames chain)
  along_keeps n W co frames [] k few = now_keeps n W _ k
  along_keeps n W co frames (by ∷ chain) k few = record {
    spends = k.spends;
    top = few;
    others = all_set (slice_set W.coroutines by (normal W.frames)) co running (all_set W.coroutines by (normal W.frames) k.others k.top) (omega arith);
  }

  resumes_keep : (n : ℕ) (W : World F S) (co : ℕ) (c : Coroutine S) (vs : List Value) → Keeps n W → length (frames_in (Some c)) ≤ greatest_depth → Keeps n (resumes system W co c vs)
  resumes_keep n W co (fresh body) vs k few =
      either n (nat_lt (greatest_resumes) (length W.chain)) _ _ (λ _. now_keeps n W _ k)
      (λ _. enters_keep n (goes_into W co []) body vs raises_why (along_keeps n W co [] W.chain k (omega arith)) (raises_keep n))
  resumes_keep n W co (suspended frames) vs k few =
      either n (nat_lt (greatest_resumes) (length W.chain)) _ _ (λ _. now_keeps n W _ k) (λ _. now_keeps n (goes_into W co frames) _ (along_keeps n W co frames W.chain k few))
  resumes_keep n W co _ vs k few = now_keeps n W _ k

  closes_in_keeps : (n : ℕ) (W : World F S) (co : ℕ) (e : Option Value) (vs : List Value) → Keeps n W → Keeps n (closes_in system W co e vs)
  closes_in_keeps n W co e vs k =
      either n (has_room W) _ _
      (λ there. closes_on_keeps n (put_coroutine W co dead) e vs W.frames (record { spends = k.spends; top = k.top; others = all_set W.coroutines co dead k.others (omega arith) }) (room W there))
      (λ _. now_keeps n W _ k)

  closes_keep : (n : ℕ) (W : World F S) (co : ℕ) (c : Coroutine S) → Keeps n W → Keeps n (closes_coroutine system W co c)
  closes_keep n W co (fresh body) k = closes_in_keeps n W co None [] k
  closes_keep n W co (suspended frames) k = closes_in_keeps n W co None _ k
  closes_keep n W co (failed e pending) k = closes_in_keeps n W co (Some e) pending k
  closes_keep n W co dead k = closes_in_keeps n W co None [] k
  closes_keep n W co running k = now_keeps n W _ k
  closes_keep n W co (normal frames) k = now_keeps n W _ k

  -- asks

  if_there : {A : Type 0} → (n : ℕ) (o : Option A) (V : World F S) (goes : A → World F S) → Keeps n V → ((x : A) → Keeps n (goes x))
      → Keeps n (elim o as (λ _. World F S) [ None ↦ V | Some x ↦ goes x ])
  if_there n None V goes k more = k
  if_there n (Some x) V goes k more = more x

  calls_for_keeps : (n : ℕ) (W : World F S) (asker : Asker S) (below : List (Frame S)) (f : Value) (vs : List Value) → Keeps n W → length below + 1 ≤ greatest_depth
      → Keeps n (calls_for system W asker below f vs)
  calls_for_keeps n W asker below f vs k few =
      calls_keep n (on_frames W (waiting asker ∷ below)) f vs (λ why V. answered V asker (faulted why) below) (frames_keep n W (waiting asker ∷ below) k (omega (arith, few)))
      (λ why V kept. given_keeps n V asker _ below kept few)

  in_place_keeps : (n : ℕ) (W : World F S) (asker : Asker S) (below : List (Frame S)) (f : Value) (vs : List Value) → Keeps n W → length below + 1 ≤ greatest_depth
      → Keeps n (calls_in_place system W asker below f vs)
  in_place_keeps n W asker below f vs k few =
      calls_keep n (on_frames W below) f vs (λ why V. answered_at_once V asker 0 (faulted why) below) (frames_keep n W below k (omega (arith, few)))
      (λ why V kept. given_keeps n V asker _ below kept few)

  settled_keeps : (n : ℕ) (W : World F S) (asker : Asker S) (below : List (Frame S)) (o : Settled) → Keeps n W → length below + 1 ≤ greatest_depth → Keeps n (settled system W asker below o)
  settled_keeps n W asker below (found H vs) k few = given_keeps n (record W { heap = H }) asker _ below (record { spends = k.spends; top = k.top; others = k.others }) few
  settled_keeps n W asker below (ask h vs) k few = calls_for_keeps n W asker below h vs k few
  settled_keeps n W asker below (fault why) k few = given_keeps n W asker _ below k few
  settled_keeps n W asker below cannot_arise k few = now_keeps n W _ k

  unit_keeps : (n m : ℕ) (W : World F S) (asker : Asker S) (below : List (Frame S)) → W.fuel ≡ m → Keeps n W → length below + 1 ≤ greatest_depth → Keeps n (pays_unit m W asker below)
  unit_keeps n zero W asker below e k few = now_keeps n W _ k
  unit_keeps n (suc m) W asker below e k few =
      given_keeps n (record W { fuel = m }) asker _ below (let h = k.spends in record { spends = omega (arith, h, e); top = k.top; others = k.others }) few

  gets_keeps : (n : ℕ) (W : World F S) (asker : Asker S) (below : List (Frame S)) (o : Option (Function F)) → Keeps n W → length below + 1 ≤ greatest_depth → Keeps n (gets_function W asker below o)
  gets_keeps n W asker below None k few = now_keeps n W _ k
  gets_keeps n W asker below (Some f) k few = record { spends = k.spends; top = omega (arith, few); others = k.others }

  handle_keeps : (n : ℕ) (q : Ask F) (W : World F S) (asker : Asker S) (below : List (Frame S)) → Keeps n W → length below + 1 ≤ greatest_depth → Keeps n (handle system q W asker below)
  handle_keeps n (reads_upvalue u) W asker below k few =
      if_there n (cell_of W asker.function u) _ _ (now_keeps n W _ k) (λ c. given_keeps n W asker _ below k few)
  handle_keeps n (writes_upvalue u v) W asker below k few =
      if_there n (cell_of W asker.function u) _ _ (now_keeps n W _ k)
      (λ c. given_keeps n (record W { cells = slice_set W.cells c v }) asker _ below (record { spends = k.spends; top = k.top; others = k.others }) few)
  handle_keeps n makes_table W asker below k few = record { spends = k.spends; top = omega (arith, few); others = k.others }
  handle_keeps n (makes_function body names) W asker below k few = gets_keeps n W asker below (made_in W asker.function body names) k few
  handle_keeps n (fills_table t last vs) W asker below k few =
      if_there n (filled_table W.heap t last vs) _ _ (now_keeps n W _ k)
      (λ H. given_keeps n (record W { heap = H }) asker _ below (record { spends = k.spends; top = k.top; others = k.others }) few)
  handle_keeps n pays W asker below k few = unit_keeps n W.fuel W asker below refl k few
  handle_keeps n (opens v) W asker below k few = record { spends = k.spends; top = omega (arith, few); others = k.others }
  handle_keeps n (operates op vs) W asker below k few = settled_keeps n W asker below (does op vs W.heap) k few
  handle_keeps n (calls f vs) W asker below k few = calls_for_keeps n W asker below f vs k few
  handle_keeps n (calls_last f vs) W asker below k few = in_place_keeps n W asker below f vs k few
  handle_keeps n (marks v name) W asker below k few =
      either n (is_nil (handler_in W.heap of_close v)) _ _ (λ _. given_keeps n W asker _ below k few) (λ _. given_keeps n W asker _ below k few)
  handle_keeps n (closes v e) W asker below k few =
      calls_for_keeps n W asker below (handler_in W.heap of_close v) (v ∷ e ∷ []) k few
  handle_keeps n (raises why) W asker below k few = now_keeps n (on_frames W (raising asker ∷ below)) _ (frames_keep n W (raising asker ∷ below) k (omega (arith, few)))
  handle_keeps n (leaves (returns vs)) W asker below k few = now_keeps n (on_frames W below) _ (frames_keep n W below k (omega (arith, few)))
  handle_keeps n (leaves (throws e)) W asker below k few = now_keeps n (on_frames W below) _ (frames_keep n W below k (omega (arith, few)))

  turns_keep : (n : ℕ) (next : Next F S) (W : World F S) (f : ℕ) (below : List (Frame S)) → Keeps n W → length below + 1 ≤ greatest_depth
      → Keeps n (turns system next W f below)
  turns_keep n (goes_on s) W f below k few = frames_keep n W (talking f s ∷ below) k (omega (arith, few))
  turns_keep n (says q line shared goes) W f below k few =
      handle_keeps n q (record W { cells = shared_in shared W.cells }) _ below (record { spends = k.spends; top = k.top; others = k.others }) few
  turns_keep n stuck W f below k few = now_keeps n W _ k

  talks_keep : (n : ℕ) (W : World F S) (frames : List (Frame S)) → Keeps n W → length frames ≤ greatest_depth → Keeps n (talks_on system W frames)
  talks_keep n W (talking f s ∷ below) k few =
      if_there n (slice_get W.functions f) _ _ (now_keeps n W _ k) (λ g. turns_keep n (as_known g.has_lines (system.steps g.made_of s)) W f below k (omega (arith, few)))
  talks_keep n W [] k few = now_keeps n W _ k
  talks_keep n W (waiting asker ∷ below) k few = now_keeps n W _ k
  talks_keep n W (raising asker ∷ below) k few = now_keeps n W _ k
  talks_keep n W (protected ∷ below) k few = now_keeps n W _ k
  talks_keep n W (handled_by h ∷ below) k few = now_keeps n W _ k
  talks_keep n W (handling ∷ below) k few = now_keeps n W _ k
  talks_keep n W (closing e vs ∷ below) k few = now_keeps n W _ k

  -- primitives

  with_keeps : (n : ℕ) (W : World F S) (f : List ℕ) (v : Value) (goes : ℕ → Coroutine S → World F S) → Keeps n W
      → ((co : ℕ) (c : Coroutine S) → length (frames_in (Some c)) ≤ greatest_depth → Keeps n (goes co c)) → Keeps n (with_coroutine W f v goes)
  with_keeps n W f (object a_coroutine co) goes k more = by (slice_get W.coroutines co) (all_get W.coroutines co k.others) where
    by : (o : Option (Coroutine S)) → length (frames_in o) ≤ greatest_depth → Keeps n (elim o as (λ _. World F S) [ None ↦ breaks W | Some c ↦ goes co c ])
    by None few = now_keeps n W _ k
    by (Some c) few = more co c few
  with_keeps n W f v goes k more = now_keeps n W _ k

  error_keeps : (n : ℕ) (W : World F S) (v level : Value) (o : Option ℤ) → Keeps n W → Keeps n (error_by W v level o)
  error_keeps n W v level None k = now_keeps n W _ k
  error_keeps n W v level (Some m) k = now_keeps n W _ k

  creates_keep : (n : ℕ) (W : World F S) (f : Value) → Keeps n W → Keeps n (creates W f)
  creates_keep n W f k =
      either n (is_function f) _ _ (λ _. record { spends = k.spends; top = k.top; others = all_with W.coroutines (fresh f) k.others (omega arith) }) (λ _. now_keeps n W _ k)

  row_keeps : (n : ℕ) (W : World F S) (o : Option Done) → Keeps n W → Keeps n (after_row W o)
  row_keeps n W None k = now_keeps n W _ k
  row_keeps n W (Some (done H vs)) k = record { spends = k.spends; top = k.top; others = k.others }
  row_keeps n W (Some (no_result why)) k = now_keeps n W _ k
  row_keeps n W (Some (an_error H e)) k = record { spends = k.spends; top = k.top; others = k.others }

  runs_one_keeps : (n : ℕ) (W : World F S) (chain : List ℕ) → Keeps n W → Keeps n (runs_one W chain)
  runs_one_keeps n W [] k = now_keeps n W _ k
  runs_one_keeps n W (co ∷ chain) k = now_keeps n W _ k

  loads_keep : (n : ℕ) (W : World F S) (environment : Value) (l : Loaded F) → Keeps n W → Keeps n (after_loading W environment l)
  loads_keep n W environment (wrong error) k = now_keeps n W _ k
  loads_keep n W environment (not_loaded why) k = now_keeps n W _ k
  loads_keep n W environment (loaded name f) k = record { spends = k.spends; top = k.top; others = k.others }

  primitive_keeps : (builds : Builds F) (n : ℕ) (p : Primitive) (W : World F S) (vs : List Value) → Keeps n W → Keeps n (does_primitive system builds p W vs)
  primitive_keeps builds n base_error W vs k = error_keeps n W (nth vs 0) (nth vs 1) (level_in (nth vs 1)) k
  primitive_keeps builds n base_pcall W vs k = calls_over_keep n W protected (nth vs 0) (drop 1 vs) k
  primitive_keeps builds n base_xpcall W vs k = calls_over_keep n W (handled_by (nth vs 1)) (nth vs 0) (drop 2 vs) k
  primitive_keeps builds n coroutine_create W vs k = creates_keep n W (nth vs 0) k
  primitive_keeps builds n coroutine_resume W vs k = with_keeps n W (codes "resume") (nth vs 0) _ k (λ co c few. resumes_keep n W co c (drop 1 vs) k few)
  primitive_keeps builds n coroutine_yield W vs k = yields_keep n W vs k
  primitive_keeps builds n coroutine_close W vs k = with_keeps n W (codes "close") (nth vs 0) _ k (λ co c few. closes_keep n W co c k)
  primitive_keeps builds n coroutine_status W vs k = with_keeps n W (codes "status") (nth vs 0) _ k (λ co c few. now_keeps n W _ k)
  primitive_keeps builds n coroutine_isyieldable W vs k = now_keeps n W _ k
  primitive_keeps builds n coroutine_running W vs k = runs_one_keeps n W W.chain k
  primitive_keeps builds n prelude_out W vs k = record { spends = k.spends; top = k.top; others = k.others }
  primitive_keeps builds n prelude_build W vs k = loads_keep n W (environment_in W vs) (load_of builds (shape (nth vs 0)) (shape (nth vs 1)) (shape (nth vs 2))) k
  primitive_keeps builds n p W vs k = row_keeps n W (row p W.heap vs) k

  module _ (primitives : Primitives F) where
    tick_keeps : (n : ℕ) (now : Now) (W : World F S) → Keeps n W → Keeps n (tick_by system primitives now W)
    tick_keeps n talks W k = talks_keep n W W.frames k k.top
    tick_keeps n (gives_back vs) W k = handed_keeps n W vs W.frames k k.top
    tick_keeps n (raises_error e) W k = raised_keeps n W e W.frames k
    tick_keeps n (unwinds e) W k = unwound_keeps n W e W.frames k k.top
    tick_keeps n (calls_primitive m vs) W k = if_there n (primitives.numbered m) _ _ (now_keeps n W _ k) (λ p. primitive_keeps primitives.builds n p W vs k)
    tick_keeps n (ends ending) W k = k

    pub ticks_keep : (n m : ℕ) (W : World F S) → Keeps n W → Keeps n (ticks system primitives m W)
    ticks_keep n zero W k = k
    ticks_keep n (suc m) W k = by (has_ended W.now) (ticks_keep n m (tick system primitives W) (tick_keeps n W.now W k)) where
      by : (b : Bool) → Keeps n (ticks system primitives m (tick system primitives W)) → Keeps n (elim b as (λ _. World F S) [ true ↦ W | false ↦ ticks system primitives m (tick system primitives W) ])
      by true later = k
      by false later = later
