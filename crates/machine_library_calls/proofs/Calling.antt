-- A primitive that is called for a Lua frame, and results that the frame takes: these are up to three steps of the machine.
use Rattle.std.proofs.Common.{◌≡◌, ℕ, suc, zero, ◌-◌, ◌<◌, ◌≤◌, List, [], ◌∷◌, ◌++◌, length, Option, Some, None, Result, Ok, Err, IfOk, refl, ap, sym, subst, ◌∙◌, arith, Bool, true, false}
use Rattle.std.specs.Prelude.{◌^◌, drop, map}
use Rattle.std.specs.Global.{Vec}
use Rattle.int_core.specs.Heap.{Heap}
use Rattle.int_core.specs.Value.{Value, last}
use Rattle.tree_core.specs.Tree.{Body}
use Rattle.library_rows.specs.Library.{all_entries}
use Rattle.library_rows.specs.Look.{Look, looked}
use Rattle.load_rows.specs.Loading.{Builds}
use Rattle.loaded_code.specs.Laws.{LoadingIsSafe, library}
use Rattle.source_builds.specs.Builds.{BuildsSources}
use Rattle.machine_core.specs.World.{Frame, closing, World, Stack, stack_of, Place, place_of}
use Rattle.machine_core.specs.Text.{Arg, args_of}
use Rattle.machine_core.specs.FrameRows.{hand_over, handed}
use Rattle.machine_core.specs.Moves.{Ending, Made, made, TopShape, lua_top, see_top, top_now, top_shape, go, calls_primitive, raised, give, give_with, is_given, Row, ends}
use Rattle.machine_core.specs.MachineStep.{after_look, and_then, look_row, steps}
use Rattle.machine_sound.specs.Laws.{PrimitivesSafe}
use Rattle.machine_sound.proofs.Lists.{some_is}
use Rattle.table_core.specs.declared.value.Value.{Value as Kept}
use Rattle.lua_stack.specs.declared.frame.Wait.{Wait as KeptWait}
use Rattle.lua_stack.specs.declared.frame.Wait.TheVariants.{Running}
use Rattle.lua_heap.specs.declared.world.World.{World as Memory}
use Rattle.lua_heap.specs.Cells.{CellsAreListed}
use Rattle.lua_heap.specs.Plain.{plain}
use Rattle.lua_heap.specs.Reading.{value}
use Rattle.pure_functions.specs.declared.answer.Answer.{Answer}
use Rattle.pure_functions.specs.declared.answer.Answer.TheVariants.{Raises}
use Rattle.pure_functions.specs.Answers.{Changes, OnlyStrings, Stands, told, heap_of}
use Rattle.move_laws.specs.Memory.{InOrder, IsSound, Leads, Makes, ReadsSame}
use Rattle.move_laws.proofs.Order.{steps_of}
use Rattle.move_laws.proofs.Rows.{first, ended}
use Rattle.machine_moves.specs.Ending.{ending_of}
use Rattle.machine_moves.specs.declared.ending.Ending.{Ending as KeptEnding}
use Rattle.machine_primitives.proofs.Reading.{nothing, nothing_built}
use Rattle.machine_returns.specs.Waking.{IsSolid, WaitsSo, Wakes}
use Rattle.machine_returns.proofs.Woken.{moved}
use Rattle.machine_library.specs.Answers.{Tells, shape_told, values_told}
use Rattle.machine_library.proofs.Consulting.{gives_on, raises_on, tells_row}
use Rattle.machine_library.proofs.Moving.{Taken, moves_again, stands}
use Rattle.step_laws.specs.Steps.{Does, IsReady}
use Rattle.step_laws.proofs.Ready.{ready_is_sound, steps_stay_ready}
use Rattle.step_laws.proofs.Stepping.{primitive_is_step}
use Rattle.running_frame.specs.declared.place.Here.{Here}
use Rattle.running_frame.specs.Here.{is_none}
use Rattle.machine_step.specs.Places.{GoesOnSo, IsAwake, WaitsHere}
use Rattle.machine_step.proofs.Again.{ready_without, solid_with as solid_given, waits_with, wakes_with}
use Rattle.machine_step.proofs.Awake.{awake, goes_on}
use Rattle.machine_step.proofs.ByForm.{does}
use Rattle.machine_call_rows.specs.declared.calls.CallAt.{CallAt}
use Rattle.machine_call_rows.specs.Primitives.{CallsPrimitive, TailCallsPrimitive}
use Rattle.machine_library_calls.specs.declared.primitives.Taker.{Taker}
use Rattle.machine_library_calls.specs.declared.primitives.Taker.TheVariants.{Caller, Below}
use Rattle.machine_library_calls.specs.Calls.{Begun, CallComes, Comes, HasLuaOnTop, IsAnswered, IsAtCall, IsCalled, IsGiven, Takes, WaitsIf, WaitsSoAt, begins, wait_by}
use Rattle.machine_library_calls.specs.Tails.{IsAtTailCall}
use Rattle.machine_library_calls.proofs.Waiting.{is_wait, ready_place, same_by, same_wait, sees, told_top, top_in, waiting_place, waits_for_some}

-- values as a list on its way

pub six_is_small : 6 < 2 ^ 63
six_is_small = omega arith

abbrev pub listed : Memory → (values : List Kept) → length values ≤ 6 → Vec Kept
listed W values few = record { ptr = W.moving.ptr; len = length values; cap = 6; alloc = W.moving.alloc; items = values; ok = (refl, few); small = six_is_small }

pub one_is_few : (v : Kept) → length (v ∷ []) ≤ 6
one_is_few v = omega arith

pub two_are_few : (v w : Kept) → length (v ∷ w ∷ []) ≤ 6
two_are_few v w = omega arith

-- one step, and two

pub one_step : (rows : ℕ → Row) {from to : Ending} {old new : Memory} {fuel left : ℕ} → Does rows from old fuel new left to → steps rows (suc zero) from (plain old fuel) ≡ ends to (plain new left)
one_step rows d = ap (λ o. and_then o (steps rows zero)) d.is

pub two_steps : (rows : ℕ → Row) {from at to : Ending} {old mid new : Memory} {fuel left less : ℕ} → Does rows from old fuel mid left at → Does rows at mid left new less to
    → steps rows (suc (suc zero)) from (plain old fuel) ≡ ends to (plain new less)
two_steps rows d e = ap (λ o. and_then o (steps rows (suc zero))) d.is ∙ one_step rows e

-- a world in which values begin to move

pub moving_plain : (X V : Memory) → V ≡ record X { moving = V.moving } → (fuel : ℕ) → moved (plain X fuel) (map (value X.strings) V.moving.items) ≡ plain V fuel
moving_plain X V e fuel = ap (λ (W : Memory). plain W fuel) (sym e)

pub moving_order : (X V : Memory) → V ≡ record X { moving = V.moving } → InOrder X → InOrder V
moving_order X V e o = subst InOrder (sym e) (record { codes = o.codes; listed = o.listed })

pub order_of_strings : (R X : Memory) (few : List Kept) → OnlyStrings R X few → InOrder R → InOrder X
order_of_strings R X few o i = record { codes = o.codes i.codes; listed = subst CellsAreListed (sym o.rest) i.listed }

-- what is on top is the same whatever tables hold and whatever moves

abbrev changed : World → Heap → List Value → World
changed V H vs = record V { heap = H; moving = vs }

top_kept : (V : World) (H : Heap) (vs : List Value) (o : Option Frame) → top_shape (changed V H vs) o ≡ top_shape V o
top_kept V H vs (Some (closing e left)) = refl
top_kept V H vs _ = refl

tops_kept : (V : World) (H : Heap) (vs : List Value) (o : Option Stack) → top_in (changed V H vs) o ≡ top_in V o
tops_kept V H vs None = refl
tops_kept V H vs (Some s) = ap (λ t. Some t) (top_kept V H vs (last s.frames))

told_is : (V : World) (o : Option TopShape) (t : TopShape) → told_top V o ≡ made V [] t → o ≡ Some t
told_is V None t e = absurd (cc)
told_is V (Some u) t e = ap (λ u. Some u) (ap (λ (d : Made TopShape). d.told) (some_is {o = made V [] u} refl e))

sees_lua : (R N : Memory) (H : Heap) (vs : List Value) → ((fuel : ℕ) → plain N fuel ≡ changed (plain R fuel) H vs) → Makes R R see_top [] [] lua_top → (env : List Value) → Makes N N see_top env [] lua_top
sees_lua R N H vs m s env = record {
  is = λ fuel.
      let V = plain R fuel in
      let now : top_now V ≡ Some lua_top = told_is V (top_now V) lua_top (s.is fuel) in
      ap (λ U. told_top U (top_now U)) (m fuel)
      ∙ ap (told_top (changed V H vs)) (tops_kept V H vs (stack_of V) ∙ now)
      ∙ ap (λ U. made U [] lua_top) (sym (m fuel));
}

module _ {b : Begun} {R : Memory} {number : ℕ} {few : List Kept} (k : IsCalled b R number few) where
  abbrev W : Memory
  W = b.before

  abbrev left : ℕ
  left = b.fuel - 1

  -- with the arguments on their way
  abbrev M : Memory
  M = record R { moving = listed R few k.few }

  order_M : InOrder M
  order_M = record { codes = k.order.codes; listed = k.order.listed }

  called_step : (rows : ℕ → Row) → Does rows go W b.fuel M left (calls_primitive number)
  called_step = k.steps M refl refl

  at_once : (V : Memory) (rows : ℕ → Row) → Does rows go W b.fuel V left (calls_primitive number) → Comes rows W b.fuel V left (calls_primitive number)
  at_once V rows d = record { count = 0; mid = W; rest = b.fuel; at = go; goes_on = refl; is = refl; ready = k.ready; does = d }

  -- the primitive is left for the next step
  pub later_comes : (V : Memory) → V ≡ record R { moving = V.moving } → V.moving.items ≡ few → (rows : ℕ → Row) → Comes rows W b.fuel V left (calls_primitive number)
  later_comes V e items rows = at_once V rows (k.steps V e items rows)

  pub later_order : (V : Memory) → V ≡ record R { moving = V.moving } → InOrder V
  later_order V e = moving_order R V e k.order

  called_ready : (rows : ℕ → Row) → PrimitivesSafe (length all_entries) rows → IsReady (length all_entries) (calls_primitive number) M
  called_ready rows safe = steps_stay_ready (length all_entries) rows safe go (calls_primitive number) W M b.fuel left k.ready (called_step rows) order_M

  module _ (law : LoadingIsSafe) where
    ready_M : IsReady (length all_entries) (calls_primitive number) M
    ready_M = called_ready (library nothing) (law nothing nothing_built)

    -- it is looked up in a second step
    second_comes : (builds : Builds Body) {V : Memory} {to : Ending} → Does (library builds) (calls_primitive number) M left V left to → Comes (library builds) W b.fuel V left to
    second_comes builds d = record {
      count = suc zero;
      mid = M;
      rest = left;
      at = calls_primitive number;
      goes_on = refl;
      is = one_step (library builds) (called_step (library builds));
      ready = ready_M;
      does = d;
    }

    sound_M : IsSound M
    sound_M = ready_is_sound (length all_entries) (calls_primitive number) M ready_M

    nothing_moves : (fuel : ℕ) → moved (plain M fuel) [] ≡ plain R fuel
    nothing_moves fuel = ap (λ vs. moved (plain R fuel) (map (value R.strings) vs)) (sym k.still)

    taken : Taken M R few
    taken = record {
      rest = refl;
      items = refl;
      plain = λ fuel. sym (nothing_moves fuel);
      makes = λ env. record { is = λ fuel. ap (λ V. made V (map (value R.strings) few) tt) (nothing_moves fuel) };
    }

    -- the function may be called with the arguments
    pub stands_there : Stands R few
    stands_there = stands M R few sound_M taken

    -- where it refuses them, the call is left for the next step too
    module _ (X V : Memory) (o : OnlyStrings R X few) (e : V ≡ record X { moving = V.moving }) (items : V.moving.items ≡ few) where
      reads_same : ReadsSame M V
      reads_same = subst (ReadsSame M) (sym e) (moves_again M R X few V.moving items taken o)

      pub refused_comes : (rows : ℕ → Row) → Comes rows W b.fuel V left (calls_primitive number)
      refused_comes rows = at_once V rows (record { is = (called_step rows).is ∙ ap (ends (calls_primitive number)) (sym (reads_same.is left)) })

    -- where it answers
    module _ (X : Memory) (row : Look) (is_row : (builds : Builds Body) → library builds number ≡ look_row row) (lua : HasLuaOnTop R) (answer : Answer) (changes : Changes R X few)
        (answers : looked row (map (value R.strings) few) (heap_of R) ≡ told X answer) where
      pub answered_order : InOrder X
      answered_order = record { codes = changes.codes k.order.codes; listed = subst CellsAreListed (sym changes.rest) k.order.listed }

      -- with an error
      module _ (V : Memory) (v : Kept) (is : answer ≡ Raises v) (e : V ≡ record X { moving = V.moving }) (items : V.moving.items ≡ v ∷ []) where
        gives_error : (env : List Value) (xs : List Arg) → args_of env xs ≡ map (value X.strings) (v ∷ []) → Makes X V (give xs) env [] tt
        gives_error env xs same = record {
          is = λ fuel.
              ap (λ vs. made (moved (plain X fuel) vs) [] tt) (same ∙ ap (map (value X.strings)) (sym items))
              ∙ ap (λ V. made V [] tt) (moving_plain X V e fuel);
        }

        error_leads : Leads (look_row row) [] M V raised
        error_leads = tells_row row few M R X V (Raises v) raised taken changes (answers ∙ ap (told X) is) (record { leads = raises_on X V v gives_error })

        pub raised_comes : (builds : Builds Body) → Comes (library builds) W b.fuel V left raised
        raised_comes builds = second_comes builds
            (primitive_is_step (library builds) number M V left left raised (steps_of left (λ s. s) (subst (λ r. Leads r [] M V raised) (sym (is_row builds)) error_leads)))

      -- with results
      module _ (results : Vec Kept) (given : shape_told answer ≡ is_given) (values : values_told X answer ≡ map (value X.strings) results.items) where
        abbrev N : Memory
        N = record X { moving = results }

        gives_results : (env : List Value) (slot : ℕ) → args_of env [] ++ drop slot env ≡ map (value X.strings) results.items → Makes X N (give_with [] slot) env [] tt
        gives_results env slot same = record { is = λ fuel. ap (λ vs. made (moved (plain X fuel) vs) [] tt) same }

        results_move : (fuel : ℕ) → plain N fuel ≡ changed (plain R fuel) (heap_of X) (map (value X.strings) results.items)
        results_move fuel = ap (λ V. moved V (map (value X.strings) results.items)) (changes.plain fuel)

        hands_on : (env : List Value) → Leads hand_over env N N go
        hands_on env = first (λ _ top. handed top) (sees_lua R N (heap_of X) (map (value X.strings) results.items) results_move lua.sees env) ended

        result_tells : Tells X N answer go
        result_tells = record {
          leads = λ env.
              subst (λ s. Leads (after_look (length env) s) (env ++ values_told X answer) X N go) (sym given)
              (subst (λ vs. Leads (after_look (length env) is_given) (env ++ vs) X N go) (sym values)
              (gives_on X N results.items go gives_results hands_on env));
        }

        result_leads : Leads (look_row row) [] M N go
        result_leads = tells_row row few M R X N answer go taken changes answers result_tells

        looked_step : (rows : ℕ → Row) → rows number ≡ look_row row → Does rows (calls_primitive number) M left N left go
        looked_step rows same = primitive_is_step rows number M N left left go (steps_of left (λ s. s) (subst (λ r. Leads r [] M N go) (sym same) result_leads))

        order_N : InOrder N
        order_N = record { codes = answered_order.codes; listed = answered_order.listed }

        ready_N : IsReady (length all_entries) go N
        ready_N =
            let rows = library nothing in
            steps_stay_ready (length all_entries) rows (law nothing nothing_built) (calls_primitive number) go M N left left ready_M (looked_step rows (is_row nothing)) order_N

        nothing_N : (fuel : ℕ) → moved (plain N fuel) [] ≡ plain X fuel
        nothing_N fuel = ap (λ vs. moved (plain X fuel) (map (value X.strings) vs)) (sym (ap (λ (W : Memory). W.moving.items) changes.rest ∙ k.still))

        -- where the frame on top does not wait, the results are on their way
        pub results_move_on : (last : Memory) → last ≡ N → (builds : Builds Body) → Comes (library builds) W b.fuel last left go
        results_move_on last e builds = second_comes builds
            (subst (λ (V : Memory). Does (library builds) (calls_primitive number) M left V left go) (sym e) (looked_step (library builds) (is_row builds)))

        -- the Lua frame on top could go on without them too
        pub ready_X : IsReady (length all_entries) go X
        ready_X = ready_without X results nothing_N ready_N answered_order

        -- it is woken with them
        module _ (again : Memory) (here : Here) (wait : KeptWait) (w : WaitsSoAt X here wait) (set : WaitsSo X again Running) (kept : again ≡ record X { coros = again.coros })
            (listed_on : CellsAreListed again) where
          sound_N : IsSound N
          sound_N = ready_is_sound (length all_entries) go N ready_N

          waits_at : WaitsHere N here.pc here.word
          waits_at = waits_with X results (record here { runs = false }) sound_N (record { word = w.word; wait = w.waits }) refl

          wakes : Wakes N again wait results.items
          wakes = let p = w.word in wakes_with X results nothing_N again wait p.place p.is (w.waited.is p.place p.is) set kept

          pub solid_again : IsSolid again
          solid_again = solid_given X results nothing_N ready_N answered_order wakes kept listed_on

          pub awake_again : IsAwake again here.pc here.word wait results.items
          awake_again = awake waits_at wakes sound_N solid_again.order

          pub results_come : (last : Memory) (to : KeptEnding) → GoesOnSo again last here.word wait results.items (ending_of to) → (builds : Builds Body) → Comes (library builds) W b.fuel last left (ending_of to)
          results_come last to g builds = let rows = library builds in record {
            count = suc (suc zero);
            mid = N;
            rest = left;
            at = go;
            goes_on = refl;
            is = two_steps rows (called_step rows) (looked_step rows (is_row builds));
            ready = ready_N;
            does = (goes_on waits_at wakes g).is rows left;
          }

-- of an answer

module _ {b : Begun} {X : Memory} {answer : Answer} (h : IsAnswered b X answer) (law : LoadingIsSafe) where
  order_there : InOrder X
  order_there = answered_order h.is_called law X h.row h.is_row h.lua answer h.changes h.answers

  pub order_raised : (V : Memory) → V ≡ record X { moving = V.moving } → InOrder V
  order_raised V e = moving_order X V e order_there

  pub comes_raised : (V : Memory) (v : Kept) → answer ≡ Raises v → V ≡ record X { moving = V.moving } → V.moving.items ≡ v ∷ [] → (builds : Builds Body) → Comes (library builds) b.before b.fuel V (b.fuel - 1) raised
  comes_raised V v is e items = raised_comes h.is_called law X h.row h.is_row h.lua answer h.changes h.answers V v is e items

-- its results
pub given_so : {b : Begun} {X : Memory} {answer known : Answer} {values : List Kept} → IsAnswered b X answer → (results : Vec Kept) → results.items ≡ values → answer ≡ known → shape_told known ≡ is_given
    → values_told X known ≡ map (value X.strings) results.items → IsGiven b X values
given_so {X = X} {answer = answer} h results items is given are = record {
  answer = answer;
  is_answered = h;
  results = results;
  items = items;
  given = ap shape_told is ∙ given;
  are = ap (values_told X) is ∙ are;
}

module _ {b : Begun} {X : Memory} {values : List Kept} (g : IsGiven b X values) (law : LoadingIsSafe) where
  abbrev h : IsAnswered b X g.answer
  h = g.is_answered

  order_with : InOrder X
  order_with = answered_order h.is_called law X h.row h.is_row h.lua g.answer h.changes h.answers

  pub ready_with : IsReady (length all_entries) go X
  ready_with = ready_X h.is_called law X h.row h.is_row h.lua g.answer h.changes h.answers g.results g.given g.are

  module _ (again : Memory) (here : Here) (wait : KeptWait) (w : WaitsSoAt X here wait) (set : WaitsSo X again Running) (kept : again ≡ record X { coros = again.coros })
      (listed_on : CellsAreListed X → CellsAreListed again) where
    listed_again : CellsAreListed again
    listed_again = listed_on order_with.listed

    pub solid_with : IsSolid again
    solid_with = solid_again h.is_called law X h.row h.is_row h.lua g.answer h.changes h.answers g.results g.given g.are again here wait w set kept listed_again

    pub awake_with : IsAwake again here.pc here.word wait values
    awake_with = subst (IsAwake again here.pc here.word wait) g.items
        (awake_again h.is_called law X h.row h.is_row h.lua g.answer h.changes h.answers g.results g.given g.are again here wait w set kept listed_again)

    pub comes_with : (last : Memory) (to : KeptEnding) → GoesOnSo again last here.word wait values (ending_of to) → (builds : Builds Body) → Comes (library builds) b.before b.fuel last (b.fuel - 1) (ending_of to)
    comes_with last to s = results_come h.is_called law X h.row h.is_row h.lua g.answer h.changes h.answers g.results g.given g.are again here wait w set kept listed_again last to
        (subst (λ came. GoesOnSo again last here.word wait came (ending_of to)) (sym g.items) s)

  pub comes_moving : (last : Memory) → last ≡ record X { moving = last.moving } → last.moving.items ≡ values → (builds : Builds Body) → Comes (library builds) b.before b.fuel last (b.fuel - 1) go
  comes_moving last e items = results_move_on h.is_called law X h.row h.is_row h.lua g.answer h.changes h.answers last.moving g.given
      (g.are ∙ ap (map (value X.strings)) (g.items ∙ sym items)) last e

  pub order_moving : (last : Memory) → last ≡ record X { moving = last.moving } → InOrder last
  order_moving last e = moving_order X last e order_with

-- what is known as the primitive is called

module _ (W : Memory) (fuel : ℕ) (now : Memory) (here : Here) (at : CallAt) (number : ℕ) (arguments : List Kept) (a : IsAtCall W here at) (calls : CallsPrimitive W now fuel at number arguments) where
  pub called_so : (b : Begun) → b ≡ begins W fuel → now ≡ record W { cells = now.cells; coros = now.coros } → InOrder now → IsCalled b now number arguments
  called_so b is rest order =
      let called : IsCalled (begins W fuel) now number arguments = record {
        ready = a.ready;
        few = calls.few;
        still = ap (λ (W : Memory). W.moving.items) rest ∙ a.still;
        order = order;
        steps = λ sent e items rows. (does a.runs (calls.steps sent e items a.runs.runs.place.function.code here.pc)).is rows;
      } in
      subst (λ b. IsCalled b now number arguments) (sym is) called

  abbrev Q : Place
  Q = waiting_place W calls.wait at.keeps a.is_here.word.place

  place_now : place_of (plain now 0) ≡ Some Q
  place_now = let w = a.is_here.word in ready_place W now w.place calls.wait at.keeps w.is calls.ready

  -- the frame that calls takes what comes
  pub caller_takes : Takes now (Caller here at.iterates)
  caller_takes = let w = a.is_here.word in record {
    lua = record { sees = sees now Q (λ fuel. place_now) [] };
    waits = record {
      word = record { place = Q; is = place_now; at_pc = w.at_pc; there = w.there; near = w.near };
      waits = record { is = λ place e. sym (ap (λ (p : Place). is_none p.top.wait) (some_is e place_now) ∙ waits_for_some (value W.strings) at.iterates calls.wait calls.waits) };
      waited = record {
        is = λ place e.
            same_wait (value now.strings) (value W.strings) at.iterates (wait_by at.iterates) calls.wait (is_wait at.iterates) calls.waits
            ∙ ap (λ (p : Place). p.top.wait) (some_is place_now e);
      };
    };
  }

pub tail_called_so : (b : Begun) (W : Memory) (fuel : ℕ) → b ≡ begins W fuel → (now : Memory) (function count number : ℕ) (arguments : List Kept)
    → IsAtTailCall W function count → TailCallsPrimitive W now fuel function count number arguments → now ≡ record W { cells = now.cells; coros = now.coros } → InOrder now → IsCalled b now number arguments
tail_called_so b W fuel is now function count number arguments a calls rest order =
    let r = a.tail.runs in
    let called : IsCalled (begins W fuel) now number arguments = record {
      ready = a.ready;
      few = calls.few;
      still = ap (λ (W : Memory). W.moving.items) rest ∙ a.still;
      order = order;
      steps = λ sent e items rows. (does r (calls.steps sent e items r.runs.place.function.code a.tail.pc)).is rows;
    } in
    subst (λ b. IsCalled b now number arguments) (sym is) called

-- it waits still once the function has answered
pub still_waits : {R X : Memory} {few : List Kept} (to : Taker) → WaitsIf R to → Changes R X few → WaitsIf X to
still_waits {R} {X} Below w c = tt
still_waits {R} {X} (Caller here iterates) w c =
    let same = ap place_of (c.plain 0) in
    record {
      word = record { place = w.word.place; is = same ∙ w.word.is; at_pc = w.word.at_pc; there = w.word.there; near = w.word.near };
      waits = record { is = λ place e. w.waits.is place (sym same ∙ e) };
      waited = record { is = λ place e. same_by (value X.strings) (value R.strings) iterates ∙ w.waited.is place (sym same ∙ e) };
    }

-- an ending that is known, and what it comes to
pub ends_so : (b : Begun) (V : Memory) (vs : List Kept) (to : Ending) {E : Type 0} (r : Result KeptEnding E) → IfOk r (λ ending. (ending_of ending ≡ to) × (V.moving.items ≡ vs))
    → (V.moving.items ≡ vs → (builds : Builds Body) → Comes (library builds) b.before b.fuel V (b.fuel - 1) to) → IfOk r (λ ending. CallComes b V (ending_of ending))
ends_so b V vs to (Ok ending) h f = λ builds are. subst (λ e. Comes (library builds) b.before b.fuel V (b.fuel - 1) e) (sym h.0) (f h.1 builds)
ends_so b V vs to (Err e) h f = tt

-- what a call comes to, in the words of the world in which it began
pub comes_since : {b : Begun} {W V : Memory} {fuel left : ℕ} {to : Ending} → b ≡ begins W fuel → left ≡ fuel - 1 → CallComes b V to → (builds : Builds Body) → BuildsSources builds → Comes (library builds) W fuel V left to
comes_since {b} {W} {V} {fuel} {left} {to} is paid c = λ builds are.
    subst (λ n. Comes (library builds) W fuel V n to) (sym paid) (subst (λ b. Comes (library builds) b.before b.fuel V (b.fuel - 1) to) is (c builds are))
