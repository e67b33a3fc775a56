-- The frame on top of a world in memory, held apart: what its loop supposes there, and what becomes of the world.
use Rattle.std.proofs.Common.{◌≡◌, ℕ, ◌<◌, List, [], ◌∷◌, ◌++◌, length, map, Some, refl, ap, sym, subst, ◌∙◌, arith}
use Rattle.std.specs.Prelude.{slice_get}
use Rattle.code_core.specs.Prototype.{Prototype}
use Rattle.code_core.specs.Check.{IsChecked}
use Rattle.int_core.specs.Value.{Value, without_last}
use Rattle.machine_core.specs.World.{Function, lua, Place, place_of, put_frames, put_top}
use Rattle.machine_core.specs.Moves.{go, Row}
use Rattle.machine_sound.specs.Laws.{SoundAfter, PrimitivesSafe, StepGood}
use Rattle.machine_sound.proofs.Lists.{get_map, get_there, get_within, last_splits, some_is}
use Rattle.machine_sound.proofs.Steps.{runs_good}
use Rattle.machine_focus.specs.Focus.{stacked, Reaches}
use Rattle.object_pool.specs.Pool.{Pool}
use Rattle.table_core.specs.Table.{Contents}
use Rattle.table_core.specs.declared.value.CellId.{CellId}
use Rattle.table_core.specs.declared.value.CoroId.{CoroId}
use Rattle.lua_stack.specs.Frames.{KeptStack, OnTop, frames}
use Rattle.lua_heap.specs.declared.codes.Code.{Code}
use Rattle.lua_heap.specs.declared.world.World.{World as Memory}
use Rattle.lua_heap.specs.declared.world.Cell.{Cell}
use Rattle.lua_heap.specs.declared.world.Coro.TheVariants.{Running as CoroRuns}
use Rattle.lua_heap.specs.declared.world.Func.{Func}
use Rattle.lua_heap.specs.Cells.{AreListed, CellsAreListed, open_cells_in}
use Rattle.lua_heap.specs.Codes.{functions, code_or_none, prototype_at, IsCode as IsCodeKept}
use Rattle.lua_heap.specs.Law.{CheckedCodeIsThere}
use Rattle.lua_heap.specs.Plain.{function, plain}
use Rattle.lua_heap.specs.Reading.{value}
use Rattle.lua_heap.specs.Strings.{AreApart, AreShort}
use Rattle.machine_arms_tables.specs.Frame.{Code as LoopCode, AreOpenAlike}
use Rattle.machine_loop.specs.Running.{Running}
use Rattle.machine_loop.proofs.Alike.{still_open}
use Rattle.move_laws.specs.Memory.{Runs, ChangesStack, InOrder}
use Rattle.move_laws.proofs.Places.{place_is}
use Rattle.move_laws.proofs.Running.{shown, changed_stack_is_put, of_top, place_put, with_top as at_with}
use Rattle.machine_moves.proofs.OfCode.{function_kept, function_there, code_is}
use Rattle.step_laws.specs.Steps.{IsReady}
use Rattle.step_laws.proofs.Ready.{go_has_frame, ready_by_fuel}
use Rattle.running_frame.specs.declared.place.Here.{Here}
use Rattle.frame_calls.specs.Calling.{AreFunctions, program_in}
use Rattle.running_frame.specs.Here.{is_none, IsHere}
use Rattle.frame_calls.specs.Standing.{standing, MayRun}
use Rattle.running_frame.specs.Apart.{IsHereIn, apart, IsApart, held_apart, place_or_any}
use Rattle.running_frame.proofs.Words.{few_words}
use Rattle.running_frame.proofs.Places.{has_word}
use Rattle.frame_calls.proofs.Held.{reaches_by, stands_at, stacked_same, world_same}

-- and of a world

pub of_held : {W : Memory} (P : Running → Type 0) (g : Running) (h : IsApart g W) → P (apart g.around.primitives g.around.rows W h.place) → P g
of_held P g h x = subst P (sym h.held) x

word_within : (primitives : ℕ) (W : Memory) (at : Place) → place_of (plain W 0) ≡ Some at → (code : Code) (number : ℕ) → SoundAfter primitives go (plain W 0) → InOrder W → IsCodeKept W.strings number at.function.code code
    → at.top.own.pc < length code.words.items
word_within primitives W at e code number after order says =
    let h = has_word (record { primitives = primitives; sound = after.sound; order = order }) (record { place = at; is = e; at = refl }) in
    get_within code.words.items at.top.own.pc h.word (
    ap (λ words. slice_get words at.top.own.pc) says.words
    ∙ ap (λ (p : Place). slice_get p.function.code.own.code at.top.own.pc) (some_is e h.is)
    ∙ h.there)

abbrev pub Tables : Type 0
Tables = Pool Contents

abbrev pub Cells : Type 0
Cells = Pool Cell

-- the world with other tables and cells
abbrev pub with_parts : Memory → Pool Contents → Pool Cell → Memory
with_parts W tables cells = record W { tables = tables; cells = cells }

module _ (primitives : ℕ) (rows : ℕ → Row) (W : Memory) (at : Place) (e : place_of (plain W 0) ≡ Some at) (still : W.moving.items ≡ []) where
  moves_nothing : (plain W 0).moving ≡ []
  moves_nothing = ap (map (value W.strings)) still

  module _ (co : CoroId) (s : KeptStack) (r : Runs W co s) where
    pub may_run : (code : Code) (number : ℕ) (upvalues : List CellId) (fuel : ℕ) → PrimitivesSafe primitives rows → SoundAfter primitives go (plain W 0) → InOrder W → IsCodeKept W.strings number at.function.code code
        → at.function.cells ≡ map (λ c. c.0) upvalues → AreApart W.strings → AreShort W.strings
        → MayRun (apart primitives rows W at) (record { words = code.words.items; constants = code.constants.items; upvalues = upvalues; texts = W.strings }) s W.tables.objects W.cells.objects fuel
    may_run code number upvalues fuel safe after order says cells_are a b = record {
      top = at.top;
      is = (shown W co s at r e).frames_are;
      function = refl;
      varargs = refl;
      pending = refl;
      opened = refl;
      within = word_within primitives W at e code number after order says;
      closure = record {
        code = record { code = record { words_are = sym says.words; constants_are = sym says.constants }; apart = a; short = b };
        upvalues_are = cells_are;
        texts_are = refl;
      };
      listed = λ id k frame register own there.
          order.listed.listed id k frame register s.open_cells (
          ap (slice_get (map open_cells_in W.coros.objects)) (own ∙ (shown W co s at r e).coroutine)
          ∙ get_map open_cells_in W.coros.objects co.0 (CoroRuns s) r.there)
          there;
      ready = λ w. record {
        stands = stands_at (plain W 0) at e;
        safe = safe;
        sound = subst (SoundAfter primitives go) (sym (world_same (plain W 0) at e fuel moves_nothing w)) (ready_by_fuel primitives go W 0 fuel after);
      };
    }

    -- where the frame on top is with another stack in its place
    pub here_in : (tables : Tables) (cells : Cells) (V : Memory) (u : KeptStack) (code : Code) (number : ℕ) (k : LoopCode) (here : Here) → ChangesStack (with_parts W tables cells) V co u → IsCodeKept W.strings number at.function.code code
        → k.words ≡ code.words.items → IsHereIn (apart primitives rows W at) k u here → IsHere V here
    unfolding put_top
    here_in tables cells V u code number c here b says words_are k = record {
      word = record {
        place = place;
        is = is;
        at_pc = k.at_pc;
        there = ap (λ words. slice_get words here.pc) (sym says.words ∙ sym words_are) ∙ k.word;
        near = let l = get_within code.words.items here.pc here.word (ap (λ words. slice_get words here.pc) (sym words_are) ∙ k.word) in let f = few_words code in omega (arith, l, f);
      };
      wait = record { is = λ p q. k.runs ∙ ap (λ (p : Place). is_none p.top.wait) (some_is is q) };
    }
      where
        place : Place
        place = at_with at k.top

        is : place_of (plain V 0) ≡ Some place
        is =
            ap place_of (
            changed_stack_is_put (with_parts W tables cells) V co u 0 b
            ∙ ap (put_frames (plain (with_parts W tables cells) 0) co.0) k.is
            ∙ ap (λ n. put_frames (plain (with_parts W tables cells) 0) n (without_last at.stack.frames ++ lua k.top ∷ [])) (sym (shown W co s at r e).coroutine))
            ∙ place_put (plain (with_parts W tables cells) 0) at k.top e k.function

    -- another stack in its place, and other tables and cells
    pub went : (tables : Tables) (cells : Cells) (V : Memory) (u : KeptStack) (fuel left : ℕ) → ChangesStack (with_parts W tables cells) V co u
        → Reaches rows (standing (apart primitives rows W at) s W.tables.objects W.cells.objects fuel) (standing (apart primitives rows W at) u tables.objects cells.objects left)
        → Reaches rows (plain W fuel) (plain V left)
    unfolding put_frames
    went tables cells V u fuel left c x = reaches_by rows before after x
      where
        same : frames (value W.strings) s ≡ at.stack.frames
        same = (shown W co s at r e).frames_are ∙ sym (last_splits at.stack.frames (lua at.top) (place_is (plain W 0) at e).top)

        before : plain W fuel ≡ standing (apart primitives rows W at) s W.tables.objects W.cells.objects fuel
        before = sym (stacked_same (plain W 0) at e (frames (value W.strings) s) fuel moves_nothing same)

        after : standing (apart primitives rows W at) u tables.objects cells.objects left ≡ plain V left
        after =
            ap (λ n. stacked (plain W 0) n (frames (value W.strings) u) (plain (with_parts W tables cells) 0).heap (plain (with_parts W tables cells) 0).cells left []) (shown W co s at r e).coroutine
            ∙ ap (λ (vs : List Value). stacked (plain W 0) co.0 (frames (value W.strings) u) (plain (with_parts W tables cells) 0).heap (plain (with_parts W tables cells) 0).cells left vs) (sym moves_nothing)
            ∙ sym (changed_stack_is_put (with_parts W tables cells) V co u left c)

-- stacks list what is open where the same cells are open

pub listed_alike : (old new : Memory) → AreOpenAlike old.cells.objects new.cells.objects → map open_cells_in new.coros.objects ≡ map open_cells_in old.coros.objects → CellsAreListed old → CellsAreListed new
listed_alike old new a l h = subst (AreListed new.cells.objects) (sym l) (record {
  listed = λ id co frame register own e f. h.listed id co frame register own e (still_open new.cells.objects old.cells.objects (sym a) id.0 co frame register f);
  opened = λ id co frame register own e f. still_open old.cells.objects new.cells.objects a id.0 co frame register (h.opened id co frame register own e f);
  held = λ id co frame register f. h.held id co frame register (still_open new.cells.objects old.cells.objects (sym a) id.0 co frame register f);
  once = h.once;
})

-- the code of the frame's function

prototype_there : (ps : List Prototype) (n : ℕ) → n < length ps → slice_get ps n ≡ Some (prototype_at ps n)
prototype_there ps n l = let t = get_there ps n l in t.1 ∙ ap (λ p. Some p) (sym (ap code_or_none t.1))

module _ (g : Running) (W : Memory) (h : IsApart g W) (n : ℕ) (f : Func) (same : n ≡ h.place.top.function) (there : slice_get W.funcs.objects n ≡ Some f) where
  prototype_is : prototype_at (functions W.codes) f.code.0 ≡ h.place.function.code
  prototype_is = code_is W h.place n f (function_kept W h.place n h.is same) there

  checked : IsChecked (prototype_at (functions W.codes) f.code.0)
  checked = subst IsChecked (sym prototype_is) (h.after.sound.solid.functions h.place.top.function h.place.function (place_is (plain W 0) h.place h.is).function).code

  pub number_there : CheckedCodeIsThere → f.code.0 < length W.codes.list.items
  number_there law = let l = law (functions W.codes) f.code.0 checked in let k = h.order.codes.count in omega (arith, l, k)

  pub code_says : CheckedCodeIsThere → (code : Code) → slice_get W.codes.list.items f.code.0 ≡ Some code → IsCodeKept W.strings f.code.0 h.place.function.code code
  code_says law code e =
      let ps = functions W.codes in
      subst (λ p. IsCodeKept W.strings f.code.0 p code) prototype_is (h.order.codes.each f.code.0 (prototype_at ps f.code.0) code (prototype_there ps f.code.0 (law ps f.code.0 checked)) e)

  -- and its upvalues
  pub cells_are : h.place.function.cells ≡ map (λ c. c.0) f.cells.items
  cells_are =
      let k = function_kept W h.place n h.is same in
      sym (ap (λ (g : Function). g.cells) k.is) ∙ ap (λ (f : Func). map (λ c. c.0) f.cells.items) (some_is k.there there)

-- the world is ready where the steps end
pub ready_there : (primitives : ℕ) (rows : ℕ → Row) (old new : Memory) (fuel left : ℕ) → PrimitivesSafe primitives rows → IsReady primitives go old → InOrder new → Reaches rows (plain old fuel) (plain new left)
    → IsReady primitives go new
ready_there primitives rows old new fuel left safe k o x = record {
  after = ready_by_fuel primitives go new left 0 (subst (StepGood primitives) x.1 (runs_good primitives rows safe x.0 go (plain old fuel) (ready_by_fuel primitives go old 0 fuel k.after)));
  order = o;
}

-- the frame on top of a world in which nothing moves is held apart
pub apart_there : (primitives : ℕ) (rows : ℕ → Row) (W : Memory) → PrimitivesSafe primitives rows → IsReady primitives go W → W.moving.items ≡ [] → IsApart (held_apart primitives rows W) W
apart_there primitives rows W safe ready still =
    let f = go_has_frame primitives W ready in
    record {
      place = f.place;
      is = f.is;
      held = ap (λ o. apart primitives rows W (place_or_any o)) f.is;
      still = still;
      safe = safe;
      after = ready.after;
      order = ready.order;
    }

-- the functions of a world in memory

module _ (primitives : ℕ) (W : Memory) (after : SoundAfter primitives go (plain W 0)) (order : InOrder W) (law : CheckedCodeIsThere) where
  abbrev machine_function : Func → Function
  machine_function f = function (functions W.codes) f

  function_at : (n : ℕ) (f : Func) → slice_get W.funcs.objects n ≡ Some f → slice_get (plain W 0).functions n ≡ Some (machine_function f)
  function_at n f e = get_map machine_function W.funcs.objects n f e

  code_within : (n : ℕ) (f : Func) → slice_get W.funcs.objects n ≡ Some f → f.code.0 < length (functions W.codes)
  code_within n f e = law (functions W.codes) f.code.0 (after.sound.solid.functions n (machine_function f) (function_at n f e)).code

  pub are_functions : AreFunctions (plain W 0).functions (program_in W)
  are_functions = record {
    have = record { code_there = λ n f e. let l = code_within n f e in let k = order.codes.count in omega (arith, l, k) };
    known = λ n f code e c.
        let ps = functions W.codes in
        let says = order.codes.each f.code.0 (prototype_at ps f.code.0) code (prototype_there ps f.code.0 (code_within n f e)) c in
        record { function = machine_function f; is = function_at n f e; words = says.words; params = says.params; vararg = says.vararg; stack = says.stack };
  }

-- the frame that is held apart, over the stack on which it stands

module _ (g : Running) (W : Memory) (h : IsApart g W) (co : CoroId) (s : KeptStack) (r : Runs W co s) where
  pub own_is : co.0 ≡ g.around.context.coroutine
  own_is = sym (shown W co s h.place r h.is).coroutine ∙ ap (λ (g : Running). g.around.context.coroutine) (sym h.held)

  pub functions_so : CheckedCodeIsThere → AreFunctions g.around.context.base.functions (program_in W)
  functions_so law = subst (λ (g : Running). AreFunctions g.around.context.base.functions (program_in W)) (sym h.held) (are_functions g.around.primitives W h.after h.order law)

  -- its function and the code of that

  module _ (n : ℕ) (same : OnTop s (λ f t. n ≡ t.function)) where
    number : n ≡ h.place.top.function
    number = of_top W co s h.place (λ f t. n ≡ t.function) r h.is same

    pub top_func_within : n < length W.funcs.objects
    top_func_within = function_there W h.place n (function_kept W h.place n h.is number)

    module _ (f : Func) (there : slice_get W.funcs.objects n ≡ Some f) (law : CheckedCodeIsThere) where
      pub top_code_within : f.code.0 < length W.codes.list.items
      top_code_within = number_there g W h n f number there law

      module _ (code : Code) (at : slice_get W.codes.list.items f.code.0 ≡ Some code) where
        says : IsCodeKept W.strings f.code.0 h.place.function.code code
        says = code_says g W h n f number there law code at

        abbrev k : LoopCode
        k = record { words = code.words.items; constants = code.constants.items; upvalues = f.cells.items; texts = W.strings }

        pub size_so : code.stack ≡ g.around.context.closure.code.own.stack
        size_so = says.stack ∙ ap (λ (g : Running). g.around.context.closure.code.own.stack) (sym h.held)

        pub may_run_so : AreApart W.strings → AreShort W.strings → (fuel : ℕ) → MayRun g k s W.tables.objects W.cells.objects fuel
        may_run_so a b fuel =
            of_held (λ g. MayRun g k s W.tables.objects W.cells.objects fuel) g h
            (may_run g.around.primitives g.around.rows W h.place h.is h.still co s r code f.code.0 f.cells.items fuel h.safe h.after h.order says (cells_are g W h n f number there) a b)

        -- where it is with another stack in its place
        pub here_so : (tables : Tables) (cells : Cells) (V : Memory) (u : KeptStack) → ChangesStack (with_parts W tables cells) V co u → (here : Here) → IsHereIn g k u here → IsHere V here
        here_so tables cells V u c here x =
            here_in g.around.primitives g.around.rows W h.place h.is h.still co s r tables cells V u code f.code.0 k here c says refl (subst (λ g. IsHereIn g k u here) h.held x)

  -- another stack in its place
  pub went_so : (tables : Tables) (cells : Cells) (V : Memory) (u : KeptStack) (fuel left : ℕ) → ChangesStack (with_parts W tables cells) V co u
      → Reaches g.around.rows (standing g s W.tables.objects W.cells.objects fuel) (standing g u tables.objects cells.objects left) → Reaches g.around.rows (plain W fuel) (plain V left)
  went_so tables cells V u fuel left c x =
      went g.around.primitives g.around.rows W h.place h.is h.still co s r tables cells V u fuel left c
      (subst (λ k. Reaches g.around.rows (standing k s W.tables.objects W.cells.objects fuel) (standing k u tables.objects cells.objects left)) h.held x)
