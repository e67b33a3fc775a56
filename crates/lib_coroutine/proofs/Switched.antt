-- Another coroutine runs, in the words of the machine.
use Rattle.std.proofs.Common.{◌≡◌, ℕ, zero, suc, ◌<◌, List, [], ◌∷◌, ◌++◌, length, map, Option, Some, None, refl, ap, sym, subst, ◌∙◌}
use Rattle.std.specs.Prelude.{◌≢◌, slice_get, slice_set}
use Rattle.std.proofs.lemmas.List.{map-set, map_push}
use Rattle.int_core.specs.Value.{Value}
use Rattle.machine_core.specs.World.{Frame, Coroutine, fresh, in_progress, normal, suspended, World, Stack, stack_of}
use Rattle.machine_core.specs.Moves.{go_into, put_coroutine, wait_for_another}
use Rattle.machine_sound.proofs.Frames.{stack_is}
use Rattle.machine_sound.proofs.Lists.{get_map, get_set_other, get_set_same, get_within, last_push, map_get, map_set, some_is}
use Rattle.table_core.specs.declared.value.CoroId.{CoroId}
use Rattle.lua_stack.specs.Frames.{KeptStack, frames}
use Rattle.lua_heap.specs.declared.world.Cell.{Cell as KeptCell}
use Rattle.lua_heap.specs.declared.world.Coro.{Coro}
use Rattle.lua_heap.specs.declared.world.Coro.TheVariants.{Fresh, Suspended}
use Rattle.lua_heap.specs.declared.world.World.{World as Memory}
use Rattle.lua_heap.specs.Cells.{AreListed, CellsAreListed, open_cells_in}
use Rattle.lua_heap.specs.Reading.{value}
use Rattle.lua_heap.specs.Plain.{coroutine, plain}
use Rattle.lua_heap.proofs.Resumed.{woken_listed as listed_awake}
use Rattle.move_laws.specs.Memory.{HasStack}
use Rattle.move_laws.proofs.Places.{stack_is as stack_there}
use Rattle.machine_coroutines.proofs.Beginnings.{set_set}
use Rattle.lib_coroutine.specs.Resuming.{GoesInto, IsFresh}

-- lists

pub set_twice : {A : Type 0} (xs : List A) (i : ℕ) (a b : A) → slice_set (slice_set xs i a) i b ≡ slice_set xs i b
set_twice [] i a b = refl
set_twice (x ∷ xs) zero a b = refl
set_twice (x ∷ xs) (suc i) a b = ap (λ l. x ∷ l) (set_twice xs i a b)

-- the coroutine that runs is no other one

not_suspended : (fs gs : List Frame) (o : Option Coroutine) → o ≡ Some (in_progress fs) → o ≡ Some (suspended gs) → ⊥
not_suspended fs gs o e f = let k : Some (in_progress fs) ≡ Some (suspended gs) = sym e ∙ f in cc

-- one that has yielded goes on

after_wait : (V : World) (s : Stack) (co : ℕ) → s.coroutine ≢ co → slice_get (wait_for_another V s).coroutines co ≡ slice_get V.coroutines co
unfolding wait_for_another put_coroutine
after_wait V s co d = get_set_other V.coroutines s.coroutine co (normal s.frames) d

gone_into : (W : Memory) (new : Memory) (fuel co : ℕ) (id : CoroId) (d : Coro) (fs : List Frame) → id.0 ≡ co → new ≡ record W { coros = new.coros; chain = new.chain } → new.chain.items ≡ W.chain.items ++ id ∷ []
    → new.coros.objects ≡ slice_set W.coros.objects co d → coroutine W.strings d ≡ in_progress fs → plain new fuel ≡ go_into (plain W fuel) co fs
unfolding go_into put_coroutine
gone_into W new fuel co id d fs same rest chain objects is =
    let V : World = plain W fuel in
    let ids : List ℕ = map (λ (co : CoroId). co.0) new.chain.items in
    ap (λ (M : Memory). plain M fuel) rest
    ∙ ap (λ cs. record V { coroutines = map (coroutine W.strings) cs; chain = ids }) objects
    ∙ ap (λ ks. record V { coroutines = ks; chain = ids }) (map-set (coroutine W.strings) W.coros.objects co d ∙ ap (slice_set V.coroutines co) is)
    ∙ ap (λ chain. record V { coroutines = slice_set V.coroutines co (in_progress fs); chain = chain })
    (ap (map (λ (co : CoroId). co.0)) chain ∙ map_push (λ (co : CoroId). co.0) W.chain.items id ∙ ap (λ n. V.chain ++ n ∷ []) same)

module _ (old mid : Memory) (co : CoroId) (stack : KeptStack) (there : slice_get old.coros.objects co.0 ≡ Some (Suspended stack))
    (waits : (fuel : ℕ) (s : Stack) → stack_of (plain old fuel) ≡ Some s → plain mid fuel ≡ wait_for_another (plain old fuel) s) where
  abbrev fs : List Frame
  fs = frames (value old.strings) stack

  apart : (fuel : ℕ) (s : Stack) → stack_of (plain old fuel) ≡ Some s → s.coroutine ≢ co.0
  apart fuel s e same =
      let V = plain old fuel in
      not_suspended s.frames fs (slice_get V.coroutines co.0) (ap (slice_get V.coroutines) (sym same) ∙ (stack_there V s e).there) (get_map (coroutine old.strings) old.coros.objects co.0 (Suspended stack) there)

  still : (fuel : ℕ) (s : Stack) → stack_of (plain old fuel) ≡ Some s → slice_get (plain mid fuel).coroutines co.0 ≡ Some (suspended fs)
  still fuel s e =
      ap (λ (W : World). slice_get W.coroutines co.0) (waits fuel s e) ∙ after_wait (plain old fuel) s co.0 (apart fuel s e)
      ∙ get_map (coroutine old.strings) old.coros.objects co.0 (Suspended stack) there

  pub still_within : HasStack old → co.0 < length mid.coros.objects
  still_within h =
      let m = map_get (coroutine mid.strings) mid.coros.objects co.0 (suspended fs) (still 0 h.stack h.is) in
      get_within mid.coros.objects co.0 m.0 m.1

  module _ (new : Memory) (c d : Coro) (got : slice_get mid.coros.objects co.0 ≡ Some c)
      (woken : (texts : List (List ℕ)) (fs : List Frame) → coroutine texts c ≡ suspended fs → coroutine texts d ≡ in_progress fs)
      (rest : new ≡ record mid { coros = new.coros; chain = new.chain }) (chain : new.chain.items ≡ mid.chain.items ++ co ∷ []) (objects : new.coros.objects ≡ slice_set mid.coros.objects co.0 d) where
    pub goes : GoesInto old new co.0 fs
    goes = record {
      is = λ fuel s e.
          let c_is : coroutine mid.strings c ≡ suspended fs = some_is (get_map (coroutine mid.strings) mid.coros.objects co.0 c got) (still fuel s e) in
          gone_into mid new fuel co.0 co d fs refl rest chain objects (woken mid.strings fs c_is) ∙ ap (λ W. go_into W co.0 fs) (waits fuel s e);
    }

pub in_progress_there : (V : World) (co : ℕ) (fs : List Frame) (c : Coroutine) → slice_get V.coroutines co ≡ Some c → stack_of (go_into V co fs) ≡ Some (record { coroutine = co; frames = fs })
unfolding go_into put_coroutine
in_progress_there V co fs c e = stack_is (go_into V co fs) co fs (last_push V.chain co) (get_set_same V.coroutines co c (in_progress fs) e)

pub now_runs : (old new : Memory) (co : CoroId) (stack : KeptStack) → slice_get old.coros.objects co.0 ≡ Some (Suspended stack) → HasStack old → GoesInto old new co.0 (frames (value old.strings) stack) → HasStack new
now_runs old new co stack there h g =
    let fs = frames (value old.strings) stack in
    let V = plain old 0 in
    let k : slice_get V.coroutines co.0 ≡ Some (suspended fs) = get_map (coroutine old.strings) old.coros.objects co.0 (Suspended stack) there in
    let d : h.stack.coroutine ≢ co.0 = λ same. not_suspended h.stack.frames fs (slice_get V.coroutines co.0) (ap (slice_get V.coroutines) (sym same) ∙ (stack_there V h.stack h.is).there) k in
    record {
      stack = record { coroutine = co.0; frames = fs };
      is = ap stack_of (g.is 0 h.stack h.is) ∙ in_progress_there (wait_for_another V h.stack) co.0 fs (suspended fs) (after_wait V h.stack co.0 d ∙ k);
    }

-- one that has not begun

not_fresh : (fs : List Frame) (body : Value) (o : Option Coroutine) → o ≡ Some (in_progress fs) → o ≡ Some (fresh body) → ⊥
not_fresh fs body o e f = let k : Some (in_progress fs) ≡ Some (fresh body) = sym e ∙ f in cc

pub fresh_waits : (V : World) (s : Stack) (co : ℕ) (body : Value) → stack_of V ≡ Some s → slice_get V.coroutines co ≡ Some (fresh body) → slice_get (wait_for_another V s).coroutines co ≡ Some (fresh body)
fresh_waits V s co body e k = after_wait V s co (λ same. not_fresh s.frames body (slice_get V.coroutines co) (ap (slice_get V.coroutines) (sym same) ∙ (stack_there V s e).there) k) ∙ k

begun_world : (V : World) (s : Stack) (co : ℕ) (fs : List Frame) → co ≢ s.coroutine → go_into (wait_for_another (put_coroutine V co (suspended fs)) s) co fs ≡ go_into (wait_for_another V s) co fs
unfolding go_into wait_for_another put_coroutine
begun_world V s co fs d =
    let k = normal s.frames in
    ap (λ cs. record V { chain = V.chain ++ co ∷ []; coroutines = slice_set cs co (in_progress fs) }) (set_set V.coroutines co s.coroutine (suspended fs) k d)
    ∙ ap (λ cs. record V { chain = V.chain ++ co ∷ []; coroutines = cs }) (set_twice (slice_set V.coroutines s.coroutine k) co (suspended fs) (in_progress fs))

put_stack : (V : World) (s : Stack) (co : ℕ) (c : Coroutine) → co ≢ s.coroutine → stack_of V ≡ Some s → stack_of (put_coroutine V co c) ≡ Some s
unfolding put_coroutine
put_stack V s co c d e =
    let k = stack_there V s e in
    stack_is (put_coroutine V co c) s.coroutine s.frames k.chain (get_set_other V.coroutines co s.coroutine c d ∙ k.there)

module _ (old mid : Memory) (co : CoroId) (stack : KeptStack) (f : IsFresh old co) (objects : mid.coros.objects ≡ slice_set old.coros.objects co.0 (Suspended stack)) where
  abbrev begun : List Frame
  begun = frames (value old.strings) stack

  pub suspended_there : slice_get mid.coros.objects co.0 ≡ Some (Suspended stack)
  suspended_there = ap (λ cs. slice_get cs co.0) objects ∙ get_set_same old.coros.objects co.0 (Fresh f.body) (Suspended stack) f.there

  pub begun_listed : stack.open_cells ≡ [] → mid.cells.objects ≡ old.cells.objects → CellsAreListed old → CellsAreListed mid
  begun_listed none cells a =
      let lists = map open_cells_in old.coros.objects in
      let now : map open_cells_in mid.coros.objects ≡ slice_set lists co.0 (Some []) =
      ap (map open_cells_in) objects ∙ map-set open_cells_in old.coros.objects co.0 (Suspended stack) ∙ ap (λ own. slice_set lists co.0 (Some own)) none in
      subst (λ cells. AreListed cells (map open_cells_in mid.coros.objects)) (sym cells)
      (subst (AreListed old.cells.objects) (sym now) (listed_awake old.cells.objects lists co.0 None a (get_map open_cells_in old.coros.objects co.0 (Fresh f.body) f.there)))

  module _ (put : (fuel : ℕ) → plain mid fuel ≡ put_coroutine (plain old fuel) co.0 (coroutine old.strings (Suspended stack))) where
    other : (fuel : ℕ) (s : Stack) → stack_of (plain old fuel) ≡ Some s → co.0 ≢ s.coroutine
    other fuel s e same =
        let V = plain old fuel in
        not_fresh s.frames (value old.strings f.body) (slice_get V.coroutines co.0) (ap (slice_get V.coroutines) same ∙ (stack_there V s e).there)
        (get_map (coroutine old.strings) old.coros.objects co.0 (Fresh f.body) f.there)

    same_stack : (fuel : ℕ) (s : Stack) → stack_of (plain old fuel) ≡ Some s → stack_of (plain mid fuel) ≡ Some s
    same_stack fuel s e = ap stack_of (put fuel) ∙ put_stack (plain old fuel) s co.0 (suspended begun) (other fuel s e) e

    pub put_runs : HasStack old → HasStack mid
    put_runs h = record { stack = h.stack; is = same_stack 0 h.stack h.is }

    pub begun_goes : {new : Memory} → GoesInto mid new co.0 begun → GoesInto old new co.0 begun
    begun_goes g = record {
      is = λ fuel s e.
          g.is fuel s (same_stack fuel s e) ∙ ap (λ W. go_into (wait_for_another W s) co.0 begun) (put fuel) ∙ begun_world (plain old fuel) s co.0 begun (other fuel s e);
    }
