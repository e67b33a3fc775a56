-- The first turn of a script begins in both worlds.
use Rattle.lua_meaning.specs.Step.{Primitives}
use Rattle.std.proofs.Common.{ℕ, zero, suc, ◌≡◌, List, [], ◌∷◌, ◌++◌, length, Option, Some, refl, sym, ap, subst, ◌∙◌, arith, false, cond}
use Rattle.std.specs.Prelude.{slice_get, slice_set, map, reverse}
use Rattle.std.proofs.lemmas.List.{map-append}
use Rattle.int_core.specs.Value.{Value, object, a_function, a_table, nth, bind}
use Rattle.int_core.specs.Limits.{stack_overflow}
use Rattle.code_core.specs.Prototype.{Prototype}
use Rattle.list_laws.proofs.Items.{get_new}
use Rattle.machine_core.specs.World.{Function, closed, open_at, Coroutine, fresh, in_progress, World, Stack, stack_of, push, put_frames}
use Rattle.machine_core.specs.Moves.{Made, made, CallShape, is_entered, not_entered, enters, has_room, push_all, new_frame, go_into, put_coroutine, starts_in, ResumeShape, resumed, go, Outcome, ends, run}
use Rattle.machine_core.specs.FrameRows.{hand_over}
use Rattle.machine_core.specs.Talk.{State, talk_start}
use Rattle.lua_meaning.specs.World as talk
use Rattle.lua_meaning.specs.World.{running, talking, talks}
use Rattle.lua_meaning.specs.Meaning as meaning
use Rattle.lua_meaning.specs.Meaning.{Script}
use Rattle.code_means.specs.Runs.{codes_run}
use Rattle.machine_sound.specs.Sound.{Sound}
use Rattle.machine_sound.specs.Laws.{PrimitivesSafe}
use Rattle.machine_runs.specs.Opening.{numbers, main_cells, begun}
use Rattle.machine_runs.specs.Runs.{wakes, after_waking, with_budget}
use Rattle.machine_runs.proofs.Opening.{begun_sound, begun_may_turn}
use Rattle.machine_means.specs.Joined.{TalkWorld, Dressed, Stacks, CoroutinesPair, HoldsIn, CellsPair, Joined}
use Rattle.machine_means.specs.Works.{Works}
use Rattle.machine_means.specs.Stands.{Stands, code_runs}
use Rattle.machine_means.proofs.Handing.{hand_over_is}
use Rattle.machine_means.proofs.Switches.{OnlyRuns}
use Rattle.machine_means.proofs.Entered.{works}
use Rattle.means_steps.specs.Steps.{SameLibrary}
use Rattle.means_steps.proofs.Quicks.{lengths, pairs_more}
use Rattle.means_runs.specs.Runs.{OpenAlike, ScriptOk}
use Rattle.means_runs.proofs.Lines.{Begins}

-- cells that are all closed

closed_all : (vs : List Value) (c : ℕ) (v : Value) → slice_get (map closed vs) c ≡ Some (closed v) → nth vs c ≡ v
closed_all [] c v h = absurd (cc)
closed_all (x ∷ vs) zero v h = let e : x ≡ v = cc in e
closed_all (x ∷ vs) (suc c) v h = closed_all vs c v h

none_open : (vs : List Value) (c i f r : ℕ) → slice_get (map closed vs) c ≡ Some (open_at i f r) → ⊥
none_open [] c i f r h = cc
none_open (x ∷ vs) zero i f r h = cc
none_open (x ∷ vs) (suc c) i f r h = none_open vs c i f r h

length_closed : (vs : List Value) → length (map closed vs) ≡ length vs
length_closed [] = refl
length_closed (x ∷ vs) = ap suc (length_closed vs)

nothing_held : (i f r c : ℕ) → HoldsIn ([] ∷ []) i f r c → ⊥
nothing_held zero f r c m = m
nothing_held (suc i) f r c m = m

all_closed : (vs : List Value) → CellsPair (map closed vs) vs ([] ∷ [])
all_closed vs = record {
  size = length_closed vs;
  shut = closed_all vs;
  opened = λ c i f r h. absurd (none_open vs c i f r h);
  held_open = λ c i f r m. absurd (nothing_held i f r c m);
  one = λ c d i f r h. absurd (none_open vs c i f r h);
}

one_number : (from count : ℕ) → count ≡ 1 → numbers from count ≡ from ∷ []
one_number from count e = ap (numbers from) e

one_cell : (globals count : ℕ) → count ≡ 1 → main_cells globals count ≡ closed (object a_table globals) ∷ []
one_cell globals count e = ap (main_cells globals) e

module _ (W : World) (T : TalkWorld) (script : Script Prototype) (budget : ℕ) (o : OpenAlike W T) (ok : ScriptOk script) where
  abbrev main : Prototype
  main = script.main

  abbrev n : ℕ
  n = length W.functions

  abbrev upvalues : ℕ
  upvalues = length script.main.own.upvalues

  abbrev new : Function
  new = record { code = script.main; cells = numbers (length W.cells) (length script.main.own.upvalues) }

  abbrev also : talk.Function Prototype
  also = record { made_of = script.main; source = script.name; has_lines = script.has_lines; cells = length T.cells ∷ [] }

  -- the machine's world with the main coroutine in front of its call
  abbrev called_from : List Coroutine → List ℕ → World
  called_from cs ch = record W {
    functions = W.functions ++ new ∷ [];
    cells = W.cells ++ main_cells W.globals (length script.main.own.upvalues);
    coroutines = slice_set (cs ++ fresh (object a_function (length W.functions)) ∷ []) (length cs) (in_progress []);
    chain = ch ++ length cs ∷ [];
    main = Some (length cs);
    moving = [];
    printed = [];
    fuel = budget;
  }

  abbrev M : World
  M = called_from [] []

  called_is : called_from W.coroutines W.chain ≡ M
  called_is = ap (λ cs. called_from cs W.chain) o.none ∙ ap (λ ch. called_from [] ch) o.idle

  -- the other one
  abbrev U : TalkWorld
  U = record T { functions = T.functions ++ also ∷ []; cells = T.cells ++ object a_table T.globals ∷ []; printed = []; fuel = budget; frames = [] }

  same_cells : W.cells ++ main_cells W.globals (length script.main.own.upvalues) ≡ map closed (T.cells ++ object a_table T.globals ∷ [])
  same_cells =
      ap (λ ws. ws ++ main_cells W.globals (length script.main.own.upvalues)) o.cells
      ∙ ap (λ ws. map closed T.cells ++ ws) (one_cell W.globals (length script.main.own.upvalues) ok.names_globals ∙ ap (λ g. closed (object a_table g) ∷ []) o.globals)
      ∙ sym (map-append closed T.cells (object a_table T.globals ∷ []))

  dressed : Dressed new also
  dressed = record { code = refl; cells = sym (one_number (length W.cells) (length script.main.own.upvalues) ok.names_globals ∙ ap (λ c. c ∷ []) (ap (λ ws. length ws) o.cells ∙ length_closed T.cells)); named = ok.named }

  main_runs : (ds : List (talk.Coroutine State)) → ds ≡ running ∷ [] → (vs : List Value) (fs : List Function) → CoroutinesPair fs vs (λ fr hs. Stacks false fs vs fr [] hs) (in_progress [] ∷ []) ds ([] ∷ [])
  main_runs ds e vs fs = subst (λ ds. CoroutinesPair fs vs (λ fr hs. Stacks false fs vs fr [] hs) (in_progress [] ∷ []) ds ([] ∷ [])) (sym e) by
    where
      by : CoroutinesPair fs vs (λ fr hs. Stacks false fs vs fr [] hs) (in_progress [] ∷ []) (running ∷ []) ([] ∷ [])
      by zero = record { ms = []; listed = refl; below = tt; depth = omega arith }
      by (suc j) = tt

  joined : Joined false M U
  joined = record {
    heap = o.heap;
    globals = o.globals;
    printed = refl;
    fuel = refl;
    chain = ap reverse (sym o.chain);
    functions = pairs_more W.functions T.functions new also o.functions dressed;
    held = [] ∷ [];
    cells = subst (λ ws. CellsPair ws (T.cells ++ object a_table T.globals ∷ []) ([] ∷ [])) (sym same_cells) (all_closed (T.cells ++ object a_table T.globals ∷ []));
    coroutines = main_runs T.coroutines o.main (T.cells ++ object a_table T.globals ∷ []) (W.functions ++ new ∷ []);
  }

  alone : OnlyRuns (in_progress [] ∷ []) 0
  alone zero fr e = refl
  alone (suc j) fr e = absurd (cc)

  abbrev s : Stack
  s = record { coroutine = 0; frames = [] }

  abbrev V : World
  V = push M s (new_frame (length W.functions) script.main [])

  works_so : Works V (record U { frames = talking (length W.functions) (talk_start script.main []) ∷ []; now = talks })
  works_so = works M U 0 [] joined refl alone (length W.functions) new (get_new W.functions new) [] budget (omega arith) []

  stack_entered : stack_of V ≡ Some (record { coroutine = 0; frames = new_frame (length W.functions) script.main [] ∷ [] })
  unfolding push put_frames
  stack_entered = refl

  entered : Outcome
  entered = run hand_over [] V

  goes : run hand_over [] V ≡ ends go V
  goes = hand_over_is V (record { coroutine = 0; frames = new_frame (length W.functions) script.main [] ∷ [] }) [] stack_entered

  abbrev woken : Option (Made CallShape) → Outcome
  woken m = after_waking (bind {B = Made ResumeShape} m (λ d. made d.world [] (resumed d.told)))

  abbrev by_function : Option Function → Option (Made CallShape)
  by_function f = bind f (λ f. cond (has_room M 1) (made (push_all M (new_frame (length W.functions) f.code [] ∷ [])) [] is_entered) (made M [] (not_entered stack_overflow)))

  enters_so : woken (enters M (object a_function (length W.functions)) []) ≡ run hand_over [] V
  enters_so = ap (λ f. woken (by_function f)) (get_new W.functions new)

  wakes_so : wakes (with_budget (begun W script.main) budget) ≡ woken (enters (called_from W.coroutines W.chain) (object a_function (length W.functions)) [])
  unfolding wakes begun go_into put_coroutine
  wakes_so =
      ap (λ c. after_waking (bind c (λ c. starts_in (record W {
        functions = W.functions ++ new ∷ [];
        cells = W.cells ++ main_cells W.globals (length script.main.own.upvalues);
        coroutines = W.coroutines ++ fresh (object a_function (length W.functions)) ∷ [];
        main = Some (length W.coroutines);
        moving = [];
        printed = [];
        fuel = budget;
      }) (length W.coroutines) c []))) (get_new W.coroutines (fresh (object a_function (length W.functions))))

  pub wakes_is : wakes (with_budget (begun W script.main) budget) ≡ ends go V
  wakes_is = wakes_so ∙ ap (λ X. woken (enters X (object a_function (length W.functions)) [])) called_is ∙ enters_so ∙ goes

  pub stands : (library : Primitives Prototype) → Stands go V (meaning.begun codes_run library T script budget)
  stands library =
      subst (λ m. Stands go V (record U { frames = talking m (talk_start script.main []) ∷ []; now = talks })) (lengths W.functions T.functions o.functions)
      (code_runs V (record U { frames = talking (length W.functions) (talk_start script.main []) ∷ []; now = talks }) works_so)

pub first_begins : (primitives : ℕ) (rows : ℕ → Rattle.machine_core.specs.Moves.Row) (library : Primitives Prototype) (safe : PrimitivesSafe primitives rows) (same : SameLibrary primitives rows library) (W : World) (T : TalkWorld) (script : Script Prototype) (budget : ℕ)
    → Sound primitives W → OpenAlike W T → ScriptOk script → Begins primitives rows library safe same (begun W script.main) budget (meaning.begun codes_run library T script budget)
first_begins primitives rows library safe same W T script budget sound o ok = record {
  sound = begun_sound primitives W script.main sound o.idle ok.checked;
  may = begun_may_turn W script.main o.idle;
  ending = go;
  world = push (called_from W T script budget o ok [] []) (record { coroutine = 0; frames = [] }) (new_frame (length W.functions) script.main []);
  is = wakes_is W T script budget o ok;
  goes = tt;
  stands = stands W T script budget o ok library;
}
