-- The rows of library functions, move by move.
use Rattle.std.proofs.Common.{◌≡◌, ℕ, List, [], ◌∷◌, ◌++◌, Option, Some, None, length, refl, ap, sym, subst, ◌∙◌}
use Rattle.std.specs.Prelude.{map, drop}
use Rattle.std.proofs.Math.Seq.{drop-append_seam}
use Rattle.int_core.specs.Value.{Value, nth}
use Rattle.library_rows.specs.Look.{Look, refused, looked}
use Rattle.machine_core.specs.World.{World, stack_of}
use Rattle.machine_core.specs.Text.{Arg, read, args_of}
use Rattle.machine_core.specs.FrameRows.{hand_over, handed, blames}
use Rattle.machine_core.specs.MachineStep.{look_row, after_look}
use Rattle.machine_core.specs.Moves.{LookShape, is_given, is_refused, is_raised, TopShape, lua_top, see_top, take_moving, give, give_with, consult, consulted, Made, made, move, Ending, go, returned, stop, Outcome, trapped, ends, run}
use Rattle.machine_core.specs.Moves.{raised as ends_raised}
use Rattle.table_core.specs.declared.value.Value.{Value as Kept}
use Rattle.lua_heap.specs.declared.world.World.{World as Memory}
use Rattle.lua_heap.specs.Plain.{plain}
use Rattle.lua_heap.specs.Reading.{value}
use Rattle.pure_functions.specs.declared.answer.Answer.{Answer}
use Rattle.pure_functions.specs.declared.answer.Answer.TheVariants.{One, Two, Gives, Raises}
use Rattle.pure_functions.specs.Answers.{Changes, told, heap_of}
use Rattle.move_laws.specs.Memory.{Makes, Leads, HasStack, ReadsSame}
use Rattle.machine_sound.proofs.Lists.{get_push_new}
use Rattle.move_laws.proofs.Rows.{first, ended}
use Rattle.move_laws.proofs.Running.{nth_is}
use Rattle.machine_moves.specs.Ending.{ending_of}
use Rattle.machine_moves.specs.declared.ending.Ending.{Ending as KeptEnding}
use Rattle.machine_moves.specs.declared.ending.Ending.TheVariants.{Go, Returned, Raised}
use Rattle.machine_library.specs.Answers.{Goes, shape_told, values_told, Tells}
use Rattle.machine_library.proofs.Moving.{Taken}

-- what moves is for the frame on top

ending_in : Outcome → Ending
ending_in trapped = go
ending_in (ends e W) = e

goes_go : (e : KeptEnding) → go ≡ ending_of e → Goes e
goes_go Go h = tt
goes_go Returned h = tt
goes_go Raised h = tt
goes_go _ h = absurd (cc)

goes_returned : (e : KeptEnding) → returned ≡ ending_of e → Goes e
goes_returned Go h = tt
goes_returned Returned h = tt
goes_returned Raised h = tt
goes_returned _ h = absurd (cc)

handed_goes : (t : TopShape) (env : List Value) (X V : World) (e : KeptEnding) → run (handed t) env X ≡ ends (ending_of e) V → Goes e
unfolding ending_in
handed_goes lua_top env X V e h = goes_go e (ap ending_in h)
handed_goes _ env X V e h = goes_returned e (ap ending_in h)

pub hands_on : (W : Memory) (e : KeptEnding) → Leads hand_over [] W W (ending_of e) → Goes e
hands_on W e l = by (move see_top [] (plain W 0)) (l.is 0)
  where
    by : (o : Option (Made TopShape)) → elim o as (λ _. Outcome) [ None ↦ trapped | Some d ↦ run (handed d.told) ([] ++ d.values) d.world ] ≡ ends (ending_of e) (plain W 0) → Goes e
    by None h = absurd (cc)
    by (Some d) h = handed_goes d.told ([] ++ d.values) d.world (plain W 0) e h

-- the function is looked up in tables and values

pub answered : (row : Look) (arguments : List Kept) (taken new : Memory) (answer : Answer) → Changes taken new arguments → looked row (map (value taken.strings) arguments) (heap_of taken) ≡ told new answer
    → Makes taken new (consult row 0) (map (value taken.strings) arguments) (values_told new answer) (shape_told answer)
answered row arguments taken new (One v) c e = record { is = λ fuel. ap (consulted (plain taken fuel)) e ∙ ap (λ W. made W (value new.strings v ∷ []) is_given) (sym (c.plain fuel)) }
answered row arguments taken new (Two v w) c e = record { is = λ fuel. ap (consulted (plain taken fuel)) e ∙ ap (λ W. made W (value new.strings v ∷ value new.strings w ∷ []) is_given) (sym (c.plain fuel)) }
answered row arguments taken new (Gives vs) c e = record { is = λ fuel. ap (consulted (plain taken fuel)) e ∙ ap (λ W. made W (map (value new.strings) vs.items) is_given) (sym (c.plain fuel)) }
answered row arguments taken new (Raises v) c e = record { is = λ fuel. ap (consulted (plain taken fuel)) e ∙ ap (λ W. made W (value new.strings v ∷ []) is_raised) (sym (c.plain fuel)) }

was_refused : (row : Look) (arguments : List Kept) (taken : Memory) (text : List ℕ) → looked row (map (value taken.strings) arguments) (heap_of taken) ≡ refused text
    → Makes taken taken (consult row 0) (map (value taken.strings) arguments) [] (is_refused text)
was_refused row arguments taken text e = record { is = λ fuel. ap (consulted (plain taken fuel)) e }

-- the place of an error does not hang on what moves
blamed_alike : (text : List ℕ) (env : List Value) (W : World) (vs : List Value) → run (blames text) env (record W { moving = vs }) ≡ run (blames text) env W
blamed_alike text env W vs = refl

pub refuses : (row : Look) (arguments : List Kept) (old taken again new : Memory) (text : List ℕ) (e : Ending) → Taken old taken arguments
    → looked row (map (value taken.strings) arguments) (heap_of taken) ≡ refused text → ReadsSame old again
    → ((env : List Value) → Leads (blames text) env again new e) → Leads (look_row row) [] old new e
refuses row arguments old taken again new text e t l same b =
    let texts : map (value old.strings) arguments ≡ map (value taken.strings) arguments = ap (λ (M : Memory). map (value M.strings) arguments) (sym t.rest) in
    let env = map (value taken.strings) arguments in
    first (λ n _. Rattle.machine_core.specs.Moves.act (consult row n) (λ v s. after_look v s)) (subst (λ vs. Makes old taken take_moving [] vs tt) texts (t.makes []))
    (first (λ v s. after_look v s) (was_refused row arguments taken text l)
    (record {
      is = λ fuel.
          ap (run (blames text) (env ++ [])) (t.plain fuel)
          ∙ blamed_alike text (env ++ []) (plain old fuel) []
          ∙ ap (run (blames text) (env ++ [])) (sym (same.is fuel))
          ∙ (b (env ++ [])).is fuel;
    }))

pub tells_row : (row : Look) (arguments : List Kept) (old taken new last : Memory) (answer : Answer) (e : Ending) → Taken old taken arguments
    → Changes taken new arguments → looked row (map (value taken.strings) arguments) (heap_of taken) ≡ told new answer
    → Tells new last answer e → Leads (look_row row) [] old last e
tells_row row arguments old taken new last answer e t c l h =
    let texts : map (value old.strings) arguments ≡ map (value taken.strings) arguments = ap (λ (M : Memory). map (value M.strings) arguments) (sym t.rest) in
    first (λ n _. Rattle.machine_core.specs.Moves.act (consult row n) (λ v s. after_look v s)) (subst (λ vs. Makes old taken take_moving [] vs tt) texts (t.makes []))
    (first (λ v s. after_look v s) (answered row arguments taken new answer c l) (h.leads (map (value taken.strings) arguments)))

-- a running coroutine goes on running

pub still_runs : (old taken new : Memory) (arguments : List Kept) → HasStack old → Taken old taken arguments → Changes taken new arguments → HasStack new
still_runs old taken new arguments h t c = record {
  stack = h.stack;
  is = ap stack_of (c.plain 0) ∙ ap (λ (W : World). stack_of (record W { heap = heap_of new })) (t.plain 0) ∙ h.is;
}

pub runs_after : (new last : Memory) → HasStack new → last ≡ record new { moving = last.moving } → HasStack last
runs_after new last h e = subst HasStack (sym e) (record { stack = h.stack; is = h.is })

-- what was answered is sent on its way

pub gives_on : (old new : Memory) (vs : List Kept) (e : Ending) → ((env : List Value) (slot : ℕ) → args_of env [] ++ drop slot env ≡ map (value old.strings) vs → Makes old new (give_with [] slot) env [] tt)
    → ((env : List Value) → Leads hand_over env new new e) → (env : List Value) → Leads (after_look (length env) is_given) (env ++ map (value old.strings) vs) old new e
gives_on old new vs e gives hands env =
    let E = env ++ map (value old.strings) vs in
    first (λ _ _. hand_over) (gives E (length env) (drop-append_seam env (map (value old.strings) vs))) (hands (E ++ []))

pub gives_one : (old new : Memory) (v : Kept) (vs : List Kept) (e : Ending) → vs ≡ v ∷ []
    → ((env : List Value) (slot : ℕ) → args_of env [] ++ drop slot env ≡ map (value old.strings) vs → Makes old new (give_with [] slot) env [] tt)
    → ((env : List Value) → Leads hand_over env new new e) → (env : List Value) → Leads (after_look (length env) is_given) (env ++ value old.strings v ∷ []) old new e
gives_one old new v vs e one gives hands env = subst (λ ws. Leads (after_look (length env) is_given) (env ++ map (value old.strings) ws) old new e) one (gives_on old new vs e gives hands env)

pub gives_two : (old new : Memory) (v w : Kept) (vs : List Kept) (e : Ending) → vs ≡ v ∷ w ∷ []
    → ((env : List Value) (slot : ℕ) → args_of env [] ++ drop slot env ≡ map (value old.strings) vs → Makes old new (give_with [] slot) env [] tt)
    → ((env : List Value) → Leads hand_over env new new e) → (env : List Value) → Leads (after_look (length env) is_given) (env ++ value old.strings v ∷ value old.strings w ∷ []) old new e
gives_two old new v w vs e two gives hands env = subst (λ ws. Leads (after_look (length env) is_given) (env ++ map (value old.strings) ws) old new e) two (gives_on old new vs e gives hands env)

nth_seam : (env : List Value) (v : Value) → nth (env ++ v ∷ []) (length env) ≡ v
nth_seam env v = nth_is (env ++ v ∷ []) (length env) v (get_push_new env v)

pub raises_on : (old new : Memory) (v : Kept) → ((env : List Value) (xs : List Arg) → args_of env xs ≡ map (value old.strings) (v ∷ []) → Makes old new (give xs) env [] tt)
    → (env : List Value) → Leads (after_look (length env) is_raised) (env ++ value old.strings v ∷ []) old new ends_raised
raises_on old new v gives env =
    first (λ _ _. stop ends_raised) (gives (env ++ value old.strings v ∷ []) (read (length env) ∷ []) (ap (λ v. v ∷ []) (nth_seam env (value old.strings v)))) ended
