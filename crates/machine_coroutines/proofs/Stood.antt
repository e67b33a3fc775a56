-- Coroutines that are made and that yield, and how they stand, in the words of the machine.
use Rattle.std.proofs.Common.{◌≡◌, ℕ, List, [], ◌∷◌, length, Some, None, refl, ap, sym, subst, ◌∙◌, true, Result, Ok, Err, OnOk, OnErr}
use Rattle.std.specs.Prelude.{Bool, cond, map, slice_get}
use Rattle.std.proofs.lemmas.List.{length-map, map-append}
use Rattle.int_core.specs.Operations.{is_function}
use Rattle.int_core.specs.Value.{Value, object, a_coroutine, bind, last}
use Rattle.machine_core.specs.World.{Coroutine, fresh, World, Stack, stack_of}
use Rattle.machine_core.specs.Text.{Arg, arg}
use Rattle.machine_core.specs.Moves.{Made, made, Status, add_coroutine, coroutine_number, create, runs_main, see_running, see_status, status_of, suspend, suspend_running}
use Rattle.list_laws.proofs.Items.{get_old}
use Rattle.machine_sound.proofs.Lists.{bind_at, get_map}
use Rattle.table_core.specs.declared.value.CoroId.{CoroId}
use Rattle.table_core.specs.declared.value.Value.{Value as Kept}
use Rattle.lua_stack.specs.Frames.{KeptStack}
use Rattle.lua_heap.specs.declared.world.Coro.{Coro}
use Rattle.lua_heap.specs.declared.world.Coro.TheVariants.{Fresh, Running}
use Rattle.lua_heap.specs.declared.world.World.{World as Memory}
use Rattle.lua_heap.specs.Cells.{AreListed, CellsAreListed, open_cells_in}
use Rattle.lua_heap.specs.Changes.{AddsCoroutine, with_coroutine}
use Rattle.lua_heap.specs.Law.{CellsStayListed}
use Rattle.lua_heap.specs.Reading.{value}
use Rattle.lua_heap.specs.Plain.{coroutine, plain}
use Rattle.move_laws.specs.Memory.{HasStack, Runs, Makes}
use Rattle.move_laws.proofs.Running.{stack_runs}
use Rattle.move_laws.proofs.Places.{stack_is}
use Rattle.machine_moves.proofs.OnTop.{has_running, kept_as, stack_kept}

pub suspends_is : (old new : Memory) (co : CoroId) (s : KeptStack) (in_main : Bool) (env : List Value) → Runs old co s → in_main ≡ runs_main (plain old 0)
    → ((fuel : ℕ) (k : Stack) → stack_of (plain old fuel) ≡ Some k → plain new fuel ≡ suspend_running (plain old fuel) k) → Makes old new suspend env [] in_main
suspends_is old new co s in_main env r m h = record {
  is = λ fuel.
      let V = plain old fuel in
      let k = kept_as old co s in
      bind_at (λ (k : Stack). made (suspend_running V k) [] (runs_main V)) (stack_of V) k (stack_kept old co s fuel r)
      ∙ ap (λ W. made W [] (runs_main V)) (sym (h fuel k (stack_kept old co s fuel r))) ∙ ap (made (plain new fuel) []) (sym m);
}

added_is : (W : World) (v : Value) → add_coroutine W v ≡ with_coroutine (fresh v) W
unfolding add_coroutine
added_is W v = refl

pub creates_is : (old new : Memory) (body : Kept) (id : ℕ) (env : List Value) (x : Arg) → is_function (value old.strings body) ≡ true → AddsCoroutine old new (Fresh body) → id ≡ length old.coros.objects
    → arg env x ≡ value old.strings body → Makes old new (create x) env (object a_coroutine id ∷ []) tt
creates_is old new body id env x f a n e = record {
  is = λ fuel.
      let V = plain old fuel in
      let v = value old.strings body in
      ap (λ v. cond (is_function v) (made (add_coroutine V v) (object a_coroutine (length V.coroutines) ∷ []) tt) None) e
      ∙ ap (λ b. cond b (made (add_coroutine V v) (object a_coroutine (length V.coroutines) ∷ []) tt) None) f
      ∙ ap (λ n. made (add_coroutine V v) (object a_coroutine n ∷ []) tt) (length-map old.coros.objects (coroutine old.strings) ∙ sym n)
      ∙ ap (λ W. made W (object a_coroutine id ∷ []) tt) (added_is V v ∙ sym (a.plain fuel));
}

pub created_listed : {old new : Memory} {body : Kept} → CellsStayListed → AddsCoroutine old new (Fresh body) → CellsAreListed old → CellsAreListed new
created_listed {old} {new} {body} law a l =
    subst (λ cells. AreListed cells (map open_cells_in new.coros.objects)) (sym (ap (λ (W : Memory). W.cells.objects) a.rest))
    (subst (AreListed old.cells.objects) (sym (ap (map open_cells_in) a.objects ∙ map-append open_cells_in old.coros.objects (Fresh body ∷ []))) (law old.cells.objects (map open_cells_in old.coros.objects) l).coroutine)

pub sees_is : (W : Memory) (co : CoroId) (c : Coro) (t : Status) (env : List Value) (x : Arg) → slice_get W.coros.objects co.0 ≡ Some c → t ≡ status_of (coroutine W.strings c) → arg env x ≡ object a_coroutine co.0
    → Makes W W (see_status x) env [] t
sees_is W co c t env x e s q = record {
  is = λ fuel.
      let V = plain W fuel in
      ap (λ v. bind {B = Made Status} (coroutine_number v) (λ co. bind {B = Made Status} (slice_get V.coroutines co) (λ c. made V [] (status_of c)))) q
      ∙ bind_at (λ (c : Coroutine). made V [] (status_of c)) (slice_get V.coroutines co.0) (coroutine W.strings c) (get_map (coroutine W.strings) W.coros.objects co.0 c e)
      ∙ ap (made V []) (sym s);
}

pub running_is : (W : Memory) (co : CoroId) (s : KeptStack) (env : List Value) → Runs W co s → Makes W W see_running env (object a_coroutine co.0 ∷ []) tt
running_is W co s env r = record {
  is = λ fuel. let V = plain W fuel in bind_at (λ co. made V (object a_coroutine co ∷ []) tt) (last V.chain) co.0 (stack_is V (kept_as W co s) (stack_kept W co s fuel r)).chain;
}

pub on_both : {B E : Type 0} {P Q R : Type 0} (o : Result B E) → OnOk o P → OnErr o Q → (P → R) → (Q → R) → R
on_both (Ok b) p q f g = f p
on_both (Err e) p q f g = g q

pub created_runs : {old new : Memory} {body : Kept} → AddsCoroutine old new (Fresh body) → HasStack old → HasStack new
created_runs {old} {new} {body} a h =
    let r = stack_runs old h in
    has_running new r.co r.stack (record {
      chain = ap (λ (W : Memory). last W.chain.items) a.rest ∙ r.runs.chain;
      there = ap (λ cs. slice_get cs r.co.0) a.objects ∙ get_old old.coros.objects (Fresh body ∷ []) r.co.0 (Running r.stack) r.runs.there;
    })
