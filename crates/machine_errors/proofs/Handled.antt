-- Message handlers that are called, and that fail.
use Rattle.std.proofs.Common.{◌≡◌, ◌++◌, ℕ, List, [], ◌∷◌, length, refl, ap, ap₂, sym, ◌∙◌, true, false}
use Rattle.std.specs.Prelude.{cond, drop, map}
use Rattle.int_core.specs.Value.{Value, nth}
use Rattle.machine_core.specs.Text.{read, args_of}
use Rattle.machine_core.specs.FrameRows.{then, error_in_handler, gives_up, raised_to, handed_to}
use Rattle.machine_core.specs.Moves.{Row, act, stop, Ending, asks, unwinding, run, over_handler, push_frame, take_moving, pop_frame, give, give_with, handler_top, xpcall_top}
use Rattle.table_core.specs.declared.value.Value.{Value as Kept}
use Rattle.lua_heap.specs.declared.world.World.{World as Memory}
use Rattle.lua_heap.specs.Plain.{plain}
use Rattle.lua_heap.specs.Reading.{value}
use Rattle.machine_moves.specs.declared.tops.Over.TheVariants.{Handler}
use Rattle.move_laws.specs.Memory.{Leads, Makes}
use Rattle.move_laws.proofs.Rows.{act_is, first, ended}
use Rattle.machine_errors.specs.Protected.{first_of}
use Rattle.machine_errors.specs.Asking.{taken, AsksOver}
use Rattle.machine_errors.specs.Handlers.{IsFailure}
use Rattle.machine_errors.proofs.Answering.{first_read}

nth_at : (env : List Value) (v : Value) (vs : List Value) → nth ((env ++ v ∷ []) ++ vs) (length env) ≡ v
nth_at [] v vs = refl
nth_at (x ∷ env) v vs = nth_at env v vs

pub drop_front : (xs ys : List Value) → drop (length xs) (xs ++ ys) ≡ ys
drop_front [] ys = refl
drop_front (x ∷ xs) ys = drop_front xs ys

-- what moves is taken, and the row goes on
pub takes_first : (W : Memory) (k : ℕ → Unit {0} → Row) (env : List Value) (fuel : ℕ)
    → run (act take_moving k) env (plain W fuel) ≡ run (k (length env) tt) (env ++ map (value W.strings) W.moving.items) (taken W fuel)
takes_first W k env fuel = act_is take_moving k env (plain W fuel) (taken W fuel) (map (value W.strings) W.moving.items) tt refl

abbrev calls_over : (h e : ℕ) → Row
calls_over h e = act (push_frame over_handler) (λ _ room. cond room (then (give_with (read h ∷ []) e) (stop asks)) gives_up)

pub handler_called : (old new : Memory) (handler : Kept) (called : List Kept) (env : List Value) → AsksOver old new Handler called true → called ≡ handler ∷ old.moving.items
    → Leads (raised_to xpcall_top (length env)) (env ++ value old.strings handler ∷ []) old new asks
handler_called old new handler called env a e =
    let f = value old.strings in
    let E = env ++ f handler ∷ [] in
    let vs = map f old.moving.items in
    let same : nth (E ++ vs) (length env) ∷ drop (length E) (E ++ vs) ≡ map f called =
    ap₂ (λ (v : Value) (l : List Value). v ∷ l) (nth_at env (f handler) vs) (drop_front E vs) ∙ sym (ap (map f) e) in
    record {
      is = λ fuel.
          takes_first old (λ e _. calls_over (length env) e) E fuel
          ∙ a.there refl over_handler (E ++ vs) (read (length env) ∷ []) (length E) gives_up refl same fuel;
    }

gives_up_taken : (W : Memory) (env : List Value) (fuel : ℕ) → run gives_up env (taken W fuel) ≡ run gives_up env (plain W fuel)
gives_up_taken W env fuel = refl

pub handler_without_room : (old full new : Memory) (handler : Kept) (called : List Kept) (env : List Value) (ending : Ending) → AsksOver old full Handler called false
    → ((env : List Value) → Leads gives_up env full new ending) → Leads (raised_to xpcall_top (length env)) (env ++ value old.strings handler ∷ []) old new ending
handler_without_room old full new handler called env ending a g =
    let E = env ++ value old.strings handler ∷ [] in
    let vs = map (value old.strings) old.moving.items in
    record {
      is = λ fuel.
          takes_first old (λ e _. calls_over (length env) e) E fuel
          ∙ a.full refl over_handler (E ++ vs) (then (give_with (read (length env) ∷ []) (length E)) (stop asks)) gives_up refl fuel
          ∙ gives_up_taken full (E ++ vs) fuel
          ∙ (g (E ++ vs)).is fuel;
    }

-- failures

pub gives_failure : (named new : Memory) (failure : List Kept) (env : List Value) → IsFailure (value named.strings) failure
    → (args_of env (error_in_handler ∷ []) ≡ map (value named.strings) failure → Makes named new (give (error_in_handler ∷ [])) env [] tt) → Leads gives_up env named new unwinding
gives_failure named new failure env is g = first (λ _ _. stop unwinding) (g (sym is)) ended

pub answers_handler : (old took left new : Memory) (error : List Kept) (env : List Value) → ((env : List Value) → Makes old took take_moving env (map (value old.strings) old.moving.items) tt)
    → ((env : List Value) → Makes took left pop_frame env [] tt) → error ≡ first_of old.moving.items ∷ [] → left.strings ≡ old.strings
    → ((E : List Value) (n : ℕ) → args_of E (read n ∷ []) ≡ map (value left.strings) error → Makes left new (give (read n ∷ [])) E [] tt)
    → Leads (handed_to handler_top) env old new unwinding
answers_handler old took left new error env t p e s g =
    let f = value old.strings in
    let vs = map f old.moving.items in
    let E = env ++ vs ++ [] in
    let same : nth E (length env) ∷ [] ≡ map (value left.strings) error =
    ap (λ v. v ∷ []) (first_read f env old.moving.items refl) ∙ sym (ap (map f) e) ∙ ap (λ texts. map (value texts) error) (sym s) in
    first (λ v _. then pop_frame (then (give (read v ∷ [])) (stop unwinding))) (t env)
    (first (λ _ _. then (give (read (length env) ∷ [])) (stop unwinding)) (p (env ++ vs))
    (first (λ _ _. stop unwinding) (g E (length env) same) ended))
