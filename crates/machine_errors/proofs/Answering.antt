-- A frame that is left with an answer.
use Rattle.std.proofs.Common.{◌≡◌, List, [], ◌∷◌, ◌++◌, length, refl, ap, sym, ◌∙◌, append-nil, true, false}
use Rattle.std.specs.Prelude.{drop, map}
use Rattle.int_core.specs.Value.{Value, known, nil, boolean, nth}
use Rattle.machine_core.specs.Text.{read, written, args_of}
use Rattle.machine_core.specs.FrameRows.{then, hand_over, handed_to, caught}
use Rattle.machine_core.specs.Moves.{Ending, give, give_with, pop_frame, pcall_top}
use Rattle.table_core.specs.declared.value.Value.{Value as Kept}
use Rattle.table_core.specs.declared.value.Value.TheVariants.{Nil, Bool as Boolean}
use Rattle.lua_heap.specs.declared.world.World.{World as Memory}
use Rattle.lua_heap.specs.Reading.{value}
use Rattle.move_laws.specs.Memory.{HasStack, Leads}
use Rattle.move_laws.proofs.Rows.{first}
use Rattle.machine_errors.specs.Protected.{AnswersWith, first_of}

-- what was read last stands behind all else
behind : (env vs : List Value) → drop (length env) (env ++ vs ++ []) ≡ vs
behind [] vs = append-nil vs
behind (v ∷ env) vs = behind env vs

pub first_read : (f : Kept → Value) (env : List Value) (vs : List Kept) → f Nil ≡ known nil → nth (env ++ map f vs ++ []) (length env) ≡ f (first_of vs)
first_read f [] [] e = sym e
first_read f [] (v ∷ vs) e = refl
first_read f (x ∷ env) vs e = first_read f env vs e

pub answers_results : (old new : Memory) (answer : List Kept) (ending : Ending) (env : List Value) → AnswersWith old new answer ending → answer ≡ Boolean true ∷ old.moving.items
    → Leads (handed_to pcall_top) env old new ending
answers_results old new answer ending env a e =
    let f = value old.strings in
    let vs = map f old.moving.items in
    let E = env ++ vs ++ [] in
    let same : args_of E (written (boolean true) ∷ []) ++ drop (length env) E ≡ map f answer = ap (λ l. known (boolean true) ∷ l) (behind env vs) ∙ sym (ap (map f) e) in
    first (λ v _. then pop_frame (then (give_with (written (boolean true) ∷ []) v) hand_over)) (a.takes env)
    (first (λ _ _. then (give_with (written (boolean true) ∷ []) (length env)) hand_over) (a.leaves (env ++ vs))
    (first (λ _ _. hand_over) (a.gives_more E (written (boolean true) ∷ []) (length env) same) (a.hands (E ++ []))))

pub answers_error : (old new : Memory) (answer : List Kept) (ending : Ending) (env : List Value) → AnswersWith old new answer ending → answer ≡ Boolean false ∷ first_of old.moving.items ∷ []
    → Leads caught env old new ending
answers_error old new answer ending env a e =
    let f = value old.strings in
    let vs = map f old.moving.items in
    let E = env ++ vs ++ [] in
    let xs = written (boolean false) ∷ read (length env) ∷ [] in
    let same : args_of E xs ≡ map f answer = ap (λ v. known (boolean false) ∷ v ∷ []) (first_read f env old.moving.items refl) ∙ sym (ap (map f) e) in
    first (λ e _. then pop_frame (then (give (written (boolean false) ∷ read e ∷ [])) hand_over)) (a.takes env)
    (first (λ _ _. then (give xs) hand_over) (a.leaves (env ++ vs))
    (first (λ _ _. hand_over) (a.gives E xs same) (a.hands (E ++ []))))

pub still_runs : {W : Memory} (m : Memory) → W ≡ record m { moving = W.moving } → HasStack m → HasStack W
still_runs {W} m e h = Rattle.std.proofs.Common.subst HasStack (sym e) (record { stack = h.stack; is = h.is })
