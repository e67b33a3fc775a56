-- Rows that take what moves, make a move and give something else on.
use Rattle.std.proofs.Common.{◌≡◌, ℕ, List, [], ◌∷◌, ◌++◌, Option, Some, None, refl, ap, sym, subst, ◌∙◌, append-nil, true, false}
use Rattle.std.specs.Prelude.{drop, map}
use Rattle.int_core.specs.Value.{Value, known, boolean, bind, last, nth}
use Rattle.machine_core.specs.World.{Stack, stack_of}
use Rattle.machine_core.specs.Text.{read, written, args_of}
use Rattle.machine_core.specs.FrameRows.{then, handed, hand_over}
use Rattle.machine_core.specs.Moves.{Move, Told, Made, made, TopShape, top_shape, take_moving, Ending, Row, act, Outcome, trapped, run}
use Rattle.table_core.specs.declared.value.Value.{Value as Kept}
use Rattle.table_core.specs.declared.value.Value.TheVariants.{Bool as Boolean}
use Rattle.lua_heap.specs.declared.world.World.{World as Memory}
use Rattle.lua_heap.specs.Reading.{value}
use Rattle.lua_heap.specs.Plain.{plain}
use Rattle.machine_coroutines.specs.Ends.{IsPending}
use Rattle.move_laws.specs.Memory.{HasStack, IsSafe, Leads, Makes}
use Rattle.move_laws.proofs.Rows.{first, safe_after}

-- what moves is handed over where a coroutine runs
pub hands_stack : {W : Memory} {env : List Value} → IsSafe hand_over env W → HasStack W
hands_stack {W} {env} s = by (stack_of (plain W 0)) refl
  where
    by : (o : Option Stack) → stack_of (plain W 0) ≡ o → HasStack W
    by (Some k) e = record { stack = k; is = e }
    by None e = absurd (s.never 0 (ap (λ o. elim (bind {B = Made TopShape} (bind o (λ (k : Stack). Some (top_shape (plain W 0) (last k.frames)))) (λ top. made (plain W 0) [] top)) as (λ _. Outcome) [
      | None ↦ trapped
      | Some d ↦ run (handed d.told) (env ++ d.values) d.world
    ]) e))

-- taking what moves stops nobody
pub running_on : {old new : Memory} → new ≡ record old { moving = new.moving } → HasStack old → HasStack new
running_on {old} {new} e h = subst HasStack (sym e) (record { stack = h.stack; is = h.is })

module _ {old taken ended given : Memory} {vs : List Value} {m g : Move} {t : Told m} {u : Told g} (k : ℕ → Unit {0} → Row) (same : k 0 tt ≡ then m (then g hand_over))
    (takes : Makes old taken take_moving [] vs tt) (moves : Makes taken ended m vs [] t) (gives : Makes ended given g (vs ++ []) [] u) where
  pub still_runs : IsSafe (act take_moving k) [] old → HasStack given
  still_runs s =
      let a = subst (λ r. IsSafe r vs taken) same (safe_after k s takes) in
      hands_stack (safe_after (λ _ _. hand_over) (safe_after (λ _ _. then g hand_over) a moves) gives)

  pub handed_on : {ending : Ending} → Leads hand_over (vs ++ [] ++ []) given given ending → Leads (act take_moving k) [] old given ending
  handed_on {ending} h = first k takes (subst (λ r. Leads r vs taken given ending) (sym same) (first (λ _ _. then g hand_over) moves (first (λ _ _. hand_over) gives h)))

-- true and what moved
pub answer_true : (f : Kept → Value) (moving taken answer : List Kept) → f (Boolean true) ≡ known (boolean true) → taken ≡ moving → answer ≡ Boolean true ∷ moving
    → args_of (map f taken ++ []) (written (boolean true) ∷ []) ++ drop 0 (map f taken ++ []) ≡ map f answer
answer_true f moving taken answer t e a =
    ap (λ l. known (boolean true) ∷ l) (append-nil (map f taken) ∙ ap (map f) e) ∙ ap (λ v. v ∷ map f moving) (sym t) ∙ sym (ap (map f) a)

-- what is answered, where texts have stayed
pub true_given : (old new : List (List ℕ)) (moving taken answer : List Kept) → taken ≡ moving → answer ≡ Boolean true ∷ moving → old ≡ new
    → args_of (map (value old) taken ++ []) (written (boolean true) ∷ []) ++ drop 0 (map (value old) taken ++ []) ≡ map (value new) answer
true_given old new moving taken answer t a e = answer_true (value old) moving taken answer refl t a ∙ ap (λ texts. map (value texts) answer) e

pub true_in_front : (old new : List (List ℕ)) (moving taken answer : List Kept) → taken ≡ moving → answer ≡ Boolean true ∷ moving → old ≡ new
    → args_of (map (value old) taken) (written (boolean true) ∷ []) ++ drop 0 (map (value old) taken) ≡ map (value new) answer
true_in_front old new moving taken answer t a e =
    ap (λ l. args_of (map (value old) taken) (written (boolean true) ∷ []) ++ map (value old) l) t ∙ sym (ap (map (value old)) a) ∙ ap (λ texts. map (value texts) answer) e

pub error_given : (old new : List (List ℕ)) (taken answer : List Kept) (v : Kept) → nth (map (value old) taken) 0 ≡ value old v → answer ≡ Boolean false ∷ v ∷ [] → old ≡ new
    → args_of (map (value old) taken ++ []) (written (boolean false) ∷ read 0 ∷ []) ≡ map (value new) answer
error_given old new taken answer v error a e =
    ap (λ vs. known (boolean false) ∷ nth vs 0 ∷ []) (append-nil (map (value old) taken)) ∙ ap (λ v. known (boolean false) ∷ v ∷ []) error ∙ sym (ap (map (value old)) a) ∙ ap (λ texts. map (value texts) answer) e

-- the error that moved
pub error_read : (f : Kept → Value) (moving taken : List Kept) (v : Kept) → taken ≡ moving → f v ≡ nth (map f moving) 0 → nth (map f taken) 0 ≡ f v
error_read f moving taken v e q = ap (λ l. nth (map f l) 0) e ∙ sym q

pub error_moved : (texts : List (List ℕ)) (moving seen taken : List Kept) (v : Kept) → taken ≡ moving → value texts v ≡ nth (map (value texts) seen) 0 → seen ≡ moving → nth (map (value texts) taken) 0 ≡ value texts v
error_moved texts moving seen taken v t e s = error_read (value texts) moving taken v t (e ∙ ap (λ l. nth (map (value texts) l) 0) s)

pub pending_on : {old new : Memory} {vs : List Kept} → new ≡ record old { moving = new.moving } → IsPending old vs → IsPending new vs
pending_on {old} {new} {vs} e p = subst (λ W. IsPending W vs) (sym e) (λ co s r. p co s (record { chain = r.chain; there = r.there }))
