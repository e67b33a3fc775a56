-- What a call of a value in memory comes to.
use Rattle.std.proofs.Common.{◌≡◌, ℕ, zero, suc, ◌-◌, List, [], refl, ap, sym, ◌∙◌, arith, Bool, true, false}
use Rattle.std.specs.Prelude.{cond}
use Rattle.int_core.specs.Heap.{Heap}
use Rattle.int_core.specs.Operations.{Callee, callee, not_callable, callee_of, greatest_chain, handler_in, of_call, is_function}
use Rattle.int_core.specs.Value.{Value, is_nil}
use Rattle.machine_core.specs.World.{World}
use Rattle.machine_core.specs.Moves.{CallShape, not_paid, enters_paid, called, made}
use Rattle.lua_heap.specs.declared.world.World.{World as Memory}
use Rattle.lua_heap.specs.Plain.{plain}
use Rattle.machine_calls.specs.Calling.{CanCall, CanEnter}
use Rattle.machine_calls.specs.Entering.{EntersSo}

-- what is reached is a function

same_callee : {f g : Value} {vs ws : List Value} → callee f vs ≡ callee g ws → f ≡ g
same_callee {f} e = ap (λ c. elim c as (λ _. Value) [ callee v _ ↦ v | not_callable _ ↦ f ]) e

reached_here : (b : Bool) (f : Value) (vs : List Value) (rest : Callee) (g : Value) (ws : List Value) → is_function f ≡ b → (rest ≡ callee g ws → is_function g ≡ true)
    → cond b (callee f vs) rest ≡ callee g ws → is_function g ≡ true
reached_here true f vs rest g ws s k e = ap is_function (sym (same_callee e)) ∙ s
reached_here false f vs rest g ws s k e = k e

reached_behind : (b : Bool) (text : List ℕ) (rest : Callee) (g : Value) (ws : List Value) → (rest ≡ callee g ws → is_function g ≡ true)
    → cond b (not_callable text) rest ≡ callee g ws → is_function g ≡ true
reached_behind true text rest g ws k e = absurd (cc)
reached_behind false text rest g ws k e = k e

nothing_reached : (text : List ℕ) (g : Value) (ws : List Value) → not_callable text ≡ callee g ws → is_function g ≡ true
nothing_reached text g ws e = absurd (cc)

pub reached_is_function : (n : ℕ) (H : Heap) (f : Value) (vs : List Value) (g : Value) (ws : List Value) → callee_of n H f vs ≡ callee g ws → is_function g ≡ true
reached_is_function zero H f vs g ws e = reached_here (is_function f) f vs _ g ws refl (reached_behind (is_nil (handler_in H of_call f)) _ _ g ws (nothing_reached _ g ws)) e
reached_is_function (suc n) H f vs g ws e =
    reached_here (is_function f) f vs _ g ws refl (reached_behind (is_nil (handler_in H of_call f)) _ _ g ws (reached_is_function n H (handler_in H of_call f) _ g ws)) e

pub can_enter : (W : Memory) (f g : Value) (vs ws : List Value) → CanCall W f → callee_of greatest_chain (plain W 0).heap f vs ≡ callee g ws → CanEnter W g
can_enter W f g vs ws k e = record {
  is = reached_is_function greatest_chain (plain W 0).heap f vs g ws e;
  there = λ n q. k.there n vs ws (e ∙ ap (λ g. callee g ws) q);
}

-- the call

pub called_is : (V : World) (f g : Value) (vs ws : List Value) (reached : Callee) → f ≡ g → vs ≡ ws → callee_of greatest_chain V.heap g ws ≡ reached → called V V f vs ≡ enters_paid V V reached
called_is V f g vs ws reached p q e = ap (λ f. called V V f vs) p ∙ ap (λ vs. called V V g vs) q ∙ ap (enters_paid V V) e

pub spent : (W : Memory) (n : ℕ) (g : Value) (ws : List Value) → n ≡ 0 → enters_paid (plain W n) (plain W n) (callee g ws) ≡ made (plain W n) [] not_paid
spent W zero g ws e = refl
spent W (suc n) g ws e = absurd (cc)

pub paid : (old new : Memory) (n : ℕ) (g : Value) (ws : List Value) (told : CallShape) → (n ≡ 0 → ⊥) → EntersSo old new g ws told
    → enters_paid (plain old n) (plain old n) (callee g ws) ≡ made (plain new (n - 1)) [] told
paid old new zero g ws told e k = absurd (e refl)
paid old new (suc n) g ws told e k = let m : n ≡ suc n - 1 = omega arith in k.is n ∙ ap (λ m. made (plain new m) [] told) m
