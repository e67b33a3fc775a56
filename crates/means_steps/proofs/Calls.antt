-- A call in both worlds, where all frames wait for it: a function is entered, a primitive is called, nothing is left to pay with, or it is refused.
use Rattle.code_core.specs.Prototype.{Prototype}
use Rattle.lua_meaning.specs.Step.{Primitives}
use Rattle.std.proofs.Common.{ℕ, zero, suc, ◌+◌, ◌≡◌, List, [], ◌∷◌, ◌++◌, length, Option, Some, None, refl, sym, ap, subst, ◌∙◌, Bool, true, false, cond}
use Rattle.std.specs.Prelude.{slice_get, nat_le}
use Rattle.std.proofs.lemmas.List.{length-reverse}
use Rattle.int_core.specs.Value.{Value, known, object, primitive, a_function, bind, last}
use Rattle.int_core.specs.Operations.{Callee, callee, not_callable}
use Rattle.int_core.specs.Limits.{greatest_depth, stack_overflow}
use Rattle.machine_core.specs.World.{Function, Frame, in_progress, World, Stack, stack_of, push}
use Rattle.machine_core.specs.Moves as moves
use Rattle.machine_core.specs.Moves.{Made, made, CallShape, is_entered, is_primitive, not_paid, not_entered, enters_paid, new_frame, has_room, push_all, go, spent, calls_primitive, Row, stop, Outcome, trapped, run}
use Rattle.machine_core.specs.Talk.{talk_start}
use Rattle.lua_meaning.specs.World as talk
use Rattle.lua_meaning.specs.World.{talking, talks, now_in}
use Rattle.lua_meaning.specs.Calls as calls
use Rattle.lua_meaning.specs.Calls.{pays_for}
use Rattle.code_means.specs.Runs.{codes_run}
use Rattle.machine_sound.proofs.Frames.{stack_is}
use Rattle.machine_means.specs.Joined.{TalkWorld, Dressed, Joined}
use Rattle.machine_means.specs.Stands.{primitive_called, code_runs}
use Rattle.machine_means.proofs.Pending.{both_first}
use Rattle.machine_means.proofs.Switches.{OnlyRuns}
use Rattle.machine_means.proofs.Handing.{told_now}
use Rattle.machine_means.proofs.Frames.{own_stack}
use Rattle.machine_means.proofs.Raising.{talks_length}
use Rattle.machine_means.proofs.Entering.{paid, room_over}
use Rattle.machine_means.proofs.Entered.{entered, talks_so, works}
use Rattle.means_steps.specs.Steps.{Leads}

-- `k` is how the machine's row goes on, and `refused` how the other world does where it cannot be called
module _ (rows : Primitives Prototype) (shown : List ℕ) (P : World) (U : TalkWorld) (said : U.printed ≡ shown) (co : ℕ) (frames : List Frame) (joined : Joined false P U) (at_end : last P.chain ≡ Some co) (runs : slice_get P.coroutines co ≡ Some (in_progress frames)) (only : OnlyRuns P.coroutines co)
    (env : List Value) (k : CallShape → Row) (refused : List ℕ → TalkWorld → TalkWorld) (goes : k is_entered ≡ stop go) (calls_so : (n : ℕ) → k (is_primitive n) ≡ stop (calls_primitive n)) (spends : k not_paid ≡ stop spent)
    (cramped : nat_le (length frames + 1) greatest_depth ≡ false → (fuel : ℕ) → Leads rows shown (refused stack_overflow (record U { fuel = fuel })) (run (k (not_entered stack_overflow)) (env ++ []) (record P { fuel = fuel }))) where
  abbrev s : Stack
  s = record { coroutine = co; frames = frames }

  abbrev Q : ℕ → World
  Q fuel = record P { fuel = fuel }

  abbrev V : ℕ → TalkWorld
  V fuel = record U { fuel = fuel }

  abbrev pub call_out : Option (Made CallShape) → Outcome
  call_out m = elim m as (λ _. Outcome) [ None ↦ trapped | Some d ↦ run (k d.told) (env ++ d.values) d.world ]

  same_depth : length U.frames ≡ length frames
  same_depth =
      let o = own_stack P U co frames false joined runs only in
      talks_length false P.functions U.cells o.2.ms U.frames o.0 o.2.below ∙ sym (ap (λ l. length l) o.2.listed ∙ length-reverse o.2.ms)

  module _ (n : ℕ) (f : Function) (there : slice_get P.functions n ≡ Some f) (args : List Value) (fuel : ℕ) where
    abbrev by_stack : Option Stack → Option (Made CallShape)
    by_stack o = cond (elim o as (λ _. Bool) [ None ↦ false | Some s ↦ nat_le (length s.frames + 1) greatest_depth ]) (made {A = CallShape} (elim o as (λ _. World) [ None ↦ Q fuel | Some s ↦ push (Q fuel) s (new_frame n f.code args) ]) [] is_entered) (made (Q fuel) [] (not_entered stack_overflow))

    abbrev by_room : Bool → Option (Made CallShape)
    by_room b = cond b (made {A = CallShape} (push (Q fuel) (record { coroutine = co; frames = frames }) (new_frame n f.code args)) [] is_entered) (made (Q fuel) [] (not_entered stack_overflow))

    looked : call_out (by_stack (stack_of (Q fuel))) ≡ call_out (by_room (nat_le (length frames + 1) greatest_depth))
    looked = ap (λ o. call_out (by_stack o)) (stack_is (Q fuel) co frames at_end runs)

    abbrev talk_by : Bool → TalkWorld
    talk_by b = cond b (record U { fuel = fuel; frames = talking n (talk_start f.code args) ∷ U.frames; now = talks }) (refused stack_overflow (V fuel))

    says : calls.enters_function codes_run (V fuel) n (slice_get U.functions n) args refused ≡ talk_by (nat_le (length frames + 1) greatest_depth)
    says =
        let g = both_first Dressed f (slice_get P.functions n) (slice_get U.functions n) there (joined.functions n) in
        ap (λ o. calls.enters_function codes_run (V fuel) n o args refused) g.1
        ∙ ap (λ b. cond b (record U { fuel = fuel; frames = talking n (talk_start g.0.made_of args) ∷ U.frames; now = talks }) (refused stack_overflow (V fuel))) (ap (λ d. nat_le (d + 1) greatest_depth) same_depth)
        ∙ ap (λ p. cond (nat_le (length frames + 1) greatest_depth) (record U { fuel = fuel; frames = talking n (talk_start p args) ∷ U.frames; now = talks }) (refused stack_overflow (V fuel))) g.2.code

    by_test : (b : Bool) → nat_le (length frames + 1) greatest_depth ≡ b → Leads rows shown (talk_by b) (call_out (by_room b))
    by_test true e =
        let W : World = entered P U co frames joined runs only n f there args fuel (room_over (length frames) greatest_depth e) P.moving in
        let T : TalkWorld = talks_so P U co frames joined runs only n f there args fuel (room_over (length frames) greatest_depth e) P.moving in
        subst (λ r. Leads rows shown (talk_by true) (run r (env ++ []) W)) (sym goes) (0, code_runs W T (works P U co frames joined runs only n f there args fuel (room_over (length frames) greatest_depth e) P.moving))
    by_test false e = cramped e fuel

    function_leads : Leads rows shown (calls.enters_function codes_run (V fuel) n (slice_get U.functions n) args refused) (call_out (by_stack (stack_of (Q fuel))))
    function_leads =
        subst (λ T. Leads rows shown T (call_out (by_stack (stack_of (Q fuel))))) (sym says)
        (subst (λ o. Leads rows shown (talk_by (nat_le (length frames + 1) greatest_depth)) o) (sym looked) (by_test (nat_le (length frames + 1) greatest_depth) refl))

  abbrev by_function : ℕ → List Value → ℕ → Option Function → Option (Made CallShape)
  by_function n args fuel o = bind o (λ f. cond (has_room (Q fuel) 1) (made (push_all (Q fuel) (new_frame n f.code args ∷ [])) [] is_entered) (made (Q fuel) [] (not_entered stack_overflow)))

  by_number : (n : ℕ) (args : List Value) (fuel : ℕ) (o : Option Function) → slice_get P.functions n ≡ o → Leads rows shown (calls.enters_function codes_run (V fuel) n (slice_get U.functions n) args refused) (call_out (by_function n args fuel (slice_get P.functions n)))
  by_number n args fuel None e = subst (λ o. Leads rows shown (calls.enters_function codes_run (V fuel) n (slice_get U.functions n) args refused) (call_out (by_function n args fuel o))) (sym e) tt
  by_number n args fuel (Some f) e = subst (λ o. Leads rows shown (calls.enters_function codes_run (V fuel) n (slice_get U.functions n) args refused) (call_out (by_function n args fuel o))) (sym e) (function_leads n f e args fuel)

  pub enter_leads : (fuel : ℕ) (f : Value) (args : List Value) → Leads rows shown (calls.enters codes_run (record U { fuel = fuel }) f args refused) (elim (moves.enters (record P { fuel = fuel }) f args) as (λ _. Outcome) [ None ↦ trapped | Some d ↦ run (k d.told) (env ++ d.values) d.world ])
  enter_leads fuel (known (primitive n)) args =
      subst (λ r. Leads rows shown (now_in (V fuel) (talk.calls_primitive n args)) (run r (env ++ []) (record (Q fuel) { moving = args }))) (sym (calls_so n))
      (0, primitive_called n (record (Q fuel) { moving = args }) (now_in (V fuel) (talk.calls_primitive n args)) refl (told_now false (record (Q fuel) { moving = args }) (V fuel) (talk.calls_primitive n args) (paid P U false fuel args joined)))
  enter_leads fuel (object a_function n) args = by_number n args fuel (slice_get P.functions n) refl
  enter_leads fuel _ args = tt

  -- W is the world from which the machine pays
  pub called_leads : ((text : List ℕ) → Leads rows shown (refused text U) (run (k (not_entered text)) (env ++ []) P)) → (W : World) (fuel : ℕ) → W.fuel ≡ fuel → U.fuel ≡ fuel → (c : Callee)
      → Leads rows shown (pays_for codes_run U c refused) (elim (enters_paid W P c) as (λ _. Outcome) [ None ↦ trapped | Some d ↦ run (k d.told) (env ++ d.values) d.world ])
  called_leads refuses W fuel e e' (not_callable text) = refuses text
  called_leads refuses W zero e e' (callee f args) =
      subst (λ m. Leads rows shown (calls.pays_with codes_run m U f args refused) (call_out (elim W.fuel [ zero ↦ made W [] not_paid | suc fuel ↦ moves.enters (record P { fuel = fuel }) f args ]))) (sym e')
      (subst (λ m. Leads rows shown (now_in U (talk.ends talk.spent)) (call_out (elim m [ zero ↦ made W [] not_paid | suc fuel ↦ moves.enters (record P { fuel = fuel }) f args ]))) (sym e)
      (subst (λ r. Leads rows shown (now_in U (talk.ends talk.spent)) (run r (env ++ []) W)) (sym spends) (0, (refl, said))))
  called_leads refuses W (suc fuel) e e' (callee f args) =
      subst (λ m. Leads rows shown (calls.pays_with codes_run m U f args refused) (call_out (elim W.fuel [ zero ↦ made W [] not_paid | suc fuel ↦ moves.enters (record P { fuel = fuel }) f args ]))) (sym e')
      (subst (λ m. Leads rows shown (calls.enters codes_run (V fuel) f args refused) (call_out (elim m [ zero ↦ made W [] not_paid | suc fuel ↦ moves.enters (record P { fuel = fuel }) f args ]))) (sym e)
      (enter_leads fuel f args))
