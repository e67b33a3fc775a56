-- Texts that are raised as errors, and calls over a frame that is pushed for them.
use Rattle.std.proofs.Common.{ℕ, suc, ◌+◌, ◌≤◌, ◌≡◌, List, [], ◌∷◌, ◌++◌, length, Some, None, refl, sym, ap, subst, ◌∙◌, arith, Bool, true, false, cond}
use Rattle.std.specs.Prelude.{slice_get, nat_le, drop}
use Rattle.std.proofs.lemmas.Bool.{cond-true, cond-false}
use Rattle.std.proofs.lemmas.Bool.Decides.{nat_tests}
use Rattle.std.proofs.lemmas.List.{length-reverse}
use Rattle.int_core.specs.Value.{Value, nth}
use Rattle.int_core.specs.Limits.{greatest_depth, limited, stack_overflow}
use Rattle.list_laws.specs.Held.{Held}
use Rattle.list_laws.proofs.Items.{append_nil}
use Rattle.machine_core.specs.World as machine
use Rattle.machine_core.specs.World.{Frame, pcall, xpcall, Stack, push, put_frames}
use Rattle.machine_core.specs.Text.{read}
use Rattle.machine_core.specs.Moves.{made, Over, over_pcall, over_xpcall, frame_over, give_with, has_room, blamed, asks, raised, Outcome, trapped, ends, stop, run}
use Rattle.machine_core.specs.FrameRows.{then, blames, over_frame}
use Rattle.lua_meaning.specs.World as talk
use Rattle.lua_meaning.specs.World.{protected, handled_by, on_frames, raises_error, raises_text}
use Rattle.lua_meaning.specs.Calls.{calls_value, calls_over}
use Rattle.code_means.specs.Runs.{codes_run}
use Rattle.machine_means.specs.Joined.{TalkFrame, TalkWorld, Pair, under, Below, Stacks, Joined}
use Rattle.machine_means.specs.Stands.{refused_under, Stands, error_raised, call_asked, ComesTo, AtRest, TextsRaised, ProtectedCalls}
use Rattle.machine_means.proofs.Handing.{moved, told_now}
use Rattle.machine_means.proofs.Loosened.{loosened}
use Rattle.machine_means.proofs.Frames.{own_stack, pushed}
use Rattle.machine_means.proofs.Places.{where_same}
use Rattle.machine_means.proofs.AtRest.{stack_now, only}

pub talks_length : (lax : Bool) (fs : List machine.Function) (vs : List Value) (ms : List Frame) (ts : List TalkFrame) (hs : List Held) → Below lax fs vs ms ts hs → length ts ≡ length ms
talks_length lax fs vs [] [] [] k = refl
talks_length lax fs vs (m ∷ ms) (t ∷ ts) (h ∷ hs) k = ap suc (talks_length (under m) fs vs ms ts hs k.1)
talks_length lax fs vs _ _ _ k = absurd k

pub room_below : (n d : ℕ) → nat_le (n + 1) d ≡ true → suc n ≤ d
room_below n d e = grind (arith, nat_tests)

module _ (primitives : ℕ) (M : machine.World) (T : TalkWorld) (lax : Bool) (k : AtRest primitives lax M T) where
  abbrev s : Stack
  s = record { coroutine = k.waits.coroutine; frames = k.waits.frames }

  own : (hs : List Held) × (slice_get k.joined.held k.waits.coroutine ≡ Some hs) × Stacks lax M.functions T.cells k.waits.frames T.frames hs
  own = own_stack M T k.waits.coroutine k.waits.frames lax k.joined k.waits.running (only primitives M T lax k)

  pub blamed_same : (text : List ℕ) → blamed M text ≡ talk.blamed T text
  blamed_same text =
      let o = own in
      ap (λ w. limited (w ++ text)) (where_same M T k.joined.functions lax s o.0 (stack_now primitives M T lax k) o.2 0)

  same_depth : length T.frames ≡ length k.waits.frames
  same_depth =
      let o = own in
      talks_length lax M.functions T.cells o.2.ms T.frames o.0 o.2.below ∙ sym (ap (λ l. length l) o.2.listed ∙ length-reverse o.2.ms)

  -- both have room for one more, or neither
  pub same_room : (b : Bool) → nat_le (length k.waits.frames + 1) greatest_depth ≡ b → talk.has_room T ≡ b
  same_room b e = ap (λ n. nat_le (n + 1) greatest_depth) same_depth ∙ e

module _ (primitives : ℕ) (M : machine.World) (T : TalkWorld) (k : AtRest primitives false M T) where
  pub raising : (text : List ℕ) (env mv : List Value) → ComesTo (run (blames text) env (record M { moving = mv })) (raises_text T text)
  raising text env mv =
      let W : machine.World = record M { moving = blamed M text ∷ [] } in
      let U : TalkWorld = raises_text T text in
      record {
        ending = raised;
        world = W;
        is = refl;
        stands = error_raised W U (talk.blamed T text) (ap (λ e. e ∷ []) (blamed_same primitives M T false k text)) refl
            (told_now true W T (raises_error (talk.blamed T text)) (moved true M T (blamed M text ∷ []) (loosened true M T k.joined)));
      }

  abbrev N : machine.World
  N = record M { moving = [] }

  abbrev stack : Stack
  stack = record { coroutine = k.waits.coroutine; frames = k.waits.frames }

  -- what a row does behind a frame that it pushes
  pushes : (over : Over) (r : Rattle.machine_core.specs.Moves.Row) (env : List Value) → nat_le (length k.waits.frames + 1) greatest_depth ≡ true → run (over_frame over r) env N ≡ run r (env ++ []) (push N stack (frame_over over env))
  pushes over r env b =
      ap (λ o. elim (cond (elim o as (λ _. Bool) [ None ↦ false | Some s ↦ nat_le (length s.frames + 1) greatest_depth ]) (made {A = Bool} (elim o as (λ _. machine.World) [ None ↦ N | Some s ↦ push N s (frame_over over env) ]) [] true) (made N [] false)) as (λ _. Outcome) [ None ↦ trapped | Some d ↦ run (cond d.told r (blames stack_overflow)) (env ++ d.values) d.world ]) (stack_now primitives M T false k)
      ∙ ap (λ b. elim (cond b (made {A = Bool} (push N stack (frame_over over env)) [] true) (made N [] false)) as (λ _. Outcome) [ None ↦ trapped | Some d ↦ run (cond d.told r (blames stack_overflow)) (env ++ d.values) d.world ]) b

  refuses : (over : Over) (r : Rattle.machine_core.specs.Moves.Row) (env : List Value) → nat_le (length k.waits.frames + 1) greatest_depth ≡ false → run (over_frame over r) env N ≡ run (blames stack_overflow) (env ++ []) N
  refuses over r env b =
      ap (λ o. elim (cond (elim o as (λ _. Bool) [ None ↦ false | Some s ↦ nat_le (length s.frames + 1) greatest_depth ]) (made {A = Bool} (elim o as (λ _. machine.World) [ None ↦ N | Some s ↦ push N s (frame_over over env) ]) [] true) (made N [] false)) as (λ _. Outcome) [ None ↦ trapped | Some d ↦ run (cond d.told r (blames stack_overflow)) (env ++ d.values) d.world ]) (stack_now primitives M T false k)
      ∙ ap (λ b. elim (cond b (made {A = Bool} (push N stack (frame_over over env)) [] true) (made N [] false)) as (λ _. Outcome) [ None ↦ trapped | Some d ↦ run (cond d.told r (blames stack_overflow)) (env ++ d.values) d.world ]) b

  module _ (over : Over) (m : Frame) (t : TalkFrame) (slot : ℕ) (frame_is : frame_over over M.moving ≡ m) (pair : Pair false M.functions T.cells m t []) (plain : under m ≡ false)
      (refused : refused_under (t ∷ T.frames) ≡ (λ why V. raises_text V why)) where
    abbrev f : Value
    f = nth M.moving 0

    abbrev arguments : List Value
    arguments = drop slot M.moving

    abbrev row : Rattle.machine_core.specs.Moves.Row
    row = then (give_with (read 0 ∷ []) slot) (stop asks)

    abbrev V : machine.World
    V = record (push M stack m) { moving = nth M.moving 0 ∷ drop slot M.moving }

    abbrev U : TalkWorld
    U = on_frames T (t ∷ T.frames)

    given : (env : List Value) → env ≡ M.moving → run row env (push N stack m) ≡ ends asks V
    unfolding push put_frames
    given env e = ap (λ l. ends asks (record (push M stack m) { moving = nth l 0 ∷ drop slot l })) e

    machine_asks : nat_le (length k.waits.frames + 1) greatest_depth ≡ true → run (over_frame over row) M.moving N ≡ ends asks V
    machine_asks b =
        let first : run (over_frame over row) M.moving N ≡ run row (M.moving ++ []) (push N stack (frame_over over M.moving)) = pushes over row M.moving b in
        let second : run row (M.moving ++ []) (push N stack (frame_over over M.moving)) ≡ run row (M.moving ++ []) (push N stack m) = ap (λ m. run row (M.moving ++ []) (push N stack m)) frame_is in
        let third : run row (M.moving ++ []) (push N stack m) ≡ ends asks V = given (M.moving ++ []) (append_nil M.moving) in
        first ∙ second ∙ third

    talk_asks : nat_le (length k.waits.frames + 1) greatest_depth ≡ true → calls_over codes_run T t f arguments ≡ calls_value codes_run U f arguments (refused_under (t ∷ T.frames))
    talk_asks b =
        subst (λ refused. calls_over codes_run T t f arguments ≡ calls_value codes_run U f arguments refused) (sym refused)
        (cond-true (talk.has_room T) (calls_value codes_run U f arguments (λ why V. raises_text V why)) (raises_text T stack_overflow) (same_room primitives M T false k true b))

    talk_refuses : nat_le (length k.waits.frames + 1) greatest_depth ≡ false → calls_over codes_run T t f arguments ≡ raises_text T stack_overflow
    talk_refuses b = cond-false (talk.has_room T) (calls_value codes_run U f arguments (λ why V. raises_text V why)) (raises_text T stack_overflow) (same_room primitives M T false k false b)

    joined : nat_le (length k.waits.frames + 1) greatest_depth ≡ true → Joined false V U
    joined b =
        moved false (push M stack m) U (nth M.moving 0 ∷ drop slot M.moving)
        (pushed M T k.waits.coroutine k.waits.frames false k.joined k.waits.running (only primitives M T false k) m t pair plain (room_below (length k.waits.frames) greatest_depth b))

    stands_asked : nat_le (length k.waits.frames + 1) greatest_depth ≡ true → Stands asks V (calls_over codes_run T t f arguments)
    stands_asked b = call_asked V (calls_over codes_run T t f arguments) U f arguments refl (joined b) (talk_asks b)

    by_room : (b : Bool) → nat_le (length k.waits.frames + 1) greatest_depth ≡ b → ComesTo (run (over_frame over row) M.moving N) (calls_over codes_run T t f arguments)
    by_room true b = record { ending = asks; world = V; is = machine_asks b; stands = stands_asked b }
    by_room false b =
        subst (λ o. ComesTo o (calls_over codes_run T t f arguments)) (sym (refuses over row M.moving b))
        (subst (λ U. ComesTo (run (blames stack_overflow) (M.moving ++ []) N) U) (sym (talk_refuses b)) (raising stack_overflow (M.moving ++ []) []))

    pub over_comes : ComesTo (run (over_frame over (then (give_with (read 0 ∷ []) slot) (stop asks))) M.moving (record M { moving = [] })) (calls_over codes_run T t (nth M.moving 0) (drop slot M.moving))
    over_comes = by_room (nat_le (length k.waits.frames + 1) greatest_depth) refl

pub texts_raised : TextsRaised
texts_raised primitives M T k text = raising primitives M T k text [] M.moving

pub protected_calls : ProtectedCalls
protected_calls builds primitives M T k = (
  over_comes primitives M T k over_pcall pcall protected 1 refl refl refl refl,
  over_comes primitives M T k (over_xpcall (read 1)) (xpcall (nth M.moving 1)) (handled_by (nth M.moving 1)) 2 refl (refl, refl) refl refl,
)
