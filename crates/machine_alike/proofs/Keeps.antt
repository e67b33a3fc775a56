-- Any number of steps keep agreement.
use Rattle.std.proofs.Common.{ℕ, zero, suc, ◌-◌, ◌≡◌, List, [], ◌∷◌, length, Option, Some, None, refl, subst, ap, ◌∙◌}
use Rattle.std.specs.Prelude.{slice_get}
use Rattle.code_core.specs.declared.opcode.Opcode.{Opcode}
use Rattle.code_core.specs.declared.instruction.Instruction.{Instruction}
use Rattle.code_core.specs.Instruction.{opcode_of}
use Rattle.code_core.specs.Prototype.{Prototype}
use Rattle.code_core.specs.Check.{at}
use Rattle.int_core.specs.Value.{Value, nth, bind, last}
use Rattle.machine_core.specs.World.{Function, Wait, leaving, LuaFrame, Frame, lua, lua_frame, World, Stack, stack_of, Place, place_of}
use Rattle.machine_core.specs.Text.{Text, trap}
use Rattle.machine_core.specs.InstructionRows.{text_at, text_by, rest_by, rest_at}
use Rattle.machine_core.specs.Moves.{Row, act, see_top, Ending, go, returned, asks, calls_primitive, raised, unwinding, spent, main_returned, main_failed, main_yielded, Outcome, trapped, run}
use Rattle.machine_core.specs.FrameRows.{by_asking, expand, goes_on_by, asked_row, raised_row, unwound, handed_to}
use Rattle.machine_core.specs.MachineStep.{woken, lua_step, frame_step, top_step, from_world, step_by, step, and_then, steps}
use Rattle.machine_core.specs.RowFits.{MakesNone, OpensFirst}
use Rattle.machine_core.proofs.RowsOpen.{row_opens, rest_none}
use Rattle.machine_alike.specs.Agree.{Pairs, Each, SameValues, SameFunction, SameWait, same_running, same_for_concat, same_leaving, SameLuaFrame, SameFrame, same_lua, AgreeInTurn}
use Rattle.machine_alike.specs.Laws.{SameOutcome, both_trap, both_end, NoneMade, StepsKeep}
use Rattle.machine_alike.proofs.Pairwise.{zip_last, zip_length}
use Rattle.machine_alike.proofs.Same.{nth_same, SameStack, SamePlace, stack_same, function_at, extends_self}
use Rattle.machine_alike.proofs.Frames.{moving_agrees, put_top_same}
use Rattle.machine_alike.proofs.PlainRows.{none_rows}
use Rattle.machine_alike.proofs.Opened.{open_none, Ready}
use Rattle.machine_alike.proofs.Rows.{outcome_on, rows_keep, keeps_plain_by, first_keeps}

woken_same : (p : Pairs) (W X : World) (s t : Stack) (f g : LuaFrame) → AgreeInTurn p W X → SameStack p s t → SameLuaFrame p f g → AgreeInTurn p (woken W s f) (woken X t g)
unfolding woken
woken_same p W X s t f g a b h = moving_agrees p _ _ [] [] (put_top_same p W X s t _ _ a b (same_lua _ _ (record { function = h.function; wait = same_running; own = h.own }))) tt

-- what follows does not hang on the error with which a frame is being left
abbrev rest_of : Wait Value → Prototype → ℕ → Option Instruction → Text
rest_of wait code pc word = elim word [ None ↦ trap | Some i ↦ rest_by wait code pc i (opcode_of i) ]

left_alike : (code : Prototype) (pc : ℕ) (v w : Value) → rest_at (leaving v) code pc ≡ rest_at (leaving w) code pc
left_alike code pc v w = by (at code pc)
  where
    by_opcode : (i : Instruction) (o : Option Opcode) → rest_by (leaving v) code pc i o ≡ rest_by (leaving w) code pc i o
    by_opcode i None = refl
    by_opcode i (Some op) = refl

    by : (o : Option Instruction) → rest_of (leaving v) code pc o ≡ rest_of (leaving w) code pc o
    by None = refl
    by (Some i) = by_opcode i (opcode_of i)

-- what is left of an instruction makes no function
rest_plain : (wait : Wait Value) (code : Prototype) (pc : ℕ) → MakesNone (rest_at wait code pc)
rest_plain wait code pc = by (at code pc)
  where
    by_opcode : (i : Instruction) (o : Option Opcode) → MakesNone (rest_by wait code pc i o)
    by_opcode i None = tt
    by_opcode i (Some op) = rest_none wait code pc op i

    by : (o : Option Instruction) → MakesNone (rest_of wait code pc o)
    by None = tt
    by (Some i) = by_opcode i (opcode_of i)

-- the instruction's text opens what it shares
text_first : (code : Prototype) (pc : ℕ) → OpensFirst code [] (text_at code pc)
text_first code pc = by (at code pc)
  where
    by_opcode : (i : Instruction) (o : Option Opcode) → OpensFirst code [] (text_by code pc i o)
    by_opcode i None = tt
    by_opcode i (Some op) = row_opens code pc op i

    by : (o : Option Instruction) → OpensFirst code [] (elim o [ None ↦ trap | Some i ↦ text_by code pc i (opcode_of i) ])
    by None = tt
    by (Some i) = by_opcode i (opcode_of i)

place_is : (W : World) (s : Stack) (f : LuaFrame) (x : Function) → stack_of W ≡ Some s → last s.frames ≡ Some (lua f) → slice_get W.functions f.function ≡ Some x → place_of W ≡ Some (record { stack = s; number = length s.frames - 1; top = f; function = x })
place_is W s f x d e g =
    ap (λ o. bind o (λ s. bind (bind (last s.frames) lua_frame) (λ top. bind (slice_get W.functions top.function) (λ y. Some (record { stack = s; number = length s.frames - 1; top = top; function = y }))))) d
    ∙ ap (λ o. bind (bind o lua_frame) (λ top. bind (slice_get W.functions top.function) (λ y. Some (record { stack = s; number = length s.frames - 1; top = top; function = y })))) e
    ∙ ap (λ o. bind o (λ y. Some (record { stack = s; number = length s.frames - 1; top = f; function = y }))) g

module _ (p : Pairs) (W X : World) (s t : Stack) (f g : LuaFrame) (a : AgreeInTurn p W X) (b : SameStack p s t) (h : SameLuaFrame p f g) where
  -- the frame goes on with what has come
  goes_on : (code : Prototype) (v w : Wait Value) (vs ws : List Value) → rest_at v code f.own.pc ≡ rest_at w code f.own.pc → SameValues p vs ws
      → SameOutcome p (run (goes_on_by (rest_at v code f.own.pc)) vs (woken W s f)) (run (goes_on_by (rest_at w code g.own.pc)) ws (woken X t g))
  goes_on code v w vs ws e k =
      let r = keeps_plain_by by_asking (rest_at v code f.own.pc) (rest_plain v code f.own.pc) p vs ws (woken W s f) (woken X t g) k (woken_same p W X s t f g a b h) in
      subst (λ rest. SameOutcome p (run (goes_on_by (rest_at v code f.own.pc)) vs (woken W s f)) (run (goes_on_by rest) ws (woken X t g))) (e ∙ ap (rest_at w code) h.own.pc) r

  lua_by : (code : Prototype) → Ready p code [] W X → (v w : Wait Value) → SameWait p v w → SameOutcome p (lua_step W s f code v) (lua_step X t g code w)
  lua_by code ready v w same_running =
      subst (λ text. SameOutcome p (run (expand (text_at code f.own.pc)) [] W) (run (expand text) [] X)) (ap (text_at code) h.own.pc) (first_keeps (text_at code f.own.pc) code [] (text_first code f.own.pc) p [] [] W X tt a ready)
  lua_by code ready v w (same_for_concat (suc more)) = goes_on code v w (nth W.moving 0 ∷ []) (nth X.moving 0 ∷ []) refl (nth_same p W.moving X.moving 0 a.moving, tt)
  lua_by code ready v w (same_leaving x y k) = goes_on code v w (x ∷ []) (y ∷ []) (left_alike code f.own.pc x y) (k, tt)
  lua_by code ready v w _ = goes_on code v w W.moving X.moving refl a.moving

  lua_same : stack_of W ≡ Some s → stack_of X ≡ Some t → last s.frames ≡ Some (lua f) → last t.frames ≡ Some (lua g) → (x y : Function) → slice_get W.functions f.function ≡ Some x → slice_get X.functions g.function ≡ Some y → SameFunction p x y
      → SameOutcome p (lua_step W s f x.code f.wait) (lua_step X t g y.code g.wait)
  lua_same d d' e e' x y k k' l =
      let A : Place = record { stack = s; number = length s.frames - 1; top = f; function = x } in
      let B : Place = record { stack = t; number = length t.frames - 1; top = g; function = y } in
      let c : SamePlace p A B = record { stack = b; number = ap (λ n. n - 1) (zip_length (SameFrame p) s.frames t.frames b.frames); top = h; function = l } in
      let ready : Ready p x.code [] W X = record { a = A; b = B; left = place_is W s f x d e k; right = place_is X t g y d' e' k'; same = c; same_code = refl; opens = open_none A B W.cells X.cells } in
      subst (λ code. SameOutcome p (lua_step W s f x.code f.wait) (lua_step X t g code g.wait)) l.code (lua_by x.code ready f.wait g.wait h.wait)

  lua_frame_same : stack_of W ≡ Some s → stack_of X ≡ Some t → last s.frames ≡ Some (lua f) → last t.frames ≡ Some (lua g) → Each (SameOutcome p) (frame_step W s (lua f)) (frame_step X t (lua g))
  lua_frame_same d d' e e' = by (slice_get W.functions f.function) (slice_get X.functions g.function) refl refl (function_at p W X a f.function g.function h.function)
    where
      by : (o o' : Option Function) → slice_get W.functions f.function ≡ o → slice_get X.functions g.function ≡ o' → Each (SameFunction p) o o'
          → Each (SameOutcome p) (bind o (λ x. Some (lua_step W s f x.code f.wait))) (bind o' (λ y. Some (lua_step X t g y.code g.wait)))
      by None None k k' l = tt
      by None (Some y) k k' l = absurd l
      by (Some x) None k k' l = absurd l
      by (Some x) (Some y) k k' l = lua_same d d' e e' x y k k' l

frame_same : (p : Pairs) (W X : World) (s t : Stack) → AgreeInTurn p W X → SameStack p s t → stack_of W ≡ Some s → stack_of X ≡ Some t → (f g : Frame) → last s.frames ≡ Some f → last t.frames ≡ Some g → SameFrame p f g
    → Each (SameOutcome p) (frame_step W s f) (frame_step X t g)
frame_same p W X s t a b d d' f g e e' (same_lua x y h) = lua_frame_same p W X s t x y a b h d d' e e'
frame_same p W X s t a b d d' f g e e' _ = tt

stack_step_same : (p : Pairs) (W X : World) (s t : Stack) → AgreeInTurn p W X → SameStack p s t → stack_of W ≡ Some s → stack_of X ≡ Some t → Each (SameOutcome p) (bind (last s.frames) (frame_step W s)) (bind (last t.frames) (frame_step X t))
stack_step_same p W X s t a b d d' = by (last s.frames) (last t.frames) refl refl (zip_last (SameFrame p) s.frames t.frames b.frames)
  where
    by : (o o' : Option Frame) → last s.frames ≡ o → last t.frames ≡ o' → Each (SameFrame p) o o' → Each (SameOutcome p) (bind o (frame_step W s)) (bind o' (frame_step X t))
    by None None e e' k = tt
    by None (Some g) e e' k = absurd k
    by (Some f) None e e' k = absurd k
    by (Some f) (Some g) e e' k = frame_same p W X s t a b d d' f g e e' k

top_step_same : (p : Pairs) (W X : World) → AgreeInTurn p W X → Each (SameOutcome p) (top_step W) (top_step X)
top_step_same p W X a = by (stack_of W) (stack_of X) refl refl (stack_same p W X a)
  where
    by : (o o' : Option Stack) → stack_of W ≡ o → stack_of X ≡ o' → Each (SameStack p) o o' → Each (SameOutcome p) (bind o (λ s. bind (last s.frames) (frame_step W s))) (bind o' (λ s. bind (last s.frames) (frame_step X s)))
    by None None d d' k = tt
    by None (Some t) d d' k = absurd k
    by (Some s) None d d' k = absurd k
    by (Some s) (Some t) d d' k = stack_step_same p W X s t a k d d'

or_trapped : (p : Pairs) (o o' : Option Outcome) → Each (SameOutcome p) o o' → SameOutcome p (elim o [ None ↦ trapped | Some x ↦ x ]) (elim o' [ None ↦ trapped | Some x ↦ x ])
or_trapped p None None h = both_trap
or_trapped p None (Some y) h = absurd h
or_trapped p (Some x) None h = absurd h
or_trapped p (Some x) (Some y) h = h

from_world_same : (p : Pairs) (W X : World) (o o' : Outcome) → AgreeInTurn p W X → SameOutcome p o o' → SameOutcome p (from_world W o) (from_world X o')
from_world_same p W X o o' a both_trap = both_trap
from_world_same p W X o o' a (both_end q spent V Y h b) = both_end p spent W X (extends_self p) a
from_world_same p W X o o' a (both_end q go V Y h b) = both_end q go V Y h b
from_world_same p W X o o' a (both_end q returned V Y h b) = both_end q returned V Y h b
from_world_same p W X o o' a (both_end q (calls_primitive n) V Y h b) = both_end q (calls_primitive n) V Y h b
from_world_same p W X o o' a (both_end q asks V Y h b) = both_end q asks V Y h b
from_world_same p W X o o' a (both_end q raised V Y h b) = both_end q raised V Y h b
from_world_same p W X o o' a (both_end q unwinding V Y h b) = both_end q unwinding V Y h b
from_world_same p W X o o' a (both_end q main_yielded V Y h b) = both_end q main_yielded V Y h b
from_world_same p W X o o' a (both_end q main_returned V Y h b) = both_end q main_returned V Y h b
from_world_same p W X o o' a (both_end q main_failed V Y h b) = both_end q main_failed V Y h b

and_then_same : (p : Pairs) (o o' : Outcome) (f g : Ending → World → Outcome) → ((e : Ending) (q : Pairs) (V Y : World) → AgreeInTurn q V Y → SameOutcome q (f e V) (g e Y)) → SameOutcome p o o' → SameOutcome p (and_then o f) (and_then o' g)
and_then_same p o o' f g h both_trap = both_trap
and_then_same p o o' f g h (both_end q e V Y k b) = outcome_on p q (f e V) (g e Y) k (h e q V Y b)

module _ (primitives : ℕ → Row) (plain : (n : ℕ) → NoneMade (primitives n)) where
  step_by_same : (e : Ending) (p : Pairs) (W X : World) → AgreeInTurn p W X → SameOutcome p (step_by primitives e W) (step_by primitives e X)
  step_by_same go p W X a = or_trapped p (top_step W) (top_step X) (top_step_same p W X a)
  step_by_same returned p W X a = rows_keep (act see_top (λ _ top. handed_to top)) (λ _ top. none_rows.of_handed top) p [] [] W X tt a
  step_by_same (calls_primitive n) p W X a = rows_keep (primitives n) (plain n) p [] [] W X tt a
  step_by_same asks p W X a = rows_keep asked_row none_rows.of_asked p [] [] W X tt a
  step_by_same raised p W X a = rows_keep raised_row none_rows.of_raised p [] [] W X tt a
  step_by_same unwinding p W X a = rows_keep (act see_top (λ _ top. unwound top)) (λ _ top. none_rows.of_unwound top) p [] [] W X tt a
  step_by_same spent p W X a = both_end p spent W X (extends_self p) a
  step_by_same main_yielded p W X a = both_end p main_yielded W X (extends_self p) a
  step_by_same main_returned p W X a = both_end p main_returned W X (extends_self p) a
  step_by_same main_failed p W X a = both_end p main_failed W X (extends_self p) a

  step_same : (e : Ending) (p : Pairs) (W X : World) → AgreeInTurn p W X → SameOutcome p (step primitives e W) (step primitives e X)
  step_same e p W X a = from_world_same p W X (step_by primitives e W) (step_by primitives e X) a (step_by_same e p W X a)

pub steps_keep : StepsKeep
steps_keep primitives plain zero e p W X a = both_end p e W X (extends_self p) a
steps_keep primitives plain (suc n) e p W X a =
    and_then_same p (step primitives e W) (step primitives e X) (steps primitives n) (steps primitives n) (λ f q V Y b. steps_keep primitives plain n f q V Y b) (step_same primitives plain e p W X a)
