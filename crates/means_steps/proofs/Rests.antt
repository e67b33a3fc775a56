-- The frame on top waits, or is left: both worlds rest joined.
use Rattle.std.proofs.Common.{ℕ, ◌<◌, ◌≤◌, List, [], ◌∷◌, length, sym, arith, Bool, false}
use Rattle.std.specs.Prelude.{slice_set}
use Rattle.code_core.specs.Prototype.{Prototype}
use Rattle.int_core.specs.Value.{Value}
use Rattle.int_core.specs.Limits.{greatest_depth}
use Rattle.list_laws.specs.Held.{Held}
use Rattle.list_laws.proofs.Ends.{upward}
use Rattle.list_laws.proofs.Items.{get_set_same}
use Rattle.machine_core.specs.World as machine
use Rattle.machine_core.specs.World.{Function, Wait, Activation, Frame, lua, in_progress}
use Rattle.lua_meaning.specs.World as talk
use Rattle.machine_means.specs.Joined.{TalkFrame, TalkWorld, FunctionsPair, Pair, Stacks, CoroutinesPair, CellsPair, Joined}
use Rattle.machine_means.proofs.Held.{reverse_is}
use Rattle.machine_means.proofs.Frames.{cells_hold, holds_nothing, holds_back}
use Rattle.machine_means.proofs.Switches.{OnlyRuns}
use Rattle.means_steps.proofs.Middle.{Around, Middle, frame, with_own_stack, others_frames, others_held, alone_of}

less_is : (n d : ℕ) → n < d → n ≤ d
less_is n d l = omega (arith, l)

-- what is around the stacks, and what they hold
around_joined : (lax : Bool) (M : machine.World) (T : TalkWorld) → Around M T → FunctionsPair M.functions T.functions → (held : List (List Held)) → CellsPair M.cells T.cells held
    → CoroutinesPair M.functions T.cells (λ frames hs. Stacks lax M.functions T.cells frames T.frames hs) M.coroutines T.coroutines held → Joined lax M T
around_joined lax M T around functions held cells coroutines =
    record { heap = around.heap; globals = around.globals; printed = around.printed; fuel = around.fuel; chain = around.chain; functions = functions; held = held; cells = cells; coroutines = coroutines }

module _ (M : machine.World) (T : TalkWorld) (vs : List Value) (co n : ℕ) (g : Function) (g' : talk.Function Prototype) (w : Wait Value) (own : Activation) (around : Around M T) where
  -- it waits
  pub waits_joined : (lax : Bool) (h : Held) (below : List Frame) (ts : List TalkFrame) (t : TalkFrame) → Middle M T vs co n g g' w own h below ts → Pair lax M.functions vs (lua (frame n w own)) t h → Joined lax M (record T { cells = vs; frames = t ∷ ts })
  waits_joined lax h below ts t k pair =
      around_joined lax M (record T { cells = vs; frames = t ∷ ts }) around k.functions k.held k.cells
      (with_own_stack M.functions vs co M.coroutines T.coroutines k.held (λ frames hs. Stacks lax M.functions vs frames (t ∷ ts) hs) (upward (lua (frame n w own) ∷ below)) (h ∷ k.more) k.runs k.talks k.holds
      (record { ms = lua (frame n w own) ∷ below; listed = sym (reverse_is (lua (frame n w own) ∷ below)); below = (pair, k.waits); depth = k.depth }) k.others)

  -- it is left, and held no cell
  pub left_joined : (below : List Frame) (ts : List TalkFrame) → Middle M T vs co n g g' w own [] below ts → Joined false (record M { coroutines = slice_set M.coroutines co (in_progress (upward below)) }) (record T { cells = vs; frames = ts })
  left_joined below ts k =
      around_joined false (record M { coroutines = slice_set M.coroutines co (in_progress (upward below)) }) (record T { cells = vs; frames = ts }) around k.functions (slice_set k.held co k.more)
      (cells_hold M.cells vs k.held k.cells co ([] ∷ k.more) k.more k.holds (holds_back k.more ([] ∷ k.more) (holds_nothing k.more)))
      (with_own_stack M.functions vs co (slice_set M.coroutines co (in_progress (upward below))) T.coroutines (slice_set k.held co k.more) (λ frames hs. Stacks false M.functions vs frames ts hs) (upward below) k.more
      (get_set_same M.coroutines co (in_progress (upward (lua (frame n w own) ∷ below))) (in_progress (upward below)) k.runs) k.talks (get_set_same k.held co ([] ∷ k.more) k.more k.holds)
      (record { ms = below; listed = sym (reverse_is below); below = k.waits; depth = less_is (length below) greatest_depth k.depth })
      (others_held M.functions vs co (slice_set M.coroutines co (in_progress (upward below))) T.coroutines k.held k.more (others_frames M.functions vs co M.coroutines T.coroutines k.held (in_progress (upward below)) k.others)))

  pub left_alone : (below : List Frame) (ts : List TalkFrame) (h : Held) → Middle M T vs co n g g' w own h below ts → OnlyRuns (slice_set M.coroutines co (in_progress (upward below))) co
  left_alone below ts h k = alone_of M.functions vs co (slice_set M.coroutines co (in_progress (upward below))) T.coroutines k.held (others_frames M.functions vs co M.coroutines T.coroutines k.held (in_progress (upward below)) k.others)
