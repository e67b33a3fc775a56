-- A frame that hears anything hears that it is left: what is joined where nothing was raised is so where something was.
use Rattle.std.proofs.Common.{List, [], ◌∷◌, Bool, false}
use Rattle.std.specs.Prelude.{slice_get}
use Rattle.int_core.specs.Value.{Value}
use Rattle.list_laws.specs.Held.{Held}
use Rattle.machine_core.specs.World as machine
use Rattle.machine_core.specs.World.{Frame, Coroutine, lua, pcall, xpcall, handler, in_progress}
use Rattle.machine_core.specs.Talk.{State}
use Rattle.lua_meaning.specs.World as talk
use Rattle.lua_meaning.specs.World.{waiting, protected, handled_by, handling}
use Rattle.machine_means.specs.Joined.{TalkFrame, TalkWorld, Pair, Below, Stacks, CoroutinePair, Joined}
use Rattle.machine_means.proofs.CellWrites.{all3_map}
use Rattle.machine_means.proofs.Rejoined.{rejoined}

pub pair_lax : (lax : Bool) (fs : List machine.Function) (vs : List Value) (m : Frame) (t : TalkFrame) (h : Held) → Pair false fs vs m t h → Pair lax fs vs m t h
pair_lax lax fs vs (lua fr) (waiting asker) h k = k
pair_lax lax fs vs pcall protected h k = k
pair_lax lax fs vs (xpcall v) (handled_by u) h k = k
pair_lax lax fs vs handler handling h k = k
pair_lax lax fs vs (machine.closing e us) (talk.closing d ws) h k = k
pair_lax lax fs vs _ _ h k = absurd k

pub below_lax : (lax : Bool) (fs : List machine.Function) (vs : List Value) (ms : List Frame) (ts : List TalkFrame) (hs : List Held) → Below false fs vs ms ts hs → Below lax fs vs ms ts hs
below_lax lax fs vs [] [] [] k = tt
below_lax lax fs vs (m ∷ ms) (t ∷ ts) (h ∷ hs) k = (pair_lax lax fs vs m t h k.0, k.1)
below_lax lax fs vs _ _ _ k = absurd k

pub stacks_lax : (lax : Bool) (fs : List machine.Function) (vs : List Value) (frames : List Frame) (ts : List TalkFrame) (hs : List Held) → Stacks false fs vs frames ts hs → Stacks lax fs vs frames ts hs
stacks_lax lax fs vs frames ts hs s = record { ms = s.ms; listed = s.listed; below = below_lax lax fs vs s.ms ts hs s.below; depth = s.depth }

co_runs : (fs : List machine.Function) (vs : List Value) (run run' : List Frame → List Held → Type 0) (x : Coroutine) (y : talk.Coroutine State) (hs : List Held) → ((frames : List Frame) → run frames hs → run' frames hs) → CoroutinePair fs vs run x y hs → CoroutinePair fs vs run' x y hs
co_runs fs vs run run' (machine.fresh a) (talk.fresh b) hs g k = k
co_runs fs vs run run' (machine.suspended frames) (talk.suspended ts) hs g k = k
co_runs fs vs run run' (in_progress frames) talk.running hs g k = g frames k
co_runs fs vs run run' (machine.normal frames) (talk.normal ts) hs g k = k
co_runs fs vs run run' machine.dead talk.dead hs g k = k
co_runs fs vs run run' (machine.failed e p) (talk.failed d q) hs g k = k
co_runs fs vs run run' _ _ hs g k = absurd k

pub loosened : (lax : Bool) (M : machine.World) (T : TalkWorld) → Joined false M T → Joined lax M T
loosened lax M T k =
    rejoined false lax M T k M.cells M.coroutines M.chain M.moving M.fuel T.cells T.coroutines T.chain T.frames T.now T.fuel k.held k.fuel k.chain k.cells (λ j. all3_map
    (CoroutinePair M.functions T.cells (λ frames hs. Stacks false M.functions T.cells frames T.frames hs)) (CoroutinePair M.functions T.cells (λ frames hs. Stacks lax M.functions T.cells frames T.frames hs))
    (slice_get M.coroutines j) (slice_get T.coroutines j) (slice_get k.held j)
    (λ x y hs _ _ p. co_runs M.functions T.cells (λ frames hs. Stacks false M.functions T.cells frames T.frames hs) (λ frames hs. Stacks lax M.functions T.cells frames T.frames hs) x y hs (λ frames s. stacks_lax lax M.functions T.cells frames T.frames hs s) p)
    (k.coroutines j))
