-- The frame on top is the one that it was, in a world that may be another: what of it has to be known anew.
use Rattle.std.proofs.Common.{◌≡◌, ◌<◌, ℕ, List, [], ◌∷◌, ◌++◌, length, Some}
use Rattle.std.specs.Prelude.{slice_get, IsSome}
use Rattle.int_core.specs.Value.{last}
use Rattle.machine_core.specs.World.{Frame, lua, in_progress, open_at, find_open, World}
use Rattle.machine_sound.specs.Sound.{Each, sizes, FrameWaits, RunsOrWaits, Top, TopIs}

pub same_top : (n : ℕ) (t : Top) (W V : World) (h : TopIs n t W) (pending cells : ℕ) (captured : List ℕ) → last V.chain ≡ Some h.coroutine → slice_get V.coroutines h.coroutine ≡ Some (in_progress (h.base ++ lua h.top ∷ []))
    → slice_get V.functions h.top.function ≡ Some h.function → Each (FrameWaits (sizes n V)) h.base → Each (λ r. r < pending) h.top.own.pending
    → ((i r : ℕ) → slice_get V.cells i ≡ Some (open_at h.coroutine (length h.base) r) → r < cells) → Each (λ r. IsSome (find_open h.coroutine (length h.base) r V.cells)) captured → RunsOrWaits t.runs (sizes n V) h.top
    → TopIs n (record t { pending = pending; cells = cells; captured = captured }) V
same_top n t W V h pending cells captured by_last frames there below by_pending by_cells by_captured wait =
    record { coroutine = h.coroutine; base = h.base; top = h.top; function = h.function; last = by_last; frames = frames; there = there; below = below; code = h.code; pc = h.pc; size = h.size; opened = h.opened; pending = by_pending; cells = by_cells; captured = by_captured; wait = wait }
