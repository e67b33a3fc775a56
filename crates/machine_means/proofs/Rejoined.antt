-- Worlds that are joined are so again where cells, coroutines, frames, the chain and what is paid are joined anew: all else they have is as before.
use Rattle.std.proofs.Common.{◌≡◌, ℕ, List, Bool}
use Rattle.std.specs.Prelude.{reverse}
use Rattle.int_core.specs.Value.{Value}
use Rattle.list_laws.specs.Held.{Held}
use Rattle.machine_core.specs.World as machine
use Rattle.machine_core.specs.Talk.{State}
use Rattle.lua_meaning.specs.World as talk
use Rattle.lua_meaning.specs.World.{Now}
use Rattle.machine_means.specs.Joined.{TalkFrame, TalkWorld, Stacks, CoroutinesPair, CellsPair, Joined}

pub rejoined : (lax after : Bool) (M : machine.World) (T : TalkWorld) (k : Joined lax M T) (cells : List machine.Cell) (coroutines : List machine.Coroutine) (chain : List ℕ) (moving : List Value) (fuel : ℕ)
    (values : List Value) (talks : List (talk.Coroutine State)) (links : List ℕ) (frames : List TalkFrame) (now : Now) (left : ℕ) (held : List (List Held))
    → fuel ≡ left → chain ≡ reverse links → CellsPair cells values held → CoroutinesPair M.functions values (λ fs hs. Stacks after M.functions values fs frames hs) coroutines talks held
    → Joined after (record M { cells = cells; coroutines = coroutines; chain = chain; moving = moving; fuel = fuel }) (record T { cells = values; coroutines = talks; chain = links; frames = frames; now = now; fuel = left })
rejoined lax after M T k cells coroutines chain moving fuel values talks links frames now left held paid linked by_cells by_coroutines =
    record { heap = k.heap; globals = k.globals; printed = k.printed; fuel = paid; chain = linked; functions = k.functions; held = held; cells = by_cells; coroutines = by_coroutines }
