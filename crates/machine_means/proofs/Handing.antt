-- Results on their way to the frame on top, in both worlds.
use Rattle.std.proofs.Common.{◌≡◌, List, [], ◌++◌, Some, None, refl, ap, ◌∙◌, Bool, false}
use Rattle.int_core.specs.Value.{Value, bind, last}
use Rattle.machine_core.specs.World.{World, Stack, stack_of}
use Rattle.machine_core.specs.Moves.{TopShape, lua_top, top_shape, Ending, go, returned, made, Outcome, trapped, ends, run}
use Rattle.machine_core.specs.FrameRows.{handed, hand_over}
use Rattle.lua_meaning.specs.World.{Now, gives_back, now_in}
use Rattle.machine_means.specs.Joined.{TalkWorld, Joined}
use Rattle.machine_means.specs.Laws.{GivesBack}
use Rattle.machine_means.proofs.Rejoined.{rejoined}

abbrev pub ending_of : TopShape → Ending
ending_of lua_top = go
ending_of _ = returned

pub handed_is : (top : TopShape) (env : List Value) (W : World) → run (handed top) env W ≡ ends (ending_of top) W
handed_is lua_top env W = refl
handed_is _ env W = refl

pub hand_over_is : (W : World) (s : Stack) (env : List Value) → stack_of W ≡ Some s → run hand_over env W ≡ ends (ending_of (top_shape W (last s.frames))) W
hand_over_is W s env e =
    ap (λ o. elim (bind (bind o (λ s. Some (top_shape W (last s.frames)))) (λ top. made {A = TopShape} W [] top)) as (λ _. Outcome) [ None ↦ trapped | Some d ↦ run (handed d.told) (env ++ d.values) d.world ]) e
    ∙ handed_is (top_shape W (last s.frames)) (env ++ []) W

-- nothing that joins the worlds looks at what moves
pub moved : (lax : Bool) (M : World) (T : TalkWorld) (mv : List Value) → Joined lax M T → Joined lax (record M { moving = mv }) T
moved lax M T mv k = rejoined lax lax M T k M.cells M.coroutines M.chain mv M.fuel T.cells T.coroutines T.chain T.frames T.now T.fuel k.held k.fuel k.chain k.cells k.coroutines

pub told_now : (lax : Bool) (M : World) (T : TalkWorld) (now : Now) → Joined lax M T → Joined lax M (now_in T now)
told_now lax M T now k = rejoined lax lax M T k M.cells M.coroutines M.chain M.moving M.fuel T.cells T.coroutines T.chain T.frames now T.fuel k.held k.fuel k.chain k.cells k.coroutines

pub gives : (W : World) (T : TalkWorld) (s : Stack) (env : List Value) → stack_of W ≡ Some s → Joined false W T → T.now ≡ gives_back W.moving → GivesBack (run hand_over env W) T
gives W T s env e k n = record {
  ending = ending_of (top_shape W (last s.frames));
  world = W;
  is = hand_over_is W s env e;
  reached = hand_over_is W s [] e;
  now = n;
  joined = k;
}
