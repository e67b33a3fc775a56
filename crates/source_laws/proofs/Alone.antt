-- A function alone fits: its code is short, it has the registers of its parameters, and what its statements suppose is there.
use Rattle.std.proofs.Common.{ℕ, ◌+◌, ◌<◌, ◌≤◌, ◌^◌, Bool, true, false, List, [], length, Option, refl, arith}
use Rattle.std.proofs.lemmas.List.{length-map}
use Rattle.tree_core.specs.declared.name.Name.{Name}
use Rattle.tree_core.specs.declared.name.UpName.{UpName}
use Rattle.tree_core.specs.Tree.{Block, Falls, Returns, BodyOf, Stats, EndStats, MoreStats}
use Rattle.code_core.specs.declared.proto.Const.{Const}
use Rattle.tree_terms.specs.Levels.{levels_after}
use Rattle.code_of.specs.Levels.{made_in_block, made_in_stats, closings_after}
use Rattle.code_of.specs.CodeOf.{body_code, code_of}
use Rattle.stat_laws.specs.Fits.{BlockFits, setting, Alone}
use Rattle.scope_laws.specs.Keeping.{BodyKeeps, BlockKeeps}
use Rattle.scope_laws.specs.Finding.{BodyFinds, BlockFinds}
use Rattle.code_bounds.specs.Constants.{BlockHas}
use Rattle.code_bounds.specs.Functions.{BlockMakes}
use Rattle.code_bounds.specs.Registers.{StatsHaveRoom, BlockHasRoom}
use Rattle.code_bounds.proofs.Constants.{numbered}
use Rattle.code_bounds.proofs.Functions.{body_made}
use Rattle.code_bounds.proofs.Body.{enough}
use Rattle.tree_terms.specs.FunctionCount.{functions_in_block}
use Rattle.tree_terms.specs.Weight.{weight_of_block}
use Rattle.code_bounds.proofs.Counts.{made_block, few_block}
use Rattle.code_bounds.proofs.ShortBodies.{body_short}
use Rattle.grammar_laws.specs.Formed.{BlockIsFormed}
use Rattle.grammar_laws.specs.Counted.{BlockIsCounted}
use Rattle.source_laws.proofs.Around.{Around, constants_of, functions_of, stack_of}
use Rattle.source_laws.proofs.Statements.{stats_placed, return_placed}
use Rattle.code_bounds.proofs.Statements.{stats_fit}

-- the locals before the first statement and behind the last one have registers

first_room : (cs : List Const) (stack : ℕ) (ss : Stats) (t : ℕ) → StatsHaveRoom cs stack ss t → t ≤ stack
first_room cs stack EndStats t s = s
first_room cs stack (MoreStats stat ss) t s = s.0

block_room : (cs : List Const) (stack : ℕ) (block : Block) (t : ℕ) → BlockHasRoom cs stack block t → t ≤ stack
block_room cs stack (Falls ss tokens line) t s = first_room cs stack ss t s
block_room cs stack (Returns ss es tokens line) t s = first_room cs stack ss t s.0

block_fits :
    (x : Around) (block : Block) (params : ℕ) → BlockKeeps block true x.vararg params [] false → BlockFinds block x.hidden params x.ups → BlockHas (constants_of x) block
    → BlockMakes x.source (functions_of x) block 0 → BlockHasRoom (constants_of x) (stack_of x) block params → BlockIsFormed block → BlockIsCounted block
    → made_in_block block ≤ x.most → weight_of_block block ≤ x.heavy → BlockFits x.setting params block
block_fits x (Falls ss tokens line) params k f h m s o c b w =
    (stats_placed x ss true false params 0 [] [] false k f h m s o c.1 (omega (arith, b)) w, stats_fit (constants_of x) (stack_of x) ss params s)
block_fits x (Returns ss es tokens line) params k f h m s o c b w = (
  stats_placed x ss false false params 0 [] [] false k.0 f.0 h.0 m.0 s.0 o.0 c.1.0 (omega (arith, b)) (omega (arith, w)),
  return_placed x es (closings_after ss false) (levels_after ss params) (0 + made_in_stats ss) k.1.0 f.1 h.1 m.1 s.1 (omega (arith, b)) (omega (arith, w)),
)

pub alone :
    (source : Option (List ℕ)) (params : List Name) (vararg : Bool) (inner : Block) (ups : List UpName) (line : ℕ)
    → BodyKeeps (BodyOf params vararg inner ups line) → BodyFinds (BodyOf params vararg inner ups line) → BlockIsFormed inner → BlockIsCounted inner
    → weight_of_block inner + 3 ≤ 2 ^ 21 → functions_in_block inner ≤ 2 ^ 17 → Alone source (code_of source (BodyOf params vararg inner ups line)) (length params) inner
alone source params vararg inner ups line k f o c w b =
    let body = BodyOf params vararg inner ups line in
    let p = code_of source body in
    let room = enough source body f k in
    let stack = room.0 in
    let small : p.own.stack < 2 ^ 8 = omega (arith, stack) in
    let words = length-map (body_code body) (λ x. x.0) in
    let size = body_short body in
    let short : length p.own.code ≤ 2 ^ 24 = omega (arith, words, size, w) in
    let constants = few_block inner [] in
    let made = made_block inner in
    let x : Around = record {
      source = source;
      setting = setting source p 0 [] small short;
      vararg = vararg;
      hidden = [];
      ups = length ups;
      most = 2 ^ 17;
      heavy = 2 ^ 21;
      few = k.0;
      made = omega arith;
      light = omega arith;
      none_asked = refl;
      constants_few = omega (arith, constants, w);
      sees = λ n h. h;
      all_hold = refl;
      celled = refl;
    } in
    record {
      small = small;
      short = short;
      room = block_room p.own.constants p.own.stack inner (length params) room.1;
      placed = block_fits x inner (length params) k.1.1 f (numbered inner) (body_made source body).0 room.1 o c (omega (arith, made, b)) (omega (arith, w));
    }
