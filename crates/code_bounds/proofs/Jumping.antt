-- Jumps close the locals behind the level that they lead to; all levels are those of a block around.
use Rattle.std.proofs.Common.{◌≡◌, ℕ, ◌+◌, ◌-◌, ◌≤◌, Bool, true, false, cond, ◌&&◌, List, [], ◌∷◌, ◌++◌, Option, Some, None, nat_le, refl, arith}
use Rattle.tree_core.specs.Tree.{Stats, EndStats, MoreStats, Stat, Label}
use Rattle.code_core.specs.declared.opcode.Opcode.TheVariants.{Close, Jmp}
use Rattle.code_core.specs.declared.proto.Const.{Const}
use Rattle.code_of.specs.declared.leaving.Leaving.{Leaving}
use Rattle.code_of.specs.Coded.{with_abc, jump_over, jump_back}
use Rattle.code_of.specs.Jumps.{Landing, Visible, Reach, jump_code, leads}
use Rattle.code_of.specs.Levels.{made_by_stat, closing_after}
use Rattle.code_of.proofs.Landings.{Lands, AllLand}
use Rattle.tree_terms.specs.Levels.{level_after}
use Rattle.code_of.specs.Sizes.{stat_size}
use Rattle.code_of.specs.Statements.{passed_after, labels_ahead}
use Rattle.tree_terms.specs.Labels.{are_void, Named, names_ahead, names_passed}
use Rattle.scope_laws.specs.Keeping.{StatsKeep}
use Rattle.code_bounds.proofs.Tops.{top, top_more, ax_is, one_a}
use Rattle.scope_laws.proofs.Rules.{few_after}

abbrev pub IsLow : Landing → Type 0
IsLow x = x.level ≤ 200

pub record ReachLow (reach : Reach) : Type 0 where
  pub labels : AllLand IsLow reach.labels
  pub exit : Lands IsLow reach.exit

either_way : (b : Bool) (m n line : ℕ) → top (cond b (jump_over m line) (jump_back n line) ∷ []) ≡ 0
either_way true m n line = ax_is Jmp (16777215 + m) refl
either_way false m n line = ax_is Jmp (16777215 - n) refl

jump_top : (closes : Bool) (x : Landing) (pc line : ℕ) → x.level ≤ 200 → top (jump_code closes x pc line) ≤ 250
jump_top false x pc line low = let c = either_way (nat_le (pc + 1) x.place) (x.place - (pc + 1)) (pc + 1 - x.place) line in omega (arith, c)
jump_top true x pc line low =
    let jump = cond (nat_le (pc + 2) x.place) (jump_over (x.place - (pc + 2)) line) (jump_back (pc + 2 - x.place) line) in
    let a = top_more (with_abc Close x.level 0 0 line) (jump ∷ []) in
    let b = one_a Close x.level 0 0 false refl (omega arith) in
    let c = either_way (nat_le (pc + 2) x.place) (x.place - (pc + 2)) (pc + 2 - x.place) line in
    omega (arith, a, b, c, low)

pub leads_top : (closes : Bool) (o : Option Landing) (pc line : ℕ) → Lands IsLow o → top (leads closes o pc line) ≤ 250
leads_top closes None pc line low = jump_top closes (record { place = 0; level = 0 }) pc line (omega arith)
leads_top closes (Some x) pc line low = jump_top closes x pc line low

pub passed_low : (s : Stat) (t pc : ℕ) (passed : List Visible) → t ≤ 200 → AllLand IsLow passed → AllLand IsLow (passed_after s t pc passed)
passed_low (Label line name) t pc passed few h = (few, h)
passed_low _ t pc passed few h = h

either_level : (b : Bool) (m n : ℕ) → m ≤ 200 → n ≤ 200 → cond b m n ≤ 200
either_level true m n h k = h
either_level false m n h k = k

module _ (cs : List Const) (back : Leaving) where
  pub ahead_low : (ss : Stats) (falls closing : Bool) (outer t j pc : ℕ) (vararg : Bool) (names named : List Named) (loops : Bool) → outer ≤ 200 → t ≤ 200 → StatsKeep ss falls vararg t names named loops → AllLand IsLow (labels_ahead cs back ss falls closing outer t j pc)
  ahead_low EndStats falls closing outer t j pc vararg names named loops a b h = tt
  ahead_low (MoreStats (Label line name) ss) falls closing outer t j pc vararg names named loops a b h =
      (either_level (falls && are_void ss) outer t a b, ahead_low ss falls closing outer t j pc vararg (names_passed (Label line name) names) named loops a b h.1.1)
  ahead_low (MoreStats s ss) falls closing outer t j pc vararg names named loops a b h =
      let level = few_after s vararg t (names_ahead ss falls t (level_after s t) ++ (names ++ named)) loops b h.1.0 in
      ahead_low ss falls (closing_after s closing) outer (level_after s t) (j + made_by_stat s) (pc + stat_size cs back s closing t j) vararg (names_passed s names) named loops a level h.1.1
