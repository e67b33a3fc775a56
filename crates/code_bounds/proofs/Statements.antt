-- The code of statements and blocks takes the registers that are counted for them.
use Rattle.std.proofs.Common.{ℕ, ◌+◌, ◌-◌, ◌*◌, ◌≤◌, max, Bool, true, false, ◌||◌, List, [], ◌∷◌, ◌++◌, length, Some, None, refl, ap, lit<, lit≤, arith}
use Rattle.tree_core.specs.declared.name.Declared.{Declared}
use Rattle.tree_core.specs.Tree.{Block, Falls, Returns, Body, Stats, EndStats, MoreStats, Stat, Empty, Local, LocalFunction, Assign, CallStat, Do, While, Repeat, If, IfElse, NumFor, NumForStep, GenFor, Label, Goto, Break, Arms, EndArms, MoreArms, Exp, Exps}
use Rattle.tree_activation.specs.Activation.{line_of_end}
use Rattle.tree_terms.specs.Bodies.{line_of_body, upvalues_of}
use Rattle.code_core.specs.declared.opcode.Opcode.TheVariants.{LoadI, LoadNil, Close, Jmp, ForLoop, ForPrep, TForPrep, TForCall, TForLoop, Return, Closure}
use Rattle.code_core.specs.declared.proto.Const.{Const}
use Rattle.code_of.specs.declared.leaving.Leaving.{Leaving}
use Rattle.code_of.specs.Coded.{Coded, with_abc, with_abx, jump_over, jump_back, leaving_by}
use Rattle.code_of.specs.Expressions.{made_by, made_in, exp_code, exps_code}
use Rattle.code_of.specs.Conditions.{test_code}
use Rattle.code_bounds.proofs.Conditions.{test_room}
use Rattle.code_of.specs.Jumps.{Reach, Visible, label_in, leads}
use Rattle.code_of.specs.Levels.{made_by_stat, made_in_arms, made_in_stats, made_in_block, closing_after, closings_after, closed_below, closed_until}
use Rattle.tree_terms.specs.Levels.{level_after, levels_after, levels_in}
use Rattle.code_of.specs.Parts.{marks_code, close_code, captures_local, closure_code, function_code, while_code, repeat_code, past_size, past, arm_code, default_step, counting_code, iterating_code, assign_code, return_code, pair_code, bounds_code, steps_code}
use Rattle.code_of.specs.Sizes.{stat_size, arms_size, block_size}
use Rattle.code_of.specs.Statements.{in_loop, passed_after, labels_ahead, stat_code, arms_code, stats_code, block_code, open_code, whole_code}
use Rattle.scope_core.specs.Held.{held, held_behind, held_stat, held_tests}
use Rattle.code_of.specs.Rooms.{room_of, room_of_list, room_of_last}
use Rattle.code_of.proofs.Landings.{AllLand, both_land, label_lands}
use Rattle.tree_terms.specs.Labels.{Named, names_ahead, names_passed}
use Rattle.scope_laws.specs.Finding.{three_hidden, four_hidden, ExpFinds, ExpsFind, StatFinds, ArmsFind, StatsFind, BlockFinds}
use Rattle.scope_laws.specs.Keeping.{StatKeeps, ArmsKeep, StatsKeep, BlockKeeps}
use Rattle.code_bounds.specs.Registers.{StatHasRoom, ArmsHaveRoom, StatsHaveRoom, BlockHasRoom}
use Rattle.code_bounds.proofs.Tops.{top, ax_is, one_a, one_nil, one_ax, one_behind, one_iterate, one_return}
use Rattle.code_bounds.proofs.Holding.{same_count}
use Rattle.code_bounds.proofs.Room.{HasRoom, room_end, room_as, room_append, room_more, room_of_top}
use Rattle.code_bounds.proofs.Simple.{marks_top, close_top, exp_room, exps_room, filled, return_room}
use Rattle.code_bounds.proofs.Assigning.{assign_room}
use Rattle.code_bounds.proofs.Jumping.{IsLow, ReachLow, leads_top, passed_low, ahead_low}
use Rattle.scope_laws.proofs.Rules.{few_after}

-- the forms of statements that have blocks, where their parts have room

module _ {stack : ℕ} where
  jump_room : {Q : Type 0} (places line : ℕ) (rest : List Coded) → HasRoom stack rest Q → HasRoom stack (jump_over places line ∷ rest) ((0 ≤ stack) × Q)
  jump_room places line rest h = room_more (jump_over places line) 0 rest (ax_is Jmp (16777215 + places) refl) (lit≤ tt) h

  back_room : {Q : Type 0} (places line : ℕ) (rest : List Coded) → HasRoom stack rest Q → HasRoom stack (jump_back places line ∷ rest) ((0 ≤ stack) × Q)
  back_room places line rest h = room_more (jump_back places line) 0 rest (ax_is Jmp (16777215 - places) refl) (lit≤ tt) h

  while_room : {P Q : Type 0} (test : ℕ → List Coded) (block : List Coded) (line : ℕ) → HasRoom stack (test (length block + 1)) P → HasRoom stack block Q → HasRoom stack (while_code test block line) (P × Q)
  while_room test block line h k =
      let places = length (test (length block + 1)) + length block + 1 in
      room_as (room_append (test (length block + 1)) _ h (room_append block (jump_back places line ∷ []) k (back_room places line [] room_end))) (λ all. (all.0, all.1.0))

  repeat_room : {P Q : Type 0} (test : ℕ → List Coded) (block close : List Coded) (line : ℕ) → HasRoom stack block P → HasRoom stack (test (length close + 1)) Q → top close ≤ 250 → HasRoom stack (repeat_code test block close line) (P × Q)
  repeat_room test block close line h k small =
      let closes : HasRoom stack close (top close ≤ stack) = room_of_top close small in
      let ends = back_room (length block + length (test (length close + 1)) + length close + 1) line close closes in
      room_as (room_append block _ h (room_append (test (length close + 1)) _ k (room_append close _ closes ends))) (λ all. (all.0, all.1.0))

  past_room : (rest : List Coded) (line : ℕ) → HasRoom stack (past rest line) (0 ≤ stack)
  past_room [] line = room_as room_end (λ h. omega arith)
  past_room (x ∷ rest) line = room_as (jump_room (length (x ∷ rest)) line [] room_end) (λ h. h.0)

  arm_room : {P Q R : Type 0} (test : ℕ → List Coded) (block rest : List Coded) (line : ℕ) → HasRoom stack (test (length block + length (past rest line))) P → HasRoom stack block Q → HasRoom stack rest R
      → HasRoom stack (arm_code test block rest line) (P × (Q × R))
  arm_room test block rest line h k l =
      room_as (room_append (test (length block + length (past rest line))) _ h (room_append block (past rest line ++ rest) k (room_append (past rest line) rest (past_room rest line) l)))
      (λ all. (all.0, (all.1.0, all.1.1.1)))

  counting_room : {P Q : Type 0} (start block : List Coded) (t line : ℕ) → t + 4 ≤ 250 → HasRoom stack start P → HasRoom stack block Q → HasRoom stack (counting_code start block t line) (P × ((t + 4 ≤ stack) × Q))
  counting_room start block t line few h k =
      let prepares = one_behind ForPrep t (length block) 3 refl (omega arith) in
      let loops = one_behind ForLoop t (length block + 1) 3 refl (omega arith) in
      let ends = room_more (with_abx ForLoop t (length block + 1) line) (t + 3 + 1) [] loops (omega arith) room_end in
      room_as (room_append start _ h (room_more (with_abx ForPrep t (length block) line) (t + 3 + 1) _ prepares (omega arith) (room_append block _ k ends)))
      (λ all. (all.0, (let e = all.1.0 in omega (arith, e), all.1.1.0)))

  iterating_room : {P Q : Type 0} (start block : List Coded) (t n line : ℕ) → t + 4 + n ≤ 250 → t + 7 ≤ 250 → HasRoom stack start P → HasRoom stack block Q →
      HasRoom stack (iterating_code start block t n line) (P × ((t + 7 ≤ stack) × ((t + 4 + n ≤ stack) × Q)))
  iterating_room start block t n line few many h k =
      let prepares = one_behind TForPrep t (length block) 3 refl (omega arith) in
      let calls = one_iterate t n (omega arith) (omega arith) in
      let loops = one_behind TForLoop t (length block + 2) 4 refl (omega arith) in
      let closes = one_a Close t 0 0 false refl (omega arith) in
      let small : t + 1 ≤ 250 = omega arith in
      let above : t + 4 + 1 ≤ 250 = omega arith in
      let all : max (t + 7) (t + 4 + n) ≤ 250 = omega arith in
      let last = room_more (with_abc Close t 0 0 line) (t + 1) [] closes small room_end in
      let next = room_more (with_abx TForLoop t (length block + 2) line) (t + 4 + 1) _ loops above last in
      let call = room_more (with_abc TForCall t 0 n line) (max (t + 7) (t + 4 + n)) _ calls all next in
      room_as (room_append start _ h (room_more (with_abx TForPrep t (length block) line) (t + 3 + 1) _ prepares (omega arith) (room_append block _ k call)))
      (λ all. let e = all.1.1.1.0 in (all.0, (omega (arith, e), (omega (arith, e), all.1.1.0))))

  closure_room : (own : Bool) (t j line : ℕ) → t + 1 ≤ 250 → HasRoom stack (closure_code own t j line) (t + 1 ≤ stack)
  closure_room false t j line few =
      let makes = one_ax Closure t j refl (omega arith) in
      room_as (room_more (with_abx Closure t j line) (t + 1) [] makes few room_end) (λ all. all.0)
  closure_room true t j line few =
      let makes = one_ax Closure t j refl (omega arith) in
      let clears = one_nil t 0 line (omega arith) (lit< tt) in
      let last = room_more (with_abx Closure t j line) (t + 1) [] makes few room_end in
      room_as (room_more (with_abc LoadNil t 0 0 line) (t + 0 + 1) _ clears (omega arith) last) (λ all. all.1.0)

  function_room : (body : Body) (t j : ℕ) → t + 1 ≤ 250 → HasRoom stack (function_code body t j) (t + 1 ≤ stack)
  function_room body t j few = closure_room (captures_local t (upvalues_of body)) t j (line_of_body body) few

-- the locals of a block have registers

pub stats_fit : (cs : List Const) (stack : ℕ) (ss : Stats) (t : ℕ) → StatsHaveRoom cs stack ss t → levels_after ss t ≤ stack
stats_fit cs stack EndStats t h = h
stats_fit cs stack (MoreStats s ss) t h = stats_fit cs stack ss (level_after s t) h.1.1

levels_fit : (cs : List Const) (stack : ℕ) (block : Block) (t : ℕ) → BlockHasRoom cs stack block t → levels_in block t ≤ stack
levels_fit cs stack (Falls ss tokens line) t h = stats_fit cs stack ss t h
levels_fit cs stack (Returns ss es tokens line) t h = stats_fit cs stack ss t h.0

module _ (cs : List Const) (stack : ℕ) where
  -- the values of a numeric `for`

  pair_room : (hidden : List ℕ) (ups : ℕ) (from limit : Exp) (t j : ℕ) → ExpFinds from hidden t ups → ExpFinds limit hidden t ups → t + held from ≤ 250 → t + (0 + 1 + held limit) ≤ 250 → t + 4 ≤ 200 →
      HasRoom stack (pair_code cs from limit t j) ((t + room_of cs from 2 ≤ max t stack) × (t + 1 + room_of cs limit 2 ≤ max (t + 1) stack))
  pair_room hidden ups from limit t j a b few many fits =
      room_append (exp_code cs from t j 2) (exp_code cs limit (t + 1) (j + made_by from) 2)
      (exp_room cs hidden ups stack from t t j 2 a (omega arith) few (omega arith) (lit≤ tt)) (exp_room cs hidden ups stack limit t (t + 1) (j + made_by from) 2 b (omega arith) (omega arith) (omega arith) (lit≤ tt))

  bounds_room : (hidden : List ℕ) (ups : ℕ) (from limit : Exp) (t j line : ℕ) → ExpFinds from hidden t ups → ExpFinds limit hidden t ups → t + held from ≤ 250 → t + (0 + 1 + held limit) ≤ 250 → t + 4 ≤ 200 →
      HasRoom stack (bounds_code cs from limit t j line) ((t + room_of cs from 2 ≤ max t stack) × (t + 1 + room_of cs limit 2 ≤ max (t + 1) stack))
  bounds_room hidden ups from limit t j line a b few many fits =
      let e = one_ax LoadI (t + 2) 65536 refl (omega arith) in
      room_as (room_append (pair_code cs from limit t j) (default_step (t + 2) line) (pair_room hidden ups from limit t j a b few many fits) (room_of_top (default_step (t + 2) line) (omega (arith, e)))) (λ all. all.0)

  pub steps_room : (hidden : List ℕ) (ups : ℕ) (from limit step : Exp) (t j : ℕ) → ExpFinds from hidden t ups → ExpFinds limit hidden t ups → ExpFinds step hidden t ups → t + held from ≤ 250 → t + (0 + 1 + held limit) ≤ 250 → t + (0 + 1 + 1 + held step) ≤ 250 → t + 4 ≤ 200 →
      HasRoom stack (steps_code cs from limit step t j) (((t + room_of cs from 2 ≤ max t stack) × (t + 1 + room_of cs limit 2 ≤ max (t + 1) stack)) × (t + 2 + room_of cs step 2 ≤ max (t + 2) stack))
  steps_room hidden ups from limit step t j a b c few many most fits =
      room_append (pair_code cs from limit t j) (exp_code cs step (t + 2) (j + made_by from + made_by limit) 2) (pair_room hidden ups from limit t j a b few many fits)
      (exp_room cs hidden ups stack step t (t + 2) (j + made_by from + made_by limit) 2 c (omega arith) (omega arith) (omega arith) (lit≤ tt))

  -- what is in scope behind statements has registers

  level_room : (s : Stat) (t : ℕ) → t ≤ stack → StatHasRoom cs stack s t → level_after s t ≤ stack
  level_room (Local line names es) t within h = h.1
  level_room (LocalFunction line name body) t within h = h
  level_room _ t within h = within

  pub levels_room : (ss : Stats) (t : ℕ) → StatsHaveRoom cs stack ss t → levels_after ss t ≤ stack
  levels_room EndStats t h = h
  levels_room (MoreStats s ss) t h = levels_room ss (level_after s t) h.1.1

  pub levels_low : (ss : Stats) (falls vararg : Bool) (t : ℕ) (names named : List Named) (loops : Bool) → t ≤ 200 → StatsKeep ss falls vararg t names named loops → levels_after ss t ≤ 200
  levels_low EndStats falls vararg t names named loops few h = few
  levels_low (MoreStats s ss) falls vararg t names named loops few h =
      levels_low ss falls vararg (level_after s t) (names_passed s names) named loops (few_after s vararg t (names_ahead ss falls t (level_after s t) ++ (names ++ named)) loops few h.1.0) h.1.1

  local_room : (hidden : List ℕ) (ups : ℕ) (names : List Declared) (es : Exps) (t j line : ℕ) → ExpsFind es hidden t ups → t + held_behind 0 es ≤ 250 → t + length names ≤ 200 →
      HasRoom stack (exps_code cs es (Some (length names)) t j line ++ marks_code names t) (t ≤ stack → (t + room_of_list cs 0 es (Some (length names)) ≤ stack) × (t + length names ≤ stack))
  local_room hidden ups names es t j line known few many =
      let values = exps_code cs es (Some (length names)) t j line in
      let full = filled cs es (length names) 0 in
      room_as
      (room_append values (marks_code names t) (exps_room cs hidden ups stack es (Some (length names)) t t j line known (omega arith) (omega arith) few (omega arith))
      (room_of_top (marks_code names t) (marks_top names t many)))
      (λ all within. let e = all.0 in (omega (arith, e, within), omega (arith, e, within, full)))

  assigned_room : (hidden : List ℕ) (ups : ℕ) (targets es : Exps) (t j line : ℕ) → ups ≤ 255 → ExpsFind targets hidden t ups → ExpsFind es hidden t ups → t + held_stat (Assign line targets es) ≤ 250 →
      HasRoom stack (assign_code cs targets es t j line) (t ≤ stack → StatHasRoom cs stack (Assign line targets es) t)
  assigned_room hidden ups targets es t j line few_ups known_targets known few =
      let same = same_count targets in
      let values = ap (λ n. held_behind (2 * n) es) same in
      assign_room cs hidden ups stack targets es t j line few_ups known_targets known (omega arith) (omega (arith, values)) (omega (arith, same))

  module _ (back : Leaving) (ups : ℕ) (few_ups : ups ≤ 255) (vararg : Bool) where
    abbrev StatRoom : Stat → Type 0
    StatRoom s = (hidden : List ℕ) (named : List Named) (loops closing : Bool) (t j pc : ℕ) (reach : Reach) → StatFinds s hidden t ups → t ≤ 200 → t + held_stat s ≤ 250 → level_after s t ≤ 200 → StatKeeps s vararg t named loops → ReachLow reach →
        HasRoom stack (stat_code cs back s closing t j pc reach) (t ≤ stack → StatHasRoom cs stack s t)

    abbrev ArmsRoom : Arms → Type 0
    ArmsRoom arms = (hidden : List ℕ) (named : List Named) (loops : Bool) (otherwise : List Coded) (closing : Bool) (t j pc line : ℕ) (reach : Reach) → ArmsFind arms hidden t ups → t ≤ 200 → t + held_tests arms ≤ 250 → ArmsKeep arms vararg t named loops → ReachLow reach →
        top otherwise ≤ 250 → HasRoom stack (arms_code cs back arms otherwise closing t j pc line reach) ((t ≤ stack → ArmsHaveRoom cs stack arms t) × (top otherwise ≤ stack))

    abbrev StatsRoom : Stats → Type 0
    StatsRoom ss = (hidden : List ℕ) (names named : List Named) (loops falls closing : Bool) (outer t j pc : ℕ) (passed : List Visible) (reach : Reach) → StatsFind ss hidden t ups → outer ≤ 200 → t ≤ 200 → StatsKeep ss falls vararg t names named loops → AllLand IsLow passed → ReachLow reach →
        HasRoom stack (stats_code cs back ss falls closing outer t j pc passed reach) (t ≤ stack → StatsHaveRoom cs stack ss t)

    abbrev BlockRoom : Block → Type 0
    BlockRoom b = (hidden : List ℕ) (named : List Named) (loops closing : Bool) (outer t j pc : ℕ) (reach : Reach) → BlockFinds b hidden t ups → outer ≤ 200 → t ≤ 200 → BlockKeeps b true vararg t named loops → ReachLow reach →
        HasRoom stack (block_code cs back b closing outer t j pc reach) (t ≤ stack → BlockHasRoom cs stack b t)

    abbrev OpenRoom : Block → Type 0
    OpenRoom b = (hidden : List ℕ) (named : List Named) (loops closing : Bool) (t j pc : ℕ) (reach : Reach) → BlockFinds b hidden t ups → t ≤ 200 → BlockKeeps b false vararg t named loops → ReachLow reach →
        HasRoom stack (open_code cs back b closing t j pc reach) (t ≤ stack → BlockHasRoom cs stack b t)

    loop_low : (reach : Reach) (place level : ℕ) → level ≤ 200 → ReachLow reach → ReachLow (in_loop reach place level)
    loop_low reach place level few h = record { labels = h.labels; exit = few }

    returned : (hidden : List ℕ) (stats : List Coded) (ss : Stats) (closing : Bool) (es : Exps) (t j line : ℕ) → ExpsFind es hidden (levels_after ss t) ups → levels_after ss t + held_behind 0 es ≤ 250 →
        HasRoom stack stats (t ≤ stack → StatsHaveRoom cs stack ss t) →
        HasRoom stack (stats ++ return_code cs closing es (levels_after ss t) j line back.back)
        (t ≤ stack → StatsHaveRoom cs stack ss t × (levels_after ss t + room_of_last cs es ≤ stack))
    returned hidden stats ss closing es t j line known few h =
        room_as (room_append stats (return_code cs closing es (levels_after ss t) j line back.back) h (return_room cs hidden ups stack closing es (levels_after ss t) j line back.back known few))
        (λ all within. let mine = all.0 within in let level = levels_room ss t mine in let room = all.1 in (mine, omega (arith, level, room)))

    mutual
      stat_room : (s : Stat) → StatRoom s
      stat_room (Empty line) hidden named loops closing t j pc reach known few holds level keeps low = room_as room_end (λ h within. tt)
      stat_room (Local line names es) hidden named loops closing t j pc reach known few holds level keeps low = local_room hidden ups names es t j line known holds level
      stat_room (LocalFunction line name body) hidden named loops closing t j pc reach known few holds level keeps low = room_as (function_room body t j (omega arith)) (λ h within. h)
      stat_room (Assign line targets es) hidden named loops closing t j pc reach known few holds level keeps low = assigned_room hidden ups targets es t j line few_ups known.0 known.1 holds
      stat_room (CallStat line e) hidden named loops closing t j pc reach known few holds level keeps low =
          room_as (exp_room cs hidden ups stack e t t j 1 known (omega arith) holds (omega arith) (lit≤ tt)) (λ room within. omega (arith, room, within))
      stat_room (Do line block) hidden named loops closing t j pc reach known few holds level keeps low = block_room block hidden named loops closing t t j pc reach known few few keeps low
      stat_room (While line e block) hidden named loops closing t j pc reach known few holds level keeps low =
          let place = pc + length (test_code cs e true 0 t j) in
          let after = in_loop reach (pc + stat_size cs back (While line e block) closing t j) t in
          let code = block_code cs back block closing t t (j + made_by e) place after in
          room_as
          (while_room (λ ahead. test_code cs e true ahead t j) code line
          (test_room cs hidden ups stack e true (length code + 1) t t j known.0 (omega arith) holds)
          (block_room block hidden named true closing t t (j + made_by e) place after known.1 few few keeps.1 (loop_low reach _ t few low)))
          (λ all within. let room = all.0 in (omega (arith, room, within), all.1 within))
      stat_room (Repeat line block e) hidden named loops closing t j pc reach known few holds level keeps low =
          let inner = levels_in block t in
          let highest = closed_until block e t in
          let close = close_code t highest (line_of_end block) in
          let after = in_loop reach (pc + stat_size cs back (Repeat line block e) closing t j) t in
          room_as
          (repeat_room (λ ahead. test_code cs e false ahead inner (j + made_in_block block)) (open_code cs back block closing t j pc after) close line
          (open_room block hidden named true closing t j pc after known.0 few keeps.0 (loop_low reach _ t few low))
          (test_room cs hidden ups stack e false (length close + 1) inner inner (j + made_in_block block) known.1 (omega arith) keeps.1.0)
          (close_top t highest (line_of_end block) few))
          (λ all within. let room = all.1 in let block_fits = all.0 within in let there = levels_fit cs stack block t block_fits in (block_fits, omega (arith, room, there)))
      stat_room (If line arms) hidden named loops closing t j pc reach known few holds level keeps low =
          room_as (arms_room arms hidden named loops [] closing t j pc line reach known few holds keeps low (omega arith)) (λ all within. all.0 within)
      stat_room (IfElse line arms block) hidden named loops closing t j pc reach known few holds level keeps low =
          let k = j + made_in_arms arms in
          let place = pc + arms_size cs back arms (block_size cs back block closing t t k) closing t j in
          let h = block_room block hidden named loops closing t t k place reach known.1 few few keeps.1 low in
          room_as (arms_room arms hidden named loops (block_code cs back block closing t t k place reach) closing t j pc line reach known.0 few holds keeps.0 low h.below)
          (λ all within. (all.0 within, h.gives all.1 within))
      stat_room (NumFor line name from limit block) hidden named loops closing t j pc reach known few holds level keeps low =
          let start = bounds_code cs from limit t j line in
          let k = j + made_by from + made_by limit in
          let after = in_loop reach (pc + stat_size cs back (NumFor line name from limit block) closing t j) t in
          room_as
          (counting_room start (block_code cs back block closing (t + 3) (t + 4) k (pc + length start + 1) after) t line (omega (arith, keeps.1.1.0))
          (bounds_room hidden ups from limit t j line known.0 known.1.0 (omega (arith, holds)) (omega (arith, holds)) keeps.1.1.0)
          (block_room block (three_hidden t hidden) named true closing (t + 3) (t + 4) k (pc + length start + 1) after known.1.1 (omega (arith, keeps.1.1.0)) keeps.1.1.0 keeps.1.1.1.1 (loop_low reach _ t few low)))
          (λ all within.
          let one = all.0.0 in
          let two = all.0.1 in
          let four = all.1.0 in
          (omega (arith, one, within), (omega (arith, two, four), (four, all.1.1 four))))
      stat_room (NumForStep line name from limit step block) hidden named loops closing t j pc reach known few holds level keeps low =
          let start = steps_code cs from limit step t j in
          let k = j + made_by from + made_by limit + made_by step in
          let after = in_loop reach (pc + stat_size cs back (NumForStep line name from limit step block) closing t j) t in
          room_as
          (counting_room start (block_code cs back block closing (t + 3) (t + 4) k (pc + length start + 1) after) t line (omega (arith, keeps.1.1.1.0))
          (steps_room hidden ups from limit step t j known.0 known.1.0 known.1.1.0 (omega (arith, holds)) (omega (arith, holds)) (omega (arith, holds)) keeps.1.1.1.0)
          (block_room block (three_hidden t hidden) named true closing (t + 3) (t + 4) k (pc + length start + 1) after known.1.1.1 (omega (arith, keeps.1.1.1.0)) keeps.1.1.1.0 keeps.1.1.1.1.1 (loop_low reach _ t few low)))
          (λ all within.
          let one = all.0.0.0 in
          let two = all.0.0.1 in
          let three = all.0.1 in
          let four = all.1.0 in
          (omega (arith, one, within), (omega (arith, two, four), (omega (arith, three, four), (four, all.1.1 four)))))
      stat_room (GenFor line names es block) hidden named loops closing t j pc reach known few holds level keeps low =
          let n = length names in
          let start = exps_code cs es (Some 4) t j line in
          let after = in_loop reach (pc + stat_size cs back (GenFor line names es block) closing t j) t in
          room_as
          (iterating_room start (block_code cs back block true (t + 4) (t + 4 + n) (j + made_in es) (pc + length start + 1) after) t n line (omega (arith, keeps.1.0)) (omega (arith, holds))
          (exps_room cs hidden ups stack es (Some 4) t t j line known.0 (omega arith) (lit≤ tt) (omega (arith, holds)) (omega (arith, few)))
          (block_room block (four_hidden t hidden) named true true (t + 4) (t + 4 + n) (j + made_in es) (pc + length start + 1) after known.1 (omega (arith, keeps.1.0)) keeps.1.0 keeps.1.1.1 (loop_low reach _ t few low)))
          (λ all within.
          let one = all.0 in
          (omega (arith, one, within), (all.1.0, (all.1.1.0, all.1.1.1 all.1.1.0))))
      stat_room (Label line name) hidden named loops closing t j pc reach known few holds level keeps low = room_as room_end (λ h within. tt)
      stat_room (Goto line name) hidden named loops closing t j pc reach known few holds level keeps low =
          room_as (room_of_top (leads (back.closes || closing) (label_in name.text reach.labels) pc line) (leads_top (back.closes || closing) (label_in name.text reach.labels) pc line (label_lands IsLow name.text reach.labels low.labels))) (λ h within. tt)
      stat_room (Break line) hidden named loops closing t j pc reach known few holds level keeps low = room_as (room_of_top (leads (back.closes || closing) reach.exit pc line) (leads_top (back.closes || closing) reach.exit pc line low.exit)) (λ h within. tt)

      arms_room : (arms : Arms) → ArmsRoom arms
      arms_room EndArms hidden named loops otherwise closing t j pc line reach known few holds keeps low h = room_as (room_of_top otherwise h) (λ p. ((λ within. tt), p))
      arms_room (MoreArms e block arms) hidden named loops otherwise closing t j pc line reach known few holds keeps low h =
          let k = j + made_by e + made_in_block block in
          let inner = pc + length (test_code cs e true 0 t j) in
          let behind = inner + block_size cs back block closing t t (j + made_by e) + past_size (arms_size cs back arms (length otherwise) closing t k + length otherwise) in
          let code = block_code cs back block closing t t (j + made_by e) inner reach in
          let rest = arms_code cs back arms otherwise closing t k behind line reach in
          room_as
          (arm_room (λ ahead. test_code cs e true ahead t j) code rest line
          (test_room cs hidden ups stack e true (length code + length (past rest line)) t t j known.0 (omega arith) (omega (arith, holds)))
          (block_room block hidden named loops closing t t (j + made_by e) inner reach known.1.0 few few keeps.1.0 low)
          (arms_room arms hidden named loops otherwise closing t k behind line reach known.1.1 few (omega (arith, holds)) keeps.1.1 low h))
          (λ all. ((λ within. let room = all.0 in (omega (arith, room, within), (all.1.0 within, all.1.1.0 within))), all.1.1.1))

      stats_room : (ss : Stats) → StatsRoom ss
      stats_room EndStats hidden names named loops falls closing outer t j pc passed reach known out few keeps passing low = room_as room_end (λ h within. within)
      stats_room (MoreStats s ss) hidden names named loops falls closing outer t j pc passed reach known out few keeps passing low =
          let around = names_ahead ss falls t (level_after s t) ++ (names ++ named) in
          let level = few_after s vararg t around loops few keeps.1.0 in
          let k = j + made_by_stat s in
          let place = pc + stat_size cs back s closing t j in
          let ahead = labels_ahead cs back ss falls (closing_after s closing) outer (level_after s t) k place in
          let labels = ahead ++ (passed ++ reach.labels) in
          let all_low = both_land IsLow ahead (passed ++ reach.labels) (ahead_low cs back ss falls (closing_after s closing) outer (level_after s t) k place vararg (names_passed s names) named loops out level keeps.1.1) (both_land IsLow passed reach.labels passing low.labels) in
          room_as
          (room_append (stat_code cs back s closing t j pc (record { labels = labels; exit = reach.exit }))
          (stats_code cs back ss falls (closing_after s closing) outer (level_after s t) k place (passed_after s t pc passed) reach)
          (stat_room s hidden around loops closing t j pc (record { labels = labels; exit = reach.exit }) known.0 few keeps.0 level keeps.1.0 (record { labels = all_low; exit = low.exit }))
          (stats_room ss hidden (names_passed s names) named loops falls (closing_after s closing) outer (level_after s t) k place (passed_after s t pc passed) reach known.1 out level keeps.1.1 (passed_low s t pc passed few passing) low))
          (λ all within. let mine = all.0 within in (within, (mine, all.1 (level_room s t within mine))))

      block_room : (b : Block) → BlockRoom b
      block_room (Falls ss tokens line) hidden named loops closing outer t j pc reach known out few keeps low =
          room_as
          (room_append (stats_code cs back ss true closing outer t j pc [] reach) (close_code outer (closed_below ss outer t) line)
          (stats_room ss hidden [] named loops true closing outer t j pc [] reach known out few keeps tt low)
          (room_of_top (close_code outer (closed_below ss outer t) line) (close_top outer (closed_below ss outer t) line out)))
          (λ all within. all.0 within)
      block_room (Returns ss es tokens line) hidden named loops closing outer t j pc reach known out few keeps low =
          returned hidden (stats_code cs back ss false closing outer t j pc [] reach) ss (closings_after ss closing) es t (j + made_in_stats ss) line known.1 keeps.1.0
          (stats_room ss hidden [] named loops false closing outer t j pc [] reach known.0 out few keeps.0 tt low)

      open_room : (b : Block) → OpenRoom b
      open_room (Falls ss tokens line) hidden named loops closing t j pc reach known few keeps low = stats_room ss hidden [] named loops false closing t t j pc [] reach known few few keeps tt low
      open_room (Returns ss es tokens line) hidden named loops closing t j pc reach known few keeps low =
          returned hidden (stats_code cs back ss false closing t t j pc [] reach) ss (closings_after ss closing) es t (j + made_in_stats ss) line known.1 keeps.1.0
          (stats_room ss hidden [] named loops false closing t t j pc [] reach known.0 few few keeps.0 tt low)

    -- the block of a function

    start_low : ReachLow (record { labels = []; exit = None })
    start_low = record { labels = tt; exit = tt }

    pub whole_room : (b : Block) (params pc : ℕ) → BlockFinds b [] params ups → params ≤ 200 → BlockKeeps b true vararg params [] false → HasRoom stack (whole_code cs back b params pc) (params ≤ stack → BlockHasRoom cs stack b params)
    whole_room (Falls ss tokens line) params pc known few keeps =
        let level = levels_low ss true vararg params [] [] false few keeps in
        let last = one_return (levels_after ss params) 1 back.back (omega (arith, level)) (lit< tt) in
        room_as
        (room_append (stats_code cs back ss true false 0 params 0 pc [] (record { labels = []; exit = None })) (leaving_by Return (levels_after ss params) 1 back.back line ∷ [])
        (stats_room ss [] [] [] false true false 0 params 0 pc [] (record { labels = []; exit = None }) known (lit≤ tt) few keeps tt start_low)
        (room_of_top (leaving_by Return (levels_after ss params) 1 back.back line ∷ []) (omega (arith, last, level))))
        (λ all within. all.0 within)
    whole_room (Returns ss es tokens line) params pc known few keeps =
        block_room (Returns ss es tokens line) [] [] false false 0 params 0 pc (record { labels = []; exit = None }) known (lit≤ tt) few keeps start_low
