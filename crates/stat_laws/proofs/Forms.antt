-- Blocks, and the statements that have some: `do`, `if` and `while`.
use Rattle.std.proofs.Common.{◌≡◌, ℕ, zero, suc, ◌+◌, ◌<◌, ◌≤◌, Bool, true, false, cond, List, [], ◌∷◌, ◌++◌, length, Option, Some, None, refl, sym, ap, subst, ◌∙◌, arith, append_assoc}
use Rattle.std.proofs.lemmas.List.{length-map}
use Rattle.std.specs.Prelude.{nat_eq, nat_lt, ◌||◌}
use Rattle.int_core.specs.Value.{Value, known, nil, shape, holds}
use Rattle.int_core.specs.Ask.{Captured}
use Rattle.tree_core.specs.Tree.{Block, Falls, Stats, EndStats, Empty, Do, While, If, IfElse, Label, Goto, Break, Arms, EndArms, MoreArms, Exp}
use Rattle.tree_activation.specs.Work.{complete, choose, evaluate, give, run, leave_scope, Work, Pending, Passed, falls_off, if_test, while_test, looping, Activation, State}
use Rattle.tree_activation.specs.Work as tree
use Rattle.tree_activation.specs.Asking.{first, go}
use Rattle.tree_activation.specs.Statements.{point_of, begins}
use Rattle.tree_activation.specs.Jumps.{goes_to, breaks}
use Rattle.machine_core.specs.Talk.{before}
use Rattle.code_of.specs.Coded.{Coded, jump_over, jump_back}
use Rattle.code_of.specs.Expressions.{made_by}
use Rattle.code_of.specs.Conditions.{test_code}
use Rattle.code_of.specs.Jumps.{Reach}
use Rattle.code_of.specs.Levels.{made_in_arms, made_in_stats, made_in_block, closings_after, may_hold, closed_below}
use Rattle.tree_terms.specs.Levels.{levels_after}
use Rattle.code_of.specs.Parts.{close_code, past_size, past}
use Rattle.code_of.specs.Sizes.{arms_size, stats_size, block_size}
use Rattle.code_of.specs.Statements.{in_loop, arms_code, stats_code, block_code}
use Rattle.list_laws.proofs.Items.{append_nil}
use Rattle.exp_laws.proofs.Registers.{AllUnder, HeldBelow, HeldUnder, Rel, Ascends}
use Rattle.exp_laws.specs.Setting.{Hidden, Setting, with_scope, scoped}
use Rattle.exp_laws.proofs.Talking.{Agree, go_left, go_right, of_tree, of_code}
use Rattle.exp_laws.proofs.Placing.{HasAt, has_front, has_back}
use Rattle.exp_laws.specs.Placed.{IsPlaced}
use Rattle.exp_laws.proofs.TestForms.{TestSame, truth_is}
use Rattle.exp_laws.proofs.Going.{next_there}
use Rattle.exp_laws.proofs.Tests.{jump_step}
use Rattle.tree_activation.specs.Activation.{step}
use Rattle.stat_laws.proofs.Ways.{way}
use Rattle.stat_laws.proofs.Closing.{AllBelow, NothingHeld, nothing_held, ends_goes}
use Rattle.stat_laws.proofs.Standing.{NoneOpen, no_numbers, strong, numbers, AllFrom, from_lower, from_more, Parted, part, ascends_under, Standing, GoesOn, goes_fewer, goes_from, back_goes, lands_ahead}
use Rattle.stat_laws.proofs.Naming.{BlockIsNamed, ArmsAreNamed}
use Rattle.tree_terms.specs.Labels.{Named}
use Rattle.stat_laws.specs.Scoped.{ArmsArePlaced, StatsArePlaced, BlockIsPlaced}
use Rattle.stat_laws.proofs.Hiding.{low_there, rel_unscoped, rel_scoped, has_inner, jumps_inner}
use Rattle.stat_laws.proofs.Scoping.{first_false, second_false, none_made, unmarked_after, stats_scoped}
use Rattle.code_of.proofs.Sizes.{test_sized, past_sized, block_sized, arms_sized, stats_sized}
use Rattle.stat_laws.proofs.Labels.{Jumps, jumps_within}
use Rattle.stat_laws.proofs.Blocks.{has_some, no_some, Added, added_all, closeds_after, StatLaw, StatsLaw, begins_block}
use Rattle.tree_terms.proofs.Levels.{levels_rise}

module _ (S : Setting) where
  -- the law of conditions
  abbrev pub TestLaw : Type 0
  TestLaw = (ps : List Pending) (e : Exp) → TestSame S ps e

  -- a jump past some code
  pub jump_past : (n m line pc : ℕ) (more : List Coded) (ps : List Pending) (regs : List Value) (c : Captured) (opened : ℕ) (s : State) → HasAt S pc (jump_over m line ∷ more) → pc + 1 + m < length S.code.own.code
      → Agree S n s (before (of_code S ps (pc + 1 + m) regs opened) c) → Agree S n s (before (of_code S ps pc regs opened) c)
  jump_past n m line pc more ps regs c opened s has inside h =
      let far : pc + (m + 1) ≡ pc + 1 + m = omega arith in
      let there = next_there S (pc + (m + 1)) (omega (arith, inside)) in
      go_right S n s _ (before (of_code S ps (pc + (m + 1)) regs opened) c) (jump_step S.code (of_code S ps pc regs opened) c m there.0 has.0 (omega (arith, inside, S.short)) there.1)
      (subst (λ q. Agree S n s (before (of_code S ps q regs opened) c)) (sym far) h)

  -- what stands behind the arms of an `if`
  arms_behind : (back : ℕ) (arms : Arms) (code : List Coded) (closing : Bool) (t j pc line : ℕ) (reach : Reach) → HasAt S pc (arms_code S.code.own.constants (way S back) arms code closing t j pc line reach)
      → HasAt S (pc + arms_size S.code.own.constants (way S back) arms (length code) closing t j) code
  arms_behind back EndArms code closing t j pc line reach has = let there : pc ≡ pc + 0 = omega arith in subst (λ q. HasAt S q code) there has
  arms_behind back (MoreArms e block arms) code closing t j pc line reach has =
      let cs = S.code.own.constants in
      let i = j + made_by e + made_in_block block in
      let lt = length (test_code cs e true 0 t j) in
      let lb = block_size cs (way S back) block closing t t (j + made_by e) in
      let lo = arms_size cs (way S back) arms (length code) closing t i in
      let skip = past_size (lo + length code) in
      let inner = block_code cs (way S back) block closing t t (j + made_by e) (pc + lt) reach in
      let rest = arms_code cs (way S back) arms code closing t i (pc + lt + lb + skip) line reach in
      let test = test_code cs e true (length inner + length (past rest line)) t j in
      let a = block_sized cs (way S back) block closing t t (j + made_by e) (pc + lt) reach in
      let b = arms_sized cs (way S back) arms code closing t i (pc + lt + lb + skip) line reach in
      let d = past_sized rest line ∙ ap past_size b in
      let l = test_sized cs e true (length inner + length (past rest line)) t j in
      let at_both = has_back S pc test (inner ++ (past rest line ++ rest)) has in
      let at_past = has_back S (pc + length test) inner (past rest line ++ rest) at_both in
      let at_rest = has_back S (pc + length test + length inner) (past rest line) rest at_past in
      let same : pc + length test + length inner + length (past rest line) ≡ pc + lt + lb + skip = omega (arith, a, d, l) in
      let there : pc + lt + lb + skip + lo ≡ pc + (lt + (lb + (skip + lo))) = omega arith in
      subst (λ q. HasAt S q code) there (arms_behind back arms code closing t i (pc + lt + lb + skip) line reach (subst (λ q. HasAt S q rest) same at_rest))

  module _ (back : ℕ) where
    abbrev pub BlockLaw : Block → Type 0
    BlockLaw block =
        (n : ℕ) (closing : Bool) (closed : List ℕ) (outer t j pc : ℕ) (named : List Named) (loops : Bool) (reach : Reach) (k : List Work)
        → n ≤ S.bound → HasAt S pc (block_code S.code.own.constants (way S back) block closing outer t j pc reach) → BlockIsPlaced S block closing t j named loops
        → BlockIsNamed S.lines S.code (way S back) block closing outer t j pc → pc + block_size S.code.own.constants (way S back) block closing outer t j < length S.code.own.code → AllBelow closed outer → AllUnder S.hidden.integers outer → outer ≤ t → closing ≡ has_some closed
        → Jumps S back n pc (pc + block_size S.code.own.constants (way S back) block closing outer t j) outer closed named loops reach k
        → GoesOn S n outer closed complete k (pc + block_size S.code.own.constants (way S back) block closing outer t j)
        → (m : ℕ) → m ≤ n → (ps : List Pending) (env regs : List Value) (c : Captured) (opened : ℕ) → Standing S t closed ps env c regs → HeldBelow c.held outer
        → Agree S m (tree.at (run (point_of block outer)) (of_tree S ps env c) k) (before (of_code S ps pc regs opened) c)

    -- a block that falls off its end
    pub falls_goes : (ss : Stats) (tokens line : ℕ) → ((outer : ℕ) (closed : List ℕ) (k : List Work) → StatsLaw (scoped S (may_hold ss) outer) back (falls_off line) true outer closed k (λ ss. refl) ss) → BlockLaw (Falls ss tokens line)
    falls_goes ss tokens line law n closing closed outer t j pc named loops reach k fewer has placed titles inside under clear outer_low plain jumps done m le ps env regs c opened st below =
        (law outer closed k n pc (pc + block_size S.code.own.constants (way S back) (Falls ss tokens line) closing outer t j) closing closed t j pc [] [] [] named loops reach
        (begins_block (scoped S (may_hold ss) outer) back (falls_off line) true outer closed k (λ ss. refl) n (pc + block_size S.code.own.constants (way S back) (Falls ss tokens line) closing outer t j) ss closing t j pc named loops reach fewer
        (has_inner S within pc code (has_front S pc code close has)) placed_within (omega arith) inside
        (jumps_inner S within out back n pc (pc + block_size S.code.own.constants (way S back) (Falls ss tokens line) closing outer t j) outer closed named loops reach k jumps) under clear titles outer_low plain
        (record { full = full; low = λ is labels. low labels }))).0 m le ps env regs c opened (record { numbered = st.numbered; size = st.size; rel = rel_scoped S.hidden (may_hold ss) outer S.code.own.stack ps env c regs below st.rel })
      where
        within : Hidden
        within = with_scope S.hidden (may_hold ss) outer

        out : (ps : List Pending) (env : List Value) (c : Captured) (regs : List Value) → Rel within S.code.own.stack ps env c regs → Rel S.hidden S.code.own.stack ps env c regs
        out ps env c regs rel = rel_unscoped S.hidden (may_hold ss) outer S.code.own.stack ps env c regs rel

        -- no function is made in the scope, where none of its locals may be captured
        placed_within : StatsArePlaced (scoped S (may_hold ss) outer) ss true closing t j [] named loops
        placed_within = stats_scoped (may_hold ss) outer false S ss true closing t j [] named loops placed (none_made ss)

        code : List Coded
        code = stats_code S.code.own.constants (way S back) ss true closing outer t j pc [] reach

        close : List Coded
        close = close_code outer (closed_below ss outer t) line

        size : ℕ
        size = stats_size S.code.own.constants (way S back) ss closing t j

        at_end : HasAt S (pc + size) close
        at_end = subst (λ q. HasAt S (pc + q) close) (stats_sized S.code.own.constants (way S back) ss true closing outer t j pc [] reach) (has_back S pc code close has)

        all : Added t closed (closeds_after ss t closed)
        all = added_all ss t closed

        joined : pc + (size + length close) ≡ pc + size + length close
        joined = omega arith

        -- whatever is in scope at the end
        leaves : (m : ℕ) → m ≤ n → (more : List ℕ) (ps : List Pending) (env regs : List Value) (c : Captured) (opened : ℕ) → numbers ps ≡ closed ++ more → AllFrom outer more → outer ≤ length env → length env ≤ levels_after ss t
            → (may_hold ss ≡ false → numbers ps ≡ closed) → HeldUnder c.held within.free_from → Rel S.hidden S.code.own.stack ps env c regs
            → Agree S m (tree.at (leave_scope outer line (known nil) complete) (of_tree S ps env c) k) (before (of_code S ps (pc + size) regs opened) c)
        leaves m le more ps env regs c opened numbered from lo hi unmarked low rel =
            let parted = part outer closed more ps numbered from in
            ends_goes S m outer (closed_below ss outer t) line (pc + size) parted.base complete k at_end (omega (arith, lo, rel.fits, S.small)) (omega (arith, inside))
            (ascends_under 0 (length env) outer parted.base parted.rest (subst (λ l. Ascends 0 l (length env)) parted.whole rel.ascends) (subst (λ l. AllBelow l outer) (sym parted.numbered) under))
            (λ env1 regs1 c1 opened1 size1 rel1. subst (λ q. Agree S m (tree.at complete (of_tree S parted.base env1 c1) k) (before (of_code S parted.base q regs1 opened1) c1)) joined
            (done m le parted.base env1 regs1 c1 opened1 (record { numbered = parted.numbered; size = size1; rel = rel1 })))
            ps parted.grown env regs c opened lo (nothing m parted (may_hold ss) refl) rel
          where
            nothing : (m : ℕ) (parted : Parted outer closed ps) (captures : Bool) → may_hold ss ≡ captures → nat_eq outer (cond captures (levels_after ss t) outer) ≡ true → NothingHeld S outer parted.base ps c
            nothing m parted true is e = nothing_held S outer (levels_after ss t) parted.base ps parted.grown env regs c lo hi rel e
            nothing m parted false is e = (
              low_there S.hidden.free_from (may_hold ss) outer c.held low is,
              sym (length-map ps (λ p. p.number)) ∙ ap length (unmarked is ∙ sym parted.numbered) ∙ length-map parted.base (λ p. p.number),
            )

        full : (labels : List Passed) → GoesOn (scoped S (may_hold ss) outer) n (levels_after ss t) (closeds_after ss t closed) (run (record { rest = EndStats; ending = falls_off line; level = outer; labels = labels })) k (pc + size)
        full labels m le ps env regs c opened st =
            let rises = levels_rise ss t in
            let size1 = st.size in
            go_left S m _ (tree.at (leave_scope outer line (known nil) complete) (of_tree S ps env c) k) _ refl
            (leaves m le all.more ps env regs c opened (st.numbered ∙ all.whole) (from_lower outer t all.more outer_low all.from) (omega (arith, rises, outer_low, size1)) (omega (arith, size1))
            (λ is. st.numbered ∙ unmarked_after ss t closed (second_false (nat_lt 0 (made_in_stats ss)) (closings_after ss false) is)) st.rel.hides.low (out ps env c regs st.rel))

        low : (labels : List Passed) → GoesOn (scoped S (may_hold ss) outer) n outer closed (run (record { rest = EndStats; ending = falls_off line; level = outer; labels = labels })) k (pc + size)
        low labels m le ps env regs c opened st =
            let rises = levels_rise ss t in
            let size1 = st.size in
            go_left S m _ (tree.at (leave_scope outer line (known nil) complete) (of_tree S ps env c) k) _ refl
            (leaves m le [] ps env regs c opened (st.numbered ∙ sym (append_nil closed)) tt (omega (arith, size1)) (omega (arith, rises, outer_low, size1)) (λ is. st.numbered) st.rel.hides.low (out ps env c regs st.rel))

    pub do_goes : (line : ℕ) (block : Block) → BlockLaw block → StatLaw S back (Do line block)
    do_goes line block law n closing closed t j pc named loops reach k fewer has placed titles inside under clear plain jumps done ps env regs c opened s st standing =
        go_left S n s (tree.at (run (point_of block (length env))) (of_tree S ps env c) k) _ st
        (subst (λ u. Agree S n (tree.at (run (point_of block u)) (of_tree S ps env c) k) (before (of_code S ps pc regs opened) c)) (sym standing.size)
        (law n closing closed t t j pc named loops reach k fewer has placed titles inside under clear (omega arith) plain (jumps refl) done n (omega arith) ps env regs c opened standing (subst (HeldBelow c.held) standing.size standing.rel.held)))

    -- jumps: where no local of the function has a cell and no variable is to be closed, nothing is open

    none_open : (closing : Bool) (closed : List ℕ) (ps : List Pending) (env : List Value) (c : Captured) (regs : List Value) {t : ℕ} → closing ≡ has_some closed → Standing S t closed ps env c regs → (S.hidden.celled || closing) ≡ false → NoneOpen S ps c
    none_open closing closed ps env c regs plain standing e =
        (no_numbers ps (standing.numbered ∙ no_some closed (sym plain ∙ second_false S.hidden.celled closing e)), standing.rel.hides.bare (first_false S.hidden.celled closing e))

    pub goto_goes : (line : ℕ) (name : _) → StatLaw S back (Goto line name)
    goto_goes line name n closing closed t j pc named loops reach k fewer has placed titles inside under clear plain jumps done ps env regs c opened s st standing =
        let size = standing.size in
        (jumps refl).gotos name.text placed n line pc ps env regs c opened [] s (omega arith) (S.hidden.celled || closing) (none_open closing closed ps env c regs plain standing) has (omega arith) (omega arith) (standing.numbered ∙ sym (append_nil closed)) tt (omega arith) standing.rel st

    pub break_goes : (line : ℕ) → StatLaw S back (Break line)
    break_goes line n closing closed t j pc named loops reach k fewer has placed titles inside under clear plain jumps done ps env regs c opened s st standing =
        let size = standing.size in
        (jumps refl).exits placed n line pc ps env regs c opened [] s (omega arith) (S.hidden.celled || closing) (none_open closing closed ps env c regs plain standing) has (omega arith) (omega arith) (standing.numbered ∙ sym (append_nil closed)) tt (omega arith) standing.rel st

    pub empty_stat_goes : (line : ℕ) → StatLaw S back (Empty line)
    empty_stat_goes line n closing closed t j pc named loops reach k fewer has placed titles inside under clear plain jumps done ps env regs c opened s st standing =
        let there : pc + 0 ≡ pc = omega arith in
        go_left S n s (tree.at complete (of_tree S ps env c) k) _ st (goes_from S n t closed complete k (pc + 0) pc there done n (omega arith) ps env regs c opened standing)

    pub label_stat_goes : (line : ℕ) (name : _) → StatLaw S back (Label line name)
    label_stat_goes line name n closing closed t j pc named loops reach k fewer has placed titles inside under clear plain jumps done ps env regs c opened s st standing =
        let there : pc + 0 ≡ pc = omega arith in
        go_left S n s (tree.at complete (of_tree S ps env c) k) _ st (goes_from S n t closed complete k (pc + 0) pc there done n (omega arith) ps env regs c opened standing)

    -- out of a loop's block, around which more locals are in scope than around the loop
    pub loop_jumps : (w : Work) (n lo hi lo' hi' t outer exit : ℕ) (closed extra : List ℕ) (named : List Named) (loops : Bool) (reach : Reach) (k : List Work)
        → ((name : List ℕ) (line : ℕ) (a : Activation) → goes_to name line a (w ∷ k) ≡ goes_to name line a k) → ((line : ℕ) (a : Activation) → breaks line a (w ∷ k) ≡ go (leave_scope t line (known nil) complete) a k)
        → lo ≤ lo' → hi' ≤ hi → hi' ≤ exit → exit < length S.code.own.code → t ≤ outer → AllFrom t extra → AllBelow closed t
        → Jumps S back n lo hi t closed named loops reach k → GoesOn S n t closed complete k exit → Jumps S back n lo' hi' outer (closed ++ extra) named true (in_loop reach exit t) (w ∷ k)
    loop_jumps w n lo hi lo' hi' t outer exit closed extra named loops reach k passes ends a b far inside low from under jumps done =
        let within = jumps_within S back n n lo hi lo' hi' t outer closed extra named loops reach k (omega arith) a b low from jumps in
        record {
          gotos = λ name ok m line pc ps env regs c opened more s fewer closes shut has above below numbered up size rel st.
              within.gotos name ok m line pc ps env regs c opened more s fewer closes shut has above below numbered up size rel (st ∙ passes name line (of_tree S ps env c));
          exits = λ ok m line pc ps env regs c opened more s fewer closes shut has above below numbered up size rel st.
              lands_ahead S m (record { place = exit; level = t }) closed pc line ps env regs c opened s k inside (extra ++ more) (numbered ∙ append_assoc closed extra more)
              (from_more t extra more from (from_lower t outer more low up)) under (omega arith) rel closes shut has (omega arith) complete (omega arith) (st ∙ ends line (of_tree S ps env c)) (goes_fewer S m n t closed complete k exit fewer done);
        }

    module _ (tests : TestLaw) where
      -- `while`: each round is paid for, so the law at fewer asks serves the rounds to come
      pub while_goes : (line : ℕ) (e : Exp) (block : Block) → BlockLaw block → StatLaw S back (While line e block)
      while_goes line e block law n closing closed t j pc named loops reach k fewer has placed titles inside under clear plain jumps done ps env regs c opened s st standing =
          go_left S n s (tree.at (evaluate e) (of_tree S ps env c) (while_test line e block ∷ k)) _ st (strong Loop round n (omega arith) ps env regs c opened standing)
        where
          lt : ℕ
          lt = length (test_code S.code.own.constants e true 0 t j)

          lb : ℕ
          lb = block_size S.code.own.constants (way S back) block closing t t (j + made_by e)

          exit : ℕ
          exit = pc + (lt + (lb + 1))

          around : Reach
          around = in_loop reach (pc + (lt + (lb + 1))) t

          inner : List Coded
          inner = block_code S.code.own.constants (way S back) block closing t t (j + made_by e) (pc + lt) around

          sized : length inner ≡ lb
          sized = block_sized S.code.own.constants (way S back) block closing t t (j + made_by e) (pc + lt) around

          test : List Coded
          test = test_code S.code.own.constants e true (length inner + 1) t j

          tested : length test ≡ lt
          tested = test_sized S.code.own.constants e true (length inner + 1) t j

          ends : List Coded
          ends = jump_back (length test + length inner + 1) line ∷ []

          at_both : HasAt S (pc + lt) (inner ++ ends)
          at_both = subst (λ q. HasAt S (pc + q) (inner ++ ends)) tested (has_back S pc test (inner ++ ends) has)

          at_block : HasAt S (pc + lt) inner
          at_block = has_front S (pc + lt) inner ends at_both

          at_end : HasAt S (pc + lt + lb) ends
          at_end = subst (λ q. HasAt S (pc + lt + q) ends) sized (has_back S (pc + lt) inner ends at_both)

          Loop : ℕ → Type 0
          Loop m = m ≤ n → (ps : List Pending) (env regs : List Value) (c : Captured) (opened : ℕ) → Standing S t closed ps env c regs
              → Agree S m (tree.at (evaluate e) (of_tree S ps env c) (while_test line e block ∷ k)) (before (of_code S ps pc regs opened) c)

          -- the block is done: the way back is paid for
          again : (m : ℕ) → m ≤ n → ((l : ℕ) → l < m → Loop l) → GoesOn S m t closed complete (looping line e block t ∷ k) (pc + lt + lb)
          again m le loop zero less ps env regs c opened st = tt
          again m le loop (suc l) less ps env regs c opened st =
              go_left S (suc l) _ (tree.at (tree.pay line (evaluate e)) (of_tree S ps env c) (while_test line e block ∷ k)) _ refl
              (back_goes S (length test + length inner + 1) pc line (pc + lt + lb) ps (omega arith) (omega (arith, tested, sized, inside, S.short)) (omega (arith, tested, sized)) at_end (omega (arith, inside)) l _ (evaluate e) env regs c opened (while_test line e block ∷ k) refl st.rel
              (λ env1 regs1 c1 size1 rel1. loop l (omega arith) (omega arith) ps env1 regs1 c1 opened (record { numbered = st.numbered; size = size1 ∙ st.size; rel = rel1 })))

          in_block : (m : ℕ) → m ≤ n → Jumps S back m (pc + lt) (pc + lt + lb) t closed named true around (looping line e block t ∷ k)
          in_block m le =
              subst (λ l. Jumps S back m (pc + lt) (pc + lt + lb) t l named true around (looping line e block t ∷ k)) (append_nil closed)
              (loop_jumps (looping line e block t) m pc exit (pc + lt) (pc + lt + lb) t t exit closed [] named loops reach k (λ name line a. refl) (λ line a. refl) (omega arith) (omega arith) (omega arith) inside (omega arith) tt under
              (subst (λ l. Jumps S back m pc exit t l named loops reach k) (append_nil closed) (jumps_within S back n m pc exit pc exit t t closed [] named loops reach k le (omega arith) (omega arith) (omega arith) tt (jumps refl)))
              (goes_fewer S m n t closed complete k exit le done))

          decides : (vs : List Value) (b : Bool) (ps : List Pending) (env : List Value) (c : Captured) → holds (shape (first vs)) ≡ b
              → step (tree.at (give vs) (of_tree S ps env c) (while_test line e block ∷ k)) ≡ cond b (begins block (of_tree S ps env c) (looping line e block (length env) ∷ k)) (go complete (of_tree S ps env c) k)
          decides vs b ps env c is = ap (λ b. cond b (begins block (of_tree S ps env c) (looping line e block (length env) ∷ k)) (go complete (of_tree S ps env c) k)) is

          round : (m : ℕ) → ((l : ℕ) → l < m → Loop l) → Loop m
          round m loop le ps env regs c opened st =
              let size = st.size in
              tests ps e true (length inner + 1) t j m pc opened env regs c (while_test line e block ∷ k) (omega (arith, fewer, le)) (has_front S pc test (inner ++ ends) has)
              (subst (λ u. IsPlaced S e u j) (sym st.size) placed.0) (omega (arith, inside, tested, sized)) (omega arith) placed.1.0 st.rel
              (λ vs env1 regs1 c1 o1 af is. go_left S m _ (tree.at (run (point_of block (length env1))) (of_tree S ps env1 c1) (looping line e block (length env1) ∷ k)) _ (decides vs true ps env1 c1 (truth_is S ps _ true is))
              (subst (λ u. Agree S m (tree.at (run (point_of block u)) (of_tree S ps env1 c1) (looping line e block u ∷ k)) (before (of_code S ps (pc + length test) regs1 o1) c1)) (sym (af.size ∙ size))
              (subst (λ q. Agree S m (tree.at (run (point_of block t)) (of_tree S ps env1 c1) (looping line e block t ∷ k)) (before (of_code S ps (pc + q) regs1 o1) c1)) (sym tested)
              (law m closing closed t t (j + made_by e) (pc + lt) named true around (looping line e block t ∷ k) (omega (arith, fewer, le)) at_block placed.1.1 titles (omega (arith, inside)) under clear (omega arith) plain
              (in_block m le) (again m le loop) m (omega arith) ps env1 regs1 c1 o1 (record { numbered = st.numbered; size = af.size ∙ size; rel = af.rel }) (subst (HeldBelow c1.held) (af.size ∙ size) af.rel.held)))))
              (λ vs env1 regs1 c1 o1 af is. go_left S m _ (tree.at complete (of_tree S ps env1 c1) k) _ (decides vs false ps env1 c1 (truth_is S ps _ false is))
              (let out : pc + length test + (length inner + 1) ≡ exit = omega (arith, tested, sized) in
              subst (λ q. Agree S m (tree.at complete (of_tree S ps env1 c1) k) (before (of_code S ps q regs1 o1) c1)) (sym out)
              (done m le ps env1 regs1 c1 o1 (record { numbered = st.numbered; size = af.size ∙ size; rel = af.rel }))))

      -- `if`: the arms one after another, and then what stands behind them

      abbrev pub ArmsLaw : Arms → Type 0
      ArmsLaw arms =
          (otherwise : Option Block) (code : List Coded) (n : ℕ) (closing : Bool) (closed : List ℕ) (t j pc line : ℕ) (named : List Named) (loops : Bool) (reach : Reach) (k : List Work)
          → n ≤ S.bound → HasAt S pc (arms_code S.code.own.constants (way S back) arms code closing t j pc line reach) → ArmsArePlaced S arms closing t j named loops
          → ArmsAreNamed S.lines S.code (way S back) arms (length code) closing t j pc → pc + (arms_size S.code.own.constants (way S back) arms (length code) closing t j + length code) < length S.code.own.code → AllBelow closed t → AllUnder S.hidden.integers t → closing ≡ has_some closed
          → Jumps S back n pc (pc + (arms_size S.code.own.constants (way S back) arms (length code) closing t j + length code)) t closed named loops reach k
          → GoesOn S n t closed complete k (pc + (arms_size S.code.own.constants (way S back) arms (length code) closing t j + length code))
          → GoesOn S n t closed (choose EndArms otherwise) k (pc + arms_size S.code.own.constants (way S back) arms (length code) closing t j)
          → GoesOn S n t closed (choose arms otherwise) k pc

      pub no_arms_goes : ArmsLaw EndArms
      no_arms_goes otherwise code n closing closed t j pc line named loops reach k fewer has placed titles inside under clear plain jumps done others =
          let there : pc + 0 ≡ pc = omega arith in goes_from S n t closed (choose EndArms otherwise) k (pc + 0) pc there others

      past_goes : (rest : List Coded) (n t line pc : ℕ) (closed : List ℕ) (k : List Work) → HasAt S pc (past rest line ++ rest) → pc + (length (past rest line) + length rest) < length S.code.own.code
          → GoesOn S n t closed complete k (pc + (length (past rest line) + length rest)) → GoesOn S n t closed complete k pc
      past_goes [] n t line pc closed k has inside done = let there : pc + 0 ≡ pc = omega arith in goes_from S n t closed complete k (pc + 0) pc there done
      past_goes (x ∷ rest) n t line pc closed k has inside done = λ m le ps env regs c opened st.
          let far : pc + 1 + length (x ∷ rest) ≡ pc + (1 + length (x ∷ rest)) = omega arith in
          jump_past m (length (x ∷ rest)) line pc (x ∷ rest) ps regs c opened _ has (omega (arith, inside))
          (subst (λ q. Agree S m (tree.at complete (of_tree S ps env c) k) (before (of_code S ps q regs opened) c)) (sym far) (done m le ps env regs c opened st))

      pub more_arms_goes : (e : Exp) (block : Block) (arms : Arms) → BlockLaw block → ArmsLaw arms → ArmsLaw (MoreArms e block arms)
      more_arms_goes e block arms law more otherwise code n closing closed t j pc line named loops reach k fewer has placed titles inside under clear plain jumps done others m le ps env regs c opened st =
          let size = st.size in
          go_left S m _ (tree.at (evaluate e) (of_tree S ps env c) (if_test block arms otherwise ∷ k)) _ refl
          (tests ps e true (length inner + length (past rest line)) t j m pc opened env regs c (if_test block arms otherwise ∷ k) (omega (arith, fewer, le)) (has_front S pc test (inner ++ (past rest line ++ rest)) has)
          (subst (λ u. IsPlaced S e u j) (sym st.size) placed.0) (omega (arith, inside, tested, inner_sized, skip_sized)) (omega arith) placed.1.0 st.rel
          (λ vs env1 regs1 c1 o1 af is. go_left S m _ (tree.at (run (point_of block (length env1))) (of_tree S ps env1 c1) k) _ (decides vs true ps env1 c1 (truth_is S ps _ true is))
          (subst (λ u. Agree S m (tree.at (run (point_of block u)) (of_tree S ps env1 c1) k) (before (of_code S ps (pc + length test) regs1 o1) c1)) (sym (af.size ∙ size))
          (subst (λ q. Agree S m (tree.at (run (point_of block t)) (of_tree S ps env1 c1) k) (before (of_code S ps (pc + q) regs1 o1) c1)) (sym tested)
          (law m closing closed t t (j + made_by e) (pc + lt) named loops reach k (omega (arith, fewer, le)) at_block placed.1.1.0 titles.0 (omega (arith, inside)) under clear (omega arith) plain (within m (pc + lt) (pc + lt + lb) le (omega arith) (omega arith))
          (goes_fewer S m n t closed complete k (pc + lt + lb) le done_block) m (omega arith) ps env1 regs1 c1 o1 (record { numbered = st.numbered; size = af.size ∙ size; rel = af.rel }) (subst (HeldBelow c1.held) (af.size ∙ size) af.rel.held)))))
          (λ vs env1 regs1 c1 o1 af is. go_left S m _ (tree.at (choose arms otherwise) (of_tree S ps env1 c1) k) _ (decides vs false ps env1 c1 (truth_is S ps _ false is))
          (let there : pc + length test + (length inner + length (past rest line)) ≡ pc + lt + lb + skip = omega (arith, tested, inner_sized, skip_sized) in
          subst (λ q. Agree S m (tree.at (choose arms otherwise) (of_tree S ps env1 c1) k) (before (of_code S ps q regs1 o1) c1)) (sym there)
          (more otherwise code m closing closed t (j + made_by e + made_in_block block) (pc + lt + lb + skip) line named loops reach k (omega (arith, fewer, le)) at_rest placed.1.1.1 titles.1 (omega (arith, inside)) under clear plain
          (within m (pc + lt + lb + skip) (pc + lt + lb + skip + (lo + length code)) le (omega arith) (omega arith))
          (goes_from S m t closed complete k exit (pc + lt + lb + skip + (lo + length code)) exit_rest (goes_fewer S m n t closed complete k exit le done))
          (goes_from S m t closed (choose EndArms otherwise) k (pc + (lt + (lb + (skip + lo)))) (pc + lt + lb + skip + lo) others_at (goes_fewer S m n t closed (choose EndArms otherwise) k (pc + (lt + (lb + (skip + lo)))) le others))
          m (omega arith) ps env1 regs1 c1 o1 (record { numbered = st.numbered; size = af.size ∙ size; rel = af.rel })))))
        where
          lt : ℕ
          lt = length (test_code S.code.own.constants e true 0 t j)

          lb : ℕ
          lb = block_size S.code.own.constants (way S back) block closing t t (j + made_by e)

          lo : ℕ
          lo = arms_size S.code.own.constants (way S back) arms (length code) closing t (j + made_by e + made_in_block block)

          skip : ℕ
          skip = past_size (arms_size S.code.own.constants (way S back) arms (length code) closing t (j + made_by e + made_in_block block) + length code)

          inner : List Coded
          inner = block_code S.code.own.constants (way S back) block closing t t (j + made_by e) (pc + lt) reach

          rest : List Coded
          rest = arms_code S.code.own.constants (way S back) arms code closing t (j + made_by e + made_in_block block) (pc + lt + lb + skip) line reach

          test : List Coded
          test = test_code S.code.own.constants e true (length inner + length (past rest line)) t j

          tested : length test ≡ lt
          tested = test_sized S.code.own.constants e true (length inner + length (past rest line)) t j

          inner_sized : length inner ≡ lb
          inner_sized = block_sized S.code.own.constants (way S back) block closing t t (j + made_by e) (pc + lt) reach

          rest_sized : length rest ≡ lo + length code
          rest_sized = arms_sized S.code.own.constants (way S back) arms code closing t (j + made_by e + made_in_block block) (pc + lt + lb + skip) line reach

          skip_sized : length (past rest line) ≡ skip
          skip_sized = past_sized rest line ∙ ap past_size rest_sized

          at_both : HasAt S (pc + lt) (inner ++ (past rest line ++ rest))
          at_both = subst (λ q. HasAt S (pc + q) (inner ++ (past rest line ++ rest))) tested (has_back S pc test (inner ++ (past rest line ++ rest)) has)

          at_block : HasAt S (pc + lt) inner
          at_block = has_front S (pc + lt) inner (past rest line ++ rest) at_both

          at_past : HasAt S (pc + lt + lb) (past rest line ++ rest)
          at_past = subst (λ q. HasAt S (pc + lt + q) (past rest line ++ rest)) inner_sized (has_back S (pc + lt) inner (past rest line ++ rest) at_both)

          at_rest : HasAt S (pc + lt + lb + skip) rest
          at_rest = subst (λ q. HasAt S (pc + lt + lb + q) rest) skip_sized (has_back S (pc + lt + lb) (past rest line) rest at_past)

          exit : ℕ
          exit = pc + (lt + (lb + (skip + lo)) + length code)

          exit_past : pc + (lt + (lb + (skip + lo)) + length code) ≡ pc + lt + lb + (length (past rest line) + length rest)
          exit_past = omega (arith, skip_sized, rest_sized)

          exit_rest : pc + (lt + (lb + (skip + lo)) + length code) ≡ pc + lt + lb + skip + (lo + length code)
          exit_rest = omega arith

          others_at : pc + (lt + (lb + (skip + lo))) ≡ pc + lt + lb + skip + lo
          others_at = omega arith

          done_block : GoesOn S n t closed complete k (pc + lt + lb)
          done_block = past_goes rest n t line (pc + lt + lb) closed k at_past (omega (arith, inside, exit_past)) (goes_from S n t closed complete k exit (pc + lt + lb + (length (past rest line) + length rest)) exit_past done)

          within : (m from to : ℕ) → m ≤ n → pc ≤ from → to ≤ exit → Jumps S back m from to t closed named loops reach k
          within m from to le a b = subst (λ l. Jumps S back m from to t l named loops reach k) (append_nil closed) (jumps_within S back n m pc exit from to t t closed [] named loops reach k le a b (omega arith) tt jumps)

          decides : (vs : List Value) (b : Bool) (ps : List Pending) (env : List Value) (c : Captured) → holds (shape (first vs)) ≡ b
              → step (tree.at (give vs) (of_tree S ps env c) (if_test block arms otherwise ∷ k)) ≡ cond b (begins block (of_tree S ps env c) k) (go (choose arms otherwise) (of_tree S ps env c) k)
          decides vs b ps env c is = ap (λ b. cond b (begins block (of_tree S ps env c) k) (go (choose arms otherwise) (of_tree S ps env c) k)) is

      pub if_goes : (line : ℕ) (arms : Arms) → ArmsLaw arms → StatLaw S back (If line arms)
      if_goes line arms law n closing closed t j pc named loops reach k fewer has placed titles inside under clear plain jumps done ps env regs c opened s st standing =
          let size = arms_size S.code.own.constants (way S back) arms 0 closing t j in
          let none : pc + size ≡ pc + (size + 0) = omega arith in
          let done' = goes_from S n t closed complete k (pc + size) (pc + (size + 0)) none done in
          go_left S n s (tree.at (choose arms None) (of_tree S ps env c) k) _ st
          (law None [] n closing closed t j pc line named loops reach k fewer has placed titles (omega (arith, inside)) under clear plain (subst (λ q. Jumps S back n pc q t closed named loops reach k) none (jumps refl)) done'
          (λ m le ps env regs c opened st. go_left S m _ (tree.at complete (of_tree S ps env c) k) _ refl (done m le ps env regs c opened st))
          n (omega arith) ps env regs c opened standing)

      pub if_else_goes : (line : ℕ) (arms : Arms) (block : Block) → ArmsLaw arms → BlockLaw block → StatLaw S back (IfElse line arms block)
      if_else_goes line arms block law last n closing closed t j pc named loops reach k fewer has placed titles inside under clear plain jumps done ps env regs c opened s st standing =
          go_left S n s (tree.at (choose arms (Some block)) (of_tree S ps env c) k) _ st
          (law (Some block) code n closing closed t j pc line named loops reach k fewer has placed.0 (subst (λ m. ArmsAreNamed S.lines S.code (way S back) arms m closing t j pc) (sym sized) titles.0) (subst (λ m. pc + (arms_size S.code.own.constants (way S back) arms m closing t j + m) < length S.code.own.code) (sym sized) inside) under clear plain
          (subst (λ m. Jumps S back n pc (pc + (arms_size S.code.own.constants (way S back) arms m closing t j + m)) t closed named loops reach k) (sym sized) (jumps refl))
          (subst (λ m. GoesOn S n t closed complete k (pc + (arms_size S.code.own.constants (way S back) arms m closing t j + m))) (sym sized) done)
          (subst (λ m. GoesOn S n t closed (choose EndArms (Some block)) k (pc + arms_size S.code.own.constants (way S back) arms m closing t j)) (sym sized) others)
          n (omega arith) ps env regs c opened standing)
        where
          lb : ℕ
          lb = block_size S.code.own.constants (way S back) block closing t t (j + made_in_arms arms)

          lo : ℕ
          lo = arms_size S.code.own.constants (way S back) arms (block_size S.code.own.constants (way S back) block closing t t (j + made_in_arms arms)) closing t j

          code : List Coded
          code = block_code S.code.own.constants (way S back) block closing t t (j + made_in_arms arms) (pc + lo) reach

          sized : length code ≡ lb
          sized = block_sized S.code.own.constants (way S back) block closing t t (j + made_in_arms arms) (pc + lo) reach

          at_block : HasAt S (pc + lo) code
          at_block = subst (λ m. HasAt S (pc + arms_size S.code.own.constants (way S back) arms m closing t j) code) sized (arms_behind back arms code closing t j pc line reach has)

          there : pc + (lo + lb) ≡ pc + lo + lb
          there = omega arith

          others : GoesOn S n t closed (choose EndArms (Some block)) k (pc + lo)
          others m le ps env regs c opened st =
              go_left S m _ (tree.at (run (point_of block (length env))) (of_tree S ps env c) k) _ refl
              (subst (λ u. Agree S m (tree.at (run (point_of block u)) (of_tree S ps env c) k) (before (of_code S ps (pc + lo) regs opened) c)) (sym st.size)
              (last m closing closed t t (j + made_in_arms arms) (pc + lo) named loops reach k (omega (arith, fewer, le)) at_block placed.1 titles.1 (omega (arith, inside)) under clear (omega arith) plain
              (subst (λ l. Jumps S back m (pc + lo) (pc + lo + lb) t l named loops reach k) (append_nil closed) (jumps_within S back n m pc (pc + (lo + lb)) (pc + lo) (pc + lo + lb) t t closed [] named loops reach k le (omega arith) (omega arith) (omega arith) tt (jumps refl)))
              (goes_from S m t closed complete k (pc + (lo + lb)) (pc + lo + lb) there (goes_fewer S m n t closed complete k (pc + (lo + lb)) le done)) m (omega arith) ps env regs c opened st (subst (HeldBelow c.held) st.size st.rel.held)))
