-- `repeat`, whose test sees the locals of the block.
use Rattle.std.proofs.Common.{◌≡◌, ℕ, zero, suc, ◌+◌, ◌<◌, ◌≤◌, Bool, true, false, cond, List, [], ◌∷◌, ◌++◌, length, refl, sym, ap, subst, ◌∙◌, arith}
use Rattle.std.proofs.lemmas.List.{length-map}
use Rattle.std.specs.Prelude.{nat_eq, nat_lt}
use Rattle.int_core.specs.Value.{Value, known, nil, shape, holds}
use Rattle.int_core.specs.Ask.{Captured}
use Rattle.tree_core.specs.Tree.{Block, Falls, Stats, EndStats, Repeat, Exp}
use Rattle.tree_activation.specs.Work.{complete, decide, evaluate, give, run, pay, leave_scope, Work, Pending, Passed, until, until_test, repeating}
use Rattle.tree_activation.specs.Work as tree
use Rattle.tree_activation.specs.Asking.{first, go}
use Rattle.tree_activation.specs.Statements.{repeat_point}
use Rattle.tree_activation.specs.Activation.{step}
use Rattle.exp_laws.proofs.TestForms.{truth_not}
use Rattle.machine_core.specs.Talk.{before}
use Rattle.list_laws.proofs.Items.{append_nil}
use Rattle.code_of.specs.Coded.{Coded, jump_back}
use Rattle.code_of.specs.Conditions.{test_code}
use Rattle.code_of.specs.Jumps.{Reach}
use Rattle.code_of.specs.Expressions.{made_by}
use Rattle.code_of.specs.Levels.{made_in_stats, closings_after, may_hold_until, closed_until}
use Rattle.tree_terms.specs.Levels.{levels_after}
use Rattle.code_of.specs.Parts.{close_code}
use Rattle.code_of.specs.Sizes.{stats_size}
use Rattle.code_of.specs.Statements.{in_loop, stats_code}
use Rattle.exp_laws.proofs.Registers.{HeldBelow, Rel, Ascends}
use Rattle.exp_laws.specs.Setting.{Hidden, Setting, with_scope, scoped}
use Rattle.exp_laws.proofs.Talking.{Agree, go_left, of_tree, of_code}
use Rattle.exp_laws.proofs.Placing.{HasAt, has_front, has_back}
use Rattle.exp_laws.specs.Placed.{IsPlaced}
use Rattle.stat_laws.proofs.Ways.{way}
use Rattle.stat_laws.proofs.Closing.{AllBelow, GoesLeft, NothingHeld, nothing_held, ends_goes}
use Rattle.stat_laws.proofs.Standing.{strong, numbers, Parted, part, ascends_under, Standing, GoesOn, goes_fewer, back_goes}
use Rattle.code_of.proofs.Sizes.{test_sized, close_sized, stats_sized}
use Rattle.stat_laws.proofs.Labels.{Jumps, jumps_within}
use Rattle.stat_laws.proofs.Blocks.{Added, added_all, closeds_after, StatLaw, StatsLaw, begins_block}
use Rattle.tree_terms.proofs.Levels.{levels_rise}
use Rattle.stat_laws.proofs.Forms.{TestLaw, loop_jumps}
use Rattle.stat_laws.proofs.Hiding.{low_there, rel_unscoped, rel_scoped, has_inner, jumps_inner}
use Rattle.stat_laws.proofs.Scoping.{second_false, none_until, unmarked_after, exp_scoped, stats_scoped}

module _ (S : Setting) (back : ℕ) where
  -- the block and its test stand in the setting of their scope
  pub repeat_goes : (line : ℕ) (ss : Stats) (tokens last : ℕ) (e : Exp) → ((level : ℕ) → TestLaw (scoped S (may_hold_until (Falls ss tokens last) e) level))
      → ((outer : ℕ) (closed : List ℕ) (k : List Work) → StatsLaw (scoped S (may_hold_until (Falls ss tokens last) e) outer) back (until last e) false outer closed k (λ ss. refl) ss)
      → StatLaw S back (Repeat line (Falls ss tokens last) e)
  repeat_goes line ss tokens last e tests law n closing closed t j pc named loops reach k fewer has placed titles inside under clear plain jumps done ps env regs c opened s st standing =
      go_left S n s (tree.at (run (repeat_point (Falls ss tokens last) e (length env))) (of_tree S ps env c) (repeating line e (Falls ss tokens last) (length env) ∷ k)) _ st
      (subst (λ u. Agree S n (tree.at (run (repeat_point (Falls ss tokens last) e u)) (of_tree S ps env c) (repeating line e (Falls ss tokens last) u ∷ k)) (before (of_code S ps pc regs opened) c)) (sym standing.size)
      (strong Loop round n (omega arith) ps env regs c opened standing))
    where
      block : Block
      block = Falls ss tokens last

      w : Work
      w = repeating line e (Falls ss tokens last) t

      captures : Bool
      captures = may_hold_until (Falls ss tokens last) e

      within : Hidden
      within = with_scope S.hidden captures t

      T : Setting
      T = scoped S captures t

      outside : (ps : List Pending) (env : List Value) (c : Captured) (regs : List Value) → Rel within S.code.own.stack ps env c regs → Rel S.hidden S.code.own.stack ps env c regs
      outside ps env c regs rel = rel_unscoped S.hidden captures t S.code.own.stack ps env c regs rel

      -- no function is made in the scope, where none of its locals may be captured
      none_here : captures ≡ false → made_in_stats ss + made_by e ≡ 0
      none_here is = none_until (Falls ss tokens last) e is

      low : ℕ
      low = closed_until (Falls ss tokens last) e t

      li : ℕ
      li = stats_size S.code.own.constants (way S back) ss closing t j

      close : List Coded
      close = close_code t (closed_until (Falls ss tokens last) e t) last

      lt : ℕ
      lt = length (test_code S.code.own.constants e false 0 (levels_after ss t) (j + made_in_stats ss))

      test : List Coded
      test = test_code S.code.own.constants e false (length close + 1) (levels_after ss t) (j + made_in_stats ss)

      tested : length test ≡ lt
      tested = test_sized S.code.own.constants e false (length close + 1) (levels_after ss t) (j + made_in_stats ss)

      lc : ℕ
      lc = length (close_code t (closed_until (Falls ss tokens last) e t) line)

      same_close : length (close_code t (closed_until (Falls ss tokens last) e t) last) ≡ length (close_code t (closed_until (Falls ss tokens last) e t) line)
      same_close = close_sized t low last line

      exit : ℕ
      exit = pc + (li + (lt + (lc + lc + 1)))

      around : Reach
      around = in_loop reach (pc + (li + (lt + (lc + lc + 1)))) t

      inner : List Coded
      inner = stats_code S.code.own.constants (way S back) ss false closing t t j pc [] around

      sized : length inner ≡ li
      sized = stats_sized S.code.own.constants (way S back) ss false closing t t j pc [] around

      turns : List Coded
      turns = jump_back (length inner + length test + length close + 1) line ∷ close

      at_inner : HasAt S pc inner
      at_inner = has_front S pc inner (test ++ (close ++ turns)) has

      at_both : HasAt S (pc + li) (test ++ (close ++ turns))
      at_both = subst (λ q. HasAt S (pc + q) (test ++ (close ++ turns))) sized (has_back S pc inner (test ++ (close ++ turns)) has)

      at_test : HasAt S (pc + li) test
      at_test = has_front S (pc + li) test (close ++ turns) at_both

      at_rest : HasAt S (pc + li + lt) (close ++ turns)
      at_rest = subst (λ q. HasAt S (pc + li + q) (close ++ turns)) tested (has_back S (pc + li) test (close ++ turns) at_both)

      at_close : HasAt S (pc + li + lt) close
      at_close = has_front S (pc + li + lt) close turns at_rest

      at_turns : HasAt S (pc + li + lt + length close) turns
      at_turns = has_back S (pc + li + lt) close turns at_rest

      at_out : HasAt S (pc + li + lt + (length close + 1)) close
      at_out = let there : pc + li + lt + length close + 1 ≡ pc + li + lt + (length close + 1) = omega arith in subst (λ q. HasAt S q close) there at_turns.1.1

      out : pc + li + lt + (length close + 1) + length close ≡ exit
      out = omega (arith, same_close)

      Loop : ℕ → Type 0
      Loop m = m ≤ n → (ps : List Pending) (env regs : List Value) (c : Captured) (opened : ℕ) → Standing S t closed ps env c regs
          → Agree S m (tree.at (run (repeat_point (Falls ss tokens last) e t)) (of_tree S ps env c) (repeating line e (Falls ss tokens last) t ∷ k)) (before (of_code S ps pc regs opened) c)

      all : Added t closed (closeds_after ss t closed)
      all = added_all ss t closed

      in_block : (m : ℕ) → m ≤ n → Jumps T back m pc (pc + li) t closed named true around (w ∷ k)
      in_block m le =
          jumps_inner S within outside back m pc (pc + li) t closed named true around (w ∷ k)
          (subst (λ l. Jumps S back m pc (pc + li) t l named true around (w ∷ k)) (append_nil closed)
          (loop_jumps S back w m pc exit pc (pc + li) t t exit closed [] named loops reach k (λ name line a. refl) (λ line a. refl) (omega arith) (omega arith) (omega arith) inside (omega arith) tt under
          (subst (λ l. Jumps S back m pc exit t l named loops reach k) (append_nil closed) (jumps_within S back n m pc exit pc exit t t closed [] named loops reach k le (omega arith) (omega arith) (omega arith) tt (jumps refl)))
          (goes_fewer S m n t closed complete k exit le done)))

      -- the locals of the block are left, at the CLOSE of either way
      leaves : (m : ℕ) (truth : Bool) (place : ℕ) → HasAt S place close → place + length close < length S.code.own.code
          → ((base : List Pending) → numbers base ≡ closed → GoesLeft S m t base (place + length close) (decide truth) (w ∷ k))
          → (ps : List Pending) (env regs : List Value) (c : Captured) (opened : ℕ) → Standing T (levels_after ss t) (closeds_after ss t closed) ps env c regs
          → Agree S m (tree.at (leave_scope t last (known nil) (decide truth)) (of_tree S ps env c) (w ∷ k)) (before (of_code S ps place regs opened) c)
      leaves m truth place at_place inside' goes ps env regs c opened st =
          let parted = part t closed all.more ps (st.numbered ∙ all.whole) all.from in
          let rises = levels_rise ss t in
          let size = st.size in
          ends_goes S m t low last place parted.base (decide truth) (w ∷ k) at_place (omega (arith, rises, size, st.rel.fits, S.small)) inside'
          (ascends_under 0 (length env) t parted.base parted.rest (subst (λ l. Ascends 0 l (length env)) parted.whole st.rel.ascends) (subst (λ l. AllBelow l t) (sym parted.numbered) under))
          (goes parted.base parted.numbered) ps parted.grown env regs c opened (omega (arith, rises, size)) (nothing parted captures refl) (outside ps env c regs st.rel)
        where
          nothing : (parted : Parted t closed ps) (b : Bool) → captures ≡ b → nat_eq t (cond b (levels_after ss t) t) ≡ true → NothingHeld S t parted.base ps c
          nothing parted true is e' =
              let rises = levels_rise ss t in
              let size = st.size in
              nothing_held S t (levels_after ss t) parted.base ps parted.grown env regs c (omega (arith, rises, size)) (omega (arith, size)) (outside ps env c regs st.rel) e'
          nothing parted false is e' = (
            low_there S.hidden.free_from captures t c.held st.rel.hides.low is,
            sym (length-map ps (λ p. p.number))
                ∙ ap length (st.numbered ∙ unmarked_after ss t closed (second_false (nat_lt 0 (made_in_stats ss + made_by e)) (closings_after ss false) is) ∙ sym parted.numbered)
                ∙ length-map parted.base (λ p. p.number),
          )

      -- the truth is true: out of the loop
      turns_out : (m : ℕ) → m ≤ n → (ps : List Pending) (env regs : List Value) (c : Captured) (opened : ℕ) → Standing T (levels_after ss t) (closeds_after ss t closed) ps env c regs
          → Agree S m (tree.at (leave_scope t last (known nil) (decide true)) (of_tree S ps env c) (w ∷ k)) (before (of_code S ps (pc + li + lt + (length close + 1)) regs opened) c)
      turns_out m le =
          leaves m true (pc + li + lt + (length close + 1)) at_out (omega (arith, same_close, inside))
          (λ base numbered env1 regs1 c1 opened1 size1 rel1. go_left S m _ (tree.at complete (of_tree S base env1 c1) k) _ refl
          (subst (λ q. Agree S m (tree.at complete (of_tree S base env1 c1) k) (before (of_code S base q regs1 opened1) c1)) (sym out) (done m le base env1 regs1 c1 opened1 (record { numbered = numbered; size = size1; rel = rel1 }))))

      -- it is false: back to the block
      turns_back : (m : ℕ) → m ≤ n → ((l : ℕ) → l < m → Loop l) → (ps : List Pending) (env regs : List Value) (c : Captured) (opened : ℕ) → Standing T (levels_after ss t) (closeds_after ss t closed) ps env c regs
          → Agree S m (tree.at (leave_scope t last (known nil) (decide false)) (of_tree S ps env c) (w ∷ k)) (before (of_code S ps (pc + li + lt) regs opened) c)
      turns_back m le loop =
          leaves m false (pc + li + lt) at_close (omega (arith, same_close, inside))
          (λ base numbered env1 regs1 c1 opened1 size1 rel1. go_left S m _ (tree.at (pay line (run (repeat_point (Falls ss tokens last) e t))) (of_tree S base env1 c1) (w ∷ k)) _ refl
          (again m loop le base numbered env1 regs1 c1 opened1 size1 rel1))
        where
          again : (m : ℕ) → ((l : ℕ) → l < m → Loop l) → m ≤ n → (base : List Pending) → numbers base ≡ closed → (env1 regs1 : List Value) (c1 : Captured) (opened1 : ℕ) → length env1 ≡ t → Rel S.hidden S.code.own.stack base env1 c1 regs1
              → Agree S m (tree.at (pay line (run (repeat_point (Falls ss tokens last) e t))) (of_tree S base env1 c1) (w ∷ k)) (before (of_code S base (pc + li + lt + length close) regs1 opened1) c1)
          again zero loop le base numbered env1 regs1 c1 opened1 size1 rel1 = tt
          again (suc l) loop le base numbered env1 regs1 c1 opened1 size1 rel1 =
              back_goes S (length inner + length test + length close + 1) pc line (pc + li + lt + length close) base (omega arith) (omega (arith, sized, tested, same_close, inside, S.short)) (omega (arith, sized, tested))
              (at_turns.0, (at_turns.1.0, tt)) (omega (arith, inside)) l _ (run (repeat_point (Falls ss tokens last) e t)) env1 regs1 c1 opened1 (w ∷ k) refl rel1
              (λ env2 regs2 c2 size2 rel2. loop l (omega arith) (omega arith) base env2 regs2 c2 opened1 (record { numbered = numbered; size = size2 ∙ size1; rel = rel2 }))

      decides : (vs : List Value) (b : Bool) (ps : List Pending) (env : List Value) (c : Captured) → holds (shape (first vs)) ≡ b
          → step (tree.at (give vs) (of_tree S ps env c) (until_test last t ∷ w ∷ k)) ≡ go (leave_scope t last (known nil) (decide b)) (of_tree S ps env c) (w ∷ k)
      decides vs b ps env c is = ap (λ b. go (leave_scope t last (known nil) (decide b)) (of_tree S ps env c) (w ∷ k)) is

      at_end : (m : ℕ) → m ≤ n → ((l : ℕ) → l < m → Loop l) → (labels : List Passed)
          → GoesOn T m (levels_after ss t) (closeds_after ss t closed) (run (record { rest = EndStats; ending = until last e; level = t; labels = labels })) (w ∷ k) (pc + li)
      at_end m le loop labels l less ps env regs c opened st =
          let size = st.size in
          go_left S l _ (tree.at (evaluate e) (of_tree S ps env c) (until_test last t ∷ w ∷ k)) _ refl
          (tests t ps e false (length close + 1) (levels_after ss t) (j + made_in_stats ss) l (pc + li) opened env regs c (until_test last t ∷ w ∷ k) (omega (arith, fewer, le, less)) (has_inner S within (pc + li) test at_test)
          (subst (λ u. IsPlaced T e u (j + made_in_stats ss)) (sym st.size) (exp_scoped captures t false S e (levels_after ss t) (j + made_in_stats ss) placed.1.0 (λ is. let none = none_here is in omega (arith, none)))) (omega (arith, inside, tested, same_close)) (omega (arith, size)) placed.1.1 st.rel
          (λ vs env1 regs1 c1 o1 af is. go_left S l _ (tree.at (leave_scope t last (known nil) (decide false)) (of_tree S ps env1 c1) (w ∷ k)) _ (decides vs false ps env1 c1 (truth_not T ps _ true is))
          (subst (λ q. Agree S l (tree.at (leave_scope t last (known nil) (decide false)) (of_tree S ps env1 c1) (w ∷ k)) (before (of_code S ps (pc + li + q) regs1 o1) c1)) (sym tested)
          (turns_back l (omega arith) (λ i lower. loop i (omega arith)) ps env1 regs1 c1 o1 (record { numbered = st.numbered; size = af.size ∙ size; rel = af.rel }))))
          (λ vs env1 regs1 c1 o1 af is. go_left S l _ (tree.at (leave_scope t last (known nil) (decide true)) (of_tree S ps env1 c1) (w ∷ k)) _ (decides vs true ps env1 c1 (truth_not T ps _ false is))
          (subst (λ q. Agree S l (tree.at (leave_scope t last (known nil) (decide true)) (of_tree S ps env1 c1) (w ∷ k)) (before (of_code S ps (pc + li + q + (length close + 1)) regs1 o1) c1)) (sym tested)
          (turns_out l (omega arith) ps env1 regs1 c1 o1 (record { numbered = st.numbered; size = af.size ∙ size; rel = af.rel })))))

      round : (m : ℕ) → ((l : ℕ) → l < m → Loop l) → Loop m
      round m loop le ps env regs c opened st =
          (law t closed (w ∷ k) m pc (pc + li) closing closed t j pc [] [] [] named true around
          (begins_block T back (until last e) false t closed (w ∷ k) (λ ss. refl) m (pc + li) ss closing t j pc named true around (omega (arith, fewer, le)) (has_inner S within pc inner at_inner)
          (stats_scoped captures t false S ss false closing t j [] named true placed.0 (λ is. let none = none_here is in omega (arith, none))) (omega arith) (omega (arith, inside)) (in_block m le) under clear titles
          (omega arith) plain (record { full = at_end m le loop; low = λ is. absurd (cc) }))).0 m (omega arith) ps env regs c opened (record { numbered = st.numbered; size = st.size; rel = rel_scoped S.hidden captures t S.code.own.stack ps env c regs (subst (HeldBelow c.held) st.size st.rel.held) st.rel })
