-- The generic `for`.
use Rattle.std.proofs.Common.{◌≡◌, ℕ, zero, suc, ◌+◌, ◌<◌, ◌≤◌, ◌^◌, lit<, pos, negsuc, ◌+ℤ◌, ◌-ℤ◌, Bool, true, false, cond, List, [], ◌∷◌, ◌++◌, length, take, Option, Some, None, refl, sym, ap, ap₂, subst, ◌∙◌, arith, length-append}
use Rattle.std.specs.Prelude.{codes, nat_lt}
use borrow.Author.Tests.{lt-ltb}
use Rattle.int_core.specs.Value.{Value, known, nil, bind, nth, range, write, shape, holds, is_nil, fitted}
use Rattle.int_core.proofs.ValueLemmas.{length_fitted}
use Rattle.int_core.specs.Ask.{calls, pays, marks, values_in, Reply, values, faulted, left, Captured, brought, Next, goes_on, stuck, IsChecked}
use Rattle.tree_core.specs.declared.name.Name.{Name}
use Rattle.tree_core.specs.Tree.{Block, GenFor, Exps, EndExps}
use Rattle.tree_activation.specs.Work.{Control, complete, collect, for_iterating, mark, run, pay, leave_scope, test_round, enter_round, iterating, Work, Pending}
use Rattle.tree_activation.specs.Work as tree
use Rattle.tree_activation.specs.Asking.{first, go, with_pending}
use Rattle.tree_activation.specs.Asking as trees
use Rattle.tree_activation.specs.Statements.{point_of}
use Rattle.code_core.specs.declared.opcode.Opcode.TheVariants.{Close, TForPrep, TForCall, TForLoop}
use Rattle.code_core.specs.declared.instruction.Instruction.{Instruction}
use Rattle.code_core.specs.Prototype.{Prototype}
use Rattle.code_core.specs.Check.{at}
use Rattle.machine_core.specs.World.{for_iterator}
use Rattle.machine_core.specs.Text.{read, blanked, mark_pending, write_register}
use Rattle.machine_core.specs.Text as text
use Rattle.machine_core.specs.InstructionRows.{then, back, variable_name}
use Rattle.machine_core.specs.Talk as code
use Rattle.machine_core.specs.Talk.{before, amid, talk, talk_step, says_so, heard, marked}
use Rattle.list_laws.proofs.Items.{append_nil}
use Rattle.list_laws.proofs.Values.{length_write, nth_write_other}
use Rattle.list_laws.proofs.Tests.{lt_true}
use Rattle.code_of.specs.Coded.{Coded, with_abc, with_abx}
use Rattle.code_of.specs.Expressions.{made_in, exps_code}
use Rattle.code_of.specs.Jumps.{Reach}
use Rattle.code_of.specs.Sizes.{block_size}
use Rattle.code_of.specs.Statements.{in_loop, block_code}
use Rattle.exp_laws.specs.Setting.{Setting}
use Rattle.exp_laws.specs.Placed.{ArePlaced}
use Rattle.exp_laws.proofs.Registers.{AllUnder, under_higher, HeldBelow, Rel, Ascends, marked_in, told, share_same, after_share, after_above}
use Rattle.exp_laws.proofs.Lists.{Holds, write_all_more, write_all_below, write_range_holds, drops_none}
use Rattle.exp_laws.proofs.Talking.{Agree, down, go_left, go_right, both_ask, both_mark, of_tree, of_code}
use Rattle.exp_laws.proofs.Placing.{HasAt, has_front, has_back, here_abc, here_abx}
use Rattle.exp_laws.proofs.Leaving.{marked_more, marked_fewer, faults_alike, length_blanked, blanked_keeps}
use Rattle.exp_laws.proofs.Going.{next_there, at_place}
use Rattle.exp_laws.proofs.Asking.{asks_alike}
use Rattle.exp_laws.proofs.Steps.{own_step, go_step}
use Rattle.exp_laws.proofs.Calls.{filled, values_step}
use Rattle.exp_laws.proofs.Marking.{with_one, GoesMarked, ascends_more}
use Rattle.exp_laws.proofs.Exps.{exps_same}
use Rattle.code_of.proofs.Sizes.{block_sized}
use Rattle.stat_laws.proofs.Ways.{way}
use Rattle.stat_laws.proofs.Closing.{AllBelow, close_goes}
use Rattle.stat_laws.proofs.Standing.{strong, part, ascends_under, below_higher, Standing, goes_fewer}
use Rattle.stat_laws.proofs.Labels.{Jumps, jumps_within}
use Rattle.stat_laws.proofs.Blocks.{has_some, below_more, StatLaw}
use Rattle.stat_laws.proofs.Forms.{BlockLaw, loop_jumps}
use Rattle.stat_laws.proofs.Values.{rel_declared, numbers_both}
use Rattle.stat_laws.proofs.Assigning.{rel_assigned}
use Rattle.stat_laws.proofs.Rounds.{told_iterator, again_text, round_text, preparing, prepare_step, iterator_step, iterator_rest, round_step}

first_nth : (vs : List Value) → nth vs 0 ≡ first vs
first_nth [] = refl
first_nth (v ∷ vs) = refl

pub take_whole : (xs : List Value) → take (length xs) xs ≡ xs
take_whole [] = refl
take_whole (x ∷ xs) = ap (λ l. x ∷ l) (take_whole xs)

one_is_some : (closed : List ℕ) (m : ℕ) → true ≡ has_some (closed ++ m ∷ [])
one_is_some [] m = refl
one_is_some (x ∷ closed) m = refl

named_so : (b : Bool) (name unknown : List ℕ) → name ≡ unknown → name ≡ cond b unknown unknown
named_so true name unknown e = e
named_so false name unknown e = e

pub back_to : (q bx target : ℕ) → target + bx ≡ q + 1 → pos q +ℤ (pos 1 -ℤ pos bx) ≡ pos target
back_to q bx target e = grind (arith, e)

-- the value that the loop closes is marked, and the block is jumped over
module _ (S : Setting) (pending : List Pending) where
  rel_one : (t : ℕ) (needed : Bool) (env : List Value) (c : Captured) (regs : List Value) → Ascends 0 pending t → t < length env → Rel S.hidden S.code.own.stack pending env c regs → Rel S.hidden S.code.own.stack (with_one S pending t needed) env c regs
  rel_one t needed env c regs above lt rel =
      record { agree = rel.agree; held = rel.held; hides = rel.hides; ascends = ascends_more 0 pending t (length env) needed above (omega arith) lt; fits = rel.fits; room = rel.room }

  prepares_goes : (n line t bx pc opened : ℕ) (next_of : Control) (env regs : List Value) (c : Captured) (k : List Work) → HasAt S pc (with_abx TForPrep t bx line ∷ []) → pc + (bx + 1) < length S.code.own.code → bx < 2 ^ 17
      → variable_name S.code pc (t + 3) ≡ codes "?" → Ascends 0 pending (t + 3) → t + 3 < length env → Rel S.hidden S.code.own.stack pending env c regs → GoesMarked S pending n (length env) (t + 3) (pc + (bx + 1)) opened next_of k
      → Agree S n (tree.at (mark line (codes "?") (t + 3) next_of) (of_tree S pending env c) k) (before (of_code S pending pc regs opened) c)
  prepares_goes n line t bx pc opened next_of env regs c k has inside fits unnamed above lt rel goes = by (holds (shape (nth env (t + 3)))) refl
    where
      there : (w : Instruction) × (at S.code (pc + (bx + 1)) ≡ Some w)
      there = next_there S (pc + (bx + 1)) inside

      reads : talk_step S.code (before (of_code S pending pc regs opened) c) ≡ talk S.code (preparing S.code pc (t + 3) bx (holds (shape (nth env (t + 3))))) (nth regs (t + 3) ∷ []) (of_code S pending pc regs opened) c
      reads =
          prepare_step S.code t bx (of_code S pending pc regs opened) c has.0 (omega (arith, lt, rel.fits, S.small)) fits (omega (arith, lt, rel.fits, rel.room))
          ∙ ap (λ v. talk S.code (preparing S.code pc (t + 3) bx (holds (shape v))) (nth regs (t + 3) ∷ []) (of_code S pending pc regs opened) c) (sym (rel.agree (t + 3) lt))

      sets : (n : ℕ) (env1 regs1 had : List Value) (c1 : Captured) → length env1 ≡ length env → Rel S.hidden S.code.own.stack pending env1 c1 regs1 → GoesMarked S pending n (length env) (t + 3) (pc + (bx + 1)) opened next_of k
          → Agree S n (tree.at next_of (of_tree S (with_one S pending (t + 3) true) env1 c1) k) (amid (then (mark_pending (t + 3)) (text.go_by (pos (bx + 1)))) had (of_code S pending pc regs1 opened) c1)
      sets n env1 regs1 had c1 size rel1 goes =
          let more = marked_more pending (record { number = t + 3; needed = true }) refl in
          go_right S n _ _ (before (record { pc = pc + (bx + 1); registers = regs1; varargs = S.varargs; pending = marked_in pending ++ (t + 3) ∷ []; opened = opened }) c1)
          (own_step S.code (mark_pending (t + 3)) (λ _ _. text.go_by (pos (bx + 1))) had (of_code S pending pc regs1 opened) c1 (lt-ltb (t + 3) (length regs1) (omega (arith, lt, rel.fits, rel1.room)))
          ∙ go_step S.code (bx + 1) there.0 (had ++ []) (record { pc = pc; registers = regs1; varargs = S.varargs; pending = marked_in pending ++ (t + 3) ∷ []; opened = opened }) c1 there.1)
          (subst (λ ms. Agree S n (tree.at next_of (of_tree S (with_one S pending (t + 3) true) env1 c1) k) (before (record { pc = pc + (bx + 1); registers = regs1; varargs = S.varargs; pending = ms; opened = opened }) c1)) more
          (goes true env1 regs1 c1 size (rel_one (t + 3) true env1 c1 regs1 above (omega (arith, lt, size)) rel1)))

      asked : (n : ℕ) → holds (shape (nth env (t + 3))) ≡ true → GoesMarked S pending n (length env) (t + 3) (pc + (bx + 1)) opened next_of k
          → Agree S n (tree.at (mark line (codes "?") (t + 3) next_of) (of_tree S pending env c) k) (before (of_code S pending pc regs opened) c)
      asked zero is goes = tt
      asked (suc n) is goes =
          both_mark S n _ _ (nth env (t + 3)) (nth regs (t + 3)) (codes "?") (variable_name S.code pc (t + 3)) line _ _ _ _ _
          (ap (λ b. cond b (trees.says_so (marks (nth env (t + 3)) (codes "?")) line (of_tree S pending env c) (λ x b. trees.marked x.reply line (t + 3) next_of b k)) (go next_of (with_pending (of_tree S pending env c) (t + 3) false) k)) is)
          (reads ∙ ap (λ b. talk S.code (preparing S.code pc (t + 3) bx b) (nth regs (t + 3) ∷ []) (of_code S pending pc regs opened) c) is)
          (rel.agree (t + 3) lt) (named_so S.lines _ _ unnamed) (here_abx S TForPrep t bx line pc [] has).lined (share_same S.hidden S.code.own.stack pending env c regs rel) (λ x fits. answered x.shared x.reply fits)
        where
          answered : (shared : List Value) (reply : Reply) → IsChecked reply
              → Agree S n (trees.marked reply line (t + 3) next_of (of_tree S pending (brought c.held shared env) (told c)) k)
              (amid (marked (then (mark_pending (t + 3)) (text.go_by (pos (bx + 1)))) S.code pc reply) (nth regs (t + 3) ∷ []) (of_code S pending pc (brought c.held shared regs) opened) (told c))
          answered shared (values vs) fits =
              let af = after_share S.hidden S.code.own.stack pending env regs shared c t rel in
              down S n _ _ (sets (suc n) (brought c.held shared env) (brought c.held shared regs) (nth regs (t + 3) ∷ []) (told c) af.size af.rel goes)
          answered shared (faulted words) fits =
              faults_alike S n pending line pc opened (brought c.held shared env) (brought c.held shared regs) (told c) words _ _ (after_share S.hidden S.code.own.stack pending env regs shared c t rel).rel (here_abx S TForPrep t bx line pc [] has) refl refl
          answered shared (left e) fits = absurd fits

      by : (b : Bool) → holds (shape (nth env (t + 3))) ≡ b → Agree S n (tree.at (mark line (codes "?") (t + 3) next_of) (of_tree S pending env c) k) (before (of_code S pending pc regs opened) c)
      by true is = asked n is goes
      by false is =
          let fewer = marked_fewer pending (record { number = t + 3; needed = false }) refl in
          go_left S n _ (tree.at next_of (of_tree S (with_one S pending (t + 3) false) env c) k) _
          (ap (λ b. cond b (trees.says_so (marks (nth env (t + 3)) (codes "?")) line (of_tree S pending env c) (λ x b. trees.marked x.reply line (t + 3) next_of b k)) (go next_of (with_pending (of_tree S pending env c) (t + 3) false) k)) is)
          (go_right S n _ _ (before (of_code S pending (pc + (bx + 1)) regs opened) c)
          (reads ∙ ap (λ b. talk S.code (preparing S.code pc (t + 3) bx b) (nth regs (t + 3) ∷ []) (of_code S pending pc regs opened) c) is ∙ go_step S.code (bx + 1) there.0 (nth regs (t + 3) ∷ []) (of_code S pending pc regs opened) c there.1)
          (subst (λ ms. Agree S n (tree.at next_of (of_tree S (with_one S pending (t + 3) false) env c) k) (before (record { pc = pc + (bx + 1); registers = regs; varargs = S.varargs; pending = ms; opened = opened }) c)) fewer
          (goes false env regs c refl (rel_one (t + 3) false env c regs above lt rel))))

module _ (S : Setting) (back_field : ℕ) where
  pub iterating_goes : (line : ℕ) (names : List Name) (es : Exps) (block : Block) → BlockLaw S back_field block → StatLaw S back_field (GenFor line names es block)
  iterating_goes line names es block law n closing closed t j pc named loops reach k fewer has placed titles inside under clear plain jumps done ps env regs c opened s st standing =
      go_left S n s (tree.at (collect (for_iterating line names block) [] es) (of_tree S ps env c) k) _ st
      (exps_same S ps es (for_iterating line names block) (Some 4) t 0 j line n pc opened [] env regs c k fewer tt
      (subst (λ r. HasAt S pc (exps_code S.code.own.constants es (Some 4) r j line)) (sym flat) (has_front S pc start behind has)) (lit< tt) (subst (λ u. ArePlaced S es u j) (sym standing.size) placed.0)
      (subst (λ r. pc + length (exps_code S.code.own.constants es (Some 4) r j line) < length S.code.own.code) (sym flat) (omega (arith, inside))) refl (λ i lt. absurd (omega arith))
      (let size = standing.size in omega (arith, size)) (let size = standing.size in omega (arith, size, standing.rel.fits)) placed.1.0 standing.rel
      (λ vs env1 regs1 c1 opened1 af listed. started vs env1 regs1 c1 opened1 (af.size ∙ standing.size) af.rel listed))
    where
      w : Work
      w = iterating line names block t

      wide : ℕ
      wide = length names

      start : List Coded
      start = exps_code S.code.own.constants es (Some 4) t j line

      li : ℕ
      li = length (exps_code S.code.own.constants es (Some 4) t j line)

      lb : ℕ
      lb = block_size S.code.own.constants (way S back_field) block true (t + 4) (t + 4 + length names) (j + made_in es)

      exit : ℕ
      exit = pc + (li + (lb + 4))

      around : Reach
      around = in_loop reach (pc + (li + (lb + 4))) t

      inner : List Coded
      inner = block_code S.code.own.constants (way S back_field) block true (t + 4) (t + 4 + length names) (j + made_in es) (pc + li + 1) around

      sized : length inner ≡ lb
      sized = block_sized S.code.own.constants (way S back_field) block true (t + 4) (t + 4 + length names) (j + made_in es) (pc + li + 1) around

      turns : List Coded
      turns = with_abc TForCall t 0 wide line ∷ with_abx TForLoop t (length inner + 2) line ∷ with_abc Close t 0 0 line ∷ []

      behind : List Coded
      behind = with_abx TForPrep t (length inner) line ∷ (inner ++ turns)

      flat : t + 0 ≡ t
      flat = omega arith

      there : pc + length (exps_code S.code.own.constants es (Some 4) (t + 0) j line) ≡ pc + li
      there = ap (λ r. pc + length (exps_code S.code.own.constants es (Some 4) r j line)) flat

      at_prep : HasAt S (pc + li) behind
      at_prep = has_back S pc start behind has

      at_block : HasAt S (pc + li + 1) inner
      at_block = has_front S (pc + li + 1) inner turns at_prep.1.1

      at_turns : HasAt S (pc + li + 1 + lb) turns
      at_turns = subst (λ q. HasAt S (pc + li + 1 + q) turns) sized (has_back S (pc + li + 1) inner turns at_prep.1.1)

      room : t + 4 + wide ≤ S.code.own.stack
      room = placed.1.1.0

      some : 0 < wide
      some = placed.1.1.1.0

      near : lb + 2 < 2 ^ 17
      near = placed.1.1.1.1.1.0 (way S back_field)

      t_fits : t < 2 ^ 8
      t_fits = omega (arith, room, S.small)

      closed' : List ℕ
      closed' = closed ++ (t + 3) ∷ []

      under' : AllBelow closed' (t + 4)
      under' = below_more closed ((t + 3) ∷ []) (t + 4) (below_higher t (t + 4) closed (omega arith) under) (omega arith, tt)

      clear' : AllUnder S.hidden.integers (t + 4)
      clear' = under_higher S.hidden.integers t (t + 4) (omega arith) clear

      Loop : ℕ → Type 0
      Loop m = m ≤ n → (ps : List Pending) (env regs : List Value) (c : Captured) (opened : ℕ) → Standing S (t + 4) closed' ps env c regs
          → Agree S m (tree.at complete (of_tree S ps env c) (w ∷ k)) (before (of_code S ps (pc + li + 1 + lb) regs opened) c)

      in_block : (m : ℕ) → m ≤ n → Jumps S back_field m (pc + li + 1) (pc + li + 1 + lb) (t + 4) closed' named true around (w ∷ k)
      in_block m le =
          loop_jumps S back_field w m pc exit (pc + li + 1) (pc + li + 1 + lb) t (t + 4) exit closed ((t + 3) ∷ []) named loops reach k (λ name line a. refl) (λ line a. refl) (omega arith) (omega arith) (omega arith) inside (omega arith) (omega arith, tt) under
          (subst (λ l. Jumps S back_field m pc exit t l named loops reach k) (append_nil closed) (jumps_within S back_field n m pc exit pc exit t t closed [] named loops reach k le (omega arith) (omega arith) (omega arith) tt (jumps refl)))
          (goes_fewer S m n t closed complete k exit le done)

      landed : (slots regs : List Value) (ps : List Pending) (c : Captured) (opened : ℕ) → talk S.code (back (length inner + 2)) slots (of_code S ps (pc + li + 1 + lb + 1) regs opened) c ≡ goes_on (before (of_code S ps (pc + li + 1) regs opened) c)
      landed slots regs ps c opened =
          let to = next_there S (pc + li + 1) (omega (arith, inside)) in
          ap (λ o. elim (bind o (λ pc. bind (at S.code pc) (λ _. Some pc))) as (λ _. Next Prototype code.State) [ None ↦ stuck | Some q ↦ goes_on (before (of_code S ps q regs opened) c) ])
          (ap (λ z. elim z as (λ _. Option ℕ) [ pos n ↦ Some n | negsuc _ ↦ None ]) (back_to (pc + li + 1 + lb + 1) (length inner + 2) (pc + li + 1) (omega (arith, sized))))
          ∙ ap (λ o. elim (bind o (λ _. Some (pc + li + 1))) as (λ _. Next Prototype code.State) [ None ↦ stuck | Some q ↦ goes_on (before (of_code S ps q regs opened) c) ]) to.1

      -- the variables get the iterator's values, and the block begins
      enters : (m : ℕ) → m ≤ n → ((l : ℕ) → l ≤ m → Loop l) → (vs had env regs : List Value) (ps : List Pending) (c : Captured) (opened : ℕ) (v : Value) → Standing S (t + 4) closed' ps env c regs → Holds (t + 4) wide vs regs → v ≡ first vs
          → Agree S m (tree.at (enter_round vs) (of_tree S ps env c) (w ∷ k)) (amid (again_text t (length inner + 2)) (v ∷ had) (of_code S ps (pc + li + 1 + lb + 1) regs opened) c)
      enters m le loop vs had env regs ps c opened v st held is =
          let size = st.size in
          let whole : take (t + 4) env ≡ env = ap (λ l. take l env) (sym st.size) ∙ take_whole env in
          let env1 = write (t + 2) (first vs) env in
          let more = length_write (t + 2) (first vs) env (omega (arith, size)) in
          let sum = length-append env1 (fitted wide vs) in
          let fit = length_fitted wide vs in
          let rel1 = rel_assigned S.hidden S.code.own.stack (t + 2) (first vs) ps env regs c (omega (arith, size)) (λ a. let low = clear (t + 2) a in absurd (omega (arith, low))) st.rel in
          go_left S m _ (tree.at (run (point_of block (t + 4))) (of_tree S ps (env1 ++ fitted wide vs) c) (w ∷ k)) _
          (ap (λ l. go (run (point_of block (t + 4))) (of_tree S ps (write (t + 2) (first vs) l ++ fitted wide vs) c) (w ∷ k)) whole)
          (go_right S m _ _ (before (of_code S ps (pc + li + 1) (write (t + 2) (first vs) regs) opened) c)
          (own_step S.code (write_register (t + 2) (read 0)) (λ _ _. back (length inner + 2)) (v ∷ had) (of_code S ps (pc + li + 1 + lb + 1) regs opened) c (lt-ltb (t + 2) (length regs) (omega (arith, room, st.rel.room)))
          ∙ landed ((v ∷ had) ++ []) (write (t + 2) v regs) ps c opened ∙ ap (λ x. goes_on (before (of_code S ps (pc + li + 1) (write (t + 2) x regs) opened) c)) is)
          (law m true closed' (t + 4) (t + 4 + wide) (j + made_in es) (pc + li + 1) named true around (w ∷ k) (omega (arith, fewer, le)) at_block placed.1.1.1.1.1.1 titles.1 (omega (arith, inside)) under' clear' (omega arith) (one_is_some closed (t + 3)) (in_block m le)
          (λ l less ps2 env2 regs2 c2 opened2 st2. loop l less (omega (arith, le, less)) ps2 env2 regs2 c2 opened2 st2) m (omega arith) ps (env1 ++ fitted wide vs) (write (t + 2) (first vs) regs) c opened
          (record {
            numbered = st.numbered;
            size = omega (arith, sum, fit, more, size);
            rel = rel_declared S.hidden S.code.own.stack (t + 4) wide ps env1 (write (t + 2) (first vs) regs) vs c (more ∙ size) room clear' (λ i lt. nth_write_other (t + 2) (first vs) regs (t + 4 + i) (λ e. absurd (omega (arith, e))) ∙ held i lt) rel1;
          }) (subst (HeldBelow c.held) st.size st.rel.held)))

      turn : (m : ℕ) → m ≤ n → ((l : ℕ) → l < m → Loop l) → (b : Bool) (vs : List Value) (ps : List Pending) (env regs : List Value) (c : Captured) (opened : ℕ) → Standing S (t + 4) closed' ps env c regs → Holds (t + 4) wide vs regs
          → nth regs (t + 4) ≡ first vs → is_nil (first vs) ≡ b → Agree S m (tree.at (test_round vs) (of_tree S ps env c) (w ∷ k)) (before (of_code S ps (pc + li + 1 + lb + 1) regs opened) c)
      turn m le loop true vs ps env regs c opened st held eq is =
          let size = st.size in
          let parted = part t closed ((t + 3) ∷ []) ps st.numbered (omega arith, tt) in
          let to = next_there S (pc + li + 1 + lb + 1 + 1) (omega (arith, inside)) in
          let out : pc + li + 1 + lb + 1 + 1 + 1 ≡ exit = omega arith in
          go_left S m _ (tree.at (leave_scope t line (known nil) complete) (of_tree S ps env c) k) _
          (ap (λ b. cond b (go (leave_scope t line (known nil) complete) (of_tree S ps env c) k) (go (pay line (enter_round vs)) (of_tree S ps env c) (w ∷ k))) is)
          (go_right S m _ _ (before (of_code S ps (pc + li + 1 + lb + 1 + 1) regs opened) c)
          (round_step S.code t (length inner + 2) (of_code S ps (pc + li + 1 + lb + 1) regs opened) c at_turns.1.1.0 t_fits (omega (arith, sized, near)) (omega (arith, room, some, st.rel.room))
          ∙ ap (λ b. talk S.code (round_text t (length inner + 2) b) (nth regs (t + 4) ∷ []) (of_code S ps (pc + li + 1 + lb + 1) regs opened) c) (ap is_nil eq ∙ is)
          ∙ go_step S.code 1 to.0 (nth regs (t + 4) ∷ []) (of_code S ps (pc + li + 1 + lb + 1) regs opened) c to.1)
          (close_goes S m t line (pc + li + 1 + lb + 1 + 1) parted.base complete k t_fits (here_abc S Close t 0 0 false line (pc + li + 1 + lb + 1 + 1) [] at_turns.1.1.1.1) at_turns.1.1.1.1.0 (omega (arith, inside))
          (ascends_under 0 (length env) t parted.base parted.rest (subst (λ l. Ascends 0 l (length env)) parted.whole st.rel.ascends) (subst (λ l. AllBelow l t) (sym parted.numbered) under))
          (λ env1 regs1 c1 opened1 size1 rel1. at_place S parted.base m (pc + li + 1 + lb + 1 + 1 + 1) exit opened1 _ regs1 c1 out
          (done m le parted.base env1 regs1 c1 opened1 (record { numbered = parted.numbered; size = size1; rel = rel1 })))
          ps parted.grown env regs c opened (omega (arith, size)) st.rel))
      turn m le loop false vs ps env regs c opened st held eq is =
          go_left S m _ (tree.at (pay line (enter_round vs)) (of_tree S ps env c) (w ∷ k)) _
          (ap (λ b. cond b (go (leave_scope t line (known nil) complete) (of_tree S ps env c) k) (go (pay line (enter_round vs)) (of_tree S ps env c) (w ∷ k))) is)
          (paid m loop le)
        where
          reads : talk_step S.code (before (of_code S ps (pc + li + 1 + lb + 1) regs opened) c) ≡ says_so pays S.code (of_code S ps (pc + li + 1 + lb + 1) regs opened) c (λ x b d. amid (again_text t (length inner + 2)) ((nth regs (t + 4) ∷ []) ++ values_in x.reply) b d)
          reads =
              round_step S.code t (length inner + 2) (of_code S ps (pc + li + 1 + lb + 1) regs opened) c at_turns.1.1.0 t_fits (omega (arith, sized, near)) (omega (arith, room, some, st.rel.room))
              ∙ ap (λ b. talk S.code (round_text t (length inner + 2) b) (nth regs (t + 4) ∷ []) (of_code S ps (pc + li + 1 + lb + 1) regs opened) c) (ap is_nil eq ∙ is)

          paid : (m : ℕ) → ((l : ℕ) → l < m → Loop l) → m ≤ n → Agree S m (tree.at (pay line (enter_round vs)) (of_tree S ps env c) (w ∷ k)) (before (of_code S ps (pc + li + 1 + lb + 1) regs opened) c)
          paid zero loop le = tt
          paid (suc m) loop le =
              both_ask S m _ _ pays pays line _ _ _ _ _ refl reads tt refl at_turns.1.1.1.0 (share_same S.hidden S.code.own.stack ps env c regs st.rel)
              (λ x fits. let af = after_share S.hidden S.code.own.stack ps env regs x.shared c (t + 4 + wide) st.rel in
              let size = st.size in
              enters m (omega (arith, le)) (λ l less. loop l (omega (arith, less))) vs (values_in x.reply) (brought c.held x.shared env) (brought c.held x.shared regs) ps (told c) opened (nth regs (t + 4))
              (record { numbered = st.numbered; size = af.size ∙ st.size; rel = af.rel }) (λ i lt. af.keeps (t + 4 + i) (omega (arith, size)) (omega (arith, lt)) ∙ held i lt) eq)

      round : (m : ℕ) → ((l : ℕ) → l < m → Loop l) → Loop m
      round m loop le ps env regs c opened st =
          let size = st.size in
          let cut = blanked (λ i. nat_lt i (t + 4)) 0 S.code.own.stack regs in
          let long = length_blanked (λ i. nat_lt i (t + 4)) 0 S.code.own.stack regs in
          let af = after_above S.hidden S.code.own.stack ps env regs cut c (t + 4) (omega (arith, size)) st.rel (λ r lt. blanked_keeps (λ i. nat_lt i (t + 4)) S.code.own.stack regs r (omega (arith, room)) (lt_true r (t + 4) lt)) (omega (arith, long)) in
          let third : suc (t + 1) ≡ t + 2 = omega arith in
          let flat' : t + 4 + 0 ≡ t + 4 = omega arith in
          asks_alike S ps m for_iterator told_iterator _ _ (calls (nth env t) (nth env (t + 1) ∷ nth env (t + 2) ∷ [])) (calls (nth env t) (nth env (t + 1) ∷ nth env (t + 2) ∷ [])) line (pc + li + 1 + lb) 0 (t + 4) env cut c (w ∷ k) test_round refl
          (iterator_step S.code t wide (of_code S ps (pc + li + 1 + lb) regs opened) c at_turns.0 t_fits (omega (arith, room, st.rel.room))
          ∙ ap (λ q. says_so (calls (nth regs t) (range (t + 1) 2 regs)) S.code (record { pc = pc + li + 1 + lb; registers = cut; varargs = S.varargs; pending = q; opened = 0 }) c (λ x b d. heard for_iterator S.code x b d)) (drops_none 0 ps (length env) (t + 4) st.rel.ascends (omega (arith, size)))
          ∙ ap₂ (λ f l. says_so (calls f l) S.code (of_code S ps (pc + li + 1 + lb) cut 0) c (λ x b d. heard for_iterator S.code x b d)) (sym (st.rel.agree t (omega (arith, size))))
          (ap₂ (λ x y. x ∷ y ∷ []) (sym (st.rel.agree (t + 1) (omega (arith, size)))) (ap (nth regs) third ∙ sym (st.rel.agree (t + 2) (omega (arith, size))))))
          (λ m. (refl, refl)) refl af.rel (here_abc S TForCall t 0 wide false line (pc + li + 1 + lb) (with_abx TForLoop t (length inner + 2) line ∷ with_abc Close t 0 0 line ∷ []) at_turns)
          (λ vs env1 regs1 c1 af1.
          let to = next_there S (pc + li + 1 + lb + 1) (omega (arith, inside)) in
          let long1 = write_all_more (t + 4) (range 0 wide vs) regs1 in
          let size1 = af1.size in
          let af2 = after_above S.hidden S.code.own.stack ps env1 regs1 (filled (suc wide) (t + 4) vs regs1) c1 (t + 4) (omega (arith, size, size1)) af1.rel (λ r lt. write_all_below (t + 4) (range 0 wide vs) regs1 r lt) (omega (arith, long1, af1.rel.room)) in
          let held : Holds (t + 4) wide vs (filled (suc wide) (t + 4) vs regs1) = write_range_holds (t + 4) wide vs regs1 in
          go_right S m _ _ (before (of_code S ps (pc + li + 1 + lb + 1) (filled (suc wide) (t + 4) vs regs1) 0) c1)
          (ap (λ x. talk S.code x vs (of_code S ps (pc + li + 1 + lb) regs1 0) c1) (iterator_rest S.code t wide (pc + li + 1 + lb) at_turns.0 t_fits placed.1.1.1.1.0)
          ∙ values_step S.code (suc wide) (t + 4) vs to.0 (of_code S ps (pc + li + 1 + lb) regs1 0) c1 to.1 (omega (arith, room, af1.rel.room)))
          (turn m le loop (is_nil (first vs)) vs ps env1 (filled (suc wide) (t + 4) vs regs1) c1 0 (record { numbered = st.numbered; size = af1.size ∙ st.size; rel = af2.rel }) held
          (ap (nth (filled (suc wide) (t + 4) vs regs1)) (sym flat') ∙ held 0 some ∙ first_nth vs) refl))

      started : (vs env1 regs1 : List Value) (c1 : Captured) (opened1 : ℕ) → length env1 ≡ t → Rel S.hidden S.code.own.stack ps env1 c1 regs1 → Holds t (0 + 4) vs regs1
          → Agree S n (tree.at (collect (for_iterating line names block) vs EndExps) (of_tree S ps env1 c1) k) (before (of_code S ps (pc + length (exps_code S.code.own.constants es (Some 4) (t + 0) j line)) regs1 opened1) c1)
      started vs env1 regs1 c1 opened1 size1 rel1 held =
          let sum = length-append env1 (fitted 4 vs) in
          let fit = length_fitted 4 vs in
          let rel2 = rel_declared S.hidden S.code.own.stack t 4 ps env1 regs1 vs c1 size1 (omega (arith, room)) clear (λ i lt. held i (omega (arith, lt))) rel1 in
          let to : pc + li + (length inner + 1) ≡ pc + li + 1 + lb = omega (arith, sized) in
          go_left S n _ (tree.at (mark line (codes "?") (length env1 + 3) complete) (of_tree S ps (env1 ++ fitted 4 vs) c1) (iterating line names block (length env1) ∷ k)) _ refl
          (subst (λ u. Agree S n (tree.at (mark line (codes "?") (u + 3) complete) (of_tree S ps (env1 ++ fitted 4 vs) c1) (iterating line names block u ∷ k)) (before (of_code S ps (pc + length (exps_code S.code.own.constants es (Some 4) (t + 0) j line)) regs1 opened1) c1)) (sym size1)
          (at_place S ps n _ (pc + li) opened1 _ regs1 c1 there
          (prepares_goes S ps n line t (length inner) (pc + li) opened1 complete (env1 ++ fitted 4 vs) regs1 c1 (w ∷ k) (at_prep.0, (at_prep.1.0, tt)) (omega (arith, sized, inside)) (omega (arith, sized, near))
          titles.0 (ascends_from (t + 3) (omega arith)) (omega (arith, sum, fit, size1)) rel2
          (λ needed env2 regs2 c2 size2 rel3. at_place S (with_one S ps (t + 3) needed) n _ (pc + li + 1 + lb) opened1 _ regs2 c2 to
          (strong Loop round n (omega arith) (with_one S ps (t + 3) needed) env2 regs2 c2 opened1
          (record { numbered = numbers_both ps (record { number = t + 3; needed = needed } ∷ []) ∙ ap (λ l. l ++ (t + 3) ∷ []) standing.numbered; size = omega (arith, size2, sum, fit, size1); rel = rel3 }))))))
        where
          ascends_from : (u : ℕ) → t ≤ u → Ascends 0 ps u
          ascends_from u le =
              ascends_under 0 (length env1) u ps [] (subst (λ l. Ascends 0 l (length env1)) (sym (append_nil ps)) rel1.ascends) (subst (λ l. AllBelow l u) (sym standing.numbered) (below_higher t u closed le under))
