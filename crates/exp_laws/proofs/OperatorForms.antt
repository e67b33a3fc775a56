-- Operators, whose operands stand in registers or are numerals.
use Rattle.std.proofs.Common.{◌⊎◌, inl, inr, ◌≡◌, ℕ, ◌+◌, ◌<◌, ◌≤◌, ◌^◌, Bool, true, false, cond, not, ℤ, List, [], ◌∷◌, ◌++◌, length, Option, Some, None, refl, sym, ap, ap₂, ◌∙◌, subst, arith, pos, ◌-ℤ◌}
use Rattle.int_core.specs.Value.{Value, same_truth, known, integer, boolean, nth, write, shape, holds}
use Rattle.int_core.specs.Operations.{Event, Operation, arithmetic, computed, by_zero, concat}
use Rattle.int_core.specs.Ask.{operates, Reply, values, faulted, left, Captured, goes_on}
use Rattle.tree_core.specs.declared.operator.UnOp.{UnOp}
use Rattle.tree_core.specs.declared.operator.UnOp.TheVariants.{Not as Negation}
use Rattle.tree_core.specs.declared.operator.BinOp.{BinOp}
use Rattle.tree_core.specs.declared.operator.BinOp.TheVariants.{Concat as Join, Eq as Equal, Ne, Lt as Less, Le as AtMost, Gt, Ge}
use Rattle.tree_core.specs.Tree.{Exp}
use Rattle.tree_activation.specs.Work.{give, Work, Pending, operand_of, left_of}
use Rattle.tree_activation.specs.Work as tree
use Rattle.tree_activation.specs.Activation.{step}
use Rattle.tree_activation.specs.Asking.{first, asks}
use Rattle.tree_activation.specs.Expressions.{give_first, gives_integer, integer_in, by_integers, truth_of}
use Rattle.code_core.specs.declared.instruction.Instruction.{Instruction}
use Rattle.code_core.specs.declared.opcode.Opcode.{Opcode}
use Rattle.code_core.specs.declared.opcode.Opcode.TheVariants.{Jmp, MmBin, MmBinI, LoadTrue, LFalseSkip, Concat}
use Rattle.code_core.specs.Instruction.{abc, op_ax}
use Rattle.code_core.specs.Check.{at}
use Rattle.machine_core.specs.World.{for_value, for_truth, for_concat}
use Rattle.machine_core.specs.Text.{read, written, go_by}
use Rattle.machine_core.specs.InstructionRows.{fast, integer_of_shape, rest_at, to_register, told_values}
use Rattle.machine_core.specs.Talk.{before, amid, talk, talk_step, says_so, heard}
use Rattle.code_of.specs.Coded.{with_abc, jump_over}
use Rattle.code_of.specs.Truths.{pick, is_compared}
use Rattle.code_of.specs.Operands.{joins, computes}
use Rattle.code_of.specs.Operators.{prefix_opcode, prefix_code, operator_code, number_code, number_opcode, arithmetic_code, sum_code, truth_code}
use Rattle.exp_laws.proofs.Registers.{Rel, After, after_none}
use Rattle.exp_laws.specs.Setting.{Setting}
use Rattle.exp_laws.proofs.Talking.{Agree, go_left, go_right, of_tree, of_code}
use Rattle.exp_laws.proofs.Placing.{HasAt, here_abc}
use Rattle.exp_laws.proofs.Leaving.{faults_alike}
use Rattle.exp_laws.proofs.Asking.{asks_alike}
use Rattle.exp_laws.proofs.Steps.{go_step, put_step, true_step, not_step, operands_step, concat_step, concat_rest}
use Rattle.exp_laws.proofs.Prefixes.{given, Prefix, prefix_by, prefix_step, prefix_rest}
use Rattle.exp_laws.proofs.Tests.{jump_step}
use Rattle.exp_laws.proofs.Arithmetic.{Arithmetic, arithmetic_by, integer_same, event_step, event_rest}
use Rattle.exp_laws.proofs.Comparisons.{Comparison, comparison_by, told_truth, truth_same, compare_step, number_step, compare_rest, skip_step}
use Rattle.exp_laws.proofs.Sums.{Sum, NumberForm, sum_step, number_event_step}
use Rattle.exp_laws.proofs.Going.{next_there, Goes, GoesInto, given_one, put_goes, at_place, goes_at, goes_after, into_goes, into_at, operation_into, operation_goes}

told_concat : (reply : Reply) → told_values (for_concat 0) reply ≡ told_values for_value reply
told_concat (values vs) = refl
told_concat (faulted words) = refl
told_concat (left e) = refl

-- an operator computes a value, compares, or joins
sort_of : (op : BinOp) → (computes op ≡ true) ⊎ ((is_compared op ≡ true) ⊎ (op ≡ Join))
sort_of Join = inr (inr refl)
sort_of Equal = inr (inl refl)
sort_of Ne = inr (inl refl)
sort_of Less = inr (inl refl)
sort_of AtMost = inr (inl refl)
sort_of Gt = inr (inl refl)
sort_of Ge = inr (inl refl)
sort_of _ = inl refl

module _ (S : Setting) (pending : List Pending) where
  prefix_into : (op : UnOp) (g : Prefix op) (n : ℕ) (many : Bool) (line x t f pc opened : ℕ) (vs env regs : List Value) (c : Captured) (k : List Work)
      → HasAt S pc (prefix_code op x t line) → pc + 1 < length S.code.own.code → t < S.code.own.stack → x < S.code.own.stack
      → Rel S.hidden S.code.own.stack pending env c regs → nth regs x ≡ first vs → GoesInto S pending n many t f env regs (pc + 1) k
      → Agree S n (tree.at (give vs) (of_tree S pending env c) (operand_of line op ∷ k)) (before (of_code S pending pc regs opened) c)
  prefix_into op g n many line x t f pc opened vs env regs c k has inside room x_room rel eq goes =
      let fits : t < 2 ^ 8 = omega (arith, room, S.small) in
      let x_fits : x < 2 ^ 8 = omega (arith, x_room, S.small) in
      operation_into S pending for_value (λ reply. refl) g.operation (given g.twice (first vs)) n many line t f pc opened _ _ env regs c k (g.means line (first vs) (of_tree S pending env c) k)
      (prefix_step S.code op g x t x_fits fits (of_code S pending pc regs opened) c has.0 (omega (arith, x_room, rel.room))
      ∙ ap (λ y. says_so (operates g.operation (given g.twice y)) S.code (of_code S pending pc regs opened) c (λ y b d. heard for_value S.code y b d)) eq)
      (prefix_rest S.code op g x t x_fits fits pc has.0) (here_abc S (prefix_opcode op) t x 0 false line pc [] has) inside room rel goes

  -- an operator before the value in register x, which goes to register t
  pub unary_into : (op : UnOp) (n : ℕ) (many : Bool) (line x t f pc opened : ℕ) (vs env regs : List Value) (c : Captured) (k : List Work)
      → HasAt S pc (prefix_code op x t line) → pc + 1 < length S.code.own.code → t < S.code.own.stack → x < S.code.own.stack
      → Rel S.hidden S.code.own.stack pending env c regs → nth regs x ≡ first vs → GoesInto S pending n many t f env regs (pc + 1) k
      → Agree S n (tree.at (give vs) (of_tree S pending env c) (operand_of line op ∷ k)) (before (of_code S pending pc regs opened) c)
  unary_into Negation n many line x t f pc opened vs env regs c k has inside room x_room rel eq goes =
      let there = next_there S (pc + 1) inside in
      let v = known (boolean (not (holds (shape (first vs))))) in
      go_left S n _ (tree.at (give (v ∷ [])) (of_tree S pending env c) k) _ refl
      (go_right S n _ _ (before (of_code S pending (pc + 1) (write t v regs) opened) c)
      (not_step S.code (of_code S pending pc regs opened) c there.0 there.1 t x has.0 (omega (arith, room, S.small)) (omega (arith, x_room, S.small)) (omega (arith, x_room, rel.room)) (omega (arith, room, rel.room))
      ∙ ap (λ y. goes_on (before (of_code S pending (pc + 1) (write t (known (boolean (not (holds (shape y))))) regs) opened) c)) eq)
      (goes (v ∷ []) env regs c opened (after_none S.hidden S.code.own.stack pending env regs c f rel) (given_one S pending many v)))
  unary_into op n many line x t f pc opened vs env regs c k has inside room x_room rel eq goes = prefix_into op (prefix_by op tt) n many line x t f pc opened vs env regs c k has inside room x_room rel eq goes

  -- arithmetic on the values v and w: an instruction that does it on integers, and one behind it that asks
  module _ (event : Event) (op half : Opcode) (field x y number line t f pc opened : ℕ) (v w : Value) (slots env regs : List Value) (c : Captured) (k : List Work) (s : tree.State)
      (has : HasAt S pc (with_abc op t x field line ∷ with_abc half x y number line ∷ [])) (inside : pc + 2 < length S.code.own.code) (room : t < S.code.own.stack)
      (rel : Rel S.hidden S.code.own.stack pending env c regs)
      (begins : step s ≡ by_integers event (integer_in (shape v)) (integer_in (shape w)) line v w (of_tree S pending env c) k)
      (reads : talk_step S.code (before (of_code S pending pc regs opened) c) ≡ talk S.code (fast event t (integer_in (shape v)) (integer_in (shape w))) slots (of_code S pending pc regs opened) c)
      (asks_so : talk_step S.code (before (of_code S pending (pc + 1) regs opened) c) ≡ says_so (operates (arithmetic event) (v ∷ w ∷ [])) S.code (of_code S pending (pc + 1) regs opened) c (λ x b d. heard for_value S.code x b d))
      (rests : rest_at {V = Value} for_value S.code (pc + 1) ≡ to_register t (read 0)) where
    two : pc + 1 + 1 ≡ pc + 2
    two = omega arith

    there : (i : Instruction) × (at S.code (pc + 2) ≡ Some i)
    there = next_there S (pc + 2) inside

    -- one operand is no integer
    asked : (n : ℕ) (many : Bool) → GoesInto S pending n many t f env regs (pc + 2) k
        → step s ≡ asks (operates (arithmetic event) (v ∷ w ∷ [])) line (of_tree S pending env c) k give_first
        → talk_step S.code (before (of_code S pending pc regs opened) c) ≡ goes_on (before (of_code S pending (pc + 1) regs opened) c)
        → Agree S n s (before (of_code S pending pc regs opened) c)
    asked n many goes e d =
        go_right S n s _ (before (of_code S pending (pc + 1) regs opened) c) d
        (operation_into S pending for_value (λ reply. refl) (arithmetic event) (v ∷ w ∷ []) n many line t f (pc + 1) opened s _ env regs c k e asks_so rests
        (here_abc S half x y number false line (pc + 1) [] has.1.1) (omega (arith, inside)) room rel
        (into_at S pending n many t f (pc + 1 + 1) (pc + 2) env regs k two goes))

    pub arithmetic_into : (n : ℕ) (many : Bool) → GoesInto S pending n many t f env regs (pc + 2) k → Agree S n s (before (of_code S pending pc regs opened) c)
    arithmetic_into n many goes = by (integer_in (shape v)) (integer_in (shape w)) begins reads
      where
        slow : (o q : Option ℤ) → step s ≡ asks (operates (arithmetic event) (v ∷ w ∷ [])) line (of_tree S pending env c) k give_first
            → talk_step S.code (before (of_code S pending pc regs opened) c) ≡ talk S.code (Rattle.machine_core.specs.InstructionRows.next) slots (of_code S pending pc regs opened) c
            → Agree S n s (before (of_code S pending pc regs opened) c)
        slow o q e d = asked n many goes e (d ∙ go_step S.code 1 (abc half x y number false) slots (of_code S pending pc regs opened) c has.1.1.0)

        both : (o : Option ℤ) → step s ≡ gives_integer o event line (of_tree S pending env c) k
            → talk_step S.code (before (of_code S pending pc regs opened) c) ≡ talk S.code (elim o as (λ _. Rattle.machine_core.specs.Text.Text) [ None ↦ Rattle.machine_core.specs.Text.raise (by_zero event) | Some z ↦ Rattle.machine_core.specs.InstructionRows.then (Rattle.machine_core.specs.Text.write_register t (written (integer z))) Rattle.machine_core.specs.InstructionRows.skip ]) slots (of_code S pending pc regs opened) c
            → Agree S n s (before (of_code S pending pc regs opened) c)
        both None e d = go_left S n s _ _ e (faults_alike S n pending line pc opened env regs c (by_zero event) _ _ rel (here_abc S op t x field false line pc (with_abc half x y number line ∷ []) has) refl d)
        both (Some z) e d =
            go_left S n s _ _ e
            (go_right S n _ _ (before (of_code S pending (pc + 2) (write t (known (integer z)) regs) opened) c)
            (d ∙ put_step S.code t 2 (written (integer z)) there.0 slots (of_code S pending pc regs opened) c (omega (arith, room, rel.room)) there.1)
            (goes (known (integer z) ∷ []) env regs c opened (after_none S.hidden S.code.own.stack pending env regs c f rel) (given_one S pending many (known (integer z)))))

        by : (o q : Option ℤ) → step s ≡ by_integers event o q line v w (of_tree S pending env c) k
            → talk_step S.code (before (of_code S pending pc regs opened) c) ≡ talk S.code (fast event t o q) slots (of_code S pending pc regs opened) c
            → Agree S n s (before (of_code S pending pc regs opened) c)
        by (Some x) (Some y) e d = both (computed event x y) e d
        by None q e d = slow None q e d
        by (Some x) None e d = slow (Some x) None e d

  -- on the values in the registers x and y
  registers_into : (op : BinOp) (g : Arithmetic op) (n : ℕ) (many : Bool) (line x y t f pc opened : ℕ) (v w : Value) (env regs : List Value) (c : Captured) (k : List Work) (s : tree.State)
      → HasAt S pc (arithmetic_code g.opcode g.number x y t line) → pc + 2 < length S.code.own.code → t < S.code.own.stack → x < S.code.own.stack → y < S.code.own.stack
      → Rel S.hidden S.code.own.stack pending env c regs → nth regs x ≡ v → nth regs y ≡ w
      → step s ≡ by_integers g.event (integer_in (shape v)) (integer_in (shape w)) line v w (of_tree S pending env c) k
      → GoesInto S pending n many t f env regs (pc + 2) k → Agree S n s (before (of_code S pending pc regs opened) c)
  registers_into op g n many line x y t f pc opened v w env regs c k s has inside room x_room y_room rel left_is right_is begins goes =
      arithmetic_into g.event g.opcode MmBin y x y g.number line t f pc opened v w (v ∷ w ∷ []) env regs c k s has inside room rel begins
      (operands_step S.code g.opcode g.event t x y (of_code S pending pc regs opened) c has.0 (g.row S.code pc) (omega (arith, room, S.small)) (omega (arith, x_room, S.small)) (omega (arith, y_room, S.small)) (omega (arith, x_room, rel.room)) (omega (arith, y_room, rel.room))
      ∙ ap₂ (λ u z. talk S.code (fast g.event t (integer_of_shape (shape u)) (integer_of_shape (shape z))) (u ∷ z ∷ []) (of_code S pending pc regs opened) c) left_is right_is
      ∙ ap₂ (λ o q. talk S.code (fast g.event t o q) (v ∷ w ∷ []) (of_code S pending pc regs opened) c) (integer_same (shape v)) (integer_same (shape w)))
      (event_step S.code x y g.number g.event (of_code S pending (pc + 1) regs opened) c has.1.1.0 g.numbered g.small (omega (arith, x_room, S.small)) (omega (arith, y_room, S.small)) (omega (arith, x_room, rel.room)) (omega (arith, y_room, rel.room))
      ∙ ap₂ (λ u z. says_so (operates (arithmetic g.event) (u ∷ z ∷ [])) S.code (of_code S pending (pc + 1) regs opened) c (λ x b d. heard for_value S.code x b d)) left_is right_is)
      (event_rest S.code MmBin g.opcode t x y y g.number pc has.0 has.1.1.0 (omega (arith, room, S.small)) refl) n many goes

  -- on the value in the register x and the numeral m
  sum_into : (op : BinOp) (m : ℕ) (g : Sum op m) (n : ℕ) (many : Bool) (line x t f pc opened : ℕ) (v : Value) (env regs : List Value) (c : Captured) (k : List Work) (s : tree.State)
      → HasAt S pc (sum_code g.opcode g.field g.number x m t line) → pc + 2 < length S.code.own.code → t < S.code.own.stack → x < S.code.own.stack → m ≤ 128
      → Rel S.hidden S.code.own.stack pending env c regs → nth regs x ≡ v
      → step s ≡ by_integers g.event (integer_in (shape v)) (Some (pos m)) line v (known (integer (pos m))) (of_tree S pending env c) k
      → GoesInto S pending n many t f env regs (pc + 2) k → Agree S n s (before (of_code S pending pc regs opened) c)
  sum_into op m g n many line x t f pc opened v env regs c k s has inside room x_room small rel left_is begins goes =
      arithmetic_into g.event g.opcode MmBinI g.field x (m + 127) g.number line t f pc opened v (known (integer (pos m))) (v ∷ []) env regs c k s has inside room rel begins
      (sum_step S.code g.opcode g.done t x g.field (of_code S pending pc regs opened) c has.0 (g.row S.code pc) (omega (arith, room, S.small)) (omega (arith, x_room, S.small)) g.fits (omega (arith, x_room, rel.room))
      ∙ ap (λ u. talk S.code (fast g.done t (integer_of_shape (shape u)) (Some (pos g.field -ℤ pos 127))) (u ∷ []) (of_code S pending pc regs opened) c) left_is
      ∙ ap (λ o. talk S.code (fast g.done t o (Some (pos g.field -ℤ pos 127))) (v ∷ []) (of_code S pending pc regs opened) c) (integer_same (shape v))
      ∙ ap (λ q. talk S.code q (v ∷ []) (of_code S pending pc regs opened) c) (g.same t (integer_in (shape v))))
      (number_event_step S.code x m g.number g.event (of_code S pending (pc + 1) regs opened) c has.1.1.0 g.numbered g.small (omega (arith, x_room, S.small)) (omega (arith, small)) (omega (arith, x_room, rel.room))
      ∙ ap (λ u. says_so (operates (arithmetic g.event) (u ∷ known (integer (pos m)) ∷ [])) S.code (of_code S pending (pc + 1) regs opened) c (λ x b d. heard for_value S.code x b d)) left_is)
      (event_rest S.code MmBinI g.opcode t x g.field (m + 127) g.number pc has.0 has.1.1.0 (omega (arith, room, S.small)) refl) n many goes

  -- a comparison, whose truth goes to register t
  module _ (operation : Operation) (wanted : Bool) (opcode : Opcode) (x y line t pc opened : ℕ) (v w : Value) (env regs : List Value) (c : Captured) (k : List Work) (s : tree.State)
      (has : HasAt S pc (truth_code opcode x y wanted t line)) (inside : pc + 4 < length S.code.own.code) (le : length env ≤ t) (room : t < S.code.own.stack) (x_fits : x < 2 ^ 8)
      (rel : Rel S.hidden S.code.own.stack pending env c regs)
      (begins : step s ≡ truth_of operation wanted v w line (of_tree S pending env c) k)
      (asks_so : talk_step S.code (before (of_code S pending pc regs opened) c) ≡ says_so (operates operation (v ∷ w ∷ [])) S.code (of_code S pending pc regs opened) c (λ q b d. heard for_truth S.code q b d)) where
    places : (pc + 1 + 1 ≡ pc + 2) × (pc + 1 + (1 + 1) ≡ pc + 1 + 1 + 1)
    places = (omega arith, omega arith)

    ends : (pc + 1 + 1 + 2 ≡ pc + 4) × (pc + 1 + 1 + 1 + 1 ≡ pc + 4)
    ends = (omega arith, omega arith)

    last : (i : Instruction) × (at S.code (pc + 4) ≡ Some i)
    last = next_there S (pc + 4) inside

    -- the truth b goes to register t
    written_so : (n : ℕ) (many : Bool) (b : Bool) (ws env1 regs1 : List Value) (c1 : Captured) → After S.hidden S.code.own.stack pending env regs t env1 regs1 c1 → same_truth (holds (shape (first ws))) wanted ≡ b
        → Goes S pending n many t env regs (pc + 4) k
        → Agree S n (tree.at (give (known (boolean b) ∷ [])) (of_tree S pending env1 c1) k) (amid (rest_at {V = Value} for_truth S.code pc) ws (of_code S pending pc regs1 opened) c1)
    written_so n many true ws env1 regs1 c1 af e goes =
        go_right S n _ _ (before (of_code S pending (pc + 1) regs1 opened) c1)
        (compare_rest S.code opcode x y wanted ws (of_code S pending pc regs1 opened) c1 has.0 x_fits
        ∙ ap (λ b. talk S.code (go_by (cond b (pos 1) (pos 2))) (ws ++ []) (of_code S pending pc regs1 opened) c1) e
        ∙ go_step S.code 1 (op_ax Jmp (16777215 + 1)) (ws ++ []) (of_code S pending pc regs1 opened) c1 has.1.1.0)
        (go_right S n _ _ (before (of_code S pending (pc + 1 + (1 + 1)) regs1 opened) c1)
        (jump_step S.code (of_code S pending (pc + 1) regs1 opened) c1 1 (abc LoadTrue t 0 0 false) has.1.1.0 (omega arith) (subst (λ q. at S.code q ≡ Some (abc LoadTrue t 0 0 false)) (sym places.1) has.1.1.1.1.1.1.0))
        (at_place S pending n (pc + 1 + (1 + 1)) (pc + 1 + 1 + 1) opened _ regs1 c1 places.1
        (go_right S n _ _ (before (of_code S pending (pc + 1 + 1 + 1 + 1) (write t (known (boolean true)) regs1) opened) c1)
        (true_step S.code (of_code S pending (pc + 1 + 1 + 1) regs1 opened) c1 last.0 (subst (λ q. at S.code q ≡ Some last.0) (sym ends.1) last.1) t has.1.1.1.1.1.1.0 (omega (arith, room, S.small)) (omega (arith, room, af.rel.room)))
        (at_place S pending n (pc + 1 + 1 + 1 + 1) (pc + 4) opened _ (write t (known (boolean true)) regs1) c1 ends.1
        (put_goes S pending n many t (pc + 4) opened (known (boolean true)) env1 regs1 c1 k (omega (arith, le, af.size)) af.rel (goes_after S pending n many t (pc + 4) env regs env1 regs1 c1 k af goes))))))
    written_so n many false ws env1 regs1 c1 af e goes =
        go_right S n _ _ (before (of_code S pending (pc + 2) regs1 opened) c1)
        (compare_rest S.code opcode x y wanted ws (of_code S pending pc regs1 opened) c1 has.0 x_fits
        ∙ ap (λ b. talk S.code (go_by (cond b (pos 1) (pos 2))) (ws ++ []) (of_code S pending pc regs1 opened) c1) e
        ∙ go_step S.code 2 (abc LFalseSkip t 0 0 false) (ws ++ []) (of_code S pending pc regs1 opened) c1 (subst (λ q. at S.code q ≡ Some (abc LFalseSkip t 0 0 false)) places.0 has.1.1.1.1.0))
        (at_place S pending n (pc + 2) (pc + 1 + 1) opened _ regs1 c1 (sym places.0)
        (go_right S n _ _ (before (of_code S pending (pc + 1 + 1 + 2) (write t (known (boolean false)) regs1) opened) c1)
        (skip_step S.code t last.0 (of_code S pending (pc + 1 + 1) regs1 opened) c1 has.1.1.1.1.0 (omega (arith, room, S.small)) (omega (arith, room, af.rel.room)) (subst (λ q. at S.code q ≡ Some last.0) (sym ends.0) last.1))
        (at_place S pending n (pc + 1 + 1 + 2) (pc + 4) opened _ (write t (known (boolean false)) regs1) c1 ends.0
        (put_goes S pending n many t (pc + 4) opened (known (boolean false)) env1 regs1 c1 k (omega (arith, le, af.size)) af.rel (goes_after S pending n many t (pc + 4) env regs env1 regs1 c1 k af goes)))))

    pub truth_goes : (n : ℕ) (many : Bool) → Goes S pending n many t env regs (pc + 4) k → Agree S n s (before (of_code S pending pc regs opened) c)
    truth_goes n many goes =
        asks_alike S pending n for_truth told_truth s _ (operates operation (v ∷ w ∷ [])) (operates operation (v ∷ w ∷ [])) line pc opened t env regs c k
        (λ vs. give (known (boolean (cond wanted (holds (shape (first vs))) (not (holds (shape (first vs)))))) ∷ [])) begins asks_so
        (λ m. (refl, refl)) refl rel (here_abc S opcode x y 0 wanted line pc (jump_over 1 line ∷ with_abc LFalseSkip t 0 0 line ∷ with_abc LoadTrue t 0 0 line ∷ []) has)
        (λ ws env1 regs1 c1 af. subst (λ b. Agree S n (tree.at (give (known (boolean b) ∷ [])) (of_tree S pending env1 c1) k) (amid (rest_at {V = Value} for_truth S.code pc) ws (of_code S pending pc regs1 opened) c1))
        (truth_same (holds (shape (first ws))) wanted) (written_so n many (same_truth (holds (shape (first ws))) wanted) ws env1 regs1 c1 af refl goes))

  pub one_of : (b : Bool) (x y limit : ℕ) → x < limit → y < limit → pick b x y < limit
  one_of true x y limit h g = g
  one_of false x y limit h g = h

  pub picked : (b : Bool) (x y : ℕ) (v w : Value) (regs : List Value) → nth regs x ≡ v → nth regs y ≡ w → nth regs (pick b x y) ≡ pick b v w
  picked true x y v w regs e d = d
  picked false x y v w regs e d = e

  -- the values in the registers x and y are compared: what is asked
  pub compared_so : (op : BinOp) (f : Comparison op) (x y pc opened : ℕ) (k : Bool) (v w : Value) (env regs : List Value) (c : Captured) → at S.code pc ≡ Some (abc f.opcode (pick f.swapped x y) (pick f.swapped y x) 0 k)
      → x < S.code.own.stack → y < S.code.own.stack → Rel S.hidden S.code.own.stack pending env c regs → nth regs x ≡ v → nth regs y ≡ w
      → talk_step S.code (before (of_code S pending pc regs opened) c) ≡ says_so (operates f.operation (pick f.swapped v w ∷ pick f.swapped w v ∷ [])) S.code (of_code S pending pc regs opened) c (λ q b d. heard for_truth S.code q b d)
  compared_so op f x y pc opened k v w env regs c here x_room y_room rel x_is y_is =
      compare_step S.code f.opcode f.operation (pick f.swapped x y) (pick f.swapped y x) k (of_code S pending pc regs opened) c here (f.row S.code pc)
      (one_of f.swapped x y (2 ^ 8) (omega (arith, x_room, S.small)) (omega (arith, y_room, S.small))) (one_of f.swapped y x (2 ^ 8) (omega (arith, y_room, S.small)) (omega (arith, x_room, S.small)))
      (one_of f.swapped x y (length regs) (omega (arith, x_room, rel.room)) (omega (arith, y_room, rel.room))) (one_of f.swapped y x (length regs) (omega (arith, y_room, rel.room)) (omega (arith, x_room, rel.room)))
      ∙ ap₂ (λ u z. says_so (operates f.operation (u ∷ z ∷ [])) S.code (of_code S pending pc regs opened) c (λ q b d. heard for_truth S.code q b d)) (picked f.swapped x y v w regs x_is y_is) (picked f.swapped y x w v regs y_is x_is)

  -- the value in the register x is compared with the numeral m
  pub numbered_so : (op : BinOp) (f : Comparison op) (x m pc opened : ℕ) (k : Bool) (v : Value) (env regs : List Value) (c : Captured) → at S.code pc ≡ Some (abc (number_opcode op) x (m + 127) 0 k)
      → x < S.code.own.stack → m ≤ 128 → Rel S.hidden S.code.own.stack pending env c regs → nth regs x ≡ v
      → talk_step S.code (before (of_code S pending pc regs opened) c)
      ≡ says_so (operates f.operation (pick f.swapped v (known (integer (pos m))) ∷ pick f.swapped (known (integer (pos m))) v ∷ [])) S.code (of_code S pending pc regs opened) c (λ q b d. heard for_truth S.code q b d)
  numbered_so op f x m pc opened k v env regs c here x_room small rel x_is =
      number_step S.code (number_opcode op) f.operation f.swapped x m k (of_code S pending pc regs opened) c here (f.row_of_number S.code pc) (omega (arith, x_room, S.small)) (omega (arith, small)) (omega (arith, x_room, rel.room))
      ∙ ap (λ u. says_so (operates f.operation (pick f.swapped u (known (integer (pos m))) ∷ pick f.swapped (known (integer (pos m))) u ∷ [])) S.code (of_code S pending pc regs opened) c (λ q b d. heard for_truth S.code q b d)) x_is

  -- an operator of arithmetic between the values in the registers x and y, whose result goes to any register
  pub binary_into : (op : BinOp) → computes op ≡ true → (n : ℕ) (many : Bool) (line x y t f pc opened : ℕ) (v : Value) (ws env regs : List Value) (c : Captured) (k : List Work)
      → HasAt S pc (operator_code op x y t line) → pc + length (operator_code op x y t line) < length S.code.own.code → t < S.code.own.stack → x < S.code.own.stack → y < S.code.own.stack
      → Rel S.hidden S.code.own.stack pending env c regs → nth regs x ≡ v → nth regs y ≡ first ws → GoesInto S pending n many t f env regs (pc + length (operator_code op x y t line)) k
      → Agree S n (tree.at (give ws) (of_tree S pending env c) (left_of line op v ∷ k)) (before (of_code S pending pc regs opened) c)
  binary_into op is n many line x y t f pc opened v ws env regs c k has inside room x_room y_room rel e1 e2 goes =
      let g = arithmetic_by op is in
      let size = ap length (g.emits x y t line) in
      registers_into op g n many line x y t f pc opened v (first ws) env regs c k _ (subst (HasAt S pc) (g.emits x y t line) has) (omega (arith, inside, size)) room x_room y_room rel e1 e2
      (g.means line v (first ws) (of_tree S pending env c) k)
      (into_at S pending n many t f (pc + 2) (pc + length (operator_code op x y t line)) env regs k (omega (arith, size)) goes)

  -- where the numeral m stands in one instruction beside the register x
  summed_into : (op : BinOp) (d : Exp) (m : ℕ) (f : NumberForm op d m) (g : Sum op m) (n : ℕ) (many : Bool) (line x t free pc opened : ℕ) (v : Value) (env regs : List Value) (c : Captured) (k : List Work)
      → HasAt S pc (number_code op x m t line) → pc + length (number_code op x m t line) < length S.code.own.code → t < S.code.own.stack → x < S.code.own.stack
      → Rel S.hidden S.code.own.stack pending env c regs → nth regs x ≡ v → GoesInto S pending n many t free env regs (pc + length (number_code op x m t line)) k
      → Agree S n (tree.at (give (known (integer (pos m)) ∷ [])) (of_tree S pending env c) (left_of line op v ∷ k)) (before (of_code S pending pc regs opened) c)
  summed_into op d m f g n many line x t free pc opened v env regs c k has inside room x_room rel x_is goes =
      let size = ap length (g.emits x t line) in
      sum_into op m g n many line x t free pc opened v env regs c k _ (subst (HasAt S pc) (g.emits x t line) has) (omega (arith, inside, size)) room x_room f.numeral.small rel x_is
      (g.means line v (known (integer (pos m))) (of_tree S pending env c) k)
      (into_at S pending n many t free (pc + 2) (pc + length (number_code op x m t line)) env regs k (omega (arith, size)) goes)

  -- and between the value in the register x and the numeral m
  pub number_into : (op : BinOp) → computes op ≡ true → (d : Exp) (m : ℕ) (f : NumberForm op d m) (n : ℕ) (many : Bool) (line x t free pc opened : ℕ) (v : Value) (env regs : List Value) (c : Captured) (k : List Work)
      → HasAt S pc (number_code op x m t line) → pc + length (number_code op x m t line) < length S.code.own.code → t < S.code.own.stack → x < S.code.own.stack
      → Rel S.hidden S.code.own.stack pending env c regs → nth regs x ≡ v → GoesInto S pending n many t free env regs (pc + length (number_code op x m t line)) k
      → Agree S n (tree.at (give (known (integer (pos m)) ∷ [])) (of_tree S pending env c) (left_of line op v ∷ k)) (before (of_code S pending pc regs opened) c)
  number_into op is d m f n many line x t free pc opened v env regs c k has inside room x_room rel x_is goes = by f.form
    where
      by : Sum op m ⊎ Comparison op → Agree S n (tree.at (give (known (integer (pos m)) ∷ [])) (of_tree S pending env c) (left_of line op v ∷ k)) (before (of_code S pending pc regs opened) c)
      by (inl g) = summed_into op d m f g n many line x t free pc opened v env regs c k has inside room x_room rel x_is goes
      by (inr g) =
          let two = ap length ((arithmetic_by op is).emits 0 0 0 0) in
          let four = ap length (g.emits 0 0 0 0) in
          absurd (omega (arith, two, four))

  -- an operator between the values in the registers x and y
  pub binary_goes : (op : BinOp) (n : ℕ) (many : Bool) (line x y t pc opened : ℕ) (v : Value) (ws env regs : List Value) (c : Captured) (k : List Work)
      → HasAt S pc (operator_code op x y t line) → pc + length (operator_code op x y t line) < length S.code.own.code → length env ≤ t → t < S.code.own.stack → x < S.code.own.stack → y < S.code.own.stack
      → (joins op ≡ true → (x ≡ t) × (y ≡ t + 1))
      → Rel S.hidden S.code.own.stack pending env c regs → nth regs x ≡ v → nth regs y ≡ first ws → Goes S pending n many t env regs (pc + length (operator_code op x y t line)) k
      → Agree S n (tree.at (give ws) (of_tree S pending env c) (left_of line op v ∷ k)) (before (of_code S pending pc regs opened) c)
  binary_goes op n many line x y t pc opened v ws env regs c k has inside le room x_room y_room seats rel e1 e2 goes = by (sort_of op)
    where
      joined : op ≡ Join → Agree S n (tree.at (give ws) (of_tree S pending env c) (left_of line op v ∷ k)) (before (of_code S pending pc regs opened) c)
      joined is =
          let size = ap (λ o. length (operator_code o x y t line)) is in
          let here = subst (λ o. HasAt S pc (operator_code o x y t line)) is has in
          let together = seats (ap joins is) in
          let second = together.1 in
          let left_is : nth regs t ≡ v = ap (nth regs) (sym together.0) ∙ e1 in
          let right_is : nth regs (t + 1) ≡ first ws = ap (nth regs) (sym together.1) ∙ e2 in
          operation_goes S pending (for_concat 0) told_concat concat (v ∷ first ws ∷ []) n many line t pc opened _ _ env regs c k (ap (λ o. step (tree.at (give ws) (of_tree S pending env c) (left_of line o v ∷ k))) is)
          (concat_step S.code t (of_code S pending pc regs opened) c here.0 (omega (arith, room, S.small)) (omega (arith, second, y_room, rel.room))
          ∙ ap₂ (λ x y. says_so (operates concat (x ∷ y ∷ [])) S.code (of_code S pending pc regs opened) c (λ x b d. heard (for_concat 0) S.code x b d)) left_is right_is)
          (concat_rest S.code t pc here.0 (omega (arith, room, S.small))) (here_abc S Concat t 2 0 false line pc [] here) (omega (arith, inside, size)) le room rel
          (goes_at S pending n many t (pc + 1) (pc + length (operator_code op x y t line)) env regs k (omega (arith, size)) goes)

      by : (computes op ≡ true) ⊎ ((is_compared op ≡ true) ⊎ (op ≡ Join)) → Agree S n (tree.at (give ws) (of_tree S pending env c) (left_of line op v ∷ k)) (before (of_code S pending pc regs opened) c)
      by (inl is) =
          binary_into op is n many line x y t t pc opened v ws env regs c k has inside room x_room y_room rel e1 e2
          (into_goes S pending n many t (pc + length (operator_code op x y t line)) env regs k le goes)
      by (inr (inl is)) =
          let f = comparison_by op is in
          let size = ap length (f.emits x y t line) in
          let there = subst (HasAt S pc) (f.emits x y t line) has in
          truth_goes f.operation f.wanted f.opcode (pick f.swapped x y) (pick f.swapped y x) line t pc opened (pick f.swapped v (first ws)) (pick f.swapped (first ws) v) env regs c k _ there (omega (arith, inside, size)) le room
          (one_of f.swapped x y (2 ^ 8) (omega (arith, x_room, S.small)) (omega (arith, y_room, S.small))) rel
          (f.means line v (first ws) (of_tree S pending env c) k) (compared_so op f x y pc opened f.wanted v (first ws) env regs c there.0 x_room y_room rel e1 e2) n many
          (goes_at S pending n many t (pc + 4) (pc + length (operator_code op x y t line)) env regs k (omega (arith, size)) goes)
      by (inr (inr is)) = joined is

  -- an operator between the value in the register x and the numeral m
  pub number_goes : (op : BinOp) (d : Exp) (m : ℕ) (f : NumberForm op d m) (n : ℕ) (many : Bool) (line x t pc opened : ℕ) (v : Value) (env regs : List Value) (c : Captured) (k : List Work)
      → HasAt S pc (number_code op x m t line) → pc + length (number_code op x m t line) < length S.code.own.code → length env ≤ t → t < S.code.own.stack → x < S.code.own.stack
      → Rel S.hidden S.code.own.stack pending env c regs → nth regs x ≡ v → Goes S pending n many t env regs (pc + length (number_code op x m t line)) k
      → Agree S n (tree.at (give (known (integer (pos m)) ∷ [])) (of_tree S pending env c) (left_of line op v ∷ k)) (before (of_code S pending pc regs opened) c)
  number_goes op d m f n many line x t pc opened v env regs c k has inside le room x_room rel x_is goes = by f.form
    where
      w : Value
      w = known (integer (pos m))

      by : Sum op m ⊎ Comparison op → Agree S n (tree.at (give (w ∷ [])) (of_tree S pending env c) (left_of line op v ∷ k)) (before (of_code S pending pc regs opened) c)
      by (inl g) =
          summed_into op d m f g n many line x t t pc opened v env regs c k has inside room x_room rel x_is
          (into_goes S pending n many t (pc + length (number_code op x m t line)) env regs k le goes)
      by (inr g) =
          let size = ap length (g.emits_number x m t line) in
          let there = subst (HasAt S pc) (g.emits_number x m t line) has in
          truth_goes g.operation g.wanted (number_opcode op) x (m + 127) line t pc opened (pick g.swapped v w) (pick g.swapped w v) env regs c k _ there (omega (arith, inside, size)) le room (omega (arith, x_room, S.small)) rel
          (g.means line v w (of_tree S pending env c) k) (numbered_so op g x m pc opened g.wanted v env regs c there.0 x_room f.numeral.small rel x_is) n many
          (goes_at S pending n many t (pc + 4) (pc + length (number_code op x m t line)) env regs k (omega (arith, size)) goes)
