-- Leaving a function with values: `return`, and the end of its block.
use Rattle.std.proofs.Common.{◌≡◌, ℕ, ◌+◌, ◌-◌, ◌<◌, ◌≤◌, ◌^◌, lit<, Bool, true, false, cond, List, [], ◌∷◌, ◌++◌, length, Option, Some, None, refl, sym, ap, ap₂, subst, ◌∙◌, arith, append_assoc, length-append}
use Rattle.std.specs.Prelude.{nat_lt, ◌==◌}
use Rattle.int_core.specs.Value.{Value}
use Rattle.int_core.specs.Ask.{goes_on, Captured}
use Rattle.tree_core.specs.Tree.{Block, Returns, Stats, EndStats, Repeat, Exp, Call, Method, Exps, EndExps, MoreExps, MoreStats}
use Rattle.tree_activation.specs.Work.{collect, evaluate, callee_of, method_of, for_return, run, repeating, Work, Pending, Passed, returns_list, State}
use Rattle.tree_activation.specs.Work as tree
use Rattle.tree_activation.specs.Activation.{step}
use Rattle.tree_activation.specs.Statements.{repeat_point, begins_return}
use Rattle.code_core.specs.declared.opcode.Opcode.TheVariants.{TailCall, Return}
use Rattle.code_core.specs.Instruction.{abc}
use Rattle.code_core.specs.Check.{at}
use Rattle.code_core.specs.declared.proto.Const.{Const}
use Rattle.code_core.proofs.FieldLemmas.{opcode_of-abc, a_of-abc, b_of-abc}
use Rattle.machine_core.specs.InstructionRows as rows
use Rattle.machine_core.specs.InstructionRows.{read_values, counted}
use Rattle.machine_core.specs.Talk.{talk, talk_step, before}
use Rattle.list_laws.proofs.Items.{append_nil}
use Rattle.code_of.specs.Coded.{Coded, leaving_by}
use Rattle.code_of.specs.Expressions.{made_by, count, list_field, exp_code, exps_code}
use Rattle.code_of.specs.Jumps.{Reach}
use Rattle.tree_terms.specs.Levels.{level_after, levels_after}
use Rattle.code_of.specs.Levels.{closing_after, closings_after, made_in_stats}
use Rattle.code_of.specs.Operands.{local_of, lone_local, seat, unless}
use Rattle.code_of.specs.Operators.{self_code}
use Rattle.code_of.specs.Parts.{returned_by, values_last, return_code}
use Rattle.code_of.specs.Sizes.{stat_size, stats_size, block_size, open_size}
use Rattle.code_of.specs.Statements.{in_loop, stats_code, open_code}
use Rattle.exp_laws.proofs.Registers.{Rel}
use Rattle.exp_laws.specs.Setting.{Setting}
use Rattle.exp_laws.proofs.Talking.{Agree, go_left, of_tree, of_code}
use Rattle.exp_laws.proofs.Placing.{HasAt, has_front, has_back}
use Rattle.exp_laws.proofs.Calls.{read_values_step}
use Rattle.code_of.specs.Rooms.{room_of_list, room_of_last}
use Rattle.code_of.specs.Stores.{room_unless}
use Rattle.exp_laws.specs.Placed.{IsPlaced, ArePlaced}
use Rattle.exp_laws.proofs.Steps.{row_step}
use Rattle.exp_laws.proofs.LastCalls.{call_last_same, method_last_same}
use Rattle.stat_laws.proofs.Ways.{way}
use Rattle.stat_laws.proofs.Standing.{no_numbers, numbers, GoesOn}
use Rattle.stat_laws.specs.Scoped.{ListIsPlaced, LastIsPlaced, ReturnIsPlaced}
use Rattle.code_of.proofs.Operands.{lone_is}
use Rattle.code_of.proofs.Sizes.{stats_sized}
use Rattle.stat_laws.proofs.Labels.{closed_after, Jumps}
use Rattle.stat_laws.proofs.Blocks.{has_some, no_some, closeds_after, known_after, StatLaw, StatsLaw, begins_block}
use Rattle.stat_laws.proofs.Forms.{BlockLaw, loop_jumps}
use Rattle.exp_laws.proofs.Returns.{return_list_same, return_local_same}

-- behind some statements
pub known_all : (ss : Stats) (t : ℕ) (closing : Bool) (closed : List ℕ) → closing ≡ has_some closed → closings_after ss closing ≡ has_some (closeds_after ss t closed)
known_all EndStats t closing closed h = h
known_all (MoreStats s ss) t closing closed h = known_all ss (level_after s t) (closing_after s closing) (closed_after s t closed) (known_after s t closing closed h)

last_some : (cs : List Const) (es : Exps) (t j line back : ℕ) → 1 ≤ length (values_last cs es t j line back)
last_some cs es t j line back = by (lone_local es)
  where
    by : (o : Option ℕ) → 1 ≤ length (returned_by cs o es t j line back)
    by None = let sum = length-append (exps_code cs es None t j line) (leaving_by Return t (list_field 0 es) back line ∷ []) in omega (arith, sum)
    by (Some r) = omega arith

-- a `return` has an instruction at least
pub return_some : (cs : List Const) (closing : Bool) (es : Exps) (t j line back : ℕ) → 1 ≤ length (return_code cs closing es t j line back)
return_some cs false (MoreExps (Call l f es) EndExps) t j line back =
    let a = exp_code cs f t j 2 in
    let b = exps_code cs es None (t + 1) (j + made_by f) l in
    let last = leaving_by TailCall t (list_field 0 es) back l ∷ leaving_by Return t 0 back l ∷ [] in
    let one = length-append a (b ++ last) in
    let two = length-append b last in
    omega (arith, one, two)
return_some cs false (MoreExps (Method l o name es) EndExps) t j line back =
    let a = unless (local_of o) (exp_code cs o t j 2) in
    let b = self_code cs name.text (seat (local_of o) t) t l in
    let d = exps_code cs es None (t + 2) (j + made_by o) l in
    let last = leaving_by TailCall t (list_field 1 es) back l ∷ leaving_by Return t 0 back l ∷ [] in
    let one = length-append a (b ++ (d ++ last)) in
    let two = length-append b (d ++ last) in
    let three = length-append d last in
    omega (arith, one, two, three)
return_some cs closing es t j line back = last_some cs es t j line back

module _ (S : Setting) where
  -- RETURN of no values
  pub return_step : (t back pc opened : ℕ) (ps : List Pending) (regs : List Value) (c : Captured) → at S.code pc ≡ Some (abc Return t 1 back (nat_lt 0 t)) → t < 2 ^ 8 → t + 0 ≤ length regs
      → talk_step S.code (before (of_code S ps pc regs opened) c) ≡ talk S.code (rows.returns t 0) [] (of_code S ps pc regs opened) c
  return_step t back pc opened ps regs c here small width =
      row_step S.code (abc Return t 1 back (nat_lt 0 t)) Return (read_values t 1 (λ _ s. rows.returns t 0)) (of_code S ps pc regs opened) c here (opcode_of-abc Return t 1 back (nat_lt 0 t))
      (ap₂ (λ x y. read_values x y (λ _ s. rows.returns x (cond (y == 0) (counted s) (y - 1)))) (a_of-abc Return t 1 back (nat_lt 0 t) small) (b_of-abc Return t 1 back (nat_lt 0 t) small (lit< tt)))
      ∙ read_values_step S.code t 1 (λ _ s. rows.returns t 0) [] [] (of_code S ps pc regs opened) c (refl, (width, (λ i lt. absurd (omega arith))))

  without_last : (a : List Coded) (x y : Coded) (pc : ℕ) → HasAt S pc (a ++ x ∷ y ∷ []) → HasAt S pc (a ++ x ∷ [])
  without_last [] x y pc h = (h.0, (h.1.0, tt))
  without_last (z ∷ a) x y pc h = (h.0, (h.1.0, without_last a x y (pc + 1) h.1.1))

  -- where a variable is to be closed, no call behind `return` is in the function's place
  no_tail_call : (es : Exps) (line : ℕ) (p : Pending) (ps : List Pending) (env : List Value) (c : Captured) (k : List Work) → begins_return line es (of_tree S (p ∷ ps) env c) k ≡ goes_on (tree.at (collect (for_return line) [] es) (of_tree S (p ∷ ps) env c) k)
  no_tail_call (MoreExps (Call l f args) EndExps) line p ps env c k = refl
  no_tail_call (MoreExps (Method l o name args) EndExps) line p ps env c k = refl
  no_tail_call es line p ps env c k = refl

  module _ (back : ℕ) where
    -- the values of a list
    list_returns : (ps : List Pending) (es : Exps) (n t j line pc opened : ℕ) (env regs : List Value) (c : Captured) (k : List Work) → n ≤ S.bound → HasAt S pc (values_last S.code.own.constants es t j line back) → ArePlaced S es t j
        → t + room_of_last S.code.own.constants es ≤ S.code.own.stack → count es + 1 < 2 ^ 8 → pc + length (values_last S.code.own.constants es t j line back) ≤ length S.code.own.code → length env ≡ t → Rel S.hidden S.code.own.stack ps env c regs
        → Agree S n (tree.at (collect (for_return line) [] es) (of_tree S ps env c) k) (before (of_code S ps pc regs opened) c)
    list_returns ps es n t j line pc opened env regs c k fewer has placed room few inside size rel = by (lone_local es) refl has room inside
      where
        by : (o : Option ℕ) → lone_local es ≡ o → HasAt S pc (returned_by S.code.own.constants o es t j line back) → t + room_unless o (room_of_list S.code.own.constants 0 es None) ≤ S.code.own.stack
            → pc + length (returned_by S.code.own.constants o es t j line back) ≤ length S.code.own.code → Agree S n (tree.at (collect (for_return line) [] es) (of_tree S ps env c) k) (before (of_code S ps pc regs opened) c)
        by None is has room inside =
            let sum = length-append (exps_code S.code.own.constants es None t j line) (leaving_by Return t (list_field 0 es) back line ∷ []) in
            return_list_same S ps es line t j back n pc opened env regs c k fewer has (subst (λ u. ArePlaced S es u j) (sym size) placed) (omega (arith, inside, sum)) few (omega (arith, size)) (omega (arith, size, rel.fits)) room rel
        by (Some r) is has room inside =
            let lone = lone_is es r is in
            let alone = subst (λ z. ArePlaced S z (length env) j) lone.values (subst (λ u. ArePlaced S es u j) (sym size) placed) in
            subst (λ z. Agree S n (tree.at (collect (for_return line) [] z) (of_tree S ps env c) k) (before (of_code S ps pc regs opened) c)) (sym lone.values)
            (return_local_same S ps lone.value r line back j n pc opened (nat_lt 0 t) env regs c k lone.is has alone.0 rel)

    -- `return`, where no variable to be closed is in scope
    return_goes : (es : Exps) (n t j line pc opened : ℕ) (env regs : List Value) (c : Captured) (k : List Work) (s : tree.State) → step s ≡ begins_return line es (of_tree S [] env c) k → n ≤ S.bound
        → HasAt S pc (return_code S.code.own.constants false es t j line back) → LastIsPlaced S es t j → pc + length (return_code S.code.own.constants false es t j line back) ≤ length S.code.own.code → length env ≡ t → Rel S.hidden S.code.own.stack [] env c regs
        → Agree S n s (before (of_code S [] pc regs opened) c)
    return_goes (MoreExps (Call l f es) EndExps) n t j line pc opened env regs c k s st fewer has h inside size rel =
        let first_code = exp_code S.code.own.constants f t j 2 in
        let args = exps_code S.code.own.constants es None (t + 1) (j + made_by f) l in
        let one = leaving_by TailCall t (list_field 0 es) back l in
        let two = leaving_by Return t 0 back l in
        let front = without_last (first_code ++ args) one two pc (subst (HasAt S pc) (sym (append_assoc first_code args (one ∷ two ∷ []))) has) in
        let a = length-append first_code (args ++ one ∷ []) in
        let b = length-append args (one ∷ []) in
        let d = length-append first_code (args ++ one ∷ two ∷ []) in
        let e = length-append args (one ∷ two ∷ []) in
        go_left S n s (tree.at (evaluate f) (of_tree S [] env c) (callee_of l true es ∷ k)) _ st
        (call_last_same S [] f es l back t j n pc opened env regs c k fewer (subst (HasAt S pc) (append_assoc first_code args (one ∷ [])) front) (subst (λ u. IsPlaced S f u j) (sym size) h.0) (subst (λ u. ArePlaced S es u (j + made_by f)) (sym size) h.1.0)
        (omega (arith, inside, a, b, d, e)) (omega (arith, size)) h.1.1.0 h.1.1.1 rel)
    return_goes (MoreExps (Method l o name es) EndExps) n t j line pc opened env regs c k s st fewer has h inside size rel =
        let first_code = unless (local_of o) (exp_code S.code.own.constants o t j 2) in
        let key = self_code S.code.own.constants name.text (seat (local_of o) t) t l in
        let args = exps_code S.code.own.constants es None (t + 2) (j + made_by o) l in
        let one = leaving_by TailCall t (list_field 1 es) back l in
        let two = leaving_by Return t 0 back l in
        let joined = λ (z : List Coded). append_assoc first_code (key ++ args) z ∙ ap (λ l. first_code ++ l) (append_assoc key args z) in
        let front = without_last (first_code ++ (key ++ args)) one two pc (subst (HasAt S pc) (sym (joined (one ∷ two ∷ []))) has) in
        let a = length-append first_code (key ++ (args ++ one ∷ [])) in
        let b = length-append key (args ++ one ∷ []) in
        let x = length-append args (one ∷ []) in
        let d = length-append first_code (key ++ (args ++ one ∷ two ∷ [])) in
        let e = length-append key (args ++ one ∷ two ∷ []) in
        let y = length-append args (one ∷ two ∷ []) in
        go_left S n s (tree.at (evaluate o) (of_tree S [] env c) (method_of l true name.text es ∷ k)) _ st
        (method_last_same S [] o name.text es l back t j n pc opened env regs c k fewer (subst (HasAt S pc) (joined (one ∷ [])) front) (subst (λ u. IsPlaced S o u j) (sym size) h.0) h.1.0 (subst (λ u. ArePlaced S es u (j + made_by o)) (sym size) h.1.1.0)
        (omega (arith, inside, a, b, x, d, e, y)) (omega (arith, size)) h.1.1.1.0 h.1.1.1.1.0 h.1.1.1.1.1 rel)
    return_goes es n t j line pc opened env regs c k s st fewer has h inside size rel =
        go_left S n s (tree.at (collect (for_return line) [] es) (of_tree S [] env c) k) (before (of_code S [] pc regs opened) c) st (list_returns [] es n t j line pc opened env regs c k fewer has h.0 h.1.0 h.1.1 inside size rel)

    -- the end of statements, where `return` stands
    pub return_ends : (ss : Stats) (es : Exps) (line n : ℕ) (closing : Bool) (closed : List ℕ) (outer t j pc : ℕ) (reach : Reach) (k : List Work) → n ≤ S.bound
        → HasAt S pc (stats_code S.code.own.constants (way S back) ss false closing outer t j pc [] reach ++ return_code S.code.own.constants (closings_after ss closing) es (levels_after ss t) (j + made_in_stats ss) line back)
        → ReturnIsPlaced S es (closings_after ss closing) (levels_after ss t) (j + made_in_stats ss)
        → pc + (stats_size S.code.own.constants (way S back) ss closing t j + length (return_code S.code.own.constants (closings_after ss closing) es (levels_after ss t) (j + made_in_stats ss) line back)) ≤ length S.code.own.code
        → closing ≡ has_some closed → (labels : List Passed)
        → GoesOn S n (levels_after ss t) (closeds_after ss t closed) (run (record { rest = EndStats; ending = returns_list line es; level = outer; labels = labels })) k (pc + stats_size S.code.own.constants (way S back) ss closing t j)
    return_ends ss es line n closing closed outer t j pc reach k fewer has placed inside plain labels m le ps env regs c opened st =
        by (closings_after ss closing) (sym (known_all ss t closing closed plain)) at_last placed inside
      where
        code : List Coded
        code = stats_code S.code.own.constants (way S back) ss false closing outer t j pc [] reach

        level : ℕ
        level = levels_after ss t

        size : ℕ
        size = stats_size S.code.own.constants (way S back) ss closing t j

        at_last : HasAt S (pc + size) (return_code S.code.own.constants (closings_after ss closing) es level (j + made_in_stats ss) line back)
        at_last = subst (λ q. HasAt S (pc + q) (return_code S.code.own.constants (closings_after ss closing) es level (j + made_in_stats ss) line back)) (stats_sized S.code.own.constants (way S back) ss false closing outer t j pc [] reach)
            (has_back S pc code (return_code S.code.own.constants (closings_after ss closing) es level (j + made_in_stats ss) line back) has)

        state : List Pending → tree.State
        state qs = tree.at (run (record { rest = EndStats; ending = returns_list line es; level = outer; labels = labels })) (of_tree S qs env c) k

        listed : (qs : List Pending) → has_some (numbers qs) ≡ true → Rel S.hidden S.code.own.stack qs env c regs → HasAt S (pc + size) (values_last S.code.own.constants es level (j + made_in_stats ss) line back) → ListIsPlaced S es level (j + made_in_stats ss)
            → pc + (size + length (values_last S.code.own.constants es level (j + made_in_stats ss) line back)) ≤ length S.code.own.code → Agree S m (state qs) (before (of_code S qs (pc + size) regs opened) c)
        listed [] some rel at_values ok end = absurd (cc)
        listed (q ∷ qs) some rel at_values ok end =
            go_left S m (state (q ∷ qs)) (tree.at (collect (for_return line) [] es) (of_tree S (q ∷ qs) env c) k) _ (no_tail_call es line q qs env c k)
            (list_returns (q ∷ qs) es m level (j + made_in_stats ss) line (pc + size) opened env regs c k (omega (arith, fewer, le)) at_values ok.0 ok.1.0 ok.1.1 (omega (arith, end)) st.size rel)

        by : (b : Bool) → has_some (closeds_after ss t closed) ≡ b → HasAt S (pc + size) (return_code S.code.own.constants b es level (j + made_in_stats ss) line back) → ReturnIsPlaced S es b level (j + made_in_stats ss)
            → pc + (size + length (return_code S.code.own.constants b es level (j + made_in_stats ss) line back)) ≤ length S.code.own.code → Agree S m (state ps) (before (of_code S ps (pc + size) regs opened) c)
        by true some at_values ok end = listed ps (ap has_some st.numbered ∙ some) st.rel at_values ok end
        by false some at_values ok end =
            let none = no_numbers ps (st.numbered ∙ no_some (closeds_after ss t closed) some) in
            subst (λ qs. Agree S m (state qs) (before (of_code S qs (pc + size) regs opened) c)) (sym none)
            (return_goes es m level (j + made_in_stats ss) line (pc + size) opened env regs c k _ refl (omega (arith, fewer, le)) at_values ok (omega (arith, end)) st.size
            (subst (λ qs. Rel S.hidden S.code.own.stack qs env c regs) none st.rel))

    -- a block that ends by `return`
    pub returns_goes : (ss : Stats) (es : Exps) (tokens line : ℕ) → ((outer : ℕ) (closed : List ℕ) (k : List Work) → StatsLaw S back (returns_list line es) false outer closed k (λ ss. refl) ss) → BlockLaw S back (Returns ss es tokens line)
    returns_goes ss es tokens line law n closing closed outer t j pc named loops reach k fewer has placed titles inside under clear outer_low plain jumps done m le ps env regs c opened st below =
        (law outer closed k n pc (pc + block_size S.code.own.constants (way S back) (Returns ss es tokens line) closing outer t j) closing closed t j pc [] [] [] named loops reach
        (begins_block S back (returns_list line es) false outer closed k (λ ss. refl) n (pc + block_size S.code.own.constants (way S back) (Returns ss es tokens line) closing outer t j) ss closing t j pc named loops reach fewer
        (has_front S pc (stats_code S.code.own.constants (way S back) ss false closing outer t j pc [] reach) (return_code S.code.own.constants (closings_after ss closing) es (levels_after ss t) (j + made_in_stats ss) line back) has)
        placed.0 (omega arith) inside jumps under clear titles outer_low plain
        (record { full = return_ends ss es line n closing closed outer t j pc reach k fewer has placed.1 (omega (arith, inside)) plain; low = λ is. absurd (cc) }))).0 m le ps env regs c opened st

    -- a `repeat` whose block ends by `return`: its test is never reached
    pub repeat_returns_goes : (line : ℕ) (ss : Stats) (es : Exps) (tokens last : ℕ) (e : Exp) → ((outer : ℕ) (closed : List ℕ) (k : List Work) → StatsLaw S back (returns_list last es) false outer closed k (λ ss. refl) ss)
        → StatLaw S back (Repeat line (Returns ss es tokens last) e)
    repeat_returns_goes line ss es tokens last e law n closing closed t j pc named loops reach k fewer has placed titles inside under clear plain jumps done ps env regs c opened s st standing =
        go_left S n s (tree.at (run (repeat_point (Returns ss es tokens last) e (length env))) (of_tree S ps env c) (repeating line e (Returns ss es tokens last) (length env) ∷ k)) _ st
        (subst (λ u. Agree S n (tree.at (run (repeat_point (Returns ss es tokens last) e u)) (of_tree S ps env c) (repeating line e (Returns ss es tokens last) u ∷ k)) (before (of_code S ps pc regs opened) c)) (sym standing.size)
        ((law t closed (w ∷ k) n pc (pc + size) closing closed t j pc [] [] [] named true around
        (begins_block S back (returns_list last es) false t closed (w ∷ k) (λ ss. refl) n (pc + size) ss closing t j pc named true around fewer
        (has_front S pc code (return_code S.code.own.constants (closings_after ss closing) es (levels_after ss t) (j + made_in_stats ss) last back) at_open) placed.0.0 (omega arith) (omega (arith, inside)) in_block under clear titles
        (omega arith) plain (record { full = return_ends ss es last n closing closed t t j pc around (w ∷ k) fewer at_open placed.0.1 (omega (arith, inside)) plain; low = λ is. absurd (cc) }))).0 n (omega arith) ps env regs c opened standing))
      where
        block : Block
        block = Returns ss es tokens last

        w : Work
        w = repeating line e (Returns ss es tokens last) t

        size : ℕ
        size = open_size S.code.own.constants (way S back) (Returns ss es tokens last) closing t j

        exit : ℕ
        exit = pc + stat_size S.code.own.constants (way S back) (Repeat line (Returns ss es tokens last) e) closing t j

        around : Reach
        around = in_loop reach (pc + stat_size S.code.own.constants (way S back) (Repeat line (Returns ss es tokens last) e) closing t j) t

        code : List Coded
        code = stats_code S.code.own.constants (way S back) ss false closing t t j pc [] around

        at_open : HasAt S pc (open_code S.code.own.constants (way S back) (Returns ss es tokens last) closing t j pc around)
        at_open = has_front S pc (open_code S.code.own.constants (way S back) (Returns ss es tokens last) closing t j pc around) _ has

        in_block : Jumps S back n pc (pc + size) t closed named true around (w ∷ k)
        in_block =
            subst (λ l. Jumps S back n pc (pc + size) t l named true around (w ∷ k)) (append_nil closed)
            (loop_jumps S back w n pc exit pc (pc + size) t t exit closed [] named loops reach k (λ name line a. refl) (λ line a. refl) (omega arith) (omega arith) (omega arith) inside (omega arith) tt under (jumps refl) done)
