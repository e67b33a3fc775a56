-- The numeric `for`.
use Rattle.std.proofs.Common.{◌≡◌, ℕ, zero, suc, ◌+◌, ◌<◌, ◌≤◌, ◌^◌, ℤ, pos, negsuc, inl, inr, Bool, true, false, cond, List, [], ◌∷◌, ◌++◌, length, take, Option, Some, None, refl, sym, ap, subst, ◌∙◌, arith, length-append, append_assoc}
use Rattle.std.specs.Prelude.{codes}
use Rattle.int_core.specs.Arithmetic.{add, sub}
use Rattle.int_core.specs.Value.{Value, known, nil, integer, same_integer, bind, nth, write, shape}
use Rattle.int_core.specs.Ask.{pays, values_in, Captured, brought, Next, goes_on, stuck}
use Rattle.tree_core.specs.Tree.{Block}
use Rattle.tree_activation.specs.Work.{complete, raise, run, pay, leave_scope, count_round, counting, Work, Pending, Activation}
use Rattle.tree_activation.specs.Work as tree
use Rattle.tree_activation.specs.Asking.{go}
use Rattle.tree_activation.specs.Activation.{step}
use Rattle.tree_activation.specs.Expressions.{integer_in}
use Rattle.tree_activation.specs.Statements.{point_of, goes_on_from, rounds_to_come, hidden, begins_round, begins_counting, starts_counting, counts_on, counts_round}
use Rattle.code_core.specs.declared.opcode.Opcode.TheVariants.{ForPrep, ForLoop}
use Rattle.code_core.specs.Prototype.{Prototype}
use Rattle.code_core.specs.Check.{at}
use Rattle.machine_core.specs.Text as text
use Rattle.machine_core.specs.Text.{Text, pay as pay', quick}
use Rattle.machine_core.specs.InstructionRows.{next, back, integer_of_shape, prepares, goes_round, starts, runs, rounds, writes_integer}
use Rattle.machine_core.specs.Talk as code
use Rattle.machine_core.specs.Talk.{before, amid, talk, talk_step, says_so}
use Rattle.list_laws.proofs.Items.{append_nil}
use Rattle.list_laws.proofs.Values.{nth_write_same, nth_write_other, write_more, length_take}
use Rattle.list_laws.proofs.Tests.{eq_true}
use Rattle.code_of.specs.Coded.{Coded, with_abx}
use Rattle.code_of.specs.Jumps.{Reach}
use Rattle.code_of.specs.Sizes.{block_size}
use Rattle.code_of.specs.Statements.{in_loop, block_code}
use Rattle.exp_laws.specs.Setting.{Setting, with_loop, hiding}
use Rattle.exp_laws.proofs.Registers.{AllUnder, Ascends, HeldBelow, held_higher, Rel, brought_free, told, share_same, after_share, after_above}
use Rattle.exp_laws.proofs.Lists.{Holds}
use Rattle.exp_laws.proofs.ListForms.{nth_behind}
use Rattle.exp_laws.proofs.Talking.{Agree, go_left, go_right, both_ask, of_tree, of_code}
use Rattle.exp_laws.proofs.Placing.{HasAt, has_front, has_back, here_abx}
use Rattle.exp_laws.proofs.Leaving.{faults_alike}
use Rattle.exp_laws.proofs.Going.{next_there, at_place}
use Rattle.exp_laws.proofs.Steps.{go_step}
use Rattle.tree_terms.specs.Labels.{Named}
use Rattle.stat_laws.proofs.Ways.{way}
use Rattle.stat_laws.specs.Scoped.{IsNear, BlockIsPlaced}
use Rattle.code_of.proofs.Sizes.{block_sized}
use Rattle.stat_laws.proofs.Naming.{BlockIsNamed}
use Rattle.stat_laws.proofs.Closing.{AllBelow, cut, cut_none, rel_left, leave_done}
use Rattle.stat_laws.proofs.Standing.{strong, numbers, ascends_under, below_higher, Standing, GoesOn, goes_fewer}
use Rattle.stat_laws.proofs.Labels.{Jumps, jumps_within}
use Rattle.stat_laws.proofs.Blocks.{has_some}
use Rattle.stat_laws.proofs.Forms.{BlockLaw, loop_jumps}
use Rattle.stat_laws.proofs.Values.{rel_declared}
use Rattle.stat_laws.proofs.Iterating.{back_to, take_whole}
use Rattle.stat_laws.proofs.Counting.{integer_is, same_shape, runs_same, three, begin_step, turn_step, begun, begun_step, turned, turned_step}
use Rattle.stat_laws.proofs.Hiding.{held_down, under_hiding, rel_outer, rel_hiding, has_inner, goes_inner, jumps_inner}

pub holds_four : (t : ℕ) (a b d e : Value) (regs : List Value) → nth regs t ≡ a → nth regs (t + 1) ≡ b → nth regs (t + 2) ≡ d → nth regs (t + 3) ≡ e → Holds t 4 (a ∷ b ∷ d ∷ e ∷ []) regs
holds_four t a b d e regs h0 h1 h2 h3 zero lt = let at : t + 0 ≡ t = omega arith in ap (nth regs) at ∙ h0
holds_four t a b d e regs h0 h1 h2 h3 (suc zero) lt = h1
holds_four t a b d e regs h0 h1 h2 h3 (suc (suc zero)) lt = h2
holds_four t a b d e regs h0 h1 h2 h3 (suc (suc (suc zero))) lt = h3
holds_four t a b d e regs h0 h1 h2 h3 (suc (suc (suc (suc i)))) lt = absurd (omega arith)

-- the registers of a round
abbrev four : (i count d : ℤ) → List Value
four i count d = known (integer i) ∷ known (integer count) ∷ known (integer d) ∷ known (integer i) ∷ []

begun_holds : (t : ℕ) (count i d : ℤ) (regs : List Value) → nth regs t ≡ known (integer i) → nth regs (t + 2) ≡ known (integer d) → Holds t 4 (four i count d) (begun t count i regs)
begun_holds t count i d regs a b =
    let regs1 = write (t + 1) (known (integer count)) regs in
    holds_four t (known (integer i)) (known (integer count)) (known (integer d)) (known (integer i)) (begun t count i regs)
    (nth_write_other (t + 3) (known (integer i)) regs1 t (λ e. absurd (omega (arith, e))) ∙ nth_write_other (t + 1) (known (integer count)) regs t (λ e. absurd (omega (arith, e))) ∙ a)
    (nth_write_other (t + 3) (known (integer i)) regs1 (t + 1) (λ e. absurd (omega (arith, e))) ∙ nth_write_same (t + 1) (known (integer count)) regs)
    (nth_write_other (t + 3) (known (integer i)) regs1 (t + 2) (λ e. absurd (omega (arith, e))) ∙ nth_write_other (t + 1) (known (integer count)) regs (t + 2) (λ e. absurd (omega (arith, e))) ∙ b)
    (nth_write_same (t + 3) (known (integer i)) regs1)

begun_below : (t : ℕ) (count i : ℤ) (regs : List Value) (r : ℕ) → r < t → nth (begun t count i regs) r ≡ nth regs r
begun_below t count i regs r lt =
    nth_write_other (t + 3) (known (integer i)) (write (t + 1) (known (integer count)) regs) r (λ e. absurd (omega (arith, e, lt)))
    ∙ nth_write_other (t + 1) (known (integer count)) regs r (λ e. absurd (omega (arith, e, lt)))

begun_more : (t : ℕ) (count i : ℤ) (regs : List Value) → length regs ≤ length (begun t count i regs)
begun_more t count i regs =
    let a = write_more (t + 1) (known (integer count)) regs in
    let b = write_more (t + 3) (known (integer i)) (write (t + 1) (known (integer count)) regs) in
    omega (arith, a, b)

turned_holds : (t : ℕ) (count i d : ℤ) (regs : List Value) → nth regs (t + 2) ≡ known (integer d) → Holds t 4 (four i count d) (turned t count i regs)
turned_holds t count i d regs b =
    let regs1 = write (t + 1) (known (integer count)) regs in
    let regs2 = write t (known (integer i)) regs1 in
    holds_four t (known (integer i)) (known (integer count)) (known (integer d)) (known (integer i)) (turned t count i regs)
    (nth_write_other (t + 3) (known (integer i)) regs2 t (λ e. absurd (omega (arith, e))) ∙ nth_write_same t (known (integer i)) regs1)
    (nth_write_other (t + 3) (known (integer i)) regs2 (t + 1) (λ e. absurd (omega (arith, e))) ∙ nth_write_other t (known (integer i)) regs1 (t + 1) (λ e. absurd (omega (arith, e))) ∙ nth_write_same (t + 1) (known (integer count)) regs)
    (nth_write_other (t + 3) (known (integer i)) regs2 (t + 2) (λ e. absurd (omega (arith, e))) ∙ nth_write_other t (known (integer i)) regs1 (t + 2) (λ e. absurd (omega (arith, e))) ∙ nth_write_other (t + 1) (known (integer count)) regs (t + 2) (λ e. absurd (omega (arith, e))) ∙ b)
    (nth_write_same (t + 3) (known (integer i)) regs2)

turned_below : (t : ℕ) (count i : ℤ) (regs : List Value) (r : ℕ) → r < t → nth (turned t count i regs) r ≡ nth regs r
turned_below t count i regs r lt =
    let regs1 = write (t + 1) (known (integer count)) regs in
    nth_write_other (t + 3) (known (integer i)) (write t (known (integer i)) regs1) r (λ e. absurd (omega (arith, e, lt)))
    ∙ nth_write_other t (known (integer i)) regs1 r (λ e. absurd (omega (arith, e, lt)))
    ∙ nth_write_other (t + 1) (known (integer count)) regs r (λ e. absurd (omega (arith, e, lt)))

turned_more : (t : ℕ) (count i : ℤ) (regs : List Value) → length regs ≤ length (turned t count i regs)
turned_more t count i regs =
    let a = write_more (t + 1) (known (integer count)) regs in
    let b = write_more t (known (integer i)) (write (t + 1) (known (integer count)) regs) in
    let d = write_more (t + 3) (known (integer i)) (write t (known (integer i)) (write (t + 1) (known (integer count)) regs)) in
    omega (arith, a, b, d)

-- the locals of a round
nth_fourth : (i count d : ℤ) (xs : List Value) (t : ℕ) → length xs ≡ t
    → (nth (xs ++ four i count d) t ≡ known (integer i)) × ((nth (xs ++ four i count d) (t + 1) ≡ known (integer count)) × (nth (xs ++ four i count d) (t + 2) ≡ known (integer d)))
nth_fourth i count d xs t e =
    let here : t ≡ length xs + 0 = omega (arith, e) in
    let one : t + 1 ≡ length xs + 1 = omega (arith, e) in
    let two : t + 2 ≡ length xs + 2 = omega (arith, e) in
    let all = xs ++ four i count d in
    (ap (nth all) here ∙ nth_behind xs (four i count d) 0, (ap (nth all) one ∙ nth_behind xs (four i count d) 1, ap (nth all) two ∙ nth_behind xs (four i count d) 2))

-- the count is 0, or the loop goes on

count_zero : (r : ℤ) → same_integer r (pos 0) ≡ true → r ≡ pos zero
count_zero (pos zero) e = refl
count_zero (pos (suc r)) e = let h = eq_true (suc r) 0 e in absurd (omega (arith, h))
count_zero (negsuc r) e = absurd (cc)

counts_more : (line : ℕ) (block : Block) (level : ℕ) (r : ℤ) (a : Activation) (k : List Work) → same_integer r (pos 0) ≡ false → counts_on line block level (Some r) a k ≡ go (pay line count_round) a (counting line block level ∷ k)
counts_more line block level (pos zero) a k e = absurd (cc)
counts_more line block level (pos (suc r)) a k e = refl
counts_more line block level (negsuc r) a k e = refl

module _ (S : Setting) (back_field line : ℕ) (block : Block) (n : ℕ) (closing : Bool) (closed : List ℕ) (t j lo pc exit : ℕ) (named : List Named) (loops : Bool) (reach : Reach) (k : List Work) where
  abbrev pub body : List Coded
  body = block_code S.code.own.constants (way S back_field) block closing (t + 3) (t + 4) j (pc + 1) (in_loop reach exit t)

  abbrev size_of : ℕ
  size_of = block_size S.code.own.constants (way S back_field) block closing (t + 3) (t + 4) j

  abbrev w : Work
  w = counting line block t

  -- a numeric `for` from its FORPREP on, which the law of its block gives
  pub record Counted : Type 0 where
    pub law : BlockLaw (hiding S t) back_field block
    pub fewer : n ≤ S.bound
    pub from : lo ≤ pc
    pub out : pc + (size_of + 2) ≡ exit
    pub inside : exit < length S.code.own.code
    pub has : HasAt S pc (with_abx ForPrep t (length body) line ∷ (body ++ with_abx ForLoop t (length body + 1) line ∷ []))
    pub room : t + 4 ≤ S.code.own.stack
    pub near : IsNear S.code.own.constants block closing (t + 3) (t + 4) j
    pub placed : BlockIsPlaced (hiding S t) block closing (t + 4) j named true
    pub under : AllBelow closed t
    pub clear : AllUnder S.hidden.integers t
    pub titles : BlockIsNamed S.lines S.code (way S back_field) block closing (t + 3) (t + 4) j (pc + 1)
    pub plain : closing ≡ has_some closed
    pub jumps : Jumps S back_field n lo exit t closed named loops reach k
    pub done : GoesOn S n t closed complete k exit

  module _ (x : Counted) where
    sized : length body ≡ size_of
    sized = block_sized S.code.own.constants (way S back_field) block closing (t + 3) (t + 4) j (pc + 1) (in_loop reach exit t)

    at_block : HasAt S (pc + 1) body
    at_block = has_front S (pc + 1) body (with_abx ForLoop t (length body + 1) line ∷ []) x.has.1.1

    at_turn : HasAt S (pc + 1 + size_of) (with_abx ForLoop t (length body + 1) line ∷ [])
    at_turn = subst (λ q. HasAt S (pc + 1 + q) (with_abx ForLoop t (length body + 1) line ∷ [])) sized (has_back S (pc + 1) body (with_abx ForLoop t (length body + 1) line ∷ []) x.has.1.1)

    t_fits : t < 2 ^ 8
    t_fits = omega (arith, x.room, S.small)

    abbrev Loop : ℕ → Type 0
    Loop m = m ≤ n → (ps : List Pending) (env regs : List Value) (c : Captured) (opened : ℕ) → Standing (hiding S t) (t + 3) closed ps env c regs
        → Agree S m (tree.at complete (of_tree S ps env c) (w ∷ k)) (before (of_code S ps (pc + 1 + size_of) regs opened) c)

    in_block : (m : ℕ) → m ≤ n → Jumps (hiding S t) back_field m (pc + 1) (pc + 1 + size_of) (t + 3) closed named true (in_loop reach exit t) (w ∷ k)
    in_block m le =
        let out = x.out in
        let from = x.from in
        subst (λ l. Jumps (hiding S t) back_field m (pc + 1) (pc + 1 + size_of) (t + 3) l named true (in_loop reach exit t) (w ∷ k)) (append_nil closed)
        (loop_jumps (hiding S t) back_field w m lo exit (pc + 1) (pc + 1 + size_of) t (t + 3) exit closed [] named loops reach k (λ name line a. refl) (λ line a. refl) (omega arith) (omega (arith, out)) (omega (arith, out)) x.inside (omega arith) tt x.under
        (jumps_inner S (with_loop S.hidden t) (rel_outer S.hidden S.code.own.stack t) back_field m lo exit t closed named loops reach k
        (subst (λ l. Jumps S back_field m lo exit t l named loops reach k) (append_nil closed) (jumps_within S back_field n m lo exit lo exit t t closed [] named loops reach k le (omega arith) (omega arith) (omega arith) tt x.jumps)))
        (goes_inner S (with_loop S.hidden t) (rel_outer S.hidden S.code.own.stack t) m t closed complete k exit (goes_fewer S m n t closed complete k exit le x.done)))

    -- the variable gets its value, and the block begins
    enters : (m : ℕ) → m ≤ n → ((l : ℕ) → l ≤ m → Loop l) → (i count d : ℤ) (ps : List Pending) (env regs : List Value) (c : Captured) (opened : ℕ) → numbers ps ≡ closed → length env ≡ t → Rel S.hidden S.code.own.stack ps env c regs → Holds t 4 (four i count d) regs
        → Agree S m (tree.at (run (point_of block (t + 3))) (of_tree S ps ((env ++ hidden i count d) ++ known (integer i) ∷ []) c) (w ∷ k)) (before (of_code S ps (pc + 1) regs opened) c)
    enters m le loop i count d ps env regs c opened numbered size rel held =
        let all = env ++ four i count d in
        let sum = length-append env (four i count d) in
        let out = x.out in
        let rel1 = rel_declared S.hidden S.code.own.stack t 4 ps env regs (four i count d) c size x.room x.clear held rel in
        let low = subst (HeldBelow c.held) size rel.held in
        let places = nth_fourth i count d env t size in
        let rel2 = rel_hiding S.hidden S.code.own.stack t ps all c regs low (i, places.0) (count, places.1.0) (d, places.1.1) rel1 in
        subst (λ l. Agree S m (tree.at (run (point_of block (t + 3))) (of_tree S ps l c) (w ∷ k)) (before (of_code S ps (pc + 1) regs opened) c)) (sym (append_assoc env (hidden i count d) (known (integer i) ∷ [])))
        (x.law m closing closed (t + 3) (t + 4) j (pc + 1) named true (in_loop reach exit t) (w ∷ k) (omega (arith, x.fewer, le)) (has_inner S (with_loop S.hidden t) (pc + 1) body at_block) x.placed x.titles (omega (arith, out, x.inside))
        (below_higher t (t + 3) closed (omega arith) x.under) (under_hiding S.hidden.integers t x.clear) (omega arith) x.plain (in_block m le)
        (λ l less ps2 env2 regs2 c2 opened2 st2. loop l less (omega (arith, le, less)) ps2 env2 regs2 c2 opened2 st2) m (omega arith) ps all regs c opened
        (record { numbered = numbered; size = omega (arith, sum, size); rel = rel2 }) (held_higher c.held t (t + 3) (omega arith) low))

    -- behind the block: the hidden locals are left
    module _ (ps : List Pending) (env regs : List Value) (c : Captured) (st : Standing (hiding S t) (t + 3) closed ps env c regs) where
      low_held : HeldBelow c.held t
      low_held =
          held_down c.held t (subst (HeldBelow c.held) st.size st.rel.held) (st.rel.hides.free t (inl refl)) (st.rel.hides.free (t + 1) (inr (inl refl))) (st.rel.hides.free (t + 2) (inr (inr (inl refl))))

      low_ascends : Ascends 0 ps t
      low_ascends = ascends_under 0 (length env) t ps [] (subst (λ l. Ascends 0 l (length env)) (sym (append_nil ps)) st.rel.ascends) (subst (λ l. AllBelow l t) (sym st.numbered) x.under)

      low_size : length (take t env) ≡ t
      low_size = let size = st.size in length_take t env (omega (arith, size))

      low_rel : Rel S.hidden S.code.own.stack ps (take t env) c regs
      low_rel =
          let size = st.size in
          subst (λ b. Rel S.hidden S.code.own.stack ps (take t env) b regs) (cut_none t env c low_held)
          (rel_left S.hidden S.code.own.stack env c regs ps t (omega (arith, size)) low_ascends (rel_outer S.hidden S.code.own.stack t ps env c regs st.rel))

    landed : (slots regs : List Value) (ps : List Pending) (c : Captured) (opened : ℕ)
        → talk S.code (back (length body + 1)) slots (of_code S ps (pc + 1 + size_of) regs opened) c ≡ goes_on (before (of_code S ps (pc + 1) regs opened) c)
    landed slots regs ps c opened =
        let out = x.out in
        let to = next_there S (pc + 1) (omega (arith, out, x.inside)) in
        ap (λ o. elim (bind o (λ pc. bind (at S.code pc) (λ _. Some pc))) as (λ _. Next Prototype code.State) [ None ↦ stuck | Some q ↦ goes_on (before (of_code S ps q regs opened) c) ])
        (ap (λ z. elim z as (λ _. Option ℕ) [ pos n ↦ Some n | negsuc _ ↦ None ]) (back_to (pc + 1 + size_of) (length body + 1) (pc + 1) (omega (arith, sized))))
        ∙ ap (λ o. elim (bind o (λ _. Some (pc + 1))) as (λ _. Next Prototype code.State) [ None ↦ stuck | Some q ↦ goes_on (before (of_code S ps q regs opened) c) ]) to.1

    -- the way back to the block
    abbrev again_text : (i r d : ℤ) → Text
    again_text i r d = writes_integer (t + 1) (sub r (pos 1)) (writes_integer t (add i d) (writes_integer (t + 3) (add i d) (back (length body + 1))))

    turn : (m : ℕ) → m ≤ n → ((l : ℕ) → l < m → Loop l) → (i r d : ℤ) (ps : List Pending) (env regs : List Value) (c : Captured) (opened : ℕ) → Standing (hiding S t) (t + 3) closed ps env c regs
        → nth env t ≡ known (integer i) → nth env (t + 1) ≡ known (integer r) → nth env (t + 2) ≡ known (integer d)
        → Agree S m (tree.at complete (of_tree S ps env c) (w ∷ k)) (before (of_code S ps (pc + 1 + size_of) regs opened) c)
    turn m le loop i r d ps env regs c opened st e0 e1 e2 = by (same_integer r (pos 0)) refl
      where
        reads : talk_step S.code (before (of_code S ps (pc + 1 + size_of) regs opened) c)
            ≡ talk S.code (cond (same_integer r (pos 0)) next (quick pay' (λ _. again_text i r d))) (three t regs) (of_code S ps (pc + 1 + size_of) regs opened) c
        reads =
            let size = st.size in
            let near = x.near (way S back_field) in
            let same = λ (q : ℕ) (lt : q < length env). same_shape (nth regs q) ∙ ap (λ v. integer_in (shape v)) (sym (st.rel.agree q lt)) in
            turn_step S.code t (length body + 1) (of_code S ps (pc + 1 + size_of) regs opened) c at_turn.0 t_fits (omega (arith, sized, near)) (omega (arith, x.room, st.rel.room))
            ∙ ap (λ o. talk S.code (goes_round t (length body + 1) o (integer_of_shape (shape (nth regs (t + 1)))) (integer_of_shape (shape (nth regs (t + 2))))) (three t regs) (of_code S ps (pc + 1 + size_of) regs opened) c) (same t (omega (arith, size)) ∙ ap (λ v. integer_in (shape v)) e0)
            ∙ ap (λ o. talk S.code (goes_round t (length body + 1) (Some i) o (integer_of_shape (shape (nth regs (t + 2))))) (three t regs) (of_code S ps (pc + 1 + size_of) regs opened) c) (same (t + 1) (omega (arith, size)) ∙ ap (λ v. integer_in (shape v)) e1)
            ∙ ap (λ o. talk S.code (goes_round t (length body + 1) (Some i) (Some r) o) (three t regs) (of_code S ps (pc + 1 + size_of) regs opened) c) (same (t + 2) (omega (arith, size)) ∙ ap (λ v. integer_in (shape v)) e2)

        again : (m : ℕ) → m ≤ n → ((l : ℕ) → l ≤ m → Loop l) → (shared had : List Value)
            → Agree S m (tree.at count_round (of_tree S ps (brought c.held shared env) (told c)) (w ∷ k)) (amid (again_text i r d) had (of_code S ps (pc + 1 + size_of) (brought c.held shared regs) opened) (told c))
        again m le loop shared had =
            let env1 = brought c.held shared env in
            let regs1 = brought c.held shared regs in
            let regs2 = turned t (sub r (pos 1)) (add i d) regs1 in
            let af = after_share (with_loop S.hidden t) S.code.own.stack ps env regs shared c (t + 4) st.rel in
            let size = st.size in
            let st1 : Standing (hiding S t) (t + 3) closed ps env1 (told c) regs1 = record { numbered = st.numbered; size = af.size ∙ st.size; rel = af.rel } in
            let f0 = brought_free c.held shared env t (st.rel.hides.free t (inl refl)) ∙ e0 in
            let f1 = brought_free c.held shared env (t + 1) (st.rel.hides.free (t + 1) (inr (inl refl))) ∙ e1 in
            let f2 = brought_free c.held shared env (t + 2) (st.rel.hides.free (t + 2) (inr (inr (inl refl)))) ∙ e2 in
            let low = low_size ps env1 regs1 (told c) st1 in
            let more = turned_more t (sub r (pos 1)) (add i d) regs1 in
            let rel1 = low_rel ps env1 regs1 (told c) st1 in
            let rel2 = after_above S.hidden S.code.own.stack ps (take t env1) regs1 regs2 (told c) t (omega (arith, low)) rel1 (turned_below t (sub r (pos 1)) (add i d) regs1) (omega (arith, more, rel1.room)) in
            go_left S m _ (tree.at (run (point_of block (t + 3))) (of_tree S ps ((take t env1 ++ hidden (add i d) (sub r (pos 1)) d) ++ known (integer (add i d)) ∷ []) (told c)) (w ∷ k)) _
            (ap (λ v. counts_round line block t (integer_in (shape v)) (integer_in (shape (nth env1 (t + 1)))) (integer_in (shape (nth env1 (t + 2)))) (of_tree S ps env1 (told c)) k) f0
            ∙ ap (λ v. counts_round line block t (Some i) (integer_in (shape v)) (integer_in (shape (nth env1 (t + 2)))) (of_tree S ps env1 (told c)) k) f1
            ∙ ap (λ v. counts_round line block t (Some i) (Some r) (integer_in (shape v)) (of_tree S ps env1 (told c)) k) f2)
            (go_right S m _ _ (before (of_code S ps (pc + 1) regs2 opened) (told c))
            (turned_step S.code t (length body + 1) (sub r (pos 1)) (add i d) had (of_code S ps (pc + 1 + size_of) regs1 opened) (told c) (omega (arith, x.room, rel1.room)) ∙ landed (((had ++ []) ++ []) ++ []) regs2 ps (told c) opened)
            (enters m le loop (add i d) (sub r (pos 1)) d ps (take t env1) regs2 (told c) opened st.numbered low rel2.rel
            (turned_holds t (sub r (pos 1)) (add i d) d regs1 (sym (af.rel.agree (t + 2) (omega (arith, size, af.size))) ∙ f2))))

        paid : (m : ℕ) → m ≤ n → ((l : ℕ) → l < m → Loop l) → same_integer r (pos 0) ≡ false → Agree S m (tree.at (pay line count_round) (of_tree S ps env c) (w ∷ k)) (before (of_code S ps (pc + 1 + size_of) regs opened) c)
        paid zero le loop is = tt
        paid (suc m) le loop is =
            both_ask S m _ _ pays pays line _ _ _ _ _ refl
            (reads ∙ ap (λ b. talk S.code (cond b next (quick pay' (λ _. again_text i r d))) (three t regs) (of_code S ps (pc + 1 + size_of) regs opened) c) is) tt refl at_turn.1.0
            (share_same (with_loop S.hidden t) S.code.own.stack ps env c regs st.rel)
            (λ y fits. again m (omega (arith, le)) (λ l less. loop l (omega (arith, less))) y.shared (three t regs ++ values_in y.reply))

        by : (b : Bool) → same_integer r (pos 0) ≡ b → Agree S m (tree.at complete (of_tree S ps env c) (w ∷ k)) (before (of_code S ps (pc + 1 + size_of) regs opened) c)
        by true is =
            let out = x.out in
            let to = next_there S (pc + 1 + size_of + 1) (omega (arith, out, x.inside)) in
            go_left S m _ (tree.at (leave_scope t line (known nil) complete) (of_tree S ps env c) k) _
            (ap (λ v. counts_on line block t (integer_in (shape v)) (of_tree S ps env c) k) (e1 ∙ ap (λ z. known (integer z)) (count_zero r is)))
            (go_left S m _ (tree.at complete (of_tree S ps (take t env) (cut t env c)) k) _ (leave_done S t ps line (known nil) complete env c k (low_ascends ps env regs c st))
            (subst (λ b. Agree S m (tree.at complete (of_tree S ps (take t env) b) k) (before (of_code S ps (pc + 1 + size_of) regs opened) c)) (sym (cut_none t env c (low_held ps env regs c st)))
            (go_right S m _ _ (before (of_code S ps (pc + 1 + size_of + 1) regs opened) c)
            (reads ∙ ap (λ b. talk S.code (cond b next (quick pay' (λ _. again_text i r d))) (three t regs) (of_code S ps (pc + 1 + size_of) regs opened) c) is ∙ go_step S.code 1 to.0 (three t regs) (of_code S ps (pc + 1 + size_of) regs opened) c to.1)
            (at_place S ps m (pc + 1 + size_of + 1) exit opened _ regs c (omega (arith, out))
            (x.done m le ps (take t env) regs c opened (record { numbered = st.numbered; size = low_size ps env regs c st; rel = low_rel ps env regs c st }))))))
        by false is =
            go_left S m _ (tree.at (pay line count_round) (of_tree S ps env c) (w ∷ k)) _
            (ap (λ v. counts_on line block t (integer_in (shape v)) (of_tree S ps env c) k) e1 ∙ counts_more line block t r (of_tree S ps env c) k is) (paid m le loop is)

    round : (m : ℕ) → ((l : ℕ) → l < m → Loop l) → Loop m
    round m loop le ps env regs c opened st =
        let size = st.size in
        let a = st.rel.hides.whole t (inl refl) (omega (arith, size)) in
        let b = st.rel.hides.whole (t + 1) (inr (inl refl)) (omega (arith, size)) in
        let d = st.rel.hides.whole (t + 2) (inr (inr (inl refl))) (omega (arith, size)) in
        turn m le loop a.0 b.0 d.0 ps env regs c opened st a.1 b.1 d.1

    -- the values are at fault
    faulted : (words : List ℕ) (slots : List Value) (q : tree.State) (ps : List Pending) (env regs : List Value) (c : Captured) (opened : ℕ) → step q ≡ go (raise line words) (of_tree S ps env c) k
        → talk_step S.code (before (of_code S ps pc regs opened) c) ≡ talk S.code (text.raise words) slots (of_code S ps pc regs opened) c → Rel S.hidden S.code.own.stack ps env c regs → Agree S n q (before (of_code S ps pc regs opened) c)
    faulted words slots q ps env regs c opened st reads rel =
        go_left S n q (tree.at (raise line words) (of_tree S ps env c) k) _ st
        (faults_alike S n ps line pc opened env regs c words _ _ rel (here_abx S ForPrep t (length body) line pc (body ++ with_abx ForLoop t (length body + 1) line ∷ []) x.has) refl reads)

    -- the loop begins, where the step is not zero
    begins : (i limit d : ℤ) (slots : List Value) (q : tree.State) (ps : List Pending) (env regs : List Value) (c : Captured) (opened : ℕ) → step q ≡ begins_counting line block i limit d (of_tree S ps env c) k
        → talk_step S.code (before (of_code S ps pc regs opened) c) ≡ talk S.code (starts t (length body) i limit d) slots (of_code S ps pc regs opened) c
        → Standing S t closed ps env c regs → nth regs t ≡ known (integer i) → nth regs (t + 2) ≡ known (integer d) → Agree S n q (before (of_code S ps pc regs opened) c)
    begins i limit d slots q ps env regs c opened st reads standing index step_is = by (same_integer d (pos 0)) refl
      where
        through : (b : Bool) → goes_on_from i limit d ≡ b
            → step q ≡ cond (goes_on_from i limit d) (begins_round line block (length env) i (rounds_to_come i limit d) d (of_tree S ps env c) k) (go complete (of_tree S ps env c) k)
            → talk_step S.code (before (of_code S ps pc regs opened) c)
            ≡ talk S.code (cond (runs i limit d) (writes_integer (t + 1) (rounds i limit d) (writes_integer (t + 3) i next)) (text.go_by (pos (length body + 2)))) slots (of_code S ps pc regs opened) c
            → Agree S n q (before (of_code S ps pc regs opened) c)
        through true is st reads =
            let out = x.out in
            let size = standing.size in
            let to = next_there S (pc + 1) (omega (arith, out, x.inside)) in
            let whole : take t env ≡ env = ap (λ u. take u env) (sym standing.size) ∙ take_whole env in
            let more = begun_more t (rounds_to_come i limit d) i regs in
            let af = after_above S.hidden S.code.own.stack ps env regs (begun t (rounds_to_come i limit d) i regs) c t (omega (arith, size)) standing.rel (begun_below t (rounds_to_come i limit d) i regs) (omega (arith, more, standing.rel.room)) in
            go_left S n q (tree.at (run (point_of block (t + 3))) (of_tree S ps ((env ++ hidden i (rounds_to_come i limit d) d) ++ known (integer i) ∷ []) c) (w ∷ k)) _
            (st ∙ ap (λ b. cond b (begins_round line block (length env) i (rounds_to_come i limit d) d (of_tree S ps env c) k) (go complete (of_tree S ps env c) k)) is
            ∙ ap (λ u. begins_round line block u i (rounds_to_come i limit d) d (of_tree S ps env c) k) standing.size
            ∙ ap (λ l. go (run (point_of block (t + 3))) (of_tree S ps ((l ++ hidden i (rounds_to_come i limit d) d) ++ known (integer i) ∷ []) c) (w ∷ k)) whole)
            (go_right S n _ _ (before (of_code S ps (pc + 1) (begun t (rounds_to_come i limit d) i regs) opened) c)
            (reads ∙ ap (λ b. talk S.code (cond b (writes_integer (t + 1) (rounds i limit d) (writes_integer (t + 3) i next)) (text.go_by (pos (length body + 2)))) slots (of_code S ps pc regs opened) c) (runs_same i limit d ∙ is)
            ∙ begun_step S.code t (rounds_to_come i limit d) i slots to.0 (of_code S ps pc regs opened) c (omega (arith, x.room, standing.rel.room)) to.1)
            (enters n (omega arith) (λ l less. strong Loop round l) i (rounds_to_come i limit d) d ps env (begun t (rounds_to_come i limit d) i regs) c opened standing.numbered standing.size af.rel
            (begun_holds t (rounds_to_come i limit d) i d regs index step_is)))
        through false is st reads =
            let out = x.out in
            let to = next_there S (pc + (length body + 2)) (omega (arith, sized, out, x.inside)) in
            go_left S n q (tree.at complete (of_tree S ps env c) k) _
            (st ∙ ap (λ b. cond b (begins_round line block (length env) i (rounds_to_come i limit d) d (of_tree S ps env c) k) (go complete (of_tree S ps env c) k)) is)
            (go_right S n _ _ (before (of_code S ps (pc + (length body + 2)) regs opened) c)
            (reads ∙ ap (λ b. talk S.code (cond b (writes_integer (t + 1) (rounds i limit d) (writes_integer (t + 3) i next)) (text.go_by (pos (length body + 2)))) slots (of_code S ps pc regs opened) c) (runs_same i limit d ∙ is)
            ∙ go_step S.code (length body + 2) to.0 slots (of_code S ps pc regs opened) c to.1)
            (at_place S ps n (pc + (length body + 2)) exit opened _ regs c (omega (arith, sized, out)) (x.done n (omega arith) ps env regs c opened standing)))

        by : (b : Bool) → same_integer d (pos 0) ≡ b → Agree S n q (before (of_code S ps pc regs opened) c)
        by true is =
            faulted (codes "'for' step is zero") slots q ps env regs c opened
            (st ∙ ap (λ b. cond b (go (raise line (codes "'for' step is zero")) (of_tree S ps env c) k) (cond (goes_on_from i limit d) (begins_round line block (length env) i (rounds_to_come i limit d) d (of_tree S ps env c) k) (go complete (of_tree S ps env c) k))) is)
            (reads ∙ ap (λ b. talk S.code (cond b (text.raise (codes "'for' step is zero")) (cond (runs i limit d) (writes_integer (t + 1) (rounds i limit d) (writes_integer (t + 3) i next)) (text.go_by (pos (length body + 2))))) slots (of_code S ps pc regs opened) c) is)
            standing.rel
        by false is =
            through (goes_on_from i limit d) refl
            (st ∙ ap (λ b. cond b (go (raise line (codes "'for' step is zero")) (of_tree S ps env c) k) (cond (goes_on_from i limit d) (begins_round line block (length env) i (rounds_to_come i limit d) d (of_tree S ps env c) k) (go complete (of_tree S ps env c) k))) is)
            (reads ∙ ap (λ b. talk S.code (cond b (text.raise (codes "'for' step is zero")) (cond (runs i limit d) (writes_integer (t + 1) (rounds i limit d) (writes_integer (t + 3) i next)) (text.go_by (pos (length body + 2))))) slots (of_code S ps pc regs opened) c) is)

    -- a numeric `for` whose values stand in its registers
    pub counts_goes : (v0 v1 v2 : Value) (q : tree.State) (ps : List Pending) (env regs : List Value) (c : Captured) (opened : ℕ)
        → step q ≡ starts_counting line block (integer_in (shape v0)) (integer_in (shape v1)) (integer_in (shape v2)) (of_tree S ps env c) k
        → Standing S t closed ps env c regs → nth regs t ≡ v0 → nth regs (t + 1) ≡ v1 → nth regs (t + 2) ≡ v2 → Agree S n q (before (of_code S ps pc regs opened) c)
    counts_goes v0 v1 v2 q ps env regs c opened st standing e0 e1 e2 = by (integer_in (shape v0)) (integer_in (shape v1)) (integer_in (shape v2)) refl refl st reads
      where
        reads : talk_step S.code (before (of_code S ps pc regs opened) c)
            ≡ talk S.code (prepares t (length body) (integer_in (shape v0)) (integer_in (shape v1)) (integer_in (shape v2))) (three t regs) (of_code S ps pc regs opened) c
        reads =
            let near = x.near (way S back_field) in
            begin_step S.code t (length body) (of_code S ps pc regs opened) c x.has.0 t_fits (omega (arith, sized, near)) (omega (arith, x.room, standing.rel.room))
            ∙ ap (λ o. talk S.code (prepares t (length body) o (integer_of_shape (shape (nth regs (t + 1)))) (integer_of_shape (shape (nth regs (t + 2))))) (three t regs) (of_code S ps pc regs opened) c) (same_shape (nth regs t) ∙ ap (λ v. integer_in (shape v)) e0)
            ∙ ap (λ o. talk S.code (prepares t (length body) (integer_in (shape v0)) o (integer_of_shape (shape (nth regs (t + 2))))) (three t regs) (of_code S ps pc regs opened) c) (same_shape (nth regs (t + 1)) ∙ ap (λ v. integer_in (shape v)) e1)
            ∙ ap (λ o. talk S.code (prepares t (length body) (integer_in (shape v0)) (integer_in (shape v1)) o) (three t regs) (of_code S ps pc regs opened) c) (same_shape (nth regs (t + 2)) ∙ ap (λ v. integer_in (shape v)) e2)

        by : (o0 o1 o2 : Option ℤ) → integer_in (shape v0) ≡ o0 → integer_in (shape v2) ≡ o2 → step q ≡ starts_counting line block o0 o1 o2 (of_tree S ps env c) k
            → talk_step S.code (before (of_code S ps pc regs opened) c) ≡ talk S.code (prepares t (length body) o0 o1 o2) (three t regs) (of_code S ps pc regs opened) c
            → Agree S n q (before (of_code S ps pc regs opened) c)
        by o0 None o2 is0 is2 st reads = faulted (codes "'for' limit must be a number") (three t regs) q ps env regs c opened st reads standing.rel
        by o0 (Some limit) None is0 is2 st reads = faulted (codes "'for' step must be a number") (three t regs) q ps env regs c opened st reads standing.rel
        by None (Some limit) (Some d) is0 is2 st reads = faulted (codes "'for' initial value must be a number") (three t regs) q ps env regs c opened st reads standing.rel
        by (Some i) (Some limit) (Some d) is0 is2 st reads = begins i limit d (three t regs) q ps env regs c opened st reads standing (e0 ∙ integer_is v0 i is0) (e2 ∙ integer_is v2 d is2)
