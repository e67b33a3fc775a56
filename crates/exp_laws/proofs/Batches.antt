-- Values that wait behind a table's register go there one by one, by one instruction.
use Rattle.std.proofs.Common.{◌≡◌, ℕ, zero, suc, ◌+◌, ◌*◌, ◌/◌, ◌%◌, ◌<◌, ◌≤◌, ◌^◌, Bool, true, false, cond, pos, map, List, [], ◌∷◌, ◌++◌, length, take, refl, sym, ap, subst, ◌∙◌, arith}
use Rattle.std.specs.Prelude.{nat_lt}
use borrow.Author.Tests.{ltb-true}
use Rattle.int_core.specs.Value.{Value, a_table, object as reference, nth}
use Rattle.int_core.specs.Ask.{fills_table, Reply, values, faulted, left, values_in, Captured, shared_by, brought, IsReplyTo}
use Rattle.tree_core.specs.Tree.{Body, Exp, Field, Fields, EndFields, MoreFields, Item}
use Rattle.tree_activation.specs.Work.{Control, evaluate, give, construct, item_of, Work, Pending}
use Rattle.tree_activation.specs.Work as tree
use Rattle.tree_activation.specs.Activation.{step}
use Rattle.tree_activation.specs.Asking.{asks_quickly}
use Rattle.code_core.specs.declared.opcode.Opcode.TheVariants.{SetList, ExtraArg}
use Rattle.code_core.specs.Instruction.{abc, op_ax}
use Rattle.machine_core.specs.Text.{Text}
use Rattle.machine_core.specs.InstructionRows.{ends_list, fills_each, fills_from}
use Rattle.machine_core.specs.Talk as code
use Rattle.machine_core.specs.Talk.{before, amid, talk, talk_step, says_so}
use Rattle.list_laws.proofs.Values.{nth_take, length_take}
use Rattle.code_of.specs.Coded.{Coded, with_abc}
use Rattle.code_of.specs.Expressions.{set_list, waiting_code}
use Rattle.code_of.specs.Items.{waits}
use Rattle.exp_laws.specs.Setting.{Setting}
use Rattle.exp_laws.proofs.Registers.{Rel, After, told, share_same, after_none, after_then, after_share, after_above, lower}
use Rattle.exp_laws.proofs.Talking.{Here, Agree, down, go_left, go_right, both_ask, of_tree, of_code}
use Rattle.exp_laws.proofs.Placing.{HasAt, here_abc}
use Rattle.exp_laws.proofs.Lists.{Holds, held_first}
use Rattle.exp_laws.proofs.Going.{next_there, at_place}
use Rattle.exp_laws.proofs.Still.{Still, brought_back}
use Rattle.exp_laws.proofs.Tables.{each_step, list_near, list_far, filled_step}
use Rattle.exp_laws.proofs.Waiting.{worth, worths, worths_still, AllWait, ahead, evaluated}

-- what a constructor does once an item is stored
abbrev pub next_item : (line : ℕ) → Value → (items : ℕ) → Fields → Control
next_item line t items EndFields = give (t ∷ [])
next_item line t items (MoreFields f fs) = construct line t items (MoreFields f fs)

module _ (S : Setting) (pending : List Pending) where
  item_stored : (fs : Fields) (line items : ℕ) (t v : Value) (env : List Value) (c : Captured) (k : List Work)
      → step (tree.at (give (v ∷ [])) (of_tree S pending env c) (item_of line t items fs ∷ k)) ≡ asks_quickly (fills_table t items (v ∷ [])) line (of_tree S pending env c) k (λ _. next_item line t (items + 1) fs)
  item_stored EndFields line items t v env c k = refl
  item_stored (MoreFields f fs) line items t v env c k = refl

  -- a table is filled: nothing comes back, and each local is as it was
  fill_still : (n : ℕ) (s : tree.State) (t : code.State) (o v w : Value) (items last line pc opened u : ℕ) (env regs : List Value) (c : Captured) (k : List Work) (next_of : Control) (rest : Text) (had : List Value)
      → step s ≡ asks_quickly (fills_table o items (v ∷ [])) line (of_tree S pending env c) k (λ _. next_of)
      → talk_step S.code t ≡ says_so (fills_table o last (w ∷ [])) S.code (of_code S pending pc regs opened) c (λ x b d. amid rest (had ++ values_in x.reply) b d)
      → items ≡ last → v ≡ w → Rel S.hidden S.code.own.stack pending env c regs → Here S pc line
      → ((env' regs' : List Value) (c' : Captured) → After S.hidden S.code.own.stack pending env regs u env' regs' c' → Still env env'
      → Agree S n (tree.at next_of (of_tree S pending env' c') k) (amid rest (had ++ []) (of_code S pending pc regs' opened) c'))
      → Agree S n s t
  fill_still zero s t o v w items last line pc opened u env regs c k next_of rest had e d same given rel here next = tt
  fill_still (suc n) s t o v w items last line pc opened u env regs c k next_of rest had e d same given rel here next =
      both_ask S n s t (fills_table o items (v ∷ [])) (fills_table o last (w ∷ [])) line _ _ _ _ _ e d (refl, (same, ap (λ x. x ∷ []) given)) refl here.lined (share_same S.hidden S.code.own.stack pending env c regs rel)
      (λ x fits. by x.reply fits.reply x.shared (fits.kept tt))
    where
      by : (reply : Reply) → IsReplyTo {F = Body} (fills_table o items (v ∷ [])) reply → (shared : List Value) → shared ≡ map (λ s. s.1) (shared_by c.held env ++ c.gone)
          → Agree S n (tree.at next_of (of_tree S pending (brought c.held shared env) (told c)) k) (amid rest (had ++ values_in reply) (of_code S pending pc (brought c.held shared regs) opened) (told c))
      by (values []) is shared kept = down S n _ _ (next (brought c.held shared env) (brought c.held shared regs) (told c) (after_share S.hidden S.code.own.stack pending env regs shared c u rel) (brought_back c.held c.gone env shared kept))
      by (values (x ∷ xs)) is shared kept = absurd is
      by (faulted words) is shared kept = absurd is
      by (left x) is shared kept = absurd is

  -- the first of several values goes to the table
  one_stored : (e : Exp) (F : Fields) (more line stored last m r n pc past opened u : ℕ) (had : List Value) (t : code.State) (env regs : List Value) (c : Captured) (k : List Work)
      → waits e ≡ true → stored ≡ last → talk_step S.code t ≡ talk S.code (fills_each (suc more) 0 r last (pos past)) (reference a_table m ∷ had) (of_code S pending pc regs opened) c
      → r < S.code.own.stack → Rel S.hidden S.code.own.stack pending env c regs → Here S pc line → nth regs r ≡ worth e env
      → ((env1 regs1 : List Value) (c1 : Captured) → After S.hidden S.code.own.stack pending env regs u env1 regs1 c1 → Still env env1
      → Agree S n (tree.at (next_item line (reference a_table m) (stored + 1) F) (of_tree S pending env1 c1) k) (amid (fills_each more 0 (suc r) (suc last) (pos past)) (reference a_table m ∷ (had ++ nth regs r ∷ []) ++ []) (of_code S pending pc regs1 opened) c1))
      → Agree S n (tree.at (construct line (reference a_table m) stored (MoreFields (Item e) F)) (of_tree S pending env c) k) t
  one_stored e F more line stored last m r n pc past opened u had t env regs c k w same d room rel here is next =
      go_left S n _ (tree.at (evaluate e) (of_tree S pending env c) (item_of line (reference a_table m) stored F ∷ k)) t refl
      (evaluated S pending e w n env c (item_of line (reference a_table m) stored F ∷ k) t
      (fill_still n (tree.at (give (worth e env ∷ [])) (of_tree S pending env c) (item_of line (reference a_table m) stored F ∷ k)) t (reference a_table m) (worth e env) (nth regs r) stored last line pc opened u env regs c k
      (next_item line (reference a_table m) (stored + 1) F) (fills_each more 0 (suc r) (suc last) (pos past)) (reference a_table m ∷ had ++ nth regs r ∷ [])
      (item_stored F line stored (reference a_table m) (worth e env) env c k)
      (d ∙ each_step S.code more r last (pos past) (reference a_table m) had (of_code S pending pc regs opened) c (omega (arith, room, rel.room)))
      same (sym is) rel here next))

  -- the list is gone once all are stored
  all_stored : (past low n pc opened : ℕ) (s : Control) (had env regs env1 regs1 : List Value) (c1 : Captured) (k : List Work) → pc + past < length S.code.own.code → length env ≤ low → low ≤ S.code.own.stack
      → After S.hidden S.code.own.stack pending env regs low env1 regs1 c1
      → ((env2 regs2 : List Value) (c2 : Captured) → After S.hidden S.code.own.stack pending env regs low env2 regs2 c2 → Agree S n (tree.at s (of_tree S pending env2 c2) k) (before (of_code S pending (pc + past) regs2 0) c2))
      → Agree S n (tree.at s (of_tree S pending env1 c1) k) (amid (ends_list (pos past)) had (of_code S pending pc regs1 opened) c1)
  all_stored past low n pc opened s had env regs env1 regs1 c1 k inside le room af goes =
      let there = next_there S (pc + past) inside in
      let size = length_take S.code.own.stack regs1 af.rel.room in
      go_right S n _ _ (before (of_code S pending (pc + past) (take S.code.own.stack regs1) 0) c1)
      (filled_step S.code past there.0 had (of_code S pending pc regs1 opened) c1 there.1)
      (goes env1 (take S.code.own.stack regs1) c1
      (after_then S.hidden S.code.own.stack pending env regs env1 regs1 env1 (take S.code.own.stack regs1) c1 c1 low low (omega arith) af
      (after_above S.hidden S.code.own.stack pending env1 regs1 (take S.code.own.stack regs1) c1 low (omega (arith, le, af.size)) af.rel (λ q lt. nth_take S.code.own.stack regs1 q (omega (arith, lt, room))) (omega (arith, size)))))

  each_stored : (es : List Exp) (e : Exp) (fs : Fields) (line stored last items m r n pc past opened low : ℕ) (had : List Value) (t : code.State) (env regs : List Value) (c : Captured) (k : List Work)
      → waits e ≡ true → AllWait es → stored ≡ last → items ≡ stored + suc (length es)
      → talk_step S.code t ≡ talk S.code (fills_each (suc (length es)) 0 r last (pos past)) (reference a_table m ∷ had) (of_code S pending pc regs opened) c
      → pc + past < length S.code.own.code → length env ≤ low → low ≤ r → r + suc (length es) ≤ S.code.own.stack → Rel S.hidden S.code.own.stack pending env c regs → Here S pc line
      → Holds r (suc (length es)) (worth e env ∷ worths es env) regs
      → ((env1 regs1 : List Value) (c1 : Captured) → After S.hidden S.code.own.stack pending env regs low env1 regs1 c1
      → Agree S n (tree.at (next_item line (reference a_table m) items fs) (of_tree S pending env1 c1) k) (before (of_code S pending (pc + past) regs1 0) c1))
      → Agree S n (tree.at (construct line (reference a_table m) stored (ahead (e ∷ es) fs)) (of_tree S pending env c) k) t
  each_stored [] e fs line stored last items m r n pc past opened low had t env regs c k w ws same sum d inside le low_r room rel here held goes =
      let whole : items ≡ stored + suc zero = sum in
      let one : items ≡ stored + 1 = omega (arith, whole) in
      let top : r + suc zero ≤ S.code.own.stack = room in
      one_stored e fs 0 line stored last m r n pc past opened low had t env regs c k w same d (omega (arith, top)) rel here (held_first r 0 (worth e env ∷ []) regs held)
      (λ env1 regs1 c1 af st. all_stored past low n pc opened (next_item line (reference a_table m) (stored + 1) fs) (reference a_table m ∷ (had ++ nth regs r ∷ []) ++ []) env regs env1 regs1 c1 k inside le (omega (arith, low_r, top)) af
      (λ env2 regs2 c2 af2. subst (λ z. Agree S n (tree.at (next_item line (reference a_table m) z fs) (of_tree S pending env2 c2) k) (before (of_code S pending (pc + past) regs2 0) c2)) one (goes env2 regs2 c2 af2)))
  each_stored (f ∷ es) e fs line stored last items m r n pc past opened low had t env regs c k w ws same sum d inside le low_r room rel here held goes =
      let up = r + suc (suc (length es)) in
      let whole : items ≡ stored + suc (suc (length es)) = sum in
      let top : r + suc (suc (length es)) ≤ S.code.own.stack = room in
      one_stored e (ahead (f ∷ es) fs) (suc (length es)) line stored last m r n pc past opened up had t env regs c k w same d (omega (arith, top)) rel here (held_first r (suc (length es)) (worth e env ∷ worths (f ∷ es) env) regs held)
      (λ env1 regs1 c1 af st. each_stored es f fs line (stored + 1) (suc last) items m (suc r) n pc past opened low ((had ++ nth regs r ∷ []) ++ [])
      (amid (fills_each (suc (length es)) 0 (suc r) (suc last) (pos past)) (reference a_table m ∷ (had ++ nth regs r ∷ []) ++ []) (of_code S pending pc regs1 opened) c1)
      env1 regs1 c1 k ws.0 ws.1 (omega (arith, same)) (omega (arith, whole)) refl inside (omega (arith, le, af.size)) (omega (arith, low_r)) (omega (arith, top)) af.rel here
      (still_held env1 regs1 c1 af st)
      (λ env2 regs2 c2 af2. goes env2 regs2 c2
      (after_then S.hidden S.code.own.stack pending env regs env1 regs1 env2 regs2 c1 c2 low low (omega arith) (lower S.hidden S.code.own.stack pending env regs env1 regs1 c1 up low (omega (arith, low_r)) af) af2)))
    where
      still_held : (env1 regs1 : List Value) (c1 : Captured) → After S.hidden S.code.own.stack pending env regs (r + suc (suc (length es))) env1 regs1 c1 → Still env env1 → Holds (suc r) (suc (length es)) (worth f env1 ∷ worths es env1) regs1
      still_held env1 regs1 c1 af st i lt =
          let at : suc r + i ≡ r + suc i = omega arith in
          af.keeps (suc r + i) (omega (arith, le, low_r)) (omega (arith, lt)) ∙ ap (nth regs) at ∙ held (suc i) (omega (arith, lt)) ∙ ap (λ vs. nth vs i) (sym (worths_still (f ∷ es) env env1 st))

  -- the instruction that stores them
  batch_stored : (es : List Exp) (e : Exp) (f : Fields) (b line stored items m t n pc opened : ℕ) (env regs : List Value) (c : Captured) (k : List Work)
      → waits e ≡ true → AllWait es → b ≡ suc (length es) → items ≡ stored + b → stored < 2 ^ 33 → HasAt S pc (set_list t b stored line) → pc + length (set_list t b stored line) < length S.code.own.code
      → length env ≤ t → t + (1 + b) ≤ S.code.own.stack → Rel S.hidden S.code.own.stack pending env c regs → nth regs t ≡ reference a_table m → Holds (t + 1) b (worth e env ∷ worths es env) regs
      → ((env1 regs1 : List Value) (c1 : Captured) → After S.hidden S.code.own.stack pending env regs (t + 1) env1 regs1 c1
      → Agree S n (tree.at (next_item line (reference a_table m) items f) (of_tree S pending env1 c1) k) (before (of_code S pending (pc + length (set_list t b stored line)) regs1 0) c1))
      → Agree S n (tree.at (construct line (reference a_table m) stored (ahead (e ∷ es) f)) (of_tree S pending env c) k) (before (of_code S pending pc regs opened) c)
  batch_stored es e f b line stored items m t n pc opened env regs c k w ws count sum wide has inside le room rel is held goes = by (nat_lt stored 256) refl has inside goes
    where
      fits : t < 2 ^ 8
      fits = omega (arith, room, S.small)

      few : b < 2 ^ 8
      few = omega (arith, room, S.small)

      width : t < length regs
      width = omega (arith, room, rel.room)

      split : stored % 256 + 256 * (stored / 256) ≡ stored
      split = omega arith

      code_by : Bool → List Coded
      code_by near = cond near (with_abc SetList t b stored line ∷ []) ((abc SetList t b (stored % 256) true, line) ∷ (op_ax ExtraArg (stored / 256), line) ∷ [])

      all_of : (last past : ℕ) → stored ≡ last → Here S pc line
          → talk_step S.code (before (of_code S pending pc regs opened) c) ≡ talk S.code (fills_from b 0 (t + 1) last (pos past)) (reference a_table m ∷ []) (of_code S pending pc regs opened) c → pc + past < length S.code.own.code
          → ((env1 regs1 : List Value) (c1 : Captured) → After S.hidden S.code.own.stack pending env regs (t + 1) env1 regs1 c1
          → Agree S n (tree.at (next_item line (reference a_table m) items f) (of_tree S pending env1 c1) k) (before (of_code S pending (pc + past) regs1 0) c1))
          → Agree S n (tree.at (construct line (reference a_table m) stored (ahead (e ∷ es) f)) (of_tree S pending env c) k) (before (of_code S pending pc regs opened) c)
      all_of last past same here d inside goes =
          each_stored es e f line stored last items m (t + 1) n pc past opened (t + 1) [] (before (of_code S pending pc regs opened) c) env regs c k w ws same (omega (arith, sum, count))
          (d ∙ ap (λ z. talk S.code (fills_from z 0 (t + 1) last (pos past)) (reference a_table m ∷ []) (of_code S pending pc regs opened) c) count)
          inside (omega (arith, le)) (omega arith) (omega (arith, room, count)) rel here (subst (λ z. Holds (t + 1) z (worth e env ∷ worths es env) regs) count held) goes

      by : (near : Bool) → nat_lt stored 256 ≡ near → HasAt S pc (code_by near) → pc + length (code_by near) < length S.code.own.code
          → ((env1 regs1 : List Value) (c1 : Captured) → After S.hidden S.code.own.stack pending env regs (t + 1) env1 regs1 c1
          → Agree S n (tree.at (next_item line (reference a_table m) items f) (of_tree S pending env1 c1) k) (before (of_code S pending (pc + length (code_by near)) regs1 0) c1))
          → Agree S n (tree.at (construct line (reference a_table m) stored (ahead (e ∷ es) f)) (of_tree S pending env c) k) (before (of_code S pending pc regs opened) c)
      by true near has inside goes =
          all_of stored 1 refl (here_abc S SetList t b stored false line pc [] has)
          (list_near S.code t b stored m (of_code S pending pc regs opened) c has.0 (ltb-true stored 256 near) fits few width is) inside goes
      by false far has inside goes =
          all_of (stored % 256 + 256 * (stored / 256)) 2 (sym split) (here_abc S SetList t b (stored % 256) true line pc ((op_ax ExtraArg (stored / 256), line) ∷ []) has)
          (list_far S.code t b (stored % 256) (stored / 256) m (of_code S pending pc regs opened) c has.0 has.1.1.0 (omega arith) (omega (arith, wide)) fits few width is) inside goes

  -- the values of these items wait, and the instruction stores all of them
  pub stored_all : (es : List Exp) (f : Fields) (b line stored items m t n pc opened : ℕ) (env regs : List Value) (c : Captured) (k : List Work)
      → AllWait es → 0 < length es → b ≡ length es → items ≡ stored + b → stored < 2 ^ 33 → HasAt S pc (set_list t b stored line) → pc + length (set_list t b stored line) < length S.code.own.code
      → length env ≤ t → t + (1 + b) ≤ S.code.own.stack → Rel S.hidden S.code.own.stack pending env c regs → nth regs t ≡ reference a_table m → Holds (t + 1) b (worths es env) regs
      → ((env1 regs1 : List Value) (c1 : Captured) → After S.hidden S.code.own.stack pending env regs (t + 1) env1 regs1 c1
      → Agree S n (tree.at (next_item line (reference a_table m) items f) (of_tree S pending env1 c1) k) (before (of_code S pending (pc + length (set_list t b stored line)) regs1 0) c1))
      → Agree S n (tree.at (construct line (reference a_table m) stored (ahead es f)) (of_tree S pending env c) k) (before (of_code S pending pc regs opened) c)
  stored_all [] f b line stored items m t n pc opened env regs c k ws some count sum wide has inside le room rel is held goes = let none : 0 < 0 = some in absurd (omega (arith, none))
  stored_all (e ∷ es) f b line stored items m t n pc opened env regs c k ws some count sum wide has inside le room rel is held goes =
      batch_stored es e f b line stored items m t n pc opened env regs c k ws.0 ws.1 count sum wide has inside le room rel is held goes

  -- before another field those that wait are stored, where there are some
  pub stored_first : (waiting : ℕ) (es : List Exp) (f : Field) (fs : Fields) (line stored m t n pc opened : ℕ) (env regs : List Value) (c : Captured) (k : List Work)
      → AllWait es → waiting ≡ length es → stored + waiting ≤ 2 ^ 33 → HasAt S pc (waiting_code stored waiting t line) → pc + length (waiting_code stored waiting t line) < length S.code.own.code
      → length env ≤ t → t + (1 + waiting) ≤ S.code.own.stack → Rel S.hidden S.code.own.stack pending env c regs → nth regs t ≡ reference a_table m → Holds (t + 1) waiting (worths es env) regs
      → ((env1 regs1 : List Value) (c1 : Captured) (o1 : ℕ) → After S.hidden S.code.own.stack pending env regs (t + 1) env1 regs1 c1
      → Agree S n (tree.at (construct line (reference a_table m) (stored + waiting) (MoreFields f fs)) (of_tree S pending env1 c1) k) (before (of_code S pending (pc + length (waiting_code stored waiting t line)) regs1 o1) c1))
      → Agree S n (tree.at (construct line (reference a_table m) stored (ahead es (MoreFields f fs))) (of_tree S pending env c) k) (before (of_code S pending pc regs opened) c)
  stored_first zero [] f fs line stored m t n pc opened env regs c k ws count wide has inside le room rel is held goes =
      let none : stored + 0 ≡ stored = omega arith in
      at_place S pending n pc (pc + 0) opened _ regs c (omega arith)
      (subst (λ z. Agree S n (tree.at (construct line (reference a_table m) z (MoreFields f fs)) (of_tree S pending env c) k) (before (of_code S pending (pc + 0) regs opened) c)) none
      (goes env regs c opened (after_none S.hidden S.code.own.stack pending env regs c (t + 1) rel)))
  stored_first zero (e ∷ es) f fs line stored m t n pc opened env regs c k ws count wide has inside le room rel is held goes = absurd (cc)
  stored_first (suc w) [] f fs line stored m t n pc opened env regs c k ws count wide has inside le room rel is held goes = absurd (cc)
  stored_first (suc w) (e ∷ es) f fs line stored m t n pc opened env regs c k ws count wide has inside le room rel is held goes =
      batch_stored es e (MoreFields f fs) (suc w) line stored (stored + suc w) m t n pc opened env regs c k ws.0 ws.1 count refl (omega (arith, wide)) has inside le room rel is held
      (λ env1 regs1 c1 af. goes env1 regs1 c1 0 af)
