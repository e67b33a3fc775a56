-- Calls, `...` and lists of expressions.
use Rattle.std.proofs.Common.{◌≡◌, ℕ, zero, suc, ◌+◌, ◌<◌, ◌≤◌, ◌^◌, lit<, false, List, [], ◌∷◌, ◌++◌, length, Bool, true, cond, Some, refl, sym, ap, ap₂, ◌∙◌, subst, arith, length-append}
use borrow.Author.Tests.{ltb-true}
use Rattle.std.specs.Prelude.{nat_lt}
use Rattle.int_core.specs.Value.{Value, known, string, nth, range, write}
use Rattle.int_core.specs.Operations.{index}
use Rattle.int_core.specs.Ask.{operates, calls, Reply, values, faulted, left, Captured, goes_on}
use Rattle.tree_activation.specs.Work.{Purpose, Control, give, collect, Work, Pending}
use Rattle.tree_activation.specs.Work as tree
use Rattle.tree_activation.specs.Activation.{step}
use Rattle.tree_activation.specs.Asking.{first, asks}
use Rattle.code_core.specs.declared.opcode.Opcode.TheVariants.{OpSelf, VarArg, Call as CallCode}
use Rattle.code_core.specs.Instruction.{abc}
use Rattle.code_core.specs.Check.{at, mark, open_from}
use Rattle.machine_core.specs.World.{for_call, for_value}
use Rattle.machine_core.specs.Text.{read, blanked}
use Rattle.machine_core.specs.InstructionRows.{write_values, told_values}
use Rattle.machine_core.specs.Talk as code
use Rattle.machine_core.specs.Talk.{before, amid, talk, talk_step, says_so, heard}
use Rattle.list_laws.proofs.Values.{nth_write_same, nth_write_other}
use Rattle.list_laws.proofs.Tests.{lt_true}
use Rattle.code_core.specs.declared.proto.Const.TheVariants.{Str as StrConst}
use Rattle.code_of.specs.Coded.{Coded, with_abc}
use Rattle.code_of.specs.Constants.{Found, number_in, loads}
use Rattle.code_of.specs.Operators.{self_code}
use Rattle.exp_laws.proofs.Registers.{Rel, After, after_none, after_then, lower, after_above, after_put}
use Rattle.exp_laws.specs.Setting.{Setting}
use Rattle.exp_laws.proofs.Talking.{Agree, go_left, go_right, of_tree, of_code}
use Rattle.exp_laws.proofs.Placing.{HasAt, has_front, has_back, here_abc}
use Rattle.exp_laws.proofs.Lists.{write_all_wide, write_all_more, write_all_below, write_all_holds, write_range_holds, drops_none}
use Rattle.exp_laws.proofs.Leaving.{length_blanked, blanked_keeps}
use Rattle.exp_laws.proofs.Asking.{asks_alike}
use Rattle.code_of.specs.Rooms.{room_of_values, room_of_self}
use Rattle.exp_laws.proofs.Going.{Filled, GoesFilled, at_place, next_there}
use Rattle.exp_laws.proofs.NameForms.{load_right}
use Rattle.exp_laws.proofs.Steps.{to_register_step, value_rest}
use Rattle.exp_laws.proofs.Calls.{filled, left_open, Passed, values_step, open_mark, call_step, call_rest, varargs_step, self_step, self_key_step}

told_call : (reply : Reply) → told_values for_call reply ≡ told_values for_value reply
told_call (values vs) = refl
told_call (faulted words) = refl
told_call (left e) = refl

filled_below : (field t : ℕ) (ws regs : List Value) (r : ℕ) → r < t → nth (filled field t ws regs) r ≡ nth regs r
filled_below zero t ws regs r lt = write_all_below t ws regs r lt
filled_below (suc count) t ws regs r lt = write_all_below t (range 0 count ws) regs r lt

filled_more : (field t : ℕ) (ws regs : List Value) → length regs ≤ length (filled field t ws regs)
filled_more zero t ws regs = write_all_more t ws regs
filled_more (suc count) t ws regs = write_all_more t (range 0 count ws) regs

module _ (S : Setting) (pending : List Pending) where
  are_filled : (field pc t opened : ℕ) (ws regs : List Value) → (field ≡ 0 → mark S.code pc ≡ open_from t) → t ≤ length regs → Filled S field pc t ws (filled field t ws regs) (left_open field ws opened)
  are_filled zero pc t opened ws regs marked low = (marked refl, (refl, (write_all_wide t ws regs low, write_all_holds t ws regs)))
  are_filled (suc count) pc t opened ws regs marked low = write_range_holds t count ws regs

  -- values go to registers from t on
  values_goes : (field n line t pc opened : ℕ) (s : tree.State) (q : code.State) (ws env regs env1 regs1 : List Value) (c1 : Captured) (k : List Work)
      → s ≡ tree.at (give ws) (of_tree S pending env1 c1) k → talk_step S.code q ≡ talk S.code (write_values t field 0) ws (of_code S pending pc regs1 opened) c1
      → (field ≡ 0 → mark S.code (pc + 1) ≡ open_from t) → pc + 1 < length S.code.own.code → length env ≤ t → t + room_of_values field ≤ S.code.own.stack
      → After S.hidden S.code.own.stack pending env regs t env1 regs1 c1 → GoesFilled S pending n field t env regs (pc + 1) k → Agree S n s q
  values_goes field n line t pc opened s q ws env regs env1 regs1 c1 k is d marked inside le room af goes =
      let there = next_there S (pc + 1) inside in
      let more = filled_more field t ws regs1 in
      go_right S n s q (before (of_code S pending (pc + 1) (filled field t ws regs1) (left_open field ws opened)) c1)
      (d ∙ values_step S.code field t ws there.0 (of_code S pending pc regs1 opened) c1 there.1 (omega (arith, room, af.rel.room)))
      (subst (λ z. Agree S n z (before (of_code S pending (pc + 1) (filled field t ws regs1) (left_open field ws opened)) c1)) (sym is)
      (goes ws env1 (filled field t ws regs1) c1 (left_open field ws opened)
      (after_then S.hidden S.code.own.stack pending env regs env1 regs1 env1 (filled field t ws regs1) c1 c1 t t (omega arith) af
      (after_above S.hidden S.code.own.stack pending env1 regs1 (filled field t ws regs1) c1 t (omega (arith, le, af.size)) af.rel (λ r lt. filled_below field t ws regs1 r lt) (omega (arith, more, af.rel.room))))
      (are_filled field (pc + 1) t opened ws regs1 marked (omega (arith, room, af.rel.room)))))

  -- `...`
  pub varargs_goes : (field n line t pc opened : ℕ) (s : tree.State) (env regs : List Value) (c : Captured) (k : List Work) → step s ≡ goes_on (tree.at (give S.varargs) (of_tree S pending env c) k)
      → HasAt S pc (with_abc VarArg t 0 field line ∷ []) → pc + 1 < length S.code.own.code → length env ≤ t → t + room_of_values field ≤ S.code.own.stack → field < 2 ^ 8 → Rel S.hidden S.code.own.stack pending env c regs
      → GoesFilled S pending n field t env regs (pc + 1) k → Agree S n s (before (of_code S pending pc regs opened) c)
  varargs_goes field n line t pc opened s env regs c k e has inside le room fits rel goes =
      let t_fits : t < 2 ^ 8 = omega (arith, S.small) in
      go_left S n s (tree.at (give S.varargs) (of_tree S pending env c) k) _ e
      (values_goes field n line t pc opened _ _ S.varargs env regs env regs c k refl (varargs_step S.code t field (of_code S pending pc regs opened) c has.0 t_fits fits)
      (λ none. open_mark S.code VarArg t 0 pc (subst (λ z. at S.code pc ≡ Some (abc VarArg t 0 z false)) none has.0) refl t_fits (lit< tt)) inside le room (after_none S.hidden S.code.own.stack pending env regs c t rel) goes)

  -- a call of the value in register t
  pub call_goes : (field b n line t pc opened : ℕ) (f : Value) (args : List Value) (s : tree.State) (env regs : List Value) (c : Captured) (k : List Work) → step s ≡ asks (calls f args) line (of_tree S pending env c) k give
      → HasAt S pc (with_abc CallCode t b field line ∷ []) → pc + 1 < length S.code.own.code → length env ≤ t → t < S.code.own.stack → t + room_of_values field ≤ S.code.own.stack → field < 2 ^ 8 → b < 2 ^ 8 → Rel S.hidden S.code.own.stack pending env c regs
      → nth regs t ≡ f → Passed S.code b (t + 1) args (of_code S pending pc regs opened) → GoesFilled S pending n field t env regs (pc + 1) k → Agree S n s (before (of_code S pending pc regs opened) c)
  call_goes field b n line t pc opened f args s env regs c k e has inside le below room fits b_fits rel f_is passed goes =
      let t_fits : t < 2 ^ 8 = omega (arith, S.small) in
      let cut = blanked (λ i. nat_lt i t) 0 S.code.own.stack regs in
      let size = length_blanked (λ i. nat_lt i t) 0 S.code.own.stack regs in
      let af = after_above S.hidden S.code.own.stack pending env regs cut c t le rel (λ r lt. blanked_keeps (λ i. nat_lt i t) S.code.own.stack regs r (omega arith) (lt_true r t lt)) (omega (arith, size)) in
      asks_alike S pending n for_call told_call s _ (calls f args) (calls f args) line pc 0 t env cut c k give e
      (call_step S.code t b field args (of_code S pending pc regs opened) c has.0 t_fits b_fits (omega (arith, rel.room)) passed
      ∙ ap₂ (λ g ps. says_so (calls g args) S.code (record { pc = pc; registers = cut; varargs = S.varargs; pending = ps; opened = 0 }) c (λ x b d. heard for_call S.code x b d)) f_is (drops_none 0 pending (length env) t rel.ascends le))
      (λ m. (refl, refl)) refl af.rel (here_abc S CallCode t b field false line pc [] has)
      (λ ws env1 regs1 c1 af1. values_goes field n line t pc 0 _ _ ws env regs env1 regs1 c1 k refl
      (ap (λ x. talk S.code x ws (of_code S pending pc regs1 0) c1) (call_rest S.code t b field pc has.0 t_fits b_fits fits))
      (λ none. open_mark S.code CallCode t b pc (subst (λ z. at S.code pc ≡ Some (abc CallCode t b z false)) none has.0) refl t_fits b_fits) inside le room
      (after_then S.hidden S.code.own.stack pending env regs env cut env1 regs1 c c1 t t (omega arith) af af1) goes)

  -- a method of the object in register x is looked up: register t gets it, and the register after it its object
  method_goes : (y : ℕ) (flag : Bool) (n line x t pc opened : ℕ) (o key : Value) (s : tree.State) (env regs : List Value) (c : Captured) (k : List Work) (goes_so : List Value → Control)
      → step s ≡ asks (operates index (o ∷ key ∷ [])) line (of_tree S pending env c) k goes_so
      → HasAt S pc ((abc OpSelf t x y flag, line) ∷ [])
      → talk_step S.code (before (of_code S pending pc regs opened) c) ≡ says_so (operates index (o ∷ key ∷ [])) S.code (of_code S pending pc (write (t + 1) o regs) opened) c (λ x b d. heard for_value S.code x b d)
      → pc + 1 < length S.code.own.code → length env ≤ t → t + 1 < S.code.own.stack → Rel S.hidden S.code.own.stack pending env c regs
      → ((ws env1 regs1 : List Value) (c1 : Captured) → After S.hidden S.code.own.stack pending env regs t env1 regs1 c1 → nth regs1 t ≡ first ws → nth regs1 (t + 1) ≡ o
      → Agree S n (tree.at (goes_so ws) (of_tree S pending env1 c1) k) (before (of_code S pending (pc + 1) regs1 opened) c1))
      → Agree S n s (before (of_code S pending pc regs opened) c)
  method_goes y flag n line x t pc opened o key s env regs c k goes_so e has d inside le room rel next =
      let fits : t < 2 ^ 8 = omega (arith, room, S.small) in
      let there = next_there S (pc + 1) inside in
      let regs1 = write (t + 1) o regs in
      let af1 = after_put S.hidden S.code.own.stack pending env regs c (t + 1) o (omega (arith, le)) rel in
      let none : t + 1 < t + 2 = omega arith in
      asks_alike S pending n for_value (λ reply. refl) s _ (operates index (o ∷ key ∷ [])) (operates index (o ∷ key ∷ [])) line pc opened (t + 2) env regs1 c k goes_so e d
      (λ m. (refl, refl)) refl af1.rel (here_abc S OpSelf t x y flag line pc [] has)
      (λ ws env2 regs2 c2 af2. go_right S n _ _ (before (of_code S pending (pc + 1) (write t (first ws) regs2) opened) c2)
      (ap (λ x. talk S.code x ws (of_code S pending pc regs2 opened) c2) (value_rest S.code OpSelf t x y pc flag has.0 fits refl)
      ∙ to_register_step S.code t (read 0) there.0 ws (of_code S pending pc regs2 opened) c2 (omega (arith, room, af2.rel.room)) there.1)
      (next ws env2 (write t (first ws) regs2) c2
      (after_then S.hidden S.code.own.stack pending env regs env2 regs2 env2 (write t (first ws) regs2) c2 c2 t t (omega arith)
      (after_then S.hidden S.code.own.stack pending env regs env regs1 env2 regs2 c c2 t (t + 2) (omega arith) (lower S.hidden S.code.own.stack pending env regs env regs1 c (t + 1) t (omega arith) af1) af2)
      (after_put S.hidden S.code.own.stack pending env2 regs2 c2 t (first ws) (omega (arith, le, af2.size)) af2.rel))
      (nth_write_same t (first ws) regs2)
      (nth_write_other t (first ws) regs2 (t + 1) (λ same. absurd (omega (arith, same))) ∙ af2.keeps (t + 1) (omega (arith, le)) none ∙ nth_write_same (t + 1) o regs)))

  self_by : (b : Bool) (text : List ℕ) → nat_lt (number_in S.code.own.constants (StrConst text)) 256 ≡ b
      → (n line x t pc opened : ℕ) (o : Value) (s : tree.State) (env regs : List Value) (c : Captured) (k : List Work) (goes_so : List Value → Control)
      → step s ≡ asks (operates index (o ∷ known (string text) ∷ [])) line (of_tree S pending env c) k goes_so → (code : List Coded)
      → code ≡ cond b ((abc OpSelf t x (number_in S.code.own.constants (StrConst text)) true, line) ∷ []) (loads S.code.own.constants (StrConst text) (t + 2) line ++ with_abc OpSelf t x (t + 2) line ∷ [])
      → HasAt S pc code → Found S.code.own.constants (StrConst text) → pc + length code < length S.code.own.code → length env ≤ t → x ≤ t → t + cond b 2 3 ≤ S.code.own.stack
      → Rel S.hidden S.code.own.stack pending env c regs → nth regs x ≡ o
      → ((ws env1 regs1 : List Value) (c1 : Captured) → After S.hidden S.code.own.stack pending env regs t env1 regs1 c1 → nth regs1 t ≡ first ws → nth regs1 (t + 1) ≡ o
      → Agree S n (tree.at (goes_so ws) (of_tree S pending env1 c1) k) (before (of_code S pending (pc + length code) regs1 opened) c1))
      → Agree S n s (before (of_code S pending pc regs opened) c)
  self_by true text near n line x t pc opened o s env regs c k goes_so e code is has found inside le low room rel o_is next =
      let number = number_in S.code.own.constants (StrConst text) in
      let size = ap length is in
      let here = subst (HasAt S pc) is has in
      method_goes number true n line x t pc opened o (known (string text)) s env regs c k goes_so e here
      (self_key_step S.code x t number (StrConst text) (of_code S pending pc regs opened) c here.0 (omega (arith, low, room, S.small)) (omega (arith, room, S.small)) (ltb-true number 256 near) (omega (arith, low, room, rel.room)) found.there
      ∙ ap (λ y. says_so (operates index (y ∷ known (string text) ∷ [])) S.code (of_code S pending pc (write (t + 1) y regs) opened) c (λ y b d. heard for_value S.code y b d)) o_is)
      (omega (arith, inside, size)) le (omega (arith, room)) rel
      (λ ws env1 regs1 c1 af method_is self_is. at_place S pending n (pc + 1) (pc + length code) opened _ regs1 c1 (omega (arith, size)) (next ws env1 regs1 c1 af method_is self_is))
  self_by false text far n line x t pc opened o s env regs c k goes_so e code is has found inside le low room rel o_is next =
      let key = known (string text) in
      let key_code = loads S.code.own.constants (StrConst text) (t + 2) line in
      let last_code = with_abc OpSelf t x (t + 2) line ∷ [] in
      let sum = length-append key_code last_code in
      let size = ap length is in
      let here = subst (HasAt S pc) is has in
      let behind = has_back S pc key_code last_code here in
      let regs1 = write (t + 2) key regs in
      let put = after_put S.hidden S.code.own.stack pending env regs c (t + 2) key (omega (arith, le)) rel in
      load_right S pending (StrConst text) (t + 2) line n pc opened s regs c found (has_front S pc key_code last_code here) (omega (arith, inside, size, sum)) (omega (arith, room, S.small)) (omega (arith, room, rel.room))
      (method_goes (t + 2) false n line x t (pc + length key_code) opened o key s env regs1 c k goes_so e behind
      (self_step S.code x t (t + 2) (of_code S pending (pc + length key_code) regs1 opened) c behind.0 (omega (arith, low, room, S.small)) (omega (arith, room, S.small)) (omega (arith, room, S.small)) (omega (arith, low, room, put.rel.room)) (omega (arith, room, put.rel.room))
      ∙ ap₂ (λ y z. says_so (operates index (y ∷ z ∷ [])) S.code (of_code S pending (pc + length key_code) (write (t + 1) y regs1) opened) c (λ y b d. heard for_value S.code y b d))
      (nth_write_other (t + 2) key regs x (λ same. absurd (omega (arith, same, low))) ∙ o_is) (nth_write_same (t + 2) key regs))
      (omega (arith, inside, size, sum)) le (omega (arith, room)) put.rel
      (λ ws env2 regs2 c2 af method_is self_is. at_place S pending n (pc + length key_code + 1) (pc + length code) opened _ regs2 c2 (omega (arith, size, sum))
      (next ws env2 regs2 c2
      (after_then S.hidden S.code.own.stack pending env regs env regs1 env2 regs2 c c2 t t (omega arith) (lower S.hidden S.code.own.stack pending env regs env regs1 c (t + 2) t (omega arith) put) af) method_is self_is)))

  -- a method by its name
  pub self_goes : (text : List ℕ) (n line x t pc opened : ℕ) (o : Value) (s : tree.State) (env regs : List Value) (c : Captured) (k : List Work) (goes_so : List Value → Control)
      → step s ≡ asks (operates index (o ∷ known (string text) ∷ [])) line (of_tree S pending env c) k goes_so → HasAt S pc (self_code S.code.own.constants text x t line) → Found S.code.own.constants (StrConst text)
      → pc + length (self_code S.code.own.constants text x t line) < length S.code.own.code → length env ≤ t → x ≤ t → t + room_of_self S.code.own.constants text ≤ S.code.own.stack → Rel S.hidden S.code.own.stack pending env c regs → nth regs x ≡ o
      → ((ws env1 regs1 : List Value) (c1 : Captured) → After S.hidden S.code.own.stack pending env regs t env1 regs1 c1 → nth regs1 t ≡ first ws → nth regs1 (t + 1) ≡ o
      → Agree S n (tree.at (goes_so ws) (of_tree S pending env1 c1) k) (before (of_code S pending (pc + length (self_code S.code.own.constants text x t line)) regs1 opened) c1))
      → Agree S n s (before (of_code S pending pc regs opened) c)
  self_goes text n line x t pc opened o s env regs c k goes_so e has found inside le low room rel o_is next =
      self_by (nat_lt (number_in S.code.own.constants (StrConst text)) 256) text refl n line x t pc opened o s env regs c k goes_so e (self_code S.code.own.constants text x t line) refl has found inside le low room rel o_is next
