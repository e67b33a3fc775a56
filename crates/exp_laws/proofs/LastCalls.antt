-- A call in its function's place: both sides ask for it, and hear no more but of a fault.
use Rattle.std.proofs.Common.{nat_lt, ◌≡◌, ℕ, zero, suc, ◌+◌, ◌<◌, ◌≤◌, ◌^◌, List, [], ◌∷◌, ◌++◌, length, true, None, refl, sym, ap, ◌∙◌, arith, length-append}
use Rattle.int_core.specs.Value.{Value, nth}
use Rattle.int_core.specs.Ask.{calls_last, Reply, values, faulted, left, Captured, brought, IsFaulted}
use Rattle.tree_core.specs.Tree.{Exp, Exps, EndExps}
use Rattle.tree_activation.specs.Work.{for_call, evaluate, collect, callee_of, method_of, over, Work, Pending}
use Rattle.tree_activation.specs.Work as tree
use Rattle.tree_activation.specs.Activation.{step}
use Rattle.tree_activation.specs.Asking.{first, asks}
use Rattle.tree_activation.specs.Asking as trees
use Rattle.code_core.specs.declared.opcode.Opcode.TheVariants.{TailCall}
use Rattle.code_core.specs.declared.proto.Const.TheVariants.{Str as StrConst}
use Rattle.machine_core.specs.Text.{trap}
use Rattle.machine_core.specs.Talk.{before, amid, marked}
use Rattle.code_of.specs.Coded.{Coded, leaving_by}
use Rattle.code_of.specs.Constants.{Found}
use Rattle.code_of.specs.Operands.{local_of, operand_code}
use Rattle.code_of.specs.Operators.{self_code}
use Rattle.code_of.specs.Expressions.{made_by, count, ends_open, list_field, exp_code, exps_code}
use Rattle.exp_laws.proofs.Registers.{Rel, told, share_same, after_share}
use Rattle.exp_laws.specs.Setting.{Setting}
use Rattle.exp_laws.proofs.Talking.{Agree, go_left, both_ask, of_tree, of_code}
use Rattle.exp_laws.proofs.Placing.{HasAt, has_front, has_back, here_abc}
use Rattle.exp_laws.proofs.Leaving.{faults_alike}
use Rattle.exp_laws.specs.Placed.{IsPlaced, ArePlaced}
use Rattle.code_of.specs.Rooms.{room_of, room_of_list, room_of_self}
use Rattle.code_of.proofs.Rooms.{self_room}
use Rattle.exp_laws.proofs.Calls.{Passed, tail_step}
use Rattle.exp_laws.proofs.CallForms.{self_goes}
use Rattle.exp_laws.proofs.ListForms.{Listed}
use Rattle.exp_laws.proofs.Standing.{operand_goes}
use Rattle.exp_laws.proofs.Rooms.{room_some}
use Rattle.exp_laws.proofs.Lists.{held_one}
use Rattle.exp_laws.proofs.Exps.{args_ready, held_two, placed_all, exp_same, exps_same}

module _ (S : Setting) (pending : List Pending) where
  tail_goes : (b back n line t pc opened : ℕ) (f : Value) (args : List Value) (s : tree.State) (env regs : List Value) (c : Captured) → step s ≡ asks (calls_last f args) line (of_tree S pending env c) [] (λ _. over)
      → HasAt S pc (leaving_by TailCall t b back line ∷ []) → t < S.code.own.stack → b < 2 ^ 8 → Rel S.hidden S.code.own.stack pending env c regs → nth regs t ≡ f → Passed S.code b (t + 1) args (of_code S pending pc regs opened)
      → Agree S n s (before (of_code S pending pc regs opened) c)
  tail_goes b back zero line t pc opened f args s env regs c e has room b_fits rel f_is passed = tt
  tail_goes b back (suc n) line t pc opened f args s env regs c e has room b_fits rel f_is passed =
      let here = here_abc S TailCall t b back (nat_lt 0 t) line pc [] has in
      both_ask S n s _ (calls_last f args) (calls_last (nth regs t) args) line _ _ _ _ _ e
      (tail_step S.code t b back args (of_code S pending pc regs opened) c has.0 (omega (arith, room, S.small)) b_fits (omega (arith, room, rel.room)) passed) (sym f_is, refl) refl here.lined
      (share_same S.hidden S.code.own.stack pending env c regs rel) (λ x fits. by x.shared x.reply fits.reply)
    where
      by : (shared : List Value) (reply : Reply) → IsFaulted reply
          → Agree S n (trees.heard reply line (of_tree S pending (brought c.held shared env) (told c)) [] (λ _. over)) (amid (marked trap S.code pc reply) [] (of_code S pending pc (brought c.held shared regs) opened) (told c))
      by shared (faulted words) is =
          faults_alike S n pending line pc opened (brought c.held shared env) (brought c.held shared regs) (told c) words _ _ (after_share S.hidden S.code.own.stack pending env regs shared c t rel).rel
          (here_abc S TailCall t b back (nat_lt 0 t) line pc [] has) refl refl
      by shared (values vs) is = absurd is
      by shared (left v) is = absurd is

  -- the arguments are there
  called_last : (es : Exps) (more back : ℕ) (args : List Value) (n line t pc opened : ℕ) (env regs : List Value) (c : Captured) (k : List Work) → HasAt S pc (leaving_by TailCall t (list_field more es) back line ∷ [])
      → t + (more + 1) ≤ S.code.own.stack → t + room_of_list S.code.own.constants (more + 1) es None ≤ S.code.own.stack → Rel S.hidden S.code.own.stack pending env c regs
      → Listed S pending None (ends_open es) (more + 1 + count es) pc t args regs opened
      → Agree S n (tree.at (collect (for_call line true) args EndExps) (of_tree S pending env c) k) (before (of_code S pending pc regs opened) c)
  called_last es more back args n line t pc opened env regs c k has below room rel l =
      args_ready S pending es more args t pc opened env regs c below room rel l
      (λ f rest is f_is passes small. tail_goes (list_field more es) back n line t pc opened f rest _ env regs c (ap (λ vs. step (tree.at (collect (for_call line true) vs EndExps) (of_tree S pending env c) k)) is) has (omega (arith, below)) small rel f_is passes)

  -- a call of an expression's value
  pub call_last_same : (f : Exp) (es : Exps) (line back t j n pc opened : ℕ) (env regs : List Value) (c : Captured) (k : List Work) → n ≤ S.bound
      → HasAt S pc (exp_code S.code.own.constants f t j 2 ++ (exps_code S.code.own.constants es None (t + 1) (j + made_by f) line ++ leaving_by TailCall t (list_field 0 es) back line ∷ []))
      → IsPlaced S f (length env) j → ArePlaced S es (length env) (j + made_by f)
      → pc + length (exp_code S.code.own.constants f t j 2 ++ (exps_code S.code.own.constants es None (t + 1) (j + made_by f) line ++ leaving_by TailCall t (list_field 0 es) back line ∷ [])) < length S.code.own.code
      → length env ≤ t → t + room_of S.code.own.constants f 2 ≤ S.code.own.stack → t + room_of_list S.code.own.constants 1 es None ≤ S.code.own.stack → Rel S.hidden S.code.own.stack pending env c regs
      → Agree S n (tree.at (evaluate f) (of_tree S pending env c) (callee_of line true es ∷ k)) (before (of_code S pending pc regs opened) c)
  call_last_same f es line back t j n pc opened env regs c k bound has f_ok es_ok inside le f_room es_room rel =
      let first_code = exp_code S.code.own.constants f t j 2 in
      let args_code = exps_code S.code.own.constants es None (t + 1) (j + made_by f) line in
      let last_code = leaving_by TailCall t (list_field 0 es) back line ∷ [] in
      let behind = has_back S pc first_code (args_code ++ last_code) has in
      let whole = length-append first_code (args_code ++ last_code) in let rest = length-append args_code last_code in let some = room_some S.code.own.constants f in
      exp_same S pending f t j n pc opened env regs c (callee_of line true es ∷ k) bound (has_front S pc first_code (args_code ++ last_code) has) f_ok (omega (arith, inside, whole)) le f_room rel
      (λ vs env1 regs1 c1 o1 af eq one. go_left S n _ (tree.at (collect (for_call line true) (first vs ∷ []) es) (of_tree S pending env1 c1) k) _ refl
      (exps_same S pending es (for_call line true) None t 1 (j + made_by f) line n (pc + length first_code) o1 (first vs ∷ []) env1 regs1 c1 k bound tt (has_front S (pc + length first_code) args_code last_code behind) tt (placed_all S pending es _ _ _ af.size es_ok)
      (omega (arith, inside, whole, rest)) refl (held_one t (first vs) regs1 eq) (omega (arith, le, af.size)) (omega (arith, f_room, some)) es_room af.rel
      (λ args env2 regs2 c2 o2 af2 l. called_last es 0 back args n line t (pc + length first_code + length args_code) o2 env2 regs2 c2 k (has_back S (pc + length first_code) args_code last_code behind) (omega (arith, f_room, some)) es_room af2.rel l)))

  -- a call of a method, without the RETURN behind it

  abbrev pub asked_code : (object : Exp) → (name : List ℕ) → (es : Exps) → (line back t j : ℕ) → List Coded
  asked_code object name es line back t j =
      operand_code (local_of object) (exp_code S.code.own.constants object t j 2) t
      (λ x. self_code S.code.own.constants name x t line ++ (exps_code S.code.own.constants es None (t + 2) (j + made_by object) line ++ leaving_by TailCall t (list_field 1 es) back line ∷ []))

  pub method_last_same : (object : Exp) (name : List ℕ) (es : Exps) (line back t j n pc opened : ℕ) (env regs : List Value) (c : Captured) (k : List Work) → n ≤ S.bound
      → HasAt S pc (asked_code object name es line back t j) → IsPlaced S object (length env) j → Found S.code.own.constants (StrConst name) → ArePlaced S es (length env) (j + made_by object)
      → pc + length (asked_code object name es line back t j) < length S.code.own.code
      → length env ≤ t → t + room_of S.code.own.constants object 2 ≤ S.code.own.stack → t + room_of_self S.code.own.constants name ≤ S.code.own.stack → t + room_of_list S.code.own.constants 2 es None ≤ S.code.own.stack → Rel S.hidden S.code.own.stack pending env c regs
      → Agree S n (tree.at (evaluate object) (of_tree S pending env c) (method_of line true name es ∷ k)) (before (of_code S pending pc regs opened) c)
  method_last_same object name es line back t j n pc opened env regs c k bound has o_ok found es_ok inside le o_room room es_room rel =
      let args_code = exps_code S.code.own.constants es None (t + 2) (j + made_by object) line in
      let last_code = leaving_by TailCall t (list_field 1 es) back line ∷ [] in
      let end = pc + length (asked_code object name es line back t j) in
      let rest = length-append args_code last_code in
      let two = (self_room S.code.own.constants name).0 in
      operand_goes S pending object (λ x. self_code S.code.own.constants name x t line ++ (args_code ++ last_code)) n t end env regs (method_of line true name es ∷ k) j pc opened c
      (exp_same S pending object) (room_some S.code.own.constants object) bound has o_ok refl inside le (λ _. o_room) rel
      (λ x place o1 vs env1 regs1 c1 af low x_room x_is here ends. let name_code = self_code S.code.own.constants name x t line in
      let beyond = has_back S place name_code (args_code ++ last_code) here in
      let middle = length-append name_code (args_code ++ last_code) in
      let q = place + length name_code in
      self_goes S pending name n line x t place o1 (first vs) _ env1 regs1 c1 k (λ ws. collect (for_call line true) (first ws ∷ first vs ∷ []) es) refl
      (has_front S place name_code (args_code ++ last_code) here) found (omega (arith, inside, ends, middle, rest)) (omega (arith, le, af.size)) low room af.rel x_is
      (λ ws env2 regs2 c2 af2 method_is self_is. exps_same S pending es (for_call line true) None t 2 (j + made_by object) line n q o1 (first ws ∷ first vs ∷ []) env2 regs2 c2 k bound tt (has_front S q args_code last_code beyond) tt
      (placed_all S pending es _ _ _ (af2.size ∙ af.size) es_ok) (omega (arith, inside, ends, middle, rest)) refl (held_two S pending t (first ws) (first vs) regs2 method_is self_is) (omega (arith, le, af.size, af2.size)) (omega (arith, room, two)) es_room af2.rel
      (λ args env3 regs3 c3 o3 af3 l. called_last es 1 back args n line t (q + length args_code) o3 env3 regs3 c3 k (has_back S q args_code last_code beyond) (omega (arith, room, two)) es_room af3.rel l)))
