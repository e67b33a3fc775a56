-- Items of a constructor that wait in registers. Nothing is asked while they are evaluated, so the tree may evaluate them later than the code does.
use Rattle.std.proofs.Common.{◌≡◌, ℕ, suc, ◌+◌, ◌<◌, ◌≤◌, Bool, true, false, not, cond, ℤ, Option, Some, None, List, [], ◌∷◌, ◌++◌, length, refl, sym, ap, ap₂, subst, ◌∙◌, arith, length-append}
use Rattle.int_core.specs.Value.{Value, known, nil, boolean, integer, string, shape, holds, nth, write}
use Rattle.int_core.specs.Ask.{Captured, goes_on}
use Rattle.tree_core.specs.declared.name.Place.{Place}
use Rattle.tree_core.specs.declared.name.Place.TheVariants.{Local as LocalPlace}
use Rattle.tree_core.specs.declared.operator.UnOp.TheVariants.{Not as Negation}
use Rattle.tree_core.specs.Tree.{Exp, Nil, True, False, Int, Str, Var, Unary, Paren, Fields, MoreFields, Item}
use Rattle.tree_activation.specs.Work.{evaluate, first_only, operand_of, give, Work, Pending}
use Rattle.tree_activation.specs.Work as tree
use Rattle.tree_activation.specs.Activation.{step}
use Rattle.tree_activation.specs.Expressions.{reads_variable}
use Rattle.code_core.specs.declared.opcode.Opcode.TheVariants.{LoadI, Not}
use Rattle.code_core.specs.declared.proto.Const.{Const}
use Rattle.code_core.specs.declared.proto.Const.TheVariants.{Int as IntConst, Str as StrConst}
use Rattle.machine_core.specs.Text.{constant}
use Rattle.machine_core.specs.Talk as code
use Rattle.machine_core.specs.Talk.{before}
use Rattle.list_laws.proofs.Values.{nth_write_same}
use Rattle.code_of.specs.Coded.{Coded, with_abc, with_abx}
use Rattle.code_of.specs.Constants.{is_small, small_field, loads, Found, IsLoaded}
use Rattle.code_of.specs.Expressions.{exp_code}
use Rattle.code_of.specs.Items.{is_own, waits}
use Rattle.code_of.specs.Operands.{local_at, local_of, operand_code}
use Rattle.code_of.specs.Operators.{name_code}
use Rattle.code_of.proofs.Operands.{some_is}
use Rattle.exp_laws.specs.Setting.{Setting}
use Rattle.exp_laws.specs.Placed.{IsPlaced, NameIsPlaced}
use Rattle.exp_laws.proofs.Registers.{Rel, After, after_none, after_then, after_put}
use Rattle.exp_laws.proofs.Talking.{Agree, go_left, go_right, of_tree, of_code}
use Rattle.exp_laws.proofs.Placing.{HasAt, has_front, has_back}
use Rattle.exp_laws.proofs.Steps.{true_step, false_step, not_step, move_step}
use Rattle.exp_laws.proofs.Loads.{nil_step, integer_step}
use Rattle.exp_laws.proofs.Lists.{Holds, held_one}
use Rattle.exp_laws.proofs.ListForms.{held_both}
use Rattle.exp_laws.proofs.Going.{next_there, at_place}
use Rattle.exp_laws.proofs.NameForms.{load_right}
use Rattle.exp_laws.proofs.Operands.{local_placed}
use Rattle.exp_laws.proofs.Still.{Still}

-- what such an item is worth, where the locals have these values

abbrev pub worth_at : Place → List Value → Value
worth_at (LocalPlace r) env = nth env r
worth_at _ env = known nil

abbrev pub worth : Exp → List Value → Value
worth (True line) env = known (boolean true)
worth (False line) env = known (boolean false)
worth (Int line z) env = known (integer z)
worth (Str line bytes) env = known (string bytes)
worth (Var line name) env = worth_at name.place env
worth (Unary line op e) env = known (boolean (not (holds (shape (worth e env)))))
worth (Paren line e) env = worth e env
worth _ env = known nil

place_still : (place : Place) (env env' : List Value) → Still env env' → worth_at place env' ≡ worth_at place env
place_still (LocalPlace r) env env' st = st r
place_still _ env env' st = refl

worth_still : (e : Exp) (env env' : List Value) → Still env env' → worth e env' ≡ worth e env
worth_still (Var line name) env env' st = place_still name.place env env' st
worth_still (Unary line op e) env env' st = ap (λ v. known (boolean (not (holds (shape v))))) (worth_still e env env' st)
worth_still (Paren line e) env env' st = worth_still e env env' st
worth_still _ env env' st = refl

worth_place : (place : Place) (r : ℕ) (env : List Value) → local_at place ≡ Some r → worth_at place env ≡ nth env r
worth_place (LocalPlace q) r env is = ap (nth env) (some_is q r is)
worth_place _ r env is = absurd (cc)

worth_local : (e : Exp) (r : ℕ) (env : List Value) → local_of e ≡ Some r → worth e env ≡ nth env r
worth_local (Var line name) r env is = worth_place name.place r env is
worth_local (Paren line e) r env is = worth_local e r env is
worth_local _ r env is = absurd (cc)

-- such items in front of other fields, and what they are worth

abbrev pub ahead : List Exp → Fields → Fields
ahead [] fs = fs
ahead (e ∷ es) fs = MoreFields (Item e) (ahead es fs)

pub ahead_more : (es : List Exp) (e : Exp) (fs : Fields) → ahead (es ++ e ∷ []) fs ≡ ahead es (MoreFields (Item e) fs)
ahead_more [] e fs = refl
ahead_more (d ∷ es) e fs = ap (MoreFields (Item d)) (ahead_more es e fs)

abbrev pub AllWait : List Exp → Type 0
AllWait [] = Unit {0}
AllWait (e ∷ es) = (waits e ≡ true) × AllWait es

pub wait_more : (es : List Exp) (e : Exp) → AllWait es → waits e ≡ true → AllWait (es ++ e ∷ [])
wait_more [] e ws w = (w, tt)
wait_more (d ∷ es) e ws w = (ws.0, wait_more es e ws.1 w)

abbrev pub worths : List Exp → List Value → List Value
worths [] env = []
worths (e ∷ es) env = worth e env ∷ worths es env

pub worths_still : (es : List Exp) (env env' : List Value) → Still env env' → worths es env' ≡ worths es env
worths_still [] env env' st = refl
worths_still (e ∷ es) env env' st = ap₂ (λ v vs. v ∷ vs) (worth_still e env env' st) (worths_still es env env' st)

worths_size : (es : List Exp) (env : List Value) → length (worths es env) ≡ length es
worths_size [] env = refl
worths_size (e ∷ es) env = ap suc (worths_size es env)

worths_more : (es : List Exp) (e : Exp) (env : List Value) → worths (es ++ e ∷ []) env ≡ worths es env ++ worth e env ∷ []
worths_more [] e env = refl
worths_more (d ∷ es) e env = ap (λ vs. worth d env ∷ vs) (worths_more es e env)

-- one more of them has its register
pub worths_held : (t waiting : ℕ) (es : List Exp) (e : Exp) (env regs : List Value) → waiting ≡ length es → Holds t waiting (worths es env) regs → nth regs (t + waiting) ≡ worth e env → Holds t (waiting + 1) (worths (es ++ e ∷ []) env) regs
worths_held t waiting es e env regs count held eq =
    subst (λ vs. Holds t (waiting + 1) vs regs) (sym (worths_more es e env))
    (held_both t waiting 1 (worths es env) (worth e env ∷ []) regs (worths_size es env ∙ sym count) held (held_one (t + waiting) (worth e env) regs eq))

module _ (S : Setting) (pending : List Pending) where
  -- the tree comes to the value without an ask

  name_evaluated : (place : Place) (text : List ℕ) (line n : ℕ) (s : tree.State) (env : List Value) (c : Captured) (k : List Work) (t : code.State) → is_own place ≡ true → step s ≡ reads_variable line text place (of_tree S pending env c) k
      → Agree S n (tree.at (give (worth_at place env ∷ [])) (of_tree S pending env c) k) t → Agree S n s t
  name_evaluated (LocalPlace r) text line n s env c k t w e h = go_left S n s (tree.at (give (nth env r ∷ [])) (of_tree S pending env c) k) t e h
  name_evaluated _ text line n s env c k t w e h = absurd (cc)

  pub evaluated : (e : Exp) → waits e ≡ true → (n : ℕ) (env : List Value) (c : Captured) (k : List Work) (t : code.State)
      → Agree S n (tree.at (give (worth e env ∷ [])) (of_tree S pending env c) k) t → Agree S n (tree.at (evaluate e) (of_tree S pending env c) k) t
  evaluated (Nil line) w n env c k t h = go_left S n _ (tree.at (give (known nil ∷ [])) (of_tree S pending env c) k) t refl h
  evaluated (True line) w n env c k t h = go_left S n _ (tree.at (give (known (boolean true) ∷ [])) (of_tree S pending env c) k) t refl h
  evaluated (False line) w n env c k t h = go_left S n _ (tree.at (give (known (boolean false) ∷ [])) (of_tree S pending env c) k) t refl h
  evaluated (Int line z) w n env c k t h = go_left S n _ (tree.at (give (known (integer z) ∷ [])) (of_tree S pending env c) k) t refl h
  evaluated (Str line bytes) w n env c k t h = go_left S n _ (tree.at (give (known (string bytes) ∷ [])) (of_tree S pending env c) k) t refl h
  evaluated (Var line name) w n env c k t h = name_evaluated name.place name.text line n _ env c k t w refl h
  evaluated (Unary line Negation e) w n env c k t h =
      go_left S n _ (tree.at (evaluate e) (of_tree S pending env c) (operand_of line Negation ∷ k)) t refl
      (evaluated e w n env c (operand_of line Negation ∷ k) t
      (go_left S n _ (tree.at (give (known (boolean (not (holds (shape (worth e env))))) ∷ [])) (of_tree S pending env c) k) t refl h))
  evaluated (Paren line e) w n env c k t h =
      go_left S n _ (tree.at (evaluate e) (of_tree S pending env c) (first_only ∷ k)) t refl
      (evaluated e w n env c (first_only ∷ k) t (go_left S n _ (tree.at (give (worth e env ∷ [])) (of_tree S pending env c) k) t refl h))
  evaluated _ w n env c k t h = absurd (cc)

  -- the code comes to it in register t, wherever the tree is

  abbrev pub GoesHeld : (n t : ℕ) → tree.State → Value → (env regs : List Value) → Captured → (pc opened : ℕ) → Type 0
  GoesHeld n t s v env regs c pc opened = (regs' : List Value) → After S.hidden S.code.own.stack pending env regs t env regs' c → nth regs' t ≡ v → Agree S n s (before (of_code S pending pc regs' opened) c)

  put_held : (n t pc opened : ℕ) (s : tree.State) (v : Value) (env regs : List Value) (c : Captured) → length env ≤ t → Rel S.hidden S.code.own.stack pending env c regs → GoesHeld n t s v env regs c pc opened
      → Agree S n s (before (of_code S pending pc (write t v regs) opened) c)
  put_held n t pc opened s v env regs c le rel goes = goes (write t v regs) (after_put S.hidden S.code.own.stack pending env regs c t v le rel) (nth_write_same t v regs)

  held_at : (n t pc pc' opened : ℕ) (s : tree.State) (v : Value) (env regs : List Value) (c : Captured) → pc ≡ pc' → GoesHeld n t s v env regs c pc' opened → GoesHeld n t s v env regs c pc opened
  held_at n t pc pc' opened s v env regs c e goes = λ regs' af eq. at_place S pending n pc pc' opened s regs' c e (goes regs' af eq)

  held_after : (n t pc opened : ℕ) (s : tree.State) (v : Value) (env regs regs1 : List Value) (c : Captured) → After S.hidden S.code.own.stack pending env regs t env regs1 c → GoesHeld n t s v env regs c pc opened → GoesHeld n t s v env regs1 c pc opened
  held_after n t pc opened s v env regs regs1 c af goes = λ regs' af1 eq. goes regs' (after_then S.hidden S.code.own.stack pending env regs env regs1 env regs' c c t t (omega arith) af af1) eq

  load_held : (x : Const) (n t line pc opened : ℕ) (s : tree.State) (env regs : List Value) (c : Captured)
      → Found S.code.own.constants x → HasAt S pc (loads S.code.own.constants x t line) → pc + length (loads S.code.own.constants x t line) < length S.code.own.code → length env ≤ t → t < S.code.own.stack
      → Rel S.hidden S.code.own.stack pending env c regs → GoesHeld n t s (known (constant x)) env regs c (pc + length (loads S.code.own.constants x t line)) opened → Agree S n s (before (of_code S pending pc regs opened) c)
  load_held x n t line pc opened s env regs c found has inside le room rel goes =
      load_right S pending x t line n pc opened s regs c found has inside (omega (arith, room, S.small)) (omega (arith, room, rel.room))
      (put_held n t (pc + length (loads S.code.own.constants x t line)) opened s (known (constant x)) env regs c le rel goes)

  integer_held : (z : ℤ) (b : Bool) (n t line pc opened : ℕ) (s : tree.State) (env regs : List Value) (c : Captured)
      → is_small z ≡ b → IsLoaded S.code.own.constants z → (code : List Coded) → code ≡ cond b (with_abx LoadI t (small_field z) line ∷ []) (loads S.code.own.constants (IntConst z) t line)
      → HasAt S pc code → pc + length code < length S.code.own.code → length env ≤ t → t < S.code.own.stack → Rel S.hidden S.code.own.stack pending env c regs
      → GoesHeld n t s (known (integer z)) env regs c (pc + length code) opened → Agree S n s (before (of_code S pending pc regs opened) c)
  integer_held z true n t line pc opened s env regs c small_is ok code is has inside le room rel goes =
      let size = ap length is in
      let here = subst (HasAt S pc) is has in
      let there = next_there S (pc + 1) (omega (arith, size, inside)) in
      go_right S n _ _ (before (of_code S pending (pc + 1) (write t (known (integer z)) regs) opened) c)
      (integer_step S.code (of_code S pending pc regs opened) c there.0 there.1 t z here.0 small_is (omega (arith, room, S.small)) (omega (arith, room, rel.room)))
      (put_held n t (pc + 1) opened s (known (integer z)) env regs c le rel (held_at n t (pc + 1) (pc + length code) opened s (known (integer z)) env regs c (omega (arith, size)) goes))
  integer_held z false n t line pc opened s env regs c small_is ok code is has inside le room rel goes =
      let size = ap length is in
      load_held (IntConst z) n t line pc opened s env regs c (ok small_is) (subst (HasAt S pc) is has) (omega (arith, size, inside)) le room rel
      (held_at n t (pc + length (loads S.code.own.constants (IntConst z) t line)) (pc + length code) opened s (known (integer z)) env regs c (omega (arith, size)) goes)

  name_held : (place : Place) (text : List ℕ) (n t line pc opened : ℕ) (s : tree.State) (env regs : List Value) (c : Captured)
      → is_own place ≡ true → HasAt S pc (name_code S.code.own.constants place text t line) → NameIsPlaced S place text (length env) → pc + length (name_code S.code.own.constants place text t line) < length S.code.own.code
      → length env ≤ t → t < S.code.own.stack → Rel S.hidden S.code.own.stack pending env c regs → GoesHeld n t s (worth_at place env) env regs c (pc + length (name_code S.code.own.constants place text t line)) opened
      → Agree S n s (before (of_code S pending pc regs opened) c)
  name_held (LocalPlace m) text n t line pc opened s env regs c w has ok inside le room rel goes =
      let there = next_there S (pc + 1) inside in
      go_right S n _ _ (before (of_code S pending (pc + 1) (write t (nth env m) regs) opened) c)
      (move_step S.code (of_code S pending pc regs opened) c there.0 there.1 t m has.0 (omega (arith, room, S.small)) (omega (arith, ok, le, room, S.small)) (omega (arith, ok, rel.fits, rel.room)) (omega (arith, room, rel.room))
      ∙ ap (λ v. goes_on (before (of_code S pending (pc + 1) (write t v regs) opened) c)) (sym (rel.agree m ok)))
      (put_held n t (pc + 1) opened s (nth env m) env regs c le rel goes)
  name_held _ text n t line pc opened s env regs c w has ok inside le room rel goes = absurd (cc)

  abbrev pub HeldSame : Exp → Type 0
  HeldSame e =
      (t j n pc opened : ℕ) (s : tree.State) (env regs : List Value) (c : Captured)
      → HasAt S pc (exp_code S.code.own.constants e t j 2) → IsPlaced S e (length env) j → pc + length (exp_code S.code.own.constants e t j 2) < length S.code.own.code
      → length env ≤ t → t < S.code.own.stack → Rel S.hidden S.code.own.stack pending env c regs
      → GoesHeld n t s (worth e env) env regs c (pc + length (exp_code S.code.own.constants e t j 2)) opened
      → Agree S n s (before (of_code S pending pc regs opened) c)

  not_held : (line : ℕ) (e : Exp) → HeldSame e → HeldSame (Unary line Negation e)
  not_held line e law t j n pc opened s env regs c has ok inside le room rel goes = by (local_of e) refl has inside goes
    where
      code : List Coded
      code = exp_code S.code.own.constants e t j 2

      last : ℕ → List Coded
      last x = with_abc Not t x 0 line ∷ []

      negates : (x place : ℕ) (regs1 : List Value) → After S.hidden S.code.own.stack pending env regs t env regs1 c → x < S.code.own.stack → nth regs1 x ≡ worth e env → HasAt S place (last x) → place + 1 < length S.code.own.code
          → GoesHeld n t s (worth (Unary line Negation e) env) env regs c (place + 1) opened → Agree S n s (before (of_code S pending place regs1 opened) c)
      negates x place regs1 af x_room x_is here inside goes =
          let there = next_there S (place + 1) inside in
          let w = known (boolean (not (holds (shape (worth e env))))) in
          go_right S n _ _ (before (of_code S pending (place + 1) (write t w regs1) opened) c)
          (not_step S.code (of_code S pending place regs1 opened) c there.0 there.1 t x here.0 (omega (arith, room, S.small)) (omega (arith, x_room, S.small)) (omega (arith, x_room, af.rel.room)) (omega (arith, room, af.rel.room))
          ∙ ap (λ y. goes_on (before (of_code S pending (place + 1) (write t (known (boolean (not (holds (shape y))))) regs1) opened) c)) x_is)
          (put_held n t (place + 1) opened s w env regs1 c le af.rel (held_after n t (place + 1) opened s w env regs regs1 c af goes))

      by : (at : Option ℕ) → local_of e ≡ at → HasAt S pc (operand_code at code t last) → pc + length (operand_code at code t last) < length S.code.own.code
          → GoesHeld n t s (worth (Unary line Negation e) env) env regs c (pc + length (operand_code at code t last)) opened → Agree S n s (before (of_code S pending pc regs opened) c)
      by (Some x) is has inside goes =
          let below = local_placed S e x (length env) j is ok in
          negates x pc regs (after_none S.hidden S.code.own.stack pending env regs c t rel) (omega (arith, below, rel.fits)) (sym (rel.agree x below) ∙ sym (worth_local e x env is)) has inside goes
      by None is has inside goes =
          let sum = length-append code (last t) in
          law t j n pc opened s env regs c (has_front S pc code (last t) has) ok (omega (arith, inside, sum)) le room rel
          (λ regs1 af eq. negates t (pc + length code) regs1 af room eq (has_back S pc code (last t) has) (omega (arith, inside, sum))
          (held_at n t (pc + length code + 1) (pc + length (code ++ last t)) opened s (worth (Unary line Negation e) env) env regs c (omega (arith, sum)) goes))

  pub held_same : (e : Exp) → waits e ≡ true → HeldSame e
  held_same (Nil line) w t j n pc opened s env regs c has ok inside le room rel goes =
      let there = next_there S (pc + 1) inside in
      go_right S n _ _ _ (nil_step S.code (of_code S pending pc regs opened) c there.0 there.1 t has.0 (omega (arith, room, S.small)) (omega (arith, room, rel.room))) (put_held n t (pc + 1) opened s (known nil) env regs c le rel goes)
  held_same (True line) w t j n pc opened s env regs c has ok inside le room rel goes =
      let there = next_there S (pc + 1) inside in
      go_right S n _ _ _ (true_step S.code (of_code S pending pc regs opened) c there.0 there.1 t has.0 (omega (arith, room, S.small)) (omega (arith, room, rel.room))) (put_held n t (pc + 1) opened s (known (boolean true)) env regs c le rel goes)
  held_same (False line) w t j n pc opened s env regs c has ok inside le room rel goes =
      let there = next_there S (pc + 1) inside in
      go_right S n _ _ _ (false_step S.code (of_code S pending pc regs opened) c there.0 there.1 t has.0 (omega (arith, room, S.small)) (omega (arith, room, rel.room))) (put_held n t (pc + 1) opened s (known (boolean false)) env regs c le rel goes)
  held_same (Int line z) w t j n pc opened s env regs c has ok inside le room rel goes = integer_held z (is_small z) n t line pc opened s env regs c refl ok _ refl has inside le room rel goes
  held_same (Str line bytes) w t j n pc opened s env regs c has ok inside le room rel goes = load_held (StrConst bytes) n t line pc opened s env regs c ok has inside le room rel goes
  held_same (Var line name) w t j n pc opened s env regs c has ok inside le room rel goes = name_held name.place name.text n t line pc opened s env regs c w has ok inside le room rel goes
  held_same (Paren line e) w t j n pc opened s env regs c has ok inside le room rel goes = held_same e w t j n pc opened s env regs c has ok inside le room rel goes
  held_same (Unary line Negation e) w t j n pc opened s env regs c has ok inside le room rel goes = not_held line e (held_same e w) t j n pc opened s env regs c has ok inside le room rel goes
  held_same _ w t j n pc opened s env regs c has ok inside le room rel goes = absurd (cc)
