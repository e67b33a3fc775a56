-- Two operands: each is evaluated at its turn, or stands where it is.
use Rattle.std.proofs.Common.{◌≡◌, ℕ, ◌+◌, ◌<◌, ◌≤◌, pos, List, [], ◌∷◌, ◌++◌, length, Option, Some, None, refl, sym, ap, subst, ◌∙◌, arith, length-append}
use Rattle.int_core.specs.Value.{Value, known, integer, nth}
use Rattle.int_core.specs.Ask.{Captured, goes_on}
use Rattle.tree_core.specs.declared.name.Place.{Place}
use Rattle.tree_core.specs.declared.name.Place.TheVariants.{Local as LocalPlace}
use Rattle.tree_core.specs.Tree.{Exp, Var, Paren}
use Rattle.tree_activation.specs.Work.{evaluate, give, Work, Pending, first_only}
use Rattle.tree_activation.specs.Work as tree
use Rattle.tree_activation.specs.Activation.{step}
use Rattle.tree_activation.specs.Asking.{first}
use Rattle.tree_activation.specs.Expressions.{reads_variable}
use Rattle.code_core.specs.declared.proto.Const.{Const}
use Rattle.machine_core.specs.Talk as code
use Rattle.machine_core.specs.Talk.{before}
use Rattle.code_of.specs.Coded.{Coded}
use Rattle.code_of.specs.Expressions.{made_by, is_open, exp_code}
use Rattle.code_of.specs.Operands.{local_at, local_of, Second, a_number, a_local, made, first_of, operands_code, operands_room}
use Rattle.code_of.specs.Rooms.{room_of}
use Rattle.code_of.proofs.Operands.{some_is, IsNumeral, Stands, first_local, local_not_made}
use Rattle.exp_laws.specs.Setting.{Setting}
use Rattle.exp_laws.specs.Placed.{NameIsPlaced, IsPlaced}
use Rattle.exp_laws.proofs.Registers.{Rel, After, after_none, after_then}
use Rattle.exp_laws.proofs.Talking.{Agree, go_left, of_tree, of_code}
use Rattle.exp_laws.proofs.Placing.{HasAt, has_front, has_back}
use Rattle.exp_laws.proofs.Going.{Goes}

-- an operand that stays in its register is in scope

name_placed : (S : Setting) (p : Place) (text : List ℕ) (r size : ℕ) → local_at p ≡ Some r → NameIsPlaced S p text size → r < size
name_placed S (LocalPlace q) text r size e h = let same : q ≡ r = some_is q r e in omega (arith, same, h)
name_placed S _ text r size e h = absurd (cc)

pub local_placed : (S : Setting) (e : Exp) (r size j : ℕ) → local_of e ≡ Some r → IsPlaced S e size j → r < size
local_placed S (Var line name) r size j e h = name_placed S name.place name.text r size e h
local_placed S (Paren line inner) r size j e h = local_placed S inner r size j e h
local_placed S _ r size j e h = absurd (cc)

module _ (S : Setting) (pending : List Pending) where
  -- what the code of an expression does whose field C is given, and which goes on in a way that is given
  abbrev pub CodeSame : (field : ℕ) → ((n t : ℕ) → (env regs : List Value) → (pc : ℕ) → (k : List Work) → Type 0) → Exp → Type 0
  CodeSame field Way e =
      (t j n pc opened : ℕ) (env regs : List Value) (c : Captured) (k : List Work)
      → n ≤ S.bound → HasAt S pc (exp_code S.code.own.constants e t j field) → IsPlaced S e (length env) j → pc + length (exp_code S.code.own.constants e t j field) < length S.code.own.code
      → length env ≤ t → t + room_of S.code.own.constants e field ≤ S.code.own.stack → Rel S.hidden S.code.own.stack pending env c regs
      → Way n t env regs (pc + length (exp_code S.code.own.constants e t j field)) k
      → Agree S n (tree.at (evaluate e) (of_tree S pending env c) k) (before (of_code S pending pc regs opened) c)

  -- of which one value is wanted
  abbrev pub ExpSame : Exp → Type 0
  ExpSame e = CodeSame 2 (λ n t env regs pc k. Goes S pending n (is_open e) t env regs pc k) e

  -- a local is read, whatever brackets are around it
  pub local_read : (e : Exp) (r n : ℕ) (env : List Value) (c : Captured) (k : List Work) (t : code.State) → local_of e ≡ Some r
      → Agree S n (tree.at (give (nth env r ∷ [])) (of_tree S pending env c) k) t → Agree S n (tree.at (evaluate e) (of_tree S pending env c) k) t
  local_read (Var line name) r n env c k t e next = by name.place e refl
    where
      by : (p : Place) → local_at p ≡ Some r → name.place ≡ p → Agree S n (tree.at (evaluate (Var line name)) (of_tree S pending env c) k) t
      by (LocalPlace q) e is =
          go_left S n _ (tree.at (give (nth env q ∷ [])) (of_tree S pending env c) k) t (ap (λ p. reads_variable line name.text p (of_tree S pending env c) k) is)
          (subst (λ i. Agree S n (tree.at (give (nth env i ∷ [])) (of_tree S pending env c) k) t) (sym (some_is q r e)) next)
      by _ e is = absurd (cc)
  local_read (Paren line inner) r n env c k t e next =
      go_left S n _ (tree.at (evaluate inner) (of_tree S pending env c) (first_only ∷ k)) t refl
      (local_read inner r n env c (first_only ∷ k) t e (go_left S n _ (tree.at (give (nth env r ∷ [])) (of_tree S pending env c) k) t refl next))
  local_read _ r n env c k t e next = absurd (cc)

  pub numeral_read : (d : Exp) (m most n : ℕ) (f : IsNumeral d m most) (env : List Value) (c : Captured) (k : List Work) (t : code.State)
      → Agree S n (tree.at (give (known (integer (pos m)) ∷ [])) (of_tree S pending env c) k) t → Agree S n (tree.at (evaluate d) (of_tree S pending env c) k) t
  numeral_read d m most n f env c k t next =
      go_left S n _ (tree.at (give (known (integer (pos m)) ∷ [])) (of_tree S pending env c) k) t (ap (λ e. step (tree.at (evaluate e) (of_tree S pending env c) k)) f.is) next

  -- the operands e and d, of which d stands as s says; `wait` waits for the first one, and `then_wait` for the second one
  module _ (s : Second) (most : ℕ) (e d : Exp) (stands : Stands s d most) (wait : Work) (then_wait : Value → Work) (by_registers by_number : (x y : ℕ) → List Coded) (n t end : ℕ) (env regs : List Value) (k : List Work) where
    -- the first operand has a value, and the second one's turn comes
    abbrev pub Turns : Type 0
    Turns = (vs env' : List Value) (c' : Captured) → step (tree.at (give vs) (of_tree S pending env' c') (wait ∷ k)) ≡ goes_on (tree.at (evaluate d) (of_tree S pending env' c') (then_wait (first vs) ∷ k))

    -- code goes on where both operands stand in registers; the second one has the first of the values ws
    abbrev pub GoesWithRegisters : Type 0
    GoesWithRegisters =
        (x y place opened' : ℕ) (v : Value) (ws env' regs' : List Value) (c' : Captured) → After S.hidden S.code.own.stack pending env regs t env' regs' c'
        → x < S.code.own.stack → y < S.code.own.stack → nth regs' x ≡ v → nth regs' y ≡ first ws → (s ≡ made → (x ≡ t) × (y ≡ t + 1))
        → HasAt S place (by_registers x y) → place + length (by_registers x y) ≡ end
        → Agree S n (tree.at (give ws) (of_tree S pending env' c') (then_wait v ∷ k)) (before (of_code S pending place regs' opened') c')

    -- and where the second one is a numeral
    abbrev pub GoesWithNumber : Type 0
    GoesWithNumber =
        (x m place opened' : ℕ) (v : Value) (env' regs' : List Value) (c' : Captured) → After S.hidden S.code.own.stack pending env regs t env' regs' c'
        → x < S.code.own.stack → nth regs' x ≡ v → s ≡ a_number m
        → HasAt S place (by_number x m) → place + length (by_number x m) ≡ end
        → Agree S n (tree.at (give (known (integer (pos m)) ∷ [])) (of_tree S pending env' c') (then_wait v ∷ k)) (before (of_code S pending place regs' opened') c')

    abbrev first_code : (j : ℕ) → List Coded
    first_code j = exp_code S.code.own.constants e t j 2

    abbrev code_of_second : (j : ℕ) → List Coded
    code_of_second j = exp_code S.code.own.constants d (t + 1) (j + made_by e) 2

    abbrev whole_code : Second → Option ℕ → (j : ℕ) → List Coded
    whole_code s at j = operands_code s at (first_code j) (code_of_second j) t by_registers by_number

    placed_here : (e : Exp) (a b j : ℕ) → a ≡ b → IsPlaced S e b j → IsPlaced S e a j
    placed_here e a b j same h = subst (λ z. IsPlaced S e z j) (sym same) h

    -- the first operand is evaluated, or stays
    pub operands_goes : (own j pc opened : ℕ) (c : Captured) → Turns → ExpSame e → ExpSame d → 1 ≤ room_of S.code.own.constants e 2 → 1 ≤ room_of S.code.own.constants d 2 → n ≤ S.bound
        → HasAt S pc (whole_code s (first_of s e) j) → IsPlaced S e (length env) j → IsPlaced S d (length env) (j + made_by e)
        → end ≡ pc + length (whole_code s (first_of s e) j) → end < length S.code.own.code → length env ≤ t
        → t + operands_room own s (first_of s e) (room_of S.code.own.constants e 2) (room_of S.code.own.constants d 2) ≤ S.code.own.stack
        → Rel S.hidden S.code.own.stack pending env c regs → GoesWithRegisters → GoesWithNumber
        → Agree S n (tree.at (evaluate e) (of_tree S pending env c) (wait ∷ k)) (before (of_code S pending pc regs opened) c)
    operands_goes own j pc opened c turns law_e law_d some_e some_d bound has ok_e ok_d ends inside le room rel on_registers on_number =
        by s (first_of s e) refl refl has ends room
      where
        cs : List Const
        cs = S.code.own.constants

        made_only : (z : Second) → s ≡ z → (z ≡ made → ⊥) → s ≡ made → ⊥
        made_only z is other h = other (sym is ∙ h)

        by : (z : Second) (at : Option ℕ) → s ≡ z → first_of z e ≡ at → HasAt S pc (whole_code z at j) → end ≡ pc + length (whole_code z at j)
            → t + operands_room own z at (room_of cs e 2) (room_of cs d 2) ≤ S.code.own.stack
            → Agree S n (tree.at (evaluate e) (of_tree S pending env c) (wait ∷ k)) (before (of_code S pending pc regs opened) c)
        by made (Some x) is at_is has ends room = absurd (cc)
        by made None is at_is has ends room =
            let one = first_code j in
            let two = code_of_second j in
            let last = by_registers t (t + 1) in
            let whole = length-append one (two ++ last) in
            let rest = length-append two last in
            let behind = has_back S pc one (two ++ last) has in
            let some = some_e in
            law_e t j n pc opened env regs c (wait ∷ k) bound (has_front S pc one (two ++ last) has) ok_e (omega (arith, ends, inside, whole)) le (omega (arith, room)) rel
            (λ vs env1 regs1 c1 o1 af eq given. go_left S n _ (tree.at (evaluate d) (of_tree S pending env1 c1) (then_wait (first vs) ∷ k)) _ (turns vs env1 c1)
            (law_d (t + 1) (j + made_by e) n (pc + length one) o1 env1 regs1 c1 (then_wait (first vs) ∷ k) bound (has_front S (pc + length one) two last behind)
            (placed_here d _ _ _ af.size ok_d) (omega (arith, ends, inside, whole, rest)) (omega (arith, le, af.size)) (omega (arith, room)) af.rel
            (λ ws env2 regs2 c2 o2 af2 eq2 given2. on_registers t (t + 1) (pc + length one + length two) o2 (first vs) ws env2 regs2 c2
            (after_then S.hidden S.code.own.stack pending env regs env1 regs1 env2 regs2 c1 c2 t (t + 1) (omega arith) af af2) (omega (arith, room, some_d)) (omega (arith, room, some_d))
            (af2.keeps t (omega (arith, le, af.size)) (omega arith) ∙ eq) eq2 (λ _. (refl, refl)) (has_back S (pc + length one) two last behind) (omega (arith, ends, whole, rest)))))
        by (a_local r) None is at_is has ends room =
            let one = first_code j in
            let last = by_registers t r in
            let whole = length-append one last in
            let local_is = stands.local r is in
            let below = local_placed S d r (length env) (j + made_by e) local_is ok_d in
            let some = some_e in
            law_e t j n pc opened env regs c (wait ∷ k) bound (has_front S pc one last has) ok_e (omega (arith, ends, inside, whole)) le room rel
            (λ vs env1 regs1 c1 o1 af eq given. go_left S n _ (tree.at (evaluate d) (of_tree S pending env1 c1) (then_wait (first vs) ∷ k)) _ (turns vs env1 c1)
            (local_read d r n env1 c1 (then_wait (first vs) ∷ k) _ local_is
            (on_registers t r (pc + length one) o1 (first vs) (nth env1 r ∷ []) env1 regs1 c1 af (omega (arith, room, some)) (omega (arith, below, rel.fits)) eq (sym (af.rel.agree r (omega (arith, below, af.size))))
            (λ h. absurd (made_only (a_local r) is (local_not_made r) h)) (has_back S pc one last has) (omega (arith, ends, whole)))))
        by (a_local r) (Some x) is at_is has ends room =
            let first_is = first_local (a_local r) e x at_is in
            let local_is = stands.local r is in
            let x_below = local_placed S e x (length env) j first_is ok_e in
            let below = local_placed S d r (length env) (j + made_by e) local_is ok_d in
            local_read e x n env c (wait ∷ k) _ first_is
            (go_left S n _ (tree.at (evaluate d) (of_tree S pending env c) (then_wait (nth env x) ∷ k)) _ (turns (nth env x ∷ []) env c)
            (local_read d r n env c (then_wait (nth env x) ∷ k) _ local_is
            (on_registers x r pc opened (nth env x) (nth env r ∷ []) env regs c (after_none S.hidden S.code.own.stack pending env regs c t rel) (omega (arith, x_below, rel.fits)) (omega (arith, below, rel.fits))
            (sym (rel.agree x x_below)) (sym (rel.agree r below)) (λ h. absurd (made_only (a_local r) is (local_not_made r) h)) has (sym ends))))
        by (a_number m) None is at_is has ends room =
            let one = first_code j in
            let last = by_number t m in
            let whole = length-append one last in
            let some = some_e in
            law_e t j n pc opened env regs c (wait ∷ k) bound (has_front S pc one last has) ok_e (omega (arith, ends, inside, whole)) le room rel
            (λ vs env1 regs1 c1 o1 af eq given. go_left S n _ (tree.at (evaluate d) (of_tree S pending env1 c1) (then_wait (first vs) ∷ k)) _ (turns vs env1 c1)
            (numeral_read d m most n (stands.number m is) env1 c1 (then_wait (first vs) ∷ k) _
            (on_number t m (pc + length one) o1 (first vs) env1 regs1 c1 af (omega (arith, room, some)) eq is (has_back S pc one last has) (omega (arith, ends, whole)))))
        by (a_number m) (Some x) is at_is has ends room =
            let first_is = first_local (a_number m) e x at_is in
            let x_below = local_placed S e x (length env) j first_is ok_e in
            local_read e x n env c (wait ∷ k) _ first_is
            (go_left S n _ (tree.at (evaluate d) (of_tree S pending env c) (then_wait (nth env x) ∷ k)) _ (turns (nth env x ∷ []) env c)
            (numeral_read d m most n (stands.number m is) env c (then_wait (nth env x) ∷ k) _
            (on_number x m pc opened (nth env x) env regs c (after_none S.hidden S.code.own.stack pending env regs c t rel) (omega (arith, x_below, rel.fits)) (sym (rel.agree x x_below)) is has (sym ends))))
