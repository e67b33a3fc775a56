-- Operands that are read one after another.
use Rattle.std.proofs.Common.{◌≡◌, List, [], ◌∷◌, ◌++◌, length, ap, ap₂, ◌∙◌, append_assoc, Bool, true, false}
use Rattle.std.specs.Prelude.{map}
use Rattle.int_core.specs.Value.{Value}
use Rattle.machine_core.specs.Text.{Arg, arg, args_of, Text}
use Rattle.machine_core.specs.InstructionRows.{swapped as in_order}
use Rattle.machine_core.specs.FrameRows.{expand}
use Rattle.machine_sound.specs.Sound.{Each, sizes, Valid}
use Rattle.machine_sound.proofs.Lists.{each_none, each_cons}
use Rattle.table_core.specs.declared.value.Value.{Value as Kept}
use Rattle.lua_heap.specs.declared.world.World.{World as Memory}
use Rattle.lua_heap.specs.Plain.{plain}
use Rattle.lua_heap.specs.Reading.{value}
use Rattle.instruction_forms.specs.declared.operand.Operand.{Operand}
use Rattle.instruction_forms.specs.declared.operand.Operands.TheVariants.{One as OneOperand, Twice, Two as TwoOperands, Three as ThreeOperands}
use Rattle.instruction_forms.specs.Forms.{with_operand}
use Rattle.move_laws.specs.Memory.{IsSafe}
use Rattle.machine_rows.specs.Rows.{IsRead, Reads}
use Rattle.machine_rows.proofs.Going.{safe_as}
use Rattle.machine_operations.specs.declared.operands.Values.TheVariants.{One, Two, Three}
use Rattle.machine_operations.specs.Operands.{AreRead, ReadsAll, list_of, ordered}

-- what a row goes on with behind the first operand

abbrev pub behind_first : Operand → Bool → (List Arg → Text) → Arg → Text
behind_first y swap more v = with_operand y (λ w. more (in_order swap v w))

abbrev pub behind_object : Operand → Operand → (List Arg → Text) → Arg → Text
behind_object y z more v = with_operand y (λ w. with_operand z (λ u. more (v ∷ w ∷ u ∷ [])))

pub one_is_read : {W : Memory} {x : Operand} → AreRead W (OneOperand x) → IsRead W x
one_is_read h = record { more = λ v. h.more (v ∷ []); env = []; safe = h.safe }

pub twice_is_read : {W : Memory} {x : Operand} → AreRead W (Twice x) → IsRead W x
twice_is_read h = record { more = λ v. h.more (v ∷ v ∷ []); env = []; safe = h.safe }

pub first_is_read : {W : Memory} {x y : Operand} {swap : Bool} → AreRead W (TwoOperands x y swap) → IsRead W x
first_is_read {y = y} {swap = swap} h = record { more = behind_first y swap h.more; env = []; safe = h.safe }

pub second_is_read : {W : Memory} {x y : Operand} {swap : Bool} {v : Kept} → AreRead W (TwoOperands x y swap) → Reads W x v → IsRead W y
second_is_read {W} {x} {y} {swap} h r = record {
  more = λ w. h.more (in_order swap (r.named 0) w);
  env = r.values;
  safe = safe_as {r = expand (with_operand x (behind_first y swap h.more))} {q = expand (behind_first y swap h.more (r.named 0))} {more = r.values} h.safe (r.goes (behind_first y swap h.more) []);
}

pub object_is_read : {W : Memory} {x y z : Operand} → AreRead W (ThreeOperands x y z) → IsRead W x
object_is_read {y = y} {z = z} h = record { more = behind_object y z h.more; env = []; safe = h.safe }

module _ {W : Memory} {x y z : Operand} {v : Kept} (h : AreRead W (ThreeOperands x y z)) (r : Reads W x v) where
  safe_key : IsSafe (expand (behind_object y z h.more (r.named 0))) r.values W
  safe_key = safe_as {r = expand (with_operand x (behind_object y z h.more))} {q = expand (behind_object y z h.more (r.named 0))} {more = r.values} h.safe (r.goes (behind_object y z h.more) [])

  pub key_is_read : IsRead W y
  key_is_read = record { more = λ w. with_operand z (λ u. h.more (r.named 0 ∷ w ∷ u ∷ [])); env = r.values; safe = safe_key }

  pub given_is_read : {w : Kept} → Reads W y w → IsRead W z
  given_is_read q =
      let more : Arg → Text = λ w. with_operand z (λ u. h.more (r.named 0 ∷ w ∷ u ∷ [])) in
      record {
        more = λ u. h.more (r.named 0 ∷ q.named (length r.values) ∷ u ∷ []);
        env = r.values ++ q.values;
        safe = safe_as {r = expand (with_operand y more)} {q = expand (more (q.named (length r.values)))} {more = r.values ++ q.values} safe_key (q.goes more r.values);
      }

-- and with all of them

module _ (W : Memory) where
  pub reads_one : (x : Operand) (v : Kept) → Reads W x v → ReadsAll W (OneOperand x) (One v)
  reads_one x v r = record {
    values = r.values;
    named = r.named 0 ∷ [];
    goes = λ more fuel. r.goes (λ a. more (a ∷ [])) [] fuel;
    are = λ behind. ap (λ v. v ∷ []) (r.stays [] behind);
    valid = λ n s. each_cons (Valid (sizes n (plain W 0))) (value W.strings v) [] (r.valid n s) (each_none (Valid (sizes n (plain W 0))));
  }

  pub reads_twice : (x : Operand) (v : Kept) → Reads W x v → ReadsAll W (Twice x) (Two v v)
  reads_twice x v r = record {
    values = r.values;
    named = r.named 0 ∷ r.named 0 ∷ [];
    goes = λ more fuel. r.goes (λ a. more (a ∷ a ∷ [])) [] fuel;
    are = λ behind. ap (λ v. v ∷ v ∷ []) (r.stays [] behind);
    valid = λ n s.
        let P = Valid (sizes n (plain W 0)) in
        each_cons P (value W.strings v) (value W.strings v ∷ []) (r.valid n s) (each_cons P (value W.strings v) [] (r.valid n s) (each_none P));
  }

  -- the first operand keeps its name
  first_stays : {x : Operand} {v : Kept} (r : Reads W x v) (ws behind : List Value) → arg (r.values ++ ws ++ behind) (r.named 0) ≡ value W.strings v
  first_stays r ws behind = ap (λ env. arg env (r.named 0)) (append_assoc r.values ws behind) ∙ r.stays [] (ws ++ behind)

  two_are : (swap : Bool) (env : List Value) (a b : Arg) (v w : Kept) → arg env a ≡ value W.strings v → arg env b ≡ value W.strings w → args_of env (in_order swap a b) ≡ map (value W.strings) (list_of (ordered swap v w))
  two_are true env a b v w e f = ap₂ (λ x y. y ∷ x ∷ []) e f
  two_are false env a b v w e f = ap₂ (λ x y. x ∷ y ∷ []) e f

  two_valid : (P : Value → Type 0) (swap : Bool) (v w : Kept) → P (value W.strings v) → P (value W.strings w) → Each P (map (value W.strings) (list_of (ordered swap v w)))
  two_valid P true v w h k = each_cons P (value W.strings w) (value W.strings v ∷ []) k (each_cons P (value W.strings v) [] h (each_none P))
  two_valid P false v w h k = each_cons P (value W.strings v) (value W.strings w ∷ []) h (each_cons P (value W.strings w) [] k (each_none P))

  pub reads_two : (x y : Operand) (swap : Bool) (v w : Kept) → Reads W x v → Reads W y w → ReadsAll W (TwoOperands x y swap) (ordered swap v w)
  reads_two x y swap v w r q = record {
    values = r.values ++ q.values;
    named = in_order swap (r.named 0) (q.named (length r.values));
    goes = λ more fuel. r.goes (behind_first y swap more) [] fuel ∙ q.goes (λ w. more (in_order swap (r.named 0) w)) r.values fuel;
    are = λ behind. two_are swap (r.values ++ q.values ++ behind) (r.named 0) (q.named (length r.values)) v w (first_stays r q.values behind) (q.stays r.values behind);
    valid = λ n s. two_valid (Valid (sizes n (plain W 0))) swap v w (r.valid n s) (q.valid n s);
  }

  pub reads_three : (x y z : Operand) (v w u : Kept) → Reads W x v → Reads W y w → Reads W z u → ReadsAll W (ThreeOperands x y z) (Three v w u)
  reads_three x y z v w u r q p =
      let env = r.values ++ q.values in
      let a = r.named 0 in
      let b = q.named (length r.values) in
      let c = p.named (length env) in
      record {
        values = env ++ p.values;
        named = a ∷ b ∷ c ∷ [];
        goes = λ more fuel.
            r.goes (behind_object y z more) [] fuel
            ∙ q.goes (λ w. with_operand z (λ u. more (a ∷ w ∷ u ∷ []))) r.values fuel
            ∙ p.goes (λ u. more (a ∷ b ∷ u ∷ [])) env fuel;
        are = λ behind.
            let here : env ++ p.values ++ behind ≡ env ++ (p.values ++ behind) = append_assoc env p.values behind in
            let first : arg (env ++ p.values ++ behind) a ≡ value W.strings v = ap (λ env. arg env a) here ∙ first_stays r q.values (p.values ++ behind) in
            let second : arg (env ++ p.values ++ behind) b ≡ value W.strings w = ap (λ env. arg env b) here ∙ q.stays r.values (p.values ++ behind) in
            ap (λ x. x ∷ arg (env ++ p.values ++ behind) b ∷ arg (env ++ p.values ++ behind) c ∷ []) first
            ∙ ap (λ y. value W.strings v ∷ y ∷ arg (env ++ p.values ++ behind) c ∷ []) second
            ∙ ap (λ z. value W.strings v ∷ value W.strings w ∷ z ∷ []) (p.stays env behind);
        valid = λ n s.
            let P = Valid (sizes n (plain W 0)) in
            each_cons P (value W.strings v) (value W.strings w ∷ value W.strings u ∷ []) (r.valid n s)
            (each_cons P (value W.strings w) (value W.strings u ∷ []) (q.valid n s) (each_cons P (value W.strings u) [] (p.valid n s) (each_none P)));
      }
