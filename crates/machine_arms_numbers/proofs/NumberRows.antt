-- Rows of arithmetic and comparisons.
use Rattle.std.proofs.Common.{◌≡◌, ℕ, ◌+◌, ◌<◌, List, [], ◌∷◌, length, Option, Some, None, refl, ap, sym, ◌∙◌, subst, Bool, true, false, inl, inr}
use Rattle.code_core.specs.declared.instruction.Instruction.{Instruction}
use Rattle.code_core.specs.declared.opcode.Opcode.{Opcode}
use Rattle.lua_heap.specs.Reading.{value}
use Rattle.machine_core.specs.InstructionRows.{row_of}
use Rattle.machine_view.specs.View.{Around, held, IsCode, IsAt, Goes}
use Rattle.machine_view.proofs.Places.{register_there, constant_there, next_there, behind_there}
use Rattle.machine_view.proofs.Rows.{Comes, reads, reads_constant, settles, same_text}
use Rattle.machine_view.proofs.Going.{going, at_next, at_second, at_either, goes_by, puts, decides}
use Rattle.table_core.specs.declared.value.Value.{Value as Kept}
use Rattle.std.specs.Prelude.{◌⊎◌, ℤ, int_lt, int_le, cond, slice_get, slice_set, IsTrue, ◌==◌}
use Rattle.code_core.specs.Fields.{registers, constants, second_half, is_return, integer as an_integer}
use Rattle.code_core.specs.Instruction.{a_of, b_of, c_of, k_of, sb_of, sc_of}
use Rattle.code_core.specs.Prototype.{Prototype}
use Rattle.code_core.specs.declared.opcode.Opcode.TheVariants.{AddI, ShrI, ShlI, Unm, BNot, AddK, SubK, MulK, ModK, IDivK, BAndK, BOrK, BXorK, Add, Sub, Mul, Mod, IDiv, BAnd, BOr, BXor, Shl, Shr, MmBin, MmBinI, MmBinK, Jmp, Eq, Lt, Le, EqK, EqI, LtI, LeI, GtI, GeI}
use Rattle.int_core.specs.Heap.{Heap}
use Rattle.int_core.specs.Value.{Value, known, integer, shape, same_truth, bind, same}
use Rattle.int_core.specs.Operations.{Event, Operation, Settled, does, fault, of_unm, of_bnot, of_add, of_sub, of_mul, of_mod, of_idiv, of_band, of_bor, of_bxor, of_shl, of_shr, computed, arithmetic, less, less_equal, found, truth, equal_on, by_zero}
use Rattle.lua_heap.proofs.Equal.{alike}
use Rattle.machine_core.specs.World.{Cell}
use Rattle.machine_core.specs.Text.{Arg, args_of, own, read, written, write_register, read_register, Text, raise}
use Rattle.machine_core.specs.InstructionRows.{fast, integer_of_shape, next, skip, with_register, with_constant, compares, with_number, unary}
use Rattle.machine_focus.specs.Focus.{Held}
use Rattle.machine_sound.proofs.Lists.{get_there, some_is}
use Rattle.table_core.specs.Value.{value_eq, are_tables}
use Rattle.table_core.specs.declared.value.TableId.{TableId}
use Rattle.table_core.specs.declared.value.Value.TheVariants.{Nil, Bool as Boolean, Int, Str, Prim, Table, Func, Coro}
use Rattle.machine_arms_numbers.specs.Numbers.{integer_in, equal_at_once, event_of, has_constant, has_numeral, has_one, has_two, of_numeral, of_one, ordered_by, second}

pub is_integer : (v : Kept) (n : ℤ) → Some n ≡ integer_in v → v ≡ Int n
is_integer (Int m) n e = ap Int (sym (some_is refl e))
is_integer _ n e = absurd (cc)

pub shape_integer : (texts : List (List ℕ)) (v : Kept) → integer_of_shape (shape (value texts v)) ≡ integer_in v
shape_integer texts (Int n) = refl
shape_integer texts _ = refl

fast_left : (event : Event) (a : ℕ) (x y : Option ℤ) → None ≡ x → fast event a x y ≡ next
fast_left event a None y e = refl
fast_left event a (Some m) y e = absurd (cc)

fast_right : (event : Event) (a : ℕ) (x y : Option ℤ) → None ≡ y → fast event a x y ≡ next
fast_right event a None y e = refl
fast_right event a (Some m) None e = refl
fast_right event a (Some m) (Some n) e = absurd (cc)

fast_both : (event : Event) (a : ℕ) (x y : Option ℤ) (m n k : ℤ) → Some m ≡ x → Some n ≡ y → computed event m n ≡ Some k → fast event a x y ≡ own (write_register a (written (integer k))) (λ _ _. skip)
fast_both event a x y m n k e f c = ap (λ x. fast event a x y) (sym e) ∙ ap (λ y. fast event a (Some m) y) (sym f)
    ∙ ap (λ (o : Option ℤ). elim o as (λ _. Text) [ None ↦ raise (by_zero event) | Some k ↦ own (write_register a (written (integer k))) (λ _ _. skip) ]) c

module _ (g : Around) (heap : Heap) (cells : List Cell) (r : List Kept) (pc fuel : ℕ) {env : List Value} {ws : List Instruction} {ks : List Kept} {to : ℕ} (event : Event) (a : ℕ) (x y : Option ℤ) (c : IsCode g ws ks) (l : to < length ws) where
  goes_left : None ≡ x → to ≡ pc + 1 → Comes g.context (fast event a x y) env (held g heap cells r pc fuel) (Some (held g heap cells r to fuel))
  goes_left e p = same_text (fast_left event a x y e) (goes_by g heap cells r pc fuel to 1 c l p)

  goes_right : None ≡ y → to ≡ pc + 1 → Comes g.context (fast event a x y) env (held g heap cells r pc fuel) (Some (held g heap cells r to fuel))
  goes_right e p = same_text (fast_right event a x y e) (goes_by g heap cells r pc fuel to 1 c l p)

  goes_both : {s : List Kept} (m n k : ℤ) → Some m ≡ x → Some n ≡ y → computed event m n ≡ Some k → a < length r → s ≡ slice_set r a (Int k) → to ≡ pc + 2
      → Comes g.context (fast event a x y) env (held g heap cells r pc fuel) (Some (held g heap cells s to fuel))
  goes_both m n k e f q j i p = same_text (fast_both event a x y m n k e f q) (puts g heap cells r pc fuel a 2 (Int k) c l j refl i p)

-- a register and another, or a constant

record OfTwo (op : Opcode) (w : Instruction) : Type 0 where
  pub event : Event
  pub is_event : event_of op ≡ Some event
  pub row : (p : Prototype) (pc : ℕ) → row_of p pc op w ≡ cond (has_constant op) (with_constant event w) (with_register event w)
  pub names : registers op w ≡ a_of w ∷ b_of w ∷ cond (has_constant op) [] (c_of w ∷ [])
  pub numbers : (extra : Option ℕ) → constants op w extra ≡ cond (has_constant op) ((an_integer, c_of w) ∷ []) []
  pub pair : second_half op w ≡ Some (cond (has_constant op) MmBinK MmBin)
  pub on : is_return op ≡ false

of_two : (op : Opcode) (w : Instruction) → IsTrue (has_two op) → OfTwo op w
of_two Add w h = record { event = of_add; is_event = refl; row = λ p pc. refl; names = refl; numbers = λ _. refl; pair = refl; on = refl }
of_two Sub w h = record { event = of_sub; is_event = refl; row = λ p pc. refl; names = refl; numbers = λ _. refl; pair = refl; on = refl }
of_two Mul w h = record { event = of_mul; is_event = refl; row = λ p pc. refl; names = refl; numbers = λ _. refl; pair = refl; on = refl }
of_two Mod w h = record { event = of_mod; is_event = refl; row = λ p pc. refl; names = refl; numbers = λ _. refl; pair = refl; on = refl }
of_two IDiv w h = record { event = of_idiv; is_event = refl; row = λ p pc. refl; names = refl; numbers = λ _. refl; pair = refl; on = refl }
of_two BAnd w h = record { event = of_band; is_event = refl; row = λ p pc. refl; names = refl; numbers = λ _. refl; pair = refl; on = refl }
of_two BOr w h = record { event = of_bor; is_event = refl; row = λ p pc. refl; names = refl; numbers = λ _. refl; pair = refl; on = refl }
of_two BXor w h = record { event = of_bxor; is_event = refl; row = λ p pc. refl; names = refl; numbers = λ _. refl; pair = refl; on = refl }
of_two Shl w h = record { event = of_shl; is_event = refl; row = λ p pc. refl; names = refl; numbers = λ _. refl; pair = refl; on = refl }
of_two Shr w h = record { event = of_shr; is_event = refl; row = λ p pc. refl; names = refl; numbers = λ _. refl; pair = refl; on = refl }
of_two AddK w h = record { event = of_add; is_event = refl; row = λ p pc. refl; names = refl; numbers = λ _. refl; pair = refl; on = refl }
of_two SubK w h = record { event = of_sub; is_event = refl; row = λ p pc. refl; names = refl; numbers = λ _. refl; pair = refl; on = refl }
of_two MulK w h = record { event = of_mul; is_event = refl; row = λ p pc. refl; names = refl; numbers = λ _. refl; pair = refl; on = refl }
of_two ModK w h = record { event = of_mod; is_event = refl; row = λ p pc. refl; names = refl; numbers = λ _. refl; pair = refl; on = refl }
of_two IDivK w h = record { event = of_idiv; is_event = refl; row = λ p pc. refl; names = refl; numbers = λ _. refl; pair = refl; on = refl }
of_two BAndK w h = record { event = of_band; is_event = refl; row = λ p pc. refl; names = refl; numbers = λ _. refl; pair = refl; on = refl }
of_two BOrK w h = record { event = of_bor; is_event = refl; row = λ p pc. refl; names = refl; numbers = λ _. refl; pair = refl; on = refl }
of_two BXorK w h = record { event = of_bxor; is_event = refl; row = λ p pc. refl; names = refl; numbers = λ _. refl; pair = refl; on = refl }
of_two _ w h = absurd (cc)

half_goes_on : (b : Bool) → is_return (cond b MmBinK MmBin) ≡ false
half_goes_on true = refl
half_goes_on false = refl

module _ (g : Around) (heap : Heap) (cells : List Cell) (r : List Kept) (pc fuel : ℕ) {ws : List Instruction} {ks : List Kept} {o : Option Held} (event : Event) (w : Instruction) (u v : Kept) (c : IsCode g ws ks) (e : slice_get r (b_of w) ≡ Some u)
    (q : Comes g.context (fast event (a_of w) (integer_of_shape (shape (value g.texts u))) (integer_of_shape (shape (value g.texts v)))) (value g.texts u ∷ value g.texts v ∷ []) (held g heap cells r pc fuel) o) where
  reads_two : (b : Bool) → cond b (slice_get ks (c_of w)) (slice_get r (c_of w)) ≡ Some v → Comes g.context (cond b (with_constant event w) (with_register event w)) [] (held g heap cells r pc fuel) o
  reads_two true f = reads g heap cells r pc fuel (b_of w) u e (reads_constant g heap cells r pc fuel (c_of w) v c f q)
  reads_two false f = reads g heap cells r pc fuel (b_of w) u e (reads g heap cells r pc fuel (c_of w) v f q)

module _ {op : Opcode} {w : Instruction} {ws : List Instruction} {ks r : List Kept} {pc : ℕ} (h : IsAt op w ws ks r pc) (o : IsTrue (has_two op)) where
  form : OfTwo op w
  form = of_two op w o

  pub target_there : a_of w < length r
  target_there = register_there h 0 (a_of w) (ap (λ is. slice_get is 0) form.names)

  pub first_there : b_of w < length r
  first_there = register_there h 1 (b_of w) (ap (λ is. slice_get is 1) form.names)

  pub second_register : has_constant op ≡ false → c_of w < length r
  second_register e = register_there h 2 (c_of w) (ap (λ is. slice_get is 2) form.names ∙ ap (λ b. slice_get (a_of w ∷ b_of w ∷ cond b [] (c_of w ∷ [])) 2) e)

  pub second_constant : has_constant op ≡ true → c_of w < length ks
  second_constant e = constant_there h 0 (c_of w) an_integer (ap (λ cs. slice_get cs 0) (form.numbers _) ∙ ap (λ b. slice_get (cond b ((an_integer, c_of w) ∷ []) []) 0) e)

  pub two_next : pc + 1 < length ws
  two_next = next_there h form.on

  pub two_skip : pc + 2 < length ws
  two_skip = behind_there h (cond (has_constant op) MmBinK MmBin) form.pair (half_goes_on (has_constant op))

  second_there : (v : Kept) × (second op ks r w ≡ Some v)
  second_there = by (has_constant op) refl
    where
      by : (b : Bool) → has_constant op ≡ b → (v : Kept) × (cond b (slice_get ks (c_of w)) (slice_get r (c_of w)) ≡ Some v)
      by true e = get_there ks (c_of w) (second_constant e)
      by false e = get_there r (c_of w) (second_register e)

  pub two_left : {to : ℕ} (u : Kept) → slice_get r (b_of w) ≡ Some u → None ≡ integer_in u → to ≡ pc + 1 → (fuel : ℕ) → Goes op w ws ks r pc fuel r to fuel
  two_left u e i p fuel = going (at_next h form.on p) (λ g heap cells c.
      let v = second_there in
      same_text (form.row g.context.closure.code pc)
      (reads_two g heap cells r pc fuel form.event w u v.0 c e (goes_left g heap cells r pc fuel form.event (a_of w) _ _ c (at_next h form.on p) (i ∙ sym (shape_integer g.texts u)) p) (has_constant op) v.1))

  pub two_right : {to : ℕ} (u v : Kept) → slice_get r (b_of w) ≡ Some u → second op ks r w ≡ Some v → None ≡ integer_in v → to ≡ pc + 1 → (fuel : ℕ) → Goes op w ws ks r pc fuel r to fuel
  two_right u v e f i p fuel = going (at_next h form.on p) (λ g heap cells c.
      same_text (form.row g.context.closure.code pc)
      (reads_two g heap cells r pc fuel form.event w u v c e (goes_right g heap cells r pc fuel form.event (a_of w) _ _ c (at_next h form.on p) (i ∙ sym (shape_integer g.texts v)) p) (has_constant op) f))

  pub two_both : {s : List Kept} {to : ℕ} (u v : Kept) (m n k : ℤ) → slice_get r (b_of w) ≡ Some u → second op ks r w ≡ Some v → Some m ≡ integer_in u → Some n ≡ integer_in v
      → Some k ≡ bind (event_of op) (λ event. computed event m n) → s ≡ slice_set r (a_of w) (Int k) → to ≡ pc + 2 → (fuel : ℕ) → Goes op w ws ks r pc fuel s to fuel
  two_both u v m n k e f i j q t p fuel =
      let l = at_second h (cond (has_constant op) MmBinK MmBin) form.pair (half_goes_on (has_constant op)) p in
      going l (λ g heap cells c.
      same_text (form.row g.context.closure.code pc)
      (reads_two g heap cells r pc fuel form.event w u v c e
      (goes_both g heap cells r pc fuel form.event (a_of w) _ _ c l m n k (i ∙ sym (shape_integer g.texts u)) (j ∙ sym (shape_integer g.texts v))
      (sym (q ∙ ap (λ (o : Option Event). bind o (λ event. computed event m n)) form.is_event)) target_there t p)
      (has_constant op) f))

-- the operand is in the register B, and what comes goes to A

pub record OnRegister (op : Opcode) (w : Instruction) : Type 0 where
  pub names : registers op w ≡ a_of w ∷ b_of w ∷ []
  pub on : is_return op ≡ false

module _ {op : Opcode} {w : Instruction} {ws : List Instruction} {ks r : List Kept} {pc : ℕ} (h : IsAt op w ws ks r pc) (f : OnRegister op w) where
  pub both_named : (n i : ℕ) → slice_get (a_of w ∷ b_of w ∷ []) n ≡ Some i → i < length r
  both_named n i e = register_there h n i (ap (λ is. slice_get is n) f.names ∙ e)

  pub goes_behind : pc + 1 < length ws
  goes_behind = next_there h f.on

-- a register and a number that stands in the instruction

pub record OfNumeral (op : Opcode) (w : Instruction) : Type 0 where
  pub event : Event
  pub left : Option ℤ → Option ℤ
  pub right : Option ℤ → Option ℤ
  pub row : (p : Prototype) (pc : ℕ) → row_of p pc op w ≡ own (read_register (b_of w)) (λ _ s. fast event (a_of w) (left (integer_of_shape s)) (right (integer_of_shape s)))
  pub without : (None ≡ left None) ⊎ (None ≡ right None)
  pub with_both : (i : ℤ) → (m : ℤ) × (n : ℤ) × (Some m ≡ left (Some i)) × (Some n ≡ right (Some i)) × (computed event m n ≡ Some (of_numeral op i (sc_of w)))
  pub place : OnRegister op w
  pub pair : second_half op w ≡ Some MmBinI

numeral_behind : (op : Opcode) (event : Event) (w : Instruction)
    → ((p : Prototype) (pc : ℕ) → row_of p pc op w ≡ own (read_register (b_of w)) (λ _ s. fast event (a_of w) (integer_of_shape s) (Some (sc_of w)))) → ((i : ℤ) → computed event i (sc_of w) ≡ Some (of_numeral op i (sc_of w)))
    → OnRegister op w → second_half op w ≡ Some MmBinI → OfNumeral op w
numeral_behind op event w row gives place pair = record {
  event = event;
  left = λ o. o;
  right = λ o. Some (sc_of w);
  row = row;
  without = inl refl;
  with_both = λ i. (i, sc_of w, refl, refl, gives i);
  place = place;
  pair = pair;
}

pub of_numeral_row : (op : Opcode) (w : Instruction) → IsTrue (has_numeral op) → OfNumeral op w
of_numeral_row AddI w h = numeral_behind AddI of_add w (λ p pc. refl) (λ i. refl) (record { names = refl; on = refl }) refl
of_numeral_row ShrI w h = numeral_behind ShrI of_shr w (λ p pc. refl) (λ i. refl) (record { names = refl; on = refl }) refl
of_numeral_row ShlI w h = record {
  event = of_shl;
  left = λ o. Some (sc_of w);
  right = λ o. o;
  row = λ p pc. refl;
  without = inr refl;
  with_both = λ i. (sc_of w, i, refl, refl, refl);
  place = record { names = refl; on = refl };
  pair = refl;
}
of_numeral_row _ w h = absurd (cc)

module _ {op : Opcode} {w : Instruction} {ws : List Instruction} {ks r : List Kept} {pc : ℕ} (h : IsAt op w ws ks r pc) (o : IsTrue (has_numeral op)) where
  numeral_form : OfNumeral op w
  numeral_form = of_numeral_row op w o

  pub numeral_skip : pc + 2 < length ws
  numeral_skip = behind_there h MmBinI numeral_form.pair refl

  pub numeral_left : {to : ℕ} (u : Kept) → slice_get r (b_of w) ≡ Some u → None ≡ integer_in u → to ≡ pc + 1 → (fuel : ℕ) → Goes op w ws ks r pc fuel r to fuel
  numeral_left {to = to} u e i p fuel = going (at_next h numeral_form.place.on p) (λ g heap cells c.
      same_text (numeral_form.row g.context.closure.code pc) (reads g heap cells r pc fuel (b_of w) u e (from g heap cells c (sym (i ∙ sym (shape_integer g.texts u))) numeral_form.without)))
    where
      from : (g : Around) (heap : Heap) (cells : List Cell) → IsCode g ws ks → integer_of_shape (shape (value g.texts u)) ≡ None → (None ≡ numeral_form.left None) ⊎ (None ≡ numeral_form.right None)
          → Comes g.context (fast numeral_form.event (a_of w) (numeral_form.left (integer_of_shape (shape (value g.texts u)))) (numeral_form.right (integer_of_shape (shape (value g.texts u))))) (value g.texts u ∷ []) (held g heap cells r pc fuel) (Some (held g heap cells r to fuel))
      from g heap cells c q (inl n) = goes_left g heap cells r pc fuel numeral_form.event (a_of w) _ _ c (at_next h numeral_form.place.on p) (n ∙ ap numeral_form.left (sym q)) p
      from g heap cells c q (inr n) = goes_right g heap cells r pc fuel numeral_form.event (a_of w) _ _ c (at_next h numeral_form.place.on p) (n ∙ ap numeral_form.right (sym q)) p

  pub numeral_both : {s : List Kept} {to : ℕ} (u : Kept) (i : ℤ) → slice_get r (b_of w) ≡ Some u → Some i ≡ integer_in u → s ≡ slice_set r (a_of w) (Int (of_numeral op i (sc_of w))) → to ≡ pc + 2 → (fuel : ℕ) → Goes op w ws ks r pc fuel s to fuel
  numeral_both u i e j t p fuel =
      let l = at_second h MmBinI numeral_form.pair refl p in
      let x = numeral_form.with_both i in
      going l (λ g heap cells c.
      let z = j ∙ sym (shape_integer g.texts u) in
      same_text (numeral_form.row g.context.closure.code pc) (reads g heap cells r pc fuel (b_of w) u e
      (goes_both g heap cells r pc fuel numeral_form.event (a_of w) _ _ c l x.0 x.1 (of_numeral op i (sc_of w)) (x.2 ∙ ap numeral_form.left z) (x.3 ∙ ap numeral_form.right z) x.4 (both_named h numeral_form.place 0 (a_of w) refl) t p)))

-- one operand

pub record OfOne (op : Opcode) (w : Instruction) : Type 0 where
  pub event : Event
  pub row : (p : Prototype) (pc : ℕ) → row_of p pc op w ≡ own (read_register (b_of w)) (λ v _. unary (arithmetic event) (read v ∷ read v ∷ []) w)
  pub gives : (n : ℤ) → computed event n n ≡ Some (of_one op n)
  pub place : OnRegister op w

pub of_one_row : (op : Opcode) (w : Instruction) → IsTrue (has_one op) → OfOne op w
of_one_row Unm w h = record { event = of_unm; row = λ p pc. refl; gives = λ n. refl; place = record { names = refl; on = refl } }
of_one_row BNot w h = record { event = of_bnot; row = λ p pc. refl; gives = λ n. refl; place = record { names = refl; on = refl } }
of_one_row _ w h = absurd (cc)

module _ {op : Opcode} {w : Instruction} {ws : List Instruction} {ks r : List Kept} {pc : ℕ} (h : IsAt op w ws ks r pc) (o : IsTrue (has_one op)) where
  one_form : OfOne op w
  one_form = of_one_row op w o

  pub one_does : {s : List Kept} {to : ℕ} (u : Kept) (n : ℤ) → slice_get r (b_of w) ≡ Some u → Some n ≡ integer_in u → s ≡ slice_set r (a_of w) (Int (of_one op n)) → to ≡ pc + 1 → (fuel : ℕ) → Goes op w ws ks r pc fuel s to fuel
  one_does u n e j t p fuel = going (at_next h one_form.place.on p) (λ g heap cells c.
      same_text (one_form.row g.context.closure.code pc) (reads g heap cells r pc fuel (b_of w) (Int n) (e ∙ ap Some (is_integer u n j))
      (settles g heap cells r pc fuel (ap (λ (o : Option ℤ). elim o as (λ _. Settled) [ None ↦ fault (by_zero one_form.event) | Some k ↦ found heap (known (integer k) ∷ []) ]) (one_form.gives n))
      (puts g heap cells r pc fuel (a_of w) 1 (Int (of_one op n)) c (at_next h one_form.place.on p) (both_named h one_form.place 0 (a_of w) refl) refl t p))))

-- equality

of_tables : (m n : TableId) (b : Bool) → Some b ≡ equal_at_once (Table m) (Table n) → (b ≡ true) × (m.0 == n.0 ≡ true)
of_tables m n b f = from (m.0 == n.0) refl f
  where
    from : (t : Bool) → m.0 == n.0 ≡ t → Some b ≡ cond t (Some true) None → (b ≡ true) × (m.0 == n.0 ≡ true)
    from true q f = (some_is refl f, q)
    from false q f = absurd (cc)

truth_once : (t s b : Bool) → s ≡ false → Some b ≡ cond t (Some true) (cond s None (Some false)) → b ≡ t
truth_once true s b q f = some_is refl f
truth_once false true b q f = absurd (cc)
truth_once false false b q f = some_is refl f

equal_raw : (texts : List (List ℕ)) (heap : Heap) (u v : Kept) → are_tables u v ≡ false → equal_on heap (value texts u) (value texts v) ≡ truth heap (same (value texts u) (value texts v))
equal_raw texts heap (Table m) (Table n) e = absurd (cc)
equal_raw texts heap (Table m) Nil e = refl
equal_raw texts heap (Table m) (Boolean b) e = refl
equal_raw texts heap (Table m) (Int n) e = refl
equal_raw texts heap (Table m) (Str n) e = refl
equal_raw texts heap (Table m) (Prim n) e = refl
equal_raw texts heap (Table m) (Func n) e = refl
equal_raw texts heap (Table m) (Coro n) e = refl
equal_raw texts heap Nil v e = refl
equal_raw texts heap (Boolean b) v e = refl
equal_raw texts heap (Int n) v e = refl
equal_raw texts heap (Str n) v e = refl
equal_raw texts heap (Prim n) v e = refl
equal_raw texts heap (Func n) v e = refl
equal_raw texts heap (Coro n) v e = refl

settled_equal : (texts : List (List ℕ)) (heap : Heap) (u v : Kept) (b : Bool) → same (value texts u) (value texts v) ≡ value_eq u v → Some b ≡ equal_at_once u v → equal_on heap (value texts u) (value texts v) ≡ truth heap b
settled_equal texts heap u v b e f = from u v (are_tables u v) refl e f
  where
    from : (u v : Kept) (t : Bool) → are_tables u v ≡ t → same (value texts u) (value texts v) ≡ value_eq u v → Some b ≡ equal_at_once u v → equal_on heap (value texts u) (value texts v) ≡ truth heap b
    from u v false q e f = equal_raw texts heap u v q ∙ ap (truth heap) (e ∙ sym (truth_once (value_eq u v) (are_tables u v) b q f))
    from (Table m) (Table n) true q e f =
        let x = of_tables m n b f in
        ap (λ t. cond t (truth heap true) (Rattle.int_core.specs.Operations.asked (Rattle.int_core.specs.Operations.handler_of heap Rattle.int_core.specs.Operations.of_eq (value texts (Table m)) (value texts (Table n))) (value texts (Table m) ∷ value texts (Table n) ∷ []) (truth heap false))) x.1
        ∙ ap (truth heap) (sym x.0)
    from _ _ true q e f = absurd (cc)

-- comparisons

pub branch_there : {op : Opcode} {w : Instruction} {ws : List Instruction} {ks r : List Kept} {pc : ℕ} → IsAt op w ws ks r pc → second_half op w ≡ Some Jmp → pc + 2 < length ws
branch_there h e = behind_there h Jmp e refl

pub equal_does : {w : Instruction} {ws : List Instruction} {ks r : List Kept} {pc to : ℕ} (u v : Kept) (b : Bool) → IsAt Eq w ws ks r pc → slice_get r (a_of w) ≡ Some u → slice_get r (b_of w) ≡ Some v → Some b ≡ equal_at_once u v
    → to ≡ pc + cond (same_truth b (k_of w)) 1 2 → (fuel : ℕ) → Goes Eq w ws ks r pc fuel r to fuel
equal_does {w = w} {r = r} {pc = pc} u v b h e f i p fuel =
    let l = at_either h Jmp refl refl (same_truth b (k_of w)) p in
    going l (λ g heap cells c. reads g heap cells r pc fuel (a_of w) u e (reads g heap cells r pc fuel (b_of w) v f
    (decides g heap cells r pc fuel w b c l p (settled_equal g.texts heap u v b (alike g.texts c.apart c.short u v) i))))

pub equal_constant_does : {w : Instruction} {ws : List Instruction} {ks r : List Kept} {pc to : ℕ} (u v : Kept) (b : Bool) → IsAt EqK w ws ks r pc → slice_get r (a_of w) ≡ Some u → slice_get ks (b_of w) ≡ Some v → Some b ≡ equal_at_once u v
    → to ≡ pc + cond (same_truth b (k_of w)) 1 2 → (fuel : ℕ) → Goes EqK w ws ks r pc fuel r to fuel
equal_constant_does {w = w} {r = r} {pc = pc} u v b h e f i p fuel =
    let l = at_either h Jmp refl refl (same_truth b (k_of w)) p in
    going l (λ g heap cells c. reads g heap cells r pc fuel (a_of w) u e (reads_constant g heap cells r pc fuel (b_of w) v c f
    (decides g heap cells r pc fuel w b c l p (settled_equal g.texts heap u v b (alike g.texts c.apart c.short u v) i))))

pub equal_number_does : {w : Instruction} {ws : List Instruction} {ks r : List Kept} {pc to : ℕ} (u : Kept) (b : Bool) → IsAt EqI w ws ks r pc → slice_get r (a_of w) ≡ Some u → Some b ≡ equal_at_once u (Int (sb_of w))
    → to ≡ pc + cond (same_truth b (k_of w)) 1 2 → (fuel : ℕ) → Goes EqI w ws ks r pc fuel r to fuel
equal_number_does {w = w} {r = r} {pc = pc} u b h e i p fuel =
    let l = at_either h Jmp refl refl (same_truth b (k_of w)) p in
    going l (λ g heap cells c. reads g heap cells r pc fuel (a_of w) u e
    (decides g heap cells r pc fuel w b c l p (settled_equal g.texts heap u (Int (sb_of w)) b (alike g.texts c.apart c.short u (Int (sb_of w))) i)))

-- the order of two registers
module _ {op : Opcode} {w : Instruction} {ws : List Instruction} {ks r : List Kept} {pc : ℕ} where
  pub order_names : IsAt op w ws ks r pc → (op ≡ Lt) ⊎ (op ≡ Le) → (a_of w < length r) × (b_of w < length r) × (pc + 2 < length ws)
  order_names h (inl e) = let k = subst (λ op. IsAt op w ws ks r pc) e h in (register_there k 0 (a_of w) refl, register_there k 1 (b_of w) refl, branch_there k refl)
  order_names h (inr e) = let k = subst (λ op. IsAt op w ws ks r pc) e h in (register_there k 0 (a_of w) refl, register_there k 1 (b_of w) refl, branch_there k refl)

  pub order_does : {to : ℕ} (u v : Kept) (m n : ℤ) (b : Bool) → IsAt op w ws ks r pc → (op ≡ Lt) ⊎ (op ≡ Le) → slice_get r (a_of w) ≡ Some u → slice_get r (b_of w) ≡ Some v → Some m ≡ integer_in u → Some n ≡ integer_in v
      → Some b ≡ bind (ordered_by op) (λ order. Some (order m n)) → to ≡ pc + cond (same_truth b (k_of w)) 1 2 → (fuel : ℕ) → Goes op w ws ks r pc fuel r to fuel
  order_does {to = to} u v m n b h o e f i j q p fuel = from o
    where
      x : slice_get r (a_of w) ≡ Some (Int m)
      x = e ∙ ap Some (is_integer u m i)

      y : slice_get r (b_of w) ≡ Some (Int n)
      y = f ∙ ap Some (is_integer v n j)

      on : (op : Opcode) (operation : Operation) (order : ℤ → ℤ → Bool) → second_half op w ≡ Some Jmp
          → ((p : Prototype) (pc : ℕ) → row_of p pc op w ≡ own (read_register (a_of w)) (λ x _. own (read_register (b_of w)) (λ y _. compares operation (read x) (read y) w)))
          → ((heap : Heap) → does operation (known (integer m) ∷ known (integer n) ∷ []) heap ≡ truth heap (order m n)) → IsAt op w ws ks r pc → Some b ≡ Some (order m n) → Goes op w ws ks r pc fuel r to fuel
      on op operation order pair row gives h q =
          let l = at_either h Jmp pair refl (same_truth b (k_of w)) p in
          going l (λ g heap cells c.
          same_text (row g.context.closure.code pc)
          (reads g heap cells r pc fuel (a_of w) (Int m) x (reads g heap cells r pc fuel (b_of w) (Int n) y (decides g heap cells r pc fuel w b c l p (gives heap ∙ ap (truth heap) (sym (some_is refl q)))))))

      from : (op ≡ Lt) ⊎ (op ≡ Le) → Goes op w ws ks r pc fuel r to fuel
      from (inl e) = subst (λ op. Goes op w ws ks r pc fuel r to fuel) (sym e) (on Lt less int_lt refl (λ p pc. refl) (λ heap. refl) (subst (λ op. IsAt op w ws ks r pc) e h) (q ∙ ap (λ op. bind (ordered_by op) (λ order. Some (order m n))) e))
      from (inr e) = subst (λ op. Goes op w ws ks r pc fuel r to fuel) (sym e) (on Le less_equal int_le refl (λ p pc. refl) (λ heap. refl) (subst (λ op. IsAt op w ws ks r pc) e h) (q ∙ ap (λ op. bind (ordered_by op) (λ order. Some (order m n))) e))

-- the order of a register and a number that stands in the instruction
pub record OfNumber (op : Opcode) (w : Instruction) : Type 0 where
  pub order : ℤ → ℤ → Bool
  pub is_order : ordered_by op ≡ Some order
  pub names : registers op w ≡ a_of w ∷ []
  pub pair : second_half op w ≡ Some Jmp
  pub text : ℕ → Text
  pub row : (p : Prototype) (pc : ℕ) → row_of p pc op w ≡ own (read_register (a_of w)) (λ x _. text x)
  pub decided : (g : Around) (heap : Heap) (cells : List Cell) (r : List Kept) (pc fuel : ℕ) {ws : List Instruction} {ks : List Kept} {to : ℕ} (m : ℤ) → IsCode g ws ks → to < length ws
      → to ≡ pc + cond (same_truth (order m (sb_of w)) (k_of w)) 1 2 → Comes g.context (text 0) (known (integer m) ∷ []) (held g heap cells r pc fuel) (Some (held g heap cells r to fuel))

-- by the operation that decides it, and its operands where the register's value is named
ordered_number : (op : Opcode) (w : Instruction) (order : ℤ → ℤ → Bool) (operation : Operation) (left right : ℕ → Arg) → ordered_by op ≡ Some order → registers op w ≡ a_of w ∷ [] → second_half op w ≡ Some Jmp
    → ((p : Prototype) (pc : ℕ) → row_of p pc op w ≡ own (read_register (a_of w)) (λ x _. compares operation (left x) (right x) w))
    → ((m : ℤ) (heap : Heap) → does operation (args_of (known (integer m) ∷ []) (left 0 ∷ right 0 ∷ [])) heap ≡ truth heap (order m (sb_of w))) → OfNumber op w
ordered_number op w order operation left right is_order names pair row gives = record {
  order = order;
  is_order = is_order;
  names = names;
  pair = pair;
  text = λ x. compares operation (left x) (right x) w;
  row = row;
  decided = λ g heap cells r pc fuel m c l p. decides g heap cells r pc fuel w (order m (sb_of w)) c l p (gives m heap);
}

pub of_number : (op : Opcode) (w : Instruction) → (op ≡ LtI) ⊎ (op ≡ LeI) ⊎ (op ≡ GtI) ⊎ (op ≡ GeI) → OfNumber op w
of_number op w (inl e) = subst (λ op. OfNumber op w) (sym e) (ordered_number LtI w int_lt less (λ x. read x) (λ _. with_number w) refl refl refl (λ p pc. refl) (λ m heap. refl))
of_number op w (inr (inl e)) = subst (λ op. OfNumber op w) (sym e) (ordered_number LeI w int_le less_equal (λ x. read x) (λ _. with_number w) refl refl refl (λ p pc. refl) (λ m heap. refl))
of_number op w (inr (inr (inl e))) = subst (λ op. OfNumber op w) (sym e) (ordered_number GtI w (λ m n. int_lt n m) less (λ _. with_number w) (λ x. read x) refl refl refl (λ p pc. refl) (λ m heap. refl))
of_number op w (inr (inr (inr e))) = subst (λ op. OfNumber op w) (sym e) (ordered_number GeI w (λ m n. int_le n m) less_equal (λ _. with_number w) (λ x. read x) refl refl refl (λ p pc. refl) (λ m heap. refl))

module _ {op : Opcode} {w : Instruction} {ws : List Instruction} {ks r : List Kept} {pc : ℕ} (h : IsAt op w ws ks r pc) (o : (op ≡ LtI) ⊎ (op ≡ LeI) ⊎ (op ≡ GtI) ⊎ (op ≡ GeI)) where
  number_form : OfNumber op w
  number_form = of_number op w o

  pub number_named : a_of w < length r
  number_named = register_there h 0 (a_of w) (ap (λ is. slice_get is 0) number_form.names)

  pub number_branch : pc + 2 < length ws
  number_branch = branch_there h number_form.pair

  pub number_order : {to : ℕ} (u : Kept) (m : ℤ) (b : Bool) → slice_get r (a_of w) ≡ Some u → Some m ≡ integer_in u → Some b ≡ bind (ordered_by op) (λ order. Some (order m (sb_of w)))
      → to ≡ pc + cond (same_truth b (k_of w)) 1 2 → (fuel : ℕ) → Goes op w ws ks r pc fuel r to fuel
  number_order u m b e i q p fuel =
      let x : slice_get r (a_of w) ≡ Some (Int m) = e ∙ ap Some (is_integer u m i) in
      let z : b ≡ number_form.order m (sb_of w) = some_is refl (q ∙ ap (λ (o : Option (ℤ → ℤ → Bool)). bind o (λ order. Some (order m (sb_of w)))) number_form.is_order) in
      let p' = p ∙ ap (λ b. pc + cond (same_truth b (k_of w)) 1 2) z in
      let l = at_either h Jmp number_form.pair refl (same_truth (number_form.order m (sb_of w)) (k_of w)) p' in
      going l (λ g heap cells c. same_text (number_form.row g.context.closure.code pc) (reads g heap cells r pc fuel (a_of w) (Int m) x (number_form.decided g heap cells r pc fuel m c l p')))
