-- The code of statements that have no block takes the registers that are counted for it.
use Rattle.std.proofs.Common.{◌≡◌, ℕ, zero, suc, ◌+◌, ◌-◌, ◌<◌, ◌≤◌, ◌^◌, max, Bool, true, false, cond, List, [], ◌∷◌, ◌++◌, length, Option, Some, None, refl, ap, subst, lit<, arith}
use Rattle.std.specs.Prelude.{nat_lt, nat_eq}
use Rattle.tree_core.specs.declared.name.Declared.{Declared}
use Rattle.tree_core.specs.Tree.{Exp, Vararg, Call, Method, Exps, EndExps, MoreExps}
use Rattle.tree_activation.specs.Statements.{is_closed}
use Rattle.code_core.specs.declared.opcode.Opcode.TheVariants.{Close, Tbc, TailCall, Return}
use Rattle.code_core.specs.declared.proto.Const.{Const}
use Rattle.code_core.specs.Instruction.{abc}
use Rattle.code_of.specs.Coded.{with_abc, leaving_by}
use Rattle.code_of.specs.Expressions.{made_by, is_open, list_field, Wanted, results_field, exp_code, exps_code}
use Rattle.code_of.specs.Parts.{marks_code, close_code, call_last, method_last, listed_last, returned_by, values_last, return_code}
use Rattle.scope_core.specs.Held.{held, held_behind}
use Rattle.code_of.specs.Rooms.{room_of_values, room_of_nils, room_of, room_of_list, room_of_last, room_of_self}
use Rattle.code_of.specs.Stores.{room_unless}
use Rattle.code_of.proofs.Operands.{lone_is}
use Rattle.code_of.proofs.Rooms.{self_room}
use Rattle.code_of.specs.Operators.{self_code}
use Rattle.scope_laws.specs.Finding.{ExpFinds, ExpsFind}
use Rattle.code_bounds.proofs.Tops.{top, one, top_more, top_append, one_a, one_tail, one_return, any_return}
use Rattle.code_bounds.proofs.Pieces.{self_top, Takes, ListTakes, call_takes, method_takes}
use Rattle.code_of.specs.Operands.{local_of, lone_local, seat, unless}
use Rattle.code_bounds.proofs.Expressions.{own_room, local_found, count_room, field_room, seat_low, object_takes, exp_takes, exps_take}
use Rattle.code_bounds.proofs.Holding.{wanted_count, exp_held, exps_held, all_held}
use Rattle.code_bounds.proofs.Room.{HasRoom}

-- marks and ends of scopes

pub marks_top : (names : List Declared) (t : ℕ) → t + length names ≤ 200 → top (marks_code names t) ≤ 250
marks_top [] t few = omega arith
marks_top (d ∷ names) t few = by (is_closed d.attrib) (marks_top names (t + 1) (omega arith))
  where
    by : (b : Bool) → top (marks_code names (t + 1)) ≤ 250 → top (cond b (with_abc Tbc t 0 0 d.name.line ∷ marks_code names (t + 1)) (marks_code names (t + 1))) ≤ 250
    by true rest =
        let e = top_more (with_abc Tbc t 0 0 d.name.line) (marks_code names (t + 1)) in
        let f = one_a Tbc t 0 0 false refl (omega arith) in
        omega (arith, e, f, rest)
    by false rest = rest

pub close_top : (before after line : ℕ) → before ≤ 200 → top (close_code before after line) ≤ 250
close_top before after line few = by (nat_eq before after)
  where
    by : (b : Bool) → top (cond b [] (with_abc Close before 0 0 line ∷ [])) ≤ 250
    by true = omega arith
    by false = let e = one_a Close before 0 0 false refl (omega arith) in omega (arith, e)

module _ (cs : List Const) where
  -- expressions within the limit

  pub exp_room : (hidden : List ℕ) (ups stack : ℕ) (e : Exp) (size t j field : ℕ) → ExpFinds e hidden size ups → size ≤ t → t + held e ≤ 250 → t + room_of_values field ≤ 250 → field ≤ 250 →
      HasRoom stack (exp_code cs e t j field) (t + room_of cs e field ≤ max t stack)
  exp_room hidden ups stack e size t j field known above few values fits =
      let h = exp_held cs e field in
      let all = exp_takes cs hidden ups e size t j field known above (omega arith) (omega (arith, h)) in
      record { below = omega (arith, h, all.0); gives = λ small. omega (arith, all.1) }

  pub exps_room : (hidden : List ℕ) (ups stack : ℕ) (es : Exps) (wanted : Wanted) (size p j line : ℕ) → ExpsFind es hidden size ups → size ≤ p → results_field wanted ≤ 251 → p + held_behind 0 es ≤ 250 → p + wanted_count cs wanted ≤ 250 →
      HasRoom stack (exps_code cs es wanted p j line) (p + room_of_list cs 0 es wanted ≤ max p stack)
  exps_room hidden ups stack es wanted size p j line known above fits few many =
      let h = exps_held cs es wanted 0 in
      let all = exps_take cs hidden ups es wanted 0 p p size j line (omega arith) known above (omega arith) (omega (arith, h)) in
      record { below = omega (arith, h, all.0); gives = λ small. omega (arith, all.1) }

  -- a list has registers for the values that are wanted of it

  open_room : (e : Exp) (field : ℕ) → is_open e ≡ true → room_of_values field ≤ room_of cs e field
  open_room (Vararg line) field h = omega arith
  open_room (Call line f es) field h = omega arith
  open_room (Method line object name es) field h = omega arith
  open_room _ field h = absurd (cc)

  filled_nils : (n above : ℕ) → above + n ≤ max above (room_of_nils above (Some n))
  filled_nils zero above = omega arith
  filled_nils (suc n) above = omega arith

  pub filled : (es : Exps) (n above : ℕ) → above + n ≤ max above (room_of_list cs above es (Some n))
  filled EndExps n above = filled_nils n above
  filled (MoreExps e EndExps) n above = by (is_open e) refl
    where
      by : (b : Bool) → is_open e ≡ b → above + n ≤ max above (max (above + room_of cs e (cond b (n + 1) 2)) (room_of_nils (above + 1) (cond b None (Some (n - 1)))))
      by true is =
          let h = open_room e (n + 1) is in
          let one_more : n + 1 ≡ suc n = omega arith in
          let values = ap room_of_values one_more in
          omega (arith, h, values)
      by false is = let h = own_room cs e in let k = filled_nils (n - 1) (above + 1) in omega (arith, h, k)
  filled (MoreExps e (MoreExps d es)) n above =
      let h = own_room cs e in
      let k = filled (MoreExps d es) (n - 1) (above + 1) in
      omega (arith, h, k)

  -- what `return` gives

  ends_call : (t b line back : ℕ) → t < 2 ^ 8 → b < 2 ^ 8 → top (leaving_by TailCall t b back line ∷ leaving_by Return t 0 back line ∷ []) ≡ max (t + 1) (max (t + b) (t + (0 - 1)))
  ends_call t b line back t_fits b_fits =
      let e = top_more (leaving_by TailCall t b back line) (leaving_by Return t 0 back line ∷ []) in
      let f = one_tail t b back t_fits b_fits in
      let g = one_return t 0 back t_fits (lit< tt) in
      omega (arith, e, f, g)

  call_last_takes : (hidden : List ℕ) (ups : ℕ) (f : Exp) (es : Exps) (size t j line back : ℕ) → ExpFinds f hidden size ups → ExpsFind es hidden size ups → size ≤ t → t + max (room_of cs f 2) (max (room_of_list cs 1 es None) 1) ≤ 255 →
      Takes t (max (room_of cs f 2) (max (room_of_list cs 1 es None) 1)) (call_last cs f es t j line back)
  call_last_takes hidden ups f es size t j line back known all_known above small =
      let some = own_room cs f in
      let l = room_of_list cs 1 es None in
      let b = list_field 0 es in
      let few = field_room cs es 0 in
      let counted = count_room cs es 1 in
      call_takes t (room_of cs f 2) l b 0 1 (exp_code cs f t j 2) (exps_code cs es None (t + 1) (j + made_by f) line) (leaving_by TailCall t b back line ∷ leaving_by Return t 0 back line ∷ []) some
      (exp_takes cs hidden ups f size t j 2 known above (lit< tt) (omega arith))
      (exps_take cs hidden ups es None 1 t (t + 1) size (j + made_by f) line refl all_known (omega arith) (lit< tt) (omega arith))
      (ends_call t b line back (omega arith) (omega (arith, few, counted, some))) (omega (arith, few, counted, some)) (omega arith) (omega arith)

  method_last_takes : (hidden : List ℕ) (ups : ℕ) (object : Exp) (name : List ℕ) (es : Exps) (size t j line back : ℕ) → ExpFinds object hidden size ups → ExpsFind es hidden size ups → size ≤ t →
      t + max (room_of cs object 2) (max (max (room_of_self cs name) (room_of_list cs 2 es None)) 1) ≤ 255 →
      Takes t (max (room_of cs object 2) (max (max (room_of_self cs name) (room_of_list cs 2 es None)) 1)) (method_last cs object name es t j line back)
  method_last_takes hidden ups object name es size t j line back known all_known above small =
      let some = own_room cs object in
      let l = room_of_list cs 2 es None in
      let b = list_field 1 es in
      let few = field_room cs es 1 in
      let counted = count_room cs es 2 in
      let two = (self_room cs name).0 in
      let x = seat (local_of object) t in
      method_takes t (room_of cs object 2) (room_of_self cs name) l b 0 1 (unless (local_of object) (exp_code cs object t j 2)) (self_code cs name x t line) (exps_code cs es None (t + 2) (j + made_by object) line)
      (leaving_by TailCall t b back line ∷ leaving_by Return t 0 back line ∷ []) some two
      (object_takes cs hidden ups object (exp_takes cs hidden ups object) size t j known above (omega arith))
      (self_top cs name x t line (seat_low cs hidden ups object size t known above) (omega arith))
      (exps_take cs hidden ups es None 2 t (t + 2) size (j + made_by object) line refl all_known (omega arith) (lit< tt) (omega arith))
      (ends_call t b line back (omega (arith, small, two)) (omega (arith, small, few, counted, some))) (omega (arith, few, counted, some)) (omega arith) (omega arith)

  abbrev ReturnTakes : Bool → Exps → Type 0
  ReturnTakes closing es = (hidden : List ℕ) (ups size t j line back : ℕ) → ExpsFind es hidden size ups → size ≤ t → t + room_of_last cs es ≤ 254 → ListTakes t t (room_of_last cs es) (return_code cs closing es t j line back)

  listed_last_take : (hidden : List ℕ) (ups : ℕ) (es : Exps) (size t j line back : ℕ) → ExpsFind es hidden size ups → size ≤ t → t + room_of_list cs 0 es None ≤ 254 → ListTakes t t (room_of_list cs 0 es None) (listed_last cs es t j line back)
  listed_last_take hidden ups es size t j line back known above small =
      let few = field_room cs es 0 in
      let counted = count_room cs es 0 in
      let b = list_field 0 es in
      let code = exps_code cs es None t j line in
      let h = exps_take cs hidden ups es None 0 t t size j line (omega arith) known above (lit< tt) (omega arith) in
      let e = top_append code (leaving_by Return t b back line ∷ []) in
      let f = one_return t b back (omega arith) (omega (arith, few, counted)) in
      by (room_of_list cs 0 es None) (top code) (one (abc Return t b back (nat_lt 0 t))) (top (code ++ leaving_by Return t b back line ∷ [])) e h.0 h.1 (omega (arith, f, few, counted))
    where
      by : (r m o all : ℕ) → all ≡ max m o → m ≤ t + r → t + r ≤ max t m → o ≤ t + r → (all ≤ t + r) × (t + r ≤ max t all)
      by r m o all e p q s = (omega arith, omega arith)

  -- a local that is all of the list stands below
  values_last_take : (hidden : List ℕ) (ups : ℕ) (es : Exps) (size t j line back : ℕ) → ExpsFind es hidden size ups → size ≤ t → t + room_of_last cs es ≤ 254 → ListTakes t t (room_of_last cs es) (values_last cs es t j line back)
  values_last_take hidden ups es size t j line back known above small = by (lone_local es) refl small
    where
      by : (o : Option ℕ) → lone_local es ≡ o → t + room_unless o (room_of_list cs 0 es None) ≤ 254 → ListTakes t t (room_unless o (room_of_list cs 0 es None)) (returned_by cs o es t j line back)
      by None is small = listed_last_take hidden ups es size t j line back known above small
      by (Some r) is small =
          let lone = lone_is es r is in
          let alone = subst (λ z. ExpsFind z hidden size ups) lone.values known in
          let below = local_found hidden ups lone.value r size lone.is alone.0 in
          let f = any_return (nat_lt 0 t) r 2 back (omega (arith, below, above, small)) (lit< tt) in
          (omega (arith, f, below, above), omega arith)

  pub return_takes : (closing : Bool) (es : Exps) → ReturnTakes closing es
  return_takes true es hidden ups size t j line back known above small = values_last_take hidden ups es size t j line back known above small
  return_takes false (MoreExps (Call call_line f es) EndExps) hidden ups size t j line back known above small =
      let h = call_last_takes hidden ups f es size t j call_line back known.0.0 known.0.1 above (omega arith) in
      (omega (arith, h.0), omega (arith, h.1))
  return_takes false (MoreExps (Method call_line object name es) EndExps) hidden ups size t j line back known above small =
      let h = method_last_takes hidden ups object name.text es size t j call_line back known.0.0 known.0.1 above (omega arith) in
      (omega (arith, h.0), omega (arith, h.1))
  return_takes false es hidden ups size t j line back known above small = values_last_take hidden ups es size t j line back known above small

  last_less : (o : Option ℕ) (room : ℕ) → room_unless o room ≤ room
  last_less None room = omega arith
  last_less (Some r) room = omega arith

  pub return_room : (hidden : List ℕ) (ups stack : ℕ) (closing : Bool) (es : Exps) (t j line back : ℕ) → ExpsFind es hidden t ups → t + held_behind 0 es ≤ 250 →
      HasRoom stack (return_code cs closing es t j line back) (t + room_of_last cs es ≤ max t stack)
  return_room hidden ups stack closing es t j line back known few =
      let h = all_held cs es 0 in
      let less = last_less (lone_local es) (room_of_list cs 0 es None) in
      let all = return_takes closing es hidden ups t t j line back known (omega arith) (omega (arith, h, less)) in
      record { below = omega (arith, h, less, all.0); gives = λ small. omega (arith, all.1) }
