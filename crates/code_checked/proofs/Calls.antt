-- Pieces that open and take lists of values: calls, `...`, returns and the items of a constructor.
use Rattle.std.proofs.Common.{◌≡◌, ℕ, ◌<◌, ◌≤◌, ◌^◌, ◌/◌, ◌%◌, lit<, Bool, true, false, not, cond, if◌then◌else◌, ◌&&◌, ◌==◌, [], ◌∷◌, Option, Some, None, refl, sym, ap, ap₂, ◌∙◌, arith, ltb-true, ne_eqb}
use Rattle.std.specs.Prelude.{nat_lt}
use Rattle.code_core.specs.declared.opcode.Opcode.{Opcode}
use Rattle.code_core.specs.declared.opcode.Opcode.TheVariants.{Jmp, Call, TailCall, VarArg, Return, SetList, NewTable, ExtraArg}
use Rattle.code_core.specs.Instruction.{abc, op_ax, a_of, b_of, c_of}
use Rattle.code_core.specs.declared.instruction.Instruction.{Instruction}
use Rattle.code_core.specs.Fields.{is_whole, constants, upvalues, second_half, stands_second, takes_list, opens}
use Rattle.code_core.specs.Check.{function_there, varargs_fit}
use Rattle.code_core.specs.Prototype.{Prototype}
use Rattle.code_core.proofs.FieldLemmas.{opcode_of-abc, a_of-abc, b_of-abc, c_of-abc, opcode_of-ax}
use Rattle.code_of.specs.Coded.{with_abc, leaving_by}
use Rattle.code_of.specs.Expressions.{set_list}
use Rattle.code_checked.proofs.Pieces.{Seam, closed, listed, returned, Piece}
use Rattle.code_checked.proofs.Units.{starts_by, leaves_none, begins_none, Takes, Gives, Single, Plain, StillCouple, one, two}
use Rattle.code_checked.proofs.Words.{abc_fits, ax_fits, list_none, pair, first_new_table, last_extra, joined, joined_set_list}
use Rattle.code_of.proofs.Fields.{k_of-abc}
use Rattle.list_laws.proofs.Tests.{is_zero}

-- a field that says how many values there are, one more than their number, or 0 for an open list

abbrev pub TakesField : Seam → (t field : ℕ) → Type 0
TakesField closed t b = 0 < b
TakesField (listed r) t b = (b ≡ 0) × (t ≤ r)
TakesField returned t b = ⊥

abbrev pub GivesField : Seam → (t field : ℕ) → Type 0
GivesField closed t c = 0 < c
GivesField (listed r) t c = (c ≡ 0) × (r ≡ t)
GivesField returned t c = ⊥

not_zero : (n : ℕ) → 0 < n → (n == 0) ≡ false
not_zero n h = ne_eqb n 0 (λ e. absurd (omega (arith, h, e)))

in_front_of : (a v : Bool) → v ≡ true → not (a && v) ≡ true → (not a && v) ≡ true
in_front_of true true h k = k
in_front_of true false h k = absurd (cc)
in_front_of false true h k = refl
in_front_of false false h k = h

module _ (p : Prototype) where
  takes_by : (f : Seam) (op : Opcode) (a b c : ℕ) (k : Bool) → a < 2 ^ 8 → b < 2 ^ 8 → takes_list op (abc op a b c k) ≡ (b_of (abc op a b c k) == 0) → TakesField f a b → Takes p f op (abc op a b c k)
  takes_by closed op a b c k af bf e h = e ∙ ap (λ n. n == 0) (b_of-abc op a b c k af bf) ∙ not_zero b h
  takes_by (listed r) op a b c k af bf e h =
      let same = a_of-abc op a b c k af in
      let le = h.1 in
      (e ∙ ap (λ n. n == 0) (b_of-abc op a b c k af bf) ∙ is_zero b h.0, omega (arith, same, le))
  takes_by returned op a b c k af bf e h = absurd h

  gives_by : (m : Seam) (op : Opcode) (a b c : ℕ) (k : Bool) → a < 2 ^ 8 → b < 2 ^ 8 → c < 2 ^ 8 → opens op (abc op a b c k) ≡ (if c_of (abc op a b c k) == 0 then Some (a_of (abc op a b c k)) else None) → GivesField m a c
      → Gives p m op (abc op a b c k)
  gives_by closed op a b c k af bf cf e h =
      e ∙ ap₂ (λ n r. if n == 0 then Some r else None) (c_of-abc op a b c k af bf cf) (a_of-abc op a b c k af) ∙ ap (λ t. if t then Some a else None) (not_zero c h)
  gives_by (listed r) op a b c k af bf cf e h =
      e ∙ ap₂ (λ n r. if n == 0 then Some r else None) (c_of-abc op a b c k af bf cf) (a_of-abc op a b c k af) ∙ ap (λ t. if t then Some a else None) (is_zero c h.0) ∙ ap Some (sym h.1)
  gives_by returned op a b c k af bf cf e h = absurd h

  -- an opcode that stands alone, names no constant and no upvalue, and has no function
  record IsBare (op : Opcode) : Type 0 where
    whole : is_whole op ≡ true
    alone : stands_second op ≡ false
    constant : (w : Instruction) (extra : Option ℕ) → constants op w extra ≡ []
    upvalue : (w : Instruction) → upvalues op w ≡ []
    inner : (w : Instruction) → function_there p op w ≡ true
    half : (w : Instruction) → second_half op w ≡ None

  -- its instruction, given the lists that it takes and gives
  abbrev bare : (f m : Seam) (op : Opcode) → IsBare op → (a b c : ℕ) (k : Bool) → a < 2 ^ 8 → b < 2 ^ 8 → c < 2 ^ 8 → Gives p m op (abc op a b c k) → Takes p f op (abc op a b c k)
      → ((pc : ℕ) → not (pc == 0 && p.own.vararg) ≡ true → varargs_fit p pc op ≡ true) → Single p f m (abc op a b c k)
  bare f m op s a b c k af bf cf gives takes varargs = record {
    opcode = op;
    is = opcode_of-abc op a b c k;
    whole = s.whole;
    fits = abc_fits op a b c k af bf cf;
    alone = s.alone;
    constant = λ extra. list_none p _ _ (s.constant (abc op a b c k) extra);
    upvalue = list_none p _ _ (s.upvalue (abc op a b c k));
    inner = λ pc here. s.inner (abc op a b c k);
    half = s.half (abc op a b c k);
    gives = gives;
    takes = takes;
    varargs = varargs;
  }

  pub call_piece : {H : Type 0} {pc : ℕ} (f m : Seam) (t b c line : ℕ) → t < 2 ^ 8 → b < 2 ^ 8 → c < 2 ^ 8 → TakesField f t b → GivesField m t c → Piece p H f m pc (with_abc Call t b c line ∷ [])
  call_piece {H} {pc} f m t b c line tf bf cf takes gives = one p f m (abc Call t b c false) line (record {
    single = bare f m Call
        (record { whole = refl; alone = refl; constant = λ w extra. refl; upvalue = λ w. refl; inner = λ w. refl; half = λ w. refl })
        t b c false tf bf cf (gives_by m Call t b c false tf bf cf refl gives) (takes_by f Call t b c false tf bf refl takes) (λ pc h. h);
    still = λ pc. refl;
  })

  pub vararg_piece : {H : Type 0} {pc : ℕ} (m : Seam) (t c line : ℕ) → t < 2 ^ 8 → c < 2 ^ 8 → p.own.vararg ≡ true → GivesField m t c → Piece p H closed m pc (with_abc VarArg t 0 c line ∷ [])
  vararg_piece {H} {pc} m t c line tf cf has gives = one p closed m (abc VarArg t 0 c false) line (record {
    single = bare closed m VarArg
        (record { whole = refl; alone = refl; constant = λ w extra. refl; upvalue = λ w. refl; inner = λ w. refl; half = λ w. refl })
        t 0 c false tf (lit< tt) cf (gives_by m VarArg t 0 c false tf (lit< tt) cf refl gives) refl (λ pc h. in_front_of (pc == 0) p.own.vararg has h);
    still = λ pc. refl;
  })

  pub any_return_piece : {H : Type 0} {pc : ℕ} (f : Seam) (flag : Bool) (t b back line : ℕ) → t < 2 ^ 8 → b < 2 ^ 8 → back < 2 ^ 8 → TakesField f t b → Piece p H f returned pc ((abc Return t b back flag, line) ∷ [])
  any_return_piece {H} {pc} f flag t b back line tf bf cf takes = one p f returned (abc Return t b back flag) line (record {
    single = bare f returned Return
        (record { whole = refl; alone = refl; constant = λ w extra. refl; upvalue = λ w. refl; inner = λ w. refl; half = λ w. refl })
        t b back flag tf bf cf (refl, refl) (takes_by f Return t b back flag tf bf refl takes) (λ pc h. h);
    still = λ pc. refl;
  })

  pub return_piece : {H : Type 0} {pc : ℕ} (f : Seam) (t b back line : ℕ) → t < 2 ^ 8 → b < 2 ^ 8 → back < 2 ^ 8 → TakesField f t b → Piece p H f returned pc (leaving_by Return t b back line ∷ [])
  return_piece {H} {pc} f t b back line tf bf cf takes = any_return_piece f (nat_lt 0 t) t b back line tf bf cf takes

  pub tail_piece : {H : Type 0} {pc : ℕ} (f : Seam) (t b back line : ℕ) → t < 2 ^ 8 → b < 2 ^ 8 → back < 2 ^ 8 → TakesField f t b → Piece p H f (listed t) pc (leaving_by TailCall t b back line ∷ [])
  tail_piece {H} {pc} f t b back line tf bf cf takes = one p f (listed t) (abc TailCall t b back (nat_lt 0 t)) line (record {
    single = bare f (listed t) TailCall
        (record { whole = refl; alone = refl; constant = λ w extra. refl; upvalue = λ w. refl; inner = λ w. refl; half = λ w. refl })
        t b back (nat_lt 0 t) tf bf cf (ap Some (a_of-abc TailCall t b back (nat_lt 0 t) tf)) (takes_by f TailCall t b back (nat_lt 0 t) tf bf refl takes) (λ pc h. h);
    still = λ pc. refl;
  })

  near_list : (f : Seam) (t b items : ℕ) → t < 2 ^ 8 → b < 2 ^ 8 → items < 2 ^ 8 → TakesField f t b → Plain p f closed (abc SetList t b items false)
  near_list f t b items tf bf cf takes = record {
    single = record {
      opcode = SetList;
      is = opcode_of-abc SetList t b items false;
      whole = refl;
      fits = abc_fits SetList t b items false tf bf cf;
      alone = refl;
      constant = λ extra. refl;
      upvalue = refl;
      inner = λ pc here. refl;
      half = ap (λ b. if b then Some ExtraArg else None) (k_of-abc SetList t b items false tf);
      gives = refl;
      takes = takes_by f SetList t b items false tf bf refl takes;
      varargs = λ pc h. h;
    };
    still = λ pc. refl;
  }

  far_list : (f : Seam) (t b items more : ℕ) → t < 2 ^ 8 → b < 2 ^ 8 → items < 2 ^ 8 → more < 2 ^ 25 → TakesField f t b → StillCouple p f (abc SetList t b items true) (op_ax ExtraArg more)
  far_list f t b items more tf bf cf xf takes = record {
    couple = joined p f SetList ExtraArg (joined_set_list p) (last_extra p) (abc SetList t b items true) (op_ax ExtraArg more) (opcode_of-abc SetList t b items true) (abc_fits SetList t b items true tf bf cf) refl
        (takes_by f SetList t b items true tf bf refl takes) (ap (λ b. if b then Some ExtraArg else None) (k_of-abc SetList t b items true tf)) (opcode_of-ax ExtraArg more) (ax_fits ExtraArg more xf) refl;
    still = λ pc. refl;
  }

  pub list_piece : {H : Type 0} {pc : ℕ} (f : Seam) (t b items line : ℕ) → t < 2 ^ 8 → b < 2 ^ 8 → (H → items < 2 ^ 33) → TakesField f t b → Piece p H f closed pc (set_list t b items line)
  list_piece {H} {pc} f t b items line tf bf few takes = by (nat_lt items 256) refl
    where
      by : (near : Bool) → nat_lt items 256 ≡ near
          → Piece p H f closed pc (cond near (with_abc SetList t b items line ∷ []) ((abc SetList t b (items % 256) true, line) ∷ (op_ax ExtraArg (items / 256), line) ∷ []))
      by true e = let cf : items < 2 ^ 8 = ltb-true items 256 e in one p f closed (abc SetList t b items false) line (near_list f t b items tf bf cf takes)
      by false e =
          let cf : items % 256 < 2 ^ 8 = omega arith in
          let w = abc SetList t b (items % 256) true in
          let v = op_ax ExtraArg (items / 256) in
          let is = opcode_of-abc SetList t b (items % 256) true in
          record {
            starts = starts_by p f SetList (w, line) ((v, line) ∷ []) is refl (takes_by f SetList t b (items % 256) true tf bf refl takes);
            ends = (leaves_none ExtraArg v (opcode_of-ax ExtraArg (items / 256)) refl, begins_none Jmp ExtraArg v (opcode_of-ax ExtraArg (items / 256)) refl);
            kept = λ h. (let fits = few h in let xf : items / 256 < 2 ^ 25 = omega (arith, fits) in (two p {H = H} {pc = pc} f w v line line (far_list f t b (items % 256) (items / 256) tf bf cf xf takes)).kept h);
          }

  pub table_piece : {H : Type 0} {pc : ℕ} (t line : ℕ) → t < 2 ^ 8 → Piece p H closed closed pc (with_abc NewTable t 0 0 line ∷ (op_ax ExtraArg 0, line) ∷ [])
  table_piece {H} {pc} t line tf = two p closed (abc NewTable t 0 0 false) (op_ax ExtraArg 0) line line (record {
    couple = pair p NewTable ExtraArg (first_new_table p) (last_extra p) (abc NewTable t 0 0 false) (op_ax ExtraArg 0) (opcode_of-abc NewTable t 0 0 false) (abc_fits NewTable t 0 0 false tf (lit< tt) (lit< tt))
        (opcode_of-ax ExtraArg 0) (ax_fits ExtraArg 0 (lit< tt)) refl;
    still = λ pc. refl;
  })
