-- Pieces of one instruction and of a pair.
use Rattle.std.proofs.Common.{◌≡◌, ℕ, suc, ◌+◌, ◌≤◌, ℤ, pos, negsuc, Bool, true, false, not, cond, ◌&&◌, ◌||◌, ◌==◌, List, [], ◌∷◌, length, Option, Some, None, option_and_then, slice_get, refl, sym, ap, subst, ◌∙◌, arith, eq-eqb, le-leb}
use Rattle.std.specs.Prelude.{nat_lt, nat_le}
use Rattle.std.specs.List.{list_all}
use Rattle.code_core.specs.declared.opcode.Opcode.{Opcode}
use Rattle.code_core.specs.declared.opcode.Opcode.TheVariants.{Jmp, Return, ExtraArg}
use Rattle.code_core.specs.declared.instruction.Instruction.{Instruction}
use Rattle.code_core.specs.Opcode.{number_of}
use Rattle.code_core.specs.Instruction.{opcode_of, a_of, ax_of}
use Rattle.code_core.specs.Fields.{is_whole, constants, upvalues, target, second_half, stands_second, takes_list, opens}
use Rattle.code_core.specs.Prototype.{Prototype}
use Rattle.code_core.specs.Writable.{word_fits}
use Rattle.code_core.specs.Check.{at, in_front, there, is_same, fixed, open_from, opened, leaves, left_by, mark, is_fixed, begins_with, agrees, goes_on, is_second, extra_at, constant_is, function_there, lands, is_landing, lands_fixed, takes_from, is_taken, varargs_fit}
use Rattle.code_of.specs.Coded.{Coded}
use Rattle.code_checked.proofs.Pieces.{Seam, closed, listed, returned, Leaves, Front, Starts, Behind, Land, Lands, Has, AllKept, Piece}
use Rattle.list_laws.proofs.Tests.{both_true}

-- seams and fields

leaves_is : (op : Opcode) (w : Instruction) → opcode_of w ≡ Some op → leaves w ≡ opened (opens op w)
leaves_is op w is = ap (λ o. opened (option_and_then (λ op. opens op w) o)) is

pub leaves_none : (op : Opcode) (w : Instruction) → opcode_of w ≡ Some op → opens op w ≡ None → leaves w ≡ fixed
leaves_none op w is e = leaves_is op w is ∙ ap opened e

leaves_some : (op : Opcode) (w : Instruction) (r : ℕ) → opcode_of w ≡ Some op → opens op w ≡ Some r → leaves w ≡ open_from r
leaves_some op w r is e = leaves_is op w is ∙ ap opened e

begins_is : (second op : Opcode) (w : Instruction) → opcode_of w ≡ Some op → begins_with second w ≡ there (is_same second) (second_half op w)
begins_is second op w is = ap (there (λ op. there (is_same second) (second_half op w))) is

pub begins_none : (second op : Opcode) (w : Instruction) → opcode_of w ≡ Some op → second_half op w ≡ None → begins_with second w ≡ false
begins_none second op w is e = begins_is second op w is ∙ ap (there (is_same second)) e

itself : (op : Opcode) → is_same op op ≡ true
itself op = eq-eqb (number_of op) (number_of op) refl

pub begins_some : (second op : Opcode) (w : Instruction) → opcode_of w ≡ Some op → second_half op w ≡ Some second → begins_with second w ≡ true
begins_some second op w is e = begins_is second op w is ∙ ap (there (is_same second)) e ∙ itself second

front_fixed : (o : Option Instruction) → Front closed o → left_by o ≡ fixed
front_fixed None h = refl
front_fixed (Some w) h = h.0

front_begins : (o : Option Instruction) → Front closed o → there (begins_with Jmp) o ≡ false
front_begins None h = refl
front_begins (Some w) h = h.1

front_list : (r : ℕ) (o : Option Instruction) → Front (listed r) o → left_by o ≡ open_from r
front_list r None h = absurd h
front_list r (Some w) h = h

or_true : (b c : Bool) → c ≡ true → (not b || c) ≡ true
or_true true c h = h
or_true false c h = refl

not_first : (b c : Bool) → b ≡ false → (not b || c) ≡ true
not_first b c h = ap (λ b. not b || c) h

module _ (p : Prototype) where
  not_second : (op : Opcode) (q : ℕ) → stands_second op ≡ false → there (begins_with Jmp) (in_front p q) ≡ false → is_second p q op ≡ false
  not_second Jmp q h k = k
  not_second _ q h k = h

  lands_at : (q : ℕ) → Land p q → lands p (pos q) ≡ true
  lands_at q l =
      ap (there (λ w. not (there (is_second p q) (opcode_of w)))) l.there.here
      ∙ ap (λ o. not (there (is_second p q) o)) l.there.head.is
      ∙ ap not (not_second l.there.head.opcode q l.there.head.alone (front_begins (in_front p q) l.front))

  pub is_landing_of : (o : Option ℤ) → Lands p o → is_landing p o ≡ true
  is_landing_of None h = refl
  is_landing_of (Some (pos q)) h = lands_at q h
  is_landing_of (Some (negsuc n)) h = absurd h

  pub lands_fixed_of : (o : Option ℤ) → Lands p o → lands_fixed p o ≡ true
  lands_fixed_of None h = refl
  lands_fixed_of (Some (pos q)) h = ap is_fixed (front_fixed (in_front p q) h.front)
  lands_fixed_of (Some (negsuc n)) h = absurd h

  -- an instruction between seams

  abbrev pub Takes : Seam → Opcode → Instruction → Type 0
  Takes closed op w = takes_list op w ≡ false
  Takes (listed r) op w = (takes_list op w ≡ true) × (a_of w ≤ r)
  Takes returned op w = ⊥

  abbrev pub Gives : Seam → Opcode → Instruction → Type 0
  Gives closed op w = opens op w ≡ None
  Gives (listed r) op w = opens op w ≡ Some r
  Gives returned op w = (opens op w ≡ None) × (op ≡ Return)

  takes_fit : (f : Seam) (pc : ℕ) (op : Opcode) (w : Instruction) → Takes f op w → Front f (in_front p pc) → (not (takes_list op w) || not (is_fixed (mark p pc))) ≡ true
  takes_fit closed pc op w takes front = not_first (takes_list op w) (not (is_fixed (mark p pc))) takes
  takes_fit (listed r) pc op w takes front = or_true (takes_list op w) (not (is_fixed (mark p pc))) (ap (λ k. not (is_fixed k)) (front_list r (in_front p pc) front))
  takes_fit returned pc op w takes front = absurd takes

  list_taken : (m : Seam) (pc : ℕ) (op : Opcode) (w : Instruction) → opcode_of w ≡ Some op → Gives m op w → Behind p m (pc + 1) → is_taken p pc (leaves w) ≡ true
  list_taken closed pc op w is gives behind = ap (is_taken p pc) (leaves_none op w is gives)
  list_taken (listed r) pc op w is gives behind = ap (is_taken p pc) (leaves_some op w r is gives) ∙ ap (there (takes_from r)) behind.here ∙ behind.takes
  list_taken returned pc op w is gives behind = ap (is_taken p pc) (leaves_none op w is gives.0)

  leaves_by : (m : Seam) (op : Opcode) (w : Instruction) → opcode_of w ≡ Some op → second_half op w ≡ None → Gives m op w → Leaves m w
  leaves_by closed op w is half gives = (leaves_none op w is gives, begins_none Jmp op w is half)
  leaves_by (listed r) op w is half gives = leaves_some op w r is gives
  leaves_by returned op w is half gives = (leaves_none op w is gives.0, begins_none Jmp op w is half, is ∙ ap Some gives.1)

  pub starts_by : (f : Seam) (op : Opcode) (x : Coded) (xs : List Coded) → opcode_of x.0 ≡ Some op → stands_second op ≡ false → Takes f op x.0 → Starts f (x ∷ xs)
  starts_by closed op x xs is alone takes = record { opcode = op; is = is; alone = alone }
  starts_by (listed r) op x xs is alone takes =
      let w = x.0 in
      both_true (there (λ op. takes_list op w) (opcode_of w)) (nat_le (a_of w) r) (ap (there (λ op. takes_list op w)) is ∙ takes.0) (le-leb (a_of w) r takes.1)
  starts_by returned op x xs is alone takes = absurd takes

  -- an instruction that is no half of a pair
  pub record Single (f m : Seam) (w : Instruction) : Type 0 where
    pub opcode : Opcode
    pub is : opcode_of w ≡ Some opcode
    pub whole : is_whole opcode ≡ true
    pub fits : word_fits w ≡ true
    pub alone : stands_second opcode ≡ false
    pub constant : (extra : Option ℕ) → list_all (λ used. there (constant_is used.0) (slice_get p.own.constants used.1)) (constants opcode w extra) ≡ true
    pub upvalue : list_all (λ u. nat_lt u (length p.own.upvalues)) (upvalues opcode w) ≡ true
    pub inner : (pc : ℕ) → at p pc ≡ Some w → function_there p opcode w ≡ true
    pub half : second_half opcode w ≡ None
    pub gives : Gives m opcode w
    pub takes : Takes f opcode w
    pub varargs : (pc : ℕ) → not (pc == 0 && p.own.vararg) ≡ true → varargs_fit p pc opcode ≡ true

  pub single_kept : (f m : Seam) (pc line : ℕ) (w : Instruction) (s : Single f m w) → Has p pc ((w, line) ∷ []) → Front f (in_front p pc) → Behind p m (pc + 1) → Lands p (target pc s.opcode w) → AllKept p pc ((w, line) ∷ [])
  single_kept f m pc line w s has front behind jump = (
    record {
      opcode = s.opcode;
      is = s.is;
      whole = s.whole;
      fits = s.fits;
      constant = s.constant (extra_at p pc);
      upvalue = s.upvalue;
      inner = s.inner pc has.0;
      lands = is_landing_of (target pc s.opcode w) jump;
      begins = ap (goes_on p pc w) s.half;
      second = not_first (stands_second s.opcode) (there (begins_with s.opcode) (in_front p pc)) s.alone;
      taken = list_taken m pc s.opcode w s.is s.gives behind;
      takes = takes_fit f pc s.opcode w s.takes front;
      fixed = lands_fixed_of (target pc s.opcode w) jump;
      varargs = s.varargs pc has.1;
    },
    tt,
  )

  -- one that does not jump
  pub record Plain (f m : Seam) (w : Instruction) : Type 0 where
    pub single : Single f m w
    pub still : (pc : ℕ) → target pc single.opcode w ≡ None

  no_target : (o : Option ℤ) → o ≡ None → Lands p o
  no_target o e = subst (λ o. Lands p o) (sym e) tt

  pub one : {H : Type 0} {pc : ℕ} (f m : Seam) (w : Instruction) (line : ℕ) → Plain f m w → Piece p H f m pc ((w, line) ∷ [])
  one {H} {pc} f m w line a = record {
    starts = starts_by f a.single.opcode (w, line) [] a.single.is a.single.alone a.single.takes;
    ends = leaves_by m a.single.opcode w a.single.is a.single.half a.single.gives;
    kept = λ h has front behind. single_kept f m pc line w a.single has front behind (no_target _ (a.still pc));
  }

  -- one that does, to a place that what stands around it supposes
  pub one_jump : {H : Type 0} {pc : ℕ} (m : Seam) (w : Instruction) (line : ℕ) (s : Single closed m w) → (H → Lands p (target pc s.opcode w)) → Piece p H closed m pc ((w, line) ∷ [])
  one_jump {H} {pc} m w line s to = record {
    starts = starts_by closed s.opcode (w, line) [] s.is s.alone s.takes;
    ends = leaves_by m s.opcode w s.is s.half s.gives;
    kept = λ h has front behind. single_kept closed m pc line w s has front behind (to h);
  }

  -- pairs

  abbrev pub extra_of : Instruction → Option ℕ
  extra_of v = cond (there (is_same ExtraArg) (opcode_of v)) (Some (ax_of v)) None

  pub record Couple (f : Seam) (w v : Instruction) : Type 0 where
    pub opcode : Opcode
    pub is : opcode_of w ≡ Some opcode
    pub whole : is_whole opcode ≡ true
    pub fits : word_fits w ≡ true
    pub alone : stands_second opcode ≡ false
    pub constant : list_all (λ used. there (constant_is used.0) (slice_get p.own.constants used.1)) (constants opcode w (extra_of v)) ≡ true
    pub upvalue : list_all (λ u. nat_lt u (length p.own.upvalues)) (upvalues opcode w) ≡ true
    pub inner : function_there p opcode w ≡ true
    pub still : (pc : ℕ) → target pc opcode w ≡ None
    pub gives : opens opcode w ≡ None
    pub takes : Takes f opcode w
    pub varargs : (pc : ℕ) → not (pc == 0 && p.own.vararg) ≡ true → varargs_fit p pc opcode ≡ true
    pub second : Opcode
    pub half : second_half opcode w ≡ Some second
    pub agree : agrees w v second ≡ true
    pub second_is : opcode_of v ≡ Some second
    pub second_whole : is_whole second ≡ true
    pub second_fits : word_fits v ≡ true
    pub second_constant : (extra : Option ℕ) → list_all (λ used. there (constant_is used.0) (slice_get p.own.constants used.1)) (constants second v extra) ≡ true
    pub second_upvalue : list_all (λ u. nat_lt u (length p.own.upvalues)) (upvalues second v) ≡ true
    pub second_inner : function_there p second v ≡ true
    pub second_half_none : second_half second v ≡ None
    pub second_gives : opens second v ≡ None
    pub second_takes : takes_list second v ≡ false
    pub second_varargs : (pc : ℕ) → not (pc == 0 && p.own.vararg) ≡ true → varargs_fit p pc second ≡ true

  pub couple_kept : (f : Seam) (pc line other : ℕ) (w v : Instruction) (c : Couple f w v) → Has p pc ((w, line) ∷ (v, other) ∷ []) → Front f (in_front p pc) → Lands p (target (suc pc) c.second v)
      → AllKept p pc ((w, line) ∷ (v, other) ∷ [])
  couple_kept f pc line other w v c has front jump =
      let e : suc pc ≡ pc + 1 = omega arith in
      let next : at p (pc + 1) ≡ Some v = subst (λ q. at p q ≡ Some v) e has.2.0 in
      let in_pair : there (begins_with c.second) (in_front p (suc pc)) ≡ true = ap (there (begins_with c.second)) has.0 ∙ begins_some c.second c.opcode w c.is c.half in
      let none = no_target (target pc c.opcode w) (c.still pc) in (
        record {
          opcode = c.opcode;
          is = c.is;
          whole = c.whole;
          fits = c.fits;
          constant = ap (λ x. list_all (λ used. there (constant_is used.0) (slice_get p.own.constants used.1)) (constants c.opcode w (option_and_then (λ w. cond (there (is_same ExtraArg) (opcode_of w)) (Some (ax_of w)) None) x))) next ∙ c.constant;
          upvalue = c.upvalue;
          inner = c.inner;
          lands = is_landing_of (target pc c.opcode w) none;
          begins = ap (goes_on p pc w) c.half ∙ ap (there (λ u. there (is_same c.second) (opcode_of u) && agrees w u c.second)) next
              ∙ both_true (there (is_same c.second) (opcode_of v)) (agrees w v c.second) (ap (there (is_same c.second)) c.second_is ∙ itself c.second) c.agree;
          second = not_first (stands_second c.opcode) (there (begins_with c.opcode) (in_front p pc)) c.alone;
          taken = ap (is_taken p pc) (leaves_none c.opcode w c.is c.gives);
          takes = takes_fit f pc c.opcode w c.takes front;
          fixed = lands_fixed_of (target pc c.opcode w) none;
          varargs = c.varargs pc has.1;
        },
        (
          record {
            opcode = c.second;
            is = c.second_is;
            whole = c.second_whole;
            fits = c.second_fits;
            constant = c.second_constant (extra_at p (suc pc));
            upvalue = c.second_upvalue;
            inner = c.second_inner;
            lands = is_landing_of (target (suc pc) c.second v) jump;
            begins = ap (goes_on p (suc pc) v) c.second_half_none;
            second = or_true (stands_second c.second) (there (begins_with c.second) (in_front p (suc pc))) in_pair;
            taken = ap (is_taken p (suc pc)) (leaves_none c.second v c.second_is c.second_gives);
            takes = not_first (takes_list c.second v) (not (is_fixed (mark p (suc pc)))) c.second_takes;
            fixed = lands_fixed_of (target (suc pc) c.second v) jump;
            varargs = c.second_varargs (suc pc) has.2.1;
          },
          tt,
        ),
      )

  pub two_jump : {H : Type 0} {pc : ℕ} (f : Seam) (w v : Instruction) (line other : ℕ) (c : Couple f w v) → (H → Lands p (target (suc pc) c.second v)) → Piece p H f closed pc ((w, line) ∷ (v, other) ∷ [])
  two_jump {H} {pc} f w v line other c to = record {
    starts = starts_by f c.opcode (w, line) ((v, other) ∷ []) c.is c.alone c.takes;
    ends = (leaves_none c.second v c.second_is c.second_gives, begins_none Jmp c.second v c.second_is c.second_half_none);
    kept = λ h has front behind. couple_kept f pc line other w v c has front (to h);
  }

  pub record StillCouple (f : Seam) (w v : Instruction) : Type 0 where
    pub couple : Couple f w v
    pub still : (pc : ℕ) → target pc couple.second v ≡ None

  pub two : {H : Type 0} {pc : ℕ} (f : Seam) (w v : Instruction) (line other : ℕ) → StillCouple f w v → Piece p H f closed pc ((w, line) ∷ (v, other) ∷ [])
  two {H} {pc} f w v line other c = two_jump f w v line other c.couple (λ h. no_target _ (c.still (suc pc)))
