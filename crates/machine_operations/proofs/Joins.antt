-- Operands that are joined one after another.
use Rattle.std.proofs.Common.{◌≡◌, ℕ, zero, suc, ◌+◌, ◌-◌, ◌≤◌, List, [], ◌∷◌, ◌++◌, length, refl, ap, sym, subst, ◌∙◌, arith}
use Rattle.std.proofs.lemmas.List.{length-map}
use Rattle.int_core.specs.Operations.{concat}
use Rattle.int_core.specs.Value.{Value, shape, nth}
use Rattle.list_laws.proofs.Values.{nth_mid, drop_mid}
use Rattle.machine_core.specs.World.{for_concat, place_of}
use Rattle.machine_core.specs.Text.{Arg, args_of, read, read_register, operate}
use Rattle.machine_core.specs.InstructionRows.{joins}
use Rattle.machine_core.specs.FrameRows.{When, expand_by, calls_row, prepares, raises}
use Rattle.machine_core.specs.Moves.{on_own, settle, SettledShape, is_found, is_asked, is_fault, Row, only, run}
use Rattle.machine_sound.specs.Sound.{sizes}
use Rattle.table_core.specs.declared.value.Value.{Value as Kept}
use Rattle.lua_heap.specs.declared.world.World.{World as Memory}
use Rattle.lua_heap.specs.Plain.{plain, table}
use Rattle.lua_heap.specs.Reading.{value}
use Rattle.meta_ops.specs.declared.fault.Fault.{Fault as Cause}
use Rattle.meta_ops.specs.declared.outcome.Outcome.{Outcome}
use Rattle.meta_ops.specs.declared.outcome.Outcome.TheVariants.{Found, Ask, Fault}
use Rattle.meta_ops.specs.Heap.{IsIn}
use Rattle.meta_ops.specs.Law.{OperandsAreThere}
use Rattle.move_laws.specs.Memory.{CanDo, HasFrame, IsSound, Makes, ReadsSame}
use Rattle.move_laws.proofs.Rows.{act_is, can_do}
use Rattle.move_laws.proofs.Valid.{register_valid}
use Rattle.machine_moves.specs.Operations.{values_of, told_of}
use Rattle.machine_operations.specs.declared.joining.Joined.TheVariants.{Whole, Asks, Fails}
use Rattle.machine_operations.specs.Joining.{JoinsOne, Names, MayJoin, ComesTo, Joins}
use Rattle.machine_sound.proofs.RowEnds.{drop_front}

-- a register's value is there
pub operand_there : (W : Memory) (r : ℕ) (v : Kept) → IsSound W → OperandsAreThere → ((env : List Value) → Makes W W (on_own (read_register r)) env (value W.strings v ∷ []) (shape (value W.strings v)))
    → IsIn W.strings W.tables.objects v
operand_there W r v s law h =
    let V = plain W 0 in
    law (sizes s.primitives V) W.strings W.tables.objects v (length-map W.tables.objects (table W.strings)) (register_valid s.primitives V V r [] (value W.strings v) (shape (value W.strings v)) s.sound ((h []).is 0))

-- the first value that was read names what has been joined
pub names_first : (W : Memory) (first left : ℕ) (whole : Kept) (rest : List Value) → Names W first left (value W.strings whole ∷ rest) whole
names_first W first zero whole rest = refl
names_first W first (suc left) whole rest = λ u s h. refl

-- one operand is put in front

module _ (when : When) (now new : Memory) (first below : ℕ) (whole : Kept) (o : Outcome) (j : JoinsOne now new (first + below) whole o) (more : List Value) (n : Names now first (suc below) more whole) where
  abbrev u : Value
  u = value now.strings j.operand

  abbrev env : List Value
  env = more ++ u ∷ []

  abbrev xs : List Arg
  xs = read (length more) ∷ read 0 ∷ []

  abbrev goes_by : ℕ → SettledShape → Row
  goes_by n s = elim s [
    | is_found ↦ prepares [] (only n (expand_by when (joins first below (read 0))))
    | is_asked ↦ calls_row when (read n) (suc n) (for_concat below) []
    | is_fault text ↦ prepares [] (raises text)
  ]

  names_are : args_of env xs ≡ u ∷ value now.strings whole ∷ []
  names_are =
      ap (λ v. v ∷ nth env 0 ∷ []) (nth_mid more [] u)
      ∙ ap (λ v. u ∷ v ∷ []) (n u (shape u) j.reads)

  one_step : (fuel : ℕ) → run (expand_by when (joins first (suc below) (read 0))) more (plain now fuel)
      ≡ run (goes_by (length env) (told_of new.strings o)) (env ++ values_of new.strings (value now.strings whole ∷ []) o) (plain new fuel)
  one_step fuel =
      act_is (on_own (read_register (first + below))) (λ u _. expand_by when (operate concat (read u ∷ read 0 ∷ []) (for_concat below) [] (joins first below (read 0)))) more
      (plain now fuel) (plain now fuel) (u ∷ []) (shape u) ((j.reads more).is fuel)
      ∙ act_is (settle concat xs) goes_by env (plain now fuel) (plain new fuel) (values_of new.strings (value now.strings whole ∷ []) o) (told_of new.strings o) ((j.concats.makes env xs names_are).is fuel)

-- what has come of the operands so far

pub record GoesOn (when : When) (old now : Memory) (first count left : ℕ) (whole : Kept) (env : List Value) : Type 0 where
  pub more : List Value
  pub named : Names now first left more whole
  pub is : (fuel : ℕ) → run (expand_by when (joins first count (read 0))) env (plain old fuel) ≡ run (expand_by when (joins first left (read 0))) more (plain now fuel)

pub record Joining (old now : Memory) (first count left : ℕ) (last whole : Kept) : Type 0 where
  pub sound : IsSound now
  pub frame : HasFrame now
  pub same : ReadsSame old now
  pub rest : now ≡ record old { strings = now.strings }
  pub there : IsIn now.strings now.tables.objects whole
  pub within : left ≤ count
  pub safe : MayJoin now first left whole
  pub goes : (when : When) (env : List Value) → Names old first count env last → GoesOn when old now first count left whole env

-- one operand at least is left
pub one_left : {old now : Memory} {first count left below : ℕ} {last whole : Kept} → left ≡ suc below → Joining old now first count left last whole → Joining old now first count (suc below) last whole
one_left {old} {now} {first} {count} {last = last} {whole = whole} e j = subst (λ left. Joining old now first count left last whole) e j

pub begins : (old : Memory) (first count : ℕ) (last : Kept) → IsSound old → HasFrame old → IsIn old.strings old.tables.objects last → MayJoin old first count last → Joining old old first count count last last
begins old first count last s f t m = record {
  sound = s;
  frame = f;
  same = record { is = λ fuel. refl };
  rest = refl;
  there = t;
  within = omega arith;
  safe = m;
  goes = λ when env n. record { more = env; named = n; is = λ fuel. refl };
}

pub can_read : {W : Memory} {first below : ℕ} {whole : Kept} → MayJoin W first (suc below) whole → CanDo W (read_register (first + below))
can_read {W} {first} {below} m = can_do (read_register (first + below)) (λ u _. expand_by m.when (operate concat (read u ∷ read 0 ∷ []) (for_concat below) [] (joins first below (read 0)))) m.safe

same_frame : {old new : Memory} → ReadsSame old new → HasFrame old → HasFrame new
same_frame r f = record { place = f.place; is = ap place_of (r.is 0) ∙ f.is }

pub same_then : {old now new : Memory} → ReadsSame old now → ReadsSame now new → ReadsSame old new
same_then r q = record { is = λ fuel. q.is fuel ∙ r.is fuel }

pub rest_then : (old : Memory) {now new : Memory} → now ≡ record old { strings = now.strings } → new ≡ record now { strings = new.strings } → new ≡ record old { strings = new.strings }
rest_then old {now} {new} r q = q ∙ ap (λ (W : Memory). record W { strings = new.strings }) r

module _ {old now new : Memory} {first count below : ℕ} {last whole : Kept} (j : Joining old now first count (suc below) last whole) (r : ReadsSame now new) where
  -- a string was found
  module _ (v : Kept) (k : JoinsOne now new (first + below) whole (Found v)) where
    found_is : (when : When) (more : List Value) → Names now first (suc below) more whole → (fuel : ℕ)
        → run (expand_by when (joins first (suc below) (read 0))) more (plain now fuel) ≡ run (expand_by when (joins first below (read 0))) (value new.strings v ∷ []) (plain new fuel)
    found_is when more n fuel =
        let e = more ++ value now.strings k.operand ∷ [] in
        one_step when now new first below whole (Found v) k more n fuel
        ∙ ap (λ env. run (expand_by when (joins first below (read 0))) env (plain new fuel)) (drop_front e (value new.strings v ∷ []))

    pub found_goes : IsSound new → new ≡ record now { strings = new.strings } → Joining old new first count below last v
    found_goes s q = record {
      sound = s;
      frame = same_frame r j.frame;
      same = same_then j.same r;
      rest = rest_then old j.rest q;
      there = k.concats.there v refl;
      within = (let l = j.within in omega (arith, l));
      safe = record {
        when = j.safe.when;
        env = value new.strings v ∷ [];
        named = names_first new first below v [];
        safe = record { never = λ fuel e. j.safe.safe.never fuel (found_is j.safe.when j.safe.env j.safe.named fuel ∙ e) };
      };
      goes = λ when env n.
          let g = j.goes when env n in
          record { more = value new.strings v ∷ []; named = names_first new first below v []; is = λ fuel. g.is fuel ∙ found_is when g.more g.named fuel };
    }

  -- a handler is asked for
  module _ (handler object : Kept) (k : JoinsOne now new (first + below) whole (Ask handler object)) where
    asks_so : (when : When) (env : List Value) → Names old first count env last → ComesTo when old new first count env (Asks (record { handler = handler; left = object; right = whole; below = below }))
    asks_so when env n =
        let g = j.goes when env n in
        let e = g.more ++ value now.strings k.operand ∷ [] in
        let h = value new.strings handler in
        let left = value new.strings object in
        let right = value now.strings whole in
        let texts = k.concats.asked handler object refl in
        record {
          more = e ++ (h ∷ left ∷ right ∷ []);
          slot = length e;
          named = (nth_mid e (left ∷ right ∷ []) h, drop_mid e (left ∷ right ∷ []) h ∙ ap (λ texts. left ∷ value texts whole ∷ []) (sym texts));
          is = λ fuel. g.is fuel ∙ one_step when now new first below whole (Ask handler object) k g.more g.named fuel;
        }

    pub asks_joins : Joins old new first count last (Asks (record { handler = handler; left = object; right = whole; below = below }))
    asks_joins = record { comes = asks_so }

  -- an operand is at fault
  module _ (cause : Cause) (k : JoinsOne now new (first + below) whole (Fault cause)) where
    pub fails_joins : Joins old new first count last (Fails cause)
    fails_joins = record {
      comes = λ when env n.
          let g = j.goes when env n in
          record {
            more = g.more ++ value now.strings k.operand ∷ [] ++ [];
            slot = 0;
            named = tt;
            is = λ fuel. g.is fuel ∙ one_step when now new first below whole (Fault cause) k g.more g.named fuel;
          };
    }

pub whole_joins : {old now : Memory} {first count left : ℕ} {last whole : Kept} → left ≡ 0 → Joining old now first count left last whole → Joins old now first count last (Whole whole)
whole_joins {old} {now} {first} {count} {left} {last} {whole} e j = record {
  comes = λ when env n.
      let g = (subst (λ left. Joining old now first count left last whole) e j).goes when env n in
      record { more = g.more; slot = 0; named = g.named; is = g.is };
}
