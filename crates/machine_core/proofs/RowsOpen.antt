-- Each instruction's row opens what a function that it makes shares, and what is left of it by each wait makes no function.
use Rattle.std.proofs.Common.{◌≡◌, ℕ, Bool, true, false, cond, List, [], ◌∷◌, refl, ⊎_elim}
use Rattle.std.specs.Prelude.{nat_eq}
use Rattle.std.specs.List.{list_any}
use Rattle.std.proofs.Math.Bool.{or-true}
use Rattle.std.proofs.lemmas.Bool.Decides.{eqb_tells}
use Rattle.code_core.specs.declared.opcode.Opcode.{Opcode}
use Rattle.code_core.specs.declared.opcode.Opcode.TheVariants.{Closure}
use Rattle.code_core.specs.declared.instruction.Instruction.{Instruction}
use Rattle.code_core.specs.declared.proto.UpDesc.{UpDesc}
use Rattle.code_core.specs.Prototype.{Prototype}
use Rattle.code_core.specs.Instruction.{bx_of}
use Rattle.machine_core.specs.World.{Wait}
use Rattle.machine_core.specs.Text.{Text, own, open_cell, quick, read_upvalue, write_upvalue, make_function, fill_table, operate, closable}
use Rattle.machine_core.specs.InstructionRows.{row_of, rest, opens, upvalues_of_inner}
use Rattle.machine_core.specs.RowFits.{MakesNone, AreOpened, OpensFirst}
use Rattle.machine_core.proofs.RowsPlain.{IsPlain, rest_plain, row_plain}

-- what a text opens is opened from then on
abbrev opened_by : List UpDesc → List ℕ → List ℕ
opened_by [] opened = opened
opened_by (u ∷ us) opened = cond u.in_stack (opened_by us (u.index ∷ opened)) (opened_by us opened)

abbrev Has : List ℕ → ℕ → Type 0
Has opened r = list_any (nat_eq r) opened ≡ true

still_opened : (us : List UpDesc) (opened : List ℕ) (r : ℕ) → Has opened r → Has (opened_by us opened) r
still_opened [] opened r h = h
still_opened (u ∷ us) opened r h = by u.in_stack (still_opened us (u.index ∷ opened) r more) (still_opened us opened r h)
  where
    more : Has (u.index ∷ opened) r
    more = rw h (or-true (nat_eq r u.index))

    by : (b : Bool) → Has (opened_by us (u.index ∷ opened)) r → Has (opened_by us opened) r → Has (cond b (opened_by us (u.index ∷ opened)) (opened_by us opened)) r
    by true f g = f
    by false f g = g

are_opened : (us : List UpDesc) (opened : List ℕ) → AreOpened (opened_by us opened) us
are_opened [] opened = tt
are_opened (u ∷ us) opened = by u.in_stack (are_opened us (u.index ∷ opened)) (are_opened us opened)
  where
    here : Has (u.index ∷ opened) u.index
    here = ⊎_elim (λ s. rw s.0 refl) (λ s. absurd (s.1 refl)) (eqb_tells u.index u.index)

    by : (b : Bool) → AreOpened (opened_by us (u.index ∷ opened)) us → AreOpened (opened_by us opened) us
        → (b ≡ true → Has (cond b (opened_by us (u.index ∷ opened)) (opened_by us opened)) u.index) × AreOpened (cond b (opened_by us (u.index ∷ opened)) (opened_by us opened)) us
    by true f g = (λ e. still_opened us (u.index ∷ opened) u.index here, f)
    by false f g = (λ e. absurd (cc), g)

opens_first : (p : Prototype) (us : List UpDesc) (opened : List ℕ) (t : Text) → OpensFirst p (opened_by us opened) t → OpensFirst p opened (opens us t)
opens_first p [] opened t h = h
opens_first p (u ∷ us) opened t h = by u.in_stack h (opens_first p us (u.index ∷ opened) t) (opens_first p us opened t)
  where
    by : (b : Bool) → OpensFirst p (cond b (opened_by us (u.index ∷ opened)) (opened_by us opened)) t
        → (OpensFirst p (opened_by us (u.index ∷ opened)) t → OpensFirst p (u.index ∷ opened) (opens us t)) → (OpensFirst p (opened_by us opened) t → OpensFirst p opened (opens us t))
        → OpensFirst p opened (cond b (open_cell u.index (opens us t)) (opens us t))
    by true h f g = f h
    by false h f g = g h

-- a text that makes no function
none_first : (p : Prototype) (opened : List ℕ) (t : Text) → MakesNone t → OpensFirst p opened t
none_first p opened (open_cell r t) h = none_first p (r ∷ opened) t h
none_first p opened (quick (read_upvalue u) k) h = h
none_first p opened (quick (write_upvalue u x) k) h = h
none_first p opened (quick (make_function n) k) h = absurd h
none_first p opened (quick (fill_table t last slot) k) h = h
none_first p opened _ h = h

plain_none : (p : Prototype) (pc : ℕ) (op : Opcode) (w : Instruction) (t : Text) → IsPlain p pc op w t → MakesNone t
plain_none p pc op w (own m k) h = λ n s. plain_none p pc op w (k n s) (h n s)
plain_none p pc op w (open_cell r t) h = plain_none p pc op w t h
plain_none p pc op w (quick (make_function n) k) h = h
plain_none p pc op w (quick q k) h = λ n. plain_none p pc op w (k n) (h n)
plain_none p pc op w (operate operation xs wait prepared t) h = plain_none p pc op w t h.1
plain_none p pc op w (closable v name t) h = plain_none p pc op w t h
plain_none p pc op w _ h = tt

-- what is left of an instruction by a wait makes no function
pub rest_none : {V : Type 0} (wait : Wait V) (p : Prototype) (pc : ℕ) (op : Opcode) (w : Instruction) → MakesNone (rest wait p pc op w)
rest_none wait p pc op w = plain_none p pc op w (rest wait p pc op w) (rest_plain wait p pc op w)

pub row_opens : (p : Prototype) (pc : ℕ) (op : Opcode) (w : Instruction) → OpensFirst p [] (row_of p pc op w)
row_opens p pc Closure w = opens_first p (upvalues_of_inner p (bx_of w)) [] _ (are_opened (upvalues_of_inner p (bx_of w)) [], λ m _ _. tt)
row_opens p pc op w = none_first p [] (row_of p pc op w) (plain_none p pc op w (row_of p pc op w) (row_plain p pc op w))
