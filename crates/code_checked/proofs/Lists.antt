-- The seam behind a list of expressions, and the field by which it is taken.
use Rattle.std.proofs.Common.{◌≡◌, ℕ, zero, suc, ◌+◌, ◌-◌, ◌<◌, ◌≤◌, ◌^◌, lit<, Bool, true, false, cond, Some, None, refl, subst, arith}
use Rattle.tree_core.specs.Tree.{Exp, Exps, EndExps, MoreExps}
use Rattle.code_core.specs.declared.opcode.Opcode.TheVariants.{LoadNil}
use Rattle.code_core.specs.Prototype.{Prototype}
use Rattle.code_of.specs.Expressions.{Wanted, is_open, ends_open, nils_code}
use Rattle.code_checked.proofs.Pieces.{Seam, closed, listed, Piece, nothing}
use Rattle.code_checked.proofs.Words.{simple, simple_load_nil}
use Rattle.code_checked.proofs.Calls.{TakesField, GivesField}

-- behind a call or `...` whose field is c
abbrev pub list_at : (c t : ℕ) → Seam
list_at zero t = listed t
list_at (suc c) t = closed

abbrev pub mark_of : Exp → (c t : ℕ) → Seam
mark_of e c t = cond (is_open e) (list_at c t) closed

-- behind a list of which all values are wanted
abbrev pub open_mark : Exps → (t : ℕ) → Seam
open_mark EndExps t = closed
open_mark (MoreExps e EndExps) t = cond (is_open e) (listed t) closed
open_mark (MoreExps e (MoreExps d es)) t = open_mark (MoreExps d es) (t + 1)

pub gives_at : (c t : ℕ) → GivesField (list_at c t) t c
gives_at zero t = (refl, refl)
gives_at (suc c) t = omega arith

pub same_either : (b : Bool) (m : Seam) → cond b m m ≡ m
same_either true m = refl
same_either false m = refl

pub list_at_some : (n t : ℕ) → list_at (n + 1) t ≡ closed
list_at_some n t = let e : suc n ≡ n + 1 = omega arith in subst (λ c. list_at c t ≡ closed) e refl

pub takes_list_field : (es : Exps) (n t u : ℕ) → 0 < n → t ≤ u → TakesField (open_mark es u) t (cond (ends_open es) 0 n)
takes_list_field EndExps n t u h le = h
takes_list_field (MoreExps e EndExps) n t u h le = by (is_open e)
  where
    by : (b : Bool) → TakesField (cond b (listed u) closed) t (cond b 0 n)
    by true = (refl, le)
    by false = h
takes_list_field (MoreExps e (MoreExps d es)) n t u h le = takes_list_field (MoreExps d es) n t (u + 1) h (omega (arith, le))

pub field_below : (b : Bool) (n : ℕ) → n < 2 ^ 8 → cond b 0 n < 2 ^ 8
field_below true n h = lit< tt
field_below false n h = h

-- so many values from register t on have registers
abbrev pub HaveRoom : (n t : ℕ) → Type 0
HaveRoom zero t = Unit {0}
HaveRoom (suc n) t = t + n + 2 < 2 ^ 8

abbrev pub WantedFits : Wanted → (t : ℕ) → Type 0
WantedFits None t = Unit {0}
WantedFits (Some n) t = HaveRoom n t

pub room_next : (n t : ℕ) → HaveRoom n t → HaveRoom (n - 1) (t + 1)
room_next zero t h = tt
room_next (suc zero) t h = tt
room_next (suc (suc n)) t h =
    let e : suc n ≡ suc (suc n) - 1 = omega arith in
    let f : t + 1 + n + 2 < 2 ^ 8 = omega (arith, h) in
    subst (λ m. HaveRoom m (t + 1)) e f

pub room_field : (n t : ℕ) → HaveRoom n t → n + 1 < 2 ^ 8
room_field zero t h = lit< tt
room_field (suc n) t h = omega (arith, h)

module _ (p : Prototype) where
  pub nils_piece : {H : Type 0} {pc : ℕ} (n t line : ℕ) → HaveRoom n t → Piece p H closed closed pc (nils_code (Some n) t line)
  nils_piece zero t line h = nothing p
  nils_piece (suc n) t line h = simple p LoadNil (simple_load_nil p) t n 0 line (omega (arith, h)) (omega (arith, h)) (lit< tt)
