-- Cells that are opened one after another, and what a function needs that is made of the code that captures them.
use Rattle.std.proofs.Common.{◌≡◌, ℕ, zero, suc, ◌+◌, ◌≤◌, ◌<◌, List, [], ◌∷◌, ◌++◌, length, drop, Option, Some, None, refl, ap, sym, subst, ◌∙◌, Bool, true, false, arith}
use Rattle.std.specs.Prelude.{IsSome, cond, nat_lt, slice_get}
use Rattle.code_core.specs.declared.proto.UpDesc.{UpDesc}
use Rattle.code_core.specs.Prototype.{Prototype, list_of}
use Rattle.code_core.specs.Check.{IsChecked}
use Rattle.int_core.specs.Limits.{greatest_depth}
use Rattle.int_core.specs.Value.{bind}
use Rattle.machine_core.specs.World.{World, Place, place_of, find_open}
use Rattle.machine_core.specs.Text.{make_function, Text, open_cell, quick}
use Rattle.machine_core.specs.InstructionRows.{opens, upvalues_of_inner}
use Rattle.machine_core.specs.FrameRows.{expand}
use Rattle.machine_core.specs.Moves.{Made, made, move, open_register, opened_cells, outside, do_outside, captured, made_function, Row, act, Outcome, trapped, run}
use Rattle.machine_sound.proofs.Lists.{bind_at, some_is}
use Rattle.table_core.specs.declared.value.ProtoId.{ProtoId}
use Rattle.lua_heap.specs.declared.world.World.{World as Memory}
use Rattle.lua_heap.specs.Codes.{functions, code_or_none, no_code, prototype_at}
use Rattle.lua_heap.specs.Cells.{CellsAreListed}
use Rattle.lua_heap.specs.Plain.{plain}
use Rattle.move_laws.specs.Memory.{IsSafe, Makes}
use Rattle.move_laws.proofs.Rows.{act_is}
use Rattle.machine_moves.specs.Moves.{CanOpen}
use Rattle.machine_objects.specs.Objects.{CanMake, IsInner, cells_for}
use Rattle.machine_objects.specs.Opening.{MayOpen, Opens, upvalues_at}

-- one move

abbrev in_cells : World → Place → ℕ → World
in_cells V p r = record V { cells = opened_cells (find_open p.stack.coroutine p.number r V.cells) p.stack.coroutine p.number r V.cells }

open_is : (W : Memory) (r : ℕ) (p : Place) (b : Bool) → place_of (plain W 0) ≡ Some p → nat_lt r (length p.top.own.registers) ≡ b
    → move (open_register r) [] (plain W 0) ≡ cond b (made (in_cells (plain W 0) p r) [] tt) None
open_is W r p b e q =
    bind_at (λ p. cond (nat_lt r (length p.top.own.registers)) (made (in_cells (plain W 0) p r) [] tt) None) (place_of (plain W 0)) p e
    ∙ ap (λ b. cond b (made (in_cells (plain W 0) p r) [] tt) None) q

may_open_register : (W : Memory) (r : ℕ) (k : Row) (p : Place) → place_of (plain W 0) ≡ Some p → length p.stack.frames ≤ greatest_depth → IsSafe (act (open_register r) (λ _ _. k)) [] W → CanOpen W r
may_open_register W r k p e d s = by (nat_lt r (length p.top.own.registers)) refl
  where
    by : (b : Bool) → nat_lt r (length p.top.own.registers) ≡ b → CanOpen W r
    by true q = record { place = p; is = e; there = q; depth = d }
    by false q = absurd (s.never 0 (ap (λ o. elim o as (λ _. Outcome) [ None ↦ trapped | Some d ↦ run k ([] ++ d.values) d.world ]) (open_is W r p false e q)))

abbrev place_made : Option (Made (Unit {0})) → Option Place
place_made None = None
place_made (Some d) = place_of d.world

place_open : (old new : Memory) (r : ℕ) (p : Place) → place_of (plain old 0) ≡ Some p → CanOpen old r → Makes old new (open_register r) [] [] tt → place_of (plain new 0) ≡ Some p
place_open old new r p e o m =
    let q : made (in_cells (plain old 0) o.place r) [] tt ≡ made (plain new 0) [] tt = sym (open_is old r o.place true o.is o.there) ∙ m.is 0 in
    sym (ap place_made q) ∙ e

-- an upvalue

abbrev opens_if : UpDesc → Text → Bool → Text
opens_if u t b = cond b (open_cell u.index t) t

pub can_open : (W : Memory) (u : UpDesc) (rest : List UpDesc) → MayOpen W (u ∷ rest) → u.in_stack ≡ true → CanOpen W u.index
can_open W u rest m e =
    may_open_register W u.index (expand (opens rest m.more)) m.place m.is m.depth (subst (λ b. IsSafe (expand (opens_if u (opens rest m.more) b)) [] W) e m.safe)

pub opens_outer : (W : Memory) (u : UpDesc) (rest : List UpDesc) → u.in_stack ≡ false → Opens W W (u ∷ rest) rest
opens_outer W u rest e = record {
  goes = λ more fuel. ap (λ b. run (expand (opens_if u (opens rest more) b)) [] (plain W fuel)) e;
  stays = λ p q. q;
}

pub opens_own : (old new : Memory) (u : UpDesc) (rest : List UpDesc) → u.in_stack ≡ true → CanOpen old u.index → Makes old new (open_register u.index) [] [] tt → Opens old new (u ∷ rest) rest
opens_own old new u rest e o m = record {
  goes = λ more fuel.
      ap (λ b. run (expand (opens_if u (opens rest more) b)) [] (plain old fuel)) e
      ∙ act_is (open_register u.index) (λ _ _. expand (opens rest more)) [] (plain old fuel) (plain new fuel) [] tt (m.is fuel);
  stays = λ p q. place_open old new u.index p q o m;
}

-- one after another

pub opens_none : (W : Memory) (us : List UpDesc) → Opens W W us us
opens_none W us = record { goes = λ more fuel. refl; stays = λ p e. e }

pub opens_then : {old mid new : Memory} {us left rest : List UpDesc} → Opens old mid us left → Opens mid new left rest → Opens old new us rest
opens_then a b = record { goes = λ more fuel. a.goes more fuel ∙ b.goes more fuel; stays = λ p e. b.stays p (a.stays p e) }

abbrev pub may_go_on : {old mid : Memory} {us left : List UpDesc} → MayOpen old us → Opens old mid us left → MayOpen mid left
may_go_on m a = record {
  place = m.place;
  is = a.stays m.place m.is;
  depth = m.depth;
  more = m.more;
  safe = record { never = λ fuel t. m.safe.never fuel (a.goes m.more fuel ∙ t) };
}

pub split_at : {A : Type 0} (xs : List A) (i : ℕ) (x : A) → slice_get xs i ≡ Some x → drop i xs ≡ x ∷ drop (i + 1) xs
split_at [] i x e = absurd (cc)
split_at (y ∷ xs) zero x e = ap (λ y. y ∷ xs) (some_is {o = Some y} refl e)
split_at (y ∷ xs) (suc i) x e = split_at xs i x e ∙ (let k : i + 1 ≡ suc i = omega arith in let l : suc i + 1 ≡ suc (suc i) = omega arith in ap (λ n. x ∷ drop n xs) k ∙ sym (ap (λ n. x ∷ drop n (y ∷ xs)) l))

-- the function

abbrev pub makes_then : ℕ → (ℕ → Bool → Row) → Row
makes_then inner k = act (outside (make_function inner)) k

no_make : (W : Memory) (inner : ℕ) (k : ℕ → Bool → Row) → IsSafe (makes_then inner k) [] W → move (outside (make_function inner)) [] (plain W 0) ≡ None → ⊥
no_make W inner k s e = s.never 0 (ap (λ o. elim o as (λ _. Outcome) [ None ↦ trapped | Some d ↦ run (k 0 d.told) ([] ++ d.values) d.world ]) e)

abbrev makes_of : Memory → Place → Prototype → Option (Made Bool)
makes_of W p q = bind (cells_for W p q.own.upvalues) (λ cells. made_function (plain W 0) p q cells)

make_is : (W : Memory) (inner : ℕ) (p : Place) (o : Option Prototype) → place_of (plain W 0) ≡ Some p → slice_get (list_of p.function.code.inner) inner ≡ o
    → move (outside (make_function inner)) [] (plain W 0) ≡ bind o (makes_of W p)
make_is W inner p o e q =
    bind_at (do_outside (make_function inner) [] (plain W 0)) (place_of (plain W 0)) p e
    ∙ ap (λ o. bind o (makes_of W p)) q

pub can_make : (W : Memory) (inner : ℕ) (k : ℕ → Bool → Row) (p : Place) → place_of (plain W 0) ≡ Some p → IsChecked p.function.code → IsSafe (makes_then inner k) [] W → CanMake W inner
can_make W inner k p e c s = by (slice_get (list_of p.function.code.inner) inner) refl
  where
    within : (q : Prototype) → slice_get (list_of p.function.code.inner) inner ≡ Some q → (o : Option (List ℕ)) → cells_for W p q.own.upvalues ≡ o → CanMake W inner
    within q f (Some cells) g = record { place = p; is = e; checked = c; code = q; there = f; cells = cells; captured = g }
    within q f None g = absurd (no_make W inner k s (make_is W inner p (Some q) e f ∙ ap (λ o. bind o (λ cells. made_function (plain W 0) p q cells)) g))

    by : (o : Option Prototype) → slice_get (list_of p.function.code.inner) inner ≡ o → CanMake W inner
    by (Some q) f = within q f (cells_for W p q.own.upvalues) refl
    by None f = absurd (no_make W inner k s (make_is W inner p None e f))

-- the inner prototype is there where a safe row makes a function of it
abbrev pub closes_over : Prototype → ℕ → (ℕ → Text) → Text
closes_over p inner k = opens (upvalues_of_inner p inner) (quick (make_function inner) k)

abbrev upvalues_in : Option Prototype → List UpDesc
upvalues_in o = elim o [ None ↦ [] | Some q ↦ q.own.upvalues ]

pub has_inner : (W : Memory) (inner : ℕ) (k : ℕ → Text) (p : Place) → place_of (plain W 0) ≡ Some p → IsSafe (expand (closes_over p.function.code inner k)) [] W → IsSome (slice_get (list_of p.function.code.inner) inner)
has_inner W inner k p e s = by (slice_get (list_of p.function.code.inner) inner) refl
  where
    by : (o : Option Prototype) → slice_get (list_of p.function.code.inner) inner ≡ o → IsSome o
    by (Some q) f = refl
    by None f =
        let t : IsSafe (makes_then inner (λ n _. expand (k n))) [] W = subst (λ o. IsSafe (expand (opens (upvalues_in o) (quick (make_function inner) k))) [] W) f s in
        absurd (no_make W inner (λ n _. expand (k n)) t (make_is W inner p None e f))

-- what is kept of it says where a function of it finds its upvalues
none_kept : no_code.own.upvalues ≡ []
unfolding no_code
none_kept = refl

abbrev upvalues_or_none : Option Prototype → List UpDesc
upvalues_or_none o = (code_or_none o).own.upvalues

kept_as : (a b : Option Prototype) → a ≡ b → upvalues_or_none a ≡ upvalues_in b
kept_as a None q = ap upvalues_or_none q ∙ none_kept
kept_as a (Some x) q = ap upvalues_or_none q

inner_is : (W : Memory) (inner : ℕ) (id : ProtoId) (p : Place) → place_of (plain W 0) ≡ Some p → IsInner W inner id → slice_get (functions W.codes) id.0 ≡ slice_get (list_of p.function.code.inner) inner
inner_is W inner id p e i = i.same ∙ ap (λ (p : Place). slice_get (list_of p.function.code.inner) inner) (some_is i.is e)

pub upvalues_kept : (W : Memory) (inner : ℕ) (id : ProtoId) (p : Place) → place_of (plain W 0) ≡ Some p → IsInner W inner id → upvalues_at W id ≡ upvalues_of_inner p.function.code inner
upvalues_kept W inner id p e i = kept_as (slice_get (functions W.codes) id.0) (slice_get (list_of p.function.code.inner) inner) (inner_is W inner id p e i)

there_within : (ps : List Prototype) (n : ℕ) → IsSome (slice_get ps n) → n < length ps
there_within [] n s = absurd (cc)
there_within (p ∷ ps) zero s = omega arith
there_within (p ∷ ps) (suc n) s = let l = there_within ps n s in omega (arith, l)

pub inner_within : (W : Memory) (inner : ℕ) (id : ProtoId) (p : Place) → place_of (plain W 0) ≡ Some p → IsInner W inner id → IsSome (slice_get (list_of p.function.code.inner) inner) → id.0 < length (functions W.codes)
inner_within W inner id p e i s = there_within (functions W.codes) id.0 (subst IsSome (sym (inner_is W inner id p e i)) s)

-- a part of the upvalues of a function that captures
pub record OpenSoFar (old now : Memory) (code : ProtoId) (at : ℕ) : Type 0 where
  pub opens : Opens old now (upvalues_at old code) (drop at (upvalues_at old code))
  pub listed : CellsAreListed now
  pub rest : now ≡ record old { cells = now.cells; coros = now.coros }

pub none_so_far : (W : Memory) (code : ProtoId) → CellsAreListed W → OpenSoFar W W code 0
none_so_far W code l = record { opens = opens_none W (upvalues_at W code); listed = l; rest = refl }

codes_kept : (old now : Memory) → now ≡ record old { cells = now.cells; coros = now.coros } → now.codes ≡ old.codes
codes_kept old now r = ap (λ (W : Memory). W.codes) r

pub upvalues_same : (old now : Memory) (code : ProtoId) → now ≡ record old { cells = now.cells; coros = now.coros } → upvalues_at now code ≡ upvalues_at old code
upvalues_same old now code r = ap (λ codes. (prototype_at (functions codes) code.0).own.upvalues) (codes_kept old now r)

abbrev with_cells : Memory → Memory → Memory
with_cells old new = record old { cells = new.cells; coros = new.coros }

pub rest_then : (old mid new : Memory) → mid ≡ record old { cells = mid.cells; coros = mid.coros } → new ≡ record mid { cells = new.cells; coros = new.coros }
    → new ≡ record old { cells = new.cells; coros = new.coros }
rest_then old mid new a b = b ∙ ap (λ W. with_cells W new) a

pub one_more : {old mid new : Memory} {code : ProtoId} {at : ℕ} → OpenSoFar old mid code at → Opens mid new (drop at (upvalues_at mid code)) (drop (at + 1) (upvalues_at mid code)) → CellsAreListed new
    → new ≡ record mid { cells = new.cells; coros = new.coros } → OpenSoFar old new code (at + 1)
one_more {old} {mid} {new} {code} {at} a o l r = record {
  opens = opens_then a.opens (subst (λ us. Opens mid new (drop at us) (drop (at + 1) us)) (upvalues_same old mid code a.rest) o);
  listed = l;
  rest = rest_then old mid new a.rest r;
}
